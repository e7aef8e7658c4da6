-- What calls decide can be made: those on jobs and times, on consoles and on files.
use Rattle.std.specs.Prelude.{if◌then◌else◌, ◌||◌, ◌&&◌, ◌==◌, ◌≡◌, ◌<◌, ℕ, ◌+◌, ◌-◌, Bool, true, false, not, Option, Some, None, IfSome, is_some, List, [], option_map, ◌∷◌, ◌++◌, length, unwrap_or, Result, Ok, Err, nat_lt, refl}
use Rattle.std.proofs.Common.{sym, ◌∙◌, ap, subst, arith}
use Rattle.std.proofs.lemmas.Bool.{ltb-true}
use Rattle.its_records.proofs.FreeLaws.{least_below}
use Rattle.its_word.specs.Byte.{load_of}
use Rattle.its_word.specs.Console.{most_waiting}
use Rattle.its_word.specs.Limits.{slots}
use Rattle.its_records.specs.Links.{most_links, most_link_words}
use Rattle.its_records.specs.Tree.{least_free}
use Rattle.its_word.specs.Word.{right_of}
use Rattle.its_word.specs.declared.access.Fault.{Fault}
use Rattle.its_records.specs.declared.calls.Ask.{Ask}
use Rattle.its_records.specs.declared.calls.Exit.{Exit}
use Rattle.its_frame.specs.declared.change.Change.{Change}
use Rattle.its_frame.specs.declared.change.Change.TheVariants as changes
use Rattle.its_frame.specs.declared.change.Opened.{Opened}
use Rattle.its_frame.specs.declared.change.Opened.TheVariants as opened
use Rattle.its_frame.specs.declared.decision.Decision.{Decision}
use Rattle.its_frame.specs.declared.decision.Decision.TheVariants.{Waits, Goes, Ends, Gone}
use Rattle.its_frame.specs.declared.decision.Wait.TheVariants.{Input, Output, Empty, Room}
use Rattle.its_frame.specs.declared.variable.Variable.{Variable}
use Rattle.its_plain.specs.Call.Arguments.{input, has_input, place_of_input}
use Rattle.its_frame.specs.Variables.{variable_named}
use Rattle.its_plain.specs.Call.Basic.{negated, sleep_tests, sleep, dismissed_by, dismiss_at, dismiss, Party, Oneself, Channel, by_oneself, by_superior, channel_at, is_oneself, party_on, party, set_own, own_variable, set_other, value_of_other, other_variable, usrvar_of, usrvar, told_superior, is_negative, longest_period, alarm_of, realt, is_shut, ioc}
use Rattle.its_plain.specs.Call.Tty.{view_console, has_console, is_other, input_waits, output_waits, first_typed, shown_byte, opens_on, open_tests, opens, iot_in, iot_out, siot_in, siot_out, can_take, is_holder, lands, ttylnd_of, ttylnd}
use Rattle.its_plain.specs.Call.Link.{words_in, is_end_closed, is_dry, is_ended, is_crowded, is_unread, link_named, can_open, joins, makes_link, opens_end, link_tests, opens_link, closes_end, iot_receive, iot_linked, siot_receive, siot_send, siot_linked, first_word}
use Rattle.its_plain.specs.Call.Transfer.{store_tests, read_tests, word_of, iot_ends, siot_tests, siot_by, next_pointer}
use Rattle.its_plain.specs.Machine.Change.{channel_in, effect}
use Rattle.its_plain.specs.Unit.Interrupt.{after_dismissal}
use Rattle.its_plain.specs.Machine.{Names, File, Chan, Shut, Reads, Writes, On, Linked, Console, Pipe, Whole, Machine, limit}
use Rattle.its_plain.specs.Machine.Own.{names_of}
use Rattle.its_plain.specs.Call.File.{most_files, channels_by, channels_in, is_full, has_file, is_read, words_of, names_from, is_output, opens_as, disk_tests, opens_disk, closes_draft, iot_read, siot_read, siot_write, access_on, access, file_tests, delete, rename, access_to, end_of_core}
use Rattle.its_plain.specs.Operator.Files.{channels_of}
use Rattle.its_plain.specs.Call.Tests.{◌⇒◌, finishes, fails, goes, out}
use Rattle.its_plain.specs.Machine.View.{View, outline, Outline}
use Rattle.its_stepped.proofs.Duties.CallWays.{Answering}
use Rattle.its_stepped.proofs.Committing.ChannelLaws.{named_link}
use Rattle.its_stepped.proofs.Committing.TestLaws.{by_test, first_holds}
use Rattle.its_shared.specs.Can.{HasJob, chan_in, Unread, HasRoom, CanClose, CanOpen, CanMake, CanMakeAll}

-- what changes ask beside the machine: those of files and drafts; a page that is made; and a job
-- that is removed
pub record Beside : Type 1 where
  pub files : Type 0
  pub page : Type 0
  pub tree : ℕ → Type 0

abbrev pub Needs : Beside → Change → Type 0
Needs v (changes.Open n (opened.Reading d x y)) = v.files
Needs v (changes.Open n (opened.Writing d x y)) = v.files
Needs v (changes.Append n w) = v.files
Needs v (changes.Close n) = v.files
Needs v (changes.Delete d x y) = v.files
Needs v (changes.Rename d x y z w) = v.files
Needs v (changes.Map s k) = v.page
Needs v (changes.Remove s) = v.tree s
Needs v _ = Unit {0}

-- some changes can be made, one after another; one that asks anything beside the machine is the
-- only one
abbrev pub nothing : Beside
nothing = record { files = ⊥; page = ⊥; tree = λ s. ⊥ }

abbrev pub CanAll : Beside → List Change → ℕ → Machine → Type 0
CanAll v [] j m = Unit {0}
CanAll v (c ∷ []) j m = CanMake c j m × Needs v c
CanAll v (c ∷ d ∷ cs) j m = (CanMake c j m × Needs nothing c) × CanAll nothing (d ∷ cs) j (effect c j m)

pub all_can : (v : Beside) (cs : List Change) (j : ℕ) (m : Machine) → CanAll v cs j m → CanMakeAll cs j m
all_can v [] j m h = tt
all_can v (c ∷ []) j m h = (h.0, tt)
all_can v (c ∷ d ∷ cs) j m h = (h.0.0, all_can nothing (d ∷ cs) j (effect c j m) h.1)

-- the changes of a decision of slot j's call can be made
abbrev pub DecisionCan : Beside → Decision → ℕ → Machine → Type 0
DecisionCan v (Waits r) j m = Unit {0}
DecisionCan v (Goes cs h vs) j m = CanAll v cs.items j m
DecisionCan v (Ends cs ss e) j m = CanAll v cs.items j m
DecisionCan v (Gone cs) j m = CanAll nothing cs.items j (effect (changes.Remove j) j m)

-- what tests say of numbers: a channel that there is, and one that is open; a console, and one with
-- room
not_false : (b : Bool) → not b ≡ false → b ≡ true
not_false true h = refl
not_false false h = cc

and_first : (b c : Bool) → not (b && c) ≡ false → b ≡ true
and_first true c h = refl
and_first false c h = cc

or_first : (b c : Bool) → (b || c) ≡ false → b ≡ false
or_first true c h = cc
or_first false c h = refl

abbrev pub IsOpen : Chan → Type 0
IsOpen Shut = ⊥
IsOpen _ = Unit {0}

number_by : (b : Bool) (c : Chan) → IsOpen (if b then c else Shut) → b ≡ true
number_by true c h = refl
number_by false c h = absurd h

pub open_number : (channels : ℕ → Chan) (n : ℕ) (c : Chan) → channel_at channels n ≡ c → IsOpen c → n < 16
open_number channels n c e h = ltb-true n 16 (number_by (nat_lt n 16) (channels n) (subst IsOpen (sym e) h))

opened_can : (b : Bool) (m : Machine) → CanOpen (if b then opened.TtyOut else opened.TtyIn) m
opened_can true m = tt
opened_can false m = tt

opened_needs : (b : Bool) (v : Beside) (n : ℕ) → Needs v (changes.Open n (if b then opened.TtyOut else opened.TtyIn))
opened_needs true v n = tt
opened_needs false v n = tt

-- the view of the call of slot j's job in which its consoles, files, outlines and links are those
-- of a machine, and its job's console is one of eight, its superior has a slot that there is, and
-- its channels are on links that exist
pub record Sees (x : View) (m : Machine) (j : ℕ) : Type 0 where
  pub consoles : x.consoles ≡ m.consoles
  pub own : IfSome x.own.job.console (λ c. c < 8)
  pub job : m.jobs j ≡ Some x.own
  pub files : x.files ≡ m.files
  pub outlines : x.outlines ≡ (λ k. option_map outline (m.jobs k))
  pub limit : x.limit ≡ limit m
  pub superior : IfSome x.own.superior (λ s. s < slots)
  pub links : x.links ≡ m.links
  pub linked : (n l : ℕ) (write : Bool) → chan_in m j n ≡ Linked l write → (l < most_links) × (is_some (m.links l) ≡ true)

-- the channels that a call sees are those of the machine
channels_seen_by : (o : Option Whole) → channels_by (option_map outline o) ≡ channel_in o
channels_seen_by (Some q) = refl
channels_seen_by None = refl

channels_seen : (x : View) (m : Machine) (j : ℕ) → Sees x m j → channels_in x ≡ channels_of m
channels_seen x m j s = λ t k. (ap (λ (o : ℕ → Option Outline). channels_by (o k)) s.outlines ∙ channels_seen_by (m.jobs k)) t

pub has_job : (x : View) (m : Machine) (j : ℕ) → Sees x m j → HasJob m j
has_job x m j s = ap is_some s.job

-- what a channel of a number that there is is on
number_is : (b : Bool) (c d : Chan) → b ≡ true → (if b then c else Shut) ≡ d → c ≡ d
number_is true c d h e = e
number_is false c d h e = absurd cc

chan_is : (x : View) (m : Machine) (j n : ℕ) (c : Chan) → Sees x m j → nat_lt n 16 ≡ true → channel_at x.own.channels n ≡ c → chan_in m j n ≡ c
chan_is x m j n c s l e = ap (λ (o : Option Whole). channel_in o n) s.job ∙ number_is (nat_lt n 16) (x.own.channels n) c l e

shut_is : (c : Chan) → is_shut c ≡ true → c ≡ Shut
shut_is Shut h = refl
shut_is _ h = absurd cc

and_second : (b c : Bool) → not (b && c) ≡ false → c ≡ true
and_second true c h = not_false c h
and_second false c h = absurd cc

open_true : (channels : ℕ → Chan) (n : ℕ) (c : Chan) → channel_at channels n ≡ c → IsOpen c → nat_lt n 16 ≡ true
open_true channels n c e h = number_by (nat_lt n 16) (channels n) (subst IsOpen (sym e) h)

below_eight : (o : Option ℕ) → IfSome o (λ c. c < 8) → unwrap_or o 0 < 8
below_eight (Some c) h = h
below_eight None h = omega arith

pub console_below : (x : View) (m : Machine) (j : ℕ) → Sees x m j → view_console x < 8
console_below x m j s = below_eight x.own.job.console s.own

has_room : (x : View) (m : Machine) (j i : ℕ) → Sees x m j → output_waits x i ≡ false → length (m.consoles i).output < most_waiting
has_room x m j i s h =
    subst (λ (consoles : ℕ → Console). length (consoles i).output < most_waiting) s.consoles
    (ltb-true (length (x.consoles i).output) most_waiting
    (not_false (nat_lt (length (x.consoles i).output) most_waiting)
    (or_first (not (nat_lt (length (x.consoles i).output) most_waiting)) (is_other x.slot (x.holders i)) h)))

-- whatever a call decides, its changes can be made
abbrev pub Can : Beside → ℕ → Machine → Decision → Type 0
Can v j m d = DecisionCan v d j m

pub sleep_can : (v : Beside) (j : ℕ) (m : Machine) (x : View) (a : Ask) → Can v j m (sleep x a)
unfolding sleep
sleep_can v j m x a =
    first_holds (Can v j m) (sleep_tests x a (input a 0) (place_of_input a 0)) (goes [] None (negated (x.clock + input a 0) ∷ []))
    (λ t. tt, (λ t. tt, (λ t. tt, (λ t. tt, (λ t. tt, (λ t. tt, tt)))))) (λ t. tt)

pub realt_can : (v : Beside) (j : ℕ) (m : Machine) (x : View) (a : Ask) → Can v j m (realt x a)
unfolding realt
realt_can v j m x a =
    first_holds (Can v j m) ((is_negative (input a 0) || nat_lt longest_period (input a 0)) ⇒ fails x a 0o22 ∷ [])
    (finishes x (changes.Arm (alarm_of x.clock (input a 0)) ∷ []) [])
    (λ t. tt, tt) (λ t. (tt, tt))

dismissed_can : (v : Beside) (j : ℕ) (m : Machine) (x : View) (p w : ℕ) (r : Result Exit Fault) → Can v j m (dismissed_by x p w r)
dismissed_can v j m x p w (Ok e) = tt
dismissed_can v j m x p w (Err f) = tt

pub dismiss_can : (v : Beside) (j : ℕ) (m : Machine) (x : View) (a : Ask) → Can v j m (dismiss x a)
unfolding dismiss
dismiss_can v j m x a = go (place_of_input a 0)
  where
    go : (o : Option ℕ) → Can v j m (dismiss_at x a o)
    go (Some p) = dismissed_can v j m x p (input a 0) (after_dismissal x.own.core x.own.job p)
    go None = tt

-- USRVAR
own_can : (v : Beside) (j : ℕ) (m : Machine) (x : View) (a : Ask) (y : Variable) (b : Bool) → Can v j m (set_own x a y b)
own_can v j m x a y true = tt
own_can v j m x a y false = tt

own_variable_can : (v : Beside) (j : ℕ) (m : Machine) (x : View) (a : Ask) (o : Option Variable) → Can v j m (own_variable x a o)
own_variable_can v j m x a None = tt
own_variable_can v j m x a (Some y) =
    by_test (Can v j m) (has_input a 2 && not (by_oneself y)) (fails x a 0o22) (set_own x a y (has_input a 2)) (λ t. tt)
    (λ t. own_can v j m x a y (has_input a 2))

set_can : (v : Beside) (j : ℕ) (m : Machine) (k : ℕ) (y : Variable) (w : ℕ) (b : Bool) → k < slots → CanAll v (set_other k y w b) j m
set_can v j m k y w true l = (l, tt)
set_can v j m k y w false l = tt

other_variable_can : (v : Beside) (j : ℕ) (m : Machine) (x : View) (a : Ask) (k : ℕ) (write : Bool) (o : Option Variable) → k < slots
    → Can v j m (other_variable x a k write o)
other_variable_can v j m x a k write None l = tt
other_variable_can v j m x a k write (Some y) l =
    first_holds (Can v j m)
    (((has_input a 2 && not write) ⇒ fails x a 0o5) ∷ ((has_input a 2 && not (by_superior y)) ⇒ fails x a 0o22) ∷ [])
    (finishes x (set_other k y (input a 2) (has_input a 2)) (out a.outputs.items (value_of_other k y x.other)))
    (λ t. tt, (λ t. tt, tt)) (λ t. set_can v j m k y (input a 2) (has_input a 2) l)

-- that of the job that a channel is on, which has a slot that there is
abbrev pub OnSlot : Chan → Type 0
OnSlot (On k write at) = k < slots
OnSlot _ = Unit {0}

channel_variable_can : (v : Beside) (j : ℕ) (m : Machine) (x : View) (a : Ask) (c : Chan) → OnSlot c → Can v j m (usrvar_of x a (party_on c))
channel_variable_can v j m x a (On k write at) l = other_variable_can v j m x a k write (variable_named (input a 1)) l
channel_variable_can v j m x a _ l = tt

pub usrvar_can : (v : Beside) (j : ℕ) (m : Machine) (x : View) (a : Ask) → OnSlot (channel_at x.own.channels (input a 0)) → Can v j m (usrvar x a)
unfolding usrvar
usrvar_can v j m x a l = go (is_oneself (input a 0))
  where
    go : (b : Bool) → Can v j m (usrvar_of x a (if b then Oneself else party_on (channel_at x.own.channels (input a 0))))
    go true = own_variable_can v j m x a (variable_named (input a 1))
    go false = channel_variable_can v j m x a (channel_at x.own.channels (input a 0)) l

pub told_can : (v : Beside) (j : ℕ) (m : Machine) (o : Option ℕ) → IfSome o (λ s. s < slots) → CanAll v (told_superior o) j m
told_can v j m (Some k) l = (l, tt)
told_can v j m None l = tt

-- OPEN and CLOSE
pub opening : (x : View) (m : Machine) (j n : ℕ) (on : Opened) → Sees x m j
    → not (nat_lt n 16 && is_shut (channel_at x.own.channels n)) ≡ false → CanOpen on m → CanMake (changes.Open n on) j m
opening x m j n on s t can =
    let l : nat_lt n 16 ≡ true = and_first (nat_lt n 16) (is_shut (channel_at x.own.channels n)) t in
    let shut : channel_at x.own.channels n ≡ Shut = shut_is (channel_at x.own.channels n)
    (and_second (nat_lt n 16) (is_shut (channel_at x.own.channels n)) t) in
    (ltb-true n 16 l, has_job x m j s, chan_is x m j n Shut s l shut, can)

pub opens_can : (v : Beside) (j : ℕ) (m : Machine) (x : View) (a : Ask) → Sees x m j → Can v j m (opens x a)
unfolding opens
opens_can v j m x a s =
    let n = input a 0 in
    let control = unwrap_or a.control 0 in
    first_holds (Can v j m) (open_tests x a n (input a 1) control) (finishes x (changes.Open n (opens_on control) ∷ []) [])
    (λ t. tt, (λ t. tt, (λ t. tt, (λ t. tt, tt))))
    (λ t. (opening x m j n (opens_on control) s t.0 (opened_can (control == 1) m), opened_needs (control == 1) v n))

-- `.IOT`
pub iot_in_can : (v : Beside) (j : ℕ) (m : Machine) (x : View) (e i : ℕ) → i < 8 → Can v j m (iot_in x e i)
iot_in_can v j m x e i l =
    first_holds (Can v j m) (store_tests x e ++ (input_waits x i ⇒ Waits (Input i) ∷ []))
    (iot_ends x (changes.Take i ∷ []) (record { at = e; word = first_typed x i } ∷ []))
    (λ t. tt, (λ t. tt, (λ t. tt, tt))) (λ t. (l, tt))

pub iot_out_can : (v : Beside) (j : ℕ) (m : Machine) (x : View) (e i : ℕ) → i < 8 → Sees x m j → Can v j m (iot_out x e i)
iot_out_can v j m x e i l s =
    first_holds (Can v j m) (read_tests x e ++ (output_waits x i ⇒ Waits (Output i) ∷ [])) (iot_ends x (changes.Put i (shown_byte (word_of x e)) ∷ []) [])
    (λ t. tt, (λ t. tt, tt)) (λ t. ((l, has_room x m j i s t.1.0), tt))

-- SIOT
pub siot_in_can : (v : Beside) (j : ℕ) (m : Machine) (x : View) (a : Ask) (next k i : ℕ) → i < 8 → Can v j m (siot_in x a next k i)
siot_in_can v j m x a next k i l =
    first_holds (Can v j m) (store_tests x (right_of next) ++ (input_waits x i ⇒ Waits (Input i) ∷ []))
    (goes (changes.Take i ∷ []) (Some (record { place = right_of next; byte = first_typed x i })) (next ∷ (k - 1) ∷ []))
    (λ t. tt, (λ t. tt, (λ t. tt, tt))) (λ t. (l, tt))

pub siot_out_can : (v : Beside) (j : ℕ) (m : Machine) (x : View) (a : Ask) (next k i : ℕ) → i < 8 → Sees x m j → Can v j m (siot_out x a next k i)
siot_out_can v j m x a next k i l s =
    first_holds (Can v j m) (read_tests x (right_of next) ++ (output_waits x i ⇒ Waits (Output i) ∷ []))
    (goes (changes.Put i (shown_byte (load_of next (word_of x (right_of next)))) ∷ []) None (next ∷ (k - 1) ∷ []))
    (λ t. tt, (λ t. tt, tt)) (λ t. ((l, has_room x m j i s t.1.0), tt))

pub siot_by_can : (v : Beside) (j : ℕ) (m : Machine) (x : View) (a : Ask) (words ended : Bool) (d : Decision)
    → (ended ≡ false → Can v j m d) → Can v j m (siot_by x a words ended d)
siot_by_can v j m x a words ended d h =
    first_holds (Can v j m) (siot_tests x a (input a 1) (input a 2) words ended) d
    (λ t. tt, (λ t. tt, (λ t. tt, (λ t. tt, (λ t. tt, (λ t. tt, (λ t. tt, (λ t. tt, tt)))))))) (λ t. h t.1.1.1.1.1.1.0)

-- TTYLND
lands_can : (v : Beside) (j : ℕ) (m : Machine) (x : View) (a : Ask) (may : Bool) (error k : ℕ) → Sees x m j → Can v j m (lands x a may error k)
lands_can v j m x a may error k s =
    first_holds (Can v j m) (not (has_console x) ⇒ fails x a 0o5 ∷ not may ⇒ fails x a error ∷ []) (finishes x (changes.Hold (view_console x) k ∷ []) [])
    (λ t. tt, (λ t. tt, tt)) (λ t. (console_below x m j s, tt))

pub ttylnd_can : (v : Beside) (j : ℕ) (m : Machine) (x : View) (a : Ask) → Sees x m j → Can v j m (ttylnd x a)
unfolding ttylnd
ttylnd_can v j m x a s = go (party x (input a 0))
  where
    go : (p : Party) → Can v j m (ttylnd_of x a p)
    go Oneself = lands_can v j m x a (can_take x (x.holders (view_console x))) 0o13 x.slot s
    go (Channel (On k write at)) = lands_can v j m x a (is_holder x (x.holders (view_console x))) 0o5 k s
    go _ = tt

-- a call that changes nothing but the word of its output
pub answering_can : (v : Beside) (j : ℕ) (m : Machine) (x : View) (a : Ask) → Answering (Can v j m) x a
answering_can v j m x a = record { failing = λ k. tt; faulting = λ f. tt; finishing = tt; giving = λ w. tt }

-- the calls on files
disk_can : (out : Bool) (m : Machine) (x : View) (d n k : ℕ) → x.files ≡ m.files
    → (not out && not (has_file (names_of d n k) x.files)) ≡ false → CanOpen (opens_as out d n k) m
disk_can true m x d n k e t = tt
disk_can false m x d n k e t = ap (has_file (names_of d n k)) (sym e) ∙ not_false (has_file (names_of d n k) x.files) t

disk_needs : (out : Bool) (v : Beside) (i d n k : ℕ) → v.files → Needs v (changes.Open i (opens_as out d n k))
disk_needs true v i d n k u = u
disk_needs false v i d n k u = u

pub opens_disk_can : (v : Beside) (j : ℕ) (m : Machine) (x : View) (a : Ask) → Sees x m j → v.files → Can v j m (opens_disk x a)
unfolding opens_disk
opens_disk_can v j m x a s u =
    let n = input a 0 in
    let control = unwrap_or a.control 0 in
    let on = opens_as (is_output control) (input a 4) (input a 2) (input a 3) in
    first_holds (Can v j m) (disk_tests x a n control) (finishes x (changes.Open n on ∷ []) []) (λ t. tt, (λ t. tt, (λ t. tt, tt)))
    (λ t. (
      opening x m j n on s t.0 (disk_can (is_output control) m x (input a 4) (input a 2) (input a 3) s.files t.1.1.0),
      disk_needs (is_output control) v n (input a 4) (input a 2) (input a 3) u,
    ))

unread_is : (x : View) (m : Machine) (j : ℕ) (names : Names) → Sees x m j → is_read names (channels_in x) ≡ false → Unread m names
unread_is x m j names s h = ap (is_read names) (sym (channels_seen x m j s)) ∙ h

rooms : (b c : Bool) → (not b && not c) ≡ false → (b || c) ≡ true
rooms true c h = refl
rooms false c h = not_false c h

pub closes_draft_can : (v : Beside) (j : ℕ) (m : Machine) (x : View) (a : Ask) (f : File) → Sees x m j → v.files
    → channel_at x.own.channels (input a 0) ≡ Writes f → Can v j m (closes_draft x a f)
unfolding closes_draft
closes_draft_can v j m x a f s u e =
    let n = input a 0 in
    let l : nat_lt n 16 ≡ true = open_true x.own.channels n (Writes f) e tt in
    let on : chan_in m j n ≡ Writes f = chan_is x m j n (Writes f) s l e in
    first_holds (Can v j m)
    (is_read f.names (channels_in x) ⇒ fails x a 0o11 ∷ (not (has_file f.names x.files) && not (nat_lt (length x.files) most_files)) ⇒ fails x a 0o7 ∷ [])
    (finishes x (changes.Close n ∷ []) []) (λ t. tt, (λ t. tt, tt))
    (λ t.
    let fits : (has_file f.names m.files || nat_lt (length m.files) most_files) ≡ true =
    ap (λ (fs : List File). has_file f.names fs || nat_lt (length fs) most_files) (sym s.files)
    ∙ rooms (has_file f.names x.files) (nat_lt (length x.files) most_files) t.1.0 in
    ((ltb-true n 16 l, subst (CanClose m) (sym on) (unread_is x m j f.names s t.0, fits)), u))

pub roomy : (x : View) (m : Machine) (j n : ℕ) (f : File) → Sees x m j → channel_at x.own.channels n ≡ Writes f
    → is_full x.files (channels_in x) f.words ≡ false
    → (w : ℕ) → CanMake (changes.Append n w) j m
roomy x m j n f s e full w =
    let l : nat_lt n 16 ≡ true = open_true x.own.channels n (Writes f) e tt in
    let on : chan_in m j n ≡ Writes f = chan_is x m j n (Writes f) s l e in
    let channels : channels_in x ≡ channels_of m = channels_seen x m j s in
    let room : is_full m.files (channels_of m) f.words ≡ false = sym (λ i. is_full (s.files i) (channels i) f.words) ∙ full in
    (ltb-true n 16 l, subst (HasRoom m) (sym on) room)

pub iot_read_can : (v : Beside) (j : ℕ) (m : Machine) (x : View) (e n at : ℕ) (o : Option ℕ) → n < 16 → Can v j m (iot_read x e n at o)
iot_read_can v j m x e n at (Some w) l = (l, tt)
iot_read_can v j m x e n at None l = tt

pub siot_read_can : (v : Beside) (j : ℕ) (m : Machine) (x : View) (next k n at w : ℕ) → n < 16 → Can v j m (siot_read x next k n at w)
siot_read_can v j m x next k n at w l =
    first_holds (Can v j m) (store_tests x (right_of next)) (goes (changes.Move n (at + 1) ∷ [])
    (Some (record { place = right_of next; byte = w })) (next ∷ (k - 1) ∷ []))
    (λ t. tt, (λ t. tt, tt)) (λ t. (l, tt))

pub siot_write_can : (v : Beside) (j : ℕ) (m : Machine) (x : View) (a : Ask) (next k n : ℕ) (f : File) → Sees x m j → v.files
    → channel_at x.own.channels n ≡ Writes f
    → Can v j m (siot_write x a next k n f)
siot_write_can v j m x a next k n f s u is =
    first_holds (Can v j m) (read_tests x (right_of next) ++ (is_full x.files (channels_in x) f.words ⇒ fails x a 0o10 ∷ []))
    (goes (changes.Append n (load_of next (word_of x (right_of next))) ∷ []) None (next ∷ (k - 1) ∷ []))
    (λ t. tt, (λ t. tt, tt)) (λ t. (roomy x m j n f s is t.1.0 (load_of next (word_of x (right_of next))), u))

pub access_can : (v : Beside) (j : ℕ) (m : Machine) (x : View) (a : Ask) → Can v j m (access x a)
unfolding access
access_can v j m x a = go (channel_at x.own.channels (input a 0)) refl
  where
    n : ℕ
    n = input a 0

    to : (most : ℕ) → n < 16 → Can v j m (access_to x a most)
    to most l = first_holds (Can v j m) (nat_lt most (input a 1) ⇒ fails x a 0o22 ∷ []) (finishes x (changes.Move n (input a 1) ∷ []) [])
        (λ t. tt, tt) (λ t. (l, tt))

    go : (c : Chan) → channel_at x.own.channels n ≡ c → Can v j m (access_on x a c)
    go (Reads f at) e = to (length (words_of x f)) (open_number x.own.channels n (Reads f at) e tt)
    go (On k write at) e = to end_of_core (open_number x.own.channels n (On k write at) e tt)
    go _ e = tt

file_is : (x : View) (m : Machine) (j : ℕ) (names : Names) → Sees x m j → not (has_file names x.files) ≡ false → has_file names m.files ≡ true
file_is x m j names s h = ap (has_file names) (sym s.files) ∙ not_false (has_file names x.files) h

pub delete_can : (v : Beside) (j : ℕ) (m : Machine) (x : View) (a : Ask) → Sees x m j → v.files → Can v j m (delete x a)
unfolding delete
delete_can v j m x a s u =
    first_holds (Can v j m) (file_tests x a (names_from a 1)) (finishes x (changes.Delete (input a 3) (input a 1) (input a 2) ∷ []) [])
    (λ t. tt, (λ t. tt, (λ t. tt, tt)))
    (λ t. ((file_is x m j (names_from a 1) s t.1.0, unread_is x m j (names_from a 1) s t.1.1.0), u))

pub rename_can : (v : Beside) (j : ℕ) (m : Machine) (x : View) (a : Ask) → Sees x m j → v.files → Can v j m (rename x a)
unfolding rename
rename_can v j m x a s u =
    let fresh = names_of (input a 3) (input a 4) (input a 5) in
    first_holds (Can v j m) (file_tests x a (names_from a 1) ++ (has_file fresh x.files ⇒ fails x a 0o23 ∷ []))
    (finishes x (changes.Rename (input a 3) (input a 1) (input a 2) (input a 4) (input a 5) ∷ []) []) (λ t. tt, (λ t. tt, (λ t. tt, (λ t. tt, tt))))
    (λ t. ((file_is x m j (names_from a 1) s t.1.0, unread_is x m j (names_from a 1) s t.1.1.0, ap (has_file fresh) (sym s.files) ∙ t.1.1.1.0), u))

-- the calls on links: a channel is on a link that exists; the number of one that is opened is below
-- 16
pub on_link : (x : View) (m : Machine) (j n l : ℕ) (write : Bool) → Sees x m j → channel_at x.own.channels n ≡ Linked l write → chan_in m j n ≡ Linked l write
on_link x m j n l write s e = chan_is x m j n (Linked l write) s (open_true x.own.channels n (Linked l write) e tt) e

link_there : (x : View) (m : Machine) (j n l : ℕ) (write : Bool) → Sees x m j → channel_at x.own.channels n ≡ Linked l write
    → (l < most_links) × (is_some (m.links l) ≡ true)
link_there x m j n l write s e = s.linked n l write (on_link x m j n l write s e)

joining : (v : Beside) (x : View) (m : Machine) (j n l : ℕ) (write : Bool) (y z : ℕ) → Sees x m j
    → not (nat_lt n 16 && is_shut (channel_at x.own.channels n)) ≡ false → l < most_links
    → Can v j m (joins x n l write y z)
joining v x m j n l write y z s t few = let o = opening x m j n opened.TtyIn s t tt in ((o.0, few, o.1, o.2), tt)

makes_link_can : (v : Beside) (j : ℕ) (m : Machine) (x : View) (a : Ask) (n : ℕ) (write : Bool) (y z : ℕ) (o : Option ℕ) → Sees x m j
    → not (nat_lt n 16 && is_shut (channel_at x.own.channels n)) ≡ false → least_free most_links x.links ≡ o → Can v j m (makes_link x a n write y z o)
makes_link_can v j m x a n write y z (Some l) s t e = joining v x m j n l write y z s t (least_below most_links x.links l e)
makes_link_can v j m x a n write y z None s t e = tt

opens_end_can : (v : Beside) (j : ℕ) (m : Machine) (x : View) (a : Ask) (n : ℕ) (write : Bool) (y z : ℕ) (o : Option ℕ) → Sees x m j
    → not (nat_lt n 16 && is_shut (channel_at x.own.channels n)) ≡ false → link_named x.links y z ≡ o → Can v j m (opens_end x a n write y z o)
opens_end_can v j m x a n write y z (Some l) s t e =
    first_holds (Can v j m) (not (can_open write (x.links l)) ⇒ fails x a 0o24 ∷ []) (joins x n l write y z) (λ t. tt, tt)
    (λ k. joining v x m j n l write y z s t (named_link x.links y z l e).1)
opens_end_can v j m x a n write y z None s t e = makes_link_can v j m x a n write y z (least_free most_links x.links) s t refl

pub opens_link_can : (v : Beside) (j : ℕ) (m : Machine) (x : View) (a : Ask) → Sees x m j → Can v j m (opens_link x a)
unfolding opens_link
opens_link_can v j m x a s =
    let n = input a 0 in
    let control = unwrap_or a.control 0 in
    let named = link_named x.links (input a 2) (input a 3) in
    first_holds (Can v j m) (link_tests x a n control) (opens_end x a n (control == 1) (input a 2) (input a 3) named) (λ t. tt, (λ t. tt, tt))
    (λ t. opens_end_can v j m x a n (control == 1) (input a 2) (input a 3) named s t.0 refl)

pub closes_end_can : (v : Beside) (j : ℕ) (m : Machine) (x : View) (a : Ask) (l : ℕ) (write : Bool) → Sees x m j
    → channel_at x.own.channels (input a 0) ≡ Linked l write → Can v j m (closes_end x a l write)
closes_end_can v j m x a l write s e =
    let n = input a 0 in
    ((open_number x.own.channels n (Linked l write) e tt, (link_there x m j n l write s e).0, on_link x m j n l write s e), tt)

-- one that is read and not crowded has room
room_by : (b c : Bool) → (not b && not c) ≡ false → c ≡ false → b ≡ true
room_by b true h e = cc
room_by true false h e = refl
room_by false false h e = cc

sending : (v : Beside) (x : View) (m : Machine) (j n l : ℕ) → Sees x m j → channel_at x.own.channels n ≡ Linked l true
    → is_unread (x.links l) ≡ false → is_crowded (x.links l) ≡ false → (w : ℕ)
    → CanAll v (changes.Send l w ∷ []) j m
sending v x m j n l s e read room w =
    let there = link_there x m j n l true s e in
    let few = room_by (nat_lt (length (words_in (x.links l))) most_link_words) (is_end_closed false (x.links l)) room read in (
      (
        there.0,
        there.1,
        subst (λ (links : ℕ → Option Pipe). length (words_in (links l)) < most_link_words) s.links
            (ltb-true (length (words_in (x.links l))) most_link_words few),
      ),
      tt,
    )

iot_receive_can : (v : Beside) (j : ℕ) (m : Machine) (x : View) (e l : ℕ) (ws : List ℕ) → l < most_links → Can v j m (iot_receive x e l ws)
iot_receive_can v j m x e l (w ∷ ws) few = (few, tt)
iot_receive_can v j m x e l [] few = tt

pub iot_linked_can : (v : Beside) (j : ℕ) (m : Machine) (x : View) (e n l : ℕ) (write : Bool) → Sees x m j
    → channel_at x.own.channels n ≡ Linked l write → Can v j m (iot_linked x e l write)
iot_linked_can v j m x e n l false s is =
    first_holds (Can v j m) (store_tests x e ++ (is_dry (x.links l) ⇒ Waits (Empty l) ∷ [])) (iot_receive x e l (words_in (x.links l)))
    (λ t. tt, (λ t. tt, (λ t. tt, tt))) (λ t. iot_receive_can v j m x e l (words_in (x.links l)) (link_there x m j n l false s is).0)
iot_linked_can v j m x e n l true s is =
    first_holds (Can v j m) (read_tests x e ++ (is_unread (x.links l) ⇒ ioc x ∷ is_crowded (x.links l) ⇒ Waits (Room l) ∷ []))
    (iot_ends x (changes.Send l (word_of x e) ∷ []) [])
    (λ t. tt, (λ t. tt, (λ t. tt, tt))) (λ t. sending v x m j n l s is t.1.0 t.1.1.0 (word_of x e))

siot_receive_can : (v : Beside) (j : ℕ) (m : Machine) (x : View) (next k l : ℕ) → l < most_links → Can v j m (siot_receive x next k l)
siot_receive_can v j m x next k l few =
    first_holds (Can v j m) (store_tests x (right_of next) ++ (is_dry (x.links l) ⇒ Waits (Empty l) ∷ []))
    (goes (changes.Receive l ∷ []) (Some (record { place = right_of next; byte = first_word x l })) (next ∷ (k - 1) ∷ []))
    (λ t. tt, (λ t. tt, (λ t. tt, tt))) (λ t. (few, tt))

siot_send_can : (v : Beside) (j : ℕ) (m : Machine) (x : View) (a : Ask) (next k n l : ℕ) → Sees x m j
    → channel_at x.own.channels n ≡ Linked l true → Can v j m (siot_send x a next k l)
siot_send_can v j m x a next k n l s is =
    first_holds (Can v j m) (read_tests x (right_of next) ++ (is_unread (x.links l) ⇒ fails x a 0o26 ∷ is_crowded (x.links l) ⇒ Waits (Room l) ∷ []))
    (goes (changes.Send l (load_of next (word_of x (right_of next))) ∷ []) None (next ∷ (k - 1) ∷ []))
    (λ t. tt, (λ t. tt, (λ t. tt, tt))) (λ t. sending v x m j n l s is t.1.0 t.1.1.0 (load_of next (word_of x (right_of next))))

pub siot_linked_can : (v : Beside) (j : ℕ) (m : Machine) (x : View) (a : Ask) (n l : ℕ) (write : Bool) → Sees x m j
    → channel_at x.own.channels n ≡ Linked l write → Can v j m (siot_linked x a l write)
siot_linked_can v j m x a n l false s is =
    let next = next_pointer (input a 1) in
    siot_by_can v j m x a false (is_ended (x.links l)) (siot_receive x next (input a 2) l)
    (λ e. siot_receive_can v j m x next (input a 2) l (link_there x m j n l false s is).0)
siot_linked_can v j m x a n l true s is =
    let next = next_pointer (input a 1) in
    siot_by_can v j m x a false false (siot_send x a next (input a 2) l) (λ e. siot_send_can v j m x a next (input a 2) n l s is)
