-- The ways in which a call goes on or ends, and the one walk over what calls decide: what holds of
-- each of these ways holds of every decision, if it holds of those that are walked separately.
use Rattle.std.specs.Prelude.{if◌then◌else◌, ◌==◌, ◌≡◌, ◌≢◌, ◌<◌, ◌⊎◌, ◌&&◌, ◌||◌, ℕ, ◌+◌, ◌-◌, Bool, true, false, not, Option, Some, None, List, [], ◌∷◌, ◌++◌, nat_lt, is_some, length, slice_get, slice_index_or, unwrap_or, refl}
use Rattle.std.proofs.Common.{sym, ◌∙◌, ap, subst, inl, inr}
use Rattle.std.proofs.lemmas.Bool.{not-false, or_parts}
use Rattle.its_word.specs.Byte.{load_of}
use Rattle.its_word.specs.Core.{Core, word_at, can_store}
use Rattle.its_records.specs.Links.{most_links}
use Rattle.its_records.specs.Tree.{least_free}
use Rattle.its_word.specs.Word.{right_of}
use Rattle.its_word.specs.declared.access.Fault.{Fault}
use Rattle.its_word.specs.declared.access.Fault.TheVariants.{Mpv, Wro}
use Rattle.its_records.specs.declared.calls.Ask.{Ask}
use Rattle.its_word.specs.declared.plan.Store.{Store}
use Rattle.its_records.proofs.FreeLaws.{least_empty, least_below}
use Rattle.its_frame.specs.declared.change.Change.{Change}
use Rattle.its_frame.specs.declared.change.Change.TheVariants as changes
use Rattle.its_frame.specs.declared.change.Opened.{Opened}
use Rattle.its_frame.specs.declared.change.Opened.TheVariants as opened
use Rattle.its_frame.specs.declared.decision.Decision.{Decision}
use Rattle.its_frame.specs.declared.decision.Decision.TheVariants.{Waits}
use Rattle.its_frame.specs.declared.decision.Held.{Held}
use Rattle.its_frame.specs.declared.decision.Wait.{Wait}
use Rattle.its_frame.specs.declared.decision.Wait.TheVariants.{Hang, Clock, Input, Output, Drained, Empty, Room}
use Rattle.its_frame.specs.declared.name.CallName.{CallName}
use Rattle.its_frame.specs.declared.name.CallName.TheVariants as calls
use Rattle.its_plain.specs.Call.Arguments.{input, has_input, place_of_input}
use Rattle.its_plain.specs.Call.Basic.{Oneself, party_on, party, is_oneself, channel_at, ioc, negated, is_negative, sleep_tests, sleep, dismiss, usrvar, logout, longest_period, alarm_of, realt}
use Rattle.its_plain.specs.Call.Tty.{is_other, view_console, has_console, input_waits, output_waits, output_left, first_typed, shown_byte, opens_on, open_tests, opens, siot_in, siot_out, finish_on, finish, listens, listen_on, listen, ttylnd}
use Rattle.its_plain.specs.Call.Transfer.{store_tests, read_tests, word_of, iot_ends, next_pointer, siot_tests, siot_by}
use Rattle.its_plain.specs.Call.File.{disk_device, most_files, is_full, channels_in, has_file, is_read, words_of, names_from, is_output, opens_as, disk_tests, opens_disk, closes_draft, end_of_file, iot_read, siot_read, siot_write, end_of_core, access_to, access_on, access, fillen_on, fillen, file_tests, delete, rename}
use Rattle.its_plain.specs.Call.Usr.{usr_device, opens_usr, other_core, at_end, iot_peeks, iot_through, siot_peeks, siot_pokes, siot_through, set_word, usrmem_tests, usrmem_on, usrmem, uclose}
use Rattle.its_plain.specs.Call.Link.{has_link_names, link_device, words_in, is_dry, is_ended, is_crowded, is_unread, can_open, link_named, joins, makes_link, opens_end, link_tests, opens_link, first_word, iot_receive, siot_receive, siot_send}
use Rattle.its_plain.specs.Call.Core.{page_changed, is_amiss, has_page, highest_operation, page_tests, pages_of, corblk_of, corblk}
use Rattle.its_plain.specs.Call.Device.{open_by, open_call, shuts, close_on, close_call, iot_on, iot_call, siot_on, siot_call}
use Rattle.its_plain.specs.Call.Decide.{call_row, decided_by}
use Rattle.its_plain.specs.Machine.{File, Chan, Shut, TtyIn, TtyOut, Reads, Writes, On, Linked}
use Rattle.its_plain.specs.Machine.Own.{names_of}
use Rattle.its_plain.specs.Call.Tests.{◌⇒◌, finishes, fails, faults, goes, out}
use Rattle.its_plain.specs.Machine.View.{View}
use Rattle.its_stepped.proofs.Committing.ChannelLaws.{at_open, free_channel, named_link, absent_opens}
use Rattle.its_stepped.proofs.Keeping.JoinedLaws.{IsUnlinked}
use Rattle.its_stepped.proofs.Committing.TestLaws.{first_holds}

-- a change that makes no job and removes none, opens no channel on one or on a console, gives none
-- a console, and sets no alarm; with what the call has found: it writes in a job through a channel
-- with leave to write, or in its own core; it moves a byte at its own console, which nobody else
-- holds, or a word through its own end of a link; the file of a name that goes is read by nobody;
-- it opens an end of a link that nobody has opened, or closes its own end. R is what is known of
-- the job that the call reaches, in which alone it writes
abbrev pub OpensMildly : Opened → Type 0
OpensMildly (opened.Reading d x y) = Unit {0}
OpensMildly (opened.Writing d x y) = Unit {0}
OpensMildly _ = ⊥

-- nothing is known of the job that a call reaches
abbrev pub Any : ℕ → Type 0
Any s = Unit {0}

-- a channel that is on a console
abbrev pub OnConsole : Chan → Type 0
OnConsole TtyIn = Unit {0}
OnConsole TtyOut = Unit {0}
OnConsole _ = ⊥

-- a channel through which a call can be found not ready: it is on a console or on a link
abbrev pub CanWait : Chan → Type 0
CanWait TtyIn = Unit {0}
CanWait TtyOut = Unit {0}
CanWait (Linked l write) = Unit {0}
CanWait _ = ⊥

pub record Writable (R : ℕ → Type 0) (x : View) (s : ℕ) : Type 0 where
  pub channel : ℕ
  pub position : ℕ
  pub is : channel_at x.own.channels channel ≡ On s true position
  pub reached : R s

pub record AtConsole (x : View) (c : ℕ) : Type 0 where
  pub channel : ℕ
  pub is : OnConsole (channel_at x.own.channels channel)
  pub own : c ≡ view_console x
  pub free : is_other x.slot (x.holders c) ≡ false

pub record Closable (x : View) (n : ℕ) : Type 0 where
  pub file : File
  pub is : channel_at x.own.channels n ≡ Writes file
  pub unread : is_read file.names (channels_in x) ≡ false

pub record AtLink (x : View) (l : ℕ) (write : Bool) : Type 0 where
  pub channel : ℕ
  pub is : x.own.channels channel ≡ Linked l write

pub record Joinable (x : View) (n l : ℕ) (write : Bool) (u y : ℕ) : Type 0 where
  pub shut : x.own.channels n ≡ Shut
  pub few : l < most_links
  pub unopened : can_open write (x.links l) ≡ true
  pub named : (has_link_names u y (x.links l) ≡ true) ⊎ ((least_free most_links x.links ≡ Some l) × (link_named x.links u y ≡ None))

abbrev pub Mild : (ℕ → Type 0) → View → Change → Type 0
Mild R x (changes.Open n on) = OpensMildly on × (x.own.channels n ≡ Shut)
Mild R x (changes.Make s u n) = ⊥
Mild R x (changes.Hold c s) = ⊥
Mild R x (changes.Remove s) = ⊥
Mild R x (changes.Arm alarm) = ⊥
Mild R x (changes.Inform s) = ⊥
Mild R x (changes.Set s v w) = ⊥
Mild R x (changes.Take c) = AtConsole x c
Mild R x (changes.Put c b) = AtConsole x c
Mild R x (changes.Poke s p w) = Writable R x s × (can_store (other_core x) p ≡ true)
Mild R x (changes.Map s k) = (s ≡ x.slot) ⊎ (Writable R x s × (has_page (other_core x) k ≡ false))
Mild R x (changes.Unmap s k) = (s ≡ x.slot) ⊎ Writable R x s
Mild R x (changes.Protect s k w) = (s ≡ x.slot) ⊎ Writable R x s
Mild R x (changes.Close n) = Closable x n
Mild R x (changes.Delete d f g) = is_read (names_of d f g) (channels_in x) ≡ false
Mild R x (changes.Rename d f g u v) = (is_read (names_of d f g) (channels_in x) ≡ false) × (has_file (names_of d u v) x.files ≡ false)
Mild R x (changes.Shut n) = IsUnlinked (x.own.channels n)
Mild R x (changes.Move n at) = Unit {0}
Mild R x (changes.Append n w) = Unit {0}
Mild R x (changes.Join n l write u y) = Joinable x n l write u y
Mild R x (changes.CloseEnd n l write) = x.own.channels n ≡ Linked l write
Mild R x (changes.Send l w) = AtLink x l true
Mild R x (changes.Receive l) = AtLink x l false

-- after the first change the caller's channel may move, and nothing else happens
abbrev pub Still : Change → Type 0
Still (changes.Move n at) = Unit {0}
Still _ = ⊥

abbrev pub AllStill : List Change → Type 0
AllStill [] = Unit {0}
AllStill (c ∷ cs) = Still c × AllStill cs

abbrev pub AllMild : (ℕ → Type 0) → View → List Change → Type 0
AllMild R x [] = Unit {0}
AllMild R x (c ∷ cs) = Mild R x c × AllStill cs

-- the ways of a call that is found ready: each of its changes is mild, or it opens a closed channel
-- on the console that its job has, or it sets the job's alarm
pub record Ways (P : Decision → Type 0) (R : ℕ → Type 0) (x : View) (a : Ask) : Type 0 where
  pub failing : (k : ℕ) → P (fails x a k)
  pub faulting : (f : Fault) → P (faults x f)
  pub stuck : P (ioc x)
  pub opening : has_console x ≡ true → x.own.channels (input a 0) ≡ Shut → (b : Bool)
      → P (finishes x (changes.Open (input a 0) (if b then opened.TtyOut else opened.TtyIn) ∷ []) [])
  pub arming : (n : ℕ) → nat_lt longest_period n ≡ false → P (finishes x (changes.Arm (alarm_of x.clock n) ∷ []) [])
  pub ending : (cs : List Change) (ss : List Store) → AllMild R x cs → P (finishes x cs ss)
  pub moved : (cs : List Change) (ss : List Store) → AllMild R x cs → P (iot_ends x cs ss)
  pub going : (cs : List Change) (h : Option Held) (vs : List ℕ) → AllMild R x cs → P (goes cs h vs)

-- those of a call that changes nothing but the word of its output
pub record Answering (P : Decision → Type 0) (x : View) (a : Ask) : Type 0 where
  pub failing : (k : ℕ) → P (fails x a k)
  pub faulting : (f : Fault) → P (faults x f)
  pub finishing : P (finishes x [] [])
  pub giving : (w : ℕ) → P (finishes x [] (out a.outputs.items w))

answering : (P : Decision → Type 0) (R : ℕ → Type 0) (x : View) (a : Ask) → Ways P R x a → Answering P x a
answering P R x a w = record {
  failing = w.failing;
  faulting = w.faulting;
  finishing = w.ending [] [] tt;
  giving = λ i. w.ending [] (out a.outputs.items i) tt;
}

-- and the way of one that is found not ready
abbrev pub Waiting : (Decision → Type 0) → Type 0
Waiting P = (r : Wait) → P (Waits r)

-- SLEEP
sleep_ways : (P : Decision → Type 0) (R : ℕ → Type 0) (x : View) (a : Ask) → Ways P R x a → Waiting P → P (sleep x a)
unfolding sleep
sleep_ways P R x a w r =
    let n = input a 0 in
    let p = place_of_input a 0 in
    first_holds P (sleep_tests x a n p) (goes [] None (negated (x.clock + n) ∷ []))
    (λ t. w.ending [] [] tt, (λ t. r Clock, (λ t. w.ending [] [] tt, (λ t. w.failing 0o22, (λ t. w.failing 0o17, (λ t. w.faulting Wro, tt))))))
    (λ t. w.going [] None (negated (x.clock + n) ∷ []) tt)

-- OPEN
opens_tty_ways : (P : Decision → Type 0) (R : ℕ → Type 0) (x : View) (a : Ask) → Ways P R x a → P (opens x a)
unfolding opens
opens_tty_ways P R x a w =
    let control = unwrap_or a.control 0 in
    first_holds P (open_tests x a (input a 0) (input a 1) control) (finishes x (changes.Open (input a 0) (opens_on control) ∷ []) [])
    (λ t. w.failing 0o4, (λ t. w.failing 0o5, (λ t. w.failing 0o22, (λ t. w.failing 0o5, tt))))
    (λ t. w.opening (not-false (has_console x) t.1.1.1.0) (free_channel x.own.channels (input a 0) t.0) (control == 1))

opens_file : (b : Bool) (d x y : ℕ) → OpensMildly (opens_as b d x y)
opens_file true d x y = tt
opens_file false d x y = tt

opens_disk_ways : (P : Decision → Type 0) (R : ℕ → Type 0) (x : View) (a : Ask) → Ways P R x a → P (opens_disk x a)
unfolding opens_disk
opens_disk_ways P R x a w =
    let control = unwrap_or a.control 0 in
    let change = changes.Open (input a 0) (opens_as (is_output control) (input a 4) (input a 2) (input a 3)) in
    first_holds P (disk_tests x a (input a 0) control) (finishes x (change ∷ []) []) (λ t. w.failing 0o4, (λ t. w.failing 0o22, (λ t. w.failing 0o6, tt)))
    (λ t. w.ending (change ∷ []) []
    ((opens_file (is_output control) (input a 4) (input a 2) (input a 3), free_channel x.own.channels (input a 0) t.0), tt))

joins_ways : (P : Decision → Type 0) (R : ℕ → Type 0) (x : View) (a : Ask) (n l : ℕ) (write : Bool) (u y : ℕ) → Ways P R x a → Joinable x n l write u y
    → P (joins x n l write u y)
joins_ways P R x a n l write u y w can = w.ending (changes.Join n l write u y ∷ []) [] (can, tt)

makes_link_ways : (P : Decision → Type 0) (R : ℕ → Type 0) (x : View) (a : Ask) (n : ℕ) (write : Bool) (u y : ℕ) (o : Option ℕ)
    → Ways P R x a → link_named x.links u y ≡ None → x.own.channels n ≡ Shut
    → least_free most_links x.links ≡ o → P (makes_link x a n write u y o)
makes_link_ways P R x a n write u y (Some l) w named shut is =
    let none = least_empty most_links x.links l is in
    joins_ways P R x a n l write u y w
    (record {
      shut = shut;
      few = least_below most_links x.links l is;
      unopened = absent_opens write (x.links l) none;
      named = inr (is, named);
    })
makes_link_ways P R x a n write u y None w named shut is = w.failing 0o25

opens_end_ways : (P : Decision → Type 0) (R : ℕ → Type 0) (x : View) (a : Ask) (n : ℕ) (write : Bool) (u y : ℕ) (o : Option ℕ)
    → Ways P R x a → x.own.channels n ≡ Shut
    → link_named x.links u y ≡ o → P (opens_end x a n write u y o)
opens_end_ways P R x a n write u y (Some l) w shut is =
    let named = named_link x.links u y l is in
    first_holds P (not (can_open write (x.links l)) ⇒ fails x a 0o24 ∷ []) (joins x n l write u y) (λ t. w.failing 0o24, tt)
    (λ t. joins_ways P R x a n l write u y w
    (record { shut = shut; few = named.1; unopened = not-false (can_open write (x.links l)) t.0; named = inl named.0 }))
opens_end_ways P R x a n write u y None w shut is = makes_link_ways P R x a n write u y (least_free most_links x.links) w is shut refl

opens_link_ways : (P : Decision → Type 0) (R : ℕ → Type 0) (x : View) (a : Ask) → Ways P R x a → P (opens_link x a)
unfolding opens_link
opens_link_ways P R x a w =
    let control = unwrap_or a.control 0 in
    first_holds P (link_tests x a (input a 0) control)
    (opens_end x a (input a 0) (control == 1) (input a 2) (input a 3) (link_named x.links (input a 2) (input a 3)))
    (λ t. w.failing 0o4, (λ t. w.failing 0o22, tt))
    (λ t. opens_end_ways P R x a (input a 0) (control == 1) (input a 2) (input a 3) (link_named x.links (input a 2) (input a 3)) w
    (free_channel x.own.channels (input a 0) t.0) refl)

open_ways : (P : Decision → Type 0) (R : ℕ → Type 0) (x : View) (a : Ask) → Ways P R x a → P (opens_usr x a) → P (open_call x a)
unfolding open_call
open_ways P R x a w h = go (input a 1 == disk_device) (input a 1 == usr_device) (input a 1 == link_device)
  where
    go : (disk usr link : Bool) → P (open_by x a disk usr link)
    go true usr link = opens_disk_ways P R x a w
    go false true link = h
    go false false true = opens_link_ways P R x a w
    go false false false = opens_tty_ways P R x a w

-- CLOSE
draft_ways : (P : Decision → Type 0) (R : ℕ → Type 0) (x : View) (a : Ask) (f : File) → Ways P R x a
    → channel_at x.own.channels (input a 0) ≡ Writes f → P (closes_draft x a f)
unfolding closes_draft
draft_ways P R x a f w on =
    first_holds P (is_read f.names (channels_in x) ⇒ fails x a 0o11
    ∷ (not (has_file f.names x.files) && not (nat_lt (length x.files) most_files)) ⇒ fails x a 0o7 ∷ [])
    (finishes x (changes.Close (input a 0) ∷ []) []) (λ t. w.failing 0o11, (λ t. w.failing 0o7, tt))
    (λ t. w.ending (changes.Close (input a 0) ∷ []) [] (record { file = f; is = on; unread = t.0 }, tt))

close_ways : (P : Decision → Type 0) (R : ℕ → Type 0) (x : View) (a : Ask) → Ways P R x a → P (close_call x a)
unfolding close_call
close_ways P R x a w = go (channel_at x.own.channels (input a 0)) refl
  where
    shut : (c : Chan) → channel_at x.own.channels (input a 0) ≡ c → c ≢ Shut → IsUnlinked c → P (shuts x a)
    shut c on open_ free =
        w.ending (changes.Shut (input a 0) ∷ []) [] (subst IsUnlinked (sym (at_open x.own.channels (input a 0) c on open_)) free, tt)

    go : (c : Chan) → channel_at x.own.channels (input a 0) ≡ c → P (close_on x a c)
    go Shut on = w.failing 0o4
    go (Writes f) on = draft_ways P R x a f w on
    go (Linked l write) on =
        w.ending (changes.CloseEnd (input a 0) l write ∷ []) [] (at_open x.own.channels (input a 0) (Linked l write) on (λ e. cc), tt)
    go TtyIn on = shut TtyIn on (λ e. cc) tt
    go TtyOut on = shut TtyOut on (λ e. cc) tt
    go (Reads f at) on = shut (Reads f at) on (λ e. cc) tt
    go (On s write at) on = shut (On s write at) on (λ e. cc) tt

-- `.IOT`
iot_read_ways : (P : Decision → Type 0) (R : ℕ → Type 0) (x : View) (a : Ask) (e n at : ℕ) (o : Option ℕ) → Ways P R x a → P (iot_read x e n at o)
iot_read_ways P R x a e n at (Some i) w = w.moved (changes.Move n (at + 1) ∷ []) (record { at = e; word = i } ∷ []) (tt, tt)
iot_read_ways P R x a e n at None w = w.moved [] (record { at = e; word = end_of_file } ∷ []) tt

iot_peeks_ways : (P : Decision → Type 0) (R : ℕ → Type 0) (x : View) (a : Ask) (e n at : ℕ) (ended : Bool) (o : Option ℕ) → Ways P R x a
    → P (iot_peeks x e n at ended o)
iot_peeks_ways P R x a e n at true o w = w.moved [] (record { at = e; word = end_of_file } ∷ []) tt
iot_peeks_ways P R x a e n at false (Some i) w = w.moved (changes.Move n (at + 1) ∷ []) (record { at = e; word = i } ∷ []) (tt, tt)
iot_peeks_ways P R x a e n at false None w = w.stuck

iot_through_ways : (P : Decision → Type 0) (R : ℕ → Type 0) (x : View) (a : Ask) (e n s : ℕ) (write : Bool) (at : ℕ) → Ways P R x a → R s
    → channel_at x.own.channels n ≡ On s write at → P (iot_through x e n s write at)
iot_through_ways P R x a e n s false at w see on =
    let o = word_at (other_core x) at in
    first_holds P (store_tests x e) (iot_peeks x e n at (at_end at) o) (λ t. w.faulting Mpv, (λ t. w.faulting Wro, tt))
    (λ t. iot_peeks_ways P R x a e n at (at_end at) o w)
iot_through_ways P R x a e n s true at w see on =
    let cs = changes.Poke s at (word_of x e) ∷ changes.Move n (at + 1) ∷ [] in
    first_holds P (read_tests x e ++ (at_end at ⇒ ioc x ∷ not (can_store (other_core x) at) ⇒ ioc x ∷ [])) (iot_ends x cs [])
    (λ t. w.faulting Mpv, (λ t. w.stuck, (λ t. w.stuck, tt)))
    (λ t. w.moved cs [] ((record { channel = n; position = at; is = on; reached = see }, not-false (can_store (other_core x) at) t.1.1.0), (tt, tt)))

-- a byte that is moved at the console of a job, whose channel n is on it
moves_at : (x : View) (n : ℕ) (c : Chan) → channel_at x.own.channels n ≡ c → OnConsole c
    → is_other x.slot (x.holders (view_console x)) ≡ false → AtConsole x (view_console x)
moves_at x n c on console free = record { channel = n; is = subst OnConsole (sym on) console; own = refl; free = free }

-- a word that is moved through the caller's end of a link
at_link : (x : View) (n l : ℕ) (write : Bool) → channel_at x.own.channels n ≡ Linked l write → AtLink x l write
at_link x n l write on = record { channel = n; is = at_open x.own.channels n (Linked l write) on (λ e. cc) }

iot_receive_ways : (P : Decision → Type 0) (R : ℕ → Type 0) (x : View) (a : Ask) (e l : ℕ) (ws : List ℕ) → Ways P R x a → AtLink x l false
    → P (iot_receive x e l ws)
iot_receive_ways P R x a e l (i ∷ is) w at = w.moved (changes.Receive l ∷ []) (record { at = e; word = i } ∷ []) (at, tt)
iot_receive_ways P R x a e l [] w at = w.moved [] (record { at = e; word = end_of_file } ∷ []) tt

pub iot_ways : (P : Decision → Type 0) (R : ℕ → Type 0) (x : View) (a : Ask) (e n : ℕ) (c : Chan) → Ways P R x a
    → ((s at : ℕ) (write : Bool) → channel_at x.own.channels n ≡ On s write at → R s) → channel_at x.own.channels n ≡ c
    → (CanWait c → Waiting P) → P (iot_on x e n c)
iot_ways P R x a e n Shut w see on r = w.stuck
iot_ways P R x a e n TtyIn w see on r =
    let i = view_console x in
    first_holds P (store_tests x e ++ (input_waits x i ⇒ Waits (Input i) ∷ []))
    (iot_ends x (changes.Take i ∷ []) (record { at = e; word = first_typed x i } ∷ []))
    (λ t. w.faulting Mpv, (λ t. w.faulting Wro, (λ t. r tt (Input i), tt)))
    (λ t. w.moved (changes.Take i ∷ []) (record { at = e; word = first_typed x i } ∷ []) (moves_at x n TtyIn on tt (or_parts _ _ t.1.1.0).1, tt))
iot_ways P R x a e n TtyOut w see on r =
    let i = view_console x in
    let change = changes.Put i (shown_byte (word_of x e)) in
    first_holds P (read_tests x e ++ (output_waits x i ⇒ Waits (Output i) ∷ [])) (iot_ends x (change ∷ []) [])
    (λ t. w.faulting Mpv, (λ t. r tt (Output i), tt))
    (λ t. w.moved (change ∷ []) [] (moves_at x n TtyOut on tt (or_parts _ _ t.1.0).1, tt))
iot_ways P R x a e n (Reads f at) w see on r =
    let o = slice_get (words_of x f) at in
    first_holds P (store_tests x e) (iot_read x e n at o) (λ t. w.faulting Mpv, (λ t. w.faulting Wro, tt)) (λ t. iot_read_ways P R x a e n at o w)
iot_ways P R x a e n (Writes f) w see on r =
    first_holds P (read_tests x e ++ (is_full x.files (channels_in x) f.words ⇒ ioc x ∷ [])) (iot_ends x (changes.Append n (word_of x e) ∷ []) [])
    (λ t. w.faulting Mpv, (λ t. w.stuck, tt)) (λ t. w.moved (changes.Append n (word_of x e) ∷ []) [] (tt, tt))
iot_ways P R x a e n (On s write at) w see on r = iot_through_ways P R x a e n s write at w (see s at write on) on
iot_ways P R x a e n (Linked l true) w see on r =
    let change = changes.Send l (word_of x e) in
    first_holds P (read_tests x e ++ (is_unread (x.links l) ⇒ ioc x ∷ is_crowded (x.links l) ⇒ Waits (Room l) ∷ [])) (iot_ends x (change ∷ []) [])
    (λ t. w.faulting Mpv, (λ t. w.stuck, (λ t. r tt (Room l), tt))) (λ t. w.moved (change ∷ []) [] (at_link x n l true on, tt))
iot_ways P R x a e n (Linked l false) w see on r =
    first_holds P (store_tests x e ++ (is_dry (x.links l) ⇒ Waits (Empty l) ∷ [])) (iot_receive x e l (words_in (x.links l)))
    (λ t. w.faulting Mpv, (λ t. w.faulting Wro, (λ t. r tt (Empty l), tt)))
    (λ t. iot_receive_ways P R x a e l (words_in (x.links l)) w (at_link x n l false on))

-- SIOT
siot_read_ways : (P : Decision → Type 0) (R : ℕ → Type 0) (x : View) (a : Ask) (next k n at i : ℕ) → Ways P R x a → P (siot_read x next k n at i)
siot_read_ways P R x a next k n at i w =
    let held = Some (record { place = right_of next; byte = i }) in
    first_holds P (store_tests x (right_of next)) (goes (changes.Move n (at + 1) ∷ []) held (next ∷ (k - 1) ∷ []))
    (λ t. w.faulting Mpv, (λ t. w.faulting Wro, tt))
    (λ t. w.going (changes.Move n (at + 1) ∷ []) held (next ∷ (k - 1) ∷ []) (tt, tt))

siot_write_ways : (P : Decision → Type 0) (R : ℕ → Type 0) (x : View) (a : Ask) (next k n : ℕ) (f : File) → Ways P R x a → P (siot_write x a next k n f)
siot_write_ways P R x a next k n f w =
    let change = changes.Append n (load_of next (word_of x (right_of next))) in
    first_holds P (read_tests x (right_of next) ++ (is_full x.files (channels_in x) f.words ⇒ fails x a 0o10 ∷ []))
    (goes (change ∷ []) None (next ∷ (k - 1) ∷ []))
    (λ t. w.faulting Mpv, (λ t. w.failing 0o10, tt)) (λ t. w.going (change ∷ []) None (next ∷ (k - 1) ∷ []) (tt, tt))

siot_peeks_ways : (P : Decision → Type 0) (R : ℕ → Type 0) (x : View) (a : Ask) (next k n at : ℕ) (o : Option ℕ) → Ways P R x a
    → P (siot_peeks x a next k n at o)
siot_peeks_ways P R x a next k n at (Some i) w =
    let held = Some (record { place = right_of next; byte = i }) in
    first_holds P (store_tests x (right_of next)) (goes (changes.Move n (at + 1) ∷ []) held (next ∷ (k - 1) ∷ []))
    (λ t. w.faulting Mpv, (λ t. w.faulting Wro, tt))
    (λ t. w.going (changes.Move n (at + 1) ∷ []) held (next ∷ (k - 1) ∷ []) (tt, tt))
siot_peeks_ways P R x a next k n at None w =
    first_holds P (store_tests x (right_of next)) (fails x a 0o16) (λ t. w.faulting Mpv, (λ t. w.faulting Wro, tt)) (λ t. w.failing 0o16)

siot_pokes_ways : (P : Decision → Type 0) (R : ℕ → Type 0) (x : View) (a : Ask) (next k n s at : ℕ) → Ways P R x a → R s
    → channel_at x.own.channels n ≡ On s true at → P (siot_pokes x a next k n s at)
siot_pokes_ways P R x a next k n s at w see on =
    let cs = changes.Poke s at (load_of next (word_of x (right_of next))) ∷ changes.Move n (at + 1) ∷ [] in
    first_holds P (read_tests x (right_of next) ++ (not (can_store (other_core x) at) ⇒ fails x a 0o16 ∷ [])) (goes cs None (next ∷ (k - 1) ∷ []))
    (λ t. w.faulting Mpv, (λ t. w.failing 0o16, tt)) (λ t. w.going cs None (next ∷ (k - 1) ∷ [])
    ((record { channel = n; position = at; is = on; reached = see }, not-false (can_store (other_core x) at) t.1.0), (tt, tt)))

-- the tests of its arguments, whatever the device
pub siot_by_ways : (P : Decision → Type 0) (R : ℕ → Type 0) (x : View) (a : Ask) (words ended : Bool) (d : Decision) → Ways P R x a → P d
    → P (siot_by x a words ended d)
siot_by_ways P R x a words ended d w h =
    let ends = w.ending [] [] tt in
    first_holds P (siot_tests x a (input a 1) (input a 2) words ended) d (
      λ t. w.failing 0o17,
      (λ t. w.faulting Wro, (λ t. w.failing 0o21, (λ t. w.failing 0o21, (λ t. w.failing 0o22, (λ t. ends, (λ t. ends, (λ t. w.failing 0o20, tt))))))),
    )
    (λ t. h)

siot_through_ways : (P : Decision → Type 0) (R : ℕ → Type 0) (x : View) (a : Ask) (n s : ℕ) (write : Bool) (at : ℕ) → Ways P R x a → R s
    → channel_at x.own.channels n ≡ On s write at → P (siot_through x a n s write at)
siot_through_ways P R x a n s false at w see on =
    let next = next_pointer (input a 1) in
    let o = word_at (other_core x) at in
    siot_by_ways P R x a true (at_end at) (siot_peeks x a next (input a 2) n at o) w (siot_peeks_ways P R x a next (input a 2) n at o w)
siot_through_ways P R x a n s true at w see on =
    let next = next_pointer (input a 1) in
    siot_by_ways P R x a true (at_end at) (siot_pokes x a next (input a 2) n s at) w (siot_pokes_ways P R x a next (input a 2) n s at w see on)

pub siot_ways : (P : Decision → Type 0) (R : ℕ → Type 0) (x : View) (a : Ask) (n : ℕ) (c : Chan) → Ways P R x a
    → ((s at : ℕ) (write : Bool) → channel_at x.own.channels n ≡ On s write at → R s) → channel_at x.own.channels n ≡ c
    → (CanWait c → Waiting P) → P (siot_on x a n c)
siot_ways P R x a n Shut w see on r = w.failing 0o4
siot_ways P R x a n TtyIn w see on r =
    let next = next_pointer (input a 1) in
    let i = view_console x in
    let held = Some (record { place = right_of next; byte = first_typed x i }) in
    siot_by_ways P R x a false false (siot_in x a next (input a 2) i) w
    (first_holds P (store_tests x (right_of next) ++ (input_waits x i ⇒ Waits (Input i) ∷ [])) (goes (changes.Take i ∷ []) held (next ∷ (input a 2 - 1) ∷ []))
    (λ t. w.faulting Mpv, (λ t. w.faulting Wro, (λ t. r tt (Input i), tt)))
    (λ t. w.going (changes.Take i ∷ []) held (next ∷ (input a 2 - 1) ∷ []) (moves_at x n TtyIn on tt (or_parts _ _ t.1.1.0).1, tt)))
siot_ways P R x a n TtyOut w see on r =
    let next = next_pointer (input a 1) in
    let i = view_console x in
    let change = changes.Put i (shown_byte (load_of next (word_of x (right_of next)))) in
    siot_by_ways P R x a false false (siot_out x a next (input a 2) i) w
    (first_holds P (read_tests x (right_of next) ++ (output_waits x i ⇒ Waits (Output i) ∷ [])) (goes (change ∷ []) None (next ∷ (input a 2 - 1) ∷ []))
    (λ t. w.faulting Mpv, (λ t. r tt (Output i), tt)) (λ t. w.going (change ∷ []) None (next ∷ (input a 2 - 1) ∷ [])
    (moves_at x n TtyOut on tt (or_parts _ _ t.1.0).1, tt)))
siot_ways P R x a n (Reads f at) w see on r =
    let next = next_pointer (input a 1) in
    let o = slice_get (words_of x f) at in
    siot_by_ways P R x a true (not (is_some o)) (siot_read x next (input a 2) n at (unwrap_or o 0)) w
    (siot_read_ways P R x a next (input a 2) n at (unwrap_or o 0) w)
siot_ways P R x a n (Writes f) w see on r =
    let next = next_pointer (input a 1) in
    siot_by_ways P R x a true false (siot_write x a next (input a 2) n f) w (siot_write_ways P R x a next (input a 2) n f w)
siot_ways P R x a n (On s write at) w see on r = siot_through_ways P R x a n s write at w (see s at write on) on
siot_ways P R x a n (Linked l true) w see on r =
    let next = next_pointer (input a 1) in
    let change = changes.Send l (load_of next (word_of x (right_of next))) in
    siot_by_ways P R x a false false (siot_send x a next (input a 2) l) w
    (first_holds P (read_tests x (right_of next) ++ (is_unread (x.links l) ⇒ fails x a 0o26 ∷ is_crowded (x.links l) ⇒ Waits (Room l) ∷ []))
    (goes (change ∷ []) None (next ∷ (input a 2 - 1) ∷ []))
    (λ t. w.faulting Mpv, (λ t. w.failing 0o26, (λ t. r tt (Room l), tt)))
    (λ t. w.going (change ∷ []) None (next ∷ (input a 2 - 1) ∷ []) (at_link x n l true on, tt)))
siot_ways P R x a n (Linked l false) w see on r =
    let next = next_pointer (input a 1) in
    let held = Some (record { place = right_of next; byte = first_word x l }) in
    siot_by_ways P R x a false (is_ended (x.links l)) (siot_receive x next (input a 2) l) w
    (first_holds P (store_tests x (right_of next) ++ (is_dry (x.links l) ⇒ Waits (Empty l) ∷ []))
    (goes (changes.Receive l ∷ []) held (next ∷ (input a 2 - 1) ∷ []))
    (λ t. w.faulting Mpv, (λ t. w.faulting Wro, (λ t. r tt (Empty l), tt)))
    (λ t. w.going (changes.Receive l ∷ []) held (next ∷ (input a 2 - 1) ∷ []) (at_link x n l false on, tt)))

-- FINISH and LISTEN
finish_ways : (P : Decision → Type 0) (x : View) (a : Ask) → Answering P x a → Waiting P → P (finish x a)
unfolding finish
finish_ways P x a w r = go (channel_at x.own.channels (input a 0))
  where
    i : ℕ
    i = view_console x

    go : (c : Chan) → P (finish_on x a c)
    go TtyOut = first_holds P (output_left x i ⇒ Waits (Drained i) ∷ []) (finishes x [] []) (λ t. r (Drained i), tt) (λ t. w.finishing)
    go Shut = w.failing 0o4
    go _ = w.failing 0o5

listen_ways : (P : Decision → Type 0) (x : View) (a : Ask) → Answering P x a → Waiting P → P (listen x a)
unfolding listen
listen_ways P x a w r = go (channel_at x.own.channels (input a 0))
  where
    i : ℕ
    i = view_console x

    hears : P (listens x a i)
    hears =
        let n = length (x.consoles i).input in
        first_holds P (output_left x i ⇒ Waits (Drained i) ∷ []) (finishes x [] (out a.outputs.items n)) (λ t. r (Drained i), tt) (λ t. w.giving n)

    go : (c : Chan) → P (listen_on x a c)
    go TtyIn = hears
    go TtyOut = hears
    go Shut = w.failing 0o4
    go _ = w.failing 0o5

-- ACCESS and FILLEN
access_to_ways : (P : Decision → Type 0) (R : ℕ → Type 0) (x : View) (a : Ask) (most : ℕ) → Ways P R x a → P (access_to x a most)
access_to_ways P R x a most w =
    let change = changes.Move (input a 0) (input a 1) in
    first_holds P (nat_lt most (input a 1) ⇒ fails x a 0o22 ∷ []) (finishes x (change ∷ []) []) (λ t. w.failing 0o22, tt)
    (λ t. w.ending (change ∷ []) [] (tt, tt))

access_ways : (P : Decision → Type 0) (R : ℕ → Type 0) (x : View) (a : Ask) → Ways P R x a → P (access x a)
unfolding access
access_ways P R x a w = go (channel_at x.own.channels (input a 0))
  where
    go : (c : Chan) → P (access_on x a c)
    go (Reads f at) = access_to_ways P R x a (length (words_of x f)) w
    go Shut = w.failing 0o4
    go (On k write at) = access_to_ways P R x a end_of_core w
    go _ = w.failing 0o5

fillen_ways : (P : Decision → Type 0) (x : View) (a : Ask) → Answering P x a → P (fillen x a)
unfolding fillen
fillen_ways P x a w = go (channel_at x.own.channels (input a 0))
  where
    go : (c : Chan) → P (fillen_on x a c)
    go (Reads f at) = w.giving (length (words_of x f))
    go (Writes f) = w.giving (length f.words)
    go Shut = w.failing 0o4
    go _ = w.failing 0o5

-- DELETE and RENAME
delete_ways : (P : Decision → Type 0) (R : ℕ → Type 0) (x : View) (a : Ask) → Ways P R x a → P (delete x a)
unfolding delete
delete_ways P R x a w =
    let change = changes.Delete (input a 3) (input a 1) (input a 2) in
    first_holds P (file_tests x a (names_from a 1)) (finishes x (change ∷ []) []) (λ t. w.failing 0o5, (λ t. w.failing 0o6, (λ t. w.failing 0o11, tt)))
    (λ t. w.ending (change ∷ []) [] (t.1.1.0, tt))

rename_ways : (P : Decision → Type 0) (R : ℕ → Type 0) (x : View) (a : Ask) → Ways P R x a → P (rename x a)
unfolding rename
rename_ways P R x a w =
    let change = changes.Rename (input a 3) (input a 1) (input a 2) (input a 4) (input a 5) in
    first_holds P (file_tests x a (names_from a 1) ++ (has_file (names_of (input a 3) (input a 4) (input a 5)) x.files ⇒ fails x a 0o23
    ∷ [])) (finishes x (change ∷ []) [])
    (λ t. w.failing 0o5, (λ t. w.failing 0o6, (λ t. w.failing 0o11, (λ t. w.failing 0o23, tt)))) (λ t. w.ending (change ∷ []) [] ((t.1.1.0, t.1.1.1.0), tt))

-- USRMEM
set_word_ways : (R : ℕ → Type 0) (x : View) (n s p i at : ℕ) (write new : Bool) → R s → channel_at x.own.channels n ≡ On s write at
    → (new && not write) ≡ false → (new && not (can_store (other_core x) p)) ≡ false → AllMild R x (set_word s p i new)
set_word_ways R x n s p i at true true see on leave can = (
  (
    record { channel = n; position = at; is = on; reached = see },
    not-false (can_store (other_core x) p) can,
  ),
  tt,
)
set_word_ways R x n s p i at false true see on leave can = cc
set_word_ways R x n s p i at write false see on leave can = tt

usrmem_ways : (P : Decision → Type 0) (R : ℕ → Type 0) (x : View) (a : Ask) → Ways P R x a
    → ((s at : ℕ) (write : Bool) → channel_at x.own.channels (input a 0) ≡ On s write at → R s) → P (usrmem x a)
unfolding usrmem
usrmem_ways P R x a w see = go (channel_at x.own.channels (input a 0)) refl
  where
    p : ℕ
    p = input a 1

    new : Bool
    new = has_input a 2

    go : (c : Chan) → channel_at x.own.channels (input a 0) ≡ c → P (usrmem_on x a c)
    go (On s write at) on =
        let ss = out a.outputs.items (unwrap_or (word_at (other_core x) p) 0) in
        first_holds P (usrmem_tests x a write p new) (finishes x (set_word s p (input a 2) new) ss)
        (λ t. w.failing 0o22, (λ t. w.failing 0o5, (λ t. w.failing 0o16, (λ t. w.failing 0o16, tt))))
        (λ t. w.ending (set_word s p (input a 2) new) ss (set_word_ways R x (input a 0) s p (input a 2) at write new (see s at write on) on t.1.0 t.1.1.1.0))
    go Shut on = w.failing 0o4
    go _ on = w.failing 0o5

-- CORBLK: a page is dropped, made by operation 1 alone, or protected
pub page_by : (P : Change → Type 0) (op s k : ℕ) → P (changes.Unmap s k) → ((op == 1) ≡ true → P (changes.Map s k))
    → P (changes.Protect s k (op == 3)) → P (page_changed op s k)
page_by P op s k drops makes protects = go (op == 0) (op == 1) makes
  where
    go : (d m : Bool) → (m ≡ true → P (changes.Map s k)) → P (if d then changes.Unmap s k else (if m then changes.Map s k else changes.Protect s k (op == 3)))
    go true m h = drops
    go false true h = h refl
    go false false h = protects

pages_ways : (P : Decision → Type 0) (R : ℕ → Type 0) (x : View) (a : Ask) (op s k : ℕ) (c : Core) → (s ≡ x.slot) ⊎ Writable R x s
    → (has_page c k ≡ false → (s ≡ x.slot) ⊎ (Writable R x s × (has_page (other_core x) k ≡ false)))
    → Ways P R x a → P (pages_of x a op s c k)
pages_ways P R x a op s k c leave make w =
    first_holds P (page_tests x a op c k) (finishes x (page_changed op s k ∷ []) []) (λ t. w.failing 0o22, (λ t. w.failing 0o16, (λ t. w.failing 0o15, tt)))
    (λ t. w.ending (page_changed op s k ∷ []) [] (
      page_by (Mild R x) op s k leave
          (λ e. make (sym (ap (λ b. is_amiss b (has_page c k)) e) ∙ t.1.0)) leave,
      tt,
    ))

corblk_ways : (P : Decision → Type 0) (R : ℕ → Type 0) (x : View) (a : Ask) → Ways P R x a
    → ((s at : ℕ) (write : Bool) → channel_at x.own.channels (input a 1) ≡ On s write at → R s) → P (corblk x a)
unfolding corblk
corblk_ways P R x a w see =
    first_holds P (nat_lt highest_operation (input a 0) ⇒ fails x a 0o22 ∷ []) (corblk_of x a (party x (input a 1))) (λ t. w.failing 0o22, tt)
    (λ t. go (is_oneself (input a 1)) (channel_at x.own.channels (input a 1)) refl)
  where
    on_channel : (c : Chan) → channel_at x.own.channels (input a 1) ≡ c → P (corblk_of x a (party_on c))
    on_channel Shut on = w.failing 0o4
    on_channel (On s true at) on =
        (let leave : Writable R x s = record { channel = input a 1; position = at; is = on; reached = see s at true on } in
        pages_ways P R x a (input a 0) s (input a 2) (other_core x) (inr leave) (λ e. inr (leave, e)) w)
    on_channel _ on = w.failing 0o5

    go : (b : Bool) (c : Chan) → channel_at x.own.channels (input a 1) ≡ c → P (corblk_of x a (if b then Oneself else party_on c))
    go true c on = pages_ways P R x a (input a 0) x.slot (input a 2) x.own.core (inl refl) (λ e. inl refl) w
    go false c on = on_channel c on

-- REALT
realt_ways : (P : Decision → Type 0) (R : ℕ → Type 0) (x : View) (a : Ask) → Ways P R x a → P (realt x a)
unfolding realt
realt_ways P R x a w =
    let n = input a 0 in
    first_holds P ((is_negative n || nat_lt longest_period n) ⇒ fails x a 0o22 ∷ []) (finishes x (changes.Arm (alarm_of x.clock n) ∷ []) [])
    (λ t. w.failing 0o22, tt) (λ t. w.arming n (or_parts (is_negative n) (nat_lt longest_period n) t.0).1)

-- a call that changes nothing but the word of its output. Whether it can be found not ready is in
-- the table of calls
abbrev pub only_answers : CallName → Bool
only_answers calls.Finish = true
only_answers calls.Listen = true
only_answers calls.Fillen = true
only_answers _ = false

pub answer_ways : (P : Decision → Type 0) (x : View) (a : Ask) (n : CallName) → only_answers n ≡ true → Answering P x a
    → ((call_row n).waits ≡ true → Waiting P)
    → P (decided_by x a (Some n))
answer_ways P x a calls.Finish e w r = finish_ways P x a w (r refl)
answer_ways P x a calls.Listen e w r = listen_ways P x a w (r refl)
answer_ways P x a calls.Fillen e w r = fillen_ways P x a w
answer_ways P x a _ e w r = absurd cc

-- the decisions that are walked apart: their changes are not mild, or they leave registers of their
-- own
pub record Apart (P : Decision → Type 0) (x : View) (a : Ask) : Type 0 where
  pub dismiss : P (dismiss x a)
  pub usrvar : P (usrvar x a)
  pub logout : P (logout x)
  pub opens_usr : P (opens_usr x a)
  pub ttylnd : P (ttylnd x a)
  pub uclose : P (uclose x a)

-- the calls by their names
pub call_ways : (P : Decision → Type 0) (R : ℕ → Type 0) (x : View) (a : Ask) (o : Option CallName) → Ways P R x a
    → ((c : CallName) (i s at : ℕ) (write : Bool) → o ≡ Some c → (call_row c).reaches ≡ Some i
    → channel_at x.own.channels (input a i) ≡ On s write at → R s) → Waiting P → Apart P x a → P (decided_by x a o)
unfolding iot_call siot_call
call_ways P R x a (Some calls.Hang) w see r p = r Hang
call_ways P R x a (Some calls.Sleep) w see r p = sleep_ways P R x a w r
call_ways P R x a (Some calls.Dismis) w see r p = p.dismiss
call_ways P R x a (Some calls.Usrvar) w see r p = p.usrvar
call_ways P R x a (Some calls.Logout) w see r p = p.logout
call_ways P R x a (Some calls.Open) w see r p = open_ways P R x a w p.opens_usr
call_ways P R x a (Some calls.Close) w see r p = close_ways P R x a w
call_ways P R x a (Some calls.Iot) w see r p = iot_ways P R x a (slice_index_or a.outputs.items 0 0) (input a 0)
    (channel_at x.own.channels (input a 0)) w (λ s at write. see calls.Iot 0 s at write refl refl) refl (λ k. r)
call_ways P R x a (Some calls.Siot) w see r p = siot_ways P R x a (input a 0) (channel_at x.own.channels (input a 0)) w
    (λ s at write. see calls.Siot 0 s at write refl refl) refl (λ k. r)
call_ways P R x a (Some calls.Ttylnd) w see r p = p.ttylnd
call_ways P R x a (Some calls.Access) w see r p = access_ways P R x a w
call_ways P R x a (Some calls.Delete) w see r p = delete_ways P R x a w
call_ways P R x a (Some calls.Rename) w see r p = rename_ways P R x a w
call_ways P R x a (Some calls.Usrmem) w see r p = usrmem_ways P R x a w (λ s at write. see calls.Usrmem 0 s at write refl refl)
call_ways P R x a (Some calls.Uclose) w see r p = p.uclose
call_ways P R x a (Some calls.Corblk) w see r p = corblk_ways P R x a w (λ s at write. see calls.Corblk 1 s at write refl refl)
call_ways P R x a (Some calls.Realt) w see r p = realt_ways P R x a w
call_ways P R x a (Some n) w see r p = answer_ways P x a n refl (answering P R x a w) (λ i. r)
call_ways P R x a None w see r p = w.failing 0o1
