-- What becomes of the own job in a step depends on it and on what its call looks at alone.
use Rattle.std.specs.Prelude.{◌+◌, ◌-◌, ◌%◌, ◌^◌, if◌then◌else◌, ◌==◌, ◌||◌, ◌&&◌, ◌≡◌, ◌≢◌, ◌++◌, ℕ, Bool, true, false, not, Option, Some, None, List, [], ◌∷◌, is_some, length, nat_lt, slice_get, slice_index_or, unwrap_or, refl}
use Rattle.std.proofs.Common.{arith, sym, ◌∙◌, ap, subst, inl, inr}
use Rattle.std.proofs.lemmas.Bool.{cases_lt, le-ltb, ne_eqb, or_from}
use Rattle.its_word.specs.Byte.{load_of}
use Rattle.its_word.specs.Console.{most_waiting}
use Rattle.its_word.specs.Core.{Core, word_at, can_store}
use Rattle.its_word.specs.Word.{right_of}
use Rattle.its_word.specs.Limits.{most_pages}
use Rattle.its_records.specs.Links.{most_links}
use Rattle.its_records.specs.Tree.{least_free}
use Rattle.its_records.specs.declared.calls.Ask.{Ask}
use Rattle.its_frame.specs.declared.change.Change.TheVariants as changes
use Rattle.its_frame.specs.Variables.{variable_named}
use Rattle.its_frame.specs.declared.variable.Variable.{Variable}
use Rattle.its_frame.specs.declared.decision.Decision.{Decision}
use Rattle.its_frame.specs.declared.decision.Decision.TheVariants.{Waits}
use Rattle.its_frame.specs.declared.decision.Wait.TheVariants.{Input, Output, Drained, Empty, Room}
use Rattle.its_frame.specs.declared.name.CallName.{CallName}
use Rattle.its_frame.specs.declared.name.CallName.TheVariants as calls
use Rattle.its_plain.specs.Call.Arguments.{input, has_input}
use Rattle.its_plain.specs.Call.Basic.{Party, Oneself, Nobody, Channel, party_on, party, channel_at, is_oneself, is_shut, by_superior, set_other, usrvar_of, other_variable, ioc, sleep, dismiss, usrvar, realt}
use Rattle.its_plain.specs.Call.Core.{page_changed, highest_operation, highest_page, makes, is_amiss, has_page, corblk_of, corblk}
use Rattle.its_plain.specs.Call.Device.{open_by, open_call, close_on, close_call, iot_on, iot_call, siot_on, siot_call}
use Rattle.its_plain.specs.Call.File.{is_output, opens_as, iot_read, siot_reads, disk_device, is_full, channels_in, has_file, is_read, names_from, access_to, access_on, access, fillen_on, fillen}
use Rattle.its_plain.specs.Call.Link.{link_device, words_in, is_dry, iot_receive, link_named, can_open, joins, makes_link, opens_end, link_tests, opens_link}
use Rattle.its_plain.specs.Call.Tty.{view_console, is_other, is_empty, can_take, is_holder, lands, ttylnd_of, opens, finish_on, finish, listen_on, listen, ttylnd}
use Rattle.its_plain.specs.Call.Usr.{usr_device, other_core, at_end, iot_peeks, siot_peeks, highest_address, set_word, usrmem_on, usrmem, uclose}
use Rattle.its_plain.specs.Call.Decide.{inferior_on, target_by, argument_of, decided_by}
use Rattle.its_plain.specs.Machine.{core_of, Names, Chan, Shut, TtyIn, TtyOut, Reads, Writes, On, Linked, Whole, Machine, mapped}
use Rattle.its_plain.specs.Operator.Files.{channels_of}
use Rattle.its_plain.specs.Call.Tests.{◌⇒◌, first, finishes, fails, goes, out}
use Rattle.its_plain.specs.Call.Transfer.{store_tests, read_tests, word_of, iot_ends, next_pointer, siot_by}
use Rattle.its_plain.specs.Machine.View.{View, job_at, view}
use Rattle.its_stepped.specs.Forest.{OnConsole}
use Rattle.its_security.specs.Looks.{SameInput, SameRoom, SameDrained, SameHeard, may_take, holds, SameHolder, SameTransfer, SameVariable, SamePlace, SamePage, SameText, SameClosed, SameLinks, SameOpening, When, Looks}
use Rattle.its_security.proofs.DecisionsAlike.{channels_seen, iot_writes_by, siot_writes_by, opens_usr_by, closes_draft_by, delete_by, rename_by, opens_disk_is, opens_usr_is, closes_draft_is, delete_is, rename_is}

-- the number of a channel on an inferior does not name oneself
channel_number : (cs : ℕ → Chan) (n s at : ℕ) (write : Bool) → channel_at cs n ≡ On s write at → is_oneself n ≡ false
channel_number cs n s at write e = elim (cases_lt n 16) [
  | inl l ↦ or_from (n == 0o777777) (n == 0o777777777777) (ne_eqb n 0o777777 (λ t. absurd (omega arith)))
      (ne_eqb n 0o777777777777 (λ t. absurd (omega arith)))
  | inr ge ↦ let shut : channel_at cs n ≡ Shut = ap (λ (b : Bool). if b then cs n else Shut) (le-ltb n 16 ge) in cc
]

-- a list by its first element
empty_is : (bs : List ℕ) → is_empty bs ≡ not (is_some (slice_get bs 0))
empty_is [] = refl
empty_is (b ∷ bs) = refl

abbrev iot_received : View → ℕ → ℕ → Option ℕ → Decision
iot_received v e l (Some w) = iot_ends v (changes.Receive l ∷ []) (record { at = e; word = w } ∷ [])
iot_received v e l None = iot_ends v [] (record { at = e; word = 0o777777000003 } ∷ [])

receive_is : (v : View) (e l : ℕ) (ws : List ℕ) → iot_receive v e l ws ≡ iot_received v e l (slice_get ws 0)
receive_is v e l [] = refl
receive_is v e l (w ∷ ws) = refl

-- calls with what they look at
abbrev typed_waits : Option ℕ → Bool → Bool
typed_waits first other = not (is_some first) || other

abbrev iot_in_by : View → ℕ → ℕ → Bool → Option ℕ → Decision
iot_in_by v e c waits first_byte = first (store_tests v e ++ (waits ⇒ Waits (Input c) ∷ []))
    (iot_ends v (changes.Take c ∷ []) (record { at = e; word = unwrap_or first_byte 0 } ∷ []))

abbrev iot_out_by : View → ℕ → ℕ → Bool → Decision
iot_out_by v e c waits = first (read_tests v e ++ (waits ⇒ Waits (Output c) ∷ [])) (iot_ends v (changes.Put c (word_of v e % 2 ^ 7) ∷ []) [])

abbrev siot_in_by : View → Ask → ℕ → Bool → Option ℕ → Decision
siot_in_by v a c waits first_byte =
    let next = next_pointer (input a 1) in
    siot_by v a false false
    (first (store_tests v (right_of next) ++ (waits ⇒ Waits (Input c) ∷ []))
    (goes (changes.Take c ∷ []) (Some (record { place = right_of next; byte = unwrap_or first_byte 0 })) (next ∷ (input a 2 - 1) ∷ [])))

abbrev siot_out_by : View → Ask → ℕ → Bool → Decision
siot_out_by v a c waits =
    let next = next_pointer (input a 1) in
    siot_by v a false false
    (first (read_tests v (right_of next) ++ (waits ⇒ Waits (Output c) ∷ []))
    (goes (changes.Put c (load_of next (word_of v (right_of next)) % 2 ^ 7) ∷ []) None (next ∷ (input a 2 - 1) ∷ [])))

abbrev iot_into_by : View → ℕ → ℕ → ℕ → ℕ → Bool → Decision
iot_into_by v e n s at can =
    first (read_tests v e ++ (at_end at ⇒ ioc v ∷ not can ⇒ ioc v ∷ [])) (iot_ends v (changes.Poke s at (word_of v e) ∷ changes.Move n (at + 1) ∷ []) [])

abbrev siot_into_by : View → Ask → ℕ → ℕ → ℕ → Bool → Decision
siot_into_by v a n s at can =
    let next = next_pointer (input a 1) in
    siot_by v a true (at_end at)
    (first (read_tests v (right_of next) ++ (not can ⇒ fails v a 0o16 ∷ []))
    (goes (changes.Poke s at (load_of next (word_of v (right_of next))) ∷ changes.Move n (at + 1) ∷ []) None (next ∷ (input a 2 - 1) ∷ [])))

abbrev iot_sends_by : View → ℕ → ℕ → Bool → Bool → Decision
iot_sends_by v e l unread crowded = first (read_tests v e ++ (unread ⇒ ioc v ∷ crowded ⇒ Waits (Room l) ∷ []))
    (iot_ends v (changes.Send l (word_of v e) ∷ []) [])

abbrev iot_receives_by : View → ℕ → ℕ → Bool → Option ℕ → Decision
iot_receives_by v e l dry first_word = first (store_tests v e ++ (dry ⇒ Waits (Empty l) ∷ [])) (iot_received v e l first_word)

abbrev siot_sends_by : View → Ask → ℕ → Bool → Bool → Decision
siot_sends_by v a l unread crowded =
    let next = next_pointer (input a 1) in
    siot_by v a false false
    (first (read_tests v (right_of next) ++ (unread ⇒ fails v a 0o26 ∷ crowded ⇒ Waits (Room l) ∷ []))
    (goes (changes.Send l (load_of next (word_of v (right_of next))) ∷ []) None (next ∷ (input a 2 - 1) ∷ [])))

abbrev siot_receives_by : View → Ask → ℕ → Bool → Bool → Option ℕ → Decision
siot_receives_by v a l ended dry first_word =
    let next = next_pointer (input a 1) in
    siot_by v a false ended
    (first (store_tests v (right_of next) ++ (dry ⇒ Waits (Empty l) ∷ []))
    (goes (changes.Receive l ∷ []) (Some (record { place = right_of next; byte = unwrap_or first_word 0 })) (next ∷ (input a 2 - 1) ∷ [])))

abbrev usrmem_by : View → Ask → ℕ → Bool → Option ℕ → Bool → Decision
usrmem_by v a s write w can =
    let p = input a 1 in
    let new = has_input a 2 in
    first (nat_lt highest_address p ⇒ fails v a 0o22 ∷ (new && not write) ⇒ fails v a 0o5 ∷ not (is_some w) ⇒ fails v a 0o16
    ∷ (new && not can) ⇒ fails v a 0o16 ∷ [])
    (finishes v (set_word s p (input a 2) new) (out a.outputs.items (unwrap_or w 0)))

abbrev variable_by : View → Ask → ℕ → Bool → Variable → ℕ → Decision
variable_by v a s write y value =
    first (((has_input a 2 && not write) ⇒ fails v a 0o5) ∷ ((has_input a 2 && not (by_superior y)) ⇒ fails v a 0o22) ∷ [])
    (finishes v (set_other s y (input a 2) (has_input a 2)) (out a.outputs.items value))

abbrev disk_in : View → Ask → Bool → Bool → Decision
disk_in v a output there =
    let n = input a 0 in
    let control = unwrap_or a.control 0 in
    first (not (nat_lt n 16 && is_shut (channel_at v.own.channels n)) ⇒ fails v a 0o4 ∷ nat_lt 1 control ⇒ fails v a 0o22
    ∷ (not output && not there) ⇒ fails v a 0o6 ∷ [])
    (finishes v (changes.Open n (opens_as (is_output control) (input a 4) (input a 2) (input a 3)) ∷ []) [])

disk_when : (v : View) (a : Ask) (output there now : Bool) → When (not output) (now ≡ there) → disk_in v a output now ≡ disk_in v a output there
disk_when v a true there now e = refl
disk_when v a false there now e = ap (disk_in v a false) e

abbrev pages_with : View → Ask → ℕ → ℕ → ℕ → Bool → Bool → Bool → Decision
pages_with v a op s k there makes_one room =
    first (nat_lt highest_page k ⇒ fails v a 0o22 ∷ is_amiss (makes op) there ⇒ fails v a 0o16 ∷ (makes_one && not room) ⇒ fails v a 0o15
    ∷ []) (finishes v (page_changed op s k ∷ []) [])

pages_when : (v : View) (a : Ask) (op s k : ℕ) (there makes_one room now : Bool) → When makes_one (now ≡ room)
    → pages_with v a op s k there makes_one now ≡ pages_with v a op s k there makes_one room
pages_when v a op s k there true room now e = ap (pages_with v a op s k there true) e
pages_when v a op s k there false room now e = refl

abbrev pages_in : View → Ask → ℕ → ℕ → ℕ → Bool → Bool → Decision
pages_in v a op s k there room =
    first (nat_lt highest_page k ⇒ fails v a 0o22 ∷ is_amiss (makes op) there ⇒ fails v a 0o16 ∷ (makes op && not room) ⇒ fails v a 0o15
    ∷ []) (finishes v (page_changed op s k ∷ []) [])

abbrev ttylnd_in : View → Ask → Bool → Bool → Party → Decision
ttylnd_in v a take hold Oneself = lands v a take 0o13 v.slot
ttylnd_in v a take hold Nobody = fails v a 0o4
ttylnd_in v a take hold (Channel (On s write at)) = lands v a hold 0o5 s
ttylnd_in v a take hold (Channel c) = fails v a 0o5

take_is : (m : Machine) (j : ℕ) (q : Whole) (t h : Option ℕ) → can_take (view m j q t) h ≡ may_take m j h
unfolding view
take_is m j q t None = refl
take_is m j q t (Some i) = refl

hold_is : (v : View) (h : Option ℕ) → is_holder v h ≡ holds v.slot h
hold_is v None = refl
hold_is v (Some i) = refl

ttylnd_is : (m : Machine) (j : ℕ) (q : Whole) (t : Option ℕ) (a : Ask) (p : Party)
    → ttylnd_of (view m j q t) a p ≡ ttylnd_in (view m j q t) a (may_take m j (m.holders (unwrap_or q.job.console 0)))
    (holds j (m.holders (unwrap_or q.job.console 0))) p
unfolding view
ttylnd_is m j q t a Oneself = ap (λ b. lands (view m j q t) a b 0o13 j) (take_is m j q t (m.holders (unwrap_or q.job.console 0)))
ttylnd_is m j q t a Nobody = refl
ttylnd_is m j q t a (Channel (On s write at)) = ap (λ b. lands (view m j q t) a b 0o5 s) (hold_is (view m j q t) (m.holders (unwrap_or q.job.console 0)))
ttylnd_is m j q t a (Channel c) = refl

lands_none : (v : View) (a : Ask) (may : Bool) (number s : ℕ) → is_some v.own.job.console ≡ false → lands v a may number s ≡ fails v a 0o5
lands_none v a may number s e = ap (λ b. first (not b ⇒ fails v a 0o5 ∷ not may ⇒ fails v a number ∷ [])
    (finishes v (changes.Hold (view_console v) s ∷ []) [])) e

nobody_lands : (v : View) (a : Ask) (take hold : Bool) (p : Party) → is_some v.own.job.console ≡ false → ttylnd_in v a take hold p ≡ ttylnd_in v a true true p
nobody_lands v a take hold Oneself e = lands_none v a take 0o13 v.slot e ∙ sym (lands_none v a true 0o13 v.slot e)
nobody_lands v a take hold Nobody e = refl
nobody_lands v a take hold (Channel (On s write at)) e = lands_none v a hold 0o5 s e ∙ sym (lands_none v a true 0o5 s e)
nobody_lands v a take hold (Channel c) e = refl

module _ (m n : Machine) (j : ℕ) (q : Whole) (a : Ask) (t : Option ℕ) where
  abbrev x : View
  x = view m j q t

  abbrev y : View
  y = view n j q t

  abbrev c0 : ℕ
  c0 = unwrap_or q.job.console 0

  console_is : (i : ℕ) → q.job.console ≡ Some i → c0 ≡ i
  console_is i e = ap (λ (o : Option ℕ). unwrap_or o 0) e

  typed_at : (o : Option ℕ) → q.job.console ≡ o → is_some o ≡ true → SameInput j m n o
      → (slice_get (n.consoles c0).input 0 ≡ slice_get (m.consoles c0).input 0) × (is_other j (n.holders c0) ≡ is_other j (m.holders c0))
  typed_at (Some i) e has h = subst (λ (k : ℕ). (slice_get (n.consoles k).input 0 ≡ slice_get (m.consoles k).input 0)
      × (is_other j (n.holders k) ≡ is_other j (m.holders k))) (sym (console_is i e)) h
  typed_at None e has h = cc

  room_at : (o : Option ℕ) → q.job.console ≡ o → is_some o ≡ true → SameRoom j m n o
      → (nat_lt (length (n.consoles c0).output) most_waiting ≡ nat_lt (length (m.consoles c0).output) most_waiting)
      × (is_other j (n.holders c0) ≡ is_other j (m.holders c0))
  room_at (Some i) e has h = subst (λ (k : ℕ). (nat_lt (length (n.consoles k).output) most_waiting ≡ nat_lt (length (m.consoles k).output)
      most_waiting) × (is_other j (n.holders k) ≡ is_other j (m.holders k))) (sym (console_is i e)) h
  room_at None e has h = cc

  drained_at : (o : Option ℕ) → q.job.console ≡ o → is_some o ≡ true → SameDrained m n o → is_empty (n.consoles c0).output ≡ is_empty (m.consoles c0).output
  drained_at (Some i) e has h = subst (λ (k : ℕ). is_empty (n.consoles k).output ≡ is_empty (m.consoles k).output) (sym (console_is i e)) h
  drained_at None e has h = cc

  heard_at : (o : Option ℕ) → q.job.console ≡ o → is_some o ≡ true → SameHeard m n o
      → (is_empty (n.consoles c0).output ≡ is_empty (m.consoles c0).output) × (length (n.consoles c0).input ≡ length (m.consoles c0).input)
  heard_at (Some i) e has h = subst (λ (k : ℕ). (is_empty (n.consoles k).output ≡ is_empty (m.consoles k).output)
      × (length (n.consoles k).input ≡ length (m.consoles k).input)) (sym (console_is i e)) h
  heard_at None e has h = cc

  empty_same : (bs cs : List ℕ) → slice_get bs 0 ≡ slice_get cs 0 → is_empty bs ≡ is_empty cs
  empty_same bs cs e = empty_is bs ∙ ap (λ (o : Option ℕ). not (is_some o)) e ∙ sym (empty_is cs)

  full_same : (words : List ℕ) → is_full n.files (channels_of n) words ≡ is_full m.files (channels_of m) words
      → is_full y.files (channels_in y) words ≡ is_full x.files (channels_in x) words
  unfolding view
  full_same words e = ap (λ cs. is_full n.files cs words) (channels_seen n j q t) ∙ e ∙ sym (ap (λ cs. is_full m.files cs words) (channels_seen m j q t))

  read_same : (names : Names) → is_read names (channels_of n) ≡ is_read names (channels_of m) → is_read names (channels_in y) ≡ is_read names (channels_in x)
  read_same names e = ap (is_read names) (channels_seen n j q t) ∙ e ∙ sym (ap (is_read names) (channels_seen m j q t))

  core_seen : {X : Type 0} (f : Core → X) (s : ℕ) → t ≡ Some s → f (core_of (n.jobs s)) ≡ f (core_of (m.jobs s)) → f (other_core y) ≡ f (other_core x)
  unfolding view
  core_seen f s e h = ap (λ o. f (core_of (job_at n o))) e ∙ h ∙ sym (ap (λ o. f (core_of (job_at m o))) e)

  -- `.IOT` and SIOT
  iot_looks : (e i : ℕ) (c : Chan) → OnConsole q.job.console c → ((s at : ℕ) (write : Bool) → c ≡ On s write at → t ≡ Some s)
      → SameTransfer j m n q.job.console c → iot_on y e i c ≡ iot_on x e i c
  unfolding view
  iot_looks e i Shut has see look = refl
  iot_looks e i TtyIn has see look =
      let s = typed_at q.job.console refl has look in
      λ k. iot_in_by x e c0 (empty_same (n.consoles c0).input (m.consoles c0).input s.0 k || s.1 k) (s.0 k)
  iot_looks e i TtyOut has see look = let s = room_at q.job.console refl has look in λ k. iot_out_by x e c0 (not (s.0 k) || s.1 k)
  iot_looks e i (Reads names at) has see look = λ k. first (store_tests x e) (iot_read x e i at (look k))
  iot_looks e i (Writes f) has see look = λ k. iot_writes_by x e i (full_same f.words look k)
  iot_looks e i (On s false at) has see look = let w = core_seen (λ c. word_at c at) s (see s at false refl) look in λ k. first
      (store_tests x e) (iot_peeks x e i at (at_end at) (w k))
  iot_looks e i (On s true at) has see look = let w = core_seen (λ c. can_store c at) s (see s at true refl) look in λ k. iot_into_by x e i s at (w k)
  iot_looks e i (Linked l true) has see look = λ k. iot_sends_by x e l (look.0 k) (look.1 k)
  iot_looks e i (Linked l false) has see look =
      ap (first (store_tests x e ++ (is_dry (n.links l) ⇒ Waits (Empty l) ∷ []))) (receive_is x e l (words_in (n.links l)))
      ∙ (λ k. iot_receives_by x e l (empty_same (words_in (n.links l)) (words_in (m.links l)) look.0 k && not (look.1 k)) (look.0 k))
      ∙ sym (ap (first (store_tests x e ++ (is_dry (m.links l) ⇒ Waits (Empty l) ∷ []))) (receive_is x e l (words_in (m.links l))))

  siot_looks : (i : ℕ) (c : Chan) → OnConsole q.job.console c → ((s at : ℕ) (write : Bool) → c ≡ On s write at → t ≡ Some s)
      → SameTransfer j m n q.job.console c → siot_on y a i c ≡ siot_on x a i c
  unfolding view
  siot_looks i Shut has see look = refl
  siot_looks i TtyIn has see look =
      let s = typed_at q.job.console refl has look in
      λ k. siot_in_by x a c0 (empty_same (n.consoles c0).input (m.consoles c0).input s.0 k || s.1 k) (s.0 k)
  siot_looks i TtyOut has see look = let s = room_at q.job.console refl has look in λ k. siot_out_by x a c0 (not (s.0 k) || s.1 k)
  siot_looks i (Reads names at) has see look = λ k. siot_reads x a i at (look k)
  siot_looks i (Writes f) has see look = λ k. siot_writes_by x a i (full_same f.words look k)
  siot_looks i (On s false at) has see look =
      let w = core_seen (λ c. word_at c at) s (see s at false refl) look in
      λ k. siot_by x a true (at_end at) (siot_peeks x a (next_pointer (input a 1)) (input a 2) i at (w k))
  siot_looks i (On s true at) has see look = let w = core_seen (λ c. can_store c at) s (see s at true refl) look in λ k. siot_into_by x a i s at (w k)
  siot_looks i (Linked l true) has see look = λ k. siot_sends_by x a l (look.0 k) (look.1 k)
  siot_looks i (Linked l false) has see look =
      let empty = empty_same (words_in (n.links l)) (words_in (m.links l)) look.0 in
      λ k. siot_receives_by x a l (empty k && look.1 k) (empty k && not (look.1 k)) (look.0 k)

  -- FINISH and LISTEN
  finish_looks : (c : Chan) → OnConsole q.job.console c → SameDrained m n q.job.console → finish_on y a c ≡ finish_on x a c
  unfolding view
  finish_looks TtyOut has look = let s = drained_at q.job.console refl has look in λ k. first (not (s k) ⇒ Waits (Drained c0) ∷ []) (finishes x [] [])
  finish_looks Shut has look = refl
  finish_looks TtyIn has look = refl
  finish_looks (Reads f at) has look = refl
  finish_looks (Writes f) has look = refl
  finish_looks (On s write at) has look = refl
  finish_looks (Linked l write) has look = refl

  listens_same : is_some q.job.console ≡ true → SameHeard m n q.job.console → listen_on y a TtyIn ≡ listen_on x a TtyIn
  unfolding view
  listens_same has look = let s = heard_at q.job.console refl has look in λ k. first (not (s.0 k) ⇒ Waits (Drained c0) ∷ [])
      (finishes x [] (out a.outputs.items (s.1 k)))

  listen_looks : (c : Chan) → OnConsole q.job.console c → SameHeard m n q.job.console → listen_on y a c ≡ listen_on x a c
  unfolding view
  listen_looks TtyOut has look = listens_same has look
  listen_looks TtyIn has look = listens_same has look
  listen_looks Shut has look = refl
  listen_looks (Reads f at) has look = refl
  listen_looks (Writes f) has look = refl
  listen_looks (On s write at) has look = refl
  listen_looks (Linked l write) has look = refl

  -- files
  access_looks : (c : Chan) → SameText m n c → access_on y a c ≡ access_on x a c
  unfolding view
  access_looks (Reads names at) look = λ k. access_to x a (look k)
  access_looks Shut look = refl
  access_looks TtyIn look = refl
  access_looks TtyOut look = refl
  access_looks (Writes f) look = refl
  access_looks (On s write at) look = refl
  access_looks (Linked l write) look = refl

  fillen_looks : (c : Chan) → SameText m n c → fillen_on y a c ≡ fillen_on x a c
  unfolding view
  fillen_looks (Reads names at) look = λ k. finishes x [] (out a.outputs.items (look k))
  fillen_looks Shut look = refl
  fillen_looks TtyIn look = refl
  fillen_looks TtyOut look = refl
  fillen_looks (Writes f) look = refl
  fillen_looks (On s write at) look = refl
  fillen_looks (Linked l write) look = refl

  close_looks : (c : Chan) → SameClosed m n c → close_on y a c ≡ close_on x a c
  unfolding view
  close_looks (Writes f) look = closes_draft_is y a f ∙ (λ k. closes_draft_by x a (read_same f.names look.1.0 k) (look.0 k) (look.1.1 k))
      ∙ sym (closes_draft_is x a f)
  close_looks Shut look = refl
  close_looks TtyIn look = refl
  close_looks TtyOut look = refl
  close_looks (Reads names at) look = refl
  close_looks (On s write at) look = refl
  close_looks (Linked l write) look = refl

  -- OPEN
  end_looks : (o : Option ℕ) → ((k : ℕ) → o ≡ Some k → can_open (unwrap_or a.control 0 == 1) (n.links k) ≡ can_open
      (unwrap_or a.control 0 == 1) (m.links k)) → least_free most_links n.links ≡ least_free most_links m.links
      → opens_end y a (input a 0) (unwrap_or a.control 0 == 1) (input a 2) (input a 3) o ≡ opens_end x a (input a 0)
      (unwrap_or a.control 0 == 1) (input a 2) (input a 3) o
  unfolding view
  end_looks (Some l) look free = λ k. first (not (look l refl k) ⇒ fails x a 0o24 ∷ [])
      (joins x (input a 0) l (unwrap_or a.control 0 == 1) (input a 2) (input a 3))
  end_looks None look free = λ k. makes_link x a (input a 0) (unwrap_or a.control 0 == 1) (input a 2) (input a 3) (free k)

  link_looks : SameLinks m n (input a 2) (input a 3) (unwrap_or a.control 0 == 1) → opens_link y a ≡ opens_link x a
  unfolding view opens_link
  link_looks look =
      (λ k. first (link_tests x a (input a 0) (unwrap_or a.control 0))
      (opens_end y a (input a 0) (unwrap_or a.control 0 == 1) (input a 2) (input a 3) (look.named k)))
      ∙ ap (first (link_tests x a (input a 0) (unwrap_or a.control 0))) (end_looks (link_named m.links (input a 2) (input a 3)) look.unopened look.free)

  open_looks : (disk usr link : Bool) → SameOpening j m n a disk usr link → open_by y a disk usr link ≡ open_by x a disk usr link
  unfolding view opens
  open_looks true usr link look =
      opens_disk_is y a ∙ disk_when x a (is_output (unwrap_or a.control 0)) (has_file (names_from a 2) m.files)
      (has_file (names_from a 2) n.files) look ∙ sym (opens_disk_is x a)
  open_looks false true link look = opens_usr_is y a ∙ (λ k. opens_usr_by x a (look.inferior k) (look.any k) (look.free k)) ∙ sym (opens_usr_is x a)
  open_looks false false true look = link_looks look
  open_looks false false false look = refl

  -- TTYLND
  ttylnd_looks : SameHolder j m n q.job.console → ttylnd y a ≡ ttylnd x a
  unfolding ttylnd view
  ttylnd_looks look = ttylnd_is n j q t a p ∙ go q.job.console refl look ∙ sym (ttylnd_is m j q t a p)
    where
      p : Party
      p = party (view m j q t) (input a 0)

      go : (o : Option ℕ) → q.job.console ≡ o → SameHolder j m n o
          → ttylnd_in y a (may_take n j (n.holders c0)) (holds j (n.holders c0)) p ≡ ttylnd_in x a (may_take m j (m.holders c0)) (holds j (m.holders c0)) p
      go (Some i) e h =
          let s = subst (λ (k : ℕ). (holds j (n.holders k) ≡ holds j (m.holders k))
          × (may_take n j (n.holders k) ≡ may_take m j (m.holders k))) (sym (console_is i e)) h in
          λ k. ttylnd_in x a (s.1 k) (s.0 k) p
      go None e h = nobody_lands x a (may_take n j (n.holders c0)) (holds j (n.holders c0)) p (ap (λ (o : Option ℕ). is_some o) e)
          ∙ sym (nobody_lands x a (may_take m j (m.holders c0)) (holds j (m.holders c0)) p (ap (λ (o : Option ℕ). is_some o) e))

-- USRVAR, USRMEM and CORBLK, which reach a job by the channel that an argument names
abbrev reach_by_if : Bool → Chan → Option ℕ
reach_by_if b c = if b then None else inferior_on c

module _ (m n : Machine) (j : ℕ) (q : Whole) (a : Ask) where
  usrvar_looks : (b : Bool) (c : Chan) → SameVariable m n c (variable_named (input a 1))
      → usrvar_of (view n j q (reach_by_if b c)) a (if b then Oneself else party_on c) ≡ usrvar_of (view m j q (reach_by_if b c)) a
      (if b then Oneself else party_on c)
  unfolding view
  usrvar_looks true c look = refl
  usrvar_looks false Shut look = refl
  usrvar_looks false TtyIn look = refl
  usrvar_looks false TtyOut look = refl
  usrvar_looks false (Reads x at) look = refl
  usrvar_looks false (Writes f) look = refl
  usrvar_looks false (On s write at) look = go (variable_named (input a 1)) look
    where
      go : (o : Option Variable) → SameVariable m n (On s write at) o
          → other_variable (view n j q (Some s)) a s write o ≡ other_variable (view m j q (Some s)) a s write o
      go (Some y) h = λ k. variable_by (view m j q (Some s)) a s write y (h k)
      go None h = refl
  usrvar_looks false (Linked l write) look = refl

  usrmem_looks : (b : Bool) (c : Chan) → (b ≡ true → (s at : ℕ) (write : Bool) → c ≢ On s write at) → SamePlace m n c (input a 1)
      → usrmem_on (view n j q (reach_by_if b c)) a c ≡ usrmem_on (view m j q (reach_by_if b c)) a c
  unfolding view
  usrmem_looks true (On s write at) apart look = absurd (apart refl s at write refl)
  usrmem_looks false (On s write at) apart look = λ k. usrmem_by (view m j q (Some s)) a s write (look.0 k) (look.1 k)
  usrmem_looks b Shut apart look = refl
  usrmem_looks b TtyIn apart look = refl
  usrmem_looks b TtyOut apart look = refl
  usrmem_looks b (Reads x at) apart look = refl
  usrmem_looks b (Writes f) apart look = refl
  usrmem_looks b (Linked l write) apart look = refl

  corblk_looks : (b : Bool) (c : Chan) → SamePage m n c (input a 2) → When (makes (input a 0)) (nat_lt (mapped n) most_pages ≡ nat_lt (mapped m) most_pages)
      → corblk_of (view n j q (reach_by_if b c)) a (if b then Oneself else party_on c) ≡ corblk_of (view m j q (reach_by_if b c)) a
      (if b then Oneself else party_on c)
  unfolding view
  corblk_looks true c look room = pages_when (view m j q None) a (input a 0) j (input a 2) (has_page q.core (input a 2)) (makes (input a 0))
      (nat_lt (mapped m) most_pages) (nat_lt (mapped n) most_pages) room
  corblk_looks false (On s true at) look room =
      (λ k. pages_in (view m j q (Some s)) a (input a 0) s (input a 2) (look k) (nat_lt (mapped n) most_pages))
      ∙ pages_when (view m j q (Some s)) a (input a 0) s (input a 2) (has_page (core_of (m.jobs s)) (input a 2)) (makes (input a 0))
      (nat_lt (mapped m) most_pages) (nat_lt (mapped n) most_pages) room
  corblk_looks false (On s false at) look room = refl
  corblk_looks false Shut look room = refl
  corblk_looks false TtyIn look room = refl
  corblk_looks false TtyOut look room = refl
  corblk_looks false (Reads x at) look room = refl
  corblk_looks false (Writes f) look room = refl
  corblk_looks false (Linked l write) look room = refl

on_tty : (o : Option ℕ) (channels : ℕ → Chan) (i : ℕ) → ((k : ℕ) → OnConsole o (channels k)) → OnConsole o (channel_at channels i)
on_tty o channels i each = go (nat_lt i 16)
  where
    go : (b : Bool) → OnConsole o (if b then channels i else Shut)
    go true = each i
    go false = tt

-- every call decides the same
module _ (m n : Machine) (j : ℕ) (q : Whole) (a : Ask) (each : (i : ℕ) → OnConsole q.job.console (q.channels i)) where
  tty : (i : ℕ) → OnConsole q.job.console (channel_at q.channels i)
  tty i = on_tty q.job.console q.channels i each

  reached : (i s at : ℕ) (write : Bool) → channel_at q.channels (input a i) ≡ On s write at → target_by q a (Some i) ≡ Some s
  reached i s at write e = ap (λ (b : Bool). if b then None else inferior_on (channel_at q.channels (input a i)))
      (channel_number q.channels (input a i) s at write e) ∙ ap inferior_on e

  not_oneself : (i : ℕ) → is_oneself (input a i) ≡ true → (s at : ℕ) (write : Bool) → channel_at q.channels (input a i) ≢ On s write at
  not_oneself i t s at write e = (let no : false ≡ true = sym (channel_number q.channels (input a i) s at write e) ∙ t in cc)

  pub named_looks : (o : Option CallName) → Looks j m n q a o
      → decided_by (view n j q (target_by q a (argument_of o))) a o ≡ decided_by (view m j q (target_by q a (argument_of o))) a o
  unfolding view open_call close_call iot_call siot_call sleep dismiss usrvar usrmem uclose realt access fillen finish listen corblk
  named_looks (Some calls.Hang) look = refl
  named_looks (Some calls.Sleep) look = λ k. sleep (record (view m j q None) { clock = look k }) a
  named_looks (Some calls.Dismis) look = refl
  named_looks (Some calls.Usrvar) look = usrvar_looks m n j q a (is_oneself (input a 0)) (channel_at q.channels (input a 0)) look
  named_looks (Some calls.Logout) look = refl
  named_looks (Some calls.Open) look = open_looks m n j q a None (input a 1 == disk_device) (input a 1 == usr_device) (input a 1 == link_device) look
  named_looks (Some calls.Close) look = close_looks m n j q a None (channel_at q.channels (input a 0)) look
  named_looks (Some calls.Iot) look =
      iot_looks m n j q a (target_by q a (Some 0)) (slice_index_or a.outputs.items 0 0) (input a 0) (channel_at q.channels (input a 0))
      (tty (input a 0)) (reached 0) look
  named_looks (Some calls.Siot) look = siot_looks m n j q a (target_by q a (Some 0)) (input a 0) (channel_at q.channels (input a 0))
      (tty (input a 0)) (reached 0) look
  named_looks (Some calls.Finish) look = finish_looks m n j q a None (channel_at q.channels (input a 0)) (tty (input a 0)) look
  named_looks (Some calls.Listen) look = listen_looks m n j q a None (channel_at q.channels (input a 0)) (tty (input a 0)) look
  named_looks (Some calls.Ttylnd) look = ttylnd_looks m n j q a None look
  named_looks (Some calls.Access) look = access_looks m n j q a None (channel_at q.channels (input a 0)) look
  named_looks (Some calls.Fillen) look = fillen_looks m n j q a None (channel_at q.channels (input a 0)) look
  named_looks (Some calls.Delete) look =
      delete_is (view n j q None) a ∙ (λ k. delete_by (view m j q None) a (look.0 k) (read_same m n j q a None (names_from a 1) look.1 k))
      ∙ sym (delete_is (view m j q None) a)
  named_looks (Some calls.Rename) look =
      rename_is (view n j q None) a ∙ (λ k. rename_by (view m j q None) a (look.0 k) (read_same m n j q a None (names_from a 1) look.1.0 k)
      (look.1.1 k)) ∙ sym (rename_is (view m j q None) a)
  named_looks (Some calls.Usrmem) look = usrmem_looks m n j q a (is_oneself (input a 0)) (channel_at q.channels (input a 0)) (not_oneself 0) look
  named_looks (Some calls.Uclose) look = refl
  named_looks (Some calls.Corblk) look =
      ap (first (nat_lt highest_operation (input a 0) ⇒ fails (view m j q None) a 0o22 ∷ []))
      (corblk_looks m n j q a (is_oneself (input a 1)) (channel_at q.channels (input a 1)) look.0 look.1)
  named_looks (Some calls.Realt) look = λ k. realt (record (view m j q None) { clock = look k }) a
  named_looks None look = refl
