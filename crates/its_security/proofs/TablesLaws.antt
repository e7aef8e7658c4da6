-- Each call changes only the shared tables that are listed for it.
use Rattle.std.specs.Prelude.{if◌then◌else◌, ◌==◌, ◌≡◌, ◌+◌, ℕ, Bool, true, false, Option, Some, None, List, [], ◌∷◌, length, option_map, sum_by, Result, Ok, Err, refl}
use Rattle.std.specs.List.{list_any, range_with_len}
use Rattle.std.proofs.Common.{sym, ◌∙◌, ap, subst, inl, inr}
use Rattle.std.proofs.lemmas.Bool.{cases_Bool, ne_eqb, eqb-true}
use Rattle.std.proofs.lemmas.List.Sums.{sum_by-cons}
use Rattle.its_word.specs.Core.{Core, zero_page, word_at, store, pages_present, pages_mapped}
use Rattle.its_word.specs.Directory.{with_changed, changed_if, named}
use Rattle.its_word.specs.Limits.{slots}
use Rattle.its_word.specs.Stores.{first_fault, stored, place}
use Rattle.its_word.specs.Word.{right_of}
use Rattle.its_word.specs.declared.access.Fault.{Fault}
use Rattle.its_word.specs.declared.plan.Store.{Store}
use Rattle.its_word.proofs.PageLaws.{pages_present-store}
use Rattle.its_records.specs.declared.calls.Ask.{Ask}
use Rattle.its_records.specs.declared.calls.Exit.{Exit}
use Rattle.its_records.specs.declared.jobs.Job.{Job}
use Rattle.its_frame.specs.declared.change.Change.{Change}
use Rattle.its_frame.specs.declared.change.Change.TheVariants as changes
use Rattle.its_frame.specs.declared.change.Opened.{Opened}
use Rattle.its_frame.specs.declared.change.Opened.TheVariants as opened
use Rattle.its_frame.specs.declared.decision.Decision.{Decision}
use Rattle.its_frame.specs.declared.decision.Decision.TheVariants.{Waits, Goes, Ends, Gone}
use Rattle.its_frame.specs.declared.decision.Held.{Held}
use Rattle.its_frame.specs.declared.name.CallName.{CallName}
use Rattle.its_frame.specs.declared.name.CallName.TheVariants as calls
use Rattle.its_plain.specs.Call.Arguments.{input, debts, with_new_values}
use Rattle.its_plain.specs.Call.File.{blocks_for, blocks_on, blocks_of_drafts, blocks_of_files, reads, is_read}
use Rattle.its_plain.specs.Call.Step.{deposited, with_held, after_end, after_moves, acted, decision, Transition, informs, delivery, with_core_and_job, with_fault, by_ask, by_unit, by_delivery, unless_stopped, transition_of, transition, step}
use Rattle.its_plain.specs.Machine.Change.{on_slot, in_job, channel_in, after_removal, superiors, inferior, with_inf, poke, with_page_at, with_protection, with_alarm, with_new_names, effect, effects}
use Rattle.its_plain.specs.Call.Decide.{call_named, target, reach}
use Rattle.its_plain.specs.Call.Decode.{ask}
use Rattle.its_plain.specs.Unit.Interrupt.{deliverable, delivered, unguarded, through_table, by_table, by_length, by_entry, by_pointer, by_stores, pushed, entries_of, first_entry, Entry}
use Rattle.its_plain.specs.Machine.{core_of, Names, File, Pipe, Console, Chan, Shut, TtyIn, TtyOut, Reads, Writes, On, Linked, Whole, Machine, with_new}
use Rattle.its_plain.specs.Operator.Files.{channels_of}
use Rattle.its_plain.specs.Machine.Own.{names_of, with_stores, with_registers, with_variable, after_leave, on_channel, at_position, with_word, opened_on}
use Rattle.its_plain.specs.Unit.{Outcome, Changed, Faulted, Called, unit}
use Rattle.its_plain.specs.Machine.View.{outline, view}
use Rattle.its_plain.proofs.UnitLaws.{unit_keeps}
use Rattle.its_security.specs.Tables.{Table, Pages, Blocks, Directory, Readers, Slots, Links, Bytes, Holders, Clock, identity, SameTable, changes as alters, call_asked, call_in, call_unless, call_of, changed_by, TablesKept}
use Rattle.its_security.proofs.CallChanges.{CanMake, Opens, AllMake, AllMade, Informs, AllInform, Makes, decision_makes}
use Rattle.its_security.proofs.OwnJobLaws.{variable_names, delivered_names}

-- a table is the same in one slot
abbrev SlotKept : Table → Option Whole → Option Whole → Type 0
SlotKept Pages o p = pages_present (core_of p) ≡ pages_present (core_of o)
SlotKept Blocks o p = (i : ℕ) → blocks_on (channel_in p i) ≡ blocks_on (channel_in o i)
SlotKept Readers o p = (x : Names) (i : ℕ) → reads x (channel_in p i) ≡ reads x (channel_in o i)
SlotKept Slots o p = option_map identity p ≡ option_map identity o
SlotKept _ o p = Unit {0}

slot_self : (t : Table) (o : Option Whole) → SlotKept t o o
slot_self Pages o = refl
slot_self Blocks o = λ i. refl
slot_self Readers o = λ x i. refl
slot_self Slots o = refl
slot_self _ o = tt

by_slots : (t : Table) (m : Machine) (jobs : ℕ → Option Whole) → ((k : ℕ) → SlotKept t (m.jobs k) (jobs k)) → SameTable t m (record m { jobs = jobs })
unfolding pages_mapped blocks_of_drafts is_read
by_slots Pages m jobs e = λ i. sum_by (λ k. e k i) (range_with_len 0 slots)
by_slots Blocks m jobs e = λ i. blocks_of_files m.files + sum_by (λ k. sum_by (λ n. e k n i) (range_with_len 0 16)) (range_with_len 0 slots)
by_slots Directory m jobs e = refl
by_slots Readers m jobs e = λ x i. list_any (λ k. list_any (λ n. e k x n i) (range_with_len 0 16)) (range_with_len 0 slots)
by_slots Slots m jobs e = e
by_slots Links m jobs e = λ l. refl
by_slots Bytes m jobs e = λ c. refl
by_slots Holders m jobs e = λ c. refl
by_slots Clock m jobs e = refl

then_same : (t : Table) (l m n : Machine) → SameTable t l m → SameTable t m n → SameTable t l n
then_same Pages l m n e f = f ∙ e
then_same Blocks l m n e f = f ∙ e
then_same Directory l m n e f = f ∙ e
then_same Readers l m n e f = λ x. f x ∙ e x
then_same Slots l m n e f = λ k. f k ∙ e k
then_same Links l m n e f = λ k. f k ∙ e k
then_same Bytes l m n e f = λ c. f c ∙ e c
then_same Holders l m n e f = λ c. f c ∙ e c
then_same Clock l m n e f = f ∙ e

table_self : (t : Table) (m : Machine) → SameTable t m m
table_self Pages m = refl
table_self Blocks m = refl
table_self Directory m = refl
table_self Readers m = λ x. refl
table_self Slots m = λ k. refl
table_self Links m = λ k. refl
table_self Bytes m = λ c. refl
table_self Holders m = λ c. refl
table_self Clock m = refl

-- the job of a slot that changes
job_kept : (t : Table) (m : Machine) (s : ℕ) (f : Whole → Whole) → ((q : Whole) → m.jobs s ≡ Some q → SlotKept t (Some q) (Some (f q)))
    → SameTable t m (in_job m s f)
job_kept t m s f h = by_slots t m (on_slot m.jobs s f) (λ k. go k (k == s) refl (m.jobs k) refl)
  where
    go : (k : ℕ) (b : Bool) → (k == s) ≡ b → (o : Option Whole) → m.jobs k ≡ o → SlotKept t o (if b then option_map f o else o)
    go k true at (Some q) is = h q (ap m.jobs (sym (eqb-true k s at)) ∙ is)
    go k true at None is = slot_self t None
    go k false at o is = slot_self t o

-- a job of which only core and registers change
core_kept : (f : Whole → Whole) → ((q : Whole) → pages_present (f q).core ≡ pages_present q.core)
    → ((q : Whole) → (f q).channels ≡ q.channels) → ((q : Whole) → identity (f q) ≡ identity q)
    → (t : Table) (q : Whole) → SlotKept t (Some q) (Some (f q))
core_kept f pages channels names Pages q = pages q
core_kept f pages channels names Blocks q = λ i. ap (λ (cs : ℕ → Chan). blocks_on (cs i)) (channels q)
core_kept f pages channels names Readers q = λ x i. ap (λ (cs : ℕ → Chan). reads x (cs i)) (channels q)
core_kept f pages channels names Slots q = ap Some (names q)
core_kept f pages channels names _ q = tt

stored_pages : (c : Core) (ss : List Store) → pages_present (stored c ss) ≡ pages_present c
unfolding stored
stored_pages c [] = refl
stored_pages c (s ∷ ss) = stored_pages (store c (place s) s.word) ss ∙ pages_present-store c (place s) s.word

-- a channel that changes
abbrev ChanKept : Table → Chan → Chan → Type 0
ChanKept Blocks c d = blocks_on d ≡ blocks_on c
ChanKept Readers c d = (x : Names) → reads x d ≡ reads x c
ChanKept _ c d = Unit {0}

channel_kept : (t : Table) (q : Whole) (n : ℕ) (g : Chan → Chan) → ChanKept t (q.channels n) (g (q.channels n))
    → SlotKept t (Some q) (Some (on_channel n g q))
channel_kept Pages q n g h = refl
channel_kept Blocks q n g h = λ i. go i (i == n) refl
  where
    go : (i : ℕ) (b : Bool) → (i == n) ≡ b → blocks_on (if b then g (q.channels n) else q.channels i) ≡ blocks_on (q.channels i)
    go i true e = h ∙ ap (λ (k : ℕ). blocks_on (q.channels k)) (sym (eqb-true i n e))
    go i false e = refl
channel_kept Readers q n g h = λ x i. go x i (i == n) refl
  where
    go : (x : Names) (i : ℕ) (b : Bool) → (i == n) ≡ b → reads x (if b then g (q.channels n) else q.channels i) ≡ reads x (q.channels i)
    go x i true e = h x ∙ ap (λ (k : ℕ). reads x (q.channels k)) (sym (eqb-true i n e))
    go x i false e = refl
channel_kept Slots q n g h = refl
channel_kept _ q n g h = tt

moved_blocks : (at : ℕ) (c : Chan) → blocks_on (at_position at c) ≡ blocks_on c
moved_blocks at (Reads f p) = refl
moved_blocks at (On s write p) = refl
moved_blocks at (Writes f) = refl
moved_blocks at (Linked l write) = refl
moved_blocks at Shut = refl
moved_blocks at TtyIn = refl
moved_blocks at TtyOut = refl

moved_reads : (x : Names) (at : ℕ) (c : Chan) → reads x (at_position at c) ≡ reads x c
moved_reads x at (Reads f p) = refl
moved_reads x at (On s write p) = refl
moved_reads x at (Writes f) = refl
moved_reads x at (Linked l write) = refl
moved_reads x at Shut = refl
moved_reads x at TtyIn = refl
moved_reads x at TtyOut = refl

moved_kept : (t : Table) (at : ℕ) (c : Chan) → ChanKept t c (at_position at c)
moved_kept Blocks at c = moved_blocks at c
moved_kept Readers at c = λ x. moved_reads x at c
moved_kept _ at c = tt

word_reads : (x : Names) (w : ℕ) (c : Chan) → reads x (with_word w c) ≡ reads x c
word_reads x w (Writes f) = refl
word_reads x w (Reads f p) = refl
word_reads x w (On s write p) = refl
word_reads x w (Linked l write) = refl
word_reads x w Shut = refl
word_reads x w TtyIn = refl
word_reads x w TtyOut = refl

-- which tables a change touches, and that it leaves the others. OPEN's changes are apart
abbrev touches : Change → Table → Bool
touches (changes.Shut n) Blocks = true
touches (changes.Shut n) Readers = true
touches (changes.Append n w) Blocks = true
touches (changes.Close n) Blocks = true
touches (changes.Close n) Directory = true
touches (changes.Close n) Readers = true
touches (changes.Take c) Bytes = true
touches (changes.Put c b) Bytes = true
touches (changes.Hold c s) Holders = true
touches (changes.Map s k) Pages = true
touches (changes.Unmap s k) Pages = true
touches (changes.Protect s k w) Pages = true
touches (changes.CloseEnd n l write) Blocks = true
touches (changes.CloseEnd n l write) Readers = true
touches (changes.CloseEnd n l write) Links = true
touches (changes.Send l w) Links = true
touches (changes.Receive l) Links = true
touches (changes.Delete d x y) Blocks = true
touches (changes.Delete d x y) Directory = true
touches (changes.Rename d x y u v) Directory = true
touches (changes.Remove s) Pages = true
touches (changes.Remove s) Blocks = true
touches (changes.Remove s) Readers = true
touches (changes.Remove s) Slots = true
touches (changes.Remove s) Links = true
touches (changes.Remove s) Holders = true
touches _ _ = false

renamed_blocks : (old : Names) (new : Names) (fs : List File) → blocks_of_files (with_changed old (named new) fs) ≡ blocks_of_files fs
renamed_blocks old new [] = refl
renamed_blocks old new (f ∷ fs) =
    sum_by-cons (λ (g : File). blocks_for (length g.words)) (changed_if b f (named new f)) (with_changed old (named new) fs)
    ∙ (λ i. one b i + renamed_blocks old new fs i)
    ∙ sym (sum_by-cons (λ (g : File). blocks_for (length g.words)) f fs)
  where
    b : Bool
    b = Rattle.its_word.specs.Directory.same_names old f.names

    one : (b : Bool) → blocks_for (length (changed_if b f (named new f)).words) ≡ blocks_for (length f.words)
    one true = refl
    one false = refl

consoles_kept : (t : Table) (m : Machine) (cs : ℕ → Console) → touches (changes.Take 0) t ≡ false → SameTable t m (record m { consoles = cs })
consoles_kept Pages m cs e = refl
consoles_kept Blocks m cs e = refl
consoles_kept Directory m cs e = refl
consoles_kept Readers m cs e = λ x. refl
consoles_kept Slots m cs e = λ k. refl
consoles_kept Links m cs e = λ l. refl
consoles_kept Bytes m cs e = cc
consoles_kept Holders m cs e = λ c. refl
consoles_kept Clock m cs e = refl

holders_kept : (t : Table) (m : Machine) (hs : ℕ → Option ℕ) → touches (changes.Hold 0 0) t ≡ false → SameTable t m (record m { holders = hs })
holders_kept Pages m hs e = refl
holders_kept Blocks m hs e = refl
holders_kept Directory m hs e = refl
holders_kept Readers m hs e = λ x. refl
holders_kept Slots m hs e = λ k. refl
holders_kept Links m hs e = λ l. refl
holders_kept Bytes m hs e = λ c. refl
holders_kept Holders m hs e = cc
holders_kept Clock m hs e = refl

links_kept : (t : Table) (m : Machine) (ls : ℕ → Option Pipe) → touches (changes.Receive 0) t ≡ false → SameTable t m (record m { links = ls })
links_kept Pages m ls e = refl
links_kept Blocks m ls e = refl
links_kept Directory m ls e = refl
links_kept Readers m ls e = λ x. refl
links_kept Slots m ls e = λ k. refl
links_kept Links m ls e = cc
links_kept Bytes m ls e = λ c. refl
links_kept Holders m ls e = λ c. refl
links_kept Clock m ls e = refl

deleted_kept : (t : Table) (m : Machine) (fs : List File) → touches (changes.Delete 0 0 0) t ≡ false → SameTable t m (record m { files = fs })
deleted_kept Pages m fs e = refl
deleted_kept Blocks m fs e = cc
deleted_kept Directory m fs e = cc
deleted_kept Readers m fs e = λ x. refl
deleted_kept Slots m fs e = λ k. refl
deleted_kept Links m fs e = λ l. refl
deleted_kept Bytes m fs e = λ c. refl
deleted_kept Holders m fs e = λ c. refl
deleted_kept Clock m fs e = refl

renamed_kept : (t : Table) (m : Machine) (d x y u v : ℕ) → touches (changes.Rename d x y u v) t ≡ false
    → SameTable t m (record m { files = with_new_names (names_of d x y) u v m.files })
unfolding with_new_names
renamed_kept Pages m d x y u v e = refl
renamed_kept Blocks m d x y u v e = ap (λ (b : ℕ). b + blocks_of_drafts (channels_of m)) (renamed_blocks (names_of d x y) (names_of d u v) m.files)
renamed_kept Directory m d x y u v e = cc
renamed_kept Readers m d x y u v e = λ z. refl
renamed_kept Slots m d x y u v e = λ k. refl
renamed_kept Links m d x y u v e = λ l. refl
renamed_kept Bytes m d x y u v e = λ c. refl
renamed_kept Holders m d x y u v e = λ c. refl
renamed_kept Clock m d x y u v e = refl

removed_kept : (t : Table) (m : Machine) (s : ℕ) → touches (changes.Remove s) t ≡ false → SameTable t m (after_removal (superiors m) s m)
unfolding after_removal
removed_kept Directory m s e = refl
removed_kept Bytes m s e = λ c. refl
removed_kept Clock m s e = refl
removed_kept _ m s e = cc

shut_kept : (t : Table) (c : Chan) → touches (changes.Shut 0) t ≡ false → ChanKept t c Shut
shut_kept Blocks c e = cc
shut_kept Readers c e = cc
shut_kept _ c e = tt

closed_kept : (t : Table) (m : Machine) (j n : ℕ) (fs : List File) → touches (changes.Close n) t ≡ false
    → SameTable t m (record (in_job m j (on_channel n (λ c. Shut))) { files = fs })
closed_kept Pages m j n fs e = job_kept Pages m j (on_channel n (λ c. Shut)) (λ q is. refl)
closed_kept Slots m j n fs e = job_kept Slots m j (on_channel n (λ c. Shut)) (λ q is. refl)
closed_kept Links m j n fs e = λ l. refl
closed_kept Bytes m j n fs e = λ c. refl
closed_kept Holders m j n fs e = λ c. refl
closed_kept Clock m j n fs e = refl
closed_kept _ m j n fs e = cc

parted_kept : (t : Table) (m : Machine) (j n l : ℕ) (write : Bool) (ls : ℕ → Option Pipe) → touches (changes.CloseEnd n l write) t ≡ false
    → SameTable t m (record (in_job m j (on_channel n (λ c. Shut))) { links = ls })
parted_kept Pages m j n l write ls e = job_kept Pages m j (on_channel n (λ c. Shut)) (λ q is. refl)
parted_kept Slots m j n l write ls e = job_kept Slots m j (on_channel n (λ c. Shut)) (λ q is. refl)
parted_kept Directory m j n l write ls e = refl
parted_kept Bytes m j n l write ls e = λ c. refl
parted_kept Holders m j n l write ls e = λ c. refl
parted_kept Clock m j n l write ls e = refl
parted_kept _ m j n l write ls e = cc

appended_kept : (t : Table) (w n : ℕ) (c : Chan) → touches (changes.Append n w) t ≡ false → ChanKept t c (with_word w c)
appended_kept Blocks w n c e = cc
appended_kept Readers w n c e = λ x. word_reads x w c
appended_kept _ w n c e = tt

-- the pages of a core whose page changes are not counted
paged_kept : (f : Whole → Whole) → ((q : Whole) → (f q).channels ≡ q.channels) → ((q : Whole) → identity (f q) ≡ identity q)
    → (t : Table) (q : Whole) → touches (changes.Map 0 0) t ≡ false → SlotKept t (Some q) (Some (f q))
paged_kept f channels names Pages q e = cc
paged_kept f channels names Blocks q e = λ i. ap (λ (cs : ℕ → Chan). blocks_on (cs i)) (channels q)
paged_kept f channels names Readers q e = λ x i. ap (λ (cs : ℕ → Chan). reads x (cs i)) (channels q)
paged_kept f channels names Slots q e = ap Some (names q)
paged_kept f channels names _ q e = tt

-- a call other than OPEN opens nothing, and only LOGOUT sets INF
no_open : (o : Option CallName) (n : ℕ) (on : Opened) → CanMake o (changes.Open n on) → ⊥
no_open (Some calls.Open) n on made = made
no_open (Some k) n on made = made
no_open None n on made = made

no_make : (o : Option CallName) (s u y : ℕ) → CanMake o (changes.Make s u y) → ⊥
no_make (Some calls.Open) s u y made = made
no_make (Some k) s u y made = made
no_make None s u y made = made

no_join : (o : Option CallName) (n l : ℕ) (write : Bool) (u y : ℕ) → CanMake o (changes.Join n l write u y) → ⊥
no_join (Some calls.Open) n l write u y made = made
no_join (Some k) n l write u y made = made
no_join None n l write u y made = made

no_inform : (o : Option CallName) (s : ℕ) → CanMake o (changes.Inform s) → ⊥
no_inform (Some calls.Logout) s made = made
no_inform (Some k) s made = made
no_inform None s made = made

one_kept : (o : Option CallName) (c : Change) → CanMake o c → (m : Machine) (j : ℕ) (t : Table) → touches c t ≡ false → SameTable t m (effect c j m)
unfolding effect
one_kept o (changes.Shut n) made m j t e = job_kept t m j (on_channel n (λ c. Shut)) (λ q is. channel_kept t q n (λ c. Shut) (shut_kept t (q.channels n) e))
one_kept o (changes.Move n at) made m j t e = job_kept t m j (on_channel n (at_position at))
    (λ q is. channel_kept t q n (at_position at) (moved_kept t at (q.channels n)))
one_kept o (changes.Append n w) made m j t e = job_kept t m j (on_channel n (with_word w))
    (λ q is. channel_kept t q n (with_word w) (appended_kept t w n (q.channels n) e))
one_kept o (changes.Close n) made m j t e = closed_kept t m j n _ e
one_kept o (changes.Take c) made m j t e = consoles_kept t m _ e
one_kept o (changes.Put c b) made m j t e = consoles_kept t m _ e
one_kept o (changes.Hold c s) made m j t e = holders_kept t m _ e
one_kept o (changes.Poke s a w) made m j t e = job_kept t m s (with_stores (poke a w ∷ []))
    (λ q is. core_kept (with_stores (poke a w ∷ [])) (λ r. stored_pages r.core (poke a w ∷ [])) (λ r. refl) (λ r. refl) t q)
one_kept o (changes.Set s v w) made m j t e =
    let f = with_registers (with_variable v w) in
    job_kept t m s f (λ q is. core_kept f (λ r. refl) (λ r. refl)
    (λ r i. (let n = variable_names v w r.job in record { uname = n.uname i; jname = n.jname i; superior = r.superior })) t q)
one_kept o (changes.Map s k) made m j t e = job_kept t m s (with_page_at k (Some zero_page))
    (λ q is. paged_kept (with_page_at k (Some zero_page)) (λ r. refl) (λ r. refl) t q e)
one_kept o (changes.Unmap s k) made m j t e = job_kept t m s (with_page_at k None) (λ q is. paged_kept (with_page_at k None) (λ r. refl) (λ r. refl) t q e)
one_kept o (changes.Protect s k w) made m j t e = job_kept t m s (with_protection k w)
    (λ q is. paged_kept (with_protection k w) (λ r. refl) (λ r. refl) t q e)
one_kept o (changes.Arm alarm) made m j t e = job_kept t m j (with_alarm alarm) (λ q is. core_kept (with_alarm alarm) (λ r. refl) (λ r. refl) (λ r. refl) t q)
one_kept o (changes.CloseEnd n l write) made m j t e = parted_kept t m j n l write _ e
one_kept o (changes.Send l w) made m j t e = links_kept t m _ e
one_kept o (changes.Receive l) made m j t e = links_kept t m _ e
one_kept o (changes.Delete d x y) made m j t e = deleted_kept t m _ e
one_kept o (changes.Rename d x y u v) made m j t e = renamed_kept t m d x y u v e
one_kept o (changes.Remove s) made m j t e = removed_kept t m s e
one_kept o (changes.Open n on) made m j t e = absurd (no_open o n on made)
one_kept o (changes.Make s u y) made m j t e = absurd (no_make o s u y made)
one_kept o (changes.Join n l write u y) made m j t e = absurd (no_join o n l write u y made)
one_kept o (changes.Inform s) made m j t e = absurd (no_inform o s made)

-- a call that makes a change is listed for each table that it touches
made_touches : (o : Option CallName) (c : Change) (t : Table) → CanMake o c → changed_by o t ≡ false → touches c t ≡ false
made_touches (Some calls.Close) (changes.Shut n) Blocks made e = cc
made_touches (Some calls.Close) (changes.Shut n) Readers made e = cc
made_touches (Some calls.Close) (changes.Close n) Blocks made e = cc
made_touches (Some calls.Close) (changes.Close n) Directory made e = cc
made_touches (Some calls.Close) (changes.Close n) Readers made e = cc
made_touches (Some calls.Close) (changes.CloseEnd n l write) Blocks made e = cc
made_touches (Some calls.Close) (changes.CloseEnd n l write) Readers made e = cc
made_touches (Some calls.Close) (changes.CloseEnd n l write) Links made e = cc
made_touches (Some calls.Iot) (changes.Append n w) Blocks made e = cc
made_touches (Some calls.Iot) (changes.Take c) Bytes made e = cc
made_touches (Some calls.Iot) (changes.Put c b) Bytes made e = cc
made_touches (Some calls.Iot) (changes.Send l w) Links made e = cc
made_touches (Some calls.Iot) (changes.Receive l) Links made e = cc
made_touches (Some calls.Siot) (changes.Append n w) Blocks made e = cc
made_touches (Some calls.Siot) (changes.Take c) Bytes made e = cc
made_touches (Some calls.Siot) (changes.Put c b) Bytes made e = cc
made_touches (Some calls.Siot) (changes.Send l w) Links made e = cc
made_touches (Some calls.Siot) (changes.Receive l) Links made e = cc
made_touches (Some calls.Ttylnd) (changes.Hold c s) Holders made e = cc
made_touches (Some calls.Corblk) (changes.Map s k) Pages made e = cc
made_touches (Some calls.Corblk) (changes.Unmap s k) Pages made e = cc
made_touches (Some calls.Corblk) (changes.Protect s k w) Pages made e = cc
made_touches (Some calls.Delete) (changes.Delete d x y) Blocks made e = cc
made_touches (Some calls.Delete) (changes.Delete d x y) Directory made e = cc
made_touches (Some calls.Rename) (changes.Rename d x y u v) Directory made e = cc
made_touches (Some calls.Uclose) (changes.Remove s) Pages made e = cc
made_touches (Some calls.Uclose) (changes.Remove s) Blocks made e = cc
made_touches (Some calls.Uclose) (changes.Remove s) Readers made e = cc
made_touches (Some calls.Uclose) (changes.Remove s) Slots made e = cc
made_touches (Some calls.Uclose) (changes.Remove s) Links made e = cc
made_touches (Some calls.Uclose) (changes.Remove s) Holders made e = cc
made_touches (Some calls.Close) (changes.Shut n) t made e = refl
made_touches (Some calls.Close) (changes.Close n) t made e = refl
made_touches (Some calls.Close) (changes.CloseEnd n l write) t made e = refl
made_touches (Some calls.Iot) (changes.Move n at) t made e = refl
made_touches (Some calls.Iot) (changes.Append n w) t made e = refl
made_touches (Some calls.Iot) (changes.Take c) t made e = refl
made_touches (Some calls.Iot) (changes.Put c b) t made e = refl
made_touches (Some calls.Iot) (changes.Poke s at w) t made e = refl
made_touches (Some calls.Iot) (changes.Send l w) t made e = refl
made_touches (Some calls.Iot) (changes.Receive l) t made e = refl
made_touches (Some calls.Siot) (changes.Move n at) t made e = refl
made_touches (Some calls.Siot) (changes.Append n w) t made e = refl
made_touches (Some calls.Siot) (changes.Take c) t made e = refl
made_touches (Some calls.Siot) (changes.Put c b) t made e = refl
made_touches (Some calls.Siot) (changes.Poke s at w) t made e = refl
made_touches (Some calls.Siot) (changes.Send l w) t made e = refl
made_touches (Some calls.Siot) (changes.Receive l) t made e = refl
made_touches (Some calls.Usrvar) (changes.Set s x w) t made e = refl
made_touches (Some calls.Usrmem) (changes.Poke s at w) t made e = refl
made_touches (Some calls.Access) (changes.Move n at) t made e = refl
made_touches (Some calls.Ttylnd) (changes.Hold c s) t made e = refl
made_touches (Some calls.Delete) (changes.Delete d x y) t made e = refl
made_touches (Some calls.Rename) (changes.Rename d x y u v) t made e = refl
made_touches (Some calls.Corblk) (changes.Map s k) t made e = refl
made_touches (Some calls.Corblk) (changes.Unmap s k) t made e = refl
made_touches (Some calls.Corblk) (changes.Protect s k w) t made e = refl
made_touches (Some calls.Realt) (changes.Arm o) t made e = refl
made_touches (Some calls.Uclose) (changes.Remove s) t made e = refl
made_touches (Some k) _ t made e = absurd made
made_touches None _ t made e = absurd made

all_kept : (o : Option CallName) (cs : List Change) → AllMake o cs → (m : Machine) (j : ℕ) (t : Table) → changed_by o t ≡ false
    → SameTable t m (effects cs j m)
all_kept o [] made m j t e = table_self t m
all_kept o (c ∷ cs) made m j t e =
    then_same t m (effect c j m) (effects cs j (effect c j m)) (one_kept o c made.0 m j t (made_touches o c t made.0 e))
    (all_kept o cs made.1 (effect c j m) j t e)

-- OPEN
opened_blocks : (c : Chan) (on : Opened) → c ≡ Shut → blocks_on (opened_on on) ≡ blocks_on c
opened_blocks c (opened.Usr s write) e = sym (ap blocks_on e)
opened_blocks c (opened.Reading d x y) e = sym (ap blocks_on e)
opened_blocks c (opened.Writing d x y) e = sym (ap blocks_on e)
opened_blocks c opened.TtyIn e = sym (ap blocks_on e)
opened_blocks c opened.TtyOut e = sym (ap blocks_on e)

own_channel : (m : Machine) (j n : ℕ) (q r : Whole) → m.jobs j ≡ Some q → q.channels n ≡ Shut → m.jobs j ≡ Some r → r.channels n ≡ Shut
own_channel m j n q r is shut at = ap (λ (o : Option Whole). channel_in o n) (sym at ∙ is) ∙ shut

opens_kept : (m : Machine) (j n : ℕ) (q : Whole) (on : Opened) → m.jobs j ≡ Some q → q.channels n ≡ Shut → (t : Table)
    → alters calls.Open t ≡ false → SameTable t m (in_job m j (on_channel n (λ c. opened_on on)))
opens_kept m j n q on is shut Readers e = cc
opens_kept m j n q on is shut Blocks e =
    job_kept Blocks m j (on_channel n (λ c. opened_on on)) (λ r at. channel_kept Blocks r n (λ c. opened_on on)
    (opened_blocks (r.channels n) on (own_channel m j n q r is shut at)))
opens_kept m j n q on is shut Pages e = job_kept Pages m j (on_channel n (λ c. opened_on on)) (λ r at. refl)
opens_kept m j n q on is shut Slots e = job_kept Slots m j (on_channel n (λ c. opened_on on)) (λ r at. refl)
opens_kept m j n q on is shut Directory e = refl
opens_kept m j n q on is shut Links e = λ l. refl
opens_kept m j n q on is shut Bytes e = λ c. refl
opens_kept m j n q on is shut Holders e = λ c. refl
opens_kept m j n q on is shut Clock e = refl

joins_kept : (m : Machine) (j n l : ℕ) (write : Bool) (u y : ℕ) (q : Whole) → m.jobs j ≡ Some q → q.channels n ≡ Shut → (t : Table)
    → alters calls.Open t ≡ false → SameTable t m (effect (changes.Join n l write u y) j m)
unfolding effect
joins_kept m j n l write u y q is shut Readers e = cc
joins_kept m j n l write u y q is shut Slots e = cc
joins_kept m j n l write u y q is shut Links e = cc
joins_kept m j n l write u y q is shut Blocks e =
    job_kept Blocks m j (on_channel n (λ c. Linked l write))
    (λ r at. channel_kept Blocks r n (λ c. Linked l write) (sym (ap blocks_on (own_channel m j n q r is shut at))))
joins_kept m j n l write u y q is shut Pages e = job_kept Pages m j (on_channel n (λ c. Linked l write)) (λ r at. refl)
joins_kept m j n l write u y q is shut Directory e = refl
joins_kept m j n l write u y q is shut Bytes e = λ c. refl
joins_kept m j n l write u y q is shut Holders e = λ c. refl
joins_kept m j n l write u y q is shut Clock e = refl

-- a job in an empty slot, with no pages and closed channels
made_slot : (t : Table) (m : Machine) (s : ℕ) (q : Whole) → m.jobs s ≡ None → SlotKept t None (Some q) → (k : ℕ)
    → SlotKept t (m.jobs k) ((with_new m s q).jobs k)
made_slot t m s q none h k = go (k == s) refl
  where
    go : (b : Bool) → (k == s) ≡ b → SlotKept t (m.jobs k) (if b then Some q else m.jobs k)
    go true at = subst (λ (o : Option Whole). SlotKept t o (Some q)) (sym (ap m.jobs (eqb-true k s at) ∙ none)) h
    go false at = slot_self t (m.jobs k)

made_kept : (m : Machine) (j s u y : ℕ) → m.jobs s ≡ None → (t : Table) → alters calls.Open t ≡ false
    → SameTable t m (with_new m s (inferior j (m.jobs j) u y))
made_kept m j s u y none Readers e = cc
made_kept m j s u y none Slots e = cc
made_kept m j s u y none Links e = cc
made_kept m j s u y none Pages e = by_slots Pages m (with_new m s (inferior j (m.jobs j) u y)).jobs
    (made_slot Pages m s (inferior j (m.jobs j) u y) none refl)
made_kept m j s u y none Blocks e = by_slots Blocks m (with_new m s (inferior j (m.jobs j) u y)).jobs
    (made_slot Blocks m s (inferior j (m.jobs j) u y) none (λ i. refl))
made_kept m j s u y none Directory e = refl
made_kept m j s u y none Bytes e = λ c. refl
made_kept m j s u y none Holders e = λ c. refl
made_kept m j s u y none Clock e = refl

outlined_none : (o : Option Whole) → option_map outline o ≡ None → o ≡ None
outlined_none None e = refl
outlined_none (Some q) e = cc

module _ (m : Machine) (j : ℕ) (q : Whole) (r : Option ℕ) (is : m.jobs j ≡ Some q) where
  open_kept : (cs : List Change) → Opens (view m j q r) cs → (t : Table) → alters calls.Open t ≡ false → SameTable t m (effects cs j m)
  unfolding effect view
  open_kept [] made t e = table_self t m
  open_kept (changes.Open n on ∷ []) made t e = opens_kept m j n q on is made t e
  open_kept (changes.Join n l write u y ∷ []) made t e = joins_kept m j n l write u y q is made t e
  open_kept (changes.Make s u y ∷ changes.Open n (opened.Usr k write) ∷ []) made t e =
      let none = outlined_none (m.jobs s) made.1 in
      let p = with_new m s (inferior j (m.jobs j) u y) in
      let other : (j == s) ≡ false = ne_eqb j s (λ at. let no : None ≡ Some q = sym none ∙ ap m.jobs (sym at) ∙ is in cc) in
      then_same t m p (in_job p j (on_channel n (λ c. On k write 0))) (made_kept m j s u y none t e)
      (opens_kept p j n q (opened.Usr k write) (rw other is) made.0 t e)
  open_kept _ made t e = absurd made

  made_all_kept : (o : Option CallName) (cs : List Change) → AllMade (view m j q r) o cs → (t : Table) → changed_by o t ≡ false
      → SameTable t m (effects cs j m)
  made_all_kept o [] made t e = table_self t m
  made_all_kept (Some calls.Open) (c ∷ cs) made t e = open_kept (c ∷ cs) made t e
  made_all_kept (Some k) (c ∷ cs) made t e = all_kept (Some k) (c ∷ cs) made m j t e
  made_all_kept None (c ∷ cs) made t e = all_kept None (c ∷ cs) made m j t e

-- the own job after its call
ended_kept : (ss : List Store) (x : Exit) (t : Table) (q : Whole) → SlotKept t (Some q) (Some (after_end ss (after_leave x) q))
ended_kept ss x t q = core_kept (after_end ss (after_leave x)) (λ r. stored_pages r.core ss) (λ r. refl) (λ r. refl) t q

moves_kept : (a : Ask) (h : Option Held) (vs : List ℕ) (t : Table) (q : Whole) → SlotKept t (Some q) (Some (after_moves a h vs q))
moves_kept a None vs t q = core_kept (after_moves a None vs) (λ r. stored_pages r.core (debts (with_new_values a vs) (length vs))) (λ r. refl) (λ r. refl) t q
moves_kept a (Some b) vs t q =
    core_kept (after_moves a (Some b) vs)
    (λ r. stored_pages (with_held (with_new_values a vs) (Some b) r).core (debts (with_new_values a vs) (length vs))
    ∙ stored_pages r.core (deposited r.core (input (with_new_values a vs) 1) b ∷ []))
    (λ r. refl) (λ r. refl) t q

-- LOGOUT
informs_kept : (cs : List Change) → AllInform cs → (m : Machine) (j : ℕ) (t : Table) → SameTable t m (effects cs j m)
unfolding effect
informs_kept [] h m j t = table_self t m
informs_kept (changes.Inform s ∷ cs) h m j t =
    then_same t m (in_job m s with_inf) (effects cs j (in_job m s with_inf))
    (job_kept t m s with_inf (λ q is. core_kept with_inf (λ r. refl) (λ r. refl) (λ r. refl) t q))
    (informs_kept cs h (in_job m s with_inf) j t)
informs_kept (c ∷ cs) h m j t = absurd h

logout_touches : (t : Table) → alters calls.Logout t ≡ false → touches (changes.Remove 0) t ≡ false
logout_touches Directory e = refl
logout_touches Bytes e = refl
logout_touches Clock e = refl
logout_touches _ e = cc

gone_kept : (o : Option CallName) (cs : List Change) → Informs o → AllInform cs → (m : Machine) (j : ℕ) (t : Table) → changed_by o t ≡ false
    → SameTable t m (effects (changes.Remove j ∷ cs) j m)
unfolding effect
gone_kept (Some calls.Logout) cs h all m j t e =
    let l = after_removal (superiors m) j m in
    then_same t m l (effects cs j l) (removed_kept t m j (logout_touches t e)) (informs_kept cs all l j t)
gone_kept (Some k) cs h all m j t e = absurd h
gone_kept None cs h all m j t e = absurd h

-- a step of this call changes no other table
abbrev StepKept : Machine → Option CallName → Option Transition → Type 0
StepKept m o (Some u) = (t : Table) → changed_by o t ≡ false → SameTable t m u.machine
StepKept m o None = Unit {0}

module _ (m : Machine) (j : ℕ) (q : Whole) (r : Option ℕ) (is : m.jobs j ≡ Some q) where
  acted_kept : (o : Option CallName) (a : Ask) (ks : List ℕ) (d : Decision) → Makes (view m j q r) o d → StepKept m o (acted m j a ks d)
  unfolding acted
  acted_kept o a ks (Waits w) made = tt
  acted_kept o a ks (Goes cs h vs) made = λ t e.
      let n = effects cs.items j m in
      then_same t m n (in_job n j (after_moves a h vs.items)) (made_all_kept m j q r is o cs.items made t e)
      (job_kept t n j (after_moves a h vs.items) (λ p at. moves_kept a h vs.items t p))
  acted_kept o a ks (Ends cs ss x) made = λ t e.
      let n = effects cs.items j m in
      then_same t m n (in_job n j (after_end ss.items (after_leave x))) (made_all_kept m j q r is o cs.items made t e)
      (job_kept t n j (after_end ss.items (after_leave x)) (λ p at. ended_kept ss.items x t p))
  acted_kept o a ks (Gone cs) made = λ t e. gone_kept o cs.items made.0 made.1 m j t e

-- a delivery
stores_pages : (c : Core) (k : Job) (e : Entry) (ss : List Store) (o : Option Fault) → pages_present (by_stores c k e ss o).core ≡ pages_present c
stores_pages c k e ss None = stored_pages c ss
stores_pages c k e ss (Some f) = refl

pointer_pages : (c : Core) (k : Job) (e : Entry) (p : ℕ) (o : Option ℕ) → pages_present (by_pointer c k e p o).core ≡ pages_present c
pointer_pages c k e p (Some s) = stores_pages c k e (pushed k e p s) (first_fault c (pushed k e p s))
pointer_pages c k e p None = refl

entry_pages : (c : Core) (k : Job) (o : Option ℕ) (e : Option Entry) → pages_present (by_entry c k o e).core ≡ pages_present c
entry_pages c k (Some v) (Some e) = pointer_pages c k e (right_of v) (word_at c (right_of v))
entry_pages c k (Some v) None = refl
entry_pages c k None e = refl

length_pages : (c : Core) (k : Job) (t : ℕ) (o : Option ℕ) → pages_present (by_length c k t o).core ≡ pages_present c
length_pages c k t (Some n) = entry_pages c k (word_at c t) (first_entry c k n (t + 1))
length_pages c k t None = refl

table_pages : (c : Core) (k : Job) (o : Option ℕ) → pages_present (by_table c k o).core ≡ pages_present c
table_pages c k (Some w) = length_pages c k (right_of w) (entries_of w)
table_pages c k None = refl

delivered_pages : (c : Core) (k : Job) → pages_present (delivered c k).core ≡ pages_present c
unfolding delivered through_table
delivered_pages c k = elim (cases_Bool (unguarded k == 0)) [ inl t ↦ rw t (table_pages c k (word_at c 0o42)) | inr t ↦ rw t refl ]

-- the own job, with another core and other registers
put_kept : (t : Table) (q r : Whole) (d : Core) (l : Job) → pages_present d ≡ pages_present q.core → l.uname ≡ q.job.uname → l.jname ≡ q.job.jname
    → pages_present r.core ≡ pages_present q.core → r.job.uname ≡ q.job.uname → r.job.jname ≡ q.job.jname
    → SlotKept t (Some r) (Some (with_core_and_job d l r))
put_kept Pages q r d l pages u y rp ru ry = pages ∙ sym rp
put_kept Blocks q r d l pages u y rp ru ry = λ i. refl
put_kept Readers q r d l pages u y rp ru ry = λ x i. refl
put_kept Slots q r d l pages u y rp ru ry = λ i. Some (record { uname = (u ∙ sym ru) i; jname = (y ∙ sym ry) i; superior = r.superior })
put_kept _ q r d l pages u y rp ru ry = tt

some_same : (x y : Whole) → Some x ≡ Some y → x ≡ y
some_same x y e = cc

module _ (m : Machine) (j : ℕ) (q : Whole) (is : m.jobs j ≡ Some q) where
  own_is : (r : Whole) → m.jobs j ≡ Some r → r ≡ q
  own_is r at = some_same r q (sym at ∙ is)

  changed_kept : (d : Core) (l : Job) → unit q.core q.job ≡ Changed d l → StepKept m None (by_unit m j q (Changed d l))
  changed_kept d l e = λ t b. job_kept t m j (with_core_and_job d l) (λ r at.
      let u = unit_keeps q.core q.job d l e in
      let same = own_is r at in
      put_kept t q r d l u.pages.count u.registers.uname u.registers.jname (ap (λ (p : Whole). pages_present p.core) same)
      (ap (λ (p : Whole). p.job.uname) same) (ap (λ (p : Whole). p.job.jname) same))

  faulted_kept : (f : Fault) → StepKept m None (by_unit m j q (Faulted f))
  faulted_kept f = λ t b. job_kept t m j (with_fault f) (λ r at. core_kept (with_fault f) (λ p. refl) (λ p. refl) (λ p. refl) t r)

  asks_kept : (r : Result Ask Fault) → StepKept m (call_asked r) (by_ask m j q r)
  unfolding decision
  asks_kept (Ok a) = acted_kept m j q (target q a) is (call_named a.name) a (reach m j q a) (decision m j q a) (decision_makes (view m j q (target q a)) a)
  asks_kept (Err f) = λ t b. job_kept t m j (with_fault f) (λ r at. core_kept (with_fault f) (λ p. refl) (λ p. refl) (λ p. refl) t r)

  unit_kept : (o : Outcome) → unit q.core q.job ≡ o → StepKept m (call_in q.core o) (by_unit m j q o)
  unit_kept (Changed d l) e = changed_kept d l e
  unit_kept (Faulted f) e = faulted_kept f
  unit_kept (Called s) e = asks_kept (ask q.core s)

  informed_kept : (b : Bool) (o : Option ℕ) (t : Table) → SameTable t m (effects (informs b o) j m)
  informed_kept true (Some s) t = informs_kept (changes.Inform s ∷ []) tt m j t
  informed_kept true None t = table_self t m
  informed_kept false o t = table_self t m

  -- INF leaves of every job what is counted
  informed_same : (b : Bool) (o : Option ℕ) (r : Whole) → (effects (informs b o) j m).jobs j ≡ Some r
      → (pages_present r.core ≡ pages_present q.core) × ((r.job.uname ≡ q.job.uname) × (r.job.jname ≡ q.job.jname))
  unfolding effect
  informed_same true (Some s) r at = go (j == s) (m.jobs j) is at
    where
      go : (b : Bool) (o : Option Whole) → o ≡ Some q → (if b then option_map with_inf o else o) ≡ Some r
          → (pages_present r.core ≡ pages_present q.core) × ((r.job.uname ≡ q.job.uname) × (r.job.jname ≡ q.job.jname))
      go true (Some p) e f = (let a = some_same p q e in let b = some_same (with_inf p) r f in (
        ap (λ (x : Whole). pages_present x.core) (sym b) ∙ ap (λ (x : Whole). pages_present x.core) a,
        (
          ap (λ (x : Whole). x.job.uname) (sym b) ∙ ap (λ (x : Whole). x.job.uname) a,
          ap (λ (x : Whole). x.job.jname) (sym b)
              ∙ ap (λ (x : Whole). x.job.jname) a,
        ),
      ))
      go false (Some p) e f = (let a = some_same p q e in let b = some_same p r f in
          (ap (λ (x : Whole). pages_present x.core) (sym b ∙ a), (ap (λ (x : Whole). x.job.uname) (sym b ∙ a), ap (λ (x : Whole). x.job.jname) (sym b ∙ a))))
      go b None e f = cc
  informed_same true None r at = let a = own_is r at in (
    ap (λ (x : Whole). pages_present x.core) a,
    (ap (λ (x : Whole). x.job.uname) a, ap (λ (x : Whole). x.job.jname) a),
  )
  informed_same false o r at = let a = own_is r at in (
    ap (λ (x : Whole). pages_present x.core) a,
    (ap (λ (x : Whole). x.job.uname) a, ap (λ (x : Whole). x.job.jname) a),
  )

  delivery_kept : (t : Table) → SameTable t m (delivery m j q (delivered q.core q.job)).machine
  delivery_kept t =
      let e = delivered q.core q.job in
      let n = effects (informs e.stops q.superior) j m in
      let names = delivered_names q.core q.job in
      then_same t m n (in_job n j (with_core_and_job e.core e.job)) (informed_kept e.stops q.superior t)
      (job_kept t n j (with_core_and_job e.core e.job) (λ r at.
      let s = informed_same e.stops q.superior r at in
      put_kept t q r e.core e.job (delivered_pages q.core q.job) names.uname names.jname s.0 s.1.0 s.1.1))

  delivers_kept : (b : Bool) → deliverable q.job ≡ b → StepKept m (call_unless q b) (by_delivery m j q b)
  delivers_kept true e = λ t b. delivery_kept t
  delivers_kept false e = unit_kept (unit q.core q.job) refl

  running_kept : (b : Bool) → StepKept m (call_of (Some q)) (unless_stopped m j q b)
  running_kept true = tt
  running_kept false = delivers_kept (deliverable q.job) refl

slot_kept : (m : Machine) (j : ℕ) (o : Option Whole) → m.jobs j ≡ o → StepKept m (call_of o) (transition_of m j o)
slot_kept m j (Some q) is = running_kept m j q is q.job.stopped
slot_kept m j None is = tt

pub step_tables : (m n : Machine) (j : ℕ) → step m j ≡ Some n → TablesKept m j n
unfolding step transition
step_tables m n j e = go (transition m j) (slot_kept m j (m.jobs j) refl) e
  where
    go : (o : Option Transition) → StepKept m (call_of (m.jobs j)) o → option_map (λ (t : Transition). t.machine) o ≡ Some n → TablesKept m j n
    go (Some u) h at = λ t b. subst (SameTable t m) (same u.machine n at) (h t b)
      where
        same : (x y : Machine) → Some x ≡ Some y → x ≡ y
        same x y e = cc
    go None h at = cc
