-- OPEN, CLOSE and `.IOT` if their device is DSK, ACCESS, FILLEN, DELETE and RENAME do their duty:
-- no close is half made if one of them changes the directory.
use Rattle.std.specs.Prelude.{◌≡◌, ℕ, ◌+◌, ◌%◌, ◌^◌, ◌&&◌, true, not, Option, Some, None, [], ◌∷◌, ◌++◌, nat_lt, length, slice_get, unwrap_or, refl}
use Rattle.std.proofs.Common.{◌∙◌, ap, arith, inl}
use Rattle.std.proofs.lemmas.Bool.{eq-eqb, not-false}
use Rattle.its_word.specs.Core.{can_store}
use Rattle.its_word.specs.declared.access.Fault.TheVariants.{Mpv, Wro}
use Rattle.its_records.specs.declared.calls.Ask.{Ask}
use Rattle.its_records.specs.declared.calls.Site.{Site}
use Rattle.its_frame.specs.Left.{kept}
use Rattle.its_frame.specs.declared.change.Change.{Change}
use Rattle.its_frame.specs.declared.change.Change.TheVariants as changes
use Rattle.its_frame.specs.declared.name.CallName.{CallName}
use Rattle.its_frame.specs.declared.name.CallName.TheVariants.{Close, Delete, Rename}
use Rattle.its_plain.specs.Call.Arguments.{input}
use Rattle.its_plain.specs.Call.Basic.{channel_at, ioc}
use Rattle.its_plain.specs.Call.Transfer.{store_tests, read_tests, word_of, iot_ends}
use Rattle.its_plain.specs.Call.File.{most_files, is_full, channels_in, has_file, is_read, words_of, names_from, is_output, opens_as, disk_tests, opens_disk, closes_draft, end_of_file, iot_read, iot_reads, iot_writes, end_of_core, access_to, access_on, access, file_tests, delete, rename}
use Rattle.its_plain.specs.Call.Decide.{call_named}
use Rattle.its_plain.specs.Machine.{Names, File, Chan, Shut, Reads, On, Whole, Machine}
use Rattle.its_plain.specs.Machine.Own.{names_of}
use Rattle.its_plain.specs.Call.Tests.{◌⇒◌, finishes, fails}
use Rattle.its_plain.specs.Machine.View.{View}
use Rattle.its_stepped.specs.State.{State}
use Rattle.its_stepped.specs.Tick.{makes_page, helps_by, helps}
use Rattle.its_stepped.specs.Sound.{most_owed_by, most_owed}
use Rattle.its_stepped.specs.Quiet.{Quiet}
use Rattle.its_stepped.specs.Duty.{Spares, parts_in, Ending_by, Duty}
use Rattle.its_stepped.specs.Calling.{Calling}
use Rattle.its_stepped.proofs.Committing.TestLaws.{first_holds, no_page, ending_duty, fails_duty, faults_duty, nothing_duty}

-- a call on files finds no close half made
helps_named : (q : Whole) (a : Ask) (k : CallName) → a.fail ≡ 0 → call_named a.name ≡ Some k → helps_by q a (Some k) ≡ true → helps q a ≡ true
unfolding helps
helps_named q a k z e h = rw (eq-eqb a.fail 0 z) (ap (helps_by q a) e ∙ h)

pub unmarked : (m : Machine) (v : State) (j : ℕ) (x : View) (s : Site) (a : Ask) (n : ℕ) (k : CallName) → Calling m v j x.own s a n
    → call_named a.name ≡ Some k → a.fail ≡ 0
    → helps_by x.own a (Some k) ≡ true → v.mark ≡ None
unmarked m v j x s a n k c e z h = c.unmarked (helps_named x.own a k z e h)

-- one change of a call that ends, and stores nothing
pub changes_duty : (m : Machine) (v : State) (j : ℕ) (x : View) (s : Site) (a : Ask) (n : ℕ) (g : Change) → Calling m v j x.own s a n
    → Quiet g j v → Spares g j v → parts_in (g ∷ []) ≡ 0
    → Ending_by v j x.own n (g ∷ []) []
changes_duty m v j x s a n g c quiet spare parts = ending_duty m v j x.own s a n (g ∷ []) [] c (quiet, tt) (spare, tt) parts tt (omega arith)

-- OPEN
pub opens_disk_duty : (m : Machine) (v : State) (j : ℕ) (x : View) (s : Site) (a : Ask) (n : ℕ) → Calling m v j x.own s a n
    → Duty v j x.own s a n (opens_disk x a)
unfolding opens_disk
opens_disk_duty m v j x s a n c =
    let control = unwrap_or a.control 0 in
    let change = changes.Open (input a 0) (opens_as (is_output control) (input a 4) (input a 2) (input a 3)) in
    first_holds (Duty v j x.own s a n) (disk_tests x a (input a 0) control) (finishes x (change ∷ []) [])
    (λ t. fails_duty m v j x s a n 0o4 c, (λ t. fails_duty m v j x s a n 0o22 c, (λ t. fails_duty m v j x s a n 0o6 c, tt)))
    (λ t. changes_duty m v j x s a n change c tt tt refl)

-- CLOSE: the parts of the close of a draft are pending, and nothing else
closing_duty : (m : Machine) (v : State) (j : ℕ) (x : View) (s : Site) (a : Ask) (n i : ℕ) → Calling m v j x.own s a n
    → call_named a.name ≡ Some Close → v.mark ≡ None
    → Ending_by v j x.own n (changes.Close i ∷ []) []
unfolding most_owed
closing_duty m v j x s a n i c e unmarked =
    let none : v.reserved j ≡ None = no_page m v j x.own s a n c (ap (λ (k : Option CallName). makes_page k (input a 0)) e) in
    let few : most_owed_by (call_named a.name) ≡ 0 = ap most_owed_by e in
    record {
      quiet = (unmarked, tt);
      stores = inl ((tt, tt), tt);
      few = let r = ap kept none in let o = c.debts.few in omega arith;
    }

pub closes_draft_duty : (m : Machine) (v : State) (j : ℕ) (x : View) (s : Site) (a : Ask) (n : ℕ) (f : File) → Calling m v j x.own s a n
    → call_named a.name ≡ Some Close → v.mark ≡ None
    → Duty v j x.own s a n (closes_draft x a f)
unfolding closes_draft
closes_draft_duty m v j x s a n f c e unmarked =
    first_holds (Duty v j x.own s a n)
    (is_read f.names (channels_in x) ⇒ fails x a 0o11 ∷ (not (has_file f.names x.files) && not (nat_lt (length x.files) most_files)) ⇒ fails x a 0o7 ∷ [])
    (finishes x (changes.Close (input a 0) ∷ []) []) (λ t. fails_duty m v j x s a n 0o11 c, (λ t. fails_duty m v j x s a n 0o7 c, tt))
    (λ t. closing_duty m v j x s a n (input a 0) c e unmarked)

-- `.IOT`
pub iot_read_duty : (m : Machine) (v : State) (j : ℕ) (x : View) (s : Site) (a : Ask) (n e i at : ℕ) (o : Option ℕ)
    → Calling m v j x.own s a n → e % 2 ^ 18 ≡ e
    → can_store x.own.core e ≡ true → Duty v j x.own s a n (iot_read x e i at o)
iot_read_duty m v j x s a n e i at (Some w) c is can =
    ending_duty m v j x.own s a n (changes.Move i (at + 1) ∷ []) (record { at = e; word = w } ∷ []) c (tt, tt) (tt, tt) refl
    (ap (can_store x.own.core) is ∙ can, tt) (omega arith)
iot_read_duty m v j x s a n e i at None c is can =
    ending_duty m v j x.own s a n [] (record { at = e; word = end_of_file } ∷ []) c tt tt refl (ap (can_store x.own.core) is ∙ can, tt) (omega arith)

pub iot_reads_duty : (m : Machine) (v : State) (j : ℕ) (x : View) (s : Site) (a : Ask) (n e i at : ℕ) (names : Names)
    → Calling m v j x.own s a n → e % 2 ^ 18 ≡ e
    → Duty v j x.own s a n (iot_reads x e i names at)
iot_reads_duty m v j x s a n e i at names c is =
    let o = slice_get (words_of x names) at in
    first_holds (Duty v j x.own s a n) (store_tests x e) (iot_read x e i at o)
    (λ t. faults_duty m v j x s a n Mpv c, (λ t. faults_duty m v j x s a n Wro c, tt))
    (λ t. iot_read_duty m v j x s a n e i at o c is (not-false (can_store x.own.core e) t.1.0))

pub iot_writes_duty : (m : Machine) (v : State) (j : ℕ) (x : View) (s : Site) (a : Ask) (n e i : ℕ) (f : File) → Calling m v j x.own s a n
    → Duty v j x.own s a n (iot_writes x e i f)
iot_writes_duty m v j x s a n e i f c =
    first_holds (Duty v j x.own s a n) (read_tests x e ++ (is_full x.files (channels_in x) f.words ⇒ ioc x ∷ []))
    (iot_ends x (changes.Append i (word_of x e) ∷ []) [])
    (λ t. faults_duty m v j x s a n Mpv c, (λ t. nothing_duty m v j x s a n c, tt))
    (λ t. changes_duty m v j x s a n (changes.Append i (word_of x e)) c tt tt refl)

-- ACCESS
access_to_duty : (m : Machine) (v : State) (j : ℕ) (x : View) (s : Site) (a : Ask) (n most : ℕ) → Calling m v j x.own s a n
    → Duty v j x.own s a n (access_to x a most)
access_to_duty m v j x s a n most c =
    first_holds (Duty v j x.own s a n) (nat_lt most (input a 1) ⇒ fails x a 0o22 ∷ []) (finishes x (changes.Move (input a 0) (input a 1) ∷ []) [])
    (λ t. fails_duty m v j x s a n 0o22 c, tt) (λ t. changes_duty m v j x s a n (changes.Move (input a 0) (input a 1)) c tt tt refl)

access_on_duty : (m : Machine) (v : State) (j : ℕ) (x : View) (s : Site) (a : Ask) (n : ℕ) (h : Chan) → Calling m v j x.own s a n
    → Duty v j x.own s a n (access_on x a h)
access_on_duty m v j x s a n (Reads f at) c = access_to_duty m v j x s a n (length (words_of x f)) c
access_on_duty m v j x s a n Shut c = fails_duty m v j x s a n 0o4 c
access_on_duty m v j x s a n (On k write at) c = access_to_duty m v j x s a n end_of_core c
access_on_duty m v j x s a n _ c = fails_duty m v j x s a n 0o5 c

pub access_duty : (m : Machine) (v : State) (j : ℕ) (x : View) (s : Site) (a : Ask) (n : ℕ) → Calling m v j x.own s a n → Duty v j x.own s a n (access x a)
unfolding access
access_duty m v j x s a n c = access_on_duty m v j x s a n (channel_at x.own.channels (input a 0)) c

-- DELETE and RENAME
pub delete_duty : (m : Machine) (v : State) (j : ℕ) (x : View) (s : Site) (a : Ask) (n : ℕ) → Calling m v j x.own s a n
    → call_named a.name ≡ Some Delete → a.fail ≡ 0
    → Duty v j x.own s a n (delete x a)
unfolding delete
delete_duty m v j x s a n c e z =
    let change = changes.Delete (input a 3) (input a 1) (input a 2) in
    first_holds (Duty v j x.own s a n) (file_tests x a (names_from a 1)) (finishes x (change ∷ []) [])
    (λ t. fails_duty m v j x s a n 0o5 c, (λ t. fails_duty m v j x s a n 0o6 c, (λ t. fails_duty m v j x s a n 0o11 c, tt)))
    (λ t. changes_duty m v j x s a n change c (unmarked m v j x s a n Delete c e z refl) tt refl)

pub rename_duty : (m : Machine) (v : State) (j : ℕ) (x : View) (s : Site) (a : Ask) (n : ℕ) → Calling m v j x.own s a n
    → call_named a.name ≡ Some Rename → a.fail ≡ 0
    → Duty v j x.own s a n (rename x a)
unfolding rename
rename_duty m v j x s a n c e z =
    let change = changes.Rename (input a 3) (input a 1) (input a 2) (input a 4) (input a 5) in
    first_holds (Duty v j x.own s a n) (file_tests x a (names_from a 1)
    ++ (has_file (names_of (input a 3) (input a 4) (input a 5)) x.files ⇒ fails x a 0o23 ∷ []))
    (finishes x (change ∷ []) []) (
      λ t. fails_duty m v j x s a n 0o5 c,
      (
        λ t. fails_duty m v j x s a n 0o6 c,
        (λ t. fails_duty m v j x s a n 0o11 c, (λ t. fails_duty m v j x s a n 0o23 c, tt)),
      ),
    )
    (λ t. changes_duty m v j x s a n change c (unmarked m v j x s a n Rename c e z refl) tt refl)
