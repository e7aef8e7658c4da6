-- Whom a commit disturbs, slot by slot.
use Rattle.std.specs.Prelude.{if◌then◌else◌, ◌≡◌, ◌≢◌, ◌==◌, ◌&&◌, ◌||◌, ◌<◌, ◌≤◌, ◌+◌, ℕ, zero, suc, Bool, true, false, Option, Some, None, List, [], ◌∷◌, ◌++◌, filter, refl}
use Rattle.std.specs.List.{range_with_len}
use Rattle.std.proofs.Common.{sym, ◌∙◌, ap, subst, inl, inr, arith}
use Rattle.std.proofs.lemmas.Bool.{cases_eq, eq-eqb, ne_eqb}
use Rattle.std.proofs.lemmas.List.Folds.{list_any-append}
use Rattle.its_word.specs.Core.{Core}
use Rattle.its_word.specs.Limits.{slots}
use Rattle.its_records.specs.Tree.{is_below, slots_below}
use Rattle.its_records.specs.declared.jobs.Job.{Job}
use Rattle.its_records.proofs.TreeLaws.{and_false}
use Rattle.its_core.specs.Cores.{core_at}
use Rattle.its_files.specs.Files.{Store}
use Rattle.its_jobs.specs.Table.{IsTree, job_at, superior_at}
use Rattle.its_plain.specs.Machine.Change.{superior_in, superiors}
use Rattle.its_plain.specs.Call.Decide.{listed}
use Rattle.its_plain.specs.Call.Footprint.{among}
use Rattle.its_shared.specs.Parts.{alarm_at, raw_of}
use Rattle.its_decide.specs.Reach.{is_listed}
use Rattle.its_decide.specs.Seen.{machine_seen}
use Rattle.its_decide.specs.declared.caller.Seen.{Seen}

-- a slot among those of a list that pass a test
here : (k : ℕ) (xs ys : List ℕ) (b : Bool) → among k ys ≡ (among k xs && b) → among k (if b then k ∷ ys else ys) ≡ (among k (k ∷ xs) && b)
here k xs ys true h = rw (eq-eqb k k refl)
here k xs ys false h = h ∙ and_false (among k xs) ∙ sym (and_false (among k (k ∷ xs)))

later : (i k : ℕ) (xs ys : List ℕ) (b c : Bool) → i ≢ k → among k ys ≡ (among k xs && c) → among k (if b then i ∷ ys else ys) ≡ (among k (i ∷ xs) && c)
later i k xs ys true c ne h = rw (ne_eqb i k ne) h
later i k xs ys false c ne h = rw (ne_eqb i k ne) h

among_filter : (p : ℕ → Bool) (k : ℕ) (xs : List ℕ) → among k (filter p xs) ≡ (among k xs && p k)
among_filter p k [] = refl
among_filter p k (i ∷ xs) = elim (cases_eq i k) [
  | inl e ↦ subst (λ n. among n (filter p (i ∷ xs)) ≡ (among n (i ∷ xs) && p n)) e (here i xs (filter p xs) (p i) (among_filter p i xs))
  | inr ne ↦ later i k xs (filter p xs) (p i) (p k) ne (among_filter p k xs)
]

among_range : (k from n : ℕ) → from ≤ k → k < from + n → among k (range_with_len from n) ≡ true
among_range k from zero h l = absurd (omega arith)
among_range k from (suc n) h l = elim (cases_eq from k) [
  | inl e ↦ subst (λ (i : ℕ). among i (from ∷ range_with_len (from + 1) n) ≡ true) e (rw (eq-eqb from from refl))
  | inr ne ↦ rw (ne_eqb from k ne) (among_range k (from + 1) n (omega arith) (omega arith))
]

among_below : (sup : ℕ → Option ℕ) (s k : ℕ) → k < slots → among k (slots_below sup s) ≡ is_below sup s k
unfolding slots_below
among_below sup s k l =
    among_filter (is_below sup s) k (range_with_len 0 slots) ∙ ap (λ (b : Bool). b && is_below sup s k) (among_range k 0 slots (omega arith) (omega arith))

-- the superiors of the machine are those of the jobs
superior_by : (t : Store) (c : Core) (s : Option ℕ) (a : Option (ℕ × ℕ)) (o : Option Job) → (o ≡ None → s ≡ None) → superior_in (raw_of t c s a o) ≡ s
superior_by t c s a (Some j) h = refl
superior_by t c s a None h = sym (h refl)

superiors_are : (s : Seen) → IsTree s.jobs.now.jobs s.jobs.now.superiors → superiors (machine_seen s) ≡ superior_at s.jobs.now
superiors_are s t = λ i k. superior_by s.files.now (core_at s.core.now k) (superior_at s.jobs.now k) (alarm_at s.alarms.now.items k)
    (job_at s.jobs.now k) (t.owned k) i

pub below_seen : (s : Seen) (j k : ℕ) → IsTree s.jobs.now.jobs s.jobs.now.superiors → k < slots
    → is_below (superior_at s.jobs.now) j k ≡ among k (slots_below (superiors (machine_seen s)) j)
below_seen s j k t l = sym (among_below (superior_at s.jobs.now) j k l) ∙ ap (λ sup. among k (slots_below sup j)) (sym (superiors_are s t))

-- the slots below one, and one more
listed_by : (k : ℕ) (o : Option ℕ) → among k (listed o) ≡ is_listed k o
listed_by k None = refl
listed_by k (Some s) = or_false (s == k)
  where
    or_false : (b : Bool) → (b || false) ≡ b
    or_false true = refl
    or_false false = refl

pub with_listed : (k : ℕ) (xs : List ℕ) (o : Option ℕ) → among k (xs ++ listed o) ≡ (among k xs || is_listed k o)
with_listed k xs o = list_any-append (λ q. q == k) xs (listed o) ∙ ap (λ b. among k xs || b) (listed_by k o)

pub is_one : (k : ℕ) (o : Option ℕ) → is_listed k o ≡ among k (listed o)
is_one k o = sym (listed_by k o)
