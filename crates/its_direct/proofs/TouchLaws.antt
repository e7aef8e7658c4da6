-- The slots that are marked as touched.
use Rattle.std.specs.Prelude.{◌≡◌, ◌≢◌, ◌<◌, ◌||◌, ℕ, zero, suc, Bool, true, false, not, ◌&&◌, Option, Some, None, is_some, List, [], ◌∷◌, option_map, replicate, slice_index_or, slice_set, refl}
use Rattle.std.proofs.Common.{ap, sym, ◌∙◌, inl, inr, arith}
use Rattle.std.proofs.lemmas.Bool.{cases_eq, eq-eqb, ne_eqb}
use Rattle.std.proofs.lemmas.List.{get_or-set_same, get_or-set_other, length-replicate}
use Rattle.its_plain.specs.Call.Step.{is_made}
use Rattle.its_word.specs.Limits.{slots}
use Rattle.its_plain.specs.Machine.Change.{in_job, on_slot}
use Rattle.its_plain.specs.Call.Footprint.{among}
use Rattle.its_plain.specs.Machine.{Whole, Machine}
use Rattle.its_shared.proofs.PartLaws.{on_slot_here, on_slot_other}
use Rattle.its_direct.specs.Plain.{no_slots}

-- a job that is changed is not made, and no other is
made_not : {X : Type 0} (o p : Option X) → is_some p ≡ is_some o → (not (is_some o) && is_some p) ≡ false
made_not (Some x) p h = refl
made_not None (Some y) h = cc
made_not None None h = refl

some_same : {X : Type 0} (f : X → X) (o : Option X) → is_some (option_map f o) ≡ is_some o
some_same f (Some x) = refl
some_same f None = refl

pub slot_some : {X : Type 0} (jobs : ℕ → Option X) (s : ℕ) (f : X → X) (k : ℕ) → is_some (on_slot jobs s f k) ≡ is_some (jobs k)
slot_some jobs s f k = elim (cases_eq k s) [
  | inl e ↦ ap (λ n. is_some (on_slot jobs s f n)) e ∙ ap is_some (on_slot_here jobs s f) ∙ some_same f (jobs s) ∙ ap (λ n. is_some (jobs n)) (sym e)
  | inr ne ↦ ap is_some (on_slot_other jobs s k f ne)
]

pub none_made : (m n : Machine) (k : ℕ) → is_some (n.jobs k) ≡ is_some (m.jobs k) → is_made m n k ≡ false
none_made m n k h = made_not (m.jobs k) (n.jobs k) h

pub in_job_made : (m : Machine) (s : ℕ) (f : Whole → Whole) (k : ℕ) → is_made m (in_job m s f) k ≡ false
in_job_made m s f k = none_made m (in_job m s f) k (slot_some m.jobs s f k)

-- no slot is marked, or one
copies : (n k : ℕ) → slice_index_or (replicate n false) k false ≡ false
copies zero k = refl
copies (suc n) zero = refl
copies (suc n) (suc k) = copies n k

pub none_touched : (ts : List Bool) → ts ≡ no_slots → (k : ℕ) → slice_index_or ts k false ≡ false
unfolding no_slots
none_touched ts e k = ap (λ (xs : List Bool). slice_index_or xs k false) e ∙ copies slots k

pub one_touched : (new old : List Bool) (s : ℕ) → s < slots → new ≡ slice_set old s true → old ≡ no_slots → (k : ℕ)
    → slice_index_or new k false ≡ among k (s ∷ [])
unfolding no_slots
one_touched new old s l e none k = ap (λ (xs : List Bool). slice_index_or xs k false)
    (e ∙ ap (λ (xs : List Bool). slice_set xs s true) none) ∙ elim (cases_eq k s) [
      | inl is ↦
          ap (λ (n : ℕ). slice_index_or (slice_set (replicate slots false) s true) n false) is
          ∙ get_or-set_same (replicate slots false) s true false (let n = length-replicate slots false in omega arith)
          ∙ sym (ap (λ (n : ℕ). among n (s ∷ [])) is ∙ here s)
      | inr ne ↦ get_or-set_other (replicate slots false) s k true false ne ∙ copies slots k ∙ sym (other s k (λ f. ne (sym f)))
    ]
  where
    here : (s : ℕ) → among s (s ∷ []) ≡ true
    here s = rw (eq-eqb s s refl) refl

    other : (s k : ℕ) → s ≢ k → among k (s ∷ []) ≡ false
    other s k ne = rw (ne_eqb s k ne) refl

pub or_false : (b c : Bool) → c ≡ false → b ≡ (b || c)
or_false true c e = refl
or_false false c e = sym e

pub or_none : (b : Bool) (m n : Machine) (k : ℕ) → is_some (n.jobs k) ≡ is_some (m.jobs k) → b ≡ (b || is_made m n k)
or_none b m n k h = or_false b (is_made m n k) (none_made m n k h)

-- the marks of a step that makes no job
pub step_touched : (ts : List Bool) (m n : Machine) (ks : List ℕ) → ((k : ℕ) → slice_index_or ts k false ≡ among k ks)
    → ((k : ℕ) → is_some (n.jobs k) ≡ is_some (m.jobs k))
    → (k : ℕ) → slice_index_or ts k false ≡ (among k ks || is_made m n k)
step_touched ts m n ks each same k = each k ∙ or_false (among k ks) (is_made m n k) (none_made m n k (same k))
