-- The changes of a call, one after another, and what comes after them.
use Rattle.std.specs.Prelude.{◌≡◌, ◌<◌, ◌≤◌, ℕ, suc, ◌+◌, Option, Some, None, is_some, option_map, List, ◌∷◌, length, slice_index_or, refl}
use Rattle.std.proofs.Common.{sym, ap, ◌∙◌, subst, arith, drop, drop-cons, inl, inr}
use Rattle.std.proofs.lemmas.Bool.{cases_eq}
use Rattle.std.proofs.lemmas.List.{drop_all}
use Rattle.its_word.specs.Stores.{first_fault}
use Rattle.its_records.specs.declared.calls.Exit.{Exit}
use Rattle.its_word.specs.declared.plan.Store.{Store}
use Rattle.its_frame.specs.declared.change.Change.{Change}
use Rattle.its_frame.specs.declared.change.Change.TheVariants as changes
use Rattle.its_plain.specs.Call.Step.{after_end}
use Rattle.its_plain.specs.Machine.Change.{effect, effects, in_job, on_slot, after_removal, superiors}
use Rattle.its_plain.specs.Machine.{Machine, Whole, core_of}
use Rattle.its_plain.specs.Machine.Own.{after_leave, with_stores}
use Rattle.its_plain.proofs.MachineLaws.{machine_is}
use Rattle.its_shared.specs.Can.{CanMake, CanMakeAll, HasJob}
use Rattle.its_shared.proofs.PartLaws.{on_slot_here, on_slot_other}
use Rattle.its_direct.specs.Effects.{Becomes}
use Rattle.its_direct.specs.Plain.{machine_of}
use Rattle.its_direct.specs.declared.plain.Plain.{Plain}
use Rattle.its_direct.proofs.TouchLaws.{slot_some}

pub record Applying (cs : List Change) (j : ℕ) (old now : Plain) (i : ℕ) : Type 0 where
  pub rest : effects (drop i cs) j (machine_of now) ≡ effects cs j (machine_of old)
  pub can : CanMakeAll (drop i cs) j (machine_of now)
  pub place : now.place ≡ old.place
  pub touched : now.touched ≡ old.touched

pub applying_start : (cs : List Change) (j : ℕ) (p : Plain) → CanMakeAll cs j (machine_of p) → Applying cs j p p 0
applying_start cs j p can = record { rest = refl; can = can; place = refl; touched = refl }

head_is : (cs : List Change) (i : ℕ) (c : Change) → i < length cs → c ≡ slice_index_or cs i c → drop i cs ≡ c ∷ drop (i + 1) cs
head_is cs i c l h = drop-cons cs i c l ∙ (λ t. sym h t ∷ drop (step t) cs)
  where
    step : suc i ≡ i + 1
    step = omega arith

pub applying_can : (cs : List Change) (j : ℕ) (old now : Plain) (i : ℕ) (c : Change) → i < length cs → c ≡ slice_index_or cs i c
    → Applying cs j old now i → CanMake c j (machine_of now)
applying_can cs j old now i c l h a = (subst (λ ds. CanMakeAll ds j (machine_of now)) (head_is cs i c l h) a.can).0

pub applying_next : (cs : List Change) (j : ℕ) (old now new : Plain) (i : ℕ) (c : Change) → i < length cs → c ≡ slice_index_or cs i c
    → Applying cs j old now i
    → Becomes now new (effect c j (machine_of now)) → Applying cs j old new (i + 1)
applying_next cs j old now new i c l h a b = record {
  rest = ap (effects (drop (i + 1) cs) j) b.machine ∙ sym (ap (λ ds. effects ds j (machine_of now)) (head_is cs i c l h)) ∙ a.rest;
  can = subst (CanMakeAll (drop (i + 1) cs) j) (sym b.machine) (subst (λ ds. CanMakeAll ds j (machine_of now)) (head_is cs i c l h) a.can).1;
  place = b.place ∙ a.place;
  touched = b.touched ∙ a.touched;
}

pub applying_end : (cs : List Change) (j : ℕ) (old now : Plain) (i : ℕ) → length cs ≤ i → Applying cs j old now i
    → Becomes old now (effects cs j (machine_of old))
applying_end cs j old now i le a = record {
  machine = sym (ap (λ ds. effects ds j (machine_of now)) (drop_all i cs le)) ∙ a.rest;
  place = a.place;
  touched = a.touched;
}

-- after them
pub becomes_then : (old mid new : Plain) (m n : Machine) (f : Machine → Machine) → Becomes old mid m → Becomes mid new (f (machine_of mid))
    → f m ≡ n → Becomes old new n
becomes_then old mid new m n f a b e = record { machine = b.machine ∙ ap f a.machine ∙ e; place = b.place ∙ a.place; touched = b.touched ∙ a.touched }

pub twice : (m : Machine) (s : ℕ) (f g : Whole → Whole) → in_job (in_job m s f) s g ≡ in_job m s (λ q. g (f q))
twice m s f g = machine_is _ _ (λ k. elim (cases_eq k s) [
  | inl e ↦
      ap (on_slot (on_slot m.jobs s f) s g) e ∙ on_slot_here (on_slot m.jobs s f) s g ∙ ap (option_map g) (on_slot_here m.jobs s f) ∙ map_twice (m.jobs s)
      ∙ sym (ap (on_slot m.jobs s (λ q. g (f q))) e ∙ on_slot_here m.jobs s (λ q. g (f q)))
  | inr ne ↦ on_slot_other (on_slot m.jobs s f) s k g ne ∙ on_slot_other m.jobs s k f ne ∙ sym (on_slot_other m.jobs s k (λ q. g (f q)) ne)
]) (λ k. refl) (λ k. refl) refl refl refl (λ k. refl) (λ k. refl)
  where
    map_twice : (o : Option Whole) → option_map g (option_map f o) ≡ option_map (λ q. g (f q)) o
    map_twice (Some q) = refl
    map_twice None = refl

pub job_along : (mid : Plain) (m : Machine) (s : ℕ) → machine_of mid ≡ m → HasJob m s → HasJob (machine_of mid) s
job_along mid m s e h = ap (λ (n : Machine). is_some (n.jobs s)) e ∙ h

pub fault_along : (mid : Plain) (m : Machine) (s : ℕ) (ss : List Store) → machine_of mid ≡ m → first_fault (core_of (m.jobs s)) ss ≡ None
    → first_fault (core_of ((machine_of mid).jobs s)) ss ≡ None
fault_along mid m s ss e h = ap (λ (n : Machine). first_fault (core_of (n.jobs s)) ss) e ∙ h

pub job_still : (mid new : Plain) (s : ℕ) (f : Whole → Whole) → machine_of new ≡ in_job (machine_of mid) s f → HasJob (machine_of mid) s
    → HasJob (machine_of new) s
job_still mid new s f e h = ap (λ (n : Machine). is_some (n.jobs s)) e ∙ slot_some (machine_of mid).jobs s f s ∙ h

pub finished : (old mid put new : Plain) (s : ℕ) (m : Machine) (ss : List Store) (e : Exit) → Becomes old mid m
    → Becomes mid put (in_job (machine_of mid) s (with_stores ss))
    → Becomes put new (in_job (machine_of put) s (after_leave e)) → Becomes old new (in_job m s (after_end ss (after_leave e)))
finished old mid put new s m ss e a b c =
    becomes_then old put new (in_job m s (with_stores ss)) (in_job m s (after_end ss (after_leave e))) (λ n. in_job n s (after_leave e))
    (becomes_then old mid put m (in_job m s (with_stores ss)) (λ n. in_job n s (with_stores ss)) a b refl) c (twice m s (with_stores ss) (after_leave e))

pub removed_is : (m : Machine) (s j : ℕ) → after_removal (superiors m) s m ≡ effect (changes.Remove s) j m
unfolding effect
removed_is m s j = refl

pub departed_can : (mid : Plain) (m : Machine) (s : ℕ) (cs : List Change) → machine_of mid ≡ after_removal (superiors m) s m
    → CanMakeAll cs s (effect (changes.Remove s) s m) → CanMakeAll cs s (machine_of mid)
departed_can mid m s cs e h = subst (CanMakeAll cs s) (sym (e ∙ removed_is m s s)) h

pub departed : (old mid new : Plain) (s : ℕ) (cs : List Change)
    → Becomes old mid (after_removal (superiors (machine_of old)) s (machine_of old)) → Becomes mid new (effects cs s (machine_of mid))
    → Becomes old new (effects (changes.Remove s ∷ cs) s (machine_of old))
departed old mid new s cs a b = becomes_then old mid new (after_removal (superiors (machine_of old)) s (machine_of old))
    (effects (changes.Remove s ∷ cs) s (machine_of old)) (effects cs s) a b
    (ap (effects cs s) (removed_is (machine_of old) s s))
