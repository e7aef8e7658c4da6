-- Why a store is not made, by what making it says.
use Rattle.std.proofs.Common.{◌≡◌, [], ◌∷◌, ℕ, Bool, true, false, Option, Some, None, Err, refl, ◌∙◌, ap}
use Rattle.its_word.specs.Core.{Core, can_store, putting, store, word_at}
use Rattle.its_word.specs.Only.{Only}
use Rattle.its_word.specs.Stores.{place, refusal, stored}
use Rattle.its_word.specs.declared.access.Fault.TheVariants.{Mpv, Wro}
use Rattle.its_word.specs.declared.access.NoAccess.TheVariants.{Absent, ReadOnly}
use Rattle.its_word.specs.declared.plan.Store.{Store}
use Rattle.its_word.proofs.CoreLaws.{can_store-store}

pub refused_absent : (c : Core) (a w : ℕ) (b : Bool) (x : Option ℕ) → putting c a w b x ≡ Err Absent → refusal b x ≡ Some Mpv
refused_absent c a w true x h = cc
refused_absent c a w false None h = refl
refused_absent c a w false (Some v) h = cc

pub refused_read_only : (c : Core) (a w : ℕ) (b : Bool) (x : Option ℕ) → putting c a w b x ≡ Err ReadOnly → refusal b x ≡ Some Wro
refused_read_only c a w true x h = cc
refused_read_only c a w false None h = cc
refused_read_only c a w false (Some v) h = refl

pub not_refused : (b : Bool) (x : Option ℕ) → b ≡ true → refusal b x ≡ None
not_refused true x h = refl
not_refused false x h = cc

-- two stores, neither of which is refused
pub storable : (b : Bool) (x : Option ℕ) → refusal b x ≡ None → b ≡ true
storable true x h = refl
storable false None h = cc
storable false (Some v) h = cc

pub still_storable : (old now : ℕ → Core) (slot a w b : ℕ) → Only old now slot (store (old slot) a w)
    → refusal (can_store (old slot) b) (word_at (old slot) b) ≡ None → can_store (now slot) b ≡ true
still_storable old now slot a w b o h = ap (λ c. can_store c b) o.here ∙ can_store-store (old slot) a b w ∙ storable _ _ h

pub two_stored : (old now new : ℕ → Core) (slot : ℕ) (s t : Store) → Only old now slot (store (old slot) (place s) s.word)
    → Only now new slot (store (now slot) (place t) t.word) → Only old new slot (stored (old slot) (s ∷ t ∷ []))
unfolding stored
two_stored old now new slot s t o p = record {
  here = p.here ∙ ap (λ c. store c (place t) t.word) o.here;
  others = λ k ne. p.others k ne ∙ o.others k ne;
}
