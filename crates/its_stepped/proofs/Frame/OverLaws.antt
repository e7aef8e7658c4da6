-- Stores after stores: the pending words of a call, and those that come over them.
use Rattle.std.specs.Prelude.{◌≡◌, ℕ, List, [], ◌∷◌, ◌++◌, refl}
use Rattle.std.proofs.Common.{sym, ◌∙◌, ap, subst, inl, inr}
use Rattle.std.proofs.lemmas.Bool.{cases_eq}
use Rattle.its_word.specs.Core.{Core, word_at, can_store, store}
use Rattle.its_records.specs.declared.calls.Ask.{Ask}
use Rattle.its_word.specs.declared.plan.Store.{Store}
use Rattle.its_word.proofs.CoreLaws.{word_at-store_other, can_store-store, store-store, store_comm}
use Rattle.its_plain.specs.Call.Arguments.{debts}
use Rattle.its_word.specs.Stores.{place, stored}
use Rattle.its_stepped.specs.Sound.{Stored, Debts}
use Rattle.its_stepped.specs.Duty.{AtSome, Apart, Within}

-- a store at a place that is stored to later is lost
over_one : (c : Core) (p v : ℕ) (news : List Store) → AtSome p news → stored (store c p v) news ≡ stored c news
unfolding stored
over_one c p v [] h = absurd h
over_one c p v (s ∷ ss) h = elim (cases_eq p (place s)) [
  | inl e ↦ ap (λ d. stored d ss) (subst (λ (t : ℕ). store (store c t v) (place s) s.word ≡ store c (place s) s.word) (sym e)
      (store-store c (place s) v s.word))
  | inr ne ↦ ap (λ d. stored d ss) (store_comm c p (place s) v s.word ne)
      ∙ over_one (store c (place s) s.word) p v ss (elim h [ inl e ↦ absurd (ne (sym e)) | inr r ↦ r ])
]

pub overwritten : (c : Core) (olds news : List Store) → Within olds news → stored (stored c olds) news ≡ stored c news
unfolding stored
overwritten c [] news h = refl
overwritten c (s ∷ olds) news h = overwritten (store c (place s) s.word) olds news h.1 ∙ over_one c (place s) s.word news h.0

pub stored_both : (c : Core) (xs ys : List Store) → stored c (xs ++ ys) ≡ stored (stored c xs) ys
unfolding stored
stored_both c [] ys = refl
stored_both c (x ∷ xs) ys = stored_both (store c (place x) x.word) xs ys

-- a place apart from stores
pub word_apart : (c : Core) (p : ℕ) (ss : List Store) → Apart p ss → word_at (stored c ss) p ≡ word_at c p
unfolding stored
word_apart c p [] h = refl
word_apart c p (s ∷ ss) h = word_apart (store c (place s) s.word) p ss h.1 ∙ word_at-store_other c (place s) p s.word (λ e. h.0 (sym e))

pub store_apart : (c : Core) (p v : ℕ) (ss : List Store) → Apart p ss → store (stored c ss) p v ≡ stored (store c p v) ss
unfolding stored
store_apart c p v [] h = refl
store_apart c p v (s ∷ ss) h = store_apart (store c (place s) s.word) p v ss h.1 ∙ ap (λ d. stored d ss) (store_comm c (place s) p s.word v h.0)

-- stores change nothing of what can be stored
pub can_stored : (c : Core) (ss : List Store) (p : ℕ) → can_store (stored c ss) p ≡ can_store c p
unfolding stored
can_stored c [] p = refl
can_stored c (s ∷ ss) p = can_stored (store c (place s) s.word) ss p ∙ can_store-store c (place s) p s.word

pub stored_alike : (c d : Core) (ss : List Store) → ((p : ℕ) → can_store d p ≡ can_store c p) → Stored c ss → Stored d ss
stored_alike c d [] same h = tt
stored_alike c d (s ∷ ss) same h = (same (place s) ∙ h.0, stored_alike c d ss same h.1)

pub debts_alike : (c d : Core) (a : Ask) (n : ℕ) → ((p : ℕ) → can_store d p ≡ can_store c p) → Debts c a n → Debts d a n
debts_alike c d a n same h = record { few = h.few; read = h.read; stored = stored_alike c d (debts a n) same h.stored }
