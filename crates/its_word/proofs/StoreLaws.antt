-- Checking and making stores, one at a time.
use Rattle.std.proofs.Common.{◌≡◌, ◌≢◌, ◌<◌, ◌≤◌, ◌+◌, ℕ, Bool, true, false, List, [], ◌∷◌, length, get_or, drop, Option, Some, None, is_none, is_some, refl, sym, ◌∙◌, ap, subst}
use Rattle.std.specs.Option.{option_or}
use Rattle.std.proofs.lemmas.List.{drop_more}
use Rattle.std.proofs.Math.ListN.{drop_of_length-le}
use Rattle.its_word.specs.Core.{Core, word_at, can_store, store}
use Rattle.its_word.specs.Only.{Only}
use Rattle.its_word.specs.declared.access.Fault.{Fault}
use Rattle.its_word.specs.declared.plan.Store.{Store}
use Rattle.its_word.proofs.CoreLaws.{can_store-store, is_some-store}
use Rattle.its_word.specs.Stores.{first_fault, place, refused, refusal, stored}

-- the first fault of no store, and of one with others after it
fault_of_cons : (c : Core) (s : Store) (ss : List Store) → first_fault c (s ∷ ss) ≡ option_or (refused c (place s)) (first_fault c ss)
unfolding first_fault
fault_of_cons c s ss = refl

pub fault_of_none : (c : Core) → first_fault c [] ≡ None
unfolding first_fault
fault_of_none c = refl

pub fault_of_more : (c : Core) (ss : List Store) (i : ℕ) (d : Store) → i < length ss
    → first_fault c (drop i ss) ≡ option_or (refused c (place (get_or ss i d))) (first_fault c (drop (i + 1) ss))
fault_of_more c ss i d h = ap (first_fault c) (drop_more ss i d h) ∙ fault_of_cons c (get_or ss i d) (drop (i + 1) ss)

pub fault_here : (c : Core) (ss : List Store) (i : ℕ) (s : Store) (f : Fault) → s ≡ get_or ss i s → i < length ss
    → refused c (place s) ≡ Some f → first_fault c (drop i ss) ≡ Some f
fault_here c ss i s f e h r =
    fault_of_more c ss i s h
    ∙ ap (λ t. option_or (refused c (place t)) (first_fault c (drop (i + 1) ss))) (sym e)
    ∙ ap (λ r. option_or r (first_fault c (drop (i + 1) ss))) r

pub fault_further : (c : Core) (ss : List Store) (i : ℕ) (s : Store) → s ≡ get_or ss i s → i < length ss
    → refused c (place s) ≡ None → first_fault c (drop (i + 1) ss) ≡ first_fault c (drop i ss)
fault_further c ss i s e h r =
    sym
    (fault_of_more c ss i s h
    ∙ ap (λ t. option_or (refused c (place t)) (first_fault c (drop (i + 1) ss))) (sym e)
    ∙ ap (λ r. option_or r (first_fault c (drop (i + 1) ss))) r)

-- the core after one store with others after it
pub stored_cons : (c : Core) (s : Store) (ss : List Store) → stored c (s ∷ ss) ≡ stored (store c (place s) s.word) ss
unfolding stored
stored_cons c s ss = refl

pub stored_none : (c : Core) → stored c [] ≡ c
unfolding stored
stored_none c = refl

pub stored_more : (c : Core) (ss : List Store) (i : ℕ) (d : Store) → i < length ss
    → stored c (drop i ss) ≡ stored (store c (place (get_or ss i d)) (get_or ss i d).word) (drop (i + 1) ss)
stored_more c ss i d h = ap (stored c) (drop_more ss i d h) ∙ stored_cons c (get_or ss i d) (drop (i + 1) ss)

-- a store changes no fault
pub same_refusal : (b : Bool) (x y : Option ℕ) → is_some x ≡ is_some y → refusal b x ≡ refusal b y
same_refusal true x y h = refl
same_refusal false None None h = refl
same_refusal false None (Some y) h = cc
same_refusal false (Some x) None h = cc
same_refusal false (Some x) (Some y) h = refl

pub fault_stored : (c : Core) (a w : ℕ) (ss : List Store) → first_fault (store c a w) ss ≡ first_fault c ss
fault_stored c a w [] = fault_of_none (store c a w) ∙ sym (fault_of_none c)
fault_stored c a w (s ∷ ss) =
    fault_of_cons (store c a w) s ss
    ∙ ap (λ b. option_or (refusal b (word_at (store c a w) (place s))) (first_fault (store c a w) ss)) (can_store-store c a (place s) w)
    ∙ ap (λ r. option_or r (first_fault (store c a w) ss)) (same_refusal (can_store c (place s)) (word_at (store c a w) (place s))
    (word_at c (place s)) (is_some-store c a (place s) w))
    ∙ ap (λ r. option_or (refused c (place s)) r) (fault_stored c a w ss)
    ∙ sym (fault_of_cons c s ss)

-- if nothing is refused, the first store can be made, and the rest is not refused
can_by : (b : Bool) (x : Option ℕ) (r : Option Fault) → option_or (refusal b x) r ≡ None → (b ≡ true) × (r ≡ None)
can_by true x r h = (refl, h)
can_by false None r h = cc
can_by false (Some w) r h = cc

-- stores that are being made: nothing that is left is refused, and it makes of the core what all
-- make of it
pub record Making (old now : ℕ → Core) (slot : ℕ) (all rest : List Store) : Type 0 where
  pub others : (k : ℕ) → k ≢ slot → now k ≡ old k
  pub same : stored (now slot) rest ≡ stored (old slot) all
  pub allowed : first_fault (now slot) rest ≡ None

pub making_begins : (old : ℕ → Core) (slot : ℕ) (all : List Store) → first_fault (old slot) all ≡ None → Making old old slot all (drop 0 all)
making_begins old slot all h = record { others = λ k ne. refl; same = refl; allowed = h }

pub making_allows : (old now : ℕ → Core) (slot : ℕ) (all : List Store) (i : ℕ) (d : Store) → Making old now slot all (drop i all) → i < length all
    → can_store (now slot) (place (get_or all i d)) ≡ true
making_allows old now slot all i d m h = (can_by _ _ _ (sym (fault_of_more (now slot) all i d h) ∙ m.allowed)).0

making_next : (old now new : ℕ → Core) (slot : ℕ) (all : List Store) (i : ℕ) (d : Store) → Making old now slot all (drop i all) → i < length all
    → Only now new slot (store (now slot) (place (get_or all i d)) (get_or all i d).word) → Making old new slot all (drop (i + 1) all)
making_next old now new slot all i d m h o =
    let s = get_or all i d in
    let rest = drop (i + 1) all in
    let a : first_fault (now slot) rest ≡ None = (can_by _ _ _ (sym (fault_of_more (now slot) all i d h) ∙ m.allowed)).1 in
    record {
      others = λ k ne. o.others k ne ∙ m.others k ne;
      same = ap (λ c. stored c rest) o.here ∙ sym (stored_more (now slot) all i d h) ∙ m.same;
      allowed = ap (λ c. first_fault c rest) o.here ∙ fault_stored (now slot) (place s) s.word rest ∙ a;
    }

pub making_goes_on : (old now new : ℕ → Core) (slot : ℕ) (all : List Store) (i : ℕ) (s : Store) → s ≡ get_or all i s
    → Making old now slot all (drop i all) → i < length all
    → Only now new slot (store (now slot) (place s) s.word) → Making old new slot all (drop (i + 1) all)
making_goes_on old now new slot all i s e m h put =
    making_next old now new slot all i s m h (subst (λ t. Only now new slot (store (now slot) (place t) t.word)) e put)

pub making_ends : (old now : ℕ → Core) (slot : ℕ) (all : List Store) (i : ℕ) → Making old now slot all (drop i all) → length all ≤ i
    → Only old now slot (stored (old slot) all)
making_ends old now slot all i m h = record {
  here = sym (stored_none (now slot)) ∙ ap (stored (now slot)) (sym (drop_of_length-le all h)) ∙ m.same;
  others = m.others;
}

-- a word can be stored exactly if nothing is said against it
none_of : (b : Bool) (x : Option ℕ) → is_none (refusal b x) ≡ b
none_of true x = refl
none_of false None = refl
none_of false (Some w) = refl

pub none_refused : (c : Core) (a : ℕ) → is_none (refused c a) ≡ can_store c a
none_refused c a = none_of (can_store c a) (word_at c a)
