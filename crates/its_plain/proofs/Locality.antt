-- Locality: what a part of a decoding gives depends on the words that it reads, and on whether the
-- words that it tests are there and can be stored, and on nothing else of core.
use Rattle.std.proofs.Common.{◌≡◌, ℕ, zero, suc, ◌+◌, ◌%◌, ◌^◌, ◌==◌, true, false, List, [], ◌∷◌, ◌++◌, Option, Some, None, Result, Ok, Err, refl, sym, ◌∙◌, ap, subst, inl, inr, is_some, ok_or, unwrap_or, arith}
use Rattle.std.specs.List.{Contains}
use Rattle.std.proofs.lemmas.Bool.{cases_Bool}
use Rattle.std.proofs.lemmas.List.Elements.{Contains-append_left, Contains-append_right}
use Rattle.its_word.specs.Word.{right_of}
use Rattle.its_word.specs.Core.{Core, word_at, can_store}
use Rattle.its_word.specs.Address.{Addressed, calculation, followed, found, index_of, index_places, indexed, is_indirect, last_used, reading}
use Rattle.its_word.proofs.AddressLaws.{calculation_direct, calculation_spent}
use Rattle.its_word.specs.declared.access.Fault.{Fault}
use Rattle.its_word.specs.declared.access.Fault.TheVariants.{Mpv}
use Rattle.its_plain.specs.Unit.Plans.{read_of}
use Rattle.its_plain.specs.Unit.Trace.{Traced, also, goes_on, located, located_by, plainly, word}
use Rattle.its_word.specs.Stores.{refusal}
use Rattle.its_plain.specs.Call.Decode.{held, storable, there, allowed}
use Rattle.its_word.proofs.StoreLaws.{same_refusal}

-- two cores that have a word at the same places among these, and can be stored to at the same ones
pub record Alike (a b : Core) (p : ℕ) : Type 0 where
  pub there : is_some (word_at b p) ≡ is_some (word_at a p)
  pub stores : can_store b p ≡ can_store a p

-- two cores with the same words at some places
pub record Words (places : List ℕ) (a b : Core) : Type 0 where
  pub same : (p : ℕ) → Contains places p → word_at b p ≡ word_at a p

-- two cores that agree in the words that are read, and in what is tested
pub record Agree (reads tests : List ℕ) (a b : Core) : Type 0 where
  pub words : (p : ℕ) → Contains reads p → word_at b p ≡ word_at a p
  pub marks : (p : ℕ) → Contains tests p → Alike a b p

-- a part that gives the same, and reads and tests the same places, in two cores that agree in these
pub record Local {X : Type 0} (m : Core → Traced X) : Type 0 where
  pub same : (a b : Core) → Agree (m a).reads (m a).tests a b → m b ≡ m a

agree_left : (xs ys us vs : List ℕ) (a b : Core) → Agree (xs ++ ys) (us ++ vs) a b → Agree xs us a b
agree_left xs ys us vs a b g = record {
  words = λ p i. g.words p (Contains-append_left xs ys p i);
  marks = λ p i. g.marks p (Contains-append_left us vs p i);
}

agree_right : (xs ys us vs : List ℕ) (a b : Core) → Agree (xs ++ ys) (us ++ vs) a b → Agree ys vs a b
agree_right xs ys us vs a b g = record {
  words = λ p i. g.words p (Contains-append_right xs ys p i);
  marks = λ p i. g.marks p (Contains-append_right us vs p i);
}

-- a part and then another
also_same : {X Y : Type 0} (m : Core → Traced X) (k : X → Core → Traced Y) (lm : Local m) (lk : (x : X) → Local (k x)) (a b : Core) (r : Result X Fault)
    → Agree (goes_on (m a).reads (m a).tests r (λ x. k x a)).reads (goes_on (m a).reads (m a).tests r (λ x. k x a)).tests a b
    → (m b ≡ m a) × (goes_on (m a).reads (m a).tests r (λ x. k x b) ≡ goes_on (m a).reads (m a).tests r (λ x. k x a))
also_same {Y = Y} m k lm lk a b (Ok x) g = (
  lm.same a b (agree_left (m a).reads (k x a).reads (m a).tests (k x a).tests a b g),
  let e = (lk x).same a b (agree_right (m a).reads (k x a).reads (m a).tests (k x a).tests a b g) in
      ap (λ (t : Traced Y). goes_on (m a).reads (m a).tests (Ok x) (λ _. t)) e,
)
also_same m k lm lk a b (Err f) g = (lm.same a b g, refl)

pub local_also : {X Y : Type 0} (m : Core → Traced X) (k : X → Core → Traced Y) → Local m → ((x : X) → Local (k x)) → Local (λ c. also (m c) (λ x. k x c))
unfolding also
local_also m k lm lk = record {
  same = λ a b g.
      let r = also_same m k lm lk a b (m a).answer g in
      ap (λ t. goes_on t.reads t.tests t.answer (λ x. k x b)) r.0 ∙ r.1;
}

pub local_plainly : {X : Type 0} (r : Result X Fault) → Local (λ c. plainly r)
local_plainly r = record { same = λ a b g. refl }

here : (p : ℕ) (ps : List ℕ) → Contains (p ∷ ps) p
here p ps = (0, omega arith, refl)

pub local_word : (p : ℕ) → Local (λ c. word c p)
unfolding word read_of
local_word p = record { same = λ a b g. ap (λ w. record { answer = ok_or w Mpv; reads = p ∷ []; tests = [] }) (g.words p (here p [])) }

there_same : (p : ℕ) (x y : Option ℕ) → is_some y ≡ is_some x → there p y ≡ there p x
there_same p None None h = refl
there_same p None (Some w) h = cc
there_same p (Some v) None h = cc
there_same p (Some v) (Some w) h = refl

pub local_held : (p : ℕ) → Local (λ c. held c p)
unfolding held
local_held p = record {
  same = λ a b g. ap (λ r. record { answer = r; reads = []; tests = p ∷ [] }) (there_same p (word_at a p) (word_at b p) (g.marks p (here p [])).there);
}

pub local_storable : (p : ℕ) → Local (λ c. storable c p)
unfolding storable
local_storable p = record {
  same = λ a b g.
      let m = g.marks p (here p []) in
      ap (λ f. record { answer = allowed p f; reads = []; tests = p ∷ [] })
      (ap (λ s. refusal s (word_at b p)) m.stores ∙ same_refusal (can_store a p) (word_at b p) (word_at a p) m.there);
}

-- effective addresses: index registers and indirect words are read
indexed_same : (a b : Core) (w : ℕ) (last : Option ℕ) → ((p : ℕ) → Contains (index_places w) p → word_at b p ≡ word_at a p)
    → (indexed b w ≡ indexed a w) × (last_used b w last ≡ last_used a w last)
unfolding index_places indexed last_used
indexed_same a b w last h = elim (cases_Bool (index_of w == 0)) [
  | inl t ↦ (rw t refl, rw t refl)
  | inr t ↦
      let e : word_at b (index_of w) ≡ word_at a (index_of w) = (rw t at h) (index_of w) (here (index_of w) []) in
      (rw t (ap (λ v. (right_of w + right_of (unwrap_or v 0)) % 2 ^ 18) e), rw t (ap (λ v. Some (unwrap_or v 0)) e))
]

pub calculation_next : (n : ℕ) (c : Core) (w : ℕ) (last : Option ℕ) → is_indirect w ≡ true
    → calculation (suc n) c w last ≡ reading (index_places w)
    (reading (indexed c w ∷ []) (followed n (λ v. calculation n c v (Some v)) (word_at c (indexed c w))))
unfolding calculation
calculation_next n c w last t = rw t refl

direct_same : (n : ℕ) (a b : Core) (w : ℕ) (last : Option ℕ) → is_indirect w ≡ false
    → ((p : ℕ) → Contains (calculation n a w last).reads p → word_at b p ≡ word_at a p) → calculation n b w last ≡ calculation n a w last
direct_same n a b w last t h =
    let e = calculation_direct n a w last t in
    let i = indexed_same a b w last (λ p j. h p (subst (λ r. Contains r.reads p) (sym e) (Contains-append_left (index_places w) [] p j))) in
    calculation_direct n b w last t
    ∙ ap (λ x. reading (index_places w) (found n x (last_used b w last))) i.0
    ∙ ap (λ x. reading (index_places w) (found n (indexed a w) x)) i.1
    ∙ sym e

next_same : (n : ℕ) (a b : Core) (w : ℕ) (last : Option ℕ) → is_indirect w ≡ true
    → ((v : ℕ) → ((p : ℕ) → Contains (calculation n a v (Some v)).reads p → word_at b p ≡ word_at a p)
    → calculation n b v (Some v) ≡ calculation n a v (Some v))
    → ((p : ℕ) → Contains (calculation (suc n) a w last).reads p → word_at b p ≡ word_at a p)
    → (o : Option ℕ) → word_at a (indexed a w) ≡ o → calculation (suc n) b w last ≡ calculation (suc n) a w last
next_same n a b w last t rest h o eo =
    let ea = calculation_next n a w last t in
    let g = λ (p : ℕ) (j : Contains (index_places w ++ (indexed a w
    ∷ [] ++ (followed n (λ v. calculation n a v (Some v)) (word_at a (indexed a w))).reads)) p).
    h p (subst (λ r. Contains r.reads p) (sym ea) j) in
    let i = indexed_same a b w last (λ p j. g p (Contains-append_left (index_places w) _ p j)) in
    let more = λ (p : ℕ) (j : Contains (indexed a w ∷ [] ++ (followed n (λ v. calculation n a v (Some v)) (word_at a (indexed a w))).reads) p).
    g p (Contains-append_right (index_places w) _ p j) in
    let e : word_at b (indexed a w) ≡ word_at a (indexed a w) = more (indexed a w) (here (indexed a w) _) in
    calculation_next n b w last t
    ∙ ap (λ x. reading (index_places w) (reading (x ∷ []) (followed n (λ v. calculation n b v (Some v)) (word_at b x)))) i.0
    ∙ ap (λ x. reading (index_places w) (reading (indexed a w ∷ []) x))
    (ap (followed n (λ v. calculation n b v (Some v))) e ∙ by o eo (λ p j. more p (Contains-append_right (indexed a w ∷ []) _ p j)))
    ∙ sym ea
  where
    by : (o : Option ℕ) → word_at a (indexed a w) ≡ o
        → ((p : ℕ) → Contains (followed n (λ v. calculation n a v (Some v)) (word_at a (indexed a w))).reads p → word_at b p ≡ word_at a p)
        → followed n (λ v. calculation n b v (Some v)) (word_at a (indexed a w)) ≡ followed n (λ v. calculation n a v (Some v)) (word_at a (indexed a w))
    by (Some v) e h = rw e (rest v (rw e at h))
    by None e h = rw e refl

calculation_same : (n : ℕ) (a b : Core) (w : ℕ) (last : Option ℕ) → ((p : ℕ) → Contains (calculation n a w last).reads p → word_at b p ≡ word_at a p)
    → calculation n b w last ≡ calculation n a w last
calculation_same zero a b w last h = elim (cases_Bool (is_indirect w)) [
  | inl t ↦ calculation_spent zero b w last t refl ∙ sym (calculation_spent zero a w last t refl)
  | inr t ↦ direct_same zero a b w last t h
]
calculation_same (suc n) a b w last h = elim (cases_Bool (is_indirect w)) [
  | inl t ↦ next_same n a b w last t (λ v. calculation_same n a b v (Some v)) h (word_at a (indexed a w)) refl
  | inr t ↦ direct_same (suc n) a b w last t h
]

pub local_located : (w used : ℕ) → Local (λ c. located c w used)
unfolding located
local_located w used = record {
  same = λ a b g.
      ap (λ (r : Addressed). record { answer = located_by r.answer r.used; reads = r.reads; tests = [] }) (calculation_same _ a b w None g.words);
}
