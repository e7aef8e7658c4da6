-- The steps of the calculation of an effective address.
use Rattle.std.specs.Prelude.{◌≡◌, ◌≢◌, ◌<◌, ◌≤◌, ℕ, zero, suc, ◌+◌, ◌-◌, ◌*◌, ◌^◌, ◌==◌, true, false, Option, Some, None, Result, Ok, Err, List, [], ◌∷◌, ◌++◌, length, refl}
use Rattle.std.proofs.Common.{sym, ◌∙◌, ap, inl, inr, arith}
use Rattle.std.proofs.lemmas.Bool.{cases_Bool}
use Rattle.std.proofs.lemmas.List.{append-nil, append_assoc, length-append}
use Rattle.its_word.specs.Core.{Core, word_at}
use Rattle.its_word.specs.Limits.{budget}
use Rattle.its_word.specs.Address.{is_indirect, index_of, indexed, index_places, last_used, reading, found, failed, calculation, address}
use Rattle.its_word.specs.declared.access.Address.{Address}
use Rattle.its_word.specs.declared.access.Fault.{Fault}
use Rattle.its_word.specs.declared.access.Fault.TheVariants.{Mpv, Ilo}

-- I is 0
pub calculation_direct : (n : ℕ) (c : Core) (w : ℕ) (last : Option ℕ) → is_indirect w ≡ false
    → calculation n c w last ≡ reading (index_places w) (found n (indexed c w) (last_used c w last))
unfolding calculation
calculation_direct zero c w last h = rw h refl
calculation_direct (suc n) c w last h = rw h refl

-- the whole calculation, if I of its first word is 0
pub direct_answer : (c : Core) (w used : ℕ) → is_indirect w ≡ false
    → (address c w used).answer ≡ Ok (record { e = indexed c w; flags_word = last_used c w None })
direct_answer c w used h = ap (λ r. r.answer) (calculation_direct (budget - used) c w None h)

pub direct_used : (c : Core) (w used : ℕ) → is_indirect w ≡ false → used ≤ budget → (address c w used).used ≡ used
direct_used c w used h le = ap (λ r. r.used) (calculation_direct (budget - used) c w None h) ∙ omega arith

-- I is 1 and nothing is left of the budget
pub calculation_spent : (n : ℕ) (c : Core) (w : ℕ) (last : Option ℕ) → is_indirect w ≡ true → n ≡ 0
    → calculation n c w last ≡ reading (index_places w) (failed 0 Ilo)
unfolding calculation
calculation_spent zero c w last h e = rw h refl
calculation_spent (suc n) c w last h e = absurd (omega arith)

-- the indirect word is absent
pub calculation_absent : (n : ℕ) (c : Core) (w : ℕ) (last : Option ℕ) → is_indirect w ≡ true → n ≢ 0 → word_at c (indexed c w) ≡ None
    → calculation n c w last ≡ reading (index_places w) (reading (indexed c w ∷ []) (failed (n - 1) Mpv))
unfolding calculation
calculation_absent zero c w last h ne e = absurd (ne refl)
calculation_absent (suc n) c w last h ne e = let p : suc n - 1 ≡ n = omega arith in rw (p, h, e) refl

-- the indirect word is the next address word
pub calculation_more : (n : ℕ) (c : Core) (w : ℕ) (last : Option ℕ) (v : ℕ) → is_indirect w ≡ true → n ≢ 0 → word_at c (indexed c w) ≡ Some v
    → calculation n c w last ≡ reading (index_places w) (reading (indexed c w ∷ []) (calculation (n - 1) c v (Some v)))
unfolding calculation
calculation_more zero c w last v h ne e = absurd (ne refl)
calculation_more (suc n) c w last v h ne e = let p : suc n - 1 ≡ n = omega arith in rw (p, h, e) refl

-- two steps in one list of places
pub index_places_few : (w : ℕ) → length (index_places w) ≤ 1
unfolding index_places
index_places_few w = elim (cases_Bool (index_of w == 0)) [ inl t ↦ rw t (omega arith) | inr t ↦ rw t (omega arith) ]

pub indexed_below : (c : Core) (w : ℕ) → indexed c w < 2 ^ 18
unfolding indexed
indexed_below c w = elim (cases_Bool (index_of w == 0)) [ inl t ↦ rw t (omega arith) | inr t ↦ rw t (omega arith) ]

-- what is left of a calculation, after some words were read
pub record Along (c : Core) (w used : ℕ) (reads : List ℕ) (now word : ℕ) (last : Option ℕ) (seen : List ℕ) : Type 0 where
  pub answer : (address c w used).answer ≡ (calculation (budget - now) c word last).answer
  pub spent : (address c w used).used ≡ (calculation (budget - now) c word last).used
  pub places : reads ++ (address c w used).reads ≡ seen ++ (calculation (budget - now) c word last).reads
  pub more : used ≤ now
  pub most : now ≤ budget
  pub few : length seen + 2 * used ≤ length reads + 2 * now

pub along_start : (c : Core) (w used : ℕ) (reads : List ℕ) → used ≤ budget → Along c w used reads used w None reads
along_start c w used reads h = record { answer = refl; spent = refl; places = refl; more = omega arith; most = h; few = omega arith }

pub along_more : (c : Core) (w used : ℕ) (reads : List ℕ) (now word : ℕ) (last : Option ℕ) (seen : List ℕ) (v : ℕ)
    → Along c w used reads now word last seen → is_indirect word ≡ true → now ≢ budget → word_at c (indexed c word) ≡ Some v
    → Along c w used reads (now + 1) v (Some v) (seen ++ index_places word ++ indexed c word ∷ [])
along_more c w used reads now word last seen v a i ne e =
    let most = a.most in
    let m = a.more in
    let f = a.few in
    let s = calculation_more (budget - now) c word last v i (λ z. ne (omega arith)) e in
    let n : budget - now - 1 ≡ budget - (now + 1) = omega arith in
    let t : calculation (budget - now) c word last ≡ reading (index_places word)
    (reading (indexed c word ∷ []) (calculation (budget - (now + 1)) c v (Some v))) = rw (← n) s in
    let p = index_places_few word in
    let x = length-append (seen ++ index_places word) (indexed c word ∷ []) in
    let y = length-append seen (index_places word) in
    record {
      answer = a.answer ∙ ap (λ r. r.answer) t;
      spent = a.spent ∙ ap (λ r. r.used) t;
      places = a.places ∙ ap (λ r. seen ++ r.reads) t ∙ joined seen (index_places word) (indexed c word)
          (calculation (budget - (now + 1)) c v (Some v)).reads;
      more = omega arith;
      most = omega arith;
      few = omega arith;
    }
  where
    joined : (xs ys : List ℕ) (z : ℕ) (zs : List ℕ) → xs ++ (ys ++ (z ∷ [] ++ zs)) ≡ xs ++ ys ++ z ∷ [] ++ zs
    joined xs ys z zs = sym (append_assoc (xs ++ ys) (z ∷ []) zs ∙ append_assoc xs ys (z ∷ [] ++ zs))

-- the end of the calculation
pub record Ended (c : Core) (w used : ℕ) (reads : List ℕ) (answer : Result Address Fault) (now : ℕ) (seen : List ℕ) : Type 0 where
  pub answer_is : answer ≡ (address c w used).answer
  pub used_is : now ≡ (address c w used).used
  pub reads_is : seen ≡ reads ++ (address c w used).reads
  pub more : used ≤ now
  pub most : now ≤ budget
  pub few : length seen + 2 * used ≤ length reads + 2 * now + 1

pub along_direct : (c : Core) (w used : ℕ) (reads : List ℕ) (now word : ℕ) (last : Option ℕ) (seen : List ℕ)
    → Along c w used reads now word last seen → is_indirect word ≡ false
    → Ended c w used reads (Ok (record { e = indexed c word; flags_word = last_used c word last })) now (seen ++ index_places word)
along_direct c w used reads now word last seen a i =
    let most = a.most in
    let m = a.more in
    let f = a.few in
    let t = calculation_direct (budget - now) c word last i in
    let p = index_places_few word in
    let y = length-append seen (index_places word) in
    record {
      answer_is = sym (a.answer ∙ ap (λ r. r.answer) t);
      used_is = sym (a.spent ∙ ap (λ r. r.used) t ∙ omega arith);
      reads_is = sym (a.places ∙ ap (λ r. seen ++ r.reads) t ∙ ap (λ xs. seen ++ xs) (append-nil (index_places word)));
      more = m;
      most = most;
      few = omega arith;
    }

pub along_spent : (c : Core) (w used : ℕ) (reads : List ℕ) (now word : ℕ) (last : Option ℕ) (seen : List ℕ)
    → Along c w used reads now word last seen → is_indirect word ≡ true → now ≡ budget
    → Ended c w used reads (Err Ilo) now (seen ++ index_places word)
along_spent c w used reads now word last seen a i e =
    let m = a.more in
    let f = a.few in
    let t = calculation_spent (budget - now) c word last i (omega arith) in
    let p = index_places_few word in
    let y = length-append seen (index_places word) in
    record {
      answer_is = sym (a.answer ∙ ap (λ r. r.answer) t);
      used_is = sym (a.spent ∙ ap (λ r. r.used) t ∙ omega arith);
      reads_is = sym (a.places ∙ ap (λ r. seen ++ r.reads) t ∙ ap (λ xs. seen ++ xs) (append-nil (index_places word)));
      more = m;
      most = omega arith;
      few = omega arith;
    }

pub along_absent : (c : Core) (w used : ℕ) (reads : List ℕ) (now word : ℕ) (last : Option ℕ) (seen : List ℕ)
    → Along c w used reads now word last seen → is_indirect word ≡ true → now ≢ budget → word_at c (indexed c word) ≡ None
    → Ended c w used reads (Err Mpv) (now + 1) (seen ++ index_places word ++ indexed c word ∷ [])
along_absent c w used reads now word last seen a i ne e =
    let most = a.most in
    let m = a.more in
    let f = a.few in
    let t = calculation_absent (budget - now) c word last i (λ z. ne (omega arith)) e in
    let p = index_places_few word in
    let x = length-append (seen ++ index_places word) (indexed c word ∷ []) in
    let y = length-append seen (index_places word) in
    record {
      answer_is = sym (a.answer ∙ ap (λ r. r.answer) t);
      used_is = sym (a.spent ∙ ap (λ r. r.used) t ∙ omega arith);
      reads_is = sym (a.places ∙ ap (λ r. seen ++ r.reads) t ∙ sym (append_assoc seen (index_places word) (indexed c word ∷ [])));
      more = omega arith;
      most = omega arith;
      few = omega arith;
    }
