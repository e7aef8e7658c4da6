-- The bytes of a source, one by one.
use Rattle.std.specs.Prelude.{◌≡◌, ◌≤◌, ◌<◌, ◌+◌, ◌-◌, ◌==◌, ℕ, zero, suc, Option, Some, None, List, [], ◌∷◌, ◌++◌, length, take, drop, get_or, refl}
use Rattle.std.proofs.Common.{sym, ◌∙◌, ap, subst, arith, append-nil, position, true, inl, inr, ltb}
use Rattle.std.proofs.lemmas.Bool.{cases_Bool, ltb-false, ltb-true}
use Rattle.std.proofs.lemmas.List.{drop-drop, drop-take, length-append, length-drop, length-take-le, get_or-take, take-append-drop, take-take, take_all}
use Rattle.std.proofs.Math.ListN.{drop_of_length-le}
use Rattle.std.specs.List.{list_all, position_or_len}
use Rattle.std.specs.Io.KnownBytes.{Consumes, IsAtEnd}
use Rattle.std.proofs.KnownBytes.{Consumes-nil}
use Rattle.its_reader.specs.declared.buffer.Buffer.{Buffer}
use Rattle.its_reader.specs.Bytes.{pending, BufferFits, Given, FilledOn, Taken, TookPlain, is_plain}

pub none_pending : (b : Buffer) → BufferFits b → b.stop ≤ b.start → pending b ≡ []
none_pending b f h = drop_of_length-le (take b.stop b.bytes) (omega (arith, length-take-le b.stop b.bytes f.1))

some_pending : (b : Buffer) → BufferFits b → b.start < b.stop → pending b ≡ [] → ⊥
some_pending b f h e =
    let n : length (pending b) ≡ 0 = ap length e in
    omega (arith, length-drop b.start (take b.stop b.bytes), length-take-le b.stop b.bytes f.1)

pub filled_some : (b : Buffer) (left : Option (List ℕ)) → BufferFits b → b.start < b.stop → FilledOn b b left left
filled_some b left f h = record { read = []; consumed = Consumes-nil left; behind = sym (append-nil (pending b)); empty = λ e. absurd (some_pending b f h e) }

pub filled_read : (old new : Buffer) (count : ℕ) (left rest : Option (List ℕ)) → BufferFits old → BufferFits new → old.stop ≤ old.start
    → new.start ≡ 0 → new.stop ≡ count → Consumes left rest (take count new.bytes)
    → (count ≡ 0 → 0 < length new.bytes → IsAtEnd rest) → FilledOn old new left rest
filled_read old new count left rest f g h z e c a =
    let p : pending new ≡ take count new.bytes = ap (λ k. drop k (take new.stop new.bytes)) z ∙ ap (λ k. take k new.bytes) e in
    record {
      read = take count new.bytes;
      consumed = c;
      behind = p ∙ ap (λ x. x ++ take count new.bytes) (sym (none_pending old f h));
      empty = λ n. a (let l : length (take count new.bytes) ≡ 0 = ap length (sym p ∙ n) in omega
          (arith, length-take-le count new.bytes (subst (λ k. k ≤ length new.bytes) e g.1))) (omega (arith, g.2));
    }

drop_suc : (xs : List ℕ) (i d : ℕ) → i < length xs → drop i xs ≡ get_or xs i d ∷ drop (suc i) xs
drop_suc [] i d h = absurd (omega arith)
drop_suc (x ∷ xs) zero d h = refl
drop_suc (x ∷ xs) (suc i) d h = drop_suc xs i d (omega (arith, h))

drop_one : (xs : List ℕ) (i d : ℕ) → i < length xs → drop i xs ≡ get_or xs i d ∷ drop (i + 1) xs
drop_one xs i d h = let e : suc i ≡ i + 1 = omega arith in drop_suc xs i d h ∙ ap (λ k. get_or xs i d ∷ drop k xs) e

pub taken : (old new : Buffer) (b d : ℕ) → BufferFits old → old.start < old.stop → new.start ≡ old.start + 1 → new.stop ≡ old.stop
    → new.bytes ≡ old.bytes → b ≡ get_or old.bytes old.start d → Given (Some b) (pending old) (pending new)
taken old new b d f h s t u e =
    drop_one (take old.stop old.bytes) old.start d (omega (arith, length-take-le old.stop old.bytes f.1))
    ∙ ap (λ x. x ∷ drop (old.start + 1) (take old.stop old.bytes)) (get_or-take old.stop old.bytes old.start d h ∙ sym e)
    ∙ ap (λ x. b ∷ x) (ap (λ k. drop k (take old.stop old.bytes)) (sym s) ∙ ap (λ k. drop new.start (take k old.bytes)) (sym t)
    ∙ ap (λ k. drop new.start (take new.stop k)) (sym u))

pub took : (b : Option ℕ) (old mid new : Buffer) (left rest : Option (List ℕ)) → FilledOn old mid left rest
    → Given b (pending mid) (pending new) → Taken b old new left rest
took b old mid new left rest f g = record {
  read = f.read;
  consumed = f.consumed;
  given = subst (λ x. Given b x (pending new)) f.behind g;
  end = λ e. f.empty ((subst (λ x. Given x (pending mid) (pending new)) e g).0);
}

-- the bytes before the first LF
plain_front : (xs : List ℕ) → list_all is_plain (take (position_or_len (λ b. b == 10) xs) xs) ≡ true
plain_front [] = refl
plain_front (b ∷ bs) = elim (cases_Bool (b == 10)) [
  | inl lf ↦ rw lf refl
  | inr other ↦ (let next : 1 + position_or_len (λ c. c == 10) bs ≡ suc (position_or_len (λ c. c == 10) bs) = omega arith in rw
      (other, next, other) (plain_front bs))
]

place_is : (xs : List ℕ) (k : ℕ) → position (λ b. b == 10) xs ≡ Some k → (position_or_len (λ b. b == 10) xs < length xs)
    × (position_or_len (λ b. b == 10) xs ≡ k)
place_is xs k found =
    elim (cases_Bool (ltb (position_or_len (λ b. b == 10) xs) (length xs))) [
      | inl some ↦ (ltb-true _ _ some, (let e : Some (position_or_len (λ b. b == 10) xs) ≡ Some k = rw some at found in cc))
      | inr none ↦ (let e : None ≡ Some k = rw none at found in cc)
    ]

-- these are the bytes before LF of the first n, or all n of them
pub plain_some : (xs : List ℕ) (n k : ℕ) → position (λ b. b == 10) (take n xs) ≡ Some k → n ≤ length xs → (list_all is_plain (take k xs) ≡ true) × (k ≤ n)
plain_some xs n k found h =
    let at = place_is (take n xs) k found in
    let few : k ≤ n = omega (arith, length-take-le n xs h, at.0, at.1) in
    (ap (list_all is_plain) (sym (take-take k n xs few)) ∙ subst (λ j. list_all is_plain (take j (take n xs)) ≡ true) at.1 (plain_front (take n xs)), few)

no_place : (xs : List ℕ) → position (λ b. b == 10) xs ≡ None → length xs ≤ position_or_len (λ b. b == 10) xs
no_place xs none =
    elim (cases_Bool (ltb (position_or_len (λ b. b == 10) xs) (length xs))) [
      | inl some ↦ (let e : Some (position_or_len (λ b. b == 10) xs) ≡ None = rw some at none in cc)
      | inr past ↦ ltb-false _ _ past
    ]

pub plain_none : (xs : List ℕ) (n : ℕ) → position (λ b. b == 10) (take n xs) ≡ None → list_all is_plain (take n xs) ≡ true
plain_none xs n none =
    ap (list_all is_plain) (sym (take_all (position_or_len (λ b. b == 10) (take n xs)) (take n xs) (no_place (take n xs) none))) ∙ plain_front (take n xs)

-- bytes other than LF are taken
pub took_plain : (old new : Buffer) (line now : List ℕ) (n : ℕ) → BufferFits old → old.start + n ≤ old.stop → new.start ≡ old.start + n
    → new.stop ≡ old.stop → new.bytes ≡ old.bytes
    → list_all is_plain (take n (drop old.start old.bytes)) ≡ true → now ≡ line ++ take n (drop old.start old.bytes) → TookPlain line now old new
took_plain old new line now n f h s t u plain kept =
    let stop : old.start + (old.stop - old.start) ≡ old.stop = omega (arith, f.0) in
    let is : pending old ≡ take (old.stop - old.start) (drop old.start old.bytes) = ap (λ k. drop old.start (take k old.bytes)) (sym stop)
    ∙ drop-take old.start (old.stop - old.start) old.bytes in
    let front : take n (pending old) ≡ take n (drop old.start old.bytes) = ap (take n) is
    ∙ take-take n (old.stop - old.start) (drop old.start old.bytes) (omega (arith, h)) in
    let rest : drop n (pending old) ≡ pending new =
    drop-drop n old.start (take old.stop old.bytes)
    ∙ ap (λ k. drop k (take old.stop old.bytes)) (sym s) ∙ ap (λ k. drop new.start (take k old.bytes)) (sym t)
    ∙ ap (λ k. drop new.start (take new.stop k)) (sym u) in
    record {
      bytes = take n (drop old.start old.bytes);
      plain = plain;
      given = sym (take-append-drop n (pending old)) ∙ ap (λ x. x ++ drop n (pending old)) front ∙ ap (λ x. take n (drop old.start old.bytes) ++ x) rest;
      kept = kept;
    }

pub took_no_plain : (b : Buffer) (line : List ℕ) → TookPlain line line b b
took_no_plain b line = record { bytes = []; plain = refl; given = refl; kept = sym (append-nil line) }

pub plain_grows : (line now : List ℕ) (old new : Buffer) → TookPlain line now old new → length line ≤ length now
plain_grows line now old new t = let n : length now ≡ length (line ++ t.bytes) = ap length t.kept in omega (arith, length-append line t.bytes, n)
