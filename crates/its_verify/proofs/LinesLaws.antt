-- The lines of bytes put together again are the bytes, and the lines of texts that end with LF, one
-- after another, are the texts.
use Rattle.std.proofs.Common.{◌≡◌, ◌≤◌, ◌==◌, ℕ, true, List, [], ◌∷◌, ◌++◌, length, refl, ap, ◌∙◌, inl, inr, arith}
use Rattle.std.proofs.lemmas.Bool.{and_parts, cases_Bool, false≢true}
use Rattle.std.specs.List.{concat, list_all}
use Rattle.its_reader.specs.TextLines.{in_front, lines_in}
use Rattle.its_verify.specs.Lines.{is_last, is_whole}

concat_in_front : (b : ℕ) (lines : List (List ℕ)) → concat (in_front b lines) ≡ b ∷ concat lines
concat_in_front b [] = refl
concat_in_front b (line ∷ lines) = elim (cases_Bool (b == 10)) [ inl lf ↦ rw lf refl | inr other ↦ rw other refl ]

pub concat_lines : (bytes : List ℕ) → concat (lines_in bytes) ≡ bytes
unfolding lines_in
concat_lines [] = refl
concat_lines (b ∷ bs) = concat_in_front b (lines_in bs) ∙ ap (λ xs. b ∷ xs) (concat_lines bs)

lf_in_front : (b : ℕ) (lines : List (List ℕ)) → (b == 10) ≡ true → in_front b lines ≡ (b ∷ []) ∷ lines
lf_in_front b [] lf = refl
lf_in_front b (line ∷ lines) lf = rw lf refl

last_only : (b : ℕ) (bs rest : List ℕ) → (b == 10) ≡ true → is_last bs ≡ true → in_front b (lines_in (bs ++ rest)) ≡ (b ∷ bs) ∷ lines_in rest
last_only b [] rest lf last = lf_in_front b (lines_in rest) lf
last_only b (c ∷ cs) rest lf last = absurd (false≢true last)

-- the first line of a text that ends with LF
pub first_line : (text rest : List ℕ) → is_whole text ≡ true → lines_in (text ++ rest) ≡ text ∷ lines_in rest
unfolding lines_in
first_line [] rest whole = absurd (false≢true whole)
first_line (b ∷ bs) rest whole =
    elim (cases_Bool (b == 10)) [
      | inl lf ↦ last_only b bs rest lf (rw lf at whole)
      | inr other ↦
          (let here : is_whole bs ≡ true = rw other at whole in
          rw (first_line bs rest here, other) refl)
    ]

abbrev pub AllWhole : List (List ℕ) → Type 0
AllWhole [] = Unit {0}
AllWhole (text ∷ texts) = (is_whole text ≡ true) × AllWhole texts

pub all_whole : (texts : List (List ℕ)) → list_all is_whole texts ≡ true → AllWhole texts
all_whole [] h = tt
all_whole (text ∷ texts) h = (let both = and_parts (is_whole text) (list_all is_whole texts) h in (both.0, all_whole texts both.1))

pub lines_concat : (texts : List (List ℕ)) → AllWhole texts → lines_in (concat texts) ≡ texts
unfolding lines_in
lines_concat [] h = refl
lines_concat (text ∷ texts) h = first_line text (concat texts) h.0 ∙ ap (λ ts. text ∷ ts) (lines_concat texts h.1)

-- nothing is left
pub none_left : {X : Type 0} (xs : List X) → length xs ≤ 0 → xs ≡ []
none_left [] few = refl
none_left (x ∷ xs) few = absurd (omega (arith, few))
