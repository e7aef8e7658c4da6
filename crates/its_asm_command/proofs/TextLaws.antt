-- The lines of a text are those that a reader of lines finds, and lines with their LF have these
-- lines.
use Rattle.std.specs.Prelude.{◌≡◌, ◌≤◌, ◌==◌, ℕ, length, nat_le, Bool, true, false, not, ◌&&◌, List, [], ◌∷◌, ◌++◌, refl}
use Rattle.std.proofs.Common.{sym, ◌∙◌, ap, append_assoc, append-nil, arith, inl, inr}
use Rattle.std.specs.List.{list_all}
use Rattle.std.proofs.lemmas.Bool.{cases_Bool}
use Rattle.std.proofs.lemmas.Bool.Decides.{nat_tests}
use Rattle.std.proofs.lemmas.List.Splits.{slice_split-cons_yes, slice_split-cons_no}
use Rattle.its_chart.specs.Text.{is_mark}
use Rattle.its_asm.specs.Text.{pieces}
use Rattle.its_asm.specs.Assembly.{lines_of, whole_lines}
use Rattle.its_session.specs.Events.{last_line, lines_from}
use Rattle.its_session.proofs.TextLaws.{clean, over_line}
use Rattle.its_asm_command.specs.Text.{joined}

abbrev runs : List ℕ → List (List ℕ)
runs bytes = pieces (10 ∷ []) bytes

-- bytes in front of the first of some runs
abbrev fronted : List ℕ → List (List ℕ) → List (List ℕ)
fronted kept [] = []
fronted kept (run ∷ rest) = (kept ++ run) ∷ rest

fronted_none : (rest : List (List ℕ)) → fronted [] rest ≡ rest
fronted_none [] = refl
fronted_none (run ∷ rest) = refl

is_lf : (b : ℕ) → (b == 10) ≡ true → is_mark (10 ∷ []) b ≡ true
is_lf b h = grind (arith, nat_tests)

is_other : (b : ℕ) → (b == 10) ≡ false → is_mark (10 ∷ []) b ≡ false
is_other b h = grind (arith, nat_tests)

-- runs are never none
record Runs (rs : List (List ℕ)) : Type 0 where
  pub first : List ℕ
  pub rest : List (List ℕ)
  pub is : rs ≡ first ∷ rest

runs_lf : (b : ℕ) (bs : List ℕ) → (b == 10) ≡ true → runs (b ∷ bs) ≡ [] ∷ runs bs
runs_lf b bs h = slice_split-cons_yes (is_mark (10 ∷ [])) b bs (is_lf b h)

runs_other : (b : ℕ) (bs first : List ℕ) (rest : List (List ℕ)) → (b == 10) ≡ false → runs bs ≡ first ∷ rest → runs (b ∷ bs) ≡ (b ∷ first) ∷ rest
runs_other b bs first rest h e = slice_split-cons_no (is_mark (10 ∷ [])) b bs (is_other b h) ∙ rw e refl

some_runs : (bytes : List ℕ) → Runs (runs bytes)
some_runs [] = record { first = []; rest = []; is = refl }
some_runs (b ∷ bs) = let before = some_runs bs in elim (cases_Bool (b == 10)) [
  | inl t ↦ record { first = []; rest = runs bs; is = runs_lf b bs t }
  | inr f ↦ record { first = b ∷ before.first; rest = before.rest; is = runs_other b bs before.first before.rest f before.is }
]

ends : (line more : List ℕ) (lines : List (List ℕ)) → whole_lines (line ∷ (more ∷ lines)) ≡ line ∷ whole_lines (more ∷ lines)
ends [] more lines = refl
ends (b ∷ bs) more lines = refl

lines_are : (kept bytes : List ℕ) → lines_from true kept bytes ≡ whole_lines (fronted kept (runs bytes))
lines_are [] [] = refl
lines_are (k ∷ ks) [] = ap (λ x. (k ∷ x) ∷ []) (sym (append-nil ks))
lines_are kept (b ∷ bs) = let more = some_runs bs in elim (cases_Bool (b == 10)) [
  | inl t ↦ rw t (
      ap (λ x. kept ∷ x) (lines_are [] bs ∙ ap whole_lines (fronted_none (runs bs)))
      ∙ ap (λ x. x ∷ whole_lines (runs bs)) (sym (append-nil kept))
      ∙ ap (λ x. (kept ++ []) ∷ whole_lines x) more.is
      ∙ sym (ends (kept ++ []) more.first more.rest)
      ∙ ap (λ x. whole_lines ((kept ++ []) ∷ x)) (sym more.is)
      ∙ ap (λ x. whole_lines (fronted kept x)) (sym (runs_lf b bs t)))
  | inr f ↦ rw f (
      lines_are (kept ++ b ∷ []) bs
      ∙ ap (λ x. whole_lines (fronted (kept ++ b ∷ []) x)) more.is
      ∙ ap (λ x. whole_lines (x ∷ more.rest)) (append_assoc kept (b ∷ []) more.first)
      ∙ ap (λ x. whole_lines (fronted kept x)) (sym (runs_other b bs more.first more.rest f more.is)))
]

-- the two definitions of the lines of a text
pub same_lines : (bytes : List ℕ) → lines_from true [] bytes ≡ lines_of bytes
unfolding lines_of
same_lines bytes = lines_are [] bytes ∙ ap whole_lines (fronted_none (runs bytes))

-- lines that contain no LF
abbrev pub all_clean : List (List ℕ) → Bool
all_clean lines = list_all clean lines

both : (a b : Bool) → (a && b) ≡ true → (a ≡ true) × (b ≡ true)
both true true h = (refl, refl)
both true false h = cc
both false b h = cc

joined_both : (a b : Bool) → a ≡ true → b ≡ true → (a && b) ≡ true
joined_both true true h k = refl
joined_both true false h k = cc
joined_both false b h k = cc

clean_more : (kept : List ℕ) (b : ℕ) → clean kept ≡ true → (b == 10) ≡ false → clean (kept ++ b ∷ []) ≡ true
clean_more [] b h e = rw e refl
clean_more (k ∷ ks) b h e = let p = both (not (k == 10)) (clean ks) h in joined_both (not (k == 10)) (clean (ks ++ b ∷ [])) p.0 (clean_more ks b p.1 e)

pub lines_clean : (kept bytes : List ℕ) → clean kept ≡ true → all_clean (lines_from true kept bytes) ≡ true
lines_clean [] [] h = refl
lines_clean (k ∷ ks) [] h = joined_both (clean (k ∷ ks)) true h refl
lines_clean kept (b ∷ bs) h = elim (cases_Bool (b == 10)) [
  | inl t ↦ rw t (joined_both (clean kept) (all_clean (lines_from true [] bs)) h (lines_clean [] bs refl))
  | inr f ↦ rw f (lines_clean (kept ++ b ∷ []) bs (clean_more kept b h f))
]

-- the first of some lines
first_clean : (ls more : List (List ℕ)) → all_clean (ls ++ more) ≡ true → all_clean ls ≡ true
first_clean [] more h = refl
first_clean (l ∷ ls) more h = let p = both (clean l) (all_clean (ls ++ more)) h in joined_both (clean l) (all_clean ls) p.0 (first_clean ls more p.1)

not_true : (t : Bool) → not t ≡ true → t ≡ false
not_true true h = cc
not_true false h = refl

-- lines with their LF have these lines
pub joined_from : (ls : List (List ℕ)) → all_clean ls ≡ true → lines_from true [] (joined ls) ≡ ls
unfolding joined
joined_from [] h = refl
joined_from (l ∷ ls) h =
    let p = both (clean l) (all_clean ls) h in
    over_line [] l (joined ls) p.0 ∙ ap (λ x. l ∷ x) (joined_from ls p.1)

pub joined_lines : (ls : List (List ℕ)) → all_clean ls ≡ true → lines_of (joined ls) ≡ ls
joined_lines ls h = sym (same_lines (joined ls)) ∙ joined_from ls h

-- and one after them, without its LF
one_line : (kept line : List ℕ) → clean line ≡ true → 1 ≤ length line → lines_from true kept line ≡ (kept ++ line) ∷ []
one_line kept [] h some = absurd (omega arith)
one_line kept (b ∷ []) h some =
    let other : (b == 10) ≡ false = not_true (b == 10) (both (not (b == 10)) true h).0 in
    rw other (ended kept b)
  where
    ended : (ks : List ℕ) (x : ℕ) → last_line true (ks ++ x ∷ []) ≡ (ks ++ x ∷ []) ∷ []
    ended [] x = refl
    ended (k ∷ ks) x = refl
one_line kept (b ∷ c ∷ cs) h some =
    let p = both (not (b == 10)) (clean (c ∷ cs)) h in
    let other : (b == 10) ≡ false = not_true (b == 10) p.0 in
    rw other (one_line (kept ++ b ∷ []) (c ∷ cs) p.1 (omega arith) ∙ ap (λ x. x ∷ []) (append_assoc kept (b ∷ []) (c ∷ cs)))

before_last : (ls : List (List ℕ)) (line : List ℕ) → all_clean ls ≡ true → clean line ≡ true → 1 ≤ length line
    → lines_from true [] (joined ls ++ line) ≡ ls ++ line ∷ []
unfolding joined
before_last [] line h k some = one_line [] line k some
before_last (l ∷ ls) line h k some =
    let p = both (clean l) (all_clean ls) h in
    ap (lines_from true []) (append_assoc (l ++ 10 ∷ []) (joined ls) line)
    ∙ over_line [] l (joined ls ++ line) p.0
    ∙ ap (λ x. l ∷ x) (before_last ls line p.1 k some)

pub joined_last : (ls : List (List ℕ)) (line : List ℕ) → all_clean ls ≡ true → clean line ≡ true → nat_le (length line) 255 ≡ false
    → lines_of (joined ls ++ line) ≡ ls ++ line ∷ []
joined_last ls line h k long = sym (same_lines (joined ls ++ line)) ∙ before_last ls line h k (grind (arith, nat_tests))

pub joined_more : (ls : List (List ℕ)) (line : List ℕ) → joined (ls ++ line ∷ []) ≡ joined ls ++ (line ++ 10 ∷ [])
unfolding joined
joined_more [] line = append-nil (line ++ 10 ∷ [])
joined_more (l ∷ ls) line = ap (λ x. (l ++ 10 ∷ []) ++ x) (joined_more ls line) ∙ sym (append_assoc (l ++ 10 ∷ []) (joined ls) (line ++ 10 ∷ []))

pub clean_prefix : (ls more : List (List ℕ)) (bytes : List ℕ) → lines_from true [] bytes ≡ ls ++ more → all_clean ls ≡ true
clean_prefix ls more bytes e = first_clean ls more (ap all_clean (sym e) ∙ lines_clean [] bytes refl)

pub clean_append : (ls more : List (List ℕ)) → all_clean ls ≡ true → all_clean more ≡ true → all_clean (ls ++ more) ≡ true
clean_append [] more h k = k
clean_append (l ∷ ls) more h k = let p = both (clean l) (all_clean ls) h in joined_both (clean l) (all_clean (ls ++ more)) p.0 (clean_append ls more p.1 k)
