-- What a source has left, if its bytes are known.
use Rattle.std.proofs.Common.{◌≡◌, ◌≤◌, ◌==◌, ◌+◌, ℕ, Bool, true, false, Option, Some, None, Err, List, [], ◌∷◌, ◌++◌, length, refl, sym, ap, subst, ◌∙◌, inl, inr, arith, append_assoc, append-nil, length-append}
use Rattle.std.specs.List.{concat, list_all}
use Rattle.std.proofs.lemmas.Bool.{and_parts, cases_Bool, false≢true, not-true}
use Rattle.std.proofs.lemmas.List.Folds.{concat-append, list_all-append}
use Rattle.its_io.specs.declared.stream.Failed.{Failed}
use Rattle.its_session.specs.Events.{most_lines}
use Rattle.its_reader.specs.Bytes.{pending}
use Rattle.std.specs.Io.KnownBytes.{Consumes, IsAtEnd}
use Rattle.its_reader.specs.declared.lines.Next.TheVariants as nexts
use Rattle.std.proofs.Common.{Ok}
use Rattle.its_reader.specs.declared.texts.Texts.{Texts}
use Rattle.its_reader.specs.Lines.{Facing}
use Rattle.its_reader.specs.TextLines.{lines_in}
use Rattle.its_reader.specs.Texts.{Ends, OpenedText, ReadsText, ReadyTexts, is_inside, texts_ahead}
use Rattle.its_verify.specs.Lines.{is_whole}
use Rattle.its_verify.specs.Sources.{IsTold, bytes_of, texts_of}
use Rattle.its_verify.specs.Went.{Fell, Went}
use Rattle.its_verify.proofs.LinesLaws.{concat_lines}

-- a source whose bytes are known
pub record Told (left rest : Option (List ℕ)) (read : List ℕ) : Type 0 where
  pub bytes : bytes_of left ≡ read ++ bytes_of rest
  pub told : IsTold rest

pub told_on : (left rest : Option (List ℕ)) (read : List ℕ) → IsTold left → Consumes left rest read → Told left rest read
told_on (Some xs) (Some ys) read t c = record { bytes = c; told = tt }
told_on (Some xs) None read t c = absurd c
told_on None rest read t c = absurd t

pub at_its_end : (rest : Option (List ℕ)) → IsAtEnd rest → bytes_of rest ≡ []
at_its_end (Some ys) h = h
at_its_end None h = refl

pub faced : (b : Bool) (Q : List ℕ → Type 0) (more : List ℕ) → Facing b (λ whole xs. Q xs) → (b ≡ true → more ≡ []) → Q more
faced false Q more f h = f true more
faced true Q more f h = subst Q (sym (h refl)) f

pub over : (r : Texts) (rest : Option (List ℕ)) → ReadyTexts r rest → r.ended ≡ true → bytes_of rest ≡ []
over r rest ready e = at_its_end rest (ready.over e).1

-- the next line, and the end
pub line_told : (old new : Texts) (left rest : Option (List ℕ)) → ReadsText (Ok nexts.Line) old new left rest → ReadyTexts new rest → IsTold left
    → (texts_of old left ≡ new.text.items ∷ texts_of new rest) × IsTold rest
line_told old new left rest r ready t =
    let told = told_on left rest r.read t r.consumed in (
      ap (texts_ahead old) told.bytes
          ∙ faced new.ended (λ more. texts_ahead old (r.read ++ more) ≡ new.text.items ∷ texts_ahead new more) (bytes_of rest) r.next.0 (over new rest ready),
      told.told,
    )

pub end_told : (old new : Texts) (left rest : Option (List ℕ)) → ReadsText (Ok nexts.End) old new left rest → ReadyTexts new rest
    → IsTold left → (texts_of old left ≡ []) × IsTold rest
end_told old new left rest r ready t =
    let told = told_on left rest r.read t r.consumed in
    (ap (texts_ahead old) (told.bytes ∙ ap (λ (xs : List ℕ). r.read ++ xs) (over new rest ready r.next.0) ∙ append-nil r.read) ∙ r.next.1, told.told)

-- a source that has a line left has not ended
pub not_over : (r : Texts) (left : Option (List ℕ)) (line : List ℕ) (lines : List (List ℕ)) → ReadyTexts r left → texts_of r left ≡ line
    ∷ lines → r.ended ≡ false
unfolding lines_in
not_over r left line lines ready is =
    elim (cases_Bool r.ended) [
      | inl e ↦ absurd (let none : [] ≡ line ∷ lines = sym (ap (λ (xs : List ℕ). lines_in (xs ++ bytes_of left)) (ready.over e).0
          ∙ ap lines_in (over r left ready e)) ∙ is in cc)
      | inr e ↦ e
    ]

-- what was read is the lines that were given, and what is pending
whole_by : (before : List ℕ) → list_all is_inside before ≡ true → is_whole (before ++ 10 ∷ []) ≡ true
whole_by [] h = refl
whole_by (b ∷ bs) h =
    let both = and_parts (is_inside b) (list_all is_inside bs) h in
    let other : (b == 10) ≡ false = not-true (b == 10) both.0 in
    rw (other) (whole_by bs both.1)

one_whole : (text : List ℕ) → Ends text → list_all is_whole (text ∷ []) ≡ true
one_whole text e =
    let here : is_whole text ≡ true = ap is_whole e.is ∙ whole_by e.before e.inside in
    rw here refl

pub went_line : (old new : Texts) (left rest : Option (List ℕ)) → ReadsText (Ok nexts.Line) old new left rest → ReadyTexts new rest
    → new.number ≡ old.number + 1 → IsTold left
    → Went (new.text.items ∷ []) old new left rest
went_line old new left rest r ready number t = record {
  bytes =
      sym (concat_lines (pending old.buffer ++ bytes_of left)) ∙ ap (λ (ls : List (List ℕ)). concat ls) (line_told old new left rest r ready t).0
      ∙ ap (λ (xs : List ℕ). new.text.items ++ xs) (concat_lines (pending new.buffer ++ bytes_of rest))
      ∙ ap (λ (xs : List ℕ). xs ++ (pending new.buffer ++ bytes_of rest)) (sym (append-nil new.text.items));
  number = number;
  over = λ e. (r.over e).1;
  whole = λ on. one_whole new.text.items (r.next.1 on);
}

pub went_none : (r : Texts) (left : Option (List ℕ)) → Went [] r r left left
went_none r left = record { bytes = refl; number = omega arith; over = λ e. e; whole = λ on. refl }

pub still_open : (b c : Bool) → (b ≡ true → c ≡ true) → c ≡ false → b ≡ false
still_open true c over on = absurd (false≢true (sym on ∙ over refl))
still_open false c over on = refl

pub went_then : (a b : List (List ℕ)) (old mid new : Texts) (left between rest : Option (List ℕ)) → Went a old mid left between
    → Went b mid new between rest → Went (a ++ b) old new left rest
went_then a b old mid new left between rest p q =
    let behind = pending new.buffer ++ bytes_of rest in
    record {
      bytes =
          p.bytes ∙ ap (λ (xs : List ℕ). concat a ++ xs) q.bytes ∙ sym (append_assoc (concat a) (concat b) behind)
          ∙ ap (λ (xs : List ℕ). xs ++ behind) (sym (concat-append a b));
      number = omega (arith, q.number, p.number, length-append a b);
      over = λ e. q.over (p.over e);
      whole = λ on. rw (list_all-append is_whole a b, p.whole (still_open mid.ended new.ended q.over on), q.whole on) refl;
    }

-- the source failed
pub fell_by : (e : Failed) (old new : Texts) (left rest : Option (List ℕ)) (most : ℕ) → ReadsText (Err e) old new left rest
    → new.number ≡ old.number + 1 → new.most ≡ most → old.number ≤ most_lines
    → IsTold left → Fell most old left rest
fell_by e old new left rest most r number same within t = go (texts_ahead old r.read) refl r.next.1
  where
    told : Told left rest r.read
    told = told_on left rest r.read t r.consumed

    bytes : (xs : List ℕ) → pending old.buffer ++ r.read ≡ xs → pending old.buffer ++ bytes_of left ≡ xs ++ bytes_of rest
    bytes xs is =
        ap (λ (ys : List ℕ). pending old.buffer ++ ys) told.bytes ∙ sym (append_assoc (pending old.buffer) r.read (bytes_of rest))
        ∙ ap (λ (ys : List ℕ). ys ++ bytes_of rest) is

    all : (ls : List (List ℕ)) → texts_ahead old r.read ≡ ls → pending old.buffer ++ r.read ≡ concat ls
    all ls is = sym (concat_lines (pending old.buffer ++ r.read)) ∙ ap (λ (xs : List (List ℕ)). concat xs) is

    go : (ls : List (List ℕ)) → texts_ahead old r.read ≡ ls → OpenedText new.most ls new.number → Fell most old left rest
    go [] is h = record {
      told = told.told;
      runs = r.next.0;
      begun = [];
      bytes = bytes [] (all [] is);
      inside = refl;
      short = omega arith;
      few = λ some. absurd (omega (arith, some));
      within = within;
    }
    go (text ∷ []) is h = record {
      told = told.told;
      runs = r.next.0;
      begun = text;
      bytes = bytes text (all (text ∷ []) is ∙ append-nil text);
      inside = h.0;
      short = subst (λ (n : ℕ). length text ≤ n) same h.1;
      few = λ some. subst (λ (n : ℕ). n ≤ most_lines) number h.2;
      within = within;
    }
    go (a ∷ (b ∷ more)) is h = absurd h
