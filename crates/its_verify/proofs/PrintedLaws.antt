-- Each text that says a line has LF as its last byte and nowhere else; and the text of a printed
-- line says it.
use Rattle.std.proofs.Common.{◌≡◌, ◌*◌, ◌+◌, ◌-◌, ◌/◌, ◌%◌, ◌^◌, ◌==◌, ◌&&◌, ℕ, Bool, true, false, not, Option, Some, None, List, [], ◌∷◌, ◌++◌, length, map, refl, sym, ap, ◌∙◌, inl, inr, arith, append-nil, ltb}
use Rattle.std.proofs.lemmas.Bool.{cases_Bool, and_parts, le-leb, lt-ltb, not-true}
use Rattle.std.proofs.lemmas.Bool.Decides.{nat_tests}
use Rattle.std.proofs.lemmas.List.{length-map}
use Rattle.std.proofs.lemmas.List.Folds.{list_all-append}
use Rattle.std.proofs.lemmas.Slice.Eq.{bytes_eq-Decides}
use Rattle.std.specs.List.{AllByRecursion, concat, list_all, range_with_len}
use Rattle.std.specs.Prelude.{bytes_eq, codes, nat_le, position}
use Rattle.its_word.specs.Text.{digits_of, is_code, octal6_of, octal12_of, spaced, words_of}
use Rattle.its_records.specs.declared.calls.Pace.{Pace}
use Rattle.its_records.specs.declared.calls.Pace.TheVariants.{Step, Work, Wait, Off}
use Rattle.its_records.specs.declared.session.Reason.{Reason}
use Rattle.its_records.specs.declared.session.Reason.TheVariants as reasons
use Rattle.its_records.specs.declared.show.JobShow.{JobShow}
use Rattle.its_records.specs.declared.show.Peek.{Peek}
use Rattle.its_records.specs.declared.show.PeekState.{PeekState}
use Rattle.its_records.specs.declared.show.PeekState.TheVariants.{User, Entered, Parsed, Asked, Holding, Waiting, Moving, Ending}
use Rattle.its_word.proofs.DigitLaws.{digits_are_codes}
use Rattle.its_chart.specs.TypeOut.{typed}
use Rattle.its_chart.proofs.BytesLaws.{all_imp}
use Rattle.its_chart.proofs.TypedLaws.{typed_printable}
use Rattle.its_print.specs.Printing.{Line, Loaded, Ticks, Typed, Drained, Words, Listed, State, Peeked, Dir, Filed, Shown, Row, Refused, letter_of, run_of, runs_from, runs_of, word_or_dash, number_or_dash, run_or_stop, job_fields, symbol_or_dashes, symbol_fields, state_name, reason_name, keyword, fields_of, text_of_line, text}
use Rattle.its_print.specs.Sizes.{IsPrinted}
use Rattle.its_print.proofs.LongestLine.{longest}
use Rattle.its_word.proofs.WordsLaws.{words_cut}
use Rattle.its_reader.specs.TextLines.{before_lf, lines_in}
use Rattle.its_verify.specs.Lines.{Said, Tells, begins_with, is_peek, most_bytes, is_whole, says}
use Rattle.its_verify.proofs.BehindLaws.{behind, spaced_behind}
use Rattle.its_verify.proofs.LinesLaws.{AllWhole, lines_concat}

-- a byte other than LF
abbrev no_lf : ℕ → Bool
no_lf b = not (b == 10)

abbrev Free : List ℕ → Type 0
Free xs = list_all no_lf xs ≡ true

abbrev AllFree : List (List ℕ) → Type 0
AllFree [] = Unit {0}
AllFree (w ∷ ws) = Free w × AllFree ws

free_append : (xs ys : List ℕ) → Free xs → Free ys → Free (xs ++ ys)
free_append xs ys h k = rw (list_all-append no_lf xs ys, h) k

free_each : {X : Type 0} (f : X → ℕ) (xs : List X) → ((x : X) → no_lf (f x) ≡ true) → Free (map f xs)
free_each f [] h = refl
free_each f (x ∷ xs) h = rw (h x) (free_each f xs h)

all_free : {X : Type 0} (f : X → List ℕ) (xs : List X) → ((x : X) → Free (f x)) → AllFree (map f xs)
all_free f [] h = tt
all_free f (x ∷ xs) h = (h x, all_free f xs h)

code_free : (c : ℕ) → is_code 48 55 c ≡ true → no_lf c ≡ true
code_free c h = grind (arith, nat_tests)

codes_free : (ds : List ℕ) → list_all (is_code 48 55) ds ≡ true → Free ds
codes_free ds h = all_imp (is_code 48 55) no_lf code_free ds h

digits_free : (n : ℕ) → Free (digits_of n)
digits_free n = codes_free (digits_of n) (digits_are_codes n)

digit_free : (d : ℕ) → no_lf (48 + d) ≡ true
digit_free d = grind (arith, nat_tests)

octal12_free : (w : ℕ) → Free (octal12_of w)
unfolding octal12_of
octal12_free w = free_each (λ (k : ℕ). 48 + w / 2 ^ (33 - 3 * k) % 8) (range_with_len 0 12) (λ k. digit_free (w / 2 ^ (33 - 3 * k) % 8))

octal6_free : (a : ℕ) → Free (octal6_of a)
unfolding octal6_of
octal6_free a = free_each (λ (k : ℕ). 48 + a / 2 ^ (15 - 3 * k) % 8) (range_with_len 0 6) (λ k. digit_free (a / 2 ^ (15 - 3 * k) % 8))

letter_free : (p : Pace) → Free (letter_of p ∷ [])
letter_free Step = refl
letter_free Work = refl
letter_free Wait = refl
letter_free Off = refl

run_free : (n : ℕ) (p : Pace) → Free (run_of n (letter_of p))
run_free n p = free_append (digits_of n) (letter_of p ∷ []) (digits_free n) (letter_free p)

runs_free : (n : ℕ) (q : Pace) (ps : List Pace) → AllFree (runs_from n (letter_of q) ps)
runs_free n q [] = (run_free n q, tt)
runs_free n q (p ∷ ps) =
    elim (cases_Bool (letter_of p == letter_of q)) [
      | inl same ↦ rw same (runs_free (n + 1) q ps)
      | inr other ↦ rw other (run_free n q, runs_free 1 p ps)
    ]

all_runs_free : (ps : List Pace) → AllFree (runs_of ps)
unfolding runs_of
all_runs_free [] = tt
all_runs_free (p ∷ ps) = runs_free 1 p ps

word_free : (o : Option ℕ) → Free (word_or_dash o)
word_free None = refl
word_free (Some w) = octal12_free w

number_free : (o : Option ℕ) → Free (number_or_dash o)
number_free None = refl
number_free (Some n) = digits_free n

run_or_stop_free : (b : Bool) → Free (run_or_stop b)
run_or_stop_free true = refl
run_or_stop_free false = refl

state_free : (s : PeekState) → Free (state_name s)
state_free User = refl
state_free Entered = refl
state_free Parsed = refl
state_free Asked = refl
state_free Holding = refl
state_free Waiting = refl
state_free Moving = refl
state_free Ending = refl

reason_free : (r : Reason) → Free (reason_name r)
reason_free reasons.Long = refl
reason_free reasons.Syntax = refl
reason_free reasons.Range = refl
reason_free reasons.NoCons = refl
reason_free reasons.NoJob = refl
reason_free reasons.NoPage = refl
reason_free reasons.ReadOnly = refl
reason_free reasons.NoFile = refl
reason_free reasons.Exists = refl
reason_free reasons.Full = refl
reason_free reasons.Unfit = refl
reason_free reasons.Cut = refl

all_free_append : (us ws : List (List ℕ)) → AllFree us → AllFree ws → AllFree (us ++ ws)
all_free_append [] ws h k = k
all_free_append (u ∷ us) ws h k = (h.0, all_free_append us ws h.1 k)

job_free : (j : JobShow) → AllFree (job_fields j)
job_free j = (
  octal12_free j.u,
  (
    octal12_free j.j,
    (
      number_free j.sup,
      (
        number_free j.con,
        (
          run_or_stop_free j.run,
          (
            octal12_free j.pc,
            (octal12_free j.p1, (octal12_free j.p2, (octal12_free j.m1, (octal12_free j.m2, (octal12_free j.d1, (octal12_free j.d2, tt)))))),
          ),
        ),
      ),
    ),
  ),
)

symbol_or_dashes_free : (o : Option (ℕ × ℕ)) → AllFree (symbol_or_dashes o)
symbol_or_dashes_free None = (refl, (refl, tt))
symbol_or_dashes_free (Some x) = (octal12_free x.0, (digits_free x.1, tt))

symbol_free : (v : ℕ) (o : Option (ℕ × ℕ)) → AllFree (symbol_fields v o)
symbol_free v o =
    elim (cases_Bool (v == 2)) [
      | inl two ↦ rw two (symbol_or_dashes_free o)
      | inr one ↦ rw one tt
    ]

printable_no_lf : (b : ℕ) → is_code 32 126 b ≡ true → no_lf b ≡ true
printable_no_lf b h = grind (arith, nat_tests)

typed_free : (w : ℕ) → Free (typed w)
typed_free w = all_imp (is_code 32 126) no_lf printable_no_lf (typed w) (typed_printable w)

-- the words of a line
fields_free : (l : Line) → AllFree (fields_of l)
fields_free (Loaded s) = (digits_free s, tt)
fields_free (Ticks s ps) = (digits_free s, all_runs_free ps)
fields_free (Typed c n) = (digits_free c, (digits_free n, tt))
fields_free (Drained c bs) = (digits_free c, all_free digits_of bs digits_free)
fields_free (Words s a ws) = (digits_free s, (octal6_free a, all_free octal12_of ws octal12_free))
fields_free (Listed s a w) = (digits_free s, (octal6_free a, (typed_free w, tt)))
fields_free (State v s j) = (digits_free s, all_free_append (job_fields j) (symbol_fields v j.symbol) (job_free j) (symbol_free v j.symbol))
fields_free (Peeked s p) = (
  digits_free s,
  (
    state_free p.state,
    (word_free p.name, (digits_free p.left, (word_free p.a, (word_free p.b, (word_free p.h, tt))))),
  ),
)
fields_free (Dir d n) = (octal12_free d, (digits_free n, tt))
fields_free (Filed f) = (octal12_free f.x, (octal12_free f.y, (digits_free f.length, tt)))
fields_free (Shown d x y k) = (octal12_free d, (octal12_free x, (octal12_free y, (digits_free k, tt))))
fields_free (Row ws) = all_free octal12_of ws octal12_free
fields_free (Refused n r) = (digits_free n, (reason_free r, tt))

first_free : (l : Line) → Free (keyword l)
first_free (Loaded s) = refl
first_free (Ticks s ps) = refl
first_free (Typed c n) = refl
first_free (Drained c bs) = refl
first_free (Words s a ws) = refl
first_free (Listed s a w) = refl
first_free (State v s j) = refl
first_free (Peeked s p) = refl
first_free (Dir d n) = refl
first_free (Filed f) = refl
first_free (Shown d x y k) = refl
first_free (Row ws) = refl
first_free (Refused n r) = refl

whole_after : (xs rest : List ℕ) → Free xs → is_whole rest ≡ true → is_whole (xs ++ rest) ≡ true
whole_after [] rest h whole = whole
whole_after (x ∷ xs) rest h whole =
    let both = and_parts (no_lf x) (list_all no_lf xs) h in
    let other : (x == 10) ≡ false = not-true (x == 10) both.0 in
    rw other (whole_after xs rest both.1 whole)

whole_behind : (words : List (List ℕ)) → AllFree words → is_whole (behind words (10 ∷ [])) ≡ true
whole_behind [] h = refl
whole_behind (w ∷ ws) h = whole_after w (behind ws (10 ∷ [])) h.0 (whole_behind ws h.1)

pub text_whole : (l : Line) → is_whole (text_of_line l) ≡ true
unfolding text_of_line
text_whole l =
    rw (spaced_behind (keyword l) (fields_of l) (10 ∷ []))
    (whole_after (keyword l) (behind (fields_of l) (10 ∷ [])) (first_free l) (whole_behind (fields_of l) (fields_free l)))

-- each text that says a line
peek_whole : (text : List ℕ) → is_peek text ≡ true → is_whole text ≡ true
unfolding is_peek
peek_whole text h =
    let short = nat_le (length text) (most_bytes + 1) in
    let first = begins_with (codes "P") (words_of (before_lf text)) in
    let both = and_parts (is_whole text && short) first h in
    (and_parts (is_whole text) short both.0).0

same_whole : (l : Line) (text : List ℕ) → bytes_eq text (text_of_line l) ≡ true → is_whole text ≡ true
same_whole l text h =
    let is : text ≡ text_of_line l = (bytes_eq-Decides text (text_of_line l)).0 h in
    rw is (text_whole l)

says_whole : (l : Line) (text : List ℕ) → says l text ≡ true → is_whole text ≡ true
says_whole (Peeked s p) text h = peek_whole text h
says_whole l text h = same_whole l text h

pub said_whole : (lines : List Line) (texts : List (List ℕ)) → Said lines texts → AllWhole texts
said_whole [] [] h = tt
said_whole [] (t ∷ ts) h = absurd h
said_whole (l ∷ ls) [] h = absurd h
said_whole (l ∷ ls) (t ∷ ts) h = (says_whole l t h.0, said_whole ls ts h.1)

-- the text of a printed line says it
before_end : (xs : List ℕ) → Free xs → before_lf (xs ++ 10 ∷ []) ≡ xs
before_end [] h = refl
before_end (x ∷ xs) h =
    let both = and_parts (no_lf x) (list_all no_lf xs) h in
    let other : (x == 10) ≡ false = not-true (x == 10) both.0 in
    rw (other, before_end xs both.1) refl

free_behind : (words : List (List ℕ)) → AllFree words → Free (behind words [])
free_behind [] h = refl
free_behind (w ∷ ws) h = free_append w (behind ws []) h.0 (free_behind ws h.1)

-- the first of some words
first_word : (rest : List ℕ) → begins_with (codes "P") (words_of (80 ∷ 32 ∷ rest)) ≡ true
first_word rest =
    let some : ltb 1 (length (80 ∷ 32 ∷ rest)) ≡ true = lt-ltb 1 (length (80 ∷ 32 ∷ rest)) (omega arith) in
    let space : position (λ b. b == 32) (80 ∷ 32 ∷ rest) ≡ Some 1 = rw some refl in
    rw (words_cut (80 ∷ 32 ∷ rest) 1 space) refl

peeked_text : (s : ℕ) (peek : Peek) → text_of_line (Peeked s peek) ≡ (80 ∷ behind (fields_of (Peeked s peek)) []) ++ 10 ∷ []
unfolding text_of_line
peeked_text s peek = ap (λ xs. xs ++ 10 ∷ []) (sym (append-nil (spaced (codes "P") (fields_of (Peeked s peek))))
    ∙ spaced_behind (codes "P") (fields_of (Peeked s peek)) [])

peek_said : (s : ℕ) (peek : Peek) → IsPrinted (Peeked s peek) → is_peek (text_of_line (Peeked s peek)) ≡ true
unfolding is_peek
peek_said s peek printed =
    let xs = 80 ∷ behind (fields_of (Peeked s peek)) [] in
    let free : Free xs = free_behind (fields_of (Peeked s peek)) (fields_free (Peeked s peek)) in
    let front : before_lf (text_of_line (Peeked s peek)) ≡ xs = rw (peeked_text s peek) (before_end xs free) in
    let short : nat_le (length (text_of_line (Peeked s peek))) (most_bytes + 1) ≡ true =
    le-leb (length (text_of_line (Peeked s peek))) (most_bytes + 1) (omega (arith, longest (Peeked s peek) printed)) in
    rw (text_whole (Peeked s peek), short, front) (first_word _)

same_text : (xs : List ℕ) → bytes_eq xs xs ≡ true
same_text xs = (bytes_eq-Decides xs xs).1 refl

says_text : (l : Line) → IsPrinted l → says l (text_of_line l) ≡ true
says_text (Peeked s p) h = peek_said s p h
says_text l h = same_text (text_of_line l)

said_texts : (lines : List Line) → AllByRecursion IsPrinted lines → Said lines (map text_of_line lines)
said_texts [] h = tt
said_texts (l ∷ ls) h = (says_text l h.0, said_texts ls h.1)

concat_texts : (lines : List Line) → concat (map text_of_line lines) ≡ text lines
unfolding text
concat_texts [] = refl
concat_texts (l ∷ ls) = ap (λ xs. text_of_line l ++ xs) (concat_texts ls)

-- the text of lines that are printed says these lines
pub tells_text : (lines : List Line) → AllByRecursion IsPrinted lines → Tells lines (text lines)
tells_text lines h = record { texts = map text_of_line lines; said = said_texts lines h; whole = concat_texts lines }

-- its lines are as many
pub text_lines : (lines : List Line) → AllByRecursion IsPrinted lines → length (lines_in (text lines)) ≡ length lines
text_lines lines h =
    let texts = map text_of_line lines in
    let is : lines_in (text lines) ≡ texts = ap lines_in (sym (concat_texts lines)) ∙ lines_concat texts (said_whole lines texts (said_texts lines h)) in
    rw (is, length-map) refl
