-- The input in two parts: together they are the whole input; and a session with its END line, and a
-- transcript after it, are those parts.
use Rattle.std.proofs.Common.{◌≡◌, ◌≤◌, ◌+◌, ◌-◌, ℕ, true, false, ltb, List, [], ◌∷◌, ◌++◌, length, refl, sym, ap, subst, ◌∙◌, inl, inr, arith, append_assoc}
use Rattle.std.proofs.lemmas.Bool.{cases_Bool, false≢true}
use Rattle.std.specs.List.{AllByRecursion, concat, list_any}
use Rattle.its_print.specs.Printing.{Line, text}
use Rattle.its_print.specs.Sizes.{IsPrinted}
use Rattle.its_session.specs.Events.{events_of, most_lines}
use Rattle.its_plain.specs.Transcript.{Fate, Transcript}
use Rattle.its_reader.specs.TextLines.{before_lf, lines_in}
use Rattle.its_verify.specs.Verified.{IsYes, Judged, Parts, Both, LongLine, TooMany, by_parts, is_end_line, most_session_bytes, parts_from, verified}
use Rattle.its_verify.specs.Rulings.{Yes}
use Rattle.its_verify.proofs.BoundedLaws.{has_yes}
use Rattle.its_verify.proofs.LinesLaws.{AllWhole, concat_lines, first_line, none_left}
use Rattle.its_verify.proofs.PrintedLaws.{text_lines}
use Rattle.its_verify.proofs.VerdictLaws.{lines_accepted, written_accepted}

-- what holds of each of the ways in which a line goes holds of the line: of the parts of some
-- lines, and of others in the place of those after it
pub each_way : (P : Parts → Parts → Type 0) (n : ℕ) (session line : List ℕ) (lines others : List (List ℕ)) → P TooMany TooMany → P (LongLine n) (LongLine n)
    → (ltb most_lines n ≡ false → P (Both (session ++ line) n lines) (Both (session ++ line) n others))
    → P (parts_from (n + 1) (session ++ line) lines) (parts_from (n + 1) (session ++ line) others)
    → P (parts_from n session (line ∷ lines)) (parts_from n session (line ∷ others))
each_way P n session line lines others many long end more =
    elim (cases_Bool (ltb most_lines n)) [
      | inl past ↦ rw past many
      | inr few ↦
          elim (cases_Bool (ltb most_session_bytes (length (before_lf line)))) [
            | inl longer ↦ rw (few, longer) long
            | inr short ↦
                elim (cases_Bool (is_end_line line)) [
                  | inl last ↦ rw (few, short, last) (end few)
                  | inr other ↦ rw (few, short, other) more
                ]
          ]
    ]

-- if both parts are found, they are all of the bytes
abbrev AllOf : List ℕ → Parts → Type 0
AllOf bytes (Both session count texts) = session ++ concat texts ≡ bytes
AllOf bytes _ = Unit {0}

all_of : (n : ℕ) (session : List ℕ) (lines : List (List ℕ)) → AllOf (session ++ concat lines) (parts_from n session lines)
all_of n session [] = tt
all_of n session (line ∷ lines) =
    each_way (λ p q. AllOf (session ++ (line ++ concat lines)) p) n session line lines lines tt tt (λ few. append_assoc session line (concat lines))
    (subst (λ (bytes : List ℕ). AllOf bytes (parts_from (n + 1) (session ++ line) lines)) (append_assoc session line (concat lines))
    (all_of (n + 1) (session ++ line) lines))

pub both_whole : (bytes session : List ℕ) (count : ℕ) (texts : List (List ℕ)) → parts_from 1 [] (lines_in bytes) ≡ Both session count texts
    → session ++ concat texts ≡ bytes
both_whole bytes session count texts is = subst (AllOf bytes) is
    (subst (λ (bs : List ℕ). AllOf bs (parts_from 1 [] (lines_in bytes))) (concat_lines bytes) (all_of 1 [] (lines_in bytes)))

-- a session that ends with its END line, and some lines after it
abbrev Behind : List (List ℕ) → Parts → Parts → Type 0
Behind more (Both session count []) p = p ≡ Both session count more
Behind more _ p = Unit {0}

at_end_line : (session : List ℕ) (n : ℕ) (lines more : List (List ℕ)) → Behind more (Both session n lines) (Both session n (lines ++ more))
at_end_line session n [] more = refl
at_end_line session n (line ∷ lines) more = tt

behind : (n : ℕ) (session : List ℕ) (lines more : List (List ℕ)) → Behind more (parts_from n session lines) (parts_from n session (lines ++ more))
behind n session [] more = tt
behind n session (line ∷ lines) more =
    each_way (Behind more) n session line lines (lines ++ more) tt tt (λ few. at_end_line (session ++ line) n lines more)
    (behind (n + 1) (session ++ line) lines more)

-- a session of so many lines, and other lines in the place of those after it
abbrev AtLeast : ℕ → Parts → Type 0
AtLeast n (Both session count texts) = n ≤ count
AtLeast n _ = Unit {0}

at_least : (n : ℕ) (session : List ℕ) (lines : List (List ℕ)) → AtLeast n (parts_from n session lines)
at_least n session [] = tt
at_least n session (line ∷ lines) =
    each_way (λ p q. AtLeast n p) n session line lines lines tt tt (λ few. omega arith)
    (sooner (parts_from (n + 1) (session ++ line) lines) (at_least (n + 1) (session ++ line) lines))
  where
    sooner : (p : Parts) → AtLeast (n + 1) p → AtLeast n p
    sooner (Both s count texts) h = omega (arith, h)
    sooner _ h = tt

abbrev Moved : ℕ → List (List ℕ) → Parts → Parts → Type 0
Moved k others (Both session count texts) p = count ≡ k → p ≡ Both session count others
Moved k others _ p = Unit {0}

no_line : (n k : ℕ) (others : List (List ℕ)) (p q : Parts) → AtLeast n p → k + 1 ≡ n + 0 → Moved k others p q
no_line n k others (Both s c ts) q most count = λ is. absurd (omega (arith, most, is, count))
no_line n k others _ q most count = tt

moved : (n k : ℕ) (session : List ℕ) (lines texts others : List (List ℕ)) → k + 1 ≡ n + length lines
    → Moved k others (parts_from n session (lines ++ texts)) (parts_from n session (lines ++ others))
moved n k session [] texts others count = no_line n k others (parts_from n session texts) (parts_from n session others) (at_least n session texts) count
moved n k session (line ∷ lines) texts others count =
    each_way (Moved k others) n session line (lines ++ texts) (lines ++ others) tt tt
    (λ few is. ap (λ (ls : List (List ℕ)). Both (session ++ line) n (ls ++ others)) (none_left lines (omega (arith, is, count))))
    (moved (n + 1) k (session ++ line) lines texts others (omega (arith, count)))

pub other_transcript : (k : ℕ) (session : List ℕ) (lines texts others : List (List ℕ)) → k ≡ length lines
    → parts_from 1 [] (lines ++ texts) ≡ Both session k texts
    → parts_from 1 [] (lines ++ others) ≡ Both session k others
other_transcript k session lines texts others count is =
    subst (λ (p : Parts). Moved k others p (parts_from 1 [] (lines ++ others))) is (moved 1 k [] lines texts others (omega (arith, count))) refl

-- lines none of which is an END line are no session
pub no_session : (n : ℕ) (session : List ℕ) (lines : List (List ℕ)) → list_any is_end_line lines ≡ false → IsYes (by_parts (parts_from n session lines)) → ⊥
no_session n session [] none = λ said. said
no_session n session (line ∷ lines) none =
    elim (cases_Bool (ltb most_lines n)) [
      | inl past ↦ rw past (λ said. said)
      | inr few ↦
          elim (cases_Bool (ltb most_session_bytes (length (before_lf line)))) [
            | inl longer ↦ rw (few, longer) (λ said. said)
            | inr short ↦
                elim (cases_Bool (is_end_line line)) [
                  | inl last ↦ (let some : list_any is_end_line (line ∷ lines) ≡ true = rw last refl in absurd (false≢true (sym none ∙ some)))
                  | inr other ↦ (let more : list_any is_end_line lines ≡ false = rw other at none in rw (few, short, other)
                      (no_session (n + 1) (session ++ line) lines more))
                ]
          ]
    ]

-- the lines of bytes whose lines all have their LF, and of bytes after them
pub lines_behind : (texts : List (List ℕ)) (rest : List ℕ) → AllWhole texts → lines_in (concat texts ++ rest) ≡ texts ++ lines_in rest
lines_behind [] rest h = refl
lines_behind (text ∷ texts) rest h =
    rw (append_assoc text (concat texts) rest) (first_line text (concat texts ++ rest) h.0 ∙ ap (λ ts. text ∷ ts) (lines_behind texts rest h.1))

-- a session that ends with its END line and has no line that is too long
pub record IsSession (session : List ℕ) (count : ℕ) : Type 0 where
  pub ends : parts_from 1 [] (lines_in session) ≡ Both session count []
  pub whole : AllWhole (lines_in session)

pub session_parts : (session rest : List ℕ) (count : ℕ) → IsSession session count
    → parts_from 1 [] (lines_in (session ++ rest)) ≡ Both session count (lines_in rest)
session_parts session rest count s =
    let is : lines_in (session ++ rest) ≡ lines_in session ++ lines_in rest =
    ap (λ bs. lines_in (bs ++ rest)) (sym (concat_lines session)) ∙ lines_behind (lines_in session) rest s.whole in
    rw is (subst (λ (p : Parts). Behind (lines_in rest) p (parts_from 1 [] (lines_in session ++ lines_in rest))) s.ends
    (behind 1 [] (lines_in session) (lines_in rest)))

-- a printed transcript, after its session, is answered Yes, if there is room for both
pub session_verified : (session : List ℕ) (count : ℕ) (lines : List Line) (fate : Fate) → IsSession session count → AllByRecursion IsPrinted lines
    → Transcript (events_of session) lines fate → count + length lines ≤ most_lines → verified (session ++ text lines) ≡ Judged (Yes (length lines))
unfolding verified
session_verified session count lines fate s printed h room =
    let es = events_of session in
    let accepted = lines_accepted es (text lines) (written_accepted es lines fate printed h) in
    let many : length (lines_in (text lines)) ≡ length lines = text_lines lines printed in
    rw (session_parts session (text lines) count s) (has_yes (most_lines - count) es (lines_in (text lines)) (omega (arith, many, room))
    accepted ∙ ap (λ k. Judged (Yes k)) many)
