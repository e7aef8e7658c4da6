-- The judge says Yes exactly if the bytes are accepted, and else gives the first line that is not
-- licensed.
use Rattle.std.proofs.Common.{◌≡◌, ◌≤◌, ℕ, suc, List, ◌++◌, length, take, drop, refl, sym, ap, subst, ◌∙◌, inl, inr, arith, append_assoc, ◌<◌, take-append-drop, take-take}
use Rattle.std.specs.List.{AllByRecursion}
use Rattle.its_records.specs.Item.{Item}
use Rattle.its_print.specs.Printing.{Line, text}
use Rattle.its_print.specs.Sizes.{IsPrinted}
use Rattle.std.proofs.lemmas.Bool.{cases_order}
use Rattle.its_plain.specs.Transcript.{Fate, Transcript, at_start}
use Rattle.its_plain.specs.Transcript.Turns.{highest}
use Rattle.its_plain.proofs.RunLaws.{run_shows, shows_run}
use Rattle.its_reader.specs.TextLines.{lines_in}
use Rattle.its_verify.specs.Accepted.{Accepted, AcceptedLines, BeginsTranscript, IsFirst}
use Rattle.its_verify.specs.Rulings.{Verdict, Yes, No, verdict, judged}
use Rattle.its_verify.proofs.LinesLaws.{concat_lines, lines_concat}
use Rattle.its_verify.proofs.PrintedLaws.{said_whole, tells_text}
use Rattle.its_verify.proofs.JudgeLaws.{From, right_judged}
use Rattle.its_verify.proofs.RightLaws.{Begun, Decided, First}

pub from_lines : (es : List Item) (texts : List (List ℕ)) → From at_start highest es texts → AcceptedLines es texts
from_lines es texts h = record { lines = h.rest; fate = h.fate; transcript = run_shows at_start highest es h.rest h.fate h.holds; said = h.said }

pub lines_from : (es : List Item) (texts : List (List ℕ)) → AcceptedLines es texts → From at_start highest es texts
lines_from es texts h = record { rest = h.lines; fate = h.fate; holds = shows_run at_start highest es h.lines h.fate h.transcript; said = h.said }

-- bytes that are accepted, and their lines
pub accepted_lines : (es : List Item) (bytes : List ℕ) → AcceptedLines es (lines_in bytes) → Accepted es bytes
accepted_lines es bytes h = record {
  lines = h.lines;
  fate = h.fate;
  transcript = h.transcript;
  text = record { texts = lines_in bytes; said = h.said; whole = concat_lines bytes };
}

pub lines_accepted : (es : List Item) (bytes : List ℕ) → Accepted es bytes → AcceptedLines es (lines_in bytes)
lines_accepted es bytes h =
    let is : lines_in bytes ≡ h.text.texts = ap lines_in (sym h.text.whole) ∙ lines_concat h.text.texts (said_whole h.lines h.text.texts h.text.said) in
    record { lines = h.lines; fate = h.fate; transcript = h.transcript; said = rw is h.text.said }

-- what the judge says of lines
decided : (es : List Item) (texts : List (List ℕ)) → Decided (From at_start highest es) 0 texts (judged at_start highest es 0 texts)
decided es texts = (right_judged es at_start highest).decides 0 texts

pub yes_lines : (es : List Item) (texts : List (List ℕ)) (k : ℕ) → judged at_start highest es 0 texts ≡ Yes k → (k ≡ length texts) × AcceptedLines es texts
yes_lines es texts k is =
    let d = subst (Decided (From at_start highest es) 0 texts) is (decided es texts) in
    (omega (arith, d.0), from_lines es texts d.1)

by_decided : (es : List Item) (texts : List (List ℕ)) (v : Verdict) → Decided (From at_start highest es) 0 texts v
    → From at_start highest es texts → v ≡ Yes (length texts)
by_decided es texts (Yes k) d h = ap Yes (omega (arith, d.0))
by_decided es texts (No k) d h = absurd (d.1 h)

pub lines_yes : (es : List Item) (texts : List (List ℕ)) → AcceptedLines es texts → judged at_start highest es 0 texts ≡ Yes (length texts)
lines_yes es texts h = by_decided es texts (judged at_start highest es 0 texts) (decided es texts) (lines_from es texts h)

begins : (es : List Item) (texts : List (List ℕ)) → Begun (From at_start highest es) texts → BeginsTranscript es texts
begins es texts b = record { more = b.more; accepted = from_lines es (texts ++ b.more) b.whole }

begun : (es : List Item) (texts : List (List ℕ)) → BeginsTranscript es texts → Begun (From at_start highest es) texts
begun es texts b = record { more = b.more; whole = lines_from es (texts ++ b.more) b.accepted }

first : (es : List Item) (texts : List (List ℕ)) (k : ℕ) → First (From at_start highest es) texts 0 k → IsFirst es texts k
first es texts k f =
    let is : k ≡ suc f.before = omega (arith, f.at) in
    record {
      before = f.before;
      next = omega (arith, f.at);
      few = f.few;
      begins = begins es (take f.before texts) f.begun;
      stops =
          elim f.stops [
            | inl end ↦ inl (end.0, λ h. end.1 (lines_from es texts h))
            | inr none ↦ inr (λ b. none (begun es (take (suc f.before) texts) (subst (λ (m : ℕ). BeginsTranscript es (take m texts)) is b)))
          ];
    }

pub no_lines : (es : List Item) (texts : List (List ℕ)) (k : ℕ) → judged at_start highest es 0 texts ≡ No k → IsFirst es texts k
no_lines es texts k is =
    let d = subst (Decided (From at_start highest es) 0 texts) is (decided es texts) in
    first es texts k d.0

-- Yes exactly if the bytes are a transcript of the events, with their number of lines; No with the
-- first line that is not licensed
pub yes_accepted : (es : List Item) (bytes : List ℕ) (k : ℕ) → verdict es bytes ≡ Yes k → Accepted es bytes
unfolding verdict
yes_accepted es bytes k is = accepted_lines es bytes (yes_lines es (lines_in bytes) k is).1

pub accepted_yes : (es : List Item) (bytes : List ℕ) → Accepted es bytes → verdict es bytes ≡ Yes (length (lines_in bytes))
unfolding verdict
accepted_yes es bytes h = lines_yes es (lines_in bytes) (lines_accepted es bytes h)

pub no_first : (es : List Item) (bytes : List ℕ) (n : ℕ) → verdict es bytes ≡ No n → IsFirst es (lines_in bytes) n
unfolding verdict
no_first es bytes n is = no_lines es (lines_in bytes) n is

-- a transcript that is printed is accepted
pub written_accepted : (es : List Item) (lines : List Line) (fate : Fate) → AllByRecursion IsPrinted lines → Transcript es lines fate
    → Accepted es (text lines)
written_accepted es lines fate printed h = record { lines = lines; fate = fate; transcript = h; text = tells_text lines printed }

-- there is one first line that is not licensed: the judge says No with it exactly if it is this
-- line
less_begins : (es : List Item) (texts : List (List ℕ)) (k m : ℕ) → k ≤ m → BeginsTranscript es (take m texts) → BeginsTranscript es (take k texts)
less_begins es texts k m less b =
    let two : take k texts ++ drop k (take m texts) ≡ take m texts =
    ap (λ (t : List (List ℕ)). t ++ drop k (take m texts)) (sym (take-take k m texts less)) ∙ take-append-drop k (take m texts) in
    record {
      more = drop k (take m texts) ++ b.more;
      accepted = rw (← append_assoc (take k texts) (drop k (take m texts)) b.more, two) b.accepted;
    }

accepted_begins : (es : List Item) (texts : List (List ℕ)) (k : ℕ) → AcceptedLines es texts → BeginsTranscript es (take k texts)
accepted_begins es texts k h = record { more = drop k texts; accepted = rw (take-append-drop k texts) h }

not_less : (es : List Item) (texts : List (List ℕ)) (n m : ℕ) → IsFirst es texts n → IsFirst es texts m → n < m → ⊥
not_less es texts n m f g less =
    elim f.stops [
      | inl end ↦ (let few = g.few in let at = g.next in let is = f.next in let e = end.0 in absurd (omega arith))
      | inr none ↦ none (less_begins es texts n g.before (omega (arith, g.next)) g.begins)
    ]

pub one_first : (es : List Item) (texts : List (List ℕ)) (n m : ℕ) → IsFirst es texts n → IsFirst es texts m → n ≡ m
one_first es texts n m f g =
    elim (cases_order n m) [
      | inl same ↦ same
      | inr apart ↦ elim apart [ inl less ↦ absurd (not_less es texts n m f g less) | inr more ↦ absurd (not_less es texts m n g f more) ]
    ]

pub first_not_accepted : (es : List Item) (texts : List (List ℕ)) (n : ℕ) → IsFirst es texts n → AcceptedLines es texts → ⊥
first_not_accepted es texts n f h =
    elim f.stops [
      | inl end ↦ end.1 h
      | inr none ↦ none (accepted_begins es texts n h)
    ]

first_is : (es : List Item) (texts : List (List ℕ)) (n : ℕ) (v : Verdict) → judged at_start highest es 0 texts ≡ v → IsFirst es texts n → v ≡ No n
first_is es texts n (Yes k) is f = absurd (first_not_accepted es texts n f (yes_lines es texts k is).1)
first_is es texts n (No k) is f = ap No (one_first es texts k n (no_lines es texts k is) f)

pub first_lines_no : (es : List Item) (texts : List (List ℕ)) (n : ℕ) → IsFirst es texts n → judged at_start highest es 0 texts ≡ No n
first_lines_no es texts n f = first_is es texts n (judged at_start highest es 0 texts) refl f

pub first_no : (es : List Item) (bytes : List ℕ) (n : ℕ) → IsFirst es (lines_in bytes) n → verdict es bytes ≡ No n
unfolding verdict
first_no es bytes n f = first_lines_no es (lines_in bytes) n f
