-- What of an input makes an answer its answer.
use Rattle.std.proofs.Common.{◌≡◌, false, ◌≤◌, ◌<◌, ◌==◌, ◌+◌, ◌-◌, ℕ, List, [], ◌∷◌, ◌++◌, length, leb, ltb, take, refl, sym, ap, subst, ◌∙◌, inl, inr, arith}
use Rattle.std.proofs.lemmas.Bool.{cases_Bool}
use Rattle.std.proofs.lemmas.Bool.Decides.{nat_tests}
use Rattle.std.specs.List.{concat}
use Rattle.its_records.specs.Item.{Item}
use Rattle.its_session.specs.Events.{events_of, most_lines}
use Rattle.its_plain.specs.Transcript.{at_start}
use Rattle.its_plain.specs.Transcript.Turns.{highest}
use Rattle.its_reader.specs.TextLines.{in_front, lines_in}
use Rattle.its_verify.specs.Accepted.{IsFirst}
use Rattle.its_verify.specs.Rulings.{Verdict, Yes, No, judged}
use Rattle.its_verify.specs.Verified.{Answer, Judged, Long, Cut, TooLong, Parts, Both, LongLine, NoEnd, TooMany, bounded, by_parts, parts_from, verified, within}
use Rattle.its_verify.proofs.BoundedLaws.{has_no, has_yes, long_past, no_has, past_long, yes_has}
use Rattle.its_verify.proofs.LinesLaws.{concat_lines}
use Rattle.its_verify.proofs.PartsLaws.{both_whole, each_way}
use Rattle.its_verify.proofs.VerdictLaws.{accepted_lines, lines_accepted}
use Rattle.its_top.specs.Promise.{IsCut}
use Rattle.its_top.specs.Verifying.{Why}

-- the lines after the first one are those of the bytes after it
abbrev Behind : List (List ℕ) → Type 0
Behind [] = Unit {0}
Behind (line ∷ lines) = lines_in (concat lines) ≡ lines

no_lines : lines_in [] ≡ []
unfolding lines_in
no_lines = refl

behind_in_front : (b : ℕ) (bs : List ℕ) (lines : List (List ℕ)) → lines_in bs ≡ lines → Behind lines → Behind (in_front b lines)
behind_in_front b bs [] is h = no_lines
behind_in_front b bs (line ∷ lines) is h =
    elim (cases_Bool (b == 10)) [
      | inl lf ↦ rw lf (subst (λ (ls : List (List ℕ)). lines_in (concat ls) ≡ ls) is (ap lines_in (concat_lines bs)))
      | inr other ↦ rw other h
    ]

behind_first : (bytes : List ℕ) → Behind (lines_in bytes)
unfolding lines_in
behind_first [] = tt
behind_first (b ∷ bs) = behind_in_front b bs (lines_in bs) refl (behind_first bs)

others : (line : List ℕ) (lines : List (List ℕ)) → lines_in (concat (line ∷ lines)) ≡ line ∷ lines → lines_in (concat lines) ≡ lines
others line lines is = subst Behind is (behind_first (concat (line ∷ lines)))

-- what holds of the two parts
abbrev TwoParts : Parts → Type 0
TwoParts (Both session count texts) = (count ≤ most_lines) × (lines_in (concat texts) ≡ texts)
TwoParts _ = Unit {0}

within_most : (n : ℕ) → ltb most_lines n ≡ false → n ≤ most_lines
within_most n h = grind (arith, nat_tests)

two_parts : (n : ℕ) (session : List ℕ) (lines : List (List ℕ)) → lines_in (concat lines) ≡ lines → TwoParts (parts_from n session lines)
two_parts n session [] is = tt
two_parts n session (line ∷ lines) is =
    each_way (λ p q. TwoParts p) n session line lines lines tt tt (λ few. (within_most n few, others line lines is))
    (two_parts (n + 1) (session ++ line) lines (others line lines is))

-- the parts of bytes
record Parted (bytes session : List ℕ) (count : ℕ) (texts : List (List ℕ)) : Type 0 where
  few : count ≤ most_lines
  lines : lines_in (concat texts) ≡ texts
  cut : IsCut bytes session count (concat texts)

parted : (bytes session : List ℕ) (count : ℕ) (texts : List (List ℕ)) → parts_from 1 [] (lines_in bytes) ≡ Both session count texts
    → Parted bytes session count texts
parted bytes session count texts is =
    let all : lines_in (concat (lines_in bytes)) ≡ lines_in bytes = ap lines_in (concat_lines bytes) in
    let both = subst TwoParts is (two_parts 1 [] (lines_in bytes) all) in
    record {
      few = both.0;
      lines = both.1;
      cut = record { whole = both_whole bytes session count texts is; parts = is ∙ ap (λ ts. Both session count ts) (sym both.1) };
    }

-- an answer to a session and a transcript is a verdict, or none
abbrev IsVerdict : Answer → Type 0
IsVerdict (Judged v) = Unit {0}
IsVerdict TooLong = Unit {0}
IsVerdict (Long n) = ⊥
IsVerdict (Cut n) = ⊥

within_verdict : (room : ℕ) (v : Verdict) → IsVerdict (within room v)
within_verdict room (Yes n) = tt
within_verdict room (No n) = elim (cases_Bool (leb n room)) [ inl few ↦ rw few tt | inr past ↦ rw past tt ]

bounded_verdict : (room : ℕ) (es : List Item) (texts : List (List ℕ)) → IsVerdict (bounded room es texts)
unfolding bounded
bounded_verdict room es texts =
    elim (cases_Bool (leb (length texts) room)) [
      | inl few ↦ rw few tt
      | inr past ↦ rw past (within_verdict room (judged at_start highest es 0 (take room texts)))
    ]

-- the answer to a session and a transcript
why_bounded : (bytes session : List ℕ) (count : ℕ) (texts : List (List ℕ)) (a : Answer) → Parted bytes session count texts
    → bounded (most_lines - count) (events_of session) texts ≡ a → IsVerdict a → Why bytes a
why_bounded bytes session count texts (Judged (Yes n)) p is v =
    let h = yes_has (most_lines - count) (events_of session) texts n is in
    let few = h.few in
    let many = h.many in
    let most = p.few in
    let lines = p.lines in
    record {
      session = session;
      count = count;
      transcript = concat texts;
      cut = p.cut;
      accepted = accepted_lines (events_of session) (concat texts) (rw lines h.accepted);
      lines = rw lines many;
      room = omega arith;
    }
why_bounded bytes session count texts (Judged (No n)) p is v =
    let h = no_has (most_lines - count) (events_of session) texts n is in
    let most = p.few in
    let lines = p.lines in
    record {
      session = session;
      count = count;
      transcript = concat texts;
      cut = p.cut;
      first = rw lines h.first;
      room = rw lines (elim h.room_for [ inl all ↦ inl (omega arith) | inr one ↦ inr (first_room n one h.first) ]);
    }
  where
    first_room : (k : ℕ) → k ≤ most_lines - count → IsFirst (events_of session) texts k → count + k ≤ most_lines
    first_room k few f = let most = p.few in let at = f.next in omega arith
why_bounded bytes session count texts TooLong p is v =
    let h = long_past (most_lines - count) (events_of session) texts is in
    let more = h.more in
    let lines = p.lines in
    inr
    (record {
      session = session;
      count = count;
      transcript = concat texts;
      cut = p.cut;
      more = rw lines (omega arith);
      none = λ n f. (let past : most_lines - count < n = h.none n (rw lines at f) in omega arith);
    })
why_bounded bytes session count texts (Long n) p is v = absurd v
why_bounded bytes session count texts (Cut n) p is v = absurd v

why_parts : (bytes : List ℕ) (p : Parts) → parts_from 1 [] (lines_in bytes) ≡ p → Why bytes (by_parts p)
why_parts bytes (Both session count texts) is =
    why_bounded bytes session count texts (bounded (most_lines - count) (events_of session) texts) (parted bytes session count texts is) refl
    (bounded_verdict (most_lines - count) (events_of session) texts)
why_parts bytes (LongLine n) is = is
why_parts bytes (NoEnd n) is = is
why_parts bytes TooMany is = inl is

-- the answer to an input has its reason, and a reason has its answer
pub why : (bytes : List ℕ) → Why bytes (verified bytes)
unfolding verified
why bytes = why_parts bytes (parts_from 1 [] (lines_in bytes)) refl

cut_verified : (bytes session : List ℕ) (count : ℕ) (transcript : List ℕ) → IsCut bytes session count transcript
    → verified bytes ≡ bounded (most_lines - count) (events_of session) (lines_in transcript)
unfolding verified
cut_verified bytes session count transcript c = ap by_parts c.parts

parts_verified : (bytes : List ℕ) (p : Parts) → parts_from 1 [] (lines_in bytes) ≡ p → verified bytes ≡ by_parts p
unfolding verified
parts_verified bytes p is = ap by_parts is

pub answer_by : (bytes : List ℕ) (a : Answer) → Why bytes a → verified bytes ≡ a
answer_by bytes (Judged (Yes n)) h =
    let room = h.room in
    let is = h.lines in
    cut_verified bytes h.session h.count h.transcript h.cut
    ∙ has_yes (most_lines - h.count) (events_of h.session) (lines_in h.transcript) (omega arith)
    (lines_accepted (events_of h.session) h.transcript h.accepted)
    ∙ ap (λ k. Judged (Yes k)) (sym is)
answer_by bytes (Judged (No n)) h =
    cut_verified bytes h.session h.count h.transcript h.cut
    ∙ has_no (most_lines - h.count) (events_of h.session) (lines_in h.transcript) n
    (record { room_for = elim h.room [ inl all ↦ inl (omega arith) | inr one ↦ inr (omega arith) ]; first = h.first })
answer_by bytes (Long n) is = parts_verified bytes (LongLine n) is
answer_by bytes (Cut n) is = parts_verified bytes (NoEnd n) is
answer_by bytes TooLong (inl is) = parts_verified bytes TooMany is
answer_by bytes TooLong (inr p) =
    let few : p.count ≤ most_lines = (parted bytes p.session p.count (lines_in p.transcript) p.cut.parts).few in
    cut_verified bytes p.session p.count p.transcript p.cut
    ∙ past_long (most_lines - p.count) (events_of p.session) (lines_in p.transcript)
    (record { more = (let more = p.more in omega (arith, few)); none = λ n f. (let past = p.none n f in let at = f.next in omega arith) })
