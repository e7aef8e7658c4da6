-- What is said if there is room for so many lines: the verdict, if the lines are no more, or if the
-- verdict names a line for which there is room.
use Rattle.std.proofs.Common.{◌≡◌, ◌<◌, ◌≤◌, ◌⊎◌, ℕ, leb, List, length, take, refl, sym, ap, subst, ◌∙◌, inl, inr, arith, take-take, length-take}
use Rattle.std.proofs.lemmas.Bool.{cases_Bool, cases_lt, le-leb, lt-leb, leb-true}
use Rattle.its_records.specs.Item.{Item}
use Rattle.its_plain.specs.Transcript.{at_start}
use Rattle.its_plain.specs.Transcript.Turns.{highest}
use Rattle.its_verify.specs.Accepted.{AcceptedLines, BeginsTranscript, IsFirst}
use Rattle.its_verify.specs.Rulings.{Verdict, Yes, No, judged}
use Rattle.its_verify.specs.Verified.{Answer, Judged, TooLong, bounded, within}
use Rattle.its_verify.proofs.VerdictLaws.{first_lines_no, lines_yes, no_lines, yes_lines}

-- the verdict that an answer has
verdict_of : Answer → Verdict → Verdict
verdict_of (Judged v) d = v
verdict_of _ d = d

judged_is : (v w : Verdict) → Judged v ≡ Judged w → v ≡ w
unfolding verdict_of
judged_is v w h = ap (λ a. verdict_of a v) h

long_judged : (v : Verdict) → TooLong ≡ Judged v → ⊥
long_judged v h = cc

-- among the first lines, and among all
first_of_front : (es : List Item) (texts : List (List ℕ)) (room n : ℕ) → room < length texts → n ≤ room → IsFirst es (take room texts) n → IsFirst es texts n
first_of_front es texts room n more few f =
    let at = f.next in
    record {
      before = f.before;
      next = f.next;
      few = omega arith;
      begins = subst (BeginsTranscript es) (take-take f.before room texts (omega arith)) f.begins;
      stops =
          elim f.stops [
            | inl end ↦ (let e = end.0 in let long = length-take room texts in absurd (omega arith))
            | inr none ↦ inr (λ b. none (subst (BeginsTranscript es) (sym (take-take n room texts few)) b))
          ];
    }

front_of_first : (es : List Item) (texts : List (List ℕ)) (room n : ℕ) → room < length texts → n ≤ room → IsFirst es texts n → IsFirst es (take room texts) n
front_of_first es texts room n more few f =
    let at = f.next in
    record {
      before = f.before;
      next = f.next;
      few = (let long = length-take room texts in omega arith);
      begins = subst (BeginsTranscript es) (sym (take-take f.before room texts (omega arith))) f.begins;
      stops =
          elim f.stops [
            | inl end ↦ (let e = end.0 in absurd (omega arith))
            | inr none ↦ inr (λ b. none (subst (BeginsTranscript es) (take-take n room texts few) b))
          ];
    }

-- if there is room for all lines
all_fit : (room : ℕ) (es : List Item) (texts : List (List ℕ)) → length texts ≤ room → bounded room es texts ≡ Judged (judged at_start highest es 0 texts)
unfolding bounded
all_fit room es texts few = rw (le-leb (length texts) room few) refl

too_many : (room : ℕ) (es : List Item) (texts : List (List ℕ)) → room < length texts
    → bounded room es texts ≡ within room (judged at_start highest es 0 (take room texts))
unfolding bounded
too_many room es texts more = rw (lt-leb (length texts) room more) refl

-- only a verdict that names one of the first lines is said
record Names (room : ℕ) (v w : Verdict) : Type 0 where
  line : ℕ
  first : v ≡ No line
  few : line ≤ room
  said : w ≡ No line

within_names : (room : ℕ) (v w : Verdict) → within room v ≡ Judged w → Names room v w
within_names room (Yes m) w h = absurd (long_judged w h)
within_names room (No m) w h =
    elim (cases_Bool (leb m room)) [
      | inl few ↦
          (let is : Judged (No m) ≡ Judged w = rw few at h in
          record { line = m; first = refl; few = leb-true m room few; said = sym (judged_is (No m) w is) })
      | inr past ↦ (let is : TooLong ≡ Judged w = rw past at h in absurd (long_judged w is))
    ]

-- Yes exactly if the lines are accepted and there is room for them
pub record Room (room : ℕ) (es : List Item) (texts : List (List ℕ)) (k : ℕ) : Type 0 where
  pub few : length texts ≤ room
  pub many : k ≡ length texts
  pub accepted : AcceptedLines es texts

pub yes_has : (room : ℕ) (es : List Item) (texts : List (List ℕ)) (k : ℕ) → bounded room es texts ≡ Judged (Yes k) → Room room es texts k
yes_has room es texts k h =
    elim (cases_lt room (length texts)) [
      | inl more ↦
          (let n = within_names room (judged at_start highest es 0 (take room texts)) (Yes k) (sym (too_many room es texts more) ∙ h) in
          let s = n.said in
          absurd cc)
      | inr few ↦
          (let y = yes_lines es texts k (judged_is (judged at_start highest es 0 texts) (Yes k) (sym (all_fit room es texts few) ∙ h)) in
          record { few = few; many = y.0; accepted = y.1 })
    ]

pub has_yes : (room : ℕ) (es : List Item) (texts : List (List ℕ)) → length texts ≤ room → AcceptedLines es texts
    → bounded room es texts ≡ Judged (Yes (length texts))
has_yes room es texts few h = all_fit room es texts few ∙ ap Judged (lines_yes es texts h)

-- No exactly with the first line that is not licensed, if there is room for all lines or for this
-- one
pub record NotYet (room : ℕ) (es : List Item) (texts : List (List ℕ)) (n : ℕ) : Type 0 where
  pub room_for : (length texts ≤ room) ⊎ (n ≤ room)
  pub first : IsFirst es texts n

pub no_has : (room : ℕ) (es : List Item) (texts : List (List ℕ)) (n : ℕ) → bounded room es texts ≡ Judged (No n) → NotYet room es texts n
no_has room es texts n h =
    elim (cases_lt room (length texts)) [
      | inl more ↦
          (let y = within_names room (judged at_start highest es 0 (take room texts)) (No n) (sym (too_many room es texts more) ∙ h) in
          let is : y.line ≡ n = (let s = y.said in cc) in
          let few : n ≤ room = (let f = y.few in omega arith) in
          record { room_for = inr few; first = first_of_front es texts room n more few (no_lines es (take room texts) n (y.first ∙ ap No is)) })
      | inr few ↦
          record {
            room_for = inl few;
            first = no_lines es texts n
                (judged_is (judged at_start highest es 0 texts) (No n) (sym (all_fit room es texts few) ∙ h));
          }
    ]

pub has_no : (room : ℕ) (es : List Item) (texts : List (List ℕ)) (n : ℕ) → NotYet room es texts n → bounded room es texts ≡ Judged (No n)
has_no room es texts n y =
    elim (cases_lt room (length texts)) [
      | inl more ↦
          (let few : n ≤ room = elim y.room_for [ inl all ↦ absurd (omega arith) | inr one ↦ one ] in
          let said = first_lines_no es (take room texts) n (front_of_first es texts room n more few y.first) in
          too_many room es texts more ∙ rw (said, le-leb n room few) refl)
      | inr few ↦ all_fit room es texts few ∙ ap Judged (first_lines_no es texts n y.first)
    ]

-- else nothing is said: there are more lines than there is room for, and no line before is the
-- first
pub record Past (room : ℕ) (es : List Item) (texts : List (List ℕ)) : Type 0 where
  pub more : room < length texts
  pub none : (n : ℕ) → IsFirst es texts n → room < n

pub long_past : (room : ℕ) (es : List Item) (texts : List (List ℕ)) → bounded room es texts ≡ TooLong → Past room es texts
long_past room es texts h =
    elim (cases_lt room (length texts)) [
      | inl more ↦
          record {
            more = more;
            none = λ n f.
                elim (cases_lt room n) [
                  | inl past ↦ past
                  | inr few ↦ absurd (long_judged (No n) (sym h ∙ has_no room es texts n (record { room_for = inr few; first = f })))
                ];
          }
      | inr few ↦ absurd (long_judged (judged at_start highest es 0 texts) (sym h ∙ all_fit room es texts few))
    ]

within_past : (room : ℕ) (v : Verdict) → ((n : ℕ) → v ≡ No n → room < n) → within room v ≡ TooLong
within_past room (Yes m) h = refl
within_past room (No m) h = rw (lt-leb m room (h m refl)) refl

pub past_long : (room : ℕ) (es : List Item) (texts : List (List ℕ)) → Past room es texts → bounded room es texts ≡ TooLong
past_long room es texts p =
    too_many room es texts p.more
    ∙ within_past room (judged at_start highest es 0 (take room texts))
    (λ n is.
    elim (cases_lt room n) [
      | inl past ↦ past
      | inr few ↦ p.none n (first_of_front es texts room n p.more few (no_lines es (take room texts) n is))
    ])
