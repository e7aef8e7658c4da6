-- What is said of an input whose first part is a session.
use Rattle.std.proofs.Common.{◌≡◌, ◌+◌, ◌-◌, ℕ, List, [], length, take, leb, if◌then◌else◌, refl, ap, ◌∙◌, arith}
use Rattle.its_session.specs.Events.{events_of, most_lines}
use Rattle.its_reader.specs.TextLines.{lines_in}
use Rattle.its_plain.specs.Transcript.{at_start}
use Rattle.its_plain.specs.Transcript.Turns.{highest}
use Rattle.its_verify.specs.TranscriptReader.{cut}
use Rattle.its_verify.specs.Rulings.{Ruling, judged}
use Rattle.its_verify.specs.Verified.{Both, LongLine, NoEnd, TooMany, Judged, Long, Cut, TooLong, bounded, within, by_parts, parts_from, verified}

cut_first : (room : ℕ) (ruling : Ruling) (texts : List (List ℕ))
    → (if leb (length texts) room then Judged (ruling 0 texts) else within room (ruling 0 (take room texts))) ≡ cut room 0 ruling texts
cut_first room ruling texts =
    let all : 0 + length texts ≡ length texts = omega arith in
    let most : room - 0 ≡ room = omega arith in
    rw (all, most) refl

pub whole_session : (bytes session : List ℕ) (count : ℕ) (texts : List (List ℕ)) → parts_from 1 [] (lines_in bytes) ≡ Both session count texts
    → verified bytes ≡ cut (most_lines - count) 0 (judged at_start highest (events_of session)) texts
unfolding verified bounded
whole_session bytes session count texts is = ap by_parts is ∙ cut_first (most_lines - count) (judged at_start highest (events_of session)) texts

pub whole_long : (bytes : List ℕ) (n : ℕ) → parts_from 1 [] (lines_in bytes) ≡ LongLine n → verified bytes ≡ Long n
unfolding verified
whole_long bytes n is = ap by_parts is

pub whole_cut : (bytes : List ℕ) (n : ℕ) → parts_from 1 [] (lines_in bytes) ≡ NoEnd n → verified bytes ≡ Cut n
unfolding verified
whole_cut bytes n is = ap by_parts is

pub whole_beyond : (bytes : List ℕ) → parts_from 1 [] (lines_in bytes) ≡ TooMany → verified bytes ≡ TooLong
unfolding verified
whole_beyond bytes is = ap by_parts is
