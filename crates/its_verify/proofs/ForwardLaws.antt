-- What is said from a place of a transcript on speaks of no line before it.
use Rattle.std.proofs.Common.{ℕ, List, [], ◌∷◌}
use Rattle.its_records.specs.Item.{Item, Read, Unread, Beyond}
use Rattle.its_print.specs.Printing.{Refused}
use Rattle.its_plain.specs.Operator.{Does, Quits, Refuses, Ticks}
use Rattle.its_plain.specs.Operator.Lines.{Done, Lined, Peeks, lined}
use Rattle.its_plain.specs.Transcript.{Walk, next_line, walk_after}
use Rattle.its_plain.specs.Transcript.Turns.{ticks_asked, turn_kept, turns_asked}
use Rattle.its_verify.specs.TranscriptReader.{Forward}
use Rattle.its_verify.specs.Rulings.{Ruling, at_end, gone, judged, peeking, turned}
use Rattle.its_verify.specs.Letters.{ticked}
use Rattle.its_verify.proofs.TranscriptReaderLaws.{end_forward, led_forward}
use Rattle.its_verify.proofs.ShowingLaws.{lines_forward}
use Rattle.its_verify.proofs.VerifierLaws.{turned_forward}

gone_forward : (v : Walk) (o : Lined) (next : Walk → Ruling) → ((w : Walk) → Forward (next w)) → Forward (gone v o next)
gone_forward v (Done (Refuses r)) next h = lines_forward (Refused v.line r ∷ []) at_end end_forward
gone_forward v (Done (Does n out touched b)) next h = lines_forward out (next (next_line (walk_after v n touched b)))
    (h (next_line (walk_after v n touched b)))
gone_forward v (Done (Ticks i k)) next h = led_forward (ticked v i k) (λ w. next (next_line w)) (λ w. h (next_line w))
gone_forward v (Done Quits) next h = end_forward
gone_forward v (Peeks i) next h = led_forward peeking (λ text. next (next_line v)) (λ text. h (next_line v))

pub judged_forward : (es : List Item) (v : Walk) (last : ℕ) → Forward (judged v last es)
judged_forward [] v last = end_forward
judged_forward (Read e ∷ es) v last =
    gone_forward v (lined v.machine v.block e) (λ w. turned (turns_asked e) (ticks_asked e) w (turn_kept last e) (λ x s. judged x s es))
    (λ w. turned_forward (turns_asked e) (ticks_asked e) w (turn_kept last e) (λ x s. judged x s es) (λ x s. judged_forward es x s))
judged_forward (Unread r ∷ es) v last = lines_forward (Refused v.line r ∷ []) at_end end_forward
judged_forward (Beyond ∷ es) v last = end_forward
