-- The state that the lines of a session leave, and the slot of its last turn.
-- No promise rests on this.
use Rattle.std.specs.Prelude.{ℕ, zero, suc, Option, Some, None, List, [], ◌∷◌}
use Rattle.its_records.specs.Item.{Item, Read, Unread, Beyond}
use Rattle.its_records.specs.declared.session.Event.{Event}
use Rattle.its_plain.specs.Operator.{Block, Refuses, Does, Ticks, Quits}
use Rattle.its_plain.specs.Operator.Lines.{Lined, Done, Peeks, lined}
use Rattle.its_plain.specs.Transcript.Turns.{turn_after, turn_kept, turns_asked, ticks_asked}
use Rattle.its_stepped.specs.State.{State}
use Rattle.its_stepped.specs.Lines.{after_calm, with_raw, after_ticks}

pub record Left : Type 0 where
  pub state : State
  pub turn : ℕ

abbrev pub left_at : State → ℕ → Left
left_at v i = record { state = v; turn = i }

-- a line with this effect, in state w, which finds state v; a session that ends with it stays there
abbrev pub left_by : State → State → Block → Left → Lined → (State → Block → Left) → Left
left_by w v b stays (Done (Refuses r)) next = stays
left_by w v b stays (Done (Does m out touched b')) next = next (with_raw v m) b'
left_by w v b stays (Done (Ticks s k)) next = next (after_ticks w s k) b
left_by w v b stays (Done Quits) next = stays
left_by w v b stays (Peeks s) next = next w b

abbrev pub line_left : State → Block → Left → Event → (State → Block → Left) → Left
line_left w b stays e next = left_by w (after_calm w b e) b stays (lined (after_calm w b e).raw b e) next

-- up to n turns of q ticks, the first after a turn of slot `last`
abbrev pub turn_left : Option ℕ → ℕ → State → (State → ℕ → Left) → Left → Left
turn_left (Some s) q w more done = more (after_ticks w s q) s
turn_left None q w more done = done

abbrev pub turns_left : ℕ → ℕ → State → ℕ → (State → ℕ → Left) → Left
turns_left zero q w last next = next w last
turns_left (suc n) q w last next = turn_left (turn_after w.raw last) q w (λ v s. turns_left n q v s next) (next w last)

-- what these events leave, after a turn of slot `last`
abbrev pub left : State → Block → ℕ → List Item → Left
left w b last [] = left_at w last
left w b last (Read e ∷ es) =
    line_left w b (left_at w last) e (λ v c. turns_left (turns_asked e) (ticks_asked e) v (turn_kept last e) (λ x l. left x c l es))
left w b last (Unread r ∷ es) = left_at w last
left w b last (Beyond ∷ es) = left_at w last
