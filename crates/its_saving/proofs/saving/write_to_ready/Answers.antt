use Rattle.std.proofs.Common.{[], ◌∷◌}
use Rattle.its_records.specs.declared.state_line.StateLine.TheVariants as states
use Rattle.its_world.specs.World.{state_of}
use Rattle.its_saved.specs.Saving.{saved}
use Rattle.its_saved.specs.Text.{turn_lines}
use Rattle.its_saving.proofs.WritingLaws.{first_cut, ready_put, second_cut}
use Rattle.its_saving.proofs.saving.write_to_ready.Goals as goal

pub returns : goal.returns
returns g c = ready_put _ _ _ _ _ _ (saved (state_of c.args.w.now).raw) (turn_lines c.args.last) (states.Ready ∷ []) _ _ _ _ _
    c.in_ok-write_world.was c.write_world.ensures c.in_ok-write_turn.was c.write_turn.ensures c.write_line.ensures

pub returns-in_err-write_world : goal.returns-in_err-write_world
returns-in_err-write_world g c = first_cut _ _ _ _ c.write_world.new.out c.write_world.new.out (saved (state_of c.args.w.now).raw)
    (turn_lines c.args.last) (states.Ready ∷ []) _ _ _ c.in_err-write_world.was c.write_world.ensures c.from_residual.ensures.0

pub returns-in_err-write_turn : goal.returns-in_err-write_turn
returns-in_err-write_turn g c = second_cut _ _ _ _ _ c.write_turn.new.out (saved (state_of c.args.w.now).raw) (turn_lines c.args.last)
    (states.Ready ∷ []) _ _ _ _ _ c.in_ok-write_world.was c.write_world.ensures c.in_err-write_turn.was c.write_turn.ensures
    c.from_residual-in_err-write_turn.ensures.0
