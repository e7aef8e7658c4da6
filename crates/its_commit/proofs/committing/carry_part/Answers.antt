use Rattle.std.specs.Prelude.{◌≡◌, false, IfSome, [], ◌∷◌}
use Rattle.std.proofs.Common.{sym, subst}
use Rattle.its_plain.specs.Call.Decide.{call_named}
use Rattle.its_stepped.specs.Commit.{sleeps}
use Rattle.its_commit.specs.Carried.{standing_of}
use Rattle.its_commit.proofs.CommittingLaws.{frame_kept, stands_kept, goes_committed}
use Rattle.its_commit.proofs.committing.carry_part.Goals as goal

pub go_on_awake-requires-clause-stands : goal.go_on_awake-requires-clause-stands
go_on_awake-requires-clause-stands c =
    stands_kept c.args.w.now c.apply_part.new.w c.args.slot (c.args.change ∷ []) c.apply_part.ensures.row (c.requires.ready, tt) c.requires.stands

pub go_on_awake-requires-clause-awake : goal.go_on_awake-requires-clause-awake
go_on_awake-requires-clause-awake c =
    subst (λ o. IfSome (standing_of o) (λ f. sleeps (call_named f.ask.name) ≡ false))
    (sym (frame_kept c.args.w.now c.apply_part.new.w c.args.slot (c.args.change ∷ []) c.apply_part.ensures.row (c.requires.ready, tt))) c.requires.awake

pub returns-clause-row : goal.returns-clause-row
returns-clause-row c =
    goes_committed c.args.w.now c.apply_part.new.w c.go_on_awake.new.w c.args.slot (c.args.change ∷ []) c.args.held
    (c.args.next ∷ c.args.left ∷ []) c.apply_part.ensures.row
    (c.requires.ready, tt) c.requires.job c.go_on_awake.ensures.row
