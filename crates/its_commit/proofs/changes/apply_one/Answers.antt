use Rattle.std.proofs.Common.{ap, sym, ◌∙◌, subst}
use Rattle.its_frame.specs.declared.change.Change.{Change}
use Rattle.its_stepped.specs.Commit.{effect_on}
use Rattle.its_world.specs.World.{state_of}
use Rattle.its_world.proofs.StorageLaws.{has_job}
use Rattle.its_commit.specs.Built.{CanMake}
use Rattle.its_commit.proofs.changes.apply_one.Goals as goal

pub returns-in-Delete-clause-row : goal.returns-in-Delete-clause-row
returns-in-Delete-clause-row c = c.delete_file.ensures.row c.args.slot
    ∙ ap (λ (x : Change). effect_on x c.args.slot (state_of c.args.w.now)) (sym c.in-Delete.is)

pub remove_tree-requires-clause-job : goal.remove_tree-requires-clause-job
remove_tree-requires-clause-job c = rw c.new-in-Remove.ensures
    (has_job c.args.w.now _ (subst (λ (x : Change). CanMake x c.args.slot (state_of c.args.w.now)) c.in-Remove.is c.requires.can).1)

pub returns-in-Remove-clause-row : goal.returns-in-Remove-clause-row
returns-in-Remove-clause-row c = (rw c.new-in-Remove.ensures at c.remove_tree.ensures.removed c.args.slot)
    ∙ ap (λ (x : Change). effect_on x c.args.slot (state_of c.args.w.now)) (sym c.in-Remove.is)

pub returns-in-Rename-clause-row : goal.returns-in-Rename-clause-row
returns-in-Rename-clause-row c = c.rename_file.ensures.row c.args.slot
    ∙ ap (λ (x : Change). effect_on x c.args.slot (state_of c.args.w.now)) (sym c.in-Rename.is)
