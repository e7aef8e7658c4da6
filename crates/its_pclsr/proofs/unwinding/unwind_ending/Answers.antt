use Rattle.std.proofs.Common.{ap, is_some, refl, ◌∙◌}
use Rattle.its_records.specs.declared.calls.Owed.TheVariants.{Unlink, Link, Free}
use Rattle.its_stepped.specs.State.{UnlinkOld, LinkNew, FreeOld}
use Rattle.its_commit.proofs.TidyLaws.{tidy_core, tidy_kept}
use Rattle.its_pclsr.proofs.ApartLaws.{off_alike, off_back, off_one, off_then}
use Rattle.its_pclsr.proofs.EndingLaws.{taken_job, store_can, page_there, store_row, back_row, part_row, part_next, leave_row}
use Rattle.its_pclsr.proofs.unwinding.unwind_ending.Goals as goal

pub make-requires : goal.make-requires
make-requires c = record { can = store_can _ _ _ _ c.take_step.ensures.taken c.requires.sound _ _ c.in-Store.is }

pub give_back-requires : goal.give_back-requires
give_back-requires c = record { page = page_there _ _ _ _ c.take_step.ensures.taken c.requires.sound c.in-GiveBack.is }

pub leave-requires-clause-job : goal.leave-requires-clause-job
leave-requires-clause-job c = ap is_some c.leave_call.ensures.job.here ∙ taken_job _ _ _ _ c.take_step.ensures.taken c.requires.sound

pub leave-requires-clause-tidy : goal.leave-requires-clause-tidy
leave-requires-clause-tidy c = tidy_kept _ _ _ _ _ c.leave_call.ensures c.take_step.ensures.tidy

pub unlink-requires-clause-next : goal.unlink-requires-clause-next
unlink-requires-clause-next c = part_next _ _ _ _ c.take_step.ensures.taken c.requires.sound Unlink UnlinkOld c.in-Unlink.is refl refl

pub link-requires-clause-next : goal.link-requires-clause-next
link-requires-clause-next c = part_next _ _ _ _ c.take_step.ensures.taken c.requires.sound Link LinkNew c.in-Link.is refl refl

pub free-requires-clause-next : goal.free-requires-clause-next
free-requires-clause-next c = part_next _ _ _ _ c.take_step.ensures.taken c.requires.sound Free FreeOld c.in-Free.is refl refl

pub returns-in-Store-clause-row : goal.returns-in-Store-clause-row
returns-in-Store-clause-row c = store_row _ _ _ _ c.take_step.ensures.taken c.requires.sound _ _ _ c.in-Store.is c.make.ensures

pub returns-in-Store-clause-cores : goal.returns-in-Store-clause-cores
returns-in-Store-clause-cores c = off_then _ _ _ _ (off_one _ _ _ _ _ _ c.take_step.ensures.taken.frame) (off_one _ _ _ _ _ _ c.make.ensures)

pub returns-in-Store-clause-tidy : goal.returns-in-Store-clause-tidy
returns-in-Store-clause-tidy c = tidy_core _ _ _ _ _ _ (taken_job _ _ _ _ c.take_step.ensures.taken c.requires.sound) c.make.ensures c.take_step.ensures.tidy

pub returns-in-GiveBack-clause-row : goal.returns-in-GiveBack-clause-row
returns-in-GiveBack-clause-row c = back_row _ _ _ _ c.take_step.ensures.taken c.requires.sound _ c.in-GiveBack.is c.give_back.ensures

pub returns-in-GiveBack-clause-cores : goal.returns-in-GiveBack-clause-cores
returns-in-GiveBack-clause-cores c = off_then _ _ _ _ (off_one _ _ _ _ _ _ c.take_step.ensures.taken.frame) (off_back _ _ _ _ _ _ c.give_back.ensures)

pub returns-in-GiveBack-clause-tidy : goal.returns-in-GiveBack-clause-tidy
returns-in-GiveBack-clause-tidy c = tidy_kept _ _ _ _ _ c.give_back.ensures c.take_step.ensures.tidy

pub returns-in-Leave-clause-row : goal.returns-in-Leave-clause-row
returns-in-Leave-clause-row c = leave_row _ _ _ _ c.take_step.ensures.taken c.requires.sound _ _ _ c.in-Leave.is c.leave_call.ensures c.leave.ensures.made

pub returns-in-Leave-clause-cores : goal.returns-in-Leave-clause-cores
returns-in-Leave-clause-cores c =
    off_then _ _ _ _ (off_one _ _ _ _ _ _ c.take_step.ensures.taken.frame) (off_then _ _ _ _ (off_one _ _ _ _ _ _ c.leave_call.ensures) c.leave.ensures.cores)

pub returns-in-Unlink-clause-row : goal.returns-in-Unlink-clause-row
returns-in-Unlink-clause-row c = part_row _ _ _ _ c.take_step.ensures.taken c.requires.sound _ Unlink c.in-Unlink.is refl c.unlink.ensures.part

pub returns-in-Unlink-clause-cores : goal.returns-in-Unlink-clause-cores
returns-in-Unlink-clause-cores c = off_then _ _ _ _ (off_one _ _ _ _ _ _ c.take_step.ensures.taken.frame) (off_alike _ _ _ c.unlink.ensures.part.core)

pub returns-in-Link-clause-row : goal.returns-in-Link-clause-row
returns-in-Link-clause-row c = part_row _ _ _ _ c.take_step.ensures.taken c.requires.sound _ Link c.in-Link.is refl c.link.ensures.part

pub returns-in-Link-clause-cores : goal.returns-in-Link-clause-cores
returns-in-Link-clause-cores c = off_then _ _ _ _ (off_one _ _ _ _ _ _ c.take_step.ensures.taken.frame) (off_alike _ _ _ c.link.ensures.part.core)

pub returns-in-Free-clause-row : goal.returns-in-Free-clause-row
returns-in-Free-clause-row c = part_row _ _ _ _ c.take_step.ensures.taken c.requires.sound _ Free c.in-Free.is refl c.free.ensures.part

pub returns-in-Free-clause-cores : goal.returns-in-Free-clause-cores
returns-in-Free-clause-cores c = off_then _ _ _ _ (off_one _ _ _ _ _ _ c.take_step.ensures.taken.frame) (off_alike _ _ _ c.free.ensures.part.core)
