use Rattle.its_direct.proofs.UserLaws.{told_row, told_touched, untold_touched}
use Rattle.its_direct.proofs.plain.Plain.inform_superior.Goals as goal

pub returns-in-Some-clause-row : goal.returns-in-Some-clause-row
returns-in-Some-clause-row c = told_row _ _ _ _ _ c.in-Some.ensures.value c.inform.ensures.row

pub returns-in-Some-clause-touched : goal.returns-in-Some-clause-touched
returns-in-Some-clause-touched c = told_touched _ _ _ _ c.in-Some.ensures.value c.in-Some.ensures.standing.0 c.inform.ensures.touched c.requires.touched

pub returns-in_default-clause-touched : goal.returns-in_default-clause-touched
returns-in_default-clause-touched c = untold_touched _ _ c.in_default.ensures.value c.requires.touched
