use Rattle.std.proofs.Common.{refl, sym, ◌∙◌}
use Rattle.its_commit.proofs.TidyLaws.{tidy_kept}
use Rattle.its_pclsr.proofs.RowLaws.{first_can, moving_can}
use Rattle.its_pclsr.proofs.UnwindingLaws.{job_there, holding_pays, waiting_pays, moving_pays, entered_row, parsed_row, asked_row, holding_backed, holding_dropped, holding_paid, waiting_dropped, waiting_paid, moving_row, page_kept}
use Rattle.its_pclsr.proofs.unwinding.step.Goals as goal

pub returns-in-Entered-clause-row : goal.returns-in-Entered-clause-row
returns-in-Entered-clause-row c = entered_row _ _ _ c.frame.ensures c.requires.sound _ _ c.in-Entered.is c.leave_call.ensures

pub returns-in-Entered-clause-tidy : goal.returns-in-Entered-clause-tidy
returns-in-Entered-clause-tidy c = tidy_kept _ _ _ _ _ c.leave_call.ensures c.requires.tidy

pub returns-in-Parsed-clause-row : goal.returns-in-Parsed-clause-row
returns-in-Parsed-clause-row c = parsed_row _ _ _ c.frame.ensures c.requires.sound _ _ _ c.in-Parsed.is c.leave_call-in-Parsed.ensures

pub returns-in-Parsed-clause-tidy : goal.returns-in-Parsed-clause-tidy
returns-in-Parsed-clause-tidy c = tidy_kept _ _ _ _ _ c.leave_call-in-Parsed.ensures c.requires.tidy

pub returns-in-Asked-clause-row : goal.returns-in-Asked-clause-row
returns-in-Asked-clause-row c = asked_row _ _ _ c.frame.ensures c.requires.sound _ _ _ c.in-Asked.is c.leave_call-in-Asked.ensures

pub returns-in-Asked-clause-tidy : goal.returns-in-Asked-clause-tidy
returns-in-Asked-clause-tidy c = tidy_kept _ _ _ _ _ c.leave_call-in-Asked.ensures c.requires.tidy

pub back-requires-clause-page : goal.back-requires-clause-page
back-requires-clause-page c =
    page_kept _ _ (holding_pays _ _ _ c.frame.ensures c.requires.sound _ _ _ _ c.in-Holding.is).page_is (sym c.is_some.ensures ∙ c.if-is_some.true)

pub returns-then-is_some-clause-row : goal.returns-then-is_some-clause-row
returns-then-is_some-clause-row c =
    holding_backed _ _ _ c.frame.ensures c.requires.sound _ _ _ _ c.in-Holding.is _ (sym c.is_some.ensures ∙ c.if-is_some.true) c.back.ensures.row

pub returns-then-owes-eq0-clause-row : goal.returns-then-owes-eq0-clause-row
returns-then-owes-eq0-clause-row c =
    holding_dropped _ _ _ c.frame.ensures c.requires.sound _ _ _ _ c.in-Holding.is _ (sym c.is_some.ensures ∙ c.if-is_some.false)
    c.if-owes-eq0.true c.leave_call-then-owes-eq0.ensures

pub returns-then-owes-eq0-clause-tidy : goal.returns-then-owes-eq0-clause-tidy
returns-then-owes-eq0-clause-tidy c = tidy_kept _ _ _ _ _ c.leave_call-then-owes-eq0.ensures c.requires.tidy

pub first_owed-store-requires-clause-read : goal.first_owed-store-requires-clause-read
first_owed-store-requires-clause-read c = (holding_pays _ _ _ c.frame.ensures c.requires.sound _ _ _ _ c.in-Holding.is).debts.read

pub pay_held-requires-clause-job : goal.pay_held-requires-clause-job
pay_held-requires-clause-job c = job_there _ _ _ c.frame.ensures c.requires.sound _ _ c.in-Holding.is refl

pub pay_held-requires-clause-can : goal.pay_held-requires-clause-can
pay_held-requires-clause-can c = first_can _ _ _ (holding_pays _ _ _ c.frame.ensures c.requires.sound _ _ _ _ c.in-Holding.is).debts.stored
    c.first_owed-store.ensures

pub returns-else-owes-eq0-clause-row : goal.returns-else-owes-eq0-clause-row
returns-else-owes-eq0-clause-row c =
    holding_paid _ _ _ c.frame.ensures c.requires.sound _ _ _ _ c.in-Holding.is _ _ (sym c.is_some.ensures ∙ c.if-is_some.false)
    c.if-owes-eq0.false c.first_owed-store.ensures c.pay_held.ensures.row

pub returns-then-owes-eq0-2-clause-row : goal.returns-then-owes-eq0-2-clause-row
returns-then-owes-eq0-2-clause-row c = waiting_dropped _ _ _ c.frame.ensures c.requires.sound _ _ _ c.in-Waiting.is _ c.if-owes-eq0-2.true
    c.leave_call-then-owes-eq0-2.ensures

pub returns-then-owes-eq0-2-clause-tidy : goal.returns-then-owes-eq0-2-clause-tidy
returns-then-owes-eq0-2-clause-tidy c = tidy_kept _ _ _ _ _ c.leave_call-then-owes-eq0-2.ensures c.requires.tidy

pub first_owed-store-requires-else-owes-eq0-2-clause-read : goal.first_owed-store-requires-else-owes-eq0-2-clause-read
first_owed-store-requires-else-owes-eq0-2-clause-read c = (waiting_pays _ _ _ c.frame.ensures c.requires.sound _ _ _ c.in-Waiting.is).debts.read

pub pay-requires-clause-job : goal.pay-requires-clause-job
pay-requires-clause-job c = job_there _ _ _ c.frame.ensures c.requires.sound _ _ c.in-Waiting.is refl

pub pay-requires-clause-can : goal.pay-requires-clause-can
pay-requires-clause-can c =
    first_can _ _ _ (waiting_pays _ _ _ c.frame.ensures c.requires.sound _ _ _ c.in-Waiting.is).debts.stored c.first_owed-store-else-owes-eq0-2.ensures

pub returns-else-owes-eq0-2-clause-row : goal.returns-else-owes-eq0-2-clause-row
returns-else-owes-eq0-2-clause-row c =
    waiting_paid _ _ _ c.frame.ensures c.requires.sound _ _ _ c.in-Waiting.is _ _ c.if-owes-eq0-2.false
    c.first_owed-store-else-owes-eq0-2.ensures c.pay.ensures.row

pub held_store-store-requires : goal.held_store-store-requires
held_store-store-requires c = record { pays = moving_pays _ _ _ c.frame.ensures c.requires.sound _ _ _ _ c.in-Moving.is }

pub pay_held-requires-in-Moving-clause-job : goal.pay_held-requires-in-Moving-clause-job
pay_held-requires-in-Moving-clause-job c = job_there _ _ _ c.frame.ensures c.requires.sound _ _ c.in-Moving.is refl

pub pay_held-requires-in-Moving-clause-can : goal.pay_held-requires-in-Moving-clause-can
pay_held-requires-in-Moving-clause-can c =
    moving_can _ _ _ _ _ _ (moving_pays _ _ _ c.frame.ensures c.requires.sound _ _ _ _ c.in-Moving.is) c.held_store-store.ensures

pub returns-in-Moving-clause-row : goal.returns-in-Moving-clause-row
returns-in-Moving-clause-row c = moving_row _ _ _ c.frame.ensures c.requires.sound _ _ _ _ _ _ c.in-Moving.is c.held_store-store.ensures
    c.pay_held-in-Moving.ensures.row
