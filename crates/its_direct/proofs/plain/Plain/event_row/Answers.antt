-- The results of the lines that have no answer of their own, and of those of the state part.
use Rattle.std.proofs.Common.{subst}
use Rattle.its_session.specs.Fits.{EventFits}
use Rattle.its_direct.proofs.EventLaws.{told_as, told_clock, told_cont, told_deposit, told_file, told_int, told_stop}
use Rattle.its_direct.proofs.StateLaws.{line_fits, told_line}
use Rattle.its_direct.proofs.plain.Plain.event_row.Goals as goal

pub returns-in-File-clause-told : goal.returns-in-File-clause-told
returns-in-File-clause-told c =
    told_as _ _ _ _ _ _ c.in-File.is c.answered.ensures
    (told_file c.args.self.now c.make_file.new.self c.in-File.d c.in-File.x c.in-File.y c.make_file.result c.make_file.ensures.done
    c.make_file.ensures.refused)

pub returns-in-Clock-clause-told : goal.returns-in-Clock-clause-told
returns-in-Clock-clause-told c =
    told_as _ _ _ _ _ _ c.in-Clock.is c.answered-in-Clock.ensures
    (told_clock c.args.self.now c.advance.new.self c.in-Clock.n c.advance.result c.advance.ensures.done c.advance.ensures.refused)

pub returns-in-Int-clause-told : goal.returns-in-Int-clause-told
returns-in-Int-clause-told c =
    told_as _ _ _ _ _ _ c.in-Int.is c.answered-in-Int.ensures
    (told_int c.args.self.now c.interrupt.new.self c.in-Int.s c.in-Int.v c.in-Int.w c.interrupt.result c.interrupt.ensures.done c.interrupt.ensures.refused)

pub returns-in-Deposit-clause-told : goal.returns-in-Deposit-clause-told
returns-in-Deposit-clause-told c =
    told_as _ _ _ _ _ _ c.in-Deposit.is c.answered-in-Deposit.ensures
    (told_deposit c.args.self.now c.deposit.new.self c.in-Deposit.s c.in-Deposit.a c.in-Deposit.w c.deposit.result c.deposit.ensures.done
    c.deposit.ensures.refused)

pub returns-in-Stop-clause-told : goal.returns-in-Stop-clause-told
returns-in-Stop-clause-told c =
    told_as _ _ _ _ _ _ c.in-Stop.is c.answered-in-Stop.ensures
    (told_stop c.args.self.now c.stop.new.self c.in-Stop.s c.stop.result c.stop.ensures.done c.stop.ensures.refused)

pub returns-in-Cont-clause-told : goal.returns-in-Cont-clause-told
returns-in-Cont-clause-told c =
    told_as _ _ _ _ _ _ c.in-Cont.is c.answered-in-Cont.ensures
    (told_cont c.args.self.now c.cont.new.self c.in-Cont.s c.cont.result c.cont.ensures.done c.cont.ensures.refused)

pub restore-requires-clause-fits : goal.restore-requires-clause-fits
restore-requires-clause-fits c = line_fits c.in-Restore.line (subst (EventFits 2) c.in-Restore.is c.requires.fits)

pub returns-in-Restore-clause-told : goal.returns-in-Restore-clause-told
returns-in-Restore-clause-told c = told_line _ _ _ _ _ c.in-Restore.is c.requires.stands c.restore.ensures.restores
