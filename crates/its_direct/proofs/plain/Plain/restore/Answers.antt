-- The results of the lines that have no answer of their own.
use Rattle.std.proofs.Common.{subst, sym}
use Rattle.its_direct.specs.State.{Restores}
use Rattle.its_direct.proofs.StateLaws.{restores_alarm, restores_as, restores_clock, restores_disk, restores_draft, restores_end, restores_holder, restores_input, restores_link, restores_output, restores_sent, restores_tty, restores_under, restores_usr, restores_wrote}
use Rattle.its_direct.proofs.plain.Plain.restore.Goals as goal

pub returns-in-Clock-clause-restores : goal.returns-in-Clock-clause-restores
returns-in-Clock-clause-restores c =
    restores_as _ _ _ _ _ _ c.in-Clock.is c.answered.ensures
    (restores_clock c.args.self.now c.advance.new.self c.in-Clock.n c.advance.result (rw c.in-Clock.is at c.requires.stands) c.advance.ensures.done
    c.advance.ensures.refused)

pub returns-in-Alarm-clause-restores : goal.returns-in-Alarm-clause-restores
returns-in-Alarm-clause-restores c =
    restores_as _ _ _ _ _ _ c.in-Alarm.is c.answered-in-Alarm.ensures
    (restores_alarm c.args.self.now c.set_alarm.new.self (rw c.in-Alarm.is at c.requires.stands) c.set_alarm.result c.in-Alarm.s c.in-Alarm.period
    c.in-Alarm.next c.set_alarm.ensures.done
    c.set_alarm.ensures.refused)

pub returns-in-Under-clause-restores : goal.returns-in-Under-clause-restores
returns-in-Under-clause-restores c =
    restores_as _ _ _ _ _ _ c.in-Under.is c.answered-in-Under.ensures
    (restores_under c.args.self.now c.set_superior.new.self (rw c.in-Under.is at c.requires.stands) c.set_superior.result c.in-Under.s c.in-Under.t
    c.set_superior.ensures.done
    c.set_superior.ensures.refused)

pub returns-in-Tty-clause-restores : goal.returns-in-Tty-clause-restores
returns-in-Tty-clause-restores c =
    restores_as _ _ _ _ _ _ c.in-Tty.is c.answered-in-Tty.ensures
    (restores_tty c.args.self.now c.restore_tty.new.self (rw c.in-Tty.is at c.requires.stands) c.restore_tty.result c.in-Tty.s c.in-Tty.n c.in-Tty.write
    c.restore_tty.ensures.done
    c.restore_tty.ensures.refused)

pub returns-in-Disk-clause-restores : goal.returns-in-Disk-clause-restores
returns-in-Disk-clause-restores c =
    restores_as _ _ _ _ _ _ c.in-Disk.is c.answered-in-Disk.ensures
    (restores_disk c.args.self.now c.restore_disk.new.self (rw c.in-Disk.is at c.requires.stands) c.restore_disk.result c.in-Disk.s c.in-Disk.n
    c.in-Disk.d c.in-Disk.x c.in-Disk.y c.in-Disk.at c.restore_disk.ensures.done
    c.restore_disk.ensures.refused)

pub returns-in-Draft-clause-restores : goal.returns-in-Draft-clause-restores
returns-in-Draft-clause-restores c =
    restores_as _ _ _ _ _ _ c.in-Draft.is c.answered-in-Draft.ensures
    (restores_draft c.args.self.now c.restore_draft.new.self (rw c.in-Draft.is at c.requires.stands) c.restore_draft.result c.in-Draft.s c.in-Draft.n
    c.in-Draft.d c.in-Draft.x c.in-Draft.y c.restore_draft.ensures.done
    c.restore_draft.ensures.refused)

pub returns-in-Wrote-clause-restores : goal.returns-in-Wrote-clause-restores
returns-in-Wrote-clause-restores c =
    restores_as _ _ _ _ _ _ c.in-Wrote.is c.answered-in-Wrote.ensures
    (restores_wrote c.args.self.now c.restore_words.new.self (rw c.in-Wrote.is at c.requires.stands) c.restore_words.result c.in-Wrote.s c.in-Wrote.n
    c.in-Wrote.words _ c.as_slice.ensures.value c.restore_words.ensures.done
    c.restore_words.ensures.refused)

pub returns-in-Usr-clause-restores : goal.returns-in-Usr-clause-restores
returns-in-Usr-clause-restores c =
    restores_as _ _ _ _ _ _ c.in-Usr.is c.answered-in-Usr.ensures
    (restores_usr c.args.self.now c.restore_usr.new.self (rw c.in-Usr.is at c.requires.stands) c.restore_usr.result c.in-Usr.s c.in-Usr.n c.in-Usr.t
    c.in-Usr.at c.in-Usr.write c.restore_usr.ensures.done
    c.restore_usr.ensures.refused)

pub returns-in-Join-clause-restores : goal.returns-in-Join-clause-restores
returns-in-Join-clause-restores c =
    restores_as _ _ _ _ _ _ c.in-Join.is c.answered-in-Join.ensures
    (restores_link c.args.self.now c.restore_link.new.self (rw c.in-Join.is at c.requires.stands) c.restore_link.result c.in-Join.s c.in-Join.n
    c.in-Join.l c.in-Join.x c.in-Join.y c.in-Join.write c.restore_link.ensures.done
    c.restore_link.ensures.refused)

pub returns-in-Sent-clause-restores : goal.returns-in-Sent-clause-restores
returns-in-Sent-clause-restores c =
    restores_as _ _ _ _ _ _ c.in-Sent.is c.answered-in-Sent.ensures
    (restores_sent c.args.self.now c.restore_sent.new.self (rw c.in-Sent.is at c.requires.stands) c.restore_sent.result c.in-Sent.l c.in-Sent.words _
    c.as_slice-in-Sent.ensures.value c.restore_sent.ensures.done
    c.restore_sent.ensures.refused)

pub returns-in-EndShut-clause-restores : goal.returns-in-EndShut-clause-restores
returns-in-EndShut-clause-restores c =
    restores_as _ _ _ _ _ _ c.in-EndShut.is c.answered-in-EndShut.ensures
    (restores_end c.args.self.now c.restore_end.new.self (rw c.in-EndShut.is at c.requires.stands) c.restore_end.result c.in-EndShut.l c.in-EndShut.write
    c.restore_end.ensures.done
    c.restore_end.ensures.refused)

pub returns-in-Input-clause-restores : goal.returns-in-Input-clause-restores
returns-in-Input-clause-restores c =
    restores_as _ _ _ _ _ _ c.in-Input.is c.answered-in-Input.ensures
    (restores_input c.args.self.now c.restore_input.new.self (rw c.in-Input.is at c.requires.stands) c.restore_input.result c.in-Input.c c.in-Input.bytes
    _ c.as_slice-in-Input.ensures.value c.restore_input.ensures.done
    c.restore_input.ensures.refused)

pub returns-in-Output-clause-restores : goal.returns-in-Output-clause-restores
returns-in-Output-clause-restores c =
    restores_as _ _ _ _ _ _ c.in-Output.is c.answered-in-Output.ensures
    (restores_output c.args.self.now c.restore_output.new.self (rw c.in-Output.is at c.requires.stands) c.restore_output.result c.in-Output.c
    c.in-Output.bytes _ c.as_slice-in-Output.ensures.value c.restore_output.ensures.done
    c.restore_output.ensures.refused)

pub returns-in-Hold-clause-restores : goal.returns-in-Hold-clause-restores
returns-in-Hold-clause-restores c =
    restores_as _ _ _ _ _ _ c.in-Hold.is c.answered-in-Hold.ensures
    (restores_holder c.args.self.now c.restore_holder.new.self (rw c.in-Hold.is at c.requires.stands) c.restore_holder.result c.in-Hold.c c.in-Hold.s
    c.restore_holder.ensures.done
    c.restore_holder.ensures.refused)

pub returns-in-Turn-clause-restores : goal.returns-in-Turn-clause-restores
returns-in-Turn-clause-restores c =
    subst (λ l. Restores l c.args.self.now c.tell_turn.new.self c.tell_turn.result) (sym c.in-Turn.is) (c.tell_turn.ensures.restores c.in-Turn.s)
