use Rattle.std.proofs.Common.{sym, ◌∙◌, ap}
use Rattle.its_records.specs.declared.state_line.StateLine.TheVariants.{CoreWords, FileWords, Input, Output, Sent, Wrote}
use Rattle.its_top.proofs.PerformLaws.{append_performed, clock_performed, read_only_performed, symbol_performed, words_performed}
use Rattle.its_top.proofs.RestoringLaws.{at_line, alarm_restored, clock_restored, core_words_restored, disk_restored, draft_restored, file_restored, file_words_restored, holder_restored, input_restored, left_block, link_restored, output_restored, read_only_restored, ready_restored, regs_restored, sent_restored, shut_restored, symbol_restored, system_restored, tty_restored, turn_restored, under_restored, usr_restored, wrote_restored}
use Rattle.its_top.proofs.sessions.restoring.restore.Goals as goal

pub returns-in-System-clause-performed : goal.returns-in-System-clause-performed
returns-in-System-clause-performed c =
    at_line _ _ _ _ _ _ _ c.in-System.is
    (left_block _ _ _ _ _ _ _ c.leave_block.ensures.slot c.leave_block.ensures.file (system_restored _ _ _ _ c.version.ensures.done))

pub returns-in-Clock-clause-performed : goal.returns-in-Clock-clause-performed
returns-in-Clock-clause-performed c =
    at_line _ _ _ _ _ _ _ c.in-Clock.is
    (clock_restored _ _ _ _ _ _ (clock_performed _ _ _ _ _ _ c.quiet.ensures c.advance.ensures.done c.advance.ensures.refused))

pub returns-in-File-clause-performed : goal.returns-in-File-clause-performed
returns-in-File-clause-performed c =
    at_line _ _ _ _ _ _ _ c.in-File.is
    (file_restored _ _ _ _ _ _ _ _ c.make_file.ensures.performed)

pub returns-in-FileWords-clause-performed : goal.returns-in-FileWords-clause-performed
returns-in-FileWords-clause-performed c =
    at_line _ _ _ _ _ _ _ (c.in-FileWords.is ∙ ap (λ ws. FileWords (record { items = ws })) (sym c.deref.ensures.0))
    (file_words_restored _ _ _ _ _ _ (append_performed _ _ _ _ _ _ _ c.quiet-in-FileWords.ensures c.add_words.ensures.done c.add_words.ensures.refused))

pub returns-in-Job-clause-performed : goal.returns-in-Job-clause-performed
returns-in-Job-clause-performed c = at_line _ _ _ _ _ _ _ c.in-Job.is c.make_job.ensures.performed

pub returns-in-CoreWords-clause-performed : goal.returns-in-CoreWords-clause-performed
returns-in-CoreWords-clause-performed c =
    at_line _ _ _ _ _ _ _ (c.in-CoreWords.is ∙ ap (λ ws. CoreWords c.in-CoreWords.a (record { items = ws })) (sym c.deref-in-CoreWords.ensures.0))
    (core_words_restored _ _ _ _ _ _ _ (words_performed _ _ _ _ _ _ _ _ c.quiet-in-CoreWords.ensures c.load_words.ensures.done c.load_words.ensures.refused))

pub returns-in-ReadOnly-clause-performed : goal.returns-in-ReadOnly-clause-performed
returns-in-ReadOnly-clause-performed c =
    at_line _ _ _ _ _ _ _ c.in-ReadOnly.is
    (read_only_restored _ _ _ _ _ _ (read_only_performed _ _ _ _ _ _ _ c.quiet-in-ReadOnly.ensures c.read_only.ensures.done c.read_only.ensures.refused))

pub returns-in-Symbol-clause-performed : goal.returns-in-Symbol-clause-performed
returns-in-Symbol-clause-performed c =
    at_line _ _ _ _ _ _ _ c.in-Symbol.is
    (symbol_restored _ _ _ _ _ _ _ (symbol_performed _ _ _ _ _ _ _ _ c.quiet-in-Symbol.ensures c.symbol.ensures.done c.symbol.ensures.refused))

pub returns-in-Regs-clause-performed : goal.returns-in-Regs-clause-performed
returns-in-Regs-clause-performed c =
    at_line _ _ _ _ _ _ _ c.in-Regs.is
    (regs_restored _ _ _ _ _ _ _ c.quiet-in-Regs.ensures c.set_registers.ensures.done c.set_registers.ensures.refused)

pub returns-in-Alarm-clause-performed : goal.returns-in-Alarm-clause-performed
returns-in-Alarm-clause-performed c =
    at_line _ _ _ _ _ _ _ c.in-Alarm.is
    (alarm_restored _ _ _ _ _ _ _ _ c.quiet-in-Alarm.ensures c.set_alarm.ensures.done c.set_alarm.ensures.refused)

pub returns-in-Under-clause-performed : goal.returns-in-Under-clause-performed
returns-in-Under-clause-performed c =
    at_line _ _ _ _ _ _ _ c.in-Under.is
    (under_restored _ _ _ _ _ _ _ c.quiet-in-Under.ensures c.set_superior.ensures.done c.set_superior.ensures.refused)

pub returns-in-Tty-clause-performed : goal.returns-in-Tty-clause-performed
returns-in-Tty-clause-performed c =
    at_line _ _ _ _ _ _ _ c.in-Tty.is
    (tty_restored _ _ _ _ _ _ _ _ c.quiet-in-Tty.ensures c.open_tty.ensures.done c.open_tty.ensures.refused)

pub returns-in-Disk-clause-performed : goal.returns-in-Disk-clause-performed
returns-in-Disk-clause-performed c =
    at_line _ _ _ _ _ _ _ c.in-Disk.is
    (disk_restored _ _ _ _ _ _ _ _ _ _ _ c.requires.sound.sound c.quiet-in-Disk.ensures c.open_disk.ensures.done c.open_disk.ensures.refused)

pub returns-in-Draft-clause-performed : goal.returns-in-Draft-clause-performed
returns-in-Draft-clause-performed c =
    at_line _ _ _ _ _ _ _ c.in-Draft.is
    (draft_restored _ _ _ _ _ _ _ _ _ _ c.requires.sound.sound c.quiet-in-Draft.ensures c.open_draft.ensures.done c.open_draft.ensures.refused)

pub returns-in-Wrote-clause-performed : goal.returns-in-Wrote-clause-performed
returns-in-Wrote-clause-performed c =
    at_line _ _ _ _ _ _ _ (c.in-Wrote.is ∙ ap (λ ws. Wrote c.in-Wrote.s c.in-Wrote.n (record { items = ws })) (sym c.deref-in-Wrote.ensures.0))
    (wrote_restored _ _ _ _ _ _ _ _ c.requires.sound.sound c.quiet-in-Wrote.ensures c.write_draft.ensures.done c.write_draft.ensures.refused)

pub returns-in-Usr-clause-performed : goal.returns-in-Usr-clause-performed
returns-in-Usr-clause-performed c =
    at_line _ _ _ _ _ _ _ c.in-Usr.is
    (usr_restored _ _ _ _ _ _ _ _ _ _ c.quiet-in-Usr.ensures c.open_usr.ensures.done c.open_usr.ensures.refused)

pub returns-in-Join-clause-performed : goal.returns-in-Join-clause-performed
returns-in-Join-clause-performed c =
    at_line _ _ _ _ _ _ _ c.in-Join.is
    (link_restored _ _ _ _ _ _ _ _ _ _ _ c.quiet-in-Join.ensures c.open_link.ensures.done c.open_link.ensures.refused)

pub returns-in-Sent-clause-performed : goal.returns-in-Sent-clause-performed
returns-in-Sent-clause-performed c =
    at_line _ _ _ _ _ _ _ (c.in-Sent.is ∙ ap (λ ws. Sent c.in-Sent.l (record { items = ws })) (sym c.deref-in-Sent.ensures.0))
    (sent_restored _ _ _ _ _ _ _ c.quiet-in-Sent.ensures c.send_words.ensures.done c.send_words.ensures.refused)

pub returns-in-EndShut-clause-performed : goal.returns-in-EndShut-clause-performed
returns-in-EndShut-clause-performed c =
    at_line _ _ _ _ _ _ _ c.in-EndShut.is
    (shut_restored _ _ _ _ _ _ _ c.quiet-in-EndShut.ensures c.shut_end.ensures.done c.shut_end.ensures.refused)

pub returns-in-Input-clause-performed : goal.returns-in-Input-clause-performed
returns-in-Input-clause-performed c =
    at_line _ _ _ _ _ _ _ (c.in-Input.is ∙ ap (λ bs. Input c.in-Input.c (record { items = bs })) (sym c.deref-in-Input.ensures.0))
    (input_restored _ _ _ _ _ _ _ c.quiet-in-Input.ensures c.put_input.ensures.done c.put_input.ensures.refused)

pub returns-in-Output-clause-performed : goal.returns-in-Output-clause-performed
returns-in-Output-clause-performed c =
    at_line _ _ _ _ _ _ _ (c.in-Output.is ∙ ap (λ bs. Output c.in-Output.c (record { items = bs })) (sym c.deref-in-Output.ensures.0))
    (output_restored _ _ _ _ _ _ _ c.quiet-in-Output.ensures c.put_output.ensures.done c.put_output.ensures.refused)

pub returns-in-Hold-clause-performed : goal.returns-in-Hold-clause-performed
returns-in-Hold-clause-performed c =
    at_line _ _ _ _ _ _ _ c.in-Hold.is
    (holder_restored _ _ _ _ _ _ _ c.quiet-in-Hold.ensures c.set_holder.ensures.done c.set_holder.ensures.refused)

pub returns-in-Turn-clause-performed : goal.returns-in-Turn-clause-performed
returns-in-Turn-clause-performed c =
    at_line _ _ _ _ _ _ _ c.in-Turn.is
    (turn_restored _ _ _)

pub returns-in-Ready-clause-performed : goal.returns-in-Ready-clause-performed
returns-in-Ready-clause-performed c =
    at_line _ _ _ _ _ _ _ c.in-Ready.is
    (left_block _ _ _ _ _ _ _ c.leave_block-in-Ready.ensures.slot c.leave_block-in-Ready.ensures.file (ready_restored _ _))
