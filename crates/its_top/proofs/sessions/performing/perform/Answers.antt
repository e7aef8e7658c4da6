use Rattle.std.proofs.Common.{sym, ◌∙◌, ap}
use Rattle.its_records.specs.declared.session.Event.TheVariants.{Words, Append, TypeIn}
use Rattle.its_top.proofs.PerformLaws.{nothing_performed, end_file_performed, run_performed, end_performed, version_performed, read_only_performed, symbol_performed, go_performed, clock_performed, int_performed, deposit_performed, stop_performed, cont_performed, words_performed, append_performed, typed_performed, at_event}
use Rattle.its_top.proofs.sessions.performing.perform.Goals as goal

pub returns-in-Words-clause-performed : goal.returns-in-Words-clause-performed
returns-in-Words-clause-performed c =
    at_event _ _ _ _ _ _ _ (c.in-Words.is ∙ ap (λ ws. Words c.in-Words.a (record { items = ws })) (sym c.deref.ensures.0))
    (words_performed _ _ _ _ _ _ _ _ c.quiet.ensures c.load_words.ensures.done c.load_words.ensures.refused)

pub returns-in-Append-clause-performed : goal.returns-in-Append-clause-performed
returns-in-Append-clause-performed c =
    at_event _ _ _ _ _ _ _ (c.in-Append.is ∙ ap (λ ws. Append (record { items = ws })) (sym c.deref-in-Append.ensures.0))
    (append_performed _ _ _ _ _ _ _ c.quiet-in-Append.ensures c.add_words.ensures.done c.add_words.ensures.refused)

pub returns-in-TypeIn-clause-performed : goal.returns-in-TypeIn-clause-performed
returns-in-TypeIn-clause-performed c =
    at_event _ _ _ _ _ _ _ (c.in-TypeIn.is ∙ ap (λ bs. TypeIn c.in-TypeIn.c (record { items = bs })) (sym c.deref-in-TypeIn.ensures.0))
    (typed_performed _ _ _ _ _ _ c.type_bytes-dropped.ensures.dropped c.type_bytes-dropped.ensures.done)

pub returns-in-Load-clause-performed : goal.returns-in-Load-clause-performed
returns-in-Load-clause-performed c = at_event _ _ _ _ _ _ _ c.in-Load.is c.load.ensures.performed

pub returns-in-File-clause-performed : goal.returns-in-File-clause-performed
returns-in-File-clause-performed c = at_event _ _ _ _ _ _ _ c.in-File.is c.make_file.ensures.performed

pub returns-in-Exam-clause-performed : goal.returns-in-Exam-clause-performed
returns-in-Exam-clause-performed c = at_event _ _ _ _ _ _ _ c.in-Exam.is (c.examine.ensures.performed _)

pub returns-in-List-clause-performed : goal.returns-in-List-clause-performed
returns-in-List-clause-performed c = at_event _ _ _ _ _ _ _ c.in-List.is (c.list.ensures.performed _)

pub returns-in-State-clause-performed : goal.returns-in-State-clause-performed
returns-in-State-clause-performed c = at_event _ _ _ _ _ _ _ c.in-State.is (c.state.ensures.performed _)

pub returns-in-Peek-clause-performed : goal.returns-in-Peek-clause-performed
returns-in-Peek-clause-performed c = at_event _ _ _ _ _ _ _ c.in-Peek.is (c.peek.ensures.performed _)

pub returns-in-Dir-clause-performed : goal.returns-in-Dir-clause-performed
returns-in-Dir-clause-performed c = at_event _ _ _ _ _ _ _ c.in-Dir.is (c.list_files.ensures.performed _)

pub returns-in-Show-clause-performed : goal.returns-in-Show-clause-performed
returns-in-Show-clause-performed c = at_event _ _ _ _ _ _ _ c.in-Show.is (c.find_file.ensures.performed _)

pub returns-in-Nothing-clause-performed : goal.returns-in-Nothing-clause-performed
returns-in-Nothing-clause-performed c = at_event _ _ _ _ _ _ _ c.in-Nothing.is (nothing_performed _ _)

pub returns-in-EndFile-clause-performed : goal.returns-in-EndFile-clause-performed
returns-in-EndFile-clause-performed c = at_event _ _ _ _ _ _ _ c.in-EndFile.is (end_file_performed _ _)

pub returns-in-Run-clause-performed : goal.returns-in-Run-clause-performed
returns-in-Run-clause-performed c = at_event _ _ _ _ _ _ _ c.in-Run.is (run_performed _ _ _ _)

pub returns-in-End-clause-performed : goal.returns-in-End-clause-performed
returns-in-End-clause-performed c = at_event _ _ _ _ _ _ _ c.in-End.is (end_performed _ _ _)

pub returns-in-Version-clause-performed : goal.returns-in-Version-clause-performed
returns-in-Version-clause-performed c = at_event _ _ _ _ _ _ _ c.in-Version.is (version_performed _ _ _ _ c.version.ensures.done)

pub returns-in-Tick-clause-performed : goal.returns-in-Tick-clause-performed
returns-in-Tick-clause-performed c = at_event _ _ _ _ _ _ _ c.in-Tick.is (c.tick.ensures.performed _)

pub returns-in-Drain-clause-performed : goal.returns-in-Drain-clause-performed
returns-in-Drain-clause-performed c = at_event _ _ _ _ _ _ _ c.in-Drain.is (c.drain.ensures.performed _)

pub returns-in-ReadOnly-clause-performed : goal.returns-in-ReadOnly-clause-performed
returns-in-ReadOnly-clause-performed c =
    at_event _ _ _ _ _ _ _ c.in-ReadOnly.is (read_only_performed _ _ _ _ _ _ _ c.quiet-in-ReadOnly.ensures c.read_only.ensures.done
    c.read_only.ensures.refused)

pub returns-in-Symbol-clause-performed : goal.returns-in-Symbol-clause-performed
returns-in-Symbol-clause-performed c =
    at_event _ _ _ _ _ _ _ c.in-Symbol.is (symbol_performed _ _ _ _ _ _ _ _ c.quiet-in-Symbol.ensures c.symbol.ensures.done c.symbol.ensures.refused)

pub returns-in-Go-clause-performed : goal.returns-in-Go-clause-performed
returns-in-Go-clause-performed c = at_event _ _ _ _ _ _ _ c.in-Go.is
    (go_performed _ _ _ _ _ _ _ c.quiet-in-Go.ensures c.go.ensures.done c.go.ensures.refused)

pub returns-in-Clock-clause-performed : goal.returns-in-Clock-clause-performed
returns-in-Clock-clause-performed c =
    at_event _ _ _ _ _ _ _ c.in-Clock.is (clock_performed _ _ _ _ _ _ c.quiet-in-Clock.ensures c.advance.ensures.done c.advance.ensures.refused)

pub returns-in-Int-clause-performed : goal.returns-in-Int-clause-performed
returns-in-Int-clause-performed c =
    at_event _ _ _ _ _ _ _ c.in-Int.is (int_performed _ _ _ _ _ _ _ _ c.quiet-in-Int.ensures c.interrupt.ensures.done c.interrupt.ensures.refused)

pub returns-in-Deposit-clause-performed : goal.returns-in-Deposit-clause-performed
returns-in-Deposit-clause-performed c =
    at_event _ _ _ _ _ _ _ c.in-Deposit.is (deposit_performed _ _ _ _ _ _ _ _ c.quiet-in-Deposit.ensures c.deposit.ensures.done c.deposit.ensures.refused)

pub returns-in-Stop-clause-performed : goal.returns-in-Stop-clause-performed
returns-in-Stop-clause-performed c =
    at_event _ _ _ _ _ _ _ c.in-Stop.is (stop_performed _ _ _ _ _ _ c.quiet-in-Stop.ensures c.stop.ensures.done c.stop.ensures.refused)

pub returns-in-Cont-clause-performed : goal.returns-in-Cont-clause-performed
returns-in-Cont-clause-performed c =
    at_event _ _ _ _ _ _ _ c.in-Cont.is (cont_performed _ _ _ _ _ _ c.quiet-in-Cont.ensures c.cont.ensures.done c.cont.ensures.refused)

pub returns-in-Restore-clause-performed : goal.returns-in-Restore-clause-performed
returns-in-Restore-clause-performed c = at_event _ _ _ _ _ _ _ c.in-Restore.is c.restore.ensures.performed
