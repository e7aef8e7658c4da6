use Rattle.std.proofs.Common.{Ok, subst}
use Rattle.its_reader.specs.Lines.{Reads}
use Rattle.its_asm_command.proofs.GatherLaws.{gather_beyond, gather_blanks, gather_end, gather_failed, gathered_by}
use Rattle.its_asm_command.proofs.text.read_text.Goals as goal

pub returns-in-Ok-Beyond-clause-gathered : goal.returns-in-Ok-Beyond-clause-gathered
returns-in-Ok-Beyond-clause-gathered g c =
    gather_beyond _ _ _ _ _ _ _ c.loop-text.invariant.so_far
    (subst (λ n. Reads (Ok n) c.loop-text.lines c.next.new.self (g.S.Source.left c.loop-text.src) (g.S.Source.left c.next.new.src))
    c.in-Ok-Beyond.field-0-is c.in-Ok-Beyond.ensures.reads)
    c.in-Ok-Beyond.ensures.ready c.next.ensures.number

pub returns-in-Err-clause-gathered : goal.returns-in-Err-clause-gathered
returns-in-Err-clause-gathered g c = gather_failed _ _ _ _ _ _ _ _ c.loop-text.invariant.so_far c.in-Err.ensures.reads c.next.ensures.number
    c.loop-text.invariant.few

pub returns-in-Ok-End-clause-gathered : goal.returns-in-Ok-End-clause-gathered
returns-in-Ok-End-clause-gathered g c =
    gathered_by _ _ _ _ _ c.read_whole-in-Ok-End.ensures
    (gather_end _ _ _ _ _ _ _ c.loop-text.invariant.so_far (subst
    (λ n. Reads (Ok n) c.loop-text.lines c.next.new.self (g.S.Source.left c.loop-text.src) (g.S.Source.left c.next.new.src))
    c.in-Ok-End.field-0-is c.in-Ok-End.ensures.reads)
    c.in-Ok-End.ensures.ready c.loop-text.invariant.few)

pub returns-in-Ok-Long-clause-gathered : goal.returns-in-Ok-Long-clause-gathered
returns-in-Ok-Long-clause-gathered g c =
    gathered_by _ _ _ _ _ c.read_whole.ensures
    (gather_blanks _ _ _ _ _ _ _ _ _ c.loop-text.invariant.so_far
    (subst (λ n. Reads (Ok n) c.loop-text.lines c.next.new.self (g.S.Source.left c.loop-text.src) (g.S.Source.left c.next.new.src))
    c.in-Ok-Long.field-0-is c.in-Ok-Long.ensures.reads)
    c.in-Ok-Long.ensures.ready c.next.ensures.number c.keep_long.ensures.before c.keep_long.ensures.kept)
