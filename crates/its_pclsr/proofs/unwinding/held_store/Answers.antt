use Rattle.std.proofs.Common.{sym, ◌∙◌}
use Rattle.its_word.specs.Byte.{deposit_of}
use Rattle.its_commit.proofs.OwedLaws.{enough}
use Rattle.its_pclsr.proofs.RowLaws.{held_there, held_stored}
use Rattle.its_pclsr.proofs.unwinding.held_store.Goals as goal

pub unreachable-requires : goal.unreachable-requires
unreachable-requires c = held_there _ _ _ _ _ _ c.requires.pays c.get.ensures.word c.in-Err.is

pub returns : goal.returns
returns c =
    held_stored _ c.args.ask.now _ c.args.byte _ _ _ _ _ c.get.ensures.word c.in-Ok.is c.index-deref-1.is c.deref.ensures.0
    (enough _ 2 c.requires.pays.debts.read)
    (c.deposit.ensures ∙ (λ i. deposit_of (sym c.index-deref-1.is i).value c.in-Ok.word (c.value.ensures.value i)))
