use Rattle.std.proofs.Common.{IfSome, subst, sym, ◌<◌}
use Rattle.its_word.specs.Limits.{slots}
use Rattle.its_saved.specs.Saving.{holder_line}
use Rattle.its_saving.proofs.WritingLaws.{writes_at}
use Rattle.its_saving.proofs.consoles.write_holder_at.Goals as goal

pub write_holder-requires : goal.write_holder-requires
write_holder-requires g c = record { slot = subst (λ o. IfSome o (λ s. s < slots)) (sym c.holder_of.ensures) (c.requires.writable.holders c.args.c) }

pub returns : goal.returns
returns g c = writes_at _ _ (holder_line c.args.c) _ _ _ _ _ c.holder_of.ensures c.write_holder.ensures
