use Rattle.std.proofs.Common.{ap, sym, ◌∙◌, refl, subst}
use Rattle.std.specs.Prelude.{is_some, slice_index_or}
use Rattle.its_core.specs.Cores.{core_at}
use Rattle.its_stepped.specs.Unwind.{left_by}
use Rattle.its_monitor.specs.Peeking.{Shows}
use Rattle.its_monitor.proofs.PeekStateLaws.{peek_absent, peek_call}
use Rattle.its_monitor.proofs.monitor.Monitor.peek.Goals as goal

pub returns-then-is_none-clause-refused : goal.returns-then-is_none-clause-refused
returns-then-is_none-clause-refused c = let h = peek_absent _ _ (ap is_some (sym c.registers.ensures) ∙ c.if-is_none.ensures) in (refl, h.0, h.1)

pub returns-clause-shown : goal.returns-clause-shown
returns-clause-shown c = peek_call c.args.self.now.world c.args.slot _ c.index-call.result.now _
    (ap is_some (sym c.registers.ensures) ∙ c.if-is_none.ensures)
    (c.index-call.ensures ∙ ap (λ k. slice_index_or c.args.self.now.world.frames.items k c.index-call.result.now) c.index.ensures.value)
    (rw c.index.ensures.value at c.index.ensures.below)
    (c.left-left.ensures.value ∙ ap (λ m. left_by m c.index-call.result.now) c.owns_mark.ensures)
    (subst (λ f. Shows (core_at c.args.self.now.world.core c.args.slot) c.left-left.result f c.peek_of.result) c.view.ensures c.peek_of.ensures)
