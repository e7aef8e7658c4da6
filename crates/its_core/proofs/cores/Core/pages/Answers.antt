-- The pages of the slot are those of its part of the map.
use Rattle.std.proofs.Common.{◌∙◌, ap, arith}
use Rattle.its_word.specs.Core.{pages_present}
use Rattle.its_core.specs.Cores.{core_at}
use Rattle.its_core.proofs.SlotLaws.{pages_number}
use Rattle.its_core.proofs.cores.Core.pages.Goals as goal

pub returns : goal.returns
returns c =
    let i = c.self.inside in
    c.present_among.ensures
    ∙ rw c.deref.ensures.value (pages_number i.accs.items i.places.items i.held.items i.words.words i.lists i.mapped c.self.invariant.0
    c.args.slot _ _ c.within.ensures (omega arith) (omega arith))
    ∙ ap (λ m. pages_present (core_at m c.args.slot)) c.self.view_is
