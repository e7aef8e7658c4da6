use Rattle.std.proofs.Common.{◌≡◌, ◌<◌, length, true, sym, ◌∙◌}
use Rattle.its_asm.specs.Assembly.{is_given}
use Rattle.its_asm.proofs.LineLaws.{any_here}
use Rattle.its_asm.proofs.assembly.any_given.Goals as goal

pub returns-then-has : goal.returns-then-has
returns-then-has c =
    let inside : c.loop-w._w-index < length c.args.literals.now = search in
    let hit : is_given c.args.cells.now c.loop-w.at ≡ true = sym c.has.ensures ∙ c.if-has.true in
    sym (any_here c.args.base c.args.literals.now c.args.cells.now c.loop-w._w-index c.loop-w.at inside c.loop-w.invariant.place hit)
