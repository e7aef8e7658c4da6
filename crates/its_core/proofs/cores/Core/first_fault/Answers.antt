use Rattle.std.proofs.Common.{◌≤◌, length, sym, ◌∙◌, ap, arith}
use Rattle.std.proofs.Math.ListN.{drop_of_length-le}
use Rattle.its_core.specs.Cores.{core_at}
use Rattle.its_word.specs.Stores.{first_fault}
use Rattle.its_word.proofs.StoreLaws.{fault_of_none}
use Rattle.its_core.proofs.cores.Core.first_fault.Goals as goal

pub returns : goal.returns
returns c =
    let h : length c.args.stores.now ≤ c.loop-s.s-index = omega arith in
    sym (fault_of_none (core_at c.args.self.now c.args.slot))
    ∙ ap (first_fault (core_at c.args.self.now c.args.slot)) (sym (drop_of_length-le c.args.stores.now h))
    ∙ c.loop-s.invariant
