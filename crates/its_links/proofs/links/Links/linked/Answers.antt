use Rattle.std.proofs.Common.{arith}
use Rattle.std.proofs.lemmas.Bool.Decides.{nat_tests}
use Rattle.its_links.proofs.AgreeLaws.{moves}
use Rattle.its_links.proofs.CallLaws.{open_links}
use Rattle.its_links.proofs.links.Links.linked.Goals as goal

pub after-requires : goal.after-requires
after-requires c = let o = open_links _ _ _ c.self.view_is c.self.invariant in let t = o.total in let k = o.nodes in omega arith

pub returns : goal.returns
returns c =
    let o = open_links _ _ _ c.self.view_is c.self.invariant in
    let k = o.nodes in
    let m = moves _ _ _ o.agrees c.args.node in
    let f = o.agrees.free c.args.node (omega arith) in
    let e = c.after.ensures in
    grind (arith, nat_tests)
