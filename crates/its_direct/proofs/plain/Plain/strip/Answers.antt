use Rattle.std.proofs.Common.{refl}
use Rattle.its_direct.proofs.RemovalLaws.{stripped_row, stripped_tidy}
use Rattle.its_direct.proofs.plain.Plain.strip.Goals as goal

pub returns-clause-row : goal.returns-clause-row
returns-clause-row c =
    let r = c.requires in
    let t = c.remove_tree.ensures in
    stripped_row c.args.self.now c.sweep.new.self _ c.args.root c.within.ensures c.tree.ensures r.closed r.tidy
    (record { swept = c.sweep.ensures; jobs = t.job; superiors = t.superior; holders = c.pass_on.ensures; links = c.leave_links.ensures; rest = refl })

pub returns-clause-tidy : goal.returns-clause-tidy
returns-clause-tidy c =
    let r = c.requires in
    let t = c.remove_tree.ensures in
    stripped_tidy c.args.self.now c.sweep.new.self _ c.args.root c.within.ensures c.tree.ensures r.closed r.tidy
    (record { swept = c.sweep.ensures; jobs = t.job; superiors = t.superior; holders = c.pass_on.ensures; links = c.leave_links.ensures; rest = refl })
