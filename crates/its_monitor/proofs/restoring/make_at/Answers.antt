use Rattle.std.proofs.Common.{◌<◌, refl, sym, subst}
use Rattle.std.proofs.lemmas.Bool.{ltb-true}
use Rattle.its_word.specs.Limits.{limit_of}
use Rattle.its_monitor.proofs.JobLineLaws.{made_at}
use Rattle.its_monitor.proofs.restoring.make_at.Goals as goal

pub create_at-requires-clause-below : goal.create_at-requires-clause-below
create_at-requires-clause-below c = subst (λ n. c.args.s < n) (sym c.args.w.now.limited) (ltb-true c.args.s (limit_of c.args.w.now.version) c.requires.below)

pub returns : goal.returns
returns c = made_at c.args.w.now _ c.args.s c.args.u c.args.j c.args.console c.tree.ensures c.requires.empty c.create_at.ensures.job
    c.create_at.ensures.superiors refl
