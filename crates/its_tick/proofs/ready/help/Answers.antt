use Rattle.std.proofs.Common.{refl}
use Rattle.its_tick.proofs.HelpLaws.{help_tidy}
use Rattle.its_tick.proofs.ready.help.Goals as goal

pub returns-clause-tidy : goal.returns-clause-tidy
returns-clause-tidy c = help_tidy c.args.w.now _ c.seen.ensures.whole c.requires.tidy c.help.ensures.made (record { is = refl })
