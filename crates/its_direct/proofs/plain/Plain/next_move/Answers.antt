use Rattle.std.specs.Prelude.{option_copied}
use Rattle.std.proofs.Common.{sym, ap, ◌∙◌}
use Rattle.its_direct.proofs.CallStepLaws.{lent_fits}
use Rattle.its_direct.proofs.PartLaws.{decides}
use Rattle.its_direct.proofs.plain.Plain.next_move.Goals as goal

pub next_move-requires-clause-fits : goal.next_move-requires-clause-fits
next_move-requires-clause-fits c = lent_fits c.args.self.now c.seen.result c.seen.ensures c.requires.kept.tidy c.requires.kept.forest

pub returns-in-Some : goal.returns-in-Some
returns-in-Some c = decides c.args.self.now c.seen.result c.args.slot _ c.args.ask.now _ c.seen.ensures
    (sym c.job.ensures.job ∙ ap option_copied c.in-Some.is) c.next_move.ensures.moves c.next_move.ensures.alone
