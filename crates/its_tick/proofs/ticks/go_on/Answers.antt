use Rattle.its_tick.proofs.TickLaws.{tick_kept}
use Rattle.its_tick.proofs.ticks.go_on.Goals as goal

pub returns-clause-kept : goal.returns-clause-kept
returns-clause-kept c = tick_kept c.args.w.now c.go_on_row.new.w c.args.slot c.go_on_row.result c.requires.kept c.go_on_row.ensures.row c.go_on_row.ensures.tidy
