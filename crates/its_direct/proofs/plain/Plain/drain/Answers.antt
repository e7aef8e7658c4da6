use Rattle.std.proofs.Common.{sym, ◌∙◌, ap, drop, take}
use Rattle.its_direct.proofs.ConsoleLaws.{console_is, console_keeps, console_stands}
use Rattle.its_direct.proofs.plain.Plain.drain.Goals as goal

pub returns-clause-drained : goal.returns-clause-drained
returns-clause-drained c = c.drain_at-bytes.ensures.drained ∙ ap (λ x. take c.args.n x.output) (sym (console_is c.args.self.now c.args.c))

pub returns-clause-done : goal.returns-clause-done
returns-clause-done c = console_stands _ _ _ c.args.c (λ x. record x { output = drop c.args.n x.output }) c.drain_at-bytes.ensures.rest c.touch_none.ensures

pub returns-clause-tidy : goal.returns-clause-tidy
returns-clause-tidy c = console_keeps _ _ _ _ _ c.drain_at-bytes.ensures.rest c.touch_none.ensures c.requires.tidy
