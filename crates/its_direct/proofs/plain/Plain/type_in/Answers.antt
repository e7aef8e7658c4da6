use Rattle.std.proofs.Common.{◌++◌, sym, ◌∙◌, ap, take}
use Rattle.its_word.specs.Console.{most_waiting}
use Rattle.its_plain.specs.Operator.Consoles.{dropped}
use Rattle.its_direct.proofs.ConsoleLaws.{console_is, console_keeps, console_stands}
use Rattle.its_direct.proofs.plain.Plain.type_in.Goals as goal

pub returns-clause-dropped : goal.returns-clause-dropped
returns-clause-dropped c = c.type_at-dropped.ensures.dropped ∙ ap (λ x. dropped x c.args.bytes.now) (sym (console_is c.args.self.now c.args.c))

pub returns-clause-done : goal.returns-clause-done
returns-clause-done c = console_stands _ _ _ c.args.c (λ x. record x { input = take most_waiting (x.input ++ c.args.bytes.now) })
    c.type_at-dropped.ensures.typed c.touch_none.ensures

pub returns-clause-tidy : goal.returns-clause-tidy
returns-clause-tidy c = console_keeps _ _ _ _ _ c.type_at-dropped.ensures.typed c.touch_none.ensures c.requires.tidy
