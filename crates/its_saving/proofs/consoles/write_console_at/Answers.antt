use Rattle.std.proofs.Common.{}
use Rattle.its_word.specs.Console.{Console}
use Rattle.its_saved.specs.Saving.{console_lines}
use Rattle.its_saving.proofs.WritingLaws.{writes_at}
use Rattle.its_saving.proofs.consoles.write_console_at.Goals as goal

pub returns : goal.returns
returns g c = writes_at _ _ (λ (x : Console). console_lines (λ k. x) c.args.c) _ _ _ _ _ c.console_of.ensures c.write_console.ensures
