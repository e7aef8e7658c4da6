use Rattle.std.proofs.Common.{subst}
use Rattle.its_asm_command.specs.Made.{Adds}
use Rattle.its_asm_command.specs.Written.{rows}
use Rattle.its_asm_command.proofs.AddsLaws.{session_adds}
use Rattle.its_asm_command.proofs.session.session_text.Goals as goal

pub returns : goal.returns
returns c = record {
  session = session_adds _ _ _ _ _ _ _ _ c.new-text.ensures.items c.in_ok-add_line.ensures.adds
      c.in_ok-add_line-2.ensures.adds (subst (λ ws. Adds (rows ws) c.add_line-2.new.text.items c.add_words.new.text.items) c.as_slice.ensures
      c.in_ok-add_words.ensures.adds) c.in_ok-add_symbols.ensures.adds c.in_ok-add_line-3.ensures.adds c.in_ok-add_line-4.ensures.adds;
}
