use Rattle.its_asm_command.proofs.FitLaws.{image_fits}
use Rattle.its_asm_command.proofs.source.assembled.Goals as goal

pub session_text-requires : goal.session_text-requires
session_text-requires c = record { fits = image_fits c.args.text.now c.in-Ok.image c.in-Ok.ensures.image }
