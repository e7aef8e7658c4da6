use Rattle.std.proofs.Common.{false, true}
use Rattle.its_saved.specs.Saving.{in_rows}
use Rattle.its_saved.specs.StateLine as state
use Rattle.its_saving.proofs.WritingLaws.{first_broken, first_then}
use Rattle.its_saving.proofs.consoles.write_console.Goals as goal

pub returns : goal.returns
returns g c = first_then _ _ _ _ _ _ _ _ (in_rows (state.Bytes c.args.c false) 32 2 c.args.console.now.input)
    (in_rows (state.Bytes c.args.c true) 32 2 c.args.console.now.output) c.in_ok-write_bytes.was c.write_bytes.ensures c.write_bytes-2.ensures

pub returns-in_err-write_bytes : goal.returns-in_err-write_bytes
returns-in_err-write_bytes g c = first_broken _ _ _ _ _ _ _ (in_rows (state.Bytes c.args.c false) 32 2 c.args.console.now.input)
    (in_rows (state.Bytes c.args.c true) 32 2 c.args.console.now.output) c.in_err-write_bytes.was c.write_bytes.ensures c.from_residual.ensures.0
