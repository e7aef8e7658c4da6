use Rattle.std.proofs.Common.{sym}
use Rattle.its_tick.proofs.ByteLaws.{byte_made}
use Rattle.its_tick.proofs.bytes.makes_byte.Goals as goal

pub returns-then-holds_byte-clause-made : goal.returns-then-holds_byte-clause-made
returns-then-holds_byte-clause-made c = byte_made c.moves.result c.args.w.now c.moves.new.w c.args.slot c.in-Some.job.now c.requires.kept
    (sym c.in-Some.ensures.job) c.if-job.false c.moves.ensures.carried
