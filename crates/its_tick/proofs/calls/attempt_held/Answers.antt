use Rattle.its_tick.proofs.ByteLaws.{byte_row, one_pages}
use Rattle.its_tick.proofs.TrialLaws.{stands_job}
use Rattle.its_tick.proofs.calls.attempt_held.Goals as goal

pub returns-then-bytes-eq1-clause-row : goal.returns-then-bytes-eq1-clause-row
returns-then-bytes-eq1-clause-row c =
    byte_row c.args.w.now c.bytes.new.w c.args.slot c.bytes.result
    (stands_job c.args.w.now c.args.slot c.requires.kept.sound c.requires.stands) c.requires.running c.bytes.ensures.made c.if-bytes-eq1.true

pub returns-then-bytes-eq1-clause-pages : goal.returns-then-bytes-eq1-clause-pages
returns-then-bytes-eq1-clause-pages c = one_pages c.args.w.now c.bytes.new.w c.args.slot c.bytes.result c.bytes.ensures.made c.if-bytes-eq1.true
