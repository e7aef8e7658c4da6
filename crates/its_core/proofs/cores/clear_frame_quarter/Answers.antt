use Rattle.std.proofs.Common.{◌+◌, ◌*◌, ap, arith, length}
use Rattle.its_core.proofs.ListLaws.{length-zeroed}
use Rattle.its_core.proofs.cores.clear_frame_quarter.Goals as goal

pub set-requires : goal.set-requires
set-requires c =
    let ready = c.requires.ready in
    let quarter = c.requires.quarter in
    let z = length-zeroed (1024 * c.args.frame + 256 * c.args.q) c.loop-k.k c.args.words.now.words (omega arith) in
    let l = ap length c.loop-k.invariant.words in
    omega arith
