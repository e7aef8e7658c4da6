use Rattle.std.proofs.Common.{ap, arith, length}
use Rattle.its_direct.proofs.AskLaws.{near_block_put, near_iot_put}
use Rattle.its_direct.proofs.step.asking.put_near.Goals as goal

pub put_block-requires : goal.put_block-requires
put_block-requires c = record {
  e = c.requires.fits.e;
  used = omega arith;
  room = let n = ap length c.note_pc.ensures in omega arith;
}

pub returns-in-Some : goal.returns-in-Some
returns-in-Some c = near_iot_put _ c.args.pc c.args.near c.in-Some.channel _ _ c.in-Some.is c.note_pc.ensures c.put_iot.ensures

pub returns-in-None : goal.returns-in-None
returns-in-None c = near_block_put _ c.args.pc c.args.near _ _ c.in-None.is c.note_pc.ensures c.put_block.ensures
