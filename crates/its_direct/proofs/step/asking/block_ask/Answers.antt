use Rattle.std.proofs.Common.{ap, arith, length}
use Rattle.its_direct.proofs.AskLaws.{block_put}
use Rattle.its_direct.proofs.step.asking.block_ask.Goals as goal

pub put_block-requires : goal.put_block-requires
put_block-requires c = record {
  e = c.requires.fits.e;
  used = c.requires.fits.used;
  room = let n = ap length c.note_site.ensures in let r = c.requires.fits.room in omega arith;
}

pub returns-in-Ok : goal.returns-in-Ok
returns-in-Ok c = block_put _ c.args.site.now _ _ _ _ c.requires.channel c.note_site.ensures c.in-Ok.is c.put_block.ensures

pub returns-in-Err : goal.returns-in-Err
returns-in-Err c = block_put _ c.args.site.now _ _ _ _ c.requires.channel c.note_site.ensures c.in-Err.is c.put_block.ensures
