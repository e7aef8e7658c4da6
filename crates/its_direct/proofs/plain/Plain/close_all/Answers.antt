use Rattle.its_direct.proofs.RemovalLaws.{all_next}
use Rattle.its_direct.proofs.plain.Plain.close_all.Goals as goal

pub loop-n-preserved : goal.loop-n-preserved
loop-n-preserved c = record {
  closed = all_next c.args.self.now c.loop-n.self c.shut.new.self c.args.slot c.loop-n.n c.loop-n.invariant.closed c.shut.ensures.row
      c.shut.ensures.superiors;
  tidy = c.shut.ensures.tidy;
}
