use Rattle.its_world.specs.World.{raw_at, state_of}
use Rattle.its_tick.proofs.NeedsLaws.{branch_reached, nobody_reached, one_reached, target_few}
use Rattle.its_tick.proofs.reach.reach_into.Goals as goal

pub new-requires : goal.new-requires
new-requires c = target_few c.args.w.now c.args.slot c.args.ask.now c.target_of.result c.in-Some.target c.requires.forest c.requires.job
    c.target_of.ensures c.in-Some.is

pub new-requires-in-Some-2 : goal.new-requires-in-Some-2
new-requires-in-Some-2 c = target_few c.args.w.now c.args.slot c.args.ask.now c.target_of.result c.in-Some.target c.requires.forest
    c.requires.job c.target_of.ensures c.in-Some.is

pub returns-in-Some : goal.returns-in-Some
returns-in-Some c = record {
  slots = rw c.new.ensures
      (branch_reached (raw_at c.args.w.now.files c.args.w.now.core c.args.w.now.jobs c.args.w.now.alarms.items c.args.slot)
      (state_of c.args.w.now).raw c.args.slot c.args.ask.now c.args.call _ _ c.in-Some.target
      c.requires.call c.requires.stays c.target_of.ensures c.in-Some.is c.closes_job.ensures c.if-closes_job.true);
}

pub returns-in-Some-2 : goal.returns-in-Some-2
returns-in-Some-2 c = record {
  slots = rw c.new-in-Some-2.ensures
      (one_reached (raw_at c.args.w.now.files c.args.w.now.core c.args.w.now.jobs c.args.w.now.alarms.items c.args.slot)
      (state_of c.args.w.now).raw c.args.slot c.args.ask.now c.args.call _ _ c.in-Some.target
      c.requires.call c.requires.stays c.target_of.ensures c.in-Some.is c.closes_job.ensures c.if-closes_job.false);
}

pub returns-in-None : goal.returns-in-None
returns-in-None c = record {
  slots = nobody_reached (raw_at c.args.w.now.files c.args.w.now.core c.args.w.now.jobs c.args.w.now.alarms.items c.args.slot)
      (state_of c.args.w.now).raw c.args.slot c.args.ask.now c.args.call _ c.requires.call c.requires.stays
      c.target_of.ensures c.in-None.is;
}
