use Rattle.its_tick.proofs.TrialLaws.{mid_job, mid_stands, mid_unmarked, mid_forest, mid_ready, trial_made}
use Rattle.its_tick.proofs.TrialLaws.{trial_pages}
use Rattle.its_tick.proofs.calls.attempt.Goals as goal

pub decide_in-decision-requires-clause-job : goal.decide_in-decision-requires-clause-job
decide_in-decision-requires-clause-job c = mid_job c.args.w.now c.make_ready.new.w c.args.slot c.requires.kept c.requires.stands
    c.requires.clear c.make_ready.ensures.row

pub decide_in-decision-requires-clause-stands : goal.decide_in-decision-requires-clause-stands
decide_in-decision-requires-clause-stands c = mid_stands c.args.w.now c.make_ready.new.w c.args.slot c.requires.kept c.requires.stands
    c.requires.clear c.make_ready.ensures.row

pub decide_in-decision-requires-clause-unmarked : goal.decide_in-decision-requires-clause-unmarked
decide_in-decision-requires-clause-unmarked c = mid_unmarked c.args.w.now c.make_ready.new.w c.args.slot c.requires.kept c.requires.stands
    c.requires.clear c.make_ready.ensures.row

pub decide_in-decision-requires-clause-forest : goal.decide_in-decision-requires-clause-forest
decide_in-decision-requires-clause-forest c = mid_forest c.args.w.now c.make_ready.new.w c.args.slot c.requires.kept c.requires.stands
    c.requires.clear c.make_ready.ensures.row

pub carry_out-requires-clause-job : goal.carry_out-requires-clause-job
carry_out-requires-clause-job c = mid_job c.args.w.now c.make_ready.new.w c.args.slot c.requires.kept c.requires.stands c.requires.clear
    c.make_ready.ensures.row

pub carry_out-requires-clause-stands : goal.carry_out-requires-clause-stands
carry_out-requires-clause-stands c = mid_stands c.args.w.now c.make_ready.new.w c.args.slot c.requires.kept c.requires.stands
    c.requires.clear c.make_ready.ensures.row

pub carry_out-requires-clause-ready : goal.carry_out-requires-clause-ready
carry_out-requires-clause-ready c =
    mid_ready c.args.w.now c.make_ready.new.w c.args.slot c.requires.kept c.requires.stands c.requires.clear c.make_ready.ensures.row _
    c.decide_in-decision.ensures

pub returns-clause-row : goal.returns-clause-row
returns-clause-row c =
    trial_made c.args.w.now c.make_ready.new.w c.args.slot c.requires.kept c.requires.stands c.requires.clear c.make_ready.ensures.row
    c.carry_out.new.w c.decide_in-decision.result c.pace_of-pace.result c.decide_in-decision.ensures c.carry_out.ensures.row c.pace_of-pace.ensures

pub returns-clause-pages : goal.returns-clause-pages
returns-clause-pages c =
    trial_pages c.args.w.now c.make_ready.new.w c.args.slot c.requires.kept c.requires.stands c.requires.clear c.make_ready.ensures.row
    c.carry_out.new.w c.decide_in-decision.result c.decide_in-decision.ensures c.make_ready.ensures.pages c.carry_out.ensures.pages
