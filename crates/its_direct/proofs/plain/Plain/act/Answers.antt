use Rattle.std.proofs.Common.{sym, ap, subst, ◌∙◌}
use Rattle.its_jobs.specs.Table.{superior_at}
use Rattle.its_frame.specs.declared.decision.Decision.{Decision}
use Rattle.its_plain.specs.Call.Decide.{listed}
use Rattle.its_decide.specs.Reach.{slots_of}
use Rattle.its_decide.specs.declared.reach.Disturbed.{Disturbed}
use Rattle.its_direct.specs.Plain.{machine_of}
use Rattle.its_direct.specs.Ready.{CanCarryOut}
use Rattle.its_direct.proofs.CallStepLaws.{act_is, target_within, within_reach}
use Rattle.its_direct.proofs.plain.Plain.act.Goals as goal

pub act_on-requires-clause-target : goal.act_on-requires-clause-target
act_on-requires-clause-target c =
    target_within c.in-Target.target
    (within_reach c.args.self.now c.args.slot c.args.job.now c.args.ask.now (listed c.in-Target.target) c.requires.kept c.requires.job
    (ap (λ (w : Disturbed). slots_of w (machine_of c.args.self.now) c.args.slot (superior_at c.args.self.now.jobs c.args.slot))
    (sym c.in-Target.is) ∙ c.disturbed.ensures))

pub act_widely-requires : goal.act_widely-requires
act_widely-requires c = record {
  few = within_reach c.args.self.now c.args.slot c.args.job.now c.args.ask.now _ c.requires.kept c.requires.job c.disturbed.ensures;
  ready = subst (λ (d : Decision). CanCarryOut (machine_of c.args.self.now) c.args.slot c.args.ask.now d) (sym c.decided-decision.ensures) c.requires.ready;
  tidy = c.requires.kept.tidy;
}

pub returns-in-Target-clause-row : goal.returns-in-Target-clause-row
returns-in-Target-clause-row c =
    act_is c.args.self.now c.act_on.new.self c.args.slot c.args.job.now c.args.ask.now (listed c.in-Target.target) c.decided-decision.result c.act_on.result
    (ap (λ (w : Disturbed). slots_of w (machine_of c.args.self.now) c.args.slot (superior_at c.args.self.now.jobs c.args.slot))
    (sym c.in-Target.is) ∙ c.disturbed.ensures)
    c.decided-decision.ensures c.act_on.ensures.row

pub returns-in_default-clause-row : goal.returns-in_default-clause-row
returns-in_default-clause-row c =
    act_is c.args.self.now c.act_widely.new.self c.args.slot c.args.job.now c.args.ask.now _ c.decided-decision.result c.act_widely.result
    c.disturbed.ensures c.decided-decision.ensures c.act_widely.ensures.row
