use Rattle.std.specs.Prelude.{option_copied}
use Rattle.std.proofs.Common.{ap, sym, ◌∙◌}
use Rattle.its_direct.proofs.plain.Plain.call_at_hand.Goals as goal

pub returns-in-Some-call_at_hand-clause-hand : goal.returns-in-Some-call_at_hand-clause-hand
returns-in-Some-call_at_hand-clause-hand c = record {
  job = c.in-Some.job.now;
  had = sym c.job.ensures.job ∙ ap option_copied c.in-Some.is;
  runs = c.if-job.false;
  quiet = sym c.deliverable.ensures ∙ c.if-deliverable.false;
  unit = c.in-Some-call_at_hand.ensures.call;
}
