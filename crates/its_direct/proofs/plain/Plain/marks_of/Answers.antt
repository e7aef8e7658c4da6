use Rattle.std.proofs.Common.{◌∙◌}
use Rattle.its_direct.proofs.CallStepLaws.{marks_seen}
use Rattle.its_direct.proofs.plain.Plain.marks_of.Goals as goal

pub marks_of-requires : goal.marks_of-requires
marks_of-requires c = record {
  few = λ k past. marks_seen c.args.self.now c.seen.result c.args.slot k c.args.disturbed c.seen.ensures
      ∙ c.requires.few k past;
}

pub returns : goal.returns
returns c = λ k. c.marks_of.ensures k ∙ marks_seen c.args.self.now c.seen.result c.args.slot k c.args.disturbed c.seen.ensures
