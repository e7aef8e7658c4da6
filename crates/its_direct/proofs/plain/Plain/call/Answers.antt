use Rattle.std.proofs.Common.{◌∙◌, sym}
use Rattle.its_direct.proofs.CallStepLaws.{calls_act, calls_fault, calls_fits, calls_ready, calls_some}
use Rattle.its_direct.proofs.plain.Plain.call.Goals as goal

pub unreachable-requires : goal.unreachable-requires
unreachable-requires c = calls_some c.args.self.now c.args.slot c.args.site.now _ c.requires.calls c.job.result c.job.ensures c.in_default.is

pub ask-requires : goal.ask-requires
ask-requires c = record {
  fits = calls_fits c.args.self.now c.args.slot c.args.site.now _ c.requires.calls c.in-Some.job
      (sym c.job.ensures ∙ c.in-Some.is) c.requires.kept.tidy;
}

pub act-requires-clause-ready : goal.act-requires-clause-ready
act-requires-clause-ready c =
    calls_ready c.args.self.now c.args.slot c.args.site.now _ c.requires.calls c.in-Some.job c.in-Ok.ask c.ask.result
    (sym c.job.ensures ∙ c.in-Some.is) c.ask.ensures c.in-Ok.is c.requires.kept

pub returns-in-Ok-clause-row : goal.returns-in-Ok-clause-row
returns-in-Ok-clause-row c =
    calls_act c.args.self.now c.args.slot c.args.site.now _ c.requires.calls c.act.new.self c.in-Some.job c.in-Ok.ask c.ask.result _
    (sym c.job.ensures ∙ c.in-Some.is) c.ask.ensures c.in-Ok.is c.act.ensures.row

pub returns-in-Err-clause-row : goal.returns-in-Err-clause-row
returns-in-Err-clause-row c =
    calls_fault c.args.self.now c.args.slot c.args.site.now _ c.requires.calls c.fault.new.self c.in-Some.job c.in-Err.fault c.ask.result
    (sym c.job.ensures ∙ c.in-Some.is) c.ask.ensures c.in-Err.is
    c.fault.ensures.row
