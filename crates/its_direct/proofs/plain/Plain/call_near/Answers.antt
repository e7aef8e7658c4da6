use Rattle.std.proofs.Common.{ap, sym, ◌∙◌}
use Rattle.pdp_exec.specs.Near.{near_site}
use Rattle.its_direct.specs.Asking.{put_as}
use Rattle.its_direct.proofs.CallStepLaws.{calls_act, calls_fault, calls_fits, calls_ready}
use Rattle.its_direct.proofs.HandLaws.{hand_calls, hand_some}
use Rattle.its_direct.proofs.plain.Plain.call_near.Goals as goal

pub unreachable-requires : goal.unreachable-requires
unreachable-requires c = hand_some c.args.self.now c.args.slot c.args.near c.job.result c.requires.hand c.job.ensures c.in_default.is

pub put_near-requires : goal.put_near-requires
put_near-requires c =
    let had = sym c.job.ensures ∙ c.in-Some.is in
    record {
      fits = calls_fits c.args.self.now c.args.slot (near_site c.in-Some.job.pc c.args.near) _
          (hand_calls c.args.self.now c.args.slot c.args.near c.in-Some.job c.requires.hand had) c.in-Some.job had c.requires.kept.tidy;
      nothing = c.no_ask-ask.ensures;
    }

pub act-requires-clause-ready : goal.act-requires-clause-ready
act-requires-clause-ready c =
    let had = sym c.job.ensures ∙ c.in-Some.is in
    calls_ready c.args.self.now c.args.slot (near_site c.in-Some.job.pc c.args.near) _
    (hand_calls c.args.self.now c.args.slot c.args.near c.in-Some.job c.requires.hand had) c.in-Some.job c.put_near.new.asked
    (put_as c.put_near.result c.put_near.new.asked) had c.put_near.ensures (ap (λ r. put_as r c.put_near.new.asked) c.in-Ok.is) c.requires.kept

pub returns-in-Ok-clause-row : goal.returns-in-Ok-clause-row
returns-in-Ok-clause-row c =
    let had = sym c.job.ensures ∙ c.in-Some.is in
    calls_act c.args.self.now c.args.slot (near_site c.in-Some.job.pc c.args.near) _
    (hand_calls c.args.self.now c.args.slot c.args.near c.in-Some.job c.requires.hand had) c.act.new.self c.in-Some.job c.put_near.new.asked
    (put_as c.put_near.result c.put_near.new.asked) _ had c.put_near.ensures (ap (λ r. put_as r c.put_near.new.asked) c.in-Ok.is) c.act.ensures.row

pub returns-in-Err-clause-row : goal.returns-in-Err-clause-row
returns-in-Err-clause-row c =
    let had = sym c.job.ensures ∙ c.in-Some.is in
    calls_fault c.args.self.now c.args.slot (near_site c.in-Some.job.pc c.args.near) _
    (hand_calls c.args.self.now c.args.slot c.args.near c.in-Some.job c.requires.hand had) c.fault.new.self c.in-Some.job c.in-Err.fault
    (put_as c.put_near.result c.put_near.new.asked) had c.put_near.ensures (ap (λ r. put_as r c.put_near.new.asked) c.in-Err.is) c.fault.ensures.row
