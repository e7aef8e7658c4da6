use Rattle.std.specs.Prelude.{option_copied}
use Rattle.std.proofs.Common.{ap, sym, ◌∙◌}
use Rattle.pdp_exec.specs.Near.{near_site}
use Rattle.its_direct.specs.Asking.{put_as}
use Rattle.its_direct.specs.Plain.{machine_of}
use Rattle.its_direct.proofs.CallStepLaws.{calls_fits}
use Rattle.its_direct.proofs.HandLaws.{hand_calls, hand_some}
use Rattle.its_direct.proofs.PartLaws.{at_call}
use Rattle.its_direct.proofs.plain.Plain.parts_near.Goals as goal

pub unreachable-requires : goal.unreachable-requires
unreachable-requires c = hand_some c.args.self.now c.args.slot c.args.near _ c.requires.hand c.job.ensures.job (ap option_copied c.in_default.is)

pub put_near-requires : goal.put_near-requires
put_near-requires c =
    let had = sym c.job.ensures.job ∙ ap option_copied c.in-Some.is in
    record {
      fits = calls_fits c.args.self.now c.args.slot (near_site c.in-Some.job.now.pc c.args.near) _
          (hand_calls c.args.self.now c.args.slot c.args.near c.in-Some.job.now c.requires.hand had) c.in-Some.job.now had c.requires.kept.tidy;
      nothing = c.no_ask-ask.ensures;
    }

pub take_parts-requires-clause-at : goal.take_parts-requires-clause-at
unfolding machine_of
take_parts-requires-clause-at c =
    at_call c.args.self.now c.args.slot c.args.near c.in-Some.job.now c.put_near.new.asked (put_as c.put_near.result c.put_near.new.asked)
    c.requires.hand (sym c.job.ensures.job ∙ ap option_copied c.in-Some.is) c.put_near.ensures
    (ap (λ r. put_as r c.put_near.new.asked) c.in-Ok.is)

pub take_parts-requires-clause-kept : goal.take_parts-requires-clause-kept
unfolding machine_of
take_parts-requires-clause-kept c =
    let k = c.requires.kept in
    let t = k.tidy in
    record {
      tidy = record {
        unreserved = t.unreserved;
        unmarked = t.unmarked;
        across = t.across;
        blank = t.blank;
        quiet = t.quiet;
        nameless = t.nameless;
        addressed = t.addressed;
        timed = t.timed;
      };
      forest = k.forest;
      alarmed = k.alarmed;
      consoled = k.consoled;
      placed = k.placed;
    }

pub returns-in-Err-clause-kept : goal.returns-in-Err-clause-kept
unfolding machine_of
returns-in-Err-clause-kept c =
    let k = c.requires.kept in
    let t = k.tidy in
    record {
      tidy = record {
        unreserved = t.unreserved;
        unmarked = t.unmarked;
        across = t.across;
        blank = t.blank;
        quiet = t.quiet;
        nameless = t.nameless;
        addressed = t.addressed;
        timed = t.timed;
      };
      forest = k.forest;
      alarmed = k.alarmed;
      consoled = k.consoled;
      placed = k.placed;
    }
