use Rattle.std.proofs.Common.{◌≡◌, None, Ok, ap, sym, ◌∙◌}
use Rattle.its_verify.proofs.VerifierLaws.{stays_by, turns_end, turns_fail_by, turns_next_by, turns_none, turns_said_by, unfailed_by}
use Rattle.its_verify.proofs.ErrLaws.{err_turns}
use Rattle.its_verify.proofs.verifier.Verifier.turns.Goals as goal

pub returns-in_default-clause-says : goal.returns-in_default-clause-says
returns-in_default-clause-says g c =
    turns_none c.args.self.now c.loop-k.self c.args.n c.loop-k._k c.args.q (g.S.Source.left c.args.src.now) (g.S.Source.left c.loop-k.src)
    c.loop-k-test.true c.loop-k.invariant.so_far (sym c.turn_after.ensures.turn ∙ c.in_default.is)

pub returns-in-Some-2-clause-says : goal.returns-in-Some-2-clause-says
returns-in-Some-2-clause-says g c =
    turns_said_by c.ticks.result c.in-Some-2.outcome c.args.self.now c.loop-k.self c.ticks.new.self c.args.n c.loop-k._k c.args.q
    c.in-Some.slot (g.S.Source.left c.args.src.now) (g.S.Source.left c.loop-k.src) (g.S.Source.left c.ticks.new.src)
    (c.in_ok-outcome.was ∙ ap Ok c.in-Some-2.is) c.loop-k-test.true c.loop-k.invariant.so_far (sym c.in-Some.ensures.turn) c.ticks.ensures.says

pub ticks-requires-clause-outside : goal.ticks-requires-clause-outside
ticks-requires-clause-outside g c = c.loop-k.invariant.place ∙ c.requires.outside

pub loop-k-preserved : goal.loop-k-preserved
loop-k-preserved g c =
    let is : c.ticks.result ≡ Ok None = c.in_ok-outcome.was ∙ ap Ok c.in_default-2.is in
    record {
      at_item = stays_by c.ticks.result c.ticks.new.self c.in-Some.slot (g.S.Source.left c.ticks.new.src) is c.ticks.ensures.stays;
      onward = c.ticks.ensures.onward is;
      place = c.ticks.ensures.place ∙ c.loop-k.invariant.place;
      unfailed = unfailed_by c.ticks.result (g.S.Source.faults c.loop-k.src) (g.S.Source.faults c.ticks.new.src)
          (g.S.Source.faults c.args.src.now) is c.ticks.ensures.cause c.loop-k.invariant.unfailed;
      so_far =
          turns_next_by c.ticks.result c.args.self.now c.loop-k.self c.ticks.new.self c.args.n c.loop-k._k c.args.q c.in-Some.slot
          (g.S.Source.left c.args.src.now) (g.S.Source.left c.loop-k.src) (g.S.Source.left c.ticks.new.src)
          is c.loop-k-test.true c.loop-k.invariant.so_far (sym c.in-Some.ensures.turn) c.ticks.ensures.says;
    }

pub returns-clause-says : goal.returns-clause-says
returns-clause-says g c =
    turns_end c.args.self.now c.loop-k.self c.args.n c.loop-k._k c.args.q (g.S.Source.left c.args.src.now) (g.S.Source.left c.loop-k.src)
    c.loop-k-test.false c.loop-k.invariant.so_far

pub returns-in_err-outcome-clause-says : goal.returns-in_err-outcome-clause-says
returns-in_err-outcome-clause-says g c =
    err_turns _ c.in_err-outcome.field-0.0 _ _ _ _ _ _ c.from_residual.ensures.0
    (turns_fail_by c.ticks.result c.in_err-outcome.field-0.0 c.args.self.now c.loop-k.self c.ticks.new.self c.args.n c.loop-k._k c.args.q
    c.in-Some.slot (g.S.Source.left c.args.src.now) (g.S.Source.left c.loop-k.src) (g.S.Source.left c.ticks.new.src)
    c.in_err-outcome.was c.loop-k-test.true c.loop-k.invariant.so_far (sym c.in-Some.ensures.turn) c.ticks.ensures.says)
