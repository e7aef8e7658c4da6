use Rattle.std.proofs.Common.{◌≡◌, Some, None, Ok, ap, ◌∙◌}
use Rattle.its_session.specs.Events.{events_of}
use Rattle.its_plain.specs.Operator.{no_block}
use Rattle.its_direct.specs.Events.{spot_place}
use Rattle.its_verify.specs.Going.{judge_from}
use Rattle.its_verify.proofs.ErrLaws.{err_concludes}
use Rattle.its_verify.proofs.GoneLaws.{gone_fails, gone_next, gone_over, place_on, at_item_by}
use Rattle.its_verify.proofs.VerifierLaws.{unfailed_by}
use Rattle.its_verify.proofs.OutLaws.{gone_out}
use Rattle.its_verify.proofs.verifier.Verifier.go.Goals as goal

pub loop-found-preserved : goal.loop-found-preserved
loop-found-preserved g c =
    let is : c.take.result ≡ Ok None = c.in_ok-outcome.was ∙ ap Ok c.in_default-2.is in
    let going = c.take.ensures.going is in
    record {
      at_item = at_item_by c.take.result c.take.new.self (g.S.Source.left c.take.new.src) is c.take.ensures.stays;
      onward = c.take.ensures.onward is;
      ready = c.in-Ok.ensures.ready;
      few = c.in-Ok.ensures.few going;
      place =
          place_on c.loop-found.items.place c.next.new.self.place (spot_place c.loop-found.self.judge.plain.place)
          (spot_place c.take.new.self.judge.plain.place) c.in-Ok.found
          c.loop-found.invariant.place c.in-Ok.ensures.place (c.take.ensures.place is);
      unfailed = unfailed_by c.take.result (g.S.Source.faults c.loop-found.src) (g.S.Source.faults c.take.new.src)
          (g.S.Source.faults c.args.src.now) is c.take.ensures.cause c.loop-found.invariant.unfailed;
      so_far =
          gone_next c.take.result c.in-Ok.found c.args.self.now c.loop-found.self c.take.new.self
          (judge_from c.args.self.now no_block 1 (events_of c.args.session.now)) c.loop-found.items c.next.new.self
          c.loop-found.session c.next.new.src (g.S.Source.left c.args.src.now) (g.S.Source.left c.loop-found.src) (g.S.Source.left c.take.new.src)
          is c.loop-found.invariant.so_far c.in-Ok.ensures.finds c.in-Ok.ensures.ready c.in-Ok.ensures.number going c.take.ensures.says;
    }

pub returns-in-Some-clause-ends : goal.returns-in-Some-clause-ends
returns-in-Some-clause-ends g c =
    gone_over c.take.result c.in-Some.outcome c.in-Ok.found c.args.self.now c.loop-found.self c.take.new.self
    (judge_from c.args.self.now no_block 1 (events_of c.args.session.now)) c.loop-found.items c.next.new.self
    c.loop-found.session c.next.new.src (g.S.Source.left c.args.src.now) (g.S.Source.left c.loop-found.src) (g.S.Source.left c.take.new.src)
    (c.in_ok-outcome.was ∙ ap Ok c.in-Some.is) c.loop-found.invariant.so_far c.in-Ok.ensures.finds c.in-Ok.ensures.ready
    c.in-Ok.ensures.number c.take.ensures.says

pub returns-in-Some-clause-out : goal.returns-in-Some-clause-out
returns-in-Some-clause-out g c =
    gone_out c.take.result c.in-Some.outcome c.args.self.now c.loop-found.self
    (judge_from c.args.self.now no_block 1 (events_of c.args.session.now)) c.loop-found.items
    (Some c.loop-found.session) (g.S.Source.left c.args.src.now) (g.S.Source.left c.loop-found.src) (g.S.Source.left c.take.new.src)
    (c.in_ok-outcome.was ∙ ap Ok c.in-Some.is) c.loop-found.invariant.so_far c.take.ensures.out

pub returns-in_err-outcome-clause-ends : goal.returns-in_err-outcome-clause-ends
returns-in_err-outcome-clause-ends g c =
    err_concludes _ c.in_err-outcome.field-0.0 _ _ _ _ c.from_residual.ensures.0
    (gone_fails c.take.result c.in_err-outcome.field-0.0 c.in-Ok.found c.args.self.now c.loop-found.self c.take.new.self
    (judge_from c.args.self.now no_block 1 (events_of c.args.session.now)) c.loop-found.items c.next.new.self
    c.loop-found.session c.next.new.src (g.S.Source.left c.args.src.now) (g.S.Source.left c.loop-found.src) (g.S.Source.left c.take.new.src)
    c.in_err-outcome.was c.loop-found.invariant.so_far c.in-Ok.ensures.finds c.in-Ok.ensures.ready c.in-Ok.ensures.number c.take.ensures.says)
