use Rattle.std.proofs.Common.{◌∙◌, arith}
use Rattle.its_in_call.proofs.ValueLaws.{turn_set, turn_past, values_all}
use Rattle.its_in_call.proofs.values.revalue.Goals as goal
use Rattle.its_in_call.proofs.values.revalue.Goals.{then-kept-k, else-kept-k}

pub loop-k-preserved : goal.loop-k-preserved
loop-k-preserved c = record {
  kept = c.loop-k.invariant.kept;
  part = elim c.if-kept-k.branch [
    | then-kept-k w ↦ let f = w.if-kept-k.true in let l = c.len-in-loop-k.ensures.value in
        turn_set _ _ _ _ _ _ _ c.loop-k.invariant.kept c.loop-k.invariant.part c.loop-k-test.true (omega arith) w.index-values-k.is
        (w.ask-is ∙ w.set_value.ensures)
    | else-kept-k w ↦ let f = w.if-kept-k.false in let l = c.len-in-loop-k.ensures.value in
        turn_past _ _ _ _ _ _ c.loop-k.invariant.kept c.loop-k.invariant.part (omega arith) w.ask-is
  ];
}

pub returns : goal.returns
returns c = let e = c.loop-k.auto.k-end in let f = c.loop-k-test.false in
    c.loop-k.invariant.part ∙ values_all c.args.ask.now c.args.values.now c.saturating_sub-kept.result c.loop-k.k c.loop-k.invariant.kept (omega arith)
