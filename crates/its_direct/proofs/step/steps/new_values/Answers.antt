use Rattle.std.proofs.Common.{ap, sym, subst, ◌∙◌, ◌+◌, ◌++◌, [], arith, length, List, slice_index_or}
use Rattle.its_word.specs.ArrayVec.{ArrayVec}
use Rattle.its_records.specs.declared.calls.Operand.{Operand}
use Rattle.its_word.specs.declared.plan.Store.{Store}
use Rattle.its_plain.specs.Call.Arguments.{store_of}
use Rattle.its_direct.proofs.MovedLaws.{Valuing, valuing_end, valuing_past, valuing_set}
use Rattle.its_direct.proofs.step.steps.new_values.Goals as goal
use Rattle.its_direct.proofs.step.steps.new_values.Goals.{then-kept-k, else-kept-k}

pub loop-k-preserved : goal.loop-k-preserved
loop-k-preserved c = record {
  valuing = elim c.if-kept-k.branch [
    | then-kept-k w ↦
        let l = c.len-in-loop-k.ensures.value in
        let f = w.if-kept-k.true in
        let more = ap (λ (ss : ArrayVec Store). ss.items) w.stores-is ∙ w.push_store.ensures.more
        ∙ ap (λ (o : Operand). c.loop-k.stores.items ++ store_of (record { value = w.index-values-k.result; place = o.place }) [])
        (sym w.index-deref-kept.is) in
        let few = w.push_store.ensures.few in
        let n = ap (λ (ss : ArrayVec Store). length ss.items) w.stores-is in
        valuing_set c.args.ask.now c.args.values.now _ c.loop-k.k _ _ _ _ c.loop-k.invariant.valuing c.loop-k-test.true (omega arith)
        (w.index-deref-kept.is ∙ ap (λ (xs : List Operand). slice_index_or xs (c.saturating_sub-kept.result + c.loop-k.k)
        w.index-deref-kept.result) w.deref.ensures.0) w.index-values-k.is more (omega arith)
    | else-kept-k w ↦
        let l = c.len-in-loop-k.ensures.value in
        let f = w.if-kept-k.false in
        subst (λ (ss : ArrayVec Store). Valuing c.args.ask.now c.args.values.now c.saturating_sub-kept.result (c.loop-k.k + 1) ss.items) (sym w.stores-is)
        (valuing_past c.args.ask.now c.args.values.now _ c.loop-k.k _ c.loop-k.invariant.valuing (omega arith))
  ];
}

pub returns : goal.returns
returns c = valuing_end _ _ _ _ _ c.loop-k.invariant.valuing c.loop-k-test.false
