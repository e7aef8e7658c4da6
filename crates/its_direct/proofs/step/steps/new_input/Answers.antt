use Rattle.std.proofs.Common.{sym, ap, ◌∙◌, arith, length, List, slice_index_or}
use Rattle.its_records.specs.declared.calls.Operand.{Operand}
use Rattle.its_direct.proofs.MovedLaws.{new_kept, new_none, new_set}
use Rattle.its_direct.proofs.step.steps.new_input.Goals as goal

pub returns-in_default : goal.returns-in_default
returns-in_default c =
    let few = c.in_default.ensures.lookup.3 in
    let same = ap (λ (xs : List Operand). length xs) c.deref.ensures.0 in
    sym (new_none c.args.ask.now c.args.values.now c.args.k (omega arith))

pub returns-then-k-kept : goal.returns-then-k-kept
returns-then-k-kept c =
    let found = c.in-Some.ensures.lookup in
    let few = found.3.0 in
    let same = ap (λ (xs : List Operand). length xs) c.deref.ensures.0 in
    let l = c.len.ensures.value in
    let kept = c.saturating_sub-kept.ensures in
    sym (new_kept c.args.ask.now c.args.values.now c.saturating_sub-kept.result c.args.k _ (omega arith)
    (found.1 ∙ ap (λ (xs : List Operand). slice_index_or xs c.args.k c.in-Some.operand.now) c.deref.ensures.0) (omega arith) c.if-k-kept.true)

pub returns-else-k-kept : goal.returns-else-k-kept
returns-else-k-kept c =
    let found = c.in-Some.ensures.lookup in
    let few = found.3.0 in
    let same = ap (λ (xs : List Operand). length xs) c.deref.ensures.0 in
    let l = c.len.ensures.value in
    let kept = c.saturating_sub-kept.ensures in
    let past = c.if-k-kept.false in
    sym (new_set c.args.ask.now c.args.values.now c.saturating_sub-kept.result c.args.k _ c.in-Some.operand.now (omega arith)
    (found.1 ∙ ap (λ (xs : List Operand). slice_index_or xs c.args.k c.in-Some.operand.now) c.deref.ensures.0) (omega arith) (omega arith)
    c.index-values-k.is)
