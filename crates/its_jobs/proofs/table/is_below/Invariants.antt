use Rattle.std.proofs.Common.{◌≡◌, ◌-◌, slice_index_or, None}
use Rattle.its_records.specs.Tree.{climbs_to}
use Rattle.its_word.specs.Limits.{slots}
use Rattle.its_jobs.proofs.table.is_below.Given as goal

abbrev pub invariant-loop-step : goal.invariant-loop-step
invariant-loop-step l =
    climbs_to (λ k. slice_index_or l.superiors k None) l.slot (slots - l._step) l.superior
    ≡ climbs_to (λ k. slice_index_or l.superiors k None) l.slot slots (slice_index_or l.superiors l.fn.job None)
