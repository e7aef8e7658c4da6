-- every block is free
use Rattle.std.proofs.Common.{ap}
use Rattle.its_files.proofs.OpenLaws.{opened_blocks, opened_view}
use Rattle.its_files.proofs.blocks.Blocks.open.Goals as goal

pub invariant_of-result : goal.invariant_of-result
invariant_of-result c =
    opened_blocks c.in_ok-open.field-0.words c.in_ok-open.field-0.most c.in_ok-filled.field-0.items c.in_ok-filled-2.field-0.items
    c.in_ok-all_free.field-0 (ap (λ r. r.most) c.in_ok-open.ensures) c.in_ok-filled.ensures c.in_ok-filled-2.ensures c.in_ok-all_free.ensures

pub returns : goal.returns
returns c =
    opened_view c.in_ok-open.field-0.words c.in_ok-filled.field-0.items c.in_ok-all_free.field-0 c.in_ok-filled.ensures c.in_ok-all_free.ensures
