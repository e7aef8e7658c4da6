-- there is no entry
use Rattle.std.proofs.Common.{ap}
use Rattle.its_files.proofs.EntryLaws.{opened_store}
use Rattle.its_files.proofs.files.Files.open.Goals as goal

pub invariant_of-result : goal.invariant_of-result
invariant_of-result c =
    opened_store c.in_ok-filled.field-0.items c.new.result.items c.in_ok-open.field-0.texts c.in_ok-filled.ensures c.new.ensures
    (ap (λ b. b.texts) c.in_ok-open.ensures)
