-- each number of the order has an entry
use Rattle.std.proofs.Common.{ap, ◌∙◌, is_some, slice_index_or}
use Rattle.std.proofs.lemmas.Option.{slice_get-get_or}
use Rattle.its_files.proofs.ChainLaws.{count-at}
use Rattle.its_files.proofs.directory.found_in.Goals as goal

pub names_of-requires : goal.names_of-requires
names_of-requires c =
    let order = c.args.order.now in
    let id = slice_index_or order c.loop-id.id-index 0 in
    ap is_some c.entry_in.ensures ∙ c.requires id (count-at id order c.loop-id.id-index (slice_get-get_or order c.loop-id.id-index 0 c.loop-id-test.true))
