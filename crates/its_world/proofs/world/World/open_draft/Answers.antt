use Rattle.std.proofs.Common.{refl}
use Rattle.its_shared.proofs.StandLaws.{drafts_below}
use Rattle.its_world.proofs.StorageLaws.{store_unmarked, store_first, chan_shut}
use Rattle.its_world.proofs.ChannelLaws.{open_draft_comes}
use Rattle.its_world.proofs.world.World.open_draft.Goals as goal

pub draft-draft-requires-clause-unmarked : goal.draft-draft-requires-clause-unmarked
draft-draft-requires-clause-unmarked c = store_unmarked c.args.self.now c.requires.unmarked

pub draft-draft-requires-clause-few : goal.draft-draft-requires-clause-few
draft-draft-requires-clause-few c =
    let w = c.args.self.now in
    let r = c.requires in
    drafts_below w.files w.jobs c.args.slot c.args.n r.tidy.across (store_unmarked w r.unmarked) c.within.ensures r.channel
    (chan_shut w c.args.slot c.args.n r.closed)

pub returns : goal.returns
returns c =
    let r = c.requires in
    let e = c.draft-draft.ensures in
    let b = store_first c.args.self.now _ _ _ _ _ _ (record { is = refl }) c.set_channel.ensures in
    let k = open_draft_comes c.args.self.now c.set_channel.new.self c.args.slot c.args.n c.within.ensures r.channel r.tidy
    c.draft-draft.new.self c.draft-draft.result c.args.d c.args.x c.args.y b r.job r.closed r.unmarked e.free e.made e.directory e.entry e.words in
    record { row = k.row; tidy = k.tidy; pages = c.set_channel.ensures.pages }
