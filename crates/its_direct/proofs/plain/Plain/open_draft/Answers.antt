use Rattle.std.proofs.Common.{refl}
use Rattle.its_shared.proofs.StandLaws.{drafts_below}
use Rattle.its_direct.proofs.ChannelLaws.{open_draft_comes, chan_shut, store_first}
use Rattle.its_direct.proofs.plain.Plain.open_draft.Goals as goal

pub draft-draft-requires-clause-few : goal.draft-draft-requires-clause-few
draft-draft-requires-clause-few c =
    let p = c.args.self.now in
    let r = c.requires in
    drafts_below p.files p.jobs c.args.slot c.args.n r.tidy.across r.tidy.unmarked c.within.ensures r.channel (chan_shut p c.args.slot c.args.n r.closed)

pub returns : goal.returns
returns c =
    let e = c.draft-draft.ensures in
    let b = store_first c.args.self.now _ _ c.args.slot c.args.n _ _ (record { is = refl }) c.set_channel.ensures in
    let k = open_draft_comes c.args.self.now c.set_channel.new.self c.args.slot c.args.n c.within.ensures c.requires.channel c.requires.tidy
    c.draft-draft.new.self c.draft-draft.result c.args.d c.args.x c.args.y b c.requires.job c.requires.closed e.free e.made e.directory e.entry e.words in
    record { row = k.row; tidy = k.tidy }
