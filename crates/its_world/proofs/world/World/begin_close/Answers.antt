use Rattle.std.proofs.Common.{refl, sym}
use Rattle.its_shared.proofs.StandLaws.{writing_stands}
use Rattle.its_world.proofs.StorageLaws.{store_unmarked, store_first}
use Rattle.its_world.proofs.ChannelLaws.{begin_close_comes, begin_close_can, no_draft}
use Rattle.its_world.proofs.world.World.begin_close.Goals as goal

pub begin_close-requires : goal.begin_close-requires
begin_close-requires c =
    let w = c.args.self.now in
    let stands = writing_stands w.files w.jobs c.requires.tidy.across c.args.slot c.args.n c.in-Writing.draft (sym c.in-Writing.ensures) in
    record { draft = stands.draft; unmarked = store_unmarked w c.requires.unmarked }

pub unreachable-requires : goal.unreachable-requires
unreachable-requires c =
    let r = c.requires in
    let w = c.args.self.now in
    begin_close_can w w c.args.slot c.args.n (rw c.number.ensures.value at c.number.ensures.below) r.channel r.tidy c.in-Writing.draft
    c.in-Writing.ensures c.seen.ensures.whole r.closes c.in-Err.field-0 (rw c.number.ensures.value at c.in-Err.ensures.fault)

pub returns-in-Ok : goal.returns-in-Ok
returns-in-Ok c =
    let r = c.requires in
    let e = c.in-Ok.ensures in
    let b = store_first c.args.self.now _ _ _ _ _ _ (record { is = refl }) c.set_channel.ensures in
    let k = begin_close_comes c.args.self.now c.set_channel.new.self c.args.slot c.args.n
    (rw c.number.ensures.value at c.number.ensures.below) r.channel r.tidy c.begin_close.new.self c.in-Writing.draft b
    c.in-Writing.ensures r.unmarked (rw c.number.ensures.value at e.ok) e.directory e.entry e.words in
    record { row = k.row; tidy = k.tidy; pages = c.set_channel.ensures.pages }

pub returns-in_default : goal.returns-in_default
returns-in_default c = absurd (no_draft c.args.self.now c.args.slot c.args.n c.channel.result c.channel.ensures c.in_default.not-Writing c.requires.writes)
