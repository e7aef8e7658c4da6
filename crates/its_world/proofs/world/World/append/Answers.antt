use Rattle.std.proofs.Common.{arith, refl, sym}
use Rattle.std.proofs.lemmas.Bool.{both_ways}
use Rattle.its_files.specs.Blocks.{is_full}
use Rattle.its_files.specs.Files.{entry_at}
use Rattle.its_files.proofs.EntryLaws.{draft_stands}
use Rattle.its_shared.proofs.StandLaws.{writing_stands}
use Rattle.its_world.proofs.StorageLaws.{store_unmarked}
use Rattle.its_world.proofs.ChannelLaws.{append_comes, append_room, append_other_comes}
use Rattle.its_world.proofs.world.World.append.Goals as goal

pub append-requires : goal.append-requires
append-requires c =
    let w = c.args.self.now in
    let stands = writing_stands w.files w.jobs c.requires.tidy.across c.args.slot c.args.n c.in-Writing.draft (sym c.in-Writing.ensures) in
    record { stands = draft_stands (entry_at w.files c.in-Writing.draft) stands.draft; unmarked = store_unmarked w c.requires.unmarked }

pub unreachable-requires : goal.unreachable-requires
unreachable-requires c =
    let r = c.requires in
    let w = c.args.self.now in
    let most = c.seen.ensures.blocks in
    let room = append_room w w c.args.slot c.args.n c.within.ensures r.channel r.tidy c.in-Writing.draft c.in-Writing.ensures r.unmarked
    c.seen.ensures.whole (omega arith) r.room in
    both_ways (is_full w.files.stored c.in-Writing.draft) room (sym c.in-Err.ensures.full)

pub returns-in-Ok : goal.returns-in-Ok
returns-in-Ok c =
    let r = c.requires in
    let w = c.args.self.now in
    let e = c.in-Ok.ensures in
    let stands = writing_stands w.files w.jobs r.tidy.across c.args.slot c.args.n c.in-Writing.draft (sym c.in-Writing.ensures) in
    let k = append_comes w _ c.args.slot c.args.n c.within.ensures r.channel r.tidy c.append.new.self c.in-Writing.draft c.args.word
    c.in-Writing.ensures r.unmarked e.ok (e.draft stands.draft) e.entry e.words
    (record { is = refl }) in
    record { row = k.row; tidy = k.tidy; pages = refl }

pub returns-in_default : goal.returns-in_default
returns-in_default c =
    let r = c.requires in
    let w = c.args.self.now in
    let k = append_other_comes w w c.args.slot c.args.n c.within.ensures r.channel r.tidy c.args.word c.channel.result c.channel.ensures
    c.in_default.not-Writing in
    record { row = k.row; tidy = k.tidy; pages = refl }
