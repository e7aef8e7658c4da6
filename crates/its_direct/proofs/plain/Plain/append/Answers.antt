use Rattle.std.proofs.Common.{arith, refl, sym}
use Rattle.std.proofs.lemmas.Bool.{both_ways}
use Rattle.its_files.specs.Blocks.{is_full}
use Rattle.its_files.specs.Files.{entry_at}
use Rattle.its_files.proofs.EntryLaws.{draft_stands}
use Rattle.its_shared.proofs.StandLaws.{writing_stands}
use Rattle.its_direct.proofs.ChannelLaws.{append_comes, append_room, no_room}
use Rattle.its_direct.proofs.plain.Plain.append.Goals as goal

pub append-requires : goal.append-requires
append-requires c =
    let p = c.args.self.now in
    let stands = writing_stands p.files p.jobs c.requires.tidy.across c.args.slot c.args.n c.in-Writing.draft (sym c.in-Writing.ensures) in
    record { stands = draft_stands (entry_at p.files c.in-Writing.draft) stands.draft; unmarked = c.requires.tidy.unmarked }

pub unreachable-requires : goal.unreachable-requires
unreachable-requires c =
    let p = c.args.self.now in
    let most = c.seen.ensures.blocks in
    let room = append_room p p c.args.slot c.args.n c.within.ensures c.requires.channel c.requires.tidy c.in-Writing.draft
    c.in-Writing.ensures c.seen.ensures.whole (omega arith) c.requires.room in
    both_ways (is_full p.files.stored c.in-Writing.draft) room (sym c.in-Err.ensures.full)

pub returns-in-Ok : goal.returns-in-Ok
returns-in-Ok c =
    let p = c.args.self.now in
    let e = c.in-Ok.ensures in
    let stands = writing_stands p.files p.jobs c.requires.tidy.across c.args.slot c.args.n c.in-Writing.draft (sym c.in-Writing.ensures) in
    let k = append_comes p _ c.args.slot c.args.n c.within.ensures c.requires.channel c.requires.tidy c.append.new.self c.in-Writing.draft
    c.args.word c.in-Writing.ensures e.ok (e.draft stands.draft) e.entry e.words (record { is = refl }) in
    record { row = k.row; tidy = k.tidy }

pub returns-in_default : goal.returns-in_default
returns-in_default c = absurd (no_room c.args.self.now c.args.slot c.args.n c.channel.result c.channel.ensures c.in_default.not-Writing c.requires.room)
