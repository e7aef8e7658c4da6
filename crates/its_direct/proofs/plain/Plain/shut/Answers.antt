use Rattle.std.proofs.Common.{refl, subst, sym}
use Rattle.its_shared.specs.Across.{IsElsewhere}
use Rattle.its_shared.proofs.ChanLaws.{elsewhere_of}
use Rattle.its_shared.proofs.StandLaws.{reading_stands, writing_stands, not_marked}
use Rattle.its_direct.proofs.ChannelLaws.{shut_file_comes, shut_draft_comes, shut_other_comes, store_first}
use Rattle.its_direct.proofs.plain.Plain.shut.Goals as goal

pub close_read-requires : goal.close_read-requires
close_read-requires c = let p = c.args.self.now in reading_stands p.files p.jobs c.requires.tidy.across c.args.slot c.args.n
    c.in-Reading.file c.in-Reading.at (sym c.in-Reading.ensures)

pub discard-requires : goal.discard-requires
discard-requires c =
    let p = c.args.self.now in
    let stands = writing_stands p.files p.jobs c.requires.tidy.across c.args.slot c.args.n c.in-Writing.draft (sym c.in-Writing.ensures) in
    record { draft = stands.draft; other = not_marked p.files c.in-Writing.draft stands.unmarked }

pub returns-in-Reading : goal.returns-in-Reading
returns-in-Reading c =
    let e = c.close_read.ensures in
    let b = store_first c.args.self.now _ _ c.args.slot c.args.n _ _ (record { is = refl }) c.set_channel-in-Reading.ensures in
    let k = shut_file_comes c.args.self.now c.set_channel-in-Reading.new.self c.args.slot c.args.n c.within.ensures c.requires.channel
    c.requires.tidy c.close_read.new.self c.in-Reading.file c.in-Reading.at b c.in-Reading.ensures e.read e.directory e.entry e.words in
    record { row = k.row; superiors = b.jobs.superiors; tidy = k.tidy }

pub returns-in-Writing : goal.returns-in-Writing
returns-in-Writing c =
    let e = c.discard.ensures in
    let b = store_first c.args.self.now _ _ c.args.slot c.args.n _ _ (record { is = refl }) c.set_channel.ensures in
    let k = shut_draft_comes c.args.self.now c.set_channel.new.self c.args.slot c.args.n c.within.ensures c.requires.channel c.requires.tidy
    c.discard.new.self c.in-Writing.draft b c.in-Writing.ensures e.dropped e.directory e.entry e.words in
    record { row = k.row; superiors = b.jobs.superiors; tidy = k.tidy }

pub returns-in_default : goal.returns-in_default
returns-in_default c =
    let x = subst IsElsewhere c.channel.ensures (elsewhere_of c.channel.result c.in_default.not-Reading c.in_default.not-Writing) in
    let k = shut_other_comes c.args.self.now c.set_channel-in_default.new.self c.args.slot c.args.n c.within.ensures c.requires.channel
    c.requires.tidy c.set_channel-in_default.ensures x in
    record { row = k.row; superiors = c.set_channel-in_default.ensures.jobs.superiors; tidy = k.tidy }
