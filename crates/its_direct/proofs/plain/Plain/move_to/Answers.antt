use Rattle.std.proofs.Common.{sym}
use Rattle.its_files.specs.Files.{entry_at}
use Rattle.its_files.proofs.EntryLaws.{file_stands}
use Rattle.its_shared.proofs.StandLaws.{reading_file}
use Rattle.its_direct.proofs.ChannelLaws.{move_file_comes, move_usr_comes, move_other_comes}
use Rattle.its_direct.proofs.plain.Plain.move_to.Goals as goal

pub seek-requires : goal.seek-requires
seek-requires c =
    let p = c.args.self.now in
    file_stands (entry_at p.files c.in-Reading.file) (reading_file p.files p.jobs c.requires.tidy.across c.args.slot c.args.n
    c.in-Reading.file c.in-Reading.at (sym c.in-Reading.ensures))

pub returns-in-Reading : goal.returns-in-Reading
returns-in-Reading c =
    let set = rw c.seek.ensures at c.set_channel.ensures in
    let k = move_file_comes c.args.self.now c.set_channel.new.self c.args.slot c.args.n c.within.ensures c.requires.channel c.requires.tidy
    c.in-Reading.file c.in-Reading.at c.args.at set c.in-Reading.ensures in
    record { row = k.row; tidy = k.tidy }

pub returns-in-Usr : goal.returns-in-Usr
returns-in-Usr c =
    let k = move_usr_comes c.args.self.now c.set_channel-in-Usr.new.self c.args.slot c.args.n c.within.ensures c.requires.channel
    c.requires.tidy c.in-Usr.s c.in-Usr.at c.args.at c.in-Usr.write c.set_channel-in-Usr.ensures c.in-Usr.ensures in
    record { row = k.row; tidy = k.tidy }

pub returns-in_default : goal.returns-in_default
returns-in_default c =
    let k = move_other_comes c.args.self.now c.args.slot c.args.n c.requires.tidy c.args.at c.channel.result c.channel.ensures
    c.in_default.not-Reading c.in_default.not-Usr in
    record { row = k.row; tidy = k.tidy }
