use Rattle.std.proofs.Common.{refl, sym}
use Rattle.its_files.specs.Files.{entry_at}
use Rattle.its_files.proofs.EntryLaws.{file_stands}
use Rattle.its_shared.proofs.StandLaws.{reading_file}
use Rattle.its_world.proofs.StorageLaws.{store_first}
use Rattle.its_world.proofs.ChannelLaws.{move_file_comes, move_usr_comes, move_other_comes}
use Rattle.its_world.proofs.world.World.move_to.Goals as goal

pub seek-requires : goal.seek-requires
seek-requires c =
    let w = c.args.self.now in
    file_stands (entry_at w.files c.in-Reading.file) (reading_file w.files w.jobs c.requires.tidy.across c.args.slot c.args.n
    c.in-Reading.file c.in-Reading.at (sym c.in-Reading.ensures))

pub returns-in-Reading : goal.returns-in-Reading
returns-in-Reading c =
    let r = c.requires in
    let b = store_first c.args.self.now _ _ _ _ _ _ (record { is = refl }) c.set_channel.ensures in
    let k = move_file_comes c.args.self.now c.set_channel.new.self c.args.slot c.args.n c.within.ensures r.channel r.tidy c.seek.new.self
    c.in-Reading.file c.in-Reading.at c.args.at b c.in-Reading.ensures c.seek.ensures in
    record { row = k.row; tidy = k.tidy; pages = c.set_channel.ensures.pages }

pub returns-in-Usr : goal.returns-in-Usr
returns-in-Usr c =
    let r = c.requires in
    let k = move_usr_comes c.args.self.now c.set_channel-in-Usr.new.self c.args.slot c.args.n c.within.ensures r.channel r.tidy c.in-Usr.s
    c.in-Usr.at c.args.at c.in-Usr.write c.set_channel-in-Usr.ensures c.in-Usr.ensures in
    record { row = k.row; tidy = k.tidy; pages = c.set_channel-in-Usr.ensures.pages }

pub returns-in_default : goal.returns-in_default
returns-in_default c =
    let r = c.requires in
    let w = c.args.self.now in
    let k = move_other_comes w w c.args.slot c.args.n c.within.ensures r.channel r.tidy c.args.at c.channel.result c.channel.ensures
    c.in_default.not-Reading c.in_default.not-Usr in
    record { row = k.row; tidy = k.tidy; pages = refl }
