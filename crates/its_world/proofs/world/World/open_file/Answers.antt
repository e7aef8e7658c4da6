use Rattle.std.proofs.Common.{arith, refl}
use Rattle.std.specs.Prelude.{◌∷◌, []}
use Rattle.its_shared.proofs.StandLaws.{readers_few}
use Rattle.its_shared.proofs.ShowLaws.{found_file}
use Rattle.its_world.specs.World.{state_of}
use Rattle.its_world.proofs.StorageLaws.{store_unmarked, store_first, shows}
use Rattle.its_world.proofs.ChannelLaws.{open_file_comes}
use Rattle.its_world.proofs.world.World.open_file.Goals as goal

pub open_read-requires-clause-unmarked : goal.open_read-requires-clause-unmarked
open_read-requires-clause-unmarked c = store_unmarked c.args.self.now c.requires.unmarked

pub open_read-requires-clause-few : goal.open_read-requires-clause-few
open_read-requires-clause-few c = let w = c.args.self.now in let l = readers_few w.files w.jobs c.requires.tidy.across c.in-Some.file in omega arith

pub returns-in-Some : goal.returns-in-Some
returns-in-Some c =
    let r = c.requires in
    let e = c.open_read.ensures in
    let f = c.in-Some.ensures in
    let b = store_first c.args.self.now _ _ _ _ _ _ (record { is = refl }) c.set_channel.ensures in
    let k = open_file_comes c.args.self.now c.set_channel.new.self c.args.slot c.args.n c.within.ensures r.channel r.tidy
    c.open_read.new.self c.in-Some.file c.args.d c.args.x c.args.y b r.job r.closed r.unmarked f.file f.names e.read e.directory e.entry e.words in
    record { row = k.row; tidy = k.tidy; pages = c.set_channel.ensures.pages }

pub returns-in_default-clause-row : goal.returns-in_default-clause-row
returns-in_default-clause-row c = let w = c.args.self.now in absurd
    (found_file (state_of w).raw w.files w.jobs (shows w) (c.args.d ∷ c.args.x ∷ c.args.y ∷ []) c.requires.file c.in_default.ensures.found)
