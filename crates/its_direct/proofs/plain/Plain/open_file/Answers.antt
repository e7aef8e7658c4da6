use Rattle.std.proofs.Common.{arith, refl}
use Rattle.std.specs.Prelude.{◌∷◌, []}
use Rattle.its_shared.proofs.StandLaws.{readers_few}
use Rattle.its_shared.proofs.ShowLaws.{found_file}
use Rattle.its_direct.specs.Plain.{machine_of}
use Rattle.its_direct.proofs.ChannelLaws.{open_file_comes, shows, store_first}
use Rattle.its_direct.proofs.plain.Plain.open_file.Goals as goal

pub open_read-requires-clause-few : goal.open_read-requires-clause-few
open_read-requires-clause-few c = let p = c.args.self.now in let l = readers_few p.files p.jobs c.requires.tidy.across c.in-Some.file in omega arith

pub returns-in-Some : goal.returns-in-Some
returns-in-Some c =
    let e = c.open_read.ensures in
    let f = c.in-Some.ensures in
    let b = store_first c.args.self.now _ _ c.args.slot c.args.n _ _ (record { is = refl }) c.set_channel.ensures in
    let k = open_file_comes c.args.self.now c.set_channel.new.self c.args.slot c.args.n c.within.ensures c.requires.channel c.requires.tidy
    c.open_read.new.self c.in-Some.file c.args.d c.args.x c.args.y b c.requires.job c.requires.closed f.file f.names e.read e.directory e.entry e.words in
    record { row = k.row; tidy = k.tidy }

pub returns-in_default-clause-row : goal.returns-in_default-clause-row
returns-in_default-clause-row c = let p = c.args.self.now in absurd
    (found_file (machine_of p) p.files p.jobs (shows p) (c.args.d ∷ c.args.x ∷ c.args.y ∷ []) c.requires.file c.in_default.ensures.found)
