use Rattle.std.proofs.Common.{refl, sym}
use Rattle.its_shared.proofs.ShowLaws.{rename_can}
use Rattle.its_world.specs.World.{state_of}
use Rattle.its_world.proofs.StorageLaws.{store_unmarked, shows}
use Rattle.its_world.proofs.ChannelLaws.{rename_comes, rename_none}
use Rattle.its_world.proofs.world.World.rename_file.Goals as goal

pub rename-requires-clause-unmarked : goal.rename-requires-clause-unmarked
rename-requires-clause-unmarked c = store_unmarked c.args.self.now c.requires.unmarked

pub unreachable-requires : goal.unreachable-requires
unreachable-requires c =
    let r = c.requires in
    let w = c.args.self.now in
    let f = c.in-Some.ensures in
    rename_can (state_of w).raw w.files w.jobs (shows w) c.seen.ensures.whole r.tidy.across c.args.d c.args.x c.args.y c.in-Some.file
    c.args.new_x c.args.new_y r.unread r.fresh (sym f.found) f.names c.in-Err.field-0 c.in-Err.ensures.fault

pub returns-in-Ok : goal.returns-in-Ok
returns-in-Ok c =
    let r = c.requires in
    let e = c.in-Ok.ensures in
    let f = c.in-Some.ensures in
    let k = rename_comes c.args.self.now _ r.tidy c.args.d c.args.x c.args.y r.unmarked c.rename.new.self c.in-Some.file c.args.new_x
    c.args.new_y (sym f.found) c.seen.ensures.whole f.file e.ok e.directory e.entry e.words
    (record { is = refl }) in
    record { row = λ j. (k j).row; tidy = (k 0).tidy; pages = refl }

pub returns-in_default : goal.returns-in_default
returns-in_default c =
    let r = c.requires in
    let w = c.args.self.now in
    let k = rename_none w w r.tidy c.args.d c.args.x c.args.y r.unmarked c.args.new_x c.args.new_y (sym c.in_default.ensures.found) in
    record { row = λ j. (k j).row; tidy = r.tidy; pages = refl }
