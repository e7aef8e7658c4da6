use Rattle.std.proofs.Common.{refl, sym}
use Rattle.std.specs.Prelude.{◌∷◌, []}
use Rattle.its_shared.proofs.ShowLaws.{delete_can}
use Rattle.its_world.specs.World.{state_of}
use Rattle.its_world.proofs.StorageLaws.{store_unmarked, shows}
use Rattle.its_world.proofs.ChannelLaws.{delete_comes, delete_none}
use Rattle.its_world.proofs.world.World.delete_file.Goals as goal

pub delete-requires-clause-unmarked : goal.delete-requires-clause-unmarked
delete-requires-clause-unmarked c = store_unmarked c.args.self.now c.requires.unmarked

pub unreachable-requires : goal.unreachable-requires
unreachable-requires c =
    let r = c.requires in
    let w = c.args.self.now in
    delete_can (state_of w).raw w.files w.jobs (shows w) c.seen.ensures.whole r.tidy.across (c.args.d ∷ c.args.x ∷ c.args.y ∷ [])
    c.in-Some.file r.unread (sym c.in-Some.ensures.found) c.in-Err.field-0 c.in-Err.ensures.locked

pub returns-in-Ok : goal.returns-in-Ok
returns-in-Ok c =
    let r = c.requires in
    let e = c.in-Ok.ensures in
    let f = c.in-Some.ensures in
    let k = delete_comes c.args.self.now _ r.tidy c.args.d c.args.x c.args.y r.unmarked c.delete.new.self c.in-Some.file f.names f.file e.ok
    e.directory e.entry e.words
    (record { is = refl }) in
    record { row = λ j. (k j).row; tidy = (k 0).tidy; pages = refl }

pub returns-in_default : goal.returns-in_default
returns-in_default c =
    let r = c.requires in
    let w = c.args.self.now in
    let k = delete_none w w r.tidy c.args.d c.args.x c.args.y r.unmarked (sym c.in_default.ensures.found) in
    record { row = λ j. (k j).row; tidy = r.tidy; pages = refl }
