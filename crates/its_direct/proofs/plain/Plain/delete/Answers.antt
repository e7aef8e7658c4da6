use Rattle.std.proofs.Common.{refl, sym}
use Rattle.std.specs.Prelude.{◌∷◌, []}
use Rattle.its_shared.proofs.ShowLaws.{delete_can, found_file}
use Rattle.its_direct.specs.Plain.{machine_of}
use Rattle.its_direct.proofs.ChannelLaws.{delete_comes, shows}
use Rattle.its_direct.proofs.plain.Plain.delete.Goals as goal

pub unreachable-requires : goal.unreachable-requires
unreachable-requires c =
    let p = c.args.self.now in
    delete_can (machine_of p) p.files p.jobs (shows p) c.seen.ensures.whole c.requires.tidy.across (c.args.d ∷ c.args.x ∷ c.args.y ∷ [])
    c.in-Some.file c.requires.unread (sym c.in-Some.ensures.found) c.in-Err.field-0 c.in-Err.ensures.locked

pub returns-in-Ok : goal.returns-in-Ok
returns-in-Ok c =
    let e = c.in-Ok.ensures in
    let f = c.in-Some.ensures in
    let k = delete_comes c.args.self.now _ c.requires.tidy c.args.d c.args.x c.args.y c.delete.new.self c.in-Some.file f.names f.file e.ok
    e.directory e.entry e.words (record { is = refl }) in
    record { row = k.row; tidy = k.tidy }

pub returns-in_default : goal.returns-in_default
returns-in_default c = let p = c.args.self.now in absurd (found_file (machine_of p) p.files p.jobs (shows p)
    (c.args.d ∷ c.args.x ∷ c.args.y ∷ []) c.requires.file c.in_default.ensures.found)
