use Rattle.std.proofs.Common.{ap, sym, ◌∙◌, subst, Err, ◌<◌, ◌≡◌, ◌/◌, None}
use Rattle.its_word.specs.Limits.{most_pages}
use Rattle.its_word.specs.Core.{pages_mapped}
use Rattle.its_core.specs.Cores.{core_at, clear_at}
use Rattle.its_core.specs.Frames.{frames_map, frames_reserve}
use Rattle.its_world.specs.declared.world.World.{World}
use Rattle.its_monitor.proofs.LoadLaws.{load_refused, load_clear, load_writable, load_room, load_unreserved, load_stored, load_made, load_plain, load_kept, made_as, made_kept, stored_frames, made_frames}
use Rattle.its_monitor.proofs.monitor.Monitor.load_word.Goals as goal

pub returns-in-Some-clause-refused : goal.returns-in-Some-clause-refused
returns-in-Some-clause-refused c = load_refused _ _ _ _ _ _ c.in_ok-present.ensures.some c.unloadable.ensures c.in-Some.is c.requires.kept

pub unreachable-requires : goal.unreachable-requires
unreachable-requires c =
    load_writable _ _ _ _ c.args.w _ c.calm.ensures (load_clear _ _ _ _ _ _ c.requires.kept c.in_ok-present.ensures.some c.calm.ensures
    c.unloadable.ensures c.in-None.is)
    (c.in-Err-ReadOnly.ensures.refused ∙ ap Err c.in-Err-ReadOnly.field-0-is)

pub load_page-requires-clause-room : goal.load_page-requires-clause-room
load_page-requires-clause-room c =
    let absent = c.in-Err-Absent.ensures.absent (ap Err c.in-Err-Absent.field-0-is) in
    subst (λ (w : World). pages_mapped (core_at w.core) < most_pages) (sym c.in-Err-Absent.ensures.same)
    (load_room _ _ _ _ c.args.w c.calm.ensures (load_clear _ _ _ _ _ _ c.requires.kept c.in_ok-present.ensures.some c.calm.ensures
    c.unloadable.ensures c.in-None.is) absent.0 absent.1)

pub load_page-requires-clause-unreserved : goal.load_page-requires-clause-unreserved
load_page-requires-clause-unreserved c =
    subst (λ (w : World). clear_at w.core c.args.slot ≡ None) (sym c.in-Err-Absent.ensures.same) (load_unreserved _ _ _ c.requires.kept c.calm.ensures)

pub returns-in-Ok-clause-done : goal.returns-in-Ok-clause-done
returns-in-Ok-clause-done c = load_stored _ _ _ _ _ _ c.requires.kept c.calm.ensures c.in-Ok.ensures.allowed c.in-Ok.ensures.stored

pub returns-in-Ok-clause-plain : goal.returns-in-Ok-clause-plain
returns-in-Ok-clause-plain c = load_plain _ c.calm.new.w _ _ _ _ c.requires.kept
    (load_stored _ _ _ _ _ _ c.requires.kept c.calm.ensures c.in-Ok.ensures.allowed c.in-Ok.ensures.stored)

pub returns-in-Ok-clause-kept : goal.returns-in-Ok-clause-kept
returns-in-Ok-clause-kept c =
    load_kept _ _ _ _ _ _ _ c.requires.kept c.calm.ensures c.in-Ok.ensures.stored
    (load_stored _ _ _ _ _ _ c.requires.kept c.calm.ensures c.in-Ok.ensures.allowed c.in-Ok.ensures.stored)

pub returns-in-Err-Absent-clause-done : goal.returns-in-Err-Absent-clause-done
returns-in-Err-Absent-clause-done c =
    let absent = c.in-Err-Absent.ensures.absent (ap Err c.in-Err-Absent.field-0-is) in
    load_made _ _ c.load_page.new.w _ _ _ c.requires.kept c.calm.ensures
    (load_clear _ _ _ _ _ _ c.requires.kept c.in_ok-present.ensures.some c.calm.ensures c.unloadable.ensures c.in-None.is) absent.0 absent.1
    (made_as _ _ c.load_page.new.w _ _ _ c.in-Err-Absent.ensures.same c.load_page.ensures.loaded)

pub returns-in-Err-Absent-clause-plain : goal.returns-in-Err-Absent-clause-plain
returns-in-Err-Absent-clause-plain c = load_plain _ c.calm.new.w c.load_page.new.w _ _ _ c.requires.kept (returns-in-Err-Absent-clause-done c)

pub returns-in-Err-Absent-clause-kept : goal.returns-in-Err-Absent-clause-kept
returns-in-Err-Absent-clause-kept c =
    made_kept _ _ c.load_page.new.w _ _ _ _ c.requires.kept c.calm.ensures
    (made_as _ _ c.load_page.new.w _ _ _ c.in-Err-Absent.ensures.same c.load_page.ensures.loaded) (returns-in-Err-Absent-clause-done c)

pub returns-in-Ok-clause-pages : goal.returns-in-Ok-clause-pages
returns-in-Ok-clause-pages c = stored_frames _ _ _ _ _ c.requires.kept c.calm.ensures _ c.in-Ok.ensures.allowed c.in-Ok.ensures.stored

pub returns-in-Err-Absent-clause-pages : goal.returns-in-Err-Absent-clause-pages
returns-in-Err-Absent-clause-pages c =
    let absent = c.in-Err-Absent.ensures.absent (ap Err c.in-Err-Absent.field-0-is) in
    made_frames _ _ c.load_page.new.w _ _ c.requires.kept c.calm.ensures absent.0 absent.1
    (c.load_page.ensures.frames ∙ ap (λ (w : World). frames_map c.args.slot c.args.slot (c.args.a / 1024)
    (frames_reserve c.args.slot w.core.frames)) c.in-Err-Absent.ensures.same)
