use Rattle.std.proofs.Common.{ap, sym, subst, Some, Err, ◌∙◌, ◌/◌, ◌<◌}
use Rattle.its_word.specs.Core.{pages_mapped, store, with_page, zero_page}
use Rattle.its_word.specs.Limits.{most_pages}
use Rattle.its_core.specs.Cores.{core_at}
use Rattle.its_direct.specs.Plain.{CoreBecomes}
use Rattle.its_direct.specs.declared.plain.Plain.{Plain}
use Rattle.its_direct.proofs.LoadedLaws.{word_stored, word_made, word_room, word_free, word_tidy}
use Rattle.its_direct.proofs.plain.Plain.load_word.Goals as goal

pub returns-in-Ok-clause-row : goal.returns-in-Ok-clause-row
returns-in-Ok-clause-row c = word_stored c.args.self.now c.args.slot c.args.a c.args.w c.requires.job c.requires.tidy c.put_word.new.self
    c.in-Ok.ensures.allowed c.in-Ok.ensures.stored

pub returns-in-Ok-clause-tidy : goal.returns-in-Ok-clause-tidy
returns-in-Ok-clause-tidy c = word_tidy c.args.self.now c.args.slot c.args.a c.args.w c.requires.job c.requires.tidy c.put_word.new.self _
    c.in-Ok.ensures.stored

pub load_page-requires-clause-room : goal.load_page-requires-clause-room
load_page-requires-clause-room c =
    let absent = c.in-Err-Absent.ensures.absent (ap Err c.in-Err-Absent.field-0-is) in
    subst (λ (p : Plain). pages_mapped (core_at p.core) < most_pages) (sym c.in-Err-Absent.ensures.same)
    (word_room c.args.self.now c.args.slot c.args.a c.args.w c.requires.job c.requires.tidy absent.0 absent.1 c.requires.room)

pub unreachable-requires : goal.unreachable-requires
unreachable-requires c =
    word_free c.args.self.now c.args.slot c.args.a c.args.w c.requires.job c.requires.tidy
    (c.in-Err-ReadOnly.ensures.refused ∙ ap Err c.in-Err-ReadOnly.field-0-is) c.requires.room

pub returns-in-Err-Absent-clause-row : goal.returns-in-Err-Absent-clause-row
returns-in-Err-Absent-clause-row c =
    let absent = c.in-Err-Absent.ensures.absent (ap Err c.in-Err-Absent.field-0-is) in
    word_made c.args.self.now c.args.slot c.args.a c.args.w c.requires.job c.requires.tidy c.load_page.new.self absent.0 absent.1
    (word_room c.args.self.now c.args.slot c.args.a c.args.w c.requires.job c.requires.tidy absent.0 absent.1 c.requires.room)
    (subst (λ (p : Plain). CoreBecomes p c.load_page.new.self c.args.slot
    (store (with_page (core_at p.core c.args.slot) (c.args.a / 1024) (Some zero_page)) c.args.a c.args.w)) c.in-Err-Absent.ensures.same
    c.load_page.ensures)

pub returns-in-Err-Absent-clause-tidy : goal.returns-in-Err-Absent-clause-tidy
returns-in-Err-Absent-clause-tidy c =
    word_tidy c.args.self.now c.args.slot c.args.a c.args.w c.requires.job c.requires.tidy c.load_page.new.self _
    (subst (λ (p : Plain). CoreBecomes p c.load_page.new.self c.args.slot
    (store (with_page (core_at p.core c.args.slot) (c.args.a / 1024) (Some zero_page)) c.args.a c.args.w)) c.in-Err-Absent.ensures.same
    c.load_page.ensures)
