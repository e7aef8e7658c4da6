use Rattle.std.proofs.Common.{sym, ◌∙◌}
use Rattle.its_direct.proofs.LoadedLaws.{line_barred, line_done, line_full, line_room, line_refused}
use Rattle.its_direct.proofs.plain.Plain.load_words.Goals as goal

pub returns-in_default-clause-refused : goal.returns-in_default-clause-refused
returns-in_default-clause-refused c = line_refused c.args.self.now c.args.slot c.args.a c.args.words.now c.requires.some (sym c.job.ensures ∙ c.in_default.is)

pub returns-then-any_barred-clause-refused : goal.returns-then-any_barred-clause-refused
returns-then-any_barred-clause-refused c = line_barred c.args.self.now c.args.slot c.args.a c.args.words.now _
    (sym c.job.ensures ∙ c.in-Some.is) _ c.any_barred.ensures c.if-any_barred.true

pub returns-then-mapped-pages_made-gt-MAPPED_PAGES-clause-refused : goal.returns-then-mapped-pages_made-gt-MAPPED_PAGES-clause-refused
returns-then-mapped-pages_made-gt-MAPPED_PAGES-clause-refused c =
    line_full c.args.self.now c.args.slot c.args.a c.args.words.now _ (sym c.job.ensures ∙ c.in-Some.is) _ c.any_barred.ensures c.if-any_barred.false
    c.requires.tidy c.within.ensures c.requires.end (c.mapped.ensures.whole c.args.slot c.within.ensures) _ _ c.mapped.ensures.number
    c.mapped.ensures.most c.pages_made.ensures.number
    c.if-mapped-pages_made-gt-MAPPED_PAGES.true

pub store_words-requires-clause-room : goal.store_words-requires-clause-room
store_words-requires-clause-room c =
    line_room c.args.self.now c.args.slot c.args.a c.args.words.now _ (sym c.job.ensures ∙ c.in-Some.is) _ c.any_barred.ensures c.if-any_barred.false
    c.requires.tidy c.within.ensures c.requires.end (c.mapped.ensures.whole c.args.slot c.within.ensures) _ _ c.mapped.ensures.number
    c.mapped.ensures.most c.pages_made.ensures.number
    c.if-mapped-pages_made-gt-MAPPED_PAGES.false

pub returns-clause-done : goal.returns-clause-done
returns-clause-done c =
    line_done c.args.self.now c.args.slot c.args.a c.args.words.now _ (sym c.job.ensures ∙ c.in-Some.is) _ c.any_barred.ensures c.if-any_barred.false
    c.store_words.new.self c.touch_only.new.self c.within.ensures c.store_words.ensures.done c.store_words.ensures.place c.touch_only.ensures
