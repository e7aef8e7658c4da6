use Rattle.std.proofs.Common.{refl, sym, arith}
use Rattle.its_monitor.proofs.FileLaws.{added_lands, added_tidy}
use Rattle.its_monitor.proofs.filing.add_word.Goals as goal

pub returns-in-Ok-clause-done : goal.returns-in-Ok-clause-done
returns-in-Ok-clause-done c =
    let h = c.in-Ok.ensures in
    let b = c.seen.ensures.blocks in
    added_lands c.args.w.now c.seen.ensures.whole c.requires.kept c.requires.unmarked c.args.id c.requires.file (omega arith) _ c.args.word
    h.ok h.entry h.words (h.file c.requires.file) (record { is = refl })
    (sym h.full)

pub returns-in-Ok-clause-tidy : goal.returns-in-Ok-clause-tidy
returns-in-Ok-clause-tidy c =
    let h = c.in-Ok.ensures in
    let b = c.seen.ensures.blocks in
    added_tidy c.args.w.now c.seen.ensures.whole c.requires.kept c.requires.unmarked c.args.id c.requires.file (omega arith) _ c.args.word
    h.ok h.entry h.words (h.file c.requires.file) (record { is = refl })
