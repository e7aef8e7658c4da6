use Rattle.std.proofs.Common.{◌∙◌, sym, ap, arith, length}
use Rattle.its_files.specs.Files.{words_at}
use Rattle.its_top.proofs.FilingLaws.{standing_next, word_stood, row_within, row_past, row_next}
use Rattle.its_top.proofs.sessions.filing.row_of.Goals.{in-Some, in-None}
use Rattle.its_top.proofs.sessions.filing.row_of.Goals as goal

pub loop-k-preserved : goal.loop-k-preserved
loop-k-preserved c =
    let words = words_at c.args.m.now.world.files c.args.id in
    let stood = standing_next _ _ _ c.requires.unmarked c.loop-k.invariant.stood c.file_word.ensures.state c.file_word.ensures.files in
    let found = word_stood _ _ _ _ _ stood c.requires.file c.file_word.ensures.word in
    let within = row_within words c.args.from c.args.count _ _ c.requires.count c.requires.within c.words_in_row-k-end.ensures c.loop-k-test.true in
    elim c.match-file_word.branch [
      | in-Some w ↦ record {
        sound = c.file_word.ensures.kept;
        stood = stood;
        count = omega (arith, ap (λ v. length v.items) w.words-is, w.push.ensures.len, c.loop-k.invariant.count);
        so_far = row_next words _ _ _ _ _ within (sym w.in-Some.is ∙ found) c.loop-k.invariant.so_far (ap (λ v. v.items) w.words-is ∙ w.push.ensures.items);
      }
      | in-None w ↦ absurd (row_past words _ within (sym w.in-None.is ∙ found))
    ]
