use Rattle.std.proofs.Common.{◌+◌, ◌/◌, ◌∙◌, sym, ap, length}
use Rattle.its_files.specs.Files.{words_at}
use Rattle.its_print.specs.Printing.{Shown, text_of_line, text}
use Rattle.its_plain.specs.Operator.Files.{rows}
use Rattle.its_top.proofs.FilingLaws.{stood, length_stood, tells_then}
use Rattle.its_top.proofs.WritingLaws.{told_as}
use Rattle.its_top.proofs.sessions.filing.print_words_of.Goals as goal

pub returns-clause-told : goal.returns-clause-told
returns-clause-told g c =
    let words = words_at c.args.m.now.world.files c.args.id in
    let same = stood c.args.m.now.world c.file_length.new.self.world c.requires.unmarked c.file_length.ensures.state c.file_length.ensures.files in
    let count = length_stood c.args.m.now.world c.file_length.new.self.world _ _ _ same c.requires.file c.file_length.ensures.length c.unwrap_or-k.ensures in
    tells_then _ _ _ _ _ _ _ (sym c.goes_on.ensures ∙ c.if-not-goes_on.false)
    (told_as _ _ _ _ _ _ (ap (λ n. text_of_line (Shown c.args.d c.args.x c.args.y n)) count) c.tell-flow.ensures.told)
    (told_as _ _ _ _ _ _ (ap (λ n. text (rows ((n + 7) / 8) (words_at c.file_length.new.self.world.files c.args.id))) count
    ∙ ap (λ s. text (rows ((length words + 7) / 8) (words_at s c.args.id))) same.files) c.print_rows.ensures.told)
