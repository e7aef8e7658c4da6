use Rattle.std.proofs.Common.{◌∙◌, sym, ap}
use Rattle.its_print.specs.Printing.{Dir, text_of_line}
use Rattle.its_top.proofs.FilingLaws.{tells_then}
use Rattle.its_top.proofs.WritingLaws.{told_as}
use Rattle.its_top.proofs.sessions.filing.print_files.Goals as goal

pub returns-clause-told : goal.returns-clause-told
returns-clause-told g c =
    tells_then _ _ _ _ _ _ _ (sym c.goes_on.ensures ∙ c.if-not-goes_on.false)
    (told_as _ _ _ _ _ _ (ap (λ n. text_of_line (Dir c.args.d n)) c.requires.count) c.tell-flow.ensures.told) c.print_each_file.ensures.told
