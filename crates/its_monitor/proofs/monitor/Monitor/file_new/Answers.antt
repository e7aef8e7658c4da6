use Rattle.std.proofs.Common.{sym, ◌∙◌, ap, is_some, arith}
use Rattle.its_monitor.proofs.FileLaws.{new_exists, new_full, new_kept}
use Rattle.its_monitor.proofs.monitor.Monitor.file_new.Goals as goal

pub returns-then-is_some-clause-refused : goal.returns-then-is_some-clause-refused
returns-then-is_some-clause-refused c = new_exists _ c.help.new.w _ c.help.ensures
    (ap is_some (sym c.find.ensures.found) ∙ sym c.is_some.ensures ∙ c.if-is_some.true)

pub returns-then-count-ge-MOST_FILES-clause-refused : goal.returns-then-count-ge-MOST_FILES-clause-refused
returns-then-count-ge-MOST_FILES-clause-refused c =
    let n = c.count.ensures in
    let le = c.if-count-ge-MOST_FILES.true in
    new_full _ c.help.new.w _ c.help.ensures (ap is_some (sym c.find.ensures.found) ∙ sym c.is_some.ensures ∙ c.if-is_some.false) (omega arith)

pub returns-clause-kept : goal.returns-clause-kept
returns-clause-kept c = new_kept _ c.help.new.w _ c.args.d c.args.x c.args.y c.requires.kept c.help.ensures c.make_file.ensures.done c.make_file.ensures.tidy
