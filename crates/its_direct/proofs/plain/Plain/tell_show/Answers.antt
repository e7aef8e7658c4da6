use Rattle.std.proofs.Common.{ap, sym, ◌∙◌}
use Rattle.std.specs.Prelude.{option_map}
use Rattle.its_files.specs.Files.{file_at}
use Rattle.its_direct.proofs.EventLaws.{told_show, told_show_refused}
use Rattle.its_direct.proofs.plain.Plain.tell_show.Goals as goal

pub returns-in-Some-clause-told : goal.returns-in-Some-clause-told
returns-in-Some-clause-told c = told_show c.args.self.now c.touch_none.new.self c.touch_none.ensures c.args.d c.args.x c.args.y c.in-Some.id
    (sym c.file.ensures.found ∙ ap (option_map (file_at c.args.self.now.files)) c.in-Some.is) c.in-Some.ensures.file

pub returns-in-None-clause-told : goal.returns-in-None-clause-told
returns-in-None-clause-told c = told_show_refused c.args.self.now c.args.self.now c.args.d c.args.x c.args.y
    (sym c.file.ensures.found ∙ ap (option_map (file_at c.args.self.now.files)) c.in-None.is)
