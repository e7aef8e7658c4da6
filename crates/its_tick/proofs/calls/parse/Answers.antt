use Rattle.its_tick.proofs.CallLaws.{entered_fits, parse_part, part_job, part_none, part_tidy, part_row, part_pages}
use Rattle.its_tick.proofs.calls.parse.Goals as goal

pub parse-answer-requires-clause-fits : goal.parse-answer-requires-clause-fits
parse-answer-requires-clause-fits c = entered_fits c.args.w.now c.args.slot c.requires.kept

pub decoded-requires-clause-job : goal.decoded-requires-clause-job
decoded-requires-clause-job c = part_job _ _ _ _ (parse_part c.args.w.now c.parse-answer.new.self c.args.slot c.parse-answer.result
    c.requires.kept c.requires.frame c.parse-answer.ensures.written c.parse-answer.ensures.fault)

pub decoded-requires-clause-frame : goal.decoded-requires-clause-frame
decoded-requires-clause-frame c = part_none _ _ _ _ (parse_part c.args.w.now c.parse-answer.new.self c.args.slot c.parse-answer.result
    c.requires.kept c.requires.frame c.parse-answer.ensures.written c.parse-answer.ensures.fault)

pub decoded-requires-clause-tidy : goal.decoded-requires-clause-tidy
decoded-requires-clause-tidy c = part_tidy _ _ _ _ (parse_part c.args.w.now c.parse-answer.new.self c.args.slot c.parse-answer.result
    c.requires.kept c.requires.frame c.parse-answer.ensures.written c.parse-answer.ensures.fault) c.requires.kept.tidy

pub returns-clause-row : goal.returns-clause-row
returns-clause-row c = part_row _ _ _ _ (parse_part c.args.w.now c.parse-answer.new.self c.args.slot c.parse-answer.result c.requires.kept
    c.requires.frame c.parse-answer.ensures.written c.parse-answer.ensures.fault) c.decoded.new.w c.decoded.result c.decoded.ensures.row
    c.decoded.ensures.pace

pub returns-clause-pages : goal.returns-clause-pages
returns-clause-pages c = part_pages _ _ _ _ (parse_part c.args.w.now c.parse-answer.new.self c.args.slot c.parse-answer.result
    c.requires.kept c.requires.frame c.parse-answer.ensures.written c.parse-answer.ensures.fault) c.decoded.new.w c.decoded.ensures.pages
