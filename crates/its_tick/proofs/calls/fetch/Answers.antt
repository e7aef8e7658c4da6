use Rattle.its_tick.proofs.CallLaws.{parsed_fits, parsed_words, fetch_part, part_job, part_none, part_tidy, part_row, part_pages}
use Rattle.its_tick.proofs.calls.fetch.Goals as goal

pub fetch-answer-requires-clause-fits : goal.fetch-answer-requires-clause-fits
fetch-answer-requires-clause-fits c = parsed_fits c.args.w.now c.args.slot c.requires.kept

pub fetch-answer-requires-clause-words : goal.fetch-answer-requires-clause-words
fetch-answer-requires-clause-words c = parsed_words c.args.w.now c.args.slot c.requires.kept

pub decoded-requires-clause-job : goal.decoded-requires-clause-job
decoded-requires-clause-job c = part_job _ _ _ _ (fetch_part c.args.w.now c.fetch-answer.new.self c.args.slot c.fetch-answer.result
    c.requires.kept c.requires.frame c.fetch-answer.ensures.written c.fetch-answer.ensures.fault)

pub decoded-requires-clause-frame : goal.decoded-requires-clause-frame
decoded-requires-clause-frame c = part_none _ _ _ _ (fetch_part c.args.w.now c.fetch-answer.new.self c.args.slot c.fetch-answer.result
    c.requires.kept c.requires.frame c.fetch-answer.ensures.written c.fetch-answer.ensures.fault)

pub decoded-requires-clause-tidy : goal.decoded-requires-clause-tidy
decoded-requires-clause-tidy c = part_tidy _ _ _ _ (fetch_part c.args.w.now c.fetch-answer.new.self c.args.slot c.fetch-answer.result
    c.requires.kept c.requires.frame c.fetch-answer.ensures.written c.fetch-answer.ensures.fault) c.requires.kept.tidy

pub returns-clause-row : goal.returns-clause-row
returns-clause-row c = part_row _ _ _ _ (fetch_part c.args.w.now c.fetch-answer.new.self c.args.slot c.fetch-answer.result c.requires.kept
    c.requires.frame c.fetch-answer.ensures.written c.fetch-answer.ensures.fault) c.decoded.new.w c.decoded.result c.decoded.ensures.row
    c.decoded.ensures.pace

pub returns-clause-pages : goal.returns-clause-pages
returns-clause-pages c = part_pages _ _ _ _ (fetch_part c.args.w.now c.fetch-answer.new.self c.args.slot c.fetch-answer.result
    c.requires.kept c.requires.frame c.fetch-answer.ensures.written c.fetch-answer.ensures.fault) c.decoded.new.w c.decoded.ensures.pages
