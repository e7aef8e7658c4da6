use Rattle.its_monitor.proofs.JobLineLaws.{calmed_has, calmed_alone, calmed_apart, under_lands, under_plain, under_kept, under_missing, under_has, under_below, first_of, second_of}
use Rattle.its_monitor.proofs.monitor.Monitor.set_superior.Goals as goal

pub returns-then-not-have_jobs-clause-refused : goal.returns-then-not-have_jobs-clause-refused
returns-then-not-have_jobs-clause-refused c = under_missing _ _ _ c.requires.kept _ c.have_jobs.ensures c.if-not-have_jobs.true

pub returns-then-has_superior-clause-refused : goal.returns-then-has_superior-clause-refused
returns-then-has_superior-clause-refused c = under_has _ _ _ c.requires.kept _ c.have_jobs.ensures c.if-not-have_jobs.false _ c.has_superior.ensures
    c.if-has_superior.true

pub returns-then-is_at_or_above-clause-refused : goal.returns-then-is_at_or_above-clause-refused
returns-then-is_at_or_above-clause-refused c = under_below _ _ _ c.requires.kept _ c.have_jobs.ensures c.if-not-have_jobs.false _
    c.has_superior.ensures _ c.if-has_superior.false c.is_at_or_above.ensures c.if-is_at_or_above.true

pub calm-requires-clause-some : goal.calm-requires-clause-some
calm-requires-clause-some c = first_of _ _ _ c.have_jobs.ensures c.if-not-have_jobs.false

pub give_superior-requires-clause-job : goal.give_superior-requires-clause-job
give_superior-requires-clause-job c = calmed_has _ c.calm.new.w c.args.s c.args.t c.requires.kept c.calm.ensures c.args.s
    (first_of _ _ _ c.have_jobs.ensures c.if-not-have_jobs.false)

pub give_superior-requires-clause-standing : goal.give_superior-requires-clause-standing
give_superior-requires-clause-standing c = calmed_has _ c.calm.new.w c.args.s c.args.t c.requires.kept c.calm.ensures c.args.t
    (second_of _ _ _ c.have_jobs.ensures c.if-not-have_jobs.false)

pub give_superior-requires-clause-none : goal.give_superior-requires-clause-none
give_superior-requires-clause-none c = calmed_alone _ c.calm.new.w c.args.s c.args.t c.requires.kept c.calm.ensures _ c.has_superior.ensures
    c.if-has_superior.false

pub give_superior-requires-clause-apart : goal.give_superior-requires-clause-apart
give_superior-requires-clause-apart c = calmed_apart _ c.calm.new.w c.args.s c.args.t c.requires.kept c.calm.ensures _ c.is_at_or_above.ensures
    c.if-is_at_or_above.false

pub returns-clause-done : goal.returns-clause-done
returns-clause-done c = under_lands _ c.calm.new.w _ _ c.requires.kept c.calm.ensures c.give_superior.new.w _ _ _ c.have_jobs.ensures
    c.if-not-have_jobs.false c.has_superior.ensures c.if-has_superior.false c.is_at_or_above.ensures c.if-is_at_or_above.false c.give_superior.ensures

pub returns-clause-plain : goal.returns-clause-plain
returns-clause-plain c = under_plain _ c.calm.new.w _ _ c.requires.kept c.calm.ensures c.give_superior.new.w _ _ _ c.have_jobs.ensures
    c.if-not-have_jobs.false c.has_superior.ensures c.if-has_superior.false c.is_at_or_above.ensures c.if-is_at_or_above.false c.give_superior.ensures

pub returns-clause-kept : goal.returns-clause-kept
returns-clause-kept c = under_kept _ c.calm.new.w _ _ c.requires.kept c.calm.ensures c.give_superior.new.w _ _ _ c.have_jobs.ensures
    c.if-not-have_jobs.false c.has_superior.ensures c.if-has_superior.false c.is_at_or_above.ensures c.if-is_at_or_above.false c.give_superior.ensures
