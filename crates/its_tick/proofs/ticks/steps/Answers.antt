use Rattle.std.proofs.Common.{◌∙◌, sym}
use Rattle.its_tick.proofs.StepsLaws.{byte_units, due_framed, steps_kept, steps_most, steps_pages, steps_paces, steps_state, steps_tidy}
use Rattle.its_tick.proofs.ticks.steps.Goals as goal

pub returns-clause-state : goal.returns-clause-state
returns-clause-state c =
    steps_state c.args.w.now c.units_in_place.new.w c.args.slot c.units_in_place.result c.args.n c.in-Some.job.now
    c.units_in_place.ensures.made (sym c.in-Some.ensures.job) c.if-job.false
    (sym c.has_frame.ensures ∙ c.if-has_frame.false)

pub returns-clause-paces : goal.returns-clause-paces
returns-clause-paces c =
    steps_paces c.args.w.now c.units_in_place.new.w c.args.slot c.units_in_place.result c.args.n c.in-Some.job.now
    c.units_in_place.ensures.made (sym c.in-Some.ensures.job) c.if-job.false
    (sym c.has_frame.ensures ∙ c.if-has_frame.false)

pub returns-clause-pages : goal.returns-clause-pages
returns-clause-pages c = steps_pages _ _ _ _ _ c.units_in_place.ensures.made

pub returns-clause-kept : goal.returns-clause-kept
returns-clause-kept c =
    steps_kept c.args.w.now c.units_in_place.new.w c.args.slot c.units_in_place.result c.requires.kept
    (steps_state c.args.w.now c.units_in_place.new.w c.args.slot c.units_in_place.result c.args.n c.in-Some.job.now
    c.units_in_place.ensures.made (sym c.in-Some.ensures.job) c.if-job.false
    (sym c.has_frame.ensures ∙ c.if-has_frame.false))
    (steps_tidy c.args.w.now c.units_in_place.new.w c.args.slot c.units_in_place.result c.args.n c.in-Some.job.now
    c.units_in_place.ensures.made (sym c.in-Some.ensures.job) c.if-job.false
    (sym c.has_frame.ensures ∙ c.if-has_frame.false) c.requires.kept.tidy)

pub returns-clause-most : goal.returns-clause-most
returns-clause-most c =
    steps_most c.args.w.now c.units_in_place.new.w c.args.slot c.units_in_place.result c.args.n c.in-Some.job.now
    c.units_in_place.ensures.made (sym c.in-Some.ensures.job) c.if-job.false
    (sym c.has_frame.ensures ∙ c.if-has_frame.false)

pub returns-clause-most_bytes : goal.returns-clause-most_bytes
returns-clause-most_bytes c = λ h.
    byte_units c.args.w.now c.units_in_place.new.w c.args.slot c.units_in_place.result c.args.n c.units_in_place.ensures.made
    (sym c.has_frame.ensures ∙ c.if-has_frame.false)

-- bytes of SIOT
pub returns-then-has_frame-clause-state : goal.returns-then-has_frame-clause-state
returns-then-has_frame-clause-state c = c.bytes.ensures.made.state

pub returns-then-has_frame-clause-paces : goal.returns-then-has_frame-clause-paces
returns-then-has_frame-clause-paces c = c.bytes.ensures.made.paces

pub returns-then-has_frame-clause-most : goal.returns-then-has_frame-clause-most
returns-then-has_frame-clause-most c = λ h. due_framed c.bytes.new.w c.args.slot c.bytes.ensures.made.frame

pub returns-then-has_frame-clause-most_bytes : goal.returns-then-has_frame-clause-most_bytes
returns-then-has_frame-clause-most_bytes c = c.bytes.ensures.most

pub returns-then-has_frame-clause-pages : goal.returns-then-has_frame-clause-pages
returns-then-has_frame-clause-pages c = c.bytes.ensures.made.pages

pub returns-then-has_frame-clause-kept : goal.returns-then-has_frame-clause-kept
returns-then-has_frame-clause-kept c = c.bytes.ensures.made.kept
