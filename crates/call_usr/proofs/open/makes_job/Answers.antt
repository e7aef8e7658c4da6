-- The least slot that is free is the least in which the call sees no job.
use Rattle.std.proofs.Common.{sym, ◌∙◌, ap}
use Rattle.its_plain.specs.Call.Usr.{makes_job}
use Rattle.its_plain.specs.Machine.View.{view}
use Rattle.its_world.specs.World.{state_of}
use Rattle.call_basic.specs.Seen.{seen_by}
use Rattle.call_usr.proofs.NameLaws.{outlines_free}
use Rattle.call_usr.proofs.open.makes_job.Goals as goal

pub returns-in-Some : goal.returns-in-Some
unfolding view state_of
returns-in-Some c =
    (rw c.number.ensures.value at c.made.ensures)
    ∙ ap (makes_job (seen_by c.args.w.now c.args.slot c.args.job.now c.args.ask.now) c.args.ask.now c.args.n c.args.u c.args.x)
    (c.in-Some.ensures.slot ∙ sym (outlines_free c.args.w.now c.args.slot c.args.job.now c.args.ask.now))

pub returns-in-None : goal.returns-in-None
unfolding view state_of
returns-in-None c =
    c.fails.ensures
    ∙ ap (makes_job (seen_by c.args.w.now c.args.slot c.args.job.now c.args.ask.now) c.args.ask.now c.args.n c.args.u c.args.x)
    (c.in-None.ensures.slot ∙ sym (outlines_free c.args.w.now c.args.slot c.args.job.now c.args.ask.now))
