use Rattle.std.proofs.Common.{Ok, ap, ◌∙◌}
use Rattle.its_verify.proofs.ErrLaws.{err_item}
use Rattle.its_verify.proofs.GoneLaws.{failed_says, obeyed_says}
use Rattle.its_plain.specs.Transcript.Turns.{ticks_asked, turn_kept, turns_asked}
use Rattle.its_direct.specs.Events.{spot_place}
use Rattle.its_verify.proofs.VerifierLaws.{runs_outside, stays_by}
use Rattle.its_verify.proofs.OutLaws.{out_if_behind, told_by, turns_out}
use Rattle.its_verify.proofs.verifier.Verifier.obey.Goals as goal

pub turns_of-requires-clause-outside : goal.turns_of-requires-clause-outside
turns_of-requires-clause-outside g c =
    runs_outside (spot_place c.args.self.now.judge.plain.place) c.line.new.self.judge.plain.place c.args.event.now c.requires.stands
    (c.line.ensures.place (c.in_ok-outcome.was ∙ ap Ok c.in_default.is))

pub turns_of-requires-clause-at_item : goal.turns_of-requires-clause-at_item
turns_of-requires-clause-at_item g c =
    stays_by c.line.result c.line.new.self c.turn_kept-self.result (g.S.Source.left c.line.new.src) (c.in_ok-outcome.was ∙ ap Ok c.in_default.is)
    c.line.ensures.stays

pub returns-clause-says : goal.returns-clause-says
returns-clause-says g c =
    obeyed_says c.line.result c.turns_of.result c.args.event.now c.args.self.now c.line.new.self c.turns_of.new.self c.turn_kept-self.result
    (g.S.Source.left c.args.src.now) (g.S.Source.left c.line.new.src) (g.S.Source.left c.turns_of.new.src) c.args.number
    (c.in_ok-outcome.was ∙ ap Ok c.in_default.is) c.line.ensures.says
    (c.turn_kept-self.ensures ∙ ap (λ k. turn_kept k c.args.event.now) c.line.ensures.last) c.turns_of.ensures.says c.turns_of.ensures.place

pub returns-clause-out : goal.returns-clause-out
returns-clause-out g c =
    let left = g.S.Source.left c.args.src.now in
    let between = g.S.Source.left c.line.new.src in
    let rest = g.S.Source.left c.turns_of.new.src in
    out_if_behind c.turns_of.result left between rest
    (told_by c.line.result c.args.event.now c.args.self.now c.line.new.self left between c.args.number
    (c.in_ok-outcome.was ∙ ap Ok c.in_default.is) c.line.ensures.says)
    (turns_out (turns_asked c.args.event.now) (ticks_asked c.args.event.now) c.turns_of.result (record c.line.new.self { last = c.turn_kept-self.result })
    c.turns_of.new.self between
    rest c.turns_of.ensures.says)

pub returns-in_err-outcome-clause-says : goal.returns-in_err-outcome-clause-says
returns-in_err-outcome-clause-says g c =
    err_item _ c.in_err-outcome.field-0.0 _ _ _ _ _ _ c.from_residual.ensures.0
    (failed_says c.line.result c.in_err-outcome.field-0.0 c.args.event.now c.args.self.now c.line.new.self c.line.new.self
    (g.S.Source.left c.args.src.now) (g.S.Source.left c.line.new.src) c.args.number
    c.in_err-outcome.was c.line.ensures.says)
