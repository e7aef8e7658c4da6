-- From the result of an event and what was written for it to the answer.
use Rattle.std.specs.Prelude.{◌≡◌, ℕ, Result, Ok, Err, Option, List, ◌++◌}
use Rattle.std.proofs.Common.{sym, ◌∙◌, ap, subst, append_assoc}
use Rattle.its_records.specs.declared.session.Event.{Event}
use Rattle.its_print.specs.Printing.{text}
use Rattle.its_plain.specs.Operator.{Block}
use Rattle.its_stepped.specs.State.{State}
use Rattle.its_stepped.specs.Lines.{Told}
use Rattle.its_world.specs.World.{state_of}
use Rattle.its_world.specs.declared.world.World.{World}
use Rattle.its_top.specs.declared.sessions.shown.Over.{Over}
use Rattle.its_top.specs.declared.sessions.shown.Over.TheVariants as overs
use Rattle.its_top.specs.declared.sessions.shown.Shown.{Shown}
use Rattle.its_top.specs.declared.sessions.flow.Flow.{Flow}
use Rattle.its_top.specs.declared.sessions.flow.Flow.TheVariants as flows
use Rattle.its_top.specs.Telling.{said, after, BeginsText, line_says, Answers}
use Rattle.its_top.specs.Answer.{WroteFor, Tells, Answered}
use Rattle.its_top.specs.Performing.{lines_shown, flow_of, told_behind, Performed}
use Rattle.its_top.proofs.EventLaws.{said_telling}

module _ (r : Result Shown Over) (n : ℕ) (v : State) (b : Block) (e : Event) (w : World) (b' : Block) (p : Performed r v b e w b') where
  says : (next : State → Block → Told) → line_says n v b e next ≡ after (text (lines_shown n r w)) (said (told_behind r (next (state_of w) b')))
  says next = ap said (p.tells n next) ∙ said_telling (lines_shown n r w) (told_behind r (next (state_of w) b'))

  -- a write that failed
  begins : (wrote more : List ℕ) → text (lines_shown n r w) ≡ wrote ++ more → (next : State → Block → Told) → BeginsText (line_says n v b e next) wrote
  begins wrote more h next =
      let rest = (said (told_behind r (next (state_of w) b'))).text in
      record { more = more ++ rest; whole = ap (λ x. x.text) (says next) ∙ ap (λ x. x ++ rest) h ∙ append_assoc wrote more rest }

pub answers : (r : Result Shown Over) (n : ℕ) (v : State) (b : Block) (e : Event) (w : World) (b' : Block) → Performed r v b e w b'
    → Answers (flow_of r) n v b e (state_of w) b' (text (lines_shown n r w))
answers (Ok s) n v b e w b' p = (p.goes, says (Ok s) n v b e w b' p)
answers (Err overs.Ended) n v b e w b' p = (p.goes, λ next. ap said (p.tells n next))
answers (Err (overs.Refused q)) n v b e w b' p = λ next. ap said (p.tells n next)

-- what was to be written, or its beginning
as_good : (flow good : Flow) (n : ℕ) (v v' : State) (b b' : Block) (e : Event) (l w : List ℕ) → Answers good n v b e v' b' l → flow ≡ good
    → l ≡ w → Answers flow n v b e v' b' w
as_good flow good n v v' b b' e l w a h k = subst (λ t. Answers t n v b e v' b' w) (sym h) (subst (Answers good n v b e v' b') k a)

by_flow : (flow good : Flow) (n : ℕ) (v v' : State) (b b' : Block) (e : Event) (l w : List ℕ) → Answers good n v b e v' b' l
    → ((more : List ℕ) → l ≡ w ++ more → (next : State → Block → Told) → BeginsText (line_says n v b e next) w) → WroteFor flow good l w
    → Answers flow n v b e v' b' w
by_flow flows.Fault good n v v' b b' e l w a f c = f c.0 c.1
by_flow flows.On good n v v' b b' e l w a f c = as_good flows.On good n v v' b b' e l w a c.0 c.1
by_flow flows.Ended good n v v' b b' e l w a f c = as_good flows.Ended good n v v' b b' e l w a c.0 c.1
by_flow flows.Refused good n v v' b b' e l w a f c = as_good flows.Refused good n v v' b b' e l w a c.0 c.1
by_flow flows.TooLong good n v v' b b' e l w a f c = as_good flows.TooLong good n v v' b b' e l w a c.0 c.1

pub answered_by : (r : Result Shown Over) (flow : Flow) (n : ℕ) (v v' : State) (b : Block) (e : Event) (w : World)
    (b' : Block) (old new : Option (List ℕ)) → Performed r v b e w b'
    → v' ≡ state_of w → Tells flow (flow_of r) (text (lines_shown n r w)) old new → Answered flow n v b e v' b' old new
answered_by r flow n v v' b e w b' old new p h t = record {
  wrote = t.wrote;
  appended = t.appended;
  answers = subst (λ x. Answers flow n v b e x b' t.wrote) (sym h)
      (by_flow flow (flow_of r) n v (state_of w) b b' e (text (lines_shown n r w)) t.wrote (answers r n v b e w b' p)
      (begins r n v b e w b' p t.wrote) t.complete);
}
