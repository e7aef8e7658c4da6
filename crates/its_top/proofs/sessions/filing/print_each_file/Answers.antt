use Rattle.std.proofs.Common.{◌∙◌, sym, ap, subst, arith}
use Rattle.its_top.specs.Answer.{WritesSo}
use Rattle.its_top.proofs.FilingLaws.{standing_next, listing_some, listing_none, listing_end, writes_next, writes_cut}
use Rattle.its_top.proofs.ConclusionLaws.{not_fault}
use Rattle.its_top.proofs.sessions.filing.print_each_file.Goals.{in-Some+else-not-goes_on, in_default}
use Rattle.its_top.proofs.sessions.filing.print_each_file.Goals as goal

pub returns-then-not-goes_on-clause-told : goal.returns-then-not-goes_on-clause-told
returns-then-not-goes_on-clause-told g c =
    writes_cut _ _ _ _ _ _ _ (sym c.goes_on.ensures ∙ c.if-not-goes_on.true)
    (listing_some _ _ _ _ _ _ _ c.requires.unmarked c.loop-k.invariant.stood (sym c.in-Some.is ∙ c.dir.ensures.shown)
    c.loop-k.invariant.so_far) c.print_filed-flow.ensures.told

pub returns-then-not-goes_on-clause-state : goal.returns-then-not-goes_on-clause-state
returns-then-not-goes_on-clause-state g c = (standing_next _ _ _ c.requires.unmarked c.loop-k.invariant.stood c.dir.ensures.state c.dir.ensures.files).state

pub loop-k-preserved : goal.loop-k-preserved
loop-k-preserved g c = elim c.match-dir.branch [
  | in-Some+else-not-goes_on w ↦
      let on = sym w.goes_on.ensures ∙ w.if-not-goes_on.false in
      record {
        sound = c.dir.ensures.kept;
        stood = standing_next _ _ _ c.requires.unmarked c.loop-k.invariant.stood c.dir.ensures.state c.dir.ensures.files;
        so_far = subst (λ o. WritesSo _ _ _ (g.K.Sink.written o)) (sym w.out-is)
            (writes_next _ _ _ _ _ _ _ on (listing_some _ _ _ _ _ _ _ c.requires.unmarked c.loop-k.invariant.stood
            (sym w.in-Some.is ∙ c.dir.ensures.shown) c.loop-k.invariant.so_far) w.print_filed-flow.ensures.told);
        unfailed = ap g.K.Sink.faults w.out-is ∙ w.print_filed-flow.ensures.cause.unfailed (not_fault _ on) ∙ c.loop-k.invariant.unfailed;
      }
  | in_default w ↦ absurd (listing_none _ _ _ _ _ c.requires.unmarked c.loop-k.invariant.stood c.requires.count c.loop-k-test.true
      (sym w.in_default.is ∙ c.dir.ensures.shown))
]

pub returns-clause-told : goal.returns-clause-told
returns-clause-told g c = listing_end _ _ _ _ _ _ c.requires.count (omega (arith, c.loop-k-test.false, c.loop-k.auto.k-end)) c.loop-k.invariant.so_far
