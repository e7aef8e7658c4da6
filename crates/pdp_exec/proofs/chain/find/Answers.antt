use Rattle.std.proofs.Common.{◌∙◌, Ok, ap, sym, length, arith}
use Rattle.pdp_exec.proofs.ChainLaws.{along_start, along_none, along_more, along_found, along_stops, along_over}
use Rattle.pdp_exec.proofs.chain.find.Goals as goal

-- the word at PC is absent
pub returns-in_err-w-clause-reads : goal.returns-in_err-w-clause-reads
returns-in_err-w-clause-reads c = (along_none _ _ _ _ _ c.requires.none c.in_err-w.ensures.answer c.noted.ensures.reads).places_is

pub loop-step-init : goal.loop-step-init
loop-step-init c = record {
  used = omega arith;
  few = let n = ap (λ xs. length xs) c.requires.none in let f = c.noted.ensures.few in omega arith;
  along = along_start _ _ _ _ _ c.requires.none c.in_ok-w.ensures.answer c.noted.ensures.reads;
}

-- a step faults
pub returns-in_err-r-clause-reads : goal.returns-in_err-r-clause-reads
returns-in_err-r-clause-reads c = (along_stops _ _ _ _ _ _ _ _ c.loop-step.invariant.along c.loop-step-test.true c.in_err-r.ensures.step
    c.chain_step.ensures.reads).places_is

-- the instruction is found
pub returns-in-Found-clause-found : goal.returns-in-Found-clause-found
returns-in-Found-clause-found c =
    (along_found _ _ _ _ _ _ _ _ c.loop-step.invariant.along c.loop-step-test.true (ap Ok (sym c.in-Found.is) ∙ c.in_ok-r.ensures.step)
    c.chain_step.ensures.reads).answer_is

pub returns-in-Found-clause-reads : goal.returns-in-Found-clause-reads
returns-in-Found-clause-reads c =
    (along_found _ _ _ _ _ _ _ _ c.loop-step.invariant.along c.loop-step-test.true (ap Ok (sym c.in-Found.is) ∙ c.in_ok-r.ensures.step)
    c.chain_step.ensures.reads).places_is

pub loop-step-preserved : goal.loop-step-preserved
loop-step-preserved c = record {
  used = rw c.in-Target.is at c.in_ok-r.ensures.ready;
  few = rw c.in-Target.is at c.in_ok-r.ensures.few;
  along = along_more _ _ _ _ _ _ _ _ _ c.loop-step.invariant.along c.loop-step-test.true
      (ap Ok (sym c.in-Target.is) ∙ c.in_ok-r.ensures.step) c.chain_step.ensures.reads;
}

-- there is no step left
pub returns-clause-found : goal.returns-clause-found
returns-clause-found c = (along_over _ _ _ _ _ _ c.loop-step.invariant.along (omega arith)).answer_is

pub returns-clause-reads : goal.returns-clause-reads
returns-clause-reads c = (along_over _ _ _ _ _ _ c.loop-step.invariant.along (omega arith)).places_is
