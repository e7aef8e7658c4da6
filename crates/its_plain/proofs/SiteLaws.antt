-- The site of a call depends on its decode words alone.
use Rattle.std.proofs.Common.{◌≡◌, ◌≢◌, ◌+◌, ℕ, zero, suc, List, [], ◌++◌, Option, Some, None, Result, Ok, Err, refl, sym, ◌∙◌, ap, subst, inl, inr, nat_lt, arith}
use Rattle.std.specs.List.{Contains}
use Rattle.std.proofs.lemmas.Bool.{cases_Bool}
use Rattle.its_word.specs.Core.{Core}
use Rattle.its_word.specs.Limits.{budget}
use Rattle.its_word.specs.Stores.{first_fault}
use Rattle.its_word.specs.declared.access.Fault.{Fault}
use Rattle.its_records.specs.declared.calls.Site.{Site}
use Rattle.its_word.specs.declared.instruction.Instruction.{Instruction}
use Rattle.its_word.specs.declared.instruction.Instruction.TheVariants.{Call, Iot, Xct}
use Rattle.its_records.specs.declared.jobs.Job.{Job}
use Rattle.its_word.specs.declared.plan.Context.{Context}
use Rattle.its_word.specs.declared.plan.Plan.{Plan}
use Rattle.its_word.specs.declared.plan.Reached.{Reached}
use Rattle.its_word.specs.declared.plan.ChainStep.{ChainStep}
use Rattle.its_word.specs.declared.plan.ChainStep.TheVariants.{Found, Target}
use Rattle.its_plain.specs.Unit.Plans.{Planned}
use Rattle.its_plain.specs.Unit.Trace.{Traced, also, goes_on, located, plainly, word}
use Rattle.its_plain.specs.Unit.{Called, chain, context_of, decoded, done_by, followed, made, outcome_at, outcome_of, reached, row_of, site_of, target_of, chain_step, chain_step_at, unit}
use Rattle.its_plain.proofs.Locality.{Words}
use Rattle.its_plain.proofs.DecodeLocality.{local_reached}

-- nothing is only tested on the way to an instruction
untested_also : {X Y : Type 0} (m : Traced X) (k : X → Traced Y) → m.tests ≡ [] → ((x : X) → (k x).tests ≡ []) → (also m k).tests ≡ []
unfolding also
untested_also {X = X} m k hm hk = go m.answer
  where
    go : (r : Result X Fault) → (goes_on m.reads m.tests r k).tests ≡ []
    go (Ok x) = ap (λ ts. ts ++ (k x).tests) hm ∙ hk x
    go (Err f) = hm

untested_word : (c : Core) (p : ℕ) → (word c p).tests ≡ []
unfolding word
untested_word c p = refl

untested_located : (c : Core) (w used : ℕ) → (located c w used).tests ≡ []
unfolding located
untested_located c w used = refl

untested_target : (c : Core) (x : Context) → (target_of c x).tests ≡ []
unfolding target_of
untested_target c x = elim (cases_Bool (nat_lt x.used budget)) [
  | inl t ↦ rw t (untested_also (word c x.e) _ (untested_word c x.e) (λ w. refl))
  | inr t ↦ rw t refl
]

untested_step_at : (c : Core) (i : Instruction) (x : Context) → (chain_step_at c i x).tests ≡ []
unfolding chain_step_at
untested_step_at c Xct x = untested_target c x
untested_step_at c i x = refl

untested_step : (c : Core) (j : Job) (w used : ℕ) → (chain_step c j w used).tests ≡ []
unfolding chain_step
untested_step c j w used =
    untested_also (plainly (decoded w)) _ refl
    (λ i. untested_also (located c w used) _ (untested_located c w used) (λ f. untested_step_at c i (context_of j w f.at f.used)))

untested_followed : (rest : ℕ → ℕ → Traced Reached) → ((v k : ℕ) → (rest v k).tests ≡ []) → (t : ChainStep) → (followed rest t).tests ≡ []
untested_followed rest h (Found r) = refl
untested_followed rest h (Target w used) = h w used

untested_chain : (n : ℕ) (c : Core) (j : Job) (w used : ℕ) → (chain n c j w used).tests ≡ []
unfolding chain
untested_chain zero c j w used = refl
untested_chain (suc n) c j w used =
    untested_also (chain_step c j w used) _ (untested_step c j w used) (λ t. untested_followed (λ v k. chain n c j v k) (λ v k. untested_chain n c j v k) t)

untested_reached : (c : Core) (j : Job) → (reached c j).tests ≡ []
unfolding reached
untested_reached c j = untested_also (word c j.pc) _ (untested_word c j.pc) (λ w. untested_chain (budget + 1) c j w 0)

-- a row does not call the monitor
never_made : (c : Core) (j : Job) (p : Plan) (f : Option Fault) (s : Site) → made c j p f ≢ Called s
never_made c j p None s e = cc
never_made c j p (Some f) s e = cc

pub never_planned : (c : Core) (j : Job) (p : Planned) (s : Site) → outcome_of c j p ≢ Called s
never_planned c j (Ok p) s e = never_made c j p (first_fault c p.stores.items) s e
never_planned c j (Err f) s e = cc

-- the decode words of a site are the words that were read, and except for these core is not looked
-- at
done_alike : (a b : Core) (j : Job) (reads : List ℕ) (x : Context) (i : Instruction) (s : Site) → done_by a j reads x i ≡ Called s
    → (done_by b j reads x i ≡ Called s) × (s.decode.items ≡ reads)
unfolding done_by
done_alike a b j reads x Iot s e = (e, let f : site_of x (Some x.a) reads ≡ s = cc in ap (λ t. t.decode.items) (sym f))
done_alike a b j reads x Call s e = (e, let f : site_of x None reads ≡ s = cc in ap (λ t. t.decode.items) (sym f))
done_alike a b j reads x i s e = absurd (never_planned a j (row_of a x i) s e)

outcome_alike : (a b : Core) (j : Job) (reads : List ℕ) (r : Result Reached Fault) (s : Site) → outcome_at a j reads r ≡ Called s
    → (outcome_at b j reads r ≡ Called s) × (s.decode.items ≡ reads)
outcome_alike a b j reads (Ok r) s e = done_alike a b j reads r.context r.instruction s e
outcome_alike a b j reads (Err f) s e = cc

no_place : (p : ℕ) → Contains [] p → ⊥
no_place p i = absurd (omega (arith, i.1))

pub site_same : (a b : Core) (j : Job) (s : Site) → unit a j ≡ Called s → Words s.decode.items a b → unit b j ≡ Called s
unfolding unit
site_same a b j s u w =
    let o = outcome_alike a b j (reached a j).reads (reached a j).answer s u in
    let n = untested_reached a j in
    let e = (local_reached j).same a b (record {
      words = λ p i. w.same p (subst (λ ps. Contains ps p) (sym o.1) i);
      marks = λ p i. absurd (no_place p (subst (λ ps. Contains ps p) n i));
    }) in
    ap (λ t. outcome_at b j t.reads t.answer) e ∙ o.0
