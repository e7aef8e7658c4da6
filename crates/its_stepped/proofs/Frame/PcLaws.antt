-- Whether a call is still there depends on the core and the PC of its job alone, whatever the other
-- registers are.
use Rattle.std.specs.Prelude.{◌≡◌, ℕ, zero, suc, ◌+◌, List, Result, Ok, Err, nat_lt, refl}
use Rattle.std.proofs.Common.{◌∙◌, ap, inl, inr}
use Rattle.std.proofs.lemmas.Bool.{cases_Bool}
use Rattle.its_word.specs.Core.{Core}
use Rattle.its_word.specs.Limits.{budget}
use Rattle.its_word.specs.declared.access.Address.{Address}
use Rattle.its_word.specs.declared.access.Fault.{Fault}
use Rattle.its_records.specs.declared.calls.Ask.{Ask}
use Rattle.its_records.specs.declared.calls.Site.{Site}
use Rattle.its_word.specs.declared.instruction.Instruction.{Instruction}
use Rattle.its_word.specs.declared.instruction.Instruction.TheVariants.{Iot, Call, Xct}
use Rattle.its_records.specs.declared.jobs.Job.{Job}
use Rattle.its_word.specs.declared.plan.Context.{Context}
use Rattle.its_word.specs.declared.plan.Reached.{Reached}
use Rattle.its_word.specs.declared.plan.ChainStep.{ChainStep}
use Rattle.its_word.specs.declared.plan.ChainStep.TheVariants.{Found, Target}
use Rattle.its_plain.specs.Call.Footprint.{Stands}
use Rattle.its_plain.specs.Unit.Trace.{Traced, goes_on, also, plainly, gives, word, located}
use Rattle.its_plain.specs.Unit.{Called, decoded, context_of, target_of, chain_step_at, chain_step, followed, chain, reached, row_of, done_by, outcome_at, unit}
use Rattle.its_plain.proofs.SiteLaws.{never_planned}

-- what a part finds, under a function
abbrev answered : {X Y : Type 0} → (X → Y) → Result X Fault → Result Y Fault
answered g (Ok x) = Ok (g x)
answered g (Err f) = Err f

abbrev finding : {X Y : Type 0} → (X → Y) → Traced X → Traced Y
finding g t = record { answer = answered g t.answer; reads = t.reads; tests = t.tests }

finding_last : {X Y Z : Type 0} (g : Y → Z) (m : Traced X) (k : X → Traced Y) → also m (λ x. finding g (k x)) ≡ finding g (also m k)
unfolding also
finding_last {X = X} g m k = go m.answer
  where
    go : (r : Result X Fault) → goes_on m.reads m.tests r (λ x. finding g (k x)) ≡ finding g (goes_on m.reads m.tests r k)
    go (Ok x) = refl
    go (Err f) = refl

finding_first : {X Y Z : Type 0} (g : X → Y) (m : Traced X) (k : Y → Traced Z) → also (finding g m) k ≡ also m (λ x. k (g x))
unfolding also
finding_first {X = X} g m k = go m.answer
  where
    go : (r : Result X Fault) → goes_on m.reads m.tests (answered g r) k ≡ goes_on m.reads m.tests r (λ x. k (g x))
    go (Ok x) = refl
    go (Err f) = refl

-- flags are carried along on the way to a call, and are not looked at
abbrev with_flags : ℕ → Context → Context
with_flags f x = record x { flags = f }

abbrev flagged : ℕ → Reached → Reached
flagged f r = record r { context = with_flags f r.context }

abbrev turned : ℕ → ChainStep → ChainStep
turned f (Found r) = Found (flagged f r)
turned f (Target w used) = Target w used

target_flagged : (f : ℕ) (c : Core) (x : Context) → target_of c (with_flags f x) ≡ finding (turned f) (target_of c x)
unfolding target_of
target_flagged f c x = elim (cases_Bool (nat_lt x.used budget)) [
  | inl t ↦ rw t (finding_last (turned f) (word c x.e) (λ w. gives (Target w (x.used + 1))))
  | inr t ↦ rw t refl
]

step_at_flagged : (f : ℕ) (c : Core) (i : Instruction) (x : Context) → chain_step_at c i (with_flags f x) ≡ finding (turned f) (chain_step_at c i x)
unfolding chain_step_at
step_at_flagged f c Xct x = target_flagged f c x
step_at_flagged f c i x = refl

-- a job with the PC of another
module _ (c : Core) (j k : Job) (same : k.pc ≡ j.pc) where
  context_flagged : (w : ℕ) (e : Address) (used : ℕ) → context_of k w e used ≡ with_flags k.flags (context_of j w e used)
  context_flagged w e used = λ t. record (context_of k w e used) { pc = same t }

  turn_flagged : (w used : ℕ) → chain_step c k w used ≡ finding (turned k.flags) (chain_step c j w used)
  unfolding chain_step
  turn_flagged w used =
      let g = turned k.flags in
      (λ t. also (plainly (decoded w)) (λ i. also (located c w used) (λ f.
      (ap (chain_step_at c i) (context_flagged w f.at f.used) ∙ step_at_flagged k.flags c i (context_of j w f.at f.used)) t)))
      ∙ (λ t. also (plainly (decoded w)) (λ i. finding_last g (located c w used) (λ f. chain_step_at c i (context_of j w f.at f.used)) t))
      ∙ finding_last g (plainly (decoded w)) (λ i. also (located c w used) (λ f. chain_step_at c i (context_of j w f.at f.used)))

  followed_flagged : (rest more : ℕ → ℕ → Traced Reached) → ((w used : ℕ) → more w used ≡ finding (flagged k.flags) (rest w used)) → (t : ChainStep)
      → followed more (turned k.flags t) ≡ finding (flagged k.flags) (followed rest t)
  followed_flagged rest more h (Found r) = refl
  followed_flagged rest more h (Target w used) = h w used

  chain_flagged : (n w used : ℕ) → chain n c k w used ≡ finding (flagged k.flags) (chain n c j w used)
  unfolding chain
  chain_flagged zero w used = refl
  chain_flagged (suc n) w used =
      ap (λ m. also m (λ t. followed (λ v u. chain n c k v u) t)) (turn_flagged w used)
      ∙ finding_first (turned k.flags) (chain_step c j w used) (λ t. followed (λ v u. chain n c k v u) t)
      ∙ (λ i. also (chain_step c j w used) (λ t. followed_flagged (λ v u. chain n c j v u) (λ v u. chain n c k v u) (λ v u. chain_flagged n v u) t i))
      ∙ finding_last (flagged k.flags) (chain_step c j w used) (λ t. followed (λ v u. chain n c j v u) t)

  reached_flagged : reached c k ≡ finding (flagged k.flags) (reached c j)
  unfolding reached
  reached_flagged =
      ap (λ p. also (word c p) (λ w. chain (budget + 1) c k w 0)) same
      ∙ (λ t. also (word c j.pc) (λ w. chain_flagged (budget + 1) w 0 t))
      ∙ finding_last (flagged k.flags) (word c j.pc) (λ w. chain (budget + 1) c j w 0)

  done_flagged : (reads : List ℕ) (x : Context) (i : Instruction) (s : Site) → done_by c j reads x i ≡ Called s
      → done_by c k reads (with_flags k.flags x) i ≡ Called s
  unfolding done_by
  done_flagged reads x Iot s e = e
  done_flagged reads x Call s e = e
  done_flagged reads x i s e = absurd (never_planned c j (row_of c x i) s e)

  outcome_flagged : (reads : List ℕ) (r : Result Reached Fault) (s : Site) → outcome_at c j reads r ≡ Called s
      → outcome_at c k reads (answered (flagged k.flags) r) ≡ Called s
  outcome_flagged reads (Ok r) s e = done_flagged reads r.context r.instruction s e
  outcome_flagged reads (Err f) s e = cc

  unit_same : (s : Site) → unit c j ≡ Called s → unit c k ≡ Called s
  unfolding unit
  unit_same s e = ap (λ (t : Traced Reached). outcome_at c k t.reads t.answer) reached_flagged ∙ outcome_flagged (reached c j).reads (reached c j).answer s e

pub stands_same : (c : Core) (j k : Job) (s : Site) (a : Ask) → k.pc ≡ j.pc → Stands c j s a → Stands c k s a
stands_same c j k s a same h = record { unit_is = unit_same c j k same s h.unit_is; ask_is = h.ask_is }
