-- From an instruction word along its chain of XCTs.
use Rattle.std.proofs.Common.{◌≡◌, ◌<◌, ◌≤◌, ℕ, zero, suc, ◌-◌, ◌+◌, true, false, List, [], ◌++◌, Option, Some, None, Result, Ok, Err, arith, refl, sym, ◌∙◌, ap, subst}
use Rattle.std.proofs.lemmas.List.{append-nil, append_assoc}
use Rattle.its_word.specs.Core.{Core}
use Rattle.its_word.specs.Address.{address}
use Rattle.its_word.specs.Opcode.{ac_of, instruction_of, opcode_of}
use Rattle.its_word.specs.declared.access.Address.{Address}
use Rattle.its_word.specs.declared.access.Fault.{Fault}
use Rattle.its_word.specs.declared.access.Fault.TheVariants.{Ilo}
use Rattle.its_word.specs.declared.instruction.Instruction.{Instruction}
use Rattle.its_word.specs.declared.instruction.Instruction.TheVariants.{Xct, Iot, Call}
use Rattle.its_records.specs.declared.jobs.Job.{Job}
use Rattle.its_word.specs.declared.plan.Context.{Context}
use Rattle.its_word.specs.declared.plan.Reached.{Reached}
use Rattle.its_word.specs.declared.plan.ChainStep.{ChainStep}
use Rattle.its_word.specs.declared.plan.ChainStep.TheVariants.{Found, Target}
use Rattle.its_word.specs.Stores.{first_fault}
use Rattle.its_plain.specs.Unit.Plans.{Planned, read_of}
use Rattle.its_plain.specs.Unit.Trace.{Traced, also, gives, goes_on, located, word}
use Rattle.its_plain.specs.Unit.{Outcome, Called, Faulted, chain, context_of, decoded, done_by, followed, has_row, made, outcome_at, outcome_of, reached, row_of, site_of, chain_step, chain_step_at, unit}
use Rattle.pdp_exec.specs.Answer.{IsCalled}
use Rattle.pdp_exec.specs.Ready.{Stands, is_call, leads_on}
use Rattle.its_plain.proofs.TracedLaws.{stops_answer}

-- a part and what follows it, by what the part gives
then_answer : {X Y : Type 0} (m : Traced X) (k : X → Traced Y) (x : X) → m.answer ≡ Ok x → (also m k).answer ≡ (k x).answer
unfolding also
then_answer m k x e = ap (λ a. (goes_on m.reads m.tests a k).answer) e

then_reads : {X Y : Type 0} (m : Traced X) (k : X → Traced Y) (x : X) → m.answer ≡ Ok x → (also m k).reads ≡ m.reads ++ (k x).reads
unfolding also
then_reads m k x e = ap (λ a. (goes_on m.reads m.tests a k).reads) e

stops_reads : {X Y : Type 0} (m : Traced X) (k : X → Traced Y) (f : Fault) → m.answer ≡ Err f → (also m k).reads ≡ m.reads
unfolding also
stops_reads m k f e = ap (λ a. (goes_on m.reads m.tests a k).reads) e

-- one step
next_step : Core → Job → ℕ → ChainStep → Traced Reached
next_step c j n t = followed (λ v k. chain n c j v k) t

chain_suc : (n m : ℕ) (c : Core) (j : Job) (w used : ℕ) → n ≡ suc m → chain n c j w used ≡ also (chain_step c j w used) (next_step c j m)
unfolding chain next_step
chain_suc n m c j w used h = rw h refl

chain_on : (i : ℕ) (c : Core) (j : Job) (w used : ℕ) → i < 65 → chain (65 - i) c j w used ≡ also (chain_step c j w used) (next_step c j (65 - (i + 1)))
chain_on i c j w used h = chain_suc (65 - i) (65 - (i + 1)) c j w used (omega arith)

chain_zero : (n : ℕ) (c : Core) (j : Job) (w used : ℕ) → n ≡ zero → chain n c j w used ≡ record { answer = Err Ilo; reads = []; tests = [] }
unfolding chain
chain_zero n c j w used h = rw h refl

-- what is left of the chain, after some words were read
pub record Along (c : Core) (j : Job) (n w used : ℕ) (seen : List ℕ) : Type 0 where
  pub answer : (chain n c j w used).answer ≡ (reached c j).answer
  pub places : seen ++ (chain n c j w used).reads ≡ (reached c j).reads

pub record Ended (c : Core) (j : Job) (a : Result Reached Fault) (seen : List ℕ) : Type 0 where
  pub answer_is : a ≡ (reached c j).answer
  pub places_is : seen ≡ (reached c j).reads

pub along_start : (c : Core) (j : Job) (w : ℕ) (old seen : List ℕ) → old ≡ [] → Ok w ≡ (word c j.pc).answer → seen ≡ old ++ (word c j.pc).reads
    → Along c j (65 - 0) w 0 seen
unfolding reached
along_start c j w old seen n e r =
    let s : seen ≡ (word c j.pc).reads = r ∙ ap (λ xs. xs ++ (word c j.pc).reads) n in
    record {
      answer = sym (then_answer (word c j.pc) (λ w. chain 65 c j w 0) w (sym e));
      places = ap (λ xs. xs ++ (chain 65 c j w 0).reads) s ∙ sym (then_reads (word c j.pc) (λ w. chain 65 c j w 0) w (sym e));
    }

pub along_none : (c : Core) (j : Job) (f : Fault) (old seen : List ℕ) → old ≡ [] → Err f ≡ (word c j.pc).answer → seen ≡ old ++ (word c j.pc).reads
    → Ended c j (Err f) seen
unfolding reached
along_none c j f old seen n e r = record {
  answer_is = sym (stops_answer (word c j.pc) (λ w. chain 65 c j w 0) f (sym e));
  places_is = r ∙ ap (λ xs. xs ++ (word c j.pc).reads) n ∙ sym (stops_reads (word c j.pc) (λ w. chain 65 c j w 0) f (sym e));
}

pub along_more : (c : Core) (j : Job) (i w used : ℕ) (seen new : List ℕ) (v k : ℕ) → Along c j (65 - i) w used seen → i < 65
    → Ok (Target v k) ≡ (chain_step c j w used).answer → new ≡ seen ++ (chain_step c j w used).reads → Along c j (65 - (i + 1)) v k new
unfolding next_step
along_more c j i w used seen new v k a h e n =
    let t = chain_on i c j w used h in
    let x = then_answer (chain_step c j w used) (next_step c j (65 - (i + 1))) (Target v k) (sym e) in
    let y = then_reads (chain_step c j w used) (next_step c j (65 - (i + 1))) (Target v k) (sym e) in
    record {
      answer = sym (ap (λ m. m.answer) t ∙ x) ∙ a.answer;
      places = ap (λ xs. xs ++ (chain (65 - (i + 1)) c j v k).reads) n
          ∙ append_assoc seen (chain_step c j w used).reads (chain (65 - (i + 1)) c j v k).reads
          ∙ ap (λ r. seen ++ r) (sym (ap (λ m. m.reads) t ∙ y)) ∙ a.places;
    }

pub along_found : (c : Core) (j : Job) (i w used : ℕ) (seen new : List ℕ) (r : Reached) → Along c j (65 - i) w used seen → i < 65
    → Ok (Found r) ≡ (chain_step c j w used).answer → new ≡ seen ++ (chain_step c j w used).reads → Ended c j (Ok r) new
unfolding next_step
along_found c j i w used seen new r a h e n =
    let t = chain_on i c j w used h in
    let x = then_answer (chain_step c j w used) (next_step c j (65 - (i + 1))) (Found r) (sym e) in
    let y = then_reads (chain_step c j w used) (next_step c j (65 - (i + 1))) (Found r) (sym e) in
    record {
      answer_is = sym (ap (λ m. m.answer) t ∙ x) ∙ a.answer;
      places_is = n ∙ ap (λ r. seen ++ r) (sym (ap (λ m. m.reads) t ∙ y ∙ append-nil (chain_step c j w used).reads)) ∙ a.places;
    }

pub along_stops : (c : Core) (j : Job) (i w used : ℕ) (seen new : List ℕ) (f : Fault) → Along c j (65 - i) w used seen → i < 65
    → Err f ≡ (chain_step c j w used).answer → new ≡ seen ++ (chain_step c j w used).reads → Ended c j (Err f) new
along_stops c j i w used seen new f a h e n =
    let t = chain_on i c j w used h in
    record {
      answer_is = sym (ap (λ m. m.answer) t ∙ stops_answer (chain_step c j w used) (next_step c j (65 - (i + 1))) f (sym e)) ∙ a.answer;
      places_is = n ∙ ap (λ r. seen ++ r) (sym (ap (λ m. m.reads) t
          ∙ stops_reads (chain_step c j w used) (next_step c j (65 - (i + 1))) f (sym e))) ∙ a.places;
    }

-- the faults of the two, for `using`
pub no_word : (c : Core) (j : Job) (f : Fault) → (word c j.pc).answer ≡ Err f → (reached c j).answer ≡ Err f
no_word c j f e = sym (along_none c j f [] (word c j.pc).reads refl (sym e) refl).answer_is

pub step_faults : (c : Core) (j : Job) (i w used : ℕ) (seen : List ℕ) (f : Fault) → Along c j (65 - i) w used seen → i < 65
    → (chain_step c j w used).answer ≡ Err f → (reached c j).answer ≡ Err f
step_faults c j i w used seen f a h e = sym (along_stops c j i w used seen _ f a h (sym e) refl).answer_is

pub along_over : (c : Core) (j : Job) (i w used : ℕ) (seen : List ℕ) → Along c j (65 - i) w used seen → 65 ≤ i → Ended c j (Err Ilo) seen
along_over c j i w used seen a h =
    let t = chain_zero (65 - i) c j w used (omega arith) in
    record {
      answer_is = sym (ap (λ m. m.answer) t) ∙ a.answer;
      places_is = sym (append-nil seen) ∙ ap (λ r. seen ++ r) (sym (ap (λ m. m.reads) t)) ∙ a.places;
    }

-- an instruction that is no XCT is found in its own place
pub step_plain : (c : Core) (i : Instruction) (x : Context) → leads_on i ≡ false
    → chain_step_at c i x ≡ gives (Found (record { instruction = i; context = x }))
unfolding chain_step_at
step_plain c Xct x h = cc
step_plain c _ x h = refl

pub plain_step : (c : Core) (j : Job) (w : ℕ) (i : Instruction) (e : Address) → decoded w ≡ Ok i → leads_on i ≡ false → (address c w 0).answer ≡ Ok e
    → (chain_step c j w 0).answer ≡ Ok (Found (record { instruction = i; context = context_of j w e (address c w 0).used }))
unfolding chain_step also located
plain_step c j w i e d p a = rw (d, a) (ap (λ m. m.answer) (step_plain c i (context_of j w e (address c w 0).used) p))

plain_reached : (c : Core) (j : Job) (w : ℕ) (i : Instruction) (e : Address) → read_of c j.pc ≡ Ok w → decoded w ≡ Ok i → leads_on i ≡ false
    → (address c w 0).answer ≡ Ok e → (reached c j).answer ≡ Ok (record { instruction = i; context = context_of j w e (address c w 0).used })
unfolding word
plain_reached c j w i e r d p a =
    let s = along_start c j w [] (word c j.pc).reads refl (sym r) refl in
    sym (along_found c j 0 w 0 (word c j.pc).reads _ _ s (omega arith) (sym (plain_step c j w i e d p a)) refl).answer_is

-- an instruction that is no call does what its row plans
planned_by : (c : Core) (j : Job) (reads : List ℕ) (x : Context) (i : Instruction) → is_call i ≡ false → done_by c j reads x i ≡ outcome_of c j (row_of c x i)
unfolding done_by
planned_by c j reads x Iot h = cc
planned_by c j reads x Call h = cc
planned_by c j reads x _ h = refl

pub unit_by : (c : Core) (j : Job) (r : Reached) (o : Outcome) → (reached c j).answer ≡ Ok r → is_call r.instruction ≡ false
    → outcome_of c j (row_of c r.context r.instruction) ≡ o → unit c j ≡ o
unfolding unit
unit_by c j r o e h p = ap (outcome_at c j (reached c j).reads) e ∙ planned_by c j (reached c j).reads r.context r.instruction h ∙ p

-- what is at the PC
is_decoded : (w : ℕ) (i : Instruction) → instruction_of (opcode_of w) ≡ i → has_row i (ac_of w) ≡ true → decoded w ≡ Ok i
unfolding decoded
is_decoded w i e h = rw (e, h) refl

-- the unit, if the way to its instruction is known
unit_at : (c : Core) (j : Job) (a : Result Reached Fault) (reads : List ℕ) → a ≡ (reached c j).answer → reads ≡ (reached c j).reads
    → unit c j ≡ outcome_at c j reads a
unfolding unit
unit_at c j a reads e f = ap (λ b. outcome_at c j (reached c j).reads b) (sym e) ∙ ap (λ r. outcome_at c j r a) (sym f)

-- a call, with the site that the walk to its instruction gives
pub unit_iot : (c : Core) (j : Job) (a : Result Reached Fault) (r : Reached) (reads : List ℕ) → a ≡ (reached c j).answer
    → reads ≡ (reached c j).reads → a ≡ Ok r → r.instruction ≡ Iot
    → unit c j ≡ Called (site_of r.context (Some r.context.a) reads)
unfolding done_by
unit_iot c j a r reads e f g h = unit_at c j a reads e f ∙ ap (outcome_at c j reads) g ∙ ap (λ i. done_by c j reads r.context i) h

pub unit_call : (c : Core) (j : Job) (a : Result Reached Fault) (r : Reached) (reads : List ℕ) → a ≡ (reached c j).answer
    → reads ≡ (reached c j).reads → a ≡ Ok r → r.instruction ≡ Call
    → unit c j ≡ Called (site_of r.context None reads)
unfolding done_by
unit_call c j a r reads e f g h = unit_at c j a reads e f ∙ ap (outcome_at c j reads) g ∙ ap (λ i. done_by c j reads r.context i) h

pub unit_lost : (c : Core) (j : Job) (a : Result Reached Fault) (g : Fault) → a ≡ (reached c j).answer → a ≡ Err g → unit c j ≡ Faulted g
unit_lost c j a g e h = unit_at c j a (reached c j).reads e refl ∙ ap (outcome_at c j (reached c j).reads) h

-- a unit is a call exactly if its instruction is one
pub is_called : (c : Core) (j : Job) (r : Reached) → (reached c j).answer ≡ Ok r → is_call r.instruction ≡ true → IsCalled (unit c j)
unfolding unit done_by
is_called c j r e h = subst IsCalled (sym (ap (outcome_at c j (reached c j).reads) e)) (go r.instruction h)
  where
    go : (i : Instruction) → is_call i ≡ true → IsCalled (done_by c j (reached c j).reads r.context i)
    go Iot h = tt
    go Call h = tt
    go _ h = cc

-- what is at the PC: its unit
pub stands_at : (c : Core) (j : Job) (w : ℕ) (e : Address) → read_of c j.pc ≡ Ok w → (address c w 0).answer ≡ Ok e
    → Stands c j (opcode_of w) (context_of j w e (address c w 0).used)
stands_at c j w e r a = record {
  does = λ i o h p q. sym (unit_by c j (record { instruction = i; context = context_of j w e (address c w 0).used }) _
      (plain_reached c j w i e r (is_decoded w i o h) p a) q refl);
  calls = λ i o h p q. is_called c j (record { instruction = i; context = context_of j w e (address c w 0).used })
      (plain_reached c j w i e r (is_decoded w i o h) p a) q;
}

pub stands : (c : Core) (j : Job) (o : ℕ) (x : Context) (p : Planned) → Stands c j o x → has_row (instruction_of o) x.a ≡ true
    → leads_on (instruction_of o) ≡ false → is_call (instruction_of o) ≡ false → row_of c x (instruction_of o) ≡ p → outcome_of c j p ≡ unit c j
stands c j o x p s h l q r = ap (λ p. outcome_of c j p) (sym r) ∙ s.does (instruction_of o) refl h l q

pub stands_call : (c : Core) (j : Job) (o : ℕ) (x : Context) → Stands c j o x → has_row (instruction_of o) x.a ≡ true
    → leads_on (instruction_of o) ≡ false → is_call (instruction_of o) ≡ true → IsCalled (unit c j)
stands_call c j o x s h l q = s.calls (instruction_of o) refl h l q

never_called : (c : Core) (j : Job) (p : Planned) → IsCalled (outcome_of c j p) → ⊥
never_called c j (Ok p) h = go (first_fault c p.stores.items) h
  where
    go : (f : Option Fault) → IsCalled (made c j p f) → ⊥
    go None h = h
    go (Some f) h = h
never_called c j (Err f) h = h

no_call : (c : Core) (j : Job) (r : Reached) → (reached c j).answer ≡ Ok r → is_call r.instruction ≡ false → IsCalled (unit c j) → ⊥
no_call c j r e h q = never_called c j (row_of c r.context r.instruction) (subst IsCalled (unit_by c j r _ e h refl) q)

pub no_other : (c : Core) (j : Job) (r : Reached) → Ok r ≡ (reached c j).answer → (r.instruction ≡ Iot → ⊥) → (r.instruction ≡ Call → ⊥)
    → IsCalled (unit c j) → ⊥
no_other c j r e m n q = no_call c j r (sym e) (other r.instruction m n) q
  where
    other : (i : Instruction) → (i ≡ Iot → ⊥) → (i ≡ Call → ⊥) → is_call i ≡ false
    other Iot a b = absurd (a refl)
    other Call a b = absurd (b refl)
    other _ a b = refl

pub no_fault : (c : Core) (j : Job) (f : Fault) → (reached c j).answer ≡ Err f → IsCalled (unit c j) → ⊥
unfolding unit
no_fault c j f e q = let h : IsCalled (Faulted f) = subst IsCalled (ap (outcome_at c j (reached c j).reads) e) q in h
