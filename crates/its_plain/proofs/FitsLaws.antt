-- The numbers of a site: its addresses have 18 bits, and its decode words are few.
use Rattle.std.proofs.Common.{◌≡◌, ◌<◌, ◌≤◌, ◌+◌, ◌-◌, ◌*◌, ◌^◌, ℕ, zero, suc, true, List, [], ◌∷◌, ◌++◌, length, Option, Some, None, Result, Ok, Err, refl, sym, ◌∙◌, ap, subst, inl, inr, nat_lt, arith}
use Rattle.std.specs.Option.{IfSome}
use Rattle.std.proofs.lemmas.Bool.{cases_Bool}
use Rattle.std.proofs.lemmas.Bool.Decides.{nat_tests}
use Rattle.std.proofs.lemmas.List.{length-append}
use Rattle.its_word.specs.Core.{Core, word_at}
use Rattle.its_word.specs.Limits.{budget}
use Rattle.its_word.specs.Address.{Addressed, address, calculation, followed, found, index_places, indexed, is_indirect, last_used, reading}
use Rattle.its_word.proofs.AddressLaws.{calculation_direct, calculation_spent, index_places_few, indexed_below}
use Rattle.its_word.specs.declared.access.Address.{Address}
use Rattle.its_word.specs.declared.access.Fault.{Fault}
use Rattle.its_records.specs.declared.calls.Site.{Site}
use Rattle.its_word.specs.declared.instruction.Instruction.{Instruction}
use Rattle.its_word.specs.declared.instruction.Instruction.TheVariants.{Call, Iot, Xct}
use Rattle.its_records.specs.declared.jobs.Job.{Job}
use Rattle.its_word.specs.declared.plan.Context.{Context}
use Rattle.its_word.specs.declared.plan.Reached.{Reached}
use Rattle.its_word.specs.declared.plan.ChainStep.{ChainStep}
use Rattle.its_word.specs.declared.plan.ChainStep.TheVariants.{Found, Target}
use Rattle.its_plain.specs.Unit.Trace.{Located, Traced, also, gives, located, located_by, plainly, word}
use Rattle.its_plain.specs.Unit.{Called, chain, context_of, decoded, done_by, followed as goes_to, outcome_at, reached, row_of, site_of, target_of, chain_step, chain_step_at, unit}
use Rattle.its_plain.specs.Call.Footprint.{SiteFits}
use Rattle.its_plain.proofs.Locality.{calculation_next}
use Rattle.its_plain.proofs.SiteLaws.{never_planned}
use Rattle.its_plain.proofs.ReadLaws.{went}

-- an address that is found with n of the budget left
pub record Reaches (r : Addressed) (a : Address) (n : ℕ) : Type 0 where
  pub below : a.e < 2 ^ 18
  pub more : budget ≤ r.used + n
  pub most : r.used ≤ budget
  pub few : length r.reads + 2 * (budget - n) ≤ 2 * r.used + 1

reaches_direct : (n : ℕ) (c : Core) (w : ℕ) (last : Option ℕ) (a : Address) → n ≤ budget → (found n (indexed c w) (last_used c w last)).answer ≡ Ok a
    → Reaches (reading (index_places w) (found n (indexed c w) (last_used c w last))) a n
reaches_direct n c w last a h e =
    let is : record { e = indexed c w; flags_word = last_used c w last } ≡ a = cc in
    let b = indexed_below c w in
    let f = index_places_few w in
    let l = length-append (index_places w) [] in
    record { below = subst (λ x. x.e < 2 ^ 18) is b; more = omega arith; most = omega arith; few = omega arith }

calculation_reaches : (n : ℕ) (c : Core) (w : ℕ) (last : Option ℕ) (a : Address) → n ≤ budget → (calculation n c w last).answer ≡ Ok a
    → Reaches (calculation n c w last) a n
calculation_reaches zero c w last a h e = elim (cases_Bool (is_indirect w)) [
  | inl t ↦ let x = ap (λ r. r.answer) (sym (calculation_spent zero c w last t refl)) ∙ e in absurd (cc)
  | inr t ↦
      let d = calculation_direct zero c w last t in
      subst (λ r. Reaches r a zero) (sym d) (reaches_direct zero c w last a h (ap (λ r. r.answer) (sym d) ∙ e))
]
calculation_reaches (suc n) c w last a h e = elim (cases_Bool (is_indirect w)) [
  | inl t ↦ go t (λ v. calculation_reaches n c v (Some v) a (omega arith)) (word_at c (indexed c w)) refl
  | inr t ↦
      let d = calculation_direct (suc n) c w last t in
      subst (λ r. Reaches r a (suc n)) (sym d) (reaches_direct (suc n) c w last a h (ap (λ r. r.answer) (sym d) ∙ e))
]
  where
    go : is_indirect w ≡ true → ((v : ℕ) → (calculation n c v (Some v)).answer ≡ Ok a → Reaches (calculation n c v (Some v)) a n)
        → (o : Option ℕ) → word_at c (indexed c w) ≡ o
        → Reaches (calculation (suc n) c w last) a (suc n)
    go t rest (Some v) eo =
        let d = calculation_next n c w last t ∙ ap (λ o. reading (index_places w)
        (reading (indexed c w ∷ []) (followed n (λ v. calculation n c v (Some v)) o))) eo in
        let r = rest v (ap (λ r. r.answer) (sym d) ∙ e) in
        let f = index_places_few w in
        let l = length-append (index_places w) (indexed c w ∷ [] ++ (calculation n c v (Some v)).reads) in
        let more = r.more in
        let most = r.most in
        let few = r.few in
        subst (λ r. Reaches r a (suc n)) (sym d) (record { below = r.below; more = omega arith; most = most; few = omega arith })
    go t rest None eo =
        let d = calculation_next n c w last t ∙ ap (λ o. reading (index_places w)
        (reading (indexed c w ∷ []) (followed n (λ v. calculation n c v (Some v)) o))) eo in
        let x = ap (λ r. r.answer) (sym d) ∙ e in
        cc

-- an address that is found if so much of the budget is used already
pub record Finds (t : Traced Located) (f : Located) (used : ℕ) : Type 0 where
  pub below : f.at.e < 2 ^ 18
  pub more : used ≤ f.used
  pub most : f.used ≤ budget
  pub few : length t.reads + 2 * used ≤ 2 * f.used + 1

located_is : (r : Result Address Fault) (n : ℕ) (f : Located) → located_by r n ≡ Ok f → (r ≡ Ok f.at) × (n ≡ f.used)
located_is (Ok a) n f h =
    let e : record { at = a; used = n } ≡ f = cc in
    (ap (λ (x : Located). Ok x.at) e, ap (λ (x : Located). x.used) e)
located_is (Err g) n f h = cc

pub located_finds : (c : Core) (w used : ℕ) (f : Located) → used ≤ budget → (located c w used).answer ≡ Ok f → Finds (located c w used) f used
unfolding located
located_finds c w used f h e =
    let i = located_is (address c w used).answer (address c w used).used f e in
    let r = calculation_reaches (budget - used) c w None f.at (omega arith) i.0 in
    let u = i.1 in
    let more = r.more in
    let most = r.most in
    let few = r.few in
    record { below = r.below; more = omega arith; most = omega arith; few = omega arith }

-- an instruction that is found at the end of some words that were read
pub record FoundAt (j : Job) (reads : List ℕ) (used : ℕ) (x : Context) : Type 0 where
  pub pc : x.pc ≡ j.pc
  pub a : x.a < 16
  pub e : x.e < 2 ^ 18
  pub most : x.used ≤ budget
  pub few : length reads + 2 * used ≤ 2 * x.used + 1

-- the target of an XCT that is read after some words
record TargetAt (reads : List ℕ) (used next : ℕ) : Type 0 where
  most : next ≤ budget
  few : length reads + 2 * used ≤ 2 * next

Leads : Job → List ℕ → ℕ → ChainStep → Type 0
Leads j reads used (Found r) = FoundAt j reads used r.context
Leads j reads used (Target w next) = TargetAt reads used next

-- what an instruction adds to the words of its address
Adds : Context → List ℕ → ChainStep → Type 0
Adds x reads (Found r) = (r.context ≡ x) × (length reads ≡ 0)
Adds x reads (Target w next) = (next ≡ x.used + 1) × (next ≤ budget) × (length reads ≡ 1)

found_adds : (i : Instruction) (x : Context) (t : ChainStep) → (gives (Found (record { instruction = i; context = x }))).answer ≡ Ok t → Adds x [] t
unfolding Adds
found_adds i x (Found r) h = let e : record { instruction = i; context = x } ≡ r = cc in (ap (λ (r : Reached). r.context) (sym e), refl)
found_adds i x (Target w k) h = cc

read_adds : (x : Context) (v : ℕ) (reads : List ℕ) (t : ChainStep) → x.used < budget → length reads ≡ 1
    → (gives (Target v (x.used + 1))).answer ≡ Ok t → Adds x reads t
unfolding Adds
read_adds x v reads (Found r) l n h = cc
read_adds x v reads (Target w k) l n h = let e : x.used + 1 ≡ k = cc in (sym e, omega arith, n)

word_long : (c : Core) (p : ℕ) → length (word c p).reads ≡ 1
unfolding word
word_long c p = refl

target_adds : (c : Core) (x : Context) (t : ChainStep) → (target_of c x).answer ≡ Ok t → Adds x (target_of c x).reads t
unfolding target_of
target_adds c x t h = elim (cases_Bool (nat_lt x.used budget)) [
  | inl b ↦
      let w = went (word c x.e) (λ w. gives (Target w (x.used + 1))) t (rw b at h) in
      let n = word_long c x.e in
      let l = length-append (word c x.e).reads [] in
      let below : x.used < budget = grind (arith, nat_tests) in
      rw b (read_adds x w.value _ t below (ap length w.reads ∙ omega arith) w.last)
  | inr b ↦ let e = rw b at h in cc
]

step_at_adds : (c : Core) (i : Instruction) (x : Context) (t : ChainStep) → (chain_step_at c i x).answer ≡ Ok t → Adds x (chain_step_at c i x).reads t
unfolding chain_step_at
step_at_adds c Xct x t h = target_adds c x t h
step_at_adds c i x t h = found_adds i x t h

leads_by : (c : Core) (j : Job) (w used : ℕ) (f : Located) (first more all : List ℕ) (t : ChainStep) → f.at.e < 2 ^ 18 → used ≤ f.used → f.used ≤ budget
    → length first + 2 * used ≤ 2 * f.used + 1 → length all ≡ length first + length more → Adds (context_of j w f.at f.used) more t → Leads j all used t
unfolding Adds Leads
leads_by c j w used f first more all (Found r) be mo me fe l a =
    let n = a.1 in
    subst (FoundAt j all used) (sym a.0) (record { pc = refl; a = omega arith; e = be; most = me; few = omega arith })
leads_by c j w used f first more all (Target v k) be mo me fe l a =
    let e = a.0 in
    let m = a.1 in
    let n = a.2 in
    record { most = m; few = omega arith }

step_leads : (c : Core) (j : Job) (w used : ℕ) (t : ChainStep) → used ≤ budget → (chain_step c j w used).answer ≡ Ok t
    → Leads j (chain_step c j w used).reads used t
unfolding chain_step
step_leads c j w used t u h =
    let at_address = λ (i : Instruction). also (located c w used) (λ f. chain_step_at c i (context_of j w f.at f.used)) in
    let d = went (plainly (decoded w)) at_address t h in
    let l = went (located c w used) (λ f. chain_step_at c d.value (context_of j w f.at f.used)) t d.last in
    let f = located_finds c w used l.value u l.first in
    let more = (chain_step_at c d.value (context_of j w l.value.at l.value.used)).reads in
    leads_by c j w used l.value (located c w used).reads more _ t f.below f.more f.most f.few
    (ap length (d.reads ∙ l.reads) ∙ length-append (located c w used).reads more)
    (step_at_adds c d.value (context_of j w l.value.at l.value.used) t l.last)

followed_ends : (j : Job) (used : ℕ) (rest : ℕ → ℕ → Traced Reached) (r : Reached) (first all : List ℕ) (t : ChainStep)
    → ((v k : ℕ) → k ≤ budget → (rest v k).answer ≡ Ok r → FoundAt j (rest v k).reads k r.context)
    → Leads j first used t → (goes_to rest t).answer ≡ Ok r → length all ≡ length first + length (goes_to rest t).reads → FoundAt j all used r.context
unfolding Leads
followed_ends j used rest r first all (Found q) h l e n =
    let is : q ≡ r = cc in
    let few = l.few in
    subst (λ (x : Reached). FoundAt j all used x.context) is (record { pc = l.pc; a = l.a; e = l.e; most = l.most; few = omega arith })
followed_ends j used rest r first all (Target v k) h l e n =
    let x = h v k l.most e in
    let few = l.few in
    let more = x.few in
    record { pc = x.pc; a = x.a; e = x.e; most = x.most; few = omega arith }

chain_ends : (n : ℕ) (c : Core) (j : Job) (w used : ℕ) (r : Reached) → used ≤ budget → (chain n c j w used).answer ≡ Ok r
    → FoundAt j (chain n c j w used).reads used r.context
unfolding chain
chain_ends zero c j w used r u h = cc
chain_ends (suc n) c j w used r u h =
    let rest = λ (v k : ℕ). chain n c j v k in
    let t = went (chain_step c j w used) (λ t. goes_to rest t) r h in
    followed_ends j used rest r (chain_step c j w used).reads _ t.value (λ v k m e. chain_ends n c j v k r m e)
    (step_leads c j w used t.value u t.first) t.last
    (ap length t.reads ∙ length-append (chain_step c j w used).reads (goes_to rest t.value).reads)

-- the instruction word is one more
pub record EndsUnit (j : Job) (reads : List ℕ) (x : Context) : Type 0 where
  pub pc : x.pc ≡ j.pc
  pub a : x.a < 16
  pub e : x.e < 2 ^ 18
  pub most : x.used ≤ budget
  pub few : length reads ≤ 2 * x.used + 2

pub reached_ends : (c : Core) (j : Job) (r : Reached) → (reached c j).answer ≡ Ok r → EndsUnit j (reached c j).reads r.context
unfolding reached
reached_ends c j r h =
    let t = went (word c j.pc) (λ w. chain (budget + 1) c j w 0) r h in
    let x = chain_ends (budget + 1) c j t.value 0 r (omega arith) t.last in
    let n = word_long c j.pc in
    let l = ap length t.reads ∙ length-append (word c j.pc).reads (chain (budget + 1) c j t.value 0).reads in
    let few = x.few in
    record { pc = x.pc; a = x.a; e = x.e; most = x.most; few = omega arith }

site_by : (j : Job) (reads : List ℕ) (x : Context) (channel : Option ℕ) → EndsUnit j reads x → j.pc < 2 ^ 18 → IfSome channel (λ n. n < 16)
    → SiteFits (site_of x channel reads)
site_by j reads x channel h p n =
    let pc = h.pc in
    record { pc = omega arith; e = h.e; channel = n; used = h.most; room = h.few }

done_fits : (c : Core) (j : Job) (reads : List ℕ) (x : Context) (i : Instruction) (s : Site) → EndsUnit j reads x → j.pc < 2 ^ 18
    → done_by c j reads x i ≡ Called s → SiteFits s
unfolding done_by
done_fits c j reads x Iot s h p e = let is : site_of x (Some x.a) reads ≡ s = cc in subst SiteFits is (site_by j reads x (Some x.a) h p h.a)
done_fits c j reads x Call s h p e = let is : site_of x None reads ≡ s = cc in subst SiteFits is (site_by j reads x None h p tt)
done_fits c j reads x i s h p e = absurd (never_planned c j (row_of c x i) s e)

outcome_fits : (c : Core) (j : Job) (reads : List ℕ) (r : Result Reached Fault) (s : Site)
    → ((q : Reached) → r ≡ Ok q → EndsUnit j reads q.context) → j.pc < 2 ^ 18
    → outcome_at c j reads r ≡ Called s → SiteFits s
outcome_fits c j reads (Ok r) s h p e = done_fits c j reads r.context r.instruction s (h r refl) p e
outcome_fits c j reads (Err f) s h p e = cc

pub site_fits : (c : Core) (j : Job) (s : Site) → j.pc < 2 ^ 18 → unit c j ≡ Called s → SiteFits s
unfolding unit
site_fits c j s p e = outcome_fits c j (reached c j).reads (reached c j).answer s (λ q h. reached_ends c j q h) p e

-- the budget that a call has used, wherever its instruction is
done_used : (c : Core) (j : Job) (reads : List ℕ) (x : Context) (i : Instruction) (s : Site) → EndsUnit j reads x
    → done_by c j reads x i ≡ Called s → s.used ≤ budget
unfolding done_by
done_used c j reads x Iot s h e = let is : site_of x (Some x.a) reads ≡ s = cc in subst (λ (t : Site). t.used ≤ budget) is h.most
done_used c j reads x Call s h e = let is : site_of x None reads ≡ s = cc in subst (λ (t : Site). t.used ≤ budget) is h.most
done_used c j reads x i s h e = absurd (never_planned c j (row_of c x i) s e)

outcome_used : (c : Core) (j : Job) (reads : List ℕ) (r : Result Reached Fault) (s : Site) → ((q : Reached) → r ≡ Ok q → EndsUnit j reads q.context)
    → outcome_at c j reads r ≡ Called s → s.used ≤ budget
outcome_used c j reads (Ok r) s h e = done_used c j reads r.context r.instruction s (h r refl) e
outcome_used c j reads (Err f) s h e = cc

pub site_used : (c : Core) (j : Job) (s : Site) → unit c j ≡ Called s → s.used ≤ budget
unfolding unit
site_used c j s e = outcome_used c j (reached c j).reads (reached c j).answer s (λ q h. reached_ends c j q h) e
