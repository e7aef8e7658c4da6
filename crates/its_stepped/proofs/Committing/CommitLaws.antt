-- The commit of a call, seen as a plain machine, is what the plain machine makes of its decision.
use Rattle.std.specs.Prelude.{if◌then◌else◌, ◌==◌, ◌≡◌, ℕ, ◌%◌, ◌^◌, Bool, true, false, Option, Some, None, IfSome, List, [], ◌∷◌, ◌++◌, map, length, unwrap_or, refl, is_some, option_map}
use Rattle.std.proofs.Common.{sym, ◌∙◌, ap, subst, inl, inr}
use Rattle.its_word.specs.Byte.{deposit_of}
use Rattle.its_word.specs.Core.{Core, word_at, store}
use Rattle.its_records.specs.declared.calls.Ask.{Ask}
use Rattle.its_records.specs.declared.calls.Exit.{Exit}
use Rattle.its_records.specs.declared.calls.Owed.{Owed}
use Rattle.its_records.specs.declared.calls.Owed.TheVariants.{Leave}
use Rattle.its_records.specs.declared.calls.Site.{Site}
use Rattle.its_word.specs.declared.plan.Store.{Store}
use Rattle.its_frame.specs.declared.change.Change.{Change}
use Rattle.its_frame.specs.declared.change.Change.TheVariants as changes
use Rattle.its_frame.specs.declared.decision.Decision.{Decision}
use Rattle.its_frame.specs.declared.decision.Decision.TheVariants.{Waits, Goes, Ends, Gone}
use Rattle.its_frame.specs.declared.decision.Held.{Held}
use Rattle.its_frame.specs.declared.frame.Frame.{Frame}
use Rattle.its_plain.specs.Unit.Interrupt.{deliverable}
use Rattle.its_plain.specs.Machine.{Whole, Machine}
use Rattle.its_plain.specs.Machine.Own.{with_stores, after_leave}
use Rattle.its_plain.specs.Machine.Change.{in_job, effects}
use Rattle.its_plain.specs.Call.Arguments.{input, debts, with_new_values}
use Rattle.its_plain.specs.Call.Decide.{call_named}
use Rattle.its_plain.specs.Call.Step.{deposited, with_held, after_moves, after_end, acted, Transition}
use Rattle.its_plain.specs.Call.Footprint.{in_footprint}
use Rattle.its_word.specs.Stores.{stored}
use Rattle.its_stepped.specs.State.{Part, UnlinkOld, LinkNew, FreeOld, Mark, State, plain, seen, after_owed, with_slot, same, waiting, ending}
use Rattle.its_stepped.specs.Commit.{effects_on, sleeps, stays, after_going_on, owed_part, owed_parts, given_up, owed_store, owed_by, after_commit}
use Rattle.its_stepped.specs.Tick.{reserves}
use Rattle.its_stepped.specs.Sound.{Debts, parts_in_frame}
use Rattle.its_stepped.specs.Duty.{Apart, Within, HeldFits, AllRemain, Going, Ending_by, Duty}
use Rattle.its_stepped.proofs.Frame.FrameLaws.{turned}
use Rattle.its_stepped.proofs.Frame.OverLaws.{overwritten, stored_both, word_apart, store_apart}
use Rattle.its_stepped.proofs.Frame.OwnLaws.{all_remain, frames_kept}
use Rattle.its_stepped.proofs.Committing.EffectLaws.{effects_plain}
use Rattle.its_stepped.proofs.Unwinding.RowLaws.{same_job}

-- a job in a slot whose call can be tried: its last n arguments are pending
pub record Here (v : State) (j : ℕ) (q : Whole) (a : Ask) (n : ℕ) : Type 0 where
  pub job_is : v.raw.jobs j ≡ Some q
  pub seen_is : (p : Whole) → seen (v.frames j) p ≡ with_stores (debts a n) p
  pub parts : parts_in_frame (v.frames j) ≡ []
  pub runs : q.job.stopped ≡ false
  pub quiet : deliverable q.job ≡ false
  pub debts : Debts q.core a n
  pub page : reserves a ≡ is_some (v.reserved j)

pub waits_plain : (w : State) (j : ℕ) (s : Site) (a : Ask) (n : ℕ) → ((p : Whole) → seen (w.frames j) p ≡ with_stores (debts a n) p)
    → plain (with_slot w j same (Some (waiting s a n))) ≡ plain w
unfolding seen
waits_plain w j s a n is = turned w j same same (Some (waiting s a n)) (λ p e. sym (is p)) ∙ same_job (plain w) j

-- a part of a call: the frame after it shows its new words over those that were pending
pub stays_seen : (b : Bool) (s : Site) (a : Ask) (n : ℕ) (p : Whole) → seen (Some (stays b s a n)) p ≡ with_stores (debts a n) p
unfolding seen
stays_seen true s a n p = refl
stays_seen false s a n p = refl

-- the rest has the footprint of the call
pub footprint_same : (b : ℕ) (a : Ask) (vs : List ℕ) → in_footprint b (with_new_values a vs) ≡ in_footprint b a
unfolding in_footprint with_new_values
footprint_same b a vs = refl

with_core : (c d : Core) (p : Whole) → c ≡ d → (let q : Whole = record p { core = c } in q) ≡ record p { core = d }
with_core c d p e = λ t. record p { core = e t }

held_core : (c : Core) (pointer : ℕ) (b : Held) (olds news : List Store) → b.place % 2 ^ 18 ≡ b.place → Apart b.place olds → Within olds news
    → stored (stored c (deposited c pointer b ∷ [])) news ≡ stored (stored (stored c olds) (deposited (stored c olds) pointer b ∷ [])) news
unfolding stored
held_core c pointer b olds news e f h =
    let at : ℕ = b.place % 2 ^ 18 in
    let word : Core → ℕ = λ (d : Core). deposit_of pointer (unwrap_or (word_at d b.place) 0) b.byte in
    let same_word : word (stored c olds) ≡ word c = ap (λ (o : Option ℕ). deposit_of pointer (unwrap_or o 0) b.byte) (word_apart c b.place olds f) in
    let apart : Apart at olds = subst (λ (p : ℕ). Apart p olds) (sym e) f in
    sym
    (ap (λ (w : ℕ). stored (store (stored c olds) at w) news) same_word
    ∙ ap (λ (d : Core). stored d news) (store_apart c at (word c) olds apart)
    ∙ overwritten (store c at (word c)) olds news h)

pub goes_seen : (c : Core) (s : Site) (a : Ask) (n : ℕ) (olds : List Store) (b : Option Held) (p : Whole) → Within olds (debts a n)
    → IfSome b (HeldFits c olds n)
    → seen (Some (after_going_on s a n b)) p ≡ with_stores (debts a n) (with_held a b (with_stores olds p))
unfolding seen
goes_seen c s a n olds None p h f = stays_seen (sleeps (call_named a.name)) s a n p ∙ with_core _ _ p (sym (overwritten p.core olds (debts a n) h))
goes_seen c s a n olds (Some b) p h f =
    with_core _ _ p
    (ap (λ (k : ℕ). stored (stored p.core (deposited p.core (input a 1) b ∷ [])) (debts a k)) (sym f.two)
    ∙ held_core p.core (input a 1) b olds (debts a n) f.placed f.apart h)

pub goes_plain : (v : State) (j : ℕ) (own : Whole) (s : Site) (a : Ask) (n : ℕ) (cs : List Change) (b : Option Held) (vs : List ℕ)
    → ((p : Whole) → seen (v.frames j) p ≡ with_stores (debts a n) p) → Going v j own s a n cs b vs
    → plain (with_slot (effects_on cs j v) j same (Some (after_going_on s (with_new_values a vs) (length vs) b))) ≡ in_job
    (effects cs j (plain v)) j (after_moves a b vs)
goes_plain v j own s a n cs b vs is g =
    let frames = frames_kept cs j v (all_remain cs j v g.spare) in
    turned (effects_on cs j v) j same (after_moves a b vs) (Some (after_going_on s (with_new_values a vs) (length vs) b))
    (λ p e.
    goes_seen own.core s (with_new_values a vs) (length vs) (debts a n) b p g.within g.held
    ∙ ap (after_moves a b vs) (sym (ap (λ (o : Option Frame). seen o p) frames ∙ is p)))
    ∙ ap (λ (m : Machine). in_job m j (after_moves a b vs)) (effects_plain cs j v g.quiet)

-- the end of a call: its pending steps write its own words and its registers
parts_made_none : (ps : List Part) (os : List Owed) (p : Whole) → after_owed (map owed_part ps ++ os) p ≡ after_owed os p
parts_made_none [] os p = refl
parts_made_none (UnlinkOld ∷ ps) os p = parts_made_none ps os p
parts_made_none (LinkNew ∷ ps) os p = parts_made_none ps os p
parts_made_none (FreeOld ∷ ps) os p = parts_made_none ps os p

mark_made_none : (m : Option Mark) (j : ℕ) (os : List Owed) (p : Whole) → after_owed (owed_parts m j ++ os) p ≡ after_owed os p
mark_made_none None j os p = refl
mark_made_none (Some m) j os p = go (m.owner == j)
  where
    go : (b : Bool) → after_owed ((if b then map owed_part m.parts else []) ++ os) p ≡ after_owed os p
    go true = parts_made_none m.parts os p
    go false = refl

given_made_none : (r : Option ℕ) (os : List Owed) (p : Whole) → after_owed (given_up r ++ os) p ≡ after_owed os p
given_made_none None os p = refl
given_made_none (Some n) os p = refl

stores_made : (ss : List Store) (e : Exit) (p : Whole) → after_owed (map owed_store ss ++ Leave e ∷ []) p ≡ after_leave e (with_stores ss p)
unfolding stored
stores_made [] e p = refl
stores_made (s ∷ ss) e p = stores_made ss e (with_stores (s ∷ []) p)

ends_seen : (v : State) (j : ℕ) (s : Site) (a : Ask) (ds ss : List Store) (e : Exit) (p : Whole)
    → seen (Some (ending s a (owed_by v j (ds ++ ss) e))) p ≡ after_end ss (after_leave e) (with_stores ds p)
unfolding seen
ends_seen v j s a ds ss e p =
    mark_made_none v.mark j _ p ∙ given_made_none (v.reserved j) _ p ∙ stores_made (ds ++ ss) e p
    ∙ ap (after_leave e) (with_core _ _ p (stored_both p.core ds ss))

pub ending_remains : (v : State) (j : ℕ) (own : Whole) (n : ℕ) (cs : List Change) (ss : List Store) → Ending_by v j own n cs ss → AllRemain cs j v
ending_remains v j own n cs ss h = elim h.stores [ inl x ↦ all_remain cs j v x.0 | inr x ↦ x.0 ]

pub ends_plain : (v : State) (j : ℕ) (own : Whole) (s : Site) (a : Ask) (n : ℕ) (cs : List Change) (ss : List Store) (e : Exit)
    → ((p : Whole) → seen (v.frames j) p ≡ with_stores (debts a n) p) → Ending_by v j own n cs ss
    → plain (with_slot (effects_on cs j v) j same (Some (ending s a (owed_by (effects_on cs j v) j (debts a n ++ ss) e))))
    ≡ in_job (effects cs j (plain v)) j (after_end ss (after_leave e))
ends_plain v j own s a n cs ss e is h =
    let frames = frames_kept cs j v (ending_remains v j own n cs ss h) in
    turned (effects_on cs j v) j same (after_end ss (after_leave e)) (Some (ending s a (owed_by (effects_on cs j v) j (debts a n ++ ss) e)))
    (λ p t.
    ends_seen (effects_on cs j v) j s a (debts a n) ss e p
    ∙ ap (after_end ss (after_leave e)) (sym (ap (λ (o : Option Frame). seen o p) frames ∙ is p)))
    ∙ ap (λ (m : Machine). in_job m j (after_end ss (after_leave e))) (effects_plain cs j v h.quiet)

-- every decision that is carried out
abbrev pub Acts : Decision → Type 0
Acts (Waits r) = ⊥
Acts _ = Unit {0}

pub committed_plain : (v : State) (j : ℕ) (own : Whole) (s : Site) (a : Ask) (n : ℕ) (ks : List ℕ) (d : Decision)
    → ((p : Whole) → seen (v.frames j) p ≡ with_stores (debts a n) p) → Duty v j own s a n d → Acts d
    → option_map (λ (t : Transition). t.machine) (acted (plain v) j a ks d) ≡ Some (plain (after_commit v j s a n d))
unfolding after_commit acted
committed_plain v j own s a n ks (Waits r) is h t = absurd t
committed_plain v j own s a n ks (Goes cs b vs) is h t = ap Some (sym (goes_plain v j own s a n cs.items b vs.items is h))
committed_plain v j own s a n ks (Ends cs ss e) is h t = ap Some (sym (ends_plain v j own s a n cs.items ss.items e is h))
committed_plain v j own s a n ks (Gone cs) is h t = ap Some (sym (effects_plain (changes.Remove j ∷ cs.items) j v h.quiet))
