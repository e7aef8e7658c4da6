-- A commit keeps the state sound.
use Rattle.std.specs.Prelude.{◌≡◌, ◌≢◌, ◌≤◌, ◌<◌, ◌^◌, ℕ, ◌+◌, Bool, true, false, Option, Some, None, IfSome, List, [], ◌∷◌, ◌++◌, length, option_map, refl, is_some}
use Rattle.std.proofs.Common.{sym, ◌∙◌, ap, subst, inl, inr, arith}
use Rattle.std.proofs.lemmas.Bool.{cases_eq, eq-eqb}
use Rattle.std.proofs.lemmas.Nat.{mod_below}
use Rattle.its_word.specs.Byte.{has_size}
use Rattle.its_word.specs.Core.{Core, can_store}
use Rattle.its_records.specs.declared.calls.Ask.{Ask}
use Rattle.its_records.specs.declared.calls.Exit.{Exit}
use Rattle.its_records.specs.declared.calls.Site.{Site}
use Rattle.its_records.specs.declared.jobs.Job.{Job}
use Rattle.its_word.specs.declared.plan.Store.{Store}
use Rattle.its_frame.specs.Left.{kept}
use Rattle.its_frame.specs.declared.change.Change.{Change}
use Rattle.its_frame.specs.declared.change.Change.TheVariants as changes
use Rattle.its_frame.specs.declared.decision.Decision.{Decision}
use Rattle.its_frame.specs.declared.decision.Decision.TheVariants.{Waits, Goes, Ends, Gone}
use Rattle.its_frame.specs.declared.decision.Held.{Held}
use Rattle.its_frame.specs.declared.frame.Frame.{Frame}
use Rattle.its_frame.specs.declared.name.CallName.{CallName}
use Rattle.its_frame.specs.declared.name.CallName.TheVariants.{Sleep}
use Rattle.its_plain.specs.Unit.Interrupt.{deliverable}
use Rattle.its_plain.specs.Machine.{Whole, changed}
use Rattle.its_plain.specs.Machine.Own.{with_stores}
use Rattle.its_plain.specs.Machine.Change.{on_slot, is_gone, superiors}
use Rattle.its_plain.specs.Call.Arguments.{input, in_footprint, debts, with_new_values}
use Rattle.its_plain.specs.Call.Decide.{call_named}
use Rattle.its_plain.specs.Call.Step.{deposited, with_held}
use Rattle.its_word.specs.Stores.{stored}
use Rattle.its_stepped.specs.State.{State, seen, with_slot, same, waiting, ending}
use Rattle.its_stepped.specs.Commit.{effect_on, effects_on, sleeps, stays, after_going_on, owed_parts, owed_by, after_commit}
use Rattle.its_stepped.specs.Tick.{reserves}
use Rattle.its_stepped.specs.Sound.{Stuck, Stands, Stored, Debts, IsWaitable, Transfers, WaitingPays, SoundFrame, SoundBy, SoundSlot, MarkBy, Sound}
use Rattle.its_stepped.specs.Quiet.{AllQuiet}
use Rattle.its_stepped.specs.Duty.{HeldFits, Waiting_by, Going, Ending_by, Leaving, Duty, parts_in}
use Rattle.its_stepped.proofs.Ticking.WaitLaws.{GoesBy, stuck_sleep}
use Rattle.its_stepped.proofs.Frame.FrameLaws.{changed_only, on_slot_here, on_slot_other}
use Rattle.its_stepped.proofs.Frame.OverLaws.{can_stored, stored_alike, debts_alike}
use Rattle.its_stepped.proofs.Frame.OwnLaws.{Sees, own_of, job_of, spared, job_kept, frames_none, reserved_none, reserved_less}
use Rattle.its_stepped.proofs.Frame.OwedLaws.{owed_length, owed_owes, owed_backs, owed_first}
use Rattle.its_stepped.proofs.Frame.PageLaws.{revalued_reserves_none}
use Rattle.its_stepped.proofs.Frame.MarkLaws.{Marking, marking_begins, marking_within, marking_all, mark_ended, mark_gone_on, mark_left}
use Rattle.its_stepped.proofs.Committing.CommitLaws.{Here, Acts, stays_seen, goes_seen, footprint_same}
use Rattle.its_stepped.proofs.Committing.EffectLaws.{effects_sound}

-- a slot with the same contents
pub slot_sound : (o p : Option Whole) (f g : Option Frame) (r t : Option ℕ) → p ≡ o → g ≡ f → t ≡ r → SoundSlot o f r → SoundSlot p g t
slot_sound o p f g r t a b c h = subst (λ (x : Option Whole). SoundSlot x g t) (sym a)
    (subst (λ (x : Option Frame). SoundSlot o x t) (sym b) (subst (λ (x : Option ℕ). SoundSlot o f x) (sym c) h))

-- a slot in user mode
pub user_sound : (o : Option Whole) (f : Option Frame) (r : Option ℕ) → f ≡ None → r ≡ None → SoundSlot o f r
user_sound o f r a b = slot_sound o o None f None r refl a b (record { by = go o })
  where
    go : (o : Option Whole) → SoundBy o None None
    go None = (refl, refl)
    go (Some q) = refl

-- one slot turned
pub with_slot_sound : (v : State) (j : ℕ) (h : Whole → Whole) (f : Option Frame) → ((k : ℕ) → k ≢ j → SoundSlot (v.raw.jobs k) (v.frames k) (v.reserved k))
    → SoundSlot (option_map h (v.raw.jobs j)) f (v.reserved j) → IfSome v.mark (λ m. MarkBy m (changed v.frames j f)) → Sound (with_slot v j h f)
with_slot_sound v j h f others here mark = record {
  each = λ k. elim (cases_eq k j) [
    | inl e ↦ subst (λ (i : ℕ). SoundSlot (on_slot v.raw.jobs j h i) (changed v.frames j f i) (v.reserved i)) (sym e)
        (slot_sound (option_map h (v.raw.jobs j)) _ f _ (v.reserved j) _ (on_slot_here v.raw.jobs j h) (changed_only v.frames j f).here refl here)
    | inr ne ↦ slot_sound (v.raw.jobs k) _ (v.frames k) _ (v.reserved k) _ (on_slot_other v.raw.jobs j k h ne)
        ((changed_only v.frames j f).others k ne) refl (others k ne)
  ];
  mark = mark;
}

-- other slots through the changes of a call
pub others_sound : (cs : List Change) (j : ℕ) (w : State) → AllQuiet cs j w → ((k : ℕ) → k ≢ j → SoundSlot (w.raw.jobs k) (w.frames k) (w.reserved k))
    → (k : ℕ) → k ≢ j → SoundSlot ((effects_on cs j w).raw.jobs k) ((effects_on cs j w).frames k) ((effects_on cs j w).reserved k)
others_sound cs j w q h k ne = effects_sound cs j w k q ne (h k ne)

-- a call that waits
waiting_frame : (q : Whole) (s : Site) (a : Ask) (n : ℕ) (r : Option ℕ) → q.job.stopped ≡ false → deliverable q.job ≡ false
    → Stands (stored q.core (debts a n)) q.job s a → WaitingPays q.core r a n → Stuck (with_stores (debts a n) q) a → SoundFrame q (waiting s a n) r
unfolding seen
waiting_frame q s a n r runs quiet stands pays stuck = record { runs = runs; quiet = quiet; standing = stands; pays = pays; stuck = stuck }

pub waits_sound : (w : State) (j : ℕ) (q : Whole) (s : Site) (a : Ask) (n : ℕ) → Sound w → Here w j q a n
    → Stands (stored q.core (debts a n)) q.job s a → Waiting_by w j a
    → Stuck (with_stores (debts a n) q) a → Sound (with_slot w j same (Some (waiting s a n)))
waits_sound w j q s a n sound h stands d stuck =
    with_slot_sound w j same (Some (waiting s a n)) (λ k ne. sound.each k)
    (slot_sound (Some q) _ (Some (waiting s a n)) _ (w.reserved j) _ (ap (option_map same) h.job_is) refl refl
    (record { by = waiting_frame q s a n (w.reserved j) h.runs h.quiet stands (record { debts = h.debts; page_is = d.page; waitable = d.waitable }) stuck }))
    (mark_gone_on j w.frames (Some (waiting s a n)) w.mark (marking_begins j w.mark w.frames sound.mark h.parts))

-- the caller as its changes leave it
pub record Caller (v : State) (j : ℕ) (c : Core) (k : Job) (ss : List Store) : Type 0 where
  pub whole : Whole
  pub is : v.raw.jobs j ≡ Some whole
  pub job : whole.job ≡ k
  pub stores : Stored whole.core ss

no_stores : (ss : List Store) (n : ℕ) → length ss ≡ n → n ≡ 0 → ss ≡ []
no_stores [] n e z = refl
no_stores (s ∷ ss) n e z = absurd (omega arith)

stored_all : (c : Core) (xs ys : List Store) → Stored c xs → Stored c ys → Stored c (xs ++ ys)
stored_all c [] ys h k = k
stored_all c (x ∷ xs) ys h k = (h.0, stored_all c xs ys h.1 k)

caller_spared : (cs : List Change) (j : ℕ) (v : State) (q : Whole) (ds ss : List Store) → Sees own_of ((effects_on cs j v).raw.jobs j) (own_of q)
    → Stored q.core ds → Stored (stored q.core ds) ss → Caller (effects_on cs j v) j q.core q.job (ds ++ ss)
caller_spared cs j v q ds ss x h k = record {
  whole = x.whole;
  is = x.is;
  job = ap (λ (p : Core × Job). p.1) x.same;
  stores = subst (λ (c : Core). Stored c (ds ++ ss)) (sym (ap (λ (p : Core × Job). p.0) x.same))
      (stored_all q.core ds ss h (stored_alike (stored q.core ds) q.core ss (λ p. sym (can_stored q.core ds p)) k));
}

caller_kept : (cs : List Change) (j : ℕ) (v : State) (q : Whole) (ts : List Store) → Sees job_of ((effects_on cs j v).raw.jobs j) (job_of q) → ts ≡ []
    → Caller (effects_on cs j v) j q.core q.job ts
caller_kept cs j v q ts x e = record {
  whole = x.whole;
  is = x.is;
  job = x.same;
  stores = subst (λ (us : List Store). Stored x.whole.core us) (sym e) tt;
}

both_none : (xs ys : List Store) → xs ≡ [] → ys ≡ [] → xs ++ ys ≡ []
both_none xs ys e f = ap (λ (zs : List Store). zs ++ ys) e ∙ f

caller_ends : (v : State) (j : ℕ) (q : Whole) (a : Ask) (n : ℕ) (cs : List Change) (ss : List Store) → Here v j q a n
    → Ending_by v j (with_stores (debts a n) q) n cs ss → Caller (effects_on cs j v) j q.core q.job (debts a n ++ ss)
caller_ends v j q a n cs ss h d = elim d.stores [
  | inl x ↦ caller_spared cs j v q (debts a n) ss (spared cs j v q x.0 h.job_is) h.debts.stored x.1
  | inr x ↦ caller_kept cs j v q (debts a n ++ ss) (job_kept cs j v q x.0 h.job_is) (both_none (debts a n) ss (no_stores (debts a n) n h.debts.read x.1) x.2)
]

length_both : (xs ys : List Store) → length (xs ++ ys) ≡ length xs + length ys
length_both [] ys = omega arith
length_both (x ∷ xs) ys = let h = length_both xs ys in omega arith

ending_few : (v w : State) (j most : ℕ) (ds ss : List Store) (e : Exit) → length (owed_parts w.mark j) ≤ most → kept (w.reserved j) ≤ kept (v.reserved j)
    → most + kept (v.reserved j) + length ds + length ss ≤ 3 → length (owed_by w j (ds ++ ss) e) ≤ 4
ending_few v w j most ds ss e a b c =
    let len = owed_length w j (ds ++ ss) e in
    let both = length_both ds ss in
    omega arith

ending_frame : (w : State) (j : ℕ) (p : Whole) (s : Site) (a : Ask) (ss : List Store) (e : Exit) → p.job.stopped ≡ false
    → deliverable p.job ≡ false → Stored p.core ss
    → length (owed_by w j ss e) ≤ 4 → SoundFrame p (ending s a (owed_by w j ss e)) (w.reserved j)
ending_frame w j p s a ss e runs quiet stores few = record {
  runs = runs;
  quiet = quiet;
  standing = tt;
  pays = record { owes = owed_owes p.core w j ss e stores; few = few; page_is = owed_backs w j ss e; files_first = owed_first w j ss e };
  stuck = tt;
}

pub ends_sound : (v : State) (j : ℕ) (q : Whole) (s : Site) (a : Ask) (n : ℕ) (cs : List Change) (ss : List Store) (e : Exit) → Sound v → Here v j q a n
    → Ending_by v j (with_stores (debts a n) q) n cs ss
    → Sound (with_slot (effects_on cs j v) j same (Some (ending s a (owed_by (effects_on cs j v) j (debts a n ++ ss) e))))
ends_sound v j q s a n cs ss e sound h d =
    let w = effects_on cs j v in
    let marks : Marking j w.mark w.frames (parts_in cs + 0) = marking_all cs j v 0 d.quiet (marking_begins j v.mark v.frames sound.mark h.parts) in
    let caller = caller_ends v j q a n cs ss h d in
    let few : length (owed_by w j (debts a n ++ ss) e) ≤ 4 =
    ending_few v w j (parts_in cs + 0) (debts a n) ss e marks.few (reserved_less cs j v j) (let f = d.few in let r = h.debts.read in omega arith) in
    with_slot_sound w j same (Some (ending s a (owed_by w j (debts a n ++ ss) e)))
    (others_sound cs j v d.quiet (λ k ne. sound.each k))
    (slot_sound (Some caller.whole) _ (Some (ending s a (owed_by w j (debts a n ++ ss) e))) _ (w.reserved j) _ (ap (option_map same) caller.is) refl refl
    (record {
      by = ending_frame w j caller.whole s a (debts a n ++ ss) e (ap (λ (k : Job). k.stopped) caller.job ∙ h.runs)
          (ap deliverable caller.job ∙ h.quiet) caller.stores few;
    }))
    (mark_ended w j (parts_in cs + 0) s a (debts a n ++ ss) e w.mark refl marks)

-- the caller's removal
gone_here : (sup : ℕ → Option ℕ) (j : ℕ) → is_gone sup j j ≡ true
gone_here sup j = rw (eq-eqb j j refl) refl

removed_none : (j : ℕ) (v : State) → (effect_on (changes.Remove j) j v).frames j ≡ None
unfolding effect_on
removed_none j v = rw (gone_here (superiors v.raw) j) refl

removed_page : (j : ℕ) (v : State) → (effect_on (changes.Remove j) j v).reserved j ≡ v.reserved j
unfolding effect_on
removed_page j v = refl

pub gone_sound : (v : State) (j : ℕ) (q : Whole) (a : Ask) (n : ℕ) (cs : List Change) → Sound v → Here v j q a n → Leaving v j cs
    → Sound (effects_on (changes.Remove j ∷ cs) j v)
gone_sound v j q a n cs sound h d =
    let all : List Change = changes.Remove j ∷ cs in
    let v1 = effect_on (changes.Remove j) j v in
    let w = effects_on cs j v1 in
    let marks = marking_all all j v 0 d.quiet (marking_begins j v.mark v.frames sound.mark h.parts) in
    let none : w.frames j ≡ None = frames_none cs j v1 j (removed_none j v) in
    let page : w.reserved j ≡ None = reserved_none cs j v1 j (removed_page j v ∙ d.page) in
    let parts : parts_in cs ≡ 0 = d.closes in
    record {
      each = λ k. elim (cases_eq k j) [
        | inl e ↦ user_sound (w.raw.jobs k) (w.frames k) (w.reserved k) (ap w.frames e ∙ none) (ap w.reserved e ∙ page)
        | inr ne ↦ others_sound all j v d.quiet (λ i no. sound.each i) k ne
      ];
      mark = mark_left j w.frames w.mark (marking_within j w.mark w.frames (parts_in all + 0) 0 (omega arith) marks);
    }

-- a part of a call
waitable_sleep : (o : Option CallName) → sleeps o ≡ true → IsWaitable o
waitable_sleep None h = absurd cc
waitable_sleep (Some Sleep) h = tt
waitable_sleep (Some c) h = absurd cc

is_sleep : (o : Option CallName) → sleeps o ≡ true → o ≡ Some Sleep
is_sleep None h = absurd cc
is_sleep (Some Sleep) h = refl
is_sleep (Some c) h = absurd cc

stays_frame : (b : Bool) (q : Whole) (s : Site) (a : Ask) (n : ℕ) (r : Option ℕ) → sleeps (call_named a.name) ≡ b → q.job.stopped ≡ false
    → deliverable q.job ≡ false
    → Stands (stored q.core (debts a n)) q.job s a → Debts q.core a n → r ≡ None → reserves a ≡ false → a.fail ≡ 0 → SoundFrame q (stays b s a n) r
unfolding seen
stays_frame true q s a n r e runs quiet stands d page none fine = record {
  runs = runs;
  quiet = quiet;
  standing = stands;
  pays = record { debts = d; page_is = page; waitable = waitable_sleep (call_named a.name) e };
  stuck = stuck_sleep (with_stores (debts a n) q) a (is_sleep (call_named a.name) e) fine;
}
stays_frame false q s a n r e runs quiet stands d page none fine = record {
  runs = runs;
  quiet = quiet;
  standing = stands;
  pays = record { debts = d; page_is = page; paged = tt; has = none };
  stuck = tt;
}

-- the frame after it, of a caller with the core and registers that it had
on_frame : (q : Whole) (s : Site) (a : Ask) (n : ℕ) (olds : List Store) (b : Option Held) (r : Option ℕ) → q.job.stopped ≡ false → deliverable q.job ≡ false
    → seen (Some (after_going_on s a n b)) q ≡ with_stores (debts a n) (with_held a b (with_stores olds q)) → IfSome b (HeldFits (stored q.core olds) olds n)
    → IfSome b (λ x. has_size (input a 1) ≡ true) → IfSome b (λ x. Transfers a) → IfSome b (λ x. in_footprint x.place a ≡ false)
    → Stands (with_stores (debts a n) (with_held a b (with_stores olds q))).core
    (with_stores (debts a n) (with_held a b (with_stores olds q))).job s a → Debts q.core a n → r ≡ None
    → reserves a ≡ false → a.fail ≡ 0 → SoundFrame q (after_going_on s a n b) r
unfolding seen
on_frame q s a n olds None r runs quiet is f size moves out stands d page none fine =
    stays_frame (sleeps (call_named a.name)) q s a n r refl runs quiet
    (subst (λ (p : Whole). Stands p.core p.job s a) (sym is ∙ stays_seen (sleeps (call_named a.name)) s a n q) stands) d page none fine
on_frame q s a n olds (Some b) r runs quiet is f size moves out stands d page none fine = record {
  runs = runs;
  quiet = quiet;
  standing = subst (λ (p : Whole). Stands p.core p.job s a) (sym is) stands;
  pays = record {
    debts = subst (λ (k : ℕ). Debts q.core a k) f.two d;
    page_is = page;
    place = ap (can_store q.core) f.placed ∙ sym (can_stored q.core olds b.place) ∙ f.can;
    within = subst (λ (k : ℕ). k < 2 ^ 18) f.placed (mod_below b.place (2 ^ 18) (omega arith));
    size = size;
    transfers = moves;
    apart = out;
  };
  stuck = tt;
}

-- the rest is of the same call
revalued_fine : (a : Ask) (vs : List ℕ) → a.fail ≡ 0 → (with_new_values a vs).fail ≡ 0
unfolding with_new_values
revalued_fine a vs fine = fine

transfers_rest : (b : Option Held) (a : Ask) (vs : List ℕ) → IfSome b (λ x. Transfers a) → IfSome b (λ x. Transfers (with_new_values a vs))
unfolding with_new_values
transfers_rest None a vs h = tt
transfers_rest (Some b) a vs h = record { siot = h.siot; no_error = h.no_error }

-- the word of a held byte is outside the footprint of the rest
outside_rest : (b : Option Held) (a : Ask) (vs : List ℕ) → IfSome b (λ x. in_footprint x.place a ≡ false)
    → IfSome b (λ x. in_footprint x.place (with_new_values a vs) ≡ false)
outside_rest None a vs h = tt
outside_rest (Some b) a vs h = footprint_same b.place a vs ∙ h

stands_from : (f : Core → Core) (c d : Core) (k i : Job) (s : Site) (a : Ask) → c ≡ d → k ≡ i → Stands (f d) i s a → Stands (f c) k s a
stands_from f c d k i s a e t h = subst (λ (x : Core). Stands (f x) k s a) (sym e) (subst (λ (x : Job). Stands (f d) x s a) (sym t) h)

pub goes_sound : (v : State) (j : ℕ) (q : Whole) (s : Site) (a : Ask) (n : ℕ) (cs : List Change) (b : Option Held) (vs : List ℕ) → Sound v → Here v j q a n
    → Going v j (with_stores (debts a n) q) s a n cs b vs → a.fail ≡ 0
    → Sound (with_slot (effects_on cs j v) j same (Some (after_going_on s (with_new_values a vs) (length vs) b)))
goes_sound v j q s a n cs b vs sound h d fine =
    let w = effects_on cs j v in
    let k = with_new_values a vs in
    let m : ℕ = length vs in
    let olds = debts a n in
    let marks = marking_all cs j v 0 d.quiet (marking_begins j v.mark v.frames sound.mark h.parts) in
    let closes : parts_in cs ≡ 0 = d.closes in
    let x = spared cs j v q d.spare h.job_is in
    let core : x.whole.core ≡ q.core = ap (λ (p : Core × Job). p.0) x.same in
    let job : x.whole.job ≡ q.job = ap (λ (p : Core × Job). p.1) x.same in
    with_slot_sound w j same (Some (after_going_on s k m b))
    (others_sound cs j v d.quiet (λ i ne. sound.each i))
    (slot_sound (Some x.whole) _ (Some (after_going_on s k m b)) _ (w.reserved j) _ (ap (option_map same) x.is) refl refl
    (record {
      by = on_frame x.whole s k m olds b (w.reserved j)
          (ap (λ (i : Job). i.stopped) job ∙ h.runs)
          (ap deliverable job ∙ h.quiet)
          (goes_seen (stored q.core olds) s k m olds b x.whole d.within d.held)
          (subst (λ (c : Core). IfSome b (HeldFits (stored c olds) olds m)) (sym core) d.held)
          d.size
          (transfers_rest b a vs d.transfers)
          (outside_rest b a vs d.outside)
          (stands_at b x.whole q s k m olds core job d.stands)
          (debts_alike (stored q.core olds) x.whole.core k m (λ p. ap (λ (c : Core). can_store c p) core ∙ sym (can_stored q.core olds p)) d.debts)
          (reserved_none cs j v j d.page)
          (revalued_reserves_none a vs d.debts.few (h.page ∙ ap is_some d.page))
          (revalued_fine a vs fine);
    }))
    (mark_gone_on j w.frames (Some (after_going_on s k m b)) w.mark (marking_within j w.mark w.frames (parts_in cs + 0) 0 (omega arith) marks))
  where
    stands_at : (b : Option Held) (p q : Whole) (s : Site) (a : Ask) (n : ℕ) (olds : List Store) → p.core ≡ q.core → p.job ≡ q.job
        → Stands (with_stores (debts a n) (with_held a b (with_stores olds q))).core (with_stores olds q).job s a
        → Stands (with_stores (debts a n) (with_held a b (with_stores olds p))).core (with_stores (debts a n) (with_held a b (with_stores olds p))).job s a
    stands_at None p q s a n olds e f h = stands_from (λ c. stored (stored c olds) (debts a n)) p.core q.core p.job q.job s a e f h
    stands_at (Some b) p q s a n olds e f h =
        stands_from (λ c. stored (stored (stored c olds) (deposited (stored c olds) (input a 1) b ∷ [])) (debts a n)) p.core q.core p.job q.job s a e f h

-- every decision that is carried out
pub committed_sound : (v : State) (j : ℕ) (q : Whole) (s : Site) (a : Ask) (n : ℕ) (d : Decision) → Sound v → Here v j q a n
    → Duty v j (with_stores (debts a n) q) s a n d → Acts d → (GoesBy d → a.fail ≡ 0) → Sound (after_commit v j s a n d)
unfolding after_commit
committed_sound v j q s a n (Waits r) sound h d t fine = absurd t
committed_sound v j q s a n (Goes cs b vs) sound h d t fine = goes_sound v j q s a n cs.items b vs.items sound h d (fine tt)
committed_sound v j q s a n (Ends cs ss e) sound h d t fine = ends_sound v j q s a n cs.items ss.items e sound h d
committed_sound v j q s a n (Gone cs) sound h d t fine = gone_sound v j q a n cs.items sound h d
