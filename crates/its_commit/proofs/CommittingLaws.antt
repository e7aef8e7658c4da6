-- A decision that is carried out is its commit.
use Rattle.std.specs.Prelude.{if◌then◌else◌, ◌≡◌, ◌==◌, ◌≤◌, ◌+◌, ℕ, Bool, true, false, Option, Some, None, IfSome, is_some, option_map, List, [], ◌∷◌, ◌++◌, length, map, refl}
use Rattle.std.proofs.Common.{sym, ap, ◌∙◌, subst, arith}
use Rattle.std.proofs.lemmas.Bool.{eq-eqb}
use Rattle.its_core.specs.Cores.{clear_at}
use Rattle.its_records.specs.declared.calls.Ask.{Ask}
use Rattle.its_records.specs.declared.calls.Exit.{Exit}
use Rattle.its_records.specs.declared.calls.Owed.{Owed}
use Rattle.its_records.specs.declared.calls.Owed.TheVariants.{Leave}
use Rattle.its_word.specs.declared.plan.Store.{Store}
use Rattle.its_files.specs.Files.{Store as Files, parts_owed, owed}
use Rattle.its_files.specs.declared.entry.Mark.{Mark as FilesMark}
use Rattle.its_files.specs.declared.entry.Parts.{Parts}
use Rattle.its_files.specs.declared.entry.Parts.TheVariants.{Replace, Link, Free}
use Rattle.its_jobs.specs.Table.{job_at}
use Rattle.its_frame.specs.Left.{kept}
use Rattle.its_frame.specs.declared.change.Change.{Change}
use Rattle.its_frame.specs.declared.change.Change.TheVariants as changes
use Rattle.its_frame.specs.declared.decision.Decision.{Decision}
use Rattle.its_frame.specs.declared.decision.Decision.TheVariants.{Waits, Goes, Ends, Gone}
use Rattle.its_frame.specs.declared.decision.Held.{Held}
use Rattle.its_frame.specs.declared.decision.Wait.{Wait}
use Rattle.its_frame.specs.declared.frame.Frame.{Frame}
use Rattle.its_frame.specs.declared.frame.Holding.{Holding}
use Rattle.its_plain.specs.Call.Arguments.{debts, with_new_values}
use Rattle.its_plain.specs.Machine.Change.{superiors, is_gone, after_removal, inferior, effect}
use Rattle.its_plain.specs.Machine.{changed}
use Rattle.its_stepped.specs.Commit.{effect_on, effects_on, after_commit, after_going_on, owed_by, given_up, owed_part, owed_parts, owed_store}
use Rattle.its_stepped.specs.State.{State, mine, with_slot, same, ending, waiting}
use Rattle.its_commit.specs.Built.{CanMake, CanMakeAll, backed}
use Rattle.its_commit.specs.Carried.{standing_of, CanCommit, Endable}
use Rattle.its_world.specs.World.{state_of, marking, mark_of, parts_left, frame_at, FrameBecomes}
use Rattle.its_world.specs.declared.world.World.{World}
use Rattle.its_world.proofs.StateLaws.{kept_slot}
use Rattle.its_world.proofs.StorageLaws.{raw_has}
use Rattle.its_stepped.proofs.Keeping.ForestLaws.{left_some}

-- changes that can be made leave the caller there, with its frame; it reserves no page beside the
-- one that it has
pub record Mild (old new : State) (j : ℕ) : Type 0 where
  pub job : is_some (old.raw.jobs j) ≡ true → is_some (new.raw.jobs j) ≡ true
  pub frame : new.frames j ≡ old.frames j
  pub page : kept (new.reserved j) ≤ kept (old.reserved j)

slot_some : {X : Type 0} (f : X → X) (b : Bool) (o : Option X) → is_some o ≡ true → is_some (if b then option_map f o else o) ≡ true
slot_some f true (Some x) h = refl
slot_some f true None h = h
slot_some f false o h = h

made_some : {X : Type 0} (x : X) (b : Bool) (o : Option X) → is_some o ≡ true → is_some (if b then Some x else o) ≡ true
made_some x true o h = refl
made_some x false o h = h

-- a page that is made is the one that the caller had reserved
at_most : {m n : ℕ} → m ≡ n → m ≤ n
at_most e = omega arith

taken_page : (reserved : ℕ → Option ℕ) (j : ℕ) → kept (changed reserved j None j) ≤ kept (reserved j)
taken_page reserved j = rw (eq-eqb j j refl) (omega arith)

one_mild : (c : Change) (j : ℕ) (w : State) → CanMake c j w → Mild w (effect_on c j w) j
unfolding effect_on effect after_removal
one_mild (changes.Inform s) j w b = record { job = λ h. slot_some _ (j == s) (w.raw.jobs j) h; frame = refl; page = at_most refl }
one_mild (changes.Set s v x) j w b = record { job = λ h. slot_some _ (j == s) (w.raw.jobs j) h; frame = refl; page = at_most refl }
one_mild (changes.Take n) j w b = record { job = λ h. h; frame = refl; page = at_most refl }
one_mild (changes.Put n x) j w b = record { job = λ h. h; frame = refl; page = at_most refl }
one_mild (changes.Hold n s) j w b = record { job = λ h. h; frame = refl; page = at_most refl }
one_mild (changes.Send l x) j w b = record { job = λ h. h; frame = refl; page = at_most refl }
one_mild (changes.Receive l) j w b = record { job = λ h. h; frame = refl; page = at_most refl }
one_mild (changes.Poke s at x) j w b = record { job = λ h. slot_some _ (j == s) (w.raw.jobs j) h; frame = refl; page = at_most refl }
one_mild (changes.Map s k) j w b = record { job = λ h. slot_some _ (j == s) (w.raw.jobs j) h; frame = refl; page = taken_page w.reserved j }
one_mild (changes.Unmap s k) j w b = record { job = λ h. slot_some _ (j == s) (w.raw.jobs j) h; frame = refl; page = at_most refl }
one_mild (changes.Protect s k x) j w b = record { job = λ h. slot_some _ (j == s) (w.raw.jobs j) h; frame = refl; page = at_most refl }
one_mild (changes.Make s u n) j w b = record {
  job = λ h. made_some (inferior j (w.raw.jobs j) u n) (j == s) (w.raw.jobs j) h;
  frame = refl;
  page = at_most refl;
}
one_mild (changes.Remove s) j w b =
    let gone : ℕ → Bool = is_gone (superiors w.raw) s in
    record {
      job = λ h. left_some gone (gone j) (w.raw.jobs j) b.2 h;
      frame = ap (λ (g : Bool). if g then None else w.frames j) b.2;
      page = at_most refl;
    }
one_mild (changes.Delete d x y) j w b = record { job = λ h. h; frame = refl; page = at_most refl }
one_mild (changes.Rename d x y u v) j w b = record { job = λ h. h; frame = refl; page = at_most refl }
one_mild _ j w b = record { job = λ h. slot_some _ (j == j) (w.raw.jobs j) h; frame = refl; page = at_most refl }

pub all_mild : (cs : List Change) (j : ℕ) (w : State) → CanMakeAll cs j w → Mild w (effects_on cs j w) j
all_mild [] j w b = record { job = λ h. h; frame = refl; page = at_most refl }
all_mild (c ∷ cs) j w b =
    let a = one_mild c j w b.0 in
    let d = all_mild cs j (effect_on c j w) b.1 in
    record {
      job = λ h. d.job (a.job h);
      frame = d.frame ∙ a.frame;
      page = let first = a.page in let later = d.page in omega arith;
    }

-- two worlds of which one follows from the other by changes: the job of the slot is still there
pub job_kept : (old mid : World) (s : ℕ) (cs : List Change) → state_of mid ≡ effects_on cs s (state_of old) → CanMakeAll cs s (state_of old)
    → is_some (job_at old.jobs s) ≡ true
    → is_some (job_at mid.jobs s) ≡ true
job_kept old mid s cs e b some =
    sym (raw_has mid s) ∙ ap (λ (v : State). is_some (v.raw.jobs s)) e ∙ (all_mild cs s (state_of old) b).job (raw_has old s ∙ some)

pub frame_kept : (old mid : World) (s : ℕ) (cs : List Change) → state_of mid ≡ effects_on cs s (state_of old) → CanMakeAll cs s (state_of old)
    → frame_at mid.frames.items s ≡ frame_at old.frames.items s
unfolding state_of
frame_kept old mid s cs e b = ap (λ (v : State). v.frames s) e ∙ (all_mild cs s (state_of old) b).frame

pub stands_kept : (old mid : World) (s : ℕ) (cs : List Change) → state_of mid ≡ effects_on cs s (state_of old) → CanMakeAll cs s (state_of old)
    → is_some (standing_of (frame_at old.frames.items s)) ≡ true → is_some (standing_of (frame_at mid.frames.items s)) ≡ true
stands_kept old mid s cs e b h = ap (λ f. is_some (standing_of f)) (frame_kept old mid s cs e b) ∙ h

-- what is asked of a decision, by its kind
pub ready_for : (o : Option Holding) (w : State) (s : ℕ) (d e : Decision) → d ≡ e → IfSome o (λ f. CanCommit w s f d) → IfSome o (λ f. CanCommit w s f e)
ready_for o w s d e h r = subst (λ (x : Decision). IfSome o (λ f. CanCommit w s f x)) h r

pub ends_built : (o : Option Holding) (w : State) (s n : ℕ) (cs : List Change) → is_some o ≡ true
    → IfSome o (λ f. CanMakeAll cs s w × Endable (effects_on cs s w) s f n)
    → CanMakeAll cs s w
ends_built (Some f) w s n cs i h = h.0
ends_built None w s n cs i h = cc

pub ends_room : (o : Option Holding) (w : State) (s n : ℕ) (cs : List Change) → IfSome o (λ f. CanMakeAll cs s w × Endable (effects_on cs s w) s f n)
    → IfSome o (λ f. Endable (effects_on cs s w) s f n)
ends_room (Some f) w s n cs h = h.1
ends_room None w s n cs h = tt

pub whole_part : {X : Type 0} → (o : Option Holding) → is_some o ≡ true → IfSome o (λ f. X) → X
whole_part (Some f) i h = h
whole_part None i h = cc

-- a call that waits
pub wait_committed : (old new : World) (s : ℕ) (r : Wait) → is_some (job_at old.jobs s) ≡ true
    → IfSome (standing_of (frame_at old.frames.items s)) (λ f. FrameBecomes old new s (Some (waiting f.site f.ask f.owes)))
    → IfSome (standing_of (frame_at old.frames.items s)) (λ f. state_of new ≡ after_commit (state_of old) s f.site f.ask f.owes (Waits r))
unfolding after_commit
wait_committed old new s r job h = go (standing_of (frame_at old.frames.items s)) h
  where
    go : (o : Option Holding) → IfSome o (λ f. FrameBecomes old new s (Some (waiting f.site f.ask f.owes)))
        → IfSome o (λ f. state_of new ≡ with_slot (state_of old) s same (Some (waiting f.site f.ask f.owes)))
    go (Some f) b = kept_slot old new s _ job b
    go None b = tt

-- a frame that is put after changes
put_after : (old mid new : World) (s : ℕ) (cs : List Change) (g : Frame) → state_of mid ≡ effects_on cs s (state_of old)
    → CanMakeAll cs s (state_of old) → is_some (job_at old.jobs s) ≡ true
    → FrameBecomes mid new s (Some g) → state_of new ≡ with_slot (effects_on cs s (state_of old)) s same (Some g)
put_after old mid new s cs g e b job f =
    kept_slot mid new s _ (job_kept old mid s cs e b job) f ∙ ap (λ v. with_slot v s same (Some g)) e

-- a call of which a part is done
pub goes_committed : (old mid new : World) (s : ℕ) (cs : List Change) (h : Option Held) (vs : List ℕ)
    → state_of mid ≡ effects_on cs s (state_of old) → CanMakeAll cs s (state_of old)
    → is_some (job_at old.jobs s) ≡ true
    → IfSome (standing_of (frame_at mid.frames.items s)) (λ f. FrameBecomes mid new s (Some (after_going_on f.site (with_new_values f.ask vs) (length vs) h)))
    → IfSome (standing_of (frame_at old.frames.items s)) (λ f. state_of new ≡ after_commit (state_of old) s f.site f.ask f.owes
    (Goes (record { items = cs }) h (record { items = vs })))
unfolding after_commit
goes_committed old mid new s cs h vs e b job p =
    go (standing_of (frame_at old.frames.items s))
    (subst (λ o. IfSome (standing_of o) (λ f. FrameBecomes mid new s
    (Some (after_going_on f.site (with_new_values f.ask vs) (length vs) h)))) (frame_kept old mid s cs e b) p)
  where
    go : (o : Option Holding) → IfSome o (λ f. FrameBecomes mid new s (Some (after_going_on f.site (with_new_values f.ask vs) (length vs) h)))
        → IfSome o (λ f. state_of new ≡ with_slot (effects_on cs s (state_of old)) s same
        (Some (after_going_on f.site (with_new_values f.ask vs) (length vs) h)))
    go (Some f) p = put_after old mid new s cs _ e b job p
    go None p = tt

-- a call that ends
pub room_kept : (old mid : World) (s : ℕ) (cs : List Change) (n : ℕ) → state_of mid ≡ effects_on cs s (state_of old) → CanMakeAll cs s (state_of old)
    → IfSome (standing_of (frame_at old.frames.items s)) (λ f. Endable (effects_on cs s (state_of old)) s f n)
    → IfSome (standing_of (frame_at mid.frames.items s)) (λ f. Endable (state_of mid) s f n)
room_kept old mid s cs n e b h =
    subst (λ o. IfSome (standing_of o) (λ f. Endable (state_of mid) s f n)) (sym (frame_kept old mid s cs e b))
    (subst (λ v. IfSome (standing_of (frame_at old.frames.items s)) (λ f. Endable v s f n)) (sym e) h)

backed_is : (r : Option ℕ) → given_up r ≡ backed (is_some r)
backed_is (Some n) = refl
backed_is None = refl

owed_is : (v : State) (s : ℕ) (ss : List Store) (e : Exit) → owed_by v s ss e ≡ owed_parts v.mark s
    ++ (backed (is_some (v.reserved s)) ++ (map owed_store ss ++ Leave e ∷ []))
owed_is v s ss e = ap (λ os. owed_parts v.mark s ++ (os ++ (map owed_store ss ++ Leave e ∷ []))) (backed_is (v.reserved s))

-- what is pending of a call that has ended
abbrev pub owed_at : State → ℕ → List Store → Exit → Holding → List Owed
owed_at v s ss e f = owed_parts v.mark s ++ (backed (is_some (v.reserved s)) ++ (map owed_store (debts f.ask f.owes ++ ss) ++ Leave e ∷ []))

pub ends_committed : (old mid new : World) (s : ℕ) (cs : List Change) (ss : List Store) (x : Exit)
    → state_of mid ≡ effects_on cs s (state_of old) → CanMakeAll cs s (state_of old)
    → is_some (job_at old.jobs s) ≡ true
    → IfSome (standing_of (frame_at mid.frames.items s)) (λ f. FrameBecomes mid new s (Some (ending f.site f.ask (owed_at (state_of mid) s ss x f))))
    → IfSome (standing_of (frame_at old.frames.items s)) (λ f. state_of new ≡ after_commit (state_of old) s f.site f.ask f.owes
    (Ends (record { items = cs }) (record { items = ss }) x))
unfolding after_commit
ends_committed old mid new s cs ss x e b job p =
    go (standing_of (frame_at old.frames.items s))
    (subst (λ o. IfSome (standing_of o) (λ f. FrameBecomes mid new s (Some (ending f.site f.ask (owed_at v s ss x f))))) (frame_kept old mid s cs e b)
    (subst (λ (w : State). IfSome (standing_of (frame_at mid.frames.items s))
    (λ f. FrameBecomes mid new s (Some (ending f.site f.ask (owed_at w s ss x f))))) e p))
  where
    v : State
    v = effects_on cs s (state_of old)

    go : (o : Option Holding) → IfSome o (λ f. FrameBecomes mid new s (Some (ending f.site f.ask (owed_at v s ss x f))))
        → IfSome o (λ f. state_of new ≡ with_slot v s same (Some (ending f.site f.ask (owed_by v s (debts f.ask f.owes ++ ss) x))))
    go (Some f) p =
        put_after old mid new s cs _ e b job p
        ∙ ap (λ os. with_slot v s same (Some (ending f.site f.ask os))) (sym (owed_is v s (debts f.ask f.owes ++ ss) x))
    go None p = tt

-- a call whose caller is removed
pub gone_committed : (old mid new : World) (s : ℕ) (cs : List Change) → state_of mid ≡ effect_on (changes.Remove s) s (state_of old)
    → state_of new ≡ effects_on cs s (state_of mid)
    → IfSome (standing_of (frame_at old.frames.items s)) (λ f. state_of new ≡ after_commit (state_of old) s f.site f.ask f.owes
    (Gone (record { items = cs })))
unfolding after_commit
gone_committed old mid new s cs r e = go (standing_of (frame_at old.frames.items s))
  where
    go : (o : Option Holding) → IfSome o (λ f. state_of new ≡ effects_on cs s (effect_on (changes.Remove s) s (state_of old)))
    go (Some f) = e ∙ ap (effects_on cs s) r
    go None = tt

pub gone_can : (old mid : World) (s : ℕ) (cs : List Change) → state_of mid ≡ effect_on (changes.Remove s) s (state_of old)
    → CanMakeAll cs s (effect_on (changes.Remove s) s (state_of old))
    → CanMakeAll cs s (state_of mid)
gone_can old mid s cs e h = subst (CanMakeAll cs s) (sym e) h

-- there is room for what is pending
one_page : (b : Bool) (o : Option ℕ) → b ≡ is_some o → (if b then 1 else 0) ≡ kept o
one_page b (Some k) e = rw e refl
one_page b None e = rw e refl

pub end_read : (o : Option Holding) (w : State) (s n k : ℕ) (a : Ask) → is_some o ≡ true → IfSome o (λ f. (a ≡ f.ask) × (k ≡ f.owes))
    → IfSome o (λ f. Endable w s f n) → length (debts a k) ≡ k
end_read (Some f) w s n k a i is h = (λ t. length (debts (is.0 t) (is.1 t))) ∙ h.read ∙ sym is.1
end_read None w s n k a i is h = cc

pub end_few : (o : Option Holding) (w : State) (s n k : ℕ) (a : Ask) (ps os : List Owed) (b : Bool) → is_some o ≡ true
    → IfSome o (λ f. (a ≡ f.ask) × (k ≡ f.owes)) → IfSome o (λ f. Endable w s f n) → ps ≡ os → os ≡ owed_parts w.mark s
    → b ≡ is_some (w.reserved s) → length ps + (if b then 1 else 0) + k + n ≤ 3
end_few (Some f) w s n k a ps os b j is h p q i =
    let few = h.few in
    let owes : k ≡ f.owes = is.1 in
    let parts : length ps ≡ length (owed_parts w.mark s) = ap (λ (xs : List Owed). length xs) (p ∙ q) in
    let page : (if b then 1 else 0) ≡ kept (w.reserved s) = one_page b (w.reserved s) i in
    omega arith
end_few None w s n k a ps os b j is h p q i = cc

-- whether a slot has reserved a page
pub page_reserved : (w : World) (s : ℕ) (b : Bool) → b ≡ is_some (clear_at w.core s) → b ≡ is_some ((state_of w).reserved s)
unfolding state_of
page_reserved w s b e = e

-- the pending parts of the close of a call
parts_are : (p : Parts) → map owed_part (parts_left p) ≡ parts_owed p
parts_are (Replace old draft) = refl
parts_are (Link (Some old) draft) = refl
parts_are (Link None draft) = refl
parts_are (Free old) = refl

parts_by : (files : Files) (j : ℕ) (m : Option FilesMark) → mine (marking files m) j ≡ true → owed_parts (marking files m) j ≡ owed m
parts_by files j None e = refl
parts_by files j (Some m) e = ap (λ (b : Bool). if b then map owed_part (parts_left m.parts) else []) e ∙ parts_are m.parts

none_by : (files : Files) (j : ℕ) (m : Option FilesMark) → mine (marking files m) j ≡ false → owed_parts (marking files m) j ≡ []
none_by files j None e = refl
none_by files j (Some m) e = ap (λ (b : Bool). if b then map owed_part (parts_left m.parts) else []) e

pub parts_mine : (w : World) (j : ℕ) (b : Bool) (os : List Owed) → b ≡ mine (state_of w).mark j → b ≡ true → os ≡ owed w.files.mark
    → os ≡ owed_parts (state_of w).mark j
unfolding state_of mark_of
parts_mine w j b os e t o = o ∙ sym (parts_by w.files j w.files.mark (sym e ∙ t))

pub parts_none : (w : World) (j : ℕ) (b : Bool) → b ≡ mine (state_of w).mark j → b ≡ false → [] ≡ owed_parts (state_of w).mark j
unfolding state_of mark_of
parts_none w j b e f = sym (none_by w.files j w.files.mark (sym e ∙ f))
