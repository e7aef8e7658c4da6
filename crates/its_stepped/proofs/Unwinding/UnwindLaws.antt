-- Unwinding: it changes nothing that the plain machine has, keeps soundness, and leaves other slots
-- alone; four steps are enough (docs/STEPS.md, "Unwinding").
use Rattle.std.specs.Prelude.{if◌then◌else◌, ◌≡◌, ◌≢◌, ◌≤◌, ◌<◌, ℕ, zero, suc, ◌+◌, Bool, true, false, Option, Some, None, List, [], ◌∷◌, filter, option_map, refl}
use Rattle.std.specs.List.{range_with_len}
use Rattle.std.proofs.Common.{sym, ◌∙◌, ap, subst, inl, inr, arith}
use Rattle.std.proofs.lemmas.Bool.{cases_eq, eq-eqb, ne_eqb}
use Rattle.std.proofs.lemmas.List.Sums.{count_by-le-length}
use Rattle.its_word.specs.Core.{Core}
use Rattle.its_records.specs.declared.calls.Ask.{Ask}
use Rattle.its_records.specs.declared.calls.Owed.{Owed}
use Rattle.its_records.specs.declared.calls.Owed.TheVariants.{Store, GiveBack, Unlink, Link, Free, Leave}
use Rattle.its_records.specs.declared.calls.Site.{Site}
use Rattle.its_frame.specs.Left.{is_made_by, kept, left_of, Few}
use Rattle.its_frame.specs.declared.frame.Frame.{Frame}
use Rattle.its_frame.specs.declared.frame.Frame.TheVariants.{Entered, Parsed, Asked, Holding, Waiting, Moving, Ending}
use Rattle.its_frame.specs.declared.name.CallName.{CallName}
use Rattle.its_frame.specs.declared.name.CallName.TheVariants.{Siot}
use Rattle.its_plain.specs.Machine.{Whole}
use Rattle.its_plain.specs.Machine.Own.{with_stores, after_leave}
use Rattle.its_plain.specs.Machine.Change.{poke}
use Rattle.its_plain.specs.Call.Arguments.{debts}
use Rattle.its_plain.specs.Call.Step.{with_held, among}
use Rattle.its_plain.specs.Call.Decide.{call_row, call_named}
use Rattle.its_plain.proofs.MachineLaws.{machine_is}
use Rattle.its_stepped.specs.SlotSame.{SlotSame}
use Rattle.its_stepped.specs.State.{Part, Mark, State, after_help, mine, held_at, seen, seen_jobs, plain, with_slot, same, reserving, holding, waiting, ending, asked}
use Rattle.its_stepped.specs.Unwind.{first_debt, less, paid, after_giving_back, with_part, due, after_settling, left_by, left, unwind_by, unwind_one, unwind_times, unwound, all_unwound}
use Rattle.its_stepped.specs.Sound.{HoldingPays, SoundFrame, SoundBy, SoundSlot, Sound, most_owed, most_owed_by}
use Rattle.its_stepped.specs.OneChange.{OneChange, FrameAlone}
use Rattle.its_stepped.proofs.Frame.FrameLaws.{changed_only, on_slot_other}
use Rattle.its_stepped.proofs.Unwinding.RowLaws.{Shares, Rowed}
use Rattle.its_stepped.proofs.Unwinding.UnwindRows.{At, dropped_row, holding_row, waiting_row, moving_row}
use Rattle.its_stepped.proofs.Unwinding.EndingRows.{ending_row}

-- a slot with a frame has a job
pub record InCall (w : State) (j : ℕ) (f : Frame) : Type 0 where
  pub job : Whole
  pub at : At w j job f

in_call_by : (w : State) (j : ℕ) (f : Frame) (o : Option Whole) → Sound w → w.raw.jobs j ≡ o → w.frames j ≡ Some f
    → SoundBy o (Some f) (w.reserved j) → InCall w j f
in_call_by w j f None s job frame h = absurd (let no = h.0 in cc)
in_call_by w j f (Some q) s job frame h = record { job = q; at = record { job = job; frame = frame; sound = h; mark = s.mark } }

pub in_call : (w : State) (j : ℕ) (f : Frame) → Sound w → w.frames j ≡ Some f → InCall w j f
in_call w j f s frame = in_call_by w j f (w.raw.jobs j) s refl frame (subst (λ o. SoundBy (w.raw.jobs j) o (w.reserved j)) frame (s.each j).by)

-- the row of each frame
row_by : (w : State) (j : ℕ) (q : Whole) (f : Frame) → At w j q f → Rowed w (unwind_by w j (Some f)) j
unfolding seen
row_by w j q (Entered f) at = dropped_row w j q (Entered f) at (λ p. refl) at.sound.pays refl refl
row_by w j q (Parsed f) at = dropped_row w j q (Parsed f) at (λ p. refl) at.sound.pays refl refl
row_by w j q (Asked f) at = dropped_row w j q (Asked f) at (λ p. refl) at.sound.pays refl refl
row_by w j q (Holding f) at = holding_row w j q f.site f.ask f.page f.owes at
row_by w j q (Waiting f) at = waiting_row w j q f.site f.ask f.owes at
row_by w j q (Moving f) at = moving_row w j q f.site f.ask (held_at f.place f.byte) at
row_by w j q (Ending f) at = ending_row w j q f.site f.ask f.owed.items at

pub unwind_row : (w : State) (j : ℕ) (f : Frame) → Sound w → w.frames j ≡ Some f → Rowed w (unwind_one w j) j
unfolding unwind_one
unwind_row w j f s frame = let c = in_call w j f s frame in subst (λ o. Rowed w (unwind_by w j o) j) (sym frame) (row_by w j c.job f c.at)

-- a step of a slot without a frame
pub unwind_still : (w : State) (j : ℕ) → w.frames j ≡ None → unwind_one w j ≡ w
unfolding unwind_one
unwind_still w j frame = ap (unwind_by w j) frame

-- what follows from a row
plain_at : (w v : State) (j : ℕ) → (r : Rowed w v j) → (k : ℕ) → seen_jobs v.frames v.raw.jobs k ≡ seen_jobs w.frames w.raw.jobs k
plain_at w v j r k = elim (cases_eq k j) [
  | inl e ↦ rw e (ap (λ f. option_map (seen f) (v.raw.jobs j)) r.frames.here ∙ ap (option_map (seen r.frame)) r.jobs.here ∙ sym r.seen_as)
  | inr ne ↦ ap (λ f. option_map (seen f) (v.raw.jobs k)) (r.frames.others k ne) ∙ ap (option_map (seen (w.frames k))) (r.jobs.others k ne)
]

row_plain : (w v : State) (j : ℕ) → Rowed w v j → plain v ≡ plain w
unfolding plain
row_plain w v j r =
    machine_is _ _ (plain_at w v j r) (λ k. ap (λ f. f k) r.shares.consoles) (λ k. ap (λ f. f k) r.shares.holders) r.shares.files
    r.shares.clock r.shares.version
    (λ k. ap (λ f. f k) r.shares.symbols) (λ k. ap (λ f. f k) r.shares.links)

slot_is : (o p : Option Whole) (f g : Option Frame) (r t : Option ℕ) → o ≡ p → f ≡ g → r ≡ t → SoundSlot p g t → SoundSlot o f r
slot_is o p f g r t job frame page s = rw (job, frame, page) s

row_sound : (w v : State) (j : ℕ) → Sound w → Rowed w v j → Sound v
row_sound w v j s r = record {
  each = λ k. elim (cases_eq k j) [
    | inl e ↦ rw e (slot_is _ _ _ _ _ _ r.jobs.here r.frames.here r.pages.here (record { by = r.fits }))
    | inr ne ↦ slot_is _ _ _ _ _ _ (r.jobs.others k ne) (r.frames.others k ne) (r.pages.others k ne) (s.each k)
  ];
  mark = r.mark;
}

pub unwind_plain : (w : State) (j : ℕ) → Sound w → plain (unwind_one w j) ≡ plain w
unwind_plain w j s = go (w.frames j) refl
  where
    go : (o : Option Frame) → w.frames j ≡ o → plain (unwind_one w j) ≡ plain w
    go None e = ap plain (unwind_still w j e)
    go (Some f) e = row_plain w (unwind_one w j) j (unwind_row w j f s e)

pub unwind_sound : (w : State) (j : ℕ) → Sound w → Sound (unwind_one w j)
unwind_sound w j s = go (w.frames j) refl
  where
    go : (o : Option Frame) → w.frames j ≡ o → Sound (unwind_one w j)
    go None e = subst Sound (sym (unwind_still w j e)) s
    go (Some f) e = row_sound w (unwind_one w j) j s (unwind_row w j f s e)

-- a step makes at most one small change
pub one_change : (w : State) (j : ℕ) → Sound w → OneChange w (unwind_one w j) j
one_change w j s = go (w.frames j) refl
  where
    go : (o : Option Frame) → w.frames j ≡ o → OneChange w (unwind_one w j) j
    go None e = subst (λ v. OneChange w v j) (sym (unwind_still w j e)) (FrameAlone refl)
    go (Some f) e = (unwind_row w j f s e).one

-- how many steps are left
pub unwind_fewer : (w : State) (j : ℕ) (f : Frame) → Sound w → w.frames j ≡ Some f → left (unwind_one w j) j + 1 ≡ left w j
unfolding left
unwind_fewer w j f s e =
    let r = unwind_row w j f s e in
    ap (λ o. left_by (mine (unwind_one w j).mark j) o + 1) r.frames.here ∙ r.fewer

pub left_none : (w : State) (j : ℕ) → w.frames j ≡ None → left w j ≡ 0
unfolding left
left_none w j e = ap (left_by (mine w.mark j)) e

pub left_some : (w : State) (j : ℕ) (f : Frame) → Sound w → w.frames j ≡ Some f → 1 ≤ left w j
left_some w j f s e = let fewer = unwind_fewer w j f s e in omega arith

pub none_left : (w : State) (j : ℕ) → Sound w → left w j ≡ 0 → w.frames j ≡ None
none_left w j s e = go (w.frames j) refl
  where
    go : (o : Option Frame) → w.frames j ≡ o → w.frames j ≡ None
    go None is = is
    go (Some f) is = absurd (let some = left_some w j f s is in omega arith)

-- four steps are enough
most_by : (n : Option CallName) → most_owed_by n ≤ 2
most_by None = omega arith
most_by (Some n) = most_row n
  where
    most_row : (n : CallName) → (call_row n).owes ≤ 2
    most_row Siot = omega arith
    most_row _ = omega arith

pub most_few : (a : Ask) → most_owed a ≤ 2
unfolding most_owed
most_few a = most_by (call_named a.name)

holding_few : (c : Core) (r : Option ℕ) (a : Ask) (page : Option ℕ) (n : ℕ) → HoldingPays c r a page n → kept page + n + 1 ≤ 4
holding_few c r a None n h = let few = h.debts.few in let most = most_few a in omega arith
holding_few c r a (Some p) n h = let none = h.paged.owes in omega arith

few_by : (b : Bool) (q : Whole) (f : Frame) (r : Option ℕ) → SoundFrame q f r → left_of b f ≤ 4
few_by b q (Holding f) r h = holding_few q.core r f.ask f.page f.owes h.pays
few_by b q (Waiting f) r h = let few = h.pays.debts.few in let most = most_few f.ask in omega arith
few_by b q (Ending f) r h = let few = h.pays.few in let count = count_by-le-length (is_made_by b) f.owed.items in omega arith
few_by b q _ r h = omega arith

few_some : (w : State) (j : ℕ) (f : Frame) → Sound w → w.frames j ≡ Some f → left w j ≤ 4
unfolding left
few_some w j f s e = let c = in_call w j f s e in rw e (few_by (mine w.mark j) c.job f (w.reserved j) c.at.sound)

pub few_left : (w : State) (j : ℕ) → Sound w → left w j ≤ 4
few_left w j s = go (w.frames j) refl
  where
    go : (o : Option Frame) → w.frames j ≡ o → left w j ≤ 4
    go None e = let none = left_none w j e in omega arith
    go (Some f) e = few_some w j f s e

pub slot_same : (w : State) (k : ℕ) → SlotSame w w k
slot_same w k = record { job = refl; frame = refl; page = refl }

pub slot_then : (w v u : State) (k : ℕ) → SlotSame w v k → SlotSame v u k → SlotSame w u k
slot_then w v u k a b = record { job = b.job ∙ a.job; frame = b.frame ∙ a.frame; page = b.page ∙ a.page }

pub shares_same : (w : State) → Shares w w
shares_same w = record { consoles = refl; holders = refl; clock = refl; version = refl; symbols = refl; links = refl; files = refl }

pub shares_then : (w v u : State) → Shares w v → Shares v u → Shares w u
shares_then w v u a b =
    record {
      consoles = b.consoles ∙ a.consoles;
      holders = b.holders ∙ a.holders;
      clock = b.clock ∙ a.clock;
      version = b.version ∙ a.version;
      symbols = b.symbols ∙ a.symbols;
      links = b.links ∙ a.links;
      files = b.files ∙ a.files;
    }

pub record Beside (w v : State) (j : ℕ) : Type 0 where
  pub slots : (k : ℕ) → k ≢ j → SlotSame w v k
  pub shares : Shares w v
  pub unmarked : w.mark ≡ None → v.mark ≡ None

beside_same : (w : State) (j : ℕ) → Beside w w j
beside_same w j = record { slots = λ k ne. slot_same w k; shares = shares_same w; unmarked = λ e. e }

beside_slot : (w : State) (j : ℕ) (h : Whole → Whole) (f : Option Frame) → Beside w (with_slot w j h f) j
beside_slot w j h f = record {
  slots = λ k ne. record { job = on_slot_other w.raw.jobs j k h ne; frame = (changed_only w.frames j f).others k ne; page = refl };
  shares = record { consoles = refl; holders = refl; clock = refl; version = refl; symbols = refl; links = refl; files = refl };
  unmarked = λ e. e;
}

beside_page : (w : State) (j : ℕ) (f : Option Frame) → Beside w (reserving (with_slot w j same f) j None) j
beside_page w j f = record {
  slots = λ k ne. record {
    job = on_slot_other w.raw.jobs j k same ne;
    frame = (changed_only w.frames j f).others k ne;
    page = (changed_only w.reserved j None).others k ne;
  };
  shares = record { consoles = refl; holders = refl; clock = refl; version = refl; symbols = refl; links = refl; files = refl };
  unmarked = λ e. e;
}

parted : (w v : State) (j : ℕ) (m : Mark) (ps : List Part) → w.mark ≡ Some (record m { parts = ps }) → v.mark ≡ w.mark → Beside w v j
    → Beside w (with_part (Some (record m { parts = ps })) v) j
unfolding after_help
parted w v j m [] mark still b = b
parted w v j m (p ∷ []) mark still b = record {
  slots = λ k ne. let s = b.slots k ne in record { job = s.job; frame = s.frame; page = s.page };
  shares = record {
    consoles = b.shares.consoles;
    holders = b.shares.holders;
    clock = b.shares.clock;
    version = b.shares.version;
    symbols = b.shares.symbols;
    links = b.shares.links;
    files = sym (ap (λ o. after_help o v.raw.files) (still ∙ mark)) ∙ b.shares.files;
  };
  unmarked = λ e. refl;
}
parted w v j m (p ∷ x ∷ ps) mark still b = record {
  slots = λ k ne. let s = b.slots k ne in record { job = s.job; frame = s.frame; page = s.page };
  shares = record {
    consoles = b.shares.consoles;
    holders = b.shares.holders;
    clock = b.shares.clock;
    version = b.shares.version;
    symbols = b.shares.symbols;
    links = b.shares.links;
    files = sym (ap (λ o. after_help o v.raw.files) (still ∙ mark)) ∙ b.shares.files;
  };
  unmarked = λ e. cc;
}

beside_part : (w v : State) (j : ℕ) → v.mark ≡ w.mark → Beside w v j → Beside w (with_part w.mark v) j
beside_part w v j still b = go w.mark refl
  where
    go : (o : Option Mark) → w.mark ≡ o → Beside w (with_part o v) j
    go None e = b
    go (Some m) e = parted w v j m m.parts e still b

beside_paid : (w : State) (j : ℕ) (a : Ask) (n : ℕ) (f : ℕ → Frame) → Beside w (paid w j a n f) j
beside_paid w j a n f = beside_slot w j (with_stores (first_debt (debts a n))) (less n f)

beside_given : (w : State) (j : ℕ) (s : Site) (a : Ask) (page : Option ℕ) (n : ℕ) → Beside w (after_giving_back w j s a page n) j
beside_given w j s a (Some p) n = beside_page w j (Some (asked s a))
beside_given w j s a None n = beside_paid w j a n (holding s a None)

beside_settled : (w : State) (j : ℕ) (s : Site) (a : Ask) (os : List Owed) → Beside w (after_settling w j s a os) j
beside_settled w j s a [] = beside_slot w j same None
beside_settled w j s a (Store p v ∷ os) = beside_slot w j (with_stores (poke p v ∷ [])) (Some (ending s a os))
beside_settled w j s a (GiveBack ∷ os) = beside_page w j (Some (ending s a os))
beside_settled w j s a (Unlink ∷ os) = beside_part w (with_slot w j same (Some (ending s a os))) j refl (beside_slot w j same (Some (ending s a os)))
beside_settled w j s a (Link ∷ os) = beside_part w (with_slot w j same (Some (ending s a os))) j refl (beside_slot w j same (Some (ending s a os)))
beside_settled w j s a (Free ∷ os) = beside_part w (with_slot w j same (Some (ending s a os))) j refl (beside_slot w j same (Some (ending s a os)))
beside_settled w j s a (Leave e ∷ os) = beside_slot w j (after_leave e) None

beside_by : (w : State) (j : ℕ) (o : Option Frame) → Beside w (unwind_by w j o) j
beside_by w j None = beside_same w j
beside_by w j (Some (Holding f)) = beside_given w j f.site f.ask f.page f.owes
beside_by w j (Some (Waiting f)) = beside_paid w j f.ask f.owes (waiting f.site f.ask)
beside_by w j (Some (Moving f)) = beside_slot w j (with_held f.ask (Some (held_at f.place f.byte))) (Some (holding f.site f.ask None 2))
beside_by w j (Some (Ending f)) = beside_settled w j f.site f.ask (due (mine w.mark j) f.owed.items)
beside_by w j _ = beside_slot w j same None

unwind_beside : (w : State) (j : ℕ) → Beside w (unwind_one w j) j
unfolding unwind_one
unwind_beside w j = beside_by w j (w.frames j)

pub unwind_others : (w : State) (j k : ℕ) → k ≢ j → SlotSame w (unwind_one w j) k
unwind_others w j k ne = (unwind_beside w j).slots k ne

pub unwind_shared : (w : State) (j : ℕ) → Shares w (unwind_one w j)
unwind_shared w j = (unwind_beside w j).shares

pub unwind_unmarked : (w : State) (j : ℕ) → w.mark ≡ None → (unwind_one w j).mark ≡ None
unwind_unmarked w j e = (unwind_beside w j).unmarked e

-- slots in a list
pub among_first : (k : ℕ) (ks : List ℕ) → among k (k ∷ ks) ≡ true
among_first k ks = rw (eq-eqb k k refl)

pub among_later : (i k : ℕ) (ks : List ℕ) → k ≢ i → among k (i ∷ ks) ≡ true → among k ks ≡ true
among_later i k ks ne h = rw (ne_eqb i k (λ e. ne (sym e))) at h

pub among_not_first : (i k : ℕ) (ks : List ℕ) → among k (i ∷ ks) ≡ false → k ≢ i
among_not_first i k ks h e = let t : among k (i ∷ ks) ≡ true = subst (λ n. among k (n ∷ ks) ≡ true) e (among_first k ks) in cc

pub among_not_later : (i k : ℕ) (ks : List ℕ) → among k (i ∷ ks) ≡ false → among k ks ≡ false
among_not_later i k ks h = rw (ne_eqb i k (λ e. among_not_first i k ks h (sym e))) at h

pub among_more : (i k : ℕ) (ks : List ℕ) → among k ks ≡ true → among k (i ∷ ks) ≡ true
among_more i k ks h = elim (cases_eq i k) [ inl e ↦ subst (λ n. among n (i ∷ ks) ≡ true) e (among_first i ks) | inr ne ↦ rw (ne_eqb i k ne) h ]

-- those of a list that pass a test
kept_filter : (b : Bool) (k i : ℕ) (ys : List ℕ) → among k ys ≡ true → among k (if b then i ∷ ys else ys) ≡ true
kept_filter true k i ys h = among_more i k ys h
kept_filter false k i ys h = h

pub among_filter : (p : ℕ → Bool) (k : ℕ) (xs : List ℕ) → p k ≡ true → among k xs ≡ true → among k (filter p xs) ≡ true
among_filter p k [] h a = a
among_filter p k (i ∷ xs) h a = elim (cases_eq i k) [
  | inl e ↦
      ap (λ (b : Bool). among k (if b then i ∷ filter p xs else filter p xs)) (ap p e ∙ h)
      ∙ subst (λ (n : ℕ). among n (i ∷ filter p xs) ≡ true) e (among_first i (filter p xs))
  | inr ne ↦ kept_filter (p i) k i (filter p xs) (among_filter p k xs h (among_later i k xs (λ e. ne (sym e)) a))
]

pub among_range : (k from n : ℕ) → from ≤ k → k < from + n → among k (range_with_len from n) ≡ true
among_range k from zero h l = absurd (omega arith)
among_range k from (suc n) h l = elim (cases_eq from k) [
  | inl e ↦ subst (λ (i : ℕ). among i (from ∷ range_with_len (from + 1) n) ≡ true) e (among_first from (range_with_len (from + 1) n))
  | inr ne ↦ among_more from k (range_with_len (from + 1) n) (among_range k (from + 1) n (omega arith) (omega arith))
]

kept_out : (p : ℕ → Bool) (k i : ℕ) (ys : List ℕ) (b : Bool) → p k ≡ false → p i ≡ b → among k ys ≡ false → among k (if b then i ∷ ys else ys) ≡ false
kept_out p k i ys true h e t = let ne : i ≢ k = λ same. (let g : p i ≡ p k = ap p same in cc) in rw (ne_eqb i k ne) t
kept_out p k i ys false h e t = t

pub filtered_out : (p : ℕ → Bool) (k : ℕ) (xs : List ℕ) → p k ≡ false → among k (filter p xs) ≡ false
filtered_out p k [] h = refl
filtered_out p k (i ∷ xs) h = kept_out p k i (filter p xs) (p i) h refl (filtered_out p k xs h)

-- many steps
times_plain : (n : ℕ) (w : State) (j : ℕ) → Sound w → plain (unwind_times n w j) ≡ plain w
unfolding unwind_times
times_plain zero w j s = refl
times_plain (suc n) w j s = times_plain n (unwind_one w j) j (unwind_sound w j s) ∙ unwind_plain w j s

times_sound : (n : ℕ) (w : State) (j : ℕ) → Sound w → Sound (unwind_times n w j)
unfolding unwind_times
times_sound zero w j s = s
times_sound (suc n) w j s = times_sound n (unwind_one w j) j (unwind_sound w j s)

some_left : (w : State) (j n : ℕ) → Sound w → left w j ≡ suc n → left (unwind_one w j) j ≡ n
some_left w j n s e = go (w.frames j) refl
  where
    go : (o : Option Frame) → w.frames j ≡ o → left (unwind_one w j) j ≡ n
    go None is = absurd (let none = left_none w j is in omega arith)
    go (Some f) is = let fewer = unwind_fewer w j f s is in omega arith

times_none : (n : ℕ) (w : State) (j : ℕ) → Sound w → left w j ≡ n → (unwind_times n w j).frames j ≡ None
unfolding unwind_times
times_none zero w j s e = none_left w j s e
times_none (suc n) w j s e = times_none n (unwind_one w j) j (unwind_sound w j s) (some_left w j n s e)

times_others : (n : ℕ) (w : State) (j k : ℕ) → k ≢ j → SlotSame w (unwind_times n w j) k
unfolding unwind_times
times_others zero w j k ne = slot_same w k
times_others (suc n) w j k ne = slot_then w (unwind_one w j) (unwind_times n (unwind_one w j) j) k (unwind_others w j k ne)
    (times_others n (unwind_one w j) j k ne)

times_shared : (n : ℕ) (w : State) (j : ℕ) → Shares w (unwind_times n w j)
unfolding unwind_times
times_shared zero w j = shares_same w
times_shared (suc n) w j = shares_then w (unwind_one w j) (unwind_times n (unwind_one w j) j) (unwind_shared w j) (times_shared n (unwind_one w j) j)

times_unmarked : (n : ℕ) (w : State) (j : ℕ) → w.mark ≡ None → (unwind_times n w j).mark ≡ None
unfolding unwind_times
times_unmarked zero w j e = e
times_unmarked (suc n) w j e = times_unmarked n (unwind_one w j) j (unwind_unmarked w j e)

-- a job unwound
pub unwound_plain : (w : State) (j : ℕ) → Sound w → plain (unwound w j) ≡ plain w
unfolding unwound
unwound_plain w j s = times_plain (left w j) w j s

pub unwound_sound : (w : State) (j : ℕ) → Sound w → Sound (unwound w j)
unfolding unwound
unwound_sound w j s = times_sound (left w j) w j s

pub unwound_none : (w : State) (j : ℕ) → Sound w → (unwound w j).frames j ≡ None
unfolding unwound
unwound_none w j s = times_none (left w j) w j s refl

pub unwound_others : (w : State) (j k : ℕ) → k ≢ j → SlotSame w (unwound w j) k
unfolding unwound
unwound_others w j k ne = times_others (left w j) w j k ne

pub unwound_shared : (w : State) (j : ℕ) → Shares w (unwound w j)
unfolding unwound
unwound_shared w j = times_shared (left w j) w j

pub unwound_unmarked : (w : State) (j : ℕ) → w.mark ≡ None → (unwound w j).mark ≡ None
unfolding unwound
unwound_unmarked w j e = times_unmarked (left w j) w j e

-- a job in user mode is left as it is
pub unwound_still : (w : State) (j : ℕ) → w.frames j ≡ None → unwound w j ≡ w
unfolding unwound unwind_times
unwound_still w j e = ap (λ n. unwind_times n w j) (left_none w j e)

-- a slot without frame has none after another is unwound
unwound_keeps : (w : State) (j k : ℕ) → Sound w → w.frames k ≡ None → (unwound w j).frames k ≡ None
unwound_keeps w j k s e = elim (cases_eq k j) [ inl is ↦ rw is (unwound_none w j s) | inr ne ↦ (unwound_others w j k ne).frame ∙ e ]

-- several
pub all_unwound_plain : (ks : List ℕ) (w : State) → Sound w → plain (all_unwound ks w) ≡ plain w
unfolding all_unwound
all_unwound_plain [] w s = refl
all_unwound_plain (k ∷ ks) w s = all_unwound_plain ks (unwound w k) (unwound_sound w k s) ∙ unwound_plain w k s

pub all_unwound_sound : (ks : List ℕ) (w : State) → Sound w → Sound (all_unwound ks w)
unfolding all_unwound
all_unwound_sound [] w s = s
all_unwound_sound (k ∷ ks) w s = all_unwound_sound ks (unwound w k) (unwound_sound w k s)

pub all_unwound_keeps : (ks : List ℕ) (w : State) (k : ℕ) → Sound w → w.frames k ≡ None → (all_unwound ks w).frames k ≡ None
unfolding all_unwound
all_unwound_keeps [] w k s e = e
all_unwound_keeps (i ∷ ks) w k s e = all_unwound_keeps ks (unwound w i) k (unwound_sound w i s) (unwound_keeps w i k s e)

pub all_unwound_none : (ks : List ℕ) (w : State) (k : ℕ) → Sound w → among k ks ≡ true → (all_unwound ks w).frames k ≡ None
unfolding all_unwound
all_unwound_none [] w k s h = cc
all_unwound_none (i ∷ ks) w k s h = elim (cases_eq k i) [
  | inl e ↦ all_unwound_keeps ks (unwound w i) k (unwound_sound w i s) (rw e (unwound_none w i s))
  | inr ne ↦ all_unwound_none ks (unwound w i) k (unwound_sound w i s) (among_later i k ks ne h)
]

pub all_unwound_others : (ks : List ℕ) (w : State) (k : ℕ) → among k ks ≡ false → SlotSame w (all_unwound ks w) k
unfolding all_unwound
all_unwound_others [] w k h = slot_same w k
all_unwound_others (i ∷ ks) w k h =
    slot_then w (unwound w i) (all_unwound ks (unwound w i)) k (unwound_others w i k (among_not_first i k ks h))
    (all_unwound_others ks (unwound w i) k (among_not_later i k ks h))

pub all_unwound_shared : (ks : List ℕ) (w : State) → Shares w (all_unwound ks w)
unfolding all_unwound
all_unwound_shared [] w = shares_same w
all_unwound_shared (k ∷ ks) w = shares_then w (unwound w k) (all_unwound ks (unwound w k)) (unwound_shared w k) (all_unwound_shared ks (unwound w k))

pub all_unwound_unmarked : (ks : List ℕ) (w : State) → w.mark ≡ None → (all_unwound ks w).mark ≡ None
unfolding all_unwound
all_unwound_unmarked [] w e = e
all_unwound_unmarked (k ∷ ks) w e = all_unwound_unmarked ks (unwound w k) (unwound_unmarked w k e)

-- if all of these are in user mode, nothing is done
pub all_unwound_still : (ks : List ℕ) (w : State) → ((k : ℕ) → among k ks ≡ true → w.frames k ≡ None) → all_unwound ks w ≡ w
unfolding all_unwound
all_unwound_still [] w h = refl
all_unwound_still (k ∷ ks) w h =
    ap (all_unwound ks) (unwound_still w k (h k (among_first k ks))) ∙ all_unwound_still ks w (λ i e. h i (among_more k i ks e))

-- one turn of a loop that unwinds a job, and its end by `unwound_still`
pub unwound_slot : (w : State) (j : ℕ) (f : Frame) → Sound w → w.frames j ≡ Some f → unwound (unwind_one w j) j ≡ unwound w j
unfolding unwound unwind_times
unwound_slot w j f s e =
    let fewer = unwind_fewer w j f s e in
    let n : suc (left (unwind_one w j) j) ≡ left w j = omega arith in
    ap (λ n. unwind_times n w j) n

-- one turn of a loop over several, and its end
pub all_unwound_slot : (k : ℕ) (ks : List ℕ) (w : State) → all_unwound ks (unwound w k) ≡ all_unwound (k ∷ ks) w
unfolding all_unwound
all_unwound_slot k ks w = refl

pub all_unwound_end : (w : State) → all_unwound [] w ≡ w
unfolding all_unwound
all_unwound_end w = refl

-- a sound frame is one whose steps the code can count
few_frame_by : (q : Whole) (f : Frame) (r : Option ℕ) → SoundFrame q f r → Few f
few_frame_by q (Holding f) r h = let most = holding_few q.core r f.ask f.page f.owes h.pays in omega arith
few_frame_by q (Waiting f) r h = let few = h.pays.debts.few in let most = most_few f.ask in omega arith
few_frame_by q (Ending f) r h = h.pays.few
few_frame_by q _ r h = tt

pub few_frame : (w : State) (j : ℕ) (f : Frame) → Sound w → w.frames j ≡ Some f → Few f
few_frame w j f s e = let c = in_call w j f s e in few_frame_by c.job f (w.reserved j) c.at.sound
