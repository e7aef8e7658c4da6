-- A tick keeps the state sound.
use Rattle.std.specs.Prelude.{if◌then◌else◌, ◌≡◌, ◌<◌, ℕ, ◌+◌, Bool, true, false, Option, Some, None, IfSome, List, [], length, Result, Ok, Err, option_map, nat_lt, refl, is_some}
use Rattle.std.proofs.Common.{sym, ◌∙◌, ap, subst, inl, inr, arith, ltb-true}
use Rattle.std.proofs.lemmas.Bool.{cases_eq}
use Rattle.its_word.specs.Core.{Core}
use Rattle.its_word.specs.declared.access.Fault.{Fault}
use Rattle.its_records.specs.declared.calls.Ask.{Ask}
use Rattle.its_records.specs.declared.calls.Site.{Site}
use Rattle.its_records.specs.declared.jobs.Job.{Job}
use Rattle.its_frame.specs.declared.decision.Decision.{Decision}
use Rattle.its_frame.specs.declared.decision.Decision.TheVariants.{Waits, Goes, Ends, Gone}
use Rattle.its_frame.specs.declared.frame.Frame.{Frame}
use Rattle.its_frame.specs.declared.frame.Frame.TheVariants.{Entered, Parsed, Asked, Holding, Waiting, Moving, Ending}
use Rattle.its_stepped.specs.TwoParts.{parse, fetch}
use Rattle.its_plain.specs.Call.Arguments.{debts}
use Rattle.its_plain.specs.Call.Step.{with_core_and_job, with_fault, informs, informed_slots, decision}
use Rattle.its_plain.specs.Unit.Interrupt.{Delivered, deliverable, delivered}
use Rattle.its_plain.specs.Machine.{Whole, changed}
use Rattle.its_plain.specs.Machine.Own.{with_stores}
use Rattle.its_plain.specs.Unit.{Outcome, Changed, Faulted, Called, unit}
use Rattle.its_word.specs.Stores.{stored}
use Rattle.its_stepped.specs.State.{State, plain, seen, with_slot, same, reserving, entered, parsed, asked, holding}
use Rattle.its_stepped.specs.Unwind.{all_unwound}
use Rattle.its_stepped.specs.Commit.{effects_on, after_commit}
use Rattle.its_stepped.specs.Tick.{works, after_delivery, user_on, unit_on, parsed_on, fetched_on, after_preparation, reserves, with_preparation, tried, tried_by, quarters, held_on, tick_in, tick_unless, tick_of, tick}
use Rattle.its_stepped.specs.Sound.{Stands, Stored, Debts, Paged, parts_in_frame, SoundFrame, SoundBy, SoundSlot, Sound}
use Rattle.its_stepped.specs.Duty.{Duty, Meets, GivenBy, Given, parts_in, IsTried}
use Rattle.its_stepped.proofs.Ticking.WaitLaws.{no_error_goes, stuck_waits}
use Rattle.its_stepped.proofs.Frame.FrameLaws.{changed_only, on_slot_here, on_slot_other}
use Rattle.its_stepped.proofs.Frame.DebtLaws.{debts_none}
use Rattle.its_stepped.proofs.Unwinding.UnwindLaws.{unwind_sound, all_unwound_sound, all_unwound_keeps}
use Rattle.its_stepped.proofs.Frame.OwnLaws.{reserved_none}
use Rattle.its_stepped.proofs.Frame.MarkLaws.{marking_begins, marking_all, marking_within, mark_gone_on}
use Rattle.its_stepped.proofs.Committing.CommitSound.{slot_sound, user_sound, with_slot_sound, others_sound, waits_sound, committed_sound}
use Rattle.its_stepped.proofs.Ticking.TickLaws.{asks, told_quiet, Found, found, Trying, here_found, trying_holding, trying_waiting}

-- the page of a slot in user mode
pub page_none : (o : Option Whole) (f : Option Frame) (r : Option ℕ) → SoundBy o f r → f ≡ None → r ≡ None
page_none None f r h e = h.1
page_none (Some q) None r h e = h
page_none (Some q) (Some f) r h e = cc

-- a slot that gets a frame, or loses it
put_frame : (w : State) (j : ℕ) (q : Whole) (h : Whole → Whole) (f : Option Frame) → Sound w → w.raw.jobs j ≡ Some q → parts_in_frame (w.frames j) ≡ []
    → SoundSlot (Some (h q)) f (w.reserved j) → Sound (with_slot w j h f)
put_frame w j q h f sound is parts here =
    with_slot_sound w j h f (λ k ne. sound.each k) (slot_sound (Some (h q)) _ f _ (w.reserved j) _ (ap (option_map h) is) refl refl here)
    (mark_gone_on j w.frames f w.mark (marking_begins j w.mark w.frames sound.mark parts))

drop_frame : (w : State) (j : ℕ) (q : Whole) (h : Whole → Whole) → Sound w → w.raw.jobs j ≡ Some q → parts_in_frame (w.frames j) ≡ []
    → w.reserved j ≡ None → Sound (with_slot w j h None)
drop_frame w j q h sound is parts page = put_frame w j q h None sound is parts (user_sound (Some (h q)) None (w.reserved j) refl page)

with_frame : (w : State) (j : ℕ) (q : Whole) (f : Frame) → Sound w → w.raw.jobs j ≡ Some q → parts_in_frame (w.frames j) ≡ [] → SoundFrame q f (w.reserved j)
    → Sound (with_slot w j same (Some f))
with_frame w j q f sound is parts h = put_frame w j q same (Some f) sound is parts (record { by = h })

-- a slot whose page is another with its frame
with_page_frame : (w : State) (j : ℕ) (q : Whole) (f : Frame) (r : Option ℕ) → Sound w → w.raw.jobs j ≡ Some q
    → parts_in_frame (w.frames j) ≡ [] → SoundFrame q f r
    → Sound (reserving (with_slot w j same (Some f)) j r)
with_page_frame w j q f r sound is parts h = record {
  each = λ k. elim (cases_eq k j) [
    | inl e ↦ slot_sound (Some q) _ (Some f) _ r _
        (ap (λ (i : ℕ). (with_slot w j same (Some f)).raw.jobs i) e ∙ on_slot_here w.raw.jobs j same ∙ ap (option_map same) is)
        (ap (λ (i : ℕ). changed w.frames j (Some f) i) e ∙ (changed_only w.frames j (Some f)).here)
        (ap (λ (i : ℕ). changed w.reserved j r i) e ∙ (changed_only w.reserved j r).here)
        (record { by = h })
    | inr ne ↦ slot_sound (w.raw.jobs k) _ (w.frames k) _ (w.reserved k) _
        (on_slot_other w.raw.jobs j k same ne) ((changed_only w.frames j (Some f)).others k ne) ((changed_only w.reserved j r).others k ne) (sound.each k)
  ];
  mark = mark_gone_on j w.frames (Some f) w.mark (marking_begins j w.mark w.frames sound.mark parts);
}

-- user mode
informs_part : (b : Bool) (o : Option ℕ) → parts_in (informs b o) ≡ 0
informs_part true (Some s) = refl
informs_part true None = refl
informs_part false o = refl

delivered_sound : (w : State) (j : ℕ) (q : Whole) (d : Delivered) → Sound w → w.frames j ≡ None → Sound (after_delivery w j q d)
delivered_sound w j q d sound none =
    let ks = informed_slots d.stops q.superior in
    let cs = informs d.stops q.superior in
    let v = all_unwound ks w in
    let u = effects_on cs j v in
    let sv : Sound v = all_unwound_sound ks w sound in
    let free : v.frames j ≡ None = all_unwound_keeps ks w j sound none in
    let page : v.reserved j ≡ None = page_none (v.raw.jobs j) (v.frames j) (v.reserved j) (sv.each j).by free in
    let quiet = told_quiet w j d.stops q.superior sound in
    let marks = marking_all cs j v 0 quiet (marking_begins j v.mark v.frames sv.mark (ap parts_in_frame free)) in
    let no_part : parts_in cs ≡ 0 = informs_part d.stops q.superior in
    with_slot_sound u j (with_core_and_job d.core d.job) None
    (others_sound cs j v quiet (λ k ne. sv.each k))
    (user_sound (option_map (with_core_and_job d.core d.job) (u.raw.jobs j)) None (u.reserved j) refl (reserved_none cs j v j page))
    (mark_gone_on j u.frames None u.mark (marking_within j u.mark u.frames (parts_in cs + 0) 0 (omega arith) marks))

entered_frame : (q : Whole) (s : Site) (r : Option ℕ) → q.job.stopped ≡ false → deliverable q.job ≡ false → unit q.core q.job ≡ Called s
    → r ≡ None → SoundFrame q (entered s) r
unfolding seen
entered_frame q s r runs quiet u page = record { runs = runs; quiet = quiet; standing = u; pays = page; stuck = tt }

parsed_frame : (q : Whole) (s : Site) (b : List ℕ) (r : Option ℕ) → q.job.stopped ≡ false → deliverable q.job ≡ false
    → unit q.core q.job ≡ Called s → parse q.core s ≡ Ok b → r ≡ None
    → SoundFrame q (parsed s b) r
unfolding seen
parsed_frame q s b r runs quiet u p page = record { runs = runs; quiet = quiet; standing = (u, p); pays = page; stuck = tt }

asked_frame : (q : Whole) (s : Site) (a : Ask) (r : Option ℕ) → q.job.stopped ≡ false → deliverable q.job ≡ false → Stands q.core q.job s a
    → r ≡ None → SoundFrame q (asked s a) r
unfolding seen
asked_frame q s a r runs quiet h page = record { runs = runs; quiet = quiet; standing = h; pays = page; stuck = tt }

unit_sound : (w : State) (j : ℕ) (q : Whole) (o : Outcome) → Sound w → w.raw.jobs j ≡ Some q → q.job.stopped ≡ false
    → deliverable q.job ≡ false → w.frames j ≡ None → unit q.core q.job ≡ o
    → Sound (unit_on w j o).state
unit_sound w j q o sound is runs quiet none u = go o u
  where
    page : w.reserved j ≡ None
    page = page_none (w.raw.jobs j) (w.frames j) (w.reserved j) (sound.each j).by none

    go : (o : Outcome) → unit q.core q.job ≡ o → Sound (unit_on w j o).state
    go (Changed c k) u = drop_frame w j q (with_core_and_job c k) sound is (ap parts_in_frame none) page
    go (Faulted f) u = drop_frame w j q (with_fault f) sound is (ap parts_in_frame none) page
    go (Called s) u = with_frame w j q (entered s) sound is (ap parts_in_frame none) (entered_frame q s (w.reserved j) runs quiet u page)

user_row_sound : (w : State) (j : ℕ) (q : Whole) (b : Bool) → Sound w → w.raw.jobs j ≡ Some q → q.job.stopped ≡ false → w.frames j ≡ None
    → deliverable q.job ≡ b → Sound (user_on w j q b).state
user_row_sound w j q true sound is runs none d = delivered_sound w j q (delivered q.core q.job) sound none
user_row_sound w j q false sound is runs none d = unit_sound w j q (unit q.core q.job) sound is runs d none refl

-- the decoding
parsed_sound : (w : State) (j : ℕ) (q : Whole) (s : Site) (r : Result (List ℕ) Fault) → Sound w → w.raw.jobs j ≡ Some q
    → q.job.stopped ≡ false → deliverable q.job ≡ false
    → parts_in_frame (w.frames j) ≡ [] → w.reserved j ≡ None → unit q.core q.job ≡ Called s → parse q.core s ≡ r → Sound (parsed_on w j s r).state
parsed_sound w j q s (Ok b) sound is runs quiet parts page u p =
    with_frame w j q (parsed s b) sound is parts (parsed_frame q s b (w.reserved j) runs quiet u p page)
parsed_sound w j q s (Err f) sound is runs quiet parts page u p = drop_frame w j q (with_fault f) sound is parts page

fetched_sound : (w : State) (j : ℕ) (q : Whole) (s : Site) (b : List ℕ) (r : Result Ask Fault) → Sound w → w.raw.jobs j ≡ Some q
    → q.job.stopped ≡ false → deliverable q.job ≡ false
    → parts_in_frame (w.frames j) ≡ [] → w.reserved j ≡ None → unit q.core q.job ≡ Called s → parse q.core s ≡ Ok b → fetch q.core s b ≡ r
    → Sound (fetched_on w j s r).state
fetched_sound w j q s b (Ok a) sound is runs quiet parts page u p f =
    with_frame w j q (asked s a) sound is parts (asked_frame q s a (w.reserved j) runs quiet
    (record { unit_is = u; ask_is = asks q.core s b (Ok a) p f }) page)
fetched_sound w j q s b (Err x) sound is runs quiet parts page u p f = drop_frame w j q (with_fault x) sound is parts page

no_debts : (c : Core) (a : Ask) → Debts c a 0
no_debts c a = record {
  few = omega arith;
  read = ap (λ ss. length ss) (debts_none a);
  stored = subst (λ ss. Stored c ss) (sym (debts_none a)) tt;
}

holding_frame : (q : Whole) (s : Site) (a : Ask) (page : Option ℕ) (n : ℕ) → q.job.stopped ≡ false → deliverable q.job ≡ false
    → Stands (stored q.core (debts a n)) q.job s a
    → Debts q.core a n → IfSome page (Paged a n) → reserves a ≡ is_some page → SoundFrame q (holding s a page n) page
unfolding seen
holding_frame q s a page n runs quiet stands d p e = record {
  runs = runs;
  quiet = quiet;
  standing = stands;
  pays = record { debts = d; page_is = refl; paged = p; has = e };
  stuck = tt;
}

stored_nothing : (c : Core) (j : Job) (s : Site) (a : Ask) → Stands c j s a → Stands (stored c (debts a 0)) j s a
unfolding stored
stored_nothing c j s a h = subst (λ ss. Stands (stored c ss) j s a) (sym (debts_none a)) h

prepared_sound : (w : State) (j : ℕ) (q : Whole) (s : Site) (a : Ask) (b : Bool) → Sound w → w.raw.jobs j ≡ Some q → q.job.stopped ≡ false
    → deliverable q.job ≡ false
    → parts_in_frame (w.frames j) ≡ [] → w.reserved j ≡ None → Stands q.core q.job s a → reserves a ≡ b → Sound (after_preparation w j s a b)
prepared_sound w j q s a true sound is runs quiet parts page stands e =
    with_page_frame w j q (holding s a (Some 0) 0) (Some 0) sound is parts
    (holding_frame q s a (Some 0) 0 runs quiet (stored_nothing q.core q.job s a stands) (no_debts q.core a)
    (record { most = omega arith; reserves = e; owes = refl }) e)
prepared_sound w j q s a false sound is runs quiet parts page stands e =
    with_frame w j q (holding s a None 0) sound is parts
    (subst (λ (r : Option ℕ). SoundFrame q (holding s a None 0) r) (sym page)
    (holding_frame q s a None 0 runs quiet (stored_nothing q.core q.job s a stands) (no_debts q.core a) tt e))

-- a call that is tried
decided_sound : (w v : State) (j : ℕ) (q : Whole) (s : Site) (a : Ask) (n : ℕ) (d : Decision) → Sound w → Trying w j q s a n → Found w v j
    → Duty v j (with_stores (debts a n) q) s a n d → decision (plain w) j (with_stores (debts a n) q) a ≡ d → Sound (tried w v j s a n d).state
unfolding after_commit
decided_sound w v j q s a n (Waits r) sound t f duty e =
    waits_sound w j q s a n sound t.here t.stands (record { page = sym f.slot.page ∙ duty.page; waitable = duty.waitable })
    (stuck_waits (plain w) j (with_stores (debts a n) q) a r duty.waitable e)
decided_sound w v j q s a n (Goes cs h vs) sound t f duty e =
    committed_sound v j q s a n (Goes cs h vs) f.sound (here_found w v j q a n f.slot t.here) duty tt
    (λ t. no_error_goes (plain w) j (with_stores (debts a n) q) a _ e t)
decided_sound w v j q s a n (Ends cs ss x) sound t f duty e =
    committed_sound v j q s a n (Ends cs ss x) f.sound (here_found w v j q a n f.slot t.here) duty tt
    (λ t. no_error_goes (plain w) j (with_stores (debts a n) q) a _ e t)
decided_sound w v j q s a n (Gone cs) sound t f duty e = committed_sound v j q s a n (Gone cs) f.sound
    (here_found w v j q a n f.slot t.here) duty tt (λ t. no_error_goes (plain w) j (with_stores (debts a n) q) a _ e t)

tried_sound : (w : State) (j : ℕ) (q : Whole) (s : Site) (a : Ask) (n : ℕ) → Sound w → Trying w j q s a n → Meets w j (with_stores (debts a n) q) s a n
    → Sound (tried_by w j (with_stores (debts a n) q) s a n).state
tried_sound w j q s a n sound t m =
    let own : Whole = with_stores (debts a n) q in
    decided_sound w (with_preparation w j own a) j q s a n (decision (plain w) j own a) sound t (found w j own a sound m.apart) m.duty refl

-- a page that is cleared
quarter_sound : (w : State) (j : ℕ) (q : Whole) (s : Site) (a : Ask) (p n : ℕ) (b : Bool) → Sound w → Trying w j q s a n
    → (b ≡ false → Meets w j (with_stores (debts a n) q) s a n)
    → Paged a n p → nat_lt p quarters ≡ b
    → Sound (if b then works (reserving (with_slot w j same (Some (holding s a (Some (p + 1)) n))) j (Some (p + 1))) else tried_by w j
    (with_stores (debts a n) q) s a n).state
quarter_sound w j q s a p n true sound t m h e =
    let less : p < 4 = ltb-true p 4 e in
    with_page_frame w j q (holding s a (Some (p + 1)) n) (Some (p + 1)) sound t.here.job_is t.here.parts
    (holding_frame q s a (Some (p + 1)) n t.here.runs t.here.quiet t.stands t.here.debts
    (record { most = omega arith; reserves = h.reserves; owes = h.owes }) h.reserves)
quarter_sound w j q s a p n false sound t m h e = tried_sound w j q s a n sound t (m refl)

held_sound : (w : State) (j : ℕ) (q : Whole) (s : Site) (a : Ask) (page : Option ℕ) (n : ℕ) → Sound w → Trying w j q s a n
    → (IsTried page → Meets w j (with_stores (debts a n) q) s a n)
    → IfSome page (Paged a n) → Sound (held_on w j (with_stores (debts a n) q) s a page n).state
held_sound w j q s a None n sound t m h = tried_sound w j q s a n sound t (m tt)
held_sound w j q s a (Some p) n sound t m h = quarter_sound w j q s a p n (nat_lt p quarters) sound t m h refl

-- a job inside a call
frame_sound : (w : State) (j : ℕ) (q : Whole) (f : Frame) → Sound w → w.raw.jobs j ≡ Some q → w.frames j ≡ Some f
    → SoundFrame q f (w.reserved j) → GivenBy w j q (Some f)
    → Sound (tick_in w j q (Some f)).state
unfolding seen
frame_sound w j q (Entered f) sound is fr h g = parsed_sound w j q f.site (parse q.core f.site) sound is h.runs h.quiet
    (ap parts_in_frame fr) h.pays h.standing refl
frame_sound w j q (Parsed f) sound is fr h g =
    fetched_sound w j q f.site f.block.items (fetch q.core f.site f.block.items) sound is h.runs h.quiet (ap parts_in_frame fr) h.pays
    h.standing.0 h.standing.1 refl
frame_sound w j q (Asked f) sound is fr h g = prepared_sound w j q f.site f.ask (reserves f.ask) sound is h.runs h.quiet
    (ap parts_in_frame fr) h.pays h.standing refl
frame_sound w j q (Holding f) sound is fr h g = held_sound w j q f.site f.ask f.page f.owes sound (trying_holding w j q f is fr h) g h.pays.paged
frame_sound w j q (Waiting f) sound is fr h g = tried_sound w j q f.site f.ask f.owes sound (trying_waiting w j q f is fr h) g
frame_sound w j q (Moving f) sound is fr h g = unwind_sound w j sound
frame_sound w j q (Ending f) sound is fr h g = unwind_sound w j sound

running_sound : (w : State) (j : ℕ) (q : Whole) (o : Option Frame) → Sound w → w.raw.jobs j ≡ Some q → q.job.stopped ≡ false
    → w.frames j ≡ o → SoundBy (Some q) o (w.reserved j) → GivenBy w j q o
    → Sound (tick_in w j q o).state
running_sound w j q None sound is runs fr h g = user_row_sound w j q (deliverable q.job) sound is runs fr refl
running_sound w j q (Some f) sound is runs fr h g = frame_sound w j q f sound is fr h g

unless_sound : (w : State) (j : ℕ) (q : Whole) (b : Bool) → Sound w → Given w j → w.raw.jobs j ≡ Some q → q.job.stopped ≡ b
    → Sound (tick_unless w j q b).state
unless_sound w j q true sound g is e = sound
unless_sound w j q false sound g is e =
    running_sound w j q (w.frames j) sound is e refl (subst (λ (o : Option Whole). SoundBy o (w.frames j) (w.reserved j)) is (sound.each j).by) (g.by q is)

slot_ticked : (w : State) (j : ℕ) (o : Option Whole) → Sound w → Given w j → w.raw.jobs j ≡ o → Sound (tick_of w j o).state
slot_ticked w j None sound g is = sound
slot_ticked w j (Some q) sound g is = unless_sound w j q q.job.stopped sound g is refl

pub tick_sound : (w : State) (j : ℕ) → Sound w → Given w j → Sound (tick w j).state
unfolding tick
tick_sound w j sound g = slot_ticked w j (w.raw.jobs j) sound g refl
