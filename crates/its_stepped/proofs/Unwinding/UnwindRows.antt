-- The row of each frame but that of an ended call.
use Rattle.std.specs.Prelude.{◌≡◌, ℕ, zero, suc, ◌+◌, Option, Some, None, IfSome, [], ◌∷◌, refl}
use Rattle.std.proofs.Common.{sym, ◌∙◌, ap, subst, arith}
use Rattle.its_word.specs.Core.{Core}
use Rattle.its_records.specs.declared.calls.Ask.{Ask}
use Rattle.its_records.specs.declared.calls.Site.{Site}
use Rattle.its_frame.specs.declared.decision.Held.{Held}
use Rattle.its_frame.specs.declared.frame.Frame.{Frame}
use Rattle.its_plain.specs.Unit.Interrupt.{deliverable}
use Rattle.its_plain.specs.Machine.{Whole}
use Rattle.its_plain.specs.Machine.Own.{with_stores}
use Rattle.its_plain.specs.Machine.Change.{in_job}
use Rattle.its_plain.specs.Call.Arguments.{input, debts}
use Rattle.its_plain.specs.Call.Step.{deposited, with_held}
use Rattle.its_word.specs.Stores.{place, stored}
use Rattle.its_stepped.specs.State.{State, mine, seen, with_slot, same, reserving, asked, holding, waiting, moving}
use Rattle.its_stepped.specs.Unwind.{first_debt, paid, after_giving_back, left_by}
use Rattle.its_stepped.specs.Sound.{Stuck, Stands, Stored, Debts, SoundFrame, MarkBy, parts_in_frame}
use Rattle.its_stepped.specs.OneChange.{OneChange, OneWord}
use Rattle.its_stepped.proofs.Frame.FrameLaws.{stored_one, stores_none, stores_cons}
use Rattle.its_stepped.proofs.Frame.DebtLaws.{NextOwed, debts_next, debts_none, debts_behind}
use Rattle.its_stepped.proofs.Frame.PageLaws.{owes_reserves_none}
use Rattle.its_stepped.proofs.Unwinding.RowLaws.{Rowed, job_alike, slot_row, frame_row, page_row}

-- a job with a frame, and what soundness says of it
pub record At (w : State) (j : ℕ) (q : Whole) (f : Frame) : Type 0 where
  pub job : w.raw.jobs j ≡ Some q
  pub frame : w.frames j ≡ Some f
  pub sound : SoundFrame q f (w.reserved j)
  pub mark : IfSome w.mark (λ m. MarkBy m w.frames)

-- a call in user mode again
pub dropped_row : (w : State) (j : ℕ) (q : Whole) (f : Frame) → At w j q f → ((p : Whole) → seen (Some f) p ≡ p) → w.reserved j ≡ None
    → parts_in_frame (Some f) ≡ [] → left_by (mine w.mark j) (Some f) ≡ 1 → Rowed w (with_slot w j same None) j
unfolding seen
dropped_row w j q f at sees page parts one =
    frame_row w j q None at.job (rw at.frame (sees q)) page at.mark (λ mine. rw at.frame (sym parts)) (rw at.frame (sym one))

-- the first pending word of a call that is still there is stored
paid_none : (w : State) (j : ℕ) (a : Ask) (mk : ℕ → Frame) → paid w j a 0 mk ≡ with_slot w j same None
paid_none w j a mk =
    let p : in_job w.raw j (with_stores (first_debt (debts a 0))) ≡ in_job w.raw j same =
    job_alike w.raw j _ _ (λ q is. ap (λ ss. with_stores (first_debt ss) q) (debts_none a) ∙ stores_none q) in
    λ t. record (with_slot w j same None) { raw = p t }

debts_less : (c : Core) (a : Ask) (n : ℕ) → (d : Debts c a (suc n)) → (x : NextOwed a n) → Debts (stored c (x.first ∷ [])) a n
debts_less c a n d x = rw (stored_one c x.first) (debts_behind c (place x.first) x.first.word a n (record {
  few = let few = d.few in omega arith;
  read = x.rest;
  stored = (subst (Stored c) x.is d.stored).1;
}))

pub paid_row : (w : State) (j : ℕ) (q : Whole) (a : Ask) (mk : ℕ → Frame) (n : ℕ) → At w j q (mk n)
    → ((m : ℕ) (p : Whole) → seen (Some (mk m)) p ≡ with_stores (debts a m) p)
    → ((m : ℕ) → left_by (mine w.mark j) (Some (mk m)) ≡ m + 1)
    → ((m : ℕ) → parts_in_frame (Some (mk m)) ≡ [])
    → Debts q.core a n → w.reserved j ≡ None
    → ((m : ℕ) (p : Whole) → p.job ≡ q.job → seen (Some (mk m)) p ≡ seen (Some (mk n)) q → Debts p.core a m → SoundFrame p (mk m) (w.reserved j))
    → Rowed w (paid w j a n mk) j
paid_row w j q a mk zero at sees lefts parts d page sound =
    subst (λ v. Rowed w v j) (sym (paid_none w j a mk))
    (dropped_row w j q (mk zero) at (λ p. sees zero p ∙ ap (λ ss. with_stores ss p) (debts_none a) ∙ stores_none p) page (parts zero) (lefts zero))
paid_row w j q a mk (suc n) at sees lefts parts d page sound =
    let x = debts_next a n d.read in
    let p = with_stores (x.first ∷ []) q in
    let alike : seen (Some (mk (suc n))) q ≡ seen (Some (mk n)) p =
    sees (suc n) q ∙ ap (λ ss. with_stores ss q) x.is ∙ stores_cons x.first (debts a n) q ∙ sym (sees n p) in
    let r : Rowed w (with_slot w j (with_stores (x.first ∷ [])) (Some (mk n))) j =
    slot_row w j q (with_stores (x.first ∷ [])) (Some (mk n)) at.job (ap (λ f. seen f q) at.frame ∙ alike)
    (sound n p refl (sym alike) (debts_less q.core a n d x)) at.mark (λ mine. rw at.frame (parts n ∙ sym (parts (suc n))))
    (rw at.frame (let l = lefts n in let m = lefts (suc n) in omega arith)) (OneWord x.first refl) in
    subst (λ ss. Rowed w (with_slot w j (with_stores (first_debt ss)) (Some (mk n))) j) (sym x.is) r

stands_as : (p q : Whole) (s : Site) (a : Ask) → p ≡ q → Stands q.core q.job s a → Stands p.core p.job s a
stands_as p q s a e h = subst (λ r. Stands r.core r.job s a) (sym e) h

holding_none : (w : State) (j : ℕ) (q : Whole) (s : Site) (a : Ask) (n : ℕ) → At w j q (holding s a None n) → Rowed w (paid w j a n (holding s a None)) j
unfolding seen
holding_none w j q s a n at =
    paid_row w j q a (holding s a None) n at (λ m p. refl) (λ m. omega arith) (λ m. refl) at.sound.pays.debts at.sound.pays.page_is (λ m p job e d. record {
      runs = ap (λ k. k.stopped) job ∙ at.sound.runs;
      quiet = ap deliverable job ∙ at.sound.quiet;
      standing = stands_as _ _ s a e at.sound.standing;
      pays = record { debts = d; page_is = at.sound.pays.page_is; paged = tt; has = at.sound.pays.has };
      stuck = tt;
    })

holding_some : (w : State) (j : ℕ) (q : Whole) (s : Site) (a : Ask) (p n : ℕ) → At w j q (holding s a (Some p) n)
    → Rowed w (reserving (with_slot w j same (Some (asked s a))) j None) j
unfolding seen
holding_some w j q s a p n at =
    let none : n ≡ 0 = at.sound.pays.paged.owes in
    let as_is : with_stores (debts a n) q ≡ q = ap (λ k. with_stores (debts a k) q) none ∙ ap (λ ss. with_stores ss q) (debts_none a) ∙ stores_none q in
    page_row w j q (Some (asked s a)) at.job (rw at.frame as_is) (record {
      runs = at.sound.runs;
      quiet = at.sound.quiet;
      standing = stands_as q (with_stores (debts a n) q) s a (sym as_is) at.sound.standing;
      pays = refl;
      stuck = tt;
    }) at.mark (λ mine. rw at.frame) (rw at.frame (omega arith))

pub holding_row : (w : State) (j : ℕ) (q : Whole) (s : Site) (a : Ask) (page : Option ℕ) (n : ℕ) → At w j q (holding s a page n)
    → Rowed w (after_giving_back w j s a page n) j
holding_row w j q s a None n at = holding_none w j q s a n at
holding_row w j q s a (Some p) n at = holding_some w j q s a p n at

pub waiting_row : (w : State) (j : ℕ) (q : Whole) (s : Site) (a : Ask) (n : ℕ) → At w j q (waiting s a n) → Rowed w (paid w j a n (waiting s a)) j
unfolding seen
waiting_row w j q s a n at =
    paid_row w j q a (waiting s a) n at (λ m p. refl) (λ m. refl) (λ m. refl) at.sound.pays.debts at.sound.pays.page_is (λ m p job e d. record {
      runs = ap (λ k. k.stopped) job ∙ at.sound.runs;
      quiet = ap deliverable job ∙ at.sound.quiet;
      standing = stands_as _ _ s a e at.sound.standing;
      pays = record { debts = d; page_is = at.sound.pays.page_is; waitable = at.sound.pays.waitable };
      stuck = subst (λ (x : Whole). Stuck x a) (sym e) at.sound.stuck;
    })

-- a held byte is stored
held_word : (w : State) (j : ℕ) (q : Whole) (a : Ask) (h : Held) (f : Option Frame) → w.raw.jobs j ≡ Some q
    → OneChange w (with_slot w j (with_held a (Some h)) f) j
held_word w j q a h f is =
    let s = deposited q.core (input a 1) h in
    let p : in_job w.raw j (with_held a (Some h)) ≡ in_job w.raw j (with_stores (s ∷ [])) =
    job_alike w.raw j _ _ (λ p e. let here : p ≡ q = cc in ap (λ r. with_stores (deposited r.core (input a 1) h ∷ []) p) here) in
    OneWord s (λ t. record (with_slot w j (with_held a (Some h)) f) { raw = p t })

pub moving_row : (w : State) (j : ℕ) (q : Whole) (s : Site) (a : Ask) (h : Held) → At w j q (moving s a h)
    → Rowed w (with_slot w j (with_held a (Some h)) (Some (holding s a None 2))) j
unfolding seen
moving_row w j q s a h at =
    let d = deposited q.core (input a 1) h in
    slot_row w j q (with_held a (Some h)) (Some (holding s a None 2)) at.job (rw at.frame) (record {
      runs = at.sound.runs;
      quiet = at.sound.quiet;
      standing = at.sound.standing;
      pays = record {
        debts = rw (stored_one q.core d) (debts_behind q.core (place d) d.word a 2 at.sound.pays.debts);
        page_is = at.sound.pays.page_is;
        paged = tt;
        has = owes_reserves_none a 2 (omega arith) at.sound.pays.debts.few;
      };
      stuck = tt;
    }) at.mark (λ mine. rw at.frame) (rw at.frame) (held_word w j q a h (Some (holding s a None 2)) at.job)
