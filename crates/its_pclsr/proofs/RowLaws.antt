-- Each step of unwinding is its row.
use Rattle.std.specs.Prelude.{◌≡◌, ◌≢◌, ◌<◌, ◌≤◌, ℕ, zero, suc, ◌-◌, true, false, Option, Some, None, IfSome, is_some, List, [], ◌∷◌, length, slice_index_or, slice_get, unwrap_or, Result, Ok, Err, ◌%◌, ◌^◌, drop, refl}
use Rattle.std.proofs.Common.{arith, sym, ap, ◌∙◌, subst}
use Rattle.std.proofs.lemmas.List.{drop_all}
use Rattle.its_frame.specs.declared.frame.Frame.{Frame}
use Rattle.its_word.specs.Byte.{deposit_of}
use Rattle.its_word.specs.Core.{Core, can_store, word_at, got, get}
use Rattle.its_word.proofs.CoreLaws.{word_at-can_store}
use Rattle.its_word.specs.declared.access.NoAccess.{NoAccess}
use Rattle.its_records.specs.declared.calls.Operand.{Operand}
use Rattle.its_records.specs.declared.calls.Ask.{Ask}
use Rattle.its_records.specs.declared.calls.Site.{Site}
use Rattle.its_word.specs.declared.plan.Store.{Store}
use Rattle.its_core.specs.Cores.{core_at, clear_at}
use Rattle.its_jobs.specs.Table.{job_at}
use Rattle.its_plain.specs.Call.Arguments.{input, value_in, debts, stores_of}
use Rattle.its_plain.specs.Machine.Change.{poke}
use Rattle.its_plain.specs.Call.Step.{deposited, with_held}
use Rattle.its_plain.specs.Machine.Own.{with_stores}
use Rattle.its_word.specs.Stores.{place, stored}
use Rattle.its_stepped.specs.State.{State, held_at, with_slot, same, reserving, asked, holding}
use Rattle.its_stepped.specs.Unwind.{first_debt, paid, after_giving_back}
use Rattle.its_stepped.specs.Sound.{Stored, MovingPays}
use Rattle.its_in_call.specs.Calls.{gone_to, request_in}
use Rattle.its_in_call.specs.declared.call.Next.{Next}
use Rattle.its_world.specs.World.{state_of, frame_at, Becomes, CoreBecomes, FrameBecomes, PageBecomes}
use Rattle.its_world.specs.declared.world.World.{World}
use Rattle.its_world.proofs.WorldLaws.{then_becomes}
use Rattle.its_world.proofs.StateLaws.{job_of, turned_state, stored_slot}

each : {X : Type 0} {P Q : X → Type 0} (o : Option X) → ((x : X) → P x → Q x) → IfSome o P → IfSome o Q
each (Some x) f h = f x h
each None f h = tt

-- a store, and then a frame
paid_becomes : (old mid new : World) (s : ℕ) (c : Core) (f : Option Frame) → CoreBecomes old mid s c → FrameBecomes mid new s f
    → Becomes old new s c (job_at old.jobs s) f (clear_at old.core s)
paid_becomes old mid new s c f a b = then_becomes old mid new s c c (job_at old.jobs s) (job_at old.jobs s) (frame_at old.frames.items s) f
    (clear_at old.core s) a
    (subst (λ x. Becomes mid new s x (job_at old.jobs s) f (clear_at old.core s)) a.core.here
    (subst (λ x. Becomes mid new s (core_at mid.core s) x f (clear_at old.core s)) a.job.here
    (subst (λ x. Becomes mid new s (core_at mid.core s) (job_at mid.jobs s) f x) a.reserved.here b)))

-- a reserved page, and then a frame
pub paged_becomes : (old mid new : World) (s : ℕ) (r : Option ℕ) (f : Option Frame) → PageBecomes old mid s r → FrameBecomes mid new s f
    → Becomes old new s (core_at old.core s) (job_at old.jobs s) f r
paged_becomes old mid new s r f a b = then_becomes old mid new s (core_at old.core s) (core_at old.core s) (job_at old.jobs s)
    (job_at old.jobs s) (frame_at old.frames.items s) f r a
    (subst (λ x. Becomes mid new s x (job_at old.jobs s) f r) a.core.here
    (subst (λ x. Becomes mid new s (core_at mid.core s) x f r) a.job.here
    (subst (λ x. Becomes mid new s (core_at mid.core s) (job_at mid.jobs s) f x) a.reserved.here b)))

-- a frame that was not written is still that of a call whose arguments are found
pub still : (f g : Option Frame) → g ≡ f → is_some (request_in f) ≡ true → is_some (request_in g) ≡ true
still f g e h = ap (λ (o : Option Frame). is_some (request_in o)) e ∙ h

-- a frame that is written after a word, or after a page was given back
pub paid_row : (old mid new : World) (s : ℕ) (c : Core) (x : Next) → CoreBecomes old mid s c
    → IfSome (request_in (frame_at mid.frames.items s)) (λ r. FrameBecomes mid new s (Some (gone_to x r)))
    → IfSome (request_in (frame_at old.frames.items s)) (λ r. Becomes old new s c (job_at old.jobs s) (Some (gone_to x r)) (clear_at old.core s))
paid_row old mid new s c x a b =
    each (request_in (frame_at old.frames.items s)) (λ r h. paid_becomes old mid new s c (Some (gone_to x r)) a h)
    (subst (λ (o : Option Frame). IfSome (request_in o) (λ r. FrameBecomes mid new s (Some (gone_to x r)))) a.frame.here b)

pub backed_row : (old mid new : World) (s : ℕ) → PageBecomes old mid s None
    → IfSome (request_in (frame_at mid.frames.items s)) (λ r. FrameBecomes mid new s (Some (asked r.site r.ask)))
    → IfSome (request_in (frame_at old.frames.items s)) (λ r. Becomes old new s (core_at old.core s) (job_at old.jobs s) (Some (asked r.site r.ask)) None)
backed_row old mid new s a b =
    each (request_in (frame_at old.frames.items s)) (λ r h. paged_becomes old mid new s None (Some (asked r.site r.ask)) a h)
    (subst (λ (o : Option Frame). IfSome (request_in o) (λ r. FrameBecomes mid new s (Some (asked r.site r.ask)))) a.frame.here b)

-- the first pending argument is stored; if nothing is pending, the frame is dropped
pub some_paid : (w : State) (s n : ℕ) (a : Ask) (t : Store) (f : ℕ → Frame) → n ≢ 0 → first_debt (debts a n) ≡ t ∷ []
    → with_slot w s (with_stores (t ∷ [])) (Some (f (n - 1))) ≡ paid w s a n f
some_paid w s zero a t f some first = absurd (some refl)
some_paid w s (suc n) a t f some first =
    let e : suc n - 1 ≡ n = omega arith in
    ap (λ (k : ℕ). with_slot w s (with_stores (t ∷ [])) (Some (f k))) e ∙ ap (λ (ss : List Store). with_slot w s (with_stores ss) (Some (f n))) (sym first)

nothing_first : (a : Ask) → first_debt (debts a 0) ≡ []
unfolding debts
nothing_first a =
    let e : drop (length a.inputs.items - 0) a.inputs.items ≡ [] = drop_all (length a.inputs.items - 0) a.inputs.items (omega arith) in
    ap (λ os. first_debt (stores_of os)) e

nothing_stored : (old new : World) (s : ℕ) → is_some (job_at old.jobs s) ≡ true → FrameBecomes old new s None
    → state_of new ≡ with_slot (state_of old) s (with_stores []) None
unfolding stored
nothing_stored old new s j b = stored_slot old new s [] None j b

pub none_paid : (old new : World) (s n : ℕ) (a : Ask) (f : ℕ → Frame) → is_some (job_at old.jobs s) ≡ true → n ≡ 0
    → FrameBecomes old new s None → state_of new ≡ paid (state_of old) s a n f
none_paid old new s zero a f j e b = nothing_stored old new s j b ∙ ap (λ ss. with_slot (state_of old) s (with_stores ss) None) (sym (nothing_first a))
none_paid old new s (suc n) a f j e b = absurd (omega arith)

-- the first pending argument can be stored
pub first_can : (c : Core) (ss : List Store) (t : Store) → Stored c ss → first_debt ss ≡ t ∷ [] → can_store c (place t) ≡ true
first_can c [] t h e = cc
first_can c (x ∷ ss) t h e = let is : x ≡ t = cc in subst (λ (y : Store). can_store c (place y) ≡ true) is h.0

-- a call that has reserved a page gives it back; one that has reserved none pays
pub page_backed : (w : State) (s n : ℕ) (t : Site) (a : Ask) (page : Option ℕ) → is_some page ≡ true
    → reserving (with_slot w s same (Some (asked t a))) s None ≡ after_giving_back w s t a page n
page_backed w s n t a (Some p) some = refl
page_backed w s n t a None some = cc

pub none_backed : (w : State) (s n : ℕ) (t : Site) (a : Ask) (page : Option ℕ) → is_some page ≡ false
    → paid w s a n (holding t a None) ≡ after_giving_back w s t a page n
none_backed w s n t a (Some p) none = cc
none_backed w s n t a None none = refl

-- a held byte is stored
pub moved_slot : (old new : World) (s : ℕ) (a : Ask) (place byte : ℕ) (f : Option Frame) → is_some (job_at old.jobs s) ≡ true
    → Becomes old new s (stored (core_at old.core s) (deposited (core_at old.core s) (input a 1) (held_at place byte) ∷ []))
    (job_at old.jobs s) f (clear_at old.core s)
    → state_of new ≡ with_slot (state_of old) s (with_held a (Some (held_at place byte))) f
moved_slot old new s a place byte f h b =
    let j = job_of (job_at old.jobs s) h in
    turned_state old new s _ j.0 j.0 f (with_held a (Some (held_at place byte)))
    (subst (λ o. Becomes old new s (stored (core_at old.core s) (deposited (core_at old.core s) (input a 1) (held_at place byte) ∷ [])) o f
    (clear_at old.core s)) j.1 b) j.1 refl

-- the word of a held byte is there, and its deposit is stored
there_of : (c : Core) (at : ℕ) → at < 2 ^ 18 → can_store c (place (poke at 0)) ≡ true → is_some (word_at c at) ≡ true
there_of c at h can = let e : at % 2 ^ 18 ≡ at = omega arith in word_at-can_store c at (subst (λ (k : ℕ). can_store c k ≡ true) e can)

not_absent : (o : Option ℕ) (e : NoAccess) → is_some o ≡ true → got o ≡ Err e → ⊥
not_absent (Some w) e h g = cc
not_absent None e h g = cc

pub held_there : (c : Core) (r : Option ℕ) (a : Ask) (at : ℕ) (e : NoAccess) (x : Result ℕ NoAccess) → MovingPays c r a at → x ≡ get c at → x ≡ Err e → ⊥
held_there c r a at e x h g k = not_absent (word_at c at) e (there_of c at h.within h.place) (sym g ∙ k)

got_word : (o : Option ℕ) (w : ℕ) → got o ≡ Ok w → unwrap_or o 0 ≡ w
got_word (Some x) w h = cc
got_word None w h = cc

second : (os : List Operand) (o : Operand) → o ≡ slice_index_or os 1 o → 1 < length os → o.value ≡ value_in (slice_get os 1)
second [] o h l = absurd (omega arith)
second (x ∷ []) o h l = absurd (omega arith)
second (x ∷ y ∷ os) o h l = ap (λ (k : Operand). k.value) h

pub held_stored : (c : Core) (a : Ask) (at byte w d : ℕ) (x : Result ℕ NoAccess) (o : Operand) (os : List Operand) → x ≡ get c at → x ≡ Ok w
    → o ≡ slice_index_or os 1 o → os ≡ a.inputs.items → 2 ≤ length a.inputs.items → d ≡ deposit_of o.value w byte
    → record { at = at; word = d } ≡ deposited c (input a 1) (held_at at byte)
held_stored c a at byte w d x o os g k is items some e =
    λ i. record { at = at; word = (e ∙ (λ t. deposit_of (pointer t) (word t) byte)) i }
  where
    pointer : o.value ≡ input a 1
    pointer = second os o is (subst (λ (xs : List Operand). 1 < length xs) (sym items) (omega arith))
        ∙ ap (λ (xs : List Operand). value_in (slice_get xs 1)) items

    word : w ≡ unwrap_or (word_at c at) 0
    word = sym (got_word (word_at c at) w (sym g ∙ k))

pub moving_can : (c : Core) (r : Option ℕ) (a : Ask) (at byte : ℕ) (t : Store) → MovingPays c r a at
    → t ≡ deposited c (input a 1) (held_at at byte) → can_store c (place t) ≡ true
moving_can c r a at byte t h e = subst (λ (x : Store). can_store c (place x) ≡ true) (sym e) h.place
