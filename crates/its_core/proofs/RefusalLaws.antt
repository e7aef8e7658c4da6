-- Why a store is refused, by what reading says and by the mark of the page.
use Rattle.std.proofs.Common.{◌≡◌, ◌≢◌, ◌≤◌, ◌/◌, ◌%◌, ℕ, Bool, true, false, Option, Some, None, Ok, Err, is_some, nat_lt, refl, ap, if◌then◌else◌, arith}
use Rattle.std.proofs.lemmas.Bool.Decides.{nat_tests}
use Rattle.its_core.specs.Cores.{mark_of}
use Rattle.its_word.specs.Core.{Core, Page, can_store, got, page_of, stores_in, word_at, word_in}
use Rattle.its_word.specs.declared.access.Fault.TheVariants.{Mpv, Wro}
use Rattle.its_word.specs.declared.access.NoAccess.{NoAccess}
use Rattle.its_word.proofs.CoreLaws.{in_page, stores_page, word_at-can_store}
use Rattle.its_word.specs.Stores.{refusal}

no_refusal : (b : Bool) (x : Option ℕ) → b ≡ true → refusal b x ≡ None
no_refusal true x h = refl
no_refusal false x h = cc

absent_by : (b : Bool) (x : Option ℕ) (e : NoAccess) → (b ≡ true → is_some x ≡ true) → got x ≡ Err e → refusal b x ≡ Some Mpv
absent_by true None e h g = absurd (let t : false ≡ true = h refl in cc)
absent_by false None e h g = refl
absent_by b (Some w) e h g = cc

pub refusal_absent : (c : Core) (a : ℕ) (e : NoAccess) → got (word_at c a) ≡ Err e → refusal (can_store c a) (word_at c a) ≡ Some Mpv
refusal_absent c a e g = absent_by (can_store c a) (word_at c a) e (word_at-can_store c a) g

pub refusal_none_acc : (c : Core) (a : ℕ) → can_store c a ≡ true → refusal (can_store c a) (word_at c a) ≡ None
refusal_none_acc c a h = no_refusal (can_store c a) (word_at c a) h

-- a page, by clauses
read_only_by : (p : Option Page) (k w : ℕ) → got (word_in p k) ≡ Ok w → mark_of p ≡ Some false → refusal (stores_in p k) (word_in p k) ≡ Some Wro
read_only_by None k w g m = cc
read_only_by (Some p) k w g m = go p.writable (word_in (Some p) k) g (let e : p.writable ≡ false = cc in e)
  where
    go : (b : Bool) (x : Option ℕ) → got x ≡ Ok w → b ≡ false → refusal (if b then is_some x else false) x ≡ Some Wro
    go true x g e = cc
    go false None g e = cc
    go false (Some v) g e = refl

writable_by : (p : Option Page) (k w : ℕ) → got (word_in p k) ≡ Ok w → mark_of p ≢ Some false → refusal (stores_in p k) (word_in p k) ≡ None
writable_by None k w g m = cc
writable_by (Some p) k w g m = go p.writable (word_in (Some p) k) g (λ e. m (ap Some e))
  where
    go : (b : Bool) (x : Option ℕ) → got x ≡ Ok w → b ≢ false → refusal (if b then is_some x else false) x ≡ None
    go true None g e = cc
    go true (Some v) g e = refl
    go false x g e = absurd (e refl)

past_accs : (a : ℕ) → 16 ≤ a → nat_lt a 16 ≡ false
past_accs a h = grind (arith, nat_tests)

pub refusal_read_only : (c : Core) (a w : ℕ) → 16 ≤ a → got (word_at c a) ≡ Ok w → mark_of (page_of c (a / 1024)) ≡ Some false
    → refusal (can_store c a) (word_at c a) ≡ Some Wro
refusal_read_only c a w h g m =
    let t = past_accs a h in
    rw (stores_page c a t, in_page c a t) (read_only_by (page_of c (a / 1024)) (a % 1024) w (rw (in_page c a t) at g) m)

pub refusal_none : (c : Core) (a w : ℕ) → 16 ≤ a → got (word_at c a) ≡ Ok w → mark_of (page_of c (a / 1024)) ≢ Some false
    → refusal (can_store c a) (word_at c a) ≡ None
refusal_none c a w h g m =
    let t = past_accs a h in
    rw (stores_page c a t, in_page c a t) (writable_by (page_of c (a / 1024)) (a % 1024) w (rw (in_page c a t) at g) m)
