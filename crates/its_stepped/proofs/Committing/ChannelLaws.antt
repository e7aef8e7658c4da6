-- What the tests of a call say of its channel, and what a search for a link finds.
use Rattle.std.specs.Prelude.{if◌then◌else◌, ◌≡◌, ◌≢◌, ◌<◌, ◌+◌, ◌&&◌, ℕ, zero, suc, Bool, true, false, not, Option, Some, None, cond, find, nat_lt, refl}
use Rattle.std.specs.List.{range_with_len}
use Rattle.std.proofs.Common.{sym, ◌∙◌, ap, arith}
use Rattle.std.proofs.lemmas.Bool.{not-false}
use Rattle.its_records.specs.Links.{most_links}
use Rattle.its_plain.specs.Call.Basic.{channel_at, is_shut}
use Rattle.its_plain.specs.Call.Link.{has_link_names, link_named, can_open}
use Rattle.its_plain.specs.Machine.{Chan, Shut, Pipe}

-- a channel that is open has one of the 16 numbers
pub at_open : (channels : ℕ → Chan) (n : ℕ) (c : Chan) → channel_at channels n ≡ c → c ≢ Shut → channels n ≡ c
at_open channels n c h open_ = go (nat_lt n 16) h
  where
    go : (b : Bool) → (if b then channels n else Shut) ≡ c → channels n ≡ c
    go true e = e
    go false e = absurd (open_ (sym e))

-- one that passes the test of error 4 of OPEN is closed
shut_is : (c : Chan) → is_shut c ≡ true → c ≡ Shut
shut_is Shut h = refl
shut_is _ h = cc

pub free_channel : (channels : ℕ → Chan) (n : ℕ) → not (nat_lt n 16 && is_shut (channel_at channels n)) ≡ false → channels n ≡ Shut
free_channel channels n h = go (nat_lt n 16) (not-false _ h)
  where
    go : (b : Bool) → (b && is_shut (if b then channels n else Shut)) ≡ true → channels n ≡ Shut
    go true e = shut_is (channels n) e
    go false e = cc

-- what a search among numbers finds has what is looked for, and is one of the numbers
pub found_in_range : (p : ℕ → Bool) (k n s : ℕ) → find p (range_with_len k n) ≡ Some s → (p s ≡ true) × (s < k + n)
found_in_range p k zero s h = cc
found_in_range p k (suc n) s h = go (p k) refl h (λ later. found_in_range p (k + 1) n s later)
  where
    go : (b : Bool) → p k ≡ b → cond b (Some k) (find p (range_with_len (k + 1) n)) ≡ Some s
        → (find p (range_with_len (k + 1) n) ≡ Some s → (p s ≡ true) × (s < k + 1 + n)) → (p s ≡ true) × (s < k + suc n)
    go true e here later = let same : k ≡ s = cc in (ap p (sym same) ∙ e, omega arith)
    go false e here later = let more = later here in (more.0, let l = more.1 in omega arith)

-- the link of some names has them
pub named_link : (ls : ℕ → Option Pipe) (x y l : ℕ) → link_named ls x y ≡ Some l → (has_link_names x y (ls l) ≡ true) × (l < most_links)
named_link ls x y l h = found_in_range (λ k. has_link_names x y (ls k)) 0 most_links l h

-- both ends of a link that is not there can be opened
pub absent_opens : (write : Bool) (o : Option Pipe) → o ≡ None → can_open write o ≡ true
absent_opens write o e = ap (can_open write) e
