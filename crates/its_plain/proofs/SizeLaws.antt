-- The next pointer has the size of the last.
use Rattle.std.specs.Prelude.{if◌then◌else◌, ◌≡◌, ◌<◌, ◌+◌, ◌-◌, ◌%◌, ◌^◌, ◌&&◌, ℕ, Bool, true, false, Some, None, nat_le, unwrap_or}
use Rattle.std.proofs.Common.{◌∙◌, ap, arith}
use Rattle.its_word.specs.Byte.{position, size, middle, pointer, has_size, increment_of}
use Rattle.its_word.specs.Word.{right_of}
use Rattle.its_plain.specs.Call.Transfer.{next_pointer}

sized_at : (p at y : ℕ) → y < 2 ^ 18 → size (pointer at (middle p) y) ≡ size p
sized_at p at y l = omega arith

next_by : (p : ℕ) (b : Bool) → has_size p ≡ true
    → has_size (unwrap_or (Some (if b then pointer (position p - size p) (middle p) (right_of p) else pointer (36 - size p) (middle p)
    ((right_of p + 1) % 2 ^ 18))) 0) ≡ true
next_by p true h = ap (λ (k : ℕ). nat_le 1 k && nat_le k 36) (sized_at p (position p - size p) (right_of p) (omega arith)) ∙ h
next_by p false h = ap (λ (k : ℕ). nat_le 1 k && nat_le k 36) (sized_at p (36 - size p) ((right_of p + 1) % 2 ^ 18) (omega arith)) ∙ h

pub next_sized : (p : ℕ) → has_size p ≡ true → has_size (next_pointer p) ≡ true
unfolding increment_of
next_sized p h = ap (λ (b : Bool). has_size (unwrap_or (if b then Some
    (if nat_le (size p) (position p) then pointer (position p - size p) (middle p) (right_of p) else pointer (36 - size p) (middle p)
    ((right_of p + 1) % 2 ^ 18)) else None) 0)) h ∙ next_by p (nat_le (size p) (position p)) h
