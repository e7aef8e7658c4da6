-- What a read gives, and the places that it has read, one after the other.
use Rattle.std.specs.Prelude.{◌≡◌, ℕ, List, [], ◌++◌, Err}
use Rattle.std.proofs.Common.{sym, ap, append_assoc}
use Rattle.std.proofs.lemmas.List.{append-nil}
use Rattle.its_word.specs.declared.access.Fault.{Fault}
use Rattle.its_plain.specs.Unit.Trace.{Traced, also, goes_on}

pub joined : (xs ys zs : List ℕ) → xs ++ (ys ++ zs) ≡ xs ++ ys ++ zs
joined xs ys zs = sym (append_assoc xs ys zs)

pub ended : (xs : List ℕ) → xs ++ [] ≡ xs
ended xs = append-nil xs

pub stops_answer : {X Y : Type 0} (m : Traced X) (k : X → Traced Y) (f : Fault) → m.answer ≡ Err f → (also m k).answer ≡ Err f
unfolding also
stops_answer m k f e = ap (λ a. (goes_on m.reads m.tests a k).answer) e
