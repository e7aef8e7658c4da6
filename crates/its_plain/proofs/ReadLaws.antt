-- How a part and then another result in a value, and what reads nothing.
use Rattle.std.proofs.Common.{◌≡◌, ◌++◌, ℕ, [], Result, Ok, Err, refl, sym, ◌∙◌, ap}
use Rattle.its_word.specs.Core.{Core}
use Rattle.its_word.specs.declared.access.Fault.{Fault}
use Rattle.its_records.specs.declared.calls.Kind.{Kind}
use Rattle.its_records.specs.declared.calls.Kind.TheVariants as kinds
use Rattle.its_plain.specs.Call.Decode.{argument_at, held, storable}
use Rattle.its_plain.specs.Unit.Trace.{Traced, also, goes_on}

-- the value that comes of two parts: the first has one, and so has the second
pub record Went {X Y : Type 0} (m : Traced X) (k : X → Traced Y) (y : Y) : Type 0 where
  pub value : X
  pub first : m.answer ≡ Ok value
  pub last : (k value).answer ≡ Ok y
  pub reads : (also m k).reads ≡ m.reads ++ (k value).reads
  pub tests : (also m k).tests ≡ m.tests ++ (k value).tests

pub also_ok : {X Y : Type 0} (m : Traced X) (k : X → Traced Y) (x : X) → m.answer ≡ Ok x → also m k ≡ goes_on m.reads m.tests (Ok x) k
unfolding also
also_ok m k x e = ap (λ r. goes_on m.reads m.tests r k) e

pub also_err : {X Y : Type 0} (m : Traced X) (k : X → Traced Y) (f : Fault) → m.answer ≡ Err f → also m k ≡ goes_on m.reads m.tests (Err f) k
unfolding also
also_err m k f e = ap (λ r. goes_on m.reads m.tests r k) e

pub went : {X Y : Type 0} (m : Traced X) (k : X → Traced Y) (y : Y) → (also m k).answer ≡ Ok y → Went m k y
went {X = X} m k y h = go m.answer refl
  where
    go : (r : Result X Fault) → m.answer ≡ r → Went m k y
    go (Ok x) e = let a = also_ok m k x e in record {
      value = x;
      first = e;
      last = ap (λ t. t.answer) (sym a) ∙ h;
      reads = ap (λ t. t.reads) a;
      tests = ap (λ t. t.tests) a;
    }
    go (Err f) e = let a = ap (λ t. t.answer) (sym (also_err m k f e)) ∙ h in cc

-- an argument whose address is found reads nothing more
unread_also : {X Y : Type 0} (m : Traced X) (k : X → Traced Y) → m.reads ≡ [] → ((x : X) → (k x).reads ≡ []) → (also m k).reads ≡ []
unfolding also
unread_also {X = X} m k hm hk = go m.answer
  where
    go : (r : Result X Fault) → (goes_on m.reads m.tests r k).reads ≡ []
    go (Ok x) = ap (λ rs. rs ++ (k x).reads) hm ∙ hk x
    go (Err f) = hm

unread_held : (c : Core) (p : ℕ) → (held c p).reads ≡ []
unfolding held
unread_held c p = refl

unread_storable : (c : Core) (p : ℕ) → (storable c p).reads ≡ []
unfolding storable
unread_storable c p = refl

pub unread : (k : Kind) (c : Core) (e : ℕ) → (argument_at k c e).reads ≡ []
unfolding argument_at
unread kinds.Input c e = unread_also (held c e) _ (unread_held c e) (λ p. refl)
unread kinds.Output c e = unread_also (storable c e) _ (unread_storable c e) (λ p. refl)
unread kinds.ErrorAt c e = unread_also (storable c e) _ (unread_storable c e) (λ p. refl)
unread kinds.Control c e = unread_also (held c e) _ (unread_held c e) (λ p. refl)
unread _ c e = refl
