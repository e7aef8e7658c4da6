-- A judge that is right about which lines are accepted: it says Yes of those that are, and of
-- others the first that begins no accepted ones, or that is missing.
use Rattle.std.proofs.Common.{◌≡◌, ◌≤◌, ◌+◌, ℕ, suc, Option, Some, None, List, [], ◌∷◌, ◌++◌, ◌⊎◌, length, take, refl, ap, inl, inr, arith}
use Rattle.its_verify.specs.Rulings.{Verdict, Yes, No, Ruling, at_end, led_by, led}

-- which lines are accepted
abbrev pub Taken : Type 1
Taken = List (List ℕ) → Type 0

-- some lines begin accepted ones
pub record Begun (R : List (List ℕ) → Type 0) (texts : List (List ℕ)) : Type 0 where
  pub more : List (List ℕ)
  pub whole : R (texts ++ more)

-- after n lines before them, line k is the first that begins none
pub record First (R : List (List ℕ) → Type 0) (texts : List (List ℕ)) (n k : ℕ) : Type 0 where
  pub before : ℕ
  pub at : k ≡ n + before + 1
  pub few : before ≤ length texts
  pub begun : Begun R (take before texts)
  pub stops : ((before ≡ length texts) × (R texts → ⊥)) ⊎ (Begun R (take (suc before) texts) → ⊥)

abbrev pub Decided : (R : List (List ℕ) → Type 0) → ℕ → List (List ℕ) → Verdict → Type 0
Decided R n texts (Yes k) = (k ≡ n + length texts) × R texts
Decided R n texts (No k) = First R texts n k × (R texts → ⊥)

pub record Right (R : List (List ℕ) → Type 0) (ruling : Ruling) : Type 0 where
  pub going : Begun R []
  pub decides : (n : ℕ) (texts : List (List ℕ)) → Decided R n texts (ruling n texts)

-- the same, said otherwise
decided_as : (R S : List (List ℕ) → Type 0) (n : ℕ) (texts : List (List ℕ)) (v : Verdict) → ((ts : List (List ℕ)) → R ts → S ts)
    → ((ts : List (List ℕ)) → S ts → R ts)
    → Decided R n texts v → Decided S n texts v
decided_as R S n texts (Yes k) to from h = (h.0, to texts h.1)
decided_as R S n texts (No k) to from h = (
  record {
    before = h.0.before;
    at = h.0.at;
    few = h.0.few;
    begun = record { more = h.0.begun.more; whole = to (take h.0.before texts ++ h.0.begun.more) h.0.begun.whole };
    stops =
        elim h.0.stops [
          | inl end ↦ inl (end.0, λ s. end.1 (from texts s))
          | inr none ↦ inr (λ b. none (record { more = b.more; whole = from (take (suc h.0.before) texts ++ b.more) b.whole }))
        ];
  },
  λ s. h.1 (from texts s),
)

pub right_as : (R S : List (List ℕ) → Type 0) (ruling : Ruling) → ((ts : List (List ℕ)) → R ts → S ts)
    → ((ts : List (List ℕ)) → S ts → R ts) → Right R ruling → Right S ruling
right_as R S ruling to from h = record {
  going = record { more = h.going.more; whole = to h.going.more h.going.whole };
  decides = λ n texts. decided_as R S n texts (ruling n texts) to from (h.decides n texts);
}

-- no more lines
abbrev pub Finished : List (List ℕ) → Type 0
Finished [] = Unit {0}
Finished (text ∷ texts) = ⊥

at_end_decided : (n : ℕ) (texts : List (List ℕ)) → Decided Finished n texts (at_end n texts)
at_end_decided n [] = (omega arith, tt)
at_end_decided n (text ∷ texts) =
    (record { before = 0; at = omega arith; few = omega arith; begun = record { more = []; whole = tt }; stops = inr (λ b. b.whole) }, λ h. h)

pub right_at_end : Right Finished at_end
right_at_end = record { going = record { more = []; whole = tt }; decides = at_end_decided }

-- a line, whose text says how it goes on
abbrev pub LedBy : {X : Type 0} → Option X → (X → List (List ℕ) → Type 0) → List (List ℕ) → Type 0
LedBy None R texts = ⊥
LedBy (Some x) R texts = R x texts

abbrev pub Led : {X : Type 0} → (List ℕ → Option X) → (X → List (List ℕ) → Type 0) → List (List ℕ) → Type 0
Led reads R [] = ⊥
Led reads R (text ∷ texts) = LedBy (reads text) R texts

pub led_on : {X : Type 0} (reads : List ℕ → Option X) (R : X → List (List ℕ) → Type 0) (text : List ℕ) (x : X) (ts : List (List ℕ))
    → reads text ≡ Some x → R x ts → Led reads R (text ∷ ts)
led_on reads R text x ts is h = rw is h

pub led_off : {X : Type 0} (reads : List ℕ → Option X) (R : X → List (List ℕ) → Type 0) (text : List ℕ) (x : X) (ts : List (List ℕ))
    → reads text ≡ Some x → Led reads R (text ∷ ts) → R x ts
led_off reads R text x ts is h = rw is at h

none_led : {X : Type 0} (reads : List ℕ → Option X) (R : X → List (List ℕ) → Type 0) (text : List ℕ) (ts : List (List ℕ))
    → reads text ≡ None → Led reads R (text ∷ ts) → ⊥
none_led reads R text ts is h = rw is at h

-- if the first line is licensed, what is said of the others is said of all
led_decided : {X : Type 0} (reads : List ℕ → Option X) (R : X → List (List ℕ) → Type 0) (text : List ℕ) (x : X) (n : ℕ) (texts : List (List ℕ)) (v : Verdict)
    → reads text ≡ Some x → Decided (R x) (n + 1) texts v → Decided (Led reads R) n (text ∷ texts) v
led_decided reads R text x n texts (Yes k) is h = (omega (arith, h.0), led_on reads R text x texts is h.1)
led_decided reads R text x n texts (No k) is h = (
  record {
    before = suc h.0.before;
    at = omega (arith, h.0.at);
    few = omega (arith, h.0.few);
    begun = record { more = h.0.begun.more; whole = led_on reads R text x (take h.0.before texts ++ h.0.begun.more) is h.0.begun.whole };
    stops =
        elim h.0.stops [
          | inl end ↦ inl (ap suc end.0, λ s. end.1 (led_off reads R text x texts is s))
          | inr none ↦ inr (λ b. none (record { more = b.more; whole = led_off reads R text x (take (suc h.0.before) texts ++ b.more) is b.whole }))
        ];
  },
  λ s. h.1 (led_off reads R text x texts is s),
)

-- the first line, whatever it says
first_decided : {X : Type 0} (reads : List ℕ → Option X) (R : X → List (List ℕ) → Type 0) (ruling : X → Ruling) → Begun (Led reads R) []
    → ((y : X) → Right (R y) (ruling y))
    → (n : ℕ) (t : List ℕ) (ts : List (List ℕ)) (o : Option X) → reads t ≡ o → Decided (Led reads R) n (t ∷ ts) (led_by o ruling n ts)
first_decided reads R ruling going each n t ts None none = (
  record { before = 0; at = omega arith; few = omega arith; begun = going; stops = inr (λ b. none_led reads R t b.more none b.whole) },
  λ h. none_led reads R t ts none h,
)
first_decided reads R ruling going each n t ts (Some y) some = led_decided reads R t y n ts (ruling y (n + 1) ts) some ((each y).decides (n + 1) ts)

all_decided : {X : Type 0} (reads : List ℕ → Option X) (R : X → List (List ℕ) → Type 0) (ruling : X → Ruling) → Begun (Led reads R) []
    → ((y : X) → Right (R y) (ruling y))
    → (n : ℕ) (texts : List (List ℕ)) → Decided (Led reads R) n texts (led reads ruling n texts)
all_decided reads R ruling going each n [] =
    (record { before = 0; at = omega arith; few = omega arith; begun = going; stops = inl (refl, λ h. h) }, λ h. h)
all_decided reads R ruling going each n (t ∷ ts) = first_decided reads R ruling going each n t ts (reads t) refl

-- some text is licensed, so a line that is missing is one that could come
pub right_led : {X : Type 0} (reads : List ℕ → Option X) (R : X → List (List ℕ) → Type 0) (ruling : X → Ruling) (text : List ℕ) (x : X) → reads text ≡ Some x
    → ((y : X) → Right (R y) (ruling y)) → Right (Led reads R) (led reads ruling)
right_led reads R ruling text x is each =
    let more = (each x).going.more in
    let going : Begun (Led reads R) [] = record { more = text ∷ more; whole = led_on reads R text x more is (each x).going.whole } in
    record { going = going; decides = all_decided reads R ruling going each }
