-- The call of a slot that can be committed, and its next stage.
use Rattle.std.specs.Prelude.{◌≡◌, ℕ, Bool, true, false, Option, Some, None, IfSome, is_some, List, [], ◌∷◌, ◌++◌, length, map, refl}
use Rattle.std.specs.Borrow.{Bor}
use Rattle.std.proofs.Common.{sym, ap, ◌∙◌, subst}
use Rattle.its_records.specs.declared.calls.Ask.{Ask}
use Rattle.its_records.specs.declared.calls.Exit.{Exit}
use Rattle.its_records.specs.declared.calls.Owed.{Owed}
use Rattle.its_records.specs.declared.calls.Owed.TheVariants.{Leave}
use Rattle.its_records.specs.declared.calls.Site.{Site}
use Rattle.its_word.specs.declared.plan.Store.{Store}
use Rattle.its_frame.specs.declared.decision.Held.{Held}
use Rattle.its_frame.specs.declared.frame.Frame.{Frame}
use Rattle.its_frame.specs.declared.frame.Frame.TheVariants as frames
use Rattle.its_plain.specs.Call.Arguments.{debts, with_new_values}
use Rattle.its_plain.specs.Call.Decide.{call_named}
use Rattle.its_stepped.specs.Commit.{after_going_on, owed_parts, owed_store, sleeps, stays}
use Rattle.its_stepped.specs.State.{ending, waiting}
use Rattle.its_in_call.specs.Calls.{frame_seen, gone_to, request, request_in}
use Rattle.its_in_call.specs.declared.call.Next.{Next}
use Rattle.its_in_call.specs.declared.call.View.{View}
use Rattle.its_in_call.specs.declared.call.View.TheVariants as views
use Rattle.its_world.specs.World.{state_of, FrameBecomes}
use Rattle.its_world.specs.declared.world.World.{World}
use Rattle.its_commit.specs.Built.{backed}
use Rattle.its_commit.specs.Carried.{awake_next, standing_of, next_of, next_stays}
use Rattle.its_commit.proofs.CommittingLaws.{owed_at}

-- its ask, and how many of its stores are pending
abbrev pub Asks : Option Frame → Ask → ℕ → Type 0
Asks o a n = IfSome (standing_of o) (λ f. (a ≡ f.ask) × (n ≡ f.owes))

pub stands_holding : (o : Option Frame) (x : View) (t : Bor Site) (a : Bor Ask) (page : Option ℕ) (n : ℕ) → frame_seen x ≡ o
    → x ≡ views.Holding t a page n → Asks o a.now n
stands_holding o x t a page n e i = subst (λ (p : Option Frame). Asks p a.now n) (sym (ap frame_seen i) ∙ e) (refl, refl)

pub stands_waiting : (o : Option Frame) (x : View) (t : Bor Site) (a : Bor Ask) (n : ℕ) → frame_seen x ≡ o → x ≡ views.Waiting t a n → Asks o a.now n
stands_waiting o x t a n e i = subst (λ (p : Option Frame). Asks p a.now n) (sym (ap frame_seen i) ∙ e) (refl, refl)

-- a call that can be committed has its arguments
pub stands_request : (o : Option Frame) → is_some (standing_of o) ≡ true → is_some (request_in o) ≡ true
stands_request (Some (frames.Holding f)) h = refl
stands_request (Some (frames.Waiting f)) h = refl
stands_request _ h = cc

-- what holds of an answer that is there
pub of_some : {X : Type 0} {P : X → Type 0} {Q : Type 0} (o : Option X) → is_some o ≡ true → IfSome o P → ((x : X) → P x → Q) → Q
of_some (Some x) i h k = k x h
of_some None i h k = cc

-- it waits
pub waits_row : (old new : World) (s n : ℕ) (a : Ask) (o : Option Frame) → Asks o a n
    → IfSome (request_in o) (λ r. FrameBecomes old new s (Some (waiting r.site r.ask n)))
    → IfSome (standing_of o) (λ f. FrameBecomes old new s (Some (waiting f.site f.ask f.owes)))
waits_row old new s n a (Some (frames.Holding f)) is b = subst (λ (k : ℕ). FrameBecomes old new s (Some (waiting f.site f.ask k))) is.1 b
waits_row old new s n a (Some (frames.Waiting f)) is b = subst (λ (k : ℕ). FrameBecomes old new s (Some (waiting f.site f.ask k))) is.1 b
waits_row old new s n a _ is b = tt

-- a part of it is done
goes_to : (a b : Ask) (t : Site) (n : ℕ) (h : Option Held) → a.name ≡ b.name → gone_to (next_of a n h) (request t b) ≡ after_going_on t b n h
goes_to a b t n (Some h) e = refl
goes_to a b t n None e = ap (λ (x : ℕ). gone_to (next_stays (sleeps (call_named x)) n) (request t b)) e ∙ by (sleeps (call_named b.name))
  where
    by : (c : Bool) → gone_to (next_stays c n) (request t b) ≡ stays c t b n
    by true = refl
    by false = refl

same_name : (a : Ask) (vs : List ℕ) → a.name ≡ (with_new_values a vs).name
unfolding with_new_values
same_name a vs = refl

pub goes_row : (old new : World) (s : ℕ) (a : Ask) (k : ℕ) (vs : List ℕ) (h : Option Held) (x : Next) (o : Option Frame) → Asks o a k
    → x ≡ next_of a (length vs) h
    → IfSome (request_in o) (λ r. FrameBecomes old new s (Some (gone_to x (request r.site (with_new_values r.ask vs)))))
    → IfSome (standing_of o) (λ f. FrameBecomes old new s (Some (after_going_on f.site (with_new_values f.ask vs) (length vs) h)))
goes_row old new s a k vs h x (Some (frames.Holding f)) is e b =
    subst (λ (g : Frame). FrameBecomes old new s (Some g))
    (ap (λ (y : Next). gone_to y (request f.site (with_new_values f.ask vs))) e
    ∙ goes_to a (with_new_values f.ask vs) f.site (length vs) h (ap (λ (y : Ask). y.name) is.0 ∙ same_name f.ask vs)) b
goes_row old new s a k vs h x (Some (frames.Waiting f)) is e b =
    subst (λ (g : Frame). FrameBecomes old new s (Some g))
    (ap (λ (y : Next). gone_to y (request f.site (with_new_values f.ask vs))) e
    ∙ goes_to a (with_new_values f.ask vs) f.site (length vs) h (ap (λ (y : Ask). y.name) is.0 ∙ same_name f.ask vs)) b
goes_row old new s a k vs h x _ is e b = tt

-- if the call is not SLEEP, the next of it after a decision is that of any call
awake_is : (a : Ask) (n : ℕ) (h : Option Held) → sleeps (call_named a.name) ≡ false → awake_next n h ≡ next_of a n h
awake_is a n (Some h) e = refl
awake_is a n None e = sym (ap (λ (b : Bool). next_stays b n) e)

pub awake_row : (old new : World) (s : ℕ) (vs : List ℕ) (h : Option Held) (x : Next) (o : Option Frame)
    → IfSome (standing_of o) (λ f. sleeps (call_named f.ask.name) ≡ false)
    → x ≡ awake_next (length vs) h → IfSome (request_in o) (λ r. FrameBecomes old new s (Some (gone_to x (request r.site (with_new_values r.ask vs)))))
    → IfSome (standing_of o) (λ f. FrameBecomes old new s (Some (after_going_on f.site (with_new_values f.ask vs) (length vs) h)))
awake_row old new s vs h x (Some (frames.Holding f)) up e b =
    goes_row old new s f.ask f.owes vs h x (Some (frames.Holding f)) (refl, refl) (e ∙ awake_is f.ask (length vs) h up) b
awake_row old new s vs h x (Some (frames.Waiting f)) up e b =
    goes_row old new s f.ask f.owes vs h x (Some (frames.Waiting f)) (refl, refl) (e ∙ awake_is f.ask (length vs) h up) b
awake_row old new s vs h x _ up e b = tt

-- it ends
pub ends_row : (old new : World) (s : ℕ) (a : Ask) (k : ℕ) (os ps qs : List Owed) (b : Bool) (ss : List Store) (x : Exit) (o : Option Frame) → Asks o a k
    → os ≡ ps ++ (backed b ++ (map owed_store (debts a k ++ ss) ++ Leave x ∷ [])) → ps ≡ qs → qs ≡ owed_parts (state_of old).mark s
    → b ≡ is_some ((state_of old).reserved s)
    → IfSome (request_in o) (λ r. FrameBecomes old new s (Some (ending r.site r.ask os)))
    → IfSome (standing_of o) (λ f. FrameBecomes old new s (Some (ending f.site f.ask (owed_at (state_of old) s ss x f))))
ends_row old new s a k os ps qs b ss x (Some (frames.Holding f)) is e p q r h =
    subst (λ (ys : List Owed). FrameBecomes old new s (Some (ending f.site f.ask ys)))
    (e ∙ (λ t. (p ∙ q) t ++ (backed (r t) ++ (map owed_store (debts (is.0 t) (is.1 t) ++ ss) ++ Leave x ∷ [])))) h
ends_row old new s a k os ps qs b ss x (Some (frames.Waiting f)) is e p q r h =
    subst (λ (ys : List Owed). FrameBecomes old new s (Some (ending f.site f.ask ys)))
    (e ∙ (λ t. (p ∙ q) t ++ (backed (r t) ++ (map owed_store (debts (is.0 t) (is.1 t) ++ ss) ++ Leave x ∷ [])))) h
ends_row old new s a k os ps qs b ss x _ is e p q r h = tt
