-- A part of SIOT is tried in the world as it is: nobody is reached, and nothing is to be performed
-- before.
use Rattle.std.specs.Prelude.{◌≡◌, ℕ, true, false, Option, Some, None, IfSome, is_some, List, []}
use Rattle.std.proofs.Common.{sym, ◌∙◌, ap, subst}
use Rattle.call_basic.specs.Parts.{change_of, going}
use Rattle.call_basic.specs.declared.transfer.NextByte.{NextByte}
use Rattle.its_records.specs.declared.calls.Ask.{Ask}
use Rattle.its_frame.specs.declared.frame.Holding.{Holding}
use Rattle.its_frame.specs.declared.name.CallName.TheVariants.{Siot}
use Rattle.its_commit.specs.Built.{CanMake}
use Rattle.its_commit.specs.Carried.{standing_of, CanCommit}
use Rattle.its_pclsr.specs.Pages.{pages_unwound}
use Rattle.its_plain.specs.Call.Step.{decision}
use Rattle.its_plain.specs.Call.Decide.{call_named, reach}
use Rattle.its_plain.specs.Machine.{Whole}
use Rattle.its_stepped.specs.Commit.{sleeps}
use Rattle.its_stepped.specs.State.{State}
use Rattle.its_stepped.specs.Tick.{after_help_if, helps}
use Rattle.its_stepped.specs.Unwind.{all_unwound}
use Rattle.its_stepped.proofs.Unwinding.UnwindLaws.{all_unwound_end}
use Rattle.its_world.specs.World.{state_of, raw_at, frame_at}
use Rattle.its_world.specs.declared.world.World.{World}
use Rattle.its_tick.specs.Kept.{Kept}
use Rattle.its_tick.proofs.HelpLaws.{help_spared}
use Rattle.its_tick.proofs.TrialLaws.{Clear, Decides, OnCall, Readies, ReachPages, mid_ready}

abbrev pub Asks : World → ℕ → Ask → ℕ → Type 0
Asks w s a n = IfSome (standing_of (frame_at w.frames.items s)) (λ f. (a ≡ f.ask) × (n ≡ f.owes))

abbrev pub OnRaw : World → ℕ → (Whole → Type 0) → Type 0
OnRaw w s P = IfSome (raw_at w.files w.core w.jobs w.alarms.items s) P

-- what holds of what is asked for, and of the raw job
on_both : (o : Option Holding) (m : Option Whole) (a : Ask) (n : ℕ) (P : Ask → Whole → Type 0) → IfSome o (λ f. (a ≡ f.ask) × (n ≡ f.owes)) → IfSome m (P a)
    → IfSome o (λ f. IfSome m (λ q. P f.ask q))
on_both (Some f) m a n P is h = subst (λ (x : Ask). IfSome m (λ q. P x q)) is.0 h
on_both None m a n P is h = tt

on_asked : (w : World) (s : ℕ) (a : Ask) (n : ℕ) (P : Ask → Whole → Type 0) → Asks w s a n → OnRaw w s (P a) → OnCall w s (λ f q. P f.ask q)
on_asked w s a n P is h = on_both (standing_of (frame_at w.frames.items s)) (raw_at w.files w.core w.jobs w.alarms.items s) a n P is h

each_raw : (m : Option Whole) (P Q : Whole → Type 0) → ((q : Whole) → P q → Q q) → IfSome m P → IfSome m Q
each_raw (Some q) P Q f h = f q h
each_raw None P Q f h = tt

asleep : (o : Option Holding) (a : Ask) (n : ℕ) → IfSome o (λ f. (a ≡ f.ask) × (n ≡ f.owes)) → call_named a.name ≡ Some Siot
    → IfSome o (λ f. sleeps (call_named f.ask.name) ≡ false)
asleep (Some f) a n is e = subst (λ (x : Ask). sleeps (call_named x.name) ≡ false) is.0 (ap sleeps e)
asleep None a n is e = tt

can_first : (o : Option Holding) (w : State) (s : ℕ) (p : NextByte) → is_some o ≡ true → IfSome o (λ f. CanCommit w s f (going p))
    → CanMake (change_of p.moved) s w
can_first (Some f) w s p i h = h.0
can_first None w s p i h = cc

module _ (w : World) (s : ℕ) (a : Ask) (n : ℕ) (r : Option NextByte) (p : NextByte) (is : Asks w s a n) (e : r ≡ Some p) where
  some_part : (P : NextByte → Type 0) → IfSome r P → P p
  some_part P h = subst (λ (o : Option NextByte). IfSome o P) e h

  pub part_awake : IfSome r (λ p. call_named a.name ≡ Some Siot)
      → IfSome (standing_of (frame_at w.frames.items s)) (λ f. sleeps (call_named f.ask.name) ≡ false)
  part_awake h = asleep (standing_of (frame_at w.frames.items s)) a n is (some_part (λ p. call_named a.name ≡ Some Siot) h)

  abbrev pub Goes : Type 0
  Goes = IfSome r (λ p. OnRaw w s (λ q. going p ≡ decision (state_of w).raw s q a))

  abbrev pub Alone : Type 0
  Alone = IfSome r (λ p. OnRaw w s (λ q. reach (state_of w).raw s q a ≡ []))

  pub part_decides : Goes → Decides w s (going p)
  part_decides h = on_asked w s a n (λ x q. going p ≡ decision (state_of w).raw s q x) is
      (some_part (λ p. OnRaw w s (λ q. going p ≡ decision (state_of w).raw s q a)) h)

  alone : Alone → OnRaw w s (λ q. reach (state_of w).raw s q a ≡ [])
  alone h = some_part (λ p. OnRaw w s (λ q. reach (state_of w).raw s q a ≡ [])) h

  pub part_readies : IfSome r (λ p. w.files.mark ≡ None) → Alone → Readies w w s
  part_readies m h =
      on_asked w s a n (λ x q. state_of w ≡ after_help_if (helps q x) (all_unwound (reach (state_of w).raw s q x) (state_of w))) is
      (each_raw (raw_at w.files w.core w.jobs w.alarms.items s) (λ q. reach (state_of w).raw s q a ≡ [])
      (λ q. state_of w ≡ after_help_if (helps q a) (all_unwound (reach (state_of w).raw s q a) (state_of w)))
      (λ q z. help_spared w (helps q a) (some_part (λ p. w.files.mark ≡ None) m)
      ∙ ap (after_help_if (helps q a)) (sym (ap (λ (ks : List ℕ). all_unwound ks (state_of w)) z ∙ all_unwound_end (state_of w)))) (alone h))

  pub part_reach : Alone → ReachPages w w s
  part_reach h =
      on_asked w s a n (λ x q. w.core.frames ≡ pages_unwound (reach (state_of w).raw s q x) (state_of w) w.core.frames) is
      (each_raw (raw_at w.files w.core w.jobs w.alarms.items s) (λ q. reach (state_of w).raw s q a ≡ [])
      (λ q. w.core.frames ≡ pages_unwound (reach (state_of w).raw s q a) (state_of w) w.core.frames)
      (λ q z. sym (ap (λ (ks : List ℕ). pages_unwound ks (state_of w) w.core.frames) z)) (alone h))

  pub part_makes : Kept w → (stands : is_some (standing_of (frame_at w.frames.items s)) ≡ true) → Clear w s
      → IfSome r (λ p. w.files.mark ≡ None) → Alone → Goes → CanMake (change_of p.moved) s (state_of w)
  part_makes kept stands clear m h g =
      can_first (standing_of (frame_at w.frames.items s)) (state_of w) s p stands
      (mid_ready w w s kept stands clear (part_readies m h) (going p) (part_decides g))
