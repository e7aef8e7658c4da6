-- The cores of other slots through several changes of one slot.
use Rattle.std.specs.Prelude.{◌≡◌, ℕ, Option, Some, None, refl}
use Rattle.std.proofs.Common.{◌∙◌, sym, ap}
use Rattle.its_word.specs.Core.{Core}
use Rattle.its_records.specs.declared.jobs.Job.{Job}
use Rattle.its_frame.specs.declared.frame.Frame.{Frame}
use Rattle.its_core.specs.Cores.{core_at, clear_at}
use Rattle.its_core.specs.Frames.{Frames}
use Rattle.its_world.specs.World.{frames_after, Becomes}
use Rattle.its_world.specs.declared.world.World.{World}
use Rattle.its_world.proofs.WorldLaws.{frames_still}
use Rattle.its_pclsr.specs.Apart.{CoresOff}

pub off_same : (w : World) (s : ℕ) → CoresOff w w s
off_same w s = record { others = λ k n. refl; unreserved = λ h. h; pages = sym (frames_still (clear_at w.core s) s w.core.frames) }

off_by : (old new : World) (s : ℕ) (c : Core) (j : Option Job) (f : Option Frame) (r : Option ℕ) → (clear_at old.core s ≡ None → r ≡ None)
    → Becomes old new s c j f r → CoresOff old new s
off_by old new s c j f r less b = record {
  others = b.core.others;
  unreserved = λ h. b.reserved.here ∙ less h;
  pages = b.pages ∙ ap (λ o. frames_after (clear_at old.core s) o s old.core.frames) (sym b.reserved.here);
}

pub off_one : (old new : World) (s : ℕ) (c : Core) (j : Option Job) (f : Option Frame) → Becomes old new s c j f (clear_at old.core s) → CoresOff old new s
off_one old new s c j f b = off_by old new s c j f (clear_at old.core s) (λ h. h) b

pub off_back : (old new : World) (s : ℕ) (c : Core) (j : Option Job) (f : Option Frame) → Becomes old new s c j f None → CoresOff old new s
off_back old new s c j f b = off_by old new s c j f None (λ h. refl) b

pub off_alike : (old new : World) (s : ℕ) → new.core ≡ old.core → CoresOff old new s
off_alike old new s e = record {
  others = λ k n. ap (λ c. core_at c k) e;
  unreserved = λ h. ap (λ c. clear_at c s) e ∙ h;
  pages = ap (λ c. c.frames) e ∙ sym (frames_still (clear_at old.core s) s old.core.frames)
      ∙ ap (λ c. frames_after (clear_at old.core s) (clear_at c s) s old.core.frames) (sym e);
}

-- a page that is given back is not reserved anew
frames_then : (o p r : Option ℕ) (s : ℕ) (f : Frames) → (o ≡ None → p ≡ None) → (p ≡ None → r ≡ None)
    → frames_after p r s (frames_after o p s f) ≡ frames_after o r s f
frames_then None None None s f a b = refl
frames_then (Some i) (Some k) (Some n) s f a b = refl
frames_then (Some i) (Some k) None s f a b = refl
frames_then (Some i) None None s f a b = refl
frames_then None None (Some n) s f a b = let no : Some n ≡ None = b refl in absurd cc
frames_then (Some i) None (Some n) s f a b = let no : Some n ≡ None = b refl in absurd cc
frames_then None (Some k) r s f a b = let no : Some k ≡ None = a refl in absurd cc

pub off_then : (old mid new : World) (s : ℕ) → CoresOff old mid s → CoresOff mid new s → CoresOff old new s
off_then old mid new s a b = record {
  others = λ k n. b.others k n ∙ a.others k n;
  unreserved = λ h. b.unreserved (a.unreserved h);
  pages = b.pages ∙ ap (frames_after (clear_at mid.core s) (clear_at new.core s) s) a.pages
      ∙ frames_then (clear_at old.core s) (clear_at mid.core s) (clear_at new.core s) s old.core.frames a.unreserved b.unreserved;
}
