-- A page of zeros that is made: it is reserved and cleared, and then mapped. So it has the first of
-- the free frames.
use Rattle.std.specs.Prelude.{◌≡◌, ℕ, refl}
use Rattle.std.proofs.Common.{sym, ◌∙◌, ap}
use Rattle.its_word.specs.Only.{Only, Same}
use Rattle.its_word.specs.Core.{Core, store}
use Rattle.its_core.specs.Cores.{core_at, reserved_at, clear_at}
use Rattle.its_jobs.specs.Table.{job_at}
use Rattle.its_world.proofs.PlaceLaws.{doors_in, on_lists_alike}
use Rattle.its_world.specs.Contents.{contents}
use Rattle.its_world.specs.World.{frame_at, with_frames, CoreBecomes}
use Rattle.its_world.specs.declared.world.World.{World}
use Rattle.its_world.proofs.WorldLaws.{in_slot, alike, frames_still}
use Rattle.its_world.proofs.ContentsLaws.{jobs_as, frames_as, lists_as}

-- if the frames of pages are unchanged, the core of its slot alone would be another
pub page_becomes : (old new : World) (s : ℕ) (c : Core) → Only (core_at old.core) (core_at new.core) s c
    → Same (clear_at old.core) (clear_at new.core) → contents new ≡ record (contents old) { core = new.core }
    → CoreBecomes old (with_frames new old.core.frames) s c
unfolding core_at reserved_at
page_becomes old new s c core reserved e = record {
  core = core;
  job = alike _ _ s (λ k. ap (λ t. job_at t k) (jobs_as e));
  superiors = ap (λ t. t.superiors) (jobs_as e);
  frame = alike _ _ s (λ k. ap (λ t. frame_at t.items k) (frames_as e));
  reserved = alike _ _ s (reserved.each);
  pages = sym (frames_still (clear_at old.core s) s old.core.frames);
  rest = in_slot (with_frames new old.core.frames) e;
  on_lists = on_lists_alike old (with_frames new old.core.frames) (jobs_as e) (frames_as e) (ap doors_in e) (lists_as e);
}

pub page_then_store : (old mid new : World) (s a x : ℕ) (c : Core) → CoreBecomes old (with_frames mid old.core.frames) s c
    → CoreBecomes mid new s (store (core_at mid.core s) a x)
    → CoreBecomes old (with_frames new old.core.frames) s (store c a x)
unfolding core_at reserved_at
page_then_store old mid new s a x c h t = record {
  core = record { here = t.core.here ∙ ap (λ d. store d a x) h.core.here; others = λ k n. t.core.others k n ∙ h.core.others k n };
  job = record { here = t.job.here ∙ h.job.here; others = λ k n. t.job.others k n ∙ h.job.others k n };
  superiors = t.superiors ∙ h.superiors;
  frame = record { here = t.frame.here ∙ h.frame.here; others = λ k n. t.frame.others k n ∙ h.frame.others k n };
  reserved = record { here = t.reserved.here ∙ h.reserved.here; others = λ k n. t.reserved.others k n ∙ h.reserved.others k n };
  pages = sym (frames_still (clear_at old.core s) s old.core.frames);
  rest = in_slot (with_frames new old.core.frames) t.rest ∙ in_slot (with_frames new old.core.frames) h.rest;
  on_lists = λ r.
      on_lists_alike new (with_frames new old.core.frames) refl refl refl refl
      (t.on_lists (on_lists_alike (with_frames mid old.core.frames) mid refl refl refl refl (h.on_lists r)));
}
