-- A slot that was put at the end of a wait list is there.
use Rattle.std.specs.Prelude.{◌≡◌, ◌<◌, ◌+◌, ℕ, true, List, [], ◌∷◌, ◌++◌, length, slice_set}
use Rattle.std.proofs.Common.{sym, subst, arith, inl}
use Rattle.std.proofs.lemmas.List.{get_or-set_same}
use Rattle.its_links.specs.Lists.{list_at, count}
use Rattle.its_links.proofs.CountLaws.{hit_same, count-append}
use Rattle.its_world.specs.World.{frame_at}
use Rattle.its_world.specs.declared.world.World.{World}
use Rattle.its_tick.specs.Ticks.{OnWaitList, is_waiting}

pub at_end : (old : List (List ℕ)) (s : ℕ) → 2 < length old → 0 < count s (list_at (slice_set old 2 (list_at old 2 ++ s ∷ [])) 2)
at_end old s long =
    subst (λ l. 0 < count s l) (sym (get_or-set_same old 2 (list_at old 2 ++ s ∷ []) [] long))
    (let c = count-append s (list_at old 2) (s ∷ []) in let h = hit_same s in omega arith)

pub on_wait_list : (w : World) (s : ℕ) → 0 < count s (list_at w.wait_lists.lists 2) → is_waiting (frame_at w.frames.items s) ≡ true → OnWaitList w s
on_wait_list w s here waits = record { waits = waits; stands = record { list = 2; within = inl (omega arith); here = here } }
