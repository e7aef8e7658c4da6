-- Unwinding the jobs that a call reaches.
use Rattle.std.specs.Prelude.{◌≡◌, ℕ, false, Option, Some, None, is_some, List, [], ◌∷◌, ◌++◌, refl}
use Rattle.std.proofs.Common.{sym, ◌∙◌, ap}
use Rattle.its_records.specs.Tree.{slots_below}
use Rattle.its_plain.specs.Machine.Change.{superiors}
use Rattle.its_plain.specs.Call.Decide.{listed}
use Rattle.its_stepped.specs.State.{State}
use Rattle.its_stepped.specs.Unwind.{all_unwound, unwound}
use Rattle.its_stepped.proofs.Unwinding.UnwindLaws.{unwound_still, all_unwound_end}
use Rattle.its_world.specs.World.{state_of, raw_at, frame_at}
use Rattle.its_world.specs.declared.world.World.{World}
use Rattle.its_world.proofs.StorageLaws.{frame_is}
use Rattle.its_records.proofs.FreeLaws.{none_is}

pub calm_still : (w : World) (s : ℕ) → is_some (frame_at w.frames.items s) ≡ false → state_of w ≡ unwound (state_of w) s
calm_still w s h = sym (unwound_still (state_of w) s (frame_is w s ∙ none_is (frame_at w.frames.items s) h))

-- several slots unwound
unwound_append : (ks ls : List ℕ) (w : State) → all_unwound (ks ++ ls) w ≡ all_unwound ls (all_unwound ks w)
unfolding all_unwound
unwound_append [] ls w = refl
unwound_append (k ∷ ks) ls w = unwound_append ks ls (unwound w k)

unwound_one : (k : ℕ) (w : State) → unwound w k ≡ all_unwound (k ∷ []) w
unfolding all_unwound
unwound_one k w = refl

pub nobody_unwound : (w : State) → w ≡ all_unwound [] w
nobody_unwound w = sym (all_unwound_end w)

pub one_unwound : (w v : State) (k : ℕ) → v ≡ unwound w k → v ≡ all_unwound (k ∷ []) w
one_unwound w v k e = e ∙ unwound_one k w

pub tree_unwound : (u w v : State) (j k : ℕ) (o : Option ℕ) → u ≡ all_unwound (slots_below (superiors w.raw) j) w → v ≡ unwound u k → o ≡ Some k
    → v ≡ all_unwound (slots_below (superiors w.raw) j ++ listed o) w
tree_unwound u w v j k o below e is =
    let ks : List ℕ = slots_below (superiors w.raw) j in
    e ∙ unwound_one k u ∙ ap (all_unwound (k ∷ [])) below ∙ sym (unwound_append ks (k ∷ []) w)
    ∙ ap (λ (o : Option ℕ). all_unwound (ks ++ listed o) w) (sym is)

pub branch_unwound : (u w v : State) (j : ℕ) → u ≡ all_unwound (slots_below (superiors w.raw) j) w → v ≡ unwound u j
    → v ≡ all_unwound (slots_below (superiors w.raw) j ++ j ∷ []) w
branch_unwound u w v j below e = tree_unwound u w v j j (Some j) below e refl

pub root_unwound : (w v : State) (j : ℕ) (o : Option ℕ) → v ≡ all_unwound (slots_below (superiors w.raw) j) w → o ≡ None
    → v ≡ all_unwound (slots_below (superiors w.raw) j ++ listed o) w
root_unwound w v j o below is =
    let ks : List ℕ = slots_below (superiors w.raw) j in
    below ∙ sym (all_unwound_end (all_unwound ks w)) ∙ sym (unwound_append ks [] w) ∙ ap (λ (o : Option ℕ). all_unwound (ks ++ listed o) w) (sym is)

-- the raw job of a slot
pub raw_is : (w : World) (j : ℕ) → (state_of w).raw.jobs j ≡ raw_at w.files w.core w.jobs w.alarms.items j
unfolding state_of
raw_is w j = refl
