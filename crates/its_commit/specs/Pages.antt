-- In which page frames pages are after the changes of a call, and which page frames are free.
-- No promise rests on this.
use Rattle.std.specs.Prelude.{if◌then◌else◌, ℕ, zero, suc, Bool, List, [], ◌∷◌}
use Rattle.its_word.specs.Limits.{slots}
use Rattle.its_core.specs.Frames.{Frames, frames_map, frames_unmap, frames_drop_all}
use Rattle.its_frame.specs.declared.change.Change.{Change}
use Rattle.its_frame.specs.declared.change.Change.TheVariants as changes
use Rattle.its_frame.specs.declared.decision.Decision.{Decision}
use Rattle.its_frame.specs.declared.decision.Decision.TheVariants.{Waits, Goes, Ends, Gone}
use Rattle.its_plain.specs.Machine.Change.{superiors, is_gone}
use Rattle.its_stepped.specs.Commit.{effect_on}
use Rattle.its_stepped.specs.State.{State}

-- the jobs of some slots below n are removed: the frames of each become the last of the free ones,
-- slot after slot
unfoldable pub pages_swept : (ℕ → Bool) → ℕ → Frames → Frames
pages_swept gone zero f = f
pages_swept gone (suc n) f = if gone n then frames_drop_all n (pages_swept gone n f) else pages_swept gone n f

-- after a change of slot j's call: a page that is made has the frame of the one that slot j has
-- reserved; the frames of pages that are dropped become free
abbrev pub pages_changed : Change → ℕ → State → Frames → Frames
pages_changed (changes.Map s k) j w f = frames_map j s k f
pages_changed (changes.Unmap s k) j w f = frames_unmap s k f
pages_changed (changes.Remove s) j w f = pages_swept (is_gone (superiors w.raw) s) slots f
pages_changed _ j w f = f

abbrev pub all_pages_changed : List Change → ℕ → State → Frames → Frames
all_pages_changed [] j w f = f
all_pages_changed (c ∷ cs) j w f = all_pages_changed cs j (effect_on c j w) (pages_changed c j w f)

-- and after a decision that is carried out
abbrev pub pages_carried : Decision → ℕ → State → Frames → Frames
pages_carried (Waits r) j w f = f
pages_carried (Goes cs h vs) j w f = all_pages_changed cs.items j w f
pages_carried (Ends cs ss e) j w f = all_pages_changed cs.items j w f
pages_carried (Gone cs) j w f = all_pages_changed (changes.Remove j ∷ cs.items) j w f
