-- The state after a line: it is sound, its plain machine is the one after that line, and it has the
-- frames of all slots that the line does not disturb (docs/STEPS.md, "Lines").
use Rattle.std.specs.Prelude.{◌≡◌, ℕ, false, refl}
use Rattle.std.proofs.Common.{sym, ◌∙◌, ap}
use Rattle.its_records.specs.declared.session.Event.{Event}
use Rattle.its_plain.specs.Operator.{Block, Refuses, Does, Ticks, Quits}
use Rattle.its_plain.specs.Operator.Lines.{Lined, Done, Peeks, lined}
use Rattle.its_stepped.specs.State.{State, plain}
use Rattle.its_stepped.specs.Sound.{Sound}
use Rattle.its_stepped.specs.Tick.{after_help_if}
use Rattle.its_stepped.specs.Lines.{looks_at_files, after_calm, state_after, after_line, lifted_line, machine_after, touched_by}
use Rattle.its_stepped.proofs.Committing.HelpLaws.{helped_if_plain, helped_if_sound, helped_if_others}
use Rattle.its_stepped.proofs.Lining.LineLaws.{line_plain}
use Rattle.its_stepped.proofs.Lining.KeptLaws.{KeptBy, line_kept}

sound_by : (w u v : State) (l : Lined) → Sound u → KeptBy w v l → Sound (state_after u v l)
sound_by w u v (Done (Does m out touched b)) sound h = h.sound
sound_by w u v _ sound h = sound

pub after_sound : (w : State) (b : Block) (e : Event) → Sound w → Sound (after_line w b e)
unfolding after_line
after_sound w b e sound =
    sound_by w (after_help_if (looks_at_files e) w) (after_calm w b e) (lined (after_calm w b e).raw b e)
    (helped_if_sound (looks_at_files e) w sound) (line_kept w b e sound)

plain_by : (w v : State) (l : Lined) → plain (state_after w v l) ≡ machine_after (plain w) (lifted_line v l)
plain_by w v (Done (Does m out touched b)) = refl
plain_by w v (Done (Refuses r)) = refl
plain_by w v (Done (Ticks s k)) = refl
plain_by w v (Done Quits) = refl
plain_by w v (Peeks s) = refl

pub after_plain : (w : State) (b : Block) (e : Event) → Sound w → plain (after_line w b e) ≡ machine_after (plain w) (lined (plain w) b e)
unfolding after_line
after_plain w b e sound =
    let l = lined (after_calm w b e).raw b e in
    plain_by (after_help_if (looks_at_files e) w) (after_calm w b e) l
    ∙ ap (λ m. machine_after m (lifted_line (after_calm w b e) l)) (helped_if_plain (looks_at_files e) w)
    ∙ ap (machine_after (plain w)) (sym (line_plain w b e sound))

frames_by : (w u v : State) (l : Lined) (k : ℕ) → u.frames k ≡ w.frames k → touched_by (lifted_line v l) k ≡ false → KeptBy w v l
    → (state_after u v l).frames k ≡ w.frames k
frames_by w u v (Done (Does m out touched b)) k same away h = h.spares k away
frames_by w u v _ k same away h = same

pub after_frames : (w : State) (b : Block) (e : Event) (k : ℕ) → Sound w → touched_by (lined (plain w) b e) k ≡ false
    → (after_line w b e).frames k ≡ w.frames k
unfolding after_line
after_frames w b e k sound away =
    frames_by w (after_help_if (looks_at_files e) w) (after_calm w b e) (lined (after_calm w b e).raw b e) k (helped_if_others (looks_at_files e) w k).frame
    (sym (ap (λ l. touched_by l k) (line_plain w b e sound)) ∙ away) (line_kept w b e sound)
