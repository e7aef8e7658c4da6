-- A line of the state part that tests, and then changes one slot or none: what the world after it
-- has to do with the state that it found, and that it keeps what holds between calls.
use Rattle.std.specs.Prelude.{◌≡◌, ◌<◌, ℕ, Bool, true, false, Option, None, Result, Ok, Err, IsOk, refl}
use Rattle.std.proofs.Common.{sym, ◌∙◌, ap, subst, inl, inr}
use Rattle.std.proofs.lemmas.Bool.{cases_eq}
use Rattle.its_records.specs.Refusals.{reason_of}
use Rattle.its_records.specs.declared.session.Reason.{Reason}
use Rattle.its_records.specs.declared.session.Refusal.{Refusal}
use Rattle.its_plain.specs.Machine.{Chan, Pipe, Whole, Machine}
use Rattle.its_plain.specs.Machine.Change.{in_job}
use Rattle.its_plain.specs.Machine.Own.{on_channel}
use Rattle.its_plain.specs.Operator.Clock.{clock_end}
use Rattle.its_stepped.specs.Address.{Addressed}
use Rattle.its_stepped.specs.Alarmed.{Alarmed}
use Rattle.its_stepped.specs.Consoled.{Consoled}
use Rattle.its_stepped.specs.Forest.{Forest}
use Rattle.its_stepped.specs.Lines.{with_raw}
use Rattle.its_stepped.specs.Sound.{SoundBy, Sound}
use Rattle.its_stepped.specs.State.{State, plain}
use Rattle.its_stepped.specs.Unwind.{unwound, help}
use Rattle.its_stepped.proofs.Committing.HelpLaws.{help_plain, help_unmarked}
use Rattle.its_stepped.proofs.Committing.CommitSound.{user_sound}
use Rattle.its_stepped.proofs.Keeping.AddressLaws.{job_addressed}
use Rattle.its_stepped.proofs.Keeping.AlarmLaws.{job_alarmed}
use Rattle.its_stepped.proofs.Keeping.ConsoledLaws.{job_consoled}
use Rattle.its_stepped.proofs.Lining.KeptLaws.{Off, user_page}
use Rattle.its_stepped.proofs.Lining.LiftLaws.{lift}
use Rattle.its_stepped.proofs.Lining.RefusalLaws.{error_of}
use Rattle.its_stepped.proofs.Unwinding.UnwindLaws.{unwound_none, unwound_plain, unwound_unmarked}
use Rattle.its_world.specs.Tidy.{Tidy}
use Rattle.its_world.specs.World.{state_of}
use Rattle.its_world.specs.declared.world.World.{World}
use Rattle.its_tick.proofs.WaitsLaws.{kept_is}
use Rattle.its_monitor.specs.Kept.{Kept, Lands, Refused, Calmed, Helped, FileRefused}
use Rattle.its_monitor.proofs.KeptLaws.{error_is, refused_by}

-- what holds of the plain machine between two calls
pub record Holds (m : Machine) : Type 0 where
  pub forest : Forest m
  pub addressed : Addressed m
  pub consoled : Consoled m
  pub timed : m.clock < clock_end
  pub alarmed : Alarmed m

pub kept_holds : (w : World) → Kept w → Holds (plain (state_of w))
kept_holds w kept = record {
  forest = kept.forest;
  addressed = record { each = kept.addressed };
  consoled = record { each = kept.consoled };
  timed = kept.timed;
  alarmed = kept.alarmed;
}

pub holds_kept : (w : World) → Sound (state_of w) → Holds (plain (state_of w)) → Tidy w → Kept w
holds_kept w sound h tidy = kept_is w sound h.forest tidy h.addressed.each h.consoled.each h.timed h.alarmed

-- a channel is put on something else, and the links may be others
pub channel_holds : (m : Machine) (s n : ℕ) (g : Chan → Chan) (ls : ℕ → Option Pipe) → Forest (record (in_job m s (on_channel n g)) { links = ls })
    → Holds m → Holds (record (in_job m s (on_channel n g)) { links = ls })
channel_holds m s n g ls forest h = record {
  forest = forest;
  addressed = record { each = (job_addressed m s (on_channel n g) (λ q x. x) h.addressed).each };
  consoled = record { each = (job_consoled m s (on_channel n g) (λ q. refl) h.consoled).each };
  timed = h.timed;
  alarmed = record { each = (job_alarmed m s (on_channel n g) (λ q. refl) h.alarmed).each };
}

-- only the links are others
pub links_hold : (m : Machine) (ls : ℕ → Option Pipe) → Forest (record m { links = ls }) → Holds m → Holds (record m { links = ls })
links_hold m ls forest h = record {
  forest = forest;
  addressed = record { each = h.addressed.each };
  consoled = record { each = h.consoled.each };
  timed = h.timed;
  alarmed = record { each = h.alarmed.each };
}

-- a slot in user mode is sound whatever job it has
off_sound : (v : State) (m : Machine) (s : ℕ) → Sound v → v.frames s ≡ None → Off v.raw m s → Sound (with_raw v m)
off_sound v m s sound e off = record {
  each = λ k. elim (cases_eq k s) [
    | inl is ↦ rw is (user_sound (m.jobs s) (v.frames s) (v.reserved s) e (user_page (v.raw.jobs s) (v.frames s) (v.reserved s) e (sound.each s).by))
    | inr ne ↦ record { by = subst (λ (o : Option Whole). SoundBy o (v.frames k) (v.reserved k)) (sym (off.others k ne)) (sound.each k).by }
  ];
  mark = sound.mark;
}

-- a line that changes the job of slot s: it does the same to a raw machine and to its plain one (if
-- it looks at files, once no close is half made), it changes no other job, and it keeps what holds
-- between calls
pub record Restores (files : Bool) (s : ℕ) (f : Machine → Result Machine Reason) : Type 0 where
  pub lifts : (v : State) → (files ≡ true → v.mark ≡ None) → f (plain v) ≡ lift v (f v.raw)
  pub off : (m n : Machine) → f m ≡ Ok n → Off m n s
  pub holds : (m n : Machine) → f m ≡ Ok n → Holds m → Holds n

-- it is refused of the raw machine exactly if it is of the plain one
lift_error : (v : State) (r : Result Machine Reason) → error_of (lift v r) ≡ error_of r
lift_error v (Ok m) = refl
lift_error v (Err r) = refl

is_alike : (files : Bool) (s : ℕ) (f : Machine → Result Machine Reason) → Restores files s f → (v : State) → (files ≡ true → v.mark ≡ None)
    → error_of (f (plain v)) ≡ error_of (f v.raw)
is_alike files s f r v whole = ap error_of (r.lifts v whole) ∙ lift_error v (f v.raw)

ok_none : (r : Result Machine Reason) → IsOk r → error_of r ≡ None
ok_none (Ok m) h = refl
ok_none (Err e) h = cc

none_ok : (r : Result Machine Reason) → error_of r ≡ None → IsOk r
none_ok (Ok m) h = refl
none_ok (Err e) h = cc

-- a state with the same plain machine allows it too
same_ok : (files : Bool) (s : ℕ) (f : Machine → Result Machine Reason) → Restores files s f → (v w : State) → (files ≡ true → v.mark ≡ None)
    → (files ≡ true → w.mark ≡ None) → plain v ≡ plain w → IsOk (f w.raw) → IsOk (f v.raw)
same_ok files s f r v w a b same h =
    none_ok (f v.raw) (sym (is_alike files s f r v a) ∙ ap (λ m. error_of (f m)) same ∙ is_alike files s f r w b ∙ ok_none (f w.raw) h)

-- the machine that a line leads to, of the plain machine
landed_plain : (files : Bool) (s : ℕ) (f : Machine → Result Machine Reason) → Restores files s f → (w v new : State) → (files ≡ true → v.mark ≡ None)
    → plain v ≡ plain w → Lands v new (f v.raw) → f (plain w) ≡ Ok (plain new)
landed_plain files s f r w v new whole same l =
    ap f (sym same) ∙ r.lifts v whole ∙ ap (lift v) l.is ∙ ap (λ (x : State). Ok (plain x)) (sym l.rest)

landed_sound : (files : Bool) (s : ℕ) (f : Machine → Result Machine Reason) → Restores files s f → (v new : State) → Sound v → v.frames s ≡ None
    → Lands v new (f v.raw) → Sound new
landed_sound files s f r v new sound idle l = subst Sound (sym l.rest) (off_sound v new.raw s sound idle (r.off v.raw new.raw l.is))

landed_kept : (files : Bool) (s : ℕ) (f : Machine → Result Machine Reason) → Restores files s f → (w mid new : World) → Kept w → Kept mid
    → (files ≡ true → (state_of mid).mark ≡ None) → plain (state_of mid) ≡ plain (state_of w) → (state_of mid).frames s ≡ None
    → Lands (state_of mid) (state_of new) (f (state_of mid).raw) → Tidy new → Kept new
landed_kept files s f r w mid new kept calm whole same idle l tidy =
    holds_kept new (landed_sound files s f r (state_of mid) (state_of new) calm.sound idle l)
    (r.holds (plain (state_of w)) (plain (state_of new)) (landed_plain files s f r (state_of w) (state_of mid) (state_of new) whole same l) (kept_holds w kept))
    tidy

-- a line that unwinds its slot, and does not look at files
module _ (s : ℕ) (f : Machine → Result Machine Reason) (r : Restores false s f) where
  unlooked : (v : State) → false ≡ true → v.mark ≡ None
  unlooked v h = cc

  pub calm_refused : (w : World) (x : Refusal) → Kept w → f (state_of w).raw ≡ Err (reason_of x) → Refused (state_of w) (unwound (state_of w) s) f x
  calm_refused w x kept h = refused_by f (state_of w) s x (λ u. is_alike false s f r u (unlooked u)) kept.sound h

  module _ (old mid : World) (kept : Kept old) (c : Calmed old mid s) where
    calm_same : plain (state_of mid) ≡ plain (state_of old)
    calm_same = ap plain c.calm.unwinds ∙ unwound_plain (state_of old) s kept.sound

    calm_idle : (state_of mid).frames s ≡ None
    calm_idle = ap (λ (v : State). v.frames s) c.calm.unwinds ∙ unwound_none (state_of old) s kept.sound

    pub calm_can : IsOk (f (state_of old).raw) → IsOk (f (state_of mid).raw)
    calm_can h = same_ok false s f r (state_of mid) (state_of old) (unlooked (state_of mid)) (unlooked (state_of old)) calm_same h

    pub calm_done : (new : World) → Lands (state_of mid) (state_of new) (f (state_of mid).raw)
        → Lands (unwound (state_of old) s) (state_of new) (f (unwound (state_of old) s).raw)
    calm_done new l = subst (λ (v : State). Lands v (state_of new) (f v.raw)) c.calm.unwinds l

    pub calm_plain : (new : World) → Lands (state_of mid) (state_of new) (f (state_of mid).raw) → f (plain (state_of old)) ≡ Ok (plain (state_of new))
    calm_plain new l = landed_plain false s f r (state_of old) (state_of mid) (state_of new) (unlooked (state_of mid)) calm_same l

    pub calm_kept : (new : World) → Lands (state_of mid) (state_of new) (f (state_of mid).raw) → Tidy new → Kept new
    calm_kept new l tidy = landed_kept false s f r old mid new kept c.calm.kept (unlooked (state_of mid)) calm_same calm_idle l tidy

-- no close is half made then
pub aided_whole : (old aid : World) → Helped old aid → (state_of aid).mark ≡ None
aided_whole old aid h = ap (λ (v : State). v.mark) h.state ∙ help_unmarked (state_of old)

-- a line that looks at files: the pending parts of a close are performed, and then its slot is
-- unwound
module _ (s : ℕ) (f : Machine → Result Machine Reason) (r : Restores true s f) where
  pub whole_refused : (old aid : World) (x : Refusal) → Helped old aid → f (state_of aid).raw ≡ Err (reason_of x) → FileRefused (state_of old) f x
  whole_refused old aid x h is =
      let calmed : f (help (state_of old)).raw ≡ Err (reason_of x) = ap (λ (v : State). f v.raw) (sym h.state) ∙ is in
      record {
        plain = error_is (f (plain (state_of old))) (f (help (state_of old)).raw) (reason_of x)
            (ap (λ m. error_of (f m)) (sym (help_plain (state_of old))) ∙ is_alike true s f r (help (state_of old)) (λ t. help_unmarked (state_of old))) calmed;
        calmed = calmed;
      }

  module _ (old aid mid : World) (kept : Kept old) (h : Helped old aid) (c : Calmed aid mid s) where
    aid_whole : (state_of aid).mark ≡ None
    aid_whole = aided_whole old aid h

    pub mid_whole : (state_of mid).mark ≡ None
    mid_whole = ap (λ (v : State). v.mark) c.calm.unwinds ∙ unwound_unmarked (state_of aid) s aid_whole

    mid_state : state_of mid ≡ unwound (help (state_of old)) s
    mid_state = c.calm.unwinds ∙ ap (λ (v : State). unwound v s) h.state

    mid_same : plain (state_of mid) ≡ plain (state_of old)
    mid_same = ap plain c.calm.unwinds ∙ unwound_plain (state_of aid) s h.kept.sound ∙ ap plain h.state ∙ help_plain (state_of old)

    mid_idle : (state_of mid).frames s ≡ None
    mid_idle = ap (λ (v : State). v.frames s) c.calm.unwinds ∙ unwound_none (state_of aid) s h.kept.sound

    pub whole_can : IsOk (f (state_of aid).raw) → IsOk (f (state_of mid).raw)
    whole_can ok = same_ok true s f r (state_of mid) (state_of aid) (λ t. mid_whole) (λ t. aid_whole)
        (ap plain c.calm.unwinds ∙ unwound_plain (state_of aid) s h.kept.sound) ok

    pub whole_done : (new : World) → Lands (state_of mid) (state_of new) (f (state_of mid).raw)
        → Lands (unwound (help (state_of old)) s) (state_of new) (f (unwound (help (state_of old)) s).raw)
    whole_done new l = subst (λ (v : State). Lands v (state_of new) (f v.raw)) mid_state l

    pub whole_plain : (new : World) → Lands (state_of mid) (state_of new) (f (state_of mid).raw) → f (plain (state_of old)) ≡ Ok (plain (state_of new))
    whole_plain new l = landed_plain true s f r (state_of old) (state_of mid) (state_of new) (λ t. mid_whole) mid_same l

    pub whole_kept : (new : World) → Lands (state_of mid) (state_of new) (f (state_of mid).raw) → Tidy new → Kept new
    whole_kept new l tidy = landed_kept true s f r old mid new kept c.calm.kept (λ t. mid_whole) mid_same mid_idle l tidy

-- a line that changes links alone, and unwinds nobody
pub record Rejoins (f : Machine → Result Machine Reason) : Type 0 where
  pub lifts : (v : State) → f (plain v) ≡ lift v (f v.raw)
  pub jobs : (m n : Machine) → f m ≡ Ok n → n.jobs ≡ m.jobs
  pub holds : (m n : Machine) → f m ≡ Ok n → Holds m → Holds n

module _ (f : Machine → Result Machine Reason) (r : Rejoins f) where
  pub link_refused : (w : State) (x : Refusal) → f w.raw ≡ Err (reason_of x) → Refused w w f x
  link_refused w x h = record {
    plain = error_is (f (plain w)) (f w.raw) (reason_of x) (ap error_of (r.lifts w) ∙ lift_error w (f w.raw)) h;
    raw = h;
    calmed = h;
  }

  module _ (old new : World) (l : Lands (state_of old) (state_of new) (f (state_of old).raw)) where
    pub link_plain : f (plain (state_of old)) ≡ Ok (plain (state_of new))
    link_plain = r.lifts (state_of old) ∙ ap (lift (state_of old)) l.is ∙ ap (λ (x : State). Ok (plain x)) (sym l.rest)

    link_sound : Sound (state_of old) → Sound (state_of new)
    link_sound sound =
        let jobs = r.jobs (state_of old).raw (state_of new).raw l.is in
        subst Sound (sym l.rest) (record {
          each = λ k. record {
            by = subst (λ (js : ℕ → Option Whole). SoundBy (js k) ((state_of old).frames k) ((state_of old).reserved k)) (sym jobs) (sound.each k).by;
          };
          mark = sound.mark;
        })

    pub link_kept : Kept old → Tidy new → Kept new
    link_kept kept tidy = holds_kept new (link_sound kept.sound)
        (r.holds (plain (state_of old)) (plain (state_of new)) link_plain (kept_holds old kept)) tidy
