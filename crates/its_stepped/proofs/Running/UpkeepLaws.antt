-- Upkeep from soundness: ticks and lines keep a state sound, and few `.` come in a row
-- (docs/STEPS.md, "Lines").
use Rattle.std.specs.Prelude.{◌≡◌, ◌≤◌, ℕ, Bool, true, false, Some, List, refl}
use Rattle.std.proofs.Common.{sym, subst, arith}
use Rattle.its_records.specs.Item.{Item}
use Rattle.its_records.specs.declared.calls.Pace.{Pace}
use Rattle.its_records.specs.declared.calls.Pace.TheVariants.{Step, Work, Wait, Off}
use Rattle.its_records.specs.declared.session.Event.{Event}
use Rattle.its_print.specs.Printing.{Line}
use Rattle.its_plain.specs.Machine.{Machine, no_machine}
use Rattle.its_plain.specs.Operator.{Block, Refuses, Does, Ticks, Quits}
use Rattle.its_plain.specs.Call.Step.{step}
use Rattle.its_plain.specs.Transcript.Licence.{Licensed, Dots, dots_after, dots_after_line}
use Rattle.its_plain.specs.Transcript.{Transcript}
use Rattle.its_plain.specs.Operator.Lines.{Lined, Done, Peeks, lined}
use Rattle.its_stepped.specs.State.{State, plain, no_state}
use Rattle.its_stepped.specs.Tick.{tick}
use Rattle.its_stepped.specs.Sound.{Sound}
use Rattle.its_stepped.specs.Duty.{Given}
use Rattle.its_stepped.specs.Lines.{after_calm, with_raw, lifted_line, stepped}
use Rattle.its_stepped.proofs.Ticking.TickLaws.{tick_is}
use Rattle.its_stepped.proofs.Ticking.SoundLaws.{tick_sound}
use Rattle.its_stepped.proofs.Ticking.DotsLaws.{bound, Dotted, tick_dotted, tick_few}
use Rattle.its_stepped.proofs.Lining.LineLaws.{line_plain}
use Rattle.its_stepped.proofs.Lining.KeptLaws.{KeptBy, line_kept}
use Rattle.its_stepped.proofs.Running.SessionLaws.{HoldsAfter, Upkeep, stepped_transcript}
use Rattle.its_stepped.proofs.Lining.StartLaws.{no_state_plain, no_state_sound}

-- facts of the plain machine that hold at the start, that its steps and lines keep, and from which,
-- in a sound state, each call does its duty
pub record Lasting (Placed : Machine → Type 0) : Type 0 where
  pub starts : Placed no_machine
  pub steps : (m n : Machine) (j : ℕ) → Placed m → step m j ≡ Some n → Placed n
  pub lines : (m n : Machine) (b c : Block) (e : Event) (out : List Line) (touched : ℕ → Bool) → Placed m
      → lined m b e ≡ Done (Does n out touched c) → Placed n
  pub duties : (w : State) (j : ℕ) → Sound w → Placed (plain w) → Given w j

-- a state that is sound, whose plain machine is placed, and in which few `.` came for each slot
pub record Good (Placed : Machine → Type 0) (d : Dots) (w : State) : Type 0 where
  pub sound : Sound w
  pub placed : Placed (plain w)
  pub dotted : Dotted d w.frames

-- the dots after a line
settled_by : (d : Dots) (touched : ℕ → Bool) (k most : ℕ) (b : Bool) → touched k ≡ b → (b ≡ false → d k ≤ most) → dots_after_line d touched k ≤ most
settled_by d touched k most true is h = rw is (omega arith)
settled_by d touched k most false is h = rw is (h refl)

module _ {Placed : Machine → Type 0} (l : Lasting Placed) where
  -- what the plain machine keeps through a letter
  letter_placed : (m n : Machine) (j : ℕ) (p : Pace) → Placed m → Licensed m j p n → Placed n
  letter_placed m n j Step g h = l.steps m n j g h
  letter_placed m n j Work g h = subst Placed (sym h.1) g
  letter_placed m n j Wait g h = subst Placed (sym h.2) g
  letter_placed m n j Off g h = subst Placed (sym h.1) g

  good_starts : Good Placed (λ _. 0) (no_state no_machine)
  good_starts = record {
    sound = no_state_sound;
    placed = subst Placed (sym (no_state_plain no_machine)) l.starts;
    dotted = record { each = λ k. omega arith };
  }

  good_paced : (d : Dots) (w : State) (j : ℕ) → Good Placed d w → Licensed (plain w) j (tick w j).pace (plain (tick w j).state)
  good_paced d w j g = tick_is w j g.sound (l.duties w j g.sound g.placed)

  good_ticks : (d : Dots) (w : State) (j : ℕ) → Good Placed d w → Good Placed (dots_after (plain w) d j (tick w j).pace) (tick w j).state
  good_ticks d w j g =
      let given = l.duties w j g.sound g.placed in
      record {
        sound = tick_sound w j g.sound given;
        placed = letter_placed (plain w) (plain (tick w j).state) j (tick w j).pace g.placed (tick_is w j g.sound given);
        dotted = tick_dotted w d j g.sound given g.dotted;
      }

  after_by : (d : Dots) (w v : State) (b : Block) (e : Event) (o : Lined) → Good Placed d w → lined (plain w) b e ≡ lifted_line v o
      → KeptBy w v o → HoldsAfter (Good Placed) d v o
  after_by d w v b e (Done (Does m out touched b')) g is h = record {
    sound = h.sound;
    placed = l.lines (plain w) (plain (with_raw v m)) b b' e out touched g.placed is;
    dotted = record {
      each = λ k. settled_by d touched k (bound (v.frames k)) (touched k) refl (λ no. subst (λ f. d k ≤ bound f) (sym (h.spares k no)) (g.dotted.each k));
    };
  }
  after_by d w v b e (Done (Refuses r)) g is h = tt
  after_by d w v b e (Done (Ticks s k)) g is h = tt
  after_by d w v b e (Done Quits) g is h = tt
  after_by d w v b e (Peeks s) g is h = tt

  pub upkeep : Upkeep (Good Placed)
  upkeep = record {
    starts = good_starts;
    paced = good_paced;
    few = λ d w j g. tick_few w d j g.sound g.dotted;
    ticks = good_ticks;
    line = λ d w b e g. line_plain w b e g.sound;
    after = λ d w b e g. after_by d w (after_calm w b e) b e (lined (after_calm w b e).raw b e) g (line_plain w b e g.sound) (line_kept w b e g.sound);
  }

  -- the lines of a session are a transcript of the plain machine
  pub session_transcript : (es : List Item) → Transcript es (stepped es).lines (stepped es).fate
  session_transcript es = stepped_transcript upkeep es
