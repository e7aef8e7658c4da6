-- Every run ends in a machine that can be saved, if that machine keeps what types keep. What a run
-- keeps is shown of the start of a session, of a step and of a line.
use Rattle.std.specs.Prelude.{◌≡◌, ◌<◌, ℕ, Bool, false, Option, Some, None, List, [], ◌∷◌, unwrap_or, refl}
use Rattle.std.proofs.Common.{sym, subst, arith}
use Rattle.its_word.specs.Core.{zero_page}
use Rattle.its_word.specs.Flags.{named_flags}
use Rattle.its_word.specs.Word.{left_of}
use Rattle.its_records.specs.Item.{Item}
use Rattle.its_records.specs.Tree.{fresh_job}
use Rattle.its_records.specs.declared.calls.Pace.{Pace}
use Rattle.its_records.specs.declared.calls.Pace.TheVariants.{Step, Work, Wait, Off}
use Rattle.its_records.specs.declared.session.Event.{Event}
use Rattle.its_print.specs.Printing.{Line}
use Rattle.its_plain.specs.Call.Step.{step}
use Rattle.its_plain.specs.Transcript.Course.{Moment, machine_after, run_of}
use Rattle.its_plain.specs.Machine.{Whole, Machine, no_machine}
use Rattle.its_plain.specs.Operator.{Block, Does}
use Rattle.its_plain.specs.Operator.Clock.{clock_end}
use Rattle.its_plain.specs.Operator.Lines.{Done, lined}
use Rattle.its_plain.specs.Promise.Stretch.{machine_at}
use Rattle.its_plain.specs.Transcript.{at_start}
use Rattle.its_plain.specs.Transcript.Turns.{highest}
use Rattle.its_plain.proofs.CallLineLaws.{line_does}
use Rattle.its_stepped.specs.Address.{Addressed}
use Rattle.its_stepped.specs.Alarmed.{Alarmed}
use Rattle.its_stepped.specs.Forest.{Forest}
use Rattle.its_stepped.proofs.Keeping.AlarmLaws.{alarmed_starts, step_alarmed, line_alarmed}
use Rattle.its_stepped.proofs.Keeping.ClockLaws.{step_clock, line_timed}
use Rattle.its_stepped.proofs.Running.CourseLaws.{EachMoment, Linked, run_course}
use Rattle.its_stepped.proofs.Duties.FitLaws.{forest_steps}
use Rattle.its_stepped.proofs.Keeping.ForestLaws.{forest_starts}
use Rattle.its_stepped.proofs.Running.WrittenLaws.{line_forest}
use Rattle.its_saved.specs.WellFormed.{IsHollow, Tight, Flagged, KeptByTypes, WellFormed, Named}
use Rattle.its_saved.proofs.FlaggedLaws.{named_twice, flagged_starts, step_flagged}
use Rattle.its_saved.proofs.LinesKeepLaws.{KeepsJobs, line_keeps_jobs}
use Rattle.its_saved.proofs.AliveLaws.{line_alive}
use Rattle.its_saved.proofs.NamedLaws.{named_starts, step_named, line_named}
use Rattle.its_saved.proofs.TightLaws.{tight_starts, step_tight, store_hollow, with_page_hollow, zeros_hollow, marked_hollow, no_core_hollow}

-- what holds at the start of a session, and is kept by each step and each line
pub record EachRun (P : Machine → Type 0) : Type 0 where
  pub starts : P no_machine
  pub steps : (m n : Machine) (j : ℕ) → Forest m → P m → step m j ≡ Some n → P n
  pub lines : (m n : Machine) (b c : Block) (e : Event) (out : List Line) (touched : ℕ → Bool) → Forest m → P m
      → lined m b e ≡ Done (Does n out touched c) → P n

module _ {P : Machine → Type 0} (each : EachRun P) where
  abbrev Keeps : Moment → Machine → Type 0
  Keeps t n = P t.machine → P n

  letter_keeps : (m : Machine) (i : ℕ) (p : Pace) → Forest m → P m → P (machine_after m i p)
  letter_keeps m i Step forest h = by (step m i) refl
    where
      by : (o : Option Machine) → step m i ≡ o → P (unwrap_or o m)
      by (Some n) e = each.steps m n i forest h e
      by None e = h
  letter_keeps m i Work forest h = h
  letter_keeps m i Wait forest h = h
  letter_keeps m i Off forest h = h

  each_moment : EachMoment Keeps
  each_moment = record {
    letter = λ v i p forest h. letter_keeps v.machine i p forest h;
    turn = λ v s forest h. h;
    line = λ v e n out touched c forest is h. each.lines v.machine n v.block c e out touched forest h is;
  }

  at_end : (ts : List Moment) (n : Machine) → Linked Keeps ts n → P (machine_at ts n) → P n
  at_end [] n l h = h
  at_end (x ∷ xs) n l h = at_end xs n l.1 (l.0 h)

  -- it holds at the end of every run
  pub run_keeps : (es : List Item) (lines : List Line) → P (run_of es lines).last
  run_keeps es lines =
      let r = run_course each_moment at_start highest es lines forest_starts in
      at_end (run_of es lines).moments (run_of es lines).last r.linked (subst P (sym r.begins) each.starts)

-- the jobs are a forest
each_forest : EachRun Forest
each_forest = record {
  starts = forest_starts;
  steps = λ m n j forest h e. forest_steps m n j h e;
  lines = λ m n b c e out touched forest h is. line_forest m n b c e out touched h is;
}

-- alarms are to come
each_alarmed : EachRun Alarmed
each_alarmed = record { starts = alarmed_starts; steps = step_alarmed; lines = line_alarmed }

-- the clock is below its end
abbrev Timed : Machine → Type 0
Timed m = m.clock < clock_end

timed_starts : Timed no_machine
unfolding no_machine
timed_starts = omega arith

each_timed : EachRun Timed
each_timed = record {
  starts = timed_starts;
  steps = λ m n j forest h e. subst (λ t. t < clock_end) (sym (step_clock m n j e)) h;
  lines = λ m n b c e out touched forest h is. line_timed m n b c e out touched h is;
}

-- page 0 of each core is hollow, and each link has an open end
hollow_jobs : KeepsJobs (λ q. IsHollow q.core)
hollow_jobs = record {
  made = λ u j c. no_core_hollow;
  stored = λ q a w h. store_hollow q.core a w h;
  mapped = λ q k h. with_page_hollow q.core k (Some zero_page) zeros_hollow h;
  protected = λ q k h. marked_hollow q.core k false h;
  goes = λ q a h. h;
  interrupted = λ q v w h. h;
  stopped = λ q h. h;
  continued = λ q h. h;
  alarmed = λ q c h. h;
  registered = λ q r h. h;
  armed = λ q a h. h;
  placed = λ q t h. h;
  channelled = λ q n f k h. h;
}

line_tight : (m n : Machine) (b c : Block) (e : Event) (out : List Line) (touched : ℕ → Bool) → Forest m → Tight m
    → lined m b e ≡ Done (Does n out touched c) → Tight n
line_tight m n b c e out touched forest h is = record {
  cores = (line_keeps_jobs hollow_jobs m n b c e out touched (record { each = h.cores }) is).each;
  links = line_alive m n e h.links (line_does m n b c e out touched is);
}

each_tight : EachRun Tight
each_tight = record { starts = tight_starts; steps = λ m n j forest h e. step_tight m n j h e; lines = line_tight }

-- the flags of each job are ones that a PC word has
abbrev HasFlags : Whole → Type 0
HasFlags q = named_flags q.job.flags ≡ q.job.flags

new_flags : (u j : ℕ) (c : Option ℕ) → named_flags (fresh_job u j c).flags ≡ (fresh_job u j c).flags
unfolding fresh_job
new_flags u j c = refl

flagged_jobs : KeepsJobs HasFlags
flagged_jobs = record {
  made = new_flags;
  stored = λ q a w h. h;
  mapped = λ q k h. h;
  protected = λ q k h. h;
  goes = λ q a h. refl;
  interrupted = λ q v w h. h;
  stopped = λ q h. h;
  continued = λ q h. h;
  alarmed = λ q c h. h;
  registered = λ q r h. named_twice (left_of r.pc);
  armed = λ q a h. h;
  placed = λ q t h. h;
  channelled = λ q n f k h. h;
}

each_flagged : EachRun Flagged
each_flagged = record {
  starts = flagged_starts;
  steps = λ m n j forest h e. step_flagged m n j h e;
  lines = λ m n b c e out touched forest h is. record { each = (line_keeps_jobs flagged_jobs m n b c e out touched (record { each = h.each }) is).each };
}

-- the names of files are three words each
each_named : EachRun Named
each_named = record {
  starts = named_starts;
  steps = λ m n j forest h e. step_named m n j h e;
  lines = λ m n b c e out touched forest h is. line_named m n b c e out touched h is;
}

pub run_forest : (es : List Item) (lines : List Line) → Forest (run_of es lines).last
run_forest es lines = run_keeps each_forest es lines

pub run_alarmed : (es : List Item) (lines : List Line) → Alarmed (run_of es lines).last
run_alarmed es lines = run_keeps each_alarmed es lines

pub run_timed : (es : List Item) (lines : List Line) → (run_of es lines).last.clock < clock_end
run_timed es lines = run_keeps each_timed es lines

pub run_tight : (es : List Item) (lines : List Line) → Tight (run_of es lines).last
run_tight es lines = run_keeps each_tight es lines

pub run_flagged : (es : List Item) (lines : List Line) → Flagged (run_of es lines).last
run_flagged es lines = run_keeps each_flagged es lines

pub run_named : (es : List Item) (lines : List Line) → Named (run_of es lines).last
run_named es lines = run_keeps each_named es lines

-- every run ends in a machine that can be saved, if the PC of each job is an address and what the
-- types of its parts keep holds of it
pub run_well_formed : (es : List Item) (lines : List Line) → Addressed (run_of es lines).last → KeptByTypes (run_of es lines).last
    → WellFormed (run_of es lines).last
run_well_formed es lines addressed types = record {
  timed = run_timed es lines;
  forest = run_forest es lines;
  alarmed = run_alarmed es lines;
  addressed = addressed;
  flagged = run_flagged es lines;
  tight = run_tight es lines;
  types = types;
}
