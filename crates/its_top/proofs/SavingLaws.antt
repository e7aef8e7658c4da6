-- From how a session that was obeyed in silence ended to what `save` wrote.
use Rattle.std.specs.Prelude.{◌≡◌, ◌≢◌, ℕ, Option, Some, None, IfSome, List, [], ◌∷◌, ◌++◌, refl}
use Rattle.std.proofs.Common.{sym, ◌∙◌, ap, subst, inl}
use Rattle.std.specs.Io.KnownBytes.{Appends}
use Rattle.std.proofs.KnownBytes.{Appends-nil}
use Rattle.its_records.specs.Item.{Item}
use Rattle.its_records.specs.declared.session.Reason.{Reason}
use Rattle.its_print.specs.Printing.{Line, text, text_of_line}
use Rattle.its_print.specs.Printing as printed
use Rattle.its_session.specs.Events.{events_of, whole_events_of}
use Rattle.its_reader.specs.Limits.{WithinLimits}
use Rattle.its_plain.specs.Transcript.{Fate, Ended, Open, Refused, TooLong}
use Rattle.its_plain.specs.Transcript.Course.{run_of, last_turn}
use Rattle.its_stepped.specs.Lines.{Told, stepped}
use Rattle.its_world.specs.World.{plain_of}
use Rattle.its_world.specs.declared.world.World.{World}
use Rattle.its_top.specs.Answer.{WroteFor, Tells}
use Rattle.its_top.specs.Checking.{StatusFor, WroteText}
use Rattle.its_top.specs.Conclusion.{IsDone, WasRun, status_of}
use Rattle.its_top.specs.Outcomes.{Begins, SaveBreaks, SaveDone, SaveRefuses, SaveRunsOn, SaveSays, Unfailed}
use Rattle.its_top.specs.Saving.{Savable, system_text, text_saved, last_alone, save_by, save_of, save_text, SavedBy, Saves}
use Rattle.its_top.specs.Silent.{Broken, EndsBy, Led}
use Rattle.its_top.specs.declared.commands.status.Status.{Status}
use Rattle.its_top.specs.declared.commands.status.Status.TheVariants as statuses
use Rattle.its_top.specs.declared.sessions.flow.Flow.{Flow}
use Rattle.its_top.specs.declared.sessions.flow.Flow.TheVariants as flows
use Rattle.its_top.specs.declared.sessions.silent.Ending.{Ending}
use Rattle.its_top.specs.declared.sessions.silent.Ending.TheVariants as endings
use Rattle.its_top.proofs.EventLaws.{text_one}
use Rattle.its_top.proofs.SavedLaws.{saved_of}

-- a session that is over: the lines of its system
save_by_done : (es : List Item) (lines : List Line) (fate : Fate) → IsDone fate → save_by es lines fate ≡ text_saved (run_of es lines)
save_by_done es lines Ended d = refl
save_by_done es lines Open d = refl
save_by_done es lines Refused d = absurd d
save_by_done es lines TooLong d = absurd d

over_text : (last : ℕ) (es : List Item) (w : World) → EndsBy endings.Over last es w → save_text es ≡ system_text (plain_of w) last
over_text last es w e =
    save_by_done es (stepped es).lines (stepped es).fate e.0
    ∙ ap (λ m. system_text m (last_turn (run_of es (stepped es).lines))) (sym e.1) ∙ ap (system_text (plain_of w)) (sym e.2)

over_as : (st : Status) (last : ℕ) (bytes read wrote : List ℕ) (w : World) → Savable (plain_of w) → EndsBy endings.Over last (events_of bytes) w
    → StatusFor st statuses.Done (system_text (plain_of w) last) wrote → SavedBy st bytes read wrote
over_as statuses.Done last bytes read wrote w s e c = (
  e.0,
  sym c.1 ∙ sym (over_text last (events_of bytes) w e),
  subst Savable e.1 s,
)
over_as statuses.WriteFault last bytes read wrote w s e c = record { more = c.0; whole = over_text last (events_of bytes) w e ∙ c.1 }
over_as statuses.Refused last bytes read wrote w s e c = absurd (let k : statuses.Refused ≡ statuses.Done = c.0 in cc)
over_as statuses.TooLong last bytes read wrote w s e c = absurd (let k : statuses.TooLong ≡ statuses.Done = c.0 in cc)
over_as statuses.ReadFault last bytes read wrote w s e c = absurd (let k : statuses.ReadFault ≡ statuses.Done = c.0 in cc)
over_as statuses.Usage last bytes read wrote w s e c = absurd (let k : statuses.Usage ≡ statuses.Done = c.0 in cc)
over_as statuses.NoMemory last bytes read wrote w s e c = absurd (let k : statuses.NoMemory ≡ statuses.Done = c.0 in cc)

text_ran : (st : Status) (bytes wrote : List ℕ) → StatusFor st statuses.Done bytes wrote → WasRun st
text_ran statuses.Usage bytes wrote c = absurd (let k : statuses.Usage ≡ statuses.Done = c.0 in cc)
text_ran statuses.NoMemory bytes wrote c = absurd (let k : statuses.NoMemory ≡ statuses.Done = c.0 in cc)
text_ran st bytes wrote c = tt

over_all : (st : Status) (last : ℕ) (left : Option (List ℕ)) (read wrote : List ℕ) (w : World) → Savable (plain_of w)
    → IfSome left (λ bytes. EndsBy endings.Over last (events_of bytes) w) → StatusFor st statuses.Done (system_text (plain_of w) last) wrote
    → IfSome left (λ bytes. SavedBy st bytes read wrote)
over_all st last None read wrote w s e c = tt
over_all st last (Some bytes) read wrote w s e c = over_as st last bytes read wrote w s e c

pub saves_over : (st : Status) (last : ℕ) (left rest old new : Option (List ℕ)) (w : World) → Savable (plain_of w) → Led endings.Over last left rest w
    → WroteText st statuses.Done (system_text (plain_of w) last) old new → Saves st left rest old new
saves_over st last left rest old new w s l t = record {
  read = l.read;
  wrote = t.wrote;
  consumed = l.consumed;
  appended = t.appended;
  ran = text_ran st (system_text (plain_of w) last) t.wrote t.complete;
  saved = over_all st last left l.read t.wrote w s l.ends t.complete;
  input = λ e. l.input refl;
}

-- a refused line: its `?` line alone
last_of : (ls : List Line) (l : Line) → last_alone (ls ++ l ∷ []) ≡ l ∷ []
last_of [] l = refl
last_of (k ∷ []) l = refl
last_of (k ∷ j ∷ ls) l = last_of (j ∷ ls) l

refused_text : (n : ℕ) (r : Reason) (last : ℕ) (es : List Item) (w : World) → EndsBy (endings.Refused n r) last es w
    → save_text es ≡ text_of_line (printed.Refused n r)
refused_text n r last es w e =
    ap (save_of es) e.1 ∙ ap text (last_of e.0 (printed.Refused n r)) ∙ text_one (printed.Refused n r)

refused_as : (flow : Flow) (n : ℕ) (r : Reason) (last : ℕ) (bytes read wrote : List ℕ) (w : World) → EndsBy (endings.Refused n r) last (events_of bytes) w
    → WroteFor flow flows.Refused (text_of_line (printed.Refused n r)) wrote → SavedBy (status_of flow) bytes read wrote
refused_as flows.Refused n r last bytes read wrote w e c =
    (ap (λ (t : Told). t.fate) e.1, sym c.1 ∙ sym (refused_text n r last (events_of bytes) w e))
refused_as flows.Fault n r last bytes read wrote w e c = record { more = c.0; whole = refused_text n r last (events_of bytes) w e ∙ c.1 }
refused_as flows.On n r last bytes read wrote w e c = absurd (let k : flows.On ≡ flows.Refused = c.0 in cc)
refused_as flows.Ended n r last bytes read wrote w e c = absurd (let k : flows.Ended ≡ flows.Refused = c.0 in cc)
refused_as flows.TooLong n r last bytes read wrote w e c = absurd (let k : flows.TooLong ≡ flows.Refused = c.0 in cc)

refused_all : (flow : Flow) (n : ℕ) (r : Reason) (last : ℕ) (left : Option (List ℕ)) (read wrote : List ℕ) (w : World)
    → IfSome left (λ bytes. EndsBy (endings.Refused n r) last (events_of bytes) w) → WroteFor flow flows.Refused (text_of_line (printed.Refused n r)) wrote
    → IfSome left (λ bytes. SavedBy (status_of flow) bytes read wrote)
refused_all flow n r last None read wrote w e c = tt
refused_all flow n r last (Some bytes) read wrote w e c = refused_as flow n r last bytes read wrote w e c

flow_ran : (flow : Flow) → WasRun (status_of flow)
flow_ran flows.On = tt
flow_ran flows.Ended = tt
flow_ran flows.Refused = tt
flow_ran flows.TooLong = tt
flow_ran flows.Fault = tt

not_done : (flow : Flow) (bytes wrote : List ℕ) → WroteFor flow flows.Refused bytes wrote → status_of flow ≢ statuses.Done
not_done flows.On bytes wrote c e = let k : flows.On ≡ flows.Refused = c.0 in cc
not_done flows.Ended bytes wrote c e = let k : flows.Ended ≡ flows.Refused = c.0 in cc
not_done _ bytes wrote c e = cc

saves_refusal : (st : Status) (flow : Flow) (n : ℕ) (r : Reason) (last : ℕ) (left rest old new : Option (List ℕ)) (w : World) → st ≡ status_of flow
    → Led (endings.Refused n r) last left rest w → Tells flow flows.Refused (text_of_line (printed.Refused n r)) old new → Saves st left rest old new
saves_refusal st flow n r last left rest old new w is l t =
    subst (λ x. Saves x left rest old new) (sym is)
    (record {
      read = l.read;
      wrote = t.wrote;
      consumed = l.consumed;
      appended = t.appended;
      ran = flow_ran flow;
      saved = refused_all flow n r last left l.read t.wrote w l.ends t.complete;
      input = λ e. absurd (not_done flow (text_of_line (printed.Refused n r)) t.wrote t.complete e);
    })

pub saves_refused : (ending : Ending) (st : Status) (flow : Flow) (n : ℕ) (r : Reason) (last : ℕ) (left rest old new : Option (List ℕ)) (w : World)
    → ending ≡ endings.Refused n r → st ≡ status_of flow → Led ending last left rest w
    → Tells flow flows.Refused (text_of_line (printed.Refused n r)) old new → Saves st left rest old new
saves_refused ending st flow n r last left rest old new w by is l t =
    saves_refusal st flow n r last left rest old new w is (subst (λ x. Led x last left rest w) by l) t

-- a line past the most
too_long_all : (last : ℕ) (left : Option (List ℕ)) (read : List ℕ) (w : World) → IfSome left (λ bytes. EndsBy endings.TooLong last (events_of bytes) w)
    → IfSome left (λ bytes. SavedBy statuses.TooLong bytes read [])
too_long_all last None read w e = tt
too_long_all last (Some bytes) read w e = (e, sym (ap (save_by (events_of bytes) (stepped (events_of bytes)).lines) e))

pub saves_too_long : (last : ℕ) (left rest out : Option (List ℕ)) (w : World) → Led endings.TooLong last left rest w → Saves statuses.TooLong left rest out out
saves_too_long last left rest out w l = record {
  read = l.read;
  wrote = [];
  consumed = l.consumed;
  appended = Appends-nil out;
  ran = tt;
  saved = too_long_all last left l.read w l.ends;
  input = λ e. cc;
}

-- the source failed
broken_all : (left : Option (List ℕ)) (read : List ℕ)
    → IfSome left (λ bytes. ((stepped (whole_events_of read)).fate ≡ Open) × WithinLimits read) → IfSome left (λ bytes. SavedBy statuses.ReadFault bytes read [])
broken_all None read h = tt
broken_all (Some bytes) read h = (h.0, h.1, refl)

pub saves_broken : (left rest out : Option (List ℕ)) → Broken left rest → Saves statuses.ReadFault left rest out out
saves_broken left rest out b = record {
  read = b.read;
  wrote = [];
  consumed = b.consumed;
  appended = Appends-nil out;
  ran = tt;
  saved = broken_all left b.read b.so_far;
  input = λ e. cc;
}

-- what each answer of `save` says
pub save_done : (st : Status) (bytes : List ℕ) (rest old new : Option (List ℕ)) → st ≡ statuses.Done → Saves st (Some bytes) rest old new
    → SaveDone bytes old new
save_done st bytes rest old new e s =
    let t = subst (λ x. Saves x (Some bytes) rest old new) e s in
    let a = subst (Appends old new) t.saved.1 t.appended in
    let es = events_of bytes in
    record {
      done = t.saved.0;
      saved = saved_of bytes old new t.saved.0 t.saved.2 (subst (Appends old new) (save_by_done es (stepped es).lines (stepped es).fate t.saved.0) a);
      wrote = a;
    }

pub save_refused : (st : Status) (bytes : List ℕ) (rest old new : Option (List ℕ)) → st ≡ statuses.Refused → Saves st (Some bytes) rest old new
    → SaveRefuses bytes old new
save_refused st bytes rest old new e s =
    let t = subst (λ x. Saves x (Some bytes) rest old new) e s in
    record {
      refused = t.saved.0;
      wrote = subst (Appends old new) (t.saved.1 ∙ ap (save_by (events_of bytes) (stepped (events_of bytes)).lines) t.saved.0) t.appended;
    }

pub save_too_long : (st : Status) (bytes : List ℕ) (rest old new : Option (List ℕ)) → st ≡ statuses.TooLong → Saves st (Some bytes) rest old new
    → SaveRunsOn bytes old new
save_too_long st bytes rest old new e s =
    let t = subst (λ x. Saves x (Some bytes) rest old new) e s in
    record {
      too_long = t.saved.0;
      wrote = subst (Appends old new) (t.saved.1 ∙ ap (save_by (events_of bytes) (stepped (events_of bytes)).lines) t.saved.0) t.appended;
    }

pub save_breaks : (st : Status) (bytes : List ℕ) (rest old new : Option (List ℕ)) → st ≡ statuses.ReadFault → Saves st (Some bytes) rest old new
    → SaveBreaks bytes rest old new
save_breaks st bytes rest old new e s =
    let t = subst (λ x. Saves x (Some bytes) rest old new) e s in
    record {
      read = t.read;
      consumed = t.consumed;
      open_end = t.saved.0;
      limits = t.saved.1;
      wrote = subst (Appends old new) t.saved.2 t.appended;
    }

pub save_begins : (st : Status) (bytes : List ℕ) (rest old new : Option (List ℕ)) → st ≡ statuses.WriteFault → Saves st (Some bytes) rest old new
    → Begins (save_text (events_of bytes)) old new
save_begins st bytes rest old new e s =
    let t = subst (λ x. Saves x (Some bytes) rest old new) e s in
    record { first = t.wrote; more = t.saved.more; whole = t.saved.whole; wrote = t.appended }

complete_as : (st : Status) (bytes read wrote : List ℕ) → Unfailed st → WasRun st → SavedBy st bytes read wrote → IsDone (stepped (events_of bytes)).fate
    → st ≡ statuses.Done
complete_as statuses.Done bytes read wrote u r s d = refl
complete_as statuses.Refused bytes read wrote u r s d = absurd (subst IsDone s.0 d)
complete_as statuses.TooLong bytes read wrote u r s d = absurd (subst IsDone s.0 d)
complete_as statuses.ReadFault bytes read wrote u r s d = absurd u
complete_as statuses.WriteFault bytes read wrote u r s d = absurd u
complete_as statuses.Usage bytes read wrote u r s d = absurd r
complete_as statuses.NoMemory bytes read wrote u r s d = absurd r

pub save_says : (st : Status) (bytes : List ℕ) (rest old new : Option (List ℕ)) → Saves st (Some bytes) rest old new → SaveSays st bytes rest old new
save_says st bytes rest old new s = record {
  done = λ e. save_done st bytes rest old new e s;
  input = s.input;
  refused = λ e. save_refused st bytes rest old new e s;
  too_long = λ e. save_too_long st bytes rest old new e s;
  broken = λ e. save_breaks st bytes rest old new e s;
  begun = λ e. save_begins st bytes rest old new e s;
  complete = λ u d. inl (complete_as st bytes s.read s.wrote u s.ran s.saved d);
}
