-- What `save` wrote keeps its promise, if the machine at the end of the session can be saved.
use Rattle.std.specs.Prelude.{ℕ, Option, List}
use Rattle.std.proofs.Common.{sym}
use Rattle.std.specs.Io.KnownBytes.{Appends}
use Rattle.its_session.specs.Events.{events_of}
use Rattle.its_plain.specs.Transcript.{Fate, Ended, Open, Refused, TooLong}
use Rattle.its_plain.specs.Transcript.Course.{Course, run_of, last_turn}
use Rattle.its_print.specs.Printing.{Line}
use Rattle.its_stepped.specs.Lines.{stepped}
use Rattle.its_stepped.proofs.Frame.DecodingLaws.{decoding}
use Rattle.its_stepped.proofs.Running.WrittenLaws.{written_transcript}
use Rattle.its_saved.specs.Text.{saved_lines, saved_events}
use Rattle.its_saved.proofs.NarrowLaws.{run_narrow}
use Rattle.its_saved.proofs.RestLaws.{IsOver}
use Rattle.its_saved.proofs.RunLaws.{run_named, run_well_formed}
use Rattle.its_saved.proofs.SilentLaws.{saved_follows, saved_leads, saved_outside, saved_silent, saved_turn}
use Rattle.its_saved.proofs.TurnLaws.{run_read}
use Rattle.its_top.specs.Conclusion.{IsDone}
use Rattle.its_top.specs.Promise.{Saved}
use Rattle.its_top.specs.Saving.{Savable, text_saved}
use Rattle.its_top.proofs.TopLaws.{done_answer}

is_over : (f : Fate) → IsDone f → IsOver f
is_over Ended d = tt
is_over Open d = tt
is_over Refused d = absurd d
is_over TooLong d = absurd d

pub saved_of : (bytes : List ℕ) (old new : Option (List ℕ)) → IsDone (stepped (events_of bytes)).fate
    → Savable (run_of (events_of bytes) (stepped (events_of bytes)).lines).last
    → Appends old new (text_saved (run_of (events_of bytes) (stepped (events_of bytes)).lines)) → Saved bytes old new
saved_of bytes old new d s a =
    let es = events_of bytes in
    let lines : List Line = (stepped es).lines in
    let u : Course = run_of es lines in
    let fit = run_well_formed es lines s.addressed s.types in
    let named = run_named es lines in
    let whole = written_transcript decoding es in
    record {
      lines = lines;
      fate = (stepped es).fate;
      transcript = whole;
      done = sym (done_answer (stepped es).fate d);
      checkpoint = saved_events (saved_lines u.last (last_turn u));
      wrote = a;
      read = run_read bytes lines s.addressed s.types (s.worded (run_narrow bytes lines));
      restores = record {
        silent = saved_silent u.last (last_turn u) fit named;
        leads = saved_leads u.last (last_turn u) fit named;
        next = saved_turn u.last (last_turn u) fit named;
        outside = saved_outside u.last (last_turn u);
      };
      goes_on = λ rest more end read unrefused t.
          saved_follows es rest lines more (stepped es).fate end whole (is_over (stepped es).fate d) fit named read unrefused t;
    }
