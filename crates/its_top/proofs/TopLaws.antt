-- From how a session ended to the promises of the top call.
use Rattle.std.specs.Prelude.{◌≡◌, ◌≢◌, ◌⊎◌, ℕ, Option, Some, None, IfSome, List, refl}
use Rattle.std.proofs.Common.{sym, ◌∙◌, ap, subst, inl, inr}
use Rattle.std.specs.Io.KnownBytes.{Appends}
use Rattle.its_print.specs.Printing.{Line, text}
use Rattle.its_session.specs.Events.{events_of}
use Rattle.its_plain.specs.Transcript.{Fate, Ended, Open, Refused, TooLong}
use Rattle.its_plain.proofs.FairLaws.{fair_all}
use Rattle.its_stepped.specs.Lines.{stepped}
use Rattle.its_stepped.proofs.Frame.DecodingLaws.{decoding}
use Rattle.its_stepped.proofs.Running.StretchLaws.{stretches}
use Rattle.its_security.proofs.RunIntegrityLaws.{integrity}
use Rattle.its_security.proofs.ConfidentialLaws.{confidential}
use Rattle.its_stepped.proofs.Running.WrittenLaws.{written_transcript}
use Rattle.its_top.proofs.FewDotsLaws.{few_dots}
use Rattle.its_top.specs.declared.commands.status.Status.{Status}
use Rattle.its_top.specs.declared.commands.status.Status.TheVariants as statuses
use Rattle.its_top.specs.Telling.{Says}
use Rattle.its_top.specs.Conclusion.{IsDone, Session}
use Rattle.its_top.specs.Promise.{answer_of, Transcribed}
use Rattle.its_top.specs.Outcomes.{Begins, Breaks, Completes, Refuses, RunsOn, Writes}
use Rattle.its_stepped.proofs.Running.LinkMovesLaws.{link_ledger}
use Rattle.its_top.proofs.LedgerLaws.{ledger}

pub session_done : (st : Status) (left rest old new : Option (List ℕ)) → st ≡ statuses.Done → Session st left rest old new
    → IfSome left (λ bytes. Completes bytes old new)
session_done st None rest old new e s = tt
session_done st (Some bytes) rest old new e s =
    let t = subst (λ x. Session x (Some bytes) rest old new) e s in
    let f = t.concluded in
    record { done = f.1; wrote = subst (Appends old new) (sym f.0) t.appended }

pub session_refused : (st : Status) (left rest old new : Option (List ℕ)) → st ≡ statuses.Refused → Session st left rest old new
    → IfSome left (λ bytes. Refuses bytes old new)
session_refused st None rest old new e s = tt
session_refused st (Some bytes) rest old new e s =
    let t = subst (λ x. Session x (Some bytes) rest old new) e s in
    let f = t.concluded in
    record { refused = f.1; wrote = subst (Appends old new) (sym f.0) t.appended }

pub session_too_long : (st : Status) (left rest old new : Option (List ℕ)) → st ≡ statuses.TooLong → Session st left rest old new
    → IfSome left (λ bytes. RunsOn bytes old new)
session_too_long st None rest old new e s = tt
session_too_long st (Some bytes) rest old new e s =
    let t = subst (λ x. Session x (Some bytes) rest old new) e s in
    let f = t.concluded in
    record { too_long = f.1; wrote = subst (Appends old new) (sym f.0) t.appended }

pub session_breaks : (st : Status) (left rest old new : Option (List ℕ)) → st ≡ statuses.ReadFault → Session st left rest old new
    → IfSome left (λ bytes. Breaks bytes rest old new)
session_breaks st None rest old new e s = tt
session_breaks st (Some bytes) rest old new e s =
    let t = subst (λ x. Session x (Some bytes) rest old new) e s in
    let f = t.concluded in
    record {
      read = t.read;
      consumed = t.consumed;
      open_end = ap (λ (x : Says). x.fate) f.0;
      limits = f.1;
      wrote = subst (Appends old new) (sym (ap (λ (x : Says). x.text) f.0)) t.appended;
    }

pub session_begins : (st : Status) (left rest old new : Option (List ℕ)) → st ≡ statuses.WriteFault → Session st left rest old new
    → IfSome left (λ bytes. Begins (text (stepped (events_of bytes)).lines) old new)
session_begins st None rest old new e s = tt
session_begins st (Some bytes) rest old new e s =
    let t = subst (λ x. Session x (Some bytes) rest old new) e s in
    let f = t.concluded in
    record { first = t.wrote; more = f.more; whole = f.whole; wrote = t.appended }

-- a session that is done or refused, or runs on, wrote its lines, which are a transcript
pub session_written : (st : Status) (left rest old new : Option (List ℕ)) → ((st ≡ statuses.Done) ⊎ (st ≡ statuses.Refused))
    ⊎ (st ≡ statuses.TooLong) → Session st left rest old new
    → IfSome left (λ bytes. Appends old new (text (stepped (events_of bytes)).lines))
session_written st None rest old new e s = tt
session_written st (Some bytes) rest old new (inl (inl e)) s = (session_done st (Some bytes) rest old new e s).wrote
session_written st (Some bytes) rest old new (inl (inr e)) s = (session_refused st (Some bytes) rest old new e s).wrote
session_written st (Some bytes) rest old new (inr e) s = (session_too_long st (Some bytes) rest old new e s).wrote

pub done_answer : (f : Fate) → IsDone f → statuses.Done ≡ answer_of f
done_answer Ended d = refl
done_answer Open d = refl
done_answer Refused d = absurd d
done_answer TooLong d = absurd d

answered : (st : Status) (bytes : List ℕ) (rest old new : Option (List ℕ)) → ((st ≡ statuses.Done) ⊎ (st ≡ statuses.Refused))
    ⊎ (st ≡ statuses.TooLong) → Session st (Some bytes) rest old new
    → st ≡ answer_of (stepped (events_of bytes)).fate
answered st bytes rest old new (inl (inl e)) s = e ∙ done_answer _ (session_done st (Some bytes) rest old new e s).done
answered st bytes rest old new (inl (inr e)) s = e ∙ ap answer_of (sym (session_refused st (Some bytes) rest old new e s).refused)
answered st bytes rest old new (inr e) s = e ∙ ap answer_of (sym (session_too_long st (Some bytes) rest old new e s).too_long)

-- the lines that the stepped machine shows of a session
abbrev shown : List ℕ → List Line
shown bytes = (stepped (events_of bytes)).lines

abbrev transcribed : (st : Status) (bytes : List ℕ) (old new : Option (List ℕ)) → st ≡ answer_of (stepped (events_of bytes)).fate
    → Appends old new (text (shown bytes)) → Transcribed st bytes old new
transcribed st bytes old new e a = record {
  lines = shown bytes;
  wrote = a;
  events = events_of bytes;
  read = refl;
  fate = (stepped (events_of bytes)).fate;
  transcript = written_transcript decoding (events_of bytes);
  answer = e;
  ledger = ledger (events_of bytes) (shown bytes) (stepped (events_of bytes)).fate (written_transcript decoding (events_of bytes));
  links = link_ledger (events_of bytes) (shown bytes);
  stretches = stretches (events_of bytes) (shown bytes);
  dots = few_dots decoding (events_of bytes);
  fair = fair_all (events_of bytes) (shown bytes);
  integrity = integrity (events_of bytes) (shown bytes);
  confidential = confidential (events_of bytes) (shown bytes);
}

pub session_transcribed : (st : Status) (left rest old new : Option (List ℕ)) → ((st ≡ statuses.Done) ⊎ (st ≡ statuses.Refused))
    ⊎ (st ≡ statuses.TooLong) → Session st left rest old new
    → IfSome left (λ bytes. Transcribed st bytes old new)
session_transcribed st None rest old new e s = tt
session_transcribed st (Some bytes) rest old new e s =
    transcribed st bytes old new (answered st bytes rest old new e s) (session_written st (Some bytes) rest old new e s)

pub session_writes : (st : Status) (bytes : List ℕ) (rest old new : Option (List ℕ)) → ((st ≡ statuses.Done) ⊎ (st ≡ statuses.Refused))
    ⊎ (st ≡ statuses.TooLong) → Session st (Some bytes) rest old new
    → Writes st bytes old new
session_writes st bytes rest old new e s = record {
  transcribed = transcribed st bytes old new (answered st bytes rest old new e s) (session_written st (Some bytes) rest old new e s);
  lines = refl;
  wrote = session_written st (Some bytes) rest old new e s;
}

-- unless an object failed, it is one of the three
pub one_of : (st : Status) (left rest old new : Option (List ℕ)) → st ≢ statuses.ReadFault → st ≢ statuses.WriteFault → Session st left rest old new
    → ((st ≡ statuses.Done) ⊎ (st ≡ statuses.Refused)) ⊎ (st ≡ statuses.TooLong)
one_of statuses.Done left rest old new r w s = inl (inl refl)
one_of statuses.Refused left rest old new r w s = inl (inr refl)
one_of statuses.TooLong left rest old new r w s = inr refl
one_of statuses.ReadFault left rest old new r w s = absurd (r refl)
one_of statuses.WriteFault left rest old new r w s = absurd (w refl)
one_of statuses.Usage left rest old new r w s = absurd s.ran
one_of statuses.NoMemory left rest old new r w s = absurd s.ran

-- a session with nothing against it is done, unless an object failed
no_fate : (f g : Fate) → IsDone f → f ≡ g → IsDone g
no_fate f g d e = subst IsDone e d

pub session_complete : (st : Status) (left rest old new : Option (List ℕ)) → st ≢ statuses.ReadFault → st ≢ statuses.WriteFault → Session st left rest old new
    → IfSome left (λ bytes. IsDone (stepped (events_of bytes)).fate → st ≡ statuses.Done)
session_complete st None rest old new r w s = tt
session_complete statuses.Done (Some bytes) rest old new r w s = λ d. refl
session_complete statuses.Refused (Some bytes) rest old new r w s = λ d. absurd (no_fate _ Refused d (s.concluded.1))
session_complete statuses.TooLong (Some bytes) rest old new r w s = λ d. absurd (no_fate _ TooLong d (s.concluded.1))
session_complete statuses.ReadFault (Some bytes) rest old new r w s = absurd (r refl)
session_complete statuses.WriteFault (Some bytes) rest old new r w s = absurd (w refl)
session_complete statuses.Usage (Some bytes) rest old new r w s = absurd s.ran
session_complete statuses.NoMemory (Some bytes) rest old new r w s = absurd s.ran
