-- What a verification writes, and how it ends.
use Rattle.std.specs.Prelude.{◌≡◌, ◌≢◌, ◌⊎◌, ℕ, Option, None, Some, IfSome, Ok, Err, List, [], length, codes, refl}
use Rattle.std.proofs.Common.{sym, ◌∙◌, subst, inl, inr}
use Rattle.std.specs.Io.KnownBytes.{Appends}
use Rattle.std.proofs.KnownBytes.{Appends-nil}
use Rattle.its_records.specs.declared.session.Reason.TheVariants as reasons
use Rattle.its_print.specs.Printing.{Refused, text, text_of_line}
use Rattle.its_verify.specs.Finds.{Breaks, Found, ReadsOut, Unmade}
use Rattle.its_verify.specs.declared.keeping.Broken.TheVariants.{Source, Memory}
use Rattle.its_verify.specs.TranscriptReader.{answer_of}
use Rattle.its_verify.specs.Rulings.{Yes, No}
use Rattle.its_verify.specs.Verified.{Answer, Judged, Long, Cut, TooLong, answer_text, verified}
use Rattle.its_verify.specs.declared.outcome.Outcome.{Outcome}
use Rattle.its_verify.specs.declared.outcome.Outcome.TheVariants as outcomes
use Rattle.its_top.specs.declared.commands.words.Command.{Command}
use Rattle.its_top.specs.declared.commands.words.Command.TheVariants as commands
use Rattle.its_top.specs.declared.commands.status.Status.{Status}
use Rattle.its_top.specs.declared.commands.status.Status.TheVariants as statuses
use Rattle.its_top.specs.Checking.{StatusFor, WroteText}
use Rattle.its_top.specs.Counts.{count_line}
use Rattle.its_top.specs.Verifying.{TellsAnswer, ToldAs, Verify, VerifyOf, Why, status_of}
use Rattle.its_top.specs.Promise.{Vouched}
use Rattle.its_top.specs.Outcomes.{Begins, Verifies, VerifyAnswers, VerifyBreaks, VerifyRefuses, VerifyRunsOn}
use Rattle.its_top.specs.Top.{Obeyed}
use Rattle.its_reader.specs.TextLines.{lines_in}
use Rattle.its_top.proofs.CutLaws.{answer_by, why}
use Rattle.its_top.proofs.ObeyLaws.{done_for, if_all, if_then}
use Rattle.its_top.proofs.VouchedLaws.{run_verified}
use Rattle.its_session.specs.Events.{events_of}
use Rattle.its_stepped.specs.Lines.{stepped}

-- no answer has such a status
not_failed : (a : Answer) → statuses.ReadFault ≡ status_of a → ⊥
not_failed (Judged (Yes n)) e = cc
not_failed (Judged (No n)) e = cc
not_failed (Long n) e = cc
not_failed (Cut n) e = cc
not_failed TooLong e = cc

not_usage : (a : Answer) → statuses.Usage ≡ status_of a → ⊥
not_usage (Judged (Yes n)) e = cc
not_usage (Judged (No n)) e = cc
not_usage (Long n) e = cc
not_usage (Cut n) e = cc
not_usage TooLong e = cc

not_unmade : (a : Answer) → statuses.NoMemory ≡ status_of a → ⊥
not_unmade (Judged (Yes n)) e = cc
not_unmade (Judged (No n)) e = cc
not_unmade (Long n) e = cc
not_unmade (Cut n) e = cc
not_unmade TooLong e = cc

-- the line of an answer was to be written
told_as : (st good : Status) (a : Answer) (bytes w : List ℕ) → good ≡ status_of a → bytes ≡ answer_text a → StatusFor st good bytes w → ToldAs st a w
told_as statuses.WriteFault good a bytes w g e f = (f.0, sym e ∙ f.1)
told_as statuses.ReadFault good a bytes w g e f = absurd (not_failed a (f.0 ∙ g))
told_as statuses.Usage good a bytes w g e f = absurd (not_usage a (f.0 ∙ g))
told_as statuses.NoMemory good a bytes w g e f = absurd (not_unmade a (f.0 ∙ g))
told_as _ good a bytes w g e f = (f.0 ∙ g, sym e ∙ f.1)

tells : (st good : Status) (a : Answer) (bytes : List ℕ) (old new : Option (List ℕ)) → good ≡ status_of a → bytes ≡ answer_text a
    → WroteText st good bytes old new → TellsAnswer st a old new
tells st good a bytes old new g e t = record { wrote = t.wrote; appended = t.appended; told = told_as st good a bytes t.wrote g e t.complete }

pub tells_yes : (st : Status) (n : ℕ) (bytes : List ℕ) (old new : Option (List ℕ)) → bytes ≡ count_line (codes "YES") n
    → WroteText st statuses.Done bytes old new
    → TellsAnswer st (answer_of (outcomes.Yes n)) old new
tells_yes st n bytes old new e t = tells st statuses.Done (Judged (Yes n)) bytes old new refl e t

pub tells_no : (st : Status) (n : ℕ) (bytes : List ℕ) (old new : Option (List ℕ)) → bytes ≡ count_line (codes "NO") n
    → WroteText st statuses.Refused bytes old new
    → TellsAnswer st (answer_of (outcomes.No n)) old new
tells_no st n bytes old new e t = tells st statuses.Refused (Judged (No n)) bytes old new refl e t

pub tells_long : (st : Status) (n : ℕ) (old new : Option (List ℕ)) → WroteText st statuses.Refused (text_of_line (Refused n reasons.Long)) old new
    → TellsAnswer st (answer_of (outcomes.Long n)) old new
tells_long st n old new t = tells st statuses.Refused (Long n) (text_of_line (Refused n reasons.Long)) old new refl refl t

pub tells_cut : (st : Status) (n : ℕ) (old new : Option (List ℕ)) → WroteText st statuses.Refused (text_of_line (Refused n reasons.Cut)) old new
    → TellsAnswer st (answer_of (outcomes.Cut n)) old new
tells_cut st n old new t = tells st statuses.Refused (Cut n) (text_of_line (Refused n reasons.Cut)) old new refl refl t

pub tells_nothing : (out : Option (List ℕ)) → TellsAnswer statuses.TooLong (answer_of outcomes.TooLong) out out
tells_nothing out = record { wrote = []; appended = Appends-nil out; told = (refl, refl) }

-- the end of a verification
verified_as : (st : Status) (a : Answer) (bytes : List ℕ) (rest : Option (List ℕ)) (w : List ℕ) → verified bytes ≡ a → ToldAs st a w
    → VerifyOf st bytes rest w
verified_as statuses.WriteFault a bytes rest w e t = subst (λ x. ToldAs statuses.WriteFault x w) (sym e) t
verified_as statuses.Done a bytes rest w e t = subst (λ x. ToldAs statuses.Done x w) (sym e) t
verified_as statuses.Refused a bytes rest w e t = subst (λ x. ToldAs statuses.Refused x w) (sym e) t
verified_as statuses.TooLong a bytes rest w e t = subst (λ x. ToldAs statuses.TooLong x w) (sym e) t
verified_as _ a bytes rest w e t = absurd t

found_as : (st : Status) (f : Outcome) (left rest : Option (List ℕ)) (w : List ℕ) → Found (Ok f) left rest → ToldAs st (answer_of f) w
    → IfSome left (λ bytes. VerifyOf st bytes rest w)
found_as st f None rest w h t = tt
found_as st f (Some bytes) rest w h t = verified_as st (answer_of f) bytes rest w h t

ran_as : (st : Status) (a : Answer) (w : List ℕ) → ToldAs st a w → st ≢ statuses.Usage
ran_as statuses.Usage a w t = absurd t
ran_as st a w t = λ k. cc

told_well : (st : Status) (a : Answer) (w : List ℕ) → ToldAs st a w → (st ≡ statuses.NoMemory) ⊎ (st ≡ statuses.ReadFault) → ⊥
told_well statuses.NoMemory a w t e = t
told_well statuses.ReadFault a w t e = t
told_well st a w t (inl e) = cc
told_well st a w t (inr e) = cc

read_out : (st : Status) (f : Outcome) (left rest : Option (List ℕ)) (w : List ℕ) → ReadsOut f left rest → ToldAs st (answer_of f) w
    → st ≡ statuses.Done → IfSome left (λ bytes. rest ≡ Some [])
read_out statuses.Done (outcomes.Yes n) left rest w h t e = h
read_out statuses.Done (outcomes.No n) left rest w h t e = absurd (let k : statuses.Done ≡ statuses.Refused = t.0 in cc)
read_out statuses.Done (outcomes.Long n) left rest w h t e = absurd (let k : statuses.Done ≡ statuses.Refused = t.0 in cc)
read_out statuses.Done (outcomes.Cut n) left rest w h t e = absurd (let k : statuses.Done ≡ statuses.Refused = t.0 in cc)
read_out statuses.Done outcomes.TooLong left rest w h t e = absurd (let k : statuses.Done ≡ statuses.TooLong = t.0 in cc)
read_out st f left rest w h t e = cc

pub verify_told : (st : Status) (f : Outcome) (left rest old new : Option (List ℕ)) → Found (Ok f) left rest → ReadsOut f left rest
    → TellsAnswer st (answer_of f) old new → Verify st left rest old new
verify_told st f left rest old new h r t = record {
  wrote = t.wrote;
  appended = t.appended;
  ran = ran_as st (answer_of f) t.wrote t.told;
  found = found_as st f left rest t.wrote h t.told;
  input = λ e. read_out st f left rest t.wrote r t.told e;
  unwritten = λ e. absurd (told_well st (answer_of f) t.wrote t.told e);
}

pub verify_failed : (left rest out : Option (List ℕ)) → Found (Err Source) left rest → Verify statuses.ReadFault left rest out out
verify_failed left rest out h = record {
  wrote = [];
  appended = Appends-nil out;
  ran = λ k. cc;
  found = if_then left (λ bytes. Breaks bytes rest) (λ bytes. VerifyOf statuses.ReadFault bytes rest []) (λ bytes b. (b, refl)) h;
  input = λ e. cc;
  unwritten = λ e. refl;
}

pub verify_unmade : (left rest out : Option (List ℕ)) → Found (Err Memory) left rest → Verify statuses.NoMemory left rest out out
verify_unmade left rest out h = record {
  wrote = [];
  appended = Appends-nil out;
  ran = λ k. cc;
  found = if_then left (λ bytes. Unmade bytes rest) (λ bytes. VerifyOf statuses.NoMemory bytes rest []) (λ bytes u. (u, refl)) h;
  input = λ e. cc;
  unwritten = λ e. refl;
}

if_both : (left : Option (List ℕ)) (P Q R : List ℕ → Type 0) → ((b : List ℕ) → P b → Q b → R b) → IfSome left P → IfSome left Q → IfSome left R
if_both None P Q R f p q = tt
if_both (Some b) P Q R f p q = f b p q

-- the clauses of the top call
verify_as : (st good : Status) (d : Option Command) (left rest old new : Option (List ℕ)) → Obeyed d st left rest old new
    → d ≡ Some commands.Verify → st ≡ good → good ≢ statuses.NoMemory → Verify good left rest old new
verify_as st good d left rest old new o c e n =
    subst (λ x. Verify x left rest old new) e (done_for d (Some commands.Verify) st left rest old new o c (λ k. n (sym e ∙ k)))

done_by : (a : Answer) (bytes w : List ℕ) (rest old new : Option (List ℕ)) → Why bytes a → statuses.Done ≡ status_of a → answer_text a ≡ w
    → Appends old new w → rest ≡ Some [] → Verifies bytes rest old new
done_by (Judged (Yes n)) bytes w rest old new h s e a o = record { lines = n; licensed = h; wrote = subst (Appends old new) (sym e) a; over = o }
done_by _ bytes w rest old new h s e a o = cc

pub verify_done : (d : Option Command) (st : Status) (left rest old new : Option (List ℕ)) → Obeyed d st left rest old new
    → d ≡ Some commands.Verify → st ≡ statuses.Done → IfSome left (λ bytes. Verifies bytes rest old new)
verify_done d st left rest old new o c e =
    let k = verify_as st statuses.Done d left rest old new o c e (λ j. cc) in
    if_both left (λ bytes. VerifyOf statuses.Done bytes rest k.wrote) (λ bytes. rest ≡ Some []) (λ bytes. Verifies bytes rest old new)
    (λ bytes f o. done_by (verified bytes) bytes k.wrote rest old new (why bytes) f.0 f.1 k.appended o) k.found (k.input refl)

pub verify_refused : (d : Option Command) (st : Status) (left rest old new : Option (List ℕ)) → Obeyed d st left rest old new
    → d ≡ Some commands.Verify → st ≡ statuses.Refused
    → IfSome left (λ bytes. VerifyRefuses bytes old new)
verify_refused d st left rest old new o c e =
    let k = verify_as st statuses.Refused d left rest old new o c e (λ j. cc) in
    if_then left (λ bytes. VerifyOf statuses.Refused bytes rest k.wrote) (λ bytes. VerifyRefuses bytes old new)
    (λ bytes f. record { answer = verified bytes; refused = sym f.0; why = why bytes; wrote = subst (Appends old new) (sym f.1) k.appended }) k.found

runs_by : (a : Answer) (bytes w : List ℕ) (old new : Option (List ℕ)) → Why bytes a → statuses.TooLong ≡ status_of a → answer_text a ≡ w
    → Appends old new w → VerifyRunsOn bytes old new
runs_by TooLong bytes w old new h s e a = record { past = h; wrote = subst (Appends old new) (sym e) a }
runs_by (Judged (Yes n)) bytes w old new h s e a = cc
runs_by (Judged (No n)) bytes w old new h s e a = cc
runs_by (Long n) bytes w old new h s e a = cc
runs_by (Cut n) bytes w old new h s e a = cc

pub verify_too_long : (d : Option Command) (st : Status) (left rest old new : Option (List ℕ)) → Obeyed d st left rest old new
    → d ≡ Some commands.Verify → st ≡ statuses.TooLong
    → IfSome left (λ bytes. VerifyRunsOn bytes old new)
verify_too_long d st left rest old new o c e =
    let k = verify_as st statuses.TooLong d left rest old new o c e (λ j. cc) in
    if_then left (λ bytes. VerifyOf statuses.TooLong bytes rest k.wrote) _
    (λ bytes f. runs_by (verified bytes) bytes k.wrote old new (why bytes) f.0 f.1 k.appended) k.found

pub verify_breaks : (d : Option Command) (st : Status) (left rest old new : Option (List ℕ)) → Obeyed d st left rest old new
    → d ≡ Some commands.Verify → st ≡ statuses.ReadFault → (new ≡ old) × IfSome left (λ bytes. VerifyBreaks bytes rest old new)
verify_breaks d st left rest old new o c e =
    let k = verify_as st statuses.ReadFault d left rest old new o c e (λ j. cc) in (
      k.unwritten (inr refl),
      if_then left (λ bytes. VerifyOf statuses.ReadFault bytes rest k.wrote) (λ bytes. VerifyBreaks bytes rest old new)
          (λ bytes f. record { read = f.0.read; consumed = f.0.consumed; undecided = f.0.undecided; wrote = subst (Appends old new) f.1 k.appended }) k.found,
    )

pub verify_begins : (d : Option Command) (st : Status) (left rest old new : Option (List ℕ)) → Obeyed d st left rest old new
    → d ≡ Some commands.Verify → st ≡ statuses.WriteFault
    → IfSome left (λ bytes. Begins (answer_text (verified bytes)) old new)
verify_begins d st left rest old new o c e =
    let k = verify_as st statuses.WriteFault d left rest old new o c e (λ j. cc) in
    if_then left (λ bytes. VerifyOf statuses.WriteFault bytes rest k.wrote) (λ bytes. Begins (answer_text (verified bytes)) old new)
    (λ bytes f. record { first = k.wrote; more = f.0; whole = f.1; wrote = k.appended }) k.found

-- without a fault the status is that of the answer
answers : (st : Status) (bytes : List ℕ) (rest : Option (List ℕ)) (w : List ℕ) → st ≢ statuses.ReadFault → st ≢ statuses.WriteFault
    → VerifyOf st bytes rest w → (st ≡ status_of (verified bytes)) ⊎ (st ≡ statuses.NoMemory)
answers statuses.ReadFault bytes rest w r k f = absurd (r refl)
answers statuses.WriteFault bytes rest w r k f = absurd (k refl)
answers statuses.NoMemory bytes rest w r k f = inr refl
answers statuses.Usage bytes rest w r k f = absurd f
answers _ bytes rest w r k f = inl f.0

pub verify_answered : (d : Option Command) (st : Status) (left rest old new : Option (List ℕ)) → Obeyed d st left rest old new
    → d ≡ Some commands.Verify → st ≢ statuses.ReadFault → st ≢ statuses.WriteFault
    → IfSome left (λ bytes. VerifyAnswers st bytes)
verify_answered d statuses.NoMemory left rest old new o c r w = if_all left _ (λ b. record { answers = λ a h. inr refl })
verify_answered d st left rest old new o c r w =
    let k : Verify st left rest old new = done_for d (Some commands.Verify) st left rest old new o c (λ j. cc) in
    if_then left (λ bytes. VerifyOf st bytes rest k.wrote) (λ bytes. VerifyAnswers st bytes)
    (λ bytes h. record {
      answers = λ a y. subst (λ x. (st ≡ status_of x) ⊎ (st ≡ statuses.NoMemory)) (answer_by bytes a y) (answers st bytes rest k.wrote r w h);
    }) k.found

-- if memory was refused
pub verify_lacks : (d : Option Command) (st : Status) (left rest old new : Option (List ℕ)) → Obeyed d st left rest old new
    → d ≡ Some commands.Verify → st ≡ statuses.NoMemory → IfSome left (λ bytes. Unmade bytes rest)
verify_lacks d st left rest old new o c e = go st e (subst (λ x. Obeyed x st left rest old new) c o)
  where
    go : (t : Status) → t ≡ statuses.NoMemory → Obeyed (Some commands.Verify) t left rest old new → IfSome left (λ bytes. Unmade bytes rest)
    go statuses.NoMemory e o = o.obeys.1
    go t e o = cc

pub verify_ran : (st : Status) (left rest old new : Option (List ℕ)) → Obeyed (Some commands.Verify) st left rest old new → st ≢ statuses.Usage
verify_ran statuses.NoMemory left rest old new o e = cc
verify_ran st left rest old new o e = o.obeys.ran e

-- what `run` wrote
pub vouched : (bytes : List ℕ) (old new : Option (List ℕ)) → Appends old new (text (stepped (events_of bytes)).lines) → Vouched bytes old new
vouched bytes old new a = record {
  written = text (stepped (events_of bytes)).lines;
  wrote = a;
  count = length (lines_in (text (stepped (events_of bytes)).lines));
  counted = refl;
  vouched = λ session behind count whole s few. run_verified bytes session behind count whole s few;
}
