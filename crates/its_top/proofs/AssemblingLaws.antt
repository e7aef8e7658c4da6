-- What an assembly of a text writes, and how it ends.
use Rattle.std.specs.Prelude.{◌≡◌, ◌≢◌, ◌⊎◌, ℕ, false, Option, Some, None, IfSome, Result, Ok, Err, List, [], ◌∷◌, ◌++◌, length, refl}
use Rattle.std.proofs.Common.{sym, ◌∙◌, ap, subst, inl, inr, arith, length-append}
use Rattle.std.proofs.lemmas.Bool.{false≢true}
use Rattle.std.specs.Io.KnownBytes.{Appends, Consumes}
use Rattle.std.proofs.KnownBytes.{Appends-nil}
use Rattle.std.specs.Global.{Vec}
use Rattle.arrayvec.specs.ArrayVec.{ArrayVec}
use Rattle.its_asm.specs.Assembly.{assembly}
use Rattle.its_asm.specs.declared.assembly.Image.{Image}
use Rattle.its_asm.specs.declared.reason.AsmFault.{AsmFault}
use Rattle.its_asm.specs.declared.reason.AsmFault.TheVariants.{Line, NoMemory}
use Rattle.its_asm_command.specs.Past.{runs_past}
use Rattle.its_asm_command.specs.Written.{assembly_text, image_events}
use Rattle.its_asm_command.specs.Made.{MadeFrom, IsRefusal, IsSession}
use Rattle.its_asm_command.proofs.FitLaws.{image_fits}
use Rattle.its_asm_command.proofs.LoadLaws.{image_whole}
use Rattle.its_asm_command.specs.declared.source.Made.TheVariants as mades
use Rattle.its_asm_command.specs.declared.source.Unmade.TheVariants as unmades
use Rattle.its_top.specs.declared.commands.words.Command.{Command}
use Rattle.its_top.specs.declared.commands.words.Command.TheVariants as commands
use Rattle.its_top.specs.declared.commands.status.Status.{Status}
use Rattle.its_top.specs.declared.commands.status.Status.TheVariants as statuses
use Rattle.its_top.specs.Checking.{StatusFor, WroteText}
use Rattle.its_top.specs.Assembling.{Asm, AsmOf, answer_to}
use Rattle.its_top.specs.Promise.{Assembled}
use Rattle.its_top.specs.Outcomes.{AsmAnswers, AsmBegins, AsmBreaks, AsmRefuses, AsmRunsOn}
use Rattle.its_top.specs.Top.{Obeyed}
use Rattle.its_top.proofs.ObeyLaws.{done_for, if_then}

-- what is written of an assembly
session_is : (r : Result Image AsmFault) (t : List ℕ) → IsSession r t → t ≡ assembly_text r
session_is (Ok i) t s = s.is
session_is (Err e) t s = absurd s

refusal_is : (r : Result Image AsmFault) (t : List ℕ) → IsRefusal r t → t ≡ assembly_text r
refusal_is (Ok i) t s = absurd s
refusal_is (Err (Line n reason)) t s = s
refusal_is (Err NoMemory) t s = absurd s

-- a session or a refusal was to be written
session_as : (st : Status) (t bytes read w : List ℕ) → (runs_past bytes ≡ false) × IsSession (assembly bytes) t × (read ≡ bytes)
    → StatusFor st statuses.Done t w → AsmOf st bytes read w
session_as statuses.Done t bytes read w e f = (e.0, subst (IsSession (assembly bytes)) f.1 e.1, e.2)
session_as statuses.WriteFault t bytes read w e f = (e.0, (f.0, sym (session_is (assembly bytes) t e.1) ∙ f.1))
session_as statuses.Usage t bytes read w e f = absurd (let k : statuses.Usage ≡ statuses.Done = f.0 in cc)
session_as statuses.Refused t bytes read w e f = absurd (let k : statuses.Refused ≡ statuses.Done = f.0 in cc)
session_as statuses.ReadFault t bytes read w e f = absurd (let k : statuses.ReadFault ≡ statuses.Done = f.0 in cc)
session_as statuses.NoMemory t bytes read w e f = absurd (let k : statuses.NoMemory ≡ statuses.Done = f.0 in cc)
session_as statuses.TooLong t bytes read w e f = absurd (let k : statuses.TooLong ≡ statuses.Done = f.0 in cc)

refusal_as : (st : Status) (t bytes read w : List ℕ) → (runs_past bytes ≡ false) × IsRefusal (assembly bytes) t
    → StatusFor st statuses.Refused t w → AsmOf st bytes read w
refusal_as statuses.Refused t bytes read w e f = (e.0, subst (IsRefusal (assembly bytes)) f.1 e.1)
refusal_as statuses.WriteFault t bytes read w e f = (e.0, (f.0, sym (refusal_is (assembly bytes) t e.1) ∙ f.1))
refusal_as statuses.Usage t bytes read w e f = absurd (let k : statuses.Usage ≡ statuses.Refused = f.0 in cc)
refusal_as statuses.Done t bytes read w e f = absurd (let k : statuses.Done ≡ statuses.Refused = f.0 in cc)
refusal_as statuses.ReadFault t bytes read w e f = absurd (let k : statuses.ReadFault ≡ statuses.Refused = f.0 in cc)
refusal_as statuses.NoMemory t bytes read w e f = absurd (let k : statuses.NoMemory ≡ statuses.Refused = f.0 in cc)
refusal_as statuses.TooLong t bytes read w e f = absurd (let k : statuses.TooLong ≡ statuses.Refused = f.0 in cc)

ran_by : (st good : Status) (bytes w : List ℕ) → good ≢ statuses.Usage → StatusFor st good bytes w → st ≢ statuses.Usage
ran_by statuses.Usage good bytes w n f = λ k. n (sym f.0)
ran_by _ good bytes w n f = λ k. cc

took_memory : (st good : Status) (bytes w : List ℕ) → good ≢ statuses.NoMemory → StatusFor st good bytes w → st ≢ statuses.NoMemory
took_memory statuses.NoMemory good bytes w n f = λ k. n (sym f.0)
took_memory _ good bytes w n f = λ k. cc

pub asm_session : (st : Status) (t : Vec ℕ) (left rest old new : Option (List ℕ)) → MadeFrom (Ok (mades.Session t)) left rest
    → WroteText st statuses.Done t.items old new → Asm st left rest old new
asm_session st t left rest old new e w = record {
  read = e.read;
  wrote = w.wrote;
  consumed = e.consumed;
  appended = w.appended;
  ran = ran_by st statuses.Done t.items w.wrote (λ k. cc) w.complete;
  found = if_then left _ _ (λ bytes h. session_as st t.items bytes e.read w.wrote h w.complete) e.ends;
  unwritten = λ k. absurd (took_memory st statuses.Done t.items w.wrote (λ j. cc) w.complete k);
}

pub asm_refusal : (st : Status) (t : ArrayVec ℕ) (left rest old new : Option (List ℕ)) → MadeFrom (Ok (mades.Refusal t)) left rest
    → WroteText st statuses.Refused t.items old new → Asm st left rest old new
asm_refusal st t left rest old new e w = record {
  read = e.read;
  wrote = w.wrote;
  consumed = e.consumed;
  appended = w.appended;
  ran = ran_by st statuses.Refused t.items w.wrote (λ k. cc) w.complete;
  found = if_then left _ _ (λ bytes h. refusal_as st t.items bytes e.read w.wrote h w.complete) e.ends;
  unwritten = λ k. absurd (took_memory st statuses.Refused t.items w.wrote (λ j. cc) w.complete k);
}

pub asm_failed : (left rest out : Option (List ℕ)) → MadeFrom (Err unmades.Failed) left rest → Asm statuses.ReadFault left rest out out
asm_failed left rest out e = record {
  read = e.read;
  wrote = [];
  consumed = e.consumed;
  appended = Appends-nil out;
  ran = λ k. cc;
  found = if_then left _ _ (λ bytes h. (h, refl)) e.ends;
  unwritten = λ k. refl;
}

pub asm_beyond : (left rest out : Option (List ℕ)) → MadeFrom (Err unmades.TooLong) left rest → Asm statuses.TooLong left rest out out
asm_beyond left rest out e = record {
  read = e.read;
  wrote = [];
  consumed = e.consumed;
  appended = Appends-nil out;
  ran = λ k. cc;
  found = if_then left _ _ (λ bytes h. (h, refl)) e.ends;
  unwritten = λ k. refl;
}

pub asm_unmade : (left rest out : Option (List ℕ)) → MadeFrom (Err unmades.NoMemory) left rest → Asm statuses.NoMemory left rest out out
asm_unmade left rest out e = record {
  read = e.read;
  wrote = [];
  consumed = e.consumed;
  appended = Appends-nil out;
  ran = λ k. cc;
  found = if_then left _ _ (λ bytes h. (h, refl)) e.ends;
  unwritten = λ k. refl;
}

-- the clauses of the top call
found_as : (st good : Status) (d : Option Command) (left rest old new : Option (List ℕ)) → Obeyed d st left rest old new
    → d ≡ Some commands.Asm → st ≡ good → good ≢ statuses.NoMemory → Asm good left rest old new
found_as st good d left rest old new o c e n =
    subst (λ x. Asm x left rest old new) e (done_for d (Some commands.Asm) st left rest old new o c (λ k. n (sym e ∙ k)))

done_by : (r : Result Image AsmFault) (bytes w : List ℕ) (rest old new : Option (List ℕ)) → r ≡ assembly bytes → runs_past bytes ≡ false
    → IsSession r w → Appends old new w → rest ≡ Some [] → Assembled bytes rest old new
done_by (Ok i) bytes w rest old new e p s a o =
    record {
      over = o;
      few = p;
      image = i;
      assembled = sym e;
      session = image_events i;
      loads = refl;
      wrote = subst (Appends old new) s.is a;
      whole = image_whole i w (image_fits bytes i (sym e)) s;
    }
done_by (Err f) bytes w rest old new e p s a o = absurd s

nothing_behind : (read ys : List ℕ) → read ≡ read ++ ys → ys ≡ []
nothing_behind read [] e = refl
nothing_behind read (y ∷ ys) e = absurd (let n : length read ≡ length (read ++ y ∷ ys) = ap length e in omega (arith, n, length-append read (y ∷ ys)))

-- all was read
all_read : (bytes read : List ℕ) (rest : Option (List ℕ)) → Consumes (Some bytes) rest read → read ≡ bytes → rest ≡ Some []
all_read bytes read None c e = absurd c
all_read bytes read (Some ys) c e = ap Some (nothing_behind read ys (e ∙ c))

refused_by : (r : Result Image AsmFault) (bytes w : List ℕ) (old new : Option (List ℕ)) → r ≡ assembly bytes → runs_past bytes ≡ false
    → IsRefusal r w → Appends old new w → AsmRefuses bytes old new
refused_by (Ok i) bytes w old new e p s a = absurd s
refused_by (Err (Line n reason)) bytes w old new e p s a = record { line = n; reason = reason; refused = sym e; few = p; wrote = subst (Appends old new) s a }
refused_by (Err NoMemory) bytes w old new e p s a = absurd s

pub asm_done : (d : Option Command) (st : Status) (left rest old new : Option (List ℕ)) → Obeyed d st left rest old new
    → d ≡ Some commands.Asm → st ≡ statuses.Done → IfSome left (λ bytes. Assembled bytes rest old new)
asm_done d st left rest old new o c e = told_done left rest old new (found_as st statuses.Done d left rest old new o c e (λ j. cc))
  where
    told_done : (l rest old new : Option (List ℕ)) → Asm statuses.Done l rest old new → IfSome l (λ bytes. Assembled bytes rest old new)
    told_done None rest old new k = tt
    told_done (Some bytes) rest old new k =
        let f = k.found in
        done_by (assembly bytes) bytes k.wrote rest old new refl f.0 f.1 k.appended (all_read bytes k.read rest k.consumed f.2)

pub asm_refused : (d : Option Command) (st : Status) (left rest old new : Option (List ℕ)) → Obeyed d st left rest old new
    → d ≡ Some commands.Asm → st ≡ statuses.Refused → IfSome left (λ bytes. AsmRefuses bytes old new)
asm_refused d st left rest old new o c e =
    let k = found_as st statuses.Refused d left rest old new o c e (λ j. cc) in
    if_then left (λ bytes. AsmOf statuses.Refused bytes k.read k.wrote) _
    (λ bytes f. refused_by (assembly bytes) bytes k.wrote old new refl f.0 f.1 k.appended) k.found

pub asm_too_long : (d : Option Command) (st : Status) (left rest old new : Option (List ℕ)) → Obeyed d st left rest old new
    → d ≡ Some commands.Asm → st ≡ statuses.TooLong → IfSome left (λ bytes. AsmRunsOn bytes old new)
asm_too_long d st left rest old new o c e =
    let k = found_as st statuses.TooLong d left rest old new o c e (λ j. cc) in
    if_then left (λ bytes. AsmOf statuses.TooLong bytes k.read k.wrote) _
    (λ bytes f. record { beyond = f.0; wrote = subst (Appends old new) f.1 k.appended }) k.found

told_breaks : (left rest old new : Option (List ℕ)) → Asm statuses.ReadFault left rest old new → IfSome left (λ bytes. AsmBreaks bytes rest old new)
told_breaks None rest old new k = tt
told_breaks (Some bytes) rest old new k = record {
  read = k.read;
  consumed = k.consumed;
  limits = k.found.0;
  wrote = subst (Appends old new) k.found.1 k.appended;
}

pub asm_breaks : (d : Option Command) (st : Status) (left rest old new : Option (List ℕ)) → Obeyed d st left rest old new
    → d ≡ Some commands.Asm → st ≡ statuses.ReadFault → IfSome left (λ bytes. AsmBreaks bytes rest old new)
asm_breaks d st left rest old new o c e = told_breaks left rest old new (found_as st statuses.ReadFault d left rest old new o c e (λ j. cc))

pub asm_begins : (d : Option Command) (st : Status) (left rest old new : Option (List ℕ)) → Obeyed d st left rest old new
    → d ≡ Some commands.Asm → st ≡ statuses.WriteFault
    → IfSome left (λ bytes. AsmBegins bytes old new)
asm_begins d st left rest old new o c e =
    let k = found_as st statuses.WriteFault d left rest old new o c e (λ j. cc) in
    if_then left (λ bytes. AsmOf statuses.WriteFault bytes k.read k.wrote) _
    (λ bytes f. record { few = f.0; begins = record { first = k.wrote; more = f.1.0; whole = f.1.1; wrote = k.appended } }) k.found

-- without a fault the status is the answer to the text
session_answer : (r : Result Image AsmFault) (t : List ℕ) → IsSession r t → statuses.Done ≡ answer_to r
session_answer (Ok i) t s = refl
session_answer (Err e) t s = absurd s

refusal_answer : (r : Result Image AsmFault) (t : List ℕ) → IsRefusal r t → statuses.Refused ≡ answer_to r
refusal_answer (Ok i) t s = absurd s
refusal_answer (Err (Line n reason)) t s = refl
refusal_answer (Err NoMemory) t s = absurd s

within : (st : Status) (bytes : List ℕ) → runs_past bytes ≡ false → (st ≡ answer_to (assembly bytes)) ⊎ (st ≡ statuses.NoMemory) → AsmAnswers st bytes
within st bytes few h = record { past = λ e. absurd (false≢true (sym few ∙ e)); within = λ e. h }

answers : (st : Status) (bytes read w : List ℕ) → st ≢ statuses.ReadFault → st ≢ statuses.WriteFault → AsmOf st bytes read w → AsmAnswers st bytes
answers statuses.Done bytes read w r k f = within statuses.Done bytes f.0 (inl (session_answer (assembly bytes) w f.1))
answers statuses.Refused bytes read w r k f = within statuses.Refused bytes f.0 (inl (refusal_answer (assembly bytes) w f.1))
answers statuses.TooLong bytes read w r k f = record { past = λ e. refl; within = λ e. absurd (false≢true (sym e ∙ f.0)) }
answers statuses.ReadFault bytes read w r k f = absurd (r refl)
answers statuses.WriteFault bytes read w r k f = absurd (k refl)
answers statuses.NoMemory bytes read w r k f = within statuses.NoMemory bytes f.0 (inr refl)
answers statuses.Usage bytes read w r k f = absurd f

-- its result, or nothing for want of memory
asm_of : (st : Status) (bytes : List ℕ) (rest old new : Option (List ℕ)) → Obeyed (Some commands.Asm) st (Some bytes) rest old new
    → st ≢ statuses.ReadFault → st ≢ statuses.WriteFault → AsmAnswers st bytes
asm_of statuses.NoMemory bytes rest old new o r k = within statuses.NoMemory bytes o.obeys.1 (inr refl)
asm_of statuses.Done bytes rest old new o r k = answers statuses.Done bytes o.obeys.read o.obeys.wrote r k o.obeys.found
asm_of statuses.Refused bytes rest old new o r k = answers statuses.Refused bytes o.obeys.read o.obeys.wrote r k o.obeys.found
asm_of statuses.TooLong bytes rest old new o r k = answers statuses.TooLong bytes o.obeys.read o.obeys.wrote r k o.obeys.found
asm_of statuses.ReadFault bytes rest old new o r k = absurd (r refl)
asm_of statuses.WriteFault bytes rest old new o r k = absurd (k refl)
asm_of statuses.Usage bytes rest old new o r k = absurd (o.obeys.ran refl)

told_answers : (st : Status) (left rest old new : Option (List ℕ)) → Obeyed (Some commands.Asm) st left rest old new
    → st ≢ statuses.ReadFault → st ≢ statuses.WriteFault → IfSome left (λ bytes. AsmAnswers st bytes)
told_answers st None rest old new o r k = tt
told_answers st (Some bytes) rest old new o r k = asm_of st bytes rest old new o r k

pub asm_answered : (d : Option Command) (st : Status) (left rest old new : Option (List ℕ)) → Obeyed d st left rest old new
    → d ≡ Some commands.Asm → st ≢ statuses.ReadFault → st ≢ statuses.WriteFault
    → IfSome left (λ bytes. AsmAnswers st bytes)
asm_answered d st left rest old new o c r w = told_answers st left rest old new (subst (λ x. Obeyed x st left rest old new) c o) r w

pub asm_ran : (st : Status) (left rest old new : Option (List ℕ)) → Obeyed (Some commands.Asm) st left rest old new → st ≢ statuses.Usage
asm_ran statuses.NoMemory left rest old new o e = cc
asm_ran st left rest old new o e = o.obeys.ran e
