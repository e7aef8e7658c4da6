-- What follows at once from the promises of the top call: what its answers say if no object failed,
-- and of all commands together.
use Rattle.std.specs.Prelude.{◌≡◌, ◌≢◌, ◌⊎◌, ◌<◌, ◌+◌, ℕ, true, false, Option, Some, None, IfSome, List, [], refl}
use Rattle.std.proofs.Common.{sym, subst, append-nil, arith, inl, inr}
use Rattle.std.specs.Io.KnownBytes.{Appends, Consumes}
use Rattle.its_print.specs.Printing.{text}
use Rattle.its_session.specs.Events.{events_of}
use Rattle.its_reader.specs.Items.{ReadOut}
use Rattle.its_stepped.specs.Lines.{stepped}
use Rattle.its_top.specs.declared.commands.words.Command.{Command}
use Rattle.its_top.specs.declared.commands.words.Command.TheVariants as commands
use Rattle.its_top.specs.declared.commands.status.Status.{Status}
use Rattle.its_top.specs.declared.commands.status.Status.TheVariants as statuses
use Rattle.its_top.specs.Checking.{Passes, checked}
use Rattle.its_top.specs.Commands.{IfGenerates, keeps, reads_input}
use Rattle.its_top.specs.Conclusion.{IsDone}
use Rattle.its_top.specs.Promise.{Transcribed}
use Rattle.its_top.specs.Outcomes.{AsmAnswers, AsmSays, CheckSays, Faults, OfAsm, OfCheck, OfGen, OfNoCommand, OfRun, OfVerify, RunSays, Unfailed, VerifyAnswers, VerifySays, WroteAll, OfSave, SaveSays}

-- an object whose count of faults is as it was did not fail
unfailed : (st : Status) (sf tf kf lf : ℕ) → Faults statuses.ReadFault st sf tf → Faults statuses.WriteFault st kf lf → tf ≡ sf → lf ≡ kf → Unfailed st
unfailed statuses.ReadFault sf tf kf lf r w e f = absurd (let k : tf ≡ sf + 1 = r.once refl in omega (arith, k, e))
unfailed statuses.WriteFault sf tf kf lf r w e f = absurd (let k : lf ≡ kf + 1 = w.once refl in omega (arith, k, f))
unfailed _ sf tf kf lf r w e f = tt

-- a fault counts once
pub fault_rises : (fault st : Status) (before now : ℕ) → Faults fault st before now → st ≡ fault → before < now
fault_rises fault st before now f e = (let k = f.once e in omega (arith, k))

if_then : (left : Option (List ℕ)) (P Q : List ℕ → Type 0) → ((b : List ℕ) → P b → Q b) → IfSome left P → IfSome left Q
if_then None P Q f h = tt
if_then (Some b) P Q f h = f b h

-- run
pub run_written : (st : Status) (left rest old new : Option (List ℕ)) → OfRun st left rest old new → WroteAll st
    → IfSome left (λ bytes. Appends old new (text (stepped (events_of bytes)).lines))
run_written st left rest old new o w = if_then left (λ bytes. RunSays st bytes rest old new) _ (λ bytes s. (s.written w).wrote) o.says

answered : (st : Status) (bytes : List ℕ) (rest old new : Option (List ℕ)) → st ≢ statuses.Usage → Unfailed st
    → RunSays st bytes rest old new → Transcribed st bytes old new ⊎ (st ≡ statuses.NoMemory)
answered statuses.Usage bytes rest old new n u s = absurd (n refl)
answered statuses.NoMemory bytes rest old new n u s = inr refl
answered statuses.Done bytes rest old new n u s = inl (s.transcript tt)
answered statuses.Refused bytes rest old new n u s = inl (s.transcript tt)
answered statuses.TooLong bytes rest old new n u s = inl (s.transcript tt)
answered statuses.ReadFault bytes rest old new n u s = absurd u
answered statuses.WriteFault bytes rest old new n u s = absurd u

pub run_answered : (st : Status) (left rest old new : Option (List ℕ)) (sf tf kf lf : ℕ) → OfRun st left rest old new
    → Faults statuses.ReadFault st sf tf → Faults statuses.WriteFault st kf lf → tf ≡ sf → lf ≡ kf
    → IfSome left (λ bytes. Transcribed st bytes old new ⊎ (st ≡ statuses.NoMemory))
run_answered st left rest old new sf tf kf lf o r w e f =
    if_then left (λ bytes. RunSays st bytes rest old new) _ (λ bytes s. answered st bytes rest old new o.command (unfailed st sf tf kf lf r w e f) s) o.says

pub run_complete : (st : Status) (left rest old new : Option (List ℕ)) (sf tf kf lf : ℕ) → OfRun st left rest old new
    → Faults statuses.ReadFault st sf tf → Faults statuses.WriteFault st kf lf → tf ≡ sf → lf ≡ kf
    → IfSome left (λ bytes. IsDone (stepped (events_of bytes)).fate → (st ≡ statuses.Done) ⊎ (st ≡ statuses.NoMemory))
run_complete st left rest old new sf tf kf lf o r w e f =
    if_then left (λ bytes. RunSays st bytes rest old new) _ (λ bytes s. s.complete (unfailed st sf tf kf lf r w e f)) o.says

-- check
pub check_complete : (st : Status) (left rest old new : Option (List ℕ)) (sf tf kf lf : ℕ) → OfCheck st left rest old new
    → Faults statuses.ReadFault st sf tf → Faults statuses.WriteFault st kf lf → tf ≡ sf → lf ≡ kf
    → IfSome left (λ bytes. Passes (checked (events_of bytes)) → st ≡ statuses.Done)
check_complete st left rest old new sf tf kf lf o r w e f =
    if_then left (λ bytes. CheckSays st bytes rest old new) _ (λ bytes s. s.complete (unfailed st sf tf kf lf r w e f)) o.says

-- gen
gen_ended : (st : Status) (kf lf : ℕ) → ((st ≡ statuses.Done) ⊎ (st ≡ statuses.WriteFault)) ⊎ (st ≡ statuses.NoMemory)
    → Faults statuses.WriteFault st kf lf → lf ≡ kf → (st ≡ statuses.Done) ⊎ (st ≡ statuses.NoMemory)
gen_ended st kf lf (inl (inl d)) w f = inl d
gen_ended st kf lf (inl (inr k)) w f = absurd (let l : lf ≡ kf + 1 = w.once k in omega (arith, l, f))
gen_ended st kf lf (inr m) w f = inr m

pub gen_complete : (n : ℕ) (st : Status) (left rest old new : Option (List ℕ)) (kf lf : ℕ) → OfGen n st left rest old new
    → Faults statuses.WriteFault st kf lf → lf ≡ kf → (st ≡ statuses.Done) ⊎ (st ≡ statuses.NoMemory)
gen_complete n st left rest old new kf lf o w f = gen_ended st kf lf o.ends w f

-- verify and asm
pub verify_answered : (st : Status) (left rest old new : Option (List ℕ)) (sf tf kf lf : ℕ) → OfVerify st left rest old new
    → Faults statuses.ReadFault st sf tf → Faults statuses.WriteFault st kf lf → tf ≡ sf → lf ≡ kf
    → IfSome left (λ bytes. VerifyAnswers st bytes)
verify_answered st left rest old new sf tf kf lf o r w e f =
    if_then left (λ bytes. VerifySays st bytes rest old new) _ (λ bytes s. s.answered (unfailed st sf tf kf lf r w e f)) o.says

pub asm_answered : (st : Status) (left rest old new : Option (List ℕ)) (sf tf kf lf : ℕ) → OfAsm st left rest old new
    → Faults statuses.ReadFault st sf tf → Faults statuses.WriteFault st kf lf → tf ≡ sf → lf ≡ kf
    → IfSome left (λ bytes. AsmAnswers st bytes)
asm_answered st left rest old new sf tf kf lf o r w e f =
    if_then left (λ bytes. AsmSays st bytes rest old new) _ (λ bytes s. s.answered (unfailed st sf tf kf lf r w e f)) o.says

-- all commands together
pub record All (c : Option Command) (st : Status) (left rest old new : Option (List ℕ)) : Type 0 where
  pub run : c ≡ Some commands.Run → OfRun st left rest old new
  pub check : c ≡ Some commands.Check → OfCheck st left rest old new
  pub gen : IfGenerates c (λ n. OfGen n st left rest old new)
  pub verify : c ≡ Some commands.Verify → OfVerify st left rest old new
  pub asm : c ≡ Some commands.Asm → OfAsm st left rest old new
  pub save : c ≡ Some commands.Save → OfSave st left rest old new
  pub none : c ≡ None → OfNoCommand st left rest old new

-- the input of a command that is done was read to its end, or to END
at_end : (bytes : List ℕ) (rest : Option (List ℕ)) → rest ≡ Some [] → ReadOut bytes rest
at_end bytes rest e =
    let consumed : Consumes (Some bytes) rest bytes = subst (λ (x : Option (List ℕ)). Consumes (Some bytes) x bytes) (sym e) (sym (append-nil bytes)) in
    record { read = bytes; consumed = consumed; out = inl refl }

pub input_read : (c : Option Command) (st : Status) (left rest old new : Option (List ℕ)) → All c st left rest old new
    → reads_input c ≡ true → st ≡ statuses.Done → IfSome left (λ bytes. ReadOut bytes rest)
input_read (Some commands.Run) st left rest old new a r e = if_then left (λ bytes. RunSays st bytes rest old new) _ (λ bytes s. s.input e) (a.run refl).says
input_read (Some commands.Save) st left rest old new a r e = if_then left (λ bytes. SaveSays st bytes rest old new) _ (λ bytes s. s.input e) (a.save refl).says
input_read (Some commands.Check) st left rest old new a r e =
    if_then left (λ bytes. CheckSays st bytes rest old new) _ (λ bytes s. s.input e) (a.check refl).says
input_read (Some commands.Verify) st left rest old new a r e =
    if_then left (λ bytes. VerifySays st bytes rest old new) _ (λ bytes s. at_end bytes rest (s.done e).over) (a.verify refl).says
input_read (Some commands.Asm) st left rest old new a r e =
    if_then left (λ bytes. AsmSays st bytes rest old new) _ (λ bytes s. at_end bytes rest (s.done e).over) (a.asm refl).says
input_read (Some (commands.Gen n)) st left rest old new a r e = cc
input_read None st left rest old new a r e = cc

-- a command that reads no session leaves the source alone, and no read fails
pub unread : (c : Option Command) (st : Status) (left rest old new : Option (List ℕ)) → All c st left rest old new → reads_input c ≡ false → rest ≡ left
unread (Some (commands.Gen n)) st left rest old new a r = a.gen.unread
unread None st left rest old new a r = (a.none refl).unread
unread _ st left rest old new a r = cc

gen_reads : (st : Status) → ((st ≡ statuses.Done) ⊎ (st ≡ statuses.WriteFault)) ⊎ (st ≡ statuses.NoMemory) → st ≢ statuses.ReadFault
gen_reads st (inl (inl d)) e = cc
gen_reads st (inl (inr w)) e = cc
gen_reads st (inr m) e = cc

none_reads : (st : Status) → (st ≡ statuses.Usage) ⊎ (st ≡ statuses.WriteFault) → st ≢ statuses.ReadFault
none_reads st (inl u) e = cc
none_reads st (inr w) e = cc

pub unread_fault : (c : Option Command) (st : Status) (left rest old new : Option (List ℕ)) → All c st left rest old new
    → reads_input c ≡ false → st ≢ statuses.ReadFault
unread_fault (Some (commands.Gen n)) st left rest old new a r = gen_reads st a.gen.ends
unread_fault None st left rest old new a r = none_reads st (a.none refl).ends
unread_fault _ st left rest old new a r = λ e. cc

-- if memory was refused, a command that keeps nothing has read nothing
none_memory : (st : Status) → (st ≡ statuses.Usage) ⊎ (st ≡ statuses.WriteFault) → st ≢ statuses.NoMemory
none_memory st (inl u) e = cc
none_memory st (inr w) e = cc

pub no_memory_unread : (c : Option Command) (st : Status) (left rest old new : Option (List ℕ)) → All c st left rest old new
    → keeps c ≡ false → st ≡ statuses.NoMemory → rest ≡ left
no_memory_unread (Some commands.Run) st left rest old new a k e = (a.run refl).unread e
no_memory_unread (Some commands.Save) st left rest old new a k e = (a.save refl).unread e
no_memory_unread (Some commands.Check) st left rest old new a k e = absurd ((a.check refl).memory e)
no_memory_unread (Some (commands.Gen n)) st left rest old new a k e = a.gen.unread
no_memory_unread None st left rest old new a k e = absurd (none_memory st (a.none refl).ends e)
no_memory_unread _ st left rest old new a k e = cc
