-- The promises of the top call, command by command, from what was done for the command.
use Rattle.std.specs.Prelude.{◌≡◌, ◌≢◌, ◌⊎◌, ℕ, ◌+◌, Option, Some, None, IfSome, List, refl}
use Rattle.std.proofs.Common.{subst, inl, inr}
use Rattle.its_top.specs.declared.commands.words.Command.{Command}
use Rattle.its_top.specs.declared.commands.words.Command.TheVariants as commands
use Rattle.its_top.specs.declared.commands.status.Status.{Status}
use Rattle.its_top.specs.declared.commands.status.Status.TheVariants as statuses
use Rattle.its_top.specs.Commands.{IfGenerates}
use Rattle.its_top.specs.Conclusion.{Session, WasRun}
use Rattle.its_top.specs.Outcomes.{AsmSays, CheckSays, Faults, OfAsm, OfCheck, OfGen, OfNoCommand, OfRun, OfSave, OfVerify, RunSays, SaveSays, Unfailed, VerifySays, WroteAll}
use Rattle.its_top.specs.Saving.{Saves}
use Rattle.its_top.specs.Top.{Obeyed}
use Rattle.its_top.proofs.AssemblingLaws.{asm_answered, asm_begins, asm_breaks, asm_done, asm_ran, asm_refused, asm_too_long}
use Rattle.its_top.proofs.ObeyLaws.{check_begins, check_breaks, check_complete, check_done, check_ran, check_read, check_refused, check_too_long, gen_begins, gen_done, gen_ends, if_all, no_memory, none_obeyed, unread, usage_begins, usage_only, usage_written}
use Rattle.its_top.proofs.SavingLaws.{save_says}
use Rattle.its_top.proofs.TopLaws.{session_begins, session_breaks, session_complete, session_done, session_refused, session_too_long, session_transcribed, session_writes, session_written}
use Rattle.its_top.proofs.VerifyingLaws.{verify_answered, verify_begins, verify_breaks, verify_done, verify_lacks, verify_ran, verify_refused, verify_too_long, vouched}

-- which answers they are
wrote_all : (st : Status) → WroteAll st → ((st ≡ statuses.Done) ⊎ (st ≡ statuses.Refused)) ⊎ (st ≡ statuses.TooLong)
wrote_all statuses.Done w = inl (inl refl)
wrote_all statuses.Refused w = inl (inr refl)
wrote_all statuses.TooLong w = inr refl
wrote_all _ w = absurd w

no_read_fault : (st : Status) → Unfailed st → st ≢ statuses.ReadFault
no_read_fault statuses.ReadFault u = absurd u
no_read_fault st u = λ e. cc

no_write_fault : (st : Status) → Unfailed st → st ≢ statuses.WriteFault
no_write_fault statuses.WriteFault u = absurd u
no_write_fault st u = λ e. cc

was_command : (st : Status) → WasRun st → st ≢ statuses.Usage
was_command statuses.Usage r = absurd r
was_command st r = λ e. cc

had_memory : (st : Status) → WasRun st → st ≢ statuses.NoMemory
had_memory statuses.NoMemory r = absurd r
had_memory st r = λ e. cc

-- run
run_says : (st : Status) (bytes : List ℕ) (rest old new : Option (List ℕ)) → Session st (Some bytes) rest old new → RunSays st bytes rest old new
run_says st bytes rest old new s = record {
  transcript = λ w. session_transcribed st (Some bytes) rest old new (wrote_all st w) s;
  written = λ w. session_writes st bytes rest old new (wrote_all st w) s;
  vouched = λ w. vouched bytes old new (session_written st (Some bytes) rest old new (wrote_all st w) s);
  done = λ e. session_done st (Some bytes) rest old new e s;
  input = λ e. s.input e;
  refused = λ e. session_refused st (Some bytes) rest old new e s;
  too_long = λ e. session_too_long st (Some bytes) rest old new e s;
  broken = λ e. session_breaks st (Some bytes) rest old new e s;
  begun = λ e. session_begins st (Some bytes) rest old new e s;
  complete = λ u d. inl (session_complete st (Some bytes) rest old new (no_read_fault st u) (no_write_fault st u) s d);
}

pub session_says : (st : Status) (left rest old new : Option (List ℕ)) → Session st left rest old new → IfSome left (λ bytes. RunSays st bytes rest old new)
session_says st None rest old new s = tt
session_says st (Some bytes) rest old new s = run_says st bytes rest old new s

run_of : (st : Status) (left rest old new : Option (List ℕ)) → Session st left rest old new → OfRun st left rest old new
run_of st left rest old new s = record {
  says = session_says st left rest old new s;
  command = was_command st s.ran;
  unread = λ e. absurd (had_memory st s.ran e);
}

nothing_run : (bytes : List ℕ) (rest old new : Option (List ℕ)) → RunSays statuses.NoMemory bytes rest old new
nothing_run bytes rest old new = record {
  transcript = λ w. absurd w;
  written = λ w. absurd w;
  vouched = λ w. absurd w;
  done = λ e. cc;
  input = λ e. cc;
  refused = λ e. cc;
  too_long = λ e. cc;
  broken = λ e. cc;
  begun = λ e. cc;
  complete = λ u d. inr refl;
}

pub of_run : (d : Option Command) (st : Status) (left rest old new : Option (List ℕ)) → Obeyed d st left rest old new
    → d ≡ Some commands.Run → OfRun st left rest old new
of_run d st left rest old new o c = by st (subst (λ x. Obeyed x st left rest old new) c o)
  where
    by : (t : Status) → Obeyed (Some commands.Run) t left rest old new → OfRun t left rest old new
    by statuses.NoMemory o = record { says = if_all left _ (λ bytes. nothing_run bytes rest old new); command = λ e. cc; unread = λ e. o.obeys.0 }
    by t o = run_of t left rest old new o.obeys

-- check
pub of_check : (d : Option Command) (st : Status) (left rest old new : Option (List ℕ)) → Obeyed d st left rest old new
    → d ≡ Some commands.Check → OfCheck st left rest old new
of_check d st left rest old new o c = record {
  says = told left o;
  command = was_command st (check_ran d st left rest old new o c);
  memory = had_memory st (check_ran d st left rest old new o c);
}
  where
    told : (l : Option (List ℕ)) → Obeyed d st l rest old new → IfSome l (λ bytes. CheckSays st bytes rest old new)
    told None o = tt
    told (Some bytes) o = record {
      done = λ e. check_done d st (Some bytes) rest old new o c e;
      input = λ e. check_read d st (Some bytes) rest old new o c e;
      refused = λ e. check_refused d st (Some bytes) rest old new o c e;
      too_long = λ e. check_too_long d st (Some bytes) rest old new o c e;
      broken = λ e. check_breaks d st (Some bytes) rest old new o c e;
      begun = λ e. check_begins d st (Some bytes) rest old new o c e;
      complete = λ u. check_complete d st (Some bytes) rest old new o c (no_read_fault st u) (no_write_fault st u);
    }

-- gen
pub of_gen : (d : Option Command) (st : Status) (left rest old new : Option (List ℕ)) → Obeyed d st left rest old new
    → IfGenerates d (λ n. OfGen n st left rest old new)
of_gen (Some (commands.Gen n)) st left rest old new o = record {
  done = gen_done (Some (commands.Gen n)) st left rest old new o;
  begun = gen_begins (Some (commands.Gen n)) st left rest old new o;
  ends = gen_ends st n left rest old new o;
  unread = unread (Some (commands.Gen n)) st left rest old new o refl;
}
of_gen _ st left rest old new o = tt

-- verify
pub of_verify : (d : Option Command) (st : Status) (left rest old new : Option (List ℕ)) → Obeyed d st left rest old new
    → d ≡ Some commands.Verify → OfVerify st left rest old new
of_verify d st left rest old new o c = record {
  says = told left o;
  command = verify_ran st left rest old new (subst (λ x. Obeyed x st left rest old new) c o);
  unwritten = λ e. (verify_breaks d st left rest old new o c e).0;
}
  where
    told : (l : Option (List ℕ)) → Obeyed d st l rest old new → IfSome l (λ bytes. VerifySays st bytes rest old new)
    told None o = tt
    told (Some bytes) o = record {
      done = λ e. verify_done d st (Some bytes) rest old new o c e;
      refused = λ e. verify_refused d st (Some bytes) rest old new o c e;
      too_long = λ e. verify_too_long d st (Some bytes) rest old new o c e;
      broken = λ e. (verify_breaks d st (Some bytes) rest old new o c e).1;
      begun = λ e. verify_begins d st (Some bytes) rest old new o c e;
      answered = λ u. verify_answered d st (Some bytes) rest old new o c (no_read_fault st u) (no_write_fault st u);
      unmade = λ e. verify_lacks d st (Some bytes) rest old new o c e;
    }

-- asm
pub of_asm : (d : Option Command) (st : Status) (left rest old new : Option (List ℕ)) → Obeyed d st left rest old new
    → d ≡ Some commands.Asm → OfAsm st left rest old new
of_asm d st left rest old new o c = record { says = told left o; command = asm_ran st left rest old new (subst (λ x. Obeyed x st left rest old new) c o) }
  where
    told : (l : Option (List ℕ)) → Obeyed d st l rest old new → IfSome l (λ bytes. AsmSays st bytes rest old new)
    told None o = tt
    told (Some bytes) o = record {
      done = λ e. asm_done d st (Some bytes) rest old new o c e;
      refused = λ e. asm_refused d st (Some bytes) rest old new o c e;
      too_long = λ e. asm_too_long d st (Some bytes) rest old new o c e;
      broken = λ e. asm_breaks d st (Some bytes) rest old new o c e;
      begun = λ e. asm_begins d st (Some bytes) rest old new o c e;
      answered = λ u. asm_answered d st (Some bytes) rest old new o c (no_read_fault st u) (no_write_fault st u);
    }

-- save
saved_as : (l : Option (List ℕ)) (st : Status) (rest old new : Option (List ℕ)) → Saves st l rest old new → IfSome l (λ bytes. SaveSays st bytes rest old new)
saved_as None st rest old new s = tt
saved_as (Some bytes) st rest old new s = save_says st bytes rest old new s

nothing_saved : (bytes : List ℕ) (rest old new : Option (List ℕ)) → SaveSays statuses.NoMemory bytes rest old new
nothing_saved bytes rest old new = record {
  done = λ e. cc;
  input = λ e. cc;
  refused = λ e. cc;
  too_long = λ e. cc;
  broken = λ e. cc;
  begun = λ e. cc;
  complete = λ u d. inr refl;
}

pub of_save : (d : Option Command) (st : Status) (left rest old new : Option (List ℕ)) → Obeyed d st left rest old new
    → d ≡ Some commands.Save → OfSave st left rest old new
of_save d st left rest old new o c = by st (subst (λ x. Obeyed x st left rest old new) c o)
  where
    by : (t : Status) → Obeyed (Some commands.Save) t left rest old new → OfSave t left rest old new
    by statuses.NoMemory o = record { says = if_all left _ (λ bytes. nothing_saved bytes rest old new); command = λ e. cc; unread = λ e. o.obeys.0 }
    by t o = record {
      says = saved_as left t rest old new o.obeys;
      command = was_command t o.obeys.ran;
      unread = λ e. absurd (had_memory t o.obeys.ran e);
    }

-- words that are no command
pub of_none : (d : Option Command) (st : Status) (left rest old new : Option (List ℕ)) → Obeyed d st left rest old new → d ≡ None
    → OfNoCommand st left rest old new
of_none d st left rest old new o c = record {
  done = λ e. usage_written d st left rest old new o e;
  begun = λ e. usage_begins d st left rest old new o c e;
  ends = none_obeyed d st left rest old new o c;
  unread = unread None st left rest old new (subst (λ x. Obeyed x st left rest old new) c o) refl;
}

-- faults
pub faults_of : (fault st : Status) (before now : ℕ) → (st ≡ fault → now ≡ before + 1) → (st ≢ fault → now ≡ before) → Faults fault st before now
faults_of fault st before now once unfailed = record { once = once; unfailed = unfailed }

pub ruleset promises = (of_run, of_check, of_gen, of_verify, of_asm, of_save, of_none, usage_only, no_memory, faults_of)
