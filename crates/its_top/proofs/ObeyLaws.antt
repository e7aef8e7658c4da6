-- From what the program did for a command to the promises of the top call.
use Rattle.std.specs.Prelude.{◌≡◌, ◌≢◌, ◌⊎◌, ℕ, true, false, Option, Some, None, IfSome, List, [], refl}
use Rattle.std.proofs.Common.{sym, ◌∙◌, subst, append-nil, inl, inr}
use Rattle.std.specs.Io.KnownBytes.{Appends, Consumes}
use Rattle.its_session.specs.Events.{events_of}
use Rattle.its_reader.specs.Items.{ReadOut}
use Rattle.its_top.specs.declared.commands.status.Status.{Status}
use Rattle.its_top.specs.declared.commands.status.Status.TheVariants as statuses
use Rattle.its_top.specs.declared.commands.words.Command.{Command}
use Rattle.its_top.specs.declared.commands.words.Command.TheVariants as commands
use Rattle.its_top.specs.declared.commands.checking.Checked.{Checked}
use Rattle.its_top.specs.declared.commands.checking.Checked.TheVariants as checks
use Rattle.its_top.specs.Conclusion.{WasRun, Session}
use Rattle.its_top.specs.Commands.{reads_input, keeps, IfGenerates}
use Rattle.its_top.specs.Checking.{checked, checked_text, Passes, Fails, StatusFor, WroteText, CheckOf, Check}
use Rattle.its_top.specs.Generating.{generated_text}
use Rattle.its_top.specs.Saving.{Saves}
use Rattle.its_asm_command.specs.Past.{runs_past}
use Rattle.its_top.specs.Assembling.{Asm, AsmOf}
use Rattle.its_verify.specs.Finds.{Unmade}
use Rattle.its_top.specs.Verifying.{Verify, VerifyOf}
use Rattle.its_top.specs.Outcomes.{Begins, CheckBreaks, CheckFails, CheckPasses, CheckRunsOn, usage}
use Rattle.its_top.specs.Top.{DoneFor, Obeyed, Refrains}

pub if_all : (left : Option (List ℕ)) (P : List ℕ → Type 0) → ((b : List ℕ) → P b) → IfSome left P
if_all None P f = tt
if_all (Some b) P f = f b

pub if_then : (left : Option (List ℕ)) (P Q : List ℕ → Type 0) → ((b : List ℕ) → P b → Q b) → IfSome left P → IfSome left Q
if_then None P Q f h = tt
if_then (Some b) P Q f h = f b h

-- the result of the commands
as_obeys : (c : Option Command) (st : Status) (left rest old new : Option (List ℕ)) → st ≢ statuses.NoMemory
    → DoneFor c st left rest old new → Obeyed c st left rest old new
as_obeys c statuses.NoMemory left rest old new n d = absurd (n refl)
as_obeys c _ left rest old new n d = record { obeys = d }

pub obeyed_run : (st : Status) (left rest old new : Option (List ℕ)) → (st ≢ statuses.NoMemory → Session st left rest old new)
    → (st ≡ statuses.NoMemory → (rest ≡ left) × (new ≡ old))
    → Obeyed (Some commands.Run) st left rest old new
obeyed_run statuses.NoMemory left rest old new s m = record { obeys = m refl }
obeyed_run st left rest old new s m = let n : st ≢ statuses.NoMemory = λ k. cc in as_obeys (Some commands.Run) st left rest old new n (s n)

pub obeyed_save : (st : Status) (left rest old new : Option (List ℕ)) → (st ≢ statuses.NoMemory → Saves st left rest old new)
    → (st ≡ statuses.NoMemory → (rest ≡ left) × (new ≡ old))
    → Obeyed (Some commands.Save) st left rest old new
obeyed_save statuses.NoMemory left rest old new s m = record { obeys = m refl }
obeyed_save st left rest old new s m = let n : st ≢ statuses.NoMemory = λ k. cc in as_obeys (Some commands.Save) st left rest old new n (s n)

pub obeyed_check : (st : Status) (left rest old new : Option (List ℕ)) → Check st left rest old new → Obeyed (Some commands.Check) st left rest old new
obeyed_check statuses.NoMemory left rest old new s = absurd s.ran
obeyed_check st left rest old new s = as_obeys (Some commands.Check) st left rest old new (λ k. cc) s

pub obeyed_gen : (st : Status) (n : ℕ) (left old new : Option (List ℕ))
    → (st ≢ statuses.NoMemory → WroteText st statuses.Done (generated_text n) old new) → (st ≡ statuses.NoMemory → new ≡ old)
    → Obeyed (Some (commands.Gen n)) st left left old new
obeyed_gen statuses.NoMemory n left old new w m = record { obeys = (refl, m refl) }
obeyed_gen st n left old new w m = let k : st ≢ statuses.NoMemory = λ k. cc in as_obeys (Some (commands.Gen n)) st left left old new k (w k, refl)

pub obeyed_none : (st : Status) (left old new : Option (List ℕ)) → WroteText st statuses.Usage usage old new → Obeyed None st left left old new
obeyed_none statuses.NoMemory left old new w = absurd (let k : statuses.NoMemory ≡ statuses.Usage = w.complete.0 in cc)
obeyed_none st left old new w = as_obeys None st left left old new (λ k. cc) (w, refl)

pub obeyed_verify : (st : Status) (left rest old new : Option (List ℕ)) → Verify st left rest old new → Obeyed (Some commands.Verify) st left rest old new
obeyed_verify statuses.NoMemory left rest old new s = record {
  obeys = (
    s.unwritten (inl refl),
    if_then left (λ bytes. VerifyOf statuses.NoMemory bytes rest s.wrote) (λ bytes. Unmade bytes rest)
        (λ bytes h. h.0) s.found,
  );
}
obeyed_verify st left rest old new s = as_obeys (Some commands.Verify) st left rest old new (λ k. cc) s

pub obeyed_asm : (st : Status) (left rest old new : Option (List ℕ)) → Asm st left rest old new → Obeyed (Some commands.Asm) st left rest old new
obeyed_asm statuses.NoMemory left rest old new s = record {
  obeys =
      (s.unwritten refl, if_then left (λ bytes. AsmOf statuses.NoMemory bytes s.read s.wrote) (λ bytes. runs_past bytes ≡ false) (λ bytes h. h.0) s.found);
}
obeyed_asm st left rest old new s = as_obeys (Some commands.Asm) st left rest old new (λ k. cc) s

pub obeyed_by : (c d : Option Command) (st : Status) (left rest old new : Option (List ℕ)) → c ≡ d → Obeyed c st left rest old new
    → Obeyed d st left rest old new
obeyed_by c d st left rest old new e o = subst (λ x. Obeyed x st left rest old new) e o

-- back from them
pub done_for : (d c : Option Command) (st : Status) (left rest old new : Option (List ℕ)) → Obeyed d st left rest old new → d ≡ c
    → st ≢ statuses.NoMemory → DoneFor c st left rest old new
done_for d c st left rest old new o e n = go st n (subst (λ x. Obeyed x st left rest old new) e o)
  where
    go : (t : Status) → t ≢ statuses.NoMemory → Obeyed c t left rest old new → DoneFor c t left rest old new
    go statuses.NoMemory n o = absurd (n refl)
    go _ n o = o.obeys

kept_memory : (st good : Status) → st ≡ good → good ≢ statuses.NoMemory → st ≢ statuses.NoMemory
kept_memory st good e n k = n (sym e ∙ k)

-- check
check_as : (d : Option Command) (st : Status) (left rest old new : Option (List ℕ)) → Obeyed d st left rest old new
    → d ≡ Some commands.Check → Check st left rest old new
check_as d st left rest old new o c = by st (subst (λ x. Obeyed x st left rest old new) c o)
  where
    by : (t : Status) → Obeyed (Some commands.Check) t left rest old new → Check t left rest old new
    by statuses.NoMemory o = absurd o.obeys
    by _ o = o.obeys

check_of : (st good : Status) (left rest old new : Option (List ℕ)) → st ≡ good → Check st left rest old new → Check good left rest old new
check_of st good left rest old new e c = subst (λ x. Check x left rest old new) e c

found_as : (st good : Status) (d : Option Command) (left rest old new : Option (List ℕ)) → Obeyed d st left rest old new
    → d ≡ Some commands.Check → st ≡ good → good ≢ statuses.NoMemory
    → Check good left rest old new
found_as st good d left rest old new o c e n = check_of st good left rest old new e
    (done_for d (Some commands.Check) st left rest old new o c (kept_memory st good e n))

pub check_done : (d : Option Command) (st : Status) (left rest old new : Option (List ℕ)) → Obeyed d st left rest old new
    → d ≡ Some commands.Check → st ≡ statuses.Done → IfSome left (λ bytes. CheckPasses bytes old new)
check_done d st left rest old new o c e =
    let k = found_as st statuses.Done d left rest old new o c e (λ k. cc) in
    if_then left (λ bytes. CheckOf statuses.Done bytes k.read k.wrote) (λ bytes. CheckPasses bytes old new)
    (λ bytes f. record { passes = f.0; wrote = subst (Appends old new) (sym f.1) k.appended }) k.found

pub check_refused : (d : Option Command) (st : Status) (left rest old new : Option (List ℕ)) → Obeyed d st left rest old new
    → d ≡ Some commands.Check → st ≡ statuses.Refused → IfSome left (λ bytes. CheckFails bytes old new)
check_refused d st left rest old new o c e =
    let k = found_as st statuses.Refused d left rest old new o c e (λ k. cc) in
    if_then left (λ bytes. CheckOf statuses.Refused bytes k.read k.wrote) (λ bytes. CheckFails bytes old new)
    (λ bytes f. record { fails = f.0; wrote = subst (Appends old new) (sym f.1) k.appended }) k.found

pub check_too_long : (d : Option Command) (st : Status) (left rest old new : Option (List ℕ)) → Obeyed d st left rest old new
    → d ≡ Some commands.Check → st ≡ statuses.TooLong → IfSome left (λ bytes. CheckRunsOn bytes old new)
check_too_long d st left rest old new o c e =
    let k = found_as st statuses.TooLong d left rest old new o c e (λ k. cc) in
    if_then left (λ bytes. CheckOf statuses.TooLong bytes k.read k.wrote) (λ bytes. CheckRunsOn bytes old new)
    (λ bytes f. record { too_long = f.0; wrote = subst (Appends old new) f.1 k.appended }) k.found

told_breaks : (left rest old new : Option (List ℕ)) (k : Check statuses.ReadFault left rest old new) → IfSome left (λ bytes. CheckBreaks bytes rest old new)
told_breaks None rest old new k = tt
told_breaks (Some bytes) rest old new k =
    record { read = k.read; consumed = k.consumed; goes_on = k.found.0; limits = k.found.1; wrote = subst (Appends old new) k.found.2 k.appended }

pub check_breaks : (d : Option Command) (st : Status) (left rest old new : Option (List ℕ)) → Obeyed d st left rest old new
    → d ≡ Some commands.Check → st ≡ statuses.ReadFault → IfSome left (λ bytes. CheckBreaks bytes rest old new)
check_breaks d st left rest old new o c e = told_breaks left rest old new (found_as st statuses.ReadFault d left rest old new o c e (λ k. cc))

pub check_begins : (d : Option Command) (st : Status) (left rest old new : Option (List ℕ)) → Obeyed d st left rest old new
    → d ≡ Some commands.Check → st ≡ statuses.WriteFault
    → IfSome left (λ bytes. Begins (checked_text (checked (events_of bytes))) old new)
check_begins d st left rest old new o c e =
    let k = found_as st statuses.WriteFault d left rest old new o c e (λ k. cc) in
    if_then left (λ bytes. CheckOf statuses.WriteFault bytes k.read k.wrote) (λ bytes. Begins (checked_text (checked (events_of bytes))) old new)
    (λ bytes f. record { first = k.wrote; more = f.0; whole = f.1; wrote = k.appended }) k.found

not_failed : (c : Checked) → Passes c → Fails c → ⊥
not_failed c p f = by c p f
  where
    by : (x : Checked) → Passes x → Fails x → ⊥
    by (checks.Ended n) p f = f
    by (checks.Open n) p f = f
    by (checks.Refused n r) p f = p
    by checks.TooLong p f = p

passing : (st : Status) (bytes read w : List ℕ) → st ≢ statuses.ReadFault → st ≢ statuses.WriteFault → WasRun st → CheckOf st bytes read w
    → Passes (checked (events_of bytes)) → st ≡ statuses.Done
passing statuses.Done bytes read w r k run f p = refl
passing statuses.Refused bytes read w r k run f p = absurd (not_failed (checked (events_of bytes)) p (f.0))
passing statuses.TooLong bytes read w r k run f p = absurd (subst Passes (f.0) p)
passing statuses.ReadFault bytes read w r k run f p = absurd (r refl)
passing statuses.WriteFault bytes read w r k run f p = absurd (k refl)
passing statuses.Usage bytes read w r k run f p = absurd run
passing statuses.NoMemory bytes read w r k run f p = absurd run

pub check_complete : (d : Option Command) (st : Status) (left rest old new : Option (List ℕ)) → Obeyed d st left rest old new
    → d ≡ Some commands.Check → st ≢ statuses.ReadFault → st ≢ statuses.WriteFault
    → IfSome left (λ bytes. Passes (checked (events_of bytes)) → st ≡ statuses.Done)
check_complete d st left rest old new o c r w =
    let k : Check st left rest old new = check_as d st left rest old new o c in
    if_then left (λ bytes. CheckOf st bytes k.read k.wrote) _ (λ bytes h p. passing st bytes k.read k.wrote r w k.ran h p) k.found

pub check_read : (d : Option Command) (st : Status) (left rest old new : Option (List ℕ)) → Obeyed d st left rest old new
    → d ≡ Some commands.Check → st ≡ statuses.Done → IfSome left (λ bytes. ReadOut bytes rest)
check_read d st left rest old new o c e = (check_as d st left rest old new o c).input e

pub check_ran : (d : Option Command) (st : Status) (left rest old new : Option (List ℕ)) → Obeyed d st left rest old new → d ≡ Some commands.Check → WasRun st
check_ran d st left rest old new o c = (check_as d st left rest old new o c).ran

-- gen
wrote_done : (st : Status) (bytes : List ℕ) (old new : Option (List ℕ)) → st ≡ statuses.Done → WroteText st statuses.Done bytes old new
    → Appends old new bytes
wrote_done st bytes old new e w = let k = subst (λ x. WroteText x statuses.Done bytes old new) e w in subst (Appends old new) (sym k.complete.1) k.appended

wrote_fault : (st good : Status) (bytes : List ℕ) (old new : Option (List ℕ)) → st ≡ statuses.WriteFault → WroteText st good bytes old new
    → Begins bytes old new
wrote_fault st good bytes old new e w =
    let k = subst (λ x. WroteText x good bytes old new) e w in record { first = k.wrote; more = k.complete.0; whole = k.complete.1; wrote = k.appended }

pub gen_done : (d : Option Command) (st : Status) (left rest old new : Option (List ℕ)) → Obeyed d st left rest old new
    → IfGenerates d (λ n. st ≡ statuses.Done → Appends old new (generated_text n))
gen_done (Some (commands.Gen n)) st left rest old new o =
    λ e. wrote_done st (generated_text n) old new e (done_for (Some (commands.Gen n)) (Some (commands.Gen n)) st left rest old new o refl (λ k. cc)).0
gen_done _ st left rest old new o = tt

pub gen_begins : (d : Option Command) (st : Status) (left rest old new : Option (List ℕ)) → Obeyed d st left rest old new
    → IfGenerates d (λ n. st ≡ statuses.WriteFault → Begins (generated_text n) old new)
gen_begins (Some (commands.Gen n)) st left rest old new o =
    λ e. wrote_fault st statuses.Done (generated_text n) old new e
    (done_for (Some (commands.Gen n)) (Some (commands.Gen n)) st left rest old new o refl (λ k. cc)).0
gen_begins _ st left rest old new o = tt

by_status : (st : Status) (bytes w : List ℕ) → StatusFor st statuses.Done bytes w → st ≢ statuses.WriteFault → st ≡ statuses.Done
by_status statuses.WriteFault bytes w s n = absurd (n refl)
by_status statuses.Done bytes w s n = refl
by_status _ bytes w s n = s.0

pub gen_ends : (st : Status) (n : ℕ) (left rest old new : Option (List ℕ)) → Obeyed (Some (commands.Gen n)) st left rest old new
    → ((st ≡ statuses.Done) ⊎ (st ≡ statuses.WriteFault)) ⊎ (st ≡ statuses.NoMemory)
gen_ends statuses.NoMemory n left rest old new o = inr refl
gen_ends statuses.WriteFault n left rest old new o = inl (inr refl)
gen_ends st n left rest old new o =
    let k = (done_for (Some (commands.Gen n)) (Some (commands.Gen n)) st left rest old new o refl (λ k. cc)).0 in
    inl (inl (by_status st (generated_text n) k.wrote k.complete (λ k. cc)))

-- words that are no command
is_none : (d : Option Command) (st : Status) (left rest old new : Option (List ℕ)) → st ≡ statuses.Usage → Obeyed d st left rest old new → d ≡ None
is_none None st left rest old new e o = refl
is_none (Some commands.Run) st left rest old new e o = absurd
    (subst (λ x. Session x left rest old new) e (done_for (Some commands.Run) (Some commands.Run) st left rest old new o refl (λ k. cc))).ran
is_none (Some commands.Check) st left rest old new e o = absurd
    (subst (λ x. Check x left rest old new) e (done_for (Some commands.Check) (Some commands.Check) st left rest old new o refl (λ k. cc))).ran
is_none (Some commands.Save) st left rest old new e o = absurd
    (subst (λ x. Saves x left rest old new) e (done_for (Some commands.Save) (Some commands.Save) st left rest old new o refl (λ k. cc))).ran
is_none (Some commands.Verify) st left rest old new e o = absurd
    ((done_for (Some commands.Verify) (Some commands.Verify) st left rest old new o refl (λ k. cc)).ran e)
is_none (Some commands.Asm) st left rest old new e o = absurd ((done_for (Some commands.Asm) (Some commands.Asm) st left rest old new o refl (λ k. cc)).ran e)
is_none (Some (commands.Gen n)) st left rest old new e o =
    let w = (done_for (Some (commands.Gen n)) (Some (commands.Gen n)) st left rest old new o refl (λ k. cc)).0 in
    absurd (let k : statuses.Usage ≡ statuses.Done = (subst (λ x. WroteText x statuses.Done (generated_text n) old new) e w).complete.0 in cc)

pub usage_only : (d : Option Command) (st : Status) (left rest old new : Option (List ℕ)) → Obeyed d st left rest old new → st ≡ statuses.Usage → d ≡ None
usage_only d st left rest old new o e = is_none d st left rest old new e o

pub usage_written : (d : Option Command) (st : Status) (left rest old new : Option (List ℕ)) → Obeyed d st left rest old new
    → st ≡ statuses.Usage → Appends old new usage
usage_written d st left rest old new o e =
    let w = (done_for d None st left rest old new o (is_none d st left rest old new e o) (λ k. cc)).0 in
    let k = subst (λ x. WroteText x statuses.Usage usage old new) e w in subst (Appends old new) (sym k.complete.1) k.appended

pub usage_begins : (d : Option Command) (st : Status) (left rest old new : Option (List ℕ)) → Obeyed d st left rest old new → d ≡ None
    → st ≡ statuses.WriteFault → Begins usage old new
usage_begins d st left rest old new o c e = wrote_fault st statuses.Usage usage old new e (done_for d None st left rest old new o c (λ k. cc)).0

usage_ends : (st : Status) (left rest old new : Option (List ℕ)) → Obeyed None st left rest old new → (st ≡ statuses.Usage) ⊎ (st ≡ statuses.WriteFault)
usage_ends statuses.NoMemory left rest old new o = absurd o.obeys
usage_ends statuses.WriteFault left rest old new o = inr refl
usage_ends statuses.Usage left rest old new o = inl refl
usage_ends _ left rest old new o = inl o.obeys.0.complete.0

pub none_obeyed : (d : Option Command) (st : Status) (left rest old new : Option (List ℕ)) → Obeyed d st left rest old new → d ≡ None
    → (st ≡ statuses.Usage) ⊎ (st ≡ statuses.WriteFault)
none_obeyed d st left rest old new o c = usage_ends st left rest old new (subst (λ x. Obeyed x st left rest old new) c o)

-- a session that was read, and is done
by_input : (d : Option Command) (left rest old new : Option (List ℕ)) → Obeyed d statuses.Done left rest old new → reads_input d ≡ true
    → IfSome left (λ bytes. ReadOut bytes rest)
by_input None left rest old new o r = cc
by_input (Some commands.Run) left rest old new o r = o.obeys.input refl
by_input (Some commands.Check) left rest old new o r = o.obeys.input refl
by_input (Some commands.Save) left rest old new o r = o.obeys.input refl
by_input (Some commands.Verify) left rest old new o r = ended left (o.obeys.input refl)
  where
    ended : (l : Option (List ℕ)) → IfSome l (λ bytes. rest ≡ Some []) → IfSome l (λ bytes. ReadOut bytes rest)
    ended None e = tt
    ended (Some bytes) e =
        let consumed : Consumes (Some bytes) rest bytes = subst (λ (x : Option (List ℕ)). Consumes (Some bytes) x bytes) (sym e) (sym (append-nil bytes)) in
        record { read = bytes; consumed = consumed; out = inl refl }
by_input (Some commands.Asm) left rest old new o r = whole left o.obeys
  where
    whole : (l : Option (List ℕ)) → Asm statuses.Done l rest old new → IfSome l (λ bytes. ReadOut bytes rest)
    whole None a = tt
    whole (Some bytes) a = record { read = a.read; consumed = a.consumed; out = inl a.found.2 }
by_input (Some (commands.Gen n)) left rest old new o r = cc

pub input_read : (d : Option Command) (st : Status) (left rest old new : Option (List ℕ)) → Obeyed d st left rest old new
    → reads_input d ≡ true → st ≡ statuses.Done → IfSome left (λ bytes. ReadOut bytes rest)
input_read d st left rest old new o r e = by_input d left rest old new (subst (λ x. Obeyed d x left rest old new) e o) r

-- a command that reads nothing
left_alone : (d : Option Command) (st : Status) (left rest old new : Option (List ℕ)) → reads_input d ≡ false → st ≢ statuses.NoMemory
    → Obeyed d st left rest old new → rest ≡ left
left_alone None st left rest old new r n o = (done_for None None st left rest old new o refl n).1
left_alone (Some (commands.Gen k)) st left rest old new r n o = (done_for (Some (commands.Gen k)) (Some (commands.Gen k)) st left rest old new o refl n).1
left_alone _ st left rest old new r n o = cc

unread_by : (d : Option Command) (left rest old new : Option (List ℕ)) → Refrains d left rest old new → keeps d ≡ false → rest ≡ left
unread_by (Some commands.Verify) left rest old new m n = cc
unread_by (Some commands.Asm) left rest old new m n = cc
unread_by None left rest old new m n = absurd m
unread_by (Some commands.Check) left rest old new m n = absurd m
unread_by _ left rest old new m n = m.0

unwritten_by : (d : Option Command) (left rest old new : Option (List ℕ)) → Refrains d left rest old new → new ≡ old
unwritten_by (Some commands.Verify) left rest old new m = m.0
unwritten_by (Some commands.Asm) left rest old new m = m.0
unwritten_by (Some commands.Check) left rest old new m = absurd m
unwritten_by None left rest old new m = absurd m
unwritten_by _ left rest old new m = m.1

none_kept : (d : Option Command) → reads_input d ≡ false → keeps d ≡ false
none_kept (Some (commands.Gen n)) r = refl
none_kept None r = refl
none_kept _ r = cc

pub unread : (d : Option Command) (st : Status) (left rest old new : Option (List ℕ)) → Obeyed d st left rest old new → reads_input d ≡ false → rest ≡ left
unread d statuses.NoMemory left rest old new o r = unread_by d left rest old new o.obeys (none_kept d r)
unread d st left rest old new o r = left_alone d st left rest old new r (λ k. cc) o

pub not_read_fault : (d : Option Command) (st : Status) (left rest old new : Option (List ℕ)) → Obeyed d st left rest old new
    → reads_input d ≡ false → st ≢ statuses.ReadFault
not_read_fault None st left rest old new o r e =
    let w = (done_for None None st left rest old new o refl (λ k. cc)).0 in
    let k : statuses.ReadFault ≡ statuses.Usage = (subst (λ x. WroteText x statuses.Usage usage old new) e w).complete.0 in cc
not_read_fault (Some (commands.Gen n)) st left rest old new o r e =
    let w = (done_for (Some (commands.Gen n)) (Some (commands.Gen n)) st left rest old new o refl (λ k. cc)).0 in
    let k : statuses.ReadFault ≡ statuses.Done = (subst (λ x. WroteText x statuses.Done (generated_text n) old new) e w).complete.0 in cc
not_read_fault _ st left rest old new o r e = cc

pub no_memory : (d : Option Command) (st : Status) (left rest old new : Option (List ℕ)) → Obeyed d st left rest old new → st ≡ statuses.NoMemory → new ≡ old
no_memory d st left rest old new o e = unwritten_by d left rest old new (subst (λ x. Obeyed d x left rest old new) e o).obeys

pub no_memory_unread : (d : Option Command) (st : Status) (left rest old new : Option (List ℕ)) → Obeyed d st left rest old new
    → keeps d ≡ false → st ≡ statuses.NoMemory → rest ≡ left
no_memory_unread d st left rest old new o n e = unread_by d left rest old new (subst (λ x. Obeyed d x left rest old new) e o).obeys n
