-- The answers of the library follow from what the program says.
use Rattle.std.proofs.Common.{arith, ◌∙◌, ◌≡◌, ◌≢◌, ◌≤◌, ◌<◌, ◌⊎◌, ◌++◌, ℕ, Bool, false, Option, Some, None, IfSome, List, [], refl, sym, ap, subst, inl, inr, length, take, append-nil, length-append}
use Rattle.std.specs.Io.KnownBytes.{Appends}
use Rattle.its_asm.specs.Assembly.{assembly}
use Rattle.its_asm_command.specs.Past.{runs_past}
use Rattle.its_asm_command.specs.Written.{assembly_text, lines_text}
use Rattle.its_session.specs.Events.{events_of}
use Rattle.its_stepped.specs.Lines.{stepped}
use Rattle.its_verify.specs.Rulings.{Yes}
use Rattle.its_verify.specs.Verified.{Answer, Judged, answer_text}
use Rattle.its_top.specs.Commands.{IfGenerates}
use Rattle.its_top.specs.Generating.{generated_text}
use Rattle.its_top.specs.Saving.{save_by}
use Rattle.its_top.proofs.CutLaws.{answer_by}
use Rattle.its_top.specs.Outcomes.{Begins, OfRun, OfCheck, OfVerify, OfAsm, OfGen, OfNoCommand, OfSave, RunSays, CheckSays, VerifySays, AsmSays, SaveSays, usage}
use Rattle.its_top.specs.declared.commands.words.Command.{Command}
use Rattle.its_top.specs.declared.commands.words.Command.TheVariants as commands
use Rattle.its_top.specs.declared.commands.status.Status.{Status}
use Rattle.its_top.specs.declared.commands.status.Status.TheVariants as statuses
use Rattle.its_web.specs.Answers.{asm_text, code_of, status_given, to_write, Runs, Checks, Judges, Assembles, Generates, Restarts, Says, Answers, Given}

-- what the program says, of a source of these bytes and a sink that has got those that were written
module _ (st : Status) (bytes written : List ℕ) (left rest old new : Option (List ℕ)) (l : left ≡ Some bytes) (o : old ≡ Some [])
    (w : new ≡ Some written) where
  said : (c : Option Command) → (c ≡ Some commands.Run → OfRun st left rest old new) → (c ≡ Some commands.Check → OfCheck st left rest old new)
      → IfGenerates c (λ k. OfGen k st left rest old new) → (c ≡ Some commands.Verify → OfVerify st left rest old new)
      → (c ≡ Some commands.Asm → OfAsm st left rest old new) → (c ≡ Some commands.Save → OfSave st left rest old new) → Says c bytes written st
  said (Some commands.Run) run check gen verify asm save = record {
    rest = rest;
    says = subst (λ (x : Option (List ℕ)). RunSays st bytes rest x (Some written)) o
        (subst (λ (x : Option (List ℕ)). RunSays st bytes rest old x) w
        (subst (λ (x : Option (List ℕ)). IfSome x (λ b. RunSays st b rest old new)) l (run refl).says));
  }
  said (Some commands.Check) run check gen verify asm save = record {
    rest = rest;
    says = subst (λ (x : Option (List ℕ)). CheckSays st bytes rest x (Some written)) o
        (subst (λ (x : Option (List ℕ)). CheckSays st bytes rest old x) w
        (subst (λ (x : Option (List ℕ)). IfSome x (λ b. CheckSays st b rest old new)) l (check refl).says));
  }
  said (Some commands.Verify) run check gen verify asm save = record {
    rest = rest;
    says = subst (λ (x : Option (List ℕ)). VerifySays st bytes rest x (Some written)) o
        (subst (λ (x : Option (List ℕ)). VerifySays st bytes rest old x) w
        (subst (λ (x : Option (List ℕ)). IfSome x (λ b. VerifySays st b rest old new)) l (verify refl).says));
  }
  said (Some commands.Asm) run check gen verify asm save = record {
    rest = rest;
    says = subst (λ (x : Option (List ℕ)). AsmSays st bytes rest x (Some written)) o
        (subst (λ (x : Option (List ℕ)). AsmSays st bytes rest old x) w
        (subst (λ (x : Option (List ℕ)). IfSome x (λ b. AsmSays st b rest old new)) l (asm refl).says));
  }
  said (Some commands.Save) run check gen verify asm save = record {
    rest = rest;
    says = subst (λ (x : Option (List ℕ)). SaveSays st bytes rest x (Some written)) o
        (subst (λ (x : Option (List ℕ)). SaveSays st bytes rest old x) w
        (subst (λ (x : Option (List ℕ)). IfSome x (λ b. SaveSays st b rest old new)) l (save refl).says));
  }
  said (Some (commands.Gen k)) run check gen verify asm save = record {
    rest = rest;
    says = subst (λ (x : Option (List ℕ)). OfGen k st x rest (Some []) (Some written)) l
        (subst (λ (x : Option (List ℕ)). OfGen k st left rest x (Some written)) o
        (subst (λ (x : Option (List ℕ)). OfGen k st left rest old x) w gen));
  }
  said None run check gen verify asm save = tt

-- what was written is the first part of what is to be written
record Starts (all written : List ℕ) : Type 0 where
  more : List ℕ
  is : all ≡ written ++ more

whole_starts : (all written : List ℕ) → written ≡ all → Starts all written
whole_starts all written e = record { more = []; is = sym e ∙ sym (append-nil written) }

begun_starts : (all written : List ℕ) → Begins all (Some []) (Some written) → Starts all written
begun_starts all written b = record { more = b.more; is = b.whole ∙ ap (λ (x : List ℕ). x ++ b.more) (sym b.wrote) }

none_starts : (all written : List ℕ) → written ≡ [] → Starts all written
none_starts all written e = record { more = all; is = ap (λ (x : List ℕ). x ++ all) (sym e) }

same_starts : (all alike written : List ℕ) → alike ≡ all → Starts alike written → Starts all written
same_starts all alike written e s = record { more = s.more; is = sym e ∙ s.is }

by_run : (st : Status) (bytes written : List ℕ) → Runs bytes written st → (st ≡ statuses.NoMemory → written ≡ []) → st ≢ statuses.Usage
    → st ≢ statuses.ReadFault → Starts (to_write (Some commands.Run) bytes) written
by_run statuses.Done bytes written r m u f = whole_starts _ written (r.says.done refl).wrote
by_run statuses.Refused bytes written r m u f = whole_starts _ written (r.says.refused refl).wrote
by_run statuses.TooLong bytes written r m u f = whole_starts _ written (r.says.too_long refl).wrote
by_run statuses.WriteFault bytes written r m u f = begun_starts _ written (r.says.begun refl)
by_run statuses.NoMemory bytes written r m u f = none_starts _ written (m refl)
by_run statuses.Usage bytes written r m u f = absurd (u refl)
by_run statuses.ReadFault bytes written r m u f = absurd (f refl)

by_check : (st : Status) (bytes written : List ℕ) → Checks bytes written st → (st ≡ statuses.NoMemory → written ≡ []) → st ≢ statuses.Usage
    → st ≢ statuses.ReadFault → Starts (to_write (Some commands.Check) bytes) written
by_check statuses.Done bytes written r m u f = whole_starts _ written (r.says.done refl).wrote
by_check statuses.Refused bytes written r m u f = whole_starts _ written (r.says.refused refl).wrote
by_check statuses.TooLong bytes written r m u f = none_starts _ written (r.says.too_long refl).wrote
by_check statuses.WriteFault bytes written r m u f = begun_starts _ written (r.says.begun refl)
by_check statuses.NoMemory bytes written r m u f = none_starts _ written (m refl)
by_check statuses.Usage bytes written r m u f = absurd (u refl)
by_check statuses.ReadFault bytes written r m u f = absurd (f refl)

by_verify : (st : Status) (bytes written : List ℕ) → Judges bytes written st → (st ≡ statuses.NoMemory → written ≡ []) → st ≢ statuses.Usage
    → st ≢ statuses.ReadFault → Starts (to_write (Some commands.Verify) bytes) written
by_verify statuses.Done bytes written r m u f =
    let d = r.says.done refl in
    whole_starts _ written (subst (λ (a : Answer). written ≡ answer_text a) (sym (answer_by bytes (Judged (Yes d.lines)) d.licensed)) d.wrote)
by_verify statuses.Refused bytes written r m u f =
    let d = r.says.refused refl in
    whole_starts _ written (subst (λ (a : Answer). written ≡ answer_text a) (sym (answer_by bytes d.answer d.why)) d.wrote)
by_verify statuses.TooLong bytes written r m u f = none_starts _ written (r.says.too_long refl).wrote
by_verify statuses.WriteFault bytes written r m u f = begun_starts _ written (r.says.begun refl)
by_verify statuses.NoMemory bytes written r m u f = none_starts _ written (m refl)
by_verify statuses.Usage bytes written r m u f = absurd (u refl)
by_verify statuses.ReadFault bytes written r m u f = absurd (f refl)

made_text : (bytes : List ℕ) → runs_past bytes ≡ false → assembly_text (assembly bytes) ≡ to_write (Some commands.Asm) bytes
made_text bytes few = ap (λ (b : Bool). asm_text b (assembly bytes)) (sym few)

by_asm : (st : Status) (bytes written : List ℕ) → Assembles bytes written st → (st ≡ statuses.NoMemory → written ≡ []) → st ≢ statuses.Usage
    → st ≢ statuses.ReadFault → Starts (to_write (Some commands.Asm) bytes) written
by_asm statuses.Done bytes written r m u f =
    let d = r.says.done refl in
    whole_starts _ written (d.wrote ∙ ap lines_text d.loads ∙ ap assembly_text (sym d.assembled) ∙ made_text bytes d.few)
by_asm statuses.Refused bytes written r m u f =
    let d = r.says.refused refl in
    whole_starts _ written (d.wrote ∙ ap assembly_text (sym d.refused) ∙ made_text bytes d.few)
by_asm statuses.TooLong bytes written r m u f = none_starts _ written (r.says.too_long refl).wrote
by_asm statuses.WriteFault bytes written r m u f =
    let d = r.says.begun refl in
    same_starts _ (assembly_text (assembly bytes)) written (made_text bytes d.few) (begun_starts _ written d.begins)
by_asm statuses.NoMemory bytes written r m u f = none_starts _ written (m refl)
by_asm statuses.Usage bytes written r m u f = absurd (u refl)
by_asm statuses.ReadFault bytes written r m u f = absurd (f refl)

by_save : (st : Status) (bytes written : List ℕ) → Restarts bytes written st → (st ≡ statuses.NoMemory → written ≡ []) → st ≢ statuses.Usage
    → st ≢ statuses.ReadFault → Starts (to_write (Some commands.Save) bytes) written
by_save statuses.Done bytes written r m u f = whole_starts _ written (r.says.done refl).wrote
by_save statuses.Refused bytes written r m u f =
    let d = r.says.refused refl in
    whole_starts _ written (d.wrote ∙ sym (ap (save_by (events_of bytes) (stepped (events_of bytes)).lines) d.refused))
by_save statuses.TooLong bytes written r m u f = none_starts _ written (r.says.too_long refl).wrote
by_save statuses.WriteFault bytes written r m u f = begun_starts _ written (r.says.begun refl)
by_save statuses.NoMemory bytes written r m u f = none_starts _ written (m refl)
by_save statuses.Usage bytes written r m u f = absurd (u refl)
by_save statuses.ReadFault bytes written r m u f = absurd (f refl)

by_gen : (k : ℕ) (st : Status) (bytes written : List ℕ) → Generates k bytes written st → (st ≡ statuses.NoMemory → written ≡ [])
    → Starts (to_write (Some (commands.Gen k)) bytes) written
by_gen k st bytes written r m = go r.says.ends
  where
    go : ((st ≡ statuses.Done) ⊎ (st ≡ statuses.WriteFault)) ⊎ (st ≡ statuses.NoMemory) → Starts (generated_text k) written
    go (inl (inl e)) = whole_starts _ written (r.says.done e)
    go (inl (inr e)) = begun_starts _ written (r.says.begun e)
    go (inr e) = none_starts _ written (m e)

by_none : (st : Status) (bytes written : List ℕ) (left rest : Option (List ℕ)) → OfNoCommand st left rest (Some []) (Some written)
    → Starts (to_write None bytes) written
by_none st bytes written left rest n = go n.ends
  where
    go : (st ≡ statuses.Usage) ⊎ (st ≡ statuses.WriteFault) → Starts usage written
    go (inl e) = whole_starts _ written (n.done e)
    go (inr e) = begun_starts _ written (n.begun e)

module _ (st : Status) (bytes written : List ℕ) (left rest old new : Option (List ℕ)) (o : old ≡ Some []) (w : new ≡ Some written)
    (memory : st ≡ statuses.NoMemory → new ≡ old) (safe : st ≢ statuses.ReadFault) where
  unwritten : st ≡ statuses.NoMemory → written ≡ []
  unwritten e = let both : Some written ≡ Some [] = sym w ∙ memory e ∙ o in cc

  starts : (c : Option Command) → (st ≡ statuses.Usage → c ≡ None) → Says c bytes written st → (c ≡ None → OfNoCommand st left rest old new)
      → Starts (to_write c bytes) written
  starts (Some commands.Run) command says none = by_run st bytes written says unwritten (λ e. absurd (let k = command e in cc)) safe
  starts (Some commands.Check) command says none = by_check st bytes written says unwritten (λ e. absurd (let k = command e in cc)) safe
  starts (Some commands.Verify) command says none = by_verify st bytes written says unwritten (λ e. absurd (let k = command e in cc)) safe
  starts (Some commands.Asm) command says none = by_asm st bytes written says unwritten (λ e. absurd (let k = command e in cc)) safe
  starts (Some commands.Save) command says none = by_save st bytes written says unwritten (λ e. absurd (let k = command e in cc)) safe
  starts (Some (commands.Gen k)) command says none = by_gen k st bytes written says unwritten
  starts None command says none =
      by_none st bytes written left rest (subst (λ (x : Option (List ℕ)). OfNoCommand st left rest x (Some written)) o
      (subst (λ (x : Option (List ℕ)). OfNoCommand st left rest old x) w (none refl)))

-- what was written is longer than the buffer, and so is what is to be written
short_by : (all written out : List ℕ) → length out < length written → Starts all written → length out < length all
short_by all written out longer s = let n : length all ≡ length (written ++ s.more) = ap length s.is in omega (arith, n, longer, length-append written s.more)

-- no status has code 4, which says that the buffer is too short, or 7, which says that a word is
-- not UTF-8
code_not_short : (st : Status) → code_of st ≢ 4
code_not_short statuses.Done = λ e. cc
code_not_short statuses.Usage = λ e. cc
code_not_short statuses.Refused = λ e. cc
code_not_short statuses.ReadFault = λ e. cc
code_not_short statuses.WriteFault = λ e. cc
code_not_short statuses.NoMemory = λ e. cc
code_not_short statuses.TooLong = λ e. cc

pub code_given : (st : Status) (n : ℕ) (out wrote : List ℕ) → n ≡ code_of st → n ≡ 4 → length out < length wrote
code_given st n out wrote is e = absurd (code_not_short st (sym is ∙ e))

code_no_text : (st : Status) → code_of st ≢ 7
code_no_text statuses.Done = λ e. cc
code_no_text statuses.Usage = λ e. cc
code_no_text statuses.Refused = λ e. cc
code_no_text statuses.ReadFault = λ e. cc
code_no_text statuses.WriteFault = λ e. cc
code_no_text statuses.NoMemory = λ e. cc
code_no_text statuses.TooLong = λ e. cc

pub code_is_status : (st : Status) (n : ℕ) → n ≡ code_of st → n ≢ 7
code_is_status st n is e = code_no_text st (sym is ∙ e)

says_by : (c : Option Command) (st : Status) (bytes written given : List ℕ) (s : Option Status)
    → IfSome s (λ x. (x ≡ st) × (given ≡ written)) → Says c bytes written st → IfSome s (Says c bytes given)
says_by c st bytes written given (Some s) g h =
    subst (λ (x : List ℕ). Says c bytes x s) (sym g.1) (subst (λ (x : Status). Says c bytes written x) (sym g.0) h)
says_by c st bytes written given None g h = tt

-- only code 1 is the usage line's
usage_given : (st : Status) (n : ℕ) (given written : List ℕ) → IfSome (status_given n) (λ x. (x ≡ st) × (given ≡ written)) → n ≡ 1
    → (st ≡ statuses.Usage) × (given ≡ written)
usage_given st n given written g e = go (subst (λ (k : ℕ). IfSome (status_given k) (λ x. (x ≡ st) × (given ≡ written))) e g)
  where
    go : (statuses.Usage ≡ st) × (given ≡ written) → (st ≡ statuses.Usage) × (given ≡ written)
    go p = (sym p.0, p.1)

usage_written : (written : List ℕ) (old new : Option (List ℕ)) → old ≡ Some [] → new ≡ Some written → Appends old new usage → written ≡ usage
usage_written written old new o w a = go (subst (λ (x : Option (List ℕ)). Appends x (Some written) usage) o
    (subst (λ (x : Option (List ℕ)). Appends old x usage) w a))
  where
    go : Appends (Some []) (Some written) usage → written ≡ usage
    go h = h

no_command_code : (st : Status) (n : ℕ) → (n ≡ 4) ⊎ (n ≡ code_of st) → (st ≡ statuses.Usage) ⊎ (st ≡ statuses.WriteFault)
    → ((n ≡ 1) ⊎ (n ≡ 4)) ⊎ ((n ≡ 5) ⊎ (n ≡ 7))
no_command_code st n (inl e) x = inl (inr e)
no_command_code st n (inr e) (inl u) = inl (inl (e ∙ ap code_of u))
no_command_code st n (inr e) (inr u) = inr (inl (e ∙ ap code_of u))

code_range : (st : Status) → st ≢ statuses.ReadFault → (code_of st ≢ 3) × (code_of st ≤ 7)
code_range statuses.Done r = ((λ e. cc), omega arith)
code_range statuses.Usage r = ((λ e. cc), omega arith)
code_range statuses.Refused r = ((λ e. cc), omega arith)
code_range statuses.ReadFault r = absurd (r refl)
code_range statuses.WriteFault r = ((λ e. cc), omega arith)
code_range statuses.NoMemory r = ((λ e. cc), omega arith)
code_range statuses.TooLong r = ((λ e. cc), omega arith)

in_range : (st : Status) (n : ℕ) → (n ≡ 4) ⊎ (n ≡ code_of st) → st ≢ statuses.ReadFault → (n ≢ 3) × (n ≤ 7)
in_range st n (inl e) r = subst (λ (k : ℕ). (k ≢ 3) × (k ≤ 7)) (sym e) ((λ x. cc), omega arith)
in_range st n (inr e) r = subst (λ (k : ℕ). (k ≢ 3) × (k ≤ 7)) (sym e) (code_range st r)

-- the answer after the command was obeyed
pub obeyed : (c : Option Command) (st : Status) (n count : ℕ) (bytes written out : List ℕ) (left rest old new : Option (List ℕ))
    → Given n st written count out → left ≡ Some bytes → old ≡ Some [] → new ≡ Some written
    → (c ≡ Some commands.Run → OfRun st left rest old new) → (c ≡ Some commands.Check → OfCheck st left rest old new)
    → IfGenerates c (λ k. OfGen k st left rest old new) → (c ≡ Some commands.Verify → OfVerify st left rest old new)
    → (c ≡ Some commands.Asm → OfAsm st left rest old new) → (c ≡ Some commands.Save → OfSave st left rest old new)
    → (c ≡ None → OfNoCommand st left rest old new)
    → (st ≡ statuses.Usage → c ≡ None) → (st ≡ statuses.NoMemory → new ≡ old) → st ≢ statuses.ReadFault → Answers c n bytes count out
obeyed c st n count bytes written out left rest old new g l o w run check gen verify asm save none command memory safe = record {
  within = g.within;
  says = says_by c st bytes written (take count out) (status_given n) g.bytes
      (said st bytes written left rest old new l o w c run check gen verify asm save);
  usage = λ e.
      let u = usage_given st n (take count out) written g.bytes e in
      let c_is = command u.0 in
      (u.1 ∙ usage_written written old new o w ((none c_is).done u.0), c_is);
  no_command = λ e. no_command_code st n g.answer (none e).ends;
  nothing = g.nothing;
  short = λ e. short_by (to_write c bytes) written out (g.short e)
      (starts st bytes written left rest old new o w memory safe c command
      (said st bytes written left rest old new l o w c run check gen verify asm save) none);
  statuses = in_range st n g.answer safe;
}

-- an answer that comes before the command is obeyed
nothing_given : (c : Option Command) (n count : ℕ) (bytes out : List ℕ) → count ≡ 0 → status_given n ≡ None → (n ≡ 5) ⊎ (n ≡ 7) → n ≢ 1
    → n ≢ 3 → n ≢ 4 → n ≤ 7 → Answers c n bytes count out
nothing_given c n count bytes out z s f one three four most = record {
  within = subst (λ (k : ℕ). k ≤ length out) (sym z) (omega arith);
  says = subst (λ (x : Option Status). IfSome x (Says c bytes (take count out))) (sym s) tt;
  usage = λ e. absurd (one e);
  no_command = λ e. inr f;
  nothing = λ e. z;
  short = λ e. absurd (four e);
  statuses = (three, most);
}

pub refuses : (c : Option Command) (n count : ℕ) (bytes out : List ℕ) → (n ≡ 5) ⊎ (n ≡ 7) → count ≡ 0 → Answers c n bytes count out
refuses c n count bytes out (inl e) z = subst (λ (k : ℕ). Answers c k bytes count out) (sym e)
    (nothing_given c 5 count bytes out z refl (inl refl) (λ x. cc) (λ x. cc) (λ x. cc) (omega arith))
refuses c n count bytes out (inr e) z = subst (λ (k : ℕ). Answers c k bytes count out) (sym e)
    (nothing_given c 7 count bytes out z refl (inr refl) (λ x. cc) (λ x. cc) (λ x. cc) (omega arith))

-- each clause of the call
module _ (c : Option Command) (n count : ℕ) (bytes out : List ℕ) (a : Answers c n bytes count out) where
  pub says_within : count ≤ length out
  says_within = a.within

  pub run_given : c ≡ Some commands.Run → IfSome (status_given n) (Runs bytes (take count out))
  run_given e = subst (λ (x : Option Command). IfSome (status_given n) (Says x bytes (take count out))) e a.says

  pub check_given : c ≡ Some commands.Check → IfSome (status_given n) (Checks bytes (take count out))
  check_given e = subst (λ (x : Option Command). IfSome (status_given n) (Says x bytes (take count out))) e a.says

  pub verify_given : c ≡ Some commands.Verify → IfSome (status_given n) (Judges bytes (take count out))
  verify_given e = subst (λ (x : Option Command). IfSome (status_given n) (Says x bytes (take count out))) e a.says

  pub asm_given : c ≡ Some commands.Asm → IfSome (status_given n) (Assembles bytes (take count out))
  asm_given e = subst (λ (x : Option Command). IfSome (status_given n) (Says x bytes (take count out))) e a.says

  pub usage_is : n ≡ 1 → (take count out ≡ usage) × (c ≡ None)
  usage_is = a.usage

  pub no_command_is : c ≡ None → ((n ≡ 1) ⊎ (n ≡ 4)) ⊎ ((n ≡ 5) ⊎ (n ≡ 7))
  no_command_is = a.no_command

  pub nothing_is : status_given n ≡ None → count ≡ 0
  nothing_is = a.nothing

  pub short_is : n ≡ 4 → length out < length (to_write c bytes)
  short_is = a.short

  pub statuses_are : (n ≢ 3) × (n ≤ 7)
  statuses_are = a.statuses

pub gen_given : (c : Option Command) (n count : ℕ) (bytes out : List ℕ) → Answers c n bytes count out
    → IfGenerates c (λ k. IfSome (status_given n) (Generates k bytes (take count out)))
gen_given (Some (commands.Gen k)) n count bytes out a = a.says
gen_given _ n count bytes out a = tt

pub ruleset answers = (says_within, run_given, check_given, verify_given, asm_given, gen_given, usage_is, no_command_is, nothing_is, short_is, statuses_are)

-- the words are those of the command
pub for_words : (c d : Option Command) (n count : ℕ) (bytes out : List ℕ) → c ≡ d → Answers c n bytes count out → Answers d n bytes count out
for_words c d n count bytes out e a = subst (λ (x : Option Command). Answers x n bytes count out) e a

pub ruleset by_command = (for_words, refuses)
