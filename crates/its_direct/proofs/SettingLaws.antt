-- The lines VERSION, RO, SYM and PEEK.
use Rattle.std.specs.Prelude.{◌≡◌, ◌≢◌, ◌<◌, ◌++◌, ◌∷◌, [], ℕ, Bool, true, false, Option, Some, None, is_some, List, Ok, Err, length, nat_lt, refl}
use Rattle.std.proofs.Common.{ap, sym, subst, ◌∙◌}
use Rattle.its_pipes.specs.Pipes.{piped}
use Rattle.its_direct.proofs.LoadLaws.{empty_is}
use Rattle.its_records.specs.Tree.{no_job}
use Rattle.its_word.specs.Core.{Page, page_of, with_page, marked}
use Rattle.its_word.specs.Limits.{slots, most_symbols}
use Rattle.its_records.specs.declared.jobs.Job.{Job}
use Rattle.its_records.specs.declared.session.Reason.TheVariants as reasons
use Rattle.its_core.specs.Cores.{core_at, clear_at, mark_of}
use Rattle.its_files.specs.Files.{Store, directory}
use Rattle.its_jobs.specs.Table.{job_at, superior_in}
use Rattle.its_plain.specs.Machine.Change.{with_protection}
use Rattle.its_plain.specs.Machine.{Symbol, Whole, Machine, with_job}
use Rattle.its_plain.specs.Operator.Clock.{clock_end}
use Rattle.its_plain.specs.Operator.Jobs.{on_job, with_page_protected_in, with_page_protected}
use Rattle.its_plain.specs.Operator.Symbols.{with_symbol, with_symbol_kept_if, with_symbol_kept_of, with_symbol_kept}
use Rattle.its_plain.specs.Operator.Version.{with_version}
use Rattle.its_plain.proofs.MachineLaws.{machine_is}
use Rattle.its_shared.specs.Across.{channel_by, Across}
use Rattle.its_shared.specs.Parts.{alarm_at, console_at, holder_at, symbols_at, raw_of, raw_at}
use Rattle.its_shared.proofs.AcrossLaws.{across_table}
use Rattle.its_shared.proofs.PartLaws.{changed_at}
use Rattle.its_shared.proofs.VersionLaws.{version_set, same_version}
use Rattle.its_direct.specs.Plain.{machine_of, no_slots, Tidy, CoreBecomes}
use Rattle.its_direct.specs.Lines.{one_slot, Operates, Stands, Keeps, SymbolsBecome, VersionBecomes}
use Rattle.its_direct.specs.declared.plain.Plain.{Plain}
use Rattle.its_direct.proofs.LineLaws.{only_touched, put_slot}
use Rattle.its_direct.proofs.SlotLaws.{IsPlaced, core_machine, touched_machine, touched_tidy}
use Rattle.its_direct.proofs.TouchLaws.{none_touched}
use Rattle.its_direct.proofs.UserLaws.{own_of, own_is, nobody_is}
use Rattle.its_direct.proofs.ContentsLaws.{core_as, jobs_as, consoles_as, holders_as, files_as, clock_as, alarms_as, version_as, symbols_as, pipes_as, place_as}

-- VERSION
version_machine : (old new : Plain) (v : ℕ) → VersionBecomes old new v → machine_of new ≡ record (machine_of old) { version = v }
unfolding machine_of
version_machine old new v b = machine_is _ _
    (λ k t. raw_of (b.rest t).files (core_at (b.rest t).core k) (superior_in (b.superiors t) k) (alarm_at (b.rest t).alarms.items k) (b.jobs.each k t))
    (λ k. ap (λ l. console_at l.items k) (consoles_as b.rest)) (λ k. ap (λ l. holder_at l k) (holders_as b.rest))
    (ap directory (files_as b.rest)) (clock_as b.rest) (version_as b.rest) (λ k. ap (λ l. symbols_at l.items k) (symbols_as b.rest))
    (λ k. ap (λ l. piped l k) (pipes_as b.rest))

pub version_put : (old put new : Plain) (v : ℕ) (b : Bool) → b ≡ no_job (job_at old.jobs) → b ≡ true → VersionBecomes old put v
    → new ≡ record put { touched = no_slots }
    → Stands old new (with_version (machine_of old) v)
version_put old put new v b is empty h t = record {
  machine = touched_machine put new no_slots t ∙ version_machine old put v h ∙ sym (version_set (machine_of old) v (empty_is old ∙ sym is ∙ empty));
  touched = none_touched new.touched (ap (λ (p : Plain). p.touched) t);
  place = ap (λ (p : Plain). p.place) t ∙ place_as h.rest;
}

pub version_stays : (old new : Plain) (v : ℕ) (b : Bool) → b ≡ no_job (job_at old.jobs) → b ≡ false
    → new ≡ record old { touched = no_slots } → Stands old new (with_version (machine_of old) v)
version_stays old new v b is full t = record {
  machine = touched_machine old new no_slots t ∙ sym (same_version (machine_of old) v (empty_is old ∙ sym is ∙ full));
  touched = none_touched new.touched (ap (λ (p : Plain). p.touched) t);
  place = ap (λ (p : Plain). p.place) t;
}

version_keeps : (old new : Plain) (v : ℕ) → VersionBecomes old new v → Tidy old → Tidy new
version_keeps old new v b tidy = record {
  unreserved = λ k. ap (λ m. clear_at m k) (core_as b.rest) ∙ tidy.unreserved k;
  unmarked = ap (λ (s : Store). s.mark) (files_as b.rest) ∙ tidy.unmarked;
  across = subst (λ (s : Store). Across s new.jobs) (sym (files_as b.rest))
      (across_table old.files old.jobs new.jobs tidy.across (λ k n. ap (λ o. channel_by o n) (b.jobs.each k)));
  blank = λ k h. ap (λ m. core_at m k) (core_as b.rest) ∙ tidy.blank k (sym (b.jobs.each k) ∙ h);
  quiet = λ k h. ap (λ l. alarm_at l.items k) (alarms_as b.rest) ∙ tidy.quiet k (sym (b.jobs.each k) ∙ h);
  nameless = λ k h. ap (λ l. symbols_at l.items k) (symbols_as b.rest) ∙ tidy.nameless k (sym (b.jobs.each k) ∙ h);
  addressed = λ k. subst IsPlaced (sym (b.jobs.each k)) (tidy.addressed k);
  timed = subst (λ t. t < clock_end) (sym (clock_as b.rest)) tidy.timed;
}

pub version_tidy : (old put new : Plain) (v : ℕ) → VersionBecomes old put v → new ≡ record put { touched = no_slots } → Tidy old → Tidy new
version_tidy old put new v b t tidy = touched_tidy put new no_slots t (version_keeps old put v b tidy)

-- RO
pub page_some : (o : Option Page) (m : Option Bool) → m ≡ mark_of o → is_some m ≡ is_some o
page_some o m e = ap is_some e ∙ go o
  where
    go : (o : Option Page) → is_some (mark_of o) ≡ is_some o
    go (Some p) = refl
    go None = refl

page_own : (p : Plain) (s k : ℕ) (i : Job) → job_at p.jobs s ≡ Some i
    → with_page_protected (machine_of p) s k ≡ with_page_protected_in (machine_of p) s k (own_of p s i) (page_of (core_at p.core s) k)
unfolding with_page_protected
page_own p s k i had = ap (on_job (machine_of p) s (λ q. with_page_protected_in (machine_of p) s k q (page_of q.core k))) (own_is p s i had)

page_here : (m : Machine) (s k : ℕ) (q : Whole) (o : Option Page) → is_some o ≡ true
    → with_page_protected_in m s k q o ≡ Ok (with_job m s (with_protection k false q))
page_here m s k q (Some p) h = refl
page_here m s k q None h = cc

page_gone : (m : Machine) (s k : ℕ) (q : Whole) (o : Option Page) → is_some o ≡ false → with_page_protected_in m s k q o ≡ Err reasons.NoPage
page_gone m s k q (Some p) h = cc
page_gone m s k q None h = refl

pub read_only_done : (old put new : Plain) (s k : ℕ) (i : Job) (b : Bool) → s < slots → job_at old.jobs s ≡ Some i
    → b ≡ is_some (page_of (core_at old.core s) k) → b ≡ true
    → CoreBecomes old put s (with_page (core_at old.core s) k (marked (page_of (core_at old.core s) k) false)) → new ≡ record put { touched = one_slot s }
    → Operates old new s (with_page_protected (machine_of old) s k)
read_only_done old put new s k i b l had has there r e = record {
  is = page_own old s k i had ∙ page_here (machine_of old) s k (own_of old s i) (page_of (core_at old.core s) k) (sym has ∙ there)
      ∙ ap Ok (sym (touched_machine put new (one_slot s) e ∙ core_machine old put s
      (with_page (core_at old.core s) k (marked (page_of (core_at old.core s) k) false)) i r had
      ∙ put_slot (machine_of old) s (own_of old s i) (λ q. record q
      { core = with_page (core_at old.core s) k (marked (page_of (core_at old.core s) k) false) }) (own_is old s i had)));
  touched = only_touched put new s l e;
  place = ap (λ (p : Plain). p.place) e ∙ place_as r.aside.is;
}

pub read_only_absent : (p : Plain) (s k : ℕ) (i : Job) (o : Option Job) (b : Bool) → o ≡ job_at p.jobs s → o ≡ Some i
    → b ≡ is_some (page_of (core_at p.core s) k) → b ≡ false
    → with_page_protected (machine_of p) s k ≡ Err reasons.NoPage
read_only_absent p s k i o b is some has none = page_own p s k i (sym is ∙ some)
    ∙ page_gone (machine_of p) s k (own_of p s i) (page_of (core_at p.core s) k) (sym has ∙ none)

pub read_only_refused : (p : Plain) (s k : ℕ) (o : Option Job) → o ≡ job_at p.jobs s → o ≡ None → with_page_protected (machine_of p) s k ≡ Err reasons.NoJob
unfolding with_page_protected
read_only_refused p s k o is none = ap (on_job (machine_of p) s (λ q. with_page_protected_in (machine_of p) s k q (page_of q.core k)))
    (nobody_is p s (sym is ∙ none))

-- SYM
symbols_is : (p : Plain) (s : ℕ) → (machine_of p).symbols s ≡ symbols_at p.symbols.items s
unfolding machine_of
symbols_is p s = refl

symbols_machine : (old new : Plain) (s : ℕ) (x : Symbol) → SymbolsBecome old new s (symbols_at old.symbols.items s ++ x ∷ [])
    → machine_of new ≡ with_symbol (machine_of old) s x
unfolding machine_of
symbols_machine old new s x b = machine_is _ _
    (λ k t. raw_at (b.rest t).files (b.rest t).core (b.rest t).jobs (b.rest t).alarms.items k) (λ k. ap (λ l. console_at l.items k) (consoles_as b.rest))
    (λ k. ap (λ l. holder_at l k) (holders_as b.rest)) (ap directory (files_as b.rest)) (clock_as b.rest) (version_as b.rest)
    (changed_at _ _ s _ b.symbols.here b.symbols.others)
    (λ k. ap (λ l. piped l k) (pipes_as b.rest))

symbol_own : (p : Plain) (s name a : ℕ) (i : Job) → job_at p.jobs s ≡ Some i
    → with_symbol_kept (machine_of p) s name a ≡ with_symbol_kept_if (machine_of p) s (name, a) (nat_lt (length (symbols_at p.symbols.items s)) most_symbols)
unfolding with_symbol_kept
symbol_own p s name a i had = ap (with_symbol_kept_of (machine_of p) s (name, a)) (own_is p s i had)
    ∙ ap (λ (ss : List Symbol). with_symbol_kept_if (machine_of p) s (name, a) (nat_lt (length ss) most_symbols)) (symbols_is p s)

pub symbol_done : (old put new : Plain) (s name a : ℕ) (i : Job) (o : Option Job) (b : Bool) → o ≡ job_at old.jobs s → o ≡ Some i
    → b ≡ nat_lt (length (symbols_at old.symbols.items s)) most_symbols → b ≡ true
    → SymbolsBecome old put s (symbols_at old.symbols.items s ++ (name, a) ∷ []) → new ≡ record put { touched = no_slots }
    → Keeps old new (with_symbol_kept (machine_of old) s name a)
symbol_done old put new s name a i o b is some has room r t = record {
  is = symbol_own old s name a i (sym is ∙ some) ∙ ap (with_symbol_kept_if (machine_of old) s (name, a)) (sym has ∙ room)
      ∙ ap Ok (sym (touched_machine put new no_slots t ∙ symbols_machine old put s (name, a) r));
  touched = none_touched new.touched (ap (λ (p : Plain). p.touched) t);
  place = ap (λ (p : Plain). p.place) t ∙ place_as r.rest;
}

pub symbol_full : (p : Plain) (s name a : ℕ) (i : Job) (o : Option Job) (b : Bool) → o ≡ job_at p.jobs s → o ≡ Some i
    → b ≡ nat_lt (length (symbols_at p.symbols.items s)) most_symbols → b ≡ false
    → with_symbol_kept (machine_of p) s name a ≡ Err reasons.Full
symbol_full p s name a i o b is some has none = symbol_own p s name a i (sym is ∙ some) ∙ ap (with_symbol_kept_if (machine_of p) s (name, a)) (sym has ∙ none)

pub symbol_refused : (p : Plain) (s name a : ℕ) (o : Option Job) → o ≡ job_at p.jobs s → o ≡ None
    → with_symbol_kept (machine_of p) s name a ≡ Err reasons.NoJob
unfolding with_symbol_kept
symbol_refused p s name a o is none = ap (with_symbol_kept_of (machine_of p) s (name, a)) (nobody_is p s (sym is ∙ none))

symbols_keep : (old new : Plain) (s : ℕ) (i : Job) (ss : List Symbol) → job_at old.jobs s ≡ Some i → SymbolsBecome old new s ss → Tidy old → Tidy new
symbols_keep old new s i ss had b tidy = record {
  unreserved = λ k. ap (λ m. clear_at m k) (core_as b.rest) ∙ tidy.unreserved k;
  unmarked = ap (λ (x : Store). x.mark) (files_as b.rest) ∙ tidy.unmarked;
  across = subst (λ (x : Store). Across x new.jobs) (sym (files_as b.rest)) (subst (Across old.files) (sym (jobs_as b.rest)) tidy.across);
  blank = λ k h. ap (λ m. core_at m k) (core_as b.rest) ∙ tidy.blank k (sym (ap (λ t. job_at t k) (jobs_as b.rest)) ∙ h);
  quiet = λ k h. ap (λ l. alarm_at l.items k) (alarms_as b.rest) ∙ tidy.quiet k (sym (ap (λ t. job_at t k) (jobs_as b.rest)) ∙ h);
  nameless = λ k h. b.symbols.others k (apart k h) ∙ tidy.nameless k (sym (ap (λ t. job_at t k) (jobs_as b.rest)) ∙ h);
  addressed = λ k. subst IsPlaced (sym (ap (λ t. job_at t k) (jobs_as b.rest))) (tidy.addressed k);
  timed = subst (λ t. t < clock_end) (sym (clock_as b.rest)) tidy.timed;
}
  where
    apart : (k : ℕ) → job_at new.jobs k ≡ None → k ≢ s
    apart k h e = let wrong : None ≡ Some i = sym h ∙ ap (job_at new.jobs) e ∙ ap (λ t. job_at t s) (jobs_as b.rest) ∙ had in absurd cc

pub symbol_tidy : (old put new : Plain) (s : ℕ) (i : Job) (o : Option Job) (ss : List Symbol) → o ≡ job_at old.jobs s → o ≡ Some i
    → SymbolsBecome old put s ss → new ≡ record put { touched = no_slots }
    → Tidy old → Tidy new
symbol_tidy old put new s i o ss is some b t tidy = touched_tidy put new no_slots t (symbols_keep old put s i ss (sym is ∙ some) b tidy)

-- PEEK
pub peek_some : (p : Plain) (s : ℕ) (i : Job) (o : Option Job) → o ≡ job_at p.jobs s → o ≡ Some i → is_some ((machine_of p).jobs s) ≡ true
peek_some p s i o is some = ap is_some (own_is p s i (sym is ∙ some))

pub peek_none : (p : Plain) (s : ℕ) (o : Option Job) → o ≡ job_at p.jobs s → o ≡ None → (machine_of p).jobs s ≡ None
peek_none p s o is none = nobody_is p s (sym is ∙ none)

pub peek_stands : (old new : Plain) → new ≡ record old { touched = no_slots } → Stands old new (machine_of old)
peek_stands old new t = record {
  machine = touched_machine old new no_slots t;
  touched = none_touched new.touched (ap (λ (p : Plain). p.touched) t);
  place = ap (λ (p : Plain). p.place) t;
}
