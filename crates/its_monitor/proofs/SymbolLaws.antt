-- VERSION and SYM.
use Rattle.std.specs.Prelude.{◌≡◌, ◌<◌, ◌^◌, ℕ, Bool, true, false, Option, None, IfSome, List, [], ◌∷◌, ◌++◌, Ok, Err, is_some, length, nat_lt, slice_index_or, refl}
use Rattle.std.proofs.Common.{sym, ◌∙◌, ap, subst, inl, inr}
use Rattle.std.proofs.lemmas.Bool.{cases_eq}
use Rattle.its_world.proofs.MadeLaws.{empty_raw}
use Rattle.its_records.specs.Tree.{no_job}
use Rattle.its_word.specs.Limits.{most_symbols}
use Rattle.its_records.specs.declared.session.Event.TheVariants as events
use Rattle.its_records.specs.declared.session.Refusal.{Refusal}
use Rattle.its_records.specs.declared.session.Refusal.TheVariants as refusals
use Rattle.its_core.specs.Cores.{core_at, clear_at}
use Rattle.its_jobs.specs.Table.{job_at, superior_at}
use Rattle.its_files.specs.Files.{directory}
use Rattle.its_plain.specs.Machine.{Symbol, Whole}
use Rattle.its_plain.specs.Operator.{no_block, Does, nobody, quietly}
use Rattle.its_plain.specs.Operator.Lines.{operate, Done, lined}
use Rattle.its_plain.specs.Operator.Clock.{clock_end}
use Rattle.its_plain.specs.Operator.Symbols.{with_symbol, with_symbol_kept_if, with_symbol_kept_of, with_symbol_kept}
use Rattle.its_plain.specs.Operator.Version.{with_version}
use Rattle.its_pipes.specs.Pipes.{piped}
use Rattle.its_plain.proofs.MachineLaws.{machine_is}
use Rattle.its_stepped.specs.State.{State, plain}
use Rattle.its_stepped.specs.Lines.{after_calm, with_raw}
use Rattle.its_stepped.proofs.Lining.LineLaws.{empty_plain, version_lifted}
use Rattle.its_stepped.proofs.Lining.RefusalLaws.{symbol_alike}
use Rattle.its_plain.specs.Operator.Clock.{clock_end}
use Rattle.its_world.specs.Tidy.{channel_by, Across, Tidy}
use Rattle.its_world.specs.World.{alarm_at, frame_at, console_at, holder_at, symbols_at, raw_of, raw_at, mark_of, state_of, SymbolsBecome, VersionBecomes}
use Rattle.its_world.specs.declared.world.World.{World}
use Rattle.its_shared.proofs.AcrossLaws.{across_table}
use Rattle.its_shared.proofs.VersionLaws.{version_set, same_version}
use Rattle.its_world.proofs.StateLaws.{state_is, job_of, changed_at, raw_same}
use Rattle.its_records.specs.Refusals.{reason_of}
use Rattle.its_monitor.specs.Kept.{Kept, Lands, Refused}
use Rattle.its_monitor.proofs.KeptLaws.{error_is, Made, made_sound, made_plain, made_forest, made_timed, made_alarmed}
use Rattle.its_monitor.proofs.RegisterLaws.{block_of}
use Rattle.its_monitor.proofs.StartLaws.{quiet_by}
use Rattle.its_tick.proofs.WaitsLaws.{kept_is, raw_is, raw_is_none}
use Rattle.its_world.proofs.ContentsLaws.{core_as, jobs_as, frames_as, consoles_as, holders_as, files_as, clock_as, version_as, symbols_as, alarms_as, pipes_as}

-- VERSION: if a slot has a job, nothing changes
pub version_stays : (w : World) (v : ℕ) (b : Bool) → b ≡ no_job (job_at w.jobs) → b ≡ false
    → Lands (state_of w) (state_of w) (Ok (with_version (state_of w).raw v))
version_stays w v b e f = record { is = ap Ok (same_version (state_of w).raw v (empty_raw w ∙ sym e ∙ f)); rest = refl }

pub version_same : (w : World) (v : ℕ) (b : Bool) → b ≡ no_job (job_at w.jobs) → b ≡ false → with_version (plain (state_of w)) v ≡ plain (state_of w)
version_same w v b e f = same_version (plain (state_of w)) v (empty_plain (state_of w) ∙ empty_raw w ∙ sym e ∙ f)

-- and else the version is set
version_raw : (old new : World) (v k : ℕ) → VersionBecomes old new v
    → raw_at new.files new.core new.jobs new.alarms.items k ≡ raw_at old.files old.core old.jobs old.alarms.items k
version_raw old new v k b =
    ap (λ t. raw_of t (core_at new.core k) (superior_at new.jobs k) (alarm_at new.alarms.items k) (job_at new.jobs k)) (files_as b.rest)
    ∙ ap (λ t. raw_of old.files (core_at t k) (superior_at new.jobs k) (alarm_at new.alarms.items k) (job_at new.jobs k)) (core_as b.rest)
    ∙ ap (λ t. raw_of old.files (core_at old.core k) (slice_index_or t k None) (alarm_at new.alarms.items k) (job_at new.jobs k)) b.superiors
    ∙ ap (λ t. raw_of old.files (core_at old.core k) (superior_at old.jobs k) (alarm_at t.items k) (job_at new.jobs k)) (alarms_as b.rest)
    ∙ ap (raw_of old.files (core_at old.core k) (superior_at old.jobs k) (alarm_at old.alarms.items k)) (b.jobs.each k)

version_state : (old new : World) (v : ℕ) → VersionBecomes old new v → state_of new ≡ with_raw (state_of old) (record (state_of old).raw { version = v })
unfolding state_of
version_state old new v b = state_is _ _
    (machine_is _ _ (λ k. version_raw old new v k b) (λ k. ap (λ l. console_at l.items k) (consoles_as b.rest))
    (λ k. ap (λ l. holder_at l k) (holders_as b.rest)) (ap directory (files_as b.rest)) (clock_as b.rest) (version_as b.rest)
    (λ k. ap (λ l. symbols_at l.items k) (symbols_as b.rest)) (λ k. ap (λ p. piped p k) (pipes_as b.rest)))
    (λ k. ap (λ l. frame_at l.items k) (frames_as b.rest)) (λ k. ap (λ t. clear_at t k) (core_as b.rest)) (ap mark_of (files_as b.rest))

module _ (old new : World) (v : ℕ) (b : Bool) (test : b ≡ no_job (job_at old.jobs)) (empty : b ≡ true) where
  none_raw : no_job (state_of old).raw.jobs ≡ true
  none_raw = empty_raw old ∙ sym test ∙ empty

  pub version_done : VersionBecomes old new v → Lands (state_of old) (state_of new) (Ok (with_version (state_of old).raw v))
  version_done h =
      let to = version_state old new v h in
      record {
        is = ap Ok (version_set (state_of old).raw v none_raw ∙ ap (λ (x : State). x.raw) (sym to));
        rest = to ∙ ap (λ (x : State). with_raw (state_of old) x.raw) (sym to);
      }

  version_made : VersionBecomes old new v → Made (state_of old) (state_of new) no_block (events.Version v)
  unfolding after_calm lined operate
  version_made h =
      let to = version_state old new v h in
      record {
        out = [];
        touched = nobody;
        block = no_block;
        is = ap (λ m. Done (Does m [] nobody no_block)) (version_set (state_of old).raw v none_raw ∙ ap (λ (x : State). x.raw) (sym to));
        rest = (version_done h).rest;
      }

  pub version_plain : VersionBecomes old new v → with_version (plain (state_of old)) v ≡ plain (state_of new)
  version_plain h =
      version_lifted (state_of old) v ∙ ap (λ m. plain (with_raw (state_of old) m)) (version_set (state_of old).raw v none_raw)
      ∙ ap plain (sym (version_state old new v h))

  version_jobs : VersionBecomes old new v → (k : ℕ) → (plain (state_of new)).jobs k ≡ (plain (state_of old)).jobs k
  unfolding plain
  version_jobs h k = ap (λ (x : State). (plain x).jobs k) (version_state old new v h)

  version_tidy : VersionBecomes old new v → Tidy old → Tidy new
  version_tidy b tidy = record {
    blank = λ k h. ap (λ c. core_at c k) (core_as b.rest) ∙ tidy.blank k (sym (b.jobs.each k) ∙ h);
    quiet = λ k h. ap (λ l. alarm_at l.items k) (alarms_as b.rest) ∙ tidy.quiet k (sym (b.jobs.each k) ∙ h);
    timed = subst (λ t. t < clock_end) (sym (clock_as b.rest)) tidy.timed;
    across = subst (λ s. Across s new.jobs) (sym (files_as b.rest))
        (across_table old.files old.jobs new.jobs tidy.across (λ k n. ap (λ o. channel_by o n) (b.jobs.each k)));
    nameless = λ k h. ap (λ l. symbols_at l.items k) (symbols_as b.rest) ∙ tidy.nameless k (sym (b.jobs.each k) ∙ h);
    on_lists = b.on_lists tidy.on_lists;
  }

  pub version_kept : Kept old → VersionBecomes old new v → Kept new
  version_kept kept h =
      kept_is new
      (made_sound (state_of old) (state_of new) no_block (events.Version v) kept.sound (version_made h))
      (made_forest (state_of old) (state_of new) no_block (events.Version v) kept.sound kept.forest (version_made h))
      (version_tidy h kept.tidy)
      (λ k. subst (λ (o : Option Whole). IfSome o (λ q. q.job.pc < 2 ^ 18)) (sym (version_jobs h k)) (kept.addressed k))
      (λ k. subst (λ (o : Option Whole). IfSome o (λ q. IfSome q.job.console (λ c. c < 8))) (sym (version_jobs h k)) (kept.consoled k))
      (made_timed (state_of old) (state_of new) no_block (events.Version v) kept.sound kept.timed (version_made h))
      (made_alarmed (state_of old) (state_of new) no_block (events.Version v) kept.sound kept.forest kept.alarmed (version_made h))

-- SYM
pub symbols_raw : (w : World) (s : ℕ) → (state_of w).raw.symbols s ≡ symbols_at w.symbols.items s
unfolding state_of
symbols_raw w s = refl

symbols_state : (old new : World) (s : ℕ) (x : Symbol) → SymbolsBecome old new s (symbols_at old.symbols.items s ++ x ∷ [])
    → state_of new ≡ with_raw (state_of old) (with_symbol (state_of old).raw s x)
unfolding state_of
symbols_state old new s x b = state_is _ _
    (machine_is _ _ (raw_same old new (files_as b.rest) (core_as b.rest) (jobs_as b.rest) (alarms_as b.rest))
    (λ k. ap (λ l. console_at l.items k) (consoles_as b.rest)) (λ k. ap (λ l. holder_at l k) (holders_as b.rest))
    (ap directory (files_as b.rest)) (clock_as b.rest) (version_as b.rest)
    (changed_at _ _ s _ b.symbols.here b.symbols.others) (λ k. ap (λ p. piped p k) (pipes_as b.rest)))
    (λ k. ap (λ l. frame_at l.items k) (frames_as b.rest)) (λ k. ap (λ t. clear_at t k) (core_as b.rest)) (ap mark_of (files_as b.rest))

symbol_on : (w : World) (s : ℕ) (x : Symbol) (b : Bool) → is_some (job_at w.jobs s) ≡ true → b ≡ nat_lt (length (symbols_at w.symbols.items s)) most_symbols
    → with_symbol_kept (state_of w).raw s x.0 x.1 ≡ with_symbol_kept_if (state_of w).raw s x b
unfolding with_symbol_kept
symbol_on w s x b some is =
    let had = job_of (job_at w.jobs s) some in
    ap (with_symbol_kept_of (state_of w).raw s x) (raw_is w s had.0 had.1)
    ∙ ap (λ (ss : List Symbol). with_symbol_kept_if (state_of w).raw s x (nat_lt (length ss) most_symbols)) (symbols_raw w s)
    ∙ ap (with_symbol_kept_if (state_of w).raw s x) (sym is)

module _ (old new : World) (s name a : ℕ) (b : Bool) where
  pub symbol_done : is_some (job_at old.jobs s) ≡ true → b ≡ nat_lt (length (symbols_at old.symbols.items s)) most_symbols → b ≡ true
      → SymbolsBecome old new s (symbols_at old.symbols.items s ++ (name, a) ∷ [])
      → Lands (state_of old) (state_of new) (with_symbol_kept (state_of old).raw s name a)
  symbol_done some is t c =
      let e = symbols_state old new s (name, a) c in
      record {
        is = symbol_on old s (name, a) b some is ∙ ap (with_symbol_kept_if (state_of old).raw s (name, a)) t ∙ ap (λ (x : State). Ok x.raw) (sym e);
        rest = e ∙ ap (λ (x : State). with_raw (state_of old) x.raw) (sym e);
      }

  symbol_made : is_some (job_at old.jobs s) ≡ true → b ≡ nat_lt (length (symbols_at old.symbols.items s)) most_symbols → b ≡ true
      → SymbolsBecome old new s (symbols_at old.symbols.items s ++ (name, a) ∷ []) → Made (state_of old) (state_of new) (block_of s) (events.Symbol name a)
  unfolding after_calm lined operate
  symbol_made some is t c =
      let d = symbol_done some is t c in
      record { out = []; touched = nobody; block = block_of s; is = ap (λ r. Done (quietly (block_of s) r)) d.is; rest = d.rest }

  pub symbol_plain : Kept old → is_some (job_at old.jobs s) ≡ true → b ≡ nat_lt (length (symbols_at old.symbols.items s)) most_symbols → b ≡ true
      → SymbolsBecome old new s (symbols_at old.symbols.items s ++ (name, a) ∷ [])
      → with_symbol_kept (plain (state_of old)) s name a ≡ Ok (plain (state_of new))
  unfolding lined operate
  symbol_plain kept some is t c =
      let m = symbol_made some is t c in
      quiet_by (with_symbol_kept (plain (state_of old)) s name a) (plain (state_of new)) m.out m.touched (block_of s) m.block
      (made_plain (state_of old) (state_of new) (block_of s) (events.Symbol name a) kept.sound m)

  symbol_jobs : SymbolsBecome old new s (symbols_at old.symbols.items s ++ (name, a) ∷ []) → (k : ℕ)
      → (plain (state_of new)).jobs k ≡ (plain (state_of old)).jobs k
  unfolding plain
  symbol_jobs c k = ap (λ (x : State). (plain x).jobs k) (symbols_state old new s (name, a) c)

  symbol_tidy : is_some (job_at old.jobs s) ≡ true → SymbolsBecome old new s (symbols_at old.symbols.items s ++ (name, a) ∷ []) → Tidy old → Tidy new
  symbol_tidy some c tidy = record {
    blank = λ k h. ap (λ t. core_at t k) (core_as c.rest) ∙ tidy.blank k (sym (ap (λ t. job_at t k) (jobs_as c.rest)) ∙ h);
    quiet = λ k h. ap (λ l. alarm_at l.items k) (alarms_as c.rest) ∙ tidy.quiet k (sym (ap (λ t. job_at t k) (jobs_as c.rest)) ∙ h);
    timed = subst (λ t. t < clock_end) (sym (clock_as c.rest)) tidy.timed;
    across = subst (λ t. Across t new.jobs) (sym (files_as c.rest)) (subst (Across old.files) (sym (jobs_as c.rest)) tidy.across);
    nameless = λ k h. elim (cases_eq k s) [
      | inl is ↦ let none : is_some (job_at old.jobs s) ≡ false =
          ap is_some (sym (ap (λ t. job_at t s) (jobs_as c.rest)) ∙ sym (ap (job_at new.jobs) is) ∙ h) in absurd cc
      | inr ne ↦ c.symbols.others k ne ∙ tidy.nameless k (sym (ap (λ t. job_at t k) (jobs_as c.rest)) ∙ h)
    ];
    on_lists = c.on_lists tidy.on_lists;
  }

  pub symbol_keeps : Kept old → is_some (job_at old.jobs s) ≡ true → b ≡ nat_lt (length (symbols_at old.symbols.items s)) most_symbols → b ≡ true
      → SymbolsBecome old new s (symbols_at old.symbols.items s ++ (name, a) ∷ []) → Kept new
  symbol_keeps kept some is t c =
      kept_is new
      (made_sound (state_of old) (state_of new) (block_of s) (events.Symbol name a) kept.sound (symbol_made some is t c))
      (made_forest (state_of old) (state_of new) (block_of s) (events.Symbol name a) kept.sound kept.forest (symbol_made some is t c))
      (symbol_tidy some c kept.tidy)
      (λ k. subst (λ (o : Option Whole). IfSome o (λ q. q.job.pc < 2 ^ 18)) (sym (symbol_jobs c k)) (kept.addressed k))
      (λ k. subst (λ (o : Option Whole). IfSome o (λ q. IfSome q.job.console (λ i. i < 8))) (sym (symbol_jobs c k)) (kept.consoled k))
      (made_timed (state_of old) (state_of new) (block_of s) (events.Symbol name a) kept.sound kept.timed (symbol_made some is t c))
      (made_alarmed (state_of old) (state_of new) (block_of s) (events.Symbol name a) kept.sound kept.forest kept.alarmed (symbol_made some is t c))

refused_here : (w : World) (s name a : ℕ) (x : Refusal) → with_symbol_kept (state_of w).raw s name a ≡ Err (reason_of x)
    → Refused (state_of w) (state_of w) (λ m. with_symbol_kept m s name a) x
refused_here w s name a x h = record {
  plain = error_is (with_symbol_kept (plain (state_of w)) s name a) (with_symbol_kept (state_of w).raw s name a) (reason_of x)
      (symbol_alike (state_of w) s name a) h;
  raw = h;
  calmed = h;
}

pub symbol_full : (w : World) (s name a : ℕ) (b : Bool) → is_some (job_at w.jobs s) ≡ true
    → b ≡ nat_lt (length (symbols_at w.symbols.items s)) most_symbols → b ≡ false
    → Refused (state_of w) (state_of w) (λ m. with_symbol_kept m s name a) refusals.Full
symbol_full w s name a b some is f = refused_here w s name a refusals.Full
    (symbol_on w s (name, a) b some is ∙ ap (with_symbol_kept_if (state_of w).raw s (name, a)) f)

pub symbol_none : (w : World) (s name a : ℕ) (x : Refusal) → x ≡ refusals.NoJob → job_at w.jobs s ≡ None
    → Refused (state_of w) (state_of w) (λ m. with_symbol_kept m s name a) x
unfolding with_symbol_kept
symbol_none w s name a x is h = refused_here w s name a x (ap (with_symbol_kept_of (state_of w).raw s (name, a)) (raw_is_none w s h)
    ∙ ap (λ y. Err (reason_of y)) (sym is))
