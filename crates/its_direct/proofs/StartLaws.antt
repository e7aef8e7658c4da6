-- A machine that is opened.
use Rattle.std.specs.Prelude.{◌≡◌, ◌<◌, ◌^◌, ℕ, Option, None, IfSome, [], option_map}
use Rattle.std.proofs.Common.{ap, sym, subst, lit<}
use Rattle.its_word.specs.Console.{quiet_console}
use Rattle.its_records.specs.declared.jobs.Job.{Job}
use Rattle.its_core.specs.Cores.{Reserved, core_at, IsEmpty}
use Rattle.its_files.specs.Files.{Store, directory, no_files}
use Rattle.its_jobs.specs.Table.{superior_at, NoJobs}
use Rattle.its_pipes.specs.Pipes.{piped}
use Rattle.its_plain.specs.Machine.{no_machine}
use Rattle.its_plain.specs.Operator.Clock.{clock_end}
use Rattle.its_plain.proofs.MachineLaws.{machine_is}
use Rattle.its_shared.specs.Across.{Across}
use Rattle.its_shared.specs.Parts.{alarm_at, console_at, holder_at, symbols_at, raw_of}
use Rattle.its_shared.proofs.AcrossLaws.{no_across}
use Rattle.its_direct.specs.Plain.{machine_of, Tidy}
use Rattle.its_direct.specs.declared.plain.Plain.{Plain}

-- the machine that is opened is that of the start
pub open_machine : (p : Plain) → IsEmpty p.core → NoJobs p.jobs → ((c : ℕ) → console_at p.consoles.items c ≡ quiet_console)
    → ((c : ℕ) → holder_at p.holders c ≡ None)
    → p.files ≡ no_files → p.clock ≡ 0 → p.version ≡ 1 → ((k : ℕ) → symbols_at p.symbols.items k ≡ []) → ((l : ℕ) → piped p.pipes l ≡ None)
    → machine_of p ≡ no_machine
unfolding machine_of no_machine
open_machine p e n consoles holders files c v symbols links =
    machine_is _ _ (λ k. ap (raw_of p.files (core_at p.core k) (superior_at p.jobs k) (alarm_at p.alarms.items k)) (n.jobs k)) consoles
    holders (ap directory files) c v symbols links

pub open_tidy : (p : Plain) → IsEmpty p.core → NoJobs p.jobs → p.files ≡ no_files → p.clock ≡ 0 → ((k : ℕ) → alarm_at p.alarms.items k ≡ None)
    → ((k : ℕ) → symbols_at p.symbols.items k ≡ []) → Tidy p
open_tidy p e n files c alarms symbols = record {
  unreserved = λ k. ap (option_map (λ (r : Reserved). r.clear)) (e.reserved k);
  unmarked = ap (λ (s : Store). s.mark) files;
  across = subst (λ (s : Store). Across s p.jobs) (sym files) (no_across p.jobs n);
  blank = λ k h. e.cores k;
  quiet = λ k h. alarms k;
  nameless = λ k h. symbols k;
  addressed = λ k. subst (λ (o : Option Job). IfSome o (λ j. j.pc < 2 ^ 18)) (sym (n.jobs k)) tt;
  timed = subst (λ t. t < clock_end) (sym c) (lit< tt);
}
