use Rattle.std.proofs.Common.{IfSome, [], subst, ◌++◌, ◌∷◌, ◌≤◌}
use Rattle.its_core.specs.Cores.{core_at}
use Rattle.its_shared.specs.Parts.{symbols_at}
use Rattle.its_saved.specs.Saving.{core_lines, registers_of, symbol_lines}
use Rattle.its_saved.specs.StateLine as state
use Rattle.its_saving.proofs.WritingLaws.{first_broken, first_then}
use Rattle.its_saving.proofs.jobs.write_job.Goals as goal

pub write_head-requires : goal.write_head-requires
write_head-requires g c = record { console = subst (λ o. IfSome o (λ j. IfSome j.console (λ n. n ≤ 7))) c.requires.job (c.requires.writable.consoles c.args.s) }

pub returns : goal.returns
returns g c = first_then _ _ _ _ _ _ _ _ (state.Job c.args.s c.args.job.now.uname c.args.job.now.jname c.args.job.now.console ∷ [])
    ((core_lines c.args.s (core_at c.args.w.now.core c.args.s)) ++
    ((symbol_lines c.args.s (symbols_at c.args.w.now.symbols.items c.args.s)) ++ (state.Regs c.args.s (registers_of c.args.job.now) ∷ [])))
    c.in_ok-write_head.was c.write_head.ensures
    (first_then _ _ _ _ _ _ _ _ (core_lines c.args.s (core_at c.args.w.now.core c.args.s))
    ((symbol_lines c.args.s (symbols_at c.args.w.now.symbols.items c.args.s)) ++ (state.Regs c.args.s (registers_of c.args.job.now) ∷ []))
    c.in_ok-write_core.was c.write_core.ensures
    (first_then _ _ _ _ _ _ _ _ (symbol_lines c.args.s (symbols_at c.args.w.now.symbols.items c.args.s))
    (state.Regs c.args.s (registers_of c.args.job.now) ∷ []) c.in_ok-write_symbols.was c.write_symbols.ensures c.write_registers.ensures))

pub returns-in_err-write_head : goal.returns-in_err-write_head
returns-in_err-write_head g c = first_broken _ _ _ _ _ _ _ (state.Job c.args.s c.args.job.now.uname c.args.job.now.jname c.args.job.now.console ∷ [])
    ((core_lines c.args.s (core_at c.args.w.now.core c.args.s)) ++
    ((symbol_lines c.args.s (symbols_at c.args.w.now.symbols.items c.args.s)) ++ (state.Regs c.args.s (registers_of c.args.job.now) ∷ [])))
    c.in_err-write_head.was c.write_head.ensures c.from_residual.ensures.0

pub returns-in_err-write_core : goal.returns-in_err-write_core
returns-in_err-write_core g c = first_then _ _ _ _ _ _ _ _ (state.Job c.args.s c.args.job.now.uname c.args.job.now.jname c.args.job.now.console ∷ [])
    ((core_lines c.args.s (core_at c.args.w.now.core c.args.s)) ++
    ((symbol_lines c.args.s (symbols_at c.args.w.now.symbols.items c.args.s)) ++ (state.Regs c.args.s (registers_of c.args.job.now) ∷ [])))
    c.in_ok-write_head.was c.write_head.ensures
    (first_broken _ _ _ _ _ _ _ (core_lines c.args.s (core_at c.args.w.now.core c.args.s))
    ((symbol_lines c.args.s (symbols_at c.args.w.now.symbols.items c.args.s)) ++ (state.Regs c.args.s (registers_of c.args.job.now) ∷ []))
    c.in_err-write_core.was c.write_core.ensures c.from_residual-in_err-write_core.ensures.0)

pub returns-in_err-write_symbols : goal.returns-in_err-write_symbols
returns-in_err-write_symbols g c = first_then _ _ _ _ _ _ _ _
    (state.Job c.args.s c.args.job.now.uname c.args.job.now.jname c.args.job.now.console ∷ [])
    ((core_lines c.args.s (core_at c.args.w.now.core c.args.s)) ++
    ((symbol_lines c.args.s (symbols_at c.args.w.now.symbols.items c.args.s)) ++ (state.Regs c.args.s (registers_of c.args.job.now) ∷ [])))
    c.in_ok-write_head.was c.write_head.ensures
    (first_then _ _ _ _ _ _ _ _ (core_lines c.args.s (core_at c.args.w.now.core c.args.s))
    ((symbol_lines c.args.s (symbols_at c.args.w.now.symbols.items c.args.s)) ++ (state.Regs c.args.s (registers_of c.args.job.now) ∷ []))
    c.in_ok-write_core.was c.write_core.ensures
    (first_broken _ _ _ _ _ _ _ (symbol_lines c.args.s (symbols_at c.args.w.now.symbols.items c.args.s))
    (state.Regs c.args.s (registers_of c.args.job.now) ∷ []) c.in_err-write_symbols.was c.write_symbols.ensures
    c.from_residual-in_err-write_symbols.ensures.0))
