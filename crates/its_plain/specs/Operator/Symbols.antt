-- The symbols of a job: SYM keeps one, and STATE shows the one that is nearest to the PC
-- (docs/SESSION.md, "The lines").
-- A promise rests on this.
use Rattle.std.specs.Prelude.{ℕ, ◌-◌, ◌&&◌, Bool, true, false, not, Option, Some, None, List, [], ◌∷◌, ◌++◌, Result, Ok, Err, cond, length, nat_lt}
use Rattle.its_word.specs.Limits.{most_symbols}
use Rattle.its_records.specs.declared.session.Reason.{Reason}
use Rattle.its_records.specs.declared.session.Reason.TheVariants.{NoJob, Full}
use Rattle.its_plain.specs.Machine.{Symbol, Whole, Machine, changed}

abbrev pub address_of : Symbol → ℕ
address_of s = s.1

-- a symbol is nearer to the PC than the nearest of those kept before it: its address is at most the
-- PC, and not below that of the other. So of symbols with the same address the one kept last is the
-- nearest
abbrev pub is_nearer : ℕ → Option Symbol → Symbol → Bool
is_nearer pc (Some best) s = not (nat_lt pc (address_of s)) && not (nat_lt (address_of s) (address_of best))
is_nearer pc None s = not (nat_lt pc (address_of s))

abbrev pub nearer : ℕ → Option Symbol → Symbol → Option Symbol
nearer pc best s = cond (is_nearer pc best s) (Some s) best

-- the nearest of some symbols and of one that was nearest before them
abbrev pub nearest_after : ℕ → Option Symbol → List Symbol → Option Symbol
nearest_after pc best [] = best
nearest_after pc best (s ∷ ss) = nearest_after pc (nearer pc best s) ss

-- the symbol of the greatest address at most the PC, the one kept last among equals
unfoldable pub nearest : ℕ → List Symbol → Option Symbol
nearest pc ss = nearest_after pc None ss

-- its name, and how far the PC is past its address
abbrev pub with_distance : ℕ → Option Symbol → Option Symbol
with_distance pc (Some s) = Some (s.0, pc - address_of s)
with_distance pc None = None

abbrev pub symbol_shown : ℕ → List Symbol → Option Symbol
symbol_shown pc ss = with_distance pc (nearest pc ss)

-- SYM: the job keeps a symbol, the last, if it has fewer than the most
abbrev pub with_symbol : Machine → ℕ → Symbol → Machine
with_symbol m s x = record m { symbols = changed m.symbols s (m.symbols s ++ x ∷ []) }

abbrev pub with_symbol_kept_if : Machine → ℕ → Symbol → Bool → Result Machine Reason
with_symbol_kept_if m s x true = Ok (with_symbol m s x)
with_symbol_kept_if m s x false = Err Full

abbrev pub with_symbol_kept_of : Machine → ℕ → Symbol → Option Whole → Result Machine Reason
with_symbol_kept_of m s x (Some q) = with_symbol_kept_if m s x (nat_lt (length (m.symbols s)) most_symbols)
with_symbol_kept_of m s x None = Err NoJob

unfoldable pub with_symbol_kept : Machine → ℕ → ℕ → ℕ → Result Machine Reason
with_symbol_kept m s name a = with_symbol_kept_of m s (name, a) (m.jobs s)
