-- How the arguments of a call are gathered: each is found, and what it gives goes to its place in
-- what the call asks for.
-- No promise rests on this.
use Rattle.std.specs.Prelude.{◌≡◌, ◌<◌, ℕ, ◌+◌, List, [], ◌∷◌, ◌++◌, length, Option, Some, None, Ok, slice_get}
use Rattle.std.specs.List.{filter_map}
use Rattle.std.specs.Option.{option_or}
use Rattle.its_word.specs.Core.{Core}
use Rattle.its_records.specs.declared.calls.Arg.{Arg}
use Rattle.its_records.specs.declared.calls.Arg.TheVariants.{Input, Output, ErrorAt, Control}
use Rattle.its_records.specs.declared.calls.Ask.{Ask}
use Rattle.its_records.specs.declared.calls.Kind.{Kind}
use Rattle.its_records.specs.declared.calls.Kind.TheVariants as kinds
use Rattle.its_records.specs.declared.calls.Placed.{Placed}
use Rattle.its_records.specs.declared.calls.Source.TheVariants.{Held, Immediate}
use Rattle.its_word.specs.Word.{pair_of}
use Rattle.its_plain.specs.Call.Decode.{argument, arguments, control_of, error_at_of, input_of, operand_of, output_of}
use Rattle.its_decode.specs.declared.arguments.Progress.{Progress}

-- the argument of a kind whose address is e, if there is one
abbrev pub argument_for : Kind → ℕ → Arg
argument_for kinds.Input e = Input (Held e)
argument_for kinds.Immediate e = Input (Immediate (pair_of 0 e))
argument_for kinds.Output e = Output e
argument_for kinds.ErrorAt e = ErrorAt e
argument_for kinds.Control e = Control (Held e)
argument_for kinds.ImmediateControl e = Control (Immediate (pair_of 0 e))
argument_for kinds.Other e = Output e

-- a list with one more item, if there is one
abbrev pub Longer : {X : Type 0} → Option X → List X → List X → Type 0
Longer None old new = new ≡ old
Longer (Some x) old new = new ≡ old ++ x ∷ []

-- the first of some values, and their number, with one more, if there is one
abbrev pub First : {X : Type 0} → Option X → Option X → Option X → ℕ → ℕ → Type 0
First None old new n m = (new ≡ old) × (m ≡ n)
First (Some x) old new n m = (new ≡ option_or old (Some x)) × (m ≡ n + 1)

-- what a call asks for with one argument more
pub record Added (c : Core) (x : Arg) (old new : Ask) (before after : Progress) : Type 0 where
  pub inputs : Longer (input_of c x) old.inputs.items new.inputs.items
  pub outputs : Longer (output_of x) old.outputs.items new.outputs.items
  pub errors : First (error_at_of x) old.error new.error before.errors after.errors
  pub controls : First (control_of c x) old.control new.control before.controls after.controls
  pub operand : Longer (operand_of x) old.operand.items new.operand.items

-- there is room for one argument more
pub record HasRoom (a : Ask) (p : Progress) : Type 0 where
  pub inputs : length a.inputs.items < 8
  pub outputs : length a.outputs.items < 8
  pub operand : length a.operand.items < 16
  pub errors : p.errors < 8
  pub controls : p.controls < 8

-- the argument of a word is found and added
pub record Fetched (c : Core) (w : ℕ) (old new : Ask) (before after : Progress) : Type 0 where
  pub placed : Placed
  pub answer : Ok placed ≡ (argument c w before.used).answer
  pub used : after.used ≡ placed.used
  pub added : Added c placed.argument old new before after

-- what a call asks for of which these arguments are found
pub record Holds (c : Core) (xs : List Arg) (a : Ask) (p : Progress) : Type 0 where
  pub inputs : a.inputs.items ≡ filter_map (input_of c) xs
  pub outputs : a.outputs.items ≡ filter_map output_of xs
  pub error : a.error ≡ slice_get (filter_map error_at_of xs) 0
  pub errors : p.errors ≡ length (filter_map error_at_of xs)
  pub control : a.control ≡ slice_get (filter_map (control_of c) xs) 0
  pub controls : p.controls ≡ length (filter_map (control_of c) xs)
  pub operand : a.operand.items ≡ filter_map operand_of xs

-- the arguments of all words are found
pub record Gathered (c : Core) (words : List ℕ) (used : ℕ) (old new : Ask) (p : Progress) : Type 0 where
  pub found : List Arg
  pub answer : (arguments words c used []).answer ≡ Ok (record { items = found })
  pub reads : new.decode.items ≡ old.decode.items ++ (arguments words c used []).reads
  pub holds : Holds c found new p
