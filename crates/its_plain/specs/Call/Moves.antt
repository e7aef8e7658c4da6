-- The bytes that the changes of a call move between a console and its job, and the words that they
-- move between a link and its job (docs/MACHINE.md, "The ledger").
-- A promise rests on this.
use Rattle.std.specs.Prelude.{ℕ, List, [], ◌∷◌, ◌++◌}
use Rattle.its_frame.specs.declared.change.Change.{Change}
use Rattle.its_frame.specs.declared.change.Change.TheVariants as changes
use Rattle.its_plain.specs.Machine.{Machine}
use Rattle.its_plain.specs.Call.Link.{words_in}
use Rattle.its_plain.specs.Machine.Change.{effect}

-- a byte or word that a step moves: from the input of a console, or from a link, into the job of a
-- slot; or from that job to the output of a console, or to a link
pub data Way : Type 0 where
  Inward : Way
  Outward : Way

pub data Device : Type 0 where
  AtConsole : ℕ → Device
  AtLink : ℕ → Device

pub record Move : Type 0 where
  pub slot : ℕ
  pub device : Device
  pub way : Way
  pub byte : ℕ

-- the byte that a change of slot j's call moves: the first that waits there, if there is one, or
-- the one that is put
abbrev pub first_move : ℕ → Device → List ℕ → List Move
first_move j d [] = []
first_move j d (b ∷ bs) = record { slot = j; device = d; way = Inward; byte = b } ∷ []

abbrev pub moves_of : Change → ℕ → Machine → List Move
moves_of (changes.Take c) j m = first_move j (AtConsole c) (m.consoles c).input
moves_of (changes.Put c b) j m = record { slot = j; device = AtConsole c; way = Outward; byte = b } ∷ []
moves_of (changes.Receive l) j m = first_move j (AtLink l) (words_in (m.links l))
moves_of (changes.Send l w) j m = record { slot = j; device = AtLink l; way = Outward; byte = w } ∷ []
moves_of _ j m = []

-- those of several changes, each on the machine after those before it
abbrev pub moves_of_all : List Change → ℕ → Machine → List Move
moves_of_all [] j m = []
moves_of_all (c ∷ cs) j m = moves_of c j m ++ moves_of_all cs j (effect c j m)
