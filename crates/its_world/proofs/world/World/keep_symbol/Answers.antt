use Rattle.std.specs.Prelude.{◌++◌, ◌∷◌, [], slice_set}
use Rattle.std.proofs.Common.{refl, arith}
use Rattle.its_word.specs.Only.{Only}
use Rattle.its_world.specs.World.{symbols_at}
use Rattle.its_world.proofs.PlaceLaws.{on_lists_alike}
use Rattle.its_world.proofs.SymbolLaws.{list_gains}
use Rattle.its_world.proofs.world.World.keep_symbol.Goals as goal

pub returns : goal.returns
returns c =
    let lists = c.args.self.now.symbols.items in
    let places = c.args.self.now.lists in
    let within = (rw c.index.ensures.value at c.index.ensures.below) in
    let gains : Only (symbols_at lists) (symbols_at (slice_set lists c.index.result c.push.new.self)) c.args.slot
    (symbols_at lists c.args.slot ++ (c.args.name, c.args.a) ∷ []) =
    list_gains lists c.args.slot c.index.result c.index_mut.result.now c.push.new.self (c.args.name, c.args.a) (omega arith)
    c.index.ensures.value c.index_mut.ensures.value c.push.ensures.items in
    record {
      symbols = search;
      rest = refl;
      on_lists = on_lists_alike c.args.self.now _ refl refl refl refl;
    }
