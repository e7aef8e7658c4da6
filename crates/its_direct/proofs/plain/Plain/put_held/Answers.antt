use Rattle.its_plain.specs.Call.Arguments.{with_new_values}
use Rattle.its_direct.specs.Plain.{machine_of}
use Rattle.its_direct.proofs.MovedLaws.{held_can, held_put}
use Rattle.its_direct.proofs.plain.Plain.put_held.Goals as goal

pub store-requires-clause-can : goal.store-requires-clause-can
store-requires-clause-can c =
    held_can (machine_of c.args.self.now) c.args.slot (with_new_values c.args.ask.now c.args.values.now) c.args.held c.in-Some.h _ _ _
    c.within.ensures c.requires.job c.in-Some.is c.requires.fits
    c.deposited-store.ensures

pub returns-in-Some-clause-row : goal.returns-in-Some-clause-row
returns-in-Some-clause-row c =
    held_put c.args.self.now _ c.args.slot _ (with_new_values c.args.ask.now c.args.values.now) c.args.held c.in-Some.h _ c.requires.tidy
    c.in-Some.is c.new_input-pointer.ensures c.deposited-store.ensures
    c.store.ensures.row
