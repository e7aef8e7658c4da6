use Rattle.std.proofs.Common.{◌^◌, arith, subst}
use Rattle.its_saved.specs.Readable.{AllBelow}
use Rattle.its_saving.proofs.BoundLaws.{all_below}
use Rattle.its_saving.proofs.keeping.keep_entry.Goals as goal

pub returns : goal.returns
returns c = record {
  names = subst (AllBelow (2 ^ 36)) c.names.ensures c.keep_three.ensures;
  words = all_below _ _ (let l = c.length.ensures in omega arith) c.keep_text.ensures;
}
