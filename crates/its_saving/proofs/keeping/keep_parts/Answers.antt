use Rattle.std.proofs.Common.{arith}
use Rattle.its_saving.proofs.keeping.keep_parts.Goals as goal

pub returns : goal.returns
returns c = record {
  cores = c.mapped-pages.ensures.whole;
  pages = let n = c.mapped-pages.ensures.number in let m = c.mapped-pages.ensures.most in omega arith;
  tree = c.tree.ensures;
  store = c.seen.ensures.whole;
  room = let b = c.seen.ensures.blocks in omega arith;
  past_links = c.bounds.ensures.numbers;
  few_words = c.bounds.ensures.words;
  past_holders = c.past_holders.ensures;
  each_slot = c.keep_slots.ensures;
  each_file = c.keep_files.ensures;
  each_link = c.keep_links.ensures;
  each_console = c.keep_consoles.ensures;
}
