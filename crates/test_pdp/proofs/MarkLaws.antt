-- A page that has no mark is absent.
use Rattle.std.proofs.Common.{◌≡◌, Option, Some, None, refl}
use Rattle.its_core.specs.Cores.{mark_of}
use Rattle.its_word.specs.Core.{Page}

pub no_page : (p : Option Page) → mark_of p ≡ None → p ≡ None
no_page None h = refl
no_page (Some p) h = cc
