-- CORBLK: pages made and dropped, and who may store in them (docs/CALLS.md, "Core").
-- A promise rests on this.
use Rattle.std.specs.Prelude.{if◌then◌else◌, ◌==◌, ◌&&◌, ℕ, Bool, true, false, not, List, [], ◌∷◌, nat_lt, is_some}
use Rattle.its_word.specs.Core.{Core, page_of}
use Rattle.its_word.specs.Limits.{most_pages}
use Rattle.its_records.specs.declared.calls.Ask.{Ask}
use Rattle.its_frame.specs.declared.change.Change.{Change}
use Rattle.its_frame.specs.declared.change.Change.TheVariants as changes
use Rattle.its_frame.specs.declared.decision.Decision.{Decision}
use Rattle.its_frame.specs.Errors as error
use Rattle.its_plain.specs.Machine.{On}
use Rattle.its_plain.specs.Machine.View.{View}
use Rattle.its_plain.specs.Call.Arguments.{input}
use Rattle.its_plain.specs.Call.Tests.{Test, ◌⇒◌, first, finishes, fails}
use Rattle.its_plain.specs.Call.Basic.{Party, Oneself, Nobody, Channel, party}
use Rattle.its_plain.specs.Call.Usr.{other_core}

-- CORBLK operation, job, page: operation 0 drops a page, 1 makes one of zeros, 2 makes it read
-- only, 3 makes it writable
abbrev pub page_changed : ℕ → ℕ → ℕ → Change
page_changed op s k =
    if op == 0 then changes.Unmap s k
    else (if op == 1 then changes.Map s k
    else changes.Protect s k (op == 3))

-- the highest operation and the highest page
abbrev pub highest_operation : ℕ
highest_operation = 3

abbrev pub highest_page : ℕ
highest_page = 0o377

-- a page that is to be made must not be there, and any other must; and of all jobs together there
-- are at most 1024
abbrev pub makes : ℕ → Bool
makes op = op == 1

abbrev pub has_page : Core → ℕ → Bool
has_page c k = is_some (page_of c k)

abbrev pub is_amiss : Bool → Bool → Bool
is_amiss true there = there
is_amiss false there = not there

abbrev pub page_tests : View → Ask → ℕ → Core → ℕ → List Test
page_tests v a op c k =
    nat_lt highest_page k ⇒ fails v a error.OUT_OF_RANGE
    ∷ is_amiss (makes op) (has_page c k) ⇒ fails v a error.BAD_PAGE
    ∷ (makes op && not (nat_lt v.pages most_pages)) ⇒ fails v a error.NO_CORE
    ∷ []

abbrev pub pages_of : View → Ask → ℕ → ℕ → Core → ℕ → Decision
pages_of v a op s c k = first (page_tests v a op c k) (finishes v (page_changed op s k ∷ []) [])

abbrev pub corblk_of : View → Ask → Party → Decision
corblk_of v a Oneself = pages_of v a (input a 0) v.slot v.own.core (input a 2)
corblk_of v a Nobody = fails v a error.BAD_CHANNEL
corblk_of v a (Channel (On s true at)) = pages_of v a (input a 0) s (other_core v) (input a 2)
corblk_of v a (Channel c) = fails v a error.WRONG_DEVICE

unfoldable pub corblk : View → Ask → Decision
corblk v a =
    first (nat_lt highest_operation (input a 0) ⇒ fails v a error.OUT_OF_RANGE ∷ []) (corblk_of v a (party v (input a 1)))
