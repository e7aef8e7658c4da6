-- SIOT is stopped by the first of its tests that holds, or moves the byte to which the next pointer
-- points.
use Rattle.std.specs.Prelude.{◌≡◌, ◌<◌, ◌^◌, ℕ, Bool, true, not, Option, None, IfSome, IfOk, is_some, Result, Ok, Err}
use Rattle.std.proofs.Common.{sym, ◌∙◌, ap, subst}
use Rattle.its_word.specs.Byte.{has_size}
use Rattle.its_records.specs.declared.calls.Ask.{Ask}
use Rattle.its_records.specs.declared.jobs.Job.{Job}
use Rattle.its_frame.specs.declared.decision.Decision.{Decision}
use Rattle.its_plain.specs.Call.Arguments.{input}
use Rattle.its_plain.specs.Call.Transfer.{next_pointer, siot_by, siot_tests}
use Rattle.its_plain.specs.Machine.View.{View}
use Rattle.its_shared.specs.Called.{first_of}
use Rattle.its_shared.proofs.StopLaws.{few_left, next_left, siot_goes, siot_stops}
use Rattle.call_basic.specs.Parts.{stop_in, stop_of}
use Rattle.call_basic.specs.declared.transfer.Stop.{Stop}

-- with `b` for whether its channel is at its end
module _ (v : View) (j : Job) (a : Ask) (words b : Bool) (r : Result ℕ Stop)
    (h : stop_in j a r ≡ first_of (siot_tests v a (input a 1) (input a 2) words b)) where
  none_holds : (n : ℕ) → r ≡ Ok n → first_of (siot_tests v a (input a 1) (input a 2) words b) ≡ None
  none_holds n e = sym h ∙ ap (stop_in j a) e

  next_is : (n : ℕ) → r ≡ Ok n → IfOk r (λ n. n ≡ next_pointer (input a 1)) → n ≡ next_pointer (input a 1)
  next_is n e i = subst (λ (x : Result ℕ Stop). IfOk x (λ n. n ≡ next_pointer (input a 1))) e i

  pub part_stops : (at_end : Bool) (s : Stop) (moves : Decision) → b ≡ at_end → r ≡ Err s → stop_of j a s ≡ siot_by v a words at_end moves
  part_stops at_end s moves end e = siot_stops v a words at_end b moves end (stop_of j a s) (sym h ∙ ap (stop_in j a) e)

  pub part_moves : (at_end : Bool) (n : ℕ) (moves : ℕ → Decision) (d : Decision) → b ≡ at_end → r ≡ Ok n
      → IfOk r (λ n. n ≡ next_pointer (input a 1)) → d ≡ moves n
      → d ≡ siot_by v a words at_end (moves (next_pointer (input a 1)))
  part_moves at_end n moves d end e i is =
      is ∙ ap moves (next_is n e i) ∙ siot_goes v a words at_end b (moves (next_pointer (input a 1))) end (none_holds n e)

  pub part_sized : (n : ℕ) → r ≡ Ok n → IfOk r (λ n. n ≡ next_pointer (input a 1)) → has_size n ≡ true
  part_sized n e i = ap has_size (next_is n e i) ∙ next_left v a words b (none_holds n e)

pub part_few : (v : View) (j : Job) (a : Ask) (b : Bool) (r : Result ℕ Stop) (at n : ℕ) (o : Option ℕ)
    → stop_in j a r ≡ first_of (siot_tests v a (input a 1) (input a 2) true b) → r ≡ Ok n
    → is_some o ≡ not b → IfSome o (λ w. at < 2 ^ 18) → at < 2 ^ 18
part_few v j a b r at n o h e is few = few_left v a at o b is (sym h ∙ ap (stop_in j a) e) few
