-- OPEN of LNK, if none of its tests holds.
use Rattle.std.specs.Prelude.{◌==◌, ◌&&◌, ◌≡◌, ◌≤◌, ℕ, Bool, true, false, not, [], ◌∷◌, nat_lt, unwrap_or, refl}
use Rattle.std.proofs.Common.{sym, ◌∙◌, ap}
use Rattle.std.proofs.lemmas.Bool.{le-ltb}
use Rattle.its_records.specs.declared.calls.Ask.{Ask}
use Rattle.its_frame.specs.Errors as error
use Rattle.its_frame.specs.declared.decision.Decision.{Decision}
use Rattle.its_plain.specs.Call.Arguments.{input}
use Rattle.its_plain.specs.Call.Basic.{channel_at, is_shut}
use Rattle.its_plain.specs.Call.Link.{link_named, opens_end, opens_link}
use Rattle.its_plain.specs.Call.Tests.{◌⇒◌, first, fails}
use Rattle.its_plain.specs.Machine.View.{View}

none_holds : (v : View) (a : Ask) (free large : Bool) (d : Decision) → free ≡ true → large ≡ false
    → d ≡ first (not free ⇒ fails v a error.BAD_CHANNEL ∷ large ⇒ fails v a error.OUT_OF_RANGE ∷ []) d
none_holds v a true false d f l = refl
none_holds v a true true d f l = cc
none_holds v a false large d f l = cc

pub opens_past : (v : View) (a : Ask) (n number control : ℕ) (free : Bool) (d : Decision) → n ≡ number → number ≡ input a 0 → control ≡ unwrap_or a.control 0
    → free ≡ (nat_lt number 16 && is_shut (channel_at v.own.channels number)) → free ≡ true → control ≤ 1
    → d ≡ opens_end v a n (control == 1) (input a 2) (input a 3) (link_named v.links (input a 2) (input a 3)) → d ≡ opens_link v a
unfolding opens_link
opens_past v a n number control free d at is same has f low e =
    e ∙ (λ t. opens_end v a ((at ∙ is) t) (same t == 1) (input a 2) (input a 3) (link_named v.links (input a 2) (input a 3)))
    ∙ none_holds v a (nat_lt (input a 0) 16 && is_shut (channel_at v.own.channels (input a 0))) (nat_lt 1 (unwrap_or a.control 0))
    (opens_end v a (input a 0) (unwrap_or a.control 0 == 1) (input a 2) (input a 3) (link_named v.links (input a 2) (input a 3)))
    (ap (λ k. nat_lt k 16 && is_shut (channel_at v.own.channels k)) (sym is) ∙ sym has ∙ f) (ap (nat_lt 1) (sym same) ∙ le-ltb 1 control low)
