-- The lines of the words that LIST found, one after another.
use Rattle.std.specs.Prelude.{◌≡◌, ◌<◌, ℕ, ◌+◌, Option, List, ◌∷◌, length, drop, slice_index}
use Rattle.std.proofs.Common.{sym, ◌∙◌, ap, subst, arith}
use Rattle.std.proofs.lemmas.List.{drop_all}
use Rattle.its_print.specs.Printing.{Line, Listed, listed, text}
use Rattle.its_top.specs.declared.sessions.flow.Flow.TheVariants as flows
use Rattle.its_top.specs.Answer.{Tells, WritesSo}
use Rattle.its_top.proofs.FilingLaws.{writes_end}
use Rattle.its_top.proofs.LoadingLaws.{front}

pub listing_next : (s a k w : ℕ) (ws : List ℕ) (lines : List Line) (old now : Option (List ℕ)) → k < length ws → w ≡ slice_index ws k
    → WritesSo lines (listed s a (drop k ws)) old now
    → WritesSo lines (Listed s a w ∷ listed s (a + 1) (drop (k + 1) ws)) old now
listing_next s a k w ws lines old now h is so =
    subst (λ ls. WritesSo lines ls old now) (ap (listed s a) (front ws k h) ∙ ap (λ x. Listed s a x ∷ listed s (a + 1) (drop (k + 1) ws)) (sym is)) so

pub listing_end : (s a k : ℕ) (ws : List ℕ) (lines : List Line) (old now : Option (List ℕ)) → k ≡ length ws
    → WritesSo lines (listed s a (drop k ws)) old now → Tells flows.On flows.On (text lines) old now
listing_end s a k ws lines old now e so = writes_end lines (listed s a (drop k ws)) old now (ap (listed s a) (drop_all k ws (omega (arith, e)))) so
