-- What the site and the block of a call are: its numbers fit, and its block has a first word and a
-- name.
use Rattle.std.specs.Prelude.{◌≡◌, ◌≤◌, ◌%◌, ◌^◌, ℕ, zero, suc, ◌+◌, Bool, true, false, None, List, [], ◌∷◌, ◌++◌, length, Result, Ok, Err, IfOk}
use Rattle.std.proofs.Common.{arith, ap, subst, sym, ◌∙◌}
use Rattle.std.proofs.lemmas.List.{length-append}
use Rattle.its_word.specs.ArrayVec.{ArrayVec}
use Rattle.its_word.specs.Core.{Core}
use Rattle.its_word.specs.declared.access.Fault.{Fault}
use Rattle.its_records.specs.declared.calls.Site.{Site}
use Rattle.its_stepped.specs.TwoParts.{items_of, parse, parse_by, parse_of}
use Rattle.its_plain.specs.Call.Decode.{argument_words, block_at, checked, has_bit_0, is_legal, parsed, up_to_last}
use Rattle.its_plain.specs.Unit.Trace.{Traced, also, goes_on, word}
pub use Rattle.its_plain.proofs.FitsLaws.{site_fits}

-- what holds of the value of a second part, whatever the first gives
then_ok : {X Y : Type 0} (P : Y → Type 0) (rs ts : List ℕ) (r : Result X Fault) (rest : X → Traced Y) → ((x : X) → IfOk (rest x).answer P)
    → IfOk (goes_on rs ts r rest).answer P
then_ok P rs ts (Ok x) rest h = h x
then_ok P rs ts (Err f) rest h = tt

-- a block with its first word and its name
abbrev Named : ArrayVec ℕ → Type 0
Named b = 2 ≤ length b.items

last_named : (t : Bool) (rest : List ℕ → Traced (ArrayVec ℕ)) (seen : List ℕ) → 2 ≤ length seen
    → ((ws : List ℕ) → 2 ≤ length ws → IfOk (rest ws).answer Named)
    → IfOk (up_to_last t rest seen).answer Named
last_named true rest seen n h = n
last_named false rest seen n h = h seen n

arguments_named : (n : ℕ) (c : Core) (a : ℕ) (seen : List ℕ) → 2 ≤ length seen → IfOk (argument_words n c a seen).answer Named
unfolding argument_words also
arguments_named zero c a seen h = h
arguments_named (suc n) c a seen h =
    let w = word c (a % 2 ^ 18) in
    let go = λ (ws : List ℕ) (l : 2 ≤ length ws). arguments_named n c (a + 1) ws l in
    then_ok Named w.reads w.tests w.answer _
    (λ v. let l = length-append seen (v ∷ []) in last_named (has_bit_0 v) (λ ws. argument_words n c (a + 1) ws) (seen ++ v ∷ []) (omega arith) go)

block_named : (c : Core) (e : ℕ) → IfOk (block_at c e).answer Named
unfolding block_at also
block_named c e =
    let v = word c (e % 2 ^ 18) in
    let w = word c ((e + 1) % 2 ^ 18) in
    then_ok Named v.reads v.tests v.answer _
    (λ first. then_ok Named w.reads w.tests w.answer _ (λ name. arguments_named 8 c (e + 2) (first ∷ name ∷ []) (omega arith)))

checked_named : (t : Bool) (b : ArrayVec ℕ) → Named b → IfOk (checked t b).answer Named
checked_named true b h = h
checked_named false b h = tt

parsed_named : (c : Core) (e : ℕ) → IfOk (parsed c e).answer Named
unfolding parsed also
parsed_named c e = go (block_at c e).answer (block_named c e)
  where
    go : (r : Result (ArrayVec ℕ) Fault) → IfOk r Named → IfOk
        (goes_on (block_at c e).reads (block_at c e).tests r (λ b. checked (is_legal b.items) b)).answer Named
    go (Ok b) h = checked_named (is_legal b.items) b h
    go (Err f) h = tt

items_named : (r : Result (ArrayVec ℕ) Fault) (b : List ℕ) → IfOk r Named → items_of r ≡ Ok b → 2 ≤ length b
items_named (Ok a) b h e = let is : a.items ≡ b = cc in subst (λ ws. 2 ≤ length ws) is h
items_named (Err f) b h e = cc

pub block_words : (c : Core) (s : Site) (b : List ℕ) → parse c s ≡ Ok b → s.channel ≡ None → 2 ≤ length b
unfolding parse parse_of
block_words c s b e n = items_named (parsed c s.e).answer b (parsed_named c s.e) (ap (λ o. items_of (parse_by c s o)) (sym n) ∙ e)
