-- What a call asks for, when its arguments are found; and the whole decoding from its two parts.
use Rattle.std.proofs.Common.{◌≡◌, ℕ, List, [], ◌++◌, length, Ok, Err, refl, sym, ◌∙◌, ap}
use Rattle.its_word.specs.ArrayVec.{ArrayVec}
use Rattle.its_word.specs.Core.{Core}
use Rattle.its_word.specs.declared.access.Fault.{Fault}
use Rattle.its_records.specs.declared.calls.Arg.{Arg}
use Rattle.its_records.specs.declared.calls.Ask.{Ask}
use Rattle.its_records.specs.declared.calls.Site.{Site}
use Rattle.its_plain.specs.Unit.Plans.{given}
use Rattle.its_plain.specs.Call.Decode.{arguments, ask, ask_of, error_by, exceeds, name_of, row_named, words_of}
use Rattle.its_stepped.specs.TwoParts.{block_places, fetch_of, fetched, parse_of}
use Rattle.its_stepped.proofs.Frame.TwoLaws.{ask_after_parse, ask_unparsed}
use Rattle.its_decode.specs.declared.arguments.Progress.{Progress}
use Rattle.its_decode.specs.Gathering.{Gathered, Holds}

asked_is : (c : Core) (decode block : List ℕ) (xs : List Arg) (a : Ask) (p : Progress) → Holds c xs a p → a.decode.items ≡ decode
    → record a {
      name = name_of block;
      fail = error_by (row_named (name_of block)) (length a.inputs.items) (length a.outputs.items)
          (exceeds p.errors p.controls (words_of block));
    }
    ≡ ask_of c decode (record { block = block; arguments = xs })
unfolding ask_of
asked_is c decode block xs a p h d =
    λ t. record {
      name = name_of block;
      fail = error_by (row_named (name_of block)) (length (h.inputs t)) (length (h.outputs t)) (exceeds (h.errors t) (h.controls t) (words_of block));
      inputs = record { items = h.inputs t };
      outputs = record { items = h.outputs t };
      error = h.error t;
      control = h.control t;
      decode = record { items = d t };
      operand = record { items = h.operand t };
    }

pub fetched_ok : (c : Core) (s : Site) (b : ArrayVec ℕ) (old new : Ask) (p : Progress) (words : List ℕ) (name fail : ℕ) → Gathered c words s.used old new p
    → words ≡ words_of b.items → old.decode.items ≡ s.decode.items ++ block_places s.e b.items → name ≡ name_of b.items
    → fail ≡ error_by (row_named name) (length new.inputs.items) (length new.outputs.items) (exceeds p.errors p.controls words)
    → fetched c s b ≡ Ok (record new { name = name; fail = fail })
unfolding fetched
fetched_ok c s b old new p words name fail g ws d n f =
    let reads = (arguments (words_of b.items) c s.used []).reads in
    let answer = ap (λ xs. (arguments xs c s.used []).answer) (sym ws) ∙ g.answer in
    let all = g.reads ∙ ap (λ ps. ps ++ (arguments words c s.used []).reads) d
    ∙ ap (λ xs. s.decode.items ++ block_places s.e b.items ++ (arguments xs c s.used []).reads) ws in
    let named : record new { name = name; fail = fail }
    ≡ record new {
      name = name_of b.items;
      fail = error_by (row_named (name_of b.items)) (length new.inputs.items)
          (length new.outputs.items) (exceeds p.errors p.controls (words_of b.items));
    } =
    ap (λ (v : ℕ). record new { name = name; fail = v }) f
    ∙ ap (λ (v : ℕ). record new {
      name = v;
      fail = error_by (row_named v) (length new.inputs.items) (length new.outputs.items)
          (exceeds p.errors p.controls words);
    }) n
    ∙ ap (λ (v : List ℕ). record new {
      name = name_of b.items;
      fail = error_by (row_named (name_of b.items)) (length new.inputs.items) (length new.outputs.items) (exceeds p.errors p.controls v);
    }) ws
    in
    ap (λ r. given r (λ xs. Ok (ask_of c (s.decode.items ++ block_places s.e b.items ++ reads) (record { block = b.items; arguments = xs.items })))) answer
    ∙ ap Ok (sym (named ∙ asked_is c _ b.items g.found new p g.holds all))

pub fetched_err : (c : Core) (s : Site) (b : ArrayVec ℕ) (words : List ℕ) (f : Fault) → (arguments words c s.used []).answer ≡ Err f
    → words ≡ words_of b.items → fetched c s b ≡ Err f
unfolding fetched
fetched_err c s b words f h ws =
    let reads = (arguments (words_of b.items) c s.used []).reads in
    ap (λ r. given r (λ xs. Ok (ask_of c (s.decode.items ++ block_places s.e b.items ++ reads) (record { block = b.items; arguments = xs.items }))))
    (ap (λ xs. (arguments xs c s.used []).answer) (sym ws) ∙ h)

-- a fault of the first part is that of the decoding
pub unparsed : (c : Core) (s : Site) (f : Fault) → parse_of c s ≡ Err f → ask c s ≡ Err f
unparsed c s f h = ask_unparsed c s (Err f) f (sym h) refl

-- the second part is the decoding
pub both_parts : (c : Core) (s : Site) (b : ArrayVec ℕ) (a : Ask) → fetch_of c s b ≡ Ok a → parse_of c s ≡ Ok b → ask c s ≡ Ok a
both_parts c s b a e h = ask_after_parse c s b h ∙ e
