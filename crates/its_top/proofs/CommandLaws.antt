-- What the parse of the words gives.
use Rattle.std.specs.Prelude.{◌≡◌, ◌≢◌, ◌<◌, ◌&&◌, ◌≤◌, ◌^◌, nat_le, ℕ, zero, suc, Bool, true, false, Option, Some, None, Result, Ok, Err, IfOk, IfErr, List, [], ◌∷◌, map, length, get_or, slice_get, option_map, option_and_then, codes, find, refl}
use Rattle.std.proofs.Common.{sym, ◌∙◌, ap, subst, arith, inl, inr}
use Rattle.std.specs.Borrow.{Bor}
use Rattle.std.specs.List.{list_any}
use Rattle.std.specs.Str.{bytes_eq}
use Rattle.std.proofs.lemmas.Bool.{cases_Bool}
use Rattle.std.proofs.lemmas.Bool.Decides.{nat_tests}
use Rattle.its_word.specs.Text.{is_octal, octal_value}
use Rattle.clap.specs.Words.{App, Text, HasMatchesOf, first_of, first_value, found_of, is_simple, kind_of, matches_of, new_app, new_rule, rows_of, with_rule}
use Rattle.clap.specs.Facts.{Entry}
use Rattle.clap.specs.Walk.{row_of}
use Rattle.clap.specs.Kinds.{FailsBy, HasKind}
use Rattle.clap.specs.Faults.{fault_of, is_simple_and_free}
use Rattle.clap.specs.Simple.{on_top}
use Rattle.clap.specs.declared.parser.matches.ArgMatches.{ArgMatches}
use Rattle.clap.specs.declared.parser.matches.Found.{Found}
use Rattle.clap.specs.declared.error.Error.{Error}
use Rattle.clap.specs.declared.error.kind.ErrorKind.TheVariants as kinds
use Rattle.clap.proofs.OnLiterals.{clap_on_literals}
use Rattle.its_top.specs.declared.commands.words.Command.{Command}
use Rattle.its_top.specs.Commands.{bare_command, counted_command, command_from, command_of, is_option, is_rounds, IfGenerates}
use Rattle.its_records.proofs.TreeLaws.{and_false}

-- the command line that is parsed
abbrev pub named : App
named = on_top (λ s. record s { no_binary_name = true; disable_help_flag = true; disable_version_flag = true }) (new_app (codes "its"))

abbrev pub program : App
program = with_rule (with_rule named (record (new_rule (codes "command")) { required = true })) (new_rule (codes "number"))

-- it is simple
pub simple : is_simple program ≡ true
unfolding clap_on_literals
simple = refl

pub simple_and_free : is_simple_and_free program ≡ true
unfolding clap_on_literals
simple_and_free = refl

fault_none : fault_of program [] ≡ kinds.MissingRequiredArgument ∷ []
unfolding clap_on_literals
fault_none = refl

fault_one : (w : Text) → is_option w ≡ false → fault_of program (w ∷ []) ≡ []
unfolding clap_on_literals
fault_one [] h = refl
fault_one (b ∷ bs) h = simp h

fault_two : (w n : Text) → is_option w ≡ false → is_option n ≡ false → fault_of program (w ∷ n ∷ []) ≡ []
unfolding clap_on_literals
fault_two [] [] h k = refl
fault_two (b ∷ bs) [] h k = simp h
fault_two [] (c ∷ cs) h k = simp k
fault_two (b ∷ bs) (c ∷ cs) h k = simp (h, k)

rows_one : (w : Text) → is_option w ≡ false → (first_of (codes "command") (matches_of program (w ∷ [])) ≡ Some w)
    × (first_of (codes "number") (matches_of program (w ∷ [])) ≡ None)
unfolding clap_on_literals
rows_one [] h = (refl, refl)
rows_one (b ∷ bs) h = (simp h, simp h)

rows_two : (w n : Text) → is_option w ≡ false → is_option n ≡ false
    → (first_of (codes "command") (matches_of program (w ∷ n ∷ [])) ≡ Some w) × (first_of (codes "number") (matches_of program (w ∷ n ∷ [])) ≡ Some n)
unfolding clap_on_literals
rows_two [] [] h k = (refl, refl)
rows_two (b ∷ bs) [] h k = (simp h, simp h)
rows_two [] (c ∷ cs) h k = (simp k, simp k)
rows_two (b ∷ bs) (c ∷ cs) h k = (simp (h, k), simp (h, k))

fault_more : (w n v : Text) (ws : List Text) → is_option w ≡ false → is_option n ≡ false → is_option v ≡ false
    → fault_of program (w ∷ n ∷ v ∷ ws) ≡ kinds.UnknownArgument ∷ []
unfolding clap_on_literals
fault_more [] [] [] ws h k l = refl
fault_more (b ∷ bs) [] [] ws h k l = simp h
fault_more [] (c ∷ cs) [] ws h k l = simp k
fault_more (b ∷ bs) (c ∷ cs) [] ws h k l = simp (h, k)
fault_more [] [] (d ∷ ds) ws h k l = simp l
fault_more (b ∷ bs) [] (d ∷ ds) ws h k l = simp (h, l)
fault_more [] (c ∷ cs) (d ∷ ds) ws h k l = simp (k, l)
fault_more (b ∷ bs) (c ∷ cs) (d ∷ ds) ws h k l = simp (h, k, l)

-- the first value of an id is that of its row
value_is : (f : Found) (id : Text) → first_value f id ≡ first_of id (rows_of f)
value_is f id = in_entries f.entries.items
  where
    first_text : (vs : List (Bor Text)) → option_map (λ s. s.now) (slice_get vs 0) ≡ slice_get (map (λ s. s.now) vs) 0
    first_text [] = refl
    first_text (v ∷ vs) = refl

    in_entries : (es : List Entry) → option_and_then (λ a. option_map (λ s. s.now) (slice_get a.vals.items 0))
        (option_map (λ e. e.1) (find (λ e. bytes_eq e.0.now id) es)) ≡ first_of id (map row_of es)
    in_entries [] = refl
    in_entries (e ∷ es) = elim (cases_Bool (bytes_eq e.0.now id)) [
      | inl t ↦ rw t (first_text e.1.vals.items)
      | inr t ↦ rw t (in_entries es)
    ]

no_option : (w : Text) (ws : List Text) → list_any is_option (w ∷ ws) ≡ false → (is_option w ≡ false) × (list_any is_option ws ≡ false)
no_option w ws h = elim (cases_Bool (is_option w)) [
  | inl t ↦ absurd (let k : true ≡ false = sym (rw t refl) ∙ h in cc)
  | inr t ↦ (t, rw t at h)
]

-- a parse that succeeds gives the command that the words are
pub parse_found : (ws : List Text) (m : ArgMatches) → list_any is_option ws ≡ false → fault_of program ws ≡ [] → HasMatchesOf program ws m
    → command_from (first_value (found_of m) (codes "command")) (first_value (found_of m) (codes "number")) ≡ command_of ws
unfolding command_of
parse_found [] m h f g = absurd (let k : kinds.MissingRequiredArgument ∷ [] ≡ [] = sym fault_none ∙ f in cc)
parse_found (w ∷ []) m h f g =
    let r = rows_one w (no_option w [] h).0 in
    rw (value_is (found_of m) (codes "command"), value_is (found_of m) (codes "number"), (g simple).0, r.0, r.1) refl
parse_found (w ∷ n ∷ []) m h f g =
    let a = no_option w (n ∷ []) h in
    let r = rows_two w n a.0 (no_option n [] a.1).0 in
    rw (value_is (found_of m) (codes "command"), value_is (found_of m) (codes "number"), (g simple).0, r.0, r.1) refl
parse_found (w ∷ n ∷ v ∷ ws) m h f g =
    let a = no_option w (n ∷ v ∷ ws) h in
    let b = no_option n (v ∷ ws) a.1 in
    let c = no_option v ws b.1 in
    absurd (let k : kinds.UnknownArgument ∷ [] ≡ [] = sym (fault_more w n v ws a.0 b.0 c.0) ∙ f in cc)

no_kind : (e : Error) → HasKind [] e → kind_of e ≢ kinds.OutOfMemory → ⊥
no_kind e (inl o) g = g o
no_kind e (inr b) g = b

-- one that fails, except for want of memory, is of words that are none
pub parse_refused : (ws : List Text) (e : Error) → list_any is_option ws ≡ false → HasKind (fault_of program ws) e
    → kind_of e ≢ kinds.OutOfMemory → command_of ws ≡ None
unfolding command_of
parse_refused [] e h f g = refl
parse_refused (w ∷ []) e h f g = absurd (no_kind e (subst (λ k. HasKind k e) (fault_one w (no_option w [] h).0) f) g)
parse_refused (w ∷ n ∷ []) e h f g =
    let a = no_option w (n ∷ []) h in
    absurd (no_kind e (subst (λ k. HasKind k e) (fault_two w n a.0 (no_option n [] a.1).0) f) g)
parse_refused (w ∷ n ∷ v ∷ ws) e h f g = refl

pub any_found : {X : Type 0} (p : List ℕ → Bool) (f : X → List ℕ) (xs : List X) (i : ℕ) (x : X) → i < length xs → x ≡ get_or xs i x
    → p (f x) ≡ true → list_any p (map f xs) ≡ true
any_found p f [] i x h e t = absurd (omega arith)
any_found p f (y ∷ ys) zero x h e t = let k : p (f y) ≡ true = subst (λ z. p (f z) ≡ true) e t in rw k refl
any_found p f (y ∷ ys) (suc i) x h e t = elim (cases_Bool (p (f y))) [
  | inl k ↦ rw k refl
  | inr k ↦ rw k (any_found p f ys i x (omega arith) e t)
]

-- what each setting makes of the command
abbrev pub unnamed : App → App
unnamed = on_top (λ s. record s { no_binary_name = true })

abbrev pub helpless : App → App
helpless = on_top (λ s. record s { disable_help_flag = true })

abbrev pub unversioned : App → App
unversioned = on_top (λ s. record s { disable_version_flag = true })

-- by the answer of the parse
pub found_by : (ws : List Text) (r : Result ArgMatches Error) → list_any is_option ws ≡ false → FailsBy (fault_of program ws) r
    → IfOk r (HasMatchesOf program ws)
    → IfOk r (λ m. command_from (first_value (found_of m) (codes "command")) (first_value (found_of m) (codes "number")) ≡ command_of ws)
found_by ws (Ok m) h f g = parse_found ws m h f g
found_by ws (Err e) h f g = tt

pub refused_by : (ws : List Text) (r : Result ArgMatches Error) → list_any is_option ws ≡ false → FailsBy (fault_of program ws) r
    → IfErr r (λ e. kind_of e ≢ kinds.OutOfMemory → command_of ws ≡ None)
refused_by ws (Ok m) h f = tt
refused_by ws (Err e) h f = parse_refused ws e h f

-- a word that begins with `-` is no number, and no name of a command
no_digits : (bs : List ℕ) → is_octal (45 ∷ bs) ≡ false
unfolding is_octal
no_digits bs = and_false (nat_le 1 (length (45 ∷ bs)) && nat_le (length (45 ∷ bs)) 12)

not_bare : (w : Text) → is_option w ≡ true → bare_command w ≡ None
not_bare [] h = cc
not_bare (b ∷ bs) h = let e : b ≡ 45 = grind (arith, nat_tests) in rw e refl

not_counted : (w n : Text) → is_option w ≡ true → counted_command w n ≡ None
not_counted [] n h = cc
not_counted (b ∷ bs) n h = let e : b ≡ 45 = grind (arith, nat_tests) in rw e refl

not_rounds : (w n : Text) → is_option n ≡ true → counted_command w n ≡ None
not_rounds w [] h = cc
not_rounds w (b ∷ bs) h =
    let e : b ≡ 45 = grind (arith, nat_tests) in
    let k : is_octal (b ∷ bs) ≡ false = ap (λ x. is_octal (x ∷ bs)) e ∙ no_digits bs in
    elim (cases_Bool (bytes_eq w (codes "gen"))) [
      | inl t ↦ rw (t, k) refl
      | inr t ↦ rw t refl
    ]

pub no_command : (ws : List Text) → list_any is_option ws ≡ true → command_of ws ≡ None
unfolding command_of
no_command [] h = refl
no_command (w ∷ []) h = elim (cases_Bool (is_option w)) [
  | inl t ↦ not_bare w t
  | inr t ↦ cc
]
no_command (w ∷ n ∷ []) h = elim (cases_Bool (is_option w)) [
  | inl t ↦ not_counted w n t
  | inr t ↦ elim (cases_Bool (is_option n)) [
    | inl k ↦ not_rounds w n k
    | inr k ↦ cc
  ]
]
no_command (w ∷ n ∷ v ∷ ws) h = refl

-- `gen` has at most 10000 rounds
few_counted : (w n : Text) → IfGenerates (counted_command w n) (λ k. k ≤ 4096)
few_counted w n = elim (cases_Bool (bytes_eq w (codes "gen") && is_rounds n)) [
  | inl t ↦ rw t (few (bytes_eq w (codes "gen")) t)
  | inr t ↦ rw t tt
]
  where
    few : (b : Bool) → (b && is_rounds n) ≡ true → octal_value n ≤ 4096
    few true h = by_digits (is_octal n) h
      where
        by_digits : (d : Bool) → (d && (nat_le 1 (octal_value n) && nat_le (octal_value n) (2 ^ 12))) ≡ true → octal_value n ≤ 4096
        by_digits true k = grind (arith, nat_tests)
        by_digits false k = cc
    few false h = cc

few_bare : (w : Text) → IfGenerates (bare_command w) (λ k. k ≤ 4096)
few_bare w = elim (cases_Bool (bytes_eq w (codes "run"))) [
  | inl t ↦ rw t tt
  | inr t ↦ elim (cases_Bool (bytes_eq w (codes "check"))) [
    | inl k ↦ rw (t, k) tt
    | inr k ↦ elim (cases_Bool (bytes_eq w (codes "verify"))) [
      | inl l ↦ rw (t, k, l) tt
      | inr l ↦ elim (cases_Bool (bytes_eq w (codes "asm"))) [
        | inl m ↦ rw (t, k, l, m) tt
        | inr m ↦ elim (cases_Bool (bytes_eq w (codes "save"))) [
          | inl n ↦ rw (t, k, l, m, n) tt
          | inr n ↦ rw (t, k, l, m, n) tt
        ]
      ]
    ]
  ]
]

few_of : (ws : List Text) → IfGenerates (command_of ws) (λ k. k ≤ 4096)
unfolding command_of
few_of [] = tt
few_of (w ∷ []) = few_bare w
few_of (w ∷ n ∷ []) = few_counted w n
few_of (w ∷ n ∷ v ∷ ws) = tt

pub few_rounds : (c : Option Command) (ws : List Text) → c ≡ command_of ws → IfGenerates c (λ k. k ≤ 4096)
few_rounds c ws e = subst (λ x. IfGenerates x (λ k. k ≤ 4096)) (sym e) (few_of ws)
