-- Symbols that are defined.
use Rattle.std.proofs.Common.{◌≡◌, ℕ, Some, None, List, [], ◌∷◌, ◌++◌, refl, sym, ◌∙◌, inl, inr, nat_eq}
use Rattle.std.proofs.lemmas.Bool.{cases_Bool}
use Rattle.std.specs.Map.{lookup}
use Rattle.indexmap.specs.IndexMap.{insert_entry}
use Rattle.its_asm.specs.Layout.{defined}

goes_last : (symbols : List (ℕ × ℕ)) (name value : ℕ) → lookup (nat_eq name) symbols ≡ None
    → insert_entry nat_eq symbols name value ≡ symbols ++ (name, value) ∷ []
goes_last [] name value none = refl
goes_last (s ∷ ss) name value none =
    elim (cases_Bool (nat_eq name s.0)) [
      | inl hit ↦ (let e : Some s.1 ≡ None = rw hit at none in cc)
      | inr miss ↦ (let rest : lookup (nat_eq name) ss ≡ None = rw miss at none in
          let more : insert_entry nat_eq ss name value ≡ ss ++ (name, value) ∷ [] = goes_last ss name value rest in
          rw (miss, more) refl)
    ]

-- a new name goes last
pub defines : (symbols : List (ℕ × ℕ)) (name value : ℕ) → lookup (nat_eq name) symbols ≡ None
    → insert_entry nat_eq symbols name value ≡ defined symbols name value
defines symbols name value none = goes_last symbols name value none ∙ sym (rw none refl)

-- a name that has a value keeps it
pub keeps : (symbols : List (ℕ × ℕ)) (name value old : ℕ) → lookup (nat_eq name) symbols ≡ Some old → defined symbols name value ≡ symbols
keeps symbols name value old some = rw some refl
