-- What a step of a job moves: each console is as it was, except for the bytes that are taken from
-- it and put to it (docs/MACHINE.md, "The ledger").
use Rattle.std.specs.Prelude.{◌≡◌, ◌≢◌, ◌==◌, ℕ, Bool, true, false, Option, Some, None, List, [], ◌∷◌, ◌++◌, flat_map, refl, option_map}
use Rattle.std.proofs.Common.{sym, ◌∙◌, ap, subst, inl, inr, append_assoc, append-nil}
use Rattle.std.proofs.lemmas.Bool.{cases_Bool, cases_eq, eq-eqb, ne_eqb}
use Rattle.std.proofs.lemmas.Grind.{flat_map-append}
use Rattle.its_word.specs.Console.{Console}
use Rattle.its_records.specs.declared.calls.Ask.{Ask}
use Rattle.its_frame.specs.declared.change.Change.{Change}
use Rattle.its_frame.specs.declared.change.Change.TheVariants as changes
use Rattle.its_frame.specs.declared.decision.Decision.{Decision}
use Rattle.its_frame.specs.declared.decision.Decision.TheVariants.{Waits, Goes, Ends, Gone}
use Rattle.its_plain.specs.Call.Step.{acted, decision, informs, step, Transition, moves_in, transition, moves}
use Rattle.its_plain.specs.Machine.Change.{rest_of, after_take, after_put, after_removal, effect, effects}
use Rattle.its_plain.specs.Unit.Interrupt.{delivered}
use Rattle.its_plain.specs.Promise.Ledger.{byte_of}
use Rattle.its_plain.specs.Machine.{Whole, Machine, changed}
use Rattle.its_plain.specs.Call.Link.{words_in}
use Rattle.its_plain.specs.Call.Moves.{Inward, Outward, AtConsole, AtLink, Move, first_move, moves_of, moves_of_all}
use Rattle.its_plain.specs.Call.Decide.{reach}
use Rattle.its_plain.proofs.StepLaws.{AllOf, EachCase, transition_has}
use Rattle.std.proofs.lemmas.Option.{same_Some}

-- these moves led console c from x to y
pub record Passes (x y : Console) (vs : List Move) (c : ℕ) : Type 0 where
  pub input : x.input ≡ flat_map (byte_of c Inward) vs ++ y.input
  pub output : y.output ≡ x.output ++ flat_map (byte_of c Outward) vs

passes_still : (x : Console) (c : ℕ) → Passes x x [] c
passes_still x c = record { input = refl; output = sym (append-nil x.output) }

passes_then : (x y z : Console) (vs ws : List Move) (c : ℕ) → Passes x y vs c → Passes y z ws c → Passes x z (vs ++ ws) c
passes_then x y z vs ws c a b = record {
  input = a.input ∙ ap (λ l. flat_map (byte_of c Inward) vs ++ l) b.input
      ∙ sym (append_assoc (flat_map (byte_of c Inward) vs) (flat_map (byte_of c Inward) ws) z.input)
      ∙ ap (λ l. l ++ z.input) (sym (flat_map-append (byte_of c Inward) vs ws));
  output = b.output ∙ ap (λ l. l ++ flat_map (byte_of c Outward) ws) a.output
      ∙ append_assoc x.output (flat_map (byte_of c Outward) vs) (flat_map (byte_of c Outward) ws)
      ∙ ap (λ l. x.output ++ l) (sym (flat_map-append (byte_of c Outward) vs ws));
}

-- the byte that is taken from console d, seen at console c
first_here : (j c : ℕ) (bs : List ℕ) → bs ≡ flat_map (byte_of c Inward) (first_move j (AtConsole c) bs) ++ rest_of bs
first_here j c [] = refl
first_here j c (b ∷ bs) = rw (eq-eqb c c refl) refl

first_out : (j d c : ℕ) (bs : List ℕ) → flat_map (byte_of c Outward) (first_move j (AtConsole d) bs) ≡ []
first_out j d c [] = refl
first_out j d c (b ∷ bs) = elim (cases_Bool (d == c)) [ inl t ↦ rw t refl | inr t ↦ rw t refl ]

first_there : (j d c : ℕ) (bs : List ℕ) → d ≢ c → flat_map (byte_of c Inward) (first_move j (AtConsole d) bs) ≡ []
first_there j d c [] ne = refl
first_there j d c (b ∷ bs) ne = rw (ne_eqb d c ne) refl

taken_here : (j c : ℕ) (x : Console) → Passes x (after_take x) (first_move j (AtConsole c) x.input) c
taken_here j c x = record {
  input = first_here j c x.input;
  output = sym (append-nil x.output) ∙ ap (λ l. x.output ++ l) (sym (first_out j c c x.input));
}

taken_there : (j d c : ℕ) (x : Console) (bs : List ℕ) → d ≢ c → Passes x x (first_move j (AtConsole d) bs) c
taken_there j d c x bs ne = record {
  input = ap (λ l. l ++ x.input) (sym (first_there j d c bs ne));
  output = sym (append-nil x.output) ∙ ap (λ l. x.output ++ l) (sym (first_out j d c bs));
}

taken_passes : (consoles : ℕ → Console) (j d c : ℕ) → Passes (consoles c) (changed consoles d (after_take (consoles d)) c)
    (first_move j (AtConsole d) (consoles d).input) c
taken_passes consoles j d c = elim (cases_eq d c) [
  | inl at ↦ rw (at, eq-eqb c c refl) (taken_here j c (consoles c))
  | inr ne ↦ rw (ne_eqb c d (λ e. ne (sym e))) (taken_there j d c (consoles c) (consoles d).input ne)
]

-- the byte that is put to console d
abbrev put_byte : ℕ → ℕ → ℕ → Move
put_byte j d b = record { slot = j; device = AtConsole d; way = Outward; byte = b }

put_here : (j c b : ℕ) (x : Console) → Passes x (after_put b x) (put_byte j c b ∷ []) c
put_here j c b x = record { input = rw (eq-eqb c c refl) refl; output = rw (eq-eqb c c refl) refl }

put_there : (j d c b : ℕ) (x : Console) → d ≢ c → Passes x x (put_byte j d b ∷ []) c
put_there j d c b x ne = record { input = rw (ne_eqb d c ne) refl; output = rw (ne_eqb d c ne) (sym (append-nil x.output)) }

put_passes : (consoles : ℕ → Console) (j d c b : ℕ) → Passes (consoles c) (changed consoles d (after_put b (consoles d)) c) (put_byte j d b ∷ []) c
put_passes consoles j d c b = elim (cases_eq d c) [
  | inl at ↦ rw (at, eq-eqb c c refl) (put_here j c b (consoles c))
  | inr ne ↦ rw (ne_eqb c d (λ e. ne (sym e))) (put_there j d c b (consoles c) ne)
]

-- a word that is moved through a link moves no byte at a console
link_passes : (x : Console) (j l c : ℕ) (ws : List ℕ) → Passes x x (first_move j (AtLink l) ws) c
link_passes x j l c [] = passes_still x c
link_passes x j l c (w ∷ ws) = record { input = refl; output = sym (append-nil x.output) }

-- a change, and several
change_passes : (h : Change) (j : ℕ) (m : Machine) (c : ℕ) → Passes (m.consoles c) ((effect h j m).consoles c) (moves_of h j m) c
unfolding effect after_removal
change_passes (changes.Take d) j m c = taken_passes m.consoles j d c
change_passes (changes.Put d b) j m c = put_passes m.consoles j d c b
change_passes (changes.Receive l) j m c = link_passes (m.consoles c) j l c (words_in (m.links l))
change_passes (changes.Send l w) j m c = record { input = refl; output = sym (append-nil (m.consoles c).output) }
change_passes _ j m c = passes_still (m.consoles c) c

changes_pass : (hs : List Change) (j : ℕ) (m : Machine) (c : ℕ) → Passes (m.consoles c) ((effects hs j m).consoles c) (moves_of_all hs j m) c
changes_pass [] j m c = passes_still (m.consoles c) c
changes_pass (h ∷ hs) j m c =
    passes_then (m.consoles c) ((effect h j m).consoles c) ((effects (h ∷ hs) j m).consoles c) (moves_of h j m) (moves_of_all hs j (effect h j m)) c
    (change_passes h j m c) (changes_pass hs j (effect h j m) c)

-- a step
informs_pass : (b : Bool) (o : Option ℕ) (j : ℕ) (m : Machine) (c : ℕ) → Passes (m.consoles c) ((effects (informs b o) j m).consoles c) [] c
informs_pass true (Some s) j m c = changes_pass (changes.Inform s ∷ []) j m c
informs_pass true None j m c = passes_still (m.consoles c) c
informs_pass false o j m c = passes_still (m.consoles c) c

abbrev StepPasses : Machine → ℕ → Transition → Type 0
StepPasses m c t = Passes (m.consoles c) (t.machine.consoles c) t.moves c

acted_passes : (m : Machine) (j : ℕ) (a : Ask) (ks : List ℕ) (d : Decision) (c : ℕ) → AllOf (StepPasses m c) (acted m j a ks d)
unfolding acted
acted_passes m j a ks (Waits r) c = tt
acted_passes m j a ks (Goes hs held vs) c = changes_pass hs.items j m c
acted_passes m j a ks (Ends hs ss e) c = changes_pass hs.items j m c
acted_passes m j a ks (Gone hs) c = changes_pass (changes.Remove j ∷ hs.items) j m c

each_passes : (m : Machine) (j c : ℕ) (q : Whole) → EachCase (StepPasses m c) m j q
each_passes m j c q = record {
  delivers = informs_pass (delivered q.core q.job).stops q.superior j m c;
  changes = λ d k u. passes_still (m.consoles c) c;
  faults = λ f. passes_still (m.consoles c) c;
  calls = λ a. acted_passes m j a (reach m j q a) (decision m j q a) c;
}

-- a step leads each console on by the bytes that it moves
pub step_passes : (m n : Machine) (j c : ℕ) → step m j ≡ Some n → Passes (m.consoles c) (n.consoles c) (moves m j) c
unfolding step moves
step_passes m n j c h = go (transition m j) (transition_has (StepPasses m c) m j (λ q is. each_passes m j c q)) h
  where
    go : (o : Option Transition) → AllOf (StepPasses m c) o → option_map (λ (t : Transition). t.machine) o ≡ Some n
        → Passes (m.consoles c) (n.consoles c) (moves_in o) c
    go (Some t) p e = subst (λ (k : Machine). Passes (m.consoles c) (k.consoles c) t.moves c) (same_Some t.machine n e) p
    go None p e = absurd cc
