-- Lines that are added to a text one after another.
use Rattle.std.specs.Prelude.{◌≡◌, Ok, List, ℕ, [], ◌∷◌, ◌++◌}
use Rattle.std.proofs.Common.{sym, ◌∙◌, ap, subst, append_assoc, append-nil}
use Rattle.std.proofs.lemmas.Grind.{flat_map-append}
use Rattle.std.proofs.lemmas.List.Elements.{All-append, All-cons, All-nil}
use Rattle.its_records.specs.declared.session.Event.{Event}
use Rattle.its_records.specs.declared.session.Event.TheVariants as events
use Rattle.its_asm.specs.declared.assembly.Image.{Image}
use Rattle.its_session.specs.Fits.{place_of}
use Rattle.its_session.specs.Grammar.{line_event}
use Rattle.its_session.specs.Writing.{text_of_event}
use Rattle.its_asm_command.specs.Written.{event_line, image_events, lines_text, rows, symbol_lines}
use Rattle.its_asm_command.specs.Made.{Adds, IsSessionOf, ReadsBack}

lines_append : (a b : List Event) → lines_text (a ++ b) ≡ lines_text a ++ lines_text b
unfolding lines_text
lines_append a b = flat_map-append event_line a b

lines_one : (e : Event) → lines_text (e ∷ []) ≡ event_line e
unfolding lines_text
lines_one e = append-nil (event_line e)

-- some lines, and those after them
pub then_adds : (a b : List Event) (old mid new : List ℕ) → Adds a old mid → Adds b mid new → Adds (a ++ b) old new
then_adds a b old mid new f s = record {
  text = s.text ∙ ap (λ x. x ++ lines_text b) f.text ∙ append_assoc old (lines_text a) (lines_text b) ∙ ap (λ x. old ++ x) (sym (lines_append a b));
  reads = All-append ReadsBack a b f.reads s.reads;
}

-- no line
pub none_added : (text : List ℕ) → Adds [] text text
unfolding lines_text
none_added text = record { text = sym (append-nil text); reads = All-nil ReadsBack }

pub as_added : (a b : List Event) (old new : List ℕ) → a ≡ b → Adds a old new → Adds b old new
as_added a b old new e s = subst (λ x. Adds x old new) e s

-- one line
pub adds_line : (e : Event) (line old mid new : List ℕ) → line ≡ text_of_event e → line_event (place_of e) 2 line ≡ Ok e → mid ≡ old ++ line
    → new ≡ mid ++ (10 ∷ []) → Adds (e ∷ []) old new
adds_line e line old mid new t r m n = record {
  text = n ∙ ap (λ x. x ++ 10 ∷ []) m ∙ append_assoc old line (10 ∷ []) ∙ ap (λ x. old ++ (x ++ 10 ∷ [])) t ∙ ap (λ x. old ++ x) (sym (lines_one e));
  reads = All-cons ReadsBack e [] (subst (λ x. line_event (place_of e) 2 x ≡ Ok e) t r) (All-nil ReadsBack);
}

-- all lines of an image
pub session_adds : (i : Image) (a b c d e f g : List ℕ) → a ≡ [] → Adds (events.Version 2 ∷ []) a b
    → Adds (events.Load i.u i.j i.console ∷ []) b c → Adds (rows i.words) c d → Adds (symbol_lines i.symbols) d e
    → Adds (events.Go i.start ∷ []) e f → Adds (events.End ∷ []) f g → IsSessionOf i g
session_adds i a b c d e f g none v l w s o n =
    let last = then_adds (events.Go i.start ∷ []) (events.End ∷ []) e f g o n in
    let symbols = then_adds (symbol_lines i.symbols) _ d e g s last in
    let words = then_adds (rows i.words) _ c d g w symbols in
    let job = then_adds (events.Load i.u i.j i.console ∷ []) _ b c g l words in
    let all = then_adds (events.Version 2 ∷ []) _ a b g v job in
    record { is = all.text ∙ ap (λ x. x ++ lines_text (image_events i)) none; reads = all.reads }
