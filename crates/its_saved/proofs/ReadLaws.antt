-- The text of a saved system is read as its lines, all of them.
use Rattle.std.specs.Prelude.{◌≡◌, ◌≤◌, ◌⊎◌, ℕ, List, [], ◌∷◌, ◌++◌, length, map}
use Rattle.std.proofs.Common.{sym, ◌∙◌, ap, subst, arith, append_assoc}
use Rattle.std.proofs.lemmas.List.{length-append}
use Rattle.its_records.specs.Item.{Read}
use Rattle.its_records.specs.declared.state_line.StateLine.{StateLine}
use Rattle.its_records.specs.declared.state_line.StateLine.TheVariants as states
use Rattle.its_session.specs.Events.{events_of, most_lines}
use Rattle.its_session.specs.Fields.{last_slot}
use Rattle.its_session.proofs.TextLaws.{AllRead, part_read}
use Rattle.its_plain.specs.Machine.{Machine}
use Rattle.its_plain.specs.Transcript.Turns.{highest}
use Rattle.its_saved.specs.StateLine.{StateLine as Saved}
use Rattle.its_saved.specs.StateLine as saves
use Rattle.its_saved.specs.Saving.{saved}
use Rattle.its_saved.specs.Text.{lines_of, turn_lines, saved_lines, saved_events, state_text}
use Rattle.its_saved.specs.Readable.{Worded}
use Rattle.its_saved.specs.WellFormed.{WellFormed, Named}
use Rattle.its_saved.proofs.CountLaws.{lines_few}
use Rattle.its_saved.proofs.ReadableLaws.{SystemThen, machine_reads, turn_reads}

all_append : (v : ℕ) (xs ys : List StateLine) → AllRead v xs → AllRead v ys → AllRead v (xs ++ ys)
all_append v [] ys h r = r
all_append v (x ∷ xs) ys h r = (h.0, all_append v xs ys h.1 r)

abbrev ReadWhole : List StateLine → Type 0
ReadWhole ls = events_of (state_text ls) ≡ map Read (saved_events ls)

lines_read : (v : ℕ) (xs : List Saved) (turns : List StateLine) → SystemThen v xs → 1 ≤ v → v ≤ 2 → AllRead v turns
    → length (lines_of xs ++ (turns ++ states.Ready ∷ [])) ≤ most_lines → ReadWhole (lines_of xs ++ (turns ++ states.Ready ∷ []))
lines_read v (saves.System w ∷ xs) turns h some few t size =
    let a = length-append (lines_of xs) (turns ++ states.Ready ∷ []) in
    let b = length-append turns (states.Ready ∷ []) in
    let c = length-append (lines_of xs) turns in
    let whole : ReadWhole (states.System v ∷ ((lines_of xs ++ turns) ++ states.Ready ∷ [])) =
    part_read v (lines_of xs ++ turns) some few (all_append v (lines_of xs) turns h.1 t) (omega arith) in
    subst ReadWhole (ap (λ (k : List StateLine). states.System v ∷ k) (append_assoc (lines_of xs) turns (states.Ready ∷ []))
    ∙ ap (λ (u : ℕ). states.System u ∷ (lines_of xs ++ (turns ++ states.Ready ∷ []))) (sym h.0)) whole
lines_read v _ turns h some few t size = absurd h

pub saved_read : (m : Machine) (turn : ℕ) → WellFormed m → Named m → Worded m → (turn ≡ highest) ⊎ (turn ≤ last_slot m.version)
    → events_of (state_text (saved_lines m turn)) ≡ map Read (saved_events (saved_lines m turn))
saved_read m turn fit named worded h =
    let few = lines_few m turn fit.types in
    lines_read m.version (saved m) (turn_lines turn) (machine_reads m fit named worded) worded.version.0 worded.version.1
    (turn_reads m fit named worded turn h) (omega arith)
