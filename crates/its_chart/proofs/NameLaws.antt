-- The names of the chart: their bytes, and their places.
use Rattle.std.proofs.Common.{◌≡◌, ◌<◌, ◌&&◌, ◌||◌, ℕ, Bool, true, not, nat_eq, nat_le, Option, Some, List, length, slice_get, refl, ap, ◌∙◌, codes, bytes_eq}
use Rattle.std.specs.List.{list_all, position_or_len}
use Rattle.std.proofs.lemmas.Bool.{agree_below_at, eqb-true}
use Rattle.its_word.specs.Text.{is_code}
use Rattle.its_word.specs.Opcode.{instruction_of, monitor_opcode, byte_opcode, full_word_opcode, shift_opcode, branch_opcode, stack_opcode, compare_opcode, test_opcode, mode_of, mask_of}
use Rattle.its_word.specs.Table.{table}
use Rattle.its_chart.specs.Mnemonic.{is_named, mnemonic_of, names}
use Rattle.its_chart.specs.Reading.{first_named}
use Rattle.its_chart.proofs.BytesLaws.{both_true}
use Rattle.its_chart.proofs.ChartLaws.{names_at}

-- a name of the chart: letters and `.`, no other statement's first word
abbrev pub is_letter : ℕ → Bool
is_letter b = is_code 65 90 b || nat_eq b 46

abbrev pub is_other : List ℕ → Bool
is_other n = bytes_eq n (codes "LOC") || (bytes_eq n (codes "GO") || (bytes_eq n (codes "WORD") || bytes_eq n (codes "SIXBIT")))

abbrev pub is_op : List ℕ → Bool
is_op n = (nat_le 1 (length n) && nat_le (length n) 7) && (list_all is_letter n && not (is_other n))

-- a name that occurs at its own place alone
abbrev stands_by : List (Option (List ℕ)) → ℕ → Option (Option (List ℕ)) → Bool
stands_by ns k (Some (Some n)) = is_op n && nat_eq (position_or_len (is_named n) ns) k
stands_by ns k other = true

abbrev stands : List (Option (List ℕ)) → ℕ → Bool
stands ns k = stands_by ns k (slice_get ns k)

abbrev always : ℕ → Bool
always k = true

names_stand : (k : ℕ) → k < 512 → stands names k ≡ true
unfolding names table mnemonic_of instruction_of monitor_opcode byte_opcode full_word_opcode shift_opcode branch_opcode stack_opcode
    compare_opcode test_opcode mode_of mask_of
names_stand k h = agree_below_at (stands names) always 512 k refl h

-- the first opcode with a name is its own, and it is written as an operation
pub record Stood (op : ℕ) (n : List ℕ) : Type 0 where
  pub operation : is_op n ≡ true
  pub first : first_named n ≡ op

pub stood : (op : ℕ) (n : List ℕ) → op < 512 → mnemonic_of op ≡ Some n → Stood op n
unfolding first_named
stood op n below e =
    let here : slice_get names op ≡ Some (Some n) = names_at op below ∙ ap Some e in
    let own = names_stand op below in
    let both : (is_op n && nat_eq (position_or_len (is_named n) names) op) ≡ true = rw here at own in
    let parts = both_true (is_op n) (nat_eq (position_or_len (is_named n) names) op) both in
    record { operation = parts.0; first = eqb-true _ _ parts.1 }

pub stood_first : (op : ℕ) (n : List ℕ) → op < 512 → mnemonic_of op ≡ Some n → first_named n ≡ op
stood_first op n below e = (stood op n below e).first
