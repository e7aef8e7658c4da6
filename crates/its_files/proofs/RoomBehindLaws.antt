-- The room at the end of a text, whatever the other texts are: it is one less after each word that
-- is appended, and none is left if the text is full.
use Rattle.std.specs.Prelude.{◌≡◌, ◌≢◌, ◌<◌, ◌≤◌, ℕ, ◌+◌, ◌%◌, false, eqb, [], ◌∷◌, ◌++◌, length}
use Rattle.std.proofs.Common.{sym, ◌∙◌, ap, inl, inr, arith}
use Rattle.std.proofs.lemmas.Bool.{cases_Bool, eqb-true, eqb-false, eq-eqb, ne_eqb, and_from, and_left, and_right}
use Rattle.std.proofs.lemmas.List.{get_or-set_same, length_push}
use Rattle.std.proofs.lemmas.List.Sums.{sum_by-set}
use Rattle.its_files.specs.Blocks.{Stored, text_at, blocks_for, blocks_used, needs_block, is_full, room_behind, with_word_appended, blocks}

-- a text is full exactly if there is no room
pub no_room : (s : Stored) (id : ℕ) → blocks_used s ≤ blocks → is_full s id ≡ eqb (room_behind s id) 0
unfolding room_behind
no_room s id most = elim (cases_Bool (needs_block (length (text_at s.texts id)))) [
  | inl t ↦
      let whole : length (text_at s.texts id) % 128 ≡ 0 = eqb-true (length (text_at s.texts id) % 128) 0 t in
      elim (cases_Bool (eqb (blocks_used s) 2048)) [
        | inl u ↦
            let all : blocks_used s ≡ 2048 = eqb-true (blocks_used s) 2048 u in
            and_from (needs_block (length (text_at s.texts id))) (eqb (blocks_used s) 2048) t u ∙ sym (eq-eqb (room_behind s id) 0 (omega arith))
        | inr u ↦
            let some = eqb-false (blocks_used s) 2048 u in
            and_right (needs_block (length (text_at s.texts id))) (eqb (blocks_used s) 2048) u ∙ sym (ne_eqb (room_behind s id) 0 (λ e. some (omega arith)))
      ]
  | inr t ↦
      let part = eqb-false (length (text_at s.texts id) % 128) 0 t in
      and_left (needs_block (length (text_at s.texts id))) (eqb (blocks_used s) 2048) t ∙ sym (ne_eqb (room_behind s id) 0 (λ e. part (omega arith)))
]

-- a word more
module _ (s : Stored) (id w : ℕ) (lt : id < length s.texts) (most : blocks_used s ≤ blocks) (room : is_full s id ≡ false) where
  length_appended : length (text_at (with_word_appended s id w).texts id) ≡ length (text_at s.texts id) + 1
  length_appended =
      ap (λ t. length t) (get_or-set_same s.texts id (text_at s.texts id ++ w ∷ []) [] lt) ∙ length_push (text_at s.texts id) w

  used_appended : blocks_used (with_word_appended s id w) + blocks_for (length (text_at s.texts id)) ≡ blocks_used s + blocks_for
      (length (text_at s.texts id) + 1)
  used_appended =
      let b = sum_by-set (λ t. blocks_for (length t)) s.texts id (text_at s.texts id ++ w ∷ []) [] lt in
      let l = length_push (text_at s.texts id) w in
      omega arith

  some_room : room_behind s id ≢ 0
  some_room = eqb-false (room_behind s id) 0 (sym (no_room s id most) ∙ room)

  pub most_appended : blocks_used (with_word_appended s id w) ≤ blocks
  unfolding room_behind
  most_appended = let u = used_appended in let r = some_room in omega arith

  pub room_appended : room_behind (with_word_appended s id w) id + 1 ≡ room_behind s id
  unfolding room_behind
  room_appended = let u = used_appended in let l = length_appended in let r = some_room in omega arith
