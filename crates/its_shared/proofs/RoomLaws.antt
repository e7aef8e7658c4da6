-- The room for words: the blocks that are in use in the store are those of the machine's files and
-- drafts.
use Rattle.std.specs.Prelude.{◌≡◌, ◌≤◌, ℕ, ◌+◌, ◌*◌, false, not, ◌&&◌, eqb, nat_lt, Option, Some, None, List, length, refl}
use Rattle.std.proofs.Common.{sym, ◌∙◌, ap, arith}
use Rattle.std.proofs.lemmas.Bool.Decides.{nat_tests}
use Rattle.std.proofs.lemmas.List.{get_or_past}
use Rattle.its_records.specs.declared.jobs.Channel.{Channel}
use Rattle.its_records.specs.declared.jobs.Channel.TheVariants.{Closed, TtyIn, TtyOut, Reading, Writing, Usr, Link}
use Rattle.its_jobs.specs.Table.{Table}
use Rattle.its_files.specs.Blocks.{text_at, blocks_for, needs_block, blocks_used, is_full, numbers, blocks}
use Rattle.its_files.specs.Opening.{up_to}
use Rattle.its_files.specs.Files.{Store, IsStore, entry_at, words_by, words_at, directory}
use Rattle.its_files.specs.declared.entry.Entry.{Entry}
use Rattle.its_files.specs.declared.entry.Entry.TheVariants.{File, Draft}
use Rattle.its_files.proofs.RoomLaws.{sum_same, if_draft, blocks_at, blocks_in_drafts, words_are, blocks_are}
use Rattle.its_plain.specs.Machine.{Chan}
use Rattle.its_plain.specs.Call.File.{blocks_on, blocks_of_drafts, blocks_of_files, is_full as has_no_room}
use Rattle.its_shared.specs.Parts.{chan_of}
use Rattle.its_shared.specs.Across.{channel_at, tally, writes_draft, writers, Across}
use Rattle.its_shared.proofs.TallyLaws.{tally_drafts, of_draft}
use Rattle.its_shared.proofs.StandLaws.{unmarked_all}

-- the blocks of drafts, by channels and by numbers
blocks_none : (s : Store) (e : ℕ) → IsStore s → numbers ≤ e → blocks_at s e ≡ 0
blocks_none s e whole le = let l = whole.long in ap (λ o. blocks_by o (text_at s.stored.texts e)) (get_or_past s.entries e None (omega arith))
  where
    blocks_by : Option Entry → List ℕ → ℕ
    blocks_by o ws = blocks_for (length (words_by o ws))

blocks_written : (s : Store) (c : Channel) → blocks_on (chan_of s c) ≡ of_draft (blocks_at s) c
blocks_written s Closed = refl
blocks_written s TtyIn = refl
blocks_written s TtyOut = refl
blocks_written s (Reading f at) = refl
blocks_written s (Writing d) = refl
blocks_written s (Usr k w at) = refl
blocks_written s (Link l w) = refl

tallied : (s : Store) (cs : ℕ → ℕ → Channel) → blocks_of_drafts (λ k n. chan_of s (cs k n)) ≡ tally (λ c. blocks_on (chan_of s c)) cs
unfolding blocks_of_drafts tally
tallied s cs = refl

written_by : (e : Option Entry) (n : ℕ) → writers e false * n ≡ if_draft e n
written_by None n = omega arith
written_by (Some (File names readers)) n = omega arith
written_by (Some (Draft names)) n = omega arith

module _ (s : Store) (whole : IsStore s) (unmarked : s.mark ≡ None) where
  pub drafts_on : (t : Table) → Across s t → blocks_of_drafts (λ k n. chan_of s (channel_at t k n)) ≡ blocks_in_drafts s
  unfolding blocks_in_drafts
  drafts_on t across =
      tallied s (channel_at t)
      ∙ (λ i. tally (λ c. blocks_written s c i) (channel_at t))
      ∙ tally_drafts (blocks_at s) numbers (channel_at t) (λ d le. blocks_none s d whole le)
      ∙ sum_same (λ d. tally (writes_draft d) (channel_at t) * blocks_at s d) (λ d. if_draft (entry_at s d) (blocks_at s d)) (up_to numbers)
      (λ d. ap (λ n. n * blocks_at s d) (across.written d ∙ ap (writers (entry_at s d)) (unmarked_all s d unmarked))
      ∙ written_by (entry_at s d) (blocks_at s d))

  -- blocks in use
  pub used_are : blocks_used s.stored ≡ blocks_of_files (directory s) + blocks_in_drafts s
  used_are = blocks_are s whole unmarked

  pub full_is : (cs : ℕ → ℕ → Chan) (id : ℕ) → blocks_used s.stored ≤ blocks → blocks_of_drafts cs ≡ blocks_in_drafts s
      → is_full s.stored id ≡ has_no_room (directory s) cs (words_at s id)
  full_is cs id most drafts =
      let used : blocks_used s.stored ≡ blocks_of_files (directory s) + blocks_of_drafts cs = used_are
      ∙ ap (λ n. blocks_of_files (directory s) + n) (sym drafts) in
      ap (λ ws. needs_block (length ws) && eqb (blocks_used s.stored) blocks) (words_are s whole unmarked id)
      ∙ ap (λ b. needs_block (length (words_at s id)) && b) (at_most (blocks_used s.stored) most ∙ ap (λ n. not (nat_lt n blocks)) used)
    where
      at_most : (n : ℕ) → n ≤ blocks → eqb n blocks ≡ not (nat_lt n blocks)
      at_most n le = grind (arith, nat_tests)

  pub full_on : (t : Table) (id : ℕ) → Across s t → blocks_used s.stored ≤ blocks
      → is_full s.stored id ≡ has_no_room (directory s) (λ k n. chan_of s (channel_at t k n)) (words_at s id)
  full_on t id across most = full_is (λ k n. chan_of s (channel_at t k n)) id most (drafts_on t across)
