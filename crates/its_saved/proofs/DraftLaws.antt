-- The words of a draft.
use Rattle.std.specs.Prelude.{if◌then◌else◌, ◌≡◌, ◌≢◌, ◌≤◌, ◌<◌, ◌==◌, ◌&&◌, ◌||◌, ℕ, zero, suc, ◌+◌, ◌-◌, ◌/◌, ◌%◌, Bool, true, false, not, Option, Some, None, List, [], ◌∷◌, ◌++◌, length, option_map, option_and_then, nat_lt, sum_by, refl}
use Rattle.std.specs.List.{range_with_len}
use Rattle.std.proofs.Common.{sym, ◌∙◌, ap, subst, arith, inl, inr, append_assoc, append-nil}
use Rattle.std.proofs.lemmas.Bool.{cases_Bool}
use Rattle.std.proofs.lemmas.Bool.Decides.{nat_tests}
use Rattle.std.proofs.lemmas.List.{length-append}
use Rattle.std.proofs.lemmas.List.Sums.{sum_by-cons, sum_by-le-sum_by}
use Rattle.its_word.specs.Limits.{slots}
use Rattle.its_plain.specs.Machine.{Names, File, Chan, Writes, Linked, Whole, Machine, changed, with_job}
use Rattle.its_plain.specs.Machine.Change.{channel_in, in_job, effect}
use Rattle.its_plain.specs.Machine.Own.{on_channel, with_word}
use Rattle.its_plain.specs.Operator.Files.{channels_of}
use Rattle.its_saved.specs.Building.{build, channel_opened, can_open, with_draft, with_word_to, with_word_written, with_words_written}
use Rattle.its_saved.specs.Saving.{channel_lines}
use Rattle.its_saved.specs.StateLine as state
use Rattle.its_saved.proofs.ChangedLaws.{twice_changed, changed_here, in_job_there}
use Rattle.its_saved.proofs.LeadLaws.{Leads, leads_line, leads_append, leads_to, passes, enough, rows_lead}
use Rattle.its_saved.proofs.ChannelLaws.{Done, added, chan_if, chans_done, opened, Fits, may_open, with_channel}
use Rattle.its_plain.specs.Call.File.{Channels, most_blocks, blocks_for, needs_block, blocks_on, blocks_of_drafts, blocks_of_files, is_full}

-- sums of which one is smaller somewhere, and nowhere greater
sum_le : (f g : ℕ → ℕ) (a n : ℕ) → ((k : ℕ) → f k ≤ g k) → sum_by f (range_with_len a n) ≤ sum_by g (range_with_len a n)
sum_le f g a n h = sum_by-le-sum_by f g (range_with_len a n) h

sum_less : (f g : ℕ → ℕ) (k n a : ℕ) → ((k : ℕ) → f k ≤ g k) → a ≤ k → k < a + n → f k < g k → sum_by f (range_with_len a n) < sum_by g (range_with_len a n)
sum_less f g k zero a h l b less = absurd (let x = l in let y = b in omega arith)
sum_less f g k (suc n) a h l b less =
    let x = sum_by-cons f a (range_with_len (a + 1) n) in
    let y = sum_by-cons g a (range_with_len (a + 1) n) in
    let z = h a in
    elim (cases_Bool (a == k)) [
      | inl t ↦ (let e : a ≡ k = grind (arith, nat_tests) in let le = sum_le f g (a + 1) n h in let m : f a < g a = subst (λ i. f i < g i)
          (sym e) less in omega arith)
      | inr t ↦ (let ne : a ≢ k = (λ e. let u : (a == k) ≡ true = grind (arith, nat_tests) in cc) in let rest = sum_less f g k n (a + 1) h
          (omega arith) (omega arith) less in omega arith)
    ]

-- fewer blocks in drafts
drafts_less : (cs ds : Channels) (s c : ℕ) → ((k n : ℕ) → blocks_on (cs k n) ≤ blocks_on (ds k n)) → s < slots → c < 16
    → blocks_on (cs s c) < blocks_on (ds s c) → blocks_of_drafts cs < blocks_of_drafts ds
unfolding blocks_of_drafts
drafts_less cs ds s c h l b less =
    sum_less (λ k. sum_by (λ n. blocks_on (cs k n)) (range_with_len 0 16)) (λ k. sum_by (λ n. blocks_on (ds k n)) (range_with_len 0 16)) s slots 0
    (λ k. sum_le (λ n. blocks_on (cs k n)) (λ n. blocks_on (ds k n)) 0 16 (h k)) (omega arith) (omega arith)
    (sum_less (λ n. blocks_on (cs s n)) (λ n. blocks_on (ds s n)) c 16 0 (h s) (omega arith) (omega arith) less)

-- a draft of which some words are there
abbrev draft : Names → List ℕ → File
draft names ws = record { names = names; words = ws }

module _ (m n : Machine) (d : Done) (k c : ℕ) (q : Whole) (f : File) (here : m.jobs k ≡ Some q) (is : q.channels c ≡ Writes f)
    (low : k < slots) (few : c < 16)
    (files : n.files ≡ m.files) (room : blocks_of_files m.files + blocks_of_drafts (channels_of m) ≤ most_blocks) where
  abbrev job_with : List ℕ → Whole
  job_with ws = record (chans_done d k q) { channels = changed (chans_done d k q).channels c (Writes (draft f.names ws)) }

  abbrev with_part : List ℕ → Machine
  with_part ws = with_job (opened m n d) k (job_with ws)

  part_job : (ws : List ℕ) → (with_part ws).jobs k ≡ Some (job_with ws)
  part_job ws = changed_here (opened m n d).jobs k (Some (job_with ws))

  part_channel : (ws : List ℕ) → (job_with ws).channels c ≡ Writes (draft f.names ws)
  part_channel ws = changed_here (chans_done d k q).channels c (Writes (draft f.names ws))

  -- it takes fewer blocks than the whole machine
  part_fewer : (ws : List ℕ) → blocks_for (length ws) < blocks_for (length f.words)
      → blocks_of_drafts (channels_of (with_part ws)) < blocks_of_drafts (channels_of m)
  part_fewer ws less =
      drafts_less (channels_of (with_part ws)) (channels_of m) k c each low few
      (let a : blocks_on (channel_in ((with_part ws).jobs k) c) ≡ blocks_for (length ws) = ap (λ o. blocks_on (channel_in o c))
      (part_job ws) ∙ ap blocks_on (part_channel ws) in
      let b : blocks_on (channel_in (m.jobs k) c) ≡ blocks_for (length f.words) = ap (λ o. blocks_on (channel_in o c)) here ∙ ap blocks_on is in
      omega arith)
    where
      shut_le : (b : Bool) (x : Chan) → blocks_on (chan_if b x) ≤ blocks_on x
      shut_le true x = omega arith
      shut_le false x = omega arith

      other : (j i : ℕ) (o : Option Whole) → blocks_on (channel_in (option_map (chans_done d j) o) i) ≤ blocks_on (channel_in o i)
      other j i None = omega arith
      other j i (Some r) = shut_le (d j i) (r.channels i)

      each : (j i : ℕ) → blocks_on (channel_in ((with_part ws).jobs j) i) ≤ blocks_on (channel_in (m.jobs j) i)
      each j i = elim (cases_Bool (j == k)) [
        | inl t ↦
            let e : j ≡ k = grind (arith, nat_tests) in
            let x : blocks_on (channel_in ((with_part ws).jobs j) i) ≡ blocks_on ((job_with ws).channels i) =
            ap (λ b. blocks_on (channel_in (if b then Some (job_with ws) else (opened m n d).jobs j) i)) t in
            let y : blocks_on (channel_in (m.jobs j) i) ≡ blocks_on (q.channels i) = ap (λ o. blocks_on (channel_in o i)) (ap m.jobs e ∙ here) in
            let z = inner i in
            omega arith
        | inr t ↦
            let x : blocks_on (channel_in ((with_part ws).jobs j) i) ≡ blocks_on (channel_in (option_map (chans_done d j) (m.jobs j)) i) =
            ap (λ b. blocks_on (channel_in (if b then Some (job_with ws) else (opened m n d).jobs j) i)) t in
            let z = other j i (m.jobs j) in
            omega arith
      ]
        where
          inner : (i : ℕ) → blocks_on ((job_with ws).channels i) ≤ blocks_on (q.channels i)
          inner i = elim (cases_Bool (i == c)) [
            | inl t ↦
                let e : i ≡ c = grind (arith, nat_tests) in
                let x : blocks_on ((job_with ws).channels i) ≡ blocks_for (length ws) =
                ap (λ b. blocks_on (if b then Writes (draft f.names ws) else (chans_done d k q).channels i)) t in
                let y : blocks_on (q.channels i) ≡ blocks_for (length f.words) = ap blocks_on (ap q.channels e ∙ is) in
                omega arith
            | inr t ↦
                let x : blocks_on ((job_with ws).channels i) ≡ blocks_on (chan_if (d k i) (q.channels i)) =
                ap (λ b. blocks_on (if b then Writes (draft f.names ws) else (chans_done d k q).channels i)) t in
                let z = shut_le (d k i) (q.channels i) in
                omega arith
          ]

  -- one word more
  more_in_part : (ws : List ℕ) (w : ℕ) → in_job (with_part ws) k (on_channel c (with_word w)) ≡ with_part (ws ++ w ∷ [])
  more_in_part ws w =
      in_job_there (with_part ws) k (on_channel c (with_word w)) (job_with ws) (part_job ws)
      ∙ (λ t. record (opened m n d) {
        jobs = λ j. (twice_changed (opened m n d).jobs k (Some (job_with ws))
            (Some (on_channel c (with_word w) (job_with ws))) j
            ∙ ap (λ x. changed (opened m n d).jobs k (Some x) j) again) t;
      })
    where
      again : on_channel c (with_word w) (job_with ws) ≡ job_with (ws ++ w ∷ [])
      again = ap (λ x. record (job_with ws) { channels = changed (job_with ws).channels c (with_word w x) }) (part_channel ws)
          ∙ (λ s. record (chans_done d k q) {
            channels = λ i. twice_changed (chans_done d k q).channels c (Writes (draft f.names ws))
                (Writes (draft f.names (ws ++ w ∷ []))) i s;
          })

  word_written : (ws : List ℕ) (w : ℕ) → length ws < length f.words → with_word_written (with_part ws) k c w ≡ Some (with_part (ws ++ w ∷ []))
  unfolding with_word_written effect
  word_written ws w less =
      ap (with_word_to (with_part ws) k c w) (ap (λ o. channel_in o c) (part_job ws) ∙ part_channel ws)
      ∙ passes (not (is_full (with_part ws).files (channels_of (with_part ws)) ws)) (in_job (with_part ws) k (on_channel c (with_word w))) (ap not not_full)
      ∙ ap Some (more_in_part ws w)
    where
      not_full : is_full (with_part ws).files (channels_of (with_part ws)) ws ≡ false
      not_full = by (needs_block (length ws)) refl
        where
          by : (b : Bool) → needs_block (length ws) ≡ b → (b && not
              (nat_lt (blocks_of_files (with_part ws).files + blocks_of_drafts (channels_of (with_part ws))) most_blocks)) ≡ false
          by false e = refl
          by true e =
              let z : length ws % 128 ≡ 0 = grind (arith, nat_tests) in
              let fewer = part_fewer ws (omega arith) in
              let g : blocks_of_files (with_part ws).files ≡ blocks_of_files m.files = ap blocks_of_files files in
              let l : blocks_of_files (with_part ws).files + blocks_of_drafts (channels_of (with_part ws)) < most_blocks = (let r = room in omega arith) in
              let t : nat_lt (blocks_of_files (with_part ws).files + blocks_of_drafts (channels_of (with_part ws))) most_blocks ≡ true =
              grind (arith, nat_tests) in rw t refl

  -- several
  words_written : (ws xs : List ℕ) → length ws + length xs ≤ length f.words → with_words_written (with_part ws) k c xs ≡ Some (with_part (ws ++ xs))
  words_written ws [] l = ap (λ ys. Some (with_part ys)) (sym (append-nil ws))
  words_written ws (x ∷ xs) l =
      let a = length-append ws (x ∷ []) in
      ap (option_and_then (λ p. with_words_written p k c xs)) (word_written ws x (omega arith))
      ∙ words_written (ws ++ x ∷ []) xs (omega arith) ∙ ap (λ ys. Some (with_part ys)) (append_assoc ws (x ∷ []) xs)

  wrote_done : (p r : Machine) (xs : List ℕ) → with_words_written p k c xs ≡ Some r → build p (state.Wrote k c xs) ≡ Some r
  unfolding build
  wrote_done p r xs e = e

  -- the draft is opened without words
  draft_begun : (fits : Fits m) → (shut : d k c ≡ false) → build (opened m n d) (state.Draft k c f.names) ≡ Some (with_part [])
  unfolding build with_draft
  draft_begun fits shut =
      passes (can_open (opened m n d) k c) (channel_opened (opened m n d) k c (Writes (draft f.names []))) (may_open m n fits d k c q here shut few)
      ∙ ap Some (in_job_there (opened m n d) k (on_channel c (λ i. Writes (draft f.names []))) (chans_done d k q) (ap (option_map (chans_done d k)) here))

  pub draft_leads : Fits m → d k c ≡ false → Leads (opened m n d) (channel_lines m k c (Writes f)) (opened m n (added d k c))
  draft_leads fits shut =
      leads_to _ (with_part f.words) _ _
      (leads_append (opened m n d) (with_part []) _ (state.Draft k c f.names ∷ []) _
      (leads_line _ _ _ (draft_begun fits shut))
      (rows_lead (state.Wrote k c) with_part (length f.words)
      (record { row = λ vs ws l. wrote_done (with_part vs) (with_part (vs ++ ws)) ws (words_written vs ws l) })
      16 (length f.words) [] f.words (omega arith) (enough (length f.words)) (omega arith)))
      (ap (λ x. with_job (opened m n d) k (record (chans_done d k q) { channels = changed (chans_done d k q).channels c x })) (sym is)
      ∙ with_channel m n fits d k c q here shut (λ l write e. let z : Writes f ≡ Linked l write = sym is ∙ e in cc))
