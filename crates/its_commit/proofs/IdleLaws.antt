-- A world as it is opened, with jobs whose channels are on no file and no draft.
use Rattle.std.specs.Prelude.{◌≡◌, ◌≢◌, ◌<◌, ◌||◌, ℕ, Bool, true, false, is_some, Option, Some, None, List, [], ◌∷◌, IfSome, length, option_map, slice_set, slice_index_or, sum_by, refl}
use Rattle.std.specs.List.{range_with_len}
use Rattle.std.proofs.Common.{lit<, sym, ◌∙◌, ap, subst, arith, inl, inr}
use Rattle.std.proofs.lemmas.Bool.{cases_eq, cases_lt, ne_eqb}
use Rattle.std.proofs.lemmas.List.{get_or-set_same, get_or-set_other, get_or_past}
use Rattle.its_word.specs.Core.{Core, can_store}
use Rattle.its_word.specs.Limits.{slots}
use Rattle.its_word.specs.Only.{Only}
use Rattle.its_records.specs.declared.jobs.Job.{Job}
use Rattle.its_records.specs.Tree.{least_free, fresh_job, is_below}
use Rattle.its_records.specs.declared.jobs.Channel.{Channel}
use Rattle.its_records.specs.declared.jobs.Channel.TheVariants.{Closed, Reading, Writing}
use Rattle.its_core.specs.Cores.{IsEmpty, Reserved, core_at, clear_at}
use Rattle.its_files.specs.Blocks.{numbers}
use Rattle.its_files.specs.Files.{Store, no_files, readers_by, entry_at, is_marked}
use Rattle.its_frame.specs.declared.change.Change.TheVariants as changes
use Rattle.its_frame.specs.declared.frame.Frame.{Frame}
use Rattle.its_jobs.specs.Table.{Table, job_at, superior_at, IsTree, NoJobs}
use Rattle.its_plain.specs.Machine.Change.{superiors, is_gone}
use Rattle.its_plain.specs.Machine.{Whole}
use Rattle.its_stepped.specs.Sound.{Sound, SoundBy, MarkBy}
use Rattle.its_stepped.specs.State.{Mark}
use Rattle.its_world.specs.Filed.{OnLists}
use Rattle.its_world.specs.Storage.{HasJob, IsElsewhere}
use Rattle.its_plain.specs.Operator.Clock.{clock_end}
use Rattle.its_shared.specs.Across.{channel_by, channel_at, tally, reads_file, writes_draft, writers, Across}
use Rattle.its_world.specs.Tidy.{Tidy}
use Rattle.its_world.specs.World.{alarm_at, mark_of, raw_at, frame_at, symbols_at, state_of}
use Rattle.its_world.specs.declared.world.World.{World}
use Rattle.its_world.proofs.MappedLaws.{core_raw}
use Rattle.its_shared.proofs.PartLaws.{fresh_closed}
use Rattle.its_world.proofs.MadeLaws.{least_raw}
use Rattle.its_world.proofs.MarkLaws.{none_marked}
use Rattle.its_world.proofs.StorageLaws.{raw_has}
use Rattle.its_shared.proofs.TallyLaws.{tally_none}
use Rattle.its_commit.specs.Built.{CanMakeAll}
use Rattle.its_commit.specs.Removal.{Elsewhere}
use Rattle.its_commit.proofs.RemovalLaws.{superiors_are}
use Rattle.its_word.proofs.TableLaws.{get_or-filled}

-- it is sound, and has neither frames nor reserved pages
pub idle_sound : (w : World) → IsEmpty w.core → ((k : ℕ) → frame_at w.frames.items k ≡ None) → w.files ≡ no_files → Sound (state_of w)
unfolding state_of
idle_sound w core frames files = record {
  each = λ k. record {
    by = idle_slot (raw_at w.files w.core w.jobs w.alarms.items k) (frame_at w.frames.items k) (clear_at w.core k)
        (frames k) (ap (option_map (λ (r : Reserved). r.clear)) (core.reserved k));
  };
  mark = idle_mark (mark_of w.files) (none_marked w.files (ap (λ (t : Store). t.mark) files));
}
  where
    idle_slot : (o : Option Whole) (f : Option Frame) (r : Option ℕ) → f ≡ None → r ≡ None → SoundBy o f r
    idle_slot None f r e n = (e, n)
    idle_slot (Some q) None r e n = n
    idle_slot (Some q) (Some f) r e n = cc

    idle_mark : (m : Option Mark) → m ≡ None → IfSome m (λ k. MarkBy k (frame_at w.frames.items))
    idle_mark None e = tt
    idle_mark (Some m) e = cc

pub idle_frames : (w : World) → ((k : ℕ) → frame_at w.frames.items k ≡ None) → (k : ℕ) → (state_of w).frames k ≡ None
unfolding state_of
idle_frames w frames k = frames k

pub idle_page : (w : World) → IsEmpty w.core → (k : ℕ) → (state_of w).reserved k ≡ None
unfolding state_of
idle_page w core k = ap (option_map (λ (r : Reserved). r.clear)) (core.reserved k)

-- no channel is on a file or a draft
elsewhere_reads : (f : ℕ) (c : Channel) → IsElsewhere c → reads_file f c ≡ 0
elsewhere_reads f (Reading g at) h = absurd h
elsewhere_reads f (Writing d) h = absurd h
elsewhere_reads f _ h = refl

elsewhere_writes : (d : ℕ) (c : Channel) → IsElsewhere c → writes_draft d c ≡ 0
elsewhere_writes d (Reading g at) h = absurd h
elsewhere_writes d (Writing e) h = absurd h
elsewhere_writes d _ h = refl

none_weighs : (w : Channel → ℕ) (cs : ℕ → ℕ → Channel) → ((k n : ℕ) → w (cs k n) ≡ 0) → tally w cs ≡ 0
unfolding tally
none_weighs w cs h = (λ i. sum_by (λ k. sum_by (λ n. h k n i) (range_with_len 0 16)) (range_with_len 0 slots)) ∙ tally_none cs

no_entry : (id : ℕ) → entry_at no_files id ≡ None
no_entry id = get_or-filled numbers id None

idle_across : (t : Table) → Elsewhere t → Across no_files t
idle_across t h = record {
  past_slots = h.past_slots;
  past_numbers = h.past_numbers;
  read = λ f. none_weighs (reads_file f) (channel_at t) (λ k n. elsewhere_reads f (channel_at t k n) (h.each k n)) ∙ sym (ap readers_by (no_entry f));
  written = λ d. none_weighs (writes_draft d) (channel_at t) (λ k n. elsewhere_writes d (channel_at t k n) (h.each k n))
      ∙ sym (ap (λ e. writers e (is_marked no_files d)) (no_entry d));
}

pub idle_tidy : (w : World) → IsEmpty w.core → w.files ≡ no_files → ((k : ℕ) → alarm_at w.alarms.items k ≡ None) → w.clock ≡ 0
    → ((k : ℕ) → symbols_at w.symbols.items k ≡ []) → Elsewhere w.jobs → OnLists w → Tidy w
idle_tidy w core files alarms clock symbols h on_lists = record {
  blank = λ k none. core.cores k;
  quiet = λ k none. alarms k;
  timed = subst (λ t. t < clock_end) (sym clock) (lit< tt);
  across = subst (λ (s : Store). Across s w.jobs) (sym files) (idle_across w.jobs h);
  nameless = λ k none. symbols k;
  on_lists = on_lists;
}

-- jobs one after another
pub elsewhere_none : (t : Table) → NoJobs t → Elsewhere t
elsewhere_none t h = record {
  past_slots = λ k n l. ap (λ j. channel_by j n) (h.jobs k);
  past_numbers = λ k n l. ap (λ j. channel_by j n) (h.jobs k);
  each = λ k n. subst IsElsewhere (sym (ap (λ j. channel_by j n) (h.jobs k))) tt;
}

pub elsewhere_made : (t v : Table) (s u j : ℕ) (c : Option ℕ) → Only (job_at t) (job_at v) s (Some (fresh_job u j c)) → Elsewhere t → Elsewhere v
elsewhere_made t v s u j c o h = record {
  past_slots = λ k n l. elim (cases_eq k s) [
    | inl e ↦ here k n e
    | inr ne ↦ ap (λ i. channel_by i n) (o.others k ne) ∙ h.past_slots k n l
  ];
  past_numbers = λ k n l. elim (cases_eq k s) [
    | inl e ↦ here k n e
    | inr ne ↦ ap (λ i. channel_by i n) (o.others k ne) ∙ h.past_numbers k n l
  ];
  each = λ k n. elim (cases_eq k s) [
    | inl e ↦ subst IsElsewhere (sym (here k n e)) tt
    | inr ne ↦ subst IsElsewhere (sym (ap (λ i. channel_by i n) (o.others k ne))) (h.each k n)
  ];
}
  where
    here : (k n : ℕ) → k ≡ s → channel_at v k n ≡ Closed
    here k n e = ap (λ i. channel_at v i n) e ∙ ap (λ i. channel_by i n) o.here ∙ fresh_closed u j c n

set_first : (cs : List Channel) (x : Channel) → IsElsewhere x → IsElsewhere (slice_index_or cs 0 Closed)
    → IsElsewhere (slice_index_or (slice_set cs 0 x) 0 Closed)
set_first [] x h e = e
set_first (c ∷ cs) x h e = h

there : (os : List (Option Job)) (k : ℕ) (j : Job) → slice_index_or os k None ≡ Some j → k < length os
there os k j e = elim (cases_lt k (length os)) [
  | inl l ↦ l
  | inr ge ↦ let none : slice_index_or os k None ≡ None = get_or_past os k None (omega arith) in absurd (let wrong : None ≡ Some j = sym none ∙ e in cc)
]

module _ (t : Table) (k : ℕ) (j i : Job) (x : Channel) (low : k < slots) (was : job_at t k ≡ Some j)
    (is : i ≡ record j { channels = slice_set j.channels 0 x }) where
  opened_here : (n : ℕ) → channel_by (slice_index_or (slice_set t.jobs k (Some i)) k None) n ≡ slice_index_or (slice_set j.channels 0 x) n Closed
  opened_here n = ap (λ o. channel_by o n) (get_or-set_same t.jobs k (Some i) None (there t.jobs k j was))
      ∙ ap (λ (r : Job). slice_index_or r.channels n Closed) is

  opened_other : (m n : ℕ) → m ≢ k → channel_by (slice_index_or (slice_set t.jobs k (Some i)) m None) n ≡ channel_at t m n
  opened_other m n ne = ap (λ o. channel_by o n) (get_or-set_other t.jobs k m (Some i) None ne)

  was_there : (n : ℕ) → channel_at t k n ≡ slice_index_or j.channels n Closed
  was_there n = ap (λ o. channel_by o n) was

  first_opened : (n : ℕ) → IsElsewhere x → Elsewhere t → IsElsewhere (slice_index_or (slice_set j.channels 0 x) n Closed)
  first_opened n h e = elim (cases_eq n 0) [
    | inl z ↦ subst (λ q. IsElsewhere (slice_index_or (slice_set j.channels 0 x) q Closed)) (sym z)
        (set_first j.channels x h (subst IsElsewhere (was_there 0) (e.each k 0)))
    | inr z ↦ subst IsElsewhere (sym (get_or-set_other j.channels 0 n x Closed z)) (subst IsElsewhere (was_there n) (e.each k n))
  ]

  pub elsewhere_opened : IsElsewhere x → Elsewhere t → Elsewhere (record t { jobs = slice_set t.jobs k (Some i) })
  elsewhere_opened h e = record {
    past_slots = λ m n l. opened_other m n (λ s. omega arith) ∙ e.past_slots m n l;
    past_numbers = λ m n l. elim (cases_eq m k) [
      | inl s ↦
          ap (λ p. channel_by (slice_index_or (slice_set t.jobs k (Some i)) p None) n) s ∙ opened_here n
          ∙ get_or-set_other j.channels 0 n x Closed (λ z. omega arith) ∙ sym (was_there n)
          ∙ e.past_numbers k n l
      | inr ne ↦ opened_other m n ne ∙ e.past_numbers m n l
    ];
    each = λ m n. elim (cases_eq m k) [
      | inl s ↦ subst (λ p. IsElsewhere (channel_by (slice_index_or (slice_set t.jobs k (Some i)) p None) n)) (sym s)
          (subst IsElsewhere (sym (opened_here n)) (first_opened n h e))
      | inr ne ↦ subst IsElsewhere (sym (opened_other m n ne)) (e.each m n)
    ];
  }

-- the changes of a call that tests make
pub can_made : (w : World) (j s u n : ℕ) → is_some (job_at w.jobs j) ≡ true → least_free w.jobs.limit (job_at w.jobs) ≡ Some s
    → CanMakeAll (changes.Make s u n ∷ []) j (state_of w)
can_made w j s u n some free = ((raw_has w j ∙ some, least_raw w ∙ free), tt)

pub can_poked : (w : World) (j s a x : ℕ) → s < slots → a < 16 → is_some (job_at w.jobs s) ≡ true → Tidy w
    → can_store (core_at w.core s) a ≡ true → CanMakeAll (changes.Poke s a x ∷ []) j (state_of w)
can_poked w j s a x l few some tidy can =
    let there : HasJob (state_of w) s = raw_has w s ∙ some in
    (record { slot = l; address = omega arith; job = there; can = ap (λ (c : Core). can_store c a) (core_raw w s tidy) ∙ can }, tt)

pub can_removed : (w : World) (j s : ℕ) → s < slots → is_some (job_at w.jobs s) ≡ true → j ≢ s → IsTree w.jobs.jobs w.jobs.superiors
    → is_below (superior_at w.jobs) s j ≡ false
    → Sound (state_of w) → ((k : ℕ) → (state_of w).frames k ≡ None) → ((k : ℕ) → (state_of w).reserved k ≡ None)
    → CanMakeAll (changes.Remove s ∷ []) j (state_of w)
can_removed w j s l some ne tree below sound frames pages =
    let stays : is_gone (superiors (state_of w).raw) s j ≡ false =
    ap (λ (sup : ℕ → Option ℕ). is_gone sup s j) (superiors_are w tree) ∙ ap (λ (b : Bool). b || is_below (superior_at w.jobs) s j) (ne_eqb j s ne) ∙ below in
    ((l, raw_has w s ∙ some, stays, record { sound = sound; unwound = λ k h. frames k; page = pages s }), tt)
