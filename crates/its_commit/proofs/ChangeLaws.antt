-- Each change in code is its effect on the state.
use Rattle.std.specs.Prelude.{◌≡◌, ◌<◌, ◌+◌, ◌%◌, ◌^◌, ℕ, suc, Bool, true, false, length, Option, Some, None, IsSome, is_some, List, [], ◌∷◌, ◌++◌, option_map, slice_index_or, refl}
use Rattle.std.proofs.Common.{sym, ap, ◌∙◌, subst, arith, drop, drop-cons}
use Rattle.its_word.specs.Console.{most_waiting}
use Rattle.its_word.specs.Core.{Core, no_core, zero_page, page_of, with_page, marked, can_store, store, pages_mapped}
use Rattle.its_word.specs.Limits.{most_pages}
use Rattle.its_records.specs.Links.{most_link_words}
use Rattle.its_word.specs.Stores.{stored}
use Rattle.its_records.specs.Tree.{least_free, fresh_job}
use Rattle.its_records.specs.declared.jobs.Channel.TheVariants as channels
use Rattle.its_records.specs.declared.jobs.Job.{Job}
use Rattle.its_records.proofs.FreeLaws.{least_empty, none_is}
use Rattle.its_core.specs.Cores.{core_at, clear_at}
use Rattle.its_files.specs.Files.{Store}
use Rattle.its_jobs.specs.Table.{job_at, superior_at}
use Rattle.its_frame.specs.declared.change.Change.{Change}
use Rattle.its_frame.specs.declared.change.Change.TheVariants as changes
use Rattle.its_frame.specs.declared.variable.Variable.{Variable}
use Rattle.its_pipes.specs.Pipes.{piped}
use Rattle.its_plain.specs.Call.Link.{words_in}
use Rattle.its_plain.specs.Machine.Change.{with_alarm, with_inf, after_take, after_put, on_console, on_link, with_sent, with_received, poke, console_in, with_page_at, with_protection, effect}
use Rattle.its_plain.specs.Machine.Registers.{INF, with_pending}
use Rattle.its_plain.specs.Machine.Own.{with_registers, with_stores, with_variable}
use Rattle.its_plain.specs.Machine.{Shut, Whole, whole, with_new, core_of, mapped, limit}
use Rattle.its_stepped.specs.Lines.{with_raw}
use Rattle.its_stepped.specs.State.{State}
use Rattle.its_stepped.specs.Commit.{effect_on, effects_on}
use Rattle.its_shared.proofs.BareLaws.{variable_bare, variable_channels}
use Rattle.its_commit.proofs.TidyLaws.{tidy_core, tidy_put}
use Rattle.its_commit.proofs.OwedLaws.{one_stored}
use Rattle.its_core.specs.Frames.{Frames}
use Rattle.its_commit.specs.Pages.{all_pages_changed, pages_changed}
use Rattle.its_shared.specs.Can.{HasPage}
use Rattle.its_commit.specs.Built.{Maps, CanMake, CanMakeAll}
use Rattle.its_world.specs.Made.{JobMade}
use Rattle.its_world.specs.Mapped.{PageMapped}
use Rattle.its_world.specs.Storage.{HasJob, chan_in, IsElsewhere}
use Rattle.its_world.specs.Tidy.{channel_at, Tidy}
use Rattle.its_world.specs.World.{alarm_at, AlarmBecomes, state_of, bare, chan_of, raw_of, frame_at, in_raw, console_at, with_frames, Becomes, CoreBecomes, JobBecomes, ConsoleBecomes, LinkBecomes}
use Rattle.its_world.specs.declared.world.World.{World}
use Rattle.its_world.proofs.MappedLaws.{core_raw, mapped_raw, mapped_state, mapped_tidy, frames_tidy}
use Rattle.its_world.proofs.AlarmLaws.{alarm_tidy}
use Rattle.its_world.proofs.MadeLaws.{made_state, made_tidy, least_raw, least_blank, least_nameless, least_quiet}
use Rattle.its_world.proofs.StorageLaws.{chan_shut, has_job}
use Rattle.its_world.proofs.StateLaws.{raw_job, job_of, changed_state, absent_state, console_state, link_state, frames_state}
use Rattle.its_world.proofs.ContentsLaws.{core_as}

pub inf_set : (old new : World) (s : ℕ) (j : Job) (o : Option Job) → o ≡ job_at old.jobs s → o ≡ Some j → JobBecomes old new s (with_pending j INF)
    → state_of new ≡ in_raw (state_of old) s with_inf
inf_set old new s j o e i b = changed_state old new s _ (with_pending j INF) j with_inf b (sym e ∙ i) refl

pub inf_missing : (w : World) (s : ℕ) (o : Option Job) → o ≡ job_at w.jobs s → o ≡ None → state_of w ≡ in_raw (state_of w) s with_inf
inf_missing w s o e i = absent_state w s with_inf (sym e ∙ i)

-- a variable
raw_variable : (files : Store) (c : Core) (sup : Option ℕ) (a : Option (ℕ × ℕ)) (j i k : Job) → k ≡ bare i → j.channels ≡ i.channels
    → record { core = c; job = k; superior = sup; channels = λ n. chan_of files (slice_index_or j.channels n channels.Closed); alarm = a } ≡
    raw_job files c i sup a
raw_variable files c sup a j i k e f = λ t. record {
  core = c;
  job = e t;
  superior = sup;
  channels = λ n. chan_of files (slice_index_or (f t) n channels.Closed);
  alarm = a;
}

pub variable_set : (old new : World) (s v : ℕ) (x : Variable) (j : Job) (o : Option Job) → o ≡ job_at old.jobs s → o ≡ Some j
    → JobBecomes old new s (with_variable x v j)
    → state_of new ≡ in_raw (state_of old) s (with_registers (with_variable x v))
variable_set old new s v x j o e i b =
    changed_state old new s _ (with_variable x v j) j (with_registers (with_variable x v)) b (sym e ∙ i)
    (raw_variable old.files (core_at old.core s) (superior_at old.jobs s) (alarm_at old.alarms.items s) j (with_variable x v j) _
    (variable_bare x v j) (sym (variable_channels x v j)))

pub variable_tidy : (old new : World) (s v : ℕ) (x : Variable) (i j : Job) (o : Option Job) → o ≡ job_at old.jobs s → o ≡ Some j
    → i ≡ with_variable x v j → JobBecomes old new s i
    → Tidy old → Tidy new
variable_tidy old new s v x i j o e is same b tidy = tidy_put old new s _ j i _ _ (sym e ∙ is)
    (ap (λ (k : Job). k.channels) same ∙ variable_channels x v j) b tidy

pub variable_missing : (w : World) (s v : ℕ) (x : Variable) (o : Option Job) → o ≡ job_at w.jobs s → o ≡ None
    → state_of w ≡ in_raw (state_of w) s (with_registers (with_variable x v))
variable_missing w s v x o e i = absent_state w s (with_registers (with_variable x v)) (sym e ∙ i)

-- a list of changes
pub none_made : (w : World) (s : ℕ) → state_of w ≡ effects_on [] s (state_of w)
none_made w s = refl

effects_more : (cs : List Change) (c : Change) (s : ℕ) (w : State) → effects_on (cs ++ c ∷ []) s w ≡ effect_on c s (effects_on cs s w)
effects_more [] c s w = refl
effects_more (d ∷ cs) c s w = effects_more cs c s (effect_on d s w)

-- the next change of a list
pub next_made : (cs : List Change) (i s : ℕ) (c : Change) (w : State) → i < length cs → c ≡ slice_index_or cs i c
    → effects_on (drop i cs) s w ≡ effects_on (drop (i + 1) cs) s (effect_on c s w)
next_made cs i s c w l h =
    let e : drop i cs ≡ c ∷ drop (i + 1) cs = drop-cons cs i c l ∙ (λ t. sym h t ∷ drop (step t) cs) in
    ap (λ ds. effects_on ds s w) e
  where
    step : suc i ≡ i + 1
    step = omega arith

pub pages_next : (cs : List Change) (i s : ℕ) (c : Change) (w : State) (f : Frames) → i < length cs → c ≡ slice_index_or cs i c
    → all_pages_changed (drop i cs) s w f ≡ all_pages_changed (drop (i + 1) cs) s (effect_on c s w) (pages_changed c s w f)
pages_next cs i s c w f l h =
    let e : drop i cs ≡ c ∷ drop (i + 1) cs = drop-cons cs i c l ∙ (λ t. sym h t ∷ drop (step t) cs) in
    ap (λ ds. all_pages_changed ds s w f) e
  where
    step : suc i ≡ i + 1
    step = omega arith

can_at : (ds : List Change) (c : Change) (rest : List Change) (j : ℕ) (w : State) → ds ≡ c ∷ rest → CanMakeAll ds j w → CanMake c j w
    × CanMakeAll rest j (effect_on c j w)
can_at ds c rest j w e h = subst (λ xs. CanMakeAll xs j w) e h

can_split : (cs : List Change) (i j : ℕ) (c : Change) (w : State) → i < length cs → c ≡ slice_index_or cs i c → CanMakeAll (drop i cs) j w
    → CanMake c j w × CanMakeAll (drop (i + 1) cs) j (effect_on c j w)
can_split cs i j c w l h b =
    let e : drop i cs ≡ c ∷ drop (i + 1) cs = drop-cons cs i c l ∙ (λ t. sym h t ∷ drop (step t) cs) in
    can_at (drop i cs) c (drop (i + 1) cs) j w e b
  where
    step : suc i ≡ i + 1
    step = omega arith

pub can_first : (cs : List Change) (i j : ℕ) (c : Change) (w : State) → i < length cs → c ≡ slice_index_or cs i c → CanMakeAll (drop i cs) j w → CanMake c j w
can_first cs i j c w l h b = (can_split cs i j c w l h b).0

pub can_next : (cs : List Change) (i j : ℕ) (c : Change) (w v : State) → i < length cs → c ≡ slice_index_or cs i c → v ≡ effect_on c j w
    → CanMakeAll (drop i cs) j w
    → CanMakeAll (drop (i + 1) cs) j v
can_next cs i j c w v l h e b = subst (CanMakeAll (drop (i + 1) cs) j) (sym e) (can_split cs i j c w l h b).1

-- a closed channel is on neither a file nor a draft
pub closed_elsewhere : (w : World) (s n : ℕ) → chan_in (state_of w) s n ≡ Shut → IsElsewhere (channel_at w.jobs s n)
closed_elsewhere w s n e = subst IsElsewhere (sym (chan_shut w s n e)) tt

-- consoles
pub byte_taken : (old new : World) (c : ℕ) → ConsoleBecomes old new c (after_take (console_at old.consoles.items c))
    → state_of new ≡ with_raw (state_of old) (on_console (state_of old).raw c after_take)
byte_taken old new c b = console_state old new c after_take b

pub byte_put : (old new : World) (c x : ℕ) → ConsoleBecomes old new c (after_put x (console_at old.consoles.items c))
    → state_of new ≡ with_raw (state_of old) (on_console (state_of old).raw c (after_put x))
byte_put old new c x b = console_state old new c (after_put x) b

pub console_room : (w : World) (c : ℕ) → length ((state_of w).raw.consoles c).output < most_waiting
    → length (console_at w.consoles.items c).output < most_waiting
unfolding state_of
console_room w c h = h

-- links
pub word_sent : (old new : World) (l x : ℕ) → LinkBecomes old new l (option_map (with_sent x) (piped old.pipes l))
    → state_of new ≡ with_raw (state_of old) (on_link (state_of old).raw l (option_map (with_sent x)))
word_sent old new l x b = link_state old new l (option_map (with_sent x)) b

pub word_received : (old new : World) (l : ℕ) → LinkBecomes old new l (option_map with_received (piped old.pipes l))
    → state_of new ≡ with_raw (state_of old) (on_link (state_of old).raw l (option_map with_received))
word_received old new l b = link_state old new l (option_map with_received) b

pub link_there : (w : World) (l : ℕ) → is_some ((state_of w).raw.links l) ≡ true → is_some (piped w.pipes l) ≡ true
unfolding state_of
link_there w l h = h

pub link_room : (w : World) (l : ℕ) → length (words_in ((state_of w).raw.links l)) < most_link_words → length (words_in (piped w.pipes l)) < most_link_words
unfolding state_of
link_room w l h = h

-- a word of a job, and a page
core_written : (old new : World) (s : ℕ) (c : Core) (h : Whole → Whole) → HasJob (state_of old) s → CoreBecomes old new s c
    → ((j : Job) → h (raw_job old.files (core_at old.core s) j (superior_at old.jobs s) (alarm_at old.alarms.items s)) ≡ raw_job old.files c
    j (superior_at old.jobs s) (alarm_at old.alarms.items s)) → state_of new ≡ in_raw (state_of old) s h
core_written old new s c h job b e =
    let j = job_of (job_at old.jobs s) (has_job old s job) in
    changed_state old new s c j.0 j.0 h (subst (λ (o : Option Job). Becomes old new s c o (frame_at old.frames.items s)
    (clear_at old.core s)) j.1 b) j.1 (e j.0)

pub can_poke : (w : World) (s a : ℕ) → Tidy w → can_store (core_of ((state_of w).raw.jobs s)) a ≡ true → can_store (core_at w.core s) a ≡ true
can_poke w s a tidy can = subst (λ (c : Core). can_store c a ≡ true) (core_raw w s tidy) can

pub word_poked : (old new : World) (s a x : ℕ) → a < 2 ^ 18 → HasJob (state_of old) s → CoreBecomes old new s (store (core_at old.core s) a x)
    → state_of new ≡ in_raw (state_of old) s (with_stores (poke a x ∷ []))
word_poked old new s a x l job b =
    let c : Core = stored (core_at old.core s) (poke a x ∷ []) in
    let at : a % 2 ^ 18 ≡ a = omega arith in
    let d : CoreBecomes old new s c = one_stored old new s (core_at old.core s) (poke a x)
    (subst (λ (k : ℕ). CoreBecomes old new s (store (core_at old.core s) k x)) (sym at) b) in
    core_written old new s c (with_stores (poke a x ∷ [])) job d (λ j. refl)

pub page_dropped : (old new : World) (s k : ℕ) → HasPage (state_of old).raw s k
    → CoreBecomes old (with_frames new old.core.frames) s (with_page (core_at old.core s) k None)
    → state_of new ≡ in_raw (state_of old) s (with_page_at k None)
page_dropped old new s k can b = sym (frames_state new old.core.frames)
    ∙ core_written old (with_frames new old.core.frames) s _ (with_page_at k None) can.job b (λ j. refl)

pub page_protected : (old new : World) (s k : ℕ) (on : Bool) → HasPage (state_of old).raw s k
    → CoreBecomes old new s (with_page (core_at old.core s) k (marked (page_of (core_at old.core s) k) on))
    → state_of new ≡ in_raw (state_of old) s (with_protection k on)
page_protected old new s k on can b = core_written old new s _ (with_protection k on) can.job b (λ j. refl)

pub tidy_written : (old new : World) (s : ℕ) (c : Core) → HasJob (state_of old) s → CoreBecomes old new s c → Tidy old → Tidy new
tidy_written old new s c job b tidy = tidy_core old new s c (frame_at old.frames.items s) (clear_at old.core s) (has_job old s job) b tidy

-- a page that is there, and one that can be mapped
pub page_written : (old new : World) (s k : ℕ) (c : Core) → HasPage (state_of old).raw s k → CoreBecomes old new s c → Tidy old → Tidy new
page_written old new s k c can b tidy = tidy_written old new s c can.job b tidy

pub page_left : (old new : World) (s k : ℕ) (c : Core) → HasPage (state_of old).raw s k
    → CoreBecomes old (with_frames new old.core.frames) s c → Tidy old → Tidy new
page_left old new s k c can b tidy = frames_tidy new old.core.frames (page_written old (with_frames new old.core.frames) s k c can b tidy)

pub page_there : (w : World) (s k : ℕ) → Tidy w → HasPage (state_of w).raw s k → IsSome (page_of (core_at w.core s) k)
page_there w s k tidy can = ap (λ (c : Core). is_some (page_of c k)) (sym (core_raw w s tidy)) ∙ can.there

pub page_clear : (w : World) (j s k : ℕ) → Maps (state_of w) j s k → clear_at w.core j ≡ Some 4
unfolding state_of
page_clear w j s k can = can.clear

pub page_absent : (w : World) (j s k : ℕ) → Tidy w → Maps (state_of w) j s k → page_of (core_at w.core s) k ≡ None
page_absent w j s k tidy can = ap (λ (c : Core). page_of c k) (sym (core_raw w s tidy)) ∙ can.absent

pub never_full : (w : World) (j s k : ℕ) → Tidy w → Maps (state_of w) j s k → pages_mapped (core_at w.core) ≡ most_pages → ⊥
never_full w j s k tidy can full =
    let room : mapped (state_of w).raw < most_pages = can.room in
    let same = mapped_raw w tidy in
    omega arith

pub page_mapped : (old new : World) (j s k : ℕ) → PageMapped old new j s k (with_page (core_at old.core s) k (Some zero_page))
    → state_of new ≡ effect_on (changes.Map s k) j (state_of old)
unfolding effect_on effect
page_mapped old new j s k page = mapped_state old new j s k _ page (with_page_at k (Some zero_page)) (λ i. refl)

pub page_tidy : (old new : World) (j s k : ℕ) → Maps (state_of old) j s k
    → PageMapped old new j s k (with_page (core_at old.core s) k (Some zero_page)) → Tidy old → Tidy new
page_tidy old new j s k can page tidy = mapped_tidy old new j s k _ page (has_job old s can.job) tidy

-- the console of a job
pub console_some : (w : World) (s : ℕ) (j : Job) → Some j ≡ job_at w.jobs s → j.console ≡ console_in ((state_of w).raw.jobs s)
unfolding state_of
console_some w s j e = ap (λ (o : Option Job). console_in (raw_of w.files (core_at w.core s) (superior_at w.jobs s) (alarm_at w.alarms.items s) o)) e

pub console_none : (w : World) (s : ℕ) → None ≡ job_at w.jobs s → None ≡ console_in ((state_of w).raw.jobs s)
unfolding state_of
console_none w s e = ap (λ (o : Option Job). console_in (raw_of w.files (core_at w.core s) (superior_at w.jobs s) (alarm_at w.alarms.items s) o)) e

-- the slot that is free in the raw machine is the one in which a job is made
same_free : (w : World) (s k : ℕ) → least_free (limit (state_of w).raw) (state_of w).raw.jobs ≡ Some s
    → least_free w.jobs.limit (job_at w.jobs) ≡ Some k → k ≡ s
same_free w s k e f = let same : Some k ≡ Some s = sym f ∙ sym (least_raw w) ∙ e in cc

pub none_full : (w : World) (s : ℕ) → least_free (limit (state_of w).raw) (state_of w).raw.jobs ≡ Some s → least_free w.jobs.limit (job_at w.jobs) ≡ None → ⊥
none_full w s e f = let same : None ≡ Some s = sym f ∙ sym (least_raw w) ∙ e in cc

module _ (old new : World) (j k u n : ℕ) (console : Option ℕ) (made : JobMade old new k u n (Some j) console)
    (free : least_free old.jobs.limit (job_at old.jobs) ≡ Some k) (tidy : Tidy old) where
  pub inferior_made : (s : ℕ) → least_free (limit (state_of old).raw) (state_of old).raw.jobs ≡ Some s
      → console ≡ console_in ((state_of old).raw.jobs j) → state_of new ≡ effect_on (changes.Make s u n) j (state_of old)
  unfolding effect_on effect
  inferior_made s e c =
      made_state old new k u n (Some j) console made (least_blank old k tidy free) (least_quiet old k tidy free) (least_nameless old k tidy free)
      ∙ (λ t. with_raw (state_of old) (with_new (state_of old).raw (same_free old s k e free t) (whole no_core (fresh_job u n (c t)) (Some j))))

  pub inferior_tidy : Tidy new
  inferior_tidy = made_tidy old new k u n (Some j) console made (least_empty old.jobs.limit (job_at old.jobs) k free) tidy

-- an alarm, which a slot without a job does not get
pub armed_missing : (w : World) (s : ℕ) (a : Option (ℕ × ℕ)) (o : Option Job) → o ≡ job_at w.jobs s → is_some o ≡ false
    → state_of w ≡ in_raw (state_of w) s (with_alarm a)
armed_missing w s a o e i = absent_state w s (with_alarm a) (none_is (job_at w.jobs s) (ap is_some (sym e) ∙ i))

pub armed_tidy : (old new : World) (s : ℕ) (a : Option (ℕ × ℕ)) → is_some (job_at old.jobs s) ≡ true → AlarmBecomes old new s a → Tidy old → Tidy new
armed_tidy old new s a some b tidy = alarm_tidy old new s a b (λ none. let wrong : true ≡ false = sym some ∙ ap is_some none in absurd cc) tidy

pub armed_pages : (old new : World) (s : ℕ) (a : Option (ℕ × ℕ)) → AlarmBecomes old new s a → new.core.frames ≡ old.core.frames
armed_pages old new s a b = ap (λ k. k.frames) (core_as b.rest)
