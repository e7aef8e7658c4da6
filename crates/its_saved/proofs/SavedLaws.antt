-- The lines that are written of a machine lead to it.
use Rattle.std.specs.Prelude.{if◌then◌else◌, ◌≡◌, ◌≤◌, ◌<◌, ◌&&◌, ℕ, zero, suc, ◌+◌, ◌^◌, Bool, true, false, Option, Some, None, IfSome, [], ◌∷◌, ◌++◌, option_map, nat_lt, is_some, sum_by, refl}
use Rattle.std.specs.List.{range_with_len}
use Rattle.std.proofs.Common.{sym, ◌∙◌, ap, arith}
use Rattle.std.proofs.lemmas.Bool.Decides.{nat_tests}
use Rattle.std.proofs.lemmas.Option.{same_Some}
use Rattle.std.proofs.lemmas.List.Sums.{sum_by-cons}
use Rattle.its_word.specs.Limits.{slots, consoles}
use Rattle.its_records.specs.Links.{most_links}
use Rattle.its_plain.specs.Machine.{Whole, Machine, no_machine, no_bytes}
use Rattle.its_plain.specs.Machine.Change.{channel_in}
use Rattle.its_plain.specs.Operator.Clock.{after_clock, after_clock_if, after_alarm_if, due, clock_end}
use Rattle.its_plain.specs.Operator.Jobs.{new_job}
use Rattle.its_plain.specs.Operator.Version.{with_version}
use Rattle.its_records.proofs.FreeLaws.{no_job_at_all}
use Rattle.its_plain.specs.Operator.Files.{channels_of, with_files}
use Rattle.its_plain.specs.Call.File.{blocks_on, blocks_of_drafts}
use Rattle.std.specs.Result.{result_ok}
use Rattle.its_saved.specs.Building.{build, build_all}
use Rattle.its_saved.specs.Saving.{each, job_lines, under_line, alarm_line, channel_lines, link_lines, console_lines, holder_line, files_lines, saved}
use Rattle.its_saved.specs.WellFormed.{WellFormed}
use Rattle.its_saved.specs.StateLine as state
use Rattle.its_saved.proofs.LeadLaws.{Leads, leads_line, leads_append, leads_to, leads_from}
use Rattle.its_saved.proofs.ConsoleLaws.{consoles_lead, holders_lead}
use Rattle.its_saved.proofs.JobLaws.{bare, jobs_upto, jobs_lead}
use Rattle.its_saved.proofs.TreeLaws.{rooted, timed, superiors_lead, alarms_lead}
use Rattle.its_saved.proofs.CoreLaws.{core_leads}
use Rattle.its_saved.proofs.RoomLaws.{block_room}
use Rattle.its_saved.proofs.FileLaws.{files_lead}
use Rattle.its_saved.proofs.ChannelLaws.{opened}
use Rattle.its_saved.proofs.NeedLaws.{channels_fit, past_slots, drafts_fit, link_fits, job_fits, core_hollow, alarm_comes}
use Rattle.its_saved.proofs.LinkLaws.{channels_lead, none_opened, links_lead}

-- the machine before the files
abbrev started : Machine → Machine
started m = record {
  jobs = λ k. None;
  consoles = λ c. no_bytes;
  holders = λ c. None;
  files = [];
  clock = m.clock;
  version = m.version;
  symbols = λ k. [];
  links = λ l. None;
}

abbrev versioned : Machine → Machine
versioned m = record (started m) { clock = 0 }

version_done : (m : Machine) → build no_machine (state.System m.version) ≡ Some (versioned m)
unfolding build no_machine with_version
version_done m = ap (λ b. Some (if b then versioned m else no_machine)) (no_job_at_all (λ k. none k) (λ k. refl))
  where
    none : ℕ → Option Whole
    none k = None

clock_done : (m : Machine) → m.clock < clock_end → build (versioned m) (state.Clock m.clock) ≡ Some (started m)
unfolding build after_clock
clock_done m early =
    let t : nat_lt (0 + m.clock) clock_end ≡ true = (let h : 0 + m.clock < clock_end = omega arith in grind (arith, nat_tests)) in
    let z : 0 + m.clock ≡ m.clock = omega arith in
    ap (λ b. result_ok (after_clock_if (versioned m) m.clock b)) t
    ∙ (λ s. Some (record (started m) { jobs = λ k. nobody (due (0 + m.clock) (λ i. None) k) s; clock = z s }))
  where
    nobody : (b : Bool) → after_alarm_if (0 + m.clock) b None ≡ None
    nobody true = refl
    nobody false = refl

-- no draft at the beginning
no_sum : (f : ℕ → ℕ) (a n : ℕ) → ((k : ℕ) → f k ≡ 0) → sum_by f (range_with_len a n) ≡ 0
no_sum f a zero h = refl
no_sum f a (suc n) h =
    let x = sum_by-cons f a (range_with_len (a + 1) n) in
    let y = h a in
    let z = no_sum f (a + 1) n h in
    omega arith

no_drafts : (n : Machine) → ((k : ℕ) → n.jobs k ≡ None) → blocks_of_drafts (channels_of n) ≡ 0
unfolding blocks_of_drafts
no_drafts n none = no_sum (λ k. sum_by (λ i. blocks_on (channels_of n k i)) (range_with_len 0 16)) 0 slots
    (λ k. no_sum (λ i. blocks_on (channels_of n k i)) 0 16 (λ i. ap (λ o. blocks_on (channel_in o i)) (none k)))

-- the lines that are written of a machine lead from the first machine to it
pub restored : (m : Machine) → WellFormed m → build_all no_machine (saved m) ≡ Some m
unfolding saved
restored m fit = all.leads
  where
    filed : Machine
    filed = with_files (started m) m.files

    staffed : Machine
    staffed = record filed { jobs = λ k. option_map bare (m.jobs k); symbols = m.symbols }

    ordered : Machine
    ordered = record staffed { jobs = λ k. option_map rooted (m.jobs k) }

    clocked : Machine
    clocked = record staffed { jobs = λ k. option_map timed (m.jobs k) }

    wired : Machine
    wired = opened m clocked (λ s c. true)

    linked : Machine
    linked = record wired { links = m.links }

    spoken : Machine
    spoken = record linked { consoles = m.consoles }

    slots_end : (k : ℕ) → slots ≤ k → m.jobs k ≡ None
    slots_end = past_slots m fit

    fresh : Whole → Whole
    fresh q = new_job q.job.uname q.job.jname q.job.console

    files_part : Leads (started m) (files_lines m.files) filed
    files_part =
        files_lead (started m) [] m.files refl fit.types.apart (no_drafts (started m) (λ k. refl)) (let f = fit.types.few_files in omega arith)
        (let r = fit.types.few_blocks in omega arith)

    jobs_part : Leads filed (each (λ k. job_lines m.symbols k (m.jobs k)) slots) staffed
    jobs_part =
        jobs_lead m filed slots (λ k. refl) (λ k. refl) fit.types.nameless slots_end (λ k q l e. job_fits m fit k q e)
        (λ k q l e. core_leads (jobs_upto m filed k) k (fresh q) [] q.core (fit.types.cores k q e) (core_hollow m fit k q e)
        (block_room m filed k q (fresh q) [] l e (λ j. refl) fit.types.few_pages) refl)

    unders_part : Leads staffed (each (λ k. under_line k (m.jobs k)) slots) ordered
    unders_part = superiors_lead m staffed slots slots_end fit.forest.standing fit.forest.circle

    alarms_part : Leads ordered (each (λ k. alarm_line k (m.jobs k)) slots) clocked
    alarms_part = alarms_lead m staffed slots refl slots_end (alarm_comes m fit)

    channels_part : Leads clocked (each (λ k. each (λ n. channel_lines m k n (channel_in (m.jobs k) n)) 16) slots) wired
    channels_part =
        leads_from _ (opened m clocked (λ s c. false)) _ _ (sym (none_opened m clocked refl refl))
        (channels_lead m clocked (channels_fit m fit) (drafts_fit m fit) refl)

    links_part : Leads wired (each (λ l. link_lines l (m.links l)) most_links) linked
    links_part = links_lead m wired most_links (link_fits m fit) fit.types.past_links

    consoles_part : Leads linked (each (console_lines m.consoles) consoles) spoken
    consoles_part = consoles_lead m linked consoles (λ c. refl) fit.types.few_bytes fit.types.past_consoles

    same_jobs : (o : Option Whole) → option_map (λ q. q) o ≡ o
    same_jobs None = refl
    same_jobs (Some q) = refl

    job_kept : (h : Option ℕ) → IfSome h (λ s. is_some (m.jobs s) ≡ true) → IfSome h (λ s. is_some (spoken.jobs s) ≡ true)
    job_kept None x = x
    job_kept (Some s) x = ap is_some (same_jobs (m.jobs s)) ∙ x

    holders_part : Leads spoken (each (λ c. holder_line c (m.holders c)) consoles) m
    holders_part =
        leads_to _ _ _ _ (holders_lead m spoken consoles (λ c. refl) (λ c. job_kept (m.holders c) (fit.forest.holders c)) fit.types.past_holders)
        (λ t. record m { jobs = λ k. same_jobs (m.jobs k) t })

    all : Leads no_machine (saved m) m
    all =
        leads_append no_machine (versioned m) m (state.System m.version ∷ []) _ (leads_line _ _ _ (version_done m))
        (leads_append _ (started m) m (state.Clock m.clock ∷ []) _ (leads_line _ _ _ (clock_done m fit.timed))
        (leads_append _ filed m (files_lines m.files) _ files_part
        (leads_append _ staffed m _ _ jobs_part
        (leads_append _ ordered m _ _ unders_part
        (leads_append _ clocked m _ _ alarms_part
        (leads_append _ wired m _ _ channels_part
        (leads_append _ linked m _ _ links_part
        (leads_append _ spoken m _ _ consoles_part holders_part))))))))

-- what is saved of a machine that was built from what was saved is the same
pub saved_again : (m n : Machine) → WellFormed m → build_all no_machine (saved m) ≡ Some n → saved n ≡ saved m
saved_again m n fit e = ap saved (same_Some n m (sym e ∙ restored m fit))

-- no two machines have the same lines: nothing of a machine is anywhere else
pub saved_apart : (m n : Machine) → WellFormed m → WellFormed n → saved m ≡ saved n → m ≡ n
saved_apart m n fit also e = same_Some m n (sym (restored m fit) ∙ ap (build_all no_machine) e ∙ restored n also)
