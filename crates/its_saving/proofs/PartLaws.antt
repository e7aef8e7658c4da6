-- The lines of the raw machine of a world, by the parts of the world.
use Rattle.std.specs.Prelude.{if◌then◌else◌, ◌≡◌, ℕ, Bool, true, false, Option, Some, None, [], ◌∷◌, ◌++◌, refl}
use Rattle.std.proofs.Common.{sym, ◌∙◌, ap}
use Rattle.its_word.specs.Core.{Core}
use Rattle.its_word.specs.Limits.{slots, consoles}
use Rattle.its_records.specs.Links.{is_closed, most_links}
use Rattle.its_records.specs.declared.link.Link.{Link}
use Rattle.its_records.specs.declared.jobs.Job.{Job}
use Rattle.its_core.specs.Cores.{core_at}
use Rattle.its_jobs.specs.Table.{job_at, superior_at}
use Rattle.its_files.specs.Files.{Store, directory}
use Rattle.its_pipes.specs.Pipes.{Piping, link_in, pipe_by, piped, queue_at}
use Rattle.its_plain.specs.Call.Link.{words_in}
use Rattle.its_plain.specs.Machine.{Linked}
use Rattle.its_shared.specs.Parts.{alarm_at, console_at, holder_at, raw_at, raw_of, symbols_at}
use Rattle.its_world.specs.World.{state_of}
use Rattle.its_world.specs.declared.world.World.{World}
use Rattle.its_world.proofs.StorageLaws.{chan_is}
use Rattle.its_saved.specs.StateLine as state
use Rattle.its_saved.specs.Saving.{alarm_by, alarm_line, channel_lines, console_lines, each, end_names, files_lines, holder_line, in_rows, job_lines, link_lines, saved, under_by, under_line}
use Rattle.its_saving.specs.Parts.{files_part, job_part, jobs_lines}

job_by : (w : World) (f : Store) (u : Option ℕ) (a : Option (ℕ × ℕ)) (k : ℕ) (o : Option Job)
    → job_lines (symbols_at w.symbols.items) k (raw_of f (core_at w.core k) u a o) ≡ jobs_lines w k o
job_by w f u a k (Some j) = refl
job_by w f u a k None = refl

under_raw : (f : Store) (c : Core) (u : Option ℕ) (a : Option (ℕ × ℕ)) (k : ℕ) (o : Option Job) → (o ≡ None → u ≡ None)
    → under_line k (raw_of f c u a o) ≡ under_by k u
under_raw f c u a k (Some j) owned = refl
under_raw f c u a k None owned = ap (under_by k) (sym (owned refl))

alarm_raw : (f : Store) (c : Core) (u : Option ℕ) (a : Option (ℕ × ℕ)) (k : ℕ) (o : Option Job) → (o ≡ None → a ≡ None)
    → alarm_line k (raw_of f c u a o) ≡ alarm_by k a
alarm_raw f c u a k (Some j) quiet = refl
alarm_raw f c u a k None quiet = ap (alarm_by k) (sym (quiet refl))

module _ (w : World) where
  job_is : (k : ℕ) → job_lines (symbols_at w.symbols.items) k (raw_at w.files w.core w.jobs w.alarms.items k) ≡ job_part w k
  job_is k = job_by w w.files (superior_at w.jobs k) (alarm_at w.alarms.items k) k (job_at w.jobs k)

  pub saved_is : ((k : ℕ) → job_at w.jobs k ≡ None → superior_at w.jobs k ≡ None) → ((k : ℕ) → job_at w.jobs k ≡ None → alarm_at w.alarms.items k ≡ None)
      → saved (state_of w).raw ≡ (state.System w.version ∷ state.Clock w.clock ∷ []) ++ files_part w
  unfolding saved state_of
  saved_is owned quiet = λ i. state.System w.version ∷ state.Clock w.clock ∷ (files_lines (directory w.files)
      ++ (each (λ k. job_is k i) slots
      ++ (each (λ k. under_raw w.files (core_at w.core k) (superior_at w.jobs k) (alarm_at w.alarms.items k) k (job_at w.jobs k) (owned k) i) slots
      ++ (each (λ k. alarm_raw w.files (core_at w.core k) (superior_at w.jobs k) (alarm_at w.alarms.items k) k (job_at w.jobs k) (quiet k) i) slots
      ++ (each (λ k. each (λ n. channel_lines (state_of w).raw k n (chan_is w k n i)) 16) slots
      ++ (each (λ l. link_lines l (piped w.pipes l)) most_links
      ++ (each (console_lines (console_at w.consoles.items)) consoles
      ++ each (λ c. holder_line c (holder_at w.holders c)) consoles)))))))

-- a channel on a link
pub join_is : (w : World) (s n l : ℕ) (write : Bool) → channel_lines (state_of w).raw s n (Linked l write)
    ≡ state.Join s n l write (end_names (piped w.pipes l)).0 (end_names (piped w.pipes l)).1 ∷ []
unfolding state_of
join_is w s n l write = refl

-- a link that there is
pub link_is : (p : Piping) (l : ℕ) (k : Link) → link_in p l ≡ Some k
    → link_lines l (piped p l) ≡ in_rows (state.Sent l) 16 4 (words_in (piped p l))
    ++ ((if is_closed k.reader then state.EndShut l false ∷ [] else []) ++ (if is_closed k.writer then state.EndShut l true ∷ [] else []))
link_is p l k e =
    let is : piped p l ≡ Some (record { link = k; words = (queue_at p.queues l).items }) = ap (λ o. pipe_by o (queue_at p.queues l).items) e in
    ap (link_lines l) is ∙ ap (λ o. in_rows (state.Sent l) 16 4 (words_in o)
    ++ ((if is_closed k.reader then state.EndShut l false ∷ [] else []) ++ (if is_closed k.writer then state.EndShut l true ∷ [] else []))) (sym is)
