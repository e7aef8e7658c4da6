-- From what the monitor answered to a line of the state part to the result of its event.
use Rattle.std.specs.Prelude.{◌≡◌, ℕ, Bool, true, false, Option, Some, Result, Ok, Err, OnOk, IfErr, List, [], refl}
use Rattle.std.proofs.Common.{sym, ◌∙◌, ap, subst}
use Rattle.its_records.specs.declared.session.Event.{Event}
use Rattle.its_records.specs.declared.session.Event.TheVariants as events
use Rattle.its_records.specs.declared.session.Reason.{Reason}
use Rattle.its_records.specs.declared.session.Refusal.{Refusal}
use Rattle.its_records.specs.declared.state_line.Registers.{Registers}
use Rattle.its_records.specs.declared.state_line.StateLine.{StateLine}
use Rattle.its_records.specs.declared.state_line.StateLine.TheVariants as states
use Rattle.its_records.specs.Refusals.{reason_of}
use Rattle.its_plain.specs.Machine.{Names, Machine}
use Rattle.its_plain.specs.Machine.Own.{names_of}
use Rattle.its_plain.specs.Operator.{Block, no_block, Does, Refuses, Ticks, Quits, nobody, only, disturbs}
use Rattle.its_plain.specs.Operator.Jobs.{on_registers}
use Rattle.its_plain.specs.Operator.Lines.{Lined, Done, Peeks, operate, lined}
use Rattle.its_plain.specs.Operator.State.{after_registers, restored, with_job_made, with_alarm_set, with_bytes_waiting, with_disk, with_draft, with_end_shut, with_holder_set, with_link, with_superior_set, with_tty, with_usr, with_words_sent, with_words_written}
use Rattle.its_plain.specs.Operator.Version.{with_version}
use Rattle.its_stepped.specs.State.{State, plain}
use Rattle.its_stepped.specs.Sound.{Sound}
use Rattle.its_stepped.specs.Unwind.{unwound, help}
use Rattle.its_stepped.specs.Lines.{after_calm, refusal, told_by}
use Rattle.its_stepped.proofs.Lining.RefusalLaws as lining
use Rattle.its_world.specs.World.{state_of}
use Rattle.its_world.specs.declared.world.World.{World}
use Rattle.its_monitor.specs.Kept.{FileRefused, Lands}
use Rattle.its_monitor.specs.Kept as kept
use Rattle.its_top.specs.declared.sessions.shown.Over.{Over}
use Rattle.its_top.specs.declared.sessions.shown.Over.TheVariants as overs
use Rattle.its_top.specs.declared.sessions.shown.Shown.{Shown}
use Rattle.its_top.specs.declared.sessions.shown.Shown.TheVariants as shows
use Rattle.its_top.specs.Answer.{block_of}
use Rattle.its_top.specs.Leaving.{left_by}
use Rattle.its_top.specs.Performing.{GoesBy, LeavesBy, Performed, quiet}
use Rattle.its_top.specs.Telling.{goes_on_after}
use Rattle.its_top.proofs.EventLaws.{does, refuses}
use Rattle.its_top.proofs.PerformLaws.{disturbing, refused_calmed, silent_done, silent_refused, unseen}

-- an event that finds the same state as another one, and does the same there
leaves_as : (r : Result Shown Over) (v : State) (b : Block) (e f : Event) (w : World) (b' : Block) → after_calm v b e ≡ after_calm v b f
    → lined (after_calm v b f).raw b e ≡ lined (after_calm v b f).raw b f → LeavesBy r v b f w b' → LeavesBy r v b e w b'
leaves_as (Ok s) v b e f w b' calm same h = λ stays next.
    ap (λ x. left_by v x b stays (lined x.raw b e) next) calm ∙ ap (λ o. left_by v (after_calm v b f) b stays o next) same ∙ h stays next
leaves_as (Err overs.Ended) v b e f w b' calm same h = h
leaves_as (Err (overs.Refused q)) v b e f w b' calm same h = tt

goes_as : (r : Result Shown Over) (e f : Event) → goes_on_after e ≡ goes_on_after f → GoesBy r f → GoesBy r e
goes_as (Ok s) e f same h = same ∙ h
goes_as (Err overs.Ended) e f same h = same ∙ h
goes_as (Err (overs.Refused q)) e f same h = tt

as_event : (r : Result Shown Over) (v : State) (b : Block) (e f : Event) (w : World) (b' : Block) → after_calm v b e ≡ after_calm v b f
    → lined (after_calm v b f).raw b e ≡ lined (after_calm v b f).raw b f → goes_on_after e ≡ goes_on_after f → Performed r v b f w b' → Performed r v b e w b'
as_event r v b e f w b' calm same goes p = record {
  tells = λ n next. ap (λ x. told_by n v x b (lined x.raw b e) next) calm ∙ ap (λ o. told_by n v (after_calm v b f) b o next) same ∙ p.tells n next;
  goes = goes_as r e f goes p.goes;
  leaves = leaves_as r v b e f w b' calm same p.leaves;
  ready = p.ready;
}

-- a refused line, by the plain machine
is_refused : (o : Lined) (q : Reason) → refusal o ≡ Some q → o ≡ Done (Refuses q)
is_refused (Done (Refuses r)) q h = let k : r ≡ q = cc in ap (λ x. Done (Refuses x)) k
is_refused (Done (Does m out touched b)) q h = cc
is_refused (Done (Ticks s k)) q h = cc
is_refused (Done Quits) q h = cc
is_refused (Peeks s) q h = cc

-- a line that looks at files, and disturbs the job of a slot
filed : {T : Type 0} (r : Result Shown Over) (answer : Result T Refusal) (v : State) (b : Block) (l : StateLine) (s : ℕ) (w : World)
    (f : Machine → Result Machine Reason) → Sound v → r ≡ quiet answer → after_calm v b (events.Restore l) ≡ unwound (help v) s
    → ((m : Machine) → lined m b (events.Restore l) ≡ Done (disturbs s b (f m)))
    → OnOk answer (Lands (unwound (help v) s) (state_of w) (f (unwound (help v) s).raw)) → IfErr answer (λ e. FileRefused v f e)
    → Performed r v b (events.Restore l) w b
filed r (Ok x) v b l s w f sound i calm is d k =
    let c = unwound (help v) s in
    disturbing r (Ok x) v c b (events.Restore l) s w (f c.raw) i (record { calm = calm; is = is c.raw }) d tt
filed r (Err e) v b l s w f sound i calm is d k =
    let c = unwound (help v) s in
    let o = lined c.raw b (events.Restore l) in
    let first : refusal (lined (plain v) b (events.Restore l)) ≡ Some (reason_of e) = ap refusal (is (plain v) ∙ ap (λ x. Done (disturbs s b x)) k.plain) in
    let found : refusal o ≡ Some (reason_of e) =
    ap (λ x. refusal (lined x.raw b (events.Restore l))) (sym calm) ∙ sym (lining.refused_calmed v b (events.Restore l) sound) ∙ first in
    subst (λ x. Performed x v b (events.Restore l) w b) (sym i)
    (refuses v c b b (events.Restore l) e w (record { calm = calm; is = is_refused o (reason_of e) found }))

-- the same line under another name
pub at_line : (r : Result Shown Over) (v : State) (b : Block) (l k : StateLine) (w : World) (b' : Block) → l ≡ k
    → Performed r v b (events.Restore k) w b' → Performed r v b (events.Restore l) w b'
at_line r v b l k w b' h p = subst (λ x. Performed r v b (events.Restore x) w b') (sym h) p

-- after a line that leaves its block, what follows is about no job and no file
pub left_block : (r : Result Shown Over) (v : State) (b : Block) (e : Event) (w : World) (s : ℕ) (n : Names) → s ≡ no_block.slot → n ≡ no_block.file
    → Performed r v b e w no_block → Performed r v b e w (block_of s n)
left_block r v b e w s n at is p =
    subst (λ k. Performed r v b e w (block_of k n)) (sym at) (subst (λ x. Performed r v b e w (block_of no_block.slot x)) (sym is) p)

-- lines that are lines of the rest of a session too
pub clock_restored : (r : Result Shown Over) (v : State) (b : Block) (n : ℕ) (w : World) (b' : Block)
    → Performed r v b (events.Clock n) w b' → Performed r v b (events.Restore (states.Clock n)) w b'
unfolding lined operate restored after_calm
clock_restored r v b n w b' p = as_event r v b (events.Restore (states.Clock n)) (events.Clock n) w b' refl refl refl p

pub file_restored : (r : Result Shown Over) (v : State) (b : Block) (d x y : ℕ) (w : World) (b' : Block)
    → Performed r v b (events.File d x y) w b' → Performed r v b (events.Restore (states.File d x y)) w b'
unfolding lined operate restored after_calm
file_restored r v b d x y w b' p = as_event r v b (events.Restore (states.File d x y)) (events.File d x y) w b' refl refl refl p

pub file_words_restored : (r : Result Shown Over) (v : State) (b : Block) (ws : List ℕ) (w : World) (b' : Block)
    → Performed r v b (events.Append (record { items = ws })) w b' → Performed r v b (events.Restore (states.FileWords (record { items = ws }))) w b'
unfolding lined operate restored after_calm
file_words_restored r v b ws w b' p =
    as_event r v b (events.Restore (states.FileWords (record { items = ws }))) (events.Append (record { items = ws })) w b' refl refl refl p

pub core_words_restored : (r : Result Shown Over) (v : State) (b : Block) (a : ℕ) (ws : List ℕ) (w : World) (b' : Block)
    → Performed r v b (events.Words a (record { items = ws })) w b' → Performed r v b (events.Restore (states.CoreWords a (record { items = ws }))) w b'
unfolding lined operate restored after_calm
core_words_restored r v b a ws w b' p =
    as_event r v b (events.Restore (states.CoreWords a (record { items = ws }))) (events.Words a (record { items = ws })) w b' refl refl refl p

pub read_only_restored : (r : Result Shown Over) (v : State) (b : Block) (p : ℕ) (w : World) (b' : Block)
    → Performed r v b (events.ReadOnly p) w b' → Performed r v b (events.Restore (states.ReadOnly p)) w b'
unfolding lined operate restored after_calm
read_only_restored r v b k w b' p = as_event r v b (events.Restore (states.ReadOnly k)) (events.ReadOnly k) w b' refl refl refl p

pub symbol_restored : (r : Result Shown Over) (v : State) (b : Block) (x a : ℕ) (w : World) (b' : Block)
    → Performed r v b (events.Symbol x a) w b' → Performed r v b (events.Restore (states.Symbol x a)) w b'
unfolding lined operate restored after_calm
symbol_restored r v b x a w b' p = as_event r v b (events.Restore (states.Symbol x a)) (events.Symbol x a) w b' refl refl refl p

-- lines that disturb a job
pub regs_restored : {T : Type 0} (r : Result Shown Over) (answer : Result T Refusal) (v : State) (s : ℕ) (n : Names) (g : Registers) (w : World)
    → r ≡ quiet answer
    → OnOk answer (Lands (unwound v s) (state_of w) (on_registers (unwound v s).raw s (after_registers g)))
    → IfErr answer (λ e. kept.Refused v (unwound v s) (λ m. on_registers m s (after_registers g)) e)
    → Performed r v (block_of s n) (events.Restore (states.Regs g)) w (block_of s n)
unfolding lined operate restored after_calm
regs_restored r answer v s n g w i d k = disturbing r answer v (unwound v s) (block_of s n) (events.Restore (states.Regs g)) s w _ i
    (record { calm = refl; is = refl }) d (refused_calmed answer v (unwound v s) (λ m. on_registers m s (after_registers g)) k)

pub alarm_restored : {T : Type 0} (r : Result Shown Over) (answer : Result T Refusal) (v : State) (b : Block) (s p n : ℕ) (w : World) → r ≡ quiet answer
    → OnOk answer (Lands (unwound v s) (state_of w) (with_alarm_set (unwound v s).raw s p n))
    → IfErr answer (λ e. kept.Refused v (unwound v s) (λ m. with_alarm_set m s p n) e) → Performed r v b (events.Restore (states.Alarm s p n)) w b
unfolding lined operate restored after_calm
alarm_restored r answer v b s p n w i d k = disturbing r answer v (unwound v s) b (events.Restore (states.Alarm s p n)) s w _ i
    (record { calm = refl; is = refl }) d (refused_calmed answer v (unwound v s) (λ m. with_alarm_set m s p n) k)

pub under_restored : {T : Type 0} (r : Result Shown Over) (answer : Result T Refusal) (v : State) (b : Block) (s t : ℕ) (w : World) → r ≡ quiet answer
    → OnOk answer (Lands (unwound v s) (state_of w) (with_superior_set (unwound v s).raw s t))
    → IfErr answer (λ e. kept.Refused v (unwound v s) (λ m. with_superior_set m s t) e) → Performed r v b (events.Restore (states.Under s t)) w b
unfolding lined operate restored after_calm
under_restored r answer v b s t w i d k = disturbing r answer v (unwound v s) b (events.Restore (states.Under s t)) s w _ i
    (record { calm = refl; is = refl }) d (refused_calmed answer v (unwound v s) (λ m. with_superior_set m s t) k)

pub tty_restored : {T : Type 0} (r : Result Shown Over) (answer : Result T Refusal) (v : State) (b : Block) (s n : ℕ) (out : Bool) (w : World)
    → r ≡ quiet answer
    → OnOk answer (Lands (unwound v s) (state_of w) (with_tty (unwound v s).raw s n out))
    → IfErr answer (λ e. kept.Refused v (unwound v s) (λ m. with_tty m s n out) e) → Performed r v b (events.Restore (states.Tty s n out)) w b
unfolding lined operate restored after_calm
tty_restored r answer v b s n out w i d k = disturbing r answer v (unwound v s) b (events.Restore (states.Tty s n out)) s w _ i
    (record { calm = refl; is = refl }) d (refused_calmed answer v (unwound v s) (λ m. with_tty m s n out) k)

pub usr_restored : {T : Type 0} (r : Result Shown Over) (answer : Result T Refusal) (v : State) (b : Block) (s n t : ℕ) (out : Bool) (at : ℕ) (w : World)
    → r ≡ quiet answer
    → OnOk answer (Lands (unwound v s) (state_of w) (with_usr (unwound v s).raw s n t out at))
    → IfErr answer (λ e. kept.Refused v (unwound v s) (λ m. with_usr m s n t out at) e) → Performed r v b (events.Restore (states.Usr s n t out at)) w b
unfolding lined operate restored after_calm
usr_restored r answer v b s n t out at w i d k = disturbing r answer v (unwound v s) b (events.Restore (states.Usr s n t out at)) s w _ i
    (record { calm = refl; is = refl }) d (refused_calmed answer v (unwound v s) (λ m. with_usr m s n t out at) k)

pub link_restored : {T : Type 0} (r : Result Shown Over) (answer : Result T Refusal) (v : State) (b : Block) (s n l : ℕ) (out : Bool) (x y : ℕ) (w : World)
    → r ≡ quiet answer
    → OnOk answer (Lands (unwound v s) (state_of w) (with_link (unwound v s).raw s n l out x y))
    → IfErr answer (λ e. kept.Refused v (unwound v s) (λ m. with_link m s n l out x y) e) → Performed r v b (events.Restore (states.Join s n l out x y)) w b
unfolding lined operate restored after_calm
link_restored r answer v b s n l out x y w i d k = disturbing r answer v (unwound v s) b (events.Restore (states.Join s n l out x y)) s w _ i
    (record { calm = refl; is = refl }) d (refused_calmed answer v (unwound v s) (λ m. with_link m s n l out x y) k)

pub disk_restored : {T : Type 0} (r : Result Shown Over) (answer : Result T Refusal) (v : State) (b : Block) (s n d x y at : ℕ) (w : World) → Sound v
    → r ≡ quiet answer → OnOk answer (Lands (unwound (help v) s) (state_of w) (with_disk (unwound (help v) s).raw s n (names_of d x y) at))
    → IfErr answer (λ e. FileRefused v (λ m. with_disk m s n (names_of d x y) at) e) → Performed r v b (events.Restore (states.Disk s n d x y at)) w b
unfolding lined operate restored after_calm
disk_restored r answer v b s n d x y at w sound i g k =
    filed r answer v b (states.Disk s n d x y at) s w (λ m. with_disk m s n (names_of d x y) at) sound i refl (λ m. refl) g k

pub draft_restored : {T : Type 0} (r : Result Shown Over) (answer : Result T Refusal) (v : State) (b : Block) (s n d x y : ℕ) (w : World) → Sound v
    → r ≡ quiet answer → OnOk answer (Lands (unwound (help v) s) (state_of w) (with_draft (unwound (help v) s).raw s n (names_of d x y)))
    → IfErr answer (λ e. FileRefused v (λ m. with_draft m s n (names_of d x y)) e) → Performed r v b (events.Restore (states.Draft s n d x y)) w b
unfolding lined operate restored after_calm
draft_restored r answer v b s n d x y w sound i g k =
    filed r answer v b (states.Draft s n d x y) s w (λ m. with_draft m s n (names_of d x y)) sound i refl (λ m. refl) g k

pub wrote_restored : {T : Type 0} (r : Result Shown Over) (answer : Result T Refusal) (v : State) (b : Block) (s n : ℕ) (ws : List ℕ) (w : World) → Sound v
    → r ≡ quiet answer → OnOk answer (Lands (unwound (help v) s) (state_of w) (with_words_written (unwound (help v) s).raw s n ws))
    → IfErr answer (λ e. FileRefused v (λ m. with_words_written m s n ws) e) → Performed r v b (events.Restore (states.Wrote s n (record { items = ws }))) w b
unfolding lined operate restored after_calm
wrote_restored r answer v b s n ws w sound i d k =
    filed r answer v b (states.Wrote s n (record { items = ws })) s w (λ m. with_words_written m s n ws) sound i refl (λ m. refl) d k

-- lines that disturb nobody
pub sent_restored : {T : Type 0} (r : Result Shown Over) (answer : Result T Refusal) (v : State) (b : Block) (l : ℕ) (ws : List ℕ) (w : World)
    → r ≡ quiet answer
    → OnOk answer (Lands v (state_of w) (with_words_sent v.raw l ws))
    → IfErr answer (λ e. kept.Refused v v (λ m. with_words_sent m l ws) e) → Performed r v b (events.Restore (states.Sent l (record { items = ws }))) w b
unfolding lined operate restored after_calm
sent_restored r answer v b l ws w i d k = unseen r answer v v b (events.Restore (states.Sent l (record { items = ws }))) w _ i
    (record { calm = refl; is = refl }) d (refused_calmed answer v v (λ m. with_words_sent m l ws) k)

pub shut_restored : {T : Type 0} (r : Result Shown Over) (answer : Result T Refusal) (v : State) (b : Block) (l : ℕ) (out : Bool) (w : World) → r ≡ quiet answer
    → OnOk answer (Lands v (state_of w) (with_end_shut v.raw l out))
    → IfErr answer (λ e. kept.Refused v v (λ m. with_end_shut m l out) e) → Performed r v b (events.Restore (states.EndShut l out)) w b
unfolding lined operate restored after_calm
shut_restored r answer v b l out w i d k = unseen r answer v v b (events.Restore (states.EndShut l out)) w _ i
    (record { calm = refl; is = refl }) d (refused_calmed answer v v (λ m. with_end_shut m l out) k)

pub input_restored : {T : Type 0} (r : Result Shown Over) (answer : Result T Refusal) (v : State) (b : Block) (c : ℕ) (bs : List ℕ) (w : World)
    → r ≡ quiet answer
    → OnOk answer (Lands v (state_of w) (with_bytes_waiting v.raw c false bs))
    → IfErr answer (λ e. kept.Refused v v (λ m. with_bytes_waiting m c false bs) e) → Performed r v b (events.Restore (states.Input c (record { items = bs }))) w b
unfolding lined operate restored after_calm
input_restored r answer v b c bs w i d k = unseen r answer v v b (events.Restore (states.Input c (record { items = bs }))) w _ i
    (record { calm = refl; is = refl }) d (refused_calmed answer v v (λ m. with_bytes_waiting m c false bs) k)

pub output_restored : {T : Type 0} (r : Result Shown Over) (answer : Result T Refusal) (v : State) (b : Block) (c : ℕ) (bs : List ℕ) (w : World)
    → r ≡ quiet answer
    → OnOk answer (Lands v (state_of w) (with_bytes_waiting v.raw c true bs))
    → IfErr answer (λ e. kept.Refused v v (λ m. with_bytes_waiting m c true bs) e) → Performed r v b (events.Restore (states.Output c (record { items = bs }))) w b
unfolding lined operate restored after_calm
output_restored r answer v b c bs w i d k = unseen r answer v v b (events.Restore (states.Output c (record { items = bs }))) w _ i
    (record { calm = refl; is = refl }) d (refused_calmed answer v v (λ m. with_bytes_waiting m c true bs) k)

pub holder_restored : {T : Type 0} (r : Result Shown Over) (answer : Result T Refusal) (v : State) (b : Block) (c s : ℕ) (w : World) → r ≡ quiet answer
    → OnOk answer (Lands v (state_of w) (with_holder_set v.raw c s))
    → IfErr answer (λ e. kept.Refused v v (λ m. with_holder_set m c s) e) → Performed r v b (events.Restore (states.Hold c s)) w b
unfolding lined operate restored after_calm
holder_restored r answer v b c s w i d k = unseen r answer v v b (events.Restore (states.Hold c s)) w _ i
    (record { calm = refl; is = refl }) d (refused_calmed answer v v (λ m. with_holder_set m c s) k)

-- SYSTEM, TURN and READY
machine_is : (r : Result Machine Reason) (m n : Machine) → r ≡ Ok m → r ≡ Ok n → m ≡ n
machine_is r m n a b = cc

pub system_restored : (v : State) (b : Block) (k : ℕ) (w : World) → Lands v (state_of w) (Ok (with_version v.raw k))
    → Performed (Ok shows.Nothing) v b (events.Restore (states.System k)) w no_block
unfolding lined operate restored after_calm
system_restored v b k w h =
    does v v (state_of w).raw b no_block (events.Restore (states.System k)) shows.Nothing w nobody
    (record {
      calm = refl;
      is = ap (λ m. Done (Does m [] nobody no_block)) (machine_is (Ok (with_version v.raw k)) (with_version v.raw k) (state_of w).raw refl h.is);
    }) h.rest tt

pub turn_restored : (b : Block) (s : ℕ) (w : World) → Performed (Ok shows.Nothing) (state_of w) b (events.Restore (states.Turn s)) w b
unfolding lined operate restored after_calm
turn_restored b s w = does (state_of w) (state_of w) (state_of w).raw b b (events.Restore (states.Turn s)) shows.Nothing w nobody
    (record { calm = refl; is = refl }) refl tt

pub ready_restored : (b : Block) (w : World) → Performed (Ok shows.Nothing) (state_of w) b (events.Restore states.Ready) w no_block
unfolding lined operate restored after_calm
ready_restored b w = does (state_of w) (state_of w) (state_of w).raw b no_block (events.Restore states.Ready) shows.Nothing w nobody
    (record { calm = refl; is = refl }) refl tt

-- JOB, whose lines that follow are about the new job
pub job_restored : (v : State) (b : Block) (s u j : ℕ) (console : Option ℕ) (w : World)
    → Lands v (state_of w) (with_job_made v.raw s u j console)
    → Performed (Ok shows.Nothing) v b (events.Restore (states.Job s u j console)) w (record b { slot = s })
unfolding lined operate restored after_calm
job_restored v b s u j console w h =
    silent_done v v b (record b { slot = s }) (events.Restore (states.Job s u j console)) w _ (disturbs s (record b { slot = s })) (only s) (λ m. refl)
    (record { calm = refl; is = refl }) h

pub job_refused : (v : State) (b b' : Block) (s u j : ℕ) (console : Option ℕ) (e : Refusal) (w : World)
    → kept.Refused v v (λ m. with_job_made m s u j console) e
    → Performed (Err (overs.Refused e)) v b (events.Restore (states.Job s u j console)) w b'
unfolding lined operate restored after_calm
job_refused v b b' s u j console e w h =
    silent_refused v v b b' (events.Restore (states.Job s u j console)) w _ (disturbs s (record b { slot = s })) e (λ q. refl)
    (record { calm = refl; is = refl }) h.calmed
