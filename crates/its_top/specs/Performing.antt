-- The result of an event that was performed: what it shows, and the state of the session after it.
-- No promise rests on this.
use Rattle.std.specs.Prelude.{◌≡◌, ◌<◌, ◌≤◌, ◌^◌, ℕ, true, false, Result, Ok, Err, IfOk, None, List, [], ◌∷◌, length}
use Rattle.its_files.specs.Files.{entry_at, is_file, words_at}
use Rattle.its_records.specs.declared.session.Event.{Event}
use Rattle.its_records.specs.declared.session.Refusal.{Refusal}
use Rattle.its_print.specs.Printing.{Line}
use Rattle.its_print.specs.Printing as printed
use Rattle.its_print.specs.Replies.{FewParts, line_of}
use Rattle.its_plain.specs.Operator.{Block}
use Rattle.its_plain.specs.Operator.Files.{files_in, listing, shown_lines}
use Rattle.its_plain.specs.Transcript.{Ended, Refused}
use Rattle.its_stepped.specs.State.{State}
use Rattle.its_stepped.specs.Lines.{Told, telling, line_told}
use Rattle.its_world.specs.World.{state_of}
use Rattle.its_world.specs.declared.world.World.{World}
use Rattle.its_records.specs.Refusals.{reason_of}
use Rattle.its_top.specs.declared.sessions.shown.Over.{Over}
use Rattle.its_top.specs.declared.sessions.shown.Over.TheVariants as overs
use Rattle.its_top.specs.declared.sessions.shown.Shown.{Shown}
use Rattle.its_top.specs.declared.sessions.shown.Shown.TheVariants as shows
use Rattle.its_top.specs.declared.sessions.flow.Flow.{Flow}
use Rattle.its_top.specs.declared.sessions.flow.Flow.TheVariants as flows
use Rattle.its_top.specs.Telling.{goes_on_after}
use Rattle.its_top.specs.Leaving.{Left, line_left}

-- the lines that are shown of a world
abbrev pub lines_of : Shown → World → List Line
lines_of shows.Nothing w = []
lines_of (shows.Line reply) w = line_of reply ∷ []
lines_of (shows.Listed s a words) w = printed.listed s a words.now
lines_of (shows.Files d n) w = listing d (files_in d (state_of w).raw.files)
lines_of (shows.File id d x y) w = shown_lines d x y (words_at w.files id)

-- a line has few parts; words that are typed out are few, and begin at an address; the files that
-- are shown exist, and no part of a close is pending
abbrev pub CanShow : Shown → World → Type 0
CanShow (shows.Line reply) w = FewParts reply
CanShow (shows.Listed s a words) w = (a < 2 ^ 18) × (length words.now ≤ 8)
CanShow (shows.Files d n) w = (w.files.mark ≡ None) × (n ≡ length (files_in d (state_of w).raw.files))
CanShow (shows.File id d x y) w = (w.files.mark ≡ None) × (is_file (entry_at w.files id) ≡ true)
CanShow shows.Nothing w = Unit {0}

-- the lines of line n of a session that ends with it, and its flow
abbrev pub lines_over : ℕ → Over → List Line
lines_over n overs.Ended = []
lines_over n (overs.Refused e) = printed.Refused n (reason_of e) ∷ []

abbrev pub flow_over : Over → Flow
flow_over overs.Ended = flows.Ended
flow_over (overs.Refused e) = flows.Refused

-- the lines of line n of a session, its flow, and what the session shows from it on
abbrev pub lines_shown : ℕ → Result Shown Over → World → List Line
lines_shown n (Ok s) w = lines_of s w
lines_shown n (Err over) w = lines_over n over

abbrev pub flow_of : Result Shown Over → Flow
flow_of (Ok s) = flows.On
flow_of (Err over) = flow_over over

abbrev pub told_behind : Result Shown Over → Told → Told
told_behind (Ok s) t = t
told_behind (Err overs.Ended) t = record { lines = []; fate = Ended }
told_behind (Err (overs.Refused e)) t = record { lines = []; fate = Refused }

-- END alone ends a session
abbrev pub GoesBy : Result Shown Over → Event → Type 0
GoesBy (Ok s) e = goes_on_after e ≡ true
GoesBy (Err overs.Ended) e = goes_on_after e ≡ false
GoesBy (Err (overs.Refused r)) e = Unit {0}

-- a line after which the session goes on leaves this world and block; END leaves all as it was
abbrev pub LeavesBy : Result Shown Over → State → Block → Event → World → Block → Type 0
LeavesBy (Ok s) v b e w b' = (stays : Left) (next : State → Block → Left) → line_left v b stays e next ≡ next (state_of w) b'
LeavesBy (Err overs.Ended) v b e w b' = state_of w ≡ v
LeavesBy (Err (overs.Refused r)) v b e w b' = Unit {0}

-- in state v an event had this result; world w and block b' are left
pub record Performed (r : Result Shown Over) (v : State) (b : Block) (e : Event) (w : World) (b' : Block) : Type 0 where
  pub tells : (n : ℕ) (next : State → Block → Told) → line_told n v b e next ≡ telling (lines_shown n r w) (told_behind r (next (state_of w) b'))
  pub goes : GoesBy r e
  pub leaves : LeavesBy r v b e w b'
  pub ready : IfOk r (λ s. CanShow s w)

-- the result of an event whose call answers nothing
abbrev pub quiet : {T : Type 0} → Result T Refusal → Result Shown Over
quiet (Ok x) = Ok shows.Nothing
quiet (Err e) = Err (overs.Refused e)
