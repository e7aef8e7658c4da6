-- From what the monitor answered to the result of the event.
use Rattle.std.specs.Prelude.{◌≡◌, ◌+◌, ℕ, Bool, true, Option, Some, None, is_some, Result, Ok, Err, OnOk, IfErr, List, [], ◌∷◌, length, take, refl}
use Rattle.std.proofs.Common.{sym, ◌∙◌, ap, subst}
use Rattle.its_files.specs.Files.{entry_at, is_file, file_at}
use Rattle.its_records.specs.declared.session.Event.{Event}
use Rattle.its_records.specs.declared.session.Event.TheVariants as events
use Rattle.its_records.specs.declared.session.Reason.{Reason}
use Rattle.its_records.specs.declared.session.Refusal.{Refusal}
use Rattle.its_records.specs.declared.session.Refusal.TheVariants as refusals
use Rattle.its_records.specs.declared.show.JobShow.{JobShow}
use Rattle.its_print.specs.Printing as printed
use Rattle.its_print.specs.Replies.{FewParts, line_of}
use Rattle.its_print.specs.declared.replies.Reply.{Reply}
use Rattle.its_print.specs.declared.replies.Reply.TheVariants as replies
use Rattle.its_plain.specs.Machine.{Names, File, Whole, Machine}
use Rattle.its_plain.specs.Machine.Own.{names_of}
use Rattle.its_plain.specs.Call.File.{file_named}
use Rattle.its_plain.specs.Operator.Files.{with_file_made, with_words_added, files_in, listing, shown_by, file_shown}
use Rattle.its_plain.specs.Operator.{Block, Operated, Does, Refuses, nobody, only, disturbs, quietly}
use Rattle.its_plain.specs.Operator.Jobs.{after_load, with_words_loaded, with_page_protected, on_registers, after_go, after_int, after_stop, after_cont, examined, state_shown, after_deposit}
use Rattle.its_plain.specs.Operator.Lines.{by_load, by_exam, in_a_line, by_state, by_clock, Done, Peeks, peeked_at, shows, operate, lined}
use Rattle.its_plain.specs.Operator.Clock.{due, after_clock}
use Rattle.its_plain.specs.Operator.Symbols.{with_symbol_kept}
use Rattle.its_plain.specs.Operator.Version.{with_version}
use Rattle.its_plain.specs.Operator.Consoles.{with_typed, dropped, after_drain}
use Rattle.its_stepped.specs.State.{State, plain}
use Rattle.its_stepped.specs.Unwind.{unwound, help}
use Rattle.its_stepped.specs.Lines.{after_calm, peeked, paces_of, after_ticks}
use Rattle.its_world.specs.World.{state_of}
use Rattle.its_world.specs.declared.world.World.{World}
use Rattle.its_records.specs.Refusals.{reason_of}
use Rattle.its_monitor.specs.Kept.{Lands, Loads}
use Rattle.its_monitor.specs.Kept as kept
use Rattle.its_monitor.specs.Rung.{roused}
use Rattle.its_top.specs.declared.sessions.shown.Over.{Over}
use Rattle.its_top.specs.declared.sessions.shown.Over.TheVariants as overs
use Rattle.its_top.specs.declared.sessions.shown.Shown.{Shown}
use Rattle.its_top.specs.declared.sessions.shown.Shown.TheVariants as shows
use Rattle.its_top.specs.Answer.{block_of}
use Rattle.its_top.specs.Performing.{CanShow, Performed, lines_of, quiet}
use Rattle.its_top.proofs.EventLaws.{Comes, does, ticks, peeks, refuses, ends}

-- lines that do nothing, and END
pub nothing_performed : (b : Block) (w : World) → Performed (Ok shows.Nothing) (state_of w) b events.Nothing w b
unfolding lined operate after_calm
nothing_performed b w = does (state_of w) (state_of w) (state_of w).raw b b events.Nothing shows.Nothing w nobody
    (record { calm = refl; is = refl }) refl tt

pub run_performed : (b : Block) (k q : ℕ) (w : World) → Performed (Ok shows.Nothing) (state_of w) b (events.Run k q) w b
unfolding lined operate after_calm
run_performed b k q w = does (state_of w) (state_of w) (state_of w).raw b b (events.Run k q) shows.Nothing w nobody
    (record { calm = refl; is = refl }) refl tt

pub end_file_performed : (b : Block) (w : World) → Performed (Ok shows.Nothing) (state_of w) b events.EndFile w b
unfolding lined operate after_calm
end_file_performed b w = does (state_of w) (state_of w) (state_of w).raw b b events.EndFile shows.Nothing w nobody
    (record { calm = refl; is = refl }) refl tt

pub end_performed : (b b' : Block) (w : World) → Performed (Err overs.Ended) (state_of w) b events.End w b'
end_performed b b' w = ends b b' w

-- a line that shows nothing, by what its call answers
pub silent_done : (v c : State) (b b' : Block) (e : Event) (w : World) (o : Result Machine Reason)
    (f : Result Machine Reason → Operated) (touched : ℕ → Bool) → ((m : Machine) → f (Ok m) ≡ Does m [] touched b')
    → Comes v b e c (Done (f o)) → Lands c (state_of w) o → Performed (Ok shows.Nothing) v b e w b'
silent_done v c b b' e w o f touched g h d =
    does v c (state_of w).raw b b' e shows.Nothing w touched
    (record { calm = h.calm; is = h.is ∙ ap (λ x. Done (f x)) d.is ∙ ap Done (g (state_of w).raw) }) d.rest tt

pub silent_refused : (v c : State) (b b' : Block) (e : Event) (w : World) (o : Result Machine Reason)
    (f : Result Machine Reason → Operated) (r : Refusal) → ((q : Reason) → f (Err q) ≡ Refuses q)
    → Comes v b e c (Done (f o)) → o ≡ Err (reason_of r) → Performed (Err (overs.Refused r)) v b e w b'
silent_refused v c b b' e w o f r g h k = refuses v c b b' e r w
    (record { calm = h.calm; is = h.is ∙ ap (λ x. Done (f x)) k ∙ ap Done (g (reason_of r)) })

silent : {T : Type 0} (answer : Result T Refusal) (v c : State) (b b' : Block) (e : Event) (w : World)
    (o : Result Machine Reason) (f : Result Machine Reason → Operated) (touched : ℕ → Bool)
    → ((m : Machine) → f (Ok m) ≡ Does m [] touched b') → ((q : Reason) → f (Err q) ≡ Refuses q) → Comes v b e c (Done (f o))
    → OnOk answer (Lands c (state_of w) o) → IfErr answer (λ r. o ≡ Err (reason_of r))
    → Performed (quiet answer) v b e w b'
silent (Ok x) v c b b' e w o f touched g g' h d k = silent_done v c b b' e w o f touched g h d
silent (Err r) v c b b' e w o f touched g g' h d k = silent_refused v c b b' e w o f r g' h k

-- one that disturbs its job, or nobody
pub disturbing : {T : Type 0} (r : Result Shown Over) (answer : Result T Refusal) (v c : State) (b : Block) (e : Event) (s : ℕ)
    (w : World) (o : Result Machine Reason) → r ≡ quiet answer
    → Comes v b e c (Done (disturbs s b o)) → OnOk answer (Lands c (state_of w) o) → IfErr answer (λ r. o ≡ Err (reason_of r)) → Performed r v b e w b
disturbing r answer v c b e s w o i h d k = subst (λ x. Performed x v b e w b) (sym i)
    (silent answer v c b b e w o (disturbs s b) (only s) (λ m. refl) (λ q. refl) h d k)

pub unseen : {T : Type 0} (r : Result Shown Over) (answer : Result T Refusal) (v c : State) (b : Block) (e : Event) (w : World)
    (o : Result Machine Reason) → r ≡ quiet answer
    → Comes v b e c (Done (quietly b o)) → OnOk answer (Lands c (state_of w) o) → IfErr answer (λ r. o ≡ Err (reason_of r)) → Performed r v b e w b
unseen r answer v c b e w o i h d k = subst (λ x. Performed x v b e w b) (sym i)
    (silent answer v c b b e w o (quietly b) nobody (λ m. refl) (λ q. refl) h d k)

-- the refusal that the line finds
pub refused_calmed : {T X : Type 0} (answer : Result T Refusal) (w v : State) (f : Machine → Result X Reason)
    → IfErr answer (λ e. kept.Refused w v f e) → IfErr answer (λ e. f v.raw ≡ Err (reason_of e))
refused_calmed (Ok x) w v f h = tt
refused_calmed (Err e) w v f h = h.calmed

pub go_performed : {T : Type 0} (r : Result Shown Over) (answer : Result T Refusal) (v : State) (s : ℕ) (f : Names) (a : ℕ)
    (w : World) → r ≡ quiet answer
    → OnOk answer (Lands (unwound v s) (state_of w) (on_registers (unwound v s).raw s (after_go a)))
    → IfErr answer (λ e. kept.Refused v (unwound v s) (λ m. on_registers m s (after_go a)) e) → Performed r v (block_of s f) (events.Go a) w (block_of s f)
unfolding lined operate after_calm
go_performed r answer v s f a w i d k = disturbing r answer v (unwound v s) (block_of s f) (events.Go a) s w _ i
    (record { calm = refl; is = refl }) d (refused_calmed answer v (unwound v s) (λ m. on_registers m s (after_go a)) k)

pub words_performed : {T : Type 0} (r : Result Shown Over) (answer : Result T Refusal) (v : State) (s : ℕ) (f : Names) (a : ℕ) (ws : List ℕ)
    (w : World) → r ≡ quiet answer
    → OnOk answer (Lands (unwound v s) (state_of w) (with_words_loaded (unwound v s).raw s a ws))
    → IfErr answer (λ e. with_words_loaded (unwound v s).raw s a ws ≡ Err (reason_of e))
    → Performed r v (block_of s f) (events.Words a (record { items = ws })) w (block_of s f)
unfolding lined operate after_calm
words_performed r answer v s f a ws w i d k = disturbing r answer v (unwound v s) (block_of s f) (events.Words a (record { items = ws }))
    s w _ i (record { calm = refl; is = refl }) d k

pub read_only_performed : {T : Type 0} (r : Result Shown Over) (answer : Result T Refusal) (v : State) (s : ℕ) (f : Names) (p : ℕ)
    (w : World) → r ≡ quiet answer
    → OnOk answer (Lands (unwound v s) (state_of w) (with_page_protected (unwound v s).raw s p))
    → IfErr answer (λ e. kept.Refused v (unwound v s) (λ m. with_page_protected m s p) e)
    → Performed r v (block_of s f) (events.ReadOnly p) w (block_of s f)
unfolding lined operate after_calm
read_only_performed r answer v s f p w i d k = disturbing r answer v (unwound v s) (block_of s f) (events.ReadOnly p) s w _ i
    (record { calm = refl; is = refl }) d (refused_calmed answer v (unwound v s) (λ m. with_page_protected m s p) k)

pub int_performed : {T : Type 0} (r : Result Shown Over) (answer : Result T Refusal) (v : State) (b : Block) (s x y : ℕ)
    (w : World) → r ≡ quiet answer
    → OnOk answer (Lands (unwound v s) (state_of w) (on_registers (unwound v s).raw s (after_int x y)))
    → IfErr answer (λ e. kept.Refused v (unwound v s) (λ m. on_registers m s (after_int x y)) e) → Performed r v b (events.Int s x y) w b
unfolding lined operate after_calm
int_performed r answer v b s x y w i d k = disturbing r answer v (unwound v s) b (events.Int s x y) s w _ i
    (record { calm = refl; is = refl }) d (refused_calmed answer v (unwound v s) (λ m. on_registers m s (after_int x y)) k)

pub deposit_performed : {T : Type 0} (r : Result Shown Over) (answer : Result T Refusal) (v : State) (b : Block) (s a x : ℕ)
    (w : World) → r ≡ quiet answer
    → OnOk answer (Lands (unwound v s) (state_of w) (after_deposit (unwound v s).raw s a x))
    → IfErr answer (λ e. kept.Refused v (unwound v s) (λ m. after_deposit m s a x) e) → Performed r v b (events.Deposit s a x) w b
unfolding lined operate after_calm
deposit_performed r answer v b s a x w i d k = disturbing r answer v (unwound v s) b (events.Deposit s a x) s w _ i
    (record { calm = refl; is = refl }) d (refused_calmed answer v (unwound v s) (λ m. after_deposit m s a x) k)

pub stop_performed : {T : Type 0} (r : Result Shown Over) (answer : Result T Refusal) (v : State) (b : Block) (s : ℕ)
    (w : World) → r ≡ quiet answer
    → OnOk answer (Lands (unwound v s) (state_of w) (on_registers (unwound v s).raw s after_stop))
    → IfErr answer (λ e. kept.Refused v (unwound v s) (λ m. on_registers m s after_stop) e) → Performed r v b (events.Stop s) w b
unfolding lined operate after_calm
stop_performed r answer v b s w i d k = disturbing r answer v (unwound v s) b (events.Stop s) s w _ i
    (record { calm = refl; is = refl }) d (refused_calmed answer v (unwound v s) (λ m. on_registers m s after_stop) k)

pub cont_performed : {T : Type 0} (r : Result Shown Over) (answer : Result T Refusal) (v : State) (b : Block) (s : ℕ)
    (w : World) → r ≡ quiet answer
    → OnOk answer (Lands (unwound v s) (state_of w) (on_registers (unwound v s).raw s after_cont))
    → IfErr answer (λ e. kept.Refused v (unwound v s) (λ m. on_registers m s after_cont) e) → Performed r v b (events.Cont s) w b
unfolding lined operate after_calm
cont_performed r answer v b s w i d k = disturbing r answer v (unwound v s) b (events.Cont s) s w _ i
    (record { calm = refl; is = refl }) d (refused_calmed answer v (unwound v s) (λ m. on_registers m s after_cont) k)

pub symbol_performed : {T : Type 0} (r : Result Shown Over) (answer : Result T Refusal) (v : State) (s : ℕ) (f : Names) (name a : ℕ)
    (w : World) → r ≡ quiet answer
    → OnOk answer (Lands v (state_of w) (with_symbol_kept v.raw s name a))
    → IfErr answer (λ e. kept.Refused v v (λ m. with_symbol_kept m s name a) e) → Performed r v (block_of s f) (events.Symbol name a) w (block_of s f)
unfolding lined operate after_calm
symbol_performed r answer v s f name a w i d k =
    unseen r answer v v (block_of s f) (events.Symbol name a) w _ i (record { calm = refl; is = refl }) d
    (refused_calmed answer v v (λ m. with_symbol_kept m s name a) k)

pub append_performed : {T : Type 0} (r : Result Shown Over) (answer : Result T Refusal) (v : State) (s : ℕ) (f : Names) (ws : List ℕ)
    (w : World) → r ≡ quiet answer
    → OnOk answer (Lands (help v) (state_of w) (with_words_added (help v).raw f ws))
    → IfErr answer (λ e. with_words_added (help v).raw f ws ≡ Err (reason_of e))
    → Performed r v (block_of s f) (events.Append (record { items = ws })) w (block_of s f)
unfolding lined operate after_calm
append_performed r answer v s f ws w i d k = unseen r answer v (help v) (block_of s f) (events.Append (record { items = ws })) w _ i
    (record { calm = refl; is = refl }) d k

-- CLOCK, which disturbs the jobs whose alarm is due
pub clock_performed : {T : Type 0} (r : Result Shown Over) (answer : Result T Refusal) (v : State) (b : Block) (k : ℕ)
    (w : World) → r ≡ quiet answer
    → OnOk answer (Lands (roused v k) (state_of w) (after_clock (roused v k).raw k))
    → IfErr answer (λ e. kept.Refused v (roused v k) (λ m. after_clock m k) e) → Performed r v b (events.Clock k) w b
unfolding lined operate after_calm
clock_performed r answer v b k w i d q =
    let c = roused v k in
    subst (λ x. Performed x v b (events.Clock k) w b) (sym i)
    (silent answer v c b b (events.Clock k) w _ (by_clock c.raw b k) (due (c.raw.clock + k) c.raw.jobs) (λ m. refl) (λ x. refl)
    (record { calm = refl; is = refl }) d (refused_calmed answer v c (λ m. after_clock m k) q))

pub version_performed : (v : State) (b : Block) (k : ℕ) (w : World) → Lands v (state_of w) (Ok (with_version v.raw k))
    → Performed (Ok shows.Nothing) v b (events.Version k) w b
unfolding lined operate after_calm
version_performed v b k w h = silent_done v v b b (events.Version k) w _ (quietly b) nobody (λ m. refl) (record { calm = refl; is = refl }) h

-- FILE
pub file_performed : (v : State) (b : Block) (d x y : ℕ) (w : World)
    → Lands (help v) (state_of w) (with_file_made (help v).raw (names_of d x y))
    → Performed (Ok shows.Nothing) v b (events.File d x y) w (record b { file = names_of d x y })
unfolding lined operate after_calm
file_performed v b d x y w h =
    let n = record b { file = names_of d x y } in
    silent_done v (help v) b n (events.File d x y) w _ (quietly n) nobody (λ m. refl) (record { calm = refl; is = refl }) h

pub file_refused : (v : State) (b b' : Block) (d x y : ℕ) (e : Refusal) (w : World)
    → with_file_made (help v).raw (names_of d x y) ≡ Err (reason_of e) → Performed (Err (overs.Refused e)) v b (events.File d x y) w b'
unfolding lined operate after_calm
file_refused v b b' d x y e w h =
    silent_refused v (help v) b b' (events.File d x y) w _ (quietly (record b { file = names_of d x y })) e (λ q. refl)
    (record { calm = refl; is = refl }) h

-- lines that show something of a job
pub load_performed : (v : State) (b : Block) (u j s : ℕ) (console : Option ℕ) (w : World)
    → Loads v (state_of w) (after_load v.raw u j console) s
    → Performed (Ok (shows.Line (replies.Loaded s))) v b (events.Load u j console) w (record b { slot = s })
unfolding lined operate after_calm
load_performed v b u j s console w h =
    does v v (state_of w).raw b (record b { slot = s }) (events.Load u j console) (shows.Line (replies.Loaded s)) w (only s)
    (record { calm = refl; is = ap (λ r. Done (by_load b r)) h.is }) h.rest tt

pub load_refused : (v : State) (b b' : Block) (u j : ℕ) (console : Option ℕ) (e : Refusal) (w : World)
    → kept.Refused v v (λ m. after_load m u j console) e
    → Performed (Err (overs.Refused e)) v b (events.Load u j console) w b'
unfolding lined operate after_calm
load_refused v b b' u j console e w h = refuses v v b b' (events.Load u j console) e w
    (record { calm = refl; is = ap (λ x. Done (by_load b x)) h.calmed })

pub exam_performed : (v : State) (b : Block) (s a k : ℕ) (r : Reply) (ws : List ℕ) (w : World) → line_of r ≡ printed.Words s a ws → FewParts r
    → examined (unwound v s).raw s a k ≡ Ok ws → state_of w ≡ unwound v s
    → Performed (Ok (shows.Line r)) v b (events.Exam s a k) w b
unfolding lined operate after_calm
exam_performed v b s a k r ws w f few h e =
    let m = (unwound v s).raw in
    does v (unwound v s) m b b (events.Exam s a k) (shows.Line r) w (only s)
    (record { calm = refl; is = ap (λ x. Done (by_exam m b s (in_a_line s a) x)) h ∙ ap (λ l. Done (Does m (l ∷ []) (only s) b)) (sym f) }) e few

pub exam_refused : (v : State) (b b' : Block) (s a k : ℕ) (r : Refusal) (w : World)
    → examined (unwound v s).raw s a k ≡ Err (reason_of r) → Performed (Err (overs.Refused r)) v b (events.Exam s a k) w b'
unfolding lined operate after_calm
exam_refused v b b' s a k r w h = refuses v (unwound v s) b b' (events.Exam s a k) r w
    (record { calm = refl; is = ap (λ x. Done (by_exam (unwound v s).raw b s (in_a_line s a) x)) h })

pub list_performed : (v : State) (b : Block) (s a k : ℕ) (shown : Shown) (ws : List ℕ) (w : World) → lines_of shown w ≡ printed.listed s a ws
    → examined (unwound v s).raw s a k ≡ Ok ws → state_of w ≡ unwound v s → CanShow shown w
    → Performed (Ok shown) v b (events.List s a k) w b
unfolding lined operate after_calm
list_performed v b s a k shown ws w f h e can =
    let m = (unwound v s).raw in
    does v (unwound v s) m b b (events.List s a k) shown w (only s)
    (record { calm = refl; is = ap (λ x. Done (by_exam m b s (printed.listed s a) x)) h ∙ ap (λ l. Done (Does m l (only s) b)) (sym f) }) e can

pub list_refused : (v : State) (b b' : Block) (s a k : ℕ) (r : Refusal) (w : World)
    → examined (unwound v s).raw s a k ≡ Err (reason_of r) → Performed (Err (overs.Refused r)) v b (events.List s a k) w b'
unfolding lined operate after_calm
list_refused v b b' s a k r w h =
    refuses v (unwound v s) b b' (events.List s a k) r w (record
    { calm = refl; is = ap (λ x. Done (by_exam (unwound v s).raw b s (printed.listed s a) x)) h })

-- the version of a world is that of its plain machine
version_shown : (w : World) → w.version ≡ (state_of w).raw.version
unfolding state_of
version_shown w = refl

pub state_performed : (v : State) (b : Block) (s : ℕ) (r : Reply) (show : JobShow) (w : World) → line_of r ≡ printed.State w.version s show
    → FewParts r → state_shown (unwound v s).raw s ≡ Ok show → state_of w ≡ unwound v s
    → Performed (Ok (shows.Line r)) v b (events.State s) w b
unfolding lined operate after_calm
state_performed v b s r show w f few h e =
    let m = (unwound v s).raw in
    let version : m.version ≡ w.version = sym (version_shown w ∙ ap (λ (x : State). x.raw.version) e) in
    does v (unwound v s) m b b (events.State s) (shows.Line r) w (only s)
    (record {
      calm = refl;
      is = ap (λ x. Done (by_state m b s x)) h ∙ ap (λ x. Done (Does m (printed.State x s show ∷ []) (only s) b)) version
          ∙ ap (λ l. Done (Does m (l ∷ []) (only s) b)) (sym f);
    }) e few

pub state_refused : (v : State) (b b' : Block) (s : ℕ) (r : Refusal) (w : World)
    → state_shown (unwound v s).raw s ≡ Err (reason_of r) → Performed (Err (overs.Refused r)) v b (events.State s) w b'
unfolding lined operate after_calm
state_refused v b b' s r w h = refuses v (unwound v s) b b' (events.State s) r w
    (record { calm = refl; is = ap (λ x. Done (by_state (unwound v s).raw b s x)) h })

pub ticks_performed : (v : State) (b : Block) (s k : ℕ) (r : Reply) (w : World) → line_of r ≡ printed.Ticks s (paces_of v s k) → FewParts r
    → state_of w ≡ after_ticks v s k → Performed (Ok (shows.Line r)) v b (events.Tick s k) w b
unfolding lined operate after_calm
ticks_performed v b s k r w f few g = ticks v v b (events.Tick s k) s k r w (record { calm = refl; is = refl }) f few g

there_peeks : (s : ℕ) (o : Option Whole) → is_some o ≡ true → peeked_at s o ≡ Peeks s
there_peeks s (Some q) h = refl
there_peeks s None h = cc

pub peek_performed : (b : Block) (s : ℕ) (r : Reply) (w : World) → is_some ((state_of w).raw.jobs s) ≡ true
    → line_of r ≡ printed.Peeked s (peeked (state_of w) s) → FewParts r
    → Performed (Ok (shows.Line r)) (state_of w) b (events.Peek s) w b
unfolding lined operate after_calm
peek_performed b s r w h f few = peeks w (state_of w) b (events.Peek s) s r (record { calm = refl; is = there_peeks s ((state_of w).raw.jobs s) h }) f few

pub peek_refused : (v : State) (b b' : Block) (s : ℕ) (e : Refusal) (w : World) → e ≡ refusals.NoJob → v.raw.jobs s ≡ None
    → Performed (Err (overs.Refused e)) v b (events.Peek s) w b'
unfolding lined operate after_calm
peek_refused v b b' s e w k h = refuses v v b b' (events.Peek s) e w
    (record { calm = refl; is = ap (peeked_at s) h ∙ ap (λ x. Done (Refuses (reason_of x))) (sym k) })

-- lines of a console
pub landed : (v v' : State) (m : Machine) → Lands v v' (Ok m) → m ≡ v'.raw
landed v v' m h = let k : Ok m ≡ Ok v'.raw = h.is in cc

pub typed_performed : (v : State) (b : Block) (c k : ℕ) (bytes : List ℕ) (w : World) → k ≡ dropped (v.raw.consoles c) bytes
    → Lands v (state_of w) (Ok (with_typed c bytes v.raw))
    → Performed (Ok (shows.Line (replies.Typed c k))) v b (events.TypeIn c (record { items = bytes })) w b
unfolding lined operate after_calm
typed_performed v b c k bytes w e h =
    does v v (state_of w).raw b b (events.TypeIn c (record { items = bytes })) (shows.Line (replies.Typed c k)) w nobody
    (record {
      calm = refl;
      is = ap (λ m. Done (Does m (printed.Typed c (dropped (v.raw.consoles c) bytes) ∷ []) nobody b)) (landed v (state_of w) (with_typed c bytes v.raw) h)
          ∙ ap (λ x. Done (Does (state_of w).raw (printed.Typed c x ∷ []) nobody b)) (sym e);
    }) h.rest tt

pub drained_performed : (v : State) (b : Block) (c k : ℕ) (r : Reply) (w : World)
    → line_of r ≡ printed.Drained c (take k (v.raw.consoles c).output) → FewParts r → Lands v (state_of w) (Ok (after_drain c k v.raw))
    → Performed (Ok (shows.Line r)) v b (events.Drain c k) w b
unfolding lined operate after_calm
drained_performed v b c k r w f few h =
    does v v (state_of w).raw b b (events.Drain c k) (shows.Line r) w nobody
    (record {
      calm = refl;
      is = ap (λ m. Done (Does m (printed.Drained c (take k (v.raw.consoles c).output) ∷ []) nobody b)) (landed v (state_of w) (after_drain c k v.raw) h)
          ∙ ap (λ l. Done (Does (state_of w).raw (l ∷ []) nobody b)) (sym f);
    }) h.rest few

-- lines that show files
pub dir_performed : (v : State) (b : Block) (d n : ℕ) (w : World) → state_of w ≡ help v
    → n ≡ length (files_in d (help v).raw.files) → w.files.mark ≡ None
    → Performed (Ok (shows.Files d n)) v b (events.Dir d) w b
unfolding lined operate after_calm
dir_performed v b d n w e h k =
    does v (help v) (help v).raw b b (events.Dir d) (shows.Files d n) w nobody
    (record { calm = refl; is = ap (λ (x : State). Done (Does (help v).raw (listing d (files_in d x.raw.files)) nobody b)) (sym e) }) e
    (k, h ∙ ap (λ (x : State). length (files_in d x.raw.files)) (sym e))

-- what SHOW finds, on the plain machine
shown_found : (v : State) (d x y : ℕ) (o : Option File) → file_named (names_of d x y) (plain v).files ≡ o → file_shown (help v).raw d x y ≡ shown_by d x y o
unfolding file_shown plain help
shown_found v d x y o h = ap (shown_by d x y) h

pub show_performed : (v : State) (b : Block) (d x y id : ℕ) (w : World)
    → file_named (names_of d x y) (plain v).files ≡ Some (file_at w.files id) → state_of w ≡ help v
    → w.files.mark ≡ None → is_file (entry_at w.files id) ≡ true → Performed (Ok (shows.File id d x y)) v b (events.Show d x y) w b
unfolding lined operate after_calm
show_performed v b d x y id w h e k l =
    does v (help v) (help v).raw b b (events.Show d x y) (shows.File id d x y) w nobody
    (record { calm = refl; is = ap (λ r. Done (shows (help v).raw b r)) (shown_found v d x y (Some (file_at w.files id)) h) }) e (k, l)

pub show_refused : (v : State) (b b' : Block) (d x y : ℕ) (e : Refusal) (w : World) → e ≡ refusals.NoFile
    → file_named (names_of d x y) (plain v).files ≡ None
    → Performed (Err (overs.Refused e)) v b (events.Show d x y) w b'
unfolding lined operate after_calm
show_refused v b b' d x y e w k h =
    refuses v (help v) b b' (events.Show d x y) e w
    (record { calm = refl; is = ap (λ r. Done (shows (help v).raw b r)) (shown_found v d x y None h) ∙ ap (λ r. Done (Refuses (reason_of r))) (sym k) })

-- what is performed for an event, if that is given by another name
pub at_event : (r : Result Shown Over) (v : State) (b : Block) (e f : Event) (w : World) (b' : Block) → e ≡ f
    → Performed r v b f w b' → Performed r v b e w b'
at_event r v b e f w b' h p = subst (λ x. Performed r v b x w b') (sym h) p
