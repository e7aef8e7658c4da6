-- What the events of a generated session count for.
use Rattle.std.specs.Prelude.{◌≡◌, ◌<◌, ◌≤◌, ℕ, zero, suc, ◌+◌, ◌*◌, ◌/◌, ◌^◌, Bool, true, false, Option, Some, None, Result, Ok, Err, IfOk, OnOk, OnErr, is_err, List, [], ◌∷◌, ◌++◌, map, length, take, drop, get_or, replicate, slice_get, refl}
use Rattle.std.proofs.Common.{sym, ◌∙◌, ap, ap₂, subst, arith, append_assoc, append-nil, take_all}
use Rattle.std.proofs.lemmas.List.{length-append, take_more, take-append-drop}
use Rattle.std.specs.Io.KnownBytes.{Appends}
use Rattle.std.proofs.KnownBytes.{Appends-trans}
use Rattle.its_io.specs.Bytes.{Wrote}
use Rattle.its_records.specs.declared.calls.Pace.{Pace}
use Rattle.its_records.specs.declared.calls.Pace.TheVariants as paces
use Rattle.its_records.specs.declared.session.Event.{Event}
use Rattle.its_records.specs.declared.session.Event.TheVariants as events
use Rattle.its_files.specs.Files.{words_at}
use Rattle.its_print.specs.Printing.{Line, Refused}
use Rattle.its_print.specs.Printing as printed
use Rattle.its_print.specs.Replies.{line_of}
use Rattle.its_print.specs.Runs.{paces_in}
use Rattle.its_print.specs.declared.runs.Run.{Run}
use Rattle.its_session.specs.Fits.{EventFits}
use Rattle.its_session.specs.Generated.{IsGenerated, generated_session}
use Rattle.its_session.specs.Grammar.{last_slot}
use Rattle.its_session.proofs.GeneratedLaws.{session_length}
use Rattle.its_plain.specs.Machine.{File, no_machine}
use Rattle.its_plain.specs.Machine.Own.{names_of}
use Rattle.its_plain.specs.Operator.{Block, no_block}
use Rattle.its_plain.specs.Operator.Files.{files_in, filed_line, rows}
use Rattle.its_plain.specs.Transcript.Turns.{highest, turn_kept, turns_asked, ticks_asked}
use Rattle.its_stepped.specs.State.{State, no_state}
use Rattle.its_stepped.specs.Lines.{Told, telling, turned, told}
use Rattle.its_world.specs.World.{state_of}
use Rattle.its_world.specs.declared.world.World.{World}
use Rattle.its_records.specs.Refusals.{reason_of}
use Rattle.its_top.specs.declared.commands.generating.Tally.{Tally}
use Rattle.its_top.specs.declared.commands.generating.Play.{Play}
use Rattle.its_top.specs.declared.sessions.shown.Over.{Over}
use Rattle.its_top.specs.declared.sessions.shown.Over.TheVariants as overs
use Rattle.its_top.specs.declared.sessions.shown.Shown.{Shown}
use Rattle.its_top.specs.declared.sessions.shown.Shown.TheVariants as shows
use Rattle.its_top.specs.Answer.{FindsStart, block_of}
use Rattle.its_top.specs.Performing.{CanShow, lines_shown, told_behind, Performed}
use Rattle.its_top.specs.Generating.{nothing, plus, mark_of, marks, tally_of, tally, items_of, counts_text, generated_tally, generated_text, counted, FewShown, LeftOf, PlaySo, PlayedOn}
use Rattle.its_top.proofs.PaceLaws.{runs_more}

-- sums of counts
made : ℕ → ℕ → Tally
made a b = record { steps = a; drained = b }

plus_nothing : (t : Tally) → plus t nothing ≡ t
unfolding made
plus_nothing t = let e : t.steps + 0 ≡ t.steps = omega arith in let f : t.drained + 0 ≡ t.drained = omega arith in ap₂ made e f

nothing_plus : (t : Tally) → plus nothing t ≡ t
unfolding made
nothing_plus t = let e : 0 + t.steps ≡ t.steps = omega arith in let f : 0 + t.drained ≡ t.drained = omega arith in ap₂ made e f

plus_assoc : (s t u : Tally) → plus s (plus t u) ≡ plus (plus s t) u
unfolding made
plus_assoc s t u =
    let e : s.steps + (t.steps + u.steps) ≡ (s.steps + t.steps) + u.steps = omega arith in
    let f : s.drained + (t.drained + u.drained) ≡ (s.drained + t.drained) + u.drained = omega arith in
    ap₂ made e f

tally_append : (a b : List Line) → tally (a ++ b) ≡ plus (tally a) (tally b)
unfolding tally
tally_append [] b = sym (nothing_plus (tally b))
tally_append (l ∷ ls) b = ap (plus (tally_of l)) (tally_append ls b) ∙ plus_assoc (tally_of l) (tally ls) (tally b)

tally_one : (l : Line) → tally (l ∷ []) ≡ tally_of l
unfolding tally
tally_one l = plus_nothing (tally_of l)

tally_none : tally [] ≡ nothing
unfolding tally
tally_none = refl

-- lines that count for nothing
tally_zero : (l : Line) (ls : List Line) → tally_of l ≡ nothing → tally ls ≡ nothing → tally (l ∷ ls) ≡ nothing
unfolding tally
tally_zero l ls h k = ap₂ plus h k

tally_filed : (fs : List File) → tally (map filed_line fs) ≡ nothing
tally_filed [] = tally_none
tally_filed (f ∷ fs) = tally_zero (filed_line f) (map filed_line fs) refl (tally_filed fs)

tally_rows : (n : ℕ) (ws : List ℕ) → tally (rows n ws) ≡ nothing
tally_rows zero ws = tally_none
tally_rows (suc n) ws = tally_zero (printed.Row (take 8 ws)) (rows n (drop 8 ws)) refl (tally_rows n (drop 8 ws))

tally_listed : (s a : ℕ) (ws : List ℕ) → tally (printed.listed s a ws) ≡ nothing
tally_listed s a [] = tally_none
tally_listed s a (w ∷ ws) = tally_zero (printed.Listed s a w) (printed.listed s (a + 1) ws) refl (tally_listed s (a + 1) ws)

-- the result of an event counts for its lines
counts_for : (n : ℕ) (r : Result Shown Over) (w : World) → tally (lines_shown n r w) ≡ counted r
counts_for n (Ok shows.Nothing) w = tally_none
counts_for n (Ok (shows.Line reply)) w = tally_one (line_of reply)
counts_for n (Ok (shows.Listed s a ws)) w = tally_listed s a ws.now
counts_for n (Ok (shows.Files d k)) w =
    let fs = files_in d (state_of w).raw.files in tally_zero (printed.Dir d (length fs)) (map filed_line fs) refl (tally_filed fs)
counts_for n (Ok (shows.File id d x y)) w =
    let ws = words_at w.files id in tally_zero (printed.Shown d x y (length ws)) (rows ((length ws + 7) / 8) ws) refl (tally_rows ((length ws + 7) / 8) ws)
counts_for n (Err overs.Ended) w = tally_none
counts_for n (Err (overs.Refused e)) w = tally_one (Refused n (reason_of e))

-- what can be shown has few parts
few_shown : (s : Shown) (w : World) → CanShow s w → FewShown s
few_shown (shows.Line reply) w can = can
few_shown _ w can = tt

pub few_performed : (r : Result Shown Over) (v : State) (b : Block) (e : Event) (w : World) (b' : Block) → Performed r v b e w b' → IfOk r FewShown
few_performed (Ok s) v b e w b' p = few_shown s w p.ready
few_performed (Err over) v b e w b' p = tt

-- a session goes on
pub played_over : (play : Play) (v : State) (e : Event) → play.over ≡ true → PlayedOn play play v v e
played_over play v e h = record {
  on = λ n es all so. record {
    whole =
        let b = block_of play.progress.slot play.progress.file in
        subst (λ o. LeftOf o play.tally (n + 1) v b es all) (sym h) (subst (λ o. LeftOf o play.tally n v b (e ∷ es) all) h so.whole);
  };
}

going : (play : Play) (n : ℕ) (v : State) (es : List Event) (all : Tally) → play.over ≡ false → PlaySo play n v es all
    → plus play.tally (tally (told n v (block_of play.progress.slot play.progress.file) highest (items_of es)).lines) ≡ all
going play n v es all h so = subst (λ o. LeftOf o play.tally n v (block_of play.progress.slot play.progress.file) es all) h so.whole

left_behind : (r : Result Shown Over) (t : Tally) (n : ℕ) (v : State) (b : Block) (es : List Event) (all : Tally)
    → plus t (tally (told_behind r (told n v b highest (items_of es))).lines) ≡ all → LeftOf (is_err r) t n v b es all
left_behind (Ok s) t n v b es all h = h
left_behind (Err overs.Ended) t n v b es all h = sym (ap (plus t) tally_none ∙ plus_nothing t) ∙ h
left_behind (Err (overs.Refused e)) t n v b es all h = sym (ap (plus t) tally_none ∙ plus_nothing t) ∙ h

-- no event of a generated session asks for turns
generated_asks : (e : Event) → IsGenerated e → turns_asked e ≡ 0
generated_asks (events.Run n q) k = absurd k
generated_asks _ k = refl

generated_keeps : (e : Event) (i : ℕ) → IsGenerated e → turn_kept i e ≡ i
generated_keeps (events.Restore line) i k = absurd k
generated_keeps _ i k = refl

pub played : (r : Result Shown Over) (old new : Play) (v : State) (w : World) (e : Event) (t : Tally) → old.over ≡ false
    → new.over ≡ is_err r → new.tally ≡ plus old.tally t → t ≡ counted r → IsGenerated e
    → Performed r v (block_of old.progress.slot old.progress.file) e w (block_of new.progress.slot new.progress.file) → PlayedOn old new v (state_of w) e
played r old new v w e t h k s c is p = record {
  on = λ n es all so. record {
    whole =
        let b' = block_of new.progress.slot new.progress.file in
        let next : ℕ → ℕ → State → Block → Told = λ i j x b. turned i (ticks_asked e) x j (λ y l. told (n + 1) y b l (items_of es)) in
        let behind = told_behind r (told (n + 1) (state_of w) b' highest (items_of es)) in
        let sum : plus new.tally (tally behind.lines) ≡ all =
        ap (λ x. plus x (tally behind.lines)) (s ∙ ap (plus old.tally) c) ∙ sym (plus_assoc old.tally (counted r) (tally behind.lines))
        ∙ ap (λ x. plus old.tally (plus x (tally behind.lines))) (sym (counts_for n r w))
        ∙ ap (plus old.tally) (sym (tally_append (lines_shown n r w) behind.lines))
        ∙ ap (λ (i : ℕ). plus old.tally (tally (telling (lines_shown n r w) (told_behind r (next i highest (state_of w) b'))).lines)) (sym (generated_asks e is))
        ∙ ap (λ (j : ℕ). plus old.tally (tally (telling (lines_shown n r w) (told_behind r (next (turns_asked e) j (state_of w) b'))).lines))
        (sym (generated_keeps e highest is))
        ∙ ap (λ (x : Told). plus old.tally (tally x.lines)) (sym (p.tells n (next (turns_asked e) (turn_kept highest e))))
        ∙ going old n v (e ∷ es) all h so in
        subst (λ o. LeftOf o new.tally (n + 1) (state_of w) b' es all) (sym k) (left_behind r new.tally (n + 1) (state_of w) b' es all sum);
  };
}

-- an event of a generated session is one of any session, and none that names its version
pub generated_fits : (e : Event) → IsGenerated e → EventFits 1 e → EventFits 2 e
unfolding last_slot
generated_fits (events.Load u j c) k f = f
generated_fits (events.Words a ws) k f = f
generated_fits (events.Go a) k f = f
generated_fits (events.TypeIn c bs) k f = f
generated_fits (events.Tick s n) k f = (omega (arith, f.0), f.1, f.2)
generated_fits (events.Exam s a n) k f = (omega (arith, f.0), f.1, f.2, f.3)
generated_fits (events.Drain c n) k f = f
generated_fits events.End k f = f
generated_fits _ k f = absurd k

pub generated_starts : (e : Event) (v : State) → IsGenerated e → FindsStart e v
generated_starts (events.Version n) v k = absurd k
generated_starts (events.Restore l) v k = absurd k
generated_starts _ v k = tt

-- marks one after another
marked_append : (a b : List Pace) → marks (a ++ b) ≡ marks a + marks b
marked_append [] b = let e : 0 + marks b ≡ marks b = omega arith in sym e
marked_append (p ∷ ps) b = ap (λ x. mark_of p + x) (marked_append ps b)
    ∙ (let e : mark_of p + (marks ps + marks b) ≡ (mark_of p + marks ps) + marks b = omega arith in e)

marked_most : (ps : List Pace) → marks ps ≤ length ps
marked_most [] = omega arith
marked_most (p ∷ ps) = by_pace p (marked_most ps)
  where
    by_pace : (q : Pace) → marks ps ≤ length ps → mark_of q + marks ps ≤ length (q ∷ ps)
    by_pace paces.Step h = omega (arith, h)
    by_pace paces.Work h = omega (arith, h)
    by_pace paces.Wait h = omega (arith, h)
    by_pace paces.Off h = omega (arith, h)

-- the ticks of a run are alike
marked_alike : (n : ℕ) (p : Pace) (k : ℕ) → mark_of p ≡ k → marks (replicate n p) ≡ n * k
marked_alike zero p k e = omega arith
marked_alike (suc n) p k e = (λ t. e t + marked_alike n p k e t) ∙ (let o : k + n * k ≡ suc n * k = grind arith in o)

run_marks : (r : Run) → marks (paces_in (r ∷ [])) ≡ mark_of r.pace + marks (replicate r.more r.pace)
run_marks r = ap (λ ps. mark_of r.pace + marks ps) (append-nil (replicate r.more r.pace))

pub run_marked : (r : Run) → r.pace ≡ paces.Step → 1 + r.more ≡ marks (paces_in (r ∷ []))
run_marked r e =
    let one : mark_of r.pace ≡ 1 = ap mark_of e in
    let o : r.more * 1 ≡ r.more = omega arith in
    sym (run_marks r ∙ (λ t. one t + (marked_alike r.more r.pace 1 one ∙ o) t))

pub run_unmarked : (r : Run) (p : Pace) → r.pace ≡ p → mark_of p ≡ 0 → 0 ≡ marks (paces_in (r ∷ []))
run_unmarked r p e z =
    let none : mark_of r.pace ≡ 0 = ap mark_of e ∙ z in
    let o : r.more * 0 ≡ 0 = omega arith in
    sym (run_marks r ∙ (λ t. none t + (marked_alike r.more r.pace 0 none ∙ o) t))

pub marked_next : (rs : List Run) (i k m : ℕ) (d : Run) → i < length rs → m ≡ marks (paces_in (get_or rs i d ∷ []))
    → k ≡ marks (paces_in (take i rs)) → k + m ≡ marks (paces_in (take (i + 1) rs))
marked_next rs i k m d h g f =
    ap₂ (λ x y. x + y) f g
    ∙ sym (marked_append (paces_in (take i rs)) (paces_in (get_or rs i d ∷ [])))
    ∙ ap marks (sym (runs_more (take i rs) (get_or rs i d)))
    ∙ ap (λ xs. marks (paces_in xs)) (sym (take_more rs i d h))

paces_split : (a b : List Run) → length (paces_in (a ++ b)) ≡ length (paces_in a) + length (paces_in b)
paces_split [] b = omega arith
paces_split (r ∷ rs) b =
    omega (arith, paces_split rs b, length-append (replicate r.more r.pace) (paces_in (rs ++ b)), length-append (replicate r.more r.pace) (paces_in rs))

pub marked_few : (rs : List Run) (i k : ℕ) → length (paces_in rs) ≤ 512 → k ≡ marks (paces_in (take i rs)) → k ≤ 512
marked_few rs i k h e =
    let whole : length (paces_in (take i rs ++ drop i rs)) ≡ length (paces_in rs) = ap (λ xs. length (paces_in xs)) (take-append-drop i rs) in
    omega (arith, h, e, whole, paces_split (take i rs) (drop i rs), marked_most (paces_in (take i rs)))

pub marked_all : (rs : List Run) (i k : ℕ) → i ≡ length rs → k ≡ marks (paces_in (take i rs)) → k ≡ marks (paces_in rs)
marked_all rs i k e f = f ∙ ap (λ j. marks (paces_in (take j rs))) e ∙ ap (λ xs. marks (paces_in xs)) (take_all (length rs) rs (omega arith))

-- the events of a generated session, one after another
drop_some : {A : Type 0} (xs : List A) (k : ℕ) (x : A) → slice_get xs k ≡ Some x → drop k xs ≡ x ∷ drop (k + 1) xs
drop_some [] k x h = cc
drop_some (y ∷ ys) zero x h = let e : y ≡ x = cc in ap (λ z. z ∷ ys) e
drop_some (y ∷ ys) (suc k) x h = let f : suc k + 1 ≡ suc (k + 1) = omega arith in rw f (drop_some ys k x h)

pub some_within : {A : Type 0} (xs : List A) (k : ℕ) (x : A) → Some x ≡ slice_get xs k → k < length xs
some_within [] k x h = cc
some_within (y ∷ ys) zero x h = omega arith
some_within (y ∷ ys) (suc k) x h = let r = some_within ys k x h in omega arith

pub none_past : {A : Type 0} (xs : List A) (k : ℕ) → None ≡ slice_get xs k → length xs ≤ k
none_past [] k h = omega arith
none_past (y ∷ ys) zero h = cc
none_past (y ∷ ys) (suc k) h = let r = none_past ys k h in omega arith

drop_past : {A : Type 0} (xs : List A) (k : ℕ) → length xs ≤ k → drop k xs ≡ []
drop_past [] zero h = refl
drop_past [] (suc k) h = refl
drop_past (y ∷ ys) zero h = absurd (omega arith)
drop_past (y ∷ ys) (suc k) h = drop_past ys k (omega arith)

pub play_start : (n k : ℕ) (v : State) → v ≡ no_state no_machine
    → PlaySo (record { progress = record { number = k; slot = 0; file = names_of 0 0 0 }; tally = nothing; over = false }) 1 v
    (generated_session n) (generated_tally n)
unfolding generated_tally
play_start n k v h = record {
  whole = nothing_plus (tally (told 1 v no_block highest (items_of (generated_session n))).lines)
      ∙ ap (λ x. tally (told 1 x no_block highest (items_of (generated_session n))).lines) h;
}

pub play_next : (old new : Play) (v v' : State) (e : Event) (es : List Event) (k : ℕ) (all : Tally) → Some e ≡ slice_get es k
    → PlaySo old (k + 1) v (drop k es) all
    → PlayedOn old new v v' e → PlaySo new (k + 1 + 1) v' (drop (k + 1) es) all
play_next old new v v' e es k all h so p =
    p.on (k + 1) (drop (k + 1) es) all (subst (λ x. PlaySo old (k + 1) v x all) (drop_some es k e (sym h)) so)

ended : (over : Bool) (t : Tally) (n : ℕ) (v : State) (b : Block) (all : Tally) → LeftOf over t n v b [] all → t ≡ all
ended true t n v b all h = h
ended false t n v b all h = sym (plus_nothing t) ∙ ap (plus t) (sym tally_none) ∙ h

pub play_end : (play : Play) (v : State) (es : List Event) (k : ℕ) (all : Tally) → None ≡ slice_get es k
    → PlaySo play (k + 1) v (drop k es) all → play.tally ≡ all
play_end play v es k all h so =
    let b = block_of play.progress.slot play.progress.file in
    ended play.over play.tally (k + 1) v b all (subst (λ x. LeftOf play.over play.tally (k + 1) v b x all) (drop_past es k (none_past es k h)) so.whole)

-- the three lines, each written on its own
pub text_of_counts : (n lines : ℕ) (t : Tally) → lines ≡ length (generated_session n) → t ≡ generated_tally n → counts_text lines t ≡ generated_text n
unfolding generated_text
text_of_counts n lines t h e = ap₂ counts_text h e

pub wrote_then : {T E : Type 0} (r : Result T E) (a b : List ℕ) (old x new : Option (List ℕ)) → Appends old x a → OnOk r (Appends x new b)
    → OnOk r (Appends old new (a ++ b))
wrote_then (Ok y) a b old x new f g = Appends-trans old x new a b f g
wrote_then (Err e) a b old x new f g = tt

pub begun_first : (a b : List ℕ) (old new : Option (List ℕ)) → (wrote : List ℕ) × Wrote old new wrote a → (wrote : List ℕ) × Wrote old new wrote (a ++ b)
begun_first a b old new w =
    (w.0, record { appended = w.1.appended; rest = (w.1.rest.0 ++ b, ap (λ x. x ++ b) w.1.rest.1 ∙ append_assoc w.0 w.1.rest.0 b) })

pub begun_then : {T E : Type 0} (r : Result T E) (a b : List ℕ) (old x new : Option (List ℕ)) → Appends old x a
    → OnErr r ((wrote : List ℕ) × Wrote x new wrote b)
    → OnErr r ((wrote : List ℕ) × Wrote old new wrote (a ++ b))
begun_then (Ok y) a b old x new f w = tt
begun_then (Err e) a b old x new f w = (
  a ++ w.0,
  record {
    appended = Appends-trans old x new a w.0 f w.1.appended;
    rest = (w.1.rest.0, ap (λ y. a ++ y) w.1.rest.1 ∙ sym (append_assoc a w.0 w.1.rest.0));
  },
)

pub few_lines : (n : ℕ) → n ≤ 4096 → length (generated_session n) ≤ 2 ^ 20
few_lines n h = omega (arith, session_length n)
