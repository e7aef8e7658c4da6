-- A line of the state part, obeyed by a session, does what the line that is saved does, if the last
-- FILE line and the last JOB line before it are about its file and its job.
use Rattle.std.specs.Prelude.{◌≡◌, ◌<◌, suc, ◌&&◌, ℕ, ◌+◌, Bool, true, false, not, Option, Some, None, Result, Ok, Err, List, [], ◌∷◌, ◌++◌, length, is_some, is_none, nat_lt, nat_le, option_map, option_and_then, refl}
use Rattle.std.specs.Result.{result_ok}
use Rattle.std.proofs.Common.{sym, ◌∙◌, ap, subst, arith}
use Rattle.std.proofs.lemmas.Bool.Decides.{nat_tests}
use Rattle.std.proofs.lemmas.Bool.{and_from, and_parts}
use Rattle.std.proofs.lemmas.Option.{same_Some}
use Rattle.its_word.specs.Limits.{slots}
use Rattle.its_word.specs.Console.{most_waiting}
use Rattle.its_records.specs.Links.{most_links}
use Rattle.its_records.specs.Tree.{climbs_to}
use Rattle.its_records.specs.declared.session.Reason.{Reason}
use Rattle.its_records.specs.declared.session.Reason.TheVariants.{Range, NoJob, NoFile, Exists, Full, Unfit}
use Rattle.its_frame.specs.declared.change.Change.TheVariants as changes
use Rattle.its_plain.specs.Machine.{Names, Chan, Shut, TtyIn, TtyOut, Reads, Writes, On, Linked, Pipe, Whole, Machine, with_job, with_new, limit}
use Rattle.its_plain.specs.Machine.Own.{names_of}
use Rattle.its_plain.specs.Machine.Change.{on_console, on_link, in_job, superiors, console_in, channel_in, effect}
use Rattle.its_plain.specs.Call.Basic.{is_shut}
use Rattle.its_plain.specs.Call.File.{has_file, is_full}
use Rattle.its_plain.specs.Operator.{Block, no_block, Operated, Does, nobody, only, disturbs, quietly, and_then}
use Rattle.its_plain.specs.Operator.Clock.{due, after_clock}
use Rattle.its_plain.specs.Operator.Files.{name_in, with_file_made, with_words_added, channels_of}
use Rattle.its_plain.specs.Operator.Jobs.{new_job, with_words_loaded, with_page_protected, on_job, with_registers, on_registers}
use Rattle.its_plain.specs.Operator.Symbols.{with_symbol_kept}
use Rattle.its_plain.specs.Operator.State.{provided, has_job, restored, by_clock, with_all_written}
use Rattle.its_plain.specs.Operator.State as session
use Rattle.its_plain.specs.Operator.State.{with_job_made as job_made, with_alarm_set as alarm_set, with_superior_set as superior_set, with_tty as tty_opened, with_disk as disk_opened, with_draft as draft_opened, with_words_written as words_written, with_usr as usr_opened, with_link as link_opened, with_words_sent as words_sent, with_end_shut as end_shut, with_bytes_waiting as bytes_waiting, with_holder_set as holder_set}
use Rattle.its_plain.proofs.ProvidedLaws.{provided_ok}
use Rattle.its_saved.specs.StateLine.{Registers, StateLine as Saved}
use Rattle.its_saved.specs.StateLine as saves
use Rattle.its_saved.specs.Building.{build, only_if, after_registers, may_come, under, can_open, channel_opened, on_tty, is_slot, can_join, has_room, with_words_in, has_unopened, with_end_closed, with_bytes, with_word_to, with_word_written, with_words_written, with_job_made, with_registers_set, with_alarm_set, with_superior_set, with_tty, with_disk, with_draft, with_usr, with_link, with_words_sent, with_end_shut, with_bytes_waiting, with_holder_set}
use Rattle.its_saved.specs.Text.{line_of}
use Rattle.its_saved.specs.WellFormed.{IsNamed}

-- what a line says is about the file of the last FILE line, or the job of the last JOB line; names
-- of a file are three; and words of a draft are some, in one of 16 channels
abbrev pub IsAbout : Block → Saved → Type 0
IsAbout b (saves.File n) = IsNamed n
IsAbout b (saves.FileWords n ws) = b.file ≡ n
IsAbout b (saves.CoreWords s a ws) = b.slot ≡ s
IsAbout b (saves.ReadOnly s k) = b.slot ≡ s
IsAbout b (saves.Symbol s x a) = b.slot ≡ s
IsAbout b (saves.Regs s r) = b.slot ≡ s
IsAbout b (saves.Disk s n x at) = IsNamed x
IsAbout b (saves.Draft s n x) = IsNamed x
IsAbout b (saves.Wrote s n []) = ⊥
IsAbout b (saves.Wrote s n (w ∷ ws)) = n < 16
IsAbout b _ = Unit {0}

-- the last FILE line and the last JOB line after a line; there are none after SYSTEM
abbrev pub block_past : Block → Saved → Block
block_past b (saves.System v) = no_block
block_past b (saves.File n) = record b { file = n }
block_past b (saves.Job s u j c) = record b { slot = s }
block_past b _ = b

-- a line that is obeyed in silence, and leads to this machine and this block
pub record Silent (o : Operated) (n : Machine) (b : Block) : Type 0 where
  pub touched : ℕ → Bool
  pub does : o ≡ Does n [] touched b

disturbs_silent : (s : ℕ) (b : Block) (n : Machine) (r : Result Machine Reason) → r ≡ Ok n → Silent (disturbs s b r) n b
disturbs_silent s b n r e = record { touched = only s; does = ap (disturbs s b) e }

quietly_silent : (b : Block) (n : Machine) (r : Result Machine Reason) → r ≡ Ok n → Silent (quietly b r) n b
quietly_silent b n r e = record { touched = nobody; does = ap (quietly b) e }

-- a line that is built passes its tests
ok_of : (n : Machine) (r : Result Machine Reason) → result_ok r ≡ Some n → r ≡ Ok n
ok_of n (Ok k) e = ap Ok (same_Some k n e)
ok_of n (Err r) e = cc

passed : (t : Bool) (m n : Machine) → only_if t m ≡ Some n → (t ≡ true) × (m ≡ n)
passed true m n e = (refl, same_Some m n e)
passed false m n e = cc

three_names : (n : Names) → IsNamed n → names_of (name_in n 0) (name_in n 1) (name_in n 2) ≡ n
three_names [] h = cc
three_names (d ∷ []) h = cc
three_names (d ∷ x ∷ []) h = cc
three_names (d ∷ x ∷ y ∷ []) h = refl
three_names (d ∷ x ∷ y ∷ z ∷ ns) h = absurd (let e : suc (suc (suc (suc (length ns)))) ≡ 3 = h in omega arith)

job_too : (m n : Machine) (s u j : ℕ) (c : Option ℕ) → with_job_made m s u j c ≡ Some n → job_made m s u j c ≡ Ok n
unfolding with_job_made job_made
job_too m n s u j c e =
    let p = passed (nat_lt s (limit m) && is_none (m.jobs s)) (with_new m s (new_job u j c)) n e in
    let t = and_parts (nat_lt s (limit m)) (is_none (m.jobs s)) p.0 in
    provided_ok ((nat_lt s (limit m), Range) ∷ (is_none (m.jobs s), Exists) ∷ []) _ (t.0, (t.1, tt)) ∙ ap Ok p.1

registers_too : (m n : Machine) (s : ℕ) (r : Registers) → with_registers_set m s r ≡ Some n → on_registers m s (session.after_registers r) ≡ Ok n
unfolding with_registers_set on_registers
registers_too m n s r e = by (m.jobs s) e
  where
    by : (o : Option Whole) → option_and_then (λ q. Some (with_job m s (record q { job = after_registers r q.job }))) o ≡ Some n
        → on_job m s (with_registers m s (session.after_registers r)) o ≡ Ok n
    by (Some q) h = ap Ok (same_Some _ n h)
    by None h = cc

alarm_too : (m n : Machine) (s : ℕ) (a : ℕ × ℕ) → with_alarm_set m s a ≡ Some n → alarm_set m s a.0 a.1 ≡ Ok n
unfolding with_alarm_set alarm_set
alarm_too m n s a e =
    let p = passed (is_some (m.jobs s) && may_come m.clock a) (effect (changes.Arm (Some a)) s m) n e in
    let t = and_parts (is_some (m.jobs s)) (may_come m.clock a) p.0 in
    provided_ok ((session.may_come m.clock a.0 a.1, Range) ∷ (has_job m s, NoJob) ∷ []) _ (t.1, (t.0, tt)) ∙ ap Ok p.1

superior_too : (m n : Machine) (s t : ℕ) → with_superior_set m s t ≡ Some n → superior_set m s t ≡ Ok n
unfolding with_superior_set superior_set
superior_too m n s t e =
    let a = is_some (m.jobs s) in
    let b = is_none (superiors m s) in
    let c = is_some (m.jobs t) in
    let d = not (climbs_to (superiors m) s slots (Some t)) in
    let p = passed (a && b && c && d) (in_job m s (under t)) n e in
    let x = and_parts (a && b && c) d p.0 in
    let y = and_parts (a && b) c x.0 in
    let z = and_parts a b y.0 in
    provided_ok ((a && c, NoJob) ∷ (b, Exists) ∷ (d, Unfit) ∷ []) _ (and_from a c z.0 y.1, (z.1, (x.1, tt))) ∙ ap Ok p.1

-- a channel is opened, if one more test holds
opens_too : (m x n : Machine) (s c : ℕ) (t : Bool) (r : Reason) → only_if (can_open m s c && t) x ≡ Some n
    → provided (session.can_open m s c ++ (t, r) ∷ []) x ≡ Ok n
opens_too m x n s c t r e =
    let p = passed (can_open m s c && t) x n e in
    let o = and_parts (can_open m s c) t p.0 in
    let y = and_parts (is_some (m.jobs s) && nat_lt c 16) (is_shut (channel_in (m.jobs s) c)) o.0 in
    let z = and_parts (is_some (m.jobs s)) (nat_lt c 16) y.0 in
    provided_ok (session.can_open m s c ++ (t, r) ∷ []) x (z.1, (z.0, (y.1, (o.1, tt)))) ∙ ap Ok p.1

same_tty : (w : Bool) → session.on_tty w ≡ on_tty w
same_tty true = refl
same_tty false = refl

tty_too : (m n : Machine) (s c : ℕ) (w : Bool) → with_tty m s c w ≡ Some n → tty_opened m s c w ≡ Ok n
unfolding with_tty tty_opened
tty_too m n s c w e =
    let t = is_some (console_in (m.jobs s)) in
    ap (λ x. provided (session.can_open m s c ++ (t, Unfit) ∷ []) (channel_opened m s c x)) (same_tty w)
    ∙ opens_too m (channel_opened m s c (on_tty w)) n s c t Unfit e

disk_too : (m n : Machine) (s c : ℕ) (x : Names) (at : ℕ) → with_disk m s c x at ≡ Some n → disk_opened m s c x at ≡ Ok n
unfolding with_disk disk_opened
disk_too m n s c x at e = opens_too m (channel_opened m s c (Reads x at)) n s c (has_file x m.files) NoFile e

draft_too : (m n : Machine) (s c : ℕ) (x : Names) → with_draft m s c x ≡ Some n → draft_opened m s c x ≡ Ok n
unfolding with_draft draft_opened
draft_too m n s c x e =
    let k = channel_opened m s c (Writes (record { names = x; words = [] })) in
    let p = passed (can_open m s c) k n e in
    let y = and_parts (is_some (m.jobs s) && nat_lt c 16) (is_shut (channel_in (m.jobs s) c)) p.0 in
    let z = and_parts (is_some (m.jobs s)) (nat_lt c 16) y.0 in
    provided_ok (session.can_open m s c) k (z.1, (z.0, (y.1, tt))) ∙ ap Ok p.1

same_slot : (s : ℕ) (o : Option ℕ) → session.is_slot s o ≡ is_slot s o
same_slot s (Some k) = refl
same_slot s None = refl

usr_too : (m n : Machine) (s c t : ℕ) (w : Bool) (at : ℕ) → with_usr m s c t w at ≡ Some n → usr_opened m s c t w at ≡ Ok n
unfolding with_usr usr_opened
usr_too m n s c t w at e =
    let k = channel_opened m s c (On t w at) in
    ap (λ x. provided (session.can_open m s c ++ (x, Unfit) ∷ []) k) (same_slot s (superiors m t))
    ∙ opens_too m k n s c (is_slot s (superiors m t)) Unfit e

same_join : (x y : ℕ) (w : Bool) (o : Option Pipe) → session.can_join x y w o ≡ can_join x y w o
same_join x y w (Some p) = refl
same_join x y w None = refl

link_too : (m n : Machine) (s c l : ℕ) (w : Bool) (x y : ℕ) → with_link m s c l w x y ≡ Some n → link_opened m s c l w x y ≡ Ok n
unfolding with_link link_opened
link_too m n s c l w x y e =
    let k = effect (changes.Join c l w x y) s m in
    let j = can_join x y w (m.links l) in
    let p = passed (can_open m s c && nat_lt l most_links && j) k n e in
    let o = and_parts (can_open m s c && nat_lt l most_links) j p.0 in
    let a = and_parts (can_open m s c) (nat_lt l most_links) o.0 in
    let u = and_parts (is_some (m.jobs s) && nat_lt c 16) (is_shut (channel_in (m.jobs s) c)) a.0 in
    let v = and_parts (is_some (m.jobs s)) (nat_lt c 16) u.0 in
    provided_ok ((nat_lt l most_links, Range) ∷ session.can_open m s c ++ (session.can_join x y w (m.links l), Exists) ∷ []) k
    (a.1, (v.1, (v.0, (u.1, (same_join x y w (m.links l) ∙ o.1, tt))))) ∙ ap Ok p.1

-- the words of a draft, one after another
word_too : (m k : Machine) (s c w : ℕ) (x : Chan) → with_word_to m s c w x ≡ Some k → session.with_word_to m s c w x ≡ Ok k
word_too m k s c w (Writes f) e =
    let t = not (is_full m.files (channels_of m) f.words) in
    let p = passed t (effect (changes.Append c w) s m) k e in
    provided_ok ((t, Full) ∷ []) _ (p.0, tt) ∙ ap Ok p.1
word_too m k s c w Shut e = cc
word_too m k s c w TtyIn e = cc
word_too m k s c w TtyOut e = cc
word_too m k s c w (Reads x at) e = cc
word_too m k s c w (On t v at) e = cc
word_too m k s c w (Linked l v) e = cc

words_too : (m n : Machine) (s c : ℕ) (ws : List ℕ) → with_words_written m s c ws ≡ Some n → with_all_written m s c ws ≡ Ok n
unfolding with_word_written
words_too m n s c [] e = ap Ok (same_Some m n e)
words_too m n s c (w ∷ ws) e = by (λ k h. words_too k n s c ws h) (with_word_to m s c w (channel_in (m.jobs s) c)) refl e
  where
    by : ((k : Machine) → with_words_written k s c ws ≡ Some n → with_all_written k s c ws ≡ Ok n) → (o : Option Machine)
        → with_word_to m s c w (channel_in (m.jobs s) c) ≡ o → option_and_then (λ k. with_words_written k s c ws) o ≡ Some n
        → and_then (session.with_word_to m s c w (channel_in (m.jobs s) c)) (λ k. with_all_written k s c ws) ≡ Ok n
    by rest (Some k) is h = ap (λ r. and_then r (λ k. with_all_written k s c ws)) (word_too m k s c w (channel_in (m.jobs s) c) is) ∙ rest k h
    by rest None is h = cc

-- a job that has a draft is there
drafts_job : (m n : Machine) (s c w : ℕ) (ws : List ℕ) → with_words_written m s c (w ∷ ws) ≡ Some n → is_some (m.jobs s) ≡ true
unfolding with_word_written
drafts_job m n s c w ws e = by (m.jobs s) e
  where
    by : (o : Option Whole) → option_and_then (λ k. with_words_written k s c ws) (with_word_to m s c w (channel_in o c)) ≡ Some n → is_some o ≡ true
    by (Some q) h = refl
    by None h = cc

wrote_too : (m n : Machine) (s c w : ℕ) (ws : List ℕ) → c < 16 → with_words_written m s c (w ∷ ws) ≡ Some n → words_written m s c (w ∷ ws) ≡ Ok n
unfolding words_written
wrote_too m n s c w ws below e =
    let t : nat_lt c 16 ≡ true = grind (arith, nat_tests) in
    ap (λ r. and_then r (λ k. with_all_written k s c (w ∷ ws)))
    (provided_ok ((nat_lt c 16, Range) ∷ (has_job m s, NoJob) ∷ []) m (t, (drafts_job m n s c w ws e, tt)))
    ∙ words_too m n s c (w ∷ ws) e

-- links
same_room : (ws : List ℕ) (o : Option Pipe) → session.has_room ws o ≡ has_room ws o
same_room ws (Some p) = refl
same_room ws None = refl

room_there : (ws : List ℕ) (o : Option Pipe) → has_room ws o ≡ true → is_some o ≡ true
room_there ws (Some p) h = refl
room_there ws None h = cc

sent_too : (m n : Machine) (l : ℕ) (ws : List ℕ) → with_words_sent m l ws ≡ Some n → words_sent m l ws ≡ Ok n
unfolding with_words_sent words_sent
sent_too m n l ws e =
    let p = passed (has_room ws (m.links l)) (on_link m l (option_map (with_words_in ws))) n e in
    provided_ok ((is_some (m.links l), Unfit) ∷ (session.has_room ws (m.links l), Full) ∷ []) _
    (room_there ws (m.links l) p.0, (same_room ws (m.links l) ∙ p.0, tt)) ∙ ap Ok p.1

same_unopened : (w : Bool) (o : Option Pipe) → session.has_unopened w o ≡ has_unopened w o
same_unopened w (Some p) = refl
same_unopened w None = refl

end_there : (w : Bool) (o : Option Pipe) → has_unopened w o ≡ true → is_some o ≡ true
end_there w (Some p) h = refl
end_there w None h = cc

shut_too : (m n : Machine) (l : ℕ) (w : Bool) → with_end_shut m l w ≡ Some n → end_shut m l w ≡ Ok n
unfolding with_end_shut end_shut
shut_too m n l w e =
    let p = passed (has_unopened w (m.links l)) (on_link m l (option_map (with_end_closed w))) n e in
    provided_ok ((is_some (m.links l), Unfit) ∷ (session.has_unopened w (m.links l), Exists) ∷ []) _
    (end_there w (m.links l) p.0, (same_unopened w (m.links l) ∙ p.0, tt)) ∙ ap Ok p.1

-- consoles
input_too : (m n : Machine) (c : ℕ) (bs : List ℕ) → with_bytes_waiting m c false bs ≡ Some n → bytes_waiting m c false bs ≡ Ok n
unfolding with_bytes_waiting bytes_waiting
input_too m n c bs e =
    let t = nat_le (length ((m.consoles c).input ++ bs)) most_waiting in
    let p = passed t (on_console m c (with_bytes false bs)) n e in
    provided_ok ((t, Full) ∷ []) _ (p.0, tt) ∙ ap Ok p.1

output_too : (m n : Machine) (c : ℕ) (bs : List ℕ) → with_bytes_waiting m c true bs ≡ Some n → bytes_waiting m c true bs ≡ Ok n
unfolding with_bytes_waiting bytes_waiting
output_too m n c bs e =
    let t = nat_le (length ((m.consoles c).output ++ bs)) most_waiting in
    let p = passed t (on_console m c (with_bytes true bs)) n e in
    provided_ok ((t, Full) ∷ []) _ (p.0, tt) ∙ ap Ok p.1

holder_too : (m n : Machine) (c s : ℕ) → with_holder_set m c s ≡ Some n → holder_set m c s ≡ Ok n
unfolding with_holder_set holder_set
holder_too m n c s e =
    let p = passed (is_some (m.jobs s) && is_none (m.holders c)) (effect (changes.Hold c s) s m) n e in
    let t = and_parts (is_some (m.jobs s)) (is_none (m.holders c)) p.0 in
    provided_ok ((has_job m s, NoJob) ∷ (is_none (m.holders c), Exists) ∷ []) _ (t.0, (t.1, tt)) ∙ ap Ok p.1

-- each line
pub line_silent : (m n : Machine) (b : Block) (l : Saved) → IsAbout b l → build m l ≡ Some n → Silent (restored m b (line_of l)) n (block_past b l)
unfolding build restored
line_silent m n b (saves.System v) h e = record { touched = nobody; does = ap (λ k. Does k [] nobody no_block) (same_Some _ n e) }
line_silent m n b (saves.Clock c) h e = record { touched = due (m.clock + c) m.jobs; does = ap (by_clock m b c) (ok_of n (after_clock m c) e) }
line_silent m n b (saves.File x) h e =
    subst (λ y. Silent (quietly (record b { file = y }) (with_file_made m y)) n (record b { file = x })) (sym (three_names x h))
    (quietly_silent (record b { file = x }) n (with_file_made m x) (ok_of n (with_file_made m x) e))
line_silent m n b (saves.FileWords x ws) h e =
    quietly_silent b n (with_words_added m b.file ws)
    (subst (λ y. with_words_added m y ws ≡ Ok n) (sym h) (ok_of n (with_words_added m x ws) e))
line_silent m n b (saves.Job s u j c) h e = disturbs_silent s (record b { slot = s }) n (job_made m s u j c) (job_too m n s u j c e)
line_silent m n b (saves.CoreWords s a ws) h e =
    disturbs_silent b.slot b n (with_words_loaded m b.slot a ws)
    (subst (λ k. with_words_loaded m k a ws ≡ Ok n) (sym h) (ok_of n (with_words_loaded m s a ws) e))
line_silent m n b (saves.ReadOnly s p) h e =
    disturbs_silent b.slot b n (with_page_protected m b.slot p)
    (subst (λ k. with_page_protected m k p ≡ Ok n) (sym h) (ok_of n (with_page_protected m s p) e))
line_silent m n b (saves.Symbol s x a) h e =
    quietly_silent b n (with_symbol_kept m b.slot x a)
    (subst (λ k. with_symbol_kept m k x a ≡ Ok n) (sym h) (ok_of n (with_symbol_kept m s x a) e))
line_silent m n b (saves.Regs s r) h e =
    disturbs_silent b.slot b n (on_registers m b.slot (session.after_registers r))
    (subst (λ k. on_registers m k (session.after_registers r) ≡ Ok n) (sym h) (registers_too m n s r e))
line_silent m n b (saves.Alarm s a) h e = disturbs_silent s b n (alarm_set m s a.0 a.1) (alarm_too m n s a e)
line_silent m n b (saves.Under s t) h e = disturbs_silent s b n (superior_set m s t) (superior_too m n s t e)
line_silent m n b (saves.Tty s c w) h e = disturbs_silent s b n (tty_opened m s c w) (tty_too m n s c w e)
line_silent m n b (saves.Disk s c x at) h e =
    disturbs_silent s b n (disk_opened m s c (names_of (name_in x 0) (name_in x 1) (name_in x 2)) at)
    (subst (λ y. disk_opened m s c y at ≡ Ok n) (sym (three_names x h)) (disk_too m n s c x at e))
line_silent m n b (saves.Draft s c x) h e =
    disturbs_silent s b n (draft_opened m s c (names_of (name_in x 0) (name_in x 1) (name_in x 2)))
    (subst (λ y. draft_opened m s c y ≡ Ok n) (sym (three_names x h)) (draft_too m n s c x e))
line_silent m n b (saves.Wrote s c []) h e = absurd h
line_silent m n b (saves.Wrote s c (w ∷ ws)) h e = disturbs_silent s b n (words_written m s c (w ∷ ws)) (wrote_too m n s c w ws h e)
line_silent m n b (saves.Usr s c t w at) h e = disturbs_silent s b n (usr_opened m s c t w at) (usr_too m n s c t w at e)
line_silent m n b (saves.Join s c l w x y) h e = disturbs_silent s b n (link_opened m s c l w x y) (link_too m n s c l w x y e)
line_silent m n b (saves.Sent l ws) h e = quietly_silent b n (words_sent m l ws) (sent_too m n l ws e)
line_silent m n b (saves.EndShut l w) h e = quietly_silent b n (end_shut m l w) (shut_too m n l w e)
line_silent m n b (saves.Bytes c false bs) h e = quietly_silent b n (bytes_waiting m c false bs) (input_too m n c bs e)
line_silent m n b (saves.Bytes c true bs) h e = quietly_silent b n (bytes_waiting m c true bs) (output_too m n c bs e)
line_silent m n b (saves.Hold c s) h e = quietly_silent b n (holder_set m c s) (holder_too m n c s e)
