-- What a world keeps if one part is written.
use Rattle.std.specs.Prelude.{◌≡◌, ◌<◌, ◌≤◌, ◌+◌, ◌-◌, ℕ, true, Option, Some, None, IsSome, IfSome, is_some, List, [], ◌∷◌, ◌++◌, length, drop, option_map, refl}
use Rattle.std.proofs.Common.{ap, sym, arith, inl, inr, ◌∙◌}
use Rattle.std.proofs.lemmas.Bool.{cases_eq}
use Rattle.std.proofs.lemmas.List.{length-append, take-append-le, take_all}
use Rattle.its_word.specs.Only.{Only}
use Rattle.its_word.specs.Console.{Console, most_waiting}
use Rattle.its_word.specs.Core.{Core}
use Rattle.its_records.specs.declared.jobs.Job.{Job}
use Rattle.its_frame.specs.declared.frame.Frame.{Frame}
use Rattle.its_jobs.specs.Table.{job_at}
use Rattle.its_plain.specs.Machine.Change.{rest_of}
use Rattle.its_shared.proofs.CoreLaws.{same_core, same_clear}
use Rattle.its_world.specs.Contents.{Contents, contents}
use Rattle.its_world.specs.World.{frame_at, console_at, holder_at, frames_after, with_frames, Becomes, CoreBecomes, PageBecomes, ConsoleBecomes, HolderBecomes, LinkBecomes, ClockBecomes, typed_at}
use Rattle.its_plain.specs.Machine.{Pipe}
use Rattle.its_plain.specs.Call.Moves.{AtConsole, AtLink}
use Rattle.its_pipes.specs.Pipes.{piped}
use Rattle.its_world.specs.WaitLists.{input_lists, lists_at, link_lists, output_lists}
use Rattle.its_world.specs.Filed.{SlotWritten, ConsoleWritten, HolderWritten, LinkWritten, ClockWritten, OnlyWaitLists, Refiled, Resettled, OnLists}
use Rattle.its_world.proofs.PlaceLaws.{doors_in, on_lists_alike, slot_on_lists, doors_written, post_on_lists, heard_on_lists, spoken_on_lists, clock_on_lists}
use Rattle.its_world.specs.declared.world.World.{World}
use Rattle.its_core.specs.Cores.{Cores, Reserved, core_at, reserved_at, clear_at}
use Rattle.its_core.specs.Frames.{Frames, frames_give_back}
use Rattle.its_world.proofs.ContentsLaws.{core_as, jobs_as, frames_as, consoles_as, holders_as, lists_as, pipes_as}

-- nothing else changes
unchanged : {X : Type 0} → (f : ℕ → X) (s : ℕ) → Only f f s (f s)
unchanged f s = record { here = refl; others = λ k h. refl }

-- what is read later is what was read
only_along : {X : Type 0} → (f g h : ℕ → X) (s : ℕ) (x : X) → Only f g s x → ((k : ℕ) → h k ≡ g k) → Only f h s x
only_along f g h s x o e = record { here = e s ∙ o.here; others = λ k ne. e k ∙ o.others k ne }

pub alike : {X : Type 0} → (f g : ℕ → X) (s : ℕ) → ((k : ℕ) → g k ≡ f k) → Only f g s (f s)
alike f g s h = record { here = h s; others = λ k n. h k }

-- the frames of pages stay if no page is reserved and none given back
pub frames_still : (o : Option ℕ) (s : ℕ) (f : Frames) → frames_after o o s f ≡ f
frames_still None s f = refl
frames_still (Some n) s f = refl

pub frames_backed : (o : Option ℕ) (s : ℕ) (f : Frames) → is_some o ≡ true → frames_after o None s f ≡ frames_give_back s f
frames_backed (Some n) s f h = refl
frames_backed None s f h = cc

-- what is left of an equation of contents, if the core, the jobs, the frames and the lists are
-- those of a new world
pub in_slot : (new : World) {p q : Contents} → p ≡ q
    → record p { core = new.core; jobs = new.jobs; frames = new.frames; wait_lists = new.wait_lists } ≡ record q
    { core = new.core; jobs = new.jobs; frames = new.frames; wait_lists = new.wait_lists }
in_slot new e = λ t. record (e t) { core = new.core; jobs = new.jobs; frames = new.frames; wait_lists = new.wait_lists }

-- a core is written, which keeps its frames of pages and its reserved page
pub core_becomes : (old new : World) (s : ℕ) (c : Core) → Only (core_at old.core) (core_at new.core) s c
    → new.core.reserved ≡ old.core.reserved → new.core.frames ≡ old.core.frames
    → contents new ≡ record (contents old) { core = new.core } → CoreBecomes old new s c
core_becomes old new s c core reserved pages e = record {
  core = core;
  job = alike _ _ s (λ k. ap (λ t. job_at t k) (jobs_as e));
  superiors = ap (λ t. t.superiors) (jobs_as e);
  frame = alike _ _ s (λ k. ap (λ t. frame_at t.items k) (frames_as e));
  reserved = alike _ _ s ((same_clear old.core new.core reserved).each);
  pages = pages ∙ sym (frames_still (clear_at old.core s) s old.core.frames);
  rest = in_slot new e;
  on_lists = on_lists_alike old new (jobs_as e) (frames_as e) (ap doors_in e) (lists_as e);
}

-- the job or the frame of a slot is written, and the slot is put on the list to which it belongs
pub slot_becomes : (old mid new : World) (s : ℕ) (j : Option Job) (f : Option Frame) → SlotWritten old mid s j f → Refiled mid new s
    → Becomes old new s (core_at old.core s) j f (clear_at old.core s)
slot_becomes old mid new s j f w r =
    let core : new.core ≡ old.core = core_as r.rest.is ∙ core_as w.rest in
    record {
      core = alike _ _ s (λ k. ap (λ t. core_at t k) core);
      job = only_along _ _ _ s j w.job (λ k. ap (λ t. job_at t k) (jobs_as r.rest.is));
      superiors = ap (λ t. t.superiors) (jobs_as r.rest.is) ∙ w.superiors;
      frame = only_along _ _ _ s f w.frame (λ k. ap (λ l. frame_at l.items k) (frames_as r.rest.is));
      reserved = alike _ _ s (λ k. ap (λ t. clear_at t k) core);
      pages = ap (λ t. t.frames) core ∙ sym (frames_still (clear_at old.core s) s old.core.frames);
      rest = in_slot new r.rest.is ∙ in_slot new w.rest;
      on_lists = slot_on_lists old mid new s j f w r;
    }

-- a slot is written with a frame that depends on what was there
pub if_becomes : {X : Type 0} → (o : Option X) (old mid new : World) (s : ℕ) (j : Option Job) (f : X → Option Frame)
    → IfSome o (λ x. SlotWritten old mid s j (f x)) → Refiled mid new s
    → IfSome o (λ x. Becomes old new s (core_at old.core s) j (f x) (clear_at old.core s))
if_becomes (Some x) old mid new s j f w r = slot_becomes old mid new s j (f x) w r
if_becomes None old mid new s j f w r = w

pub job_written : (old new : World) (s : ℕ) (j : Job) → Only (job_at old.jobs) (job_at new.jobs) s (Some j)
    → new.jobs.superiors ≡ old.jobs.superiors → contents new ≡ record (contents old) { jobs = new.jobs }
    → SlotWritten old new s (Some j) (frame_at old.frames.items s)
job_written old new s j job superiors e = record {
  job = job;
  superiors = superiors;
  frame = alike _ _ s (λ k. ap (λ t. frame_at t.items k) (frames_as e));
  rest = λ t. record (e t) { frames = new.frames };
}

pub frame_written : (old new : World) (s : ℕ) (f : Option Frame) → Only (frame_at old.frames.items) (frame_at new.frames.items) s f
    → contents new ≡ record (contents old) { frames = new.frames }
    → SlotWritten old new s (job_at old.jobs s) f
frame_written old new s f frame e = record {
  job = alike _ _ s (λ k. ap (λ t. job_at t k) (jobs_as e));
  superiors = ap (λ t. t.superiors) (jobs_as e);
  frame = frame;
  rest = λ t. record (e t) { jobs = new.jobs };
}

-- a core is written, and its pages are in other frames then
pub framed_becomes : (old new : World) (s : ℕ) (c : Core) → Only (core_at old.core) (core_at new.core) s c
    → new.core.reserved ≡ old.core.reserved → contents new ≡ record (contents old) { core = new.core }
    → CoreBecomes old (with_frames new old.core.frames) s c
unfolding core_at reserved_at
framed_becomes old new s c core reserved e = core_becomes old (with_frames new old.core.frames) s c core reserved refl
    (λ t. record (e t) { core = record new.core { frames = old.core.frames } })

-- two changes of one slot, one after the other, of which the second reserves no page and gives none
-- back
only_then : {X : Type 0} → (f g h : ℕ → X) (s : ℕ) (x y : X) → Only f g s x → Only g h s y → Only f h s y
only_then f g h s x y a b = record { here = b.here; others = λ k n. b.others k n ∙ a.others k n }

pub then_becomes : (old mid new : World) (s : ℕ) (c d : Core) (i j : Option Job) (f g : Option Frame) (r : Option ℕ)
    → Becomes old mid s c i f r → Becomes mid new s d j g r → Becomes old new s d j g r
then_becomes old mid new s c d i j f g r a b = record {
  core = only_then _ _ _ s c d a.core b.core;
  job = only_then _ _ _ s i j a.job b.job;
  superiors = b.superiors ∙ a.superiors;
  frame = only_then _ _ _ s f g a.frame b.frame;
  reserved = only_then _ _ _ s r r a.reserved b.reserved;
  pages = b.pages ∙ ap (λ o. frames_after o r s mid.core.frames) a.reserved.here ∙ frames_still r s mid.core.frames ∙ a.pages;
  rest = b.rest ∙ in_slot new a.rest;
  on_lists = λ r. b.on_lists (a.on_lists r);
}

pub page_becomes : (old new : World) (s : ℕ) (r : Option ℕ) → Only (clear_at old.core) (clear_at new.core) s r → new.core.cores ≡ old.core.cores
    → new.core.frames ≡ frames_after (clear_at old.core s) r s old.core.frames → contents new ≡ record (contents old) { core = new.core }
    → PageBecomes old new s r
page_becomes old new s r page cores pages e = record {
  core = alike _ _ s (λ k. same_core old.core new.core k cores);
  job = alike _ _ s (λ k. ap (λ t. job_at t k) (jobs_as e));
  superiors = ap (λ t. t.superiors) (jobs_as e);
  frame = alike _ _ s (λ k. ap (λ t. frame_at t.items k) (frames_as e));
  reserved = page;
  pages = pages;
  rest = in_slot new e;
  on_lists = on_lists_alike old new (jobs_as e) (frames_as e) (ap doors_in e) (lists_as e);
}

some_by : (o : Option Reserved) → is_some (option_map (λ x. x.clear) o) ≡ true → IsSome o
some_by (Some x) h = refl
some_by None h = cc

pub reserved_some : (c : Cores) (s : ℕ) → is_some (clear_at c s) ≡ true → IsSome (reserved_at c s)
reserved_some c s h = some_by (reserved_at c s) h

-- a console, its holder, a link or the clock is written, and the slots that it can move are put on
-- the lists to which they belong
console_settled : (old mid new : World) (c : ℕ) (x : Console) → ConsoleWritten old mid c x → OnlyWaitLists mid new
    → (OnLists old → OnLists new) → ConsoleBecomes old new c x
console_settled old mid new c x w o on_lists = record {
  consoles = only_along _ _ _ c x w.consoles (λ k. ap (λ l. console_at l.items k) (consoles_as o.is));
  rest = (λ t. record (o.is t) { consoles = new.consoles }) ∙ (λ t. record (w.rest t) { consoles = new.consoles; wait_lists = new.wait_lists });
  on_lists = on_lists;
}

-- what stays of the console that is written, stays of all
stays_of : {X : Type 0} → (f : Console → X) (old mid : World) (c : ℕ) (x : Console) → ConsoleWritten old mid c x → f x ≡ f (console_at old.consoles.items c)
    → (k : ℕ) → f (console_at mid.consoles.items k) ≡ f (console_at old.consoles.items k)
stays_of f old mid c x w e k = elim (cases_eq k c) [
  | inl q ↦ ap (λ i. f (console_at mid.consoles.items i)) q ∙ ap f w.consoles.here ∙ e ∙ sym (ap (λ i. f (console_at old.consoles.items i)) q)
  | inr ne ↦ ap f (w.consoles.others k ne)
]

-- the input of a console is written, or its output
pub console_heard : (old mid new : World) (c : ℕ) (x : Console) → ConsoleWritten old mid c x
    → x.output ≡ (console_at old.consoles.items c).output → Resettled mid new (input_lists c) → ConsoleBecomes old new c x
console_heard old mid new c x w e r = console_settled old mid new c x w r.rest
    (heard_on_lists old mid new c w.consoles.others (stays_of (λ k. k.output) old mid c x w e) w.rest r)

pub console_spoken : (old mid new : World) (c : ℕ) (x : Console) → ConsoleWritten old mid c x
    → x.input ≡ (console_at old.consoles.items c).input → Resettled mid new (output_lists c) → ConsoleBecomes old new c x
console_spoken old mid new c x w e r = console_settled old mid new c x w r.rest
    (spoken_on_lists old mid new c w.consoles.others (stays_of (λ k. k.input) old mid c x w e) w.rest r)

pub holder_becomes : (old mid new : World) (c : ℕ) (h : Option ℕ) → HolderWritten old mid c h → Resettled mid new (lists_at c) → HolderBecomes old new c h
holder_becomes old mid new c h w r = record {
  holders = only_along _ _ _ c h w.holders (λ k. ap (λ l. holder_at l k) (holders_as r.rest.is));
  rest = (λ t. record (r.rest.is t) { holders = new.holders }) ∙ (λ t. record (w.rest t) { holders = new.holders; wait_lists = new.wait_lists });
  on_lists = post_on_lists old mid new (AtConsole c) (λ k ne. ap (λ l. console_at l.items k) (consoles_as w.rest))
      (λ k ne. w.holders.others k (λ e. ne (ap AtConsole e))) (λ k ne. ap (λ p. piped p k) (pipes_as w.rest)) (doors_written mid w.rest) r;
}

pub link_becomes : (old mid new : World) (l : ℕ) (p : Option Pipe) → LinkWritten old mid l p → Resettled mid new (link_lists l) → LinkBecomes old new l p
link_becomes old mid new l p w r = record {
  links = only_along _ _ _ l p w.links (λ k. ap (λ q. piped q k) (pipes_as r.rest.is));
  rest = (λ t. record (r.rest.is t) { pipes = new.pipes }) ∙ (λ t. record (w.rest t) { pipes = new.pipes; wait_lists = new.wait_lists });
  on_lists = post_on_lists old mid new (AtLink l) (λ k ne. ap (λ x. console_at x.items k) (consoles_as w.rest))
      (λ k ne. ap (λ x. holder_at x k) (holders_as w.rest)) (λ k ne. w.links.others k (λ e. ne (ap AtLink e))) (doors_written mid w.rest) r;
}

pub clock_becomes : (old mid new : World) (c : ℕ) → old.clock ≤ c → ClockWritten old mid c → Resettled mid new (1 ∷ []) → ClockBecomes old new c
clock_becomes old mid new c later w r =
    let gains : c ≡ old.clock + (c - old.clock) = omega arith in
    record {
      rest = r.rest.is ∙ (λ t. record (w.is t) { wait_lists = new.wait_lists });
      on_lists = clock_on_lists old mid new (c - old.clock) (w.is ∙ ap (λ (t : ℕ). record (contents old) { clock = t }) gains) r;
    }

pub console_written : (old new : World) (c : ℕ) (x : Console) → Only (console_at old.consoles.items) (console_at new.consoles.items) c x
    → contents new ≡ record (contents old) { consoles = new.consoles } → ConsoleWritten old new c x
console_written old new c x consoles rest = record { consoles = consoles; rest = rest }

pub holder_written : (old new : World) (c : ℕ) (h : Option ℕ) → Only (holder_at old.holders) (holder_at new.holders) c h
    → contents new ≡ record (contents old) { holders = new.holders } → HolderWritten old new c h
holder_written old new c h holders rest = record { holders = holders; rest = rest }

pub rest_is : (bs : List ℕ) → drop 1 bs ≡ rest_of bs
rest_is [] = refl
rest_is (b ∷ bs) = refl

pub typed_room : (x : Console) (b n : ℕ) → n ≡ length x.input → n < most_waiting → record x { input = x.input ++ b ∷ [] } ≡ typed_at b x
typed_room x b n e l =
    let all : length (x.input ++ b ∷ []) ≤ most_waiting = let s = length-append x.input (b ∷ []) in omega arith in
    ap (λ (bs : List ℕ). record x { input = bs }) (sym (take_all most_waiting (x.input ++ b ∷ []) all))

pub typed_full : (x : Console) (b n : ℕ) → n ≡ length x.input → n ≤ most_waiting → most_waiting ≤ n → x ≡ typed_at b x
typed_full x b n e l full =
    let all : length x.input ≤ most_waiting = omega arith in
    let in_list : most_waiting ≤ length x.input = omega arith in
    ap (λ (bs : List ℕ). record x { input = bs }) (sym (take-append-le most_waiting x.input (b ∷ []) in_list ∙ take_all most_waiting x.input all))
