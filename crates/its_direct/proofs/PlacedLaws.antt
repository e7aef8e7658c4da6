-- The open block of a session is that of a job or of a file, after any line.
use Rattle.std.specs.Prelude.{◌≡◌, ◌<◌, ℕ, Bool, true, false, cond, Option, Some, None, is_some, List, [], ◌∷◌, ◌++◌, Result, Ok, Err, length, nat_lt, refl}
use Rattle.std.proofs.Common.{ap, sym, subst, ◌∙◌, arith, eq-eqb}
use Rattle.its_word.specs.Directory.{changed_if, longer, same_names, with_changed}
use Rattle.its_word.specs.Limits.{slots}
use Rattle.its_records.specs.Tree.{least_free}
use Rattle.its_records.specs.declared.session.Event.{Event}
use Rattle.its_records.specs.declared.session.Event.TheVariants as events
use Rattle.its_records.specs.declared.session.Place.{Place}
use Rattle.its_records.specs.declared.session.Place.TheVariants as places
use Rattle.its_records.specs.declared.session.Reason.{Reason}
use Rattle.its_records.specs.declared.state_line.StateLine.{StateLine}
use Rattle.its_records.specs.declared.state_line.StateLine.TheVariants as states
use Rattle.its_records.proofs.FreeLaws.{least_below, limit_few}
use Rattle.its_word.proofs.NamesLaws.{same_refl}
use Rattle.its_session.specs.Events.{place_after}
use Rattle.its_plain.specs.Call.File.{has_file, is_full, file_named, most_files}
use Rattle.its_plain.specs.Machine.{Names, File, Whole, Machine, limit}
use Rattle.its_plain.specs.Operator.{Block, Does, Refuses, Ticks, Quits, and_then, disturbs, quietly}
use Rattle.its_plain.specs.Operator.Files.{channels_of, with_file_made, with_file_made_if, with_word_added, with_word_added_if, with_word_added_to, with_words_added}
use Rattle.its_plain.specs.Operator.Jobs.{after_load, after_load_in}
use Rattle.its_plain.specs.Operator.Lines.{Lined, Done, Peeks, by_load, lined, operate}
use Rattle.its_plain.specs.Operator.State.{restored}
use Rattle.its_plain.specs.Machine.Own.{names_of}
use Rattle.its_plain.proofs.CallLineLaws.{SlotKept, Stays, Made, LineKeepsBy, line_keeps}
use Rattle.its_direct.specs.Events.{MayStand, SpotFits, Speaks, place_before, spot_place}
use Rattle.its_direct.specs.declared.plain.Spot.{Spot}
use Rattle.its_direct.specs.declared.plain.Spot.TheVariants as spots

-- a block of lines at a place is that of a job, or of a file
abbrev pub Placed : Machine → Block → Place → Type 0
Placed m b places.Load = (b.slot < slots) × (is_some (m.jobs b.slot) ≡ true)
Placed m b places.File = has_file b.file m.files ≡ true
Placed m b places.First = Unit {0}
Placed m b places.Plain = Unit {0}
Placed m b places.System = Unit {0}

-- the block of lines after the result of a line is that of a job, or of a file
abbrev pub PlacedBy : Place → Lined → Type 0
PlacedBy p (Done (Does n out touched c)) = Placed n c p
PlacedBy p (Done (Refuses r)) = Unit {0}
PlacedBy p (Done (Ticks s k)) = Unit {0}
PlacedBy p (Done Quits) = Unit {0}
PlacedBy p (Peeks s) = Unit {0}

-- outside any block there is nothing to say
plain_placed : (l : Lined) → PlacedBy places.Plain l
plain_placed (Done (Does n out touched c)) = tt
plain_placed (Done (Refuses r)) = tt
plain_placed (Done (Ticks s k)) = tt
plain_placed (Done Quits) = tt
plain_placed (Peeks s) = tt

system_placed : (l : Lined) → PlacedBy places.System l
system_placed (Done (Does n out touched c)) = tt
system_placed (Done (Refuses r)) = tt
system_placed (Done (Ticks s k)) = tt
system_placed (Done Quits) = tt
system_placed (Peeks s) = tt

-- a line of the state part
restored_placed : (m : Machine) (b : Block) (line : StateLine)
    → PlacedBy (place_after (place_before line) (events.Restore line)) (Done (restored m b line))
restored_placed m b states.Ready = plain_placed (Done (restored m b states.Ready))
restored_placed m b line = system_placed (Done (restored m b line))

-- LOAD makes the job, and the lines of its block leave it
load_placed : (m : Machine) (b : Block) (u j : ℕ) (console o : Option ℕ) → least_free (limit m) m.jobs ≡ o
    → PlacedBy places.Load (Done (by_load b (after_load_in m u j console o)))
load_placed m b u j console None is = tt
load_placed m b u j console (Some s) is =
    let below : s < limit m = least_below (limit m) m.jobs s is in let few = limit_few m.version in
    by_console console (omega arith)
  where
    by_console : (c : Option ℕ) → s < slots → PlacedBy places.Load (Done (by_load b (after_load_in m u j c (Some s))))
    by_console (Some c) l = (l, rw (eq-eqb s s refl) refl)
    by_console None l = (l, rw (eq-eqb s s refl) refl)

job_stays : (o p : Option Whole) → SlotKept o p → is_some o ≡ true → is_some p ≡ true
job_stays o (Some r) kept h = refl
job_stays (Some q) None (Stays e) h = cc
job_stays (Some q) None (Made u j c none is) h = cc
job_stays None None kept h = cc

disturbs_placed : (m : Machine) (b : Block) (r : Result Machine Reason) → LineKeepsBy m (Done (disturbs b.slot b r))
    → Placed m b places.Load → PlacedBy places.Load (Done (disturbs b.slot b r))
disturbs_placed m b (Ok n) keeps h = (h.0, job_stays (m.jobs b.slot) (n.jobs b.slot) (keeps.slots b.slot) h.1)
disturbs_placed m b (Err r) keeps h = tt

quietly_placed : (m : Machine) (b : Block) (r : Result Machine Reason) → LineKeepsBy m (Done (quietly b r)) → Placed m b places.Load
    → PlacedBy places.Load (Done (quietly b r))
quietly_placed m b (Ok n) keeps h = (h.0, job_stays (m.jobs b.slot) (n.jobs b.slot) (keeps.slots b.slot) h.1)
quietly_placed m b (Err r) keeps h = tt

-- FILE makes the file, and its words leave its names
first_has : (b : Bool) (g : File) (o : Option File) → is_some o ≡ true → is_some (cond b (Some g) o) ≡ true
first_has true g o h = refl
first_has false g o h = h

has_last : (n : Names) (ws : List ℕ) (fs : List File) → has_file n (fs ++ record { names = n; words = ws } ∷ []) ≡ true
has_last n ws [] = rw (same_refl n) refl
has_last n ws (g ∷ gs) = first_has (same_names n g.names) g (file_named n (gs ++ record { names = n; words = ws } ∷ [])) (has_last n ws gs)

file_placed : (m : Machine) (b : Block) (n : Names) (there room : Bool)
    → PlacedBy places.File (Done (quietly (record b { file = n }) (with_file_made_if m n there room)))
file_placed m b n true room = tt
file_placed m b n false true = has_last n [] m.files
file_placed m b n false false = tt

some_first : (b c : Bool) (x y : File) (o p : Option File) → b ≡ c → is_some o ≡ is_some p → is_some (cond b (Some x) o) ≡ is_some (cond c (Some y) p)
some_first true true x y o p e h = refl
some_first false false x y o p e h = h
some_first true false x y o p e h = cc
some_first false true x y o p e h = cc

names_stay : (b : Bool) (f : File) (w : ℕ) → (changed_if b f (longer w f)).names ≡ f.names
names_stay true f w = refl
names_stay false f w = refl

has_changed : (n k : Names) (w : ℕ) (fs : List File) → has_file n (with_changed k (longer w) fs) ≡ has_file n fs
has_changed n k w [] = refl
has_changed n k w (f ∷ fs) =
    some_first (same_names n (changed_if (same_names k f.names) f (longer w f)).names) (same_names n f.names)
    (changed_if (same_names k f.names) f (longer w f)) f
    (file_named n (with_changed k (longer w) fs)) (file_named n fs) (ap (same_names n) (names_stay (same_names k f.names) f w)) (has_changed n k w fs)

abbrev HasBy : Names → Machine → Result Machine Reason → Type 0
HasBy n m (Ok k) = has_file n k.files ≡ has_file n m.files
HasBy n m (Err r) = Unit {0}

added_has_if : (m : Machine) (n : Names) (w : ℕ) (full : Bool) → HasBy n m (with_word_added_if m n w full)
added_has_if m n w true = tt
added_has_if m n w false = has_changed n n w m.files

added_has_to : (m : Machine) (n : Names) (w : ℕ) (o : Option File) → HasBy n m (with_word_added_to m n w o)
added_has_to m n w (Some f) = added_has_if m n w (is_full m.files (channels_of m) f.words)
added_has_to m n w None = tt

added_has : (m : Machine) (n : Names) (w : ℕ) → HasBy n m (with_word_added m n w)
unfolding with_word_added
added_has m n w = added_has_to m n w (file_named n m.files)

has_further : (n : Names) (m k : Machine) (r : Result Machine Reason) → has_file n k.files ≡ has_file n m.files → HasBy n k r → HasBy n m r
has_further n m k (Ok l) a b = b ∙ a
has_further n m k (Err r) a b = tt

words_has : (m : Machine) (n : Names) (ws : List ℕ) → HasBy n m (with_words_added m n ws)
words_has m n [] = refl
words_has m n (w ∷ ws) = go (with_word_added m n w) (added_has m n w) (λ k. words_has k n ws)
  where
    go : (r : Result Machine Reason) → HasBy n m r → ((k : Machine) → HasBy n k (with_words_added k n ws))
        → HasBy n m (and_then r (λ k. with_words_added k n ws))
    go (Ok k) a h = has_further n m k (with_words_added k n ws) a (h k)
    go (Err r) a h = tt

words_placed : (m : Machine) (b : Block) (r : Result Machine Reason) → HasBy b.file m r → Placed m b places.File → PlacedBy places.File (Done (quietly b r))
words_placed m b (Ok n) e h = e ∙ h
words_placed m b (Err r) e h = tt

-- each line
pub line_placed : (m : Machine) (b : Block) (place : Place) (e : Event) → MayStand place e → Placed m b place → PlacedBy (place_after place e) (lined m b e)
unfolding lined operate after_load with_file_made
line_placed m b places.First events.Nothing at h = tt
line_placed m b places.Plain events.Nothing at h = tt
line_placed m b places.System events.Nothing at h = tt
line_placed m b places.Load events.Nothing at h = h
line_placed m b places.File events.Nothing at h = h
line_placed m b place (events.Load u j console) at h = load_placed m b u j console (least_free (limit m) m.jobs) refl
line_placed m b place (events.Words a words) at h =
    subst (λ (p : Place). PlacedBy (place_after p (events.Words a words)) (lined m b (events.Words a words))) (sym at)
    (disturbs_placed m b _ (line_keeps m b (events.Words a words)) (subst (Placed m b) at h))
line_placed m b place (events.ReadOnly page) at h =
    subst (λ (p : Place). PlacedBy (place_after p (events.ReadOnly page)) (lined m b (events.ReadOnly page))) (sym at)
    (disturbs_placed m b _ (line_keeps m b (events.ReadOnly page)) (subst (Placed m b) at h))
line_placed m b place (events.Symbol name a) at h =
    subst (λ (p : Place). PlacedBy (place_after p (events.Symbol name a)) (lined m b (events.Symbol name a))) (sym at)
    (quietly_placed m b _ (line_keeps m b (events.Symbol name a)) (subst (Placed m b) at h))
line_placed m b place (events.Go a) at h = plain_placed (lined m b (events.Go a))
line_placed m b place (events.File d x y) at h = file_placed m b (names_of d x y) (has_file (names_of d x y) m.files) (nat_lt (length m.files) most_files)
line_placed m b place (events.Append words) at h =
    subst (λ (p : Place). PlacedBy (place_after p (events.Append words)) (lined m b (events.Append words))) (sym at)
    (words_placed m b (with_words_added m b.file words.items) (words_has m b.file words.items) (subst (Placed m b) at h))
line_placed m b place events.EndFile at h = tt
line_placed m b place (events.Restore line) at h =
    subst (λ (p : Place). PlacedBy (place_after p (events.Restore line)) (Done (restored m b line))) (sym at) (restored_placed m b line)
line_placed m b place e at h = subst (λ (p : Place). PlacedBy (place_after p e) (lined m b e)) (sym at) (plain_placed (lined m b e))

-- a place, and a block of which it speaks
pub placed_block : (m : Machine) (x : Spot) (b : Block) → Speaks x b → SpotFits m x → Placed m b (spot_place x)
placed_block m spots.Plain b at h = tt
placed_block m (spots.System s names) b at h = tt
placed_block m (spots.Load s) b at h = subst (λ k. (k < slots) × (is_some (m.jobs k) ≡ true)) (sym at) h
placed_block m (spots.File names) b at h = subst (λ k. has_file k m.files ≡ true) (sym at) h

pub spot_placed : (m : Machine) (x : Spot) (b : Block) (p : Place) → spot_place x ≡ p → Speaks x b → Placed m b p → SpotFits m x
spot_placed m spots.Plain b p is at h = tt
spot_placed m (spots.System s names) b p is at h = tt
spot_placed m (spots.Load s) b p is at h =
    let here : Placed m b places.Load = subst (Placed m b) (sym is) h in subst (λ k. (k < slots) × (is_some (m.jobs k) ≡ true)) at here
spot_placed m (spots.File names) b p is at h =
    let here : Placed m b places.File = subst (Placed m b) (sym is) h in subst (λ k. has_file k m.files ≡ true) at here
