-- The generated session of `its gen` (docs/SESSION.md, "its gen"): eight jobs, each of which echoes
-- what is typed at a console of its own. Numbers of the text are octal.
-- No promise rests on this.
use Rattle.std.specs.Prelude.{if◌then◌else◌, ℕ, zero, suc, ◌+◌, ◌*◌, ◌%◌, ◌==◌, Some, List, [], ◌∷◌, ◌++◌, codes}
use Rattle.its_word.specs.Text.{sixbit_of}
use Rattle.its_records.specs.declared.session.Event.{Event}
use Rattle.its_records.specs.declared.session.Event.TheVariants as events

-- what comes for each of 0, 1, .. n - 1, in their order
abbrev pub for_each : {A : Type 0} → ℕ → (ℕ → List A) → List A
for_each zero f = []
for_each (suc n) f = for_each n f ++ f n

-- how many jobs there are, one at each console
abbrev pub jobs : ℕ
jobs = 8

-- a line of words
abbrev pub placed : ℕ → List ℕ → Event
placed a ws = events.Words a (record { items = ws })

-- `LOAD U E c`, the program, which opens its console for input and for output and then echoes for
-- ever, and `GO 1000`
unfoldable pub started : ℕ → List Event
started c =
    events.Load (sixbit_of (codes "U")) (sixbit_of (codes "E")) (Some c)
    ∷ placed 0o1000 (0o043000001020 ∷ 0o045700000000 ∷ 0o043000001030 ∷ 0o045700000000 ∷ 0o040040000003 ∷ 0o040100000003 ∷ 0o254000001004 ∷ [])
    ∷ placed 0o1020 (0o400000000000 ∷ 0o576045560000 ∷ 0o001000000001 ∷ 0o400000001050 ∷ [])
    ∷ placed 0o1030 (0o400000000000 ∷ 0o576045560000 ∷ 0o005000000001 ∷ 0o001000000002 ∷ 0o400000001050 ∷ [])
    ∷ placed 0o1050 (0o646471000000 ∷ [])
    ∷ events.Go 0o1000
    ∷ []

-- the letter that is typed in round r at console c: one of the 26 from A on
abbrev pub letter : ℕ → ℕ → ℕ
letter r c = 65 + (7 * r + c) % 26

-- `EXAM c 3 1`, if r + c is a multiple of 3
abbrev pub looked_at : ℕ → ℕ → List Event
looked_at r c = if (r + c) % 3 == 0 then events.Exam c 3 1 ∷ [] else []

-- round r at console c: `TYPE c b`, `TICK c 24`, perhaps an EXAM, and `DRAIN c 10`
unfoldable pub echoed : ℕ → ℕ → List Event
echoed r c =
    events.TypeIn c (record { items = letter r c ∷ [] })
    ∷ events.Tick c 0o24
    ∷ (looked_at r c ++ events.Drain c 0o10 ∷ [])

-- `TICK c 40` and `DRAIN c 100`
unfoldable pub emptied : ℕ → List Event
emptied c = events.Tick c 0o40 ∷ events.Drain c 0o100 ∷ []

-- each of these at each console
unfoldable pub all_started : List Event
all_started = for_each jobs started

unfoldable pub round : ℕ → List Event
round r = for_each jobs (echoed r)

unfoldable pub all_emptied : List Event
all_emptied = for_each jobs emptied

-- the session of n rounds: the jobs are started, the rounds are made, the consoles are emptied, and
-- `END`
unfoldable pub generated_session : ℕ → List Event
generated_session n = all_started ++ (for_each n round ++ (all_emptied ++ events.End ∷ []))

-- which lines it has
abbrev pub IsGenerated : Event → Type 0
IsGenerated (events.Load u j c) = Unit {0}
IsGenerated (events.Words a ws) = Unit {0}
IsGenerated (events.Go a) = Unit {0}
IsGenerated (events.TypeIn c bs) = Unit {0}
IsGenerated (events.Tick s n) = Unit {0}
IsGenerated (events.Exam s a n) = Unit {0}
IsGenerated (events.Drain c n) = Unit {0}
IsGenerated events.End = Unit {0}
IsGenerated _ = ⊥
