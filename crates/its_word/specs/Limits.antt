-- How many there can be of each thing.
-- A promise rests on this.
use Rattle.std.specs.Prelude.{if◌then◌else◌, ◌==◌, ℕ}

-- places for jobs; slots are the numbers below
abbrev pub slots : ℕ
slots = 96

-- consoles; they go by the numbers below it
abbrev pub consoles : ℕ
consoles = 8

-- jobs that a session can have: 64 in version 1 of the session text, one for each place in version
-- 2. The slots of jobs are below this number
unfoldable pub limit_of : ℕ → ℕ
limit_of version = if version == 2 then slots else 64

-- pages of all jobs together
abbrev pub most_pages : ℕ
most_pages = 1024

-- symbols of a job
abbrev pub most_symbols : ℕ
most_symbols = 512

-- indirect words and XCT targets of one unit, its call's argument addresses with them
abbrev pub budget : ℕ
budget = 64
