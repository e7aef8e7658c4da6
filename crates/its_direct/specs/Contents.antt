-- What a second machine holds, without the facts that its type promises. What a change
-- leaves as it was is one equation of contents: by contents new ≡ record (contents old) { clock =
-- new.clock } all but the clock is as it was.
-- No promise rests on this.
use Rattle.std.specs.Prelude.{ℕ, Bool, Option, List}
use Rattle.std.specs.Global.{Vec}
use Rattle.its_word.specs.ArrayVec.{ArrayVec}
use Rattle.its_word.specs.Console.{Console}
use Rattle.its_core.specs.Cores.{Cores}
use Rattle.its_jobs.specs.Table.{Table}
use Rattle.its_files.specs.Files.{Store}
use Rattle.its_pipes.specs.Pipes.{Piping}
use Rattle.its_plain.specs.Machine.{Symbol}
use Rattle.its_direct.specs.declared.plain.Plain.{Plain}
use Rattle.its_direct.specs.declared.plain.Spot.{Spot}

pub record Contents : Type 0 where
  pub core : Cores
  pub jobs : Table
  pub consoles : Vec Console
  pub holders : List (Option ℕ)
  pub files : Store
  pub clock : ℕ
  pub alarms : Vec (Option (ℕ × ℕ))
  pub version : ℕ
  pub symbols : Vec (ArrayVec Symbol)
  pub pipes : Piping
  pub place : Spot
  pub touched : List Bool

abbrev pub contents : Plain → Contents
contents p = record {
  core = p.core;
  jobs = p.jobs;
  consoles = p.consoles;
  holders = p.holders;
  files = p.files;
  clock = p.clock;
  alarms = p.alarms;
  version = p.version;
  symbols = p.symbols;
  pipes = p.pipes;
  place = p.place;
  touched = p.touched;
}
