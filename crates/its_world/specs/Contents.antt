-- What a world holds, without the facts that its type promises. What a change leaves as it was is
-- one equation of contents: by contents new ≡ record (contents old) { wait_lists = new.wait_lists }
-- all but the wait lists is as it was.
-- No promise rests on this.
use Rattle.std.specs.Prelude.{ℕ, Option, List}
use Rattle.std.specs.Global.{Vec}
use Rattle.its_links.specs.Lists.{Linked}
use Rattle.its_word.specs.ArrayVec.{ArrayVec}
use Rattle.its_word.specs.Console.{Console}
use Rattle.its_core.specs.Cores.{Cores}
use Rattle.its_jobs.specs.Table.{Table}
use Rattle.its_files.specs.Files.{Store}
use Rattle.its_frame.specs.declared.frame.Frame.{Frame}
use Rattle.its_pipes.specs.Pipes.{Piping}
use Rattle.its_plain.specs.Machine.{Symbol}
use Rattle.its_world.specs.declared.world.World.{World}

pub record Contents : Type 0 where
  pub core : Cores
  pub jobs : Table
  pub frames : Vec (Option Frame)
  pub consoles : Vec Console
  pub holders : List (Option ℕ)
  pub files : Store
  pub clock : ℕ
  pub wait_lists : Linked
  pub version : ℕ
  pub symbols : Vec (ArrayVec Symbol)
  pub alarms : Vec (Option (ℕ × ℕ))
  pub pipes : Piping

abbrev pub contents : World → Contents
contents w = record {
  core = w.core;
  jobs = w.jobs;
  frames = w.frames;
  consoles = w.consoles;
  holders = w.holders;
  files = w.files;
  clock = w.clock;
  wait_lists = w.wait_lists;
  version = w.version;
  symbols = w.symbols;
  alarms = w.alarms;
  pipes = w.pipes;
}
