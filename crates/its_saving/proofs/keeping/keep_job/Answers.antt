use Rattle.its_saving.proofs.keeping.keep_job.Goals as goal

pub returns : goal.returns
returns c = record { words = c.keep_registers.ensures; places = c.keep_places.ensures }
