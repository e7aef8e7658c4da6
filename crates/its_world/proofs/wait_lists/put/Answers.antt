use Rattle.its_world.proofs.WaitListLaws.{put_some}
use Rattle.its_world.proofs.wait_lists.put.Goals as goal

pub returns-in-Some : goal.returns-in-Some
returns-in-Some c = put_some _ _ _ _ _ _ _ (rw c.number.ensures.value at c.from.ensures) c.in-Some.is c.take_out.ensures c.requires.place
    c.push_back.ensures.lists
