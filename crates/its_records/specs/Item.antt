-- The items of the lines of a session, in their order.
-- A promise rests on this.
use Rattle.its_records.specs.declared.session.Event.{Event}
use Rattle.its_records.specs.declared.session.Reason.{Reason}

pub data Item : Type 0 where
  -- a line that is read
  Read : Event → Item
  -- a line that is none of the grammar's, or the end of input inside a block: the session ends with
  -- a `?` line
  Unread : Reason → Item
  -- a line past the most that a session may have begins
  Beyond : Item
