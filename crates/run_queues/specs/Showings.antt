-- What contracts see of a pass and of the queue.
use Rattle.std.specs.Prelude.{ℕ, List, Option}
use Rattle.atomic_table.specs.Seated.{TableId}
use Rattle.run_queues.specs.declared.item.Item.{Item}

-- the name of its queue, its view, the items that it gave and got, in order, and how many puts and takes it may still make
pub record Showing (W : Type 0) : Type 0 where
  pub queue : TableId
  pub view : Option W
  pub gave : List Item
  pub got : List Item
  pub left : ℕ

-- the queue's name, and how many items it has room for
pub record Places : Type 0 where
  pub name : TableId
  pub room : ℕ
