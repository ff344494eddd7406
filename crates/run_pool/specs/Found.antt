-- What a worker finds of a file.
use Rattle.srb_check.specs.Found.{IsFoundIn}
use Rattle.srb_check.specs.Jobs.{Known}
use Rattle.run_queues.specs.declared.item.Item.{Item}

-- the item's number is a file's of the job, and its list is what a fresh check finds in that file
abbrev pub IsFoundBy : Known → Item → Type 0
IsFoundBy job item = IsFoundIn job item.number item.list
