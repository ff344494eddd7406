use Rattle.srb_table.proofs.world.all_tables.Goals as goal

pub returns : goal.returns
returns c known = record { ancestry = c.in_ok-ancestry.ensures known; extended = c.in_ok-extended.ensures known }
