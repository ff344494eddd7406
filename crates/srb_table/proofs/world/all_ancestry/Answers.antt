use Rattle.srb_table.proofs.world.all_ancestry.Goals as goal

pub returns : goal.returns
returns c known = record {
  superclasses = c.in_ok-superclasses.ensures known (c.in_ok-deciding.ensures known);
  linked = c.in_ok-linked.ensures known (c.in_ok-deciding.ensures known) (c.in_ok-superclasses.ensures known (c.in_ok-deciding.ensures known));
}
