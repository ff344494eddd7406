use Rattle.srb_table.proofs.members.all_members.Goals as goal

pub returns : goal.returns
returns c stands = record { methods = c.in_ok-methods.ensures stands; ivars = c.in_ok-ivars.ensures stands; values = c.in_ok-values.ensures stands }
