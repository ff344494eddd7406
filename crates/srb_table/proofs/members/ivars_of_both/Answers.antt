use Rattle.srb_table.proofs.members.ivars_of_both.Goals as goal

pub returns : goal.returns
returns c stands = record { instances = c.in_ok-instances.ensures stands; objects = c.in_ok-objects.ensures stands }
