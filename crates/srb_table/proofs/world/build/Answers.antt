use Rattle.std.proofs.Common.{List, IfOk, ◌∙◌, subst}
use Rattle.srb_terms.specs.declared.fact.Fact.{Fact}
use Rattle.srb_rules.specs.Standing.{Stands}
use Rattle.srb_table.specs.Names.{TellsMembers}
use Rattle.srb_table.specs.Steps.{facts_of}
use Rattle.srb_table.proofs.world.build.Goals as goal

pub returns-clause-names : goal.returns-clause-names
returns-clause-names c =
    subst (λ (first : List Fact). IfOk c.world_of.result (λ w. Stands w (facts_of first c.args.files.now))) (c.as_slice.ensures ∙ c.in_ok-first.ensures)
    c.world_of.ensures.names

pub returns-clause-members : goal.returns-clause-members
returns-clause-members c =
    subst (λ (first : List Fact). IfOk c.world_of.result (λ w. TellsMembers w (facts_of first c.args.files.now))) (c.as_slice.ensures ∙ c.in_ok-first.ensures)
    c.world_of.ensures.members
