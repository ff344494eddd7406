use Rattle.std.proofs.Common.{ap, ◌∙◌}
use Rattle.srb_terms.specs.Worlds.{inner_at, value_of}
use Rattle.srb_table.specs.Steps.{facts_of}
use Rattle.srb_table.proofs.Known.{names-known}
use Rattle.srb_table.proofs.world.named.Goals as goal

pub returns : goal.returns
returns c =
    names-known c.with_names.result (facts_of c.args.first.now c.args.files.now)
    (λ name. ap (λ m. value_of name m.entries) c.with_names.ensures.kinds ∙ c.in_ok-kinds.ensures name)
    (λ scope last none. ap (λ m. inner_at scope last m.entries) c.with_names.ensures.inner ∙ c.in_ok-inner.ensures scope last none)
