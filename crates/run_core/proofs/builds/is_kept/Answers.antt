use Rattle.std.proofs.Common.{ap, ap₂, ◌∙◌}
use Rattle.std.specs.Option.{option_map}
use Rattle.srb_terms.specs.Projects.{bytes_at}
use Rattle.srb_check.specs.FactLists.{same_facts}
use Rattle.srb_check.specs.Jobs.{facts_by}
use Rattle.srb_check.specs.Records.{loaded}
use Rattle.srb_check.proofs.Jobs.{declared}
use Rattle.run_core.proofs.builds.is_kept.Goals as goal

pub returns : goal.returns
returns c =
    λ bytes is.
    c.declare_the_same.ensures
    ∙ ap₂ same_facts
    (ap facts_by (c.in_ok-old.ensures ∙ ap (option_map loaded) c.bytes.ensures.bytes) ∙ declared (bytes_at c.args.path.now c.args.docs.now.project))
    (ap facts_by is ∙ declared bytes)
