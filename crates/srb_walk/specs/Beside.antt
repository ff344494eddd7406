-- What is around an expression that stands after another one.
use Rattle.std.specs.Prelude.{Option, Some, None}
use Rattle.srb_terms.specs.declared.ty.Ty.{Ty}
use Rattle.srb_judgement.specs.Kept.{seen_context}
use Rattle.srb_judgement.specs.States.{Context}
use Rattle.srb_judgement.specs.declared.contexts.Context as contexts
use Rattle.srb_walk.specs.declared.around.Beside as beside

abbrev pub inner_or : Option contexts.Context → Context Ty → Context Ty
inner_or None c = c
inner_or (Some inner) c = seen_context inner

abbrev pub seen_beside : beside.Beside → Context Ty → Context Ty
seen_beside b c = inner_or b.inner c
