use Rattle.std.proofs.Common.{◌∷◌, ◌++◌, bytes_eq, ap, ◌∙◌}
use Rattle.srb_terms.proofs.WorldNames.{pieces-other, pieces-on}
use Rattle.srb_terms.proofs.world.is_joined.Goals as goal

pub returns-in-None : goal.returns-in-None
returns-in-None c = pieces-other c.args.scope.now (58 ∷ 58 ∷ c.args.last.now) c.args.whole.now c.in-None.ensures.cases

pub returns-in-None-strip_prefix : goal.returns-in-None-strip_prefix
returns-in-None-strip_prefix c =
    pieces-other c.as_slice.result.now c.args.last.now c.in-Some.rest.now c.in-None-strip_prefix.ensures.cases
    ∙ ap (λ colons. bytes_eq (colons ++ c.args.last.now) c.in-Some.rest.now) c.as_slice.ensures
    ∙ pieces-on c.args.scope.now (58 ∷ 58 ∷ c.args.last.now) c.args.whole.now c.in-Some.rest.now
    c.in-Some.ensures.cases.0 c.in-Some.ensures.cases.1

pub returns-in-Some-strip_prefix : goal.returns-in-Some-strip_prefix
returns-in-Some-strip_prefix c =
    c.eq.ensures
    ∙ pieces-on c.as_slice.result.now c.args.last.now c.in-Some.rest.now c.in-Some-strip_prefix.end.now
    c.in-Some-strip_prefix.ensures.cases.0 c.in-Some-strip_prefix.ensures.cases.1
    ∙ ap (λ colons. bytes_eq (colons ++ c.args.last.now) c.in-Some.rest.now) c.as_slice.ensures
    ∙ pieces-on c.args.scope.now (58 ∷ 58 ∷ c.args.last.now) c.args.whole.now c.in-Some.rest.now
    c.in-Some.ensures.cases.0 c.in-Some.ensures.cases.1
