use Rattle.std.proofs.Common.{ℕ, bytes_eq, arith, add-one, subst}
use Rattle.std.proofs.lemmas.Result.{on_ok_weaker}
use Rattle.indexmap.specs.IndexMap.{get}
use Rattle.srb_ancestors.proofs.WayProofs.{Ends}
use Rattle.srb_ancestors.proofs.PlaceProofs.{pass_more, standing_made}
use Rattle.srb_ancestors.proofs.linearization.fill.Goals as goal

pub passes-preserved : goal.passes-preserved
passes-preserved c = record {
  closed = c.in_ok-pass.ensures.closed;
  right = λ ls rows none right. c.in_ok-pass.ensures.right ls rows none (c.passes.invariant.right ls rows none right);
  made = λ ls rows name there ends.
      pass_more (get bytes_eq c.args.rows.now) c.passes.turn (get bytes_eq c.passes.lists) (get bytes_eq c.pass.new.lists) c.in_ok-pass.ensures c.passes.invariant.made ls rows name there
      (subst (λ (n : ℕ). Ends n ls name) (add-one c.passes.turn) ends);
}

pub returns-clause-right : goal.returns-clause-right
returns-clause-right c =
    on_ok_weaker c.pass-2.result (λ all ls rows none right. all.right ls rows none (c.passes.invariant.right ls rows none right)) c.pass-2.ensures

pub returns-clause-made : goal.returns-clause-made
returns-clause-made c =
    on_ok_weaker c.pass-2.result
    (λ all.
    standing_made (get bytes_eq c.args.rows.now) c.args.count c.passes.turn (get bytes_eq c.pass-2.new.lists) (omega arith)
    (pass_more (get bytes_eq c.args.rows.now) c.passes.turn (get bytes_eq c.passes.lists) (get bytes_eq c.pass-2.new.lists) all c.passes.invariant.made)
    (omega arith))
    c.pass-2.ensures
