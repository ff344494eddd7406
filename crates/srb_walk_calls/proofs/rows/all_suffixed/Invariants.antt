use Rattle.std.proofs.Common.{◌≡◌, drop}
use Rattle.srb_judgement.specs.Kept.{seen_context}
use Rattle.srb_judgement.specs.Views.{seen_state}
use Rattle.srb_walk_calls.specs.Fronts.{seen_row}
use Rattle.srb_walk.specs.Known.{known_suffixes}
use Rattle.srb_walk.specs.Rows.{all_suffixed}
use Rattle.srb_walk_calls.proofs.rows.all_suffixed.Given as goal

abbrev pub invariant-row : goal.invariant-row
invariant-row g l = let the = g.L.Language.the l.language in
    all_suffixed the (seen_context l.context) (known_suffixes the (drop l.each-index l.row)) (seen_row l.done (seen_state l.state))
    ≡ all_suffixed the (seen_context l.context) (known_suffixes the l.row) (seen_row l.fn.so_far (seen_state l.fn.state))
