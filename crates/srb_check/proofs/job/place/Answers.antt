use Rattle.std.proofs.Common.{rules, of_calls, ap, ◌∙◌}
use Rattle.std.specs.Option.{option_map}
use Rattle.std.specs.List.{slice_get}
use Rattle.std.proofs.lemmas.Fn.{always_returns_same}
use Rattle.srb_terms.specs.PathMaps.{path_cmp}
use Rattle.srb_check.specs.Jobs.{bytes_of_file}
use Rattle.srb_check.proofs.Jobs.{place_tells}
use Rattle.srb_check.proofs.job.place.Goals as goal

pub returns : goal.returns
returns c =
    λ project ordered are.
    ap (λ i. option_map bytes_of_file (slice_get project i)) c.unwrap_or.ensures
    ∙ place_tells c.args.path.now project c.args.paths.now c.binary_search_by-found.result ordered are c.binary_search_by-found.ensures.bound
    (c.binary_search_by-found.ensures.position (λ y. path_cmp y c.args.path.now) (always_returns_same _ _ _ (λ a r f k. search (rules, of_calls))))
