-- Errors in order, each once.
use Rattle.std.specs.Prelude.{List, [], ◌∷◌}
use Rattle.std.specs.Ordering.{match_ordering}
use Rattle.srb_terms.specs.DiagOrder.{diag_cmp}
use Rattle.srb_terms.specs.declared.diag.Diag.{Diag}

-- an error put in its place among errors in order; one that is there already isn't put again
abbrev pub put_error : Diag → List Diag → List Diag
put_error error [] = error ∷ []
put_error error (first ∷ errors) =
    match_ordering (diag_cmp error first) (error ∷ first ∷ errors) (first ∷ errors) (first ∷ put_error error errors)

-- errors sorted by start, end, number and text, each once
unfoldable pub arranged : List Diag → List Diag
arranged [] = []
arranged (error ∷ errors) = put_error error (arranged errors)
