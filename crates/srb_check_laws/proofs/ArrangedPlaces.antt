-- What holds of the places of errors holds of them when they are arranged.
use Rattle.std.proofs.Common.{List, [], ◌∷◌}
use Rattle.srb_terms.specs.declared.diag.Diag.{Diag}
use Rattle.srb_terms.specs.declared.span.Span.{Span}
use Rattle.srb_check.specs.Arranged.{put_error, arranged}
use Rattle.srb_check.proofs.ArrangedErrors.{put_error-cases}
use Rattle.srb_check_laws.proofs.SymbolPlaces.{AreErrorsAt}

-- with one more put in its place
put_error-at : (P : Span → Type 0) (error : Diag) (errors : List Diag) → P error.span → AreErrorsAt P errors → AreErrorsAt P (put_error error errors)
put_error-at P error [] h k = (h, tt)
put_error-at P error (first ∷ errors) h k = put_error-cases (AreErrorsAt P) error first errors (h, k) k (k.0, put_error-at P error errors h k.1)

-- in order, each once
pub arranged-at : (P : Span → Type 0) (errors : List Diag) → AreErrorsAt P errors → AreErrorsAt P (arranged errors)
unfolding arranged
arranged-at P [] h = tt
arranged-at P (error ∷ errors) h = put_error-at P error (arranged errors) h.0 (arranged-at P errors h.1)
