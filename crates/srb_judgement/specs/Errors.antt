-- The errors of the judgement: their numbers, places and texts, and the levels from which they are shown.
use Rattle.std.specs.Prelude.{ℕ, Bool, true, false, List, ◌++◌, codes, nat_eq, if◌then◌else◌}
use Rattle.std.specs.List.{filter}
use Rattle.srb_terms.specs.declared.diag.Diag.{Diag}
use Rattle.srb_terms.specs.declared.level.Level.{Level}
use Rattle.srb_terms.specs.declared.level.Level.TheVariants.{Ignore, False, True, Strict, Strong}
use Rattle.srb_terms.specs.declared.span.Span.{Span}
use Rattle.srb_judgement.specs.Languages.{Language}

abbrev pub error : Span → ℕ → List ℕ → Diag
error span number text = record { span = span; number = number; text = text }

-- 6002, shown from `strict`, at the variable
abbrev pub not_declared : Span → List ℕ → Diag
not_declared span name = error span 6002 (codes "instance variable @" ++ name ++ codes " is not declared")

-- 7006, shown from `true`, at the first unreachable expression
abbrev pub unreachable : Span → Diag
unreachable span = error span 7006 (codes "unreachable code")

-- 7017, shown from `strict`, at the method's name, or the attribute's symbol
abbrev pub has_no_sig : Span → List ℕ → Diag
has_no_sig span name = error span 7017 (codes "method " ++ name ++ codes " has no sig")

module _ {T X : Type 0} (L : Language T X) where
  -- 7001, shown from `true`, at the assigned expression
  abbrev pub stays : Span → List ℕ → T → T → Diag
  stays span name pinned found =
      error span 7001 (codes "variable " ++ name ++ codes " stays " ++ L.show pinned ++ codes " in a loop or block, found " ++ L.show found)

  -- 7002, shown from `true`, at the argument: here at a default value, with the method's name
  abbrev pub wrong_default : Span → List ℕ → List ℕ → T → T → Diag
  wrong_default span parameter method expected found =
      error span 7002 (codes "argument " ++ parameter ++ codes " of " ++ method ++ codes " expects " ++ L.show expected ++ codes ", found " ++ L.show found)

  -- 7005, shown from `true`, at the returned expression, or the last expression of the body, or `return`, or the method's name if the body
  -- is empty or the method has a `rescue` or `ensure` of its own
  abbrev pub wrong_result : Span → T → T → Diag
  wrong_result span expected found = error span 7005 (codes "result expects " ++ L.show expected ++ codes ", found " ++ L.show found)

  -- 7007, shown from `true`, at the asserted or assigned expression
  abbrev pub wrong_type : Span → T → T → Diag
  wrong_type span expected found = error span 7007 (codes "expected " ++ L.show expected ++ codes ", found " ++ L.show found)

  -- 7014, shown from `true`, at the whole call
  abbrev pub revealed : Span → T → Diag
  revealed span ty = error span 7014 (codes "type is " ++ L.show ty)

-- ---- levels

-- what a level shows of an error that is shown from `true`, from `strict`, or from `strong`
abbrev pub from_true : Level → Bool
from_true Ignore = false
from_true False = false
from_true True = true
from_true Strict = true
from_true Strong = true

abbrev pub from_strict : Level → Bool
from_strict Strict = true
from_strict Strong = true
from_strict _ = false

abbrev pub from_strong : Level → Bool
from_strong Strong = true
from_strong _ = false

-- whether a level shows an error of the judgement with this number
abbrev pub is_shown : Level → ℕ → Bool
is_shown level number =
    if nat_eq number 7018 then from_strong level
    else (if nat_eq number 6002 then from_strict level
    else (if nat_eq number 7017 then from_strict level else from_true level))

-- the errors that a level shows
abbrev pub shown_errors : Level → List Diag → List Diag
shown_errors level errors = filter (λ e. is_shown level e.number) errors
