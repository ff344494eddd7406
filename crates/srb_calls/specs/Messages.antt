-- The errors of calls and their texts.
use Rattle.std.specs.Prelude.{ℕ, List, ◌++◌, codes}
use Rattle.srb_terms.specs.declared.diag.Diag.{Diag}
use Rattle.srb_terms.specs.declared.span.Span.{Span}

abbrev pub diag : Span → ℕ → List ℕ → Diag
diag span number text = record { span = span; number = number; text = text }

-- `argument p of m expects T, found U`
abbrev pub wrong_argument : List ℕ → List ℕ → List ℕ → List ℕ → List ℕ
wrong_argument p m expected found =
    codes "argument " ++ p ++ codes " of " ++ m ++ codes " expects " ++ expected ++ codes ", found " ++ found

-- `method m does not exist on T`
abbrev pub missing_method : List ℕ → List ℕ → List ℕ
missing_method m t = codes "method " ++ m ++ codes " does not exist on " ++ t

-- `too few arguments for m`, `too many arguments for m`, `unknown keyword k for m`, `missing keyword k for m`
abbrev pub too_few : List ℕ → List ℕ
too_few m = codes "too few arguments for " ++ m

abbrev pub too_many : List ℕ → List ℕ
too_many m = codes "too many arguments for " ++ m

abbrev pub unknown_keyword : List ℕ → List ℕ → List ℕ
unknown_keyword k m = codes "unknown keyword " ++ k ++ codes " for " ++ m

abbrev pub missing_keyword : List ℕ → List ℕ → List ℕ
missing_keyword k m = codes "missing keyword " ++ k ++ codes " for " ++ m

-- `call of m on an untyped receiver`
abbrev pub untyped_receiver : List ℕ → List ℕ
untyped_receiver m = codes "call of " ++ m ++ codes " on an untyped receiver"
