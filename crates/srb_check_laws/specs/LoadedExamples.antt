-- The errors that are kept of a few files.
use Rattle.std.specs.Prelude.{◌≡◌, ℕ, List, [], ◌∷◌, codes, replicate, Option, Some, None}
use Rattle.srb_terms.specs.declared.diag.Diag.{Diag}
use Rattle.srb_check.specs.Records.{loaded}

-- the file has this error
abbrev HasError : List ℕ → Option Diag → Type 0
HasError bytes error = (loaded bytes).error ≡ error

abbrev error : ℕ → ℕ → ℕ → List ℕ → Option Diag
error start end number text = Some (record { span = record { start = start; end = end }; number = number; text = text })

-- a bracket that none opens
abbrev pub BracketIsASyntaxError : Type 0
BracketIsASyntaxError = HasError (codes "1 )") (error 2 3 2001 (codes "syntax error"))

-- a global variable
abbrev pub GlobalIsOutsideTheProfile : Type 0
GlobalIsOutsideTheProfile = HasError (codes "$x") (error 0 1 9001 (codes "outside the profile"))

-- 201 times `!`
abbrev pub LastIsDeeper : Type 0
LastIsDeeper = HasError (replicate 201 33) (error 200 201 9008 (codes "nesting is deeper than 200"))

-- one byte that is no UTF-8
abbrev pub ByteIsNoText : Type 0
ByteIsNoText = HasError (255 ∷ []) (error 0 0 9009 (codes "not UTF-8"))

-- what asks to be ignored has no error
abbrev pub IgnoredHasNone : Type 0
IgnoredHasNone = HasError (codes "#typed:ignore") None
