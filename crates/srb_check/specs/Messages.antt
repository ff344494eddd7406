-- The errors that a file can have.
use Rattle.std.specs.Prelude.{ℕ, List, codes}
use Rattle.srb_terms.specs.declared.diag.Diag.{Diag}
use Rattle.srb_terms.specs.declared.span.Span.{Span}

-- ---- errors of the whole file

-- an error whose place is empty, at the start of its file
abbrev pub error_at_start : ℕ → List ℕ → Diag
error_at_start number text = record { span = record { start = 0; end = 0 }; number = number; text = text }

-- the error of a file that is larger than the limit
abbrev pub too_large : Diag
too_large = error_at_start 9002 (codes "file is larger than 1048576 bytes")

-- the error of a file whose bytes are no text
abbrev pub not_utf8 : Diag
not_utf8 = error_at_start 9009 (codes "not UTF-8")

-- ---- errors of tokens

-- where the text is no Ruby
abbrev pub syntax_error : Span → Diag
syntax_error span = record { span = span; number = 2001; text = codes "syntax error" }

-- where a form of Ruby begins that is outside the profile
abbrev pub outside : Span → Diag
outside span = record { span = span; number = 9001; text = codes "outside the profile" }

-- where the weight passes its limit
abbrev pub too_deep : Span → Diag
too_deep span = record { span = span; number = 9008; text = codes "nesting is deeper than 200" }
