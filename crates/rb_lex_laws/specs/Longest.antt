-- What is computed of names and digits is as long as the longest spelling at a place.
use Rattle.std.specs.Prelude.{ℕ, ◌≤◌, List, ◌++◌, length}
use Rattle.rb_lex.specs.Chars.{is_in, run_len}
use Rattle.rb_lex.specs.Words.{identifier_len}
use Rattle.rb_lex.specs.Numbers.{digits_len}
use Rattle.rb_lex.specs.declared.chars.Set.{Set}
use Rattle.rb_lex.specs.declared.chars.Set.TheVariants as set
use Rattle.rb_rules.specs.Spellings.{IsIdentifier, IsConstant, AreDigits}

-- no identifier at a place is longer
abbrev pub IdentifiersAreLongest : Type 0
IdentifiersAreLongest = (w rest : List ℕ) → IsIdentifier w rest → length w ≤ identifier_len (w ++ rest)

-- no constant is
abbrev pub ConstantsAreLongest : Type 0
ConstantsAreLongest = (w rest : List ℕ) → IsConstant w → length w ≤ run_len set.Word (w ++ rest)

-- no digits are
abbrev pub DigitsAreLongest : Type 0
DigitsAreLongest = (s : Set) (w rest : List ℕ) → AreDigits (is_in s) w → length w ≤ digits_len s (w ++ rest)
