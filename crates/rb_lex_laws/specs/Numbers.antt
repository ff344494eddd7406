-- The numbers that digits write.
use Rattle.std.specs.Prelude.{◌≡◌, ℕ, ◌^◌, ◌<◌, ◌↔◌, true, List}
use Rattle.rb_lex.specs.Numbers.{base_of, fits}
use Rattle.rb_lex.specs.declared.chars.Set.{Set}
use Rattle.rb_rules.specs.Numerals.{number_from}

-- a number stays below 2 to the 128th exactly where the test of the lexer says so
abbrev pub FitsAreSmall : Type 0
FitsAreSmall = (s : Set) (value : ℕ) (w : List ℕ) → value < 2 ^ 128 → (fits value s w ≡ true) ↔ (number_from (base_of s) value w < 2 ^ 128)
