-- Places that errors and questions need.
use Rattle.std.specs.Prelude.{ℕ, ◌+◌, ◌-◌, min, List, [], ◌∷◌}
use Rattle.srb_terms.specs.declared.span.Span.{Span}
use Rattle.rb_tree.specs.declared.syntax.Jump.{Jump}
use Rattle.rb_tree.specs.declared.syntax.Jump.TheVariants as jump
use Rattle.rb_tree.specs.declared.syntax.PlacedName.{PlacedName}

-- the first bytes of a place, so many of them, or the whole place where it is shorter
abbrev pub first_bytes : Span → ℕ → Span
first_bytes span count = record { start = span.start; end = span.start + min count (span.end - span.start) }

-- the number of bytes in the word of a jump
abbrev pub jump_length : Jump → ℕ
jump_length jump.Return = 6
jump_length jump.Break = 5
jump_length jump.Next = 4

-- the word of a jump at this place
abbrev pub jump_word : Jump → Span → Span
jump_word word span = first_bytes span (jump_length word)

-- the `[` of an index at this place
abbrev pub open_bracket : Span → Span
open_bracket span = first_bytes span 1

-- the operator of an operation at this place whose operator stands in front
abbrev pub prefix_operator : Span → Span
prefix_operator span = first_bytes span 1

-- the place that begins where one name does, and ends with the last of these
abbrev pub up_to_name : Span → List PlacedName → Span
up_to_name span [] = span
up_to_name span (n ∷ names) = up_to_name (record { start = span.start; end = n.span.end }) names

-- the place of a path of names, from the first to the last; 0 to 0 where there is none
abbrev pub names_span : List PlacedName → Span
names_span [] = record { start = 0; end = 0 }
names_span (n ∷ names) = up_to_name n.span names
