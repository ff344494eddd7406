-- The places of nodes that several tokens or trees make.
use Rattle.std.specs.Prelude.{List, [], ◌∷◌, Option, Some, None}
use Rattle.srb_terms.specs.declared.span.Span.{Span}
use Rattle.rb_tree.specs.Trees.{span_of}
use Rattle.rb_tree.specs.declared.syntax.Tree.{Tree}
use Rattle.rb_tree.specs.declared.syntax.Suffix.{Suffix}
use Rattle.rb_tree.specs.declared.syntax.Suffix.TheVariants as suffix
use Rattle.rb_tree.specs.declared.syntax.Argument.{Argument}
use Rattle.rb_tree.specs.declared.syntax.Argument.TheVariants as argument
use Rattle.rb_tree.specs.declared.syntax.Block.{Block}

-- from the start of one place to the end of another
abbrev pub across : Span → Span → Span
across a b = record { start = a.start; end = b.end }

-- the last element of a list after this one
abbrev pub last_of : {A : Type 0} → A → List A → A
last_of x [] = x
last_of x (y ∷ ys) = last_of y ys

-- the place of a suffix
abbrev pub suffix_span : Suffix Tree → Span
suffix_span (suffix.Call dot name name_span arguments block span) = span
suffix_span (suffix.Constant name name_span span) = span
suffix_span (suffix.Index arguments span) = span

-- the place of an argument
abbrev pub argument_span : Argument Tree → Span
argument_span (argument.Positional value) = span_of value
argument_span (argument.Keyword name span value) = across span (span_of value)
argument_span (argument.Block span value) = across span (span_of value)

-- a place, or that of a block after it
abbrev pub block_or : Span → Option (Block Tree) → Span
block_or span None = span
block_or span (Some block) = block.span
