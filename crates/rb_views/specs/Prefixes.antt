-- Prefixes: an operand with the first of its suffixes, which is an expression itself.
use Rattle.std.specs.Prelude.{ℕ, ◌-◌, List, [], ◌∷◌, ◌++◌, length, take, slice_get, Option, Some, None}
use Rattle.srb_terms.specs.declared.span.Span.{Span}
use Rattle.rb_tree.specs.Trees.{span_of}
use Rattle.rb_tree.specs.declared.syntax.Suffix.{Suffix}
use Rattle.rb_tree.specs.declared.syntax.Suffix.TheVariants as suffix
use Rattle.rb_tree.specs.declared.syntax.Tree.{Tree}
use Rattle.rb_tree.specs.declared.syntax.Node.{Node, out-Node}
use Rattle.rb_tree.specs.declared.syntax.Node.TheOpen.{Node-F}
use Rattle.rb_views.specs.declared.prefix.Prefix as lent

-- an operand and a row of suffixes after it, perhaps none
pub record Prefix : Type 0 where
  pub operand : Tree
  pub suffixes : List (Suffix Tree)

-- what a lent prefix is
abbrev pub seen_prefix : lent.Prefix → Prefix
seen_prefix p = record { operand = p.operand.now; suffixes = p.suffixes.now }

abbrev pub whole_at : Tree → Node-F Node Tree → Prefix
whole_at t (Node-F.Post receiver suffixes span) = record { operand = receiver; suffixes = suffixes }
whole_at t _ = record { operand = t; suffixes = [] }

-- the prefix of a whole tree: all suffixes of a `Post`, and any other tree with none
unfoldable pub prefix_of : Tree → Prefix
prefix_of t = whole_at t (out-Node t.node)

-- the prefix with the first so many suffixes
abbrev pub first_suffixes : ℕ → Prefix → Prefix
first_suffixes count p = record { operand = p.operand; suffixes = take count p.suffixes }

-- a prefix without its last suffix
abbrev pub without_last : Prefix → Prefix
without_last p = first_suffixes (length p.suffixes - 1) p

-- the place of a suffix
abbrev pub suffix_span : {X : Type 0} → Suffix X → Span
suffix_span (suffix.Call dot name name_span arguments block span) = span
suffix_span (suffix.Constant name name_span span) = span
suffix_span (suffix.Index arguments span) = span

-- the last of a row of suffixes
abbrev pub last_suffix : {X : Type 0} → List (Suffix X) → Option (Suffix X)
last_suffix suffixes = slice_get suffixes (length suffixes - 1)

-- a place that goes on to the end of a suffix
abbrev pub up_to_suffix : {X : Type 0} → Span → Option (Suffix X) → Span
up_to_suffix span None = span
up_to_suffix span (Some last) = record { start = span.start; end = (suffix_span last).end }

-- the place of a prefix: from the start of its operand to the end of its last suffix, the operand's own where there is none
unfoldable pub prefix_span : Prefix → Span
prefix_span p = up_to_suffix (span_of p.operand) (last_suffix p.suffixes)

-- ---- folds

-- a prefix with one more suffix
abbrev pub with_suffix : Prefix → Suffix Tree → Prefix
with_suffix p s = record { operand = p.operand; suffixes = p.suffixes ++ s ∷ [] }

-- goes on over further suffixes: a step takes the prefix so far, the suffix after it, and what was made of the prefix
abbrev pub fold_after : {A : Type 0} → (Prefix → Suffix Tree → A → A) → Prefix → A → List (Suffix Tree) → A
fold_after step p made [] = made
fold_after step p made (s ∷ rest) = fold_after step (with_suffix p s) (step p s made) rest

-- goes over the prefixes of an operand with these suffixes, from the operand on, of which `start` was made
abbrev pub fold_prefixes : {A : Type 0} → (Prefix → Suffix Tree → A → A) → A → Tree → List (Suffix Tree) → A
fold_prefixes step start operand suffixes = fold_after step (record { operand = operand; suffixes = [] }) start suffixes
