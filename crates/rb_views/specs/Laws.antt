-- Laws on the views.
use Rattle.std.specs.Prelude.{◌≡◌, ◌↔◌, ℕ, true, List, [], ◌∷◌, ◌++◌, map}
use Rattle.srb_terms.specs.declared.span.Span.{Span}
use Rattle.rb_tree.specs.Trees.{span_of}
use Rattle.rb_tree.specs.declared.syntax.PlacedName.{PlacedName}
use Rattle.rb_tree.specs.declared.syntax.Suffix.{Suffix}
use Rattle.rb_tree.specs.declared.syntax.Tree.{Tree}
use Rattle.rb_views.specs.Calls.{call_of_row, call_by}
use Rattle.rb_views.specs.Paths.{spelled}
use Rattle.rb_views.specs.Prefixes.{Prefix, prefix_span, suffix_span, fold_prefixes}

-- the fold over a row with one more suffix is one more step, on the prefix with the row
abbrev pub FoldStepsOnce : Type 0 → Type 0
FoldStepsOnce A =
    (step : Prefix → Suffix Tree → A → A) (start : A) (operand : Tree) (ss : List (Suffix Tree)) (s : Suffix Tree) →
    fold_prefixes step start operand (ss ++ s ∷ [])
    ≡ step (record { operand = operand; suffixes = ss }) s (fold_prefixes step start operand ss)

-- a prefix has the place of its operand where it has no suffix, and else ends where its last suffix does
abbrev pub OperandsPlace : Type 0
OperandsPlace = (operand : Tree) → prefix_span (record { operand = operand; suffixes = [] }) ≡ span_of operand

abbrev pub EndsWithLast : Type 0
EndsWithLast =
    (operand : Tree) (ss : List (Suffix Tree)) (s : Suffix Tree) →
    let place : Span = record { start = (span_of operand).start; end = (suffix_span s).end } in
    prefix_span (record { operand = operand; suffixes = ss ++ s ∷ [] }) ≡ place

-- the call that a prefix is is told by its last suffix and the prefix before it
abbrev pub CalledByLast : Type 0
CalledByLast =
    (operand : Tree) (ss : List (Suffix Tree)) (s : Suffix Tree) →
    call_of_row (record { operand = operand; suffixes = ss ++ s ∷ [] }) ≡ call_by (record { operand = operand; suffixes = ss }) s

-- a path is spelled by its names alone
abbrev pub SpelledByNames : Type 0
SpelledByNames = (ns : List PlacedName) (words : List (List ℕ)) → (spelled ns words ≡ true) ↔ (map (λ n. n.name) ns ≡ words)
