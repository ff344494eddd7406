-- Trees nest: the place of a part lies in that of the whole, and parts in a row rise.
use Rattle.std.specs.Prelude.{ℕ, ◌≤◌, List, [], ◌∷◌}
use Rattle.srb_terms.specs.declared.span.Span.{Span}
use Rattle.rb_tree.specs.Trees.{span_at}
use Rattle.rb_tree.specs.declared.syntax.Node.{out-Node}
use Rattle.rb_tree.specs.declared.syntax.Node.TheOpen.{Node-F}
use Rattle.rb_tree.specs.declared.syntax.Tree.{Tree}
use Rattle.rb_tree.specs.declared.token.Token.{Token}
use Rattle.rb_rules.specs.Grammar.{Derives}
use Rattle.rb_rules.specs.Tokens.{IsOneOf}
use Rattle.rb_nesting_laws.specs.Parts.{Holder, of_node, parts_of}

-- the fact holds of each element
abbrev pub Each : {A : Type 0} → (A → Type 0) → List A → Type 0
Each P [] = Unit {0}
Each P (x ∷ xs) = P x × Each P xs

-- the places rise from an offset on: each begins where the one before it ends, or after that, and none ends before it begins
abbrev pub Rise : ℕ → List Span → Type 0
Rise from [] = Unit {0}
Rise from (s ∷ ss) = (from ≤ s.start) × (s.start ≤ s.end) × Rise s.end ss

-- where the last of the places ends
abbrev pub end_of_last : ℕ → List Span → ℕ
end_of_last from [] = from
end_of_last from (s ∷ ss) = end_of_last s.end ss

-- the parts rise from where the whole begins, and end where it ends or before
pub record AreNested (whole : Span) (parts : List Span) : Type 0 where
  pub rise : Rise whole.start parts
  pub within : end_of_last whole.start parts ≤ whole.end

abbrev pub HoldsParts : Holder → Type 0
HoldsParts h = AreNested h.whole h.parts

-- the parts of a node are nested in it, and so are the parts of those that are no trees
abbrev pub DoesNodeNest : {N : Type 0} → Node-F N Tree → Type 0
DoesNodeNest n = AreNested (span_at n) (of_node n).places × Each HoldsParts (of_node n).holders

abbrev pub Nests : Tree → Type 0
Nests t = DoesNodeNest (out-Node t.node)

-- the first tree is the second, or stands in it, however deep
pub data IsIn : Tree → Tree → Type 0 where
  Itself : (t : Tree) → IsIn t t
  Inside : (u s t : Tree) → IsOneOf (parts_of t).trees s → IsIn u s → IsIn u t

-- the tokens stand one after the other from an offset on
abbrev pub StandInARow : ℕ → List Token → Type 0
StandInARow from [] = Unit {0}
StandInARow from (t ∷ ts) = (from ≤ t.span.start) × (t.span.start ≤ t.span.end) × StandInARow t.span.end ts

-- ---- the laws

-- Each tree in the tree of a program nests, if the program's tokens stand one after the other.
abbrev pub TreesNest : Type 0
TreesNest = (tokens : List Token) (t : Tree) → StandInARow 0 tokens → Derives tokens t → (u : Tree) → IsIn u t → Nests u

-- What is nested lies in the whole: it begins where that begins or after it, and ends where that ends or before.
abbrev pub LiesIn : Span → Span → Type 0
LiesIn whole part = (whole.start ≤ part.start) × (part.end ≤ whole.end)

abbrev pub NestedPartsLieInTheWhole : Type 0
NestedPartsLieInTheWhole = (whole : Span) (parts : List Span) → AreNested whole parts → Each (LiesIn whole) parts
