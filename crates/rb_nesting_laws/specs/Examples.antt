-- A tree whose parts are computed, and trees that don't nest.
use Rattle.std.specs.Prelude.{◌≡◌, ℕ, [], ◌∷◌, codes, Some, None}
use Rattle.srb_terms.specs.declared.span.Span.{Span}
use Rattle.rb_tree.specs.declared.syntax.Argument.TheVariants as argument
use Rattle.rb_tree.specs.declared.syntax.Dot.TheVariants as dot
use Rattle.rb_tree.specs.declared.syntax.Suffix.TheVariants as suffix
use Rattle.rb_tree.specs.declared.syntax.Tree.{Tree}
use Rattle.rb_tree.specs.Nodes as tree
use Rattle.rb_nesting_laws.specs.Parts.{parts_of}
use Rattle.rb_nesting_laws.specs.Nesting.{Nests}

abbrev pub from_to : ℕ → ℕ → Span
from_to a b = record { start = a; end = b }

abbrev pub receiver : Tree
receiver = tree.Name (codes "x") (from_to 0 1)

abbrev pub digit : Span → Tree
digit span = tree.Whole None (codes "1") span

-- `x.f(1)` with the name at one place and the argument at another
abbrev pub call_with : Span → Span → Tree
call_with name value =
    tree.Post receiver (suffix.Call dot.Plain (codes "f") name (Some (argument.Positional (digit value) ∷ [])) None (from_to 1 6) ∷ []) (from_to 0 6)

abbrev pub CALL : Tree
CALL = call_with (from_to 2 3) (from_to 4 5)

-- its parts are the receiver and the call, and those of the call are the name and the argument
abbrev pub CallHasParts : Type 0
CallHasParts =
    parts_of CALL ≡ record {
      places = from_to 0 1 ∷ from_to 1 6 ∷ [];
      holders = record { whole = from_to 1 6; parts = from_to 2 3 ∷ from_to 4 5 ∷ [] } ∷ [];
      trees = receiver ∷ digit (from_to 4 5) ∷ [];
    }

abbrev pub CallNests : Type 0
CallNests = Nests CALL

-- the argument ends after the call
abbrev pub LateArgumentNestsNot : Type 0
LateArgumentNestsNot = ¬ Nests (call_with (from_to 2 3) (from_to 4 7))

-- the argument stands before the name
abbrev pub SwappedPartsNestNot : Type 0
SwappedPartsNestNot = ¬ Nests (call_with (from_to 4 5) (from_to 2 3))
