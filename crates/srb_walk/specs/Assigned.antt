-- The variables that a tree assigns. "A variable: .. an assignment to it, begins earlier in the same body and, if that stands in a block,
-- the block encloses the identifier." What a block assigns is asked for apart from what is visible after it.
use Rattle.std.specs.Prelude.{ℕ, Bool, true, false, List, [], ◌∷◌, bytes_eq, if◌then◌else◌, Option, Some}
use Rattle.rb_tree.specs.declared.syntax.Block.{Block}
use Rattle.rb_tree.specs.declared.syntax.PlacedName.{PlacedName}
use Rattle.rb_tree.specs.declared.syntax.Tree.{Tree}
use Rattle.rb_tree.specs.declared.syntax.Node.{out-Node}
use Rattle.rb_tree.specs.declared.syntax.Node.TheOpen.{Node-F}
use Rattle.srb_judgement.specs.Chains.{assigned_in}
use Rattle.srb_judgement.specs.Judgements.{part_of}
use Rattle.srb_judgement.specs.Languages.{Language}
use Rattle.srb_judgement.specs.Parts.{Part}
use Rattle.srb_judgement.specs.Variables.{names_at, in_no_block, target_names}
use Rattle.srb_walk.specs.Known.{known_node, known_block}

module _ {T X : Type 0} where
  -- what is visible after an expression, or, if `blocks`, also what blocks in it assign
  abbrev pub names_in : Bool → Part T X → List (List ℕ)
  names_in true p = p.it.assigns
  names_in false p = p.it.declares

  abbrev pub in_blocks : Bool → Option (Block (Part T X)) → List (List ℕ)
  in_blocks true b = assigned_in b
  in_blocks false b = in_no_block b

-- "a parameter of a block is none of the outer variables"
abbrev pub is_parameter : List PlacedName → List ℕ → Bool
is_parameter [] name = false
is_parameter (p ∷ parameters) name = if bytes_eq p.name name then true else is_parameter parameters name

abbrev pub unless_parameter : List PlacedName → List ℕ → List (List ℕ)
unless_parameter parameters name = if is_parameter parameters name then [] else name ∷ []

abbrev pub target_in : {N P : Type 0} → Node-F N P → List (List ℕ)
target_in (Node-F.Name name span) = name ∷ []
target_in _ = []

unfoldable pub target_by_node : Tree → List (List ℕ)
target_by_node t = target_in (out-Node t.node)

module _ {T X : Type 0} (L : Language T X) where
  -- the same of a tree
  abbrev pub names_of : Bool → Tree → List (List ℕ)
  names_of blocks t = names_in blocks (part_of L t)

  abbrev pub in_block : Block Tree → List (List ℕ)
  in_block b = assigned_in (Some (known_block L b))

  -- the name that an assignment to this assigns
  abbrev pub target_of : Tree → List (List ℕ)
  target_of t = target_names (part_of L t).ending

  -- by its node
  unfoldable pub names_by_node : Bool → Tree → List (List ℕ)
  names_by_node blocks t = names_at (names_in blocks) (in_blocks blocks) (known_node L (out-Node t.node))
