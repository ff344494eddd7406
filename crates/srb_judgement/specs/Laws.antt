-- The law of the judgement: what is known of a tree goes by its node, and by what is known of the trees in it. So each kind of tree is
-- judged by its own step.
use Rattle.std.specs.Prelude.{◌≡◌}
use Rattle.rb_tree.specs.declared.syntax.Tree.{Tree}
use Rattle.rb_tree.specs.declared.syntax.Node.{Node, out-Node}
use Rattle.rb_tree.specs.declared.syntax.Node.TheFolds.{map-Node}
use Rattle.srb_judgement.specs.Judgements.{part_at, part_of}
use Rattle.srb_judgement.specs.Languages.{Language}
use Rattle.srb_judgement.specs.Parts.{Part}

-- a node as a tree of its own
abbrev pub tree_with : Node → Tree
tree_with n = record { node = n }

abbrev pub GoesByNode : Type 0 → Type 0 → Type 0
GoesByNode T X =
    (L : Language T X) (t : Tree) →
    part_of L t ≡ part_at L (map-Node Node Tree (Part T X) (Part T X) (λ n. part_of L (tree_with n)) (part_of L) (out-Node t.node))
