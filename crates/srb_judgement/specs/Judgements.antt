-- The judgement: one step for each kind of tree, from what is known of the trees in it, and the fold of the steps over a tree.
use Rattle.std.specs.Prelude.{ℕ, List, [], Option, None}
use Rattle.srb_terms.specs.declared.diag.Diag.{Diag}
use Rattle.srb_terms.specs.declared.level.Level.{Level}
use Rattle.rb_tree.specs.Trees.{span_at}
use Rattle.rb_tree.specs.declared.syntax.Tree.{Tree, fold-Tree}
use Rattle.rb_tree.specs.declared.syntax.Node.TheFolds.{map-Node}
use Rattle.rb_tree.specs.declared.syntax.Node.TheOpen.{Node-F}
use Rattle.srb_judgement.specs.Bodies.{method_errors, class_errors, program_bodies, inner_bodies, program_errors}
use Rattle.srb_judgement.specs.Chains.{assigned_in}
use Rattle.srb_judgement.specs.Errors.{shown_errors}
use Rattle.srb_judgement.specs.Languages.{Language}
use Rattle.srb_judgement.specs.Parts.{Operand, Part}
use Rattle.srb_judgement.specs.Sequences.{class_body}
use Rattle.srb_judgement.specs.States.{Run}
use Rattle.srb_judgement.specs.Conditions.{test_at}
use Rattle.srb_judgement.specs.Expressions.{judge_at}
use Rattle.srb_judgement.specs.Spellings.{spelling_at, ending_at, standing_at, empty_at, last_at}
use Rattle.srb_judgement.specs.Variables.{names_at, in_no_block}

module _ {T X : Type 0} (L : Language T X) where
  -- ---- the bodies that a node declares

  -- the program, classes, modules and methods; the `sig` statement is that before a method
  abbrev pub bodies_at : Node-F (Part T X) (Part T X) → Option X → List (List ℕ) → List Diag
  bodies_at (Node-F.Body statements span) sig scope = program_bodies L statements scope
  bodies_at (Node-F.Class path superclass inner span) sig scope = class_errors L path inner scope
  bodies_at (Node-F.Module path inner span) sig scope = class_errors L path inner scope
  bodies_at (Node-F.Def visibility own name name_span parameters guarded span) sig scope =
      method_errors L own name name_span parameters guarded sig scope
  bodies_at _ sig scope = []

  -- those of the statements of a class or module body
  abbrev pub inner_at : Node-F (Part T X) (Part T X) → List (List ℕ) → List Diag
  inner_at (Node-F.Body statements span) scope = inner_bodies L None statements scope
  inner_at _ scope = []

  -- as the body of a class or module
  abbrev pub in_class_at : Node-F (Part T X) (Part T X) → Run T
  in_class_at (Node-F.Body statements span) = class_body L statements
  in_class_at n = judge_at L n

  -- ---- a node

  abbrev pub text_of : Part T X → X
  text_of p = p.it.text

  abbrev pub declares_of : Part T X → List (List ℕ)
  declares_of p = p.it.declares

  abbrev pub assigns_of : Part T X → List (List ℕ)
  assigns_of p = p.it.assigns

  -- as a part of another expression
  abbrev pub operand_at : Node-F (Part T X) (Part T X) → Operand T X
  operand_at n = record {
    span = span_at n;
    spelling = spelling_at L n;
    text = L.text_at (map-Node (Part T X) (Part T X) X X text_of text_of n);
    declares = names_at declares_of in_no_block n;
    assigns = names_at assigns_of assigned_in n;
    judge = judge_at L n;
  }

  -- all that is known of a node, by what is known of the trees in it
  unfoldable pub part_at : Node-F (Part T X) (Part T X) → Part T X
  part_at n = record {
    it = operand_at n;
    test = test_at L n;
    ending = ending_at L n;
    standing = standing_at n;
    is_empty = empty_at n;
    last = last_at n;
    in_class = in_class_at n;
    bodies = bodies_at n;
    inner = inner_at n;
  }

  -- ---- trees

  -- what is known of a tree: one structural recursion
  unfoldable pub part_of : Tree → Part T X
  part_of = fold-Tree (Part T X) (Part T X) (λ n. part_at n) (λ t. t.node)

  -- the errors of the judgement of a program
  unfoldable pub errors_of : Tree → List Diag
  errors_of t = program_errors L (part_of t)

  -- those that a level shows
  abbrev pub errors_at : Level → Tree → List Diag
  errors_at level t = shown_errors level (errors_of t)
