-- Bodies go by the nodes of trees, and statements by how they are written.
use Rattle.std.proofs.Common.{◌≡◌, ℕ, ◌+◌, ◌<◌, List, [], ◌∷◌, ◌++◌, length, drop, get_or, Option, None, refl, ap, sym, ◌∙◌, append_assoc}
use Rattle.std.specs.Option.{option_map}
use Rattle.srb_terms.specs.declared.diag.Diag.{Diag}
use Rattle.srb_terms.specs.declared.ty.Ty.{Ty}
use Rattle.rb_tree.specs.declared.syntax.PlacedName.{PlacedName}
use Rattle.rb_tree.specs.declared.syntax.Tree.{Tree}
use Rattle.rb_tree.specs.declared.syntax.Node.{Node, out-Node}
use Rattle.rb_tree.specs.declared.syntax.Node.TheOpen.{Node-F}
use Rattle.srb_judgement.specs.Bodies as bodies
use Rattle.srb_judgement.specs.Expressions.{judge_at}
use Rattle.srb_judgement.specs.Judgements.{part_at, part_of, in_class_at, errors_of}
use Rattle.srb_judgement.specs.Languages.{Language}
use Rattle.srb_judgement.specs.Parts.{Part, Standing, SigStatement, DeclaringCall, PlainStatement}
use Rattle.srb_judgement.specs.Sequences.{judge_class_statements, judge_in_class}
use Rattle.srb_judgement.specs.States.{Context, State, Judged, Run, seeing}
use Rattle.srb_judgement.specs.Views.{text_in}
use Rattle.srb_walk.proofs.Known.{part_is}
use Rattle.srb_walk.proofs.Writing.{told_by_writing}
use Rattle.srb_walk.specs.Known.{known_node, known_trees, part_by_node}
use Rattle.srb_walk.specs.Written.{standing_of}
use Rattle.srb_walk_control.proofs.Branching.{drop_next}
use Rattle.srb_infer.specs.Bodies.{sig_if, sig_of, in_class_or, in_class_by_node, inner_by_node, bodies_by_node}

module _ {X : Type 0} (L : Language Ty X) where
  -- ---- by their nodes

  class-at : (n : Node-F (Part Ty X) (Part Ty X)) (run : Run Ty) → judge_at L n ≡ run → in_class_at L n ≡ in_class_or L run n
  class-at (Node-F.Body statements span) run h = refl
  class-at n run h = h

  pub in_class_is : (t : Tree) → (part_of L t).in_class ≡ in_class_by_node L t
  unfolding part_by_node part_at in_class_by_node
  in_class_is t =
      ap (λ (p : Part Ty X). p.in_class) (part_is L t)
      ∙ class-at (known_node L (out-Node t.node)) (part_of L t).it.judge (sym (ap (λ (p : Part Ty X). p.it.judge) (part_is L t)))

  inner-are : (t : Tree) → (part_of L t).inner ≡ inner_by_node L t
  unfolding part_by_node part_at inner_by_node
  inner-are t = ap (λ (p : Part Ty X). p.inner) (part_is L t)

  pub inner_told : (t : Tree) (scope : List (List ℕ)) (errors all : List Diag) →
      all ≡ errors ++ inner_by_node L t scope → all ≡ errors ++ (part_of L t).inner scope
  inner_told t scope errors all h = h ∙ (λ i. errors ++ (sym (inner-are t) i) scope)

  bodies-are : (t : Tree) → (part_of L t).bodies ≡ bodies_by_node L t
  unfolding part_by_node part_at bodies_by_node
  bodies-are t = ap (λ (p : Part Ty X). p.bodies) (part_is L t)

  pub bodies_told : (t : Tree) (sig : Option X) (scope : List (List ℕ)) (errors all : List Diag) →
      all ≡ errors ++ bodies_by_node L t sig scope → all ≡ errors ++ (part_of L t).bodies sig scope
  bodies_told t sig scope errors all h = h ∙ (λ i. errors ++ (sym (bodies-are t) i) sig scope)

  -- ---- statements

  sig-if : (st : Standing) (t : Tree) → option_map (text_in L) (sig_if st t) ≡ bodies.sig_before L st (text_in L t)
  sig-if SigStatement t = refl
  sig-if DeclaringCall t = refl
  sig-if PlainStatement t = refl

  -- the `sig` statement before the next statement
  pub sig_is : (t : Tree) → option_map (text_in L) (sig_of t) ≡ bodies.sig_before L (part_of L t).standing (text_in L t)
  sig_is t = sig-if (standing_of t) t ∙ ap (λ st. bodies.sig_before L st (text_in L t)) (sym (told_by_writing L t).standing)

  -- one statement more of a class or module body
  pub class_step : (row : List Tree) (i : ℕ) (t : Tree) (c around d : Context Ty) (so_far j x : Judged Ty) →
      i < length row → t ≡ get_or row i t → around ≡ c →
      j ≡ judge_in_class L (part_of L t).standing (part_of L t) around so_far.state →
      d ≡ seeing (part_of L t).it.declares c →
      judge_class_statements L (known_trees L (drop i row)) c so_far ≡ x →
      judge_class_statements L (known_trees L (drop (i + 1) row)) d j ≡ x
  class_step row i t c around d so_far j x within is a h k e =
      (λ n. judge_class_statements L (known_trees L (drop (i + 1) row)) (k n)
      ((h ∙ ap (λ (y : Context Ty). judge_in_class L (part_of L t).standing (part_of L t) y so_far.state) a) n))
      ∙ sym (ap (λ r. judge_class_statements L (known_trees L r) c so_far) (drop_next row i t within is))
      ∙ e

  -- the bodies that one statement more declares
  pub statement_step : (row : List Tree) (i : ℕ) (t : Tree) (sig next : Option X) (scope : List (List ℕ)) (errors more all : List Diag) →
      i < length row → t ≡ get_or row i t →
      more ≡ errors ++ (part_of L t).bodies sig scope →
      next ≡ bodies.sig_before L (part_of L t).standing (text_in L t) →
      errors ++ bodies.inner_bodies L sig (known_trees L (drop i row)) scope ≡ all →
      more ++ bodies.inner_bodies L next (known_trees L (drop (i + 1) row)) scope ≡ all
  statement_step row i t sig next scope errors more all within is h k e =
      (λ j. h j ++ bodies.inner_bodies L (k j) (known_trees L (drop (i + 1) row)) scope)
      ∙ append_assoc errors ((part_of L t).bodies sig scope)
      (bodies.inner_bodies L (bodies.sig_before L (part_of L t).standing (text_in L t)) (known_trees L (drop (i + 1) row)) scope)
      ∙ sym (ap (λ r. errors ++ bodies.inner_bodies L sig (known_trees L r) scope) (drop_next row i t within is))
      ∙ e

  -- ---- classes and the program

  -- the errors of a body, by what judging it gives
  pub class_errors_are : (p : Part Ty X) (c : Context Ty) (s : State Ty) (j : Judged Ty) →
      s ≡ bodies.fresh → j ≡ p.in_class c s → j.state.errors ≡ (p.in_class c bodies.fresh).state.errors
  class_errors_are p c s j f h = (λ i. (h i).state.errors) ∙ (λ i. (p.in_class c (f i)).state.errors)

  -- a class with this full name, in the bodies `inner`
  pub class_is : (path : List PlacedName) (p : Part Ty X) (name : List ℕ) (scope inner : List (List ℕ)) (errors first all : List Diag) →
      name ≡ bodies.declared_name scope path → inner ≡ name ∷ scope →
      first ≡ errors ++ (p.in_class (bodies.class_context L name inner) bodies.fresh).state.errors →
      all ≡ first ++ p.inner inner →
      all ≡ errors ++ bodies.class_errors L path p scope
  class_is path p name scope inner errors first all n k f h =
      h ∙ ap (λ e. e ++ p.inner inner) f
      ∙ append_assoc errors (p.in_class (bodies.class_context L name inner) bodies.fresh).state.errors (p.inner inner)
      ∙ (λ j. errors ++ ((p.in_class (bodies.class_context L name (k j)) bodies.fresh).state.errors ++ p.inner (k j)))
      ∙ (λ j. errors ++ ((p.in_class (bodies.class_context L (n j) (n j ∷ scope)) bodies.fresh).state.errors ++ p.inner (n j ∷ scope)))

  -- the program, by what judging its tree and its bodies gives
  pub program_is : (t : Tree) (c : Context Ty) (s : State Ty) (j : Judged Ty) (scope : List (List ℕ)) (all : List Diag) →
      c ≡ bodies.program_context L → s ≡ bodies.fresh → j ≡ (part_of L t).it.judge c s → scope ≡ [] →
      all ≡ j.state.errors ++ (part_of L t).bodies None scope →
      all ≡ errors_of L t
  unfolding errors_of
  program_is t c s j scope all k f h e a =
      a ∙ (λ i. (h i).state.errors ++ (part_of L t).bodies None (e i))
      ∙ (λ i. ((part_of L t).it.judge (k i) (f i)).state.errors ++ (part_of L t).bodies None [])
