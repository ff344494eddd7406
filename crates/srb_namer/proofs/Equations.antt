-- What a tree adds goes by its node.
use Rattle.std.proofs.Common.{◌≡◌, ℕ, Bool, List, [], ◌∷◌, ◌++◌, map, Option, Some, None, refl, ap, sym, ◌∙◌}
use Rattle.std.specs.Prelude.{option_map}
use Rattle.srb_terms.specs.declared.fact.Fact.{Fact}
use Rattle.srb_terms.specs.declared.fact.Fact.TheVariants as fact
use Rattle.srb_terms.specs.declared.param_kind.ParamKind.{ParamKind}
use Rattle.srb_terms.specs.declared.span.Span.{Span}
use Rattle.rb_tree.specs.declared.syntax.Argument.{Argument}
use Rattle.rb_tree.specs.declared.syntax.Argument.TheVariants as argument
use Rattle.rb_tree.specs.declared.syntax.Guarded.{Guarded}
use Rattle.rb_tree.specs.declared.syntax.Pair.{Pair}
use Rattle.rb_tree.specs.declared.syntax.Pair.TheVariants as pair
use Rattle.rb_tree.specs.declared.syntax.Parameter.{Parameter}
use Rattle.rb_tree.specs.declared.syntax.Piece.{Piece}
use Rattle.rb_tree.specs.declared.syntax.Piece.TheVariants as piece
use Rattle.rb_tree.specs.declared.syntax.Rescue.{Rescue}
use Rattle.rb_tree.specs.declared.syntax.Suffix.{Suffix}
use Rattle.rb_tree.specs.declared.syntax.Suffix.TheVariants as suffix
use Rattle.rb_tree.specs.declared.syntax.Tree.{Tree}
use Rattle.rb_tree.specs.declared.syntax.Node.{Node, out-Node}
use Rattle.rb_tree.specs.declared.syntax.Node.TheOpen.{Node-F}
use Rattle.rb_tree.specs.declared.syntax.Node.TheViews.{roll-Node, roll-out-Node}
use Rattle.rb_tree.specs.declared.syntax.Node.TheFolds.{map-Node, para-Node, para-Tree, para-roll-Node, para-roll-Tree}
use Rattle.srb_namer.specs.Declarations.{Place, place, inside, after_sig, class_place, method_place, with_class, with_module, mixed, with_assigned, with_method, owner, sig_text}
use Rattle.rb_tree.specs.declared.syntax.Node.TheShapes.{former-Node-Begin-0, former-Node-Def-4}
use Rattle.srb_namer.specs.Facts.{Adds, each, if_there, by_argument, by_rescue, by_guarded, by_parameter, by_node, by_body, by_statements, sig_if, Added, added_at, added, plain_of, body_of, plain_by_node, body_by_node}

made_node : Node → Added
made_node = para-Node Added Added (λ n. added_at n) (λ t. t.node.1)

abbrev with_made : Tree → Tree × Added
with_made t = (t, added t)

node_is : (n : Node) → made_node n ≡ added_at (map-Node Node Tree (Node × Added) (Tree × Added) (λ m. (m, made_node m)) (λ t. (t, added t)) (out-Node n))
unfolding added made_node
node_is n =
    ap made_node (sym (roll-out-Node n))
    ∙ para-roll-Node Added Added (λ n. added_at n) (λ t. t.node.1) (out-Node n)

tree_is : (t : Tree) → added t ≡ made_node t.node
unfolding added made_node
tree_is t = para-roll-Tree Added Added (λ n. added_at n) (λ t. t.node.1) (record { node = t.node })

-- ---- rows of parts that were mapped

each_mapped : {A B : Type 0} (g : B → Adds) (h : A → B) (k : A → Adds) →
    ((x : A) (p : Place) (facts : List Fact) → g (h x) p facts ≡ k x p facts) →
    (xs : List A) (p : Place) (facts : List Fact) → each g (map h xs) p facts ≡ each k xs p facts
each_mapped g h k e [] p facts = refl
each_mapped g h k e (x ∷ xs) p facts = ap (each g (map h xs) p) (e x p facts) ∙ each_mapped g h k e xs p (k x p facts)

fused : {A B C : Type 0} (g : B → C) (h : A → B) (k : A → C) → ((x : A) → g (h x) ≡ k x) → (xs : List A) → map g (map h xs) ≡ map k xs
fused g h k e [] = refl
fused g h k e (x ∷ xs) = λ i. e x i ∷ fused g h k e xs i

-- what a tree adds in the fold
abbrev seen : Tree × Added → Adds
seen x = x.1.plain

abbrev inner : Tree × Added → Adds
inner x = x.1.body

-- by whether a parameter has a default
by-default : {X : Type 0} (P : Parameter X → Type 0) → ((kind : ParamKind) (name : List ℕ) (span : Span) → P (record { kind = kind; name = name; span = span; default = None })) →
    ((kind : ParamKind) (name : List ℕ) (span : Span) (d : X) → P (record { kind = kind; name = name; span = span; default = Some d })) → (p : Parameter X) → P p
by-default {X = X} P h k p = go p.default
  where
    go : (o : Option X) → P (record { kind = p.kind; name = p.name; span = p.span; default = o })
    go None = h p.kind p.name p.span
    go (Some d) = k p.kind p.name p.span d

-- by what stands after the clauses
by-guarded : {X : Type 0} (P : Guarded X → Type 0) →
    ((b : X) (rs : List (Rescue X)) → P (record { body = b; rescues = rs; otherwise = None; ensure = None })) →
    ((b : X) (rs : List (Rescue X)) (e : X) → P (record { body = b; rescues = rs; otherwise = None; ensure = Some e })) →
    ((b : X) (rs : List (Rescue X)) (o : X) → P (record { body = b; rescues = rs; otherwise = Some o; ensure = None })) →
    ((b : X) (rs : List (Rescue X)) (o e : X) → P (record { body = b; rescues = rs; otherwise = Some o; ensure = Some e })) →
    (g : Guarded X) → P g
by-guarded {X = X} P h k l m g = go g.otherwise g.ensure
  where
    go : (o e : Option X) → P (record { body = g.body; rescues = g.rescues; otherwise = o; ensure = e })
    go None None = h g.body g.rescues
    go None (Some e) = k g.body g.rescues e
    go (Some o) None = l g.body g.rescues o
    go (Some o) (Some e) = m g.body g.rescues o e

rescue_same : (r : Rescue Tree) (p : Place) (facts : List Fact) →
    plain_of r.body p (each seen (map with_made r.patterns) p facts) ≡ by_rescue plain_of r p facts
rescue_same r p facts = ap (plain_of r.body p) (each_mapped _ _ _ (λ x p facts. refl) r.patterns p facts)

guarded_same : (g : Guarded Tree) (p : Place) (facts : List Fact) →
    by_guarded seen (former-Node-Begin-0.map Tree (Tree × Added) with_made g) p facts ≡ by_guarded plain_of g p facts
guarded_same g p facts = by-guarded
    (λ g. by_guarded seen (former-Node-Begin-0.map Tree (Tree × Added) with_made g) p facts ≡ by_guarded plain_of g p facts)
    (λ b rs. each_mapped _ _ _ rescue_same rs p (plain_of b p facts))
    (λ b rs e. ap (plain_of e p) (each_mapped _ _ _ rescue_same rs p (plain_of b p facts)))
    (λ b rs o. ap (plain_of o p) (each_mapped _ _ _ rescue_same rs p (plain_of b p facts)))
    (λ b rs o e. ap (λ fs. plain_of e p (plain_of o p fs)) (each_mapped _ _ _ rescue_same rs p (plain_of b p facts)))
    g

parameters_same : (qs : List (Parameter Tree)) (p : Place) (facts : List Fact) →
    each (by_parameter seen) (former-Node-Def-4.map Tree (Tree × Added) with_made qs) p facts ≡ each (by_parameter plain_of) qs p facts
parameters_same qs p facts =
    each_mapped _ _ _ (by-default _ (λ kind name span. λ p facts. refl) (λ kind name span d. λ p facts. refl)) qs p facts

method_same : (p : Place) (own : Bool) (name : List ℕ) (qs : List (Parameter Tree)) (facts : List Fact) →
    with_method p own name (former-Node-Def-4.map Tree (Tree × Added) with_made qs) facts ≡ with_method p own name qs facts
method_same p own name qs facts =
    ap (λ shapes. facts ++ fact.Method (owner p.scope) p.scope own name shapes (option_map sig_text p.sig) ∷ []) (fused _ _ _ (λ q. refl) qs)

-- ---- nodes

abbrev Same : (Node → Node × Added) → Node-F Node Tree → Type 0
Same h x = (p : Place) (facts : List Fact) →
    by_node (λ y. y.0) seen inner (map-Node Node Tree (Node × Added) (Tree × Added) h with_made x) p facts ≡ by_node (λ y. y) plain_of body_of x p facts

same : (h : Node → Node × Added) (x : Node-F Node Tree) → Same h x
same h (Node-F.Body statements span) p facts = each_mapped _ _ _ (λ x p facts. refl) statements (inside p) facts
same h (Node-F.Jump jump None span) p facts = refl
same h (Node-F.Jump jump (Some value) span) p facts = refl
same h (Node-F.Command callee arguments None span) p facts = each_mapped _ _ _ (elim [ argument.Positional value ↦ λ p facts. refl | argument.Keyword name span value ↦ λ p facts. refl | argument.Block span value ↦ λ p facts. refl ]) arguments (inside p) (plain_of callee (inside p) facts)
same h (Node-F.Command callee arguments (Some block) span) p facts = ap (plain_of block.body (inside p)) (each_mapped _ _ _ (elim [ argument.Positional value ↦ λ p facts. refl | argument.Keyword name span value ↦ λ p facts. refl | argument.Block span value ↦ λ p facts. refl ]) arguments (inside p) (plain_of callee (inside p) facts))
same h (Node-F.Post receiver suffixes span) p facts = each_mapped _ _ _ (elim [
  | suffix.Call how name name_span None None span ↦ λ p facts. refl
  | suffix.Call how name name_span None (Some block) span ↦ λ p facts. refl
  | suffix.Call how name name_span (Some arguments) None span ↦ λ p facts. each_mapped _ _ _ (elim [ argument.Positional value ↦ λ p facts. refl | argument.Keyword name span value ↦ λ p facts. refl | argument.Block span value ↦ λ p facts. refl ]) arguments (p) (facts)
  | suffix.Call how name name_span (Some arguments) (Some block) span ↦ λ p facts. ap (plain_of block.body p) (each_mapped _ _ _ (elim [ argument.Positional value ↦ λ p facts. refl | argument.Keyword name span value ↦ λ p facts. refl | argument.Block span value ↦ λ p facts. refl ]) arguments (p) (facts))
  | suffix.Constant name name_span span ↦ λ p facts. refl
  | suffix.Index arguments span ↦ λ p facts. each_mapped _ _ _ (elim [ argument.Positional value ↦ λ p facts. refl | argument.Keyword name span value ↦ λ p facts. refl | argument.Block span value ↦ λ p facts. refl ]) arguments (p) (facts)
]) suffixes (inside p) (plain_of receiver (inside p) facts)
same h (Node-F.Text pieces span) p facts = each_mapped _ _ _ (elim [ piece.Words words span ↦ λ p facts. refl | piece.Code body span ↦ λ p facts. refl ]) pieces (inside p) facts
same h (Node-F.Call name name_span None None span) p facts = refl
same h (Node-F.Call name name_span None (Some block) span) p facts = refl
same h (Node-F.Call name name_span (Some arguments) None span) p facts = each_mapped _ _ _ (elim [ argument.Positional value ↦ λ p facts. refl | argument.Keyword name span value ↦ λ p facts. refl | argument.Block span value ↦ λ p facts. refl ]) arguments (inside p) (facts)
same h (Node-F.Call name name_span (Some arguments) (Some block) span) p facts = ap (plain_of block.body (inside p)) (each_mapped _ _ _ (elim [ argument.Positional value ↦ λ p facts. refl | argument.Keyword name span value ↦ λ p facts. refl | argument.Block span value ↦ λ p facts. refl ]) arguments (inside p) (facts))
same h (Node-F.Yield None span) p facts = refl
same h (Node-F.Yield (Some arguments) span) p facts = each_mapped _ _ _ (elim [ argument.Positional value ↦ λ p facts. refl | argument.Keyword name span value ↦ λ p facts. refl | argument.Block span value ↦ λ p facts. refl ]) arguments (inside p) (facts)
same h (Node-F.Super None span) p facts = refl
same h (Node-F.Super (Some arguments) span) p facts = each_mapped _ _ _ (elim [ argument.Positional value ↦ λ p facts. refl | argument.Keyword name span value ↦ λ p facts. refl | argument.Block span value ↦ λ p facts. refl ]) arguments (inside p) (facts)
same h (Node-F.Array elements span) p facts = each_mapped _ _ _ (λ x p facts. refl) elements (inside p) facts
same h (Node-F.Hash pairs span) p facts = each_mapped _ _ _ (elim [ pair.Arrow key value ↦ λ p facts. refl | pair.Label name span value ↦ λ p facts. refl ]) pairs (inside p) facts
same h (Node-F.If test condition body arms None span) p facts = each_mapped _ _ _ (λ a p facts. refl) arms (inside p) (plain_of body (inside p) (plain_of condition (inside p) facts))
same h (Node-F.If test condition body arms (Some otherwise) span) p facts = ap (plain_of otherwise (inside p)) (each_mapped _ _ _ (λ a p facts. refl) arms (inside p) (plain_of body (inside p) (plain_of condition (inside p) facts)))
same h (Node-F.Case None arms None span) p facts = each_mapped _ _ _ (λ w p facts. ap (plain_of w.body p) (each_mapped _ _ _ (λ x p facts. refl) w.patterns p facts)) arms (inside p) (facts)
same h (Node-F.Case None arms (Some otherwise) span) p facts = ap (plain_of otherwise (inside p)) (each_mapped _ _ _ (λ w p facts. ap (plain_of w.body p) (each_mapped _ _ _ (λ x p facts. refl) w.patterns p facts)) arms (inside p) (facts))
same h (Node-F.Case (Some subject) arms None span) p facts = each_mapped _ _ _ (λ w p facts. ap (plain_of w.body p) (each_mapped _ _ _ (λ x p facts. refl) w.patterns p facts)) arms (inside p) (plain_of subject (inside p) facts)
same h (Node-F.Case (Some subject) arms (Some otherwise) span) p facts = ap (plain_of otherwise (inside p)) (each_mapped _ _ _ (λ w p facts. ap (plain_of w.body p) (each_mapped _ _ _ (λ x p facts. refl) w.patterns p facts)) arms (inside p) (plain_of subject (inside p) facts))
same h (Node-F.Begin guarded span) p facts = guarded_same guarded (inside p) facts
same h (Node-F.Class path None body span) p facts = refl
same h (Node-F.Class path (Some superclass) body span) p facts = refl
same h (Node-F.Module path body span) p facts = refl
same h (Node-F.Def visibility own name name_span parameters guarded span) p facts =
    guarded_same guarded (method_place p own) _
    ∙ ap (by_guarded plain_of guarded (method_place p own))
    (parameters_same parameters (method_place p own) _
    ∙ ap (each (by_parameter plain_of) parameters (method_place p own)) (method_same p own name parameters facts))
same h x p facts = refl

-- ---- the bodies of classes and modules

statements_same : (sig : Option Tree) (ss : List Tree) (p : Place) (facts : List Fact) →
    by_statements (λ (y : Tree × Added). y.0) seen inner sig (map with_made ss) p facts ≡ by_statements (λ y. y) plain_of body_of sig ss p facts
statements_same sig [] p facts = refl
statements_same sig (s ∷ ss) p facts = statements_same (sig_if s) ss p (plain_of s (after_sig p sig) (mixed p s facts))

body_same : (h : Node → Node × Added) (x : Node-F Node Tree) (p : Place) (facts : List Fact) →
    by_body (λ y. y.0) seen inner (map-Node Node Tree (Node × Added) (Tree × Added) h with_made x) p facts ≡ by_body (λ y. y) plain_of body_of x p facts
body_same h (Node-F.Body statements span) p facts = statements_same None statements p facts
body_same h x p facts = same h x p facts

-- ---- the equations

pub plain_is : (t : Tree) (p : Place) (facts : List Fact) → plain_of t p facts ≡ plain_by_node t p facts
unfolding plain_by_node
plain_is t p facts =
    ap (λ (a : Added). a.plain p facts) (tree_is t ∙ node_is t.node)
    ∙ same (λ m. (m, made_node m)) (out-Node t.node) p facts

pub body_is : (t : Tree) (p : Place) (facts : List Fact) → body_of t p facts ≡ body_by_node t p facts
unfolding body_by_node
body_is t p facts =
    ap (λ (a : Added). a.body p facts) (tree_is t ∙ node_is t.node)
    ∙ body_same (λ m. (m, made_node m)) (out-Node t.node) p facts
