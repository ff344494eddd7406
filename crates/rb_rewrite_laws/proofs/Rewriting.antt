-- The places in a rewritten tree have a fact, where those in the tree as it is written do.
use Rattle.std.proofs.Common.{◌≡◌, Bool, true, false, ◌&&◌, if◌then◌else◌, List, [], ◌∷◌, ◌++◌, map, Option, Some, None, option_map, refl, sym, ap, subst, ◌∙◌}
use Rattle.srb_terms.specs.declared.span.Span.{Span}
use Rattle.rb_tree.specs.declared.syntax.Tree.{Tree}
use Rattle.rb_tree.specs.declared.syntax.Node.{Node, out-Node}
use Rattle.rb_tree.specs.declared.syntax.Node.TheOpen.{Node-F}
use Rattle.rb_tree.specs.declared.syntax.Node.TheViews.{roll-Node, out-roll-Node}
use Rattle.rb_tree.specs.declared.syntax.Node.TheFolds.{map-Node, ind-Tree}
use Rattle.rb_views.specs.Calls.{Call, call_of}
use Rattle.rb_grammar.specs.Places.{Each, IfThere}
use Rattle.rb_places_laws.specs.ErrorPlaces.{HasErrorPlaces}
use Rattle.rb_places_laws.specs.TokenPlaces.{IsPlaceOfError}
use Rattle.rb_places_laws.proofs.ByNode.{opened, taken-apart}
use Rattle.rb_rewrite.specs.Declaring.{AttributeCall, attribute_call, attribute_named, attribute_of, is_missing, is_sig, with_arguments}
use Rattle.rb_rewrite.specs.Initializers.{initialized}
use Rattle.rb_rewrite.specs.Rewriting.{Row, row, empty_row, all_of, with_other, with_statement_by, with_statement, with_statements, rewritten, inner_of, body_of, attrs_at, attrs_of, inner_at, body_at, inner_by_node, body_by_node}
use Rattle.rb_rewrite.specs.declared.declaring.Attribute.{Attribute}
use Rattle.rb_rewrite.proofs.Equations.{inner_is, body_is}
use Rattle.rb_rewrite_laws.specs.RewrittenPlaces.{RewritingKeepsErrorPlaces}
use Rattle.rb_rewrite_laws.proofs.Attributes.{mapped, with-sig-has, attributes-have}
use Rattle.rb_rewrite_laws.proofs.Initializers.{initialized-has}
use Rattle.rb_rewrite_laws.proofs.Made.{each-mapped, each-end, Has, HasGiven, HasOut, has-body, has-class, has-module}
use Rattle.rb_rewrite_laws.proofs.Signatures.{either, HasCall, call-has}

module _ (P : Span → Type 0) where
  -- ---- attribute statements

  abbrev HasAttribute : AttributeCall → Type 0
  HasAttribute a = Each (HasGiven P) a.arguments

  attribute-by : (o : Option Call) → IfThere (HasCall P) o → IfThere HasAttribute (attribute_call o)
  attribute-by None h = tt
  attribute-by (Some c) h =
      either HasAttribute (is_missing c.receiver && is_missing c.block) (option_map (with_arguments c.arguments) (attribute_named c.name)) None
      (mapped (λ (k : Attribute). Unit {0}) HasAttribute (with_arguments c.arguments) (λ kind k. h.1) (attribute_named c.name) (any (attribute_named c.name))) tt
    where
      any : (o : Option Attribute) → IfThere (λ (k : Attribute). Unit {0}) o
      any None = tt
      any (Some kind) = tt

  attribute-has : (t : Tree) → Has P t → IfThere HasAttribute (attribute_of t)
  unfolding attribute_of
  attribute-has t h = attribute-by (call_of t) (call-has P t h)

  -- ---- the statements of a class or module body

  abbrev HasRow : Row → Type 0
  HasRow r = IfThere (Has P) r.sig × Each (Has P) r.so_far

  all-have : (r : Row) → HasRow r → Each (Has P) (all_of r)
  all-have r h = with-sig-has P r.so_far r.sig h.1 h.0

  choice : (b : Bool) (r s : Row) → HasRow r → HasRow s → HasRow (if b then r else s)
  choice true r s h k = h
  choice false r s h k = k

  other-has : (r : Row) (written inner : Tree) → HasRow r → Has P written → Has P inner → HasRow (with_other r written inner)
  other-has r written inner h k l =
      choice (is_sig written) (row (Some written) (all_of r)) (row None (all_of r ++ initialized r.sig inner ∷ [])) (k, all-have r h)
      (tt, each-end (Has P) (all_of r) (initialized r.sig inner) (all-have r h) (initialized-has P r.sig inner h.0 l))

  statement-by : (r : Row) (written inner : Tree) (o : Option AttributeCall) → HasRow r → Has P written → Has P inner → IfThere HasAttribute o →
      HasRow (with_statement_by r written inner o)
  statement-by r written inner None h k l m = other-has r written inner h k l
  statement-by r written inner (Some a) h k l m = (tt, attributes-have P a.kind r.sig a.arguments r.so_far h.0 m h.1)

  statement-has : (r : Row) (written inner : Tree) → HasRow r → Has P written → Has P inner → HasRow (with_statement r written inner)
  statement-has r written inner h k l = statement-by r written inner (attribute_of written) h k l (attribute-has written k)

  -- ---- trees

  -- a tree as a statement, and as the body of a class or module
  abbrev Keeps : Tree → Type 0
  Keeps t = Has P t → Has P (inner_of t) × Has P (body_of t)

  abbrev NodeKeeps : Node → Type 0
  NodeKeeps n = Keeps (record { node = n })

  abbrev KeptNode : Type 0
  KeptNode = (n : Node) × NodeKeeps n

  abbrev KeptTree : Type 0
  KeptTree = (t : Tree) × Keeps t

  abbrev plain : Node-F KeptNode KeptTree → Node-F Node Tree
  plain y = map-Node KeptNode KeptTree Node Tree (λ e. e.0) (λ e. e.0) y

  statements-have : (r : Row) (ss : List KeptTree) → HasRow r → Each (Has P) (map (λ (e : KeptTree). e.0) ss) →
      HasRow (with_statements (λ s. s) inner_of r (map (λ (e : KeptTree). e.0) ss))
  statements-have r [] h k = h
  statements-have r (s ∷ ss) h k =
      statements-have (with_statement r s.0 (inner_of s.0)) ss (statement-has r s.0 (inner_of s.0) h k.0 (s.1 k.0).0) k.1

  inner-kept : (t : Tree) (y : Node-F KeptNode KeptTree) → Has P t → HasOut P (plain y) → Has P (inner_at t (plain y))
  inner-kept t (Node-F.Class path superclass body span) h k = has-class P path superclass (body_of body.0) span k.0 (body.1 k.1).1
  inner-kept t (Node-F.Module path body span) h k = has-module P path (body_of body.0) span k.0 (body.1 k.1).1
  inner-kept t _ h k = h

  body-kept : (t : Tree) (y : Node-F KeptNode KeptTree) → Has P t → HasOut P (plain y) → Has P (body_at t (plain y))
  body-kept t (Node-F.Body statements span) h k =
      let plainly : List Tree = map (λ (e : KeptTree). e.0) statements in
      has-body P (rewritten (λ s. s) inner_of plainly) span k.0
      (all-have (with_statements (λ s. s) inner_of empty_row plainly) (statements-have empty_row statements (tt, tt) k.1))
  body-kept t _ h k = h

  inner-by : (r : Node-F Node Tree) → inner_of (record { node = roll-Node r }) ≡ inner_at (record { node = roll-Node r }) r
  unfolding inner_by_node
  inner-by r = inner_is (record { node = roll-Node r }) ∙ ap (inner_at (record { node = roll-Node r })) (out-roll-Node r)

  body-by : (r : Node-F Node Tree) → body_of (record { node = roll-Node r }) ≡ body_at (record { node = roll-Node r }) r
  unfolding body_by_node
  body-by r = body_is (record { node = roll-Node r }) ∙ ap (body_at (record { node = roll-Node r })) (out-roll-Node r)

  node-keeps : (y : Node-F KeptNode KeptTree) → NodeKeeps (roll-Node (plain y))
  node-keeps y h =
      let k = taken-apart P (record { node = roll-Node (plain y) }) (plain y) refl h in (
        subst (Has P) (sym (inner-by (plain y))) (inner-kept (record { node = roll-Node (plain y) }) y h k),
        subst (Has P) (sym (body-by (plain y))) (body-kept (record { node = roll-Node (plain y) }) y h k),
      )

  keeps : (t : Tree) → Keeps t
  keeps = ind-Tree NodeKeeps Keeps (λ x y is. subst (λ z. NodeKeeps (roll-Node z)) is (node-keeps y)) (λ x y is. subst NodeKeeps (ap (λ z. z.node) is) y.node.1)

  -- ---- programs

  attrs-out : (t : Tree) (n : Node-F Node Tree) → Has P t → HasOut P n → Has P (attrs_at t n)
  attrs-out t (Node-F.Body statements span) h k =
      has-body P (map inner_of statements) span k.0 (each-mapped (Has P) (Has P) inner_of (λ s l. (keeps s l).0) statements k.1)
  attrs-out t _ h k = h

  pub rewritten-has : (t : Tree) → HasErrorPlaces P t → HasErrorPlaces P (attrs_of t)
  unfolding attrs_of
  rewritten-has t h = attrs-out t (out-Node t.node) h (opened P t h)

pub rewriting_keeps : RewritingKeepsErrorPlaces
rewriting_keeps tokens t h = rewritten-has (IsPlaceOfError tokens) t h
