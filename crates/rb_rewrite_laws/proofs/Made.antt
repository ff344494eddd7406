-- The places in trees that are made of parts.
use Rattle.std.proofs.Common.{◌≡◌, ℕ, Bool, List, [], ◌∷◌, ◌++◌, map, Option, sym, ap, ◌∙◌}
use Rattle.srb_terms.specs.declared.span.Span.{Span}
use Rattle.rb_tree.specs.Nodes as tree
use Rattle.rb_tree.specs.Trees.{span_of, span_at, span_of_node}
use Rattle.rb_tree.specs.declared.syntax.Argument.{Argument}
use Rattle.rb_tree.specs.declared.syntax.Block.{Block}
use Rattle.rb_tree.specs.declared.syntax.Guarded.{Guarded}
use Rattle.rb_tree.specs.declared.syntax.Parameter.{Parameter}
use Rattle.rb_tree.specs.declared.syntax.PlacedName.{PlacedName}
use Rattle.rb_tree.specs.declared.syntax.Reference.{Reference}
use Rattle.rb_tree.specs.declared.syntax.Suffix.{Suffix}
use Rattle.rb_tree.specs.declared.syntax.Tree.{Tree}
use Rattle.rb_tree.specs.declared.syntax.Visibility.{Visibility}
use Rattle.rb_tree.specs.declared.syntax.Node.{Node, out-Node}
use Rattle.rb_tree.specs.declared.syntax.Node.TheOpen.{Node-F}
use Rattle.rb_tree.specs.declared.syntax.Node.TheVariants.{rolls-Body, rolls-Assign, rolls-Command, rolls-Post, rolls-InstanceVariable, rolls-Constant, rolls-Name, rolls-Call, rolls-Class, rolls-Module, rolls-Def}
use Rattle.rb_tree.specs.declared.syntax.Node.TheViews.{roll-Node, out-roll-Node}
use Rattle.rb_grammar.specs.Places.{Each, IfThere}
use Rattle.rb_places_laws.specs.ErrorPlaces.{HasArgument, HasBlock, HasSuffix, HasParameter, HasGuarded, HasNode, HasErrorPlaces}
use Rattle.rb_places_laws.proofs.ByNode.{has-as}

pub each-mapped : {A B : Type 0} (Q : A → Type 0) (S : B → Type 0) (f : A → B) → ((x : A) → Q x → S (f x)) → (xs : List A) → Each Q xs → Each S (map f xs)
each-mapped Q S f h [] k = tt
each-mapped Q S f h (x ∷ xs) k = (h x k.0, each-mapped Q S f h xs k.1)

pub each-append : {A : Type 0} (Q : A → Type 0) (xs ys : List A) → Each Q xs → Each Q ys → Each Q (xs ++ ys)
each-append Q [] ys h k = k
each-append Q (x ∷ xs) ys h k = (h.0, each-append Q xs ys h.1 k)

pub each-end : {A : Type 0} (Q : A → Type 0) (xs : List A) (x : A) → Each Q xs → Q x → Each Q (xs ++ x ∷ [])
each-end Q xs x h k = each-append Q xs (x ∷ []) h (k, tt)

module _ (P : Span → Type 0) where
  abbrev pub Has : Tree → Type 0
  Has = HasErrorPlaces P

  abbrev pub HasGiven : Argument Tree → Type 0
  HasGiven = HasArgument P Has span_of

  abbrev pub HasInBlock : Block Tree → Type 0
  HasInBlock = HasBlock P Has span_of

  -- after an operand at this place
  abbrev pub HasAfter : Span → Suffix Tree → Type 0
  HasAfter = HasSuffix P Has span_of

  abbrev pub HasDefault : Parameter Tree → Type 0
  HasDefault = HasParameter P Has span_of

  abbrev pub HasBodies : Guarded Tree → Type 0
  HasBodies = HasGuarded P Has span_of

  abbrev pub HasOut : Node-F Node Tree → Type 0
  HasOut = HasNode P Has span_of

  -- ---- trees

  pub has-body : (statements : List Tree) (span : Span) → P span → Each Has statements → Has (tree.Body statements span)
  has-body statements span h k = has-as P _ (Node-F.Body statements span) (rolls-Body _ _) (h, k)

  pub has-assign : (target value : Tree) (span : Span) → P span → Has target → Has value → Has (tree.Assign target value span)
  has-assign target value span h k l = has-as P _ (Node-F.Assign target value span) (rolls-Assign _ _ _) (h, (k, l))

  pub has-command : (callee : Tree) (arguments : List (Argument Tree)) (block : Option (Block Tree)) (span : Span) → P span → Has callee → Each HasGiven arguments →
      IfThere HasInBlock block → Has (tree.Command callee arguments block span)
  has-command callee arguments block span h k l m = has-as P _ (Node-F.Command callee arguments block span) (rolls-Command _ _ _ _) (h, (k, l, m))

  pub has-post : (receiver : Tree) (suffixes : List (Suffix Tree)) (span : Span) → P span → Has receiver → Each (HasAfter (span_of receiver)) suffixes →
      Has (tree.Post receiver suffixes span)
  has-post receiver suffixes span h k l = has-as P _ (Node-F.Post receiver suffixes span) (rolls-Post _ _ _) (h, (k, l))

  pub has-instance-variable : (name : List ℕ) (span : Span) → P span → Has (tree.InstanceVariable name span)
  has-instance-variable name span h = has-as P _ (Node-F.InstanceVariable name span) (rolls-InstanceVariable _ _) (h, tt)

  pub has-constant : (name : List ℕ) (span : Span) → P span → Has (tree.Constant name span)
  has-constant name span h = has-as P _ (Node-F.Constant name span) (rolls-Constant _ _) (h, tt)

  pub has-name : (name : List ℕ) (span : Span) → P span → Has (tree.Name name span)
  has-name name span h = has-as P _ (Node-F.Name name span) (rolls-Name _ _) (h, tt)

  pub has-call : (name : List ℕ) (name_span : Span) (arguments : Option (List (Argument Tree))) (block : Option (Block Tree)) (span : Span) → P span → P name_span →
      IfThere (Each HasGiven) arguments → IfThere HasInBlock block → Has (tree.Call name name_span arguments block span)
  has-call name name_span arguments block span h k l m =
      has-as P _ (Node-F.Call name name_span arguments block span) (rolls-Call _ _ _ _ _) (h, (k, l, m))

  pub has-class : (path : List PlacedName) (superclass : Option Reference) (body : Tree) (span : Span) → P span → Has body → Has (tree.Class path superclass body span)
  has-class path superclass body span h k = has-as P _ (Node-F.Class path superclass body span) (rolls-Class _ _ _ _) (h, k)

  pub has-module : (path : List PlacedName) (body : Tree) (span : Span) → P span → Has body → Has (tree.Module path body span)
  has-module path body span h k = has-as P _ (Node-F.Module path body span) (rolls-Module _ _ _) (h, k)

  pub has-def : (visibility : Option Visibility) (own : Bool) (name : List ℕ) (name_span : Span) (parameters : List (Parameter Tree)) (guarded : Guarded Tree) (span : Span) →
      P span → P name_span → Each HasDefault parameters → HasBodies guarded → Has (tree.Def visibility own name name_span parameters guarded span)
  has-def visibility own name name_span parameters guarded span h k l m =
      has-as P _ (Node-F.Def visibility own name name_span parameters guarded span) (rolls-Def _ _ _ _ _ _ _) (h, (k, l, m))

-- ---- their places

pub place-made : (t : Tree) (r : Node-F Node Tree) → roll-Node r ≡ t.node → span_of t ≡ span_at r
unfolding span_of span_of_node
place-made t r e = ap span_at (ap out-Node (sym e) ∙ out-roll-Node r)

pub place-constant : (name : List ℕ) (span : Span) → span_of (tree.Constant name span) ≡ span
place-constant name span = place-made _ (Node-F.Constant name span) (rolls-Constant _ _)

pub place-call : (name : List ℕ) (name_span : Span) (arguments : Option (List (Argument Tree))) (block : Option (Block Tree)) (span : Span) →
    span_of (tree.Call name name_span arguments block span) ≡ span
place-call name name_span arguments block span = place-made _ (Node-F.Call name name_span arguments block span) (rolls-Call _ _ _ _ _)
