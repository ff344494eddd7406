-- What a tree declares has a fact, whatever fact it is, where it is so of what its nodes declare.
use Rattle.std.proofs.Common.{◌≡◌, ℕ, List, [], ◌∷◌, ◌++◌, map, Option, Some, None, sym, ap, subst, ◌∙◌}
use Rattle.srb_terms.specs.declared.fact.How.{How}
use Rattle.srb_terms.specs.declared.fact.Kind.{Kind}
use Rattle.srb_terms.specs.declared.fact.Kind.TheVariants as kind
use Rattle.srb_terms.specs.declared.span.Span.{Span}
use Rattle.rb_tree.specs.declared.syntax.Argument.{Argument}
use Rattle.rb_tree.specs.declared.syntax.PlacedName.{PlacedName}
use Rattle.rb_tree.specs.declared.syntax.Reference.{Reference}
use Rattle.rb_tree.specs.declared.syntax.Tree.{Tree}
use Rattle.rb_tree.specs.declared.syntax.Node.{Node, out-Node}
use Rattle.rb_tree.specs.declared.syntax.Node.TheOpen.{Node-F}
use Rattle.rb_tree.specs.declared.syntax.Node.TheViews.{roll-Node, out-roll-Node}
use Rattle.rb_tree.specs.declared.syntax.Node.TheFolds.{map-Node, ind-Tree}
use Rattle.rb_views.specs.Calls.{Call, call_of, call_at}
use Rattle.rb_views.specs.Places.{names_span}
use Rattle.rb_views.specs.Prefixes.{last_suffix, without_last}
use Rattle.rb_views.specs.Targets.{callee_of}
use Rattle.rb_grammar.specs.Places.{Each, IfThere}
use Rattle.rb_grammar.proofs.Placed.{each-end}
use Rattle.srb_declarations.specs.declared.declaration.Declaration.{Declaration}
use Rattle.srb_declarations.specs.declared.declaration.Declaration.TheVariants as declaration
use Rattle.srb_declarations.specs.Declarations.{declared_name, with_body, with_superclass, with_constant_at, with_constant, mixed, statement_at, body_at, inner_statements, statement_of, body_of, statement_by_node, body_by_node, program_statements, program_at, declarations_of}
use Rattle.srb_declarations.proofs.Equations.{statement_is, body_is}
use Rattle.srb_declarations_laws.proofs.Mixins as calls
use Rattle.srb_declarations_laws.proofs.Mixins.{IsArgumentAt, IsCallAt}

-- `D` is the fact of a declaration, and `T` says of a tree that what it declares has it, whatever the names are
module _ (D : Declaration → Type 0) (T : Tree → Type 0) where
  abbrev pub IsBodyFine : Span → Type 0
  IsBodyFine span = (name : List ℕ) (k : Kind) → D (declaration.Body name k span)

  abbrev pub IsConstantFine : Span → Type 0
  IsConstantFine span = (name : List ℕ) → D (declaration.Constant name span)

  abbrev pub IsSuperclassFine : Reference → Type 0
  IsSuperclassFine r = (name : List ℕ) (scope path : List (List ℕ)) → D (declaration.Superclass name scope path r.span)

  abbrev pub IsMixinFine : Span → Type 0
  IsMixinFine span = (name : List ℕ) (scope path : List (List ℕ)) (way : How) → D (declaration.Mixin name scope path way span)

  abbrev pub IsOtherFine : Span → Type 0
  IsOtherFine span = D (declaration.OtherMixin span)

  abbrev pub IsGivenFine : Argument Tree → Type 0
  IsGivenFine = IsArgumentAt IsOtherFine IsMixinFine

  -- what is wanted of a node
  abbrev pub IsFine : Node-F Node Tree → Type 0
  IsFine (Node-F.Body statements span) = Each T statements
  IsFine (Node-F.Modified statement modifier condition span) = T statement
  IsFine (Node-F.Assign target value span) = T target
  IsFine (Node-F.Constant name span) = IsConstantFine span
  IsFine (Node-F.Call name name_span given block span) = IfThere (Each IsGivenFine) given
  IsFine (Node-F.Command callee given block span) = Each IsGivenFine given
  IsFine (Node-F.Class path superclass body span) = IsBodyFine (names_span path) × IfThere IsSuperclassFine superclass × T body
  IsFine (Node-F.Module path body span) = IsBodyFine (names_span path) × T body
  IsFine _ = Unit {0}

module _ (D : Declaration → Type 0) (T : Tree → Type 0) (opens : (t : Tree) → T t → IsFine D T (out-Node t.node)) where
  abbrev All : List Declaration → Type 0
  All = Each D

  abbrev one-more : (ds : List Declaration) (d : Declaration) → All ds → D d → All (ds ++ d ∷ [])
  one-more ds d all h = each-end D ds d all h

  -- ---- mixins

  abbrev IsCallFine : Call → Type 0
  IsCallFine = IsCallAt (IsOtherFine D T) (IsMixinFine D T)

  call-node : (n : Node-F Node Tree) → IsFine D T n → IfThere IsCallFine (call_at n)
  call-node (Node-F.Name name span) h = tt
  call-node (Node-F.Call name name_span None block span) h = tt
  call-node (Node-F.Call name name_span (Some arguments) block span) h = h
  call-node (Node-F.Post receiver suffixes span) h = calls.suffix-call (IsOtherFine D T) (IsMixinFine D T) (without_last (record { operand = receiver; suffixes = suffixes })) (last_suffix suffixes)
  call-node (Node-F.Command callee arguments block span) h = calls.command-call (IsOtherFine D T) (IsMixinFine D T) (callee_of callee) arguments block span h
  call-node _ h = tt

  call-fine : (t : Tree) → T t → IfThere IsCallFine (call_of t)
  unfolding call_of
  call-fine t h = call-node (out-Node t.node) (opens t h)

  mixed-kept : (name : List ℕ) (t : Tree) (scope : List (List ℕ)) (ds : List Declaration) → T t → All ds → All (mixed name t scope ds)
  mixed-kept name t scope ds h all =
      calls.call-kept D (IsOtherFine D T) (IsMixinFine D T) (λ name scope path way span h. h name scope path way) (λ span h. h) name (call_of t) (call-fine t h) scope ds all

  -- ---- classes, modules and constants

  body-kept : (name : List ℕ) (k : Kind) (path : List PlacedName) (ds : List Declaration) → All ds → IsBodyFine D T (names_span path) → All (with_body name k path ds)
  body-kept name k path ds all h = one-more ds _ all (h name k)

  superclass-kept : (name : List ℕ) (r : Option Reference) (scope : List (List ℕ)) (ds : List Declaration) → All ds → IfThere (IsSuperclassFine D T) r → All (with_superclass name r scope ds)
  superclass-kept name None scope ds all h = all
  superclass-kept name (Some r) scope ds all h = one-more ds _ all (h _ _ _)

  constant-node : (n : Node-F Node Tree) (scope : List (List ℕ)) (ds : List Declaration) → IsFine D T n → All ds → All (with_constant_at n scope ds)
  constant-node (Node-F.Constant name span) scope ds h all = one-more ds _ all (h _)
  constant-node _ scope ds h all = all

  constant-kept : (t : Tree) (scope : List (List ℕ)) (ds : List Declaration) → T t → All ds → All (with_constant t scope ds)
  unfolding with_constant
  constant-kept t scope ds h all = constant-node (out-Node t.node) scope ds (opens t h) all

  -- ---- trees

  -- declarations that have the fact have it with what a tree adds, as a statement and as a body
  abbrev Keeps : Tree → Type 0
  Keeps t =
      ((scope : List (List ℕ)) (ds : List Declaration) → All ds → All (statement_of t scope ds))
      × ((name : List ℕ) (scope : List (List ℕ)) (ds : List Declaration) → All ds → All (body_of t name scope ds))

  abbrev TreeKeeps : Tree → Type 0
  TreeKeeps t = T t → Keeps t

  abbrev NodeKeeps : Node → Type 0
  NodeKeeps n = TreeKeeps (record { node = n })

  abbrev KeptNode : Type 0
  KeptNode = (n : Node) × NodeKeeps n

  abbrev KeptTree : Type 0
  KeptTree = (t : Tree) × TreeKeeps t

  abbrev plain : Node-F KeptNode KeptTree → Node-F Node Tree
  plain y = map-Node KeptNode KeptTree Node Tree (λ e. e.0) (λ e. e.0) y

  statement-node : (y : Node-F KeptNode KeptTree) (scope : List (List ℕ)) (ds : List Declaration) → IsFine D T (plain y) → All ds →
      All (statement_at (λ x. x) statement_of body_of (plain y) scope ds)
  statement-node (Node-F.Modified statement modifier condition span) scope ds h all = (statement.1 h).0 scope ds all
  statement-node (Node-F.Assign target value span) scope ds h all = constant-kept target.0 scope ds h all
  statement-node (Node-F.Class path superclass body span) scope ds h all =
      let name = declared_name scope path in
      (body.1 h.2).1 name (name ∷ scope) (with_superclass name superclass scope (with_body name kind.Class path ds))
      (superclass-kept name superclass scope (with_body name kind.Class path ds) (body-kept name kind.Class path ds all h.0) h.1)
  statement-node (Node-F.Module path body span) scope ds h all =
      let name = declared_name scope path in
      (body.1 h.1).1 name (name ∷ scope) (with_body name kind.Module path ds) (body-kept name kind.Module path ds all h.0)
  statement-node _ scope ds h all = all

  statements-kept : (name : List ℕ) (ss : List KeptTree) (scope : List (List ℕ)) (ds : List Declaration) → Each T (map (λ e. e.0) ss) → All ds →
      All (inner_statements (λ x. x) statement_of body_of name (map (λ e. e.0) ss) scope ds)
  statements-kept name [] scope ds h all = all
  statements-kept name (s ∷ ss) scope ds h all =
      statements-kept name ss scope (statement_of s.0 scope (mixed name s.0 scope ds)) h.1 ((s.1 h.0).0 scope (mixed name s.0 scope ds) (mixed-kept name s.0 scope ds h.0 all))

  body-node : (y : Node-F KeptNode KeptTree) (name : List ℕ) (scope : List (List ℕ)) (ds : List Declaration) → IsFine D T (plain y) → All ds →
      All (body_at (λ x. x) statement_of body_of (plain y) name scope ds)
  body-node (Node-F.Body ss span) name scope ds h all = statements-kept name ss scope ds h all
  body-node _ name scope ds h all = all

  statement-opened : (r : Node-F Node Tree) (scope : List (List ℕ)) (ds : List Declaration) →
      statement_of (record { node = roll-Node r }) scope ds ≡ statement_at (λ x. x) statement_of body_of r scope ds
  unfolding statement_by_node
  statement-opened r scope ds = statement_is (record { node = roll-Node r }) scope ds ∙ ap (λ n. statement_at (λ x. x) statement_of body_of n scope ds) (out-roll-Node r)

  body-opened : (r : Node-F Node Tree) (name : List ℕ) (scope : List (List ℕ)) (ds : List Declaration) →
      body_of (record { node = roll-Node r }) name scope ds ≡ body_at (λ x. x) statement_of body_of r name scope ds
  unfolding body_by_node
  body-opened r name scope ds = body_is (record { node = roll-Node r }) name scope ds ∙ ap (λ n. body_at (λ x. x) statement_of body_of n name scope ds) (out-roll-Node r)

  node-keeps : (y : Node-F KeptNode KeptTree) → NodeKeeps (roll-Node (plain y))
  node-keeps y s =
      let h = subst (IsFine D T) (out-roll-Node (plain y)) (opens (record { node = roll-Node (plain y) }) s) in (
        (λ scope ds all. subst All (sym (statement-opened (plain y) scope ds)) (statement-node y scope ds h all)),
        (λ name scope ds all. subst All (sym (body-opened (plain y) name scope ds)) (body-node y name scope ds h all)),
      )

  keeps : (t : Tree) → TreeKeeps t
  keeps = ind-Tree NodeKeeps TreeKeeps (λ x y is. subst (λ z. NodeKeeps (roll-Node z)) is (node-keeps y)) (λ x y is. subst NodeKeeps (ap (λ z. z.node) is) y.node.1)

  -- ---- programs

  program-kept : (ss : List Tree) (ds : List Declaration) → Each T ss → All ds → All (program_statements ss ds)
  program-kept [] ds h all = all
  program-kept (s ∷ ss) ds h all = program-kept ss (statement_of s [] ds) h.1 ((keeps s h.0).0 [] ds all)

  program-node : (n : Node-F Node Tree) → IsFine D T n → All (program_at n)
  program-node (Node-F.Body ss span) h = program-kept ss [] h tt
  program-node _ h = tt

  -- each declaration of the tree has the fact
  pub declarations-kept : (t : Tree) → T t → All (declarations_of t)
  unfolding declarations_of
  declarations-kept t h = program-node (out-Node t.node) (opens t h)
