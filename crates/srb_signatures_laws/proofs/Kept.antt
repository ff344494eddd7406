-- The errors of a tree's signatures stand where a fact holds, whatever fact it is, where it holds of the places of the nodes that they are told of.
use Rattle.std.proofs.Common.{◌≡◌, ℕ, Bool, true, false, ◌&&◌, if◌then◌else◌, List, [], ◌∷◌, ◌++◌, map, Option, Some, None, option_map, refl, sym, ap, subst, ◌∙◌}
use Rattle.srb_terms.specs.declared.diag.Diag.{Diag}
use Rattle.srb_terms.specs.declared.span.Span.{Span}
use Rattle.rb_tree.specs.Trees.{span_of, span_at, span_of_node}
use Rattle.rb_tree.specs.declared.syntax.Argument.{Argument}
use Rattle.rb_tree.specs.declared.syntax.Argument.TheVariants as argument
use Rattle.rb_tree.specs.declared.syntax.Block.{Block}
use Rattle.rb_tree.specs.declared.syntax.Suffix.{Suffix}
use Rattle.rb_tree.specs.declared.syntax.Suffix.TheVariants as suffix
use Rattle.rb_tree.specs.declared.syntax.Tree.{Tree}
use Rattle.rb_tree.specs.declared.syntax.Node.{Node, out-Node}
use Rattle.rb_tree.specs.declared.syntax.Node.TheOpen.{Node-F}
use Rattle.rb_tree.specs.declared.syntax.Node.TheViews.{roll-Node, out-roll-Node}
use Rattle.rb_tree.specs.declared.syntax.Node.TheFolds.{map-Node, ind-Tree}
use Rattle.rb_views.specs.Calls.{Call, Receiver, call_of, call_at, call_by_last, command}
use Rattle.rb_views.specs.Prefixes.{Prefix, last_suffix, without_last}
use Rattle.rb_views.specs.Targets as targets
use Rattle.rb_views.specs.Targets.{Callee, callee_of}
use Rattle.rb_rewrite.specs.Declaring.{AttributeCall, attribute_call, attribute_named, attribute_of, is_missing, is_sig, is_sig_call, with_arguments}
use Rattle.rb_rewrite.specs.declared.declaring.Attribute.{Attribute}
use Rattle.rb_rewrite.specs.declared.declaring.Attribute.TheVariants.{Reader, Writer, Accessor}
use Rattle.rb_grammar.specs.Places.{Each, IfThere}
use Rattle.rb_grammar.proofs.Placed.{each-end}
use Rattle.srb_signatures.specs.Fitting.{fits}
use Rattle.srb_signatures.specs.Missing.{missing, missing_argument, missing_attributes, missing_by, missing_method, missing_method_at, missing_name, missing_symbol, missing_symbol_at}
use Rattle.srb_signatures.specs.Errors.{malformed, with_missing, with_followed, with_last, sig_if, inner_statements, statement_at, body_at, statement_of, body_of, statement_by_node, body_by_node, program_statements, program_at, signature_errors}
use Rattle.srb_signatures.proofs.Equations.{statement_is, body_is}

-- `P` is the fact of a place, and `T` says of a tree that its places have it
module _ (P : Span → Type 0) (T : Tree → Type 0) where
  abbrev pub IsGivenFine : Argument Tree → Type 0
  IsGivenFine (argument.Positional value) = T value
  IsGivenFine (argument.Keyword name span value) = Unit {0}
  IsGivenFine (argument.Block span value) = Unit {0}

  -- what is wanted of a node
  abbrev pub IsFine : Node-F Node Tree → Type 0
  IsFine (Node-F.Body statements span) = Each T statements
  IsFine (Node-F.Name name span) = P span
  IsFine (Node-F.Call name name_span given block span) = P span × IfThere (Each IsGivenFine) given
  IsFine (Node-F.Post receiver suffixes span) = P span
  IsFine (Node-F.Command callee given block span) = P span × Each IsGivenFine given
  IsFine (Node-F.Symbol words span) = P span
  IsFine (Node-F.Class path superclass body span) = T body
  IsFine (Node-F.Module path body span) = T body
  IsFine (Node-F.Def visibility own name name_span parameters guarded span) = P name_span
  IsFine _ = Unit {0}

module _ (P : Span → Type 0) (T : Tree → Type 0) (opens : (t : Tree) → T t → IsFine P T (out-Node t.node)) (needed : Bool) where
  abbrev All : List Diag → Type 0
  All = Each (λ (e : Diag). P e.span)

  -- ---- `sig` statements

  abbrev IsSigPlaced : Tree → Type 0
  IsSigPlaced t = P (span_of t)

  sig-node : (n : Node-F Node Tree) → is_sig_call (call_at n) ≡ true → IsFine P T n → P (span_at n)
  sig-node (Node-F.Name name span) e h = h
  sig-node (Node-F.Call name name_span arguments block span) e h = h.0
  sig-node (Node-F.Post receiver suffixes span) e h = h
  sig-node (Node-F.Command callee arguments block span) e h = h.0
  sig-node _ e h = absurd (cc)

  sig-placed : (t : Tree) → is_sig t ≡ true → T t → IsSigPlaced t
  unfolding is_sig call_of span_of span_of_node
  sig-placed t e h = sig-node (out-Node t.node) e (opens t h)

  sig-kept : (t : Tree) → T t → IfThere IsSigPlaced (sig_if t)
  sig-kept t h = by_test (is_sig t) refl
    where
      by_test : (b : Bool) → is_sig t ≡ b → IfThere IsSigPlaced (if b then Some t else None)
      by_test true e = sig-placed t e h
      by_test false e = tt

  -- ---- errors

  one-more : (errors : List Diag) (sig : Tree) → All errors → IsSigPlaced sig → All (errors ++ malformed sig ∷ [])
  one-more errors sig all h = each-end (λ (e : Diag). P e.span) errors (malformed sig) all h

  -- ---- methods without signatures

  append-kept : (xs ys : List Diag) → All xs → All ys → All (xs ++ ys)
  append-kept [] ys h k = k
  append-kept (x ∷ xs) ys h k = (h.0, append-kept xs ys h.1 k)

  name-placed : (kind : Attribute) (name : List ℕ) (span : Span) → P span → All (missing_name kind name span)
  name-placed Reader name span h = (h, tt)
  name-placed Writer name span h = (h, tt)
  name-placed Accessor name span h = (h, (h, tt))

  symbol-node : (kind : Attribute) (n : Node-F Node Tree) → IsFine P T n → All (missing_symbol_at kind n)
  symbol-node kind (Node-F.Symbol words span) h = name-placed kind words span h
  symbol-node kind _ h = tt

  symbol-placed : (kind : Attribute) (t : Tree) → T t → All (missing_symbol kind t)
  unfolding missing_symbol
  symbol-placed kind t h = symbol-node kind (out-Node t.node) (opens t h)

  argument-placed : (kind : Attribute) (a : Argument Tree) → IsGivenFine P T a → All (missing_argument kind a)
  argument-placed kind (argument.Positional value) h = symbol-placed kind value h
  argument-placed kind (argument.Keyword name span value) h = tt
  argument-placed kind (argument.Block span value) h = tt

  attributes-placed : (kind : Attribute) (given : List (Argument Tree)) → Each (IsGivenFine P T) given → All (missing_attributes kind given)
  attributes-placed kind [] h = tt
  attributes-placed kind (a ∷ given) h = append-kept (missing_argument kind a) (missing_attributes kind given) (argument-placed kind a h.0) (attributes-placed kind given h.1)

  method-node : (n : Node-F Node Tree) → IsFine P T n → All (missing_method_at n)
  method-node (Node-F.Def visibility own name name_span parameters guarded span) h = (h, tt)
  method-node _ h = tt

  method-placed : (t : Tree) → T t → All (missing_method t)
  unfolding missing_method
  method-placed t h = method-node (out-Node t.node) (opens t h)

  -- the arguments of an attribute statement are fine
  abbrev AreGivenPlaced : Option AttributeCall → Type 0
  AreGivenPlaced = IfThere (λ (a : AttributeCall). Each (IsGivenFine P T) a.arguments)

  by-placed : (t : Tree) (a : Option AttributeCall) → T t → AreGivenPlaced a → All (missing_by t a)
  by-placed t None h k = method-placed t h
  by-placed t (Some a) h k = attributes-placed a.kind a.arguments k

  -- the arguments of a call are fine, where it has no receiver
  abbrev AreAt : Option Receiver → List (Argument Tree) → Type 0
  AreAt None given = Each (IsGivenFine P T) given
  AreAt (Some r) given = Unit {0}

  abbrev IsCallStanding : Call → Type 0
  IsCallStanding c = AreAt c.receiver c.arguments

  suffix-call : (p : Prefix) (s : Option (Suffix Tree)) → IfThere IsCallStanding (call_by_last p s)
  suffix-call p None = tt
  suffix-call p (Some (suffix.Call dot name name_span arguments block span)) = tt
  suffix-call p (Some (suffix.Constant name name_span span)) = tt
  suffix-call p (Some (suffix.Index arguments span)) = tt

  command-call : (c : Option Callee) (given : List (Argument Tree)) (b : Option (Block Tree)) (s : Span) →
      Each (IsGivenFine P T) given → IfThere IsCallStanding (command c given b s)
  command-call None given b s h = tt
  command-call (Some (targets.Name name name_span)) given b s h = h
  command-call (Some (targets.Call p how name name_span)) given b s h = tt
  command-call (Some targets.Yield) given b s h = tt
  command-call (Some targets.Super) given b s h = tt

  call-node : (n : Node-F Node Tree) → IsFine P T n → IfThere IsCallStanding (call_at n)
  call-node (Node-F.Name name span) h = tt
  call-node (Node-F.Call name name_span None block span) h = tt
  call-node (Node-F.Call name name_span (Some arguments) block span) h = h.1
  call-node (Node-F.Post receiver suffixes span) h = suffix-call (without_last (record { operand = receiver; suffixes = suffixes })) (last_suffix suffixes)
  call-node (Node-F.Command callee arguments block span) h = command-call (callee_of callee) arguments block span h.1
  call-node _ h = tt

  given-parts : (r : Option Receiver) (b : Option (Block Tree)) (kind : Option Attribute) (given : List (Argument Tree)) → AreAt r given →
      AreGivenPlaced (if is_missing r && is_missing b then option_map (with_arguments given) kind else None)
  given-parts None None (Some kind) given h = h
  given-parts None None None given h = tt
  given-parts None (Some b) kind given h = tt
  given-parts (Some r) b kind given h = tt

  given-call : (c : Option Call) → IfThere IsCallStanding c → AreGivenPlaced (attribute_call c)
  given-call None h = tt
  given-call (Some c) h = given-parts c.receiver c.block (attribute_named c.name) c.arguments h

  given-placed : (t : Tree) → T t → AreGivenPlaced (attribute_of t)
  unfolding attribute_of call_of
  given-placed t h = given-call (call_at (out-Node t.node)) (call-node (out-Node t.node) (opens t h))

  missing-placed : (t : Tree) → T t → All (missing t)
  missing-placed t h = by-placed t (attribute_of t) h (given-placed t h)

  missing-kept : (more errors : List Diag) → All more → All errors → All (with_missing needed more errors)
  missing-kept more errors h all = by_test needed
    where
      by_test : (b : Bool) → All (if b then errors ++ more else errors)
      by_test true = append-kept errors more all h
      by_test false = all

  followed-kept : (sig : Option Tree) (t : Tree) (errors : List Diag) → T t → IfThere IsSigPlaced sig → All errors → All (with_followed needed sig t errors)
  followed-kept None t errors k h all = missing-kept (missing t) errors (missing-placed t k) all
  followed-kept (Some sig) t errors k h all = by_test (fits sig t)
    where
      by_test : (b : Bool) → All (if b then errors else errors ++ malformed sig ∷ [])
      by_test true = all
      by_test false = one-more errors sig all h

  last-kept : (sig : Option Tree) (errors : List Diag) → IfThere IsSigPlaced sig → All errors → All (with_last sig errors)
  last-kept None errors h all = all
  last-kept (Some sig) errors h all = one-more errors sig all h

  -- ---- trees

  -- errors that have the fact have it with what a tree adds, as a statement and as a body
  abbrev Keeps : Tree → Type 0
  Keeps t = ((errors : List Diag) → All errors → All (statement_of needed t errors)) × ((errors : List Diag) → All errors → All (body_of needed t errors))

  abbrev TreeKeeps : Tree → Type 0
  TreeKeeps t = T t → Keeps t

  abbrev NodeKeeps : Node → Type 0
  NodeKeeps n = TreeKeeps (record { node = n })

  abbrev KeptNode : Type 0
  KeptNode = (n : Node) × NodeKeeps n

  abbrev KeptTree : Type 0
  KeptTree = (t : Tree) × TreeKeeps t

  abbrev plain : Node-F KeptNode KeptTree → Node-F Node Tree
  plain y = map-Node KeptNode KeptTree Node Tree (λ e. e.0) (λ e. e.0) y

  statement-node : (y : Node-F KeptNode KeptTree) (errors : List Diag) → IsFine P T (plain y) → All errors →
      All (statement_at needed (λ x. x) (statement_of needed) (body_of needed) (plain y) errors)
  statement-node (Node-F.Class path superclass body span) errors h all = (body.1 h).1 errors all
  statement-node (Node-F.Module path body span) errors h all = (body.1 h).1 errors all
  statement-node _ errors h all = all

  statements-kept : (sig : Option Tree) (ss : List KeptTree) (errors : List Diag) → IfThere IsSigPlaced sig → Each T (map (λ e. e.0) ss) → All errors →
      All (inner_statements needed (λ x. x) (statement_of needed) (body_of needed) sig (map (λ e. e.0) ss) errors)
  statements-kept sig [] errors g h all = last-kept sig errors g all
  statements-kept sig (s ∷ ss) errors g h all =
      statements-kept (sig_if s.0) ss (statement_of needed s.0 (with_followed needed sig s.0 errors)) (sig-kept s.0 h.0) h.1
      ((s.1 h.0).0 (with_followed needed sig s.0 errors) (followed-kept sig s.0 errors h.0 g all))

  body-node : (y : Node-F KeptNode KeptTree) (errors : List Diag) → IsFine P T (plain y) → All errors →
      All (body_at needed (λ x. x) (statement_of needed) (body_of needed) (plain y) errors)
  body-node (Node-F.Body ss span) errors h all = statements-kept None ss errors tt h all
  body-node _ errors h all = all

  statement-opened : (r : Node-F Node Tree) (errors : List Diag) →
      statement_of needed (record { node = roll-Node r }) errors ≡ statement_at needed (λ x. x) (statement_of needed) (body_of needed) r errors
  unfolding statement_by_node
  statement-opened r errors = statement_is needed (record { node = roll-Node r }) errors ∙ ap (λ n. statement_at needed (λ x. x) (statement_of needed) (body_of needed) n errors) (out-roll-Node r)

  body-opened : (r : Node-F Node Tree) (errors : List Diag) →
      body_of needed (record { node = roll-Node r }) errors ≡ body_at needed (λ x. x) (statement_of needed) (body_of needed) r errors
  unfolding body_by_node
  body-opened r errors = body_is needed (record { node = roll-Node r }) errors ∙ ap (λ n. body_at needed (λ x. x) (statement_of needed) (body_of needed) n errors) (out-roll-Node r)

  node-keeps : (y : Node-F KeptNode KeptTree) → NodeKeeps (roll-Node (plain y))
  node-keeps y s =
      let h = subst (IsFine P T) (out-roll-Node (plain y)) (opens (record { node = roll-Node (plain y) }) s) in (
        (λ errors all. subst All (sym (statement-opened (plain y) errors)) (statement-node y errors h all)),
        (λ errors all. subst All (sym (body-opened (plain y) errors)) (body-node y errors h all)),
      )

  keeps : (t : Tree) → TreeKeeps t
  keeps = ind-Tree NodeKeeps TreeKeeps (λ x y is. subst (λ z. NodeKeeps (roll-Node z)) is (node-keeps y)) (λ x y is. subst NodeKeeps (ap (λ z. z.node) is) y.node.1)

  -- ---- programs

  program-kept : (ss : List Tree) (errors : List Diag) → Each T ss → All errors → All (program_statements needed ss errors)
  program-kept [] errors h all = all
  program-kept (s ∷ ss) errors h all =
      program-kept ss (statement_of needed s (with_missing needed (missing_method s) errors)) h.1
      ((keeps s h.0).0 (with_missing needed (missing_method s) errors) (missing-kept (missing_method s) errors (method-placed s h.0) all))

  program-node : (n : Node-F Node Tree) → IsFine P T n → All (program_at needed n)
  program-node (Node-F.Body ss span) h = program-kept ss [] h tt
  program-node _ h = tt

  -- each error of the tree's signatures has the fact
  pub signatures-kept : (t : Tree) → T t → All (signature_errors needed t)
  unfolding signature_errors
  signatures-kept t h = program-node (out-Node t.node) (opens t h)
