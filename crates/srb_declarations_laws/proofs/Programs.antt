-- The declarations of a program stand at its tokens, by induction over derivations: what a statement adds is told by its node.
use Rattle.std.proofs.Common.{◌≡◌, ℕ, Bool, List, [], ◌∷◌, ◌++◌, Option, Some, None, sym, ap, subst, ◌∙◌}
use Rattle.srb_terms.specs.declared.fact.Kind.TheVariants as kind
use Rattle.srb_terms.specs.declared.span.Span.{Span}
use Rattle.rb_tree.specs.Trees.{span_of, span_at, span_of_node}
use Rattle.rb_tree.specs.declared.token.Token.{Token}
use Rattle.rb_tree.specs.declared.syntax.Argument.{Argument}
use Rattle.rb_tree.specs.declared.syntax.Piece.TheVariants as piece
use Rattle.rb_tree.specs.declared.syntax.PlacedName.{PlacedName}
use Rattle.rb_tree.specs.declared.syntax.Reference.{Reference}
use Rattle.rb_tree.specs.declared.syntax.Suffix.{Suffix}
use Rattle.rb_tree.specs.declared.syntax.Suffix.TheVariants as suffix
use Rattle.rb_tree.specs.declared.syntax.Tree.{Tree}
use Rattle.rb_tree.specs.declared.syntax.Unary.TheVariants as unary_word
use Rattle.rb_tree.specs.declared.syntax.Binary.TheVariants as binary_word
use Rattle.rb_tree.specs.declared.syntax.Node.{Node, out-Node}
use Rattle.rb_tree.specs.declared.syntax.Node.TheOpen.{Node-F}
use Rattle.rb_tree.specs.declared.syntax.Node.TheViews.{roll-Node, out-roll-Node}
use Rattle.rb_tree.specs.declared.syntax.Node.TheVariants.{rolls-Body, rolls-Modified, rolls-Jump, rolls-Assign, rolls-OperatorAssign, rolls-Command, rolls-Conditional, rolls-Binary, rolls-Unary, rolls-Post, rolls-Whole, rolls-Float, rolls-Text, rolls-Symbol, rolls-InstanceVariable, rolls-Constant, rolls-TopConstant, rolls-SelfWord, rolls-Nil, rolls-True, rolls-False, rolls-Name, rolls-Call, rolls-Yield, rolls-Super, rolls-Array, rolls-Hash, rolls-Parens, rolls-If, rolls-While, rolls-Case, rolls-Begin, rolls-Class, rolls-Module, rolls-Def}
use Rattle.rb_rules.specs.Spans.{across, last_of, suffix_span, block_or}
use Rattle.rb_rules.specs.Forms.{Site}
use Rattle.rb_rules.specs.Grammar.{posted, body_of as body_tree, front_span, span_of_arguments, Path as DerivesPath, DerivesBody, DerivesMore, DerivesStatement, DerivesModified, DerivesSimple, DerivesValue, DerivesArguments, DerivesArgument, DerivesTerm, DerivesLevel, DerivesPrefixed, DerivesOperand, DerivesBrackets, DerivesPrimary, DerivesDeclaration, DerivesMethod}
use Rattle.rb_rules.specs.Grammar.Path.{LastName, MoreNames}
use Rattle.rb_rules.specs.Grammar.DerivesBody.{NoStatement, Statements}
use Rattle.rb_rules.specs.Grammar.DerivesMore.{NoMore, Another}
use Rattle.rb_rules.specs.Grammar.DerivesStatement.{Declared, Simply}
use Rattle.rb_rules.specs.Grammar.DerivesModified.{Unmodified, Modified}
use Rattle.rb_rules.specs.Grammar.DerivesSimple.{Valued, Jumps, JumpsWith}
use Rattle.rb_rules.specs.Grammar.DerivesValue.{Term, Assigns, Computes, Command}
use Rattle.rb_rules.specs.Grammar.DerivesArguments.{LastArgument, MoreArguments}
use Rattle.rb_rules.specs.Grammar.DerivesArgument.{ByPlace, ByName, AsBlock}
use Rattle.rb_rules.specs.Grammar.DerivesTerm.{Operated, Conditional}
use Rattle.rb_rules.specs.Grammar.DerivesLevel.{Tighter, FromLeft, Once, Negated, Raised, Plainly}
use Rattle.rb_rules.specs.Grammar.DerivesPrefixed.{Prefixed, Posted}
use Rattle.rb_rules.specs.Grammar.DerivesOperand.{Bare, Suffixed}
use Rattle.rb_rules.specs.Grammar.DerivesBrackets.{NoBrackets, EmptyBrackets, Brackets}
use Rattle.rb_rules.specs.Grammar.DerivesPrimary.{WholeNumber, FloatNumber, SignedWhole, SignedFloat, String, SymbolName, InstanceName, ConstantName, FromTop, SelfPlace, NilPlace, TruePlace, FalsePlace, NameAlone, CallWithBrackets, CallWithBlock, Yields, Supers, EmptyArray, SomeArray, EmptyHash, SomeHash, InParens, Branches, Loops, Guards, Cases}
use Rattle.rb_rules.specs.Grammar.DerivesDeclaration.{ClassOf, ModuleOf, Method, VisibleMethod}
use Rattle.rb_rules.specs.Grammar.DerivesMethod.{Def}
use Rattle.rb_views.specs.Calls.{Call, call_of, call_at}
use Rattle.rb_views.specs.Paths.{Path, path_of, path_of_prefix, path_at, up_to_constants}
use Rattle.rb_views.specs.Places.{names_span, up_to_name}
use Rattle.rb_views.specs.Prefixes.{prefix_of, whole_at, last_suffix, without_last}
use Rattle.rb_views.specs.Targets.{callee_of}
use Rattle.rb_grammar.specs.Places.{Each, IfThere, IsPlaced, IsReferencePlaced, DoesNodeStand, StandsAt}
use Rattle.rb_grammar.proofs.Nodes.{opened}
use Rattle.rb_grammar.proofs.Steps.{Within, within-token as push, within-more as go}
use Rattle.rb_grammar.proofs.Standing as st
use Rattle.rb_grammar.proofs.Placed.{each-end, stay, past, Ends, Begins, begins-at, begins-from, begins-across, Suffixed as SuffixEnded, ended, placed}
use Rattle.srb_declarations.specs.declared.declaration.Declaration.{Declaration}
use Rattle.srb_declarations.specs.Declarations.{declared_name, with_body, with_superclass, with_constant_at, with_constant, with_call, mixed, statement_at, body_at, inner_statements, statement_of, body_of, statement_by_node, body_by_node, program_statements, program_at, declarations_of}
use Rattle.srb_declarations.proofs.Equations.{statement_is, body_is}
use Rattle.srb_declarations_laws.proofs.Mixins as calls
use Rattle.srb_declarations_laws.proofs.Mixins.{IsArgumentAt, IsCallAt}
use Rattle.srb_declarations_laws.specs.Placed.{IsInOrder, ProgramsDeclareAtTokens}

module _ (tokens : List Token) where
  abbrev All : List Declaration → Type 0
  All = Each (IsInOrder tokens)

  abbrev one-more : (ds : List Declaration) (d : Declaration) → All ds → IsInOrder tokens d → All (ds ++ d ∷ [])
  one-more ds d all h = each-end (IsInOrder tokens) ds d all h

  abbrev IsPathPlaced : Path → Type 0
  IsPathPlaced p = IsPlaced tokens p.span

  abbrev Adding : (List (List ℕ) → List Declaration → List Declaration) → Type 0
  Adding f = (scope : List (List ℕ)) (ds : List Declaration) → All ds → All (f scope ds)

  -- what a tree adds stands at the tokens, and so does the path with which it begins
  record Fine (t : Tree) : Type 0 where
    stated : Adding (statement_of t)
    mixes : (name : List ℕ) → Adding (mixed name t)
    path : IfThere IsPathPlaced (path_of t)

  -- so does what it adds as a body and as a program
  record Enclosed (t : Tree) : Type 0 where
    inner : (name : List ℕ) → Adding (body_of t name)
    program : All (declarations_of t)

  -- ---- arguments

  abbrev IsArgumentFine : Argument Tree → Type 0
  IsArgumentFine = IsArgumentAt (IsPlaced tokens) (IsPlaced tokens)

  abbrev Arguments : List (Argument Tree) → Type 0
  Arguments = Each IsArgumentFine

  abbrev IsCallFine : Call → Type 0
  IsCallFine = IsCallAt (IsPlaced tokens) (IsPlaced tokens)

  call-kept : (name : List ℕ) (c : Option Call) → IfThere IsCallFine c → Adding (with_call name c)
  call-kept = calls.call-kept (IsInOrder tokens) (IsPlaced tokens) (IsPlaced tokens) (λ name scope path way span h. h) (λ span h. h)

  -- ---- a tree by its node

  -- what is wanted of the parts of a node
  abbrev IsNodeFine : Node-F Node Tree → Type 0
  IsNodeFine (Node-F.Modified statement modifier condition span) = Adding (statement_of statement)
  IsNodeFine (Node-F.Assign target value span) = StandsAt tokens target
  IsNodeFine (Node-F.Class path superclass body span) =
      IsPlaced tokens (names_span path) × IfThere (IsReferencePlaced tokens) superclass × ((name : List ℕ) → Adding (body_of body name))
  IsNodeFine (Node-F.Module path body span) = IsPlaced tokens (names_span path) × ((name : List ℕ) → Adding (body_of body name))
  IsNodeFine (Node-F.Command callee arguments block span) = Arguments arguments
  IsNodeFine (Node-F.Call name name_span arguments block span) = IfThere Arguments arguments
  IsNodeFine _ = Unit {0}

  -- what is wanted of the path with which it begins
  abbrev IsStartFine : Node-F Node Tree → Type 0
  IsStartFine (Node-F.Constant name span) = IsPlaced tokens span
  IsStartFine (Node-F.TopConstant name name_span span) = IsPlaced tokens span
  IsStartFine (Node-F.Post receiver suffixes span) = IfThere IsPathPlaced (path_of_prefix (record { operand = receiver; suffixes = suffixes }))
  IsStartFine _ = Unit {0}

  superclass-kept : (name : List ℕ) (r : Option Reference) → IfThere (IsReferencePlaced tokens) r → Adding (with_superclass name r)
  superclass-kept name None h scope ds all = all
  superclass-kept name (Some r) h scope ds all = one-more ds _ all h.0

  constant-node : (n : Node-F Node Tree) → DoesNodeStand tokens (StandsAt tokens) n → Adding (with_constant_at n)
  constant-node (Node-F.Constant name span) h scope ds all = one-more ds _ all h
  constant-node _ h scope ds all = all

  constant-kept : (t : Tree) → StandsAt tokens t → Adding (with_constant t)
  unfolding with_constant
  constant-kept t h scope ds all = constant-node (out-Node t.node) (opened tokens t h) scope ds all

  statement-node : (r : Node-F Node Tree) → IsNodeFine r → Adding (statement_at (λ x. x) statement_of body_of r)
  statement-node (Node-F.Modified statement modifier condition span) h scope ds all = h scope ds all
  statement-node (Node-F.Assign target value span) h scope ds all = constant-kept target h scope ds all
  statement-node (Node-F.Class path superclass body span) h scope ds all =
      let name = declared_name scope path in
      h.2 name (name ∷ scope) (with_superclass name superclass scope (with_body name kind.Class path ds)) (superclass-kept name superclass h.1 scope (with_body name kind.Class path ds) (one-more ds _ all h.0))
  statement-node (Node-F.Module path body span) h scope ds all = let name = declared_name scope path in h.1 name (name ∷ scope) (with_body name kind.Module path ds) (one-more ds _ all h.0)
  statement-node _ h scope ds all = all

  call-node : (r : Node-F Node Tree) → IsNodeFine r → IfThere IsCallFine (call_at r)
  call-node (Node-F.Name name span) h = tt
  call-node (Node-F.Call name name_span None block span) h = tt
  call-node (Node-F.Call name name_span (Some arguments) block span) h = h
  call-node (Node-F.Post receiver suffixes span) h = calls.suffix-call (IsPlaced tokens) (IsPlaced tokens) (without_last (record { operand = receiver; suffixes = suffixes })) (last_suffix suffixes)
  call-node (Node-F.Command callee arguments block span) h = calls.command-call (IsPlaced tokens) (IsPlaced tokens) (callee_of callee) arguments block span h
  call-node _ h = tt

  start-node : (t : Tree) (r : Node-F Node Tree) → out-Node t.node ≡ r → IsStartFine r → IfThere IsPathPlaced (path_of_prefix (whole_at t r))
  unfolding path_of_prefix
  start-node t (Node-F.Post receiver suffixes span) e h = h
  start-node t (Node-F.Constant name span) e h = subst (λ n. IfThere IsPathPlaced (path_at n [])) (sym e) h
  start-node t (Node-F.TopConstant name name_span span) e h = subst (λ n. IfThere IsPathPlaced (path_at n [])) (sym e) h
  start-node t r e h = subst (λ n. IfThere IsPathPlaced (path_at n [])) (sym e) tt

  statement-opened : (t : Tree) (r : Node-F Node Tree) → out-Node t.node ≡ r → (scope : List (List ℕ)) (ds : List Declaration) → statement_of t scope ds ≡ statement_at (λ x. x) statement_of body_of r scope ds
  unfolding statement_by_node
  statement-opened t r e scope ds = statement_is t scope ds ∙ ap (λ n. statement_at (λ x. x) statement_of body_of n scope ds) e

  call-opened : (t : Tree) (r : Node-F Node Tree) → out-Node t.node ≡ r → IsNodeFine r → IfThere IsCallFine (call_of t)
  unfolding call_of
  call-opened t r e h = subst (λ n. IfThere IsCallFine (call_at n)) (sym e) (call-node r h)

  start-opened : (t : Tree) (r : Node-F Node Tree) → out-Node t.node ≡ r → IsStartFine r → IfThere IsPathPlaced (path_of t)
  unfolding path_of prefix_of
  start-opened t r e h = subst (λ n. IfThere IsPathPlaced (path_of_prefix (whole_at t n))) (sym e) (start-node t r e h)

  made : (t : Tree) (r : Node-F Node Tree) → roll-Node r ≡ t.node → IsNodeFine r → IsStartFine r → Fine t
  made t r e h k =
      let o = ap out-Node (sym e) ∙ out-roll-Node r in
      record {
        stated = λ scope ds all. subst All (sym (statement-opened t r o scope ds)) (statement-node r h scope ds all);
        mixes = λ name scope ds all. call-kept name (call_of t) (call-opened t r o h) scope ds all;
        path = start-opened t r o k;
      }

  -- ---- bodies

  statements-kept : (name : List ℕ) (ss : List Tree) → Each Fine ss → Adding (inner_statements (λ x. x) statement_of body_of name ss)
  statements-kept name [] h scope ds all = all
  statements-kept name (s ∷ ss) h scope ds all =
      statements-kept name ss h.1 scope (statement_of s scope (mixed name s scope ds)) (h.0.stated scope (mixed name s scope ds) (h.0.mixes name scope ds all))

  program-kept : (ss : List Tree) (ds : List Declaration) → Each Fine ss → All ds → All (program_statements ss ds)
  program-kept [] ds h all = all
  program-kept (s ∷ ss) ds h all = program-kept ss (statement_of s [] ds) h.1 (h.0.stated [] ds all)

  body-opened : (t : Tree) (r : Node-F Node Tree) → out-Node t.node ≡ r → (name : List ℕ) (scope : List (List ℕ)) (ds : List Declaration) → body_of t name scope ds ≡ body_at (λ x. x) statement_of body_of r name scope ds
  unfolding body_by_node
  body-opened t r e name scope ds = body_is t name scope ds ∙ ap (λ n. body_at (λ x. x) statement_of body_of n name scope ds) e

  program-opened : (t : Tree) (r : Node-F Node Tree) → out-Node t.node ≡ r → All (program_at r) → All (declarations_of t)
  unfolding declarations_of
  program-opened t r e h = subst (λ n. All (program_at n)) (sym e) h

  body-made : (t : Tree) (ss : List Tree) (span : Span) → roll-Node (Node-F.Body ss span) ≡ t.node → Each Fine ss → Enclosed t
  body-made t ss span e h =
      let o = ap out-Node (sym e) ∙ out-roll-Node (Node-F.Body ss span) in
      record {
        inner = λ name scope ds all. subst All (sym (body-opened t (Node-F.Body ss span) o name scope ds)) (statements-kept name ss h scope ds all);
        program = program-opened t (Node-F.Body ss span) o (program-kept ss [] h tt);
      }

  enclosed : (ss : List Tree) → Each Fine ss → Enclosed (body_tree ss)
  enclosed [] h = body-made (body_tree []) [] (record { start = 0; end = 0 }) (rolls-Body _ _) h
  enclosed (s ∷ ss) h = body-made (body_tree (s ∷ ss)) (s ∷ ss) (across (span_of s) (span_of (last_of s ss))) (rolls-Body _ _) h

  -- ---- places from one part to another

  up-to-name : (xs : List Token) (s : Span) (names : List PlacedName) → Begins xs s → Each (λ n. Ends xs n.span.end × IsPlaced tokens n.span) names → Begins xs (up_to_name s names)
  up-to-name xs s [] h all = h
  up-to-name xs s (n ∷ names) h all = up-to-name xs (across s n.span) names (begins-across xs s n.span h all.0.0) all.1

  names-placed : {long : Bool} {names : List PlacedName} {xs ys : List Token} → DerivesPath long names xs ys → Within tokens xs → IsPlaced tokens (names_span names)
  names-placed (LastName long t w xs c) i = placed tokens i (begins-at t xs)
  names-placed (MoreNames t c w more xs ys a b d) i = let p = st.path-of tokens (MoreNames t c w more xs ys a b d) i in
      placed tokens i (up-to-name (t ∷ c ∷ xs) t.span more p.1 p.2.1)

  up-to-constants : (xs : List Token) (s : Span) (ss : List (Suffix Tree)) → Begins xs s → Each (SuffixEnded tokens xs) ss → Begins xs (up_to_constants s ss)
  up-to-constants xs s [] h all = h
  up-to-constants xs s (suffix.Constant name name_span span ∷ rest) h all = up-to-constants xs (across s span) rest (begins-across xs s span h all.0.0) all.1
  up-to-constants xs s (suffix.Call dot name name_span arguments block span ∷ rest) h all = h
  up-to-constants xs s (suffix.Index arguments span ∷ rest) h all = h

  path-node : (xs : List Token) (n : Node-F Node Tree) (ss : List (Suffix Tree)) → Within tokens xs → Begins xs (span_at n) → Each (SuffixEnded tokens xs) ss → IfThere IsPathPlaced (path_at n ss)
  path-node xs (Node-F.Constant name span) ss i h all = placed tokens i (up-to-constants xs span ss h all)
  path-node xs (Node-F.TopConstant name name_span span) ss i h all = placed tokens i (up-to-constants xs span ss h all)
  path-node xs _ ss i h all = tt

  prefix-path : (xs : List Token) (p : Tree) (ss : List (Suffix Tree)) → Within tokens xs → Begins xs (span_of p) → Each (SuffixEnded tokens xs) ss → IfThere IsPathPlaced (path_of_prefix (record { operand = p; suffixes = ss }))
  unfolding path_of_prefix span_of span_of_node
  prefix-path xs p ss i h all = path-node xs (out-Node p.node) ss i h all

  posted-fine : (xs : List Token) (p : Tree) (ss : List (Suffix Tree)) → Within tokens xs → Begins xs (span_of p) → Each (SuffixEnded tokens xs) ss → Fine p → Fine (posted p ss)
  posted-fine xs p [] i h all k = k
  posted-fine xs p (s ∷ ss) i h all k = made _ (Node-F.Post p (s ∷ ss) (across (span_of p) (suffix_span (last_of s ss)))) (rolls-Post _ _ _) tt (prefix-path xs p (s ∷ ss) i h all)

  -- ---- the forms

  abbrev In : List Token → Type 0
  In = Within tokens

  mutual
    body : {at : Site} {free : Bool} {t : Tree} {xs ys : List Token} → DerivesBody at free t xs ys → In xs → Enclosed t
    body (NoStatement _ _ _ _ g) i = enclosed [] tt
    body (Statements _ _ s ss _ _ _ _ _ g d more h) i = let j = go i (st.gap g) in enclosed (s ∷ ss) (statement d j, others more (go j (st.statement tokens d j).0))

    others : {at : Site} {free : Bool} {ss : List Tree} {xs ys : List Token} → DerivesMore at free ss xs ys → In xs → Each Fine ss
    others (NoMore _ _ _) i = tt
    others (Another _ _ t s ss _ _ _ _ _ g d more) i = let j = go (past t i) (st.gap g) in (statement d j, others more (go j (st.statement tokens d j).0))

    statement : {at : Site} {free : Bool} {t : Tree} {xs ys : List Token} → DerivesStatement at free t xs ys → In xs → Fine t
    statement (Declared _ _ _ _ _ _ d) i = declaration d i
    statement (Simply _ _ _ _ _ _ _ d m) i = modified m (simple d i)

    modified : {free : Bool} {s t : Tree} {xs ys : List Token} → DerivesModified free s t xs ys → Fine s → Fine t
    modified (Unmodified _ _ _) h = h
    modified (Modified _ m word s c _ _ _ _ _ _ d k) h = modified k (made _ (Node-F.Modified s word c (across (span_of s) (span_of c))) (rolls-Modified _ _ _ _) h.stated tt)

    simple : {constants free : Bool} {t : Tree} {xs ys : List Token} → DerivesSimple constants free t xs ys → In xs → Fine t
    simple (Valued _ _ _ _ _ d) i = value d i
    simple (Jumps _ _ j word xs _) i = made _ (Node-F.Jump word None j.span) (rolls-Jump _ _ _) tt tt
    simple (JumpsWith _ _ j word v xs _ _ _ d) i = made _ (Node-F.Jump word (Some v) (across j.span (span_of v))) (rolls-Jump _ _ _) tt tt

    value : {constants free : Bool} {t : Tree} {xs ys : List Token} → DerivesValue constants free t xs ys → In xs → Fine t
    value (Term _ _ _ _ _ d) i = term d i
    value (Assigns _ _ e x v _ _ _ d _ k) i = made _ (Node-F.Assign x v (across (span_of x) (span_of v))) (rolls-Assign _ _ _) (st.target tokens d i).1.1 tt
    value (Computes _ _ o operator x v _ _ _ d _ k) i = made _ (Node-F.OperatorAssign x operator o.span v (across (span_of x) (span_of v))) (rolls-OperatorAssign _ _ _ _ _) tt tt
    value (Command _ _ x given b _ _ _ _ d _ e _ k _) i =
        made _ (Node-F.Command x given b (across (span_of x) (block_or (span_of_arguments (span_of x) given) b))) (rolls-Command _ _ _ _) (arguments e (go i (st.callee tokens d i).0)) tt

    arguments : {bracketed free : Bool} {given : List (Argument Tree)} {xs ys : List Token} → DerivesArguments bracketed free given xs ys → In xs → Arguments given
    arguments (LastArgument _ _ _ _ _ d) i = (given-argument d i, tt)
    arguments (MoreArguments _ _ c _ more _ _ _ _ d _ g m) i = (given-argument d i, arguments m (go i (go (past c (st.argument tokens d i).0) (st.gap-in g))))

    given-argument : {free : Bool} {a : Argument Tree} {xs ys : List Token} → DerivesArgument free a xs ys → In xs → IsArgumentFine a
    given-argument (ByPlace _ t _ _ d) i = (placed tokens i (st.term tokens d i).1.0, (term d i).path)
    given-argument (ByName _ l _ t xs _ _ d) i = placed tokens i (begins-across (l ∷ xs) l.span (span_of t) (begins-at l xs) (ended tokens t (push l stay) (st.term tokens d (past l i)).1).0)
    given-argument (AsBlock _ l t xs _ _ d) i = placed tokens i (begins-across (l ∷ xs) l.span (span_of t) (begins-at l xs) (ended tokens t (push l stay) (st.term tokens d (past l i)).1).0)

    term : {free : Bool} {t : Tree} {xs ys : List Token} → DerivesTerm free t xs ys → In xs → Fine t
    term (Operated _ _ _ _ d) i = level d i
    term (Conditional _ q k c a b _ _ _ _ d _ e _ f) i = made _ (Node-F.Conditional c a b (across (span_of c) (span_of b))) (rolls-Conditional _ _ _ _) tt tt

    level : {n : ℕ} {free : Bool} {t : Tree} {xs ys : List Token} → DerivesLevel n free t xs ys → In xs → Fine t
    level (Tighter _ _ _ _ _ _ d) i = level d i
    level (FromLeft _ _ o operator a b _ _ _ _ d _ e) i = made _ (Node-F.Binary operator o.span a b (across (span_of a) (span_of b))) (rolls-Binary _ _ _ _ _) tt tt
    level (Once _ o operator a b _ _ _ d _ e) i = made _ (Node-F.Binary operator o.span a b (across (span_of a) (span_of b))) (rolls-Binary _ _ _ _ _) tt tt
    level (Negated _ m a xs _ _ _ d) i = made _ (Node-F.Unary unary_word.Minus a (across m.span (span_of a))) (rolls-Unary _ _ _) tt tt
    level (Raised _ o a b _ _ _ d _ e) i = made _ (Node-F.Binary binary_word.Power o.span a b (across (span_of a) (span_of b))) (rolls-Binary _ _ _ _ _) tt tt
    level (Plainly _ _ _ _ d) i = prefixed d i

    prefixed : {free : Bool} {t : Tree} {xs ys : List Token} → DerivesPrefixed free t xs ys → In xs → Fine t
    prefixed (Prefixed _ m operator a xs _ _ _ d) i = made _ (Node-F.Unary operator a (across m.span (span_of a))) (rolls-Unary _ _ _) tt tt
    prefixed (Posted _ _ p ss xs _ d) i = let a = st.operand tokens d i in posted-fine xs p ss i a.1.0 a.2 (operand d i)

    operand : {free : Bool} {p : Tree} {ss : List (Suffix Tree)} {last : Token} {xs ys : List Token} → DerivesOperand free p ss last xs ys → In xs → Fine p
    operand (Bare _ _ _ _ _ d) i = primary d i
    operand (Suffixed _ _ _ _ ss s xs _ _ d e) i = operand d i

    brackets : {given : Option (List (Argument Tree))} {before last : Token} {xs ys : List Token} → DerivesBrackets given before last xs ys → In xs → IfThere Arguments given
    brackets (NoBrackets _ _) i = tt
    brackets (EmptyBrackets _ o c _ _ _ g _) i = tt
    brackets (Brackets _ o c given _ ps _ _ _ g d _ k _) i = arguments d (go (past o i) (st.gap g))

    primary : {free : Bool} {p : Tree} {last : Token} {xs ys : List Token} → DerivesPrimary free p last xs ys → In xs → Fine p
    primary (WholeNumber _ t w xs _) i = made _ (Node-F.Whole None w t.span) (rolls-Whole _ _ _) tt tt
    primary (FloatNumber _ t w xs _) i = made _ (Node-F.Float None w t.span) (rolls-Float _ _ _) tt tt
    primary (SignedWhole _ s t how w xs _ _ _ _) i = made _ (Node-F.Whole (Some how) w (across s.span t.span)) (rolls-Whole _ _ _) tt tt
    primary (SignedFloat _ s t how w xs _ _ _ _) i = made _ (Node-F.Float (Some how) w (across s.span t.span)) (rolls-Float _ _ _) tt tt
    primary (String _ t last w ps xs _ _ d) i = made _ (Node-F.Text (piece.Words w t.span ∷ ps) (across t.span last.span)) (rolls-Text _ _) tt tt
    primary (SymbolName _ t w xs _) i = made _ (Node-F.Symbol w t.span) (rolls-Symbol _ _) tt tt
    primary (InstanceName _ t w xs _) i = made _ (Node-F.InstanceVariable w t.span) (rolls-InstanceVariable _ _) tt tt
    primary (ConstantName _ t w xs _) i = made _ (Node-F.Constant w t.span) (rolls-Constant _ _) tt (placed tokens i (begins-at t xs))
    primary (FromTop _ c t w xs a b) i = made _ (Node-F.TopConstant w t.span (across c.span t.span)) (rolls-TopConstant _ _ _) tt (placed tokens i (begins-from c t (stay {xs = t ∷ xs})))
    primary (SelfPlace _ t xs _) i = made _ (Node-F.SelfWord t.span) (rolls-SelfWord _) tt tt
    primary (NilPlace _ t xs _) i = made _ (Node-F.Nil t.span) (rolls-Nil _) tt tt
    primary (TruePlace _ t xs _) i = made _ (Node-F.True t.span) (rolls-True _) tt tt
    primary (FalsePlace _ t xs _) i = made _ (Node-F.False t.span) (rolls-False _) tt tt
    primary (NameAlone _ t w xs _) i = made _ (Node-F.Name w t.span) (rolls-Name _ _) tt tt
    primary (CallWithBrackets _ t _ last w given b xs _ _ _ d e _) i = made _ (Node-F.Call w t.span (Some given) b (across t.span last.span)) (rolls-Call _ _ _ _ _) (brackets d (past t i)) tt
    primary (CallWithBlock _ t last w b xs _ _ d) i = made _ (Node-F.Call w t.span None (Some b) (across t.span last.span)) (rolls-Call _ _ _ _ _) tt tt
    primary (Yields _ t last given xs _ _ d) i = made _ (Node-F.Yield given (across t.span last.span)) (rolls-Yield _ _) tt tt
    primary (Supers _ t last given xs _ _ d) i = made _ (Node-F.Super given (across t.span last.span)) (rolls-Super _ _) tt tt
    primary (EmptyArray _ o c _ _ _ g _) i = made _ (Node-F.Array [] (across o.span c.span)) (rolls-Array _ _) tt tt
    primary (SomeArray _ o c es _ _ _ _ _ g d e _) i = made _ (Node-F.Array es (across o.span c.span)) (rolls-Array _ _) tt tt
    primary (EmptyHash _ o c _ _ _ g _) i = made _ (Node-F.Hash [] (across o.span c.span)) (rolls-Hash _ _) tt tt
    primary (SomeHash _ o c ps _ _ _ _ _ g d e _) i = made _ (Node-F.Hash ps (across o.span c.span)) (rolls-Hash _ _) tt tt
    primary (InParens _ o c b _ _ _ d _) i = made _ (Node-F.Parens b (across o.span c.span)) (rolls-Parens _ _) tt tt
    primary (Branches _ k e word c b arms z _ _ _ _ _ _ _ dc th db da _ dz _) i = made _ (Node-F.If word c b arms z (across k.span e.span)) (rolls-If _ _ _ _ _ _) tt tt
    primary (Loops _ k d e word c b _ _ _ _ dc _ db _) i = made _ (Node-F.While word c b (across k.span e.span)) (rolls-While _ _ _ _) tt tt
    primary (Guards _ k e g _ _ _ d _) i = made _ (Node-F.Begin g (across k.span e.span)) (rolls-Begin _ _) tt tt
    primary (Cases _ k e t arm arms z _ _ _ _ _ _ dt g da dz _) i = made _ (Node-F.Case t (arm ∷ arms) z (across k.span e.span)) (rolls-Case _ _ _ _) tt tt

    declaration : {at : Site} {t : Tree} {xs ys : List Token} → DerivesDeclaration at t xs ys → In xs → Fine t
    declaration (ClassOf _ k s e path r b xs _ _ _ _ dp dr _ db _) i =
        let j = past k i in let p = (st.path-of tokens dp j).0 in let q = st.superclass tokens dr (go j p) in
        made _ (Node-F.Class path r b (across k.span e.span)) (rolls-Class _ _ _ _) (names-placed dp j, q.1, (body db (go j (go p (past s q.0)))).inner) tt
    declaration (ModuleOf _ k s e path b xs _ _ _ dp _ db _) i =
        let j = past k i in
        made _ (Node-F.Module path b (across k.span e.span)) (rolls-Module _ _ _) (names-placed dp j, (body db (go j (past s (st.path-of tokens dp j).0))).inner) tt
    declaration (Method _ _ _ _ d) i = method d
    declaration (VisibleMethod _ v _ _ _ _ _ _ _ d) i = method d

    method : {visible : _} {front : Option Token} {t : Tree} {xs ys : List Token} → DerivesMethod visible front t xs ys → Fine t
    method (Def visible front k e self w s ps b xs _ _ _ ys _ o n dp _ _ db _) = made _ (Node-F.Def visible self w s ps b (across (front_span k front) e.span)) (rolls-Def _ _ _ _ _ _ _) tt tt

pub programs-declare : ProgramsDeclareAtTokens
programs-declare tokens t d = (body tokens d stay).program
