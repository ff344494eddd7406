-- The references of a program stand at its tokens, by induction over derivations: what is read below a tree is told by its node.
use Rattle.std.proofs.Common.{◌≡◌, ℕ, zero, suc, ◌-◌, Bool, true, false, if◌then◌else◌, List, [], ◌∷◌, ◌++◌, length, take, Option, Some, None, sym, ap, subst, ◌∙◌}
use Rattle.srb_terms.specs.declared.span.Span.{Span}
use Rattle.rb_tree.specs.Trees.{span_of, span_at, span_of_node}
use Rattle.rb_tree.specs.declared.token.Token.{Token}
use Rattle.rb_tree.specs.declared.syntax.Argument.{Argument}
use Rattle.rb_tree.specs.declared.syntax.Arm.{Arm}
use Rattle.rb_tree.specs.declared.syntax.Block.{Block}
use Rattle.rb_tree.specs.declared.syntax.Dot.TheVariants as dot
use Rattle.rb_tree.specs.declared.syntax.Guarded.{Guarded}
use Rattle.rb_tree.specs.declared.syntax.Pair.{Pair}
use Rattle.rb_tree.specs.declared.syntax.Parameter.{Parameter}
use Rattle.rb_tree.specs.declared.syntax.Piece.{Piece}
use Rattle.rb_tree.specs.declared.syntax.Piece.TheVariants as piece
use Rattle.rb_tree.specs.declared.syntax.PlacedName.{PlacedName}
use Rattle.rb_tree.specs.declared.syntax.Reference.{Reference as Superclass}
use Rattle.rb_tree.specs.declared.syntax.Rescue.{Rescue}
use Rattle.rb_tree.specs.declared.syntax.Suffix.{Suffix}
use Rattle.rb_tree.specs.declared.syntax.Suffix.TheVariants as suffix
use Rattle.rb_tree.specs.declared.syntax.Tree.{Tree}
use Rattle.rb_tree.specs.declared.syntax.Unary.TheVariants as unary_word
use Rattle.rb_tree.specs.declared.syntax.Binary.TheVariants as binary_word
use Rattle.rb_tree.specs.declared.syntax.Visibility.{Visibility}
use Rattle.rb_tree.specs.declared.syntax.When.{When}
use Rattle.rb_tree.specs.declared.syntax.Node.{Node, out-Node}
use Rattle.rb_tree.specs.declared.syntax.Node.TheOpen.{Node-F}
use Rattle.rb_tree.specs.declared.syntax.Node.TheViews.{roll-Node, out-roll-Node}
use Rattle.rb_tree.specs.declared.syntax.Node.TheVariants.{rolls-Body, rolls-Modified, rolls-Jump, rolls-Assign, rolls-OperatorAssign, rolls-Command, rolls-Conditional, rolls-Binary, rolls-Unary, rolls-Post, rolls-Whole, rolls-Float, rolls-Text, rolls-Symbol, rolls-InstanceVariable, rolls-Constant, rolls-TopConstant, rolls-SelfWord, rolls-Nil, rolls-True, rolls-False, rolls-Name, rolls-Call, rolls-Yield, rolls-Super, rolls-Array, rolls-Hash, rolls-Parens, rolls-If, rolls-While, rolls-Case, rolls-Begin, rolls-Class, rolls-Module, rolls-Def}
use Rattle.rb_rules.specs.Spans.{across, last_of, suffix_span, block_or}
use Rattle.rb_rules.specs.Forms.{Site}
use Rattle.rb_rules.specs.Grammar.{posted, named, named_call, body_of as body_tree, front_span, span_of_arguments, Then, BarNames, Bars, Path as DerivesPath, MethodName, Owner, Parted, RescueVariable, DerivesBody, DerivesMore, DerivesStatement, DerivesModified, DerivesSimple, DerivesValue, DerivesTarget, DerivesCallee, DerivesArguments, DerivesArgument, DerivesTerm, DerivesLevel, DerivesPrefixed, DerivesOperand, DerivesSuffix, DerivesIndex, DerivesEnd, DerivesBrackets, DerivesBlockAfter, DerivesBlock, DerivesDo, DerivesPrimary, DerivesPieces, DerivesElements, DerivesPairs, DerivesPair, DerivesArms, DerivesElse, DerivesSubject, DerivesWhens, DerivesPatterns, DerivesGuarded, DerivesRescues, DerivesRaised, DerivesEnsure, DerivesDeclaration, DerivesMethod, DerivesParameters, DerivesParameterList, DerivesParameter}
use Rattle.rb_rules.specs.Grammar.Then.{Word, Line, LineWord}
use Rattle.rb_rules.specs.Grammar.BarNames.{LastBar, MoreBars}
use Rattle.rb_rules.specs.Grammar.Bars.{NoBars, SomeBars}
use Rattle.rb_rules.specs.Grammar.Path.{LastName, MoreNames}
use Rattle.rb_rules.specs.Grammar.MethodName.{Plain, Writer, Capital, Operator}
use Rattle.rb_rules.specs.Grammar.Owner.{Other, Own as OwnSelf}
use Rattle.rb_rules.specs.Grammar.DerivesBody.{NoStatement, Statements}
use Rattle.rb_rules.specs.Grammar.DerivesMore.{NoMore, Another}
use Rattle.rb_rules.specs.Grammar.DerivesStatement.{Declared, Simply}
use Rattle.rb_rules.specs.Grammar.DerivesModified.{Unmodified, Modified}
use Rattle.rb_rules.specs.Grammar.DerivesSimple.{Valued, Jumps, JumpsWith}
use Rattle.rb_rules.specs.Grammar.DerivesValue.{Term, Assigns, Computes, Command}
use Rattle.rb_rules.specs.Grammar.DerivesTarget.{Variable, Instance, Constant, Attribute, Element}
use Rattle.rb_rules.specs.Grammar.DerivesCallee.{Own, Of, YieldWord, SuperWord}
use Rattle.rb_rules.specs.Grammar.DerivesArguments.{LastArgument, MoreArguments}
use Rattle.rb_rules.specs.Grammar.DerivesArgument.{ByPlace, ByName, AsBlock}
use Rattle.rb_rules.specs.Grammar.DerivesTerm.{Operated, Conditional}
use Rattle.rb_rules.specs.Grammar.DerivesLevel.{Tighter, FromLeft, Once, Negated, Raised, Plainly}
use Rattle.rb_rules.specs.Grammar.DerivesPrefixed.{Prefixed, Posted}
use Rattle.rb_rules.specs.Grammar.DerivesOperand.{Bare, Suffixed}
use Rattle.rb_rules.specs.Grammar.DerivesSuffix.{Calls, Within as WithinName, Indexed}
use Rattle.rb_rules.specs.Grammar.DerivesIndex.{Index}
use Rattle.rb_rules.specs.Grammar.DerivesEnd.{NoComma, LastComma}
use Rattle.rb_rules.specs.Grammar.DerivesBrackets.{NoBrackets, EmptyBrackets, Brackets}
use Rattle.rb_rules.specs.Grammar.DerivesBlockAfter.{NoBlock, SomeBlock}
use Rattle.rb_rules.specs.Grammar.DerivesBlock.{Braces, DoEnd}
use Rattle.rb_rules.specs.Grammar.DerivesDo.{NoDo, SomeDo}
use Rattle.rb_rules.specs.Grammar.DerivesPrimary.{WholeNumber, FloatNumber, SignedWhole, SignedFloat, String, SymbolName, InstanceName, ConstantName, FromTop, SelfPlace, NilPlace, TruePlace, FalsePlace, NameAlone, CallWithBrackets, CallWithBlock, Yields, Supers, EmptyArray, SomeArray, EmptyHash, SomeHash, InParens, Branches, Loops, Guards, Cases}
use Rattle.rb_rules.specs.Grammar.DerivesPieces.{NoPiece, MorePieces}
use Rattle.rb_rules.specs.Grammar.DerivesElements.{LastElement, MoreElements}
use Rattle.rb_rules.specs.Grammar.DerivesPairs.{LastPair, MorePairs}
use Rattle.rb_rules.specs.Grammar.DerivesPair.{ByArrow, ByLabel}
use Rattle.rb_rules.specs.Grammar.DerivesArms.{NoArm, MoreArms}
use Rattle.rb_rules.specs.Grammar.DerivesElse.{NoElse, SomeElse}
use Rattle.rb_rules.specs.Grammar.DerivesSubject.{NoSubject, SomeSubject}
use Rattle.rb_rules.specs.Grammar.DerivesWhens.{NoWhen, MoreWhens}
use Rattle.rb_rules.specs.Grammar.DerivesPatterns.{LastPattern, MorePatterns}
use Rattle.rb_rules.specs.Grammar.Parted.{AfterNothing, AfterSeparator}
use Rattle.rb_rules.specs.Grammar.RescueVariable.{NoVariable, Bound}
use Rattle.rb_rules.specs.Grammar.DerivesGuarded.{Unrescued, Rescued}
use Rattle.rb_rules.specs.Grammar.DerivesRescues.{NoRescue, MoreRescues}
use Rattle.rb_rules.specs.Grammar.DerivesRaised.{AnyError, SomeErrors}
use Rattle.rb_rules.specs.Grammar.DerivesEnsure.{NoEnsure, SomeEnsure}
use Rattle.rb_rules.specs.Grammar.DerivesDeclaration.{ClassOf, ModuleOf, Method, VisibleMethod}
use Rattle.rb_rules.specs.Grammar.DerivesMethod.{Def}
use Rattle.rb_rules.specs.Grammar.DerivesParameters.{NoParameters, OpenParameters, EmptyParens, InBrackets}
use Rattle.rb_rules.specs.Grammar.DerivesParameterList.{LastParameter, MoreParameters}
use Rattle.rb_rules.specs.Grammar.DerivesParameter.{Required, Optional, RequiredKeyword, OptionalKeyword, BlockParameter}
use Rattle.rb_views.specs.Paths.{Path, path_of, path_of_prefix, path_at, up_to_constants}
use Rattle.rb_views.specs.Places.{up_to_name}
use Rattle.rb_views.specs.Prefixes.{prefix_of, whole_at}
use Rattle.rb_grammar.specs.Places.{Each, IfThere, IsPlaced, IsReferencePlaced}
use Rattle.rb_grammar.proofs.Steps.{Within, within-token as push, within-more as go}
use Rattle.rb_grammar.proofs.Standing as st
use Rattle.rb_grammar.proofs.Placed.{each-weaker, each-end, stay, past, Ends, Begins, begins-at, begins-from, begins-across, Suffixed as SuffixEnded, placed}
use Rattle.srb_references.specs.declared.reading.Reading.{Reading}
use Rattle.srb_references.specs.declared.reading.Reading.TheVariants as reading
use Rattle.srb_references.specs.declared.reference.Reference.{Reference}
use Rattle.srb_references.specs.Readings.{Visit, visit, parts}
use Rattle.srb_references.specs.References.{visits_of, row_visits, below, below_by_node, visits, path_references, named_references, is_form_of_type, superclass_references, front_references, front_of, declared_references, own_references, references_of}
use Rattle.srb_references.proofs.Equations.{below_is}
use Rattle.srb_references_laws.proofs.Parts.{each-append, each-flat, OfArgument, OfBlock, OfSuffix, OfPiece, OfPair, OfArm, OfWhen, OfRescue, OfGuarded, OfParameter, OfNode, OfVisit, parts-all}
use Rattle.srb_references_laws.specs.Placed.{IsInOrder, ProgramsReferAtTokens}

-- ---- tokens that are passed

then-word : {xs ys : List Token} → Then xs ys → Within xs ys
then-word (Word t _ _) = push t stay
then-word (Line t _ _) = push t stay
then-word (LineWord s t _ _ _) = push s (push t stay)

end-of : {xs ys : List Token} → DerivesEnd xs ys → Within xs ys
end-of (NoComma _ _ g) = st.gap g
end-of (LastComma c _ _ _ g) = push c (st.gap g)

parted : {before : Tree} {xs ys : List Token} → Parted before xs ys → Within xs ys
parted (AfterNothing _) = stay
parted (AfterSeparator _ t _ _) = push t stay

own : {b : Bool} {xs ys : List Token} → Owner b xs ys → Within xs ys
own (Other _) = stay
own (OwnSelf s d _ _ _) = push s (push d stay)

bar-names : {names : List PlacedName} {xs ys : List Token} → BarNames names xs ys → Within xs ys
bar-names (LastBar t _ _ _) = push t stay
bar-names (MoreBars t c _ _ _ _ _ _ d) = push t (push c (bar-names d))

bars : {names : List PlacedName} {xs ys : List Token} → Bars names xs ys → Within xs ys
bars (NoBars _) = stay
bars (SomeBars o c _ _ _ _ d _ _) = push o (past c (bar-names d))

variable : {n : Option PlacedName} {xs ys : List Token} → RescueVariable n xs ys → Within xs ys
variable (NoVariable _) = stay
variable (Bound a t _ _ _ _) = push a (push t stay)

name-of : {w : List ℕ} {s : Span} {xs ys : List Token} → MethodName w s xs ys → Within xs ys
name-of (Plain t _ _ _) = push t stay
name-of (Writer t e _ _ _ _) = push t (push e stay)
name-of (Capital t _ _ _) = push t stay
name-of (Operator t _ _ _) = push t stay

each-take : {A : Type 0} (P : A → Type 0) (k : ℕ) (xs : List A) → Each P xs → Each P (take k xs)
each-take P zero xs h = tt
each-take P (suc k) [] h = tt
each-take P (suc k) (x ∷ xs) h = (h.0, each-take P k xs h.1)

module _ (tokens : List Token) where
  abbrev In : List Token → Type 0
  In = Within tokens

  abbrev Placed : Reference → Type 0
  Placed = IsInOrder tokens

  abbrev Refer : List Reference → Type 0
  Refer = Each Placed

  abbrev IsPathPlaced : Path → Type 0
  IsPathPlaced p = IsPlaced tokens p.span

  -- what a part refers to itself stands at the tokens
  abbrev IsVisitFine : Visit Tree → Type 0
  IsVisitFine v = Refer (own_references v)

  -- so does what a tree and all below it refer to, however the tree is read
  record Fine (t : Tree) : Type 0 where
    seen : (m : Reading) (scope : List (List ℕ)) → Each IsVisitFine (visits_of (λ x. x) below (visit m scope t))

  -- ---- a tree by its node

  -- what is wanted of the path with which it begins
  abbrev IsStartFine : Node-F Node Tree → Type 0
  IsStartFine (Node-F.Constant name span) = IsPlaced tokens span
  IsStartFine (Node-F.TopConstant name name_span span) = IsPlaced tokens span
  IsStartFine (Node-F.Post receiver suffixes span) = IfThere IsPathPlaced (path_of_prefix (record { operand = receiver; suffixes = suffixes }))
  IsStartFine _ = Unit {0}

  start-node : (t : Tree) (r : Node-F Node Tree) → out-Node t.node ≡ r → IsStartFine r → IfThere IsPathPlaced (path_of_prefix (whole_at t r))
  unfolding path_of_prefix
  start-node t (Node-F.Post receiver suffixes span) e h = h
  start-node t (Node-F.Constant name span) e h = subst (λ n. IfThere IsPathPlaced (path_at n [])) (sym e) h
  start-node t (Node-F.TopConstant name name_span span) e h = subst (λ n. IfThere IsPathPlaced (path_at n [])) (sym e) h
  start-node t r e h = subst (λ n. IfThere IsPathPlaced (path_at n [])) (sym e) tt

  start-opened : (t : Tree) (r : Node-F Node Tree) → out-Node t.node ≡ r → IsStartFine r → IfThere IsPathPlaced (path_of t)
  unfolding path_of prefix_of
  start-opened t r e h = subst (λ n. IfThere IsPathPlaced (path_of_prefix (whole_at t n))) (sym e) (start-node t r e h)

  path-refers : (m : Reading) (scope : List (List ℕ)) (p : Option Path) → IfThere IsPathPlaced p → Refer (path_references m scope p)
  path-refers m scope None h = tt
  path-refers m scope (Some p) h = (h, tt)

  named-by : (form : Bool) (rs : List Reference) → Refer rs → Refer (if form then [] else rs)
  named-by true rs h = tt
  named-by false rs h = h

  named-refer : (m : Reading) (scope : List (List ℕ)) (t : Tree) → IfThere IsPathPlaced (path_of t) → Refer (named_references m scope t)
  named-refer m scope t h = named-by (is_form_of_type m t) (path_references m scope (path_of t)) (path-refers m scope (path_of t) h)

  -- what a class or module refers to where it is declared stands at the tokens
  abbrev IsHeadFine : Node-F Node Tree → Type 0
  IsHeadFine r = (scope : List (List ℕ)) → Refer (declared_references scope r)

  own-fine : (t : Tree) (r : Node-F Node Tree) → out-Node t.node ≡ r → IsStartFine r → IsHeadFine r → (m : Reading) (scope : List (List ℕ)) → IsVisitFine (visit m scope t)
  unfolding own_references
  own-fine t r e k d m scope = each-append Placed (named_references m scope t) (declared_references scope (out-Node t.node))
      (named-refer m scope t (start-opened t r e k)) (subst (λ n. Refer (declared_references scope n)) (sym e) (d scope))

  row-fine : (vs : List (Visit Tree)) → Each (OfVisit Fine) vs → Each IsVisitFine (row_visits (λ x. x) below vs)
  row-fine [] h = tt
  row-fine (v ∷ vs) h = each-append IsVisitFine (row_visits (λ x. x) below vs) (visits_of (λ x. x) below v) (row-fine vs h.1) (h.0.seen v.reading v.scope)

  below-opened : (t : Tree) (r : Node-F Node Tree) → out-Node t.node ≡ r → (m : Reading) (scope : List (List ℕ)) → below t m scope ≡ row_visits (λ x. x) below (parts (λ x. x) m scope r)
  unfolding below_by_node
  below-opened t r e m scope = below_is t m scope ∙ ap (λ n. row_visits (λ x. x) below (parts (λ x. x) m scope n)) e

  -- a tree is fine by its node: the trees in it are, and what it refers to itself stands at the tokens
  by-node : (t : Tree) (r : Node-F Node Tree) → roll-Node r ≡ t.node → OfNode Fine r → IsStartFine r → IsHeadFine r → Fine t
  by-node t r e h k d =
      let o = ap out-Node (sym e) ∙ out-roll-Node r in
      record {
        seen = λ m scope. (
          own-fine t r o k d m scope,
          subst (Each IsVisitFine) (sym (below-opened t r o m scope)) (row-fine (parts (λ x. x) m scope r) (parts-all Fine scope m r h)),
        );
      }

  -- such a node is that of no class or module
  abbrev IsNoHead : Node-F Node Tree → Type 0
  IsNoHead (Node-F.Class path superclass body span) = ⊥
  IsNoHead (Node-F.Module path body span) = ⊥
  IsNoHead _ = Unit {0}

  no-head : (r : Node-F Node Tree) → IsNoHead r → IsHeadFine r
  no-head (Node-F.Class path superclass body span) h scope = absurd h
  no-head (Node-F.Module path body span) h scope = absurd h
  no-head _ h scope = tt

  made : (t : Tree) (r : Node-F Node Tree) → roll-Node r ≡ t.node → OfNode Fine r → IsStartFine r → IsNoHead r → Fine t
  made t r e h k n = by-node t r e h k (no-head r n)

  body-fine : (ss : List Tree) → Each Fine ss → Fine (body_tree ss)
  body-fine [] h = made _ (Node-F.Body [] (record { start = 0; end = 0 })) (rolls-Body _ _) h tt tt
  body-fine (s ∷ ss) h = made _ (Node-F.Body (s ∷ ss) (across (span_of s) (span_of (last_of s ss)))) (rolls-Body _ _) h tt tt

  -- ---- paths in expressions

  -- a constant ends where one of the tokens ends
  abbrev Reaches : List Token → Suffix Tree → Type 0
  Reaches xs (suffix.Constant name name_span span) = Ends xs span.end
  Reaches xs (suffix.Call dot name name_span arguments block span) = Unit {0}
  Reaches xs (suffix.Index arguments span) = Unit {0}

  reaches : (xs : List Token) (s : Suffix Tree) → SuffixEnded tokens xs s → Reaches xs s
  reaches xs (suffix.Constant name name_span span) h = h.0
  reaches xs (suffix.Call dot name name_span arguments block span) h = tt
  reaches xs (suffix.Index arguments span) h = tt

  all-reach : (xs : List Token) (ss : List (Suffix Tree)) → Each (SuffixEnded tokens xs) ss → Each (Reaches xs) ss
  all-reach xs = each-weaker (SuffixEnded tokens xs) (Reaches xs) (reaches xs)

  up-to-constants : (xs : List Token) (s : Span) (ss : List (Suffix Tree)) → Begins xs s → Each (Reaches xs) ss → Begins xs (up_to_constants s ss)
  up-to-constants xs s [] h all = h
  up-to-constants xs s (suffix.Constant name name_span span ∷ rest) h all = up-to-constants xs (across s span) rest (begins-across xs s span h all.0) all.1
  up-to-constants xs s (suffix.Call dot name name_span arguments block span ∷ rest) h all = h
  up-to-constants xs s (suffix.Index arguments span ∷ rest) h all = h

  path-node : (xs : List Token) (n : Node-F Node Tree) (ss : List (Suffix Tree)) → In xs → Begins xs (span_at n) → Each (Reaches xs) ss → IfThere IsPathPlaced (path_at n ss)
  path-node xs (Node-F.Constant name span) ss i h all = placed tokens i (up-to-constants xs span ss h all)
  path-node xs (Node-F.TopConstant name name_span span) ss i h all = placed tokens i (up-to-constants xs span ss h all)
  path-node xs _ ss i h all = tt

  prefix-path : (xs : List Token) (p : Tree) (ss : List (Suffix Tree)) → In xs → Begins xs (span_of p) → Each (Reaches xs) ss → IfThere IsPathPlaced (path_of_prefix (record { operand = p; suffixes = ss }))
  unfolding path_of_prefix span_of span_of_node
  prefix-path xs p ss i h all = path-node xs (out-Node p.node) ss i h all

  posted-fine : (xs : List Token) (p : Tree) (ss : List (Suffix Tree)) → In xs → Begins xs (span_of p) → Each (Reaches xs) ss → Fine p → Each (OfSuffix Fine) ss → Fine (posted p ss)
  posted-fine xs p [] i h all f g = f
  posted-fine xs p (s ∷ ss) i h all f g =
      made _ (Node-F.Post p (s ∷ ss) (across (span_of p) (suffix_span (last_of s ss)))) (rolls-Post _ _ _) (f, g) (prefix-path xs p (s ∷ ss) i h all) tt

  -- an operand with one more suffix, which is no constant
  posted-more : (xs : List Token) (p : Tree) (ss : List (Suffix Tree)) (s : Suffix Tree) → In xs → Begins xs (span_of p) → Each (SuffixEnded tokens xs) ss → Reaches xs s → Fine p → Each (OfSuffix Fine) ss → OfSuffix Fine s → Fine (posted p (ss ++ s ∷ []))
  posted-more xs p ss s i h all last f g k =
      posted-fine xs p (ss ++ s ∷ []) i h (each-end (Reaches xs) ss s (all-reach xs ss all) last) f (each-end (OfSuffix Fine) ss s g k)

  -- ---- paths that are declared

  up-to-name : (xs : List Token) (s : Span) (names : List PlacedName) → Begins xs s → Each (λ n. Ends xs n.span.end × IsPlaced tokens n.span) names → Begins xs (up_to_name s names)
  up-to-name xs s [] h all = h
  up-to-name xs s (n ∷ names) h all = up-to-name xs (across s n.span) names (begins-across xs s n.span h all.0.0) all.1

  -- the first so many names
  front-refers : (xs : List Token) (scope : List (List ℕ)) (k : ℕ) (n : PlacedName) (more : List PlacedName) → In xs → Begins xs n.span → Each (λ n. Ends xs n.span.end × IsPlaced tokens n.span) more → Refer (front_references scope (take k (n ∷ more)))
  front-refers xs scope zero n more i h all = tt
  front-refers xs scope (suc k) n more i h all =
      (placed tokens i (up-to-name xs n.span (take k more) h (each-take (λ n. Ends xs n.span.end × IsPlaced tokens n.span) k more all)), tt)

  fronts : {long : Bool} {names : List PlacedName} {xs ys : List Token} (scope : List (List ℕ)) → DerivesPath long names xs ys → In xs → Refer (front_references scope (front_of names))
  fronts scope (LastName long t w xs c) i = front-refers (t ∷ xs) scope (length (named t w ∷ []) - 1) (named t w) [] i (begins-at t xs) tt
  fronts scope (MoreNames t c w more xs ys a b d) i = let p = st.path-of tokens (MoreNames t c w more xs ys a b d) i in
      front-refers (t ∷ c ∷ xs) scope (length (named t w ∷ more) - 1) (named t w) more i p.1 p.2.1

  superclass-refers : (scope : List (List ℕ)) (r : Option Superclass) → IfThere (IsReferencePlaced tokens) r → Refer (superclass_references scope r)
  superclass-refers scope None h = tt
  superclass-refers scope (Some r) h = (h.0, tt)

  -- ---- the forms

  mutual
    body : {at : Site} {free : Bool} {t : Tree} {xs ys : List Token} → DerivesBody at free t xs ys → In xs → Within xs ys × Fine t
    body (NoStatement _ _ _ _ g) i = (st.gap g, body-fine [] tt)
    body (Statements _ _ s ss _ _ _ _ _ g d more h) i =
        let u = st.gap g in let a = statement d (go i u) in let v = go u a.0 in let b = others more (go i v) in
        (go v (go b.0 (st.gap h)), body-fine (s ∷ ss) (a.1, b.1))

    others : {at : Site} {free : Bool} {ss : List Tree} {xs ys : List Token} → DerivesMore at free ss xs ys → In xs → Within xs ys × Each Fine ss
    others (NoMore _ _ _) i = (stay, tt)
    others (Another _ _ t s ss _ _ _ _ _ g d more) i =
        let u = push t (st.gap g) in let a = statement d (go i u) in let v = go u a.0 in let b = others more (go i v) in
        (go v b.0, (a.1, b.1))

    statement : {at : Site} {free : Bool} {t : Tree} {xs ys : List Token} → DerivesStatement at free t xs ys → In xs → Within xs ys × Fine t
    statement (Declared _ _ _ _ _ _ d) i = declaration d i
    statement (Simply _ _ _ _ _ _ _ d m) i = let a = simple d i in let b = modified m (go i a.0) a.1 in (go a.0 b.0, b.1)

    modified : {free : Bool} {s t : Tree} {xs ys : List Token} → DerivesModified free s t xs ys → In xs → Fine s → Within xs ys × Fine t
    modified (Unmodified _ _ _) i h = (stay, h)
    modified (Modified _ m word s c _ _ _ _ _ _ d k) i h =
        let a = simple d (past m i) in
        let b = modified k (go (past m i) a.0) (made _ (Node-F.Modified s word c (across (span_of s) (span_of c))) (rolls-Modified _ _ _ _) (h, a.1) tt tt) in
        (push m (go a.0 b.0), b.1)

    simple : {constants free : Bool} {t : Tree} {xs ys : List Token} → DerivesSimple constants free t xs ys → In xs → Within xs ys × Fine t
    simple (Valued _ _ _ _ _ d) i = value d i
    simple (Jumps _ _ j word xs _) i = (push j stay, made _ (Node-F.Jump word None j.span) (rolls-Jump _ _ _) tt tt tt)
    simple (JumpsWith _ _ j word v xs _ _ _ d) i = let a = value d (past j i) in
        (push j a.0, made _ (Node-F.Jump word (Some v) (across j.span (span_of v))) (rolls-Jump _ _ _) a.1 tt tt)

    value : {constants free : Bool} {t : Tree} {xs ys : List Token} → DerivesValue constants free t xs ys → In xs → Within xs ys × Fine t
    value (Term _ _ _ _ _ d) i = term d i
    value (Assigns _ _ e x v _ _ _ d _ k) i = let a = target d i in let u = past e a.0 in let b = value k (go i u) in
        (go u b.0, made _ (Node-F.Assign x v (across (span_of x) (span_of v))) (rolls-Assign _ _ _) (a.1, b.1) tt tt)
    value (Computes _ _ o operator x v _ _ _ d _ k) i = let a = target d i in let u = past o a.0 in let b = value k (go i u) in
        (go u b.0, made _ (Node-F.OperatorAssign x operator o.span v (across (span_of x) (span_of v))) (rolls-OperatorAssign _ _ _ _ _) (a.1, b.1) tt tt)
    value (Command _ _ x given b _ _ _ _ d _ e _ k _) i =
        let c = callee d i in let a = arguments e (go i c.0) in let u = go c.0 a.0 in let l = do-after k (go i u) in
        (go u l.0, made _ (Node-F.Command x given b (across (span_of x) (block_or (span_of_arguments (span_of x) given) b))) (rolls-Command _ _ _ _) (c.1, a.1, l.1) tt tt)

    target : {constants free : Bool} {t : Tree} {xs ys : List Token} → DerivesTarget constants free t xs ys → In xs → Within xs ys × Fine t
    target (Variable _ _ t w xs _) i = (push t stay, made _ (Node-F.Name w t.span) (rolls-Name _ _) tt tt tt)
    target (Instance _ _ t w xs _) i = (push t stay, made _ (Node-F.InstanceVariable w t.span) (rolls-InstanceVariable _ _) tt tt tt)
    target (Constant _ t w xs _) i = (push t stay, made _ (Node-F.Constant w t.span) (rolls-Constant _ _) tt (placed tokens i (begins-at t xs)) tt)
    target (Attribute _ _ _ d n r ss w xs ys e _ _) i = let o = st.operand tokens e i in let a = operand e i in
        (past n (past d a.0), posted-more xs r ss (named_call d dot.Plain n w) i o.1.0 o.2 tt a.1 a.2 (tt, tt))
    target (Element _ _ _ _ r ss s xs _ _ e k) i = let o = st.operand tokens e i in let a = operand e i in let b = index k (go i a.0) in
        (go a.0 b.0, posted-more xs r ss s i o.1.0 o.2 (b.2 xs) a.1 a.2 b.1)

    callee : {free : Bool} {t : Tree} {xs ys : List Token} → DerivesCallee free t xs ys → In xs → Within xs ys × Fine t
    callee (Own _ t w xs _) i = (push t stay, made _ (Node-F.Name w t.span) (rolls-Name _ _) tt tt tt)
    callee (Of _ _ d n how r ss w xs ys e _ _) i = let o = st.operand tokens e i in let a = operand e i in
        (past n (past d a.0), posted-more xs r ss (named_call d how n w) i o.1.0 o.2 tt a.1 a.2 (tt, tt))
    callee (YieldWord _ t xs _) i = (push t stay, made _ (Node-F.Yield None t.span) (rolls-Yield _ _) tt tt tt)
    callee (SuperWord _ t xs _) i = (push t stay, made _ (Node-F.Super None t.span) (rolls-Super _ _) tt tt tt)

    arguments : {bracketed free : Bool} {given : List (Argument Tree)} {xs ys : List Token} → DerivesArguments bracketed free given xs ys → In xs → Within xs ys × Each (OfArgument Fine) given
    arguments (LastArgument _ _ _ _ _ d) i = let a = given-argument d i in (a.0, (a.1, tt))
    arguments (MoreArguments _ _ c _ more _ _ _ _ d _ g m) i = let a = given-argument d i in let u = go (past c a.0) (st.gap-in g) in let b = arguments m (go i u) in
        (go u b.0, (a.1, b.1))

    given-argument : {free : Bool} {a : Argument Tree} {xs ys : List Token} → DerivesArgument free a xs ys → In xs → Within xs ys × OfArgument Fine a
    given-argument (ByPlace _ t _ _ d) i = term d i
    given-argument (ByName _ l _ t xs _ _ d) i = let a = term d (past l i) in (push l a.0, a.1)
    given-argument (AsBlock _ l t xs _ _ d) i = let a = term d (past l i) in (push l a.0, a.1)

    term : {free : Bool} {t : Tree} {xs ys : List Token} → DerivesTerm free t xs ys → In xs → Within xs ys × Fine t
    term (Operated _ _ _ _ d) i = level d i
    term (Conditional _ q k c a b _ _ _ _ d _ e _ f) i =
        let x = level d i in let u = past q x.0 in let y = term e (go i u) in let v = go u (past k y.0) in let z = term f (go i v) in
        (go v z.0, made _ (Node-F.Conditional c a b (across (span_of c) (span_of b))) (rolls-Conditional _ _ _ _) (x.1, y.1, z.1) tt tt)

    level : {n : ℕ} {free : Bool} {t : Tree} {xs ys : List Token} → DerivesLevel n free t xs ys → In xs → Within xs ys × Fine t
    level (Tighter _ _ _ _ _ _ d) i = level d i
    level (FromLeft _ _ o operator a b _ _ _ _ d _ e) i = let x = level d i in let u = past o x.0 in let y = level e (go i u) in
        (go u y.0, made _ (Node-F.Binary operator o.span a b (across (span_of a) (span_of b))) (rolls-Binary _ _ _ _ _) (x.1, y.1) tt tt)
    level (Once _ o operator a b _ _ _ d _ e) i = let x = level d i in let u = past o x.0 in let y = level e (go i u) in
        (go u y.0, made _ (Node-F.Binary operator o.span a b (across (span_of a) (span_of b))) (rolls-Binary _ _ _ _ _) (x.1, y.1) tt tt)
    level (Negated _ m a xs _ _ _ d) i = let x = level d (past m i) in
        (push m x.0, made _ (Node-F.Unary unary_word.Minus a (across m.span (span_of a))) (rolls-Unary _ _ _) x.1 tt tt)
    level (Raised _ o a b _ _ _ d _ e) i = let x = prefixed d i in let u = past o x.0 in let y = level e (go i u) in
        (go u y.0, made _ (Node-F.Binary binary_word.Power o.span a b (across (span_of a) (span_of b))) (rolls-Binary _ _ _ _ _) (x.1, y.1) tt tt)
    level (Plainly _ _ _ _ d) i = prefixed d i

    prefixed : {free : Bool} {t : Tree} {xs ys : List Token} → DerivesPrefixed free t xs ys → In xs → Within xs ys × Fine t
    prefixed (Prefixed _ m operator a xs _ _ _ d) i = let x = prefixed d (past m i) in
        (push m x.0, made _ (Node-F.Unary operator a (across m.span (span_of a))) (rolls-Unary _ _ _) x.1 tt tt)
    prefixed (Posted _ _ p ss xs _ d) i = let o = st.operand tokens d i in let a = operand d i in
        (a.0, posted-fine xs p ss i o.1.0 (all-reach xs ss o.2) a.1 a.2)

    operand : {free : Bool} {p : Tree} {ss : List (Suffix Tree)} {last : Token} {xs ys : List Token} → DerivesOperand free p ss last xs ys → In xs → Within xs ys × Fine p × Each (OfSuffix Fine) ss
    operand (Bare _ _ _ _ _ d) i = let a = primary d i in (a.0, a.1, tt)
    operand (Suffixed _ _ _ _ ss s xs _ _ d e) i = let a = operand d i in let b = suffix-of e (go i a.0) in
        (go a.0 b.0, a.1, each-end (OfSuffix Fine) ss s a.2 b.1)

    suffix-of : {free : Bool} {s : Suffix Tree} {before last : Token} {xs ys : List Token} → DerivesSuffix free s before last xs ys → In xs → Within xs ys × OfSuffix Fine s
    suffix-of (Calls _ _ d n _ last _ _ _ _ xs _ _ _ _ e k _) i =
        let a = brackets e (past n (past d i)) in let u = push d (push n a.0) in let b = block-after k (go i u) in
        (go u b.0, (a.1, b.1))
    suffix-of (WithinName _ _ c n _ xs _ _) i = (push c (push n stay), tt)
    suffix-of (Indexed _ _ _ _ _ _ d) i = let a = index d i in (a.0, a.1)

    index : {s : Suffix Tree} {before last : Token} {xs ys : List Token} → DerivesIndex s before last xs ys → In xs → Within xs ys × OfSuffix Fine s × ((zs : List Token) → Reaches zs s)
    index (Index _ o c given xs ps _ _ _ _ g d _ e _) i =
        let a = arguments d (go (past o i) (st.gap g)) in let u = go (st.gap g) (go a.0 (end-of e)) in
        (push o (past c u), a.1, λ zs. tt)

    brackets : {given : Option (List (Argument Tree))} {before last : Token} {xs ys : List Token} → DerivesBrackets given before last xs ys → In xs → Within xs ys × IfThere (Each (OfArgument Fine)) given
    brackets (NoBrackets _ _) i = (stay, tt)
    brackets (EmptyBrackets _ o c _ _ _ g _) i = (past c (push o (st.gap g)), tt)
    brackets (Brackets _ o c given _ ps _ _ _ g d _ k _) i = let a = arguments d (go (past o i) (st.gap g)) in
        (past c (push o (go (st.gap g) (go a.0 (st.gap k)))), a.1)

    block-after : {free : Bool} {b : Option (Block Tree)} {before last : Token} {xs ys : List Token} → DerivesBlockAfter free b before last xs ys → In xs → Within xs ys × IfThere (OfBlock Fine) b
    block-after (NoBlock _ _ _) i = (stay, tt)
    block-after (SomeBlock _ _ last _ _ _ d) i = block d i

    block : {free : Bool} {b : Block Tree} {last : Token} {xs ys : List Token} → DerivesBlock free b last xs ys → In xs → Within xs ys × OfBlock Fine b
    block (Braces _ o c _ _ xs _ _ _ k d _) i = let u = bars k in let b = body d (go (past o i) u) in (push o (past c (go u b.0)), b.1)
    block (DoEnd o c _ _ xs _ _ _ k d _) i = let u = bars k in let b = body d (go (past o i) u) in (push o (past c (go u b.0)), b.1)

    do-after : {free : Bool} {b : Option (Block Tree)} {xs ys : List Token} → DerivesDo free b xs ys → In xs → Within xs ys × IfThere (OfBlock Fine) b
    do-after (NoDo _ _) i = (stay, tt)
    do-after (SomeDo _ _ _ _ _ _ d) i = block d i

    primary : {free : Bool} {t : Tree} {last : Token} {xs ys : List Token} → DerivesPrimary free t last xs ys → In xs → Within xs ys × Fine t
    primary (WholeNumber _ t w xs _) i = (push t stay, made _ (Node-F.Whole None w t.span) (rolls-Whole _ _ _) tt tt tt)
    primary (FloatNumber _ t w xs _) i = (push t stay, made _ (Node-F.Float None w t.span) (rolls-Float _ _ _) tt tt tt)
    primary (SignedWhole _ s t how w xs _ _ _ _) i = (push s (push t stay), made _ (Node-F.Whole (Some how) w (across s.span t.span)) (rolls-Whole _ _ _) tt tt tt)
    primary (SignedFloat _ s t how w xs _ _ _ _) i = (push s (push t stay), made _ (Node-F.Float (Some how) w (across s.span t.span)) (rolls-Float _ _ _) tt tt tt)
    primary (String _ t last w ps xs _ _ d) i = let a = pieces d (past t i) in
        (push t a.0, made _ (Node-F.Text (piece.Words w t.span ∷ ps) (across t.span last.span)) (rolls-Text _ _) (tt, a.1) tt tt)
    primary (SymbolName _ t w xs _) i = (push t stay, made _ (Node-F.Symbol w t.span) (rolls-Symbol _ _) tt tt tt)
    primary (InstanceName _ t w xs _) i = (push t stay, made _ (Node-F.InstanceVariable w t.span) (rolls-InstanceVariable _ _) tt tt tt)
    primary (ConstantName _ t w xs _) i = (push t stay, made _ (Node-F.Constant w t.span) (rolls-Constant _ _) tt (placed tokens i (begins-at t xs)) tt)
    primary (FromTop _ c t w xs _ _) i =
        (push c (push t stay), made _ (Node-F.TopConstant w t.span (across c.span t.span)) (rolls-TopConstant _ _ _) tt (placed tokens i (begins-from c t (stay {xs = t ∷ xs}))) tt)
    primary (SelfPlace _ t xs _) i = (push t stay, made _ (Node-F.SelfWord t.span) (rolls-SelfWord _) tt tt tt)
    primary (NilPlace _ t xs _) i = (push t stay, made _ (Node-F.Nil t.span) (rolls-Nil _) tt tt tt)
    primary (TruePlace _ t xs _) i = (push t stay, made _ (Node-F.True t.span) (rolls-True _) tt tt tt)
    primary (FalsePlace _ t xs _) i = (push t stay, made _ (Node-F.False t.span) (rolls-False _) tt tt tt)
    primary (NameAlone _ t w xs _) i = (push t stay, made _ (Node-F.Name w t.span) (rolls-Name _ _) tt tt tt)
    primary (CallWithBrackets _ t _ last w given b xs _ _ _ d e _) i =
        let a = brackets d (past t i) in let v = push t a.0 in let c = block-after e (go i v) in
        (go v c.0, made _ (Node-F.Call w t.span (Some given) b (across t.span last.span)) (rolls-Call _ _ _ _ _) (a.1, c.1) tt tt)
    primary (CallWithBlock _ t last w b xs _ _ d) i = let a = block d (past t i) in
        (push t a.0, made _ (Node-F.Call w t.span None (Some b) (across t.span last.span)) (rolls-Call _ _ _ _ _) (tt, a.1) tt tt)
    primary (Yields _ t last given xs _ _ d) i = let a = brackets d (past t i) in
        (push t a.0, made _ (Node-F.Yield given (across t.span last.span)) (rolls-Yield _ _) a.1 tt tt)
    primary (Supers _ t last given xs _ _ d) i = let a = brackets d (past t i) in
        (push t a.0, made _ (Node-F.Super given (across t.span last.span)) (rolls-Super _ _) a.1 tt tt)
    primary (EmptyArray _ o c _ _ _ g _) i = (push o (past c (st.gap g)), made _ (Node-F.Array [] (across o.span c.span)) (rolls-Array _ _) tt tt tt)
    primary (SomeArray _ o c es _ _ _ _ _ g d e _) i = let a = elements d (go (past o i) (st.gap g)) in
        (push o (past c (go (st.gap g) (go a.0 (end-of e)))), made _ (Node-F.Array es (across o.span c.span)) (rolls-Array _ _) a.1 tt tt)
    primary (EmptyHash _ o c _ _ _ g _) i = (push o (past c (st.gap g)), made _ (Node-F.Hash [] (across o.span c.span)) (rolls-Hash _ _) tt tt tt)
    primary (SomeHash _ o c ps _ _ _ _ _ g d e _) i = let a = pairs d (go (past o i) (st.gap g)) in
        (push o (past c (go (st.gap g) (go a.0 (end-of e)))), made _ (Node-F.Hash ps (across o.span c.span)) (rolls-Hash _ _) a.1 tt tt)
    primary (InParens _ o c b _ _ _ d _) i = let a = body d (past o i) in
        (push o (past c a.0), made _ (Node-F.Parens b (across o.span c.span)) (rolls-Parens _ _) a.1 tt tt)
    primary (Branches _ k e word c b arms z _ _ _ _ _ _ _ dc th db da _ dz _) i =
        let j = past k i in
        let p = simple dc j in let u = go p.0 (then-word th) in
        let q = body db (go j u) in let v = go u q.0 in
        let r = arms-of da (go j v) in let w = go v r.0 in
        let s = else-of dz (go j w) in
        (push k (past e (go w s.0)), made _ (Node-F.If word c b arms z (across k.span e.span)) (rolls-If _ _ _ _ _ _) (p.1, q.1, r.1, s.1) tt tt)
    primary (Loops _ k d e word c b _ _ _ _ dc _ db _) i =
        let j = past k i in let p = simple dc j in let u = past d p.0 in let q = body db (go j u) in
        (push k (past e (go u q.0)), made _ (Node-F.While word c b (across k.span e.span)) (rolls-While _ _ _ _) (p.1, q.1) tt tt)
    primary (Guards _ k e g _ _ _ d _) i = let a = guarded d (past k i) in
        (push k (past e a.0), made _ (Node-F.Begin g (across k.span e.span)) (rolls-Begin _ _) a.1 tt tt)
    primary (Cases _ k e t arm arms z _ _ _ _ _ _ dt g da dz _) i =
        let j = past k i in
        let p = subject dt j in let u = go p.0 (st.gap g) in
        let q = whens da (go j u) in let v = go u q.0 in
        let s = else-of dz (go j v) in
        (push k (past e (go v s.0)), made _ (Node-F.Case t (arm ∷ arms) z (across k.span e.span)) (rolls-Case _ _ _ _) (p.1, q.1, s.1) tt tt)

    pieces : {ps : List (Piece Tree)} {before last : Token} {xs ys : List Token} → DerivesPieces ps before last xs ys → In xs → Within xs ys × Each (OfPiece Fine) ps
    pieces (NoPiece _ _) i = (stay, tt)
    pieces (MorePieces _ o c t _ _ _ _ _ _ _ _ d _ _ e) i =
        let a = body d (past o i) in let v = past t (push o (past c a.0)) in let b = pieces e (go i v) in
        (go v b.0, (a.1, (tt, b.1)))

    elements : {es : List Tree} {xs ys : List Token} → DerivesElements es xs ys → In xs → Within xs ys × Each Fine es
    elements (LastElement _ _ _ d) i = let a = term d i in (a.0, (a.1, tt))
    elements (MoreElements c _ _ _ _ _ _ d _ g m) i = let a = term d i in let u = go (past c a.0) (st.gap g) in let b = elements m (go i u) in (go u b.0, (a.1, b.1))

    pairs : {ps : List (Pair Tree)} {xs ys : List Token} → DerivesPairs ps xs ys → In xs → Within xs ys × Each (OfPair Fine) ps
    pairs (LastPair _ _ _ d) i = let a = pair-of d i in (a.0, (a.1, tt))
    pairs (MorePairs c _ _ _ _ _ _ d _ g m) i = let a = pair-of d i in let u = go (past c a.0) (st.gap g) in let b = pairs m (go i u) in (go u b.0, (a.1, b.1))

    pair-of : {p : Pair Tree} {xs ys : List Token} → DerivesPair p xs ys → In xs → Within xs ys × OfPair Fine p
    pair-of (ByArrow r _ _ _ _ _ d _ e) i = let a = term d i in let u = past r a.0 in let b = term e (go i u) in (go u b.0, (a.1, b.1))
    pair-of (ByLabel l _ _ _ _ _ d) i = let a = term d (past l i) in (push l a.0, a.1)

    arms-of : {free : Bool} {arms : List (Arm Tree)} {xs ys : List Token} → DerivesArms free arms xs ys → In xs → Within xs ys × Each (OfArm Fine) arms
    arms-of (NoArm _ _) i = (stay, tt)
    arms-of (MoreArms _ k _ _ _ _ _ _ _ _ _ dc th db m) i =
        let j = past k i in
        let p = simple dc j in let u = go p.0 (then-word th) in
        let q = body db (go j u) in let v = go u q.0 in
        let r = arms-of m (go j v) in
        (push k (go v r.0), ((p.1, q.1), r.1))

    else-of : {free : Bool} {t : Option Tree} {xs ys : List Token} → DerivesElse free t xs ys → In xs → Within xs ys × IfThere Fine t
    else-of (NoElse _ _) i = (stay, tt)
    else-of (SomeElse _ k _ _ _ _ d) i = let a = body d (past k i) in (push k a.0, a.1)

    subject : {free : Bool} {t : Option Tree} {xs ys : List Token} → DerivesSubject free t xs ys → In xs → Within xs ys × IfThere Fine t
    subject (NoSubject _ _) i = (stay, tt)
    subject (SomeSubject _ _ _ _ d) i = simple d i

    whens : {free : Bool} {arms : List (When Tree)} {xs ys : List Token} → DerivesWhens free arms xs ys → In xs → Within xs ys × Each (OfWhen Fine) arms
    whens (NoWhen _ _) i = (stay, tt)
    whens (MoreWhens _ k _ _ _ _ _ _ _ _ _ dp th db m) i =
        let j = past k i in
        let p = patterns dp j in let u = go p.0 (then-word th) in
        let q = body db (go j u) in let v = go u q.0 in
        let r = whens m (go j v) in
        (push k (go v r.0), ((p.1, q.1), r.1))

    patterns : {free : Bool} {ps : List Tree} {xs ys : List Token} → DerivesPatterns free ps xs ys → In xs → Within xs ys × Each Fine ps
    patterns (LastPattern _ _ _ _ d) i = let a = term d i in (a.0, (a.1, tt))
    patterns (MorePatterns _ c _ _ _ _ _ d _ m) i = let a = term d i in let u = past c a.0 in let b = patterns m (go i u) in (go u b.0, (a.1, b.1))

    guarded : {free : Bool} {g : Guarded Tree} {xs ys : List Token} → DerivesGuarded free g xs ys → In xs → Within xs ys × OfGuarded Fine g
    guarded (Unrescued _ _ _ _ _ _ d de) i = let a = body d i in let b = ensure-of de (go i a.0) in (go a.0 b.0, (a.1, tt, tt, b.1))
    guarded (Rescued _ _ _ _ _ _ _ _ _ _ _ d dr dz de) i =
        let a = body d i in
        let b = rescues dr (go i a.0) in let u = go a.0 b.0 in
        let c = else-of dz (go i u) in let v = go u c.0 in
        let e = ensure-of de (go i v) in
        (go v e.0, (a.1, b.1, c.1, e.1))

    rescues : {free : Bool} {before : Tree} {rs : List (Rescue Tree)} {xs ys : List Token} → DerivesRescues free before rs xs ys → In xs → Within xs ys × Each (OfRescue Fine) rs
    rescues (NoRescue _ _ _) i = (stay, tt)
    rescues (MoreRescues _ k _ _ _ _ _ _ _ _ _ _ _ _ p _ dr dv th db m) i =
        let u = past k (parted p) in
        let a = raised dr (go i u) in let v = go u a.0 in
        let w = go (go v (variable dv)) (then-word th) in
        let c = body db (go i w) in let x = go w c.0 in
        let r = rescues m (go i x) in
        (go x r.0, ((a.1, c.1), r.1))

    raised : {free : Bool} {ps : List Tree} {xs ys : List Token} → DerivesRaised free ps xs ys → In xs → Within xs ys × Each Fine ps
    raised (AnyError _ _) i = (stay, tt)
    raised (SomeErrors _ _ _ _ d) i = patterns d i

    ensure-of : {free : Bool} {t : Option Tree} {xs ys : List Token} → DerivesEnsure free t xs ys → In xs → Within xs ys × IfThere Fine t
    ensure-of (NoEnsure _ _) i = (stay, tt)
    ensure-of (SomeEnsure _ k _ _ _ _ d) i = let a = body d (past k i) in (push k a.0, a.1)

    declaration : {at : Site} {t : Tree} {xs ys : List Token} → DerivesDeclaration at t xs ys → In xs → Within xs ys × Fine t
    declaration (ClassOf _ k s e path r b xs _ _ _ _ dp dr _ db _) i =
        let j = past k i in
        let p = (st.path-of tokens dp j).0 in
        let q = st.superclass tokens dr (go j p) in let u = go p (past s q.0) in
        let z = body db (go j u) in (
          push k (past e (go u z.0)),
          by-node _ (Node-F.Class path r b (across k.span e.span)) (rolls-Class _ _ _ _) z.1 tt
              (λ scope. each-append Placed (front_references scope (front_of path)) (superclass_references scope r) (fronts scope dp j) (superclass-refers scope r q.1)),
        )
    declaration (ModuleOf _ k s e path b xs _ _ _ dp _ db _) i =
        let j = past k i in let u = past s (st.path-of tokens dp j).0 in let z = body db (go j u) in
        (push k (past e (go u z.0)), by-node _ (Node-F.Module path b (across k.span e.span)) (rolls-Module _ _ _) z.1 tt (λ scope. fronts scope dp j))
    declaration (Method _ _ _ _ d) i = method d i
    declaration (VisibleMethod _ v _ _ _ _ _ _ _ d) i = let a = method d (past v i) in (push v a.0, a.1)

    method : {visible : Option Visibility} {front : Option Token} {t : Tree} {xs ys : List Token} → DerivesMethod visible front t xs ys → In xs → Within xs ys × Fine t
    method (Def visible front k e self w s ps b xs _ _ _ ys _ o n dp _ _ db _) i =
        let j = past k i in
        let v = go (own o) (name-of n) in
        let r = parameters dp (go j v) in let x = go v r.0 in
        let z = guarded db (go j x) in
        (push k (past e (go x z.0)), made _ (Node-F.Def visible self w s ps b (across (front_span k front) e.span)) (rolls-Def _ _ _ _ _ _ _) (r.1, z.1) tt tt)

    parameters : {ps : List (Parameter Tree)} {xs ys : List Token} → DerivesParameters ps xs ys → In xs → Within xs ys × Each (OfParameter Fine) ps
    parameters (NoParameters s _ _) i = (push s stay, tt)
    parameters (OpenParameters s _ _ _ _ d _) i = let a = parameter-list d i in (past s a.0, a.1)
    parameters (EmptyParens o c _ _ _ g _) i = (push o (past c (st.gap g)), tt)
    parameters (InBrackets o c _ _ _ _ _ _ _ g d h _) i = let a = parameter-list d (go (past o i) (st.gap g)) in (push o (past c (go (st.gap g) (go a.0 (st.gap h)))), a.1)

    parameter-list : {bracketed : Bool} {ps : List (Parameter Tree)} {xs ys : List Token} → DerivesParameterList bracketed ps xs ys → In xs → Within xs ys × Each (OfParameter Fine) ps
    parameter-list (LastParameter _ _ _ _ d) i = let a = parameter-of d i in (a.0, (a.1, tt))
    parameter-list (MoreParameters _ c _ _ _ _ _ _ d _ g m) i = let a = parameter-of d i in let u = go (past c a.0) (st.gap-in g) in let b = parameter-list m (go i u) in (go u b.0, (a.1, b.1))

    parameter-of : {p : Parameter Tree} {xs ys : List Token} → DerivesParameter p xs ys → In xs → Within xs ys × OfParameter Fine p
    parameter-of (Required t _ _ _) i = (push t stay, tt)
    parameter-of (Optional t e _ _ _ _ _ _ d) i = let a = term d (past e (past t i)) in (push t (push e a.0), a.1)
    parameter-of (RequiredKeyword l _ _ _) i = (push l stay, tt)
    parameter-of (OptionalKeyword l _ _ _ _ _ d) i = let a = term d (past l i) in (push l a.0, a.1)
    parameter-of (BlockParameter a t _ _ _ _) i = (push a (push t stay), tt)

  -- ---- programs

  refer : (t : Tree) → Fine t → Refer (references_of t)
  unfolding references_of
  refer t h = each-flat IsVisitFine Placed own_references (λ v h. h) (visits t) (h.seen reading.Plain [])

pub programs-refer : ProgramsReferAtTokens
programs-refer tokens t d = refer tokens t (body tokens d stay).1
