-- What each form reads goes on in the order of the text, and its trees nest.
use Rattle.std.proofs.Common.{◌≡◌, ℕ, Bool, List, [], ◌∷◌, ◌++◌, Option, Some, None, refl, sym, ap, subst, ◌∙◌, arith}
use Rattle.srb_terms.specs.declared.span.Span.{Span}
use Rattle.rb_tree.specs.declared.token.Token.{Token}
use Rattle.rb_tree.specs.declared.syntax.Tree.{Tree}
use Rattle.rb_tree.specs.declared.syntax.Unary.{Unary}
use Rattle.rb_tree.specs.declared.syntax.Unary.TheVariants as unary_word
use Rattle.rb_tree.specs.declared.syntax.Binary.{Binary}
use Rattle.rb_tree.specs.declared.syntax.Binary.TheVariants as binary_word
use Rattle.rb_tree.specs.declared.syntax.Dot.{Dot}
use Rattle.rb_tree.specs.declared.syntax.Dot.TheVariants as dot
use Rattle.rb_tree.specs.declared.syntax.Visibility.{Visibility}
use Rattle.rb_tree.specs.declared.syntax.Suffix.{Suffix}
use Rattle.rb_tree.specs.declared.syntax.Argument.{Argument}
use Rattle.rb_tree.specs.declared.syntax.Block.{Block}
use Rattle.rb_tree.specs.declared.syntax.Piece.{Piece}
use Rattle.rb_tree.specs.declared.syntax.Piece.TheVariants as piece
use Rattle.rb_tree.specs.declared.syntax.Pair.{Pair}
use Rattle.rb_tree.specs.declared.syntax.Arm.{Arm}
use Rattle.rb_tree.specs.declared.syntax.When.{When}
use Rattle.rb_tree.specs.declared.syntax.PlacedName.{PlacedName}
use Rattle.rb_tree.specs.declared.syntax.Reference.{Reference}
use Rattle.rb_tree.specs.declared.syntax.Guarded.{Guarded}
use Rattle.rb_tree.specs.declared.syntax.Rescue.{Rescue}
use Rattle.rb_tree.specs.declared.syntax.Parameter.{Parameter}
use Rattle.rb_rules.specs.Spans.{across, last_of, suffix_span, argument_span, block_or}
use Rattle.rb_rules.specs.Forms.{Site}
use Rattle.rb_rules.specs.Grammar.{posted, span_of_arguments, named_call, Gap, GapIn, Then, BarNames, Bars, Path, Superclass, MethodName, Owner, Parted, RescueVariable, DerivesBody, DerivesMore, DerivesStatement, DerivesModified, DerivesSimple, DerivesValue, DerivesTarget, DerivesCallee, DerivesArguments, DerivesArgument, DerivesTerm, DerivesLevel, DerivesPrefixed, DerivesOperand, DerivesSuffix, DerivesIndex, DerivesEnd, DerivesBrackets, DerivesBlockAfter, DerivesBlock, DerivesDo, DerivesPrimary, DerivesPieces, DerivesElements, DerivesPairs, DerivesPair, DerivesArms, DerivesElse, DerivesSubject, DerivesWhens, DerivesPatterns, DerivesGuarded, DerivesRescues, DerivesRaised, DerivesEnsure, DerivesDeclaration, DerivesMethod, DerivesParameters, DerivesParameterList, DerivesParameter}
use Rattle.rb_rules.specs.Grammar.Gap.{Closed, Wide}
use Rattle.rb_rules.specs.Grammar.GapIn.{Tight, Loose}
use Rattle.rb_rules.specs.Grammar.Then.{Word, Line, LineWord}
use Rattle.rb_rules.specs.Grammar.BarNames.{LastBar, MoreBars}
use Rattle.rb_rules.specs.Grammar.Bars.{NoBars, SomeBars}
use Rattle.rb_rules.specs.Grammar.Path.{LastName, MoreNames}
use Rattle.rb_rules.specs.Grammar.Superclass.{NoSuperclass, Named, NamedFromTop}
use Rattle.rb_rules.specs.Grammar.MethodName.{Plain, Writer, Capital, Operator}
use Rattle.rb_rules.specs.Grammar.Owner.{Other, Own as OwnSelf}
use Rattle.rb_rules.specs.Grammar.DerivesBody.{NoStatement, Statements}
use Rattle.rb_rules.specs.Grammar.DerivesMore.{NoMore, Another}
use Rattle.rb_rules.specs.Grammar.DerivesStatement.{Declared, Simply}
use Rattle.rb_rules.specs.Grammar.DerivesModified.{Unmodified, Modified}
use Rattle.rb_rules.specs.Grammar.DerivesSimple.{Valued, Jumps, JumpsWith}
use Rattle.rb_rules.specs.Grammar.DerivesValue.{Term, Assigns, Computes, Command}
use Rattle.rb_rules.specs.Grammar.DerivesTarget.{Variable, Instance, Constant, Attribute, Element}
use Rattle.rb_rules.specs.Grammar.DerivesCallee.{Own, Of, YieldWord, SuperWord}
use Rattle.rb_rules.specs.Grammar.DerivesArguments.{LastArgument, MoreArguments}
use Rattle.rb_rules.specs.Grammar.DerivesArgument.{ByPlace, ByName, AsBlock}
use Rattle.rb_rules.specs.Grammar.DerivesTerm.{Operated, Conditional}
use Rattle.rb_rules.specs.Grammar.DerivesLevel.{Tighter, FromLeft, Once, Negated, Raised, Plainly}
use Rattle.rb_rules.specs.Grammar.DerivesPrefixed.{Prefixed, Posted}
use Rattle.rb_rules.specs.Grammar.DerivesOperand.{Bare, Suffixed}
use Rattle.rb_rules.specs.Grammar.DerivesSuffix.{Calls, Within as WithinName, Indexed}
use Rattle.rb_rules.specs.Grammar.DerivesIndex.{Index}
use Rattle.rb_rules.specs.Grammar.DerivesEnd.{NoComma, LastComma}
use Rattle.rb_rules.specs.Grammar.DerivesBrackets.{NoBrackets, EmptyBrackets, Brackets}
use Rattle.rb_rules.specs.Grammar.DerivesBlockAfter.{NoBlock, SomeBlock}
use Rattle.rb_rules.specs.Grammar.DerivesBlock.{Braces, DoEnd}
use Rattle.rb_rules.specs.Grammar.DerivesDo.{NoDo, SomeDo}
use Rattle.rb_rules.specs.Grammar.DerivesPrimary.{WholeNumber, FloatNumber, SignedWhole, SignedFloat, String, SymbolName, InstanceName, ConstantName, FromTop, SelfPlace, NilPlace, TruePlace, FalsePlace, NameAlone, CallWithBrackets, CallWithBlock, Yields, Supers, EmptyArray, SomeArray, EmptyHash, SomeHash, InParens, Branches, Loops, Guards, Cases}
use Rattle.rb_rules.specs.Grammar.DerivesPieces.{NoPiece, MorePieces}
use Rattle.rb_rules.specs.Grammar.DerivesElements.{LastElement, MoreElements}
use Rattle.rb_rules.specs.Grammar.DerivesPairs.{LastPair, MorePairs}
use Rattle.rb_rules.specs.Grammar.DerivesPair.{ByArrow, ByLabel}
use Rattle.rb_rules.specs.Grammar.DerivesArms.{NoArm, MoreArms}
use Rattle.rb_rules.specs.Grammar.DerivesElse.{NoElse, SomeElse}
use Rattle.rb_rules.specs.Grammar.DerivesSubject.{NoSubject, SomeSubject}
use Rattle.rb_rules.specs.Grammar.DerivesWhens.{NoWhen, MoreWhens}
use Rattle.rb_rules.specs.Grammar.DerivesPatterns.{LastPattern, MorePatterns}
use Rattle.rb_rules.specs.Grammar.Parted.{AfterNothing, AfterSeparator}
use Rattle.rb_rules.specs.Grammar.RescueVariable.{NoVariable, Bound}
use Rattle.rb_rules.specs.Grammar.DerivesGuarded.{Unrescued, Rescued}
use Rattle.rb_rules.specs.Grammar.DerivesRescues.{NoRescue, MoreRescues}
use Rattle.rb_rules.specs.Grammar.DerivesRaised.{AnyError, SomeErrors}
use Rattle.rb_rules.specs.Grammar.DerivesEnsure.{NoEnsure, SomeEnsure}
use Rattle.rb_rules.specs.Grammar.DerivesDeclaration.{ClassOf, ModuleOf, Method, VisibleMethod}
use Rattle.rb_rules.specs.Grammar.DerivesMethod.{Def}
use Rattle.rb_rules.specs.Grammar.DerivesParameters.{NoParameters, OpenParameters, EmptyParens, InBrackets}
use Rattle.rb_rules.specs.Grammar.DerivesParameterList.{LastParameter, MoreParameters}
use Rattle.rb_rules.specs.Grammar.DerivesParameter.{Required, Optional, RequiredKeyword, OptionalKeyword, BlockParameter}
use Rattle.rb_tree.specs.Trees.{span_of, span_at}
use Rattle.rb_tree.specs.declared.syntax.Node.TheViews.{roll-Node}
use Rattle.rb_tree.specs.declared.syntax.Node.{Node}
use Rattle.rb_tree.specs.declared.syntax.Node.TheOpen.{Node-F}
use Rattle.rb_tree.specs.declared.syntax.Node.TheVariants.{rolls-Body, rolls-Modified, rolls-Jump, rolls-Assign, rolls-OperatorAssign, rolls-Command, rolls-Conditional, rolls-Binary, rolls-Unary, rolls-Post, rolls-Whole, rolls-Float, rolls-Text, rolls-Symbol, rolls-InstanceVariable, rolls-Constant, rolls-TopConstant, rolls-SelfWord, rolls-Nil, rolls-True, rolls-False, rolls-Name, rolls-Call, rolls-Yield, rolls-Super, rolls-Array, rolls-Hash, rolls-Parens, rolls-If, rolls-While, rolls-Case, rolls-Begin, rolls-Class, rolls-Module, rolls-Def}
use Rattle.rb_tree.specs.Nodes as tree
use Rattle.rb_tree.specs.declared.syntax.Argument.TheVariants as argument_kind
use Rattle.rb_tree.specs.declared.syntax.Suffix.TheVariants as suffix_kind
use Rattle.rb_nesting_laws.specs.Parts.{Parts, nothing, both, all_of, any_of, at_place, of_tree, of_body, of_name, of_reference, of_argument, of_arguments, of_block, of_suffix, of_piece, of_pair, of_arm, of_when, of_parameter, of_rescue, of_guarded, of_node}
use Rattle.rb_nesting_laws.specs.Nesting.{end_of_last}
use Rattle.rb_nesting_laws.proofs.Rows.{both-nothing, both-assoc, all-more, end-append, end-of-all}
use Rattle.rb_nesting_laws.proofs.Goes.{Row, past, within, itself, after, Goes, none, also, skip, leaves, at-token, Spans, spans-token, spans-between, spans-from, spans-row, held-in, as-tree, as-body, as-empty, Closes, closes-nothing, closes-token, further, closes-at, closes-with, closes-still, spans-closed}

-- ---- separators

gap : {p : ℕ} {xs ys : List Token} → Gap xs ys → Row p xs → Row p ys
gap (Closed _) r = r
gap (Wide t _ _ _ g) r = gap g (past t r)

gap-in : {b : Bool} {p : ℕ} {xs ys : List Token} → GapIn b xs ys → Row p xs → Row p ys
gap-in (Tight _) r = r
gap-in (Loose _ _ g) r = gap g r

then-word : {p : ℕ} {xs ys : List Token} → Then xs ys → Row p xs → Row p ys
then-word (Word t _ _) r = past t r
then-word (Line t _ _) r = past t r
then-word (LineWord s t _ _ _) r = past t (past s r)

end-of : {p : ℕ} {xs ys : List Token} → DerivesEnd xs ys → Row p xs → Row p ys
end-of (NoComma _ _ g) r = gap g r
end-of (LastComma c _ _ _ g) r = gap g (past c r)

parted : {before : Tree} {p : ℕ} {xs ys : List Token} → Parted before xs ys → Row p xs → Row p ys
parted (AfterNothing _) r = r
parted (AfterSeparator _ t _ _) r = past t r

own : {b : Bool} {p : ℕ} {xs ys : List Token} → Owner b xs ys → Row p xs → Row p ys
own (Other _) r = r
own (OwnSelf s d _ _ _) r = past d (past s r)

-- ---- names

bar-names : {p : ℕ} {names : List PlacedName} {xs ys : List Token} → BarNames names xs ys → Row p xs → Goes p (all_of of_name names) ys
bar-names (LastBar t _ _ _) r = let a = at-token t r in also a (none a.left)
bar-names (MoreBars t c _ _ _ _ _ _ d) r = let a = at-token t r in also a (bar-names d (past c a.left))

bars : {p : ℕ} {names : List PlacedName} {xs ys : List Token} → Bars names xs ys → Row p xs → Goes p (all_of of_name names) ys
bars (NoBars _) r = none r
bars (SomeBars o c _ _ _ _ d _ _) r = skip c (bar-names d (past o r))

path-of : {p : ℕ} {long : Bool} {names : List PlacedName} {xs ys : List Token} → Path long names xs ys → Row p xs → Goes p (all_of of_name names) ys
path-of (LastName _ t _ _ _) r = let a = at-token t r in also a (none a.left)
path-of (MoreNames t c _ _ _ _ _ _ d) r = let a = at-token t r in also a (path-of d (past c a.left))

name-place : PlacedName → Span
name-place n = n.span

-- where a path ends
end-of-path : (p : ℕ) (n : PlacedName) (more : List PlacedName) → end_of_last p (all_of of_name (n ∷ more)).places ≡ (last_of n more).span.end
unfolding name-place
end-of-path p n more = end-of-all of_name name-place (λ x q. refl) p n more

variable : {p : ℕ} {n : Option PlacedName} {xs ys : List Token} → RescueVariable n xs ys → Row p xs → Goes p (any_of of_name n) ys
variable (NoVariable _) r = none r
variable (Bound a t _ _ _ _) r = at-token t (past a r)

superclass : {p : ℕ} {s : Option Reference} {xs ys : List Token} → Superclass s xs ys → Row p xs → Goes p (any_of of_reference s) ys
superclass (NoSuperclass _) r = none r
superclass {p = p} (Named l n more _ _ _ d) r =
    held-in (spans-row n.span (all_of of_name more).places (last_of n more).span.end refl (path-of d (past l r)) (end-of-path p n more))
superclass (NamedFromTop l c n more _ _ _ _ d) r =
    let i = past l r in held-in (spans-from c (last_of n more).span.end i (path-of d (within c i)) (end-of-path c.span.start n more))

name-of : {p : ℕ} {w : List ℕ} {s : Span} {xs ys : List Token} → MethodName w s xs ys → Row p xs → Goes p (at_place s) ys
name-of (Plain t _ _ _) r = at-token t r
name-of (Writer t e _ _ _ _) r = let s = spans-between t e r (none (within t r)) in record { rise = (s.from, s.proper, tt); left = s.left; held = tt; nested = tt }
name-of (Capital t _ _ _) r = at-token t r
name-of (Operator t _ _ _) r = at-token t r

-- ---- parts in rows

-- a call of a name after a dot, without arguments
call-of : {p : ℕ} {ys : List Token} (d : Token) (how : Dot) (n : Token) (w : List ℕ) → Row p (d ∷ n ∷ ys) → Goes p (of_suffix (named_call d how n w)) ys
call-of d how n w r = held-in (spans-closed d n r (closes-still (closes-still (closes-token n (within d r)))))

suffix-ends : (s : Suffix Tree) (p : ℕ) → end_of_last p (of_suffix s).places ≡ (suffix_span s).end
suffix-ends (suffix_kind.Call how name name_span given b span) p = refl
suffix-ends (suffix_kind.Constant name name_span span) p = refl
suffix-ends (suffix_kind.Index given span) p = refl

argument-ends : (a : Argument Tree) (p : ℕ) → end_of_last p (of_argument a).places ≡ (argument_span a).end
argument-ends (argument_kind.Positional value) p = refl
argument-ends (argument_kind.Keyword name span value) p = refl
argument-ends (argument_kind.Block span value) p = refl

-- an operand with its suffixes
post : {p : ℕ} {ys : List Token} (r : Tree) (ss : List (Suffix Tree)) → Goes p (both (of_tree r) (all_of of_suffix ss)) ys → Goes p (of_tree (posted r ss)) ys
post {p = p} {ys = ys} r [] g = subst (λ ps. Goes p ps ys) (both-nothing (of_tree r)) g
post {p = p} r (s ∷ ss) g =
    as-tree _ (Node-F.Post r (s ∷ ss) (across (span_of r) (suffix_span (last_of s ss)))) (rolls-Post _ _ _)
    (spans-row (span_of r) (all_of of_suffix (s ∷ ss)).places (suffix_span (last_of s ss)).end refl g (end-of-all of_suffix suffix_span suffix-ends (span_of r).end s ss))

-- with one more
post-more : {p : ℕ} {xs ys : List Token} (r : Tree) (ss : List (Suffix Tree)) (s : Suffix Tree) → Goes p (both (of_tree r) (all_of of_suffix ss)) xs →
    Goes (end_of_last p (both (of_tree r) (all_of of_suffix ss)).places) (of_suffix s) ys → Goes p (both (of_tree r) (all_of of_suffix (ss ++ s ∷ []))) ys
post-more {p = p} {ys = ys} r ss s g h =
    subst (λ ps. Goes p ps ys) (both-assoc (of_tree r) (all_of of_suffix ss) (of_suffix s) ∙ ap (both (of_tree r)) (sym (all-more of_suffix ss s))) (also g h)

-- where the arguments of a command end
arguments-end : (p : ℕ) (s : Span) (given : List (Argument Tree)) → p ≡ s.end → end_of_last p (of_arguments given).places ≡ (span_of_arguments s given).end
arguments-end p s [] e = e
arguments-end p s (a ∷ more) e = end-of-all of_argument argument_span argument-ends p a more

-- and the command
command-ends : (p : ℕ) (s : Span) (given : List (Argument Tree)) (b : Option (Block Tree)) → p ≡ s.end →
    end_of_last p (both (of_arguments given) (any_of of_block b)).places ≡ (block_or (span_of_arguments s given) b).end
command-ends p s given None e = end-append p (of_arguments given).places [] ∙ arguments-end p s given e
command-ends p s given (Some b) e = end-append p (of_arguments given).places (of_block b).places

-- a binary operation
binary : {p : ℕ} {xs ys : List Token} (o : Token) (operator : Binary) (a b : Tree) → Goes p (of_tree a) (o ∷ xs) → Goes o.span.end (of_tree b) ys → Goes p (of_tree (tree.Binary operator o.span a b (across (span_of a) (span_of b)))) ys
binary o operator a b g h =
    let x = at-token o g.left in
    as-tree _ (Node-F.Binary operator o.span a b (across (span_of a) (span_of b))) (rolls-Binary _ _ _ _ _)
    (spans-row (span_of a) (o.span ∷ span_of b ∷ []) (span_of b).end refl (also (also g x) h) refl)

-- an operator in front
unary : {p : ℕ} {xs ys : List Token} (m : Token) (operator : Unary) (a : Tree) → Row p (m ∷ xs) → Goes m.span.start (of_tree a) ys → Goes p (of_tree (tree.Unary operator a (across m.span (span_of a)))) ys
unary m operator a r g = as-tree _ (Node-F.Unary operator a (across m.span (span_of a))) (rolls-Unary _ _ _) (spans-from m (span_of a).end r g refl)

-- a token alone that is an operand
token-tree : {p : ℕ} {xs : List Token} (t : Token) (u : Tree) (r : Node-F Node Tree) → roll-Node r ≡ u.node → span_at r ≡ t.span → of_node r ≡ nothing → Row p (t ∷ xs) → Goes p (of_tree u) xs
token-tree {p = p} {xs = xs} t u r e f n i = as-tree u r e (subst (λ s. Spans p s (of_node r) xs) (sym f) (subst (λ ps. Spans p t.span ps xs) (sym n) (spans-token t i)))

-- so are two of them
signed-tree : {p : ℕ} {xs : List Token} (s t : Token) (u : Tree) (r : Node-F Node Tree) → roll-Node r ≡ u.node → span_at r ≡ across s.span t.span → of_node r ≡ nothing → Row p (s ∷ t ∷ xs) → Goes p (of_tree u) xs
signed-tree {p = p} {xs = xs} s t u r e f n i =
    as-tree u r e (subst (λ z. Spans p z (of_node r) xs) (sym f) (subst (λ ps. Spans p (across s.span t.span) ps xs) (sym n) (spans-between s t i (none (within s i)))))

-- ---- the forms

mutual
  pub body : {p : ℕ} {at : Site} {free : Bool} {t : Tree} {xs ys : List Token} → DerivesBody at free t xs ys → Row p xs → Goes p (of_body t) ys
  body (NoStatement _ _ _ _ g) r = as-empty _ (record { start = 0; end = 0 }) (rolls-Body _ _) (omega arith) (gap g r)
  body {p = p} (Statements _ _ s ss _ _ _ _ _ g d more h) r =
      let a = statement d (gap g r) in
      let b = also a (others more a.left) in
      let c = leaves b (gap h b.left) in
      as-body _ (Node-F.Body (s ∷ ss) (across (span_of s) (span_of (last_of s ss)))) (rolls-Body _ _) refl
      (spans-row (span_of s) (all_of of_tree ss).places (span_of (last_of s ss)).end refl c (end-of-all of_tree span_of (λ x q. refl) p s ss))

  others : {p : ℕ} {at : Site} {free : Bool} {ss : List Tree} {xs ys : List Token} → DerivesMore at free ss xs ys → Row p xs → Goes p (all_of of_tree ss) ys
  others (NoMore _ _ _) r = none r
  others (Another _ _ t _ _ _ _ _ _ _ g d more) r = let a = statement d (gap g (past t r)) in also a (others more a.left)

  statement : {p : ℕ} {at : Site} {free : Bool} {t : Tree} {xs ys : List Token} → DerivesStatement at free t xs ys → Row p xs → Goes p (of_tree t) ys
  statement (Declared _ _ _ _ _ _ d) r = declaration d r
  statement (Simply _ _ _ _ _ _ _ d m) r = modified m (simple d r)

  modified : {p : ℕ} {free : Bool} {s t : Tree} {xs ys : List Token} → DerivesModified free s t xs ys → Goes p (of_tree s) xs → Goes p (of_tree t) ys
  modified (Unmodified _ _ _) g = g
  modified (Modified _ m word s c _ _ _ _ _ _ d k) g =
      let a = simple d (past m g.left) in
      modified k (
      as-tree _ (Node-F.Modified s word c (across (span_of s) (span_of c))) (rolls-Modified _ _ _ _)
      (spans-row (span_of s) (span_of c ∷ []) (span_of c).end refl (also g a) refl)
      )

  simple : {p : ℕ} {constants free : Bool} {t : Tree} {xs ys : List Token} → DerivesSimple constants free t xs ys → Row p xs → Goes p (of_tree t) ys
  simple (Valued _ _ _ _ _ d) r = value d r
  simple (Jumps _ _ j word _ _) r = token-tree j _ (Node-F.Jump word None j.span) (rolls-Jump _ _ _) refl refl r
  simple (JumpsWith _ _ j word v _ _ _ _ d) r =
      as-tree _ (Node-F.Jump word (Some v) (across j.span (span_of v))) (rolls-Jump _ _ _) (spans-from j (span_of v).end r (value d (within j r)) refl)

  value : {p : ℕ} {constants free : Bool} {t : Tree} {xs ys : List Token} → DerivesValue constants free t xs ys → Row p xs → Goes p (of_tree t) ys
  value (Term _ _ _ _ _ d) r = term d r
  value (Assigns _ _ e x v _ _ _ d _ k) r =
      let a = target d r in let b = value k (past e a.left) in
      as-tree _ (Node-F.Assign x v (across (span_of x) (span_of v))) (rolls-Assign _ _ _) (spans-row (span_of x) (span_of v ∷ []) (span_of v).end refl (also a b) refl)
  value (Computes _ _ o operator x v _ _ _ d _ k) r =
      let a = target d r in let b = also a (at-token o a.left) in let c = value k b.left in
      as-tree _ (Node-F.OperatorAssign x operator o.span v (across (span_of x) (span_of v))) (rolls-OperatorAssign _ _ _ _ _)
      (spans-row (span_of x) (o.span ∷ span_of v ∷ []) (span_of v).end refl (also b c) refl)
  value {p = p} (Command _ _ x given b _ _ _ _ d _ e _ k _) r =
      let c = callee d r in let a = also c (arguments e c.left) in let l = also a (do-after k a.left) in
      as-tree _ (Node-F.Command x given b (across (span_of x) (block_or (span_of_arguments (span_of x) given) b))) (rolls-Command _ _ _ _)
      (spans-row (span_of x) (both (of_arguments given) (any_of of_block b)).places (block_or (span_of_arguments (span_of x) given) b).end refl l
      (command-ends (span_of x).end (span_of x) given b refl))

  target : {p : ℕ} {constants free : Bool} {t : Tree} {xs ys : List Token} → DerivesTarget constants free t xs ys → Row p xs → Goes p (of_tree t) ys
  target (Variable _ _ t w _ _) r = token-tree t _ (Node-F.Name w t.span) (rolls-Name _ _) refl refl r
  target (Instance _ _ t w _ _) r = token-tree t _ (Node-F.InstanceVariable w t.span) (rolls-InstanceVariable _ _) refl refl r
  target (Constant _ t w _ _) r = token-tree t _ (Node-F.Constant w t.span) (rolls-Constant _ _) refl refl r
  target (Attribute _ _ _ d n x ss w _ _ e _ _) r = let a = operand e r in
      post x (ss ++ named_call d dot.Plain n w ∷ []) (post-more x ss (named_call d dot.Plain n w) a (call-of d dot.Plain n w a.left))
  target (Element _ _ _ _ x ss s _ _ _ e k) r = let a = operand e r in post x (ss ++ s ∷ []) (post-more x ss s a (index k a.left))

  callee : {p : ℕ} {free : Bool} {t : Tree} {xs ys : List Token} → DerivesCallee free t xs ys → Row p xs → Goes p (of_tree t) ys
  callee (Own _ t w _ _) r = token-tree t _ (Node-F.Name w t.span) (rolls-Name _ _) refl refl r
  callee (Of _ _ d n how x ss w _ _ e _ _) r = let a = operand e r in
      post x (ss ++ named_call d how n w ∷ []) (post-more x ss (named_call d how n w) a (call-of d how n w a.left))
  callee (YieldWord _ t _ _) r = token-tree t _ (Node-F.Yield None t.span) (rolls-Yield _ _) refl refl r
  callee (SuperWord _ t _ _) r = token-tree t _ (Node-F.Super None t.span) (rolls-Super _ _) refl refl r

  arguments : {p : ℕ} {bracketed free : Bool} {given : List (Argument Tree)} {xs ys : List Token} → DerivesArguments bracketed free given xs ys → Row p xs → Goes p (of_arguments given) ys
  arguments (LastArgument _ _ _ _ _ d) r = let a = argument d r in also a (none a.left)
  arguments (MoreArguments _ _ c _ _ _ _ _ _ d _ g m) r = let a = argument d r in also a (arguments m (gap-in g (past c a.left)))

  argument : {p : ℕ} {free : Bool} {a : Argument Tree} {xs ys : List Token} → DerivesArgument free a xs ys → Row p xs → Goes p (of_argument a) ys
  argument (ByPlace _ _ _ _ d) r = term d r
  argument (ByName _ l _ _ _ _ _ d) r = let a = at-token l r in also a (term d a.left)
  argument (AsBlock _ l _ _ _ _ d) r = let a = at-token l r in also a (term d a.left)

  term : {p : ℕ} {free : Bool} {t : Tree} {xs ys : List Token} → DerivesTerm free t xs ys → Row p xs → Goes p (of_tree t) ys
  term (Operated _ _ _ _ d) r = level d r
  term (Conditional _ q k c a b _ _ _ _ d _ e _ f) r =
      let x = level d r in let y = also x (term e (past q x.left)) in let z = also y (term f (past k y.left)) in
      as-tree _ (Node-F.Conditional c a b (across (span_of c) (span_of b))) (rolls-Conditional _ _ _ _)
      (spans-row (span_of c) (span_of a ∷ span_of b ∷ []) (span_of b).end refl z refl)

  level : {p : ℕ} {n : ℕ} {free : Bool} {t : Tree} {xs ys : List Token} → DerivesLevel n free t xs ys → Row p xs → Goes p (of_tree t) ys
  level (Tighter _ _ _ _ _ _ d) r = level d r
  level (FromLeft _ _ o operator a b _ _ _ _ d _ e) r = let x = level d r in binary o operator a b x (level e (after o x.left))
  level (Once _ o operator a b _ _ _ d _ e) r = let x = level d r in binary o operator a b x (level e (after o x.left))
  level (Negated _ m a _ _ _ _ d) r = unary m unary_word.Minus a r (level d (within m r))
  level (Raised _ o a b _ _ _ d _ e) r = let x = prefixed d r in binary o binary_word.Power a b x (level e (after o x.left))
  level (Plainly _ _ _ _ d) r = prefixed d r

  prefixed : {p : ℕ} {free : Bool} {t : Tree} {xs ys : List Token} → DerivesPrefixed free t xs ys → Row p xs → Goes p (of_tree t) ys
  prefixed (Prefixed _ m operator a _ _ _ _ d) r = unary m operator a r (prefixed d (within m r))
  prefixed (Posted _ _ x ss _ _ d) r = post x ss (operand d r)

  operand : {p : ℕ} {free : Bool} {x : Tree} {ss : List (Suffix Tree)} {last : Token} {xs ys : List Token} → DerivesOperand free x ss last xs ys → Row p xs → Goes p (both (of_tree x) (all_of of_suffix ss)) ys
  operand (Bare _ _ _ _ _ d) r = let a = primary d r in also a (none a.left)
  operand (Suffixed _ _ _ x ss s _ _ _ d e) r = let a = operand d r in post-more x ss s a (suffix e a.left)

  suffix : {p : ℕ} {free : Bool} {s : Suffix Tree} {before last : Token} {xs ys : List Token} → DerivesSuffix free s before last xs ys → Row p xs → Goes p (of_suffix s) ys
  suffix (Calls _ _ d n _ last _ _ _ _ _ _ _ _ _ e k _) r = held-in (spans-closed d last r (block-after k (brackets e (closes-token n (within d r)))))
  suffix (WithinName _ _ c n _ _ _ _) r = held-in (spans-closed c n r (closes-token n (within c r)))
  suffix (Indexed _ _ _ _ _ _ d) r = index d r

  index : {p : ℕ} {s : Suffix Tree} {before last : Token} {xs ys : List Token} → DerivesIndex s before last xs ys → Row p xs → Goes p (of_suffix s) ys
  index (Index _ o c _ _ _ _ _ _ _ g d _ e _) r = let a = arguments d (gap g (within o r)) in held-in (spans-between o c r (leaves a (end-of e a.left)))

  brackets : {p : ℕ} {a : Parts} {given : Option (List (Argument Tree))} {before last : Token} {xs ys : List Token} → DerivesBrackets given before last xs ys → Closes p a before xs → Closes p (both a (any_of of_arguments given)) last ys
  brackets (NoBrackets _ _) k = closes-still k
  brackets (EmptyBrackets _ o c _ _ _ g _) k = closes-at c (further k (none (gap g (past o k.left))))
  brackets (Brackets _ o c _ _ _ _ _ _ g d _ h _) k = let a = arguments d (gap g (past o k.left)) in closes-at c (further k (leaves a (gap h a.left)))

  block-after : {p : ℕ} {a : Parts} {free : Bool} {b : Option (Block Tree)} {before last : Token} {xs ys : List Token} → DerivesBlockAfter free b before last xs ys → Closes p a before xs → Closes p (both a (any_of of_block b)) last ys
  block-after (NoBlock _ _ _) k = closes-still k
  block-after {p = p} {a = a} (SomeBlock _ _ last b _ _ d) k =
      let g = block d k.left in closes-with last (further k g.0) (end-append p a.places (of_block b).places ∙ g.1)

  block : {p : ℕ} {free : Bool} {b : Block Tree} {last : Token} {xs ys : List Token} → DerivesBlock free b last xs ys → Row p xs → Goes p (of_block b) ys × (b.span.end ≡ last.span.end)
  block (Braces _ o c _ _ _ _ _ _ k d _) r = let a = bars k (within o r) in (held-in (spans-between o c r (also a (body d a.left))), refl)
  block (DoEnd o c _ _ _ _ _ _ k d _) r = let a = bars k (within o r) in (held-in (spans-between o c r (also a (body d a.left))), refl)

  do-after : {p : ℕ} {free : Bool} {b : Option (Block Tree)} {xs ys : List Token} → DerivesDo free b xs ys → Row p xs → Goes p (any_of of_block b) ys
  do-after (NoDo _ _) r = none r
  do-after (SomeDo _ _ _ _ _ _ d) r = (block d r).0

  primary : {p : ℕ} {free : Bool} {t : Tree} {last : Token} {xs ys : List Token} → DerivesPrimary free t last xs ys → Row p xs → Goes p (of_tree t) ys
  primary (WholeNumber _ t w _ _) r = token-tree t _ (Node-F.Whole None w t.span) (rolls-Whole _ _ _) refl refl r
  primary (FloatNumber _ t w _ _) r = token-tree t _ (Node-F.Float None w t.span) (rolls-Float _ _ _) refl refl r
  primary (SignedWhole _ s t how w _ _ _ _ _) r = signed-tree s t _ (Node-F.Whole (Some how) w (across s.span t.span)) (rolls-Whole _ _ _) refl refl r
  primary (SignedFloat _ s t how w _ _ _ _ _) r = signed-tree s t _ (Node-F.Float (Some how) w (across s.span t.span)) (rolls-Float _ _ _) refl refl r
  primary (String _ t last w ps _ _ _ d) r =
      as-tree _ (Node-F.Text (piece.Words w t.span ∷ ps) (across t.span last.span)) (rolls-Text _ _) (spans-closed t last r (pieces d (closes-token t (itself t r))))
  primary (SymbolName _ t w _ _) r = token-tree t _ (Node-F.Symbol w t.span) (rolls-Symbol _ _) refl refl r
  primary (InstanceName _ t w _ _) r = token-tree t _ (Node-F.InstanceVariable w t.span) (rolls-InstanceVariable _ _) refl refl r
  primary (ConstantName _ t w _ _) r = token-tree t _ (Node-F.Constant w t.span) (rolls-Constant _ _) refl refl r
  primary (FromTop _ c t w _ _ _) r =
      as-tree _ (Node-F.TopConstant w t.span (across c.span t.span)) (rolls-TopConstant _ _ _) (spans-closed c t r (closes-token t (within c r)))
  primary (SelfPlace _ t _ _) r = token-tree t _ (Node-F.SelfWord t.span) (rolls-SelfWord _) refl refl r
  primary (NilPlace _ t _ _) r = token-tree t _ (Node-F.Nil t.span) (rolls-Nil _) refl refl r
  primary (TruePlace _ t _ _) r = token-tree t _ (Node-F.True t.span) (rolls-True _) refl refl r
  primary (FalsePlace _ t _ _) r = token-tree t _ (Node-F.False t.span) (rolls-False _) refl refl r
  primary (NameAlone _ t w _ _) r = token-tree t _ (Node-F.Name w t.span) (rolls-Name _ _) refl refl r
  primary (CallWithBrackets _ t _ last w given b _ _ _ _ d e _) r =
      as-tree _ (Node-F.Call w t.span (Some given) b (across t.span last.span)) (rolls-Call _ _ _ _ _)
      (spans-closed t last r (block-after e (brackets d (closes-token t (itself t r)))))
  primary (CallWithBlock _ t last w b _ _ _ d) r = let k = closes-token t (itself t r) in let g = block d k.left in
      as-tree _ (Node-F.Call w t.span None (Some b) (across t.span last.span)) (rolls-Call _ _ _ _ _)
      (spans-closed t last r (closes-with last (further (closes-still k) g.0) g.1))
  primary (Yields _ t last given _ _ _ d) r =
      as-tree _ (Node-F.Yield given (across t.span last.span)) (rolls-Yield _ _) (spans-closed t last r (brackets d (closes-nothing t r)))
  primary (Supers _ t last given _ _ _ d) r =
      as-tree _ (Node-F.Super given (across t.span last.span)) (rolls-Super _ _) (spans-closed t last r (brackets d (closes-nothing t r)))
  primary (EmptyArray _ o c _ _ _ g _) r = as-tree _ (Node-F.Array [] (across o.span c.span)) (rolls-Array _ _) (spans-between o c r (none (gap g (within o r))))
  primary (SomeArray _ o c es _ _ _ _ _ g d e _) r = let a = elements d (gap g (within o r)) in
      as-tree _ (Node-F.Array es (across o.span c.span)) (rolls-Array _ _) (spans-between o c r (leaves a (end-of e a.left)))
  primary (EmptyHash _ o c _ _ _ g _) r = as-tree _ (Node-F.Hash [] (across o.span c.span)) (rolls-Hash _ _) (spans-between o c r (none (gap g (within o r))))
  primary (SomeHash _ o c ps _ _ _ _ _ g d e _) r = let a = pairs d (gap g (within o r)) in
      as-tree _ (Node-F.Hash ps (across o.span c.span)) (rolls-Hash _ _) (spans-between o c r (leaves a (end-of e a.left)))
  primary (InParens _ o c b _ _ _ d _) r = as-tree _ (Node-F.Parens b (across o.span c.span)) (rolls-Parens _ _) (spans-between o c r (body d (within o r)))
  primary (Branches _ k e word c b arms z _ _ _ _ _ _ _ dc th db da _ dz _) r =
      let x = simple dc (within k r) in
      let y = also x (body db (then-word th x.left)) in
      let v = also y (arms-of da y.left) in
      let w = also v (else-of dz v.left) in
      as-tree _ (Node-F.If word c b arms z (across k.span e.span)) (rolls-If _ _ _ _ _ _) (spans-between k e r w)
  primary (Loops _ k d e word c b _ _ _ _ dc _ db _) r =
      let x = simple dc (within k r) in let y = also x (body db (past d x.left)) in
      as-tree _ (Node-F.While word c b (across k.span e.span)) (rolls-While _ _ _ _) (spans-between k e r y)
  primary (Guards _ k e g _ _ _ d _) r = as-tree _ (Node-F.Begin g (across k.span e.span)) (rolls-Begin _ _) (spans-between k e r (guarded d (within k r)))
  primary (Cases _ k e t arm arms z _ _ _ _ _ _ dt g da dz _) r =
      let x = subject dt (within k r) in
      let y = also x (whens da (gap g x.left)) in
      let w = also y (else-of dz y.left) in
      as-tree _ (Node-F.Case t (arm ∷ arms) z (across k.span e.span)) (rolls-Case _ _ _ _) (spans-between k e r w)

  pieces : {p : ℕ} {a : Parts} {ps : List (Piece Tree)} {before last : Token} {xs ys : List Token} → DerivesPieces ps before last xs ys → Closes p a before xs → Closes p (both a (all_of of_piece ps)) last ys
  pieces (NoPiece _ _) k = closes-still k
  pieces {p = p} {a = a} {last = last} {ys = ys} (MorePieces _ o c t _ b w more _ _ _ _ d _ _ e) k =
      let x = held-in (spans-between o c k.left (body d (within o k.left))) in
      let y = further k x in
      let z = pieces e (closes-with t (also y (at-token t y.left)) (end-append p (both a (of_piece (piece.Code b (across o.span c.span)))).places (t.span ∷ []))) in
      subst (λ q. Closes p q last ys)
      (both-assoc (both a (of_piece (piece.Code b (across o.span c.span)))) (of_piece (piece.Words w t.span)) (all_of of_piece more)
      ∙ both-assoc a (of_piece (piece.Code b (across o.span c.span))) (both (of_piece (piece.Words w t.span)) (all_of of_piece more)))
      z

  elements : {p : ℕ} {es : List Tree} {xs ys : List Token} → DerivesElements es xs ys → Row p xs → Goes p (all_of of_tree es) ys
  elements (LastElement _ _ _ d) r = let a = term d r in also a (none a.left)
  elements (MoreElements c _ _ _ _ _ _ d _ g m) r = let a = term d r in also a (elements m (gap g (past c a.left)))

  pairs : {p : ℕ} {ps : List (Pair Tree)} {xs ys : List Token} → DerivesPairs ps xs ys → Row p xs → Goes p (all_of of_pair ps) ys
  pairs (LastPair _ _ _ d) r = let a = pair-of d r in also a (none a.left)
  pairs (MorePairs c _ _ _ _ _ _ d _ g m) r = let a = pair-of d r in also a (pairs m (gap g (past c a.left)))

  pair-of : {p : ℕ} {q : Pair Tree} {xs ys : List Token} → DerivesPair q xs ys → Row p xs → Goes p (of_pair q) ys
  pair-of (ByArrow o _ _ _ _ _ d _ e) r = let a = term d r in also a (term e (past o a.left))
  pair-of (ByLabel l _ _ _ _ _ d) r = let a = at-token l r in also a (term d a.left)

  arms-of : {p : ℕ} {free : Bool} {arms : List (Arm Tree)} {xs ys : List Token} → DerivesArms free arms xs ys → Row p xs → Goes p (all_of of_arm arms) ys
  arms-of (NoArm _ _) r = none r
  arms-of (MoreArms _ k _ _ _ _ _ _ _ _ _ dc th db m) r =
      let x = simple dc (past k r) in let y = also x (body db (then-word th x.left)) in also y (arms-of m y.left)

  else-of : {p : ℕ} {free : Bool} {t : Option Tree} {xs ys : List Token} → DerivesElse free t xs ys → Row p xs → Goes p (any_of of_body t) ys
  else-of (NoElse _ _) r = none r
  else-of (SomeElse _ k _ _ _ _ d) r = body d (past k r)

  subject : {p : ℕ} {free : Bool} {t : Option Tree} {xs ys : List Token} → DerivesSubject free t xs ys → Row p xs → Goes p (any_of of_tree t) ys
  subject (NoSubject _ _) r = none r
  subject (SomeSubject _ _ _ _ d) r = simple d r

  whens : {p : ℕ} {free : Bool} {arms : List (When Tree)} {xs ys : List Token} → DerivesWhens free arms xs ys → Row p xs → Goes p (all_of of_when arms) ys
  whens (NoWhen _ _) r = none r
  whens (MoreWhens _ k _ _ _ _ _ _ _ _ _ dp th db m) r =
      let x = patterns dp (past k r) in let y = also x (body db (then-word th x.left)) in also y (whens m y.left)

  patterns : {p : ℕ} {free : Bool} {ps : List Tree} {xs ys : List Token} → DerivesPatterns free ps xs ys → Row p xs → Goes p (all_of of_tree ps) ys
  patterns (LastPattern _ _ _ _ d) r = let a = term d r in also a (none a.left)
  patterns (MorePatterns _ c _ _ _ _ _ d _ m) r = let a = term d r in also a (patterns m (past c a.left))

  guarded : {p : ℕ} {free : Bool} {g : Guarded Tree} {xs ys : List Token} → DerivesGuarded free g xs ys → Row p xs → Goes p (of_guarded g) ys
  guarded (Unrescued _ _ _ _ _ _ d de) r =
      let x = body d r in let y = also x (none x.left) in let z = also y (none y.left) in also z (ensure-of de z.left)
  guarded (Rescued _ _ _ _ _ _ _ _ _ _ _ d dr dz de) r =
      let x = body d r in
      let y = also x (rescues dr x.left) in
      let z = also y (else-of dz y.left) in
      also z (ensure-of de z.left)

  rescues : {p : ℕ} {free : Bool} {before : Tree} {rs : List (Rescue Tree)} {xs ys : List Token} → DerivesRescues free before rs xs ys → Row p xs → Goes p (all_of of_rescue rs) ys
  rescues (NoRescue _ _ _) r = none r
  rescues (MoreRescues _ k _ _ _ _ _ _ _ _ _ _ _ _ f _ dr dv th db m) r =
      let x = raised dr (past k (parted f r)) in
      let y = also x (variable dv x.left) in
      let z = also y (body db (then-word th y.left)) in
      also z (rescues m z.left)

  raised : {p : ℕ} {free : Bool} {ps : List Tree} {xs ys : List Token} → DerivesRaised free ps xs ys → Row p xs → Goes p (all_of of_tree ps) ys
  raised (AnyError _ _) r = none r
  raised (SomeErrors _ _ _ _ d) r = patterns d r

  ensure-of : {p : ℕ} {free : Bool} {t : Option Tree} {xs ys : List Token} → DerivesEnsure free t xs ys → Row p xs → Goes p (any_of of_body t) ys
  ensure-of (NoEnsure _ _) r = none r
  ensure-of (SomeEnsure _ k _ _ _ _ d) r = body d (past k r)

  declaration : {p : ℕ} {at : Site} {t : Tree} {xs ys : List Token} → DerivesDeclaration at t xs ys → Row p xs → Goes p (of_tree t) ys
  declaration (ClassOf _ k s e path c b _ _ _ _ _ dp dr _ db _) r =
      let x = path-of dp (within k r) in
      let y = also x (superclass dr x.left) in
      let z = also y (body db (past s y.left)) in
      as-tree _ (Node-F.Class path c b (across k.span e.span)) (rolls-Class _ _ _ _) (spans-between k e r z)
  declaration (ModuleOf _ k s e path b _ _ _ _ dp _ db _) r =
      let x = path-of dp (within k r) in let y = also x (body db (past s x.left)) in
      as-tree _ (Node-F.Module path b (across k.span e.span)) (rolls-Module _ _ _) (spans-between k e r y)
  declaration (Method _ _ _ _ d) r = method d r
  declaration (VisibleMethod _ v _ _ _ _ _ _ _ d) r = method-after v d r

  -- a method without a visibility
  method : {p : ℕ} {t : Tree} {xs ys : List Token} → DerivesMethod None None t xs ys → Row p xs → Goes p (of_tree t) ys
  method (Def _ _ k e self w s ps b _ _ _ _ _ _ o n dp _ _ db _) r =
      let x = name-of n (own o (within k r)) in
      let y = also x (parameters dp x.left) in
      let z = also y (guarded db y.left) in
      as-tree _ (Node-F.Def None self w s ps b (across k.span e.span)) (rolls-Def _ _ _ _ _ _ _) (spans-between k e r z)

  -- one with a visibility in front
  method-after : {p : ℕ} {visible : Option Visibility} {t : Tree} {xs ys : List Token} (v : Token) → DerivesMethod visible (Some v) t xs ys → Row p (v ∷ xs) → Goes p (of_tree t) ys
  method-after v (Def visible _ k e self w s ps b _ _ _ _ _ _ o n dp _ _ db _) r =
      let x = name-of n (own o (past k (within v r))) in
      let y = also x (parameters dp x.left) in
      let z = also y (guarded db y.left) in
      as-tree _ (Node-F.Def visible self w s ps b (across v.span e.span)) (rolls-Def _ _ _ _ _ _ _) (spans-between v e r z)

  parameters : {p : ℕ} {ps : List (Parameter Tree)} {xs ys : List Token} → DerivesParameters ps xs ys → Row p xs → Goes p (all_of of_parameter ps) ys
  parameters (NoParameters s _ _) r = none (past s r)
  parameters (OpenParameters s _ _ _ _ d _) r = skip s (parameter-list d r)
  parameters (EmptyParens o c _ _ _ g _) r = none (past c (gap g (past o r)))
  parameters (InBrackets o c _ _ _ _ _ _ _ g d h _) r = let a = parameter-list d (gap g (past o r)) in leaves a (past c (gap h a.left))

  parameter-list : {p : ℕ} {bracketed : Bool} {ps : List (Parameter Tree)} {xs ys : List Token} → DerivesParameterList bracketed ps xs ys → Row p xs → Goes p (all_of of_parameter ps) ys
  parameter-list (LastParameter _ _ _ _ d) r = let a = parameter-of d r in also a (none a.left)
  parameter-list (MoreParameters _ c _ _ _ _ _ _ d _ g m) r = let a = parameter-of d r in also a (parameter-list m (gap-in g (past c a.left)))

  parameter-of : {p : ℕ} {q : Parameter Tree} {xs ys : List Token} → DerivesParameter q xs ys → Row p xs → Goes p (of_parameter q) ys
  parameter-of (Required t _ _ _) r = let a = at-token t r in also a (none a.left)
  parameter-of (Optional t e _ _ _ _ _ _ d) r = let a = at-token t r in also a (term d (past e a.left))
  parameter-of (RequiredKeyword l _ _ _) r = let a = at-token l r in also a (none a.left)
  parameter-of (OptionalKeyword l _ _ _ _ _ d) r = let a = at-token l r in also a (term d a.left)
  parameter-of (BlockParameter o t _ _ _ _) r = let a = at-token t (past o r) in also a (none a.left)
