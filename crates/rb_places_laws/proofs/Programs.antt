-- The places of errors in the tree of a program are those of its tokens: in that of each form they are so, and it begins where the
-- tokens do that it is read from, and ends where one of them ends.
use Rattle.std.proofs.Common.{ℕ, Bool, List, [], ◌∷◌, Option, Some, None, inl, inr, refl}
use Rattle.srb_terms.specs.declared.span.Span.{Span}
use Rattle.rb_tree.specs.declared.token.Token.{Token}
use Rattle.rb_tree.specs.declared.syntax.Tree.{Tree}
use Rattle.rb_tree.specs.declared.syntax.Binary.TheVariants as binary_word
use Rattle.rb_tree.specs.declared.syntax.Dot.{Dot}
use Rattle.rb_tree.specs.declared.syntax.Dot.TheVariants as dot
use Rattle.rb_tree.specs.declared.syntax.Visibility.{Visibility}
use Rattle.rb_tree.specs.declared.syntax.Suffix.{Suffix}
use Rattle.rb_tree.specs.declared.syntax.Argument.{Argument}
use Rattle.rb_tree.specs.declared.syntax.Block.{Block}
use Rattle.rb_tree.specs.declared.syntax.Piece.{Piece}
use Rattle.rb_tree.specs.declared.syntax.Piece.TheVariants as piece
use Rattle.rb_tree.specs.declared.syntax.Pair.{Pair}
use Rattle.rb_tree.specs.declared.syntax.Arm.{Arm}
use Rattle.rb_tree.specs.declared.syntax.When.{When}
use Rattle.rb_tree.specs.declared.syntax.PlacedName.{PlacedName}
use Rattle.rb_tree.specs.declared.syntax.Reference.{Reference}
use Rattle.rb_tree.specs.declared.syntax.Guarded.{Guarded}
use Rattle.rb_tree.specs.declared.syntax.Rescue.{Rescue}
use Rattle.rb_tree.specs.declared.syntax.Parameter.{Parameter}
use Rattle.rb_rules.specs.Tokens.{IsOneOf}
use Rattle.rb_rules.specs.Spans.{across}
use Rattle.rb_rules.specs.Forms.{Site}
use Rattle.rb_rules.specs.Grammar.{named_call, front_span, Gap, GapIn, Then, BarNames, Bars, Path, Superclass, MethodName, Owner, Parted, RescueVariable, DerivesBody, DerivesMore, DerivesStatement, DerivesModified, DerivesSimple, DerivesValue, DerivesTarget, DerivesCallee, DerivesArguments, DerivesArgument, DerivesTerm, DerivesLevel, DerivesPrefixed, DerivesOperand, DerivesSuffix, DerivesIndex, DerivesEnd, DerivesBrackets, DerivesBlockAfter, DerivesBlock, DerivesDo, DerivesPrimary, DerivesPieces, DerivesElements, DerivesPairs, DerivesPair, DerivesArms, DerivesElse, DerivesSubject, DerivesWhens, DerivesPatterns, DerivesGuarded, DerivesRescues, DerivesRaised, DerivesEnsure, DerivesDeclaration, DerivesMethod, DerivesParameters, DerivesParameterList, DerivesParameter}
use Rattle.rb_rules.specs.Grammar.Gap.{Closed, Wide}
use Rattle.rb_rules.specs.Grammar.GapIn.{Tight, Loose}
use Rattle.rb_rules.specs.Grammar.Then.{Word, Line, LineWord}
use Rattle.rb_rules.specs.Grammar.BarNames.{LastBar, MoreBars}
use Rattle.rb_rules.specs.Grammar.Bars.{NoBars, SomeBars}
use Rattle.rb_rules.specs.Grammar.Path.{LastName, MoreNames}
use Rattle.rb_rules.specs.Grammar.Superclass.{NoSuperclass, Named, NamedFromTop}
use Rattle.rb_rules.specs.Grammar.MethodName.{Plain, Writer, Capital, Operator}
use Rattle.rb_rules.specs.Grammar.Owner.{Other, Own as OwnSelf}
use Rattle.rb_rules.specs.Grammar.DerivesBody.{NoStatement, Statements}
use Rattle.rb_rules.specs.Grammar.DerivesMore.{NoMore, Another}
use Rattle.rb_rules.specs.Grammar.DerivesStatement.{Declared, Simply}
use Rattle.rb_rules.specs.Grammar.DerivesModified.{Unmodified, Modified}
use Rattle.rb_rules.specs.Grammar.DerivesSimple.{Valued, Jumps, JumpsWith}
use Rattle.rb_rules.specs.Grammar.DerivesValue.{Term, Assigns, Computes, Command}
use Rattle.rb_rules.specs.Grammar.DerivesTarget.{Variable, Instance, Constant, Attribute, Element}
use Rattle.rb_rules.specs.Grammar.DerivesCallee.{Own, Of, YieldWord, SuperWord}
use Rattle.rb_rules.specs.Grammar.DerivesArguments.{LastArgument, MoreArguments}
use Rattle.rb_rules.specs.Grammar.DerivesArgument.{ByPlace, ByName, AsBlock}
use Rattle.rb_rules.specs.Grammar.DerivesTerm.{Operated, Conditional}
use Rattle.rb_rules.specs.Grammar.DerivesLevel.{Tighter, FromLeft, Once, Negated, Raised, Plainly}
use Rattle.rb_rules.specs.Grammar.DerivesPrefixed.{Prefixed, Posted}
use Rattle.rb_rules.specs.Grammar.DerivesOperand.{Bare, Suffixed}
use Rattle.rb_rules.specs.Grammar.DerivesSuffix.{Calls, Within as WithinName, Indexed}
use Rattle.rb_rules.specs.Grammar.DerivesIndex.{Index}
use Rattle.rb_rules.specs.Grammar.DerivesEnd.{NoComma, LastComma}
use Rattle.rb_rules.specs.Grammar.DerivesBrackets.{NoBrackets, EmptyBrackets, Brackets}
use Rattle.rb_rules.specs.Grammar.DerivesBlockAfter.{NoBlock, SomeBlock}
use Rattle.rb_rules.specs.Grammar.DerivesBlock.{Braces, DoEnd}
use Rattle.rb_rules.specs.Grammar.DerivesDo.{NoDo, SomeDo}
use Rattle.rb_rules.specs.Grammar.DerivesPrimary.{WholeNumber, FloatNumber, SignedWhole, SignedFloat, String, SymbolName, InstanceName, ConstantName, FromTop, SelfPlace, NilPlace, TruePlace, FalsePlace, NameAlone, CallWithBrackets, CallWithBlock, Yields, Supers, EmptyArray, SomeArray, EmptyHash, SomeHash, InParens, Branches, Loops, Guards, Cases}
use Rattle.rb_rules.specs.Grammar.DerivesPieces.{NoPiece, MorePieces}
use Rattle.rb_rules.specs.Grammar.DerivesElements.{LastElement, MoreElements}
use Rattle.rb_rules.specs.Grammar.DerivesPairs.{LastPair, MorePairs}
use Rattle.rb_rules.specs.Grammar.DerivesPair.{ByArrow, ByLabel}
use Rattle.rb_rules.specs.Grammar.DerivesArms.{NoArm, MoreArms}
use Rattle.rb_rules.specs.Grammar.DerivesElse.{NoElse, SomeElse}
use Rattle.rb_rules.specs.Grammar.DerivesSubject.{NoSubject, SomeSubject}
use Rattle.rb_rules.specs.Grammar.DerivesWhens.{NoWhen, MoreWhens}
use Rattle.rb_rules.specs.Grammar.DerivesPatterns.{LastPattern, MorePatterns}
use Rattle.rb_rules.specs.Grammar.Parted.{AfterNothing, AfterSeparator}
use Rattle.rb_rules.specs.Grammar.RescueVariable.{NoVariable, Bound}
use Rattle.rb_rules.specs.Grammar.DerivesGuarded.{Unrescued, Rescued}
use Rattle.rb_rules.specs.Grammar.DerivesRescues.{NoRescue, MoreRescues}
use Rattle.rb_rules.specs.Grammar.DerivesRaised.{AnyError, SomeErrors}
use Rattle.rb_rules.specs.Grammar.DerivesEnsure.{NoEnsure, SomeEnsure}
use Rattle.rb_rules.specs.Grammar.DerivesDeclaration.{ClassOf, ModuleOf, Method, VisibleMethod}
use Rattle.rb_rules.specs.Grammar.DerivesMethod.{Def}
use Rattle.rb_rules.specs.Grammar.DerivesParameters.{NoParameters, OpenParameters, EmptyParens, InBrackets}
use Rattle.rb_rules.specs.Grammar.DerivesParameterList.{LastParameter, MoreParameters}
use Rattle.rb_rules.specs.Grammar.DerivesParameter.{Required, Optional, RequiredKeyword, OptionalKeyword, BlockParameter}
use Rattle.rb_grammar.specs.Places.{Each, IfThere}
use Rattle.rb_grammar.proofs.Steps.{Within, within-token as push, within-more as go}
use Rattle.rb_grammar.proofs.Placed.{each-end, stay, past, one-of, Begins, ends-after, ends-of, begins-at, begins-to, begins-from}
use Rattle.rb_places_laws.specs.ErrorPlaces.{HasName}
use Rattle.rb_places_laws.specs.TokenPlaces.{ProgramsHaveErrorPlaces}
use Rattle.rb_places_laws.proofs.Parts as node
use Rattle.rb_places_laws.proofs.Parts.{At, Has, InPiece, InPair, InArm, InWhen, InRescue, InGuarded, InParameter, Stood, Ended, Argued, Suffixed as SuffixEnded, Arguments, Blocked, BlockEnded, ended, all-ended, all-argued, if-ended, argued, at-tokens, at-token, at-bracket}

-- ---- separators

gap : {xs ys : List Token} → Gap xs ys → Within xs ys
gap (Closed _) = stay
gap (Wide t _ _ _ g) = push t (gap g)

gap-in : {b : Bool} {xs ys : List Token} → GapIn b xs ys → Within xs ys
gap-in (Tight _) = stay
gap-in (Loose _ _ g) = gap g

then-word : {xs ys : List Token} → Then xs ys → Within xs ys
then-word (Word t _ _) = push t stay
then-word (Line t _ _) = push t stay
then-word (LineWord s t _ _ _) = push s (push t stay)

end-of : {xs ys : List Token} → DerivesEnd xs ys → Within xs ys
end-of (NoComma _ _ g) = gap g
end-of (LastComma c _ _ _ g) = push c (gap g)

parted : {before : Tree} {xs ys : List Token} → Parted before xs ys → Within xs ys
parted (AfterNothing _) = stay
parted (AfterSeparator _ t _ _) = push t stay

own : {b : Bool} {xs ys : List Token} → Owner b xs ys → Within xs ys
own (Other _) = stay
own (OwnSelf s d _ _ _) = push s (push d stay)

-- ---- what stands in front of a method

-- the tokens from the one in front, if it stands
abbrev fronted : Option Token → List Token → List Token
fronted None xs = xs
fronted (Some v) xs = v ∷ xs

front-within : (front : Option Token) (xs : List Token) → Within (fronted front xs) xs
front-within None xs = stay
front-within (Some v) xs = push v stay

front-begins : (k e : Token) (front : Option Token) (xs ys : List Token) → Within xs (e ∷ ys) → Begins (fronted front (k ∷ xs)) (across (front_span k front) e.span)
front-begins k e None xs ys w = begins-from k e w
front-begins k e (Some v) xs ys w = begins-from v e (push k w)

-- ---- names

bar-names : {names : List PlacedName} {xs ys : List Token} → BarNames names xs ys → Within xs ys
bar-names (LastBar t _ _ _) = push t stay
bar-names (MoreBars t c _ _ _ _ _ _ d) = push t (push c (bar-names d))

bars : {names : List PlacedName} {xs ys : List Token} → Bars names xs ys → Within xs ys
bars (NoBars _) = stay
bars (SomeBars o c _ _ _ _ d _ _) = push o (past c (bar-names d))

path-of : {long : Bool} {names : List PlacedName} {xs ys : List Token} → Path long names xs ys → Within xs ys
path-of (LastName _ t _ _ _) = push t stay
path-of (MoreNames t c _ _ _ _ _ _ d) = push t (push c (path-of d))

superclass : {r : Option Reference} {xs ys : List Token} → Superclass r xs ys → Within xs ys
superclass (NoSuperclass _) = stay
superclass (Named l _ _ _ _ _ d) = push l (path-of d)
superclass (NamedFromTop l c _ _ _ _ _ _ d) = push l (push c (path-of d))

module _ (tokens : List Token) where
  abbrev In : List Token → Type 0
  In = Within tokens

  variable : {n : Option PlacedName} {xs ys : List Token} → RescueVariable n xs ys → In xs → Within xs ys × IfThere (HasName (At tokens)) n
  variable (NoVariable _) i = (stay, tt)
  variable (Bound a t _ _ _ _) i = (push a (push t stay), at-token tokens t (past a i))

  name-of : {w : List ℕ} {s : Span} {xs ys : List Token} → MethodName w s xs ys → In xs → Within xs ys × At tokens s
  name-of (Plain t _ _ _) i = (push t stay, at-token tokens t i)
  name-of (Writer t e _ _ _ _) i = (push t (push e stay), at-tokens tokens i (begins-from t e stay))
  name-of (Capital t _ _ _) i = (push t stay, at-token tokens t i)
  name-of (Operator t _ _ _) i = (push t stay, at-token tokens t i)

  call-of : (xs ys : List Token) (d : Token) (how : Dot) (n : Token) (w : List ℕ) → In xs → Within xs (d ∷ n ∷ ys) → SuffixEnded tokens xs (named_call d how n w)
  call-of xs ys d how n w i v = (ends-after v (ends-of (d ∷ n ∷ ys) (across d.span n.span) (begins-from d n (stay {xs = n ∷ ys}))), (at-token tokens n (go i (past d v)), tt, tt))

  -- ---- the forms

  mutual
    body : {at : Site} {free : Bool} {t : Tree} {xs ys : List Token} → DerivesBody at free t xs ys → In xs → Within xs ys × Has tokens t
    body (NoStatement _ _ _ _ g) i = (gap g, node.no-statement tokens)
    body (Statements _ _ s ss _ _ _ _ _ g d more h) i =
        let j = go i (gap g) in let a = statement d j in let b = others more (go j a.0) in
        (go (gap g) (go a.0 (go b.0 (gap h))), node.statements tokens j s ss a.1 (all-ended tokens ss a.0 b.1))

    others : {at : Site} {free : Bool} {ss : List Tree} {xs ys : List Token} → DerivesMore at free ss xs ys → In xs → Within xs ys × Each (Ended tokens xs) ss
    others (NoMore _ _ _) i = (stay, tt)
    others (Another _ _ t s ss _ _ _ _ _ g d more) i =
        let u = push t (gap g) in let a = statement d (go i u) in let v = go u a.0 in let b = others more (go i v) in
        (go v b.0, (ended tokens s u a.1, all-ended tokens ss v b.1))

    statement : {at : Site} {free : Bool} {t : Tree} {xs ys : List Token} → DerivesStatement at free t xs ys → In xs → Within xs ys × Stood tokens xs t
    statement (Declared _ _ _ _ _ _ d) i = declaration d i
    statement (Simply _ _ _ _ _ _ _ d m) i = let a = simple d i in let b = modified m i a.0 a.1 in (go a.0 b.0, b.1)

    modified : {free : Bool} {s t : Tree} {xs ys zs : List Token} → DerivesModified free s t xs ys → In zs → Within zs xs → Stood tokens zs s → Within xs ys × Stood tokens zs t
    modified (Unmodified _ _ _) i u h = (stay, h)
    modified (Modified _ m word s c _ _ _ _ _ _ d k) i u h =
        let v = past m u in let a = simple d (go i v) in let b = modified k i (go v a.0) (node.modified tokens i s word c h (ended tokens c v a.1)) in
        (push m (go a.0 b.0), b.1)

    simple : {constants free : Bool} {t : Tree} {xs ys : List Token} → DerivesSimple constants free t xs ys → In xs → Within xs ys × Stood tokens xs t
    simple (Valued _ _ _ _ _ d) i = value d i
    simple (Jumps _ _ j word _ h) i = (push j stay, node.jump tokens j i word h)
    simple (JumpsWith _ _ j word v _ _ h _ d) i = let a = value d (past j i) in (push j a.0, node.jump-with tokens j i word v h (ended tokens v (push j stay) a.1))

    value : {constants free : Bool} {t : Tree} {xs ys : List Token} → DerivesValue constants free t xs ys → In xs → Within xs ys × Stood tokens xs t
    value (Term _ _ _ _ _ d) i = term d i
    value (Assigns _ _ e x v _ _ _ d _ k) i = let a = target d i in let u = past e a.0 in let b = value k (go i u) in (go u b.0, node.assign tokens i x v a.1 (ended tokens v u b.1))
    value (Computes _ _ o operator x v _ _ _ d _ k) i = let a = target d i in let u = past o a.0 in let b = value k (go i u) in
        (go u b.0, node.operator-assign tokens i o.span operator x v (at-token tokens o (go i a.0)) a.1 (ended tokens v u b.1))
    value (Command _ _ x given b _ _ _ _ d _ e _ k _) i =
        let c = callee d i in let a = arguments e (go i c.0) in let u = go c.0 a.0 in let l = do-after k (go i u) in
        (go u l.0, node.command tokens i x given b c.1 (all-argued tokens given c.0 a.1) (if-ended tokens b u l.1))

    target : {constants free : Bool} {t : Tree} {xs ys : List Token} → DerivesTarget constants free t xs ys → In xs → Within xs ys × Stood tokens xs t
    target (Variable _ _ t w xs _) i = (push t stay, node.name tokens i w t.span (begins-at t xs))
    target (Instance _ _ t w xs _) i = (push t stay, node.instance_variable tokens i w t.span (begins-at t xs))
    target (Constant _ t w xs _) i = (push t stay, node.constant tokens i w t.span (begins-at t xs))
    target (Attribute _ _ _ d n r ss w xs ys e _ _) i = let a = operand e i in
        (past n (past d a.0), node.post-more tokens i r ss (named_call d dot.Plain n w) a.1 a.2 (call-of xs ys d dot.Plain n w i a.0))
    target (Element _ _ _ _ r ss s _ _ _ e k) i = let a = operand e i in let b = index k (go i a.0) in
        (go a.0 b.0, node.post-more tokens i r ss s a.1 a.2 (ends-after a.0 b.1.0, b.1.1))

    callee : {free : Bool} {t : Tree} {xs ys : List Token} → DerivesCallee free t xs ys → In xs → Within xs ys × Stood tokens xs t
    callee (Own _ t w xs _) i = (push t stay, node.name tokens i w t.span (begins-at t xs))
    callee (Of _ _ d n how r ss w xs ys e _ _) i = let a = operand e i in
        (past n (past d a.0), node.post-more tokens i r ss (named_call d how n w) a.1 a.2 (call-of xs ys d how n w i a.0))
    callee (YieldWord _ t xs _) i = (push t stay, node.yield tokens i None t.span tt (begins-at t xs))
    callee (SuperWord _ t xs _) i = (push t stay, node.super tokens i None t.span tt (begins-at t xs))

    arguments : {bracketed free : Bool} {given : List (Argument Tree)} {xs ys : List Token} → DerivesArguments bracketed free given xs ys → In xs → Within xs ys × Each (Argued tokens xs) given
    arguments (LastArgument _ _ _ _ _ d) i = let a = argument d i in (a.0, (a.1, tt))
    arguments (MoreArguments _ _ c _ more _ _ _ _ d _ g m) i = let a = argument d i in let u = go (past c a.0) (gap-in g) in let b = arguments m (go i u) in
        (go u b.0, (a.1, all-argued tokens more u b.1))

    argument : {free : Bool} {a : Argument Tree} {xs ys : List Token} → DerivesArgument free a xs ys → In xs → Within xs ys × Argued tokens xs a
    argument (ByPlace _ t _ _ d) i = let a = term d i in (a.0, ended tokens t stay a.1)
    argument (ByName _ l _ t _ _ _ d) i = let a = term d (past l i) in let e = ended tokens t (push l stay) a.1 in (push l a.0, (e.0, e.1))
    argument (AsBlock _ l t _ _ _ d) i = let a = term d (past l i) in let e = ended tokens t (push l stay) a.1 in (push l a.0, (e.0, e.1))

    term : {free : Bool} {t : Tree} {xs ys : List Token} → DerivesTerm free t xs ys → In xs → Within xs ys × Stood tokens xs t
    term (Operated _ _ _ _ d) i = level d i
    term (Conditional _ q k c a b _ _ _ _ d _ e _ f) i =
        let x = level d i in let u = past q x.0 in let y = term e (go i u) in let v = go u (past k y.0) in let z = term f (go i v) in
        (go v z.0, node.conditional tokens i c a b x.1 y.1.1 (ended tokens b v z.1))

    level : {n : ℕ} {free : Bool} {t : Tree} {xs ys : List Token} → DerivesLevel n free t xs ys → In xs → Within xs ys × Stood tokens xs t
    level (Tighter _ _ _ _ _ _ d) i = level d i
    level (FromLeft _ _ o operator a b _ _ _ _ d _ e) i = let x = level d i in let u = past o x.0 in let y = level e (go i u) in
        (go u y.0, node.binary tokens i o.span operator a b (at-token tokens o (go i x.0)) x.1 (ended tokens b u y.1))
    level (Once _ o operator a b _ _ _ d _ e) i = let x = level d i in let u = past o x.0 in let y = level e (go i u) in
        (go u y.0, node.binary tokens i o.span operator a b (at-token tokens o (go i x.0)) x.1 (ended tokens b u y.1))
    level (Negated _ m a _ _ h _ d) i = let x = level d (past m i) in (push m x.0, node.negated tokens m i a h (ended tokens a (push m stay) x.1))
    level (Raised _ o a b _ _ _ d _ e) i = let x = prefixed d i in let u = past o x.0 in let y = level e (go i u) in
        (go u y.0, node.binary tokens i o.span binary_word.Power a b (at-token tokens o (go i x.0)) x.1 (ended tokens b u y.1))
    level (Plainly _ _ _ _ d) i = prefixed d i

    prefixed : {free : Bool} {t : Tree} {xs ys : List Token} → DerivesPrefixed free t xs ys → In xs → Within xs ys × Stood tokens xs t
    prefixed (Prefixed _ m operator a _ _ h _ d) i = let x = prefixed d (past m i) in (push m x.0, node.prefixed tokens m i operator a h (ended tokens a (push m stay) x.1))
    prefixed (Posted _ _ p ss _ _ d) i = let a = operand d i in (a.0, node.post tokens i p ss a.1 a.2)

    operand : {free : Bool} {p : Tree} {ss : List (Suffix Tree)} {last : Token} {xs ys : List Token} → DerivesOperand free p ss last xs ys → In xs → Within xs ys × Stood tokens xs p × Each (SuffixEnded tokens xs) ss
    operand (Bare _ _ _ _ _ d) i = let a = primary d i in (a.0, a.1, tt)
    operand (Suffixed _ _ _ _ ss s xs _ _ d e) i = let a = operand d i in let b = suffix e (go i a.0) in
        (go a.0 b.0, a.1, each-end (SuffixEnded tokens xs) ss s a.2 (ends-after a.0 b.1.0, b.1.1))

    suffix : {free : Bool} {s : Suffix Tree} {before last : Token} {xs ys : List Token} → DerivesSuffix free s before last xs ys → In xs → Within xs ys × SuffixEnded tokens xs s
    suffix (Calls _ _ d n _ last _ _ _ _ xs _ _ _ _ e k _) i =
        let u = push d (push n stay) in
        let a = brackets e u (inr (inl refl)) (go i u) in let v = go u a.0 in
        let b = block-after k v a.1 (go i v) in
        let p = begins-to d last (n ∷ xs) b.1 in
        (go v b.0, (ends-of (d ∷ n ∷ xs) (across d.span last.span) p, (at-token tokens n (past d i), a.2, b.2)))
    suffix (WithinName _ _ c n _ xs _ _) i = let p = begins-from c n (stay {xs = n ∷ xs}) in
        (push c (push n stay), (ends-of (c ∷ n ∷ xs) (across c.span n.span) p, tt))
    suffix (Indexed _ _ _ _ _ _ d) i = index d i

    index : {s : Suffix Tree} {before last : Token} {xs ys : List Token} → DerivesIndex s before last xs ys → In xs → Within xs ys × SuffixEnded tokens xs s
    index (Index _ o c given xs ps _ _ h _ g d _ e _) i =
        let a = arguments d (go (past o i) (gap g)) in let u = go (gap g) (go a.0 (end-of e)) in let p = begins-from o c u in
        (push o (past c u), (ends-of (o ∷ xs) (across o.span c.span) p, (at-bracket tokens o (across o.span c.span) h i p, argued tokens ps given a.1)))

    brackets : {given : Option (List (Argument Tree))} {before last : Token} {xs ys zs : List Token} → DerivesBrackets given before last xs ys → Within zs xs → IsOneOf zs before → In xs → Within xs ys × IsOneOf zs last × IfThere (Arguments tokens) given
    brackets (NoBrackets _ _) u h i = (stay, h, tt)
    brackets (EmptyBrackets _ o c _ _ _ g _) u h i = let v = push o (gap g) in (past c v, one-of c (go u v) (inl refl), tt)
    brackets (Brackets _ o c given _ ps _ _ _ g d _ k _) u h i = let a = arguments d (go (past o i) (gap g)) in let v = push o (go (gap g) (go a.0 (gap k))) in
        (past c v, one-of c (go u v) (inl refl), argued tokens ps given a.1)

    block-after : {free : Bool} {b : Option (Block Tree)} {before last : Token} {xs ys zs : List Token} → DerivesBlockAfter free b before last xs ys → Within zs xs → IsOneOf zs before → In xs → Within xs ys × IsOneOf zs last × IfThere (Blocked tokens) b
    block-after (NoBlock _ _ _) u h i = (stay, h, tt)
    block-after (SomeBlock _ _ last _ _ _ d) u h i = let a = block d i in (a.0, one-of last u a.1, a.2.1)

    block : {free : Bool} {b : Block Tree} {last : Token} {xs ys : List Token} → DerivesBlock free b last xs ys → In xs → Within xs ys × IsOneOf xs last × BlockEnded tokens xs b
    block (Braces _ o c _ _ xs _ _ _ k d _) i =
        let a = bars k in let b = body d (go (past o i) a) in let u = go a b.0 in let p = begins-from o c u in
        (push o (past c u), one-of c (push o u) (inl refl), (ends-of (o ∷ xs) (across o.span c.span) p, b.1))
    block (DoEnd o c _ _ xs _ _ _ k d _) i =
        let a = bars k in let b = body d (go (past o i) a) in let u = go a b.0 in let p = begins-from o c u in
        (push o (past c u), one-of c (push o u) (inl refl), (ends-of (o ∷ xs) (across o.span c.span) p, b.1))

    do-after : {free : Bool} {b : Option (Block Tree)} {xs ys : List Token} → DerivesDo free b xs ys → In xs → Within xs ys × IfThere (BlockEnded tokens xs) b
    do-after (NoDo _ _) i = (stay, tt)
    do-after (SomeDo _ _ _ _ _ _ d) i = let a = block d i in (a.0, a.2)

    primary : {free : Bool} {t : Tree} {last : Token} {xs ys : List Token} → DerivesPrimary free t last xs ys → In xs → Within xs ys × Stood tokens xs t
    primary (WholeNumber _ t w xs _) i = (push t stay, node.whole tokens i None w t.span (begins-at t xs))
    primary (FloatNumber _ t w xs _) i = (push t stay, node.float tokens i None w t.span (begins-at t xs))
    primary (SignedWhole _ s t how w xs _ _ _ _) i = (push s (push t stay), node.whole tokens i (Some how) w (across s.span t.span) (begins-from s t (stay {xs = t ∷ xs})))
    primary (SignedFloat _ s t how w xs _ _ _ _) i = (push s (push t stay), node.float tokens i (Some how) w (across s.span t.span) (begins-from s t (stay {xs = t ∷ xs})))
    primary (String _ t last w ps xs _ _ d) i = let a = pieces d (push t stay) (inl refl) (past t i) in
        (push t a.0, node.text tokens i (piece.Words w t.span ∷ ps) (across t.span last.span) (begins-to t last xs a.1) (tt, a.2))
    primary (SymbolName _ t w xs _) i = (push t stay, node.symbol tokens i w t.span (begins-at t xs))
    primary (InstanceName _ t w xs _) i = (push t stay, node.instance_variable tokens i w t.span (begins-at t xs))
    primary (ConstantName _ t w xs _) i = (push t stay, node.constant tokens i w t.span (begins-at t xs))
    primary (FromTop _ c t w xs _ _) i = (push c (push t stay), node.top-constant tokens i w t.span (across c.span t.span) (begins-from c t (stay {xs = t ∷ xs})))
    primary (SelfPlace _ t xs _) i = (push t stay, node.self-word tokens i t.span (begins-at t xs))
    primary (NilPlace _ t xs _) i = (push t stay, node.nil tokens i t.span (begins-at t xs))
    primary (TruePlace _ t xs _) i = (push t stay, node.true-word tokens i t.span (begins-at t xs))
    primary (FalsePlace _ t xs _) i = (push t stay, node.false-word tokens i t.span (begins-at t xs))
    primary (NameAlone _ t w xs _) i = (push t stay, node.name tokens i w t.span (begins-at t xs))
    primary (CallWithBrackets _ t _ last w given b xs _ _ _ d e _) i =
        let u = push t stay in let a = brackets d u (inl refl) (past t i) in let v = push t a.0 in let c = block-after e v a.1 (go i v) in
        (go v c.0, node.call tokens i w t.span (Some given) b (across t.span last.span) (at-token tokens t i) a.2 c.2 (begins-to t last xs c.1))
    primary (CallWithBlock _ t last w b xs _ _ d) i = let a = block d (past t i) in
        (push t a.0, node.call tokens i w t.span None (Some b) (across t.span last.span) (at-token tokens t i) tt a.2.1 (begins-to t last xs (inr a.1)))
    primary (Yields _ t last given xs _ _ d) i = let a = brackets d (push t stay) (inl refl) (past t i) in
        (push t a.0, node.yield tokens i given (across t.span last.span) a.2 (begins-to t last xs a.1))
    primary (Supers _ t last given xs _ _ d) i = let a = brackets d (push t stay) (inl refl) (past t i) in
        (push t a.0, node.super tokens i given (across t.span last.span) a.2 (begins-to t last xs a.1))
    primary (EmptyArray _ o c _ _ _ g _) i = let u = gap g in (push o (past c u), node.array tokens i [] (across o.span c.span) tt (begins-from o c u))
    primary (SomeArray _ o c es _ _ _ _ _ g d e _) i = let a = elements d (go (past o i) (gap g)) in let u = go (gap g) (go a.0 (end-of e)) in
        (push o (past c u), node.array tokens i es (across o.span c.span) a.1 (begins-from o c u))
    primary (EmptyHash _ o c _ _ _ g _) i = let u = gap g in (push o (past c u), node.hash tokens i [] (across o.span c.span) tt (begins-from o c u))
    primary (SomeHash _ o c ps _ _ _ _ _ g d e _) i = let a = pairs d (go (past o i) (gap g)) in let u = go (gap g) (go a.0 (end-of e)) in
        (push o (past c u), node.hash tokens i ps (across o.span c.span) a.1 (begins-from o c u))
    primary (InParens _ o c b _ _ _ d _) i = let a = body d (past o i) in (push o (past c a.0), node.parens tokens i b (across o.span c.span) a.1 (begins-from o c a.0))
    primary (Branches _ k e word c b arms z _ _ _ _ _ _ _ dc th db da _ dz _) i =
        let j = past k i in
        let p = simple dc j in let u = go p.0 (then-word th) in
        let q = body db (go j u) in let v = go u q.0 in
        let r = arms-of da (go j v) in let w = go v r.0 in
        let s = else-of dz (go j w) in let x = go w s.0 in
        (push k (past e x), node.branches tokens i word c b arms z (across k.span e.span) p.1.1 q.1 r.1 s.1 (begins-from k e x))
    primary (Loops _ k d e word c b _ _ _ _ dc _ db _) i =
        let j = past k i in let p = simple dc j in let u = past d p.0 in let q = body db (go j u) in let v = go u q.0 in
        (push k (past e v), node.loops tokens i word c b (across k.span e.span) p.1.1 q.1 (begins-from k e v))
    primary (Guards _ k e g _ _ _ d _) i = let a = guarded d (past k i) in (push k (past e a.0), node.begins tokens i g (across k.span e.span) a.1 (begins-from k e a.0))
    primary (Cases _ k e t arm arms z _ _ _ _ _ _ dt g da dz _) i =
        let j = past k i in
        let p = subject dt j in let u = go p.0 (gap g) in
        let q = whens da (go j u) in let v = go u q.0 in
        let s = else-of dz (go j v) in let w = go v s.0 in
        (push k (past e w), node.cases tokens i t (arm ∷ arms) z (across k.span e.span) p.1 q.1 s.1 (begins-from k e w))

    pieces : {ps : List (Piece Tree)} {before last : Token} {xs ys zs : List Token} → DerivesPieces ps before last xs ys → Within zs xs → IsOneOf zs before → In xs → Within xs ys × IsOneOf zs last × Each (InPiece tokens) ps
    pieces (NoPiece _ _) u h i = (stay, h, tt)
    pieces (MorePieces _ o c t _ _ _ _ _ _ _ _ d _ _ e) u h i =
        let a = body d (past o i) in let v = push o (past c a.0) in
        let b = pieces e (go u (past t v)) (one-of t (go u v) (inl refl)) (go i (past t v)) in
        (go (past t v) b.0, b.1, (a.1, (tt, b.2)))

    elements : {es : List Tree} {xs ys : List Token} → DerivesElements es xs ys → In xs → Within xs ys × Each (Has tokens) es
    elements (LastElement _ _ _ d) i = let a = term d i in (a.0, (a.1.1, tt))
    elements (MoreElements c _ _ _ _ _ _ d _ g m) i = let a = term d i in let u = go (past c a.0) (gap g) in let b = elements m (go i u) in (go u b.0, (a.1.1, b.1))

    pairs : {ps : List (Pair Tree)} {xs ys : List Token} → DerivesPairs ps xs ys → In xs → Within xs ys × Each (InPair tokens) ps
    pairs (LastPair _ _ _ d) i = let a = pair-of d i in (a.0, (a.1, tt))
    pairs (MorePairs c _ _ _ _ _ _ d _ g m) i = let a = pair-of d i in let u = go (past c a.0) (gap g) in let b = pairs m (go i u) in (go u b.0, (a.1, b.1))

    pair-of : {p : Pair Tree} {xs ys : List Token} → DerivesPair p xs ys → In xs → Within xs ys × InPair tokens p
    pair-of (ByArrow r _ _ _ _ _ d _ e) i = let a = term d i in let u = past r a.0 in let b = term e (go i u) in (go u b.0, (a.1.1, b.1.1))
    pair-of (ByLabel l _ _ _ _ _ d) i = let a = term d (past l i) in (push l a.0, a.1.1)

    arms-of : {free : Bool} {arms : List (Arm Tree)} {xs ys : List Token} → DerivesArms free arms xs ys → In xs → Within xs ys × Each (InArm tokens) arms
    arms-of (NoArm _ _) i = (stay, tt)
    arms-of (MoreArms _ k _ _ _ _ _ _ _ _ _ dc th db m) i =
        let j = past k i in
        let p = simple dc j in let u = go p.0 (then-word th) in
        let q = body db (go j u) in let v = go u q.0 in
        let r = arms-of m (go j v) in
        (push k (go v r.0), ((p.1.1, q.1), r.1))

    else-of : {free : Bool} {t : Option Tree} {xs ys : List Token} → DerivesElse free t xs ys → In xs → Within xs ys × IfThere (Has tokens) t
    else-of (NoElse _ _) i = (stay, tt)
    else-of (SomeElse _ k _ _ _ _ d) i = let a = body d (past k i) in (push k a.0, a.1)

    subject : {free : Bool} {t : Option Tree} {xs ys : List Token} → DerivesSubject free t xs ys → In xs → Within xs ys × IfThere (Has tokens) t
    subject (NoSubject _ _) i = (stay, tt)
    subject (SomeSubject _ _ _ _ d) i = let a = simple d i in (a.0, a.1.1)

    whens : {free : Bool} {arms : List (When Tree)} {xs ys : List Token} → DerivesWhens free arms xs ys → In xs → Within xs ys × Each (InWhen tokens) arms
    whens (NoWhen _ _) i = (stay, tt)
    whens (MoreWhens _ k _ _ _ _ _ _ _ _ _ dp th db m) i =
        let j = past k i in
        let p = patterns dp j in let u = go p.0 (then-word th) in
        let q = body db (go j u) in let v = go u q.0 in
        let r = whens m (go j v) in
        (push k (go v r.0), ((p.1, q.1), r.1))

    patterns : {free : Bool} {ps : List Tree} {xs ys : List Token} → DerivesPatterns free ps xs ys → In xs → Within xs ys × Each (Has tokens) ps
    patterns (LastPattern _ _ _ _ d) i = let a = term d i in (a.0, (a.1.1, tt))
    patterns (MorePatterns _ c _ _ _ _ _ d _ m) i = let a = term d i in let u = past c a.0 in let b = patterns m (go i u) in (go u b.0, (a.1.1, b.1))

    guarded : {free : Bool} {g : Guarded Tree} {xs ys : List Token} → DerivesGuarded free g xs ys → In xs → Within xs ys × InGuarded tokens g
    guarded (Unrescued _ _ _ _ _ _ d de) i = let a = body d i in let b = ensure-of de (go i a.0) in (go a.0 b.0, (a.1, tt, tt, b.1))
    guarded (Rescued _ _ _ _ _ _ _ _ _ _ _ d dr dz de) i =
        let a = body d i in
        let b = rescues dr (go i a.0) in let u = go a.0 b.0 in
        let c = else-of dz (go i u) in let v = go u c.0 in
        let e = ensure-of de (go i v) in
        (go v e.0, (a.1, b.1, c.1, e.1))

    rescues : {free : Bool} {before : Tree} {rs : List (Rescue Tree)} {xs ys : List Token} → DerivesRescues free before rs xs ys → In xs → Within xs ys × Each (InRescue tokens) rs
    rescues (NoRescue _ _ _) i = (stay, tt)
    rescues (MoreRescues _ k _ _ _ _ _ _ _ _ _ _ _ _ p _ dr dv th db m) i =
        let u = past k (parted p) in
        let a = raised dr (go i u) in let v = go u a.0 in
        let b = variable dv (go i v) in let w = go (go v b.0) (then-word th) in
        let c = body db (go i w) in let x = go w c.0 in
        let r = rescues m (go i x) in
        (go x r.0, ((a.1, b.1, c.1), r.1))

    raised : {free : Bool} {ps : List Tree} {xs ys : List Token} → DerivesRaised free ps xs ys → In xs → Within xs ys × Each (Has tokens) ps
    raised (AnyError _ _) i = (stay, tt)
    raised (SomeErrors _ _ _ _ d) i = patterns d i

    ensure-of : {free : Bool} {t : Option Tree} {xs ys : List Token} → DerivesEnsure free t xs ys → In xs → Within xs ys × IfThere (Has tokens) t
    ensure-of (NoEnsure _ _) i = (stay, tt)
    ensure-of (SomeEnsure _ k _ _ _ _ d) i = let a = body d (past k i) in (push k a.0, a.1)

    declaration : {at : Site} {t : Tree} {xs ys : List Token} → DerivesDeclaration at t xs ys → In xs → Within xs ys × Stood tokens xs t
    declaration (ClassOf _ k s e path r b _ _ _ _ _ dp dr _ db _) i =
        let u = go (path-of dp) (past s (superclass dr)) in let z = body db (go (past k i) u) in let v = go u z.0 in
        (push k (past e v), node.class-of tokens i path r b (across k.span e.span) z.1 (begins-from k e v))
    declaration (ModuleOf _ k s e path b _ _ _ _ dp _ db _) i =
        let u = past s (path-of dp) in let z = body db (go (past k i) u) in let v = go u z.0 in
        (push k (past e v), node.module-of tokens i path b (across k.span e.span) z.1 (begins-from k e v))
    declaration (Method _ _ _ _ d) i = method d i
    declaration (VisibleMethod _ v _ _ _ _ _ _ _ d) i = let a = method d i in (push v a.0, a.1)

    method : {visible : Option Visibility} {front : Option Token} {t : Tree} {xs ys : List Token} → DerivesMethod visible front t xs ys → In (fronted front xs) → Within xs ys × Stood tokens (fronted front xs) t
    method (Def visible front k e self w s ps b xs _ _ _ ys _ o n dp _ _ db _) i =
        let j = past k (go i (front-within front (k ∷ xs))) in
        let u = own o in
        let q = name-of n (go j u) in let v = go u q.0 in
        let r = parameters dp (go j v) in let x = go v r.0 in
        let z = guarded db (go j x) in let y = go x z.0 in
        (push k (past e y), node.method tokens i visible self w s ps b (across (front_span k front) e.span) q.1 r.1 z.1 (front-begins k e front xs ys y))

    parameters : {ps : List (Parameter Tree)} {xs ys : List Token} → DerivesParameters ps xs ys → In xs → Within xs ys × Each (InParameter tokens) ps
    parameters (NoParameters s _ _) i = (push s stay, tt)
    parameters (OpenParameters s _ _ _ _ d _) i = let a = parameter-list d i in (past s a.0, a.1)
    parameters (EmptyParens o c _ _ _ g _) i = (push o (past c (gap g)), tt)
    parameters (InBrackets o c _ _ _ _ _ _ _ g d h _) i = let a = parameter-list d (go (past o i) (gap g)) in (push o (past c (go (gap g) (go a.0 (gap h)))), a.1)

    parameter-list : {bracketed : Bool} {ps : List (Parameter Tree)} {xs ys : List Token} → DerivesParameterList bracketed ps xs ys → In xs → Within xs ys × Each (InParameter tokens) ps
    parameter-list (LastParameter _ _ _ _ d) i = let a = parameter-of d i in (a.0, (a.1, tt))
    parameter-list (MoreParameters _ c _ _ _ _ _ _ d _ g m) i = let a = parameter-of d i in let u = go (past c a.0) (gap-in g) in let b = parameter-list m (go i u) in (go u b.0, (a.1, b.1))

    parameter-of : {p : Parameter Tree} {xs ys : List Token} → DerivesParameter p xs ys → In xs → Within xs ys × InParameter tokens p
    parameter-of (Required t _ _ _) i = (push t stay, tt)
    parameter-of (Optional t e _ _ _ _ _ _ d) i = let a = term d (past e (past t i)) in (push t (push e a.0), a.1.1)
    parameter-of (RequiredKeyword l _ _ _) i = (push l stay, tt)
    parameter-of (OptionalKeyword l _ _ _ _ _ d) i = let a = term d (past l i) in (push l a.0, a.1.1)
    parameter-of (BlockParameter a t _ _ _ _) i = (push a (push t stay), tt)

-- ---- the law

pub programs_have_error_places : ProgramsHaveErrorPlaces
programs_have_error_places tokens t d = (body tokens d stay).1
