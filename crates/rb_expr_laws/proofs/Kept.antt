-- What derives in front of some tokens derives in front of others too, by the same rules and with the same tree, where `**` is next in both
-- places or in neither: by induction over derivations. Nothing else in the grammar tells what stands after a form.
use Rattle.std.proofs.Common.{◌≡◌, ℕ, Bool, true, false, List, ◌∷◌, Option}
use Rattle.rb_tree.specs.declared.token.Token.{Token}
use Rattle.rb_tree.specs.declared.syntax.Tree.{Tree}
use Rattle.rb_tree.specs.declared.syntax.Suffix.{Suffix}
use Rattle.rb_tree.specs.declared.syntax.Argument.{Argument}
use Rattle.rb_tree.specs.declared.syntax.Block.{Block}
use Rattle.rb_tree.specs.declared.syntax.Piece.{Piece}
use Rattle.rb_tree.specs.declared.syntax.Pair.{Pair}
use Rattle.rb_tree.specs.declared.syntax.Arm.{Arm}
use Rattle.rb_tree.specs.declared.syntax.When.{When}
use Rattle.rb_tree.specs.declared.syntax.PlacedName.{PlacedName}
use Rattle.rb_tree.specs.declared.syntax.Guarded.{Guarded}
use Rattle.rb_tree.specs.declared.syntax.Rescue.{Rescue}
use Rattle.rb_rules.specs.Forms.{Inside, MODIFIERS, NO_COMMAND}
use Rattle.rb_rules.specs.Grammar.{Gap, GapIn, Then, BarNames, Bars, Parted, RescueVariable, DerivesBody, DerivesMore, DerivesStatement, DerivesModified, DerivesSimple, DerivesValue, DerivesTarget, DerivesCallee, DerivesArguments, DerivesArgument, DerivesTerm, DerivesLevel, DerivesPrefixed, DerivesOperand, DerivesSuffix, DerivesIndex, DerivesEnd, DerivesBrackets, DerivesBlockAfter, DerivesBlock, DerivesDo, DerivesPrimary, DerivesPieces, DerivesElements, DerivesPairs, DerivesPair, DerivesArms, DerivesElse, DerivesSubject, DerivesWhens, DerivesPatterns, DerivesGuarded, DerivesRescues, DerivesRaised, DerivesEnsure}
use Rattle.rb_rules.specs.Grammar.Gap.{Closed, Wide}
use Rattle.rb_rules.specs.Grammar.GapIn.{Tight, Loose}
use Rattle.rb_rules.specs.Grammar.Then.{Word, Line, LineWord}
use Rattle.rb_rules.specs.Grammar.BarNames.{LastBar, MoreBars}
use Rattle.rb_rules.specs.Grammar.Bars.{NoBars, SomeBars}
use Rattle.rb_rules.specs.Grammar.Parted.{AfterNothing, AfterSeparator}
use Rattle.rb_rules.specs.Grammar.RescueVariable.{NoVariable, Bound}
use Rattle.rb_rules.specs.Grammar.DerivesBody.{NoStatement, Statements}
use Rattle.rb_rules.specs.Grammar.DerivesMore.{NoMore, Another}
use Rattle.rb_rules.specs.Grammar.DerivesStatement.{Declared, Simply}
use Rattle.rb_rules.specs.Grammar.DerivesModified.{Unmodified, Modified}
use Rattle.rb_rules.specs.Grammar.DerivesSimple.{Valued, Jumps, JumpsWith}
use Rattle.rb_rules.specs.Grammar.DerivesValue.{Term, Assigns, Computes, Command}
use Rattle.rb_rules.specs.Grammar.DerivesTarget.{Variable, Instance, Constant, Attribute, Element}
use Rattle.rb_rules.specs.Grammar.DerivesCallee.{Own, Of, YieldWord, SuperWord}
use Rattle.rb_rules.specs.Grammar.DerivesArguments.{LastArgument, MoreArguments}
use Rattle.rb_rules.specs.Grammar.DerivesArgument.{ByPlace, ByName, AsBlock}
use Rattle.rb_rules.specs.Grammar.DerivesTerm.{Operated, Conditional}
use Rattle.rb_rules.specs.Grammar.DerivesLevel.{Tighter, FromLeft, Once, Negated, Raised, Plainly}
use Rattle.rb_rules.specs.Grammar.DerivesPrefixed.{Prefixed, Posted}
use Rattle.rb_rules.specs.Grammar.DerivesOperand.{Bare, Suffixed}
use Rattle.rb_rules.specs.Grammar.DerivesSuffix.{Calls, Within as WithinName, Indexed}
use Rattle.rb_rules.specs.Grammar.DerivesIndex.{Index}
use Rattle.rb_rules.specs.Grammar.DerivesEnd.{NoComma, LastComma}
use Rattle.rb_rules.specs.Grammar.DerivesBrackets.{NoBrackets, EmptyBrackets, Brackets}
use Rattle.rb_rules.specs.Grammar.DerivesBlockAfter.{NoBlock, SomeBlock}
use Rattle.rb_rules.specs.Grammar.DerivesBlock.{Braces, DoEnd}
use Rattle.rb_rules.specs.Grammar.DerivesDo.{NoDo, SomeDo}
use Rattle.rb_rules.specs.Grammar.DerivesPrimary.{WholeNumber, FloatNumber, SignedWhole, SignedFloat, String, SymbolName, InstanceName, ConstantName, FromTop, SelfPlace, NilPlace, TruePlace, FalsePlace, NameAlone, CallWithBrackets, CallWithBlock, Yields, Supers, EmptyArray, SomeArray, EmptyHash, SomeHash, InParens, Branches, Loops, Guards, Cases}
use Rattle.rb_rules.specs.Grammar.DerivesPieces.{NoPiece, MorePieces}
use Rattle.rb_rules.specs.Grammar.DerivesElements.{LastElement, MoreElements}
use Rattle.rb_rules.specs.Grammar.DerivesPairs.{LastPair, MorePairs}
use Rattle.rb_rules.specs.Grammar.DerivesPair.{ByArrow, ByLabel}
use Rattle.rb_rules.specs.Grammar.DerivesArms.{NoArm, MoreArms}
use Rattle.rb_rules.specs.Grammar.DerivesElse.{NoElse, SomeElse}
use Rattle.rb_rules.specs.Grammar.DerivesSubject.{NoSubject, SomeSubject}
use Rattle.rb_rules.specs.Grammar.DerivesWhens.{NoWhen, MoreWhens}
use Rattle.rb_rules.specs.Grammar.DerivesPatterns.{LastPattern, MorePatterns}
use Rattle.rb_rules.specs.Grammar.DerivesGuarded.{Unrescued, Rescued}
use Rattle.rb_rules.specs.Grammar.DerivesRescues.{NoRescue, MoreRescues}
use Rattle.rb_rules.specs.Grammar.DerivesRaised.{AnyError, SomeErrors}
use Rattle.rb_rules.specs.Grammar.DerivesEnsure.{NoEnsure, SomeEnsure}
use Rattle.rb_expr_laws.proofs.Moved.{Rel, Moved, Led, moved, starts, before-number, unsigned, unraised}
use Rattle.rb_expr_laws.proofs.Moved.Moved.{Keep}
use Rattle.rb_expr_laws.proofs.Moved.Led.{Lead}

module _ (es fs : List Token) where
  -- what derives of the first list derives, with the other end, of another that has the same front
  abbrev pub Keeps : Rel → List Token → List Token → Type 0
  Keeps D xs ys = (zs : List Token) → Moved es fs ys zs → (us : List Token) × Moved es fs xs us × D us zs

  -- likewise, and something stands in front
  abbrev pub Leads : Rel → List Token → List Token → Type 0
  Leads D xs ys = (zs : List Token) → Moved es fs ys zs → (us : List Token) × Led es fs xs us × D us zs

  -- ---- separators, names and words between forms

  pub gap : {xs ys : List Token} → Gap xs ys → Keeps Gap xs ys
  gap (Closed _) zs h = (zs, h, Closed _)
  gap (Wide t _ _ is d) zs h = let z = gap d zs h in (t ∷ z.0, Keep z.1, Wide _ _ _ is z.2)

  gap-in : {bracketed : Bool} {xs ys : List Token} → GapIn bracketed xs ys → Keeps (GapIn bracketed) xs ys
  gap-in (Tight _) zs h = (zs, h, Tight _)
  gap-in (Loose _ _ d) zs h = let z = gap d zs h in (z.0, z.1, Loose _ _ z.2)

  then-word : {xs ys : List Token} → Then xs ys → Keeps Then xs ys
  then-word (Word t _ is) zs h = (t ∷ zs, Keep h, Word _ _ is)
  then-word (Line t _ is) zs h = (t ∷ zs, Keep h, Line _ _ is)
  then-word (LineWord s t _ is is2) zs h = (s ∷ t ∷ zs, Keep (Keep h), LineWord _ _ _ is is2)

  bar-names : {names : List PlacedName} {xs ys : List Token} → BarNames names xs ys → Keeps (BarNames names) xs ys
  bar-names (LastBar t _ _ is) zs h = (t ∷ zs, Keep h, LastBar _ _ _ is)
  bar-names (MoreBars t c _ _ _ _ is is2 d) zs h = let z = bar-names d zs h in (t ∷ c ∷ z.0, Keep (Keep z.1), MoreBars _ _ _ _ _ _ is is2 z.2)

  bars : {names : List PlacedName} {xs ys : List Token} → Bars names xs ys → Keeps (Bars names) xs ys
  bars (NoBars _) zs h = (zs, h, NoBars _)
  bars (SomeBars a z _ _ _ is d is2 is3) zs h = let y = bar-names d (z ∷ zs) (Keep h) in (a ∷ y.0, Keep y.1, SomeBars _ _ _ _ _ is y.2 is2 is3)

  parted : {before : Tree} {xs ys : List Token} → Parted before xs ys → Keeps (Parted before) xs ys
  parted (AfterNothing _) zs h = (zs, h, AfterNothing _)
  parted (AfterSeparator _ t _ is) zs h = (t ∷ zs, Keep h, AfterSeparator _ _ _ is)

  variable : {name : Option PlacedName} {xs ys : List Token} → RescueVariable name xs ys → Keeps (RescueVariable name) xs ys
  variable (NoVariable _) zs h = (zs, h, NoVariable _)
  variable (Bound a t _ _ is is2) zs h = (a ∷ t ∷ zs, Keep (Keep h), Bound _ _ _ _ is is2)

  end-of : {xs ys : List Token} → DerivesEnd xs ys → Keeps DerivesEnd xs ys
  end-of (NoComma _ _ d) zs h = let z = gap d zs h in (z.0, z.1, NoComma _ _ z.2)
  end-of (LastComma c _ _ is d) zs h = let z = gap d zs h in (c ∷ z.0, Keep z.1, LastComma _ _ _ is z.2)

  -- ---- the forms

  mutual
    body : {free : Bool} {t : Tree} {xs ys : List Token} → DerivesBody Inside free t xs ys → Keeps (DerivesBody Inside free t) xs ys
    body (NoStatement _ _ _ _ d) zs h = let z = gap d zs h in (z.0, z.1, NoStatement _ _ _ _ z.2)
    body (Statements _ _ _ _ _ _ _ _ _ d e f g) zs h =
        let z = gap g zs h in let y = others f z.0 z.1 in let x = statement e y.0 y.1 in let w = gap d x.0 x.1 in
        (w.0, w.1, Statements _ _ _ _ _ _ _ _ _ w.2 x.2 y.2 z.2)

    others : {free : Bool} {ts : List Tree} {xs ys : List Token} → DerivesMore Inside free ts xs ys → Keeps (DerivesMore Inside free ts) xs ys
    others (NoMore _ _ _) zs h = (zs, h, NoMore _ _ _)
    others (Another _ _ t _ _ _ _ _ _ is d e f) zs h =
        let z = others f zs h in let y = statement e z.0 z.1 in let x = gap d y.0 y.1 in
        (t ∷ x.0, Keep x.1, Another _ _ _ _ _ _ _ _ _ is x.2 y.2 z.2)

    statement : {free : Bool} {t : Tree} {xs ys : List Token} → DerivesStatement Inside free t xs ys → Keeps (DerivesStatement Inside free t) xs ys
    statement (Declared _ _ _ _ _ is _) zs h = absurd (let e : false ≡ true = is in cc)
    statement (Simply _ _ _ _ _ _ _ d e) zs h =
        let z = modified e zs h in let y = simple d z.0 z.1 in
        (y.0, y.1, Simply _ _ _ _ _ _ _ y.2 z.2)

    pub modified : {free : Bool} {s t : Tree} {xs ys : List Token} → DerivesModified free s t xs ys → Keeps (DerivesModified free s t) xs ys
    modified (Unmodified _ _ _) zs h = (zs, h, Unmodified _ _ _)
    modified (Modified _ m _ _ _ _ _ _ _ is is2 d e) zs h =
        let z = modified e zs h in let y = simple d z.0 z.1 in
        (m ∷ y.0, Keep y.1, Modified _ _ _ _ _ _ _ _ _ is is2 y.2 z.2)

    pub simple : {constants free : Bool} {t : Tree} {xs ys : List Token} → DerivesSimple constants free t xs ys → Keeps (DerivesSimple constants free t) xs ys
    simple (Valued _ _ _ _ _ d) zs h = let z = value d zs h in (z.0, moved z.1, Valued _ _ _ _ _ z.2)
    simple (Jumps _ _ j _ _ is) zs h = (j ∷ zs, Keep h, Jumps _ _ _ _ _ is)
    simple (JumpsWith _ _ j _ _ _ _ is is2 d) zs h = let z = value d zs h in (j ∷ z.0, Keep (moved z.1), JumpsWith _ _ _ _ _ _ _ is (λ b. is2 (starts MODIFIERS z.1 b)) z.2)

    value : {constants free : Bool} {t : Tree} {xs ys : List Token} → DerivesValue constants free t xs ys → Leads (DerivesValue constants free t) xs ys
    value (Term _ _ _ _ _ d) zs h = let z = term d zs h in (z.0, z.1, Term _ _ _ _ _ z.2)
    value (Assigns _ _ e _ _ _ _ _ d is f) zs h =
        let z = value f zs h in let y = target d (e ∷ z.0) (Keep (moved z.1)) in
        (y.0, y.1, Assigns _ _ _ _ _ _ _ _ y.2 is z.2)
    value (Computes _ _ o _ _ _ _ _ _ d is e) zs h =
        let z = value e zs h in let y = target d (o ∷ z.0) (Keep (moved z.1)) in
        (y.0, y.1, Computes _ _ _ _ _ _ _ _ _ y.2 is z.2)
    value (Command _ _ _ _ _ _ _ _ _ d is e is2 f is3) zs h =
        let z = do-after f zs h in let y = arguments e z.0 z.1 in let x = callee d y.0 (moved y.1) in
        (x.0, x.1, Command _ _ _ _ _ _ _ _ _ x.2 (λ b. is (starts NO_COMMAND y.1 b)) y.2 is2 z.2 is3)

    pub target : {constants free : Bool} {t : Tree} {xs ys : List Token} → DerivesTarget constants free t xs ys → Leads (DerivesTarget constants free t) xs ys
    target (Variable _ _ t _ _ is) zs h = (t ∷ zs, Lead h, Variable _ _ _ _ _ is)
    target (Instance _ _ t _ _ is) zs h = (t ∷ zs, Lead h, Instance _ _ _ _ _ is)
    target (Constant _ t _ _ is) zs h = (t ∷ zs, Lead h, Constant _ _ _ _ is)
    target (Attribute _ _ _ d n _ _ _ _ _ e is is2) zs h = let z = operand e (d ∷ n ∷ zs) (Keep (Keep h)) in (z.0, z.1, Attribute _ _ _ _ _ _ _ _ _ _ z.2 is is2)
    target (Element _ _ _ _ _ _ _ _ _ _ d e) zs h =
        let z = index e zs h in let y = operand d z.0 z.1 in
        (y.0, y.1, Element _ _ _ _ _ _ _ _ _ _ y.2 z.2)

    callee : {free : Bool} {t : Tree} {xs ys : List Token} → DerivesCallee free t xs ys → Leads (DerivesCallee free t) xs ys
    callee (Own _ t _ _ is) zs h = (t ∷ zs, Lead h, Own _ _ _ _ is)
    callee (Of _ _ d n _ _ _ _ _ _ e is is2) zs h = let z = operand e (d ∷ n ∷ zs) (Keep (Keep h)) in (z.0, z.1, Of _ _ _ _ _ _ _ _ _ _ z.2 is is2)
    callee (YieldWord _ t _ is) zs h = (t ∷ zs, Lead h, YieldWord _ _ _ is)
    callee (SuperWord _ t _ is) zs h = (t ∷ zs, Lead h, SuperWord _ _ _ is)

    arguments : {bracketed free : Bool} {given : List (Argument Tree)} {xs ys : List Token} → DerivesArguments bracketed free given xs ys → Leads (DerivesArguments bracketed free given) xs ys
    arguments (LastArgument _ _ _ _ _ d) zs h = let z = argument d zs h in (z.0, z.1, LastArgument _ _ _ _ _ z.2)
    arguments (MoreArguments _ _ c _ _ _ _ _ _ d is e f) zs h =
        let z = arguments f zs h in let y = gap-in e z.0 (moved z.1) in let x = argument d (c ∷ y.0) (Keep y.1) in
        (x.0, x.1, MoreArguments _ _ _ _ _ _ _ _ _ x.2 is y.2 z.2)

    argument : {free : Bool} {a : Argument Tree} {xs ys : List Token} → DerivesArgument free a xs ys → Leads (DerivesArgument free a) xs ys
    argument (ByPlace _ _ _ _ d) zs h = let z = term d zs h in (z.0, z.1, ByPlace _ _ _ _ z.2)
    argument (ByName _ l _ _ _ _ is d) zs h = let z = term d zs h in (l ∷ z.0, Lead (moved z.1), ByName _ _ _ _ _ _ is z.2)
    argument (AsBlock _ a _ _ _ is d) zs h = let z = term d zs h in (a ∷ z.0, Lead (moved z.1), AsBlock _ _ _ _ _ is z.2)

    pub term : {free : Bool} {t : Tree} {xs ys : List Token} → DerivesTerm free t xs ys → Leads (DerivesTerm free t) xs ys
    term (Operated _ _ _ _ d) zs h = let z = level d zs h in (z.0, z.1, Operated _ _ _ _ z.2)
    term (Conditional _ q k _ _ _ _ _ _ _ d is e is2 f) zs h =
        let z = term f zs h in let y = term e (k ∷ z.0) (Keep (moved z.1)) in let x = level d (q ∷ y.0) (Keep (moved y.1)) in
        (x.0, x.1, Conditional _ _ _ _ _ _ _ _ _ _ x.2 is y.2 is2 z.2)

    level : {n : ℕ} {free : Bool} {t : Tree} {xs ys : List Token} → DerivesLevel n free t xs ys → Leads (DerivesLevel n free t) xs ys
    level (Tighter _ _ _ _ _ is d) zs h = let z = level d zs h in (z.0, z.1, Tighter _ _ _ _ _ is z.2)
    level (FromLeft _ _ o _ _ _ _ _ _ is d is2 e) zs h =
        let z = level e zs h in let y = level d (o ∷ z.0) (Keep (moved z.1)) in
        (y.0, y.1, FromLeft _ _ _ _ _ _ _ _ _ is y.2 is2 z.2)
    level (Once _ o _ _ _ _ _ _ d is e) zs h =
        let z = level e zs h in let y = level d (o ∷ z.0) (Keep (moved z.1)) in
        (y.0, y.1, Once _ _ _ _ _ _ _ _ y.2 is z.2)
    level (Negated _ m _ _ _ is is2 d) zs h = let z = level d zs h in (m ∷ z.0, Lead (moved z.1), Negated _ _ _ _ _ is (unsigned m z.1 is2) z.2)
    level (Raised _ o _ _ _ _ _ d is e) zs h =
        let z = level e zs h in let y = prefixed d (o ∷ z.0) (Keep (moved z.1)) in
        (y.0, y.1, Raised _ _ _ _ _ _ _ y.2 is z.2)
    level (Plainly _ _ _ _ d) zs h = let z = prefixed d zs h in (z.0, z.1, Plainly _ _ _ _ z.2)

    prefixed : {free : Bool} {t : Tree} {xs ys : List Token} → DerivesPrefixed free t xs ys → Leads (DerivesPrefixed free t) xs ys
    prefixed (Prefixed _ u _ _ _ _ is is2 d) zs h = let z = prefixed d zs h in (u ∷ z.0, Lead (moved z.1), Prefixed _ _ _ _ _ _ is (λ plus b. is2 plus (before-number u z.1 b)) z.2)
    prefixed (Posted _ _ _ _ _ _ d) zs h = let z = operand d zs h in (z.0, z.1, Posted _ _ _ _ _ _ z.2)

    operand : {free : Bool} {t : Tree} {ss : List (Suffix Tree)} {last : Token} {xs ys : List Token} → DerivesOperand free t ss last xs ys → Leads (DerivesOperand free t ss last) xs ys
    operand (Bare _ _ _ _ _ d) zs h = let z = primary d zs h in (z.0, z.1, Bare _ _ _ _ _ z.2)
    operand (Suffixed _ _ _ _ _ _ _ _ _ d e) zs h =
        let z = suffix e zs h in let y = operand d z.0 z.1 in
        (y.0, y.1, Suffixed _ _ _ _ _ _ _ _ _ y.2 z.2)

    suffix : {free : Bool} {s : Suffix Tree} {before last : Token} {xs ys : List Token} → DerivesSuffix free s before last xs ys → Keeps (DerivesSuffix free s before last) xs ys
    suffix (Calls _ _ d n _ _ _ _ _ _ _ _ _ is is2 e f is3) zs h =
        let z = block-after f zs h in let y = brackets e z.0 z.1 in
        (d ∷ n ∷ y.0, Keep (Keep y.1), Calls _ _ _ _ _ _ _ _ _ _ _ _ _ is is2 y.2 z.2 is3)
    suffix (WithinName _ _ c n _ _ is is2) zs h = (c ∷ n ∷ zs, Keep (Keep h), WithinName _ _ _ _ _ _ is is2)
    suffix (Indexed _ _ _ _ _ _ d) zs h = let z = index d zs h in (z.0, z.1, Indexed _ _ _ _ _ _ z.2)

    index : {s : Suffix Tree} {before last : Token} {xs ys : List Token} → DerivesIndex s before last xs ys → Keeps (DerivesIndex s before last) xs ys
    index (Index _ o c _ _ _ _ _ is is2 d e is3 f is4) zs h =
        let z = end-of f (c ∷ zs) (Keep h) in let y = arguments e z.0 z.1 in let x = gap d y.0 (moved y.1) in
        (o ∷ x.0, Keep x.1, Index _ _ _ _ _ _ _ _ is is2 x.2 y.2 is3 z.2 is4)

    brackets : {given : Option (List (Argument Tree))} {before last : Token} {xs ys : List Token} → DerivesBrackets given before last xs ys → Keeps (DerivesBrackets given before last) xs ys
    brackets (NoBrackets _ _) zs h = (zs, h, NoBrackets _ _)
    brackets (EmptyBrackets _ o c _ _ is d is2) zs h = let z = gap d (c ∷ zs) (Keep h) in (o ∷ z.0, Keep z.1, EmptyBrackets _ _ _ _ _ is z.2 is2)
    brackets (Brackets _ o c _ _ _ _ _ is d e is2 f is3) zs h =
        let z = gap f (c ∷ zs) (Keep h) in let y = arguments e z.0 z.1 in let x = gap d y.0 (moved y.1) in
        (o ∷ x.0, Keep x.1, Brackets _ _ _ _ _ _ _ _ is x.2 y.2 is2 z.2 is3)

    block-after : {free : Bool} {b : Option (Block Tree)} {before last : Token} {xs ys : List Token} → DerivesBlockAfter free b before last xs ys → Keeps (DerivesBlockAfter free b before last) xs ys
    block-after (NoBlock _ _ _) zs h = (zs, h, NoBlock _ _ _)
    block-after (SomeBlock _ _ _ _ _ _ d) zs h = let z = block d zs h in (z.0, z.1, SomeBlock _ _ _ _ _ _ z.2)

    block : {free : Bool} {b : Block Tree} {last : Token} {xs ys : List Token} → DerivesBlock free b last xs ys → Keeps (DerivesBlock free b last) xs ys
    block (Braces _ o c _ _ _ _ _ is d e is2) zs h =
        let z = body e (c ∷ zs) (Keep h) in let y = bars d z.0 z.1 in
        (o ∷ y.0, Keep y.1, Braces _ _ _ _ _ _ _ _ is y.2 z.2 is2)
    block (DoEnd o c _ _ _ _ _ is d e is2) zs h =
        let z = body e (c ∷ zs) (Keep h) in let y = bars d z.0 z.1 in
        (o ∷ y.0, Keep y.1, DoEnd _ _ _ _ _ _ _ is y.2 z.2 is2)

    do-after : {free : Bool} {b : Option (Block Tree)} {xs ys : List Token} → DerivesDo free b xs ys → Keeps (DerivesDo free b) xs ys
    do-after (NoDo _ _) zs h = (zs, h, NoDo _ _)
    do-after (SomeDo o _ _ _ _ is (Braces _ _ c _ _ _ _ _ is2 d e is3)) zs h =
        let z = body e (c ∷ zs) (Keep h) in let y = bars d z.0 z.1 in
        (o ∷ y.0, Keep y.1, SomeDo _ _ _ _ _ is (Braces _ _ _ _ _ _ _ _ is2 y.2 z.2 is3))
    do-after (SomeDo o _ _ _ _ is (DoEnd _ c _ _ _ _ _ is2 d e is3)) zs h =
        let z = body e (c ∷ zs) (Keep h) in let y = bars d z.0 z.1 in
        (o ∷ y.0, Keep y.1, SomeDo _ _ _ _ _ is (DoEnd _ _ _ _ _ _ _ is2 y.2 z.2 is3))

    primary : {free : Bool} {t : Tree} {last : Token} {xs ys : List Token} → DerivesPrimary free t last xs ys → Leads (DerivesPrimary free t last) xs ys
    primary (WholeNumber _ t _ _ is) zs h = (t ∷ zs, Lead h, WholeNumber _ _ _ _ is)
    primary (FloatNumber _ t _ _ is) zs h = (t ∷ zs, Lead h, FloatNumber _ _ _ _ is)
    primary (SignedWhole _ s t _ _ _ is is2 is3 is4) zs h = (s ∷ t ∷ zs, Lead (Keep h), SignedWhole _ _ _ _ _ _ is is2 (unraised h is3) is4)
    primary (SignedFloat _ s t _ _ _ is is2 is3 is4) zs h = (s ∷ t ∷ zs, Lead (Keep h), SignedFloat _ _ _ _ _ _ is is2 (unraised h is3) is4)
    primary (String _ t _ _ _ _ _ is d) zs h = let z = pieces d zs h in (t ∷ z.0, Lead z.1, String _ _ _ _ _ _ _ is z.2)
    primary (SymbolName _ t _ _ is) zs h = (t ∷ zs, Lead h, SymbolName _ _ _ _ is)
    primary (InstanceName _ t _ _ is) zs h = (t ∷ zs, Lead h, InstanceName _ _ _ _ is)
    primary (ConstantName _ t _ _ is) zs h = (t ∷ zs, Lead h, ConstantName _ _ _ _ is)
    primary (FromTop _ c t _ _ is is2) zs h = (c ∷ t ∷ zs, Lead (Keep h), FromTop _ _ _ _ _ is is2)
    primary (SelfPlace _ t _ is) zs h = (t ∷ zs, Lead h, SelfPlace _ _ _ is)
    primary (NilPlace _ t _ is) zs h = (t ∷ zs, Lead h, NilPlace _ _ _ is)
    primary (TruePlace _ t _ is) zs h = (t ∷ zs, Lead h, TruePlace _ _ _ is)
    primary (FalsePlace _ t _ is) zs h = (t ∷ zs, Lead h, FalsePlace _ _ _ is)
    primary (NameAlone _ t _ _ is) zs h = (t ∷ zs, Lead h, NameAlone _ _ _ _ is)
    primary (CallWithBrackets _ t _ _ _ _ _ _ _ _ is d e is2) zs h =
        let z = block-after e zs h in let y = brackets d z.0 z.1 in
        (t ∷ y.0, Lead y.1, CallWithBrackets _ _ _ _ _ _ _ _ _ _ is y.2 z.2 is2)
    primary (CallWithBlock _ t _ _ _ _ _ is d) zs h = let z = block d zs h in (t ∷ z.0, Lead z.1, CallWithBlock _ _ _ _ _ _ _ is z.2)
    primary (Yields _ t _ _ _ _ is d) zs h = let z = brackets d zs h in (t ∷ z.0, Lead z.1, Yields _ _ _ _ _ _ is z.2)
    primary (Supers _ t _ _ _ _ is d) zs h = let z = brackets d zs h in (t ∷ z.0, Lead z.1, Supers _ _ _ _ _ _ is z.2)
    primary (EmptyArray _ o c _ _ is d is2) zs h = let z = gap d (c ∷ zs) (Keep h) in (o ∷ z.0, Lead z.1, EmptyArray _ _ _ _ _ is z.2 is2)
    primary (SomeArray _ o c _ _ _ _ _ is d e f is2) zs h =
        let z = end-of f (c ∷ zs) (Keep h) in let y = elements e z.0 z.1 in let x = gap d y.0 y.1 in
        (o ∷ x.0, Lead x.1, SomeArray _ _ _ _ _ _ _ _ is x.2 y.2 z.2 is2)
    primary (EmptyHash _ o c _ _ is d is2) zs h = let z = gap d (c ∷ zs) (Keep h) in (o ∷ z.0, Lead z.1, EmptyHash _ _ _ _ _ is z.2 is2)
    primary (SomeHash _ o c _ _ _ _ _ is d e f is2) zs h =
        let z = end-of f (c ∷ zs) (Keep h) in let y = pairs e z.0 z.1 in let x = gap d y.0 y.1 in
        (o ∷ x.0, Lead x.1, SomeHash _ _ _ _ _ _ _ _ is x.2 y.2 z.2 is2)
    primary (InParens _ o c _ _ _ is d is2) zs h = let z = body d (c ∷ zs) (Keep h) in (o ∷ z.0, Lead z.1, InParens _ _ _ _ _ _ is z.2 is2)
    primary (Branches _ k e _ _ _ _ _ _ _ _ _ _ _ is d f g i is2 j is3) zs h =
        let z = otherwise j (e ∷ zs) (Keep h) in let y = arms i z.0 z.1 in let x = body g y.0 y.1 in let w = then-word f x.0 x.1 in let v = simple d w.0 w.1 in
        (k ∷ v.0, Lead v.1, Branches _ _ _ _ _ _ _ _ _ _ _ _ _ _ is v.2 w.2 x.2 y.2 is2 z.2 is3)
    primary (Loops _ k d e _ _ _ _ _ _ is f is2 g is3) zs h =
        let z = body g (e ∷ zs) (Keep h) in let y = simple f (d ∷ z.0) (Keep z.1) in
        (k ∷ y.0, Lead y.1, Loops _ _ _ _ _ _ _ _ _ _ is y.2 is2 z.2 is3)
    primary (Guards _ k e _ _ _ is d is2) zs h = let z = guarded d (e ∷ zs) (Keep h) in (k ∷ z.0, Lead z.1, Guards _ _ _ _ _ _ is z.2 is2)
    primary (Cases _ k e _ _ _ _ _ _ _ _ _ is d f g i is2) zs h =
        let z = otherwise i (e ∷ zs) (Keep h) in let y = whens g z.0 z.1 in let x = gap f y.0 y.1 in let w = subject d x.0 x.1 in
        (k ∷ w.0, Lead w.1, Cases _ _ _ _ _ _ _ _ _ _ _ _ is w.2 x.2 y.2 z.2 is2)

    pieces : {ps : List (Piece Tree)} {before last : Token} {xs ys : List Token} → DerivesPieces ps before last xs ys → Keeps (DerivesPieces ps before last) xs ys
    pieces (NoPiece _ _) zs h = (zs, h, NoPiece _ _)
    pieces (MorePieces _ o c t _ _ _ _ _ _ _ is d is2 is3 e) zs h =
        let z = pieces e zs h in let y = body d (c ∷ t ∷ z.0) (Keep (Keep z.1)) in
        (o ∷ y.0, Keep y.1, MorePieces _ _ _ _ _ _ _ _ _ _ _ is y.2 is2 is3 z.2)

    elements : {ts : List Tree} {xs ys : List Token} → DerivesElements ts xs ys → Keeps (DerivesElements ts) xs ys
    elements (LastElement _ _ _ d) zs h = let z = term d zs h in (z.0, moved z.1, LastElement _ _ _ z.2)
    elements (MoreElements c _ _ _ _ _ _ d is e f) zs h =
        let z = elements f zs h in let y = gap e z.0 z.1 in let x = term d (c ∷ y.0) (Keep y.1) in
        (x.0, moved x.1, MoreElements _ _ _ _ _ _ _ x.2 is y.2 z.2)

    pairs : {ps : List (Pair Tree)} {xs ys : List Token} → DerivesPairs ps xs ys → Keeps (DerivesPairs ps) xs ys
    pairs (LastPair _ _ _ d) zs h = let z = pair d zs h in (z.0, z.1, LastPair _ _ _ z.2)
    pairs (MorePairs c _ _ _ _ _ _ d is e f) zs h =
        let z = pairs f zs h in let y = gap e z.0 z.1 in let x = pair d (c ∷ y.0) (Keep y.1) in
        (x.0, x.1, MorePairs _ _ _ _ _ _ _ x.2 is y.2 z.2)

    pair : {p : Pair Tree} {xs ys : List Token} → DerivesPair p xs ys → Keeps (DerivesPair p) xs ys
    pair (ByArrow a _ _ _ _ _ d is e) zs h =
        let z = term e zs h in let y = term d (a ∷ z.0) (Keep (moved z.1)) in
        (y.0, moved y.1, ByArrow _ _ _ _ _ _ y.2 is z.2)
    pair (ByLabel l _ _ _ _ is d) zs h = let z = term d zs h in (l ∷ z.0, Keep (moved z.1), ByLabel _ _ _ _ _ is z.2)

    arms : {free : Bool} {more : List (Arm Tree)} {xs ys : List Token} → DerivesArms free more xs ys → Keeps (DerivesArms free more) xs ys
    arms (NoArm _ _) zs h = (zs, h, NoArm _ _)
    arms (MoreArms _ k _ _ _ _ _ _ _ _ is d e f g) zs h =
        let z = arms g zs h in let y = body f z.0 z.1 in let x = then-word e y.0 y.1 in let w = simple d x.0 x.1 in
        (k ∷ w.0, Keep w.1, MoreArms _ _ _ _ _ _ _ _ _ _ is w.2 x.2 y.2 z.2)

    otherwise : {free : Bool} {t : Option Tree} {xs ys : List Token} → DerivesElse free t xs ys → Keeps (DerivesElse free t) xs ys
    otherwise (NoElse _ _) zs h = (zs, h, NoElse _ _)
    otherwise (SomeElse _ k _ _ _ is d) zs h = let z = body d zs h in (k ∷ z.0, Keep z.1, SomeElse _ _ _ _ _ is z.2)

    subject : {free : Bool} {t : Option Tree} {xs ys : List Token} → DerivesSubject free t xs ys → Keeps (DerivesSubject free t) xs ys
    subject (NoSubject _ _) zs h = (zs, h, NoSubject _ _)
    subject (SomeSubject _ _ _ _ d) zs h = let z = simple d zs h in (z.0, z.1, SomeSubject _ _ _ _ z.2)

    whens : {free : Bool} {more : List (When Tree)} {xs ys : List Token} → DerivesWhens free more xs ys → Keeps (DerivesWhens free more) xs ys
    whens (NoWhen _ _) zs h = (zs, h, NoWhen _ _)
    whens (MoreWhens _ k _ _ _ _ _ _ _ _ is d e f g) zs h =
        let z = whens g zs h in let y = body f z.0 z.1 in let x = then-word e y.0 y.1 in let w = patterns d x.0 x.1 in
        (k ∷ w.0, Keep w.1, MoreWhens _ _ _ _ _ _ _ _ _ _ is w.2 x.2 y.2 z.2)

    patterns : {free : Bool} {ts : List Tree} {xs ys : List Token} → DerivesPatterns free ts xs ys → Keeps (DerivesPatterns free ts) xs ys
    patterns (LastPattern _ _ _ _ d) zs h = let z = term d zs h in (z.0, moved z.1, LastPattern _ _ _ _ z.2)
    patterns (MorePatterns _ c _ _ _ _ _ d is e) zs h =
        let z = patterns e zs h in let y = term d (c ∷ z.0) (Keep z.1) in
        (y.0, moved y.1, MorePatterns _ _ _ _ _ _ _ y.2 is z.2)

    guarded : {free : Bool} {guarded : Guarded Tree} {xs ys : List Token} → DerivesGuarded free guarded xs ys → Keeps (DerivesGuarded free guarded) xs ys
    guarded (Unrescued _ _ _ _ _ _ d e) zs h =
        let z = ensured e zs h in let y = body d z.0 z.1 in
        (y.0, y.1, Unrescued _ _ _ _ _ _ y.2 z.2)
    guarded (Rescued _ _ _ _ _ _ _ _ _ _ _ d e f g) zs h =
        let z = ensured g zs h in let y = otherwise f z.0 z.1 in let x = rescues e y.0 y.1 in let w = body d x.0 x.1 in
        (w.0, w.1, Rescued _ _ _ _ _ _ _ _ _ _ _ w.2 x.2 y.2 z.2)

    rescues : {free : Bool} {before : Tree} {more : List (Rescue Tree)} {xs ys : List Token} → DerivesRescues free before more xs ys → Keeps (DerivesRescues free before more) xs ys
    rescues (NoRescue _ _ _) zs h = (zs, h, NoRescue _ _ _)
    rescues (MoreRescues _ k _ _ _ _ _ _ _ _ _ _ _ _ d is e f g i j) zs h =
        let z = rescues j zs h in let y = body i z.0 z.1 in let x = then-word g y.0 y.1 in let w = variable f x.0 x.1 in let v = raised e w.0 w.1 in let u = parted d (k ∷ v.0) (Keep v.1) in
        (u.0, u.1, MoreRescues _ _ _ _ _ _ _ _ _ _ _ _ _ _ u.2 is v.2 w.2 x.2 y.2 z.2)

    raised : {free : Bool} {ts : List Tree} {xs ys : List Token} → DerivesRaised free ts xs ys → Keeps (DerivesRaised free ts) xs ys
    raised (AnyError _ _) zs h = (zs, h, AnyError _ _)
    raised (SomeErrors _ _ _ _ d) zs h = let z = patterns d zs h in (z.0, z.1, SomeErrors _ _ _ _ z.2)

    ensured : {free : Bool} {t : Option Tree} {xs ys : List Token} → DerivesEnsure free t xs ys → Keeps (DerivesEnsure free t) xs ys
    ensured (NoEnsure _ _) zs h = (zs, h, NoEnsure _ _)
    ensured (SomeEnsure _ k _ _ _ is d) zs h = let z = body d zs h in (k ∷ z.0, Keep z.1, SomeEnsure _ _ _ _ _ is z.2)
