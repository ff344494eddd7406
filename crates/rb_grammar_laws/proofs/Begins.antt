-- What forms begin with.
use Rattle.std.proofs.Common.{◌≡◌, ℕ, suc, Bool, true, false, List, [], ◌∷◌, inl, inr, refl}
use Rattle.rb_tree.specs.Tokens.{same_shape}
use Rattle.rb_tree.specs.declared.syntax.Suffix.{Suffix}
use Rattle.rb_tree.specs.declared.syntax.Tree.{Tree}
use Rattle.rb_tree.specs.declared.token.Token.{Token}
use Rattle.rb_tree.specs.declared.token.Shape.TheVariants as shape
use Rattle.rb_rules.specs.Tokens.{IsOneOf, StartsWith}
use Rattle.rb_rules.specs.Grammar.{SIGNS, PREFIXES, JUMP_WORDS, BRANCH_WORDS, LOOP_WORDS, DerivesPrimary, DerivesOperand, DerivesPrefixed, DerivesLevel, DerivesTerm, DerivesTarget, DerivesCallee, DerivesValue, DerivesSimple}
use Rattle.rb_rules.specs.Grammar.DerivesPrimary.{WholeNumber, FloatNumber, SignedWhole, SignedFloat, String, SymbolName, InstanceName, ConstantName, FromTop, SelfPlace, NilPlace, TruePlace, FalsePlace, NameAlone, CallWithBrackets, CallWithBlock, Yields, Supers, EmptyArray, SomeArray, EmptyHash, SomeHash, InParens, Branches, Loops, Guards, Cases}
use Rattle.rb_rules.specs.Grammar.DerivesOperand.{Bare, Suffixed}
use Rattle.rb_rules.specs.Grammar.DerivesPrefixed.{Prefixed, Posted}
use Rattle.rb_rules.specs.Grammar.DerivesLevel.{Tighter, FromLeft, Once, Negated, Raised, Plainly}
use Rattle.rb_rules.specs.Grammar.DerivesTerm.{Operated, Conditional}
use Rattle.rb_rules.specs.Grammar.DerivesTarget.{Variable, Instance, Constant, Attribute, Element}
use Rattle.rb_rules.specs.Grammar.DerivesCallee.{Own, Of, YieldWord, SuperWord}
use Rattle.rb_rules.specs.Grammar.DerivesValue.{Term, Assigns, Computes, Command}
use Rattle.rb_rules.specs.Grammar.DerivesSimple.{Valued, Jumps, JumpsWith}
use Rattle.rb_rules.specs.Forms.{Inside}
use Rattle.rb_rules.specs.Grammar.{Gap, DerivesBody, DerivesStatement}
use Rattle.rb_rules.specs.Grammar.Gap.{Closed, Wide}
use Rattle.rb_rules.specs.Grammar.DerivesBody.{NoStatement, Statements}
use Rattle.rb_rules.specs.Grammar.DerivesStatement.{Declared, Simply}
use Rattle.rb_grammar_laws.specs.Begins.{OPERANDS, TERMS, SIMPLE, BODIES, BeginsOperand}
use Rattle.rb_grammar_laws.specs.Ends.{Ends, BODY_ENDS}
use Rattle.rb_grammar_laws.proofs.Steps.{any-of, in-list, wider, by-row, ends-wider, ends-taking-none, identifier, constant, instance_variable, symbol, whole, float, text}

pub primary-begins : (free : Bool) (p : Tree) (last : Token) (xs ys : List Token) → DerivesPrimary free p last xs ys → BeginsOperand xs
unfolding same_shape
primary-begins free p last xs ys (WholeNumber _ t w _ is) = inl (any-of OPERANDS shape.Whole t refl (whole t w is))
primary-begins free p last xs ys (FloatNumber _ t w _ is) = inl (any-of OPERANDS shape.Float t refl (float t w is))
primary-begins free p last xs ys (SignedWhole _ s t how w _ row near up is) = inr (how, row, (inl (whole t w is), near), up)
primary-begins free p last xs ys (SignedFloat _ s t how w _ row near up is) = inr (how, row, (inr (inl (float t w is)), near), up)
primary-begins free p last xs ys (String _ t _ w pieces _ _ is d) = inl (any-of OPERANDS shape.Text t refl (text t w is))
primary-begins free p last xs ys (SymbolName _ t w _ is) = inl (any-of OPERANDS shape.Symbol t refl (symbol t w is))
primary-begins free p last xs ys (InstanceName _ t w _ is) = inl (any-of OPERANDS shape.InstanceVariable t refl (instance_variable t w is))
primary-begins free p last xs ys (ConstantName _ t w _ is) = inl (any-of OPERANDS shape.Constant t refl (constant t w is))
primary-begins free p last xs ys (FromTop _ c t w _ is con) = inl (any-of OPERANDS shape.Scope c refl is)
primary-begins free p last xs ys (SelfPlace _ t _ is) = inl (any-of OPERANDS shape.SelfWord t refl is)
primary-begins free p last xs ys (NilPlace _ t _ is) = inl (any-of OPERANDS shape.Nil t refl is)
primary-begins free p last xs ys (TruePlace _ t _ is) = inl (any-of OPERANDS shape.True t refl is)
primary-begins free p last xs ys (FalsePlace _ t _ is) = inl (any-of OPERANDS shape.False t refl is)
primary-begins free p last xs ys (NameAlone _ t w _ is) = inl (any-of OPERANDS shape.Identifier t refl (identifier t w is))
primary-begins free p last xs ys (CallWithBrackets _ t middle _ w arguments block _ ps _ is d e non) = inl (any-of OPERANDS shape.Identifier t refl (identifier t w is))
primary-begins free p last xs ys (CallWithBlock _ t _ w block _ _ is d) = inl (any-of OPERANDS shape.Identifier t refl (identifier t w is))
primary-begins free p last xs ys (Yields _ t _ arguments _ _ is d) = inl (any-of OPERANDS shape.Yield t refl is)
primary-begins free p last xs ys (Supers _ t _ arguments _ _ is d) = inl (any-of OPERANDS shape.Super t refl is)
primary-begins free p last xs ys (EmptyArray _ o c _ _ is g closes) = inl (any-of OPERANDS shape.OpenBracket o refl is)
primary-begins free p last xs ys (SomeArray _ o c elements _ ps qs _ is g d e closes) = inl (any-of OPERANDS shape.OpenBracket o refl is)
primary-begins free p last xs ys (EmptyHash _ o c _ _ is g closes) = inl (any-of OPERANDS shape.OpenBrace o refl is)
primary-begins free p last xs ys (SomeHash _ o c pairs _ ps qs _ is g d e closes) = inl (any-of OPERANDS shape.OpenBrace o refl is)
primary-begins free p last xs ys (InParens _ o c body _ _ is d closes) = inl (any-of OPERANDS shape.OpenParen o refl is)
primary-begins free p last xs ys (Branches _ k e word c body arms otherwise _ ps qs rs us _ row d h b a only o z) = inl (by-row BRANCH_WORDS (λ s w. IsOneOf OPERANDS s) (in-list OPERANDS shape.If refl, (in-list OPERANDS shape.Unless refl, tt)) _ _ row)
primary-begins free p last xs ys (Loops _ k d e word c body _ ps _ row h d2 b z) = inl (by-row LOOP_WORDS (λ s w. IsOneOf OPERANDS s) (in-list OPERANDS shape.While refl, (in-list OPERANDS shape.Until refl, tt)) _ _ row)
primary-begins free p last xs ys (Guards _ k e guarded _ _ is d end) = inl (any-of OPERANDS shape.Begin k refl is)
primary-begins free p last xs ys (Cases _ k e subject arm arms otherwise _ ps qs rs _ is d g w o end) = inl (any-of OPERANDS shape.Case k refl is)

pub operand-begins : (free : Bool) (p : Tree) (ss : List (Suffix Tree)) (last : Token) (xs ys : List Token) → DerivesOperand free p ss last xs ys → BeginsOperand xs
operand-begins free p ss last xs ys (Bare _ _ _ _ _ d) = primary-begins free p last xs ys d
operand-begins free p ss last xs ys (Suffixed _ before _ _ rs s _ ps _ d e) = operand-begins free p rs before xs ps d

pub begins-term : (xs : List Token) → BeginsOperand xs → StartsWith TERMS xs
begins-term [] h = h
begins-term (t ∷ ts) (inl h) = inr (inr (inr (inr h)))
begins-term (t ∷ ts) (inr h) = by-row SIGNS (λ s w. IsOneOf TERMS s) (inr (inr (inl refl)), (inr (inr (inr (inl refl))), tt)) _ _ h.1

pub prefixed-begins : (free : Bool) (t : Tree) (xs ys : List Token) → DerivesPrefixed free t xs ys → StartsWith TERMS xs
prefixed-begins free t xs ys (Prefixed _ u operator a _ _ row non d) = by-row PREFIXES (λ s w. IsOneOf TERMS s) (inl refl, (inr (inl refl), (inr (inr (inr (inl refl))), tt))) _ _ row
prefixed-begins free t xs ys (Posted _ last p ss _ _ d) = begins-term xs (operand-begins free p ss last xs ys d)

pub level-begins : (level : ℕ) (free : Bool) (t : Tree) (xs ys : List Token) → DerivesLevel level free t xs ys → StartsWith TERMS xs
level-begins level free t xs ys (Tighter _ _ _ _ _ less d) = level-begins (suc level) free t xs ys d
level-begins level free t xs ys (FromLeft _ _ o operator a b _ ps _ non d is e) = level-begins level free a xs (o ∷ ps) d
level-begins level free t xs ys (Once _ o operator a b _ ps _ d is e) = level-begins 3 free a xs (o ∷ ps) d
level-begins level free t xs ys (Negated _ m a _ _ is non d) = inr (inr (inl is))
level-begins level free t xs ys (Raised _ o a b _ ps _ d is e) = prefixed-begins free a xs (o ∷ ps) d
level-begins level free t xs ys (Plainly _ _ _ _ d) = prefixed-begins free t xs ys d

pub term-begins : (free : Bool) (t : Tree) (xs ys : List Token) → DerivesTerm free t xs ys → StartsWith TERMS xs
term-begins free t xs ys (Operated _ _ _ _ d) = level-begins 0 free t xs ys d
term-begins free t xs ys (Conditional _ q k c a b _ ps qs _ d is e is2 f) = level-begins 0 free c xs (q ∷ ps) d

pub target-begins : (constants free : Bool) (t : Tree) (xs ys : List Token) → DerivesTarget constants free t xs ys → StartsWith TERMS xs
unfolding same_shape
target-begins constants free t xs ys (Variable _ _ u w _ is) = any-of TERMS shape.Identifier u refl (identifier u w is)
target-begins constants free t xs ys (Instance _ _ u w _ is) = any-of TERMS shape.InstanceVariable u refl (instance_variable u w is)
target-begins constants free t xs ys (Constant _ u w _ is) = any-of TERMS shape.Constant u refl (constant u w is)
target-begins constants free t xs ys (Attribute _ _ last d n r ss w _ _ o is i) = begins-term xs (operand-begins free r ss last xs (d ∷ n ∷ ys) o)
target-begins constants free t xs ys (Element _ _ before last r ss s _ ps _ o i) = begins-term xs (operand-begins free r ss before xs ps o)

pub callee-begins : (free : Bool) (t : Tree) (xs ys : List Token) → DerivesCallee free t xs ys → StartsWith TERMS xs
unfolding same_shape
callee-begins free t xs ys (Own _ u w _ is) = any-of TERMS shape.Identifier u refl (identifier u w is)
callee-begins free t xs ys (Of _ last d n how r ss w _ _ o row i) = begins-term xs (operand-begins free r ss last xs (d ∷ n ∷ ys) o)
callee-begins free t xs ys (YieldWord _ u _ is) = any-of TERMS shape.Yield u refl is
callee-begins free t xs ys (SuperWord _ u _ is) = any-of TERMS shape.Super u refl is

pub value-begins : (constants free : Bool) (t : Tree) (xs ys : List Token) → DerivesValue constants free t xs ys → StartsWith TERMS xs
value-begins constants free t xs ys (Term _ _ _ _ _ d) = term-begins free t xs ys d
value-begins constants free t xs ys (Assigns _ _ e target v _ ps _ d is h) = target-begins constants free target xs (e ∷ ps) d
value-begins constants free t xs ys (Computes _ _ o operator target v _ ps _ d row h) = target-begins false free target xs (o ∷ ps) d
value-begins constants free t xs ys (Command _ _ callee arguments block _ ps qs _ d non h ordered b only) = callee-begins free callee xs ps d

begins-simple : (xs : List Token) → StartsWith TERMS xs → StartsWith SIMPLE xs
begins-simple [] h = h
begins-simple (t ∷ ts) h = inr (inr (inr h))

pub simple-begins : (constants free : Bool) (t : Tree) (xs ys : List Token) → DerivesSimple constants free t xs ys → StartsWith SIMPLE xs
simple-begins constants free t xs ys (Valued _ _ _ _ _ d) = begins-simple xs (value-begins constants free t xs ys d)
simple-begins constants free t xs ys (Jumps _ _ j word _ row) = by-row JUMP_WORDS (λ s w. IsOneOf SIMPLE s) (inl refl, (inr (inl refl), (inr (inr (inl refl)), tt))) _ _ row
simple-begins constants free t xs ys (JumpsWith _ _ j word v _ _ row non d) = by-row JUMP_WORDS (λ s w. IsOneOf SIMPLE s) (inl refl, (inr (inl refl), (inr (inr (inl refl)), tt))) _ _ row

-- ---- bodies

pub statement-begins : (free : Bool) (t : Tree) (xs ys : List Token) → DerivesStatement Inside free t xs ys → StartsWith SIMPLE xs
statement-begins free t xs ys (Declared _ _ d _ _ is h) = absurd (let e : false ≡ true = is in cc)
statement-begins free t xs ys (Simply _ _ s _ _ ps _ d m) = simple-begins false free s xs ps d

simple-bodies : (xs : List Token) → StartsWith SIMPLE xs → Ends BODIES false xs
unfolding same_shape
simple-bodies [] h = absurd h
simple-bodies (t ∷ ts) h = (wider SIMPLE BODIES refl _ h, λ e. absurd (cc))

gap-bodies : (xs ys : List Token) → Gap xs ys → Ends BODIES false ys → Ends BODIES false xs
gap-bodies xs ys (Closed _) h = h
gap-bodies xs ys (Wide t us _ is g) h = (inl is, λ e. absurd (cc))

pub body-begins : (free : Bool) (t : Tree) (xs ys : List Token) → DerivesBody Inside free t xs ys → Ends BODY_ENDS free ys → Ends BODIES false xs
unfolding same_shape
body-begins free t xs ys (NoStatement _ _ _ _ g) ends = gap-bodies xs ys g (ends-wider BODY_ENDS BODIES refl false ys (ends-taking-none BODY_ENDS free ys ends))
body-begins free t xs ys (Statements _ _ s ss _ ps qs rs _ g d more h) ends = gap-bodies xs ps g (simple-bodies ps (statement-begins free s ps qs d))

rescue-bodies : (xs : List Token) → StartsWith (shape.Rescue ∷ []) xs → Ends (shape.Rescue ∷ BODIES) false xs
unfolding same_shape
rescue-bodies [] h = absurd h
rescue-bodies (t ∷ ts) h = (wider (shape.Rescue ∷ []) (shape.Rescue ∷ BODIES) refl _ h, λ e. absurd (cc))

gap-rescue : (xs ys : List Token) → Gap xs ys → Ends (shape.Rescue ∷ BODIES) false ys → Ends (shape.Rescue ∷ BODIES) false xs
gap-rescue xs ys (Closed _) h = h
gap-rescue xs ys (Wide t us _ is g) h = (inr (inl is), λ e. absurd (cc))

pub rescued-begins : (free : Bool) (t : Tree) (xs ys : List Token) → DerivesBody Inside free t xs ys → StartsWith (shape.Rescue ∷ []) ys → Ends (shape.Rescue ∷ BODIES) false xs
unfolding same_shape
rescued-begins free t xs ys (NoStatement _ _ _ _ g) h = gap-rescue xs ys g (rescue-bodies ys h)
rescued-begins free t xs ys (Statements _ _ s ss _ ps qs rs _ g d more end) h = gap-rescue xs ps g (ends-wider BODIES (shape.Rescue ∷ BODIES) refl false ps (simple-bodies ps (statement-begins free s ps qs d)))
