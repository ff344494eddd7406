-- A form that begins with no `begin` is none.
use Rattle.std.proofs.Common.{◌≡◌, ℕ, Bool, false, List, [], ◌∷◌, ◌++◌, Some, None, sym, ap, ◌∙◌}
use Rattle.rb_tree.specs.Tokens.{shape_of}
use Rattle.rb_tree.specs.declared.syntax.Suffix.{Suffix}
use Rattle.rb_tree.specs.declared.syntax.Tree.{Tree}
use Rattle.rb_tree.specs.declared.syntax.Node.{Node, out-Node}
use Rattle.rb_tree.specs.declared.syntax.Node.TheOpen.{Node-F}
use Rattle.rb_tree.specs.declared.syntax.Node.TheViews.{roll-Node, out-roll-Node}
use Rattle.rb_tree.specs.declared.syntax.Node.TheVariants.{rolls-Whole, rolls-Float, rolls-Text, rolls-Symbol, rolls-InstanceVariable, rolls-Constant, rolls-TopConstant, rolls-SelfWord, rolls-Nil, rolls-True, rolls-False, rolls-Name, rolls-Call, rolls-Yield, rolls-Super, rolls-Array, rolls-Hash, rolls-Parens, rolls-If, rolls-While, rolls-Case, rolls-Post, rolls-Unary, rolls-Binary}
use Rattle.rb_tree.specs.declared.token.Token.{Token}
use Rattle.rb_tree.specs.declared.token.Shape.TheVariants as shape
use Rattle.rb_rules.specs.Tokens.{Is}
use Rattle.rb_rules.specs.Spans.{across}
use Rattle.rb_rules.specs.Forms.{is_begin, is_begin_at}
use Rattle.rb_rules.specs.Grammar.{posted, DerivesLevel, DerivesPrefixed, DerivesOperand, DerivesPrimary}
use Rattle.rb_rules.specs.Grammar.DerivesLevel.{Tighter, FromLeft, Once, Negated, Raised, Plainly}
use Rattle.rb_rules.specs.Grammar.DerivesPrefixed.{Prefixed, Posted}
use Rattle.rb_rules.specs.Grammar.DerivesOperand.{Bare, Suffixed}
use Rattle.rb_rules.specs.Grammar.DerivesPrimary.{WholeNumber, FloatNumber, SignedWhole, SignedFloat, String, SymbolName, InstanceName, ConstantName, FromTop, SelfPlace, NilPlace, TruePlace, FalsePlace, NameAlone, CallWithBrackets, CallWithBlock, Yields, Supers, EmptyArray, SomeArray, EmptyHash, SomeHash, InParens, Branches, Loops, Guards, Cases}

-- a tree with this node
pub noded : (t : Tree) (r : Node-F Node Tree) → roll-Node r ≡ t.node → is_begin t ≡ is_begin_at r
unfolding is_begin
noded t r e = ap (λ u. is_begin_at (out-Node u)) (sym e) ∙ ap (λ q. is_begin_at q) (out-roll-Node r)

-- an operand with a suffix
pub posted-more : (p : Tree) (ss : List (Suffix Tree)) (s : Suffix Tree) → is_begin (posted p (ss ++ s ∷ [])) ≡ false
posted-more p [] s = noded _ _ (rolls-Post _ _ _)
posted-more p (x ∷ ss) s = noded _ _ (rolls-Post _ _ _)

-- the tokens begin with this one
abbrev pub Headed : Token → List Token → Type 0
Headed t us = (vs : List Token) × (us ≡ t ∷ vs)

module _ (t : Token) (other : Is shape.Begin t → ⊥) where
  pub primary-begins : {free : Bool} {p : Tree} {last : Token} {us zs : List Token} → DerivesPrimary free p last us zs → Headed t us → is_begin p ≡ false
  primary-begins (WholeNumber _ _ _ _ _) h = noded _ _ (rolls-Whole _ _ _)
  primary-begins (FloatNumber _ _ _ _ _) h = noded _ _ (rolls-Float _ _ _)
  primary-begins (SignedWhole _ _ _ _ _ _ _ _ _ _) h = noded _ _ (rolls-Whole _ _ _)
  primary-begins (SignedFloat _ _ _ _ _ _ _ _ _ _) h = noded _ _ (rolls-Float _ _ _)
  primary-begins (String _ _ _ _ _ _ _ _ _) h = noded _ _ (rolls-Text _ _)
  primary-begins (SymbolName _ _ _ _ _) h = noded _ _ (rolls-Symbol _ _)
  primary-begins (InstanceName _ _ _ _ _) h = noded _ _ (rolls-InstanceVariable _ _)
  primary-begins (ConstantName _ _ _ _ _) h = noded _ _ (rolls-Constant _ _)
  primary-begins (FromTop _ _ _ _ _ _ _) h = noded _ _ (rolls-TopConstant _ _ _)
  primary-begins (SelfPlace _ _ _ _) h = noded _ _ (rolls-SelfWord _)
  primary-begins (NilPlace _ _ _ _) h = noded _ _ (rolls-Nil _)
  primary-begins (TruePlace _ _ _ _) h = noded _ _ (rolls-True _)
  primary-begins (FalsePlace _ _ _ _) h = noded _ _ (rolls-False _)
  primary-begins (NameAlone _ _ _ _ _) h = noded _ _ (rolls-Name _ _)
  primary-begins (CallWithBrackets _ c _ last w given block _ _ _ _ _ _ _) h = noded _ _ (rolls-Call w c.span (Some given) block (across c.span last.span))
  primary-begins (CallWithBlock _ c last w block _ _ _ _) h = noded _ _ (rolls-Call w c.span None (Some block) (across c.span last.span))
  primary-begins (Yields _ _ _ _ _ _ _ _) h = noded _ _ (rolls-Yield _ _)
  primary-begins (Supers _ _ _ _ _ _ _ _) h = noded _ _ (rolls-Super _ _)
  primary-begins (EmptyArray _ _ _ _ _ _ _ _) h = noded _ _ (rolls-Array _ _)
  primary-begins (SomeArray _ _ _ _ _ _ _ _ _ _ _ _ _) h = noded _ _ (rolls-Array _ _)
  primary-begins (EmptyHash _ _ _ _ _ _ _ _) h = noded _ _ (rolls-Hash _ _)
  primary-begins (SomeHash _ _ _ _ _ _ _ _ _ _ _ _ _) h = noded _ _ (rolls-Hash _ _)
  primary-begins (InParens _ _ _ _ _ _ _ _ _) h = noded _ _ (rolls-Parens _ _)
  primary-begins (Branches _ _ _ _ _ _ _ _ _ _ _ _ _ _ _ _ _ _ _ _ _ _) h = noded _ _ (rolls-If _ _ _ _ _ _)
  primary-begins (Loops _ _ _ _ _ _ _ _ _ _ _ _ _ _ _) h = noded _ _ (rolls-While _ _ _ _)
  primary-begins (Guards _ k _ _ _ _ is _ _) h = let e : k ≡ t = cc in absurd (other (ap (λ (k : Token). shape_of k.kind) (sym e) ∙ is))
  primary-begins (Cases _ _ _ _ _ _ _ _ _ _ _ _ _ _ _ _ _ _) h = noded _ _ (rolls-Case _ _ _ _)

  operand-begins : {free : Bool} {p : Tree} {ss : List (Suffix Tree)} {last : Token} {us zs : List Token} → DerivesOperand free p ss last us zs → Headed t us → is_begin (posted p ss) ≡ false
  operand-begins (Bare _ _ _ _ _ d) h = primary-begins d h
  operand-begins (Suffixed _ _ _ p ss s _ _ _ _ _) h = posted-more p ss s

  prefixed-begins : {free : Bool} {x : Tree} {us zs : List Token} → DerivesPrefixed free x us zs → Headed t us → is_begin x ≡ false
  prefixed-begins (Prefixed _ _ _ _ _ _ _ _ _) h = noded _ _ (rolls-Unary _ _ _)
  prefixed-begins (Posted _ _ _ _ _ _ d) h = operand-begins d h

  pub level-begins : {level : ℕ} {free : Bool} {x : Tree} {us zs : List Token} → DerivesLevel level free x us zs → Headed t us → is_begin x ≡ false
  level-begins (Tighter _ _ _ _ _ _ d) h = level-begins d h
  level-begins (FromLeft _ _ _ _ _ _ _ _ _ _ _ _ _) h = noded _ _ (rolls-Binary _ _ _ _ _)
  level-begins (Once _ _ _ _ _ _ _ _ _ _ _) h = noded _ _ (rolls-Binary _ _ _ _ _)
  level-begins (Negated _ _ _ _ _ _ _ _) h = noded _ _ (rolls-Unary _ _ _)
  level-begins (Raised _ _ _ _ _ _ _ _ _ _) h = noded _ _ (rolls-Binary _ _ _ _ _)
  level-begins (Plainly _ _ _ _ d) h = prefixed-begins d h
