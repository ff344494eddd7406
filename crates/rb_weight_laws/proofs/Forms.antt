-- What the pass tells of the tokens of each form is what the grammar says of them, by induction over derivations. A form leaves the
-- levels around it as they were, and most end so that an operand's end stands before the tokens left.
use Rattle.std.proofs.Common.{◌≡◌, ℕ, Bool, false, List, ◌∷◌, Option, refl}
use Rattle.rb_tree.specs.Tokens.{shape_of}
use Rattle.rb_tree.specs.declared.token.Token.{Token}
use Rattle.rb_tree.specs.declared.syntax.Tree.{Tree}
use Rattle.rb_tree.specs.declared.syntax.Visibility.{Visibility}
use Rattle.rb_tree.specs.declared.syntax.Suffix.{Suffix}
use Rattle.rb_tree.specs.declared.syntax.Argument.{Argument}
use Rattle.rb_tree.specs.declared.syntax.Block.{Block}
use Rattle.rb_tree.specs.declared.syntax.Piece.{Piece}
use Rattle.rb_tree.specs.declared.syntax.Pair.{Pair}
use Rattle.rb_tree.specs.declared.syntax.Arm.{Arm}
use Rattle.rb_tree.specs.declared.syntax.When.{When}
use Rattle.rb_tree.specs.declared.syntax.Parameter.{Parameter}
use Rattle.rb_tree.specs.declared.syntax.Guarded.{Guarded}
use Rattle.rb_tree.specs.declared.syntax.Rescue.{Rescue}
use Rattle.rb_rules.specs.Forms.{Site}
use Rattle.rb_rules.specs.Grammar.{DerivesBody, DerivesMore, DerivesStatement, DerivesModified, DerivesSimple, DerivesValue, DerivesTarget, DerivesCallee, DerivesArguments, DerivesArgument, DerivesTerm, DerivesLevel, DerivesPrefixed, DerivesOperand, DerivesSuffix, DerivesIndex, DerivesBrackets, DerivesBlockAfter, DerivesBlock, DerivesDo, DerivesPrimary, DerivesPieces, DerivesElements, DerivesPairs, DerivesPair, DerivesArms, DerivesElse, DerivesSubject, DerivesWhens, DerivesPatterns, DerivesGuarded, DerivesRescues, DerivesRaised, DerivesEnsure, DerivesDeclaration, DerivesMethod, DerivesParameters, DerivesParameterList, DerivesParameter}
use Rattle.rb_rules.specs.Grammar.DerivesBody.{NoStatement, Statements}
use Rattle.rb_rules.specs.Grammar.DerivesMore.{NoMore, Another}
use Rattle.rb_rules.specs.Grammar.DerivesStatement.{Declared, Simply}
use Rattle.rb_rules.specs.Grammar.DerivesModified.{Unmodified, Modified}
use Rattle.rb_rules.specs.Grammar.DerivesSimple.{Valued, Jumps, JumpsWith}
use Rattle.rb_rules.specs.Grammar.DerivesValue.{Term, Assigns, Computes, Command}
use Rattle.rb_rules.specs.Grammar.DerivesTarget.{Variable, Instance, Constant, Attribute, Element}
use Rattle.rb_rules.specs.Grammar.DerivesCallee.{Own, Of, YieldWord, SuperWord}
use Rattle.rb_rules.specs.Grammar.DerivesArguments.{LastArgument, MoreArguments}
use Rattle.rb_rules.specs.Grammar.DerivesArgument.{ByPlace, ByName, AsBlock}
use Rattle.rb_rules.specs.Grammar.DerivesTerm.{Operated, Conditional}
use Rattle.rb_rules.specs.Grammar.DerivesLevel.{Tighter, FromLeft, Once, Negated, Raised, Plainly}
use Rattle.rb_rules.specs.Grammar.DerivesPrefixed.{Prefixed, Posted}
use Rattle.rb_rules.specs.Grammar.DerivesOperand.{Bare, Suffixed}
use Rattle.rb_rules.specs.Grammar.DerivesSuffix.{Calls, Within as WithinName, Indexed}
use Rattle.rb_rules.specs.Grammar.DerivesIndex.{Index}
use Rattle.rb_rules.specs.Grammar.DerivesBrackets.{NoBrackets, EmptyBrackets, Brackets}
use Rattle.rb_rules.specs.Grammar.DerivesBlockAfter.{NoBlock, SomeBlock}
use Rattle.rb_rules.specs.Grammar.DerivesBlock.{Braces, DoEnd}
use Rattle.rb_rules.specs.Grammar.DerivesDo.{NoDo, SomeDo}
use Rattle.rb_rules.specs.Grammar.DerivesPrimary.{WholeNumber, FloatNumber, SignedWhole, SignedFloat, String, SymbolName, InstanceName, ConstantName, FromTop, SelfPlace, NilPlace, TruePlace, FalsePlace, NameAlone, CallWithBrackets, CallWithBlock, Yields, Supers, EmptyArray, SomeArray, EmptyHash, SomeHash, InParens, Branches, Loops, Guards, Cases}
use Rattle.rb_rules.specs.Grammar.DerivesPieces.{NoPiece, MorePieces}
use Rattle.rb_rules.specs.Grammar.DerivesElements.{LastElement, MoreElements}
use Rattle.rb_rules.specs.Grammar.DerivesPairs.{LastPair, MorePairs}
use Rattle.rb_rules.specs.Grammar.DerivesPair.{ByArrow, ByLabel}
use Rattle.rb_rules.specs.Grammar.DerivesArms.{NoArm, MoreArms}
use Rattle.rb_rules.specs.Grammar.DerivesElse.{NoElse, SomeElse}
use Rattle.rb_rules.specs.Grammar.DerivesSubject.{NoSubject, SomeSubject}
use Rattle.rb_rules.specs.Grammar.DerivesWhens.{NoWhen, MoreWhens}
use Rattle.rb_rules.specs.Grammar.DerivesPatterns.{LastPattern, MorePatterns}
use Rattle.rb_rules.specs.Grammar.DerivesGuarded.{Unrescued, Rescued}
use Rattle.rb_rules.specs.Grammar.DerivesRescues.{NoRescue, MoreRescues}
use Rattle.rb_rules.specs.Grammar.DerivesRaised.{AnyError, SomeErrors}
use Rattle.rb_rules.specs.Grammar.DerivesEnsure.{NoEnsure, SomeEnsure}
use Rattle.rb_rules.specs.Grammar.DerivesDeclaration.{ClassOf, ModuleOf, Method, VisibleMethod}
use Rattle.rb_rules.specs.Grammar.DerivesMethod.{Def}
use Rattle.rb_rules.specs.Grammar.DerivesParameters.{NoParameters, OpenParameters, EmptyParens, InBrackets}
use Rattle.rb_rules.specs.Grammar.DerivesParameterList.{LastParameter, MoreParameters}
use Rattle.rb_rules.specs.Grammar.DerivesParameter.{Required, Optional, RequiredKeyword, OptionalKeyword, BlockParameter}
use Rattle.rb_weight.specs.Sorts.{sort_of}
use Rattle.rb_weight.specs.Effects.{is_condition}
use Rattle.rb_weight.specs.declared.effect.Before.{Before}
use Rattle.rb_weight.specs.declared.effect.Before.TheVariants as before
use Rattle.rb_weight.specs.declared.effect.Level.{Level}
use Rattle.rb_weight.specs.declared.effect.Level.TheVariants as level
use Rattle.rb_weight_laws.specs.Roles.{body_roles, more_roles, statement_roles, modified_roles, simple_roles, value_roles, target_roles, callee_roles, arguments_roles, argument_roles, term_roles, level_roles, prefixed_roles, operand_roles, suffix_roles, index_roles, brackets_roles, block_after_roles, block_roles, do_roles, primary_roles, pieces_roles, elements_roles, pairs_roles, pair_roles, arms_roles, else_roles, subject_roles, whens_roles, patterns_roles, guarded_roles, rescues_roles, raised_roles, ensure_roles, declaration_roles, method_roles, parameters_roles, parameter_list_roles, parameter_roles}
use Rattle.rb_weight_laws.proofs.Steps.{Run, stay, chain, Ready, ready-usual, Usual, Starts, starts-usual, fresh, starts, Ends, ends, run-ends, ends-run, ends-ends}
use Rattle.rb_weight_laws.proofs.Steps.Ready.{Fresh, Opened}
use Rattle.rb_weight_laws.proofs.Steps.Usual.{AtPlain, AtBlock, AtOperand, AtName}
use Rattle.rb_weight_laws.proofs.Steps.Starts.{After}
use Rattle.rb_weight_laws.proofs.Tokens.{shaped, kinded, operand, self-word, other, operator, counts, divides, separates, opens, brace, paren, paren-after, parameter-paren, closes, closes-parameters, block-do, choice, loop, modifier, def-word}
use Rattle.rb_weight_laws.proofs.Tokens.Counting.{ByOperator, ByDot, ByAssign}
use Rattle.rb_weight_laws.proofs.Rows.{operates, assignments, dots, signs, prefixes, jump-words, branch-words, loop-words, modifier-words, branch-ready, loop-ready, command-starts}
use Rattle.rb_weight_laws.proofs.Names.{Fits, fits-plain, gap, ready-gap, gap-in, then-word, between, end-of, bars, path, superclass, method-name, owner, parted, variable}

mutual
  unfolding body_roles sort_of shape_of

  -- statements stand in a level in which nothing is special
  pub body : {at : Site} {free : Bool} {t : Tree} {b : Before} {ls : List Level} {xs ys : List Token} (d : DerivesBody at free t xs ys) → Ready b → Ends Usual b (level.Plain ∷ ls) xs (body_roles d) (level.Plain ∷ ls) ys
  body (NoStatement _ _ _ _ g) r = gap g (ready-usual r) refl
  body (Statements _ _ _ _ _ _ _ _ _ g d more h) r = ends-ends (ready-gap g r refl) (λ b q. run-ends (statement d (starts q)) (run-ends (others more) (gap h AtOperand refl)))

  others : {at : Site} {free : Bool} {ss : List Tree} {ls : List Level} {xs ys : List Token} (d : DerivesMore at free ss xs ys) → Run before.Operand (level.Plain ∷ ls) xs (more_roles d) before.Operand (level.Plain ∷ ls) ys
  others (NoMore _ _ _) = stay
  others (Another _ _ t _ _ _ _ _ _ is g d more) = chain (separates t (shaped t is) AtOperand refl) (ends-run (ready-gap g Fresh refl) (λ b q. chain (statement d (starts q)) (others more)))

  statement : {at : Site} {free : Bool} {t : Tree} {b : Before} {ls : List Level} {xs ys : List Token} (d : DerivesStatement at free t xs ys) → Starts b xs → Run b (level.Plain ∷ ls) xs (statement_roles d) before.Operand (level.Plain ∷ ls) ys
  statement (Declared _ _ _ _ _ _ d) s = declaration d s
  statement (Simply _ free _ _ _ _ _ d m) s = chain (simple d s (fits-plain free)) (modified m)

  modified : {free : Bool} {s t : Tree} {ls : List Level} {xs ys : List Token} (d : DerivesModified free s t xs ys) → Run before.Operand (level.Plain ∷ ls) xs (modified_roles d) before.Operand (level.Plain ∷ ls) ys
  modified (Unmodified _ _ _) = stay
  modified (Modified free m _ _ _ _ _ _ _ is _ c more) = chain (modifier m refl (modifier-words is)) (chain (simple c fresh (fits-plain free)) (modified more))

  simple : {constants free : Bool} {t : Tree} {b : Before} {l : Level} {ls : List Level} {xs ys : List Token} (d : DerivesSimple constants free t xs ys) → Starts b xs → Fits free l → Run b (l ∷ ls) xs (simple_roles d) before.Operand (l ∷ ls) ys
  simple (Valued _ _ _ _ _ d) s f = value d s f
  simple (Jumps _ _ j _ _ is) s f = operand j (jump-words is) (starts-usual s)
  simple (JumpsWith _ _ j _ _ xs _ is none d) s f = chain (operand j (jump-words is) (starts-usual s)) (value d (After xs none) f)

  value : {constants free : Bool} {t : Tree} {b : Before} {l : Level} {ls : List Level} {xs ys : List Token} (d : DerivesValue constants free t xs ys) → Starts b xs → Fits free l → Run b (l ∷ ls) xs (value_roles d) before.Operand (l ∷ ls) ys
  value (Term _ _ _ _ _ d) s f = term d s f
  value (Assigns _ _ e _ _ _ _ _ d is v) s f = chain (target d s f) (chain (counts e (shaped e is) ByAssign) (value v fresh f))
  value (Computes _ _ o _ _ _ _ _ _ d is v) s f = chain (target d s f) (chain (counts o refl (assignments is)) (value v fresh f))
  value (Command _ _ _ _ _ _ ps _ _ d none given _ k _) s f = chain (callee d s f) (chain (arguments given (command-starts ps none) tt tt) (do-after k f))

  target : {constants free : Bool} {t : Tree} {b : Before} {l : Level} {ls : List Level} {xs ys : List Token} (d : DerivesTarget constants free t xs ys) → Starts b xs → Fits free l → Run b (l ∷ ls) xs (target_roles d) before.Operand (l ∷ ls) ys
  target (Variable _ _ t _ _ is) s f = operand t (kinded t is) (starts-usual s)
  target (Instance _ _ t _ _ is) s f = operand t (kinded t is) (starts-usual s)
  target (Constant _ t _ _ is) s f = operand t (kinded t is) (starts-usual s)
  target (Attribute _ _ _ d n _ _ _ _ _ e is is_name) s f = chain (operand-of e s f) (chain (counts d (shaped d is) ByDot) (operand n (kinded n is_name) AtPlain))
  target (Element _ _ _ _ _ _ _ _ _ _ e i) s f = chain (operand-of e s f) (index i)

  callee : {free : Bool} {t : Tree} {b : Before} {l : Level} {ls : List Level} {xs ys : List Token} (d : DerivesCallee free t xs ys) → Starts b xs → Fits free l → Run b (l ∷ ls) xs (callee_roles d) before.Operand (l ∷ ls) ys
  callee (Own _ t _ _ is) s f = operand t (kinded t is) (starts-usual s)
  callee (Of _ _ d n _ _ _ _ _ _ e is is_name) s f = chain (operand-of e s f) (chain (counts d refl (dots is)) (operand n (kinded n is_name) AtPlain))
  callee (YieldWord _ t _ is) s f = operand t (shaped t is) (starts-usual s)
  callee (SuperWord _ t _ is) s f = operand t (shaped t is) (starts-usual s)

  arguments : {bracketed free : Bool} {given : List (Argument Tree)} {b : Before} {l : Level} {ls : List Level} {xs ys : List Token} (d : DerivesArguments bracketed free given xs ys) → Starts b xs → Fits bracketed l → Fits free l → Run b (l ∷ ls) xs (arguments_roles d) before.Operand (l ∷ ls) ys
  arguments (LastArgument _ _ _ _ _ d) s h f = argument d s f
  arguments (MoreArguments _ _ c _ _ _ _ _ _ d is g more) s h f = chain (argument d s f) (chain (divides c (shaped c is) AtOperand) (ends-run (gap-in g Fresh h) (λ b q. arguments more (starts q) h f)))

  argument : {free : Bool} {a : Argument Tree} {b : Before} {l : Level} {ls : List Level} {xs ys : List Token} (d : DerivesArgument free a xs ys) → Starts b xs → Fits free l → Run b (l ∷ ls) xs (argument_roles d) before.Operand (l ∷ ls) ys
  argument (ByPlace _ _ _ _ d) s f = term d s f
  argument (ByName _ n _ _ _ _ is d) s f = chain (other n (kinded n is) (starts-usual s)) (term d fresh f)
  argument (AsBlock _ a _ _ _ is d) s f = chain (operator a (shaped a is) (starts-usual s)) (term d fresh f)

  term : {free : Bool} {t : Tree} {b : Before} {l : Level} {ls : List Level} {xs ys : List Token} (d : DerivesTerm free t xs ys) → Starts b xs → Fits free l → Run b (l ∷ ls) xs (term_roles d) before.Operand (l ∷ ls) ys
  term (Operated _ _ _ _ d) s f = level-of d s f
  term (Conditional _ q k _ _ _ _ _ _ _ c is a is_colon z) s f =
      chain (level-of c s f) (chain (counts q (shaped q is) ByOperator) (chain (term a fresh f) (chain (counts k (shaped k is_colon) ByOperator) (term z fresh f))))

  level-of : {level : ℕ} {free : Bool} {t : Tree} {b : Before} {l : Level} {ls : List Level} {xs ys : List Token} (d : DerivesLevel level free t xs ys) → Starts b xs → Fits free l → Run b (l ∷ ls) xs (level_roles d) before.Operand (l ∷ ls) ys
  level-of (Tighter _ _ _ _ _ _ d) s f = level-of d s f
  level-of (FromLeft _ _ o _ _ _ _ _ _ _ a is z) s f = chain (level-of a s f) (chain (counts o refl (operates is)) (level-of z fresh f))
  level-of (Once _ o _ _ _ _ _ _ a is z) s f = chain (level-of a s f) (chain (counts o refl (operates is)) (level-of z fresh f))
  level-of (Negated _ m _ _ _ is _ a) s f = chain (operator m (shaped m is) (starts-usual s)) (level-of a fresh f)
  level-of (Raised _ o _ _ _ _ _ a is z) s f = chain (prefixed a s f) (chain (counts o (shaped o is) ByOperator) (level-of z fresh f))
  level-of (Plainly _ _ _ _ d) s f = prefixed d s f

  prefixed : {free : Bool} {t : Tree} {b : Before} {l : Level} {ls : List Level} {xs ys : List Token} (d : DerivesPrefixed free t xs ys) → Starts b xs → Fits free l → Run b (l ∷ ls) xs (prefixed_roles d) before.Operand (l ∷ ls) ys
  prefixed (Prefixed _ u _ _ _ _ is _ a) s f = chain (operator u (prefixes is) (starts-usual s)) (prefixed a fresh f)
  prefixed (Posted _ _ _ _ _ _ d) s f = operand-of d s f

  operand-of : {free : Bool} {p : Tree} {ss : List (Suffix Tree)} {last : Token} {b : Before} {l : Level} {ls : List Level} {xs ys : List Token} (d : DerivesOperand free p ss last xs ys) → Starts b xs → Fits free l → Run b (l ∷ ls) xs (operand_roles d) before.Operand (l ∷ ls) ys
  operand-of (Bare _ _ _ _ _ d) s f = primary d s f
  operand-of (Suffixed _ _ _ _ _ _ _ _ _ d k) s f = chain (operand-of d s f) (suffix k f)

  suffix : {free : Bool} {s : Suffix Tree} {first last : Token} {l : Level} {ls : List Level} {xs ys : List Token} (d : DerivesSuffix free s first last xs ys) → Fits free l → Run before.Operand (l ∷ ls) xs (suffix_roles d) before.Operand (l ∷ ls) ys
  suffix (Calls _ _ d n _ _ _ _ _ _ _ _ _ is is_name given k _) f = chain (counts d refl (dots is)) (chain (operand n (kinded n is_name) AtPlain) (chain (brackets given) (block-after k f)))
  suffix (WithinName _ _ c n _ _ is is_name) f = chain (other c (shaped c is) AtOperand) (operand n (kinded n is_name) AtPlain)
  suffix (Indexed _ _ _ _ _ _ d) f = index d

  index : {s : Suffix Tree} {first last : Token} {l : Level} {ls : List Level} {xs ys : List Token} (d : DerivesIndex s first last xs ys) → Run before.Operand (l ∷ ls) xs (index_roles d) before.Operand (l ∷ ls) ys
  index (Index _ o c _ _ _ _ _ is _ g given _ e is_end) =
      chain (opens o (shaped o is) AtOperand) (ends-run (ready-gap g Fresh refl) (λ b q. chain (arguments given (starts q) refl refl) (ends-run (end-of e) (λ b u. closes c (shaped c is_end) u))))

  brackets : {given : Option (List (Argument Tree))} {first last : Token} {l : Level} {ls : List Level} {xs ys : List Token} (d : DerivesBrackets given first last xs ys) → Run before.Operand (l ∷ ls) xs (brackets_roles d) before.Operand (l ∷ ls) ys
  brackets (NoBrackets _ _) = stay
  brackets (EmptyBrackets _ o c _ _ is g is_end) = chain (paren-after o (shaped o is)) (ends-run (gap g AtPlain refl) (λ b u. closes c (shaped c is_end) u))
  brackets (Brackets _ o c _ _ _ _ _ is g given _ h is_end) =
      chain (paren-after o (shaped o is)) (ends-run (ready-gap g Fresh refl) (λ b q. chain (arguments given (starts q) refl refl) (ends-run (gap h AtOperand refl) (λ b u. closes c (shaped c is_end) u))))

  block-after : {free : Bool} {k : Option (Block Tree)} {first last : Token} {l : Level} {ls : List Level} {xs ys : List Token} (d : DerivesBlockAfter free k first last xs ys) → Fits free l → Run before.Operand (l ∷ ls) xs (block_after_roles d) before.Operand (l ∷ ls) ys
  block-after (NoBlock _ _ _) f = stay
  block-after (SomeBlock _ _ _ _ _ _ d) f = block d f

  block : {free : Bool} {k : Block Tree} {last : Token} {l : Level} {ls : List Level} {xs ys : List Token} (d : DerivesBlock free k last xs ys) → Fits free l → Run before.Operand (l ∷ ls) xs (block_roles d) before.Operand (l ∷ ls) ys
  block (Braces _ o c _ _ _ _ _ is names d is_end) f = chain (brace o (shaped o is) AtOperand) (ends-run (bars names) (λ b q. ends-run (body d q) (λ b u. closes c (shaped c is_end) u)))
  block (DoEnd o c _ _ _ _ _ is names d is_end) f = chain (block-do o (shaped o is) f) (ends-run (bars names) (λ b q. ends-run (body d q) (λ b u. closes c (shaped c is_end) u)))

  do-after : {free : Bool} {k : Option (Block Tree)} {l : Level} {ls : List Level} {xs ys : List Token} (d : DerivesDo free k xs ys) → Fits free l → Run before.Operand (l ∷ ls) xs (do_roles d) before.Operand (l ∷ ls) ys
  do-after (NoDo _ _) f = stay
  do-after (SomeDo _ _ _ _ _ _ d) f = block d f

  primary : {free : Bool} {t : Tree} {last : Token} {b : Before} {l : Level} {ls : List Level} {xs ys : List Token} (d : DerivesPrimary free t last xs ys) → Starts b xs → Fits free l → Run b (l ∷ ls) xs (primary_roles d) before.Operand (l ∷ ls) ys
  primary (WholeNumber _ t _ _ is) s f = operand t (kinded t is) (starts-usual s)
  primary (FloatNumber _ t _ _ is) s f = operand t (kinded t is) (starts-usual s)
  primary (SignedWhole _ m t _ _ _ is _ _ is_number) s f = chain (operator m (signs is) (starts-usual s)) (operand t (kinded t is_number) AtPlain)
  primary (SignedFloat _ m t _ _ _ is _ _ is_number) s f = chain (operator m (signs is) (starts-usual s)) (operand t (kinded t is_number) AtPlain)
  primary (String _ t _ _ _ _ _ is d) s f = chain (operand t (kinded t is) (starts-usual s)) (pieces d)
  primary (SymbolName _ t _ _ is) s f = operand t (kinded t is) (starts-usual s)
  primary (InstanceName _ t _ _ is) s f = operand t (kinded t is) (starts-usual s)
  primary (ConstantName _ t _ _ is) s f = operand t (kinded t is) (starts-usual s)
  primary (FromTop _ c t _ _ is is_name) s f = chain (other c (shaped c is) (starts-usual s)) (operand t (kinded t is_name) AtPlain)
  primary (SelfPlace _ t _ is) s f = self-word t (shaped t is) (starts-usual s)
  primary (NilPlace _ t _ is) s f = operand t (shaped t is) (starts-usual s)
  primary (TruePlace _ t _ is) s f = operand t (shaped t is) (starts-usual s)
  primary (FalsePlace _ t _ is) s f = operand t (shaped t is) (starts-usual s)
  primary (NameAlone _ t _ _ is) s f = operand t (kinded t is) (starts-usual s)
  primary (CallWithBrackets _ t _ _ _ _ _ _ _ _ is given k _) s f = chain (operand t (kinded t is) (starts-usual s)) (chain (brackets given) (block-after k f))
  primary (CallWithBlock _ t _ _ _ _ _ is k) s f = chain (operand t (kinded t is) (starts-usual s)) (block k f)
  primary (Yields _ t _ _ _ _ is given) s f = chain (operand t (shaped t is) (starts-usual s)) (brackets given)
  primary (Supers _ t _ _ _ _ is given) s f = chain (operand t (shaped t is) (starts-usual s)) (brackets given)
  primary (EmptyArray _ o c _ _ is g is_end) s f = chain (opens o (shaped o is) (starts-usual s)) (ends-run (gap g AtPlain refl) (λ b u. closes c (shaped c is_end) u))
  primary (SomeArray _ o c _ _ _ _ _ is g d e is_end) s f =
      chain (opens o (shaped o is) (starts-usual s)) (ends-run (ready-gap g Fresh refl) (λ b q. chain (elements d (starts q)) (ends-run (end-of e) (λ b u. closes c (shaped c is_end) u))))
  primary (EmptyHash _ o c _ _ is g is_end) s f = chain (brace o (shaped o is) (starts-usual s)) (ends-run (gap g AtBlock refl) (λ b u. closes c (shaped c is_end) u))
  primary (SomeHash _ o c _ _ _ _ _ is g d e is_end) s f =
      chain (brace o (shaped o is) (starts-usual s)) (ends-run (ready-gap g Opened refl) (λ b q. chain (pairs d (starts q)) (ends-run (end-of e) (λ b u. closes c (shaped c is_end) u))))
  primary (InParens _ o c _ _ _ is d is_end) s f = chain (paren o (shaped o is) s) (ends-run (body d Fresh) (λ b u. closes c (shaped c is_end) u))
  primary (Branches free k e _ _ _ _ _ xs _ _ _ _ _ is c w d arms _ z is_end) s f =
      chain (choice k (branch-words is) (branch-ready k xs is s)) (chain (simple c fresh (fits-plain free)) (chain (then-word w AtOperand)
      (ends-run (body d Fresh) (λ b u. ends-run (arms-of arms u) (λ b v. ends-run (else-of z v) (λ b x. closes e (shaped e is_end) x))))))
  primary (Loops _ k m e _ _ _ xs _ _ is c h d is_end) s f =
      chain (loop k (loop-words is) (loop-ready k xs is s)) (chain (simple c fresh tt) (ends-run (between m h) (λ b q. ends-run (body d q) (λ b u. closes e (shaped e is_end) u))))
  primary (Guards _ k e _ _ _ is d is_end) s f = chain (opens k (shaped k is) (starts-usual s)) (ends-run (guarded d) (λ b u. closes e (shaped e is_end) u))
  primary (Cases _ k e _ _ _ _ _ _ _ _ _ is t g arms z is_end) s f =
      chain (opens k (shaped k is) (starts-usual s)) (ends-run (subject t) (λ b u. ends-run (gap g u refl) (λ b v. ends-run (whens arms v) (λ b x. ends-run (else-of z x) (λ b y. closes e (shaped e is_end) y)))))

  pieces : {ps : List (Piece Tree)} {first last : Token} {l : Level} {ls : List Level} {xs ys : List Token} (d : DerivesPieces ps first last xs ys) → Run before.Operand (l ∷ ls) xs (pieces_roles d) before.Operand (l ∷ ls) ys
  pieces (NoPiece _ _) = stay
  pieces (MorePieces _ o c t _ _ _ _ _ _ _ is d is_end is_text more) =
      chain (opens o (shaped o is) AtOperand) (ends-run (body d Fresh) (λ b u. chain (closes c (shaped c is_end) u) (chain (operand t (kinded t is_text) AtOperand) (pieces more))))

  elements : {es : List Tree} {b : Before} {ls : List Level} {xs ys : List Token} (d : DerivesElements es xs ys) → Starts b xs → Run b (level.Plain ∷ ls) xs (elements_roles d) before.Operand (level.Plain ∷ ls) ys
  elements (LastElement _ _ _ d) s = term d s refl
  elements (MoreElements c _ _ _ _ _ _ d is g more) s = chain (term d s refl) (chain (divides c (shaped c is) AtOperand) (ends-run (ready-gap g Fresh refl) (λ b q. elements more (starts q))))

  pairs : {ps : List (Pair Tree)} {b : Before} {ls : List Level} {xs ys : List Token} (d : DerivesPairs ps xs ys) → Starts b xs → Run b (level.Plain ∷ ls) xs (pairs_roles d) before.Operand (level.Plain ∷ ls) ys
  pairs (LastPair _ _ _ d) s = pair-of d s
  pairs (MorePairs c _ _ _ _ _ _ d is g more) s = chain (pair-of d s) (chain (divides c (shaped c is) AtOperand) (ends-run (ready-gap g Fresh refl) (λ b q. pairs more (starts q))))

  pair-of : {p : Pair Tree} {b : Before} {ls : List Level} {xs ys : List Token} (d : DerivesPair p xs ys) → Starts b xs → Run b (level.Plain ∷ ls) xs (pair_roles d) before.Operand (level.Plain ∷ ls) ys
  pair-of (ByArrow a _ _ _ _ _ k is v) s = chain (term k s refl) (chain (other a (shaped a is) AtOperand) (term v fresh refl))
  pair-of (ByLabel n _ _ _ _ is v) s = chain (other n (kinded n is) (starts-usual s)) (term v fresh refl)

  arms-of : {free : Bool} {arms : List (Arm Tree)} {b : Before} {ls : List Level} {xs ys : List Token} (d : DerivesArms free arms xs ys) → Usual b → Ends Usual b (level.Plain ∷ ls) xs (arms_roles d) (level.Plain ∷ ls) ys
  arms-of (NoArm _ _) u = ends stay u
  arms-of (MoreArms free k _ _ _ _ _ _ _ _ is c w d more) u =
      run-ends (divides k (shaped k is) u) (run-ends (simple c fresh (fits-plain free)) (run-ends (then-word w AtOperand) (ends-ends (body d Fresh) (λ b v. arms-of more v))))

  else-of : {free : Bool} {t : Option Tree} {b : Before} {ls : List Level} {xs ys : List Token} (d : DerivesElse free t xs ys) → Usual b → Ends Usual b (level.Plain ∷ ls) xs (else_roles d) (level.Plain ∷ ls) ys
  else-of (NoElse _ _) u = ends stay u
  else-of (SomeElse _ k _ _ _ is d) u = run-ends (divides k (shaped k is) u) (body d Fresh)

  subject : {free : Bool} {t : Option Tree} {ls : List Level} {xs ys : List Token} (d : DerivesSubject free t xs ys) → Ends Usual before.Plain (level.Plain ∷ ls) xs (subject_roles d) (level.Plain ∷ ls) ys
  subject (NoSubject _ _) = ends stay AtPlain
  subject (SomeSubject free _ _ _ d) = ends (simple d fresh (fits-plain free)) AtOperand

  whens : {free : Bool} {arms : List (When Tree)} {b : Before} {ls : List Level} {xs ys : List Token} (d : DerivesWhens free arms xs ys) → Usual b → Ends Usual b (level.Plain ∷ ls) xs (whens_roles d) (level.Plain ∷ ls) ys
  whens (NoWhen _ _) u = ends stay u
  whens (MoreWhens _ k _ _ _ _ _ _ _ _ is ps w d more) u = run-ends (divides k (shaped k is) u) (run-ends (patterns ps fresh) (run-ends (then-word w AtOperand) (ends-ends (body d Fresh) (λ b v. whens more v))))

  patterns : {free : Bool} {ps : List Tree} {b : Before} {ls : List Level} {xs ys : List Token} (d : DerivesPatterns free ps xs ys) → Starts b xs → Run b (level.Plain ∷ ls) xs (patterns_roles d) before.Operand (level.Plain ∷ ls) ys
  patterns (LastPattern free _ _ _ d) s = term d s (fits-plain free)
  patterns (MorePatterns free c _ _ _ _ _ d is more) s = chain (term d s (fits-plain free)) (chain (divides c (shaped c is) AtOperand) (patterns more fresh))

  guarded : {free : Bool} {g : Guarded Tree} {ls : List Level} {xs ys : List Token} (d : DerivesGuarded free g xs ys) → Ends Usual before.Plain (level.Plain ∷ ls) xs (guarded_roles d) (level.Plain ∷ ls) ys
  guarded (Unrescued _ _ _ _ _ _ d e) = ends-ends (body d Fresh) (λ b u. ensure-of e u)
  guarded (Rescued _ _ _ _ _ _ _ _ _ _ _ d clauses z e) = ends-ends (body d Fresh) (λ b u. ends-ends (rescues clauses u) (λ b v. ends-ends (else-of z v) (λ b x. ensure-of e x)))

  rescues : {free : Bool} {t : Tree} {clauses : List (Rescue Tree)} {b : Before} {ls : List Level} {xs ys : List Token} (d : DerivesRescues free t clauses xs ys) → Usual b → Ends Usual b (level.Plain ∷ ls) xs (rescues_roles d) (level.Plain ∷ ls) ys
  rescues (NoRescue _ _ _) u = ends stay u
  rescues (MoreRescues _ k _ _ _ _ _ _ _ _ _ _ _ _ p is r n w d more) u =
      ends-ends (parted p u) (λ b v. run-ends (divides k (shaped k is) v) (ends-ends (raised r) (λ b x. ends-ends (variable n x) (λ b y. run-ends (then-word w y) (ends-ends (body d Fresh) (λ b z. rescues more z))))))

  raised : {free : Bool} {ps : List Tree} {ls : List Level} {xs ys : List Token} (d : DerivesRaised free ps xs ys) → Ends Usual before.Plain (level.Plain ∷ ls) xs (raised_roles d) (level.Plain ∷ ls) ys
  raised (AnyError _ _) = ends stay AtPlain
  raised (SomeErrors _ _ _ _ d) = ends (patterns d fresh) AtOperand

  ensure-of : {free : Bool} {t : Option Tree} {b : Before} {ls : List Level} {xs ys : List Token} (d : DerivesEnsure free t xs ys) → Usual b → Ends Usual b (level.Plain ∷ ls) xs (ensure_roles d) (level.Plain ∷ ls) ys
  ensure-of (NoEnsure _ _) u = ends stay u
  ensure-of (SomeEnsure _ k _ _ _ is d) u = run-ends (divides k (shaped k is) u) (body d Fresh)

  declaration : {at : Site} {t : Tree} {b : Before} {ls : List Level} {xs ys : List Token} (d : DerivesDeclaration at t xs ys) → Starts b xs → Run b (level.Plain ∷ ls) xs (declaration_roles d) before.Operand (level.Plain ∷ ls) ys
  declaration (ClassOf _ k m e _ _ _ _ _ _ _ is p r is_line d is_end) s =
      chain (opens k (shaped k is) (starts-usual s)) (chain (path p) (chain (superclass r) (chain (separates m (shaped m is_line) AtOperand refl) (ends-run (body d Fresh) (λ b u. closes e (shaped e is_end) u)))))
  declaration (ModuleOf _ k m e _ _ _ _ _ is p is_line d is_end) s =
      chain (opens k (shaped k is) (starts-usual s)) (chain (path p) (chain (separates m (shaped m is_line) AtOperand refl) (ends-run (body d Fresh) (λ b u. closes e (shaped e is_end) u))))
  declaration (Method _ _ _ _ d) s = method d (starts-usual s)
  declaration (VisibleMethod _ v _ _ _ _ _ is _ d) s = chain (operand v (kinded v is) (starts-usual s)) (method d AtOperand)

  method : {visible : Option Visibility} {front : Option Token} {t : Tree} {b : Before} {ls : List Level} {xs ys : List Token} (d : DerivesMethod visible front t xs ys) → Usual b → Run b (level.Plain ∷ ls) xs (method_roles d) before.Operand (level.Plain ∷ ls) ys
  method (Def _ _ k e _ _ _ _ _ _ _ _ _ _ is o n given _ _ d is_end) u =
      chain (def-word k (shaped k is) u) (ends-run (owner o) (λ b h. chain (method-name n h) (chain (parameters given) (ends-run (guarded d) (λ b v. closes e (shaped e is_end) v)))))

  -- those in brackets stand in a level of their own
  parameters : {ps : List (Parameter Tree)} {ls : List Level} {xs ys : List Token} (d : DerivesParameters ps xs ys) → Run before.Name (level.Plain ∷ ls) xs (parameters_roles d) before.Plain (level.Plain ∷ ls) ys
  parameters (NoParameters m _ is) = separates m (shaped m is) AtName refl
  parameters (OpenParameters m _ _ _ _ d is) = ends-run (parameter-list d AtName tt refl) (λ b u. separates m (shaped m is) u refl)
  parameters (EmptyParens o c _ _ is g is_end) = chain (parameter-paren o (shaped o is)) (ends-run (gap g AtPlain refl) (λ b u. closes-parameters c (shaped c is_end) u))
  parameters (InBrackets o c _ _ _ _ _ _ is g d h is_end) =
      chain (parameter-paren o (shaped o is)) (ends-run (gap g AtPlain refl) (λ b u. ends-run (parameter-list d u refl refl) (λ b v. ends-run (gap h v refl) (λ b x. closes-parameters c (shaped c is_end) x))))

  parameter-list : {bracketed : Bool} {ps : List (Parameter Tree)} {b : Before} {l : Level} {ls : List Level} {xs ys : List Token} (d : DerivesParameterList bracketed ps xs ys) → Usual b → Fits bracketed l → is_condition l ≡ false → Ends Usual b (l ∷ ls) xs (parameter_list_roles d) (l ∷ ls) ys
  parameter-list (LastParameter _ _ _ _ d) u h f = parameter d u f
  parameter-list (MoreParameters _ c _ _ _ _ _ _ d is g more) u h f =
      ends-ends (parameter d u f) (λ b v. run-ends (divides c (shaped c is) v) (ends-ends (gap-in g Fresh h) (λ b q. parameter-list more (ready-usual q) h f)))

  parameter : {p : Parameter Tree} {b : Before} {l : Level} {ls : List Level} {xs ys : List Token} (d : DerivesParameter p xs ys) → Usual b → is_condition l ≡ false → Ends Usual b (l ∷ ls) xs (parameter_roles d) (l ∷ ls) ys
  parameter (Required t _ _ is) u f = ends (operand t (kinded t is) u) AtOperand
  parameter (Optional t e _ _ _ _ is is_sign d) u f = ends (chain (operand t (kinded t is) u) (chain (counts e (shaped e is_sign) ByAssign) (term d fresh f))) AtOperand
  parameter (RequiredKeyword n _ _ is) u f = ends (other n (kinded n is) u) AtPlain
  parameter (OptionalKeyword n _ _ _ _ is d) u f = ends (chain (other n (kinded n is) u) (term d fresh f)) AtOperand
  parameter (BlockParameter a t _ _ is is_name) u f = ends (chain (operator a (shaped a is) u) (operand t (kinded t is_name) AtPlain)) AtOperand
