-- The parts that tokens play in the weight, as the grammar tells them: a case for each production gives the roles of the tokens that
-- are read by it, in their order.
use Rattle.std.specs.Prelude.{ℕ, Bool, List, [], ◌∷◌, ◌++◌, Option}
use mathlib.Core.Logic.{inl, inr}
use Rattle.srb_terms.specs.declared.span.Span.{Span}
use Rattle.rb_tree.specs.declared.token.Token.{Token}
use Rattle.rb_tree.specs.declared.token.Shape.TheVariants as shape
use Rattle.rb_tree.specs.declared.syntax.Tree.{Tree}
use Rattle.rb_tree.specs.declared.syntax.Visibility.{Visibility}
use Rattle.rb_tree.specs.declared.syntax.Suffix.{Suffix}
use Rattle.rb_tree.specs.declared.syntax.Argument.{Argument}
use Rattle.rb_tree.specs.declared.syntax.Block.{Block}
use Rattle.rb_tree.specs.declared.syntax.Piece.{Piece}
use Rattle.rb_tree.specs.declared.syntax.Pair.{Pair}
use Rattle.rb_tree.specs.declared.syntax.Arm.{Arm}
use Rattle.rb_tree.specs.declared.syntax.When.{When}
use Rattle.rb_tree.specs.declared.syntax.PlacedName.{PlacedName}
use Rattle.rb_tree.specs.declared.syntax.Reference.{Reference}
use Rattle.rb_tree.specs.declared.syntax.Parameter.{Parameter}
use Rattle.rb_tree.specs.declared.syntax.Guarded.{Guarded}
use Rattle.rb_tree.specs.declared.syntax.Rescue.{Rescue}
use Rattle.rb_rules.specs.Tokens.{IsAny}
use Rattle.rb_rules.specs.Forms.{Site}
use Rattle.rb_rules.specs.Grammar.{Derives, Gap, GapIn, Then, BarNames, Bars, Path, Superclass, MethodName, Owner, Parted, RescueVariable, DerivesBody, DerivesMore, DerivesStatement, DerivesModified, DerivesSimple, DerivesValue, DerivesTarget, DerivesCallee, DerivesArguments, DerivesArgument, DerivesTerm, DerivesLevel, DerivesPrefixed, DerivesOperand, DerivesSuffix, DerivesIndex, DerivesEnd, DerivesBrackets, DerivesBlockAfter, DerivesBlock, DerivesDo, DerivesPrimary, DerivesPieces, DerivesElements, DerivesPairs, DerivesPair, DerivesArms, DerivesElse, DerivesSubject, DerivesWhens, DerivesPatterns, DerivesGuarded, DerivesRescues, DerivesRaised, DerivesEnsure, DerivesDeclaration, DerivesMethod, DerivesParameters, DerivesParameterList, DerivesParameter}
use Rattle.rb_rules.specs.Grammar.Gap.{Closed, Wide}
use Rattle.rb_rules.specs.Grammar.GapIn.{Tight, Loose}
use Rattle.rb_rules.specs.Grammar.Then.{Word, Line, LineWord}
use Rattle.rb_rules.specs.Grammar.BarNames.{LastBar, MoreBars}
use Rattle.rb_rules.specs.Grammar.Bars.{NoBars, SomeBars}
use Rattle.rb_rules.specs.Grammar.Path.{LastName, MoreNames}
use Rattle.rb_rules.specs.Grammar.Superclass.{NoSuperclass, Named, NamedFromTop}
use Rattle.rb_rules.specs.Grammar.MethodName.{Plain, Writer, Capital, Operator}
use Rattle.rb_rules.specs.Grammar.Owner.{Other, Own as OwnSelf}
use Rattle.rb_rules.specs.Grammar.Parted.{AfterNothing, AfterSeparator}
use Rattle.rb_rules.specs.Grammar.RescueVariable.{NoVariable, Bound}
use Rattle.rb_rules.specs.Grammar.DerivesBody.{NoStatement, Statements}
use Rattle.rb_rules.specs.Grammar.DerivesMore.{NoMore, Another}
use Rattle.rb_rules.specs.Grammar.DerivesStatement.{Declared, Simply}
use Rattle.rb_rules.specs.Grammar.DerivesModified.{Unmodified, Modified}
use Rattle.rb_rules.specs.Grammar.DerivesSimple.{Valued, Jumps, JumpsWith}
use Rattle.rb_rules.specs.Grammar.DerivesValue.{Term, Assigns, Computes, Command}
use Rattle.rb_rules.specs.Grammar.DerivesTarget.{Variable, Instance, Constant, Attribute, Element}
use Rattle.rb_rules.specs.Grammar.DerivesCallee.{Own, Of, YieldWord, SuperWord}
use Rattle.rb_rules.specs.Grammar.DerivesArguments.{LastArgument, MoreArguments}
use Rattle.rb_rules.specs.Grammar.DerivesArgument.{ByPlace, ByName, AsBlock}
use Rattle.rb_rules.specs.Grammar.DerivesTerm.{Operated, Conditional}
use Rattle.rb_rules.specs.Grammar.DerivesLevel.{Tighter, FromLeft, Once, Negated, Raised, Plainly}
use Rattle.rb_rules.specs.Grammar.DerivesPrefixed.{Prefixed, Posted}
use Rattle.rb_rules.specs.Grammar.DerivesOperand.{Bare, Suffixed}
use Rattle.rb_rules.specs.Grammar.DerivesSuffix.{Calls, Within as WithinName, Indexed}
use Rattle.rb_rules.specs.Grammar.DerivesIndex.{Index}
use Rattle.rb_rules.specs.Grammar.DerivesEnd.{NoComma, LastComma}
use Rattle.rb_rules.specs.Grammar.DerivesBrackets.{NoBrackets, EmptyBrackets, Brackets}
use Rattle.rb_rules.specs.Grammar.DerivesBlockAfter.{NoBlock, SomeBlock}
use Rattle.rb_rules.specs.Grammar.DerivesBlock.{Braces, DoEnd}
use Rattle.rb_rules.specs.Grammar.DerivesDo.{NoDo, SomeDo}
use Rattle.rb_rules.specs.Grammar.DerivesPrimary.{WholeNumber, FloatNumber, SignedWhole, SignedFloat, String, SymbolName, InstanceName, ConstantName, FromTop, SelfPlace, NilPlace, TruePlace, FalsePlace, NameAlone, CallWithBrackets, CallWithBlock, Yields, Supers, EmptyArray, SomeArray, EmptyHash, SomeHash, InParens, Branches, Loops, Guards, Cases}
use Rattle.rb_rules.specs.Grammar.DerivesPieces.{NoPiece, MorePieces}
use Rattle.rb_rules.specs.Grammar.DerivesElements.{LastElement, MoreElements}
use Rattle.rb_rules.specs.Grammar.DerivesPairs.{LastPair, MorePairs}
use Rattle.rb_rules.specs.Grammar.DerivesPair.{ByArrow, ByLabel}
use Rattle.rb_rules.specs.Grammar.DerivesArms.{NoArm, MoreArms}
use Rattle.rb_rules.specs.Grammar.DerivesElse.{NoElse, SomeElse}
use Rattle.rb_rules.specs.Grammar.DerivesSubject.{NoSubject, SomeSubject}
use Rattle.rb_rules.specs.Grammar.DerivesWhens.{NoWhen, MoreWhens}
use Rattle.rb_rules.specs.Grammar.DerivesPatterns.{LastPattern, MorePatterns}
use Rattle.rb_rules.specs.Grammar.DerivesGuarded.{Unrescued, Rescued}
use Rattle.rb_rules.specs.Grammar.DerivesRescues.{NoRescue, MoreRescues}
use Rattle.rb_rules.specs.Grammar.DerivesRaised.{AnyError, SomeErrors}
use Rattle.rb_rules.specs.Grammar.DerivesEnsure.{NoEnsure, SomeEnsure}
use Rattle.rb_rules.specs.Grammar.DerivesDeclaration.{ClassOf, ModuleOf, Method, VisibleMethod}
use Rattle.rb_rules.specs.Grammar.DerivesMethod.{Def}
use Rattle.rb_rules.specs.Grammar.DerivesParameters.{NoParameters, OpenParameters, EmptyParens, InBrackets}
use Rattle.rb_rules.specs.Grammar.DerivesParameterList.{LastParameter, MoreParameters}
use Rattle.rb_rules.specs.Grammar.DerivesParameter.{Required, Optional, RequiredKeyword, OptionalKeyword, BlockParameter}

-- what a token is to the weight
pub data Role : Type 0 where
  -- it opens a level: a bracket, an interpolation, a `do`, or a word that a form begins with and that is no modifier
  Opens : Role
  -- it closes a level
  Closes : Role
  -- it is an operator or a modifier
  Counts : Role
  -- it is the `do` of a loop, which opens no level
  LoopDo : Role
  -- it is a separator
  Separates : Role
  -- it is a `,`, `then`, `else`, `elsif`, `when`, `rescue` or `ensure`
  Divides : Role
  -- it is none of these
  Stands : Role

-- ---- separators

unfoldable pub gap_roles : {xs ys : List Token} → Gap xs ys → List Role
gap_roles (Closed _) = []
gap_roles (Wide _ _ _ _ g) = Role.Separates ∷ gap_roles g

unfoldable pub gap_in_roles : {bracketed : Bool} {xs ys : List Token} → GapIn bracketed xs ys → List Role
gap_in_roles (Tight _) = []
gap_in_roles (Loose _ _ g) = gap_roles g

unfoldable pub then_roles : {xs ys : List Token} → Then xs ys → List Role
then_roles (Word _ _ _) = Role.Divides ∷ []
then_roles (Line _ _ _) = Role.Separates ∷ []
then_roles (LineWord _ _ _ _ _) = Role.Separates ∷ Role.Divides ∷ []

-- before a closing `]` or `}`
unfoldable pub end_roles : {xs ys : List Token} → DerivesEnd xs ys → List Role
end_roles (NoComma _ _ g) = gap_roles g
end_roles (LastComma _ _ _ _ g) = Role.Divides ∷ gap_roles g

-- the token between the condition of a loop and its body: a `do` or a separator
unfoldable pub loop_role : (d : Token) → IsAny (shape.Do ∷ shape.Separator ∷ []) d → Role
loop_role _ (inl _) = Role.LoopDo
loop_role _ (inr _) = Role.Separates

-- ---- names in rows

unfoldable pub bar_name_roles : {names : List PlacedName} {xs ys : List Token} → BarNames names xs ys → List Role
bar_name_roles (LastBar _ _ _ _) = Role.Stands ∷ []
bar_name_roles (MoreBars _ _ _ _ _ _ _ _ more) = Role.Stands ∷ Role.Divides ∷ bar_name_roles more

-- the `|` around block parameters don't count
unfoldable pub bars_roles : {names : List PlacedName} {xs ys : List Token} → Bars names xs ys → List Role
bars_roles (NoBars _) = []
bars_roles (SomeBars _ _ _ _ _ _ names _ _) = Role.Stands ∷ bar_name_roles names ++ Role.Stands ∷ []

-- nor does `::`
unfoldable pub path_roles : {long : Bool} {names : List PlacedName} {xs ys : List Token} → Path long names xs ys → List Role
path_roles (LastName _ _ _ _ _) = Role.Stands ∷ []
path_roles (MoreNames _ _ _ _ _ _ _ _ more) = Role.Stands ∷ Role.Stands ∷ path_roles more

unfoldable pub superclass_roles : {r : Option Reference} {xs ys : List Token} → Superclass r xs ys → List Role
superclass_roles (NoSuperclass _) = []
superclass_roles (Named _ _ _ _ _ _ path) = Role.Counts ∷ path_roles path
superclass_roles (NamedFromTop _ _ _ _ _ _ _ _ path) = Role.Counts ∷ Role.Stands ∷ path_roles path

-- the operators of a method's name count
unfoldable pub method_name_roles : {w : List ℕ} {s : Span} {xs ys : List Token} → MethodName w s xs ys → List Role
method_name_roles (Plain _ _ _ _) = Role.Stands ∷ []
method_name_roles (Writer _ _ _ _ _ _) = Role.Stands ∷ Role.Counts ∷ []
method_name_roles (Capital _ _ _ _) = Role.Stands ∷ []
method_name_roles (Operator _ _ _ _) = Role.Counts ∷ []

-- and so does the `.` of `def self.`
unfoldable pub owner_roles : {own : Bool} {xs ys : List Token} → Owner own xs ys → List Role
owner_roles (Other _) = []
owner_roles (OwnSelf _ _ _ _ _) = Role.Stands ∷ Role.Counts ∷ []

-- ---- guards

unfoldable pub parted_roles : {before : Tree} {xs ys : List Token} → Parted before xs ys → List Role
parted_roles (AfterNothing _) = []
parted_roles (AfterSeparator _ _ _ _) = Role.Separates ∷ []

-- `=>` doesn't count
unfoldable pub variable_roles : {variable : Option PlacedName} {xs ys : List Token} → RescueVariable variable xs ys → List Role
variable_roles (NoVariable _) = []
variable_roles (Bound _ _ _ _ _ _) = Role.Stands ∷ Role.Stands ∷ []

-- ---- the forms

unfoldable mutual
  pub body_roles : {at : Site} {free : Bool} {t : Tree} {xs ys : List Token} → DerivesBody at free t xs ys → List Role
  body_roles (NoStatement _ _ _ _ g) = gap_roles g
  body_roles (Statements _ _ _ _ _ _ _ _ _ g d more h) = gap_roles g ++ (statement_roles d ++ (more_roles more ++ gap_roles h))

  pub more_roles : {at : Site} {free : Bool} {ss : List Tree} {xs ys : List Token} → DerivesMore at free ss xs ys → List Role
  more_roles (NoMore _ _ _) = []
  more_roles (Another _ _ _ _ _ _ _ _ _ _ g d more) = Role.Separates ∷ gap_roles g ++ (statement_roles d ++ more_roles more)

  pub statement_roles : {at : Site} {free : Bool} {t : Tree} {xs ys : List Token} → DerivesStatement at free t xs ys → List Role
  statement_roles (Declared _ _ _ _ _ _ d) = declaration_roles d
  statement_roles (Simply _ _ _ _ _ _ _ d m) = simple_roles d ++ modified_roles m

  -- a modifier counts
  pub modified_roles : {free : Bool} {s t : Tree} {xs ys : List Token} → DerivesModified free s t xs ys → List Role
  modified_roles (Unmodified _ _ _) = []
  modified_roles (Modified _ _ _ _ _ _ _ _ _ _ _ c more) = Role.Counts ∷ simple_roles c ++ modified_roles more

  pub simple_roles : {constants free : Bool} {t : Tree} {xs ys : List Token} → DerivesSimple constants free t xs ys → List Role
  simple_roles (Valued _ _ _ _ _ d) = value_roles d
  simple_roles (Jumps _ _ _ _ _ _) = Role.Stands ∷ []
  simple_roles (JumpsWith _ _ _ _ _ _ _ _ _ d) = Role.Stands ∷ value_roles d

  pub value_roles : {constants free : Bool} {t : Tree} {xs ys : List Token} → DerivesValue constants free t xs ys → List Role
  value_roles (Term _ _ _ _ _ d) = term_roles d
  value_roles (Assigns _ _ _ _ _ _ _ _ d _ v) = target_roles d ++ Role.Counts ∷ value_roles v
  value_roles (Computes _ _ _ _ _ _ _ _ _ d _ v) = target_roles d ++ Role.Counts ∷ value_roles v
  value_roles (Command _ _ _ _ _ _ _ _ _ d _ given _ block _) = callee_roles d ++ (arguments_roles given ++ do_roles block)

  pub target_roles : {constants free : Bool} {t : Tree} {xs ys : List Token} → DerivesTarget constants free t xs ys → List Role
  target_roles (Variable _ _ _ _ _ _) = Role.Stands ∷ []
  target_roles (Instance _ _ _ _ _ _) = Role.Stands ∷ []
  target_roles (Constant _ _ _ _ _) = Role.Stands ∷ []
  target_roles (Attribute _ _ _ _ _ _ _ _ _ _ d _ _) = operand_roles d ++ Role.Counts ∷ Role.Stands ∷ []
  target_roles (Element _ _ _ _ _ _ _ _ _ _ d i) = operand_roles d ++ index_roles i

  pub callee_roles : {free : Bool} {t : Tree} {xs ys : List Token} → DerivesCallee free t xs ys → List Role
  callee_roles (Own _ _ _ _ _) = Role.Stands ∷ []
  callee_roles (Of _ _ _ _ _ _ _ _ _ _ d _ _) = operand_roles d ++ Role.Counts ∷ Role.Stands ∷ []
  callee_roles (YieldWord _ _ _ _) = Role.Stands ∷ []
  callee_roles (SuperWord _ _ _ _) = Role.Stands ∷ []

  pub arguments_roles : {bracketed free : Bool} {given : List (Argument Tree)} {xs ys : List Token} → DerivesArguments bracketed free given xs ys → List Role
  arguments_roles (LastArgument _ _ _ _ _ d) = argument_roles d
  arguments_roles (MoreArguments _ _ _ _ _ _ _ _ _ d _ g more) = argument_roles d ++ (Role.Divides ∷ gap_in_roles g ++ arguments_roles more)

  pub argument_roles : {free : Bool} {a : Argument Tree} {xs ys : List Token} → DerivesArgument free a xs ys → List Role
  argument_roles (ByPlace _ _ _ _ d) = term_roles d
  argument_roles (ByName _ _ _ _ _ _ _ d) = Role.Stands ∷ term_roles d
  argument_roles (AsBlock _ _ _ _ _ _ d) = Role.Counts ∷ term_roles d

  -- both signs of a choice between two terms count
  pub term_roles : {free : Bool} {t : Tree} {xs ys : List Token} → DerivesTerm free t xs ys → List Role
  term_roles (Operated _ _ _ _ d) = level_roles d
  term_roles (Conditional _ _ _ _ _ _ _ _ _ _ c _ a _ b) = level_roles c ++ (Role.Counts ∷ term_roles a ++ Role.Counts ∷ term_roles b)

  pub level_roles : {level : ℕ} {free : Bool} {t : Tree} {xs ys : List Token} → DerivesLevel level free t xs ys → List Role
  level_roles (Tighter _ _ _ _ _ _ d) = level_roles d
  level_roles (FromLeft _ _ _ _ _ _ _ _ _ _ a _ b) = level_roles a ++ Role.Counts ∷ level_roles b
  level_roles (Once _ _ _ _ _ _ _ _ a _ b) = level_roles a ++ Role.Counts ∷ level_roles b
  level_roles (Negated _ _ _ _ _ _ _ a) = Role.Counts ∷ level_roles a
  level_roles (Raised _ _ _ _ _ _ _ a _ b) = prefixed_roles a ++ Role.Counts ∷ level_roles b
  level_roles (Plainly _ _ _ _ d) = prefixed_roles d

  pub prefixed_roles : {free : Bool} {t : Tree} {xs ys : List Token} → DerivesPrefixed free t xs ys → List Role
  prefixed_roles (Prefixed _ _ _ _ _ _ _ _ a) = Role.Counts ∷ prefixed_roles a
  prefixed_roles (Posted _ _ _ _ _ _ d) = operand_roles d

  pub operand_roles : {free : Bool} {p : Tree} {ss : List (Suffix Tree)} {last : Token} {xs ys : List Token} → DerivesOperand free p ss last xs ys → List Role
  operand_roles (Bare _ _ _ _ _ d) = primary_roles d
  operand_roles (Suffixed _ _ _ _ _ _ _ _ _ d s) = operand_roles d ++ suffix_roles s

  pub suffix_roles : {free : Bool} {s : Suffix Tree} {before last : Token} {xs ys : List Token} → DerivesSuffix free s before last xs ys → List Role
  suffix_roles (Calls _ _ _ _ _ _ _ _ _ _ _ _ _ _ _ given block _) = Role.Counts ∷ Role.Stands ∷ brackets_roles given ++ block_after_roles block
  suffix_roles (WithinName _ _ _ _ _ _ _ _) = Role.Stands ∷ Role.Stands ∷ []
  suffix_roles (Indexed _ _ _ _ _ _ d) = index_roles d

  pub index_roles : {s : Suffix Tree} {before last : Token} {xs ys : List Token} → DerivesIndex s before last xs ys → List Role
  index_roles (Index _ _ _ _ _ _ _ _ _ _ g given _ e _) = Role.Opens ∷ gap_roles g ++ (arguments_roles given ++ (end_roles e ++ Role.Closes ∷ []))

  pub brackets_roles : {given : Option (List (Argument Tree))} {before last : Token} {xs ys : List Token} → DerivesBrackets given before last xs ys → List Role
  brackets_roles (NoBrackets _ _) = []
  brackets_roles (EmptyBrackets _ _ _ _ _ _ g _) = Role.Opens ∷ gap_roles g ++ Role.Closes ∷ []
  brackets_roles (Brackets _ _ _ _ _ _ _ _ _ g given _ h _) = Role.Opens ∷ gap_roles g ++ (arguments_roles given ++ (gap_roles h ++ Role.Closes ∷ []))

  pub block_after_roles : {free : Bool} {b : Option (Block Tree)} {before last : Token} {xs ys : List Token} → DerivesBlockAfter free b before last xs ys → List Role
  block_after_roles (NoBlock _ _ _) = []
  block_after_roles (SomeBlock _ _ _ _ _ _ d) = block_roles d

  pub block_roles : {free : Bool} {b : Block Tree} {last : Token} {xs ys : List Token} → DerivesBlock free b last xs ys → List Role
  block_roles (Braces _ _ _ _ _ _ _ _ _ names d _) = Role.Opens ∷ bars_roles names ++ (body_roles d ++ Role.Closes ∷ [])
  block_roles (DoEnd _ _ _ _ _ _ _ _ names d _) = Role.Opens ∷ bars_roles names ++ (body_roles d ++ Role.Closes ∷ [])

  pub do_roles : {free : Bool} {b : Option (Block Tree)} {xs ys : List Token} → DerivesDo free b xs ys → List Role
  do_roles (NoDo _ _) = []
  do_roles (SomeDo _ _ _ _ _ _ d) = block_roles d

  -- The sign of a number counts, and a string's text doesn't. `::` in front of a constant doesn't either.
  pub primary_roles : {free : Bool} {t : Tree} {last : Token} {xs ys : List Token} → DerivesPrimary free t last xs ys → List Role
  primary_roles (WholeNumber _ _ _ _ _) = Role.Stands ∷ []
  primary_roles (FloatNumber _ _ _ _ _) = Role.Stands ∷ []
  primary_roles (SignedWhole _ _ _ _ _ _ _ _ _ _) = Role.Counts ∷ Role.Stands ∷ []
  primary_roles (SignedFloat _ _ _ _ _ _ _ _ _ _) = Role.Counts ∷ Role.Stands ∷ []
  primary_roles (String _ _ _ _ _ _ _ _ d) = Role.Stands ∷ pieces_roles d
  primary_roles (SymbolName _ _ _ _ _) = Role.Stands ∷ []
  primary_roles (InstanceName _ _ _ _ _) = Role.Stands ∷ []
  primary_roles (ConstantName _ _ _ _ _) = Role.Stands ∷ []
  primary_roles (FromTop _ _ _ _ _ _ _) = Role.Stands ∷ Role.Stands ∷ []
  primary_roles (SelfPlace _ _ _ _) = Role.Stands ∷ []
  primary_roles (NilPlace _ _ _ _) = Role.Stands ∷ []
  primary_roles (TruePlace _ _ _ _) = Role.Stands ∷ []
  primary_roles (FalsePlace _ _ _ _) = Role.Stands ∷ []
  primary_roles (NameAlone _ _ _ _ _) = Role.Stands ∷ []
  primary_roles (CallWithBrackets _ _ _ _ _ _ _ _ _ _ _ given block _) = Role.Stands ∷ brackets_roles given ++ block_after_roles block
  primary_roles (CallWithBlock _ _ _ _ _ _ _ _ block) = Role.Stands ∷ block_roles block
  primary_roles (Yields _ _ _ _ _ _ _ given) = Role.Stands ∷ brackets_roles given
  primary_roles (Supers _ _ _ _ _ _ _ given) = Role.Stands ∷ brackets_roles given
  primary_roles (EmptyArray _ _ _ _ _ _ g _) = Role.Opens ∷ gap_roles g ++ Role.Closes ∷ []
  primary_roles (SomeArray _ _ _ _ _ _ _ _ _ g d e _) = Role.Opens ∷ gap_roles g ++ (elements_roles d ++ (end_roles e ++ Role.Closes ∷ []))
  primary_roles (EmptyHash _ _ _ _ _ _ g _) = Role.Opens ∷ gap_roles g ++ Role.Closes ∷ []
  primary_roles (SomeHash _ _ _ _ _ _ _ _ _ g d e _) = Role.Opens ∷ gap_roles g ++ (pairs_roles d ++ (end_roles e ++ Role.Closes ∷ []))
  primary_roles (InParens _ _ _ _ _ _ _ d _) = Role.Opens ∷ body_roles d ++ Role.Closes ∷ []
  primary_roles (Branches _ _ _ _ _ _ _ _ _ _ _ _ _ _ _ c word d arms _ otherwise _) = Role.Opens ∷ simple_roles c ++ (then_roles word ++ (body_roles d ++ (arms_roles arms ++ (else_roles otherwise ++ Role.Closes ∷ []))))
  primary_roles (Loops _ _ d _ _ _ _ _ _ _ _ c between inner _) = Role.Opens ∷ simple_roles c ++ (loop_role d between ∷ body_roles inner ++ Role.Closes ∷ [])
  primary_roles (Guards _ _ _ _ _ _ _ d _) = Role.Opens ∷ guarded_roles d ++ Role.Closes ∷ []
  primary_roles (Cases _ _ _ _ _ _ _ _ _ _ _ _ _ subject g arms otherwise _) = Role.Opens ∷ subject_roles subject ++ (gap_roles g ++ (whens_roles arms ++ (else_roles otherwise ++ Role.Closes ∷ [])))

  -- an interpolation is a level
  pub pieces_roles : {ps : List (Piece Tree)} {before last : Token} {xs ys : List Token} → DerivesPieces ps before last xs ys → List Role
  pieces_roles (NoPiece _ _) = []
  pieces_roles (MorePieces _ _ _ _ _ _ _ _ _ _ _ _ d _ _ more) = Role.Opens ∷ body_roles d ++ Role.Closes ∷ Role.Stands ∷ pieces_roles more

  pub elements_roles : {es : List Tree} {xs ys : List Token} → DerivesElements es xs ys → List Role
  elements_roles (LastElement _ _ _ d) = term_roles d
  elements_roles (MoreElements _ _ _ _ _ _ _ d _ g more) = term_roles d ++ (Role.Divides ∷ gap_roles g ++ elements_roles more)

  pub pairs_roles : {ps : List (Pair Tree)} {xs ys : List Token} → DerivesPairs ps xs ys → List Role
  pairs_roles (LastPair _ _ _ d) = pair_roles d
  pairs_roles (MorePairs _ _ _ _ _ _ _ d _ g more) = pair_roles d ++ (Role.Divides ∷ gap_roles g ++ pairs_roles more)

  -- `=>` doesn't count
  pub pair_roles : {p : Pair Tree} {xs ys : List Token} → DerivesPair p xs ys → List Role
  pair_roles (ByArrow _ _ _ _ _ _ k _ v) = term_roles k ++ Role.Stands ∷ term_roles v
  pair_roles (ByLabel _ _ _ _ _ _ v) = Role.Stands ∷ term_roles v

  pub arms_roles : {free : Bool} {arms : List (Arm Tree)} {xs ys : List Token} → DerivesArms free arms xs ys → List Role
  arms_roles (NoArm _ _) = []
  arms_roles (MoreArms _ _ _ _ _ _ _ _ _ _ _ c word d more) = Role.Divides ∷ simple_roles c ++ (then_roles word ++ (body_roles d ++ arms_roles more))

  pub else_roles : {free : Bool} {t : Option Tree} {xs ys : List Token} → DerivesElse free t xs ys → List Role
  else_roles (NoElse _ _) = []
  else_roles (SomeElse _ _ _ _ _ _ d) = Role.Divides ∷ body_roles d

  pub subject_roles : {free : Bool} {t : Option Tree} {xs ys : List Token} → DerivesSubject free t xs ys → List Role
  subject_roles (NoSubject _ _) = []
  subject_roles (SomeSubject _ _ _ _ d) = simple_roles d

  pub whens_roles : {free : Bool} {arms : List (When Tree)} {xs ys : List Token} → DerivesWhens free arms xs ys → List Role
  whens_roles (NoWhen _ _) = []
  whens_roles (MoreWhens _ _ _ _ _ _ _ _ _ _ _ patterns word d more) = Role.Divides ∷ patterns_roles patterns ++ (then_roles word ++ (body_roles d ++ whens_roles more))

  pub patterns_roles : {free : Bool} {ps : List Tree} {xs ys : List Token} → DerivesPatterns free ps xs ys → List Role
  patterns_roles (LastPattern _ _ _ _ d) = term_roles d
  patterns_roles (MorePatterns _ _ _ _ _ _ _ d _ more) = term_roles d ++ Role.Divides ∷ patterns_roles more

  pub guarded_roles : {free : Bool} {g : Guarded Tree} {xs ys : List Token} → DerivesGuarded free g xs ys → List Role
  guarded_roles (Unrescued _ _ _ _ _ _ d e) = body_roles d ++ ensure_roles e
  guarded_roles (Rescued _ _ _ _ _ _ _ _ _ _ _ d clauses otherwise e) = body_roles d ++ (rescues_roles clauses ++ (else_roles otherwise ++ ensure_roles e))

  pub rescues_roles : {free : Bool} {before : Tree} {clauses : List (Rescue Tree)} {xs ys : List Token} → DerivesRescues free before clauses xs ys → List Role
  rescues_roles (NoRescue _ _ _) = []
  rescues_roles (MoreRescues _ _ _ _ _ _ _ _ _ _ _ _ _ _ parted _ raised variable word d more) =
      parted_roles parted ++ (Role.Divides ∷ raised_roles raised ++ (variable_roles variable ++ (then_roles word ++ (body_roles d ++ rescues_roles more))))

  pub raised_roles : {free : Bool} {ps : List Tree} {xs ys : List Token} → DerivesRaised free ps xs ys → List Role
  raised_roles (AnyError _ _) = []
  raised_roles (SomeErrors _ _ _ _ d) = patterns_roles d

  pub ensure_roles : {free : Bool} {t : Option Tree} {xs ys : List Token} → DerivesEnsure free t xs ys → List Role
  ensure_roles (NoEnsure _ _) = []
  ensure_roles (SomeEnsure _ _ _ _ _ _ d) = Role.Divides ∷ body_roles d

  pub declaration_roles : {at : Site} {t : Tree} {xs ys : List Token} → DerivesDeclaration at t xs ys → List Role
  declaration_roles (ClassOf _ _ _ _ _ _ _ _ _ _ _ _ path superclass _ d _) = Role.Opens ∷ path_roles path ++ (superclass_roles superclass ++ (Role.Separates ∷ body_roles d ++ Role.Closes ∷ []))
  declaration_roles (ModuleOf _ _ _ _ _ _ _ _ _ _ path _ d _) = Role.Opens ∷ path_roles path ++ (Role.Separates ∷ body_roles d ++ Role.Closes ∷ [])
  declaration_roles (Method _ _ _ _ d) = method_roles d
  declaration_roles (VisibleMethod _ _ _ _ _ _ _ _ _ d) = Role.Stands ∷ method_roles d

  pub method_roles : {visible : Option Visibility} {front : Option Token} {t : Tree} {xs ys : List Token} → DerivesMethod visible front t xs ys → List Role
  method_roles (Def _ _ _ _ _ _ _ _ _ _ _ _ _ _ _ owner name given _ _ d _) = Role.Opens ∷ owner_roles owner ++ (method_name_roles name ++ (parameters_roles given ++ (guarded_roles d ++ Role.Closes ∷ [])))

  pub parameters_roles : {ps : List (Parameter Tree)} {xs ys : List Token} → DerivesParameters ps xs ys → List Role
  parameters_roles (NoParameters _ _ _) = Role.Separates ∷ []
  parameters_roles (OpenParameters _ _ _ _ _ d _) = parameter_list_roles d ++ Role.Separates ∷ []
  parameters_roles (EmptyParens _ _ _ _ _ g _) = Role.Opens ∷ gap_roles g ++ Role.Closes ∷ []
  parameters_roles (InBrackets _ _ _ _ _ _ _ _ _ g d h _) = Role.Opens ∷ gap_roles g ++ (parameter_list_roles d ++ (gap_roles h ++ Role.Closes ∷ []))

  pub parameter_list_roles : {bracketed : Bool} {ps : List (Parameter Tree)} {xs ys : List Token} → DerivesParameterList bracketed ps xs ys → List Role
  parameter_list_roles (LastParameter _ _ _ _ d) = parameter_roles d
  parameter_list_roles (MoreParameters _ _ _ _ _ _ _ _ d _ g more) = parameter_roles d ++ (Role.Divides ∷ gap_in_roles g ++ parameter_list_roles more)

  pub parameter_roles : {p : Parameter Tree} {xs ys : List Token} → DerivesParameter p xs ys → List Role
  parameter_roles (Required _ _ _ _) = Role.Stands ∷ []
  parameter_roles (Optional _ _ _ _ _ _ _ _ d) = Role.Stands ∷ Role.Counts ∷ term_roles d
  parameter_roles (RequiredKeyword _ _ _ _) = Role.Stands ∷ []
  parameter_roles (OptionalKeyword _ _ _ _ _ _ d) = Role.Stands ∷ term_roles d
  parameter_roles (BlockParameter _ _ _ _ _ _) = Role.Counts ∷ Role.Stands ∷ []

-- the roles of a program's tokens
abbrev pub roles : {tokens : List Token} {t : Tree} → Derives tokens t → List Role
roles d = body_roles d
