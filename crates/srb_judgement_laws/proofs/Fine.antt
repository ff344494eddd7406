-- What is known of the parts of a program whose places have a fact: the errors that come from them have their places so too.
use Rattle.std.proofs.Common.{ℕ, List, Option}
use Rattle.srb_terms.specs.declared.diag.Diag.{Diag}
use Rattle.srb_terms.specs.declared.span.Span.{Span}
use Rattle.rb_tree.specs.Trees.{span_at}
use Rattle.rb_tree.specs.declared.syntax.Argument.{Argument}
use Rattle.rb_tree.specs.declared.syntax.Argument.TheVariants as argument
use Rattle.rb_tree.specs.declared.syntax.Arm.{Arm}
use Rattle.rb_tree.specs.declared.syntax.Block.{Block}
use Rattle.rb_tree.specs.declared.syntax.Guarded.{Guarded}
use Rattle.rb_tree.specs.declared.syntax.Pair.{Pair}
use Rattle.rb_tree.specs.declared.syntax.Pair.TheVariants as pair
use Rattle.rb_tree.specs.declared.syntax.Parameter.{Parameter}
use Rattle.rb_tree.specs.declared.syntax.Piece.{Piece}
use Rattle.rb_tree.specs.declared.syntax.Piece.TheVariants as piece
use Rattle.rb_tree.specs.declared.syntax.PlacedName.{PlacedName}
use Rattle.rb_tree.specs.declared.syntax.Rescue.{Rescue}
use Rattle.rb_tree.specs.declared.syntax.Suffix.{Suffix}
use Rattle.rb_tree.specs.declared.syntax.Suffix.TheVariants as suffix
use Rattle.rb_tree.specs.declared.syntax.When.{When}
use Rattle.rb_tree.specs.declared.syntax.Node.TheOpen.{Node-F}
use Rattle.rb_views.specs.Places.{open_bracket, prefix_operator, jump_word}
use Rattle.rb_grammar.specs.Places.{Each, IfThere}
use Rattle.srb_judgement.specs.Parts.{Operand, Part, Ending, EndsInName, EndsInInstanceVariable, EndsInConstant, EndsInCall, EndsInIndex, EndsInYield, EndsInSuper, EndsOtherwise}
use Rattle.srb_judgement.specs.States.{Context, State, Run, Test}

module _ (P : Span → Type 0) where
  abbrev pub IsAt : Diag → Type 0
  IsAt e = P e.span

  abbrev pub All : List Diag → Type 0
  All = Each IsAt

  abbrev pub FineName : PlacedName → Type 0
  FineName n = P n.span

  module _ {T : Type 0} where
    abbrev pub Fine : State T → Type 0
    Fine s = All s.errors

    abbrev pub FineRun : Run T → Type 0
    FineRun run = (c : Context T) (s : State T) → Fine s → Fine (run c s).state

    abbrev pub FineTest : Test T → Type 0
    FineTest test = (c : Context T) (s : State T) → Fine s → Fine (test c s).state

  module _ {T X : Type 0} where
    pub record FineOperand (o : Operand T X) : Type 0 where
      pub place : P o.span
      pub run : FineRun o.judge

    abbrev pub FineArgument : Argument (Operand T X) → Type 0
    FineArgument (argument.Positional value) = FineOperand value
    FineArgument (argument.Keyword name span value) = FineOperand value
    FineArgument (argument.Block span value) = FineOperand value

    abbrev pub FineEnding : Ending T X → Type 0
    FineEnding (EndsInName name span) = P span
    FineEnding (EndsInInstanceVariable name span) = P span
    FineEnding EndsInConstant = Unit {0}
    FineEnding (EndsInCall o how name span) = FineOperand o × P span
    FineEnding (EndsInIndex o arguments span) = FineOperand o × Each FineArgument arguments × P span
    FineEnding EndsInYield = Unit {0}
    FineEnding EndsInSuper = Unit {0}
    FineEnding EndsOtherwise = Unit {0}

    pub record FinePart (p : Part T X) : Type 0 where
      pub it : FineOperand p.it
      pub test : FineTest p.test
      pub ending : FineEnding p.ending
      pub last : P p.last
      pub in_class : FineRun p.in_class
      pub bodies : (sig : Option X) (scope : List (List ℕ)) → All (p.bodies sig scope)
      pub inner : (scope : List (List ℕ)) → All (p.inner scope)

    -- ---- the parts in a node

    abbrev pub FineGiven : Argument (Part T X) → Type 0
    FineGiven (argument.Positional value) = FinePart value
    FineGiven (argument.Keyword name span value) = FinePart value
    FineGiven (argument.Block span value) = FinePart value

    abbrev pub FineBlock : Block (Part T X) → Type 0
    FineBlock b = FinePart b.body

    -- a suffix in a row that begins here
    abbrev pub FineSuffix : ℕ → Suffix (Part T X) → Type 0
    FineSuffix start (suffix.Call how name name_span arguments b span) =
        P (record { start = start; end = span.end }) × P name_span × IfThere (Each FineGiven) arguments × IfThere FineBlock b
    FineSuffix start (suffix.Constant name name_span span) = P (record { start = start; end = span.end })
    FineSuffix start (suffix.Index arguments span) =
        P (record { start = start; end = span.end }) × P (open_bracket span) × Each FineGiven arguments

    abbrev pub FinePiece : Piece (Part T X) → Type 0
    FinePiece (piece.Words words span) = Unit {0}
    FinePiece (piece.Code body span) = FinePart body

    abbrev pub FinePair : Pair (Part T X) → Type 0
    FinePair (pair.Arrow key value) = FinePart key × FinePart value
    FinePair (pair.Label name span value) = FinePart value

    abbrev pub FineArm : Arm (Part T X) → Type 0
    FineArm a = FinePart a.condition × FinePart a.body

    abbrev pub FineWhen : When (Part T X) → Type 0
    FineWhen w = Each FinePart w.patterns × FinePart w.body

    abbrev pub FineParameter : Parameter (Part T X) → Type 0
    FineParameter p = IfThere FinePart p.default

    abbrev pub FineRescue : Rescue (Part T X) → Type 0
    FineRescue r = Each FinePart r.patterns × IfThere FineName r.variable × FinePart r.body

    abbrev pub FineGuarded : Guarded (Part T X) → Type 0
    FineGuarded g = FinePart g.body × Each FineRescue g.rescues × IfThere FinePart g.otherwise × IfThere FinePart g.ensure

    -- the parts in a node, and the places in it but for its own
    abbrev pub FineParts : Node-F (Part T X) (Part T X) → Type 0
    FineParts (Node-F.Body statements span) = Each FinePart statements
    FineParts (Node-F.Modified statement m condition span) = FinePart statement × FinePart condition
    FineParts (Node-F.Jump word value span) = P (jump_word word span) × IfThere FinePart value
    FineParts (Node-F.Assign target value span) = FinePart target × FinePart value
    FineParts (Node-F.OperatorAssign target operator place value span) = FinePart target × P place × FinePart value
    FineParts (Node-F.Command callee arguments b span) = FinePart callee × Each FineGiven arguments × IfThere FineBlock b
    FineParts (Node-F.Conditional condition positive negative span) = FinePart condition × FinePart positive × FinePart negative
    FineParts (Node-F.Binary operator place left right span) = P place × FinePart left × FinePart right
    FineParts (Node-F.Unary operator operand span) = P (prefix_operator span) × FinePart operand
    FineParts (Node-F.Post receiver suffixes span) = FinePart receiver × Each (FineSuffix receiver.it.span.start) suffixes
    FineParts (Node-F.Text pieces span) = Each FinePiece pieces
    FineParts (Node-F.Call name place arguments b span) = P place × IfThere (Each FineGiven) arguments × IfThere FineBlock b
    FineParts (Node-F.Yield arguments span) = IfThere (Each FineGiven) arguments
    FineParts (Node-F.Super arguments span) = IfThere (Each FineGiven) arguments
    FineParts (Node-F.Array elements span) = Each FinePart elements
    FineParts (Node-F.Hash pairs span) = Each FinePair pairs
    FineParts (Node-F.Parens inner span) = FinePart inner
    FineParts (Node-F.If which condition inner arms otherwise span) =
        FinePart condition × FinePart inner × Each FineArm arms × IfThere FinePart otherwise
    FineParts (Node-F.While which condition inner span) = FinePart condition × FinePart inner
    FineParts (Node-F.Case subject whens otherwise span) = IfThere FinePart subject × Each FineWhen whens × IfThere FinePart otherwise
    FineParts (Node-F.Begin guarded span) = FineGuarded guarded
    FineParts (Node-F.Class path superclass inner span) = FinePart inner
    FineParts (Node-F.Module path inner span) = FinePart inner
    FineParts (Node-F.Def visibility own name name_span parameters guarded span) =
        P name_span × Each FineParameter parameters × FineGuarded guarded
    FineParts _ = Unit {0}

    abbrev pub FineNode : Node-F (Part T X) (Part T X) → Type 0
    FineNode n = P (span_at n) × FineParts n
