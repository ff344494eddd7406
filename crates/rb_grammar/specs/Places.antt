-- Where the nodes of a tree stand: each place that they carry begins where a token begins, and ends where that token or one after it ends.
use Rattle.std.specs.Prelude.{◌≡◌, ◌↔◌, ◌⊎◌, List, [], ◌∷◌, Option, Some, None}
use Rattle.srb_terms.specs.declared.span.Span.{Span}
use Rattle.rb_tree.specs.declared.token.Token.{Token}
use Rattle.rb_tree.specs.declared.syntax.Tree.{Tree}
use Rattle.rb_tree.specs.declared.syntax.Node.{out-Node}
use Rattle.rb_tree.specs.declared.syntax.Node.TheOpen.{Node-F}
use Rattle.rb_tree.specs.declared.syntax.Node.TheFolds.{rec-Tree}
use Rattle.rb_tree.specs.declared.syntax.Suffix.{Suffix}
use Rattle.rb_tree.specs.declared.syntax.Suffix.TheVariants as suffix
use Rattle.rb_tree.specs.declared.syntax.Argument.{Argument}
use Rattle.rb_tree.specs.declared.syntax.Argument.TheVariants as argument
use Rattle.rb_tree.specs.declared.syntax.Block.{Block}
use Rattle.rb_tree.specs.declared.syntax.Piece.{Piece}
use Rattle.rb_tree.specs.declared.syntax.Piece.TheVariants as piece
use Rattle.rb_tree.specs.declared.syntax.Pair.{Pair}
use Rattle.rb_tree.specs.declared.syntax.Pair.TheVariants as pair
use Rattle.rb_tree.specs.declared.syntax.Arm.{Arm}
use Rattle.rb_tree.specs.declared.syntax.When.{When}
use Rattle.rb_tree.specs.declared.syntax.PlacedName.{PlacedName}
use Rattle.rb_tree.specs.declared.syntax.Reference.{Reference}
use Rattle.rb_tree.specs.declared.syntax.Parameter.{Parameter}
use Rattle.rb_tree.specs.declared.syntax.Guarded.{Guarded}
use Rattle.rb_tree.specs.declared.syntax.Rescue.{Rescue}
use Rattle.rb_rules.specs.Tokens.{IsOneOf}
use Rattle.rb_rules.specs.Grammar.{Derives}

-- the fact holds of each element
abbrev pub Each : {A : Type 0} → (A → Type 0) → List A → Type 0
Each P [] = Unit {0}
Each P (x ∷ xs) = P x × Each P xs

-- it holds of what is there, if anything is
abbrev pub IfThere : {A : Type 0} → (A → Type 0) → Option A → Type 0
IfThere P None = Unit {0}
IfThere P (Some x) = P x

-- the first stands in the list, and the second there or after it
abbrev pub AreInOrder : {A : Type 0} → List A → A → A → Type 0
AreInOrder [] a b = ⊥
AreInOrder (x ∷ xs) a b = ((a ≡ x) × IsOneOf (x ∷ xs) b) ⊎ AreInOrder xs a b

-- the place begins where one of the tokens begins, and ends where that token or one after it ends
pub record IsPlaced (tokens : List Token) (span : Span) : Type 0 where
  pub first : Token
  pub last : Token
  pub first_is : IsOneOf tokens first
  pub last_is : IsOneOf tokens last
  pub in_order : AreInOrder tokens first last
  pub starts : span.start ≡ first.span.start
  pub ends : span.end ≡ last.span.end

module _ (tokens : List Token) where
  abbrev pub IsNamePlaced : PlacedName → Type 0
  IsNamePlaced n = IsPlaced tokens n.span

  abbrev pub IsReferencePlaced : Reference → Type 0
  IsReferencePlaced r = IsPlaced tokens r.span × Each IsNamePlaced r.path

  -- ---- the parts of a node, where `Stands` says that the trees in them stand at the tokens
  module _ {X : Type 0} (Stands : X → Type 0) where
    -- a body without statements stands at the start
    abbrev pub DoStatementsStand : List X → Span → Type 0
    DoStatementsStand [] span = (span.start ≡ 0) × (span.end ≡ 0)
    DoStatementsStand (s ∷ ss) span = IsPlaced tokens span × Each Stands (s ∷ ss)

    abbrev pub DoesArgumentStand : Argument X → Type 0
    DoesArgumentStand (argument.Positional value) = Stands value
    DoesArgumentStand (argument.Keyword name span value) = IsPlaced tokens span × Stands value
    DoesArgumentStand (argument.Block span value) = IsPlaced tokens span × Stands value

    abbrev pub DoesBlockStand : Block X → Type 0
    DoesBlockStand b = IsPlaced tokens b.span × Each IsNamePlaced b.parameters × Stands b.body

    abbrev pub DoesSuffixStand : Suffix X → Type 0
    DoesSuffixStand (suffix.Call dot name name_span arguments block span) =
        IsPlaced tokens span × IsPlaced tokens name_span × IfThere (Each DoesArgumentStand) arguments × IfThere DoesBlockStand block
    DoesSuffixStand (suffix.Constant name name_span span) = IsPlaced tokens span × IsPlaced tokens name_span
    DoesSuffixStand (suffix.Index arguments span) = IsPlaced tokens span × Each DoesArgumentStand arguments

    abbrev pub DoesPieceStand : Piece X → Type 0
    DoesPieceStand (piece.Words words span) = IsPlaced tokens span
    DoesPieceStand (piece.Code body span) = IsPlaced tokens span × Stands body

    abbrev pub DoesPairStand : Pair X → Type 0
    DoesPairStand (pair.Arrow key value) = Stands key × Stands value
    DoesPairStand (pair.Label name span value) = IsPlaced tokens span × Stands value

    abbrev pub DoesArmStand : Arm X → Type 0
    DoesArmStand a = Stands a.condition × Stands a.body

    abbrev pub DoesWhenStand : When X → Type 0
    DoesWhenStand w = Each Stands w.patterns × Stands w.body

    abbrev pub DoesParameterStand : Parameter X → Type 0
    DoesParameterStand p = IsPlaced tokens p.span × IfThere Stands p.default

    abbrev pub DoesRescueStand : Rescue X → Type 0
    DoesRescueStand r = Each Stands r.patterns × IfThere IsNamePlaced r.variable × Stands r.body

    abbrev pub DoesGuardedStand : Guarded X → Type 0
    DoesGuardedStand g = Stands g.body × Each DoesRescueStand g.rescues × IfThere Stands g.otherwise × IfThere Stands g.ensure

    -- a node
    abbrev pub DoesNodeStand : {N : Type 0} → Node-F N X → Type 0
    DoesNodeStand (Node-F.Body statements span) = DoStatementsStand statements span
    DoesNodeStand (Node-F.Modified statement modifier condition span) = IsPlaced tokens span × Stands statement × Stands condition
    DoesNodeStand (Node-F.Jump jump value span) = IsPlaced tokens span × IfThere Stands value
    DoesNodeStand (Node-F.Assign target value span) = IsPlaced tokens span × Stands target × Stands value
    DoesNodeStand (Node-F.OperatorAssign target operator operator_span value span) =
        IsPlaced tokens span × Stands target × IsPlaced tokens operator_span × Stands value
    DoesNodeStand (Node-F.Command callee arguments block span) =
        IsPlaced tokens span × Stands callee × Each DoesArgumentStand arguments × IfThere DoesBlockStand block
    DoesNodeStand (Node-F.Conditional condition positive negative span) = IsPlaced tokens span × Stands condition × Stands positive × Stands negative
    DoesNodeStand (Node-F.Binary operator operator_span left right span) = IsPlaced tokens span × IsPlaced tokens operator_span × Stands left × Stands right
    DoesNodeStand (Node-F.Unary operator operand span) = IsPlaced tokens span × Stands operand
    DoesNodeStand (Node-F.Post receiver suffixes span) = IsPlaced tokens span × Stands receiver × Each DoesSuffixStand suffixes
    DoesNodeStand (Node-F.Whole sign words span) = IsPlaced tokens span
    DoesNodeStand (Node-F.Float sign words span) = IsPlaced tokens span
    DoesNodeStand (Node-F.Text pieces span) = IsPlaced tokens span × Each DoesPieceStand pieces
    DoesNodeStand (Node-F.Symbol words span) = IsPlaced tokens span
    DoesNodeStand (Node-F.InstanceVariable name span) = IsPlaced tokens span
    DoesNodeStand (Node-F.Constant name span) = IsPlaced tokens span
    DoesNodeStand (Node-F.TopConstant name name_span span) = IsPlaced tokens span × IsPlaced tokens name_span
    DoesNodeStand (Node-F.SelfWord span) = IsPlaced tokens span
    DoesNodeStand (Node-F.Nil span) = IsPlaced tokens span
    DoesNodeStand (Node-F.True span) = IsPlaced tokens span
    DoesNodeStand (Node-F.False span) = IsPlaced tokens span
    DoesNodeStand (Node-F.Name name span) = IsPlaced tokens span
    DoesNodeStand (Node-F.Call name name_span arguments block span) =
        IsPlaced tokens span × IsPlaced tokens name_span × IfThere (Each DoesArgumentStand) arguments × IfThere DoesBlockStand block
    DoesNodeStand (Node-F.Yield arguments span) = IsPlaced tokens span × IfThere (Each DoesArgumentStand) arguments
    DoesNodeStand (Node-F.Super arguments span) = IsPlaced tokens span × IfThere (Each DoesArgumentStand) arguments
    DoesNodeStand (Node-F.Array elements span) = IsPlaced tokens span × Each Stands elements
    DoesNodeStand (Node-F.Hash pairs span) = IsPlaced tokens span × Each DoesPairStand pairs
    DoesNodeStand (Node-F.Parens body span) = IsPlaced tokens span × Stands body
    DoesNodeStand (Node-F.If test condition body arms otherwise span) =
        IsPlaced tokens span × Stands condition × Stands body × Each DoesArmStand arms × IfThere Stands otherwise
    DoesNodeStand (Node-F.While test condition body span) = IsPlaced tokens span × Stands condition × Stands body
    DoesNodeStand (Node-F.Case subject arms otherwise span) =
        IsPlaced tokens span × IfThere Stands subject × Each DoesWhenStand arms × IfThere Stands otherwise
    DoesNodeStand (Node-F.Begin guarded span) = IsPlaced tokens span × DoesGuardedStand guarded
    DoesNodeStand (Node-F.Class path superclass body span) =
        IsPlaced tokens span × Each IsNamePlaced path × IfThere IsReferencePlaced superclass × Stands body
    DoesNodeStand (Node-F.Module path body span) = IsPlaced tokens span × Each IsNamePlaced path × Stands body
    DoesNodeStand (Node-F.Def visibility own name name_span parameters guarded span) =
        IsPlaced tokens span × IsPlaced tokens name_span × Each DoesParameterStand parameters × DoesGuardedStand guarded

  -- each node of the tree stands at the tokens
  unfoldable pub StandsAt : Tree → Type 0
  StandsAt = rec-Tree (Type 0) (Type 0) (λ N X node tree node_stands stands n. DoesNodeStand stands n) (λ N X node tree node_stands stands t. node_stands t.node)

-- a tree stands exactly where its node does, and the trees in it
abbrev pub TreesStandByNodes : Type 0
TreesStandByNodes = (tokens : List Token) (t : Tree) → StandsAt tokens t ↔ DoesNodeStand tokens (StandsAt tokens) (out-Node t.node)

-- The tree of a program stands at its tokens.
abbrev pub TreesStandAtTokens : Type 0
TreesStandAtTokens = (tokens : List Token) (t : Tree) → Derives tokens t → StandsAt tokens t
