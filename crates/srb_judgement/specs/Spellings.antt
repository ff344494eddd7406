-- Spellings: what a node is for the rules that ask how an expression is written.
use Rattle.std.specs.Prelude.{ℕ, Bool, true, false, List, [], ◌∷◌, codes, bytes_eq, if◌then◌else◌, Option, Some, None}
use Rattle.srb_terms.specs.declared.span.Span.{Span}
use Rattle.rb_tree.specs.Trees.{span_at}
use Rattle.rb_tree.specs.declared.syntax.Suffix.{Suffix}
use Rattle.rb_tree.specs.declared.syntax.Node.TheOpen.{Node-F}
use Rattle.srb_judgement.specs.Chains.{Chain, chain}
use Rattle.srb_judgement.specs.Languages.{Language}
use Rattle.srb_judgement.specs.Parts.{Part, Spelling, NameAlone, NilWord, ConstantPath, Other, Ending, EndsInName, EndsInInstanceVariable, EndsInConstant, EndsInCall, EndsInIndex, EndsInYield, EndsInSuper, EndsOtherwise, Standing, SigStatement, DeclaringCall, PlainStatement}

abbrev pub standing_named : List ℕ → Bool → Standing
standing_named name true = if bytes_eq name (codes "sig") then SigStatement else PlainStatement
standing_named name false =
    if bytes_eq name (codes "sig") then SigStatement
    else (if bytes_eq name (codes "include") then DeclaringCall
    else (if bytes_eq name (codes "extend") then DeclaringCall
    else (if bytes_eq name (codes "attr_reader") then DeclaringCall
    else (if bytes_eq name (codes "attr_writer") then DeclaringCall
    else (if bytes_eq name (codes "attr_accessor") then DeclaringCall else PlainStatement)))))

abbrev pub has_block : {B : Type 0} → Option B → Bool
has_block None = false
has_block (Some b) = true

module _ {T X : Type 0} where
  abbrev pub standing_by : Ending T X → Bool → Standing
  standing_by (EndsInName name span) b = standing_named name b
  standing_by (EndsInInstanceVariable name span) b = PlainStatement
  standing_by EndsInConstant b = PlainStatement
  standing_by (EndsInCall o how name span) b = PlainStatement
  standing_by (EndsInIndex o arguments span) b = PlainStatement
  standing_by EndsInYield b = PlainStatement
  standing_by EndsInSuper b = PlainStatement
  standing_by EndsOtherwise b = PlainStatement

  -- a call of `sig` and its kin is a whole direct statement: without a receiver, a modifier, and a block but that of `sig`
  abbrev pub standing_at : Node-F (Part T X) (Part T X) → Standing
  standing_at (Node-F.Name name span) = standing_named name false
  standing_at (Node-F.Call name place arguments b span) = standing_named name (has_block b)
  standing_at (Node-F.Command callee arguments b span) = standing_by callee.ending (has_block b)
  standing_at _ = PlainStatement

  abbrev pub is_empty_body : List (Part T X) → Bool
  is_empty_body [] = true
  is_empty_body (p ∷ rest) = false

  abbrev pub empty_at : Node-F (Part T X) (Part T X) → Bool
  empty_at (Node-F.Body statements span) = is_empty_body statements
  empty_at _ = false

  abbrev pub last_place : Span → List (Part T X) → Span
  last_place span [] = span
  last_place span (p ∷ rest) = last_place p.it.span rest

  abbrev pub last_at : Node-F (Part T X) (Part T X) → Span
  last_at (Node-F.Body statements span) = last_place span statements
  last_at n = span_at n

module _ {T X : Type 0} (L : Language T X) where
  -- an operand with its suffixes
  abbrev pub chain_at : Part T X → List (Suffix (Part T X)) → Chain T X
  chain_at receiver suffixes = chain L receiver.it suffixes

  abbrev pub spelling_at : Node-F (Part T X) (Part T X) → Spelling
  spelling_at (Node-F.Name name span) = NameAlone name
  spelling_at (Node-F.Nil span) = NilWord
  spelling_at (Node-F.Constant name span) = ConstantPath (name ∷ [])
  spelling_at (Node-F.TopConstant name name_span span) = ConstantPath ([] ∷ name ∷ [])
  spelling_at (Node-F.Post receiver suffixes span) = (chain_at receiver suffixes).it.spelling
  spelling_at _ = Other

  abbrev pub ending_at : Node-F (Part T X) (Part T X) → Ending T X
  ending_at (Node-F.Name name span) = EndsInName name span
  ending_at (Node-F.InstanceVariable name span) = EndsInInstanceVariable name span
  ending_at (Node-F.Constant name span) = EndsInConstant
  ending_at (Node-F.Post receiver suffixes span) = (chain_at receiver suffixes).ending
  ending_at (Node-F.Yield None span) = EndsInYield
  ending_at (Node-F.Super None span) = EndsInSuper
  ending_at _ = EndsOtherwise
