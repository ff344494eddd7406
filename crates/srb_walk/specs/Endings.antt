-- What stands at the end of an expression: what an assignment assigns to, and what a command calls.
use Rattle.std.specs.Prelude.{◌≡◌, ℕ, List, Option, Some, None}
use Rattle.srb_terms.specs.declared.span.Span.{Span}
use Rattle.rb_tree.specs.declared.syntax.Argument.{Argument}
use Rattle.rb_tree.specs.declared.syntax.Dot.{Dot}
use Rattle.rb_tree.specs.declared.syntax.Suffix.{Suffix}
use Rattle.rb_tree.specs.declared.syntax.Suffix.TheVariants as suffix
use Rattle.rb_tree.specs.declared.syntax.Tree.{Tree}
use Rattle.rb_tree.specs.declared.syntax.Node.{Node, out-Node}
use Rattle.rb_tree.specs.declared.syntax.Node.TheOpen.{Node-F}
use Rattle.rb_views.specs.Places.{open_bracket}
use Rattle.rb_views.specs.Prefixes.{Prefix, seen_prefix, last_suffix, without_last}
use Rattle.srb_judgement.specs.Chains.{chain, operands_of}
use Rattle.srb_judgement.specs.Judgements.{part_of}
use Rattle.srb_judgement.specs.Languages.{Language}
use Rattle.srb_judgement.specs.Parts.{Operand, Ending, EndsInName, EndsInInstanceVariable, EndsInConstant, EndsInCall, EndsInIndex, EndsInYield, EndsInSuper, EndsOtherwise}
use Rattle.srb_walk.specs.declared.ending.Ending as lent
use Rattle.srb_walk.specs.declared.ending.Ending.TheVariants as ends
use Rattle.srb_walk.specs.Known.{known_arguments, known_suffixes}

pub data End : Type 0 where
  -- a name and its place
  NameEnd : List ℕ → Span → End
  InstanceVariableEnd : List ℕ → Span → End
  ConstantEnd : End
  -- a call without brackets and block: the receiver, the dot, the name and its place
  CallEnd : Prefix → Dot → List ℕ → Span → End
  -- an index: the receiver, the arguments, and the place of the `[`
  IndexEnd : Prefix → List (Argument Tree) → Span → End
  YieldEnd : End
  SuperEnd : End
  OtherEnd : End

-- the end of a prefix with one more suffix
abbrev pub end_by : Prefix → Option (Suffix Tree) → End
end_by p (Some (suffix.Call how name name_span None None span)) = CallEnd p how name name_span
end_by p (Some (suffix.Index arguments span)) = IndexEnd p arguments (open_bracket span)
end_by p _ = OtherEnd

-- the end of an operand with these suffixes
abbrev pub end_last : Prefix → End
end_last p = end_by (without_last p) (last_suffix p.suffixes)

abbrev pub end_at : Node-F Node Tree → End
end_at (Node-F.Name name span) = NameEnd name span
end_at (Node-F.InstanceVariable name span) = InstanceVariableEnd name span
end_at (Node-F.Constant name span) = ConstantEnd
end_at (Node-F.Post receiver suffixes span) = end_last (record { operand = receiver; suffixes = suffixes })
end_at (Node-F.Yield None span) = YieldEnd
end_at (Node-F.Super None span) = SuperEnd
end_at _ = OtherEnd

-- what stands at the end of a tree
unfoldable pub end_of : Tree → End
end_of t = end_at (out-Node t.node)

-- what a lent end is
abbrev pub seen_end : lent.Ending → End
seen_end (ends.Name name span) = NameEnd name.now span
seen_end (ends.InstanceVariable name span) = InstanceVariableEnd name.now span
seen_end ends.Constant = ConstantEnd
seen_end (ends.Call receiver dot name name_span) = CallEnd (seen_prefix receiver) dot name.now name_span
seen_end (ends.Index receiver arguments bracket) = IndexEnd (seen_prefix receiver) arguments.now bracket
seen_end ends.Yield = YieldEnd
seen_end ends.Super = SuperEnd
seen_end ends.Other = OtherEnd

-- ---- what the judgement knows of ends

module _ {T X : Type 0} (L : Language T X) where
  -- a prefix as an operand
  abbrev pub prefix_operand : Prefix → Operand T X
  prefix_operand p = (chain L (part_of L p.operand).it (known_suffixes L p.suffixes)).it

  abbrev pub known_end : End → Ending T X
  known_end (NameEnd name span) = EndsInName name span
  known_end (InstanceVariableEnd name span) = EndsInInstanceVariable name span
  known_end ConstantEnd = EndsInConstant
  known_end (CallEnd receiver how name name_span) = EndsInCall (prefix_operand receiver) how name name_span
  known_end (IndexEnd receiver arguments bracket) = EndsInIndex (prefix_operand receiver) (operands_of (known_arguments L arguments)) bracket
  known_end YieldEnd = EndsInYield
  known_end SuperEnd = EndsInSuper
  known_end OtherEnd = EndsOtherwise

-- the ending of a tree is told by how it is written, and by what is known of the trees in it
abbrev pub EndsAsWritten : Type 0 → Type 0 → Type 0
EndsAsWritten T X = (L : Language T X) (t : Tree) → (part_of L t).ending ≡ known_end L (end_of t)
