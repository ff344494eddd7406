-- Outlines read back: the tree without places that an outline is one of, or the part of a tree.
use Rattle.std.proofs.Common.{◌≡◌, ℕ, Bool, List, [], ◌∷◌, map, Option, Some, None, codes}
use Rattle.srb_terms.specs.declared.param_kind.ParamKind.{ParamKind}
use Rattle.srb_terms.specs.declared.outline.Outline.{Outline, fold-Outline}
use Rattle.srb_terms.specs.declared.outline.Outline.TheFolds.{fold-roll-Outline}
use Rattle.srb_terms.specs.declared.outline.NodeKind.{NodeKind}
use Rattle.srb_terms.specs.declared.outline.NodeKind.TheVariants as kind
use Rattle.rb_tree.specs.declared.syntax.Tree.{Tree}
use Rattle.rb_tree.specs.declared.syntax.Node.{Node}
use Rattle.rb_tree.specs.declared.syntax.Node.TheOpen.{Node-F}
use Rattle.rb_tree.specs.declared.syntax.Node.TheViews.{roll-Node}
use Rattle.rb_tree.specs.declared.syntax.Sign.{Sign}
use Rattle.rb_tree.specs.declared.syntax.Dot.TheVariants as dot
use Rattle.rb_tree.specs.declared.syntax.Visibility.{Visibility}
use Rattle.rb_tree.specs.declared.syntax.Suffix.{Suffix}
use Rattle.rb_tree.specs.declared.syntax.Suffix.TheVariants as suffix
use Rattle.rb_tree.specs.declared.syntax.Argument.{Argument}
use Rattle.rb_tree.specs.declared.syntax.Argument.TheVariants as argument
use Rattle.rb_tree.specs.declared.syntax.Block.{Block}
use Rattle.rb_tree.specs.declared.syntax.Piece.{Piece}
use Rattle.rb_tree.specs.declared.syntax.Piece.TheVariants as piece
use Rattle.rb_tree.specs.declared.syntax.Pair.{Pair}
use Rattle.rb_tree.specs.declared.syntax.Pair.TheVariants as pair
use Rattle.rb_tree.specs.declared.syntax.Arm.{Arm}
use Rattle.rb_tree.specs.declared.syntax.When.{When}
use Rattle.rb_tree.specs.declared.syntax.PlacedName.{PlacedName}
use Rattle.rb_tree.specs.declared.syntax.Reference.{Reference}
use Rattle.rb_tree.specs.declared.syntax.Parameter.{Parameter}
use Rattle.rb_tree.specs.declared.syntax.Guarded.{Guarded}
use Rattle.rb_tree.specs.declared.syntax.Rescue.{Rescue}
use Rattle.rb_outline.specs.Outlines.{outline}
use Rattle.rb_outline_laws.specs.Unplaced.{nowhere}
use Rattle.rb_outline_laws.proofs.Spelled.{after, modifier_in, jump_in, if_in, while_in, sign_in, unary_in, binary_in, top_in, visibility_in, own_in, param_in}

-- what an outline is one of; a tree comes with the words of its label
pub data Reading : Type 0 where
  a_tree : List ℕ → Tree → Reading
  a_sign : Sign → Reading
  an_argument : Argument Tree → Reading
  brackets : List (Argument Tree) → Reading
  a_block : Block Tree → Reading
  a_suffix : Suffix Tree → Reading
  a_piece : Piece Tree → Reading
  a_pair : Pair Tree → Reading
  an_arm : Arm Tree → Reading
  a_when : When Tree → Reading
  an_else : Tree → Reading
  a_rescue : Rescue Tree → Reading
  an_ensure : Tree → Reading
  a_parameter : Parameter Tree → Reading
  a_superclass : Reference → Reading
  nothing_known : Reading

-- the tree of a node
abbrev pub made : Node-F Node Tree → Tree
made x = record { node = roll-Node x }

-- the tree that was read, and another where it was none
abbrev pub tree_in : Reading → Tree
tree_in (a_tree words t) = t
tree_in _ = made (Node-F.Nil nowhere)

-- ---- one part

abbrev pub tree_if : Reading → Option Tree
tree_if (a_tree words t) = Some t
tree_if _ = None

abbrev pub name_if : Reading → Option PlacedName
name_if (a_tree words t) = Some (record { name = words; span = nowhere })
name_if _ = None

abbrev pub sign_if : Reading → Option Sign
sign_if (a_sign s) = Some s
sign_if _ = None

abbrev pub argument_if : Reading → Option (Argument Tree)
argument_if (a_tree words t) = Some (argument.Positional t)
argument_if (an_argument a) = Some a
argument_if _ = None

abbrev pub brackets_if : Reading → Option (List (Argument Tree))
brackets_if (brackets xs) = Some xs
brackets_if _ = None

abbrev pub block_if : Reading → Option (Block Tree)
block_if (a_block b) = Some b
block_if _ = None

abbrev pub suffix_if : Reading → Option (Suffix Tree)
suffix_if (a_suffix s) = Some s
suffix_if _ = None

abbrev pub piece_if : Reading → Option (Piece Tree)
piece_if (a_piece p) = Some p
piece_if _ = None

abbrev pub pair_if : Reading → Option (Pair Tree)
pair_if (a_pair p) = Some p
pair_if _ = None

abbrev pub arm_if : Reading → Option (Arm Tree)
arm_if (an_arm a) = Some a
arm_if _ = None

abbrev pub when_if : Reading → Option (When Tree)
when_if (a_when w) = Some w
when_if _ = None

abbrev pub else_if : Reading → Option Tree
else_if (an_else t) = Some t
else_if _ = None

abbrev pub rescue_if : Reading → Option (Rescue Tree)
rescue_if (a_rescue r) = Some r
rescue_if _ = None

abbrev pub ensure_if : Reading → Option Tree
ensure_if (an_ensure t) = Some t
ensure_if _ = None

abbrev pub parameter_if : Reading → Option (Parameter Tree)
parameter_if (a_parameter p) = Some p
parameter_if _ = None

abbrev pub superclass_if : Reading → Option Reference
superclass_if (a_superclass r) = Some r
superclass_if _ = None

-- ---- several parts

-- the first part, and the others
abbrev pub first : List Reading → Reading
first [] = nothing_known
first (r ∷ rs) = r

abbrev pub later : List Reading → List Reading
later [] = []
later (r ∷ rs) = rs

-- the first of a kind
abbrev pub or_else : {A : Type 0} → Option A → Option A → Option A
or_else None others = others
or_else (Some x) others = Some x

abbrev pub found : {A : Type 0} → (Reading → Option A) → List Reading → Option A
found p [] = None
found p (r ∷ rs) = or_else (p r) (found p rs)

-- those of a kind at the start, and what follows
abbrev pub one_taken : {A : Type 0} → Reading → List Reading → Option A → List A × List Reading → List A × List Reading
one_taken r rs None others = ([], r ∷ rs)
one_taken r rs (Some x) others = (x ∷ others.0, others.1)

unfoldable pub taken : {A : Type 0} → (Reading → Option A) → List Reading → List A × List Reading
taken p [] = ([], [])
taken p (r ∷ rs) = one_taken r rs (p r) (taken p rs)

-- all but the last, and the last
abbrev pub with_first : Reading → List Reading × Reading → List Reading × Reading
with_first r s = (r ∷ s.0, s.1)

unfoldable pub split_from : Reading → List Reading → List Reading × Reading
split_from r [] = ([], r)
split_from r (s ∷ rs) = with_first r (split_from s rs)

unfoldable pub split_last : List Reading → List Reading × Reading
split_last [] = ([], nothing_known)
split_last (r ∷ rs) = split_from r rs

-- ---- what is made of several parts

abbrev pub block_from : List Reading × Reading → Block Tree
block_from s = record { parameters = (taken name_if s.0).0; body = tree_in s.1; span = nowhere }

abbrev pub when_from : List Reading × Reading → When Tree
when_from s = record { patterns = (taken tree_if s.0).0; body = tree_in s.1 }

abbrev pub variable_from : Option (List ℕ) → Option PlacedName
variable_from None = None
variable_from (Some name) = Some (record { name = name; span = nowhere })

abbrev pub variable_in : List ℕ → Option PlacedName
variable_in words = variable_from (after (codes "=> ") words)

abbrev pub rescue_from : Option PlacedName → List Reading × Reading → Rescue Tree
rescue_from variable s = record { patterns = (taken tree_if s.0).0; variable = variable; body = tree_in s.1 }

abbrev pub parameter_from : ParamKind × List ℕ → Option Tree → Parameter Tree
parameter_from label default = record { kind = label.0; name = label.1; span = nowhere; default = default }

abbrev pub guarded_from : Tree → List (Rescue Tree) × List Reading → Guarded Tree
guarded_from body t = record { body = body; rescues = t.0; otherwise = found else_if t.1; ensure = found ensure_if t.1 }

abbrev pub guarded_in : List Reading → Guarded Tree
guarded_in ps = guarded_from (tree_in (first ps)) (taken rescue_if (later ps))

abbrev pub value_if : List Reading → Option Tree
value_if [] = None
value_if (r ∷ rs) = Some (tree_in r)

abbrev pub unary_from : List ℕ → List Reading → Reading
unary_from words [] = a_sign (sign_in words)
unary_from words (r ∷ rs) = a_tree words (made (Node-F.Unary (unary_in words) (tree_in r) nowhere))

abbrev pub command_from : Tree → List (Argument Tree) × List Reading → Tree
command_from callee t = made (Node-F.Command callee t.0 (found block_if t.1) nowhere)

abbrev pub if_from : List ℕ → Tree → Tree → List (Arm Tree) × List Reading → Tree
if_from words condition body t = made (Node-F.If (if_in words) condition body t.0 (found else_if t.1) nowhere)

abbrev pub subject_from : List Tree → Option Tree
subject_from [] = None
subject_from (t ∷ ts) = Some t

abbrev pub case_from : Option Tree → List (When Tree) × List Reading → Tree
case_from subject t = made (Node-F.Case subject t.0 (found else_if t.1) nowhere)

abbrev pub case_in : List Tree × List Reading → Tree
case_in s = case_from (subject_from s.0) (taken when_if s.1)

abbrev pub class_from : List PlacedName × List Reading → Tree → Tree
class_from t body = made (Node-F.Class t.0 (found superclass_if t.1) body nowhere)

abbrev pub class_in : List Reading × Reading → Tree
class_in s = class_from (taken name_if s.0) (tree_in s.1)

abbrev pub module_in : List Reading × Reading → Tree
module_in s = made (Node-F.Module (taken name_if s.0).0 (tree_in s.1) nowhere)

abbrev pub def_from : Option Visibility × List ℕ → Bool × List ℕ → List (Parameter Tree) → Guarded Tree → Tree
def_from v o parameters guarded = made (Node-F.Def v.0 o.0 o.1 nowhere parameters guarded nowhere)

abbrev pub def_in : List ℕ → List (Parameter Tree) × List Reading → Tree
def_in words t = def_from (visibility_in words) (own_in (visibility_in words).1) t.0 (guarded_in t.1)

-- what an outline is one of, by its label and what its parts are
abbrev pub reading_of : NodeKind → List ℕ → List Reading → Reading
reading_of kind.Body words ps = a_tree words (made (Node-F.Body (taken tree_if ps).0 nowhere))
reading_of kind.Modified words ps = a_tree words (made (Node-F.Modified (tree_in (first ps)) (modifier_in words) (tree_in (first (later ps))) nowhere))
reading_of kind.Jump words ps = a_tree words (made (Node-F.Jump (jump_in words) (value_if ps) nowhere))
reading_of kind.Assign words ps = a_tree words (made (Node-F.Assign (tree_in (first ps)) (tree_in (first (later ps))) nowhere))
reading_of kind.OperatorAssign words ps =
    a_tree words (made (Node-F.OperatorAssign (tree_in (first ps)) (binary_in words) nowhere (tree_in (first (later ps))) nowhere))
reading_of kind.Command words ps = a_tree words (command_from (tree_in (first ps)) (taken argument_if (later ps)))
reading_of kind.Conditional words ps =
    a_tree words (made (Node-F.Conditional (tree_in (first ps)) (tree_in (first (later ps))) (tree_in (first (later (later ps)))) nowhere))
reading_of kind.Binary words ps = a_tree words (made (Node-F.Binary (binary_in words) nowhere (tree_in (first ps)) (tree_in (first (later ps))) nowhere))
reading_of kind.Unary words ps = unary_from words ps
reading_of kind.Post words ps = a_tree words (made (Node-F.Post (tree_in (first ps)) (taken suffix_if (later ps)).0 nowhere))
reading_of kind.Whole words ps = a_tree words (made (Node-F.Whole (found sign_if ps) words nowhere))
reading_of kind.Float words ps = a_tree words (made (Node-F.Float (found sign_if ps) words nowhere))
reading_of kind.Text words ps = a_tree words (made (Node-F.Text (taken piece_if ps).0 nowhere))
reading_of kind.Symbol words ps = a_tree words (made (Node-F.Symbol words nowhere))
reading_of kind.InstanceVariable words ps = a_tree words (made (Node-F.InstanceVariable words nowhere))
reading_of kind.Constant words ps = a_tree words (made (Node-F.Constant words nowhere))
reading_of kind.TopConstant words ps = a_tree words (made (Node-F.TopConstant words nowhere nowhere))
reading_of kind.SelfWord words ps = a_tree words (made (Node-F.SelfWord nowhere))
reading_of kind.Nil words ps = a_tree words (made (Node-F.Nil nowhere))
reading_of kind.True words ps = a_tree words (made (Node-F.True nowhere))
reading_of kind.False words ps = a_tree words (made (Node-F.False nowhere))
reading_of kind.Name words ps = a_tree words (made (Node-F.Name words nowhere))
reading_of kind.Call words ps = a_tree words (made (Node-F.Call words nowhere (found brackets_if ps) (found block_if ps) nowhere))
reading_of kind.Yield words ps = a_tree words (made (Node-F.Yield (found brackets_if ps) nowhere))
reading_of kind.Super words ps = a_tree words (made (Node-F.Super (found brackets_if ps) nowhere))
reading_of kind.Array words ps = a_tree words (made (Node-F.Array (taken tree_if ps).0 nowhere))
reading_of kind.Hash words ps = a_tree words (made (Node-F.Hash (taken pair_if ps).0 nowhere))
reading_of kind.Parens words ps = a_tree words (made (Node-F.Parens (tree_in (first ps)) nowhere))
reading_of kind.If words ps = a_tree words (if_from words (tree_in (first ps)) (tree_in (first (later ps))) (taken arm_if (later (later ps))))
reading_of kind.While words ps = a_tree words (made (Node-F.While (while_in words) (tree_in (first ps)) (tree_in (first (later ps))) nowhere))
reading_of kind.Case words ps = a_tree words (case_in (taken tree_if ps))
reading_of kind.Begin words ps = a_tree words (made (Node-F.Begin (guarded_in ps) nowhere))
reading_of kind.Class words ps = a_tree words (class_in (split_last ps))
reading_of kind.Module words ps = a_tree words (module_in (split_last ps))
reading_of kind.Def words ps = a_tree words (def_in words (taken parameter_if ps))
reading_of kind.Brackets words ps = brackets (taken argument_if ps).0
reading_of kind.Block words ps = a_block (block_from (split_last ps))
reading_of kind.SuffixCall words ps = a_suffix (suffix.Call dot.Plain words nowhere (found brackets_if ps) (found block_if ps) nowhere)
reading_of kind.SafeCall words ps = a_suffix (suffix.Call dot.Safe words nowhere (found brackets_if ps) (found block_if ps) nowhere)
reading_of kind.SuffixConstant words ps = a_suffix (suffix.Constant words nowhere nowhere)
reading_of kind.Index words ps = a_suffix (suffix.Index (taken argument_if ps).0 nowhere)
reading_of kind.Keyword words ps = an_argument (argument.Keyword words nowhere (tree_in (first ps)))
reading_of kind.BlockArgument words ps = an_argument (argument.Block nowhere (tree_in (first ps)))
reading_of kind.Piece words ps = a_piece (piece.Words words nowhere)
reading_of kind.Code words ps = a_piece (piece.Code (tree_in (first ps)) nowhere)
reading_of kind.ArrowPair words ps = a_pair (pair.Arrow (tree_in (first ps)) (tree_in (first (later ps))))
reading_of kind.LabelPair words ps = a_pair (pair.Label words nowhere (tree_in (first ps)))
reading_of kind.Elsif words ps = an_arm (record { condition = tree_in (first ps); body = tree_in (first (later ps)) })
reading_of kind.When words ps = a_when (when_from (split_last ps))
reading_of kind.Else words ps = an_else (tree_in (first ps))
reading_of kind.Rescue words ps = a_rescue (rescue_from (variable_in words) (split_last ps))
reading_of kind.Ensure words ps = an_ensure (tree_in (first ps))
reading_of kind.Parameter words ps = a_parameter (parameter_from (param_in words) (value_if ps))
reading_of kind.Superclass words ps = a_superclass (record { top = top_in words; path = (taken name_if ps).0; span = nowhere })

-- an outline, read
pub read : Outline → Reading
read = fold-Outline Reading (λ o. reading_of o.label.kind o.label.words o.parts)

pub read-is : (k : NodeKind) (words : List ℕ) (parts : List Outline) → read (outline k words parts) ≡ reading_of k words (map read parts)
unfolding read
read-is k words parts = fold-roll-Outline Reading (λ o. reading_of o.label.kind o.label.words o.parts) (record { label = record { kind = k; words = words }; parts = parts })
