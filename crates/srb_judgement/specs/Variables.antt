-- Variables: which names a node assigns. "A variable: .. an assignment to it, begins earlier in the same body and, if that stands in a
-- block, the block encloses the identifier."
use Rattle.std.specs.Prelude.{ℕ, List, [], ◌∷◌, ◌++◌, Option, Some, None}
use Rattle.std.specs.List.{flat_map}
use Rattle.rb_tree.specs.declared.syntax.Argument.{Argument}
use Rattle.rb_tree.specs.declared.syntax.Argument.TheVariants as argument
use Rattle.rb_tree.specs.declared.syntax.Arm.{Arm}
use Rattle.rb_tree.specs.declared.syntax.Block.{Block}
use Rattle.rb_tree.specs.declared.syntax.Guarded.{Guarded}
use Rattle.rb_tree.specs.declared.syntax.Pair.{Pair}
use Rattle.rb_tree.specs.declared.syntax.Pair.TheVariants as pair
use Rattle.rb_tree.specs.declared.syntax.Piece.{Piece}
use Rattle.rb_tree.specs.declared.syntax.Piece.TheVariants as piece
use Rattle.rb_tree.specs.declared.syntax.Rescue.{Rescue}
use Rattle.rb_tree.specs.declared.syntax.Suffix.{Suffix}
use Rattle.rb_tree.specs.declared.syntax.Suffix.TheVariants as suffix
use Rattle.rb_tree.specs.declared.syntax.When.{When}
use Rattle.rb_tree.specs.declared.syntax.Node.TheOpen.{Node-F}
use Rattle.rb_views.specs.Calls.{arguments_of}
use Rattle.srb_judgement.specs.Guards.{caught_names}
use Rattle.srb_judgement.specs.Parts.{Operand, Part, Ending, EndsInName, EndsInInstanceVariable, EndsInConstant, EndsInCall, EndsInIndex, EndsInYield, EndsInSuper, EndsOtherwise}
use Rattle.srb_judgement.specs.Reaching.{condition}
use Rattle.srb_judgement.specs.Sequences.{body}

-- ---- the trees in a node

module _ {P : Type 0} where
  abbrev pub in_argument : Argument P → List P
  in_argument (argument.Positional value) = value ∷ []
  in_argument (argument.Keyword name span value) = value ∷ []
  in_argument (argument.Block span value) = value ∷ []

  abbrev pub in_pair : Pair P → List P
  in_pair (pair.Arrow key value) = key ∷ value ∷ []
  in_pair (pair.Label name span value) = value ∷ []

  abbrev pub in_piece : Piece P → List P
  in_piece (piece.Words words span) = []
  in_piece (piece.Code body span) = body ∷ []

  abbrev pub in_arm : Arm P → List P
  in_arm a = a.condition ∷ a.body ∷ []

  abbrev pub in_when : When P → List P
  in_when w = w.patterns ++ w.body ∷ []

  abbrev pub in_rescue : Rescue P → List P
  in_rescue r = r.patterns ++ r.body ∷ []

  abbrev pub if_any : Option P → List P
  if_any None = []
  if_any (Some p) = p ∷ []

  abbrev pub in_guarded : Guarded P → List P
  in_guarded g = g.body ∷ (flat_map in_rescue g.rescues ++ (if_any g.otherwise ++ if_any g.ensure))

module _ {T X : Type 0} where
  abbrev pub part_operand : Part T X → Operand T X
  part_operand p = p.it

  -- the names that `rescue` clauses assign
  abbrev pub all_caught : List (Rescue (Part T X)) → List (List ℕ)
  all_caught [] = []
  all_caught (r ∷ clauses) = caught_names r.variable ++ all_caught clauses

  -- the name that an assignment to this assigns
  abbrev pub target_names : Ending T X → List (List ℕ)
  target_names (EndsInName name span) = name ∷ []
  target_names (EndsInInstanceVariable name span) = []
  target_names EndsInConstant = []
  target_names (EndsInCall o how name span) = []
  target_names (EndsInIndex o arguments span) = []
  target_names EndsInYield = []
  target_names EndsInSuper = []
  target_names EndsOtherwise = []

  -- ---- the variables that a node assigns, by those of the trees in it and of the blocks in it

  abbrev pub block_names : (Option (Block (Part T X)) → List (List ℕ)) → Suffix (Part T X) → List (List ℕ)
  block_names in_block (suffix.Call how name name_span arguments b span) = in_block b
  block_names in_block (suffix.Constant name name_span span) = []
  block_names in_block (suffix.Index arguments span) = []

  abbrev pub suffix_arguments : Suffix (Part T X) → List (Part T X)
  suffix_arguments (suffix.Call how name name_span arguments b span) = flat_map in_argument (arguments_of arguments)
  suffix_arguments (suffix.Constant name name_span span) = []
  suffix_arguments (suffix.Index arguments span) = flat_map in_argument arguments

  abbrev pub in_no_block : Option (Block (Part T X)) → List (List ℕ)
  in_no_block b = []

  abbrev pub names_at : (Part T X → List (List ℕ)) → (Option (Block (Part T X)) → List (List ℕ)) → Node-F (Part T X) (Part T X) → List (List ℕ)
  names_at f in_block (Node-F.Body statements span) = flat_map f statements
  names_at f in_block (Node-F.Modified statement m condition span) = f statement ++ f condition
  names_at f in_block (Node-F.Jump word value span) = flat_map f (if_any value)
  names_at f in_block (Node-F.Assign target value span) = f target ++ (target_names target.ending ++ f value)
  names_at f in_block (Node-F.OperatorAssign target operator place value span) = f target ++ (target_names target.ending ++ f value)
  names_at f in_block (Node-F.Command callee arguments b span) = f callee ++ (flat_map f (flat_map in_argument arguments) ++ in_block b)
  names_at f in_block (Node-F.Conditional condition positive negative span) = f condition ++ (f positive ++ f negative)
  names_at f in_block (Node-F.Binary operator place left right span) = f left ++ f right
  names_at f in_block (Node-F.Unary operator operand span) = f operand
  names_at f in_block (Node-F.Post receiver suffixes span) =
      f receiver ++ (flat_map f (flat_map suffix_arguments suffixes) ++ flat_map (block_names in_block) suffixes)
  names_at f in_block (Node-F.Text pieces span) = flat_map f (flat_map in_piece pieces)
  names_at f in_block (Node-F.Call name place arguments b span) = flat_map f (flat_map in_argument (arguments_of arguments)) ++ in_block b
  names_at f in_block (Node-F.Yield arguments span) = flat_map f (flat_map in_argument (arguments_of arguments))
  names_at f in_block (Node-F.Super arguments span) = flat_map f (flat_map in_argument (arguments_of arguments))
  names_at f in_block (Node-F.Array elements span) = flat_map f elements
  names_at f in_block (Node-F.Hash pairs span) = flat_map f (flat_map in_pair pairs)
  names_at f in_block (Node-F.Parens inner span) = f inner
  names_at f in_block (Node-F.If which condition inner arms otherwise span) =
      f condition ++ (f inner ++ (flat_map f (flat_map in_arm arms) ++ flat_map f (if_any otherwise)))
  names_at f in_block (Node-F.While which condition inner span) = f condition ++ f inner
  names_at f in_block (Node-F.Case subject whens otherwise span) =
      flat_map f (if_any subject) ++ (flat_map f (flat_map in_when whens) ++ flat_map f (if_any otherwise))
  names_at f in_block (Node-F.Begin guarded span) = all_caught guarded.rescues ++ flat_map f (in_guarded guarded)
  names_at f in_block _ = []
