-- How the parts of a program are read that may hold constant references. A part is read in one of a few readings; the reading of a node
-- says which of its parts are read next, and how. What isn't read is a constant that stands for no reference of its own: one that is
-- assigned to, and one with which a path begins.
use Rattle.std.specs.Prelude.{ℕ, Bool, true, false, not, ◌&&◌, List, [], ◌∷◌, ◌++◌, map, codes, bytes_eq, if◌then◌else◌, Option, Some, None}
use Rattle.std.specs.List.{flat_map, list_all}
use Rattle.std.specs.Option.{is_some}
use Rattle.rb_tree.specs.declared.syntax.Argument.{Argument}
use Rattle.rb_tree.specs.declared.syntax.Argument.TheVariants as argument
use Rattle.rb_tree.specs.declared.syntax.Arm.{Arm}
use Rattle.rb_tree.specs.declared.syntax.Block.{Block}
use Rattle.rb_tree.specs.declared.syntax.Dot.{Dot}
use Rattle.rb_tree.specs.declared.syntax.Dot.TheVariants as dot
use Rattle.rb_tree.specs.declared.syntax.Guarded.{Guarded}
use Rattle.rb_tree.specs.declared.syntax.Pair.{Pair}
use Rattle.rb_tree.specs.declared.syntax.Pair.TheVariants as pair
use Rattle.rb_tree.specs.declared.syntax.Parameter.{Parameter}
use Rattle.rb_tree.specs.declared.syntax.Piece.{Piece}
use Rattle.rb_tree.specs.declared.syntax.Piece.TheVariants as piece
use Rattle.rb_tree.specs.declared.syntax.Rescue.{Rescue}
use Rattle.rb_tree.specs.declared.syntax.Suffix.{Suffix}
use Rattle.rb_tree.specs.declared.syntax.Suffix.TheVariants as suffix
use Rattle.rb_tree.specs.declared.syntax.Tree.{Tree}
use Rattle.rb_tree.specs.declared.syntax.When.{When}
use Rattle.rb_tree.specs.declared.syntax.Node.{out-Node}
use Rattle.rb_tree.specs.declared.syntax.Node.TheOpen.{Node-F}
use Rattle.rb_views.specs.Calls.{arguments_of}
use Rattle.rb_views.specs.Targets as targets
use Rattle.rb_views.specs.Targets.{callee_of}
use Rattle.srb_declarations.specs.Declarations.{declared_name, mixin_named}
use Rattle.srb_references.specs.declared.reading.Reading.{Reading}
use Rattle.srb_references.specs.declared.reading.Reading.TheVariants as reading
use Rattle.srb_references.specs.declared.reading.Taken.{Taken}
use Rattle.srb_references.specs.declared.reading.Taken.TheVariants as taken
use Rattle.srb_references.specs.declared.type_form.TypeForm.{TypeForm}
use Rattle.srb_references.specs.declared.type_form.TypeForm.TheVariants as form
use Rattle.srb_references.specs.TypeForms.{begins_path, is_t, post_form}

-- A part that is read: how, in which scope, and what stands there. A scope is the list of the full names of the enclosing class and
-- module bodies, the innermost first.
pub record Visit (X : Type 0) : Type 0 where
  pub reading : Reading
  pub scope : List (List ℕ)
  pub part : X

abbrev pub visit : {X : Type 0} → Reading → List (List ℕ) → X → Visit X
visit m scope x = record { reading = m; scope = scope; part = x }

-- ---- tests on trees

abbrev pub is_name_of_constant : {X Y : Type 0} → Node-F X Y → Bool
is_name_of_constant (Node-F.Constant name span) = true
is_name_of_constant _ = false

-- whether a tree is a constant without `::`
unfoldable pub is_constant : Tree → Bool
is_constant t = is_name_of_constant (out-Node t.node)

-- whether a prefix is the constant `T` alone
abbrev pub is_t_alone : Tree → List (Suffix Tree) → Bool
is_t_alone operand [] = is_t operand
is_t_alone operand _ = false

abbrev pub is_plain_dot : Dot → Bool
is_plain_dot dot.Plain = true
is_plain_dot dot.Safe = false

-- ---- the arguments of calls

-- whether a call by this dot, of this name, with or without a block, asserts a type, where it is on `T` or not: it is `T.let` or `T.cast`
abbrev pub asserts : Bool → Dot → List ℕ → Bool → Bool
asserts on_t how name block =
    if on_t && is_plain_dot how && not block then (if bytes_eq name (codes "let") then true else bytes_eq name (codes "cast")) else false

-- of a call of a signature's chain: what `returns` has by place and what `params` has by name are types
abbrev pub taken_in_chain : List ℕ → Taken
taken_in_chain name =
    if bytes_eq name (codes "returns") then taken.TypesByPlace
    else (if bytes_eq name (codes "params") then taken.TypesByName else taken.All)

-- of a call by its name alone
abbrev pub taken_by_name : Reading → List ℕ → Taken
taken_by_name reading.Chain name = taken_in_chain name
taken_by_name _ name = taken.All

-- of a call on a receiver, which may be `T`
abbrev pub taken_on : Reading → Bool → Dot → List ℕ → Bool → Taken
taken_on m on_t how name block = if asserts on_t how name block then taken.SecondIsType else taken_by_name m name

-- whether suffixes are calls alone
abbrev pub is_call : {X : Type 0} → Suffix X → Bool
is_call (suffix.Call how name name_span arguments block span) = true
is_call _ = false

-- of what suffixes make: in a signature's chain there are calls alone
abbrev pub row_reading : {X : Type 0} → Reading → List (Suffix X) → Reading
row_reading reading.Chain suffixes = if list_all is_call suffixes then reading.Chain else reading.Plain
row_reading m suffixes = m

-- of a call on `self`, with or without a block: as a direct statement of a class or module body it may be `include` or `extend`
abbrev pub taken_by_self : Reading → List ℕ → Bool → Taken
taken_by_self reading.Direct name false = if is_some (mixin_named name) then taken.Mixins else taken.All
taken_by_self m name _ = taken_by_name m name

-- of a command that calls this, with or without a block
abbrev pub taken_by_callee : Reading → Option targets.Callee → Bool → Taken
taken_by_callee m (Some (targets.Name name span)) block = taken_by_self m name block
taken_by_callee m (Some (targets.Call prefix how name span)) block =
    taken_on (row_reading m prefix.suffixes) (is_t_alone prefix.operand prefix.suffixes) how name block
taken_by_callee m _ block = taken.All

-- of what a type expression of this form has in it; None where the form has no such arguments, or isn't one
abbrev pub taken_of_form : TypeForm → Option Taken
taken_of_form form.Path = None
taken_of_form form.Other = None
taken_of_form form.ClassOf = Some taken.ClassNames
taken_of_form _ = Some taken.Types

-- the same, where it is read as a type expression
abbrev pub taken_in_type : Reading → TypeForm → Option Taken
taken_in_type reading.TypeExpression f = taken_of_form f
taken_in_type _ f = None

-- how an argument by its place is read
abbrev pub positional_reading : Taken → Reading
positional_reading taken.Mixins = reading.Mixin
positional_reading taken.Types = reading.TypeExpression
positional_reading taken.TypesByPlace = reading.TypeExpression
positional_reading taken.ClassNames = reading.ClassName
positional_reading _ = reading.Plain

-- how a keyword argument is read
abbrev pub keyword_reading : Taken → Reading
keyword_reading taken.Types = reading.TypeExpression
keyword_reading taken.TypesByName = reading.TypeExpression
keyword_reading _ = reading.Plain

-- ---- the readings of other parts

-- of the block of a call on `self`: `sig` holds a signature where it is a direct statement of a class or module body
abbrev pub block_by_self : Reading → List ℕ → Reading
block_by_self reading.Direct name = if bytes_eq name (codes "sig") then reading.SigBody else reading.Plain
block_by_self _ name = reading.Plain

-- of the block of a command
abbrev pub block_by_callee : Reading → Option targets.Callee → Reading
block_by_callee m (Some (targets.Name name span)) = block_by_self m name
block_by_callee m _ = reading.Plain

abbrev pub is_single : {X : Type 0} → List X → Bool
is_single (x ∷ []) = true
is_single _ = false

-- of the statements of a body, by whether there is a single one: the block of a signature holds one where it is its only statement
abbrev pub statement_reading : Reading → Bool → Reading
statement_reading reading.Inner single = reading.Direct
statement_reading reading.SigBody true = reading.Chain
statement_reading _ single = reading.Plain

-- of what a call is on: a call of a signature's chain may be on the one before
abbrev pub inner_reading : Reading → Reading
inner_reading reading.Chain = reading.Chain
inner_reading _ = reading.Plain

-- of what suffixes stand after; None for a constant, which belongs to the path that begins with it
abbrev pub receiver_reading : Reading → Tree → Option Reading
receiver_reading m receiver = if begins_path receiver then None else Some (inner_reading m)

-- of what is assigned to; None for a constant, which is declared there and is no reference
abbrev pub target_reading : Tree → Option Reading
target_reading target = if is_constant target then None else Some reading.Plain

-- ---- rows

-- in one scope
module _ {X : Type 0} (scope : List (List ℕ)) where
  abbrev pub plain : X → Visit X
  plain x = visit reading.Plain scope x

  -- what may be left out
  abbrev pub if_any : Option X → List (Visit X)
  if_any None = []
  if_any (Some x) = plain x ∷ []

  -- a part by its reading, where it has one
  abbrev pub part_if : Option Reading → X → List (Visit X)
  part_if None x = []
  part_if (Some m) x = visit m scope x ∷ []

  -- the value of an argument
  abbrev pub argument_parts : Taken → Argument X → List (Visit X)
  argument_parts how (argument.Positional value) = visit (positional_reading how) scope value ∷ []
  argument_parts how (argument.Keyword name span value) = visit (keyword_reading how) scope value ∷ []
  argument_parts how (argument.Block span value) = plain value ∷ []

  -- the values of arguments
  abbrev pub row_parts : Taken → List (Argument X) → List (Visit X)
  row_parts how arguments = flat_map (argument_parts how) arguments

  abbrev pub arguments_parts : Taken → List (Argument X) → List (Visit X)
  arguments_parts taken.SecondIsType (argument.Positional value ∷ argument.Positional type ∷ []) = plain value ∷ visit reading.TypeExpression scope type ∷ []
  arguments_parts how arguments = row_parts how arguments

  -- the body of a block
  abbrev pub block_parts : Reading → Option (Block X) → List (Visit X)
  block_parts m None = []
  block_parts m (Some block) = visit m scope block.body ∷ []

  -- the arguments and the block of a call
  abbrev pub call_parts : Taken → List (Argument X) → Reading → Option (Block X) → List (Visit X)
  call_parts how arguments m block = arguments_parts how arguments ++ block_parts m block

  -- a suffix, which may be a call on `T`
  abbrev pub suffix_parts : Reading → Bool → Suffix X → List (Visit X)
  suffix_parts m on_t (suffix.Call how name name_span arguments block span) =
      call_parts (taken_on m on_t how name (is_some block)) (arguments_of arguments) reading.Plain block
  suffix_parts m on_t (suffix.Constant name name_span span) = []
  suffix_parts m on_t (suffix.Index arguments span) = row_parts taken.All arguments

  -- a row of suffixes, the first of which may be a call on `T`
  abbrev pub suffixes_parts : Reading → Bool → List (Suffix X) → List (Visit X)
  suffixes_parts m on_t [] = []
  suffixes_parts m on_t (s ∷ rest) = suffix_parts m on_t s ++ suffixes_parts m false rest

  -- the arguments of a suffix of a type expression's form
  abbrev pub form_suffix_parts : Taken → Suffix X → List (Visit X)
  form_suffix_parts how (suffix.Call dotted name name_span arguments block span) = row_parts how (arguments_of arguments)
  form_suffix_parts how (suffix.Constant name name_span span) = []
  form_suffix_parts how (suffix.Index arguments span) = row_parts how arguments

  -- an operand with suffixes, the operand by its tree; as a type expression of a form, where it is read as one, it has the arguments alone
  abbrev pub post_parts : Option Taken → Reading → Tree → X → List (Suffix X) → List (Visit X)
  post_parts (Some how) m operand receiver suffixes = flat_map (form_suffix_parts how) suffixes
  post_parts None m operand receiver suffixes = part_if (receiver_reading m operand) receiver ++ suffixes_parts m (is_t operand) suffixes

  -- what stands between the `#{` and the `}` of a string
  abbrev pub piece_parts : Piece X → List (Visit X)
  piece_parts (piece.Words words span) = []
  piece_parts (piece.Code body span) = plain body ∷ []

  abbrev pub pair_parts : Pair X → List (Visit X)
  pair_parts (pair.Arrow key value) = plain key ∷ plain value ∷ []
  pair_parts (pair.Label name span value) = plain value ∷ []

  abbrev pub arm_parts : Arm X → List (Visit X)
  arm_parts a = plain a.condition ∷ plain a.body ∷ []

  abbrev pub when_parts : When X → List (Visit X)
  when_parts w = map plain w.patterns ++ plain w.body ∷ []

  abbrev pub rescue_parts : Rescue X → List (Visit X)
  rescue_parts r = map plain r.patterns ++ plain r.body ∷ []

  abbrev pub guarded_parts : Guarded X → List (Visit X)
  guarded_parts g = plain g.body ∷ (flat_map rescue_parts g.rescues ++ (if_any g.otherwise ++ if_any g.ensure))

  abbrev pub parameter_parts : Parameter X → List (Visit X)
  parameter_parts p = if_any p.default

  -- the body of a class or module, whose scope has in front the full name that is declared
  abbrev pub body_parts : List ℕ → X → List (Visit X)
  body_parts name body = visit reading.Inner (name ∷ scope) body ∷ []

-- ---- nodes

-- the parts of a node that are read, in the order of the text, by the reading and the scope of the node. `it` is the tree of a part
module _ {X : Type 0} (it : X → Tree) (m : Reading) (scope : List (List ℕ)) where
  abbrev pub parts : {N : Type 0} → Node-F N X → List (Visit X)
  parts (Node-F.Body statements span) = map (visit (statement_reading m (is_single statements)) scope) statements
  parts (Node-F.Modified statement modifier condition span) = plain scope statement ∷ plain scope condition ∷ []
  parts (Node-F.Jump jump value span) = if_any scope value
  parts (Node-F.Assign target value span) = part_if scope (target_reading (it target)) target ++ plain scope value ∷ []
  parts (Node-F.OperatorAssign target operator operator_span value span) = plain scope target ∷ plain scope value ∷ []
  parts (Node-F.Command callee arguments block span) =
      visit (inner_reading m) scope callee
      ∷ call_parts scope (taken_by_callee m (callee_of (it callee)) (is_some block)) arguments (block_by_callee m (callee_of (it callee))) block
  parts (Node-F.Conditional condition positive negative span) = plain scope condition ∷ plain scope positive ∷ plain scope negative ∷ []
  parts (Node-F.Binary operator operator_span left right span) = plain scope left ∷ plain scope right ∷ []
  parts (Node-F.Unary operator operand span) = plain scope operand ∷ []
  parts (Node-F.Post receiver suffixes span) =
      post_parts scope (taken_in_type m (post_form it receiver suffixes)) (row_reading m suffixes) (it receiver) receiver suffixes
  parts (Node-F.Text pieces span) = flat_map (piece_parts scope) pieces
  parts (Node-F.Call name name_span arguments block span) =
      call_parts scope (taken_by_self m name (is_some block)) (arguments_of arguments) (block_by_self m name) block
  parts (Node-F.Yield arguments span) = row_parts scope taken.All (arguments_of arguments)
  parts (Node-F.Super arguments span) = row_parts scope taken.All (arguments_of arguments)
  parts (Node-F.Array elements span) = map (plain scope) elements
  parts (Node-F.Hash pairs span) = flat_map (pair_parts scope) pairs
  parts (Node-F.Parens body span) = plain scope body ∷ []
  parts (Node-F.If test condition body arms otherwise span) =
      plain scope condition ∷ plain scope body ∷ (flat_map (arm_parts scope) arms ++ if_any scope otherwise)
  parts (Node-F.While test condition body span) = plain scope condition ∷ plain scope body ∷ []
  parts (Node-F.Case subject arms otherwise span) = if_any scope subject ++ (flat_map (when_parts scope) arms ++ if_any scope otherwise)
  parts (Node-F.Begin guarded span) = guarded_parts scope guarded
  parts (Node-F.Class path superclass body span) = body_parts scope (declared_name scope path) body
  parts (Node-F.Module path body span) = body_parts scope (declared_name scope path) body
  parts (Node-F.Def visibility own name name_span parameters guarded span) =
      flat_map (parameter_parts scope) parameters ++ guarded_parts scope guarded
  parts _ = []
