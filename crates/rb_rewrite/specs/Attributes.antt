-- Attributes: the methods that `attr_reader`, `attr_writer` and `attr_accessor` stand for. All places in these methods are the symbol's.
use Rattle.std.specs.Prelude.{ℕ, false, List, [], ◌∷◌, ◌++◌, codes, Option, Some, None, option_map}
use Rattle.srb_terms.specs.declared.param_kind.ParamKind.TheVariants as param
use Rattle.srb_terms.specs.declared.span.Span.{Span}
use Rattle.rb_tree.specs.Nodes as tree
use Rattle.rb_tree.specs.Trees.{span_of}
use Rattle.rb_tree.specs.declared.syntax.Argument.{Argument}
use Rattle.rb_tree.specs.declared.syntax.Argument.TheVariants as argument
use Rattle.rb_tree.specs.declared.syntax.Block.{Block}
use Rattle.rb_tree.specs.declared.syntax.Dot.TheVariants as dot
use Rattle.rb_tree.specs.declared.syntax.Guarded.{Guarded}
use Rattle.rb_tree.specs.declared.syntax.Parameter.{Parameter}
use Rattle.rb_tree.specs.declared.syntax.Suffix.{Suffix}
use Rattle.rb_tree.specs.declared.syntax.Suffix.TheVariants as suffix
use Rattle.rb_tree.specs.declared.syntax.Tree.{Tree}
use Rattle.rb_tree.specs.declared.syntax.Node.{Node, out-Node}
use Rattle.rb_tree.specs.declared.syntax.Node.TheOpen.{Node-F}
use Rattle.rb_rewrite.specs.Signatures.{Signature, signature_of}
use Rattle.rb_rewrite.specs.declared.declaring.Attribute.{Attribute}
use Rattle.rb_rewrite.specs.declared.declaring.Attribute.TheVariants.{Reader, Writer, Accessor}

-- ---- the methods

-- a method's body of one statement
abbrev pub body_with : Span → Tree → Tree
body_with span statement = tree.Body (statement ∷ []) span

abbrev pub body_of : Tree → Span → Guarded Tree
body_of statement span = record { body = body_with span statement; rescues = []; otherwise = None; ensure = None }

-- `@x`
abbrev pub instance_variable : List ℕ → Span → Tree
instance_variable name span = tree.InstanceVariable name span

-- `def x` with the body `@x`
abbrev pub reader : List ℕ → Span → Tree
reader name span = tree.Def None false name span [] (body_of (instance_variable name span) span) span

-- `@x = x`
abbrev pub assignment : List ℕ → Span → Tree
assignment name span = tree.Assign (instance_variable name span) (tree.Name name span) span

-- the parameter `x`
abbrev pub writer_parameter : List ℕ → Span → Parameter Tree
writer_parameter name span = record { kind = param.Required; name = name; span = span; default = None }

-- `def x=(x)` with the body `@x = x`
abbrev pub writer : List ℕ → Span → Tree
writer name span =
    tree.Def None false (name ++ codes "=") span (writer_parameter name span ∷ []) (body_of (assignment name span) span) span

-- ---- the signature of an accessor's writer: the chain with `params(x: X)` put first, where it has `returns(X)`. It stands where the chain's
-- first call does

-- `params(x: X)` at a place
abbrev pub params_call : List ℕ → Tree → Span → Tree
params_call name type span = tree.Call (codes "params") span (Some (argument.Keyword name span type ∷ [])) None span

abbrev pub as_suffix_at : {X : Type 0} → Node-F X Tree → Option (Suffix Tree)
as_suffix_at (Node-F.Name name span) = Some (suffix.Call dot.Plain name span None None span)
as_suffix_at (Node-F.Call name name_span arguments block span) = Some (suffix.Call dot.Plain name name_span arguments block span)
as_suffix_at _ = None

-- the call of a name, as a call after a dot
unfoldable pub as_suffix : Tree → Option (Suffix Tree)
as_suffix t = as_suffix_at (out-Node t.node)

-- a call, and the calls that follow it, after `first`
abbrev pub after_first : Tree → Option (Suffix Tree) → List (Suffix Tree) → Span → Option Tree
after_first first None suffixes span = None
after_first first (Some s) suffixes span = Some (tree.Post first (s ∷ suffixes) span)

abbrev pub row_after_at : (Span → Tree) → Tree → Node-F Node Tree → Option Tree
row_after_at first t (Node-F.Name name span) = after_first (first span) (as_suffix t) [] span
row_after_at first t (Node-F.Call name name_span arguments block span) = after_first (first span) (as_suffix t) [] span
row_after_at first t (Node-F.Post receiver suffixes span) = after_first (first (span_of receiver)) (as_suffix receiver) suffixes span
row_after_at first t _ = None

-- a chain in which each call with arguments has brackets, after `first`
unfoldable pub row_after : (Span → Tree) → Tree → Option Tree
row_after first t = row_after_at first t (out-Node t.node)

abbrev pub command_of : List (Argument Tree) → Option (Block Tree) → Span → Tree → Tree
command_of arguments block span callee = tree.Command callee arguments block span

abbrev pub chain_after_at : (Span → Tree) → Tree → Node-F Node Tree → Option Tree
chain_after_at first t (Node-F.Command callee arguments block span) = option_map (command_of arguments block span) (row_after first callee)
chain_after_at first t _ = row_after first t

-- a chain after `first`
unfoldable pub chain_after : (Span → Tree) → Tree → Option Tree
chain_after first t = chain_after_at first t (out-Node t.node)

abbrev pub body_after_at : {X : Type 0} → (Span → Tree) → Node-F X Tree → Option Tree
body_after_at first (Node-F.Body (statement ∷ []) span) = option_map (body_with span) (chain_after first statement)
body_after_at first _ = None

-- a body of one chain, after `first`
unfoldable pub body_after : (Span → Tree) → Tree → Option Tree
body_after first body = body_after_at first (out-Node body.node)

abbrev pub block_with : Block Tree → Tree → Block Tree
block_with block body = record { parameters = block.parameters; body = body; span = block.span }

abbrev pub block_after : (Span → Tree) → Option (Block Tree) → Option (Block Tree)
block_after first None = None
block_after first (Some block) = option_map (block_with block) (body_after first block.body)

abbrev pub call_with : List ℕ → Span → Option (List (Argument Tree)) → Span → Block Tree → Tree
call_with name name_span arguments span block = tree.Call name name_span arguments (Some block) span

abbrev pub command_with : Tree → List (Argument Tree) → Span → Block Tree → Tree
command_with callee arguments span block = tree.Command callee arguments (Some block) span

abbrev pub sig_after_at : {X : Type 0} → (Span → Tree) → Node-F X Tree → Option Tree
sig_after_at first (Node-F.Call name name_span arguments block span) = option_map (call_with name name_span arguments span) (block_after first block)
sig_after_at first (Node-F.Command callee arguments block span) = option_map (command_with callee arguments span) (block_after first block)
sig_after_at first _ = None

-- a `sig` statement whose chain stands after `first`
unfoldable pub sig_after : (Span → Tree) → Tree → Option Tree
sig_after first sig = sig_after_at first (out-Node sig.node)

-- the X of `returns(X)`
abbrev pub returned_by : Option Signature → Option Tree
returned_by None = None
returned_by (Some s) = s.returned

abbrev pub returned_of : Tree → Option Tree
returned_of sig = returned_by (signature_of sig)

abbrev pub or_else : Tree → Option Tree → Tree
or_else t None = t
or_else t (Some u) = u

abbrev pub writer_sig_of : List ℕ → Tree → Option Tree → Tree
writer_sig_of name sig None = sig
writer_sig_of name sig (Some type) = or_else sig (sig_after (params_call name type) sig)

-- the signature of the writer of an accessor
abbrev pub writer_sig : List ℕ → Tree → Tree
writer_sig name sig = writer_sig_of name sig (returned_of sig)

-- ---- statements, after those so far. Where a `sig` statement stands before the attribute, one stands before each method

abbrev pub with_sig : List Tree → Option Tree → List Tree
with_sig so_far None = so_far
with_sig so_far (Some sig) = so_far ++ sig ∷ []

abbrev pub with_method : List Tree → Option Tree → Tree → List Tree
with_method so_far sig method = with_sig so_far sig ++ method ∷ []

-- the methods of one name: an accessor's reader stands first
abbrev pub with_attribute : Attribute → Option Tree → List ℕ → Span → List Tree → List Tree
with_attribute Reader sig name span so_far = with_method so_far sig (reader name span)
with_attribute Writer sig name span so_far = with_method so_far sig (writer name span)
with_attribute Accessor sig name span so_far =
    with_method (with_method so_far sig (reader name span)) (option_map (writer_sig name) sig) (writer name span)

abbrev pub with_symbol_at : {X Y : Type 0} → Attribute → Option Tree → List Tree → Node-F X Y → List Tree
with_symbol_at kind sig so_far (Node-F.Symbol words span) = with_attribute kind sig words span so_far
with_symbol_at kind sig so_far _ = so_far

-- the methods of an argument that is a symbol
unfoldable pub with_symbol : Attribute → Option Tree → List Tree → Tree → List Tree
with_symbol kind sig so_far t = with_symbol_at kind sig so_far (out-Node t.node)

abbrev pub with_argument : Attribute → Option Tree → List Tree → Argument Tree → List Tree
with_argument kind sig so_far (argument.Positional value) = with_symbol kind sig so_far value
with_argument kind sig so_far _ = so_far

-- the methods of each symbol among the arguments, in order; an argument of another form gives none
abbrev pub with_attributes : Attribute → Option Tree → List (Argument Tree) → List Tree → List Tree
with_attributes kind sig [] so_far = so_far
with_attributes kind sig (first ∷ rest) so_far = with_attributes kind sig rest (with_argument kind sig so_far first)
