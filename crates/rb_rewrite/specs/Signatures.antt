-- Signatures: what a `sig` statement says of a method, and whether it is well-formed. This is a matter of the tree and of the names of
-- the method's parameters alone.
use Rattle.std.specs.Prelude.{ℕ, Bool, true, false, not, ◌&&◌, ◌||◌, ◌==◌, List, [], ◌∷◌, ◌++◌, length, codes, bytes_eq, if◌then◌else◌, Option, Some, None, option_map}
use Rattle.std.specs.List.{list_all, list_any}
use Rattle.std.specs.Option.{option_copied}
use Rattle.rb_tree.specs.declared.syntax.Argument.{Argument}
use Rattle.rb_tree.specs.declared.syntax.Argument.TheVariants as argument
use Rattle.rb_tree.specs.declared.syntax.Block.{Block}
use Rattle.rb_tree.specs.declared.syntax.Dot.{Dot}
use Rattle.rb_tree.specs.declared.syntax.Dot.TheVariants as dot
use Rattle.rb_tree.specs.declared.syntax.Parameter.{Parameter}
use Rattle.rb_tree.specs.declared.syntax.PlacedName.{PlacedName}
use Rattle.rb_tree.specs.declared.syntax.Suffix.{Suffix}
use Rattle.rb_tree.specs.declared.syntax.Suffix.TheVariants as suffix
use Rattle.rb_tree.specs.declared.syntax.Tree.{Tree}
use Rattle.rb_tree.specs.declared.syntax.Node.{out-Node}
use Rattle.rb_tree.specs.declared.syntax.Node.TheOpen.{Node-F}
use Rattle.rb_views.specs.Calls.{Call, Receiver, call_of, arguments_of}
use Rattle.rb_rewrite.specs.Declaring.{is_missing, is_sig_call}
use Rattle.rb_rewrite.specs.declared.signature.Signature as lent

-- what the calls of a chain said so far
pub record Signature : Type 0 where
  -- the arguments of `params`, where it stands
  pub params : Option (List (Argument Tree))
  -- X, where `returns(X)` stands
  pub returned : Option Tree
  -- whether these stand
  pub is_void : Bool
  pub is_abstract : Bool
  pub is_override : Bool
  pub is_overridable : Bool
  pub is_checked : Bool

-- no call yet
abbrev pub nothing : Signature
nothing = record {
  params = None;
  returned = None;
  is_void = false;
  is_abstract = false;
  is_override = false;
  is_overridable = false;
  is_checked = false;
}

-- ---- one more call; None where it may not stand there

abbrev pub is_keyword : {X : Type 0} → Argument X → Bool
is_keyword (argument.Keyword name span value) = true
is_keyword _ = false

abbrev pub is_symbol_at : {X Y : Type 0} → Node-F X Y → Bool
is_symbol_at (Node-F.Symbol words span) = true
is_symbol_at _ = false

-- whether a tree is a symbol
unfoldable pub is_symbol : Tree → Bool
is_symbol t = is_symbol_at (out-Node t.node)

-- `params` stands at most once, with keyword arguments alone
abbrev pub with_params : Signature → List (Argument Tree) → Option Signature
with_params s arguments =
    if is_missing s.params && list_all is_keyword arguments then Some (record s { params = Some arguments }) else None

-- `returns` has one argument, by its place, and no result stands there yet
abbrev pub with_returns : Signature → List (Argument Tree) → Option Signature
with_returns s (argument.Positional value ∷ []) =
    if is_missing s.returned && not s.is_void then Some (record s { returned = Some value }) else None
with_returns s _ = None

-- `void` has no argument, and no result stands there yet
abbrev pub with_void : Signature → List (Argument Tree) → Option Signature
with_void s [] = if is_missing s.returned && not s.is_void then Some (record s { is_void = true }) else None
with_void s _ = None

-- `abstract`, `override` and `overridable` have no argument and stand at most once each
abbrev pub with_abstract : Signature → List (Argument Tree) → Option Signature
with_abstract s [] = if s.is_abstract then None else Some (record s { is_abstract = true })
with_abstract s _ = None

abbrev pub with_override : Signature → List (Argument Tree) → Option Signature
with_override s [] = if s.is_override then None else Some (record s { is_override = true })
with_override s _ = None

abbrev pub with_overridable : Signature → List (Argument Tree) → Option Signature
with_overridable s [] = if s.is_overridable then None else Some (record s { is_overridable = true })
with_overridable s _ = None

-- `checked` has one argument, a symbol by its place, and stands at most once
abbrev pub with_checked : Signature → List (Argument Tree) → Option Signature
with_checked s (argument.Positional value ∷ []) =
    if is_symbol value && not s.is_checked then Some (record s { is_checked = true }) else None
with_checked s _ = None

-- the calls that may stand in a chain, by their names
abbrev pub with_call : Option Signature → List ℕ → List (Argument Tree) → Option Signature
with_call None name arguments = None
with_call (Some s) name arguments =
    if bytes_eq name (codes "params") then with_params s arguments
    else (if bytes_eq name (codes "returns") then with_returns s arguments
    else (if bytes_eq name (codes "void") then with_void s arguments
    else (if bytes_eq name (codes "abstract") then with_abstract s arguments
    else (if bytes_eq name (codes "override") then with_override s arguments
    else (if bytes_eq name (codes "overridable") then with_overridable s arguments
    else (if bytes_eq name (codes "checked") then with_checked s arguments else None))))))

-- ---- chains: a call on `self`, and calls on it by `.`, all without blocks

-- one more call by `.`; nothing else may follow
abbrev pub with_suffix : Option Signature → Suffix Tree → Option Signature
with_suffix s (suffix.Call dot.Plain name name_span arguments None span) = with_call s name (arguments_of arguments)
with_suffix s _ = None

abbrev pub with_suffixes : Option Signature → List (Suffix Tree) → Option Signature
with_suffixes s [] = s
with_suffixes s (first ∷ rest) = with_suffixes (with_suffix s first) rest

abbrev pub first_call_at : {X : Type 0} → Node-F X Tree → Option Signature
first_call_at (Node-F.Name name span) = with_call (Some nothing) name []
first_call_at (Node-F.Call name name_span arguments None span) = with_call (Some nothing) name (arguments_of arguments)
first_call_at _ = None

-- the call with which a chain begins
unfoldable pub first_call : Tree → Option Signature
first_call t = first_call_at (out-Node t.node)

-- what stands before the last call of a chain
abbrev pub before_dot : Dot → Tree → List (Suffix Tree) → Option Signature
before_dot dot.Plain operand suffixes = with_suffixes (first_call operand) suffixes
before_dot dot.Safe operand suffixes = None

abbrev pub before_last : Option Receiver → Option Signature
before_last None = Some nothing
before_last (Some r) = before_dot r.dot r.prefix.operand r.prefix.suffixes

abbrev pub chain_by_last : Option Call → Option Signature
chain_by_last None = None
chain_by_last (Some c) = if is_missing c.block then with_call (before_last c.receiver) c.name c.arguments else None

-- what a chain says; None where it is none, or a call may not stand in it
unfoldable pub chain_of : Tree → Option Signature
chain_of t = chain_by_last (call_of t)

-- ---- `sig` statements

abbrev pub single_at : {X : Type 0} → Node-F X Tree → Option Signature
single_at (Node-F.Body (statement ∷ []) span) = chain_of statement
single_at _ = None

-- a body of one statement, a chain
unfoldable pub single : Tree → Option Signature
single body = single_at (out-Node body.node)

abbrev pub without_names : List PlacedName → Tree → Option Signature
without_names [] body = single body
without_names _ body = None

-- there are no arguments, and the block has no parameters, and one chain in it
abbrev pub in_block : List (Argument Tree) → Option (Block Tree) → Option Signature
in_block [] (Some block) = without_names block.parameters block.body
in_block _ _ = None

abbrev pub signature_by : Option Call → Option Signature
signature_by None = None
signature_by (Some c) = if is_sig_call (Some c) then in_block c.arguments c.block else None

-- what a `sig` statement says: it has no arguments, and a block that holds one chain. None where it isn't so
unfoldable pub signature_of : Tree → Option Signature
signature_of t = signature_by (call_of t)

-- ---- well-formed signatures

-- whether the name is one of these
abbrev pub is_among : List (List ℕ) → List ℕ → Bool
is_among names name = list_any (bytes_eq name) names

-- the names with one more, if it is none of them
abbrev pub noted : List (List ℕ) → List ℕ → List (List ℕ)
noted names name = if is_among names name then names else names ++ name ∷ []

-- the names of keyword arguments after those so far, in order; None where one stands twice
abbrev pub names_from : {X : Type 0} → List (List ℕ) → List (Argument X) → Option (List (List ℕ))
names_from so_far [] = Some so_far
names_from so_far (argument.Keyword name span value ∷ rest) = if is_among so_far name then None else names_from (noted so_far name) rest
names_from so_far (argument.Positional value ∷ rest) = names_from so_far rest
names_from so_far (argument.Block span value ∷ rest) = names_from so_far rest

-- the names that `params` has; without `params` there is none
abbrev pub named : {X : Type 0} → Option (List (Argument X)) → Option (List (List ℕ))
named None = Some []
named (Some arguments) = names_from [] arguments

-- whether each parameter has one of these names
abbrev pub are_named : {X : Type 0} → List (List ℕ) → List (Parameter X) → Bool
are_named names [] = true
are_named names (p ∷ parameters) = if is_among names p.name then are_named names parameters else false

-- whether the names, which are distinct, are those of the parameters, each once and in any order
abbrev pub are_names_of : {X : Type 0} → List (Parameter X) → Option (List (List ℕ)) → Bool
are_names_of parameters None = false
are_names_of parameters (Some names) = length names == length parameters && are_named names parameters

-- whether one result stands there
abbrev pub has_result : Signature → Bool
has_result s = not (is_missing s.returned) || s.is_void

-- what was said is a whole signature of a method with these parameters: one result stands there, and `params` names each parameter once
abbrev pub fits : {X : Type 0} → List (Parameter X) → Signature → Bool
fits parameters s = has_result s && are_names_of parameters (named s.params)

abbrev pub fitting : {X : Type 0} → List (Parameter X) → Option Signature → Option Signature
fitting parameters None = None
fitting parameters (Some s) = if fits parameters s then Some s else None

-- the well-formed signature of a method with these parameters that a `sig` statement is; None where it is malformed
abbrev pub well_formed : {X : Type 0} → List (Parameter X) → Tree → Option Signature
well_formed parameters sig = fitting parameters (signature_of sig)

-- what a lent signature is
abbrev pub seen_signature : lent.Signature → Signature
seen_signature s = record {
  params = option_map (λ a. a.now) s.params;
  returned = option_copied s.returned;
  is_void = s.is_void;
  is_abstract = s.is_abstract;
  is_override = s.is_override;
  is_overridable = s.is_overridable;
  is_checked = s.is_checked;
}
