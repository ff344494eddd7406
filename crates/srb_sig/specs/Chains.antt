-- The chain of a `sig` statement, on trees without places: what its calls say, and whether it fits a method's parameters. This is a matter
-- of the tree and of the names of the parameters alone.
use Rattle.std.specs.Prelude.{ℕ, Bool, true, false, not, ◌&&◌, ◌||◌, ◌==◌, List, [], ◌∷◌, ◌++◌, length, codes, bytes_eq, if◌then◌else◌, Option, Some, None, option_map}
use Rattle.std.specs.List.{list_all, list_any}
use Rattle.std.specs.Option.{option_copied}
use Rattle.srb_terms.specs.declared.fact.ParamShape.{ParamShape}
use Rattle.srb_terms.specs.declared.outline.NodeKind.{NodeKind}
use Rattle.srb_terms.specs.declared.outline.NodeKind.TheVariants as kind
use Rattle.srb_terms.specs.declared.outline.Outline.{Outline}
use Rattle.srb_sig.specs.declared.chain.Said as lent
use Rattle.srb_sig.specs.Forms.{kind_of, words_of, parts_of, is_positional, plain_arguments}

-- what the calls of a chain said so far
pub record Said : Type 0 where
  -- the arguments of `params`, where it stands
  pub params : Option (List Outline)
  -- X, where `returns(X)` stands
  pub returned : Option Outline
  -- whether `returns` stands without a `params` before it
  pub returns_first : Bool
  -- whether these stand
  pub is_void : Bool
  pub is_abstract : Bool
  pub is_override : Bool
  pub is_overridable : Bool
  pub is_checked : Bool

-- no call yet
abbrev pub nothing : Said
nothing = record {
  params = None;
  returned = None;
  returns_first = false;
  is_void = false;
  is_abstract = false;
  is_override = false;
  is_overridable = false;
  is_checked = false;
}

-- whether something is missing
abbrev pub is_missing : {A : Type 0} → Option A → Bool
is_missing None = true
is_missing (Some x) = false

-- ---- one more call; None where it may not stand there

abbrev pub is_keyword_at : NodeKind → Bool
is_keyword_at kind.Keyword = true
is_keyword_at _ = false

-- whether an argument is one by name
abbrev pub is_keyword : Outline → Bool
is_keyword t = is_keyword_at (kind_of t)

abbrev pub is_symbol_at : NodeKind → Bool
is_symbol_at kind.Symbol = true
is_symbol_at _ = false

-- whether an argument is a symbol by its place
abbrev pub is_symbol : Outline → Bool
is_symbol t = is_symbol_at (kind_of t)

-- `params` stands at most once, with keyword arguments alone
abbrev pub with_params : Said → List Outline → Option Said
with_params s arguments =
    if is_missing s.params && list_all is_keyword arguments then Some (record s { params = Some arguments }) else None

-- `returns` has one argument, by its place, and no result stands there yet
abbrev pub with_returns : Said → List Outline → Option Said
with_returns s (only ∷ []) =
    if is_positional only && is_missing s.returned && not s.is_void
    then Some (record s { returned = Some only; returns_first = is_missing s.params }) else None
with_returns s _ = None

-- `void` has no argument, and no result stands there yet
abbrev pub with_void : Said → List Outline → Option Said
with_void s [] = if is_missing s.returned && not s.is_void then Some (record s { is_void = true }) else None
with_void s _ = None

-- `abstract`, `override` and `overridable` have no argument and stand at most once each
abbrev pub with_abstract : Said → List Outline → Option Said
with_abstract s [] = if s.is_abstract then None else Some (record s { is_abstract = true })
with_abstract s _ = None

abbrev pub with_override : Said → List Outline → Option Said
with_override s [] = if s.is_override then None else Some (record s { is_override = true })
with_override s _ = None

abbrev pub with_overridable : Said → List Outline → Option Said
with_overridable s [] = if s.is_overridable then None else Some (record s { is_overridable = true })
with_overridable s _ = None

-- `checked` has one argument, a symbol by its place, and stands at most once
abbrev pub with_checked : Said → List Outline → Option Said
with_checked s (only ∷ []) = if is_symbol only && not s.is_checked then Some (record s { is_checked = true }) else None
with_checked s _ = None

-- the calls that may stand in a chain, by their names
abbrev pub with_named : Said → List ℕ → List Outline → Option Said
with_named s name arguments =
    if bytes_eq name (codes "params") then with_params s arguments
    else (if bytes_eq name (codes "returns") then with_returns s arguments
    else (if bytes_eq name (codes "void") then with_void s arguments
    else (if bytes_eq name (codes "abstract") then with_abstract s arguments
    else (if bytes_eq name (codes "override") then with_override s arguments
    else (if bytes_eq name (codes "overridable") then with_overridable s arguments
    else (if bytes_eq name (codes "checked") then with_checked s arguments else None))))))

-- a call with these arguments; one with a block has none here
abbrev pub with_call : Option Said → List ℕ → Option (List Outline) → Option Said
with_call (Some s) name (Some arguments) = with_named s name arguments
with_call _ name _ = None

-- ---- chains: a call on `self`, and calls on it by `.`, all without blocks

abbrev pub with_suffix_at : Option Said → NodeKind → List ℕ → List Outline → Option Said
with_suffix_at s kind.SuffixCall name parts = with_call s name (plain_arguments parts)
with_suffix_at s _ name parts = None

-- one more call by `.`; nothing else may follow
abbrev pub with_suffix : Option Said → Outline → Option Said
with_suffix s t = with_suffix_at s (kind_of t) (words_of t) (parts_of t)

abbrev pub with_suffixes : Option Said → List Outline → Option Said
with_suffixes s [] = s
with_suffixes s (first ∷ rest) = with_suffixes (with_suffix s first) rest

abbrev pub first_call_at : NodeKind → List ℕ → List Outline → Option Said
first_call_at kind.Name name parts = with_call (Some nothing) name (plain_arguments parts)
first_call_at kind.Call name parts = with_call (Some nothing) name (plain_arguments parts)
first_call_at _ name parts = None

-- the call with which a chain begins
abbrev pub first_call : Outline → Option Said
first_call t = first_call_at (kind_of t) (words_of t) (parts_of t)

-- a call with calls on it
abbrev pub with_row : List Outline → Option Said
with_row (operand ∷ first ∷ rest) = with_suffixes (first_call operand) (first ∷ rest)
with_row _ = None

-- ---- chains whose last call has its arguments without brackets

abbrev pub is_block_at : NodeKind → Bool
is_block_at kind.Block = true
is_block_at _ = false

abbrev pub is_block : Outline → Bool
is_block t = is_block_at (kind_of t)

-- the arguments of a command; None where a block stands there
abbrev pub command_arguments : List Outline → Option (List Outline)
command_arguments parts = if list_any is_block parts then None else Some parts

-- the last call of a chain, which has no arguments in brackets
abbrev pub last_call_at : Option Said → NodeKind → List ℕ → List Outline → Option (List Outline) → Option Said
last_call_at s kind.SuffixCall name [] arguments = with_call s name arguments
last_call_at s _ name parts arguments = None

abbrev pub with_last : Option Said → List Outline → Option (List Outline) → Option Said
with_last s [] arguments = None
with_last s (last ∷ []) arguments = last_call_at s (kind_of last) (words_of last) (parts_of last) arguments
with_last s (first ∷ rest) arguments = with_last (with_suffix s first) rest arguments

abbrev pub with_last_of : List Outline → Option (List Outline) → Option Said
with_last_of [] arguments = None
with_last_of (operand ∷ suffixes) arguments = with_last (first_call operand) suffixes arguments

-- what is called, with these arguments
abbrev pub with_callee : NodeKind → List ℕ → List Outline → Option (List Outline) → Option Said
with_callee kind.Name name parts arguments = with_call (Some nothing) name arguments
with_callee kind.Post name parts arguments = with_last_of parts arguments
with_callee _ name parts arguments = None

abbrev pub command_chain : List Outline → Option Said
command_chain [] = None
command_chain (callee ∷ rest) = with_callee (kind_of callee) (words_of callee) (parts_of callee) (command_arguments rest)

abbrev pub chain_at : NodeKind → List ℕ → List Outline → Option Said
chain_at kind.Post name parts = with_row parts
chain_at kind.Command name parts = command_chain parts
chain_at k name parts = first_call_at k name parts

-- what a chain says; None where it is none, or a call may not stand in it
abbrev pub chain_of : Outline → Option Said
chain_of t = chain_at (kind_of t) (words_of t) (parts_of t)

-- ---- `sig` statements

abbrev pub single_at : NodeKind → List Outline → Option Said
single_at kind.Body (only ∷ []) = chain_of only
single_at _ parts = None

-- a body of one statement, a chain
abbrev pub single : Outline → Option Said
single t = single_at (kind_of t) (parts_of t)

abbrev pub in_block_at : NodeKind → List Outline → Option Said
in_block_at kind.Block (only ∷ []) = single only
in_block_at _ parts = None

-- a block without parameters, and with one chain in it
abbrev pub in_block : Outline → Option Said
in_block t = in_block_at (kind_of t) (parts_of t)

abbrev pub is_empty_at : NodeKind → List Outline → Bool
is_empty_at kind.Brackets [] = true
is_empty_at _ parts = false

-- brackets without arguments
abbrev pub is_empty : Outline → Bool
is_empty t = is_empty_at (kind_of t) (parts_of t)

-- what stands after `sig`: no arguments, and a block
abbrev pub after_sig : List Outline → Option Said
after_sig (only ∷ []) = in_block only
after_sig (brackets ∷ block ∷ []) = if is_empty brackets then in_block block else None
after_sig _ = None

abbrev pub is_sig_at : NodeKind → List ℕ → Bool
is_sig_at kind.Name name = bytes_eq name (codes "sig")
is_sig_at _ name = false

-- a command `sig` that has a block alone
abbrev pub sig_command : List Outline → Option Said
sig_command (callee ∷ block ∷ []) = if is_sig_at (kind_of callee) (words_of callee) then in_block block else None
sig_command _ = None

abbrev pub said_at : NodeKind → List ℕ → List Outline → Option Said
said_at kind.Call name parts = if bytes_eq name (codes "sig") then after_sig parts else None
said_at kind.Command name parts = sig_command parts
said_at _ name parts = None

-- what a `sig` statement says: it has no arguments, and a block that holds one chain. None where it isn't so
unfoldable pub said_by : Outline → Option Said
said_by t = said_at (kind_of t) (words_of t) (parts_of t)

-- ---- well-formed signatures

-- whether the name is one of these
abbrev pub is_among : List (List ℕ) → List ℕ → Bool
is_among names name = list_any (bytes_eq name) names

-- the names with one more, if it is none of them
abbrev pub noted : List (List ℕ) → List ℕ → List (List ℕ)
noted names name = if is_among names name then names else names ++ name ∷ []

-- the names of keyword arguments after those so far, in order; None where one stands twice
abbrev pub names_from : List (List ℕ) → List Outline → Option (List (List ℕ))
names_from so_far [] = Some so_far
names_from so_far (t ∷ rest) = if is_among so_far (words_of t) then None else names_from (noted so_far (words_of t)) rest

abbrev pub params_of : Option (List Outline) → List Outline
params_of None = []
params_of (Some arguments) = arguments

-- whether each parameter has one of these names
abbrev pub are_named : List (List ℕ) → List ParamShape → Bool
are_named names [] = true
are_named names (p ∷ shapes) = if is_among names p.name then are_named names shapes else false

-- whether the names, which are distinct, are those of the parameters, each once and in any order
abbrev pub are_names_of : List ParamShape → Option (List (List ℕ)) → Bool
are_names_of shapes None = false
are_names_of shapes (Some names) = length names == length shapes && are_named names shapes

-- whether one result stands there
abbrev pub has_result : Said → Bool
has_result s = not (is_missing s.returned) || s.is_void

-- what was said is a whole signature of a method with these parameters: one result stands there, and `params` names each parameter once
abbrev pub fits : List ParamShape → Said → Bool
fits shapes s = has_result s && are_names_of shapes (names_from [] (params_of s.params))

abbrev pub fitting : List ParamShape → Option Said → Option Said
fitting shapes None = None
fitting shapes (Some s) = if fits shapes s then Some s else None

-- the well-formed signature of a method with these parameters that a `sig` statement is; None where it is malformed
abbrev pub well_formed : List ParamShape → Outline → Option Said
well_formed shapes sig = fitting shapes (said_by sig)

-- what a lent chain is
abbrev pub seen_said : lent.Said → Said
seen_said s = record {
  params = option_map (λ a. a.now) s.params;
  returned = option_copied s.returned;
  returns_first = s.returns_first;
  is_void = s.is_void;
  is_abstract = s.is_abstract;
  is_override = s.is_override;
  is_overridable = s.is_overridable;
  is_checked = s.is_checked;
}
