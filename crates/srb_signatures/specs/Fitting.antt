-- Which signatures are well-formed ones of the statement that follows them: of a method, perhaps with a visibility in front, or of an
-- attribute. Of any other statement none is.
use Rattle.std.specs.Prelude.{ℕ, Bool, true, false, ◌&&◌, List, [], ◌∷◌, bytes_eq, Option, Some, None}
use Rattle.std.specs.List.{list_all}
use Rattle.std.specs.Option.{is_some}
use Rattle.rb_tree.specs.declared.syntax.Argument.{Argument}
use Rattle.rb_tree.specs.declared.syntax.Argument.TheVariants as argument
use Rattle.rb_tree.specs.declared.syntax.Tree.{Tree}
use Rattle.rb_tree.specs.declared.syntax.Node.{out-Node}
use Rattle.rb_tree.specs.declared.syntax.Node.TheOpen.{Node-F}
use Rattle.rb_rewrite.specs.Declaring.{AttributeCall, attribute_of, is_missing}
use Rattle.rb_rewrite.specs.Signatures.{Signature, has_result, signature_of, well_formed}
use Rattle.rb_rewrite.specs.declared.declaring.Attribute.{Attribute}
use Rattle.rb_rewrite.specs.declared.declaring.Attribute.TheVariants.{Reader, Writer, Accessor}

-- ---- methods

abbrev pub fits_method_at : {X : Type 0} → Tree → Node-F X Tree → Bool
fits_method_at sig (Node-F.Def visibility own name name_span parameters guarded span) = is_some (well_formed parameters sig)
fits_method_at sig _ = false

-- whether the statement is a method and the signature a well-formed one of it: its parts stand as they may, and the names of `params` are
-- the method's parameters, each once
unfoldable pub fits_method : Tree → Tree → Bool
fits_method sig t = fits_method_at sig (out-Node t.node)

-- ---- attributes

-- whether `params` names this alone
abbrev pub names_alone : {X : Type 0} → List ℕ → Option (List (Argument X)) → Bool
names_alone name (Some (argument.Keyword keyword span value ∷ [])) = bytes_eq keyword name
names_alone name _ = false

-- a reader has a result and no `params`, a writer has a result and `params(x: X)`, an accessor has `returns(X)` and no `params`
abbrev pub fits_name : Attribute → Signature → List ℕ → Bool
fits_name Reader s name = has_result s && is_missing s.params
fits_name Writer s name = has_result s && names_alone name s.params
fits_name Accessor s name = is_some s.returned && is_missing s.params

-- the same of what may be no signature at all
abbrev pub fits_said : Attribute → Option Signature → List ℕ → Bool
fits_said kind None name = false
fits_said kind (Some s) name = fits_name kind s name

abbrev pub fits_symbol_at : {X Y : Type 0} → Attribute → Option Signature → Node-F X Y → Bool
fits_symbol_at kind said (Node-F.Symbol words span) = fits_said kind said words
fits_symbol_at kind said _ = true

-- what isn't a symbol declares nothing, so any signature with a result fits it
unfoldable pub fits_symbol : Attribute → Option Signature → Tree → Bool
fits_symbol kind said t = fits_symbol_at kind said (out-Node t.node)

abbrev pub fits_argument : Attribute → Option Signature → Argument Tree → Bool
fits_argument kind said (argument.Positional value) = fits_symbol kind said value
fits_argument kind said _ = true

-- whether it is a signature with one result
abbrev pub is_formed : Option Signature → Bool
is_formed None = false
is_formed (Some s) = has_result s

-- a signature counts for each name of an attribute statement; one that is malformed in itself fits none, also where no symbol stands
abbrev pub fits_attributes : Attribute → Option Signature → List (Argument Tree) → Bool
fits_attributes kind said arguments = is_formed said && list_all (fits_argument kind said) arguments

-- ---- the statement after a `sig` statement

abbrev pub fits_by : Tree → Tree → Option AttributeCall → Bool
fits_by sig t None = fits_method sig t
fits_by sig t (Some a) = fits_attributes a.kind (signature_of sig) a.arguments

-- whether the signature is a well-formed one of this statement
abbrev pub fits : Tree → Tree → Bool
fits sig t = fits_by sig t (attribute_of t)
