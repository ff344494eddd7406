-- Which names a list of facts declares, and what each of them is. The facts are those of all files in their order, the built-in table first.
use Rattle.std.specs.Prelude.{ℕ, Bool, true, false, List, [], ◌∷◌, Option, None, Some, bytes_eq, if◌then◌else◌}
use Rattle.std.specs.List.{list_any}
use Rattle.std.specs.Option.{option_or, is_some}
use Rattle.srb_terms.specs.declared.fact.Fact.{Fact}
use Rattle.srb_terms.specs.declared.fact.Fact.TheVariants.{Scope, Value}
use Rattle.srb_terms.specs.declared.fact.Kind.{Kind}
use Rattle.srb_terms.specs.declared.fact.Kind.TheVariants as kind
use Rattle.srb_rules.specs.FullNames.{full_name}

abbrev pub is_class : Option Kind → Bool
is_class (Some kind.Class) = true
is_class _ = false

abbrev pub is_module : Option Kind → Bool
is_module (Some kind.Module) = true
is_module _ = false

-- a class or module
abbrev pub is_body : Option Kind → Bool
is_body (Some kind.Class) = true
is_body (Some kind.Module) = true
is_body _ = false

-- the kind that the declaration of a class or module gives to its name; the name of a value constant alone declares nothing
abbrev pub kind_in : List ℕ → Fact → Option Kind
kind_in name (Scope of kind.Class) = if bytes_eq of name then Some kind.Class else None
kind_in name (Scope of kind.Module) = if bytes_eq of name then Some kind.Module else None
kind_in name _ = None

-- the kind of the first class or module declaration of the name
abbrev pub body_kind : List Fact → List ℕ → Option Kind
body_kind [] name = None
body_kind (f ∷ fs) name = option_or (kind_in name f) (body_kind fs name)

-- whether the fact is a constant assignment to the name
abbrev pub is_value_of : List ℕ → Fact → Bool
is_value_of name (Value of scope given) = bytes_eq of name
is_value_of name _ = false

-- The first class or module declaration of a name gives its kind. A name with constant assignments alone is a value constant.
unfoldable pub kind_of : List Fact → List ℕ → Option Kind
kind_of fs name = option_or (body_kind fs name) (if list_any (is_value_of name) fs then Some kind.Value else None)

-- The name of the last part in the scope, or at the root where there is no scope, if it is the name of a class, a module or a value
-- constant.
abbrev pub within_of : List Fact → Option (List ℕ) → List ℕ → Option (List ℕ)
within_of fs scope last = if is_some (kind_of fs (full_name scope last)) then Some (full_name scope last) else None
