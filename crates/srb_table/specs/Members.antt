-- What facts say of methods and of instance variables, and how they have the types that are written out.
use Rattle.std.specs.Prelude.{ℕ, Bool, true, false, not, ◌&&◌, List, [], ◌∷◌, map, Option, None, Some, bytes_eq, if◌then◌else◌}
use Rattle.std.specs.Option.{option_or}
use Rattle.srb_terms.specs.declared.fact.Fact.{Fact}
use Rattle.srb_terms.specs.declared.fact.Fact.TheVariants.{Method, Ivar}
use Rattle.srb_terms.specs.declared.fact.ParamShape.{ParamShape}
use Rattle.srb_terms.specs.declared.outline.SigText.{SigText}
use Rattle.srb_terms.specs.declared.ty.Method as table
use Rattle.srb_terms.specs.declared.ty.Param.{Param}
use Rattle.srb_terms.specs.declared.ty.Ty.{Ty}
use Rattle.srb_terms.specs.declared.ty.Ty.TheVariants as ty
use Rattle.srb_rules.specs.Values.{Reads}
use Rattle.srb_sig.specs.declared.signature.SigRead.{SigRead}
use Rattle.srb_sig.specs.Chains.{Said, well_formed}
use Rattle.srb_sig.specs.Signatures.{sig_read}
use Rattle.srb_sig.specs.Types.{type_of}
use Rattle.srb_sig.specs.Views.{View, view_of}

-- ---- declarations

-- what the last of some facts says that says something
abbrev pub last_by : {X : Type 0} → (Fact → Option X) → List Fact → Option X
last_by says [] = None
last_by says (f ∷ fs) = option_or (last_by says fs) (says f)

-- whether both are true, or both false
abbrev pub same : Bool → Bool → Bool
same true b = b
same false b = not b

-- What a declaration by `of`, for class objects or not, says of the name of an owner, for class objects or not. "`def self.m` belongs to
-- the class object", and a variable there to it too.
abbrev pub if_owned : {X : Type 0} → (owner : List ℕ) → (meta : Bool) → (name of : List ℕ) → (object : Bool) → (called : List ℕ) → X → Option X → Option X
if_owned owner meta name of object called said other =
    if same object meta then (if bytes_eq of owner && bytes_eq called name then Some said else other) else other

-- ---- types that are written out

-- "A type expression with a wrong part counts as `T.untyped` as a whole."
abbrev pub reads_by : View → Reads
reads_by v scope text = type_of v scope text.tree

-- ---- methods

-- a parameter without a type
abbrev pub untyped_param : ParamShape → Param
untyped_param p = record { name = p.name; kind = p.kind; ty = ty.Untyped }

-- a method without types
abbrev pub untyped_method : List ℕ → List ℕ → List ParamShape → table.Method
untyped_method owner name shapes = record { owner = owner; name = name; params = map untyped_param shapes; result = ty.Untyped; typed = false }

-- a method with the types of its signature
abbrev pub typed_method : List ℕ → List ℕ → SigRead → table.Method
typed_method owner name read = record { owner = owner; name = name; params = read.params; result = read.result; typed = true }

module _ (v : View) (owner : List ℕ) (scope : List (List ℕ)) (name : List ℕ) (shapes : List ParamShape) where
  -- "Anything else is 5003, and the method counts as without types."
  abbrev pub method_said : Option Said → table.Method
  method_said None = untyped_method owner name shapes
  method_said (Some said) = typed_method owner name (sig_read v scope shapes said)

  -- the method that a declaration gives, with or without a signature
  abbrev pub method_given : Option SigText → table.Method
  method_given None = untyped_method owner name shapes
  method_given (Some sig) = method_said (well_formed shapes sig.tree)

-- the method that a fact gives to the name of an owner
abbrev pub method_in : View → List ℕ → Bool → List ℕ → Fact → Option table.Method
method_in v owner meta name (Method of scope object called shapes sig) =
    if_owned owner meta name of object called (method_given v of scope called shapes sig) None
method_in v owner meta name _ = None

-- "The last declared method of an owner counts, with its parameters and its signature." Where a later declaration of the owner is of the
-- other kind, "the facts of its body count all the same".
unfoldable pub method_of : List Fact → List ℕ → Bool → List ℕ → Option table.Method
method_of fs owner meta name = last_by (method_in (view_of fs) owner meta name) fs

-- ---- instance variables

-- the type that a fact gives to the variable of an owner
abbrev pub ivar_in : View → List ℕ → Bool → List ℕ → Fact → Option Ty
ivar_in v owner meta name (Ivar of scope object called given) = if_owned owner meta name of object called (reads_by v scope given) None
ivar_in v owner meta name _ = None

-- "The last declaration of an owner counts."
unfoldable pub ivar_of : List Fact → List ℕ → Bool → List ℕ → Option Ty
ivar_of fs owner meta name = last_by (ivar_in (view_of fs) owner meta name) fs
