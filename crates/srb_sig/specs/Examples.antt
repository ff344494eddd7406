-- A few trees and what they are as type expressions and as signatures.
use Rattle.std.specs.Prelude.{◌≡◌, ℕ, true, List, [], ◌∷◌, codes, Some, None}
use Rattle.srb_terms.specs.declared.fact.ParamShape.{ParamShape}
use Rattle.srb_terms.specs.declared.outline.NodeKind.{NodeKind}
use Rattle.srb_terms.specs.declared.outline.NodeKind.TheVariants as kind
use Rattle.srb_terms.specs.declared.outline.Outline.{Outline}
use Rattle.srb_terms.specs.declared.outline.Outline.TheViews.{roll-Outline}
use Rattle.srb_terms.specs.declared.param_kind.ParamKind.TheVariants as param
use Rattle.srb_sig.specs.declared.forms.TypeForm.TheVariants as form
use Rattle.srb_sig.specs.Chains.{nothing, well_formed}
use Rattle.srb_sig.specs.Forms.{class_path, path_of, type_form}

-- ---- trees

-- a node of a kind, with words and parts
abbrev pub node : NodeKind → List ℕ → List Outline → Outline
node k words parts = roll-Outline (record { label = record { kind = k; words = words }; parts = parts })

-- `X`
abbrev pub X : Outline
X = node kind.Constant (codes "X") []

-- `A::B` and `::A`
abbrev pub A_B : Outline
A_B = node kind.Post [] (node kind.Constant (codes "A") [] ∷ node kind.SuffixConstant (codes "B") [] ∷ [])

abbrev pub TOP_A : Outline
TOP_A = node kind.TopConstant (codes "A") []

-- `T` and these suffixes
abbrev pub t_with : List Outline → Outline
t_with suffixes = node kind.Post [] (node kind.Constant (codes "T") [] ∷ suffixes)

-- `(..)` and `.name(..)`
abbrev pub brackets : List Outline → Outline
brackets arguments = node kind.Brackets [] arguments

abbrev pub call : List ℕ → List Outline → Outline
call name arguments = node kind.SuffixCall name (brackets arguments ∷ [])

-- `T.nilable(X)`, `T.nilable(X, X)`, `T&.nilable(X)`
abbrev pub NILABLE : Outline
NILABLE = t_with (call (codes "nilable") (X ∷ []) ∷ [])

abbrev pub NILABLE_TWO : Outline
NILABLE_TWO = t_with (call (codes "nilable") (X ∷ X ∷ []) ∷ [])

abbrev pub NILABLE_SAFE : Outline
NILABLE_SAFE = t_with (node kind.SafeCall (codes "nilable") (brackets (X ∷ []) ∷ []) ∷ [])

-- `T::Array[X]`, `T::Boolean`, `T::Array`
abbrev pub ARRAY : Outline
ARRAY = t_with (node kind.SuffixConstant (codes "Array") [] ∷ node kind.Index [] (X ∷ []) ∷ [])

abbrev pub BOOLEAN : Outline
BOOLEAN = t_with (node kind.SuffixConstant (codes "Boolean") [] ∷ [])

abbrev pub ARRAY_ALONE : Outline
ARRAY_ALONE = t_with (node kind.SuffixConstant (codes "Array") [] ∷ [])

-- `T.class_of(A::B)`, `T.class_of(T.nilable(X))`
abbrev pub CLASS_OF : Outline
CLASS_OF = t_with (call (codes "class_of") (A_B ∷ []) ∷ [])

abbrev pub CLASS_OF_FORM : Outline
CLASS_OF_FORM = t_with (call (codes "class_of") (NILABLE ∷ []) ∷ [])

-- `T.proc.params(x: X).returns(X)`
abbrev pub PROC : Outline
PROC = t_with (node kind.SuffixCall (codes "proc") []
    ∷ call (codes "params") (node kind.Keyword (codes "x") (X ∷ []) ∷ [])
    ∷ call (codes "returns") (X ∷ []) ∷ [])

-- `1`
abbrev pub ONE : Outline
ONE = node kind.Whole (codes "1") []

-- ---- signatures

-- `sig { .. }` with this statement
abbrev pub sig : Outline → Outline
sig statement = node kind.Call (codes "sig") (node kind.Block [] (node kind.Body [] (statement ∷ []) ∷ []) ∷ [])

-- `returns(X)`, `params(a: X)` and calls on them
abbrev pub RETURNS : Outline
RETURNS = node kind.Call (codes "returns") (brackets (X ∷ []) ∷ [])

abbrev pub A_IS_X : List Outline
A_IS_X = node kind.Keyword (codes "a") (X ∷ []) ∷ []

-- `returns(X).params(a: X)`
abbrev pub RETURNS_PARAMS : Outline
RETURNS_PARAMS = node kind.Post [] (RETURNS ∷ call (codes "params") A_IS_X ∷ [])

-- `abstract.returns X`
abbrev pub COMMAND : Outline
COMMAND = node kind.Command [] (node kind.Post [] (node kind.Name (codes "abstract") [] ∷ node kind.SuffixCall (codes "returns") [] ∷ []) ∷ X ∷ [])

-- `returns(X).void`
abbrev pub TWO_RESULTS : Outline
TWO_RESULTS = node kind.Post [] (RETURNS ∷ node kind.SuffixCall (codes "void") [] ∷ [])

-- the parameters `(a)`
abbrev pub TAKES_A : List ParamShape
TAKES_A = record { name = codes "a"; kind = param.Required } ∷ []

-- ---- what they are

-- what trees are as type expressions
pub record FormsAre : Type 0 where
  pub path : type_form A_B ≡ form.Path
  pub top : type_form TOP_A ≡ form.Path
  pub nilable : type_form NILABLE ≡ form.Nilable
  pub two : type_form NILABLE_TWO ≡ form.Other
  pub safe : type_form NILABLE_SAFE ≡ form.Other
  pub array : type_form ARRAY ≡ form.ArrayOf
  pub boolean : type_form BOOLEAN ≡ form.Boolean
  pub alone : type_form ARRAY_ALONE ≡ form.Path
  pub object : type_form CLASS_OF ≡ form.ClassOf
  pub no_path : type_form CLASS_OF_FORM ≡ form.Other
  pub chain : type_form PROC ≡ form.ProcOf
  pub number : type_form ONE ≡ form.Other

-- the names of their paths
pub record PathsAre : Type 0 where
  pub within : path_of A_B ≡ codes "A" ∷ codes "B" ∷ []
  pub top : path_of TOP_A ≡ [] ∷ codes "A" ∷ []
  pub object : class_path CLASS_OF ≡ codes "A" ∷ codes "B" ∷ []

-- whether signatures of a method with the parameter `a` or without a parameter are well-formed, and what they say
pub record ChainsAre : Type 0 where
  pub both : well_formed TAKES_A (sig RETURNS_PARAMS) ≡ Some (record nothing { params = Some A_IS_X; returned = Some X; returns_first = true })
  pub without : well_formed TAKES_A (sig RETURNS) ≡ None
  pub command : well_formed [] (sig COMMAND) ≡ Some (record nothing { returned = Some X; returns_first = true; is_abstract = true })
  pub two : well_formed [] (sig TWO_RESULTS) ≡ None
