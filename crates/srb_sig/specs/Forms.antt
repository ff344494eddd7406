-- The forms of type expressions, on trees without places: `T.untyped`, `T::Array[X]` and their like, by their exact spellings. Whether a
-- tree has one doesn't depend on what stands in it for X.
use Rattle.std.specs.Prelude.{ℕ, Bool, true, false, ◌&&◌, List, [], ◌∷◌, map, codes, bytes_eq, if◌then◌else◌, Option, Some, None}
use Rattle.std.specs.List.{list_all}
use Rattle.srb_terms.specs.declared.outline.NodeKind.{NodeKind}
use Rattle.srb_terms.specs.declared.outline.NodeKind.TheVariants as kind
use Rattle.srb_terms.specs.declared.outline.Outline.{Outline, out-Outline}
use Rattle.srb_sig.specs.declared.forms.TypeForm.{TypeForm}
use Rattle.srb_sig.specs.declared.forms.TypeForm.TheVariants as form

-- what a node is, its words, and its parts
abbrev pub kind_of : Outline → NodeKind
kind_of t = (out-Outline t).label.kind

abbrev pub words_of : Outline → List ℕ
words_of t = (out-Outline t).label.words

abbrev pub parts_of : Outline → List Outline
parts_of t = (out-Outline t).parts

-- ---- paths of constants

abbrev pub begins_path_at : NodeKind → Bool
begins_path_at kind.Constant = true
begins_path_at kind.TopConstant = true
begins_path_at _ = false

-- whether a tree is a constant, perhaps with `::` in front
abbrev pub begins_path : Outline → Bool
begins_path t = begins_path_at (kind_of t)

abbrev pub is_t_at : NodeKind → List ℕ → Bool
is_t_at kind.Constant name = bytes_eq name (codes "T")
is_t_at _ name = false

-- whether a tree is the constant `T`
abbrev pub is_t : Outline → Bool
is_t t = is_t_at (kind_of t) (words_of t)

abbrev pub is_within_at : NodeKind → Bool
is_within_at kind.SuffixConstant = true
is_within_at _ = false

-- whether a suffix is a constant
abbrev pub is_within : Outline → Bool
is_within t = is_within_at (kind_of t)

-- whether an operand with suffixes is a path of constants
abbrev pub is_path_row : List Outline → Bool
is_path_row [] = false
is_path_row (operand ∷ suffixes) = begins_path operand && list_all is_within suffixes

abbrev pub is_path_at : NodeKind → List Outline → Bool
is_path_at kind.Constant parts = true
is_path_at kind.TopConstant parts = true
is_path_at kind.Post parts = is_path_row parts
is_path_at _ parts = false

-- whether a tree is a path of constants and nothing else
abbrev pub is_path : Outline → Bool
is_path t = is_path_at (kind_of t) (parts_of t)

-- a path that begins with a constant and goes on so; one that begins with `::` has an empty first name
abbrev pub path_from : NodeKind → List ℕ → List (List ℕ) → List (List ℕ)
path_from kind.Constant name rest = name ∷ rest
path_from kind.TopConstant name rest = [] ∷ name ∷ rest
path_from _ name rest = []

-- the path of an operand with constants after it
abbrev pub path_of_row : List Outline → List (List ℕ)
path_of_row [] = []
path_of_row (operand ∷ suffixes) = path_from (kind_of operand) (words_of operand) (map words_of suffixes)

abbrev pub path_at : NodeKind → List ℕ → List Outline → List (List ℕ)
path_at kind.Post name parts = path_of_row parts
path_at k name parts = path_from k name []

-- the names of a path of constants; none for any other tree
abbrev pub path_of : Outline → List (List ℕ)
path_of t = path_at (kind_of t) (words_of t) (parts_of t)

-- ---- arguments

abbrev pub is_positional_at : NodeKind → Bool
is_positional_at kind.Keyword = false
is_positional_at kind.BlockArgument = false
is_positional_at _ = true

-- whether an argument is given by its place
abbrev pub is_positional : Outline → Bool
is_positional t = is_positional_at (kind_of t)

abbrev pub is_given_at : NodeKind → Bool
is_given_at kind.BlockArgument = false
is_given_at _ = true

-- whether an argument is given by its place or its name
abbrev pub is_given : Outline → Bool
is_given t = is_given_at (kind_of t)

-- whether these are no arguments
abbrev pub has_none : List Outline → Bool
has_none [] = true
has_none _ = false

-- one by its place
abbrev pub has_one : List Outline → Bool
has_one (only ∷ []) = is_positional only
has_one _ = false

-- two by their places
abbrev pub has_two : List Outline → Bool
has_two (first ∷ second ∷ []) = is_positional first && is_positional second
has_two _ = false

-- two or more, all by their places
abbrev pub has_more : List Outline → Bool
has_more (first ∷ second ∷ rest) = list_all is_positional (first ∷ second ∷ rest)
has_more _ = false

-- one by its place, a path of constants
abbrev pub has_path : List Outline → Bool
has_path (only ∷ []) = is_path only
has_path _ = false

-- ---- calls without a block

abbrev pub in_brackets_at : NodeKind → List Outline → Option (List Outline)
in_brackets_at kind.Brackets arguments = Some arguments
in_brackets_at _ arguments = None

-- the arguments of a call whose name has these parts after it, none where no brackets stand; None where a block stands there
abbrev pub plain_arguments : List Outline → Option (List Outline)
plain_arguments [] = Some []
plain_arguments (only ∷ []) = in_brackets_at (kind_of only) (parts_of only)
plain_arguments _ = None

abbrev pub all_given : Option (List Outline) → Bool
all_given None = false
all_given (Some arguments) = list_all is_given arguments

abbrev pub is_plain_call_at : NodeKind → List Outline → Bool
is_plain_call_at kind.SuffixCall parts = all_given (plain_arguments parts)
is_plain_call_at _ parts = false

-- whether a suffix is a call by `.`, without a block and without `&`
abbrev pub is_plain_call : Outline → Bool
is_plain_call t = is_plain_call_at (kind_of t) (parts_of t)

-- ---- forms

-- this form, where a test holds
abbrev pub form_if : Bool → TypeForm → TypeForm
form_if true f = f
form_if false f = form.Other

-- of `T.name(..)`, by its arguments
abbrev pub named_form : List ℕ → List Outline → TypeForm
named_form name arguments =
    if bytes_eq name (codes "untyped") then form_if (has_none arguments) form.Untyped
    else (if bytes_eq name (codes "noreturn") then form_if (has_none arguments) form.Never
    else (if bytes_eq name (codes "nilable") then form_if (has_one arguments) form.Nilable
    else (if bytes_eq name (codes "any") then form_if (has_more arguments) form.AnyOf
    else (if bytes_eq name (codes "all") then form_if (has_more arguments) form.AllOf
    else (if bytes_eq name (codes "class_of") then form_if (has_path arguments) form.ClassOf else form.Other)))))

-- of `T.name(..)` and what follows it; a block may not stand there
abbrev pub call_form : List ℕ → Option (List Outline) → List Outline → TypeForm
call_form name None rest = form.Other
call_form name (Some arguments) rest =
    if bytes_eq name (codes "proc") then form_if (has_none arguments && list_all is_plain_call rest) form.ProcOf
    else (if has_none rest then named_form name arguments else form.Other)

-- of `T::Name[..]`, by its arguments
abbrev pub index_form : List ℕ → List Outline → TypeForm
index_form name arguments =
    if bytes_eq name (codes "Array") then form_if (has_one arguments) form.ArrayOf
    else (if bytes_eq name (codes "Hash") then form_if (has_two arguments) form.HashOf else form.Other)

-- of `T::Name` and one more suffix
abbrev pub followed_form : List ℕ → NodeKind → List Outline → TypeForm
followed_form name kind.Index arguments = index_form name arguments
followed_form name kind.SuffixConstant arguments = form.Path
followed_form name _ arguments = form.Other

-- of `T::Name` and what follows it
abbrev pub constant_form : List ℕ → List Outline → TypeForm
constant_form name [] = if bytes_eq name (codes "Boolean") then form.Boolean else form.Path
constant_form name (only ∷ []) = followed_form name (kind_of only) (parts_of only)
constant_form name rest = form_if (list_all is_within rest) form.Path

-- of `T` with these suffixes: by the first one, and what follows it
abbrev pub t_form_at : NodeKind → List ℕ → List Outline → List Outline → TypeForm
t_form_at kind.SuffixCall name parts rest = call_form name (plain_arguments parts) rest
t_form_at kind.SuffixConstant name parts rest = constant_form name rest
t_form_at _ name parts rest = form.Other

abbrev pub t_form : List Outline → TypeForm
t_form [] = form.Path
t_form (first ∷ rest) = t_form_at (kind_of first) (words_of first) (parts_of first) rest

-- of an operand with suffixes
abbrev pub post_form : List Outline → TypeForm
post_form [] = form.Other
post_form (operand ∷ suffixes) =
    if is_t operand then t_form suffixes else form_if (begins_path operand && list_all is_within suffixes) form.Path

abbrev pub type_form_at : NodeKind → List Outline → TypeForm
type_form_at kind.Constant parts = form.Path
type_form_at kind.TopConstant parts = form.Path
type_form_at kind.Post parts = post_form parts
type_form_at _ parts = form.Other

-- the form that a tree has as a type expression
unfoldable pub type_form : Outline → TypeForm
type_form t = type_form_at (kind_of t) (parts_of t)

-- whether type expressions stand in one of this form; the C of a `T.class_of` is none
abbrev pub has_inner : TypeForm → Bool
has_inner form.Nilable = true
has_inner form.AnyOf = true
has_inner form.AllOf = true
has_inner form.ArrayOf = true
has_inner form.HashOf = true
has_inner form.ProcOf = true
has_inner _ = false

-- ---- the C of a `T.class_of`

abbrev pub or_none : Option (List Outline) → List Outline
or_none None = []
or_none (Some arguments) = arguments

-- the arguments of the first call after an operand
abbrev pub first_arguments : List Outline → List Outline
first_arguments (operand ∷ call ∷ rest) = or_none (plain_arguments (parts_of call))
first_arguments _ = []

abbrev pub first_path : List Outline → List (List ℕ)
first_path [] = []
first_path (first ∷ rest) = path_of first

-- the path C of a `T.class_of(C)`
abbrev pub class_path : Outline → List (List ℕ)
class_path t = first_path (first_arguments (parts_of t))
