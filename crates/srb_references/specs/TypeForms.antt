-- The forms of type expressions: `T.untyped`, `T::Array[X]` and their like, by their exact spellings. Whether a tree has one doesn't depend
-- on what stands in it for X.
use Rattle.std.specs.Prelude.{ℕ, Bool, true, false, ◌&&◌, List, [], ◌∷◌, codes, bytes_eq, if◌then◌else◌, None}
use Rattle.std.specs.List.{list_all}
use Rattle.rb_tree.specs.declared.syntax.Argument.{Argument}
use Rattle.rb_tree.specs.declared.syntax.Argument.TheVariants as argument
use Rattle.rb_tree.specs.declared.syntax.Dot.TheVariants as dot
use Rattle.rb_tree.specs.declared.syntax.Suffix.{Suffix}
use Rattle.rb_tree.specs.declared.syntax.Suffix.TheVariants as suffix
use Rattle.rb_tree.specs.declared.syntax.Tree.{Tree}
use Rattle.rb_tree.specs.declared.syntax.Node.{out-Node}
use Rattle.rb_tree.specs.declared.syntax.Node.TheOpen.{Node-F}
use Rattle.rb_views.specs.Calls.{arguments_of}
use Rattle.srb_references.specs.declared.type_form.TypeForm.{TypeForm}
use Rattle.srb_references.specs.declared.type_form.TypeForm.TheVariants as form

-- ---- tests on trees

abbrev pub begins_path_at : {X Y : Type 0} → Node-F X Y → Bool
begins_path_at (Node-F.Constant name span) = true
begins_path_at (Node-F.TopConstant name name_span span) = true
begins_path_at _ = false

-- whether a tree is a constant, perhaps with `::` in front
unfoldable pub begins_path : Tree → Bool
begins_path t = begins_path_at (out-Node t.node)

abbrev pub is_t_at : {X Y : Type 0} → Node-F X Y → Bool
is_t_at (Node-F.Constant name span) = bytes_eq name (codes "T")
is_t_at _ = false

-- whether a tree is the constant `T`
unfoldable pub is_t : Tree → Bool
is_t t = is_t_at (out-Node t.node)

-- whether a suffix is a constant
abbrev pub is_within : {X : Type 0} → Suffix X → Bool
is_within (suffix.Constant name name_span span) = true
is_within _ = false

abbrev pub is_path_at : {X : Type 0} → Node-F X Tree → Bool
is_path_at (Node-F.Constant name span) = true
is_path_at (Node-F.TopConstant name name_span span) = true
is_path_at (Node-F.Post receiver suffixes span) = begins_path receiver && list_all is_within suffixes
is_path_at _ = false

-- whether a tree is a path of constants and nothing else
unfoldable pub is_path : Tree → Bool
is_path t = is_path_at (out-Node t.node)

-- ---- arguments

-- whether an argument is given by its place
abbrev pub is_positional : {X : Type 0} → Argument X → Bool
is_positional (argument.Positional value) = true
is_positional _ = false

-- whether these are no arguments
abbrev pub has_none : {X : Type 0} → List X → Bool
has_none [] = true
has_none _ = false

-- one by its place
abbrev pub has_one : {X : Type 0} → List (Argument X) → Bool
has_one (argument.Positional value ∷ []) = true
has_one _ = false

-- two by their places
abbrev pub has_two : {X : Type 0} → List (Argument X) → Bool
has_two (argument.Positional first ∷ argument.Positional second ∷ []) = true
has_two _ = false

-- two or more, all by their places
abbrev pub has_more : {X : Type 0} → List (Argument X) → Bool
has_more (first ∷ second ∷ rest) = list_all is_positional (first ∷ second ∷ rest)
has_more _ = false

-- one by its place, a path of constants
abbrev pub has_path : {X : Type 0} → (X → Tree) → List (Argument X) → Bool
has_path it (argument.Positional value ∷ []) = is_path (it value)
has_path it _ = false

-- ---- the calls of a chain that begins by `T.proc`

-- by its place or its name
abbrev pub is_given : {X : Type 0} → Argument X → Bool
is_given (argument.Block span value) = false
is_given _ = true

-- a call by `.`, without a block and without `&`
abbrev pub is_plain_call : {X : Type 0} → Suffix X → Bool
is_plain_call (suffix.Call dot.Plain name name_span arguments None span) = list_all is_given (arguments_of arguments)
is_plain_call _ = false

-- ---- forms

-- this form, where a test holds
abbrev pub form_if : Bool → TypeForm → TypeForm
form_if true f = f
form_if false f = form.Other

-- of `T.name(..)`, by what its arguments are: none, one, more, a path
abbrev pub named_form : List ℕ → Bool → Bool → Bool → Bool → TypeForm
named_form name none one more path =
    if bytes_eq name (codes "untyped") then form_if none form.Untyped
    else (if bytes_eq name (codes "noreturn") then form_if none form.Never
    else (if bytes_eq name (codes "nilable") then form_if one form.Nilable
    else (if bytes_eq name (codes "any") then form_if more form.AnyOf
    else (if bytes_eq name (codes "all") then form_if more form.AllOf
    else (if bytes_eq name (codes "class_of") then form_if path form.ClassOf else form.Other)))))

-- of `T.proc` and the calls after it
abbrev pub proc_form : Bool → Bool → TypeForm
proc_form none calls = form_if (none && calls) form.ProcOf

-- of `T::Name[..]`, by what its arguments are: one, two
abbrev pub index_form : List ℕ → Bool → Bool → TypeForm
index_form name one two =
    if bytes_eq name (codes "Array") then form_if one form.ArrayOf
    else (if bytes_eq name (codes "Hash") then form_if two form.HashOf else form.Other)

-- of `T::Name`
abbrev pub constant_form : List ℕ → TypeForm
constant_form name = if bytes_eq name (codes "Boolean") then form.Boolean else form.Path

-- `it` is the tree of a part
module _ {X : Type 0} (it : X → Tree) where
  -- of `T.name(..)` and what follows it
  abbrev pub call_form : List ℕ → List (Argument X) → List (Suffix X) → TypeForm
  call_form name arguments rest =
      if bytes_eq name (codes "proc") then proc_form (has_none arguments) (list_all is_plain_call rest)
      else (if has_none rest then named_form name (has_none arguments) (has_one arguments) (has_more arguments) (has_path it arguments) else form.Other)

  -- of `T` with these suffixes
  abbrev pub t_form : List (Suffix X) → TypeForm
  t_form (suffix.Constant name name_span span ∷ []) = constant_form name
  t_form (suffix.Constant name name_span span ∷ suffix.Index arguments index_span ∷ []) = index_form name (has_one arguments) (has_two arguments)
  t_form (suffix.Call dot.Plain name name_span arguments None span ∷ rest) = call_form name (arguments_of arguments) rest
  t_form suffixes = form_if (list_all is_within suffixes) form.Path

  -- of an operand with suffixes
  abbrev pub post_form : X → List (Suffix X) → TypeForm
  post_form receiver suffixes =
      if is_t (it receiver) then t_form suffixes else form_if (begins_path (it receiver) && list_all is_within suffixes) form.Path

abbrev pub type_form_at : {X : Type 0} → Node-F X Tree → TypeForm
type_form_at (Node-F.Constant name span) = form.Path
type_form_at (Node-F.TopConstant name name_span span) = form.Path
type_form_at (Node-F.Post receiver suffixes span) = post_form (λ t. t) receiver suffixes
type_form_at _ = form.Other

-- the form that a tree has as a type expression
unfoldable pub type_form : Tree → TypeForm
type_form t = type_form_at (out-Node t.node)
