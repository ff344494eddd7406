-- How type expressions are read: the type, and the parts that are wrong.
--
-- The parts of a type expression are the expression itself and, where it has a form, the parts of each type expression that stands in
-- it; the C of a `T.class_of` is such a part. They are numbered from 0, each before those in it. Reading goes over them in this order.
use Rattle.std.specs.Prelude.{◌≡◌, ℕ, suc, ◌*◌, Bool, true, false, ◌==◌, nat_lt, List, [], ◌∷◌, ◌++◌, length, map, codes, bytes_eq, if◌then◌else◌, Option, Some, None}
use Rattle.srb_terms.specs.declared.fact.Kind.{Kind}
use Rattle.srb_terms.specs.declared.fact.Kind.TheVariants as what
use Rattle.srb_terms.specs.declared.outline.NodeKind.{NodeKind}
use Rattle.srb_terms.specs.declared.outline.NodeKind.TheVariants as kind
use Rattle.srb_terms.specs.declared.outline.Outline.{Outline, para-Outline}
use Rattle.srb_terms.specs.declared.outline.Outline.TheOpen.{Outline-F}
use Rattle.srb_terms.specs.declared.outline.Outline.TheViews.{roll-Outline}
use Rattle.srb_terms.specs.declared.ty.Ty.{Ty}
use Rattle.srb_terms.specs.declared.ty.Ty.TheVariants as ty
use Rattle.srb_shapes.specs.Lineages.{Lineage}
use Rattle.srb_shapes.specs.Parts as union
use Rattle.srb_types.specs.Normal.{all_of, any_list, any_of, array_of, hash_of}
use Rattle.srb_sig.specs.declared.reading.Leaf.{Leaf}
use Rattle.srb_sig.specs.declared.reading.Leaf.TheVariants.{Known, Wrong}
use Rattle.srb_sig.specs.declared.reading.Notes.{Notes}
use Rattle.srb_sig.specs.declared.reading.Read.{Read}
use Rattle.srb_sig.specs.declared.reading.Row.{Row}
use Rattle.srb_sig.specs.declared.forms.TypeForm.{TypeForm}
use Rattle.srb_sig.specs.declared.forms.TypeForm.TheVariants as form
use Rattle.srb_sig.specs.declared.wrong.Cause.{Cause}
use Rattle.srb_sig.specs.declared.wrong.Cause.TheVariants.{Unresolved, Malformed}
use Rattle.srb_sig.specs.declared.wrong.TyEnd.{TyEnd}
use Rattle.srb_sig.specs.declared.wrong.TyEnd.TheVariants as end
use Rattle.srb_sig.specs.declared.wrong.WrongPart.{WrongPart}
use Rattle.srb_sig.specs.Views.{View}
use Rattle.srb_sig.specs.Forms.{kind_of, path_of, class_path, type_form, has_inner}

-- ---- constants

-- a class or module as a type; `Array` and `Hash` alone have arguments that are untyped
abbrev pub class_type : List ℕ → Ty
class_type name =
    if bytes_eq name (codes "Array") then ty.Arr ty.Untyped
    else (if bytes_eq name (codes "Hash") then ty.Hsh ty.Untyped ty.Untyped else ty.Class name)

-- the type of a constant, or that of its class object
abbrev pub body_type : Bool → List ℕ → Ty
body_type true name = ty.Meta name
body_type false name = class_type name

-- a constant that names a class or module; a value constant is no type
abbrev pub body_leaf : Bool → List ℕ → Option Kind → Leaf
body_leaf object name (Some what.Class) = Known (body_type object name)
body_leaf object name (Some what.Module) = Known (body_type object name)
body_leaf object name _ = Wrong Malformed

-- a path that stands for this name, if for any
abbrev pub found_leaf : Bool → View → Option (List ℕ) → Leaf
found_leaf object v None = Wrong Unresolved
found_leaf object v (Some name) = body_leaf object name (v.lineage.kind name)

-- a path of constants as a part
abbrev pub path_leaf : Bool → View → List (List ℕ) → List (List ℕ) → Leaf
path_leaf object v scope path = found_leaf object v (v.finds scope path)

-- Names that begin with `%` stand in the built-in table alone, for types that a call puts in their places. They are read as they are.
abbrev pub is_stand_in : List ℕ → Bool
is_stand_in [] = false
is_stand_in (first ∷ rest) = first == 37

abbrev pub named_leaf : View → List (List ℕ) → List (List ℕ) → Leaf
named_leaf v scope (name ∷ []) = if is_stand_in name then Known (ty.Class name) else path_leaf false v scope (name ∷ [])
named_leaf v scope path = path_leaf false v scope path

-- ---- parts and their numbers

-- with one more part
abbrev pub counted : Notes → Notes
counted n = record { next = suc n.next; wrong = n.wrong }

-- the part of this number is wrong
abbrev pub with_wrong : ℕ → Cause → Notes → Notes
with_wrong part cause n = record { next = n.next; wrong = n.wrong ++ record { part = part; cause = cause } ∷ [] }

-- a part in which no other stands, at the next number
abbrev pub noted : Leaf → Notes → Read
noted (Known t) n = record { ty = t; notes = counted n }
noted (Wrong cause) n = record { ty = ty.Untyped; notes = counted (with_wrong n.next cause n) }

-- ---- forms in which no type expression stands

abbrev pub NIL : Ty
NIL = ty.Class (codes "NilClass")

-- `T::Boolean`
abbrev pub boolean : Lineage → Ty
boolean L = any_of L (ty.Class (codes "FalseClass")) (ty.Class (codes "TrueClass"))

abbrev pub simple_leaf : View → List (List ℕ) → TypeForm → Outline → Leaf
simple_leaf v scope form.Path t = named_leaf v scope (path_of t)
simple_leaf v scope form.Untyped t = Known ty.Untyped
simple_leaf v scope form.Never t = Known ty.Never
simple_leaf v scope form.Boolean t = Known (boolean v.lineage)
simple_leaf v scope _ t = Wrong Malformed

-- a `T.class_of(C)`: the expression, and then C
abbrev pub class_reading : View → List (List ℕ) → Outline → Notes → Read
class_reading v scope t n = noted (path_leaf true v scope (class_path t)) (counted n)

abbrev pub simple_reading : View → List (List ℕ) → TypeForm → Outline → Notes → Read
simple_reading v scope form.ClassOf t n = class_reading v scope t n
simple_reading v scope f t n = noted (simple_leaf v scope f t) n

-- ---- forms in which type expressions stand

-- the first of some types
abbrev pub first_type : List Ty → Ty
first_type [] = ty.Untyped
first_type (t ∷ ts) = t

abbrev pub second_type : List Ty → Ty
second_type [] = ty.Untyped
second_type (t ∷ ts) = first_type ts

-- `T.all` of a type and of all types of a list
abbrev pub all_after : Lineage → Ty → List Ty → Ty
all_after L so_far [] = so_far
all_after L so_far (t ∷ ts) = all_after L (all_of L so_far t) ts

abbrev pub all_list : Lineage → List Ty → Ty
all_list L [] = ty.Untyped
all_list L (t ∷ ts) = all_after L t ts

-- the type of a form in which these types stand; a chain that begins by `T.proc` is a `Proc`, whatever they are
abbrev pub formed : Lineage → TypeForm → List Ty → Ty
formed L form.Nilable ts = any_of L (first_type ts) NIL
formed L form.AnyOf ts = any_list L ts
formed L form.AllOf ts = all_list L ts
formed L form.ArrayOf ts = array_of L (first_type ts)
formed L form.HashOf ts = hash_of L (first_type ts) (second_type ts)
formed L form.ProcOf ts = ty.Class (codes "Proc")
formed L _ ts = ty.Untyped

-- how many parts a `T.all` of these types has where it is multiplied out
abbrev pub count_of : Ty → ℕ
count_of t = length (union.parts_of t)

abbrev pub product_of : List Ty → ℕ
product_of [] = 1
product_of (t ∷ ts) = count_of t * product_of ts

-- the number, or 257 for one that passes 256
abbrev pub capped : ℕ → ℕ
capped n = if nat_lt 256 n then 257 else n

-- whether these are too many types for a form: a `T.all` has at most 256 parts
abbrev pub is_too_large : TypeForm → List Ty → Bool
is_too_large form.AllOf ts = nat_lt 256 (product_of ts)
is_too_large _ ts = false

-- The expression of this form and number, after the types in it were read. Where a part inside is wrong, the whole is untyped; where none
-- is, the expression may be too large.
abbrev pub formed_by : Bool → Bool → Lineage → TypeForm → ℕ → Row → Read
formed_by false large L f part row = record { ty = ty.Untyped; notes = row.notes }
formed_by true true L f part row = record { ty = ty.Untyped; notes = with_wrong part Malformed row.notes }
formed_by true false L f part row = record { ty = formed L f row.types; notes = row.notes }

abbrev pub formed_reading : Lineage → TypeForm → ℕ → ℕ → Row → Read
formed_reading L f part wrong row = formed_by (length row.notes.wrong == wrong) (is_too_large f row.types) L f part row

-- ---- expressions

-- how an expression is read, and how the type expressions that stand in a part of one are read, in their order, after others
abbrev pub Reading : Type 0
Reading = Notes → Read

abbrev pub Rows : Type 0
Rows = Row → Row

pub record Inside : Type 0 where
  pub own : Reading
  pub rows : Rows

-- with the type of one more expression
abbrev pub with_read : List Ty → Read → Row
with_read types r = record { types = types ++ r.ty ∷ []; notes = r.notes }

abbrev pub with_one : Reading → Rows
with_one reading row = with_read row.types (reading row.notes)

-- each of a list in turn
abbrev pub with_each : {X : Type 0} → (X → Rows) → List X → Rows
with_each f [] row = row
with_each f (x ∷ xs) row = with_each f xs (f x row)

-- an argument: the value of one by name, or the expression itself
abbrev pub argument_rows : NodeKind → Inside → Rows
argument_rows kind.Keyword i = i.rows
argument_rows _ i = with_one i.own

-- what stands in a tree: in brackets the arguments, in a chain those of each call
module _ {X : Type 0} (it : X → Outline) (f : X → Inside) where
  abbrev pub rows_in : NodeKind → List X → Rows
  rows_in kind.Keyword parts = with_each (λ x. with_one (f x).own) parts
  rows_in kind.Brackets parts = with_each (λ x. argument_rows (kind_of (it x)) (f x)) parts
  rows_in kind.Index parts = with_each (λ x. argument_rows (kind_of (it x)) (f x)) parts
  rows_in kind.SuffixCall parts = with_each (λ x. (f x).rows) parts
  rows_in kind.Post parts = with_each (λ x. (f x).rows) parts
  rows_in _ parts = λ row. row

-- an expression in which these stand: by its form. It has a number before those in it
abbrev pub reading_by : View → List (List ℕ) → TypeForm → Outline → Rows → Reading
reading_by v scope f t rows n =
    if has_inner f then formed_reading v.lineage f n.next (length n.wrong) (rows (record { types = []; notes = counted n }))
    else simple_reading v scope f t n

-- how an expression is read by what stands in it
abbrev pub inside_by : View → List (List ℕ) → Outline → Rows → Inside
inside_by v scope t rows = record { own = reading_by v scope (type_form t) t rows; rows = rows }

abbrev pub inside_at : View → List (List ℕ) → Outline-F (Outline × Inside) → Inside
inside_at v scope o = inside_by v scope (roll-Outline (record { label = o.label; parts = map (λ x. x.0) o.parts }))
    (rows_in (λ x. x.0) (λ x. x.1) o.label.kind o.parts)

unfoldable pub inside : View → List (List ℕ) → Outline → Inside
inside v scope = para-Outline Inside (inside_at v scope)

-- how an expression is read after others: its type, and the number after its parts with the wrong ones
abbrev pub reading : View → List (List ℕ) → Outline → Reading
reading v scope t = (inside v scope t).own

abbrev pub rows : View → List (List ℕ) → Outline → Rows
rows v scope t = (inside v scope t).rows

-- ---- answers

-- no part yet
abbrev pub none_yet : Notes
none_yet = record { next = 0; wrong = [] }

-- a type expression by itself
unfoldable pub read_alone : View → List (List ℕ) → Outline → Read
read_alone v scope t = reading v scope t none_yet

-- its wrong parts, by rising numbers
abbrev pub wrong_parts : View → List (List ℕ) → Outline → List WrongPart
wrong_parts v scope t = (read_alone v scope t).notes.wrong

-- its type; as a whole it is untyped where a part is wrong
abbrev pub type_by : Read → List WrongPart → Ty
type_by r [] = r.ty
type_by r _ = ty.Untyped

abbrev pub type_of : View → List (List ℕ) → Outline → Ty
type_of v scope t = type_by (read_alone v scope t) (wrong_parts v scope t)

-- the type of an expression in which no part is wrong
pub record HasType (v : View) (scope : List (List ℕ)) (t : Outline) (type : Ty) : Type 0 where
  pub right : wrong_parts v scope t ≡ []
  pub read : type ≡ (read_alone v scope t).ty

-- the first wrong part has this number and this cause
abbrev pub IsFirstWrong : View → List (List ℕ) → Outline → ℕ → Cause → Type 0
IsFirstWrong v scope t part cause = (rest : List WrongPart) × (wrong_parts v scope t ≡ record { part = part; cause = cause } ∷ rest)

-- why there is none: the first wrong part; of memory nothing is said
abbrev pub IsTyEnd : View → List (List ℕ) → Outline → TyEnd → Type 0
IsTyEnd v scope t (end.Malformed part) = IsFirstWrong v scope t part Malformed
IsTyEnd v scope t (end.Unresolved part) = IsFirstWrong v scope t part Unresolved
IsTyEnd v scope t end.NoMemory = Unit {0}
