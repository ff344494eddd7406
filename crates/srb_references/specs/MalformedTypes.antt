-- Malformed type expressions: the parts that are wrong in another way than that a constant isn't found. The parts of a type expression are
-- the expression itself and, where it has a form, the parts of each type expression that stands in it; the C of a `T.class_of` is such a part.
use Rattle.std.specs.Prelude.{ℕ, Bool, true, false, ◌==◌, List, [], ◌∷◌, codes, if◌then◌else◌, Option, Some, None}
use Rattle.std.specs.List.{flat_map}
use Rattle.srb_terms.specs.declared.diag.Diag.{Diag}
use Rattle.rb_tree.specs.Trees.{span_of}
use Rattle.rb_tree.specs.declared.syntax.Tree.{Tree}
use Rattle.rb_outline.specs.Outlines.{outline_of}
use Rattle.rb_views.specs.Paths.{Path, path_of}
use Rattle.srb_declarations.specs.Declarations.{written}
use Rattle.srb_rules.specs.Values.{is_value}
use Rattle.srb_sig.specs.Types.{wrong_parts}
use Rattle.srb_sig.specs.Views.{View}
use Rattle.srb_sig.specs.declared.wrong.WrongPart.{WrongPart}
use Rattle.srb_references.specs.Readings.{Visit}
use Rattle.srb_references.specs.References.{visits}
use Rattle.srb_references.specs.TypeForms.{type_form}
use Rattle.srb_references.specs.declared.reading.Reading.{Reading}
use Rattle.srb_references.specs.declared.reading.Reading.TheVariants as reading
use Rattle.srb_references.specs.declared.type_form.TypeForm.{TypeForm}
use Rattle.srb_references.specs.declared.type_form.TypeForm.TheVariants as form

-- ---- the parts of type expressions

-- whether a part is read as one of a type expression
abbrev pub is_type_part : Reading → Bool
is_type_part reading.TypeExpression = true
is_type_part reading.ClassName = true
is_type_part _ = false

abbrev pub own_types : Visit Tree → List (Visit Tree)
own_types v = if is_type_part v.reading then v ∷ [] else []

-- all parts of the type expressions of a program, in the order in which they are read
unfoldable pub types_of : Tree → List (Visit Tree)
types_of t = flat_map own_types (visits t)

-- ---- which are malformed, by what is known of the project's names

-- whether the first wrong part is the expression itself
abbrev pub begins_with_whole : List WrongPart → Bool
begins_with_whole [] = false
begins_with_whole (p ∷ ps) = p.part == 0

module _ (v : View) where
  -- "A path to a value constant is 5004."
  abbrev pub stands_for_value : Option (List ℕ) → Bool
  stands_for_value None = false
  stands_for_value (Some name) = is_value (v.lineage.kind name)

  abbrev pub names_value : List (List ℕ) → Option Path → Bool
  names_value scope None = false
  names_value scope (Some p) = stands_for_value (v.finds scope (written p.top p.names))

  -- "A `T.all` that multiplied out has more than 256 parts is wrong with 5004 where no part inside it is wrong."
  abbrev pub is_too_large : List (List ℕ) → Tree → Bool
  is_too_large scope t = begins_with_whole (wrong_parts v scope (outline_of t))

  -- "Every other part that has none of these forms is wrong with 5004."
  abbrev pub is_malformed_form : List (List ℕ) → Tree → TypeForm → Bool
  is_malformed_form scope t form.Other = true
  is_malformed_form scope t form.Path = names_value scope (path_of t)
  is_malformed_form scope t form.AllOf = is_too_large scope t
  is_malformed_form scope t _ = false

  abbrev pub is_malformed_by : Reading → List (List ℕ) → Tree → Bool
  is_malformed_by reading.TypeExpression scope t = is_malformed_form scope t (type_form t)
  is_malformed_by reading.ClassName scope t = names_value scope (path_of t)
  is_malformed_by _ scope t = false

  unfoldable pub is_malformed : Visit Tree → Bool
  is_malformed p = is_malformed_by p.reading p.scope p.part

-- ---- errors

abbrev pub MALFORMED_TYPE : ℕ
MALFORMED_TYPE = 5004

-- "Each wrong part is reported at its own place."
abbrev pub malformed_type : Tree → Diag
malformed_type t = record { span = span_of t; number = MALFORMED_TYPE; text = codes "malformed type" }

abbrev pub malformed_errors_of : View → Visit Tree → List Diag
malformed_errors_of v p = if is_malformed v p then malformed_type p.part ∷ [] else []

-- the errors of malformed type expressions, of these parts
abbrev pub malformed_errors : View → List (Visit Tree) → List Diag
malformed_errors v parts = flat_map (malformed_errors_of v) parts

-- the error of a part itself, if it is a malformed type expression
abbrev pub own_errors : View → Visit Tree → List Diag
own_errors v p = malformed_errors v (own_types p)
