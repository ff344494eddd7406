-- The errors of the declarations of a file, by what is known of the names of its project.
use Rattle.std.specs.Prelude.{ℕ, Bool, not, List, Option, None, Some, bytes_eq, if◌then◌else◌}
use Rattle.std.specs.List.{filter_map}
use Rattle.std.specs.Option.{option_and_then, option_map, option_or}
use Rattle.srb_terms.specs.declared.diag.Diag.{Diag}
use Rattle.srb_terms.specs.declared.fact.Fact.{Fact}
use Rattle.srb_terms.specs.declared.fact.How.{How}
use Rattle.srb_terms.specs.declared.fact.How.TheVariants as how
use Rattle.srb_terms.specs.declared.fact.Kind.{Kind}
use Rattle.srb_terms.specs.declared.fact.Kind.TheVariants as kind
use Rattle.srb_terms.specs.declared.span.Span.{Span}
use Rattle.srb_rules.specs.declared.position.Position.TheVariants as position
use Rattle.srb_rules.specs.Circles.{circle_of}
use Rattle.srb_rules.specs.FullNames.{BASIC_OBJECT}
use Rattle.srb_rules.specs.Kinds.{is_class, is_module, kind_of}
use Rattle.srb_rules.specs.Parents.{Reference, deciding, is_inheritable, superclass_of}
use Rattle.srb_rules.specs.Resolves.{resolves}
use Rattle.srb_declarations.specs.declared.declaration.Declaration.{Declaration}
use Rattle.srb_declarations.specs.declared.declaration.Declaration.TheVariants as declaration
use Rattle.srb_conflicts.specs.Errors.{cannot_be_inherited, has_superclass, is_already_class, is_already_module, is_circular_parent, is_no_module}

-- ---- what is known of names

-- What is known of the names of a project: what each of them is, the superclass that a class has, which references from a class or module
-- to another are circular, and for which name a superclass or a mixin stands.
pub record Known : Type 0 where
  pub kinds : List ℕ → Option Kind
  pub superclass : List ℕ → Option (List ℕ)
  pub circular : List ℕ → List ℕ → Bool
  pub named : Reference

-- The superclass that a class has. `BasicObject` has none; for it this is the one that is written and would decide.
abbrev pub superclass_known : List Fact → List ℕ → Option (List ℕ)
superclass_known fs c = if bytes_eq c BASIC_OBJECT then deciding fs c else superclass_of fs c

-- what the facts of a project say
abbrev pub known : List Fact → Known
known fs = record {
  kinds = kind_of fs;
  superclass = superclass_known fs;
  circular = circle_of fs;
  named = λ scope path. resolves fs scope path position.Parent;
}

-- ---- superclasses and mixins

-- the superclass that a class has, where it is another name than d
abbrev pub other_than : List ℕ → Option (List ℕ) → Option (List ℕ)
other_than d None = None
other_than d (Some p) = if bytes_eq p d then None else Some p

-- c refers to d in a circle
abbrev pub circle_error : Known → List ℕ → Span → List ℕ → Option Diag
circle_error k c span d = if k.circular c d then Some (is_circular_parent span c d) else None

-- The class c is declared with the superclass d: d may not be inherited, or c has another superclass, or the reference is circular.
abbrev pub superclass_error : Known → List ℕ → Span → List ℕ → Option Diag
superclass_error k c span d =
    if not (is_inheritable (k.kinds d) d) then Some (cannot_be_inherited span d)
    else option_or (option_map (has_superclass span c) (other_than d (k.superclass c))) (circle_error k c span d)

-- an `include` can be circular; an `extend` leads to no ancestor
abbrev pub included_error : Known → How → List ℕ → Span → List ℕ → Option Diag
included_error k how.Include c span m = circle_error k c span m
included_error k _ c span m = None

-- c mixes in m: m is no module, or the reference is circular
abbrev pub mixin_error : Known → How → List ℕ → Span → List ℕ → Option Diag
mixin_error k way c span m = if not (is_module (k.kinds m)) then Some (is_no_module span) else included_error k way c span m

-- ---- declarations

-- a class has the name of a module, or a module that of a class
abbrev pub body_error : Option Kind → Kind → Span → List ℕ → Option Diag
body_error (Some kind.Module) kind.Class span name = Some (is_already_module span name)
body_error (Some kind.Class) kind.Module span name = Some (is_already_class span name)
body_error _ _ span name = None

-- a constant has the name of a class or module
abbrev pub constant_error : Option Kind → Span → List ℕ → Option Diag
constant_error (Some kind.Class) span name = Some (is_already_class span name)
constant_error (Some kind.Module) span name = Some (is_already_module span name)
constant_error _ span name = None

-- The error of a declaration, if it has one. A superclass has one only where its declaration has none, and a superclass or mixin that
-- stands for nothing has none of these.
abbrev pub declaration_error : Known → Declaration → Option Diag
declaration_error k (declaration.Body name declared span) = body_error (k.kinds name) declared span name
declaration_error k (declaration.Constant name span) = constant_error (k.kinds name) span name
declaration_error k (declaration.Superclass of scope path span) =
    if is_class (k.kinds of) then option_and_then (superclass_error k of span) (k.named scope path) else None
declaration_error k (declaration.Mixin of scope path way span) = option_and_then (mixin_error k way of span) (k.named scope path)
declaration_error k (declaration.OtherMixin span) = Some (is_no_module span)

-- the errors of some declarations, in their order
abbrev pub errors_by : Known → List Declaration → List Diag
errors_by k ds = filter_map (declaration_error k) ds

-- the errors of some declarations in a project of these facts
unfoldable pub conflict_errors : List Fact → List Declaration → List Diag
conflict_errors fs ds = errors_by (known fs) ds
