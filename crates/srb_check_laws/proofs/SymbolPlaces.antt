-- The errors of declarations and references stand where these do.
use Rattle.std.proofs.Common.{ℕ, ◌≡◌, Bool, true, false, not, if◌then◌else◌, List, [], ◌∷◌, ◌++◌, Option, Some, None, IfSome, option_map, refl, subst, sym}
use Rattle.std.specs.List.{cons_option, filter_map}
use Rattle.std.specs.Option.{option_and_then, option_or}
use Rattle.srb_terms.specs.declared.diag.Diag.{Diag}
use Rattle.srb_terms.specs.declared.fact.Fact.{Fact}
use Rattle.srb_terms.specs.declared.fact.How.{How}
use Rattle.srb_terms.specs.declared.fact.How.TheVariants as how
use Rattle.srb_terms.specs.declared.fact.Kind.{Kind}
use Rattle.srb_terms.specs.declared.fact.Kind.TheVariants as kind
use Rattle.srb_terms.specs.declared.span.Span.{Span}
use Rattle.srb_rules.specs.Kinds.{is_class, is_module}
use Rattle.srb_rules.specs.Parents.{is_inheritable}
use Rattle.rb_grammar.specs.Places.{Each}
use Rattle.srb_declarations.specs.declared.declaration.Declaration.{Declaration}
use Rattle.srb_declarations.specs.declared.declaration.Declaration.TheVariants as declaration
use Rattle.srb_declarations_laws.specs.Placed.{place_of}
use Rattle.srb_conflicts.specs.Conflicts.{Known, body_error, circle_error, conflict_errors, constant_error, declaration_error, errors_by, included_error, known, mixin_error, other_than, superclass_error}
use Rattle.srb_conflicts.specs.Errors.{cannot_be_inherited, has_superclass, is_circular_parent, is_no_module}
use Rattle.srb_references.specs.declared.reference.Reference.{Reference}
use Rattle.srb_references.specs.References.{error_by, errors_by as reference_errors_by, is_found, not_found, reference_errors}

-- the fact holds of the place of each error
abbrev pub AreErrorsAt : (Span → Type 0) → List Diag → Type 0
AreErrorsAt P errors = Each (λ (e : Diag). P e.span) errors

pub errors-append : (P : Span → Type 0) (xs ys : List Diag) → AreErrorsAt P xs → AreErrorsAt P ys → AreErrorsAt P (xs ++ ys)
errors-append P [] ys h k = k
errors-append P (x ∷ xs) ys h k = (h.0, errors-append P xs ys h.1 k)

-- ---- declarations

-- the error, if there is one, stands at this place
abbrev IsAt : Span → Option Diag → Type 0
IsAt span error = IfSome error (λ (e : Diag). e.span ≡ span)

body-at : (o : Option Kind) (k : Kind) (span : Span) (name : List ℕ) → IsAt span (body_error o k span name)
body-at (Some kind.Module) kind.Class span name = refl
body-at (Some kind.Class) kind.Module span name = refl
body-at _ _ span name = tt

constant-at : (o : Option Kind) (span : Span) (name : List ℕ) → IsAt span (constant_error o span name)
constant-at (Some kind.Class) span name = refl
constant-at (Some kind.Module) span name = refl
constant-at _ span name = tt

circle-at : (k : Known) (c : List ℕ) (span : Span) (d : List ℕ) → IsAt span (circle_error k c span d)
circle-at k c span d = by_test (k.circular c d)
  where
    by_test : (b : Bool) → IsAt span (if b then Some (is_circular_parent span c d) else None)
    by_test true = refl
    by_test false = tt

superclass-at : (k : Known) (c : List ℕ) (span : Span) (d : List ℕ) → IsAt span (superclass_error k c span d)
superclass-at k c span d = by_test (not (is_inheritable (k.kinds d) d))
  where
    by_other : (p : Option (List ℕ)) → IsAt span (option_or (option_map (has_superclass span c) p) (circle_error k c span d))
    by_other (Some p) = refl
    by_other None = circle-at k c span d

    by_test : (b : Bool)
        → IsAt span (if b then Some (cannot_be_inherited span d) else option_or (option_map (has_superclass span c) (other_than d (k.superclass c))) (circle_error k c span d))
    by_test true = refl
    by_test false = by_other (other_than d (k.superclass c))

included-at : (k : Known) (way : How) (c : List ℕ) (span : Span) (m : List ℕ) → IsAt span (included_error k way c span m)
included-at k how.Include c span m = circle-at k c span m
included-at k _ c span m = tt

mixin-at : (k : Known) (way : How) (c : List ℕ) (span : Span) (m : List ℕ) → IsAt span (mixin_error k way c span m)
mixin-at k way c span m = by_test (not (is_module (k.kinds m)))
  where
    by_test : (b : Bool) → IsAt span (if b then Some (is_no_module span) else included_error k way c span m)
    by_test true = refl
    by_test false = included-at k way c span m

named-at : (span : Span) (error : List ℕ → Option Diag) → ((d : List ℕ) → IsAt span (error d)) → (name : Option (List ℕ)) → IsAt span (option_and_then error name)
named-at span error each None = tt
named-at span error each (Some d) = each d

declaration-at : (k : Known) (d : Declaration) → IsAt (place_of d) (declaration_error k d)
declaration-at k (declaration.Body name declared span) = body-at (k.kinds name) declared span name
declaration-at k (declaration.Constant name span) = constant-at (k.kinds name) span name
declaration-at k (declaration.Superclass of scope path span) = by_class (is_class (k.kinds of))
  where
    by_class : (b : Bool) → IsAt span (if b then option_and_then (superclass_error k of span) (k.named scope path) else None)
    by_class true = named-at span (superclass_error k of span) (superclass-at k of span) (k.named scope path)
    by_class false = tt
declaration-at k (declaration.Mixin of scope path way span) = named-at span (mixin_error k way of span) (mixin-at k way of span) (k.named scope path)
declaration-at k (declaration.OtherMixin span) = refl

errors_by-at : (P : Span → Type 0) (k : Known) (ds : List Declaration) → Each (λ d. P (place_of d)) ds → AreErrorsAt P (errors_by k ds)
errors_by-at P k [] all = tt
errors_by-at P k (d ∷ ds) all = by_error (declaration_error k d) (declaration-at k d) (errors_by-at P k ds all.1)
  where
    by_error : (error : Option Diag) → IsAt (place_of d) error → AreErrorsAt P (errors_by k ds) → AreErrorsAt P (cons_option error (filter_map (declaration_error k) ds))
    by_error None at later = later
    by_error (Some e) at later = (subst P (sym at) all.0, later)

-- each error of a declaration stands at its place
pub conflicts-at : (P : Span → Type 0) (facts : List Fact) (ds : List Declaration) → Each (λ d. P (place_of d)) ds → AreErrorsAt P (conflict_errors facts ds)
unfolding conflict_errors
conflicts-at P facts ds all = errors_by-at P (known facts) ds all

-- ---- references

-- each reference that isn't found has its error at its place
pub references-at : (P : Span → Type 0) (facts : List Fact) (rs : List Reference) → Each (λ (r : Reference). P r.span) rs → AreErrorsAt P (reference_errors facts rs)
unfolding reference_errors error_by
references-at P facts [] all = tt
references-at P facts (r ∷ rs) all = by_test (is_found facts r) (references-at P facts rs all.1)
  where
    by_test : (found : Bool) → AreErrorsAt P (reference_errors_by (is_found facts) rs) → AreErrorsAt P ((if found then [] else not_found r ∷ []) ++ reference_errors_by (is_found facts) rs)
    by_test true later = later
    by_test false later = (all.0, later)
