-- The error of a declaration has the number of its fact.
use Rattle.std.proofs.Common.{◌≡◌, ℕ, Bool, true, false, not, ◌||◌, List, bytes_eq, cond, Option, Some, None, refl, sym, ap, ◌∙◌}
use Rattle.std.specs.Option.{option_and_then, option_map, option_or}
use Rattle.srb_terms.specs.declared.diag.Diag.{Diag}
use Rattle.srb_terms.specs.declared.fact.Fact.{Fact}
use Rattle.srb_terms.specs.declared.fact.Fact.TheVariants.{Scope, Parent}
use Rattle.srb_terms.specs.declared.fact.How.TheVariants.{Super, Include, Extend}
use Rattle.srb_terms.specs.declared.fact.Kind.{Kind}
use Rattle.srb_terms.specs.declared.fact.Kind.TheVariants as kind
use Rattle.srb_terms.specs.declared.span.Span.{Span}
use Rattle.srb_rules.specs.declared.position.Position.TheVariants as position
use Rattle.srb_rules.specs.Circles.{circle_of}
use Rattle.srb_rules.specs.Conflicts.{CIRCULAR_PARENT, MIXIN_IS_NO_MODULE, NOT_INHERITABLE, OTHER_KIND, SUPERCLASS_TWICE, conflict_of, if_so, include_conflict, is_other, superclass_conflict}
use Rattle.srb_rules.specs.FullNames.{BASIC_OBJECT}
use Rattle.srb_rules.specs.Kinds.{is_body, is_class, is_module, kind_of}
use Rattle.srb_rules.specs.Links.{is_circular}
use Rattle.srb_rules.specs.Parents.{deciding, include_link, inherited, is_inheritable, links, mixed_in, parent_named, super_link}
use Rattle.srb_rules.specs.Resolves.{resolves}
use Rattle.srb_conflicts.specs.Conflicts.{body_error, circle_error, constant_error, known, mixin_error, other_than, superclass_error, superclass_known}
use Rattle.srb_conflicts.specs.Errors.{cannot_be_inherited, has_superclass, is_circular_parent, is_no_module}
use Rattle.srb_conflicts.proofs.Choices.{are-same}
use Rattle.srb_conflicts_laws.specs.Numbers.{BodiesAgree, ConstantsAgree, ExtendsAgree, IncludesAgree, IsOneOf, SuperclassesAgree, number_of}
use Rattle.srb_conflicts_laws.proofs.Counted.{include-circle, known-decided, some-decides, super-circle}

-- ---- classes, modules and constants

pub bodies-agree : BodiesAgree
unfolding conflict_of
bodies-agree fs name k span = by k
  where
    class : (o : Option Kind) → number_of (body_error o kind.Class span name) ≡ if_so (is_module o) OTHER_KIND
    class (Some kind.Class) = refl
    class (Some kind.Module) = refl
    class (Some kind.Value) = refl
    class None = refl

    other : (o : Option Kind) → number_of (body_error o kind.Module span name) ≡ if_so (is_class o) OTHER_KIND
    other (Some kind.Class) = refl
    other (Some kind.Module) = refl
    other (Some kind.Value) = refl
    other None = refl

    none : (o : Option Kind) → number_of (body_error o kind.Value span name) ≡ None
    none (Some kind.Class) = refl
    none (Some kind.Module) = refl
    none (Some kind.Value) = refl
    none None = refl

    by : (k : Kind) → number_of (body_error (kind_of fs name) k span name) ≡ conflict_of fs (Scope name k)
    by kind.Class = class (kind_of fs name)
    by kind.Module = other (kind_of fs name)
    by kind.Value = none (kind_of fs name)

pub constants-agree : ConstantsAgree
unfolding conflict_of
constants-agree fs name scope given span = by (kind_of fs name)
  where
    by : (o : Option Kind) → number_of (constant_error o span name) ≡ if_so (is_body o) OTHER_KIND
    by (Some kind.Class) = refl
    by (Some kind.Module) = refl
    by (Some kind.Value) = refl
    by None = refl

-- ---- superclasses and mixins

-- a superclass or a mixin stands for the same name in both
same-name : (fs : List Fact) (scope path : List (List ℕ)) → resolves fs scope path position.Parent ≡ parent_named fs scope path
unfolding resolves
same-name fs scope path = refl

-- an error where a test holds, and its number
if-number : (b : Bool) (e : Diag) → number_of (cond b (Some e) None) ≡ if_so b e.number
if-number true e = refl
if-number false e = refl

-- the superclass may be inherited
inherited-agrees : (fs : List Fact) (of : List ℕ) (scope path : List (List ℕ)) (span : Span) (d : List ℕ) → IsOneOf fs (Parent of scope path Super)
    → is_class (kind_of fs of) ≡ true → inherited fs scope path ≡ Some d
    → number_of (option_or (option_map (has_superclass span of) (other_than d (superclass_known fs of))) (circle_error (known fs) of span d))
    ≡ cond (is_other (deciding fs of) d) (Some SUPERCLASS_TWICE) (if_so (bytes_eq of BASIC_OBJECT || is_circular (links fs) (super_link of d)) CIRCULAR_PARENT)
inherited-agrees fs of scope path span d one class told =
    let found = some-decides fs of scope path d one told in
    ap (λ (o : Option (List ℕ)). number_of (option_or (option_map (has_superclass span of) (other_than d o)) (circle_error (known fs) of span d)))
    (known-decided fs of found.0 class found.1)
    ∙ by found.0 (bytes_eq found.0 d) refl found.1
    ∙ ap (λ (o : Option (List ℕ)). cond (is_other o d) (Some SUPERCLASS_TWICE) (if_so (bytes_eq of BASIC_OBJECT || is_circular (links fs) (super_link of d)) CIRCULAR_PARENT))
    (sym found.1)
  where
    by : (p : List ℕ) (b : Bool) → bytes_eq p d ≡ b → deciding fs of ≡ Some p
        → number_of (option_or (option_map (has_superclass span of) (cond b None (Some p))) (circle_error (known fs) of span d))
        ≡ cond (not b) (Some SUPERCLASS_TWICE) (if_so (bytes_eq of BASIC_OBJECT || is_circular (links fs) (super_link of d)) CIRCULAR_PARENT)
    by p false e decides = refl
    by p true e decides =
        if-number (circle_of fs of d) (is_circular_parent span of d)
        ∙ ap (λ b. if_so b CIRCULAR_PARENT) (super-circle fs of d class (decides ∙ ap Some (are-same p d e)))

pub superclasses-agree : SuperclassesAgree
unfolding conflict_of inherited
superclasses-agree fs of scope path span one = by (is_class (kind_of fs of)) refl
  where
    at : (d : List ℕ) → is_class (kind_of fs of) ≡ true → parent_named fs scope path ≡ Some d → (b : Bool) → is_inheritable (kind_of fs d) d ≡ b
        → number_of (cond (not b) (Some (cannot_be_inherited span d))
        (option_or (option_map (has_superclass span of) (other_than d (superclass_known fs of))) (circle_error (known fs) of span d)))
        ≡ cond (not b) (Some NOT_INHERITABLE)
        (cond (is_other (deciding fs of) d) (Some SUPERCLASS_TWICE) (if_so (bytes_eq of BASIC_OBJECT || is_circular (links fs) (super_link of d)) CIRCULAR_PARENT))
    at d class told false e = refl
    at d class told true e =
        inherited-agrees fs of scope path span d one class
        (ap (option_and_then (λ (x : List ℕ). cond (is_inheritable (kind_of fs x) x) (Some x) None)) told ∙ ap (λ b. cond b (Some d) None) e)

    each : (o : Option (List ℕ)) → is_class (kind_of fs of) ≡ true → parent_named fs scope path ≡ o
        → number_of (option_and_then (superclass_error (known fs) of span) o) ≡ option_and_then (superclass_conflict fs of) o
    each None class told = refl
    each (Some d) class told = at d class told (is_inheritable (kind_of fs d) d) refl

    by : (b : Bool) → is_class (kind_of fs of) ≡ b
        → number_of (cond b (option_and_then (superclass_error (known fs) of span) (resolves fs scope path position.Parent)) None)
        ≡ cond b (option_and_then (superclass_conflict fs of) (parent_named fs scope path)) None
    by false e = refl
    by true e =
        ap (λ (o : Option (List ℕ)). number_of (option_and_then (superclass_error (known fs) of span) o)) (same-name fs scope path)
        ∙ each (parent_named fs scope path) e refl

pub includes-agree : IncludesAgree
unfolding conflict_of mixed_in
includes-agree fs of scope path span one =
    ap (λ (o : Option (List ℕ)). number_of (option_and_then (mixin_error (known fs) Include of span) o)) (same-name fs scope path)
    ∙ each (parent_named fs scope path) refl
  where
    at : (m : List ℕ) → parent_named fs scope path ≡ Some m → (b : Bool) → is_module (kind_of fs m) ≡ b
        → number_of (cond (not b) (Some (is_no_module span)) (circle_error (known fs) of span m))
        ≡ cond (not b) (Some MIXIN_IS_NO_MODULE) (if_so (is_circular (links fs) (include_link of m)) CIRCULAR_PARENT)
    at m told false e = refl
    at m told true e =
        let mixed : mixed_in fs scope path ≡ Some m =
        ap (option_and_then (λ (x : List ℕ). cond (is_module (kind_of fs x)) (Some x) None)) told ∙ ap (λ b. cond b (Some m) None) e in
        if-number (circle_of fs of m) (is_circular_parent span of m)
        ∙ ap (λ b. if_so b CIRCULAR_PARENT) (include-circle fs of scope path m one mixed e)

    each : (o : Option (List ℕ)) → parent_named fs scope path ≡ o
        → number_of (option_and_then (mixin_error (known fs) Include of span) o) ≡ option_and_then (include_conflict fs of) o
    each None told = refl
    each (Some m) told = at m told (is_module (kind_of fs m)) refl

pub extends-agree : ExtendsAgree
unfolding conflict_of
extends-agree fs of scope path span =
    ap (λ (o : Option (List ℕ)). number_of (option_and_then (mixin_error (known fs) Extend of span) o)) (same-name fs scope path)
    ∙ each (parent_named fs scope path)
  where
    at : (m : List ℕ) (b : Bool) → number_of (cond (not b) (Some (is_no_module span)) None) ≡ if_so (not b) MIXIN_IS_NO_MODULE
    at m true = refl
    at m false = refl

    each : (o : Option (List ℕ)) → number_of (option_and_then (mixin_error (known fs) Extend of span) o)
        ≡ option_and_then (λ (m : List ℕ). if_so (not (is_module (kind_of fs m))) MIXIN_IS_NO_MODULE) o
    each None = refl
    each (Some m) = at m (is_module (kind_of fs m))
