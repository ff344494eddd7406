-- The numbers of the errors of declarations, and those that the rules give to facts.
use Rattle.std.specs.Prelude.{◌≡◌, ℕ, ◌⊎◌, List, [], ◌∷◌, Option}
use Rattle.std.specs.Option.{option_map}
use Rattle.srb_terms.specs.declared.diag.Diag.{Diag}
use Rattle.srb_terms.specs.declared.fact.Fact.{Fact}
use Rattle.srb_terms.specs.declared.fact.Fact.TheVariants.{Scope, Parent, Value}
use Rattle.srb_terms.specs.declared.fact.Given.{Given}
use Rattle.srb_terms.specs.declared.fact.How.TheVariants.{Super, Include, Extend}
use Rattle.srb_terms.specs.declared.fact.Kind.{Kind}
use Rattle.srb_terms.specs.declared.span.Span.{Span}
use Rattle.srb_rules.specs.Conflicts.{conflict_of}
use Rattle.srb_declarations.specs.declared.declaration.Declaration.{Declaration}
use Rattle.srb_declarations.specs.declared.declaration.Declaration.TheVariants as declaration
use Rattle.srb_conflicts.specs.Conflicts.{declaration_error, known}

-- the fact is one of these
abbrev pub IsOneOf : List Fact → Fact → Type 0
IsOneOf [] f = ⊥
IsOneOf (g ∷ gs) f = (g ≡ f) ⊎ IsOneOf gs f

-- the number of an error, if there is one
abbrev pub number_of : Option Diag → Option ℕ
number_of e = option_map (λ d. d.number) e

-- the number of the error of a declaration in a project of these facts
abbrev pub number_in : List Fact → Declaration → Option ℕ
number_in fs d = number_of (declaration_error (known fs) d)

-- a class or module
abbrev pub BodiesAgree : Type 0
BodiesAgree = (fs : List Fact) (name : List ℕ) (k : Kind) (span : Span)
    → number_in fs (declaration.Body name k span) ≡ conflict_of fs (Scope name k)

-- a constant, whatever is told of its value
abbrev pub ConstantsAgree : Type 0
ConstantsAgree = (fs : List Fact) (name : List ℕ) (scope : List (List ℕ)) (given : Given) (span : Span)
    → number_in fs (declaration.Constant name span) ≡ conflict_of fs (Value name scope given)

-- a superclass
abbrev pub SuperclassesAgree : Type 0
SuperclassesAgree = (fs : List Fact) (of : List ℕ) (scope path : List (List ℕ)) (span : Span) → IsOneOf fs (Parent of scope path Super)
    → number_in fs (declaration.Superclass of scope path span) ≡ conflict_of fs (Parent of scope path Super)

-- an argument of `include`
abbrev pub IncludesAgree : Type 0
IncludesAgree = (fs : List Fact) (of : List ℕ) (scope path : List (List ℕ)) (span : Span) → IsOneOf fs (Parent of scope path Include)
    → number_in fs (declaration.Mixin of scope path Include span) ≡ conflict_of fs (Parent of scope path Include)

-- an argument of `extend`
abbrev pub ExtendsAgree : Type 0
ExtendsAgree = (fs : List Fact) (of : List ℕ) (scope path : List (List ℕ)) (span : Span)
    → number_in fs (declaration.Mixin of scope path Extend span) ≡ conflict_of fs (Parent of scope path Extend)
