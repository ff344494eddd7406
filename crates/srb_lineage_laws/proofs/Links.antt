-- Which links facts give: a superclass is a class of a class, and an included module is a module.
use Rattle.std.proofs.Common.{◌≡◌, ℕ, Bool, true, false, not, ◌&&◌, List, [], ◌∷◌, Option, Some, None, cond, refl, ap, subst, unwrap_or, bytes_eq}
use Rattle.std.specs.List.{filter, filter_map, cons_option}
use Rattle.std.specs.Option.{option_or, option_and_then, option_map}
use Rattle.srb_terms.specs.declared.fact.Fact.{Fact}
use Rattle.srb_terms.specs.declared.fact.Fact.TheVariants.{Scope, Parent}
use Rattle.srb_terms.specs.declared.fact.How.{How}
use Rattle.srb_terms.specs.declared.fact.How.TheVariants.{Super, Include, Extend}
use Rattle.srb_terms.specs.declared.fact.Kind.{Kind}
use Rattle.srb_terms.specs.declared.fact.Kind.TheVariants as kind
use Rattle.srb_rules.specs.declared.link.Link.{Link}
use Rattle.srb_rules.specs.FullNames.{OBJECT, BASIC_OBJECT, ARRAY}
use Rattle.srb_rules.specs.Kinds.{is_class, is_module, kind_of}
use Rattle.srb_rules.specs.Links.{counted, is_circular}
use Rattle.srb_rules.specs.Parents.{parent_named, is_inheritable, inherited, mixed_in, superclass_in, first_superclass, deciding, superclass_of, super_link, include_link, link_in, links}
use Rattle.srb_shapes_laws.proofs.Bools.{and-first}

abbrev pub GoodAs : (List ℕ → Option Kind) → How → List ℕ → List ℕ → Type 0
GoodAs kinds Super of to = (kinds of ≡ Some kind.Class) × (kinds to ≡ Some kind.Class)
GoodAs kinds Include of to = kinds to ≡ Some kind.Module
GoodAs kinds Extend of to = ⊥

abbrev pub IsGood : (List ℕ → Option Kind) → Link → Type 0
IsGood kinds l = GoodAs kinds l.how l.of l.to

abbrev pub EachLink : (Link → Type 0) → List Link → Type 0
EachLink P [] = Unit {0}
EachLink P (l ∷ ls) = P l × EachLink P ls

pub links-filtered : (P : Link → Type 0) (test : Link → Bool) (ls : List Link) → EachLink P ls → EachLink P (filter test ls)
links-filtered P test [] h = h
links-filtered P test (l ∷ ls) h =
    let rest : EachLink P (filter test ls) = links-filtered P test ls h.1 in
    elim (test l) as (λ t. EachLink P (cond t (l ∷ filter test ls) (filter test ls))) [ true ↦ (h.0, rest) | false ↦ rest ]

class-is : (k : Option Kind) → is_class k ≡ true → k ≡ Some kind.Class
class-is None h = cc
class-is (Some kind.Class) h = refl
class-is (Some kind.Module) h = cc
class-is (Some kind.Value) h = cc

module-is : (k : Option Kind) → is_module k ≡ true → k ≡ Some kind.Module
module-is None h = cc
module-is (Some kind.Class) h = cc
module-is (Some kind.Module) h = refl
module-is (Some kind.Value) h = cc

-- what is found where a test lets it through
kept-if : (found : Option (List ℕ)) (test : List ℕ → Bool) (d : List ℕ) → option_and_then (λ x. cond (test x) (Some x) None) found ≡ Some d → test d ≡ true
kept-if None test d h = cc
kept-if (Some x) test d h = go (test x) refl h
  where
    go : (t : Bool) → test x ≡ t → cond t (Some x) None ≡ Some d → test d ≡ true
    go true e h = let same : x ≡ d = cc in subst (λ y. test y ≡ true) same e
    go false e h = cc

module _ (fs : List Fact) (root : kind_of fs OBJECT ≡ Some kind.Class) where
  inherited-class : (scope path : List (List ℕ)) (d : List ℕ) → inherited fs scope path ≡ Some d → kind_of fs d ≡ Some kind.Class
  unfolding inherited
  inherited-class scope path d h =
      let t = kept-if (parent_named fs scope path) (λ x. is_inheritable (kind_of fs x) x) d h in
      class-is (kind_of fs d) (and-first (is_class (kind_of fs d)) _ (and-first (is_class (kind_of fs d) && not (bytes_eq d ARRAY)) _ t))

  mixed-module : (scope path : List (List ℕ)) (m : List ℕ) → mixed_in fs scope path ≡ Some m → kind_of fs m ≡ Some kind.Module
  unfolding mixed_in
  mixed-module scope path m h = module-is (kind_of fs m) (kept-if (parent_named fs scope path) (λ x. is_module (kind_of fs x)) m h)

  fact-class : (f : Fact) (c d : List ℕ) → superclass_in (inherited fs) c f ≡ Some d → kind_of fs d ≡ Some kind.Class
  fact-class (Parent of scope path Super) c d h = go (bytes_eq of c) h
    where
      go : (t : Bool) → cond t (inherited fs scope path) None ≡ Some d → kind_of fs d ≡ Some kind.Class
      go true h = inherited-class scope path d h
      go false h = cc
  fact-class f c d h = cc

  first-class : (gs : List Fact) (c d : List ℕ) → first_superclass (inherited fs) c gs ≡ Some d → kind_of fs d ≡ Some kind.Class
  first-class [] c d h = cc
  first-class (f ∷ gs) c d h = go (superclass_in (inherited fs) c f) (fact-class f c d) h (first-class gs c d)
    where
      go : (o : Option (List ℕ)) → (o ≡ Some d → kind_of fs d ≡ Some kind.Class) → option_or o (first_superclass (inherited fs) c gs) ≡ Some d
          → (first_superclass (inherited fs) c gs ≡ Some d → kind_of fs d ≡ Some kind.Class) → kind_of fs d ≡ Some kind.Class
      go None k h rest = rest h
      go (Some x) k h rest = k h

  decided-class : (o : Option (List ℕ)) (d : List ℕ) → (o ≡ Some d → kind_of fs d ≡ Some kind.Class) → unwrap_or o OBJECT ≡ d → kind_of fs d ≡ Some kind.Class
  decided-class None d k h = subst (λ x. kind_of fs x ≡ Some kind.Class) h root
  decided-class (Some x) d k h = k (ap Some h)

  superclass-good : (c d : List ℕ) → superclass_of fs c ≡ Some d → (kind_of fs c ≡ Some kind.Class) × (kind_of fs d ≡ Some kind.Class)
  unfolding superclass_of deciding
  superclass-good c d h = go (is_class (kind_of fs c)) refl h
    where
      inner : (t : Bool) → cond t (Some (unwrap_or (first_superclass (inherited fs) c fs) OBJECT)) None ≡ Some d → kind_of fs d ≡ Some kind.Class
      inner true h = decided-class (first_superclass (inherited fs) c fs) d (first-class fs c d) (let same : unwrap_or (first_superclass (inherited fs) c fs) OBJECT ≡ d = cc in same)
      inner false h = cc

      go : (t : Bool) → is_class (kind_of fs c) ≡ t → cond (t && not (bytes_eq c BASIC_OBJECT)) (Some (unwrap_or (first_superclass (inherited fs) c fs) OBJECT)) None ≡ Some d
          → (kind_of fs c ≡ Some kind.Class) × (kind_of fs d ≡ Some kind.Class)
      go true e h = (class-is (kind_of fs c) e, inner (not (bytes_eq c BASIC_OBJECT)) h)
      go false e h = cc

  scope-good : (name : List ℕ) (o : Option (List ℕ)) → ((d : List ℕ) → o ≡ Some d → (kind_of fs name ≡ Some kind.Class) × (kind_of fs d ≡ Some kind.Class)) →
      (l : Link) → option_map (super_link name) o ≡ Some l → IsGood (kind_of fs) l
  scope-good name None k l h = cc
  scope-good name (Some d) k l h = let same : super_link name d ≡ l = cc in subst (IsGood (kind_of fs)) same (k d refl)

  include-good : (of : List ℕ) (o : Option (List ℕ)) → ((m : List ℕ) → o ≡ Some m → kind_of fs m ≡ Some kind.Module) →
      (l : Link) → option_map (include_link of) o ≡ Some l → IsGood (kind_of fs) l
  include-good of None k l h = cc
  include-good of (Some m) k l h = let same : include_link of m ≡ l = cc in subst (IsGood (kind_of fs)) same (k m refl)

  fact-good : (f : Fact) (l : Link) → link_in (superclass_of fs) (mixed_in fs) f ≡ Some l → IsGood (kind_of fs) l
  fact-good (Scope name k) l h = scope-good name (superclass_of fs name) (superclass-good name) l h
  fact-good (Parent of scope path Include) l h = include-good of (mixed_in fs scope path) (mixed-module scope path) l h
  fact-good f l h = cc

  all-good : (gs : List Fact) → EachLink (IsGood (kind_of fs)) (filter_map (link_in (superclass_of fs) (mixed_in fs)) gs)
  all-good [] = tt
  all-good (f ∷ gs) = go (link_in (superclass_of fs) (mixed_in fs) f) (fact-good f) (all-good gs)
    where
      go : (o : Option Link) → ((l : Link) → o ≡ Some l → IsGood (kind_of fs) l) → EachLink (IsGood (kind_of fs)) (filter_map (link_in (superclass_of fs) (mixed_in fs)) gs)
          → EachLink (IsGood (kind_of fs)) (cons_option o (filter_map (link_in (superclass_of fs) (mixed_in fs)) gs))
      go None k h = h
      go (Some l) k h = (k l refl, h)

  pub counted-good : EachLink (IsGood (kind_of fs)) (counted (links fs))
  unfolding links
  counted-good = links-filtered (IsGood (kind_of fs)) (λ l. not (is_circular (links fs) l)) (links fs) (all-good fs)
