-- What the facts of a project say of superclasses and mixins.
use Rattle.std.proofs.Common.{◌≡◌, ℕ, Bool, true, false, ◌&&◌, ◌||◌, List, [], ◌∷◌, bytes_eq, cond, Option, Some, None, unwrap_or, refl, sym, ap, ◌∙◌, ⊎_elim}
use Rattle.std.specs.List.{cons_option, filter, filter_map}
use Rattle.std.specs.Option.{option_map}
use Rattle.srb_terms.specs.declared.fact.Fact.{Fact}
use Rattle.srb_terms.specs.declared.fact.Fact.TheVariants.{Scope, Parent, Value, Method, Ivar}
use Rattle.srb_terms.specs.declared.fact.How.TheVariants.{Super, Include, Extend}
use Rattle.srb_terms.specs.declared.fact.Kind.{Kind}
use Rattle.srb_terms.specs.declared.fact.Kind.TheVariants as kind
use Rattle.srb_rules.specs.declared.link.Link.{Link}
use Rattle.srb_rules.specs.Circles.{goes}
use Rattle.srb_rules.specs.FullNames.{BASIC_OBJECT, OBJECT}
use Rattle.srb_rules.specs.Kinds.{is_class, is_module, kind_of}
use Rattle.srb_rules.specs.Parents.{Reference, deciding, first_superclass, include_link, inherited, is_inheritable, link_in, links, mixed_in, parent_named, super_link, superclass_in, superclass_of}
use Rattle.srb_conflicts.proofs.Choices.{and-false, are-same, first-holds, one-holds, one-is, passes, second-holds, under-test}

-- ---- superclasses

-- what a reference inherits may be inherited
inherited-may : (fs : List Fact) (scope path : List (List ℕ)) (d : List ℕ) → inherited fs scope path ≡ Some d → is_inheritable (kind_of fs d) d ≡ true
unfolding inherited
inherited-may fs scope path d h = passes (λ x. is_inheritable (kind_of fs x) x) (parent_named fs scope path) d h

-- `BasicObject` has no superclass
pub none-above : (fs : List Fact) → superclass_of fs BASIC_OBJECT ≡ None
unfolding superclass_of
none-above fs = ap (λ b. cond b (Some (unwrap_or (deciding fs BASIC_OBJECT) OBJECT)) None) (and-false (is_class (kind_of fs BASIC_OBJECT)))

-- the first superclass is one that some fact gives
first-given : (P : List ℕ → Type 0) (inherits : Reference) → ((scope path : List (List ℕ)) (d : List ℕ) → inherits scope path ≡ Some d → P d)
    → (c : List ℕ) (gs : List Fact) (d : List ℕ) → first_superclass inherits c gs ≡ Some d → P d
first-given P inherits each c [] d h = cc
first-given P inherits each c (g ∷ gs) d h =
    ⊎_elim (here g) (first-given P inherits each c gs d) (one-is (superclass_in inherits c g) (first_superclass inherits c gs) d h)
  where
    here : (g : Fact) → superclass_in inherits c g ≡ Some d → P d
    here (Scope name k) e = cc
    here (Parent of scope path Super) e = each scope path d (under-test (bytes_eq of c) (inherits scope path) d e)
    here (Parent of scope path Include) e = cc
    here (Parent of scope path Extend) e = cc
    here (Value name scope given) e = cc
    here (Method owner scope meta name params sig) e = cc
    here (Ivar owner scope meta name given) e = cc

-- a superclass that decides may be inherited
pub decided-may : (fs : List Fact) (c d : List ℕ) → deciding fs c ≡ Some d → is_inheritable (kind_of fs d) d ≡ true
unfolding deciding
decided-may fs c d h = first-given (λ x. is_inheritable (kind_of fs x) x ≡ true) (inherited fs) (inherited-may fs) c fs d h

-- only a class may be inherited
classes-alone : (k : Option Kind) (d : List ℕ) → is_inheritable k d ≡ true → is_class k ≡ true
classes-alone (Some kind.Class) d h = refl
classes-alone (Some kind.Module) d h = h
classes-alone (Some kind.Value) d h = h
classes-alone None d h = h

-- and so it is a class
pub decided-class : (fs : List Fact) (c d : List ℕ) → deciding fs c ≡ Some d → is_class (kind_of fs d) ≡ true
decided-class fs c d h = classes-alone (kind_of fs d) d (decided-may fs c d h)

-- ---- mixins

-- what a reference mixes in is a module
pub mixed-module : (fs : List Fact) (scope path : List (List ℕ)) (m : List ℕ) → mixed_in fs scope path ≡ Some m → is_module (kind_of fs m) ≡ true
unfolding mixed_in
mixed-module fs scope path m h = passes (λ x. is_module (kind_of fs x)) (parent_named fs scope path) m h

-- ---- links

-- a link that some test keeps was there
pub goes-kept : (test : Link → Bool) (ls : List Link) (c d : List ℕ) → goes (filter test ls) c d ≡ true → goes ls c d ≡ true
goes-kept test [] c d h = h
goes-kept test (l ∷ ls) c d h = by (test l) (bytes_eq l.of c && bytes_eq l.to d) (goes (filter test ls) c d) (goes ls c d) (goes-kept test ls c d) (split (test l) h)
  where
    split : (kept : Bool) → goes (cond kept (l ∷ filter test ls) (filter test ls)) c d ≡ true
        → cond kept ((bytes_eq l.of c && bytes_eq l.to d) || goes (filter test ls) c d) (goes (filter test ls) c d) ≡ true
    split true e = e
    split false e = e

    by : (kept here some all : Bool) → (some ≡ true → all ≡ true) → cond kept (here || some) some ≡ true → (here || all) ≡ true
    by kept true some all more e = refl
    by true false some all more e = more e
    by false false some all more e = more e

-- where the optional link goes, or the others go
one-goes : (o : Option Link) (ls : List Link) (c d : List ℕ) (P : Type 0) → ((l : Link) → o ≡ Some l → (l.of ≡ c) → (l.to ≡ d) → P)
    → (goes ls c d ≡ true → P) → goes (cons_option o ls) c d ≡ true → P
one-goes None ls c d P here more h = more h
one-goes (Some l) ls c d P here more h =
    ⊎_elim
    (λ (e : (bytes_eq l.of c && bytes_eq l.to d) ≡ true).
    here l refl (are-same l.of c (first-holds (bytes_eq l.of c) (bytes_eq l.to d) e)) (are-same l.to d (second-holds (bytes_eq l.of c) (bytes_eq l.to d) e)))
    more
    (one-holds (bytes_eq l.of c && bytes_eq l.to d) (goes ls c d) h)

-- each link of `BasicObject` leads to a module
pub modules-from-top : (fs : List Fact) (d : List ℕ) → goes (links fs) BASIC_OBJECT d ≡ true → is_module (kind_of fs d) ≡ true
unfolding links
modules-from-top fs d h = among fs h
  where
    super-none : (name : List ℕ) (o : Option (List ℕ)) (l : Link) → superclass_of fs name ≡ o → option_map (super_link name) o ≡ Some l → l.of ≡ BASIC_OBJECT → ⊥
    super-none name None l told e same = cc
    super-none name (Some to) l told e same =
        let linked : super_link name to ≡ l = cc in
        let top : name ≡ BASIC_OBJECT = ap (λ (x : Link). x.of) linked ∙ same in
        let both : Some to ≡ None = sym told ∙ ap (superclass_of fs) top ∙ none-above fs in cc

    mixes : (of : List ℕ) (o : Option (List ℕ)) (l : Link) → ((m : List ℕ) → o ≡ Some m → is_module (kind_of fs m) ≡ true)
        → option_map (include_link of) o ≡ Some l → l.to ≡ d → is_module (kind_of fs d) ≡ true
    mixes of None l each e same = cc
    mixes of (Some m) l each e same =
        let linked : include_link of m ≡ l = cc in
        let named : m ≡ d = ap (λ (x : Link). x.to) linked ∙ same in
        ap (λ x. is_module (kind_of fs x)) (sym named) ∙ each m refl

    here : (g : Fact) (l : Link) → link_in (superclass_of fs) (mixed_in fs) g ≡ Some l → l.of ≡ BASIC_OBJECT → l.to ≡ d → is_module (kind_of fs d) ≡ true
    here (Scope name k) l e of to = absurd (super-none name (superclass_of fs name) l refl e of)
    here (Parent of scope path Super) l e from to = cc
    here (Parent of scope path Include) l e from to = mixes of (mixed_in fs scope path) l (mixed-module fs scope path) e to
    here (Parent of scope path Extend) l e from to = cc
    here (Value name scope given) l e from to = cc
    here (Method owner scope meta name params sig) l e from to = cc
    here (Ivar owner scope meta name given) l e from to = cc

    among : (gs : List Fact) → goes (filter_map (link_in (superclass_of fs) (mixed_in fs)) gs) BASIC_OBJECT d ≡ true → is_module (kind_of fs d) ≡ true
    among [] e = cc
    among (g ∷ gs) e =
        one-goes (link_in (superclass_of fs) (mixed_in fs) g) (filter_map (link_in (superclass_of fs) (mixed_in fs)) gs) BASIC_OBJECT d
        (is_module (kind_of fs d) ≡ true) (here g) (among gs) e
