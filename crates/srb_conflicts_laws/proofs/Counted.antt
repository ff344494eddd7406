-- Which references are circular, told of the facts themselves.
use Rattle.std.proofs.Common.{◌≡◌, ℕ, Bool, true, false, not, ◌&&◌, ◌||◌, ◌⊎◌, inl, inr, List, [], ◌∷◌, bytes_eq, cond, Option, Some, None, unwrap_or, refl, sym, ap, ◌∙◌, ⊎_elim}
use Rattle.std.specs.List.{cons_option, filter, filter_map, list_any}
use Rattle.std.specs.Option.{option_map, option_or}
use Rattle.std.proofs.lemmas.Bool.{true≢false}
use Rattle.srb_terms.specs.declared.fact.Fact.{Fact}
use Rattle.srb_terms.specs.declared.fact.Fact.TheVariants.{Scope, Parent, Value, Method, Ivar}
use Rattle.srb_terms.specs.declared.fact.How.TheVariants.{Super, Include}
use Rattle.srb_terms.specs.declared.fact.Kind.{Kind}
use Rattle.srb_terms.specs.declared.fact.Kind.TheVariants as kind
use Rattle.srb_rules.specs.declared.link.Link.{Link}
use Rattle.srb_rules.specs.Circles.{circle_of, goes, is_named}
use Rattle.srb_rules.specs.FullNames.{BASIC_OBJECT, OBJECT}
use Rattle.srb_rules.specs.Kinds.{body_kind, is_class, is_module, is_value_of, kind_in, kind_of}
use Rattle.srb_rules.specs.Links.{circular_links, is_circular, leads}
use Rattle.srb_rules.specs.Parents.{deciding, first_superclass, include_link, inherited, link_in, links, mixed_in, super_link, superclass_in, superclass_of}
use Rattle.srb_conflicts.specs.Conflicts.{superclass_known}
use Rattle.srb_conflicts.proofs.Choices.{and-false, are-same, first-holds, second-holds, tells-same}
use Rattle.srb_conflicts.proofs.Parents.{decided-class}
use Rattle.srb_conflicts_laws.specs.Numbers.{IsOneOf}

-- ---- links

or-true : (a : Bool) → (a || true) ≡ true
or-true true = refl
or-true false = refl

or-false : (a : Bool) → (a || false) ≡ a
or-false true = refl
or-false false = refl

-- the circular links go from c to d where some link does and d leads to c
goes-circular : (all ls : List Link) (c d : List ℕ) → goes (filter (is_circular all) ls) c d ≡ (goes ls c d && leads all d c)
goes-circular all [] c d = refl
goes-circular all (l ∷ ls) c d =
    split (is_circular all l)
    ∙ step (bytes_eq l.of c && bytes_eq l.to d) (is_circular all l) (goes (filter (is_circular all) ls) c d) (goes ls c d) (leads all d c) back (goes-circular all ls c d)
  where
    split : (kept : Bool) → goes (cond kept (l ∷ filter (is_circular all) ls) (filter (is_circular all) ls)) c d
        ≡ cond kept ((bytes_eq l.of c && bytes_eq l.to d) || goes (filter (is_circular all) ls) c d) (goes (filter (is_circular all) ls) c d)
    split true = refl
    split false = refl

    step : (here kept some any lead : Bool) → (here ≡ true → kept ≡ lead) → some ≡ (any && lead) → cond kept (here || some) some ≡ ((here || any) && lead)
    step true true some any lead same e = same refl
    step true false some any lead same e = e ∙ ap (λ b. any && b) (sym (same refl)) ∙ and-false any ∙ same refl
    step false true some any lead same e = e
    step false false some any lead same e = e

    back : (bytes_eq l.of c && bytes_eq l.to d) ≡ true → is_circular all l ≡ leads all d c
    back h =
        let from = are-same l.of c (first-holds (bytes_eq l.of c) (bytes_eq l.to d) h) in
        let to = are-same l.to d (second-holds (bytes_eq l.of c) (bytes_eq l.to d) h) in
        λ i. leads all (to i) (from i)

goes-later : (o : Option Link) (ls : List Link) (c d : List ℕ) → goes ls c d ≡ true → goes (cons_option o ls) c d ≡ true
goes-later None ls c d h = h
goes-later (Some l) ls c d h = ap (λ b. (bytes_eq l.of c && bytes_eq l.to d) || b) h ∙ or-true (bytes_eq l.of c && bytes_eq l.to d)

goes-here : (o : Option Link) (ls : List Link) (l : Link) (c d : List ℕ) → o ≡ Some l → l.of ≡ c → l.to ≡ d → goes (cons_option o ls) c d ≡ true
goes-here o ls l c d told from to =
    ap (λ (x : Option Link). goes (cons_option x ls) c d) told
    ∙ ap (λ b. (b && bytes_eq l.to d) || goes ls c d) (tells-same l.of c from)
    ∙ ap (λ b. b || goes ls c d) (tells-same l.to d to)

-- a class has a link to its superclass
super-linked : (fs : List Fact) (c d : List ℕ) → is_class (kind_of fs c) ≡ true → superclass_of fs c ≡ Some d → goes (links fs) c d ≡ true
unfolding links kind_of
super-linked fs c d class above = among fs (declared (body_kind fs c) (list_any (is_value_of c) fs) class)
  where
    declared : (a : Option Kind) (b : Bool) → is_class (option_or a (cond b (Some kind.Value) None)) ≡ true → is_class a ≡ true
    declared (Some k) b h = h
    declared None true h = h
    declared None false h = h

    either : (a b : Option Kind) → is_class (option_or a b) ≡ true → (is_class a ≡ true) ⊎ (is_class b ≡ true)
    either (Some k) b h = inl h
    either None b h = inr h

    of-class : (b : Bool) → is_class (cond b (Some kind.Class) None) ≡ true → b ≡ true
    of-class true h = refl
    of-class false h = h

    no-module : (b : Bool) → is_class (cond b (Some kind.Module) None) ≡ true → ⊥
    no-module true h = true≢false (sym h)
    no-module false h = true≢false (sym h)

    here : (rest : List Link) (g : Fact) → is_class (kind_in c g) ≡ true → goes (cons_option (link_in (superclass_of fs) (mixed_in fs) g) rest) c d ≡ true
    here rest (Scope name kind.Class) h =
        let same = are-same name c (of-class (bytes_eq name c) h) in
        goes-here (option_map (super_link name) (superclass_of fs name)) rest (super_link name d) c d
        (ap (option_map (super_link name)) (ap (superclass_of fs) same ∙ above)) same refl
    here rest (Scope name kind.Module) h = absurd (no-module (bytes_eq name c) h)
    here rest (Scope name kind.Value) h = absurd (true≢false (sym h))
    here rest (Parent of scope path way) h = absurd (true≢false (sym h))
    here rest (Value name scope given) h = absurd (true≢false (sym h))
    here rest (Method owner scope meta name params sig) h = absurd (true≢false (sym h))
    here rest (Ivar owner scope meta name given) h = absurd (true≢false (sym h))

    among : (gs : List Fact) → is_class (body_kind gs c) ≡ true → goes (filter_map (link_in (superclass_of fs) (mixed_in fs)) gs) c d ≡ true
    among [] h = absurd (true≢false (sym h))
    among (g ∷ gs) h =
        ⊎_elim
        (here (filter_map (link_in (superclass_of fs) (mixed_in fs)) gs) g)
        (λ e. goes-later (link_in (superclass_of fs) (mixed_in fs) g) (filter_map (link_in (superclass_of fs) (mixed_in fs)) gs) c d (among gs e))
        (either (kind_in c g) (body_kind gs c) h)

-- an `include` gives a link to its module
include-linked : (fs : List Fact) (of : List ℕ) (scope path : List (List ℕ)) (m : List ℕ) → IsOneOf fs (Parent of scope path Include)
    → mixed_in fs scope path ≡ Some m → goes (links fs) of m ≡ true
unfolding links
include-linked fs of scope path m one mixed = among fs one
  where
    among : (gs : List Fact) → IsOneOf gs (Parent of scope path Include) → goes (filter_map (link_in (superclass_of fs) (mixed_in fs)) gs) of m ≡ true
    among [] h = absurd h
    among (g ∷ gs) h =
        ⊎_elim
        (λ (same : g ≡ Parent of scope path Include).
        goes-here (link_in (superclass_of fs) (mixed_in fs) g) (filter_map (link_in (superclass_of fs) (mixed_in fs)) gs) (include_link of m) of m
        (ap (link_in (superclass_of fs) (mixed_in fs)) same ∙ ap (option_map (include_link of)) mixed) refl refl)
        (λ (e : IsOneOf gs (Parent of scope path Include)).
        goes-later (link_in (superclass_of fs) (mixed_in fs) g) (filter_map (link_in (superclass_of fs) (mixed_in fs)) gs) of m (among gs e))
        h

-- ---- superclasses

-- where a superclass is written that may be inherited, some superclass decides
pub some-decides : (fs : List Fact) (of : List ℕ) (scope path : List (List ℕ)) (d : List ℕ) → IsOneOf fs (Parent of scope path Super)
    → inherited fs scope path ≡ Some d → (p : List ℕ) × (deciding fs of ≡ Some p)
unfolding deciding
some-decides fs of scope path d one told = among fs one
  where
    earlier : (o rest : Option (List ℕ)) → ((p : List ℕ) × (rest ≡ Some p)) → (p : List ℕ) × (option_or o rest ≡ Some p)
    earlier None rest found = found
    earlier (Some x) rest found = (x, refl)

    among : (gs : List Fact) → IsOneOf gs (Parent of scope path Super) → (p : List ℕ) × (first_superclass (inherited fs) of gs ≡ Some p)
    among [] h = absurd h
    among (g ∷ gs) h =
        ⊎_elim
        (λ (same : g ≡ Parent of scope path Super). (
          d,
          ap (λ (x : Fact). option_or (superclass_in (inherited fs) of x) (first_superclass (inherited fs) of gs)) same
              ∙ ap (λ b. option_or (cond b (inherited fs scope path) None) (first_superclass (inherited fs) of gs)) (tells-same of of refl)
              ∙ ap (λ (o : Option (List ℕ)). option_or o (first_superclass (inherited fs) of gs)) told,
        ))
        (λ (e : IsOneOf gs (Parent of scope path Super)). earlier (superclass_in (inherited fs) of g) (first_superclass (inherited fs) of gs) (among gs e))
        h

-- what decides is the superclass of a class other than `BasicObject`
super-decided : (fs : List Fact) (c p : List ℕ) → is_class (kind_of fs c) ≡ true → bytes_eq c BASIC_OBJECT ≡ false → deciding fs c ≡ Some p
    → superclass_of fs c ≡ Some p
unfolding superclass_of
super-decided fs c p class other decides =
    ap (λ b. cond (b && not (bytes_eq c BASIC_OBJECT)) (Some (unwrap_or (deciding fs c) OBJECT)) None) class
    ∙ ap (λ b. cond (not b) (Some (unwrap_or (deciding fs c) OBJECT)) None) other
    ∙ ap (λ (o : Option (List ℕ)). Some (unwrap_or o OBJECT)) decides

pub known-decided : (fs : List Fact) (c p : List ℕ) → is_class (kind_of fs c) ≡ true → deciding fs c ≡ Some p → superclass_known fs c ≡ Some p
known-decided fs c p class decides = by (bytes_eq c BASIC_OBJECT) refl
  where
    by : (b : Bool) → bytes_eq c BASIC_OBJECT ≡ b → cond b (deciding fs c) (superclass_of fs c) ≡ Some p
    by true e = decides
    by false e = super-decided fs c p class e decides

-- ---- circular references

pub super-circle : (fs : List Fact) (c d : List ℕ) → is_class (kind_of fs c) ≡ true → deciding fs c ≡ Some d
    → circle_of fs c d ≡ (bytes_eq c BASIC_OBJECT || is_circular (links fs) (super_link c d))
unfolding circle_of
super-circle fs c d class decides = by (bytes_eq c BASIC_OBJECT) refl
  where
    by : (b : Bool) → bytes_eq c BASIC_OBJECT ≡ b → (goes (circular_links (links fs)) c d || (b && is_named d (deciding fs c))) ≡ (b || leads (links fs) d c)
    by true e =
        ap (λ (o : Option (List ℕ)). goes (circular_links (links fs)) c d || is_named d o) decides
        ∙ ap (λ b. goes (circular_links (links fs)) c d || b) (tells-same d d refl)
        ∙ or-true (goes (circular_links (links fs)) c d)
    by false e =
        or-false (goes (circular_links (links fs)) c d)
        ∙ goes-circular (links fs) (links fs) c d
        ∙ ap (λ b. b && leads (links fs) d c) (super-linked fs c d class (super-decided fs c d class e decides))

-- no class is a module
not-both : (k : Option Kind) → is_class k ≡ true → is_module k ≡ true → ⊥
not-both (Some kind.Class) c m = true≢false (sym m)
not-both (Some kind.Module) c m = true≢false (sym c)
not-both (Some kind.Value) c m = true≢false (sym c)
not-both None c m = true≢false (sym c)

-- no module decides as a superclass
no-module-decides : (fs : List Fact) (c m : List ℕ) → is_module (kind_of fs m) ≡ true → is_named m (deciding fs c) ≡ false
no-module-decides fs c m one = by (deciding fs c) refl
  where
    at : (p : List ℕ) (b : Bool) → bytes_eq p m ≡ b → deciding fs c ≡ Some p → b ≡ false
    at p true e told = absurd (not-both (kind_of fs m) (ap (λ x. is_class (kind_of fs x)) (sym (are-same p m e)) ∙ decided-class fs c p told) one)
    at p false e told = refl

    by : (o : Option (List ℕ)) → deciding fs c ≡ o → is_named m o ≡ false
    by None told = refl
    by (Some p) told = at p (bytes_eq p m) refl told

pub include-circle : (fs : List Fact) (of : List ℕ) (scope path : List (List ℕ)) (m : List ℕ) → IsOneOf fs (Parent of scope path Include)
    → mixed_in fs scope path ≡ Some m → is_module (kind_of fs m) ≡ true → circle_of fs of m ≡ is_circular (links fs) (include_link of m)
unfolding circle_of
include-circle fs of scope path m one mixed is-one =
    ap (λ b. goes (circular_links (links fs)) of m || (bytes_eq of BASIC_OBJECT && b)) (no-module-decides fs of m is-one)
    ∙ ap (λ b. goes (circular_links (links fs)) of m || b) (and-false (bytes_eq of BASIC_OBJECT))
    ∙ or-false (goes (circular_links (links fs)) of m)
    ∙ goes-circular (links fs) (links fs) of m
    ∙ ap (λ b. b && leads (links fs) m of) (include-linked fs of scope path m one mixed)
