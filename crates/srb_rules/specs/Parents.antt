-- Superclasses and mixins: which references count, and which links they make.
use Rattle.std.specs.Prelude.{ℕ, Bool, not, ◌&&◌, List, [], ◌∷◌, Option, None, Some, bytes_eq, if◌then◌else◌}
use Rattle.std.specs.List.{filter_map}
use Rattle.std.specs.Option.{option_or, option_and_then, option_map, unwrap_or}
use Rattle.srb_terms.specs.declared.fact.Fact.{Fact}
use Rattle.srb_terms.specs.declared.fact.Fact.TheVariants.{Scope, Parent}
use Rattle.srb_terms.specs.declared.fact.How.TheVariants.{Super, Include, Extend}
use Rattle.srb_terms.specs.declared.fact.Kind.{Kind}
use Rattle.srb_rules.specs.declared.link.Link.{Link}
use Rattle.srb_rules.specs.FullNames.{OBJECT, BASIC_OBJECT, ARRAY, HASH}
use Rattle.srb_rules.specs.Kinds.{is_class, is_module, is_body, kind_of, within_of}
use Rattle.srb_rules.specs.Lookup.{looked_up}

-- ---- what a reference stands for

-- what a reference with this scope and path stands for
abbrev pub Reference : Type 0
Reference = List (List ℕ) → List (List ℕ) → Option (List ℕ)

-- The ancestors that a superclass or a mixin is looked up in: a class or module has itself alone, a value constant nothing.
abbrev pub alone_by : (List ℕ → Option Kind) → List ℕ → List (List ℕ)
alone_by kinds c = if is_body (kinds c) then c ∷ [] else []

-- the name that a superclass or a mixin stands for
abbrev pub parent_named : List Fact → Reference
parent_named fs scope path = looked_up (within_of fs) (alone_by (kind_of fs)) scope path

-- what a class may inherit: a class other than `Array` and `Hash`
abbrev pub is_inheritable : Option Kind → List ℕ → Bool
is_inheritable kind d = is_class kind && not (bytes_eq d ARRAY) && not (bytes_eq d HASH)

-- the class that a superclass stands for, where it may be inherited
abbrev pub inherited_by : (List ℕ → Option Kind) → Reference → Reference
inherited_by kinds named scope path = option_and_then (λ d. if is_inheritable (kinds d) d then Some d else None) (named scope path)

-- the module that a mixin stands for
abbrev pub mixed_by : (List ℕ → Option Kind) → Reference → Reference
mixed_by kinds named scope path = option_and_then (λ m. if is_module (kinds m) then Some m else None) (named scope path)

unfoldable pub inherited : List Fact → Reference
inherited fs = inherited_by (kind_of fs) (parent_named fs)

unfoldable pub mixed_in : List Fact → Reference
mixed_in fs = mixed_by (kind_of fs) (parent_named fs)

-- ---- superclasses

-- the class that a fact gives to c as its superclass
abbrev pub superclass_in : Reference → List ℕ → Fact → Option (List ℕ)
superclass_in inherits c (Parent of scope path Super) = if bytes_eq of c then inherits scope path else None
superclass_in inherits c _ = None

abbrev pub first_superclass : Reference → List ℕ → List Fact → Option (List ℕ)
first_superclass inherits c [] = None
first_superclass inherits c (f ∷ fs) = option_or (superclass_in inherits c f) (first_superclass inherits c fs)

-- the first reference to a class that may be inherited decides
unfoldable pub deciding : List Fact → List ℕ → Option (List ℕ)
deciding fs c = first_superclass (inherited fs) c fs

-- The superclass of a class: the deciding one, or `Object` where none is declared. `BasicObject` has none.
abbrev pub superclass_by : Option Kind → Option (List ℕ) → List ℕ → Option (List ℕ)
superclass_by kind decides c = if is_class kind && not (bytes_eq c BASIC_OBJECT) then Some (unwrap_or decides OBJECT) else None

unfoldable pub superclass_of : List Fact → List ℕ → Option (List ℕ)
superclass_of fs c = superclass_by (kind_of fs c) (deciding fs c) c

-- ---- links

abbrev pub super_link : List ℕ → List ℕ → Link
super_link of to = record { of = of; to = to; how = Super }

abbrev pub include_link : List ℕ → List ℕ → Link
include_link of to = record { of = of; to = to; how = Include }

-- The link that a fact gives: the declaration of a class one to its superclass, an `include` one to the module that it names.
abbrev pub link_in : (List ℕ → Option (List ℕ)) → Reference → Fact → Option Link
link_in superclasses mixes (Scope name kind) = option_map (super_link name) (superclasses name)
link_in superclasses mixes (Parent of scope path Include) = option_map (include_link of) (mixes scope path)
link_in superclasses mixes _ = None

-- all links, in the order of the facts
unfoldable pub links : List Fact → List Link
links fs = filter_map (link_in (superclass_of fs) (mixed_in fs)) fs

-- ---- `extend`

-- the module that an `extend` of c names
abbrev pub extended_in : Reference → List ℕ → Fact → Option (List ℕ)
extended_in mixes c (Parent of scope path Extend) = if bytes_eq of c then mixes scope path else None
extended_in mixes c _ = None

-- the modules that the `extend`s of a class or module name, in the order of the facts
unfoldable pub extended_of : List Fact → List ℕ → Option (List (List ℕ))
extended_of fs c = if is_body (kind_of fs c) then Some (filter_map (extended_in (mixed_in fs) c) fs) else None
