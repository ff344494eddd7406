-- A pass over all facts, told fact by fact, gives what the rules say of the facts.
use Rattle.std.proofs.Common.{◌≡◌, ℕ, Bool, true, false, ◌||◌, List, [], ◌∷◌, ◌++◌, bytes_eq, cond, Option, Some, None, is_some, unwrap_or, refl, sym, ap, ◌∙◌}
use Rattle.std.proofs.lemmas.Bool.{true≢false}
use Rattle.std.proofs.lemmas.List.{append_assoc, append-nil}
use Rattle.std.proofs.lemmas.Slice.Eq.{bytes_eq-Decides}
use Rattle.std.specs.List.{cons_option, filter_map, fold, list_any}
use Rattle.std.specs.Option.{option_or}
use Rattle.srb_terms.specs.declared.fact.Fact.{Fact}
use Rattle.srb_terms.specs.declared.fact.Fact.TheVariants.{Scope, Parent, Value, Method, Ivar}
use Rattle.srb_terms.specs.declared.fact.How.TheVariants.{Super, Include, Extend}
use Rattle.srb_terms.specs.declared.fact.Kind.{Kind}
use Rattle.srb_terms.specs.declared.fact.Kind.TheVariants as kind
use Rattle.srb_rules.specs.declared.link.Link.{Link}
use Rattle.srb_rules.specs.Kinds.{body_kind, is_body, is_value_of, kind_of}
use Rattle.srb_rules.specs.Parents.{Reference, extended_in, first_superclass, link_in}
use Rattle.srb_table.specs.Steps.{all_facts, appended, deciding_after, entry_after, extended_after, inner_after, kind_after, links_after, listed, with_body}

-- ---- files

fold-append : {X Y : Type 0} (step : X → Y → X) (old : X) (xs ys : List Y) → fold step old (xs ++ ys) ≡ fold step (fold step old xs) ys
fold-append step old [] ys = refl
fold-append step old (x ∷ xs) ys = fold-append step (step old x) xs ys

-- file by file is the same as over all facts at once
pub by_files : {X : Type 0} (step : X → Fact → X) (old : X) (files : List (List Fact)) → fold (fold step) old files ≡ fold step old (all_facts files)
by_files step old [] = refl
by_files step old (file ∷ files) = by_files step (fold step old file) files ∙ sym (fold-append step old file (all_facts files))

-- ---- kinds

abbrev kind_with : Option Kind → Option Kind → Bool → Option Kind
kind_with old body value = cond (is_body old) old (option_or body (option_or old (cond value (Some kind.Value) None)))

class-first : (b : Bool) (old body : Option Kind) (value : Bool) → kind_with (cond b (with_body kind.Class old) old) body value ≡ kind_with old (option_or (cond b (Some kind.Class) None) body) value
class-first true None body value = refl
class-first true (Some kind.Class) body value = refl
class-first true (Some kind.Module) body value = refl
class-first true (Some kind.Value) body value = refl
class-first false old body value = refl

module-first : (b : Bool) (old body : Option Kind) (value : Bool) → kind_with (cond b (with_body kind.Module old) old) body value ≡ kind_with old (option_or (cond b (Some kind.Module) None) body) value
module-first true None body value = refl
module-first true (Some kind.Class) body value = refl
module-first true (Some kind.Module) body value = refl
module-first true (Some kind.Value) body value = refl
module-first false old body value = refl

value-first : (b : Bool) (old body : Option Kind) (value : Bool) → kind_with (cond b (option_or old (Some kind.Value)) old) body value ≡ kind_with old body (b || value)
value-first true None body value = refl
value-first true (Some k) body value = refl
value-first false old body value = refl

kind-step : (c : List ℕ) (old : Option Kind) (f : Fact) (fs : List Fact)
    → kind_with (kind_after c old f) (body_kind fs c) (list_any (is_value_of c) fs) ≡ kind_with old (body_kind (f ∷ fs) c) (list_any (is_value_of c) (f ∷ fs))
kind-step c old (Scope name kind.Class) fs = class-first (bytes_eq name c) old (body_kind fs c) (list_any (is_value_of c) fs)
kind-step c old (Scope name kind.Module) fs = module-first (bytes_eq name c) old (body_kind fs c) (list_any (is_value_of c) fs)
kind-step c old (Scope name kind.Value) fs = refl
kind-step c old (Value name scope given) fs = value-first (bytes_eq name c) old (body_kind fs c) (list_any (is_value_of c) fs)
kind-step c old (Parent of scope path how) fs = refl
kind-step c old (Method owner scope meta name params sig) fs = refl
kind-step c old (Ivar owner scope meta name given) fs = refl

kinds-from : (c : List ℕ) (old : Option Kind) (fs : List Fact) → fold (kind_after c) old fs ≡ kind_with old (body_kind fs c) (list_any (is_value_of c) fs)
kinds-from c old [] = at-end old
  where
    at-end : (old : Option Kind) → old ≡ kind_with old None false
    at-end None = refl
    at-end (Some kind.Class) = refl
    at-end (Some kind.Module) = refl
    at-end (Some kind.Value) = refl
kinds-from c old (f ∷ fs) = kinds-from c (kind_after c old f) fs ∙ kind-step c old f fs

pub kinds-told : (c : List ℕ) (fs : List Fact) → fold (kind_after c) None fs ≡ kind_of fs c
unfolding kind_of
kinds-told c fs = kinds-from c None fs

-- ---- full names

abbrev declares : List ℕ → Fact → Bool
declares name (Scope of kind.Class) = bytes_eq of name
declares name (Scope of kind.Module) = bytes_eq of name
declares name (Scope of kind.Value) = false
declares name (Value of scope given) = bytes_eq of name
declares name (Parent of scope path how) = false
declares name (Method owner scope meta m params sig) = false
declares name (Ivar owner scope meta m given) = false

or-swap : (a b c : Bool) → (a || (b || c)) ≡ (b || (a || c))
or-swap true true c = refl
or-swap true false c = refl
or-swap false b c = refl

class-is-some : (b : Bool) (k : Kind) (body : Option Kind) (value : Bool) → (b || (is_some body || value)) ≡ (is_some (option_or (cond b (Some k) None) body) || value)
class-is-some true k body value = refl
class-is-some false k body value = refl

all-declare : (name : List ℕ) (fs : List Fact) → list_any (declares name) fs ≡ (is_some (body_kind fs name) || list_any (is_value_of name) fs)
all-declare name [] = refl
all-declare name (Scope of kind.Class ∷ fs) =
    ap (λ d. bytes_eq of name || d) (all-declare name fs) ∙ class-is-some (bytes_eq of name) kind.Class (body_kind fs name) (list_any (is_value_of name) fs)
all-declare name (Scope of kind.Module ∷ fs) =
    ap (λ d. bytes_eq of name || d) (all-declare name fs) ∙ class-is-some (bytes_eq of name) kind.Module (body_kind fs name) (list_any (is_value_of name) fs)
all-declare name (Scope of kind.Value ∷ fs) = all-declare name fs
all-declare name (Value of scope given ∷ fs) =
    ap (λ d. bytes_eq of name || d) (all-declare name fs) ∙ or-swap (bytes_eq of name) (is_some (body_kind fs name)) (list_any (is_value_of name) fs)
all-declare name (Parent of scope path how ∷ fs) = all-declare name fs
all-declare name (Method owner scope meta m params sig ∷ fs) = all-declare name fs
all-declare name (Ivar owner scope meta m given ∷ fs) = all-declare name fs

some-kind : (body : Option Kind) (value : Bool) → (is_some body || value) ≡ is_some (option_or body (cond value (Some kind.Value) None))
some-kind None true = refl
some-kind None false = refl
some-kind (Some k) value = refl

inner-one : (of name : List ℕ) (old : Option (List ℕ)) (more : Bool)
    → cond more (Some name) (cond (bytes_eq of name) (Some of) old) ≡ cond (bytes_eq of name || more) (Some name) old
inner-one of name old more = by (bytes_eq of name) (bytes_eq-Decides of name).0 more
  where
    by : (b : Bool) → (b ≡ true → of ≡ name) → (more : Bool) → cond more (Some name) (cond b (Some of) old) ≡ cond (b || more) (Some name) old
    by true same true = refl
    by true same false = ap Some (same refl)
    by false same true = refl
    by false same false = refl

inner-from : (name : List ℕ) (old : Option (List ℕ)) (fs : List Fact) → fold (inner_after name) old fs ≡ cond (list_any (declares name) fs) (Some name) old
inner-from name old [] = refl
inner-from name old (Scope of kind.Class ∷ fs) =
    inner-from name (cond (bytes_eq of name) (Some of) old) fs ∙ inner-one of name old (list_any (declares name) fs)
inner-from name old (Scope of kind.Module ∷ fs) =
    inner-from name (cond (bytes_eq of name) (Some of) old) fs ∙ inner-one of name old (list_any (declares name) fs)
inner-from name old (Scope of kind.Value ∷ fs) = inner-from name old fs
inner-from name old (Value of scope given ∷ fs) =
    inner-from name (cond (bytes_eq of name) (Some of) old) fs ∙ inner-one of name old (list_any (declares name) fs)
inner-from name old (Parent of scope path how ∷ fs) = inner-from name old fs
inner-from name old (Method owner scope meta m params sig ∷ fs) = inner-from name old fs
inner-from name old (Ivar owner scope meta m given ∷ fs) = inner-from name old fs

pub inner-told : (name : List ℕ) (fs : List Fact) → fold (inner_after name) None fs ≡ cond (is_some (kind_of fs name)) (Some name) None
unfolding kind_of
inner-told name fs =
    inner-from name None fs
    ∙ ap (λ t. cond t (Some name) None) (all-declare name fs ∙ some-kind (body_kind fs name) (list_any (is_value_of name) fs))

-- ---- superclasses that are written

pub or-or : {X : Type 0} (a b c : Option X) → option_or (option_or a b) c ≡ option_or a (option_or b c)
or-or None b c = refl
or-or (Some x) b c = refl

deciding-one : (b : Bool) (old found rest : Option (List ℕ)) → option_or (cond b (option_or old found) old) rest ≡ option_or old (option_or (cond b found None) rest)
deciding-one true old found rest = or-or old found rest
deciding-one false old found rest = refl

pub at-nothing : {X : Type 0} (a : Option X) → a ≡ option_or a None
at-nothing None = refl
at-nothing (Some x) = refl

deciding-from : (inherits : Reference) (c : List ℕ) (old : Option (List ℕ)) (fs : List Fact)
    → fold (deciding_after inherits c) old fs ≡ option_or old (first_superclass inherits c fs)
deciding-from inherits c old [] = at-nothing old
deciding-from inherits c old (Parent of scope path Super ∷ fs) =
    deciding-from inherits c (cond (bytes_eq of c) (option_or old (inherits scope path)) old) fs
    ∙ deciding-one (bytes_eq of c) old (inherits scope path) (first_superclass inherits c fs)
deciding-from inherits c old (Parent of scope path Include ∷ fs) = deciding-from inherits c old fs
deciding-from inherits c old (Parent of scope path Extend ∷ fs) = deciding-from inherits c old fs
deciding-from inherits c old (Scope name kind ∷ fs) = deciding-from inherits c old fs
deciding-from inherits c old (Value name scope given ∷ fs) = deciding-from inherits c old fs
deciding-from inherits c old (Method owner scope meta m params sig ∷ fs) = deciding-from inherits c old fs
deciding-from inherits c old (Ivar owner scope meta m given ∷ fs) = deciding-from inherits c old fs

pub deciding-told : (inherits : Reference) (c : List ℕ) (fs : List Fact) → fold (deciding_after inherits c) None fs ≡ first_superclass inherits c fs
deciding-told inherits c fs = deciding-from inherits c None fs

-- ---- entries of declared classes and modules

abbrev is_scope : List ℕ → Fact → Bool
is_scope c (Scope name kind) = bytes_eq name c
is_scope c (Value of scope given) = false
is_scope c (Parent of scope path how) = false
is_scope c (Method owner scope meta m params sig) = false
is_scope c (Ivar owner scope meta m given) = false

entry-one : {X : Type 0} (value : List ℕ → Option X) (name c : List ℕ) (old : Option X) (more : Bool)
    → cond more (option_or (cond (bytes_eq name c) (option_or old (value name)) old) (value c)) (cond (bytes_eq name c) (option_or old (value name)) old)
    ≡ cond (bytes_eq name c || more) (option_or old (value c)) old
entry-one {X} value name c old more = by (bytes_eq name c) (bytes_eq-Decides name c).0 more
  where
    twice : (a v : Option X) → option_or (option_or a v) v ≡ option_or a v
    twice None None = refl
    twice None (Some x) = refl
    twice (Some x) v = refl

    by : (b : Bool) → (b ≡ true → name ≡ c) → (more : Bool)
        → cond more (option_or (cond b (option_or old (value name)) old) (value c)) (cond b (option_or old (value name)) old) ≡ cond (b || more) (option_or old (value c)) old
    by true same true = ap (λ (n : List ℕ). option_or (option_or old (value n)) (value c)) (same refl) ∙ twice old (value c)
    by true same false = ap (λ (n : List ℕ). option_or old (value n)) (same refl)
    by false same true = refl
    by false same false = refl

entries-from : {X : Type 0} (value : List ℕ → Option X) (c : List ℕ) (old : Option X) (fs : List Fact)
    → fold (entry_after value c) old fs ≡ cond (list_any (is_scope c) fs) (option_or old (value c)) old
entries-from value c old [] = refl
entries-from value c old (Scope name kind ∷ fs) =
    entries-from value c (cond (bytes_eq name c) (option_or old (value name)) old) fs ∙ entry-one value name c old (list_any (is_scope c) fs)
entries-from value c old (Value of scope given ∷ fs) = entries-from value c old fs
entries-from value c old (Parent of scope path how ∷ fs) = entries-from value c old fs
entries-from value c old (Method owner scope meta m params sig ∷ fs) = entries-from value c old fs
entries-from value c old (Ivar owner scope meta m given ∷ fs) = entries-from value c old fs

some-scope : (b : Bool) (k : Kind) (body : Option Kind) (more : Bool) → (is_some body ≡ true → more ≡ true) → is_some (option_or (cond b (Some k) None) body) ≡ true → (b || more) ≡ true
some-scope true k body more rest h = refl
some-scope false k body more rest h = rest h

wider : (b more : Bool) → more ≡ true → (b || more) ≡ true
wider true more h = refl
wider false more h = h

bodies-scope : (c : List ℕ) (fs : List Fact) → is_some (body_kind fs c) ≡ true → list_any (is_scope c) fs ≡ true
bodies-scope c [] h = absurd (true≢false (sym h))
bodies-scope c (Scope name kind.Class ∷ fs) h = some-scope (bytes_eq name c) kind.Class (body_kind fs c) (list_any (is_scope c) fs) (bodies-scope c fs) h
bodies-scope c (Scope name kind.Module ∷ fs) h = some-scope (bytes_eq name c) kind.Module (body_kind fs c) (list_any (is_scope c) fs) (bodies-scope c fs) h
bodies-scope c (Scope name kind.Value ∷ fs) h = wider (bytes_eq name c) (list_any (is_scope c) fs) (bodies-scope c fs h)
bodies-scope c (Value of scope given ∷ fs) h = bodies-scope c fs h
bodies-scope c (Parent of scope path how ∷ fs) h = bodies-scope c fs h
bodies-scope c (Method owner scope meta m params sig ∷ fs) h = bodies-scope c fs h
bodies-scope c (Ivar owner scope meta m given ∷ fs) h = bodies-scope c fs h

body-some : (body : Option Kind) (value : Bool) → is_body (option_or body (cond value (Some kind.Value) None)) ≡ true → is_some body ≡ true
body-some None true h = absurd (true≢false (sym h))
body-some None false h = absurd (true≢false (sym h))
body-some (Some k) value h = refl

-- a table of entries is right where only classes and modules have some
pub entries-told : {X : Type 0} (value : List ℕ → Option X) (c : List ℕ) (fs : List Fact) → (is_body (kind_of fs c) ≡ false → value c ≡ None)
    → fold (entry_after value c) None fs ≡ value c
unfolding kind_of
entries-told {X} value c fs only = entries-from value c None fs ∙ by (is_body (kind_of fs c)) scoped only
  where
    scoped : is_body (kind_of fs c) ≡ true → list_any (is_scope c) fs ≡ true
    scoped h = bodies-scope c fs (body-some (body_kind fs c) (list_any (is_value_of c) fs) h)

    none : (d : Bool) (v : Option X) → v ≡ None → cond d v None ≡ v
    none true v h = refl
    none false v h = sym h

    by : (b : Bool) → (b ≡ true → list_any (is_scope c) fs ≡ true) → (b ≡ false → value c ≡ None) → cond (list_any (is_scope c) fs) (value c) None ≡ value c
    by true scoped only = ap (λ d. cond d (value c) None) (scoped refl)
    by false scoped only = none (list_any (is_scope c) fs) (value c) (only refl)

-- ---- links

add-link : (ls : List Link) (l : Option Link) (more : List Link) → appended ls l ++ more ≡ ls ++ cons_option l more
add-link ls None more = refl
add-link ls (Some l) more = append_assoc ls (l ∷ []) more

links-from : (superclasses : List ℕ → Option (List ℕ)) (mixes : Reference) (old : List Link) (fs : List Fact)
    → fold (links_after superclasses mixes) old fs ≡ old ++ filter_map (link_in superclasses mixes) fs
links-from superclasses mixes old [] = sym (append-nil old)
links-from superclasses mixes old (f ∷ fs) =
    links-from superclasses mixes (appended old (link_in superclasses mixes f)) fs
    ∙ add-link old (link_in superclasses mixes f) (filter_map (link_in superclasses mixes) fs)

pub links-told : (superclasses : List ℕ → Option (List ℕ)) (mixes : Reference) (fs : List Fact)
    → fold (links_after superclasses mixes) [] fs ≡ filter_map (link_in superclasses mixes) fs
links-told superclasses mixes fs = links-from superclasses mixes [] fs

-- ---- `extend`

extended-one : (b : Bool) (old : Option (List (List ℕ))) (found : Option (List ℕ)) (more : List (List ℕ))
    → unwrap_or (cond b (listed old found) old) [] ++ more ≡ unwrap_or old [] ++ cons_option (cond b found None) more
extended-one true old None more = refl
extended-one true old (Some x) more = append_assoc (unwrap_or old []) (x ∷ []) more
extended-one false old found more = refl

extended-from : (mixes : Reference) (c : List ℕ) (old : Option (List (List ℕ))) (fs : List Fact)
    → unwrap_or (fold (extended_after mixes c) old fs) [] ≡ unwrap_or old [] ++ filter_map (extended_in mixes c) fs
extended-from mixes c old [] = sym (append-nil (unwrap_or old []))
extended-from mixes c old (Parent of scope path Extend ∷ fs) =
    extended-from mixes c (cond (bytes_eq of c) (listed old (mixes scope path)) old) fs
    ∙ extended-one (bytes_eq of c) old (mixes scope path) (filter_map (extended_in mixes c) fs)
extended-from mixes c old (Parent of scope path Super ∷ fs) = extended-from mixes c old fs
extended-from mixes c old (Parent of scope path Include ∷ fs) = extended-from mixes c old fs
extended-from mixes c old (Scope name kind ∷ fs) = extended-from mixes c old fs
extended-from mixes c old (Value name scope given ∷ fs) = extended-from mixes c old fs
extended-from mixes c old (Method owner scope meta m params sig ∷ fs) = extended-from mixes c old fs
extended-from mixes c old (Ivar owner scope meta m given ∷ fs) = extended-from mixes c old fs

pub extended-told : (mixes : Reference) (c : List ℕ) (fs : List Fact) → unwrap_or (fold (extended_after mixes c) None fs) [] ≡ filter_map (extended_in mixes c) fs
extended-told mixes c fs = extended-from mixes c None fs
