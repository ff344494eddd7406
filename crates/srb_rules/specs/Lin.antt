-- The linearization: a class or module and its ancestors, in the order in which a method or a constant is looked for.
use Rattle.std.specs.Prelude.{ℕ, suc, zero, Bool, true, false, not, ◌||◌, List, [], ◌∷◌, ◌++◌, Option, Some, None, if◌then◌else◌, bytes_eq, length}
use Rattle.std.specs.List.{filter}
use Rattle.srb_terms.specs.NameSets.{has_name}
use Rattle.srb_terms.specs.declared.fact.How.{How}
use Rattle.srb_terms.specs.declared.fact.How.TheVariants.{Super, Include, Extend}
use Rattle.srb_rules.specs.declared.link.Link.{Link}

-- the links from c, in their order
abbrev pub links_of : List Link → List ℕ → List Link
links_of ls c = filter (λ l. bytes_eq l.of c) ls

abbrev pub is_super : How → Bool
is_super Super = true
is_super Include = false
is_super Extend = false

abbrev pub is_include : How → Bool
is_include Super = false
is_include Include = true
is_include Extend = false

-- the superclass that some links name: the end of the first one to a superclass
abbrev pub superclass_in : List Link → Option (List ℕ)
superclass_in [] = None
superclass_in (l ∷ ls) = if is_super l.how then Some l.to else superclass_in ls

-- the modules that some links include, each at its first place, after those of `before`
abbrev pub included_after : List (List ℕ) → List Link → List (List ℕ)
included_after before [] = before
included_after before (l ∷ ls) =
    included_after (if is_include l.how then (if has_name l.to before then before else before ++ l.to ∷ []) else before) ls

-- the modules that some links include, each at its first place
abbrev pub included_in : List Link → List (List ℕ)
included_in ls = included_after [] ls

-- the list `here`, and then the names of `more` that stand neither in `below` nor already here
abbrev pub joined : List (List ℕ) → List (List ℕ) → List (List ℕ) → List (List ℕ)
joined below here more = here ++ filter (λ name. not (has_name name below || has_name name here)) more

-- c, and then what its modules add, from the last one to the first; `lin` gives the list of a module, `below` is that of the superclass
abbrev pub with_modules : (List ℕ → List (List ℕ)) → List (List ℕ) → List ℕ → List (List ℕ) → List (List ℕ)
with_modules lin below c [] = c ∷ []
with_modules lin below c (m ∷ ms) = joined below (with_modules lin below c ms) (lin m)

-- the list of the superclass, if there is one
abbrev pub lin_below : (List ℕ → List (List ℕ)) → Option (List ℕ) → List (List ℕ)
lin_below lin None = []
lin_below lin (Some s) = lin s

-- the list of c by its links: c, what its modules add, and the list of its superclass
abbrev pub lin_by : (List ℕ → List (List ℕ)) → List Link → List ℕ → List (List ℕ)
lin_by lin ls c =
    let below = lin_below lin (superclass_in ls) in
    with_modules lin below c (included_in ls) ++ below

-- One step of the linearization. `lin` gives the lists of the names to which c has links.
abbrev pub lin_step : List Link → (List ℕ → List (List ℕ)) → List ℕ → List (List ℕ)
lin_step ls lin c = lin_by lin (links_of ls c) c

-- the linearization by at most n links
abbrev pub lin_within : ℕ → List Link → List ℕ → List (List ℕ)
lin_within zero ls c = c ∷ []
lin_within (suc n) ls c = lin_step ls (lin_within n ls) c

-- The linearization of c. Where no link is circular, no way is longer than the list of links, and so
-- `lin_of ls c ≡ lin_step ls (lin_of ls) c` for every c.
unfoldable pub lin_of : List Link → List ℕ → List (List ℕ)
lin_of ls c = lin_within (length ls) ls c
