-- How a constant is looked up. `within` gives the name of a last part in a scope or at the root, if there is one; `lin` gives the list of a
-- class or module and its ancestors. A scope is the list of the enclosing class and module bodies, the innermost first.
use Rattle.std.specs.Prelude.{ℕ, List, [], ◌∷◌, Option, None, Some, bytes_eq, if◌then◌else◌}
use Rattle.std.specs.Option.{option_or, option_and_then}
use Rattle.srb_rules.specs.FullNames.{OBJECT}

-- the names by scope and last part, and the ancestors of a name
abbrev pub Within : Type 0
Within = Option (List ℕ) → List ℕ → Option (List ℕ)

abbrev pub Ancestors : Type 0
Ancestors = List ℕ → List (List ℕ)

-- The constants of a body: those declared in it. In a body of `Object` they are followed by those of the root.
abbrev pub in_body : Within → List ℕ → List ℕ → Option (List ℕ)
in_body within body last = option_or (within (Some body) last) (if bytes_eq body OBJECT then within None last else None)

-- the first one that some enclosing body has, from inside out, without ancestors
abbrev pub in_bodies : Within → List (List ℕ) → List ℕ → Option (List ℕ)
in_bodies within [] last = None
in_bodies within (body ∷ bodies) last = option_or (in_body within body last) (in_bodies within bodies last)

-- the constants of a class or module, as a member of a list of ancestors: those of `Object` are the root's
abbrev pub in_member : Within → List ℕ → List ℕ → Option (List ℕ)
in_member within member last = if bytes_eq member OBJECT then within None last else within (Some member) last

-- the first one that some ancestor has
abbrev pub in_members : Within → List (List ℕ) → List ℕ → Option (List ℕ)
in_members within [] last = None
in_members within (member ∷ members) last = option_or (in_member within member last) (in_members within members last)

-- the innermost body and its ancestors
abbrev pub around : Ancestors → List (List ℕ) → List (List ℕ)
around lin [] = []
around lin (innermost ∷ bodies) = lin innermost

-- A single name: the enclosing bodies from inside out, then the ancestors of the innermost one, then the root.
abbrev pub named : Within → Ancestors → List (List ℕ) → List ℕ → Option (List ℕ)
named within lin scope name =
    option_or (in_bodies within scope name) (option_or (in_members within (around lin scope) name) (within None name))

-- the names in front of `Object`, all of them where it does not stand there
abbrev pub before_object : List (List ℕ) → List (List ℕ)
before_object [] = []
before_object (name ∷ names) = if bytes_eq name OBJECT then [] else name ∷ before_object names

-- In which members a name after `owner::` is looked up: in those in front of `Object`. Where `owner` is `Object`, or `Object` is none of them, in all.
abbrev pub members_of : Ancestors → List ℕ → List (List ℕ)
members_of lin owner = if bytes_eq owner OBJECT then lin owner else before_object (lin owner)

-- the further names of a path, each in the members of the one before
abbrev pub followed : Within → Ancestors → List (List ℕ) → List ℕ → Option (List ℕ)
followed within lin [] owner = Some owner
followed within lin (name ∷ names) owner =
    option_and_then (followed within lin names) (in_members within (members_of lin owner) name)

-- a path from the root on
abbrev pub rooted : Within → Ancestors → List (List ℕ) → Option (List ℕ)
rooted within lin [] = None
rooted within lin (name ∷ names) = option_and_then (followed within lin names) (within None name)

-- A path: where its first name is empty it begins with `::`, and the next one is looked up at the root.
abbrev pub looked_up : Within → Ancestors → List (List ℕ) → List (List ℕ) → Option (List ℕ)
looked_up within lin scope [] = None
looked_up within lin scope (name ∷ names) =
    if bytes_eq name [] then rooted within lin names
    else option_and_then (followed within lin names) (named within lin scope name)
