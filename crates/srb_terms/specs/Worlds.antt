-- What the symbol table holds. Names are the lists of their bytes.
use Rattle.std.specs.Prelude.{◌≡◌, ℕ, Bool, false, List, [], ◌∷◌, ◌++◌, Option, None, Some, bytes_eq, nat_eq, if◌then◌else◌}
use Rattle.std.specs.List.{list_any}
use Rattle.std.specs.Map.{lookup, lookup_key}
use Rattle.std.specs.Option.{option_and_then}
use Rattle.indexmap.specs.IndexMap.{IndexMap}
use Rattle.srb_terms.specs.NameSets.{has_name}
use Rattle.srb_terms.specs.declared.fact.Kind.{Kind}
use Rattle.srb_terms.specs.declared.ty.Method.{Method}
use Rattle.srb_terms.specs.declared.ty.Ty.{Ty}
use Rattle.srb_terms.specs.declared.world.World.{World}

-- the value at the name, in a list of names and values: that of the first pair whose name has these bytes
abbrev pub value_of : {X : Type 0} → List ℕ → List (List ℕ × X) → Option X
value_of name pairs = lookup (bytes_eq name) pairs

-- the value at the second name in the table at the first
abbrev pub inner_at : {X S : Type 0} → List ℕ → List ℕ → List (List ℕ × IndexMap (List ℕ) X S) → Option X
inner_at outer name tables = option_and_then (λ table. value_of name table.entries) (value_of outer tables)

-- the table's own name with these bytes
abbrev pub own_name : List ℕ → World → Option (List ℕ)
own_name name w = lookup_key (bytes_eq name) w.kinds.entries

-- whether a colon stands in the name
abbrev pub has_colon : List ℕ → Bool
has_colon name = list_any (λ byte. nat_eq byte 58) name

-- the scope's name, `::` and the last part
abbrev pub joined : List ℕ → List ℕ → List ℕ
joined scope last = scope ++ 58 ∷ 58 ∷ last

-- what the name stands for
abbrev pub kind_at : World → List ℕ → Option Kind
kind_at w c = value_of c w.kinds.entries

-- the table's own name for the last part alone, or for the scope's name, `::` and the last part. Where the last part holds no colon,
-- the table of names by scope and last part tells it.
abbrev pub within_at : World → Option (List ℕ) → List ℕ → Option (List ℕ)
within_at w None last = own_name last w
within_at w (Some scope) last = if has_colon last then own_name (joined scope last) w else inner_at scope last w.inner.entries

-- the linearization of a class or module
abbrev pub lin_at : World → List ℕ → Option (List (List ℕ))
lin_at w c = value_of c w.lins.entries

-- the deciding superclass of a class
abbrev pub superclass_at : World → List ℕ → Option (List ℕ)
superclass_at w c = value_of c w.superclasses.entries

-- the modules that the `extend`s of a class or module name
abbrev pub extended_at : World → List ℕ → Option (List (List ℕ))
extended_at w c = value_of c w.extended.entries

-- the method that the class or module declares: one of the class object, or else one of instances
abbrev pub method_at : World → List ℕ → Bool → List ℕ → Option Method
method_at w owner meta name = inner_at owner name (if meta then w.own_methods.entries else w.methods.entries)

-- the type of the instance variable that the class or module declares: one of the class object, or else one of instances
abbrev pub ivar_at : World → List ℕ → Bool → List ℕ → Option Ty
ivar_at w owner meta name = inner_at owner name (if meta then w.own_ivars.entries else w.ivars.entries)

-- whether the name stands in the list, if there is one
abbrev pub is_among : List ℕ → Option (List (List ℕ)) → Bool
is_among name None = false
is_among name (Some names) = has_name name names

-- whether the reference from the first class or module to the second one is circular
abbrev pub circular_at : World → List ℕ → List ℕ → Bool
circular_at w c to = is_among to (value_of c w.circles.entries)

-- the type of a value constant
abbrev pub value_at : World → List ℕ → Option Ty
value_at w c = value_of c w.values.entries

-- no table holds anything
abbrev pub IsEmptyWorld : World → Type 0
IsEmptyWorld w = (w.kinds.entries ≡ []) × (w.inner.entries ≡ []) × (w.superclasses.entries ≡ []) × (w.lins.entries ≡ [])
    × (w.extended.entries ≡ []) × (w.methods.entries ≡ []) × (w.own_methods.entries ≡ []) × (w.ivars.entries ≡ [])
    × (w.own_ivars.entries ≡ []) × (w.circles.entries ≡ []) × (w.values.entries ≡ [])
