-- The constant references of a program, and which of them are errors.
use Rattle.std.specs.Prelude.{ℕ, ◌-◌, Bool, true, false, List, [], ◌∷◌, ◌++◌, length, take, codes, if◌then◌else◌, Option, Some, None}
use Rattle.std.specs.List.{flat_map}
use Rattle.std.specs.Option.{is_some}
use Rattle.srb_terms.specs.Worlds.{joined, kind_at}
use Rattle.srb_terms.specs.declared.diag.Diag.{Diag}
use Rattle.srb_terms.specs.declared.fact.Fact.{Fact}
use Rattle.srb_terms.specs.declared.fact.Kind.{Kind}
use Rattle.srb_terms.specs.declared.world.World.{World}
use Rattle.rb_tree.specs.declared.syntax.PlacedName.{PlacedName}
use Rattle.rb_tree.specs.declared.syntax.Reference as syntax
use Rattle.rb_tree.specs.declared.syntax.Suffix.{Suffix}
use Rattle.rb_tree.specs.declared.syntax.Tree.{Tree, para-Tree}
use Rattle.rb_tree.specs.declared.syntax.Node.{out-Node}
use Rattle.rb_tree.specs.declared.syntax.Node.TheOpen.{Node-F}
use Rattle.rb_views.specs.Paths.{Path, path_of}
use Rattle.rb_views.specs.Places.{names_span}
use Rattle.srb_declarations.specs.Declarations.{written}
use Rattle.srb_rules.specs.Kinds.{is_body, kind_of}
use Rattle.srb_rules.specs.Resolves.{resolves}
use Rattle.srb_rules.specs.Standing.{resolved_at}
use Rattle.srb_rules.specs.declared.position.Position.{Position}
use Rattle.srb_rules.specs.declared.position.Position.TheVariants as position
use Rattle.srb_references.specs.Readings.{Visit, visit, parts, taken_in_type}
use Rattle.srb_references.specs.TypeForms.{type_form}
use Rattle.srb_references.specs.declared.reading.Reading.{Reading}
use Rattle.srb_references.specs.declared.reading.Reading.TheVariants as reading
use Rattle.srb_references.specs.declared.reference.Reference.{Reference}

-- ---- all parts that are read

-- what is read below a part, by the reading and the scope of that part
abbrev pub Below : Type 0
Below = Reading → List (List ℕ) → List (Visit Tree)

-- The parts of a row, each with what is read below it, the last part first: in this order a worklist gives them that takes the part that
-- was added last. The order carries no meaning, as the errors of a file are sorted.
module _ {X : Type 0} (it : X → Tree) (f : X → Below) where
  abbrev pub visits_of : Visit X → List (Visit Tree)
  visits_of v = visit v.reading v.scope (it v.part) ∷ f v.part v.reading v.scope

  abbrev pub row_visits : List (Visit X) → List (Visit Tree)
  row_visits [] = []
  row_visits (v ∷ vs) = row_visits vs ++ visits_of v

abbrev pub below_at : {N : Type 0} → Node-F N (Tree × Below) → Below
below_at n m scope = row_visits (λ x. x.0) (λ x. x.1) (parts (λ x. x.0) m scope n)

-- what is read below a tree
unfoldable pub below : Tree → Below
below = para-Tree Below Below (λ n. below_at n) (λ t. t.node.1)

-- the same by the node of the tree
unfoldable pub below_by_node : Tree → Below
below_by_node t m scope = row_visits (λ x. x) below (parts (λ x. x) m scope (out-Node t.node))

-- every part of a program that is read, and the program itself
abbrev pub visits : Tree → List (Visit Tree)
visits t = visits_of (λ x. x) below (visit reading.Plain [] t)

-- ---- references

-- Where nothing follows the path, an argument of `include` or `extend` refers to a module: its ancestors are not looked at.
abbrev pub path_position : Reading → List (Suffix Tree) → Position
path_position reading.Mixin [] = position.Parent
path_position _ _ = position.Value

-- a path in an expression, as far as it goes
abbrev pub path_references : Reading → List (List ℕ) → Option Path → List Reference
path_references m scope None = []
path_references m scope (Some p) =
    record { scope = scope; path = written p.top p.names; position = path_position m p.rest; wants_body = false; span = p.span } ∷ []

-- whether a part is read as a type expression of a form like `T::Array[X]`: then its `T::Array` is no reference
abbrev pub is_form_of_type : Reading → Tree → Bool
is_form_of_type m t = is_some (taken_in_type m (type_form t))

-- the path with which a part begins, if it is a reference
abbrev pub named_references : Reading → List (List ℕ) → Tree → List Reference
named_references m scope t = if is_form_of_type m t then [] else path_references m scope (path_of t)

-- a superclass, from the scope around its class
abbrev pub superclass_references : List (List ℕ) → Option syntax.Reference → List Reference
superclass_references scope None = []
superclass_references scope (Some r) =
    record { scope = scope; path = written r.top r.path; position = position.Parent; wants_body = false; span = r.span } ∷ []

-- the names in front of the last one of a declared path, if there are any: they stand for the class or module in which the last is declared
abbrev pub front_references : List (List ℕ) → List PlacedName → List Reference
front_references scope [] = []
front_references scope front =
    record { scope = scope; path = written false front; position = position.Value; wants_body = true; span = names_span front } ∷ []

abbrev pub front_of : List PlacedName → List PlacedName
front_of path = take (length path - 1) path

-- what a class or module refers to where it is declared
abbrev pub declared_references : {X Y : Type 0} → List (List ℕ) → Node-F X Y → List Reference
declared_references scope (Node-F.Class path superclass body span) =
    front_references scope (front_of path) ++ superclass_references scope superclass
declared_references scope (Node-F.Module path body span) = front_references scope (front_of path)
declared_references scope _ = []

-- the references of a part itself, without those below it
unfoldable pub own_references : Visit Tree → List Reference
own_references v = named_references v.reading v.scope v.part ++ declared_references v.scope (out-Node v.part.node)

-- the constant references of a program, each once
unfoldable pub references_of : Tree → List Reference
references_of t = flat_map own_references (visits t)

-- ---- errors

abbrev pub joined_after : List ℕ → List (List ℕ) → List ℕ
joined_after so_far [] = so_far
joined_after so_far (name ∷ names) = joined_after (joined so_far name) names

-- the names of a path joined by `::`. The empty first name of one that begins with `::` gives that `::`
abbrev pub spelled : List (List ℕ) → List ℕ
spelled [] = []
spelled (name ∷ names) = joined_after name names

abbrev pub CONSTANT_NOT_FOUND : ℕ
CONSTANT_NOT_FOUND = 5002

abbrev pub not_found : Reference → Diag
not_found r = record { span = r.span; number = CONSTANT_NOT_FOUND; text = codes "constant " ++ spelled r.path ++ codes " not found" }

-- an error for a reference that isn't found, and one for each of several
unfoldable pub error_by : (Reference → Bool) → Reference → List Diag
error_by finds r = if finds r then [] else not_found r ∷ []

abbrev pub errors_by : (Reference → Bool) → List Reference → List Diag
errors_by finds references = flat_map (error_by finds) references

-- the errors of the references of a part itself
abbrev pub own_errors : (Reference → Bool) → Visit Tree → List Diag
own_errors finds v = errors_by finds (own_references v)

-- whether the name for which a reference stands is one that is wanted: any, or a class or module
abbrev pub is_wanted : (List ℕ → Option Kind) → Bool → Option (List ℕ) → Bool
is_wanted kinds body None = false
is_wanted kinds false (Some name) = true
is_wanted kinds true (Some name) = is_body (kinds name)

-- whether a reference stands for something, by the facts of the project; in front of the last name of a declared path it must be a class
-- or module
unfoldable pub is_found : List Fact → Reference → Bool
is_found fs r = is_wanted (kind_of fs) r.wants_body (resolves fs r.scope r.path r.position)

-- the same by what a symbol table holds
abbrev pub found_at : World → Reference → Bool
found_at w r = is_wanted (kind_at w) r.wants_body (resolved_at w r.scope r.path r.position)

-- the errors of references, by the facts of the project
unfoldable pub reference_errors : List Fact → List Reference → List Diag
reference_errors fs references = errors_by (is_found fs) references
