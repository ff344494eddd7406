-- A few programs and their references.
use Rattle.std.specs.Prelude.{◌≡◌, ℕ, true, false, List, [], ◌∷◌, codes, Some, None}
use Rattle.srb_terms.specs.declared.span.Span.{Span}
use Rattle.rb_tree.specs.Nodes as tree
use Rattle.rb_tree.specs.declared.syntax.Argument.TheVariants as argument
use Rattle.rb_tree.specs.declared.syntax.Dot.TheVariants as dot
use Rattle.rb_tree.specs.declared.syntax.Suffix.TheVariants as suffix
use Rattle.rb_tree.specs.declared.syntax.Tree.{Tree}
use Rattle.srb_rules.specs.declared.position.Position.{Position}
use Rattle.srb_rules.specs.declared.position.Position.TheVariants as position
use Rattle.srb_references.specs.declared.reference.Reference.{Reference}
use Rattle.srb_references.specs.References.{references_of}

abbrev pub from_to : ℕ → ℕ → Span
from_to a b = record { start = a; end = b }

-- a reference that may stand for a class, a module or a value constant
abbrev pub reference : List (List ℕ) → List (List ℕ) → Position → ℕ → ℕ → Reference
reference scope path p a b = record { scope = scope; path = path; position = p; wants_body = false; span = from_to a b }

-- `include M`
abbrev pub INCLUDE : Tree
INCLUDE = tree.Command (tree.Name (codes "include") (from_to 16 23)) (argument.Positional (tree.Constant (codes "M") (from_to 24 25)) ∷ []) None (from_to 16 25)

-- `returns(X)`
abbrev pub RETURNS : Tree
RETURNS = tree.Call (codes "returns") (from_to 33 40) (Some (argument.Positional (tree.Constant (codes "X") (from_to 41 42)) ∷ [])) None (from_to 33 43)

-- `sig { .. }` with these statements
abbrev pub sig : List Tree → Tree
sig statements = tree.Call (codes "sig") (from_to 27 30) None
    (Some (record { parameters = []; body = tree.Body statements (from_to 33 43); span = from_to 31 45 })) (from_to 27 45)

-- `class A::B < P; include M; sig { returns(X) }; Y; end`
abbrev pub CLASS : Tree
CLASS = tree.Class (record { name = codes "A"; span = from_to 6 7 } ∷ record { name = codes "B"; span = from_to 9 10 } ∷ [])
    (Some (record { top = false; path = record { name = codes "P"; span = from_to 13 14 } ∷ []; span = from_to 13 14 }))
    (tree.Body (INCLUDE ∷ sig (RETURNS ∷ []) ∷ tree.Constant (codes "Y") (from_to 47 48) ∷ []) (from_to 16 48)) (from_to 0 53)

abbrev pub IN_CLASS : List (List ℕ)
IN_CLASS = codes "A::B" ∷ []

abbrev pub CLASS_REFERENCES : List Reference
CLASS_REFERENCES =
    record { scope = []; path = codes "A" ∷ []; position = position.Value; wants_body = true; span = from_to 6 7 }
    ∷ reference [] (codes "P" ∷ []) position.Parent 13 14
    ∷ reference IN_CLASS (codes "Y" ∷ []) position.Value 47 48
    ∷ reference IN_CLASS (codes "X" ∷ []) position.Value 41 42
    ∷ reference IN_CLASS (codes "M" ∷ []) position.Parent 24 25
    ∷ []

-- `T::Array[Z]`
abbrev pub ARRAY : Tree
ARRAY = tree.Post (tree.Constant (codes "T") (from_to 13 14))
    (suffix.Constant (codes "Array") (from_to 16 21) (from_to 14 21)
    ∷ suffix.Index (argument.Positional (tree.Constant (codes "Z") (from_to 22 23)) ∷ []) (from_to 21 24)
    ∷ []) (from_to 13 24)

-- `X = T.let(y, T::Array[Z])`: X is declared, and `T::Array` is no constant
abbrev pub ASSERTED : Tree
ASSERTED = tree.Assign (tree.Constant (codes "X") (from_to 0 1))
    (tree.Post (tree.Constant (codes "T") (from_to 4 5))
    (suffix.Call dot.Plain (codes "let") (from_to 6 9)
    (Some (argument.Positional (tree.Name (codes "y") (from_to 10 11)) ∷ argument.Positional ARRAY ∷ []))
    None (from_to 5 25) ∷ []) (from_to 4 25)) (from_to 0 25)

-- that, `include M` and `sig { returns(X) }` at the program's level, where the last two are calls like others
abbrev pub CALLS : Tree
CALLS = tree.Body (ASSERTED ∷ INCLUDE ∷ sig (RETURNS ∷ []) ∷ []) (from_to 0 45)

abbrev pub CALL_REFERENCES : List Reference
CALL_REFERENCES =
    reference [] (codes "X" ∷ []) position.Value 41 42
    ∷ reference [] (codes "M" ∷ []) position.Value 24 25
    ∷ reference [] (codes "T" ∷ []) position.Value 4 5
    ∷ reference [] (codes "Z" ∷ []) position.Value 22 23
    ∷ []

-- `::A::B.c(D)`: the path as far as it goes, and the argument
abbrev pub PATHS : Tree
PATHS = tree.Post (tree.TopConstant (codes "A") (from_to 2 3) (from_to 0 3))
    (suffix.Constant (codes "B") (from_to 5 6) (from_to 3 6)
    ∷ suffix.Call dot.Plain (codes "c") (from_to 7 8) (Some (argument.Positional (tree.Constant (codes "D") (from_to 9 10)) ∷ [])) None (from_to 6 11)
    ∷ []) (from_to 0 11)

abbrev pub PATH_REFERENCES : List Reference
PATH_REFERENCES =
    reference [] ([] ∷ codes "A" ∷ codes "B" ∷ []) position.Value 0 6
    ∷ reference [] (codes "D" ∷ []) position.Value 9 10
    ∷ []

-- ---- what they refer to

abbrev pub ClassRefers : Type 0
ClassRefers = references_of CLASS ≡ CLASS_REFERENCES

abbrev pub CallsRefer : Type 0
CallsRefer = references_of CALLS ≡ CALL_REFERENCES

abbrev pub PathsRefer : Type 0
PathsRefer = references_of PATHS ≡ PATH_REFERENCES
