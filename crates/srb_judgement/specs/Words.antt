-- Literals, `self`, constants, variables and instance variables.
use Rattle.std.specs.Prelude.{ℕ, List, [], ◌∷◌, ◌++◌, codes, Option, Some, None}
use Rattle.srb_terms.specs.declared.span.Span.{Span}
use Rattle.rb_tree.specs.declared.syntax.Pair.{Pair}
use Rattle.rb_tree.specs.declared.syntax.Pair.TheVariants as pair
use Rattle.rb_tree.specs.declared.syntax.Piece.{Piece}
use Rattle.rb_tree.specs.declared.syntax.Piece.TheVariants as piece
use Rattle.srb_judgement.specs.Environments.{Environment, Live, Dead, Silent, variable_type}
use Rattle.srb_judgement.specs.Errors.{not_declared}
use Rattle.srb_judgement.specs.Languages.{Language, Meaning, ClassNamed, ModuleNamed, ValueOf, Unresolved}
use Rattle.srb_judgement.specs.Parts.{Operand, Part}
use Rattle.srb_judgement.specs.Sequences.{judge_all}
use Rattle.srb_judgement.specs.States.{Context, State, Judged, Several, Run, judged, seeing, with_error}
use Rattle.srb_judgement.specs.Types.{any_of}

module _ {T X : Type 0} (L : Language T X) where
  -- ---- literals

  -- "Literals have their classes"
  abbrev pub literal : List ℕ → Run T
  literal class c s = judged (L.instance class) s

  -- "a string's interpolations are judged in order"; each is part of the body around it
  abbrev pub judge_pieces : List (Piece (Part T X)) → Context T → State T → State T
  judge_pieces [] c s = s
  judge_pieces (piece.Words words span ∷ rest) c s = judge_pieces rest c s
  judge_pieces (piece.Code body span ∷ rest) c s = judge_pieces rest (seeing body.it.declares c) (body.it.judge c s).state

  abbrev pub text : List (Piece (Part T X)) → Run T
  text pieces c s = judged (L.instance (codes "String")) (judge_pieces pieces c s)

  -- "`[..]` is an array of the `T.any` of its parts .. empty ones have `T.untyped`."
  abbrev pub element_type : List T → T
  element_type [] = L.untyped
  element_type (t ∷ ts) = any_of L (t ∷ ts)

  abbrev pub array_of : Several T → Judged T
  array_of elements = judged (L.array (element_type elements.types)) elements.state

  abbrev pub array : List (Operand T X) → Run T
  array elements c s = array_of (judge_all elements c s)

  -- "`{..}` a hash likewise"; "A label in a hash literal is a Symbol."
  abbrev pub with_key : List T → List T → T → Judged T → record { keys : List T; values : List T; state : State T }
  with_key keys values key j = record { keys = keys ++ key ∷ []; values = values ++ j.ty ∷ []; state = j.state }

  abbrev pub with_arrow : List T → List T → Operand T X → Context T → Judged T → record { keys : List T; values : List T; state : State T }
  with_arrow keys values value c k = with_key keys values k.ty (value.judge c k.state)

  abbrev pub judge_pairs : List (Pair (Part T X)) → Context T → record { keys : List T; values : List T; state : State T } → record { keys : List T; values : List T; state : State T }
  judge_pairs [] c so_far = so_far
  judge_pairs (pair.Arrow key value ∷ rest) c so_far =
      judge_pairs rest (seeing (key.it.declares ++ value.it.declares) c)
      (with_arrow so_far.keys so_far.values value.it (seeing key.it.declares c) (key.it.judge c so_far.state))
  judge_pairs (pair.Label name span value ∷ rest) c so_far =
      judge_pairs rest (seeing value.it.declares c)
      (with_key so_far.keys so_far.values (L.instance (codes "Symbol")) (value.it.judge c so_far.state))

  abbrev pub hash_of : record { keys : List T; values : List T; state : State T } → Judged T
  hash_of pairs = judged (L.hash (element_type pairs.keys) (element_type pairs.values)) pairs.state

  abbrev pub hash : List (Pair (Part T X)) → Run T
  hash pairs c s = hash_of (judge_pairs pairs c (record { keys = []; values = []; state = s }))

  -- ---- `self` and constants

  -- "`self` is the owner in a method, `T.class_of` the owner in `def self.` and in class bodies, `Object` at top level."
  abbrev pub self_word : Run T
  self_word c s = judged c.self_type s

  -- "A constant that names a class or module has `T.class_of` it (a module too); a value constant its type; an unresolved one `T.untyped`."
  abbrev pub constant_type : Meaning T → T
  constant_type (ClassNamed name) = L.class_object name
  constant_type (ModuleNamed name) = L.class_object name
  constant_type (ValueOf ty) = ty
  constant_type Unresolved = L.untyped

  abbrev pub constant : List (List ℕ) → Run T
  constant path c s = judged (constant_type (L.meaning c.scope path)) s

  -- "`e::X` with an `e` that is no path: `e` is judged, the type is `T.untyped`"
  abbrev pub as_untyped : Judged T → Judged T
  as_untyped j = judged L.untyped j.state

  abbrev pub constant_within : Operand T X → Run T
  constant_within o c s = as_untyped (o.judge c s)

  -- ---- variables

  abbrev pub type_at : Environment T → List ℕ → T
  type_at (Live rows) name = variable_type L rows name
  type_at Dead name = L.never
  type_at Silent name = L.never

  abbrev pub variable : List ℕ → Run T
  variable name c s = judged (type_at s.environment name) s

  -- "`@x` has its declared type, else `T.untyped` and 6002."
  abbrev pub declared_or : Option T → List ℕ → Span → State T → Judged T
  declared_or (Some ty) name span s = judged ty s
  declared_or None name span s = judged L.untyped (with_error (not_declared span name) s)

  abbrev pub instance_variable : List ℕ → Span → Run T
  instance_variable name span c s = declared_or (L.instance_variable c.owner c.meta name) name span s
