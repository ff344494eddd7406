-- Bodies without declarations, in the words of the grammar.
use Rattle.std.specs.Prelude.{Bool, true, List, [], ◌∷◌}
use Rattle.rb_tree.specs.declared.syntax.Tree.{Tree}
use Rattle.rb_tree.specs.declared.token.Token.{Token}
use Rattle.rb_tree.specs.declared.token.Shape.TheVariants as shape
use Rattle.rb_rules.specs.Tokens.{Is, StartsWith}
use Rattle.rb_rules.specs.Grammar.{Gap, Parted, DerivesModified, DerivesSimple, body_of}

-- A statement that is no declaration: a simple one and its modifiers. The flag says that the simple one may assign to a constant.
pub record PlainStatement (constants : Bool) (t : Tree) (xs ys : List Token) : Type 0 where
  pub inner : Tree
  pub after : List Token
  pub simple : DerivesSimple constants true inner xs after
  pub modified : DerivesModified true inner t after ys

-- such statements after a first one, each after at least one separator
pub data PlainMore : Bool → List Tree → List Token → List Token → Type 0 where
  NoMore : (constants : Bool) (xs : List Token) → PlainMore constants [] xs xs
  Another : (constants : Bool) (t : Token) (s : Tree) (ss : List Tree) (xs ps qs ys : List Token) →
      Is shape.Separator t → Gap xs ps → PlainStatement constants s ps qs → PlainMore constants ss qs ys → PlainMore constants (s ∷ ss) (t ∷ xs) ys

-- a body of such statements, perhaps of none, with the separators around them
pub data PlainBody : Bool → Tree → List Token → List Token → Type 0 where
  NoStatement : (constants : Bool) (xs ys : List Token) → Gap xs ys → PlainBody constants (body_of []) xs ys
  Statements : (constants : Bool) (s : Tree) (ss : List Tree) (xs ps qs rs ys : List Token) →
      Gap xs ps → PlainStatement constants s ps qs → PlainMore constants ss qs rs → Gap rs ys → PlainBody constants (body_of (s ∷ ss)) xs ys

-- Before a `rescue` a separator parts such a body from it, or nothing an empty one.
abbrev pub IsParted : Bool → List Token → List Token → Type 0
IsParted constants xs ys = StartsWith (shape.Rescue ∷ []) ys → (t : Tree) × (ps : List Token) × PlainBody constants t xs ps × Parted t ps ys
