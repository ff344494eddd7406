-- What the rules of the grammar ask of single tokens.
use Rattle.std.specs.Prelude.{◌≡◌, ℕ, ◌⊎◌, List, [], ◌∷◌}
use Rattle.rb_tree.specs.Tokens.{shape_of}
use Rattle.rb_tree.specs.declared.token.Token.{Token}
use Rattle.rb_tree.specs.declared.token.TokenKind.TheVariants as kind
use Rattle.rb_tree.specs.declared.token.Shape.{Shape}
use Rattle.rb_tree.specs.declared.token.Shape.TheVariants as shape

-- the token has this shape
abbrev pub Is : Shape → Token → Type 0
Is s t = shape_of t.kind ≡ s

-- the element stands in the list
abbrev pub IsOneOf : {A : Type 0} → List A → A → Type 0
IsOneOf [] x = ⊥
IsOneOf (y ∷ ys) x = (x ≡ y) ⊎ IsOneOf ys x

-- the token has one of these shapes
abbrev pub IsAny : List Shape → Token → Type 0
IsAny shapes t = IsOneOf shapes (shape_of t.kind)

-- a token is next, and it has one of these shapes
abbrev pub StartsWith : List Shape → List Token → Type 0
StartsWith shapes [] = ⊥
StartsWith shapes (t ∷ ts) = IsAny shapes t

-- the second token stands directly after the first
abbrev pub Touches : Token → Token → Type 0
Touches a b = b.span.start ≡ a.span.end

-- the words that a token of this kind carries
abbrev pub IsIdentifier : Token → List ℕ → Type 0
IsIdentifier t w = t.kind ≡ kind.Identifier w

abbrev pub IsConstant : Token → List ℕ → Type 0
IsConstant t w = t.kind ≡ kind.Constant w

abbrev pub IsInstanceVariable : Token → List ℕ → Type 0
IsInstanceVariable t w = t.kind ≡ kind.InstanceVariable w

abbrev pub IsLabel : Token → List ℕ → Type 0
IsLabel t w = t.kind ≡ kind.Label w

abbrev pub IsSymbol : Token → List ℕ → Type 0
IsSymbol t w = t.kind ≡ kind.Symbol w

abbrev pub IsWhole : Token → List ℕ → Type 0
IsWhole t w = t.kind ≡ kind.Whole w

abbrev pub IsFloat : Token → List ℕ → Type 0
IsFloat t w = t.kind ≡ kind.Float w

abbrev pub IsText : Token → List ℕ → Type 0
IsText t w = t.kind ≡ kind.Text w

-- a sign that touches the number after it stands next
abbrev pub NUMBERS : List Shape
NUMBERS = shape.Whole ∷ shape.Float ∷ []

abbrev pub IsBeforeNumber : Token → List Token → Type 0
IsBeforeNumber t [] = ⊥
IsBeforeNumber t (n ∷ ts) = IsAny NUMBERS n × Touches t n

-- such a number stands next, and `**` after it
abbrev pub IsRaised : List Token → Type 0
IsRaised [] = ⊥
IsRaised (n ∷ ts) = StartsWith (shape.Power ∷ []) ts
