-- What stands between and after the elements of lists is read, and the kinds of arguments are in order.
use Rattle.std.proofs.Common.{◌≡◌, ◌≢◌, ℕ, Bool, true, false, ◌&&◌, ◌||◌, if◌then◌else◌, List, [], ◌∷◌, ◌++◌, Some, None, Ok, refl, sym, ap, ◌∙◌, bytes_eq}
use Rattle.std.proofs.lemmas.Slice.Eq.{bytes_eq-Decides}
use Rattle.rb_tree.specs.Tokens.{same_shape}
use Rattle.rb_tree.specs.declared.syntax.Argument.{Argument}
use Rattle.rb_tree.specs.declared.syntax.Argument.TheVariants as argument
use Rattle.rb_tree.specs.declared.syntax.PlacedName.{PlacedName}
use Rattle.rb_tree.specs.declared.syntax.Tree.{Tree}
use Rattle.rb_tree.specs.declared.token.Token.{Token}
use Rattle.rb_tree.specs.declared.token.Shape.{Shape}
use Rattle.rb_tree.specs.declared.token.Shape.TheVariants as shape
use Rattle.rb_expr.specs.declared.lists.Order.{Order}
use Rattle.rb_expr.specs.declared.lists.Order.TheVariants as order
use Rattle.rb_expr.specs.Reading.{sees, and_then, expect}
use Rattle.rb_expr.specs.Lists.{order_of, is_keyword, is_block, is_some_block, passes_block, takes_comma, closed, after_comma, after_element, after_last, after_argument, is_among}
use Rattle.rb_rules.specs.Tokens.{Is}
use Rattle.rb_rules.specs.Spans.{last_of}
use Rattle.rb_rules.specs.Forms.{HasNoBlock, IsNot, names_of}
use Rattle.rb_rules.specs.Grammar.{Gap}
use Rattle.rb_rules.specs.Grammar.Gap.{Closed, Wide}
use Rattle.rb_rules.specs.Grammar.DerivesEnd.{NoComma, LastComma}
use Rattle.rb_grammar.proofs.Steps.{shown, Within, within-token}
use Rattle.rb_grammar.proofs.Lists.{Allowed, Ordered, last-got}
use Rattle.rb_grammar.proofs.Lists as sound
use Rattle.rb_grammar_laws.specs.Ends.{Ends, TERM_ENDS}
use Rattle.rb_grammar_laws.proofs.Steps.{on, taken, passed, is_in, expects, other, ends-by, skipped, gap-within}

-- ---- after an element

-- a closing bracket, which no separator and no comma is
pub record IsCloser (closer : Shape) : Type 0 where
  pub apart : same_shape closer shape.Separator ≡ false
  pub no_comma : same_shape closer shape.Comma ≡ false
  pub no_do : same_shape closer shape.Do ≡ false
  pub ends : is_in TERM_ENDS closer ≡ true

pub parens : IsCloser shape.CloseParen
unfolding same_shape
parens = record { apart = refl; no_comma = refl; no_do = refl; ends = refl }

pub square : IsCloser shape.CloseBracket
unfolding same_shape
square = record { apart = refl; no_comma = refl; no_do = refl; ends = refl }

pub curly : IsCloser shape.CloseBrace
unfolding same_shape
curly = record { apart = refl; no_comma = refl; no_do = refl; ends = refl }

closed-read : (closer : Shape) → IsCloser closer → (xs : List Token) (c : Token) (ys : List Token) → Gap xs (c ∷ ys) → Is closer c → closed closer xs ≡ Ok (Some c.span, ys)
unfolding closed
closed-read closer k xs c ys g is = ap (λ zs. and_then (expect closer zs) (λ x i. Ok (Some x, i))) (skipped xs (c ∷ ys) g (other shape.Separator closer c ys is k.apart)) ∙ on _ (expects closer c ys is) refl

gap-no-comma : (closer : Shape) → IsCloser closer → (xs : List Token) (c : Token) (ys : List Token) → Gap xs (c ∷ ys) → Is closer c → sees shape.Comma xs ≡ false
unfolding same_shape
gap-no-comma closer k xs c ys (Closed _) is = other shape.Comma closer c ys is k.no_comma
gap-no-comma closer k xs c ys (Wide t us _ sep g) is = other shape.Comma shape.Separator t us sep refl

-- a closing bracket, or a separator or comma before it, ends a term
pub gap-ends : (closer : Shape) → IsCloser closer → (free : Bool) (xs : List Token) (c : Token) (ys : List Token) → Gap xs (c ∷ ys) → Is closer c → Ends TERM_ENDS free xs
unfolding same_shape
gap-ends closer k free xs c ys (Closed _) is = ends-by TERM_ENDS closer k.ends k.no_do free c ys is
gap-ends closer k free xs c ys (Wide t us _ sep g) is = ends-by TERM_ENDS shape.Separator refl refl free t us sep

pub list-ends : (closer : Shape) → IsCloser closer → (free : Bool) (comma : Bool) (xs : List Token) (c : Token) (ys : List Token) → sound.Ends comma xs (c ∷ ys) → Is closer c → Ends TERM_ENDS free xs
unfolding same_shape
list-ends closer k free false xs c ys g is = gap-ends closer k free xs c ys g is
list-ends closer k free true xs c ys (NoComma _ _ g) is = gap-ends closer k free xs c ys g is
list-ends closer k free true xs c ys (LastComma m ps _ is2 g) is = ends-by TERM_ENDS shape.Comma refl refl free m ps is2

pub list-within : (comma : Bool) (xs : List Token) (c : Token) (ys : List Token) → sound.Ends comma xs (c ∷ ys) → Within xs (c ∷ ys)
list-within false xs c ys g = gap-within xs (c ∷ ys) g
list-within true xs c ys (NoComma _ _ g) = gap-within xs (c ∷ ys) g
list-within true xs c ys (LastComma m ps _ is g) = within-token m (gap-within ps (c ∷ ys) g)

-- the end of a list, where its last element is no block
pub element-closed : (closer : Shape) → IsCloser closer → (comma : Bool) → takes_comma closer ≡ comma → (xs : List Token) (c : Token) (ys : List Token) → sound.Ends comma xs (c ∷ ys) → Is closer c → after_element closer xs ≡ Ok (Some c.span, ys)
unfolding after_element after_comma
element-closed closer k false e xs c ys g is = passed _ _ (gap-no-comma closer k xs c ys g is) (closed-read closer k xs c ys g is)
element-closed closer k true e xs c ys (NoComma _ _ g) is = passed _ _ (gap-no-comma closer k xs c ys g is) (closed-read closer k xs c ys g is)
element-closed closer k true e xs c ys (LastComma m ps _ is2 g) is =
    taken _ _ (shown shape.Comma m ps is2) (ap (λ zs. if takes_comma closer && sees closer zs then closed closer zs else Ok (None, zs)) (skipped ps (c ∷ ys) g (other shape.Separator closer c ys is k.apart))
    ∙ taken _ _ (ap (λ b. b && sees closer (c ∷ ys)) e ∙ shown closer c ys is) (closed-read closer k (c ∷ ys) c ys (Closed _) is))

-- the end of a list whose last element is a block
last-closed : (closer : Shape) → IsCloser closer → (comma : Bool) → takes_comma closer ≡ comma → (xs : List Token) (c : Token) (ys : List Token) → sound.Ends comma xs (c ∷ ys) → Is closer c → after_last closer xs ≡ Ok (Some c.span, ys)
unfolding after_last
last-closed closer k false e xs c ys g is = passed _ _ (ap (λ b. b && sees shape.Comma xs) e) (closed-read closer k xs c ys g is)
last-closed closer k true e xs c ys (NoComma _ _ g) is = passed _ _ (ap (λ b. b && sees shape.Comma xs) e ∙ gap-no-comma closer k xs c ys g is) (closed-read closer k xs c ys g is)
last-closed closer k true e xs c ys (LastComma m ps _ is2 g) is = taken _ _ (ap (λ b. b && sees shape.Comma (m ∷ ps)) e ∙ shown shape.Comma m ps is2) (closed-read closer k ps c ys g is)

pub argument-closed : (closer : Shape) → IsCloser closer → (comma : Bool) → takes_comma closer ≡ comma → (given : Order) (xs : List Token) (c : Token) (ys : List Token) → sound.Ends comma xs (c ∷ ys) → Is closer c → after_argument closer given xs ≡ Ok (Some c.span, ys)
unfolding after_argument
argument-closed closer k comma e order.Block xs c ys d is = last-closed closer k comma e xs c ys d is
argument-closed closer k comma e order.Positional xs c ys d is = element-closed closer k comma e xs c ys d is
argument-closed closer k comma e order.Keyword xs c ys d is = element-closed closer k comma e xs c ys d is

and-false : (a b : Bool) → b ≡ false → (a && b) ≡ false
and-false true b e = e
and-false false b e = refl

-- a comma, after which another element follows
pub element-more : (closer : Shape) (m : Token) (ps qs : List Token) → Is shape.Comma m → Gap ps qs → sees shape.Separator qs ≡ false → sees closer qs ≡ false → after_element closer (m ∷ ps) ≡ Ok (None, qs)
unfolding after_element after_comma
element-more closer m ps qs is g s e =
    taken _ _ (shown shape.Comma m ps is) (ap (λ zs. if takes_comma closer && sees closer zs then closed closer zs else Ok (None, zs)) (skipped ps qs g s)
    ∙ passed _ _ (and-false (takes_comma closer) _ e) refl)

pub argument-more : (closer : Shape) (given : Order) → is_block given ≡ false → (m : Token) (ps qs : List Token) → Is shape.Comma m → Gap ps qs → sees shape.Separator qs ≡ false → sees closer qs ≡ false → after_argument closer given (m ∷ ps) ≡ Ok (None, qs)
unfolding after_argument
argument-more closer given e m ps qs is g s f = ap (λ b. (if b then after_last closer else after_element closer) (m ∷ ps)) e ∙ element-more closer m ps qs is g s f

-- ---- orders

pub first-allowed : (keywords : Bool) (a : Argument Tree) (more : List (Argument Tree)) → Ordered keywords (a ∷ more) → Allowed (order_of a) keywords
first-allowed true (argument.Positional v) more o = o
first-allowed false (argument.Positional v) more o = tt
first-allowed keywords (argument.Keyword n s v) more o = tt
first-allowed keywords (argument.Block s v) more o = tt

-- there is one at least
abbrev pub IsSome : {A : Type 0} → List A → Type 0
IsSome [] = ⊥
IsSome (x ∷ xs) = Unit {0}

-- an argument after which others stand is no block
pub first-no-block : (keywords : Bool) (a : Argument Tree) (more : List (Argument Tree)) → IsSome more → Ordered keywords (a ∷ more) → is_block (order_of a) ≡ false
first-no-block keywords a [] some o = absurd some
first-no-block keywords (argument.Positional v) (b ∷ more) some o = refl
first-no-block keywords (argument.Keyword n s v) (b ∷ more) some o = refl
first-no-block true (argument.Block s v) (b ∷ more) some o = absurd o
first-no-block false (argument.Block s v) (b ∷ more) some o = absurd o

pub more-ordered : (keywords : Bool) (a : Argument Tree) (more : List (Argument Tree)) → IsSome more → Ordered keywords (a ∷ more) → Ordered (is_keyword (order_of a)) more
more-ordered keywords a [] some o = absurd some
more-ordered true (argument.Positional v) (b ∷ more) some o = absurd o
more-ordered false (argument.Positional v) (b ∷ more) some o = o
more-ordered true (argument.Keyword n s v) (b ∷ more) some o = o
more-ordered false (argument.Keyword n s v) (b ∷ more) some o = o
more-ordered true (argument.Block s v) (b ∷ more) some o = absurd o
more-ordered false (argument.Block s v) (b ∷ more) some o = absurd o

last-no-block : (a : Argument Tree) (more : List (Argument Tree)) → HasNoBlock (a ∷ more) → is_block (order_of (last_of a more)) ≡ false
last-no-block (argument.Positional v) [] h = refl
last-no-block (argument.Keyword n s v) [] h = refl
last-no-block (argument.Block s v) more h = absurd h
last-no-block (argument.Positional v) (b ∷ more) h = last-no-block b more h
last-no-block (argument.Keyword n s v) (b ∷ more) h = last-no-block b more h

pub passes-none : (given : List (Argument Tree)) → HasNoBlock given → passes_block given ≡ false
unfolding passes_block
passes-none [] h = refl
passes-none (a ∷ more) h = ap is_some_block (last-got a more) ∙ last-no-block a more h

-- ---- names, each once

unlike : (v w : List ℕ) → w ≢ v → bytes_eq v w ≡ false
unlike v w d = go (bytes_eq v w) refl
  where
    go : (b : Bool) → bytes_eq v w ≡ b → b ≡ false
    go true e = absurd (d (sym ((bytes_eq-Decides v w).0 e)))
    go false e = refl

neither : (a b : Bool) → a ≡ false → b ≡ false → (a || b) ≡ false
neither true b e f = e
neither false b e f = f

or-left : (a b : Bool) → (a || b) ≡ false → a ≡ false
or-left true b e = e
or-left false b e = refl

or-right : (a b : Bool) → (a || b) ≡ false → b ≡ false
or-right true b e = absurd (cc)
or-right false b e = e

pub still-new : (names : List (List ℕ)) (w v : List ℕ) → is_among names v ≡ false → w ≢ v → is_among (names ++ w ∷ []) v ≡ false
still-new [] w v e d = neither (bytes_eq v w) _ (unlike v w d) refl
still-new (n ∷ names) w v e d = neither (bytes_eq v n) _ (or-left _ _ e) (still-new names w v (or-right (bytes_eq v n) _ e) d)

pub still-fresh : (names : List (List ℕ)) (w : List ℕ) (more : List PlacedName) → sound.Fresh names more → IsNot w (names_of more) → sound.Fresh (names ++ w ∷ []) more
still-fresh names w [] f d = tt
still-fresh names w (n ∷ more) f d = (still-new names w n.name f.0 d.0, still-fresh names w more f.1 d.1)

pub all-fresh : (more : List PlacedName) → sound.Fresh [] more
all-fresh [] = tt
all-fresh (n ∷ more) = (refl, all-fresh more)
