-- What stands between and after the elements of lists, and the orders of arguments and names.
use Rattle.std.proofs.Common.{◌≡◌, ◌≢◌, ℕ, suc, ◌-◌, Bool, true, false, ◌&&◌, ◌||◌, if◌then◌else◌, List, [], ◌∷◌, ◌++◌, length, slice_get, Option, Some, None, refl, sym, ap, subst, ◌∙◌, bytes_eq, arith}
use Rattle.std.proofs.lemmas.Slice.Eq.{bytes_eq-Decides}
use Rattle.srb_terms.specs.declared.span.Span.{Span}
use Rattle.rb_tree.specs.declared.syntax.Argument.{Argument}
use Rattle.rb_tree.specs.declared.syntax.Argument.TheVariants as argument
use Rattle.rb_tree.specs.declared.syntax.PlacedName.{PlacedName}
use Rattle.rb_tree.specs.declared.syntax.Tree.{Tree}
use Rattle.rb_tree.specs.declared.token.Token.{Token}
use Rattle.rb_tree.specs.declared.token.Shape.{Shape}
use Rattle.rb_tree.specs.declared.token.Shape.TheVariants as shape
use Rattle.rb_expr.specs.declared.lists.Order.{Order}
use Rattle.rb_expr.specs.declared.lists.Order.TheVariants as order
use Rattle.rb_expr.specs.Reading.{after, skip_separators, words_of}
use Rattle.rb_expr.specs.Lists.{order_of, is_keyword, is_block, is_some_block, passes_block, takes_comma, closed, after_comma, after_element, after_last, after_argument, is_among, noted, fresh_name}
use Rattle.rb_rules.specs.Tokens.{Is}
use Rattle.rb_rules.specs.Spans.{last_of}
use Rattle.rb_rules.specs.Forms.{AreOrdered, AreNamed, HasNoBlock, IsNot, names_of}
use Rattle.rb_rules.specs.Grammar.{Gap, DerivesEnd, BarNames}
use Rattle.rb_rules.specs.Grammar.Gap.{Closed, Wide}
use Rattle.rb_rules.specs.Grammar.DerivesEnd.{NoComma, LastComma}
use Rattle.rb_rules.specs.Grammar.BarNames.{LastBar, MoreBars}
use Rattle.rb_grammar.proofs.Steps.{Holds, answered, refused, weaker, choose, choosing, naming, follow, testing, seen, Within, within-self, within-token, within-more, gap, identifier}

pub and-left : (a b : Bool) → (a && b) ≡ true → a ≡ true
and-left true b h = refl
and-left false b h = h

pub and-right : (a b : Bool) → (a && b) ≡ true → b ≡ true
and-right true b h = h
and-right false b h = absurd (cc)

pub gap-more : {xs ys zs : List Token} → Gap xs ys → Gap ys zs → Gap xs zs
gap-more (Closed _) h = h
gap-more (Wide t xs ys is g) h = Wide t xs _ is (gap-more g h)

-- ---- after an element

-- what stands before this kind of closing bracket
abbrev pub Ends : Bool → List Token → List Token → Type 0
Ends true = DerivesEnd
Ends false = Gap

ends-of : (b : Bool) (xs ys : List Token) → Gap xs ys → Ends b xs ys
ends-of true xs ys g = NoComma _ _ g
ends-of false xs ys g = g

-- the closing bracket
abbrev pub Closes : (List Token → List Token → Type 0) → Shape → List Token → Span → List Token → Type 0
Closes G closer xs place ys = (c : Token) × Is closer c × (place ≡ c.span) × G xs (c ∷ ys) × Within xs (c ∷ ys)

-- the closing bracket, or a comma
abbrev pub After : Shape → List Token → Option Span → List Token → Type 0
After closer xs (Some place) ys = Closes (Ends (takes_comma closer)) closer xs place ys
After closer xs None ys = (c : Token) × (ps : List Token) × Is shape.Comma c × (xs ≡ c ∷ ps) × Gap ps ys × Within ps ys

abbrev AllClosed : (List Token → List Token → Type 0) → Shape → List Token → Option Span → List Token → Type 0
AllClosed G closer xs (Some place) ys = Closes G closer xs place ys
AllClosed G closer xs None ys = ⊥

closed-holds : (closer : Shape) (xs : List Token) → Holds (closed closer xs) (AllClosed Gap closer xs)
unfolding closed
closed-holds closer xs = follow closer (λ qs. Gap xs qs × Within xs qs) _ _ _ (gap xs) (λ c ys is g. answered _ _ _ (c, is, refl, g.0, g.1))

closed-ends : (closer : Shape) (xs : List Token) → Holds (closed closer xs) (AllClosed (Ends (takes_comma closer)) closer xs)
closed-ends closer xs = weaker (closed-holds closer xs) (elim [ Some place ↦ λ ys h. (h.0, h.1, h.2, ends-of (takes_comma closer) _ _ h.3, h.4) | None ↦ λ ys h. absurd h ])

closed-after : (closer : Shape) (xs : List Token) → Holds (closed closer xs) (After closer xs)
closed-after closer xs = weaker (closed-ends closer xs) (elim [ Some place ↦ λ ys h. h | None ↦ λ ys h. absurd h ])

-- a comma and the closing bracket
comma-closed : (closer : Shape) (t : Token) (ts qs : List Token) → Is shape.Comma t → takes_comma closer ≡ true → Gap ts qs → Within ts qs → Holds (closed closer qs) (AllClosed (Ends (takes_comma closer)) closer (t ∷ ts))
comma-closed closer t ts qs is comma g w = weaker (closed-holds closer qs) (elim [
  | Some place ↦ λ ys h. (h.0, h.1, h.2, subst (λ b. Ends b (t ∷ ts) (h.0 ∷ ys)) (sym comma) (LastComma _ _ _ is (gap-more g h.3)), within-token t (within-more w h.4))
  | None ↦ λ ys h. absurd h
])

comma-holds : (closer : Shape) (t : Token) (ts qs : List Token) → Is shape.Comma t → Gap ts qs → Within ts qs → Holds (after_comma closer qs) (After closer (t ∷ ts))
unfolding after_comma
comma-holds closer t ts qs is g w = choose
    (λ e. weaker (comma-closed closer t ts qs is (and-left _ _ e) g w) (elim [ Some place ↦ λ ys h. h | None ↦ λ ys h. absurd h ]))
    (λ e. answered (After closer (t ∷ ts)) None qs (t, ts, is, refl, g, w))

pub element-holds : (closer : Shape) (xs : List Token) → Holds (after_element closer xs) (After closer xs)
unfolding after_element
element-holds closer [] = closed-after closer []
element-holds closer (t ∷ ts) = testing
    (λ is. let g = gap ts in comma-holds closer t ts (skip_separators ts) is g.0 g.1)
    (λ no. closed-after closer (t ∷ ts))

last-holds : (closer : Shape) (xs : List Token) → Holds (after_last closer xs) (AllClosed (Ends (takes_comma closer)) closer xs)
unfolding after_last
last-holds closer xs = choose
    (λ e. let s = seen shape.Comma xs (and-right _ _ e) in
    subst (λ ys. Holds (closed closer (after xs)) (AllClosed (Ends (takes_comma closer)) closer ys)) (sym s.2)
    (comma-closed closer s.0 (after xs) (after xs) s.1 (and-left _ _ e) (Closed _) (within-self _)))
    (λ e. closed-ends closer xs)

-- after an argument of this order
abbrev pub AfterArgument : Shape → Order → List Token → Option Span → List Token → Type 0
AfterArgument closer given xs (Some place) ys = Closes (Ends (takes_comma closer)) closer xs place ys
AfterArgument closer given xs None ys = (c : Token) × (ps : List Token) × Is shape.Comma c × (xs ≡ c ∷ ps) × Gap ps ys × Within ps ys × (is_block given ≡ false)

pub after-argument-holds : (closer : Shape) (given : Order) (xs : List Token) → Holds (after_argument closer given xs) (AfterArgument closer given xs)
unfolding after_argument
after-argument-holds closer order.Block xs = weaker (last-holds closer xs) (elim [ Some place ↦ λ ys h. h | None ↦ λ ys h. absurd h ])
after-argument-holds closer order.Positional xs = weaker (element-holds closer xs) (elim [ Some place ↦ λ ys h. h | None ↦ λ ys h. (h.0, h.1, h.2, h.3, h.4, h.5, refl) ])
after-argument-holds closer order.Keyword xs = weaker (element-holds closer xs) (elim [ Some place ↦ λ ys h. h | None ↦ λ ys h. (h.0, h.1, h.2, h.3, h.4, h.5, refl) ])

-- ---- orders

-- after keyword arguments stand none by place
abbrev pub Allowed : Order → Bool → Type 0
Allowed order.Keyword keywords = Unit {0}
Allowed order.Block keywords = Unit {0}
Allowed order.Positional true = ⊥
Allowed order.Positional false = Unit {0}

abbrev pub Ordered : Bool → List (Argument Tree) → Type 0
Ordered true = AreNamed
Ordered false = AreOrdered

pub last-ordered : (a : Argument Tree) (keywords : Bool) → Allowed (order_of a) keywords → Ordered keywords (a ∷ [])
last-ordered (argument.Positional v) true h = absurd h
last-ordered (argument.Positional v) false h = tt
last-ordered (argument.Keyword n s v) true h = tt
last-ordered (argument.Keyword n s v) false h = tt
last-ordered (argument.Block s v) true h = tt
last-ordered (argument.Block s v) false h = tt

pub more-ordered : (a : Argument Tree) (keywords : Bool) (more : List (Argument Tree)) → Allowed (order_of a) keywords → is_block (order_of a) ≡ false → Ordered (is_keyword (order_of a)) more → Ordered keywords (a ∷ more)
more-ordered (argument.Positional v) true more h other o = absurd h
more-ordered (argument.Positional v) false more h other o = o
more-ordered (argument.Keyword n s v) true more h other o = o
more-ordered (argument.Keyword n s v) false more h other o = o
more-ordered (argument.Block s v) keywords more h other o = absurd (cc)

no-block-by : (keywords : Bool) (a : Argument Tree) (more : List (Argument Tree)) → Ordered keywords (a ∷ more) → is_block (order_of (last_of a more)) ≡ false → HasNoBlock (a ∷ more)
no-block-by keywords (argument.Block s v) [] o e = absurd (cc)
no-block-by true (argument.Block s v) (b ∷ more) o e = absurd o
no-block-by false (argument.Block s v) (b ∷ more) o e = absurd o
no-block-by keywords (argument.Positional v) [] o e = tt
no-block-by true (argument.Positional v) (b ∷ more) o e = absurd o
no-block-by false (argument.Positional v) (b ∷ more) o e = no-block-by false b more o e
no-block-by keywords (argument.Keyword n s v) [] o e = tt
no-block-by true (argument.Keyword n s v) (b ∷ more) o e = no-block-by true b more o e
no-block-by false (argument.Keyword n s v) (b ∷ more) o e = no-block-by true b more o e

pub last-got : {A : Type 0} (a : A) (more : List A) → slice_get (a ∷ more) (length (a ∷ more) - 1) ≡ Some (last_of a more)
last-got a [] = refl
last-got a (b ∷ bs) = let e : length (a ∷ b ∷ bs) - 1 ≡ suc (length (b ∷ bs) - 1) = omega arith in ap (slice_get (a ∷ b ∷ bs)) e ∙ last-got b bs

pub no-block : (given : List (Argument Tree)) → AreOrdered given → passes_block given ≡ false → HasNoBlock given
unfolding passes_block
no-block [] o e = tt
no-block (a ∷ more) o e = no-block-by false a more o (sym (ap is_some_block (last-got a more)) ∙ e)

-- ---- names, each once

pub or-left : (a b : Bool) → (a || b) ≡ false → a ≡ false
or-left true b e = e
or-left false b e = refl

pub or-right : (a b : Bool) → (a || b) ≡ false → b ≡ false
or-right true b e = absurd (cc)
or-right false b e = e

neither : (a b : Bool) → a ≡ false → b ≡ false → (a || b) ≡ false
neither true b e f = e
neither false b e f = f

differs : (w v : List ℕ) → bytes_eq v w ≡ false → w ≢ v
differs w v e is = let same' : bytes_eq v w ≡ true = (bytes_eq-Decides v w).1 (sym is) in absurd (cc)

-- a name that is none of some and one more
pub apart : (names : List (List ℕ)) (w v : List ℕ) → is_among (names ++ w ∷ []) v ≡ false → (is_among names v ≡ false) × (w ≢ v)
apart [] w v h = (refl, differs w v (or-left _ _ h))
apart (n ∷ names) w v h = let rest = apart names w v (or-right (bytes_eq v n) _ h) in (neither _ _ (or-left (bytes_eq v n) _ h) rest.0, rest.1)

-- a name that is none of some is noted after them
pub noted-new : (names : List (List ℕ)) (w : List ℕ) → is_among names w ≡ false → noted names w ≡ names ++ w ∷ []
noted-new names w e = ap (λ b. if b then names else names ++ w ∷ []) e

-- none of the second list has one of the names
abbrev pub Fresh : List (List ℕ) → List PlacedName → Type 0
Fresh names [] = Unit {0}
Fresh names (n ∷ more) = (is_among names n.name ≡ false) × Fresh names more

pub apart-all : (names : List (List ℕ)) (w : List ℕ) (more : List PlacedName) → Fresh (names ++ w ∷ []) more → Fresh names more × IsNot w (names_of more)
apart-all names w [] h = (tt, tt)
apart-all names w (n ∷ more) h =
    let here = apart names w n.name h.0 in
    let rest = apart-all names w more h.1 in
    ((here.0, rest.0), (here.1, rest.1))

-- a name that is none of these: it may be the last, or a comma may follow
abbrev pub AName : List (List ℕ) → List Token → PlacedName → List Token → Type 0
AName names xs p ys = (is_among names p.name ≡ false) × BarNames (p ∷ []) xs ys × ((c : Token) (ps zs : List Token) (more : List PlacedName) → ys ≡ c ∷ ps → Is shape.Comma c → BarNames more ps zs → BarNames (p ∷ more) xs zs) × Within xs ys

pub name-holds : (names : List (List ℕ)) (xs : List Token) → Holds (fresh_name names xs) (AName names xs)
unfolding fresh_name
name-holds names xs = naming shape.Identifier (AName names) _ xs (λ t ts is. choosing (is_among names (words_of t.kind)) (λ e. refused _ _)
    (λ new. answered (AName names (t ∷ ts)) (record { name = words_of t.kind; span = t.span }) ts (
      new,
      LastBar _ _ _ (identifier t is),
      (λ c ps zs more e comma h. subst (λ ys. BarNames (record { name = words_of t.kind; span = t.span } ∷ more) (t ∷ ys) zs) (sym e) (MoreBars _ _ _ _ _ _ (identifier t is) comma h)),
      within-token t (within-self _),
    )))
