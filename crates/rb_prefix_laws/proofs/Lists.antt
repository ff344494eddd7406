-- What stands between and after the elements of lists is read alike.
use Rattle.std.proofs.Common.{◌≡◌, ℕ, ◌-◌, Bool, true, false, ◌&&◌, if◌then◌else◌, List, [], ◌∷◌, Option, Some, None, Ok, Err, refl, ap, ◌∙◌}
use Rattle.rb_tree.specs.Tokens.{shape_of, same_shape}
use Rattle.rb_tree.specs.declared.syntax.PlacedName.{PlacedName}
use Rattle.rb_tree.specs.declared.token.Token.{Token}
use Rattle.rb_tree.specs.declared.token.Shape.{Shape}
use Rattle.rb_tree.specs.declared.token.Shape.TheVariants as shape
use Rattle.rb_expr.specs.declared.lists.Order.{Order}
use Rattle.rb_expr.specs.Reading.{and_then, ◌<$>◌, sees, after, skip_separators, words_of, expect}
use Rattle.rb_expr.specs.Lists.{is_block, takes_comma, closed, after_comma, after_element, after_last, after_argument, is_among, fresh_name}
use Rattle.rb_grammar.proofs.Lists.{and-right}
use Rattle.rb_prefix_laws.proofs.Steps.{one, sees-one, by_token, told}
use Rattle.rb_prefix_laws.proofs.Cuts.{Cut, bind, weaker, one-taken, choose, done, token, likewise, expecting, stepping, skipping, fixed, choose-some, stepping-over, next-read}
use Rattle.rb_prefix_laws.proofs.Steps.Amount.{answer, any}

closed-alike : (k : ℕ) (closer : Shape) (xs : List Token) → Cut k (answer 0) xs (closed closer xs) (closed closer)
unfolding closed
closed-alike k closer xs = skipping xs (Some <$> expect closer) (Some <$> expect closer) (bind (expecting closer (skip_separators xs)) (λ a r. done (Some a)))

-- a closing bracket that is next
closed-next : (k : ℕ) (closer : Shape) (xs : List Token) → sees closer xs ≡ true → Cut k (any 1) xs (closed closer xs) (closed closer)
unfolding closed
closed-next k closer [] e = absurd (cc)
closed-next k closer (t ∷ ts) e = go (same_shape (shape_of t.kind) shape.Separator) refl
  where
    go : (b : Bool) → same_shape (shape_of t.kind) shape.Separator ≡ b → Cut k (any 1) (t ∷ ts) ((Some <$> expect closer) (skip_separators (t ∷ ts))) (λ ys. (Some <$> expect closer) (skip_separators ys))
    go true s = stepping-over (t ∷ ts) (Some <$> expect closer) (Some <$> expect closer) s (weaker (bind (expecting closer (skip_separators (t ∷ ts))) (λ a r. done (Some a))))
    go false s = next-read (Some t.span) (λ ys. (Some <$> expect closer) (skip_separators ys)) t ts
        (λ ys. ap (λ b. (Some <$> expect closer) (if b then skip_separators ys else t ∷ ys)) s ∙ ap (λ b. and_then (if b then Ok (t.span, ys) else Err (t ∷ ys)) (λ a rest. Ok (Some a, rest))) e)

-- a test that is false at the end
pub never : (b : Bool) → (b && false) ≡ false
never true = refl
never false = refl

comma-alike : (k : ℕ) (closer : Shape) (xs : List Token) → Cut k (any 0) xs (after_comma closer xs) (after_comma closer)
unfolding after_comma
comma-alike k closer xs = choose-some (λ ys. takes_comma closer && sees closer ys) (one (λ ys. takes_comma closer && sees closer ys) (λ t ts. refl)) (never (takes_comma closer)) (λ e. closed-next k closer xs (and-right _ _ e)) (λ e. done None)

pub element-alike : (k : ℕ) (closer : Shape) (xs : List Token) → Cut k (answer 0) xs (after_element closer xs) (after_element closer)
unfolding after_element closed
element-alike k closer xs = choose (sees shape.Comma) (sees-one shape.Comma) refl
    (λ e. one-taken (stepping xs (λ ys. after_comma closer (skip_separators ys)) (λ ys. after_comma closer (skip_separators ys)) shape.Comma e (skipping (after xs) (after_comma closer) (after_comma closer) (comma-alike (k - 1) closer (skip_separators (after xs))))))
    (λ e. closed-alike k closer xs)

last-alike : (k : ℕ) (closer : Shape) (xs : List Token) → Cut k (answer 0) xs (after_last closer xs) (after_last closer)
unfolding after_last closed
last-alike k closer xs = choose (λ ys. takes_comma closer && sees shape.Comma ys) (one (λ ys. takes_comma closer && sees shape.Comma ys) (λ t ts. refl)) (ap (λ b. if b then closed closer [] else closed closer []) (never (takes_comma closer)))
    (λ e. one-taken (stepping xs (closed closer) (closed closer) shape.Comma (and-right _ _ e) (weaker (closed-alike (k - 1) closer (after xs)))))
    (λ e. closed-alike k closer xs)

pub after-argument-alike : (k : ℕ) (closer : Shape) (given : Order) (xs : List Token) → Cut k (answer 0) xs (after_argument closer given xs) (after_argument closer given)
unfolding after_argument
after-argument-alike k closer given xs = fixed (is_block given) (after_last closer) (after_element closer) (after_last closer) (after_element closer) (last-alike k closer xs) (element-alike k closer xs)

name_in : List (List ℕ) → Token → Option PlacedName
name_in names t = if same_shape (shape_of t.kind) shape.Identifier then (if is_among names (words_of t.kind) then None else Some (record { name = words_of t.kind; span = t.span })) else None

among : (names : List (List ℕ)) (t : Token) (ts : List Token) (n : PlacedName) (b : Bool) → (if b then Err (t ∷ ts) else Ok (n, ts)) ≡ told t ts (if b then None else Some n)
among names t ts n true = refl
among names t ts n false = refl

identifier-in : (names : List (List ℕ)) (t : Token) (ts : List Token) (n : PlacedName) (b : Bool) → and_then (if b then Ok (n, ts) else Err (t ∷ ts)) (λ next rest. if is_among names next.name then Err (t ∷ ts) else Ok (next, rest)) ≡
    told t ts (if b then (if is_among names n.name then None else Some n) else None)
identifier-in names t ts n true = among names t ts n (is_among names n.name)
identifier-in names t ts n false = refl

same-name : (names : List (List ℕ)) (ys : List Token) → fresh_name names ys ≡ by_token (name_in names) ys
unfolding fresh_name name_in
same-name names [] = refl
same-name names (t ∷ ts) = identifier-in names t ts (record { name = words_of t.kind; span = t.span }) (same_shape (shape_of t.kind) shape.Identifier)

pub fresh-alike : (k : ℕ) (names : List (List ℕ)) (xs : List Token) → Cut k (answer 0) xs (fresh_name names xs) (fresh_name names)
fresh-alike k names xs = likewise xs (by_token (name_in names)) (fresh_name names) (same-name names) (token xs (name_in names))
