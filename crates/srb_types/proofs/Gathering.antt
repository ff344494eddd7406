-- Unions of at least two parts, and the linearizations kept beside them.
use Rattle.std.proofs.Common.{◌≡◌, ℕ, zero, suc, ◌<◌, ◌≤◌, false, cond, nat_lt, take, drop, ◌-◌, ◌||◌, List, [], ◌∷◌, length, get_or, insert, map, refl, ap, sym, ◌∙◌, arith}
use Rattle.std.proofs.lemmas.Bool.{true≢false}
use Rattle.srb_terms.specs.declared.ty.Ty.{Ty, out-Ty}
use Rattle.srb_terms.specs.declared.ty.Ty.TheOpen.{Ty-F}
use Rattle.srb_terms.specs.declared.ty.Ty.TheVariants as ty
use Rattle.srb_terms.specs.declared.ty.Ty.TheVariants.{rolls-Any, rolls-Class}
use Rattle.srb_terms.specs.declared.ty.Ty.TheViews.{out-roll-Ty, roll-out-Ty, roll-Ty}
use Rattle.srb_terms.specs.NameSets.{has_name}
use Rattle.srb_shapes.specs.Comparing.{lies_in}
use Rattle.srb_shapes.specs.Lineages.{Lineage}
use Rattle.srb_shapes.specs.Parts.{of_parts, parts_at, parts_of}
use Rattle.srb_types.proofs.Joining.{class_lies, split}
use Rattle.srb_types.specs.Joined.{lin_at, lin_of, lins_of}
use Rattle.srb_types.specs.Normal.{any_after, any_of, is_untyped, is_untyped_at, with_parts}

-- ---- lists

pub map_length : {A B : Type 0} (f : A → B) (xs : List A) → length (map f xs) ≡ length xs
map_length f [] = refl
map_length f (x ∷ xs) = ap suc (map_length f xs)

pub map_at : {A B : Type 0} (f : A → B) (xs : List A) (i : ℕ) (d : B) (e : A) → i < length xs
    → get_or (map f xs) i d ≡ f (get_or xs i e)
map_at f [] i d e within = absurd (omega (arith, within))
map_at f (x ∷ xs) zero d e within = refl
map_at f (x ∷ xs) (suc i) d e within = map_at f xs i d e (omega (arith, within))

pub map_insert : {A B : Type 0} (f : A → B) (xs : List A) (i : ℕ) (x : A) → insert (map f xs) i (f x) ≡ map f (insert xs i x)
map_insert f [] zero x = refl
map_insert f [] (suc i) x = refl
map_insert f (y ∷ xs) zero x = refl
map_insert f (y ∷ xs) (suc i) x = ap (λ ys. f y ∷ ys) (map_insert f xs i x)

-- a part more at its place, and its linearization beside it
pub lins_put : (L : Lineage) (ps qs : List Ty) (ns ms : List (List (List ℕ))) (i : ℕ) (p q : Ty) (n : List (List ℕ)) → ns ≡ lins_of L ps
    → n ≡ lin_of L p → q ≡ p → ms ≡ insert ns i n → qs ≡ insert ps i q → ms ≡ lins_of L qs
lins_put L ps qs ns ms i p q n are is same new put =
    new ∙ ap (λ xs. insert xs i n) are ∙ ap (insert (lins_of L ps) i) (is ∙ ap (lin_of L) (sym same)) ∙ map_insert (lin_of L) ps i q
    ∙ ap (lins_of L) (sym put)

-- a class lies in one that stands in the linearization kept beside it
pub kept_lies : (L : Lineage) (p q : Ty) (c d : List ℕ) (names : List (List ℕ)) → q ≡ ty.Class c → p ≡ ty.Class d → names ≡ lin_of L q
    → has_name d names ≡ lies_in L q p
unfolding lin_of
kept_lies L p q c d names is of are =
    ap (has_name d) (are ∙ ap (lin_at L) (ap out-Ty (is ∙ sym (rolls-Class c)) ∙ out-roll-Ty (Ty-F.Class c)))
    ∙ sym (class_lies L q p c d is of)

-- ---- the parts of a union of at least two

out-any : (ps : List Ty) → out-Ty (ty.Any ps) ≡ Ty-F.Any ps
out-any ps = ap out-Ty (sym (rolls-Any ps)) ∙ out-roll-Ty (Ty-F.Any ps)

parts_again : (ps : List Ty) → nat_lt (length ps) 2 ≡ false → parts_of (of_parts ps) ≡ ps
unfolding parts_of
parts_again [] some = absurd (true≢false some)
parts_again (p ∷ []) some = absurd (true≢false some)
parts_again (p ∷ q ∷ ps) some = ap (parts_at (ty.Any (p ∷ q ∷ ps))) (out-any (p ∷ q ∷ ps))

typed : (ps : List Ty) → nat_lt (length ps) 2 ≡ false → is_untyped (of_parts ps) ≡ false
typed [] some = absurd (true≢false some)
typed (p ∷ []) some = absurd (true≢false some)
typed (p ∷ q ∷ ps) some = ap is_untyped_at (out-any (p ∷ q ∷ ps))

any_many : (L : Lineage) (ps : List Ty) (t : Ty) → nat_lt (length ps) 2 ≡ false → is_untyped t ≡ false
    → any_of L (of_parts ps) t ≡ of_parts (with_parts L ps (parts_of t))
unfolding any_of
any_many L ps t some is =
    ap (λ b. cond (b || is_untyped t) ty.Untyped (of_parts (with_parts L (parts_of (of_parts ps)) (parts_of t)))) (typed ps some)
    ∙ ap (λ b. cond b ty.Untyped (of_parts (with_parts L (parts_of (of_parts ps)) (parts_of t)))) is
    ∙ ap (λ qs. of_parts (with_parts L qs (parts_of t))) (parts_again ps some)

-- some types after the first of them
module _ (L : Lineage) (t : Ty) (rest : List Ty) (some : 1 ≤ length rest) (first : t ≡ get_or rest 0 t) where
  -- a union joined with the first
  pub after_step : (u v w : Ty) (left : List Ty) → v ≡ any_of L u t
      → any_after L w left ≡ any_after L v (take (length rest - 1) (drop 1 rest)) → any_after L w left ≡ any_after L u rest
  after_step u v w left is goes =
      goes ∙ ap (λ x. any_after L x (take (length rest - 1) (drop 1 rest))) is ∙ ap (any_after L u) (sym (split rest t some first))

  -- the union of at least two parts, likewise
  pub many_step : (ps qs : List Ty) → nat_lt (length ps) 2 ≡ false → is_untyped t ≡ false → qs ≡ with_parts L ps (parts_of t)
      → any_after L (of_parts qs) (take (length rest - 1) (drop 1 rest)) ≡ any_after L (of_parts ps) rest
  many_step ps qs some is new =
      after_step (of_parts ps) (of_parts qs) (of_parts qs) (take (length rest - 1) (drop 1 rest))
      (ap of_parts new ∙ sym (any_many L ps t some is)) refl

  pub shorter : (n : ℕ) → length rest ≤ n → length (take (length rest - 1) (drop 1 rest)) ≤ n
  shorter n within =
      let e : length rest ≡ suc (length (take (length rest - 1) (drop 1 rest))) = ap length (split rest t some first) in
      omega (arith, e, within)

-- a type of at least two parts is their union
pub joined_again : (t : Ty) → nat_lt (length (parts_of t)) 2 ≡ false → of_parts (parts_of t) ≡ t
unfolding parts_of
joined_again t some = by (out-Ty t) refl some
  where
    of_many : (ps : List Ty) → nat_lt (length ps) 2 ≡ false → of_parts ps ≡ ty.Any ps
    of_many [] some = absurd (true≢false some)
    of_many (p ∷ []) some = absurd (true≢false some)
    of_many (p ∷ q ∷ ps) some = refl

    by : (x : Ty-F Ty) → out-Ty t ≡ x → nat_lt (length (parts_at t x)) 2 ≡ false → of_parts (parts_at t x) ≡ t
    by Ty-F.Untyped is some = refl
    by Ty-F.Never is some = absurd (true≢false some)
    by (Ty-F.Class name) is some = refl
    by (Ty-F.Meta name) is some = refl
    by (Ty-F.Arr e) is some = refl
    by (Ty-F.Hsh k v) is some = refl
    by (Ty-F.Any ps) is some = of_many ps some ∙ sym (rolls-Any ps) ∙ ap roll-Ty (sym is) ∙ roll-out-Ty t
    by (Ty-F.All ms) is some = refl
