-- The pass that keeps weights, beside the levels with their operators.
use Rattle.std.proofs.Common.{◌≡◌, ℕ, zero, suc, ◌+◌, ◌-◌, ◌<◌, ◌≤◌, Bool, true, false, if◌then◌else◌, List, [], ◌∷◌, ◌++◌, length, take, drop, Option, Some, None, Result, Ok, Err, IfOk, refl, sym, ap, subst, ◌∙◌, length-append, arith}
use Rattle.std.specs.Prelude.{slice_get, nat_lt}
use Rattle.std.proofs.lemmas.Bool.Decides.{nat_tests}
use Rattle.std.proofs.Math.Seq.{take-append_seam}
use Rattle.rb_tree.specs.Tokens.{shape_of}
use Rattle.rb_tree.specs.declared.token.Token.{Token}
use Rattle.rb_tree.specs.declared.token.Shape.{Shape}
use Rattle.rb_weight.specs.Sorts.{sort_of}
use Rattle.rb_weight.specs.Effects.{effect_of, after, separated}
use Rattle.rb_weight.specs.Scans.{done, step, deep_from, first_too_deep, start, closed, back}
use Rattle.rb_weight.specs.Weights.{Open, Nest, within, next, nest_after, operators, weight_of, begun, IsFirstDeep}
use Rattle.rb_weight.specs.declared.effect.Before.{Before}
use Rattle.rb_weight.specs.declared.effect.Before.TheVariants as before
use Rattle.rb_weight.specs.declared.effect.Level.{Level}
use Rattle.rb_weight.specs.declared.effect.Level.TheVariants as level
use Rattle.rb_weight.specs.declared.effect.Effect.{Effect}
use Rattle.rb_weight.specs.declared.effect.Effect.TheVariants as effect
use Rattle.rb_weight.specs.declared.scan.Outer.{Outer}
use Rattle.rb_weight.specs.declared.scan.Scan.{Scan}
use Rattle.rb_weight.specs.Limits.{MOST}

-- ---- the last element of a list

last-got : (xs : List Outer) (x : Outer) → slice_get (xs ++ x ∷ []) (length (xs ++ x ∷ []) - 1) ≡ Some x
last-got [] x = refl
last-got (y ∷ xs) x =
    let e : length (y ∷ xs ++ x ∷ []) - 1 ≡ suc (length (xs ++ x ∷ []) - 1) = omega (arith, length-append xs (x ∷ [])) in
    ap (slice_get (y ∷ xs ++ x ∷ [])) e ∙ last-got xs x

front-kept : (xs : List Outer) (x : Outer) → take (length (xs ++ x ∷ []) - 1) (xs ++ x ∷ []) ≡ xs
front-kept xs x =
    let e : length (xs ++ x ∷ []) - 1 ≡ length xs = omega (arith, length-append xs (x ∷ [])) in
    ap (λ n. take n (xs ++ x ∷ [])) e ∙ take-append_seam xs (x ∷ [])

-- ---- the kept weights of open levels

abbrev base_of : ℕ → List Open → ℕ
base_of a os = a + length os + operators os

abbrev outer_of : ℕ → Open → List Open → Outer
outer_of a o os = record { weight = weight_of a (o ∷ os); base = base_of a os; level = o.level }

abbrev outers : ℕ → List Open → List Outer
outers a [] = []
outers a (o ∷ os) = outers a os ++ outer_of a o os ∷ []

abbrev pub scan_of : ℕ → Before → Open → List Open → Scan
scan_of a b o os = record { weight = weight_of a (o ∷ os); base = base_of a os; level = o.level; before = b; outer = outers a os }

abbrev pub scanned : ℕ → Before → List Open → Option Scan
scanned a b [] = None
scanned a b (o ∷ os) = Some (scan_of a b o os)

-- a state, by its numbers
abbrev with_numbers : Level → Before → List Outer → ℕ → ℕ → Option Scan
with_numbers l b outer w base = Some (record { weight = w; base = base; level = l; before = b; outer = outer })

same-numbers : (l : Level) (b : Before) (outer : List Outer) (w v c d : ℕ) → w ≡ v → c ≡ d → with_numbers l b outer w c ≡ with_numbers l b outer v d
same-numbers l b outer w v c d e f = ap (λ n. with_numbers l b outer n c) e ∙ ap (with_numbers l b outer v) f

closed-back : (s : Scan) (xs : List Outer) (x : Outer) → closed (record s { outer = xs ++ x ∷ [] }) ≡ Some (back xs s x)
closed-back s xs x =
    ap (λ (r : Option Outer). elim r [ Some o ↦ Some (back (take (length (xs ++ x ∷ []) - 1) (xs ++ x ∷ [])) s o) | None ↦ None ]) (last-got xs x)
    ∙ ap (λ rest. Some (back rest s x)) (front-kept xs x)

done-alike : (a : ℕ) (b : Before) (e : Effect) (o : Open) (os : List Open) → done e (scan_of a b o os) ≡ scanned a b (within e o os)
unfolding done within
done-alike a b effect.Nothing o os = refl
done-alike a b (effect.Opens l) o os =
    same-numbers l b (outers a (o ∷ os)) (weight_of a (o ∷ os) + 1) (weight_of a (record { level = l; standing = 0 } ∷ o ∷ os)) (weight_of a (o ∷ os) + 1) (base_of a (o ∷ os)) (omega arith) (omega arith)
done-alike a b effect.Closes o [] = refl
done-alike a b effect.Closes o (p ∷ os) = closed-back (scan_of a b o (p ∷ os)) (outers a os) (outer_of a p os)
done-alike a b effect.Enters o os = refl
done-alike a b effect.Separates o os =
    same-numbers (separated o.level) b (outers a os) (base_of a os) (weight_of a (record { level = separated o.level; standing = 0 } ∷ os)) (base_of a os) (base_of a os) (omega arith) refl
done-alike a b effect.Divides o os =
    same-numbers o.level b (outers a os) (base_of a os) (weight_of a (record { level = o.level; standing = 0 } ∷ os)) (base_of a os) (base_of a os) (omega arith) refl
done-alike a b effect.Counts o os =
    same-numbers o.level b (outers a os) (weight_of a (o ∷ os) + 1) (weight_of a (record { level = o.level; standing = o.standing + 1 } ∷ os)) (base_of a os) (base_of a os) (omega arith) refl

step-alike : (a : ℕ) (c : Shape) (b : Before) (o : Open) (os : List Open) → step c (scan_of a b o os) ≡ scanned a (after b o.level (sort_of c)) (within (effect_of b o.level (sort_of c)) o os)
step-alike a c b o os = done-alike a (after b o.level (sort_of c)) (effect_of b o.level (sort_of c)) o os

-- ---- the first token after which the weight is too great

-- the same from what is known at the start, at this place
record Deep (a : ℕ) (n : Nest) (ts : List Token) (at : ℕ) : Type 0 where
  within : at < length ts
  deep : MOST < weight_of a (nest_after n (take (at + 1) ts)).levels
  first : (k : ℕ) → k ≤ at → weight_of a (nest_after n (take k ts)).levels ≤ MOST

-- after the level at the start nothing weighs
abbrev ended : Before → Nest
ended b = record { levels = []; before = b }

ended-light : (a : ℕ) (b : Before) (ts : List Token) → weight_of a (nest_after (ended b) ts).levels ≡ 0
ended-light a b [] = refl
ended-light a b (t ∷ ts) = ended-light a (after b level.Plain (sort_of (shape_of t.kind))) ts

-- one token later
later : (a : ℕ) (n : Nest) (t : Token) (ts : List Token) (at : ℕ) → weight_of a n.levels ≤ MOST → Deep a (next (shape_of t.kind) n) ts at → Deep a n (t ∷ ts) (suc at)
later a n t ts at light d =
    record {
      within = let h = d.within in omega arith;
      deep = let P : ℕ → Type 0 = λ m. MOST < weight_of a (nest_after n (take m (t ∷ ts))).levels in
          let e : suc (at + 1) ≡ suc at + 1 = omega arith in
          subst P e d.deep;
      first = up_to;
    }
  where
    up_to : (k : ℕ) → k ≤ suc at → weight_of a (nest_after n (take k (t ∷ ts))).levels ≤ MOST
    up_to zero h = light
    up_to (suc k) h = d.first k (omega arith)

-- one token earlier
earlier : (a : ℕ) (n : Nest) (t : Token) (ts : List Token) (at : ℕ) → Deep a n (t ∷ ts) (suc at) → Deep a (next (shape_of t.kind) n) ts at
earlier a n t ts at d =
    record {
      within = let h = d.within in omega arith;
      deep = let P : ℕ → Type 0 = λ m. MOST < weight_of a (nest_after n (take m (t ∷ ts))).levels in
          let e : suc at + 1 ≡ suc (at + 1) = omega arith in
          subst P e d.deep;
      first = λ k h. d.first (suc k) (omega arith);
    }

-- what a search for that place answers, the first of the tokens standing at the place `at`
abbrev Finds : ℕ → Nest → List Token → ℕ → Option ℕ → Type 0
Finds a n ts at (Some place) = (k : ℕ) × (place ≡ at + k) × Deep a n ts k
Finds a n ts at None = (k : ℕ) → ¬ Deep a n ts k

abbrev resumed : ℕ → List Token → Option Scan → Option ℕ
resumed at ts r = elim r [ None ↦ None | Some more ↦ (if nat_lt MOST more.weight then Some at else deep_from (at + 1) more ts) ]

-- the level at the start has closed
none-after : (a : ℕ) (n : Nest) (t : Token) (ts : List Token) (b : Before) → next (shape_of t.kind) n ≡ ended b → (k : ℕ) → ¬ Deep a n (t ∷ ts) k
none-after a n t ts b e zero d =
    let h : MOST < weight_of a (next (shape_of t.kind) n).levels = d.deep in
    let light : weight_of a (next (shape_of t.kind) n).levels ≡ 0 = ap (λ (m : Nest). weight_of a m.levels) e in
    absurd (omega arith)
none-after a n t ts b e (suc k) d =
    let h = (earlier a n t ts k d).deep in
    let light : weight_of a (nest_after (next (shape_of t.kind) n) (take (k + 1) ts)).levels ≡ 0 =
    ap (λ (m : Nest). weight_of a (nest_after m (take (k + 1) ts)).levels) e ∙ ended-light a b (take (k + 1) ts) in
    absurd (omega arith)

-- it is the first token
found-here : (a at : ℕ) (n : Nest) (t : Token) (ts : List Token) → weight_of a n.levels ≤ MOST → MOST < weight_of a (next (shape_of t.kind) n).levels → Finds a n (t ∷ ts) at (Some at)
found-here a at n t ts light deep = (
  0,
  omega arith,
  record {
    within = omega arith;
    deep = deep;
    first = λ k h. (let P : ℕ → Type 0 = λ m. weight_of a (nest_after n (take m (t ∷ ts))).levels ≤ MOST in let e : 0 ≡ k = omega arith in subst P e light);
  },
)

-- it is a later one, or none
found-later : (a at : ℕ) (n : Nest) (t : Token) (ts : List Token) (r : Option ℕ) → weight_of a n.levels ≤ MOST → weight_of a (next (shape_of t.kind) n).levels ≤ MOST → Finds a (next (shape_of t.kind) n) ts (at + 1) r → Finds a n (t ∷ ts) at r
found-later a at n t ts (Some place) light more (k, e, d) = (suc k, omega arith, later a n t ts k light d)
found-later a at n t ts None light more none = none_from
  where
    none_from : (k : ℕ) → ¬ Deep a n (t ∷ ts) k
    none_from zero d = let h : MOST < weight_of a (next (shape_of t.kind) n).levels = d.deep in absurd (omega arith)
    none_from (suc k) d = none k (earlier a n t ts k d)

-- what the search answers after one token, where it answers so from every state after that
found-tested : (a at : ℕ) (n : Nest) (t : Token) (ts : List Token) (b : Before) (o : Open) (os : List Open) → next (shape_of t.kind) n ≡ record { levels = o ∷ os; before = b } → weight_of a n.levels ≤ MOST → (weight_of a (o ∷ os) ≤ MOST → Finds a (record { levels = o ∷ os; before = b }) ts (at + 1) (deep_from (at + 1) (scan_of a b o os) ts)) → (test : Bool) → nat_lt MOST (weight_of a (o ∷ os)) ≡ test → Finds a n (t ∷ ts) at (if test then Some at else deep_from (at + 1) (scan_of a b o os) ts)
found-tested a at n t ts b o os e light more true is =
    let w : weight_of a (next (shape_of t.kind) n).levels ≡ weight_of a (o ∷ os) = ap (λ (m : Nest). weight_of a m.levels) e in
    let h : MOST < weight_of a (o ∷ os) = grind (arith, nat_tests) in
    found-here a at n t ts light (omega arith)
found-tested a at n t ts b o os e light more false is =
    let w : weight_of a (next (shape_of t.kind) n).levels ≡ weight_of a (o ∷ os) = ap (λ (m : Nest). weight_of a m.levels) e in
    let h : weight_of a (o ∷ os) ≤ MOST = grind (arith, nat_tests) in
    let R : Nest → Type 0 = λ m. Finds a m ts (at + 1) (deep_from (at + 1) (scan_of a b o os) ts) in
    found-later a at n t ts (deep_from (at + 1) (scan_of a b o os) ts) light (omega arith) (subst R (sym e) (more h))

found-after : (a at : ℕ) (n : Nest) (t : Token) (ts : List Token) (b : Before) (ls : List Open) → next (shape_of t.kind) n ≡ record { levels = ls; before = b } → weight_of a n.levels ≤ MOST → ((o : Open) (os : List Open) → weight_of a (o ∷ os) ≤ MOST → Finds a (record { levels = o ∷ os; before = b }) ts (at + 1) (deep_from (at + 1) (scan_of a b o os) ts)) → Finds a n (t ∷ ts) at (resumed at ts (scanned a b ls))
found-after a at n t ts b [] e light more = none-after a n t ts b e
found-after a at n t ts b (o ∷ os) e light more = found-tested a at n t ts b o os e light (more o os) (nat_lt MOST (weight_of a (o ∷ os))) refl

found : (a at : ℕ) (b : Before) (o : Open) (os : List Open) (ts : List Token) → weight_of a (o ∷ os) ≤ MOST → Finds a (record { levels = o ∷ os; before = b }) ts at (deep_from at (scan_of a b o os) ts)
found a at b o os [] light = λ k d. (let h = d.within in absurd (omega arith))
found a at b o os (t ∷ ts) light =
    let c = shape_of t.kind in
    let n : Nest = record { levels = o ∷ os; before = b } in
    let after_it = after b o.level (sort_of c) in
    let Q : Option Scan → Type 0 = λ r. Finds a n (t ∷ ts) at (resumed at ts r) in
    let goes = λ (p : Open) (ps : List Open) (h : weight_of a (p ∷ ps) ≤ MOST). found a (at + 1) after_it p ps ts h in
    subst Q (sym (step-alike a c b o os)) (found-after a at n t ts after_it (within (effect_of b o.level (sort_of c)) o os) refl light goes)

-- ---- the start

pub first-deep : (tokens : List Token) (from weight here : ℕ) → here ≤ weight → weight ≤ MOST → IsFirstDeep tokens from weight here (first_too_deep tokens from weight here)
first-deep tokens from weight here part light =
    let o : Open = record { level = level.Plain; standing = here } in
    let base : base_of (weight - here) [] ≡ weight - here = omega arith in
    let whole : weight_of (weight - here) (o ∷ []) ≡ weight = omega arith in
    let same : scan_of (weight - here) before.Plain o [] ≡ start weight here =
    ap (λ w. scan_numbers w (base_of (weight - here) [])) whole ∙ ap (scan_numbers weight) base in
    let Q : Scan → Type 0 = λ s. IsFirstDeep tokens from weight here (deep_from from s (drop from tokens)) in
    subst Q same (told (deep_from from (scan_of (weight - here) before.Plain o []) (drop from tokens)) (found (weight - here) from before.Plain o [] (drop from tokens) (omega arith)))
  where
    scan_numbers : ℕ → ℕ → Scan
    scan_numbers w base = record { weight = w; base = base; level = level.Plain; before = before.Plain; outer = [] }

    told : (r : Option ℕ) → Finds (weight - here) (begun here) (drop from tokens) from r → IsFirstDeep tokens from weight here r
    told (Some place) (k, e, d) = (k, e, record { within = d.within; deep = d.deep; first = d.first })
    told None none = λ at d. none at (record { within = d.within; deep = d.deep; first = d.first })

-- the same of an answer
pub answer-deep : {E : Type 0} (r : Result (Option ℕ) E) (tokens : List Token) (from weight here : ℕ) → here ≤ weight → weight ≤ MOST → IfOk r (λ place. place ≡ first_too_deep tokens from weight here) → IfOk r (λ place. IsFirstDeep tokens from weight here place)
answer-deep (Ok place) tokens from weight here part light e =
    let Q : Option ℕ → Type 0 = λ p. IsFirstDeep tokens from weight here p in
    subst Q (sym e) (first-deep tokens from weight here part light)
answer-deep (Err end) tokens from weight here part light e = e
