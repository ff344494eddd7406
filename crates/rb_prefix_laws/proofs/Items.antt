-- Declarations and the other statements of programs, classes and modules are read alike.
use Rattle.std.proofs.Common.{◌≡◌, ℕ, zero, suc, ◌-◌, ◌≤◌, Bool, true, false, if◌then◌else◌, List, [], ◌∷◌, ◌++◌, Option, Some, is_some, refl, sym, ap, subst, ◌∙◌, arith}
use Rattle.rb_tree.specs.Tokens.{shape_of}
use Rattle.rb_tree.specs.declared.syntax.Tree.{Tree}
use Rattle.rb_tree.specs.declared.token.Token.{Token}
use Rattle.rb_tree.specs.declared.token.Shape.{Shape}
use Rattle.rb_tree.specs.declared.token.Shape.TheVariants as shape
use Rattle.rb_expr.specs.Grammar.{parsed}
use Rattle.rb_expr.specs.Reading.{Outcome, Parser, ◌>>=◌, pure, peek, sees, skip_separators, expect}
use Rattle.rb_expr.specs.Rules.{statement}
use Rattle.rb_decl.specs.Methods.{visibility, method}
use Rattle.rb_decl.specs.Items.{what_opens, class_head, module_head, namespace_head, ends, statements_from, statements, namespace, item}
use Rattle.rb_decl.specs.declared.item.Head.{Head}
use Rattle.rb_decl.specs.declared.item.Opening.{Opening}
use Rattle.rb_decl.specs.declared.item.Opening.TheVariants as openings
use Rattle.rb_prefix_laws.proofs.Steps.{Alike, Same, same-first, bind, weaker, one, choose, looking, looking-far, sees-one, peek-one, done, nothing, fixed, expecting, stepping-over, skipping, Fits, fits-turns, loop-at}
use Rattle.rb_prefix_laws.proofs.Steps.Amount.{answer, any}
use Rattle.rb_prefix_laws.proofs.Nested.{grip_by, grip}
use Rattle.rb_prefix_laws.proofs.Statements.{statement-alike}
use Rattle.rb_prefix_laws.proofs.Forms.{nests}
use Rattle.rb_prefix_laws.proofs.Names.{path-alike, superclass-alike}
use Rattle.rb_prefix_laws.proofs.Methods.{visibility-far, method-alike}

once : (k : ℕ) → k - 1 ≤ k
once k = omega arith

-- ---- what begins at a place

abbrev by_visible : Bool → Opening
by_visible true = openings.Method
by_visible false = openings.Statement

abbrev opening_of : Option Shape → Bool → Opening
opening_of (Some shape.Class) visible = openings.Namespace
opening_of (Some shape.Module) visible = openings.Namespace
opening_of (Some shape.Def) visible = openings.Method
opening_of _ visible = by_visible visible

opens-far : (xs ys : List Token) → Same (grip xs) xs ys → what_opens xs ≡ what_opens ys
opens-far xs ys h = ap (λ v. opening_of v (is_some (visibility xs))) (peek-one xs ys (same-first (grip xs) xs ys h)) ∙ ap (λ o. opening_of (peek ys) (is_some o)) (visibility-far xs ys h)

-- one of three readings
abbrev by_opening : Opening → Parser Tree → Parser Tree → Parser Tree → Parser Tree
by_opening openings.Namespace a b c = a
by_opening openings.Method a b c = b
by_opening openings.Statement a b c = c

by-visible-alike : {k : ℕ} {n : ℕ} (xs : List Token) (a b c a2 b2 c2 : Parser Tree) (v : Bool) → (v ≡ true → Alike k (answer n) xs (b xs) b2) → Alike k (answer n) xs (c xs) c2 → Alike k (answer n) xs (by_opening (by_visible v) a b c xs) (by_opening (by_visible v) a2 b2 c2)
by-visible-alike xs a b c a2 b2 c2 true h g = h refl
by-visible-alike xs a b c a2 b2 c2 false h g = g

opened-alike : {k : ℕ} (s : Shape) (t : Token) (ts : List Token) (a b c a2 b2 c2 : Parser Tree) (v : Bool) → Alike k (answer 0) (t ∷ ts) (a (t ∷ ts)) a2 → ((v ≡ false → grip_by s t ts ≡ 0) → Alike k (answer (grip_by s t ts)) (t ∷ ts) (b (t ∷ ts)) b2) → Alike k (answer (grip_by s t ts)) (t ∷ ts) (c (t ∷ ts)) c2 →
    Alike k (answer (grip_by s t ts)) (t ∷ ts) (by_opening (opening_of (Some s) v) a b c (t ∷ ts)) (by_opening (opening_of (Some s) v) a2 b2 c2)
opened-alike shape.Class t ts a b c a2 b2 c2 v h g i = h
opened-alike shape.Module t ts a b c a2 b2 c2 v h g i = h
opened-alike shape.Def t ts a b c a2 b2 c2 v h g i = g (λ e. refl)
opened-alike s t ts a b c a2 b2 c2 v h g i = by-visible-alike (t ∷ ts) a b c a2 b2 c2 v (λ e. g (λ f. absurd (cc))) i

module _ (turns more : ℕ) where
  -- ---- heads, after the first token of which the bound is kept to

  class-alike : (k : ℕ) → Fits turns more (k - 1) → (long : Bool) (xs : List Token) → Alike k (answer 0) xs (class_head turns long xs) (class_head more long)
  unfolding class_head
  class-alike k fit long xs = bind (expecting shape.Class xs) (λ word r. bind (path-alike turns more (k - 1) fit long r) (λ names r. bind (superclass-alike turns more (k - 1) fit r) (λ above r. done _)))

  module-alike : (k : ℕ) → Fits turns more (k - 1) → (long : Bool) (xs : List Token) → Alike k (answer 0) xs (module_head turns long xs) (module_head more long)
  unfolding module_head
  module-alike k fit long xs = bind (expecting shape.Module xs) (λ word r. bind (path-alike turns more (k - 1) fit long r) (λ names r. done _))

  -- with the separator after it
  abbrev Ended : Parser Head → Parser Head
  Ended p = p >>= (λ h. expect shape.Separator >>= (λ _. pure h))

  ended-alike : (k : ℕ) (p q : Parser Head) (xs : List Token) → Alike k (answer 0) xs (p xs) q → Alike k (answer 0) xs (Ended p xs) (Ended q)
  ended-alike k p q xs h = bind h (λ head r. weaker (bind (expecting shape.Separator r) (λ mark r. done head)))

  namespace-head-alike : (k : ℕ) → Fits turns more (k - 1) → (long : Bool) (xs : List Token) → Alike k (answer 0) xs (namespace_head turns long xs) (namespace_head more long)
  unfolding namespace_head
  namespace-head-alike k fit long xs = looking (sees shape.Class) (λ b. if b then Ended (class_head more long) else Ended (module_head more long)) (sees-one shape.Class)
      (fixed (sees shape.Class xs) (Ended (class_head turns long)) (Ended (module_head turns long)) (Ended (class_head more long)) (Ended (module_head more long))
      (ended-alike k (class_head turns long) (class_head more long) xs (class-alike k fit long xs)) (ended-alike k (module_head turns long) (module_head more long) xs (module-alike k fit long xs)))

  -- ---- bodies

  pub statements-alike : (one two : Parser Tree) → ((k : ℕ) → Fits turns more k → (xs : List Token) → Alike k (any 0) xs (one xs) two) → (k : ℕ) → Fits turns more k → (xs : List Token) → Alike k (any 0) xs (statements one turns xs) (statements two more)
  unfolding statements statements_from
  statements-alike one' two h k fit xs = skipping xs (statements_from one' turns []) (statements_from two more []) (loop-at {S = List Tree} turns more (λ n s. statements_from one' n s) (λ n s. statements_from two n s)
      (λ k n m fit again s xs. choose ends (one ends (λ t ts. refl)) (λ e. done _) (λ e. bind (h k fit xs) (λ x r. choose (sees shape.Separator) (sees-one shape.Separator)
      (λ e. weaker (stepping-over r (statements_from one' n (s ++ x ∷ [])) (statements_from two m (s ++ x ∷ [])) e (again (s ++ x ∷ []) (skip_separators r))))
      (λ e. done _))))
      k fit [] (skip_separators xs))

  namespace-alike : (one two : Parser Tree) → ((k : ℕ) → Fits turns more k → (xs : List Token) → Alike k (any 0) xs (one xs) two) → (k : ℕ) → Fits turns more (k - 1) → (long : Bool) (xs : List Token) → Alike k (answer 0) xs (namespace one turns long xs) (namespace two more long)
  unfolding namespace
  namespace-alike one two h k fit long xs = bind (namespace-head-alike k fit long xs) (λ head r. bind (statements-alike one two h (k - 1) fit r) (λ found r. weaker (bind (expecting shape.End r) (λ closing r. done _))))

  other-alike : (k : ℕ) → Fits turns more k → (xs : List Token) → Alike k (answer (grip xs)) xs (statement turns true xs) (statement more true)
  unfolding statement
  other-alike k fit xs = (statement-alike (parsed turns) (parsed more) turns more (nests turns more) true k fit true xs).alike

lessened : (k d : ℕ) → k ≤ suc d → k - 1 ≤ d
lessened k d h = omega arith

no-more : {A : Type 0} (k : ℕ) {xs : List Token} {o : Outcome A} {q : Parser A} → k ≤ 0 → Alike k (any 0) xs o q
no-more {A = A} k {xs = xs} {o = o} {q = q} h = let e : k ≡ zero = omega arith in subst (λ j. Alike j (any 0) xs o q) (sym e) nothing

item-by : (d e k : ℕ) → Fits (suc d) (suc e) k → (long : Bool) (xs : List Token) → Alike k (answer 0) xs (namespace (item d false) d long xs) (namespace (item e false) e long) →
    Alike k (answer (grip xs)) xs (by_opening (what_opens xs) (namespace (item d false) d long) (method (suc d)) (statement (suc d) true) xs) (by_opening (what_opens xs) (namespace (item e false) e long) (method (suc e)) (statement (suc e) true))
unfolding visibility
item-by d e k fit long [] h = other-alike (suc d) (suc e) k fit []
item-by d e k fit long (t ∷ ts) h = opened-alike (shape_of t.kind) t ts (namespace (item d false) d long) (method (suc d)) (statement (suc d) true) (namespace (item e false) e long) (method (suc e)) (statement (suc e) true) (is_some (visibility (t ∷ ts)))
    h (λ none. method-alike (suc d) (suc e) k fit (t ∷ ts) none) (other-alike (suc d) (suc e) k fit (t ∷ ts))

pub item-alike : (d e : ℕ) (long : Bool) (k : ℕ) → Fits d e k → (xs : List Token) → Alike k (any 0) xs (item d long xs) (item e long)
unfolding item
item-alike zero e long k fit xs = no-more k fit.one
item-alike (suc d) zero long k fit xs = no-more k fit.two
item-alike (suc d) (suc e) long k fit xs =
    let fit' : Fits d e (k - 1) = fits-turns (lessened k d fit.one) (lessened k e fit.two) in
    let h = namespace-alike d e (item d false) (item e false) (item-alike d e false) k fit' long xs in
    weaker (looking-far what_opens (λ o. by_opening o (namespace (item e false) e long) (method (suc e)) (statement (suc e) true)) (opens-far xs) (item-by d e k fit long xs h))
