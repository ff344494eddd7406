-- Statements and bodies are read alike.
use Rattle.std.proofs.Common.{◌≡◌, ℕ, ◌-◌, ◌≤◌, Bool, ◌||◌, List, [], ◌∷◌, ◌++◌, Option, Some, None, is_some, refl, ap, ◌∙◌, arith, ◌⊎◌, inl, inr, zero, suc, true, false, if◌then◌else◌, ◌&&◌, length, Err, subst, sym}
use Rattle.srb_terms.specs.declared.span.Span.{Span}
use Rattle.rb_tree.specs.Tokens.{shape_of}
use Rattle.rb_tree.specs.Trees.{span_of}
use Rattle.rb_tree.specs.declared.syntax.Binary.{Binary}
use Rattle.rb_tree.specs.declared.syntax.Jump.{Jump}
use Rattle.rb_tree.specs.declared.syntax.Jump.TheVariants as jumps
use Rattle.rb_tree.specs.declared.syntax.Modifier.{Modifier}
use Rattle.rb_tree.specs.declared.syntax.Tree.{Tree}
use Rattle.rb_tree.specs.declared.token.Token.{Token}
use Rattle.rb_tree.specs.declared.token.Shape.{Shape}
use Rattle.rb_tree.specs.declared.token.Shape.TheVariants as shape
use Rattle.rb_expr.specs.declared.ending.Ending.{Ending}
use Rattle.rb_expr.specs.declared.ending.Follower.{Follower}
use Rattle.rb_expr.specs.declared.ending.Follower.TheVariants as follower
use Rattle.rb_expr.specs.declared.form.Form.{Form}
use Rattle.rb_expr.specs.declared.form.Form.TheVariants as form
use Rattle.rb_expr.specs.Operators.{tern}
use Rattle.rb_expr.specs.Reading.{Parser, and_then, peek, sees, start_of, skip_separators}
use Rattle.rb_expr.specs.Operands.{post, primary}
use Rattle.rb_rules.specs.Tokens.{Is}
use Rattle.rb_grammar.proofs.Steps.{shown}
use Rattle.rb_expr.specs.Shapes.{begins_simple, begins_statement, has_value, assigning_of, is_sign, prefix_by, is_negation, prefix_of, has_prefix, jump_of}
use Rattle.rb_expr.specs.Statements.{ending_of, is_target, is_plain_target, is_callee, begin_arguments, operator_follower, follower_by, follower_of, modifier_after, body_start, ended, assigned, operator_assigned, command, followed_by, followed, from_operand, value, jump_value, jump, simple_by, simple, modified, modifiers_by, modifiers_from, modifiers, statement, body_from, statements, body}
use Rattle.rb_prefix_laws.proofs.Steps.{Looks, Same, one, sees-one, Fits, less-fits}
use Rattle.rb_prefix_laws.proofs.Cuts.{Cut, bind, looking, choosing, done, refusing, stepping-over, skipping, narrow, loop-at, choose-in, choose-some, choose-rare, looking-or, looking-in, TakenOr, Usual, expect-next, take-next, one-of, in-any-case, loops, nothing, lower, answering}
use Rattle.rb_prefix_laws.proofs.Steps.Amount.{answer, any}
use Rattle.rb_prefix_laws.proofs.Nested.{grips, hold_by, grip_by, hold, grip, some-grip, value-grip, Nests}
use Rattle.rb_prefix_laws.proofs.Calls.{bare-next, command-block-alike}
use Rattle.rb_prefix_laws.proofs.Suffixes.{post-alike}
use Rattle.rb_prefix_laws.proofs.Operators.{negation-far, prefix-far, negation-there, prefix-there, tern-alike, after-alike}

has-prefix-far : (xs ys : List Token) → Same (grip xs) xs ys → has_prefix xs ≡ has_prefix ys
unfolding has_prefix
has-prefix-far xs ys h = ap (λ b. b || is_some (prefix_of xs)) (negation-far xs ys h) ∙ ap (λ v. is_negation ys || is_some v) (prefix-far xs ys h)

has-prefix-there : (xs front rest : List Token) → xs ≡ front ++ rest → Usual rest → grip xs ≤ length front → (has_prefix front ≡ has_prefix xs) ⊎ (front ≡ [])
unfolding has_prefix
has-prefix-there xs front rest e u le = go (negation-there xs front rest e u le) (prefix-there xs front rest e u le)
  where
    go : (is_negation front ≡ is_negation xs) ⊎ (front ≡ []) → (prefix_of front ≡ prefix_of xs) ⊎ (front ≡ []) → ((is_negation front || is_some (prefix_of front)) ≡ (is_negation xs || is_some (prefix_of xs))) ⊎ (front ≡ [])
    go (inr a) b = inr a
    go (inl a) (inr b) = inr b
    go (inl a) (inl b) = inl (ap (λ c. c || is_some (prefix_of front)) a ∙ ap (λ v. is_negation xs || is_some v) b)

-- where no prefix stands, an operand takes as many
no-prefix-by : (s : Shape) (t : Token) (ts : List Token) (signs : Bool) → is_some (prefix_by signs (Some s)) ≡ false → hold_by s t ts ≡ grip_by s t ts
no-prefix-by shape.Not t ts signs e = absurd (let f : true ≡ false = e in cc)
no-prefix-by shape.Tilde t ts signs e = absurd (let f : true ≡ false = e in cc)
no-prefix-by s t ts signs e = refl

no-prefix : (xs : List Token) → has_prefix xs ≡ false → hold xs ≡ grip xs
unfolding has_prefix prefix_of
no-prefix [] e = refl
no-prefix (t ∷ ts) e = no-prefix-by (shape_of t.kind) t ts (is_sign (t ∷ ts)) (right (is_negation (t ∷ ts)) (is_some (prefix_of (t ∷ ts))) e)
  where
    right : (a b : Bool) → (a || b) ≡ false → b ≡ false
    right true b e = absurd (cc)
    right false b e = e

-- ---- what follows an operand

-- what begins a statement begins an operand, but for a jump
simple-grips : (s : Shape) → begins_simple s ≡ true → jump_of (Some s) ≡ None → grips s ≡ true
simple-grips shape.If e none = refl
simple-grips shape.Unless e none = refl
simple-grips shape.While e none = refl
simple-grips shape.Until e none = refl
simple-grips shape.Return e none = absurd (cc)
simple-grips shape.Break e none = absurd (cc)
simple-grips shape.Next e none = absurd (cc)
simple-grips s e none = e

none-follows : (constants : Bool) (end : Ending) → follower_of constants end None ≡ follower.Operators
unfolding follower_of
none-follows constants end = go (is_callee end)
  where
    go : (b : Bool) → (if b && false then follower.Arguments else follower.Operators) ≡ follower.Operators
    go true = refl
    go false = refl

no-value : (b : Bool) → (if b then follower.Arguments else follower.Operators) ≡ follower.Value → ⊥
no-value true e = cc
no-value false e = cc

value-sees-by : (end : Ending) (next : Option Shape) (a : Option Binary) → operator_follower end next a ≡ follower.Value → ⊥
value-sees-by end next (Some operator) e = go (is_target end) e
  where
    go : (b : Bool) → (if b then follower.Operator operator else follower.Operators) ≡ follower.Value → ⊥
    go true e = cc
    go false e = cc
value-sees-by end next None e = no-value (is_callee end && begin_arguments next) e

-- `=` is next
value-sees : (constants : Bool) (end : Ending) (v : Option Shape) → follower_by constants end v ≡ follower.Value → v ≡ Some shape.Assign
value-sees constants end (Some shape.Assign) e = refl
value-sees constants end v e = absurd (value-sees-by end v (assigning_of v) e)

arguments-begin-by : (end : Ending) (next : Option Shape) (a : Option Binary) → operator_follower end next a ≡ follower.Arguments → begin_arguments next ≡ true
arguments-begin-by end next (Some operator) e = absurd (go (is_target end) e)
  where
    go : (b : Bool) → (if b then follower.Operator operator else follower.Operators) ≡ follower.Arguments → ⊥
    go true e = cc
    go false e = cc
arguments-begin-by end next None e = go (is_callee end) (begin_arguments next) e
  where
    go : (a b : Bool) → (if a && b then follower.Arguments else follower.Operators) ≡ follower.Arguments → b ≡ true
    go true true e = refl
    go true false e = absurd (cc)
    go false b e = absurd (cc)

-- what begins arguments is next
arguments-begin : (constants : Bool) (end : Ending) (v : Option Shape) → follower_by constants end v ≡ follower.Arguments → begin_arguments v ≡ true
arguments-begin constants end (Some shape.Assign) e = absurd (go (is_plain_target constants end) e)
  where
    go : (b : Bool) → (if b then follower.Value else follower.Operators) ≡ follower.Arguments → ⊥
    go true e = cc
    go false e = cc
arguments-begin constants end v e = arguments-begin-by end v (assigning_of v) e

seen : (s : Shape) (xs : List Token) → peek xs ≡ Some s → sees s xs ≡ true
seen s [] e = absurd (cc)
seen s (t ∷ ts) e = shown s t ts (let h : shape_of t.kind ≡ s = cc in h)

begins-one : Looks begins_statement
unfolding begins_statement
begins-one = one begins_statement (λ t ts. refl)

has-value-one : Looks has_value
unfolding has_value
has-value-one = one has_value (λ t ts. refl)

follower-one : (constants : Bool) (end : Ending) → Looks (λ ys. follower_of constants end (peek ys))
follower-one constants end = one (λ ys. follower_of constants end (peek ys)) (λ t ts. refl)

body-start-one : Looks body_start
unfolding begins_statement
body-start-one = one body_start (λ t ts. refl)

no-start : (xs : List Token) → begins_statement xs ≡ false → body_start [] ≡ body_start xs
unfolding begins_statement
no-start xs e = sym (ap (λ b. if b then start_of xs else 0) e)

ended-alike : {k : ℕ} (found : List Tree) (span : Span) (xs : List Token) → Cut k (any 0) xs (ended found span xs) (ended found span)
unfolding ended
ended-alike found span xs = choose-rare shape.Rescue refl (λ e. refusing) (λ e. done _)

once : (k : ℕ) → k - 1 ≤ k
once k = omega arith

module _ (nested other : Form → Bool → Parser Tree) (turns more : ℕ) (ih : Nests nested other turns more) (free : Bool) where
  -- ---- after an operand

  assigned-next : (k : ℕ) → Fits turns more k → (target : Tree) (xs : List Token) → sees shape.Assign xs ≡ true → Cut (k - 1) (any 1) xs (assigned nested turns free target xs) (assigned other more free target)
  unfolding assigned
  assigned-next k fit target xs e = bind (expect-next shape.Assign xs e) (λ mark r. bind ((ih (k - 1) (less-fits fit)).reads form.Value free r) (λ v r. done _))

  operator-assigned-next : (k : ℕ) → Fits turns more k → (operator : Binary) (target : Tree) (t : Token) (ts : List Token) → Cut (k - 1) (any 1) (t ∷ ts) (operator_assigned nested turns free operator target (t ∷ ts)) (operator_assigned other more free operator target)
  unfolding operator_assigned
  operator-assigned-next k fit operator target t ts = bind (take-next t ts) (λ mark r. bind ((ih (k - 1) (less-fits fit)).reads form.Value free r) (λ v r. done _))

  command-next : (k : ℕ) → Fits turns more k → (callee : Tree) (xs : List Token) → begin_arguments (peek xs) ≡ true → Cut (k - 1) (any 1) xs (command nested turns free callee xs) (command other more free callee)
  unfolding command
  command-next k fit callee xs e = bind (bare-next nested other turns more ih free k fit xs e) (λ given r. bind (command-block-alike nested other turns more ih free (k - 1 - 1) (less-fits (less-fits fit)) given.0 r) (λ b r. done _))

  followed-by-alike : (k : ℕ) → Fits turns more k → (constants : Bool) (end : Ending) (first : Tree) (by : Follower) (xs : List Token) → follower_of constants end (peek xs) ≡ by →
      TakenOr (k - 1) xs (followed_by nested turns free first by xs) (followed_by other more free first by) (followed_by other more free first (follower_of constants end None))
  unfolding follower_of
  followed-by-alike k fit constants end first follower.Value xs e = inr (assigned-next k fit first xs (seen shape.Assign xs (value-sees constants end (peek xs) e)))
  followed-by-alike k fit constants end first (follower.Operator operator) [] e = absurd (let n : follower.Operators ≡ follower.Operator operator = sym (none-follows constants end) ∙ e in cc)
  followed-by-alike k fit constants end first (follower.Operator operator) (t ∷ ts) e = inr (operator-assigned-next k fit operator first t ts)
  followed-by-alike k fit constants end first follower.Arguments xs e = inr (command-next k fit first xs (arguments-begin constants end (peek xs) e))
  followed-by-alike k fit constants end first follower.Operators xs e = inl (ap (λ by. followed_by other more free first by []) (none-follows constants end), after-alike nested other turns more ih free (k - 1) (less-fits fit) first xs)

  followed-alike : (k : ℕ) → Fits turns more k → (constants : Bool) (first : Tree) (xs : List Token) → Cut (k - 1) (any 0) xs (followed nested turns free constants first xs) (followed other more free constants first)
  unfolding followed
  followed-alike k fit constants first xs = looking-or (λ ys. follower_of constants (ending_of first) (peek ys)) (followed_by other more free first) (follower-one constants (ending_of first)) (followed-by-alike k fit constants (ending_of first) first (follower_of constants (ending_of first) (peek xs)) xs refl)

  operand-alike : (k : ℕ) → Fits turns more k → (constants : Bool) (xs : List Token) → Cut k (answer (hold xs)) xs (from_operand nested turns free constants xs) (from_operand other more free constants)
  unfolding from_operand
  operand-alike k fit constants xs = bind (post-alike nested other turns more ih free k fit xs) (λ first r. followed-alike k fit constants first r)

  -- ---- statements

  pub value-alike : (k : ℕ) → Fits turns more k → (constants : Bool) (xs : List Token) → Cut k (answer (grip xs)) xs (value nested turns free constants xs) (value other more free constants)
  unfolding value has_prefix is_negation prefix_of from_operand post primary
  value-alike k fit constants xs = choosing has_prefix (tern other more free) (from_operand other more free constants) (has-prefix-far xs) (λ front rest e u le. has-prefix-there xs front rest e u le) refl (λ e. tern-alike nested other turns more ih free k fit xs) (λ e. subst (λ n. Cut k (answer n) xs (from_operand nested turns free constants xs) (from_operand other more free constants)) (no-prefix xs e) (operand-alike k fit constants xs))

  jump-value-alike : (k : ℕ) → Fits turns more k → (xs : List Token) → Cut (k - 1) (any 0) xs (jump_value nested turns free xs) (jump_value other more free)
  unfolding jump_value has_value
  jump-value-alike k fit xs = choose-some has_value has-value-one refl (λ e. bind (one-of (subst (λ n. Cut (k - 1) (any n) xs (nested form.Value free xs) (other form.Value free)) (value-grip xs e).1 ((ih k fit).valued free xs))) (λ v r. done _)) (λ e. done _)

  jump-next : (k : ℕ) → Fits turns more k → (word : Jump) (t : Token) (ts : List Token) → Cut k (any 1) (t ∷ ts) (jump nested turns free word (t ∷ ts)) (jump other more free word)
  unfolding jump
  jump-next k fit word t ts = bind (take-next t ts) (λ mark r. bind (jump-value-alike k fit r) (λ given r. done _))

  simple-by-alike : (k : ℕ) → Fits turns more k → (constants : Bool) (s : Shape) (t : Token) (ts : List Token) → Cut k (answer (grip_by s t ts)) (t ∷ ts) (value nested turns free constants (t ∷ ts)) (value other more free constants) →
      Cut k (answer (grip_by s t ts)) (t ∷ ts) (simple_by nested turns free constants (jump_of (Some s)) (t ∷ ts)) (simple_by other more free constants (jump_of (Some s)))
  simple-by-alike k fit constants shape.Return t ts h = lower (answering (jump-next k fit jumps.Return t ts))
  simple-by-alike k fit constants shape.Break t ts h = lower (answering (jump-next k fit jumps.Break t ts))
  simple-by-alike k fit constants shape.Next t ts h = lower (answering (jump-next k fit jumps.Next t ts))
  simple-by-alike k fit constants s t ts h = h

  jump-one : Looks (λ ys. jump_of (peek ys))
  jump-one = one (λ ys. jump_of (peek ys)) (λ t ts. refl)

  pub simple-alike : (k : ℕ) → Fits turns more k → (constants : Bool) (xs : List Token) → Cut k (answer (grip xs)) xs (simple nested turns free constants xs) (simple other more free constants)
  unfolding simple value has_prefix is_negation prefix_of from_operand post primary
  simple-alike k fit constants [] = looking (λ ys. jump_of (peek ys)) (simple_by other more free constants) jump-one refl (value-alike k fit constants [])
  simple-alike k fit constants (t ∷ ts) = looking (λ ys. jump_of (peek ys)) (simple_by other more free constants) jump-one refl (simple-by-alike k fit constants (shape_of t.kind) t ts (value-alike k fit constants (t ∷ ts)))

  -- what begins a statement is taken
  simple-by-next : (k : ℕ) → Fits turns more k → (constants : Bool) (s : Shape) (t : Token) (ts : List Token) → Is s t → begins_simple s ≡ true →
      Cut k (any 1) (t ∷ ts) (simple_by nested turns free constants (jump_of (Some s)) (t ∷ ts)) (simple_by other more free constants (jump_of (Some s)))
  simple-by-next k fit constants shape.Return t ts is e = jump-next k fit jumps.Return t ts
  simple-by-next k fit constants shape.Break t ts is e = jump-next k fit jumps.Break t ts
  simple-by-next k fit constants shape.Next t ts is e = jump-next k fit jumps.Next t ts
  simple-by-next k fit constants s t ts is e =
      let g = some-grip t ts (ap grips is ∙ simple-grips s e refl) in
      one-of (subst (λ n. Cut k (any n) (t ∷ ts) (value nested turns free constants (t ∷ ts)) (value other more free constants)) g.1 (in-any-case (value-alike k fit constants (t ∷ ts))))

  simple-next : (k : ℕ) → Fits turns more k → (constants : Bool) (xs : List Token) → begins_statement xs ≡ true → Cut k (any 1) xs (simple nested turns free constants xs) (simple other more free constants)
  unfolding simple begins_statement
  simple-next k fit constants [] e = absurd (cc)
  simple-next k fit constants (t ∷ ts) e = looking-in (λ ys. jump_of (peek ys)) (simple_by other more free constants) jump-one (simple-by-next k fit constants (shape_of t.kind) t ts refl e)

  modified-next : (k : ℕ) → Fits turns more k → (word : Modifier) (inner : Tree) (t : Token) (ts : List Token) → Cut k (any 1) (t ∷ ts) (modified nested turns free word inner (t ∷ ts)) (modified other more free word inner)
  unfolding modified
  modified-next k fit word inner t ts = bind (take-next t ts) (λ mark r. bind ((ih k fit).reads form.Simple free r) (λ condition r. done _))

  modifiers-by-alike : (k : ℕ) → Fits turns more k → (again again2 : Tree → Parser Tree) → ((inner : Tree) (xs : List Token) → Cut (k - 1) (any 0) xs (again inner xs) (again2 inner)) → (inner : Tree) (word : Option Modifier) (xs : List Token) → modifier_after inner (peek xs) ≡ word →
      TakenOr k xs (modifiers_by nested turns free again inner word xs) (modifiers_by other more free again2 inner word) (modifiers_by other more free again2 inner None)
  unfolding modifier_after
  modifiers-by-alike k fit again again2 h inner None xs e = inl (refl, done _)
  modifiers-by-alike k fit again again2 h inner (Some word) [] e = absurd (cc)
  modifiers-by-alike k fit again again2 h inner (Some word) (t ∷ ts) e = inr (bind (modified-next k fit word inner t ts) (λ longer r. h longer r))

  modifier-one : (inner : Tree) → Looks (λ ys. modifier_after inner (peek ys))
  modifier-one inner = one (λ ys. modifier_after inner (peek ys)) (λ t ts. refl)

  modifiers-alike : (k : ℕ) → Fits turns more k → (inner : Tree) (xs : List Token) → Cut k (any 0) xs (modifiers nested turns free inner xs) (modifiers other more free inner)
  unfolding modifiers modifiers_from modifier_after
  modifiers-alike k fit inner xs = loop-at {S = Tree} turns more (λ n s. modifiers_from nested turns free n s) (λ n s. modifiers_from other more free n s)
      (λ k n m fit again s xs. looking-or (λ ys. modifier_after s (peek ys)) (modifiers_by other more free (modifiers_from other more free m) s) (modifier-one s)
      (modifiers-by-alike k fit (modifiers_from nested turns free n) (modifiers_from other more free m) again s (modifier_after s (peek xs)) xs refl))
      k fit inner xs

  pub statement-alike : (k : ℕ) → Fits turns more k → (constants : Bool) (xs : List Token) → Cut k (answer (grip xs)) xs (statement nested turns free constants xs) (statement other more free constants)
  unfolding statement
  statement-alike k fit constants xs = bind (simple-alike k fit constants xs) (λ inner r. modifiers-alike (k - 1) (less-fits fit) inner r)

  statement-next : (k : ℕ) → Fits turns more k → (constants : Bool) (xs : List Token) → begins_statement xs ≡ true → Cut k (any 1) xs (statement nested turns free constants xs) (statement other more free constants)
  unfolding statement
  statement-next k fit constants xs e = bind (simple-next k fit constants xs e) (λ inner r. modifiers-alike (k - 1) (less-fits fit) inner r)

  -- ---- bodies

  abbrev Goes : Bool → ℕ → ℕ → ℕ → ℕ → Type 0
  Goes constants start k n m = (s : ℕ × List Tree) (xs : List Token) → Cut k (any 0) xs (body_from nested turns free constants start s.0 n s.1 xs) (body_from other more free constants start s.0 m s.1)

  -- after a statement
  body-turn : (k n m : ℕ) → Fits turns more k → (constants : Bool) (start : ℕ) → Goes constants start (k - 1) n m → (s : ℕ × List Tree) (xs : List Token) → begins_statement xs ≡ true →
      Cut k (any 1) xs (and_then (statement nested turns free constants xs) (λ next rest. if sees shape.Separator rest then body_from nested turns free constants start (span_of next).end n (s.1 ++ next ∷ []) (skip_separators rest) else ended (s.1 ++ next ∷ []) (record { start = start; end = (span_of next).end }) rest))
      (λ ys. and_then (statement other more free constants ys) (λ next rest. if sees shape.Separator rest then body_from other more free constants start (span_of next).end m (s.1 ++ next ∷ []) (skip_separators rest) else ended (s.1 ++ next ∷ []) (record { start = start; end = (span_of next).end }) rest))
  body-turn k n m fit constants start again s xs e = bind (statement-next k fit constants xs e) (λ next r. choose-some (sees shape.Separator) (sees-one shape.Separator) refl
      (λ e. stepping-over r (body_from nested turns free constants start (span_of next).end n (s.1 ++ next ∷ [])) (body_from other more free constants start (span_of next).end m (s.1 ++ next ∷ [])) e
      (narrow (once (k - 1)) (again ((span_of next).end, s.1 ++ next ∷ []) (skip_separators r))))
      (λ e. ended-alike (s.1 ++ next ∷ []) (record { start = start; end = (span_of next).end }) r))

  body-loop : (k n m : ℕ) → Fits turns more k → k ≤ n → k ≤ m → (constants : Bool) (start : ℕ) → Goes constants start k n m
  unfolding body_from begins_statement
  body-loop k n m fit a b constants start s xs = loops {S = ℕ × List Tree} turns more (λ n s. body_from nested turns free constants start s.0 n s.1) (λ n s. body_from other more free constants start s.0 n s.1)
      (λ k n m fit again s xs. choose-some begins_statement begins-one refl (λ e. body-turn k n m fit constants start again s xs e) (λ e. done _))
      k n m fit a b s xs

  -- what begins a statement is taken
  body-next : (k n m : ℕ) → Fits turns more k → k ≤ n → k ≤ m → (constants : Bool) (start : ℕ) (xs : List Token) → begins_statement xs ≡ true → Cut k (any 1) xs (body_from nested turns free constants start 0 n [] xs) (body_from other more free constants start 0 m [])
  unfolding body_from begins_statement
  body-next k zero m fit a b constants start xs e = let z : k ≡ zero = omega arith in subst (λ j. Cut j (any 1) xs (Err xs) (body_from other more free constants start 0 m [])) (sym z) nothing
  body-next k (suc n) zero fit a b constants start xs e = let z : k ≡ zero = omega arith in subst (λ j. Cut j (any 1) xs (body_from nested turns free constants start 0 (suc n) [] xs) (λ ys. Err ys)) (sym z) nothing
  body-next k (suc n) (suc m) fit a b constants start xs e =
      choose-in begins_statement begins-one (λ e. body-turn k n m fit constants start (body-loop (k - 1) n m (less-fits fit) (less k n a) (less k m b) constants start) (0, []) xs e) (λ f. absurd (cc))
    where
      less : (k n : ℕ) → k ≤ suc n → k - 1 ≤ n
      less k n h = omega arith

  statements-alike : (k : ℕ) → Fits turns more k → (constants : Bool) (xs : List Token) → Cut k (any 0) xs (statements nested turns free constants xs) (statements other more free constants)
  unfolding statements
  statements-alike k fit constants xs = looking-or body_start (λ start. body_from other more free constants start 0 more []) body-start-one (go (begins_statement xs) refl)
    where
      go : (b : Bool) → begins_statement xs ≡ b → TakenOr k xs (body_from nested turns free constants (body_start xs) 0 turns [] xs) (body_from other more free constants (body_start xs) 0 more []) (body_from other more free constants (body_start []) 0 more [])
      go true e = inr (body-next k turns more fit fit.one fit.two constants (body_start xs) xs e)
      go false e = inl (ap (λ start. body_from other more free constants start 0 more [] []) (no-start xs e), body-loop k turns more fit fit.one fit.two constants (body_start xs) (0, []) xs)

  pub body-alike : (k : ℕ) → Fits turns more k → (constants : Bool) (xs : List Token) → Cut k (any 0) xs (body nested turns free constants xs) (body other more free constants)
  unfolding body
  body-alike k fit constants xs = skipping xs (statements nested turns free constants) (statements other more free constants) (statements-alike k fit constants (skip_separators xs))
