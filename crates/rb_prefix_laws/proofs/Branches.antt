-- `if`, `unless`, `while`, `until`, `case` and `begin` are read alike.
use Rattle.std.proofs.Common.{◌≡◌, ℕ, ◌-◌, Bool, true, false, ◌||◌, if◌then◌else◌, List, [], ◌∷◌, ◌++◌, Some, Ok, Err, refl, ap, zero, suc}
use Rattle.rb_tree.specs.declared.syntax.Arm.{Arm}
use Rattle.rb_tree.specs.declared.syntax.Rescue.{Rescue}
use Rattle.rb_tree.specs.declared.syntax.Test.{Test}
use Rattle.rb_tree.specs.declared.syntax.Test.TheVariants as test
use Rattle.rb_tree.specs.declared.syntax.Tree.{Tree}
use Rattle.rb_tree.specs.declared.syntax.When.{When}
use Rattle.rb_tree.specs.declared.token.Token.{Token}
use Rattle.rb_tree.specs.declared.token.Shape.TheVariants as shape
use Rattle.rb_expr.specs.declared.form.Form.{Form}
use Rattle.rb_expr.specs.declared.form.Form.TheVariants as form
use Rattle.rb_expr.specs.Reading.{Outcome, Parser, and_then, ◌<$>◌, sees, after, skip_separators, named}
use Rattle.rb_expr.specs.Branches.{after_then, then_word, do_word, rescues_all, rescue_variable, otherwise, elsif_arm, elsif_arms_from, elsif_arms, arms_of, branch, repeated, subject, patterns_from, patterns, when_arm, when_arms_from, when_arms, choice, raised, rescue_clause, rescues_from, rescues, otherwise_after, ensure, guarded, guards}
use Rattle.rb_prefix_laws.proofs.Steps.{one, Looks, sees-one, Fits, less-fits}
use Rattle.rb_prefix_laws.proofs.Cuts.{Cut, likewise, bind, join, weaker, choose, done, expecting, naming, stepping, skipping, loop-in, loop-at, choose-some, choose-rare, take-next}
use Rattle.rb_prefix_laws.proofs.Steps.Amount.{answer, any}
use Rattle.rb_prefix_laws.proofs.Nested.{Nests}

-- a `then` that is passed over after a separator
then-over : {A : Type 0} (k : ℕ) (a : A) (xs : List Token) → Cut k (any 0) xs (Ok (a, after_then xs)) (λ ys. Ok (a, after_then ys))
then-over {A = A} k a xs = likewise xs (λ ys. if sees shape.Then ys then Ok (a, after ys) else Ok (a, ys)) (λ ys. Ok (a, after_then ys)) (λ ys. either (after ys) ys (sees shape.Then ys))
    (choose-some (sees shape.Then) (sees-one shape.Then) refl (λ e. stepping xs (λ ys. Ok (a, ys)) (λ ys. Ok (a, ys)) shape.Then e (done a)) (λ e. done a))
  where
    left : List Token → Outcome A
    left us = Ok (a, us)

    either : (us vs : List Token) (b : Bool) → left (if b then us else vs) ≡ (if b then left us else left vs)
    either us vs true = refl
    either us vs false = refl

then-alike : (k : ℕ) (xs : List Token) → Cut k (answer 0) xs (then_word xs) then_word
unfolding then_word
then-alike k xs = choose (sees shape.Then) (sees-one shape.Then) refl (λ e. expecting shape.Then xs) (λ e. bind (expecting shape.Separator xs) (λ mark r. then-over (k - 1) mark r))

do-word-alike : (k : ℕ) (xs : List Token) → Cut k (answer 0) xs (do_word xs) do_word
unfolding do_word
do-word-alike k xs = choose (sees shape.Do) (sees-one shape.Do) refl (λ e. expecting shape.Do xs) (λ e. expecting shape.Separator xs)

rescues-all-one : Looks rescues_all
unfolding rescues_all
rescues-all-one = one rescues_all (λ t ts. refl)

variable-alike : (k : ℕ) (xs : List Token) → Cut k (any 0) xs (rescue_variable xs) rescue_variable
unfolding rescue_variable
variable-alike k xs = choose-some (sees shape.Arrow) (sees-one shape.Arrow) refl
    (λ e. stepping xs (Some <$> named shape.Identifier) (Some <$> named shape.Identifier) shape.Arrow e (weaker (bind (naming shape.Identifier (after xs)) (λ name r. done _))))
    (λ e. done _)

module _ (nested other : Form → Bool → Parser Tree) (turns more : ℕ) (ih : Nests nested other turns more) (free : Bool) where
  otherwise-alike : (k : ℕ) → Fits turns more k → (xs : List Token) → Cut k (any 0) xs (otherwise nested turns free xs) (otherwise other more free)
  unfolding otherwise
  otherwise-alike k fit xs = choose-some (sees shape.Else) (sees-one shape.Else) refl
      (λ e. stepping xs (Some <$> nested form.Body free) (Some <$> other form.Body free) shape.Else e (bind ((ih k fit).reads form.Body free (after xs)) (λ b r. done _)))
      (λ e. done _)

  elsif-alike : (k : ℕ) → Fits turns more k → (xs : List Token) → Cut k (answer 0) xs (elsif_arm nested turns free xs) (elsif_arm other more free)
  unfolding elsif_arm
  elsif-alike k fit xs = bind (expecting shape.Elsif xs) (λ mark r. bind ((ih k fit).reads form.Simple free r) (λ condition r. join (weaker (then-alike (k - 1) r)) (λ word r. bind ((ih k fit).reads form.Body free r) (λ body r. done _))))

  elsif-arms-alike : (k : ℕ) → Fits turns more k → (xs : List Token) → Cut k (any 0) xs (elsif_arms nested turns free xs) (elsif_arms other more free)
  unfolding elsif_arms elsif_arms_from
  elsif-arms-alike k fit xs = loop-at {S = List (Arm Tree)} turns more (λ n s. elsif_arms_from nested turns free n s) (λ n s. elsif_arms_from other more free n s)
      (λ k n m fit again s xs. choose-rare shape.Elsif refl (λ e. weaker (bind (elsif-alike k fit xs) (λ arm r. again (s ++ arm ∷ []) r))) (λ e. done _))
      k fit [] xs

  arms-alike : (k : ℕ) → Fits turns more k → (how : Test) (xs : List Token) → Cut k (any 0) xs (arms_of nested turns free how xs) (arms_of other more free how)
  unfolding arms_of
  arms-alike k fit test.Positive xs = elsif-arms-alike k fit xs
  arms-alike k fit test.Negative xs = done _

  pub branch-next : (k : ℕ) → Fits turns more k → (how : Test) (t : Token) (ts : List Token) → Cut k (any 1) (t ∷ ts) (branch nested turns free how (t ∷ ts)) (branch other more free how)
  unfolding branch
  branch-next k fit how t ts = let less = less-fits fit in bind (take-next t ts) (λ mark r. bind ((ih k fit).reads form.Simple free r) (λ condition r. join (weaker (then-alike (k - 1) r)) (λ word r. bind ((ih k fit).reads form.Body free r) (λ body r.
      bind (arms-alike (k - 1) less how r) (λ arms r. bind (otherwise-alike (k - 1) less r) (λ rest r. weaker (bind (expecting shape.End r) (λ closing r. done _))))))))

  pub repeated-next : (k : ℕ) → Fits turns more k → (how : Test) (t : Token) (ts : List Token) → Cut k (any 1) (t ∷ ts) (repeated nested turns free how (t ∷ ts)) (repeated other more free how)
  unfolding repeated
  repeated-next k fit how t ts = bind (take-next t ts) (λ mark r. bind ((ih k fit).reads form.Simple false r) (λ condition r. join (weaker (do-word-alike (k - 1) r)) (λ word r. bind ((ih k fit).reads form.Body free r) (λ body r. weaker (bind (expecting shape.End r) (λ closing r. done _))))))

  -- after `case`
  subject-alike : (k : ℕ) → Fits turns more k → (xs : List Token) → Cut (k - 1) (any 0) xs (subject nested turns free xs) (subject other more free)
  unfolding subject
  subject-alike k fit xs = choose (λ ys. sees shape.Separator ys || sees shape.When ys) (one (λ ys. sees shape.Separator ys || sees shape.When ys) (λ t ts. refl)) (ap (λ o. and_then o (λ value rest. Ok (Some value, rest))) ((ih k fit).no_simple free)) (λ e. done _) (λ e. bind ((ih k fit).reads form.Simple free xs) (λ value r. done _))

  patterns-alike : (k : ℕ) → Fits turns more k → (xs : List Token) → Cut (k - 1) (any 0) xs (patterns nested turns free xs) (patterns other more free)
  unfolding patterns patterns_from
  patterns-alike k fit xs = loop-in {S = List Tree} turns more (λ n s. patterns_from nested turns free n s) (λ n s. patterns_from other more free n s)
      (λ k n m fit again s xs. bind ((ih k fit).reads form.Tern free xs) (λ pattern r. choose-some (sees shape.Comma) (sees-one shape.Comma) refl
      (λ e. stepping r (patterns_from nested turns free n (s ++ pattern ∷ [])) (patterns_from other more free m (s ++ pattern ∷ [])) shape.Comma e (again (s ++ pattern ∷ []) (after r)))
      (λ e. done _)))
      k fit [] xs

  when-alike : (k : ℕ) → Fits turns more k → (xs : List Token) → Cut k (answer 0) xs (when_arm nested turns free xs) (when_arm other more free)
  unfolding when_arm
  when-alike k fit xs = bind (expecting shape.When xs) (λ mark r. bind (patterns-alike k fit r) (λ found r. join (weaker (then-alike (k - 1) r)) (λ word r. bind ((ih k fit).reads form.Body free r) (λ body r. done _))))

  when-arms-alike : (k : ℕ) → Fits turns more k → (xs : List Token) → Cut k (any 0) xs (when_arms nested turns free xs) (when_arms other more free)
  unfolding when_arms when_arms_from
  when-arms-alike k fit xs = loop-at {S = List (When Tree)} turns more (λ n s. when_arms_from nested turns free n s) (λ n s. when_arms_from other more free n s)
      (λ k n m fit again s xs. weaker (bind (when-alike k fit xs) (λ arm r. choose-rare shape.When refl (λ e. again (s ++ arm ∷ []) r) (λ e. done _))))
      k fit [] xs

  pub choice-next : (k : ℕ) → Fits turns more k → (t : Token) (ts : List Token) → Cut k (any 1) (t ∷ ts) (choice nested turns free (t ∷ ts)) (choice other more free)
  unfolding choice
  choice-next k fit t ts = let less = less-fits fit in bind (take-next t ts) (λ mark r. bind (subject-alike k fit r) (λ given r. bind (skipping r (when_arms nested turns free) (when_arms other more free) (when-arms-alike (k - 1) less (skip_separators r))) (λ arms r. bind (otherwise-alike (k - 1) less r) (λ rest r. weaker (bind (expecting shape.End r) (λ closing r. done _))))))

  -- ---- guards

  -- after `rescue`
  raised-alike : (k : ℕ) → Fits turns more k → (xs : List Token) → Cut (k - 1) (any 0) xs (raised nested turns free xs) (raised other more free)
  unfolding raised patterns patterns_from rescues_all
  raised-alike k fit xs = choose rescues_all rescues-all-one (no-patterns more) (λ e. done _) (λ e. patterns-alike k fit xs)
    where
      no-patterns : (n : ℕ) → patterns_from other more free n [] [] ≡ Err []
      no-patterns zero = refl
      no-patterns (suc n) = ap (λ o. and_then o (λ pattern tokens. if sees shape.Comma tokens then patterns_from other more free n ([] ++ pattern ∷ []) (after tokens) else Ok ([] ++ pattern ∷ [], tokens))) ((ih k fit).no_term free)

  clause-alike : (k : ℕ) → Fits turns more k → (xs : List Token) → Cut k (answer 0) xs (rescue_clause nested turns free xs) (rescue_clause other more free)
  unfolding rescue_clause
  clause-alike k fit xs = bind (expecting shape.Rescue xs) (λ mark r. bind (raised-alike k fit r) (λ found r. bind (variable-alike (k - 1) r) (λ variable r. join (weaker (then-alike (k - 1) r)) (λ word r. bind ((ih k fit).reads form.Body free r) (λ body r. done _)))))

  rescues-alike : (k : ℕ) → Fits turns more k → (xs : List Token) → Cut k (any 0) xs (rescues nested turns free xs) (rescues other more free)
  unfolding rescues rescues_from
  rescues-alike k fit xs = loop-at {S = List (Rescue Tree)} turns more (λ n s. rescues_from nested turns free n s) (λ n s. rescues_from other more free n s)
      (λ k n m fit again s xs. choose-rare shape.Rescue refl (λ e. weaker (bind (clause-alike k fit xs) (λ clause r. again (s ++ clause ∷ []) r))) (λ e. done _))
      k fit [] xs

  after-rescues-alike : (k : ℕ) → Fits turns more k → (clauses : List (Rescue Tree)) (xs : List Token) → Cut k (any 0) xs (otherwise_after nested turns free clauses xs) (otherwise_after other more free clauses)
  unfolding otherwise_after
  after-rescues-alike k fit [] xs = done _
  after-rescues-alike k fit (clause ∷ clauses) xs = otherwise-alike k fit xs

  ensure-alike : (k : ℕ) → Fits turns more k → (xs : List Token) → Cut k (any 0) xs (ensure nested turns free xs) (ensure other more free)
  unfolding ensure
  ensure-alike k fit xs = choose-some (sees shape.Ensure) (sees-one shape.Ensure) refl
      (λ e. stepping xs (Some <$> nested form.Body free) (Some <$> other form.Body free) shape.Ensure e (bind ((ih k fit).reads form.Body free (after xs)) (λ b r. done _)))
      (λ e. done _)

  pub guarded-alike : (k : ℕ) → Fits turns more k → (xs : List Token) → Cut (k - 1) (any 0) xs (guarded nested turns free xs) (guarded other more free)
  unfolding guarded
  guarded-alike k fit xs = let less = less-fits fit in bind ((ih k fit).reads form.Body free xs) (λ body r. bind (rescues-alike (k - 1) less r) (λ clauses r. bind (after-rescues-alike (k - 1) less clauses r) (λ rest r. bind (ensure-alike (k - 1) less r) (λ last r. done _))))

  pub guards-next : (k : ℕ) → Fits turns more k → (t : Token) (ts : List Token) → Cut k (any 1) (t ∷ ts) (guards nested turns free (t ∷ ts)) (guards other more free)
  unfolding guards
  guards-next k fit t ts = bind (take-next t ts) (λ mark r. bind (guarded-alike k fit r) (λ found r. weaker (bind (expecting shape.End r) (λ closing r. done _))))
