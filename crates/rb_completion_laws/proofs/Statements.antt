-- Statements that are begun can be completed, and bodies of them.
use Rattle.std.proofs.Common.{◌≡◌, ℕ, zero, suc, Bool, true, false, not, ◌&&◌, if◌then◌else◌, List, [], ◌∷◌, ◌++◌, Option, Some, None, inl, inr, refl, sym, ap, subst, ◌∙◌, ⊎_elim}
use Rattle.rb_tree.specs.Tokens.{shape_of, same_shape}
use Rattle.rb_tree.specs.Trees.{span_of}
use Rattle.rb_tree.specs.declared.syntax.Argument.{Argument}
use Rattle.rb_tree.specs.declared.syntax.Binary.{Binary}
use Rattle.rb_tree.specs.declared.syntax.Jump.{Jump}
use Rattle.rb_tree.specs.declared.syntax.Modifier.{Modifier}
use Rattle.rb_tree.specs.declared.syntax.Modifier.TheVariants as modifier
use Rattle.rb_tree.specs.declared.syntax.Tree.{Tree}
use Rattle.rb_tree.specs.declared.syntax.Node.{out-Node}
use Rattle.rb_tree.specs.declared.syntax.Node.TheOpen.{Node-F}
use Rattle.rb_tree.specs.declared.syntax.Node.TheVariants.{rolls-Assign, rolls-OperatorAssign, rolls-Command, rolls-Jump, rolls-Modified}
use Rattle.rb_tree.specs.declared.token.Token.{Token}
use Rattle.rb_tree.specs.declared.token.Shape.{Shape}
use Rattle.rb_tree.specs.declared.token.Shape.TheVariants as shape
use Rattle.rb_expr.specs.declared.ending.Ending.{Ending}
use Rattle.rb_expr.specs.declared.ending.Ending.TheVariants as ending
use Rattle.rb_expr.specs.declared.ending.Follower.TheVariants as follower
use Rattle.rb_expr.specs.declared.form.Form.{Form}
use Rattle.rb_expr.specs.Operators as operators
use Rattle.rb_expr.specs.Reading.{Outcome, Parser, peek, sees, skip_separators}
use Rattle.rb_expr.specs.Shapes.{begins_value, has_value, has_prefix, begins_statement, jump_of, modifier_of, assigning_of}
use Rattle.rb_expr.specs.Statements as spec
use Rattle.rb_expr.specs.Statements.{ending_of, is_target, is_plain_target, is_callee, begin_arguments, other_follower, operator_follower, follower_by, follower_of, assigned, operator_assigned, command, followed_by, followed, from_operand, jump_value, simple_by, simple, may_modify, allowed, modifier_after, ended, modified, modifiers_by, modifiers_from, modifiers, statement, body_start, body_from, statements}
use Rattle.rb_rules.specs.Tokens.{Is, IsOneOf, StartsWith}
use Rattle.rb_rules.specs.Spans.{across, block_or}
use Rattle.rb_rules.specs.Forms.{Site, is_open, is_begin, is_begin_at, ASSIGNMENTS, MODIFIERS, NO_COMMAND, MayModify}
use Rattle.rb_rules.specs.Grammar.{IsRow, MODIFIER_WORDS, JUMP_WORDS, span_of_arguments, DerivesModified}
use Rattle.rb_rules.specs.Grammar.DerivesStatement.{Simply}
use Rattle.rb_rules.specs.Grammar.DerivesModified.{Unmodified, Modified}
use Rattle.rb_rules.specs.Grammar.DerivesSimple.{Valued, Jumps, JumpsWith}
use Rattle.rb_rules.specs.Grammar.DerivesValue.{Term, Assigns, Computes, Command}
use Rattle.rb_rules.specs.Grammar.DerivesDo.{NoDo}
use Rattle.rb_rules.specs.Grammar.DerivesLevel.{Plainly}
use Rattle.rb_grammar.proofs.Steps.{same}
use Rattle.rb_grammar.proofs.Lists.{and-left, and-right}
use Rattle.rb_completion_laws.proofs.Steps.{Rel, This, Fits, Reach, Completes, Stands, Seq, reach-as, reach-self, reach-more, reach-one, reach-this, reach-token, reach-fits, complete-as, complete-then, complete-after, complete-token, complete-fits, complete-reach, Goes, bind, goes-as, choosing, Plain, plainly, seq, done, refusing, answering, headed, gap, One, one-stands, expecting, Perhaps, perhaps-stands, nothing, fits-start}
use Rattle.rb_completion_laws.proofs.Begins.{noded}
use Rattle.rb_completion_laws.proofs.Viable.{Viable, Bodied, AStatement, ASimple, AValue, ATarget, ACallee, Like, LikeSimple, LikeValue, Liking, liking, like-any, Uses, negated-term, value-stands}
use Rattle.rb_completion_laws.proofs.Calls.{Bare, SomeBare, bare-goes, Commanded, command-block-goes}
use Rattle.rb_completion_laws.proofs.Bodies.{Row, RowEnd, alone-row, longer-row, longer-end, body-of, body-parted}
use Rattle.rb_completion_laws.proofs.Suffixes.{Post, post-goes}
use Rattle.rb_completion_laws.proofs.Operators.{after-goes, like-tern-goes}
use Rattle.rb_tree.specs.declared.token.TokenKind.TheVariants as kind

-- ---- tables of words and operators

abbrev Assigning : Shape → Option Binary → Type 0
Assigning s None = Unit {0}
Assigning s (Some operator) = IsRow ASSIGNMENTS s operator

assigning : (s : Shape) → Assigning s (assigning_of (Some s))
assigning shape.PlusAssign = inl (refl, refl)
assigning shape.MinusAssign = inr (inl (refl, refl))
assigning shape.StarAssign = inr (inr (inl (refl, refl)))
assigning shape.SlashAssign = inr (inr (inr (inl (refl, refl))))
assigning shape.PercentAssign = inr (inr (inr (inr (inl (refl, refl)))))
assigning shape.PowerAssign = inr (inr (inr (inr (inr (inl (refl, refl))))))
assigning shape.OrAssign = inr (inr (inr (inr (inr (inr (inl (refl, refl)))))))
assigning shape.AndAssign = inr (inr (inr (inr (inr (inr (inr (inl (refl, refl))))))))
assigning shape.PipeAssign = inr (inr (inr (inr (inr (inr (inr (inr (inl (refl, refl)))))))))
assigning shape.AmpersandAssign = inr (inr (inr (inr (inr (inr (inr (inr (inr (inl (refl, refl))))))))))
assigning shape.CaretAssign = inr (inr (inr (inr (inr (inr (inr (inr (inr (inr (inl (refl, refl)))))))))))
assigning shape.ShiftLeftAssign = inr (inr (inr (inr (inr (inr (inr (inr (inr (inr (inr (inl (refl, refl))))))))))))
assigning shape.ShiftRightAssign = inr (inr (inr (inr (inr (inr (inr (inr (inr (inr (inr (inr (inl (refl, refl)))))))))))))
assigning s = tt

abbrev Jumping : Shape → Option Jump → Type 0
Jumping s None = Unit {0}
Jumping s (Some word) = IsRow JUMP_WORDS s word

jumping : (s : Shape) → Jumping s (jump_of (Some s))
jumping shape.Return = inl (refl, refl)
jumping shape.Break = inr (inl (refl, refl))
jumping shape.Next = inr (inr (inl (refl, refl)))
jumping s = tt

abbrev Modifying : Shape → Option Modifier → Type 0
Modifying s None = Unit {0}
Modifying s (Some word) = IsRow MODIFIER_WORDS s word

modifying : (s : Shape) → Modifying s (modifier_of (Some s))
modifying shape.If = inl (refl, refl)
modifying shape.Unless = inr (inl (refl, refl))
modifying shape.While = inr (inr (inl (refl, refl)))
modifying shape.Until = inr (inr (inr (inl (refl, refl))))
modifying s = tt

-- what the parser allows, the grammar does
begins-same : {X Y : Type 0} (r : Node-F X Y) → spec.is_begin_at r ≡ is_begin_at r
begins-same (Node-F.Begin guarded span) = refl
begins-same r = refl

no-begin : (t : Tree) → not (spec.is_begin t) ≡ true → is_begin t ≡ false
unfolding is_begin spec.is_begin
no-begin t e = sym (begins-same (out-Node t.node)) ∙ negated' (spec.is_begin_at (out-Node t.node)) e
  where
    negated' : (b : Bool) → not b ≡ true → b ≡ false
    negated' true e = absurd (cc)
    negated' false e = refl

may : (word : Modifier) (inner : Tree) → may_modify word inner ≡ true → MayModify word inner
unfolding may_modify
may modifier.If inner e = inl refl
may modifier.Unless inner e = inl refl
may modifier.While inner e = inr (no-begin inner e)
may modifier.Until inner e = inr (no-begin inner e)

-- the test fails on each of the list
abbrev AllFail : (Shape → Bool) → List Shape → Type 0
AllFail test [] = Unit {0}
AllFail test (s ∷ ss) = (test s ≡ false) × AllFail test ss

none-of : (test : Shape → Bool) (ss : List Shape) → AllFail test ss → (s : Shape) → test s ≡ true → IsOneOf ss s → ⊥
none-of test [] each s e h = h
none-of test (x ∷ ss) each s e (inl is) = let one : test s ≡ test x = ap test is in let other = each.0 in absurd (cc)
none-of test (x ∷ ss) each s e (inr h) = none-of test ss each.1 s e h

no-command : (xs : List Token) → begin_arguments (peek xs) ≡ true → ¬ StartsWith NO_COMMAND xs
no-command [] e h = h
no-command (t ∷ ts) e h = none-of (λ s. begin_arguments (Some s)) NO_COMMAND (refl, (refl, (refl, (refl, (refl, (refl, (refl, (refl, (refl, (refl, (refl, (refl, (refl, (refl, (refl, (refl, tt)))))))))))))))) (shape_of t.kind) e h

no-modifier : (xs : List Token) → has_value xs ≡ true → ¬ StartsWith MODIFIERS xs
unfolding has_value
no-modifier [] e h = h
no-modifier (t ∷ ts) e h = none-of begins_value MODIFIERS (refl, (refl, (refl, (refl, tt)))) (shape_of t.kind) e h

fits-command : (xs us : List Token) → ¬ StartsWith NO_COMMAND xs → Fits xs us → ¬ StartsWith NO_COMMAND us
fits-command xs us none f = fits-start NO_COMMAND (refl, (refl, (refl, (refl, (refl, (refl, (refl, (refl, (refl, (refl, (refl, (refl, (refl, (refl, (refl, (refl, tt)))))))))))))))) xs us f none

fits-modifier : (xs us : List Token) → ¬ StartsWith MODIFIERS xs → Fits xs us → ¬ StartsWith MODIFIERS us
fits-modifier xs us none f = fits-start MODIFIERS (refl, (refl, (refl, (refl, tt)))) xs us f none

module _ (nested : Form → Bool → Parser Tree) (ih : Viable nested) (turns : ℕ) (free : Bool) where
  -- ---- what follows an operand

  target-of : (e : Ending) (us zs : List Token) → Uses e free us zs → is_target e ≡ true → (constants : Bool) → ATarget constants free us zs
  target-of ending.Name us zs u h constants = u.0 constants
  target-of ending.Target us zs u h constants = u constants
  target-of ending.Callee us zs u h constants = absurd (cc)
  target-of ending.Constant us zs u h constants = absurd (cc)
  target-of ending.Other us zs u h constants = absurd (cc)

  plain-target-of : (constants : Bool) (e : Ending) (us zs : List Token) → Uses e free us zs → is_plain_target constants e ≡ true → ATarget constants free us zs
  plain-target-of constants ending.Name us zs u h = u.0 constants
  plain-target-of constants ending.Target us zs u h = u constants
  plain-target-of constants ending.Callee us zs u h = absurd (cc)
  plain-target-of constants ending.Constant us zs u h = subst (λ c. ATarget c free us zs) (sym h) u
  plain-target-of constants ending.Other us zs u h = absurd (cc)

  callee-of : (e : Ending) (us zs : List Token) → Uses e free us zs → is_callee e ≡ true → ACallee free us zs
  callee-of ending.Name us zs u h = u.1
  callee-of ending.Target us zs u h = absurd (cc)
  callee-of ending.Callee us zs u h = u
  callee-of ending.Constant us zs u h = absurd (cc)
  callee-of ending.Other us zs u h = absurd (cc)

  assign-one : Stands (One shape.Assign)
  unfolding shape_of
  assign-one = one-stands kind.Assign shape.Assign refl (λ zs. refl)

  assigns : (constants begins : Bool) (us zs : List Token) → Seq (ATarget constants free) (Seq (One shape.Assign) (AValue false free)) us zs → LikeValue constants free begins us zs
  assigns constants begins us zs h = (_, Assigns _ _ _ _ _ _ _ _ (subst (λ v. ATarget constants free us v) h.second.first.2 h.first).1 h.second.first.1 h.second.second.1, λ none. noded _ _ (rolls-Assign _ _ _))

  assigned-goes : (constants : Bool) (all : List Token) (first : Tree) (xs : List Token) → Reach all xs (ATarget constants free) → Liking all (assigned nested turns free first xs) (LikeValue constants free)
  unfolding assigned
  assigned-goes constants all first xs r = goes-as (seq (expecting shape.Assign assign-one xs) (value-stands false free) (λ _ es. answering _ (ih.value free es)))
      (λ t ys m. reach-as (reach-more r m) (assigns constants (is_begin t))) (λ rest q. complete-as (complete-after r q) (assigns constants true))

  computes : (constants begins : Bool) (operator : Binary) (o : Token) → IsRow ASSIGNMENTS (shape_of o.kind) operator → (us zs : List Token) → Seq (Seq (ATarget false free) (This o)) (AValue false free) us zs → LikeValue constants free begins us zs
  computes constants begins operator o row us zs h = (_, Computes _ _ _ _ _ _ _ _ _ (subst (λ v. ATarget false free us v) h.first.second h.first.first).1 row h.second.1, λ none. noded _ _ (rolls-OperatorAssign _ _ _ _ _))

  computed-goes : (constants : Bool) (all : List Token) (first : Tree) (operator : Binary) (o : Token) (os : List Token) → IsRow ASSIGNMENTS (shape_of o.kind) operator → Reach all (o ∷ os) (ATarget false free) → Liking all (operator_assigned nested turns free operator first (o ∷ os)) (LikeValue constants free)
  unfolding operator_assigned
  computed-goes constants all first operator o os row r = let ro = reach-more r (reach-this o os) in
      goes-as (answering _ (ih.value free os)) (λ t ys m. reach-as (reach-more ro m) (computes constants (is_begin t) operator o row)) (λ rest q. complete-as (complete-after ro q) (computes constants true operator o row))

  -- a command without a block
  commands : (constants begins : Bool) (xs us zs : List Token) → ¬ StartsWith NO_COMMAND xs → Seq (ACallee free) (λ us zs. SomeBare nested ih turns free false us zs × Fits xs us) us zs → LikeValue constants free begins us zs
  commands constants begins xs us zs none h = (_, Command _ _ _ _ _ _ _ _ _ h.first.1 (fits-command xs h.mid none h.second.1) h.second.0.1 h.second.0.2 (NoDo _ _) (inl refl), λ none. noded _ _ (rolls-Command h.first.0 h.second.0.0 None (across (span_of h.first.0) (block_or (span_of_arguments (span_of h.first.0) h.second.0.0) None))))

  -- with what stands after it
  blocks : (constants begins : Bool) (xs : List Token) (given : List (Argument Tree)) (us zs : List Token) → ¬ StartsWith NO_COMMAND xs → Seq (Seq (ACallee free) (λ us zs. Bare nested ih turns free false given us zs × Fits xs us)) (Commanded nested ih turns free given) us zs → LikeValue constants free begins us zs
  blocks constants begins xs given us zs none h =
      let c = h.first.first in
      let a = h.first.second in
      (_, Command _ _ _ _ _ _ _ _ _ c.1 (fits-command xs h.first.mid none a.1) a.0.1 a.0.2 h.second.1 (⊎_elim (λ e. inl e) (λ e. inr (a.0.3 e)) h.second.2), λ none. noded _ _ (rolls-Command _ _ _ _))

  command-goes : (constants : Bool) (all : List Token) (callee : Tree) (xs : List Token) → ¬ StartsWith NO_COMMAND xs → Reach all xs (ACallee free) → Liking all (command nested turns free callee xs) (LikeValue constants free)
  unfolding command
  command-goes constants all callee xs none r = bind (bare-goes nested ih turns free xs) (λ rest q. complete-as (complete-after r (complete-fits q)) (λ us zs h. commands constants true xs us zs none h))
      (λ given ps m. let ra = reach-more r (reach-fits m) in
      bind (command-block-goes nested ih turns free given.0 ps) (λ rest q. complete-as (complete-after ra q) (λ us zs h. blocks constants true xs given.0 us zs none h))
      (λ b ys k. record { told = reach-as (reach-more ra k) (λ us zs h. blocks constants _ xs given.0 us zs none h) }))

  rest-goes : (constants : Bool) (all : List Token) (first : Tree) (e : Ending) (xs : List Token) → Reach all xs (Post nested ih turns free (is_begin first) e) → Liking all (operators.tern_after nested turns free first xs) (LikeValue constants free)
  rest-goes constants all first e xs r = goes-as (after-goes nested ih turns free all first xs (reach-as r (λ us zs h. h.0))) (λ t ys m. reach-as m (λ us zs h. (_, Term _ _ _ _ _ h.1, h.2))) (λ rest q. complete-as q (λ us zs h. (_, Term _ _ _ _ _ h.1, h.2)))

  other-goes : (constants : Bool) (all : List Token) (first : Tree) (e : Ending) (xs : List Token) → Reach all xs (Post nested ih turns free (is_begin first) e) → Liking all (followed_by nested turns free first (other_follower e (peek xs)) xs) (LikeValue constants free)
  other-goes constants all first e xs r = go (is_callee e && begin_arguments (peek xs)) refl
    where
      go : (b : Bool) → (is_callee e && begin_arguments (peek xs)) ≡ b → Liking all (followed_by nested turns free first (if b then follower.Arguments else follower.Operators) xs) (LikeValue constants free)
      go true k = command-goes constants all first xs (no-command xs (and-right (is_callee e) _ k)) (reach-as r (λ us zs h. callee-of e us zs h.1 (and-left _ _ k)))
      go false k = rest-goes constants all first e xs r

  operator-goes : (constants : Bool) (all : List Token) (first : Tree) (e : Ending) (o : Token) (os : List Token) → Reach all (o ∷ os) (Post nested ih turns free (is_begin first) e) → (operator : Option Binary) → Assigning (shape_of o.kind) operator →
      Liking all (followed_by nested turns free first (operator_follower e (Some (shape_of o.kind)) operator) (o ∷ os)) (LikeValue constants free)
  operator-goes constants all first e o os r None row = other-goes constants all first e (o ∷ os) r
  operator-goes constants all first e o os r (Some operator) row = go (is_target e) refl
    where
      go : (b : Bool) → is_target e ≡ b → Liking all (followed_by nested turns free first (if b then follower.Operator operator else follower.Operators) (o ∷ os)) (LikeValue constants free)
      go true k = computed-goes constants all first operator o os row (reach-as r (λ us zs h. target-of e us zs h.1 k false))
      go false k = rest-goes constants all first e (o ∷ os) r

  assign-goes : (constants : Bool) (all : List Token) (first : Tree) (e : Ending) (xs : List Token) → Reach all xs (Post nested ih turns free (is_begin first) e) → (b : Bool) → is_plain_target constants e ≡ b → Liking all (followed_by nested turns free first (if b then follower.Value else follower.Operators) xs) (LikeValue constants free)
  assign-goes constants all first e xs r true k = assigned-goes constants all first xs (reach-as r (λ us zs h. plain-target-of constants e us zs h.1 k))
  assign-goes constants all first e xs r false k = rest-goes constants all first e xs r

  follower-goes : (constants : Bool) (all : List Token) (first : Tree) (e : Ending) (s : Shape) (o : Token) (os : List Token) → Is s o → Reach all (o ∷ os) (Post nested ih turns free (is_begin first) e) →
      Liking all (followed_by nested turns free first (operator_follower e (Some (shape_of o.kind)) (assigning_of (Some (shape_of o.kind)))) (o ∷ os)) (LikeValue constants free) →
      Liking all (followed_by nested turns free first (follower_by constants e (Some s)) (o ∷ os)) (LikeValue constants free)
  follower-goes constants all first e shape.Assign o os is r k = assign-goes constants all first e (o ∷ os) r (is_plain_target constants e) refl
  follower-goes constants all first e s o os is r k = subst (λ s. Liking all (followed_by nested turns free first (operator_follower e (Some s) (assigning_of (Some s))) (o ∷ os)) (LikeValue constants free)) is k

  followed-goes : (constants : Bool) (all : List Token) (first : Tree) (xs : List Token) → Reach all xs (Post nested ih turns free (is_begin first) (ending_of first)) → Liking all (followed nested turns free constants first xs) (LikeValue constants free)
  unfolding followed follower_of
  followed-goes constants all first [] r = other-goes constants all first (ending_of first) [] r
  followed-goes constants all first (o ∷ os) r = follower-goes constants all first (ending_of first) (shape_of o.kind) o os refl r
      (operator-goes constants all first (ending_of first) o os r (assigning_of (Some (shape_of o.kind))) (assigning (shape_of o.kind)))

  like-value-goes : (constants : Bool) (xs : List Token) → Liking xs (spec.value nested turns free constants xs) (LikeValue constants free)
  unfolding spec.value from_operand
  like-value-goes constants xs = choosing (has_prefix xs)
      (λ e. goes-as (like-tern-goes nested ih turns free xs) (λ t ys r. reach-as r (λ us zs h. (_, Term _ _ _ _ _ h.1, h.2))) (λ rest q. complete-as q (λ us zs h. (_, Term _ _ _ _ _ h.1, h.2))))
      (λ e. bind (post-goes nested ih turns free xs) (λ rest q. complete-as q (λ us zs h. (_, Term _ _ _ _ _ (negated-term (_, Plainly _ _ _ _ h.0.1)).1, like-any _))) (λ first ps r. followed-goes constants xs first ps r))

  pub value-goes : (constants : Bool) (xs : List Token) → Plain xs (spec.value nested turns free constants xs) (AValue constants free)
  value-goes constants xs = liking {D = LikeValue constants free} (like-value-goes constants xs) (λ begins us zs h. (h.0, h.1))

  -- ---- statements

  -- the value of a jump, or none
  abbrev JumpValue : Rel
  JumpValue = Perhaps (λ us zs. (¬ StartsWith MODIFIERS us) × AValue false free us zs)

  jump-value-goes : (xs : List Token) → Plain xs (jump_value nested turns free xs) JumpValue
  unfolding jump_value
  jump-value-goes xs = choosing (has_value xs)
      (λ e. goes-as (answering Some (ih.value free xs)) (λ t ys r. reach-as (reach-fits r) (λ us zs h. inr (fits-modifier xs us (no-modifier xs e) h.1, h.0)))
      (λ rest q. complete-as (complete-fits q) (λ us zs h. inr (fits-modifier xs us (no-modifier xs e) h.1, h.0))))
      (λ e. nothing None xs)

  jumps : (constants begins : Bool) (word : Jump) (j : Token) → IsRow JUMP_WORDS (shape_of j.kind) word → (us zs : List Token) → JumpValue us zs → LikeSimple constants free begins (j ∷ us) zs
  jumps constants begins word j row us zs (inl e) = subst (λ v. LikeSimple constants free begins (j ∷ us) v) e (_, Jumps _ _ _ _ _ row, λ none. noded _ _ (rolls-Jump word None j.span))
  jumps constants begins word j row us zs (inr h) = (_, JumpsWith _ _ _ _ _ _ _ row h.0 h.1.1, λ none. noded _ _ (rolls-Jump word (Some h.1.0) (across j.span (span_of h.1.0))))

  jump-goes : (constants : Bool) (word : Jump) (j : Token) (js : List Token) → IsRow JUMP_WORDS (shape_of j.kind) word → Liking (j ∷ js) (spec.jump nested turns free word (j ∷ js)) (LikeSimple constants free)
  unfolding spec.jump
  jump-goes constants word j js row = goes-as (answering _ (jump-value-goes js)) (λ t ys r. reach-token j (reach-as r (jumps constants (is_begin t) word j row))) (λ rest q. complete-token j (complete-as q (jumps constants true word j row)))

  valued : (constants : Bool) (xs : List Token) → Liking xs (spec.value nested turns free constants xs) (LikeSimple constants free)
  valued constants xs = goes-as (like-value-goes constants xs) (λ t ys r. reach-as r (λ us zs h. (_, Valued _ _ _ _ _ h.1, h.2))) (λ rest q. complete-as q (λ us zs h. (_, Valued _ _ _ _ _ h.1, h.2)))

  simple-by' : (constants : Bool) (j : Token) (js : List Token) (word : Option Jump) → Jumping (shape_of j.kind) word → Liking (j ∷ js) (simple_by nested turns free constants word (j ∷ js)) (LikeSimple constants free)
  simple-by' constants j js None row = valued constants (j ∷ js)
  simple-by' constants j js (Some word) row = jump-goes constants word j js row

  pub like-simple-goes : (constants : Bool) (xs : List Token) → Liking xs (simple nested turns free constants xs) (LikeSimple constants free)
  unfolding simple
  like-simple-goes constants [] = valued constants []
  like-simple-goes constants (j ∷ js) = simple-by' constants j js (jump_of (Some (shape_of j.kind))) (jumping (shape_of j.kind))

  pub simple-goes : (constants : Bool) (xs : List Token) → Plain xs (simple nested turns free constants xs) (ASimple constants free)
  simple-goes constants xs = liking {D = LikeSimple constants free} (like-simple-goes constants xs) (λ begins us zs h. (h.0, h.1))

  -- ---- modifiers

  -- after a statement that is a `begin` only where the flag says so
  abbrev pub WithModifiers : Bool → Rel
  WithModifiers begins us zs = (s : Tree) → Like begins s → (t : Tree) × DerivesModified free s t us zs

  unmodified : (begins : Bool) (zs : List Token) → WithModifiers begins zs zs
  unmodified begins zs s l = (s, Unmodified _ _ _)

  pub modifiers-stand : (begins : Bool) → Stands (WithModifiers begins)
  modifiers-stand begins zs c = record { whole = zs; clear = c; derives = unmodified begins zs }

  modifies : (inner : Tree) (word : Modifier) (m : Token) → IsRow MODIFIER_WORDS (shape_of m.kind) word → MayModify word inner → (us zs : List Token) → Seq (ASimple false free) (WithModifiers false) us zs → WithModifiers (is_begin inner) (m ∷ us) zs
  modifies inner word m row may us zs h s l = (_, Modified _ _ _ _ _ _ _ _ _ row (⊎_elim (λ e. inl e) (λ e. inr (l e)) may) h.first.1 (h.second _ (λ none. noded _ _ (rolls-Modified _ _ _ _))).1)

  modifiers-by' : (n : ℕ) → ((inner : Tree) (xs : List Token) → Plain xs (modifiers_from nested turns free n inner xs) (WithModifiers (is_begin inner))) → (inner : Tree) (m : Token) (ms : List Token) (word : Option Modifier) → Modifying (shape_of m.kind) word →
      Plain (m ∷ ms) (modifiers_by nested turns free (modifiers_from nested turns free n) inner (allowed inner word) (m ∷ ms)) (WithModifiers (is_begin inner))
  unfolding modified
  modifiers-by' n again inner m ms None row = done inner (m ∷ ms) (unmodified (is_begin inner))
  modifiers-by' n again inner m ms (Some word) row = go (may_modify word inner) refl
    where
      go : (b : Bool) → may_modify word inner ≡ b → Plain (m ∷ ms) (modifiers_by nested turns free (modifiers_from nested turns free n) inner (if b then Some word else None) (m ∷ ms)) (WithModifiers (is_begin inner))
      go true e = headed m (plainly (seq (answering _ (ih.simple free ms)) (modifiers-stand false) (λ longer ps. plainly (again longer ps) (λ us zs k s l. k s (λ none. l refl)))) (modifies inner word m row (may word inner e)))
      go false e = done inner (m ∷ ms) (unmodified (is_begin inner))

  pub modifiers-go : (n : ℕ) (inner : Tree) (xs : List Token) → Plain xs (modifiers_from nested turns free n inner xs) (WithModifiers (is_begin inner))
  unfolding modifiers_from modifier_after
  modifiers-go zero inner xs = refusing xs (modifiers-stand (is_begin inner))
  modifiers-go (suc n) inner [] = done inner [] (unmodified (is_begin inner))
  modifiers-go (suc n) inner (m ∷ ms) = modifiers-by' n (modifiers-go n) inner m ms (modifier_of (Some (shape_of m.kind))) (modifying (shape_of m.kind))

  statement-made : (at : Site) (begins : Bool) (us zs : List Token) → Seq (LikeSimple (is_open at) free begins) (WithModifiers begins) us zs → AStatement at free us zs
  statement-made at begins us zs h = (_, Simply _ _ _ _ _ _ _ h.first.1 (h.second h.first.0 h.first.2).1)

  pub statement-goes : (at : Site) (xs : List Token) → Plain xs (statement nested turns free (is_open at) xs) (AStatement at free)
  unfolding statement modifiers
  statement-goes at xs = bind (like-simple-goes (is_open at) xs) (λ rest q. complete-as (complete-then q (modifiers-stand true)) (statement-made at true))
      (λ s ps r. goes-as (modifiers-go turns s ps) (λ t ys m. reach-as (reach-more r m) (statement-made at (is_begin s))) (λ rest q. complete-as (complete-after r q) (statement-made at (is_begin s))))

  -- ---- bodies

  -- statements are read, and where a `rescue` is next, a separator stands after them
  abbrev Rowed : Site → List Token → Outcome Tree → Type 0
  Rowed at xs o = Goes o (λ t ys. Reach xs ys (Row at free) × (sees shape.Rescue ys ≡ true → Reach xs ys (RowEnd at free))) (λ rest. Completes xs rest (Row at free))

  after-statement : (at : Site) (start end n : ℕ) (found : List Tree) (xs : List Token) → ((found : List Tree) (end : ℕ) (us : List Token) → Rowed at us (body_from nested turns free (is_open at) start end n found us)) → (s : Tree) (qs : List Token) → Reach xs qs (AStatement at free) →
      Rowed at xs (if sees shape.Separator qs then body_from nested turns free (is_open at) start end n (found ++ s ∷ []) (skip_separators qs) else ended (found ++ s ∷ []) (record { start = start; end = end }) qs)
  unfolding ended
  after-statement at start end n found xs again s [] r = record { told = (reach-as r (alone-row at free), λ e. absurd (cc)) }
  after-statement at start end n found xs again s (t ∷ ts) r = by (same_shape (shape_of t.kind) shape.Separator) refl
    where
      by : (b : Bool) → same_shape (shape_of t.kind) shape.Separator ≡ b →
          Rowed at xs (if b then body_from nested turns free (is_open at) start end n (found ++ s ∷ []) (if b then skip_separators ts else t ∷ ts) else ended (found ++ s ∷ []) (record { start = start; end = end }) (t ∷ ts))
      by true e =
          let one = reach-one shape.Separator t ts (same _ _ e) in
          let g = gap ts in
          goes-as (again (found ++ s ∷ []) end (skip_separators ts))
          (λ b ys m. (reach-as (reach-more r (reach-more one (reach-more g m.0))) (longer-row at free), λ e. reach-as (reach-more r (reach-more one (reach-more g (m.1 e)))) (longer-end at free)))
          (λ rest q. complete-as (complete-after r (complete-after one (complete-after g q))) (longer-row at free))
      by false e = choosing (sees shape.Rescue (t ∷ ts))
          (λ e. record { told = complete-as (complete-reach r) (alone-row at free) })
          (λ other. record { told = (reach-as r (alone-row at free), λ e. absurd (cc)) })

  body-by : (at : Site) (start end n : ℕ) (found : List Tree) (xs : List Token) → Rowed at xs (body_from nested turns free (is_open at) start end n found xs)
  unfolding body_from
  body-by at start end zero found xs = refusing xs perhaps-stands
  body-by at start end (suc n) found xs = choosing (begins_statement xs)
      (λ e. bind (statement-goes at xs) (λ rest q. complete-as q (alone-row at free)) (λ s qs r. after-statement at start (span_of s).end n found xs (λ found end us. body-by at start end n found us) s qs r))
      (λ e. record { told = (reach-as (reach-self xs) (λ us zs e. inl e), λ sees. reach-as (reach-self xs) (λ us zs e. inl e)) })

  pub body-goes : (at : Site) (xs : List Token) → Bodied at free xs (spec.body nested turns free (is_open at) xs)
  unfolding spec.body statements
  body-goes at xs = goes-as (body-by at (body_start (skip_separators xs)) 0 turns [] (skip_separators xs))
      (λ t ys m. (reach-as (reach-more (gap xs) m.0) (body-of at free), λ e. reach-as (reach-more (gap xs) (m.1 e)) (body-parted at free)))
      (λ rest q. complete-as (complete-after (gap xs) q) (body-of at free))
