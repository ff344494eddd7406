-- Statements that are read derive, and bodies of them.
use Rattle.std.proofs.Common.{◌≡◌, ℕ, zero, suc, Bool, true, false, not, ◌&&◌, if◌then◌else◌, List, [], ◌∷◌, ◌++◌, Option, Some, None, inl, inr, refl, sym, ap, subst, ◌∙◌, append_assoc, append-nil}
use Rattle.srb_terms.specs.declared.span.Span.{Span}
use Rattle.rb_tree.specs.Tokens.{shape_of}
use Rattle.rb_tree.specs.Trees.{span_of}
use Rattle.rb_tree.specs.declared.syntax.Argument.{Argument}
use Rattle.rb_tree.specs.declared.syntax.Argument.TheVariants as argument
use Rattle.rb_tree.specs.declared.syntax.Binary.{Binary}
use Rattle.rb_tree.specs.declared.syntax.Block.{Block}
use Rattle.rb_tree.specs.declared.syntax.Jump.{Jump}
use Rattle.rb_tree.specs.declared.syntax.Modifier.{Modifier}
use Rattle.rb_tree.specs.declared.syntax.Modifier.TheVariants as modifier
use Rattle.rb_tree.specs.declared.syntax.Tree.{Tree}
use Rattle.rb_tree.specs.declared.syntax.Node.{Node, out-Node}
use Rattle.rb_tree.specs.declared.syntax.Node.TheOpen.{Node-F}
use Rattle.rb_tree.specs.Nodes as tree
use Rattle.rb_tree.specs.declared.syntax.Node.TheVariants.{rolls-Assign, rolls-OperatorAssign, rolls-Command, rolls-Jump, rolls-Modified}
use Rattle.rb_tree.specs.declared.token.Token.{Token}
use Rattle.rb_tree.specs.declared.token.Shape.{Shape}
use Rattle.rb_tree.specs.declared.token.Shape.TheVariants as shape
use Rattle.rb_expr.specs.declared.form.Form.{Form}
use Rattle.rb_expr.specs.declared.ending.Ending.{Ending}
use Rattle.rb_expr.specs.declared.ending.Ending.TheVariants as ending
use Rattle.rb_expr.specs.declared.ending.Follower.TheVariants as follower
use Rattle.rb_expr.specs.Reading.{Parser, start_of, sees, peek, skip_separators}
use Rattle.rb_expr.specs.Lists.{end_with, end_of_argument}
use Rattle.rb_expr.specs.Shapes.{begins_value, begins_statement, has_value, has_prefix, jump_of, modifier_of, assigning_of}
use Rattle.rb_expr.specs.Operators as operators
use Rattle.rb_expr.specs.Statements.{ending_of, is_target, is_plain_target, is_callee, begin_arguments, other_follower, operator_follower, follower_by, follower_of, assigned, operator_assigned, command, followed_by, followed, from_operand, jump_value, simple_by, simple, modified, modifiers_by, modifiers_from, modifiers, may_modify, allowed, modifier_after, ended, statement, body_from, body_start, statements}
use Rattle.rb_expr.specs.Statements as spec
use Rattle.rb_rules.specs.Tokens.{Is, IsOneOf, StartsWith}
use Rattle.rb_rules.specs.Spans.{across, last_of, argument_span, block_or}
use Rattle.rb_rules.specs.Forms.{Site, is_open, ASSIGNMENTS, MODIFIERS, NO_COMMAND, is_begin_at, is_begin, MayModify, AreOrdered}
use Rattle.rb_rules.specs.Grammar.{Gap, IsRow, MODIFIER_WORDS, JUMP_WORDS, body_of, span_of_arguments, Parted, DerivesBody, DerivesMore, DerivesStatement, DerivesModified, DerivesSimple, DerivesValue, DerivesTarget, DerivesCallee, DerivesArguments, DerivesPrefixed}
use Rattle.rb_rules.specs.Grammar.Gap.{Closed, Wide}
use Rattle.rb_rules.specs.Grammar.Parted.{AfterNothing, AfterSeparator}
use Rattle.rb_rules.specs.Grammar.DerivesBody.{NoStatement, Statements}
use Rattle.rb_rules.specs.Grammar.DerivesMore.{NoMore, Another}
use Rattle.rb_rules.specs.Grammar.DerivesStatement.{Simply}
use Rattle.rb_rules.specs.Grammar.DerivesModified.{Unmodified, Modified}
use Rattle.rb_rules.specs.Grammar.DerivesSimple.{Valued, Jumps, JumpsWith}
use Rattle.rb_rules.specs.Grammar.DerivesValue.{Term, Assigns, Computes, Command}
use Rattle.rb_grammar.proofs.Steps.{Holds, answered, refused, step, weaker, choosing, same, follow, Within, within-self, within-token, within-more, gap}
use Rattle.rb_grammar.proofs.Sound.{Sound, Starts, Uses, starts}
use Rattle.rb_grammar.proofs.Lists.{and-left, and-right}
use Rattle.rb_grammar.proofs.Calls.{BareRow, bare-holds, Commanded, command-block-holds}
use Rattle.rb_grammar.proofs.Suffixes.{post-holds}
use Rattle.rb_grammar.proofs.Operators.{tern-holds, after-holds}

-- ---- tables of words and operators

abbrev Assigning : Shape → Option Binary → Type 0
Assigning s None = Unit {0}
Assigning s (Some operator) = IsRow ASSIGNMENTS s operator

assigning : (s : Shape) → Assigning s (assigning_of (Some s))
assigning shape.PlusAssign = inl (refl, refl)
assigning shape.MinusAssign = inr (inl (refl, refl))
assigning shape.StarAssign = inr (inr (inl (refl, refl)))
assigning shape.SlashAssign = inr (inr (inr (inl (refl, refl))))
assigning shape.PercentAssign = inr (inr (inr (inr (inl (refl, refl)))))
assigning shape.PowerAssign = inr (inr (inr (inr (inr (inl (refl, refl))))))
assigning shape.OrAssign = inr (inr (inr (inr (inr (inr (inl (refl, refl)))))))
assigning shape.AndAssign = inr (inr (inr (inr (inr (inr (inr (inl (refl, refl))))))))
assigning shape.PipeAssign = inr (inr (inr (inr (inr (inr (inr (inr (inl (refl, refl)))))))))
assigning shape.AmpersandAssign = inr (inr (inr (inr (inr (inr (inr (inr (inr (inl (refl, refl))))))))))
assigning shape.CaretAssign = inr (inr (inr (inr (inr (inr (inr (inr (inr (inr (inl (refl, refl)))))))))))
assigning shape.ShiftLeftAssign = inr (inr (inr (inr (inr (inr (inr (inr (inr (inr (inr (inl (refl, refl))))))))))))
assigning shape.ShiftRightAssign = inr (inr (inr (inr (inr (inr (inr (inr (inr (inr (inr (inr (inl (refl, refl)))))))))))))
assigning s = tt

abbrev Jumping : Shape → Option Jump → Type 0
Jumping s None = Unit {0}
Jumping s (Some word) = IsRow JUMP_WORDS s word

jumping : (s : Shape) → Jumping s (jump_of (Some s))
jumping shape.Return = inl (refl, refl)
jumping shape.Break = inr (inl (refl, refl))
jumping shape.Next = inr (inr (inl (refl, refl)))
jumping s = tt

abbrev Modifying : Shape → Option Modifier → Type 0
Modifying s None = Unit {0}
Modifying s (Some word) = IsRow MODIFIER_WORDS s word

modifying : (s : Shape) → Modifying s (modifier_of (Some s))
modifying shape.If = inl (refl, refl)
modifying shape.Unless = inr (inl (refl, refl))
modifying shape.While = inr (inr (inl (refl, refl)))
modifying shape.Until = inr (inr (inr (inl (refl, refl))))
modifying s = tt

-- a modifier that may stand after the statement
abbrev Allowing : Tree → Shape → Option Modifier → Type 0
Allowing inner s None = Unit {0}
Allowing inner s (Some word) = IsRow MODIFIER_WORDS s word × MayModify word inner

same-begin-at : (r : Node-F Node Tree) → spec.is_begin_at r ≡ is_begin_at r
same-begin-at (Node-F.Begin guarded span) = refl
same-begin-at r = refl

pub same-begin : (t : Tree) → spec.is_begin t ≡ is_begin t
unfolding spec.is_begin is_begin
same-begin t = same-begin-at (out-Node t.node)

not-true : (b : Bool) → not b ≡ true → b ≡ false
not-true true e = absurd (cc)
not-true false e = refl

may : (word : Modifier) (inner : Tree) → may_modify word inner ≡ true → MayModify word inner
unfolding may_modify
may modifier.If inner e = inl refl
may modifier.Unless inner e = inl refl
may modifier.While inner e = inr (sym (same-begin inner) ∙ not-true (spec.is_begin inner) e)
may modifier.Until inner e = inr (sym (same-begin inner) ∙ not-true (spec.is_begin inner) e)

allowing : (inner : Tree) (s : Shape) (o : Option Modifier) → Modifying s o → Allowing inner s (allowed inner o)
allowing inner s None row = tt
allowing inner s (Some word) row = go (may_modify word inner) refl
  where
    go : (b : Bool) → may_modify word inner ≡ b → Allowing inner s (if b then Some word else None)
    go true e = (row, may word inner e)
    go false e = tt

-- the test fails on each of the list
abbrev AllFail : (Shape → Bool) → List Shape → Type 0
AllFail test [] = Unit {0}
AllFail test (s ∷ ss) = (test s ≡ false) × AllFail test ss

none-of : (test : Shape → Bool) (ss : List Shape) → AllFail test ss → (s : Shape) → test s ≡ true → IsOneOf ss s → ⊥
none-of test [] each s e h = h
none-of test (x ∷ ss) each s e (inl is) = let one : test s ≡ test x = ap test is in let other = each.0 in absurd (cc)
none-of test (x ∷ ss) each s e (inr h) = none-of test ss each.1 s e h

no-command : (xs : List Token) → begin_arguments (peek xs) ≡ true → ¬ StartsWith NO_COMMAND xs
no-command [] e h = h
no-command (t ∷ ts) e h = none-of (λ s. begin_arguments (Some s)) NO_COMMAND (refl, (refl, (refl, (refl, (refl, (refl, (refl, (refl, (refl, (refl, (refl, (refl, (refl, (refl, (refl, (refl, tt)))))))))))))))) (shape_of t.kind) e h

no-modifier : (xs : List Token) → has_value xs ≡ true → ¬ StartsWith MODIFIERS xs
unfolding has_value
no-modifier [] e h = h
no-modifier (t ∷ ts) e h = none-of begins_value MODIFIERS (refl, (refl, (refl, (refl, tt)))) (shape_of t.kind) e h

argument-end : (a : Argument Tree) → end_of_argument a ≡ (argument_span a).end
unfolding end_of_argument
argument-end (argument.Positional v) = refl
argument-end (argument.Keyword n s v) = refl
argument-end (argument.Block s v) = refl

command-end : (c : Span) (a : Argument Tree) (more : List (Argument Tree)) (end : ℕ) (b : Option (Block Tree)) → end ≡ end_of_argument (last_of a more) → end_with b end ≡ (block_or (span_of_arguments c (a ∷ more)) b).end
command-end c a more end None e = e ∙ argument-end (last_of a more)
command-end c a more end (Some b) e = refl

module _ (nested : Form → Bool → Parser Tree) (ih : Sound nested) (turns : ℕ) (free : Bool) where
  abbrev Value : Bool → List Token → Tree → List Token → Type 0
  Value constants all t ys = DerivesValue constants free t all ys × Within all ys × Starts t all

  -- ---- what follows an operand

  target-of : (e : Ending) (t : Tree) (all xs : List Token) → Uses e free t all xs → is_target e ≡ true → (constants : Bool) → DerivesTarget constants free t all xs
  target-of ending.Name t all xs u h constants = u.0 constants
  target-of ending.Target t all xs u h constants = u constants
  target-of ending.Callee t all xs u h constants = absurd (cc)
  target-of ending.Constant t all xs u h constants = absurd (cc)
  target-of ending.Other t all xs u h constants = absurd (cc)

  plain-target-of : (constants : Bool) (e : Ending) (t : Tree) (all xs : List Token) → Uses e free t all xs → is_plain_target constants e ≡ true → DerivesTarget constants free t all xs
  plain-target-of constants ending.Name t all xs u h = u.0 constants
  plain-target-of constants ending.Target t all xs u h = u constants
  plain-target-of constants ending.Callee t all xs u h = absurd (cc)
  plain-target-of constants ending.Constant t all xs u h = subst (λ c. DerivesTarget c free t all xs) (sym h) u
  plain-target-of constants ending.Other t all xs u h = absurd (cc)

  callee-of : (e : Ending) (t : Tree) (all xs : List Token) → Uses e free t all xs → is_callee e ≡ true → DerivesCallee free t all xs
  callee-of ending.Name t all xs u h = u.1
  callee-of ending.Target t all xs u h = absurd (cc)
  callee-of ending.Callee t all xs u h = u
  callee-of ending.Constant t all xs u h = absurd (cc)
  callee-of ending.Other t all xs u h = absurd (cc)

  assigned-holds : (constants : Bool) (all : List Token) (first : Tree) (xs : List Token) → DerivesTarget constants free first all xs → Within all xs → Starts first all → Holds (assigned nested turns free first xs) (Value constants all)
  unfolding assigned operators.across
  assigned-holds constants all first xs d w s = follow shape.Assign (λ xs. DerivesTarget constants free first all xs × Within all xs) _ _ _ (d, w) (λ e es is d. step (ih.value free es) (λ v ys h.
      answered (Value constants all) _ ys (Assigns _ _ _ _ _ _ _ _ d.0 is h.0, within-more d.1 (within-token e h.1), starts _ _ _ (rolls-Assign _ _ _) s)))

  computed-holds : (constants : Bool) (all : List Token) (first : Tree) (operator : Binary) (o : Token) (os : List Token) → IsRow ASSIGNMENTS (shape_of o.kind) operator → DerivesTarget false free first all (o ∷ os) → Within all (o ∷ os) → Starts first all → Holds (operator_assigned nested turns free operator first (o ∷ os)) (Value constants all)
  unfolding operator_assigned operators.across
  computed-holds constants all first operator o os row d w s = step (ih.value free os) (λ v ys h.
      answered (Value constants all) _ ys (Computes _ _ _ _ _ _ _ _ _ d row h.0, within-more w (within-token o h.1), starts _ _ _ (rolls-OperatorAssign _ _ _ _ _) s))

  command-made : (constants : Bool) (all : List Token) (callee : Tree) (xs ps : List Token) (a : Argument Tree) (more : List (Argument Tree)) (end : ℕ) → DerivesCallee free callee all xs → ¬ StartsWith NO_COMMAND xs → Within all xs → Starts callee all →
      DerivesArguments false false (a ∷ more) xs ps → AreOrdered (a ∷ more) → Within xs ps → end ≡ end_of_argument (last_of a more) → (b : Option (Block Tree)) (ys : List Token) → Commanded nested ih turns free (a ∷ more) ps b ys →
      Value constants all (tree.Command callee (a ∷ more) b (record { start = (span_of callee).start; end = end_with b end })) ys
  command-made constants all callee xs ps a more end c free' w s as' ordered w2 e b ys h =
      subst (λ end. Value constants all (tree.Command callee (a ∷ more) b (record { start = (span_of callee).start; end = end })) ys) (sym (command-end (span_of callee) a more end b e))
      (Command _ _ _ _ _ _ _ _ _ c free' as' ordered h.0 h.1, within-more w (within-more w2 h.2), starts _ _ _ (rolls-Command callee (a ∷ more) b (across (span_of callee) (block_or (span_of_arguments (span_of callee) (a ∷ more)) b))) s)

  command-by : (constants : Bool) (all : List Token) (callee : Tree) (xs ps : List Token) (given : List (Argument Tree)) (end : ℕ) → DerivesCallee free callee all xs → ¬ StartsWith NO_COMMAND xs → Within all xs → Starts callee all →
      (m : BareRow nested ih turns free false [] xs (given, end) ps) → (b : Option (Block Tree)) (ys : List Token) → Commanded nested ih turns free given ps b ys →
      Value constants all (tree.Command callee given b (record { start = (span_of callee).start; end = end_with b end })) ys
  command-by constants all callee xs ps given end c free' w s m b ys =
      subst (λ given. Commanded nested ih turns free given ps b ys → Value constants all (tree.Command callee given b (record { start = (span_of callee).start; end = end_with b end })) ys) (sym m.2)
      (λ h. command-made constants all callee xs ps m.0 m.1 end c free' w s m.4 m.5 m.6 m.3 b ys h)

  command-holds : (constants : Bool) (all : List Token) (callee : Tree) (xs : List Token) → DerivesCallee free callee all xs → ¬ StartsWith NO_COMMAND xs → Within all xs → Starts callee all → Holds (command nested turns free callee xs) (Value constants all)
  unfolding command
  command-holds constants all callee xs c free' w s = step (bare-holds nested ih turns free xs) (λ r ps m. step (command-block-holds nested ih turns free r.0 (subst AreOrdered (sym m.2) m.5) ps) (λ b ys h.
      answered (Value constants all) _ ys (command-by constants all callee xs ps r.0 r.1 c free' w s m b ys h)))

  -- an operand, and what it may be used as
  abbrev Operand : List Token → Tree → Ending → List Token → Type 0
  Operand all t e xs = DerivesPrefixed free t all xs × Within all xs × Starts t all × Uses e free t all xs

  rest-holds : (constants : Bool) (all : List Token) (first : Tree) (e : Ending) (xs : List Token) → Operand all first e xs → Holds (operators.tern_after nested turns free first xs) (Value constants all)
  rest-holds constants all first e xs h = weaker (after-holds nested ih turns free all first xs (h.0, h.1, h.2)) (λ t ys k. (Term _ _ _ _ _ k.0, k.1, k.2))

  other-holds : (constants : Bool) (all : List Token) (first : Tree) (e : Ending) (xs : List Token) → Operand all first e xs → Holds (followed_by nested turns free first (other_follower e (peek xs)) xs) (Value constants all)
  other-holds constants all first e xs h = go (is_callee e && begin_arguments (peek xs)) refl
    where
      go : (b : Bool) → (is_callee e && begin_arguments (peek xs)) ≡ b → Holds (followed_by nested turns free first (if b then follower.Arguments else follower.Operators) xs) (Value constants all)
      go true k = command-holds constants all first xs (callee-of e first all xs h.3 (and-left _ _ k)) (no-command xs (and-right (is_callee e) _ k)) h.1 h.2
      go false k = rest-holds constants all first e xs h

  operator-holds : (constants : Bool) (all : List Token) (first : Tree) (e : Ending) (o : Token) (os : List Token) → Operand all first e (o ∷ os) → (operator : Option Binary) → Assigning (shape_of o.kind) operator →
      Holds (followed_by nested turns free first (operator_follower e (Some (shape_of o.kind)) operator) (o ∷ os)) (Value constants all)
  operator-holds constants all first e o os h None row = other-holds constants all first e (o ∷ os) h
  operator-holds constants all first e o os h (Some operator) row = go (is_target e) refl
    where
      go : (b : Bool) → is_target e ≡ b → Holds (followed_by nested turns free first (if b then follower.Operator operator else follower.Operators) (o ∷ os)) (Value constants all)
      go true k = computed-holds constants all first operator o os row (target-of e first all (o ∷ os) h.3 k false) h.1 h.2
      go false k = rest-holds constants all first e (o ∷ os) h

  assign-holds : (constants : Bool) (all : List Token) (first : Tree) (e : Ending) (xs : List Token) → Operand all first e xs → (b : Bool) → is_plain_target constants e ≡ b →
      Holds (followed_by nested turns free first (if b then follower.Value else follower.Operators) xs) (Value constants all)
  assign-holds constants all first e xs h true k = assigned-holds constants all first xs (plain-target-of constants e first all xs h.3 k) h.1 h.2
  assign-holds constants all first e xs h false k = rest-holds constants all first e xs h

  follower-holds : (constants : Bool) (all : List Token) (first : Tree) (e : Ending) (s : Shape) (o : Token) (os : List Token) → Is s o → Operand all first e (o ∷ os) →
      Holds (followed_by nested turns free first (operator_follower e (Some (shape_of o.kind)) (assigning_of (Some (shape_of o.kind)))) (o ∷ os)) (Value constants all) →
      Holds (followed_by nested turns free first (follower_by constants e (Some s)) (o ∷ os)) (Value constants all)
  follower-holds constants all first e shape.Assign o os is h k = assign-holds constants all first e (o ∷ os) h (is_plain_target constants e) refl
  follower-holds constants all first e s o os is h k = subst (λ s. Holds (followed_by nested turns free first (operator_follower e (Some s) (assigning_of (Some s))) (o ∷ os)) (Value constants all)) is k

  followed-holds : (constants : Bool) (all : List Token) (first : Tree) (xs : List Token) → Operand all first (ending_of first) xs → Holds (followed nested turns free constants first xs) (Value constants all)
  unfolding followed follower_of
  followed-holds constants all first [] h = other-holds constants all first (ending_of first) [] h
  followed-holds constants all first (o ∷ os) h = follower-holds constants all first (ending_of first) (shape_of o.kind) o os refl h
      (operator-holds constants all first (ending_of first) o os h (assigning_of (Some (shape_of o.kind))) (assigning (shape_of o.kind)))

  pub value-holds : (constants : Bool) (xs : List Token) → Holds (spec.value nested turns free constants xs) (Value constants xs)
  unfolding spec.value from_operand
  value-holds constants xs = choosing (has_prefix xs)
      (λ e. weaker (tern-holds nested ih turns free xs) (λ t ys k. (Term _ _ _ _ _ k.0, k.1, k.2)))
      (λ e. step (post-holds nested ih turns free xs) (λ first ps h. followed-holds constants xs first ps h))

  -- ---- statements

  abbrev Simple : Bool → List Token → Tree → List Token → Type 0
  Simple constants all t ys = DerivesSimple constants free t all ys × Within all ys × Starts t all

  -- the value of a jump, or none, and then nothing is read
  abbrev JumpValue : List Token → Option Tree → List Token → Type 0
  JumpValue xs None ys = xs ≡ ys
  JumpValue xs (Some v) ys = (¬ StartsWith MODIFIERS xs) × DerivesValue false free v xs ys × Within xs ys

  jump-value-holds : (xs : List Token) → Holds (jump_value nested turns free xs) (JumpValue xs)
  unfolding jump_value
  jump-value-holds xs = choosing (has_value xs)
      (λ e. step (ih.value free xs) (λ v ys h. answered (JumpValue xs) (Some v) ys (no-modifier xs e, h.0, h.1)))
      (λ e. answered (JumpValue xs) None xs refl)

  jump-made : (constants : Bool) (word : Jump) (j : Token) (js : List Token) → IsRow JUMP_WORDS (shape_of j.kind) word → (o : Option Tree) (ys : List Token) → JumpValue js o ys → Simple constants (j ∷ js) (tree.Jump word o (record { start = j.span.start; end = spec.end_or j.span.end o })) ys
  jump-made constants word j js row None ys e = subst (λ zs. Simple constants (j ∷ js) (tree.Jump word None j.span) zs) e (Jumps _ _ _ _ _ row, within-token j (within-self _), starts _ _ _ (rolls-Jump word None j.span) refl)
  jump-made constants word j js row (Some v) ys h = (JumpsWith _ _ _ _ _ _ _ row h.0 h.1, within-token j h.2, starts _ _ _ (rolls-Jump word (Some v) (across j.span (span_of v))) refl)

  jump-holds : (constants : Bool) (word : Jump) (j : Token) (js : List Token) → IsRow JUMP_WORDS (shape_of j.kind) word → Holds (spec.jump nested turns free word (j ∷ js)) (Simple constants (j ∷ js))
  unfolding spec.jump
  jump-holds constants word j js row = step (jump-value-holds js) (λ o ys h. answered (Simple constants (j ∷ js)) _ ys (jump-made constants word j js row o ys h))

  simple-by : (constants : Bool) (j : Token) (js : List Token) (word : Option Jump) → Jumping (shape_of j.kind) word → Holds (simple_by nested turns free constants word (j ∷ js)) (Simple constants (j ∷ js))
  simple-by constants j js None row = weaker (value-holds constants (j ∷ js)) (λ t ys h. (Valued _ _ _ _ _ h.0, h.1, h.2))
  simple-by constants j js (Some word) row = jump-holds constants word j js row

  pub simple-holds : (constants : Bool) (xs : List Token) → Holds (simple nested turns free constants xs) (Simple constants xs)
  unfolding simple
  simple-holds constants [] = weaker (value-holds constants []) (λ t ys h. (Valued _ _ _ _ _ h.0, h.1, h.2))
  simple-holds constants (j ∷ js) = simple-by constants j js (jump_of (Some (shape_of j.kind))) (jumping (shape_of j.kind))

  -- ---- modifiers

  abbrev pub WithModifiers : Tree → List Token → Tree → List Token → Type 0
  WithModifiers inner xs t ys = DerivesModified free inner t xs ys × Within xs ys × ((span_of t).start ≡ (span_of inner).start)

  modifiers-by : (n : ℕ) → ((inner : Tree) (xs : List Token) → Holds (modifiers_from nested turns free n inner xs) (WithModifiers inner xs)) → (inner : Tree) (m : Token) (ms : List Token) (word : Option Modifier) → Allowing inner (shape_of m.kind) word →
      Holds (modifiers_by nested turns free (modifiers_from nested turns free n) inner word (m ∷ ms)) (WithModifiers inner (m ∷ ms))
  unfolding modified operators.across
  modifiers-by n again inner m ms None row = answered (WithModifiers inner (m ∷ ms)) inner (m ∷ ms) (Unmodified _ _ _, within-self _, refl)
  modifiers-by n again inner m ms (Some word) row = step {P = λ longer ps. (c : Tree) × (longer ≡ tree.Modified inner word c (across (span_of inner) (span_of c))) × DerivesSimple false free c ms ps × Within ms ps}
      (step (ih.simple free ms) (λ c ps h. answered _ _ ps (c, refl, h.0, h.1)))
      (λ longer ps h. weaker (again longer ps) (λ t ys k.
      let d = subst (λ l. DerivesModified free l t ps ys) h.1 k.0 in
      let s = subst (λ l. (span_of t).start ≡ (span_of l).start) h.1 k.2 in
      (Modified _ _ _ _ _ _ _ _ _ row.0 row.1 h.2 d, within-token m (within-more h.3 k.1), s ∙ starts _ _ _ (rolls-Modified inner word h.0 (across (span_of inner) (span_of h.0))) refl)))

  pub modifiers-from : (n : ℕ) (inner : Tree) (xs : List Token) → Holds (modifiers_from nested turns free n inner xs) (WithModifiers inner xs)
  unfolding modifiers_from modifier_after
  modifiers-from zero inner xs = refused _ _
  modifiers-from (suc n) inner [] = answered (WithModifiers inner []) inner [] (Unmodified _ _ _, within-self _, refl)
  modifiers-from (suc n) inner (m ∷ ms) = modifiers-by n (modifiers-from n) inner m ms (allowed inner (modifier_of (Some (shape_of m.kind)))) (allowing inner (shape_of m.kind) (modifier_of (Some (shape_of m.kind))) (modifying (shape_of m.kind)))

  abbrev pub Statement : Site → List Token → Tree → List Token → Type 0
  Statement at all t ys = DerivesStatement at free t all ys × Within all ys × Starts t all

  pub statement-holds : (at : Site) (xs : List Token) → Holds (statement nested turns free (is_open at) xs) (Statement at xs)
  unfolding statement modifiers
  statement-holds at xs = step (simple-holds (is_open at) xs) (λ s ps h. weaker (modifiers-from turns s ps) (λ t ys k. (Simply _ _ _ _ _ _ _ h.0 k.0, within-more h.1 k.1, k.2 ∙ h.2)))

  -- ---- bodies

  -- where the last of some statements ends, or the number
  abbrev end_by : ℕ → List Tree → ℕ
  end_by end [] = end
  end_by end (s ∷ ss) = end_by (span_of s).end ss

  last-end : (s : Tree) (ss : List Tree) → end_by (span_of s).end ss ≡ (span_of (last_of s ss)).end
  last-end s [] = refl
  last-end s (t ∷ ss) = last-end t ss

  -- before a `rescue` the last of these separators may be left
  abbrev Divided : List Token → List Token → Type 0
  Divided rs ys = sees shape.Rescue ys ≡ true → (t : Token) × Is shape.Separator t × Gap rs (t ∷ ys)

  last-separator : (t : Token) (ts zs : List Token) → Is shape.Separator t → Gap ts zs → (u : Token) × Is shape.Separator u × Gap (t ∷ ts) (u ∷ zs)
  last-separator t ts zs is (Closed _) = (t, is, Closed _)
  last-separator t ts zs is (Wide u us _ is2 g) = let r = last-separator u us zs is2 g in (r.0, r.1, Wide _ _ _ is r.2)

  -- statements from here on, and what is left after them and separators
  abbrev Row : Site → List Token → List Tree → List Token → Type 0
  Row at xs [] ys = (begins_statement xs ≡ false) × (xs ≡ ys)
  Row at xs (s ∷ ss) ys = (qs rs : List Token) × (begins_statement xs ≡ true) × DerivesStatement at free s xs qs × DerivesMore at free ss qs rs × Gap rs ys × Starts s xs × Divided rs ys

  abbrev Rest : Site → ℕ → ℕ → List Tree → List Token → Tree → List Token → Type 0
  Rest at start end found xs t ys = (ss : List Tree) × (t ≡ tree.Body (found ++ ss) (record { start = start; end = end_by end ss })) × Row at xs ss ys × Within xs ys

  -- after separators
  parted : (qs : List Token) → sees shape.Separator qs ≡ true → (t : Token) × (ts : List Token) × (qs ≡ t ∷ ts) × Is shape.Separator t × Gap ts (skip_separators qs)
  parted [] e = absurd (cc)
  parted (t ∷ ts) e = (t, ts, refl, same _ _ e, subst (λ zs. Gap ts zs) (ap (λ b. if b then skip_separators ts else t ∷ ts) (sym e)) (gap ts).0)

  row-more : (at : Site) (t : Token) (ts zs : List Token) → Is shape.Separator t → Gap ts zs → (ss : List Tree) (ys : List Token) → Row at zs ss ys → (rs : List Token) × DerivesMore at free ss (t ∷ ts) rs × Gap rs ys × Divided rs ys
  row-more at t ts zs is g [] ys h = let g' : Gap ts ys = subst (λ us. Gap ts us) h.1 g in (t ∷ ts, NoMore _ _ _, Wide _ _ _ is g', λ e. last-separator t ts ys is g')
  row-more at t ts zs is g (s ∷ ss) ys h = (h.1, Another _ _ _ _ _ _ _ _ _ is g h.3 h.4, h.5, h.7)

  body-from : (at : Site) (start end n : ℕ) (found : List Tree) (xs : List Token) → Holds (body_from nested turns free (is_open at) start end n found xs) (Rest at start end found xs)
  unfolding body_from ended
  body-from at start end zero found xs = refused _ _
  body-from at start end (suc n) found xs = choosing (begins_statement xs)
      (λ e. step (statement-holds at xs) (λ s qs h. choosing (sees shape.Separator qs)
      (λ more. weaker (body-from at start (span_of s).end n (found ++ s ∷ []) (skip_separators qs)) (λ t ys m.
      let p = parted qs more in
      let r = row-more at p.0 p.1 (skip_separators qs) p.3 p.4 m.0 ys m.2 in (
        s ∷ m.0,
        m.1 ∙ ap (λ all. tree.Body all (record { start = start; end = end_by (span_of s).end m.0 })) (append_assoc found (s ∷ []) m.0),
        (qs, r.0, e, h.0, subst (λ us. DerivesMore at free m.0 us r.0) (sym p.2) r.1, r.2, h.2, r.3),
        within-more h.1 (within-more (gap qs).1 m.3),
      )))
      (λ last. choosing (sees shape.Rescue qs) (λ bare. refused _ _)
      (λ none. answered (Rest at start end found xs) _ qs (s ∷ [], refl, (qs, qs, e, h.0, NoMore _ _ _, Closed _, h.2, λ next. absurd (let f : false ≡ true = sym none ∙ next in cc)), h.1)))))
      (λ e. answered (Rest at start end found xs) _ xs ([], ap (λ all. tree.Body all (record { start = start; end = end })) (sym (append-nil found)), (e, refl), within-self _))

  abbrev pub Body : Site → List Token → Tree → List Token → Type 0
  Body at all t ys = DerivesBody at free t all ys × Within all ys × (sees shape.Rescue ys ≡ true → (zs : List Token) × DerivesBody at free t all zs × Parted t zs ys)

  body-made : (at : Site) (all xs : List Token) → Gap all xs → Within all xs → (ss : List Tree) (ys : List Token) → Row at xs ss ys → Within xs ys → Body at all (tree.Body ss (record { start = body_start xs; end = end_by 0 ss })) ys
  body-made at all xs g w [] ys h v = let d : DerivesBody at free (body_of []) all ys = NoStatement _ _ _ _ (subst (λ zs. Gap all zs) h.1 g) in
      subst (λ b. Body at all (tree.Body [] (record { start = if b then start_of xs else 0; end = 0 })) ys) (sym h.0) (d, within-more w v, λ e. (ys, d, AfterNothing _))
  body-made at all xs g w (s ∷ ss) ys h v =
      subst (λ b. Body at all (tree.Body (s ∷ ss) (record { start = if b then start_of xs else 0; end = end_by (span_of s).end ss })) ys) (sym h.2)
      (subst (λ n. Body at all (tree.Body (s ∷ ss) (record { start = n; end = end_by (span_of s).end ss })) ys) h.6
      (subst (λ n. Body at all (tree.Body (s ∷ ss) (record { start = (span_of s).start; end = n })) ys) (sym (last-end s ss))
      (Statements _ _ _ _ _ _ _ _ _ g h.3 h.4 h.5, within-more w v, λ e. let l = h.7 e in (l.0 ∷ ys, Statements _ _ _ _ _ _ _ _ _ g h.3 h.4 l.2, AfterSeparator _ _ _ l.1))))

  pub body-holds : (at : Site) (xs : List Token) → Holds (spec.body nested turns free (is_open at) xs) (Body at xs)
  unfolding spec.body statements
  body-holds at xs = let g = gap xs in weaker (body-from at (body_start (skip_separators xs)) 0 turns [] (skip_separators xs)) (λ t ys m.
      subst (λ u. Body at xs u ys) (sym m.1) (body-made at xs (skip_separators xs) g.0 g.1 m.0 ys m.2 m.3))
