-- Assignments, commands and terms that derive are read.
use Rattle.std.proofs.Common.{◌≡◌, ℕ, suc, ◌<◌, Bool, true, false, not, ◌&&◌, ◌||◌, is_some, if◌then◌else◌, List, [], ◌∷◌, ◌++◌, length, Option, Some, None, Ok, ◌⊎◌, inl, refl, sym, ap, ◌∙◌, arith}
use Rattle.srb_terms.specs.declared.span.Span.{Span}
use Rattle.rb_tree.specs.Tokens.{shape_of, same_shape}
use Rattle.rb_tree.specs.Trees.{span_of}
use Rattle.rb_tree.specs.declared.syntax.Argument.{Argument}
use Rattle.rb_tree.specs.declared.syntax.Argument.TheVariants as argument
use Rattle.rb_tree.specs.declared.syntax.Binary.{Binary}
use Rattle.rb_tree.specs.declared.syntax.Block.{Block}
use Rattle.rb_tree.specs.declared.syntax.Dot.{Dot}
use Rattle.rb_tree.specs.declared.syntax.Dot.TheVariants as dot
use Rattle.rb_tree.specs.declared.syntax.Suffix.{Suffix}
use Rattle.rb_tree.specs.declared.syntax.Tree.{Tree}
use Rattle.rb_tree.specs.declared.syntax.Node.{Node, out-Node}
use Rattle.rb_tree.specs.declared.syntax.Node.TheOpen.{Node-F}
use Rattle.rb_tree.specs.declared.syntax.Node.TheViews.{roll-Node, out-roll-Node}
use Rattle.rb_tree.specs.Nodes as tree
use Rattle.rb_tree.specs.declared.syntax.Node.TheVariants.{rolls-Name, rolls-InstanceVariable, rolls-Constant, rolls-Yield, rolls-Super, rolls-Post}
use Rattle.rb_tree.specs.declared.token.Token.{Token}
use Rattle.rb_tree.specs.declared.token.Shape.{Shape}
use Rattle.rb_tree.specs.declared.token.Shape.TheVariants as shape
use Rattle.rb_expr.specs.declared.form.Form.{Form}
use Rattle.rb_expr.specs.declared.form.Form.TheVariants as form
use Rattle.rb_expr.specs.declared.ending.Ending.{Ending}
use Rattle.rb_expr.specs.declared.ending.Ending.TheVariants as ending
use Rattle.rb_expr.specs.declared.ending.Follower.{Follower}
use Rattle.rb_expr.specs.declared.ending.Follower.TheVariants as follower
use Rattle.rb_expr.specs.Reading.{Parser, peek, sees}
use Rattle.rb_expr.specs.Lists.{end_with, end_of_argument}
use Rattle.rb_expr.specs.Shapes.{has_prefix, prefix_of}
use Rattle.rb_expr.specs.Operands.{post}
use Rattle.rb_expr.specs.Operators as operators
use Rattle.rb_expr.specs.Operators.{tern, tern_after}
use Rattle.rb_expr.specs.Statements.{ending_of, ending_at, ending_of_suffix, ending_of_last, is_target, is_plain_target, is_callee, follower_by, follower_of, assigned, operator_assigned, command, followed_by, followed, from_operand, value}
use Rattle.rb_rules.specs.Tokens.{Is, IsAny, IsOneOf, StartsWith}
use Rattle.rb_rules.specs.Spans.{across, last_of, argument_span, block_or}
use Rattle.rb_rules.specs.Forms.{ASSIGNMENTS, NO_COMMAND, HasNoBlock, AreOrdered}
use Rattle.rb_rules.specs.Grammar.{IsRow, posted, named_call, span_of_arguments, DerivesOperand, DerivesTarget, DerivesCallee, DerivesDo, DerivesValue, DerivesArguments, DerivesIndex, DerivesTerm}
use Rattle.rb_rules.specs.Grammar.DerivesBrackets.{NoBrackets}
use Rattle.rb_rules.specs.Grammar.DerivesBlockAfter.{NoBlock}
use Rattle.rb_rules.specs.Grammar.DerivesPrimary.{NameAlone, InstanceName, ConstantName, Yields, Supers}
use Rattle.rb_rules.specs.Grammar.DerivesSuffix.{Calls, Indexed}
use Rattle.rb_rules.specs.Grammar.DerivesOperand.{Bare, Suffixed}
use Rattle.rb_rules.specs.Grammar.DerivesIndex.{Index}
use Rattle.rb_rules.specs.Grammar.DerivesTarget.{Variable, Instance, Constant, Attribute, Element}
use Rattle.rb_rules.specs.Grammar.DerivesCallee.{Own, Of, YieldWord, SuperWord}
use Rattle.rb_rules.specs.Grammar.DerivesDo.{NoDo, SomeDo}
use Rattle.rb_rules.specs.Grammar.DerivesValue.{Term, Assigns, Computes, Command}
use Rattle.rb_grammar.proofs.Steps.{shown, within-token}
use Rattle.rb_grammar_laws.specs.Begins.{ARGUMENTS, BeginsOperand}
use Rattle.rb_grammar_laws.specs.Ends.{Ends, SIMPLE_ENDS, TERM_ENDS, PREFIXED_ENDS, OPERAND_ENDS, BARE}
use Rattle.rb_grammar_laws.proofs.Steps.{on, taken, passed, not-false, by-row, each, is_in, in-list, any-of, wider, expects, Past, past-within, past-more, past-length, ends-by, ends-unseen, ends-wider, no-do, ends-taking-none}
use Rattle.rb_grammar_laws.proofs.Begins.{operand-begins}
use Rattle.rb_grammar_laws.proofs.Complete.{Reads, Complete}
use Rattle.rb_grammar_laws.proofs.Lists.{IsSome}
use Rattle.rb_grammar_laws.proofs.Calls.{arguments-begin, arguments-some, last_end, bare-read, command-block-read}
use Rattle.rb_grammar_laws.proofs.Suffixes.{added-got, post-read}
use Rattle.rb_grammar_laws.proofs.Operators.{operand-front, tern-read, term-first, tern-parts}

-- ---- what an operand may be followed by

ends-as : (t : Tree) (r : Node-F Node Tree) → roll-Node r ≡ t.node → ending_of t ≡ ending_at r
unfolding ending_of
ends-as t r e = ap (λ u. ending_at (out-Node u)) (sym e) ∙ ap (λ q. ending_at q) (out-roll-Node r)

-- an operand with a suffix ends as that
posted-ends : (r : Tree) (ss : List (Suffix Tree)) (s : Suffix Tree) → ending_of (posted r (ss ++ s ∷ [])) ≡ ending_of_suffix s
posted-ends r [] s = ends-as _ _ (rolls-Post _ _ _)
posted-ends r (x ∷ ss) s = ends-as _ _ (rolls-Post _ _ _) ∙ ap ending_of_last (added-got (x ∷ ss) s)

no-front : (xs : List Token) → BeginsOperand xs → has_prefix xs ≡ false
unfolding has_prefix
no-front xs h = let f = operand-front xs h in ap (λ b. b || is_some (prefix_of xs)) f.0 ∙ ap is_some f.1

-- ---- what follows an operand

is_operators : Follower → Bool
is_operators follower.Operators = true
is_operators f = false

as-operators : (f : Follower) → is_operators f ≡ true → f ≡ follower.Operators
unfolding is_operators
as-operators follower.Operators e = refl
as-operators f e = absurd (cc)

quiet : (constants : Bool) (e : Ending) (s : Shape) → IsOneOf PREFIXED_ENDS s → follower_by constants e (Some s) ≡ follower.Operators
unfolding is_operators
quiet constants ending.Name s h = as-operators _ (each (λ c. is_operators (follower_by constants ending.Name (Some c))) PREFIXED_ENDS refl s h)
quiet constants ending.Target s h = as-operators _ (each (λ c. is_operators (follower_by constants ending.Target (Some c))) PREFIXED_ENDS refl s h)
quiet constants ending.Callee s h = as-operators _ (each (λ c. is_operators (follower_by constants ending.Callee (Some c))) PREFIXED_ENDS refl s h)
quiet constants ending.Constant s h = as-operators _ (each (λ c. is_operators (follower_by constants ending.Constant (Some c))) PREFIXED_ENDS refl s h)
quiet constants ending.Other s h = as-operators _ (each (λ c. is_operators (follower_by constants ending.Other (Some c))) PREFIXED_ENDS refl s h)

quiet-end : (constants : Bool) (e : Ending) → follower_by constants e None ≡ follower.Operators
quiet-end constants ending.Name = refl
quiet-end constants ending.Target = refl
quiet-end constants ending.Callee = refl
quiet-end constants ending.Constant = refl
quiet-end constants ending.Other = refl

quiet-follower : (constants free : Bool) (e : Ending) (xs : List Token) → Ends PREFIXED_ENDS free xs → follower_of constants e (peek xs) ≡ follower.Operators
unfolding follower_of
quiet-follower constants free e [] h = quiet-end constants e
quiet-follower constants free e (t ∷ ts) h = quiet constants e _ h.0

is_arguments : Follower → Bool
is_arguments follower.Arguments = true
is_arguments f = false

as-arguments : (f : Follower) → is_arguments f ≡ true → f ≡ follower.Arguments
unfolding is_arguments
as-arguments follower.Arguments e = refl
as-arguments f e = absurd (cc)

bare-by : (constants : Bool) (e : Ending) → is_callee e ≡ true → (s : Shape) → IsOneOf BARE s → follower_by constants e (Some s) ≡ follower.Arguments
unfolding is_arguments
bare-by constants ending.Name callee s h = as-arguments _ (each (λ c. is_arguments (follower_by constants ending.Name (Some c))) BARE refl s h)
bare-by constants ending.Callee callee s h = as-arguments _ (each (λ c. is_arguments (follower_by constants ending.Callee (Some c))) BARE refl s h)
bare-by constants ending.Target callee s h = absurd (cc)
bare-by constants ending.Constant callee s h = absurd (cc)
bare-by constants ending.Other callee s h = absurd (cc)

bare-follower : (constants : Bool) (e : Ending) (xs : List Token) → is_callee e ≡ true → StartsWith BARE xs → follower_of constants e (peek xs) ≡ follower.Arguments
unfolding follower_of
bare-follower constants e [] callee h = absurd h
bare-follower constants e (t ∷ ts) callee h = bare-by constants e callee _ h

-- what a command's arguments begin with
bare-begins : (xs : List Token) → StartsWith ARGUMENTS xs → ¬ StartsWith NO_COMMAND xs → StartsWith BARE xs
unfolding same_shape
bare-begins [] h non = absurd h
bare-begins (t ∷ ts) h non = go (is_in NO_COMMAND (shape_of t.kind)) refl (each (λ c. is_in NO_COMMAND c || is_in BARE c) ARGUMENTS refl _ h)
  where
    go : (b : Bool) → is_in NO_COMMAND (shape_of t.kind) ≡ b → (b || is_in BARE (shape_of t.kind)) ≡ true → IsAny BARE t
    go true e f = absurd (non (in-list NO_COMMAND _ e))
    go false e f = in-list BARE _ f

bare-ends : (free : Bool) (xs : List Token) → StartsWith BARE xs → Ends OPERAND_ENDS free xs
unfolding same_shape
bare-ends free [] h = absurd h
bare-ends free (t ∷ ts) h = (wider BARE OPERAND_ENDS refl _ h, λ f is. let e = not-false _ (each (λ c. not (same_shape c shape.Do)) BARE refl _ h) in let g : false ≡ true = sym e ∙ shown shape.Do t ts is in absurd (cc))

plain-assign : (constants : Bool) (e : Ending) (t : Token) (ts : List Token) → is_plain_target constants e ≡ true → Is shape.Assign t → follower_of constants e (peek (t ∷ ts)) ≡ follower.Value
unfolding follower_of
plain-assign constants e t ts target is = ap (λ s. follower_by constants e (Some s)) is ∙ ap (λ b. if b then follower.Value else follower.Operators) target

assignable : (e : Ending) → is_plain_target false e ≡ true → is_target e ≡ true
assignable ending.Name h = refl
assignable ending.Target h = refl
assignable ending.Callee h = absurd (cc)
assignable ending.Constant h = absurd (cc)
assignable ending.Other h = absurd (cc)

operator-assign : (constants : Bool) (e : Ending) (t : Token) (ts : List Token) (operator : Binary) → is_target e ≡ true → IsRow ASSIGNMENTS (shape_of t.kind) operator → follower_of constants e (peek (t ∷ ts)) ≡ follower.Operator operator
unfolding follower_of
operator-assign constants e t ts operator target row =
    let by : (o : Binary) → (if is_target e then follower.Operator o else follower.Operators) ≡ follower.Operator o = λ o. ap (λ b. if b then follower.Operator o else follower.Operators) target in
    by-row ASSIGNMENTS (λ s o. follower_by constants e (Some s) ≡ follower.Operator o) (by _, (by _, (by _, (by _, (by _, (by _, (by _, (by _, (by _, (by _, (by _, (by _, (by _, tt))))))))))))) _ _ row

assign-ends : (t : Token) (ts : List Token) (operator : Binary) → IsRow ASSIGNMENTS (shape_of t.kind) operator → (free : Bool) → Ends OPERAND_ENDS free (t ∷ ts)
unfolding same_shape
assign-ends t ts operator row free =
    let h = by-row ASSIGNMENTS (λ s o. (is_in OPERAND_ENDS s ≡ true) × (same_shape s shape.Do ≡ false)) ((refl, refl), ((refl, refl), ((refl, refl), ((refl, refl), ((refl, refl), ((refl, refl), ((refl, refl), ((refl, refl), ((refl, refl), ((refl, refl), ((refl, refl), ((refl, refl), ((refl, refl), tt))))))))))))) _ _ row in
    (in-list OPERAND_ENDS _ h.0, λ f is. let e = h.1 in let g = shown shape.Do t ts is in absurd (cc))

-- where a command ends
argument-end : (a : Argument Tree) → end_of_argument a ≡ (argument_span a).end
unfolding end_of_argument
argument-end (argument.Positional v) = refl
argument-end (argument.Keyword n s v) = refl
argument-end (argument.Block s v) = refl

command-end : (c : Span) (given : List (Argument Tree)) (b : Option (Block Tree)) → IsSome given → end_with b (last_end given) ≡ (block_or (span_of_arguments c given) b).end
command-end c [] b some = absurd some
command-end c (a ∷ more) None some = argument-end (last_of a more)
command-end c (a ∷ more) (Some b) some = refl

do-ends : (free : Bool) (b : Option (Block Tree)) (xs ys : List Token) → DerivesDo free b xs ys → Ends SIMPLE_ENDS free ys → Ends SIMPLE_ENDS false xs
unfolding same_shape
do-ends free b xs ys (NoDo _ _) ends = ends-taking-none SIMPLE_ENDS free ys ends
do-ends free b xs ys (SomeDo o last some us _ is d) ends = (any-of SIMPLE_ENDS shape.Do o refl is, λ e. absurd (cc))

module _ (nested : Form → Bool → Parser Tree) (turns : ℕ) (ih : Complete turns nested) where
  -- ---- targets and callees

  -- an operand is read, and it may be used so
  record Used (free : Bool) (may : Ending → Bool) (t : Tree) (xs ys : List Token) : Type 0 where
    reads : post nested turns free xs ≡ Ok (t, ys)
    past : Past xs ys
    usable : may (ending_of t) ≡ true
    front : has_prefix xs ≡ false

  used-by : (free : Bool) (may : Ending → Bool) (r : Tree) (ss : List (Suffix Tree)) (last : Token) (xs ys : List Token) → DerivesOperand free r ss last xs ys → Ends OPERAND_ENDS free ys → length xs < turns → may (ending_of (posted r ss)) ≡ true → Used free may (posted r ss) xs ys
  used-by free may r ss last xs ys d ends fits usable = let p = post-read nested turns ih free r ss last xs ys d ends fits in record { reads = p.0; past = p.1; usable = usable; front = no-front xs (operand-begins free r ss last xs ys d) }

  target-read : (constants free : Bool) (t : Tree) (xs ys : List Token) → DerivesTarget constants free t xs ys → Ends OPERAND_ENDS free ys → length xs < turns → Used free (is_plain_target constants) t xs ys
  target-read constants free t xs ys (Variable _ _ u w _ is) ends fits = used-by free (is_plain_target constants) _ [] u xs ys (Bare _ _ _ _ _ (NameAlone _ _ _ _ is)) ends fits (ap (λ e. is_plain_target constants e) (ends-as _ _ (rolls-Name _ _)))
  target-read constants free t xs ys (Instance _ _ u w _ is) ends fits = used-by free (is_plain_target constants) _ [] u xs ys (Bare _ _ _ _ _ (InstanceName _ _ _ _ is)) ends fits (ap (λ e. is_plain_target constants e) (ends-as _ _ (rolls-InstanceVariable _ _)))
  target-read constants free t xs ys (Constant _ u w _ is) ends fits = used-by free (is_plain_target true) _ [] u xs ys (Bare _ _ _ _ _ (ConstantName _ _ _ _ is)) ends fits (ap (λ e. is_plain_target true e) (ends-as _ _ (rolls-Constant _ _)))
  target-read constants free t xs ys (Attribute _ _ last d n r ss w _ _ o is i) ends fits =
      used-by free (is_plain_target constants) r (ss ++ named_call d dot.Plain n w ∷ []) n xs ys (Suffixed _ _ _ _ _ _ _ _ _ o (Calls _ _ _ _ _ _ _ _ _ _ _ _ _ (inl (is, refl)) i (NoBrackets _ _) (NoBlock _ _ _) (inl refl))) ends fits
      (ap (λ e. is_plain_target constants e) (posted-ends r ss (named_call d dot.Plain n w)))
  target-read constants free t xs ys (Element _ _ before last r ss s _ ps _ o i) ends fits =
      used-by free (is_plain_target constants) r (ss ++ s ∷ []) last xs ys (Suffixed _ _ _ _ _ _ _ _ _ o (Indexed _ _ _ _ _ _ i)) ends fits (ap (λ e. is_plain_target constants e) (posted-ends r ss s) ∙ index-target s before last ps ys i)
    where
      index-target : (s : Suffix Tree) (before last : Token) (ps ys : List Token) → DerivesIndex s before last ps ys → is_plain_target constants (ending_of_suffix s) ≡ true
      index-target s before last ps ys (Index _ o c arguments _ _ _ _ is may g d ordered end closes) = refl

  callee-read : (free : Bool) (t : Tree) (xs ys : List Token) → DerivesCallee free t xs ys → Ends OPERAND_ENDS free ys → length xs < turns → Used free is_callee t xs ys
  callee-read free t xs ys (Own _ u w _ is) ends fits = used-by free is_callee _ [] u xs ys (Bare _ _ _ _ _ (NameAlone _ _ _ _ is)) ends fits (ap is_callee (ends-as _ _ (rolls-Name _ _)))
  callee-read free t xs ys (Of _ last d n how r ss w _ _ o row i) ends fits =
      used-by free is_callee r (ss ++ named_call d how n w ∷ []) n xs ys (Suffixed _ _ _ _ _ _ _ _ _ o (Calls _ _ _ _ _ _ _ _ _ _ _ _ _ row i (NoBrackets _ _) (NoBlock _ _ _) (inl refl))) ends fits
      (ap is_callee (posted-ends r ss (named_call d how n w)) ∙ by-dot how)
    where
      by-dot : (how : Dot) → is_callee (ending_of_suffix {T = Tree} (named_call d how n w)) ≡ true
      by-dot dot.Plain = refl
      by-dot dot.Safe = refl
  callee-read free t xs ys (YieldWord _ u _ is) ends fits = used-by free is_callee _ [] u xs ys (Bare _ _ _ _ _ (Yields _ _ _ _ _ _ is (NoBrackets _ _))) ends fits (ap is_callee (ends-as _ _ (rolls-Yield None (across u.span u.span))))
  callee-read free t xs ys (SuperWord _ u _ is) ends fits = used-by free is_callee _ [] u xs ys (Bare _ _ _ _ _ (Supers _ _ _ _ _ _ is (NoBrackets _ _))) ends fits (ap is_callee (ends-as _ _ (rolls-Super None (across u.span u.span))))

  -- ---- values

  -- what an operand with this follower begins
  followed-as : (constants free : Bool) (may : Ending → Bool) (first : Tree) (xs ps : List Token) (f : Follower) (t : Tree) (ys : List Token) → Used free may first xs ps → follower_of constants (ending_of first) (peek ps) ≡ f → followed_by nested turns free first f ps ≡ Ok (t, ys) → value nested turns free constants xs ≡ Ok (t, ys)
  unfolding value from_operand followed
  followed-as constants free may first xs ps f t ys u e h = passed _ _ u.front (on _ u.reads (ap (λ f. followed_by nested turns free first f ps) e ∙ h))

  command-read : (free : Bool) (callee : Tree) (given : List (Argument Tree)) (b : Option (Block Tree)) (ps qs ys : List Token) → DerivesArguments false false given ps qs → AreOrdered given → DerivesDo free b qs ys → (b ≡ None ⊎ HasNoBlock given) →
      Ends SIMPLE_ENDS false qs → (free && sees shape.Do ys) ≡ false → suc (length ps) < turns → Reads (command nested turns free callee) (tree.Command callee given b (across (span_of callee) (block_or (span_of_arguments (span_of callee) given) b))) ps ys
  unfolding command same_shape
  command-read free callee given b ps qs ys d ordered h leaves ends none fits =
      let r = bare-read nested turns ih free given ps qs d ordered (ends-wider SIMPLE_ENDS TERM_ENDS refl false qs ends) (ends-unseen shape.Comma SIMPLE_ENDS refl false qs ends) fits in
      let short = past-length r.1 in
      let l = command-block-read nested turns ih free given b qs ys h leaves none (let h : length qs < turns = omega arith in h) in
      (on _ r.0 (on _ l.0 (ap (λ end. Ok (tree.Command callee given b (record { start = (span_of callee).start; end = end }), ys)) (command-end (span_of callee) given b (arguments-some false false given ps qs d)))), past-more r.1 l.1)

  term-value : (constants free : Bool) (t : Tree) (xs ys : List Token) → DerivesTerm free t xs ys → Ends TERM_ENDS free ys → length xs < turns → (b : Bool) → has_prefix xs ≡ b → Reads (value nested turns free constants) t xs ys
  unfolding value from_operand followed
  term-value constants free t xs ys d ends fits true e = let r = tern-read nested turns ih free t xs ys d ends fits in (taken _ _ e r.0, r.1)
  term-value constants free t xs ys d ends fits false e =
      let r = tern-read nested turns ih free t xs ys d ends fits in
      let f = term-first nested turns ih free t xs ys d ends e fits in
      (passed _ _ e (on _ (f.reads) (ap (λ x. followed_by nested turns free f.first x f.rest) (quiet-follower constants free (ending_of f.first) f.rest f.ends) ∙ sym (tern-parts nested turns ih free xs f.rest f.first e f.reads) ∙ r.0)), r.1)

  -- an assignment, whose value is read
  pub assigned-read : (constants free : Bool) (e : Token) (target v : Tree) (xs ps ys : List Token) → DerivesTarget constants free target xs (e ∷ ps) → Is shape.Assign e → length xs < turns → (suc (length ps) < turns → Reads (nested form.Value free) v ps ys) →
      Reads (value nested turns free constants) (tree.Assign target v (across (span_of target) (span_of v))) xs ys
  unfolding assigned operators.across same_shape
  assigned-read constants free e target v xs ps ys d is fits reads =
      let u = target-read constants free target xs (e ∷ ps) d (ends-by OPERAND_ENDS shape.Assign refl refl free e ps is) fits in
      let short = past-length u.past in
      let r = reads (let h : suc (length ps) < turns = omega arith in h) in
      (followed-as constants free (is_plain_target constants) target xs (e ∷ ps) follower.Value _ ys u (plain-assign constants (ending_of target) e ps u.usable is) (on _ (expects shape.Assign e ps is) (on _ r.0 refl)), past-more u.past (within-token e (past-within r.1)))

  -- one that computes
  pub computed-read : (constants free : Bool) (o : Token) (operator : Binary) (target v : Tree) (xs ps ys : List Token) → DerivesTarget false free target xs (o ∷ ps) → IsRow ASSIGNMENTS (shape_of o.kind) operator → length xs < turns →
      (suc (length ps) < turns → Reads (nested form.Value free) v ps ys) → Reads (value nested turns free constants) (tree.OperatorAssign target operator o.span v (across (span_of target) (span_of v))) xs ys
  unfolding operator_assigned operators.across
  computed-read constants free o operator target v xs ps ys d row fits reads =
      let u = target-read false free target xs (o ∷ ps) d (assign-ends o ps operator row free) fits in
      let short = past-length u.past in
      let r = reads (let h : suc (length ps) < turns = omega arith in h) in
      (followed-as constants free (is_plain_target false) target xs (o ∷ ps) (follower.Operator operator) _ ys u (operator-assign constants (ending_of target) o ps operator (assignable (ending_of target) u.usable) row) (on _ r.0 refl), past-more u.past (within-token o (past-within r.1)))

  -- a command, whose arguments end there
  pub commanded-read : (constants free : Bool) (callee : Tree) (given : List (Argument Tree)) (b : Option (Block Tree)) (xs ps qs ys : List Token) → DerivesCallee free callee xs ps → ¬ StartsWith NO_COMMAND ps → DerivesArguments false false given ps qs → AreOrdered given →
      DerivesDo free b qs ys → (b ≡ None ⊎ HasNoBlock given) → Ends SIMPLE_ENDS false qs → (free && sees shape.Do ys) ≡ false → length xs < turns →
      Reads (value nested turns free constants) (tree.Command callee given b (across (span_of callee) (block_or (span_of_arguments (span_of callee) given) b))) xs ys
  commanded-read constants free callee given b xs ps qs ys d non h ordered k leaves ends none fits =
      let begin = bare-begins ps (arguments-begin false false given ps qs h) non in
      let u = callee-read free callee xs ps d (bare-ends free ps begin) fits in
      let short = past-length u.past in
      let r = command-read free callee given b ps qs ys h ordered k leaves ends none (let h : suc (length ps) < turns = omega arith in h) in
      (followed-as constants free is_callee callee xs ps follower.Arguments _ ys u (bare-follower constants (ending_of callee) ps u.usable begin) r.0, past-more u.past (past-within r.1))

  pub value-read : (constants free : Bool) (t : Tree) (xs ys : List Token) → DerivesValue constants free t xs ys → Ends SIMPLE_ENDS free ys → length xs < turns → Reads (value nested turns free constants) t xs ys
  unfolding same_shape
  value-read constants free t xs ys (Term _ _ _ _ _ d) ends fits = term-value constants free t xs ys d (ends-wider SIMPLE_ENDS TERM_ENDS refl free ys ends) fits (has_prefix xs) refl
  value-read constants free t xs ys (Assigns _ _ e target v _ ps _ d is h) ends fits = assigned-read constants free e target v xs ps ys d is fits (λ less. ih.value free v ps ys less h ends)
  value-read constants free t xs ys (Computes _ _ o operator target v _ ps _ d row h) ends fits = computed-read constants free o operator target v xs ps ys d row fits (λ less. ih.value free v ps ys less h ends)
  value-read constants free t xs ys (Command _ _ callee given b _ ps qs _ d non h ordered k leaves) ends fits =
      commanded-read constants free callee given b xs ps qs ys d non h ordered k leaves (do-ends free b qs ys k ends) (no-do SIMPLE_ENDS free ys ends) fits
