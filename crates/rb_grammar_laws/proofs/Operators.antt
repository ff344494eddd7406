-- Operations that derive are read.
use Rattle.std.proofs.Common.{◌≡◌, ◌≢◌, ℕ, zero, suc, ◌+◌, ◌≤◌, ◌<◌, Bool, true, false, not, ◌&&◌, ◌||◌, ◌==◌, nat_le, is_some, is_none, if◌then◌else◌, List, [], ◌∷◌, length, Option, Some, None, Ok, Err, ◌⊎◌, inl, inr, refl, sym, ap, subst, ◌∙◌, arith}
use Rattle.std.proofs.lemmas.Bool.Decides.{nat_tests}
use Rattle.rb_tree.specs.Tokens.{shape_of, same_shape}
use Rattle.rb_tree.specs.Trees.{span_of}
use Rattle.rb_tree.specs.declared.syntax.Binary.{Binary}
use Rattle.rb_tree.specs.declared.syntax.Sign.TheVariants as sign
use Rattle.rb_tree.specs.declared.syntax.Unary.{Unary}
use Rattle.rb_tree.specs.declared.syntax.Unary.TheVariants as unary
use Rattle.rb_tree.specs.declared.syntax.Tree.{Tree}
use Rattle.rb_tree.specs.Nodes as tree
use Rattle.rb_tree.specs.declared.token.Token.{Token}
use Rattle.rb_tree.specs.declared.token.Shape.{Shape}
use Rattle.rb_tree.specs.declared.token.Shape.TheVariants as shape
use Rattle.rb_expr.specs.declared.form.Form.{Form}
use Rattle.rb_expr.specs.declared.form.Form.TheVariants as form
use Rattle.rb_expr.specs.Reading.{Outcome, Parser, and_then, sees, peek, after, touches}
use Rattle.rb_expr.specs.Shapes.{binary_of, level_of, ceiling, between, operator_between, sees_number, is_signed, is_sign, is_negation, prefix_by, prefix_of, has_prefix}
use Rattle.rb_expr.specs.Operands.{post}
use Rattle.rb_expr.specs.Operators.{unary_operation, binary_operation, prefixed_by, prefixed, powered, power, negated, climb_by, climb_from, climb, operation, alternatives, chosen, tern, tern_after}
use Rattle.rb_expr.specs.Operators as spec
use Rattle.rb_rules.specs.Tokens.{Is, IsAny, IsOneOf, Touches, NUMBERS, IsBeforeNumber, IsRaised}
use Rattle.rb_rules.specs.Spans.{across}
use Rattle.rb_rules.specs.Forms.{found, LEVELS, IsAt, Operates}
use Rattle.rb_rules.specs.Grammar.{IsRow, SIGNS, PREFIXES, DerivesTerm, DerivesLevel, DerivesPrefixed}
use Rattle.rb_rules.specs.Grammar.DerivesTerm.{Operated, Conditional}
use Rattle.rb_rules.specs.Grammar.DerivesLevel.{Tighter, FromLeft, Once, Negated, Raised, Plainly}
use Rattle.rb_rules.specs.Grammar.DerivesPrefixed.{Prefixed, Posted}
use Rattle.rb_grammar.proofs.Steps.{shown, same, within-token, within-more}
use Rattle.rb_grammar_laws.specs.Begins.{OPERANDS, BeginsOperand}
use Rattle.rb_grammar_laws.specs.Ends.{Ends, IsLooser, TERM_ENDS, OPERATION_ENDS, PREFIXED_ENDS, OPERAND_ENDS}
use Rattle.rb_grammar_laws.proofs.Steps.{on, taken, passed, AllRows, by-row, all_hold, each, is_in, in-list, not-false, expects, Past, past-token, past-within, past-more, past-length, ends-by, ends-unseen, ends-wider}
use Rattle.rb_grammar_laws.proofs.Begins.{operand-begins}
use Rattle.rb_grammar_laws.proofs.Complete.{Reads, Complete}
use Rattle.rb_grammar_laws.proofs.Operands.{signed-seen, unraised-seen}
use Rattle.rb_grammar_laws.proofs.Suffixes.{post-read}

-- ---- the table of operators

-- what is known of an operator of a level
record IsOperator (level : ℕ) (s : Shape) (operator : Binary) : Type 0 where
  reads : binary_of s ≡ Some operator
  tight : level_of operator ≡ suc level
  small : level ≤ 8
  known : IsOneOf OPERATION_ENDS s
  no_do : same_shape s shape.Do ≡ false

by-found : (rows : List (Shape × Binary)) (P : Shape → Binary → Type 0) → AllRows rows P → (s : Shape) (operator : Binary) → found rows s operator → P s operator
by-found [] P all s operator h = absurd h
by-found (row ∷ rows) P all s operator (inl h) = subst (λ x. P x operator) (sym h.0) (subst (λ y. P row.0 y) (sym h.1) all.0)
by-found (row ∷ rows) P all s operator (inr h) = by-found rows P all.1 s operator h

row-known : (level : ℕ) (s : Shape) (operator : Binary) → binary_of s ≡ Some operator → level_of operator ≡ suc level → level ≤ 8 → is_in OPERATION_ENDS s ≡ true → same_shape s shape.Do ≡ false → IsOperator level s operator
row-known level s operator e f small g non = record { reads = e; tight = f; small = small; known = in-list OPERATION_ENDS s g; no_do = non }

level-known : (level : ℕ) (rows : List (Shape × Binary)) → IsAt LEVELS level rows → AllRows rows (IsOperator level)
unfolding same_shape
level-known zero rows e = subst (λ rows. AllRows rows (IsOperator 0)) (sym e) (row-known _ _ _ refl refl (omega arith) refl refl, tt)
level-known (suc zero) rows e = subst (λ rows. AllRows rows (IsOperator 1)) (sym e) (row-known _ _ _ refl refl (omega arith) refl refl, tt)
level-known (suc (suc zero)) rows e = subst (λ rows. AllRows rows (IsOperator 2)) (sym e)
    (row-known _ _ _ refl refl (omega arith) refl refl, (row-known _ _ _ refl refl (omega arith) refl refl, (row-known _ _ _ refl refl (omega arith) refl refl, (row-known _ _ _ refl refl (omega arith) refl refl, tt))))
level-known (suc (suc (suc zero))) rows e = subst (λ rows. AllRows rows (IsOperator 3)) (sym e)
    (row-known _ _ _ refl refl (omega arith) refl refl, (row-known _ _ _ refl refl (omega arith) refl refl, (row-known _ _ _ refl refl (omega arith) refl refl, (row-known _ _ _ refl refl (omega arith) refl refl, tt))))
level-known (suc (suc (suc (suc zero)))) rows e = subst (λ rows. AllRows rows (IsOperator 4)) (sym e) (row-known _ _ _ refl refl (omega arith) refl refl, (row-known _ _ _ refl refl (omega arith) refl refl, tt))
level-known (suc (suc (suc (suc (suc zero))))) rows e = subst (λ rows. AllRows rows (IsOperator 5)) (sym e) (row-known _ _ _ refl refl (omega arith) refl refl, tt)
level-known (suc (suc (suc (suc (suc (suc zero)))))) rows e = subst (λ rows. AllRows rows (IsOperator 6)) (sym e) (row-known _ _ _ refl refl (omega arith) refl refl, (row-known _ _ _ refl refl (omega arith) refl refl, tt))
level-known (suc (suc (suc (suc (suc (suc (suc zero))))))) rows e = subst (λ rows. AllRows rows (IsOperator 7)) (sym e) (row-known _ _ _ refl refl (omega arith) refl refl, (row-known _ _ _ refl refl (omega arith) refl refl, tt))
level-known (suc (suc (suc (suc (suc (suc (suc (suc zero)))))))) rows e = subst (λ rows. AllRows rows (IsOperator 8)) (sym e)
    (row-known _ _ _ refl refl (omega arith) refl refl, (row-known _ _ _ refl refl (omega arith) refl refl, (row-known _ _ _ refl refl (omega arith) refl refl, tt)))
level-known (suc (suc (suc (suc (suc (suc (suc (suc (suc level))))))))) rows e = absurd e

operator-known : (level : ℕ) (s : Shape) (operator : Binary) → Operates level s operator → IsOperator level s operator
operator-known level s operator o = by-found o.row (IsOperator level) (level-known level o.row o.on_level) s operator o.listed

-- an operator ends an operation
operator-ends : (level : ℕ) (operator : Binary) (free : Bool) (o : Token) (os : List Token) → IsOperator level (shape_of o.kind) operator → Ends OPERATION_ENDS free (o ∷ os)
operator-ends level operator free o os k = (k.known, λ f is. let e = shown shape.Do o os is in let g = k.no_do in absurd (cc))

some-same : (o : Option Binary) (a b : Binary) → o ≡ Some a → o ≡ Some b → a ≡ b
some-same o a b e f = ap (λ o. held o a) (sym e ∙ f)
  where
    held : Option Binary → Binary → Binary
    held None x = x
    held (Some y) x = y

operator-looser : (level least : ℕ) (operator : Binary) (o : Token) (os : List Token) → IsOperator level (shape_of o.kind) operator → suc level < least → IsLooser least (o ∷ os)
operator-looser level least operator o os k less = λ other' e. let s : operator ≡ other' = some-same _ _ _ k.reads e in subst (λ x. level_of x < least) s (let t = k.tight in let h : level_of operator < least = omega arith in h)

-- ---- looser operators

none-of : {A : Type 0} (o : Option A) → is_none o ≡ true → o ≡ None
none-of None e = refl
none-of (Some a) e = absurd (cc)

looser-by : (ss : List Shape) → all_hold (λ c. is_none (binary_of c)) ss ≡ true → (free : Bool) (xs : List Token) → Ends ss free xs → (least : ℕ) → IsLooser least xs
looser-by ss e free [] h least = tt
looser-by ss e free (t ∷ ts) h least = λ operator f. let n = none-of _ (each (λ c. is_none (binary_of c)) ss e _ h.0) in absurd (cc)

looser-more : (least more : ℕ) (xs : List Token) → least ≤ more → IsLooser least xs → IsLooser more xs
looser-more least more [] le h = tt
looser-more least more (t ∷ ts) le h = λ operator e. let l = h operator e in let k : level_of operator < more = omega arith in k

no-operator : (least most : ℕ) (xs : List Token) → IsLooser least xs → operator_between (peek xs) least most ≡ None
unfolding operator_between
no-operator least most [] h = refl
no-operator least most (t ∷ ts) h = go (binary_of (shape_of t.kind)) refl
  where
    go : (o : Option Binary) → binary_of (shape_of t.kind) ≡ o → between least most o ≡ None
    go None e = refl
    go (Some operator) e = let l = h operator e in let n : nat_le least (level_of operator) ≡ false = grind (arith, nat_tests) in ap (λ b. if b && nat_le (level_of operator) most then Some operator else None) n

an-operator : (least most : ℕ) (s : Shape) (operator : Binary) → binary_of s ≡ Some operator → least ≤ level_of operator → level_of operator ≤ most → operator_between (Some s) least most ≡ Some operator
unfolding operator_between
an-operator least most s operator e low high =
    let l : nat_le least (level_of operator) ≡ true = grind (arith, nat_tests) in
    let h : nat_le (level_of operator) most ≡ true = grind (arith, nat_tests) in
    ap (λ o. between least most o) e ∙ ap (λ b. if b && nat_le (level_of operator) most then Some operator else None) l ∙ ap (λ b. if b then Some operator else None) h

-- ---- what stands in front

number-any : (n : Token) (ns : List Token) → sees_number (n ∷ ns) ≡ true → IsAny NUMBERS n
unfolding sees_number
number-any n ns e = go (sees shape.Whole (n ∷ ns)) refl e
  where
    go : (b : Bool) → sees shape.Whole (n ∷ ns) ≡ b → (b || sees shape.Float (n ∷ ns)) ≡ true → IsAny NUMBERS n
    go true f h = inl (same _ _ f)
    go false f h = inr (inl (same _ _ h))

touched : (u n : Token) (ns : List Token) → touches u.span (n ∷ ns) ≡ true → Touches u n
touched u n ns e = grind (arith, nat_tests)

and-true : (a b : Bool) → (a && b) ≡ true → (a ≡ true) × (b ≡ true)
and-true true b e = (refl, e)
and-true false b e = absurd (cc)

before-number : (u : Token) (us : List Token) → is_sign (u ∷ us) ≡ true → IsBeforeNumber u us
unfolding is_sign is_signed
before-number u [] e = absurd (cc)
before-number u (n ∷ ns) e = let h = and-true _ _ e in (number-any n ns h.1, touched u n ns h.0)

unsigned : (u : Token) (us : List Token) → ¬ IsBeforeNumber u us → is_sign (u ∷ us) ≡ false
unsigned u us h = go (is_sign (u ∷ us)) refl
  where
    go : (b : Bool) → is_sign (u ∷ us) ≡ b → b ≡ false
    go true e = absurd (h (before-number u us e))
    go false e = refl

a-sign : (u : Token) (us : List Token) → IsBeforeNumber u us → is_sign (u ∷ us) ≡ true
unfolding is_sign
a-sign u [] h = absurd h
a-sign u (n ∷ ns) h = signed-seen u n ns h.0 h.1

and-right-false : (a b : Bool) → b ≡ false → (a && b) ≡ false
and-right-false true b e = e
and-right-false false b e = refl

unraised-after : (us : List Token) → ¬ IsRaised us → sees shape.Power (after us) ≡ false
unraised-after [] h = refl
unraised-after (n ∷ ns) h = unraised-seen ns h

raised-seen : (us : List Token) → IsRaised us → sees shape.Power (after us) ≡ true
raised-seen [] h = absurd h
raised-seen (n ∷ []) h = absurd h
raised-seen (n ∷ p ∷ ps) (inl is) = shown shape.Power p ps is
raised-seen (n ∷ p ∷ ps) (inr h) = absurd h

-- no operator stands in front of an operand
pub operand-front : (xs : List Token) → BeginsOperand xs → (is_negation xs ≡ false) × (prefix_of xs ≡ None)
unfolding is_negation prefix_of same_shape
operand-front [] h = absurd h
operand-front (t ∷ ts) (inl h) = (
  ap (λ b. b && (not (is_sign (t ∷ ts)) || sees shape.Power (after ts))) (not-false _ (each (λ c. not (same_shape c shape.Minus)) OPERANDS refl _ h)),
  none-of _ (each (λ c. is_none (prefix_by (is_sign (t ∷ ts)) (Some c))) OPERANDS refl _ h),
)
operand-front (t ∷ ts) (inr h) =
    let signs = a-sign t ts h.2 in
    (go h.3, ap (λ b. prefix_by b (Some (shape_of t.kind))) signs ∙ by-row SIGNS (λ s how. prefix_by true (Some s) ≡ None) (refl, (refl, tt)) _ _ h.1)
  where
    go : (h.0 ≡ sign.Plus ⊎ ¬ IsRaised ts) → (sees shape.Minus (t ∷ ts) && (not (is_sign (t ∷ ts)) || sees shape.Power (after ts))) ≡ false
    go (inl plus) = ap (λ b. b && (not (is_sign (t ∷ ts)) || sees shape.Power (after ts))) (by-row SIGNS (λ s how. how ≡ sign.Plus → same_shape s shape.Minus ≡ false) ((λ e. absurd (cc)), ((λ e. refl), tt)) _ _ h.1 plus)
    go (inr flat) = and-right-false (sees shape.Minus (t ∷ ts)) _ (ap (λ b. not b || sees shape.Power (after ts)) (a-sign t ts h.2) ∙ unraised-after ts flat)

prefix-front : (u : Token) (us : List Token) (operator : Unary) → IsRow PREFIXES (shape_of u.kind) operator → (operator ≡ unary.Plus → ¬ IsBeforeNumber u us) → (is_negation (u ∷ us) ≡ false) × (prefix_of (u ∷ us) ≡ Some operator)
unfolding is_negation prefix_of same_shape
prefix-front u us operator row plus = (
  ap (λ b. b && (not (is_sign (u ∷ us)) || sees shape.Power (after us))) (by-row PREFIXES (λ s o. same_shape s shape.Minus ≡ false) (refl, (refl, (refl, tt))) _ _ row),
  by-row PREFIXES (λ s o. (o ≡ unary.Plus → ¬ IsBeforeNumber u us) → prefix_by (is_sign (u ∷ us)) (Some s) ≡ Some o)
      ((λ p. refl), ((λ p. refl), ((λ p. ap (λ b. if b then None else Some unary.Plus) (unsigned u us (p refl))), tt))) _ _ row plus,
)

minus-front : (m : Token) (us : List Token) → Is shape.Minus m → (¬ IsBeforeNumber m us ⊎ IsRaised us) → is_negation (m ∷ us) ≡ true
unfolding is_negation
minus-front m us is (inl h) = ap (λ b. b && (not (is_sign (m ∷ us)) || sees shape.Power (after us))) (shown shape.Minus m us is) ∙ ap (λ b. not b || sees shape.Power (after us)) (unsigned m us h)
minus-front m us is (inr h) = ap (λ b. b && (not (is_sign (m ∷ us)) || sees shape.Power (after us))) (shown shape.Minus m us is) ∙ or-right (not (is_sign (m ∷ us))) _ (raised-seen us h)
  where
    or-right : (a b : Bool) → b ≡ true → (a || b) ≡ true
    or-right true b e = refl
    or-right false b e = e

left-false : (a b : Bool) → (a || b) ≡ false → a ≡ false
left-false true b e = e
left-false false b e = refl

right-false : (a b : Bool) → (a || b) ≡ false → b ≡ false
right-false true b e = absurd (cc)
right-false false b e = e

no-prefix : (o : Option Unary) → is_some o ≡ false → o ≡ None
no-prefix None e = refl
no-prefix (Some x) e = absurd (cc)

no-prefixes : (xs : List Token) → has_prefix xs ≡ false → (is_negation xs ≡ false) × (prefix_of xs ≡ None)
unfolding has_prefix
no-prefixes xs e = (left-false _ _ e, no-prefix _ (right-false (is_negation xs) _ e))

joined-steps : {A B C : Type 0} (o : Outcome A) (f : A → Parser B) (g : B → Parser C) → and_then (and_then o f) g ≡ and_then o (λ a ts. and_then (f a ts) g)
joined-steps (Ok p) f g = refl
joined-steps (Err rest) f g = refl

module _ (nested : Form → Bool → Parser Tree) (turns : ℕ) (ih : Complete turns nested) where
  pub prefixed-read : (free : Bool) (t : Tree) (xs ys : List Token) → DerivesPrefixed free t xs ys → Ends PREFIXED_ENDS free ys → length xs < turns → (prefixed nested turns free xs ≡ Ok (t, ys)) × Past xs ys × (is_negation xs ≡ false)
  unfolding prefixed unary_operation same_shape
  prefixed-read free t xs ys (Prefixed _ u operator a us _ row plus d) ends fits =
      let f = prefix-front u us operator row plus in
      let r = ih.prefixed free a us ys fits d ends in
      (ap (λ o. prefixed_by nested turns free o (u ∷ us)) f.1 ∙ on _ r.0 refl, past-token u (past-within r.1), f.0)
  prefixed-read free t xs ys (Posted _ last p ss _ _ d) ends fits =
      let f = operand-front xs (operand-begins free p ss last xs ys d) in
      let r = post-read nested turns ih free p ss last xs ys d (ends-wider PREFIXED_ENDS OPERAND_ENDS refl free ys ends) fits in
      (ap (λ o. prefixed_by nested turns free o xs) f.1 ∙ r.0, r.1, f.0)

  -- the tightest level: `-` in front, or `**` after
  pub nine-read : (level : ℕ) (free : Bool) (t : Tree) (xs ys : List Token) → DerivesLevel level free t xs ys → level ≡ 9 → Ends OPERATION_ENDS free ys → length xs < turns → Reads (negated nested turns free) t xs ys
  unfolding negated power powered unary_operation binary_operation spec.across same_shape
  nine-read level free t xs ys (Tighter _ _ _ _ _ less d) nine ends fits = absurd (let h : ⊥ = omega arith in h)
  nine-read level free t xs ys (FromLeft _ _ o operator a b _ ps _ other' d row e) nine ends fits = absurd (let k = operator-known level _ operator row in let l = k.small in let h : ⊥ = omega arith in h)
  nine-read level free t xs ys (Once _ o operator a b _ ps _ d row e) nine ends fits = absurd (let h : ⊥ = omega arith in h)
  nine-read level free t xs ys (Negated _ m a us _ is flat d) nine ends fits =
      let r = ih.negated free a us ys fits d ends in
      (taken _ _ (minus-front m us is flat) (on _ r.0 refl), past-token m (past-within r.1))
  nine-read level free t xs ys (Raised _ o a b _ ps _ d is e) nine ends fits =
      let r = prefixed-read free a xs (o ∷ ps) d (ends-by PREFIXED_ENDS shape.Power refl refl free o ps is) fits in
      let short = past-length r.1 in
      let l = ih.negated free b ps ys (let h : suc (length ps) < turns = omega arith in h) e ends in
      (passed _ _ r.2 (on _ r.0 (taken _ _ (shown shape.Power o ps is) (on _ l.0 refl))), past-more r.1 (within-token o (past-within l.1)))
  nine-read level free t xs ys (Plainly _ _ _ _ d) nine ends fits =
      let r = prefixed-read free t xs ys d (ends-wider OPERATION_ENDS PREFIXED_ENDS refl free ys ends) fits in
      (passed _ _ r.2 (on _ r.0 (passed _ _ (ends-unseen shape.Power OPERATION_ENDS refl free ys ends) refl)), r.1)

  -- what derives at a level is climbed to, and operators of the level may follow
  pub record Climbs (level : ℕ) (free : Bool) (t : Tree) (xs ys : List Token) : Type 0 where
    pub most : ℕ
    pub left : ℕ
    pub reads : (least : ℕ) → least ≤ suc level → operation nested turns free least xs ≡ climb_from nested turns free least left most t ys
    pub enough : length ys < left
    pub reached : level ≤ most
    pub room : level ≢ 2 → level ≤ 8 → level < most
    pub past : Past xs ys

  from-nine : (level : ℕ) (free : Bool) (t : Tree) (xs ys : List Token) → level ≡ 9 → Reads (negated nested turns free) t xs ys → length xs < turns → Climbs level free t xs ys
  unfolding operation climb
  from-nine level free t xs ys nine r fits = record {
    most = 9;
    left = turns;
    reads = λ least le. on _ r.0 refl;
    enough = let short = past-length r.1 in let h : length ys < turns = omega arith in h;
    reached = let h : level ≤ 9 = omega arith in h;
    room = λ a b. absurd (let h : ⊥ = omega arith in h);
    past = r.1;
  }

  ceiling-other : (level : ℕ) (operator : Binary) → level_of operator ≡ suc level → level ≢ 2 → ceiling operator ≡ suc level
  ceiling-other level operator e other' = let n : (level_of operator == 3) ≡ false = go (level_of operator == 3) refl in ap (λ b. if b then 2 else level_of operator) n ∙ e
    where
      go : (b : Bool) → (level_of operator == 3) ≡ b → b ≡ false
      go true f = absurd (let three : level_of operator ≡ 3 = grind (arith, nat_tests) in let two : level ≡ 2 = omega arith in other' two)
      go false f = refl

  ceiling-two : (operator : Binary) → level_of operator ≡ 3 → ceiling operator ≡ 2
  ceiling-two operator e = ap (λ n. if n == 3 then 2 else n) e

  -- one operator more
  joined : (level base : ℕ) (free : Bool) (o : Token) (operator : Binary) (a b : Tree) (xs ps ys : List Token) → IsOperator level (shape_of o.kind) operator → level ≤ base → (c : Climbs base free a xs (o ∷ ps)) → suc level ≤ c.most → DerivesLevel (suc level) free b ps ys →
      Ends OPERATION_ENDS free ys → IsLooser (suc (suc level)) ys → length xs < turns → level ≤ ceiling operator → (level ≢ 2 → level ≤ 8 → level < ceiling operator) →
      Climbs level free (tree.Binary operator o.span a b (across (span_of a) (span_of b))) xs ys
  unfolding climb_from binary_operation spec.across
  joined level base free o operator a b xs ps ys k low c high d ends loose fits reach room = go c.left c.enough c.reads
    where
      next : level_of operator + 1 ≡ suc (suc level)
      next = let e = k.tight in omega arith

      right : Reads (nested (form.Operation (level_of operator + 1)) free) b ps ys
      right = let short = past-length c.past in let s = k.small in subst (λ n. Reads (nested (form.Operation n) free) b ps ys) (sym next) (ih.level (suc level) (let h : suc level ≤ 9 = omega arith in h) free b ps ys (let h : suc (length ps) < turns = omega arith in h) d ends loose)

      go : (n : ℕ) → length (o ∷ ps) < n → ((least : ℕ) → least ≤ suc base → operation nested turns free least xs ≡ climb_from nested turns free least n c.most a (o ∷ ps)) → Climbs level free (tree.Binary operator o.span a b (across (span_of a) (span_of b))) xs ys
      go zero less e = absurd (let h : ⊥ = omega arith in h)
      go (suc n) less e = record {
        most = ceiling operator;
        left = n;
        reads = λ least le. let t = k.tight in e least (let h : least ≤ suc base = omega arith in h)
            ∙ ap (λ x. climb_by nested turns free (climb_from nested turns free least n) a x (o ∷ ps)) (an-operator least c.most _ operator k.reads (let h : least ≤ level_of operator = omega arith in h) (let h : level_of operator ≤ c.most = omega arith in h))
            ∙ on _ (on _ right.0 refl) refl;
        enough = let short = past-length right.1 in let h : length ys < n = omega arith in h;
        reached = reach;
        room = room;
        past = past-more c.past (within-token o (past-within right.1));
      }

  pub climbs : (level : ℕ) (free : Bool) (t : Tree) (xs ys : List Token) → DerivesLevel level free t xs ys → level ≤ 9 → Ends OPERATION_ENDS free ys → IsLooser (suc (suc level)) ys → length xs < turns → Climbs level free t xs ys
  climbs level free t xs ys (Tighter _ _ _ _ _ less d) low ends loose fits =
      let c = climbs (suc level) free t xs ys d (let h : suc level ≤ 9 = omega arith in h) ends (looser-more (suc (suc level)) (suc (suc (suc level))) ys (let h : suc (suc level) ≤ suc (suc (suc level)) = omega arith in h) loose) fits in
      record {
        most = c.most;
        left = c.left;
        reads = λ least le. c.reads least (let h : least ≤ suc (suc level) = omega arith in h);
        enough = c.enough;
        reached = let r = c.reached in let h : level ≤ c.most = omega arith in h;
        room = λ a b. let r = c.reached in let h : level < c.most = omega arith in h;
        past = c.past;
      }
  climbs level free t xs ys (FromLeft _ _ o operator a b _ ps _ other' d row e) low ends loose fits =
      let k = operator-known level _ operator row in
      let c = climbs level free a xs (o ∷ ps) d low (operator-ends level operator free o ps k) (operator-looser level (suc (suc level)) operator o ps k (let h : suc level < suc (suc level) = omega arith in h)) fits in
      let s = k.small in
      let r = c.room other' s in
      let top = ceiling-other level operator k.tight other' in
      joined level level free o operator a b xs ps ys k (let h : level ≤ level = omega arith in h) c (let h : suc level ≤ c.most = omega arith in h) e ends loose fits
      (let h : level ≤ ceiling operator = omega arith in h) (λ x y. let h : level < ceiling operator = omega arith in h)
  climbs level free t xs ys (Once _ o operator a b _ ps _ d row e) low ends loose fits =
      let k = operator-known 2 _ operator row in
      let c = climbs 3 free a xs (o ∷ ps) d (let h : 3 ≤ 9 = omega arith in h) (operator-ends 2 operator free o ps k) (operator-looser 2 5 operator o ps k (let h : 3 < 5 = omega arith in h)) fits in
      let r = c.reached in
      let top = ceiling-two operator k.tight in
      joined 2 3 free o operator a b xs ps ys k (let h : 2 ≤ 3 = omega arith in h) c (let h : 3 ≤ c.most = omega arith in h) e ends loose fits
      (let h : 2 ≤ ceiling operator = omega arith in h) (λ x y. absurd (x refl))
  climbs level free t xs ys (Negated _ m a us _ is flat d) low ends loose fits = from-nine 9 free t xs ys refl (nine-read 9 free t xs ys (Negated _ m a us _ is flat d) refl ends fits) fits
  climbs level free t xs ys (Raised _ o a b _ ps _ d is e) low ends loose fits = from-nine 9 free t xs ys refl (nine-read 9 free t xs ys (Raised _ o a b _ ps _ d is e) refl ends fits) fits
  climbs level free t xs ys (Plainly _ _ _ _ d) low ends loose fits = from-nine 9 free t xs ys refl (nine-read 9 free t xs ys (Plainly _ _ _ _ d) refl ends fits) fits

  pub operation-read : (level : ℕ) (free : Bool) (t : Tree) (xs ys : List Token) → DerivesLevel level free t xs ys → level ≤ 9 → Ends OPERATION_ENDS free ys → IsLooser (suc level) ys → length xs < turns → Reads (operation nested turns free (suc level)) t xs ys
  unfolding climb_from
  operation-read level free t xs ys d low ends loose fits = go c.left c.enough (c.reads (suc level) (let h : suc level ≤ suc level = omega arith in h))
    where
      c : Climbs level free t xs ys
      c = climbs level free t xs ys d low ends (looser-more (suc level) (suc (suc level)) ys (let h : suc level ≤ suc (suc level) = omega arith in h) loose) fits

      go : (n : ℕ) → length ys < n → operation nested turns free (suc level) xs ≡ climb_from nested turns free (suc level) n c.most t ys → Reads (operation nested turns free (suc level)) t xs ys
      go zero less e = absurd (let h : ⊥ = omega arith in h)
      go (suc n) less e = (e ∙ ap (λ o. climb_by nested turns free (climb_from nested turns free (suc level) n) t o ys) (no-operator (suc level) c.most ys loose), c.past)

  pub tern-read : (free : Bool) (t : Tree) (xs ys : List Token) → DerivesTerm free t xs ys → Ends TERM_ENDS free ys → length xs < turns → Reads (tern nested turns free) t xs ys
  unfolding tern chosen alternatives spec.across same_shape
  tern-read free t xs ys (Operated _ _ _ _ d) ends fits =
      let r = operation-read 0 free t xs ys d (let h : 0 ≤ 9 = omega arith in h) (ends-wider TERM_ENDS OPERATION_ENDS refl free ys ends) (looser-by TERM_ENDS refl free ys ends 1) fits in
      (on _ r.0 (passed _ _ (ends-unseen shape.Question TERM_ENDS refl free ys ends) refl), r.1)
  tern-read free t xs ys (Conditional _ q k c a b _ ps qs _ d is e is2 f) ends fits =
      let question = ends-by (shape.Question ∷ []) shape.Question refl refl free q ps is in
      let r = operation-read 0 free c xs (q ∷ ps) d (let h : 0 ≤ 9 = omega arith in h) (ends-by OPERATION_ENDS shape.Question refl refl free q ps is) (looser-by (shape.Question ∷ []) refl free (q ∷ ps) question 1) fits in
      let short = past-length r.1 in
      let l = ih.term free a ps (k ∷ qs) (let h : suc (length ps) < turns = omega arith in h) e (ends-by TERM_ENDS shape.Colon refl refl free k qs is2) in
      let short2 = past-length l.1 in
      let m = ih.term free b qs ys (let h : suc (length qs) < turns = omega arith in h) f ends in
      (on _ r.0 (taken _ _ (shown shape.Question q ps is) (on _ (expects shape.Question q ps is) (on _ l.0 (on _ (expects shape.Colon k qs is2) (on _ m.0 refl))))), past-more r.1 (within-token q (within-more (past-within l.1) (within-token k (past-within m.1)))))

  -- ---- the first operand

  -- an operand, and what stands after it
  pub record First (free : Bool) (xs : List Token) : Type 0 where
    pub first : Tree
    pub rest : List Token
    pub reads : post nested turns free xs ≡ Ok (first, rest)
    pub ends : Ends PREFIXED_ENDS free rest

  prefixed-first : (free : Bool) (t : Tree) (xs ys : List Token) → DerivesPrefixed free t xs ys → Ends PREFIXED_ENDS free ys → prefix_of xs ≡ None → length xs < turns → First free xs
  unfolding same_shape
  prefixed-first free t xs ys (Prefixed _ u operator a us _ row plus d) ends none fits = absurd (let f = (prefix-front u us operator row plus).1 in cc)
  prefixed-first free t xs ys (Posted _ last p ss _ _ d) ends none fits =
      let r = post-read nested turns ih free p ss last xs ys d (ends-wider PREFIXED_ENDS OPERAND_ENDS refl free ys ends) fits in
      record { first = t; rest = ys; reads = r.0; ends = ends }

  level-first : (level : ℕ) (free : Bool) (t : Tree) (xs ys : List Token) → DerivesLevel level free t xs ys → Ends PREFIXED_ENDS free ys → is_negation xs ≡ false → prefix_of xs ≡ None → length xs < turns → First free xs
  unfolding same_shape
  level-first level free t xs ys (Tighter _ _ _ _ _ less d) ends flat none fits = level-first (suc level) free t xs ys d ends flat none fits
  level-first level free t xs ys (FromLeft _ _ o operator a b _ ps _ other' d row e) ends flat none fits = level-first level free a xs (o ∷ ps) d (ends-wider OPERATION_ENDS PREFIXED_ENDS refl free (o ∷ ps) (operator-ends level operator free o ps (operator-known level _ operator row))) flat none fits
  level-first level free t xs ys (Once _ o operator a b _ ps _ d row e) ends flat none fits = level-first 3 free a xs (o ∷ ps) d (ends-wider OPERATION_ENDS PREFIXED_ENDS refl free (o ∷ ps) (operator-ends 2 operator free o ps (operator-known 2 _ operator row))) flat none fits
  level-first level free t xs ys (Negated _ m a us _ is up d) ends flat none fits = absurd (let f = minus-front m us is up in cc)
  level-first level free t xs ys (Raised _ o a b _ ps _ d is e) ends flat none fits = prefixed-first free a xs (o ∷ ps) d (ends-by PREFIXED_ENDS shape.Power refl refl free o ps is) none fits
  level-first level free t xs ys (Plainly _ _ _ _ d) ends flat none fits = prefixed-first free t xs ys d ends none fits

  pub term-first : (free : Bool) (t : Tree) (xs ys : List Token) → DerivesTerm free t xs ys → Ends TERM_ENDS free ys → has_prefix xs ≡ false → length xs < turns → First free xs
  unfolding same_shape
  term-first free t xs ys (Operated _ _ _ _ d) ends none fits = let f = no-prefixes xs none in level-first 0 free t xs ys d (ends-wider TERM_ENDS PREFIXED_ENDS refl free ys ends) f.0 f.1 fits
  term-first free t xs ys (Conditional _ q k c a b _ ps qs _ d is e is2 g) ends none fits = let f = no-prefixes xs none in level-first 0 free c xs (q ∷ ps) d (ends-by PREFIXED_ENDS shape.Question refl refl free q ps is) f.0 f.1 fits

  power-parts : (free : Bool) (xs rest : List Token) (first : Tree) → prefix_of xs ≡ None → post nested turns free xs ≡ Ok (first, rest) → power nested turns free xs ≡ powered nested turns free first rest
  unfolding power prefixed
  power-parts free xs rest first none e = ap (λ o. and_then o (powered nested turns free)) (ap (λ o. prefixed_by nested turns free o xs) none ∙ e)

  negated-parts : (free : Bool) (xs rest : List Token) (first : Tree) → is_negation xs ≡ false → prefix_of xs ≡ None → post nested turns free xs ≡ Ok (first, rest) → negated nested turns free xs ≡ powered nested turns free first rest
  unfolding negated
  negated-parts free xs rest first flat none e = passed _ _ flat (power-parts free xs rest first none e)

  -- a term is read as its first operand and the rest
  pub tern-parts : (free : Bool) (xs rest : List Token) (first : Tree) → has_prefix xs ≡ false → post nested turns free xs ≡ Ok (first, rest) → tern nested turns free xs ≡ tern_after nested turns free first rest
  unfolding tern tern_after operation
  tern-parts free xs rest first none e =
      let f = no-prefixes xs none in
      ap (λ o. and_then (and_then o (climb nested turns free 1)) (chosen nested turns free)) (negated-parts free xs rest first f.0 f.1 e)
      ∙ joined-steps (powered nested turns free first rest) (climb nested turns free 1) (chosen nested turns free)
