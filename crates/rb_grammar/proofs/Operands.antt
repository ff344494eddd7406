-- Operands that are read derive, with their last tokens.
use Rattle.std.proofs.Common.{◌≡◌, ℕ, zero, suc, Bool, true, false, List, [], ◌∷◌, ◌++◌, Option, Some, None, ◌⊎◌, inl, inr, refl, sym, ap, subst, ◌∙◌, append_assoc, append-nil, arith, ⊎_elim}
use Rattle.std.proofs.lemmas.Bool.Decides.{nat_tests}
use Rattle.srb_terms.specs.declared.span.Span.{Span}
use Rattle.rb_tree.specs.Tokens.{shape_of, same_shape}
use Rattle.rb_tree.specs.declared.syntax.Argument.{Argument}
use Rattle.rb_tree.specs.declared.syntax.Block.{Block}
use Rattle.rb_tree.specs.declared.syntax.Pair.{Pair}
use Rattle.rb_tree.specs.declared.syntax.Piece.{Piece}
use Rattle.rb_tree.specs.declared.syntax.Piece.TheVariants as piece
use Rattle.rb_tree.specs.declared.syntax.Sign.{Sign}
use Rattle.rb_tree.specs.declared.syntax.Sign.TheVariants as sign
use Rattle.rb_tree.specs.declared.syntax.Test.TheVariants as test
use Rattle.rb_tree.specs.declared.syntax.Tree.{Tree}
use Rattle.rb_tree.specs.Nodes as tree
use Rattle.rb_tree.specs.declared.syntax.Node.TheVariants.{rolls-Whole, rolls-Float, rolls-Text, rolls-Symbol, rolls-InstanceVariable, rolls-Constant, rolls-TopConstant, rolls-SelfWord, rolls-Nil, rolls-True, rolls-False, rolls-Name, rolls-Call, rolls-Yield, rolls-Super, rolls-Array, rolls-Hash, rolls-Parens}
use Rattle.rb_tree.specs.declared.token.Token.{Token}
use Rattle.rb_tree.specs.declared.token.Shape.{Shape}
use Rattle.rb_tree.specs.declared.token.Shape.TheVariants as shape
use Rattle.rb_expr.specs.declared.form.Form.{Form}
use Rattle.rb_expr.specs.Reading.{Parser, start_of, sees, skip_separators, touches, words_of}
use Rattle.rb_expr.specs.Shapes.{is_signed}
use Rattle.rb_expr.specs.Operands as spec
use Rattle.rb_expr.specs.Operands.{number_by, number, touching, signed, unraised, negative, top_constant, word_by, word, call_of, interpolation, pieces_from, pieces, called, yielding, super_call, elements_from, elements, array_from, array, label_pair, arrow_pair, a_pair, pairs_from, pairs, hash_from, hash, parens, primary_by, primary}
use Rattle.rb_rules.specs.Tokens.{Is, StartsWith, Touches, IsWhole, IsFloat, IsText}
use Rattle.rb_rules.specs.Spans.{across}
use Rattle.rb_rules.specs.Forms.{Inside}
use Rattle.rb_rules.specs.Grammar.{Gap, IsRow, SIGNS, DerivesEnd, DerivesBody, DerivesTerm, DerivesBlock, DerivesPieces, DerivesElements, DerivesPairs, DerivesPair}
use Rattle.rb_rules.specs.Grammar.DerivesBrackets.{NoBrackets}
use Rattle.rb_rules.specs.Grammar.DerivesPieces.{NoPiece, MorePieces}
use Rattle.rb_rules.specs.Grammar.DerivesElements.{LastElement, MoreElements}
use Rattle.rb_rules.specs.Grammar.DerivesPairs.{LastPair, MorePairs}
use Rattle.rb_rules.specs.Grammar.DerivesPair.{ByArrow, ByLabel}
use Rattle.rb_rules.specs.Grammar.DerivesTarget.{Variable, Instance, Constant as ConstantTarget}
use Rattle.rb_rules.specs.Grammar.DerivesCallee.{Own, YieldWord, SuperWord}
use Rattle.rb_rules.specs.Grammar.DerivesPrimary.{WholeNumber, FloatNumber, SignedWhole, SignedFloat, String, SymbolName, InstanceName, ConstantName, FromTop, SelfPlace, NilPlace, TruePlace, FalsePlace, NameAlone, CallWithBrackets, CallWithBlock, Yields, Supers, EmptyArray, SomeArray, EmptyHash, SomeHash, InParens}
use Rattle.rb_grammar.proofs.Steps.{Holds, answered, refused, step, weaker, choose, choosing, taking, naming, wording, follow, follow-words, shown, Within, within-self, within-token, within-more, gap, identifier, constant, instance_variable, label, symbol, whole, float, text}
use Rattle.rb_grammar.proofs.Sound.{Sound, Primary, starts, used}
use Rattle.rb_grammar.proofs.Lists.{and-left, element-holds}
use Rattle.rb_grammar.proofs.Branches.{branch-holds, repeated-holds, choice-holds, guards-holds}
use Rattle.rb_grammar.proofs.Calls.{Given, given-holds, Blocked, block-after-holds}

-- ---- numbers

-- a number with this sign, from this place on
abbrev ANumber : Option Sign → ℕ → List Token → Tree → List Token → Type 0
ANumber mark start xs v ys = (t : Token) × (w : List ℕ) × (xs ≡ t ∷ ys)
    × ((IsWhole t w × (v ≡ tree.Whole mark w (record { start = start; end = t.span.end }))) ⊎ (IsFloat t w × (v ≡ tree.Float mark w (record { start = start; end = t.span.end }))))

number-by : (mark : Option Sign) (start : ℕ) (s : Shape) (xs : List Token) → Holds (number_by mark start (Some s) xs) (ANumber mark start xs)
number-by mark start shape.Whole xs = wording shape.Whole (ANumber mark start) _ xs (λ t ts is. answered (ANumber mark start (t ∷ ts)) _ _ (t, words_of t.kind, refl, inl (whole t is, refl)))
number-by mark start shape.Float xs = wording shape.Float (ANumber mark start) _ xs (λ t ts is. answered (ANumber mark start (t ∷ ts)) _ _ (t, words_of t.kind, refl, inr (float t is, refl)))
number-by mark start s xs = refused _ _

number-holds : (mark : Option Sign) (start : ℕ) (xs : List Token) → Holds (number mark start xs) (ANumber mark start xs)
unfolding number
number-holds mark start [] = refused _ _
number-holds mark start (t ∷ ts) = number-by mark start (shape_of t.kind) (t ∷ ts)

whole-place : (free : Bool) (t : Token) (w : List ℕ) (ts : List Token) → IsWhole t w → Primary free (t ∷ ts) (tree.Whole None w t.span) ts
whole-place free t w ts is = (t, WholeNumber _ _ _ _ is, within-self _, starts _ _ _ (rolls-Whole _ _ _) refl, used _ _ _ _ _ (rolls-Whole _ _ _) tt)

float-place : (free : Bool) (t : Token) (w : List ℕ) (ts : List Token) → IsFloat t w → Primary free (t ∷ ts) (tree.Float None w t.span) ts
float-place free t w ts is = (t, FloatNumber _ _ _ _ is, within-self _, starts _ _ _ (rolls-Float _ _ _) refl, used _ _ _ _ _ (rolls-Float _ _ _) tt)

plain-number : (free : Bool) (xs : List Token) (v : Tree) (ys : List Token) → ANumber None (start_of xs) xs v ys → Primary free xs v ys
plain-number free xs v ys h = ⊎_elim
    (λ k. subst (λ zs. v ≡ tree.Whole None h.1 (record { start = start_of zs; end = h.0.span.end }) → Primary free zs v ys) (sym h.2) (λ e. subst (λ u. Primary free (h.0 ∷ ys) u ys) (sym e) (whole-place free h.0 h.1 ys k.0)) k.1)
    (λ k. subst (λ zs. v ≡ tree.Float None h.1 (record { start = start_of zs; end = h.0.span.end }) → Primary free zs v ys) (sym h.2) (λ e. subst (λ u. Primary free (h.0 ∷ ys) u ys) (sym e) (float-place free h.0 h.1 ys k.0)) k.1)
    h.3

plain-holds : (free : Bool) (xs : List Token) → Holds (number None (start_of xs) xs) (Primary free xs)
plain-holds free xs = weaker (number-holds None (start_of xs) xs) (λ v ys h. plain-number free xs v ys h)

touch : (place : Span) (n : Token) (ns : List Token) → touches place (n ∷ ns) ≡ true → n.span.start ≡ place.end
touch place n ns e = grind (arith, nat_tests)

-- a number that touches its sign
abbrev Touched : Sign → Token → List Token → Tree → List Token → Type 0
Touched how s ss v ys = (t : Token) × (w : List ℕ) × (ss ≡ t ∷ ys) × Touches s t
    × ((IsWhole t w × (v ≡ tree.Whole (Some how) w (across s.span t.span))) ⊎ (IsFloat t w × (v ≡ tree.Float (Some how) w (across s.span t.span))))

touching-holds : (how : Sign) (s : Token) (ss : List Token) → Holds (touching how s.span ss) (Touched how s ss)
unfolding touching is_signed
touching-holds how s [] = refused _ _
touching-holds how s (n ∷ ns) = choosing (is_signed s.span (n ∷ ns))
    (λ e. weaker (number-holds (Some how) s.span.start (n ∷ ns)) (λ v ys h.
    let meets = touch s.span n ns (and-left _ _ e) in
    (h.0, h.1, h.2, subst (λ zs. start_of zs ≡ s.span.end) h.2 meets, h.3)))
    (λ e. refused _ _)

signed-place : (free : Bool) (how : Sign) (s : Token) (ss : List Token) (v : Tree) (ys : List Token) → IsRow SIGNS (shape_of s.kind) how → (how ≡ sign.Plus ⊎ (¬ StartsWith (shape.Power ∷ []) ys)) → Touched how s ss v ys → Primary free (s ∷ ss) v ys
signed-place free how s ss v ys row raised h = subst (λ zs. Primary free (s ∷ zs) v ys) (sym h.2) (⊎_elim
    (λ k. subst (λ u. Primary free (s ∷ h.0 ∷ ys) u ys) (sym k.1) (h.0, SignedWhole _ _ _ _ _ _ row h.3 raised k.0, within-token s (within-self _), starts _ _ _ (rolls-Whole _ _ _) refl, used _ _ _ _ _ (rolls-Whole _ _ _) tt))
    (λ k. subst (λ u. Primary free (s ∷ h.0 ∷ ys) u ys) (sym k.1) (h.0, SignedFloat _ _ _ _ _ _ row h.3 raised k.0, within-token s (within-self _), starts _ _ _ (rolls-Float _ _ _) refl, used _ _ _ _ _ (rolls-Float _ _ _) tt))
    h.4)

not-next : (s : Shape) (xs : List Token) → sees s xs ≡ false → ¬ StartsWith (s ∷ []) xs
not-next s [] e h = h
not-next s (t ∷ ts) e (inl is) = let shown' = shown s t ts is in absurd (cc)
not-next s (t ∷ ts) e (inr h) = h

plus-holds : (free : Bool) (s : Token) (ss : List Token) → Is shape.Plus s → Holds (signed sign.Plus (s ∷ ss)) (Primary free (s ∷ ss))
unfolding signed
plus-holds free s ss is = weaker (touching-holds sign.Plus s ss) (λ v ys h. signed-place free sign.Plus s ss v ys (inr (inl (is, refl))) (inl refl) h)

minus-holds : (free : Bool) (s : Token) (ss : List Token) → Is shape.Minus s → Holds (negative (s ∷ ss)) (Primary free (s ∷ ss))
unfolding negative signed unraised
minus-holds free s ss is = step (touching-holds sign.Minus s ss) (λ v ys h. choose (λ e. refused _ _)
    (λ e. answered (Primary free (s ∷ ss)) v ys (signed-place free sign.Minus s ss v ys (inl (is, refl)) (inr (not-next shape.Power ys e)) h)))

-- ---- words

word-holds : (free : Bool) (c : Shape) (t : Token) (ts : List Token) → Is c t → Primary free (t ∷ ts) (word_by (Some c) t.span) ts → Holds (word (t ∷ ts)) (Primary free (t ∷ ts))
unfolding word
word-holds free c t ts is h = answered (Primary free (t ∷ ts)) _ _ (subst (λ c. Primary free (t ∷ ts) (word_by (Some c) t.span) ts) (sym is) h)

symbol-holds : (free : Bool) (xs : List Token) → Holds (spec.symbol xs) (Primary free xs)
unfolding spec.symbol
symbol-holds free xs = wording shape.Symbol (Primary free) _ xs (λ t ts is. answered (Primary free (t ∷ ts)) _ _
    (t, SymbolName _ _ _ _ (symbol t is), within-self _, starts _ _ _ (rolls-Symbol _ _) refl, used _ _ _ _ _ (rolls-Symbol _ _) tt))

instance-holds : (free : Bool) (xs : List Token) → Holds (spec.instance_variable xs) (Primary free xs)
unfolding spec.instance_variable
instance-holds free xs = naming shape.InstanceVariable (Primary free) _ xs (λ t ts is. answered (Primary free (t ∷ ts)) _ _
    (t, InstanceName _ _ _ _ (instance_variable t is), within-self _, starts _ _ _ (rolls-InstanceVariable _ _) refl, used _ _ _ _ _ (rolls-InstanceVariable _ _) (λ constants. Instance _ _ _ _ _ (instance_variable t is))))

constant-holds : (free : Bool) (xs : List Token) → Holds (spec.constant xs) (Primary free xs)
unfolding spec.constant
constant-holds free xs = naming shape.Constant (Primary free) _ xs (λ t ts is. answered (Primary free (t ∷ ts)) _ _
    (t, ConstantName _ _ _ _ (constant t is), within-self _, starts _ _ _ (rolls-Constant _ _) refl, used _ _ _ _ _ (rolls-Constant _ _) (ConstantTarget _ _ _ _ (constant t is))))

top-holds : (free : Bool) (c : Token) (cs : List Token) → Is shape.Scope c → Holds (top_constant (c ∷ cs)) (Primary free (c ∷ cs))
unfolding top_constant
top-holds free c cs is = naming shape.Constant (λ xs. Primary free (c ∷ xs)) _ cs (λ t ts con. answered (Primary free (c ∷ t ∷ ts)) _ _
    (t, FromTop _ _ _ _ _ is (constant t con), within-token c (within-self _), starts _ _ _ (rolls-TopConstant _ _ _) refl, used _ _ _ _ _ (rolls-TopConstant _ _ _) tt))

-- ---- strings and calls

module _ (nested : Form → Bool → Parser Tree) (ih : Sound nested) (turns : ℕ) (free : Bool) where
  abbrev Pair' : List Token → Pair Tree → List Token → Type 0
  Pair' xs p ys = DerivesPair p xs ys × Within xs ys

  -- after some pieces, the last of which ends with this token
  abbrev Pieced : ℕ → Token → List (Piece Tree) → List Token → Tree → List Token → Type 0
  Pieced start before found xs t ys = (more : List (Piece Tree)) × (last : Token) × (t ≡ tree.Text (found ++ more) (record { start = start; end = last.span.end })) × DerivesPieces more before last xs ys × Within (before ∷ xs) (last ∷ ys)

  abbrev APiece : List Token → Piece Tree → List Token → Type 0
  APiece xs p ys = (o c : Token) × (os : List Token) × (body : Tree) × (xs ≡ o ∷ os) × Is shape.Interpolation o × (p ≡ piece.Code body (across o.span c.span)) × DerivesBody Inside true body os (c ∷ ys) × Is shape.CloseBrace c × Within os (c ∷ ys)

  code-holds : (xs : List Token) → Holds (interpolation nested turns free xs) (APiece xs)
  unfolding interpolation
  code-holds xs = taking shape.Interpolation APiece _ xs (λ o os is. step (ih.body true os) (λ body ps hb.
      follow shape.CloseBrace (λ ps. DerivesBody Inside true body os ps × Within os ps) _ _ _ (hb.0, hb.1) (λ c ys closes hb.
      answered (APiece (o ∷ os)) _ _ (o, c, os, body, refl, is, refl, hb.0, closes, hb.1))))

  pieces-over : (start : ℕ) (before : Token) (found : List (Piece Tree)) (xs : List Token) → Pieced start before found xs (tree.Text found (record { start = start; end = before.span.end })) xs
  pieces-over start before found xs = ([], before, ap (λ ps. tree.Text ps (record { start = start; end = before.span.end })) (sym (append-nil found)), NoPiece _ _, within-self _)

  pieces-more : (start : ℕ) (before u : Token) (found : List (Piece Tree)) (xs us : List Token) (p : Piece Tree) → IsText u (words_of u.kind) → APiece xs p (u ∷ us) → (t : Tree) (ys : List Token) →
      Pieced start u ((found ++ p ∷ []) ++ piece.Words (words_of u.kind) u.span ∷ []) us t ys → Pieced start before found xs t ys
  pieces-more start before u found xs us p is h t ys g =
      let words = piece.Words (words_of u.kind) u.span in
      let joined : ((found ++ p ∷ []) ++ words ∷ []) ++ g.0 ≡ found ++ p ∷ words ∷ g.0 = append_assoc (found ++ p ∷ []) (words ∷ []) g.0 ∙ append_assoc found (p ∷ []) (words ∷ g.0) in
      subst (λ zs. Pieced start before found zs t ys) (sym h.4) (
        p ∷ words ∷ g.0,
        g.1,
        g.2 ∙ ap (λ ps. tree.Text ps (record { start = start; end = g.1.span.end })) joined,
        subst (λ q. DerivesPieces (q ∷ words ∷ g.0) before g.1 (h.0 ∷ h.2) ys) (sym h.6) (MorePieces _ _ _ _ _ _ _ _ _ _ _ h.5 h.7 h.8 is g.3),
        within-token before (within-token h.0 (within-more h.9 (within-token h.1 g.4))),
      )

  pieces-by : (start : ℕ) (before : Token) (n : ℕ) (found : List (Piece Tree)) (xs : List Token) → Holds (pieces_from nested turns free start before.span.end n found xs) (Pieced start before found xs)
  unfolding pieces_from
  pieces-by start before zero found xs = refused _ _
  pieces-by start before (suc n) found xs = choosing (sees shape.Interpolation xs)
      (λ e. step (code-holds xs) (λ p ps h. follow-words shape.Text (APiece xs p) _ _ _ h (λ u us is h.
      weaker (pieces-by start u n ((found ++ p ∷ []) ++ piece.Words (words_of u.kind) u.span ∷ []) us) (λ t ys g. pieces-more start before u found xs us p (text u is) h t ys g))))
      (λ e. answered (Pieced start before found xs) _ _ (pieces-over start before found xs))

  text-holds : (xs : List Token) → Holds (spec.text nested turns free xs) (Primary free xs)
  unfolding spec.text pieces
  text-holds xs = wording shape.Text (Primary free) _ xs (λ t ts is. weaker (pieces-by t.span.start t turns (piece.Words (words_of t.kind) t.span ∷ []) ts) (λ v ys g.
      subst (λ u. Primary free (t ∷ ts) u ys) (sym g.2) (g.1, String _ _ _ _ _ _ _ (text t is) g.3, g.4, starts _ _ _ (rolls-Text _ _) refl, used _ _ _ _ _ (rolls-Text _ _) tt)))

  -- ---- calls

  -- a name alone
  name-alone : (n : Token) (ns : List Token) → Is shape.Identifier n → Primary free (n ∷ ns) (tree.Name (words_of n.kind) n.span) ns
  name-alone n ns is = (n, NameAlone _ _ _ _ (identifier n is), within-self _, starts _ _ _ (rolls-Name _ _) refl, used _ _ _ _ _ (rolls-Name _ _) ((λ constants. Variable _ _ _ _ _ (identifier n is)), Own _ _ _ _ (identifier n is)))

  call-made : (n : Token) (ns ps : List Token) → Is shape.Identifier n → (given : Option (List (Argument Tree))) (end : ℕ) → (b : Option (Block Tree)) (ys : List Token) (g : Given nested ih turns free n ns (given, end) ps) → Blocked nested ih turns free given g.0 ps b ys →
      Primary free (n ∷ ns) (call_of (record { name = words_of n.kind; span = n.span }) given end b) ys
  call-made n ns ps is None end None ys g h = subst (λ zs. Primary free (n ∷ ns) (tree.Name (words_of n.kind) n.span) zs) (g.5.1 ∙ h.0.4.1) (name-alone n ns is)
  call-made n ns ps is None end (Some b) ys g h =
      let last = h.0.0 in
      let closed' : b.span.end ≡ last.span.end = h.0.2 end g.2 in
      subst (λ e. Primary free (n ∷ ns) (tree.Call (words_of n.kind) n.span None (Some b) (record { start = n.span.start; end = e })) ys) (sym closed')
      (last, CallWithBlock _ _ _ _ _ _ _ (identifier n is) (subst (λ zs. DerivesBlock free b last zs ys) (sym g.5.1) h.0.4), within-more g.4 h.0.3, starts _ _ _ (rolls-Call (words_of n.kind) n.span None (Some b) (record { start = n.span.start; end = last.span.end })) refl, used free (tree.Call (words_of n.kind) n.span None (Some b) (record { start = n.span.start; end = last.span.end })) _ (n ∷ ns) ys (rolls-Call (words_of n.kind) n.span None (Some b) (record { start = n.span.start; end = last.span.end })) tt)
  call-made n ns ps is (Some given) end b ys g h =
      let last = h.0.0 in
      subst (λ e. Primary free (n ∷ ns) (tree.Call (words_of n.kind) n.span (Some given) b (record { start = n.span.start; end = e })) ys) (sym (h.0.2 end g.2))
      (last, CallWithBrackets _ _ _ _ _ _ _ _ _ _ (identifier n is) g.1 h.0.1 h.1, within-more g.4 h.0.3, starts _ _ _ (rolls-Call (words_of n.kind) n.span (Some given) b (record { start = n.span.start; end = last.span.end })) refl, used free (tree.Call (words_of n.kind) n.span (Some given) b (record { start = n.span.start; end = last.span.end })) _ (n ∷ ns) ys (rolls-Call (words_of n.kind) n.span (Some given) b (record { start = n.span.start; end = last.span.end })) tt)

  called-holds : (xs : List Token) → Holds (called nested turns free xs) (Primary free xs)
  unfolding called
  called-holds xs = naming shape.Identifier (Primary free) _ xs (λ n ns is. step (given-holds nested ih turns free n ns) (λ given ps g.
      step (block-after-holds nested ih turns free given.0 g.0 ps g.3) (λ b ys h. answered (Primary free (n ∷ ns)) _ _ (call-made n ns ps is given.0 given.1 b ys g h))))

  yield-made : (t : Token) (ts : List Token) → Is shape.Yield t → (given : Option (List (Argument Tree))) (end : ℕ) (ys : List Token) → Given nested ih turns free t ts (given, end) ys → Primary free (t ∷ ts) (tree.Yield given (record { start = t.span.start; end = end })) ys
  yield-made t ts is None end ys g =
      let alone' : end ≡ t.span.end = g.2 ∙ ap (λ u. u.span.end) (sym g.5.0) in
      subst (λ e. Primary free (t ∷ ts) (tree.Yield None (record { start = t.span.start; end = e })) ys) (sym alone')
      (subst (λ zs. Primary free (t ∷ ts) (tree.Yield None t.span) zs) g.5.1
      (t, Yields _ _ _ _ _ _ is (NoBrackets _ _), within-self _, starts _ _ _ (rolls-Yield None t.span) refl, used free (tree.Yield None t.span) _ (t ∷ ts) ts (rolls-Yield None t.span) (YieldWord _ _ _ is)))
  yield-made t ts is (Some given) end ys g =
      subst (λ e. Primary free (t ∷ ts) (tree.Yield (Some given) (record { start = t.span.start; end = e })) ys) (sym g.2)
      (g.0, Yields _ _ _ _ _ _ is g.1, g.4, starts _ _ _ (rolls-Yield (Some given) (record { start = t.span.start; end = g.0.span.end })) refl, used free (tree.Yield (Some given) (record { start = t.span.start; end = g.0.span.end })) _ (t ∷ ts) ys (rolls-Yield (Some given) (record { start = t.span.start; end = g.0.span.end })) tt)

  super-made : (t : Token) (ts : List Token) → Is shape.Super t → (given : Option (List (Argument Tree))) (end : ℕ) (ys : List Token) → Given nested ih turns free t ts (given, end) ys → Primary free (t ∷ ts) (tree.Super given (record { start = t.span.start; end = end })) ys
  super-made t ts is None end ys g =
      let alone' : end ≡ t.span.end = g.2 ∙ ap (λ u. u.span.end) (sym g.5.0) in
      subst (λ e. Primary free (t ∷ ts) (tree.Super None (record { start = t.span.start; end = e })) ys) (sym alone')
      (subst (λ zs. Primary free (t ∷ ts) (tree.Super None t.span) zs) g.5.1
      (t, Supers _ _ _ _ _ _ is (NoBrackets _ _), within-self _, starts _ _ _ (rolls-Super None t.span) refl, used free (tree.Super None t.span) _ (t ∷ ts) ts (rolls-Super None t.span) (SuperWord _ _ _ is)))
  super-made t ts is (Some given) end ys g =
      subst (λ e. Primary free (t ∷ ts) (tree.Super (Some given) (record { start = t.span.start; end = e })) ys) (sym g.2)
      (g.0, Supers _ _ _ _ _ _ is g.1, g.4, starts _ _ _ (rolls-Super (Some given) (record { start = t.span.start; end = g.0.span.end })) refl, used free (tree.Super (Some given) (record { start = t.span.start; end = g.0.span.end })) _ (t ∷ ts) ys (rolls-Super (Some given) (record { start = t.span.start; end = g.0.span.end })) tt)

  yielding-holds : (t : Token) (ts : List Token) → Is shape.Yield t → Holds (yielding nested turns free (t ∷ ts)) (Primary free (t ∷ ts))
  unfolding yielding
  yielding-holds t ts is = step (given-holds nested ih turns free t ts) (λ given ys g. answered (Primary free (t ∷ ts)) _ _ (yield-made t ts is given.0 given.1 ys g))

  super-holds : (t : Token) (ts : List Token) → Is shape.Super t → Holds (super_call nested turns free (t ∷ ts)) (Primary free (t ∷ ts))
  unfolding super_call
  super-holds t ts is = step (given-holds nested ih turns free t ts) (λ given ys g. answered (Primary free (t ∷ ts)) _ _ (super-made t ts is given.0 given.1 ys g))

  -- ---- arrays and hashes

  abbrev Elements : ℕ → List Tree → List Token → Tree → List Token → Type 0
  Elements start found xs t ys = (more : List Tree) × (c : Token) × (qs : List Token) × (t ≡ tree.Array (found ++ more) (record { start = start; end = c.span.end }))
      × DerivesElements more xs qs × DerivesEnd qs (c ∷ ys) × Is shape.CloseBracket c × Within xs (c ∷ ys)

  elements-by : (start n : ℕ) (found : List Tree) (xs : List Token) → Holds (elements_from nested turns free start n found xs) (Elements start found xs)
  unfolding elements_from same_shape
  elements-by start zero found xs = refused _ _
  elements-by start (suc n) found xs = step (ih.term true xs) (λ e ps h. step (element-holds shape.CloseBracket ps) (elim [
    | Some place ↦ λ ys g. answered (Elements start found xs) _ ys
        (e ∷ [], g.0, ps, ap (λ s. tree.Array (found ++ e ∷ []) (record { start = start; end = s.end })) g.2, LastElement _ _ _ h.0, g.3, g.1, within-more h.1 g.4)
    | None ↦ λ qs g. weaker (elements-by start n (found ++ e ∷ []) qs) (λ t ys m.
        let here = subst (λ ps. DerivesTerm true e xs ps × Within xs ps) g.3 (h.0, h.1) in (
          e ∷ m.0,
          m.1,
          m.2,
          m.3 ∙ ap (λ es. tree.Array es (record { start = start; end = m.1.span.end })) (append_assoc found (e ∷ []) m.0),
          MoreElements _ _ _ _ _ _ _ here.0 g.2 g.4 m.4,
          m.5,
          m.6,
          within-more here.1 (within-token g.0 (within-more g.5 m.7)),
        ))
  ]))

  -- after the opening bracket and separators
  array-made : (o : Token) (os ps : List Token) → Is shape.OpenBracket o → Gap os ps → Within os ps → (t : Tree) (ys : List Token) → Elements o.span.start [] ps t ys → Primary free (o ∷ os) t ys
  array-made o os ps is g w t ys m = subst (λ t. Primary free (o ∷ os) t ys) (sym m.3)
      (m.1, SomeArray _ _ _ _ _ _ _ _ is g m.4 m.5 m.6, within-token o (within-more w m.7), starts _ _ _ (rolls-Array _ _) refl, used _ _ _ _ _ (rolls-Array _ _) tt)

  array-from : (o : Token) (os ps : List Token) → Is shape.OpenBracket o → Gap os ps → Within os ps → Holds (array_from nested turns free o.span.start ps) (Primary free (o ∷ os))
  unfolding array_from elements
  array-from o os ps is g w = choosing (sees shape.CloseBracket ps)
      (λ e. follow shape.CloseBracket (λ ps. Gap os ps × Within os ps) _ _ _ (g, w) (λ c ys closes h. answered (Primary free (o ∷ os)) _ ys
      (c, EmptyArray _ _ _ _ _ is h.0 closes, within-token o h.1, starts _ _ _ (rolls-Array _ _) refl, used _ _ _ _ _ (rolls-Array _ _) tt)))
      (λ e. weaker (elements-by o.span.start turns [] ps) (array-made o os ps is g w))

  array-holds : (o : Token) (os : List Token) → Is shape.OpenBracket o → Holds (array nested turns free (o ∷ os)) (Primary free (o ∷ os))
  unfolding array
  array-holds o os is = let g = gap os in array-from o os (skip_separators os) is g.0 g.1

  label-holds : (xs : List Token) → Holds (label_pair nested turns free xs) (Pair' xs)
  unfolding label_pair
  label-holds xs = naming shape.Label Pair' _ xs (λ l ls is. step (ih.term true ls) (λ v ys h. answered (Pair' (l ∷ ls)) _ ys (ByLabel _ _ _ _ _ (label l is) h.0, within-token l h.1)))

  arrow-holds : (xs : List Token) → Holds (arrow_pair nested turns free xs) (Pair' xs)
  unfolding arrow_pair
  arrow-holds xs = step (ih.term true xs) (λ k ps h. follow shape.Arrow (λ ps. DerivesTerm true k xs ps × Within xs ps) _ _ _ (h.0, h.1) (λ a qs is h.
      step (ih.term true qs) (λ v ys i. answered (Pair' xs) _ ys (ByArrow _ _ _ _ _ _ h.0 is i.0, within-more h.1 (within-token a i.1)))))

  pair-holds : (xs : List Token) → Holds (a_pair nested turns free xs) (Pair' xs)
  unfolding a_pair
  pair-holds xs = choosing (sees shape.Label xs) (λ e. label-holds xs) (λ e. arrow-holds xs)

  abbrev PairRow : ℕ → List (Pair Tree) → List Token → Tree → List Token → Type 0
  PairRow start found xs t ys = (more : List (Pair Tree)) × (c : Token) × (qs : List Token) × (t ≡ tree.Hash (found ++ more) (record { start = start; end = c.span.end }))
      × DerivesPairs more xs qs × DerivesEnd qs (c ∷ ys) × Is shape.CloseBrace c × Within xs (c ∷ ys)

  pairs-by : (start n : ℕ) (found : List (Pair Tree)) (xs : List Token) → Holds (pairs_from nested turns free start n found xs) (PairRow start found xs)
  unfolding pairs_from same_shape
  pairs-by start zero found xs = refused _ _
  pairs-by start (suc n) found xs = step (pair-holds xs) (λ e ps h. step (element-holds shape.CloseBrace ps) (elim [
    | Some place ↦ λ ys g. answered (PairRow start found xs) _ ys
        (e ∷ [], g.0, ps, ap (λ s. tree.Hash (found ++ e ∷ []) (record { start = start; end = s.end })) g.2, LastPair _ _ _ h.0, g.3, g.1, within-more h.1 g.4)
    | None ↦ λ qs g. weaker (pairs-by start n (found ++ e ∷ []) qs) (λ t ys m.
        let here = subst (λ ps. DerivesPair e xs ps × Within xs ps) g.3 (h.0, h.1) in (
          e ∷ m.0,
          m.1,
          m.2,
          m.3 ∙ ap (λ es. tree.Hash es (record { start = start; end = m.1.span.end })) (append_assoc found (e ∷ []) m.0),
          MorePairs _ _ _ _ _ _ _ here.0 g.2 g.4 m.4,
          m.5,
          m.6,
          within-more here.1 (within-token g.0 (within-more g.5 m.7)),
        ))
  ]))

  hash-made : (o : Token) (os ps : List Token) → Is shape.OpenBrace o → Gap os ps → Within os ps → (t : Tree) (ys : List Token) → PairRow o.span.start [] ps t ys → Primary free (o ∷ os) t ys
  hash-made o os ps is g w t ys m = subst (λ t. Primary free (o ∷ os) t ys) (sym m.3)
      (m.1, SomeHash _ _ _ _ _ _ _ _ is g m.4 m.5 m.6, within-token o (within-more w m.7), starts _ _ _ (rolls-Hash _ _) refl, used _ _ _ _ _ (rolls-Hash _ _) tt)

  hash-from : (o : Token) (os ps : List Token) → Is shape.OpenBrace o → Gap os ps → Within os ps → Holds (hash_from nested turns free o.span.start ps) (Primary free (o ∷ os))
  unfolding hash_from pairs
  hash-from o os ps is g w = choosing (sees shape.CloseBrace ps)
      (λ e. follow shape.CloseBrace (λ ps. Gap os ps × Within os ps) _ _ _ (g, w) (λ c ys closes h. answered (Primary free (o ∷ os)) _ ys
      (c, EmptyHash _ _ _ _ _ is h.0 closes, within-token o h.1, starts _ _ _ (rolls-Hash _ _) refl, used _ _ _ _ _ (rolls-Hash _ _) tt)))
      (λ e. weaker (pairs-by o.span.start turns [] ps) (hash-made o os ps is g w))

  hash-holds : (o : Token) (os : List Token) → Is shape.OpenBrace o → Holds (hash nested turns free (o ∷ os)) (Primary free (o ∷ os))
  unfolding hash
  hash-holds o os is = let g = gap os in hash-from o os (skip_separators os) is g.0 g.1

  parens-holds : (o : Token) (os : List Token) → Is shape.OpenParen o → Holds (parens nested turns free (o ∷ os)) (Primary free (o ∷ os))
  unfolding parens
  parens-holds o os is = step (ih.body true os) (λ body ps h. follow shape.CloseParen (λ ps. DerivesBody Inside true body os ps × Within os ps) _ _ _ (h.0, h.1) (λ c ys closes h.
      answered (Primary free (o ∷ os)) _ ys (c, InParens _ _ _ _ _ _ is h.0 closes, within-token o h.1, starts _ _ _ (rolls-Parens _ _) refl, used _ _ _ _ _ (rolls-Parens _ _) tt)))

  -- ---- all operands

  primary-by : (s : Shape) (t : Token) (ts : List Token) → Is s t → Holds (primary_by nested turns free (Some s) (t ∷ ts)) (Primary free (t ∷ ts))
  primary-by shape.Identifier t ts is = called-holds (t ∷ ts)
  primary-by shape.Constant t ts is = constant-holds free (t ∷ ts)
  primary-by shape.InstanceVariable t ts is = instance-holds free (t ∷ ts)
  primary-by shape.Symbol t ts is = symbol-holds free (t ∷ ts)
  primary-by shape.Whole t ts is = plain-holds free (t ∷ ts)
  primary-by shape.Float t ts is = plain-holds free (t ∷ ts)
  primary-by shape.Minus t ts is = minus-holds free t ts is
  primary-by shape.Plus t ts is = plus-holds free t ts is
  primary-by shape.Text t ts is = text-holds (t ∷ ts)
  primary-by shape.Scope t ts is = top-holds free t ts is
  primary-by shape.SelfWord t ts is = word-holds free shape.SelfWord t ts is (t, SelfPlace _ _ _ is, within-self _, starts _ _ _ (rolls-SelfWord _) refl, used _ _ _ _ _ (rolls-SelfWord _) tt)
  primary-by shape.Nil t ts is = word-holds free shape.Nil t ts is (t, NilPlace _ _ _ is, within-self _, starts _ _ _ (rolls-Nil _) refl, used _ _ _ _ _ (rolls-Nil _) tt)
  primary-by shape.True t ts is = word-holds free shape.True t ts is (t, TruePlace _ _ _ is, within-self _, starts _ _ _ (rolls-True _) refl, used _ _ _ _ _ (rolls-True _) tt)
  primary-by shape.False t ts is = word-holds free shape.False t ts is (t, FalsePlace _ _ _ is, within-self _, starts _ _ _ (rolls-False _) refl, used _ _ _ _ _ (rolls-False _) tt)
  primary-by shape.Yield t ts is = yielding-holds t ts is
  primary-by shape.Super t ts is = super-holds t ts is
  primary-by shape.OpenBracket t ts is = array-holds t ts is
  primary-by shape.OpenBrace t ts is = hash-holds t ts is
  primary-by shape.OpenParen t ts is = parens-holds t ts is
  primary-by shape.If t ts is = branch-holds nested ih turns free test.Positive t ts (inl (is, refl))
  primary-by shape.Unless t ts is = branch-holds nested ih turns free test.Negative t ts (inr (inl (is, refl)))
  primary-by shape.While t ts is = repeated-holds nested ih turns free test.Positive t ts (inl (is, refl))
  primary-by shape.Until t ts is = repeated-holds nested ih turns free test.Negative t ts (inr (inl (is, refl)))
  primary-by shape.Case t ts is = choice-holds nested ih turns free t ts is
  primary-by shape.Begin t ts is = guards-holds nested ih turns free t ts is
  primary-by s t ts is = refused _ _

  pub primary-holds : (xs : List Token) → Holds (primary nested turns free xs) (Primary free xs)
  unfolding primary
  primary-holds [] = refused _ _
  primary-holds (t ∷ ts) = primary-by (shape_of t.kind) t ts refl
