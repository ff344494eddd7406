-- Operands that are begun can be completed.
use Rattle.std.proofs.Common.{◌≡◌, ℕ, zero, suc, Bool, true, false, ◌||◌, if◌then◌else◌, List, [], ◌∷◌, ◌++◌, Option, Some, None, Ok, Err, ◌⊎◌, inl, inr, refl, sym, ap, subst, ◌∙◌, arith, ⊎_elim}
use Rattle.std.proofs.lemmas.Bool.Decides.{nat_tests}
use Rattle.srb_terms.specs.declared.span.Span.{Span}
use Rattle.rb_tree.specs.Tokens.{shape_of, same_shape}
use Rattle.rb_tree.specs.declared.syntax.Argument.{Argument}
use Rattle.rb_tree.specs.declared.syntax.Block.{Block}
use Rattle.rb_tree.specs.declared.syntax.Pair.{Pair}
use Rattle.rb_tree.specs.declared.syntax.Piece.{Piece}
use Rattle.rb_tree.specs.declared.syntax.Piece.TheVariants as piece
use Rattle.rb_tree.specs.declared.syntax.Sign.{Sign}
use Rattle.rb_tree.specs.declared.syntax.Sign.TheVariants as sign
use Rattle.rb_tree.specs.declared.syntax.Test.TheVariants as test
use Rattle.rb_tree.specs.declared.syntax.Tree.{Tree}
use Rattle.rb_tree.specs.declared.syntax.Node.{Node}
use Rattle.rb_tree.specs.declared.syntax.Node.TheOpen.{Node-F}
use Rattle.rb_tree.specs.declared.syntax.Node.TheViews.{roll-Node}
use Rattle.rb_tree.specs.Nodes as tree
use Rattle.rb_tree.specs.declared.syntax.Node.TheVariants.{rolls-Whole, rolls-Float, rolls-Text, rolls-Symbol, rolls-InstanceVariable, rolls-Constant, rolls-TopConstant, rolls-SelfWord, rolls-Nil, rolls-True, rolls-False, rolls-Name, rolls-Call, rolls-Yield, rolls-Super, rolls-Array, rolls-Hash, rolls-Parens}
use Rattle.rb_tree.specs.declared.token.Token.{Token}
use Rattle.rb_tree.specs.declared.token.TokenKind.TheVariants as kind
use Rattle.rb_tree.specs.declared.token.Shape.{Shape}
use Rattle.rb_tree.specs.declared.token.Shape.TheVariants as shape
use Rattle.rb_expr.specs.declared.form.Form.{Form}
use Rattle.rb_expr.specs.declared.ending.Ending.{Ending}
use Rattle.rb_expr.specs.declared.ending.Ending.TheVariants as ending
use Rattle.rb_expr.specs.Statements.{ending_of, ending_at}
use Rattle.rb_expr.specs.Reading.{Outcome, Parser, and_then, start_of, sees, skip_separators, touches, words_of, worded}
use Rattle.rb_expr.specs.Shapes.{is_signed, sees_number}
use Rattle.rb_expr.specs.Lists.{end_with}
use Rattle.rb_expr.specs.Calls.{optional_brackets, optional_block}
use Rattle.rb_expr.specs.Branches.{guards}
use Rattle.rb_expr.specs.Operands as spec
use Rattle.rb_expr.specs.Operands.{number_by, number, touching, signed, unraised, negative, top_constant, word_by, word, call_of, interpolation, pieces_from, pieces, called, yielding, super_call, elements_from, elements, array_from, array, label_pair, arrow_pair, a_pair, pairs_from, pairs, hash_from, hash, parens, primary_by, primary}
use Rattle.rb_rules.specs.Tokens.{Is, IsAny, StartsWith, Touches, IsConstant, NUMBERS}
use Rattle.rb_rules.specs.Forms.{Inside, LeavesBlock, is_begin}
use Rattle.rb_rules.specs.Grammar.{Gap, IsRow, SIGNS, DerivesBody, DerivesBrackets, DerivesBlock, DerivesBlockAfter, DerivesPieces, DerivesElements, DerivesPairs, DerivesPair}
use Rattle.rb_rules.specs.Grammar.DerivesBrackets.{NoBrackets}
use Rattle.rb_rules.specs.Grammar.DerivesBlockAfter.{NoBlock, SomeBlock}
use Rattle.rb_rules.specs.Grammar.DerivesPieces.{NoPiece, MorePieces}
use Rattle.rb_rules.specs.Grammar.DerivesElements.{LastElement, MoreElements}
use Rattle.rb_rules.specs.Grammar.DerivesPairs.{LastPair, MorePairs}
use Rattle.rb_rules.specs.Grammar.DerivesPair.{ByArrow, ByLabel}
use Rattle.rb_rules.specs.Grammar.DerivesTarget.{Variable, Instance, Constant as ConstantTarget}
use Rattle.rb_rules.specs.Grammar.DerivesCallee.{Own, YieldWord, SuperWord}
use Rattle.rb_rules.specs.Grammar.DerivesPrimary.{WholeNumber, FloatNumber, SignedWhole, SignedFloat, String, SymbolName, InstanceName, ConstantName, FromTop, SelfPlace, NilPlace, TruePlace, FalsePlace, NameAlone, CallWithBrackets, CallWithBlock, Yields, Supers, EmptyArray, SomeArray, EmptyHash, SomeHash, InParens}
use Rattle.rb_grammar.proofs.Steps.{same, shown, Within, within-self, within-token, within-more, identifier, constant, instance_variable, label, symbol, whole, float, text}
use Rattle.rb_grammar.proofs.Lists.{and-left, and-right}
use Rattle.rb_completion_laws.proofs.Steps.{Rel, This, Fits, Reach, Completes, Stands, Seq, stands-as, seq-stands, reach-as, reach-more, reach-this, reach-self, reach-token, reach-within, reach-headed, reach-fits, complete-as, complete-then, complete-after, complete-new, complete-token, complete-fits, Goes, bind, goes-as, choosing, Plain, plainly, seq, refusing, answering, headed-closing, One, one-stands, expecting, naming, Ended, AnyEnd, Closing, stands-end, seq-closing, closingly, parted-closing, Last, last-stands, closing, before-last, before-one, led, out, worded-known, named-known, follow-words, follow-name, caught, fits-start, fits-before}
use Rattle.rb_completion_laws.proofs.Begins.{primary-begins}
use Rattle.rb_completion_laws.proofs.Viable.{Viable, ABody, bodied, ATerm, APrimary, Like, LikePrimary, Signs, Uses, ends-so, SPrimary, signed-stands, body-stands, term-stands}
use Rattle.rb_completion_laws.proofs.Branches.{branch-goes, repeated-goes, choice-goes, guards-go}
use Rattle.rb_completion_laws.proofs.Lists.{paren-one, bracket-one, brace-one, ClosedBy, closed-stands, element-goes}
use Rattle.rb_completion_laws.proofs.Calls.{label-one, Given, given-goes, SomeBrackets, InBrackets, ABlock, After, MayBlock, block-after-goes}

-- ---- operands with their last token, and what they may be used as

abbrev pub Primary : Bool → Ending → Token → Rel
Primary free e last us zs = APrimary free last us zs × Signs (APrimary free last) us zs × Uses e free us zs

abbrev pub Primed : Bool → List Token → Outcome Tree → Type 0
Primed free xs o = Goes o (λ t ys. (last : Token) × Within xs (last ∷ ys) × Reach xs ys (Primary free (ending_of t) last)) (λ rest. Completes xs rest (AnyEnd (SPrimary free)))

-- with a tree that is a `begin` only where the one that is answered is
abbrev pub Likened : Bool → List Token → Outcome Tree → Type 0
Likened free xs o = Goes o
    (λ t ys. (last : Token) × Within xs (last ∷ ys) × Reach xs ys (λ us zs. LikePrimary free (is_begin t) last us zs × Signs (APrimary free last) us zs × Uses (ending_of t) free us zs))
    (λ rest. Completes xs rest (AnyEnd (SPrimary free)))

likened : (free : Bool) (t : Token) (ts : List Token) → (Is shape.Begin t → ⊥) → {o : Outcome Tree} → Primed free (t ∷ ts) o → Likened free (t ∷ ts) o
likened free t ts other h = goes-as h
    (λ v ys m. (m.0, m.1, reach-as (reach-headed m.1 m.2) (λ us zs d. ((d.0.0.0, d.0.0.1, λ e. primary-begins t other d.0.0.1 d.1), d.0.1, d.0.2))))
    (λ rest q. q)

abbrev pub is_number : Shape → Bool
is_number shape.Whole = true
is_number shape.Float = true
is_number s = false

pub no-number : (s : Shape) → is_number s ≡ false → (t : Token) → Is s t → ¬ IsAny NUMBERS t
no-number s e t is (inl n) = let f : is_number s ≡ is_number shape.Whole = ap is_number (sym is ∙ n) in absurd (cc)
no-number s e t is (inr (inl n)) = let f : is_number s ≡ is_number shape.Float = ap is_number (sym is ∙ n) in absurd (cc)
no-number s e t is (inr (inr h)) = h

unsigned : (D : Rel) (t : Token) (ts us zs : List Token) → ¬ IsAny NUMBERS t → Fits (t ∷ ts) us → Signs D us zs
unsigned D t ts us zs none f = λ m is before raised. absurd (fits-before m (t ∷ ts) us f (λ b. none b.0) before)

sign-complete : (free : Bool) (s : Shape) → is_number s ≡ false → (t : Token) (ts rest : List Token) → Is s t → Completes (t ∷ ts) rest (AnyEnd (APrimary free)) → Completes (t ∷ ts) rest (AnyEnd (SPrimary free))
sign-complete free s e t ts rest is q = complete-as (complete-fits q) (λ us zs h. (h.0.0, (h.0.1, unsigned (APrimary free h.0.0) t ts us zs (no-number s e t is) h.1)))

-- a form that nothing is made of
abbrev Compound : Tree → Type 0
Compound t = ending_of t ≡ ending.Other

other-uses : (free : Bool) (t : Tree) → Compound t → (us zs : List Token) → Uses (ending_of t) free us zs
other-uses free t e us zs = subst (λ x. Uses x free us zs) (sym e) tt

pub compound : (free : Bool) (s : Shape) → is_number s ≡ false → (t : Token) (ts : List Token) → Is s t → {o : Outcome Tree} → Closing (t ∷ ts) o Compound (APrimary free) → Primed free (t ∷ ts) o
compound free s e t ts is h = goes-as h
    (λ v ys m. (m.1.0, m.1.1, reach-as (reach-fits m.1.2) (λ us zs d. (d.0, unsigned (APrimary free m.1.0) t ts us zs (no-number s e t is) d.1, other-uses free v m.0 us zs))))
    (λ rest q. sign-complete free s e t ts rest is q)

-- a single token
single : (free : Bool) (s : Shape) → is_number s ≡ false → (t : Token) (ts : List Token) → Is s t → (v : Tree) → ((zs : List Token) → APrimary free t (t ∷ zs) zs) → ((zs : List Token) → Uses (ending_of v) free (t ∷ zs) zs) → Primed free (t ∷ ts) (Ok (v, ts))
single free s e t ts is v d u = record {
  told = (
    t,
    within-self _,
    reach-as (reach-this t ts) (λ us zs h.
        subst (λ vs. Primary free (ending_of v) t vs zs) (sym h) (d zs, unsigned (APrimary free t) t ts (t ∷ zs) zs (no-number s e t is) (Fits.Alike _ _ _), u zs)),
  );
}

used : (free : Bool) (t : Tree) (r : Node-F Node Tree) (us zs : List Token) → roll-Node r ≡ t.node → Uses (ending_at r) free us zs → Uses (ending_of t) free us zs
used free t r us zs e h = subst (λ x. Uses x free us zs) (sym (ends-so t r e)) h

-- ---- numbers

number-derives : (free : Bool) (t : Token) → IsAny NUMBERS t → (zs : List Token) → APrimary free t (t ∷ zs) zs
number-derives free t (inl is) zs = (_, WholeNumber _ _ _ _ (whole t is))
number-derives free t (inr (inl is)) zs = (_, FloatNumber _ _ _ _ (float t is))
number-derives free t (inr (inr h)) zs = absurd h

signed-derives : (free : Bool) (how : Sign) (s t : Token) (zs : List Token) → IsRow SIGNS (shape_of s.kind) how → Touches s t → (how ≡ sign.Plus ⊎ (¬ StartsWith (shape.Power ∷ []) zs)) → IsAny NUMBERS t → APrimary free t (s ∷ t ∷ zs) zs
signed-derives free how s t zs row meets raised (inl is) = (_, SignedWhole _ _ _ _ _ _ row meets raised (whole t is))
signed-derives free how s t zs row meets raised (inr (inl is)) = (_, SignedFloat _ _ _ _ _ _ row meets raised (float t is))
signed-derives free how s t zs row meets raised (inr (inr h)) = absurd h

-- what is answered of a number
abbrev Answered : Outcome Tree → List Token → Type 0
Answered o ts = (v : Tree) × (o ≡ Ok (v, ts)) × Compound v

worded-as : (s : Shape) (f : List ℕ × Span → Parser Tree) (t : Token) (ts : List Token) → Is s t → and_then (worded s (t ∷ ts)) f ≡ f (words_of t.kind, t.span) ts
worded-as s f t ts is = ap (λ b. and_then (if b then Ok ((words_of t.kind, t.span), ts) else Err (t ∷ ts)) f) (shown s t ts is)

number-answered : (mark : Option Sign) (start : ℕ) (t : Token) (ts : List Token) → IsAny NUMBERS t → Answered (number mark start (t ∷ ts)) ts
unfolding number
number-answered mark start t ts (inl is) = subst (λ s. Answered (number_by mark start (Some s) (t ∷ ts)) ts) (sym is) (_, worded-as shape.Whole _ t ts is, ends-so _ _ (rolls-Whole _ _ _))
number-answered mark start t ts (inr (inl is)) = subst (λ s. Answered (number_by mark start (Some s) (t ∷ ts)) ts) (sym is) (_, worded-as shape.Float _ t ts is, ends-so _ _ (rolls-Float _ _ _))
number-answered mark start t ts (inr (inr h)) = absurd h

plain-goes : (free : Bool) (t : Token) (ts : List Token) → IsAny NUMBERS t → Primed free (t ∷ ts) (number None (start_of (t ∷ ts)) (t ∷ ts))
plain-goes free t ts is =
    let a = number-answered None (start_of (t ∷ ts)) t ts is in
    subst (λ o. Primed free (t ∷ ts) o) (sym a.1) (record {
      told = (
        t,
        within-self _,
        reach-as (reach-this t ts) (λ us zs h.
            subst (λ vs. Primary free (ending_of a.0) t vs zs) (sym h) (
              number-derives free t is zs,
              (λ m minus before raised. signed-derives free sign.Minus m t zs (inl (minus, refl)) before.1 (inr raised) is),
              other-uses free a.0 a.2 (t ∷ zs) zs,
            )),
      );
    })

pub touch : (place : Span) (n : Token) (ns : List Token) → touches place (n ∷ ns) ≡ true → n.span.start ≡ place.end
touch place n ns e = grind (arith, nat_tests)

pub numbered : (n : Token) (ns : List Token) → sees_number (n ∷ ns) ≡ true → IsAny NUMBERS n
unfolding sees_number
numbered n ns e = ⊎_elim (λ k. inl (same _ _ k)) (λ k. inr (inl (same _ _ k))) (either (same_shape (shape_of n.kind) shape.Whole) _ e)
  where
    either : (a b : Bool) → (a || b) ≡ true → (a ≡ true) ⊎ (b ≡ true)
    either true b e = inl refl
    either false b e = inr e

-- a sign and its number, or a refusal after the sign
abbrev SignedNumber : Token → List Token → Tree → List Token → Type 0
SignedNumber s ss v ys = (n : Token) × (ss ≡ n ∷ ys) × Touches s n × IsAny NUMBERS n × Compound v

touching-goes : (how : Sign) (s : Token) (ss : List Token) → Goes (touching how s.span ss) (SignedNumber s ss) (λ rest. rest ≡ ss)
unfolding touching is_signed
touching-goes how s [] = record { told = refl }
touching-goes how s (n ∷ ns) = choosing (is_signed s.span (n ∷ ns))
    (λ e. let meets = touch s.span n ns (and-left _ _ e) in
    let is = numbered n ns (and-right (touches s.span (n ∷ ns)) _ e) in
    let a = number-answered (Some how) s.span.start n ns is in
    subst (λ o. Goes o (SignedNumber s (n ∷ ns)) (λ rest. rest ≡ n ∷ ns)) (sym a.1) (record { told = (n, refl, meets, is, a.2) }))
    (λ e. record { told = refl })

-- a number that touches this sign
abbrev number_after : Token → Token
number_after s = record { kind = kind.Whole []; span = record { start = s.span.end; end = s.span.end } }

complete-sign : (free : Bool) (how : Sign) (s : Token) (ss : List Token) → IsRow SIGNS (shape_of s.kind) how → Completes (s ∷ ss) ss (AnyEnd (APrimary free))
unfolding shape_of
complete-sign free how s ss row zs c = record {
  whole = s ∷ number_after s ∷ zs;
  more = number_after s ∷ zs;
  swapped = (s ∷ [], refl, refl);
  fits = Fits.Alike _ _ _;
  derives = (number_after s, signed-derives free how s (number_after s) zs row refl (inr (caught (shape.Power ∷ []) (refl, tt) zs c)) (inl refl));
}

signed-number-complete : (free : Bool) (how : Sign) (s : Token) (ss : List Token) → IsRow SIGNS (shape_of s.kind) how → (v : Tree) (ys : List Token) → SignedNumber s ss v ys → Completes (s ∷ ss) ys (AnyEnd (APrimary free))
signed-number-complete free how s ss row v ys h zs c = record {
  whole = s ∷ h.0 ∷ zs;
  more = zs;
  swapped = (s ∷ h.0 ∷ [], ap (λ vs. s ∷ vs) h.1, refl);
  fits = Fits.Alike _ _ _;
  derives = (h.0, signed-derives free how s h.0 zs row h.2 (inr (caught (shape.Power ∷ []) (refl, tt) zs c)) h.3);
}

signed-number-read : (free : Bool) (x : Shape) → is_number x ≡ false → (how : Sign) (s : Token) (ss : List Token) → Is x s → IsRow SIGNS (shape_of s.kind) how → (v : Tree) (ys : List Token) → SignedNumber s ss v ys → ((zs : List Token) → Fits ys zs → how ≡ sign.Plus ⊎ (¬ StartsWith (shape.Power ∷ []) zs)) →
    (last : Token) × Within (s ∷ ss) (last ∷ ys) × Reach (s ∷ ss) ys (Primary free (ending_of v) last)
signed-number-read free x e how s ss is row v ys h raised = (
  h.0,
  (s ∷ [], ap (λ vs. s ∷ vs) h.1),
  λ zs f. record {
    whole = s ∷ h.0 ∷ zs;
    swapped = (s ∷ h.0 ∷ [], ap (λ vs. s ∷ vs) h.1, refl);
    fits = Fits.Alike _ _ _;
    derives = (signed-derives free how s h.0 zs row h.2 (raised zs f) h.3, unsigned (APrimary free h.0) s ss (s ∷ h.0 ∷ zs) zs (no-number x e s is) (Fits.Alike _ _ _), other-uses free v h.4 (s ∷ h.0 ∷ zs) zs);
  },
)

pub not-next : (s : Shape) (xs : List Token) → sees s xs ≡ false → ¬ StartsWith (s ∷ []) xs
not-next s [] e h = h
not-next s (t ∷ ts) e (inl is) = let shown' = shown s t ts is in absurd (cc)
not-next s (t ∷ ts) e (inr h) = h

after-sign : (free : Bool) (how : Sign) (s : Token) (ss rest : List Token) → IsRow SIGNS (shape_of s.kind) how → rest ≡ ss → Completes (s ∷ ss) rest (AnyEnd (APrimary free))
after-sign free how s ss rest row e = subst (λ r. Completes (s ∷ ss) r (AnyEnd (APrimary free))) (sym e) (complete-sign free how s ss row)

plus-goes : (free : Bool) (s : Token) (ss : List Token) → Is shape.Plus s → Primed free (s ∷ ss) (signed sign.Plus (s ∷ ss))
unfolding signed
plus-goes free s ss is = goes-as (touching-goes sign.Plus s ss)
    (λ v ys h. signed-number-read free shape.Plus refl sign.Plus s ss is (inr (inl (is, refl))) v ys h (λ zs f. inl refl))
    (λ rest e. sign-complete free shape.Plus refl s ss rest is (after-sign free sign.Plus s ss rest (inr (inl (is, refl))) e))

minus-goes : (free : Bool) (s : Token) (ss : List Token) → Is shape.Minus s → Primed free (s ∷ ss) (negative (s ∷ ss))
unfolding negative signed unraised
minus-goes free s ss is = bind (touching-goes sign.Minus s ss)
    (λ rest e. sign-complete free shape.Minus refl s ss rest is (after-sign free sign.Minus s ss rest (inl (is, refl)) e))
    (λ v ys h. choosing (sees shape.Power ys)
    (λ e. record { told = sign-complete free shape.Minus refl s ss ys is (signed-number-complete free sign.Minus s ss (inl (is, refl)) v ys h) })
    (λ e. record { told = signed-number-read free shape.Minus refl sign.Minus s ss is (inl (is, refl)) v ys h (λ zs f. inr (fits-start (shape.Power ∷ []) (refl, tt) ys zs f (not-next shape.Power ys e))) }))

-- ---- words

word-goes : (free : Bool) (c : Shape) → is_number c ≡ false → (t : Token) (ts : List Token) → Is c t → ((zs : List Token) → APrimary free t (t ∷ zs) zs) → Compound (word_by (Some c) t.span) → Primed free (t ∷ ts) (word (t ∷ ts))
unfolding word
word-goes free c e t ts is d u = subst (λ s. Primed free (t ∷ ts) (Ok (word_by (Some s) t.span, ts))) (sym is) (single free c e t ts is (word_by (Some c) t.span) d (λ zs. other-uses free (word_by (Some c) t.span) u (t ∷ zs) zs))

symbol-goes : (free : Bool) (t : Token) (ts : List Token) → Is shape.Symbol t → Primed free (t ∷ ts) (spec.symbol (t ∷ ts))
unfolding spec.symbol
symbol-goes free t ts is = worded-known shape.Symbol _ t ts is (single free shape.Symbol refl t ts is _ (λ zs. (_, SymbolName _ _ _ _ (symbol t is))) (λ zs. used free _ _ (t ∷ zs) zs (rolls-Symbol _ _) tt))

instance-goes : (free : Bool) (t : Token) (ts : List Token) → Is shape.InstanceVariable t → Primed free (t ∷ ts) (spec.instance_variable (t ∷ ts))
unfolding spec.instance_variable
instance-goes free t ts is = named-known shape.InstanceVariable _ t ts is (single free shape.InstanceVariable refl t ts is _ (λ zs. (_, InstanceName _ _ _ _ (instance_variable t is)))
    (λ zs. used free _ _ (t ∷ zs) zs (rolls-InstanceVariable _ _) (λ constants. (_, Instance _ _ _ _ _ (instance_variable t is)))))

constant-goes : (free : Bool) (t : Token) (ts : List Token) → Is shape.Constant t → Primed free (t ∷ ts) (spec.constant (t ∷ ts))
unfolding spec.constant
constant-goes free t ts is = named-known shape.Constant _ t ts is (single free shape.Constant refl t ts is _ (λ zs. (_, ConstantName _ _ _ _ (constant t is)))
    (λ zs. used free _ _ (t ∷ zs) zs (rolls-Constant _ _) (_, ConstantTarget _ _ _ _ (constant t is))))

pub constant-one : Stands (One shape.Constant)
unfolding shape_of
constant-one = one-stands (kind.Constant []) shape.Constant refl (λ zs. refl)

top-goes : (free : Bool) (c : Token) (cs : List Token) → Is shape.Scope c → Primed free (c ∷ cs) (top_constant (c ∷ cs))
unfolding top_constant
top-goes free c cs is = compound free shape.Scope refl c cs is (follow-name shape.Constant (λ ps. Reach (c ∷ cs) ps (This c)) _ cs (reach-this c cs)
    (λ r. complete-as (complete-after r (complete-new cs constant-one)) (λ us zs h. (h.second.0, made us zs h.second.0 (constant h.second.0 h.second.1) (record { mid = h.mid; first = h.first; second = h.second.2 }))))
    (λ t ts con r. record { told = (ends-so _ _ (rolls-TopConstant _ _ _), (t, reach-within r, reach-as (reach-more r (reach-this t ts)) (λ us zs h. made us zs t (constant t con) h))) }))
  where
    made : (us zs : List Token) (t : Token) → IsConstant t (words_of t.kind) → Seq (This c) (This t) us zs → APrimary free t us zs
    made us zs t con h = subst (λ v. APrimary free t v zs) (sym (h.first ∙ ap (λ v. c ∷ v) h.second)) (_, FromTop _ _ _ _ _ is con)

-- ---- strings

whole-text : Stands (One shape.Text)
unfolding shape_of
whole-text = one-stands (kind.Text []) shape.Text refl (λ zs. refl)

interpolation-one : Stands (One shape.Interpolation)
unfolding shape_of
interpolation-one = one-stands kind.Interpolation shape.Interpolation refl (λ zs. refl)

module _ (nested : Form → Bool → Parser Tree) (ih : Viable nested) (turns : ℕ) (free : Bool) where
  abbrev Pieces : Token → Token → Rel
  Pieces before last us zs = (more : List (Piece Tree)) × DerivesPieces more before last us zs

  abbrev APiece : Rel
  APiece = Seq (One shape.Interpolation) (Seq (ABody Inside true) (One shape.CloseBrace))

  code-goes : (xs : List Token) → Plain xs (interpolation nested turns free xs) APiece
  unfolding interpolation
  code-goes xs = seq (expecting shape.Interpolation interpolation-one xs) (seq-stands (body-stands Inside true) brace-one) (λ _ os. seq (bodied (ih.body true os)) brace-one (λ _ qs. answering _ (expecting shape.CloseBrace brace-one qs)))

  pieces-more : (before u last : Token) (us zs : List Token) → Is shape.Text u → Seq (Seq APiece (This u)) (Pieces u last) us zs → Pieces before last us zs
  pieces-more before u last us zs is h =
      let code = h.first.first in
      let body = before-one code.second in
      let here = subst (λ v. DerivesBody Inside true body.0 code.mid (code.second.second.0 ∷ v)) h.first.second body.1 in
      subst (λ v. Pieces before last v zs) (sym code.first.2) (_, MorePieces _ _ _ _ _ _ _ _ _ _ _ code.first.1 here code.second.second.1 (text u is) h.second.1)

  abbrev AnyPieces : Token → Rel
  AnyPieces before us zs = (last : Token) × Pieces before last us zs

  no-pieces : (before : Token) → Stands (AnyPieces before)
  no-pieces before zs c = record { whole = zs; clear = c; derives = (before, ([], NoPiece _ _)) }

  -- a piece and its text
  one-piece : (before : Token) (us zs : List Token) → Seq APiece (One shape.Text) us zs → AnyPieces before us zs
  one-piece before us zs h = (h.second.0, pieces-more before h.second.0 h.second.0 us zs h.second.1 (record { mid = zs; first = record { mid = h.mid; first = h.first; second = h.second.2 }; second = ([], NoPiece _ _) }))

  abbrev Pieced : Token → List Token → Outcome Tree → Type 0
  Pieced before xs o = Goes o (λ v ys. Compound v × (last : Token) × Within (before ∷ xs) (last ∷ ys) × Reach xs ys (Pieces before last)) (λ rest. Completes xs rest (AnyPieces before))

  pieces-by : (start end : ℕ) (before : Token) (n : ℕ) (found : List (Piece Tree)) (xs : List Token) → Pieced before xs (pieces_from nested turns free start end n found xs)
  unfolding pieces_from
  pieces-by start end before zero found xs = refusing xs (no-pieces before)
  pieces-by start end before (suc n) found xs = choosing (sees shape.Interpolation xs)
      (λ e. bind (code-goes xs) (λ rest r. complete-as (complete-then r whole-text) (one-piece before)) (λ p ps rp.
      follow-words shape.Text (λ ps. Reach xs ps APiece) _ ps rp (λ r. complete-as (complete-after r (complete-new _ whole-text)) (one-piece before)) (λ u us is r.
      let ru = reach-more r (reach-this u us) in
      goes-as (pieces-by start u.span.end u n ((found ++ p ∷ []) ++ piece.Words (words_of u.kind) u.span ∷ []) us)
      (λ v ys m. (m.0, m.1, within-token before (within-more (reach-within r) m.2), reach-as (reach-more ru m.3) (λ vs zs h. pieces-more before u m.1 vs zs is h)))
      (λ rest q. complete-as (complete-after ru q) (λ vs zs h. (h.second.0, pieces-more before u h.second.0 vs zs is (record { mid = h.mid; first = h.first; second = h.second.1 })))))))
      (λ e. record { told = (ends-so _ _ (rolls-Text _ _), before, within-self _, reach-as (reach-self xs) (λ us zs h. ([], subst (λ v. DerivesPieces [] before before us v) h (NoPiece _ _)))) })

  text-goes : (t : Token) (ts : List Token) → Is shape.Text t → Primed free (t ∷ ts) (spec.text nested turns free (t ∷ ts))
  unfolding spec.text pieces
  text-goes t ts is = compound free shape.Text refl t ts is (worded-known shape.Text _ t ts is (goes-as (pieces-by t.span.start t.span.end t turns (piece.Words (words_of t.kind) t.span ∷ []) ts)
      (λ v ys m. (m.0, (m.1, m.2, reach-token t (reach-as m.3 (λ us zs h. (_, String _ _ _ _ _ _ _ (text t is) h.1))))))
      (λ rest q. complete-token t (complete-as q (λ us zs h. (h.0, (_, String _ _ _ _ _ _ _ (text t is) h.1.1)))))))

  -- ---- calls

  -- brackets and a block, one of them at least
  abbrev pub IsCall : Option (List (Argument Tree)) → Option (Block Tree) → Type 0
  IsCall None None = ⊥
  IsCall None (Some b) = Unit {0}
  IsCall (Some given) b = Unit {0}

  abbrev pub Tail : Token → Token → Rel
  Tail n last us zs = (given : Option (List (Argument Tree))) × (b : Option (Block Tree)) × (middle : Token) × (ps : List Token) × DerivesBrackets given n middle us ps × DerivesBlockAfter free b middle last ps zs × (b ≡ None ⊎ LeavesBlock given) × IsCall given b

  brackets-tail : (n last : Token) (us zs : List Token) → SomeBrackets nested ih turns free last us zs → Tail n last us zs
  brackets-tail n last us zs h = (Some h.0, None, last, zs, h.1 n, NoBlock _ _ _, inl refl, tt)

  block-tail : (n last : Token) (us zs : List Token) → ABlock nested ih turns free free last us zs → Tail n last us zs
  block-tail n last us zs h = (None, Some h.0, n, us, NoBrackets _ _, SomeBlock _ _ _ _ _ _ h.1, inr tt, tt)

  both-tail : (given : List (Argument Tree)) → MayBlock nested ih turns free (Some given) → (n middle last : Token) (us zs : List Token) → Seq (InBrackets nested ih turns free given middle) (ABlock nested ih turns free free last) us zs → Tail n last us zs
  both-tail given may n middle last us zs h = (Some h.first.0, Some h.second.0, middle, h.mid, h.first.1 n, SomeBlock _ _ _ _ _ _ h.second.1, inr (h.first.2 may), tt)

  -- what is made of a name and what stands after it
  module _ {R : Type 0} (mk : Option (List (Argument Tree)) → ℕ → Option (Block Tree) → R) (T : R → Type 0) (call : (given : Option (List (Argument Tree))) (end : ℕ) (b : Option (Block Tree)) → IsCall given b → T (mk given end b)) where
    abbrev pub Tailed : Token → List Token → R → List Token → Type 0
    Tailed n ns r ys = ((end : ℕ) × (r ≡ mk None end None) × (ns ≡ ys)) ⊎ (T r × Ended ns ys (Tail n))

    tail-made : (n : Token) (ns ps : List Token) (given : Option (List (Argument Tree))) (end : ℕ) (b : Option (Block Tree)) (ys : List Token) → Given nested ih turns free ns given ps → After nested ih turns free ps b ys → (b ≡ None ⊎ MayBlock nested ih turns free given) → Tailed n ns (mk given end b) ys
    tail-made n ns ps None end None ys g h may = inl (end, refl, g ∙ h)
    tail-made n ns ps None end (Some b) ys g h may = inr (call None end (Some b) tt, subst (λ v. Ended v ys (Tail n)) (sym g) (h.0, h.1, reach-as h.2 (block-tail n h.0)))
    tail-made n ns ps (Some given) end None ys g h may = inr (call (Some given) end None tt, subst (λ v. Ended ns v (Tail n)) h (g.0, g.1, reach-as g.2 (λ us zs d. brackets-tail n g.0 us zs (d.0, d.1))))
    tail-made n ns ps (Some given) end (Some b) ys g h (inl none) = absurd (cc)
    tail-made n ns ps (Some given) end (Some b) ys g h (inr may) = inr (call (Some given) end (Some b) tt, (h.0, within-more (reach-within g.2) h.1, reach-as (reach-more g.2 h.2) (both-tail given may n g.0 h.0)))

    tail-complete : (n : Token) (ns ps : List Token) (given : Option (List (Argument Tree))) → Given nested ih turns free ns given ps → (rest : List Token) → MayBlock nested ih turns free given × Completes ps rest (AnyEnd (ABlock nested ih turns free free)) → Completes ns rest (AnyEnd (Tail n))
    tail-complete n ns ps None g rest q = subst (λ v. Completes v rest (AnyEnd (Tail n))) (sym g) (complete-as q.1 (λ us zs h. (h.0, block-tail n h.0 us zs h.1)))
    tail-complete n ns ps (Some given) g rest q = complete-as (complete-after g.2 q.1) (λ us zs h. let k = out h in (k.0, both-tail given q.0 n g.0 k.0 us zs k.1))

    pub tail-goes : (n : Token) (end : ℕ) (ns : List Token) → Goes (and_then (optional_brackets nested turns free end ns) (λ given. λ ps. and_then (optional_block nested turns free given.0 ps) (λ b ys. Ok (mk given.0 given.1 b, ys)))) (Tailed n ns) (λ rest. Completes ns rest (AnyEnd (Tail n)))
    tail-goes n end ns = bind (given-goes nested ih turns free end ns) (λ rest q. complete-as q (λ us zs h. (h.0, brackets-tail n h.0 us zs h.1)))
        (λ given ps g. bind (block-after-goes nested ih turns free given.0 ps) (λ rest q. tail-complete n ns ps given.0 g rest q)
        (λ b ys h. record { told = tail-made n ns ps given.0 given.1 b ys g h.0 h.1 }))

  no-brackets : (n middle : Token) (us ps : List Token) → DerivesBrackets None n middle us ps → us ≡ ps
  no-brackets _ _ _ _ (NoBrackets before xs) = refl

  the-block : (b : Block Tree) (middle last : Token) (us zs : List Token) → DerivesBlockAfter free (Some b) middle last us zs → DerivesBlock free b last us zs
  the-block _ _ _ _ _ (SomeBlock f before last b xs ys d) = d

  tail-primary : (n last : Token) (us zs : List Token) → Is shape.Identifier n → Tail n last us zs → APrimary free last (n ∷ us) zs
  tail-primary n last us zs is (Some given, b, middle, ps, br, bl, ok', c) = (_, CallWithBrackets _ _ _ _ _ _ _ _ _ _ (identifier n is) br bl ok')
  tail-primary n last us zs is (None, Some b, middle, ps, br, bl, ok', c) = (_, CallWithBlock _ _ _ _ _ _ _ (identifier n is) (subst (λ v. DerivesBlock free b last v zs) (sym (no-brackets n middle us ps br)) (the-block b middle last ps zs bl)))
  tail-primary n last us zs is (None, None, middle, ps, br, bl, ok', c) = absurd c

  -- operands that begin with this token and end with another
  whole-primed : (s : Shape) → is_number s ≡ false → (n : Token) (ns : List Token) → Is s n → (v : Tree) (ys : List Token) → Compound v → Ended ns ys (λ last us zs. APrimary free last (n ∷ us) zs) → (last : Token) × Within (n ∷ ns) (last ∷ ys) × Reach (n ∷ ns) ys (Primary free (ending_of v) last)
  whole-primed s e n ns is v ys c m = (m.0, within-token n m.1, reach-token n (reach-as m.2 (λ us zs d. (d, unsigned (APrimary free m.0) n ns (n ∷ us) zs (no-number s e n is) (Fits.Alike _ _ _), other-uses free v c (n ∷ us) zs))))

  call-compound : (w : List ℕ) (place : Span) (given : Option (List (Argument Tree))) (end : ℕ) (b : Option (Block Tree)) → IsCall given b → Compound (call_of (record { name = w; span = place }) given end b)
  call-compound w place None end None c = absurd c
  call-compound w place None end (Some b) c = ends-so _ _ (rolls-Call w place None (Some b) (record { start = place.start; end = end_with (Some b) end }))
  call-compound w place (Some given) end b c = ends-so _ _ (rolls-Call w place (Some given) b (record { start = place.start; end = end_with b end }))

  name-primed : (n : Token) (ns : List Token) → Is shape.Identifier n → Primed free (n ∷ ns) (Ok (tree.Name (words_of n.kind) n.span, ns))
  name-primed n ns is = single free shape.Identifier refl n ns is _ (λ zs. (_, NameAlone _ _ _ _ (identifier n is)))
      (λ zs. used free _ _ (n ∷ zs) zs (rolls-Name _ _) ((λ constants. (_, Variable _ _ _ _ _ (identifier n is))), (_, Own _ _ _ _ (identifier n is))))

  called-goes : (n : Token) (ns : List Token) → Is shape.Identifier n → Primed free (n ∷ ns) (called nested turns free (n ∷ ns))
  unfolding called
  called-goes n ns is = named-known shape.Identifier _ n ns is (goes-as (tail-goes (call_of (record { name = words_of n.kind; span = n.span })) Compound (call-compound (words_of n.kind) n.span) n n.span.end ns)
      (λ v ys m. ⊎_elim
      (λ k. subst (λ v. (last : Token) × Within (n ∷ ns) (last ∷ ys) × Reach (n ∷ ns) ys (Primary free (ending_of v) last)) (sym k.1) (subst (λ us. (last : Token) × Within (n ∷ ns) (last ∷ us) × Reach (n ∷ ns) us (Primary free (ending_of (tree.Name (words_of n.kind) n.span)) last)) k.2 (name-primed n ns is).told))
      (λ k. whole-primed shape.Identifier refl n ns is v ys k.0 (k.1.0, k.1.1, reach-as k.1.2 (λ us zs h. tail-primary n k.1.0 us zs is h))) m)
      (λ rest q. sign-complete free shape.Identifier refl n ns rest is (complete-token n (complete-as q (λ us zs h. (h.0, tail-primary n h.0 us zs is h.1))))))

  -- `yield` and `super`
  word-call : (s : Shape) → is_number s ≡ false → (t : Token) (ts : List Token) → Is s t → (mk : Option (List (Argument Tree)) → ℕ → Tree) → ((end : ℕ) (zs : List Token) → Uses (ending_of (mk None end)) free (t ∷ zs) zs) → ((given : List (Argument Tree)) (end : ℕ) → Compound (mk (Some given) end)) →
      ((given : Option (List (Argument Tree))) (last : Token) (us zs : List Token) → DerivesBrackets given t last us zs → APrimary free last (t ∷ us) zs) → (end : ℕ) →
      Primed free (t ∷ ts) (and_then (optional_brackets nested turns free end ts) (λ given ys. Ok (mk given.0 given.1, ys)))
  word-call s e t ts is mk alone other make end = bind (given-goes nested ih turns free end ts)
      (λ rest q. sign-complete free s e t ts rest is (complete-token t (complete-as q (λ us zs h. (h.0, make _ h.0 us zs (h.1.1 t))))))
      (λ given ys g. record { told = by given.0 given.1 ys g })
    where
      by : (given : Option (List (Argument Tree))) (end : ℕ) (ys : List Token) → Given nested ih turns free ts given ys → (last : Token) × Within (t ∷ ts) (last ∷ ys) × Reach (t ∷ ts) ys (Primary free (ending_of (mk given end)) last)
      by None end ys g = subst (λ us. (last : Token) × Within (t ∷ ts) (last ∷ us) × Reach (t ∷ ts) us (Primary free (ending_of (mk None end)) last)) g (single free s e t ts is (mk None end) (λ zs. make None t zs zs (NoBrackets _ _)) (alone end)).told
      by (Some given) end ys g = whole-primed s e t ts is (mk (Some given) end) ys (other given end) (g.0, g.1, reach-as g.2 (λ us zs h. make _ g.0 us zs (h.1 t)))

  yielding-goes : (t : Token) (ts : List Token) → Is shape.Yield t → Primed free (t ∷ ts) (yielding nested turns free (t ∷ ts))
  unfolding yielding
  yielding-goes t ts is = word-call shape.Yield refl t ts is (λ given end. tree.Yield given (record { start = t.span.start; end = end }))
      (λ end zs. used free (tree.Yield None (record { start = t.span.start; end = end })) _ (t ∷ zs) zs (rolls-Yield None (record { start = t.span.start; end = end })) (_, YieldWord _ _ _ is)) (λ given end. ends-so _ _ (rolls-Yield (Some given) (record { start = t.span.start; end = end }))) (λ given last us zs h. (_, Yields _ _ _ _ _ _ is h)) t.span.end

  super-goes : (t : Token) (ts : List Token) → Is shape.Super t → Primed free (t ∷ ts) (super_call nested turns free (t ∷ ts))
  unfolding super_call
  super-goes t ts is = word-call shape.Super refl t ts is (λ given end. tree.Super given (record { start = t.span.start; end = end }))
      (λ end zs. used free (tree.Super None (record { start = t.span.start; end = end })) _ (t ∷ zs) zs (rolls-Super None (record { start = t.span.start; end = end })) (_, SuperWord _ _ _ is)) (λ given end. ends-so _ _ (rolls-Super (Some given) (record { start = t.span.start; end = end }))) (λ given last us zs h. (_, Supers _ _ _ _ _ _ is h)) t.span.end

  -- ---- arrays and hashes

  abbrev Listed : Rel → Shape → Token → Rel
  Listed D closer last us zs = (qs : List Token) × D us qs × ClosedBy closer last qs zs

  abbrev SomeElements : Rel
  SomeElements us zs = (es : List Tree) × DerivesElements es us zs

  abbrev Elements : Token → Rel
  Elements = Listed SomeElements shape.CloseBracket

  one-element : (last : Token) (us zs : List Token) → Seq (ATerm true) (ClosedBy shape.CloseBracket last) us zs → Elements last us zs
  one-element last us zs h = (h.mid, (_, LastElement _ _ _ h.first.1), h.second)

  more-elements : (last : Token) (us zs : List Token) → Seq (Seq (ATerm true) (Seq (One shape.Comma) Gap)) (Elements last) us zs → Elements last us zs
  more-elements last us zs h =
      let d = subst (λ v. ATerm true us v) h.first.second.first.2 h.first.first in
      (h.second.0, (_, MoreElements _ _ _ _ _ _ _ d.1 h.first.second.first.1 h.first.second.second h.second.1.1), h.second.2)

  elements-stand : Stands (AnyEnd Elements)
  elements-stand = stands-as (stands-end (term-stands true) (closed-stands shape.CloseBracket bracket-one)) (λ us zs h. (h.0, one-element h.0 us zs h.1))

  elements-by : (start n : ℕ) (found : List Tree) (xs : List Token) → Closing xs (elements_from nested turns free start n found xs) Compound Elements
  unfolding elements_from
  elements-by start zero found xs = refusing xs elements-stand
  elements-by start (suc n) found xs = bind (ih.term true xs) (λ rest r. complete-as (complete-then r (closed-stands shape.CloseBracket bracket-one)) (λ us zs h. let k = out h in (k.0, one-element k.0 us zs k.1)))
      (λ e ps re. bind (element-goes shape.CloseBracket bracket-one ps) (λ rest q. complete-as (complete-after re q) (λ us zs h. let k = out h in (k.0, one-element k.0 us zs k.1))) (elim [
        | Some place ↦ λ ys g. record { told = (ends-so _ _ (rolls-Array _ _), (g.0, within-more (reach-within re) g.1, reach-as (reach-more re g.2) (one-element g.0))) }
        | None ↦ λ qs g. goes-as (elements-by start n (found ++ e ∷ []) qs) (λ t ys m. (m.0, (m.1.0, within-more (reach-within (reach-more re g)) m.1.1, reach-as (reach-more (reach-more re g) m.1.2) (more-elements m.1.0))))
            (λ rest q. complete-as (complete-after (reach-more re g) q) (λ us zs h. let k = out h in (k.0, more-elements k.0 us zs k.1)))
      ]))

  -- with what stands after the opening bracket
  array-of : (o last : Token) (us zs : List Token) → Is shape.OpenBracket o → Seq Gap (Elements last) us zs → APrimary free last (o ∷ us) zs
  unfolding same_shape
  array-of o last us zs is h = (_, SomeArray _ _ _ _ _ _ _ _ is h.first h.second.1.1 h.second.2.1 h.second.2.0)

  empty-array : (o last : Token) (us zs : List Token) → Is shape.OpenBracket o → Seq Gap (Last shape.CloseBracket last) us zs → APrimary free last (o ∷ us) zs
  empty-array o last us zs is h = (_, EmptyArray _ _ _ _ _ is (before-last h) h.second.0)

  array-goes : (o : Token) (os : List Token) → Is shape.OpenBracket o → Closing (o ∷ os) (array nested turns free (o ∷ os)) Compound (APrimary free)
  unfolding array array_from elements
  array-goes o os is = headed-closing o (choosing (sees shape.CloseBracket (skip_separators os))
      (λ e. closingly (parted-closing (closing shape.CloseBracket bracket-one _ (λ place. ends-so _ _ (rolls-Array _ _)) (skip_separators os))) (λ last us zs h. empty-array o last us zs is h))
      (λ e. closingly (parted-closing (elements-by o.span.start turns [] (skip_separators os))) (λ last us zs h. array-of o last us zs is h)))

  abbrev APair : Rel
  APair us zs = (p : Pair Tree) × DerivesPair p us zs

  label-pair : (us zs : List Token) → Seq (One shape.Label) (ATerm true) us zs → APair us zs
  label-pair us zs h = led APair h (λ l ls is d. (_, ByLabel _ _ _ _ _ (label l is) d.1))

  arrow-one : Stands (One shape.Arrow)
  unfolding shape_of
  arrow-one = one-stands kind.Arrow shape.Arrow refl (λ zs. refl)

  arrow-pair : (us zs : List Token) → Seq (ATerm true) (Seq (One shape.Arrow) (ATerm true)) us zs → APair us zs
  arrow-pair us zs h = (_, ByArrow _ _ _ _ _ _ (subst (λ v. ATerm true us v) h.second.first.2 h.first).1 h.second.first.1 h.second.second.1)

  pair-stands : Stands APair
  pair-stands = stands-as (seq-stands label-one (term-stands true)) label-pair

  pair-goes : (xs : List Token) → Plain xs (a_pair nested turns free xs) APair
  unfolding a_pair label_pair arrow_pair
  pair-goes xs = choosing (sees shape.Label xs)
      (λ e. plainly (seq (naming shape.Label label-one xs) (term-stands true) (λ l ls. answering _ (ih.term true ls))) label-pair)
      (λ e. plainly (seq (ih.term true xs) (seq-stands arrow-one (term-stands true)) (λ k ps. seq (expecting shape.Arrow arrow-one ps) (term-stands true) (λ _ qs. answering _ (ih.term true qs)))) arrow-pair)

  abbrev SomePairs : Rel
  SomePairs us zs = (ps : List (Pair Tree)) × DerivesPairs ps us zs

  abbrev PairRow : Token → Rel
  PairRow = Listed SomePairs shape.CloseBrace

  one-pair : (last : Token) (us zs : List Token) → Seq APair (ClosedBy shape.CloseBrace last) us zs → PairRow last us zs
  one-pair last us zs h = (h.mid, (_, LastPair _ _ _ h.first.1), h.second)

  more-pairs : (last : Token) (us zs : List Token) → Seq (Seq APair (Seq (One shape.Comma) Gap)) (PairRow last) us zs → PairRow last us zs
  more-pairs last us zs h =
      let d = subst (λ v. APair us v) h.first.second.first.2 h.first.first in
      (h.second.0, (_, MorePairs _ _ _ _ _ _ _ d.1 h.first.second.first.1 h.first.second.second h.second.1.1), h.second.2)

  pairs-stand : Stands (AnyEnd PairRow)
  pairs-stand = stands-as (stands-end pair-stands (closed-stands shape.CloseBrace brace-one)) (λ us zs h. (h.0, one-pair h.0 us zs h.1))

  pairs-by : (start n : ℕ) (found : List (Pair Tree)) (xs : List Token) → Closing xs (pairs_from nested turns free start n found xs) Compound PairRow
  unfolding pairs_from
  pairs-by start zero found xs = refusing xs pairs-stand
  pairs-by start (suc n) found xs = bind (pair-goes xs) (λ rest r. complete-as (complete-then r (closed-stands shape.CloseBrace brace-one)) (λ us zs h. let k = out h in (k.0, one-pair k.0 us zs k.1)))
      (λ e ps re. bind (element-goes shape.CloseBrace brace-one ps) (λ rest q. complete-as (complete-after re q) (λ us zs h. let k = out h in (k.0, one-pair k.0 us zs k.1))) (elim [
        | Some place ↦ λ ys g. record { told = (ends-so _ _ (rolls-Hash _ _), (g.0, within-more (reach-within re) g.1, reach-as (reach-more re g.2) (one-pair g.0))) }
        | None ↦ λ qs g. goes-as (pairs-by start n (found ++ e ∷ []) qs) (λ t ys m. (m.0, (m.1.0, within-more (reach-within (reach-more re g)) m.1.1, reach-as (reach-more (reach-more re g) m.1.2) (more-pairs m.1.0))))
            (λ rest q. complete-as (complete-after (reach-more re g) q) (λ us zs h. let k = out h in (k.0, more-pairs k.0 us zs k.1)))
      ]))

  hash-of : (o last : Token) (us zs : List Token) → Is shape.OpenBrace o → Seq Gap (PairRow last) us zs → APrimary free last (o ∷ us) zs
  unfolding same_shape
  hash-of o last us zs is h = (_, SomeHash _ _ _ _ _ _ _ _ is h.first h.second.1.1 h.second.2.1 h.second.2.0)

  hash-goes : (o : Token) (os : List Token) → Is shape.OpenBrace o → Closing (o ∷ os) (hash nested turns free (o ∷ os)) Compound (APrimary free)
  unfolding hash hash_from pairs
  hash-goes o os is = headed-closing o (choosing (sees shape.CloseBrace (skip_separators os))
      (λ e. closingly (parted-closing (closing shape.CloseBrace brace-one _ (λ place. ends-so _ _ (rolls-Hash _ _)) (skip_separators os))) (λ last us zs h. (_, EmptyHash _ _ _ _ _ is (before-last h) h.second.0)))
      (λ e. closingly (parted-closing (pairs-by o.span.start turns [] (skip_separators os))) (λ last us zs h. hash-of o last us zs is h)))

  parens-go : (o : Token) (os : List Token) → Is shape.OpenParen o → Closing (o ∷ os) (parens nested turns free (o ∷ os)) Compound (APrimary free)
  unfolding parens
  parens-go o os is = headed-closing o (closingly (seq-closing (bodied (ih.body true os)) (last-stands paren-one) (λ body ps. closing shape.CloseParen paren-one _ (λ place. ends-so _ _ (rolls-Parens _ _)) ps))
      (λ last us zs h. (_, InParens _ _ _ _ _ _ is (before-last h).1 h.second.0)))

  -- ---- all operands

  primary-by : (s : Shape) (t : Token) (ts : List Token) → Is s t → Primed free (t ∷ ts) (primary_by nested turns free (Some s) (t ∷ ts))
  primary-by shape.Identifier t ts is = called-goes t ts is
  primary-by shape.Constant t ts is = constant-goes free t ts is
  primary-by shape.InstanceVariable t ts is = instance-goes free t ts is
  primary-by shape.Symbol t ts is = symbol-goes free t ts is
  primary-by shape.Whole t ts is = plain-goes free t ts (inl is)
  primary-by shape.Float t ts is = plain-goes free t ts (inr (inl is))
  primary-by shape.Minus t ts is = minus-goes free t ts is
  primary-by shape.Plus t ts is = plus-goes free t ts is
  primary-by shape.Text t ts is = text-goes t ts is
  primary-by shape.Scope t ts is = top-goes free t ts is
  primary-by shape.SelfWord t ts is = word-goes free shape.SelfWord refl t ts is (λ zs. (_, SelfPlace _ _ _ is)) (ends-so _ _ (rolls-SelfWord _))
  primary-by shape.Nil t ts is = word-goes free shape.Nil refl t ts is (λ zs. (_, NilPlace _ _ _ is)) (ends-so _ _ (rolls-Nil _))
  primary-by shape.True t ts is = word-goes free shape.True refl t ts is (λ zs. (_, TruePlace _ _ _ is)) (ends-so _ _ (rolls-True _))
  primary-by shape.False t ts is = word-goes free shape.False refl t ts is (λ zs. (_, FalsePlace _ _ _ is)) (ends-so _ _ (rolls-False _))
  primary-by shape.Yield t ts is = yielding-goes t ts is
  primary-by shape.Super t ts is = super-goes t ts is
  primary-by shape.OpenBracket t ts is = compound free shape.OpenBracket refl t ts is (array-goes t ts is)
  primary-by shape.OpenBrace t ts is = compound free shape.OpenBrace refl t ts is (hash-goes t ts is)
  primary-by shape.OpenParen t ts is = compound free shape.OpenParen refl t ts is (parens-go t ts is)
  primary-by shape.If t ts is = compound free shape.If refl t ts is (branch-goes nested ih turns free test.Positive t ts (inl (is, refl)))
  primary-by shape.Unless t ts is = compound free shape.Unless refl t ts is (branch-goes nested ih turns free test.Negative t ts (inr (inl (is, refl))))
  primary-by shape.While t ts is = compound free shape.While refl t ts is (repeated-goes nested ih turns free test.Positive t ts (inl (is, refl)))
  primary-by shape.Until t ts is = compound free shape.Until refl t ts is (repeated-goes nested ih turns free test.Negative t ts (inr (inl (is, refl))))
  primary-by shape.Case t ts is = compound free shape.Case refl t ts is (choice-goes nested ih turns free t ts is)
  primary-by shape.Begin t ts is = compound free shape.Begin refl t ts is (goes-as (guards-go nested ih turns free t ts is) (λ v ys m. (m.0.0, m.1)) (λ rest q. q))
  primary-by s t ts is = refusing (t ∷ ts) (signed-stands free)

  begins-like : (v : Tree) → is_begin v ≡ true → (t : Tree) → Like (is_begin v) t
  begins-like v begins t e = absurd (cc)

  begin-goes : (t : Token) (ts : List Token) → Is shape.Begin t → Likened free (t ∷ ts) (guards nested turns free (t ∷ ts))
  begin-goes t ts is = goes-as (guards-go nested ih turns free t ts is)
      (λ v ys m. (
        m.1.0,
        m.1.1,
        reach-as (reach-fits m.1.2) (λ us zs d.
            ((d.0.0, d.0.1, begins-like v m.0.1 d.0.0), unsigned (APrimary free m.1.0) t ts us zs (no-number shape.Begin refl t is) d.1, other-uses free v m.0.0 us zs)),
      ))
      (λ rest q. sign-complete free shape.Begin refl t ts rest is q)

  pub primary-goes : (xs : List Token) → Likened free xs (primary nested turns free xs)
  unfolding primary
  primary-goes [] = refusing [] (signed-stands free)
  primary-goes (t ∷ ts) = by (same_shape (shape_of t.kind) shape.Begin) refl
    where
      by : (b : Bool) → same_shape (shape_of t.kind) shape.Begin ≡ b → Likened free (t ∷ ts) (primary_by nested turns free (Some (shape_of t.kind)) (t ∷ ts))
      by true e = let is = same _ _ e in subst (λ s. Likened free (t ∷ ts) (primary_by nested turns free (Some s) (t ∷ ts))) (sym is) (begin-goes t ts is)
      by false e = likened free t ts (λ is. let shown' = shown shape.Begin t ts is in absurd (cc)) (primary-by (shape_of t.kind) t ts refl)
