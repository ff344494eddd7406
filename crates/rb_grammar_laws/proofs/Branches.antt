-- `if`, `unless`, `while`, `until` and `case` that derive are read.
use Rattle.std.proofs.Common.{◌≡◌, ℕ, zero, suc, ◌<◌, Bool, true, false, not, ◌||◌, if◌then◌else◌, List, [], ◌∷◌, ◌++◌, length, Option, Ok, ◌⊎◌, inl, inr, refl, sym, ap, subst, ◌∙◌, append_assoc, append-nil, arith}
use Rattle.rb_tree.specs.Tokens.{same_shape}
use Rattle.rb_tree.specs.declared.syntax.Arm.{Arm}
use Rattle.rb_tree.specs.declared.syntax.Guarded.{Guarded}
use Rattle.rb_tree.specs.declared.syntax.PlacedName.{PlacedName}
use Rattle.rb_tree.specs.declared.syntax.Rescue.{Rescue}
use Rattle.rb_tree.specs.declared.syntax.Test.{Test}
use Rattle.rb_tree.specs.declared.syntax.Test.TheVariants as test
use Rattle.rb_tree.specs.declared.syntax.Tree.{Tree}
use Rattle.rb_tree.specs.Nodes as tree
use Rattle.rb_tree.specs.declared.syntax.When.{When}
use Rattle.rb_tree.specs.declared.token.Token.{Token}
use Rattle.rb_tree.specs.declared.token.Shape.{Shape}
use Rattle.rb_tree.specs.declared.token.Shape.TheVariants as shape
use Rattle.rb_expr.specs.declared.form.Form.{Form}
use Rattle.rb_expr.specs.Reading.{Parser, sees, after, words_of}
use Rattle.rb_expr.specs.Branches.{then_word, do_word, otherwise, elsif_arm, elsif_arms_from, elsif_arms, arms_of, branch, repeated, subject, patterns_from, patterns, when_arm, when_arms_from, when_arms, choice, rescues_all, rescue_variable, raised, rescue_clause, rescues_from, rescues, otherwise_after, ensure, guarded, guards}
use Rattle.rb_rules.specs.Tokens.{Is, IsAny, StartsWith}
use Rattle.rb_rules.specs.Forms.{Inside}
use Rattle.rb_rules.specs.Grammar.{Gap, Then, Parted, RescueVariable, DerivesBody, DerivesSimple, DerivesArms, DerivesElse, DerivesSubject, DerivesWhens, DerivesPatterns, DerivesGuarded, DerivesRescues, DerivesRaised, DerivesEnsure}
use Rattle.rb_rules.specs.Grammar.Gap.{Closed, Wide}
use Rattle.rb_rules.specs.Grammar.Then.{Word, Line, LineWord}
use Rattle.rb_rules.specs.Grammar.DerivesArms.{NoArm, MoreArms}
use Rattle.rb_rules.specs.Grammar.DerivesElse.{NoElse, SomeElse}
use Rattle.rb_rules.specs.Grammar.DerivesSubject.{NoSubject, SomeSubject}
use Rattle.rb_rules.specs.Grammar.DerivesWhens.{NoWhen, MoreWhens}
use Rattle.rb_rules.specs.Grammar.DerivesPatterns.{LastPattern, MorePatterns}
use Rattle.rb_rules.specs.Grammar.Parted.{AfterNothing, AfterSeparator}
use Rattle.rb_rules.specs.Grammar.RescueVariable.{NoVariable, Bound}
use Rattle.rb_rules.specs.Grammar.DerivesBody.{NoStatement, Statements}
use Rattle.rb_rules.specs.Grammar.DerivesGuarded.{Unrescued, Rescued}
use Rattle.rb_rules.specs.Grammar.DerivesRescues.{NoRescue, MoreRescues}
use Rattle.rb_rules.specs.Grammar.DerivesRaised.{AnyError, SomeErrors}
use Rattle.rb_rules.specs.Grammar.DerivesEnsure.{NoEnsure, SomeEnsure}
use Rattle.rb_grammar.proofs.Steps.{shown, same, Within, within-self, within-token, within-more}
use Rattle.rb_grammar_laws.specs.Begins.{TERMS, SIMPLE, BODIES}
use Rattle.rb_grammar_laws.specs.Ends.{Ends, BODY_ENDS, SIMPLE_ENDS, TERM_ENDS}
use Rattle.rb_grammar_laws.proofs.Steps.{on, taken, passed, each, not-false, expects, names, identifier, other, unseen, skipped, Past, past-token, past-within, past-more, within-past, past-length, within-length, gap-within, ends-by, ends-unseen, ends-wider}
use Rattle.rb_grammar_laws.proofs.Begins.{term-begins, simple-begins, statement-begins, body-begins}
use Rattle.rb_grammar_laws.proofs.Complete.{Reads, ReadsSome, Complete}
use Rattle.rb_grammar_laws.proofs.Lists.{IsSome}
use Rattle.rb_expr.specs.declared.form.Form.TheVariants as form
use Rattle.srb_terms.specs.declared.span.Span.{Span}

-- ---- the words between parts

then-ends : (free : Bool) (xs ys : List Token) → Then xs ys → Ends SIMPLE_ENDS free xs
unfolding same_shape
then-ends free xs ys (Word t _ is) = ends-by SIMPLE_ENDS shape.Then refl refl free t ys is
then-ends free xs ys (Line t _ is) = ends-by SIMPLE_ENDS shape.Separator refl refl free t ys is
then-ends free xs ys (LineWord s t _ is is2) = ends-by SIMPLE_ENDS shape.Separator refl refl free s (t ∷ ys) is

then-read : (xs ys : List Token) → Then xs ys → sees shape.Then ys ≡ false → (place : Span) × (then_word xs ≡ Ok (place, ys)) × Past xs ys
unfolding then_word same_shape
then-read xs ys (Word t _ is) e = (t.span, taken _ _ (shown shape.Then t ys is) (expects shape.Then t ys is), past-token t (within-self _))
then-read xs ys (Line t _ is) e =
    (t.span, passed _ _ (other shape.Then shape.Separator t ys is refl) (on _ (expects shape.Separator t ys is) (ap (λ zs. Ok (t.span, zs)) (passed (after ys) ys e refl))), past-token t (within-self _))
then-read xs ys (LineWord s t _ is is2) e =
    (s.span, passed _ _ (other shape.Then shape.Separator s (t ∷ ys) is refl) (on _ (expects shape.Separator s (t ∷ ys) is) (ap (λ zs. Ok (s.span, zs)) (taken ys (t ∷ ys) (shown shape.Then t ys is2) refl))), past-token s (within-token t (within-self _)))

then-bodies : (free : Bool) (t : Tree) (xs ys : List Token) → DerivesBody Inside free t xs ys → Ends BODY_ENDS free ys → sees shape.Then xs ≡ false
unfolding same_shape
then-bodies free t xs ys d ends = ends-unseen shape.Then BODIES refl false xs (body-begins free t xs ys d ends)

-- a body begins with no `then`, where none stands after it
then-before : (free : Bool) (t : Tree) (xs ys : List Token) → DerivesBody Inside free t xs ys → sees shape.Then ys ≡ false → sees shape.Then xs ≡ false
unfolding same_shape
then-before free t xs ys (NoStatement _ _ _ _ (Closed _)) e = e
then-before free t xs ys (NoStatement _ _ _ _ (Wide s us _ is g)) e = other shape.Then shape.Separator s us is refl
then-before free t xs ys (Statements _ _ s ss _ ps qs rs _ (Closed _) d more h) e = unseen shape.Then SIMPLE refl ps (statement-begins free s ps qs d)
then-before free t xs ys (Statements _ _ s ss _ ps qs rs _ (Wide u us _ is g) d more h) e = other shape.Then shape.Separator u us is refl

-- ---- what stands after bodies

else-ends : (free : Bool) (o : Option Tree) (xs : List Token) (e : Token) (ys : List Token) → DerivesElse free o xs (e ∷ ys) → Is shape.End e → Ends BODY_ENDS free xs
unfolding same_shape
else-ends free o xs e ys (NoElse _ _) is = ends-by BODY_ENDS shape.End refl refl free e ys is
else-ends free o xs e ys (SomeElse _ k b us _ is2 d) is = ends-by BODY_ENDS shape.Else refl refl free k us is2

arms-end : (free : Bool) (arms : List (Arm Tree)) (xs ys : List Token) → DerivesArms free arms xs ys → Ends BODY_ENDS free ys → Ends BODY_ENDS free xs
unfolding same_shape
arms-end free arms xs ys (NoArm _ _) ends = ends
arms-end free arms xs ys (MoreArms _ k c b more us ps qs rs _ is d t e f) ends = ends-by BODY_ENDS shape.Elsif refl refl free k us is

whens-end : (free : Bool) (arms : List (When Tree)) (xs ys : List Token) → DerivesWhens free arms xs ys → Ends BODY_ENDS free ys → Ends BODY_ENDS free xs
unfolding same_shape
whens-end free arms xs ys (NoWhen _ _) ends = ends
whens-end free arms xs ys (MoreWhens _ k given b more us ps qs rs _ is d t e f) ends = ends-by BODY_ENDS shape.When refl refl free k us is

else-unseen : (s : Shape) → same_shape shape.End s ≡ false → same_shape shape.Else s ≡ false → (free : Bool) (o : Option Tree) (xs : List Token) (e : Token) (ys : List Token) → DerivesElse free o xs (e ∷ ys) → Is shape.End e → sees s xs ≡ false
else-unseen s f g free o xs e ys (NoElse _ _) is = other s shape.End e ys is f
else-unseen s f g free o xs e ys (SomeElse _ k b us _ is2 d) is = other s shape.Else k us is2 g

ensure-ends : (free : Bool) (o : Option Tree) (xs : List Token) (e : Token) (ys : List Token) → DerivesEnsure free o xs (e ∷ ys) → Is shape.End e → Ends BODY_ENDS free xs
unfolding same_shape
ensure-ends free o xs e ys (NoEnsure _ _) is = ends-by BODY_ENDS shape.End refl refl free e ys is
ensure-ends free o xs e ys (SomeEnsure _ k b us _ is2 d) is = ends-by BODY_ENDS shape.Ensure refl refl free k us is2

ensure-no-else : (free : Bool) (o : Option Tree) (xs : List Token) (e : Token) (ys : List Token) → DerivesEnsure free o xs (e ∷ ys) → Is shape.End e → sees shape.Else xs ≡ false
unfolding same_shape
ensure-no-else free o xs e ys (NoEnsure _ _) is = other shape.Else shape.End e ys is refl
ensure-no-else free o xs e ys (SomeEnsure _ k b us _ is2 d) is = other shape.Else shape.Ensure k us is2 refl

otherwise-ends : (free : Bool) (o : Option Tree) (xs ys : List Token) → DerivesElse free o xs ys → Ends BODY_ENDS free ys → Ends BODY_ENDS free xs
unfolding same_shape
otherwise-ends free o xs ys (NoElse _ _) ends = ends
otherwise-ends free o xs ys (SomeElse _ k b us _ is d) ends = ends-by BODY_ENDS shape.Else refl refl free k us is

-- ---- what stands after the word `rescue`

-- the variable, or `then` or a separator
RAISED_ENDS : List Shape
RAISED_ENDS = shape.Arrow ∷ shape.Then ∷ shape.Separator ∷ []

then-starts : (xs ys : List Token) → Then xs ys → StartsWith RAISED_ENDS xs
unfolding RAISED_ENDS
then-starts xs ys (Word t _ is) = inr (inl is)
then-starts xs ys (Line t _ is) = inr (inr (inl is))
then-starts xs ys (LineWord s t _ is is2) = inr (inr (inl is))

variable-starts : (n : Option PlacedName) (xs ys zs : List Token) → RescueVariable n xs ys → Then ys zs → StartsWith RAISED_ENDS xs
unfolding RAISED_ENDS
variable-starts n xs ys zs (NoVariable _) t = then-starts xs zs t
variable-starts n xs ys zs (Bound a i w _ is id) t = inl is

no-arrow : (xs ys : List Token) → Then xs ys → sees shape.Arrow xs ≡ false
unfolding same_shape
no-arrow xs ys (Word t _ is) = other shape.Arrow shape.Then t ys is refl
no-arrow xs ys (Line t _ is) = other shape.Arrow shape.Separator t ys is refl
no-arrow xs ys (LineWord s t _ is is2) = other shape.Arrow shape.Separator s (t ∷ ys) is refl

all-rescued : (xs : List Token) → StartsWith RAISED_ENDS xs → rescues_all xs ≡ true
unfolding rescues_all RAISED_ENDS same_shape
all-rescued [] h = absurd h
all-rescued (t ∷ ts) h = each (λ c. same_shape c shape.Arrow || (same_shape c shape.Then || same_shape c shape.Separator)) (shape.Arrow ∷ shape.Then ∷ shape.Separator ∷ []) refl _ h

some-rescued : (xs : List Token) → StartsWith TERMS xs → rescues_all xs ≡ false
unfolding rescues_all same_shape
some-rescued [] h = absurd h
some-rescued (t ∷ ts) h = not-false _ (each (λ c. not (same_shape c shape.Arrow || (same_shape c shape.Then || same_shape c shape.Separator))) TERMS refl _ h)

raised-ends : (free : Bool) (xs : List Token) → StartsWith RAISED_ENDS xs → Ends TERM_ENDS free xs × (sees shape.Comma xs ≡ false)
unfolding RAISED_ENDS same_shape
raised-ends free [] h = absurd h
raised-ends free (t ∷ ts) (inl is) = (ends-by TERM_ENDS shape.Arrow refl refl free t ts is, other shape.Comma shape.Arrow t ts is refl)
raised-ends free (t ∷ ts) (inr (inl is)) = (ends-by TERM_ENDS shape.Then refl refl free t ts is, other shape.Comma shape.Then t ts is refl)
raised-ends free (t ∷ ts) (inr (inr (inl is))) = (ends-by TERM_ENDS shape.Separator refl refl free t ts is, other shape.Comma shape.Separator t ts is refl)
raised-ends free (t ∷ ts) (inr (inr (inr h))) = absurd h

variable-read : (n : Option PlacedName) (xs ys zs : List Token) → RescueVariable n xs ys → Then ys zs → ReadsSome rescue_variable n xs ys
unfolding rescue_variable same_shape
variable-read n xs ys zs (NoVariable _) t = (passed _ _ (no-arrow xs zs t) refl, within-self _)
variable-read n xs ys zs (Bound a i w _ is id) t = (taken _ _ (shown shape.Arrow a (i ∷ ys) is) (on _ (names shape.Identifier i ys w (identifier i w id) (ap words_of id)) refl), within-token a (within-token i (within-self _)))

patterns-begin : (free : Bool) (given : List Tree) (xs ys : List Token) → DerivesPatterns free given xs ys → StartsWith TERMS xs
patterns-begin free given xs ys (LastPattern _ t _ _ d) = term-begins free t xs ys d
patterns-begin free given xs ys (MorePatterns _ c t more _ ps _ d is e) = term-begins free t xs (c ∷ ps) d

parted-no-then : (before : Tree) (xs : List Token) (k : Token) (ps : List Token) → Parted before xs (k ∷ ps) → Is shape.Rescue k → sees shape.Then xs ≡ false
unfolding same_shape
parted-no-then before xs k ps (AfterNothing _) is = other shape.Then shape.Rescue k ps is refl
parted-no-then before xs k ps (AfterSeparator _ t _ sep) is = other shape.Then shape.Separator t (k ∷ ps) sep refl

-- after a body no `then` stands, where clauses or none follow
clauses-no-then : (free : Bool) (before : Tree) (rs : List (Rescue Tree)) (xs ys : List Token) → DerivesRescues free before rs xs ys → Ends BODY_ENDS free ys → sees shape.Then xs ≡ false
unfolding same_shape
clauses-no-then free before rs xs ys (NoRescue _ _ _) ends = ends-unseen shape.Then BODY_ENDS refl free ys ends
clauses-no-then free before rs xs ys (MoreRescues _ k _ _ _ _ _ _ ps _ _ _ _ _ p is _ _ _ _ _) ends = parted-no-then before xs k ps p is

module _ (nested : Form → Bool → Parser Tree) (turns : ℕ) (ih : Complete turns nested) where
  otherwise-read : (free : Bool) (o : Option Tree) (xs ys : List Token) → DerivesElse free o xs ys → Ends BODY_ENDS free ys → sees shape.Else ys ≡ false → length xs < turns → ReadsSome (otherwise nested turns free) o xs ys
  unfolding otherwise
  otherwise-read free o xs ys (NoElse _ _) ends none fits = (passed _ _ none refl, within-self _)
  otherwise-read free o xs ys (SomeElse _ k b us _ is d) ends none fits =
      let r = ih.body free b us ys (let h : suc (length us) < turns = omega arith in h) d ends in
      (taken _ _ (shown shape.Else k us is) (on _ r.0 refl), within-token k r.1)

  else-read : (free : Bool) (o : Option Tree) (xs : List Token) (e : Token) (ys : List Token) → DerivesElse free o xs (e ∷ ys) → Is shape.End e → length xs < turns → ReadsSome (otherwise nested turns free) o xs (e ∷ ys)
  unfolding same_shape
  else-read free o xs e ys d is fits = otherwise-read free o xs (e ∷ ys) d (ends-by BODY_ENDS shape.End refl refl free e ys is) (other shape.Else shape.End e ys is refl) fits

  -- a condition, `then` and a body
  record Tested (free : Bool) (c body : Tree) (xs ps qs rs : List Token) : Type 0 where
    place : Span
    condition : nested form.Simple free xs ≡ Ok (c, ps)
    word : then_word ps ≡ Ok (place, qs)
    read : nested form.Body free qs ≡ Ok (body, rs)
    past : Past xs rs

  tested : (free : Bool) (c body : Tree) (xs ps qs rs : List Token) → DerivesSimple false free c xs ps → Then ps qs → DerivesBody Inside free body qs rs → Ends BODY_ENDS free rs → suc (length xs) < turns → Tested free c body xs ps qs rs
  tested free c body xs ps qs rs d t b ends fits =
      let r = ih.simple free c xs ps fits d (then-ends free ps qs t) in
      let w = then-read ps qs t (then-bodies free body qs rs b ends) in
      let p = past-more r.1 (past-within w.2) in
      let short = past-length p in
      let k = ih.body free body qs rs (let h : suc (length qs) < turns = omega arith in h) b ends in
      record { place = w.0; condition = r.0; word = w.1; read = k.0; past = past-more p k.1 }

  arms-from-read : (free : Bool) (arms : List (Arm Tree)) (xs ys : List Token) → DerivesArms free arms xs ys → Ends BODY_ENDS free ys → sees shape.Elsif ys ≡ false → (n : ℕ) (found : List (Arm Tree)) → length xs < n → length xs < turns →
      ReadsSome (elsif_arms_from nested turns free n found) (found ++ arms) xs ys
  unfolding elsif_arms_from elsif_arm
  arms-from-read free arms xs ys d ends none zero found less fits = absurd (let h : ⊥ = omega arith in h)
  arms-from-read free arms xs ys (NoArm _ _) ends none (suc n) found less fits = (passed _ _ none (ap (λ arms. Ok (arms, ys)) (sym (append-nil found))), within-self _)
  arms-from-read free arms xs ys (MoreArms _ k c body more us ps qs rs _ is d t b e) ends none (suc n) found less fits =
      let g = tested free c body us ps qs rs d t b (arms-end free more rs ys e ends) (let h : suc (length us) < turns = omega arith in h) in
      let short = past-length (g.past) in
      let arm : Arm Tree = record { condition = c; body = body } in
      let rest = arms-from-read free more rs ys e ends none n (found ++ arm ∷ []) (let h : length rs < n = omega arith in h) (let h : length rs < turns = omega arith in h) in (
        taken _ _ (shown shape.Elsif k us is) (on _ (on _ (expects shape.Elsif k us is) (on _ g.condition (on _ g.word (on _ g.read refl)))) (rest.0 ∙ ap (λ arms. Ok (arms, ys)) (append_assoc found (arm ∷ []) more))),
        within-token k (within-more (past-within g.past) rest.1),
      )

  arms-read : (free : Bool) (word : Test) (arms : List (Arm Tree)) (xs ys : List Token) → DerivesArms free arms xs ys → (word ≡ test.Positive ⊎ arms ≡ []) → Ends BODY_ENDS free ys → sees shape.Elsif ys ≡ false → length xs < turns → ReadsSome (arms_of nested turns free word) arms xs ys
  unfolding arms_of elsif_arms
  arms-read free test.Positive arms xs ys d only ends none fits = arms-from-read free arms xs ys d ends none turns [] fits fits
  arms-read free test.Negative arms xs ys (NoArm _ _) only ends none fits = (refl, within-self _)
  arms-read free test.Negative arms xs ys (MoreArms _ k c body more us ps qs rs _ is d t b e) (inl f) ends none fits = absurd (cc)
  arms-read free test.Negative arms xs ys (MoreArms _ k c body more us ps qs rs _ is d t b e) (inr f) ends none fits = absurd (cc)

  pub branch-read : (free : Bool) (k z : Token) (word : Test) (c body : Tree) (arms : List (Arm Tree)) (o : Option Tree) (xs ps qs rs us ys : List Token) → DerivesSimple false free c xs ps → Then ps qs → DerivesBody Inside free body qs rs → DerivesArms free arms rs us →
      (word ≡ test.Positive ⊎ arms ≡ []) → DerivesElse free o us (z ∷ ys) → Is shape.End z → suc (length xs) < turns →
      (branch nested turns free word (k ∷ xs) ≡ Ok (tree.If word c body arms o (record { start = k.span.start; end = z.span.end }), ys)) × Past xs (z ∷ ys)
  unfolding branch same_shape
  branch-read free k z word c body arms o xs ps qs rs us ys d t b a only e is fits =
      let after-arms = else-ends free o us z ys e is in
      let g = tested free c body xs ps qs rs d t b (arms-end free arms rs us a after-arms) fits in
      let short = past-length g.past in
      let r = arms-read free word arms rs us a only after-arms (else-unseen shape.Elsif refl refl free o us z ys e is) (let h : length rs < turns = omega arith in h) in
      let short2 = within-length r.1 in
      let l = else-read free o us z ys e is (let h : length us < turns = omega arith in h) in
      (on _ g.condition (on _ g.word (on _ g.read (on _ r.0 (on _ l.0 (on _ (expects shape.End z ys is) refl))))), past-more g.past (within-more r.1 l.1))

  do-read : (t : Token) (ts : List Token) → IsAny (shape.Do ∷ shape.Separator ∷ []) t → do_word (t ∷ ts) ≡ Ok (t.span, ts)
  unfolding do_word same_shape
  do-read t ts (inl is) = taken _ _ (shown shape.Do t ts is) (expects shape.Do t ts is)
  do-read t ts (inr (inl is)) = passed _ _ (other shape.Do shape.Separator t ts is refl) (expects shape.Separator t ts is)
  do-read t ts (inr (inr h)) = absurd h

  do-ends : (t : Token) (ts : List Token) → IsAny (shape.Do ∷ shape.Separator ∷ []) t → Ends SIMPLE_ENDS false (t ∷ ts)
  unfolding same_shape
  do-ends t ts (inl is) = (inr (inr (inr (inr (inr (inl is))))), λ e. absurd (cc))
  do-ends t ts (inr (inl is)) = ends-by SIMPLE_ENDS shape.Separator refl refl false t ts is
  do-ends t ts (inr (inr h)) = absurd h

  pub repeated-read : (free : Bool) (k t z : Token) (word : Test) (c body : Tree) (xs ps ys : List Token) → DerivesSimple false false c xs (t ∷ ps) → IsAny (shape.Do ∷ shape.Separator ∷ []) t → DerivesBody Inside free body ps (z ∷ ys) → Is shape.End z → suc (length xs) < turns →
      (repeated nested turns free word (k ∷ xs) ≡ Ok (tree.While word c body (record { start = k.span.start; end = z.span.end }), ys)) × Past xs (z ∷ ys)
  unfolding repeated same_shape
  repeated-read free k t z word c body xs ps ys d any b is fits =
      let r = ih.simple false c xs (t ∷ ps) fits d (do-ends t ps any) in
      let short = past-length r.1 in
      let l = ih.body free body ps (z ∷ ys) (let h : suc (length ps) < turns = omega arith in h) b (ends-by BODY_ENDS shape.End refl refl free z ys is) in
      (on _ r.0 (on _ (do-read t ps any) (on _ l.0 (on _ (expects shape.End z ys is) refl))), past-more r.1 (within-token t l.1))

  -- ---- `case`

  patterns-from-read : (free : Bool) (given : List Tree) (xs ys : List Token) → DerivesPatterns free given xs ys → Ends TERM_ENDS free ys → sees shape.Comma ys ≡ false → (n : ℕ) (found : List Tree) → length xs < n → suc (length xs) < turns →
      Reads (patterns_from nested turns free n found) (found ++ given) xs ys
  unfolding patterns_from same_shape
  patterns-from-read free given xs ys d ends comma zero found less fits = absurd (let h : ⊥ = omega arith in h)
  patterns-from-read free given xs ys (LastPattern _ t _ _ d) ends comma (suc n) found less fits =
      let r = ih.term free t xs ys fits d ends in
      (on _ r.0 (passed _ _ comma refl), r.1)
  patterns-from-read free given xs ys (MorePatterns _ c t more _ ps _ d is e) ends comma (suc n) found less fits =
      let r = ih.term free t xs (c ∷ ps) fits d (ends-by TERM_ENDS shape.Comma refl refl free c ps is) in
      let p = past-more r.1 (within-token c (within-self ps)) in
      let short = past-length p in
      let rest = patterns-from-read free more ps ys e ends comma n (found ++ t ∷ []) (let h : length ps < n = omega arith in h) (let h : suc (length ps) < turns = omega arith in h) in
      (on _ r.0 (taken _ _ (shown shape.Comma c ps is) (rest.0 ∙ ap (λ found. Ok (found, ys)) (append_assoc found (t ∷ []) more))), past-more p (past-within rest.1))

  -- ---- guards

  ensure-read : (free : Bool) (o : Option Tree) (xs : List Token) (e : Token) (ys : List Token) → DerivesEnsure free o xs (e ∷ ys) → Is shape.End e → length xs < turns → ReadsSome (ensure nested turns free) o xs (e ∷ ys)
  unfolding ensure same_shape
  ensure-read free o xs e ys (NoEnsure _ _) is fits = (passed _ _ (other shape.Ensure shape.End e ys is refl) refl, within-self _)
  ensure-read free o xs e ys (SomeEnsure _ k b us _ is2 d) is fits =
      let r = ih.body free b us (e ∷ ys) (let h : suc (length us) < turns = omega arith in h) d (ends-by BODY_ENDS shape.End refl refl free e ys is) in
      (taken _ _ (shown shape.Ensure k us is2) (on _ r.0 refl), within-token k r.1)

  raised-read : (free : Bool) (given : List Tree) (xs ys : List Token) → DerivesRaised free given xs ys → StartsWith RAISED_ENDS ys → suc (length xs) < turns → ReadsSome (raised nested turns free) given xs ys
  unfolding raised patterns
  raised-read free given xs ys (AnyError _ _) starts fits = (taken _ _ (all-rescued ys starts) refl, within-self _)
  raised-read free given xs ys (SomeErrors _ _ _ _ d) starts fits =
      let e = raised-ends free ys starts in
      let r = patterns-from-read free given xs ys d e.0 e.1 turns [] (let h : length xs < turns = omega arith in h) fits in
      (passed _ _ (some-rescued xs (patterns-begin free given xs ys d)) r.0, past-within r.1)

  -- clauses from the word of the first on
  abbrev At : Bool → List (Rescue Tree) → List Token → List Token → Type 0
  At free [] zs ys = zs ≡ ys
  At free (c ∷ more) zs ys = (k : Token) × (us ps qs rs vs : List Token) × (zs ≡ k ∷ us) × Is shape.Rescue k × DerivesRaised free c.patterns us ps × RescueVariable c.variable ps qs × Then qs rs
      × DerivesBody Inside free c.body rs vs × DerivesRescues free c.body more vs ys

  -- a body is read up to the first of the clauses that follow
  record BodyRead (free : Bool) (b : Tree) (xs : List Token) (more : List (Rescue Tree)) (ys : List Token) : Type 0 where
    rest : List Token
    reads : nested form.Body free xs ≡ Ok (b, rest)
    within : Within xs rest
    clauses : At free more rest ys

  before-clauses : (free : Bool) (b : Tree) (xs ps : List Token) → DerivesBody Inside free b xs ps → (more : List (Rescue Tree)) (ys : List Token) → DerivesRescues free b more ps ys → Ends BODY_ENDS free ys → suc (length xs) < turns → BodyRead free b xs more ys
  before-clauses free b xs ps d more ys (NoRescue _ _ _) ends fits = let r = ih.body free b xs ps fits d ends in record { rest = ps; reads = r.0; within = r.1; clauses = refl }
  before-clauses free b xs ps d more ys (MoreRescues _ k _ given n body rest _ us qs rs vs ws _ p is dr dv th db m) ends fits =
      let r = ih.rescued free b xs ps us k fits d p is in
      record { rest = k ∷ us; reads = r.0; within = r.1; clauses = (k, us, qs, rs, vs, ws, refl, is, dr, dv, th, db, m) }

  -- a clause, where those after it are read
  clause-read : (free : Bool) (n : ℕ) (c : Rescue Tree) (more : List (Rescue Tree)) (k : Token) (us ps qs rs vs ys : List Token) (found : List (Rescue Tree)) → Is shape.Rescue k → DerivesRaised free c.patterns us ps → RescueVariable c.variable ps qs → Then qs rs →
      DerivesBody Inside free c.body rs vs → DerivesRescues free c.body more vs ys → Ends BODY_ENDS free ys → length (k ∷ us) < suc n → length (k ∷ us) < turns →
      ((zs : List Token) → At free more zs ys → length zs < n → length zs < turns → ReadsSome (rescues_from nested turns free n (found ++ c ∷ [])) ((found ++ c ∷ []) ++ more) zs ys) →
      ReadsSome (rescues_from nested turns free (suc n) found) (found ++ c ∷ more) (k ∷ us) ys
  unfolding rescues_from rescue_clause
  clause-read free n c more k us ps qs rs vs ys found is dr dv th db m ends less fits again =
      let a = raised-read free c.patterns us ps dr (variable-starts c.variable ps qs rs dv th) (let h : suc (length us) < turns = omega arith in h) in
      let v = variable-read c.variable ps qs rs dv th in
      let w = then-read qs rs th (then-before free c.body rs vs db (clauses-no-then free c.body more vs ys m ends)) in
      let p = within-more a.1 (within-more v.1 (past-within w.2)) in
      let short = within-length p in
      let b = before-clauses free c.body rs vs db more ys m ends (let h : suc (length rs) < turns = omega arith in h) in
      let short2 = within-length b.within in
      let l = again b.rest b.clauses (let h : length b.rest < n = omega arith in h) (let h : length b.rest < turns = omega arith in h) in (
        taken _ _ (shown shape.Rescue k us is) (on _ (on _ (expects shape.Rescue k us is) (on _ a.0 (on _ v.0 (on _ w.1 (on _ b.reads refl))))) (l.0 ∙ ap (λ all. Ok (all, ys)) (append_assoc found (c ∷ []) more))),
        within-token k (within-more p (within-more b.within l.1)),
      )

  clauses-read : (free : Bool) (n : ℕ) (rs : List (Rescue Tree)) (zs ys : List Token) → At free rs zs ys → Ends BODY_ENDS free ys → (found : List (Rescue Tree)) → length zs < n → length zs < turns → ReadsSome (rescues_from nested turns free n found) (found ++ rs) zs ys
  unfolding rescues_from same_shape
  clauses-read free zero rs zs ys h ends found less fits = absurd (let h : ⊥ = omega arith in h)
  clauses-read free (suc n) [] zs ys h ends found less fits =
      subst (λ us. ReadsSome (rescues_from nested turns free (suc n) found) (found ++ []) us ys) (sym h)
      (passed _ _ (ends-unseen shape.Rescue BODY_ENDS refl free ys ends) (ap (λ all. Ok (all, ys)) (sym (append-nil found))), within-self _)
  clauses-read free (suc n) (c ∷ more) zs ys h ends found less fits =
      subst (λ us. ReadsSome (rescues_from nested turns free (suc n) found) (found ++ c ∷ more) us ys) (sym h.6)
      (clause-read free n c more h.0 h.1 h.2 h.3 h.4 h.5 ys found h.7 h.8 h.9 h.10 h.11 h.12 ends (subst (λ us. length us < suc n) h.6 less) (subst (λ us. length us < turns) h.6 fits)
      (λ zs at less fits. clauses-read free n more zs ys at ends (found ++ c ∷ []) less fits))

  pub guarded-read : (free : Bool) (g : Guarded Tree) (xs : List Token) (z : Token) (ys : List Token) → DerivesGuarded free g xs (z ∷ ys) → Is shape.End z → suc (length xs) < turns → ReadsSome (guarded nested turns free) g xs (z ∷ ys)
  unfolding guarded rescues otherwise_after
  guarded-read free g xs z ys (Unrescued _ b e _ ps _ d de) is fits =
      let ends = ensure-ends free e ps z ys de is in
      let r = ih.body free b xs ps fits d ends in
      let short = within-length r.1 in
      let c = clauses-read free turns [] ps ps refl ends [] (let h : length ps < turns = omega arith in h) (let h : length ps < turns = omega arith in h) in
      let l = ensure-read free e ps z ys de is (let h : length ps < turns = omega arith in h) in
      (on _ r.0 (on _ c.0 (on _ l.0 refl)), within-more r.1 l.1)
  guarded-read free g xs z ys (Rescued _ b c cs o e _ ps qs rs _ d dr dz de) is fits =
      let after-else = ensure-ends free e rs z ys de is in
      let ends = otherwise-ends free o qs rs dz after-else in
      let r = before-clauses free b xs ps d (c ∷ cs) qs dr ends fits in
      let short = within-length r.within in
      let k = clauses-read free turns (c ∷ cs) r.rest qs r.clauses ends [] (let h : length r.rest < turns = omega arith in h) (let h : length r.rest < turns = omega arith in h) in
      let short2 = within-length k.1 in
      let t = otherwise-read free o qs rs dz after-else (ensure-no-else free e rs z ys de is) (let h : length qs < turns = omega arith in h) in
      let short3 = within-length t.1 in
      let l = ensure-read free e rs z ys de is (let h : length rs < turns = omega arith in h) in
      (on _ r.reads (on _ k.0 (on _ t.0 (on _ l.0 refl))), within-more r.within (within-more k.1 (within-more t.1 l.1)))

  pub guards-read : (free : Bool) (k z : Token) (g : Guarded Tree) (xs ys : List Token) → DerivesGuarded free g xs (z ∷ ys) → Is shape.End z → suc (length xs) < turns →
      (guards nested turns free (k ∷ xs) ≡ Ok (tree.Begin g (record { start = k.span.start; end = z.span.end }), ys)) × Within xs (z ∷ ys)
  unfolding guards
  guards-read free k z g xs ys d is fits = let r = guarded-read free g xs z ys d is fits in (on _ r.0 (on _ (expects shape.End z ys is) refl), r.1)

  -- ---- rows of `when`

  when-read : (free : Bool) (k : Token) (given : List Tree) (body : Tree) (xs ps qs rs : List Token) → Is shape.When k → DerivesPatterns free given xs ps → Then ps qs → DerivesBody Inside free body qs rs → Ends BODY_ENDS free rs → suc (length xs) < turns →
      Reads (when_arm nested turns free) (record { patterns = given; body = body }) (k ∷ xs) rs
  unfolding when_arm patterns same_shape
  when-read free k given body xs ps qs rs is d t b ends fits =
      let e = then-ends free ps qs t in
      let r = patterns-from-read free given xs ps d (ends-wider SIMPLE_ENDS TERM_ENDS refl free ps e) (ends-unseen shape.Comma SIMPLE_ENDS refl free ps e) turns [] (let h : length xs < turns = omega arith in h) fits in
      let w = then-read ps qs t (then-bodies free body qs rs b ends) in
      let p = past-more r.1 (past-within w.2) in
      let short = past-length p in
      let l = ih.body free body qs rs (let h : suc (length qs) < turns = omega arith in h) b ends in
      (on _ (expects shape.When k xs is) (on _ r.0 (on _ w.1 (on _ l.0 refl))), past-token k (past-within (past-more p l.1)))

  -- after an arm others follow, or none
  Followed : List (When Tree) → List Token → List Token → Type 0
  Followed more rs ys = ((more ≡ []) × (rs ≡ ys)) ⊎ (IsSome more × (sees shape.When rs ≡ true))

  followed : (free : Bool) (more : List (When Tree)) (rs ys : List Token) → DerivesWhens free more rs ys → Followed more rs ys
  unfolding Followed
  followed free more rs ys (NoWhen _ _) = inl (refl, refl)
  followed free more rs ys (MoreWhens _ k given body rest us ps qs vs _ is d t b e) = inr (tt, shown shape.When k us is)

  abbrev Arms : Bool → ℕ → List (When Tree) → When Tree → List (When Tree) → List Token → List Token → Type 0
  Arms free n found arm more rs ys = ((if sees shape.When rs then when_arms_from nested turns free n (found ++ arm ∷ []) rs else Ok (found ++ arm ∷ [], rs)) ≡ Ok (found ++ arm ∷ more, ys)) × Within rs ys

  arms-joined : (free : Bool) (n : ℕ) (found : List (When Tree)) (arm : When Tree) (more : List (When Tree)) (rs ys : List Token) → Followed more rs ys → sees shape.When ys ≡ false →
      (IsSome more → Reads (when_arms_from nested turns free n (found ++ arm ∷ [])) ((found ++ arm ∷ []) ++ more) rs ys) → Arms free n found arm more rs ys
  unfolding Followed
  arms-joined free n found arm more rs ys (inl e) none rest = subst (λ rs. Arms free n found arm more rs ys) (sym e.1) (subst (λ more. Arms free n found arm more ys ys) (sym e.0) (passed _ _ none refl, within-self ys))
  arms-joined free n found arm more rs ys (inr e) none rest = let r = rest e.0 in (taken _ _ e.1 (r.0 ∙ ap (λ arms. Ok (arms, ys)) (append_assoc found (arm ∷ []) more)), past-within r.1)

  whens-from-read : (free : Bool) (arms : List (When Tree)) (xs ys : List Token) → DerivesWhens free arms xs ys → IsSome arms → Ends BODY_ENDS free ys → sees shape.When ys ≡ false → (n : ℕ) (found : List (When Tree)) → length xs < n → length xs < turns →
      Reads (when_arms_from nested turns free n found) (found ++ arms) xs ys
  unfolding when_arms_from
  whens-from-read free arms xs ys d some ends none zero found less fits = absurd (let h : ⊥ = omega arith in h)
  whens-from-read free arms xs ys (NoWhen _ _) some ends none (suc n) found less fits = absurd some
  whens-from-read free arms xs ys (MoreWhens _ k given body more us ps qs rs _ is d t b e) some ends none (suc n) found less fits =
      let r = when-read free k given body us ps qs rs is d t b (whens-end free more rs ys e ends) (let h : suc (length us) < turns = omega arith in h) in
      let short = past-length r.1 in
      let arm : When Tree = record { patterns = given; body = body } in
      let rest = arms-joined free n found arm more rs ys (followed free more rs ys e) none (λ some. whens-from-read free more rs ys e some ends none n (found ++ arm ∷ []) (let h : length rs < n = omega arith in h) (let h : length rs < turns = omega arith in h)) in
      (on _ r.0 rest.0, past-more r.1 rest.1)

  subject-read : (free : Bool) (given : Option Tree) (xs ps qs : List Token) → DerivesSubject free given xs ps → Gap ps qs → sees shape.When qs ≡ true → suc (length xs) < turns → ReadsSome (subject nested turns free) given xs ps
  unfolding subject same_shape
  subject-read free given xs ps qs (NoSubject _ _) g when fits = (taken _ _ (opened ps qs g when) refl, within-self _)
    where
      or-right : (a b : Bool) → b ≡ true → (a || b) ≡ true
      or-right true b e = refl
      or-right false b e = e

      opened : (ps qs : List Token) → Gap ps qs → sees shape.When qs ≡ true → (sees shape.Separator ps || sees shape.When ps) ≡ true
      opened ps qs (Closed _) when = or-right (sees shape.Separator qs) _ when
      opened ps qs (Wide t us _ is g) when = ap (λ b. b || sees shape.When (t ∷ us)) (shown shape.Separator t us is)
  subject-read free given xs ps qs (SomeSubject _ t _ _ d) g when fits =
      let b = simple-begins false free t xs ps d in
      let r = ih.simple free t xs ps fits d (ended ps qs g when) in
      (passed _ _ (ap (λ b. b || sees shape.When xs) (unseen shape.Separator SIMPLE refl xs b) ∙ unseen shape.When SIMPLE refl xs b) (on _ r.0 refl), past-within r.1)
    where
      ended : (ps qs : List Token) → Gap ps qs → sees shape.When qs ≡ true → Ends SIMPLE_ENDS free ps
      ended ps [] (Closed _) when = absurd (cc)
      ended ps (q ∷ qs) (Closed _) when = ends-by SIMPLE_ENDS shape.When refl refl free q qs (same _ _ when)
      ended ps qs (Wide t us _ is g) when = ends-by SIMPLE_ENDS shape.Separator refl refl free t us is

  whens-shown : (free : Bool) (arms : List (When Tree)) (xs ys : List Token) → DerivesWhens free arms xs ys → IsSome arms → sees shape.When xs ≡ true
  whens-shown free arms xs ys (NoWhen _ _) some = absurd some
  whens-shown free arms xs ys (MoreWhens _ k given body more us ps qs rs _ is d t b e) some = shown shape.When k us is

  when-no-separator : (xs : List Token) → sees shape.When xs ≡ true → sees shape.Separator xs ≡ false
  unfolding same_shape
  when-no-separator [] e = refl
  when-no-separator (t ∷ ts) e = other shape.Separator shape.When t ts (same _ _ e) refl

  pub choice-read : (free : Bool) (k z : Token) (given : Option Tree) (arm : When Tree) (arms : List (When Tree)) (o : Option Tree) (xs ps qs rs ys : List Token) → DerivesSubject free given xs ps → Gap ps qs → DerivesWhens free (arm ∷ arms) qs rs → DerivesElse free o rs (z ∷ ys) → Is shape.End z → suc (length xs) < turns →
      (choice nested turns free (k ∷ xs) ≡ Ok (tree.Case given (arm ∷ arms) o (record { start = k.span.start; end = z.span.end }), ys)) × Past xs (z ∷ ys)
  unfolding choice when_arms same_shape
  choice-read free k z given arm arms o xs ps qs rs ys d g w e is fits =
      let when = whens-shown free (arm ∷ arms) qs rs w tt in
      let r = subject-read free given xs ps qs d g when fits in
      let gap = gap-within ps qs g in
      let short = within-length r.1 in
      let short2 = within-length gap in
      let l = whens-from-read free (arm ∷ arms) qs rs w tt (else-ends free o rs z ys e is) (else-unseen shape.When refl refl free o rs z ys e is) turns [] (let h : length qs < turns = omega arith in h) (let h : length qs < turns = omega arith in h) in
      let short3 = past-length l.1 in
      let m = else-read free o rs z ys e is (let h : length rs < turns = omega arith in h) in (
        on _ r.0 (on _ (ap (λ us. when_arms_from nested turns free turns [] us) (skipped ps qs g (when-no-separator qs when)) ∙ l.0) (on _ m.0 (on _ (expects shape.End z ys is) refl))),
        within-past r.1 (within-past gap (past-more l.1 m.1)),
      )
