-- Conditional forms, loops and guards that are begun can be completed.
use Rattle.std.proofs.Common.{◌≡◌, ℕ, zero, suc, Bool, true, false, ◌||◌, if◌then◌else◌, List, [], ◌∷◌, ◌++◌, Option, Some, None, Ok, ◌⊎◌, inl, inr, refl, sym, subst}
use Rattle.srb_terms.specs.declared.span.Span.{Span}
use Rattle.rb_tree.specs.Tokens.{shape_of, same_shape}
use Rattle.rb_tree.specs.declared.syntax.Arm.{Arm}
use Rattle.rb_tree.specs.declared.syntax.Guarded.{Guarded}
use Rattle.rb_tree.specs.declared.syntax.PlacedName.{PlacedName}
use Rattle.rb_tree.specs.declared.syntax.Rescue.{Rescue}
use Rattle.rb_tree.specs.declared.syntax.Test.{Test}
use Rattle.rb_tree.specs.declared.syntax.Test.TheVariants as test
use Rattle.rb_tree.specs.declared.syntax.Tree.{Tree}
use Rattle.rb_tree.specs.declared.syntax.Node.TheVariants.{rolls-If, rolls-While, rolls-Case, rolls-Begin}
use Rattle.rb_tree.specs.declared.syntax.When.{When}
use Rattle.rb_tree.specs.declared.token.Token.{Token}
use Rattle.rb_tree.specs.declared.token.TokenKind.TheVariants as kind
use Rattle.rb_tree.specs.declared.token.Shape.TheVariants as shape
use Rattle.rb_expr.specs.declared.form.Form.{Form}
use Rattle.rb_expr.specs.declared.ending.Ending.TheVariants as ending
use Rattle.rb_expr.specs.Statements.{ending_of}
use Rattle.rb_expr.specs.Reading.{Outcome, Parser, and_then, sees, skip_separators}
use Rattle.rb_expr.specs.Branches as spec
use Rattle.rb_expr.specs.Branches.{after_then, then_word, do_word, rescues_all, rescue_variable, otherwise, elsif_arm, elsif_arms_from, elsif_arms, arms_of, branch, repeated, patterns_from, when_arm, when_arms_from, when_arms, choice, rescue_clause, rescues_from, rescues, otherwise_after, guarded, guards}
use Rattle.rb_rules.specs.Tokens.{Is, IsAny}
use Rattle.rb_rules.specs.Forms.{Inside, is_begin}
use Rattle.rb_rules.specs.Grammar.{IsRow, BRANCH_WORDS, LOOP_WORDS, Then, Parted, RescueVariable, DerivesBody, DerivesTerm, DerivesArms, DerivesElse, DerivesSubject, DerivesWhens, DerivesPatterns, DerivesGuarded, DerivesRescues, DerivesRaised, DerivesEnsure}
use Rattle.rb_rules.specs.Grammar.Then.{Word, Line, LineWord}
use Rattle.rb_rules.specs.Grammar.RescueVariable.{NoVariable, Bound}
use Rattle.rb_rules.specs.Grammar.DerivesArms.{NoArm, MoreArms}
use Rattle.rb_rules.specs.Grammar.DerivesElse.{NoElse, SomeElse}
use Rattle.rb_rules.specs.Grammar.DerivesSubject.{NoSubject, SomeSubject}
use Rattle.rb_rules.specs.Grammar.DerivesPatterns.{LastPattern, MorePatterns}
use Rattle.rb_rules.specs.Grammar.DerivesWhens.{NoWhen, MoreWhens}
use Rattle.rb_rules.specs.Grammar.DerivesGuarded.{Unrescued, Rescued}
use Rattle.rb_rules.specs.Grammar.DerivesRescues.{NoRescue, MoreRescues}
use Rattle.rb_rules.specs.Grammar.DerivesRaised.{AnyError, SomeErrors}
use Rattle.rb_rules.specs.Grammar.DerivesEnsure.{NoEnsure, SomeEnsure}
use Rattle.rb_rules.specs.Grammar.DerivesPrimary.{Branches, Loops, Guards, Cases}
use Rattle.rb_grammar.proofs.Steps.{same, identifier}
use Rattle.rb_completion_laws.proofs.Steps.{Rel, Reach, Completes, Stands, Seq, stands-as, seq-stands, reach-as, reach-more, reach-one, complete-as, complete-then, complete-after, complete-reach, Goes, bind, goes-as, gap-stands, Plain, plainly, seq, done, refusing, choosing, One, one-stands, expecting, naming, taken, parted, answering, if-seen, Perhaps, perhaps-stands, nothing, something, Closing, stands-end, seq-closing, closingly, headed-closing, last-stands, closing, before-last}
use Rattle.rb_completion_laws.proofs.Begins.{noded}
use Rattle.rb_completion_laws.proofs.Viable.{Viable, ABody, AParted, bodied, ASimple, ATerm, APrimary, ends-so, name-stands, body-stands, simple-stands, term-stands}

pub end-stands : Stands (One shape.End)
unfolding shape_of
end-stands = one-stands kind.End shape.End refl (λ zs. refl)

pub separator-stands : Stands (One shape.Separator)
unfolding shape_of
separator-stands = one-stands kind.Separator shape.Separator refl (λ zs. refl)

then-one : Stands (One shape.Then)
unfolding shape_of
then-one = one-stands kind.Then shape.Then refl (λ zs. refl)

when-one : Stands (One shape.When)
unfolding shape_of
when-one = one-stands kind.When shape.When refl (λ zs. refl)

elsif-one : Stands (One shape.Elsif)
unfolding shape_of
elsif-one = one-stands kind.Elsif shape.Elsif refl (λ zs. refl)

pub do-one : Stands (One shape.Do)
unfolding shape_of
do-one = one-stands kind.Do shape.Do refl (λ zs. refl)

word-then : (us zs : List Token) → One shape.Then us zs → Then us zs
word-then us zs h = subst (λ v. Then v zs) (sym h.2) (Word _ _ h.1)

then-stands : Stands Then
then-stands = stands-as then-one word-then

after-then : (place : Span) (ts : List Token) → Plain ts (Ok (place, after_then ts)) (Perhaps (One shape.Then))
after-then place [] = nothing place []
after-then place (t ∷ ts) = by (same_shape (shape_of t.kind) shape.Then) refl
  where
    by : (b : Bool) → same_shape (shape_of t.kind) shape.Then ≡ b → Plain {A = Span} (t ∷ ts) (Ok (place, if b then ts else t ∷ ts)) (Perhaps (One shape.Then))
    by true e = record { told = reach-as (reach-one shape.Then t ts (same _ _ e)) (λ us zs h. inr h) }
    by false e = nothing place (t ∷ ts)

line-then : (us zs : List Token) → Seq (One shape.Separator) (Perhaps (One shape.Then)) us zs → Then us zs
line-then us zs h = subst (λ v. Then v zs) (sym h.first.2) (by h.mid h.first.0 h.first.1 h.second)
  where
    by : (ms : List Token) (s : Token) → Is shape.Separator s → Perhaps (One shape.Then) ms zs → Then (s ∷ ms) zs
    by ms s is (inl e) = subst (λ v. Then (s ∷ ms) v) e (Line _ _ is)
    by ms s is (inr k) = subst (λ v. Then (s ∷ v) zs) (sym k.2) (LineWord _ _ _ is k.1)

then-goes : (xs : List Token) → Plain xs (then_word xs) Then
unfolding then_word
then-goes xs = choosing (sees shape.Then xs)
    (λ e. plainly (expecting shape.Then then-one xs) word-then)
    (λ e. plainly (seq (expecting shape.Separator separator-stands xs) perhaps-stands (λ place ts. after-then place ts)) line-then)

-- the `do` or separator of a loop
abbrev Opens : Rel
Opens us zs = (d : Token) × IsAny (shape.Do ∷ shape.Separator ∷ []) d × (us ≡ d ∷ zs)

opens-stands : Stands Opens
opens-stands = stands-as separator-stands (λ us zs h. (h.0, inr (inl h.1), h.2))

do-goes : (xs : List Token) → Plain xs (do_word xs) Opens
unfolding do_word
do-goes xs = choosing (sees shape.Do xs)
    (λ e. plainly (expecting shape.Do do-one xs) (λ us zs h. (h.0, inl h.1, h.2)))
    (λ e. plainly (expecting shape.Separator separator-stands xs) (λ us zs h. (h.0, inr (inl h.1), h.2)))

-- ---- the variable of a `rescue`

abbrev AVariable : Rel
AVariable us zs = (v : Option PlacedName) × RescueVariable v us zs

variable-stands : Stands AVariable
variable-stands zs c = record { whole = zs; clear = c; derives = (None, NoVariable _) }

bound : (a : Token) → Is shape.Arrow a → (us zs : List Token) → One shape.Identifier us zs → AVariable (a ∷ us) zs
bound a is us zs h = subst (λ v. AVariable (a ∷ v) zs) (sym h.2) (_, Bound _ _ _ _ is (identifier h.0 h.1))

variable-goes : (xs : List Token) → Plain xs (rescue_variable xs) AVariable
unfolding rescue_variable
variable-goes xs = if-seen shape.Arrow (λ ts. _) xs
    (λ a as' is. plainly (answering Some (naming shape.Identifier name-stands as')) (bound a is))
    (done None xs (λ zs. (None, NoVariable _)))

module _ (nested : Form → Bool → Parser Tree) (ih : Viable nested) (turns : ℕ) (free : Bool) where
  abbrev AnElse : Rel
  AnElse us zs = (o : Option Tree) × DerivesElse free o us zs

  else-stands : Stands AnElse
  else-stands zs c = record { whole = zs; clear = c; derives = (None, NoElse _ _) }

  else-goes : (xs : List Token) → Plain xs (otherwise nested turns free xs) AnElse
  unfolding otherwise
  else-goes xs = if-seen shape.Else (λ ts. _) xs
      (λ t ts is. plainly (answering Some (bodied (ih.body free ts))) (λ us zs h. (_, SomeElse _ _ _ _ _ is h.1)))
      (done None xs (λ zs. (None, NoElse _ _)))

  abbrev SomeArms : Rel
  SomeArms us zs = (arms : List (Arm Tree)) × DerivesArms free arms us zs

  arms-stand : Stands SomeArms
  arms-stand zs c = record { whole = zs; clear = c; derives = ([], NoArm _ _) }

  abbrev AnArm : Rel
  AnArm = Seq (One shape.Elsif) (Seq (ASimple false free) (Seq Then (ABody Inside free)))

  arm-goes : (xs : List Token) → Plain xs (elsif_arm nested turns free xs) AnArm
  unfolding elsif_arm
  arm-goes xs =
      let b = body-stands Inside free in
      let t = seq-stands then-stands b in
      let c = seq-stands (simple-stands false free) t in
      seq (expecting shape.Elsif elsif-one xs) c (λ _ ks. seq (ih.simple free ks) t (λ _ ps. seq (then-goes ps) b (λ _ qs. answering _ (bodied (ih.body free qs)))))

  arms-more : (us zs : List Token) → Seq AnArm SomeArms us zs → SomeArms us zs
  arms-more us zs h = subst (λ v. SomeArms v zs) (sym h.first.first.2) (_, MoreArms _ _ _ _ _ _ _ _ _ _ h.first.first.1 h.first.second.first.1 h.first.second.second.first h.first.second.second.second.1 h.second.1)

  arms-from : (n : ℕ) (found : List (Arm Tree)) (xs : List Token) → Plain xs (elsif_arms_from nested turns free n found xs) SomeArms
  unfolding elsif_arms_from
  arms-from zero found xs = refusing xs arms-stand
  arms-from (suc n) found xs = choosing (sees shape.Elsif xs)
      (λ e. plainly (seq (arm-goes xs) arms-stand (λ a ys. arms-from n (found ++ a ∷ []) ys)) arms-more)
      (λ e. done found xs (λ zs. ([], NoArm _ _)))

  abbrev ArmsOf : Test → Rel
  ArmsOf word us zs = (arms : List (Arm Tree)) × DerivesArms free arms us zs × (word ≡ test.Positive ⊎ arms ≡ [])

  arms-of-stand : (word : Test) → Stands (ArmsOf word)
  arms-of-stand word zs c = record { whole = zs; clear = c; derives = ([], NoArm _ _, inr refl) }

  arms-of-go : (word : Test) (xs : List Token) → Plain xs (arms_of nested turns free word xs) (ArmsOf word)
  unfolding arms_of elsif_arms
  arms-of-go test.Positive xs = plainly (arms-from turns [] xs) (λ us zs h. (h.0, h.1, inl refl))
  arms-of-go test.Negative xs = done [] xs (λ zs. ([], NoArm _ _, inr refl))

  abbrev pub Compound : Tree → Type 0
  Compound t = ending_of t ≡ ending.Other

  pub branch-goes : (word : Test) (k : Token) (ks : List Token) → IsRow BRANCH_WORDS (shape_of k.kind) word → Closing (k ∷ ks) (branch nested turns free word (k ∷ ks)) Compound (APrimary free)
  unfolding branch
  branch-goes word k ks is =
      let e = last-stands end-stands in
      let o = stands-end else-stands e in
      let a = stands-end (arms-of-stand word) o in
      let b = stands-end (body-stands Inside free) a in
      let t = stands-end then-stands b in
      headed-closing k (closingly
      (seq-closing (ih.simple free ks) t (λ c ps. seq-closing (then-goes ps) b (λ _ qs. seq-closing (bodied (ih.body free qs)) a (λ body rs.
      seq-closing (arms-of-go word rs) o (λ arms us. seq-closing (else-goes us) e (λ other vs. closing shape.End end-stands _ (λ place. ends-so _ _ (rolls-If _ _ _ _ _ _)) vs))))))
      (λ last us zs h. (
        _,
        Branches _ _ _ _ _ _ _ _ _ _ _ _ _ _ is h.first.1 h.second.first h.second.second.first.1 h.second.second.second.first.1 h.second.second.second.first.2
            (before-last h.second.second.second.second).1 h.second.second.second.second.second.0,
      )))

  pub repeated-goes : (word : Test) (k : Token) (ks : List Token) → IsRow LOOP_WORDS (shape_of k.kind) word → Closing (k ∷ ks) (repeated nested turns free word (k ∷ ks)) Compound (APrimary free)
  unfolding repeated
  repeated-goes word k ks is =
      let e = last-stands end-stands in
      let b = stands-end (body-stands Inside free) e in
      let d = stands-end opens-stands b in
      headed-closing k (closingly
      (seq-closing (ih.simple false ks) d (λ c ps. seq-closing (do-goes ps) b (λ _ qs. seq-closing (bodied (ih.body free qs)) e (λ body rs. closing shape.End end-stands _ (λ place. ends-so _ _ (rolls-While _ _ _ _)) rs))))
      (λ last us zs h. (
        _,
        Loops _ _ _ _ _ _ _ _ _ _ is (subst (λ v. ASimple false false us v) h.second.first.2 h.first).1 h.second.first.1
            (before-last h.second.second).1 h.second.second.second.0,
      )))

  -- ---- `case`

  abbrev ASubject : Rel
  ASubject us zs = (o : Option Tree) × DerivesSubject free o us zs

  subject-goes : (xs : List Token) → Plain xs (spec.subject nested turns free xs) ASubject
  unfolding spec.subject
  subject-goes xs = choosing (sees shape.Separator xs || sees shape.When xs)
      (λ e. done None xs (λ zs. (None, NoSubject _ _)))
      (λ e. plainly (answering Some (ih.simple free xs)) (λ us zs h. (_, SomeSubject _ _ _ _ h.1)))

  abbrev SomePatterns : Rel
  SomePatterns us zs = (ps : List Tree) × DerivesPatterns free ps us zs

  patterns-stand : Stands SomePatterns
  patterns-stand = stands-as (term-stands free) (λ us zs h. (_, LastPattern _ _ _ _ h.1))

  -- a list goes on after a comma
  patterns-more : (us zs : List Token) → Seq (ATerm free) (Perhaps (Seq (One shape.Comma) SomePatterns)) us zs → SomePatterns us zs
  patterns-more us zs h = by h.mid h.first.0 h.first.1 h.second
    where
      by : (ms : List Token) (t : Tree) → DerivesTerm free t us ms → Perhaps (Seq (One shape.Comma) SomePatterns) ms zs → SomePatterns us zs
      by ms t d (inl e) = (_, LastPattern _ _ _ _ (subst (λ v. DerivesTerm free t us v) e d))
      by ms t d (inr k) = (_, MorePatterns _ _ _ _ _ _ _ (subst (λ v. DerivesTerm free t us v) k.first.2 d) k.first.1 k.second.1)

  patterns-from' : (n : ℕ) (found : List Tree) (xs : List Token) → Plain xs (patterns_from nested turns free n found xs) SomePatterns
  unfolding patterns_from
  patterns-from' zero found xs = refusing xs patterns-stand
  patterns-from' (suc n) found xs = plainly (seq (ih.term free xs) perhaps-stands (λ p ps. if-seen shape.Comma (patterns_from nested turns free n (found ++ p ∷ [])) ps
      (λ c cs is. plainly (patterns-from' n (found ++ p ∷ []) cs) (λ us zs h. inr (record { mid = us; first = (c, is, refl); second = h })))
      (nothing _ ps))) patterns-more

  abbrev AWhen : Rel
  AWhen = Seq (One shape.When) (Seq SomePatterns (Seq Then (ABody Inside free)))

  when-goes : (xs : List Token) → Plain xs (when_arm nested turns free xs) AWhen
  unfolding when_arm spec.patterns
  when-goes xs =
      let b = body-stands Inside free in
      let t = seq-stands then-stands b in
      let p = seq-stands patterns-stand t in
      seq (expecting shape.When when-one xs) p (λ _ ks. seq (patterns-from' turns [] ks) t (λ _ ps. seq (then-goes ps) b (λ _ qs. answering _ (bodied (ih.body free qs)))))

  when-stands : Stands AWhen
  when-stands = seq-stands when-one (seq-stands patterns-stand (seq-stands then-stands (body-stands Inside free)))

  -- at least one
  abbrev SomeWhens : Rel
  SomeWhens us zs = (arm : When Tree) × (arms : List (When Tree)) × DerivesWhens free (arm ∷ arms) us zs

  whens-more : (us zs : List Token) → Seq AWhen (Perhaps SomeWhens) us zs → SomeWhens us zs
  whens-more us zs h = subst (λ v. SomeWhens v zs) (sym h.first.first.2) (by h.mid h.first.second.second.second.1 h.second)
    where
      by : (ms : List Token) → DerivesBody Inside free h.first.second.second.second.0 h.first.second.second.mid ms → Perhaps SomeWhens ms zs → SomeWhens (h.first.first.0 ∷ h.first.mid) zs
      by ms d (inl e) = (_, _, MoreWhens _ _ _ _ _ _ _ _ _ _ h.first.first.1 h.first.second.first.1 h.first.second.second.first d (subst (λ v. DerivesWhens free [] ms v) e (NoWhen _ _)))
      by ms d (inr k) = (_, _, MoreWhens _ _ _ _ _ _ _ _ _ _ h.first.first.1 h.first.second.first.1 h.first.second.second.first d k.2)

  whens-stand : Stands SomeWhens
  whens-stand = stands-as (seq-stands when-stands (perhaps-stands {D = SomeWhens})) whens-more

  whens-from : (n : ℕ) (found : List (When Tree)) (xs : List Token) → Plain xs (when_arms_from nested turns free n found xs) SomeWhens
  unfolding when_arms_from
  whens-from zero found xs = refusing xs whens-stand
  whens-from (suc n) found xs = plainly (seq (when-goes xs) perhaps-stands (λ a ys. choosing (sees shape.When ys)
      (λ e. something (whens-from n (found ++ a ∷ []) ys))
      (λ e. nothing _ ys))) whens-more

  pub choice-goes : (k : Token) (ks : List Token) → Is shape.Case k → Closing (k ∷ ks) (choice nested turns free (k ∷ ks)) Compound (APrimary free)
  unfolding choice when_arms
  choice-goes k ks is =
      let e = last-stands end-stands in
      let o = stands-end else-stands e in
      let w = stands-end (seq-stands gap-stands whens-stand) o in
      headed-closing k (closingly
      (seq-closing (subject-goes ks) w (λ s ps. seq-closing (parted (whens-from turns [] (skip_separators ps))) o (λ arms us. seq-closing (else-goes us) e (λ other vs. closing shape.End end-stands _ (λ place. ends-so _ _ (rolls-Case _ _ _ _)) vs))))
      (λ last us zs h. (_, Cases _ _ _ _ _ _ _ _ _ _ _ _ is h.first.1 h.second.first.first h.second.first.second.2 (before-last h.second.second).1 h.second.second.second.0)))

  -- ---- guards

  abbrev Raised : Rel
  Raised us zs = (ps : List Tree) × DerivesRaised free ps us zs

  raised-stands : Stands Raised
  raised-stands zs c = record { whole = zs; clear = c; derives = ([], AnyError _ _) }

  raised-goes : (xs : List Token) → Plain xs (spec.raised nested turns free xs) Raised
  unfolding spec.raised spec.patterns
  raised-goes xs = choosing (rescues_all xs)
      (λ e. done [] xs (λ zs. ([], AnyError _ _)))
      (λ e. plainly (patterns-from' turns [] xs) (λ us zs h. (_, SomeErrors _ _ _ _ h.1)))

  -- what a clause is before its body
  abbrev Opening : Rel
  Opening = Seq (One shape.Rescue) (Seq Raised (Seq AVariable Then))

  abbrev AClause : Rel
  AClause = Seq Opening (ABody Inside free)

  -- what parts it from another clause
  abbrev APartedClause : Rel
  APartedClause = Seq Opening (AParted Inside free)

  clause-made : (D : Rel) (us zs : List Token) → Seq (One shape.Rescue) (Seq Raised (Seq AVariable (Seq Then D))) us zs → Seq Opening D us zs
  clause-made D us zs h = record {
    mid = h.second.second.second.mid;
    first = record { mid = h.mid; first = h.first; second = record { mid = h.second.mid; first = h.second.first; second = record { mid = h.second.second.mid; first = h.second.second.first; second = h.second.second.second.first } } };
    second = h.second.second.second.second;
  }

  clause-goes : (k : Token) (ks : List Token) → Is shape.Rescue k →
      Goes (rescue_clause nested turns free (k ∷ ks)) (λ c ys. Reach (k ∷ ks) ys AClause × (sees shape.Rescue ys ≡ true → Reach (k ∷ ks) ys APartedClause)) (λ rest. Completes (k ∷ ks) rest AClause)
  unfolding rescue_clause
  clause-goes k ks is =
      let one = reach-one shape.Rescue k ks is in
      let b = body-stands Inside free in
      let t = seq-stands then-stands b in
      let v = seq-stands variable-stands t in
      taken shape.Rescue _ k ks is (bind (raised-goes ks) (λ rest q. complete-as (complete-after one (complete-then q v)) (clause-made _))
      (λ found ps rp. bind (variable-goes ps) (λ rest q. complete-as (complete-after one (complete-after rp (complete-then q t))) (clause-made _))
      (λ variable qs rq. bind (then-goes qs) (λ rest q. complete-as (complete-after one (complete-after rp (complete-after rq (complete-then q b)))) (clause-made _))
      (λ place rs rr. bind (ih.body free rs) (λ rest q. complete-as (complete-after one (complete-after rp (complete-after rq (complete-after rr q)))) (clause-made _))
      (λ body ys m. record { told = (reach-as (reach-more one (reach-more rp (reach-more rq (reach-more rr m.0)))) (clause-made _), λ e. reach-as (reach-more one (reach-more rp (reach-more rq (reach-more rr (m.1 e))))) (clause-made _)) })))))

  -- clauses after what parts a body from them
  abbrev SomeClauses : Rel
  SomeClauses us zs = (before : Tree) (ws : List Token) → Parted before ws us → (clause : Rescue Tree) × (clauses : List (Rescue Tree)) × DerivesRescues free before (clause ∷ clauses) ws zs

  clause-with : {D : Rel} (us vs zs : List Token) (h : Seq Opening D us vs) (body : Tree) (ms : List Token) → DerivesBody Inside free body h.mid ms → (more : List (Rescue Tree)) → DerivesRescues free body more ms zs → SomeClauses us zs
  clause-with us vs zs h body ms d more m before ws p =
      let o = h.first in
      let start = subst (λ v. Parted before ws v) o.first.2 p in
      (_, _, MoreRescues _ _ _ _ _ _ _ _ _ _ _ _ _ _ start o.first.1 o.second.first.1 o.second.second.first.1 o.second.second.second d m)

  last-clause : (us zs : List Token) → AClause us zs → SomeClauses us zs
  last-clause us zs h = clause-with us zs zs h h.second.0 zs h.second.1 [] (NoRescue _ _ _)

  more-clauses : (us zs : List Token) → Seq APartedClause SomeClauses us zs → SomeClauses us zs
  more-clauses us zs h =
      let b = h.first.second in
      let m = h.second b.0 b.1 b.3 in
      clause-with us h.mid zs h.first b.0 b.1 b.2 (m.0 ∷ m.1) m.2

  abbrev IsSome : List (Rescue Tree) → Type 0
  IsSome [] = ⊥
  IsSome (c ∷ cs) = Unit {0}

  added : (found : List (Rescue Tree)) (c : Rescue Tree) → IsSome (found ++ c ∷ [])
  added [] c = tt
  added (f ∷ found) c = tt

  abbrev Clausal : List Token → Outcome (List (Rescue Tree)) → Type 0
  Clausal xs o = Goes o (λ cs ys. IsSome cs × Reach xs ys SomeClauses) (λ rest. Completes xs rest SomeClauses)

  -- a clause, and those after it
  abbrev From : ℕ → Type 0
  From n = (found : List (Rescue Tree)) (k : Token) (ks : List Token) → Is shape.Rescue k → Clausal (k ∷ ks) (and_then (rescue_clause nested turns free (k ∷ ks)) (λ c. rescues_from nested turns free n (found ++ c ∷ [])))

  after-clause : (n : ℕ) → From n → (found : List (Rescue Tree)) → IsSome found → (all ys : List Token) → Reach all ys AClause → (sees shape.Rescue ys ≡ true → Reach all ys APartedClause) → Clausal all (rescues_from nested turns free (suc n) found ys)
  unfolding rescues_from
  after-clause n again found some all [] r p = record { told = (some, reach-as r last-clause) }
  after-clause n again found some all (t ∷ ts) r p = choosing (same_shape (shape_of t.kind) shape.Rescue)
      (λ e. goes-as (again found t ts (same _ _ e)) (λ cs ys m. (m.0, reach-as (reach-more (p e) m.1) more-clauses)) (λ rest q. complete-as (complete-after (p e) q) more-clauses))
      (λ e. record { told = (some, reach-as r last-clause) })

  clauses-from : (n : ℕ) → From n
  unfolding rescues_from
  clauses-from zero found k ks is = bind (clause-goes k ks is) (λ rest q. complete-as q last-clause) (λ c ys m. record { told = complete-as (complete-reach m.0) last-clause })
  clauses-from (suc n) found k ks is = bind (clause-goes k ks is) (λ rest q. complete-as q last-clause) (λ c ys m. after-clause n (clauses-from n) (found ++ c ∷ []) (added found c) (k ∷ ks) ys m.0 m.1)

  -- a body with some clauses
  abbrev ARescued : Rel
  ARescued us zs = (body : Tree) × (clause : Rescue Tree) × (clauses : List (Rescue Tree)) × (ms : List Token) × DerivesBody Inside free body us ms × DerivesRescues free body (clause ∷ clauses) ms zs

  rescued : (us zs : List Token) → Seq (AParted Inside free) SomeClauses us zs → ARescued us zs
  rescued us zs h = let b = h.first in let m = h.second b.0 b.1 b.3 in (b.0, m.0, m.1, b.1, b.2, m.2)

  -- a body, with clauses if there are any
  abbrev Rescues : List (Rescue Tree) → Rel
  Rescues [] = ABody Inside free
  Rescues (c ∷ cs) = ARescued

  some-rescued : (xs ys : List Token) (cs : List (Rescue Tree)) → IsSome cs → Reach xs ys ARescued → Reach xs ys (Rescues cs)
  some-rescued xs ys [] some r = absurd some
  some-rescued xs ys (c ∷ cs) some r = r

  abbrev pub AGuarded : Rel
  AGuarded us zs = (g : Guarded Tree) × DerivesGuarded free g us zs

  bare-guarded : (us zs : List Token) → ABody Inside free us zs → AGuarded us zs
  bare-guarded us zs h = (_, Unrescued _ _ _ _ _ _ h.1 (NoEnsure _ _))

  rescued-guarded : (us zs : List Token) → ARescued us zs → AGuarded us zs
  rescued-guarded us zs h = (_, Rescued _ _ _ _ _ _ _ _ _ _ _ h.4 h.5 (NoElse _ _) (NoEnsure _ _))

  pub guarded-stands : Stands AGuarded
  guarded-stands = stands-as (body-stands Inside free) bare-guarded

  rescues-go : (n : ℕ) (xs ps : List Token) → Reach xs ps (ABody Inside free) → (sees shape.Rescue ps ≡ true → Reach xs ps (AParted Inside free)) →
      Goes (rescues_from nested turns free n [] ps) (λ cs ys. Reach xs ys (Rescues cs)) (λ rest. Completes xs rest AGuarded)
  unfolding rescues_from
  rescues-go zero xs ps r p = record { told = complete-as (complete-reach r) bare-guarded }
  rescues-go (suc n) xs [] r p = record { told = r }
  rescues-go (suc n) xs (t ∷ ts) r p = choosing (same_shape (shape_of t.kind) shape.Rescue)
      (λ e. goes-as (clauses-from n [] t ts (same _ _ e)) (λ cs ys m. some-rescued xs ys cs m.0 (reach-as (reach-more (p e) m.1) rescued)) (λ rest q. complete-as (complete-after (p e) q) (λ us zs h. rescued-guarded us zs (rescued us zs h))))
      (λ e. record { told = r })

  abbrev AnEnsure : Rel
  AnEnsure us zs = (o : Option Tree) × DerivesEnsure free o us zs

  ensure-stands : Stands AnEnsure
  ensure-stands zs c = record { whole = zs; clear = c; derives = (None, NoEnsure _ _) }

  ensure-goes : (xs : List Token) → Plain xs (spec.ensure nested turns free xs) AnEnsure
  unfolding spec.ensure
  ensure-goes xs = if-seen shape.Ensure (λ ts. _) xs
      (λ t ts is. plainly (answering Some (bodied (ih.body free ts))) (λ us zs h. (_, SomeEnsure _ _ _ _ _ is h.1)))
      (done None xs (λ zs. (None, NoEnsure _ _)))

  whole-bare : (us zs : List Token) → Seq (ABody Inside free) AnEnsure us zs → AGuarded us zs
  whole-bare us zs h = (_, Unrescued _ _ _ _ _ _ h.first.1 h.second.1)

  whole-rescued : (us zs : List Token) → Seq ARescued (Seq AnElse AnEnsure) us zs → AGuarded us zs
  whole-rescued us zs h = (_, Rescued _ _ _ _ _ _ _ _ _ _ _ h.first.4 h.first.5 h.second.first.1 h.second.second.1)

  after-rescues : (body : Tree) (xs : List Token) (cs : List (Rescue Tree)) (ys : List Token) → Reach xs ys (Rescues cs) →
      Plain {A = Guarded Tree} xs (and_then (otherwise_after nested turns free cs ys) (λ other. λ zs. and_then (spec.ensure nested turns free zs) (λ last. λ vs. Ok (record { body = body; rescues = cs; otherwise = other; ensure = last }, vs)))) AGuarded
  unfolding otherwise_after
  after-rescues body xs [] ys r = goes-as (answering _ (ensure-goes ys)) (λ g zs m. reach-as (reach-more r m) whole-bare) (λ rest q. complete-as (complete-after r q) whole-bare)
  after-rescues body xs (c ∷ cs) ys r = goes-as (seq (else-goes ys) ensure-stands (λ other zs. answering _ (ensure-goes zs))) (λ g zs m. reach-as (reach-more r m) whole-rescued) (λ rest q. complete-as (complete-after r q) whole-rescued)

  pub guarded-goes : (xs : List Token) → Plain xs (guarded nested turns free xs) AGuarded
  unfolding guarded rescues
  guarded-goes xs = bind (ih.body free xs) (λ rest q. complete-as q bare-guarded) (λ body ps m. bind (rescues-go turns xs ps m.0 m.1) (λ rest q. q) (λ cs ys r. after-rescues body xs cs ys r))

  -- a form that nothing is made of, and a `begin`
  abbrev pub Guarding : Tree → Type 0
  Guarding t = Compound t × (is_begin t ≡ true)

  pub guards-go : (k : Token) (ks : List Token) → Is shape.Begin k → Closing (k ∷ ks) (guards nested turns free (k ∷ ks)) Guarding (APrimary free)
  unfolding guards
  guards-go k ks is = headed-closing k (closingly (seq-closing (guarded-goes ks) (last-stands end-stands) (λ g ps. closing shape.End end-stands _ (λ place. (ends-so _ _ (rolls-Begin _ _), noded _ _ (rolls-Begin _ _))) ps))
      (λ last us zs h. (_, Guards _ _ _ _ _ _ is (before-last h).1 h.second.0)))
