-- Conditional forms and loops that are read derive.
use Rattle.std.proofs.Common.{◌≡◌, ℕ, zero, suc, Bool, true, false, if◌then◌else◌, List, [], ◌∷◌, ◌++◌, Option, None, ◌⊎◌, inl, inr, refl, sym, subst, ◌∙◌, append_assoc, append-nil}
use Rattle.rb_tree.specs.Tokens.{shape_of, same_shape}
use Rattle.rb_tree.specs.declared.syntax.Arm.{Arm}
use Rattle.rb_tree.specs.declared.syntax.Guarded.{Guarded}
use Rattle.rb_tree.specs.declared.syntax.PlacedName.{PlacedName}
use Rattle.rb_tree.specs.declared.syntax.Rescue.{Rescue}
use Rattle.rb_tree.specs.declared.syntax.Test.{Test}
use Rattle.rb_tree.specs.declared.syntax.Test.TheVariants as test
use Rattle.rb_tree.specs.declared.syntax.Tree.{Tree}
use Rattle.rb_tree.specs.Nodes as tree
use Rattle.rb_tree.specs.declared.syntax.Node.TheVariants.{rolls-If, rolls-While, rolls-Case, rolls-Begin}
use Rattle.rb_tree.specs.declared.syntax.When.{When}
use Rattle.rb_tree.specs.declared.token.Token.{Token}
use Rattle.rb_tree.specs.declared.token.Shape.TheVariants as shape
use Rattle.rb_expr.specs.declared.form.Form.{Form}
use Rattle.rb_expr.specs.declared.form.Form.TheVariants as form
use Rattle.rb_expr.specs.Reading.{Parser, sees, after, skip_separators}
use Rattle.rb_expr.specs.Branches.{after_then, then_word, do_word, otherwise, elsif_arm, elsif_arms_from, elsif_arms, arms_of, branch, repeated, subject, patterns_from, patterns, when_arm, when_arms_from, when_arms, choice, rescue_variable, raised, rescue_clause, rescues_from, rescues, otherwise_after, ensure, guarded, guards}
use Rattle.rb_rules.specs.Tokens.{Is, IsAny}
use Rattle.rb_rules.specs.Forms.{Inside}
use Rattle.rb_rules.specs.Grammar.{Then, IsRow, BRANCH_WORDS, LOOP_WORDS, Parted, RescueVariable, DerivesBody, DerivesSimple, DerivesTerm, DerivesArms, DerivesElse, DerivesSubject, DerivesWhens, DerivesPatterns, DerivesGuarded, DerivesRescues, DerivesRaised, DerivesEnsure, DerivesPrimary}
use Rattle.rb_rules.specs.Grammar.Then.{Word, Line, LineWord}
use Rattle.rb_rules.specs.Grammar.DerivesArms.{NoArm, MoreArms}
use Rattle.rb_rules.specs.Grammar.DerivesElse.{NoElse, SomeElse}
use Rattle.rb_rules.specs.Grammar.DerivesSubject.{NoSubject, SomeSubject}
use Rattle.rb_rules.specs.Grammar.DerivesWhens.{NoWhen, MoreWhens}
use Rattle.rb_rules.specs.Grammar.DerivesPatterns.{LastPattern, MorePatterns}
use Rattle.rb_rules.specs.Grammar.RescueVariable.{NoVariable, Bound}
use Rattle.rb_rules.specs.Grammar.DerivesGuarded.{Unrescued, Rescued}
use Rattle.rb_rules.specs.Grammar.DerivesRescues.{NoRescue, MoreRescues}
use Rattle.rb_rules.specs.Grammar.DerivesRaised.{AnyError, SomeErrors}
use Rattle.rb_rules.specs.Grammar.DerivesEnsure.{NoEnsure, SomeEnsure}
use Rattle.rb_rules.specs.Grammar.DerivesPrimary.{Branches, Loops, Guards, Cases}
use Rattle.rb_grammar.proofs.Steps.{Holds, answered, refused, step, weaker, choose, same, taking, took, naming, follow, testing, seen, shown, identifier, Within, within-self, within-token, within-more, gap}
use Rattle.rb_grammar.proofs.Sound.{Sound, Ready, Primary, starts, used}

after-then : (s : Token) (ts : List Token) → Is shape.Separator s → Then (s ∷ ts) (after_then ts) × Within (s ∷ ts) (after_then ts)
after-then s [] is = (Line _ _ is, within-token s (within-self _))
after-then s (t ∷ ts) is = by (same_shape (shape_of t.kind) shape.Then) refl
  where
    by : (b : Bool) → same_shape (shape_of t.kind) shape.Then ≡ b → Then (s ∷ t ∷ ts) (if b then ts else t ∷ ts) × Within (s ∷ t ∷ ts) (if b then ts else t ∷ ts)
    by true e = (LineWord _ _ _ is (same _ _ e), within-token s (within-token t (within-self _)))
    by false e = (Line _ _ is, within-token s (within-self _))

then-holds : (xs : List Token) → Holds (then_word xs) (λ a ys. Then xs ys × Within xs ys)
unfolding then_word
then-holds [] = refused _ _
then-holds (t ∷ ts) = testing
    (λ is. took shape.Then (λ xs a ys. Then xs ys × Within xs ys) _ (λ t ts is. (Word _ _ is, within-token t (within-self _))))
    (λ no. taking shape.Separator (λ xs a ys. Then xs ys × Within xs ys) _ _ (λ t ts is. answered _ _ _ (after-then t ts is)))

abbrev Opens : List Token → List Token → Type 0
Opens xs ys = (d : Token) × (xs ≡ d ∷ ys) × IsAny (shape.Do ∷ shape.Separator ∷ []) d

do-holds : (xs : List Token) → Holds (do_word xs) (λ a ys. Opens xs ys)
unfolding do_word
do-holds [] = refused _ _
do-holds (t ∷ ts) = testing
    (λ is. took shape.Do (λ xs a ys. Opens xs ys) _ (λ t ts is. (t, refl, inl is)))
    (λ no. took shape.Separator (λ xs a ys. Opens xs ys) _ (λ t ts is. (t, refl, inr (inl is))))

abbrev AVariable : List Token → Option PlacedName → List Token → Type 0
AVariable xs n ys = RescueVariable n xs ys × Within xs ys

variable-holds : (xs : List Token) → Holds (rescue_variable xs) (AVariable xs)
unfolding rescue_variable
variable-holds [] = answered _ _ _ (NoVariable _, within-self _)
variable-holds (a ∷ as') = testing
    (λ is. naming shape.Identifier (λ us. AVariable (a ∷ us)) _ as' (λ t ts id. answered (AVariable (a ∷ t ∷ ts)) _ ts (Bound _ _ _ _ is (identifier t id), within-token a (within-token t (within-self _)))))
    (λ no. answered (AVariable (a ∷ as')) None (a ∷ as') (NoVariable _, within-self _))

module _ (nested : Form → Bool → Parser Tree) (ih : Sound nested) (turns : ℕ) (free : Bool) where
  abbrev Else : List Token → Option Tree → List Token → Type 0
  Else xs o ys = DerivesElse free o xs ys × Within xs ys

  else-holds : (xs : List Token) → Holds (otherwise nested turns free xs) (Else xs)
  unfolding otherwise
  else-holds [] = answered _ _ _ (NoElse _ _, within-self _)
  else-holds (t ∷ ts) = testing
      (λ is. step (ih.body free ts) (λ b ys h. answered _ _ _ (SomeElse _ _ _ _ _ is h.0, within-token t h.1)))
      (λ no. answered _ _ _ (NoElse _ _, within-self _))

  abbrev Arms : List Token → List (Arm Tree) → List Token → Type 0
  Arms xs arms ys = DerivesArms free arms xs ys × Within xs ys

  abbrev AnArm : List Token → Arm Tree → List Token → Type 0
  AnArm xs a ys = (more : List (Arm Tree)) (zs : List Token) → Arms ys more zs → Arms xs (a ∷ more) zs

  arm-holds : (xs : List Token) → Holds (elsif_arm nested turns free xs) (AnArm xs)
  unfolding elsif_arm
  arm-holds xs = taking shape.Elsif AnArm _ xs (λ k ks is.
      step (ih.simple free ks) (λ c ps hc. step (then-holds ps) (λ _ qs ht. step (ih.body free qs) (λ b ys hb.
      answered _ _ _ (λ more zs h. (MoreArms _ _ _ _ _ _ _ _ _ _ is hc.0 ht.0 hb.0 h.0, within-token k (within-more hc.1 (within-more ht.1 (within-more hb.1 h.1)))))))))

  arms-from : (n : ℕ) (found : List (Arm Tree)) (xs : List Token) → Holds (elsif_arms_from nested turns free n found xs) (λ r ys. (more : List (Arm Tree)) × (r ≡ found ++ more) × Arms xs more ys)
  unfolding elsif_arms_from
  arms-from zero found xs = refused _ _
  arms-from (suc n) found [] = answered _ _ _ ([], sym (append-nil found), (NoArm _ _, within-self _))
  arms-from (suc n) found (t ∷ ts) = testing
      (λ is. step (arm-holds (t ∷ ts)) (λ a ys h. weaker (arms-from n (found ++ a ∷ []) ys) (λ r zs g. (a ∷ g.0, g.1 ∙ append_assoc found (a ∷ []) g.0, h _ _ g.2))))
      (λ no. answered _ _ _ ([], sym (append-nil found), (NoArm _ _, within-self _)))

  arms-holds : (xs : List Token) → Holds (elsif_arms nested turns free xs) (Arms xs)
  unfolding elsif_arms
  arms-holds xs = weaker (arms-from turns [] xs) (λ r ys g. subst (λ arms. Arms xs arms ys) (sym g.1) g.2)

  arms-of-holds : (word : Test) (xs : List Token) → Holds (arms_of nested turns free word xs) (λ arms ys. Arms xs arms ys × (word ≡ test.Positive ⊎ arms ≡ []))
  unfolding arms_of
  arms-of-holds test.Positive xs = weaker (arms-holds xs) (λ r ys h. (h, inl refl))
  arms-of-holds test.Negative xs = answered _ _ _ ((NoArm _ _, within-self _), inr refl)

  pub branch-holds : (word : Test) (k : Token) (ks : List Token) → IsRow BRANCH_WORDS (shape_of k.kind) word → Holds (branch nested turns free word (k ∷ ks)) (Primary free (k ∷ ks))
  unfolding branch
  branch-holds word k ks is = step (ih.simple free ks) (λ c ps hc. step (then-holds ps) (λ _ qs ht. step (ih.body free qs) (λ b rs hb.
      step (arms-of-holds word rs) (λ arms us ha. step (else-holds us) (λ other vs he.
      follow shape.End (λ vs. Else us other vs) _ _ _ he (λ e ys ends he. answered _ _ _
      (e, Branches _ _ _ _ _ _ _ _ _ _ _ _ _ _ is hc.0 ht.0 hb.0 ha.0.0 ha.1 he.0 ends, within-token k (within-more hc.1 (within-more ht.1 (within-more hb.1 (within-more ha.0.1 he.1)))), starts _ _ _ (rolls-If _ _ _ _ _ _) refl, used _ _ _ _ _ (rolls-If _ _ _ _ _ _) tt)))))))

  pub repeated-holds : (word : Test) (k : Token) (ks : List Token) → IsRow LOOP_WORDS (shape_of k.kind) word → Holds (repeated nested turns free word (k ∷ ks)) (Primary free (k ∷ ks))
  unfolding repeated
  repeated-holds word k ks is = step (ih.simple false ks) (λ c ps hc. step (do-holds ps) (λ _ qs hd. step (ih.body free qs) (λ b rs hb.
      follow shape.End (λ rs. DerivesBody Inside free b qs rs × Within qs rs) _ _ _ (hb.0, hb.1) (λ e ys ends hb.
      let hs = subst (λ ps. DerivesSimple false false c ks ps × Within ks ps) hd.1 (hc.0, hc.1) in
      answered _ _ _ (e, Loops _ _ _ _ _ _ _ _ _ _ is hs.0 hd.2 hb.0 ends, within-token k (within-more hs.1 (within-token hd.0 hb.1)), starts _ _ _ (rolls-While _ _ _ _) refl, used _ _ _ _ _ (rolls-While _ _ _ _) tt)))))

  -- ---- rows of patterns

  abbrev Patterns : List Token → List Tree → List Token → Type 0
  Patterns xs ts ys = DerivesPatterns free ts xs ys × Within xs ys

  patterns-from : (n : ℕ) (found : List Tree) (xs : List Token) → Holds (patterns_from nested turns free n found xs) (λ r ys. (more : List Tree) × (r ≡ found ++ more) × Patterns xs more ys)
  unfolding patterns_from
  patterns-from zero found xs = refused _ _
  patterns-from (suc n) found xs = step (ih.term free xs) (λ p ps h. choose
      (λ e. let s = seen shape.Comma ps e in
      let c = subst (λ ps. DerivesTerm free p xs ps × Within xs ps) s.2 (h.0, h.1) in
      weaker (patterns-from n (found ++ p ∷ []) (after ps)) (λ r zs g.
      (p ∷ g.0, g.1 ∙ append_assoc found (p ∷ []) g.0, (MorePatterns _ _ _ _ _ _ _ c.0 s.1 g.2.0, within-more c.1 (within-token s.0 g.2.1)))))
      (λ e. answered _ _ _ (p ∷ [], refl, (LastPattern _ _ _ _ h.0, h.1))))

  patterns-holds : (xs : List Token) → Holds (patterns nested turns free xs) (Patterns xs)
  unfolding patterns
  patterns-holds xs = weaker (patterns-from turns [] xs) (λ r ys g. subst (λ ts. Patterns xs ts ys) (sym g.1) g.2)

  -- ---- guards

  abbrev Ensured : List Token → Option Tree → List Token → Type 0
  Ensured xs o ys = DerivesEnsure free o xs ys × Within xs ys

  ensure-holds : (xs : List Token) → Holds (ensure nested turns free xs) (Ensured xs)
  unfolding ensure
  ensure-holds [] = answered _ _ _ (NoEnsure _ _, within-self _)
  ensure-holds (t ∷ ts) = testing
      (λ is. step (ih.body free ts) (λ b ys h. answered _ _ _ (SomeEnsure _ _ _ _ _ is h.0, within-token t h.1)))
      (λ no. answered _ _ _ (NoEnsure _ _, within-self _))

  abbrev Raised : List Token → List Tree → List Token → Type 0
  Raised xs ts ys = DerivesRaised free ts xs ys × Within xs ys

  raised-holds : (xs : List Token) → Holds (raised nested turns free xs) (Raised xs)
  unfolding raised
  raised-holds xs = choose (λ e. answered _ _ _ (AnyError _ _, within-self _))
      (λ e. weaker (patterns-holds xs) (λ r ys h. (SomeErrors _ _ _ _ h.0, h.1)))

  -- a clause, up to its body, which may end earlier than it was read
  abbrev AClause : List Token → Rescue Tree → List Token → Type 0
  AClause xs c ys = (ws : List Token) × Within xs ws × DerivesBody Inside free c.body ws ys × Within ws ys × Ready free c.body ws ys ×
      ((vs zs us : List Token) (before : Tree) (more : List (Rescue Tree)) → Parted before us xs → DerivesBody Inside free c.body ws vs → DerivesRescues free c.body more vs zs → DerivesRescues free before (c ∷ more) us zs)

  clause-holds : (xs : List Token) → Holds (rescue_clause nested turns free xs) (AClause xs)
  unfolding rescue_clause
  clause-holds xs = taking shape.Rescue AClause _ xs (λ k ks is.
      step (raised-holds ks) (λ ts ps hr. step (variable-holds ps) (λ n qs hv. step (then-holds qs) (λ _ rs ht. step (ih.body free rs) (λ b ys hb.
      answered (AClause (k ∷ ks)) (record { patterns = ts; variable = n; body = b }) ys
      (rs, within-token k (within-more hr.1 (within-more hv.1 ht.1)), hb.0, hb.1, hb.2, λ vs zs us before more p d m. MoreRescues _ _ _ _ _ _ _ _ _ _ _ _ _ _ p is hr.0 hv.0 ht.0 d m))))))

  -- clauses from here on, after a separator or nothing
  abbrev Clauses : List Token → List (Rescue Tree) → List Token → Type 0
  Clauses xs [] ys = xs ≡ ys
  Clauses xs (c ∷ more) ys = (sees shape.Rescue xs ≡ true) × Within xs ys × ((us : List Token) (before : Tree) → Parted before us xs → DerivesRescues free before (c ∷ more) us ys)

  clauses-more : (xs : List Token) (c : Rescue Tree) (ys : List Token) → sees shape.Rescue xs ≡ true → AClause xs c ys → (more : List (Rescue Tree)) (zs : List Token) → Clauses ys more zs → Clauses xs (c ∷ more) zs
  clauses-more xs c ys next h [] zs e = subst (λ us. Clauses xs (c ∷ []) us) e (next, within-more h.1 h.3, λ us before p. h.5 _ _ _ _ _ p h.2 (NoRescue _ _ _))
  clauses-more xs c ys next h (d ∷ more) zs m =
      let r = h.4 m.0 in
      (next, within-more h.1 (within-more h.3 m.1), λ us before p. h.5 _ _ _ _ _ p r.1 (m.2 r.0 c.body r.2))

  clauses-from : (n : ℕ) (found : List (Rescue Tree)) (xs : List Token) → Holds (rescues_from nested turns free n found xs) (λ r ys. (more : List (Rescue Tree)) × (r ≡ found ++ more) × Clauses xs more ys)
  unfolding rescues_from
  clauses-from zero found xs = refused _ _
  clauses-from (suc n) found [] = answered _ _ _ ([], sym (append-nil found), refl)
  clauses-from (suc n) found (t ∷ ts) = testing
      (λ is. step (clause-holds (t ∷ ts)) (λ c ys h. weaker (clauses-from n (found ++ c ∷ []) ys) (λ r zs g.
      (c ∷ g.0, g.1 ∙ append_assoc found (c ∷ []) g.0, clauses-more (t ∷ ts) c ys (shown shape.Rescue t ts is) h g.0 zs g.2))))
      (λ no. answered _ _ _ ([], sym (append-nil found), refl))

  clauses-holds : (xs : List Token) → Holds (rescues nested turns free xs) (Clauses xs)
  unfolding rescues
  clauses-holds xs = weaker (clauses-from turns [] xs) (λ r ys g. subst (λ cs. Clauses xs cs ys) (sym g.1) g.2)

  -- an `else` stands after clauses alone
  abbrev Otherwise : List (Rescue Tree) → List Token → Option Tree → List Token → Type 0
  Otherwise [] xs o ys = (o ≡ None) × (xs ≡ ys)
  Otherwise (c ∷ more) xs o ys = Else xs o ys

  otherwise-holds : (cs : List (Rescue Tree)) (xs : List Token) → Holds (otherwise_after nested turns free cs xs) (Otherwise cs xs)
  unfolding otherwise_after
  otherwise-holds [] xs = answered _ _ _ (refl, refl)
  otherwise-holds (c ∷ more) xs = else-holds xs

  abbrev pub ABody : List Token → Tree → List Token → Type 0
  ABody xs t ys = DerivesBody Inside free t xs ys × Within xs ys × Ready free t xs ys

  abbrev pub AGuarded : List Token → Guarded Tree → List Token → Type 0
  AGuarded xs g ys = DerivesGuarded free g xs ys × Within xs ys

  guarded-made : (xs : List Token) (b : Tree) (ps : List Token) → ABody xs b ps → (cs : List (Rescue Tree)) (qs : List Token) → Clauses ps cs qs → (o : Option Tree) (rs : List Token) → Otherwise cs qs o rs → (e : Option Tree) (ys : List Token) → Ensured rs e ys →
      AGuarded xs (record { body = b; rescues = cs; otherwise = o; ensure = e }) ys
  guarded-made xs b ps hb [] qs hc o rs ho e ys he =
      let d = subst (λ us. DerivesBody Inside free b xs us × Within xs us) (hc ∙ ho.1) (hb.0, hb.1) in
      subst (λ o. AGuarded xs (record { body = b; rescues = []; otherwise = o; ensure = e }) ys) (sym ho.0) (Unrescued _ _ _ _ _ _ d.0 he.0, within-more d.1 he.1)
  guarded-made xs b ps hb (c ∷ more) qs hc o rs ho e ys he =
      let r = hb.2 hc.0 in
      (Rescued _ _ _ _ _ _ _ _ _ _ _ r.1 (hc.2 r.0 b r.2) ho.0 he.0, within-more hb.1 (within-more hc.1 (within-more ho.1 he.1)))

  -- one more separator may stand before where the body is read
  pub guarded-after : (xs ys : List Token) → Holds (nested form.Body free ys) (ABody xs) → Holds (guarded nested turns free ys) (AGuarded xs)
  unfolding guarded
  guarded-after xs ys h = step h (λ b ps hb. step (clauses-holds ps) (λ cs qs hc. step (otherwise-holds cs qs) (λ o rs ho. step (ensure-holds rs) (λ e us he.
      answered (AGuarded xs) (record { body = b; rescues = cs; otherwise = o; ensure = e }) us (guarded-made xs b ps hb cs qs hc o rs ho e us he)))))

  pub guards-holds : (k : Token) (ks : List Token) → Is shape.Begin k → Holds (guards nested turns free (k ∷ ks)) (Primary free (k ∷ ks))
  unfolding guards
  guards-holds k ks is = step (guarded-after ks ks (ih.body free ks)) (λ g ps h.
      follow shape.End (λ ps. AGuarded ks g ps) _ _ _ h (λ e ys ends h. answered _ _ _
      (e, Guards _ _ _ _ _ _ is h.0 ends, within-token k h.1, starts _ _ _ (rolls-Begin _ _) refl, used _ _ _ _ _ (rolls-Begin _ _) tt)))

  -- ---- `case`

  abbrev Subject : List Token → Option Tree → List Token → Type 0
  Subject xs o ys = DerivesSubject free o xs ys × Within xs ys

  subject-holds : (xs : List Token) → Holds (subject nested turns free xs) (Subject xs)
  unfolding subject
  subject-holds xs = choose (λ e. answered _ _ _ (NoSubject _ _, within-self _))
      (λ e. step (ih.simple free xs) (λ t ys h. answered _ _ _ (SomeSubject _ _ _ _ h.0, h.1)))

  abbrev Whens : List Token → List (When Tree) → List Token → Type 0
  Whens xs arms ys = DerivesWhens free arms xs ys × Within xs ys

  abbrev AWhen : List Token → When Tree → List Token → Type 0
  AWhen xs a ys = (more : List (When Tree)) (zs : List Token) → Whens ys more zs → Whens xs (a ∷ more) zs

  when-holds : (xs : List Token) → Holds (when_arm nested turns free xs) (AWhen xs)
  unfolding when_arm
  when-holds xs = taking shape.When AWhen _ xs (λ k ks is.
      step (patterns-holds ks) (λ c ps hc. step (then-holds ps) (λ _ qs ht. step (ih.body free qs) (λ b ys hb.
      answered _ _ _ (λ more zs h. (MoreWhens _ _ _ _ _ _ _ _ _ _ is hc.0 ht.0 hb.0 h.0, within-token k (within-more hc.1 (within-more ht.1 (within-more hb.1 h.1)))))))))

  abbrev SomeWhens : List (When Tree) → List Token → List (When Tree) → List Token → Type 0
  SomeWhens found xs r ys = (first : When Tree) × (more : List (When Tree)) × (r ≡ found ++ first ∷ more) × Whens xs (first ∷ more) ys

  whens-from : (n : ℕ) (found : List (When Tree)) (xs : List Token) → Holds (when_arms_from nested turns free n found xs) (SomeWhens found xs)
  unfolding when_arms_from
  whens-from zero found xs = refused _ _
  whens-from (suc n) found xs = step (when-holds xs) (λ a ys h. choose
      (λ e. weaker (whens-from n (found ++ a ∷ []) ys) (λ r zs g. (a, g.0 ∷ g.1, g.2 ∙ append_assoc found (a ∷ []) (g.0 ∷ g.1), h _ _ g.3)))
      (λ e. answered _ _ _ (a, [], refl, h _ _ (NoWhen _ _, within-self _))))

  whens-holds : (xs : List Token) → Holds (when_arms nested turns free xs) (SomeWhens [] xs)
  unfolding when_arms
  whens-holds xs = whens-from turns [] xs

  pub choice-holds : (k : Token) (ks : List Token) → Is shape.Case k → Holds (choice nested turns free (k ∷ ks)) (Primary free (k ∷ ks))
  unfolding choice
  choice-holds k ks is = step (subject-holds ks) (λ o ps ho. step (whens-holds (skip_separators ps)) (λ arms rs ha. step (else-holds rs) (λ other vs he.
      follow shape.End (λ vs. Else rs other vs) _ _ _ he (λ e ys ends he.
      let g = gap ps in
      answered _ _ _ (
        e,
        subst (λ arms. DerivesPrimary free (tree.Case o arms other (record { start = k.span.start; end = e.span.end })) e (k ∷ ks) ys) (sym ha.2) (Cases _ _ _ _ _ _ _ _ _ _ _ _ is ho.0 g.0 ha.3.0 he.0 ends),
        within-token k (within-more ho.1 (within-more g.1 (within-more ha.3.1 he.1))),
        starts _ _ _ (rolls-Case _ _ _ _) refl,
        used _ _ _ _ _ (rolls-Case _ _ _ _) tt,
      )))))
