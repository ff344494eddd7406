-- Operands with suffixes that are begun can be completed.
use Rattle.std.proofs.Common.{◌≡◌, ℕ, zero, suc, ◌+◌, ◌-◌, Bool, true, false, ◌||◌, List, [], ◌∷◌, ◌++◌, length, slice_get, Option, Some, None, ◌⊎◌, inl, inr, refl, sym, ap, subst, ◌∙◌, arith, ⊎_elim, length-append}
use Rattle.std.proofs.lemmas.Bool.Decides.{nat_tests}
use Rattle.srb_terms.specs.declared.span.Span.{Span}
use Rattle.rb_tree.specs.Tokens.{shape_of}
use Rattle.rb_tree.specs.Trees.{span_of}
use Rattle.rb_tree.specs.declared.syntax.Argument.{Argument}
use Rattle.rb_tree.specs.declared.syntax.Block.{Block}
use Rattle.rb_tree.specs.declared.syntax.Dot.{Dot}
use Rattle.rb_tree.specs.declared.syntax.Dot.TheVariants as dot
use Rattle.rb_tree.specs.declared.syntax.Suffix.{Suffix}
use Rattle.rb_tree.specs.declared.syntax.Suffix.TheVariants as suffix
use Rattle.rb_tree.specs.declared.syntax.Tree.{Tree}
use Rattle.rb_tree.specs.declared.syntax.Node.TheVariants.{rolls-Post}
use Rattle.rb_tree.specs.declared.token.Token.{Token}
use Rattle.rb_tree.specs.declared.token.Shape.{Shape}
use Rattle.rb_tree.specs.declared.token.Shape.TheVariants as shape
use Rattle.rb_expr.specs.declared.form.Form.{Form}
use Rattle.rb_expr.specs.declared.ending.Ending.{Ending}
use Rattle.rb_expr.specs.declared.ending.Ending.TheVariants as ending
use Rattle.rb_expr.specs.Lists.{end_with, span_of_suffix}
use Rattle.rb_expr.specs.Operands.{post_of, call_suffix, constant_suffix, index_suffix, suffix_by, a_suffix, suffixes_from, suffixes, post}
use Rattle.rb_expr.specs.Reading.{Outcome, Parser, touches, words_of}
use Rattle.rb_expr.specs.Shapes.{closes, is_index, is_index_after}
use Rattle.rb_expr.specs.Statements.{ending_of, ending_of_suffix, ending_of_last}
use Rattle.rb_rules.specs.Tokens.{Is, IsAny, IsOneOf, IsIdentifier, IsConstant, Touches}
use Rattle.rb_rules.specs.Forms.{is_begin}
use Rattle.rb_rules.specs.Grammar.{DOTS, IsRow, DerivesSuffix, DerivesIndex}
use Rattle.rb_rules.specs.Grammar.DerivesBrackets.{NoBrackets}
use Rattle.rb_rules.specs.Grammar.DerivesBlockAfter.{NoBlock}
use Rattle.rb_rules.specs.Grammar.DerivesOperand.{Bare, Suffixed}
use Rattle.rb_rules.specs.Grammar.DerivesSuffix.{Calls, Within as Inner, Indexed}
use Rattle.rb_rules.specs.Grammar.DerivesIndex.{Index}
use Rattle.rb_rules.specs.Grammar.DerivesTarget.{Attribute, Element}
use Rattle.rb_rules.specs.Grammar.DerivesCallee.{Of}
use Rattle.rb_rules.specs.Grammar.DerivesPrefixed.{Posted}
use Rattle.rb_grammar.proofs.Steps.{Within, within-token, within-more, identifier, constant}
use Rattle.rb_completion_laws.proofs.Steps.{Rel, This, Reach, Completes, Seq, reach-as, reach-more, reach-this, reach-token, reach-within, complete-as, complete-after, complete-new, complete-token, complete-reach, Goes, bind, goes-as, choosing, Ended, AnyEnd, follow-name, out}
use Rattle.rb_completion_laws.proofs.Begins.{posted-more}
use Rattle.rb_completion_laws.proofs.Viable.{Viable, AnOperand, AFront, LikeFront, LikeOperand, Signs, Uses, ends-so, name-stands}
use Rattle.rb_completion_laws.proofs.Calls.{added-got, AnIndex, index-goes}
use Rattle.rb_completion_laws.proofs.Operands.{constant-one, IsCall, Tail, tail-goes, primary-goes}

-- ---- where an index may stand

got-at : {A : Type 0} (front : List A) (b : A) (rest : List A) → slice_get (front ++ b ∷ rest) (length front) ≡ Some b
got-at [] b rest = refl
got-at (x ∷ front) b rest = got-at front b rest

got-before : (front : List Token) (b : Token) (rest : List Token) → slice_get (front ++ b ∷ rest) (length (front ++ b ∷ rest) - length rest - 1) ≡ Some b
got-before front b rest =
    let whole : length (front ++ b ∷ rest) ≡ length front + length (b ∷ rest) = length-append front (b ∷ rest) in
    let e : length (front ++ b ∷ rest) - length rest - 1 ≡ length front = omega arith in
    ap (slice_get (front ++ b ∷ rest)) e ∙ got-at front b rest

shape-closes : (c : Shape) → closes c ≡ true → IsOneOf (shape.CloseParen ∷ shape.CloseBracket ∷ shape.CloseBrace ∷ []) c
shape-closes shape.CloseParen e = inl refl
shape-closes shape.CloseBracket e = inr (inl refl)
shape-closes shape.CloseBrace e = inr (inr (inl refl))
shape-closes c e = absurd (cc)

abbrev MayIndex : Token → Token → Type 0
MayIndex before o = Touches before o ⊎ IsAny (shape.CloseParen ∷ shape.CloseBracket ∷ shape.CloseBrace ∷ []) before

either : (a b : Bool) → (a || b) ≡ true → (a ≡ true) ⊎ (b ≡ true)
either true b e = inl refl
either false b e = inr e

touch : (before o : Token) (os : List Token) → touches before.span (o ∷ os) ≡ true → Touches before o
touch before o os e = grind (arith, nat_tests)

may-index : (before o : Token) (os all : List Token) → Within all (before ∷ o ∷ os) → is_index all (o ∷ os) ≡ true → MayIndex before o
unfolding is_index
may-index before o os all w e =
    let after : is_index_after (slice_get (w.0 ++ before ∷ o ∷ os) (length (w.0 ++ before ∷ o ∷ os) - length (o ∷ os) - 1)) (o ∷ os) ≡ true = subst (λ zs. is_index_after (slice_get zs (length zs - length (o ∷ os) - 1)) (o ∷ os) ≡ true) w.1 e in
    let known : is_index_after (Some before) (o ∷ os) ≡ true = subst (λ x. is_index_after x (o ∷ os) ≡ true) (got-before w.0 before (o ∷ os)) after in
    ⊎_elim (λ k. inr (shape-closes _ k)) (λ k. inl (touch before o os k)) (either _ _ known)

module _ (nested : Form → Bool → Parser Tree) (ih : Viable nested) (turns : ℕ) (free : Bool) where
  -- ---- one suffix

  abbrev SomeSuffix : Token → Token → Rel
  SomeSuffix before last us zs = (s : Suffix Tree) × DerivesSuffix free s before last us zs

  -- with an operand before it, what both may be used as
  abbrev LikeSuffix : Ending → Token → Token → Rel
  LikeSuffix e before last us zs = SomeSuffix before last us zs × ((all : List Token) → AnOperand free before all us → Uses e free all zs)

  abbrev Suffixing : Token → List Token → Outcome (Suffix Tree) → Type 0
  Suffixing before xs o = Goes o (λ s ys. Ended xs ys (LikeSuffix (ending_of_suffix s) before)) (λ rest. Completes xs rest (AnyEnd (SomeSuffix before)))

  no-uses : (e : Ending) → e ≡ ending.Other → (before : Token) (us zs : List Token) → (all : List Token) → AnOperand free before all us → Uses e free all zs
  no-uses e is before us zs all o = subst (λ x. Uses x free all zs) (sym is) tt

  -- a name after a dot
  plain-call : (before d n : Token) (joint : Dot) (zs : List Token) → IsRow DOTS (shape_of d.kind) joint → IsIdentifier n (words_of n.kind) → SomeSuffix before n (d ∷ n ∷ zs) zs
  plain-call before d n joint zs row is = (_, Calls _ _ _ _ _ _ _ _ _ _ _ _ _ row is (NoBrackets _ _) (NoBlock _ _ _) (inl refl))

  is-dot : (d : Token) → IsRow DOTS (shape_of d.kind) dot.Plain → Is shape.Dot d
  is-dot d (inl h) = h.0
  is-dot d (inr (inl h)) = absurd (let e : dot.Plain ≡ dot.Safe = h.1 in cc)
  is-dot d (inr (inr h)) = absurd h

  plain-uses : (before d n : Token) (joint : Dot) (end : ℕ) (zs : List Token) → IsRow DOTS (shape_of d.kind) joint → IsIdentifier n (words_of n.kind) → (all : List Token) → AnOperand free before all (d ∷ n ∷ zs) →
      Uses (ending_of_suffix {T = Tree} (suffix.Call joint (words_of n.kind) n.span None None (record { start = d.span.start; end = end }))) free all zs
  plain-uses before d n dot.Plain end zs row is all o = ((λ constants. (_, Attribute _ _ _ _ _ _ _ _ _ _ o.2 (is-dot d row) is)), (_, Of _ _ _ _ _ _ _ _ _ _ o.2 row is))
  plain-uses before d n dot.Safe end zs row is all o = (_, Of _ _ _ _ _ _ _ _ _ _ o.2 row is)

  tail-suffix : (before d n last : Token) (joint : Dot) (us zs : List Token) → IsRow DOTS (shape_of d.kind) joint → IsIdentifier n (words_of n.kind) → Tail nested ih turns free n last us zs → SomeSuffix before last (d ∷ n ∷ us) zs
  tail-suffix before d n last joint us zs row is t = (_, Calls _ _ _ _ _ _ _ _ _ _ _ _ _ row is t.4 t.5 t.6)

  call-other : (joint : Dot) (w : List ℕ) (place span : Span) (given : Option (List (Argument Tree))) (b : Option (Block Tree)) → IsCall nested ih turns free given b → ending_of_suffix {T = Tree} (suffix.Call joint w place given b span) ≡ ending.Other
  call-other dot.Plain w place span None None c = absurd c
  call-other dot.Plain w place span None (Some b) c = refl
  call-other dot.Plain w place span (Some given) b c = refl
  call-other dot.Safe w place span None None c = absurd c
  call-other dot.Safe w place span None (Some b) c = refl
  call-other dot.Safe w place span (Some given) b c = refl

  -- after the dot
  call-goes : (before : Token) (joint : Dot) (d : Token) (ds : List Token) → IsRow DOTS (shape_of d.kind) joint → Suffixing before (d ∷ ds) (call_suffix nested turns free joint (d ∷ ds))
  unfolding call_suffix
  call-goes before joint d ds row = follow-name shape.Identifier (λ ps. Reach (d ∷ ds) ps (This d)) _ ds (reach-this d ds)
      (λ r. complete-as (complete-after r (complete-new _ name-stands)) (λ us zs h. (h.second.0, alone us zs h.second.0 (identifier h.second.0 h.second.1) (record { mid = h.mid; first = h.first; second = h.second.2 }))))
      (λ n ns is r. let rn = reach-more r (reach-this n ns) in
      goes-as (tail-goes nested ih turns free (λ given end b. suffix.Call joint (words_of n.kind) n.span given b (record { start = d.span.start; end = end_with b end })) (λ s. ending_of_suffix {T = Tree} s ≡ ending.Other)
      (λ given end b c. call-other joint (words_of n.kind) n.span (record { start = d.span.start; end = end_with b end }) given b c) n n.span.end ns)
      (λ s ys m. ⊎_elim
      (λ k. subst (λ s. Ended (d ∷ ds) ys (LikeSuffix (ending_of_suffix {T = Tree} s) before)) (sym k.1) (subst (λ v. Ended (d ∷ ds) v (LikeSuffix (ending_of_suffix {T = Tree} (suffix.Call joint (words_of n.kind) n.span None None (record { start = d.span.start; end = k.0 }))) before)) k.2
      (n, reach-within r, reach-as rn (λ us zs h. (alone us zs n (identifier n is) h, λ all o. plain-uses before d n joint k.0 zs row (identifier n is) all (subst (λ v. AnOperand free before all v) (first us zs n h) o))))))
      (λ k. (k.1.0, within-more (reach-within rn) k.1.1, reach-as (reach-more rn k.1.2) (λ us zs h. (whole us zs n k.1.0 (identifier n is) h, no-uses (ending_of_suffix {T = Tree} s) k.0 before us zs)))) m)
      (λ rest q. complete-as (complete-after rn q) (λ us zs h. let k = out h in (k.0, whole us zs n k.0 (identifier n is) k.1))))
    where
      first : (us zs : List Token) (n : Token) → Seq (This d) (This n) us zs → us ≡ d ∷ n ∷ zs
      first us zs n h = h.first ∙ ap (λ v. d ∷ v) h.second

      alone : (us zs : List Token) (n : Token) → IsIdentifier n (words_of n.kind) → Seq (This d) (This n) us zs → SomeSuffix before n us zs
      alone us zs n is h = subst (λ v. SomeSuffix before n v zs) (sym (first us zs n h)) (plain-call before d n joint zs row is)

      whole : (us zs : List Token) (n last : Token) → IsIdentifier n (words_of n.kind) → Seq (Seq (This d) (This n)) (Tail nested ih turns free n last) us zs → SomeSuffix before last us zs
      whole us zs n last is h = subst (λ v. SomeSuffix before last v zs) (sym (first us h.mid n h.first)) (tail-suffix before d n last joint h.mid zs row is h.second)

  constant-goes : (before c : Token) (cs : List Token) → Is shape.Scope c → Suffixing before (c ∷ cs) (constant_suffix nested turns free (c ∷ cs))
  unfolding constant_suffix
  constant-goes before c cs is = follow-name shape.Constant (λ ps. Reach (c ∷ cs) ps (This c)) _ cs (reach-this c cs)
      (λ r. complete-as (complete-after r (complete-new _ constant-one)) (λ us zs h. (h.second.0, made us zs h.second.0 (constant h.second.0 h.second.1) (record { mid = h.mid; first = h.first; second = h.second.2 }))))
      (λ n ns con r. record { told = (n, reach-within r, reach-as (reach-more r (reach-this n ns)) (λ us zs h. (made us zs n (constant n con) h, λ all o. tt))) })
    where
      made : (us zs : List Token) (n : Token) → IsConstant n (words_of n.kind) → Seq (This c) (This n) us zs → SomeSuffix before n us zs
      made us zs n con h = subst (λ v. SomeSuffix before n v zs) (sym (h.first ∙ ap (λ v. c ∷ v) h.second)) (_, Inner _ _ _ _ _ _ is con)

  index-made : (before o last : Token) (us zs : List Token) → Is shape.OpenBracket o → MayIndex before o → AnIndex nested ih turns free last us zs → (s : Suffix Tree) × DerivesIndex s before last (o ∷ us) zs
  index-made before o last us zs is may h = (_, Index _ _ _ _ _ _ _ _ is may h.3 h.4 h.5 h.6 h.7)

  index-suffix-goes : (before o : Token) (os : List Token) → Is shape.OpenBracket o → MayIndex before o → Suffixing before (o ∷ os) (index_suffix nested turns free (o ∷ os))
  unfolding index_suffix
  index-suffix-goes before o os is may = bind (index-goes nested ih turns free os)
      (λ rest q. complete-token o (complete-as q (λ us zs h. let k = index-made before o h.0 us zs is may h.1 in (h.0, (k.0, Indexed _ _ _ _ _ _ k.1)))))
      (λ r ys m. record {
        told = (
          m.1.0,
          within-token o m.1.1,
          reach-token o (reach-as m.1.2 (λ us zs h. let k = index-made before o m.1.0 us zs is may h in
              ((k.0, Indexed _ _ _ _ _ _ k.1), λ all d constants. (_, Element _ _ _ _ _ _ _ _ _ _ d.2 k.1)))),
        );
      })

  -- a suffix, or none, and then nothing is read
  abbrev MaySuffix : Token → List Token → Option (Suffix Tree) → List Token → Type 0
  MaySuffix before xs (Some s) ys = Ended xs ys (LikeSuffix (ending_of_suffix s) before)
  MaySuffix before xs None ys = xs ≡ ys

  abbrev Perhaps' : Token → List Token → Outcome (Option (Suffix Tree)) → Type 0
  Perhaps' before xs o = Goes o (MaySuffix before xs) (λ rest. Completes xs rest (AnyEnd (SomeSuffix before)))

  suffix-by : (all : List Token) (before : Token) (s : Shape) (t : Token) (ts : List Token) → Within all (before ∷ t ∷ ts) → Is s t → Perhaps' before (t ∷ ts) (suffix_by nested turns free all (Some s) (t ∷ ts))
  suffix-by all before shape.Dot t ts w is = bind (call-goes before dot.Plain t ts (inl (is, refl))) (λ rest q. q) (λ s ys m. record { told = m })
  suffix-by all before shape.SafeDot t ts w is = bind (call-goes before dot.Safe t ts (inr (inl (is, refl)))) (λ rest q. q) (λ s ys m. record { told = m })
  suffix-by all before shape.Scope t ts w is = bind (constant-goes before t ts is) (λ rest q. q) (λ s ys m. record { told = m })
  suffix-by all before shape.OpenBracket t ts w is = choosing (is_index all (t ∷ ts))
      (λ e. bind (index-suffix-goes before t ts is (may-index before t ts all w e)) (λ rest q. q) (λ s ys m. record { told = m }))
      (λ e. record { told = refl })
  suffix-by all before s t ts w is = record { told = refl }

  suffix-goes : (all : List Token) (before : Token) (xs : List Token) → Within all (before ∷ xs) → Perhaps' before xs (a_suffix nested turns free all xs)
  unfolding a_suffix
  suffix-goes all before [] w = record { told = refl }
  suffix-goes all before (t ∷ ts) w = suffix-by all before (shape_of t.kind) t ts w refl

  -- ---- suffixes in a row

  ending-post : (r : Tree) (ss : List (Suffix Tree)) (s : Suffix Tree) (end : ℕ) → ending_of (post_of r (ss ++ s ∷ []) end) ≡ ending_of_suffix s
  ending-post r [] s end = ends-so _ _ (rolls-Post r (s ∷ []) (record { start = (span_of r).start; end = end }))
  ending-post r (x ∷ ss) s end = ends-so _ _ (rolls-Post r (x ∷ (ss ++ s ∷ [])) (record { start = (span_of r).start; end = end })) ∙ ap ending_of_last (added-got (x ∷ ss) s)

  -- an operand so far
  abbrev SoFar : Bool → Ending → Token → Rel
  SoFar begins e last us zs = LikeOperand free begins last us zs × Signs (AnOperand free last) us zs × Uses e free us zs

  abbrev pub Post : Bool → Ending → Rel
  Post begins e us zs = LikeFront free begins us zs × Uses e free us zs

  like-front : (begins : Bool) (last : Token) (us zs : List Token) → LikeOperand free begins last us zs → Signs (AnOperand free last) us zs → LikeFront free begins us zs
  like-front begins last us zs o signs = ((_, Posted _ _ _ _ _ _ o.2, o.3), λ m is before raised. let s = signs m is before raised in (_, Posted _ _ _ _ _ _ s.2))

  as-front : (last : Token) (us zs : List Token) → AnOperand free last us zs → Signs (AnOperand free last) us zs → AFront free us zs
  as-front last us zs o signs = ((_, Posted _ _ _ _ _ _ o.2), λ m is before raised. let s = signs m is before raised in (_, Posted _ _ _ _ _ _ s.2))

  plain-operand : (begins : Bool) (last : Token) (us zs : List Token) → LikeOperand free begins last us zs → AnOperand free last us zs
  plain-operand begins last us zs o = (o.0, o.1, o.2)

  abbrev Row : List Token → Tree → List Token → Type 0
  Row all t xs = (before : Token) × Within all (before ∷ xs) × Reach all xs (SoFar (is_begin t) (ending_of t) before)

  with-suffix : (begins now : Bool) (e : Ending) (before last : Token) (us zs : List Token) (d : Seq (SoFar begins e before) (SomeSuffix before last) us zs) → LikeOperand free now last us zs × Signs (AnOperand free last) us zs
  with-suffix begins now e before last us zs d = (
    (_, _, Suffixed _ _ _ _ _ _ _ _ _ d.first.0.2 d.second.1, λ none. posted-more _ _ _),
    λ m is b raised. let s = d.first.1 m is b raised in (_, _, Suffixed _ _ _ _ _ _ _ _ _ s.2 d.second.1),
  )

  row-more : (all : List Token) (r : Tree) (end : ℕ) (ss : List (Suffix Tree)) (s : Suffix Tree) (end' : ℕ) (xs : List Token) (h : Row all (post_of r ss end) xs) (ys : List Token) → Ended xs ys (LikeSuffix (ending_of_suffix s) h.0) → Row all (post_of r (ss ++ s ∷ []) end') ys
  row-more all r end ss s end' xs h ys k = (
    k.0,
    within-more (reach-within h.2) k.1,
    reach-as (reach-more h.2 k.2) (λ us zs d.
        let w = with-suffix _ (is_begin (post_of r (ss ++ s ∷ []) end')) _ h.0 k.0 us zs (record { mid = d.mid; first = d.first; second = d.second.0 }) in
        (w.0, w.1, subst (λ e. Uses e free us zs) (sym (ending-post r ss s end')) (d.second.1 us (plain-operand _ h.0 us d.mid d.first.0)))),
  )

  suffixes-by : (all : List Token) (r : Tree) (end n : ℕ) (ss : List (Suffix Tree)) (xs : List Token) → Row all (post_of r ss end) xs → Goes (suffixes_from nested turns free all r end n ss xs) (λ t ys. Reach all ys (Post (is_begin t) (ending_of t))) (λ rest. Completes all rest (AFront free))
  unfolding suffixes_from
  suffixes-by all r end zero ss xs h = record { told = complete-as (complete-reach h.2) (λ us zs d. as-front h.0 us zs (plain-operand _ h.0 us zs d.0) d.1) }
  suffixes-by all r end (suc n) ss xs h = bind (suffix-goes all h.0 xs h.1)
      (λ rest q. complete-as (complete-after h.2 q) (λ us zs d. let k = out d in let w = with-suffix _ true _ h.0 k.0 us zs k.1 in as-front k.0 us zs (plain-operand true k.0 us zs w.0) w.1))
      (elim [
        | Some s ↦ λ ys k. suffixes-by all r (span_of_suffix s).end n (ss ++ s ∷ []) ys (row-more all r end ss s (span_of_suffix s).end xs h ys k)
        | None ↦ λ ys e. record {
          told = subst (λ v. Reach all v (Post (is_begin (post_of r ss end)) (ending_of (post_of r ss end)))) e (reach-as h.2 (λ us zs d. (like-front _ h.0 us zs d.0 d.1, d.2)));
        }
      ])

  pub post-goes : (xs : List Token) → Goes (post nested turns free xs) (λ t ys. Reach xs ys (Post (is_begin t) (ending_of t))) (λ rest. Completes xs rest (AFront free))
  unfolding post suffixes
  post-goes xs = bind (primary-goes nested ih turns free xs) (λ rest q. complete-as q (λ us zs d. as-front d.0 us zs (_, [], Bare _ _ _ _ _ d.1.0.1) (λ m is b raised. let s = d.1.1 m is b raised in (_, [], Bare _ _ _ _ _ s.1))))
      (λ r ys h. suffixes-by xs r 0 turns [] ys (h.0, h.1, reach-as h.2 (λ us zs d. ((_, [], Bare _ _ _ _ _ d.0.1, d.0.2), (λ m is b raised. let s = d.1 m is b raised in (_, [], Bare _ _ _ _ _ s.1)), d.2))))
