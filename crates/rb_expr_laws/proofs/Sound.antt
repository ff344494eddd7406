-- Bodies without declarations that are read derive, and a separator or nothing parts them from a `rescue`.
use Rattle.std.proofs.Common.{◌≡◌, ◌⊎◌, inl, inr, ℕ, zero, suc, Bool, true, false, if◌then◌else◌, List, [], ◌∷◌, ◌++◌, refl, sym, ap, subst, ◌∙◌, append_assoc, append-nil}
use Rattle.rb_tree.specs.Trees.{span_of}
use Rattle.rb_tree.specs.declared.syntax.Tree.{Tree}
use Rattle.rb_tree.specs.Nodes as tree
use Rattle.rb_tree.specs.declared.token.Token.{Token}
use Rattle.rb_tree.specs.declared.token.Shape.TheVariants as shape
use Rattle.rb_expr.specs.declared.form.Form.{Form}
use Rattle.rb_expr.specs.Reading.{Parser, start_of, sees, skip_separators}
use Rattle.rb_expr.specs.Shapes.{begins_statement}
use Rattle.rb_expr.specs.Statements.{modifiers, ended, statement, body_from, body_start, statements}
use Rattle.rb_expr.specs.Statements as spec
use Rattle.rb_rules.specs.Tokens.{Is, StartsWith}
use Rattle.rb_rules.specs.Spans.{last_of}
use Rattle.rb_rules.specs.Grammar.{Gap, Parted, body_of}
use Rattle.rb_rules.specs.Grammar.Gap.{Closed, Wide}
use Rattle.rb_rules.specs.Grammar.Parted.{AfterNothing, AfterSeparator}
use Rattle.rb_grammar.proofs.Steps.{Holds, answered, refused, step, weaker, choosing, same, shown, gap}
use Rattle.rb_grammar.proofs.Sound.{Sound, Starts}
use Rattle.rb_grammar.proofs.Statements as statements_sound
use Rattle.rb_expr_laws.specs.Bodies.{IsParted, PlainBody, PlainMore, PlainStatement}

-- a separator stands before the tokens left, if a `rescue` is next
abbrev Divided : List Token → List Token → Type 0
Divided rs ys = (sees shape.Rescue ys ≡ false) ⊎ ((t : Token) × Is shape.Separator t × Gap rs (t ∷ ys))

-- the last of some separators
last-separator : (t : Token) (ts ys : List Token) → Is shape.Separator t → Gap ts ys → (u : Token) × Is shape.Separator u × Gap (t ∷ ts) (u ∷ ys)
last-separator t ts ys is (Closed _) = (t, is, Closed _)
last-separator t ts ys is (Wide u us _ is2 g) = let l = last-separator u us ys is2 g in (l.0, l.1, Wide _ _ _ is l.2)

divided-rescue : (ys : List Token) → StartsWith (shape.Rescue ∷ []) ys → sees shape.Rescue ys ≡ false → ⊥
divided-rescue [] h e = h
divided-rescue (t ∷ ts) (inl is) e = absurd (let f = shown shape.Rescue t ts is in cc)
divided-rescue (t ∷ ts) (inr h) e = h

module _ (nested : Form → Bool → Parser Tree) (ih : Sound nested) (turns : ℕ) where
  abbrev Statement : Bool → List Token → Tree → List Token → Type 0
  Statement constants all t ys = PlainStatement constants t all ys × Starts t all

  pub statement-holds : (constants : Bool) (xs : List Token) → Holds (statement nested turns true constants xs) (Statement constants xs)
  unfolding statement modifiers
  statement-holds constants xs = step (statements_sound.simple-holds nested ih turns true constants xs)
      (λ s ps h. weaker (statements_sound.modifiers-from nested ih turns true turns s ps) (λ t ys k. (record { inner = s; after = ps; simple = h.0; modified = k.0 }, k.2 ∙ h.2)))

  -- where the last of some statements ends, or the number
  abbrev end_by : ℕ → List Tree → ℕ
  end_by end [] = end
  end_by end (s ∷ ss) = end_by (span_of s).end ss

  last-end : (s : Tree) (ss : List Tree) → end_by (span_of s).end ss ≡ (span_of (last_of s ss)).end
  last-end s [] = refl
  last-end s (t ∷ ss) = last-end t ss

  -- statements from here on, and what is left after them and separators
  abbrev Row : Bool → List Token → List Tree → List Token → Type 0
  Row constants xs [] ys = (begins_statement xs ≡ false) × (xs ≡ ys)
  Row constants xs (s ∷ ss) ys = (qs rs : List Token) × (begins_statement xs ≡ true) × PlainStatement constants s xs qs × PlainMore constants ss qs rs × Gap rs ys × Divided rs ys × Starts s xs

  abbrev Rest : Bool → ℕ → ℕ → List Tree → List Token → Tree → List Token → Type 0
  Rest constants start end found xs t ys = (ss : List Tree) × (t ≡ tree.Body (found ++ ss) (record { start = start; end = end_by end ss })) × Row constants xs ss ys

  -- after separators
  parted : (qs : List Token) → sees shape.Separator qs ≡ true → (t : Token) × (ts : List Token) × (qs ≡ t ∷ ts) × Is shape.Separator t × Gap ts (skip_separators qs)
  parted [] e = absurd (cc)
  parted (t ∷ ts) e = (t, ts, refl, same _ _ e, subst (λ zs. Gap ts zs) (ap (λ b. if b then skip_separators ts else t ∷ ts) (sym e)) (gap ts).0)

  row-more : (constants : Bool) (t : Token) (ts zs : List Token) → Is shape.Separator t → Gap ts zs → (ss : List Tree) (ys : List Token) → Row constants zs ss ys → (rs : List Token) × PlainMore constants ss (t ∷ ts) rs × Gap rs ys × Divided rs ys
  row-more constants t ts zs is g [] ys h = let g' = subst (λ us. Gap ts us) h.1 g in (t ∷ ts, PlainMore.NoMore _ _, Wide _ _ _ is g', inr (last-separator t ts ys is g'))
  row-more constants t ts zs is g (s ∷ ss) ys h = (h.1, PlainMore.Another _ _ _ _ _ _ _ _ is g h.3 h.4, h.5, h.6)

  body-from : (constants : Bool) (start end n : ℕ) (found : List Tree) (xs : List Token) → Holds (body_from nested turns true constants start end n found xs) (Rest constants start end found xs)
  unfolding body_from ended
  body-from constants start end zero found xs = refused _ _
  body-from constants start end (suc n) found xs = choosing (begins_statement xs)
      (λ e. step (statement-holds constants xs) (λ s qs h. choosing (sees shape.Separator qs)
      (λ more. weaker (body-from constants start (span_of s).end n (found ++ s ∷ []) (skip_separators qs)) (λ t ys m.
      let p = parted qs more in
      let r = row-more constants p.0 p.1 (skip_separators qs) p.3 p.4 m.0 ys m.2 in (
        s ∷ m.0,
        m.1 ∙ ap (λ all. tree.Body all (record { start = start; end = end_by (span_of s).end m.0 })) (append_assoc found (s ∷ []) m.0),
        (qs, r.0, e, h.0, subst (λ us. PlainMore constants m.0 us r.0) (sym p.2) r.1, r.2, r.3, h.1),
      )))
      (λ last. choosing (sees shape.Rescue qs) (λ bare. refused _ _)
      (λ none. answered (Rest constants start end found xs) _ qs (s ∷ [], refl, (qs, qs, e, h.0, PlainMore.NoMore _ _, Closed _, inl none, h.1))))))
      (λ e. answered (Rest constants start end found xs) _ xs ([], ap (λ all. tree.Body all (record { start = start; end = end })) (sym (append-nil found)), (e, refl)))

  body-made : (constants : Bool) (all xs : List Token) → Gap all xs → (ss : List Tree) (ys : List Token) → Row constants xs ss ys → PlainBody constants (tree.Body ss (record { start = body_start xs; end = end_by 0 ss })) all ys
  body-made constants all xs g [] ys h =
      subst (λ b. PlainBody constants (tree.Body [] (record { start = if b then start_of xs else 0; end = 0 })) all ys) (sym h.0) (PlainBody.NoStatement _ _ _ (subst (λ zs. Gap all zs) h.1 g))
  body-made constants all xs g (s ∷ ss) ys h =
      subst (λ b. PlainBody constants (tree.Body (s ∷ ss) (record { start = if b then start_of xs else 0; end = end_by (span_of s).end ss })) all ys) (sym h.2)
      (subst (λ n. PlainBody constants (tree.Body (s ∷ ss) (record { start = n; end = end_by (span_of s).end ss })) all ys) h.7
      (subst (λ n. PlainBody constants (tree.Body (s ∷ ss) (record { start = (span_of s).start; end = n })) all ys) (sym (last-end s ss))
      (PlainBody.Statements _ _ _ _ _ _ _ _ g h.3 h.4 h.5)))

  body-divided : (constants : Bool) (all xs : List Token) → Gap all xs → (ss : List Tree) (ys : List Token) → Row constants xs ss ys → IsParted constants all ys
  body-divided constants all xs g [] ys h rescue = (body_of [], ys, PlainBody.NoStatement _ _ _ (subst (λ zs. Gap all zs) h.1 g), AfterNothing _)
  body-divided constants all xs g (s ∷ ss) ys h rescue = by h.6
    where
      by : Divided h.1 ys → (t : Tree) × (ps : List Token) × PlainBody constants t all ps × Parted t ps ys
      by (inl none) = absurd (divided-rescue ys rescue none)
      by (inr (t, is, gap)) = (body_of (s ∷ ss), t ∷ ys, PlainBody.Statements _ _ _ _ _ _ _ _ g h.3 h.4 gap, AfterSeparator _ t _ is)

  pub body-holds : (constants : Bool) (xs : List Token) → Holds (spec.body nested turns true constants xs) (λ t ys. PlainBody constants t xs ys × IsParted constants xs ys)
  unfolding spec.body statements
  body-holds constants xs = weaker (body-from constants (body_start (skip_separators xs)) 0 turns [] (skip_separators xs))
      (λ t ys m. (
        subst (λ u. PlainBody constants u xs ys) (sym m.1) (body-made constants xs (skip_separators xs) (gap xs).0 m.0 ys m.2),
        body-divided constants xs (skip_separators xs) (gap xs).0 m.0 ys m.2,
      ))
