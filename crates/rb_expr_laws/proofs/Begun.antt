-- Bodies without declarations that are begun can be completed, and what is read of one is one by itself.
use Rattle.std.proofs.Common.{◌≡◌, ℕ, zero, suc, Bool, true, false, if◌then◌else◌, List, [], ◌∷◌, ◌++◌, inl, inr, refl, sym, subst}
use Rattle.rb_tree.specs.Tokens.{shape_of, same_shape}
use Rattle.rb_tree.specs.Trees.{span_of}
use Rattle.rb_tree.specs.declared.syntax.Tree.{Tree}
use Rattle.rb_tree.specs.declared.token.Token.{Token}
use Rattle.rb_tree.specs.declared.token.Shape.TheVariants as shape
use Rattle.rb_expr.specs.declared.form.Form.{Form}
use Rattle.rb_expr.specs.Reading.{Parser, sees, skip_separators}
use Rattle.rb_expr.specs.Shapes.{begins_statement}
use Rattle.rb_expr.specs.Statements as spec
use Rattle.rb_expr.specs.Statements.{ended, modifiers, statement, body_start, body_from, statements}
use Rattle.rb_rules.specs.Tokens.{Is}
use Rattle.rb_rules.specs.Forms.{is_begin}
use Rattle.rb_rules.specs.Grammar.{Gap}
use Rattle.rb_rules.specs.Grammar.Gap.{Closed, Wide}
use Rattle.rb_grammar.proofs.Steps.{same}
use Rattle.rb_completion_laws.proofs.Steps.{Rel, Reach, Seq, reach-as, reach-self, reach-more, reach-one, complete-as, complete-then, complete-after, complete-reach, bind, goes-as, choosing, Plain, refusing, gap, One, Perhaps, perhaps-stands}
use Rattle.rb_completion_laws.proofs.Viable.{Viable, LikeSimple}
use Rattle.rb_completion_laws.proofs.Statements.{WithModifiers, like-simple-goes, modifiers-go, modifiers-stand}
use Rattle.rb_expr_laws.specs.Bodies.{PlainBody, PlainMore, PlainStatement}

-- ---- with some tree

abbrev pub AStatement : Bool → Rel
AStatement constants us zs = (t : Tree) × PlainStatement constants t us zs

abbrev pub ABody : Bool → Rel
ABody constants us zs = (t : Tree) × PlainBody constants t us zs

-- ---- rows of statements

-- statements, with the separators after them
abbrev Row : Bool → Rel
Row constants = Perhaps (λ us zs. (s : Tree) × (ss : List Tree) × (qs rs : List Token) × PlainStatement constants s us qs × PlainMore constants ss qs rs × Gap rs zs)

alone-row : (constants : Bool) (us zs : List Token) → AStatement constants us zs → Row constants us zs
alone-row constants us zs h = inr (h.0, [], zs, zs, h.1, PlainMore.NoMore _ _, Closed _)

longer-row : (constants : Bool) (us zs : List Token) → Seq (AStatement constants) (Seq (One shape.Separator) (Seq Gap (Row constants))) us zs → Row constants us zs
longer-row constants us zs h = by h.mid h.second.mid h.second.second.mid h.first.0 h.first.1 h.second.first.0 h.second.first.1 h.second.first.2 h.second.second.first h.second.second.second
  where
    by : (qs ts ps : List Token) (s : Tree) → PlainStatement constants s us qs → (c : Token) → Is shape.Separator c → qs ≡ c ∷ ts → Gap ts ps → Row constants ps zs → Row constants us zs
    by qs ts ps s d c is e g (inl end) = inr (s, [], qs, qs, d, PlainMore.NoMore _ _, subst (λ v. Gap v zs) (sym e) (Wide _ _ _ is (subst (λ v. Gap ts v) end g)))
    by qs ts ps s d c is e g (inr r) = inr (s, r.0 ∷ r.1, qs, r.3, d, subst (λ v. PlainMore constants (r.0 ∷ r.1) v r.3) (sym e) (PlainMore.Another _ _ _ _ _ _ _ _ is g r.4 r.5), r.6)

body-of : (constants : Bool) (us zs : List Token) → Seq Gap (Row constants) us zs → ABody constants us zs
body-of constants us zs h = by h.mid h.first h.second
  where
    by : (ps : List Token) → Gap us ps → Row constants ps zs → ABody constants us zs
    by ps g (inl e) = (_, PlainBody.NoStatement _ _ _ (subst (λ v. Gap us v) e g))
    by ps g (inr r) = (_, PlainBody.Statements _ _ _ _ _ _ _ _ g r.4 r.5 r.6)

module _ (nested : Form → Bool → Parser Tree) (ih : Viable nested) (turns : ℕ) (constants : Bool) where
  statement-made : (begins : Bool) (us zs : List Token) → Seq (LikeSimple constants true begins) (WithModifiers nested ih turns true begins) us zs → AStatement constants us zs
  statement-made begins us zs h =
      let s = h.first.0 in
      let m = h.second s h.first.2 in
      (m.0, record { inner = s; after = h.mid; simple = h.first.1; modified = m.1 })

  statement-goes : (xs : List Token) → Plain xs (statement nested turns true constants xs) (AStatement constants)
  unfolding statement modifiers
  statement-goes xs = bind (like-simple-goes nested ih turns true constants xs) (λ rest q. complete-as (complete-then q (modifiers-stand nested ih turns true true)) (statement-made true))
      (λ s ps r. goes-as (modifiers-go nested ih turns true turns s ps) (λ t ys m. reach-as (reach-more r m) (statement-made (is_begin s))) (λ rest q. complete-as (complete-after r q) (statement-made (is_begin s))))

  after-statement : (start end n : ℕ) (found : List Tree) (xs : List Token) → ((found : List Tree) (end : ℕ) (us : List Token) → Plain us (body_from nested turns true constants start end n found us) (Row constants)) → (s : Tree) (qs : List Token) → Reach xs qs (AStatement constants) →
      Plain xs (if sees shape.Separator qs then body_from nested turns true constants start end n (found ++ s ∷ []) (skip_separators qs) else ended (found ++ s ∷ []) (record { start = start; end = end }) qs) (Row constants)
  unfolding ended
  after-statement start end n found xs again s [] r = record { told = reach-as r (alone-row constants) }
  after-statement start end n found xs again s (t ∷ ts) r = by (same_shape (shape_of t.kind) shape.Separator) refl
    where
      by : (b : Bool) → same_shape (shape_of t.kind) shape.Separator ≡ b →
          Plain xs (if b then body_from nested turns true constants start end n (found ++ s ∷ []) (if b then skip_separators ts else t ∷ ts) else ended (found ++ s ∷ []) (record { start = start; end = end }) (t ∷ ts)) (Row constants)
      by true e =
          let one = reach-one shape.Separator t ts (same _ _ e) in
          let g = gap ts in
          goes-as (again (found ++ s ∷ []) end (skip_separators ts))
          (λ b ys m. reach-as (reach-more r (reach-more one (reach-more g m))) (longer-row constants))
          (λ rest q. complete-as (complete-after r (complete-after one (complete-after g q))) (longer-row constants))
      by false e = choosing (sees shape.Rescue (t ∷ ts))
          (λ e. record { told = complete-as (complete-reach r) (alone-row constants) })
          (λ other. record { told = reach-as r (alone-row constants) })

  body-by : (start end n : ℕ) (found : List Tree) (xs : List Token) → Plain xs (body_from nested turns true constants start end n found xs) (Row constants)
  unfolding body_from
  body-by start end zero found xs = refusing xs perhaps-stands
  body-by start end (suc n) found xs = choosing (begins_statement xs)
      (λ e. bind (statement-goes xs) (λ rest q. complete-as q (alone-row constants)) (λ s qs r. after-statement start (span_of s).end n found xs (λ found end us. body-by start end n found us) s qs r))
      (λ e. record { told = reach-as (reach-self xs) (λ us zs e. inl e) })

  pub body-goes : (xs : List Token) → Plain xs (spec.body nested turns true constants xs) (ABody constants)
  unfolding spec.body statements
  body-goes xs = goes-as (body-by (body_start (skip_separators xs)) 0 turns [] (skip_separators xs))
      (λ t ys m. reach-as (reach-more (gap xs) m) (body-of constants))
      (λ rest q. complete-as (complete-after (gap xs) q) (body-of constants))
