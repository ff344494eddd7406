-- How an expression is read goes by its node and by how its parts are read.
use Rattle.std.proofs.Common.{◌≡◌, ℕ, List, [], ◌∷◌, map, refl, ap, sym, ◌∙◌}
use Rattle.srb_terms.specs.declared.outline.NodeKind.{NodeKind}
use Rattle.srb_terms.specs.declared.outline.NodeKind.TheVariants as kind
use Rattle.srb_terms.specs.declared.outline.Outline.{Outline, out-Outline}
use Rattle.srb_terms.specs.declared.outline.Outline.TheOpen.{Outline-F}
use Rattle.srb_terms.specs.declared.outline.Outline.TheViews.{roll-Outline, roll-out-Outline}
use Rattle.srb_terms.specs.declared.outline.Outline.TheFolds.{para-roll-Outline}
use Rattle.srb_sig.specs.declared.reading.Notes.{Notes}
use Rattle.srb_sig.specs.declared.reading.Row.{Row}
use Rattle.srb_sig.specs.Forms.{kind_of, parts_of, type_form}
use Rattle.srb_sig.specs.Views.{View}
use Rattle.srb_sig.specs.Types.{Inside, Rows, argument_rows, inside, inside_at, inside_by, reading, reading_by, rows, rows_in, with_each, with_one}

module _ (v : View) (scope : List (List ℕ)) where
  -- a tree and how it is read
  abbrev Known : Type 0
  Known = Outline × Inside

  abbrev known : Outline → Known
  known t = (t, inside v scope t)

  trees-known : (ts : List Outline) → map (λ (x : Known). x.0) (map known ts) ≡ ts
  trees-known [] = refl
  trees-known (t ∷ ts) = ap (λ us. t ∷ us) (trees-known ts)

  each-known : (f : Outline → Inside → Rows) (ts : List Outline) (row : Row) →
      with_each (λ (x : Known). f x.0 x.1) (map known ts) row ≡ with_each (λ t. f t (inside v scope t)) ts row
  each-known f [] row = refl
  each-known f (t ∷ ts) row = each-known f ts (f t (inside v scope t) row)

  rows-known : (k : NodeKind) (ts : List Outline) →
      rows_in (λ (x : Known). x.0) (λ (x : Known). x.1) k (map known ts) ≡ rows_in (λ t. t) (inside v scope) k ts
  rows-known kind.Keyword ts = λ i row. each-known (λ t inner. with_one inner.own) ts row i
  rows-known kind.Brackets ts = λ i row. each-known (λ t. argument_rows (kind_of t)) ts row i
  rows-known kind.Index ts = λ i row. each-known (λ t. argument_rows (kind_of t)) ts row i
  rows-known kind.SuffixCall ts = λ i row. each-known (λ t inner. inner.rows) ts row i
  rows-known kind.Post ts = λ i row. each-known (λ t inner. inner.rows) ts row i
  rows-known k ts = refl

  inside-roll : (o : Outline-F Outline) →
      inside v scope (roll-Outline o) ≡ inside_by v scope (roll-Outline o) (rows_in (λ t. t) (inside v scope) o.label.kind o.parts)
  unfolding inside
  inside-roll o = para-roll-Outline Inside (inside_at v scope) o
      ∙ λ i. inside_by v scope (roll-Outline (record { label = o.label; parts = trees-known o.parts i })) (rows-known o.label.kind o.parts i)

  inside-is : (t : Outline) → inside v scope t ≡ inside_by v scope t (rows_in (λ t. t) (inside v scope) (kind_of t) (parts_of t))
  inside-is t = ap (inside v scope) (sym (roll-out-Outline t))
      ∙ inside-roll (out-Outline t)
      ∙ ap (λ u. inside_by v scope u (rows_in (λ t. t) (inside v scope) (kind_of t) (parts_of t))) (roll-out-Outline t)

  -- what stands in a tree is read part by part
  pub rows_are : (t : Outline) (row : Row) → rows v scope t row ≡ rows_in (λ t. t) (inside v scope) (kind_of t) (parts_of t) row
  rows_are t row = ap (λ i. i.rows row) (inside-is t)

  -- an expression is read by its form and by what stands in it
  pub reading_is : (t : Outline) (n : Notes) → reading v scope t n ≡ reading_by v scope (type_form t) t (rows v scope t) n
  reading_is t n = ap (λ i. i.own n) (inside-is t)
      ∙ ap (λ (r : Rows). reading_by v scope (type_form t) t r n) (sym (ap (λ i. i.rows) (inside-is t)))
