-- All parts of a program that are read have a fact where the program has it, and each tree that has it has it in the trees in it.
use Rattle.std.proofs.Common.{ℕ, zero, suc, ◌<◌, Bool, true, false, if◌then◌else◌, List, [], ◌∷◌, length, length-append, sym, ap, subst, arith}
use Rattle.rb_tree.specs.declared.syntax.Tree.{Tree}
use Rattle.rb_tree.specs.declared.syntax.Node.{out-Node}
use Rattle.rb_grammar.specs.Places.{Each}
use Rattle.srb_references.specs.declared.reading.Reading.TheVariants as reading
use Rattle.srb_references.specs.Readings.{Visit, visit, parts}
use Rattle.srb_references.specs.References.{row_visits, below, below_by_node, visits}
use Rattle.srb_references.specs.MalformedTypes.{is_type_part, own_types, types_of}
use Rattle.srb_references.proofs.Equations.{below_is}
use Rattle.srb_references_laws.proofs.Parts.{each-append, each-flat, OfNode, OfVisit, parts-all}

module _ (T : Tree → Type 0) (opens : (t : Tree) → T t → OfNode T (out-Node t.node)) where
  abbrev IsFine : Visit Tree → Type 0
  IsFine = OfVisit T

  -- what is read in a row of parts, by the number of parts that are read there
  rows-kept : (n : ℕ) (vs : List (Visit Tree)) → length (row_visits (λ x. x) below vs) < n → Each IsFine vs → Each IsFine (row_visits (λ x. x) below vs)
  unfolding below_by_node
  rows-kept zero vs less h = absurd (omega (arith, less))
  rows-kept (suc n) [] less h = tt
  rows-kept (suc n) (v ∷ vs) less h =
      let inner = parts (λ x. x) v.reading v.scope (out-Node v.part.node) in
      let e = below_is v.part v.reading v.scope in
      let sum = length-append (row_visits (λ x. x) below vs) (v ∷ below v.part v.reading v.scope) in
      each-append IsFine (row_visits (λ x. x) below vs) (v ∷ below v.part v.reading v.scope)
      (rows-kept n vs (omega (arith, less, sum)) h.1) (
        h.0,
        subst (Each IsFine) (sym e)
            (rows-kept n inner (omega (arith, less, sum, ap length e)) (parts-all T v.scope v.reading (out-Node v.part.node) (opens v.part h.0))),
      )

  pub visits-kept : (t : Tree) → T t → Each IsFine (visits t)
  visits-kept t h = rows-kept (suc (length (row_visits (λ x. x) below (visit reading.Plain [] t ∷ [])))) (visit reading.Plain [] t ∷ []) (omega arith) (h, tt)

  own-kept : (v : Visit Tree) → IsFine v → Each IsFine (own_types v)
  own-kept v h = by_test (is_type_part v.reading)
    where
      by_test : (b : Bool) → Each IsFine (if b then v ∷ [] else [])
      by_test true = (h, tt)
      by_test false = tt

  -- the parts of its type expressions are among them
  pub types-kept : (t : Tree) → T t → Each IsFine (types_of t)
  unfolding types_of
  types-kept t h = each-flat IsFine IsFine own_types own-kept (visits t) (visits-kept t h)
