-- Patterns, `when`s and clauses by what they give. What is judged after them reads neither the environment of the state after them, nor which
-- variables became visible but by what is around.
use Rattle.std.proofs.Common.{◌≡◌, ℕ, ◌+◌, ◌<◌, List, [], ◌∷◌, ◌++◌, length, drop, get_or, Option, ap, sym, ◌∙◌}
use Rattle.rb_tree.specs.declared.syntax.Rescue.{Rescue}
use Rattle.rb_tree.specs.declared.syntax.Tree.{Tree}
use Rattle.rb_tree.specs.declared.syntax.When.{When}
use Rattle.srb_terms.specs.declared.ty.Ty.{Ty}
use Rattle.srb_judgement.specs.Branches.{Branching, branching, with_branch, all_branches, with_otherwise}
use Rattle.srb_judgement.specs.Cases.{Fitting, fitting, after_patterns, fit_patterns, with_fit, with_whens, case_after}
use Rattle.srb_judgement.specs.Environments.{Environment, Silent, joined}
use Rattle.srb_judgement.specs.Guards.{Rescuing, with_clauses}
use Rattle.srb_judgement.specs.Languages.{Language}
use Rattle.srb_judgement.specs.Parts.{Part}
use Rattle.srb_judgement.specs.States.{Context, State, Tested, Test, moved, seeing}
use Rattle.srb_judgement.specs.Views.{settled}
use Rattle.srb_walk.specs.Known.{known_rescue, known_rescues, known_trees, known_when, known_whens, part_in}
use Rattle.srb_walk_control.specs.Passed.{placed, placed_fitting, settled_rescuing}
use Rattle.srb_walk_control.proofs.Branching.{drop_next, more, otherwise_placed}

module _ {X : Type 0} (L : Language Ty X) where
  abbrev tested_fit : (Part Ty X → Test Ty) → Part Ty X → Context Ty → Fitting Ty → Tested Ty
  tested_fit test p c a = test p (seeing a.visible c) (moved a.rest a.state)

  pub fits_placed : (test : Part Ty X → Test Ty) (patterns : List (Part Ty X)) (c d : Context Ty) (a b : Fitting Ty) → placed_fitting c a ≡ placed_fitting d b →
      placed_fitting c (fit_patterns L test patterns c a) ≡ placed_fitting d (fit_patterns L test patterns d b)
  fits_placed test [] c d a b h = h
  fits_placed test (p ∷ patterns) c d a b h =
      fits_placed test patterns c d (with_fit L a p.it.declares (tested_fit test p c a)) (with_fit L b p.it.declares (tested_fit test p d b))
      (λ i. record {
        fitting = record (with_fit L (h i).fitting [] (test p (h i).around (moved (h i).fitting.rest (h i).fitting.state)))
            { visible = []; state = moved Silent (test p (h i).around (moved (h i).fitting.rest (h i).fitting.state)).state };
        around = more p.it.declares a.visible b.visible c d (λ j. (h j).around) i;
      })

  after_placed : (body : Part Ty X) (c d : Context Ty) (a b : Branching Ty) (f g : Fitting Ty) → placed c a ≡ placed d b → placed_fitting c f ≡ placed_fitting d g →
      placed c (after_patterns L body c a f) ≡ placed d (after_patterns L body d b g)
  after_placed body c d a b f g h k = λ i. record {
    branching = record (with_branch L (h i).branching (k i).fitting.rest [] (body.it.judge (k i).around (moved (k i).fitting.fits (k i).fitting.state)))
        { state = moved Silent (body.it.judge (k i).around (moved (k i).fitting.fits (k i).fitting.state)).state };
    around = more body.it.declares f.visible g.visible c d (λ j. (k j).around) i;
  }

  pub whens_placed : (test : Part Ty X → Test Ty) (whens : List (When (Part Ty X))) (c d : Context Ty) (a b : Branching Ty) → placed c a ≡ placed d b →
      placed c (with_whens L test whens c a) ≡ placed d (with_whens L test whens d b)
  whens_placed test [] c d a b h = h
  whens_placed test (w ∷ whens) c d a b h =
      whens_placed test whens c d
      (after_patterns L w.body c a (fit_patterns L test w.patterns c (fitting L a.rest a.visible a.state)))
      (after_patterns L w.body d b (fit_patterns L test w.patterns d (fitting L b.rest b.visible b.state)))
      (after_placed w.body c d a b
      (fit_patterns L test w.patterns c (fitting L a.rest a.visible a.state)) (fit_patterns L test w.patterns d (fitting L b.rest b.visible b.state)) h
      (fits_placed test w.patterns c d (fitting L a.rest a.visible a.state) (fitting L b.rest b.visible b.state)
      (λ i. record { fitting = fitting L (h i).branching.rest [] (h i).branching.state; around = (h i).around })))

  pub clauses_settled : (clauses : List (Rescue (Part Ty X))) (c : Context Ty) (a b : Rescuing Ty) → settled_rescuing a ≡ settled_rescuing b →
      settled_rescuing (with_clauses L clauses c a) ≡ settled_rescuing (with_clauses L clauses c b)
  clauses_settled [] c a b h = h
  clauses_settled (r ∷ clauses) c a b h = ap (λ x. settled_rescuing (with_clauses L (r ∷ clauses) c x)) h

  -- one pattern, one `when` and one clause after the others
  pub fits_step : (test : Part Ty X → Test Ty) (row : List Tree) (i : ℕ) (p : Tree) (c d : Context Ty) (a b x : Fitting Ty) (e : Context Ty) →
      i < length row → p ≡ get_or row i p →
      placed_fitting d b ≡ placed_fitting c (fit_patterns L test (part_in L p ∷ []) c a) →
      placed_fitting c (fit_patterns L test (known_trees L (drop i row)) c a) ≡ placed_fitting e x →
      placed_fitting d (fit_patterns L test (known_trees L (drop (i + 1) row)) d b) ≡ placed_fitting e x
  fits_step test row i p c d a b x e within is h k =
      fits_placed test (known_trees L (drop (i + 1) row)) d c b (fit_patterns L test (part_in L p ∷ []) c a) h
      ∙ sym (ap (λ r. placed_fitting c (fit_patterns L test (known_trees L r) c a)) (drop_next row i p within is))
      ∙ k

  pub whens_step : (test : Part Ty X → Test Ty) (row : List (When Tree)) (i : ℕ) (w : When Tree) (c d : Context Ty) (a b x : Branching Ty) (e : Context Ty) →
      i < length row → w ≡ get_or row i w →
      placed d b ≡ placed c (with_whens L test (known_when L w ∷ []) c a) →
      placed c (with_whens L test (known_whens L (drop i row)) c a) ≡ placed e x →
      placed d (with_whens L test (known_whens L (drop (i + 1) row)) d b) ≡ placed e x
  whens_step test row i w c d a b x e within is h k =
      whens_placed test (known_whens L (drop (i + 1) row)) d c b (with_whens L test (known_when L w ∷ []) c a) h
      ∙ sym (ap (λ r. placed c (with_whens L test (known_whens L r) c a)) (drop_next row i w within is))
      ∙ k

  pub clauses_step : (row : List (Rescue Tree)) (i : ℕ) (r : Rescue Tree) (c : Context Ty) (a b x : Rescuing Ty) →
      i < length row → r ≡ get_or row i r →
      settled_rescuing b ≡ settled_rescuing (with_clauses L (known_rescue L r ∷ []) c a) →
      settled_rescuing (with_clauses L (known_rescues L (drop i row)) c a) ≡ settled_rescuing x →
      settled_rescuing (with_clauses L (known_rescues L (drop (i + 1) row)) c b) ≡ settled_rescuing x
  clauses_step row i r c a b x within is h k =
      clauses_settled (known_rescues L (drop (i + 1) row)) c b (with_clauses L (known_rescue L r ∷ []) c a) h
      ∙ sym (ap (λ rest. settled_rescuing (with_clauses L (known_rescues L rest) c a)) (drop_next row i r within is))
      ∙ k

  -- one pattern by what it gives
  pub fit_is : (test : Part Ty X → Test Ty) (p : Part Ty X) (c around : Context Ty) (so_far : Fitting Ty) (t u : Tested Ty) (fits rest : Environment Ty) →
      settled t ≡ settled u → fits ≡ joined L so_far.fits t.truth → rest ≡ t.falsehood → around ≡ seeing p.it.declares c →
      placed_fitting around (record { fits = fits; rest = rest; visible = []; state = t.state })
      ≡ placed_fitting c (record { fits = joined L so_far.fits u.truth; rest = u.falsehood; visible = p.it.declares; state = u.state })
  fit_is test p c around so_far t u fits rest h f r k = λ i. record {
    fitting = record {
      fits = (f ∙ ap (λ (x : Tested Ty). joined L so_far.fits x.truth) h) i;
      rest = (r ∙ ap (λ (x : Tested Ty). x.falsehood) h) i;
      visible = [];
      state = (h i).state;
    };
    around = k i;
  }

  -- `case` by what its `when`s give
  pub case_is : (test : Part Ty X → Test Ty) (whens : List (When (Part Ty X))) (otherwise : Option (Part Ty X)) (c d : Context Ty) (s : State Ty) (a b : Branching Ty) →
      a ≡ branching L s.environment s →
      placed d b ≡ placed c (with_whens L test whens c a) →
      all_branches L (with_otherwise L otherwise d b) ≡ case_after L test whens otherwise c s
  case_is test whens otherwise c d s a b start more =
      otherwise_placed L otherwise d c b (with_whens L test whens c (branching L s.environment s))
      (more ∙ ap (λ x. placed c (with_whens L test whens c x)) start)
