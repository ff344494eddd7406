-- Rows by what their parts give: statements, operands, and the pairs of hashes.
use Rattle.std.proofs.Common.{◌≡◌, ℕ, ◌+◌, ◌<◌, false, List, [], ◌∷◌, ◌++◌, length, drop, get_or, map, refl, ap, sym, ◌∙◌}
use Rattle.srb_terms.specs.declared.ty.Ty.{Ty}
use Rattle.rb_tree.specs.declared.syntax.Pair.{Pair}
use Rattle.rb_tree.specs.declared.syntax.Pair.TheVariants as pair
use Rattle.rb_tree.specs.declared.syntax.Tree.{Tree}
use Rattle.srb_judgement.specs.Judgements.{part_of}
use Rattle.srb_judgement.specs.Languages.{Language}
use Rattle.srb_judgement.specs.Parts.{Part}
use Rattle.srb_judgement.specs.Sequences.{and_one, judge_more, judge_statements}
use Rattle.srb_judgement.specs.States.{Context, State, Judged, Several, judged, seeing}
use Rattle.srb_judgement.specs.Variables.{part_operand}
use Rattle.srb_judgement.specs.Words.{element_type, judge_pairs, hash_of, hash}
use Rattle.srb_walk.specs.Assigned.{names_of}
use Rattle.srb_walk.specs.Judging.{judge_of}
use Rattle.srb_walk.specs.Known.{known_pair, known_pairs, known_trees}
use Rattle.srb_walk_control.specs.Passed.{pair_names}
use Rattle.srb_walk_control.proofs.Branching.{drop_next}

module _ {X : Type 0} (L : Language Ty X) where
  -- one statement or operand, and then the others
  pub statements_step : (row : List Tree) (i : ℕ) (t : Tree) (c d : Context Ty) (a b x : Judged Ty) →
      i < length row → t ≡ get_or row i t → b ≡ judge_of L t c a.state → d ≡ seeing (names_of L false t) c →
      judge_statements (known_trees L (drop i row)) c a ≡ x →
      judge_statements (known_trees L (drop (i + 1) row)) d b ≡ x
  statements_step row i t c d a b x within is h k e =
      (λ j. judge_statements (known_trees L (drop (i + 1) row)) (k j) (h j))
      ∙ sym (ap (λ rest. judge_statements (known_trees L rest) c a) (drop_next row i t within is))
      ∙ e

  pub operands_step : (row : List Tree) (i : ℕ) (t : Tree) (c d : Context Ty) (a b x : Several Ty) →
      i < length row → t ≡ get_or row i t → b ≡ and_one a.types (judge_of L t c a.state) → d ≡ seeing (names_of L false t) c →
      judge_more (map part_operand (known_trees L (drop i row))) c a ≡ x →
      judge_more (map part_operand (known_trees L (drop (i + 1) row))) d b ≡ x
  operands_step row i t c d a b x within is h k e =
      (λ j. judge_more (map part_operand (known_trees L (drop (i + 1) row))) (k j) (h j))
      ∙ sym (ap (λ rest. judge_more (map part_operand (known_trees L rest)) c a) (drop_next row i t within is))
      ∙ e

  -- a key and its value, by what each gives
  pub arrow_is : (key value : Tree) (c inside : Context Ty) (old : record { keys : List Ty; values : List Ty; state : State Ty }) (a b : Several Ty) →
      a ≡ and_one old.keys (judge_of L key c old.state) → inside ≡ seeing (names_of L false key) c → b ≡ and_one old.values (judge_of L value inside a.state) →
      record { keys = a.types; values = b.types; state = b.state } ≡ judge_pairs L (pair.Arrow (part_of L key) (part_of L value) ∷ []) c old
  arrow_is key value c inside old a b first seen second =
      (λ i. record { keys = a.types; values = (second i).types; state = (second i).state })
      ∙ (λ i. record {
        keys = (first i).types;
        values = old.values ++ (judge_of L value (seen i) (first i).state).ty ∷ [];
        state = (judge_of L value (seen i) (first i).state).state;
      })

  -- one pair, and then the others
  pub pairs_more : (p : Pair Tree) (rest : List (Pair (Part Ty X))) (c : Context Ty) (so_far : record { keys : List Ty; values : List Ty; state : State Ty }) →
      judge_pairs L (known_pair L p ∷ rest) c so_far ≡ judge_pairs L rest (seeing (pair_names L p) c) (judge_pairs L (known_pair L p ∷ []) c so_far)
  pairs_more (pair.Arrow key value) rest c so_far = refl
  pairs_more (pair.Label name span value) rest c so_far = refl

  pub pairs_step : (row : List (Pair Tree)) (i : ℕ) (p : Pair Tree) (c d : Context Ty) (a b x : record { keys : List Ty; values : List Ty; state : State Ty }) →
      i < length row → p ≡ get_or row i p → b ≡ judge_pairs L (known_pair L p ∷ []) c a → d ≡ seeing (pair_names L p) c →
      judge_pairs L (known_pairs L (drop i row)) c a ≡ x →
      judge_pairs L (known_pairs L (drop (i + 1) row)) d b ≡ x
  pairs_step row i p c d a b x within is h k e =
      (λ j. judge_pairs L (known_pairs L (drop (i + 1) row)) (k j) (h j))
      ∙ sym (pairs_more p (known_pairs L (drop (i + 1) row)) c a)
      ∙ sym (ap (λ r. judge_pairs L (known_pairs L r) c a) (drop_next row i p within is))
      ∙ e

  -- a hash by its keys and values
  pub hash_is : (row : List (Pair Tree)) (c : Context Ty) (s at : State Ty) (keys values : List Ty) (key value ty : Ty) →
      record { keys = keys; values = values; state = at } ≡ judge_pairs L (known_pairs L row) c (record { keys = []; values = []; state = s }) →
      key ≡ element_type L keys → value ≡ element_type L values → ty ≡ L.hash key value →
      judged ty at ≡ hash L (known_pairs L row) c s
  hash_is row c s at keys values key value ty h k v t =
      (λ i. judged ((t ∙ (λ j. L.hash (k j) (v j))) i) at) ∙ ap (λ pairs. hash_of L pairs) h
