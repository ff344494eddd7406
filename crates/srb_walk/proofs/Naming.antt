-- The variables that a tree assigns go by its node.
use Rattle.std.proofs.Common.{◌≡◌, ℕ, Bool, true, false, not, List, [], ◌∷◌, ◌++◌, bytes_eq, if◌then◌else◌, map, Some, None, refl, ap, ◌∙◌, sym}
use Rattle.std.specs.List.{filter, flat_map}
use Rattle.srb_terms.specs.NameSets.{has_name}
use Rattle.rb_tree.specs.declared.syntax.Block.{Block}
use Rattle.rb_tree.specs.declared.syntax.PlacedName.{PlacedName}
use Rattle.rb_tree.specs.declared.syntax.Suffix.{Suffix}
use Rattle.rb_tree.specs.declared.syntax.Suffix.TheVariants as suffix
use Rattle.rb_tree.specs.declared.syntax.Tree.{Tree}
use Rattle.rb_tree.specs.declared.syntax.Node.{Node, out-Node}
use Rattle.rb_tree.specs.declared.syntax.Node.TheOpen.{Node-F}
use Rattle.srb_judgement.specs.Chains.{Chain, with_suffixes, chain_start}
use Rattle.srb_judgement.specs.Judgements.{part_at, part_of}
use Rattle.srb_judgement.specs.Languages.{Language}
use Rattle.srb_judgement.specs.Parts.{Part}
use Rattle.srb_judgement.specs.Variables.{target_names}
use Rattle.srb_judgement.specs.Spellings.{ending_at}
use Rattle.srb_walk.proofs.Known.{part_is}
use Rattle.srb_walk.specs.Known.{known_suffixes, known_node, part_by_node}
use Rattle.srb_walk.specs.Assigned.{in_block, names_of, names_by_node, is_parameter, unless_parameter, target_in, target_of, target_by_node}

module _ {T X : Type 0} (L : Language T X) where
  pub names_are : (blocks : Bool) (t : Tree) → names_of L blocks t ≡ names_by_node L blocks t
  unfolding names_by_node part_by_node part_at
  names_are true t = ap (λ (p : Part T X). p.it.assigns) (part_is L t)
  names_are false t = ap (λ (p : Part T X). p.it.declares) (part_is L t)

  -- ---- blocks

  parameters-are : (ps : List PlacedName) (name : List ℕ) → is_parameter ps name ≡ has_name name (map (λ (p : PlacedName). p.name) ps)
  parameters-are [] name = refl
  parameters-are (p ∷ ps) name = ap (λ b. if bytes_eq p.name name then true else b) (parameters-are ps name)

  kept : (b : Bool) (name : List ℕ) (names : List (List ℕ)) → (if b then [] else name ∷ []) ++ names ≡ (if not b then name ∷ names else names)
  kept true name names = refl
  kept false name names = refl

  outer-are : (ps : List PlacedName) (names : List (List ℕ)) →
      flat_map (unless_parameter ps) names ≡ filter (λ name. not (has_name name (map (λ (p : PlacedName). p.name) ps))) names
  outer-are ps [] = refl
  outer-are ps (name ∷ names) =
      (λ i. (if parameters-are ps name i then [] else name ∷ []) ++ outer-are ps names i)
      ∙ kept (has_name name (map (λ (p : PlacedName). p.name) ps)) name (filter (λ n. not (has_name n (map (λ (p : PlacedName). p.name) ps))) names)

  pub outer_are : (b : Block Tree) → in_block L b ≡ flat_map (unless_parameter b.parameters) (names_of L true b.body)
  outer_are b = sym (outer-are b.parameters (names_of L true b.body))

  -- ---- targets

  chain-target : (xs : List (Suffix Tree)) (row : Chain T X) → target_names row.ending ≡ [] → target_names (with_suffixes L row (known_suffixes L xs)).ending ≡ []
  chain-target [] row h = h
  chain-target (suffix.Call how name name_span None None span ∷ xs) row h = chain-target xs _ refl
  chain-target (suffix.Call how name name_span None (Some b) span ∷ xs) row h = chain-target xs _ refl
  chain-target (suffix.Call how name name_span (Some row') b span ∷ xs) row h = chain-target xs _ refl
  chain-target (suffix.Constant name name_span span ∷ xs) row h = chain-target xs _ refl
  chain-target (suffix.Index row' span ∷ xs) row h = chain-target xs _ refl

  target-in : (n : Node-F Node Tree) → target_names (ending_at L (known_node L n)) ≡ target_in n
  target-in (Node-F.Post receiver suffixes span) = chain-target suffixes (chain_start L (part_of L receiver).it) refl
  target-in (Node-F.Yield None span) = refl
  target-in (Node-F.Yield (Some row) span) = refl
  target-in (Node-F.Super None span) = refl
  target-in (Node-F.Super (Some row) span) = refl
  target-in n = refl

  pub target_is : (t : Tree) → target_of L t ≡ target_by_node t
  unfolding part_by_node part_at target_by_node
  target_is t = ap (λ (p : Part T X). target_names p.ending) (part_is L t) ∙ target-in (out-Node t.node)
