-- The ending of a tree is told by how it is written.
use Rattle.std.proofs.Common.{◌≡◌, ◌-◌, List, [], ◌∷◌, ◌++◌, length, take, slice_get, Some, None, refl, ap, ◌∙◌, sym, arith, length-append}
use Rattle.rb_tree.specs.declared.syntax.Suffix.{Suffix}
use Rattle.rb_tree.specs.declared.syntax.Suffix.TheVariants as suffix
use Rattle.rb_tree.specs.declared.syntax.Tree.{Tree}
use Rattle.rb_tree.specs.declared.syntax.Node.{Node, out-Node}
use Rattle.rb_tree.specs.declared.syntax.Node.TheOpen.{Node-F}
use Rattle.rb_views.specs.Prefixes.{last_suffix}
use Rattle.srb_judgement.specs.Chains.{Chain, with_suffix, with_suffixes, chain_start}
use Rattle.srb_judgement.specs.Judgements.{part_at, part_of}
use Rattle.srb_judgement.specs.Languages.{Language}
use Rattle.srb_judgement.specs.Parts.{Part}
use Rattle.srb_judgement.specs.Spellings.{ending_at}
use Rattle.srb_walk.proofs.Known.{part_is}
use Rattle.srb_walk.specs.Known.{known_suffix, known_suffixes, known_node, part_by_node}
use Rattle.srb_walk.specs.Endings.{End, end_by, end_last, end_at, end_of, known_end, EndsAsWritten}

-- ---- the last of a row

-- by whether a row is empty, or has a last suffix
pub by-last : (P : List (Suffix Tree) → Type 0) → P [] → ((front : List (Suffix Tree)) (s : Suffix Tree) → P (front ++ s ∷ [])) → (xs : List (Suffix Tree)) → P xs
by-last P none some [] = none
by-last P none some (x ∷ xs) = by-last (λ ys. P (x ∷ ys)) (some [] x) (λ front s. some (x ∷ front) s) xs

last-of-more : (ss : List (Suffix Tree)) (s : Suffix Tree) → slice_get (ss ++ s ∷ []) (length ss) ≡ Some s
last-of-more [] s = refl
last-of-more (x ∷ ss) s = last-of-more ss s

shorter : (ss : List (Suffix Tree)) (s : Suffix Tree) → length (ss ++ s ∷ []) - 1 ≡ length ss
shorter ss s = omega (arith, length-append ss (s ∷ []))

front-of-more : (ss : List (Suffix Tree)) (s : Suffix Tree) → take (length ss) (ss ++ s ∷ []) ≡ ss
front-of-more [] s = refl
front-of-more (x ∷ ss) s = ap (λ qs. x ∷ qs) (front-of-more ss s)

pub last-is : (ss : List (Suffix Tree)) (s : Suffix Tree) → last_suffix (ss ++ s ∷ []) ≡ Some s
last-is ss s = ap (λ n. slice_get (ss ++ s ∷ []) n) (shorter ss s) ∙ last-of-more ss s

pub front-is : (ss : List (Suffix Tree)) (s : Suffix Tree) → take (length (ss ++ s ∷ []) - 1) (ss ++ s ∷ []) ≡ ss
front-is ss s = ap (λ n. take n (ss ++ s ∷ [])) (shorter ss s) ∙ front-of-more ss s

end-of-more : (operand : Tree) (ss : List (Suffix Tree)) (s : Suffix Tree) →
    end_last (record { operand = operand; suffixes = ss ++ s ∷ [] }) ≡ end_by (record { operand = operand; suffixes = ss }) (Some s)
end-of-more operand ss s = λ i. end_by (record { operand = operand; suffixes = front-is ss s i }) (last-is ss s i)

module _ {T X : Type 0} (L : Language T X) where
  pub one-more : (ss : List (Suffix Tree)) (s : Suffix Tree) (row : Chain T X) →
      with_suffixes L row (known_suffixes L (ss ++ s ∷ [])) ≡ with_suffix L (with_suffixes L row (known_suffixes L ss)) (known_suffix L s)
  one-more [] s row = refl
  one-more (x ∷ ss) s row = one-more ss s (with_suffix L row (known_suffix L x))

  end-with : (operand : Tree) (ss : List (Suffix Tree)) (s : Suffix Tree) →
      (with_suffix L (with_suffixes L (chain_start L (part_of L operand).it) (known_suffixes L ss)) (known_suffix L s)).ending
      ≡ known_end L (end_by (record { operand = operand; suffixes = ss }) (Some s))
  end-with operand ss (suffix.Call how name name_span None None span) = refl
  end-with operand ss (suffix.Call how name name_span None (Some b) span) = refl
  end-with operand ss (suffix.Call how name name_span (Some args) None span) = refl
  end-with operand ss (suffix.Call how name name_span (Some args) (Some b) span) = refl
  end-with operand ss (suffix.Constant name name_span span) = refl
  end-with operand ss (suffix.Index args span) = refl

  row-end : (operand : Tree) (suffixes : List (Suffix Tree)) →
      (with_suffixes L (chain_start L (part_of L operand).it) (known_suffixes L suffixes)).ending
      ≡ known_end L (end_last (record { operand = operand; suffixes = suffixes }))
  row-end operand = by-last
      (λ xs. (with_suffixes L (chain_start L (part_of L operand).it) (known_suffixes L xs)).ending ≡ known_end L (end_last (record { operand = operand; suffixes = xs })))
      refl
      (λ front s.
      ap (λ (row : Chain T X). row.ending) (one-more front s (chain_start L (part_of L operand).it))
      ∙ end-with operand front s
      ∙ ap (known_end L) (sym (end-of-more operand front s)))

  end-at : (n : Node-F Node Tree) → ending_at L (known_node L n) ≡ known_end L (end_at n)
  end-at (Node-F.Post receiver suffixes span) = row-end receiver suffixes
  end-at (Node-F.Yield None span) = refl
  end-at (Node-F.Yield (Some row) span) = refl
  end-at (Node-F.Super None span) = refl
  end-at (Node-F.Super (Some row) span) = refl
  end-at (Node-F.Body statements span) = refl
  end-at (Node-F.Modified statement m cond span) = refl
  end-at (Node-F.Jump word value span) = refl
  end-at (Node-F.Assign target value span) = refl
  end-at (Node-F.OperatorAssign target operator place value span) = refl
  end-at (Node-F.Command callee row b span) = refl
  end-at (Node-F.Conditional cond positive negative span) = refl
  end-at (Node-F.Binary operator place left right span) = refl
  end-at (Node-F.Unary operator operand span) = refl
  end-at (Node-F.Whole sign words span) = refl
  end-at (Node-F.Float sign words span) = refl
  end-at (Node-F.Text pieces span) = refl
  end-at (Node-F.Symbol words span) = refl
  end-at (Node-F.InstanceVariable name span) = refl
  end-at (Node-F.Constant name span) = refl
  end-at (Node-F.TopConstant name name_span span) = refl
  end-at (Node-F.SelfWord span) = refl
  end-at (Node-F.Nil span) = refl
  end-at (Node-F.True span) = refl
  end-at (Node-F.False span) = refl
  end-at (Node-F.Name name span) = refl
  end-at (Node-F.Call name place row b span) = refl
  end-at (Node-F.Array elements span) = refl
  end-at (Node-F.Hash pairs span) = refl
  end-at (Node-F.Parens inner span) = refl
  end-at (Node-F.If which cond inner arms otherwise span) = refl
  end-at (Node-F.While which cond inner span) = refl
  end-at (Node-F.Case subject whens otherwise span) = refl
  end-at (Node-F.Begin guarded span) = refl
  end-at (Node-F.Class path superclass inner span) = refl
  end-at (Node-F.Module path inner span) = refl
  end-at (Node-F.Def visibility own name place parameters guarded span) = refl

pub ends_as_written : {T X : Type 0} → EndsAsWritten T X
unfolding part_by_node part_at end_of
ends_as_written {T} {X} L t = ap (λ (p : Part T X). p.ending) (part_is L t) ∙ end-at L (out-Node t.node)

-- what the judgement knows of an end that was told
pub ending_told : {T X : Type 0} (L : Language T X) (t : Tree) (e : End) → e ≡ end_of t → known_end L e ≡ (part_of L t).ending
ending_told L t e h = ap (known_end L) h ∙ sym (ends_as_written L t)
