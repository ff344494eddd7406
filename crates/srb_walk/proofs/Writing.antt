-- How trees are written goes by their nodes.
use Rattle.std.proofs.Common.{◌≡◌, ℕ, Bool, true, false, List, [], ◌∷◌, Some, None, refl, ap, ◌∙◌}
use Rattle.srb_terms.specs.declared.span.Span.{Span}
use Rattle.rb_tree.specs.Trees.{span_at, span_of, span_of_node}
use Rattle.rb_tree.specs.declared.syntax.Suffix.{Suffix}
use Rattle.rb_tree.specs.declared.syntax.Suffix.TheVariants as suffix
use Rattle.rb_tree.specs.declared.syntax.Tree.{Tree}
use Rattle.rb_tree.specs.declared.syntax.Node.{Node, out-Node}
use Rattle.rb_tree.specs.declared.syntax.Node.TheOpen.{Node-F}
use Rattle.srb_judgement.specs.Chains.{Chain, longer, with_suffix, with_suffixes, chain_start}
use Rattle.srb_judgement.specs.Judgements.{part_at, part_of}
use Rattle.srb_judgement.specs.Languages.{Language}
use Rattle.srb_judgement.specs.Parts.{Part, Spelling, NameAlone, NilWord, ConstantPath, Other, PlainStatement}
use Rattle.srb_judgement.specs.Spellings.{spelling_at, ending_at, standing_by, standing_at, empty_at, last_at, last_place}
use Rattle.srb_walk.proofs.Known.{part_is}
use Rattle.srb_walk.specs.Known.{known_trees, known_suffix, known_suffixes, known_node, part_by_node}
use Rattle.srb_walk.specs.Written.{with_constant, row_spelling, spelling_of, spelling_in, spelling_by_node, is_empty_in, is_empty, last_span, last_in, last_of, standing_name, standing_called, standing_in, standing_of, ToldByTheirWriting}

-- one suffix after the other
pub row_spelling_step : {P : Type 0} (so_far : Spelling) (s : Suffix P) (rest : List (Suffix P)) →
    row_spelling (row_spelling so_far (s ∷ [])) rest ≡ row_spelling so_far (s ∷ rest)
row_spelling_step so_far (suffix.Call dot name name_span arguments block span) rest = refl
row_spelling_step so_far (suffix.Constant name name_span span) rest = refl
row_spelling_step so_far (suffix.Index arguments span) rest = refl

module _ {T X : Type 0} (L : Language T X) where
  constant-longer : (sp : Spelling) (name : List ℕ) → longer L sp name ≡ with_constant sp name
  constant-longer (ConstantPath path) name = refl
  constant-longer (NameAlone other) name = refl
  constant-longer NilWord name = refl
  constant-longer Other name = refl

  pub spelled : (xs : List (Suffix Tree)) (row : Chain T X) → (with_suffixes L row (known_suffixes L xs)).it.spelling ≡ row_spelling row.it.spelling xs
  spelled [] row = refl
  spelled (suffix.Call how name name_span arguments b span ∷ xs) row = spelled xs (with_suffix L row (known_suffix L (suffix.Call how name name_span arguments b span)))
  spelled (suffix.Constant name name_span span ∷ xs) row =
      spelled xs (with_suffix L row (suffix.Constant name name_span span))
      ∙ ap (λ sp. row_spelling sp xs) (constant-longer row.it.spelling name)
  spelled (suffix.Index arguments span ∷ xs) row = spelled xs (with_suffix L row (known_suffix L (suffix.Index arguments span)))

  spelling-in : (n : Node-F Node Tree) → spelling_at L (known_node L n) ≡ spelling_in L n
  spelling-in (Node-F.Post receiver suffixes span) = spelled suffixes (chain_start L (part_of L receiver).it)
  spelling-in n = refl

  pub spelling_is : (t : Tree) → spelling_of L t ≡ spelling_by_node L t
  unfolding part_by_node part_at spelling_by_node
  spelling_is t = ap (λ (p : Part T X). p.it.spelling) (part_is L t) ∙ spelling-in (out-Node t.node)

  -- ---- statements

  span-at : (n : Node-F Node Tree) → span_at (known_node L n) ≡ span_at n
  span-at (Node-F.Body statements span) = refl
  span-at (Node-F.Modified statement m cond span) = refl
  span-at (Node-F.Jump word value span) = refl
  span-at (Node-F.Assign target value span) = refl
  span-at (Node-F.OperatorAssign target operator place value span) = refl
  span-at (Node-F.Command callee row b span) = refl
  span-at (Node-F.Conditional cond positive negative span) = refl
  span-at (Node-F.Binary operator place left right span) = refl
  span-at (Node-F.Unary operator operand span) = refl
  span-at (Node-F.Post receiver suffixes span) = refl
  span-at (Node-F.Whole sign words span) = refl
  span-at (Node-F.Float sign words span) = refl
  span-at (Node-F.Text pieces span) = refl
  span-at (Node-F.Symbol words span) = refl
  span-at (Node-F.InstanceVariable name span) = refl
  span-at (Node-F.Constant name span) = refl
  span-at (Node-F.TopConstant name name_span span) = refl
  span-at (Node-F.SelfWord span) = refl
  span-at (Node-F.Nil span) = refl
  span-at (Node-F.True span) = refl
  span-at (Node-F.False span) = refl
  span-at (Node-F.Name name span) = refl
  span-at (Node-F.Call name place row b span) = refl
  span-at (Node-F.Yield row span) = refl
  span-at (Node-F.Super row span) = refl
  span-at (Node-F.Array elements span) = refl
  span-at (Node-F.Hash pairs span) = refl
  span-at (Node-F.Parens inner span) = refl
  span-at (Node-F.If which cond inner arms otherwise span) = refl
  span-at (Node-F.While which cond inner span) = refl
  span-at (Node-F.Case subject whens otherwise span) = refl
  span-at (Node-F.Begin guarded span) = refl
  span-at (Node-F.Class path superclass inner span) = refl
  span-at (Node-F.Module path inner span) = refl
  span-at (Node-F.Def visibility own name place parameters guarded span) = refl

  span-is : (t : Tree) → (part_of L t).it.span ≡ span_of t
  unfolding part_by_node part_at span_of span_of_node
  span-is t = ap (λ (p : Part T X). p.it.span) (part_is L t) ∙ span-at (out-Node t.node)

  empty-at : (n : Node-F Node Tree) → empty_at (known_node L n) ≡ is_empty_in n
  empty-at (Node-F.Body [] span) = refl
  empty-at (Node-F.Body (t ∷ statements) span) = refl
  empty-at (Node-F.Modified statement m cond span) = refl
  empty-at (Node-F.Jump word value span) = refl
  empty-at (Node-F.Assign target value span) = refl
  empty-at (Node-F.OperatorAssign target operator place value span) = refl
  empty-at (Node-F.Command callee row b span) = refl
  empty-at (Node-F.Conditional cond positive negative span) = refl
  empty-at (Node-F.Binary operator place left right span) = refl
  empty-at (Node-F.Unary operator operand span) = refl
  empty-at (Node-F.Post receiver suffixes span) = refl
  empty-at (Node-F.Whole sign words span) = refl
  empty-at (Node-F.Float sign words span) = refl
  empty-at (Node-F.Text pieces span) = refl
  empty-at (Node-F.Symbol words span) = refl
  empty-at (Node-F.InstanceVariable name span) = refl
  empty-at (Node-F.Constant name span) = refl
  empty-at (Node-F.TopConstant name name_span span) = refl
  empty-at (Node-F.SelfWord span) = refl
  empty-at (Node-F.Nil span) = refl
  empty-at (Node-F.True span) = refl
  empty-at (Node-F.False span) = refl
  empty-at (Node-F.Name name span) = refl
  empty-at (Node-F.Call name place row b span) = refl
  empty-at (Node-F.Yield row span) = refl
  empty-at (Node-F.Super row span) = refl
  empty-at (Node-F.Array elements span) = refl
  empty-at (Node-F.Hash pairs span) = refl
  empty-at (Node-F.Parens inner span) = refl
  empty-at (Node-F.If which cond inner arms otherwise span) = refl
  empty-at (Node-F.While which cond inner span) = refl
  empty-at (Node-F.Case subject whens otherwise span) = refl
  empty-at (Node-F.Begin guarded span) = refl
  empty-at (Node-F.Class path superclass inner span) = refl
  empty-at (Node-F.Module path inner span) = refl
  empty-at (Node-F.Def visibility own name place parameters guarded span) = refl

  empty-is : (t : Tree) → (part_of L t).is_empty ≡ is_empty t
  unfolding part_by_node part_at is_empty
  empty-is t = ap (λ (p : Part T X). p.is_empty) (part_is L t) ∙ empty-at (out-Node t.node)

  last-place : (statements : List Tree) (span : Span) → last_place span (known_trees L statements) ≡ last_span span statements
  last-place [] span = refl
  last-place (t ∷ statements) span = last-place statements (part_of L t).it.span ∙ ap (λ place. last_span place statements) (span-is t)

  last-at : (n : Node-F Node Tree) → last_at (known_node L n) ≡ last_in n
  last-at (Node-F.Body statements span) = last-place statements span
  last-at (Node-F.Modified statement m cond span) = refl
  last-at (Node-F.Jump word value span) = refl
  last-at (Node-F.Assign target value span) = refl
  last-at (Node-F.OperatorAssign target operator place value span) = refl
  last-at (Node-F.Command callee row b span) = refl
  last-at (Node-F.Conditional cond positive negative span) = refl
  last-at (Node-F.Binary operator place left right span) = refl
  last-at (Node-F.Unary operator operand span) = refl
  last-at (Node-F.Post receiver suffixes span) = refl
  last-at (Node-F.Whole sign words span) = refl
  last-at (Node-F.Float sign words span) = refl
  last-at (Node-F.Text pieces span) = refl
  last-at (Node-F.Symbol words span) = refl
  last-at (Node-F.InstanceVariable name span) = refl
  last-at (Node-F.Constant name span) = refl
  last-at (Node-F.TopConstant name name_span span) = refl
  last-at (Node-F.SelfWord span) = refl
  last-at (Node-F.Nil span) = refl
  last-at (Node-F.True span) = refl
  last-at (Node-F.False span) = refl
  last-at (Node-F.Name name span) = refl
  last-at (Node-F.Call name place row b span) = refl
  last-at (Node-F.Yield row span) = refl
  last-at (Node-F.Super row span) = refl
  last-at (Node-F.Array elements span) = refl
  last-at (Node-F.Hash pairs span) = refl
  last-at (Node-F.Parens inner span) = refl
  last-at (Node-F.If which cond inner arms otherwise span) = refl
  last-at (Node-F.While which cond inner span) = refl
  last-at (Node-F.Case subject whens otherwise span) = refl
  last-at (Node-F.Begin guarded span) = refl
  last-at (Node-F.Class path superclass inner span) = refl
  last-at (Node-F.Module path inner span) = refl
  last-at (Node-F.Def visibility own name place parameters guarded span) = refl

  last-is : (t : Tree) → (part_of L t).last ≡ last_of t
  unfolding part_by_node part_at last_of
  last-is t = ap (λ (p : Part T X). p.last) (part_is L t) ∙ last-at (out-Node t.node)

  -- no row of suffixes stands for a name
  chain-standing : (xs : List (Suffix Tree)) (row : Chain T X) (b : Bool) → standing_by row.ending b ≡ PlainStatement →
      standing_by (with_suffixes L row (known_suffixes L xs)).ending b ≡ PlainStatement
  chain-standing [] row b h = h
  chain-standing (suffix.Call how name name_span None None span ∷ xs) row b h = chain-standing xs (with_suffix L row (suffix.Call how name name_span None None span)) b refl
  chain-standing (suffix.Call how name name_span None (Some k) span ∷ xs) row b h = chain-standing xs (with_suffix L row (known_suffix L (suffix.Call how name name_span None (Some k) span))) b refl
  chain-standing (suffix.Call how name name_span (Some args) k span ∷ xs) row b h = chain-standing xs (with_suffix L row (known_suffix L (suffix.Call how name name_span (Some args) k span))) b refl
  chain-standing (suffix.Constant name name_span span ∷ xs) row b h = chain-standing xs (with_suffix L row (suffix.Constant name name_span span)) b refl
  chain-standing (suffix.Index args span ∷ xs) row b h = chain-standing xs (with_suffix L row (known_suffix L (suffix.Index args span))) b refl

  called-at : (n : Node-F Node Tree) (b : Bool) → standing_by (ending_at L (known_node L n)) b ≡ standing_name b n
  called-at (Node-F.Post receiver suffixes span) b = chain-standing suffixes (chain_start L (part_of L receiver).it) b refl
  called-at (Node-F.Yield None span) b = refl
  called-at (Node-F.Yield (Some row) span) b = refl
  called-at (Node-F.Super None span) b = refl
  called-at (Node-F.Super (Some row) span) b = refl
  called-at (Node-F.Body statements span) b = refl
  called-at (Node-F.Modified statement m cond span) b = refl
  called-at (Node-F.Jump word value span) b = refl
  called-at (Node-F.Assign target value span) b = refl
  called-at (Node-F.OperatorAssign target operator place value span) b = refl
  called-at (Node-F.Command callee row own span) b = refl
  called-at (Node-F.Conditional cond positive negative span) b = refl
  called-at (Node-F.Binary operator place left right span) b = refl
  called-at (Node-F.Unary operator operand span) b = refl
  called-at (Node-F.Whole sign words span) b = refl
  called-at (Node-F.Float sign words span) b = refl
  called-at (Node-F.Text pieces span) b = refl
  called-at (Node-F.Symbol words span) b = refl
  called-at (Node-F.InstanceVariable name span) b = refl
  called-at (Node-F.Constant name span) b = refl
  called-at (Node-F.TopConstant name name_span span) b = refl
  called-at (Node-F.SelfWord span) b = refl
  called-at (Node-F.Nil span) b = refl
  called-at (Node-F.True span) b = refl
  called-at (Node-F.False span) b = refl
  called-at (Node-F.Name name span) b = refl
  called-at (Node-F.Call name place row own span) b = refl
  called-at (Node-F.Array elements span) b = refl
  called-at (Node-F.Hash pairs span) b = refl
  called-at (Node-F.Parens inner span) b = refl
  called-at (Node-F.If which cond inner arms otherwise span) b = refl
  called-at (Node-F.While which cond inner span) b = refl
  called-at (Node-F.Case subject whens otherwise span) b = refl
  called-at (Node-F.Begin guarded span) b = refl
  called-at (Node-F.Class path superclass inner span) b = refl
  called-at (Node-F.Module path inner span) b = refl
  called-at (Node-F.Def visibility own name place parameters guarded span) b = refl

  called-is : (t : Tree) (b : Bool) → standing_by (part_of L t).ending b ≡ standing_called t b
  unfolding part_by_node part_at standing_called
  called-is t b = ap (λ (p : Part T X). standing_by p.ending b) (part_is L t) ∙ called-at (out-Node t.node) b

  standing-at : (n : Node-F Node Tree) → standing_at (known_node L n) ≡ standing_in n
  standing-at (Node-F.Call name place row None span) = refl
  standing-at (Node-F.Call name place row (Some b) span) = refl
  standing-at (Node-F.Command callee row None span) = called-is callee false
  standing-at (Node-F.Command callee row (Some b) span) = called-is callee true
  standing-at (Node-F.Body statements span) = refl
  standing-at (Node-F.Modified statement m cond span) = refl
  standing-at (Node-F.Jump word value span) = refl
  standing-at (Node-F.Assign target value span) = refl
  standing-at (Node-F.OperatorAssign target operator place value span) = refl
  standing-at (Node-F.Conditional cond positive negative span) = refl
  standing-at (Node-F.Binary operator place left right span) = refl
  standing-at (Node-F.Unary operator operand span) = refl
  standing-at (Node-F.Post receiver suffixes span) = refl
  standing-at (Node-F.Whole sign words span) = refl
  standing-at (Node-F.Float sign words span) = refl
  standing-at (Node-F.Text pieces span) = refl
  standing-at (Node-F.Symbol words span) = refl
  standing-at (Node-F.InstanceVariable name span) = refl
  standing-at (Node-F.Constant name span) = refl
  standing-at (Node-F.TopConstant name name_span span) = refl
  standing-at (Node-F.SelfWord span) = refl
  standing-at (Node-F.Nil span) = refl
  standing-at (Node-F.True span) = refl
  standing-at (Node-F.False span) = refl
  standing-at (Node-F.Name name span) = refl
  standing-at (Node-F.Yield row span) = refl
  standing-at (Node-F.Super row span) = refl
  standing-at (Node-F.Array elements span) = refl
  standing-at (Node-F.Hash pairs span) = refl
  standing-at (Node-F.Parens inner span) = refl
  standing-at (Node-F.If which cond inner arms otherwise span) = refl
  standing-at (Node-F.While which cond inner span) = refl
  standing-at (Node-F.Case subject whens otherwise span) = refl
  standing-at (Node-F.Begin guarded span) = refl
  standing-at (Node-F.Class path superclass inner span) = refl
  standing-at (Node-F.Module path inner span) = refl
  standing-at (Node-F.Def visibility own name place parameters guarded span) = refl

  standing-is : (t : Tree) → (part_of L t).standing ≡ standing_of t
  unfolding part_by_node part_at standing_of
  standing-is t = ap (λ (p : Part T X). p.standing) (part_is L t) ∙ standing-at (out-Node t.node)

pub told_by_writing : {T X : Type 0} → ToldByTheirWriting T X
told_by_writing L t = record { span = span-is L t; is_empty = empty-is L t; last = last-is L t; standing = standing-is L t }

-- the place of a tree, by how it is written
pub span_told : {T X : Type 0} (L : Language T X) (t : Tree) → (part_of L t).it.span ≡ span_of t
span_told L t = (told_by_writing L t).span
