-- How trees are judged goes by their nodes.
use Rattle.std.proofs.Common.{◌≡◌, refl, ap, ◌∙◌, sym}
use Rattle.srb_terms.specs.declared.span.Span.{Span}
use Rattle.rb_tree.specs.Trees.{span_at, span_of, span_of_node}
use Rattle.rb_tree.specs.declared.syntax.Tree.{Tree}
use Rattle.rb_tree.specs.declared.syntax.Node.{Node, out-Node}
use Rattle.rb_tree.specs.declared.syntax.Node.TheOpen.{Node-F}
use Rattle.srb_judgement.specs.Conditions.{test_at}
use Rattle.srb_judgement.specs.Environments.{is_live}
use Rattle.srb_judgement.specs.Expressions.{judge_at}
use Rattle.srb_judgement.specs.Judgements.{part_at}
use Rattle.srb_judgement.specs.Languages.{Language}
use Rattle.srb_judgement.specs.Parts.{Part}
use Rattle.srb_judgement.specs.Reaching.{closed, condition, excluding, judged_only, both_sides}
use Rattle.srb_judgement.specs.States.{Context, State, Run}
use Rattle.srb_judgement.specs.Unreached.{by_life, tested_by_life, not_reached, not_tested, reached_by_life, tested_by_its_life}
use Rattle.srb_walk.proofs.Known.{part_is}
use Rattle.srb_walk.specs.Known.{known_node, part_by_node}
use Rattle.srb_walk.specs.Judging.{is_expression, is_expression_at, judge_of, test_of, unplaced_at, unplaced_of, inside_at, inside_of, placed_or, judge_by_life, tested_at, tested_inside, body_or, test_by_life, TreesAreJudgedByLife}

module _ {T X : Type 0} (L : Language T X) where
  -- by a node
  judge-at : (n : Node-F Node Tree) (c : Context T) (s : State T) →
      judge_at L (known_node L n) c s
      ≡ placed_or L (is_expression_at n)
      (by_life L (is_live s.environment) (closed L (inside_at L (known_node L n) c s)) (not_reached L s.environment (span_at n) s))
      (unplaced_at L (known_node L n) c s)
  judge-at (Node-F.Body statements span) c s = refl
  judge-at (Node-F.Modified statement m cond span) c s = reached_by_life L s.environment span (inside_at L (known_node L (Node-F.Modified statement m cond span))) c s
  judge-at (Node-F.Jump word value span) c s = reached_by_life L s.environment span (inside_at L (known_node L (Node-F.Jump word value span))) c s
  judge-at (Node-F.Assign target value span) c s = reached_by_life L s.environment span (inside_at L (known_node L (Node-F.Assign target value span))) c s
  judge-at (Node-F.OperatorAssign target operator place value span) c s = reached_by_life L s.environment span (inside_at L (known_node L (Node-F.OperatorAssign target operator place value span))) c s
  judge-at (Node-F.Command callee row b span) c s = reached_by_life L s.environment span (inside_at L (known_node L (Node-F.Command callee row b span))) c s
  judge-at (Node-F.Conditional cond positive negative span) c s = reached_by_life L s.environment span (inside_at L (known_node L (Node-F.Conditional cond positive negative span))) c s
  judge-at (Node-F.Binary operator place left right span) c s = reached_by_life L s.environment span (inside_at L (known_node L (Node-F.Binary operator place left right span))) c s
  judge-at (Node-F.Unary operator operand span) c s = reached_by_life L s.environment span (inside_at L (known_node L (Node-F.Unary operator operand span))) c s
  judge-at (Node-F.Post receiver suffixes span) c s = reached_by_life L s.environment span (inside_at L (known_node L (Node-F.Post receiver suffixes span))) c s
  judge-at (Node-F.Whole sign words span) c s = reached_by_life L s.environment span (inside_at L (known_node L (Node-F.Whole sign words span))) c s
  judge-at (Node-F.Float sign words span) c s = reached_by_life L s.environment span (inside_at L (known_node L (Node-F.Float sign words span))) c s
  judge-at (Node-F.Text pieces span) c s = reached_by_life L s.environment span (inside_at L (known_node L (Node-F.Text pieces span))) c s
  judge-at (Node-F.Symbol words span) c s = reached_by_life L s.environment span (inside_at L (known_node L (Node-F.Symbol words span))) c s
  judge-at (Node-F.InstanceVariable name span) c s = reached_by_life L s.environment span (inside_at L (known_node L (Node-F.InstanceVariable name span))) c s
  judge-at (Node-F.Constant name span) c s = reached_by_life L s.environment span (inside_at L (known_node L (Node-F.Constant name span))) c s
  judge-at (Node-F.TopConstant name name_span span) c s = reached_by_life L s.environment span (inside_at L (known_node L (Node-F.TopConstant name name_span span))) c s
  judge-at (Node-F.SelfWord span) c s = reached_by_life L s.environment span (inside_at L (known_node L (Node-F.SelfWord span))) c s
  judge-at (Node-F.Nil span) c s = reached_by_life L s.environment span (inside_at L (known_node L (Node-F.Nil span))) c s
  judge-at (Node-F.True span) c s = reached_by_life L s.environment span (inside_at L (known_node L (Node-F.True span))) c s
  judge-at (Node-F.False span) c s = reached_by_life L s.environment span (inside_at L (known_node L (Node-F.False span))) c s
  judge-at (Node-F.Name name span) c s = reached_by_life L s.environment span (inside_at L (known_node L (Node-F.Name name span))) c s
  judge-at (Node-F.Call name place row b span) c s = reached_by_life L s.environment span (inside_at L (known_node L (Node-F.Call name place row b span))) c s
  judge-at (Node-F.Yield row span) c s = reached_by_life L s.environment span (inside_at L (known_node L (Node-F.Yield row span))) c s
  judge-at (Node-F.Super row span) c s = reached_by_life L s.environment span (inside_at L (known_node L (Node-F.Super row span))) c s
  judge-at (Node-F.Array elements span) c s = reached_by_life L s.environment span (inside_at L (known_node L (Node-F.Array elements span))) c s
  judge-at (Node-F.Hash pairs span) c s = reached_by_life L s.environment span (inside_at L (known_node L (Node-F.Hash pairs span))) c s
  judge-at (Node-F.Parens inner span) c s = reached_by_life L s.environment span (inside_at L (known_node L (Node-F.Parens inner span))) c s
  judge-at (Node-F.If which cond inner arms otherwise span) c s = reached_by_life L s.environment span (inside_at L (known_node L (Node-F.If which cond inner arms otherwise span))) c s
  judge-at (Node-F.While which cond inner span) c s = reached_by_life L s.environment span (inside_at L (known_node L (Node-F.While which cond inner span))) c s
  judge-at (Node-F.Case subject whens otherwise span) c s = reached_by_life L s.environment span (inside_at L (known_node L (Node-F.Case subject whens otherwise span))) c s
  judge-at (Node-F.Begin guarded span) c s = reached_by_life L s.environment span (inside_at L (known_node L (Node-F.Begin guarded span))) c s
  judge-at (Node-F.Class path superclass inner span) c s = refl
  judge-at (Node-F.Module path inner span) c s = refl
  judge-at (Node-F.Def visibility own name place parameters guarded span) c s = refl

  pub judge_is : (t : Tree) (c : Context T) (s : State T) → judge_of L t c s ≡ judge_by_life L t c s
  unfolding part_by_node part_at judge_by_life is_expression inside_of unplaced_of span_of span_of_node
  judge_is t c s = ap (λ (p : Part T X). p.it.judge c s) (part_is L t) ∙ judge-at (out-Node t.node) c s

  -- a kind that is tested as it is judged
  valued : (run : Run T) (n : Node-F Node Tree) (span : Span) → ((c : Context T) (s : State T) → judge_at L (known_node L n) c s ≡ run c s) → (c : Context T) (s : State T) →
      condition L span (judged_only (judge_at L (known_node L n))) c s
      ≡ tested_by_life L (is_live s.environment) (excluding L (judged_only run c s)) (not_tested L s.environment span s)
  valued run n span h c s =
      tested_by_its_life L s.environment span (judged_only (judge_at L (known_node L n))) c s
      ∙ ap (λ j. tested_by_life L (is_live s.environment) (excluding L (both_sides j)) (not_tested L s.environment span s)) (h c s)

  test-at : (run : Run T) (n : Node-F Node Tree) → ((c : Context T) (s : State T) → judge_at L (known_node L n) c s ≡ run c s) → (c : Context T) (s : State T) →
      test_at L (known_node L n) c s ≡ body_or L (tested_at L run (known_node L n)) (span_at n) (known_node L n) c s
  test-at run (Node-F.Body statements span) h c s = refl
  test-at run (Node-F.Modified statement m cond span) h c s = valued run (Node-F.Modified statement m cond span) span h c s
  test-at run (Node-F.Jump word value span) h c s = valued run (Node-F.Jump word value span) span h c s
  test-at run (Node-F.Assign target value span) h c s = tested_by_its_life L s.environment span (tested_at L run (known_node L (Node-F.Assign target value span))) c s
  test-at run (Node-F.OperatorAssign target operator place value span) h c s = tested_by_its_life L s.environment span (tested_at L run (known_node L (Node-F.OperatorAssign target operator place value span))) c s
  test-at run (Node-F.Command callee row b span) h c s = tested_by_its_life L s.environment span (tested_at L run (known_node L (Node-F.Command callee row b span))) c s
  test-at run (Node-F.Conditional cond positive negative span) h c s = valued run (Node-F.Conditional cond positive negative span) span h c s
  test-at run (Node-F.Binary operator place left right span) h c s = tested_by_its_life L s.environment span (tested_at L run (known_node L (Node-F.Binary operator place left right span))) c s
  test-at run (Node-F.Unary operator operand span) h c s = tested_by_its_life L s.environment span (tested_at L run (known_node L (Node-F.Unary operator operand span))) c s
  test-at run (Node-F.Post receiver suffixes span) h c s = tested_by_its_life L s.environment span (tested_at L run (known_node L (Node-F.Post receiver suffixes span))) c s
  test-at run (Node-F.Whole sign words span) h c s = valued run (Node-F.Whole sign words span) span h c s
  test-at run (Node-F.Float sign words span) h c s = valued run (Node-F.Float sign words span) span h c s
  test-at run (Node-F.Text pieces span) h c s = valued run (Node-F.Text pieces span) span h c s
  test-at run (Node-F.Symbol words span) h c s = valued run (Node-F.Symbol words span) span h c s
  test-at run (Node-F.InstanceVariable name span) h c s = valued run (Node-F.InstanceVariable name span) span h c s
  test-at run (Node-F.Constant name span) h c s = valued run (Node-F.Constant name span) span h c s
  test-at run (Node-F.TopConstant name name_span span) h c s = valued run (Node-F.TopConstant name name_span span) span h c s
  test-at run (Node-F.SelfWord span) h c s = valued run (Node-F.SelfWord span) span h c s
  test-at run (Node-F.Nil span) h c s = valued run (Node-F.Nil span) span h c s
  test-at run (Node-F.True span) h c s = valued run (Node-F.True span) span h c s
  test-at run (Node-F.False span) h c s = valued run (Node-F.False span) span h c s
  test-at run (Node-F.Name name span) h c s = tested_by_its_life L s.environment span (tested_at L run (known_node L (Node-F.Name name span))) c s
  test-at run (Node-F.Call name place row b span) h c s = valued run (Node-F.Call name place row b span) span h c s
  test-at run (Node-F.Yield row span) h c s = valued run (Node-F.Yield row span) span h c s
  test-at run (Node-F.Super row span) h c s = valued run (Node-F.Super row span) span h c s
  test-at run (Node-F.Array elements span) h c s = valued run (Node-F.Array elements span) span h c s
  test-at run (Node-F.Hash pairs span) h c s = valued run (Node-F.Hash pairs span) span h c s
  test-at run (Node-F.Parens inner span) h c s = tested_by_its_life L s.environment span (tested_at L run (known_node L (Node-F.Parens inner span))) c s
  test-at run (Node-F.If which cond inner arms otherwise span) h c s = valued run (Node-F.If which cond inner arms otherwise span) span h c s
  test-at run (Node-F.While which cond inner span) h c s = valued run (Node-F.While which cond inner span) span h c s
  test-at run (Node-F.Case subject whens otherwise span) h c s = valued run (Node-F.Case subject whens otherwise span) span h c s
  test-at run (Node-F.Begin guarded span) h c s = valued run (Node-F.Begin guarded span) span h c s
  test-at run (Node-F.Class path superclass inner span) h c s = valued run (Node-F.Class path superclass inner span) span h c s
  test-at run (Node-F.Module path inner span) h c s = valued run (Node-F.Module path inner span) span h c s
  test-at run (Node-F.Def visibility own name place parameters guarded span) h c s = valued run (Node-F.Def visibility own name place parameters guarded span) span h c s

  pub test_is : (t : Tree) (c : Context T) (s : State T) → test_of L t c s ≡ test_by_life L t c s
  unfolding part_by_node part_at test_by_life tested_inside span_of span_of_node
  test_is t c s =
      ap (λ (p : Part T X). p.test c s) (part_is L t)
      ∙ test-at (judge_of L t) (out-Node t.node) (λ d r. sym (ap (λ (p : Part T X). p.it.judge d r) (part_is L t))) c s

pub judged_by_life : {T X : Type 0} → TreesAreJudgedByLife T X
judged_by_life L t = record { value = judge_is L t; test = test_is L t }
