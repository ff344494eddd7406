use Rattle.std.proofs.lemmas.List.{take_rest}
use Rattle.srb_text.specs.Lines.{begins_with_line_feed}
use Rattle.std.proofs.Common.{ℕ, ◌≡◌, ◌+◌, ◌-◌, ◌≤◌, nat_le, List, ◌++◌, map, length, take, drop, sym, ap, subst, ◌∙◌, arith}
use Rattle.std.specs.List.{All, prefix_len}
use Rattle.std.specs.List.Sorted.{IsStrictlyIncreasing}
use Rattle.srb_text.specs.LineStarts.{starts_after, line_starts}
use Rattle.srb_text.proofs.TableLemmas.{line_starts-increasing, passed_within, passed_part, kept_part, renewed_at, four_parts}
use Rattle.srb_text.proofs.table.renewed.Goals as goal

pub starts_up_to-kept-requires : goal.starts_up_to-kept-requires
starts_up_to-kept-requires c = subst IsStrictlyIncreasing (sym c.requires.table) (line_starts-increasing c.args.text.now)

pub starts_up_to-passed-requires : goal.starts_up_to-passed-requires
starts_up_to-passed-requires c = subst IsStrictlyIncreasing (sym c.requires.table) (line_starts-increasing c.args.text.now)

pub push_moved-requires-clause-after : goal.push_moved-requires-clause-after
push_moved-requires-clause-after c =
    let same = passed_part c.args.text.now c.args.starts.now c.args.end c.starts_up_to-passed.result c.requires.table c.starts_up_to-passed.ensures.count in
    let each = subst (All (λ s. (c.args.end ≤ s) × (s ≤ length c.args.text.now))) (sym same) (passed_within c.args.text.now c.args.end c.requires.within) in
    λ k d l. (each k d l).0

pub push_moved-requires-clause-fits : goal.push_moved-requires-clause-fits
push_moved-requires-clause-fits c =
    let same = passed_part c.args.text.now c.args.starts.now c.args.end c.starts_up_to-passed.result c.requires.table c.starts_up_to-passed.ensures.count in
    let each = subst (All (λ s. (c.args.end ≤ s) × (s ≤ length c.args.text.now))) (sym same) (passed_within c.args.text.now c.args.end c.requires.within) in
    λ k d l. omega (arith, (each k d l).0, (each k d l).1)

pub returns : goal.returns
returns c =
    let text = c.args.text.now in
    let starts = c.args.starts.now in
    let new = c.args.new.now in
    let first : c.saturating_sub-first.result ≡ c.args.start - 1 = c.saturating_sub-first.ensures in
    let tail : take (length text - c.args.end) (drop c.args.end text) ≡ drop c.args.end text = take_rest text c.args.end in
    let kept : take c.starts_up_to-kept.result starts ≡ take (prefix_len (λ s. nat_le s c.saturating_sub-first.result) (line_starts text)) (line_starts text) = kept_part text starts c.saturating_sub-first.result c.starts_up_to-kept.result c.requires.table c.starts_up_to-kept.ensures.count in
    let moved = passed_part text starts c.args.end c.starts_up_to-passed.result c.requires.table c.starts_up_to-passed.ensures.count in
    let follows : begins_with_line_feed c.first_of.result.now ≡ begins_with_line_feed (new ++ drop c.args.end text) = rw tail at c.first_of.ensures in
    let e1 : c.extend_from_slice.new.self.items ≡ c.in_ok-renewed.renewed.items ++ take c.starts_up_to-kept.result starts = c.in_ok-extend_from_slice.ensures.items in
    let e2 : c.push_starts.new.starts.items ≡ c.extend_from_slice.new.self.items ++ starts_after c.saturating_sub-first.result (take (c.args.start - c.saturating_sub-first.result) (drop c.saturating_sub-first.result text)) c.first_of.result.now = c.in_ok-push_starts.ensures in
    let e3 : c.push_starts-2.new.starts.items ≡ c.push_starts.new.starts.items ++ starts_after c.args.start new (take (length text - c.args.end) (drop c.args.end text)) = c.in_ok-push_starts-2.ensures in
    let e4 : c.push_moved.new.starts.items ≡ c.push_starts-2.new.starts.items ++ map (λ s. (s - c.args.end) + (c.args.start + length new)) (take (length starts - c.starts_up_to-passed.result) (drop c.starts_up_to-passed.result starts)) = c.in_ok-push_moved.ensures in
    four_parts _ _ _ _ _ _ _ _ _ c.in_ok-renewed.ensures.items (e1 ∙ ap (λ (v : List ℕ). c.in_ok-renewed.renewed.items ++ v) kept) e2 (rw tail at e3) (rw moved at e4)
    ∙ renewed_at text new c.first_of.result.now c.saturating_sub-first.result c.args.start c.args.end first c.requires.ordered c.requires.within follows
