-- Operators, jumps and rows: what a step gives is what the definitions say.
use Rattle.std.proofs.Common.{◌≡◌, ℕ, false, List, [], ◌∷◌, ◌++◌, map, Option, Some, None, refl, sym, ap, ◌∙◌, append-nil, append_assoc}
use Rattle.std.specs.List.{flat_map}
use Rattle.srb_terms.specs.declared.span.Span.{Span}
use Rattle.srb_terms.specs.declared.ty.Ty.{Ty}
use Rattle.rb_tree.specs.Trees.{span_of}
use Rattle.rb_tree.specs.declared.syntax.Argument.TheVariants as argument
use Rattle.rb_tree.specs.declared.syntax.Jump.{Jump}
use Rattle.rb_tree.specs.declared.syntax.Suffix.{Suffix}
use Rattle.rb_tree.specs.declared.syntax.Suffix.TheVariants as suffix
use Rattle.rb_tree.specs.declared.syntax.Tree.{Tree}
use Rattle.rb_views.specs.Calls.{arguments_of}
use Rattle.srb_judgement.specs.declared.sent.Arguments as arguments
use Rattle.srb_judgement.specs.declared.sent.Given as given
use Rattle.srb_judgement.specs.Calls.{call_with, declared_by}
use Rattle.srb_judgement.specs.Chains.{Chain, operands_of, with_suffix, with_suffixes}
use Rattle.srb_judgement.specs.Jumps.{jumped, jump_judged}
use Rattle.srb_judgement.specs.Judgements.{part_of}
use Rattle.srb_judgement.specs.Languages.{Language}
use Rattle.srb_judgement.specs.Operators.{after_left, on_operand, operator_judged, and_after, or_after, and_judged, or_judged}
use Rattle.srb_judgement.specs.States.{Context, State, Judged, Tested, judged, seeing}
use Rattle.srb_judgement.specs.Views.{seen_arguments, seen_given, seen_named, settled}
use Rattle.srb_walk.proofs.Writing.{span_told}
use Rattle.srb_walk.specs.Assigned.{names_of}
use Rattle.srb_walk.specs.Judging.{judge_of, test_of}
use Rattle.srb_walk.specs.Known.{known_brackets, known_arguments, known_option, known_suffix, known_suffixes}
use Rattle.srb_walk.specs.Walking.{suffix_names}

pub map_push : {A B : Type 0} (f : A → B) (xs : List A) (x : A) → map f (xs ++ x ∷ []) ≡ map f xs ++ f x ∷ []
map_push f [] x = refl
map_push f (y ∷ xs) x = ap (λ ys. f y ∷ ys) (map_push f xs x)

-- ---- what a row assigns

module _ {T X : Type 0} (L : Language T X) where
  pub declares_suffixed : (xs : List (Suffix Tree)) (row : Chain T X) →
      (with_suffixes L row (known_suffixes L xs)).it.declares ≡ row.it.declares ++ flat_map (suffix_names L) xs
  declares_suffixed [] row = sym (append-nil row.it.declares)
  declares_suffixed (suffix.Call how name name_span row' b span ∷ xs) row =
      declares_suffixed xs (with_suffix L row (known_suffix L (suffix.Call how name name_span row' b span)))
      ∙ append_assoc row.it.declares (declared_by (operands_of (arguments_of (known_brackets L row')))) (flat_map (suffix_names L) xs)
  declares_suffixed (suffix.Constant name name_span span ∷ xs) row = declares_suffixed xs (with_suffix L row (suffix.Constant name name_span span))
  declares_suffixed (suffix.Index row' span ∷ xs) row =
      declares_suffixed xs (with_suffix L row (known_suffix L (suffix.Index row' span)))
      ∙ append_assoc row.it.declares (declared_by (operands_of (known_arguments L row'))) (flat_map (suffix_names L) xs)

module _ {X : Type 0} (L : Language Ty X) where
  -- ---- jumps

  pub jumped_with : (word : Jump) (value : Option Tree) (e : Tree) (place span : Span) (c : Context Ty) (s : State Ty) (j r : Judged Ty) →
      value ≡ Some e → place ≡ span_of e → j ≡ judge_of L e c s → r ≡ jumped L word place c j →
      r ≡ jump_judged L word (known_option L value) span c s
  jumped_with word value e place span c s j r is at by h =
      h ∙ (λ i. jumped L word ((at ∙ sym (span_told L e)) i) c (by i))
      ∙ ap (λ v. jump_judged L word (known_option L v) span c s) (sym is)

  -- ---- operators that are calls

  pub called_with : (receiver : Ty) (name text : List ℕ) (place : Span) (right : Tree) (c : Context Ty) (s after : State Ty) (ty : Ty) (at : Span)
      (none : List given.Given) (a : arguments.Arguments) (r : Judged Ty) →
      judged ty after ≡ judge_of L right c s → at ≡ span_of right → none ≡ [] →
      a.positional ≡ none ++ record { ty = ty; span = at } ∷ [] → a.keys ≡ [] → text ≡ name →
      ((around : Context Ty) → r ≡ call_with L None receiver text place around (seen_arguments a after)) →
      r ≡ after_left L (part_of L right).it name place c (judged receiver s)
  called_with receiver name text place right c s after ty at none a r j sp n p k e h =
      h c
      ∙ (λ i. call_with L None receiver (e i) place c
      (record { positional = map seen_given ((p ∙ ap (λ xs. xs ++ record { ty = ty; span = at } ∷ []) n) i); keys = map seen_named (k i); state = after }))
      ∙ (λ i. call_with L None receiver name place c
      (record { positional = record { ty = (j i).ty; span = (sp ∙ sym (span_told L right)) i } ∷ []; keys = []; state = (j i).state }))

  pub called_alone : (receiver : Ty) (name text : List ℕ) (place : Span) (c : Context Ty) (s : State Ty) (a : arguments.Arguments) (r : Judged Ty) →
      a.positional ≡ [] → a.keys ≡ [] → text ≡ name → r ≡ call_with L None receiver text place c (seen_arguments a s) →
      r ≡ on_operand L name place c (judged receiver s)
  called_alone receiver name text place c s a r p k e h =
      h ∙ (λ i. call_with L None receiver (e i) place c (record { positional = map seen_given (p i); keys = map seen_named (k i); state = s }))

  -- an operator before its operand, whose whole judgement this is
  pub called_before : (name : List ℕ) (operand : Tree) (at place : Span) (c : Context Ty) (s : State Ty) (j r whole : Judged Ty) →
      at ≡ place → j ≡ judge_of L operand c s →
      whole ≡ on_operand L name place (seeing (part_of L operand).it.declares c) (judge_of L operand c s) →
      ((around : Context Ty) → r ≡ on_operand L name at around j) → r ≡ whole
  called_before name operand at place c s j r whole p by is h =
      h (seeing (part_of L operand).it.declares c)
      ∙ (λ i. on_operand L name (p i) (seeing (part_of L operand).it.declares c) (by i)) ∙ sym is

  pub called_after : (name : List ℕ) (place : Span) (left right : Tree) (c around : Context Ty) (s : State Ty) (j r : Judged Ty) →
      j ≡ judge_of L left c s → around ≡ seeing (names_of L false left) c → r ≡ after_left L (part_of L right).it name place around j →
      r ≡ operator_judged L (part_of L left).it name place (part_of L right).it c s
  called_after name place left right c around s j r by e h = h ∙ (λ i. after_left L (part_of L right).it name place (e i) (by i))

  -- ---- `&&` and `||`

  pub and_then : (left right : Tree) (c around : Context Ty) (s : State Ty) (t : Tested Ty) (r : Judged Ty) →
      settled t ≡ settled (test_of L left c s) → around ≡ seeing (names_of L false left) c → r ≡ and_after L (judge_of L right) around t →
      r ≡ and_judged L (test_of L left) (part_of L left).it.declares (judge_of L right) c s
  and_then left right c around s t r by e h = h ∙ (λ i. and_after L (judge_of L right) (e i) (by i))

  pub or_else : (left right : Tree) (c around : Context Ty) (s : State Ty) (t : Tested Ty) (r : Judged Ty) →
      settled t ≡ settled (test_of L left c s) → around ≡ seeing (names_of L false left) c → r ≡ or_after L (judge_of L right) around t →
      r ≡ or_judged L (test_of L left) (part_of L left).it.declares (judge_of L right) c s
  or_else left right c around s t r by e h = h ∙ (λ i. or_after L (judge_of L right) (e i) (by i))
