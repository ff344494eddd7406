-- Calls and blocks by what their parts give.
use Rattle.std.proofs.Common.{◌≡◌, ℕ, true, List, [], ◌++◌, Option, ap, ◌∙◌}
use Rattle.srb_terms.specs.declared.span.Span.{Span}
use Rattle.srb_terms.specs.declared.ty.Ty.{Ty}
use Rattle.rb_tree.specs.declared.syntax.Argument.{Argument}
use Rattle.rb_tree.specs.declared.syntax.Block.{Block}
use Rattle.rb_tree.specs.declared.syntax.Dot.{Dot}
use Rattle.rb_tree.specs.declared.syntax.Tree.{Tree}
use Rattle.srb_judgement.specs.Blocks.{BlockJudged, parameter_names, left_with, state_with, block_judged}
use Rattle.srb_judgement.specs.Calls.{after_receiver, declared_by, joined_before, or_nil_of, safe_call, safely}
use Rattle.srb_judgement.specs.Environments.{Environment}
use Rattle.srb_judgement.specs.Languages.{Language}
use Rattle.srb_judgement.specs.Parts.{Operand, Part}
use Rattle.srb_judgement.specs.Pins.{in_block}
use Rattle.srb_judgement.specs.Reaching.{closed}
use Rattle.srb_judgement.specs.States.{Context, State, Judged, seeing}
use Rattle.srb_judgement.specs.Types.{nil_type}
use Rattle.srb_walk.specs.Assigned.{names_of}
use Rattle.srb_walk.specs.Judging.{judge_of}
use Rattle.srb_walk.specs.Known.{known_block}
use Rattle.srb_walk.specs.Rows.{Prefix, called_on}

module _ {T X : Type 0} (L : Language T X) where
  pub called_is : (c : Context T) (how : Dot) (name : List ℕ) (place : Span) (arguments : List (Argument (Operand T X))) (b : Option (Block (Part T X))) (p : Prefix T) (inner : Context T)
      (j k : Judged T) (declares : List (List ℕ)) → inner ≡ seeing p.declares c → j ≡ after_receiver L how name place arguments b inner p.it → k ≡ closed L j →
      declares ≡ p.declares ++ declared_by arguments → record { declares = declares; it = k } ≡ called_on L c how name place arguments b p
  called_is c how name place arguments b p inner j k declares h e f n =
      λ i. record { declares = n i; it = (f ∙ ap (closed L) (e ∙ ap (λ x. after_receiver L how name place arguments b x p.it) h)) i }

  pub safely_is : (a left : T) (name : List ℕ) (place : Span) (arguments : List (Argument (Operand T X))) (b : Option (Block (Part T X))) (c : Context T) (s : State T) (before : Environment T)
      (j k r : Judged T) → before ≡ s.environment → left ≡ L.without a (nil_type L) → j ≡ safe_call L (L.is_never left) left name place arguments b c s →
      k ≡ joined_before L before j → r ≡ or_nil_of L a k → r ≡ safely L a name place arguments b c s
  safely_is a left name place arguments b c s before j k r h l e f g =
      g ∙ ap (or_nil_of L a) (f ∙ (λ i. joined_before L (h i) ((e ∙ ap (λ t. safe_call L (L.is_never t) t name place arguments b c s) l) i)))

module _ {X : Type 0} (L : Language Ty X) where
  pub inside_is : (names assigns : List (List ℕ)) (types : List Ty) (body : Tree) (c inner : Context Ty) (s at aside : State Ty) (j : Judged Ty) (r : BlockJudged Ty) →
      aside ≡ record s { errors = [] } → at ≡ state_with L names assigns types c s → j ≡ judge_of L body inner at → r ≡ left_with L names c aside j →
      r ≡ left_with L names c s (judge_of L body inner (state_with L names assigns types c s))
  inside_is names assigns types body c inner s at aside j r d k e f =
      f ∙ (λ i. left_with L names c (d i) (e i)) ∙ ap (λ x. left_with L names c s (judge_of L body inner x)) k

  pub block_is : (b : Block Tree) (types : List Ty) (c inner : Context Ty) (s : State Ty) (names assigns : List (List ℕ)) (r : BlockJudged Ty) →
      names ≡ parameter_names (known_block L b) → assigns ≡ names_of L true b.body → inner ≡ in_block L s.environment names c →
      r ≡ left_with L names c s (judge_of L b.body inner (state_with L names assigns types c s)) → r ≡ block_judged L (known_block L b) types c s
  block_is b types c inner s names assigns r n a h f =
      f
      ∙ (λ i. left_with L (n i) c s (judge_of L b.body ((h ∙ ap (λ x. in_block L s.environment x c) n) i) (state_with L (n i) (a i) types c s)))
