-- What rows and commands say of variables.
use Rattle.std.proofs.Common.{◌≡◌, List, Option, Some, None, refl, ap, sym, ◌∙◌}
use Rattle.rb_tree.specs.declared.syntax.Argument.{Argument}
use Rattle.rb_tree.specs.declared.syntax.Block.{Block}
use Rattle.rb_tree.specs.declared.syntax.Dot.TheVariants as dot
use Rattle.rb_tree.specs.declared.syntax.Suffix.{Suffix}
use Rattle.rb_tree.specs.declared.syntax.Suffix.TheVariants as suffix
use Rattle.rb_tree.specs.declared.syntax.Tree.{Tree}
use Rattle.rb_views.specs.Calls.{arguments_of}
use Rattle.rb_views.specs.Prefixes.{last_suffix, without_last}
use Rattle.srb_judgement.specs.Chains.{Chain, chain, chain_start, operands_of, says_of, with_suffix, with_suffixes}
use Rattle.srb_judgement.specs.Conditions.{command_says}
use Rattle.srb_judgement.specs.Judgements.{part_of}
use Rattle.srb_judgement.specs.Languages.{Language}
use Rattle.srb_judgement.specs.Narrowing.{SaysNothing}
use Rattle.srb_judgement.specs.Parts.{Operand, Part, Ending, EndsInName, EndsInInstanceVariable, EndsInConstant, EndsInCall, EndsInIndex, EndsInYield, EndsInSuper, EndsOtherwise}
use Rattle.srb_judgement.specs.States.{Context}
use Rattle.srb_walk.proofs.EndingProofs.{by-last, last-is, front-is, one-more}
use Rattle.srb_walk.specs.Known.{known_arguments, known_brackets, known_suffix, known_suffixes}
use Rattle.srb_walk.specs.Saying.{last_says}

module _ {T X : Type 0} (L : Language T X) where
  brackets : (row : Option (List (Argument Tree))) → arguments_of (known_brackets L row) ≡ known_arguments L (arguments_of row)
  brackets None = refl
  brackets (Some row) = refl

  -- a row says what its last suffix says on those before it
  said-by : (operand : Tree) (ss : List (Suffix Tree)) (s : Suffix Tree) (c : Context T) →
      (with_suffix L (with_suffixes L (chain_start L (part_of L operand).it) (known_suffixes L ss)) (known_suffix L s)).says c
      ≡ last_says L (record { operand = operand; suffixes = ss }) (Some s) c
  said-by operand ss (suffix.Call dot.Plain name name_span row None span) c =
      ap (λ arguments. says_of L (chain L (part_of L operand).it (known_suffixes L ss)).it dot.Plain name (operands_of arguments) None c) (brackets row)
  said-by operand ss (suffix.Call dot.Plain name name_span row (Some b) span) c = refl
  said-by operand ss (suffix.Call dot.Safe name name_span row b span) c = refl
  said-by operand ss (suffix.Constant name name_span span) c = refl
  said-by operand ss (suffix.Index row span) c = refl

  pub row_said : (operand : Tree) (suffixes : List (Suffix Tree)) (c : Context T) →
      (chain L (part_of L operand).it (known_suffixes L suffixes)).says c
      ≡ last_says L (without_last (record { operand = operand; suffixes = suffixes })) (last_suffix suffixes) c
  row_said operand suffixes c = by-last
      (λ xs. (with_suffixes L (chain_start L (part_of L operand).it) (known_suffixes L xs)).says c
      ≡ last_says L (without_last (record { operand = operand; suffixes = xs })) (last_suffix xs) c)
      refl
      (λ front s.
      ap (λ (row : Chain T X). row.says c) (one-more L front s (chain_start L (part_of L operand).it))
      ∙ said-by operand front s c
      ∙ (λ i. last_says L (record { operand = operand; suffixes = (sym (front-is front s)) i }) ((sym (last-is front s)) i) c))
      suffixes

  -- a command with a block says nothing
  pub blocked_says : (ending : Ending T X) (arguments : List (Argument (Operand T X))) (b : Block (Part T X)) (c : Context T) →
      command_says L ending arguments (Some b) c ≡ SaysNothing
  blocked_says (EndsInName name span) arguments b c = refl
  blocked_says (EndsInInstanceVariable name span) arguments b c = refl
  blocked_says EndsInConstant arguments b c = refl
  blocked_says (EndsInCall o dot.Plain name span) arguments b c = refl
  blocked_says (EndsInCall o dot.Safe name span) arguments b c = refl
  blocked_says (EndsInIndex o row bracket) arguments b c = refl
  blocked_says EndsInYield arguments b c = refl
  blocked_says EndsInSuper arguments b c = refl
  blocked_says EndsOtherwise arguments b c = refl
