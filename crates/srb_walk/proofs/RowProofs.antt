-- Rows go from left to right.
use Rattle.std.proofs.Common.{◌≡◌, ℕ, Bool, true, false, true≢false, List, [], ◌∷◌, ◌++◌, codes, Option, Some, None, refl, ap, ◌∙◌}
use Rattle.srb_terms.specs.declared.span.Span.{Span}
use Rattle.rb_tree.specs.declared.syntax.Argument.{Argument}
use Rattle.rb_tree.specs.declared.syntax.Block.{Block}
use Rattle.rb_tree.specs.declared.syntax.Dot.{Dot}
use Rattle.rb_tree.specs.declared.syntax.Dot.TheVariants as dot
use Rattle.rb_tree.specs.declared.syntax.Suffix.{Suffix}
use Rattle.rb_tree.specs.declared.syntax.Suffix.TheVariants as suffix
use Rattle.rb_views.specs.Calls.{arguments_of}
use Rattle.rb_views.specs.Places.{open_bracket}
use Rattle.srb_judgement.specs.Assertions.{NoAssertion, assertion_of, assertion_judged}
use Rattle.srb_judgement.specs.Calls.{declared_by, call_operand, send}
use Rattle.srb_judgement.specs.Chains.{Chain, with_suffix, operands_of, up_to, longer, constant_run}
use Rattle.srb_judgement.specs.Environments.{Row, Live}
use Rattle.srb_judgement.specs.Languages.{Language}
use Rattle.srb_judgement.specs.Parts.{Operand, Part, Spelling, NameAlone, NilWord, ConstantPath, Other}
use Rattle.srb_judgement.specs.Reaching.{closed}
use Rattle.srb_judgement.specs.States.{Context, State, moved, seeing}
use Rattle.srb_judgement.specs.Words.{constant_within}
use Rattle.srb_walk.specs.Rows.{is_path, called_on, suffixed, all_suffixed, prefix_judged, RowsGoFromLeftToRight}

module _ {T X : Type 0} (L : Language T X) where
  no-form : (sp : Spelling) (name : List ℕ) (arguments : List (Argument (Operand T X))) → is_path sp ≡ false → assertion_of sp name arguments ≡ NoAssertion
  no-form (NameAlone other) name arguments h = refl
  no-form NilWord name arguments h = refl
  no-form Other name arguments h = refl
  no-form (ConstantPath path) name arguments h = absurd (true≢false h)

  no-path : (sp : Spelling) (name : List ℕ) → is_path sp ≡ false → is_path (longer L sp name) ≡ false
  no-path (NameAlone other) name h = refl
  no-path NilWord name h = refl
  no-path Other name h = refl
  no-path (ConstantPath path) name h = absurd (true≢false h)

  within : (sp : Spelling) (name : List ℕ) (o : Operand T X) → is_path sp ≡ false → constant_run L (longer L sp name) o ≡ constant_within L o
  within (NameAlone other) name o h = refl
  within NilWord name o h = refl
  within Other name o h = refl
  within (ConstantPath path) name o h = absurd (true≢false h)

  sent : (o : Operand T X) (how : Dot) (name : List ℕ) (span : Span) (arguments : List (Argument (Operand T X))) (b : Option (Block (Part T X))) (whole : Span) (c : Context T) (s : State T) →
      is_path o.spelling ≡ false → send L o how name span arguments b whole c s ≡ call_operand L o how name span arguments b c s
  sent o dot.Plain name span arguments None whole c s h =
      ap (λ a. assertion_judged L a whole (call_operand L o dot.Plain name span arguments None) c s) (no-form o.spelling name arguments h)
  sent o dot.Plain name span arguments (Some b) whole c s h = refl
  sent o dot.Safe name span arguments b whole c s h = refl

  called : (row : Chain T X) (how : Dot) (name : List ℕ) (span : Span) (arguments : List (Argument (Operand T X))) (b : Option (Block (Part T X))) (whole : Span) (c : Context T) (s : State T) →
      is_path row.it.spelling ≡ false →
      closed L (send L row.it how name span arguments b whole c s) ≡ (called_on L c how name span arguments b (prefix_judged L row c s)).it
  called row how name span arguments b whole c s h =
      ap (closed L) (sent row.it how name span arguments b whole c s h)

  step : (x : Suffix (Part T X)) (row : Chain T X) (c : Context T) (rows : List (Row T)) (s : State T) → is_path row.it.spelling ≡ false →
      prefix_judged L (with_suffix L row x) c (moved (Live rows) s) ≡ suffixed L c x (prefix_judged L row c (moved (Live rows) s))
  step (suffix.Call how name name_span arguments b span) row c rows s h =
      ap (λ j. record { declares = row.it.declares ++ declared_by (operands_of (arguments_of arguments)); it = j })
      (called row how name name_span (operands_of (arguments_of arguments)) b (up_to row.it.span span) c (moved (Live rows) s) h)
  step (suffix.Constant name name_span span) row c rows s h =
      ap (λ run. record { declares = row.it.declares; it = closed L (run c (moved (Live rows) s)) }) (within row.it.spelling name row.it h)
  step (suffix.Index arguments span) row c rows s h =
      ap (λ j. record { declares = row.it.declares ++ declared_by (operands_of arguments); it = j })
      (called row dot.Plain (codes "[]") (open_bracket span) (operands_of arguments) None (up_to row.it.span span) c (moved (Live rows) s) h)

  stays : (x : Suffix (Part T X)) (row : Chain T X) → is_path row.it.spelling ≡ false → is_path (with_suffix L row x).it.spelling ≡ false
  stays (suffix.Call how name name_span arguments b span) row h = refl
  stays (suffix.Constant name name_span span) row h = no-path row.it.spelling name h
  stays (suffix.Index arguments span) row h = refl

pub rows_go : {T X : Type 0} → RowsGoFromLeftToRight T X
rows_go L [] row c rows s h = refl
rows_go L (x ∷ xs) row c rows s h =
    rows_go L xs (with_suffix L row x) c rows s (stays L x row h)
    ∙ ap (all_suffixed L c xs) (step L x row c rows s h)
