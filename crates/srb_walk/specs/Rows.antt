-- Rows of suffixes, from left to right. The judgement gives each prefix of a row as an operand that judges the one before it; here the
-- type so far, the state after it and the variables that the prefix assigns are passed on from one suffix to the next.
use Rattle.std.specs.Prelude.{◌≡◌, ℕ, Bool, true, false, List, [], ◌∷◌, ◌++◌, codes, Option, None}
use Rattle.srb_terms.specs.declared.span.Span.{Span}
use Rattle.rb_tree.specs.declared.syntax.Argument.{Argument}
use Rattle.rb_tree.specs.declared.syntax.Block.{Block}
use Rattle.rb_tree.specs.declared.syntax.Dot.{Dot}
use Rattle.rb_tree.specs.declared.syntax.Dot.TheVariants as dot
use Rattle.rb_tree.specs.declared.syntax.Suffix.{Suffix}
use Rattle.rb_tree.specs.declared.syntax.Suffix.TheVariants as suffix
use Rattle.rb_views.specs.Calls.{arguments_of}
use Rattle.rb_views.specs.Places.{open_bracket}
use Rattle.srb_judgement.specs.Calls.{declared_by, after_receiver}
use Rattle.srb_judgement.specs.Chains.{Chain, with_suffixes, operands_of}
use Rattle.srb_judgement.specs.Environments.{Row, Live}
use Rattle.srb_judgement.specs.Languages.{Language}
use Rattle.srb_judgement.specs.Parts.{Operand, Part, Spelling, NameAlone, NilWord, ConstantPath, Other}
use Rattle.srb_judgement.specs.Reaching.{closed}
use Rattle.srb_judgement.specs.States.{Context, State, Judged, judged, moved, seeing}

-- a prefix that was judged: what it assigns, its type and what is after it
pub record Prefix (T : Type 0) : Type 0 where
  pub declares : List (List ℕ)
  pub it : Judged T

abbrev pub is_path : Spelling → Bool
is_path (ConstantPath path) = true
is_path (NameAlone name) = false
is_path NilWord = false
is_path Other = false

module _ {T X : Type 0} (L : Language T X) where
  -- a call on a prefix
  abbrev pub called_on : Context T → Dot → List ℕ → Span → List (Argument (Operand T X)) → Option (Block (Part T X)) → Prefix T → Prefix T
  called_on c how name name_span arguments b p = record {
    declares = p.declares ++ declared_by arguments;
    it = closed L (after_receiver L how name name_span arguments b (seeing p.declares c) p.it);
  }

  -- one more suffix, which is no constant of a path and no form of `T`
  abbrev pub suffixed : Context T → Suffix (Part T X) → Prefix T → Prefix T
  suffixed c (suffix.Call how name name_span arguments b span) p = called_on c how name name_span (operands_of (arguments_of arguments)) b p
  suffixed c (suffix.Constant name name_span span) p = record { declares = p.declares; it = closed L (judged L.untyped p.it.state) }
  suffixed c (suffix.Index arguments span) p = called_on c dot.Plain (codes "[]") (open_bracket span) (operands_of arguments) None p

  abbrev pub all_suffixed : Context T → List (Suffix (Part T X)) → Prefix T → Prefix T
  all_suffixed c [] p = p
  all_suffixed c (s ∷ rest) p = all_suffixed c rest (suffixed c s p)

  abbrev pub prefix_judged : Chain T X → Context T → State T → Prefix T
  prefix_judged row c s = record { declares = row.it.declares; it = row.it.judge c s }

-- A row that is reached is judged from left to right, after a prefix that is no path of constants: so no form of `T` and no longer path
-- begins with it.
abbrev pub RowsGoFromLeftToRight : Type 0 → Type 0 → Type 0
RowsGoFromLeftToRight T X =
    (L : Language T X) (suffixes : List (Suffix (Part T X))) (row : Chain T X) (c : Context T) (rows : List (Row T)) (s : State T) →
    is_path row.it.spelling ≡ false →
    prefix_judged L (with_suffixes L row suffixes) c (moved (Live rows) s)
    ≡ all_suffixed L c suffixes (prefix_judged L row c (moved (Live rows) s))
