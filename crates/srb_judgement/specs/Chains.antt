-- Operands with suffixes: calls by `.` and `&.`, indexes, and constants by `::`. The suffixes are a flat row, and each prefix is an operand.
use Rattle.std.specs.Prelude.{ℕ, not, List, [], ◌∷◌, ◌++◌, map, codes, Option, Some, None}
use Rattle.std.specs.List.{filter}
use Rattle.srb_terms.specs.NameSets.{has_name}
use Rattle.srb_terms.specs.declared.span.Span.{Span}
use Rattle.rb_tree.specs.declared.syntax.Argument.{Argument}
use Rattle.rb_tree.specs.declared.syntax.Argument.TheVariants as argument
use Rattle.rb_tree.specs.declared.syntax.Block.{Block}
use Rattle.rb_tree.specs.declared.syntax.Dot.{Dot}
use Rattle.rb_tree.specs.declared.syntax.Dot.TheVariants as dot
use Rattle.rb_tree.specs.declared.syntax.Suffix.{Suffix}
use Rattle.rb_tree.specs.declared.syntax.Suffix.TheVariants as suffix
use Rattle.rb_views.specs.Calls.{arguments_of}
use Rattle.rb_views.specs.Places.{open_bracket}
use Rattle.srb_judgement.specs.Blocks.{parameter_names}
use Rattle.srb_judgement.specs.Calls.{send, declared_by, argument_value}
use Rattle.srb_judgement.specs.Languages.{Language}
use Rattle.srb_judgement.specs.Narrowing.{Says, SaysNothing, says_call, saying}
use Rattle.srb_judgement.specs.Parts.{Operand, Part, Spelling, NameAlone, NilWord, ConstantPath, Other, Ending, EndsInCall, EndsInIndex, EndsOtherwise}
use Rattle.srb_judgement.specs.Reaching.{expression}
use Rattle.srb_judgement.specs.States.{Context, Run, Test, seeing}
use Rattle.srb_judgement.specs.Words.{constant, constant_within}

-- ---- arguments and blocks as operands

module _ {T X : Type 0} where
  abbrev pub operand_of : Argument (Part T X) → Argument (Operand T X)
  operand_of (argument.Positional value) = argument.Positional value.it
  operand_of (argument.Keyword name span value) = argument.Keyword name span value.it
  operand_of (argument.Block span value) = argument.Block span value.it

  abbrev pub operands_of : List (Argument (Part T X)) → List (Argument (Operand T X))
  operands_of arguments = map operand_of arguments

  -- what arguments and a block assign, the block's own variables among them
  abbrev pub assigned_by : List (Argument (Operand T X)) → List (List ℕ)
  assigned_by [] = []
  assigned_by (a ∷ rest) = (argument_value a).assigns ++ assigned_by rest

  -- a parameter of a block is none of the outer variables
  abbrev pub assigned_in : Option (Block (Part T X)) → List (List ℕ)
  assigned_in None = []
  assigned_in (Some b) = filter (λ name. not (has_name name (parameter_names b))) b.body.it.assigns

-- ---- rows

-- a prefix of a row: the operand that it is, what its last call says as a condition, and what it ends in
pub record Chain (T X : Type 0) : Type 0 where
  pub it : Operand T X
  pub says : Context T → Says T
  pub ending : Ending T X

abbrev pub up_to : Span → Span → Span
up_to first last = record { start = first.start; end = last.end }

module _ {T X : Type 0} (L : Language T X) where
  abbrev pub says_nothing : Context T → Says T
  says_nothing c = SaysNothing

  abbrev pub chain_start : Operand T X → Chain T X
  chain_start o = record { it = o; says = says_nothing; ending = EndsOtherwise }

  -- an operand with a call as one more suffix
  abbrev pub called : Operand T X → Dot → List ℕ → Span → List (Argument (Operand T X)) → Option (Block (Part T X)) → Span → Operand T X
  called o how name name_span arguments b whole = record {
    span = whole;
    spelling = Other;
    text = o.text;
    declares = o.declares ++ declared_by arguments;
    assigns = o.assigns ++ (assigned_by arguments ++ assigned_in b);
    judge = expression L whole (send L o how name name_span arguments b whole);
  }

  abbrev pub says_of : Operand T X → Dot → List ℕ → List (Argument (Operand T X)) → Option (Block (Part T X)) → Context T → Says T
  says_of o dot.Plain name arguments None c = says_call L (seeing o.declares c) o.spelling name arguments
  says_of o _ name arguments b c = SaysNothing

  abbrev pub call_ending : Operand T X → Dot → List ℕ → Span → Option (List (Argument (Part T X))) → Option (Block (Part T X)) → Ending T X
  call_ending o how name name_span None None = EndsInCall o how name name_span
  call_ending o how name name_span _ _ = EndsOtherwise

  -- a path goes on by `::`; on any other operand `::` is no path
  abbrev pub longer : Spelling → List ℕ → Spelling
  longer (ConstantPath path) name = ConstantPath (path ++ name ∷ [])
  longer (NameAlone other) name = Other
  longer NilWord name = Other
  longer Other name = Other

  abbrev pub constant_run : Spelling → Operand T X → Run T
  constant_run (ConstantPath path) o = constant L path
  constant_run (NameAlone name) o = constant_within L o
  constant_run NilWord o = constant_within L o
  constant_run Other o = constant_within L o

  abbrev pub with_constant : Operand T X → List ℕ → Span → Operand T X
  with_constant o name whole = record o {
    span = whole;
    spelling = longer o.spelling name;
    judge = expression L whole (constant_run (longer o.spelling name) o);
  }

  abbrev pub with_suffix : Chain T X → Suffix (Part T X) → Chain T X
  with_suffix row (suffix.Call how name name_span arguments block span) = record {
    it = called row.it how name name_span (operands_of (arguments_of arguments)) block (up_to row.it.span span);
    says = says_of row.it how name (operands_of (arguments_of arguments)) block;
    ending = call_ending row.it how name name_span arguments block;
  }
  with_suffix row (suffix.Constant name name_span span) = record {
    it = with_constant row.it name (up_to row.it.span span);
    says = says_nothing;
    ending = EndsOtherwise;
  }
  with_suffix row (suffix.Index arguments span) = record {
    it = called row.it dot.Plain (codes "[]") (open_bracket span) (operands_of arguments) None (up_to row.it.span span);
    says = says_nothing;
    ending = EndsInIndex row.it (operands_of arguments) (open_bracket span);
  }

  abbrev pub with_suffixes : Chain T X → List (Suffix (Part T X)) → Chain T X
  with_suffixes row [] = row
  with_suffixes row (s ∷ rest) = with_suffixes (with_suffix row s) rest

  -- an operand with all these suffixes
  abbrev pub chain : Operand T X → List (Suffix (Part T X)) → Chain T X
  chain o suffixes = with_suffixes (chain_start o) suffixes

  -- as a condition: what its last call says of a variable
  abbrev pub chain_test : Chain T X → Test T
  chain_test row c s = saying L (row.says c) (row.it.judge c s)
