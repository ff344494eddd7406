-- Expressions one after the other, in the order of the text.
use Rattle.std.specs.Prelude.{ℕ, List, [], ◌∷◌, ◌++◌}
use Rattle.srb_judgement.specs.Environments.{Environment, Live, Dead, Silent}
use Rattle.srb_judgement.specs.Languages.{Language}
use Rattle.srb_judgement.specs.Parts.{Operand, Part, Standing, SigStatement, DeclaringCall, PlainStatement}
use Rattle.srb_judgement.specs.States.{Context, State, Judged, Several, Run, judged, seeing}
use Rattle.srb_judgement.specs.Types.{nil_type}

-- ---- operands

module _ {T : Type 0} where
  abbrev pub none_yet : State T → Several T
  none_yet s = record { types = []; state = s }

  abbrev pub and_one : List T → Judged T → Several T
  and_one types j = record { types = types ++ j.ty ∷ []; state = j.state }

module _ {T X : Type 0} where
  -- each operand is judged in the environment after the one before it, and what that assigns is visible in it
  abbrev pub judge_more : List (Operand T X) → Context T → Several T → Several T
  judge_more [] c so_far = so_far
  judge_more (o ∷ rest) c so_far = judge_more rest (seeing o.declares c) (and_one so_far.types (o.judge c so_far.state))

  abbrev pub judge_all : List (Operand T X) → Context T → State T → Several T
  judge_all operands c s = judge_more operands c (none_yet s)

  -- the variables that operands assign
  abbrev pub all_declared : List (Operand T X) → List (List ℕ)
  all_declared [] = []
  all_declared (o ∷ rest) = o.declares ++ all_declared rest

-- ---- statements

module _ {T X : Type 0} where
  -- the last statement's type is that of the body
  abbrev pub judge_statements : List (Part T X) → Context T → Judged T → Judged T
  judge_statements [] c so_far = so_far
  judge_statements (p ∷ rest) c so_far = judge_statements rest (seeing p.it.declares c) (p.it.judge c so_far.state)

module _ {T X : Type 0} (L : Language T X) where
  -- "An empty body is no expression and has `NilClass` (`T.noreturn` when not live)."
  abbrev pub empty_type : Environment T → T
  empty_type (Live rows) = nil_type L
  empty_type Dead = L.never
  empty_type Silent = L.never

  abbrev pub empty_body : State T → Judged T
  empty_body s = judged (empty_type s.environment) s

  -- a body: its statements in order
  abbrev pub body : List (Part T X) → Run T
  body statements c s = judge_statements statements c (empty_body s)

  -- "`include`, `extend`, `attr_reader`, `attr_writer`, `attr_accessor` and `sig` without a receiver in a class or module body are
  -- declarations, are not judged, and have `NilClass`." "A declaration, and a declaring call, changes no environment .. and never gets 7006."
  abbrev pub judge_in_class : Standing → Part T X → Run T
  judge_in_class PlainStatement p c s = p.it.judge c s
  judge_in_class SigStatement p c s = judged (nil_type L) s
  judge_in_class DeclaringCall p c s = judged (nil_type L) s

  abbrev pub judge_class_statements : List (Part T X) → Context T → Judged T → Judged T
  judge_class_statements [] c so_far = so_far
  judge_class_statements (p ∷ rest) c so_far =
      judge_class_statements rest (seeing p.it.declares c) (judge_in_class p.standing p c so_far.state)

  -- the body of a class or module
  abbrev pub class_body : List (Part T X) → Run T
  class_body statements c s = judge_class_statements statements c (empty_body s)
