-- Calls: "Receiver, arguments from left to right and the block are judged in this order." What a call answers is the language's.
use Rattle.std.specs.Prelude.{ℕ, Bool, true, false, List, [], ◌∷◌, ◌++◌, length, Option, Some, None}
use Rattle.srb_terms.specs.declared.span.Span.{Span}
use Rattle.rb_tree.specs.declared.syntax.Argument.{Argument}
use Rattle.rb_tree.specs.declared.syntax.Argument.TheVariants as argument
use Rattle.rb_tree.specs.declared.syntax.Block.{Block}
use Rattle.rb_tree.specs.declared.syntax.Dot.{Dot}
use Rattle.rb_tree.specs.declared.syntax.Dot.TheVariants as dot
use Rattle.srb_judgement.specs.Assertions.{assertion_of, assertion_judged}
use Rattle.srb_judgement.specs.Blocks.{BlockJudged, block_judged}
use Rattle.srb_judgement.specs.Environments.{Environment, joined}
use Rattle.srb_judgement.specs.Languages.{Language, Given, Named, GivenBlock, Sent, Answer}
use Rattle.srb_judgement.specs.Parts.{Operand, Part}
use Rattle.srb_judgement.specs.States.{Context, State, Judged, Run, judged, moved, seeing, with_errors}
use Rattle.srb_judgement.specs.Types.{nil_type, has_nil, any_after, type_if}

-- ---- arguments

-- arguments that were judged: those by place and those by name, and what is after them
pub record Arguments (T : Type 0) : Type 0 where
  pub positional : List (Given T)
  pub keys : List (Named T)
  pub state : State T

abbrev pub no_arguments : {T : Type 0} → State T → Arguments T
no_arguments s = record { positional = []; keys = []; state = s }

module _ {T X : Type 0} where
  abbrev pub argument_value : Argument (Operand T X) → Operand T X
  argument_value (argument.Positional value) = value
  argument_value (argument.Keyword name span value) = value
  argument_value (argument.Block span value) = value

  -- "a keyword argument's place is its value"; "`&e` is judged and not checked"
  abbrev pub with_argument : Argument (Operand T X) → List (Given T) → List (Named T) → Judged T → Arguments T
  with_argument (argument.Positional value) positional keys j =
      record { positional = positional ++ record { ty = j.ty; span = value.span } ∷ []; keys = keys; state = j.state }
  with_argument (argument.Keyword name span value) positional keys j =
      record { positional = positional; keys = keys ++ record { name = name; ty = j.ty; span = value.span } ∷ []; state = j.state }
  with_argument (argument.Block span value) positional keys j = record { positional = positional; keys = keys; state = j.state }

  abbrev pub judge_arguments : List (Argument (Operand T X)) → Context T → Arguments T → Arguments T
  judge_arguments [] c so_far = so_far
  judge_arguments (a ∷ rest) c so_far =
      judge_arguments rest (seeing (argument_value a).declares c)
      (with_argument a so_far.positional so_far.keys ((argument_value a).judge c so_far.state))

  -- the variables that arguments assign
  abbrev pub declared_by : List (Argument (Operand T X)) → List (List ℕ)
  declared_by [] = []
  declared_by (a ∷ rest) = (argument_value a).declares ++ declared_by rest

-- ---- calls

module _ {T X : Type 0} (L : Language T X) where
  -- what is sent, with this block
  abbrev pub sent : T → List ℕ → Span → Arguments T → Option (GivenBlock T) → Sent T
  sent receiver name span a b = record {
    receiver = receiver;
    name = name;
    name_span = span;
    positional = a.positional;
    keys = a.keys;
    block = b;
  }

  abbrev pub answered : Answer T → List T → State T → Judged T
  answered a breaks s = judged (any_after L a.result breaks) (with_errors a.errors s)

  -- the call with the type B of its block
  abbrev pub with_block : T → List ℕ → Span → Arguments T → ℕ → BlockJudged T → Judged T
  with_block receiver name span a names b = answered (L.call (sent receiver name span a (Some (record { names = names; ty = b.ty })))) b.breaks b.state

  -- the types that a call gives to so many parameters of its block
  abbrev pub types_given : T → List ℕ → Span → Arguments T → ℕ → List T
  types_given receiver name span a names = (L.call (sent receiver name span a (Some (record { names = names; ty = L.untyped })))).block

  -- what a call with these arguments gives. The types of the block's names don't depend on B.
  abbrev pub call_with : Option (Block (Part T X)) → T → List ℕ → Span → Context T → Arguments T → Judged T
  call_with None receiver name span c a = answered (L.call (sent receiver name span a None)) [] a.state
  call_with (Some b) receiver name span c a =
      with_block receiver name span a (length b.parameters)
      (block_judged L b (types_given receiver name span a (length b.parameters)) c a.state)

  -- a call on a receiver of this type. "A call is judged also where its arguments ended the environment"
  abbrev pub call_on : T → List ℕ → Span → List (Argument (Operand T X)) → Option (Block (Part T X)) → Run T
  call_on receiver name span arguments b c s =
      call_with b receiver name span (seeing (declared_by arguments) c) (judge_arguments arguments c (no_arguments s))

  -- ---- calls that take anything

  abbrev pub untyped_after : BlockJudged T → Judged T
  untyped_after b = judged L.untyped b.state

  -- a block whose parameters are all `T.untyped`
  abbrev pub untyped_block : Option (Block (Part T X)) → Context T → State T → Judged T
  untyped_block None c s = judged L.untyped s
  untyped_block (Some b) c s = untyped_after (block_judged L b [] c s)

  -- "`yield` and `super` judge their arguments and are `T.untyped`." Their blocks are judged with parameters `T.untyped` and pins.
  abbrev pub call_untyped : List (Argument (Operand T X)) → Option (Block (Part T X)) → Run T
  call_untyped arguments b c s = untyped_block b (seeing (declared_by arguments) c) (judge_arguments arguments c (no_arguments s)).state

  -- ---- `&.`

  -- "the environment is the join of before and after the arguments"
  abbrev pub joined_before : Environment T → Judged T → Judged T
  joined_before before j = judged j.ty (moved (joined L before j.state.environment) j.state)

  -- "its type also has `NilClass` where a had it"
  abbrev pub or_nil_of : T → Judged T → Judged T
  or_nil_of a j = judged (L.any j.ty (type_if L (has_nil L a) (nil_type L))) j.state

  -- "Where nothing is left, no call is judged, and the arguments are judged in the same environment." The block has parameters `T.untyped`,
  -- and a `break` in it joins nothing.
  abbrev pub nothing_left : Judged T → Judged T
  nothing_left j = judged L.never j.state

  abbrev pub safe_call : Bool → T → List ℕ → Span → List (Argument (Operand T X)) → Option (Block (Part T X)) → Run T
  safe_call true left name span arguments b c s = nothing_left (call_untyped arguments b c s)
  safe_call false left name span arguments b c s = call_on left name span arguments b c s

  -- "`a&.b(..)` calls on `without(a, NilClass)`"
  abbrev pub safely : T → List ℕ → Span → List (Argument (Operand T X)) → Option (Block (Part T X)) → Run T
  safely a name span arguments b c s =
      or_nil_of a (joined_before s.environment
      (safe_call (L.is_never (L.without a (nil_type L))) (L.without a (nil_type L)) name span arguments b c s))

  -- ---- calls on operands

  abbrev pub after_receiver : Dot → List ℕ → Span → List (Argument (Operand T X)) → Option (Block (Part T X)) → Context T → Judged T → Judged T
  after_receiver dot.Plain name span arguments b c r = call_on r.ty name span arguments b c r.state
  after_receiver dot.Safe name span arguments b c r = safely r.ty name span arguments b c r.state

  abbrev pub call_operand : Operand T X → Dot → List ℕ → Span → List (Argument (Operand T X)) → Option (Block (Part T X)) → Run T
  call_operand o how name span arguments b c s = after_receiver how name span arguments b (seeing o.declares c) (o.judge c s)

  -- a call on an operand; a form of `T` is none. The last place is that of the whole call
  abbrev pub send : Operand T X → Dot → List ℕ → Span → List (Argument (Operand T X)) → Option (Block (Part T X)) → Span → Run T
  send o dot.Plain name span arguments None whole =
      assertion_judged L (assertion_of o.spelling name arguments) whole (call_operand o dot.Plain name span arguments None)
  send o dot.Plain name span arguments (Some b) whole = call_operand o dot.Plain name span arguments (Some b)
  send o dot.Safe name span arguments b whole = call_operand o dot.Safe name span arguments b
