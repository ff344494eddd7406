-- What the values of the code stand for: each as the record or variant of the definitions. Maps stand for the list of their entries, in
-- order, and lists for lists.
use Rattle.std.specs.Prelude.{ℕ, List, [], map, codes, Option, Some, None}
use Rattle.std.specs.Option.{option_map}
use Rattle.srb_terms.specs.declared.ty.Ty.{Ty}
use Rattle.srb_terms.specs.declared.outline.Outline.{Outline}
use Rattle.srb_terms.specs.declared.span.Span.{Span}
use Rattle.rb_tree.specs.declared.syntax.Tree.{Tree}
use Rattle.srb_judgement.specs.declared.built_in.BuiltIn.{BuiltIn}
use Rattle.srb_judgement.specs.declared.built_in.BuiltIn.TheVariants as class
use Rattle.srb_judgement.specs.declared.blocks.Aside as aside
use Rattle.srb_judgement.specs.declared.blocks.BlockJudged as block_judged
use Rattle.srb_judgement.specs.declared.ends.Ends as ends
use Rattle.srb_judgement.specs.declared.environments.Environment as environment
use Rattle.srb_judgement.specs.declared.environments.Environment.TheVariants as place
use Rattle.srb_judgement.specs.declared.guards.Before as before
use Rattle.srb_judgement.specs.declared.meaning.Meaning as meaning
use Rattle.srb_judgement.specs.declared.meaning.Meaning.TheVariants as meant
use Rattle.srb_judgement.specs.declared.says.Says as says
use Rattle.srb_judgement.specs.declared.says.Says.TheVariants as said
use Rattle.srb_judgement.specs.declared.sent.Given as given
use Rattle.srb_judgement.specs.declared.sent.Named as named
use Rattle.srb_judgement.specs.declared.sent.GivenBlock as block
use Rattle.srb_judgement.specs.declared.sent.Arguments as arguments
use Rattle.srb_judgement.specs.declared.sent.Answer as answer
use Rattle.srb_judgement.specs.declared.signature.Typed as typed
use Rattle.srb_judgement.specs.declared.signature.Signature as signature
use Rattle.srb_judgement.specs.declared.spelling.Sole as sole
use Rattle.srb_judgement.specs.declared.spelling.Sole.TheVariants as just
use Rattle.srb_judgement.specs.declared.spelling.Spelling as spelling
use Rattle.srb_judgement.specs.declared.spelling.Spelling.TheVariants as spelled
use Rattle.srb_judgement.specs.declared.states.Row as assigned
use Rattle.srb_judgement.specs.declared.states.Left as left
use Rattle.srb_judgement.specs.declared.states.Jumps as jumps
use Rattle.srb_judgement.specs.declared.states.State as state
use Rattle.srb_judgement.specs.declared.tested.Tested as tested
use Rattle.srb_judgement.specs.Blocks.{BlockJudged}
use Rattle.srb_judgement.specs.Calls.{Arguments}
use Rattle.srb_judgement.specs.Ends.{Ends}
use Rattle.srb_judgement.specs.Environments.{Row, row, Environment, Live, Dead, Silent}
use Rattle.srb_judgement.specs.Forms.{Sole, NoArgument, OneArgument, OtherArguments}
use Rattle.srb_judgement.specs.Languages.{Language, Meaning, ClassNamed, ModuleNamed, ValueOf, Unresolved, Given, Named, GivenBlock, Sent, Answer, Typed, Signature}
use Rattle.srb_judgement.specs.Narrowing.{Says, SaysTruthy, SaysIs, SaysIsNot, SaysNothing}
use Rattle.srb_judgement.specs.Judgements.{part_of}
use Rattle.srb_judgement.specs.Parts.{Spelling, NameAlone, NilWord, ConstantPath, Other}
use Rattle.srb_judgement.specs.States.{Left, State, Tested, moved}

-- ---- classes and trees

-- the full name of a class that the rules name
abbrev pub class_name : BuiltIn → List ℕ
class_name class.Object = codes "Object"
class_name class.NilClass = codes "NilClass"
class_name class.TrueClass = codes "TrueClass"
class_name class.FalseClass = codes "FalseClass"
class_name class.Integer = codes "Integer"
class_name class.Float = codes "Float"
class_name class.String = codes "String"
class_name class.Symbol = codes "Symbol"
class_name class.StandardError = codes "StandardError"

-- the type expression that a tree may be
abbrev pub text_in : {T X : Type 0} → Language T X → Tree → X
text_in L t = (part_of L t).it.text

-- ---- environments

abbrev pub seen_rows : List (List ℕ × Ty) → List (Row Ty)
seen_rows rows = map (λ e. row e.0 e.1) rows

abbrev pub seen_environment : environment.Environment → Environment Ty
seen_environment (place.Live rows) = Live (seen_rows rows.entries)
seen_environment place.Dead = Dead
seen_environment place.Silent = Silent

-- ---- states

abbrev pub seen_row : assigned.Row → Row Ty
seen_row r = row r.name r.ty

abbrev pub seen_left : left.Left → Left Ty
seen_left l = record { ty = l.ty; rows = seen_rows l.rows.entries }

abbrev pub seen_state : state.State → State Ty
seen_state s = record {
  environment = seen_environment s.environment;
  breaks = map seen_left s.jumps.breaks;
  nexts = map seen_left s.jumps.nexts;
  assigned = map seen_row s.assigned;
  errors = s.errors;
}

-- a condition, and the state after it
abbrev pub seen_tested : tested.Tested → State Ty → Tested Ty
seen_tested t s =
    record { ty = t.ty; truth = seen_environment t.truth; falsehood = seen_environment t.falsehood; state = s }

-- the same condition without the environment of the state after it, which the code leaves open
abbrev pub settled : Tested Ty → Tested Ty
settled t = record t { state = moved Silent t.state }

-- ---- calls

abbrev pub seen_given : given.Given → Given Ty
seen_given g = record { ty = g.ty; span = g.span }

abbrev pub seen_named : named.Named → Named Ty
seen_named n = record { name = n.name; ty = n.ty; span = n.span }

abbrev pub seen_block : block.GivenBlock → GivenBlock Ty
seen_block b = record { names = b.names; ty = b.ty }

-- arguments, and the state after them
abbrev pub seen_arguments : arguments.Arguments → State Ty → Arguments Ty
seen_arguments a s = record { positional = map seen_given a.positional; keys = map seen_named a.keys; state = s }

-- a call with these arguments
abbrev pub seen_sent : Ty → List ℕ → Span → arguments.Arguments → Option block.GivenBlock → Sent Ty
seen_sent receiver name span a b = record {
  receiver = receiver;
  name = name;
  name_span = span;
  positional = map seen_given a.positional;
  keys = map seen_named a.keys;
  block = option_map seen_block b;
}

abbrev pub seen_answer : answer.Answer → Answer Ty
seen_answer a = record { result = a.result; block = a.block; errors = a.errors }

-- ---- names and signatures

abbrev pub seen_meaning : meaning.Meaning → Meaning Ty
seen_meaning (meant.Class name) = ClassNamed name
seen_meaning (meant.Module name) = ModuleNamed name
seen_meaning (meant.Value ty) = ValueOf ty
seen_meaning meant.Unresolved = Unresolved

abbrev pub seen_typed : typed.Typed → Typed Ty
seen_typed t = record { name = t.name; ty = t.ty }

abbrev pub seen_signature : signature.Signature → Signature Ty
seen_signature s = record { params = map seen_typed s.params; result = s.result }

-- ---- tests

abbrev pub seen_spelling : spelling.Spelling → Spelling
seen_spelling (spelled.NameAlone name) = NameAlone name
seen_spelling spelled.NilWord = NilWord
seen_spelling (spelled.ConstantPath path) = ConstantPath path
seen_spelling spelled.Other = Other

abbrev pub seen_says : says.Says → Says Ty
seen_says (said.Truthy name) = SaysTruthy name
seen_says (said.Is name ty) = SaysIs name ty
seen_says (said.IsNot name ty) = SaysIsNot name ty
seen_says said.Nothing = SaysNothing

abbrev pub seen_sole : sole.Sole → Sole
seen_sole just.Empty = NoArgument
seen_sole (just.One value) = OneArgument (seen_spelling value.now)
seen_sole just.Other = OtherArguments

-- ---- parts of states

abbrev pub seen_ends : ends.Ends → Ends Ty
seen_ends e = record { ty = e.ty; environment = seen_environment e.environment }

-- what is set aside of a state: all but its errors
abbrev pub seen_aside : aside.Aside → State Ty
seen_aside a = record {
  environment = seen_environment a.environment;
  breaks = map seen_left a.jumps.breaks;
  nexts = map seen_left a.jumps.nexts;
  assigned = map seen_row a.assigned;
  errors = [];
}

-- the jumps and assignments of a state alone
abbrev pub seen_before : before.Before → State Ty
seen_before b = record {
  environment = Silent;
  breaks = map seen_left b.jumps.breaks;
  nexts = map seen_left b.jumps.nexts;
  assigned = map seen_row b.assigned;
  errors = [];
}

-- a block that was judged, and the state after it
abbrev pub seen_block_judged : block_judged.BlockJudged → State Ty → BlockJudged Ty
seen_block_judged b s = record { ty = b.ty; breaks = b.breaks; state = s }
