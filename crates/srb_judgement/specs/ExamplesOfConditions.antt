-- Programs whose errors tell what each side of a condition knows.
use Rattle.std.specs.Prelude.{[], ◌∷◌, codes, Some, None}
use Rattle.rb_tree.specs.declared.syntax.Argument.TheVariants as argument
use Rattle.rb_tree.specs.declared.syntax.Binary.TheVariants as binary
use Rattle.rb_tree.specs.declared.syntax.Test.TheVariants as sense
use Rattle.rb_tree.specs.declared.syntax.Unary.TheVariants as unary
use Rattle.rb_tree.specs.declared.syntax.Node.TheOpen.{Node-F}
use Rattle.srb_judgement.specs.ExampleTrees.{Program, Reports, at}
use Rattle.srb_judgement.specs.Errors.{error}

-- ---- a variable, `!`, `unless`, `until`, brackets and assignments

-- a variable is truthy on one side and falsy on the other
-- `x = T.let(nil, T.nilable(Integer)); if x; T.reveal_type(x); else; T.reveal_type(x); end`
abbrev pub VARIABLE : Program
VARIABLE N P s =
    s.body 0 87
    ((s.assign 0 34 (s.name (codes "x") 0) (s.send 4 34 (s.constant (codes "T") 4) (codes "let") 6 ((s.nil 10) ∷ (s.send 15 33 (s.constant
    (codes "T") 15) (codes "nilable") 17 ((s.constant (codes "Integer") 25) ∷ [])) ∷ [])))
    ∷ (s.make (Node-F.If sense.Positive (s.name (codes "x") 39) (s.body 42 58 ((s.reveal 42 58 (s.name (codes "x") 56)) ∷ [])) [] (Some
    (s.body 66 82 ((s.reveal 66 82 (s.name (codes "x") 80)) ∷ []))) (at 36 87))) ∷ [])

-- `!` exchanges the sides
-- `x = T.let(nil, T.nilable(Integer)); if !x; T.reveal_type(x); else; T.reveal_type(x); end`
abbrev pub NEGATED : Program
NEGATED N P s =
    s.body 0 88
    ((s.assign 0 34 (s.name (codes "x") 0) (s.send 4 34 (s.constant (codes "T") 4) (codes "let") 6 ((s.nil 10) ∷ (s.send 15 33 (s.constant
    (codes "T") 15) (codes "nilable") 17 ((s.constant (codes "Integer") 25) ∷ [])) ∷ [])))
    ∷ (s.make (Node-F.If sense.Positive (s.make (Node-F.Unary unary.Not (s.name (codes "x") 40) (at 39 41))) (s.body 43 59 ((s.reveal 43
    59 (s.name (codes "x") 57)) ∷ [])) [] (Some (s.body 67 83 ((s.reveal 67 83 (s.name (codes "x") 81)) ∷ []))) (at 36 88))) ∷ [])

-- so does `unless`
-- `x = T.let(nil, T.nilable(Integer)); unless x; T.reveal_type(x); else; T.reveal_type(x); end`
abbrev pub UNLESS : Program
UNLESS N P s =
    s.body 0 91
    ((s.assign 0 34 (s.name (codes "x") 0) (s.send 4 34 (s.constant (codes "T") 4) (codes "let") 6 ((s.nil 10) ∷ (s.send 15 33 (s.constant
    (codes "T") 15) (codes "nilable") 17 ((s.constant (codes "Integer") 25) ∷ [])) ∷ [])))
    ∷ (s.make (Node-F.If sense.Negative (s.name (codes "x") 43) (s.body 46 62 ((s.reveal 46 62 (s.name (codes "x") 60)) ∷ [])) [] (Some
    (s.body 70 86 ((s.reveal 70 86 (s.name (codes "x") 84)) ∷ []))) (at 36 91))) ∷ [])

-- and `until`
-- `x = T.let(nil, T.nilable(Integer)); until x; T.reveal_type(x); end; T.reveal_type(x)`
abbrev pub UNTIL : Program
UNTIL N P s =
    s.body 0 84
    ((s.assign 0 34 (s.name (codes "x") 0) (s.send 4 34 (s.constant (codes "T") 4) (codes "let") 6 ((s.nil 10) ∷ (s.send 15 33 (s.constant
    (codes "T") 15) (codes "nilable") 17 ((s.constant (codes "Integer") 25) ∷ [])) ∷ [])))
    ∷ (s.make (Node-F.While sense.Negative (s.name (codes "x") 42) (s.body 45 61 ((s.reveal 45 61 (s.name (codes "x") 59)) ∷ [])) (at 36
    66)))
    ∷ (s.reveal 68 84 (s.name (codes "x") 82)) ∷ [])

-- `(e)` with one expression is as e
-- `x = T.let(nil, T.nilable(Integer)); if (x); T.reveal_type(x); end`
abbrev pub BRACKETS : Program
BRACKETS N P s =
    s.body 0 65
    ((s.assign 0 34 (s.name (codes "x") 0) (s.send 4 34 (s.constant (codes "T") 4) (codes "let") 6 ((s.nil 10) ∷ (s.send 15 33 (s.constant
    (codes "T") 15) (codes "nilable") 17 ((s.constant (codes "Integer") 25) ∷ [])) ∷ [])))
    ∷ (s.make (Node-F.If sense.Positive (s.parens 39 42 (s.body 40 41 ((s.name (codes "x") 40) ∷ []))) (s.body 44 60 ((s.reveal 44 60
    (s.name (codes "x") 58)) ∷ [])) [] None (at 36 65))) ∷ [])

-- `x = e` narrows x
-- `y = T.let(nil, T.nilable(String)); if x = y; T.reveal_type(x); T.reveal_type(y); else; T.reveal_type(x); end`
abbrev pub ASSIGNED : Program
ASSIGNED N P s =
    s.body 0 108
    ((s.assign 0 33 (s.name (codes "y") 0) (s.send 4 33 (s.constant (codes "T") 4) (codes "let") 6 ((s.nil 10) ∷ (s.send 15 32 (s.constant
    (codes "T") 15) (codes "nilable") 17 ((s.constant (codes "String") 25) ∷ [])) ∷ [])))
    ∷ (s.make (Node-F.If sense.Positive (s.assign 38 43 (s.name (codes "x") 38) (s.name (codes "y") 42)) (s.body 45 79 ((s.reveal 45 61
    (s.name (codes "x") 59)) ∷ (s.reveal 63 79 (s.name (codes "y") 77)) ∷ [])) [] (Some (s.body 87 103 ((s.reveal 87 103 (s.name (codes
    "x") 101)) ∷ []))) (at 35 108))) ∷ [])

-- so does `x op= e`
-- `x = T.let(nil, T.nilable(Integer)); y = T.let(nil, T.nilable(String)); if x ||= y; T.reveal_type(x); else; T.reveal_type(x); end`
abbrev pub OPERATOR_ASSIGNED : Program
OPERATOR_ASSIGNED N P s =
    s.body 0 128
    ((s.assign 0 34 (s.name (codes "x") 0) (s.send 4 34 (s.constant (codes "T") 4) (codes "let") 6 ((s.nil 10) ∷ (s.send 15 33 (s.constant
    (codes "T") 15) (codes "nilable") 17 ((s.constant (codes "Integer") 25) ∷ [])) ∷ [])))
    ∷ (s.assign 36 69 (s.name (codes "y") 36) (s.send 40 69 (s.constant (codes "T") 40) (codes "let") 42 ((s.nil 46) ∷ (s.send 51 68
    (s.constant (codes "T") 51) (codes "nilable") 53 ((s.constant (codes "String") 61) ∷ [])) ∷ [])))
    ∷ (s.make (Node-F.If sense.Positive (s.make (Node-F.OperatorAssign (s.name (codes "x") 74) binary.Or (at 76 79) (s.name (codes "y")
    80) (at 74 81))) (s.body 83 99 ((s.reveal 83 99 (s.name (codes "x") 97)) ∷ [])) [] (Some (s.body 107 123 ((s.reveal 107 123 (s.name
    (codes "x") 121)) ∷ []))) (at 71 128))) ∷ [])

abbrev pub VariablesAreNarrowed : Type 0
VariablesAreNarrowed =
    (Reports VARIABLE (error (at 42 58) 7014 (codes "type is Integer") ∷ error (at 66 82) 7014 (codes "type is NilClass") ∷ []))
    × (Reports NEGATED (error (at 43 59) 7014 (codes "type is NilClass") ∷ error (at 67 83) 7014 (codes "type is Integer") ∷ []))
    × (Reports UNLESS (error (at 46 62) 7014 (codes "type is NilClass") ∷ error (at 70 86) 7014 (codes "type is Integer") ∷ []))
    × (Reports UNTIL (error (at 45 61) 7014 (codes "type is NilClass") ∷ error (at 68 84) 7014 (codes "type is Integer") ∷ []))
    × (Reports BRACKETS (error (at 44 60) 7014 (codes "type is Integer") ∷ []))
    × (Reports ASSIGNED (error (at 45 61) 7014 (codes "type is String") ∷ error (at 63 79) 7014 (codes "type is T.nilable(String)") ∷
    error (at 87 103) 7014 (codes "type is NilClass") ∷ []))
    × (Reports OPERATOR_ASSIGNED (error (at 83 99) 7014 (codes "type is T.any(Integer, String)") ∷ error (at 107 123) 7014 (codes
    "type is NilClass") ∷ []))

-- ---- `&&` and `||`

-- truth of b after truth of a; the join of both falsehoods
-- `x = T.let(nil, T.nilable(Integer)); y = T.let(nil, T.nilable(String)); if x && y; T.reveal_type(x); T.reveal_type(y); else; T.reveal_type(x); T.reveal_type(y); end`
abbrev pub BOTH_HOLD : Program
BOTH_HOLD N P s =
    s.body 0 163
    ((s.assign 0 34 (s.name (codes "x") 0) (s.send 4 34 (s.constant (codes "T") 4) (codes "let") 6 ((s.nil 10) ∷ (s.send 15 33 (s.constant
    (codes "T") 15) (codes "nilable") 17 ((s.constant (codes "Integer") 25) ∷ [])) ∷ [])))
    ∷ (s.assign 36 69 (s.name (codes "y") 36) (s.send 40 69 (s.constant (codes "T") 40) (codes "let") 42 ((s.nil 46) ∷ (s.send 51 68
    (s.constant (codes "T") 51) (codes "nilable") 53 ((s.constant (codes "String") 61) ∷ [])) ∷ [])))
    ∷ (s.make (Node-F.If sense.Positive (s.binary 74 80 (s.name (codes "x") 74) binary.And (at 76 78) (s.name (codes "y") 79)) (s.body 82
    116 ((s.reveal 82 98 (s.name (codes "x") 96)) ∷ (s.reveal 100 116 (s.name (codes "y") 114)) ∷ [])) [] (Some (s.body 124 158 ((s.reveal
    124 140 (s.name (codes "x") 138)) ∷ (s.reveal 142 158 (s.name (codes "y") 156)) ∷ []))) (at 71 163))) ∷ [])

-- the join of both truths; falsehood of b after falsehood of a
-- `x = T.let(nil, T.nilable(Integer)); y = T.let(nil, T.nilable(String)); if x || y; T.reveal_type(x); T.reveal_type(y); else; T.reveal_type(x); T.reveal_type(y); end`
abbrev pub ONE_HOLDS : Program
ONE_HOLDS N P s =
    s.body 0 163
    ((s.assign 0 34 (s.name (codes "x") 0) (s.send 4 34 (s.constant (codes "T") 4) (codes "let") 6 ((s.nil 10) ∷ (s.send 15 33 (s.constant
    (codes "T") 15) (codes "nilable") 17 ((s.constant (codes "Integer") 25) ∷ [])) ∷ [])))
    ∷ (s.assign 36 69 (s.name (codes "y") 36) (s.send 40 69 (s.constant (codes "T") 40) (codes "let") 42 ((s.nil 46) ∷ (s.send 51 68
    (s.constant (codes "T") 51) (codes "nilable") 53 ((s.constant (codes "String") 61) ∷ [])) ∷ [])))
    ∷ (s.make (Node-F.If sense.Positive (s.binary 74 80 (s.name (codes "x") 74) binary.Or (at 76 78) (s.name (codes "y") 79)) (s.body 82
    116 ((s.reveal 82 98 (s.name (codes "x") 96)) ∷ (s.reveal 100 116 (s.name (codes "y") 114)) ∷ [])) [] (Some (s.body 124 158 ((s.reveal
    124 140 (s.name (codes "x") 138)) ∷ (s.reveal 142 158 (s.name (codes "y") 156)) ∷ []))) (at 71 163))) ∷ [])

abbrev pub SidesAreJoined : Type 0
SidesAreJoined =
    (Reports BOTH_HOLD (error (at 82 98) 7014 (codes "type is Integer") ∷ error (at 100 116) 7014 (codes "type is String") ∷ error (at 124
    140) 7014 (codes "type is T.nilable(Integer)") ∷ error (at 142 158) 7014 (codes "type is T.nilable(String)") ∷ []))
    × (Reports ONE_HOLDS (error (at 82 98) 7014 (codes "type is T.nilable(Integer)") ∷ error (at 100 116) 7014 (codes
    "type is T.nilable(String)") ∷ error (at 124 140) 7014 (codes "type is NilClass") ∷ error (at 142 158) 7014 (codes "type is NilClass")
    ∷ []))

-- ---- tests for `nil` and for classes

-- `x.nil?`: x meets `NilClass`, or is without it
-- `x = T.let(nil, T.nilable(Integer)); if x.nil?; T.reveal_type(x); else; T.reveal_type(x); end`
abbrev pub IS_NIL : Program
IS_NIL N P s =
    s.body 0 92
    ((s.assign 0 34 (s.name (codes "x") 0) (s.send 4 34 (s.constant (codes "T") 4) (codes "let") 6 ((s.nil 10) ∷ (s.send 15 33 (s.constant
    (codes "T") 15) (codes "nilable") 17 ((s.constant (codes "Integer") 25) ∷ [])) ∷ [])))
    ∷ (s.make (Node-F.If sense.Positive (s.call 39 45 (s.name (codes "x") 39) (codes "nil?") 41) (s.body 47 63 ((s.reveal 47 63 (s.name
    (codes "x") 61)) ∷ [])) [] (Some (s.body 71 87 ((s.reveal 71 87 (s.name (codes "x") 85)) ∷ []))) (at 36 92))) ∷ [])

-- `x == nil` says the same
-- `x = T.let(nil, T.nilable(Integer)); if x == nil; T.reveal_type(x); else; T.reveal_type(x); end`
abbrev pub EQUALS_NIL : Program
EQUALS_NIL N P s =
    s.body 0 94
    ((s.assign 0 34 (s.name (codes "x") 0) (s.send 4 34 (s.constant (codes "T") 4) (codes "let") 6 ((s.nil 10) ∷ (s.send 15 33 (s.constant
    (codes "T") 15) (codes "nilable") 17 ((s.constant (codes "Integer") 25) ∷ [])) ∷ [])))
    ∷ (s.make (Node-F.If sense.Positive (s.binary 39 47 (s.name (codes "x") 39) binary.Equal (at 41 43) (s.nil 44)) (s.body 49 65
    ((s.reveal 49 65 (s.name (codes "x") 63)) ∷ [])) [] (Some (s.body 73 89 ((s.reveal 73 89 (s.name (codes "x") 87)) ∷ []))) (at 36 94))) ∷ [])

-- `!=` exchanged
-- `x = T.let(nil, T.nilable(Integer)); if x != nil; T.reveal_type(x); else; T.reveal_type(x); end`
abbrev pub DIFFERS_FROM_NIL : Program
DIFFERS_FROM_NIL N P s =
    s.body 0 94
    ((s.assign 0 34 (s.name (codes "x") 0) (s.send 4 34 (s.constant (codes "T") 4) (codes "let") 6 ((s.nil 10) ∷ (s.send 15 33 (s.constant
    (codes "T") 15) (codes "nilable") 17 ((s.constant (codes "Integer") 25) ∷ [])) ∷ [])))
    ∷ (s.make (Node-F.If sense.Positive (s.binary 39 47 (s.name (codes "x") 39) binary.NotEqual (at 41 43) (s.nil 44)) (s.body 49 65
    ((s.reveal 49 65 (s.name (codes "x") 63)) ∷ [])) [] (Some (s.body 73 89 ((s.reveal 73 89 (s.name (codes "x") 87)) ∷ []))) (at 36 94))) ∷ [])

-- `x.is_a?(C)`: x meets C, or is without C
-- `x = T.let(nil, T.nilable(Integer)); if x.is_a?(Integer); T.reveal_type(x); else; T.reveal_type(x); end`
abbrev pub IS_A : Program
IS_A N P s =
    s.body 0 102
    ((s.assign 0 34 (s.name (codes "x") 0) (s.send 4 34 (s.constant (codes "T") 4) (codes "let") 6 ((s.nil 10) ∷ (s.send 15 33 (s.constant
    (codes "T") 15) (codes "nilable") 17 ((s.constant (codes "Integer") 25) ∷ [])) ∷ [])))
    ∷ (s.make (Node-F.If sense.Positive (s.send 39 55 (s.name (codes "x") 39) (codes "is_a?") 41 ((s.constant (codes "Integer") 47) ∷ []))
    (s.body 57 73 ((s.reveal 57 73 (s.name (codes "x") 71)) ∷ [])) [] (Some (s.body 81 97 ((s.reveal 81 97 (s.name (codes "x") 95)) ∷
    []))) (at 36 102))) ∷ [])

-- `x.kind_of?(C)` is the same, also without brackets
-- `x = T.let(nil, T.nilable(Integer)); if x.kind_of? Integer; T.reveal_type(x); else; T.reveal_type(x); end`
abbrev pub KIND_OF : Program
KIND_OF N P s =
    s.body 0 104
    ((s.assign 0 34 (s.name (codes "x") 0) (s.send 4 34 (s.constant (codes "T") 4) (codes "let") 6 ((s.nil 10) ∷ (s.send 15 33 (s.constant
    (codes "T") 15) (codes "nilable") 17 ((s.constant (codes "Integer") 25) ∷ [])) ∷ [])))
    ∷ (s.make (Node-F.If sense.Positive (s.make (Node-F.Command (s.call 39 49 (s.name (codes "x") 39) (codes "kind_of?") 41)
    ((argument.Positional (s.constant (codes "Integer") 50)) ∷ []) None (at 39 57))) (s.body 59 75 ((s.reveal 59 75 (s.name (codes "x")
    73)) ∷ [])) [] (Some (s.body 83 99 ((s.reveal 83 99 (s.name (codes "x") 97)) ∷ []))) (at 36 104))) ∷ [])

-- and `C === x`
-- `x = T.let(nil, T.nilable(Integer)); if Integer === x; T.reveal_type(x); else; T.reveal_type(x); end`
abbrev pub CASE_EQUAL : Program
CASE_EQUAL N P s =
    s.body 0 99
    ((s.assign 0 34 (s.name (codes "x") 0) (s.send 4 34 (s.constant (codes "T") 4) (codes "let") 6 ((s.nil 10) ∷ (s.send 15 33 (s.constant
    (codes "T") 15) (codes "nilable") 17 ((s.constant (codes "Integer") 25) ∷ [])) ∷ [])))
    ∷ (s.make (Node-F.If sense.Positive (s.binary 39 52 (s.constant (codes "Integer") 39) binary.CaseEqual (at 47 50) (s.name (codes "x")
    51)) (s.body 54 70 ((s.reveal 54 70 (s.name (codes "x") 68)) ∷ [])) [] (Some (s.body 78 94 ((s.reveal 78 94 (s.name (codes "x") 92)) ∷
    []))) (at 36 99))) ∷ [])

-- `Array` stands for `T::Array[T.untyped]`
-- `x = u; if x.is_a?(Array); T.reveal_type(x); else; T.reveal_type(x); end`
abbrev pub IS_ARRAY : Program
IS_ARRAY N P s =
    s.body 0 71
    ((s.assign 0 5 (s.name (codes "x") 0) (s.name (codes "u") 4))
    ∷ (s.make (Node-F.If sense.Positive (s.send 10 24 (s.name (codes "x") 10) (codes "is_a?") 12 ((s.constant (codes "Array") 18) ∷ []))
    (s.body 26 42 ((s.reveal 26 42 (s.name (codes "x") 40)) ∷ [])) [] (Some (s.body 50 66 ((s.reveal 50 66 (s.name (codes "x") 64)) ∷
    []))) (at 7 71))) ∷ [])

-- a constant that is no class or module narrows nothing
-- `x = T.let(nil, T.nilable(Integer)); if x.is_a?(V); T.reveal_type(x); end`
abbrev pub VALUE_CONSTANT : Program
VALUE_CONSTANT N P s =
    s.body 0 72
    ((s.assign 0 34 (s.name (codes "x") 0) (s.send 4 34 (s.constant (codes "T") 4) (codes "let") 6 ((s.nil 10) ∷ (s.send 15 33 (s.constant
    (codes "T") 15) (codes "nilable") 17 ((s.constant (codes "Integer") 25) ∷ [])) ∷ [])))
    ∷ (s.make (Node-F.If sense.Positive (s.send 39 49 (s.name (codes "x") 39) (codes "is_a?") 41 ((s.constant (codes "V") 47) ∷ []))
    (s.body 51 67 ((s.reveal 51 67 (s.name (codes "x") 65)) ∷ [])) [] None (at 36 72))) ∷ [])

-- narrowing calls are judged as calls too
-- `x = u; if x.nil?; end`
abbrev pub TEST_IS_A_CALL : Program
TEST_IS_A_CALL N P s =
    s.body 0 21
    ((s.assign 0 5 (s.name (codes "x") 0) (s.name (codes "u") 4))
    ∷ (s.make (Node-F.If sense.Positive (s.call 10 16 (s.name (codes "x") 10) (codes "nil?") 12) (s.body 0 0 []) [] None (at 7 21))) ∷ [])

abbrev pub TestsNarrow : Type 0
TestsNarrow =
    (Reports IS_NIL (error (at 47 63) 7014 (codes "type is NilClass") ∷ error (at 71 87) 7014 (codes "type is Integer") ∷ []))
    × (Reports EQUALS_NIL (error (at 49 65) 7014 (codes "type is NilClass") ∷ error (at 73 89) 7014 (codes "type is Integer") ∷ []))
    × (Reports DIFFERS_FROM_NIL (error (at 49 65) 7014 (codes "type is Integer") ∷ error (at 73 89) 7014 (codes "type is NilClass") ∷ []))
    × (Reports IS_A (error (at 57 73) 7014 (codes "type is Integer") ∷ error (at 81 97) 7014 (codes "type is NilClass") ∷ []))
    × (Reports KIND_OF (error (at 59 75) 7014 (codes "type is Integer") ∷ error (at 83 99) 7014 (codes "type is NilClass") ∷ []))
    × (Reports CASE_EQUAL (error (at 54 70) 7014 (codes "type is Integer") ∷ error (at 78 94) 7014 (codes "type is NilClass") ∷ []))
    × (Reports IS_ARRAY (error (at 12 17) 7018 (codes "call of is_a? on an untyped receiver") ∷ error (at 26 42) 7014 (codes
    "type is T::Array[T.untyped]") ∷ error (at 50 66) 7014 (codes "type is T.untyped") ∷ []))
    × (Reports VALUE_CONSTANT (error (at 51 67) 7014 (codes "type is T.nilable(Integer)") ∷ []))
    × (Reports TEST_IS_A_CALL (error (at 12 16) 7018 (codes "call of nil? on an untyped receiver") ∷ []))

-- ---- sides that are dead

-- a narrowed variable has `T.noreturn`
-- `x = 1; if x; T.reveal_type(x); else; 2; end`
abbrev pub NEVER_FALSY : Program
NEVER_FALSY N P s =
    s.body 0 43
    ((s.assign 0 5 (s.name (codes "x") 0) (s.whole (codes "1") 4))
    ∷ (s.make (Node-F.If sense.Positive (s.name (codes "x") 10) (s.body 13 29 ((s.reveal 13 29 (s.name (codes "x") 27)) ∷ [])) [] (Some
    (s.body 37 38 ((s.whole (codes "2") 37) ∷ []))) (at 7 43))) ∷ [])

-- `x = 1; if x.is_a?(String); 2; else; T.reveal_type(x); end`
abbrev pub NEVER_A_STRING : Program
NEVER_A_STRING N P s =
    s.body 0 57
    ((s.assign 0 5 (s.name (codes "x") 0) (s.whole (codes "1") 4))
    ∷ (s.make (Node-F.If sense.Positive (s.send 10 25 (s.name (codes "x") 10) (codes "is_a?") 12 ((s.constant (codes "String") 18) ∷ []))
    (s.body 27 28 ((s.whole (codes "2") 27) ∷ [])) [] (Some (s.body 36 52 ((s.reveal 36 52 (s.name (codes "x") 50)) ∷ []))) (at 7 57))) ∷ [])

-- the type of the condition excludes the side
-- `if nil; 1; else; 2; end`
abbrev pub NEVER_TRUTHY : Program
NEVER_TRUTHY N P s =
    s.body 0 23
    ((s.make (Node-F.If sense.Positive (s.nil 3) (s.body 8 9 ((s.whole (codes "1") 8) ∷ [])) [] (Some (s.body 17 18 ((s.whole (codes "2")
    17) ∷ []))) (at 0 23))) ∷ [])

-- an `elsif` is no expression: the place is its condition
-- `if true; 1; elsif c; 2; end`
abbrev pub ELSIF_PLACE : Program
ELSIF_PLACE N P s =
    s.body 0 27
    ((s.make (Node-F.If sense.Positive (s.make (Node-F.True (at 3 7))) (s.body 9 10 ((s.whole (codes "1") 9) ∷ [])) (record {
      condition =
          (s.name (codes "c") 18);
      body = (s.body 21 22 ((s.whole (codes "2") 21) ∷ []));
    } ∷ []) None (at 0 27))) ∷ [])

abbrev pub SidesAreDead : Type 0
SidesAreDead =
    (Reports NEVER_FALSY (error (at 13 29) 7014 (codes "type is Integer") ∷ error (at 37 38) 7006 (codes "unreachable code") ∷ []))
    × (Reports NEVER_A_STRING (error (at 27 28) 7006 (codes "unreachable code") ∷ error (at 36 52) 7014 (codes "type is Integer") ∷ []))
    × (Reports NEVER_TRUTHY (error (at 8 9) 7006 (codes "unreachable code") ∷ []))
    × (Reports ELSIF_PLACE (error (at 18 19) 7006 (codes "unreachable code") ∷ []))
