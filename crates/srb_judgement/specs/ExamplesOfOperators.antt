-- Programs whose errors tell how operators and assignments with one are judged.
use Rattle.std.specs.Prelude.{false, [], ◌∷◌, codes, Some, None}
use Rattle.rb_tree.specs.declared.syntax.Argument.TheVariants as argument
use Rattle.rb_tree.specs.declared.syntax.Binary.TheVariants as binary
use Rattle.rb_tree.specs.declared.syntax.Dot.TheVariants as dot
use Rattle.rb_tree.specs.declared.syntax.Jump.TheVariants as jump
use Rattle.rb_tree.specs.declared.syntax.Suffix.TheVariants as suffix
use Rattle.rb_tree.specs.declared.syntax.Test.TheVariants as sense
use Rattle.rb_tree.specs.declared.syntax.Unary.TheVariants as unary
use Rattle.rb_tree.specs.declared.syntax.Node.TheOpen.{Node-F}
use Rattle.srb_judgement.specs.ExampleTrees.{Program, Reports, at}
use Rattle.srb_judgement.specs.Errors.{error}

-- ---- operators that are calls

-- the place of a method name is the operator
-- `nil + 1; 1 + "a"`
abbrev pub SUM : Program
SUM N P s =
    s.body 0 16
    ((s.binary 0 7 (s.nil 0) binary.Plus (at 4 5) (s.whole (codes "1") 6))
    ∷ (s.binary 9 16 (s.whole (codes "1") 9) binary.Plus (at 11 12) (s.text (codes "a") 13)) ∷ [])

-- `-` in front calls `-@`
-- `x = "a"; -x; T.reveal_type(-x.length)`
abbrev pub MINUS : Program
MINUS N P s =
    s.body 0 37
    ((s.assign 0 7 (s.name (codes "x") 0) (s.text (codes "a") 4))
    ∷ (s.make (Node-F.Unary unary.Minus (s.name (codes "x") 10) (at 9 11)))
    ∷ (s.reveal 13 37 (s.make (Node-F.Unary unary.Minus (s.call 28 36 (s.name (codes "x") 28) (codes "length") 30) (at 27 36)))) ∷ [])

-- `a != b` is judged as `a == b`
-- `u != 1; T.reveal_type(1 != 2)`
abbrev pub DIFFERS : Program
DIFFERS N P s =
    s.body 0 29
    ((s.binary 0 6 (s.name (codes "u") 0) binary.NotEqual (at 2 4) (s.whole (codes "1") 5))
    ∷ (s.reveal 8 29 (s.binary 22 28 (s.whole (codes "1") 22) binary.NotEqual (at 24 26) (s.whole (codes "2") 27))) ∷ [])

-- `!a` is `T::Boolean`
-- `T.reveal_type(!1)`
abbrev pub NOT : Program
NOT N P s =
    s.body 0 17
    ((s.reveal 0 17 (s.make (Node-F.Unary unary.Not (s.whole (codes "1") 15) (at 14 16)))) ∷ [])

abbrev pub OperatorsAreCalls : Type 0
OperatorsAreCalls =
    (Reports SUM (error (at 4 5) 7003 (codes "method + does not exist on NilClass") ∷ error (at 13 16) 7002 (codes
    "argument arg0 of + expects Integer, found String") ∷ []))
    × (Reports MINUS (error (at 9 10) 7003 (codes "method -@ does not exist on String") ∷ error (at 13 37) 7014 (codes "type is Integer")
    ∷ []))
    × (Reports DIFFERS (error (at 2 4) 7018 (codes "call of == on an untyped receiver") ∷ error (at 8 29) 7014 (codes
    "type is T::Boolean") ∷ []))
    × (Reports NOT (error (at 0 17) 7014 (codes "type is T::Boolean") ∷ []))

-- ---- `&&` and `||` as values

-- `a && b` has `T.any(falsy(a), b)`
-- `x = T.let(nil, T.nilable(Integer)); T.reveal_type(x && "a")`
abbrev pub AND_TYPE : Program
AND_TYPE N P s =
    s.body 0 59
    ((s.assign 0 34 (s.name (codes "x") 0) (s.send 4 34 (s.constant (codes "T") 4) (codes "let") 6 ((s.nil 10) ∷ (s.send 15 33 (s.constant
    (codes "T") 15) (codes "nilable") 17 ((s.constant (codes "Integer") 25) ∷ [])) ∷ [])))
    ∷ (s.reveal 36 59 (s.binary 50 58 (s.name (codes "x") 50) binary.And (at 52 54) (s.text (codes "a") 55))) ∷ [])

-- `a || b` has `T.any(truthy(a), b)`
-- `x = T.let(nil, T.nilable(Integer)); T.reveal_type(x || "a")`
abbrev pub OR_TYPE : Program
OR_TYPE N P s =
    s.body 0 59
    ((s.assign 0 34 (s.name (codes "x") 0) (s.send 4 34 (s.constant (codes "T") 4) (codes "let") 6 ((s.nil 10) ∷ (s.send 15 33 (s.constant
    (codes "T") 15) (codes "nilable") 17 ((s.constant (codes "Integer") 25) ∷ [])) ∷ [])))
    ∷ (s.reveal 36 59 (s.binary 50 58 (s.name (codes "x") 50) binary.Or (at 52 54) (s.text (codes "a") 55))) ∷ [])

-- `y = nil && 1; T.reveal_type(y); z = 1 || "a"; T.reveal_type(z)`
abbrev pub DEAD_SIDE_ADDS_NOTHING : Program
DEAD_SIDE_ADDS_NOTHING N P s =
    s.body 0 62
    ((s.assign 0 12 (s.name (codes "y") 0) (s.binary 4 12 (s.nil 4) binary.And (at 8 10) (s.whole (codes "1") 11)))
    ∷ (s.reveal 14 30 (s.name (codes "y") 28))
    ∷ (s.assign 32 44 (s.name (codes "z") 32) (s.binary 36 44 (s.whole (codes "1") 36) binary.Or (at 38 40) (s.text (codes "a") 41)))
    ∷ (s.reveal 46 62 (s.name (codes "z") 60)) ∷ [])

-- the right side is judged on a side of the left
-- `x = T.let(nil, T.nilable(Integer)); T.reveal_type(x && x + 1); x.nil? || T.reveal_type(x)`
abbrev pub SIDES_NARROW : Program
SIDES_NARROW N P s =
    s.body 0 89
    ((s.assign 0 34 (s.name (codes "x") 0) (s.send 4 34 (s.constant (codes "T") 4) (codes "let") 6 ((s.nil 10) ∷ (s.send 15 33 (s.constant
    (codes "T") 15) (codes "nilable") 17 ((s.constant (codes "Integer") 25) ∷ [])) ∷ [])))
    ∷ (s.reveal 36 61 (s.binary 50 60 (s.name (codes "x") 50) binary.And (at 52 54) (s.binary 55 60 (s.name (codes "x") 55) binary.Plus
    (at 57 58) (s.whole (codes "1") 59))))
    ∷ (s.binary 63 89 (s.call 63 69 (s.name (codes "x") 63) (codes "nil?") 65) binary.Or (at 70 72) (s.reveal 73 89 (s.name (codes "x")
    87))) ∷ [])

-- after it the side that ended adds nothing
-- `x = T.let(nil, T.nilable(Integer)); x || (return); T.reveal_type(x)`
abbrev pub JUMP_AFTER_OR : Program
JUMP_AFTER_OR N P s =
    s.body 0 67
    ((s.assign 0 34 (s.name (codes "x") 0) (s.send 4 34 (s.constant (codes "T") 4) (codes "let") 6 ((s.nil 10) ∷ (s.send 15 33 (s.constant
    (codes "T") 15) (codes "nilable") 17 ((s.constant (codes "Integer") 25) ∷ [])) ∷ [])))
    ∷ (s.binary 36 49 (s.name (codes "x") 36) binary.Or (at 38 40) (s.parens 41 49 (s.body 42 48 ((s.make (Node-F.Jump jump.Return None
    (at 42 48))) ∷ []))))
    ∷ (s.reveal 51 67 (s.name (codes "x") 65)) ∷ [])

abbrev pub BothSidesHaveTypes : Type 0
BothSidesHaveTypes =
    (Reports AND_TYPE (error (at 36 59) 7014 (codes "type is T.nilable(String)") ∷ []))
    × (Reports OR_TYPE (error (at 36 59) 7014 (codes "type is T.any(Integer, String)") ∷ []))
    × (Reports DEAD_SIDE_ADDS_NOTHING (error (at 11 12) 7006 (codes "unreachable code") ∷ error (at 14 30) 7014 (codes "type is NilClass")
    ∷ error (at 41 44) 7006 (codes "unreachable code") ∷ error (at 46 62) 7014 (codes "type is Integer") ∷ []))
    × (Reports SIDES_NARROW (error (at 36 61) 7014 (codes "type is T.nilable(Integer)") ∷ error (at 73 89) 7014 (codes "type is Integer")
    ∷ []))
    × (Reports JUMP_AFTER_OR (error (at 51 67) 7014 (codes "type is Integer") ∷ []))

-- ---- assignments with an operator

-- `x += e` is `x = x + e`
-- `x = 1; x += "a"; y += 1`
abbrev pub PLUS_ASSIGNED : Program
PLUS_ASSIGNED N P s =
    s.body 0 23
    ((s.assign 0 5 (s.name (codes "x") 0) (s.whole (codes "1") 4))
    ∷ (s.make (Node-F.OperatorAssign (s.name (codes "x") 7) binary.Plus (at 9 11) (s.text (codes "a") 12) (at 7 15)))
    ∷ (s.make (Node-F.OperatorAssign (s.name (codes "y") 17) binary.Plus (at 19 21) (s.whole (codes "1") 22) (at 17 23))) ∷ [])

-- `x ||= e` is `x = x || e`
-- `x = T.let(nil, T.nilable(Integer)); x ||= "a"; T.reveal_type(x)`
abbrev pub OR_ASSIGNED : Program
OR_ASSIGNED N P s =
    s.body 0 63
    ((s.assign 0 34 (s.name (codes "x") 0) (s.send 4 34 (s.constant (codes "T") 4) (codes "let") 6 ((s.nil 10) ∷ (s.send 15 33 (s.constant
    (codes "T") 15) (codes "nilable") 17 ((s.constant (codes "Integer") 25) ∷ [])) ∷ [])))
    ∷ (s.make (Node-F.OperatorAssign (s.name (codes "x") 36) binary.Or (at 38 41) (s.text (codes "a") 42) (at 36 45)))
    ∷ (s.reveal 47 63 (s.name (codes "x") 61)) ∷ [])

-- `x &&= e` is `x = x && e`
-- `x = T.let(nil, T.nilable(Integer)); x &&= "a"; T.reveal_type(x)`
abbrev pub AND_ASSIGNED : Program
AND_ASSIGNED N P s =
    s.body 0 63
    ((s.assign 0 34 (s.name (codes "x") 0) (s.send 4 34 (s.constant (codes "T") 4) (codes "let") 6 ((s.nil 10) ∷ (s.send 15 33 (s.constant
    (codes "T") 15) (codes "nilable") 17 ((s.constant (codes "Integer") 25) ∷ [])) ∷ [])))
    ∷ (s.make (Node-F.OperatorAssign (s.name (codes "x") 36) binary.And (at 38 41) (s.text (codes "a") 42) (at 36 45)))
    ∷ (s.reveal 47 63 (s.name (codes "x") 61)) ∷ [])

-- `t op e` has the place of the whole statement
-- `x = nil; while c; x ||= 1; end`
abbrev pub WHOLE_STATEMENT : Program
WHOLE_STATEMENT N P s =
    s.body 0 30
    ((s.assign 0 7 (s.name (codes "x") 0) (s.nil 4))
    ∷ (s.make (Node-F.While sense.Positive (s.name (codes "c") 15) (s.body 18 25 ((s.make (Node-F.OperatorAssign (s.name (codes "x") 18)
    binary.Or (at 20 23) (s.whole (codes "1") 24) (at 18 25))) ∷ [])) (at 9 30))) ∷ [])

-- an assignment with an operator reads the variable
-- `class A; def f; @y ||= 1; end; end`
abbrev pub IVAR_READ : Program
IVAR_READ N P s =
    s.body 0 34
    ((s.make (Node-F.Class (record { name = codes "A"; span = at 6 7 } ∷ []) None (s.body 9 29 ((s.make (Node-F.Def None false (codes "f")
    (at 13 14) [] (record {
      body = (s.body 16 24 ((s.make (Node-F.OperatorAssign (s.ivar (codes "y") 16) binary.Or (at 19 22) (s.whole
          (codes "1") 23) (at 16 24))) ∷ []));
      rescues = [];
      otherwise = None;
      ensure = None;
    }) (at 9 29))) ∷ [])) (at 0 34))) ∷ [])

-- what is read, and what is written
-- `a = A.new; a.b += 1; a[1] += "a"`
abbrev pub READ_AND_WRITTEN : Program
READ_AND_WRITTEN N P s =
    s.body 0 32
    ((s.assign 0 9 (s.name (codes "a") 0) (s.call 4 9 (s.constant (codes "A") 4) (codes "new") 6))
    ∷ (s.make (Node-F.OperatorAssign (s.call 11 14 (s.name (codes "a") 11) (codes "b") 13) binary.Plus (at 15 17) (s.whole (codes "1") 18)
    (at 11 19)))
    ∷ (s.make (Node-F.OperatorAssign (s.make (Node-F.Post (s.name (codes "a") 21) (suffix.Index ((argument.Positional (s.whole (codes "1")
    23)) ∷ []) (at 22 25) ∷ []) (at 21 25))) binary.Plus (at 26 28) (s.text (codes "a") 29) (at 21 32))) ∷ [])

abbrev pub OperatorsAssign : Type 0
OperatorsAssign =
    (Reports PLUS_ASSIGNED (error (at 12 15) 7002 (codes "argument arg0 of + expects Integer, found String") ∷ error (at 19 21) 7003
    (codes "method + does not exist on NilClass") ∷ []))
    × (Reports OR_ASSIGNED (error (at 47 63) 7014 (codes "type is T.any(Integer, String)") ∷ []))
    × (Reports AND_ASSIGNED (error (at 47 63) 7014 (codes "type is T.nilable(String)") ∷ []))
    × (Reports WHOLE_STATEMENT (error (at 18 25) 7001 (codes "variable x stays NilClass in a loop or block, found Integer") ∷ []))
    × (Reports IVAR_READ (error (at 13 14) 7017 (codes "method f has no sig") ∷ error (at 16 18) 6002 (codes
    "instance variable @y is not declared") ∷ []))
    × (Reports READ_AND_WRITTEN (error (at 15 17) 7003 (codes "method + does not exist on NilClass") ∷ error (at 29 32) 7002 (codes
    "argument arg0 of + expects Integer, found String") ∷ []))

-- ---- receivers and indexes of assignments with an operator

-- the receiver is judged once
-- `T.reveal_type(A.new).b ||= 1`
abbrev pub RECEIVER_ONCE : Program
RECEIVER_ONCE N P s =
    s.body 0 28
    ((s.make (Node-F.OperatorAssign (s.make (Node-F.Post (s.constant (codes "T") 0) (suffix.Call dot.Plain (codes "reveal_type") (at 2 13)
    (Some ((argument.Positional (s.call 14 19 (s.constant (codes "A") 14) (codes "new") 16)) ∷ [])) None (at 1 20) ∷ suffix.Call dot.Plain
    (codes "b") (at 21 22) None None (at 20 22) ∷ []) (at 0 22))) binary.Or (at 23 26) (s.whole (codes "1") 27) (at 0 28))) ∷ [])

-- so is the index
-- `A.new[T.reveal_type(1)] += 1`
abbrev pub INDEX_ONCE : Program
INDEX_ONCE N P s =
    s.body 0 28
    ((s.make (Node-F.OperatorAssign (s.make (Node-F.Post (s.constant (codes "A") 0) (suffix.Call dot.Plain (codes "new") (at 2 5) None
    None (at 1 5) ∷ suffix.Index ((argument.Positional (s.reveal 6 22 (s.whole (codes "1") 20))) ∷ []) (at 5 23) ∷ []) (at 0 23)))
    binary.Plus (at 24 26) (s.whole (codes "1") 27) (at 0 28))) ∷ [])

abbrev pub ReceiversAreJudgedOnce : Type 0
ReceiversAreJudgedOnce =
    (Reports RECEIVER_ONCE (error (at 0 20) 7014 (codes "type is A") ∷ []))
    × (Reports INDEX_ONCE (error (at 6 22) 7014 (codes "type is Integer") ∷ []))

-- ---- assignments to attributes and elements

-- `a.b = e` is a call of `b=`, and has e's type
-- `a = A.new; T.reveal_type(a.b); x = (a.b = "a"); T.reveal_type(x)`
abbrev pub ATTRIBUTE_WRITTEN : Program
ATTRIBUTE_WRITTEN N P s =
    s.body 0 64
    ((s.assign 0 9 (s.name (codes "a") 0) (s.call 4 9 (s.constant (codes "A") 4) (codes "new") 6))
    ∷ (s.reveal 11 29 (s.call 25 28 (s.name (codes "a") 25) (codes "b") 27))
    ∷ (s.assign 31 46 (s.name (codes "x") 31) (s.parens 35 46 (s.body 36 45 ((s.assign 36 45 (s.call 36 39 (s.name (codes "a") 36) (codes
    "b") 38) (s.text (codes "a") 42)) ∷ []))))
    ∷ (s.reveal 48 64 (s.name (codes "x") 62)) ∷ [])

-- `a[i] = e` is a call of `[]=` at the `[`
-- `a = A.new; a["a"] = 1; nil[1] = 2`
abbrev pub ELEMENT_WRITTEN : Program
ELEMENT_WRITTEN N P s =
    s.body 0 33
    ((s.assign 0 9 (s.name (codes "a") 0) (s.call 4 9 (s.constant (codes "A") 4) (codes "new") 6))
    ∷ (s.assign 11 21 (s.make (Node-F.Post (s.name (codes "a") 11) (suffix.Index ((argument.Positional (s.text (codes "a") 13)) ∷ []) (at
    12 17) ∷ []) (at 11 17))) (s.whole (codes "1") 20))
    ∷ (s.assign 23 33 (s.make (Node-F.Post (s.nil 23) (suffix.Index ((argument.Positional (s.whole (codes "1") 27)) ∷ []) (at 26 29) ∷ [])
    (at 23 29))) (s.whole (codes "2") 32)) ∷ [])

-- `C = e` judges e
-- `C = int("a")`
abbrev pub CONSTANT_ASSIGNED : Program
CONSTANT_ASSIGNED N P s =
    s.body 0 12
    ((s.assign 0 12 (s.constant (codes "C") 0) (s.own 4 12 (codes "int") ((s.text (codes "a") 8) ∷ []))) ∷ [])

-- `x = e` has e's type
-- `T.reveal_type((x = 1)); T.reveal_type(x)`
abbrev pub ASSIGNMENT_TYPE : Program
ASSIGNMENT_TYPE N P s =
    s.body 0 40
    ((s.reveal 0 22 (s.parens 14 21 (s.body 15 20 ((s.assign 15 20 (s.name (codes "x") 15) (s.whole (codes "1") 19)) ∷ []))))
    ∷ (s.reveal 24 40 (s.name (codes "x") 38)) ∷ [])

abbrev pub WritersAreCalls : Type 0
WritersAreCalls =
    (Reports ATTRIBUTE_WRITTEN (error (at 11 29) 7014 (codes "type is T.nilable(Integer)") ∷ error (at 42 45) 7002 (codes
    "argument arg0 of b= expects Integer, found String") ∷ error (at 48 64) 7014 (codes "type is String") ∷ []))
    × (Reports ELEMENT_WRITTEN (error (at 13 16) 7002 (codes "argument arg0 of []= expects Integer, found String") ∷ error (at 26 27) 7003
    (codes "method []= does not exist on NilClass") ∷ []))
    × (Reports CONSTANT_ASSIGNED (error (at 8 11) 7002 (codes "argument arg0 of int expects Integer, found String") ∷ []))
    × (Reports ASSIGNMENT_TYPE (error (at 0 22) 7014 (codes "type is Integer") ∷ error (at 24 40) 7014 (codes "type is Integer") ∷ []))
