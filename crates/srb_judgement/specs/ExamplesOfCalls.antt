-- Programs whose errors tell how calls, assertions and safe navigation are judged.
use Rattle.std.specs.Prelude.{[], ◌∷◌, codes, Some, None}
use Rattle.rb_tree.specs.declared.syntax.Argument.TheVariants as argument
use Rattle.rb_tree.specs.declared.syntax.Binary.TheVariants as binary
use Rattle.rb_tree.specs.declared.syntax.Dot.TheVariants as dot
use Rattle.rb_tree.specs.declared.syntax.Suffix.TheVariants as suffix
use Rattle.rb_tree.specs.declared.syntax.Node.TheOpen.{Node-F}
use Rattle.srb_judgement.specs.ExampleTrees.{Program, Reports, at}
use Rattle.srb_judgement.specs.Errors.{error}

-- ---- calls

-- receiver, and arguments from left to right
-- `int((x = 1)) + (T.reveal_type(x))`
abbrev pub LEFT_TO_RIGHT : Program
LEFT_TO_RIGHT N P s =
    s.body 0 33
    ((s.binary 0 33 (s.own 0 12 (codes "int") ((s.parens 4 11 (s.body 5 10 ((s.assign 5 10 (s.name (codes "x") 5) (s.whole (codes "1") 9))
    ∷ []))) ∷ [])) binary.Plus (at 13 14) (s.parens 15 33 (s.body 16 32 ((s.reveal 16 32 (s.name (codes "x") 30)) ∷ [])))) ∷ [])

-- a name that is no variable is a call on `self`
-- `foo; foo = 1; T.reveal_type(foo)`
abbrev pub ON_SELF : Program
ON_SELF N P s =
    s.body 0 32
    ((s.name (codes "foo") 0)
    ∷ (s.assign 5 12 (s.name (codes "foo") 5) (s.whole (codes "1") 11))
    ∷ (s.reveal 14 32 (s.name (codes "foo") 28)) ∷ [])

-- a call on `T.untyped`
-- `x = u; T.reveal_type(x.foo)`
abbrev pub UNTYPED : Program
UNTYPED N P s =
    s.body 0 27
    ((s.assign 0 5 (s.name (codes "x") 0) (s.name (codes "u") 4))
    ∷ (s.reveal 7 27 (s.call 21 26 (s.name (codes "x") 21) (codes "foo") 23)) ∷ [])

-- `T.noreturn` as a receiver gives `T.noreturn`; further arguments are unreachable
-- `raise.foo(1); 2`
abbrev pub NO_RECEIVER : Program
NO_RECEIVER N P s =
    s.body 0 15
    ((s.send 0 12 (s.name (codes "raise") 0) (codes "foo") 6 ((s.whole (codes "1") 10) ∷ []))
    ∷ (s.whole (codes "2") 14) ∷ [])

-- a keyword argument's place is its value
-- `key(k: "a")`
abbrev pub KEYWORD_PLACE : Program
KEYWORD_PLACE N P s =
    s.body 0 11
    ((s.make (Node-F.Call (codes "key") (at 0 3) (Some ((argument.Keyword (codes "k") (at 4 6) (s.text (codes "a") 7)) ∷ [])) None (at 0
    11))) ∷ [])

-- `&e` is judged and not checked
-- `each(&int("a"))`
abbrev pub BLOCK_ARGUMENT : Program
BLOCK_ARGUMENT N P s =
    s.body 0 15
    ((s.make (Node-F.Call (codes "each") (at 0 4) (Some ((argument.Block (at 5 6) (s.own 6 14 (codes "int") ((s.text (codes "a") 10) ∷
    []))) ∷ [])) None (at 0 15))) ∷ [])

-- they judge their arguments and are `T.untyped`
-- `T.reveal_type(yield(int("a"))); T.reveal_type(super)`
abbrev pub YIELD_AND_SUPER : Program
YIELD_AND_SUPER N P s =
    s.body 0 52
    ((s.reveal 0 30 (s.make (Node-F.Yield (Some ((argument.Positional (s.own 20 28 (codes "int") ((s.text (codes "a") 24) ∷ []))) ∷ []))
    (at 14 29))))
    ∷ (s.reveal 32 52 (s.make (Node-F.Super None (at 46 51)))) ∷ [])

abbrev pub CallsAreJudgedInOrder : Type 0
CallsAreJudgedInOrder =
    (Reports LEFT_TO_RIGHT (error (at 16 32) 7014 (codes "type is Integer") ∷ []))
    × (Reports ON_SELF (error (at 0 3) 7003 (codes "method foo does not exist on Object") ∷ error (at 14 32) 7014 (codes
    "type is Integer") ∷ []))
    × (Reports UNTYPED (error (at 23 26) 7018 (codes "call of foo on an untyped receiver") ∷ error (at 7 27) 7014 (codes
    "type is T.untyped") ∷ []))
    × (Reports NO_RECEIVER (error (at 10 11) 7006 (codes "unreachable code") ∷ []))
    × (Reports KEYWORD_PLACE (error (at 7 10) 7002 (codes "argument k of key expects Integer, found String") ∷ []))
    × (Reports BLOCK_ARGUMENT (error (at 10 13) 7002 (codes "argument arg0 of int expects Integer, found String") ∷ []))
    × (Reports YIELD_AND_SUPER (error (at 24 27) 7002 (codes "argument arg0 of int expects Integer, found String") ∷ error (at 0 30) 7014
    (codes "type is T.untyped") ∷ error (at 32 52) 7014 (codes "type is T.untyped") ∷ []))

-- ---- `&.`

-- it calls on what is without `NilClass`, and also has `NilClass` where that was there
-- `x = T.let(nil, T.nilable(String)); T.reveal_type(x&.length); T.reveal_type("a"&.length)`
abbrev pub SAFE_CALL : Program
SAFE_CALL N P s =
    s.body 0 87
    ((s.assign 0 33 (s.name (codes "x") 0) (s.send 4 33 (s.constant (codes "T") 4) (codes "let") 6 ((s.nil 10) ∷ (s.send 15 32 (s.constant
    (codes "T") 15) (codes "nilable") 17 ((s.constant (codes "String") 25) ∷ [])) ∷ [])))
    ∷ (s.reveal 35 59 (s.make (Node-F.Post (s.name (codes "x") 49) (suffix.Call dot.Safe (codes "length") (at 52 58) None None (at 50 58)
    ∷ []) (at 49 58))))
    ∷ (s.reveal 61 87 (s.make (Node-F.Post (s.text (codes "a") 75) (suffix.Call dot.Safe (codes "length") (at 80 86) None None (at 78 86)
    ∷ []) (at 75 86)))) ∷ [])

-- the environment is the join of before and after the arguments
-- `x = T.let(nil, T.nilable(String)); x&.take((y = 1)); T.reveal_type(y)`
abbrev pub SAFE_ARGUMENTS : Program
SAFE_ARGUMENTS N P s =
    s.body 0 69
    ((s.assign 0 33 (s.name (codes "x") 0) (s.send 4 33 (s.constant (codes "T") 4) (codes "let") 6 ((s.nil 10) ∷ (s.send 15 32 (s.constant
    (codes "T") 15) (codes "nilable") 17 ((s.constant (codes "String") 25) ∷ [])) ∷ [])))
    ∷ (s.make (Node-F.Post (s.name (codes "x") 35) (suffix.Call dot.Safe (codes "take") (at 38 42) (Some ((argument.Positional (s.parens
    43 50 (s.body 44 49 ((s.assign 44 49 (s.name (codes "y") 44) (s.whole (codes "1") 48)) ∷ [])))) ∷ [])) None (at 36 51) ∷ []) (at 35
    51)))
    ∷ (s.reveal 53 69 (s.name (codes "y") 67)) ∷ [])

-- where nothing is left no call is judged
-- `T.reveal_type(nil&.foo((y = 1))); T.reveal_type(y)`
abbrev pub NOTHING_LEFT : Program
NOTHING_LEFT N P s =
    s.body 0 50
    ((s.reveal 0 32 (s.make (Node-F.Post (s.nil 14) (suffix.Call dot.Safe (codes "foo") (at 19 22) (Some ((argument.Positional (s.parens
    23 30 (s.body 24 29 ((s.assign 24 29 (s.name (codes "y") 24) (s.whole (codes "1") 28)) ∷ [])))) ∷ [])) None (at 17 31) ∷ []) (at 14
    31))))
    ∷ (s.reveal 34 50 (s.name (codes "y") 48)) ∷ [])

abbrev pub SafeNavigation : Type 0
SafeNavigation =
    (Reports SAFE_CALL (error (at 35 59) 7014 (codes "type is T.nilable(Integer)") ∷ error (at 61 87) 7014 (codes "type is Integer") ∷
    []))
    × (Reports SAFE_ARGUMENTS (error (at 53 69) 7014 (codes "type is T.nilable(Integer)") ∷ []))
    × (Reports NOTHING_LEFT (error (at 0 32) 7014 (codes "type is NilClass") ∷ error (at 34 50) 7014 (codes "type is T.nilable(Integer)")
    ∷ []))

-- ---- forms of `T`

-- `x = T.let("a", Integer); T.reveal_type(x)`
abbrev pub LET : Program
LET N P s =
    s.body 0 41
    ((s.assign 0 23 (s.name (codes "x") 0) (s.send 4 23 (s.constant (codes "T") 4) (codes "let") 6 ((s.text (codes "a") 10) ∷ (s.constant
    (codes "Integer") 15) ∷ [])))
    ∷ (s.reveal 25 41 (s.name (codes "x") 39)) ∷ [])

-- `T.reveal_type(T.cast("a", Integer))`
abbrev pub CAST : Program
CAST N P s =
    s.body 0 35
    ((s.reveal 0 35 (s.send 14 34 (s.constant (codes "T") 14) (codes "cast") 16 ((s.text (codes "a") 21) ∷ (s.constant (codes "Integer")
    26) ∷ []))) ∷ [])

-- a `T.must` of `nil` has no type, and ends the environment
-- `x = T.let(nil, T.nilable(Integer)); T.reveal_type(T.must(x)); T.must(nil); 1`
abbrev pub MUST : Program
MUST N P s =
    s.body 0 76
    ((s.assign 0 34 (s.name (codes "x") 0) (s.send 4 34 (s.constant (codes "T") 4) (codes "let") 6 ((s.nil 10) ∷ (s.send 15 33 (s.constant
    (codes "T") 15) (codes "nilable") 17 ((s.constant (codes "Integer") 25) ∷ [])) ∷ [])))
    ∷ (s.reveal 36 60 (s.send 50 59 (s.constant (codes "T") 50) (codes "must") 52 ((s.name (codes "x") 57) ∷ [])))
    ∷ (s.send 62 73 (s.constant (codes "T") 62) (codes "must") 64 ((s.nil 69) ∷ []))
    ∷ (s.whole (codes "1") 75) ∷ [])

-- `T.reveal_type(T.unsafe(1))`
abbrev pub UNSAFE : Program
UNSAFE N P s =
    s.body 0 26
    ((s.reveal 0 26 (s.send 14 25 (s.constant (codes "T") 14) (codes "unsafe") 16 ((s.whole (codes "1") 23) ∷ []))) ∷ [])

-- its type is e's; a command is the same
-- `x = T.reveal_type(1); T.reveal_type x`
abbrev pub REVEALED : Program
REVEALED N P s =
    s.body 0 37
    ((s.assign 0 20 (s.name (codes "x") 0) (s.reveal 4 20 (s.whole (codes "1") 18)))
    ∷ (s.make (Node-F.Command (s.call 22 35 (s.constant (codes "T") 22) (codes "reveal_type") 24) ((argument.Positional (s.name (codes
    "x") 36)) ∷ []) None (at 22 37))) ∷ [])

-- with other arguments it is a call
-- `T.let(1)`
abbrev pub OTHER_ARGUMENTS : Program
OTHER_ARGUMENTS N P s =
    s.body 0 8
    ((s.send 0 8 (s.constant (codes "T") 0) (codes "let") 2 ((s.whole (codes "1") 6) ∷ [])) ∷ [])

abbrev pub AssertionsHaveTypes : Type 0
AssertionsHaveTypes =
    (Reports LET (error (at 10 13) 7007 (codes "expected Integer, found String") ∷ error (at 25 41) 7014 (codes "type is Integer") ∷ []))
    × (Reports CAST (error (at 0 35) 7014 (codes "type is Integer") ∷ []))
    × (Reports MUST (error (at 36 60) 7014 (codes "type is Integer") ∷ error (at 75 76) 7006 (codes "unreachable code") ∷ []))
    × (Reports UNSAFE (error (at 0 26) 7014 (codes "type is T.untyped") ∷ []))
    × (Reports REVEALED (error (at 4 20) 7014 (codes "type is Integer") ∷ error (at 22 37) 7014 (codes "type is Integer") ∷ []))
    × (Reports OTHER_ARGUMENTS (error (at 2 5) 7003 (codes "method let does not exist on T.class_of(T)") ∷ []))
