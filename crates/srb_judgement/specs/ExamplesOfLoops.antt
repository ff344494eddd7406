-- Programs whose errors tell how variables are pinned in loops and blocks.
use Rattle.std.specs.Prelude.{[], ◌∷◌, codes, Some, None}
use Rattle.rb_tree.specs.declared.syntax.Argument.TheVariants as argument
use Rattle.rb_tree.specs.declared.syntax.Dot.TheVariants as dot
use Rattle.rb_tree.specs.declared.syntax.Jump.TheVariants as jump
use Rattle.rb_tree.specs.declared.syntax.Modifier.TheVariants as modifier
use Rattle.rb_tree.specs.declared.syntax.Suffix.TheVariants as suffix
use Rattle.rb_tree.specs.declared.syntax.Test.TheVariants as sense
use Rattle.rb_tree.specs.declared.syntax.Node.TheOpen.{Node-F}
use Rattle.srb_judgement.specs.ExampleTrees.{Program, Reports, at}
use Rattle.srb_judgement.specs.Errors.{error}

-- ---- pins in loops

-- a type that isn't a subtype of the pinned one is an error
-- `x = nil; while T.unsafe(true); x = 1; end`
abbrev pub STAYS_NIL : Program
STAYS_NIL N P s =
    s.body 0 41
    ((s.assign 0 7 (s.name (codes "x") 0) (s.nil 4))
    ∷ (s.make (Node-F.While sense.Positive (s.send 15 29 (s.constant (codes "T") 15) (codes "unsafe") 17 ((s.make (Node-F.True (at 24
    28))) ∷ [])) (s.body 31 36 ((s.assign 31 36 (s.name (codes "x") 31) (s.whole (codes "1") 35)) ∷ [])) (at 9 41))) ∷ [])

-- a subtype is none
-- `x = T.let(nil, T.nilable(Integer)); while T.unsafe(true); x = 1; T.reveal_type(x); end; T.reveal_type(x)`
abbrev pub WIDE_ENOUGH : Program
WIDE_ENOUGH N P s =
    s.body 0 104
    ((s.assign 0 34 (s.name (codes "x") 0) (s.send 4 34 (s.constant (codes "T") 4) (codes "let") 6 ((s.nil 10) ∷ (s.send 15 33 (s.constant
    (codes "T") 15) (codes "nilable") 17 ((s.constant (codes "Integer") 25) ∷ [])) ∷ [])))
    ∷ (s.make (Node-F.While sense.Positive (s.send 42 56 (s.constant (codes "T") 42) (codes "unsafe") 44 ((s.make (Node-F.True (at 51
    55))) ∷ [])) (s.body 58 81 ((s.assign 58 63 (s.name (codes "x") 58) (s.whole (codes "1") 62)) ∷ (s.reveal 65 81 (s.name (codes "x")
    79)) ∷ [])) (at 36 86)))
    ∷ (s.reveal 88 104 (s.name (codes "x") 102)) ∷ [])

-- the variable gets the pinned type
-- `x = nil; while c; x = 1; T.reveal_type(x); end`
abbrev pub GETS_PINNED_TYPE : Program
GETS_PINNED_TYPE N P s =
    s.body 0 46
    ((s.assign 0 7 (s.name (codes "x") 0) (s.nil 4))
    ∷ (s.make (Node-F.While sense.Positive (s.name (codes "c") 15) (s.body 18 41 ((s.assign 18 23 (s.name (codes "x") 18) (s.whole (codes
    "1") 22)) ∷ (s.reveal 25 41 (s.name (codes "x") 39)) ∷ [])) (at 9 46))) ∷ [])

-- the innermost pin counts
-- `x = T.let(nil, T.nilable(Integer)); while c; if x; while c; x = nil; end; end; end`
abbrev pub INNERMOST_PIN : Program
INNERMOST_PIN N P s =
    s.body 0 82
    ((s.assign 0 34 (s.name (codes "x") 0) (s.send 4 34 (s.constant (codes "T") 4) (codes "let") 6 ((s.nil 10) ∷ (s.send 15 33 (s.constant
    (codes "T") 15) (codes "nilable") 17 ((s.constant (codes "Integer") 25) ∷ [])) ∷ [])))
    ∷ (s.make (Node-F.While sense.Positive (s.name (codes "c") 42) (s.body 45 77 ((s.make (Node-F.If sense.Positive (s.name (codes "x")
    48) (s.body 51 72 ((s.make (Node-F.While sense.Positive (s.name (codes "c") 57) (s.body 60 67 ((s.assign 60 67 (s.name (codes "x") 60)
    (s.nil 64)) ∷ [])) (at 51 72))) ∷ [])) [] None (at 45 77))) ∷ [])) (at 36 82))) ∷ [])

-- a variable that the loop assigns and that wasn't visible is `T.untyped` at its head
-- `while c; y = 1 if c; T.reveal_type(y); end`
abbrev pub NEW_VARIABLE : Program
NEW_VARIABLE N P s =
    s.body 0 42
    ((s.make (Node-F.While sense.Positive (s.name (codes "c") 6) (s.body 9 37 ((s.modified 9 19 (s.assign 9 14 (s.name (codes "y") 9)
    (s.whole (codes "1") 13)) modifier.If (s.name (codes "c") 18)) ∷ (s.reveal 21 37 (s.name (codes "y") 35)) ∷ [])) (at 0 42))) ∷ [])

-- a loop's condition is inside the loop, also for a modifier
-- `x = nil; while (x = 1; c); end; c while (x = 2; c)`
abbrev pub CONDITION_INSIDE : Program
CONDITION_INSIDE N P s =
    s.body 0 50
    ((s.assign 0 7 (s.name (codes "x") 0) (s.nil 4))
    ∷ (s.make (Node-F.While sense.Positive (s.parens 15 25 (s.body 16 24 ((s.assign 16 21 (s.name (codes "x") 16) (s.whole (codes "1")
    20)) ∷ (s.name (codes "c") 23) ∷ []))) (s.body 0 0 []) (at 9 30)))
    ∷ (s.modified 32 50 (s.name (codes "c") 32) modifier.While (s.parens 40 50 (s.body 41 49 ((s.assign 41 46 (s.name (codes "x") 41)
    (s.whole (codes "2") 45)) ∷ (s.name (codes "c") 48) ∷ [])))) ∷ [])

abbrev pub LoopsPinVariables : Type 0
LoopsPinVariables =
    (Reports STAYS_NIL (error (at 35 36) 7001 (codes "variable x stays NilClass in a loop or block, found Integer") ∷ []))
    × (Reports WIDE_ENOUGH (error (at 65 81) 7014 (codes "type is Integer") ∷ error (at 88 104) 7014 (codes "type is T.nilable(Integer)")
    ∷ []))
    × (Reports GETS_PINNED_TYPE (error (at 22 23) 7001 (codes "variable x stays NilClass in a loop or block, found Integer") ∷ error (at
    25 41) 7014 (codes "type is NilClass") ∷ []))
    × (Reports INNERMOST_PIN (error (at 64 67) 7001 (codes "variable x stays Integer in a loop or block, found NilClass") ∷ []))
    × (Reports NEW_VARIABLE (error (at 21 37) 7014 (codes "type is T.untyped") ∷ []))
    × (Reports CONDITION_INSIDE (error (at 20 21) 7001 (codes "variable x stays NilClass in a loop or block, found Integer") ∷ error (at
    45 46) 7001 (codes "variable x stays NilClass in a loop or block, found Integer") ∷ []))

-- ---- types of loops and what is after them

-- `NilClass`, if the falsehood is live, and the `break` types
-- `x = while c; break 1; end; T.reveal_type(x); y = while true; break "a"; end; T.reveal_type(y)`
abbrev pub LOOP_TYPE : Program
LOOP_TYPE N P s =
    s.body 0 93
    ((s.assign 0 25 (s.name (codes "x") 0) (s.make (Node-F.While sense.Positive (s.name (codes "c") 10) (s.body 13 20 ((s.make
    (Node-F.Jump jump.Break (Some (s.whole (codes "1") 19)) (at 13 20))) ∷ [])) (at 4 25))))
    ∷ (s.reveal 27 43 (s.name (codes "x") 41))
    ∷ (s.assign 45 75 (s.name (codes "y") 45) (s.make (Node-F.While sense.Positive (s.make (Node-F.True (at 55 59))) (s.body 61 70
    ((s.make (Node-F.Jump jump.Break (Some (s.text (codes "a") 67)) (at 61 70))) ∷ [])) (at 49 75))))
    ∷ (s.reveal 77 93 (s.name (codes "y") 91)) ∷ [])

-- after it the falsehood is joined with the `break` environments
-- `x = T.let(nil, T.nilable(Integer)); until x; x = 1; break; end; T.reveal_type(x); y = T.let(nil, T.nilable(String)); while true; break if y; end; T.reveal_type(y)`
abbrev pub AFTER_LOOP : Program
AFTER_LOOP N P s =
    s.body 0 162
    ((s.assign 0 34 (s.name (codes "x") 0) (s.send 4 34 (s.constant (codes "T") 4) (codes "let") 6 ((s.nil 10) ∷ (s.send 15 33 (s.constant
    (codes "T") 15) (codes "nilable") 17 ((s.constant (codes "Integer") 25) ∷ [])) ∷ [])))
    ∷ (s.make (Node-F.While sense.Negative (s.name (codes "x") 42) (s.body 45 57 ((s.assign 45 50 (s.name (codes "x") 45) (s.whole (codes
    "1") 49)) ∷ (s.make (Node-F.Jump jump.Break None (at 52 57))) ∷ [])) (at 36 62)))
    ∷ (s.reveal 64 80 (s.name (codes "x") 78))
    ∷ (s.assign 82 115 (s.name (codes "y") 82) (s.send 86 115 (s.constant (codes "T") 86) (codes "let") 88 ((s.nil 92) ∷ (s.send 97 114
    (s.constant (codes "T") 97) (codes "nilable") 99 ((s.constant (codes "String") 107) ∷ [])) ∷ [])))
    ∷ (s.make (Node-F.While sense.Positive (s.make (Node-F.True (at 123 127))) (s.body 129 139 ((s.modified 129 139 (s.make (Node-F.Jump
    jump.Break None (at 129 134))) modifier.If (s.name (codes "y") 138)) ∷ [])) (at 117 144)))
    ∷ (s.reveal 146 162 (s.name (codes "y") 160)) ∷ [])

-- `next` ends its path
-- `while c; next; 1; end`
abbrev pub NEXT_IN_LOOP : Program
NEXT_IN_LOOP N P s =
    s.body 0 21
    ((s.make (Node-F.While sense.Positive (s.name (codes "c") 6) (s.body 9 16 ((s.make (Node-F.Jump jump.Next None (at 9 13))) ∷ (s.whole
    (codes "1") 15) ∷ [])) (at 0 21))) ∷ [])

-- nothing leaves it
-- `while true; 1; end; 2`
abbrev pub ENDLESS : Program
ENDLESS N P s =
    s.body 0 21
    ((s.make (Node-F.While sense.Positive (s.make (Node-F.True (at 6 10))) (s.body 12 13 ((s.whole (codes "1") 12) ∷ [])) (at 0 18)))
    ∷ (s.whole (codes "2") 20) ∷ [])

abbrev pub LoopsHaveTypes : Type 0
LoopsHaveTypes =
    (Reports LOOP_TYPE (error (at 27 43) 7014 (codes "type is T.nilable(Integer)") ∷ error (at 77 93) 7014 (codes "type is String") ∷ []))
    × (Reports AFTER_LOOP (error (at 64 80) 7014 (codes "type is Integer") ∷ error (at 146 162) 7014 (codes "type is String") ∷ []))
    × (Reports NEXT_IN_LOOP (error (at 15 16) 7006 (codes "unreachable code") ∷ []))
    × (Reports ENDLESS (error (at 20 21) 7006 (codes "unreachable code") ∷ []))

-- ---- blocks

-- in a block, as in a loop
-- `x = nil; each { x = 1 }`
abbrev pub BLOCK_STAYS : Program
BLOCK_STAYS N P s =
    s.body 0 23
    ((s.assign 0 7 (s.name (codes "x") 0) (s.nil 4))
    ∷ (s.make (Node-F.Call (codes "each") (at 9 13) None (Some (record {
      parameters = [];
      body = (s.body 16 21 ((s.assign 16 21 (s.name
          (codes "x") 16) (s.whole (codes "1") 20)) ∷ []));
      span = at 14 23;
    })) (at 9 23))) ∷ [])

-- after it the environment is that at its entry
-- `x = T.let(nil, T.nilable(Integer)); each { x = 1 }; T.reveal_type(x)`
abbrev pub AFTER_BLOCK : Program
AFTER_BLOCK N P s =
    s.body 0 68
    ((s.assign 0 34 (s.name (codes "x") 0) (s.send 4 34 (s.constant (codes "T") 4) (codes "let") 6 ((s.nil 10) ∷ (s.send 15 33 (s.constant
    (codes "T") 15) (codes "nilable") 17 ((s.constant (codes "Integer") 25) ∷ [])) ∷ [])))
    ∷ (s.make (Node-F.Call (codes "each") (at 36 40) None (Some (record {
      parameters = [];
      body = (s.body 43 48 ((s.assign 43 48 (s.name
          (codes "x") 43) (s.whole (codes "1") 47)) ∷ []));
      span = at 41 50;
    })) (at 36 50)))
    ∷ (s.reveal 52 68 (s.name (codes "x") 66)) ∷ [])

-- its parameters have types; they hide outer variables and aren't pinned by their own block
-- `i = nil; each { |i| T.reveal_type(i); i = "a" }; T.reveal_type(i)`
abbrev pub BLOCK_PARAMETER : Program
BLOCK_PARAMETER N P s =
    s.body 0 65
    ((s.assign 0 7 (s.name (codes "i") 0) (s.nil 4))
    ∷ (s.make (Node-F.Call (codes "each") (at 9 13) None (Some (record {
      parameters = record { name = codes "i"; span = at 17 18 } ∷ [];
      body = (s.body 20 45 ((s.reveal 20 36 (s.name (codes "i") 34)) ∷ (s.assign 38 45 (s.name (codes "i") 38) (s.text (codes "a") 42)) ∷
          []));
      span = at 14 47;
    })) (at 9 47)))
    ∷ (s.reveal 49 65 (s.name (codes "i") 63)) ∷ [])

-- B is the `T.any` of its last type and its `next` types
-- `T.reveal_type(map { |i| next 1 if c; "a" })`
abbrev pub BLOCK_TYPE : Program
BLOCK_TYPE N P s =
    s.body 0 43
    ((s.reveal 0 43 (s.make (Node-F.Call (codes "map") (at 14 17) None (Some (record {
      parameters = record {
        name = codes "i";
        span = at
            21 22;
      } ∷ [];
      body = (s.body 24 40 ((s.modified 24 35 (s.make (Node-F.Jump jump.Next (Some (s.whole (codes "1") 29)) (at 24 30)))
          modifier.If (s.name (codes "c") 34)) ∷ (s.text (codes "a") 37) ∷ []));
      span = at 18 42;
    })) (at 14 42)))) ∷ [])

-- a `next` without a value carries `NilClass`
-- `T.reveal_type(map { next if c; 1 })`
abbrev pub NEXT_ALONE : Program
NEXT_ALONE N P s =
    s.body 0 35
    ((s.reveal 0 35 (s.make (Node-F.Call (codes "map") (at 14 17) None (Some (record {
      parameters = [];
      body = (s.body 20 32 ((s.modified
          20 29 (s.make (Node-F.Jump jump.Next None (at 20 24))) modifier.If (s.name (codes "c") 28)) ∷ (s.whole (codes "1") 31) ∷ []));
      span =
          at 18 34;
    })) (at 14 34)))) ∷ [])

-- `break` types join the result
-- `T.reveal_type(each { break "a" if c })`
abbrev pub BLOCK_BREAKS : Program
BLOCK_BREAKS N P s =
    s.body 0 38
    ((s.reveal 0 38 (s.make (Node-F.Call (codes "each") (at 14 18) None (Some (record {
      parameters = [];
      body = (s.body 21 35 ((s.modified
          21 35 (s.make (Node-F.Jump jump.Break (Some (s.text (codes "a") 27)) (at 21 30))) modifier.If (s.name (codes "c") 34)) ∷ []));
      span =
          at 19 37;
    })) (at 14 37)))) ∷ [])

-- two blocks that assign the same new name have two variables
-- `each { y = 1 }; each { y = "a" if c; T.reveal_type(y) }`
abbrev pub TWO_BLOCKS : Program
TWO_BLOCKS N P s =
    s.body 0 55
    ((s.make (Node-F.Call (codes "each") (at 0 4) None (Some (record {
      parameters = [];
      body = (s.body 7 12 ((s.assign 7 12 (s.name (codes
          "y") 7) (s.whole (codes "1") 11)) ∷ []));
      span = at 5 14;
    })) (at 0 14)))
    ∷ (s.make (Node-F.Call (codes "each") (at 16 20) None (Some (record {
      parameters = [];
      body = (s.body 23 53 ((s.modified 23 35
          (s.assign 23 30 (s.name (codes "y") 23) (s.text (codes "a") 27)) modifier.If (s.name (codes "c") 34)) ∷ (s.reveal 37 53 (s.name (codes
          "y") 51)) ∷ []));
      span = at 21 55;
    })) (at 16 55))) ∷ [])

-- the variables that a loop assigns are also those of blocks inside it
-- `while c; each { y = 1 if c; T.reveal_type(y) }; end`
abbrev pub BLOCK_IN_LOOP : Program
BLOCK_IN_LOOP N P s =
    s.body 0 51
    ((s.make (Node-F.While sense.Positive (s.name (codes "c") 6) (s.body 9 46 ((s.make (Node-F.Call (codes "each") (at 9 13) None (Some
    (record {
      parameters = [];
      body = (s.body 16 44 ((s.modified 16 26 (s.assign 16 21 (s.name (codes "y") 16) (s.whole (codes "1") 20))
          modifier.If (s.name (codes "c") 25)) ∷ (s.reveal 28 44 (s.name (codes "y") 42)) ∷ []));
      span = at 14 46;
    })) (at 9 46))) ∷ [])) (at 0
    51))) ∷ [])

-- where the entry isn't live the environment is that at the block's end
-- `take(raise) { 1 }; 2`
abbrev pub DEAD_ENTRY : Program
DEAD_ENTRY N P s =
    s.body 0 20
    ((s.make (Node-F.Call (codes "take") (at 0 4) (Some ((argument.Positional (s.name (codes "raise") 5)) ∷ [])) (Some (record {
      parameters = [];
      body = (s.body 14 15 ((s.whole (codes "1") 14) ∷ []));
      span = at 12 17;
    })) (at 0 17)))
    ∷ (s.whole (codes "2") 19) ∷ [])

-- blocks of `yield` and `super` have parameters `T.untyped`, and pins
-- `x = nil; super 1 do |a| T.reveal_type(a); x = 1; end`
abbrev pub SUPER_BLOCK : Program
SUPER_BLOCK N P s =
    s.body 0 52
    ((s.assign 0 7 (s.name (codes "x") 0) (s.nil 4))
    ∷ (s.make (Node-F.Command (s.make (Node-F.Super None (at 9 14))) ((argument.Positional (s.whole (codes "1") 15)) ∷ []) (Some (record {
      parameters = record { name = codes "a"; span = at 21 22 } ∷ [];
      body = (s.body 24 47 ((s.reveal 24 40 (s.name (codes "a") 38)) ∷
          (s.assign 42 47 (s.name (codes "x") 42) (s.whole (codes "1") 46)) ∷ []));
      span = at 17 52;
    })) (at 9 52))) ∷ [])

-- a `break` in the block of a safe call with nothing left joins nothing
-- `T.reveal_type(nil&.foo { break 1 })`
abbrev pub SAFE_BREAK : Program
SAFE_BREAK N P s =
    s.body 0 35
    ((s.reveal 0 35 (s.make (Node-F.Post (s.nil 14) (suffix.Call dot.Safe (codes "foo") (at 19 22) None (Some (record {
      parameters = [];
      body = (s.body 25 32 ((s.make (Node-F.Jump jump.Break (Some (s.whole (codes "1") 31)) (at 25 32))) ∷ []));
      span = at 23 34;
    })) (at 17
    34) ∷ []) (at 14 34)))) ∷ [])

abbrev pub BlocksPinVariables : Type 0
BlocksPinVariables =
    (Reports BLOCK_STAYS (error (at 20 21) 7001 (codes "variable x stays NilClass in a loop or block, found Integer") ∷ []))
    × (Reports AFTER_BLOCK (error (at 52 68) 7014 (codes "type is T.nilable(Integer)") ∷ []))
    × (Reports BLOCK_PARAMETER (error (at 20 36) 7014 (codes "type is Integer") ∷ error (at 49 65) 7014 (codes "type is NilClass") ∷ []))
    × (Reports BLOCK_TYPE (error (at 0 43) 7014 (codes "type is T::Array[T.any(Integer, String)]") ∷ []))
    × (Reports NEXT_ALONE (error (at 0 35) 7014 (codes "type is T::Array[T.nilable(Integer)]") ∷ []))
    × (Reports BLOCK_BREAKS (error (at 0 38) 7014 (codes "type is T.any(Integer, String)") ∷ []))
    × (Reports TWO_BLOCKS (error (at 37 53) 7014 (codes "type is T.nilable(String)") ∷ []))
    × (Reports BLOCK_IN_LOOP (error (at 28 44) 7014 (codes "type is T.untyped") ∷ []))
    × (Reports DEAD_ENTRY (error (at 14 15) 7006 (codes "unreachable code") ∷ []))
    × (Reports SUPER_BLOCK (error (at 24 40) 7014 (codes "type is T.untyped") ∷ error (at 46 47) 7001 (codes
    "variable x stays NilClass in a loop or block, found Integer") ∷ []))
    × (Reports SAFE_BREAK (error (at 0 35) 7014 (codes "type is NilClass") ∷ []))
