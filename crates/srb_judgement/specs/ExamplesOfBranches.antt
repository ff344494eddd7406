-- Programs whose errors tell the types of branches and of `case`, and what jumps do.
use Rattle.std.specs.Prelude.{false, [], ◌∷◌, codes, Some, None}
use Rattle.rb_tree.specs.declared.syntax.Binary.TheVariants as binary
use Rattle.rb_tree.specs.declared.syntax.Jump.TheVariants as jump
use Rattle.rb_tree.specs.declared.syntax.Modifier.TheVariants as modifier
use Rattle.rb_tree.specs.declared.syntax.Test.TheVariants as sense
use Rattle.rb_tree.specs.declared.syntax.Node.TheOpen.{Node-F}
use Rattle.srb_judgement.specs.ExampleTrees.{Program, Reports, at}
use Rattle.srb_judgement.specs.Errors.{error}

-- ---- branches

-- the `T.any` of the branches
-- `T.reveal_type(c ? 1 : "a")`
abbrev pub CONDITIONAL : Program
CONDITIONAL N P s =
    s.body 0 26
    ((s.reveal 0 26 (s.make (Node-F.Conditional (s.name (codes "c") 14) (s.whole (codes "1") 18) (s.text (codes "a") 22) (at 14 25)))) ∷ [])

-- a missing branch is `NilClass`
-- `T.reveal_type((1 if c)); x = unless c; 1; end; T.reveal_type(x)`
abbrev pub MISSING_BRANCH : Program
MISSING_BRANCH N P s =
    s.body 0 63
    ((s.reveal 0 23 (s.parens 14 22 (s.body 15 21 ((s.modified 15 21 (s.whole (codes "1") 15) modifier.If (s.name (codes "c") 20)) ∷
    []))))
    ∷ (s.assign 25 45 (s.name (codes "x") 25) (s.make (Node-F.If sense.Negative (s.name (codes "c") 36) (s.body 39 40 ((s.whole (codes
    "1") 39) ∷ [])) [] None (at 29 45))))
    ∷ (s.reveal 47 63 (s.name (codes "x") 61)) ∷ [])

-- the live branches alone
-- `x = if c; 1; elsif c; return; else; "a"; end; T.reveal_type(x)`
abbrev pub LIVE_BRANCHES : Program
LIVE_BRANCHES N P s =
    s.body 0 62
    ((s.assign 0 44 (s.name (codes "x") 0) (s.make (Node-F.If sense.Positive (s.name (codes "c") 7) (s.body 10 11 ((s.whole (codes "1")
    10) ∷ [])) (record {
      condition = (s.name (codes "c") 19);
      body = (s.body 22 28 ((s.make (Node-F.Jump jump.Return None (at 22 28))) ∷
          []));
    } ∷ []) (Some (s.body 36 39 ((s.text (codes "a") 36) ∷ []))) (at 4 44))))
    ∷ (s.reveal 46 62 (s.name (codes "x") 60)) ∷ [])

-- an `elsif` begins in the falsehood before it
-- `x = T.let(nil, T.nilable(Integer)); if x.nil?; 1; elsif T.reveal_type(x) == 2; T.reveal_type(x); end`
abbrev pub ELSIF_NARROWS : Program
ELSIF_NARROWS N P s =
    s.body 0 100
    ((s.assign 0 34 (s.name (codes "x") 0) (s.send 4 34 (s.constant (codes "T") 4) (codes "let") 6 ((s.nil 10) ∷ (s.send 15 33 (s.constant
    (codes "T") 15) (codes "nilable") 17 ((s.constant (codes "Integer") 25) ∷ [])) ∷ [])))
    ∷ (s.make (Node-F.If sense.Positive (s.call 39 45 (s.name (codes "x") 39) (codes "nil?") 41) (s.body 47 48 ((s.whole (codes "1") 47) ∷
    [])) (record {
      condition = (s.binary 56 77 (s.reveal 56 72 (s.name (codes "x") 70)) binary.Equal (at 73 75) (s.whole (codes "2") 76));
      body = (s.body 79 95 ((s.reveal 79 95 (s.name (codes "x") 93)) ∷ []));
    } ∷ []) None (at 36 100))) ∷ [])

-- a modifier is a branch; its condition stands later in the text and is judged first
-- `x = T.let(nil, T.nilable(Integer)); T.reveal_type(x) if x; return unless x; T.reveal_type(x)`
abbrev pub MODIFIED_NARROWS : Program
MODIFIED_NARROWS N P s =
    s.body 0 92
    ((s.assign 0 34 (s.name (codes "x") 0) (s.send 4 34 (s.constant (codes "T") 4) (codes "let") 6 ((s.nil 10) ∷ (s.send 15 33 (s.constant
    (codes "T") 15) (codes "nilable") 17 ((s.constant (codes "Integer") 25) ∷ [])) ∷ [])))
    ∷ (s.modified 36 57 (s.reveal 36 52 (s.name (codes "x") 50)) modifier.If (s.name (codes "x") 56))
    ∷ (s.modified 59 74 (s.make (Node-F.Jump jump.Return None (at 59 65))) modifier.Unless (s.name (codes "x") 73))
    ∷ (s.reveal 76 92 (s.name (codes "x") 90)) ∷ [])

-- a name is a variable where an assignment begins earlier in the text
-- `y if (y = 1)`
abbrev pub TEXT_ORDER : Program
TEXT_ORDER N P s =
    s.body 0 12
    ((s.modified 0 12 (s.name (codes "y") 0) modifier.If (s.parens 5 12 (s.body 6 11 ((s.assign 6 11 (s.name (codes "y") 6) (s.whole
    (codes "1") 10)) ∷ [])))) ∷ [])

abbrev pub BranchesAreJoined : Type 0
BranchesAreJoined =
    (Reports CONDITIONAL (error (at 0 26) 7014 (codes "type is T.any(Integer, String)") ∷ []))
    × (Reports MISSING_BRANCH (error (at 0 23) 7014 (codes "type is T.nilable(Integer)") ∷ error (at 47 63) 7014 (codes
    "type is T.nilable(Integer)") ∷ []))
    × (Reports LIVE_BRANCHES (error (at 46 62) 7014 (codes "type is T.any(Integer, String)") ∷ []))
    × (Reports ELSIF_NARROWS (error (at 56 72) 7014 (codes "type is Integer") ∷ error (at 79 95) 7014 (codes "type is Integer") ∷ []))
    × (Reports MODIFIED_NARROWS (error (at 36 52) 7014 (codes "type is Integer") ∷ error (at 76 92) 7014 (codes "type is Integer") ∷ []))
    × (Reports TEXT_ORDER (error (at 0 1) 7003 (codes "method y does not exist on Object") ∷ []))

-- ---- `case`

-- a class acts as `C === s`, `nil` as `s.nil?`
-- `x = T.let(nil, T.nilable(Integer)); case x; when Integer; T.reveal_type(x); when nil; T.reveal_type(x); else; 1; end`
abbrev pub CASE_OF_VARIABLE : Program
CASE_OF_VARIABLE N P s =
    s.body 0 116
    ((s.assign 0 34 (s.name (codes "x") 0) (s.send 4 34 (s.constant (codes "T") 4) (codes "let") 6 ((s.nil 10) ∷ (s.send 15 33 (s.constant
    (codes "T") 15) (codes "nilable") 17 ((s.constant (codes "Integer") 25) ∷ [])) ∷ [])))
    ∷ (s.make (Node-F.Case (Some (s.name (codes "x") 41)) (record {
      patterns = ((s.constant (codes "Integer") 49) ∷ []);
      body = (s.body 58
          74 ((s.reveal 58 74 (s.name (codes "x") 72)) ∷ []));
    } ∷ record {
      patterns = ((s.nil 81) ∷ []);
      body = (s.body 86 102 ((s.reveal 86 102
          (s.name (codes "x") 100)) ∷ []));
    } ∷ []) (Some (s.body 110 111 ((s.whole (codes "1") 110) ∷ []))) (at 36 116))) ∷ [])

-- several patterns act as `||`
-- `x = T.let(nil, T.any(NilClass, Integer, String)); case x; when Integer, String; T.reveal_type(x); else; T.reveal_type(x); end`
abbrev pub SEVERAL_PATTERNS : Program
SEVERAL_PATTERNS N P s =
    s.body 0 125
    ((s.assign 0 48 (s.name (codes "x") 0) (s.send 4 48 (s.constant (codes "T") 4) (codes "let") 6 ((s.nil 10) ∷ (s.send 15 47 (s.constant
    (codes "T") 15) (codes "any") 17 ((s.constant (codes "NilClass") 21) ∷ (s.constant (codes "Integer") 31) ∷ (s.constant (codes
    "String") 40) ∷ [])) ∷ [])))
    ∷ (s.make (Node-F.Case (Some (s.name (codes "x") 55)) (record {
      patterns = ((s.constant (codes "Integer") 63) ∷ (s.constant (codes
          "String") 72) ∷ []);
      body = (s.body 80 96 ((s.reveal 80 96 (s.name (codes "x") 94)) ∷ []));
    } ∷ []) (Some (s.body 104 120 ((s.reveal
    104 120 (s.name (codes "x") 118)) ∷ []))) (at 50 125))) ∷ [])

-- each pattern is judged; other patterns narrow nothing
-- `x = T.let(nil, T.nilable(Integer)); case x; when int("a"); T.reveal_type(x); else; T.reveal_type(x); end`
abbrev pub OTHER_PATTERN : Program
OTHER_PATTERN N P s =
    s.body 0 104
    ((s.assign 0 34 (s.name (codes "x") 0) (s.send 4 34 (s.constant (codes "T") 4) (codes "let") 6 ((s.nil 10) ∷ (s.send 15 33 (s.constant
    (codes "T") 15) (codes "nilable") 17 ((s.constant (codes "Integer") 25) ∷ [])) ∷ [])))
    ∷ (s.make (Node-F.Case (Some (s.name (codes "x") 41)) (record {
      patterns = ((s.own 49 57 (codes "int") ((s.text (codes "a") 53) ∷ []))
          ∷ []);
      body = (s.body 59 75 ((s.reveal 59 75 (s.name (codes "x") 73)) ∷ []));
    } ∷ []) (Some (s.body 83 99 ((s.reveal 83 99 (s.name
    (codes "x") 97)) ∷ []))) (at 36 104))) ∷ [])

-- a variable in brackets narrows nothing
-- `x = T.let(nil, T.nilable(Integer)); case (x); when nil; T.reveal_type(x); end`
abbrev pub CASE_IN_BRACKETS : Program
CASE_IN_BRACKETS N P s =
    s.body 0 77
    ((s.assign 0 34 (s.name (codes "x") 0) (s.send 4 34 (s.constant (codes "T") 4) (codes "let") 6 ((s.nil 10) ∷ (s.send 15 33 (s.constant
    (codes "T") 15) (codes "nilable") 17 ((s.constant (codes "Integer") 25) ∷ [])) ∷ [])))
    ∷ (s.make (Node-F.Case (Some (s.parens 41 44 (s.body 42 43 ((s.name (codes "x") 42) ∷ [])))) (record {
      patterns = ((s.nil 51) ∷ []);
      body = (s.body 56 72 ((s.reveal 56 72 (s.name (codes "x") 70)) ∷ []));
    } ∷ []) None (at 36 77))) ∷ [])

-- the subject is judged once
-- `case T.reveal_type(1); when 1, 2; 3; when 4; 5; end`
abbrev pub CASE_OF_CALL : Program
CASE_OF_CALL N P s =
    s.body 0 51
    ((s.make (Node-F.Case (Some (s.reveal 5 21 (s.whole (codes "1") 19))) (record {
      patterns = ((s.whole (codes "1") 28) ∷ (s.whole (codes
          "2") 31) ∷ []);
      body = (s.body 34 35 ((s.whole (codes "3") 34) ∷ []));
    } ∷ record {
      patterns = ((s.whole (codes "4") 42) ∷ []);
      body =
          (s.body 45 46 ((s.whole (codes "5") 45) ∷ []));
    } ∷ []) None (at 0 51))) ∷ [])

-- without a subject there are conditions
-- `x = T.let(nil, T.nilable(Integer)); y = case; when x; 1; when x.nil?; "a"; end; T.reveal_type(y)`
abbrev pub CASE_OF_CONDITIONS : Program
CASE_OF_CONDITIONS N P s =
    s.body 0 96
    ((s.assign 0 34 (s.name (codes "x") 0) (s.send 4 34 (s.constant (codes "T") 4) (codes "let") 6 ((s.nil 10) ∷ (s.send 15 33 (s.constant
    (codes "T") 15) (codes "nilable") 17 ((s.constant (codes "Integer") 25) ∷ [])) ∷ [])))
    ∷ (s.assign 36 78 (s.name (codes "y") 36) (s.make (Node-F.Case None (record {
      patterns = ((s.name (codes "x") 51) ∷ []);
      body =
          (s.body 54 55 ((s.whole (codes "1") 54) ∷ []));
    } ∷ record {
      patterns = ((s.call 62 68 (s.name (codes "x") 62) (codes "nil?") 64) ∷
          []);
      body = (s.body 70 73 ((s.text (codes "a") 70) ∷ []));
    } ∷ []) None (at 40 78))))
    ∷ (s.reveal 80 96 (s.name (codes "y") 94)) ∷ [])

-- a missing `else` is `NilClass`
-- `x = T.let(nil, T.nilable(Integer)); y = case x; when Integer; x; end; T.reveal_type(y)`
abbrev pub CASE_WITHOUT_ELSE : Program
CASE_WITHOUT_ELSE N P s =
    s.body 0 86
    ((s.assign 0 34 (s.name (codes "x") 0) (s.send 4 34 (s.constant (codes "T") 4) (codes "let") 6 ((s.nil 10) ∷ (s.send 15 33 (s.constant
    (codes "T") 15) (codes "nilable") 17 ((s.constant (codes "Integer") 25) ∷ [])) ∷ [])))
    ∷ (s.assign 36 68 (s.name (codes "y") 36) (s.make (Node-F.Case (Some (s.name (codes "x") 45)) (record {
      patterns = ((s.constant (codes
          "Integer") 53) ∷ []);
      body = (s.body 62 63 ((s.name (codes "x") 62) ∷ []));
    } ∷ []) None (at 40 68))))
    ∷ (s.reveal 70 86 (s.name (codes "y") 84)) ∷ [])

abbrev pub CasesNarrow : Type 0
CasesNarrow =
    (Reports CASE_OF_VARIABLE (error (at 58 74) 7014 (codes "type is Integer") ∷ error (at 86 102) 7014 (codes "type is NilClass") ∷ error
    (at 110 111) 7006 (codes "unreachable code") ∷ []))
    × (Reports SEVERAL_PATTERNS (error (at 80 96) 7014 (codes "type is T.any(Integer, String)") ∷ error (at 104 120) 7014 (codes
    "type is NilClass") ∷ []))
    × (Reports OTHER_PATTERN (error (at 53 56) 7002 (codes "argument arg0 of int expects Integer, found String") ∷ error (at 59 75) 7014
    (codes "type is T.nilable(Integer)") ∷ error (at 83 99) 7014 (codes "type is T.nilable(Integer)") ∷ []))
    × (Reports CASE_IN_BRACKETS (error (at 56 72) 7014 (codes "type is T.nilable(Integer)") ∷ []))
    × (Reports CASE_OF_CALL (error (at 5 21) 7014 (codes "type is Integer") ∷ []))
    × (Reports CASE_OF_CONDITIONS (error (at 80 96) 7014 (codes "type is T.any(Integer, String)") ∷ []))
    × (Reports CASE_WITHOUT_ELSE (error (at 70 86) 7014 (codes "type is T.nilable(Integer)") ∷ []))

-- ---- jumps and results

-- `return e` is checked against the result
-- `class A; sig { returns(Integer) }; def f; return "a" if c; 1; end; end`
abbrev pub RETURN_CHECKED : Program
RETURN_CHECKED N P s =
    s.body 0 70
    ((s.make (Node-F.Class (record { name = codes "A"; span = at 6 7 } ∷ []) None (s.body 9 65 ((s.make (Node-F.Call (codes "sig") (at 9
    12) None (Some (record {
      parameters = [];
      body = (s.body 15 31 ((s.own 15 31 (codes "returns") ((s.constant (codes "Integer") 23) ∷
          [])) ∷ []));
      span = at 13 33;
    })) (at 9 33))) ∷ (s.make (Node-F.Def None false (codes "f") (at 39 40) [] (record {
      body = (s.body 42 60
          ((s.modified 42 57 (s.make (Node-F.Jump jump.Return (Some (s.text (codes "a") 49)) (at 42 52))) modifier.If (s.name (codes "c") 56)) ∷
          (s.whole (codes "1") 59) ∷ []));
      rescues = [];
      otherwise = None;
      ensure = None;
    }) (at 35 65))) ∷ [])) (at 0 70))) ∷ [])

-- without a value it carries `NilClass`, at the word
-- `class A; sig { returns(Integer) }; def f; return if c; 1; end; end`
abbrev pub RETURN_ALONE : Program
RETURN_ALONE N P s =
    s.body 0 66
    ((s.make (Node-F.Class (record { name = codes "A"; span = at 6 7 } ∷ []) None (s.body 9 61 ((s.make (Node-F.Call (codes "sig") (at 9
    12) None (Some (record {
      parameters = [];
      body = (s.body 15 31 ((s.own 15 31 (codes "returns") ((s.constant (codes "Integer") 23) ∷
          [])) ∷ []));
      span = at 13 33;
    })) (at 9 33))) ∷ (s.make (Node-F.Def None false (codes "f") (at 39 40) [] (record {
      body = (s.body 42 56
          ((s.modified 42 53 (s.make (Node-F.Jump jump.Return None (at 42 48))) modifier.If (s.name (codes "c") 52)) ∷ (s.whole (codes "1") 55)
          ∷ []));
      rescues = [];
      otherwise = None;
      ensure = None;
    }) (at 35 61))) ∷ [])) (at 0 66))) ∷ [])

-- the last type of a live body is checked
-- `class A; sig { returns(Integer) }; def f; 1; "a"; end; end`
abbrev pub LAST_CHECKED : Program
LAST_CHECKED N P s =
    s.body 0 58
    ((s.make (Node-F.Class (record { name = codes "A"; span = at 6 7 } ∷ []) None (s.body 9 53 ((s.make (Node-F.Call (codes "sig") (at 9
    12) None (Some (record {
      parameters = [];
      body = (s.body 15 31 ((s.own 15 31 (codes "returns") ((s.constant (codes "Integer") 23) ∷
          [])) ∷ []));
      span = at 13 33;
    })) (at 9 33))) ∷ (s.make (Node-F.Def None false (codes "f") (at 39 40) [] (record {
      body = (s.body 42 48
          ((s.whole (codes "1") 42) ∷ (s.text (codes "a") 45) ∷ []));
      rescues = [];
      otherwise = None;
      ensure = None;
    }) (at 35 53))) ∷ [])) (at 0
    58))) ∷ [])

-- the place is the method's name if the body is empty
-- `class A; sig { returns(Integer) }; def f; end; end`
abbrev pub EMPTY_METHOD : Program
EMPTY_METHOD N P s =
    s.body 0 50
    ((s.make (Node-F.Class (record { name = codes "A"; span = at 6 7 } ∷ []) None (s.body 9 45 ((s.make (Node-F.Call (codes "sig") (at 9
    12) None (Some (record {
      parameters = [];
      body = (s.body 15 31 ((s.own 15 31 (codes "returns") ((s.constant (codes "Integer") 23) ∷
          [])) ∷ []));
      span = at 13 33;
    })) (at 9 33))) ∷ (s.make (Node-F.Def None false (codes "f") (at 39 40) [] (record {
      body = (s.body 0 0
          []);
      rescues = [];
      otherwise = None;
      ensure = None;
    }) (at 35 45))) ∷ [])) (at 0 50))) ∷ [])

-- a `void` or `abstract` method isn't checked, nor a body that isn't live
-- `class A; sig { void }; def f; return 1 if c; "a"; end; sig { returns(Integer) }; def g; return 1; end; end`
abbrev pub VOID_METHOD : Program
VOID_METHOD N P s =
    s.body 0 106
    ((s.make (Node-F.Class (record { name = codes "A"; span = at 6 7 } ∷ []) None (s.body 9 101 ((s.make (Node-F.Call (codes "sig") (at 9
    12) None (Some (record { parameters = []; body = (s.body 15 19 ((s.name (codes "void") 15) ∷ [])); span = at 13 21 })) (at 9 21))) ∷
    (s.make (Node-F.Def None false (codes "f") (at 27 28) [] (record {
      body = (s.body 30 48 ((s.modified 30 43 (s.make (Node-F.Jump
          jump.Return (Some (s.whole (codes "1") 37)) (at 30 38))) modifier.If (s.name (codes "c") 42)) ∷ (s.text (codes "a") 45) ∷ []));
      rescues = [];
      otherwise = None;
      ensure = None;
    }) (at 23 53))) ∷ (s.make (Node-F.Call (codes "sig") (at 55 58) None (Some (record {
      parameters = [];
      body = (s.body 61 77 ((s.own 61 77 (codes "returns") ((s.constant (codes "Integer") 69) ∷ [])) ∷ []));
      span = at 59
          79;
    })) (at 55 79))) ∷ (s.make (Node-F.Def None false (codes "g") (at 85 86) [] (record {
      body = (s.body 88 96 ((s.make (Node-F.Jump
          jump.Return (Some (s.whole (codes "1") 95)) (at 88 96))) ∷ []));
      rescues = [];
      otherwise = None;
      ensure = None;
    }) (at 81 101))) ∷ []))
    (at 0 106))) ∷ [])

-- `class A; sig { returns(Integer).abstract }; def f; return "a" if c; nil; end; end`
abbrev pub ABSTRACT_METHOD : Program
ABSTRACT_METHOD N P s =
    s.body 0 81
    ((s.make (Node-F.Class (record { name = codes "A"; span = at 6 7 } ∷ []) None (s.body 9 76 ((s.make (Node-F.Call (codes "sig") (at 9
    12) None (Some (record {
      parameters = [];
      body = (s.body 15 40 ((s.call 15 40 (s.own 15 31 (codes "returns") ((s.constant (codes
          "Integer") 23) ∷ [])) (codes "abstract") 32) ∷ []));
      span = at 13 42;
    })) (at 9 42))) ∷ (s.make (Node-F.Def None false (codes "f") (at
    48 49) [] (record {
      body = (s.body 51 71 ((s.modified 51 66 (s.make (Node-F.Jump jump.Return (Some (s.text (codes "a") 58)) (at 51
          61))) modifier.If (s.name (codes "c") 65)) ∷ (s.nil 68) ∷ []));
      rescues = [];
      otherwise = None;
      ensure = None;
    }) (at 44 76))) ∷ []))
    (at 0 81))) ∷ [])

-- a `return` in a block is one of the method
-- `class A; sig { returns(Integer) }; def f; each { return "a" }; 1; end; end`
abbrev pub RETURN_IN_BLOCK : Program
RETURN_IN_BLOCK N P s =
    s.body 0 74
    ((s.make (Node-F.Class (record { name = codes "A"; span = at 6 7 } ∷ []) None (s.body 9 69 ((s.make (Node-F.Call (codes "sig") (at 9
    12) None (Some (record {
      parameters = [];
      body = (s.body 15 31 ((s.own 15 31 (codes "returns") ((s.constant (codes "Integer") 23) ∷
          [])) ∷ []));
      span = at 13 33;
    })) (at 9 33))) ∷ (s.make (Node-F.Def None false (codes "f") (at 39 40) [] (record {
      body = (s.body 42 64
          ((s.make (Node-F.Call (codes "each") (at 42 46) None (Some (record {
            parameters = [];
            body = (s.body 49 59 ((s.make (Node-F.Jump
                jump.Return (Some (s.text (codes "a") 56)) (at 49 59))) ∷ []));
            span = at 47 61;
          })) (at 42 61))) ∷ (s.whole (codes "1") 63) ∷ []));
      rescues = [];
      otherwise = None;
      ensure = None;
    }) (at 35 69))) ∷ [])) (at 0 74))) ∷ [])

-- `break` and `next` outside loops and blocks act as `return` without a check
-- `class A; sig { returns(Integer) }; def f; break "a" if c; next "a"; 1; end; end`
abbrev pub BREAK_OUTSIDE : Program
BREAK_OUTSIDE N P s =
    s.body 0 79
    ((s.make (Node-F.Class (record { name = codes "A"; span = at 6 7 } ∷ []) None (s.body 9 74 ((s.make (Node-F.Call (codes "sig") (at 9
    12) None (Some (record {
      parameters = [];
      body = (s.body 15 31 ((s.own 15 31 (codes "returns") ((s.constant (codes "Integer") 23) ∷
          [])) ∷ []));
      span = at 13 33;
    })) (at 9 33))) ∷ (s.make (Node-F.Def None false (codes "f") (at 39 40) [] (record {
      body = (s.body 42 69
          ((s.modified 42 56 (s.make (Node-F.Jump jump.Break (Some (s.text (codes "a") 48)) (at 42 51))) modifier.If (s.name (codes "c") 55)) ∷
          (s.make (Node-F.Jump jump.Next (Some (s.text (codes "a") 63)) (at 58 66))) ∷ (s.whole (codes "1") 68) ∷ []));
      rescues = [];
      otherwise
          = None;
      ensure = None;
    }) (at 35 74))) ∷ [])) (at 0 79))) ∷ [])

abbrev pub JumpsEndTheirPath : Type 0
JumpsEndTheirPath =
    (Reports RETURN_CHECKED (error (at 49 52) 7005 (codes "result expects Integer, found String") ∷ []))
    × (Reports RETURN_ALONE (error (at 42 48) 7005 (codes "result expects Integer, found NilClass") ∷ []))
    × (Reports LAST_CHECKED (error (at 45 48) 7005 (codes "result expects Integer, found String") ∷ []))
    × (Reports EMPTY_METHOD (error (at 39 40) 7005 (codes "result expects Integer, found NilClass") ∷ []))
    × (Reports VOID_METHOD [])
    × (Reports ABSTRACT_METHOD [])
    × (Reports RETURN_IN_BLOCK (error (at 56 59) 7005 (codes "result expects Integer, found String") ∷ []))
    × (Reports BREAK_OUTSIDE (error (at 68 69) 7006 (codes "unreachable code") ∷ []))
