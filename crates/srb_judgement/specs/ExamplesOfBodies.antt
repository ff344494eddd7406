-- Programs whose errors tell which bodies are judged, and in which context.
use Rattle.std.specs.Prelude.{false, [], ◌∷◌, codes, Some, None}
use Rattle.srb_terms.specs.declared.param_kind.ParamKind.TheVariants as kind
use Rattle.rb_tree.specs.declared.syntax.Argument.TheVariants as argument
use Rattle.rb_tree.specs.declared.syntax.Jump.TheVariants as jump
use Rattle.rb_tree.specs.declared.syntax.Modifier.TheVariants as modifier
use Rattle.rb_tree.specs.declared.syntax.Suffix.TheVariants as suffix
use Rattle.rb_tree.specs.declared.syntax.Test.TheVariants as sense
use Rattle.rb_tree.specs.declared.syntax.Visibility.TheVariants as visibility
use Rattle.rb_tree.specs.declared.syntax.Node.TheOpen.{Node-F}
use Rattle.srb_judgement.specs.ExampleTrees.{Program, Reports, at}
use Rattle.srb_judgement.specs.Errors.{error}

-- ---- methods, classes and the program

-- parameters have the types of the method's own signature
-- `class A; sig { params(b: String, a: Integer).void }; def f(a, b); T.reveal_type(a); T.reveal_type(b); end; end`
abbrev pub PARAMETERS : Program
PARAMETERS N P s =
    s.body 0 110
    ((s.make (Node-F.Class (record { name = codes "A"; span = at 6 7 } ∷ []) None (s.body 9 105 ((s.make (Node-F.Call (codes "sig") (at 9
    12) None (Some (record {
      parameters = [];
      body = (s.body 15 49 ((s.call 15 49 (s.make (Node-F.Call (codes "params") (at 15 21) (Some
          ((argument.Keyword (codes "b") (at 22 24) (s.constant (codes "String") 25)) ∷ (argument.Keyword (codes "a") (at 33 35) (s.constant
          (codes "Integer") 36)) ∷ [])) None (at 15 44))) (codes "void") 45) ∷ []));
      span = at 13 51;
    })) (at 9 51))) ∷ (s.make (Node-F.Def None
    false (codes "f") (at 57 58) (record { kind = kind.Required; name = codes "a"; span = at 59 60; default = None } ∷ record {
      kind =
          kind.Required;
      name = codes "b";
      span = at 62 63;
      default = None;
    } ∷ []) (record {
      body = (s.body 66 100 ((s.reveal 66 82 (s.name
          (codes "a") 80)) ∷ (s.reveal 84 100 (s.name (codes "b") 98)) ∷ []));
      rescues = [];
      otherwise = None;
      ensure = None;
    }) (at 53 105))) ∷
    [])) (at 0 110))) ∷ [])

-- without one they are `T.untyped`, and the method is reported
-- `class A; def f(a); T.reveal_type(a); end; end`
abbrev pub WITHOUT_SIG : Program
WITHOUT_SIG N P s =
    s.body 0 45
    ((s.make (Node-F.Class (record { name = codes "A"; span = at 6 7 } ∷ []) None (s.body 9 40 ((s.make (Node-F.Def None false (codes "f")
    (at 13 14) (record { kind = kind.Required; name = codes "a"; span = at 15 16; default = None } ∷ []) (record {
      body = (s.body 19 35
          ((s.reveal 19 35 (s.name (codes "a") 33)) ∷ []));
      rescues = [];
      otherwise = None;
      ensure = None;
    }) (at 9 40))) ∷ [])) (at 0 45))) ∷ [])

-- a malformed one counts as no types and isn't reported here
-- `class A; sig { foo }; def f(a); T.reveal_type(a); end; end`
abbrev pub MALFORMED_SIG : Program
MALFORMED_SIG N P s =
    s.body 0 58
    ((s.make (Node-F.Class (record { name = codes "A"; span = at 6 7 } ∷ []) None (s.body 9 53 ((s.make (Node-F.Call (codes "sig") (at 9
    12) None (Some (record { parameters = []; body = (s.body 15 18 ((s.name (codes "foo") 15) ∷ [])); span = at 13 20 })) (at 9 20))) ∷
    (s.make (Node-F.Def None false (codes "f") (at 26 27) (record {
      kind = kind.Required;
      name = codes "a";
      span = at 28 29;
      default =
          None;
    } ∷ []) (record {
      body = (s.body 32 48 ((s.reveal 32 48 (s.name (codes "a") 46)) ∷ []));
      rescues = [];
      otherwise = None;
      ensure =
          None;
    }) (at 22 53))) ∷ [])) (at 0 58))) ∷ [])

-- a `sig` is that of the next statement alone
-- `class A; sig { returns(String) }; private def f; "a"; end; def g; 1; end; end`
abbrev pub PRIVATE_METHOD : Program
PRIVATE_METHOD N P s =
    s.body 0 77
    ((s.make (Node-F.Class (record { name = codes "A"; span = at 6 7 } ∷ []) None (s.body 9 72 ((s.make (Node-F.Call (codes "sig") (at 9
    12) None (Some (record {
      parameters = [];
      body = (s.body 15 30 ((s.own 15 30 (codes "returns") ((s.constant (codes "String") 23) ∷
          [])) ∷ []));
      span = at 13 32;
    })) (at 9 32))) ∷ (s.make (Node-F.Def (Some visibility.Private) false (codes "f") (at 46 47) [] (record {
      body = (s.body 49 52 ((s.text (codes "a") 49) ∷ []));
      rescues = [];
      otherwise = None;
      ensure = None;
    }) (at 34 57))) ∷ (s.make
    (Node-F.Def None false (codes "g") (at 63 64) [] (record {
      body = (s.body 66 67 ((s.whole (codes "1") 66) ∷ []));
      rescues = [];
      otherwise = None;
      ensure = None;
    }) (at 59 72))) ∷ [])) (at 0 77))) ∷ [])

-- at top level `sig` and `include` are calls
-- `include(M); sig { 1 }; def f; 1; end`
abbrev pub SIG_AT_TOP : Program
SIG_AT_TOP N P s =
    s.body 0 36
    ((s.own 0 10 (codes "include") ((s.constant (codes "M") 8) ∷ []))
    ∷ (s.make (Node-F.Call (codes "sig") (at 12 15) None (Some (record {
      parameters = [];
      body = (s.body 18 19 ((s.whole (codes "1") 18) ∷
          []));
      span = at 16 21;
    })) (at 12 21)))
    ∷ (s.make (Node-F.Def None false (codes "f") (at 27 28) [] (record {
      body = (s.body 30 31 ((s.whole (codes "1") 30) ∷ []));
      rescues =
          [];
      otherwise = None;
      ensure = None;
    }) (at 23 36))) ∷ [])

-- in a class body they are declarations: not judged, and reached nowhere
-- `class A; include Foo, bar; raise; extend(foo); attr_reader :x; 1; include M if c; end`
abbrev pub DECLARING_CALLS : Program
DECLARING_CALLS N P s =
    s.body 0 85
    ((s.make (Node-F.Class (record { name = codes "A"; span = at 6 7 } ∷ []) None (s.body 9 80 ((s.make (Node-F.Command (s.name (codes
    "include") 9) ((argument.Positional (s.constant (codes "Foo") 17)) ∷ (argument.Positional (s.name (codes "bar") 22)) ∷ []) None (at 9
    25))) ∷ (s.name (codes "raise") 27) ∷ (s.own 34 45 (codes "extend") ((s.name (codes "foo") 41) ∷ [])) ∷ (s.make (Node-F.Command
    (s.name (codes "attr_reader") 47) ((argument.Positional (s.symbol (codes "x") 59)) ∷ []) None (at 47 61))) ∷ (s.whole (codes "1") 63)
    ∷ (s.modified 66 80 (s.make (Node-F.Command (s.name (codes "include") 66) ((argument.Positional (s.constant (codes "M") 74)) ∷ [])
    None (at 66 75))) modifier.If (s.name (codes "c") 79)) ∷ [])) (at 0 85))) ∷ [])

-- each body has its own variables
-- `x = 1; class A; x; end; def f; x; end`
abbrev pub OWN_VARIABLES : Program
OWN_VARIABLES N P s =
    s.body 0 37
    ((s.assign 0 5 (s.name (codes "x") 0) (s.whole (codes "1") 4))
    ∷ (s.make (Node-F.Class (record { name = codes "A"; span = at 13 14 } ∷ []) None (s.body 16 17 ((s.name (codes "x") 16) ∷ [])) (at 7
    22)))
    ∷ (s.make (Node-F.Def None false (codes "f") (at 28 29) [] (record {
      body = (s.body 31 32 ((s.name (codes "x") 31) ∷ []));
      rescues =
          [];
      otherwise = None;
      ensure = None;
    }) (at 24 37))) ∷ [])

abbrev pub BodiesHaveContexts : Type 0
BodiesHaveContexts =
    (Reports PARAMETERS (error (at 66 82) 7014 (codes "type is Integer") ∷ error (at 84 100) 7014 (codes "type is String") ∷ []))
    × (Reports WITHOUT_SIG (error (at 13 14) 7017 (codes "method f has no sig") ∷ error (at 19 35) 7014 (codes "type is T.untyped") ∷ []))
    × (Reports MALFORMED_SIG (error (at 32 48) 7014 (codes "type is T.untyped") ∷ []))
    × (Reports PRIVATE_METHOD (error (at 63 64) 7017 (codes "method g has no sig") ∷ []))
    × (Reports SIG_AT_TOP (error (at 0 7) 7003 (codes "method include does not exist on Object") ∷ error (at 12 15) 7003 (codes
    "method sig does not exist on Object") ∷ error (at 27 28) 7017 (codes "method f has no sig") ∷ []))
    × (Reports DECLARING_CALLS (error (at 63 64) 7006 (codes "unreachable code") ∷ []))
    × (Reports OWN_VARIABLES (error (at 16 17) 7003 (codes "method x does not exist on T.class_of(A)") ∷ error (at 28 29) 7017 (codes
    "method f has no sig") ∷ error (at 31 32) 7003 (codes "method x does not exist on Object") ∷ []))

-- ---- default values

-- a default must be a subtype of its parameter, with the method's name
-- `class A; sig { params(a: Integer).returns(Integer) }; def f(a = "a"); 1; end; end`
abbrev pub WRONG_DEFAULT : Program
WRONG_DEFAULT N P s =
    s.body 0 81
    ((s.make (Node-F.Class (record { name = codes "A"; span = at 6 7 } ∷ []) None (s.body 9 76 ((s.make (Node-F.Call (codes "sig") (at 9
    12) None (Some (record {
      parameters = [];
      body = (s.body 15 50 ((s.send 15 50 (s.make (Node-F.Call (codes "params") (at 15 21) (Some
          ((argument.Keyword (codes "a") (at 22 24) (s.constant (codes "Integer") 25)) ∷ [])) None (at 15 33))) (codes "returns") 34
          ((s.constant (codes "Integer") 42) ∷ [])) ∷ []));
      span = at 13 52;
    })) (at 9 52))) ∷ (s.make (Node-F.Def None false (codes "f") (at 58
    59) (record { kind = kind.Optional; name = codes "a"; span = at 60 61; default = Some (s.text (codes "a") 64) } ∷ []) (record {
      body =
          (s.body 70 71 ((s.whole (codes "1") 70) ∷ []));
      rescues = [];
      otherwise = None;
      ensure = None;
    }) (at 54 76))) ∷ [])) (at 0 81))) ∷ [])

-- after it the environment is the join of those before and after it
-- `class A; def f(a = (x = 1), d: x); T.reveal_type(x); end; end`
abbrev pub AFTER_DEFAULT : Program
AFTER_DEFAULT N P s =
    s.body 0 61
    ((s.make (Node-F.Class (record { name = codes "A"; span = at 6 7 } ∷ []) None (s.body 9 56 ((s.make (Node-F.Def None false (codes "f")
    (at 13 14) (record {
      kind = kind.Optional;
      name = codes "a";
      span = at 15 16;
      default = Some (s.parens 19 26 (s.body 20 25 ((s.assign
          20 25 (s.name (codes "x") 20) (s.whole (codes "1") 24)) ∷ [])));
    } ∷ record {
      kind = kind.KeyOptional;
      name = codes "d";
      span = at 28
          30;
      default = Some (s.name (codes "x") 31);
    } ∷ []) (record {
      body = (s.body 35 51 ((s.reveal 35 51 (s.name (codes "x") 49)) ∷ []));
      rescues = [];
      otherwise = None;
      ensure = None;
    }) (at 9 56))) ∷ [])) (at 0 61))) ∷ [])

-- a default sees earlier parameters alone
-- `class A; def f(a = 1, d = a, e = g, g = 2); 1; end; end`
abbrev pub EARLIER_PARAMETERS : Program
EARLIER_PARAMETERS N P s =
    s.body 0 55
    ((s.make (Node-F.Class (record { name = codes "A"; span = at 6 7 } ∷ []) None (s.body 9 50 ((s.make (Node-F.Def None false (codes "f")
    (at 13 14) (record { kind = kind.Optional; name = codes "a"; span = at 15 16; default = Some (s.whole (codes "1") 19) } ∷ record {
      kind = kind.Optional;
      name = codes "d";
      span = at 22 23;
      default = Some (s.name (codes "a") 26);
    } ∷ record {
      kind = kind.Optional;
      name = codes "e";
      span = at 29 30;
      default = Some (s.name (codes "g") 33);
    } ∷ record {
      kind = kind.Optional;
      name = codes "g";
      span =
          at 36 37;
      default = Some (s.whole (codes "2") 40);
    } ∷ []) (record {
      body = (s.body 44 45 ((s.whole (codes "1") 44) ∷ []));
      rescues =
          [];
      otherwise = None;
      ensure = None;
    }) (at 9 50))) ∷ [])) (at 0 55))) ∷ [])

abbrev pub DefaultsAreJudged : Type 0
DefaultsAreJudged =
    (Reports WRONG_DEFAULT (error (at 64 67) 7002 (codes "argument a of f expects Integer, found String") ∷ []))
    × (Reports AFTER_DEFAULT (error (at 13 14) 7017 (codes "method f has no sig") ∷ error (at 35 51) 7014 (codes
    "type is T.nilable(Integer)") ∷ []))
    × (Reports EARLIER_PARAMETERS (error (at 13 14) 7017 (codes "method f has no sig") ∷ error (at 33 34) 7003 (codes
    "method g does not exist on A") ∷ []))

-- ---- programs as people write them

-- nil is narrowed away by `if`
-- `class A; sig { params(x: T.nilable(String)).void }; def go(x); x.length; if x; x.length; end; end; end`
abbrev pub LENGTH_OF_NIL : Program
LENGTH_OF_NIL N P s =
    s.body 0 102
    ((s.make (Node-F.Class (record { name = codes "A"; span = at 6 7 } ∷ []) None (s.body 9 97 ((s.make (Node-F.Call (codes "sig") (at 9
    12) None (Some (record {
      parameters = [];
      body = (s.body 15 48 ((s.call 15 48 (s.make (Node-F.Call (codes "params") (at 15 21) (Some
          ((argument.Keyword (codes "x") (at 22 24) (s.send 25 42 (s.constant (codes "T") 25) (codes "nilable") 27 ((s.constant (codes "String")
          35) ∷ []))) ∷ [])) None (at 15 43))) (codes "void") 44) ∷ []));
      span = at 13 50;
    })) (at 9 50))) ∷ (s.make (Node-F.Def None false
    (codes "go") (at 56 58) (record { kind = kind.Required; name = codes "x"; span = at 59 60; default = None } ∷ []) (record {
      body =
          (s.body 63 92 ((s.call 63 71 (s.name (codes "x") 63) (codes "length") 65) ∷ (s.make (Node-F.If sense.Positive (s.name (codes "x") 76)
          (s.body 79 87 ((s.call 79 87 (s.name (codes "x") 79) (codes "length") 81) ∷ [])) [] None (at 73 92))) ∷ []));
      rescues = [];
      otherwise
          = None;
      ensure = None;
    }) (at 52 97))) ∷ [])) (at 0 102))) ∷ [])

-- unreachable code is reported once
-- `def f; return 1; if f; 2; end; 3; end`
abbrev pub AFTER_A_RETURN : Program
AFTER_A_RETURN N P s =
    s.body 0 37
    ((s.make (Node-F.Def None false (codes "f") (at 4 5) [] (record {
      body = (s.body 7 32 ((s.make (Node-F.Jump jump.Return (Some (s.whole
          (codes "1") 14)) (at 7 15))) ∷ (s.make (Node-F.If sense.Positive (s.name (codes "f") 20) (s.body 23 24 ((s.whole (codes "2") 23) ∷
          [])) [] None (at 17 29))) ∷ (s.whole (codes "3") 31) ∷ []));
      rescues = [];
      otherwise = None;
      ensure = None;
    }) (at 0 37))) ∷ [])

-- an array of both is no array of one or the other
-- `x = [A.new, "a"]; T.let(x, T.any(T::Array[A], T::Array[String]))`
abbrev pub ARRAY_OF_ANY : Program
ARRAY_OF_ANY N P s =
    s.body 0 64
    ((s.assign 0 16 (s.name (codes "x") 0) (s.make (Node-F.Array ((s.call 5 10 (s.constant (codes "A") 5) (codes "new") 7) ∷ (s.text
    (codes "a") 12) ∷ []) (at 4 16))))
    ∷ (s.send 18 64 (s.constant (codes "T") 18) (codes "let") 20 ((s.name (codes "x") 24) ∷ (s.send 27 63 (s.constant (codes "T") 27)
    (codes "any") 29 ((s.make (Node-F.Post (s.constant (codes "T") 33) (suffix.Constant (codes "Array") (at 36 41) (at 34 41) ∷
    suffix.Index ((argument.Positional (s.constant (codes "A") 42)) ∷ []) (at 41 44) ∷ []) (at 33 44))) ∷ (s.make (Node-F.Post (s.constant
    (codes "T") 46) (suffix.Constant (codes "Array") (at 49 54) (at 47 54) ∷ suffix.Index ((argument.Positional (s.constant (codes
    "String") 55)) ∷ []) (at 54 62) ∷ []) (at 46 62))) ∷ [])) ∷ [])) ∷ [])

-- what strict and strong levels show
-- `class A; def m(x); x.go; @y; end; end`
abbrev pub STRONG : Program
STRONG N P s =
    s.body 0 37
    ((s.make (Node-F.Class (record { name = codes "A"; span = at 6 7 } ∷ []) None (s.body 9 32 ((s.make (Node-F.Def None false (codes "m")
    (at 13 14) (record { kind = kind.Required; name = codes "x"; span = at 15 16; default = None } ∷ []) (record {
      body = (s.body 19 27
          ((s.call 19 23 (s.name (codes "x") 19) (codes "go") 21) ∷ (s.ivar (codes "y") 25) ∷ []));
      rescues = [];
      otherwise = None;
      ensure =
          None;
    }) (at 9 32))) ∷ [])) (at 0 37))) ∷ [])

-- `class A; sig { params(a: Integer, k: String).returns(Integer) }; def m(a, k:); k; end; end`
abbrev pub WRONG_RESULT : Program
WRONG_RESULT N P s =
    s.body 0 90
    ((s.make (Node-F.Class (record { name = codes "A"; span = at 6 7 } ∷ []) None (s.body 9 85 ((s.make (Node-F.Call (codes "sig") (at 9
    12) None (Some (record {
      parameters = [];
      body = (s.body 15 61 ((s.send 15 61 (s.make (Node-F.Call (codes "params") (at 15 21) (Some
          ((argument.Keyword (codes "a") (at 22 24) (s.constant (codes "Integer") 25)) ∷ (argument.Keyword (codes "k") (at 34 36) (s.constant
          (codes "String") 37)) ∷ [])) None (at 15 44))) (codes "returns") 45 ((s.constant (codes "Integer") 53) ∷ [])) ∷ []));
      span = at 13 63;
    })) (at 9 63))) ∷ (s.make (Node-F.Def None false (codes "m") (at 69 70) (record {
      kind = kind.Required;
      name = codes "a";
      span = at 71
          72;
      default = None;
    } ∷ record { kind = kind.Key; name = codes "k"; span = at 74 76; default = None } ∷ []) (record {
      body = (s.body 79
          80 ((s.name (codes "k") 79) ∷ []));
      rescues = [];
      otherwise = None;
      ensure = None;
    }) (at 65 85))) ∷ [])) (at 0 90))) ∷ [])

-- the clauses of a method that reads a text
-- `class A; sig { params(s: String).returns(Integer) }; def go(s); n = nil; begin; n = s.length; rescue ArgumentError => e; T.reveal_type(n); T.reveal_type(e); n = 0; ensure; take s; end; n; end; end`
abbrev pub TEXT_AND_ENSURE : Program
TEXT_AND_ENSURE N P s =
    s.body 0 196
    ((s.make (Node-F.Class (record { name = codes "A"; span = at 6 7 } ∷ []) None (s.body 9 191 ((s.make (Node-F.Call (codes "sig") (at 9
    12) None (Some (record {
      parameters = [];
      body = (s.body 15 49 ((s.send 15 49 (s.make (Node-F.Call (codes "params") (at 15 21) (Some
          ((argument.Keyword (codes "s") (at 22 24) (s.constant (codes "String") 25)) ∷ [])) None (at 15 32))) (codes "returns") 33 ((s.constant
          (codes "Integer") 41) ∷ [])) ∷ []));
      span = at 13 51;
    })) (at 9 51))) ∷ (s.make (Node-F.Def None false (codes "go") (at 57 59) (record
    { kind = kind.Required; name = codes "s"; span = at 60 61; default = None } ∷ []) (record {
      body = (s.body 64 186 ((s.assign 64 71
          (s.name (codes "n") 64) (s.nil 68)) ∷ (s.make (Node-F.Begin (record {
            body = (s.body 80 92 ((s.assign 80 92 (s.name (codes "n") 80)
                (s.call 84 92 (s.name (codes "s") 84) (codes "length") 86)) ∷ []));
            rescues = (record {
              patterns = ((s.constant (codes
                  "ArgumentError") 101) ∷ []);
              variable = (Some (record { name = codes "e"; span = at 118 119 }));
              body = (s.body 121 162 ((s.reveal 121
                  137 (s.name (codes "n") 135)) ∷ (s.reveal 139 155 (s.name (codes "e") 153)) ∷ (s.assign 157 162 (s.name (codes "n") 157) (s.whole
                  (codes "0") 161)) ∷ []));
            } ∷ []);
            otherwise = None;
            ensure = (Some (s.body 172 178 ((s.make (Node-F.Command (s.name (codes "take")
                172) ((argument.Positional (s.name (codes "s") 177)) ∷ []) None (at 172 178))) ∷ [])));
          }) (at 73 183))) ∷ (s.name (codes "n") 185) ∷
          []));
      rescues = [];
      otherwise = None;
      ensure = None;
    }) (at 53 191))) ∷ [])) (at 0 196))) ∷ [])

abbrev pub UsualPrograms : Type 0
UsualPrograms =
    (Reports LENGTH_OF_NIL (error (at 65 71) 7003 (codes "method length does not exist on NilClass") ∷ []))
    × (Reports AFTER_A_RETURN (error (at 4 5) 7017 (codes "method f has no sig") ∷ error (at 17 29) 7006 (codes "unreachable code") ∷ []))
    × (Reports ARRAY_OF_ANY (error (at 24 25) 7007 (codes
    "expected T.any(T::Array[A], T::Array[String]), found T::Array[T.any(A, String)]") ∷ []))
    × (Reports STRONG (error (at 13 14) 7017 (codes "method m has no sig") ∷ error (at 21 23) 7018 (codes
    "call of go on an untyped receiver") ∷ error (at 25 27) 6002 (codes "instance variable @y is not declared") ∷ []))
    × (Reports WRONG_RESULT (error (at 79 80) 7005 (codes "result expects Integer, found String") ∷ []))
    × (Reports TEXT_AND_ENSURE (error (at 121 137) 7014 (codes "type is T.nilable(Integer)") ∷ error (at 139 155) 7014 (codes
    "type is ArgumentError") ∷ []))
