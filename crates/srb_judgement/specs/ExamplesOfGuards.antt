-- Programs whose errors tell what `rescue`, `else` and `ensure` see.
use Rattle.std.specs.Prelude.{false, [], ◌∷◌, codes, Some, None}
use Rattle.rb_tree.specs.declared.syntax.Jump.TheVariants as jump
use Rattle.rb_tree.specs.declared.syntax.Modifier.TheVariants as modifier
use Rattle.rb_tree.specs.declared.syntax.Test.TheVariants as sense
use Rattle.rb_tree.specs.declared.syntax.Node.TheOpen.{Node-F}
use Rattle.srb_judgement.specs.ExampleTrees.{Program, Reports, at}
use Rattle.srb_judgement.specs.Errors.{error}

-- ---- `rescue`

-- a clause sees the types at the entry and all that live assignments give
-- `n = nil; begin; n = 1; rescue ArgumentError => e; T.reveal_type(n); T.reveal_type(e); n = 1; end; T.reveal_type(n)`
abbrev pub RESCUED : Program
RESCUED N P s =
    s.body 0 114
    ((s.assign 0 7 (s.name (codes "n") 0) (s.nil 4))
    ∷ (s.make (Node-F.Begin (record {
      body = (s.body 16 21 ((s.assign 16 21 (s.name (codes "n") 16) (s.whole (codes "1") 20)) ∷ []));
      rescues = (record {
        patterns = ((s.constant (codes "ArgumentError") 30) ∷ []);
        variable = (Some (record {
          name = codes "e";
          span = at
              47 48;
        }));
        body = (s.body 50 91 ((s.reveal 50 66 (s.name (codes "n") 64)) ∷ (s.reveal 68 84 (s.name (codes "e") 82)) ∷ (s.assign 86 91
            (s.name (codes "n") 86) (s.whole (codes "1") 90)) ∷ []));
      } ∷ []);
      otherwise = None;
      ensure = None;
    }) (at 9 96)))
    ∷ (s.reveal 98 114 (s.name (codes "n") 112)) ∷ [])

-- a variable that is absent at the entry has `NilClass` there
-- `begin; n = 1; rescue; T.reveal_type(n); end`
abbrev pub ABSENT_BEFORE : Program
ABSENT_BEFORE N P s =
    s.body 0 43
    ((s.make (Node-F.Begin (record {
      body = (s.body 7 12 ((s.assign 7 12 (s.name (codes "n") 7) (s.whole (codes "1") 11)) ∷ []));
      rescues
          = (record { patterns = []; variable = None; body = (s.body 22 38 ((s.reveal 22 38 (s.name (codes "n") 36)) ∷ [])) } ∷ []);
      otherwise =
          None;
      ensure = None;
    }) (at 0 43))) ∷ [])

-- only live assignments count
-- `n = nil; begin; return; n = 1; rescue; T.reveal_type(n); end`
abbrev pub LIVE_ASSIGNMENTS : Program
LIVE_ASSIGNMENTS N P s =
    s.body 0 60
    ((s.assign 0 7 (s.name (codes "n") 0) (s.nil 4))
    ∷ (s.make (Node-F.Begin (record {
      body = (s.body 16 29 ((s.make (Node-F.Jump jump.Return None (at 16 22))) ∷ (s.assign 24 29 (s.name
          (codes "n") 24) (s.whole (codes "1") 28)) ∷ []));
      rescues = (record {
        patterns = [];
        variable = None;
        body = (s.body 39 55 ((s.reveal
            39 55 (s.name (codes "n") 53)) ∷ []));
      } ∷ []);
      otherwise = None;
      ensure = None;
    }) (at 9 60))) ∷ [])

-- `=> x` has the `T.any` of the named classes, or `StandardError`, or `T.untyped`
-- `begin; 1; rescue ArgumentError, TypeError => e; T.reveal_type(e); rescue Integer => e; T.reveal_type(e); rescue => e; T.reveal_type(e); end`
abbrev pub CAUGHT : Program
CAUGHT N P s =
    s.body 0 139
    ((s.make (Node-F.Begin (record {
      body = (s.body 7 8 ((s.whole (codes "1") 7) ∷ []));
      rescues = (record {
        patterns = ((s.constant
            (codes "ArgumentError") 17) ∷ (s.constant (codes "TypeError") 32) ∷ []);
        variable = (Some (record {
          name = codes "e";
          span = at 45 46;
        }));
        body = (s.body 48 64 ((s.reveal 48 64 (s.name (codes "e") 62)) ∷ []));
      } ∷ record {
        patterns = ((s.constant (codes "Integer") 73)
            ∷ []);
        variable = (Some (record { name = codes "e"; span = at 84 85 }));
        body = (s.body 87 103 ((s.reveal 87 103 (s.name (codes "e")
            101)) ∷ []));
      } ∷ record {
        patterns = [];
        variable = (Some (record { name = codes "e"; span = at 115 116 }));
        body = (s.body 118 134
            ((s.reveal 118 134 (s.name (codes "e") 132)) ∷ []));
      } ∷ []);
      otherwise = None;
      ensure = None;
    }) (at 0 139))) ∷ [])

-- it is an assignment, its place the variable
-- `e = nil; while c; begin; 1; rescue => e; 2; end; end`
abbrev pub CAUGHT_IS_PINNED : Program
CAUGHT_IS_PINNED N P s =
    s.body 0 52
    ((s.assign 0 7 (s.name (codes "e") 0) (s.nil 4))
    ∷ (s.make (Node-F.While sense.Positive (s.name (codes "c") 15) (s.body 18 47 ((s.make (Node-F.Begin (record {
      body = (s.body 25 26
          ((s.whole (codes "1") 25) ∷ []));
      rescues = (record {
        patterns = [];
        variable = (Some (record { name = codes "e"; span = at 38 39 }));
        body = (s.body 41 42 ((s.whole (codes "2") 41) ∷ []));
      } ∷ []);
      otherwise = None;
      ensure = None;
    }) (at 18 47))) ∷ [])) (at 9 52))) ∷ [])

-- `else` is judged after the first body, and its type takes the place of the first body's
-- `n = nil; x = begin; n = 1; rescue; "a"; else; T.reveal_type(n); nil; end; T.reveal_type(x)`
abbrev pub ELSE_TYPE : Program
ELSE_TYPE N P s =
    s.body 0 90
    ((s.assign 0 7 (s.name (codes "n") 0) (s.nil 4))
    ∷ (s.assign 9 72 (s.name (codes "x") 9) (s.make (Node-F.Begin (record {
      body = (s.body 20 25 ((s.assign 20 25 (s.name (codes "n") 20)
          (s.whole (codes "1") 24)) ∷ []));
      rescues = (record {
        patterns = [];
        variable = None;
        body = (s.body 35 38 ((s.text (codes "a") 35) ∷
            []));
      } ∷ []);
      otherwise = (Some (s.body 46 67 ((s.reveal 46 62 (s.name (codes "n") 60)) ∷ (s.nil 64) ∷ [])));
      ensure = None;
    }) (at 13
    72))))
    ∷ (s.reveal 74 90 (s.name (codes "x") 88)) ∷ [])

-- the `T.any` of the live ends, and their environments joined
-- `x = begin; n = 1; rescue ArgumentError; n = "a"; rescue; return; end; T.reveal_type(x); T.reveal_type(n)`
abbrev pub ENDS_JOINED : Program
ENDS_JOINED N P s =
    s.body 0 104
    ((s.assign 0 68 (s.name (codes "x") 0) (s.make (Node-F.Begin (record {
      body = (s.body 11 16 ((s.assign 11 16 (s.name (codes "n") 11)
          (s.whole (codes "1") 15)) ∷ []));
      rescues = (record {
        patterns = ((s.constant (codes "ArgumentError") 25) ∷ []);
        variable = None;
        body
            = (s.body 40 47 ((s.assign 40 47 (s.name (codes "n") 40) (s.text (codes "a") 44)) ∷ []));
      } ∷ record {
        patterns = [];
        variable = None;
        body = (s.body 57 63 ((s.make (Node-F.Jump jump.Return None (at 57 63))) ∷ []));
      } ∷ []);
      otherwise = None;
      ensure = None;
    }) (at 4
    68))))
    ∷ (s.reveal 70 86 (s.name (codes "x") 84))
    ∷ (s.reveal 88 104 (s.name (codes "n") 102)) ∷ [])

-- the patterns are judged in order, and a body begins after its own
-- `n = nil; begin; 1; rescue (n = ArgumentError); T.reveal_type(n); rescue; T.reveal_type(n); end`
abbrev pub PATTERNS_IN_ORDER : Program
PATTERNS_IN_ORDER N P s =
    s.body 0 94
    ((s.assign 0 7 (s.name (codes "n") 0) (s.nil 4))
    ∷ (s.make (Node-F.Begin (record {
      body = (s.body 16 17 ((s.whole (codes "1") 16) ∷ []));
      rescues = (record {
        patterns = ((s.parens 26
            45 (s.body 27 44 ((s.assign 27 44 (s.name (codes "n") 27) (s.constant (codes "ArgumentError") 31)) ∷ []))) ∷ []);
        variable = None;
        body = (s.body 47 63 ((s.reveal 47 63 (s.name (codes "n") 61)) ∷ []));
      } ∷ record {
        patterns = [];
        variable = None;
        body = (s.body 73
            89 ((s.reveal 73 89 (s.name (codes "n") 87)) ∷ []));
      } ∷ []);
      otherwise = None;
      ensure = None;
    }) (at 9 94))) ∷ [])

-- in a dead environment it is one expression
-- `return; begin; 1; rescue; 2; end`
abbrev pub GUARD_UNREACHED : Program
GUARD_UNREACHED N P s =
    s.body 0 32
    ((s.make (Node-F.Jump jump.Return None (at 0 6)))
    ∷ (s.make (Node-F.Begin (record {
      body = (s.body 15 16 ((s.whole (codes "1") 15) ∷ []));
      rescues = (record {
        patterns = [];
        variable =
            None;
        body = (s.body 26 27 ((s.whole (codes "2") 26) ∷ []));
      } ∷ []);
      otherwise = None;
      ensure = None;
    }) (at 8 32))) ∷ [])

abbrev pub ClausesSeeAssignments : Type 0
ClausesSeeAssignments =
    (Reports RESCUED (error (at 50 66) 7014 (codes "type is T.nilable(Integer)") ∷ error (at 68 84) 7014 (codes "type is ArgumentError") ∷
    error (at 98 114) 7014 (codes "type is Integer") ∷ []))
    × (Reports ABSENT_BEFORE (error (at 22 38) 7014 (codes "type is T.nilable(Integer)") ∷ []))
    × (Reports LIVE_ASSIGNMENTS (error (at 24 29) 7006 (codes "unreachable code") ∷ error (at 39 55) 7014 (codes "type is NilClass") ∷
    []))
    × (Reports CAUGHT (error (at 48 64) 7014 (codes "type is T.any(ArgumentError, TypeError)") ∷ error (at 87 103) 7014 (codes
    "type is T.untyped") ∷ error (at 118 134) 7014 (codes "type is StandardError") ∷ []))
    × (Reports CAUGHT_IS_PINNED (error (at 38 39) 7001 (codes "variable e stays NilClass in a loop or block, found StandardError") ∷ []))
    × (Reports ELSE_TYPE (error (at 46 62) 7014 (codes "type is Integer") ∷ error (at 74 90) 7014 (codes "type is T.nilable(String)") ∷
    []))
    × (Reports ENDS_JOINED (error (at 70 86) 7014 (codes "type is T.any(Integer, String)") ∷ error (at 88 104) 7014 (codes
    "type is T.any(Integer, String)") ∷ []))
    × (Reports PATTERNS_IN_ORDER (error (at 47 63) 7014 (codes "type is T.class_of(ArgumentError)") ∷ error (at 73 89) 7014 (codes
    "type is T.class_of(ArgumentError)") ∷ []))
    × (Reports GUARD_UNREACHED (error (at 8 32) 7006 (codes "unreachable code") ∷ []))

-- ---- `ensure`

-- it sees the assignments of all parts before it
-- `n = nil; begin; n = 1; rescue; n = "a"; ensure; T.reveal_type(n); end`
abbrev pub ENSURE_SEES : Program
ENSURE_SEES N P s =
    s.body 0 69
    ((s.assign 0 7 (s.name (codes "n") 0) (s.nil 4))
    ∷ (s.make (Node-F.Begin (record {
      body = (s.body 16 21 ((s.assign 16 21 (s.name (codes "n") 16) (s.whole (codes "1") 20)) ∷ []));
      rescues = (record {
        patterns = [];
        variable = None;
        body = (s.body 31 38 ((s.assign 31 38 (s.name (codes "n") 31) (s.text (codes "a")
            35)) ∷ []));
      } ∷ []);
      otherwise = None;
      ensure = (Some (s.body 48 64 ((s.reveal 48 64 (s.name (codes "n") 62)) ∷ [])));
    }) (at 9 69))) ∷ [])

-- what it assigns has that type after it; its own type is dropped
-- `x = begin; n = 1; ensure; n = "a"; end; T.reveal_type(x); T.reveal_type(n)`
abbrev pub ENSURE_ASSIGNS : Program
ENSURE_ASSIGNS N P s =
    s.body 0 74
    ((s.assign 0 38 (s.name (codes "x") 0) (s.make (Node-F.Begin (record {
      body = (s.body 11 16 ((s.assign 11 16 (s.name (codes "n") 11)
          (s.whole (codes "1") 15)) ∷ []));
      rescues = [];
      otherwise = None;
      ensure = (Some (s.body 26 33 ((s.assign 26 33 (s.name (codes "n")
          26) (s.text (codes "a") 30)) ∷ [])));
    }) (at 4 38))))
    ∷ (s.reveal 40 56 (s.name (codes "x") 54))
    ∷ (s.reveal 58 74 (s.name (codes "n") 72)) ∷ [])

-- and in each jump environment that leaves the whole
-- `y = T.let(nil, T.nilable(String)); while true; begin; break; ensure; y = "a"; end; end; T.reveal_type(y)`
abbrev pub ENSURE_IN_JUMP : Program
ENSURE_IN_JUMP N P s =
    s.body 0 104
    ((s.assign 0 33 (s.name (codes "y") 0) (s.send 4 33 (s.constant (codes "T") 4) (codes "let") 6 ((s.nil 10) ∷ (s.send 15 32 (s.constant
    (codes "T") 15) (codes "nilable") 17 ((s.constant (codes "String") 25) ∷ [])) ∷ [])))
    ∷ (s.make (Node-F.While sense.Positive (s.make (Node-F.True (at 41 45))) (s.body 47 81 ((s.make (Node-F.Begin (record {
      body = (s.body
          54 59 ((s.make (Node-F.Jump jump.Break None (at 54 59))) ∷ []));
      rescues = [];
      otherwise = None;
      ensure = (Some (s.body 69 76
          ((s.assign 69 76 (s.name (codes "y") 69) (s.text (codes "a") 73)) ∷ [])));
    }) (at 47 81))) ∷ [])) (at 35 86)))
    ∷ (s.reveal 88 104 (s.name (codes "y") 102)) ∷ [])

-- if it doesn't end live, the whole is dead
-- `begin; 1; ensure; return; end; 2`
abbrev pub ENSURE_DEAD : Program
ENSURE_DEAD N P s =
    s.body 0 32
    ((s.make (Node-F.Begin (record {
      body = (s.body 7 8 ((s.whole (codes "1") 7) ∷ []));
      rescues = [];
      otherwise = None;
      ensure = (Some
          (s.body 18 24 ((s.make (Node-F.Jump jump.Return None (at 18 24))) ∷ [])));
    }) (at 0 29)))
    ∷ (s.whole (codes "2") 31) ∷ [])

-- a whole whose `ensure` ends silent is silent
-- `begin; 1; ensure; return; 1; end; 2`
abbrev pub ENSURE_SILENT : Program
ENSURE_SILENT N P s =
    s.body 0 35
    ((s.make (Node-F.Begin (record {
      body = (s.body 7 8 ((s.whole (codes "1") 7) ∷ []));
      rescues = [];
      otherwise = None;
      ensure = (Some
          (s.body 18 27 ((s.make (Node-F.Jump jump.Return None (at 18 24))) ∷ (s.whole (codes "1") 26) ∷ [])));
    }) (at 0 32)))
    ∷ (s.whole (codes "2") 34) ∷ [])

-- then no jump leaves it, its own among them
-- `while true; begin; break; ensure; break if c; return; end; end; 1`
abbrev pub JUMPS_DROPPED : Program
JUMPS_DROPPED N P s =
    s.body 0 65
    ((s.make (Node-F.While sense.Positive (s.make (Node-F.True (at 6 10))) (s.body 12 57 ((s.make (Node-F.Begin (record {
      body = (s.body
          19 24 ((s.make (Node-F.Jump jump.Break None (at 19 24))) ∷ []));
      rescues = [];
      otherwise = None;
      ensure = (Some (s.body 34 52
          ((s.modified 34 44 (s.make (Node-F.Jump jump.Break None (at 34 39))) modifier.If (s.name (codes "c") 43)) ∷ (s.make (Node-F.Jump
          jump.Return None (at 46 52))) ∷ [])));
    }) (at 12 57))) ∷ [])) (at 0 62)))
    ∷ (s.whole (codes "1") 64) ∷ [])

-- a method's guard is its body; the place of a wrong result is then its name
-- `class A; sig { returns(Integer) }; def f; 1; rescue; "a"; end; end`
abbrev pub METHOD_GUARD : Program
METHOD_GUARD N P s =
    s.body 0 66
    ((s.make (Node-F.Class (record { name = codes "A"; span = at 6 7 } ∷ []) None (s.body 9 61 ((s.make (Node-F.Call (codes "sig") (at 9
    12) None (Some (record {
      parameters = [];
      body = (s.body 15 31 ((s.own 15 31 (codes "returns") ((s.constant (codes "Integer") 23) ∷
          [])) ∷ []));
      span = at 13 33;
    })) (at 9 33))) ∷ (s.make (Node-F.Def None false (codes "f") (at 39 40) [] (record {
      body = (s.body 42 43
          ((s.whole (codes "1") 42) ∷ []));
      rescues = (record {
        patterns = [];
        variable = None;
        body = (s.body 53 56 ((s.text (codes "a") 53) ∷
            []));
      } ∷ []);
      otherwise = None;
      ensure = None;
    }) (at 35 61))) ∷ [])) (at 0 66))) ∷ [])

abbrev pub EnsureIsJudgedOnce : Type 0
EnsureIsJudgedOnce =
    (Reports ENSURE_SEES (error (at 48 64) 7014 (codes "type is T.nilable(T.any(Integer, String))") ∷ []))
    × (Reports ENSURE_ASSIGNS (error (at 40 56) 7014 (codes "type is Integer") ∷ error (at 58 74) 7014 (codes "type is String") ∷ []))
    × (Reports ENSURE_IN_JUMP (error (at 88 104) 7014 (codes "type is String") ∷ []))
    × (Reports ENSURE_DEAD (error (at 31 32) 7006 (codes "unreachable code") ∷ []))
    × (Reports ENSURE_SILENT (error (at 26 27) 7006 (codes "unreachable code") ∷ []))
    × (Reports JUMPS_DROPPED (error (at 64 65) 7006 (codes "unreachable code") ∷ []))
    × (Reports METHOD_GUARD (error (at 39 40) 7005 (codes "result expects Integer, found T.any(Integer, String)") ∷ []))
