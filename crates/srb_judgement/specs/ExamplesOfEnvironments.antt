-- Programs whose errors tell what an environment holds, and which expressions are unreachable.
use Rattle.std.specs.Prelude.{false, [], ◌∷◌, codes, Some, None}
use Rattle.rb_tree.specs.declared.syntax.Jump.TheVariants as jump
use Rattle.rb_tree.specs.declared.syntax.Modifier.TheVariants as modifier
use Rattle.rb_tree.specs.declared.syntax.Test.TheVariants as sense
use Rattle.rb_tree.specs.declared.syntax.Node.TheOpen.{Node-F}
use Rattle.srb_judgement.specs.ExampleTrees.{Program, Reports, at}
use Rattle.srb_judgement.specs.Errors.{error}

-- ---- dead and silent environments

-- only the first expression in a dead environment
-- `return; 1; 2`
abbrev pub AFTER_RETURN : Program
AFTER_RETURN N P s =
    s.body 0 12
    ((s.make (Node-F.Jump jump.Return None (at 0 6)))
    ∷ (s.whole (codes "1") 8)
    ∷ (s.whole (codes "2") 11) ∷ [])

-- a type `T.noreturn` ends the environment; the place is the whole expression
-- `raise; x = 1; x`
abbrev pub AFTER_RAISE : Program
AFTER_RAISE N P s =
    s.body 0 15
    ((s.name (codes "raise") 0)
    ∷ (s.assign 7 12 (s.name (codes "x") 7) (s.whole (codes "1") 11))
    ∷ (s.name (codes "x") 14) ∷ [])

-- dead with dead is dead
-- `if c; return; else; return; end; 1`
abbrev pub BOTH_BRANCHES_DEAD : Program
BOTH_BRANCHES_DEAD N P s =
    s.body 0 34
    ((s.make (Node-F.If sense.Positive (s.name (codes "c") 3) (s.body 6 12 ((s.make (Node-F.Jump jump.Return None (at 6 12))) ∷ [])) []
    (Some (s.body 20 26 ((s.make (Node-F.Jump jump.Return None (at 20 26))) ∷ []))) (at 0 31)))
    ∷ (s.whole (codes "1") 33) ∷ [])

-- dead with silent is silent
-- `if c; return; 1; else; return; end; 2`
abbrev pub ONE_BRANCH_SILENT : Program
ONE_BRANCH_SILENT N P s =
    s.body 0 37
    ((s.make (Node-F.If sense.Positive (s.name (codes "c") 3) (s.body 6 15 ((s.make (Node-F.Jump jump.Return None (at 6 12))) ∷ (s.whole
    (codes "1") 14) ∷ [])) [] (Some (s.body 23 29 ((s.make (Node-F.Jump jump.Return None (at 23 29))) ∷ []))) (at 0 34)))
    ∷ (s.whole (codes "2") 36) ∷ [])

-- a declaration is no expression
-- `return; def f; end; 1`
abbrev pub DECLARATIONS_ARE_REACHED : Program
DECLARATIONS_ARE_REACHED N P s =
    s.body 0 21
    ((s.make (Node-F.Jump jump.Return None (at 0 6)))
    ∷ (s.make (Node-F.Def None false (codes "f") (at 12 13) [] (record {
      body = (s.body 0 0 []);
      rescues = [];
      otherwise = None;
      ensure =
          None;
    }) (at 8 18)))
    ∷ (s.whole (codes "1") 20) ∷ [])

-- a call is judged also where its arguments ended the environment
-- `1.foo(raise); 2`
abbrev pub CALL_IS_JUDGED : Program
CALL_IS_JUDGED N P s =
    s.body 0 15
    ((s.send 0 12 (s.whole (codes "1") 0) (codes "foo") 2 ((s.name (codes "raise") 6) ∷ []))
    ∷ (s.whole (codes "2") 14) ∷ [])

abbrev pub UnreachableCodeIsReportedOnce : Type 0
UnreachableCodeIsReportedOnce =
    (Reports AFTER_RETURN (error (at 8 9) 7006 (codes "unreachable code") ∷ []))
    × (Reports AFTER_RAISE (error (at 7 12) 7006 (codes "unreachable code") ∷ []))
    × (Reports BOTH_BRANCHES_DEAD (error (at 33 34) 7006 (codes "unreachable code") ∷ []))
    × (Reports ONE_BRANCH_SILENT (error (at 14 15) 7006 (codes "unreachable code") ∷ []))
    × (Reports DECLARATIONS_ARE_REACHED (error (at 20 21) 7006 (codes "unreachable code") ∷ error (at 12 13) 7017 (codes
    "method f has no sig") ∷ []))
    × (Reports CALL_IS_JUDGED (error (at 2 5) 7003 (codes "method foo does not exist on Integer") ∷ error (at 14 15) 7006 (codes
    "unreachable code") ∷ []))

-- ---- joins and absent variables

-- an absent variable has `NilClass`
-- `x = 1 if c; T.reveal_type(x)`
abbrev pub ABSENT_IS_NIL : Program
ABSENT_IS_NIL N P s =
    s.body 0 28
    ((s.modified 0 10 (s.assign 0 5 (s.name (codes "x") 0) (s.whole (codes "1") 4)) modifier.If (s.name (codes "c") 9))
    ∷ (s.reveal 12 28 (s.name (codes "x") 26)) ∷ [])

-- `if c; x = 1; else; x = "a"; end; T.reveal_type(x)`
abbrev pub JOINED_TYPES : Program
JOINED_TYPES N P s =
    s.body 0 49
    ((s.make (Node-F.If sense.Positive (s.name (codes "c") 3) (s.body 6 11 ((s.assign 6 11 (s.name (codes "x") 6) (s.whole (codes "1")
    10)) ∷ [])) [] (Some (s.body 19 26 ((s.assign 19 26 (s.name (codes "x") 19) (s.text (codes "a") 23)) ∷ []))) (at 0 31)))
    ∷ (s.reveal 33 49 (s.name (codes "x") 47)) ∷ [])

-- live with dead is the live one
-- `if c; x = 1; else; return; end; T.reveal_type(x)`
abbrev pub LIVE_WITH_DEAD : Program
LIVE_WITH_DEAD N P s =
    s.body 0 48
    ((s.make (Node-F.If sense.Positive (s.name (codes "c") 3) (s.body 6 11 ((s.assign 6 11 (s.name (codes "x") 6) (s.whole (codes "1")
    10)) ∷ [])) [] (Some (s.body 19 25 ((s.make (Node-F.Jump jump.Return None (at 19 25))) ∷ []))) (at 0 30)))
    ∷ (s.reveal 32 48 (s.name (codes "x") 46)) ∷ [])

-- an empty body has `NilClass`
-- `x = if c; else; 1; end; T.reveal_type(x)`
abbrev pub EMPTY_BODY : Program
EMPTY_BODY N P s =
    s.body 0 40
    ((s.assign 0 22 (s.name (codes "x") 0) (s.make (Node-F.If sense.Positive (s.name (codes "c") 7) (s.body 0 0 []) [] (Some (s.body 16 17
    ((s.whole (codes "1") 16) ∷ []))) (at 4 22))))
    ∷ (s.reveal 24 40 (s.name (codes "x") 38)) ∷ [])

abbrev pub EnvironmentsAreJoined : Type 0
EnvironmentsAreJoined =
    (Reports ABSENT_IS_NIL (error (at 12 28) 7014 (codes "type is T.nilable(Integer)") ∷ []))
    × (Reports JOINED_TYPES (error (at 33 49) 7014 (codes "type is T.any(Integer, String)") ∷ []))
    × (Reports LIVE_WITH_DEAD (error (at 32 48) 7014 (codes "type is Integer") ∷ []))
    × (Reports EMPTY_BODY (error (at 24 40) 7014 (codes "type is T.nilable(Integer)") ∷ []))
