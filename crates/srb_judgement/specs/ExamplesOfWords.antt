-- Programs whose errors tell the types of literals, constants, variables and `self`.
use Rattle.std.specs.Prelude.{true, false, [], ◌∷◌, codes, Some, None}
use Rattle.rb_tree.specs.declared.syntax.Pair.TheVariants as pair
use Rattle.rb_tree.specs.declared.syntax.Piece.TheVariants as piece
use Rattle.rb_tree.specs.declared.syntax.Sign.TheVariants as sign
use Rattle.rb_tree.specs.declared.syntax.Suffix.TheVariants as suffix
use Rattle.rb_tree.specs.declared.syntax.Node.TheOpen.{Node-F}
use Rattle.srb_judgement.specs.ExampleTrees.{Program, Reports, at}
use Rattle.srb_judgement.specs.Errors.{error}

-- ---- literals

-- `T.reveal_type(1); T.reveal_type(1.5); T.reveal_type("a"); T.reveal_type(:a); T.reveal_type(nil); T.reveal_type(true); T.reveal_type(-1)`
abbrev pub LITERALS : Program
LITERALS N P s =
    s.body 0 135
    ((s.reveal 0 16 (s.whole (codes "1") 14))
    ∷ (s.reveal 18 36 (s.float (codes "1.5") 32))
    ∷ (s.reveal 38 56 (s.text (codes "a") 52))
    ∷ (s.reveal 58 75 (s.symbol (codes "a") 72))
    ∷ (s.reveal 77 95 (s.nil 91))
    ∷ (s.reveal 97 116 (s.make (Node-F.True (at 111 115))))
    ∷ (s.reveal 118 135 (s.make (Node-F.Whole (Some sign.Minus) (codes "1") (at 132 134)))) ∷ [])

-- an array of the `T.any` of its parts; an empty one has `T.untyped`
-- `T.reveal_type([1, "a"]); T.reveal_type([])`
abbrev pub ARRAYS : Program
ARRAYS N P s =
    s.body 0 42
    ((s.reveal 0 23 (s.make (Node-F.Array ((s.whole (codes "1") 15) ∷ (s.text (codes "a") 18) ∷ []) (at 14 22))))
    ∷ (s.reveal 25 42 (s.make (Node-F.Array [] (at 39 41)))) ∷ [])

-- a hash likewise; a label is a Symbol
-- `T.reveal_type({b: 1, "c" => nil}); T.reveal_type({})`
abbrev pub HASHES : Program
HASHES N P s =
    s.body 0 52
    ((s.reveal 0 33 (s.make (Node-F.Hash (pair.Label (codes "b") (at 15 17) (s.whole (codes "1") 18) ∷ pair.Arrow (s.text (codes "c") 21)
    (s.nil 28) ∷ []) (at 14 32))))
    ∷ (s.reveal 35 52 (s.make (Node-F.Hash [] (at 49 51)))) ∷ [])

-- interpolations are judged in order, and belong to the body around
-- `"b#{x = 1}"; T.reveal_type(x)`
abbrev pub INTERPOLATIONS : Program
INTERPOLATIONS N P s =
    s.body 0 29
    ((s.make (Node-F.Text (piece.Words (codes "b") (at 0 2) ∷ piece.Code (s.body 4 9 ((s.assign 4 9 (s.name (codes "x") 4) (s.whole (codes
    "1") 8)) ∷ [])) (at 2 10) ∷ piece.Words [] (at 10 11) ∷ []) (at 0 11)))
    ∷ (s.reveal 13 29 (s.name (codes "x") 27)) ∷ [])

abbrev pub LiteralsHaveTheirClasses : Type 0
LiteralsHaveTheirClasses =
    (Reports LITERALS (error (at 0 16) 7014 (codes "type is Integer") ∷ error (at 18 36) 7014 (codes "type is Float") ∷ error (at 38 56)
    7014 (codes "type is String") ∷ error (at 58 75) 7014 (codes "type is Symbol") ∷ error (at 77 95) 7014 (codes "type is NilClass") ∷
    error (at 97 116) 7014 (codes "type is TrueClass") ∷ error (at 118 135) 7014 (codes "type is Integer") ∷ []))
    × (Reports ARRAYS (error (at 0 23) 7014 (codes "type is T::Array[T.any(Integer, String)]") ∷ error (at 25 42) 7014 (codes
    "type is T::Array[T.untyped]") ∷ []))
    × (Reports HASHES (error (at 0 33) 7014 (codes "type is T::Hash[T.any(String, Symbol), T.nilable(Integer)]") ∷ error (at 35 52) 7014
    (codes "type is T::Hash[T.untyped, T.untyped]") ∷ []))
    × (Reports INTERPOLATIONS (error (at 13 29) 7014 (codes "type is Integer") ∷ []))

-- ---- `self`

-- `T.reveal_type(self)`
abbrev pub SELF_AT_TOP : Program
SELF_AT_TOP N P s =
    s.body 0 19
    ((s.reveal 0 19 (s.self_word 14)) ∷ [])

-- the class object in a class body and in `def self.`, an instance in a method
-- `class A; T.reveal_type(self); def f; T.reveal_type(self); end; def self.g; T.reveal_type(self); end; end`
abbrev pub SELF_IN_CLASS : Program
SELF_IN_CLASS N P s =
    s.body 0 104
    ((s.make (Node-F.Class (record { name = codes "A"; span = at 6 7 } ∷ []) None (s.body 9 99 ((s.reveal 9 28 (s.self_word 23)) ∷ (s.make
    (Node-F.Def None false (codes "f") (at 34 35) [] (record {
      body = (s.body 37 56 ((s.reveal 37 56 (s.self_word 51)) ∷ []));
      rescues =
          [];
      otherwise = None;
      ensure = None;
    }) (at 30 61))) ∷ (s.make (Node-F.Def None true (codes "g") (at 72 73) [] (record {
      body = (s.body
          75 94 ((s.reveal 75 94 (s.self_word 89)) ∷ []));
      rescues = [];
      otherwise = None;
      ensure = None;
    }) (at 63 99))) ∷ [])) (at 0 104))) ∷ [])

-- a method at top level belongs to `Object`
-- `def f; T.reveal_type(self); end`
abbrev pub METHOD_AT_TOP : Program
METHOD_AT_TOP N P s =
    s.body 0 31
    ((s.make (Node-F.Def None false (codes "f") (at 4 5) [] (record {
      body = (s.body 7 26 ((s.reveal 7 26 (s.self_word 21)) ∷ []));
      rescues = [];
      otherwise = None;
      ensure = None;
    }) (at 0 31))) ∷ [])

abbrev pub SelfIsTheOwner : Type 0
SelfIsTheOwner =
    (Reports SELF_AT_TOP (error (at 0 19) 7014 (codes "type is Object") ∷ []))
    × (Reports SELF_IN_CLASS (error (at 9 28) 7014 (codes "type is T.class_of(A)") ∷ error (at 34 35) 7017 (codes "method f has no sig") ∷
    error (at 37 56) 7014 (codes "type is A") ∷ error (at 72 73) 7017 (codes "method g has no sig") ∷ error (at 75 94) 7014 (codes
    "type is T.class_of(A)") ∷ []))
    × (Reports METHOD_AT_TOP (error (at 4 5) 7017 (codes "method f has no sig") ∷ error (at 7 26) 7014 (codes "type is Object") ∷ []))

-- ---- constants

-- a class or module has `T.class_of` it, a value constant its type, an unresolved one `T.untyped`
-- `T.reveal_type(A); T.reveal_type(M); T.reveal_type(V); T.reveal_type(Nope); T.reveal_type(::A)`
abbrev pub CONSTANTS : Program
CONSTANTS N P s =
    s.body 0 93
    ((s.reveal 0 16 (s.constant (codes "A") 14))
    ∷ (s.reveal 18 34 (s.constant (codes "M") 32))
    ∷ (s.reveal 36 52 (s.constant (codes "V") 50))
    ∷ (s.reveal 54 73 (s.constant (codes "Nope") 68))
    ∷ (s.reveal 75 93 (s.make (Node-F.TopConstant (codes "A") (at 91 92) (at 89 92)))) ∷ [])

-- a constant is looked up from the bodies around
-- `module A; T.reveal_type(W); end; T.reveal_type(W)`
abbrev pub CONSTANT_IN_SCOPE : Program
CONSTANT_IN_SCOPE N P s =
    s.body 0 49
    ((s.make (Node-F.Module (record { name = codes "A"; span = at 7 8 } ∷ []) (s.body 10 26 ((s.reveal 10 26 (s.constant (codes "W") 24))
    ∷ [])) (at 0 31)))
    ∷ (s.reveal 33 49 (s.constant (codes "W") 47)) ∷ [])

-- `e::X` with an e that is no path is judged and has `T.untyped`
-- `T.reveal_type(int("a")::X)`
abbrev pub CONSTANT_OF_VALUE : Program
CONSTANT_OF_VALUE N P s =
    s.body 0 26
    ((s.reveal 0 26 (s.make (Node-F.Post (s.own 14 22 (codes "int") ((s.text (codes "a") 18) ∷ [])) (suffix.Constant (codes "X") (at 24
    25) (at 22 25) ∷ []) (at 14 25)))) ∷ [])

abbrev pub ConstantsHaveTypes : Type 0
ConstantsHaveTypes =
    (Reports CONSTANTS (error (at 0 16) 7014 (codes "type is T.class_of(A)") ∷ error (at 18 34) 7014 (codes "type is T.class_of(M)") ∷
    error (at 36 52) 7014 (codes "type is String") ∷ error (at 54 73) 7014 (codes "type is T.untyped") ∷ error (at 75 93) 7014 (codes
    "type is T.class_of(A)") ∷ []))
    × (Reports CONSTANT_IN_SCOPE (error (at 33 49) 7014 (codes "type is T.untyped") ∷ error (at 10 26) 7014 (codes "type is Integer") ∷
    []))
    × (Reports CONSTANT_OF_VALUE (error (at 18 21) 7002 (codes "argument arg0 of int expects Integer, found String") ∷ error (at 0 26)
    7014 (codes "type is T.untyped") ∷ []))

-- ---- instance variables

-- `@x` has its declared type, else `T.untyped` and 6002
-- `class A; def f; T.reveal_type(@x); T.reveal_type(@y); end; end`
abbrev pub DECLARED : Program
DECLARED N P s =
    s.body 0 62
    ((s.make (Node-F.Class (record { name = codes "A"; span = at 6 7 } ∷ []) None (s.body 9 57 ((s.make (Node-F.Def None false (codes "f")
    (at 13 14) [] (record {
      body = (s.body 16 52 ((s.reveal 16 33 (s.ivar (codes "x") 30)) ∷ (s.reveal 35 52 (s.ivar (codes "y") 49)) ∷
          []));
      rescues = [];
      otherwise = None;
      ensure = None;
    }) (at 9 57))) ∷ [])) (at 0 62))) ∷ [])

-- in a class body it is one of the class object
-- `class A; T.reveal_type(@x); end`
abbrev pub OF_CLASS_OBJECT : Program
OF_CLASS_OBJECT N P s =
    s.body 0 31
    ((s.make (Node-F.Class (record { name = codes "A"; span = at 6 7 } ∷ []) None (s.body 9 26 ((s.reveal 9 26 (s.ivar (codes "x") 23)) ∷
    [])) (at 0 31))) ∷ [])

-- `@x = e` with a declared X needs a subtype of X; without one it is free
-- `class A; def f; @x = "a"; @y = "a"; end; end`
abbrev pub ASSIGNED_WRONG : Program
ASSIGNED_WRONG N P s =
    s.body 0 44
    ((s.make (Node-F.Class (record { name = codes "A"; span = at 6 7 } ∷ []) None (s.body 9 39 ((s.make (Node-F.Def None false (codes "f")
    (at 13 14) [] (record {
      body = (s.body 16 34 ((s.assign 16 24 (s.ivar (codes "x") 16) (s.text (codes "a") 21)) ∷ (s.assign 26 34
          (s.ivar (codes "y") 26) (s.text (codes "a") 31)) ∷ []));
      rescues = [];
      otherwise = None;
      ensure = None;
    }) (at 9 39))) ∷ [])) (at 0
    44))) ∷ [])

abbrev pub InstanceVariablesAreDeclared : Type 0
InstanceVariablesAreDeclared =
    (Reports DECLARED (error (at 13 14) 7017 (codes "method f has no sig") ∷ error (at 16 33) 7014 (codes "type is Integer") ∷ error (at
    49 51) 6002 (codes "instance variable @y is not declared") ∷ error (at 35 52) 7014 (codes "type is T.untyped") ∷ []))
    × (Reports OF_CLASS_OBJECT (error (at 9 26) 7014 (codes "type is String") ∷ []))
    × (Reports ASSIGNED_WRONG (error (at 13 14) 7017 (codes "method f has no sig") ∷ error (at 21 24) 7007 (codes
    "expected Integer, found String") ∷ []))
