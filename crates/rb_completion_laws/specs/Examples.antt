-- A few tokens that are refused, with those that are left.
use Rattle.std.specs.Prelude.{◌≡◌, List, [], ◌∷◌, ◌++◌, codes, Err}
use Rattle.rb_tree.specs.declared.token.Token.{Token}
use Rattle.rb_tree.specs.declared.token.TokenKind.{TokenKind}
use Rattle.rb_tree.specs.declared.token.TokenKind.TheVariants as kind
use Rattle.rb_decl.specs.Programs.{program}
use Rattle.rb_rules.specs.Grammar.{Begins}

-- With the second list after the first, the second is refused. The first begins a program.
abbrev pub RefusedAt : List Token → List Token → Type 0
RefusedAt before rest = (program 9 (before ++ rest) ≡ Err rest) × Begins before

abbrev pub token : TokenKind → Token
token k = record { kind = k; span = record { start = 0; end = 0 } }

abbrev pub x : Token
x = token (kind.Identifier (codes "x"))

-- `! - )`: a number may stand after the sign
abbrev pub SignRefused : Type 0
SignRefused = RefusedAt (token kind.Not ∷ token kind.Minus ∷ []) (token kind.CloseParen ∷ [])

-- `x { | x , x |`: another name may stand there
abbrev pub NameRefused : Type 0
NameRefused = RefusedAt (x ∷ token kind.OpenBrace ∷ token kind.Pipe ∷ x ∷ token kind.Comma ∷ []) (x ∷ token kind.Pipe ∷ [])

-- `x (`: more is wanted
abbrev pub EndRefused : Type 0
EndRefused = RefusedAt (x ∷ token kind.OpenParen ∷ []) []

-- `begin x rescue`: a separator is wanted before the `rescue`
abbrev pub GuardRefused : Type 0
GuardRefused = RefusedAt (token kind.Begin ∷ x ∷ []) (token kind.Rescue ∷ [])

-- `begin end while x`: the `while` makes no loop of a `begin`
abbrev pub LoopRefused : Type 0
LoopRefused = RefusedAt (token kind.Begin ∷ token kind.End ∷ []) (token kind.While ∷ x ∷ [])
