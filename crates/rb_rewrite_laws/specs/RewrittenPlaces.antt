-- The places in a rewritten tree at which errors of the judgement can stand.
use Rattle.std.specs.Prelude.{List}
use Rattle.rb_tree.specs.declared.syntax.Tree.{Tree}
use Rattle.rb_tree.specs.declared.token.Token.{Token}
use Rattle.rb_rewrite.specs.Rewriting.{attrs_of}
use Rattle.rb_places_laws.specs.ErrorPlaces.{HasErrorPlaces}
use Rattle.rb_places_laws.specs.TokenPlaces.{IsPlaceOfError}

-- They are places of the tokens, where those in the tree as it is written are.
abbrev pub RewritingKeepsErrorPlaces : Type 0
RewritingKeepsErrorPlaces =
    (tokens : List Token) (t : Tree) → HasErrorPlaces (IsPlaceOfError tokens) t → HasErrorPlaces (IsPlaceOfError tokens) (attrs_of t)
