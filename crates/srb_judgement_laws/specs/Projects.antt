-- Where the errors of the judgement of a program of a project stand.
use Rattle.std.specs.Prelude.{List}
use Rattle.rb_tree.specs.declared.syntax.Tree.{Tree}
use Rattle.rb_tree.specs.declared.token.Token.{Token}
use Rattle.rb_grammar.specs.Places.{Each, StandsAt}
use Rattle.srb_judgement.specs.Judgements.{errors_of}
use Rattle.srb_language.specs.Asked.{language_of}
use Rattle.srb_language.specs.Knowledge.{Knowledge}
use Rattle.srb_judgement_laws.specs.Placed.{IsErrorPlaced, CallsStand}

-- The errors of a call, as a project answers it, stand where the call's name and its arguments do.
abbrev pub CallsOfProjectsStand : Type 0
CallsOfProjectsStand = (tokens : List Token) (k : Knowledge) → CallsStand tokens (language_of k)

-- Whatever is known of the project, the errors of the judgement of a tree that stands at tokens have their places there.
abbrev pub ProjectsAreJudgedAtTokens : Type 0
ProjectsAreJudgedAtTokens =
    (tokens : List Token) (k : Knowledge) (t : Tree) → StandsAt tokens t → Each (IsErrorPlaced tokens) (errors_of (language_of k) t)
