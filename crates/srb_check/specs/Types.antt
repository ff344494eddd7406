-- The errors of types in a program, under the facts of its project.
use Rattle.std.specs.Prelude.{List}
use Rattle.srb_terms.specs.declared.diag.Diag.{Diag}
use Rattle.srb_terms.specs.declared.fact.Fact.{Fact}
use Rattle.srb_terms.specs.declared.level.Level.{Level}
use Rattle.rb_tree.specs.declared.syntax.Tree.{Tree}
use Rattle.rb_rewrite.specs.Rewriting.{attrs_of}
use Rattle.srb_rules.specs.Parents.{extended_of}
use Rattle.srb_rules.specs.Values.{value_type}
use Rattle.srb_sig.specs.Views.{view_of}
use Rattle.srb_table.specs.Members.{ivar_of, method_of, reads_by}
use Rattle.srb_judgement.specs.Judgements.{errors_at}
use Rattle.srb_language.specs.Asked.{language_of}
use Rattle.srb_language.specs.Knowledge.{Knowledge}

-- what the judgement of types knows of a project, by what its facts say
abbrev pub knowledge_of : List Fact → Knowledge
knowledge_of facts = record {
  view = view_of facts;
  extended = extended_of facts;
  method = method_of facts;
  ivar = ivar_of facts;
  value = value_type (reads_by (view_of facts)) facts;
}

-- those of the judgement of the program's tree that the level shows, after the rewriting of attributes and initializers
unfoldable pub type_errors : List Fact → Level → Tree → List Diag
type_errors facts level tree = errors_at (language_of (knowledge_of facts)) level (attrs_of tree)
