-- What a file declares, the facts of a project, and the errors of a program's declarations, constants, type expressions and signatures.
use Rattle.std.specs.Prelude.{ℕ, nat_lt, if◌then◌else◌, List, [], ◌++◌, length, map, chars}
use Rattle.std.specs.Str.{is_utf8}
use Rattle.srb_terms.specs.Projects.{File}
use Rattle.srb_terms.specs.declared.diag.Diag.{Diag}
use Rattle.srb_terms.specs.declared.fact.Fact.{Fact}
use Rattle.srb_terms.specs.declared.level.Level.{Level}
use Rattle.rb_lex.specs.Levels.{level_of_text}
use Rattle.rb_tree.specs.declared.syntax.Tree.{Tree}
use Rattle.srb_builtin.specs.Table.{built_in}
use Rattle.srb_conflicts.specs.Conflicts.{conflict_errors}
use Rattle.srb_declarations.specs.Declarations.{declarations_of}
use Rattle.srb_namer.specs.Facts.{summ_of}
use Rattle.srb_references.specs.MalformedTypes.{malformed_errors, types_of}
use Rattle.srb_references.specs.References.{reference_errors, references_of}
use Rattle.srb_sig.specs.Views.{view_of}
use Rattle.srb_signatures.specs.Errors.{signature_errors}
use Rattle.srb_table.specs.Steps.{facts_of}
use Rattle.srb_check.specs.declared.reading.Reading.{Reading}
use Rattle.srb_check.specs.declared.reading.Reading.TheVariants.{Program, Refused}
use Rattle.srb_check.specs.Levels.{LARGEST_FILE, hides_all, needs_signatures}
use Rattle.srb_check.specs.Readings.{read}

-- ---- facts

-- the facts of a text that is read: those of its tree, after the rewriting of attributes and initializers
abbrev pub reading_facts : Reading → List Fact
reading_facts (Refused error) = []
reading_facts (Program tree) = summ_of tree

-- the facts of a text: none at `ignore`
abbrev pub text_facts : List ℕ → List Fact
text_facts text = if hides_all (level_of_text text) then [] else reading_facts (read text)

-- the facts of a file's bytes: none where it is too large, or no text
unfoldable pub file_facts : List ℕ → List Fact
file_facts bytes =
    if nat_lt LARGEST_FILE (length bytes) then []
    else (if is_utf8 bytes then text_facts (chars bytes) else [])

abbrev pub facts_of_file : File → List Fact
facts_of_file file = file_facts file.1

-- the facts of a project: those of the built-in table, and then those of each file, in the order of the files
unfoldable pub project_facts : List File → List Fact
project_facts project = facts_of built_in (map facts_of_file project)

-- ---- errors

-- the errors of a program's declarations, of its references to constants that stand for nothing, of its malformed type expressions, and of
-- its signatures, at a level
abbrev pub symbol_errors : List Fact → Level → Tree → List Diag
symbol_errors facts level tree =
    conflict_errors facts (declarations_of tree)
    ++ reference_errors facts (references_of tree)
    ++ malformed_errors (view_of facts) (types_of tree)
    ++ signature_errors (needs_signatures level) tree
