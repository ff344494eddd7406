-- The errors of a file under the facts of its project, found by the tests of a file in their order: its size, its form, its level, its
-- tokens, its tree, and then what its declarations, constants and signatures say, and the judgement of its types.
use Rattle.std.specs.Prelude.{ℕ, nat_lt, if◌then◌else◌, List, [], ◌∷◌, ◌++◌, length, Option, Some, None}
use Rattle.std.specs.Str.{chars, is_utf8}
use Rattle.srb_terms.specs.declared.diag.Diag.{Diag}
use Rattle.srb_terms.specs.declared.fact.Fact.{Fact}
use Rattle.srb_terms.specs.declared.level.Level.{Level}
use Rattle.srb_terms.specs.Projects.{File, bytes_at}
use Rattle.rb_lex.specs.Levels.{level_of_text}
use Rattle.srb_check.specs.declared.reading.Reading.{Reading}
use Rattle.srb_check.specs.declared.reading.Reading.TheVariants.{Program, Refused}
use Rattle.srb_check.specs.Arranged.{arranged}
use Rattle.srb_check.specs.Levels.{LARGEST_FILE, hides_all}
use Rattle.srb_check.specs.Messages.{too_large, not_utf8}
use Rattle.srb_check.specs.Readings.{read}
use Rattle.srb_check.specs.Symbols.{project_facts, symbol_errors}
use Rattle.srb_check.specs.Types.{type_errors}

-- the errors of a text that is read, by its level: that of its tokens, or those of its tree, in order
abbrev pub reading_errors : List Fact → Level → Reading → List Diag
reading_errors facts level (Refused error) = error ∷ []
reading_errors facts level (Program tree) = arranged (symbol_errors facts level tree ++ type_errors facts level tree)

-- the errors of a text: none at `ignore`
abbrev pub text_errors : List Fact → List ℕ → List Diag
text_errors facts text = if hides_all (level_of_text text) then [] else reading_errors facts (level_of_text text) (read text)

-- the errors of a file under these facts: it is too large; else it is no text; else those of the text
unfoldable pub errors_of : List Fact → List ℕ → List Diag
errors_of facts bytes =
    if nat_lt LARGEST_FILE (length bytes) then too_large ∷ []
    else (if is_utf8 bytes then text_errors facts (chars bytes) else not_utf8 ∷ [])

-- the errors of a file of a project with these facts, and none where there is no such file
abbrev pub fresh_of : List Fact → Option (List ℕ) → List Diag
fresh_of facts None = []
fresh_of facts (Some bytes) = errors_of facts bytes

-- the errors of a file of a project as a check finds them that begins with the project's bytes alone
abbrev pub fresh : List File → List ℕ → List Diag
fresh project path = fresh_of (project_facts project) (bytes_at path project)
