-- What loading a file keeps of it.
use Rattle.std.specs.Prelude.{ℕ, nat_lt, if◌then◌else◌, List, [], ◌∷◌, ◌++◌, length, Option, Some, None}
use Rattle.std.specs.Str.{chars, is_utf8}
use Rattle.srb_terms.specs.declared.diag.Diag.{Diag}
use Rattle.srb_terms.specs.declared.fact.Fact.{Fact}
use Rattle.srb_terms.specs.declared.level.Level.{Level}
use Rattle.srb_terms.specs.declared.level.Level.TheVariants.{False}
use Rattle.rb_tree.specs.declared.syntax.Tree.{Tree}
use Rattle.rb_lex.specs.Levels.{level_of_text}
use Rattle.srb_namer.specs.Facts.{summ_of}
use Rattle.srb_check.specs.declared.file.FileRec.{FileRec}
use Rattle.srb_check.specs.declared.reading.Reading.{Reading}
use Rattle.srb_check.specs.declared.reading.Reading.TheVariants.{Program, Refused}
use Rattle.srb_check.specs.Arranged.{arranged}
use Rattle.srb_check.specs.Levels.{LARGEST_FILE, hides_all}
use Rattle.srb_check.specs.Messages.{too_large, not_utf8}
use Rattle.srb_check.specs.Readings.{read}
use Rattle.srb_check.specs.Symbols.{symbol_errors}
use Rattle.srb_check.specs.Types.{type_errors}

-- the record of a file that is not read as a text
abbrev pub unread : Diag → FileRec
unread error = record { text = None; level = False; error = Some error; tree = None; summary = [] }

-- the record of a text that is hidden by its level
abbrev pub hidden : List ℕ → Level → FileRec
hidden text level = record { text = Some text; level = level; error = None; tree = None; summary = [] }

-- the record of a text at this level that is read to this
abbrev pub read_record : List ℕ → Level → Reading → FileRec
read_record text level (Refused error) = record { text = Some text; level = level; error = Some error; tree = None; summary = [] }
read_record text level (Program tree) = record { text = Some text; level = level; error = None; tree = Some tree; summary = summ_of tree }

-- the record of a text: neither an error nor a tree is kept at `ignore`
abbrev pub text_record : List ℕ → Level → FileRec
text_record text level = if hides_all level then hidden text level else read_record text level (read text)

-- the record of a file
unfoldable pub loaded : List ℕ → FileRec
loaded bytes =
    if nat_lt LARGEST_FILE (length bytes) then unread too_large
    else (if is_utf8 bytes then text_record (chars bytes) (level_of_text (chars bytes)) else unread not_utf8)

-- the errors of a tree under these facts, where there is a tree
abbrev pub tree_errors : List Fact → Level → Option Tree → List Diag
tree_errors facts level None = []
tree_errors facts level (Some tree) = arranged (symbol_errors facts level tree ++ type_errors facts level tree)

abbrev pub errors_by : List Fact → Level → Option Tree → Option Diag → List Diag
errors_by facts level tree (Some error) = error ∷ []
errors_by facts level tree None = tree_errors facts level tree

-- the errors that a record tells under these facts
abbrev pub record_errors : List Fact → FileRec → List Diag
record_errors facts file = errors_by facts file.level file.tree file.error
