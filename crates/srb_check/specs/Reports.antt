-- Reports: one line for each error, `PATH:LINE:COLUMN: NUMBER TEXT`.
use Rattle.std.specs.Prelude.{ℕ, zero, suc, ◌+◌, ◌||◌, ◌==◌, if◌then◌else◌, List, [], ◌∷◌, ◌++◌, codes, decimal}
use Rattle.srb_terms.specs.declared.diag.Diag.{Diag}
use Rattle.srb_terms.specs.declared.fact.Fact.{Fact}
use Rattle.srb_terms.specs.Projects.{File}
use Rattle.srb_text.specs.Lines.{ends_line, CARRIAGE_RETURN}
use Rattle.srb_text.specs.declared.Pos.{Pos}
use Rattle.srb_check.specs.declared.place.Place.{Place}
use Rattle.srb_check.specs.Characters.{continues}
use Rattle.srb_check.specs.Checks.{errors_of}
use Rattle.srb_check.specs.Symbols.{project_facts}

-- the first place of a file
abbrev pub start : Place
start = record { line = 0; column = 0 }

-- the place after one byte more, before `rest`: the next line's start after a line's end, which is between the two
-- bytes of `\r\n` where it was before them, and else one column further where the byte begins a character
abbrev pub moved : Place → ℕ → List ℕ → Place
moved place byte rest =
    if ends_line byte rest then record { line = place.line + 1; column = 0 }
    else (if byte == CARRIAGE_RETURN || continues byte then place else record { line = place.line; column = place.column + 1 })

-- the place after a number of bytes, or after all where there are fewer
abbrev pub place_after : Place → ℕ → List ℕ → Place
place_after place zero bytes = place
place_after place (suc n) [] = place
place_after place (suc n) (byte ∷ bytes) = place_after (moved place byte bytes) n bytes

-- the place of an offset in a file
abbrev pub place_of : List ℕ → ℕ → Place
place_of bytes at = place_after start at bytes

-- a place as a position
abbrev pub position_at : Place → Pos
position_at place = record { line = place.line; unit = place.column }

-- where an error stands: the path, the line and the column, each with a colon. Lines and columns count from 1
abbrev pub place_text : List ℕ → Place → List ℕ
place_text path place = path ++ codes ":" ++ decimal (place.line + 1) ++ codes ":" ++ decimal (place.column + 1) ++ codes ": "

-- what an error says: its number and its text, and the line's end
abbrev pub error_text : ℕ → List ℕ → List ℕ
error_text number text = decimal number ++ codes " " ++ text ++ codes "\n"

-- one line of a report
abbrev pub report_line : List ℕ → Place → ℕ → List ℕ → List ℕ
report_line path place number text = place_text path place ++ error_text number text

-- the lines of a file's errors, in order
abbrev pub file_report : List ℕ → List ℕ → List Diag → List ℕ
file_report path bytes [] = []
file_report path bytes (error ∷ errors) =
    report_line path (place_of bytes error.span.start) error.number error.text ++ file_report path bytes errors

-- the report of these files under the facts of their project: the lines of each, in their order
abbrev pub report_under : List Fact → List File → List ℕ
report_under facts [] = []
report_under facts (file ∷ files) = file_report file.0 file.1 (errors_of facts file.1) ++ report_under facts files

-- the report of a project: the lines of its files, in path order
abbrev pub report_of : List File → List ℕ
report_of files = report_under (project_facts files) files
