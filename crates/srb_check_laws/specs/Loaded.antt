-- What loading keeps of a file, as the file's bytes tell it: the tests of a file in their order, each with its one error.
use Rattle.std.specs.Prelude.{◌≡◌, ◌≢◌, ◌↔◌, ℕ, ◌<◌, ◌≤◌, List, [], length, chars, codes, Option, Some, None}
use Rattle.std.specs.Str.{IsUtf8}
use Rattle.srb_terms.specs.declared.diag.Diag.{Diag}
use Rattle.srb_terms.specs.declared.fact.Fact.{Fact}
use Rattle.srb_terms.specs.declared.level.Level.{Level}
use Rattle.srb_terms.specs.declared.level.Level.TheVariants.{Ignore, False}
use Rattle.srb_terms.specs.declared.span.Span.{Span}
use Rattle.rb_tree.specs.declared.syntax.Tree.{Tree}
use Rattle.rb_rules.specs.Levels.{Asks}
use Rattle.rb_text_laws.specs.Texts.{Verdict, Is}
use Rattle.srb_namer.specs.Facts.{summ_of}
use Rattle.srb_check.specs.declared.file.FileRec.{FileRec}
use Rattle.srb_check.specs.Records.{loaded}

-- ---- errors

-- the place before the first character
abbrev pub START : Span
START = record { start = 0; end = 0 }

abbrev pub TOO_LARGE : Diag
TOO_LARGE = record { span = START; number = 9002; text = codes "file is larger than 1048576 bytes" }

abbrev pub NOT_UTF8 : Diag
NOT_UTF8 = record { span = START; number = 9009; text = codes "not UTF-8" }

-- the error of a text that is refused
abbrev pub error_of : Verdict → Option Diag
error_of (Verdict.Program tree) = None
error_of (Verdict.NoRuby span) = Some (record { span = span; number = 2001; text = codes "syntax error" })
error_of (Verdict.Outside span) = Some (record { span = span; number = 9001; text = codes "outside the profile" })
error_of (Verdict.TooDeep span) = Some (record { span = span; number = 9008; text = codes "nesting is deeper than 200" })

-- ---- records

-- the tree of a text that is a program, and the facts that it declares
abbrev pub tree_of : Verdict → Option Tree
tree_of (Verdict.Program tree) = Some tree
tree_of (Verdict.NoRuby span) = None
tree_of (Verdict.Outside span) = None
tree_of (Verdict.TooDeep span) = None

abbrev pub facts_of : Option Tree → List Fact
facts_of None = []
facts_of (Some tree) = summ_of tree

-- the record of a file that is not read as a text
abbrev pub without_text : Diag → FileRec
without_text error = record { text = None; level = False; error = Some error; tree = None; summary = [] }

-- the record of a text that is hidden
abbrev pub ignored : List ℕ → FileRec
ignored text = record { text = Some text; level = Ignore; error = None; tree = None; summary = [] }

-- the record of a text at this level that is this
abbrev pub judged : List ℕ → Level → Verdict → FileRec
judged text level verdict = record { text = Some text; level = level; error = error_of verdict; tree = tree_of verdict; summary = facts_of (tree_of verdict) }

-- the bytes are of UTF-8, and no more than a file may have
abbrev pub AreText : List ℕ → Type 0
AreText bytes = (length bytes ≤ 1048576) × IsUtf8 bytes

-- This record is kept of a file with these bytes: its size is tested first, then whether it is UTF-8, then which level it asks for, and then
-- what its text is.
pub data IsKept (bytes : List ℕ) : FileRec → Type 0 where
  TooLarge : 1048576 < length bytes → IsKept bytes (without_text TOO_LARGE)
  NotUtf8 : length bytes ≤ 1048576 → ¬ IsUtf8 bytes → IsKept bytes (without_text NOT_UTF8)
  Ignored : AreText bytes → Asks (chars bytes) Ignore → IsKept bytes (ignored (chars bytes))
  Judged : (level : Level) (verdict : Verdict) → AreText bytes → Asks (chars bytes) level → level ≢ Ignore → Is (chars bytes) verdict →
      IsKept bytes (judged (chars bytes) level verdict)

-- ---- the law

-- What loading answers is the one record that is kept of the bytes.
abbrev pub LoadedIsKept : Type 0
LoadedIsKept = (bytes : List ℕ) (file : FileRec) → (loaded bytes ≡ file) ↔ IsKept bytes file
