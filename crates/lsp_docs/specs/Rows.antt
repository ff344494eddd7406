-- The rows of the documents, one a path, and what they say: the project, the saved texts and the open paths.
use Rattle.std.specs.Prelude.{◌≡◌, ◌≢◌, ℕ, ◌≤◌, List, [], ◌∷◌, length, slice_get, encode_utf8_all, Option, Some, None, IsSome, Result, Err, Bool}
use Rattle.srb_terms.specs.PathMaps.{IsOrdered}
use Rattle.srb_terms.specs.Projects.{File}
use Rattle.lsp_docs.specs.declared.applied.Applied.{Applied}
use Rattle.lsp_docs.specs.declared.doc.Doc.{Doc}
use Rattle.lsp_docs.specs.declared.doc_end.DocEnd.{DocEnd}
use Rattle.lsp_docs.specs.declared.doc_end.DocEnd.TheVariants.{NoMemory}
use Rattle.lsp_docs.specs.declared.plan.Plan.{Plan}
use Rattle.lsp_docs.specs.Paths.{Path, Bytes, with_path, without_path}
use Rattle.lsp_docs.specs.Projects.{Project, paths_of, total_bytes, with_bytes}
use Rattle.srb_text.specs.declared.Encoding.{Encoding}
use Rattle.srb_text.specs.Limits.{MOST_BYTES}
use Rattle.lsp_docs.specs.Documents.{Agreed, Documents, Deed, MOST_FILES, IsDoneFor}

-- a path and what is kept there
abbrev pub Row : Type 0
Row = Path × Doc

-- the present bytes: those of the text where the path is open, else those saved last
abbrev pub present_with : Option Bytes → Option (List ℕ) → Option Bytes
present_with saved (Some text) = Some (encode_utf8_all text)
present_with saved None = saved

abbrev pub present_of : Doc → Option Bytes
present_of d = present_with d.saved d.text

-- how many bytes there are, if any
abbrev pub size_of : Option Bytes → ℕ
size_of None = 0
size_of (Some b) = length b

-- what is kept where the path isn't open, and the same with a text, or with saved bytes
abbrev pub closed_doc : Option Bytes → Doc
closed_doc saved = record { saved = saved; text = None }

abbrev pub opened_doc : Doc → List ℕ → Doc
opened_doc d text = record { saved = d.saved; text = Some text }

abbrev pub saved_doc : Doc → Bytes → Doc
saved_doc d bytes = record { saved = Some bytes; text = d.text }

-- the row of a file that isn't open
abbrev pub closed_row : File → Row
closed_row file = (file.0, closed_doc (Some file.1))

-- the files, with that at the path where it has bytes
abbrev pub with_front : Path → Option Bytes → Project → Project
with_front f None p = p
with_front f (Some b) p = (f, b) ∷ p

-- what the rows have, by path
abbrev pub reading : (Doc → Option Bytes) → List Row → Project
reading has [] = []
reading has (r ∷ rs) = with_front r.0 (has r.1) (reading has rs)

abbrev pub project_of : List Row → Project
project_of rows = reading present_of rows

-- what the rows say
abbrev pub documents_of : Agreed → List Row → Documents
documents_of agreed rows = record {
  agreed = agreed;
  project = project_of rows;
  saved = reading (λ d. d.saved) rows;
  opened = paths_of (reading (λ d. d.text) rows);
}

-- each row has present bytes
abbrev pub ArePresent : List Row → Type 0
ArePresent [] = Unit {0}
ArePresent (r ∷ rs) = IsSome (present_of r.1) × ArePresent rs

-- the rows stand in byte order of their paths, each path once, and each has present bytes
pub record AreRows (rows : List Row) : Type 0 where
  pub ordered : IsOrdered rows
  pub present : ArePresent rows

-- the row at this index is that of the path, which is open with this text
pub record IsOpenAt (f : Path) (rows : List Row) (i : ℕ) (text : List ℕ) : Type 0 where
  pub doc : Doc
  pub here : slice_get rows i ≡ Some (f, doc)
  pub with_text : doc.text ≡ Some text

-- this root and this encoding were agreed on
abbrev pub agreed_on : List ℕ → Encoding → Agreed
agreed_on root encoding = record { root = root; encoding = encoding }

-- what is read of what is kept at a path, if anything is
abbrev pub reads : {X : Type 0} → (Doc → Option X) → Option Doc → Option X
reads has None = None
reads has (Some d) = has d

-- the set with the path where something is read, else without it
abbrev pub path_if : Path → Option (List ℕ) → List Path → List Path
path_if f None fs = without_path f fs
path_if f (Some text) fs = with_path f fs

-- the documents with this kept at the path
abbrev pub with_kept : Path → Option Doc → Documents → Documents
with_kept f kept d = record d {
  project = with_bytes f (reads present_of kept) d.project;
  saved = with_bytes f (reads (λ x. x.saved) kept) d.saved;
  opened = path_if f (reads (λ x. x.text) kept) d.opened;
}

-- the documents after what a plan says
abbrev pub planned : Plan → Documents → Documents
planned plan d = with_kept plan.path plan.kept d

-- what is told of a plan: its path, and whether it edits
abbrev pub told_of_plan : Plan → Applied
told_of_plan plan = record { path = plan.path; edit = plan.edit }

-- what is kept has present bytes
abbrev pub IsPresent : Option Doc → Type 0
IsPresent None = Unit {0}
IsPresent (Some d) = IsSome (present_of d)

-- With this kept at the path the project has no more files and bytes than it may have.
pub record HasRoom (f : Path) (kept : Option Doc) (p : Project) : Type 0 where
  pub present : IsPresent kept
  pub files : length (with_bytes f (reads present_of kept) p) ≤ MOST_FILES
  pub bytes : total_bytes (with_bytes f (reads present_of kept) p) ≤ MOST_BYTES

-- what is done to documents, which may be refused
abbrev pub Rule : Type 0
Rule = Documents → Result Deed DocEnd

-- The rule's deed is to keep this at the path, which is told by the path and by whether it edits, whatever was agreed on.
abbrev pub IsPlannedBy : Rule → Path → Bool → List Row → Option Doc → Type 0
IsPlannedBy rule f edit rows kept =
    (agreed : Agreed) → IsDoneFor (rule (documents_of agreed rows)) (documents_of agreed rows) (with_kept f kept (documents_of agreed rows)) (record { path = f; edit = edit })

-- The same where this encoding was agreed on.
abbrev pub IsPlannedIn : Encoding → Rule → Path → Bool → List Row → Option Doc → Type 0
IsPlannedIn encoding rule f edit rows kept =
    (root : List ℕ) → IsDoneFor (rule (documents_of (agreed_on root encoding) rows)) (documents_of (agreed_on root encoding) rows)
    (with_kept f kept (documents_of (agreed_on root encoding) rows)) (record { path = f; edit = edit })

-- the rule refuses for this, or there was no memory
abbrev pub IsRefusedBy : Rule → List Row → DocEnd → Type 0
IsRefusedBy rule rows e = e ≢ NoMemory → (agreed : Agreed) → rule (documents_of agreed rows) ≡ Err e

-- the same where this encoding was agreed on
abbrev pub IsRefusedIn : Encoding → Rule → List Row → DocEnd → Type 0
IsRefusedIn encoding rule rows e = e ≢ NoMemory → (root : List ℕ) → rule (documents_of (agreed_on root encoding) rows) ≡ Err e
