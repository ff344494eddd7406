-- What a session needs of the language that it checks: the errors of a file in a project, and which edits leave
-- those of all other files.
use Rattle.std.specs.Prelude.{◌≡◌, ◌≢◌, Bool, List, [], Option, Some, None, IsTrue, map, unwrap_or}
use Rattle.srb_terms.specs.declared.diag.Diag.{Diag}
use Rattle.lsp_msg.specs.declared.placed.Placed.{Placed}
use Rattle.srb_terms.specs.Projects.{bytes_at, IsProject}
use Rattle.lsp_docs.specs.Paths.{Path, Bytes}
use Rattle.lsp_docs.specs.Projects.{Project, Edit, after_edit}
use Rattle.lsp_docs.specs.Documents.{Agreed, placed}

-- `fresh` is what a fresh check finds in a file of a project. `keeps` says of an edit of a project that it can be
-- answered without looking at any other file.
pub record Language : Type 0 where
  pub fresh : Project → Path → List Diag
  pub keeps : Project → Edit → Bool

-- All that is asked of the two: an absent file has no errors, and an edit that keeps leaves those of every other file.
pub record IsLanguage (language : Language) : Type 0 where
  pub absent : (p : Project) (f : Path) → IsProject p → bytes_at f p ≡ None → language.fresh p f ≡ []
  pub kept : (p : Project) (e : Edit) (f : Path) → IsProject p → IsTrue (language.keeps p e) → f ≢ e.path →
      language.fresh (after_edit p e) f ≡ language.fresh p f

-- the language of some facts: a file's errors are those of its bytes under the facts of the project
abbrev pub errors_under : {F : Type 0} → (F → Bytes → List Diag) → F → Option Bytes → List Diag
errors_under errors_of facts None = []
errors_under errors_of facts (Some bytes) = errors_of facts bytes

abbrev pub language_of : {F : Type 0} → (Project → F) → (F → Bytes → List Diag) → (Project → Edit → Bool) → Language
language_of facts errors_of keeps = record {
  fresh = λ p f. errors_under errors_of (facts p) (bytes_at f p);
  keeps = keeps;
}

-- the list that a client is shown of a file: its errors in the project, their places as positions in its text
abbrev pub list_of : Language → Agreed → Project → Path → List Placed
list_of language agreed p f =
    map (placed agreed.encoding (unwrap_or (bytes_at f p) [])) (language.fresh p f)
