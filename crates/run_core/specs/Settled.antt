-- When what a client was shown last is right.
use Rattle.std.specs.Prelude.{◌≡◌, ℕ, ◌≤◌, ◌⊎◌, List, [], ◌∷◌, IsTrue, bytes_eq, if◌then◌else◌}
use Rattle.lsp_msg.specs.declared.msg.Msg.{Msg}
use Rattle.lsp_msg.specs.declared.out.Out.{Out}
use Rattle.lsp_msg.specs.declared.out.Out.TheVariants as out
use Rattle.lsp_msg.specs.declared.placed.Placed.{Placed}
use Rattle.lsp_docs.specs.Paths.{Path}
use Rattle.lsp_docs.specs.Projects.{Project, after_all}
use Rattle.lsp_docs.specs.Documents.{uri_of}
use Rattle.run_core.specs.Language.{Language, list_of}
use Rattle.run_core.specs.Histories.{history, is_known, is_edited, last_edit}

-- the items of the last list of a URI, these where the messages have none
abbrev pub last_items : List ℕ → List Placed → List Out → List Placed
last_items uri before [] = before
last_items uri before (out.List u epoch items ∷ xs) = last_items uri (if bytes_eq uri u then items else before) xs
last_items uri before (x ∷ xs) = last_items uri before xs

-- some list of the URI has at least this epoch
abbrev pub HasListSince : List ℕ → ℕ → List Out → Type 0
HasListSince uri n [] = ⊥
HasListSince uri n (out.List u epoch items ∷ xs) = ((uri ≡ u) × (n ≤ epoch)) ⊎ HasListSince uri n xs
HasListSince uri n (x ∷ xs) = HasListSince uri n xs

-- For each path of the project at the start or of an edit the last list, empty where there is none, has what a
-- fresh check finds in the file after all edits. Each path of an edit has a list since its last edit.
pub record Settled (language : Language) (base : Project) (ms : List Msg) (outs : List Out) : Type 0 where
  pub right : (f : Path) → IsTrue (is_known base (history base ms).edits f) →
      last_items (uri_of (history base ms).session.documents.agreed f) [] outs
      ≡ list_of language (history base ms).session.documents.agreed (after_all base (history base ms).edits) f
  pub shown : (f : Path) → IsTrue (is_edited f (history base ms).edits) →
      HasListSince (uri_of (history base ms).session.documents.agreed f) (last_edit f (history base ms).edits) outs
