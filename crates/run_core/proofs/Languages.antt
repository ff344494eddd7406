-- Facts make a language.
use Rattle.std.proofs.Common.{◌≡◌, Bool, List, ap, ap₂, ◌∙◌}
use Rattle.std.specs.Prelude.{IsTrue}
use Rattle.std.proofs.lemmas.Bool.{cond-false}
use Rattle.srb_terms.specs.declared.diag.Diag.{Diag}
use Rattle.srb_terms.specs.Projects.{IsProject}
use Rattle.lsp_docs.specs.Paths.{Bytes}
use Rattle.lsp_docs.specs.Projects.{Project, Edit, after_edit}
use Rattle.lsp_docs.proofs.PathLemmas.{other_path, bytes_at-with_bytes}
use Rattle.run_core.specs.Language.{IsLanguage, errors_under, language_of}

pub facts_language : {F : Type 0} (facts : Project → F) (errors_of : F → Bytes → List Diag) (keeps : Project → Edit → Bool) →
    ((p : Project) (e : Edit) → IsProject p → IsTrue (keeps p e) → facts (after_edit p e) ≡ facts p) → IsLanguage (language_of facts errors_of keeps)
facts_language facts errors_of keeps same = record {
  absent = λ p f order gone. ap (errors_under errors_of (facts p)) gone;
  kept = λ p e f order keep differs. ap₂ (errors_under errors_of) (same p e order keep)
      (bytes_at-with_bytes f e.path e.now p ∙ cond-false _ _ _ (other_path f e.path differs));
}
