-- An edit whose file declares the same after it leaves the facts of the project, and so the errors of the other files.
use Rattle.std.proofs.Common.{◌≡◌, ℕ, Bool, true, false, cond, List, [], ◌∷◌, ◌++◌, refl, sym, ap, ap₂, ◌∙◌, subst}
use Rattle.std.specs.Prelude.{Option, Some, None, bytes_eq}
use Rattle.std.specs.Ordering.{is_eq, match_ordering}
use Rattle.std.specs.Cmp.Lexicographic.{nat_list_cmp_total, texts_ties}
use Rattle.std.specs.declared.cmp.Ordering.{Ordering}
use Rattle.std.specs.declared.cmp.Ordering.TheVariants.{Less, Equal, Greater}
use Rattle.std.proofs.lemmas.Bool.{cond-false}
use Rattle.srb_terms.specs.PathMaps.{path_cmp, IsBeforeAll}
use Rattle.srb_terms.specs.Projects.{bytes_at, put_file, IsProject}
use Rattle.srb_check.specs.Checks.{fresh_of}
use Rattle.srb_check.specs.FactLists.{same_facts}
use Rattle.srb_check.specs.Jobs.{facts_in}
use Rattle.srb_check.specs.Symbols.{file_facts, project_facts}
use Rattle.srb_check.proofs.FactLists.{same_facts-decides}
use Rattle.srb_check.proofs.Jobs.{declared_in, same_declared}
use Rattle.lsp_docs.specs.Paths.{Path, Bytes}
use Rattle.lsp_docs.specs.Projects.{Project, Edit, after_edit, with_bytes, without_file}
use Rattle.lsp_docs.proofs.PathLemmas.{same_path, self_path, other_path, bytes_at-with_bytes}
use Rattle.run_core.specs.Language.{IsLanguage}
use Rattle.run_core.specs.Cores.{checked_language, keeps_at, keeps_facts}

absent : (f : Path) (p : Project) → IsBeforeAll f p → bytes_at f p ≡ None
absent f [] before = refl
absent f (file ∷ files) before =
    ap (λ b. cond b (Some file.1) (bytes_at f files)) (texts_ties f file.0 ∙ ap is_eq before.0) ∙ absent f files before.1

before_others : (f g : Path) (files : Project) → path_cmp f g ≡ Less → IsBeforeAll g files → IsBeforeAll f files
before_others f g [] less all = tt
before_others f g (file ∷ files) less all = (nat_list_cmp_total.trans f g file.0 less all.0, before_others f g files less all.1)

-- the facts at the path, by whether it is that of the first file
at_first : (f : Path) (file : Path × Bytes) (files : Project) (b : Bool) → bytes_eq f file.0 ≡ b
    → facts_in (bytes_at f (file ∷ files)) ≡ facts_in (cond b (Some file.1) (bytes_at f files))
at_first f file files b is = ap (λ c. facts_in (cond c (Some file.1) (bytes_at f files))) is

put_keeps : (f : Path) (b : Bytes) (p : Project) → IsProject p → facts_in (bytes_at f p) ≡ file_facts b → declared_in (put_file f b p) ≡ declared_in p
put_keeps f b [] order same = ap (λ facts. facts ++ []) (sym same)
put_keeps f b (file ∷ files) order same = by (path_cmp f file.0) refl (put_keeps f b files order.1)
  where
    by : (o : Ordering) → path_cmp f file.0 ≡ o
        → (facts_in (bytes_at f files) ≡ file_facts b → declared_in (put_file f b files) ≡ declared_in files)
        → declared_in (match_ordering o ((f, b) ∷ file ∷ files) ((f, b) ∷ files) (file ∷ put_file f b files)) ≡ file_facts file.1 ++ declared_in files
    by Less is rest =
        ap (λ facts. facts ++ (file_facts file.1 ++ declared_in files))
        (sym same ∙ ap facts_in (absent f (file ∷ files) (is, before_others f file.0 files is order.0)))
    by Equal is rest =
        ap (λ facts. facts ++ declared_in files) (sym same ∙ at_first f file files true (texts_ties f file.0 ∙ ap is_eq is))
    by Greater is rest =
        ap (λ facts. file_facts file.1 ++ facts) (rest (sym (at_first f file files false (texts_ties f file.0 ∙ ap is_eq is)) ∙ same))

out_keeps : (f : Path) (p : Project) → IsProject p → facts_in (bytes_at f p) ≡ [] → declared_in (without_file f p) ≡ declared_in p
out_keeps f [] order none = refl
out_keeps f (file ∷ files) order none = by (bytes_eq f file.0) refl (out_keeps f files order.1)
  where
    by : (b : Bool) → bytes_eq f file.0 ≡ b → (facts_in (bytes_at f files) ≡ [] → declared_in (without_file f files) ≡ declared_in files)
        → declared_in (cond b (without_file f files) (file ∷ without_file f files)) ≡ file_facts file.1 ++ declared_in files
    by true is rest =
        rest (ap facts_in (absent f files (subst (λ g. IsBeforeAll g files) (sym (same_path f file.0 is)) order.0)))
        ∙ ap (λ facts. facts ++ declared_in files) (sym none ∙ at_first f file files true is)
    by false is rest = ap (λ facts. file_facts file.1 ++ facts) (rest (sym (at_first f file files false is) ∙ none))

declared-with_bytes : (p : Project) (f : Path) (now : Option Bytes) → IsProject p → facts_in (bytes_at f p) ≡ facts_in now
    → declared_in (with_bytes f now p) ≡ declared_in p
declared-with_bytes p f None order same = out_keeps f p order same
declared-with_bytes p f (Some b) order same = put_keeps f b p order same

pub kept_facts : (p : Project) (f : Path) (now : Option Bytes) → IsProject p → facts_in (bytes_at f p) ≡ facts_in now
    → project_facts (with_bytes f now p) ≡ project_facts p
kept_facts p f now order same = same_declared (with_bytes f now p) p (declared-with_bytes p f now order same)

-- what the project has at the path of an edit
pub here : (f : Path) (now : Option Bytes) (p : Project) → bytes_at f (with_bytes f now p) ≡ now
here f now p = bytes_at-with_bytes f f now p ∙ ap (λ b. cond b now (bytes_at f p)) (self_path f)

pub keeps-at : (p : Project) (e : Edit) → keeps_at e.path p (after_edit p e) ≡ keeps_facts p e
keeps-at p e = ap (λ o. same_facts (facts_in (bytes_at e.path p)) (facts_in o)) (here e.path e.now p)

-- what is checked is a language
pub checked_is_language : IsLanguage checked_language
checked_is_language = record {
  absent = λ p f order none. ap (fresh_of (project_facts p)) none;
  kept = λ p e f order keeps differs.
      ap₂ fresh_of (kept_facts p e.path e.now order ((same_facts-decides _ _).0 keeps))
      (bytes_at-with_bytes f e.path e.now p ∙ cond-false _ _ _ (other_path f e.path differs));
}
