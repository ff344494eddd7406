-- The generated project, file by file.
use Rattle.std.proofs.Common.{◌≡◌, ℕ, zero, suc, ◌+◌, ◌*◌, ◌<◌, ◌≤◌, List, [], ◌∷◌, ◌++◌, length, refl, sym, ap, ◌∙◌, subst, append-nil, length-append, add-one, arith}
use Rattle.std.specs.Prelude.{codes, ◌==◌, ◌-◌, Bool, true, false, if◌then◌else◌}
use Rattle.std.proofs.lemmas.List.Sums.{sum_by-append}
use Rattle.srb_terms.specs.PathMaps.{path_cmp, IsAfterAll}
use Rattle.srb_terms.specs.Projects.{File, put_file, IsProject}
use Rattle.srb_terms.proofs.PathOrder.{put_value-after, IsOrdered-put_value}
use Rattle.std.specs.declared.cmp.Ordering.TheVariants.{Greater}
use Rattle.lsp_docs.specs.Projects.{total_bytes}
use Rattle.srb_gen.specs.Texts.{file_path, class_name, file_text, first_expression, first_text}
use Rattle.srb_gen.specs.Generated.{generated_project}
use Rattle.srb_gen.proofs.Paths.{path_after}

after_one_more : (p : List ℕ) (files : List File) (file : File) → IsAfterAll p files → path_cmp p file.0 ≡ Greater → IsAfterAll p (files ++ file ∷ [])
after_one_more p [] file all last = (last, tt)
after_one_more p (f ∷ files) file all last = (all.0, after_one_more p files file all.1 last)

-- a path stands after those of all smaller numbers
after_all : (i j : ℕ) → j ≤ i → i < 10000 → IsAfterAll (file_path i) (generated_project j)
after_all i zero le small = tt
after_all i (suc j) le small =
    after_one_more (file_path i) (generated_project j) (file_path j, first_text j) (after_all i j (omega arith) small) (path_after i j (omega arith) small)

-- one more file
pub one_more_file : (i : ℕ) → i < 10000 → put_file (file_path i) (first_text i) (generated_project i) ≡ generated_project (i + 1)
one_more_file i small =
    ap (put_file (file_path i) (first_text i)) (sym (append-nil (generated_project i)))
    ∙ put_value-after (file_path i) (first_text i) (generated_project i) [] (after_all i i (omega arith) small)
    ∙ ap generated_project (sym (add-one i))

-- the files stand in order
pub ordered_generated : (n : ℕ) → n ≤ 10000 → IsProject (generated_project n)
ordered_generated zero few = tt
ordered_generated (suc i) few =
    let small : i < 10000 = omega arith in
    let before : i ≤ 10000 = omega arith in
    subst IsProject (one_more_file i small ∙ ap generated_project (add-one i))
    (IsOrdered-put_value (file_path i) (first_text i) (generated_project i) (ordered_generated i before))

-- ---- the size

pub length_generated : (n : ℕ) → length (generated_project n) ≡ n
length_generated zero = refl
length_generated (suc n) = let before = length_generated n in omega (arith, before, length-append (generated_project n) ((file_path n, first_text n) ∷ []))

pub length_expression : (first : Bool) (i : ℕ) → length (if first then codes "x + 1" else class_name i ++ codes ".new.run(x)") ≤ 17
length_expression true i = omega arith
length_expression false i = omega arith

pub length_file_text : (name type expression : List ℕ) → length (file_text name type expression) ≤ 200 + length name + length type + length expression
length_file_text name type expression = simp length-append (omega arith)

pub length_first_text : (i : ℕ) → length (first_text i) ≤ 1000
length_first_text i = let e = length_expression (i == 0) (i - 1) in omega (arith, length_file_text (class_name i) (codes "Integer") (first_expression i))

pub total_generated : (n : ℕ) → total_bytes (generated_project n) ≤ n * 1000
total_generated zero = omega arith
total_generated (suc n) =
    let before = total_generated n in
    let text = length_first_text n in
    omega (arith, before, text, sum_by-append (λ (file : File). length file.1) (generated_project n) ((file_path n, first_text n) ∷ []))
