-- The laws of sets of paths and of maps from paths.
use Rattle.std.proofs.Common.{◌≡◌, ◌≢◌, ℕ, suc, ◌+◌, ◌≤◌, Bool, true, false, not, ◌&&◌, ◌||◌, List, [], ◌∷◌, length, refl, sym, ap, ◌∙◌, subst, arith}
use Rattle.std.specs.Prelude.{Option, Some, None, is_some, bytes_eq, if◌then◌else◌}
use Rattle.std.proofs.lemmas.Bool.Decides.{nat_tests}
use Rattle.std.proofs.lemmas.Slice.Eq.{bytes_eq-Decides}
use Rattle.srb_terms.specs.PathMaps.{IsBeforeAll}
use Rattle.srb_terms.specs.Projects.{bytes_at, IsProject}
use Rattle.srb_terms.proofs.PathOrder.{value_at-put_value, IsOrdered-put_value}
use Rattle.lsp_docs.specs.Paths.{Path, has, with_path, without_path, with_paths, lookup, put}
use Rattle.lsp_docs.specs.Projects.{Project, paths_of, without_file, with_bytes}

pub same_path : (f g : Path) → bytes_eq f g ≡ true → f ≡ g
same_path f g e = let d = bytes_eq-Decides f g in grind (arith, d)

pub self_path : (f : Path) → bytes_eq f f ≡ true
self_path f = let d = bytes_eq-Decides f f in grind (arith, d)

pub other_path : (f g : Path) → f ≢ g → bytes_eq f g ≡ false
other_path f g e = let d = bytes_eq-Decides f g in grind (arith, d)

-- two paths that are a third are one
one_path : (f g x : Path) → bytes_eq f g ≡ true → bytes_eq f x ≡ true → bytes_eq g x ≡ true
one_path f g x p q =
    let r : g ≡ x = sym (same_path f g p) ∙ same_path f x q in subst (λ y. bytes_eq g y ≡ true) r (self_path g)

-- two paths that are one are tested alike
same_test : (f g x : Path) → bytes_eq g x ≡ true → bytes_eq f g ≡ bytes_eq f x
same_test f g x p = ap (bytes_eq f) (same_path g x p)

pub has-with_path : (f g : Path) (gs : List Path) → has f (with_path g gs) ≡ (bytes_eq f g || has f gs)
has-with_path f g [] = refl
has-with_path f g (x ∷ xs) = let ih = has-with_path f g xs in grind (arith, nat_tests, ih, same_path)

pub has-without_path : (f g : Path) (gs : List Path) → has f (without_path g gs) ≡ (not (bytes_eq f g) && has f gs)
has-without_path f g [] = grind (arith, nat_tests)
has-without_path f g (x ∷ xs) = let ih = has-without_path f g xs in let one = one_path f g x in let two = same_test f g x in grind (arith, nat_tests, ih, one, two)

pub has-with_paths : (f : Path) (fs gs : List Path) → has f (with_paths fs gs) ≡ (has f fs || has f gs)
has-with_paths f [] gs = refl
has-with_paths f (x ∷ xs) gs = let ih = has-with_paths f xs gs in rw has-with_path (grind (arith, nat_tests, ih))

pub lookup-put : {A : Type 0} (f g : Path) (a : A) (m : List (Path × A)) → lookup f (put g a m) ≡ (if bytes_eq f g then Some a else lookup f m)
lookup-put f g a [] = refl
lookup-put f g a (p ∷ ps) = let ih = lookup-put f g a ps in let one = one_path f g p.0 in let two = same_test f g p.0 in grind (arith, nat_tests, ih, one, two)

pub length-with_path : (f : Path) (gs : List Path) → length (with_path f gs) ≤ length gs + 1
length-with_path f [] = omega arith
length-with_path f (x ∷ xs) = let ih = length-with_path f xs in grind (arith, nat_tests, ih)

pub length-without_path : (f : Path) (gs : List Path) → length (without_path f gs) ≤ length gs
length-without_path f [] = omega arith
length-without_path f (x ∷ xs) = let ih = length-without_path f xs in grind (arith, nat_tests, ih)

pub length-without_had : (f : Path) (gs : List Path) → has f gs ≡ true → length (without_path f gs) + 1 ≤ length gs
length-without_had f [] e = grind arith
length-without_had f (x ∷ xs) e = let ih = length-without_had f xs in let le = length-without_path f xs in grind (arith, nat_tests, ih, le)

pub length-with_paths : (fs gs : List Path) → length (with_paths fs gs) ≤ length fs + length gs
length-with_paths [] gs = omega arith
length-with_paths (f ∷ fs) gs = let ih = length-with_paths fs gs in let one = length-with_path f (with_paths fs gs) in grind arith

-- ---- projects

pub has-paths_of : (f : Path) (p : Project) → has f (paths_of p) ≡ is_some (bytes_at f p)
has-paths_of f [] = refl
has-paths_of f (file ∷ files) = let ih = has-paths_of f files in grind (arith, nat_tests, ih)

pub length-paths_of : (p : Project) → length (paths_of p) ≡ length p
length-paths_of [] = refl
length-paths_of (file ∷ files) = ap suc (length-paths_of files)

pub bytes_at-without_file : (f g : Path) (p : Project) → bytes_at f (without_file g p) ≡ (if bytes_eq f g then None else bytes_at f p)
bytes_at-without_file f g [] = grind (arith, nat_tests)
bytes_at-without_file f g (file ∷ files) =
    let ih = bytes_at-without_file f g files in
    let one = one_path f g file.0 in
    let two = same_test f g file.0 in
    grind (arith, nat_tests, ih, one, two)

IsBeforeAll-without_file : (g f : Path) (p : Project) → IsBeforeAll g p → IsBeforeAll g (without_file f p)
IsBeforeAll-without_file g f [] all = tt
IsBeforeAll-without_file g f (file ∷ files) all =
    by_test (bytes_eq f file.0) (IsBeforeAll-without_file g f files all.1)
  where
    by_test : (b : Bool) → IsBeforeAll g (without_file f files) → IsBeforeAll g (if b then without_file f files else file ∷ without_file f files)
    by_test true rest = rest
    by_test false rest = (all.0, rest)

pub IsProject-without_file : (f : Path) (p : Project) → IsProject p → IsProject (without_file f p)
IsProject-without_file f [] order = tt
IsProject-without_file f (file ∷ files) order =
    by_test (bytes_eq f file.0) (IsProject-without_file f files order.1)
  where
    by_test : (b : Bool) → IsProject (without_file f files) → IsProject (if b then without_file f files else file ∷ without_file f files)
    by_test true rest = rest
    by_test false rest = (IsBeforeAll-without_file file.0 f files order.0, rest)

-- what stands at a path after an edit of a path
pub bytes_at-with_bytes : (f g : Path) (o : Option (List ℕ)) (p : Project) → bytes_at f (with_bytes g o p) ≡ (if bytes_eq f g then o else bytes_at f p)
bytes_at-with_bytes f g None p = bytes_at-without_file f g p
bytes_at-with_bytes f g (Some b) p = value_at-put_value f g b p

pub IsProject-with_bytes : (f : Path) (o : Option (List ℕ)) (p : Project) → IsProject p → IsProject (with_bytes f o p)
IsProject-with_bytes f None p order = IsProject-without_file f p order
IsProject-with_bytes f (Some b) p order = IsOrdered-put_value f b p order
