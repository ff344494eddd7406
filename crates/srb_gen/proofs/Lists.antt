-- The lists written last, and the sum of their errors over the files of a project.
use Rattle.std.proofs.Common.{◌≡◌, ℕ, ◌+◌, Bool, true, false, List, [], ◌∷◌, length, refl, sym, ap, ◌∙◌, subst, arith, zero-add, add-zero}
use Rattle.std.specs.Prelude.{Option, Some, None, if◌then◌else◌, ◌||◌, bytes_eq, is_some, sum_by}
use Rattle.std.proofs.lemmas.Bool.{or_parts, both_ways, false_from_ne_true, cond-true, cond-false}
use Rattle.std.proofs.lemmas.List.Sums.{sum_by-cons}
use Rattle.srb_terms.specs.PathMaps.{IsBeforeAll}
use Rattle.srb_terms.specs.Projects.{File, IsProject, bytes_at}
use Rattle.srb_terms.specs.declared.diag.Diag.{Diag}
use Rattle.run_watch.specs.declared.step.Step.{Step}
use Rattle.run_watch.specs.declared.step.Step.TheVariants.{Take, Look, Build, Work, Dropped, Idle}
use Rattle.std.specs.Cmp.Lexicographic.{texts_ties}
use Rattle.std.specs.Ordering.{is_eq}
use Rattle.lsp_docs.specs.Paths.{Path}
use Rattle.lsp_docs.specs.Projects.{Project}
use Rattle.lsp_docs.proofs.PathLemmas.{self_path, same_path}
use Rattle.srb_gen.specs.Tallies.{is_listed, errors_in}

-- the list of the file that the steps write last, this one where they write none
abbrev pub last_list : Path → List Diag → List Step → List Diag
last_list f before [] = before
last_list f before (Work g epoch list true ∷ xs) = last_list f (if bytes_eq f g then list else before) xs
last_list f before (x ∷ xs) = last_list f before xs

-- ---- whether a list is written

turned : (f g : Path) → bytes_eq g f ≡ false → bytes_eq f g ≡ false
turned f g p = false_from_ne_true _ (λ q. both_ways (bytes_eq g f) p (subst (λ x. bytes_eq x f ≡ true) (same_path f g q) (self_path f)))

pub unlisted : (f : Path) (before : List Diag) (xs : List Step) → is_listed f xs ≡ false → last_list f before xs ≡ before
unlisted f before [] p = refl
unlisted f before (Work g epoch list true ∷ xs) p =
    let q = or_parts _ _ p in
    ap (λ b. last_list f (if b then list else before) xs) (turned f g q.0) ∙ unlisted f before xs q.1
unlisted f before (Work g epoch list false ∷ xs) p = unlisted f before xs p
unlisted f before (Take inp ∷ xs) p = unlisted f before xs p
unlisted f before (Look ∷ xs) p = unlisted f before xs p
unlisted f before (Build ∷ xs) p = unlisted f before xs p
unlisted f before (Dropped g ∷ xs) p = unlisted f before xs p
unlisted f before (Idle ∷ xs) p = unlisted f before xs p

-- where a list is written, what was there before doesn't count
pub relisted : (f : Path) (one other : List Diag) (xs : List Step) → is_listed f xs ≡ true → last_list f one xs ≡ last_list f other xs
relisted f one other [] p = absurd cc
relisted f one other (Work g epoch list true ∷ xs) p = by (bytes_eq f g) refl (relisted f one other xs)
  where
    by : (b : Bool) → bytes_eq f g ≡ b → (is_listed f xs ≡ true → last_list f one xs ≡ last_list f other xs)
        → last_list f (if b then list else one) xs ≡ last_list f (if b then list else other) xs
    by true e later = refl
    by false e later = later (sym (ap (λ b. b || is_listed f xs) (turned g f e)) ∙ p)
relisted f one other (Work g epoch list false ∷ xs) p = relisted f one other xs p
relisted f one other (Take inp ∷ xs) p = relisted f one other xs p
relisted f one other (Look ∷ xs) p = relisted f one other xs p
relisted f one other (Build ∷ xs) p = relisted f one other xs p
relisted f one other (Dropped g ∷ xs) p = relisted f one other xs p
relisted f one other (Idle ∷ xs) p = relisted f one other xs p

-- ---- sums over the files of a project

sum_same : (h k : File → ℕ) (p : Project) → ((file : File) → h file ≡ k file) → sum_by h p ≡ sum_by k p
sum_same h k [] same = refl
sum_same h k (file ∷ files) same =
    let first = same file in
    let rest = sum_same h k files same in
    omega (arith, first, rest, sum_by-cons h file files, sum_by-cons k file files)

sum_both : (h k : File → ℕ) (p : Project) → sum_by (λ file. h file + k file) p ≡ sum_by h p + sum_by k p
sum_both h k [] = omega arith
sum_both h k (file ∷ files) =
    let rest = sum_both h k files in
    omega (arith, rest, sum_by-cons (λ x. h x + k x) file files, sum_by-cons h file files, sum_by-cons k file files)

sum_none : (p : Project) → sum_by (λ (file : File). 0) p ≡ 0
sum_none [] = refl
sum_none (file ∷ files) = let rest = sum_none files in omega (arith, rest, sum_by-cons (λ (file : File). 0) file files)

-- so much for the file at the path, and nothing for the others
abbrev pub only : Path → ℕ → File → ℕ
only g n file = if bytes_eq file.0 g then n else 0

none_before : (g : Path) (n : ℕ) (files : List File) → IsBeforeAll g files → sum_by (only g n) files ≡ 0
none_before g n [] all = refl
none_before g n (file ∷ files) all =
    let rest = none_before g n files all.1 in
    let apart : bytes_eq g file.0 ≡ false = texts_ties g file.0 ∙ ap is_eq all.0 in
    let first : only g n file ≡ 0 = cond-false _ _ _ (turned file.0 g apart) in
    omega (arith, first, rest, sum_by-cons (only g n) file files)

-- what stands at the path counts once
sum_only : (g : Path) (n : ℕ) (p : Project) → IsProject p → sum_by (only g n) p ≡ (if is_some (bytes_at g p) then n else 0)
sum_only g n [] order = refl
sum_only g n (file ∷ files) order = sum_by-cons (only g n) file files ∙ by (bytes_eq g file.0) refl (sum_only g n files order.1)
  where
    by : (b : Bool) → bytes_eq g file.0 ≡ b → sum_by (only g n) files ≡ (if is_some (bytes_at g files) then n else 0)
        → only g n file + sum_by (only g n) files ≡ (if is_some (if b then Some file.1 else bytes_at g files) then n else 0)
    by true e later =
        let same = same_path g file.0 e in
        let here : only g n file ≡ n = cond-true _ _ _ (subst (λ x. bytes_eq file.0 x ≡ true) (sym same) (self_path file.0)) in
        let rest : sum_by (only g n) files ≡ 0 = none_before g n files (subst (λ x. IsBeforeAll x files) (sym same) order.0) in
        omega (arith, here, rest)
    by false e later =
        let here : only g n file ≡ 0 = cond-false _ _ _ (turned file.0 g e) in
        ap (λ m. m + sum_by (only g n) files) here ∙ zero-add _ ∙ later

-- the errors of the last lists of the project's files
abbrev pub listed_errors : Project → List Step → ℕ
listed_errors p xs = sum_by (λ (file : File). length (last_list file.0 [] xs)) p

-- outside of the project no file has errors in its last list
abbrev pub IsBareOutside : Project → List Step → Type 0
IsBareOutside p xs = (f : Path) → bytes_at f p ≡ None → last_list f [] xs ≡ []

module _ (p : Project) (order : IsProject p) (g : Path) (list : List Diag) (xs : List Step) where
  -- the list that this step writes, and then the others
  abbrev replaced : Path → List Diag
  replaced f = last_list f (if bytes_eq f g then list else []) xs

  replaced_later : is_listed g xs ≡ true → (f : Path) → replaced f ≡ last_list f [] xs
  replaced_later is f = by (bytes_eq f g) refl
    where
      by : (b : Bool) → bytes_eq f g ≡ b → last_list f (if b then list else []) xs ≡ last_list f [] xs
      by true e = relisted f list [] xs (subst (λ x. is_listed x xs ≡ true) (sym (same_path f g e)) is)
      by false e = refl

  bare_later : ((f : Path) → bytes_at f p ≡ None → replaced f ≡ []) → is_listed g xs ≡ true → IsBareOutside p xs
  bare_later bare is f gone = sym (replaced_later is f) ∙ bare f gone

  bare_last : ((f : Path) → bytes_at f p ≡ None → replaced f ≡ []) → is_listed g xs ≡ false → IsBareOutside p xs
  bare_last bare is f gone = by (bytes_eq f g) refl (bare f gone)
    where
      by : (b : Bool) → bytes_eq f g ≡ b → last_list f (if b then list else []) xs ≡ [] → last_list f [] xs ≡ []
      by true e h = unlisted f [] xs (subst (λ x. is_listed x xs ≡ false) (sym (same_path f g e)) is)
      by false e h = h

  counted_later : is_listed g xs ≡ true → sum_by (λ (file : File). length (replaced file.0)) p ≡ listed_errors p xs
  counted_later is = sum_same _ _ p (λ file. ap length (replaced_later is file.0))

  one_more : is_listed g xs ≡ false → (file : File) → length (replaced file.0) ≡ length (last_list file.0 [] xs) + only g (length list) file
  one_more is file = by (bytes_eq file.0 g) refl
    where
      by : (b : Bool) → bytes_eq file.0 g ≡ b → length (last_list file.0 (if b then list else []) xs) ≡ length (last_list file.0 [] xs) + (if b then length list else 0)
      by true e =
          let free : is_listed file.0 xs ≡ false = subst (λ x. is_listed x xs ≡ false) (sym (same_path file.0 g e)) is in
          let all = ap length (unlisted file.0 list xs free) in
          let none = ap length (unlisted file.0 [] xs free) in
          omega (arith, all, none)
      by false e = sym (add-zero _)

  -- a list of a file outside of the project is empty
  empty_outside : ((f : Path) → bytes_at f p ≡ None → replaced f ≡ []) → is_listed g xs ≡ false → (o : Option (List ℕ)) → bytes_at g p ≡ o
      → (if is_some o then length list else 0) ≡ length list
  empty_outside bare is None e =
      let is_list : replaced g ≡ list = unlisted g _ xs is ∙ cond-true _ _ _ (self_path g) in
      ap length (sym (bare g e) ∙ is_list)
  empty_outside bare is (Some bytes) e = refl

  counted_last : ((f : Path) → bytes_at f p ≡ None → replaced f ≡ []) → is_listed g xs ≡ false → sum_by (λ (file : File). length (replaced file.0)) p ≡ length list + listed_errors p xs
  counted_last bare is =
      let split = sum_same _ _ p (one_more is) in
      let both = sum_both (λ file. length (last_list file.0 [] xs)) (only g (length list)) p in
      let here = sum_only g (length list) p order in
      let whole = empty_outside bare is (bytes_at g p) refl in
      split ∙ both ∙ (let total : listed_errors p xs + sum_by (only g (length list)) p ≡ length list + listed_errors p xs = omega (arith, here, whole) in total)

-- the errors of the last lists are those of the project's files together
pub errors_of_files : (p : Project) → IsProject p → (xs : List Step) → IsBareOutside p xs → errors_in xs ≡ listed_errors p xs
errors_of_files p order [] bare = sym (sum_none p)
errors_of_files p order (Work g epoch list true ∷ xs) bare = by (is_listed g xs) refl (errors_of_files p order xs)
  where
    by : (b : Bool) → is_listed g xs ≡ b → (IsBareOutside p xs → errors_in xs ≡ listed_errors p xs)
        → (if b then 0 else length list) + errors_in xs ≡ listed_errors p (Work g epoch list true ∷ xs)
    by true is later = zero-add _ ∙ later (bare_later p order g list xs bare is) ∙ sym (counted_later p order g list xs is)
    by false is later = ap (λ n. length list + n) (later (bare_last p order g list xs bare is)) ∙ sym (counted_last p order g list xs bare is)
errors_of_files p order (Work g epoch list false ∷ xs) bare = zero-add _ ∙ errors_of_files p order xs bare
errors_of_files p order (Take inp ∷ xs) bare = zero-add _ ∙ errors_of_files p order xs bare
errors_of_files p order (Look ∷ xs) bare = zero-add _ ∙ errors_of_files p order xs bare
errors_of_files p order (Build ∷ xs) bare = zero-add _ ∙ errors_of_files p order xs bare
errors_of_files p order (Dropped g ∷ xs) bare = zero-add _ ∙ errors_of_files p order xs bare
errors_of_files p order (Idle ∷ xs) bare = zero-add _ ∙ errors_of_files p order xs bare
