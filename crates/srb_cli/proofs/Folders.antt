-- Files of a folder in the order of their paths.
use Rattle.std.proofs.Common.{◌≡◌, ℕ, suc, ◌+◌, ◌-◌, ◌<◌, ◌≤◌, List, [], ◌∷◌, ◌++◌, length, get_or, drop, map, string_bytes, refl, sym, ap, ◌∙◌, subst, arith, append_assoc}
use Rattle.std.proofs.Math.Seq.{drop-cons}
use Rattle.std.proofs.Math.ListN.{drop_of_length-le}
use Rattle.std.specs.declared.string.String.{String}
use Rattle.std.specs.Prelude.{Option}
use Rattle.std.specs.Ordering.{ordering_reverse}
use Rattle.std.specs.Cmp.Lexicographic.{nat_list_cmp_total}
use Rattle.std.specs.declared.cmp.Ordering.TheVariants.{Less}
use Rattle.std.proofs.lemmas.List.{length-map}
use Rattle.std.proofs.lemmas.List.Sums.{sum_by-append}
use Rattle.srb_io.specs.Files.{FolderFile, IsBeforeEach, AreInOrder, AreListed}
use Rattle.srb_terms.specs.PathMaps.{IsBeforeAll, IsAfterAll, path_cmp}
use Rattle.srb_terms.specs.Projects.{IsProject, put_file}
use Rattle.srb_terms.proofs.PathOrder.{put_value-after}
use Rattle.lsp_docs.specs.Projects.{paths_of, total_bytes}
use Rattle.srb_terms.specs.declared.cause.Cause.{Cause}
use Rattle.srb_terms.specs.declared.cause.Cause.TheVariants.{Done, Errors, NoShutdown, Usage, ReadFault, WriteFault, Broken, TooLong, TooMany, TooBig, NoMemory}
use Rattle.run_serve.specs.Projects.{IsWithin}
use Rattle.srb_cli.specs.Folders.{IsTold, AreTold, IsFolder, IsUnread, IsFileUnread, IsPastBytes}

-- ---- in order

before_all : (path : List ℕ) (files : List FolderFile) → IsBeforeEach path (paths_of files) → IsBeforeAll path files
before_all path [] each = tt
before_all path (file ∷ files) each = (each.0, before_all path files each.1)

pub project_in_order : (files : List FolderFile) → AreInOrder (paths_of files) → IsProject files
project_in_order [] ordered = tt
project_in_order (file ∷ files) ordered = (before_all file.0 files ordered.0, project_in_order files ordered.1)

-- a path that stands after some files in the order
before_one : (p q : List ℕ) (xs ys : List (List ℕ)) → IsBeforeEach p (xs ++ q ∷ ys) → path_cmp p q ≡ Less
before_one p q [] ys each = each.0
before_one p q (x ∷ xs) ys each = before_one p q xs ys each.1

pub after_all : (path : List ℕ) (files : List FolderFile) (later : List (List ℕ)) → AreInOrder (paths_of files ++ path ∷ later) → IsAfterAll path files
after_all path [] later ordered = tt
after_all path (file ∷ files) later ordered =
    (nat_list_cmp_total.antisymm path file.0 ∙ ap ordering_reverse (before_one file.0 path (paths_of files) later ordered.0), after_all path files later ordered.1)

append_none : (files : List FolderFile) → files ++ [] ≡ files
append_none [] = refl
append_none (file ∷ files) = ap (λ rest. file ∷ rest) (append_none files)

pub put_at_end : (path bytes : List ℕ) (files : List FolderFile) (later : List (List ℕ)) → AreInOrder (paths_of files ++ path ∷ later)
    → put_file path bytes files ≡ files ++ (path, bytes) ∷ []
put_at_end path bytes files later ordered =
    ap (put_file path bytes) (sym (append_none files)) ∙ put_value-after path bytes files [] (after_all path files later ordered)

pub paths_of-append : (xs ys : List FolderFile) → paths_of (xs ++ ys) ≡ paths_of xs ++ paths_of ys
paths_of-append [] ys = refl
paths_of-append (x ∷ xs) ys = ap (λ rest. x.0 ∷ rest) (paths_of-append xs ys)

pub length-paths_of : (files : List FolderFile) → length (paths_of files) ≡ length files
length-paths_of [] = refl
length-paths_of (file ∷ files) = let same = length-paths_of files in omega (arith, same)

pub AreTold-append : (told : Option (List FolderFile)) (xs ys : List FolderFile) → AreTold told xs → AreTold told ys → AreTold told (xs ++ ys)
AreTold-append told [] ys p q = q
AreTold-append told (x ∷ xs) ys p q = (p.0, AreTold-append told xs ys p.1 q)

pub total_bytes-append : (xs ys : List FolderFile) → total_bytes (xs ++ ys) ≡ total_bytes xs + total_bytes ys
total_bytes-append xs ys = sum_by-append (λ (file : FolderFile). length file.1) xs ys

-- ---- one file after the other

-- The paths of the files that were read, and after them the paths that are left, are those that were listed; the files that
-- were read are told, and this room is left.
pub record IsReadTo (told : Option (List FolderFile)) (paths : List (List ℕ)) (files : List FolderFile) (left : List (List ℕ)) (room : ℕ) : Type 0 where
  pub split : paths_of files ++ left ≡ paths
  pub true_to : AreTold told files
  pub whole : total_bytes files + room ≡ 16777216

pub read_none : (told : Option (List FolderFile)) (paths : List (List ℕ)) (files : List FolderFile) (left : List (List ℕ)) (room : ℕ) → files ≡ [] → left ≡ paths → room ≡ 16777216
    → IsReadTo told paths files left room
read_none told paths files left room none all whole = record {
  split = ap (λ f. paths_of f ++ left) none ∙ all;
  true_to = subst (AreTold told) (sym none) tt;
  whole = ap (λ f. total_bytes f + room) none ∙ whole_room;
}
  where
    whole_room : 0 + room ≡ 16777216
    whole_room = omega (arith, whole)

pub read_more : (told : Option (List FolderFile)) (paths : List (List ℕ)) (files new : List FolderFile) (path bytes : List ℕ) (left later : List (List ℕ)) (room room' : ℕ)
    → AreInOrder paths → left ≡ path ∷ later → IsReadTo told paths files left room → IsTold told (path, bytes) → length bytes ≤ room → room' ≡ room - length bytes
    → new ≡ put_file path bytes files → IsReadTo told paths new later room'
read_more told paths files new path bytes left later room room' ordered next so_far there fits less is =
    let here : paths_of files ++ path ∷ later ≡ paths = ap (λ l. paths_of files ++ l) (sym next) ∙ so_far.split in
    let at_end : new ≡ files ++ (path, bytes) ∷ [] = is ∙ put_at_end path bytes files later (subst AreInOrder (sym here) ordered) in
    let sum : total_bytes new ≡ total_bytes files + total_bytes ((path, bytes) ∷ []) = ap total_bytes at_end ∙ total_bytes-append files ((path, bytes) ∷ []) in
    record {
      split = ap (λ f. paths_of f ++ later) at_end ∙ ap (λ l. l ++ later) (paths_of-append files ((path, bytes) ∷ [])) ∙ append_assoc (paths_of files) (path ∷ []) later ∙ here;
      true_to = subst (AreTold told) (sym at_end) (AreTold-append told files ((path, bytes) ∷ []) so_far.true_to (there, tt));
      whole = more_room (total_bytes files) (total_bytes new) (length bytes) room room' sum so_far.whole fits less;
    }
  where
    more_room : (old new size room room' : ℕ) → new ≡ old + (0 + size) → old + room ≡ 16777216 → size ≤ room → room' ≡ room - size → new + room' ≡ 16777216
    more_room old new size room room' sum whole fits less = omega arith

append_no_paths : (paths : List (List ℕ)) → paths ++ [] ≡ paths
append_no_paths [] = refl
append_no_paths (path ∷ paths) = ap (λ rest. path ∷ rest) (append_no_paths paths)

pub read_all : (told : Option (List FolderFile)) (paths : List (List ℕ)) (files : List FolderFile) (left : List (List ℕ)) (room : ℕ)
    → AreInOrder paths → AreListed told paths → left ≡ [] → IsReadTo told paths files left room → IsFolder told files
read_all told paths files left room ordered listed none so_far =
    let same : paths_of files ≡ paths = sym (append_no_paths (paths_of files)) ∙ ap (λ l. paths_of files ++ l) (sym none) ∙ so_far.split in
    record { ordered = subst AreInOrder (sym same) ordered; listed = subst (AreListed told) (sym same) listed; read = so_far.true_to }

pub read_within : (told : Option (List FolderFile)) (paths : List (List ℕ)) (files : List FolderFile) (left : List (List ℕ)) (room : ℕ)
    → length paths ≤ 4096 → left ≡ [] → IsReadTo told paths files left room → IsWithin files
read_within told paths files left room few none so_far =
    let same : paths_of files ≡ paths = sym (append_no_paths (paths_of files)) ∙ ap (λ l. paths_of files ++ l) (sym none) ∙ so_far.split in
    let count : length files ≡ length paths = sym (length-paths_of files) ∙ ap length same in
    let size = so_far.whole in
    record { files = omega (arith, count, few); bytes = omega (arith, size) }

-- reading stops at a file
pub stopped : (cause : Cause) (told : Option (List FolderFile)) (paths : List (List ℕ)) (files : List FolderFile) (path : List ℕ) (left later : List (List ℕ)) (room before same after : ℕ)
    → AreInOrder paths → AreListed told paths → length paths ≤ 4096 → left ≡ path ∷ later → IsReadTo told paths files left room → same ≡ before
    → IsFileUnread cause told path room same after → IsUnread cause told before after
stopped ReadFault told paths files path left later room before same after ordered listed few next so_far is u = omega (arith, is, u)
stopped (TooBig name) told paths files path left later room before same after ordered listed few next so_far is u =
    let here : paths_of files ++ path ∷ later ≡ paths = ap (λ l. paths_of files ++ l) (sym next) ∙ so_far.split in
    let size = so_far.whole in
    let past : room < length u.1.0 = u.1.2 in
    let big : IsPastBytes told path = record {
      front = files;
      later = later;
      bytes = u.1.0;
      ordered = subst AreInOrder (sym here) ordered;
      listed = subst (AreListed told) (sym here) listed;
      files = subst (λ l. length l ≤ 4096) (sym here) few;
      read = so_far.true_to;
      within = omega (arith, size);
      there = u.1.1;
      past = omega (arith, size, past);
    } in
    (subst (IsPastBytes told) (sym u.0) big, u.2 ∙ is)
stopped NoMemory told paths files path left later room before same after ordered listed few next so_far is u = u ∙ is
stopped Done told paths files path left later room before same after ordered listed few next so_far is u = absurd u
stopped Errors told paths files path left later room before same after ordered listed few next so_far is u = absurd u
stopped NoShutdown told paths files path left later room before same after ordered listed few next so_far is u = absurd u
stopped Usage told paths files path left later room before same after ordered listed few next so_far is u = absurd u
stopped WriteFault told paths files path left later room before same after ordered listed few next so_far is u = absurd u
stopped (Broken at) told paths files path left later room before same after ordered listed few next so_far is u = absurd u
stopped (TooLong size) told paths files path left later room before same after ordered listed few next so_far is u = absurd u
stopped (TooMany count) told paths files path left later room before same after ordered listed few next so_far is u = absurd u

-- the next path of those that are left
pub next_path : {Z : Type 0} (paths : List (String Z)) (i : ℕ) (path : String Z) (text : List ℕ) → i < length paths → path ≡ get_or paths i path → text ≡ string_bytes path
    → map string_bytes (drop i paths) ≡ text ∷ map string_bytes (drop (i + 1) paths)
next_path paths i path text within is at =
    let e : i + 1 ≡ suc i = omega arith in
    ap (map string_bytes) (drop-cons paths i path within ∙ ap (λ p. p ∷ drop (suc i) paths) (sym is) ∙ ap (λ k. path ∷ drop k paths) (sym e))
    ∙ ap (λ t. t ∷ map string_bytes (drop (i + 1) paths)) (sym at)

pub no_path_left : {Z : Type 0} (paths : List (String Z)) (i : ℕ) → length paths ≤ i → map string_bytes (drop i paths) ≡ []
no_path_left paths i past = ap (map string_bytes) (drop_of_length-le paths past)

pub few_texts : {Z : Type 0} (paths : List (String Z)) → length paths ≤ 4096 → length (map string_bytes paths) ≤ 4096
few_texts paths few = simp length-map few
