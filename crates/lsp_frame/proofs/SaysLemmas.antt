-- A head, by the grammar.
use Rattle.std.proofs.Common.{◌≡◌, ◌⊎◌, ℕ, ◌+◌, ◌<◌, ◌≤◌, nat_le, Bool, true, false, if◌then◌else◌, List, [], ◌∷◌, ◌++◌, length, take, None, Some, refl, sym, ap, ◌∙◌, subst, inl, inr, arith, append-nil, append_assoc, length-append}
use Rattle.std.proofs.Math.Seq.{take-append_seam}
use Rattle.std.proofs.lemmas.Bool.Decides.{nat_tests}
use Rattle.std.specs.declared.option.Option.{Option}
use Rattle.lsp_frame.specs.declared.head.Scan.{Scan}
use Rattle.lsp_frame.specs.declared.head.Scan.TheVariants.{Line, Name, Value, LineEnd, Before, Digits, After, HeadEnd, Done}
use Rattle.lsp_frame.specs.declared.head.Head.{Head}
use Rattle.lsp_frame.specs.declared.head.Head.TheVariants.{Unended, Broken, Gives}
use Rattle.lsp_frame.specs.Head.{settled_or, go_on, step_of, unended_at, head_at, head_from, head_of}
use Rattle.lsp_frame.specs.Grammar.{IsHead, BeginsHead, IsNoHead, IsUnended, HeadSays}
use Rattle.lsp_frame.proofs.ReachedLemmas.{Reached}
use Rattle.lsp_frame.proofs.StepLemmas.{step_sound}
use Rattle.lsp_frame.proofs.RunLemmas.{run_on, runs, runs-through, head_runs, live}

-- a scan that has come this far, by these bytes
record At (s : Scan) (bytes : List ℕ) : Type 0 where
  ran : runs (Line None) bytes ≡ Some s
  reached : Reached s bytes

-- one byte more
At-more : (s t : Scan) (bytes : List ℕ) (b : ℕ) → step_of s b ≡ Some t → At s bytes → At t (bytes ++ (b ∷ []))
At-more s t bytes b e at = record {
  ran = runs-through (Line None) s bytes (b ∷ []) at.ran ∙ ap (λ o. run_on o (λ next. runs next [])) e;
  reached = step_sound s t bytes b e at.reached;
}

next_reads : (s : Scan) (bytes rest : List ℕ) (b : ℕ) (u : Scan) (next : Option Scan) → At s bytes → step_of s b ≡ next → run_on next (λ t. runs t rest) ≡ Some u
    → ((t : Scan) (front : List ℕ) → At t front → runs t rest ≡ Some u → Reached u (front ++ rest)) → Reached u (bytes ++ (b ∷ rest))
next_reads s bytes rest b u None at is e later = absurd (let wrong : None ≡ Some u = e in cc)
next_reads s bytes rest b u (Some t) at is e later =
    subst (λ l. Reached u l) (append_assoc bytes (b ∷ []) rest) (later t (bytes ++ (b ∷ [])) (At-more s t bytes b is at) e)

-- bytes after which a scan goes on to its end are read by the grammar
reads_on : (s : Scan) (bytes rest : List ℕ) (u : Scan) → At s bytes → runs s rest ≡ Some u → Reached u (bytes ++ rest)
reads_on s bytes [] u at e = let is : s ≡ u = cc in subst (λ l. Reached u l) (sym (append-nil bytes)) (subst (λ t. Reached t bytes) is at.reached)
reads_on s bytes (b ∷ rest) u at e = next_reads s bytes rest b u (step_of s b) at refl e (λ t front at_t h. reads_on t front rest u at_t h)

-- a scan that goes on begins a head
At-begins : (s : Scan) (bytes : List ℕ) → At s bytes → BeginsHead bytes
At-begins s bytes at = let end = live s bytes at.reached in (end.0, end.1, reads_on s bytes end.0 (Done end.1) at end.2)

-- and where it isn't at its end there is no head yet
At-no_head : (s : Scan) (bytes : List ℕ) → At s bytes → ((n : ℕ) → s ≡ Done n → ⊥) → IsNoHead bytes
At-no_head s bytes at going n is = going n (let both : Some s ≡ Some (Done n) = sym at.ran ∙ head_runs bytes n is in cc)

At-unended : (s : Scan) (bytes : List ℕ) → At s bytes → ((n : ℕ) → s ≡ Done n → ⊥) → IsUnended bytes
At-unended s bytes at going = (At-begins s bytes at, At-no_head s bytes at going)

-- where no step goes on no head does
At-stuck : (s : Scan) (bytes : List ℕ) (b : ℕ) → At s bytes → step_of s b ≡ None → BeginsHead (bytes ++ (b ∷ [])) → ⊥
At-stuck s bytes b at e begins =
    let whole : (bytes ++ (b ∷ [])) ++ begins.0 ≡ bytes ++ (b ∷ begins.0) = append_assoc bytes (b ∷ []) begins.0 in
    let stuck : runs (Line None) (bytes ++ (b ∷ begins.0)) ≡ None = runs-through (Line None) s bytes (b ∷ begins.0) at.ran ∙ ap (λ o. run_on o (λ next. runs next begins.0)) e in
    let ends : runs (Line None) (bytes ++ (b ∷ begins.0)) ≡ Some (Done begins.1) = ap (runs (Line None)) (sym whole) ∙ head_runs _ begins.1 begins.2 in
    let wrong : None ≡ Some (Done begins.1) = sym stuck ∙ ends in cc

-- ---- what is settled

past_limit : (past : Bool) (size : ℕ) → nat_le 4096 size ≡ past → ((4096 ≤ size) × ((if past then Broken size else Unended) ≡ Broken size)) ⊎ ((size < 4096) × ((if past then Broken size else Unended) ≡ Unended))
past_limit true size e = inl (grind (arith, nat_tests), refl)
past_limit false size e = inr (grind (arith, nat_tests), refl)

pub unended_cases : (size : ℕ) → ((4096 ≤ size) × (unended_at size ≡ Broken size)) ⊎ ((size < 4096) × (unended_at size ≡ Unended))
unended_cases size = past_limit (nat_le 4096 size) size refl

-- a scan is at its end or goes on
pub done_cases : (size : ℕ) (s : Scan) → ((n : ℕ) × (s ≡ Done n)) ⊎ ((head_at size s ≡ unended_at size) × ((n : ℕ) → s ≡ Done n → ⊥))
done_cases size (Line length) = inr (refl, λ n e. cc)
done_cases size (Name so_far length) = inr (refl, λ n e. cc)
done_cases size (Value length) = inr (refl, λ n e. cc)
done_cases size (LineEnd length) = inr (refl, λ n e. cc)
done_cases size Before = inr (refl, λ n e. cc)
done_cases size (Digits count value) = inr (refl, λ n e. cc)
done_cases size (After value) = inr (refl, λ n e. cc)
done_cases size (HeadEnd n) = inr (refl, λ n e. cc)
done_cases size (Done n) = inl (n, refl)

front_of : (size : ℕ) (bytes rest : List ℕ) → length bytes ≡ size → take size (bytes ++ rest) ≡ bytes
front_of size bytes rest long = ap (λ k. take k (bytes ++ rest)) (sym long) ∙ take-append_seam bytes rest

within : (size : ℕ) (bytes rest : List ℕ) → length bytes ≡ size → size ≤ length (bytes ++ rest)
within size bytes rest long = omega (arith, length-append bytes rest, long)

-- at the end of a head
gives_says : (size : ℕ) (n : ℕ) (bytes rest : List ℕ) → length bytes ≡ size → size ≤ 4096 → Reached (Done n) bytes → HeadSays (bytes ++ rest) (Gives n size)
gives_says size n bytes rest long short reached =
    (subst (λ l. IsHead l n) (sym (front_of size bytes rest long)) reached, within size bytes rest long, short)

-- past the limit
limit_says : (size : ℕ) (s : Scan) (bytes rest : List ℕ) → length bytes ≡ size → size ≤ 4096 → 4096 ≤ size → At s bytes → ((n : ℕ) → s ≡ Done n → ⊥)
    → HeadSays (bytes ++ rest) (Broken size)
limit_says size s bytes rest long short past at going =
    (subst IsUnended (sym (front_of size bytes rest long)) (At-unended s bytes at going), within size bytes rest long, inl (omega arith))

-- where no head goes on
stuck_says : (size : ℕ) (s : Scan) (bytes rest : List ℕ) (b : ℕ) → length bytes ≡ size → size < 4096 → At s bytes → ((n : ℕ) → s ≡ Done n → ⊥) → step_of s b ≡ None
    → HeadSays (bytes ++ (b ∷ rest)) (Broken size)
stuck_says size s bytes rest b long room at going stuck =
    let longer : length (bytes ++ (b ∷ [])) ≡ size + 1 = length-append bytes (b ∷ []) ∙ ap (λ k. k + 1) long in
    let one_more : take (size + 1) (bytes ++ (b ∷ rest)) ≡ bytes ++ (b ∷ []) = ap (take (size + 1)) (sym (append_assoc bytes (b ∷ []) rest)) ∙ front_of (size + 1) (bytes ++ (b ∷ [])) rest longer in
    let inside : size < length (bytes ++ (b ∷ rest)) = omega (arith, length-append bytes (b ∷ rest), long) in (
      subst IsUnended (sym (front_of size bytes (b ∷ rest) long)) (At-unended s bytes at going),
      within size bytes (b ∷ rest) long,
      inr (room, inside, λ begins. At-stuck s bytes b at stuck (subst BeginsHead one_more begins)),
    )

-- the end of the bytes
end_says : (size : ℕ) (s : Scan) (bytes : List ℕ) → length bytes ≡ size → size < 4096 → At s bytes → ((n : ℕ) → s ≡ Done n → ⊥) → HeadSays (bytes ++ []) Unended
end_says size s bytes long room at going =
    subst (λ l. HeadSays l Unended) (sym (append-nil bytes)) (At-unended s bytes at going, omega (arith, long))

done_says : (size : ℕ) (s : Scan) (n : ℕ) (bytes rest : List ℕ) → length bytes ≡ size → size ≤ 4096 → At s bytes → s ≡ Done n
    → HeadSays (bytes ++ rest) (head_from size s rest)
done_says size s n bytes rest long short at is =
    let reached : Reached (Done n) bytes = subst (λ t. Reached t bytes) is at.reached in
    let gives : head_from size (Done n) rest ≡ Gives n size = done_from size n rest in
    let there : HeadSays (bytes ++ rest) (head_from size (Done n) rest) = subst (HeadSays (bytes ++ rest)) (sym gives) (gives_says size n bytes rest long short reached) in
    subst (λ t. HeadSays (bytes ++ rest) (head_from size t rest)) (sym is) there
  where
    done_from : (size n : ℕ) (rest : List ℕ) → head_from size (Done n) rest ≡ Gives n size
    done_from size n [] = refl
    done_from size n (b ∷ rest) = refl

-- a settled head, or one that goes on
step_says : (size : ℕ) (s : Scan) (bytes rest : List ℕ) (b : ℕ) (next : Option Scan) → step_of s b ≡ next → length bytes ≡ size → size < 4096 → At s bytes
    → ((n : ℕ) → s ≡ Done n → ⊥)
    → ((t : Scan) (front : List ℕ) → length front ≡ size + 1 → At t front → HeadSays (front ++ rest) (head_from (size + 1) t rest))
    → HeadSays (bytes ++ (b ∷ rest)) (go_on next (Broken size) (λ t. head_from (size + 1) t rest))
step_says size s bytes rest b None is long room at going later = stuck_says size s bytes rest b long room at going is
step_says size s bytes rest b (Some t) is long room at going later =
    let longer : length (bytes ++ (b ∷ [])) ≡ size + 1 = length-append bytes (b ∷ []) ∙ ap (λ k. k + 1) long in
    subst (λ l. HeadSays l (head_from (size + 1) t rest)) (append_assoc bytes (b ∷ []) rest) (later t (bytes ++ (b ∷ [])) longer (At-more s t bytes b is at))

pub settled_is : (head later answer : Head) → head ≡ answer → (answer ≡ Unended → ⊥) → settled_or head later ≡ answer
settled_is Unended later answer is settled = absurd (settled (sym is))
settled_is (Broken at) later answer is settled = is
settled_is (Gives n size) later answer is settled = is

pub unended_is : (head later : Head) → head ≡ Unended → settled_or head later ≡ later
unended_is Unended later is = refl
unended_is (Broken at) later is = absurd (let wrong : Broken at ≡ Unended = is in cc)
unended_is (Gives n size) later is = absurd (let wrong : Gives n size ≡ Unended = is in cc)

says_from : (size : ℕ) (s : Scan) (bytes rest : List ℕ) → length bytes ≡ size → size ≤ 4096 → At s bytes → HeadSays (bytes ++ rest) (head_from size s rest)
says_from size s bytes [] long short at =
    elim (done_cases size s) [
      | inl d ↦ done_says size s d.0 bytes [] long short at d.1
      | inr u ↦ elim (unended_cases size) [
        | inl p ↦ subst (HeadSays (bytes ++ [])) (sym (u.0 ∙ p.1)) (limit_says size s bytes [] long short p.0 at u.1)
        | inr q ↦ subst (HeadSays (bytes ++ [])) (sym (u.0 ∙ q.1)) (end_says size s bytes long q.0 at u.1)
      ]
    ]
says_from size s bytes (b ∷ rest) long short at =
    elim (done_cases size s) [
      | inl d ↦ done_says size s d.0 bytes (b ∷ rest) long short at d.1
      | inr u ↦ elim (unended_cases size) [
        | inl p ↦ subst (HeadSays (bytes ++ (b ∷ rest))) (sym (settled_is (head_at size s) _ (Broken size) (u.0 ∙ p.1) (λ e. cc))) (limit_says size s bytes (b ∷ rest) long short p.0 at u.1)
        | inr q ↦
            let room : size + 1 ≤ 4096 = omega (arith, q.0) in
            subst (HeadSays (bytes ++ (b ∷ rest))) (sym (unended_is (head_at size s) _ (u.0 ∙ q.1))) (step_says size s bytes rest b (step_of s b) refl long q.0 at u.1 (λ t front longer at_t. says_from (size + 1) t front rest longer room at_t))
      ]
    ]

-- what the head of some bytes is, by the grammar
pub head_says : (bytes : List ℕ) → HeadSays bytes (head_of bytes)
head_says bytes =
    says_from 0 (Line None) [] bytes refl (omega arith) (record { ran = refl; reached = ([], tt, refl) })
