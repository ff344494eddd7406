-- A break is the least one.
use Rattle.std.proofs.Common.{◌≡◌, ◌⊎◌, ℕ, ◌+◌, ◌<◌, zero, suc, List, [], ◌∷◌, ◌++◌, length, take, None, Some, refl, sym, ap, ◌∙◌, subst, inl, inr, arith, append-nil, append_assoc, length-append, replicate}
use Rattle.std.proofs.lemmas.List.{length-replicate}
use Rattle.lsp_frame.specs.declared.head.Scan.TheVariants.{Line, Done}
use Rattle.lsp_frame.specs.Grammar.{IsHead, BeginsHead, IsUnended, BreaksAt, IsFrames, IsAnyFrame, AreFrames, BeginsFrames, IsLeastBreak}
use Rattle.lsp_frame.proofs.RunLemmas.{runs, runs-through, head_runs}

-- two ways to split one list
append_split : (h k a b : List ℕ) → h ++ a ≡ k ++ b
    → ((d : List ℕ) × (k ≡ h ++ d) × (a ≡ d ++ b)) ⊎ ((d : List ℕ) × (h ≡ k ++ d) × (b ≡ d ++ a))
append_split [] k a b e = inl (k, refl, e)
append_split (x ∷ h) [] a b e = inr (x ∷ h, refl, sym e)
append_split (x ∷ h) (y ∷ k) a b e =
    let first : x ≡ y = cc in
    let rest : h ++ a ≡ k ++ b = cc in
    elim (append_split h k a b rest) [
      | inl p ↦ inl (p.0, ap (λ l. l ∷ k) (sym first) ∙ ap (λ l. x ∷ l) p.1, p.2)
      | inr p ↦ inr (p.0, ap (λ l. l ∷ h) first ∙ ap (λ l. y ∷ l) p.1, p.2)
    ]

-- nothing follows the end of a head
done_ends : (n m : ℕ) (d : List ℕ) → runs (Done n) d ≡ Some (Done m) → (d ≡ []) × (n ≡ m)
done_ends n m [] e = (refl, cc)
done_ends n m (x ∷ d) e = absurd (let wrong : None ≡ Some (Done m) = e in cc)

-- a head that begins with a head is that head
head_grows : (h d : List ℕ) (n m : ℕ) → IsHead h n → IsHead (h ++ d) m → (d ≡ []) × (n ≡ m)
head_grows h d n m is longer =
    done_ends n m d (sym (runs-through (Line None) (Done n) h d (head_runs h n is)) ∙ head_runs (h ++ d) m longer)

-- one list begins with one head
head_unique : (h k a b : List ℕ) (n m : ℕ) → IsHead h n → IsHead k m → h ++ a ≡ k ++ b → (h ≡ k) × (n ≡ m) × (a ≡ b)
head_unique h k a b n m is_h is_k e =
    elim (append_split h k a b e) [
      | inl p ↦
          let same = head_grows h p.0 n m is_h (subst (λ l. IsHead l m) p.1 is_k) in
          (sym (p.1 ∙ ap (λ l. h ++ l) same.0 ∙ append-nil h), same.1, p.2 ∙ ap (λ l. l ++ b) same.0)
      | inr p ↦
          let same = head_grows k p.0 m n is_k (subst (λ l. IsHead l n) p.1 is_h) in
          (p.1 ∙ ap (λ l. k ++ l) same.0 ∙ append-nil k, sym same.1, sym (p.2 ∙ ap (λ l. l ++ a) same.0))
    ]

head_not_empty : (h : List ℕ) (n : ℕ) → IsHead h n → 0 < length h
head_not_empty h n is = omega (arith, ap length is.2, length-append is.0 (13 ∷ 10 ∷ []))

-- parts of one length
same_parts : (c d a b : List ℕ) → length c ≡ length d → c ++ a ≡ d ++ b → a ≡ b
same_parts [] [] a b long e = e
same_parts [] (y ∷ d) a b long e = absurd (omega (arith, long))
same_parts (x ∷ c) [] a b long e = absurd (omega (arith, long))
same_parts (x ∷ c) (y ∷ d) a b long e =
    let rest : c ++ a ≡ d ++ b = cc in let shorter : length c ≡ length d = omega (arith, long) in same_parts c d a b shorter rest

-- what stands after frames in a list of frames is one
after_frames : (bodies others : List (List ℕ)) (front x : List ℕ) → IsFrames front bodies → AreFrames (front ++ x) others → (left : List (List ℕ)) × AreFrames x left
after_frames [] others front x frames all = (others, subst (λ l. AreFrames (l ++ x) others) frames all)
after_frames (body ∷ bodies) [] front x frames all =
    let head = frames.2.head in
    let some = head_not_empty head (length body) frames.2.is_head in
    let e : length (front ++ x) ≡ 0 = ap length all in
    let long : length front ≡ length (frames.0 ++ frames.1) = ap length frames.4 in
    absurd (omega (arith, some, e, long, length-append front x, length-append frames.0 frames.1, ap length frames.2.is, length-append head body))
after_frames (body ∷ bodies) (other ∷ others) front x frames all =
    let mine = frames.2 in
    let theirs = all.2 in
    let left : front ++ x ≡ mine.head ++ (body ++ (frames.1 ++ x)) = ap (λ l. l ++ x) (frames.4 ∙ ap (λ l. l ++ frames.1) mine.is) ∙ simp append_assoc in
    let right : front ++ x ≡ theirs.0 ++ (other ++ all.1) = all.4 ∙ ap (λ l. l ++ all.1) theirs.2 ∙ append_assoc theirs.0 other all.1 in
    let same = head_unique mine.head theirs.0 (body ++ (frames.1 ++ x)) (other ++ all.1) (length body) (length other) mine.is_head theirs.1 (sym left ∙ right) in
    let later : frames.1 ++ x ≡ all.1 = same_parts body other (frames.1 ++ x) all.1 same.1 same.2 in
    after_frames bodies others frames.1 x frames.3 (subst (λ l. AreFrames l others) (sym later) all.3)

-- ---- a break

take_one : (n : ℕ) (xs : List ℕ) → n < length xs → (last : ℕ) × (take (n + 1) xs ≡ take n xs ++ (last ∷ []))
take_one zero [] inside = absurd (omega (arith, inside))
take_one zero (x ∷ xs) inside = (x, refl)
take_one (suc n) [] inside = absurd (omega (arith, inside))
take_one (suc n) (x ∷ xs) inside =
    let less : n < length xs = omega (arith, inside) in
    let rest = take_one n xs less in
    let one : suc n + 1 ≡ suc (n + 1) = omega arith in
    (rest.0, ap (λ k. take k (x ∷ xs)) one ∙ ap (λ l. x ∷ l) rest.1)

-- bytes that begin a head and aren't one hold none
no_head_inside : (p h d : List ℕ) (n : ℕ) → IsUnended p → IsHead h n → p ≡ h ++ d → ⊥
no_head_inside p h d n unended is e =
    let begins = unended.0 in
    let whole : p ++ begins.0 ≡ h ++ (d ++ begins.0) = ap (λ l. l ++ begins.0) e ∙ append_assoc h d begins.0 in
    let none = head_grows h (d ++ begins.0) n begins.1 is (subst (λ l. IsHead l begins.1) whole begins.2) in
    let empty : length d ≡ 0 = let both : length (d ++ begins.0) ≡ 0 = ap length none.0 in omega (arith, both, length-append d begins.0) in
    let same : p ≡ h = e ∙ ap (λ l. h ++ l) (empty_of d empty) ∙ append-nil h in
    unended.1 n (subst (λ l. IsHead l n) (sym same) is)
  where
    empty_of : (l : List ℕ) → length l ≡ 0 → l ≡ []
    empty_of [] none = refl
    empty_of (x ∷ xs) none = absurd (omega (arith, none))

-- a list of one splits in two ways
one_split : (x y : List ℕ) (last : ℕ) → last ∷ [] ≡ x ++ y → (x ≡ []) ⊎ (x ≡ last ∷ [])
one_split [] y last e = inl refl
one_split (z ∷ []) y last e = inr cc
one_split (z ∷ w ∷ ws) y last e = absurd (let wrong : [] ≡ w ∷ (ws ++ y) = cc in cc)

-- no list of frames begins where no head does
no_frames : (p : List ℕ) (last : ℕ) (rest : List ℕ) (bodies : List (List ℕ)) → IsUnended p → (BeginsHead (p ++ (last ∷ [])) → ⊥) → AreFrames ((p ++ (last ∷ [])) ++ rest) bodies → ⊥
no_frames p last rest [] unended stuck frames =
    let none : length ((p ++ (last ∷ [])) ++ rest) ≡ 0 = ap length frames in
    absurd (omega (arith, none, length-append (p ++ (last ∷ [])) rest, length-append p (last ∷ [])))
no_frames p last rest (body ∷ bodies) unended stuck frames =
    let head = frames.2.0 in
    let whole : head ++ (body ++ frames.1) ≡ (p ++ (last ∷ [])) ++ rest = sym (frames.4 ∙ ap (λ l. l ++ frames.1) frames.2.2 ∙ append_assoc head body frames.1) in
    elim (append_split head (p ++ (last ∷ [])) (body ++ frames.1) rest whole) [
      | inl q ↦ elim (append_split head p q.0 (last ∷ []) (sym q.1)) [
        | inl r ↦ no_head_inside p head r.0 (length body) unended frames.2.1 r.1
        | inr r ↦ elim (one_split r.0 q.0 last r.2) [
          | inl none ↦ no_head_inside p head [] (length body) unended frames.2.1 (sym (r.1 ∙ ap (λ l. p ++ l) none ∙ append-nil p) ∙ sym (append-nil head))
          | inr all ↦ stuck ([], length body, subst (λ l. IsHead l (length body)) (r.1 ∙ ap (λ l. p ++ l) all ∙ sym (append-nil (p ++ (last ∷ [])))) frames.2.1)
        ]
      ]
      | inr q ↦ stuck (q.0, length body, subst (λ l. IsHead l (length body)) q.1 frames.2.1)
    ]

-- ---- the bytes before a break

frames_more : (bodies : List (List ℕ)) (front frame body : List ℕ) → IsFrames front bodies → IsAnyFrame frame body → AreFrames (front ++ frame) (bodies ++ (body ∷ []))
frames_more [] front frame body frames is =
    (frame, [], is, refl, ap (λ l. l ++ frame) frames ∙ sym (append-nil frame))
frames_more (first ∷ bodies) front frame body frames is =
    let any : IsAnyFrame frames.0 first = (frames.2.head, frames.2.is_head, frames.2.is) in
    (frames.0, frames.1 ++ frame, any, frames_more bodies frames.1 frame body frames.3 is, ap (λ l. l ++ frame) frames.4 ∙ append_assoc frames.0 frames.1 frame)

begins_frames : (front p : List ℕ) (bodies : List (List ℕ)) → IsFrames front bodies → BeginsHead p → BeginsFrames (front ++ p)
begins_frames front p bodies frames begins =
    let body = replicate begins.1 0 in
    let long : length body ≡ begins.1 = length-replicate begins.1 0 in
    let any : IsAnyFrame ((p ++ begins.0) ++ body) body = (p ++ begins.0, subst (IsHead (p ++ begins.0)) (sym long) begins.2, refl) in
    let whole : front ++ ((p ++ begins.0) ++ body) ≡ (front ++ p) ++ (begins.0 ++ body) = sym (simp append_assoc) in
    (begins.0 ++ body, bodies ++ (body ∷ []), subst (λ l. AreFrames l (bodies ++ (body ∷ []))) whole (frames_more bodies front ((p ++ begins.0) ++ body) body frames any))

-- a break is the least one
pub least_break : (front rest : List ℕ) (bodies : List (List ℕ)) (size : ℕ) → IsFrames front bodies → BreaksAt rest size → IsLeastBreak front rest size
least_break front rest bodies size frames breaks = (
  begins_frames front (take size rest) bodies frames breaks.0.0,
  elim breaks.2 [
    | inl limit ↦ inl limit
    | inr is ↦ inr (λ begins.
        let one = take_one size rest is.1 in
        let later : (front ++ take (size + 1) rest) ++ begins.0 ≡ front ++ ((take size rest ++ (one.0 ∷ [])) ++ begins.0) =
        append_assoc front (take (size + 1) rest) begins.0 ∙ ap (λ l. front ++ (l ++ begins.0)) one.1 in
        let left = after_frames bodies begins.1 front ((take size rest ++ (one.0 ∷ [])) ++ begins.0) frames (subst (λ l. AreFrames l begins.1) later begins.2) in
        no_frames (take size rest) one.0 begins.0 left.0 breaks.0 (λ h. is.2 (subst BeginsHead (sym one.1) h)) left.1)
  ],
)
