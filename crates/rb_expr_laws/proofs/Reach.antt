-- How far a form reaches: over one number of tokens.
use Rattle.std.proofs.Common.{◌≡◌, ◌⊎◌, inl, inr, ℕ, zero, suc, ◌+◌, ◌<◌, ◌≤◌, List, [], ◌∷◌, ◌++◌, length, Ok, Err, refl, sym, ap, subst, ◌∙◌, append_assoc, append-nil, length-append, arith}
use Rattle.rb_tree.specs.declared.syntax.Tree.{Tree}
use Rattle.rb_tree.specs.declared.token.Token.{Token}
use Rattle.rb_expr.specs.Reading.{Outcome}
use Rattle.rb_expr_laws.specs.Forms.{Form, BeginsForm, GoesNoFurther, IsForm, Reaches}
use Rattle.rb_expr_laws.specs.Laws.{FormsReach, NoneIsLonger, OneReach}
use Rattle.rb_expr_laws.proofs.Facts.{alone-begins, refused-no-further, ended-no-further}
use Rattle.rb_expr_laws.proofs.Forms.{facts, reads}

-- ---- where reading stops

pub ended-stops : (form : Form) (t : Tree) (before rest : List Token) → reads form (before ++ rest) ≡ Ok (t, rest) → GoesNoFurther form before rest
ended-stops form t before [] e = tt
ended-stops form t before (next ∷ after) e = ended-no-further (facts form) t before next after e

unfoldable pub read-reaches : (form : Form) (tokens before rest : List Token) (t u : Tree) → tokens ≡ before ++ rest → IsForm form u before [] → reads form tokens ≡ Ok (t, rest) → Reaches form tokens (length before)
read-reaches form tokens before rest t u whole d e =
    let e' : reads form (before ++ rest) ≡ Ok (t, rest) = subst (λ us. reads form us ≡ Ok (t, rest)) whole e in
    record { before = before; rest = rest; whole = whole; number = refl; begins = alone-begins (IsForm form) before u d; no_further = ended-stops form t before rest e' }

pub refused-stops : (form : Form) (before rest : List Token) → reads form (before ++ rest) ≡ Err rest → GoesNoFurther form before rest
refused-stops form before [] e = tt
refused-stops form before (bad ∷ after) e = refused-no-further (facts form) before bad after e

unfoldable pub refused-reaches : (form : Form) (tokens before rest : List Token) → tokens ≡ before ++ rest → BeginsForm form before → reads form tokens ≡ Err rest → Reaches form tokens (length before)
refused-reaches form tokens before rest whole begins e =
    let e' : reads form (before ++ rest) ≡ Err rest = subst (λ us. reads form us ≡ Err rest) whole e in
    record { before = before; rest = rest; whole = whole; number = refl; begins = begins; no_further = refused-stops form before rest e' }

pub forms-reach : FormsReach
forms-reach form tokens = by (reads form tokens) refl
  where
    by : (o : Outcome Tree) → reads form tokens ≡ o → (n : ℕ) × Reaches form tokens n
    by (Ok (t, rest)) e = let h = (facts form).alone tokens rest t e in (length h.0, read-reaches form tokens h.0 rest t h.2 h.1 h.3 e)
    by (Err rest) e = let h = (facts form).begun tokens rest e in (length h.0, refused-reaches form tokens h.0 rest h.1 (h.2, h.3, h.4) e)

-- ---- one number

-- of two fronts of a list the longer goes on from the shorter
pub goes-on : (xs ys us vs : List Token) → xs ++ ys ≡ us ++ vs → length xs ≤ length us → (mid : List Token) × (us ≡ xs ++ mid) × (ys ≡ mid ++ vs)
goes-on [] ys us vs e le = (us, refl, e)
goes-on (x ∷ xs) ys [] vs e le = absurd (let h : ⊥ = omega arith in h)
goes-on (x ∷ xs) ys (u ∷ us) vs e le =
    let same : u ≡ x = cc in
    let tails : xs ++ ys ≡ us ++ vs = cc in
    let h = goes-on xs ys us vs tails (omega arith) in
    (h.0, ap (λ z. z ∷ us) same ∙ ap (λ zs. x ∷ zs) h.1, h.2)

pub front-begins : (form : Form) (xs ys : List Token) → BeginsForm form (xs ++ ys) → BeginsForm form xs
front-begins form xs ys (more, t, d) = (ys ++ more, t, subst (λ us. IsForm form t us []) (append_assoc xs ys more) d)

-- none begins with more tokens
pub no-more : (form : Form) (tokens xs ys : List Token) (n : ℕ) → Reaches form tokens n → tokens ≡ xs ++ ys → BeginsForm form xs → length xs ≤ n
no-more form tokens xs ys n r whole b = by (order (length xs) (length r.before))
  where
    order : (m n : ℕ) → (m ≤ n) ⊎ (n < m)
    order zero n = inl (omega arith)
    order (suc m) zero = inr (omega arith)
    order (suc m) (suc n) = next (order m n)
      where
        next : (m ≤ n) ⊎ (n < m) → (suc m ≤ suc n) ⊎ (suc n < suc m)
        next (inl h) = inl (omega arith)
        next (inr h) = inr (omega arith)

    stopped : (rest mid : List Token) → GoesNoFurther form r.before rest → xs ≡ r.before ++ mid → rest ≡ mid ++ ys → length r.before < length xs → ⊥
    stopped rest [] g e f less = let same : length xs ≡ length (r.before ++ []) = ap (λ (us : List Token). length us) e in let nil : r.before ++ [] ≡ r.before = append-nil r.before in absurd (let h : length xs ≡ length r.before = same ∙ ap (λ (us : List Token). length us) nil in let k : ⊥ = omega arith in k)
    stopped [] (m ∷ mid) g e f less = absurd (cc)
    stopped (next ∷ after) (m ∷ mid) g e f less =
        let same : m ≡ next = cc in
        let b' : BeginsForm form ((r.before ++ m ∷ []) ++ mid) = subst (BeginsForm form) (e ∙ sym (append_assoc r.before (m ∷ []) mid)) b in
        g (subst (λ z. BeginsForm form (r.before ++ z ∷ [])) same (front-begins form (r.before ++ m ∷ []) mid b'))

    by : (length xs ≤ length r.before) ⊎ (length r.before < length xs) → length xs ≤ n
    by (inl h) = let number : n ≡ length r.before = r.number in omega arith
    by (inr h) = let k = goes-on r.before r.rest xs ys (sym r.whole ∙ whole) (omega arith) in absurd (stopped r.rest k.0 r.no_further k.1 k.2 h)

pub none-is-longer : NoneIsLonger
none-is-longer form tokens xs ys n t r whole d = no-more form tokens xs ys n r whole ([], t, subst (λ us. IsForm form t us []) (sym (append-nil xs)) d)

pub one-reach : OneReach
one-reach form tokens m n p q =
    let a : length p.before ≤ n = no-more form tokens p.before p.rest n q p.whole p.begins in
    let b : length q.before ≤ m = no-more form tokens q.before q.rest m p q.whole q.begins in
    let x : m ≡ length p.before = p.number in
    let y : n ≡ length q.before = q.number in
    omega arith

-- what is left is told by the number
pub same-rest : (form : Form) (tokens : List Token) (m n : ℕ) (p : Reaches form tokens m) (q : Reaches form tokens n) → p.rest ≡ q.rest
same-rest form tokens m n p q =
    let x : m ≡ length p.before = p.number in
    let y : n ≡ length q.before = q.number in
    let z : m ≡ n = one-reach form tokens m n p q in
    let lengths : length p.before ≡ length q.before = omega arith in
    let h = goes-on p.before p.rest q.before q.rest (sym p.whole ∙ q.whole) (omega arith) in
    let sum : length q.before ≡ length p.before + length h.0 = ap (λ (us : List Token). length us) h.1 ∙ length-append p.before h.0 in
    h.2 ∙ ap (λ us. us ++ q.rest) (empty h.0 (omega arith))
  where
    empty : (us : List Token) → length us ≡ 0 → us ≡ []
    empty [] e = refl
    empty (u ∷ us) e = absurd (let h : ⊥ = omega arith in h)
