-- That a rule reads alike, and that what it refuses at a token it refuses at the end too, if the tokens end there.
use Rattle.std.proofs.Common.{◌≡◌, ◌⊎◌, inl, inr, ℕ, zero, suc, ◌-◌, ◌≤◌, ◌<◌, ◌+◌, Bool, true, false, if◌then◌else◌, List, [], ◌∷◌, ◌++◌, length, Option, Some, None, Ok, Err, refl, sym, ap, subst, ◌∙◌, append_assoc, append-nil, length-append, arith}
use Rattle.rb_tree.specs.Tokens.{shape_of, same_shape}
use Rattle.rb_tree.specs.declared.token.Token.{Token}
use Rattle.rb_tree.specs.declared.token.Shape.{Shape}
use Rattle.rb_tree.specs.declared.token.Shape.TheVariants as shape
use Rattle.rb_expr.specs.Reading.{Outcome, Parser, and_then, sees, after, words_of, take_token, expect, named, worded, skip_separators}
use Rattle.rb_rules.specs.Tokens.{Is}
use Rattle.rb_grammar.proofs.Steps.{same, shown}
use Rattle.rb_prefix_laws.specs.Laws.{usual}
use Rattle.rb_prefix_laws.proofs.Steps.{Amount, Alike, Same, Looks, Consumed, Fits, down, down-less, fits, first, instead, reach, rest_of, same-first, same-front, by_token, told, of_shape, as_name, expect-told, named-told, worded-told, take-told, less-fits}
use Rattle.rb_prefix_laws.proofs.Steps.Amount.{answer, any}
use Rattle.rb_prefix_laws.proofs.Steps as steps

-- ---- what is read of the tokens before those that are left

-- a usual token is next
abbrev pub Usual : List Token → Type 0
Usual [] = ⊥
Usual (t ∷ ts) = usual (shape_of t.kind) ≡ true

-- a refusal is one at the end, and an answer is the same or a refusal at the end
abbrev pub Cuts : {A : Type 0} → Outcome A → Outcome A → Type 0
Cuts (Ok p) r = (r ≡ Ok (p.0, [])) ⊎ (r ≡ Err [])
Cuts (Err rest) r = r ≡ Err []

pub record Cut {A : Type 0} (k : ℕ) (K : Amount) (xs : List Token) (o : Outcome A) (q : Parser A) : Type 0 where
  pub alike : Alike k K xs o q
  pub cut : (front : List Token) → length xs < k → xs ≡ front ++ rest_of o → Usual (rest_of o) → Cuts o (q front)

-- what refuses at the end
refused : {A : Type 0} (o : Outcome A) → Cuts o (Err [])
refused (Ok p) = inr refl
refused (Err rest) = refl

-- ---- lists

no-front : (front xs : List Token) → xs ≡ front ++ xs → front ≡ []
no-front front xs e = same-front front [] xs (sym e)

within : (n j k : ℕ) → n < j → j ≤ k → n < k
within n j k a b = omega arith

front-less : (k : ℕ) (c r : List Token) → length (c ++ r) < k → length c < k
front-less k c r h = let e : length (c ++ r) ≡ length c + length r = length-append c r in omega arith

-- what was taken stands in front
taken-front : {A : Type 0} {k : ℕ} {K : Amount} {xs : List Token} {o : Outcome A} {q : Parser A} → Alike k K xs o q → (front : List Token) → length xs < k → xs ≡ front ++ rest_of o → Consumed K o front
taken-front {K = K} {o = o} h front small e = let r = h.runs small in subst (Consumed K o) (same-front r.front front (rest_of o) (sym r.reads ∙ e)) r.taken

reached : {A : Type 0} (K : Amount) (o : Outcome A) (front : List Token) → Consumed K o front → reach K ≤ length front
reached (answer n) (Ok p) front t = t.1
reached (answer n) (Err rest) front t = t
reached (any n) o front t = t

-- ---- steps in a row

pub bind-all : {A B : Type 0} {k : ℕ} {K L : Amount} {xs : List Token} {o : Outcome A} {q : Parser A} {f : A → Parser B} (g : List Token → A → Parser B) → Cut k K xs o q → ((a : A) (r c : List Token) → xs ≡ c ++ r → Cut (down K k) L r (f a r) (λ zs. g (c ++ zs) a zs)) →
    Cut k K xs (and_then o f) (λ ys. and_then (q ys) (g ys))
bind-all {A = A} {B = B} {k = k} {K = K} {L = L} {xs = xs} {o = o} {q = q} {f = f} g h more = record { alike = steps.bind-all g h.alike (λ a r c e. (more a r c e).alike); cut = λ front small e u. go o h front small e u }
  where
    go : (o : Outcome A) → Cut k K xs o q → (front : List Token) → length xs < k → xs ≡ front ++ rest_of (and_then o f) → Usual (rest_of (and_then o f)) → Cuts (and_then o f) (and_then (q front) (g front))
    go (Err rest) h front small e u = ap (λ o. and_then o (g front)) (h.cut front small e u)
    go (Ok p) h front small e u = by s.front s.reads
      where
        r : steps.Runs k K xs (Ok p) q
        r = h.alike.runs small

        m : Cut (down K k) L p.1 (f p.0 p.1) (λ zs. g (r.front ++ zs) p.0 zs)
        m = more p.0 p.1 r.front r.reads

        small' : length p.1 < down K k
        small' = fits K p k r.front p.1 r.taken (subst (λ us. length us < k) r.reads small)

        s : steps.Runs (down K k) L p.1 (f p.0 p.1) (λ zs. g (r.front ++ zs) p.0 zs)
        s = m.alike.runs small'

        left : List Token
        left = rest_of (f p.0 p.1)

        by : (c : List Token) → p.1 ≡ c ++ left → Cuts (f p.0 p.1) (and_then (q front) (g front))
        by [] e2 = either (h.cut front small (e ∙ ap (λ us. front ++ us) (sym e2)) (subst Usual (sym e2) u))
          where
            same' : front ≡ r.front ++ []
            same' = same-front front r.front left (sym e ∙ r.reads ∙ ap (λ us. r.front ++ us) e2) ∙ sym (append-nil r.front)

            either : (q front ≡ Ok (p.0, [])) ⊎ (q front ≡ Err []) → Cuts (f p.0 p.1) (and_then (q front) (g front))
            either (inl a) = subst (λ o. Cuts (f p.0 p.1) (and_then o (g front))) (sym a) (subst (λ c. Cuts (f p.0 p.1) (g c p.0 [])) (sym same') (m.cut [] small' e2 u))
            either (inr a) = subst (λ o. Cuts (f p.0 p.1) (and_then o (g front))) (sym a) (refused (f p.0 p.1))
        by (t ∷ c) e2 =
            let same' : front ≡ r.front ++ (t ∷ c) = same-front front (r.front ++ (t ∷ c)) left (sym e ∙ r.reads ∙ ap (λ us. r.front ++ us) e2 ∙ sym (append_assoc r.front (t ∷ c) left)) in
            let little : length front < k = front-less k front left (subst (λ us. length us < k) e small) in
            let read : q (r.front ++ (t ∷ c)) ≡ Ok (p.0, t ∷ c) = r.again (t ∷ c) (ap first e2) (subst (λ us. length us < k) same' little) in
            subst (λ us. Cuts (f p.0 p.1) (and_then (q us) (g us))) (sym same') (subst (λ o. Cuts (f p.0 p.1) (and_then o (g (r.front ++ (t ∷ c))))) (sym read) (m.cut (t ∷ c) small' e2 u))

pub bind : {A B : Type 0} {k : ℕ} {K L : Amount} {xs : List Token} {o : Outcome A} {q : Parser A} {f : A → Parser B} {g : A → Parser B} → Cut k K xs o q → ((a : A) (r : List Token) → Cut (down K k) L r (f a r) (g a)) → Cut k K xs (and_then o f) (λ ys. and_then (q ys) g)
bind {g = g} h more = bind-all (λ _. g) h (λ a r c e. more a r)

pub narrow : {A : Type 0} {k j : ℕ} {K : Amount} {xs : List Token} {o : Outcome A} {q : Parser A} → j ≤ k → Cut k K xs o q → Cut j K xs o q
narrow {k = k} {j = j} {xs = xs} le h = record { alike = steps.narrow le h.alike; cut = λ front small e u. h.cut front (within (length xs) j k small le) e u }

-- with the same bound
pub join : {A B : Type 0} {k : ℕ} {K L : Amount} {xs : List Token} {o : Outcome A} {q : Parser A} {f : A → Parser B} {g : A → Parser B} → Cut k K xs o q → ((a : A) (r : List Token) → Cut k L r (f a r) (g a)) → Cut k K xs (and_then o f) (λ ys. and_then (q ys) g)
join {k = k} {K = K} h more = bind h (λ a r. narrow (down-less K k) (more a r))

pub nothing : {A : Type 0} {K : Amount} {xs : List Token} {o : Outcome A} {q : Parser A} → Cut zero K xs o q
nothing {xs = xs} = record { alike = steps.nothing; cut = λ front small. absurd (none (length xs) small) }
  where
    none : (n : ℕ) → n < 0 → ⊥
    none n h = omega arith

-- ---- what is taken at least

pub weaker : {A : Type 0} {k : ℕ} {K : Amount} {xs : List Token} {o : Outcome A} {q : Parser A} → Cut k K xs o q → Cut k (any 0) xs o q
weaker h = record { alike = steps.weaker h.alike; cut = h.cut }

pub answering : {A : Type 0} {k n : ℕ} {xs : List Token} {o : Outcome A} {q : Parser A} → Cut k (any (suc n)) xs o q → Cut k (answer (suc n)) xs o q
answering h = record { alike = steps.answering h.alike; cut = h.cut }

pub in-any-case : {A : Type 0} {k n : ℕ} {xs : List Token} {o : Outcome A} {q : Parser A} → Cut k (answer n) xs o q → Cut k (any n) xs o q
in-any-case h = record { alike = steps.in-any-case h.alike; cut = h.cut }

pub lower : {A : Type 0} {k n : ℕ} {xs : List Token} {o : Outcome A} {q : Parser A} → Cut k (answer n) xs o q → Cut k (answer 0) xs o q
lower h = record { alike = steps.lower h.alike; cut = h.cut }

pub one-taken : {A : Type 0} {k n : ℕ} {xs : List Token} {o : Outcome A} {q : Parser A} → Cut k (any (suc n)) xs o q → Cut k (answer 0) xs o q
one-taken h = lower (answering h)

pub one-of : {A : Type 0} {k n : ℕ} {xs : List Token} {o : Outcome A} {q : Parser A} → Cut k (any (suc n)) xs o q → Cut k (any 1) xs o q
one-of h = record { alike = steps.one-of h.alike; cut = h.cut }

-- ---- tests of the next tokens

-- by what a test says of these tokens and of those in front of what is left
pub looking-far : {A T : Type 0} {k : ℕ} {K : Amount} {xs : List Token} {o : Outcome A} (look : List Token → T) (q : T → Parser A) → ((ys : List Token) → Same (reach K) xs ys → look xs ≡ look ys) →
    ((front : List Token) → xs ≡ front ++ rest_of o → Usual (rest_of o) → reach K ≤ length front → (q (look front) front ≡ q (look xs) front) ⊎ (q (look front) front ≡ Err [])) → Cut k K xs o (q (look xs)) → Cut k K xs o (λ ys. q (look ys) ys)
looking-far {A = A} {k = k} {K = K} {xs = xs} {o = o} look q sees' there h = record {
  alike = steps.looking-far look q sees' h.alike;
  cut = λ front small e u. by front (h.cut front small e u) (there front e u (reached K o front (taken-front h.alike front small e)));
}
  where
    by : (front : List Token) → Cuts o (q (look xs) front) → (q (look front) front ≡ q (look xs) front) ⊎ (q (look front) front ≡ Err []) → Cuts o (q (look front) front)
    by front c (inl a) = subst (Cuts o) (sym a) c
    by front c (inr a) = subst (Cuts o) (sym a) (refused o)

-- where some tokens stand in front, the test says the same of them
some-front : {T : Type 0} (look : List Token → T) → Looks look → (xs front rest : List Token) → xs ≡ front ++ rest → 1 ≤ length front → look front ≡ look xs
some-front look sees' xs [] rest e le = absurd (let f : ⊥ = omega arith in f)
some-front look sees' xs (t ∷ front) rest e le = sym (sees' xs (t ∷ front) (ap first e))

-- the rule refuses at the end
pub looking : {A T : Type 0} {k : ℕ} {K : Amount} {xs : List Token} {o : Outcome A} (look : List Token → T) (q : T → Parser A) → Looks look → q (look []) [] ≡ Err [] → Cut k K xs o (q (look xs)) → Cut k K xs o (λ ys. q (look ys) ys)
looking {K = K} {xs = xs} {o = o} look q sees' ends h = looking-far look q (λ ys same'. sees' xs ys (same-first (reach K) xs ys same')) (λ front e u le. by front e) h
  where
    by : (front : List Token) → xs ≡ front ++ rest_of o → (q (look front) front ≡ q (look xs) front) ⊎ (q (look front) front ≡ Err [])
    by [] e = inr ends
    by (t ∷ front) e = inl (ap (λ v. q v (t ∷ front)) (some-front look sees' xs (t ∷ front) (rest_of o) e (omega arith)))

-- some token is taken
pub looking-in : {A T : Type 0} {k n : ℕ} {xs : List Token} {o : Outcome A} (look : List Token → T) (q : T → Parser A) → Looks look → Cut k (any (suc n)) xs o (q (look xs)) → Cut k (any (suc n)) xs o (λ ys. q (look ys) ys)
looking-in {n = n} {xs = xs} {o = o} look q sees' h = looking-far look q (λ ys same'. sees' xs ys (same-first (suc n) xs ys same'))
    (λ front e u le. inl (ap (λ v. q v front) (some-front look sees' xs front (rest_of o) e (let l : suc n ≤ length front = le in omega arith)))) h

-- some token is taken, or the rule does at the end what it does here
abbrev pub TakenOr : {A : Type 0} → ℕ → List Token → Outcome A → Parser A → Parser A → Type 0
TakenOr k xs o q ends = ((ends [] ≡ q []) × Cut k (any 0) xs o q) ⊎ Cut k (any 1) xs o q

pub looking-or : {A T : Type 0} {k : ℕ} {xs : List Token} {o : Outcome A} (look : List Token → T) (q : T → Parser A) → Looks look → TakenOr k xs o (q (look xs)) (q (look [])) → Cut k (any 0) xs o (λ ys. q (look ys) ys)
looking-or {A = A} {k = k} {xs = xs} {o = o} look q sees' (inl (same', h)) = looking-far look q (λ ys same'. sees' xs ys (same-first 0 xs ys same')) (λ front e u le. by front e) h
  where
    by : (front : List Token) → xs ≡ front ++ rest_of o → (q (look front) front ≡ q (look xs) front) ⊎ (q (look front) front ≡ Err [])
    by [] e = inl same'
    by (t ∷ front) e = inl (ap (λ v. q v (t ∷ front)) (some-front look sees' xs (t ∷ front) (rest_of o) e (omega arith)))
looking-or look q sees' (inr one') = weaker (looking-in look q sees' one')

-- a choice by a test
pub choosing : {A : Type 0} {k : ℕ} {K : Amount} {xs : List Token} {o p : Outcome A} (look : List Token → Bool) (q r : Parser A) → ((ys : List Token) → Same (reach K) xs ys → look xs ≡ look ys) →
    ((front rest : List Token) → xs ≡ front ++ rest → Usual rest → reach K ≤ length front → (look front ≡ look xs) ⊎ (front ≡ [])) → (if look [] then q [] else r []) ≡ Err [] →
    (look xs ≡ true → Cut k K xs o q) → (look xs ≡ false → Cut k K xs p r) → Cut k K xs (if look xs then o else p) (λ ys. if look ys then q ys else r ys)
choosing {A = A} {k = k} {K = K} {xs = xs} {o = o} {p = p} look q r sees' there ends yes' no' = looking-far look (λ b ys. if b then q ys else r ys) sees' (λ front e u le. by front (there front (rest_of (if look xs then o else p)) e u le)) (go (look xs) yes' no')
  where
    by : (front : List Token) → (look front ≡ look xs) ⊎ (front ≡ []) → ((if look front then q front else r front) ≡ (if look xs then q front else r front)) ⊎ ((if look front then q front else r front) ≡ Err [])
    by front (inl a) = inl (ap (λ b. if b then q front else r front) a)
    by front (inr a) = inr (subst (λ us. (if look us then q us else r us) ≡ Err []) (sym a) ends)

    go : (b : Bool) → (b ≡ true → Cut k K xs o q) → (b ≡ false → Cut k K xs p r) → Cut k K xs (if b then o else p) (λ ys. if b then q ys else r ys)
    go true f g = f refl
    go false f g = g refl

-- at the end the rule refuses
pub choose : {A : Type 0} {k : ℕ} {K : Amount} {xs : List Token} {o p : Outcome A} (look : List Token → Bool) {q r : Parser A} → Looks look → (if look [] then q [] else r []) ≡ Err [] → (look xs ≡ true → Cut k K xs o q) → (look xs ≡ false → Cut k K xs p r) →
    Cut k K xs (if look xs then o else p) (λ ys. if look ys then q ys else r ys)
choose {K = K} {xs = xs} look {q = q} {r = r} sees' ends yes' no' = choosing look q r (λ ys same'. sees' xs ys (same-first (reach K) xs ys same')) by ends yes' no'
  where
    by : (front rest : List Token) → xs ≡ front ++ rest → Usual rest → reach K ≤ length front → (look front ≡ look xs) ⊎ (front ≡ [])
    by [] rest e u le = inr refl
    by (t ∷ front) rest e u le = inl (some-front look sees' xs (t ∷ front) rest e (omega arith))

-- a token is taken
pub choose-in : {A : Type 0} {k n : ℕ} {xs : List Token} {o p : Outcome A} (look : List Token → Bool) {q r : Parser A} → Looks look → (look xs ≡ true → Cut k (any (suc n)) xs o q) → (look xs ≡ false → Cut k (any (suc n)) xs p r) →
    Cut k (any (suc n)) xs (if look xs then o else p) (λ ys. if look ys then q ys else r ys)
choose-in {A = A} {k = k} {n = n} {xs = xs} {o = o} {p = p} look {q = q} {r = r} sees' yes' no' = looking-in look (λ b ys. if b then q ys else r ys) sees' (go (look xs) yes' no')
  where
    go : (b : Bool) → (b ≡ true → Cut k (any (suc n)) xs o q) → (b ≡ false → Cut k (any (suc n)) xs p r) → Cut k (any (suc n)) xs (if b then o else p) (λ ys. if b then q ys else r ys)
    go true f g = f refl
    go false f g = g refl

-- where the test holds, a token is taken
pub choose-some : {A : Type 0} {k n : ℕ} {xs : List Token} {o p : Outcome A} (look : List Token → Bool) {q r : Parser A} → Looks look → look [] ≡ false → (look xs ≡ true → Cut k (any (suc n)) xs o q) → (look xs ≡ false → Cut k (any 0) xs p r) →
    Cut k (any 0) xs (if look xs then o else p) (λ ys. if look ys then q ys else r ys)
choose-some {A = A} {k = k} {n = n} {xs = xs} {o = o} {p = p} look {q = q} {r = r} sees' ends yes' no' = looking-or look (λ b ys. if b then q ys else r ys) sees' (go (look xs) yes' no')
  where
    go : (b : Bool) → (b ≡ true → Cut k (any (suc n)) xs o q) → (b ≡ false → Cut k (any 0) xs p r) → TakenOr k xs (if b then o else p) (λ ys. if b then q ys else r ys) (λ ys. if look [] then q ys else r ys)
    go true f g = inr (one-of (f refl))
    go false f g = inl (ap (λ b. if b then q [] else r []) ends, g refl)

-- the test holds of some token that is not usual alone
pub choose-rare : {A : Type 0} {k : ℕ} {K : Amount} {xs : List Token} {o p : Outcome A} (s : Shape) {q r : Parser A} → usual s ≡ false → (sees s xs ≡ true → Cut k K xs o q) → (sees s xs ≡ false → Cut k K xs p r) →
    Cut k K xs (if sees s xs then o else p) (λ ys. if sees s ys then q ys else r ys)
choose-rare {A = A} {k = k} {K = K} {xs = xs} {o = o} {p = p} s {q = q} {r = r} rare yes' no' =
    looking-far (sees s) (λ b ys. if b then q ys else r ys) (λ ys same'. steps.sees-one s xs ys (same-first (reach K) xs ys same')) (λ front e u le. inl (ap (λ b. if b then q front else r front) (there front (rest_of (if sees s xs then o else p)) e u))) (go (sees s xs) yes' no')
  where
    unseen : (rest : List Token) → Usual rest → (b : Bool) → sees s rest ≡ b → b ≡ false
    unseen [] u b e = absurd u
    unseen (t ∷ ts) u true e = absurd (let n : usual s ≡ true = subst (λ c. usual c ≡ true) (same _ _ e) u in cc)
    unseen (t ∷ ts) u false e = refl

    there : (front rest : List Token) → xs ≡ front ++ rest → Usual rest → sees s front ≡ sees s xs
    there [] rest e u = sym (ap (sees s) e ∙ unseen rest u (sees s rest) refl)
    there (t ∷ front) rest e u = some-front (sees s) (steps.sees-one s) xs (t ∷ front) rest e (omega arith)

    go : (b : Bool) → (b ≡ true → Cut k K xs o q) → (b ≡ false → Cut k K xs p r) → Cut k K xs (if b then o else p) (λ ys. if b then q ys else r ys)
    go true f g = f refl
    go false f g = g refl

-- ---- tokens

pub done : {A : Type 0} {k : ℕ} {xs : List Token} (a : A) → Cut k (any 0) xs (Ok (a, xs)) (λ ys. Ok (a, ys))
done {xs = xs} a = record { alike = steps.done a; cut = λ front small e u. inl (ap (λ ys. Ok (a, ys)) (no-front front xs e)) }

pub refusing : {A : Type 0} {k : ℕ} {xs : List Token} → Cut {A = A} k (any 0) xs (Err xs) (λ ys. Err ys)
refusing {xs = xs} = record { alike = steps.refusing; cut = λ front small e u. ap Err (no-front front xs e) }

pub refusing-here : {A : Type 0} {k : ℕ} {xs : List Token} → Cut {A = A} k (answer 0) xs (Err xs) (λ ys. Err ys)
refusing-here {xs = xs} = record { alike = steps.refusing-here; cut = λ front small e u. ap Err (no-front front xs e) }

-- this token is taken in any case
pub taken-in : {A : Type 0} {k n : ℕ} {t : Token} {ts : List Token} {o : Outcome A} {q : Parser A} → Cut (k - 1) (any n) ts o (λ ys. q (t ∷ ys)) → Cut k (any (suc n)) (t ∷ ts) o q
taken-in {A = A} {k = k} {n = n} {t = t} {ts = ts} {o = o} {q = q} h = record { alike = steps.taken-in h.alike; cut = λ front small e u. go front small e u (reached (any (suc n)) o front (taken-front {q = q} (steps.taken-in h.alike) front small e)) }
  where
    fewer : (n k : ℕ) → suc n < k → n < k - 1
    fewer n k h = omega arith

    go : (front : List Token) → length (t ∷ ts) < k → t ∷ ts ≡ front ++ rest_of o → Usual (rest_of o) → suc n ≤ length front → Cuts o (q front)
    go [] small e u le = absurd (let f : ⊥ = omega arith in f)
    go (x ∷ front) small e u le =
        let e' : t ≡ x = cc in
        let e2 : ts ≡ front ++ rest_of o = cc in
        subst (λ x. Cuts o (q (x ∷ front))) e' (h.cut front (fewer (length ts) k small) e2 u)

-- the rule of a single token
pub token : {A : Type 0} {k : ℕ} (xs : List Token) (h : Token → Option A) → Cut k (answer 0) xs (by_token h xs) (by_token h)
token {A = A} xs h = record { alike = steps.token xs h; cut = λ front small e u. go xs front e u }
  where
    by : (t : Token) (ts : List Token) (v : Option A) → h t ≡ v → (front : List Token) → t ∷ ts ≡ front ++ rest_of (told t ts v) → Cuts (told t ts v) (by_token h front)
    by t ts (Some a) e front f = inl (ap (by_token h) (same-front front (t ∷ []) ts (sym f)) ∙ ap (told t []) e)
    by t ts None e front f = ap (by_token h) (no-front front (t ∷ ts) f)

    go : (xs front : List Token) → xs ≡ front ++ rest_of (by_token h xs) → Usual (rest_of (by_token h xs)) → Cuts (by_token h xs) (by_token h front)
    go [] front e u = absurd u
    go (t ∷ ts) front e u = by t ts (h t) refl front e

-- a rule that does what that one does
pub like : {A : Type 0} {k : ℕ} {K : Amount} {xs : List Token} {o : Outcome A} {p q : Parser A} → ((ys : List Token) → q ys ≡ p ys) → Cut k K xs o p → Cut k K xs o q
like {o = o} same' h = record { alike = steps.like same' h.alike; cut = λ front small e u. subst (Cuts o) (sym (same' front)) (h.cut front small e u) }

pub likewise : {A : Type 0} {k : ℕ} {K : Amount} (xs : List Token) (p q : Parser A) → ((ys : List Token) → q ys ≡ p ys) → Cut k K xs (p xs) p → Cut k K xs (q xs) q
likewise {k = k} {K = K} xs p q same' h = subst (λ o. Cut k K xs o q) (sym (same' xs)) (like same' h)

-- ---- tokens of one shape

pub expecting : {k : ℕ} (s : Shape) (xs : List Token) → Cut k (answer 0) xs (expect s xs) (expect s)
expecting s xs = likewise xs (by_token (of_shape (λ t. t.span) s)) (expect s) (expect-told s) (token xs (of_shape (λ t. t.span) s))

pub naming : {k : ℕ} (s : Shape) (xs : List Token) → Cut k (answer 0) xs (named s xs) (named s)
naming s xs = likewise xs (by_token (of_shape as_name s)) (named s) (named-told s) (token xs (of_shape as_name s))

pub wording : {k : ℕ} (s : Shape) (xs : List Token) → Cut k (answer 0) xs (worded s xs) (worded s)
wording s xs = likewise xs (by_token (of_shape (λ t. (words_of t.kind, t.span)) s)) (worded s) (worded-told s) (token xs (of_shape (λ t. (words_of t.kind, t.span)) s))

pub taking : {k : ℕ} (xs : List Token) → Cut k (answer 0) xs (take_token xs) take_token
taking xs = likewise xs (by_token (λ t. Some t.span)) take_token take-told (token xs (λ t. Some t.span))

-- a token that is next
pub take-next : {k : ℕ} (t : Token) (ts : List Token) → Cut k (any 1) (t ∷ ts) (take_token (t ∷ ts)) take_token
take-next t ts = taken-in (done t.span)

-- a token with which the rule is done
pub next-read : {A : Type 0} {k : ℕ} (a : A) (p : Parser A) (t : Token) (ts : List Token) → ((ys : List Token) → p (t ∷ ys) ≡ Ok (a, ys)) → Cut k (any 1) (t ∷ ts) (p (t ∷ ts)) p
next-read {k = k} a p t ts read = subst (λ o. Cut k (any 1) (t ∷ ts) o p) (sym (read ts)) (taken-in (like read (done a)))

-- of this shape, and made so
next-told : {A : Type 0} {k : ℕ} (s : Shape) (f : Token → A) (p : Parser A) → ((ys : List Token) → p ys ≡ by_token (of_shape f s) ys) → (t : Token) (ts : List Token) → same_shape (shape_of t.kind) s ≡ true → Cut k (any 1) (t ∷ ts) (p (t ∷ ts)) p
next-told s f p same' t ts e = next-read (f t) p t ts (λ ys. same' (t ∷ ys) ∙ ap (λ b. told t ys (if b then Some (f t) else None)) e)

pub name-next : {k : ℕ} (s : Shape) (t : Token) (ts : List Token) → Is s t → Cut k (any 1) (t ∷ ts) (named s (t ∷ ts)) (named s)
name-next s t ts is = next-told s as_name (named s) (named-told s) t ts (shown s t ts is)

pub word-next : {k : ℕ} (s : Shape) (t : Token) (ts : List Token) → Is s t → Cut k (any 1) (t ∷ ts) (worded s (t ∷ ts)) (worded s)
word-next s t ts is = next-told s (λ t. (words_of t.kind, t.span)) (worded s) (worded-told s) t ts (shown s t ts is)

pub expect-next : {k : ℕ} (s : Shape) (xs : List Token) → sees s xs ≡ true → Cut k (any 1) xs (expect s xs) (expect s)
expect-next s [] e = absurd (cc)
expect-next s (t ∷ ts) e = next-told s (λ t. t.span) (expect s) (expect-told s) t ts e

pub name-seen : {k : ℕ} (s : Shape) (xs : List Token) → sees s xs ≡ true → Cut k (any 1) xs (named s xs) (named s)
name-seen s [] e = absurd (cc)
name-seen s (t ∷ ts) e = next-told s as_name (named s) (named-told s) t ts e

-- a choice that no token has a part in
pub fixed : {A : Type 0} {k : ℕ} {K : Amount} {xs : List Token} (b : Bool) (p q p2 q2 : Parser A) → Cut k K xs (p xs) p2 → Cut k K xs (q xs) q2 → Cut k K xs ((if b then p else q) xs) (if b then p2 else q2)
fixed true p q p2 q2 g h = g
fixed false p q p2 q2 g h = h

-- ---- tokens passed over

pub stepping : {A : Type 0} {k : ℕ} (xs : List Token) {n : ℕ} (p q : Parser A) (s : Shape) → sees s xs ≡ true → Cut (k - 1) (any n) (after xs) (p (after xs)) q → Cut k (any (suc n)) xs (p (after xs)) (λ ys. q (after ys))
stepping [] p q s e h = absurd (cc)
stepping (t ∷ ts) p q s e h = taken-in h

skip-less : (us : List Token) → length (skip_separators us) ≤ length us
skip-less [] = omega arith
skip-less (u ∷ us) = by (same_shape (shape_of u.kind) shape.Separator) (skip-less us)
  where
    by : (b : Bool) → length (skip_separators us) ≤ length us → length (if b then skip_separators us else u ∷ us) ≤ suc (length us)
    by true le = omega arith
    by false le = omega arith

skip-front : (front rest c : List Token) → skip_separators (front ++ rest) ≡ c ++ rest → skip_separators (front ++ rest) ≡ skip_separators front ++ rest
skip-front [] rest [] e = e
skip-front [] rest (x ∷ c) e =
    let le : length (skip_separators rest) ≤ length rest = skip-less rest in
    let same' : length (skip_separators rest) ≡ length ((x ∷ c) ++ rest) = ap (λ (us : List Token). length us) e in
    let sum : length ((x ∷ c) ++ rest) ≡ length (x ∷ c) + length rest = length-append (x ∷ c) rest in
    absurd (let f : ⊥ = omega arith in f)
skip-front (t ∷ front) rest c e = by (same_shape (shape_of t.kind) shape.Separator) (skip-front front rest) e
  where
    by : (b : Bool) → ((c : List Token) → skip_separators (front ++ rest) ≡ c ++ rest → skip_separators (front ++ rest) ≡ skip_separators front ++ rest) → (if b then skip_separators (front ++ rest) else t ∷ (front ++ rest)) ≡ c ++ rest →
        (if b then skip_separators (front ++ rest) else t ∷ (front ++ rest)) ≡ (if b then skip_separators front else t ∷ front) ++ rest
    by true h e = h c e
    by false h e = refl

pub skipping : {A : Type 0} {k : ℕ} {K : Amount} (xs : List Token) (p q : Parser A) → Cut k K (skip_separators xs) (p (skip_separators xs)) q → Cut k K xs (p (skip_separators xs)) (λ ys. q (skip_separators ys))
skipping {A = A} {k = k} {K = K} xs p q h = record {
  alike = steps.skipping xs p q h.alike;
  cut = λ front small e u.
      let less : length (skip_separators xs) ≤ length xs = skip-less xs in
      let small' : length (skip_separators xs) < k = omega arith in
      let o = p (skip_separators xs) in
      let r = h.alike.runs small' in
      let e' : skip_separators (front ++ rest_of o) ≡ r.front ++ rest_of o = ap skip_separators (sym e) ∙ r.reads in
      h.cut (skip_separators front) small' (ap skip_separators e ∙ skip-front front (rest_of o) r.front e') u;
}

-- after at least one separator
pub stepping-over : {A : Type 0} {k n : ℕ} (xs : List Token) (p q : Parser A) → sees shape.Separator xs ≡ true → Cut (k - 1) (any n) (skip_separators xs) (p (skip_separators xs)) q → Cut k (any (suc n)) xs (p (skip_separators xs)) (λ ys. q (skip_separators ys))
stepping-over [] p q e h = absurd (cc)
stepping-over {A = A} {k = k} {n = n} (t ∷ ts) p q e h =
    let same' : skip_separators (t ∷ ts) ≡ skip_separators ts = ap (λ b. if b then skip_separators ts else t ∷ ts) e in
    let h' : Cut (k - 1) (any n) (skip_separators ts) (p (skip_separators ts)) q = subst (λ us. Cut (k - 1) (any n) us (p us) q) same' h in
    subst (λ us. Cut k (any (suc n)) (t ∷ ts) (p us) (λ ys. q (skip_separators ys))) (sym same') (taken-in (like (λ ys. ap q (ap (λ b. if b then skip_separators ys else t ∷ ys) e)) (skipping ts p q h')))

-- ---- rules that repeat

-- A loop of which each turn takes something before the next.
pub loops : {S A : Type 0} (turns other : ℕ) (loop again : ℕ → S → Parser A) →
    ((k n m : ℕ) → Fits turns other k → ((s : S) (xs : List Token) → Cut (k - 1) (any 0) xs (loop n s xs) (again m s)) → (s : S) (xs : List Token) → Cut k (any 0) xs (loop (suc n) s xs) (again (suc m) s)) →
    (k n m : ℕ) → Fits turns other k → k ≤ n → k ≤ m → (s : S) (xs : List Token) → Cut k (any 0) xs (loop n s xs) (again m s)
loops {S = S} {A = A} turns other loop again turn k zero m f a b s xs = let e : k ≡ zero = omega arith in subst (λ k. Cut k (any 0) xs (loop zero s xs) (again m s)) (sym e) nothing
loops {S = S} {A = A} turns other loop again turn k (suc n) zero f a b s xs = let e : k ≡ zero = omega arith in subst (λ k. Cut k (any 0) xs (loop (suc n) s xs) (again zero s)) (sym e) nothing
loops {S = S} {A = A} turns other loop again turn k (suc n) (suc m) f a b s xs = turn k n m f (λ s xs. loops turns other loop again turn (k - 1) n m (less-fits f) (omega arith) (omega arith) s xs) s xs

-- likewise for a loop that stands after something taken
pub loops-in : {S A : Type 0} (turns other : ℕ) (loop again : ℕ → S → Parser A) →
    ((k n m : ℕ) → Fits turns other k → ((s : S) (xs : List Token) → Cut (k - 1 - 1) (any 0) xs (loop n s xs) (again m s)) → (s : S) (xs : List Token) → Cut (k - 1) (any 0) xs (loop (suc n) s xs) (again (suc m) s)) →
    (k n m : ℕ) → Fits turns other k → k - 1 ≤ n → k - 1 ≤ m → (s : S) (xs : List Token) → Cut (k - 1) (any 0) xs (loop n s xs) (again m s)
loops-in {S = S} {A = A} turns other loop again turn k zero m f a b s xs = let e : k - 1 ≡ zero = omega arith in subst (λ k. Cut k (any 0) xs (loop zero s xs) (again m s)) (sym e) nothing
loops-in {S = S} {A = A} turns other loop again turn k (suc n) zero f a b s xs = let e : k - 1 ≡ zero = omega arith in subst (λ k. Cut k (any 0) xs (loop (suc n) s xs) (again zero s)) (sym e) nothing
loops-in {S = S} {A = A} turns other loop again turn k (suc n) (suc m) f a b s xs = turn k n m f (λ s xs. loops-in turns other loop again turn (k - 1) n m (less-fits f) (omega arith) (omega arith) s xs) s xs

pub loop-in : {S A : Type 0} (turns other : ℕ) (loop again : ℕ → S → Parser A) →
    ((k n m : ℕ) → Fits turns other k → ((s : S) (xs : List Token) → Cut (k - 1 - 1) (any 0) xs (loop n s xs) (again m s)) → (s : S) (xs : List Token) → Cut (k - 1) (any 0) xs (loop (suc n) s xs) (again (suc m) s)) →
    (k : ℕ) → Fits turns other k → (s : S) (xs : List Token) → Cut (k - 1) (any 0) xs (loop turns s xs) (again other s)
loop-in turns other loop again turn k f s xs = loops-in turns other loop again turn k turns other f (let a = f.one in omega arith) (let a = f.two in omega arith) s xs

pub loop-at : {S A : Type 0} (turns other : ℕ) (loop again : ℕ → S → Parser A) →
    ((k n m : ℕ) → Fits turns other k → ((s : S) (xs : List Token) → Cut (k - 1) (any 0) xs (loop n s xs) (again m s)) → (s : S) (xs : List Token) → Cut k (any 0) xs (loop (suc n) s xs) (again (suc m) s)) →
    (k : ℕ) → Fits turns other k → (s : S) (xs : List Token) → Cut k (any 0) xs (loop turns s xs) (again other s)
loop-at turns other loop again turn k f s xs = loops turns other loop again turn k turns other f f.one f.two s xs
