-- That a rule reads alike whatever stands after the next token, and how that goes through the steps that rules are made of.
use Rattle.std.proofs.Common.{◌≡◌, ℕ, zero, suc, ◌-◌, ◌≤◌, ◌<◌, ◌+◌, Bool, true, false, if◌then◌else◌, List, [], ◌∷◌, ◌++◌, length, Option, Some, None, Ok, Err, refl, sym, ap, subst, ◌∙◌, append_assoc, length-append, arith}
use Rattle.rb_tree.specs.Tokens.{shape_of, same_shape}
use Rattle.rb_tree.specs.declared.syntax.PlacedName.{PlacedName}
use Rattle.rb_tree.specs.declared.token.Token.{Token}
use Rattle.rb_tree.specs.declared.token.Shape.{Shape}
use Rattle.rb_tree.specs.declared.token.Shape.TheVariants as shape
use Rattle.rb_expr.specs.Reading.{Outcome, Parser, and_then, peek, sees, after, words_of, take_token, expect, named, worded, skip_separators}
use Rattle.rb_rules.specs.Tokens.{Is}
use Rattle.rb_grammar.proofs.Steps.{shown}

-- ---- lists that begin alike

abbrev pub first : List Token → Option Token
first [] = None
first (t ∷ ts) = Some t

-- the lists are alike in this many tokens and one more, as far as they go
abbrev pub Same : ℕ → List Token → List Token → Type 0
Same zero xs ys = first xs ≡ first ys
Same (suc n) [] [] = Unit {0}
Same (suc n) [] (y ∷ ys) = ⊥
Same (suc n) (x ∷ xs) [] = ⊥
Same (suc n) (x ∷ xs) (y ∷ ys) = (x ≡ y) × Same n xs ys

-- ---- what is read of other tokens

abbrev pub rest_of : {A : Type 0} → Outcome A → List Token
rest_of (Ok p) = p.1
rest_of (Err rest) = rest

-- the same answer or refusal, with other tokens left
abbrev pub instead : {A : Type 0} → Outcome A → List Token → Outcome A
instead (Ok p) ys = Ok (p.0, ys)
instead (Err rest) ys = Err ys

-- how many tokens are taken at least: in any case this many, and perhaps by an answer one
pub data Amount : Type 0 where
  answer : ℕ → Amount
  any : ℕ → Amount

abbrev pub Consumed : {A : Type 0} → Amount → Outcome A → List Token → Type 0
Consumed (any n) o front = n ≤ length front
Consumed (answer n) (Ok p) front = (1 ≤ length front) × (n ≤ length front)
Consumed (answer n) (Err rest) front = n ≤ length front

-- what is left of a bound
abbrev pub down : Amount → ℕ → ℕ
down (answer n) k = k - 1
down (any zero) k = k
down (any (suc n)) k = k - 1

-- how far a test may look
abbrev pub reach : Amount → ℕ
reach (answer n) = n
reach (any n) = n

-- what was read of these tokens, and that it is read of others in place of those that are left, but for the first of them, if
-- there are fewer than the bound in all
pub record Runs {A : Type 0} (k : ℕ) (K : Amount) (xs : List Token) (o : Outcome A) (q : Parser A) : Type 0 where
  pub front : List Token
  pub reads : xs ≡ front ++ rest_of o
  pub taken : Consumed K o front
  pub again : (ys : List Token) → first (rest_of o) ≡ first ys → length (front ++ ys) < k → q (front ++ ys) ≡ instead o ys

-- likewise, if there are fewer than the bound of these
pub record Alike {A : Type 0} (k : ℕ) (K : Amount) (xs : List Token) (o : Outcome A) (q : Parser A) : Type 0 where
  pub runs : length xs < k → Runs k K xs o q

-- ---- lists

empty-first : (ys : List Token) → None ≡ first ys → ys ≡ []
empty-first [] e = refl
empty-first (y ∷ ys) e = absurd (cc)

first-after : (d rest ys : List Token) → first rest ≡ first ys → first (d ++ rest) ≡ first (d ++ ys)
first-after [] rest ys e = e
first-after (x ∷ d) rest ys e = refl

pub same-after : (n : ℕ) (d rest ys : List Token) → n ≤ length d → first rest ≡ first ys → Same n (d ++ rest) (d ++ ys)
same-after zero d rest ys le e = first-after d rest ys e
same-after (suc n) [] rest ys le e = absurd (let h : ⊥ = omega arith in h)
same-after (suc n) (x ∷ d) rest ys le e = (refl, same-after n d rest ys (let h : n ≤ length d = omega arith in h) e)

pub same-first : (n : ℕ) (xs ys : List Token) → Same n xs ys → first xs ≡ first ys
same-first zero xs ys h = h
same-first (suc n) [] [] h = refl
same-first (suc n) [] (y ∷ ys) h = absurd h
same-first (suc n) (x ∷ xs) [] h = absurd h
same-first (suc n) (x ∷ xs) (y ∷ ys) h = ap Some h.0

-- what stands before the same end is the same
pub same-front : (c d r : List Token) → c ++ r ≡ d ++ r → c ≡ d
same-front [] [] r e = refl
same-front [] (y ∷ d) r e = let l : length r ≡ length ((y ∷ d) ++ r) = ap length e in let m : length ((y ∷ d) ++ r) ≡ length (y ∷ d) + length r = length-append (y ∷ d) r in absurd (let f : ⊥ = omega arith in f)
same-front (x ∷ c) [] r e = let l : length ((x ∷ c) ++ r) ≡ length r = ap length e in let m : length ((x ∷ c) ++ r) ≡ length (x ∷ c) + length r = length-append (x ∷ c) r in absurd (let f : ⊥ = omega arith in f)
same-front (x ∷ c) (y ∷ d) r e =
    let h : x ≡ y = cc in
    let t : c ++ r ≡ d ++ r = cc in
    ap (λ z. z ∷ c) h ∙ ap (λ zs. y ∷ zs) (same-front c d r t)

-- ---- bounds

less : (k : ℕ) (c r : List Token) → length (c ++ r) < k → length r < k
less k c r h = let e : length (c ++ r) ≡ length c + length r = length-append c r in omega arith

pub fits : {A : Type 0} (K : Amount) (p : A × List Token) (k : ℕ) (c r : List Token) → Consumed K (Ok p) c → length (c ++ r) < k → length r < down K k
fits (answer n) p k c r t h = let e : length (c ++ r) ≡ length c + length r = length-append c r in let m : 1 ≤ length c = t.0 in omega arith
fits (any zero) p k c r t h = less k c r h
fits (any (suc n)) p k c r t h = let e : length (c ++ r) ≡ length c + length r = length-append c r in let m : suc n ≤ length c = t in omega arith

kept : {A B : Type 0} (K : Amount) (p : A × List Token) (o : Outcome B) (c d : List Token) → Consumed K (Ok p) c → Consumed K o (c ++ d)
kept (answer n) p (Ok s) c d t = let e : length (c ++ d) ≡ length c + length d = length-append c d in let m : 1 ≤ length c = t.0 in let l : n ≤ length c = t.1 in (omega arith, omega arith)
kept (answer n) p (Err rest) c d t = let e : length (c ++ d) ≡ length c + length d = length-append c d in let l : n ≤ length c = t.1 in omega arith
kept (any n) p o c d t = let e : length (c ++ d) ≡ length c + length d = length-append c d in let m : n ≤ length c = t in omega arith

refused-kept : (A B : Type 0) (K : Amount) (rest : List Token) (c : List Token) → Consumed {A = A} K (Err rest) c → Consumed {A = B} K (Err rest) c
refused-kept A B (answer n) rest c t = t
refused-kept A B (any n) rest c t = t

pub nothing : {A : Type 0} {K : Amount} {xs : List Token} {o : Outcome A} {q : Parser A} → Alike zero K xs o q
nothing {xs = xs} = record { runs = λ h. absurd (none (length xs) h) }
  where
    none : (n : ℕ) → n < 0 → ⊥
    none n h = omega arith

pub narrow : {A : Type 0} {k j : ℕ} {K : Amount} {xs : List Token} {o : Outcome A} {q : Parser A} → j ≤ k → Alike k K xs o q → Alike j K xs o q
narrow {k = k} {j = j} {xs = xs} le h = record { runs = λ small. let r = h.runs (within (length xs) j k small le) in record { front = r.front; reads = r.reads; taken = r.taken; again = λ ys e small. r.again ys e (within (length (r.front ++ ys)) j k small le) } }
  where
    within : (n j k : ℕ) → n < j → j ≤ k → n < k
    within n j k a b = omega arith

-- ---- steps in a row

-- where the second step may depend on all of the tokens
pub bind-all : {A B : Type 0} {k : ℕ} {K L : Amount} {xs : List Token} {o : Outcome A} {q : Parser A} {f : A → Parser B} (g : List Token → A → Parser B) → Alike k K xs o q → ((a : A) (r c : List Token) → xs ≡ c ++ r → Alike (down K k) L r (f a r) (λ zs. g (c ++ zs) a zs)) →
    Alike k K xs (and_then o f) (λ ys. and_then (q ys) (g ys))
bind-all {A = A} {B = B} {k = k} {K = K} {L = L} {xs = xs} {o = o} {q = q} {f = f} g h more = record { runs = λ small. go o (h.runs small) small }
  where
    go : (o : Outcome A) → Runs k K xs o q → length xs < k → Runs k K xs (and_then o f) (λ ys. and_then (q ys) (g ys))
    go (Err rest) r small = record { front = r.front; reads = r.reads; taken = refused-kept A B K rest r.front r.taken; again = λ ys e little. ap (λ o. and_then o (g (r.front ++ ys))) (r.again ys e little) }
    go (Ok p) r small =
        let s = (more p.0 p.1 r.front r.reads).runs (fits K p k r.front p.1 r.taken (subst (λ us. length us < k) r.reads small)) in
        record {
          front = r.front ++ s.front;
          reads = r.reads ∙ ap (λ us. r.front ++ us) s.reads ∙ sym (append_assoc r.front s.front (rest_of (f p.0 p.1)));
          taken = kept K p (f p.0 p.1) r.front s.front r.taken;
          again = λ ys e little.
              let assoc = append_assoc r.front s.front ys in
              let little' : length (r.front ++ (s.front ++ ys)) < k = subst (λ us. length us < k) assoc little in
              subst (λ zs. and_then (q zs) (g zs) ≡ instead (f p.0 p.1) ys) (sym assoc)
              (ap (λ o. and_then o (g (r.front ++ (s.front ++ ys)))) (r.again (s.front ++ ys) (ap first s.reads ∙ first-after s.front (rest_of (f p.0 p.1)) ys e) little')
              ∙ s.again ys e (fits K p k r.front (s.front ++ ys) r.taken little'));
        }

pub bind : {A B : Type 0} {k : ℕ} {K L : Amount} {xs : List Token} {o : Outcome A} {q : Parser A} {f : A → Parser B} {g : A → Parser B} → Alike k K xs o q → ((a : A) (r : List Token) → Alike (down K k) L r (f a r) (g a)) → Alike k K xs (and_then o f) (λ ys. and_then (q ys) g)
bind {g = g} h more = bind-all (λ _. g) h (λ a r c e. more a r)

pub down-less : (K : Amount) (k : ℕ) → down K k ≤ k
down-less (answer n) k = omega arith
down-less (any zero) k = omega arith
down-less (any (suc n)) k = omega arith

-- with the same bound
pub join : {A B : Type 0} {k : ℕ} {K L : Amount} {xs : List Token} {o : Outcome A} {q : Parser A} {f : A → Parser B} {g : A → Parser B} → Alike k K xs o q → ((a : A) (r : List Token) → Alike k L r (f a r) (g a)) → Alike k K xs (and_then o f) (λ ys. and_then (q ys) g)
join {k = k} {K = K} h more = bind h (λ a r. narrow (down-less K k) (more a r))

-- ---- what is taken at least

pub weaker : {A : Type 0} {k : ℕ} {K : Amount} {xs : List Token} {o : Outcome A} {q : Parser A} → Alike k K xs o q → Alike k (any 0) xs o q
weaker h = record { runs = λ small. let r = h.runs small in record { front = r.front; reads = r.reads; taken = omega arith; again = r.again } }

-- what is taken in any case is taken by an answer
pub answering : {A : Type 0} {k n : ℕ} {xs : List Token} {o : Outcome A} {q : Parser A} → Alike k (any (suc n)) xs o q → Alike k (answer (suc n)) xs o q
answering {A = A} {n = n} {o = o} h = record { runs = λ small. let r = h.runs small in record { front = r.front; reads = r.reads; taken = go o r.front r.taken; again = r.again } }
  where
    go : (o : Outcome A) (front : List Token) → suc n ≤ length front → Consumed (answer (suc n)) o front
    go (Ok p) front le = (omega arith, omega arith)
    go (Err rest) front le = le

pub fewer : {A : Type 0} {k m : ℕ} (n : ℕ) {xs : List Token} {o : Outcome A} {q : Parser A} → m ≤ n → Alike k (answer n) xs o q → Alike k (answer m) xs o q
fewer {A = A} {m = m} n {o = o} le h = record { runs = λ small. let r = h.runs small in record { front = r.front; reads = r.reads; taken = go o r.front r.taken; again = r.again } }
  where
    go : (o : Outcome A) (front : List Token) → Consumed (answer n) o front → Consumed (answer m) o front
    go (Ok p) front t = let l : n ≤ length front = t.1 in (t.0, omega arith)
    go (Err rest) front t = let l : n ≤ length front = t in omega arith

-- what is taken in any case
pub in-any-case : {A : Type 0} {k n : ℕ} {xs : List Token} {o : Outcome A} {q : Parser A} → Alike k (answer n) xs o q → Alike k (any n) xs o q
in-any-case {A = A} {n = n} {o = o} h = record { runs = λ small. let r = h.runs small in record { front = r.front; reads = r.reads; taken = go o r.front r.taken; again = r.again } }
  where
    go : (o : Outcome A) (front : List Token) → Consumed (answer n) o front → Consumed (any n) o front
    go (Ok p) front t = t.1
    go (Err rest) front t = t

pub lower : {A : Type 0} {k n : ℕ} {xs : List Token} {o : Outcome A} {q : Parser A} → Alike k (answer n) xs o q → Alike k (answer 0) xs o q
lower {A = A} {n = n} {o = o} h = record { runs = λ small. let r = h.runs small in record { front = r.front; reads = r.reads; taken = go o r.front r.taken; again = r.again } }
  where
    go : (o : Outcome A) (front : List Token) → Consumed (answer n) o front → Consumed (answer 0) o front
    go (Ok p) front t = (t.0, omega arith)
    go (Err rest) front t = omega arith

-- an answer takes one
pub one-taken : {A : Type 0} {k n : ℕ} {xs : List Token} {o : Outcome A} {q : Parser A} → Alike k (any (suc n)) xs o q → Alike k (answer 0) xs o q
one-taken h = lower (answering h)

pub one-of : {A : Type 0} {k n : ℕ} {xs : List Token} {o : Outcome A} {q : Parser A} → Alike k (any (suc n)) xs o q → Alike k (any 1) xs o q
one-of h = record { runs = λ small. let r = h.runs small in record { front = r.front; reads = r.reads; taken = (let t = r.taken in omega arith); again = r.again } }

-- ---- tests of the next tokens

-- a test looks at the next token alone
abbrev pub Looks : {T : Type 0} → (List Token → T) → Type 0
Looks look = (xs ys : List Token) → first xs ≡ first ys → look xs ≡ look ys

of-first : Option Token → List Token
of-first None = []
of-first (Some t) = t ∷ []

pub one : {T : Type 0} (look : List Token → T) → ((t : Token) (ts : List Token) → look (t ∷ ts) ≡ look (t ∷ [])) → Looks look
unfolding of-first
one {T = T} look h xs ys e = by xs ∙ ap (λ o. look (of-first o)) e ∙ sym (by ys)
  where
    by : (xs : List Token) → look xs ≡ look (of-first (first xs))
    by [] = refl
    by (t ∷ ts) = h t ts

reached : {A : Type 0} (K : Amount) (o : Outcome A) (d ys : List Token) → Consumed K o d → first (rest_of o) ≡ first ys → Same (reach K) (d ++ rest_of o) (d ++ ys)
reached (answer n) (Ok p) d ys t e = same-after n d p.1 ys t.1 e
reached (answer n) (Err rest) d ys t e = same-after n d rest ys t e
reached (any n) o d ys t e = same-after n d (rest_of o) ys t e

-- by what a test says
pub looking-far : {A T : Type 0} {k : ℕ} {K : Amount} {xs : List Token} {o : Outcome A} (look : List Token → T) (q : T → Parser A) → ((ys : List Token) → Same (reach K) xs ys → look xs ≡ look ys) → Alike k K xs o (q (look xs)) → Alike k K xs o (λ ys. q (look ys) ys)
looking-far {A = A} {T = T} {k = k} {K = K} {xs = xs} {o = o} look q sees' h = record {
  runs = λ small. let r = h.runs small in record {
    front = r.front;
    reads = r.reads;
    taken = r.taken;
    again = λ ys e little.
        let same' : Same (reach K) xs (r.front ++ ys) = subst (λ us. Same (reach K) us (r.front ++ ys)) (sym r.reads) (reached K o r.front ys r.taken e) in
        ap (λ v. q v (r.front ++ ys)) (sym (sees' (r.front ++ ys) same')) ∙ r.again ys e little;
  };
}

pub looking : {A T : Type 0} {k : ℕ} {K : Amount} {xs : List Token} {o : Outcome A} (look : List Token → T) (q : T → Parser A) → Looks look → Alike k K xs o (q (look xs)) → Alike k K xs o (λ ys. q (look ys) ys)
looking {K = K} {xs = xs} look q sees' h = looking-far look q (λ ys same'. sees' xs ys (same-first (reach K) xs ys same')) h

-- a choice by a test
pub choosing : {A : Type 0} {k : ℕ} {K : Amount} {xs : List Token} {o p : Outcome A} (look : List Token → Bool) (q r : Parser A) → ((ys : List Token) → Same (reach K) xs ys → look xs ≡ look ys) → (look xs ≡ true → Alike k K xs o q) → (look xs ≡ false → Alike k K xs p r) →
    Alike k K xs (if look xs then o else p) (λ ys. if look ys then q ys else r ys)
choosing {A = A} {k = k} {K = K} {xs = xs} {o = o} {p = p} look q r sees' yes' no' = looking-far look (λ b ys. if b then q ys else r ys) sees' (go (look xs) yes' no')
  where
    go : (b : Bool) → (b ≡ true → Alike k K xs o q) → (b ≡ false → Alike k K xs p r) → Alike k K xs (if b then o else p) (λ ys. if b then q ys else r ys)
    go true f g = f refl
    go false f g = g refl

pub choose : {A : Type 0} {k : ℕ} {K : Amount} {xs : List Token} {o p : Outcome A} (look : List Token → Bool) {q r : Parser A} → Looks look → (look xs ≡ true → Alike k K xs o q) → (look xs ≡ false → Alike k K xs p r) → Alike k K xs (if look xs then o else p) (λ ys. if look ys then q ys else r ys)
choose {K = K} {xs = xs} look {q = q} {r = r} sees' yes' no' = choosing look q r (λ ys same'. sees' xs ys (same-first (reach K) xs ys same')) yes' no'

pub sees-one : (s : Shape) → Looks (sees s)
sees-one s = one (sees s) (λ t ts. refl)

pub peek-one : Looks peek
peek-one = one peek (λ t ts. refl)

-- ---- tokens

pub done : {A : Type 0} {k : ℕ} {xs : List Token} (a : A) → Alike k (any 0) xs (Ok (a, xs)) (λ ys. Ok (a, ys))
done a = record { runs = λ small. record { front = []; reads = refl; taken = omega arith; again = λ ys e little. refl } }

pub refusing : {A : Type 0} {k : ℕ} {xs : List Token} → Alike {A = A} k (any 0) xs (Err xs) (λ ys. Err ys)
refusing = record { runs = λ small. record { front = []; reads = refl; taken = omega arith; again = λ ys e little. refl } }

pub refusing-here : {A : Type 0} {k : ℕ} {xs : List Token} → Alike {A = A} k (answer 0) xs (Err xs) (λ ys. Err ys)
refusing-here = record { runs = λ small. record { front = []; reads = refl; taken = omega arith; again = λ ys e little. refl } }

-- the rule of a single token
abbrev pub told : {A : Type 0} → Token → List Token → Option A → Outcome A
told t ts (Some a) = Ok (a, ts)
told t ts None = Err (t ∷ ts)

abbrev pub by_token : {A : Type 0} → (Token → Option A) → Parser A
by_token h [] = Err []
by_token h (t ∷ ts) = told t ts (h t)

-- this token is taken in any case
pub taken-in : {A : Type 0} {k n : ℕ} {t : Token} {ts : List Token} {o : Outcome A} {q : Parser A} → Alike (k - 1) (any n) ts o (λ ys. q (t ∷ ys)) → Alike k (any (suc n)) (t ∷ ts) o q
taken-in {A = A} {k = k} {n = n} {t = t} {ts = ts} {o = o} {q = q} h = record {
  runs = λ small. let r = h.runs (fewer (length ts) k small) in record {
    front = t ∷ r.front;
    reads = ap (λ us. t ∷ us) r.reads;
    taken = (let t = r.taken in omega arith);
    again = λ ys e little. r.again ys e (fewer (length (r.front ++ ys)) k little);
  };
}
  where
    fewer : (n k : ℕ) → suc n < k → n < k - 1
    fewer n k h = omega arith

pub token : {A : Type 0} {k : ℕ} (xs : List Token) (h : Token → Option A) → Alike k (answer 0) xs (by_token h xs) (by_token h)
token {A = A} [] h = record { runs = λ small. record { front = []; reads = refl; taken = omega arith; again = λ ys e little. ap (by_token h) (empty-first ys e) ∙ ap Err (sym (empty-first ys e)) } }
token {A = A} {k = k} (t ∷ ts) h = go (h t) refl
  where
    still : (ys : List Token) → h t ≡ None → Some t ≡ first ys → by_token h ys ≡ Err ys
    still [] n e = absurd (cc)
    still (u ∷ us) n e = ap (told u us) (ap (λ o. of-some o) (sym e) ∙ n)
      where
        of-some : Option Token → Option A
        of-some None = None
        of-some (Some t) = h t

    go : (v : Option A) → h t ≡ v → Alike k (answer 0) (t ∷ ts) (told t ts v) (by_token h)
    go (Some a) e = record { runs = λ small. record { front = t ∷ []; reads = refl; taken = (omega arith, omega arith); again = λ ys f little. ap (told t ys) e } }
    go None e = record { runs = λ small. record { front = []; reads = refl; taken = omega arith; again = λ ys f little. still ys e f } }

-- no token is there
pub empty : {A : Type 0} {k : ℕ} (q : Parser A) → q [] ≡ Err [] → Alike k (answer 0) [] (Err []) q
empty q h = record { runs = λ small. record { front = []; reads = refl; taken = omega arith; again = λ ys e little. ap q (empty-first ys e) ∙ h ∙ ap Err (sym (empty-first ys e)) } }

-- the token that is next is refused
pub refused-at : {A : Type 0} {k : ℕ} (t : Token) (ts : List Token) (q : Parser A) → ((ys : List Token) → q (t ∷ ys) ≡ Err (t ∷ ys)) → Alike k (answer 0) (t ∷ ts) (Err (t ∷ ts)) q
refused-at t ts q h = record { runs = λ small. record { front = []; reads = refl; taken = omega arith; again = λ ys e little. go ys e } }
  where
    go : (ys : List Token) → Some t ≡ first ys → q ys ≡ Err ys
    go [] e = absurd (cc)
    go (u ∷ us) e = let e' : t ≡ u = cc in subst (λ u. q (u ∷ us) ≡ Err (u ∷ us)) e' (h us)

-- a rule that does what that one does
pub like : {A : Type 0} {k : ℕ} {K : Amount} {xs : List Token} {o : Outcome A} {p q : Parser A} → ((ys : List Token) → q ys ≡ p ys) → Alike k K xs o p → Alike k K xs o q
like same' h = record { runs = λ small. let r = h.runs small in record { front = r.front; reads = r.reads; taken = r.taken; again = λ ys e little. same' (r.front ++ ys) ∙ r.again ys e little } }

pub likewise : {A : Type 0} {k : ℕ} {K : Amount} (xs : List Token) (p q : Parser A) → ((ys : List Token) → q ys ≡ p ys) → Alike k K xs (p xs) p → Alike k K xs (q xs) q
likewise {k = k} {K = K} xs p q same' h = subst (λ o. Alike k K xs o q) (sym (same' xs)) (like same' h)

-- ---- tokens of one shape

by-shape : {A : Type 0} (t : Token) (ts : List Token) (a : A) (b : Bool) → (if b then Ok (a, ts) else Err (t ∷ ts)) ≡ told t ts (if b then Some a else None)
by-shape t ts a true = refl
by-shape t ts a false = refl

-- a token of a shape, by what is made of it
abbrev pub of_shape : {A : Type 0} → (Token → A) → Shape → Token → Option A
of_shape f s t = if same_shape (shape_of t.kind) s then Some (f t) else None

pub as_name : Token → PlacedName
as_name t = record { name = words_of t.kind; span = t.span }

pub expect-told : (s : Shape) (ys : List Token) → expect s ys ≡ by_token (of_shape (λ t. t.span) s) ys
expect-told s [] = refl
expect-told s (t ∷ ts) = by-shape t ts t.span (same_shape (shape_of t.kind) s)

pub named-told : (s : Shape) (ys : List Token) → named s ys ≡ by_token (of_shape as_name s) ys
unfolding as_name
named-told s [] = refl
named-told s (t ∷ ts) = by-shape t ts (as_name t) (same_shape (shape_of t.kind) s)

pub worded-told : (s : Shape) (ys : List Token) → worded s ys ≡ by_token (of_shape (λ t. (words_of t.kind, t.span)) s) ys
worded-told s [] = refl
worded-told s (t ∷ ts) = by-shape t ts (words_of t.kind, t.span) (same_shape (shape_of t.kind) s)

pub take-told : (ys : List Token) → take_token ys ≡ by_token (λ t. Some t.span) ys
take-told [] = refl
take-told (t ∷ ts) = refl

pub expecting : {k : ℕ} (s : Shape) (xs : List Token) → Alike k (answer 0) xs (expect s xs) (expect s)
expecting s xs = likewise xs (by_token (of_shape (λ t. t.span) s)) (expect s) (expect-told s) (token xs (of_shape (λ t. t.span) s))

pub naming : {k : ℕ} (s : Shape) (xs : List Token) → Alike k (answer 0) xs (named s xs) (named s)
naming s xs = likewise xs (by_token (of_shape as_name s)) (named s) (named-told s) (token xs (of_shape as_name s))

pub wording : {k : ℕ} (s : Shape) (xs : List Token) → Alike k (answer 0) xs (worded s xs) (worded s)
wording s xs = likewise xs (by_token (of_shape (λ t. (words_of t.kind, t.span)) s)) (worded s) (worded-told s) (token xs (of_shape (λ t. (words_of t.kind, t.span)) s))

pub taking : {k : ℕ} (xs : List Token) → Alike k (answer 0) xs (take_token xs) take_token
taking xs = likewise xs (by_token (λ t. Some t.span)) take_token take-told (token xs (λ t. Some t.span))

-- a token that is next
pub take-next : {k : ℕ} (t : Token) (ts : List Token) → Alike k (any 1) (t ∷ ts) (take_token (t ∷ ts)) take_token
take-next t ts = taken-in (done t.span)

pub name-next : {k : ℕ} (s : Shape) (t : Token) (ts : List Token) → Is s t → Alike k (any 1) (t ∷ ts) (named s (t ∷ ts)) (named s)
unfolding as_name
name-next {k = k} s t ts is = let e = shown s t ts is in subst (λ o. Alike k (any 1) (t ∷ ts) o (named s)) (sym (ap (λ b. if b then Ok (as_name t, ts) else Err (t ∷ ts)) e)) (taken-in (like (λ ys. ap (λ b. if b then Ok (as_name t, ys) else Err (t ∷ ys)) e) (done (as_name t))))

pub word-next : {k : ℕ} (s : Shape) (t : Token) (ts : List Token) → Is s t → Alike k (any 1) (t ∷ ts) (worded s (t ∷ ts)) (worded s)
word-next {k = k} s t ts is = let e = shown s t ts is in subst (λ o. Alike k (any 1) (t ∷ ts) o (worded s)) (sym (ap (λ b. if b then Ok ((words_of t.kind, t.span), ts) else Err (t ∷ ts)) e)) (taken-in (like (λ ys. ap (λ b. if b then Ok ((words_of t.kind, t.span), ys) else Err (t ∷ ys)) e) (done (words_of t.kind, t.span))))

-- a choice that no token has a part in
pub fixed : {A : Type 0} {k : ℕ} {K : Amount} {xs : List Token} (b : Bool) (p q p2 q2 : Parser A) → Alike k K xs (p xs) p2 → Alike k K xs (q xs) q2 → Alike k K xs ((if b then p else q) xs) (if b then p2 else q2)
fixed true p q p2 q2 g h = g
fixed false p q p2 q2 g h = h

-- ---- tokens passed over

pub stepping : {A : Type 0} {k : ℕ} (xs : List Token) {n : ℕ} (p q : Parser A) (s : Shape) → sees s xs ≡ true → Alike (k - 1) (any n) (after xs) (p (after xs)) q → Alike k (any (suc n)) xs (p (after xs)) (λ ys. q (after ys))
stepping [] p q s e h = absurd (cc)
stepping (t ∷ ts) p q s e h = taken-in h

no-separator : (us : List Token) → sees shape.Separator us ≡ false → skip_separators us ≡ us
no-separator [] e = refl
no-separator (u ∷ us) e = ap (λ b. if b then skip_separators us else u ∷ us) e

not-separator : {A : Type 0} {k : ℕ} {K : Amount} (xs : List Token) (o : Outcome A) (q : Parser A) → sees shape.Separator xs ≡ false → Alike k K xs o q → Alike k K xs o (λ ys. q (skip_separators ys))
not-separator xs o q none h = record {
  runs = λ small. let r = h.runs small in record {
    front = r.front;
    reads = r.reads;
    taken = r.taken;
    again = λ ys e little.
        let same' : first xs ≡ first (r.front ++ ys) = ap first r.reads ∙ first-after r.front (rest_of o) ys e in
        ap q (no-separator (r.front ++ ys) (sym (sees-one shape.Separator xs (r.front ++ ys) same') ∙ none)) ∙ r.again ys e little;
  };
}

in-front : {A : Type 0} {k : ℕ} {K : Amount} (t : Token) (ts : List Token) (o : Outcome A) (q : Parser A) → Alike k K ts o (λ ys. q (t ∷ ys)) → Alike k K (t ∷ ts) o q
in-front {A = A} {k = k} {K = K} t ts o q h = record {
  runs = λ small. let r = h.runs (fewer (length ts) k small) in record {
    front = t ∷ r.front;
    reads = ap (λ us. t ∷ us) r.reads;
    taken = more K o r.front r.taken;
    again = λ ys e little. r.again ys e (fewer (length (r.front ++ ys)) k little);
  };
}
  where
    fewer : (n k : ℕ) → suc n < k → n < k
    fewer n k h = omega arith

    more : (K : Amount) (o : Outcome A) (front : List Token) → Consumed K o front → Consumed K o (t ∷ front)
    more (answer n) (Ok p) front le = let m : n ≤ length front = le.1 in (omega arith, omega arith)
    more (answer n) (Err rest) front le = let m : n ≤ length front = le in omega arith
    more (any n) o front le = let m : n ≤ length front = le in omega arith

-- an outcome of what stands after separators
skipped : {A : Type 0} {k : ℕ} {K : Amount} (xs : List Token) (o : Outcome A) (q : Parser A) → Alike k K (skip_separators xs) o q → Alike k K xs o (λ ys. q (skip_separators ys))
skipped [] o q h = not-separator [] o q refl h
skipped {A = A} {k = k} {K = K} (t ∷ ts) o q h = go (same_shape (shape_of t.kind) shape.Separator) refl (λ h. skipped ts o q h) h
  where
    go : (b : Bool) → same_shape (shape_of t.kind) shape.Separator ≡ b → (Alike k K (skip_separators ts) o q → Alike k K ts o (λ ys. q (skip_separators ys))) → Alike k K (if b then skip_separators ts else t ∷ ts) o q → Alike k K (t ∷ ts) o (λ ys. q (skip_separators ys))
    go true e more h = in-front t ts o (λ ys. q (skip_separators ys)) (like (λ ys. ap q (ap (λ b. if b then skip_separators ys else t ∷ ys) e)) (more h))
    go false e more h = not-separator (t ∷ ts) o q e h

pub skipping : {A : Type 0} {k : ℕ} {K : Amount} (xs : List Token) (p q : Parser A) → Alike k K (skip_separators xs) (p (skip_separators xs)) q → Alike k K xs (p (skip_separators xs)) (λ ys. q (skip_separators ys))
skipping xs p q h = skipped xs (p (skip_separators xs)) q h

-- after at least one separator
pub stepping-over : {A : Type 0} {k n : ℕ} (xs : List Token) (p q : Parser A) → sees shape.Separator xs ≡ true → Alike (k - 1) (any n) (skip_separators xs) (p (skip_separators xs)) q → Alike k (any (suc n)) xs (p (skip_separators xs)) (λ ys. q (skip_separators ys))
stepping-over [] p q e h = absurd (cc)
stepping-over {A = A} {k = k} {n = n} (t ∷ ts) p q e h =
    let same' : skip_separators (t ∷ ts) ≡ skip_separators ts = ap (λ b. if b then skip_separators ts else t ∷ ts) e in
    let h' : Alike (k - 1) (any n) (skip_separators ts) (p (skip_separators (t ∷ ts))) q = subst (λ us. Alike (k - 1) (any n) us (p (skip_separators (t ∷ ts))) q) same' h in
    taken-in (like (λ ys. ap q (ap (λ b. if b then skip_separators ys else t ∷ ys) e)) (skipped ts (p (skip_separators (t ∷ ts))) q h'))

-- ---- rules that nest and repeat

-- a bound that the turns of both rules keep to
pub record Fits (turns other k : ℕ) : Type 0 where
  pub one : k ≤ turns
  pub two : k ≤ other

pub less-fits : {turns other k : ℕ} → Fits turns other k → Fits turns other (k - 1)
less-fits {turns = turns} {other = other} {k = k} f = record { one = go turns k f.one; two = go other k f.two }
  where
    go : (n k : ℕ) → k ≤ n → k - 1 ≤ n
    go n k h = omega arith

pub fits-turns : {turns other k : ℕ} → k ≤ turns → k ≤ other → Fits turns other k
fits-turns a b = record { one = a; two = b }

-- A loop of which each turn takes something before the next.
pub loops : {S A : Type 0} (turns other : ℕ) (loop again : ℕ → S → Parser A) →
    ((k n m : ℕ) → Fits turns other k → ((s : S) (xs : List Token) → Alike (k - 1) (any 0) xs (loop n s xs) (again m s)) → (s : S) (xs : List Token) → Alike k (any 0) xs (loop (suc n) s xs) (again (suc m) s)) →
    (k n m : ℕ) → Fits turns other k → k ≤ n → k ≤ m → (s : S) (xs : List Token) → Alike k (any 0) xs (loop n s xs) (again m s)
loops {S = S} {A = A} turns other loop again turn k zero m f a b s xs = let e : k ≡ zero = omega arith in subst (λ k. Alike k (any 0) xs (loop zero s xs) (again m s)) (sym e) nothing
loops {S = S} {A = A} turns other loop again turn k (suc n) zero f a b s xs = let e : k ≡ zero = omega arith in subst (λ k. Alike k (any 0) xs (loop (suc n) s xs) (again zero s)) (sym e) nothing
loops {S = S} {A = A} turns other loop again turn k (suc n) (suc m) f a b s xs = turn k n m f (λ s xs. loops turns other loop again turn (k - 1) n m (less-fits f) (omega arith) (omega arith) s xs) s xs

-- likewise for a loop that stands after something taken
pub loops-in : {S A : Type 0} (turns other : ℕ) (loop again : ℕ → S → Parser A) →
    ((k n m : ℕ) → Fits turns other k → ((s : S) (xs : List Token) → Alike (k - 1 - 1) (any 0) xs (loop n s xs) (again m s)) → (s : S) (xs : List Token) → Alike (k - 1) (any 0) xs (loop (suc n) s xs) (again (suc m) s)) →
    (k n m : ℕ) → Fits turns other k → k - 1 ≤ n → k - 1 ≤ m → (s : S) (xs : List Token) → Alike (k - 1) (any 0) xs (loop n s xs) (again m s)
loops-in {S = S} {A = A} turns other loop again turn k zero m f a b s xs = let e : k - 1 ≡ zero = omega arith in subst (λ k. Alike k (any 0) xs (loop zero s xs) (again m s)) (sym e) nothing
loops-in {S = S} {A = A} turns other loop again turn k (suc n) zero f a b s xs = let e : k - 1 ≡ zero = omega arith in subst (λ k. Alike k (any 0) xs (loop (suc n) s xs) (again zero s)) (sym e) nothing
loops-in {S = S} {A = A} turns other loop again turn k (suc n) (suc m) f a b s xs = turn k n m f (λ s xs. loops-in turns other loop again turn (k - 1) n m (less-fits f) (omega arith) (omega arith) s xs) s xs

pub loop-in : {S A : Type 0} (turns other : ℕ) (loop again : ℕ → S → Parser A) →
    ((k n m : ℕ) → Fits turns other k → ((s : S) (xs : List Token) → Alike (k - 1 - 1) (any 0) xs (loop n s xs) (again m s)) → (s : S) (xs : List Token) → Alike (k - 1) (any 0) xs (loop (suc n) s xs) (again (suc m) s)) →
    (k : ℕ) → Fits turns other k → (s : S) (xs : List Token) → Alike (k - 1) (any 0) xs (loop turns s xs) (again other s)
loop-in turns other loop again turn k f s xs = loops-in turns other loop again turn k turns other f (let a = f.one in omega arith) (let a = f.two in omega arith) s xs

pub loop-at : {S A : Type 0} (turns other : ℕ) (loop again : ℕ → S → Parser A) →
    ((k n m : ℕ) → Fits turns other k → ((s : S) (xs : List Token) → Alike (k - 1) (any 0) xs (loop n s xs) (again m s)) → (s : S) (xs : List Token) → Alike k (any 0) xs (loop (suc n) s xs) (again (suc m) s)) →
    (k : ℕ) → Fits turns other k → (s : S) (xs : List Token) → Alike k (any 0) xs (loop turns s xs) (again other s)
loop-at turns other loop again turn k f s xs = loops turns other loop again turn k turns other f f.one f.two s xs
