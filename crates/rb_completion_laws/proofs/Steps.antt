-- What holds of whatever a rule answers: what was read derives before other tokens too, and what was read before a refusal can be
-- completed.
use Rattle.std.proofs.Common.{◌≡◌, ℕ, suc, ◌+◌, Bool, true, false, if◌then◌else◌, List, [], ◌∷◌, ◌++◌, length, ◌⊎◌, inl, inr, Ok, Err, refl, sym, ap, subst, ◌∙◌, append_assoc, length-append, arith}
use Rattle.srb_terms.specs.declared.span.Span.{Span}
use Rattle.rb_tree.specs.Tokens.{shape_of, same_shape}
use Rattle.rb_tree.specs.declared.syntax.PlacedName.{PlacedName}
use Rattle.rb_tree.specs.declared.token.Token.{Token}
use Rattle.rb_tree.specs.declared.token.TokenKind.{TokenKind}
use Rattle.rb_tree.specs.declared.token.Shape.{Shape}
use Rattle.rb_tree.specs.declared.token.Shape.TheVariants as shape
use Rattle.rb_expr.specs.Reading.{Outcome, Parser, and_then, sees, after, words_of, expect, named, worded, skip_separators}
use Rattle.rb_rules.specs.Tokens.{Is, IsOneOf, StartsWith, IsBeforeNumber, NUMBERS}
use Rattle.rb_rules.specs.Grammar.{Gap}
use Rattle.rb_rules.specs.Grammar.Gap.{Closed, Wide}
use Rattle.rb_grammar.proofs.Steps.{same, shown, Within, within-self, within-token, within-more}
use Rattle.rb_completion_laws.specs.After.{joins, Clear}

-- what tokens are, before others
abbrev pub Rel : Type 1
Rel = List Token → List Token → Type 0

-- ---- other tokens after

-- the first two lists end as the last two do, after the same front
abbrev pub Swapped : List Token → List Token → List Token → List Token → Type 0
Swapped xs ys us zs = (front : List Token) × (xs ≡ front ++ ys) × (us ≡ front ++ zs)

pub swapped-self : (ys zs : List Token) → Swapped ys ys zs zs
swapped-self ys zs = ([], refl, refl)

pub swapped-token : {xs ys us zs : List Token} (t : Token) → Swapped xs ys us zs → Swapped (t ∷ xs) ys (t ∷ us) zs
swapped-token t s = (t ∷ s.0, ap (λ v. t ∷ v) s.1, ap (λ v. t ∷ v) s.2)

pub swapped-more : {xs ps ys us vs zs : List Token} → Swapped xs ps us vs → Swapped ps ys vs zs → Swapped xs ys us zs
swapped-more {ys = ys} {zs = zs} a b = (
  a.0 ++ b.0,
  a.1 ∙ ap (λ v. a.0 ++ v) b.1 ∙ sym (append_assoc a.0 b.0 ys),
  a.2 ∙ ap (λ v. a.0 ++ v) b.2 ∙ sym (append_assoc a.0 b.0 zs),
)

-- the second list may stand in the place of the first
pub data Fits : List Token → List Token → Type 0 where
  Alike : (t : Token) (xs us : List Token) → Fits (t ∷ xs) (t ∷ us)
  Quiet : (xs us : List Token) → Clear us → Fits xs us

pub fits-self : (xs : List Token) → Fits xs xs
fits-self [] = Quiet _ _ refl
fits-self (t ∷ ts) = Alike _ _ _

-- ---- what was read

pub record Reached (xs ys : List Token) (D : Rel) (zs : List Token) : Type 0 where
  pub whole : List Token
  pub swapped : Swapped xs ys whole zs
  pub fits : Fits xs whole
  pub derives : D whole zs

-- what was read up to the second list is such, before others too
abbrev pub Reach : List Token → List Token → Rel → Type 0
Reach xs ys D = (zs : List Token) → Fits ys zs → Reached xs ys D zs

pub record Completed (xs rest : List Token) (E : Rel) (zs : List Token) : Type 0 where
  pub whole : List Token
  pub more : List Token
  pub swapped : Swapped xs rest whole more
  pub fits : Fits xs whole
  pub derives : E whole zs

-- what was read before a refusal can be completed to such
abbrev pub Completes : List Token → List Token → Rel → Type 0
Completes xs rest E = (zs : List Token) → Clear zs → Completed xs rest E zs

pub record Made (E : Rel) (zs : List Token) : Type 0 where
  pub whole : List Token
  pub clear : Clear whole
  pub derives : E whole zs

-- there are such tokens before any others
abbrev pub Stands : Rel → Type 0
Stands E = (zs : List Token) → Clear zs → Made E zs

-- one after the other
pub record Seq (D E : Rel) (xs zs : List Token) : Type 0 where
  pub mid : List Token
  pub first : D xs mid
  pub second : E mid zs

abbrev pub Same : Rel
Same xs zs = xs ≡ zs

pub seq-stands : {D E : Rel} → Stands D → Stands E → Stands (Seq D E)
seq-stands d e zs c =
    let b = e zs c in
    let a = d b.whole b.clear in
    record { whole = a.whole; clear = a.clear; derives = record { mid = b.whole; first = a.derives; second = b.derives } }

pub stands-as : {D E : Rel} → Stands D → ((us zs : List Token) → D us zs → E us zs) → Stands E
stands-as d k zs c = let a = d zs c in record { whole = a.whole; clear = a.clear; derives = k _ _ a.derives }

pub reach-self : (xs : List Token) → Reach xs xs Same
reach-self xs zs f = record { whole = zs; swapped = swapped-self xs zs; fits = f; derives = refl }

pub reach-as : {xs ys : List Token} {D E : Rel} → Reach xs ys D → ((us zs : List Token) → D us zs → E us zs) → Reach xs ys E
reach-as r k zs f = let a = r zs f in record { whole = a.whole; swapped = a.swapped; fits = a.fits; derives = k _ _ a.derives }

pub reach-more : {xs ps ys : List Token} {D E : Rel} → Reach xs ps D → Reach ps ys E → Reach xs ys (Seq D E)
reach-more r s zs f =
    let b = s zs f in
    let a = r b.whole b.fits in
    record { whole = a.whole; swapped = swapped-more a.swapped b.swapped; fits = a.fits; derives = record { mid = b.whole; first = a.derives; second = b.derives } }

-- after this token
pub reach-token : {xs ys : List Token} {D : Rel} (t : Token) → Reach xs ys (λ us zs. D (t ∷ us) zs) → Reach (t ∷ xs) ys D
reach-token t r zs f = let a = r zs f in record { whole = t ∷ a.whole; swapped = swapped-token t a.swapped; fits = Alike _ _ _; derives = a.derives }

pub reach-within : {xs ys : List Token} {D : Rel} → Reach xs ys D → Within xs ys
reach-within {ys = ys} r = let a = r ys (fits-self ys) in (a.swapped.0, a.swapped.1)

pub complete-as : {xs rest : List Token} {D E : Rel} → Completes xs rest D → ((us zs : List Token) → D us zs → E us zs) → Completes xs rest E
complete-as r k zs c = let a = r zs c in record { whole = a.whole; more = a.more; swapped = a.swapped; fits = a.fits; derives = k _ _ a.derives }

-- what is completed, and then some tokens more
pub complete-then : {xs rest : List Token} {D E : Rel} → Completes xs rest D → Stands E → Completes xs rest (Seq D E)
complete-then r s zs c =
    let b = s zs c in
    let a = r b.whole b.clear in
    record { whole = a.whole; more = a.more; swapped = a.swapped; fits = a.fits; derives = record { mid = b.whole; first = a.derives; second = b.derives } }

-- what was read, and then what is completed
pub complete-after : {xs ps rest : List Token} {D E : Rel} → Reach xs ps D → Completes ps rest E → Completes xs rest (Seq D E)
complete-after r s zs c =
    let b = s zs c in
    let a = r b.whole b.fits in
    record { whole = a.whole; more = b.more; swapped = swapped-more a.swapped b.swapped; fits = a.fits; derives = record { mid = b.whole; first = a.derives; second = b.derives } }

pub complete-token : {xs rest : List Token} {E : Rel} (t : Token) → Completes xs rest (λ us zs. E (t ∷ us) zs) → Completes (t ∷ xs) rest E
complete-token t r zs c = let a = r zs c in record { whole = t ∷ a.whole; more = a.more; swapped = swapped-token t a.swapped; fits = Alike _ _ _; derives = a.derives }

-- nothing was read
pub complete-new : (xs : List Token) {E : Rel} → Stands E → Completes xs xs E
complete-new xs s zs c = let a = s zs c in record { whole = a.whole; more = a.whole; swapped = swapped-self _ _; fits = Quiet _ _ a.clear; derives = a.derives }

-- ---- what rules answer

abbrev pub Told : {A : Type 0} → Outcome A → (A → List Token → Type 0) → (List Token → Type 0) → Type 0
Told (Ok p) Q F = Q p.0 p.1
Told (Err rest) Q F = F rest

-- what is answered and left is such, and so is what is left by a refusal
pub record Goes {A : Type 0} (o : Outcome A) (Q : A → List Token → Type 0) (F : List Token → Type 0) : Type 0 where
  pub told : Told o Q F

pub bind : {A B : Type 0} {P : A → List Token → Type 0} {G : List Token → Type 0} {Q : B → List Token → Type 0} {F : List Token → Type 0} {o : Outcome A} {f : A → Parser B} →
    Goes o P G → ((rest : List Token) → G rest → F rest) → ((a : A) (ys : List Token) → P a ys → Goes (f a ys) Q F) → Goes (and_then o f) Q F
bind {A = A} {P = P} {G = G} {Q = Q} {F = F} {o = o} {f = f} h l k = go o h
  where
    go : (o : Outcome A) → Goes o P G → Goes (and_then o f) Q F
    go (Ok p) h = k p.0 p.1 h.told
    go (Err rest) h = record { told = l rest h.told }

pub goes-as : {A : Type 0} {P Q : A → List Token → Type 0} {G F : List Token → Type 0} {o : Outcome A} → Goes o P G → ((a : A) (ys : List Token) → P a ys → Q a ys) → ((rest : List Token) → G rest → F rest) → Goes o Q F
goes-as {A = A} {P = P} {Q = Q} {G = G} {F = F} {o = o} h k l = go o h
  where
    go : (o : Outcome A) → Goes o P G → Goes o Q F
    go (Ok p) h = record { told = k p.0 p.1 h.told }
    go (Err rest) h = record { told = l rest h.told }

-- a choice
pub choosing : {A : Type 0} {Q : A → List Token → Type 0} {F : List Token → Type 0} (b : Bool) {o p : Outcome A} → (b ≡ true → Goes o Q F) → (b ≡ false → Goes p Q F) → Goes (if b then o else p) Q F
choosing true h k = h refl
choosing false h k = k refl

-- what is read is such, whatever is answered
abbrev pub Plain : {A : Type 0} → List Token → Outcome A → Rel → Type 0
Plain {A} xs o D = Goes o (λ a ys. Reach xs ys D) (λ rest. Completes xs rest D)

pub plainly : {A : Type 0} {xs : List Token} {o : Outcome A} {D E : Rel} → Plain xs o D → ((us zs : List Token) → D us zs → E us zs) → Plain xs o E
plainly h k = goes-as h (λ a ys r. reach-as r k) (λ rest r. complete-as r k)

pub seq : {A B : Type 0} {xs : List Token} {o : Outcome A} {f : A → Parser B} {D E : Rel} → Plain xs o D → Stands E → ((a : A) (ys : List Token) → Plain ys (f a ys) E) → Plain xs (and_then o f) (Seq D E)
seq h s k = bind h (λ rest r. complete-then r s) (λ a ys r. goes-as (k a ys) (λ b zs q. reach-more r q) (λ rest q. complete-after r q))

pub done : {A : Type 0} {D : Rel} (a : A) (xs : List Token) → ((zs : List Token) → D zs zs) → Plain xs (Ok (a, xs)) D
done a xs d = record { told = λ zs f. record { whole = zs; swapped = swapped-self xs zs; fits = f; derives = d zs } }

pub refusing : {A : Type 0} {Q : A → List Token → Type 0} {E : Rel} (xs : List Token) → Stands E → Goes (Err xs) Q (λ rest. Completes xs rest E)
refusing xs s = record { told = complete-new xs s }

pub headed : {A : Type 0} {xs : List Token} {o : Outcome A} {D : Rel} (t : Token) → Plain xs o (λ us zs. D (t ∷ us) zs) → Plain (t ∷ xs) o D
headed t h = goes-as h (λ a ys r. reach-token t r) (λ rest r. complete-token t r)

-- ---- single tokens

-- a token of this shape
abbrev pub One : Shape → Rel
One s us zs = (t : Token) × Is s t × (us ≡ t ∷ zs)

abbrev pub new_token : TokenKind → Token
new_token k = record { kind = k; span = record { start = 0; end = 0 } }

pub one-stands : (k : TokenKind) (s : Shape) → shape_of k ≡ s → ((zs : List Token) → Clear (new_token k ∷ zs)) → Stands (One s)
one-stands k s e c zs d = record { whole = new_token k ∷ zs; clear = c zs; derives = (new_token k, e, refl) }

pub reach-one : (s : Shape) (t : Token) (ts : List Token) → Is s t → Reach (t ∷ ts) ts (One s)
reach-one s t ts is zs f = record { whole = t ∷ zs; swapped = (t ∷ [], refl, refl); fits = Alike _ _ _; derives = (t, is, refl) }

pub expecting : (s : Shape) → Stands (One s) → (xs : List Token) → Plain xs (expect s xs) (One s)
expecting s one [] = refusing [] one
expecting s one (t ∷ ts) = choosing (same_shape (shape_of t.kind) s) (λ e. record { told = reach-one s t ts (same _ _ e) }) (λ e. refusing (t ∷ ts) one)

pub naming : (s : Shape) → Stands (One s) → (xs : List Token) → Plain xs (named s xs) (One s)
naming s one [] = refusing [] one
naming s one (t ∷ ts) = choosing (same_shape (shape_of t.kind) s) (λ e. record { told = reach-one s t ts (same _ _ e) }) (λ e. refusing (t ∷ ts) one)

-- separators are passed over
pub gap-stands : Stands Gap
gap-stands zs c = record { whole = zs; clear = c; derives = Closed _ }

gap-by : (t : Token) (ts rest : List Token) (b : Bool) → same_shape (shape_of t.kind) shape.Separator ≡ b → Reach ts rest Gap → Reach (t ∷ ts) (if b then rest else t ∷ ts) Gap
gap-by t ts rest true e r = reach-token t (reach-as r (λ us zs g. Wide _ _ _ (same _ _ e) g))
gap-by t ts rest false e r = reach-as (reach-self (t ∷ ts)) (λ us zs e. subst (λ vs. Gap us vs) e (Closed us))

pub gap : (xs : List Token) → Reach xs (skip_separators xs) Gap
gap [] = reach-as (reach-self []) (λ us zs e. subst (λ vs. Gap us vs) e (Closed us))
gap (t ∷ ts) = gap-by t ts (skip_separators ts) (same_shape (shape_of t.kind) shape.Separator) refl (gap ts)

-- what stands after separators
pub parted : {A : Type 0} {xs : List Token} {D : Rel} {o : Outcome A} → Plain (skip_separators xs) o D → Plain xs o (Seq Gap D)
parted {xs = xs} h = goes-as h (λ a ys r. reach-more (gap xs) r) (λ rest r. complete-after (gap xs) r)

-- what is made of what was read plays no part
pub answering : {A B : Type 0} {xs : List Token} {o : Outcome A} {D : Rel} (g : A → B) → Plain xs o D → Plain xs (and_then o (λ a ys. Ok (g a, ys))) D
answering g h = bind h (λ rest r. r) (λ a ys r. record { told = r })

-- a token of this shape is passed over if it is next
pub if-seen : {A : Type 0} {D : Rel} (s : Shape) (f : Parser A) {p : Outcome A} (xs : List Token) → ((t : Token) (ts : List Token) → Is s t → Plain ts (f ts) (λ us zs. D (t ∷ us) zs)) → Plain xs p D → Plain xs (if sees s xs then f (after xs) else p) D
if-seen s f [] h k = k
if-seen s f (t ∷ ts) h k = choosing (same_shape (shape_of t.kind) s) (λ e. headed t (h t ts (same _ _ e))) (λ e. k)

-- perhaps nothing
abbrev pub Perhaps : Rel → Rel
Perhaps D us zs = (us ≡ zs) ⊎ D us zs

pub perhaps-stands : {D : Rel} → Stands (Perhaps D)
perhaps-stands zs c = record { whole = zs; clear = c; derives = inl refl }

pub nothing : {A : Type 0} {D : Rel} (a : A) (xs : List Token) → Plain xs (Ok (a, xs)) (Perhaps D)
nothing a xs = done a xs (λ zs. inl refl)

pub something : {A : Type 0} {xs : List Token} {o : Outcome A} {D : Rel} → Plain xs o D → Plain xs o (Perhaps D)
something h = plainly h (λ us zs d. inr d)

-- ---- forms that end with a token

abbrev pub Ended : List Token → List Token → (Token → Rel) → Type 0
Ended xs ys D = (last : Token) × Within xs (last ∷ ys) × Reach xs ys (D last)

-- with some last token
abbrev pub AnyEnd : (Token → Rel) → Rel
AnyEnd D us zs = (last : Token) × D last us zs

-- what begins with a token and ends with one still begins with it before others
headed-still : (t last : Token) (ts ys us zs : List Token) → Within (t ∷ ts) (last ∷ ys) → Swapped (t ∷ ts) ys us zs → (vs : List Token) × (us ≡ t ∷ vs)
headed-still t last ts ys us zs w s = by s.0 s.1 s.2
  where
    by : (front : List Token) → t ∷ ts ≡ front ++ ys → us ≡ front ++ zs → (vs : List Token) × (us ≡ t ∷ vs)
    by [] e g =
        let a : length (t ∷ ts) ≡ length ys = ap (λ (v : List Token). length v) e in
        let b : length (t ∷ ts) ≡ length (w.0 ++ last ∷ ys) = ap (λ (v : List Token). length v) w.1 in
        let c : length (w.0 ++ last ∷ ys) ≡ length w.0 + length (last ∷ ys) = length-append w.0 (last ∷ ys) in
        let d : length (last ∷ ys) ≡ suc (length ys) = refl in
        absurd (omega arith)
    by (x ∷ front) e g = let i : x ≡ t = cc in (front ++ zs, g ∙ ap (λ (v : Token). v ∷ (front ++ zs)) i)

pub reach-headed : {t last : Token} {ts ys : List Token} {D : Rel} → Within (t ∷ ts) (last ∷ ys) → Reach (t ∷ ts) ys D → Reach (t ∷ ts) ys (λ us zs. D us zs × ((vs : List Token) × (us ≡ t ∷ vs)))
reach-headed {t = t} {last = last} {ts = ts} {ys = ys} w r zs f = let a = r zs f in record { whole = a.whole; swapped = a.swapped; fits = a.fits; derives = (a.derives, headed-still t last ts ys a.whole zs w a.swapped) }

-- what is read is such and ends with a token, and what is answered is such
abbrev pub Closing : {A : Type 0} → List Token → Outcome A → (A → Type 0) → (Token → Rel) → Type 0
Closing {A} xs o T D = Goes o (λ a ys. T a × Ended xs ys D) (λ rest. Completes xs rest (AnyEnd D))

pub stands-end : {D : Rel} {E : Token → Rel} → Stands D → Stands (AnyEnd E) → Stands (AnyEnd (λ last. Seq D (E last)))
stands-end d e = stands-as (seq-stands d e) (λ us zs h. (h.second.0, record { mid = h.mid; first = h.first; second = h.second.1 }))

pub seq-closing : {A B : Type 0} {xs : List Token} {o : Outcome A} {f : A → Parser B} {T : B → Type 0} {D : Rel} {E : Token → Rel} → Plain xs o D → Stands (AnyEnd E) → ((a : A) (ys : List Token) → Closing ys (f a ys) T E) → Closing xs (and_then o f) T (λ last. Seq D (E last))
seq-closing h s k = bind h
    (λ rest r. complete-as (complete-then r s) (λ us zs h. (h.second.0, record { mid = h.mid; first = h.first; second = h.second.1 })))
    (λ a ys r. goes-as (k a ys) (λ b zs q. (q.0, (q.1.0, within-more (reach-within r) q.1.1, reach-more r q.1.2)))
    (λ rest q. complete-as (complete-after r q) (λ us zs h. (h.second.0, record { mid = h.mid; first = h.first; second = h.second.1 }))))

pub closingly : {A : Type 0} {xs : List Token} {o : Outcome A} {T : A → Type 0} {D E : Token → Rel} → Closing xs o T D → ((last : Token) (us zs : List Token) → D last us zs → E last us zs) → Closing xs o T E
closingly h k = goes-as h (λ a ys q. (q.0, (q.1.0, q.1.1, reach-as q.1.2 (k q.1.0)))) (λ rest q. complete-as q (λ us zs d. (d.0, k d.0 us zs d.1)))

pub headed-closing : {A : Type 0} {xs : List Token} {o : Outcome A} {T : A → Type 0} {D : Token → Rel} (t : Token) → Closing xs o T (λ last us zs. D last (t ∷ us) zs) → Closing (t ∷ xs) o T D
headed-closing t h = goes-as h (λ a ys q. (q.0, (q.1.0, within-token t q.1.1, reach-token t q.1.2))) (λ rest q. complete-token t q)

-- after separators
pub parted-closing : {A : Type 0} {xs : List Token} {T : A → Type 0} {D : Token → Rel} {o : Outcome A} → Closing (skip_separators xs) o T D → Closing xs o T (λ last. Seq Gap (D last))
parted-closing {xs = xs} h = goes-as h (λ a ys q. (q.0, (q.1.0, within-more (reach-within (gap xs)) q.1.1, reach-more (gap xs) q.1.2)))
    (λ rest q. complete-as (complete-after (gap xs) q) (λ us zs h. (h.second.0, record { mid = h.mid; first = h.first; second = h.second.1 })))

-- the last token
abbrev pub Last : Shape → Token → Rel
Last s last us zs = Is s last × (us ≡ last ∷ zs)

pub last-stands : {s : Shape} → Stands (One s) → Stands (AnyEnd (Last s))
last-stands one = stands-as one (λ us zs h. (h.0, (h.1, h.2)))

last-read : {s : Shape} {T : Type 0} (t : Token) (ts : List Token) → Is s t → T → T × Ended (t ∷ ts) ts (Last s)
last-read t ts is h = (h, (t, within-self _, λ zs f. record { whole = t ∷ zs; swapped = (t ∷ [], refl, refl); fits = Alike _ _ _; derives = (is, refl) }))

pub closing : {A : Type 0} {T : A → Type 0} (s : Shape) → Stands (One s) → (g : Span → A) → ((place : Span) → T (g place)) → (xs : List Token) → Closing xs (and_then (expect s xs) (λ place ys. Ok (g place, ys))) T (Last s)
closing s one g h [] = refusing [] (last-stands one)
closing {A = A} {T = T} s one g h (t ∷ ts) = by (same_shape (shape_of t.kind) s) refl
  where
    by : (b : Bool) → same_shape (shape_of t.kind) s ≡ b → Closing {A = A} (t ∷ ts) (and_then (if b then Ok (t.span, ts) else Err (t ∷ ts)) (λ place ys. Ok (g place, ys))) T (Last s)
    by true e = record { told = last-read t ts (same _ _ e) (h t.span) }
    by false e = refusing (t ∷ ts) (last-stands one)

-- what stands before the last token
pub before-last : {D : Rel} {s : Shape} {last : Token} {us zs : List Token} → Seq D (Last s last) us zs → D us (last ∷ zs)
before-last {D = D} {us = us} h = subst (λ v. D us v) h.second.1 h.first

-- what stands before a token
pub before-one : {D : Rel} {s : Shape} {us zs : List Token} (h : Seq D (One s) us zs) → D us (h.second.0 ∷ zs)
before-one {D = D} {us = us} h = subst (λ v. D us v) h.second.2 h.first

-- this token is taken
pub taken : {B : Type 0} {Q : B → List Token → Type 0} {F : List Token → Type 0} (s : Shape) (f : Span → Parser B) (t : Token) (ts : List Token) → Is s t → Goes (f t.span ts) Q F → Goes (and_then (expect s (t ∷ ts)) f) Q F
taken {Q = Q} {F = F} s f t ts is h = by (same_shape (shape_of t.kind) s) (shown s t ts is)
  where
    by : (b : Bool) → b ≡ true → Goes (and_then (if b then Ok (t.span, ts) else Err (t ∷ ts)) f) Q F
    by true e = h
    by false e = absurd (cc)

-- what begins with a token
pub led : {D : Rel} {s : Shape} {us zs : List Token} (E : Rel) → Seq (One s) D us zs → ((t : Token) (ts : List Token) → Is s t → D ts zs → E (t ∷ ts) zs) → E us zs
led {zs = zs} E h k = subst (λ v. E v zs) (sym h.first.2) (k h.first.0 h.mid h.first.1 h.second)

-- the last token out of what stands after
pub out : {D : Rel} {E : Token → Rel} {us zs : List Token} → Seq D (AnyEnd E) us zs → AnyEnd (λ last. Seq D (E last)) us zs
out h = (h.second.0, record { mid = h.mid; first = h.first; second = h.second.1 })

-- this token
abbrev pub This : Token → Rel
This t us zs = us ≡ t ∷ zs

pub reach-this : (t : Token) (ts : List Token) → Reach (t ∷ ts) ts (This t)
reach-this t ts zs f = record { whole = t ∷ zs; swapped = (t ∷ [], refl, refl); fits = Alike _ _ _; derives = refl }

-- ---- known tokens

pub worded-known : {B : Type 0} {Q : B → List Token → Type 0} {F : List Token → Type 0} (s : Shape) (f : List ℕ × Span → Parser B) (t : Token) (ts : List Token) → Is s t → Goes (f (words_of t.kind, t.span) ts) Q F → Goes (and_then (worded s (t ∷ ts)) f) Q F
worded-known {Q = Q} {F = F} s f t ts is h = by (same_shape (shape_of t.kind) s) (shown s t ts is)
  where
    by : (b : Bool) → b ≡ true → Goes (and_then (if b then Ok ((words_of t.kind, t.span), ts) else Err (t ∷ ts)) f) Q F
    by true e = h
    by false e = absurd (cc)

pub named-known : {B : Type 0} {Q : B → List Token → Type 0} {F : List Token → Type 0} (s : Shape) (f : PlacedName → Parser B) (t : Token) (ts : List Token) → Is s t → Goes (f (record { name = words_of t.kind; span = t.span }) ts) Q F → Goes (and_then (named s (t ∷ ts)) f) Q F
named-known {Q = Q} {F = F} s f t ts is h = by (same_shape (shape_of t.kind) s) (shown s t ts is)
  where
    by : (b : Bool) → b ≡ true → Goes (and_then (if b then Ok (record { name = words_of t.kind; span = t.span }, ts) else Err (t ∷ ts)) f) Q F
    by true e = h
    by false e = absurd (cc)

-- ---- tokens that are read next

pub follow-words : {B : Type 0} {Q : B → List Token → Type 0} {F : List Token → Type 0} (s : Shape) (D : List Token → Type 0) (f : List ℕ × Span → Parser B) (ps : List Token) → D ps → (D ps → F ps) →
    ((t : Token) (ts : List Token) → Is s t → D (t ∷ ts) → Goes (f (words_of t.kind, t.span) ts) Q F) → Goes (and_then (worded s ps) f) Q F
follow-words s D f [] d l k = record { told = l d }
follow-words {Q = Q} {F = F} s D f (t ∷ ts) d l k = by (same_shape (shape_of t.kind) s) refl
  where
    by : (b : Bool) → same_shape (shape_of t.kind) s ≡ b → Goes (and_then (if b then Ok ((words_of t.kind, t.span), ts) else Err (t ∷ ts)) f) Q F
    by true e = k t ts (same _ _ e) d
    by false e = record { told = l d }

pub follow-name : {B : Type 0} {Q : B → List Token → Type 0} {F : List Token → Type 0} (s : Shape) (D : List Token → Type 0) (f : PlacedName → Parser B) (ps : List Token) → D ps → (D ps → F ps) →
    ((t : Token) (ts : List Token) → Is s t → D (t ∷ ts) → Goes (f (record { name = words_of t.kind; span = t.span }) ts) Q F) → Goes (and_then (named s ps) f) Q F
follow-name s D f [] d l k = record { told = l d }
follow-name {Q = Q} {F = F} s D f (t ∷ ts) d l k = by (same_shape (shape_of t.kind) s) refl
  where
    by : (b : Bool) → same_shape (shape_of t.kind) s ≡ b → Goes (and_then (if b then Ok (record { name = words_of t.kind; span = t.span }, ts) else Err (t ∷ ts)) f) Q F
    by true e = k t ts (same _ _ e) d
    by false e = record { told = l d }

-- ---- what fits

pub reach-fits : {xs ys : List Token} {D : Rel} → Reach xs ys D → Reach xs ys (λ us zs. D us zs × Fits xs us)
reach-fits r zs f = let a = r zs f in record { whole = a.whole; swapped = a.swapped; fits = a.fits; derives = (a.derives, a.fits) }

pub complete-fits : {xs rest : List Token} {E : Rel} → Completes xs rest E → Completes xs rest (λ us zs. E us zs × Fits xs us)
complete-fits r zs c = let a = r zs c in record { whole = a.whole; more = a.more; swapped = a.swapped; fits = a.fits; derives = (a.derives, a.fits) }

abbrev AllJoin : List Shape → Type 0
AllJoin [] = Unit {0}
AllJoin (s ∷ ss) = (joins s ≡ true) × AllJoin ss

caught-by : (ss : List Shape) → AllJoin ss → (s : Shape) → joins s ≡ false → IsOneOf ss s → ⊥
caught-by [] all s e h = h
caught-by (x ∷ ss) all s e (inl is) = let one : joins s ≡ joins x = ap joins is in let other = all.0 in absurd (cc)
caught-by (x ∷ ss) all s e (inr h) = caught-by ss all.1 s e h

pub caught : (ss : List Shape) → AllJoin ss → (us : List Token) → Clear us → ¬ StartsWith ss us
caught ss all [] c h = h
caught ss all (t ∷ ts) c h = caught-by ss all (shape_of t.kind) c h

pub fits-start : (ss : List Shape) → AllJoin ss → (xs us : List Token) → Fits xs us → ¬ StartsWith ss xs → ¬ StartsWith ss us
fits-start ss all _ _ (Alike t xs us) none h = none h
fits-start ss all _ _ (Quiet xs us c) none h = caught ss all us c h

clear-before : (m : Token) (us : List Token) → Clear us → ¬ IsBeforeNumber m us
clear-before m [] c h = h
clear-before m (t ∷ ts) c h = caught NUMBERS (refl, (refl, tt)) (t ∷ ts) c h.0

pub fits-before : (m : Token) (xs us : List Token) → Fits xs us → ¬ IsBeforeNumber m xs → ¬ IsBeforeNumber m us
fits-before m _ _ (Alike t xs us) none h = none h
fits-before m _ _ (Quiet xs us c) none h = clear-before m us c h

-- what was read needs no completion
pub complete-reach : {xs ys : List Token} {D : Rel} → Reach xs ys D → Completes xs ys D
complete-reach r zs c = let a = r zs (Quiet _ _ c) in record { whole = a.whole; more = zs; swapped = a.swapped; fits = a.fits; derives = a.derives }
