-- Texts made of words and lists in brackets: each tells where it ends, and what it was made of.
use Rattle.std.proofs.Common.{◌≡◌, ℕ, Bool, true, false, not, List, [], ◌∷◌, ◌++◌, refl, sym, ap, subst, ◌∙◌, nat_eq, append_assoc, append-nil}
use Rattle.std.specs.Bool.{IsTrue}
use Rattle.std.specs.List.{list_all, list_any}
use Rattle.std.proofs.lemmas.Bool.{eqb-true, false≢true}
use Rattle.srb_shapes_laws.proofs.Bools.{either, and-first, and-second, or-cases}

-- ---- bytes

-- a byte of a word is no blank, bracket or comma
abbrev pub is_word_byte : ℕ → Bool
is_word_byte c = not (list_any (nat_eq c) (32 ∷ 40 ∷ 41 ∷ 44 ∷ 91 ∷ 93 ∷ []))

abbrev pub is_word : List ℕ → Bool
is_word = list_all is_word_byte

-- what may follow a word: nothing, or a byte that is none of a word
abbrev pub IsBreak : List ℕ → Type 0
IsBreak [] = Unit {0}
IsBreak (c ∷ r) = IsTrue (not (is_word_byte c))

-- what may follow a whole text: nothing, a closing bracket or a comma
abbrev pub IsStop : List ℕ → Type 0
IsStop [] = Unit {0}
IsStop (c ∷ r) = IsTrue (list_any (nat_eq c) (41 ∷ 44 ∷ 93 ∷ []))

not-both : {A : Type 0} (b : Bool) → IsTrue b → IsTrue (not b) → A
not-both true h k = cc
not-both false h k = cc

stop-byte : (c : ℕ) → IsTrue (list_any (nat_eq c) (41 ∷ 44 ∷ 93 ∷ [])) → IsTrue (not (is_word_byte c))
stop-byte c h = either
    (λ k. subst (λ n. IsTrue (not (is_word_byte n))) (sym (eqb-true c 41 k)) refl)
    (λ k. either
    (λ l. subst (λ n. IsTrue (not (is_word_byte n))) (sym (eqb-true c 44 l)) refl)
    (λ l. either
    (λ m. subst (λ n. IsTrue (not (is_word_byte n))) (sym (eqb-true c 93 m)) refl)
    (λ m. cc)
    (or-cases (nat_eq c 93) _ l))
    (or-cases (nat_eq c 44) _ k))
    (or-cases (nat_eq c 41) _ h)

stop-break : (x : List ℕ) → IsStop x → IsBreak x
stop-break [] h = tt
stop-break (c ∷ x) h = stop-byte c h

-- ---- words

-- a word and what follows it are told by the text
pub word-ends : (v w r s : List ℕ) → IsTrue (is_word v) → IsTrue (is_word w) → IsBreak r → IsBreak s → v ++ r ≡ w ++ s → (v ≡ w) × (r ≡ s)
word-ends [] [] r s p q b d h = (refl, h)
word-ends [] (c ∷ w) r s p q b d h = not-both (is_word_byte c) (and-first _ _ q) (subst IsBreak h b)
word-ends (c ∷ v) [] r s p q b d h = not-both (is_word_byte c) (and-first _ _ p) (subst IsBreak (sym h) d)
word-ends (a ∷ v) (c ∷ w) r s p q b d h = let
    e : a ≡ c = cc in let
    f : v ++ r ≡ w ++ s = cc in let
    k = word-ends v w r s (and-second (is_word_byte a) _ p) (and-second (is_word_byte c) _ q) b d f in
    ((λ i. e i ∷ k.0 i), k.1)

-- ---- words with lists in brackets

mutual
  pub data Form : Type 0 where
    atom : List ℕ → Form
    node : List ℕ → Bool → Forms → Form

  pub data Forms : Type 0 where
    one : Form → Forms
    more : Form → Forms → Forms

abbrev pub opening : Bool → ℕ
opening true = 91
opening false = 40

abbrev pub closing : Bool → ℕ
closing true = 93
closing false = 41

abbrev mutual
  pub render : Form → List ℕ
  render (atom w) = w
  render (node w square fs) = w ++ (opening square ∷ (renders fs ++ (closing square ∷ [])))

  pub renders : Forms → List ℕ
  renders (one f) = render f
  renders (more f fs) = render f ++ (44 ∷ 32 ∷ renders fs)

abbrev mutual
  pub IsValid : Form → Type 0
  IsValid (atom w) = IsTrue (is_word w)
  IsValid (node w square fs) = IsTrue (is_word w) × AreValid fs

  pub AreValid : Forms → Type 0
  AreValid (one f) = IsValid f
  AreValid (more f fs) = IsValid f × AreValid fs

opening-breaks : (b : Bool) (r : List ℕ) → IsBreak (opening b ∷ r)
opening-breaks true r = refl
opening-breaks false r = refl

opening-goes-on : {A : Type 0} (b : Bool) (r : List ℕ) → IsStop (opening b ∷ r) → A
opening-goes-on true r h = cc
opening-goes-on false r h = cc

closing-stops : (b : Bool) (r : List ℕ) → IsStop (closing b ∷ r)
closing-stops true r = refl
closing-stops false r = refl

abbrev has-no-comma : List ℕ → Bool
has-no-comma [] = true
has-no-comma (c ∷ r) = not (nat_eq c 44)

closing-no-comma : {A : Type 0} (b : Bool) (r s : List ℕ) → closing b ∷ r ≡ 44 ∷ s → A
closing-no-comma true r s h = absurd (false≢true (subst (λ l. IsTrue (has-no-comma l)) h refl))
closing-no-comma false r s h = absurd (false≢true (subst (λ l. IsTrue (has-no-comma l)) h refl))

abbrev is-square : List ℕ → Bool
is-square [] = false
is-square (c ∷ r) = nat_eq c 91

same-opening : (a b : Bool) (r s : List ℕ) → opening a ∷ r ≡ opening b ∷ s → a ≡ b
same-opening true true r s h = refl
same-opening true false r s h = ap is-square h
same-opening false true r s h = ap is-square h
same-opening false false r s h = refl

same-rest : (c d : ℕ) (r s : List ℕ) → c ∷ r ≡ d ∷ s → r ≡ s
same-rest c d r s h = cc

same-after-comma : (r s : List ℕ) → 44 ∷ 32 ∷ r ≡ 44 ∷ 32 ∷ s → r ≡ s
same-after-comma r s h = cc

mutual
  pub form-ends : (f g : Form) → IsValid f → IsValid g → (x y : List ℕ) → IsStop x → IsStop y → render f ++ x ≡ render g ++ y → (f ≡ g) × (x ≡ y)
  form-ends (atom v) (atom w) p q x y s t h = let k = word-ends v w x y p q (stop-break x s) (stop-break y t) h in (ap atom k.0, k.1)
  form-ends (atom v) (node w b gs) p q x y s t h = let
      k = word-ends v w x (opening b ∷ ((renders gs ++ (closing b ∷ [])) ++ y)) p q.0 (stop-break x s) (opening-breaks b ((renders gs ++ (closing b ∷ [])) ++ y))
      (h ∙ append_assoc w (opening b ∷ (renders gs ++ (closing b ∷ []))) y) in
      opening-goes-on b ((renders gs ++ (closing b ∷ [])) ++ y) (subst IsStop k.1 s)
  form-ends (node v a fs) (atom w) p q x y s t h = let
      k = word-ends v w (opening a ∷ ((renders fs ++ (closing a ∷ [])) ++ x)) y p.0 q (opening-breaks a ((renders fs ++ (closing a ∷ [])) ++ x)) (stop-break y t)
      (sym (append_assoc v (opening a ∷ (renders fs ++ (closing a ∷ []))) x) ∙ h) in
      opening-goes-on a ((renders fs ++ (closing a ∷ [])) ++ x) (subst IsStop (sym k.1) t)
  form-ends (node v a fs) (node w b gs) p q x y s t h = let
      k = word-ends v w (opening a ∷ ((renders fs ++ (closing a ∷ [])) ++ x)) (opening b ∷ ((renders gs ++ (closing b ∷ [])) ++ y)) p.0 q.0
      (opening-breaks a ((renders fs ++ (closing a ∷ [])) ++ x)) (opening-breaks b ((renders gs ++ (closing b ∷ [])) ++ y))
      (sym (append_assoc v (opening a ∷ (renders fs ++ (closing a ∷ []))) x) ∙ h ∙ append_assoc w (opening b ∷ (renders gs ++ (closing b ∷ []))) y) in let
      c = same-opening a b ((renders fs ++ (closing a ∷ [])) ++ x) ((renders gs ++ (closing b ∷ [])) ++ y) k.1 in let
      l = forms-end fs gs p.1 q.1 a b x y
      (sym (append_assoc (renders fs) (closing a ∷ []) x)
      ∙ same-rest (opening a) (opening b) ((renders fs ++ (closing a ∷ [])) ++ x) ((renders gs ++ (closing b ∷ [])) ++ y) k.1
      ∙ append_assoc (renders gs) (closing b ∷ []) y) in
      ((λ i. node (k.0 i) (c i) (l.0 i)), same-rest (closing a) (closing b) x y l.1)

  pub forms-end : (fs gs : Forms) → AreValid fs → AreValid gs → (a b : Bool) (x y : List ℕ) → renders fs ++ (closing a ∷ x) ≡ renders gs ++ (closing b ∷ y)
      → (fs ≡ gs) × (closing a ∷ x ≡ closing b ∷ y)
  forms-end (one f) (one g) p q a b x y h = let
      k = form-ends f g p q (closing a ∷ x) (closing b ∷ y) (closing-stops a x) (closing-stops b y) h in (ap one k.0, k.1)
  forms-end (one f) (more g gs) p q a b x y h = let
      k = form-ends f g p q.0 (closing a ∷ x) (44 ∷ 32 ∷ (renders gs ++ (closing b ∷ y))) (closing-stops a x) refl
      (h ∙ append_assoc (render g) (44 ∷ 32 ∷ renders gs) (closing b ∷ y)) in
      closing-no-comma a x (32 ∷ (renders gs ++ (closing b ∷ y))) k.1
  forms-end (more f fs) (one g) p q a b x y h = let
      k = form-ends f g p.0 q (44 ∷ 32 ∷ (renders fs ++ (closing a ∷ x))) (closing b ∷ y) refl (closing-stops b y)
      (sym (append_assoc (render f) (44 ∷ 32 ∷ renders fs) (closing a ∷ x)) ∙ h) in
      closing-no-comma b y (32 ∷ (renders fs ++ (closing a ∷ x))) (sym k.1)
  forms-end (more f fs) (more g gs) p q a b x y h = let
      k = form-ends f g p.0 q.0 (44 ∷ 32 ∷ (renders fs ++ (closing a ∷ x))) (44 ∷ 32 ∷ (renders gs ++ (closing b ∷ y))) refl refl
      (sym (append_assoc (render f) (44 ∷ 32 ∷ renders fs) (closing a ∷ x)) ∙ h ∙ append_assoc (render g) (44 ∷ 32 ∷ renders gs) (closing b ∷ y)) in let
      l = forms-end fs gs p.1 q.1 a b x y (same-after-comma (renders fs ++ (closing a ∷ x)) (renders gs ++ (closing b ∷ y)) k.1) in
      ((λ i. more (k.0 i) (l.0 i)), l.1)

-- ---- texts that are made so

pub record IsText (u : List ℕ) : Type 0 where
  pub form : Form
  pub valid : IsValid form
  pub is : render form ≡ u

pub text-ends : (u v : List ℕ) → IsText u → IsText v → (x y : List ℕ) → IsStop x → IsStop y → u ++ x ≡ v ++ y → (u ≡ v) × (x ≡ y)
text-ends u v a b x y s t h = let
    k = form-ends a.form b.form a.valid b.valid x y s t (ap (λ z. z ++ x) a.is ∙ h ∙ ap (λ z. z ++ y) (sym b.is)) in
    (sym a.is ∙ ap render k.0 ∙ b.is, k.1)

pub word-text : (w : List ℕ) → IsTrue (is_word w) → IsText w
word-text w h = record { form = atom w; valid = h; is = refl }

-- the texts of a list, between commas
unfoldable pub tail_text : List (List ℕ) → List ℕ
tail_text [] = []
tail_text (t ∷ ts) = 44 ∷ 32 ∷ (t ++ tail_text ts)

abbrev pub texts_of : Forms → List (List ℕ)
texts_of (one f) = render f ∷ []
texts_of (more f fs) = render f ∷ texts_of fs

pub record AreTexts (t : List ℕ) (ts : List (List ℕ)) : Type 0 where
  pub forms : Forms
  pub valid : AreValid forms
  pub rendered : renders forms ≡ t ++ tail_text ts
  pub texts : texts_of forms ≡ t ∷ ts

pub one-listed : (t : List ℕ) → IsText t → AreTexts t []
unfolding tail_text
one-listed t a = record { forms = one a.form; valid = a.valid; rendered = a.is ∙ sym (append-nil t); texts = ap (λ u. u ∷ []) a.is }

pub more-listed : (t u : List ℕ) (us : List (List ℕ)) → IsText t → AreTexts u us → AreTexts t (u ∷ us)
unfolding tail_text
more-listed t u us a b = record {
  forms = more a.form b.forms;
  valid = (a.valid, b.valid);
  rendered = λ i. a.is i ++ (44 ∷ 32 ∷ b.rendered i);
  texts = λ i. a.is i ∷ b.texts i;
}

-- a word with a list of texts in brackets
pub node-text : (w : List ℕ) (b : Bool) (t : List ℕ) (ts : List (List ℕ)) → IsTrue (is_word w) → AreTexts t ts
    → IsText (w ++ (opening b ∷ ((t ++ tail_text ts) ++ (closing b ∷ []))))
node-text w b t ts h a = record { form = node w b a.forms; valid = (h, a.valid); is = ap (λ s. w ++ (opening b ∷ (s ++ (closing b ∷ [])))) a.rendered }

-- and which texts it lists
pub node-tells : (b : Bool) (t u : List ℕ) (ts us : List (List ℕ)) → AreTexts t ts → AreTexts u us
    → (t ++ tail_text ts) ++ (closing b ∷ []) ≡ (u ++ tail_text us) ++ (closing b ∷ []) → t ∷ ts ≡ u ∷ us
node-tells b t u ts us a c h = let
    k = forms-end a.forms c.forms a.valid c.valid b b [] []
    (ap (λ s. s ++ (closing b ∷ [])) a.rendered ∙ h ∙ ap (λ s. s ++ (closing b ∷ [])) (sym c.rendered)) in
    sym a.texts ∙ ap texts_of k.0 ∙ c.texts
