-- Operands with suffixes are read alike. Whether a `[` is that of an index depends on the token before it.
use Rattle.std.proofs.Common.{◌≡◌, inl, inr, ◌||◌, ℕ, zero, suc, ◌+◌, ◌-◌, ◌<◌, Bool, true, false, if◌then◌else◌, List, [], ◌∷◌, ◌++◌, length, slice_get, Option, Some, None, Ok, refl, sym, ap, subst, ◌∙◌, append_assoc, length-append, arith}
use Rattle.rb_tree.specs.declared.syntax.Dot.{Dot}
use Rattle.rb_tree.specs.declared.syntax.Dot.TheVariants as dot
use Rattle.rb_tree.specs.declared.syntax.Suffix.{Suffix}
use Rattle.rb_tree.specs.declared.syntax.Tree.{Tree}
use Rattle.rb_tree.specs.Tokens.{shape_of}
use Rattle.rb_tree.specs.declared.token.Token.{Token}
use Rattle.rb_tree.specs.declared.token.Shape.{Shape}
use Rattle.rb_tree.specs.declared.token.Shape.TheVariants as shape
use Rattle.rb_expr.specs.declared.form.Form.{Form}
use Rattle.rb_expr.specs.Lists.{span_of_suffix}
use Rattle.rb_expr.specs.Reading.{Parser, and_then, ◌<$>◌, pure, peek, touches}
use Rattle.rb_expr.specs.Shapes.{closes, is_index_after, is_index}
use Rattle.rb_expr.specs.Operands.{call_suffix, constant_suffix, index_suffix, suffix_by, a_suffix, suffixes_from, suffixes, post_of, post}
use Rattle.rb_prefix_laws.proofs.Steps.{Looks, first, one, peek-one, Fits, less-fits}
use Rattle.rb_prefix_laws.proofs.Cuts.{Cut, bind, bind-all, weaker, like, done, naming, loop-at, looking-or, looking-in, take-next, TakenOr}
use Rattle.rb_prefix_laws.proofs.Steps.Amount.{answer, any}
use Rattle.rb_prefix_laws.proofs.Nested.{hold, Nests}
use Rattle.rb_prefix_laws.proofs.Calls.{optional-alike, optional-block-alike, index-alike}
use Rattle.rb_prefix_laws.proofs.Operands.{primary-alike}

-- ---- the token before

got-first : (xs ys : List Token) → first xs ≡ first ys → slice_get xs 0 ≡ slice_get ys 0
got-first [] [] e = refl
got-first [] (y ∷ ys) e = e
got-first (x ∷ xs) [] e = e
got-first (x ∷ xs) (y ∷ ys) e = e

got-in : (c : List Token) (i : ℕ) (xs ys : List Token) → i < length c → slice_get (c ++ xs) i ≡ slice_get (c ++ ys) i
got-in [] i xs ys h = absurd (let f : ⊥ = omega arith in f)
got-in (t ∷ c) zero xs ys h = refl
got-in (t ∷ c) (suc i) xs ys h = got-in c i xs ys (let l : i < length c = omega arith in l)

got-after : (c xs ys : List Token) → first xs ≡ first ys → slice_get (c ++ xs) (length c - 1) ≡ slice_get (c ++ ys) (length c - 1)
got-after [] xs ys e = got-first xs ys e
got-after (t ∷ c) xs ys e = got-in (t ∷ c) (length (t ∷ c) - 1) xs ys (omega arith)

place : (c xs : List Token) → length (c ++ xs) - length xs - 1 ≡ length c - 1
place c xs = let e : length (c ++ xs) ≡ length c + length xs = length-append c xs in omega arith

index-after : (before : Option Token) → Looks (is_index_after before)
index-after None = one (is_index_after None) (λ t ts. refl)
index-after (Some before) = one (is_index_after (Some before)) (λ t ts. refl)

index-one : (c : List Token) → Looks (λ ys. is_index (c ++ ys) ys)
unfolding is_index
index-one c xs ys e =
    ap (λ i. is_index_after (slice_get (c ++ xs) i) xs) (place c xs)
    ∙ ap (λ before. is_index_after before xs) (got-after c xs ys e)
    ∙ index-after (slice_get (c ++ ys) (length c - 1)) xs ys e
    ∙ ap (λ i. is_index_after (slice_get (c ++ ys) i) ys) (sym (place c ys))

-- where no index is opened here, none is opened at the end
not-after : (before : Option Token) (xs : List Token) → is_index_after before xs ≡ false → is_index_after before [] ≡ false
not-after None xs e = refl
not-after (Some before) xs e = go (closes (shape_of before.kind)) (touches before.span xs) e
  where
    go : (a b : Bool) → (a || b) ≡ false → (a || false) ≡ false
    go true b e = absurd (cc)
    go false b e = refl

not-index : (c xs : List Token) → is_index (c ++ xs) xs ≡ false → is_index (c ++ []) [] ≡ false
unfolding is_index
not-index [] xs e = refl
not-index (t ∷ c) xs e =
    let all = t ∷ c in
    ap (λ i. is_index_after (slice_get (all ++ []) i) []) (place all [])
    ∙ ap (λ before. is_index_after before []) (got-in all (length all - 1) [] xs (omega arith))
    ∙ not-after (slice_get (all ++ xs) (length all - 1)) xs (sym (ap (λ i. is_index_after (slice_get (all ++ xs) i) xs) (place all xs)) ∙ e)

module _ (nested other : Form → Bool → Parser Tree) (turns more : ℕ) (ih : Nests nested other turns more) (free : Bool) where
  call-suffix-next : (k : ℕ) → Fits turns more k → (joint : Dot) (t : Token) (ts : List Token) → Cut k (any 1) (t ∷ ts) (call_suffix nested turns free joint (t ∷ ts)) (call_suffix other more free joint)
  unfolding call_suffix
  call-suffix-next k fit joint t ts = bind (take-next t ts) (λ mark r. weaker (bind (naming shape.Identifier r) (λ name r.
      bind (optional-alike nested other turns more ih free (k - 1 - 1) (less-fits (less-fits fit)) name.span.end r) (λ given r. bind (optional-block-alike nested other turns more ih free (k - 1 - 1) (less-fits (less-fits fit)) given.0 r) (λ b r. done _)))))

  constant-suffix-next : (k : ℕ) (t : Token) (ts : List Token) → Cut k (any 1) (t ∷ ts) (constant_suffix nested turns free (t ∷ ts)) (constant_suffix other more free)
  unfolding constant_suffix
  constant-suffix-next k t ts = bind (take-next t ts) (λ mark r. weaker (bind (naming shape.Constant r) (λ name r. done _)))

  index-suffix-next : (k : ℕ) → Fits turns more k → (t : Token) (ts : List Token) → Cut k (any 1) (t ∷ ts) (index_suffix nested turns free (t ∷ ts)) (index_suffix other more free)
  unfolding index_suffix
  index-suffix-next k fit t ts = bind (take-next t ts) (λ mark r. bind (index-alike nested other turns more ih free k fit r) (λ given r. done _))

  -- the suffixes of an operand, of which these tokens were read before
  abbrev Goes : (Form → Bool → Parser Tree) → ℕ → Tree → ℕ → List Token × ℕ × List (Suffix Tree) → Parser Tree
  Goes n t receiver m s = λ r. suffixes_from n t free (s.0 ++ r) receiver s.1 m s.2 r

  abbrev On : (Form → Bool → Parser Tree) → ℕ → Tree → ℕ → List Token → ℕ → List (Suffix Tree) → Option (Suffix Tree) → Parser Tree
  On n t receiver m all end found (Some one) = suffixes_from n t free all receiver (span_of_suffix one).end m (found ++ one ∷ [])
  On n t receiver m all end found None = pure (post_of receiver found end)

  on-alike : (k : ℕ) (receiver : Tree) (n m : ℕ) → ((s : List Token × ℕ × List (Suffix Tree)) (xs : List Token) → Cut (k - 1) (any 0) xs (Goes nested turns receiver n s xs) (Goes other more receiver m s)) →
      (c : List Token) (end : ℕ) (found : List (Suffix Tree)) (xs : List Token) (next : Option (Suffix Tree)) (r d : List Token) → xs ≡ d ++ r → Cut (k - 1) (any 0) r (On nested turns receiver n (c ++ xs) end found next r) (λ zs. On other more receiver m (c ++ (d ++ zs)) end found next zs)
  on-alike k receiver n m again c end found xs None r d e = done _
  on-alike k receiver n m again c end found xs (Some next) r d e =
      let end' = (span_of_suffix next).end in
      let found' = found ++ next ∷ [] in
      let same' : (c ++ d) ++ r ≡ c ++ xs = append_assoc c d r ∙ ap (λ us. c ++ us) (sym e) in
      let h : Cut (k - 1) (any 0) r (suffixes_from nested turns free (c ++ xs) receiver end' n found' r) (λ zs. suffixes_from other more free ((c ++ d) ++ zs) receiver end' m found' zs)
      = subst (λ all. Cut (k - 1) (any 0) r (suffixes_from nested turns free all receiver end' n found' r) (λ zs. suffixes_from other more free ((c ++ d) ++ zs) receiver end' m found' zs)) same' (again (c ++ d, end', found') r) in
      like (λ zs. ap (λ all. suffixes_from other more free all receiver end' m found' zs) (sym (append_assoc c d zs))) h

  some-next : (k : ℕ) (receiver : Tree) (n m : ℕ) → ((s : List Token × ℕ × List (Suffix Tree)) (xs : List Token) → Cut (k - 1) (any 0) xs (Goes nested turns receiver n s xs) (Goes other more receiver m s)) → (c : List Token) (end : ℕ) (found : List (Suffix Tree)) (xs : List Token)
      (p q : Parser (Suffix Tree)) → Cut k (any 1) xs (p xs) q → Cut k (any 1) xs (and_then ((Some <$> p) xs) (On nested turns receiver n (c ++ xs) end found)) (λ ys. and_then ((Some <$> q) ys) (On other more receiver m (c ++ ys) end found))
  some-next k receiver n m again c end found xs p q h = bind-all (λ ys. On other more receiver m (c ++ ys) end found) (bind h (λ a r. done (Some a))) (λ next r d e. on-alike k receiver n m again c end found xs next r d e)

  -- what is done with the suffix that a token begins
  abbrev Then : (Form → Bool → Parser Tree) → ℕ → Tree → ℕ → List Token → ℕ → List (Suffix Tree) → Option Shape → Parser Tree
  Then n t receiver m c end found v = λ ys. and_then (suffix_by n t free (c ++ ys) v ys) (On n t receiver m (c ++ ys) end found)

  suffix-alike : (k : ℕ) → Fits turns more k → (receiver : Tree) (n m : ℕ) → ((s : List Token × ℕ × List (Suffix Tree)) (xs : List Token) → Cut (k - 1) (any 0) xs (Goes nested turns receiver n s xs) (Goes other more receiver m s)) →
      (c : List Token) (end : ℕ) (found : List (Suffix Tree)) (t : Token) (ts : List Token) (s : Shape) →
      TakenOr k (t ∷ ts) (Then nested turns receiver n c end found (Some s) (t ∷ ts)) (Then other more receiver m c end found (Some s)) (Then other more receiver m c end found None)
  suffix-alike k fit receiver n m again c end found t ts shape.Dot = inr (some-next k receiver n m again c end found (t ∷ ts) (call_suffix nested turns free dot.Plain) (call_suffix other more free dot.Plain) (call-suffix-next k fit dot.Plain t ts))
  suffix-alike k fit receiver n m again c end found t ts shape.SafeDot = inr (some-next k receiver n m again c end found (t ∷ ts) (call_suffix nested turns free dot.Safe) (call_suffix other more free dot.Safe) (call-suffix-next k fit dot.Safe t ts))
  suffix-alike k fit receiver n m again c end found t ts shape.Scope = inr (some-next k receiver n m again c end found (t ∷ ts) (constant_suffix nested turns free) (constant_suffix other more free) (constant-suffix-next k t ts))
  suffix-alike k fit receiver n m again c end found t ts shape.OpenBracket = go (is_index (c ++ (t ∷ ts)) (t ∷ ts)) refl
    where
      xs : List Token
      xs = t ∷ ts

      By : (Form → Bool → Parser Tree) → ℕ → ℕ → Bool → Parser Tree
      By n t m b ys = and_then (if b then (Some <$> index_suffix n t free) ys else Ok (None, ys)) (On n t receiver m (c ++ ys) end found)

      look : List Token → Bool
      look = λ ys. is_index (c ++ ys) ys

      go : (b : Bool) → is_index (c ++ xs) xs ≡ b → TakenOr k xs (By nested turns n (is_index (c ++ xs) xs) xs) (λ ys. By other more m (is_index (c ++ ys) ys) ys) (By other more m false)
      go true e = inr (looking-in (λ ys. is_index (c ++ ys) ys) (By other more m) (index-one c)
          (subst (λ b. Cut k (any 1) xs (By nested turns n b xs) (By other more m b)) (sym e) (some-next k receiver n m again c end found xs (index_suffix nested turns free) (index_suffix other more free) (index-suffix-next k fit t ts))))
      go false e =
          let none = not-index c xs e in
          let same' : By other more m false [] ≡ By other more m (is_index (c ++ []) []) [] = ap (λ b. By other more m b []) (sym none) in
          inl (
            same',
            looking-or (λ ys. is_index (c ++ ys) ys) (By other more m) (index-one c)
                (inl (ap (λ b. By other more m b []) (none ∙ sym e), subst (λ b. Cut k (any 0) xs (By nested turns n b xs) (By other more m b)) (sym e) (done _))),
          )
  suffix-alike k fit receiver n m again c end found t ts s = inl (refl, done _)

  by-suffix : (k : ℕ) → Fits turns more k → (receiver : Tree) (n m : ℕ) → ((s : List Token × ℕ × List (Suffix Tree)) (xs : List Token) → Cut (k - 1) (any 0) xs (Goes nested turns receiver n s xs) (Goes other more receiver m s)) →
      (c : List Token) (end : ℕ) (found : List (Suffix Tree)) (xs : List Token) → TakenOr k xs (Then nested turns receiver n c end found (peek xs) xs) (Then other more receiver m c end found (peek xs)) (Then other more receiver m c end found None)
  by-suffix k fit receiver n m again c end found [] = inl (refl, done _)
  by-suffix k fit receiver n m again c end found (t ∷ ts) = suffix-alike k fit receiver n m again c end found t ts (shape_of t.kind)

  suffixes-alike : (k : ℕ) → Fits turns more k → (receiver : Tree) (c : List Token) (xs : List Token) → Cut k (any 0) xs (suffixes nested turns free (c ++ xs) receiver xs) (λ ys. suffixes other more free (c ++ ys) receiver ys)
  unfolding suffixes suffixes_from a_suffix
  suffixes-alike k fit receiver c xs = loop-at {S = List Token × ℕ × List (Suffix Tree)} turns more (Goes nested turns receiver) (Goes other more receiver)
      (λ k n m fit again s xs. looking-or peek (Then other more receiver m s.0 s.1 s.2) peek-one (by-suffix k fit receiver n m again s.0 s.1 s.2 xs))
      k fit (c, 0, []) xs

  pub post-alike : (k : ℕ) → Fits turns more k → (xs : List Token) → Cut k (answer (hold xs)) xs (post nested turns free xs) (post other more free)
  unfolding post
  post-alike k fit xs = bind-all (suffixes other more free) (primary-alike nested other turns more ih free k fit xs)
      (λ receiver r c e. subst (λ all. Cut (k - 1) (any 0) r (suffixes nested turns free all receiver r) (λ zs. suffixes other more free (c ++ zs) receiver zs)) (sym e) (suffixes-alike (k - 1) (less-fits fit) receiver c r))
