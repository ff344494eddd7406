-- Lists of tokens that differ in their ends alone, and what a rule asks of the tokens that are next.
use Rattle.std.proofs.Common.{◌≡◌, ◌⊎◌, inl, inr, List, [], ◌∷◌, ◌++◌, refl, ap}
use Rattle.rb_tree.specs.declared.syntax.Sign.{Sign}
use Rattle.rb_tree.specs.declared.syntax.Sign.TheVariants as sign
use Rattle.rb_tree.specs.declared.token.Token.{Token}
use Rattle.rb_tree.specs.declared.token.Shape.{Shape}
use Rattle.rb_rules.specs.Tokens.{StartsWith, IsBeforeNumber, IsRaised}
use Rattle.rb_expr_laws.specs.Forms.{IsPowered}

-- what tokens are, before others
abbrev pub Rel : Type 1
Rel = List Token → List Token → Type 0

-- `**` is next in both lists or in neither
pub record Alike (ys zs : List Token) : Type 0 where
  pub on : IsPowered ys → IsPowered zs
  pub back : IsPowered zs → IsPowered ys

-- the last two lists are the first two with the same tokens in front
pub data Moved (es fs : List Token) : List Token → List Token → Type 0 where
  Stay : Alike es fs → Moved es fs es fs
  Keep : {t : Token} {xs us : List Token} → Moved es fs xs us → Moved es fs (t ∷ xs) (t ∷ us)

-- likewise, and there is at least one in front
pub data Led (es fs : List Token) : List Token → List Token → Type 0 where
  Lead : {t : Token} {xs us : List Token} → Moved es fs xs us → Led es fs (t ∷ xs) (t ∷ us)

pub moved : {es fs xs us : List Token} → Led es fs xs us → Moved es fs xs us
moved (Led.Lead m) = Moved.Keep m

alike : {es fs xs us : List Token} → Moved es fs xs us → Alike xs us
alike (Moved.Stay a) = a
alike (Moved.Keep m) = record { on = λ h. h; back = λ h. h }

-- what stands in front of both ends
pub front : {es fs xs us : List Token} → Moved es fs xs us → (before : List Token) × (xs ≡ before ++ es) × (us ≡ before ++ fs)
front (Moved.Stay a) = ([], refl, refl)
front (Moved.Keep {t = t} m) = let f = front m in (t ∷ f.0, ap (λ us. t ∷ us) f.1, ap (λ us. t ∷ us) f.2)

-- ---- what rules ask

pub starts : {es fs xs us : List Token} (shapes : List Shape) → Led es fs xs us → StartsWith shapes us → StartsWith shapes xs
starts shapes (Led.Lead m) h = h

pub before-number : {es fs xs us : List Token} (sign : Token) → Led es fs xs us → IsBeforeNumber sign us → IsBeforeNumber sign xs
before-number sign (Led.Lead m) h = h

pub unsigned : {es fs xs us : List Token} (minus : Token) → Led es fs xs us → (¬ IsBeforeNumber minus xs ⊎ IsRaised xs) → (¬ IsBeforeNumber minus us ⊎ IsRaised us)
unsigned minus (Led.Lead m) (inl h) = inl h
unsigned minus (Led.Lead m) (inr h) = inr ((alike m).on h)

pub unraised : {es fs xs us : List Token} {how : Sign} → Moved es fs xs us → (how ≡ sign.Plus ⊎ ¬ IsPowered xs) → (how ≡ sign.Plus ⊎ ¬ IsPowered us)
unraised m (inl h) = inl h
unraised m (inr h) = inr (λ power. h ((alike m).back power))
