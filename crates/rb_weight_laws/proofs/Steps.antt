-- What a pass tells of some tokens, by what stands before them and the kinds of the open levels alone, and how that goes through the
-- parts of a form.
use Rattle.std.proofs.Common.{◌≡◌, List, [], ◌∷◌, ◌++◌, refl, sym, ap, ◌∙◌, append_assoc}
use Rattle.rb_tree.specs.Tokens.{shape_of}
use Rattle.rb_tree.specs.declared.token.Token.{Token}
use Rattle.rb_rules.specs.Tokens.{StartsWith}
use Rattle.rb_rules.specs.Forms.{MODIFIERS}
use Rattle.rb_weight.specs.Sorts.{sort_of}
use Rattle.rb_weight.specs.Effects.{effect_of, after, separated}
use Rattle.rb_weight.specs.declared.sort.Sort.{Sort}
use Rattle.rb_weight.specs.declared.effect.Before.{Before}
use Rattle.rb_weight.specs.declared.effect.Before.TheVariants as before
use Rattle.rb_weight.specs.declared.effect.Level.{Level}
use Rattle.rb_weight.specs.declared.effect.Level.TheVariants as level
use Rattle.rb_weight.specs.declared.effect.Effect.{Effect}
use Rattle.rb_weight.specs.declared.effect.Effect.TheVariants as effect
use Rattle.rb_weight_laws.specs.Roles.{Role}
use Rattle.rb_weight_laws.specs.Laws.{role_of}

-- ---- the pass

-- the kinds of the open levels after a token with this effect
unfoldable pub kinds_within : Effect → Level → List Level → List Level
kinds_within effect.Nothing l ls = l ∷ ls
kinds_within (effect.Opens m) l ls = m ∷ l ∷ ls
kinds_within effect.Closes l ls = ls
kinds_within effect.Enters l ls = level.Plain ∷ ls
kinds_within effect.Separates l ls = separated l ∷ ls
kinds_within effect.Divides l ls = l ∷ ls
kinds_within effect.Counts l ls = l ∷ ls

abbrev pub kinds_with : Effect → List Level → List Level
kinds_with e [] = []
kinds_with e (l ∷ ls) = kinds_within e l ls

abbrev pub kind_of : List Level → Level
kind_of [] = level.Plain
kind_of (l ∷ ls) = l

abbrev pub told : Before → List Level → List Token → List Role
told b ls [] = []
told b ls (t ∷ ts) =
    role_of (effect_of b (kind_of ls) (sort_of (shape_of t.kind)))
    ∷ told (after b (kind_of ls) (sort_of (shape_of t.kind))) (kinds_with (effect_of b (kind_of ls) (sort_of (shape_of t.kind))) ls) ts

-- ---- what it tells of some tokens

-- from what is known before the first tokens to what is known before those left, these are the roles of the tokens between
pub record Run (b : Before) (ls : List Level) (xs : List Token) (rs : List Role) (c : Before) (ms : List Level) (ys : List Token) : Type 0 where
  pub tells : told b ls xs ≡ rs ++ told c ms ys

pub stay : {b : Before} {ls : List Level} {xs : List Token} → Run b ls xs [] b ls xs
stay = record { tells = refl }

pub chain : {b c d : Before} {ls ms ns : List Level} {xs ps ys : List Token} {rs ss : List Role} → Run b ls xs rs c ms ps → Run c ms ps ss d ns ys → Run b ls xs (rs ++ ss) d ns ys
chain {d = d} {ns = ns} {ys = ys} {rs = rs} {ss = ss} h k = record { tells = h.tells ∙ ap (λ more. rs ++ more) k.tells ∙ sym (append_assoc rs ss (told d ns ys)) }

-- the token is of this sort
abbrev pub Sorted : Sort → Token → Type 0
Sorted s t = sort_of (shape_of t.kind) ≡ s

pub token : {b : Before} {l : Level} {ls : List Level} {xs : List Token} (s : Sort) (t : Token) → Sorted s t →
    Run b (l ∷ ls) (t ∷ xs) (role_of (effect_of b l s) ∷ []) (after b l s) (kinds_within (effect_of b l s) l ls) xs
token {b = b} {l = l} {ls = ls} {xs = xs} s t is = record { tells = ap (λ (s : Sort). role_of (effect_of b l s) ∷ told (after b l s) (kinds_within (effect_of b l s) l ls) xs) is }

-- ---- what may be known before a token

-- an operand is expected
pub data Ready : Before → Type 0 where
  Fresh : Ready before.Plain
  Opened : Ready before.Block

-- it stands neither at the head of a method, but for what follows its name, nor in the bars of a block
pub data Usual : Before → Type 0 where
  AtPlain : Usual before.Plain
  AtBlock : Usual before.Block
  AtOperand : Usual before.Operand
  AtName : Usual before.Name

-- a form may begin with these tokens: where an operand is expected, or after one where none of the words stands that could be a
-- modifier
pub data Starts : Before → List Token → Type 0 where
  First : (b : Before) (xs : List Token) → Ready b → Starts b xs
  After : (xs : List Token) → ¬ StartsWith MODIFIERS xs → Starts before.Operand xs

pub ready-usual : {b : Before} → Ready b → Usual b
ready-usual Fresh = AtPlain
ready-usual Opened = AtBlock

pub starts-usual : {b : Before} {xs : List Token} → Starts b xs → Usual b
starts-usual (First _ _ r) = ready-usual r
starts-usual (After _ _) = AtOperand

pub fresh : {xs : List Token} → Starts before.Plain xs
fresh {xs = xs} = First before.Plain xs Fresh

pub starts : {b : Before} {xs : List Token} → Ready b → Starts b xs
starts {b = b} {xs = xs} r = First b xs r

-- ---- ends of which not all is told

-- likewise, where what is known before the tokens left is one of several things
pub record Ends (P : Before → Type 0) (b : Before) (ls : List Level) (xs : List Token) (rs : List Role) (ms : List Level) (ys : List Token) : Type 0 where
  pub before : Before
  pub holds : P before
  pub run : Run b ls xs rs before ms ys

pub ends : {P : Before → Type 0} {b c : Before} {ls ms : List Level} {xs ys : List Token} {rs : List Role} → Run b ls xs rs c ms ys → P c → Ends P b ls xs rs ms ys
ends {c = c} h p = record { before = c; holds = p; run = h }

pub ends-run : {P : Before → Type 0} {b d : Before} {ls ms ns : List Level} {xs ps ys : List Token} {rs ss : List Role} → Ends P b ls xs rs ms ps → ((c : Before) → P c → Run c ms ps ss d ns ys) → Run b ls xs (rs ++ ss) d ns ys
ends-run h more = chain h.run (more h.before h.holds)

pub run-ends : {P : Before → Type 0} {b c : Before} {ls ms ns : List Level} {xs ps ys : List Token} {rs ss : List Role} → Run b ls xs rs c ms ps → Ends P c ms ps ss ns ys → Ends P b ls xs (rs ++ ss) ns ys
run-ends h k = record { before = k.before; holds = k.holds; run = chain h k.run }

pub ends-ends : {P Q : Before → Type 0} {b : Before} {ls ms ns : List Level} {xs ps ys : List Token} {rs ss : List Role} → Ends P b ls xs rs ms ps → ((c : Before) → P c → Ends Q c ms ps ss ns ys) → Ends Q b ls xs (rs ++ ss) ns ys
ends-ends h more = run-ends h.run (more h.before h.holds)
