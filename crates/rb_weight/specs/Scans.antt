-- The weight after the tokens of a pass from the front. What an open level brings back when it closes is kept where it opens.
use Rattle.std.specs.Prelude.{◌≡◌, ℕ, ◌+◌, ◌-◌, Bool, true, false, if◌then◌else◌, List, [], ◌∷◌, ◌++◌, length, take, drop, slice_get, Option, Some, None, nat_lt}
use Rattle.rb_tree.specs.Tokens.{shape_of}
use Rattle.rb_tree.specs.declared.token.Token.{Token}
use Rattle.rb_tree.specs.declared.token.Shape.{Shape}
use Rattle.rb_weight.specs.Sorts.{sort_of}
use Rattle.rb_weight.specs.Effects.{effect_of, after, separated}
use Rattle.rb_weight.specs.declared.effect.Before.TheVariants as before
use Rattle.rb_weight.specs.declared.effect.Level.{Level}
use Rattle.rb_weight.specs.declared.effect.Level.TheVariants as level
use Rattle.rb_weight.specs.declared.effect.Effect.{Effect}
use Rattle.rb_weight.specs.declared.effect.Effect.TheVariants as effect
use Rattle.rb_weight.specs.declared.scan.Outer.{Outer}
use Rattle.rb_weight.specs.declared.scan.Scan.{Scan}
use Rattle.rb_weight.specs.Limits.{MOST}

-- a pass that goes on in this state, or ends
abbrev pub Goes : Bool → Scan → Option Scan → Type 0
Goes true s answer = answer ≡ Some s
Goes false s answer = answer ≡ None

-- the start: a weight of which `here` goes at the next separator
abbrev pub start : ℕ → ℕ → Scan
start weight here = record { weight = weight; base = weight - here; level = level.Plain; before = before.Plain; outer = [] }

-- after a token that opens a level
abbrev pub opened : Level → Scan → Scan
opened l s =
    record s {
      weight = s.weight + 1;
      base = s.weight + 1;
      level = l;
      outer = s.outer ++ record { weight = s.weight; base = s.base; level = s.level } ∷ [];
    }

-- in the level around, `rest` being those around that
abbrev pub back : List Outer → Scan → Outer → Scan
back rest s o = record s { weight = o.weight; base = o.base; level = o.level; outer = rest }

-- after a token that closes the innermost level, if it is not the one at the start
abbrev pub closed : Scan → Option Scan
closed s = elim (slice_get s.outer (length s.outer - 1)) [ Some o ↦ Some (back (take (length s.outer - 1) s.outer) s o) | None ↦ None ]

-- after a token with this effect
unfoldable pub done : Effect → Scan → Option Scan
done effect.Nothing s = Some s
done (effect.Opens l) s = Some (opened l s)
done effect.Closes s = closed s
done effect.Enters s = Some (record s { level = level.Plain })
done effect.Separates s = Some (record s { weight = s.base; level = separated s.level })
done effect.Divides s = Some (record s { weight = s.base })
done effect.Counts s = Some (record s { weight = s.weight + 1 })

-- after a token of this shape
abbrev pub step : Shape → Scan → Option Scan
step c s = done (effect_of s.before s.level (sort_of c)) (record s { before = after s.before s.level (sort_of c) })

-- the place of the first of these tokens after which the weight is too great, the first of them standing at the place `at`
abbrev pub deep_from : ℕ → Scan → List Token → Option ℕ
deep_from at s [] = None
deep_from at s (t ∷ ts) =
    elim (step (shape_of t.kind) s) [ None ↦ None | Some more ↦ (if nat_lt MOST more.weight then Some at else deep_from (at + 1) more ts) ]

-- the same of the tokens from the place `from` on
abbrev pub first_too_deep : List Token → ℕ → ℕ → ℕ → Option ℕ
first_too_deep tokens from weight here = deep_from from (start weight here) (drop from tokens)
