-- What stands after the elements of lists can be completed.
use Rattle.std.proofs.Common.{◌≡◌, Bool, true, false, ◌&&◌, List, [], ◌∷◌, Option, Some, None, refl, sym, subst}
use Rattle.srb_terms.specs.declared.span.Span.{Span}
use Rattle.rb_tree.specs.Tokens.{shape_of, same_shape}
use Rattle.rb_tree.specs.declared.token.Token.{Token}
use Rattle.rb_tree.specs.declared.token.TokenKind.TheVariants as kind
use Rattle.rb_tree.specs.declared.token.Shape.{Shape}
use Rattle.rb_tree.specs.declared.token.Shape.TheVariants as shape
use Rattle.rb_expr.specs.declared.lists.Order.{Order}
use Rattle.rb_expr.specs.declared.lists.Order.TheVariants as order
use Rattle.rb_expr.specs.Reading.{Outcome, sees, skip_separators}
use Rattle.rb_expr.specs.Lists.{is_block, takes_comma, closed, after_comma, after_element, after_last, after_argument}
use Rattle.rb_rules.specs.Tokens.{Is}
use Rattle.rb_rules.specs.Grammar.{Gap}
use Rattle.rb_rules.specs.Grammar.Gap.{Closed}
use Rattle.rb_rules.specs.Grammar.DerivesEnd.{NoComma, LastComma}
use Rattle.rb_grammar.proofs.Steps.{same}
use Rattle.rb_grammar.proofs.Lists.{and-left, and-right, gap-more, Ends}
use Rattle.rb_completion_laws.proofs.Steps.{Rel, Reach, Completes, Stands, Seq, stands-as, reach-more, reach-one, Goes, goes-as, choosing, One, one-stands, gap, Ended, AnyEnd, Closing, closingly, headed-closing, parted-closing, Last, closing, before-last}

pub paren-one : Stands (One shape.CloseParen)
unfolding shape_of
paren-one = one-stands kind.CloseParen shape.CloseParen refl (λ zs. refl)

pub bracket-one : Stands (One shape.CloseBracket)
unfolding shape_of
bracket-one = one-stands kind.CloseBracket shape.CloseBracket refl (λ zs. refl)

pub brace-one : Stands (One shape.CloseBrace)
unfolding shape_of
brace-one = one-stands kind.CloseBrace shape.CloseBrace refl (λ zs. refl)

-- the closing bracket, perhaps after a comma
abbrev pub ClosedBy : Shape → Token → Rel
ClosedBy closer last us zs = Is closer last × Ends (takes_comma closer) us (last ∷ zs)

ends-of : (b : Bool) (us zs : List Token) → Gap us zs → Ends b us zs
ends-of true us zs g = NoComma _ _ g
ends-of false us zs g = g

pub closed-stands : (closer : Shape) → Stands (One closer) → Stands (AnyEnd (ClosedBy closer))
closed-stands closer one = stands-as one (λ us zs h. (h.0, (h.1, ends-of _ _ _ (subst (λ v. Gap us v) h.2 (Closed us)))))

abbrev There : Option Span → Type 0
There (Some place) = Unit {0}
There None = ⊥

closed-goes : (closer : Shape) → Stands (One closer) → (xs : List Token) → Closing xs (closed closer xs) There (λ last. Seq Gap (Last closer last))
unfolding closed
closed-goes closer one xs = parted-closing (closing closer one Some (λ place. tt) (skip_separators xs))

closed-ends : (closer : Shape) → Stands (One closer) → (xs : List Token) → Closing xs (closed closer xs) There (ClosedBy closer)
closed-ends closer one xs = closingly (closed-goes closer one xs) (λ last us zs h. (h.second.0, ends-of _ _ _ (before-last h)))

-- the closing bracket, or a comma and separators
abbrev pub After : Shape → List Token → Option Span → List Token → Type 0
After closer xs (Some place) ys = Ended xs ys (ClosedBy closer)
After closer xs None ys = Reach xs ys (Seq (One shape.Comma) Gap)

there-after : (closer : Shape) (xs : List Token) (o : Option Span) (ys : List Token) → There o × Ended xs ys (ClosedBy closer) → After closer xs o ys
there-after closer xs (Some place) ys h = h.1
there-after closer xs None ys h = absurd h.0

as-after : {closer : Shape} {xs : List Token} {o : Outcome (Option Span)} → Closing xs o There (ClosedBy closer) → Goes o (After closer xs) (λ rest. Completes xs rest (AnyEnd (ClosedBy closer)))
as-after h = goes-as h (there-after _ _) (λ rest r. r)

comma-closed : (closer : Shape) (t : Token) (us ps zs : List Token) → Is shape.Comma t → takes_comma closer ≡ true → Gap us ps → Gap ps zs → Ends (takes_comma closer) (t ∷ us) zs
comma-closed closer t us ps zs is e g h = subst (λ b. Ends b (t ∷ us) zs) (sym e) (LastComma _ _ _ is (gap-more g h))

comma-goes : (closer : Shape) → Stands (One closer) → (t : Token) (ts : List Token) → Is shape.Comma t → Goes (after_comma closer (skip_separators ts)) (After closer (t ∷ ts)) (λ rest. Completes (t ∷ ts) rest (AnyEnd (ClosedBy closer)))
unfolding after_comma
comma-goes closer one t ts is = choosing (takes_comma closer && sees closer (skip_separators ts))
    (λ e. as-after (headed-closing t (closingly (parted-closing (closed-goes closer one (skip_separators ts))) (λ last us zs h.
    (h.second.second.0, comma-closed closer t us h.mid (last ∷ zs) is (and-left _ _ e) h.first (before-last h.second))))))
    (λ e. record { told = reach-more (reach-one shape.Comma t ts is) (gap ts) })

pub element-goes : (closer : Shape) → Stands (One closer) → (xs : List Token) → Goes (after_element closer xs) (After closer xs) (λ rest. Completes xs rest (AnyEnd (ClosedBy closer)))
unfolding after_element
element-goes closer one [] = as-after (closed-ends closer one [])
element-goes closer one (t ∷ ts) = choosing (same_shape (shape_of t.kind) shape.Comma)
    (λ e. comma-goes closer one t ts (same _ _ e))
    (λ e. as-after (closed-ends closer one (t ∷ ts)))

last-goes : (closer : Shape) → Stands (One closer) → (xs : List Token) → Closing xs (after_last closer xs) There (ClosedBy closer)
unfolding after_last
last-goes closer one [] = choosing (takes_comma closer && false) (λ e. absurd (let f = and-right (takes_comma closer) false e in cc)) (λ e. closed-ends closer one [])
last-goes closer one (t ∷ ts) = choosing (takes_comma closer && same_shape (shape_of t.kind) shape.Comma)
    (λ e. headed-closing t (closingly (closed-goes closer one ts) (λ last us zs h.
    (h.second.0, comma-closed closer t us us (last ∷ zs) (same _ _ (and-right (takes_comma closer) _ e)) (and-left _ _ e) (Closed us) (before-last h)))))
    (λ e. closed-ends closer one (t ∷ ts))

-- after an argument of this order
abbrev pub AfterArgument : Shape → Order → List Token → Option Span → List Token → Type 0
AfterArgument closer given xs (Some place) ys = Ended xs ys (ClosedBy closer)
AfterArgument closer given xs None ys = Reach xs ys (Seq (One shape.Comma) Gap) × (is_block given ≡ false)

pub after-argument-goes : (closer : Shape) → Stands (One closer) → (given : Order) (xs : List Token) → Goes (after_argument closer given xs) (AfterArgument closer given xs) (λ rest. Completes xs rest (AnyEnd (ClosedBy closer)))
unfolding after_argument
after-argument-goes closer one order.Block xs = goes-as (last-goes closer one xs) (elim [ Some place ↦ λ ys h. h.1 | None ↦ λ ys h. absurd h.0 ]) (λ rest r. r)
after-argument-goes closer one order.Positional xs = goes-as (element-goes closer one xs) (elim [ Some place ↦ λ ys h. h | None ↦ λ ys h. (h, refl) ]) (λ rest r. r)
after-argument-goes closer one order.Keyword xs = goes-as (element-goes closer one xs) (elim [ Some place ↦ λ ys h. h | None ↦ λ ys h. (h, refl) ]) (λ rest r. r)
