-- Paths of constants and superclasses that are read derive.
use Rattle.std.proofs.Common.{◌≡◌, ℕ, zero, suc, Bool, true, false, List, [], ◌∷◌, ◌++◌, Some, None, refl, sym, ap, subst, ◌∙◌, append_assoc}
use Rattle.srb_terms.specs.declared.span.Span.{Span}
use Rattle.rb_tree.specs.declared.syntax.PlacedName.{PlacedName}
use Rattle.rb_tree.specs.declared.syntax.Reference.{Reference}
use Rattle.rb_tree.specs.declared.token.Token.{Token}
use Rattle.rb_tree.specs.declared.token.TokenKind.{TokenKind}
use Rattle.rb_tree.specs.declared.token.TokenKind.TheVariants as kind
use Rattle.rb_tree.specs.declared.token.Shape.TheVariants as shape
use Rattle.rb_expr.specs.Reading.{sees, after}
use Rattle.rb_decl.specs.Names as spec
use Rattle.rb_decl.specs.Names.{goes_on, path_from, path, start_at, end_at, end_of, short_reference, top_reference, reference, superclass}
use Rattle.rb_rules.specs.Tokens.{Is, IsConstant}
use Rattle.rb_rules.specs.Spans.{last_of}
use Rattle.rb_rules.specs.Grammar.{Path, Superclass}
use Rattle.rb_rules.specs.Grammar.Path.{LastName, MoreNames}
use Rattle.rb_rules.specs.Grammar.Superclass.{NoSuperclass, Named, NamedFromTop}
use Rattle.rb_grammar.proofs.Steps.{Holds, answered, refused, step, weaker, choosing, taking, testing, seen, Within, within-self, within-token, within-more}
use Rattle.rb_grammar.proofs.Lists.{and-left, and-right, last-got}

-- a constant: it may be the last of a path, or `::` may follow
abbrev AConstant : List Token → PlacedName → List Token → Type 0
AConstant xs n ys = ((long : Bool) → Path long (n ∷ []) xs ys) × ((c : Token) (ps zs : List Token) (more : List PlacedName) → ys ≡ c ∷ ps → Is shape.Scope c → Path true more ps zs → Path true (n ∷ more) xs zs) × Within xs ys

a-constant : (t : Token) (words : List ℕ) (ts : List Token) → IsConstant t words → AConstant (t ∷ ts) (record { name = words; span = t.span }) ts
a-constant t words ts is = (
  (λ long. LastName _ _ _ _ is),
  (λ c ps zs more e scope h. subst (λ ys. Path true (record { name = words; span = t.span } ∷ more) (t ∷ ys) zs) (sym e) (MoreNames _ _ _ _ _ _ is scope h)),
  within-token t (within-self _),
)

constant-at : (k : TokenKind) (s : Span) (ts : List Token) → Holds (spec.constant (record { kind = k; span = s } ∷ ts)) (AConstant (record { kind = k; span = s } ∷ ts))
unfolding spec.constant
constant-at (kind.Constant words) s ts = answered (AConstant (record { kind = kind.Constant words; span = s } ∷ ts)) (record { name = words; span = s }) ts (a-constant (record { kind = kind.Constant words; span = s }) words ts refl)
constant-at k s ts = refused _ _

constant-holds : (xs : List Token) → Holds (spec.constant xs) (AConstant xs)
unfolding spec.constant
constant-holds [] = refused _ _
constant-holds (t ∷ ts) = constant-at t.kind t.span ts

-- names from here on, after those found
abbrev NameRow : Bool → List PlacedName → List Token → List PlacedName → List Token → Type 0
NameRow long found xs r ys = (n : PlacedName) × (more : List PlacedName) × (r ≡ found ++ n ∷ more) × Path long (n ∷ more) xs ys × Within xs ys

path-by : (long : Bool) (n : ℕ) (found : List PlacedName) (xs : List Token) → Holds (path_from long n found xs) (NameRow long found xs)
unfolding path_from
path-by long zero found xs = refused _ _
path-by long (suc n) found xs = step (constant-holds xs) (λ x ps h. choosing (goes_on long ps)
    (λ e. let s = seen shape.Scope ps (and-right _ _ e) in
    let more' = and-left _ _ e in
    weaker (path-by long n (found ++ x ∷ []) (after ps)) (λ r ys m. (
      x,
      m.0 ∷ m.1,
      m.2 ∙ append_assoc found (x ∷ []) (m.0 ∷ m.1),
      subst (λ b. Path b (x ∷ m.0 ∷ m.1) xs ys) (sym more') (h.1 _ _ _ _ s.2 s.1 (subst (λ b. Path b (m.0 ∷ m.1) (after ps) ys) more' m.3)),
      within-more (subst (λ us. Within xs us) s.2 h.2) (within-token s.0 m.4),
    )))
    (λ e. answered (NameRow long found xs) (found ++ x ∷ []) ps (x, [], refl, h.0 long, h.2)))

pub path-holds : (d : ℕ) (long : Bool) (xs : List Token) → Holds (path d long xs) (λ names ys. Path long names xs ys × Within xs ys)
unfolding path
path-holds d long xs = weaker (path-by long d [] xs) (λ r ys m. (subst (λ names. Path long names xs ys) (sym m.2) m.3, m.4))

long-holds : (d : ℕ) (xs : List Token) → Holds (path d true xs) (NameRow true [] xs)
unfolding path
long-holds d xs = path-by true d [] xs

end-same : (n : PlacedName) (more : List PlacedName) → end_of (n ∷ more) ≡ ((last_of n more).span).end
end-same n more = ap end_at (last-got n more)

-- what stands after the `<` of a class
abbrev Above : List Token → Reference → List Token → Type 0
Above xs r ys = ((l : Token) → Is shape.Less l → Superclass (Some r) (l ∷ xs) ys) × Within xs ys

short-made : (xs ys : List Token) (names : List PlacedName) → NameRow true [] xs names ys → Above xs (short_reference names) ys
short-made xs ys names m = subst (λ names. Above xs (short_reference names) ys) (sym m.2)
    ((λ l is. subst (λ e. Superclass (Some (record { top = false; path = m.0 ∷ m.1; span = record { start = m.0.span.start; end = e } })) (l ∷ xs) ys) (sym (end-same m.0 m.1)) (Named _ _ _ _ _ is m.3)), m.4)

top-made : (c : Token) (xs ys : List Token) (names : List PlacedName) → Is shape.Scope c → NameRow true [] xs names ys → Above (c ∷ xs) (top_reference c.span names) ys
top-made c xs ys names scope m = subst (λ names. Above (c ∷ xs) (top_reference c.span names) ys) (sym m.2)
    ((λ l is. subst (λ e. Superclass (Some (record { top = true; path = m.0 ∷ m.1; span = record { start = c.span.start; end = e } })) (l ∷ c ∷ xs) ys) (sym (end-same m.0 m.1)) (NamedFromTop _ _ _ _ _ _ is scope m.3)), within-token c m.4)

reference-holds : (d : ℕ) (xs : List Token) → Holds (reference d xs) (Above xs)
unfolding reference
reference-holds d xs = choosing (sees shape.Scope xs)
    (λ e. taking shape.Scope Above _ xs (λ c cs is. step (long-holds d cs) (λ names ys m. answered (Above (c ∷ cs)) _ ys (top-made c cs ys names is m))))
    (λ e. step (long-holds d xs) (λ names ys m. answered (Above xs) _ ys (short-made xs ys names m)))

pub superclass-holds : (d : ℕ) (xs : List Token) → Holds (superclass d xs) (λ o ys. Superclass o xs ys × Within xs ys)
unfolding superclass
superclass-holds d [] = answered (λ o ys. Superclass o [] ys × Within [] ys) None [] (NoSuperclass _, within-self _)
superclass-holds d (t ∷ ts) = testing
    (λ is. step (reference-holds d ts) (λ r ys h. answered (λ o ys. Superclass o (t ∷ ts) ys × Within (t ∷ ts) ys) (Some r) ys (h.0 t is, within-token t h.1)))
    (λ other. answered (λ o ys. Superclass o (t ∷ ts) ys × Within (t ∷ ts) ys) None (t ∷ ts) (NoSuperclass _, within-self _))
