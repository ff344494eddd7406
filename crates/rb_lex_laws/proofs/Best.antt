-- The one longest spelling at a place.
use Rattle.std.proofs.Common.{◌≡◌, ℕ, ◌<◌, ◌≤◌, ◌⊎◌, List, ◌∷◌, ◌++◌, length, inl, inr, refl, sym, ap, ◌∙◌, arith}
use Rattle.rb_tree.specs.declared.token.Shape.{Shape}
use Rattle.rb_lex.specs.Words.{word_of}
use Rattle.rb_lex.specs.declared.word.Word.TheVariants as word
use Rattle.rb_rules.specs.Spellings.{Holds, KEYWORDS, FOREIGN_OPERATORS}
use Rattle.rb_rules.specs.Lexes.{IsWord, Spells, IsLongest}
use Rattle.rb_lex_laws.proofs.Lists.{rest-same}
use Rattle.rb_lex_laws.proofs.Rows.{EachRow, at-row, each-by}
use Rattle.rb_lex_laws.proofs.Sorts.{Kind, kind, First, first-of, is_first, is_name, is_sign, first-is, name-is, sign-is}
use Rattle.rb_lex_laws.proofs.Words.{keywords-known, foreign-known}

-- another spelling at the place is shorter, or it is the same
abbrev pub IsSame : Shape → List ℕ → List ℕ → Shape → List ℕ → List ℕ → Type 0
IsSame s w words t v others = (t ≡ s) × (v ≡ w) × (others ≡ words)

pub record Best (past : List Shape) (y : List ℕ) (s : Shape) (w words rest : List ℕ) : Type 0 where
  pub whole : w ++ rest ≡ y
  pub spells : Spells past s w words rest
  pub others : (t : Shape) (v os more : List ℕ) → v ++ more ≡ y → Spells past t v os more → (length v < length w) ⊎ IsSame s w words t v os
  pub own : (v more : List ℕ) → v ++ more ≡ y → Holds v FOREIGN_OPERATORS → length v < length w

pub below-or : (m n : ℕ) → m ≤ n → (m < n) ⊎ (m ≡ n)
below-or m n h = grind arith

pub longest-of : (past : List Shape) (y : List ℕ) (s : Shape) (w words rest : List ℕ) → Best past y s w words rest → IsLongest past s w words rest
longest-of past y s w words rest b =
    record {
      spells = b.spells;
      longest = λ t v os more e h. at-most t v os (b.others t v os more (e ∙ b.whole) h);
      own = λ v more e h. b.own v more (e ∙ b.whole) h;
    }
  where
    at-most : (t : Shape) (v os : List ℕ) → (length v < length w) ⊎ IsSame s w words t v os → length v ≤ length w
    at-most t v os (inl h) = omega arith
    at-most t v os (inr same) = let e = ap length same.1 in omega arith

-- a longest spelling at the place is that one
pub best-same : (past : List Shape) (y : List ℕ) (s : Shape) (w words rest : List ℕ) → Best past y s w words rest → (t : Shape) (v os more : List ℕ) → v ++ more ≡ y → IsLongest past t v os more → IsSame s w words t v os × (more ≡ rest)
best-same past y s w words rest b t v os more e l = by (b.others t v os more e l.spells)
  where
    by : (length v < length w) ⊎ IsSame s w words t v os → IsSame s w words t v os × (more ≡ rest)
    by (inl h) = let most = l.longest s w words rest (b.whole ∙ sym e) b.spells in absurd (omega arith)
    by (inr same) = (same, rest-same v more w rest (e ∙ sym b.whole) (ap length same.1))

-- ---- first characters

abbrev SignFirst : List ℕ → Type 0
SignFirst w = First w Kind.Sign

foreign-first : EachRow SignFirst FOREIGN_OPERATORS
foreign-first = each-by SignFirst (is_first is_sign) (first-is is_sign Kind.Sign sign-is) FOREIGN_OPERATORS refl

-- no operator outside the profile stands where another kind of character does
pub no-foreign : {X : Type 0} (v more : List ℕ) (c : ℕ) (u : List ℕ) (k : Kind) → Holds v FOREIGN_OPERATORS → v ++ more ≡ c ∷ u → kind c ≡ k → (Kind.Sign ≡ k → ⊥) → X
no-foreign v more c u k h e is other = absurd (other (sym (first-of v more Kind.Sign (at-row SignFirst v FOREIGN_OPERATORS foreign-first h) c u e) ∙ is))

-- ---- words

abbrev NameFirst : Shape × List ℕ → Type 0
NameFirst row = First row.1 Kind.Name

keyword-first : EachRow NameFirst KEYWORDS
keyword-first = each-by NameFirst (λ row. is_first is_name row.1) (λ row. first-is is_name Kind.Name name-is row.1) KEYWORDS refl

pub keyword-begins : (s : Shape) (w : List ℕ) → Holds (s, w) KEYWORDS → First w Kind.Name
keyword-begins s w h = at-row NameFirst (s, w) KEYWORDS keyword-first h

pub free-word : (w : List ℕ) → word_of w ≡ word.Free → ¬ IsWord w
free-word w e (inl row) = let k = keywords-known row.0 w row.1 in absurd (cc)
free-word w e (inr h) = let k = foreign-known w h in absurd (cc)

pub one-keyword : (s t : Shape) (w : List ℕ) → Holds (s, w) KEYWORDS → Holds (t, w) KEYWORDS → s ≡ t
one-keyword s t w h k = let e = keywords-known s w h in let f = keywords-known t w k in cc
