-- Which spellings can begin with a character.
use Rattle.std.proofs.Common.{◌≡◌, ℕ, ◌⊎◌, Bool, true, false, ◌==◌, ◌||◌, if◌then◌else◌, List, [], ◌∷◌, ◌++◌, inl, inr, refl, sym, ap, subst, ◌∙◌, arith}
use Rattle.std.proofs.lemmas.Grind.{common_steps}
use Rattle.std.proofs.lemmas.Bool.Decides.{nat_tests}
use Rattle.rb_tree.specs.declared.token.Shape.{Shape}
use Rattle.rb_tree.specs.declared.token.Shape.TheVariants as shape
use Rattle.rb_lex.specs.Chars.{is_in, begins_name, is_upper}
use Rattle.rb_lex.specs.declared.chars.Set.TheVariants as set
use Rattle.rb_rules.specs.Spellings.{Begins, Holds, IsNamed, IsIdentifier, IsConstant, IsSymbolName, AreDigits, IsWhole, IsFloat, KEYWORDS, OPERATORS, METHOD_OPERATORS}
use Rattle.rb_rules.specs.Spellings.IsIdentifier.{Plain, Asking, Shouting}
use Rattle.rb_rules.specs.Spellings.AreDigits.{One, More, Parted}
use Rattle.rb_rules.specs.Spellings.IsWhole.{Zero, Decimal, Hexadecimal, Binary, Octal}
use Rattle.rb_rules.specs.Spellings.IsFloat.{Fraction}
use Rattle.rb_rules.specs.Before.{IsAfterDot, NamesMethod}
use Rattle.rb_rules.specs.Lexes.{IsWord, Spells}
use Rattle.rb_lex_laws.proofs.Lists.{if-true, if-false, head-same, or-either}
use Rattle.rb_lex_laws.proofs.Rows.{EachRow, at-row, each-by}

pub data Kind : Type 0 where
  Name : Kind
  Constant : Kind
  Digit : Kind
  Colon : Kind
  Variable : Kind
  Semicolon : Kind
  Sign : Kind

abbrev pub kind : ℕ → Kind
kind c =
    if begins_name c then Kind.Name
    else (if is_upper c then Kind.Constant
    else (if is_in set.Decimal c then Kind.Digit
    else (if c == 58 then Kind.Colon else (if c == 64 then Kind.Variable else (if c == 59 then Kind.Semicolon else Kind.Sign)))))

-- ---- the spellings of a kind

pub data NameLike (past : List Shape) : Shape → List ℕ → List ℕ → List ℕ → Type 0 where
  Identifier : (w rest : List ℕ) → IsIdentifier w rest → (IsAfterDot past ⊎ ¬ IsWord w) → NameLike past shape.Identifier w w rest
  Keyword : (s : Shape) (w rest : List ℕ) → IsIdentifier w rest → Holds (s, w) KEYWORDS → ¬ IsAfterDot past → NameLike past s w [] rest
  Label : (w rest : List ℕ) → IsIdentifier w (58 ∷ rest) → ¬ Begins 58 rest → NameLike past shape.Label (w ++ 58 ∷ []) w rest

pub data ConstantLike (past : List Shape) : Shape → List ℕ → List ℕ → List ℕ → Type 0 where
  Constant : (w rest : List ℕ) → IsConstant w → (IsAfterDot past ⊎ ¬ IsWord w) → ConstantLike past shape.Constant w w rest
  Label : (w rest : List ℕ) → IsConstant w → ¬ Begins 58 rest → ConstantLike past shape.Label (w ++ 58 ∷ []) w rest

pub data NumberLike : Shape → List ℕ → List ℕ → List ℕ → Type 0 where
  Whole : (w rest : List ℕ) → IsWhole w → NumberLike shape.Whole w w rest
  Float : (w rest : List ℕ) → IsFloat w → NumberLike shape.Float w w rest

pub data ColonLike : Shape → List ℕ → List ℕ → List ℕ → Type 0 where
  Symbol : (w rest : List ℕ) → IsSymbolName w rest → ColonLike shape.Symbol (58 ∷ w) w rest
  Operator : (s : Shape) (w rest : List ℕ) → Holds (s, w) OPERATORS → ColonLike s w [] rest

pub data VariableLike : Shape → List ℕ → List ℕ → List ℕ → Type 0 where
  Variable : (w rest : List ℕ) → IsNamed begins_name w → VariableLike shape.InstanceVariable (64 ∷ w) w rest

pub data SemicolonLike : Shape → List ℕ → List ℕ → List ℕ → Type 0 where
  Semicolon : (rest : List ℕ) → SemicolonLike shape.Separator (59 ∷ []) [] rest

pub data SignLike (past : List Shape) : Shape → List ℕ → List ℕ → List ℕ → Type 0 where
  Operator : (s : Shape) (w rest : List ℕ) → Holds (s, w) OPERATORS → SignLike past s w [] rest
  Method : (s : Shape) (w rest : List ℕ) → NamesMethod past → Holds (s, w) METHOD_OPERATORS → SignLike past s w [] rest

abbrev pub Sorted : List Shape → Shape → List ℕ → List ℕ → List ℕ → Kind → Type 0
Sorted past s w words rest Kind.Name = NameLike past s w words rest
Sorted past s w words rest Kind.Constant = ConstantLike past s w words rest
Sorted past s w words rest Kind.Digit = NumberLike s w words rest
Sorted past s w words rest Kind.Colon = ColonLike s w words rest
Sorted past s w words rest Kind.Variable = VariableLike s w words rest
Sorted past s w words rest Kind.Semicolon = SemicolonLike s w words rest
Sorted past s w words rest Kind.Sign = SignLike past s w words rest

-- ---- kinds of first characters

pub kind-name : (c : ℕ) → begins_name c ≡ true → kind c ≡ Kind.Name
kind-name c h = if-true (begins_name c) Kind.Name _ h

pub upper-lower : (c : ℕ) → is_upper c ≡ true → begins_name c ≡ false
upper-lower c h = grind (arith, nat_tests, common_steps)

digit-lower : (c : ℕ) → is_in set.Decimal c ≡ true → begins_name c ≡ false
digit-lower c h = grind (arith, nat_tests, common_steps)

digit-upper : (c : ℕ) → is_in set.Decimal c ≡ true → is_upper c ≡ false
digit-upper c h = grind (arith, nat_tests, common_steps)

pub kind-constant : (c : ℕ) → is_upper c ≡ true → kind c ≡ Kind.Constant
kind-constant c h = if-false (begins_name c) Kind.Name _ (upper-lower c h) ∙ if-true (is_upper c) Kind.Constant _ h

pub kind-digit : (c : ℕ) → is_in set.Decimal c ≡ true → kind c ≡ Kind.Digit
kind-digit c h =
    if-false (begins_name c) Kind.Name _ (digit-lower c h) ∙ if-false (is_upper c) Kind.Constant _ (digit-upper c h)
    ∙ if-true (is_in set.Decimal c) Kind.Digit _ h

-- ---- the first character of a spelling

pub record First (w : List ℕ) (k : Kind) : Type 0 where
  pub first : ℕ
  pub others : List ℕ
  pub whole : w ≡ first ∷ others
  pub kind_is : kind first ≡ k

pub first-of : (w more : List ℕ) (k : Kind) → First w k → (c : ℕ) (u : List ℕ) → w ++ more ≡ c ∷ u → kind c ≡ k
first-of w more k f c u e =
    let same : f.first ∷ (f.others ++ more) ≡ c ∷ u = sym (ap (λ z. z ++ more) f.whole) ∙ e in
    ap kind (sym (head-same f.first c (f.others ++ more) u same)) ∙ f.kind_is

named-first : (test : ℕ → Bool) (k : Kind) (w : List ℕ) → ((c : ℕ) → test c ≡ true → kind c ≡ k) → IsNamed test w → First w k
named-first test k [] by h = absurd h
named-first test k (c ∷ w) by h = record { first = c; others = w; whole = refl; kind_is = by c h.0 }

pub more-first : (w v : List ℕ) (k : Kind) → First w k → First (w ++ v) k
more-first w v k f = record { first = f.first; others = f.others ++ v; whole = ap (λ z. z ++ v) f.whole; kind_is = f.kind_is }

pub identifier-first : (w rest : List ℕ) → IsIdentifier w rest → First w Kind.Name
identifier-first w _ (Plain _ rest h) = named-first begins_name Kind.Name w kind-name h
identifier-first _ _ (Asking w rest h free) = more-first w (63 ∷ []) Kind.Name (named-first begins_name Kind.Name w kind-name h)
identifier-first _ _ (Shouting w rest h free) = more-first w (33 ∷ []) Kind.Name (named-first begins_name Kind.Name w kind-name h)

pub constant-first : (w : List ℕ) → IsConstant w → First w Kind.Constant
constant-first w h = named-first is_upper Kind.Constant w kind-constant h

digits-first : (w : List ℕ) → AreDigits (is_in set.Decimal) w → First w Kind.Digit
digits-first _ (One d h) = record { first = d; others = []; whole = refl; kind_is = kind-digit d h }
digits-first _ (More d w h more) = record { first = d; others = w; whole = refl; kind_is = kind-digit d h }
digits-first _ (Parted d w h more) = record { first = d; others = 95 ∷ w; whole = refl; kind_is = kind-digit d h }

pub whole-first : (w : List ℕ) → IsWhole w → First w Kind.Digit
whole-first _ Zero = record { first = 48; others = []; whole = refl; kind_is = refl }
whole-first _ (Decimal d w free h) = digits-first (d ∷ w) h
whole-first _ (Hexadecimal w h) = record { first = 48; others = 120 ∷ w; whole = refl; kind_is = refl }
whole-first _ (Binary w h) = record { first = 48; others = 98 ∷ w; whole = refl; kind_is = refl }
whole-first _ (Octal w h) = record { first = 48; others = 111 ∷ w; whole = refl; kind_is = refl }

pub float-first : (w : List ℕ) → IsFloat w → First w Kind.Digit
float-first _ (Fraction a b e ha hb he) = more-first (a ++ 46 ∷ b) e Kind.Digit (more-first a (46 ∷ b) Kind.Digit (digits-first a ha))

-- ---- first characters by tests

abbrev pub is_name : Kind → Bool
is_name Kind.Name = true
is_name _ = false

abbrev pub is_colon : Kind → Bool
is_colon Kind.Colon = true
is_colon _ = false

abbrev pub is_sign : Kind → Bool
is_sign Kind.Sign = true
is_sign _ = false

pub name-is : (k : Kind) → is_name k ≡ true → k ≡ Kind.Name
name-is Kind.Name e = refl
name-is _ e = absurd (cc)

pub colon-is : (k : Kind) → is_colon k ≡ true → k ≡ Kind.Colon
colon-is Kind.Colon e = refl
colon-is _ e = absurd (cc)

pub sign-is : (k : Kind) → is_sign k ≡ true → k ≡ Kind.Sign
sign-is Kind.Sign e = refl
sign-is _ e = absurd (cc)

-- the test passes the kind of the first character
abbrev pub is_first : (Kind → Bool) → List ℕ → Bool
is_first test [] = false
is_first test (c ∷ w) = test (kind c)

pub first-is : (test : Kind → Bool) (k : Kind) → ((j : Kind) → test j ≡ true → j ≡ k) → (w : List ℕ) → is_first test w ≡ true → First w k
first-is test k told [] e = absurd (cc)
first-is test k told (c ∷ w) e = record { first = c; others = w; whole = refl; kind_is = told (kind c) e }

-- an operator begins with `:`, or with a character that begins nothing else
abbrev pub SignFirst : Shape × List ℕ → Type 0
SignFirst row = (c : ℕ) × (w : List ℕ) × (row.1 ≡ c ∷ w) × ((kind c ≡ Kind.Colon) ⊎ (kind c ≡ Kind.Sign))

abbrev pub MethodFirst : Shape × List ℕ → Type 0
MethodFirst row = (c : ℕ) × (w : List ℕ) × (row.1 ≡ c ∷ w) × (kind c ≡ Kind.Sign)

pub sign-rows : EachRow SignFirst OPERATORS
sign-rows = each-by SignFirst (λ row. is_first (λ k. is_colon k || is_sign k) row.1) (λ row. either row.1) OPERATORS refl
  where
    either : (w : List ℕ) → is_first (λ k. is_colon k || is_sign k) w ≡ true → (c : ℕ) × (v : List ℕ) × (w ≡ c ∷ v) × ((kind c ≡ Kind.Colon) ⊎ (kind c ≡ Kind.Sign))
    either [] e = absurd (cc)
    either (c ∷ v) e = (c, v, refl, which (or-either (is_colon (kind c)) (is_sign (kind c)) e))
      where
        which : (is_colon (kind c) ≡ true) ⊎ (is_sign (kind c) ≡ true) → (kind c ≡ Kind.Colon) ⊎ (kind c ≡ Kind.Sign)
        which (inl h) = inl (colon-is (kind c) h)
        which (inr h) = inr (sign-is (kind c) h)

pub method-rows : EachRow MethodFirst METHOD_OPERATORS
method-rows = ((45, 64 ∷ [], refl, refl), ((43, 64 ∷ [], refl, refl), ((91, 93 ∷ [], refl, refl), ((91, 93 ∷ 61 ∷ [], refl, refl), tt))))

-- ---- each spelling is one of the kind of its first character

abbrev Goes : List Shape → Shape → List ℕ → List ℕ → List ℕ → Type 0
Goes past s w words rest = (c : ℕ) (u : List ℕ) → w ++ rest ≡ c ∷ u → Sorted past s w words rest (kind c)

goes : (past : List Shape) (s : Shape) (w words rest : List ℕ) (k : Kind) → First w k → Sorted past s w words rest k → Goes past s w words rest
goes past s w words rest k f h c u e = subst (Sorted past s w words rest) (sym (first-of w rest k f c u e)) h

operator-by : (past : List Shape) (s : Shape) (w rest : List ℕ) (c : ℕ) (v : List ℕ) → w ≡ c ∷ v → (kind c ≡ Kind.Colon) ⊎ (kind c ≡ Kind.Sign) → Holds (s, w) OPERATORS → Goes past s w [] rest
operator-by past s w rest c v e (inl k) h = goes past s w [] rest Kind.Colon (record { first = c; others = v; whole = e; kind_is = k }) (ColonLike.Operator s w rest h)
operator-by past s w rest c v e (inr k) h = goes past s w [] rest Kind.Sign (record { first = c; others = v; whole = e; kind_is = k }) (SignLike.Operator s w rest h)

operator-goes : (past : List Shape) (s : Shape) (w rest : List ℕ) → Holds (s, w) OPERATORS → Goes past s w [] rest
operator-goes past s w rest h = let row = at-row SignFirst (s, w) OPERATORS sign-rows h in operator-by past s w rest row.0 row.1 row.2 row.3 h

method-goes : (past : List Shape) (s : Shape) (w rest : List ℕ) → NamesMethod past → Holds (s, w) METHOD_OPERATORS → Goes past s w [] rest
method-goes past s w rest names h =
    let row = at-row MethodFirst (s, w) METHOD_OPERATORS method-rows h in
    goes past s w [] rest Kind.Sign (record { first = row.0; others = row.1; whole = row.2; kind_is = row.3 }) (SignLike.Method s w rest names h)

pub sorted : (past : List Shape) (s : Shape) (w words rest : List ℕ) → Spells past s w words rest → Goes past s w words rest
sorted past _ _ _ _ (Spells.Identifier w rest id free) = goes past shape.Identifier w w rest Kind.Name (identifier-first w rest id) (NameLike.Identifier w rest id free)
sorted past _ _ _ _ (Spells.Constant w rest h free) = goes past shape.Constant w w rest Kind.Constant (constant-first w h) (ConstantLike.Constant w rest h free)
sorted past _ _ _ _ (Spells.Keyword s w rest id row dot) = goes past s w [] rest Kind.Name (identifier-first w rest id) (NameLike.Keyword s w rest id row dot)
sorted past _ _ _ _ (Spells.InstanceVariable w rest h) =
    goes past shape.InstanceVariable (64 ∷ w) w rest Kind.Variable (record { first = 64; others = w; whole = refl; kind_is = refl }) (VariableLike.Variable w rest h)
sorted past _ _ _ _ (Spells.Label w rest (inl id) free) =
    goes past shape.Label (w ++ 58 ∷ []) w rest Kind.Name (more-first w (58 ∷ []) Kind.Name (identifier-first w (58 ∷ rest) id)) (NameLike.Label w rest id free)
sorted past _ _ _ _ (Spells.Label w rest (inr h) free) =
    goes past shape.Label (w ++ 58 ∷ []) w rest Kind.Constant (more-first w (58 ∷ []) Kind.Constant (constant-first w h)) (ConstantLike.Label w rest h free)
sorted past _ _ _ _ (Spells.Symbol w rest h) =
    goes past shape.Symbol (58 ∷ w) w rest Kind.Colon (record { first = 58; others = w; whole = refl; kind_is = refl }) (ColonLike.Symbol w rest h)
sorted past _ _ _ _ (Spells.Whole w rest h) = goes past shape.Whole w w rest Kind.Digit (whole-first w h) (NumberLike.Whole w rest h)
sorted past _ _ _ _ (Spells.Float w rest h) = goes past shape.Float w w rest Kind.Digit (float-first w h) (NumberLike.Float w rest h)
sorted past _ _ _ _ (Spells.Semicolon rest) =
    goes past shape.Separator (59 ∷ []) [] rest Kind.Semicolon (record { first = 59; others = []; whole = refl; kind_is = refl }) (SemicolonLike.Semicolon rest)
sorted past _ _ _ _ (Spells.Operator s w rest h) = operator-goes past s w rest h
sorted past _ _ _ _ (Spells.MethodOperator s w rest names h) = method-goes past s w rest names h

-- a spelling before what begins with a character of a kind is of that kind
pub of-kind : (past : List Shape) (s : Shape) (w words rest : List ℕ) (c : ℕ) (u : List ℕ) (k : Kind) → Spells past s w words rest → w ++ rest ≡ c ∷ u → kind c ≡ k → Sorted past s w words rest k
of-kind past s w words rest c u k h e is = subst (Sorted past s w words rest) is (sorted past s w words rest h c u e)
