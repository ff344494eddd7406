-- What the tokens before a place say about it: the shapes against what the lexer keeps of them.
use Rattle.std.proofs.Common.{◌≡◌, ℕ, ◌⊎◌, Bool, true, false, ◌&&◌, ◌||◌, if◌then◌else◌, List, [], ◌∷◌, inl, inr, refl, sym, ap, subst, ◌∙◌, ◌↔◌}
use denote.Enum.Bare.{same_true, true_same}
use Rattle.rb_tree.specs.contracts.token.Shape.{the_type}
use Rattle.rb_tree.specs.Tokens.{same_shape}
use Rattle.rb_tree.specs.declared.token.Shape.{Shape}
use Rattle.rb_tree.specs.declared.token.Shape.TheVariants as shape
use Rattle.rb_lex.specs.Cuts.{is_operand_end, names_method, is_after_dot, is_opener as opens, is_name, is_constant, after_self, after_dot, is_closing}
use Rattle.rb_lex.specs.declared.cut.Before.{Before}
use Rattle.rb_lex.specs.declared.cut.Before.TheVariants as before
use Rattle.rb_rules.specs.Spellings.{Holds, OPERATORS, METHOD_OPERATORS}
use Rattle.rb_rules.specs.Before.{IsAfter, IsOperandEnd, IsAfterName, IsAfterConstant, IsAfterDot, NamesMethod, is_opener, has_bars, Keeps}
use Rattle.rb_rules.specs.Before.NamesMethod.{Def, DefSelf}
use Rattle.rb_rules.specs.Before.Keeps.{Other, Closing, Named, Bars}
use Rattle.rb_lex_laws.proofs.Lists.{or-either, left-or, right-or, and-both, no-both, false-of}
use Rattle.rb_lex_laws.proofs.Rows.{EachRow, at-row}

-- ---- shapes

pub same-is : (s t : Shape) → same_shape s t ≡ true → s ≡ t
unfolding same_shape
same-is s t h = same_true the_type tt s t h

pub is-same : (s t : Shape) → s ≡ t → same_shape s t ≡ true
unfolding same_shape
is-same s t h = true_same the_type s t h

abbrev pub held : Shape → List Shape → Bool
held s [] = false
held s (t ∷ ts) = same_shape s t || held s ts

pub held-holds : (s : Shape) (ts : List Shape) → held s ts ≡ true → Holds s ts
held-holds s [] h = absurd (cc)
held-holds s (t ∷ ts) h = by (or-either (same_shape s t) (held s ts) h) (held-holds s ts)
  where
    by : (same_shape s t ≡ true) ⊎ (held s ts ≡ true) → (held s ts ≡ true → Holds s ts) → Holds s (t ∷ ts)
    by (inl e) more = inl (same-is s t e)
    by (inr e) more = inr (more e)

pub holds-held : (s : Shape) (ts : List Shape) → Holds s ts → held s ts ≡ true
holds-held s [] h = absurd h
holds-held s (t ∷ ts) (inl e) = left-or (same_shape s t) (held s ts) (is-same s t e)
holds-held s (t ∷ ts) (inr h) = right-or (same_shape s t) (held s ts) (holds-held s ts h)

-- ---- what a shape says after the tokens before it

abbrev pub before_after : Before → Shape → Before
before_after b shape.Identifier = before.Name
before_after b shape.Constant = before.Constant
before_after b shape.InstanceVariable = before.Operand
before_after b shape.Symbol = before.Operand
before_after b shape.Whole = before.Operand
before_after b shape.Float = before.Operand
before_after b shape.Text = before.Operand
before_after b shape.CloseParen = before.Operand
before_after b shape.CloseBracket = before.Operand
before_after b shape.CloseBrace = before.Operand
before_after b shape.End = before.Operand
before_after b shape.Nil = before.Operand
before_after b shape.True = before.Operand
before_after b shape.False = before.Operand
before_after b shape.Yield = before.Name
before_after b shape.Super = before.Name
before_after b shape.Def = before.Def
before_after b shape.SelfWord = after_self b
before_after b shape.Do = before.Opener
before_after b shape.OpenBrace = before.Opener
before_after b shape.SafeDot = before.Dot
before_after b shape.Dot = after_dot b
before_after b _ = before.Plain

abbrev pub before_of : List Shape → Before
before_of [] = before.Plain
before_of (s ∷ past) = before_after (before_of past) s

-- a question on what is kept is one on the newest shape
abbrev pub OPERAND_ENDS : List Shape
OPERAND_ENDS =
    shape.Identifier ∷ shape.Constant ∷ shape.InstanceVariable ∷ shape.Symbol ∷ shape.Whole ∷ shape.Float ∷ shape.Text
    ∷ shape.CloseParen ∷ shape.CloseBracket ∷ shape.CloseBrace ∷ shape.End ∷ shape.SelfWord ∷ shape.Nil ∷ shape.True ∷ shape.False
    ∷ shape.Yield ∷ shape.Super ∷ []

self-end : (b : Before) → is_operand_end (after_self b) ≡ true
self-end before.Def = refl
self-end _ = refl

dot-end : (b : Before) → is_operand_end (after_dot b) ≡ false
dot-end before.DefSelf = refl
dot-end _ = refl

end-by : (b : Before) (s : Shape) → is_operand_end (before_after b s) ≡ held s OPERAND_ENDS
unfolding same_shape
end-by b shape.SelfWord = self-end b
end-by b shape.Dot = dot-end b
end-by b _ = refl

-- ---- what is asked of the newest token

asked : (f : Before → Bool) (ts : List Shape) → f before.Plain ≡ false → ((b : Before) (s : Shape) → f (before_after b s) ≡ held s ts) → (past : List Shape) → (f (before_of past) ≡ true) ↔ IsAfter ts past
asked f ts none by [] = (λ h. no-both (f before.Plain) h none, λ h. absurd h)
asked f ts none by (s ∷ past) = (λ h. held-holds s ts (sym (by (before_of past) s) ∙ h), λ h. by (before_of past) s ∙ holds-held s ts h)

pub ends-asked : (past : List Shape) → (is_operand_end (before_of past) ≡ true) ↔ IsOperandEnd past
ends-asked = asked is_operand_end OPERAND_ENDS refl end-by

self-name : (b : Before) → is_name (after_self b) ≡ false
self-name before.Def = refl
self-name _ = refl

dot-name : (b : Before) → is_name (after_dot b) ≡ false
dot-name before.DefSelf = refl
dot-name _ = refl

name-by : (b : Before) (s : Shape) → is_name (before_after b s) ≡ held s (shape.Identifier ∷ shape.Yield ∷ shape.Super ∷ [])
unfolding same_shape
name-by b shape.SelfWord = self-name b
name-by b shape.Dot = dot-name b
name-by b _ = refl

pub name-asked : (past : List Shape) → (is_name (before_of past) ≡ true) ↔ IsAfterName past
name-asked = asked is_name (shape.Identifier ∷ shape.Yield ∷ shape.Super ∷ []) refl name-by

self-constant : (b : Before) → is_constant (after_self b) ≡ false
self-constant before.Def = refl
self-constant _ = refl

dot-constant : (b : Before) → is_constant (after_dot b) ≡ false
dot-constant before.DefSelf = refl
dot-constant _ = refl

constant-by : (b : Before) (s : Shape) → is_constant (before_after b s) ≡ held s (shape.Constant ∷ [])
unfolding same_shape
constant-by b shape.SelfWord = self-constant b
constant-by b shape.Dot = dot-constant b
constant-by b _ = refl

pub constant-asked : (past : List Shape) → (is_constant (before_of past) ≡ true) ↔ IsAfterConstant past
constant-asked = asked is_constant (shape.Constant ∷ []) refl constant-by

self-dot : (b : Before) → is_after_dot (after_self b) ≡ false
self-dot before.Def = refl
self-dot _ = refl

dot-dot : (b : Before) → is_after_dot (after_dot b) ≡ true
dot-dot before.DefSelf = refl
dot-dot _ = refl

dot-by : (b : Before) (s : Shape) → is_after_dot (before_after b s) ≡ held s (shape.Dot ∷ shape.SafeDot ∷ [])
unfolding same_shape
dot-by b shape.SelfWord = self-dot b
dot-by b shape.Dot = dot-dot b
dot-by b _ = refl

pub dot-asked : (past : List Shape) → (is_after_dot (before_of past) ≡ true) ↔ IsAfterDot past
dot-asked = asked is_after_dot (shape.Dot ∷ shape.SafeDot ∷ []) refl dot-by

self-opens : (b : Before) → opens (after_self b) ≡ false
self-opens before.Def = refl
self-opens _ = refl

dot-opens : (b : Before) → opens (after_dot b) ≡ false
dot-opens before.DefSelf = refl
dot-opens _ = refl

opens-by : (b : Before) (s : Shape) → opens (before_after b s) ≡ (same_shape s shape.OpenBrace || same_shape s shape.Do)
unfolding same_shape
opens-by b shape.SelfWord = self-opens b
opens-by b shape.Dot = dot-opens b
opens-by b _ = refl

pub opens-asked : (past : List Shape) → opens (before_of past) ≡ is_opener past
opens-asked [] = refl
opens-asked (s ∷ past) = opens-by (before_of past) s

-- ---- a method's name

self-self : (b : Before) → names_method (after_dot (after_self (after_self b))) ≡ false
self-self before.Def = refl
self-self _ = refl

self-dotted : (b : Before) → names_method (after_dot (after_self (after_dot b))) ≡ false
self-dotted before.DefSelf = refl
self-dotted _ = refl

dot-dotted : (b : Before) → names_method (after_dot (after_dot b)) ≡ false
dot-dotted before.DefSelf = refl
dot-dotted _ = refl

self-names : (b : Before) → names_method (after_self b) ≡ false
self-names before.Def = refl
self-names _ = refl

-- whether the newest shape is `def`
abbrev is_def : List Shape → Bool
is_def [] = false
is_def (s ∷ past) = same_shape s shape.Def

def-by : (b : Before) (s : Shape) → names_method (after_dot (after_self (before_after b s))) ≡ same_shape s shape.Def
unfolding same_shape
def-by b shape.SelfWord = self-self b
def-by b shape.Dot = self-dotted b
def-by b _ = refl

abbrev is_def_self : List Shape → Bool
is_def_self [] = false
is_def_self (s ∷ past) = same_shape s shape.SelfWord && is_def past

def-of : (past : List Shape) → names_method (after_dot (after_self (before_of past))) ≡ is_def past
def-of [] = refl
def-of (s ∷ past) = def-by (before_of past) s

def_self-by : (b : Before) (d : Bool) (s : Shape) → names_method (after_dot (after_self b)) ≡ d → names_method (after_dot (before_after b s)) ≡ (same_shape s shape.SelfWord && d)
unfolding same_shape
def_self-by b d shape.SelfWord e = e
def_self-by b d shape.Dot e = dot-dotted b
def_self-by b d _ e = refl

def_self-of : (past : List Shape) → names_method (after_dot (before_of past)) ≡ is_def_self past
def_self-of [] = refl
def_self-of (s ∷ past) = def_self-by (before_of past) (is_def past) s (def-of past)

names-by : (b : Before) (d : Bool) (s : Shape) → names_method (after_dot b) ≡ d → names_method (before_after b s) ≡ (same_shape s shape.Def || (same_shape s shape.Dot && d))
unfolding same_shape
names-by b d shape.SelfWord e = self-names b
names-by b d shape.Dot e = e
names-by b d _ e = refl

is_def-is : (past : List Shape) → is_def past ≡ true → NamesMethod (shape.Dot ∷ shape.SelfWord ∷ past)
is_def-is [] h = absurd (cc)
is_def-is (s ∷ past) h = subst (λ (t : Shape). NamesMethod (shape.Dot ∷ shape.SelfWord ∷ t ∷ past)) (sym (same-is s shape.Def h)) (DefSelf past)

is_def_self-is : (past : List Shape) → is_def_self past ≡ true → NamesMethod (shape.Dot ∷ past)
is_def_self-is [] h = absurd (cc)
is_def_self-is (s ∷ past) h =
    let both = and-both (same_shape s shape.SelfWord) (is_def past) h in
    subst (λ (t : Shape). NamesMethod (shape.Dot ∷ t ∷ past)) (sym (same-is s shape.SelfWord both.0)) (is_def-is past both.1)

names-is : (past : List Shape) → names_method (before_of past) ≡ true → NamesMethod past
names-is [] h = absurd (cc)
names-is (s ∷ past) h = by (or-either (same_shape s shape.Def) (same_shape s shape.Dot && is_def_self past) (sym (names-by (before_of past) (is_def_self past) s (def_self-of past)) ∙ h))
  where
    by : (same_shape s shape.Def ≡ true) ⊎ ((same_shape s shape.Dot && is_def_self past) ≡ true) → NamesMethod (s ∷ past)
    by (inl e) = subst (λ (t : Shape). NamesMethod (t ∷ past)) (sym (same-is s shape.Def e)) (Def past)
    by (inr e) =
        let both = and-both (same_shape s shape.Dot) (is_def_self past) e in
        subst (λ (t : Shape). NamesMethod (t ∷ past)) (sym (same-is s shape.Dot both.0)) (is_def_self-is past both.1)

is-names : (past : List Shape) → NamesMethod past → names_method (before_of past) ≡ true
is-names _ (Def past) = refl
is-names _ (DefSelf past) = refl

pub names-asked : (past : List Shape) → (names_method (before_of past) ≡ true) ↔ NamesMethod past
names-asked past = (names-is past, is-names past)

-- ---- a line's end

abbrev pub shapes_of : List (Shape × List ℕ) → List Shape
shapes_of [] = []
shapes_of (row ∷ rows) = row.0 ∷ shapes_of rows

abbrev pub keeps_after : Bool → Bool → Shape → Bool
keeps_after names bars s =
    if same_shape s shape.Label then false
    else (if held s (shapes_of OPERATORS) then (is_closing s || names) || (same_shape s shape.Pipe && bars) else true)

abbrev pub keeps_of : List Shape → Bool
keeps_of [] = false
keeps_of (s ∷ past) = keeps_after (names_method (before_of past)) (has_bars past) s

row-of : (s : Shape) (rows : List (Shape × List ℕ)) → Holds s (shapes_of rows) → (w : List ℕ) × Holds (s, w) rows
row-of s [] h = absurd h
row-of s (row ∷ rows) (inl e) = (row.1, inl (pair e))
  where
    pair : s ≡ row.0 → let p : Shape × List ℕ = (s, row.1) in p ≡ row
    pair e = ap (λ t. let p : Shape × List ℕ = (t, row.1) in p) e
row-of s (row ∷ rows) (inr h) = let found = row-of s rows h in (found.0, inr found.1)

pub of-row : (s : Shape) (w : List ℕ) (rows : List (Shape × List ℕ)) → Holds (s, w) rows → Holds s (shapes_of rows)
of-row s w [] h = absurd h
of-row s w (row ∷ rows) (inl e) = inl (ap (λ (p : Shape × List ℕ). p.0) e)
of-row s w (row ∷ rows) (inr h) = inr (of-row s w rows h)

closing-held : (s : Shape) → is_closing s ≡ true → Holds s (shape.CloseParen ∷ shape.CloseBracket ∷ shape.CloseBrace ∷ [])
closing-held s h = held-holds s (shape.CloseParen ∷ shape.CloseBracket ∷ shape.CloseBrace ∷ []) (last ∙ h)
  where
    drop-false : (a b c : Bool) → (a || (b || (c || false))) ≡ (a || b || c)
    drop-false true b c = refl
    drop-false false true c = refl
    drop-false false false true = refl
    drop-false false false false = refl

    last : held s (shape.CloseParen ∷ shape.CloseBracket ∷ shape.CloseBrace ∷ []) ≡ is_closing s
    last = drop-false (same_shape s shape.CloseParen) (same_shape s shape.CloseBracket) (same_shape s shape.CloseBrace)

keeps-is : (past : List Shape) → keeps_of past ≡ true → Keeps past
keeps-is [] h = absurd (cc)
keeps-is (s ∷ past) h = at-label (same_shape s shape.Label) refl h
  where
    closes : Holds s (shapes_of OPERATORS) → (is_closing s ≡ true) ⊎ (names_method (before_of past) ≡ true) → Keeps (s ∷ past)
    closes op (inl c) = Closing s past (closing-held s c)
    closes op (inr n) = let row = row-of s OPERATORS op in Named s row.0 past (names-is past n) (inl row.1)

    at-end : (((is_closing s || names_method (before_of past)) ≡ true) ⊎ ((same_shape s shape.Pipe && has_bars past) ≡ true)) → Holds s (shapes_of OPERATORS) → Keeps (s ∷ past)
    at-end (inl e) op = closes op (or-either (is_closing s) (names_method (before_of past)) e)
    at-end (inr e) op =
        let both = and-both (same_shape s shape.Pipe) (has_bars past) e in
        subst (λ (t : Shape). Keeps (t ∷ past)) (sym (same-is s shape.Pipe both.0)) (Bars past both.1)

    at-operator : (t : Bool) → held s (shapes_of OPERATORS) ≡ t → same_shape s shape.Label ≡ false → (if t then (is_closing s || names_method (before_of past)) || (same_shape s shape.Pipe && has_bars past) else true) ≡ true → Keeps (s ∷ past)
    at-operator true e l k = at-end (or-either (is_closing s || names_method (before_of past)) (same_shape s shape.Pipe && has_bars past) k) (held-holds s (shapes_of OPERATORS) e)
    at-operator false e l k =
        Other s past (λ same. no-both (same_shape s shape.Label) (is-same s shape.Label same) l) (λ w row. no-both (held s (shapes_of OPERATORS)) (holds-held s (shapes_of OPERATORS) (of-row s w OPERATORS row)) e)

    at-label : (t : Bool) → same_shape s shape.Label ≡ t → (if t then false else (if held s (shapes_of OPERATORS) then (is_closing s || names_method (before_of past)) || (same_shape s shape.Pipe && has_bars past) else true)) ≡ true → Keeps (s ∷ past)
    at-label true e k = absurd (cc)
    at-label false e k = at-operator (held s (shapes_of OPERATORS)) refl e k

named-rows : EachRow (λ (row : Shape × List ℕ). (bars : Bool) → keeps_after true bars row.0 ≡ true) OPERATORS
unfolding same_shape
named-rows = (λ bars. refl, (λ bars. refl, (λ bars. refl, (λ bars. refl, (λ bars. refl, (λ bars. refl, (λ bars. refl, (λ bars. refl, (λ bars. refl, (λ bars. refl, (λ bars. refl, (λ bars. refl, (λ bars. refl, (λ bars. refl, (λ bars. refl, (λ bars. refl, (λ bars. refl, (λ bars. refl, (λ bars. refl, (λ bars. refl, (λ bars. refl, (λ bars. refl, (λ bars. refl, (λ bars. refl, (λ bars. refl, (λ bars. refl, (λ bars. refl, (λ bars. refl, (λ bars. refl, (λ bars. refl, (λ bars. refl, (λ bars. refl, (λ bars. refl, (λ bars. refl, (λ bars. refl, (λ bars. refl, (λ bars. refl, (λ bars. refl, (λ bars. refl, (λ bars. refl, (λ bars. refl, (λ bars. refl, (λ bars. refl, (λ bars. refl, (λ bars. refl, (λ bars. refl, (λ bars. refl, (λ bars. refl, (λ bars. refl, (λ bars. refl, tt))))))))))))))))))))))))))))))))))))))))))))))))))

named-methods : EachRow (λ (row : Shape × List ℕ). (bars : Bool) → keeps_after true bars row.0 ≡ true) METHOD_OPERATORS
unfolding same_shape
named-methods = (λ bars. refl, (λ bars. refl, (λ bars. refl, (λ bars. refl, tt))))

bars-keep : (names : Bool) → keeps_after names true shape.Pipe ≡ true
unfolding same_shape
bars-keep true = refl
bars-keep false = refl

closing-keep : (names bars : Bool) (s : Shape) → Holds s (shape.CloseParen ∷ shape.CloseBracket ∷ shape.CloseBrace ∷ []) → keeps_after names bars s ≡ true
unfolding same_shape
closing-keep names bars s (inl e) = ap (keeps_after names bars) e
closing-keep names bars s (inr (inl e)) = ap (keeps_after names bars) e
closing-keep names bars s (inr (inr (inl e))) = ap (keeps_after names bars) e
closing-keep names bars s (inr (inr (inr h))) = absurd h

pub other-keeps : (names bars : Bool) (s : Shape) → same_shape s shape.Label ≡ false → held s (shapes_of OPERATORS) ≡ false → keeps_after names bars s ≡ true
other-keeps names bars s l o =
    ap (λ t. if t then false else (if held s (shapes_of OPERATORS) then (is_closing s || names) || (same_shape s shape.Pipe && bars) else true)) l
    ∙ ap (λ t. if t then (is_closing s || names) || (same_shape s shape.Pipe && bars) else true) o

is-keeps : (past : List Shape) → Keeps past → keeps_of past ≡ true
is-keeps _ (Other s past label operator) =
    other-keeps (names_method (before_of past)) (has_bars past) s (false-of (same_shape s shape.Label) (λ e. label (same-is s shape.Label e)))
    (false-of (held s (shapes_of OPERATORS)) (λ e. let row = row-of s OPERATORS (held-holds s (shapes_of OPERATORS) e) in operator row.0 row.1))
is-keeps _ (Closing s past h) = closing-keep (names_method (before_of past)) (has_bars past) s h
is-keeps _ (Named s w past names (inl row)) =
    ap (λ t. keeps_after t (has_bars past) s) (is-names past names) ∙ at-row (λ (r : Shape × List ℕ). (bars : Bool) → keeps_after true bars r.0 ≡ true) (s, w) OPERATORS named-rows row (has_bars past)
is-keeps _ (Named s w past names (inr row)) =
    ap (λ t. keeps_after t (has_bars past) s) (is-names past names) ∙ at-row (λ (r : Shape × List ℕ). (bars : Bool) → keeps_after true bars r.0 ≡ true) (s, w) METHOD_OPERATORS named-methods row (has_bars past)
is-keeps _ (Bars past e) = ap (λ t. keeps_after (names_method (before_of past)) t shape.Pipe) e ∙ bars-keep (names_method (before_of past))

pub keeps-asked : (past : List Shape) → (keeps_of past ≡ true) ↔ Keeps past
keeps-asked past = (keeps-is past, is-keeps past)
