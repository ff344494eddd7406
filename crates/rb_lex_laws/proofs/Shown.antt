-- What begins at a place outside strings, and what the lexer's step answers there.
use Rattle.std.proofs.Common.{◌≡◌, ℕ, ◌^◌, ◌<◌, ◌⊎◌, Bool, true, false, not, ◌&&◌, ◌||◌, List, [], ◌∷◌, ◌++◌, length, inl, refl, sym, ap, subst, ◌∙◌}
use Rattle.std.specs.Prelude.{slice_index}
use Rattle.rb_tree.specs.Tokens.{same_shape, plain_kind}
use Rattle.rb_tree.specs.declared.token.Shape.{Shape}
use Rattle.rb_tree.specs.declared.token.Shape.TheVariants as shape
use Rattle.rb_lex.specs.Chars.{is_letter, is_spaced}
use Rattle.rb_lex.specs.Cuts.{names_method, is_operand_end, is_constant, begins_here_document, is_name, is_strange_opening, is_ambiguous, is_outside, is_bad, after_keyword, after_operator, is_closing}
use Rattle.rb_lex.specs.Lexed.{words_of, kind_of}
use Rattle.rb_lex.specs.declared.cut.Before.{Before}
use Rattle.rb_lex.specs.declared.cut.Look.{Look}
use Rattle.rb_lex.specs.declared.cut.Lexeme.{Lexeme}
use Rattle.rb_lex.specs.declared.cut.Cut.{Cut}
use Rattle.rb_lex.specs.declared.cut.Cut.TheVariants as cuts
use Rattle.rb_rules.specs.Spellings.{Holds, KEYWORDS, OPERATORS, METHOD_OPERATORS}
use Rattle.rb_rules.specs.Numerals.{value_of}
use Rattle.rb_rules.specs.Lexes.{Spells, IsForeign}
use Rattle.rb_lex_laws.proofs.Lists.{no-both}
use Rattle.rb_lex_laws.proofs.Past.{before_after, before_of, keeps_after, held, holds-held}
use Rattle.rb_lex_laws.proofs.Best.{Best}
use Rattle.rb_lex_laws.proofs.Rows.{EachRow, at-row}

abbrev pub NUMBERS : List Shape
NUMBERS = shape.Whole ∷ shape.Float ∷ []

-- the token breaks no rule
pub record Passes (look : Look) (s : Shape) (w rest : List ℕ) : Type 0 where
  pub inside : is_outside look s rest ≡ false
  pub good : is_bad look s rest ≡ false
  pub apart : Holds s NUMBERS → is_letter (slice_index rest 0) ≡ false
  pub small : s ≡ shape.Whole → value_of w < 2 ^ 128

-- what it says about the next one
pub record Says (past : List Shape) (s : Shape) (x : Lexeme) : Type 0 where
  pub before_is : x.before ≡ before_after (before_of past) s
  pub keeps_is : (bars : Bool) → (x.keeps || (same_shape s shape.Pipe && bars)) ≡ keeps_after (names_method (before_of past)) bars s

pub data Shown (past : List Shape) (look : Look) (y : List ℕ) : Cut → Type 0 where
  Token : (x : Lexeme) (w words rest : List ℕ) → Best past y x.shape w words rest → x.len ≡ length w → kind_of x.shape (words_of x.shape x.len y) ≡ kind_of x.shape words → Says past x.shape x → Passes look x.shape w rest → Shown past look y (cuts.Token x)
  Alien : IsForeign past look.is_blank look.is_fresh y → Shown past look y cuts.Outside
  Refused : (s : Shape) (w rest : List ℕ) → (Holds (s, w) OPERATORS ⊎ Holds (s, w) METHOD_OPERATORS) → Best past y s w [] rest → is_outside look s rest ≡ false → is_bad look s rest ≡ true → Shown past look y cuts.Bad
  Nothing : ((s : Shape) (w words rest : List ℕ) → w ++ rest ≡ y → ¬ Spells past s w words rest) → Shown past look y cuts.Bad

-- ---- shapes of which no rule speaks

abbrev pub judges : Shape → Bool
judges s = is_ambiguous s || same_shape s shape.Question || same_shape s shape.OpenParen

inside-by : (st e n sh bl hd q sp op c b : Bool) → st ≡ false → sh ≡ false → q ≡ false → op ≡ false → ((st && not e && not n) || (sh && e && bl && hd) || (q && (not e || not sp)) || (op && c && not b)) ≡ false
inside-by st e n sh bl hd q sp op c b h1 h2 h3 h4 =
    ap (λ t. ((t && not e && not n) || (sh && e && bl && hd) || (q && (not e || not sp)) || (op && c && not b))) h1
    ∙ ap (λ t. ((false && not e && not n) || (t && e && bl && hd) || (q && (not e || not sp)) || (op && c && not b))) h2
    ∙ ap (λ t. ((false && not e && not n) || (false && e && bl && hd) || (t && (not e || not sp)) || (op && c && not b))) h3
    ∙ ap (λ t. ((false && not e && not n) || (false && e && bl && hd) || (false && (not e || not sp)) || (t && c && not b))) h4

good-by : (n bl op am sp : Bool) → op ≡ false → am ≡ false → (n && bl && (op || (am && not sp))) ≡ false
good-by true true op am sp h1 h2 = ap (λ t. (t || (am && not sp))) h1 ∙ ap (λ t. (t && not sp)) h2
good-by true false op am sp h1 h2 = refl
good-by false true op am sp h1 h2 = refl
good-by false false op am sp h1 h2 = refl

-- the parts of a sum of tests
five : (a b c d e : Bool) → (a || b || c || d || e) ≡ false → (a ≡ false) × (b ≡ false) × (c ≡ false) × (d ≡ false) × (e ≡ false)
five true b c d e h = absurd (cc)
five false true c d e h = absurd (cc)
five false false true d e h = absurd (cc)
five false false false true e h = absurd (cc)
five false false false false true h = absurd (cc)
five false false false false false h = (refl, refl, refl, refl, refl)

three : (a b c : Bool) → (a || b || c) ≡ false → (a ≡ false) × (b ≡ false) × (c ≡ false)
three true b c h = absurd (cc)
three false true c h = absurd (cc)
three false false true h = absurd (cc)
three false false false h = (refl, refl, refl)

six : (a b c d e f : Bool) → (a || b || c || d || e || f) ≡ false → f ≡ false
six true b c d e f h = absurd (cc)
six false true c d e f h = absurd (cc)
six false false true d e f h = absurd (cc)
six false false false true e f h = absurd (cc)
six false false false false true f h = absurd (cc)
six false false false false false f h = h

strange-of : (s : Shape) → is_ambiguous s ≡ false → is_strange_opening s ≡ false
strange-of s h = six (same_shape s shape.Minus) (same_shape s shape.Plus) (same_shape s shape.Ampersand) (same_shape s shape.OpenBracket) (same_shape s shape.Scope) (is_strange_opening s) h

shift-of : (s : Shape) → is_strange_opening s ≡ false → same_shape s shape.ShiftLeft ≡ false
shift-of s h = (five (same_shape s shape.Slash) (same_shape s shape.Percent) (same_shape s shape.Star) (same_shape s shape.Power) (same_shape s shape.ShiftLeft) h).4

-- no rule speaks of it
pub record Quiet (s : Shape) : Type 0 where
  pub judged : judges s ≡ false
  pub number : held s NUMBERS ≡ false

pub quiet-inside : (look : Look) (s : Shape) (rest : List ℕ) → judges s ≡ false → is_outside look s rest ≡ false
quiet-inside look s rest h =
    let p = three (is_ambiguous s) (same_shape s shape.Question) (same_shape s shape.OpenParen) h in
    let st = strange-of s p.0 in
    inside-by (is_strange_opening s) (is_operand_end look.before) (names_method look.before) (same_shape s shape.ShiftLeft) look.is_blank (begins_here_document rest) (same_shape s shape.Question) (is_spaced rest) (same_shape s shape.OpenParen) (is_constant look.before) look.is_blank st (shift-of s st) p.1 p.2

pub quiet-good : (look : Look) (s : Shape) (rest : List ℕ) → judges s ≡ false → is_bad look s rest ≡ false
quiet-good look s rest h =
    let p = three (is_ambiguous s) (same_shape s shape.Question) (same_shape s shape.OpenParen) h in
    good-by (is_name look.before) look.is_blank (same_shape s shape.OpenParen) (is_ambiguous s) (is_spaced rest) p.2 p.0

pub quiet-passes : (look : Look) (s : Shape) (w rest : List ℕ) → Quiet s → Passes look s w rest
quiet-passes look s w rest q =
    record {
      inside = quiet-inside look s rest q.judged;
      good = quiet-good look s rest q.judged;
      apart = λ h. no-both (held s NUMBERS) (holds-held s NUMBERS h) q.number;
      small = λ e. no-both (held s NUMBERS) (holds-held s NUMBERS (inl e)) q.number;
    }

pub number-passes : (look : Look) (s : Shape) (w rest : List ℕ) → judges s ≡ false → is_letter (slice_index rest 0) ≡ false → (s ≡ shape.Whole → value_of w < 2 ^ 128) → Passes look s w rest
number-passes look s w rest j apart small =
    record { inside = quiet-inside look s rest j; good = quiet-good look s rest j; apart = λ h. apart; small = small }

-- ---- what keywords and operators say

keyword-quiet : EachRow (λ (row : Shape × List ℕ). Quiet row.0) KEYWORDS
unfolding same_shape
keyword-quiet = (record { judged = refl; number = refl }, (record { judged = refl; number = refl }, (record { judged = refl; number = refl }, (record { judged = refl; number = refl }, (record { judged = refl; number = refl }, (record { judged = refl; number = refl }, (record { judged = refl; number = refl }, (record { judged = refl; number = refl }, (record { judged = refl; number = refl }, (record { judged = refl; number = refl }, (record { judged = refl; number = refl }, (record { judged = refl; number = refl }, (record { judged = refl; number = refl }, (record { judged = refl; number = refl }, (record { judged = refl; number = refl }, (record { judged = refl; number = refl }, (record { judged = refl; number = refl }, (record { judged = refl; number = refl }, (record { judged = refl; number = refl }, (record { judged = refl; number = refl }, (record { judged = refl; number = refl }, (record { judged = refl; number = refl }, (record { judged = refl; number = refl }, (record { judged = refl; number = refl }, (record { judged = refl; number = refl }, (record { judged = refl; number = refl }, tt))))))))))))))))))))))))))

pub keywords-quiet : (s : Shape) (w : List ℕ) → Holds (s, w) KEYWORDS → Quiet s
keywords-quiet s w h = at-row (λ (row : Shape × List ℕ). Quiet row.0) (s, w) KEYWORDS keyword-quiet h

keyword-before : EachRow (λ (row : Shape × List ℕ). (b : Before) → after_keyword b row.0 ≡ before_after b row.0) KEYWORDS
unfolding same_shape
keyword-before = ((λ b. refl), ((λ b. refl), ((λ b. refl), ((λ b. refl), ((λ b. refl), ((λ b. refl), ((λ b. refl), ((λ b. refl), ((λ b. refl), ((λ b. refl), ((λ b. refl), ((λ b. refl), ((λ b. refl), ((λ b. refl), ((λ b. refl), ((λ b. refl), ((λ b. refl), ((λ b. refl), ((λ b. refl), ((λ b. refl), ((λ b. refl), ((λ b. refl), ((λ b. refl), ((λ b. refl), ((λ b. refl), ((λ b. refl), tt))))))))))))))))))))))))))

keyword-keeps : EachRow (λ (row : Shape × List ℕ). (names bars : Bool) → true ≡ keeps_after names bars row.0) KEYWORDS
unfolding same_shape
keyword-keeps = ((λ names bars. refl), ((λ names bars. refl), ((λ names bars. refl), ((λ names bars. refl), ((λ names bars. refl), ((λ names bars. refl), ((λ names bars. refl), ((λ names bars. refl), ((λ names bars. refl), ((λ names bars. refl), ((λ names bars. refl), ((λ names bars. refl), ((λ names bars. refl), ((λ names bars. refl), ((λ names bars. refl), ((λ names bars. refl), ((λ names bars. refl), ((λ names bars. refl), ((λ names bars. refl), ((λ names bars. refl), ((λ names bars. refl), ((λ names bars. refl), ((λ names bars. refl), ((λ names bars. refl), ((λ names bars. refl), ((λ names bars. refl), tt))))))))))))))))))))))))))

pub keyword-says : (past : List Shape) (s : Shape) (w : List ℕ) (n : ℕ) → Holds (s, w) KEYWORDS → Says past s (record { shape = s; len = n; before = after_keyword (before_of past) s; keeps = true })
keyword-says past s w n h =
    record {
      before_is = at-row (λ (row : Shape × List ℕ). (b : Before) → after_keyword b row.0 ≡ before_after b row.0) (s, w) KEYWORDS keyword-before h (before_of past);
      keeps_is = λ bars. at-row (λ (row : Shape × List ℕ). (names bars : Bool) → true ≡ keeps_after names bars row.0) (s, w) KEYWORDS keyword-keeps h (names_method (before_of past)) bars;
    }

operator-before : EachRow (λ (row : Shape × List ℕ). (b : Before) → after_operator b row.0 ≡ before_after b row.0) OPERATORS
unfolding same_shape
operator-before = ((λ b. refl), ((λ b. refl), ((λ b. refl), ((λ b. refl), ((λ b. refl), ((λ b. refl), ((λ b. refl), ((λ b. refl), ((λ b. refl), ((λ b. refl), ((λ b. refl), ((λ b. refl), ((λ b. refl), ((λ b. refl), ((λ b. refl), ((λ b. refl), ((λ b. refl), ((λ b. refl), ((λ b. refl), ((λ b. refl), ((λ b. refl), ((λ b. refl), ((λ b. refl), ((λ b. refl), ((λ b. refl), ((λ b. refl), ((λ b. refl), ((λ b. refl), ((λ b. refl), ((λ b. refl), ((λ b. refl), ((λ b. refl), ((λ b. refl), ((λ b. refl), ((λ b. refl), ((λ b. refl), ((λ b. refl), ((λ b. refl), ((λ b. refl), ((λ b. refl), ((λ b. refl), ((λ b. refl), ((λ b. refl), ((λ b. refl), ((λ b. refl), ((λ b. refl), ((λ b. refl), ((λ b. refl), ((λ b. refl), ((λ b. refl), tt))))))))))))))))))))))))))))))))))))))))))))))))))

method-before : EachRow (λ (row : Shape × List ℕ). (b : Before) → after_operator b row.0 ≡ before_after b row.0) METHOD_OPERATORS
unfolding same_shape
method-before = ((λ b. refl), ((λ b. refl), ((λ b. refl), ((λ b. refl), tt))))

operator-keeps : EachRow (λ (row : Shape × List ℕ). (names bars : Bool) → ((is_closing row.0 || names) || (same_shape row.0 shape.Pipe && bars)) ≡ keeps_after names bars row.0) OPERATORS
unfolding same_shape
operator-keeps = ((λ names bars. refl), ((λ names bars. refl), ((λ names bars. refl), ((λ names bars. refl), ((λ names bars. refl), ((λ names bars. refl), ((λ names bars. refl), ((λ names bars. refl), ((λ names bars. refl), ((λ names bars. refl), ((λ names bars. refl), ((λ names bars. refl), ((λ names bars. refl), ((λ names bars. refl), ((λ names bars. refl), ((λ names bars. refl), ((λ names bars. refl), ((λ names bars. refl), ((λ names bars. refl), ((λ names bars. refl), ((λ names bars. refl), ((λ names bars. refl), ((λ names bars. refl), ((λ names bars. refl), ((λ names bars. refl), ((λ names bars. refl), ((λ names bars. refl), ((λ names bars. refl), ((λ names bars. refl), ((λ names bars. refl), ((λ names bars. refl), ((λ names bars. refl), ((λ names bars. refl), ((λ names bars. refl), ((λ names bars. refl), ((λ names bars. refl), ((λ names bars. refl), ((λ names bars. refl), ((λ names bars. refl), ((λ names bars. refl), ((λ names bars. refl), ((λ names bars. refl), ((λ names bars. refl), ((λ names bars. refl), ((λ names bars. refl), ((λ names bars. refl), ((λ names bars. refl), ((λ names bars. refl), ((λ names bars. refl), ((λ names bars. refl), tt))))))))))))))))))))))))))))))))))))))))))))))))))

method-keeps : EachRow (λ (row : Shape × List ℕ). (bars : Bool) → ((is_closing row.0 || true) || (same_shape row.0 shape.Pipe && bars)) ≡ keeps_after true bars row.0) METHOD_OPERATORS
unfolding same_shape
method-keeps = ((λ bars. refl), ((λ bars. refl), ((λ bars. refl), ((λ bars. refl), tt))))

pub operator-says : (past : List Shape) (s : Shape) (w : List ℕ) (n : ℕ) → Holds (s, w) OPERATORS → Says past s (record { shape = s; len = n; before = after_operator (before_of past) s; keeps = is_closing s || names_method (before_of past) })
operator-says past s w n h =
    record {
      before_is = at-row (λ (row : Shape × List ℕ). (b : Before) → after_operator b row.0 ≡ before_after b row.0) (s, w) OPERATORS operator-before h (before_of past);
      keeps_is = λ bars. at-row (λ (row : Shape × List ℕ). (names bars : Bool) → ((is_closing row.0 || names) || (same_shape row.0 shape.Pipe && bars)) ≡ keeps_after names bars row.0) (s, w) OPERATORS operator-keeps h (names_method (before_of past)) bars;
    }

pub method-says : (past : List Shape) (s : Shape) (w : List ℕ) (n : ℕ) → names_method (before_of past) ≡ true → Holds (s, w) METHOD_OPERATORS → Says past s (record { shape = s; len = n; before = after_operator (before_of past) s; keeps = is_closing s || names_method (before_of past) })
method-says past s w n names h =
    record {
      before_is = at-row (λ (row : Shape × List ℕ). (b : Before) → after_operator b row.0 ≡ before_after b row.0) (s, w) METHOD_OPERATORS method-before h (before_of past);
      keeps_is = λ bars. subst (λ t. ((is_closing s || t) || (same_shape s shape.Pipe && bars)) ≡ keeps_after t bars s) (sym names)
          (at-row (λ (row : Shape × List ℕ). (bars : Bool) → ((is_closing row.0 || true) || (same_shape row.0 shape.Pipe && bars)) ≡ keeps_after true bars row.0) (s, w) METHOD_OPERATORS method-keeps h bars);
    }

-- the kind of a keyword or an operator carries no words
abbrev IsMute : Shape × List ℕ → Type 0
IsMute row = (v : List ℕ) → kind_of row.0 v ≡ kind_of row.0 []

keyword-mute : EachRow IsMute KEYWORDS
unfolding kind_of plain_kind
keyword-mute = ((λ v. refl), ((λ v. refl), ((λ v. refl), ((λ v. refl), ((λ v. refl), ((λ v. refl), ((λ v. refl), ((λ v. refl), ((λ v. refl), ((λ v. refl), ((λ v. refl), ((λ v. refl), ((λ v. refl), ((λ v. refl), ((λ v. refl), ((λ v. refl), ((λ v. refl), ((λ v. refl), ((λ v. refl), ((λ v. refl), ((λ v. refl), ((λ v. refl), ((λ v. refl), ((λ v. refl), ((λ v. refl), ((λ v. refl), tt))))))))))))))))))))))))))

operator-mute : EachRow IsMute OPERATORS
unfolding kind_of plain_kind
operator-mute = ((λ v. refl), ((λ v. refl), ((λ v. refl), ((λ v. refl), ((λ v. refl), ((λ v. refl), ((λ v. refl), ((λ v. refl), ((λ v. refl), ((λ v. refl), ((λ v. refl), ((λ v. refl), ((λ v. refl), ((λ v. refl), ((λ v. refl), ((λ v. refl), ((λ v. refl), ((λ v. refl), ((λ v. refl), ((λ v. refl), ((λ v. refl), ((λ v. refl), ((λ v. refl), ((λ v. refl), ((λ v. refl), ((λ v. refl), ((λ v. refl), ((λ v. refl), ((λ v. refl), ((λ v. refl), ((λ v. refl), ((λ v. refl), ((λ v. refl), ((λ v. refl), ((λ v. refl), ((λ v. refl), ((λ v. refl), ((λ v. refl), ((λ v. refl), ((λ v. refl), ((λ v. refl), ((λ v. refl), ((λ v. refl), ((λ v. refl), ((λ v. refl), ((λ v. refl), ((λ v. refl), ((λ v. refl), ((λ v. refl), ((λ v. refl), tt))))))))))))))))))))))))))))))))))))))))))))))))))

method-mute : EachRow IsMute METHOD_OPERATORS
unfolding kind_of plain_kind
method-mute = ((λ v. refl), ((λ v. refl), ((λ v. refl), ((λ v. refl), tt))))

pub keywords-mute : (s : Shape) (w v : List ℕ) → Holds (s, w) KEYWORDS → kind_of s v ≡ kind_of s []
keywords-mute s w v h = at-row IsMute (s, w) KEYWORDS keyword-mute h v

pub operators-mute : (s : Shape) (w v : List ℕ) → Holds (s, w) OPERATORS → kind_of s v ≡ kind_of s []
operators-mute s w v h = at-row IsMute (s, w) OPERATORS operator-mute h v

pub methods-mute : (s : Shape) (w v : List ℕ) → Holds (s, w) METHOD_OPERATORS → kind_of s v ≡ kind_of s []
methods-mute s w v h = at-row IsMute (s, w) METHOD_OPERATORS method-mute h v
