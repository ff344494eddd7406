-- The lexer's state beside what stands before a place.
use Rattle.std.proofs.Common.{◌≡◌, ℕ, ◌+◌, ◌-◌, ◌≤◌, ◌⊎◌, Bool, true, false, not, ◌&&◌, ◌||◌, if◌then◌else◌, List, [], ◌∷◌, ◌++◌, length, take, drop, map, reverse, Option, Some, None, inl, inr, refl, sym, ap, subst, ◌∙◌, length-append, take_all, arith}
use Rattle.std.specs.Prelude.{slice_get, is_some}
use Rattle.std.proofs.lemmas.List.{reverse-append, map-append, take-append-le}
use Rattle.std.proofs.lemmas.List.Folds.{list_any-append}
use Rattle.rb_tree.specs.Tokens.{same_shape, shape_of}
use Rattle.rb_tree.specs.declared.token.Token.{Token}
use Rattle.rb_tree.specs.declared.token.TokenKind.{TokenKind}
use Rattle.rb_tree.specs.declared.token.TokenKind.TheVariants as kind
use Rattle.rb_tree.specs.declared.token.Shape.{Shape}
use Rattle.rb_tree.specs.declared.token.Shape.TheVariants as shape
use Rattle.rb_lex.specs.Cuts.{names_method, is_opener as opens, after_operator}
use Rattle.rb_lex.specs.Lexed.{token_at, pushed, after_line, string_after, closed, nested, entered, blanked, opened, is_inside, START}
use Rattle.rb_lex.specs.declared.cut.Lexeme.{Lexeme}
use Rattle.rb_lex.specs.declared.state.Opened.{Opened}
use Rattle.rb_lex.specs.declared.state.State.{State}
use Rattle.rb_rules.specs.Spellings.{Holds}
use Rattle.rb_rules.specs.Before.{frames, has_bars, Keeps}
use Rattle.rb_rules.specs.Lexes.{Place, past_of, FIRST, passed, Continues, OpenString}
use Rattle.rb_lex_laws.proofs.Lists.{split, no-both, false-of}
use Rattle.rb_lex_laws.proofs.Blanks.{goes_on, continues-on, continues-is}
use Rattle.rb_lex_laws.proofs.Past.{before_of, keeps_of, keeps_after, keeps-asked, opens-asked}
use Rattle.rb_lex_laws.proofs.Shown.{Says}
use Rattle.rb_lex_laws.proofs.Strings.{IsQuote}

-- ---- what is open

pub data Stack : List (Option ℕ) → List Bool → List ℕ → Type 0 where
  Empty : Stack [] [] []
  Brace : (n : List (Option ℕ)) (f : List Bool) (o : List ℕ) → Stack n f o → Stack (n ++ None ∷ []) (false ∷ f) o
  Interpolation : (n : List (Option ℕ)) (f : List Bool) (o : List ℕ) (a : ℕ) → Stack n f o → Stack (n ++ Some a ∷ []) (true ∷ f) (a ∷ o)

-- what is open without the innermost
pub data Popped (n : List (Option ℕ)) (f : List Bool) (o : List ℕ) : Type 0 where
  Plain : Stack (take (length n - 1) n) (drop 1 f) o → ((end : ℕ) → string_after end (slice_get n (length n - 1)) ≡ None) → (take 1 f ≡ true ∷ [] → ⊥) → Popped n f o
  Return : (a : ℕ) (p : List ℕ) → o ≡ a ∷ p → take 1 f ≡ true ∷ [] → Stack (take (length n - 1) n) (drop 1 f) p → ((end : ℕ) → string_after end (slice_get n (length n - 1)) ≡ Some (record { quote = 34; opening = a; from = end })) → Popped n f o

last-len : {A : Type 0} (n : List A) (x : A) → length (n ++ x ∷ []) - 1 ≡ length n
last-len n x = let e = length-append n (x ∷ []) in omega arith

last-get : (n : List (Option ℕ)) (x : Option ℕ) → slice_get (n ++ x ∷ []) (length n) ≡ Some x
last-get [] x = refl
last-get (y ∷ n) x = last-get n x

last-take : (n : List (Option ℕ)) (x : Option ℕ) → take (length n) (n ++ x ∷ []) ≡ n
last-take [] x = refl
last-take (y ∷ n) x = ap (λ z. y ∷ z) (last-take n x)

pub popped : (n : List (Option ℕ)) (f : List Bool) (o : List ℕ) → Stack n f o → Popped n f o
popped _ _ _ Stack.Empty = Popped.Plain Stack.Empty (λ end. refl) (λ e. absurd (cc))
popped _ _ _ (Stack.Brace n f o st) =
    Popped.Plain (subst (λ m. Stack m f o) (sym (ap (λ k. take k (n ++ None ∷ [])) (last-len n None) ∙ last-take n None)) st) (λ end. ap (string_after end) (ap (slice_get (n ++ None ∷ [])) (last-len n None) ∙ last-get n None)) (λ e. absurd (cc))
popped _ _ _ (Stack.Interpolation n f o a st) =
    Popped.Return a o refl refl (subst (λ m. Stack m f o) (sym (ap (λ k. take k (n ++ Some a ∷ [])) (last-len n (Some a)) ∙ last-take n (Some a))) st) (λ end. ap (string_after end) (ap (slice_get (n ++ Some a ∷ [])) (last-len n (Some a)) ∙ last-get n (Some a)))

-- an interpolation is open
pub inside-open : (n : List (Option ℕ)) (f : List Bool) (o : List ℕ) → Stack n f o → is_inside n ≡ true → Holds true f
inside-open _ _ _ Stack.Empty h = absurd (cc)
inside-open _ _ _ (Stack.Brace n f o st) h = inr (inside-open n f o st (no-right (is_inside n) (sym (list_any-append is_some n (None ∷ [])) ∙ h)))
  where
    no-right : (t : Bool) → (t || false) ≡ true → t ≡ true
    no-right true e = refl
    no-right false e = e
inside-open _ _ _ (Stack.Interpolation n f o a st) h = inl refl

pub open-inside : (n : List (Option ℕ)) (f : List Bool) (o : List ℕ) → Stack n f o → Holds true f → is_inside n ≡ true
open-inside _ _ _ Stack.Empty h = absurd h
open-inside _ _ _ (Stack.Brace n f o st) (inl e) = absurd (cc)
open-inside _ _ _ (Stack.Brace n f o st) (inr h) = list_any-append is_some n (None ∷ []) ∙ ap (λ t. t || false) (open-inside n f o st h)
open-inside _ _ _ (Stack.Interpolation n f o a st) h = list_any-append is_some n (Some a ∷ []) ∙ any-right (is_inside n)
  where
    any-right : (t : Bool) → (t || true) ≡ true
    any-right true = refl
    any-right false = refl

-- ---- the state beside a place

-- the tokens before the place are those of the state
pub record InStep (p : Place) (s : State) : Type 0 where
  pub tokens_are : s.tokens ≡ p.tokens
  pub before_is : s.look.before ≡ before_of (past_of p)
  pub keeps_is : s.keeps ≡ keeps_of (past_of p)

-- those before the place are those up to the state's mark: the line goes on, and line ends after the mark are no separators
pub record After (p : Place) (s : State) : Type 0 where
  pub tokens_are : take s.mark s.tokens ≡ p.tokens
  pub last_is : s.last ≡ before_of (past_of p)

-- an open string as the lexer's state holds it
abbrev pub held_as : OpenString → Opened
held_as o = record { quote = o.quote; opening = o.opening; from = o.from }

abbrev pub held_string : Option OpenString → Option Opened
held_string None = None
held_string (Some o) = Some (held_as o)

pub record Matches (p : Place) (s : State) (z : List ℕ) : Type 0 where
  pub string_is : s.string ≡ held_string p.string
  pub quote_is : (o : OpenString) → p.string ≡ Some o → IsQuote o.quote
  pub blank_is : s.look.is_blank ≡ p.blank
  pub fresh_is : s.look.is_fresh ≡ p.start
  pub stack : Stack s.nesting (frames (past_of p)) p.outer
  pub bars_is : s.has_bars ≡ has_bars (past_of p)
  pub mark_in : s.mark ≤ length s.tokens
  pub sync : p.string ≡ None → goes_on false z ≡ false → InStep p s
  pub pend : p.string ≡ None → goes_on false z ≡ true → After p s
  pub inner : (o : OpenString) → p.string ≡ Some o → s.tokens ≡ p.tokens

pub first-matches : (z : List ℕ) → Matches FIRST START z
first-matches z =
    record {
      string_is = refl;
      quote_is = λ o e. absurd (cc);
      blank_is = refl;
      fresh_is = refl;
      stack = Stack.Empty;
      bars_is = refl;
      mark_in = omega arith;
      sync = λ n g. record { tokens_are = refl; before_is = refl; keeps_is = refl };
      pend = λ n g. record { tokens_are = refl; last_is = refl };
      inner = λ o e. refl;
    }

-- ---- blanks and line ends

pub blank-matches : (p : Place) (s : State) (z w rest : List ℕ) (fresh : Bool) → Matches p s z → p.string ≡ None → goes_on false z ≡ goes_on false rest → Matches (passed w fresh p) (blanked fresh s) rest
blank-matches p s z w rest fresh m none same =
    record {
      string_is = m.string_is;
      quote_is = m.quote_is;
      blank_is = refl;
      fresh_is = refl;
      stack = m.stack;
      bars_is = m.bars_is;
      mark_in = m.mark_in;
      sync = λ n g. (let i = m.sync n (same ∙ g) in record { tokens_are = i.tokens_are; before_is = i.before_is; keeps_is = i.keeps_is });
      pend = λ n g. (let b = m.pend n (same ∙ g) in record { tokens_are = b.tokens_are; last_is = b.last_is });
      inner = m.inner;
    }

pub past-push : (ts : List Token) (t : Token) → reverse (map (λ (u : Token). shape_of u.kind) (ts ++ t ∷ [])) ≡ shape_of t.kind ∷ reverse (map (λ (u : Token). shape_of u.kind) ts)
past-push ts t =
    let f : Token → Shape = λ u. shape_of u.kind in
    ap reverse (map-append f ts (t ∷ [])) ∙ reverse-append (map f ts) (shape_of t.kind ∷ [])

-- a line's end that is no separator
pub dropped-matches : (p : Place) (s : State) (rest : List ℕ) → Matches p s (10 ∷ rest) → p.string ≡ None → ((Keeps (past_of p) → ⊥) ⊎ Continues rest) → Matches (passed (10 ∷ []) true p) (after_line p.at s) rest
dropped-matches p s rest m none why =
    split (λ t. Matches (passed (10 ∷ []) true p) t rest) s.keeps _ _
    (λ keeps. record {
      string_is = m.string_is;
      quote_is = m.quote_is;
      blank_is = refl;
      fresh_is = refl;
      stack = m.stack;
      bars_is = m.bars_is;
      mark_in = (let e = length-append s.tokens (token_at kind.Separator p.at (p.at + 1) ∷ []) in let k = m.mark_in in omega arith);
      sync = λ n g. absurd (kept keeps n g why);
      pend = λ n g. (let b = m.pend n g in record { tokens_are = take-append-le s.mark s.tokens (token_at kind.Separator p.at (p.at + 1) ∷ []) m.mark_in ∙ b.tokens_are; last_is = b.last_is });
      inner = λ o e. absurd (no-string o e);
    })
    (λ keeps. record {
      string_is = m.string_is;
      quote_is = m.quote_is;
      blank_is = refl;
      fresh_is = refl;
      stack = m.stack;
      bars_is = m.bars_is;
      mark_in = m.mark_in;
      sync = λ n g. (let i = m.sync n g in record { tokens_are = i.tokens_are; before_is = i.before_is; keeps_is = i.keeps_is });
      pend = λ n g. (let b = m.pend n g in record { tokens_are = b.tokens_are; last_is = b.last_is });
      inner = m.inner;
    })
  where
    no-string : (o : OpenString) → p.string ≡ Some o → ⊥
    no-string o e = let f : None ≡ Some o = sym none ∙ e in absurd (cc)

    kept : s.keeps ≡ true → p.string ≡ None → goes_on false rest ≡ false → ((Keeps (past_of p) → ⊥) ⊎ Continues rest) → ⊥
    kept k n g (inl h) = let i = m.sync n g in h ((keeps-asked (past_of p)).0 (sym i.keeps_is ∙ k))
    kept k n g (inr c) = no-both (goes_on false rest) (continues-on rest c) g

-- a line's end that is a separator
pub kept-matches : (p : Place) (s : State) (rest : List ℕ) → Matches p s (10 ∷ rest) → p.string ≡ None → Keeps (past_of p) → (Continues rest → ⊥) → Matches (passed (10 ∷ []) true (record p { tokens = p.tokens ++ record { kind = kind.Separator; span = record { start = p.at; end = p.at + 1 } } ∷ [] })) (after_line p.at s) rest
unfolding shape_of same_shape
kept-matches p s rest m none keeps free =
    let stop : goes_on false rest ≡ false = false-of (goes_on false rest) (λ e. free (continues-is (length rest) rest (omega arith) e)) in
    let i = m.sync none stop in
    let on : s.keeps ≡ true = i.keeps_is ∙ (keeps-asked (past_of p)).1 keeps in
    let push : reverse (map (λ (u : Token). shape_of u.kind) (p.tokens ++ token_at kind.Separator p.at (p.at + 1) ∷ [])) ≡ shape.Separator ∷ past_of p = past-push p.tokens (token_at kind.Separator p.at (p.at + 1)) in
    split (λ t. Matches (passed (10 ∷ []) true (record p { tokens = p.tokens ++ record { kind = kind.Separator; span = record { start = p.at; end = p.at + 1 } } ∷ [] })) t rest) s.keeps _ _
    (λ k. record {
      string_is = m.string_is;
      quote_is = m.quote_is;
      blank_is = refl;
      fresh_is = refl;
      stack = subst (λ past. Stack s.nesting (frames past) p.outer) (sym push) m.stack;
      bars_is = m.bars_is ∙ ap has_bars (sym push);
      mark_in = (let e = length-append s.tokens (token_at kind.Separator p.at (p.at + 1) ∷ []) in let k = m.mark_in in omega arith);
      sync = λ n g. record { tokens_are = ap (λ ts. ts ++ token_at kind.Separator p.at (p.at + 1) ∷ []) i.tokens_are; before_is = ap before_of (sym push); keeps_is = on ∙ ap keeps_of (sym push) };
      pend = λ n g. no-both (goes_on false rest) g stop;
      inner = λ o e. absurd (no-string o e);
    })
    (λ k. no-both s.keeps on k)
  where
    no-string : (o : OpenString) → p.string ≡ Some o → ⊥
    no-string o e = let f : None ≡ Some o = sym none ∙ e in absurd (cc)

-- ---- strings begin

pub opened-matches : (p : Place) (s : State) (quote : ℕ) (rest : List ℕ) → Matches p s (quote ∷ rest) → p.string ≡ None → IsQuote quote → Matches (record p { at = p.at + 1; string = Some (record { quote = quote; opening = p.at; from = p.at }) }) (opened quote p.at s) rest
opened-matches p s quote rest m none q =
    record {
      string_is = refl;
      quote_is = λ o e. subst IsQuote (ap quote_of e) q;
      blank_is = m.blank_is;
      fresh_is = m.fresh_is;
      stack = m.stack;
      bars_is = m.bars_is;
      mark_in = m.mark_in;
      sync = λ n g. absurd (cc);
      pend = λ n g. absurd (cc);
      inner = λ o e. (m.sync none (stops q)).tokens_are;
    }
  where
    quote_of : Option OpenString → ℕ
    quote_of (Some o) = o.quote
    quote_of None = quote

    stops : IsQuote quote → goes_on false (quote ∷ rest) ≡ false
    stops (inl e) = ap (λ c. goes_on false (c ∷ rest)) e
    stops (inr e) = ap (λ c. goes_on false (c ∷ rest)) e

-- ---- after a token

-- the state directly after a token
pub record Fresh (past : List Shape) (tokens : List Token) (s : State) : Type 0 where
  pub tokens_are : s.tokens ≡ tokens
  pub mark_is : s.mark ≡ length s.tokens
  pub before_is : s.look.before ≡ before_of past
  pub last_is : s.last ≡ before_of past
  pub keeps_is : s.keeps ≡ keeps_of past
  pub bars_is : s.has_bars ≡ has_bars past
  pub blank_is : s.look.is_blank ≡ false
  pub fresh_is : s.look.is_fresh ≡ false

pub fresh-matches : (p : Place) (s : State) (z : List ℕ) → Fresh (past_of p) p.tokens s → p.blank ≡ false → p.start ≡ false → s.string ≡ held_string p.string → ((o : OpenString) → p.string ≡ Some o → IsQuote o.quote) → Stack s.nesting (frames (past_of p)) p.outer → Matches p s z
fresh-matches p s z f blank start string quote stack =
    record {
      string_is = string;
      quote_is = quote;
      blank_is = f.blank_is ∙ sym blank;
      fresh_is = f.fresh_is ∙ sym start;
      stack = stack;
      bars_is = f.bars_is;
      mark_in = (let e = f.mark_is in omega arith);
      sync = λ n g. record { tokens_are = f.tokens_are; before_is = f.before_is; keeps_is = f.keeps_is };
      pend = λ n g. record { tokens_are = ap (λ k. take k s.tokens) f.mark_is ∙ take_all (length s.tokens) s.tokens (omega arith) ∙ f.tokens_are; last_is = f.last_is };
      inner = λ o e. f.tokens_are;
    }

-- after a token that the step pushes
pub entered-fresh : (p : Place) (s : State) (x : Lexeme) (k : TokenKind) (end : ℕ) → InStep p s → s.has_bars ≡ has_bars (past_of p) → Says (past_of p) x.shape x → Fresh (x.shape ∷ past_of p) (p.tokens ++ token_at k p.at end ∷ []) (entered x (pushed k p.at end s))
entered-fresh p s x k end i bars says =
    record {
      tokens_are = ap (λ ts. ts ++ token_at k p.at end ∷ []) i.tokens_are;
      mark_is = refl;
      before_is = says.before_is;
      last_is = says.before_is;
      keeps_is = says.keeps_is s.has_bars ∙ ap (λ b. keeps_after (names_method (before_of (past_of p))) b x.shape) bars;
      bars_is = ap (λ b. if same_shape x.shape shape.Pipe then not b && opens s.look.before else b) bars ∙ ap (λ b. if same_shape x.shape shape.Pipe then not (has_bars (past_of p)) && opens b else has_bars (past_of p)) i.before_is ∙ ap (λ b. if same_shape x.shape shape.Pipe then not (has_bars (past_of p)) && b else has_bars (past_of p)) (opens-asked (past_of p));
      blank_is = refl;
      fresh_is = refl;
    }

-- a `.` or `&.` that goes on with the line before
pub dot-fresh : (p : Place) (s : State) (x : Lexeme) (k : TokenKind) (end : ℕ) → After p s → s.has_bars ≡ has_bars (past_of p) → x.shape ≡ shape.Dot → Fresh (shape.Dot ∷ past_of p) (p.tokens ++ token_at k p.at end ∷ []) (entered (record x { before = after_operator s.last x.shape; keeps = names_method s.last }) (pushed k p.at end (record s { tokens = take s.mark s.tokens })))
unfolding same_shape
dot-fresh p s x k end b bars e =
    record {
      tokens_are = ap (λ ts. ts ++ token_at k p.at end ∷ []) b.tokens_are;
      mark_is = refl;
      before_is = ap (after_operator s.last) e ∙ ap (λ l. after_operator l shape.Dot) b.last_is;
      last_is = ap (after_operator s.last) e ∙ ap (λ l. after_operator l shape.Dot) b.last_is;
      keeps_is = ap (λ t. names_method s.last || (same_shape t shape.Pipe && s.has_bars)) e ∙ ap (λ l. names_method l || false) b.last_is;
      bars_is = ap (λ t. if same_shape t shape.Pipe then not s.has_bars && opens s.look.before else s.has_bars) e ∙ bars;
      blank_is = refl;
      fresh_is = refl;
    }

pub safe-fresh : (p : Place) (s : State) (x : Lexeme) (k : TokenKind) (end : ℕ) → After p s → s.has_bars ≡ has_bars (past_of p) → x.shape ≡ shape.SafeDot → Fresh (shape.SafeDot ∷ past_of p) (p.tokens ++ token_at k p.at end ∷ []) (entered (record x { before = after_operator s.last x.shape; keeps = names_method s.last }) (pushed k p.at end (record s { tokens = take s.mark s.tokens })))
unfolding same_shape
safe-fresh p s x k end b bars e =
    record {
      tokens_are = ap (λ ts. ts ++ token_at k p.at end ∷ []) b.tokens_are;
      mark_is = refl;
      before_is = ap (after_operator s.last) e;
      last_is = ap (after_operator s.last) e;
      keeps_is = ap (λ t. names_method s.last || (same_shape t shape.Pipe && s.has_bars)) e ∙ ap (λ l. names_method l || false) b.last_is;
      bars_is = ap (λ t. if same_shape t shape.Pipe then not s.has_bars && opens s.look.before else s.has_bars) e ∙ bars;
      blank_is = refl;
      fresh_is = refl;
    }

pub nested-fresh : (past : List Shape) (tokens : List Token) (c : Shape) (end : ℕ) (s : State) → Fresh past tokens s → Fresh past tokens (nested c end s)
nested-fresh past tokens c end s f =
    split (Fresh past tokens) (same_shape c shape.OpenBrace) _ _
    (λ e. record { tokens_are = f.tokens_are; mark_is = f.mark_is; before_is = f.before_is; last_is = f.last_is; keeps_is = f.keeps_is; bars_is = f.bars_is; blank_is = f.blank_is; fresh_is = f.fresh_is })
    (λ e. split (Fresh past tokens) (same_shape c shape.CloseBrace) _ _
    (λ k. record { tokens_are = f.tokens_are; mark_is = f.mark_is; before_is = f.before_is; last_is = f.last_is; keeps_is = f.keeps_is; bars_is = f.bars_is; blank_is = f.blank_is; fresh_is = f.fresh_is })
    (λ k. f))

-- what is open after a token
pub nested-stack : (c : Shape) (end : ℕ) (s : State) (f : List Bool) (o : List ℕ) → same_shape c shape.Interpolation ≡ false → s.string ≡ None → Stack s.nesting f o → (same_shape c shape.CloseBrace ≡ true → take 1 f ≡ true ∷ [] → ⊥)
    → Stack (nested c end s).nesting (if same_shape c shape.Interpolation then true ∷ f else (if same_shape c shape.OpenBrace then false ∷ f else (if same_shape c shape.CloseBrace then drop 1 f else f))) o × ((nested c end s).string ≡ None)
nested-stack c end s f o i none st stays = by (same_shape c shape.OpenBrace) (same_shape c shape.CloseBrace) stays
  where
    by : (a b : Bool) → (b ≡ true → take 1 f ≡ true ∷ [] → ⊥) → Stack (if a then record s { nesting = s.nesting ++ None ∷ [] } else (if b then closed end s else s)).nesting (if same_shape c shape.Interpolation then true ∷ f else (if a then false ∷ f else (if b then drop 1 f else f))) o × ((if a then record s { nesting = s.nesting ++ None ∷ [] } else (if b then closed end s else s)).string ≡ None)
    by true b stays = subst (λ t. Stack (s.nesting ++ None ∷ []) (if t then true ∷ f else false ∷ f) o × (s.string ≡ None)) (sym i) (Stack.Brace s.nesting f o st, none)
    by false true stays = subst (λ t. Stack (closed end s).nesting (if t then true ∷ f else drop 1 f) o × ((closed end s).string ≡ None)) (sym i) (plain stays (popped s.nesting f o st))
      where
        plain : (true ≡ true → take 1 f ≡ true ∷ [] → ⊥) → Popped s.nesting f o → Stack (closed end s).nesting (drop 1 f) o × ((closed end s).string ≡ None)
        plain stays (Popped.Plain rest string h) = (rest, string end)
        plain stays (Popped.Return a p w h rest string) = absurd (stays refl h)
    by false false stays = subst (λ t. Stack s.nesting (if t then true ∷ f else f) o × (s.string ≡ None)) (sym i) (st, none)
