-- Arguments and blocks that derive are read.
use Rattle.std.proofs.Common.{◌≡◌, ℕ, zero, suc, ◌<◌, Bool, true, false, not, ◌&&◌, if◌then◌else◌, List, [], ◌∷◌, ◌++◌, length, Option, Some, None, Ok, ◌⊎◌, inl, inr, refl, sym, ap, subst, ◌∙◌, append_assoc, arith}
use Rattle.srb_terms.specs.declared.span.Span.{Span}
use Rattle.rb_tree.specs.Tokens.{shape_of, same_shape}
use Rattle.rb_tree.specs.declared.syntax.Argument.{Argument}
use Rattle.rb_tree.specs.declared.syntax.Block.{Block}
use Rattle.rb_tree.specs.declared.syntax.PlacedName.{PlacedName}
use Rattle.rb_tree.specs.declared.syntax.Tree.{Tree}
use Rattle.rb_tree.specs.declared.token.Token.{Token}
use Rattle.rb_tree.specs.declared.token.Shape.{Shape}
use Rattle.rb_tree.specs.declared.token.Shape.TheVariants as shape
use Rattle.rb_expr.specs.declared.form.Form.{Form}
use Rattle.rb_expr.specs.Reading.{Parser, sees, expect, skip_separators, words_of, pure}
use Rattle.rb_expr.specs.Lists.{order_of, is_keyword, is_block, passes_block, takes_comma, goes_on, is_among, fresh_name, end_of_argument, end_with}
use Rattle.rb_expr.specs.Calls.{keyword, passed_block, positional, argument_by, one_argument, listed_from, listed, in_brackets, brackets, index_arguments, optional_brackets, bare_from, bare, bar_names_from, bar_names, bars, block, optional_do, any_block, optional_block, command_block}
use Rattle.rb_rules.specs.Tokens.{Is, StartsWith, IsIdentifier}
use Rattle.rb_rules.specs.Spans.{last_of}
use Rattle.rb_rules.specs.Forms.{Inside, AreOrdered, HasNoBlock, LeavesBlock, AreDistinct, names_of}
use Rattle.rb_rules.specs.Grammar.{Gap, named, BarNames, Bars, DerivesBody, DerivesEnd, DerivesArgument, DerivesArguments, DerivesBrackets, DerivesBlock, DerivesBlockAfter, DerivesDo, GapIn}
use Rattle.rb_rules.specs.Grammar.GapIn.{Tight, Loose}
use Rattle.rb_rules.specs.Grammar.BarNames.{LastBar, MoreBars}
use Rattle.rb_rules.specs.Grammar.Bars.{NoBars, SomeBars}
use Rattle.rb_rules.specs.Grammar.DerivesArgument.{ByPlace, ByName, AsBlock}
use Rattle.rb_rules.specs.Grammar.DerivesArguments.{LastArgument, MoreArguments}
use Rattle.rb_rules.specs.Grammar.DerivesBrackets.{NoBrackets, EmptyBrackets, Brackets}
use Rattle.rb_rules.specs.Grammar.DerivesBlock.{Braces, DoEnd}
use Rattle.rb_rules.specs.Grammar.DerivesBlockAfter.{NoBlock, SomeBlock}
use Rattle.rb_rules.specs.Grammar.DerivesDo.{NoDo, SomeDo}
use Rattle.rb_grammar.proofs.Steps.{shown, Within, within-self, within-token, within-more}
use Rattle.rb_grammar.proofs.Lists.{Allowed, Ordered, noted-new}
use Rattle.rb_grammar.proofs.Lists as sound
use Rattle.rb_grammar_laws.specs.Begins.{TERMS, ARGUMENTS, BODIES}
use Rattle.rb_grammar_laws.specs.Ends.{Ends, BODY_ENDS, TERM_ENDS, PRIMARY_ENDS}
use Rattle.rb_grammar_laws.proofs.Steps.{on, taken, passed, all_hold, expects, names, other, unseen, skipped, Past, past-token, past-within, past-more, within-past, past-length, within-length, gap-within, ends-by, ends-unseen, no-do, identifier, label}
use Rattle.rb_grammar_laws.proofs.Begins.{term-begins, body-begins}
use Rattle.rb_grammar_laws.proofs.Complete.{Reads, ReadsSome, Complete}
use Rattle.rb_grammar_laws.proofs.Lists.{IsCloser, parens, square, list-ends, list-within, argument-closed, argument-more, first-allowed, IsSome, first-no-block, more-ordered, passes-none, still-fresh, all-fresh}

-- ---- what arguments begin with

argument-begins : (free : Bool) (a : Argument Tree) (xs ys : List Token) → DerivesArgument free a xs ys → StartsWith ARGUMENTS xs
unfolding same_shape
argument-begins free a [] ys (ByPlace _ t _ _ d) = term-begins free t [] ys d
argument-begins free a (x ∷ xs) ys (ByPlace _ t _ _ d) = inr (inr (term-begins free t (x ∷ xs) ys d))
argument-begins free a xs ys (ByName _ l w t _ _ is d) = inl (label l w is)
argument-begins free a xs ys (AsBlock _ m t _ _ is d) = inr (inl is)

pub arguments-begin : (bracketed free : Bool) (given : List (Argument Tree)) (xs ys : List Token) → DerivesArguments bracketed free given xs ys → StartsWith ARGUMENTS xs
arguments-begin bracketed free given xs ys (LastArgument _ _ a _ _ d) = argument-begins free a xs ys d
arguments-begin bracketed free given xs ys (MoreArguments _ _ c a more _ ps qs _ d is g e) = argument-begins free a xs (c ∷ ps) d

pub arguments-some : (bracketed free : Bool) (given : List (Argument Tree)) (xs ys : List Token) → DerivesArguments bracketed free given xs ys → IsSome given
arguments-some bracketed free given xs ys (LastArgument _ _ a _ _ d) = tt
arguments-some bracketed free given xs ys (MoreArguments _ _ c a more _ ps qs _ d is g e) = tt

gap-in : (ps qs : List Token) → GapIn true ps qs → Gap ps qs
gap-in ps qs (Loose _ _ g) = g

gap-out : (ps qs : List Token) → GapIn false ps qs → ps ≡ qs
gap-out ps qs (Tight _) = refl

-- where the last argument ends
abbrev pub last_end : List (Argument Tree) → ℕ
last_end [] = 0
last_end (a ∷ more) = end_of_argument (last_of a more)

last-more : (a : Argument Tree) (more : List (Argument Tree)) → IsSome more → last_end (a ∷ more) ≡ last_end more
last-more a [] some = absurd some
last-more a (b ∷ more) some = refl

fresh-read : (old : List (List ℕ)) (t : Token) (ts : List Token) (w : List ℕ) → IsIdentifier t w → is_among old w ≡ false → fresh_name old (t ∷ ts) ≡ Ok (named t w, ts)
unfolding fresh_name
fresh-read old t ts w is e = on _ (names shape.Identifier t ts w (identifier t w is) (ap words_of is)) (passed _ _ e refl)

module _ (nested : Form → Bool → Parser Tree) (turns : ℕ) (ih : Complete turns nested) where
  -- ---- one argument

  plain : (free takes : Bool) (s : Shape) → same_shape s shape.Label ≡ false → same_shape s shape.Ampersand ≡ false → argument_by nested turns free false takes (Some s) ≡ positional nested turns free takes
  unfolding same_shape
  plain free takes shape.Label e f = absurd (cc)
  plain free takes shape.Ampersand e f = absurd (cc)
  plain free takes s e f = refl

  argument-read : (free takes keywords : Bool) (a : Argument Tree) (xs ys : List Token) → DerivesArgument takes a xs ys → Allowed (order_of a) keywords → suc (length xs) < turns → Ends TERM_ENDS takes ys → Reads (one_argument nested turns free keywords takes) a xs ys
  unfolding one_argument positional keyword passed_block same_shape
  argument-read free takes true a xs ys (ByPlace _ t _ _ d) allowed fits ends = absurd allowed
  argument-read free takes false a [] ys (ByPlace _ t _ _ d) allowed fits ends = absurd (term-begins takes t [] ys d)
  argument-read free takes false a (x ∷ xs) ys (ByPlace _ t _ _ d) allowed fits ends =
      let b = term-begins takes t (x ∷ xs) ys d in
      let r = ih.term takes t (x ∷ xs) ys fits d ends in
      (ap (λ p. p (x ∷ xs)) (plain free takes (shape_of x.kind) (unseen shape.Label TERMS refl (x ∷ xs) b) (unseen shape.Ampersand TERMS refl (x ∷ xs) b)) ∙ on _ r.0 refl, r.1)
  argument-read free takes keywords a xs ys (ByName _ l w t us _ is d) allowed fits ends =
      let r = ih.term takes t us ys (let h : suc (length us) < turns = omega arith in h) d ends in
      (ap (λ s. argument_by nested turns free keywords takes (Some s) (l ∷ us)) (label l w is) ∙ on _ (names shape.Label l us w (label l w is) (ap words_of is)) (on _ r.0 refl), past-token l (past-within r.1))
  argument-read free takes keywords a xs ys (AsBlock _ m t us _ is d) allowed fits ends =
      let r = ih.term takes t us ys (let h : suc (length us) < turns = omega arith in h) d ends in
      (ap (λ s. argument_by nested turns free keywords takes (Some s) (m ∷ us)) is ∙ on _ (expects shape.Ampersand m us is) (on _ r.0 refl), past-token m (past-within r.1))

  -- ---- arguments in brackets

  -- the closing bracket of a list
  record Closing (closer : Shape) (comma : Bool) (qs : List Token) (c : Token) (ys : List Token) : Type 0 where
    closes : IsCloser closer
    commas : takes_comma closer ≡ comma
    begins : all_hold (λ s. not (same_shape s closer)) ARGUMENTS ≡ true
    ends : sound.Ends comma qs (c ∷ ys)
    is : Is closer c

  listed-read : (closer : Shape) (comma free : Bool) (given : List (Argument Tree)) (xs qs : List Token) → DerivesArguments true true given xs qs → (c : Token) (ys : List Token) → Closing closer comma qs c ys →
      (n : ℕ) (keywords : Bool) (found : List (Argument Tree)) → Ordered keywords given → length xs < n → suc (length xs) < turns →
      (listed_from nested turns free closer n keywords found xs ≡ Ok ((found ++ given, c.span), ys)) × Past xs (c ∷ ys)
  unfolding listed_from same_shape
  listed-read closer comma free given xs qs d c ys k zero keywords found o less fits = absurd (let h : ⊥ = omega arith in h)
  listed-read closer comma free given xs qs (LastArgument _ _ a _ _ d) c ys k (suc n) keywords found o less fits =
      let r = argument-read free true keywords a xs qs d (first-allowed keywords a [] o) fits (list-ends closer k.closes true comma qs c ys k.ends k.is) in
      (on _ r.0 (on _ (argument-closed closer k.closes comma k.commas (order_of a) qs c ys k.ends k.is) refl), past-more r.1 (list-within comma qs c ys k.ends))
  listed-read closer comma free given xs qs (MoreArguments _ _ m a more _ ps us _ d is g e) c ys k (suc n) keywords found o less fits =
      let some = arguments-some true true more us qs e in
      let begin = arguments-begin true true more us qs e in
      let r = argument-read free true keywords a xs (m ∷ ps) d (first-allowed keywords a more o) fits (ends-by TERM_ENDS shape.Comma refl refl true m ps is) in
      let p = past-more r.1 (within-token m (gap-within ps us (gap-in ps us g))) in
      let short = past-length p in
      let rest = listed-read closer comma free more us qs e c ys k n (is_keyword (order_of a)) (found ++ a ∷ []) (more-ordered keywords a more some o) (let h : length us < n = omega arith in h) (let h : suc (length us) < turns = omega arith in h) in (
        on _ r.0 (on _ (argument-more closer (order_of a) (first-no-block keywords a more some o) m ps us is (gap-in ps us g) (unseen shape.Separator ARGUMENTS refl us begin) (unseen closer ARGUMENTS k.begins us begin))
            (rest.0 ∙ ap (λ found. Ok ((found, c.span), ys)) (append_assoc found (a ∷ []) more))),
        past-more p (past-within rest.1),
      )

  pub index-read : (free : Bool) (given : List (Argument Tree)) (ws xs qs : List Token) → Gap ws xs → DerivesArguments true true given xs qs → AreOrdered given → (c : Token) (ys : List Token) → DerivesEnd qs (c ∷ ys) → Is shape.CloseBracket c → suc (length ws) < turns →
      (index_arguments nested turns free ws ≡ Ok ((given, c.span), ys)) × Past ws (c ∷ ys)
  unfolding index_arguments listed same_shape
  index-read free given ws xs qs g d o c ys e is fits =
      let begin = arguments-begin true true given xs qs d in
      let w = gap-within ws xs g in
      let short = within-length w in
      let r = listed-read shape.CloseBracket true free given xs qs d c ys (record { closes = square; commas = refl; begins = refl; ends = e; is = is }) turns false [] o (let h : length xs < turns = omega arith in h) (let h : suc (length xs) < turns = omega arith in h) in
      (ap (λ us. listed nested turns free shape.CloseBracket us) (skipped ws xs g (unseen shape.Separator ARGUMENTS refl xs begin)) ∙ r.0, within-past w r.1)

  inside-read : (free : Bool) (given : List (Argument Tree)) (ws xs qs : List Token) → Gap ws xs → DerivesArguments true true given xs qs → AreOrdered given → (c : Token) (ys : List Token) → Gap qs (c ∷ ys) → Is shape.CloseParen c → suc (length ws) < turns →
      (in_brackets nested turns free (skip_separators ws) ≡ Ok ((given, c.span), ys)) × Past ws (c ∷ ys)
  unfolding in_brackets listed same_shape
  inside-read free given ws xs qs g d o c ys e is fits =
      let begin = arguments-begin true true given xs qs d in
      let w = gap-within ws xs g in
      let short = within-length w in
      let r = listed-read shape.CloseParen false free given xs qs d c ys (record { closes = parens; commas = refl; begins = refl; ends = e; is = is }) turns false [] o (let h : length xs < turns = omega arith in h) (let h : suc (length xs) < turns = omega arith in h) in
      (ap (λ us. in_brackets nested turns free us) (skipped ws xs g (unseen shape.Separator ARGUMENTS refl xs begin)) ∙ passed _ _ (unseen shape.CloseParen ARGUMENTS refl xs begin) r.0, within-past w r.1)

  pub brackets-read : (free : Bool) (given : Option (List (Argument Tree))) (before last : Token) (xs ys : List Token) → DerivesBrackets given before last xs ys → sees shape.OpenParen ys ≡ false → length xs < turns →
      (optional_brackets nested turns free before.span.end xs ≡ Ok ((given, last.span.end), ys)) × Within (before ∷ xs) (last ∷ ys)
  unfolding optional_brackets brackets in_brackets same_shape
  brackets-read free given before last xs ys (NoBrackets _ _) e fits = (passed _ _ e refl, within-self _)
  brackets-read free given before last xs ys (EmptyBrackets _ o c us _ is g closes) e fits = (
    taken _ _ (shown shape.OpenParen o us is) (on _ (on _ (expects shape.OpenParen o us is)
        (ap (λ zs. in_brackets nested turns free zs) (skipped us (c ∷ ys) g (other shape.Separator shape.CloseParen c ys closes refl)) ∙ taken _ _ (shown shape.CloseParen c ys closes) (on _ (expects shape.CloseParen c ys closes) refl))) refl),
    within-token before (within-token o (gap-within us (c ∷ ys) g)),
  )
  brackets-read free given before last xs ys (Brackets _ o c arguments us ps qs _ is g d ordered h closes) e fits =
      let r = inside-read free arguments us ps qs g d ordered c ys h closes fits in
      (taken _ _ (shown shape.OpenParen o us is) (on _ (on _ (expects shape.OpenParen o us is) r.0) refl), within-token before (within-token o (past-within r.1)))

  -- ---- arguments without brackets

  going-on : (a : Argument Tree) (more : List (Argument Tree)) (keywords : Bool) (m : Token) (ps : List Token) → IsSome more → Ordered keywords (a ∷ more) → Is shape.Comma m → goes_on (order_of a) (m ∷ ps) ≡ true
  unfolding goes_on
  going-on a more keywords m ps some o is = ap (λ b. not b && sees shape.Comma (m ∷ ps)) (first-no-block keywords a more some o) ∙ shown shape.Comma m ps is

  and-false : (a b : Bool) → b ≡ false → (a && b) ≡ false
  and-false true b e = e
  and-false false b e = refl

  stopping : (a : Argument Tree) (xs : List Token) → sees shape.Comma xs ≡ false → goes_on (order_of a) xs ≡ false
  unfolding goes_on
  stopping a xs e = and-false (not (is_block (order_of a))) _ e

  bare-from-read : (free : Bool) (given : List (Argument Tree)) (xs ys : List Token) → DerivesArguments false false given xs ys → Ends TERM_ENDS false ys → sees shape.Comma ys ≡ false →
      (n : ℕ) (keywords : Bool) (found : List (Argument Tree)) → Ordered keywords given → length xs < n → suc (length xs) < turns →
      (bare_from nested turns free n keywords found xs ≡ Ok ((found ++ given, last_end given), ys)) × Past xs ys
  unfolding bare_from same_shape
  bare-from-read free given xs ys d ends comma zero keywords found o less fits = absurd (let h : ⊥ = omega arith in h)
  bare-from-read free given xs ys (LastArgument _ _ a _ _ d) ends comma (suc n) keywords found o less fits =
      let r = argument-read free false keywords a xs ys d (first-allowed keywords a [] o) fits ends in
      (on _ r.0 (passed _ _ (stopping a ys comma) refl), r.1)
  bare-from-read free given xs ys (MoreArguments _ _ m a more _ ps us _ d is g e) ends comma (suc n) keywords found o less fits =
      let some = arguments-some false false more us ys e in
      let r = argument-read free false keywords a xs (m ∷ ps) d (first-allowed keywords a more o) fits (ends-by TERM_ENDS shape.Comma refl refl false m ps is) in
      let w : Within ps us = subst (λ us. Within ps us) (gap-out ps us g) (within-self ps) in
      let p = past-more r.1 (within-token m w) in
      let short = past-length p in
      let rest = bare-from-read free more us ys e ends comma n (is_keyword (order_of a)) (found ++ a ∷ []) (more-ordered keywords a more some o) (let h : length us < n = omega arith in h) (let h : suc (length us) < turns = omega arith in h) in (
        on _ r.0 (taken _ _ (going-on a more keywords m ps some o is) (ap (λ us. bare_from nested turns free n (is_keyword (order_of a)) (found ++ a ∷ []) us) (gap-out ps us g)
            ∙ rest.0 ∙ ap (λ found. Ok ((found, last_end more), ys)) (append_assoc found (a ∷ []) more) ∙ ap (λ end. Ok ((found ++ a ∷ more, end), ys)) (sym (last-more a more some)))),
        past-more p (past-within rest.1),
      )

  pub bare-read : (free : Bool) (given : List (Argument Tree)) (xs ys : List Token) → DerivesArguments false false given xs ys → AreOrdered given → Ends TERM_ENDS false ys → sees shape.Comma ys ≡ false → suc (length xs) < turns →
      (bare nested turns free xs ≡ Ok ((given, last_end given), ys)) × Past xs ys
  unfolding bare
  bare-read free given xs ys d o ends comma fits = bare-from-read free given xs ys d ends comma turns false [] o (let h : length xs < turns = omega arith in h) fits

  -- ---- blocks

  bars-from-read : (free : Bool) (more : List PlacedName) (xs zs : List Token) → BarNames more xs zs → (place : Span) (ys : List Token) → expect shape.Pipe zs ≡ Ok (place, ys) → sees shape.Comma zs ≡ false →
      (n : ℕ) (old : List (List ℕ)) (found : List PlacedName) → sound.Fresh old more → AreDistinct (names_of more) → length xs < n →
      bar_names_from nested turns free n old found xs ≡ Ok (found ++ more, ys)
  unfolding bar_names_from same_shape
  bars-from-read free more xs zs d place ys pipe comma zero old found f o less = absurd (let h : ⊥ = omega arith in h)
  bars-from-read free more xs zs (LastBar t w _ is) place ys pipe comma (suc n) old found f o less = on _ (fresh-read old t zs w is f.0) (passed _ _ comma (on _ pipe refl))
  bars-from-read free more xs zs (MoreBars t c w rest us _ is is2 d) place ys pipe comma (suc n) old found f o less =
      on _ (fresh-read old t (c ∷ us) w is f.0) (taken _ _ (shown shape.Comma c us is2)
      (ap (λ old. bar_names_from nested turns free n old (found ++ named t w ∷ []) us) (noted-new old w f.0)
      ∙ bars-from-read free rest us zs d place ys pipe comma n (old ++ w ∷ []) (found ++ named t w ∷ []) (still-fresh old w rest f.1 o.0) o.1 (let h : length us < n = omega arith in h)
      ∙ ap (λ found. Ok (found, ys)) (append_assoc found (named t w ∷ []) rest)))

  bar-within : (more : List PlacedName) (xs zs : List Token) → BarNames more xs zs → Within xs zs
  bar-within more xs zs (LastBar t w _ is) = within-token t (within-self _)
  bar-within more xs zs (MoreBars t c w rest us _ is is2 d) = within-token t (within-token c (bar-within rest us zs d))

  bars-read : (free : Bool) (more : List PlacedName) (xs ys : List Token) → Bars more xs ys → sees shape.Pipe ys ≡ false → length xs < turns → ReadsSome (bars nested turns free) more xs ys
  unfolding bars bar_names same_shape
  bars-read free more xs ys (NoBars _) e fits = (passed _ _ e refl, within-self _)
  bars-read free more xs ys (SomeBars a z names us _ is d is2 distinct) e fits = (
    taken _ _ (shown shape.Pipe a us is) (bars-from-read free names us (z ∷ ys) d z.span ys (expects shape.Pipe z ys is2) (other shape.Comma shape.Pipe z ys is2 refl) turns [] [] (all-fresh names) distinct (let h : length us < turns = omega arith in h)),
    within-token a (within-more (bar-within names us (z ∷ ys) d) (within-token z (within-self _))),
  )

  -- opener, bars, body and closer
  block-made : (free : Bool) (opener closer : Shape) (o c : Token) (more : List PlacedName) (body : Tree) (xs ps ys : List Token) → Is opener o → Bars more xs ps → DerivesBody Inside true body ps (c ∷ ys) → Is closer c → Ends BODY_ENDS true (c ∷ ys) → length (o ∷ xs) < turns →
      (block nested turns free opener closer (o ∷ xs) ≡ Ok (record { parameters = more; body = body; span = record { start = o.span.start; end = c.span.end } }, ys)) × Past (o ∷ xs) (c ∷ ys)
  unfolding block same_shape
  block-made free opener closer o c more body xs ps ys is d b is2 ends fits =
      let first = bars-read free more xs ps d (ends-unseen shape.Pipe BODIES refl false ps (body-begins true body ps (c ∷ ys) b ends)) (let h : length xs < turns = omega arith in h) in
      let short = within-length first.1 in
      let r = ih.body true body ps (c ∷ ys) (let h : suc (length ps) < turns = omega arith in h) b ends in
      (on _ (expects opener o xs is) (on _ first.0 (on _ r.0 (on _ (expects closer c ys is2) refl))), past-token o (within-more first.1 r.1))

  pub any-read : (free : Bool) (b : Block Tree) (last : Token) (xs ys : List Token) → DerivesBlock free b last xs ys → length xs < turns → (any_block nested turns free xs ≡ Ok (Some b, ys)) × Past xs (last ∷ ys)
  unfolding any_block optional_do same_shape
  any-read free b last xs ys (Braces _ o c more body us ps _ is d h is2) fits =
      let r = block-made free shape.OpenBrace shape.CloseBrace o c more body us ps ys is d h is2 (ends-by BODY_ENDS shape.CloseBrace refl refl true c ys is2) fits in
      (taken _ _ (shown shape.OpenBrace o us is) (on _ r.0 refl), r.1)
  any-read free b last xs ys (DoEnd o c more body us ps _ is d h is2) fits =
      let r = block-made true shape.Do shape.End o c more body us ps ys is d h is2 (ends-by BODY_ENDS shape.End refl refl true c ys is2) fits in
      (passed _ _ (other shape.OpenBrace shape.Do o us is refl) (taken _ _ (shown shape.Do o us is) (on _ r.0 refl)), r.1)

  pub none-read : (free : Bool) (given : Option (List (Argument Tree))) (xs : List Token) → any_block nested turns free xs ≡ Ok (None, xs) → optional_block nested turns free given xs ≡ Ok (None, xs)
  unfolding optional_block
  none-read free None xs e = e
  none-read free (Some given) xs e = go (passes_block given)
    where
      go : (b : Bool) → (if b then pure None else any_block nested turns free) xs ≡ Ok (None, xs)
      go true = refl
      go false = e

  some-read : (free : Bool) (given : Option (List (Argument Tree))) (b : Block Tree) (xs ys : List Token) → LeavesBlock given → any_block nested turns free xs ≡ Ok (Some b, ys) → optional_block nested turns free given xs ≡ Ok (Some b, ys)
  unfolding optional_block
  some-read free None b xs ys h e = e
  some-read free (Some given) b xs ys h e = ap (λ t. (if t then pure None else any_block nested turns free) xs) (passes-none given h) ∙ e

  -- where a call with this block ends
  pub block-ends : (free : Bool) (b : Block Tree) (last : Token) (xs ys : List Token) → DerivesBlock free b last xs ys → b.span.end ≡ last.span.end
  block-ends free b last xs ys (Braces _ o c more body us ps _ is d h is2) = refl
  block-ends free b last xs ys (DoEnd o c more body us ps _ is d h is2) = refl

  pub after-read : (free : Bool) (given : Option (List (Argument Tree))) (b : Option (Block Tree)) (middle last : Token) (xs ys : List Token) → DerivesBlockAfter free b middle last xs ys → (b ≡ None ⊎ LeavesBlock given) → Ends PRIMARY_ENDS free ys → length xs < turns →
      (optional_block nested turns free given xs ≡ Ok (b, ys)) × Within (middle ∷ xs) (last ∷ ys) × ((end : ℕ) → end ≡ middle.span.end → end_with b end ≡ last.span.end)
  unfolding any_block optional_do same_shape
  after-read free given b middle last xs ys (NoBlock _ _ _) leaves ends fits =
      (none-read free given ys (passed _ _ (ends-unseen shape.OpenBrace PRIMARY_ENDS refl free ys ends) (passed _ _ (no-do PRIMARY_ENDS free ys ends) refl)), within-self _, λ end e. e)
  after-read free given b middle last xs ys (SomeBlock _ _ _ some _ _ d) (inl e) ends fits = absurd (cc)
  after-read free given b middle last xs ys (SomeBlock _ _ _ some _ _ d) (inr leaves) ends fits =
      let r = any-read free some last xs ys d fits in
      (some-read free given some xs ys leaves r.0, within-token middle (past-within r.1), λ end e. block-ends free some last xs ys d)

  -- the `do` after a command
  do-made : (free : Bool) (b : Block Tree) (last : Token) (xs ys : List Token) → DerivesBlock free b last xs ys → sees shape.Do xs ≡ true → length xs < turns → (block nested turns true shape.Do shape.End xs ≡ Ok (b, ys)) × Past xs ys
  unfolding same_shape
  do-made free b last xs ys (Braces _ o c more body us ps _ is d h is2) e fits = let f = other shape.Do shape.OpenBrace o us is refl in absurd (cc)
  do-made free b last xs ys (DoEnd o c more body us ps _ is d h is2) e fits =
      let r = block-made true shape.Do shape.End o c more body us ps ys is d h is2 (ends-by BODY_ENDS shape.End refl refl true c ys is2) fits in
      (r.0, past-more r.1 (within-token c (within-self _)))

  pub command-block-read : (free : Bool) (given : List (Argument Tree)) (b : Option (Block Tree)) (xs ys : List Token) → DerivesDo free b xs ys → (b ≡ None ⊎ HasNoBlock given) → (free && sees shape.Do ys) ≡ false → length xs < turns →
      ReadsSome (command_block nested turns free given) b xs ys
  unfolding command_block optional_do
  command-block-read free given b xs ys (NoDo _ _) leaves ends fits = (go (passes_block given), within-self _)
    where
      go : (t : Bool) → (if t then pure None else optional_do nested turns free) ys ≡ Ok (None, ys)
      go true = refl
      go false = passed _ _ ends refl
  command-block-read free given b xs ys (SomeDo o last some us _ is d) (inl e) ends fits = absurd (cc)
  command-block-read free given b xs ys (SomeDo o last some us _ is d) (inr leaves) ends fits =
      let r = do-made true some last (o ∷ us) ys d (shown shape.Do o us is) fits in
      (ap (λ t. (if t then pure None else optional_do nested turns true) (o ∷ us)) (passes-none given leaves) ∙ taken _ _ (shown shape.Do o us is) (on _ r.0 refl), past-within r.1)
