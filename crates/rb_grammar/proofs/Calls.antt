-- Arguments and blocks that are read derive.
use Rattle.std.proofs.Common.{◌≡◌, ℕ, zero, suc, Bool, true, false, if◌then◌else◌, List, [], ◌∷◌, ◌++◌, Option, Some, None, Ok, ◌⊎◌, inl, inr, refl, sym, ap, subst, ◌∙◌, append_assoc}
use Rattle.srb_terms.specs.declared.span.Span.{Span}
use Rattle.rb_tree.specs.Tokens.{shape_of, same_shape}
use Rattle.rb_tree.specs.declared.syntax.Argument.{Argument}
use Rattle.rb_tree.specs.declared.syntax.Block.{Block}
use Rattle.rb_tree.specs.declared.syntax.PlacedName.{PlacedName}
use Rattle.rb_tree.specs.declared.syntax.Tree.{Tree}
use Rattle.rb_tree.specs.declared.token.Token.{Token}
use Rattle.rb_tree.specs.declared.token.Shape.{Shape}
use Rattle.rb_tree.specs.declared.token.Shape.TheVariants as shape
use Rattle.rb_expr.specs.declared.form.Form.{Form}
use Rattle.rb_expr.specs.declared.lists.Order.{Order}
use Rattle.rb_expr.specs.declared.lists.Order.TheVariants as order
use Rattle.rb_expr.specs.Reading.{Parser, sees, after, skip_separators, refuse}
use Rattle.rb_expr.specs.Lists.{order_of, is_keyword, is_block, passes_block, takes_comma, goes_on, end_with, end_of_argument, noted}
use Rattle.rb_expr.specs.Calls as spec
use Rattle.rb_expr.specs.Calls.{keyword, passed_block, positional, argument_by, listed_from, listed, in_brackets, brackets, index_arguments, optional_brackets, bare_from, bare, bar_names_from, bar_names, bars, block, optional_do, any_block, optional_block, command_block}
use Rattle.rb_rules.specs.Tokens.{Is}
use Rattle.rb_rules.specs.Spans.{across, last_of}
use Rattle.rb_rules.specs.Forms.{Inside, AreOrdered, HasNoBlock, LeavesBlock, AreDistinct, names_of}
use Rattle.rb_rules.specs.Grammar.{Gap, DerivesEnd, BarNames, Bars, DerivesBody, DerivesArgument, DerivesArguments, DerivesBrackets, DerivesBlock, DerivesBlockAfter, DerivesDo}
use Rattle.rb_rules.specs.Grammar.GapIn.{Tight, Loose}
use Rattle.rb_rules.specs.Grammar.Bars.{NoBars, SomeBars}
use Rattle.rb_rules.specs.Grammar.DerivesArgument.{ByPlace, ByName, AsBlock}
use Rattle.rb_rules.specs.Grammar.DerivesArguments.{LastArgument, MoreArguments}
use Rattle.rb_rules.specs.Grammar.DerivesBrackets.{NoBrackets, EmptyBrackets, Brackets}
use Rattle.rb_rules.specs.Grammar.DerivesBlock.{Braces, DoEnd}
use Rattle.rb_rules.specs.Grammar.DerivesBlockAfter.{NoBlock, SomeBlock}
use Rattle.rb_rules.specs.Grammar.DerivesDo.{NoDo, SomeDo}
use Rattle.rb_grammar.proofs.Steps.{Holds, answered, refused, step, weaker, choose, same, taking, naming, follow, testing, seen, Within, within-self, within-token, within-more, gap, label}
use Rattle.rb_grammar.proofs.Sound.{Sound}
use Rattle.rb_grammar.proofs.Lists.{and-left, and-right, Ends, after-argument-holds, Allowed, Ordered, last-ordered, more-ordered, no-block, Fresh, apart-all, noted-new, name-holds}

module _ (nested : Form → Bool → Parser Tree) (ih : Sound nested) (turns : ℕ) (free : Bool) where
  -- ---- one argument

  abbrev Reads : Bool → Bool → List Token → Argument Tree → List Token → Type 0
  Reads keywords takes xs a ys = DerivesArgument takes a xs ys × Within xs ys × Allowed (order_of a) keywords

  keyword-holds : (keywords takes : Bool) (xs : List Token) → Holds (keyword nested turns free takes xs) (Reads keywords takes xs)
  unfolding keyword
  keyword-holds keywords takes xs = naming shape.Label (Reads keywords takes) _ xs (λ l ls is. step (ih.term takes ls) (λ t ys h.
      answered _ _ _ (ByName _ _ _ _ _ _ (label l is) h.0, within-token l h.1, tt)))

  passed-holds : (keywords takes : Bool) (xs : List Token) → Holds (passed_block nested turns free takes xs) (Reads keywords takes xs)
  unfolding passed_block
  passed-holds keywords takes xs = taking shape.Ampersand (Reads keywords takes) _ xs (λ l ls is. step (ih.term takes ls) (λ t ys h.
      answered _ _ _ (AsBlock _ _ _ _ _ is h.0, within-token l h.1, tt)))

  positional-holds : (keywords takes : Bool) (xs : List Token) → Holds ((if keywords then refuse else positional nested turns free takes) xs) (Reads keywords takes xs)
  unfolding positional
  positional-holds true takes xs = refused _ _
  positional-holds false takes xs = step (ih.term takes xs) (λ t ys h. answered _ _ _ (ByPlace _ _ _ _ h.0, h.1, tt))

  argument-by : (keywords takes : Bool) (s : Shape) (xs : List Token) → Holds (argument_by nested turns free keywords takes (Some s) xs) (Reads keywords takes xs)
  argument-by keywords takes shape.Label xs = keyword-holds keywords takes xs
  argument-by keywords takes shape.Ampersand xs = passed-holds keywords takes xs
  argument-by keywords takes s xs = positional-holds keywords takes xs

  argument-holds : (keywords takes : Bool) (xs : List Token) → Holds (spec.one_argument nested turns free keywords takes xs) (Reads keywords takes xs)
  unfolding spec.one_argument
  argument-holds keywords takes [] = positional-holds keywords takes []
  argument-holds keywords takes (t ∷ ts) = argument-by keywords takes (shape_of t.kind) (t ∷ ts)

  -- ---- arguments in brackets

  -- after those found
  abbrev pub Listed : Shape → Bool → List (Argument Tree) → List Token → List (Argument Tree) × Span → List Token → Type 0
  Listed closer keywords found xs r zs = (more : List (Argument Tree)) × (qs : List Token) × (c : Token) × (r.0 ≡ found ++ more) × (r.1 ≡ c.span)
      × DerivesArguments true true more xs qs × Ordered keywords more × Ends (takes_comma closer) qs (c ∷ zs) × Is closer c × Within xs (c ∷ zs)

  listed-holds : (closer : Shape) (n : ℕ) (keywords : Bool) (found : List (Argument Tree)) (xs : List Token) → Holds (listed_from nested turns free closer n keywords found xs) (Listed closer keywords found xs)
  unfolding listed_from
  listed-holds closer zero keywords found xs = refused _ _
  listed-holds closer (suc n) keywords found xs = step (argument-holds keywords true xs) (λ a ps h. step (after-argument-holds closer (order_of a) ps) (elim [
    | Some place ↦ λ zs g. answered (Listed closer keywords found xs) (found ++ a ∷ [], place) zs
        (a ∷ [], ps, g.0, refl, g.2, LastArgument _ _ _ _ _ h.0, last-ordered a keywords h.2, g.3, g.1, within-more h.1 g.4)
    | None ↦ λ qs g. weaker (listed-holds closer n (is_keyword (order_of a)) (found ++ a ∷ []) qs) (λ r zs m.
        let here = subst (λ ps. DerivesArgument true a xs ps × Within xs ps) g.3 (h.0, h.1) in (
          a ∷ m.0,
          m.1,
          m.2,
          m.3 ∙ append_assoc found (a ∷ []) m.0,
          m.4,
          MoreArguments _ _ _ _ _ _ _ _ _ here.0 g.2 (Loose _ _ g.4) m.5,
          more-ordered a keywords m.0 h.2 g.6 m.6,
          m.7,
          m.8,
          within-more here.1 (within-token g.0 (within-more g.5 m.9)),
        ))
  ]))

  -- in brackets, up to the closing one
  abbrev pub InBrackets : List Token → List (Argument Tree) × Span → List Token → Type 0
  InBrackets xs r zs = (c : Token) × (r.1 ≡ c.span) × AreOrdered r.0 × Within xs (c ∷ zs) × ((before o : Token) (ws : List Token) → Is shape.OpenParen o → Gap ws xs → DerivesBrackets (Some r.0) before c (o ∷ ws) zs)

  many-holds : (xs : List Token) → Holds (listed nested turns free shape.CloseParen xs) (InBrackets xs)
  unfolding listed same_shape
  many-holds xs = weaker (listed-holds shape.CloseParen turns false [] xs) (λ r zs m.
      (m.2, m.4, subst AreOrdered (sym m.3) m.6, m.9, λ before o ws is g. subst (λ given. DerivesBrackets (Some given) before m.2 (o ∷ ws) zs) (sym m.3) (Brackets _ _ _ _ _ _ _ _ is g m.5 m.6 m.7 m.8)))

  inside-holds : (xs : List Token) → Holds (in_brackets nested turns free xs) (InBrackets xs)
  unfolding in_brackets
  inside-holds [] = many-holds []
  inside-holds (t ∷ ts) = testing
      (λ is. taking shape.CloseParen InBrackets _ (t ∷ ts) (λ c zs closes. answered (InBrackets (c ∷ zs)) ([], c.span) zs (c, refl, tt, within-self _, λ before o ws is g. EmptyBrackets _ _ _ _ _ is g closes)))
      (λ other. many-holds (t ∷ ts))

  -- what stands in brackets after a token, if brackets stand
  abbrev pub Orderly : Option (List (Argument Tree)) → Type 0
  Orderly None = Unit {0}
  Orderly (Some given) = AreOrdered given

  -- where none stand, nothing is read
  abbrev pub Stays : Option (List (Argument Tree)) → Token → Token → List Token → List Token → Type 0
  Stays None before middle xs ys = (before ≡ middle) × (xs ≡ ys)
  Stays (Some given) before middle xs ys = Unit {0}

  abbrev pub Given : Token → List Token → Option (List (Argument Tree)) × ℕ → List Token → Type 0
  Given before xs r ys = (middle : Token) × DerivesBrackets r.0 before middle xs ys × (r.1 ≡ middle.span.end) × Orderly r.0 × Within (before ∷ xs) (middle ∷ ys) × Stays r.0 before middle xs ys

  brackets-holds : (before : Token) (xs : List Token) → Holds (brackets nested turns free xs) (λ r ys. Given before xs (Some r.0, r.1.end) ys)
  unfolding brackets
  brackets-holds before xs = taking shape.OpenParen (λ xs r ys. Given before xs (Some r.0, r.1.end) ys) _ xs (λ o os is.
      let g = gap os in
      weaker (inside-holds (skip_separators os)) (λ r ys h. (h.0, h.4 before o os is g.0, ap (λ s. s.end) h.1, h.2, within-token before (within-token o (within-more g.1 h.3)), tt)))

  pub given-holds : (before : Token) (xs : List Token) → Holds (optional_brackets nested turns free before.span.end xs) (Given before xs)
  unfolding optional_brackets
  given-holds before [] = answered _ _ _ (before, NoBrackets _ _, refl, tt, within-self _, (refl, refl))
  given-holds before (t ∷ ts) = testing
      (λ is. step (brackets-holds before (t ∷ ts)) (λ r ys h. answered (Given before (t ∷ ts)) (Some r.0, r.1.end) ys h))
      (λ other. answered _ _ _ (before, NoBrackets _ _, refl, tt, within-self _, (refl, refl)))

  pub index-holds : (xs : List Token) → Holds (index_arguments nested turns free xs) (λ r zs. (qs : List Token) × (c : Token) × (r.1 ≡ c.span) × DerivesArguments true true r.0 (skip_separators xs) qs × AreOrdered r.0 × DerivesEnd qs (c ∷ zs) × Is shape.CloseBracket c × Within (skip_separators xs) (c ∷ zs))
  unfolding index_arguments listed same_shape
  index-holds xs = weaker (listed-holds shape.CloseBracket turns false [] (skip_separators xs)) (λ r zs m.
      (m.1, m.2, m.4, subst (λ given. DerivesArguments true true given (skip_separators xs) m.1) (sym m.3) m.5, subst AreOrdered (sym m.3) m.6, m.7, m.8, m.9))

  -- ---- arguments without brackets

  abbrev pub BareRow : Bool → List (Argument Tree) → List Token → List (Argument Tree) × ℕ → List Token → Type 0
  BareRow keywords found xs r ys = (a : Argument Tree) × (more : List (Argument Tree)) × (r.0 ≡ found ++ a ∷ more) × (r.1 ≡ end_of_argument (last_of a more))
      × DerivesArguments false false (a ∷ more) xs ys × Ordered keywords (a ∷ more) × Within xs ys

  going-on : (given : Order) (xs : List Token) → goes_on given xs ≡ true → (is_block given ≡ false) × (sees shape.Comma xs ≡ true)
  unfolding goes_on
  going-on order.Positional xs e = (refl, e)
  going-on order.Keyword xs e = (refl, e)
  going-on order.Block xs e = absurd (cc)

  bare-from : (n : ℕ) (keywords : Bool) (found : List (Argument Tree)) (xs : List Token) → Holds (bare_from nested turns free n keywords found xs) (BareRow keywords found xs)
  unfolding bare_from
  bare-from zero keywords found xs = refused _ _
  bare-from (suc n) keywords found xs = step (argument-holds keywords false xs) (λ a ps h. choose
      (λ e. let on = going-on (order_of a) ps e in
      let s = seen shape.Comma ps on.1 in
      let here = subst (λ ps. DerivesArgument false a xs ps × Within xs ps) s.2 (h.0, h.1) in
      weaker (bare-from n (is_keyword (order_of a)) (found ++ a ∷ []) (after ps)) (λ r zs m. (
        a,
        m.0 ∷ m.1,
        m.2 ∙ append_assoc found (a ∷ []) (m.0 ∷ m.1),
        m.3,
        MoreArguments _ _ _ _ _ _ _ _ _ here.0 s.1 (Tight _) m.4,
        more-ordered a keywords (m.0 ∷ m.1) h.2 on.0 m.5,
        within-more here.1 (within-token s.0 m.6),
      )))
      (λ e. answered (BareRow keywords found xs) (found ++ a ∷ [], end_of_argument a) ps (a, [], refl, refl, LastArgument _ _ _ _ _ h.0, last-ordered a keywords h.2, h.1)))

  pub bare-holds : (xs : List Token) → Holds (bare nested turns free xs) (BareRow false [] xs)
  unfolding bare
  bare-holds xs = bare-from turns false [] xs

  -- ---- blocks

  abbrev NameRow : List (List ℕ) → List PlacedName → List Token → List PlacedName → List Token → Type 0
  NameRow names found xs r ys = (more : List PlacedName) × (z : Token) × (r ≡ found ++ more) × BarNames more xs (z ∷ ys) × Is shape.Pipe z × Fresh names more × AreDistinct (names_of more) × Within xs (z ∷ ys)

  names-from : (n : ℕ) (names : List (List ℕ)) (found : List PlacedName) (xs : List Token) → Holds (bar_names_from nested turns free n names found xs) (NameRow names found xs)
  unfolding bar_names_from
  names-from zero names found xs = refused _ _
  names-from (suc n) names found xs = step (name-holds names xs) (λ p ps h. choose
      (λ e. let s = seen shape.Comma ps e in
      weaker (names-from n (noted names p.name) (found ++ p ∷ []) (after ps)) (λ r ys m.
      let apart = apart-all names p.name m.0 (subst (λ ns. Fresh ns m.0) (noted-new names p.name h.0) m.5) in (
        p ∷ m.0,
        m.1,
        m.2 ∙ append_assoc found (p ∷ []) m.0,
        h.2 _ _ _ _ s.2 s.1 m.3,
        m.4,
        (h.0, apart.0),
        (apart.1, m.6),
        within-more (subst (λ ps. Within xs ps) s.2 h.3) (within-token s.0 m.7),
      )))
      (λ e. follow shape.Pipe (λ ps. BarNames (p ∷ []) xs ps × Within xs ps) _ _ _ (h.1, h.3) (λ z ys is h1.
      answered (NameRow names found xs) (found ++ p ∷ []) ys (p ∷ [], z, refl, h1.0, is, (h.0, tt), (tt, tt), h1.1))))

  abbrev InBars : List Token → List PlacedName → List Token → Type 0
  InBars xs names ys = Bars names xs ys × Within xs ys

  bars-holds : (xs : List Token) → Holds (bars nested turns free xs) (InBars xs)
  unfolding bars bar_names
  bars-holds [] = answered _ _ _ (NoBars _, within-self _)
  bars-holds (t ∷ ts) = testing
      (λ is. weaker (names-from turns [] [] ts) (λ r ys m. subst (λ names. InBars (t ∷ ts) names ys) (sym m.2) (SomeBars _ _ _ _ _ is m.3 m.4 m.6, within-token t (within-more m.7 (within-token m.1 (within-self ys))))))
      (λ other. answered _ _ _ (NoBars _, within-self _))

  abbrev ABlock : Bool → List Token → Block Tree → List Token → Type 0
  ABlock f xs b ys = (last : Token) × DerivesBlock f b last xs ys × (b.span.end ≡ last.span.end) × Within xs (last ∷ ys)

  -- how the parts of a block make one
  abbrev Made : Bool → Shape → Shape → Type 0
  Made f opener closer = (o c : Token) (names : List PlacedName) (body : Tree) (xs ps ys : List Token) → Is opener o → Bars names xs ps → DerivesBody Inside true body ps (c ∷ ys) → Is closer c →
      DerivesBlock f (record { parameters = names; body = body; span = across o.span c.span }) c (o ∷ xs) ys

  block-holds : (f : Bool) (opener closer : Shape) → Made f opener closer → (xs : List Token) → Holds (block nested turns free opener closer xs) (ABlock f xs)
  unfolding block
  block-holds f opener closer make xs = taking opener (ABlock f) _ xs (λ o os is. step (bars-holds os) (λ names ps hn. step (ih.body true ps) (λ body qs hb.
      follow closer (λ qs. DerivesBody Inside true body ps qs × Within ps qs) _ _ _ (hb.0, hb.1) (λ c ys closes hb.
      answered (ABlock f (o ∷ os)) (record { parameters = names; body = body; span = record { start = o.span.start; end = c.span.end } }) ys
      (c, make o c names body os ps ys is hn.0 hb.0 closes, refl, within-token o (within-more hn.1 hb.1))))))

  braces-holds : (xs : List Token) → Holds (block nested turns free shape.OpenBrace shape.CloseBrace xs) (ABlock free xs)
  braces-holds xs = block-holds free shape.OpenBrace shape.CloseBrace (Braces free) xs

  do-block-holds : (xs : List Token) → Holds (block nested turns free shape.Do shape.End xs) (ABlock true xs)
  do-block-holds xs = block-holds true shape.Do shape.End DoEnd xs

  -- a block after this token, if one stands
  abbrev pub Stands : Option (Block Tree) → Token → Token → List Token → List Token → Type 0
  Stands None middle last xs ys = (middle ≡ last) × (xs ≡ ys)
  Stands (Some b) middle last xs ys = DerivesBlock free b last xs ys

  abbrev pub After : Token → List Token → Option (Block Tree) → List Token → Type 0
  After middle xs b ys = (last : Token) × DerivesBlockAfter free b middle last xs ys × ((e : ℕ) → e ≡ middle.span.end → end_with b e ≡ last.span.end) × Within (middle ∷ xs) (last ∷ ys) × Stands b middle last xs ys

  no-after : (middle : Token) (xs : List Token) → After middle xs None xs
  no-after middle xs = (middle, NoBlock _ _ _, (λ e h. h), within-self _, (refl, refl))

  some-after : (middle : Token) (xs : List Token) (b : Block Tree) (ys : List Token) → ABlock free xs b ys → After middle xs (Some b) ys
  some-after middle xs b ys h = (h.0, SomeBlock _ _ _ _ _ _ h.1, (λ e is. h.2), within-token middle h.3, h.1)

  do-after-holds : (middle : Token) (xs : List Token) → Holds (optional_do nested turns free xs) (After middle xs)
  unfolding optional_do
  do-after-holds middle xs = choose
      (λ e. step (do-block-holds xs) (λ b ys h. answered (After middle xs) (Some b) ys (some-after middle xs b ys (subst (λ f. ABlock f xs b ys) (sym (and-left _ _ e)) h))))
      (λ e. answered (After middle xs) None xs (no-after middle xs))

  any-holds : (middle : Token) (xs : List Token) → Holds (any_block nested turns free xs) (After middle xs)
  unfolding any_block
  any-holds middle [] = do-after-holds middle []
  any-holds middle (t ∷ ts) = testing
      (λ is. step (braces-holds (t ∷ ts)) (λ b ys h. answered (After middle (t ∷ ts)) (Some b) ys (some-after middle (t ∷ ts) b ys h)))
      (λ other. do-after-holds middle (t ∷ ts))

  abbrev pub Blocked : Option (List (Argument Tree)) → Token → List Token → Option (Block Tree) → List Token → Type 0
  Blocked given middle xs b ys = After middle xs b ys × (b ≡ None ⊎ LeavesBlock given)

  some-block-holds : (given : List (Argument Tree)) (middle : Token) (xs : List Token) (passes : Bool) → passes_block given ≡ passes → AreOrdered given → Holds ((if passes then (λ tokens. Ok (None, tokens)) else any_block nested turns free) xs) (Blocked (Some given) middle xs)
  some-block-holds given middle xs true e o = answered (Blocked (Some given) middle xs) None xs (no-after middle xs, inl refl)
  some-block-holds given middle xs false e o = weaker (any-holds middle xs) (λ b ys h. (h, inr (no-block given o e)))

  pub block-after-holds : (given : Option (List (Argument Tree))) (middle : Token) (xs : List Token) → Orderly given → Holds (optional_block nested turns free given xs) (Blocked given middle xs)
  unfolding optional_block
  block-after-holds None middle xs o = weaker (any-holds middle xs) (λ b ys h. (h, inr tt))
  block-after-holds (Some given) middle xs o = some-block-holds given middle xs (passes_block given) refl o

  -- the block of a command: a `do` after its last argument, which ends here
  abbrev pub Commanded : List (Argument Tree) → List Token → Option (Block Tree) → List Token → Type 0
  Commanded given xs b ys = DerivesDo free b xs ys × (b ≡ None ⊎ HasNoBlock given) × Within xs ys

  to-do : (given : List (Argument Tree)) → HasNoBlock given → (xs : List Token) → Holds (optional_do nested turns free xs) (Commanded given xs)
  unfolding optional_do
  to-do given none [] = choose
      (λ e. let none' : false ≡ true = and-right free false e in absurd (cc))
      (λ e. answered (Commanded given []) None [] (NoDo _ _, inl refl, within-self _))
  to-do given none (t ∷ ts) = choose
      (λ e. step (do-block-holds (t ∷ ts)) (λ b ys h. answered (Commanded given (t ∷ ts)) (Some b) ys
      (subst (λ f. DerivesDo f (Some b) (t ∷ ts) ys) (sym (and-left _ _ e)) (SomeDo _ _ _ _ _ (same _ _ (and-right _ _ e)) h.1), inr none, within-more h.3 (within-token h.0 (within-self ys)))))
      (λ e. answered (Commanded given (t ∷ ts)) None (t ∷ ts) (NoDo _ _, inl refl, within-self _))

  command-by : (given : List (Argument Tree)) (xs : List Token) (passes : Bool) → passes_block given ≡ passes → AreOrdered given → Holds ((if passes then (λ tokens. Ok (None, tokens)) else optional_do nested turns free) xs) (Commanded given xs)
  command-by given xs true e o = answered (Commanded given xs) None xs (NoDo _ _, inl refl, within-self _)
  command-by given xs false e o = to-do given (no-block given o e) xs

  pub command-block-holds : (given : List (Argument Tree)) → AreOrdered given → (xs : List Token) → Holds (command_block nested turns free given xs) (Commanded given xs)
  unfolding command_block
  command-block-holds given o xs = command-by given xs (passes_block given) refl o
