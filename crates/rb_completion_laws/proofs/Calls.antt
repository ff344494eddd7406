-- Arguments and blocks that are begun can be completed.
use Rattle.std.proofs.Common.{◌≡◌, ℕ, zero, suc, ◌-◌, Bool, true, false, ◌&&◌, if◌then◌else◌, List, [], ◌∷◌, ◌++◌, length, slice_get, Option, Some, None, Ok, Err, ◌⊎◌, inl, inr, refl, sym, ap, subst, ◌∙◌}
use Rattle.srb_terms.specs.declared.span.Span.{Span}
use Rattle.rb_tree.specs.Tokens.{shape_of, same_shape}
use Rattle.rb_tree.specs.declared.syntax.Argument.{Argument}
use Rattle.rb_tree.specs.declared.syntax.Argument.TheVariants as argument
use Rattle.rb_tree.specs.declared.syntax.Block.{Block}
use Rattle.rb_tree.specs.declared.syntax.PlacedName.{PlacedName}
use Rattle.rb_tree.specs.declared.syntax.Tree.{Tree}
use Rattle.rb_tree.specs.declared.token.Token.{Token}
use Rattle.rb_tree.specs.declared.token.TokenKind.TheVariants as kind
use Rattle.rb_tree.specs.declared.token.Shape.{Shape}
use Rattle.rb_tree.specs.declared.token.Shape.TheVariants as shape
use Rattle.rb_expr.specs.declared.form.Form.{Form}
use Rattle.rb_expr.specs.declared.lists.Order.{Order}
use Rattle.rb_expr.specs.declared.lists.Order.TheVariants as order
use Rattle.rb_expr.specs.Reading.{Outcome, Parser, and_then, sees, after, words_of, skip_separators, refuse}
use Rattle.rb_expr.specs.Lists.{order_of, is_keyword, is_block, is_some_block, passes_block, goes_on, noted, is_among, fresh_name}
use Rattle.rb_expr.specs.Calls as spec
use Rattle.rb_expr.specs.Calls.{keyword, passed_block, positional, argument_by, listed_from, listed, in_brackets, brackets, index_arguments, optional_brackets, bare_from, bare, bar_names_from, bar_names, bars, block, optional_do, any_block, optional_block, command_block}
use Rattle.rb_rules.specs.Tokens.{Is, IsIdentifier}
use Rattle.rb_rules.specs.Spans.{last_of}
use Rattle.rb_rules.specs.Forms.{Inside, AreOrdered, HasNoBlock, AreDistinct, names_of}
use Rattle.rb_rules.specs.Grammar.{Gap, DerivesEnd, BarNames, Bars, DerivesBody, DerivesArgument, DerivesArguments, DerivesBrackets, DerivesBlock, DerivesDo, named as placed}
use Rattle.rb_rules.specs.Grammar.GapIn.{Tight, Loose}
use Rattle.rb_rules.specs.Grammar.BarNames.{LastBar, MoreBars}
use Rattle.rb_rules.specs.Grammar.Bars.{NoBars, SomeBars}
use Rattle.rb_rules.specs.Grammar.DerivesArgument.{ByPlace, ByName, AsBlock}
use Rattle.rb_rules.specs.Grammar.DerivesArguments.{LastArgument, MoreArguments}
use Rattle.rb_rules.specs.Grammar.DerivesBrackets.{EmptyBrackets, Brackets}
use Rattle.rb_rules.specs.Grammar.DerivesBlock.{Braces, DoEnd}
use Rattle.rb_rules.specs.Grammar.DerivesDo.{NoDo, SomeDo}
use Rattle.rb_grammar.proofs.Steps.{same, seen, within-more, within-token, label, identifier}
use Rattle.rb_grammar.proofs.Lists.{and-left, and-right, Allowed, Ordered, last-ordered, more-ordered, last-got, Fresh, apart-all, noted-new}
use Rattle.rb_completion_laws.proofs.Steps.{Rel, Reach, Completes, Stands, Seq, stands-as, seq-stands, reach-as, reach-more, reach-one, reach-token, reach-within, complete-as, complete-then, complete-after, complete-token, Goes, bind, goes-as, choosing, Plain, plainly, done, refusing, answering, headed-closing, One, new_token, one-stands, expecting, naming, gap, if-seen, Ended, AnyEnd, Closing, stands-end, seq-closing, closingly, Last, last-stands, closing, before-last, before-one, taken, led, out, reach-this}
use Rattle.rb_completion_laws.proofs.Viable.{Viable, bodied, ATerm, body-stands, term-stands}
use Rattle.rb_completion_laws.proofs.Branches.{end-stands}
use Rattle.rb_completion_laws.proofs.Lists.{paren-one, bracket-one, brace-one, ClosedBy, closed-stands, after-argument-goes}
use Rattle.rb_completion_laws.proofs.Fresh.{new_name, new-name}

pub label-one : Stands (One shape.Label)
unfolding shape_of
label-one = one-stands (kind.Label []) shape.Label refl (λ zs. refl)

-- ---- the last argument

added-last : {A : Type 0} (x : A) (xs : List A) (y : A) → last_of x (xs ++ y ∷ []) ≡ y
added-last x [] y = refl
added-last x (z ∷ xs) y = added-last z xs y

pub added-got : {A : Type 0} (xs : List A) (y : A) → slice_get (xs ++ y ∷ []) (length (xs ++ y ∷ []) - 1) ≡ Some y
added-got [] y = refl
added-got (x ∷ xs) y = last-got x (xs ++ y ∷ []) ∙ ap Some (added-last x xs y)

passes-added : (found : List (Argument Tree)) (a : Argument Tree) → passes_block (found ++ a ∷ []) ≡ is_block (order_of a)
unfolding passes_block
passes-added found a = ap is_some_block (added-got found a)

-- none of these is given as a block, where the parser saw none
abbrev pub NoneIf : List (Argument Tree) → List (Argument Tree) → Type 0
NoneIf given arguments = passes_block given ≡ false → HasNoBlock arguments

no-block-one : (b : Argument Tree) → is_block (order_of b) ≡ false → HasNoBlock (b ∷ [])
no-block-one (argument.Positional v) e = tt
no-block-one (argument.Keyword n s v) e = tt
no-block-one (argument.Block s v) e = absurd (cc)

no-block-more : (b : Argument Tree) (more : List (Argument Tree)) → is_block (order_of b) ≡ false → HasNoBlock more → HasNoBlock (b ∷ more)
no-block-more (argument.Positional v) more e h = h
no-block-more (argument.Keyword n s v) more e h = h
no-block-more (argument.Block s v) more e h = absurd (cc)

module _ (nested : Form → Bool → Parser Tree) (ih : Viable nested) (turns : ℕ) (free : Bool) where
  -- ---- one argument

  -- of the kind of this one
  abbrev LikeArgument : Bool → Bool → Argument Tree → Rel
  LikeArgument keywords takes a us zs = (b : Argument Tree) × DerivesArgument takes b us zs × (order_of b ≡ order_of a) × Allowed (order_of a) keywords

  abbrev SomeArgument : Bool → Bool → Rel
  SomeArgument keywords takes us zs = (b : Argument Tree) × DerivesArgument takes b us zs × Allowed (order_of b) keywords

  abbrev Argued : Bool → Bool → List Token → Outcome (Argument Tree) → Type 0
  Argued keywords takes xs o = Goes o (λ a ys. Reach xs ys (LikeArgument keywords takes a)) (λ rest. Completes xs rest (SomeArgument keywords takes))

  by-name : (keywords takes : Bool) (us zs : List Token) → Seq (One shape.Label) (ATerm takes) us zs → SomeArgument keywords takes us zs
  by-name keywords takes us zs h = led (SomeArgument keywords takes) h (λ l ls is d. (_, ByName _ _ _ _ _ _ (label l is) d.1, tt))

  argument-stands : (keywords takes : Bool) → Stands (SomeArgument keywords takes)
  argument-stands keywords takes = stands-as (seq-stands label-one (term-stands takes)) (by-name keywords takes)

  keyword-goes : (keywords takes : Bool) (xs : List Token) → Argued keywords takes xs (keyword nested turns free takes xs)
  unfolding keyword
  keyword-goes keywords takes xs = bind (naming shape.Label label-one xs) (λ rest r. complete-as (complete-then r (term-stands takes)) (by-name keywords takes))
      (λ l ys r. bind (ih.term takes ys) (λ rest q. complete-as (complete-after r q) (by-name keywords takes))
      (λ v zs q. record { told = reach-as (reach-more r q) (λ us zs h. led (LikeArgument keywords takes (argument.Keyword l.name l.span v)) h (λ l ls is d. (_, ByName _ _ _ _ _ _ (label l is) d.1, refl, tt))) }))

  passed-goes : (keywords takes : Bool) (t : Token) (ts : List Token) → Is shape.Ampersand t → Argued keywords takes (t ∷ ts) (passed_block nested turns free takes (t ∷ ts))
  unfolding passed_block
  passed-goes keywords takes t ts is = taken shape.Ampersand _ t ts is (bind (ih.term takes ts) (λ rest r. complete-token t (complete-as r (λ us zs d. (_, AsBlock _ _ _ _ _ is d.1, tt))))
      (λ v ys r. record { told = reach-token t (reach-as r (λ us zs d. (_, AsBlock _ _ _ _ _ is d.1, refl, tt))) }))

  positional-goes : (keywords takes : Bool) (xs : List Token) → Argued keywords takes xs ((if keywords then refuse else positional nested turns free takes) xs)
  unfolding positional
  positional-goes true takes xs = refusing xs (argument-stands true takes)
  positional-goes false takes xs = bind (ih.term takes xs) (λ rest r. complete-as r (λ us zs d. (_, ByPlace _ _ _ _ d.1, tt)))
      (λ v ys r. record { told = reach-as r (λ us zs d. (_, ByPlace _ _ _ _ d.1, refl, tt)) })

  argument-by' : (keywords takes : Bool) (s : Shape) (t : Token) (ts : List Token) → Is s t → Argued keywords takes (t ∷ ts) (argument_by nested turns free keywords takes (Some s) (t ∷ ts))
  argument-by' keywords takes shape.Label t ts is = keyword-goes keywords takes (t ∷ ts)
  argument-by' keywords takes shape.Ampersand t ts is = passed-goes keywords takes t ts is
  argument-by' keywords takes s t ts is = positional-goes keywords takes (t ∷ ts)

  argument-goes : (keywords takes : Bool) (xs : List Token) → Argued keywords takes xs (spec.one_argument nested turns free keywords takes xs)
  unfolding spec.one_argument
  argument-goes keywords takes [] = positional-goes keywords takes []
  argument-goes keywords takes (t ∷ ts) = argument-by' keywords takes (shape_of t.kind) t ts refl

  -- ---- arguments in brackets

  abbrev SomeListed : Shape → Bool → Token → Rel
  SomeListed closer keywords last us zs = (more : List (Argument Tree)) × (qs : List Token) × DerivesArguments true true more us qs × Ordered keywords more × ClosedBy closer last qs zs

  abbrev Listed : Shape → Bool → List (Argument Tree) → Token → Rel
  Listed closer keywords given last us zs = (more : List (Argument Tree)) × (qs : List Token) × DerivesArguments true true more us qs × Ordered keywords more × ClosedBy closer last qs zs × NoneIf given more

  one-listed : (closer : Shape) (keywords : Bool) (last : Token) (us zs : List Token) → Seq (SomeArgument keywords true) (ClosedBy closer last) us zs → SomeListed closer keywords last us zs
  one-listed closer keywords last us zs h = (h.first.0 ∷ [], h.mid, LastArgument _ _ _ _ _ h.first.1, last-ordered h.first.0 keywords h.first.2, h.second)

  listed-stands : (closer : Shape) → Stands (One closer) → (keywords : Bool) → Stands (AnyEnd (SomeListed closer keywords))
  listed-stands closer one keywords = stands-as (stands-end (argument-stands keywords true) (closed-stands closer one)) (λ us zs h. (h.0, one-listed closer keywords h.0 us zs h.1))

  -- an argument before others
  more-listed : (closer : Shape) (keywords : Bool) (a : Argument Tree) (last : Token) (us zs : List Token) → is_block (order_of a) ≡ false → Seq (Seq (LikeArgument keywords true a) (Seq (One shape.Comma) Gap)) (SomeListed closer (is_keyword (order_of a)) last) us zs → SomeListed closer keywords last us zs
  more-listed closer keywords a last us zs e h =
      let b = h.first.first in
      let comma = h.first.second.first in
      let d = subst (λ v. LikeArgument keywords true a us v) comma.2 b in (
        d.0 ∷ h.second.0,
        h.second.1,
        MoreArguments _ _ _ _ _ _ _ _ _ d.1 comma.1 (Loose _ _ h.first.second.second) h.second.2,
        more-ordered d.0 keywords h.second.0 (subst (λ o. Allowed o keywords) (sym d.2) d.3) (ap is_block d.2 ∙ e) (subst (λ o. Ordered (is_keyword o) h.second.0) (sym d.2) h.second.3),
        h.second.4,
      )

  listed-more : (closer : Shape) (keywords : Bool) (a : Argument Tree) (given : List (Argument Tree)) (last : Token) (us zs : List Token) → is_block (order_of a) ≡ false → Seq (Seq (LikeArgument keywords true a) (Seq (One shape.Comma) Gap)) (Listed closer (is_keyword (order_of a)) given last) us zs → Listed closer keywords given last us zs
  listed-more closer keywords a given last us zs e h =
      let b = h.first.first in
      let comma = h.first.second.first in
      let d = subst (λ v. LikeArgument keywords true a us v) comma.2 b in (
        d.0 ∷ h.second.0,
        h.second.1,
        MoreArguments _ _ _ _ _ _ _ _ _ d.1 comma.1 (Loose _ _ h.first.second.second) h.second.2,
        more-ordered d.0 keywords h.second.0 (subst (λ o. Allowed o keywords) (sym d.2) d.3) (ap is_block d.2 ∙ e) (subst (λ o. Ordered (is_keyword o) h.second.0) (sym d.2) h.second.3),
        h.second.4,
        λ f. no-block-more d.0 h.second.0 (ap is_block d.2 ∙ e) (h.second.5 f),
      )

  listed-last : (closer : Shape) (keywords : Bool) (found : List (Argument Tree)) (a : Argument Tree) (last : Token) (us zs : List Token) → Seq (LikeArgument keywords true a) (ClosedBy closer last) us zs → Listed closer keywords (found ++ a ∷ []) last us zs
  listed-last closer keywords found a last us zs h = (
    h.first.0 ∷ [],
    h.mid,
    LastArgument _ _ _ _ _ h.first.1,
    last-ordered h.first.0 keywords (subst (λ o. Allowed o keywords) (sym h.first.2) h.first.3),
    h.second,
    λ f. no-block-one h.first.0 (ap is_block h.first.2 ∙ sym (passes-added found a) ∙ f),
  )

  like-some : (keywords takes : Bool) (a : Argument Tree) (us zs : List Token) → LikeArgument keywords takes a us zs → SomeArgument keywords takes us zs
  like-some keywords takes a us zs h = (h.0, h.1, subst (λ o. Allowed o keywords) (sym h.2) h.3)

  listed-goes : (closer : Shape) → Stands (One closer) → (n : ℕ) (keywords : Bool) (found : List (Argument Tree)) (xs : List Token) →
      Goes (listed_from nested turns free closer n keywords found xs) (λ r ys. Ended xs ys (Listed closer keywords r.0)) (λ rest. Completes xs rest (AnyEnd (SomeListed closer keywords)))
  unfolding listed_from
  listed-goes closer one zero keywords found xs = refusing xs (listed-stands closer one keywords)
  listed-goes closer one (suc n) keywords found xs = bind (argument-goes keywords true xs)
      (λ rest r. complete-as (complete-then r (closed-stands closer one)) (λ us zs h. (h.second.0, one-listed closer keywords h.second.0 us zs (record { mid = h.mid; first = h.first; second = h.second.1 }))))
      (λ a ps ra. bind (after-argument-goes closer one (order_of a) ps)
      (λ rest q. complete-as (complete-after ra q) (λ us zs h. (h.second.0, one-listed closer keywords h.second.0 us zs (record { mid = h.mid; first = like-some keywords true a _ _ h.first; second = h.second.1 }))))
      (elim [
        | Some place ↦ λ ys g. record { told = (g.0, within-more (reach-within ra) g.1, reach-as (reach-more ra g.2) (listed-last closer keywords found a g.0)) }
        | None ↦ λ qs g. goes-as (listed-goes closer one n (is_keyword (order_of a)) (found ++ a ∷ []) qs)
            (λ r zs m. (m.0, within-more (reach-within (reach-more ra g.0)) m.1, reach-as (reach-more (reach-more ra g.0) m.2) (λ us zs h. listed-more closer keywords a r.0 m.0 us zs g.1 h)))
            (λ rest q. complete-as (complete-after (reach-more ra g.0) q) (λ us zs h. (h.second.0, more-listed closer keywords a h.second.0 us zs g.1 (record { mid = h.mid; first = h.first; second = h.second.1 }))))
      ]))

  -- in brackets, up to the closing one
  abbrev SomeInside : Token → Rel
  SomeInside last us zs = (arguments : List (Argument Tree)) × ((before o : Token) (ws : List Token) → Is shape.OpenParen o → Gap ws us → DerivesBrackets (Some arguments) before last (o ∷ ws) zs)

  abbrev Inside' : List (Argument Tree) → Token → Rel
  Inside' given last us zs = (arguments : List (Argument Tree)) × ((before o : Token) (ws : List Token) → Is shape.OpenParen o → Gap ws us → DerivesBrackets (Some arguments) before last (o ∷ ws) zs) × NoneIf given arguments

  some-inside : (last : Token) (us zs : List Token) → SomeListed shape.CloseParen false last us zs → SomeInside last us zs
  unfolding same_shape
  some-inside last us zs m = (m.0, λ before o ws is g. Brackets _ _ _ _ _ _ _ _ is g m.2 m.3 m.4.1 m.4.0)

  given-inside : (given : List (Argument Tree)) (last : Token) (us zs : List Token) → Listed shape.CloseParen false given last us zs → Inside' given last us zs
  unfolding same_shape
  given-inside given last us zs m = (m.0, (λ before o ws is g. Brackets _ _ _ _ _ _ _ _ is g m.2 m.3 m.4.1 m.4.0), m.5)

  empty-inside : (last : Token) (us zs : List Token) → Last shape.CloseParen last us zs → (before o : Token) (ws : List Token) → Is shape.OpenParen o → Gap ws us → DerivesBrackets (Some []) before last (o ∷ ws) zs
  empty-inside last us zs h before o ws is g = EmptyBrackets _ _ _ _ _ is (subst (λ v. Gap ws v) h.1 g) h.0

  abbrev Bracketing : List Token → Outcome (List (Argument Tree) × Span) → Type 0
  Bracketing xs o = Goes o (λ r ys. Ended xs ys (Inside' r.0)) (λ rest. Completes xs rest (AnyEnd SomeInside))

  many-goes : (xs : List Token) → Bracketing xs (listed nested turns free shape.CloseParen xs)
  unfolding listed
  many-goes xs = goes-as (listed-goes shape.CloseParen paren-one turns false [] xs) (λ r ys m. (m.0, m.1, reach-as m.2 (given-inside r.0 m.0))) (λ rest q. complete-as q (λ us zs h. (h.0, some-inside h.0 us zs h.1)))

  abbrev IsEmpty : List (Argument Tree) × Span → Type 0
  IsEmpty r = r.0 ≡ []

  inside-goes : (xs : List Token) → Bracketing xs (in_brackets nested turns free xs)
  unfolding in_brackets
  inside-goes xs = choosing (sees shape.CloseParen xs)
      (λ e. goes-as (closing {T = IsEmpty} shape.CloseParen paren-one (λ place. ([], place)) (λ place. refl) xs)
      (λ r ys m. (m.1.0, m.1.1, reach-as m.1.2 (λ us zs h. ([], empty-inside m.1.0 us zs h, λ f. tt))))
      (λ rest q. complete-as q (λ us zs h. (h.0, ([], empty-inside h.0 us zs h.1)))))
      (λ e. many-goes xs)

  -- with the opening bracket, after any token
  abbrev pub SomeBrackets : Token → Rel
  SomeBrackets last us zs = (arguments : List (Argument Tree)) × ((before : Token) → DerivesBrackets (Some arguments) before last us zs)

  abbrev pub InBrackets : List (Argument Tree) → Token → Rel
  InBrackets given last us zs = (arguments : List (Argument Tree)) × ((before : Token) → DerivesBrackets (Some arguments) before last us zs) × NoneIf given arguments

  bracketed-goes : (t : Token) (ts : List Token) → Is shape.OpenParen t → Goes (brackets nested turns free (t ∷ ts)) (λ r ys. Ended (t ∷ ts) ys (InBrackets r.0)) (λ rest. Completes (t ∷ ts) rest (AnyEnd SomeBrackets))
  unfolding brackets
  bracketed-goes t ts is = taken shape.OpenParen _ t ts is (goes-as (inside-goes (skip_separators ts))
      (λ r ys m. (m.0, within-token t (within-more (reach-within (gap ts)) m.1), reach-token t (reach-as (reach-more (gap ts) m.2) (λ us zs h. (h.second.0, (λ before. h.second.1 before t us is h.first), h.second.2)))))
      (λ rest q. complete-token t (complete-as (complete-after (gap ts) q) (λ us zs h. (h.second.0, (h.second.1.0, λ before. h.second.1.1 before t us is h.first))))))

  -- brackets, if they stand
  abbrev pub Given : List Token → Option (List (Argument Tree)) → List Token → Type 0
  Given xs None ys = xs ≡ ys
  Given xs (Some given) ys = Ended xs ys (InBrackets given)

  pub given-goes : (end : ℕ) (xs : List Token) → Goes (optional_brackets nested turns free end xs) (λ r ys. Given xs r.0 ys) (λ rest. Completes xs rest (AnyEnd SomeBrackets))
  unfolding optional_brackets
  given-goes end [] = record { told = refl }
  given-goes end (t ∷ ts) = choosing (same_shape (shape_of t.kind) shape.OpenParen)
      (λ e. bind (bracketed-goes t ts (same _ _ e)) (λ rest q. q) (λ r ys m. record { told = m }))
      (λ e. record { told = refl })

  abbrev pub AnIndex : Token → Rel
  AnIndex last us zs = (arguments : List (Argument Tree)) × (ps qs : List Token) × Gap us ps × DerivesArguments true true arguments ps qs × AreOrdered arguments × DerivesEnd qs (last ∷ zs) × Is shape.CloseBracket last

  index-of : (last : Token) (us zs : List Token) → Seq Gap (SomeListed shape.CloseBracket false last) us zs → AnIndex last us zs
  unfolding same_shape
  index-of last us zs h = (h.second.0, h.mid, h.second.1, h.first, h.second.2, h.second.3, h.second.4.1, h.second.4.0)

  some-listed : (closer : Shape) (keywords : Bool) (given : List (Argument Tree)) (last : Token) (us zs : List Token) → Listed closer keywords given last us zs → SomeListed closer keywords last us zs
  some-listed closer keywords given last us zs m = (m.0, m.1, m.2, m.3, m.4)

  abbrev Anything : List (Argument Tree) × Span → Type 0
  Anything r = Unit {0}

  pub index-goes : (xs : List Token) → Closing xs (index_arguments nested turns free xs) Anything AnIndex
  unfolding index_arguments listed
  index-goes xs = goes-as (listed-goes shape.CloseBracket bracket-one turns false [] (skip_separators xs))
      (λ r ys m. (tt, (m.0, within-more (reach-within (gap xs)) m.1, reach-as (reach-more (gap xs) m.2) (λ us zs h. index-of m.0 us zs (record { mid = h.mid; first = h.first; second = some-listed shape.CloseBracket false r.0 m.0 _ _ h.second })))))
      (λ rest q. complete-as (complete-after (gap xs) q) (λ us zs h. let k = out h in (k.0, index-of k.0 us zs k.1)))

  -- ---- arguments without brackets

  abbrev pub SomeBare : Bool → Rel
  SomeBare keywords us zs = (arguments : List (Argument Tree)) × DerivesArguments false false arguments us zs × Ordered keywords arguments

  abbrev pub Bare : Bool → List (Argument Tree) → Rel
  Bare keywords given us zs = (arguments : List (Argument Tree)) × DerivesArguments false false arguments us zs × Ordered keywords arguments × NoneIf given arguments

  one-bare : (keywords : Bool) (us zs : List Token) → SomeArgument keywords false us zs → SomeBare keywords us zs
  one-bare keywords us zs h = (h.0 ∷ [], LastArgument _ _ _ _ _ h.1, last-ordered h.0 keywords h.2)

  pub bare-stands : (keywords : Bool) → Stands (SomeBare keywords)
  bare-stands keywords = stands-as (argument-stands keywords false) (one-bare keywords)

  last-bare : (keywords : Bool) (found : List (Argument Tree)) (a : Argument Tree) (us zs : List Token) → LikeArgument keywords false a us zs → Bare keywords (found ++ a ∷ []) us zs
  last-bare keywords found a us zs h = (h.0 ∷ [], LastArgument _ _ _ _ _ h.1, last-ordered h.0 keywords (subst (λ o. Allowed o keywords) (sym h.2) h.3), λ f. no-block-one h.0 (ap is_block h.2 ∙ sym (passes-added found a) ∙ f))

  abbrev Before : Bool → Argument Tree → Rel
  Before keywords a = Seq (LikeArgument keywords false a) (One shape.Comma)

  more-bare : (keywords : Bool) (a : Argument Tree) (us zs : List Token) → is_block (order_of a) ≡ false → Seq (Before keywords a) (SomeBare (is_keyword (order_of a))) us zs → SomeBare keywords us zs
  more-bare keywords a us zs e h =
      let d = before-one h.first in (
        d.0 ∷ h.second.0,
        MoreArguments _ _ _ _ _ _ _ _ _ d.1 h.first.second.1 (Tight _) h.second.1,
        more-ordered d.0 keywords h.second.0 (subst (λ o. Allowed o keywords) (sym d.2) d.3) (ap is_block d.2 ∙ e) (subst (λ o. Ordered (is_keyword o) h.second.0) (sym d.2) h.second.2),
      )

  bare-more : (keywords : Bool) (a : Argument Tree) (given : List (Argument Tree)) (us zs : List Token) → is_block (order_of a) ≡ false → Seq (Before keywords a) (Bare (is_keyword (order_of a)) given) us zs → Bare keywords given us zs
  bare-more keywords a given us zs e h =
      let d = before-one h.first in (
        d.0 ∷ h.second.0,
        MoreArguments _ _ _ _ _ _ _ _ _ d.1 h.first.second.1 (Tight _) h.second.1,
        more-ordered d.0 keywords h.second.0 (subst (λ o. Allowed o keywords) (sym d.2) d.3) (ap is_block d.2 ∙ e) (subst (λ o. Ordered (is_keyword o) h.second.0) (sym d.2) h.second.2),
        λ f. no-block-more d.0 h.second.0 (ap is_block d.2 ∙ e) (h.second.3 f),
      )

  going-on : (given : Order) (xs : List Token) → goes_on given xs ≡ true → (is_block given ≡ false) × (sees shape.Comma xs ≡ true)
  unfolding goes_on
  going-on order.Positional xs e = (refl, e)
  going-on order.Keyword xs e = (refl, e)
  going-on order.Block xs e = absurd (cc)

  comma-after : {D : Rel} (xs ps : List Token) → Reach xs ps D → sees shape.Comma ps ≡ true → Reach xs (after ps) (Seq D (One shape.Comma))
  comma-after {D = D} xs ps r e = let s = seen shape.Comma ps e in reach-more r (subst (λ v. Reach v (after ps) (One shape.Comma)) (sym s.2) (reach-one shape.Comma s.0 (after ps) s.1))

  bare-from' : (n : ℕ) (keywords : Bool) (found : List (Argument Tree)) (xs : List Token) → Goes (bare_from nested turns free n keywords found xs) (λ r ys. Reach xs ys (Bare keywords r.0)) (λ rest. Completes xs rest (SomeBare keywords))
  unfolding bare_from
  bare-from' zero keywords found xs = refusing xs (bare-stands keywords)
  bare-from' (suc n) keywords found xs = bind (argument-goes keywords false xs) (λ rest r. complete-as r (one-bare keywords)) (λ a ps ra. choosing (goes_on (order_of a) ps)
      (λ e. let on = going-on (order_of a) ps e in
      let rc = comma-after xs ps ra on.1 in
      goes-as (bare-from' n (is_keyword (order_of a)) (found ++ a ∷ []) (after ps)) (λ r ys m. reach-as (reach-more rc m) (λ us zs h. bare-more keywords a r.0 us zs on.0 h))
      (λ rest q. complete-as (complete-after rc q) (λ us zs h. more-bare keywords a us zs on.0 h)))
      (λ e. record { told = reach-as ra (last-bare keywords found a) }))

  pub bare-goes : (xs : List Token) → Goes (bare nested turns free xs) (λ r ys. Reach xs ys (Bare false r.0)) (λ rest. Completes xs rest (SomeBare false))
  unfolding bare
  bare-goes xs = bare-from' turns false [] xs

  -- ---- blocks

  -- names after these, up to the closing bar
  abbrev NameRow : List (List ℕ) → Rel
  NameRow names us zs = (more : List PlacedName) × (z : Token) × BarNames more us (z ∷ zs) × Is shape.Pipe z × Fresh names more × AreDistinct (names_of more)

  abbrev NewName : List (List ℕ) → List ℕ → Rel
  NewName names w us zs = (t : Token) × IsIdentifier t w × (us ≡ t ∷ zs) × (is_among names w ≡ false)

  abbrev SomeName : List (List ℕ) → Rel
  SomeName names us zs = (w : List ℕ) × NewName names w us zs

  new-stands : (names : List (List ℕ)) → Stands (SomeName names)
  unfolding shape_of
  new-stands names zs c = record { whole = new_token (kind.Identifier (new_name names)) ∷ zs; clear = refl; derives = (new_name names, (new_token (kind.Identifier (new_name names)), refl, refl, new-name names)) }

  name-goes : (names : List (List ℕ)) (xs : List Token) → Goes (fresh_name names xs) (λ p ys. Reach xs ys (NewName names p.name)) (λ rest. Completes xs rest (SomeName names))
  unfolding fresh_name
  name-goes names [] = refusing [] (new-stands names)
  name-goes names (t ∷ ts) = by (same_shape (shape_of t.kind) shape.Identifier) refl
    where
      by : (b : Bool) → same_shape (shape_of t.kind) shape.Identifier ≡ b → Goes {A = PlacedName} (and_then (if b then Ok (record { name = words_of t.kind; span = t.span }, ts) else Err (t ∷ ts)) (λ next rest. if is_among names next.name then Err (t ∷ ts) else Ok (next, rest)))
          (λ p ys. Reach (t ∷ ts) ys (NewName names p.name)) (λ rest. Completes (t ∷ ts) rest (SomeName names))
      by false e = refusing (t ∷ ts) (new-stands names)
      by true e = choosing (is_among names (words_of t.kind)) (λ old. refusing (t ∷ ts) (new-stands names))
          (λ new. record { told = reach-as (reach-this t ts) (λ us zs h. (t, identifier t (same _ _ e), h, new)) })

  pipe-one : Stands (One shape.Pipe)
  unfolding shape_of
  pipe-one = one-stands kind.Pipe shape.Pipe refl (λ zs. refl)

  last-name : (names : List (List ℕ)) (us zs : List Token) → Seq (SomeName names) (One shape.Pipe) us zs → NameRow names us zs
  last-name names us zs h =
      let d = before-one h in
      subst (λ v. NameRow names v zs) (sym d.1.2) (placed d.1.0 d.0 ∷ [], h.second.0, LastBar _ _ _ d.1.1, h.second.1, (d.1.3, tt), (tt, tt))

  more-names : (names : List (List ℕ)) (w : List ℕ) (us zs : List Token) → Seq (Seq (NewName names w) (One shape.Comma)) (NameRow (noted names w)) us zs → NameRow names us zs
  more-names names w us zs h =
      let d = before-one h.first in
      let new = d.3 in
      let m = h.second in
      let parts = apart-all names w m.0 (subst (λ ns. Fresh ns m.0) (noted-new names w new) m.4) in
      subst (λ v. NameRow names v zs) (sym d.2) (placed d.0 w ∷ m.0, m.1, MoreBars _ _ _ _ _ _ d.1 h.first.second.1 m.2, m.3, (new, parts.0), (parts.1, m.5))

  rest-stands : (names : List (List ℕ)) → Stands (NameRow names)
  rest-stands names = stands-as (seq-stands (new-stands names) pipe-one) (last-name names)

  names-from : (n : ℕ) (names : List (List ℕ)) (found : List PlacedName) (xs : List Token) → Plain xs (bar_names_from nested turns free n names found xs) (NameRow names)
  unfolding bar_names_from
  names-from zero names found xs = refusing xs (rest-stands names)
  names-from (suc n) names found xs = bind (name-goes names xs) (λ rest r. complete-as (complete-then r pipe-one) (last-name names)) (λ p ps rp. choosing (sees shape.Comma ps)
      (λ e. let rc = comma-after xs ps rp e in
      goes-as (names-from n (noted names p.name) (found ++ p ∷ []) (after ps)) (λ r ys m. reach-as (reach-more rc m) (more-names names p.name)) (λ rest q. complete-as (complete-after rc q) (more-names names p.name)))
      (λ e. goes-as (answering (λ _. found ++ p ∷ []) (expecting shape.Pipe pipe-one ps)) (λ r ys m. reach-as (reach-more rp m) (λ us zs h. last-name names us zs (record { mid = h.mid; first = (p.name, h.first); second = h.second })))
      (λ rest q. complete-as (complete-after rp q) (λ us zs h. last-name names us zs (record { mid = h.mid; first = (p.name, h.first); second = h.second })))))

  abbrev InBars : Rel
  InBars us zs = (names : List PlacedName) × Bars names us zs

  bars-go : (xs : List Token) → Plain xs (bars nested turns free xs) InBars
  unfolding bars bar_names
  bars-go xs = if-seen shape.Pipe (λ ts. _) xs (λ t ts is. plainly (names-from turns [] [] ts) (λ us zs m. (m.0, SomeBars _ _ _ _ _ is m.2 m.3 m.5))) (done [] xs (λ zs. ([], NoBars _)))

  abbrev pub ABlock : Bool → Token → Rel
  ABlock f last us zs = (b : Block Tree) × DerivesBlock f b last us zs

  -- how the parts of a block make one
  abbrev MadeBlock : (Token → Rel) → Shape → Shape → Type 0
  MadeBlock D opener closer = (o c : Token) (names : List PlacedName) (body : Tree) (xs ps ys : List Token) → Is opener o → Bars names xs ps → DerivesBody Inside true body ps (c ∷ ys) → Is closer c → D c (o ∷ xs) ys

  abbrev AnyBlock : Block Tree → Type 0
  AnyBlock b = Unit {0}

  block-goes : (D : Token → Rel) (opener closer : Shape) → MadeBlock D opener closer → Stands (One closer) → (t : Token) (ts : List Token) → Is opener t → Closing (t ∷ ts) (block nested turns free opener closer (t ∷ ts)) AnyBlock D
  unfolding block
  block-goes D opener closer make one t ts is =
      let e = last-stands one in
      let b = stands-end (body-stands Inside true) e in
      taken opener _ t ts is (headed-closing t (closingly (seq-closing (bars-go ts) b (λ names ps. seq-closing (bodied (ih.body true ps)) e (λ body qs. closing closer one _ (λ place. tt) qs)))
      (λ last us zs h. make t last h.first.0 _ us h.mid zs is h.first.1 (before-last h.second).1 h.second.second.0)))

  braces-go : (t : Token) (ts : List Token) → Is shape.OpenBrace t → Closing (t ∷ ts) (block nested turns free shape.OpenBrace shape.CloseBrace (t ∷ ts)) AnyBlock (ABlock free)
  braces-go t ts is = block-goes (ABlock free) shape.OpenBrace shape.CloseBrace (λ o c names body xs ps ys a b d e. (_, Braces _ _ _ _ _ _ _ _ a b d e)) brace-one t ts is

  -- with `do`
  abbrev ADo : Token → Rel
  ADo last us zs = (b : Block Tree) × DerivesBlock true b last us zs × DerivesDo true (Some b) us zs

  do-block-goes : (t : Token) (ts : List Token) → Is shape.Do t → Closing (t ∷ ts) (block nested turns free shape.Do shape.End (t ∷ ts)) AnyBlock ADo
  do-block-goes t ts is = block-goes ADo shape.Do shape.End (λ o c names body xs ps ys a b d e. (_, DoEnd _ _ _ _ _ _ _ a b d e, SomeDo _ _ _ _ _ a (DoEnd _ _ _ _ _ _ _ a b d e))) end-stands t ts is

  -- a block, if one stands
  abbrev pub After : List Token → Option (Block Tree) → List Token → Type 0
  After xs None ys = xs ≡ ys
  After xs (Some b) ys = Ended xs ys (ABlock free)

  abbrev Blocking : List Token → Outcome (Option (Block Tree)) → Type 0
  Blocking xs o = Goes o (After xs) (λ rest. Completes xs rest (AnyEnd (ABlock free)))

  as-free : (f : Bool) → f ≡ true → (last : Token) (us zs : List Token) → ADo last us zs → ABlock f last us zs
  as-free f e last us zs h = subst (λ f. ABlock f last us zs) (sym e) (h.0, h.1)

  do-after-goes : (xs : List Token) → Blocking xs (optional_do nested turns free xs)
  unfolding optional_do
  do-after-goes [] = choosing (free && false) (λ e. absurd (let f = and-right free false e in cc)) (λ e. record { told = refl })
  do-after-goes (t ∷ ts) = choosing (free && same_shape (shape_of t.kind) shape.Do)
      (λ e. bind (do-block-goes t ts (same _ _ (and-right free _ e))) (λ rest q. complete-as q (λ us zs h. (h.0, as-free free (and-left _ _ e) h.0 us zs h.1)))
      (λ b ys m. record { told = (m.1.0, m.1.1, reach-as m.1.2 (as-free free (and-left _ _ e) m.1.0)) }))
      (λ e. record { told = refl })

  any-goes : (xs : List Token) → Blocking xs (any_block nested turns free xs)
  unfolding any_block
  any-goes [] = do-after-goes []
  any-goes (t ∷ ts) = choosing (same_shape (shape_of t.kind) shape.OpenBrace)
      (λ e. bind (braces-go t ts (same _ _ e)) (λ rest q. q) (λ b ys m. record { told = m.1 }))
      (λ e. do-after-goes (t ∷ ts))

  -- no block may stand after arguments that give one
  abbrev pub MayBlock : Option (List (Argument Tree)) → Type 0
  MayBlock None = Unit {0}
  MayBlock (Some given) = passes_block given ≡ false

  some-block-goes : (given : List (Argument Tree)) (xs : List Token) (passes : Bool) → passes_block given ≡ passes → Goes ((if passes then (λ tokens. Ok (None, tokens)) else any_block nested turns free) xs) (λ b ys. After xs b ys × (b ≡ None ⊎ MayBlock (Some given))) (λ rest. MayBlock (Some given) × Completes xs rest (AnyEnd (ABlock free)))
  some-block-goes given xs true e = record { told = (refl, inl refl) }
  some-block-goes given xs false e = goes-as (any-goes xs) (λ b ys m. (m, inr e)) (λ rest q. (e, q))

  pub block-after-goes : (given : Option (List (Argument Tree))) (xs : List Token) → Goes (optional_block nested turns free given xs) (λ b ys. After xs b ys × (b ≡ None ⊎ MayBlock given)) (λ rest. MayBlock given × Completes xs rest (AnyEnd (ABlock free)))
  unfolding optional_block
  block-after-goes None xs = goes-as (any-goes xs) (λ b ys m. (m, inr tt)) (λ rest q. (tt, q))
  block-after-goes (Some given) xs = some-block-goes given xs (passes_block given) refl

  -- the `do` of a command, if one stands
  abbrev pub Commanded : List (Argument Tree) → Rel
  Commanded given us zs = (b : Option (Block Tree)) × DerivesDo free b us zs × (b ≡ None ⊎ (passes_block given ≡ false))

  to-do : (given : List (Argument Tree)) → passes_block given ≡ false → (xs : List Token) → Plain xs (optional_do nested turns free xs) (Commanded given)
  unfolding optional_do
  to-do given none [] = choosing (free && false) (λ e. absurd (let f = and-right free false e in cc)) (λ e. done None [] (λ zs. (None, NoDo _ _, inl refl)))
  to-do given none (t ∷ ts) = choosing (free && same_shape (shape_of t.kind) shape.Do)
      (λ e. bind (do-block-goes t ts (same _ _ (and-right free _ e))) (λ rest q. complete-as q (λ us zs h. done' (and-left _ _ e) h.0 us zs h.1))
      (λ b ys m. record { told = reach-as m.1.2 (done' (and-left _ _ e) m.1.0) }))
      (λ e. done None (t ∷ ts) (λ zs. (None, NoDo _ _, inl refl)))
    where
      done' : free ≡ true → (last : Token) (us zs : List Token) → ADo last us zs → Commanded given us zs
      done' e last us zs h = (_, subst (λ f. DerivesDo f (Some h.0) us zs) (sym e) h.2, inr none)

  command-by : (given : List (Argument Tree)) (xs : List Token) (passes : Bool) → passes_block given ≡ passes → Plain xs ((if passes then (λ tokens. Ok (None, tokens)) else optional_do nested turns free) xs) (Commanded given)
  command-by given xs true e = done None xs (λ zs. (None, NoDo _ _, inl refl))
  command-by given xs false e = to-do given e xs

  pub command-block-goes : (given : List (Argument Tree)) (xs : List Token) → Plain xs (command_block nested turns free given xs) (Commanded given)
  unfolding command_block
  command-block-goes given xs = command-by given xs (passes_block given) refl
