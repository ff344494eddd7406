-- Operands without suffixes that derive are read.
use Rattle.std.proofs.Common.{◌≡◌, ℕ, zero, suc, ◌<◌, Bool, true, false, ◌&&◌, ◌||◌, List, [], ◌∷◌, ◌++◌, length, Option, Some, None, Ok, ◌⊎◌, inl, inr, refl, sym, ap, ◌∙◌, append_assoc, append-nil, arith}
use Rattle.std.proofs.lemmas.Bool.Decides.{nat_tests}
use Rattle.rb_tree.specs.Tokens.{shape_of, same_shape}
use Rattle.rb_tree.specs.declared.syntax.Argument.{Argument}
use Rattle.rb_tree.specs.declared.syntax.Block.{Block}
use Rattle.rb_tree.specs.declared.syntax.Pair.{Pair}
use Rattle.rb_tree.specs.declared.syntax.Piece.{Piece}
use Rattle.rb_tree.specs.declared.syntax.Piece.TheVariants as piece
use Rattle.rb_tree.specs.declared.syntax.Sign.{Sign}
use Rattle.rb_tree.specs.declared.syntax.Sign.TheVariants as sign
use Rattle.rb_tree.specs.declared.syntax.Tree.{Tree}
use Rattle.rb_tree.specs.Nodes as tree
use Rattle.rb_tree.specs.declared.token.Token.{Token}
use Rattle.rb_tree.specs.declared.token.Shape.{Shape}
use Rattle.rb_tree.specs.declared.token.Shape.TheVariants as shape
use Rattle.rb_expr.specs.declared.form.Form.{Form}
use Rattle.rb_expr.specs.Reading.{Outcome, Parser, sees, touches, words_of}
use Rattle.rb_expr.specs.Shapes.{sees_number, is_signed}
use Rattle.rb_expr.specs.Operands as spec
use Rattle.rb_expr.specs.Operands.{number_by, number, touching, signed, unraised, negative, symbol, instance_variable, constant, top_constant, word_by, word, call_of, interpolation, pieces_from, pieces, text, called, yielding, super_call, elements_from, elements, array_from, array, label_pair, arrow_pair, a_pair, pairs_from, pairs, hash_from, hash, primary_by, primary}
use Rattle.rb_rules.specs.Tokens.{Is, IsAny, StartsWith, Touches, NUMBERS, IsWhole, IsFloat, IsIdentifier}
use Rattle.rb_rules.specs.Grammar.{IsRow, SIGNS, BRANCH_WORDS, LOOP_WORDS, DerivesEnd, DerivesBlock, DerivesBlockAfter, DerivesPieces, DerivesElements, DerivesPairs, DerivesPair, DerivesPrimary, DerivesBody, DerivesBrackets}
use Rattle.rb_rules.specs.Grammar.DerivesBlock.{Braces, DoEnd}
use Rattle.rb_rules.specs.Grammar.DerivesBlockAfter.{NoBlock, SomeBlock}
use Rattle.rb_rules.specs.Grammar.DerivesPieces.{NoPiece, MorePieces}
use Rattle.rb_rules.specs.Grammar.DerivesElements.{LastElement, MoreElements}
use Rattle.rb_rules.specs.Grammar.DerivesPairs.{LastPair, MorePairs}
use Rattle.rb_rules.specs.Grammar.DerivesPair.{ByArrow, ByLabel}
use Rattle.rb_rules.specs.Grammar.DerivesPrimary.{WholeNumber, FloatNumber, SignedWhole, SignedFloat, String, SymbolName, InstanceName, ConstantName, FromTop, SelfPlace, NilPlace, TruePlace, FalsePlace, NameAlone, CallWithBrackets, CallWithBlock, Yields, Supers, EmptyArray, SomeArray, EmptyHash, SomeHash, InParens, Branches, Loops, Guards, Cases}
use Rattle.rb_grammar.proofs.Steps.{shown, same, Within, within-self, within-token, within-more}
use Rattle.rb_grammar_laws.specs.Begins.{TERMS, ARGUMENTS}
use Rattle.rb_grammar_laws.specs.Ends.{Ends, BODY_ENDS, TERM_ENDS, PRIMARY_ENDS}
use Rattle.rb_grammar_laws.proofs.Steps as steps
use Rattle.rb_grammar_laws.proofs.Steps.{on, taken, passed, by-row, expects, names, words, other, unseen, skipped, Past, past-token, past-within, past-more, within-past, past-length, within-length, gap-within, ends-by, ends-unseen, no-do, identifier, label, whole, float}
use Rattle.rb_grammar_laws.proofs.Begins.{term-begins}
use Rattle.rb_grammar_laws.proofs.Complete.{Reads, Complete}
use Rattle.rb_grammar_laws.proofs.Lists.{square, curly, list-ends, list-within, element-closed, element-more}
use Rattle.rb_grammar_laws.proofs.Calls.{brackets-read, any-read, after-read, block-ends}
use Rattle.rb_expr.specs.Branches.{branch, repeated}
use Rattle.rb_grammar_laws.proofs.Branches.{branch-read, repeated-read, choice-read, guards-read}
use Rattle.rb_rules.specs.Grammar.DerivesBrackets.{NoBrackets}
use Rattle.rb_expr.specs.declared.form.Form.TheVariants as form
use Rattle.rb_expr.specs.Calls.{any_block, optional_block}
use Rattle.rb_rules.specs.Forms.{HasNoBlock, Inside}

-- ---- numbers

touch : (s t : Token) (ts : List Token) → Touches s t → touches s.span (t ∷ ts) ≡ true
touch s t ts e = grind (arith, nat_tests)

number-seen : (t : Token) (ts : List Token) → IsAny NUMBERS t → sees_number (t ∷ ts) ≡ true
unfolding sees_number
number-seen t ts (inl is) = ap (λ b. b || sees shape.Float (t ∷ ts)) (shown shape.Whole t ts is)
number-seen t ts (inr (inl is)) = or-right (sees shape.Whole (t ∷ ts)) _ (shown shape.Float t ts is)
  where
    or-right : (a b : Bool) → b ≡ true → (a || b) ≡ true
    or-right true b e = refl
    or-right false b e = e
number-seen t ts (inr (inr h)) = absurd h

pub signed-seen : (s t : Token) (ts : List Token) → IsAny NUMBERS t → Touches s t → is_signed s.span (t ∷ ts) ≡ true
unfolding is_signed
signed-seen s t ts is near = ap (λ b. b && sees_number (t ∷ ts)) (touch s t ts near) ∙ number-seen t ts is

pub unraised-seen : (xs : List Token) → ¬ StartsWith (shape.Power ∷ []) xs → sees shape.Power xs ≡ false
unraised-seen [] h = refl
unraised-seen (t ∷ ts) h = go (sees shape.Power (t ∷ ts)) refl
  where
    go : (b : Bool) → sees shape.Power (t ∷ ts) ≡ b → b ≡ false
    go true e = absurd (h (inl (same _ _ e)))
    go false e = refl

whole-number : (mark : Option Sign) (start : ℕ) (t : Token) (ts : List Token) (w : List ℕ) → IsWhole t w → number mark start (t ∷ ts) ≡ Ok (tree.Whole mark w (record { start = start; end = t.span.end }), ts)
unfolding number
whole-number mark start t ts w is = ap (λ s. number_by mark start (Some s) (t ∷ ts)) (whole t w is) ∙ on _ (words shape.Whole t ts w (whole t w is) (ap words_of is)) refl

float-number : (mark : Option Sign) (start : ℕ) (t : Token) (ts : List Token) (w : List ℕ) → IsFloat t w → number mark start (t ∷ ts) ≡ Ok (tree.Float mark w (record { start = start; end = t.span.end }), ts)
unfolding number
float-number mark start t ts w is = ap (λ s. number_by mark start (Some s) (t ∷ ts)) (float t w is) ∙ on _ (words shape.Float t ts w (float t w is) (ap words_of is)) refl

-- a number and its sign
signed-read : (how : Sign) (s t : Token) (ts : List Token) (r : Outcome Tree) → IsAny NUMBERS t → Touches s t → number (Some how) s.span.start (t ∷ ts) ≡ r → signed how (s ∷ t ∷ ts) ≡ r
unfolding signed touching
signed-read how s t ts r is near e = taken _ _ (signed-seen s t ts is near) e

module _ (nested : Form → Bool → Parser Tree) (turns : ℕ) (ih : Complete turns nested) where
  -- what begins by a token of this shape
  opened : (free : Bool) (s : Shape) (t : Token) (ts : List Token) (r : Outcome Tree) → Is s t → primary_by nested turns free (Some s) (t ∷ ts) ≡ r → primary nested turns free (t ∷ ts) ≡ r
  unfolding primary
  opened free s t ts r is e = ap (λ s. primary_by nested turns free (Some s) (t ∷ ts)) is ∙ e

  signed-number : (free : Bool) (how : Sign) (s t : Token) (ts : List Token) (v : Tree) → IsRow SIGNS (shape_of s.kind) how → (how ≡ sign.Plus ⊎ ¬ StartsWith (shape.Power ∷ []) ts) → signed how (s ∷ t ∷ ts) ≡ Ok (v, ts) → primary nested turns free (s ∷ t ∷ ts) ≡ Ok (v, ts)
  unfolding primary negative unraised
  signed-number free how s t ts v (inl row) (inl up) e = absurd (let f = sym (row.1) ∙ up in cc)
  signed-number free how s t ts v (inl row) (inr up) e = ap (λ c. primary_by nested turns free (Some c) (s ∷ t ∷ ts)) (row.0) ∙ on _ (ap (λ how. signed how (s ∷ t ∷ ts)) (sym row.1) ∙ e) (passed _ _ (unraised-seen ts up) refl)
  signed-number free how s t ts v (inr (inl row)) up e = ap (λ c. primary_by nested turns free (Some c) (s ∷ t ∷ ts)) (row.0) ∙ ap (λ how. signed how (s ∷ t ∷ ts)) (sym row.1) ∙ e
  signed-number free how s t ts v (inr (inr row)) up e = absurd row

  -- ---- strings

  code-read : (o c : Token) (body : Tree) (xs ys : List Token) → Is shape.Interpolation o → DerivesBody Inside true body xs (c ∷ ys) → Is shape.CloseBrace c → (free : Bool) → length (o ∷ xs) < turns →
      (interpolation nested turns free (o ∷ xs) ≡ Ok (piece.Code body (record { start = o.span.start; end = c.span.end }), ys)) × Within xs (c ∷ ys)
  unfolding interpolation same_shape
  code-read o c body xs ys is d is2 free fits =
      let r = ih.body true body xs (c ∷ ys) (let h : suc (length xs) < turns = omega arith in h) d (ends-by BODY_ENDS shape.CloseBrace refl refl true c ys is2) in
      (on _ (expects shape.Interpolation o xs is) (on _ r.0 (on _ (expects shape.CloseBrace c ys is2) refl)), r.1)

  pieces-read : (free : Bool) (more : List (Piece Tree)) (before last : Token) (xs ys : List Token) → DerivesPieces more before last xs ys → sees shape.Interpolation ys ≡ false → (n : ℕ) (found : List (Piece Tree)) (start : ℕ) → length xs < n → length xs < turns →
      (pieces_from nested turns free start before.span.end n found xs ≡ Ok (tree.Text (found ++ more) (record { start = start; end = last.span.end }), ys)) × Within (before ∷ xs) (last ∷ ys)
  unfolding pieces_from same_shape
  pieces-read free more before last xs ys d none zero found start less fits = absurd (let h : ⊥ = omega arith in h)
  pieces-read free more before last xs ys (NoPiece _ _) none (suc n) found start less fits = (passed _ _ none (ap (λ all. Ok (tree.Text all (record { start = start; end = last.span.end }), ys)) (sym (append-nil found))), within-self _)
  pieces-read free more before last xs ys (MorePieces _ o c t _ body w rest us ps _ is d is2 is3 e) none (suc n) found start less fits =
      let r = code-read o c body us (t ∷ ps) is d is2 free fits in
      let short = within-length r.1 in
      let code : Piece Tree = piece.Code body (record { start = o.span.start; end = c.span.end }) in
      let text : Piece Tree = piece.Words w t.span in
      let l = pieces-read free rest t last ps ys e none n ((found ++ code ∷ []) ++ text ∷ []) start (let h : length ps < n = omega arith in h) (let h : length ps < turns = omega arith in h) in (
        taken _ _ (shown shape.Interpolation o us is) (on _ r.0 (on _ (words shape.Text t ps w (steps.text t w is3) (ap words_of is3))
            (l.0 ∙ ap (λ all. Ok (tree.Text all (record { start = start; end = last.span.end }), ys)) (append_assoc (found ++ code ∷ []) (text ∷ []) rest ∙ append_assoc found (code ∷ []) (text ∷ rest))))),
        within-token before (within-token o (within-more r.1 (within-token c l.1))),
      )

  -- ---- names

  block-no-paren : (free : Bool) (b : Block Tree) (last : Token) (xs ys : List Token) → DerivesBlock free b last xs ys → sees shape.OpenParen xs ≡ false
  unfolding same_shape
  block-no-paren free b last xs ys (Braces _ o c more body us ps _ is d h is2) = other shape.OpenParen shape.OpenBrace o us is refl
  block-no-paren free b last xs ys (DoEnd o c more body us ps _ is d h is2) = other shape.OpenParen shape.Do o us is refl

  pub after-no-paren : (free : Bool) (b : Option (Block Tree)) (middle last : Token) (xs ys : List Token) → DerivesBlockAfter free b middle last xs ys → Ends PRIMARY_ENDS free ys → sees shape.OpenParen xs ≡ false
  unfolding same_shape
  after-no-paren free b middle last xs ys (NoBlock _ _ _) ends = ends-unseen shape.OpenParen PRIMARY_ENDS refl free ys ends
  after-no-paren free b middle last xs ys (SomeBlock _ _ _ some _ _ d) ends = block-no-paren free some last xs ys d

  -- ---- arrays and hashes

  elements-begin : (given : List Tree) (xs ys : List Token) → DerivesElements given xs ys → StartsWith TERMS xs
  elements-begin given xs ys (LastElement t _ _ d) = term-begins true t xs ys d
  elements-begin given xs ys (MoreElements c t more _ ps qs _ d is g e) = term-begins true t xs (c ∷ ps) d

  elements-read : (free : Bool) (given : List Tree) (xs qs : List Token) → DerivesElements given xs qs → (c : Token) (ys : List Token) → DerivesEnd qs (c ∷ ys) → Is shape.CloseBracket c → (n start : ℕ) (found : List Tree) → length xs < n → suc (length xs) < turns →
      (elements_from nested turns free start n found xs ≡ Ok (tree.Array (found ++ given) (record { start = start; end = c.span.end }), ys)) × Past xs (c ∷ ys)
  unfolding elements_from same_shape
  elements-read free given xs qs d c ys end is zero start found less fits = absurd (let h : ⊥ = omega arith in h)
  elements-read free given xs qs (LastElement t _ _ d) c ys end is (suc n) start found less fits =
      let r = ih.term true t xs qs fits d (list-ends shape.CloseBracket square true true qs c ys end is) in
      (on _ r.0 (on _ (element-closed shape.CloseBracket square true refl qs c ys end is) refl), past-more r.1 (list-within true qs c ys end))
  elements-read free given xs qs (MoreElements m t more _ ps us _ d is2 g e) c ys end is (suc n) start found less fits =
      let begin = elements-begin more us qs e in
      let r = ih.term true t xs (m ∷ ps) fits d (ends-by TERM_ENDS shape.Comma refl refl true m ps is2) in
      let p = past-more r.1 (within-token m (gap-within ps us g)) in
      let short = past-length p in
      let l = elements-read free more us qs e c ys end is n start (found ++ t ∷ []) (let h : length us < n = omega arith in h) (let h : suc (length us) < turns = omega arith in h) in (
        on _ r.0 (on _ (element-more shape.CloseBracket m ps us is2 g (unseen shape.Separator TERMS refl us begin) (unseen shape.CloseBracket TERMS refl us begin))
            (l.0 ∙ ap (λ all. Ok (tree.Array all (record { start = start; end = c.span.end }), ys)) (append_assoc found (t ∷ []) more))),
        past-more p (past-within l.1),
      )

  pair-begins : (p : Pair Tree) (xs ys : List Token) → DerivesPair p xs ys → StartsWith ARGUMENTS xs
  unfolding same_shape
  pair-begins p [] ys (ByArrow a k v _ ps _ d is e) = term-begins true k [] (a ∷ ps) d
  pair-begins p (x ∷ xs) ys (ByArrow a k v _ ps _ d is e) = inr (inr (term-begins true k (x ∷ xs) (a ∷ ps) d))
  pair-begins p xs ys (ByLabel l w v _ _ is d) = inl (label l w is)

  pair-read : (free : Bool) (p : Pair Tree) (xs ys : List Token) → DerivesPair p xs ys → Ends TERM_ENDS true ys → suc (length xs) < turns → Reads (a_pair nested turns free) p xs ys
  unfolding a_pair label_pair arrow_pair same_shape
  pair-read free p xs ys (ByArrow a k v _ ps _ d is e) ends fits =
      let r = ih.term true k xs (a ∷ ps) fits d (ends-by TERM_ENDS shape.Arrow refl refl true a ps is) in
      let short = past-length r.1 in
      let l = ih.term true v ps ys (let h : suc (length ps) < turns = omega arith in h) e ends in
      (passed _ _ (unseen shape.Label TERMS refl xs (term-begins true k xs (a ∷ ps) d)) (on _ r.0 (on _ (expects shape.Arrow a ps is) (on _ l.0 refl))), past-more r.1 (within-token a (past-within l.1)))
  pair-read free p xs ys (ByLabel m w v us _ is d) ends fits =
      let r = ih.term true v us ys (let h : suc (length us) < turns = omega arith in h) d ends in
      (taken _ _ (shown shape.Label m us (label m w is)) (on _ (names shape.Label m us w (label m w is) (ap words_of is)) (on _ r.0 refl)), past-token m (past-within r.1))

  pairs-begin : (given : List (Pair Tree)) (xs ys : List Token) → DerivesPairs given xs ys → StartsWith ARGUMENTS xs
  pairs-begin given xs ys (LastPair p _ _ d) = pair-begins p xs ys d
  pairs-begin given xs ys (MorePairs c p more _ ps qs _ d is g e) = pair-begins p xs (c ∷ ps) d

  pairs-read : (free : Bool) (given : List (Pair Tree)) (xs qs : List Token) → DerivesPairs given xs qs → (c : Token) (ys : List Token) → DerivesEnd qs (c ∷ ys) → Is shape.CloseBrace c → (n start : ℕ) (found : List (Pair Tree)) → length xs < n → suc (length xs) < turns →
      (pairs_from nested turns free start n found xs ≡ Ok (tree.Hash (found ++ given) (record { start = start; end = c.span.end }), ys)) × Past xs (c ∷ ys)
  unfolding pairs_from same_shape
  pairs-read free given xs qs d c ys end is zero start found less fits = absurd (let h : ⊥ = omega arith in h)
  pairs-read free given xs qs (LastPair p _ _ d) c ys end is (suc n) start found less fits =
      let r = pair-read free p xs qs d (list-ends shape.CloseBrace curly true true qs c ys end is) fits in
      (on _ r.0 (on _ (element-closed shape.CloseBrace curly true refl qs c ys end is) refl), past-more r.1 (list-within true qs c ys end))
  pairs-read free given xs qs (MorePairs m p more _ ps us _ d is2 g e) c ys end is (suc n) start found less fits =
      let begin = pairs-begin more us qs e in
      let r = pair-read free p xs (m ∷ ps) d (ends-by TERM_ENDS shape.Comma refl refl true m ps is2) fits in
      let p' = past-more r.1 (within-token m (gap-within ps us g)) in
      let short = past-length p' in
      let l = pairs-read free more us qs e c ys end is n start (found ++ p ∷ []) (let h : length us < n = omega arith in h) (let h : suc (length us) < turns = omega arith in h) in (
        on _ r.0 (on _ (element-more shape.CloseBrace m ps us is2 g (unseen shape.Separator ARGUMENTS refl us begin) (unseen shape.CloseBrace ARGUMENTS refl us begin))
            (l.0 ∙ ap (λ all. Ok (tree.Hash all (record { start = start; end = c.span.end }), ys)) (append_assoc found (p ∷ []) more))),
        past-more p' (past-within l.1),
      )

  -- ---- all of them

  -- what is read of an operand: up to its last token
  abbrev pub ReadsUpTo : Bool → Tree → Token → List Token → List Token → Type 0
  ReadsUpTo free p last xs ys = (primary nested turns free xs ≡ Ok (p, ys)) × Within xs (last ∷ ys)

  called-alone : (free : Bool) (t : Token) (w : List ℕ) (ys : List Token) → IsIdentifier t w → Ends PRIMARY_ENDS free ys → length (t ∷ ys) < turns → primary nested turns free (t ∷ ys) ≡ Ok (tree.Name w t.span, ys)
  unfolding called same_shape
  called-alone free t w ys is ends fits =
      let none = brackets-read nested turns ih free None t t ys ys (NoBrackets t ys) (ends-unseen shape.OpenParen PRIMARY_ENDS refl free ys ends) (let h : length ys < turns = omega arith in h) in
      let b = after-read nested turns ih free None None t t ys ys (NoBlock free t ys) (inl refl) ends (let h : length ys < turns = omega arith in h) in
      opened free shape.Identifier t ys _ (identifier t w is) (on _ (names shape.Identifier t ys w (identifier t w is) (ap words_of is)) (on _ none.0 (on _ b.0 refl)))

  called-brackets : (free : Bool) (t middle last : Token) (w : List ℕ) (arguments : List (Argument Tree)) (b : Option (Block Tree)) (xs ps ys : List Token) → IsIdentifier t w → DerivesBrackets (Some arguments) t middle xs ps → DerivesBlockAfter free b middle last ps ys →
      (b ≡ None ⊎ HasNoBlock arguments) → Ends PRIMARY_ENDS free ys → length (t ∷ xs) < turns →
      (primary nested turns free (t ∷ xs) ≡ Ok (tree.Call w t.span (Some arguments) b (record { start = t.span.start; end = last.span.end }), ys)) × Within (t ∷ xs) (last ∷ ys)
  unfolding called
  called-brackets free t middle last w arguments b xs ps ys is d e leaves ends fits =
      let r = brackets-read nested turns ih free (Some arguments) t middle xs ps d (after-no-paren free b middle last ps ys e ends) (let h : length xs < turns = omega arith in h) in
      let short = within-length r.1 in
      let l = after-read nested turns ih free (Some arguments) b middle last ps ys e leaves ends (let h : length ps < turns = omega arith in h) in (
        opened free shape.Identifier t xs _ (identifier t w is) (on _ (names shape.Identifier t xs w (identifier t w is) (ap words_of is)) (on _ r.0 (on _ l.0
            (ap (λ end. Ok (tree.Call w t.span (Some arguments) b (record { start = t.span.start; end = end }), ys)) (l.2 middle.span.end refl))))),
        within-more r.1 l.1,
      )

  after-some : (free : Bool) (b : Block Tree) (xs ys : List Token) → any_block nested turns free xs ≡ Ok (Some b, ys) → optional_block nested turns free None xs ≡ Ok (Some b, ys)
  unfolding optional_block
  after-some free b xs ys e = e

  called-block : (free : Bool) (t last : Token) (w : List ℕ) (b : Block Tree) (xs ys : List Token) → IsIdentifier t w → DerivesBlock free b last xs ys → length (t ∷ xs) < turns →
      (primary nested turns free (t ∷ xs) ≡ Ok (tree.Call w t.span None (Some b) (record { start = t.span.start; end = last.span.end }), ys)) × Within (t ∷ xs) (last ∷ ys)
  unfolding called
  called-block free t last w b xs ys is d fits =
      let none = brackets-read nested turns ih free None t t xs xs (NoBrackets t xs) (block-no-paren free b last xs ys d) (let h : length xs < turns = omega arith in h) in
      let r = any-read nested turns ih free b last xs ys d (let h : length xs < turns = omega arith in h) in (
        opened free shape.Identifier t xs _ (identifier t w is) (on _ (names shape.Identifier t xs w (identifier t w is) (ap words_of is)) (on _ none.0 (on _ (after-some free b xs ys r.0)
            (ap (λ end. Ok (tree.Call w t.span None (Some b) (record { start = t.span.start; end = end }), ys)) (block-ends nested turns ih free b last xs ys d))))),
        within-token t (past-within r.1),
      )

  parens-read : (free : Bool) (o c : Token) (body : Tree) (us ys : List Token) → nested form.Body true us ≡ Ok (body, c ∷ ys) → Is shape.CloseParen c → spec.parens nested turns free (o ∷ us) ≡ Ok (tree.Parens body (record { start = o.span.start; end = c.span.end }), ys)
  unfolding spec.parens
  parens-read free o c body us ys e closes = on _ e (on _ (expects shape.CloseParen c ys closes) refl)

  -- as its first token says
  opened-by : (free : Bool) (t : Token) (ts : List Token) (r : Outcome Tree) → primary_by nested turns free (Some (shape_of t.kind)) (t ∷ ts) ≡ r → primary nested turns free (t ∷ ts) ≡ r
  unfolding primary
  opened-by free t ts r e = e

  pub primary-read : (free : Bool) (p : Tree) (last : Token) (xs ys : List Token) → DerivesPrimary free p last xs ys → Ends PRIMARY_ENDS free ys → length xs < turns → ReadsUpTo free p last xs ys
  unfolding symbol instance_variable constant top_constant word text pieces yielding super_call array array_from elements hash hash_from pairs same_shape
  primary-read free p last xs ys (WholeNumber _ t w _ is) ends fits = (opened free shape.Whole t ys _ (whole t w is) (whole-number None t.span.start t ys w is), within-self _)
  primary-read free p last xs ys (FloatNumber _ t w _ is) ends fits = (opened free shape.Float t ys _ (float t w is) (float-number None t.span.start t ys w is), within-self _)
  primary-read free p last xs ys (SignedWhole _ s t how w _ row near up is) ends fits =
      (signed-number free how s t ys _ row up (signed-read how s t ys _ (inl (whole t w is)) near (whole-number (Some how) s.span.start t ys w is)), within-token s (within-self _))
  primary-read free p last xs ys (SignedFloat _ s t how w _ row near up is) ends fits =
      (signed-number free how s t ys _ row up (signed-read how s t ys _ (inr (inl (float t w is))) near (float-number (Some how) s.span.start t ys w is)), within-token s (within-self _))
  primary-read free p last xs ys (String _ t _ w more us _ is d) ends fits =
      let r = pieces-read free more t last us ys d (ends-unseen shape.Interpolation PRIMARY_ENDS refl free ys ends) turns (piece.Words w t.span ∷ []) t.span.start (let h : length us < turns = omega arith in h) (let h : length us < turns = omega arith in h) in
      (opened free shape.Text t us _ (steps.text t w is) (on _ (words shape.Text t us w (steps.text t w is) (ap words_of is)) r.0), r.1)
  primary-read free p last xs ys (SymbolName _ t w _ is) ends fits = (opened free shape.Symbol t ys _ (steps.symbol t w is) (on _ (words shape.Symbol t ys w (steps.symbol t w is) (ap words_of is)) refl), within-self _)
  primary-read free p last xs ys (InstanceName _ t w _ is) ends fits = (opened free shape.InstanceVariable t ys _ (steps.instance_variable t w is) (on _ (names shape.InstanceVariable t ys w (steps.instance_variable t w is) (ap words_of is)) refl), within-self _)
  primary-read free p last xs ys (ConstantName _ t w _ is) ends fits = (opened free shape.Constant t ys _ (steps.constant t w is) (on _ (names shape.Constant t ys w (steps.constant t w is) (ap words_of is)) refl), within-self _)
  primary-read free p last xs ys (FromTop _ c t w _ is con) ends fits = (opened free shape.Scope c (t ∷ ys) _ is (on _ (names shape.Constant t ys w (steps.constant t w con) (ap words_of con)) refl), within-token c (within-self _))
  primary-read free p last xs ys (SelfPlace _ t _ is) ends fits = (opened free shape.SelfWord t ys _ is (ap (λ s. Ok (word_by (Some s) t.span, ys)) is), within-self _)
  primary-read free p last xs ys (NilPlace _ t _ is) ends fits = (opened free shape.Nil t ys _ is (ap (λ s. Ok (word_by (Some s) t.span, ys)) is), within-self _)
  primary-read free p last xs ys (TruePlace _ t _ is) ends fits = (opened free shape.True t ys _ is (ap (λ s. Ok (word_by (Some s) t.span, ys)) is), within-self _)
  primary-read free p last xs ys (FalsePlace _ t _ is) ends fits = (opened free shape.False t ys _ is (ap (λ s. Ok (word_by (Some s) t.span, ys)) is), within-self _)
  primary-read free p last xs ys (NameAlone _ t w _ is) ends fits = (called-alone free t w ys is ends fits, within-self _)
  primary-read free p last xs ys (CallWithBrackets _ t middle _ w arguments b us ps _ is d e leaves) ends fits = called-brackets free t middle last w arguments b us ps ys is d e leaves ends fits
  primary-read free p last xs ys (CallWithBlock _ t _ w b us _ is d) ends fits = called-block free t last w b us ys is d fits
  primary-read free p last xs ys (Yields _ t _ arguments us _ is d) ends fits =
      let r = brackets-read nested turns ih free arguments t last us ys d (ends-unseen shape.OpenParen PRIMARY_ENDS refl free ys ends) (let h : length us < turns = omega arith in h) in
      (opened free shape.Yield t us _ is (on _ r.0 refl), r.1)
  primary-read free p last xs ys (Supers _ t _ arguments us _ is d) ends fits =
      let r = brackets-read nested turns ih free arguments t last us ys d (ends-unseen shape.OpenParen PRIMARY_ENDS refl free ys ends) (let h : length us < turns = omega arith in h) in
      (opened free shape.Super t us _ is (on _ r.0 refl), r.1)
  primary-read free p last xs ys (EmptyArray _ o c us _ is g closes) ends fits = (
    opened free shape.OpenBracket o us _ is (ap (λ zs. array_from nested turns free o.span.start zs) (skipped us (c ∷ ys) g (other shape.Separator shape.CloseBracket c ys closes refl))
        ∙ taken _ _ (shown shape.CloseBracket c ys closes) (on _ (expects shape.CloseBracket c ys closes) refl)),
    within-token o (gap-within us (c ∷ ys) g),
  )
  primary-read free p last xs ys (SomeArray _ o c given us ps qs _ is g d end closes) ends fits =
      let begin = elements-begin given ps qs d in
      let w = gap-within us ps g in
      let short = within-length w in
      let r = elements-read free given ps qs d c ys end closes turns o.span.start [] (let h : length ps < turns = omega arith in h) (let h : suc (length ps) < turns = omega arith in h) in (
        opened free shape.OpenBracket o us _ is (ap (λ zs. array_from nested turns free o.span.start zs) (skipped us ps g (unseen shape.Separator TERMS refl ps begin))
            ∙ passed _ _ (unseen shape.CloseBracket TERMS refl ps begin) r.0),
        within-token o (within-more w (past-within r.1)),
      )
  primary-read free p last xs ys (EmptyHash _ o c us _ is g closes) ends fits = (
    opened free shape.OpenBrace o us _ is (ap (λ zs. hash_from nested turns free o.span.start zs) (skipped us (c ∷ ys) g (other shape.Separator shape.CloseBrace c ys closes refl))
        ∙ taken _ _ (shown shape.CloseBrace c ys closes) (on _ (expects shape.CloseBrace c ys closes) refl)),
    within-token o (gap-within us (c ∷ ys) g),
  )
  primary-read free p last xs ys (SomeHash _ o c given us ps qs _ is g d end closes) ends fits =
      let begin = pairs-begin given ps qs d in
      let w = gap-within us ps g in
      let short = within-length w in
      let r = pairs-read free given ps qs d c ys end closes turns o.span.start [] (let h : length ps < turns = omega arith in h) (let h : suc (length ps) < turns = omega arith in h) in (
        opened free shape.OpenBrace o us _ is (ap (λ zs. hash_from nested turns free o.span.start zs) (skipped us ps g (unseen shape.Separator ARGUMENTS refl ps begin))
            ∙ passed _ _ (unseen shape.CloseBrace ARGUMENTS refl ps begin) r.0),
        within-token o (within-more w (past-within r.1)),
      )
  primary-read free p last xs ys (InParens _ o c body us _ is d closes) ends fits =
      let r = ih.body true body us (c ∷ ys) fits d (ends-by BODY_ENDS shape.CloseParen refl refl true c ys closes) in
      (opened free shape.OpenParen o us _ is (parens-read free o c body us ys r.0 closes), within-token o r.1)
  primary-read free p last xs ys (Branches _ k z which c body arms o us ps qs rs vs _ row d t b a only e is) ends fits =
      let r = branch-read nested turns ih free k z which c body arms o us ps qs rs vs ys d t b a only e is fits in (
        opened-by free k us _ (by-row BRANCH_WORDS (λ s which. branch nested turns free which (k ∷ us) ≡ Ok (tree.If which c body arms o (record { start = k.span.start; end = z.span.end }), ys) → primary_by nested turns free (Some s) (k ∷ us) ≡ Ok (tree.If which c body arms o (record { start = k.span.start; end = z.span.end }), ys))
            ((λ h. h), ((λ h. h), tt)) _ _ row r.0),
        within-token k (past-within r.1),
      )
  primary-read free p last xs ys (Loops _ k t z which c body us ps _ row d any b is) ends fits =
      let r = repeated-read nested turns ih free k t z which c body us ps ys d any b is fits in (
        opened-by free k us _ (by-row LOOP_WORDS (λ s which. repeated nested turns free which (k ∷ us) ≡ Ok (tree.While which c body (record { start = k.span.start; end = z.span.end }), ys) → primary_by nested turns free (Some s) (k ∷ us) ≡ Ok (tree.While which c body (record { start = k.span.start; end = z.span.end }), ys))
            ((λ h. h), ((λ h. h), tt)) _ _ row r.0),
        within-token k (past-within r.1),
      )
  primary-read free p last xs ys (Guards _ k z g us _ is d is2) ends fits =
      let r = guards-read nested turns ih free k z g us ys d is2 fits in
      (opened free shape.Begin k us _ is r.0, within-token k r.1)
  primary-read free p last xs ys (Cases _ k z given arm arms o us ps qs rs _ is d g w e is2) ends fits =
      let r = choice-read nested turns ih free k z given arm arms o us ps qs rs ys d g w e is2 fits in
      (opened free shape.Case k us _ is r.0, within-token k (past-within r.1))
