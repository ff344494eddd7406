-- Operands with their suffixes that derive are read.
use Rattle.std.proofs.Common.{◌≡◌, ℕ, zero, suc, ◌+◌, ◌-◌, ◌<◌, Bool, true, false, not, ◌||◌, List, [], ◌∷◌, ◌++◌, length, slice_get, Option, Some, None, Ok, ◌⊎◌, inl, inr, refl, sym, ap, subst, ◌∙◌, length-append, arith, ⊎_elim}
use Rattle.std.proofs.lemmas.Bool.Decides.{nat_tests}
use Rattle.rb_tree.specs.Tokens.{shape_of, same_shape}
use Rattle.rb_tree.specs.Trees.{span_of}
use Rattle.rb_tree.specs.declared.syntax.Argument.{Argument}
use Rattle.rb_tree.specs.declared.syntax.Block.{Block}
use Rattle.rb_tree.specs.declared.syntax.Dot.{Dot}
use Rattle.rb_tree.specs.declared.syntax.Suffix.{Suffix}
use Rattle.rb_tree.specs.declared.syntax.Suffix.TheVariants as suffix
use Rattle.rb_tree.specs.declared.syntax.Tree.{Tree}
use Rattle.rb_tree.specs.Nodes as tree
use Rattle.rb_tree.specs.declared.token.Token.{Token}
use Rattle.rb_tree.specs.declared.token.Shape.{Shape}
use Rattle.rb_tree.specs.declared.token.Shape.TheVariants as shape
use Rattle.rb_expr.specs.declared.form.Form.{Form}
use Rattle.rb_expr.specs.Reading.{Parser, pure, touches, words_of}
use Rattle.rb_expr.specs.Shapes.{closes, is_index_after, is_index}
use Rattle.rb_expr.specs.Lists.{span_of_suffix}
use Rattle.rb_expr.specs.Operands.{call_suffix, constant_suffix, index_suffix, suffix_by, a_suffix, suffixes_from, suffixes, post_of, post}
use Rattle.rb_rules.specs.Tokens.{IsAny, Touches, IsIdentifier}
use Rattle.rb_rules.specs.Spans.{across, last_of, suffix_span}
use Rattle.rb_rules.specs.Forms.{LeavesBlock}
use Rattle.rb_rules.specs.Grammar.{IsRow, DOTS, posted, DerivesBrackets, DerivesBlockAfter, DerivesOperand, DerivesSuffix, DerivesIndex}
use Rattle.rb_rules.specs.Grammar.DerivesSuffix.{Calls, Within as Inner, Indexed}
use Rattle.rb_rules.specs.Grammar.DerivesIndex.{Index}
use Rattle.rb_rules.specs.Grammar.DerivesOperand.{Bare, Suffixed}
use Rattle.rb_grammar.proofs.Steps.{Within, within-self, within-token, within-more}
use Rattle.rb_grammar.proofs.Lists.{last-got}
use Rattle.rb_grammar_laws.specs.Ends.{Ends, OPERAND_ENDS, PRIMARY_ENDS}
use Rattle.rb_grammar_laws.proofs.Steps.{on, taken, by-row, each, not-false, names, Past, past-token, past-within, within-past, within-length, ends-by, ends-wider, identifier, constant}
use Rattle.rb_grammar_laws.proofs.Complete.{Complete}
use Rattle.rb_grammar_laws.proofs.Calls.{index-read, brackets-read, after-read}
use Rattle.rb_grammar_laws.proofs.Operands.{after-no-paren, primary-read}

-- ---- the last of a list

last-added : {A : Type 0} (x : A) (xs : List A) (y : A) → last_of x (xs ++ y ∷ []) ≡ y
last-added x [] y = refl
last-added x (z ∷ xs) y = last-added z xs y

pub added-got : {A : Type 0} (xs : List A) (y : A) → slice_get (xs ++ y ∷ []) (length (xs ++ y ∷ []) - 1) ≡ Some y
added-got [] y = refl
added-got (x ∷ xs) y = last-got x (xs ++ y ∷ []) ∙ ap Some (last-added x xs y)

got-at : {A : Type 0} (front : List A) (b : A) (rest : List A) → slice_get (front ++ b ∷ rest) (length front) ≡ Some b
got-at [] b rest = refl
got-at (x ∷ front) b rest = got-at front b rest

got-before : (front : List Token) (b : Token) (rest : List Token) → slice_get (front ++ b ∷ rest) (length (front ++ b ∷ rest) - length rest - 1) ≡ Some b
got-before front b rest =
    let whole : length (front ++ b ∷ rest) ≡ length front + length (b ∷ rest) = length-append front (b ∷ rest) in
    let e : length (front ++ b ∷ rest) - length rest - 1 ≡ length front = omega arith in
    ap (slice_get (front ++ b ∷ rest)) e ∙ got-at front b rest

-- ---- the place of an operand with suffixes

same-span : (s : Suffix Tree) → span_of_suffix s ≡ suffix_span s
same-span (suffix.Call d n ns g b s) = refl
same-span (suffix.Constant n ns s) = refl
same-span (suffix.Index g s) = refl

same-post : (r : Tree) (ss : List (Suffix Tree)) (s : Suffix Tree) → post_of r (ss ++ s ∷ []) (span_of_suffix s).end ≡ posted r (ss ++ s ∷ [])
same-post r [] s = ap (λ p. tree.Post r (s ∷ []) (across (span_of r) p)) (same-span s)
same-post r (x ∷ ss) s = ap (λ p. tree.Post r (x ∷ (ss ++ s ∷ [])) (across (span_of r) p)) (same-span s ∙ ap suffix_span (sym (last-added x ss s)))

-- ---- an index

-- where an index may stand
abbrev MayIndex : Token → Token → Type 0
MayIndex before o = Touches before o ⊎ IsAny (shape.CloseParen ∷ shape.CloseBracket ∷ shape.CloseBrace ∷ []) before

touch : (before o : Token) (os : List Token) → Touches before o → touches before.span (o ∷ os) ≡ true
touch before o os e = grind (arith, nat_tests)

or-right : (a b : Bool) → b ≡ true → (a || b) ≡ true
or-right true b e = refl
or-right false b e = e

may-index : (before o : Token) (os all : List Token) → Within all (before ∷ o ∷ os) → MayIndex before o → is_index all (o ∷ os) ≡ true
unfolding is_index
may-index before o os all w may =
    let h : is_index_after (Some before) (o ∷ os) ≡ true = ⊎_elim (λ near. or-right (closes (shape_of before.kind)) _ (touch before o os near)) (λ any. ap (λ b. b || touches before.span (o ∷ os)) (each closes (shape.CloseParen ∷ shape.CloseBracket ∷ shape.CloseBrace ∷ []) refl _ any)) may in
    let g : is_index_after (slice_get (w.0 ++ before ∷ o ∷ os) (length (w.0 ++ before ∷ o ∷ os) - length (o ∷ os) - 1)) (o ∷ os) ≡ true = subst (λ x. is_index_after x (o ∷ os) ≡ true) (sym (got-before w.0 before (o ∷ os))) h in
    subst (λ zs. is_index_after (slice_get zs (length zs - length (o ∷ os) - 1)) (o ∷ os) ≡ true) (sym w.1) g

-- ---- suffixes

index-begins : (s : Suffix Tree) (before last : Token) (xs ys : List Token) → DerivesIndex s before last xs ys → (free : Bool) → Ends PRIMARY_ENDS free xs
unfolding same_shape
index-begins s before last xs ys (Index _ o _ arguments us ps qs _ is may g d ordered end closes) free = ends-by PRIMARY_ENDS shape.OpenBracket refl refl free o us is

dot-begins : (d : Token) (how : Dot) (xs : List Token) → IsRow DOTS (shape_of d.kind) how → (free : Bool) → Ends PRIMARY_ENDS free (d ∷ xs)
unfolding same_shape
dot-begins d how xs (inl row) free = ends-by PRIMARY_ENDS shape.Dot refl refl free d xs row.0
dot-begins d how xs (inr (inl row)) free = ends-by PRIMARY_ENDS shape.SafeDot refl refl free d xs row.0
dot-begins d how xs (inr (inr row)) free = absurd row

pub suffix-begins : (free : Bool) (s : Suffix Tree) (before last : Token) (xs ys : List Token) → DerivesSuffix free s before last xs ys → Ends PRIMARY_ENDS free xs
unfolding same_shape
suffix-begins free s before last xs ys (Calls _ _ d n middle _ how w arguments block us ps _ row is e f leaves) = dot-begins d how (n ∷ us) row free
suffix-begins free s before last xs ys (Inner _ _ c n w _ is con) = ends-by PRIMARY_ENDS shape.Scope refl refl free c (n ∷ ys) is
suffix-begins free s before last xs ys (Indexed _ _ _ _ _ _ d) = index-begins s before last xs ys d free

-- no suffix begins by the shape
is_suffix : Shape → Bool
is_suffix shape.Dot = true
is_suffix shape.SafeDot = true
is_suffix shape.Scope = true
is_suffix shape.OpenBracket = true
is_suffix s = false

module _ (nested : Form → Bool → Parser Tree) (turns : ℕ) (ih : Complete turns nested) where
  -- what is read of a suffix: up to its last token
  abbrev SuffixRead : Bool → List Token → Suffix Tree → Token → Token → List Token → List Token → Type 0
  SuffixRead free all s before last xs ys = (a_suffix nested turns free all xs ≡ Ok (Some s, ys)) × Within xs (last ∷ ys)

  call-read : (free : Bool) (d n middle last : Token) (how : Dot) (w : List ℕ) (arguments : Option (List (Argument Tree))) (block : Option (Block Tree)) (xs ps ys : List Token) → IsIdentifier n w → DerivesBrackets arguments n middle xs ps → DerivesBlockAfter free block middle last ps ys →
      (block ≡ None ⊎ LeavesBlock arguments) → Ends PRIMARY_ENDS free ys → length (d ∷ n ∷ xs) < turns →
      (call_suffix nested turns free how (d ∷ n ∷ xs) ≡ Ok (suffix.Call how w n.span arguments block (across d.span last.span), ys)) × Within (d ∷ n ∷ xs) (last ∷ ys)
  unfolding call_suffix
  call-read free d n middle last how w arguments block xs ps ys is e f leaves ends fits =
      let r = brackets-read nested turns ih free arguments n middle xs ps e (after-no-paren nested turns ih free block middle last ps ys f ends) (let h : length xs < turns = omega arith in h) in
      let short = within-length r.1 in
      let l = after-read nested turns ih free arguments block middle last ps ys f leaves ends (let h : length ps < turns = omega arith in h) in (
        on _ (names shape.Identifier n xs w (identifier n w is) (ap words_of is)) (on _ r.0 (on _ l.0
            (ap (λ end. Ok (suffix.Call how w n.span arguments block (record { start = d.span.start; end = end }), ys)) (l.2 middle.span.end refl)))),
        within-token d (within-more r.1 l.1),
      )

  dot-read : (free : Bool) (all : List Token) (d : Token) (how : Dot) (us : List Token) (s : Suffix Tree) (ys : List Token) → IsRow DOTS (shape_of d.kind) how → call_suffix nested turns free how (d ∷ us) ≡ Ok (s, ys) → a_suffix nested turns free all (d ∷ us) ≡ Ok (Some s, ys)
  unfolding a_suffix
  dot-read free all d how us s ys row e = by-row DOTS (λ c how. call_suffix nested turns free how (d ∷ us) ≡ Ok (s, ys) → suffix_by nested turns free all (Some c) (d ∷ us) ≡ Ok (Some s, ys)) ((λ e. on _ e refl), ((λ e. on _ e refl), tt)) _ _ row e

  index-suffix-read : (free : Bool) (all : List Token) (s : Suffix Tree) (before last : Token) (xs ys : List Token) → DerivesIndex s before last xs ys → Within all (before ∷ xs) → length xs < turns → SuffixRead free all s before last xs ys
  unfolding a_suffix index_suffix
  index-suffix-read free all s before last xs ys (Index _ o c arguments us ps qs _ is may g d ordered end closes) w fits =
      let r = index-read nested turns ih free arguments us ps qs g d ordered c ys end closes fits in
      (ap (λ s. suffix_by nested turns free all (Some s) (o ∷ us)) is ∙ taken _ _ (may-index before o us all w may) (on _ (on _ r.0 refl) refl), within-token o (past-within r.1))

  suffix-read : (free : Bool) (all : List Token) (s : Suffix Tree) (before last : Token) (xs ys : List Token) → DerivesSuffix free s before last xs ys → Within all (before ∷ xs) → Ends PRIMARY_ENDS free ys → length xs < turns → SuffixRead free all s before last xs ys
  unfolding a_suffix constant_suffix
  suffix-read free all s before last xs ys (Calls _ _ d n middle _ how w arguments block us ps _ row is e f leaves) within ends fits =
      let r = call-read free d n middle last how w arguments block us ps ys is e f leaves ends fits in
      (dot-read free all d how (n ∷ us) s ys row r.0, r.1)
  suffix-read free all s before last xs ys (Inner _ _ c n w _ is con) within ends fits =
      (ap (λ s. suffix_by nested turns free all (Some s) (c ∷ n ∷ ys)) is ∙ on _ (on _ (names shape.Constant n ys w (constant n w con) (ap words_of con)) refl) refl, within-token c (within-self _))
  suffix-read free all s before last xs ys (Indexed _ _ _ _ _ _ d) within ends fits = index-suffix-read free all s before last xs ys d within fits

  -- ---- suffixes in a row

  -- the operand with these suffixes is read, and others may follow
  pub record OperandRead (free : Bool) (p : Tree) (ss : List (Suffix Tree)) (last : Token) (xs ys : List Token) : Type 0 where
    pub end : ℕ
    pub left : ℕ
    pub reads : post nested turns free xs ≡ suffixes_from nested turns free xs p end left ss ys
    pub enough : length ys < left
    pub made : post_of p ss end ≡ posted p ss
    pub within : Within xs (last ∷ ys)

  more-read : (free : Bool) (p : Tree) (ss : List (Suffix Tree)) (s : Suffix Tree) (before last : Token) (xs ps ys : List Token) → OperandRead free p ss before xs ps → SuffixRead free xs s before last ps ys → OperandRead free p (ss ++ s ∷ []) last xs ys
  unfolding suffixes_from
  more-read free p ss s before last xs ps ys o r = go o.left o.enough o.reads
    where
      go : (n : ℕ) → length ps < n → post nested turns free xs ≡ suffixes_from nested turns free xs p o.end n ss ps → OperandRead free p (ss ++ s ∷ []) last xs ys
      go zero less e = absurd (let h : ⊥ = omega arith in h)
      go (suc n) less e = record {
        end = (span_of_suffix s).end;
        left = n;
        reads = e ∙ on _ r.0 refl;
        enough = let short = within-length r.1 in let h : length ys < n = omega arith in h;
        made = same-post p ss s;
        within = within-more o.within (within-token before r.1);
      }

  pub operand-read : (free : Bool) (p : Tree) (ss : List (Suffix Tree)) (last : Token) (xs ys : List Token) → DerivesOperand free p ss last xs ys → Ends PRIMARY_ENDS free ys → length xs < turns → OperandRead free p ss last xs ys
  unfolding post suffixes
  operand-read free p ss last xs ys (Bare _ _ _ _ _ d) ends fits =
      let r = primary-read nested turns ih free p last xs ys d ends fits in
      record { end = 0; left = turns; reads = on _ r.0 refl; enough = let short = within-length r.1 in let h : length ys < turns = omega arith in h; made = refl; within = r.1 }
  operand-read free p ss last xs ys (Suffixed _ before _ _ rs s _ ps _ d e) ends fits =
      let o = operand-read free p rs before xs ps d (suffix-begins free s before last ps ys e) fits in
      let short = within-length o.within in
      more-read free p rs s before last xs ps ys o (suffix-read free xs s before last ps ys e o.within ends (let h : length ps < turns = omega arith in h))

  none-by : (free : Bool) (all : List Token) (s : Shape) → is_suffix s ≡ false → suffix_by nested turns free all (Some s) ≡ pure None
  unfolding is_suffix
  none-by free all shape.Dot e = absurd (cc)
  none-by free all shape.SafeDot e = absurd (cc)
  none-by free all shape.Scope e = absurd (cc)
  none-by free all shape.OpenBracket e = absurd (cc)
  none-by free all s e = refl

  none-read : (free : Bool) (all ys : List Token) → Ends OPERAND_ENDS free ys → a_suffix nested turns free all ys ≡ Ok (None, ys)
  unfolding a_suffix is_suffix
  none-read free all [] ends = refl
  none-read free all (t ∷ ts) ends = ap (λ p. p (t ∷ ts)) (none-by free all (shape_of t.kind) (not-false _ (each (λ c. not (is_suffix c)) OPERAND_ENDS refl _ ends.0)))

  -- an operand after which no suffix stands
  pub post-read : (free : Bool) (p : Tree) (ss : List (Suffix Tree)) (last : Token) (xs ys : List Token) → DerivesOperand free p ss last xs ys → Ends OPERAND_ENDS free ys → length xs < turns → (post nested turns free xs ≡ Ok (posted p ss, ys)) × Past xs ys
  unfolding suffixes_from same_shape
  post-read free p ss last xs ys d ends fits = go o.left o.enough o.reads
    where
      o : OperandRead free p ss last xs ys
      o = operand-read free p ss last xs ys d (ends-wider OPERAND_ENDS PRIMARY_ENDS refl free ys ends) fits

      go : (n : ℕ) → length ys < n → post nested turns free xs ≡ suffixes_from nested turns free xs p o.end n ss ys → (post nested turns free xs ≡ Ok (posted p ss, ys)) × Past xs ys
      go zero less e = absurd (let h : ⊥ = omega arith in h)
      go (suc n) less e = (e ∙ on _ (none-read free xs ys ends) (ap (λ t. Ok (t, ys)) o.made), within-past o.within (past-token last (within-self ys)))
