-- Suffixes that are read derive, and what an operand with them may be used as.
use Rattle.std.proofs.Common.{◌≡◌, ℕ, zero, suc, ◌+◌, ◌-◌, Bool, true, false, ◌||◌, List, [], ◌∷◌, ◌++◌, length, slice_get, Option, Some, None, ◌⊎◌, inl, inr, refl, sym, ap, subst, ◌∙◌, length-append, arith, ⊎_elim}
use Rattle.std.proofs.lemmas.Bool.Decides.{nat_tests}
use Rattle.srb_terms.specs.declared.span.Span.{Span}
use Rattle.rb_tree.specs.Tokens.{shape_of}
use Rattle.rb_tree.specs.Trees.{span_of}
use Rattle.rb_tree.specs.declared.syntax.Argument.{Argument}
use Rattle.rb_tree.specs.declared.syntax.Block.{Block}
use Rattle.rb_tree.specs.declared.syntax.Dot.{Dot}
use Rattle.rb_tree.specs.declared.syntax.Dot.TheVariants as dot
use Rattle.rb_tree.specs.declared.syntax.Suffix.{Suffix}
use Rattle.rb_tree.specs.declared.syntax.Suffix.TheVariants as suffix
use Rattle.rb_tree.specs.declared.syntax.Tree.{Tree}
use Rattle.rb_tree.specs.Nodes as tree
use Rattle.rb_tree.specs.declared.syntax.Node.TheVariants.{rolls-Post}
use Rattle.rb_tree.specs.declared.token.Token.{Token}
use Rattle.rb_tree.specs.declared.token.Shape.{Shape}
use Rattle.rb_tree.specs.declared.token.Shape.TheVariants as shape
use Rattle.rb_expr.specs.declared.form.Form.{Form}
use Rattle.rb_expr.specs.Reading.{Parser, start_of, skip_separators, touches, words_of}
use Rattle.rb_expr.specs.Shapes.{closes, is_index_after, is_index}
use Rattle.rb_expr.specs.Lists.{end_with, span_of_suffix}
use Rattle.rb_expr.specs.Statements.{ending_of, ending_of_suffix, ending_of_last}
use Rattle.rb_expr.specs.Operands.{call_suffix, constant_suffix, index_suffix, suffix_by, a_suffix, suffixes_from, suffixes, post_of, post}
use Rattle.rb_rules.specs.Tokens.{Is, IsAny, IsOneOf, Touches}
use Rattle.rb_rules.specs.Spans.{across, last_of, suffix_span}
use Rattle.rb_rules.specs.Forms.{AreOrdered}
use Rattle.rb_rules.specs.Grammar.{IsRow, DOTS, posted, named_call, DerivesArguments, DerivesEnd, DerivesOperand, DerivesSuffix, DerivesIndex, DerivesPrefixed}
use Rattle.rb_rules.specs.Grammar.DerivesBrackets.{NoBrackets}
use Rattle.rb_rules.specs.Grammar.DerivesBlockAfter.{NoBlock}
use Rattle.rb_rules.specs.Grammar.DerivesSuffix.{Calls, Within as Inner, Indexed}
use Rattle.rb_rules.specs.Grammar.DerivesIndex.{Index}
use Rattle.rb_rules.specs.Grammar.DerivesOperand.{Bare, Suffixed}
use Rattle.rb_rules.specs.Grammar.DerivesPrefixed.{Posted}
use Rattle.rb_rules.specs.Grammar.DerivesTarget.{Attribute, Element}
use Rattle.rb_rules.specs.Grammar.DerivesCallee.{Of}
use Rattle.rb_grammar.proofs.Steps.{Holds, answered, refused, step, choosing, naming, Within, within-self, within-token, within-more, gap, identifier, constant}
use Rattle.rb_grammar.proofs.Sound.{Sound, Starts, Uses, starts, used}
use Rattle.rb_grammar.proofs.Lists.{last-got}
use Rattle.rb_grammar.proofs.Calls.{Given, given-holds, Blocked, block-after-holds, index-holds}
use Rattle.rb_grammar.proofs.Operands.{primary-holds}

-- ---- the last of a list

last-added : {A : Type 0} (x : A) (xs : List A) (y : A) → last_of x (xs ++ y ∷ []) ≡ y
last-added x [] y = refl
last-added x (z ∷ xs) y = last-added z xs y

added-got : {A : Type 0} (xs : List A) (y : A) → slice_get (xs ++ y ∷ []) (length (xs ++ y ∷ []) - 1) ≡ Some y
added-got [] y = refl
added-got (x ∷ xs) y = last-got x (xs ++ y ∷ []) ∙ ap Some (last-added x xs y)

got-at : {A : Type 0} (front : List A) (b : A) (rest : List A) → slice_get (front ++ b ∷ rest) (length front) ≡ Some b
got-at [] b rest = refl
got-at (x ∷ front) b rest = got-at front b rest

got-before : (front : List Token) (b : Token) (rest : List Token) → slice_get (front ++ b ∷ rest) (length (front ++ b ∷ rest) - length rest - 1) ≡ Some b
got-before front b rest =
    let whole : length (front ++ b ∷ rest) ≡ length front + length (b ∷ rest) = length-append front (b ∷ rest) in
    let e : length (front ++ b ∷ rest) - length rest - 1 ≡ length front = omega arith in
    ap (slice_get (front ++ b ∷ rest)) e ∙ got-at front b rest

-- ---- an index

closing : (c : Shape) → closes c ≡ true → IsOneOf (shape.CloseParen ∷ shape.CloseBracket ∷ shape.CloseBrace ∷ []) c
closing shape.CloseParen e = inl refl
closing shape.CloseBracket e = inr (inl refl)
closing shape.CloseBrace e = inr (inr (inl refl))
closing c e = absurd (cc)

-- where an index may stand
abbrev MayIndex : Token → Token → Type 0
MayIndex before o = Touches before o ⊎ IsAny (shape.CloseParen ∷ shape.CloseBracket ∷ shape.CloseBrace ∷ []) before

either : (a b : Bool) → (a || b) ≡ true → (a ≡ true) ⊎ (b ≡ true)
either true b e = inl refl
either false b e = inr e

touch : (before o : Token) (os : List Token) → touches before.span (o ∷ os) ≡ true → Touches before o
touch before o os e = grind (arith, nat_tests)

may-index : (before o : Token) (os all : List Token) → Within all (before ∷ o ∷ os) → is_index all (o ∷ os) ≡ true → MayIndex before o
unfolding is_index
may-index before o os all w e =
    let f : is_index_after (slice_get all (length all - length (o ∷ os) - 1)) (o ∷ os) ≡ true = e in
    let g : is_index_after (slice_get (w.0 ++ before ∷ o ∷ os) (length (w.0 ++ before ∷ o ∷ os) - length (o ∷ os) - 1)) (o ∷ os) ≡ true = subst (λ zs. is_index_after (slice_get zs (length zs - length (o ∷ os) - 1)) (o ∷ os) ≡ true) w.1 f in
    let h : is_index_after (Some before) (o ∷ os) ≡ true = subst (λ x. is_index_after x (o ∷ os) ≡ true) (got-before w.0 before (o ∷ os)) g in
    ⊎_elim (λ k. inr (closing _ k)) (λ k. inl (touch before o os k)) (either _ _ h)

module _ (nested : Form → Bool → Parser Tree) (ih : Sound nested) (turns : ℕ) (free : Bool) where
  -- a suffix after a token; with an operand before it, what both may be used as
  abbrev ASuffix : Token → List Token → Suffix Tree → List Token → Type 0
  ASuffix before xs s ys = (last : Token) × DerivesSuffix free s before last xs ys × ((span_of_suffix s).end ≡ last.span.end) × Within (before ∷ xs) (last ∷ ys)
      × ((r : Tree) (ss : List (Suffix Tree)) (all : List Token) → DerivesOperand free r ss before all xs → Uses (ending_of_suffix s) free (posted r (ss ++ s ∷ [])) all ys)

  plain-call : (before : Token) (joint : Dot) (d n : Token) (ns : List Token) → IsRow DOTS (shape_of d.kind) joint → Is shape.Identifier n → ASuffix before (d ∷ n ∷ ns) (named_call d joint n (words_of n.kind)) ns
  plain-call before joint d n ns row is = (n, Calls _ _ _ _ _ _ _ _ _ _ _ _ _ row (identifier n is) (NoBrackets _ _) (NoBlock _ _ _) (inl refl), refl, within-token before (within-token d (within-self _)), uses joint row)
    where
      uses : (joint : Dot) → IsRow DOTS (shape_of d.kind) joint → (r : Tree) (ss : List (Suffix Tree)) (all : List Token) → DerivesOperand free r ss before all (d ∷ n ∷ ns) → Uses (ending_of_suffix {T = Tree} (named_call d joint n (words_of n.kind))) free (posted r (ss ++ named_call d joint n (words_of n.kind) ∷ [])) all ns
      uses dot.Plain row r ss all o = ((λ constants. Attribute _ _ _ _ _ _ _ _ _ _ o (is-dot row) (identifier n is)), Of _ _ _ _ _ _ _ _ _ _ o row (identifier n is))
        where
          is-dot : IsRow DOTS (shape_of d.kind) dot.Plain → Is shape.Dot d
          is-dot (inl h) = h.0
          is-dot (inr (inl h)) = absurd (let e : dot.Plain ≡ dot.Safe = h.1 in cc)
          is-dot (inr (inr h)) = absurd h
      uses dot.Safe row r ss all o = Of _ _ _ _ _ _ _ _ _ _ o row (identifier n is)

  call-made : (before : Token) (joint : Dot) (d n : Token) (ns ps : List Token) → IsRow DOTS (shape_of d.kind) joint → Is shape.Identifier n → (given : Option (List (Argument Tree))) (end : ℕ) (b : Option (Block Tree)) (ys : List Token)
      (g : Given nested ih turns free n ns (given, end) ps) → Blocked nested ih turns free given g.0 ps b ys → ASuffix before (d ∷ n ∷ ns) (suffix.Call joint (words_of n.kind) n.span given b (record { start = d.span.start; end = end_with b end })) ys
  call-made before joint d n ns ps row is None end None ys g h =
      let alone' : end ≡ n.span.end = g.2 ∙ ap (λ u. u.span.end) (sym g.5.0) in
      subst (λ e. ASuffix before (d ∷ n ∷ ns) (suffix.Call joint (words_of n.kind) n.span None None (record { start = d.span.start; end = e })) ys) (sym alone')
      (subst (λ zs. ASuffix before (d ∷ n ∷ ns) (named_call d joint n (words_of n.kind)) zs) (g.5.1 ∙ h.0.4.1) (plain-call before joint d n ns row is))
  call-made before joint d n ns ps row is None end (Some b) ys g h =
      subst (λ e. ASuffix before (d ∷ n ∷ ns) (suffix.Call joint (words_of n.kind) n.span None (Some b) (record { start = d.span.start; end = e })) ys) (sym (h.0.2 end g.2))
      (h.0.0, Calls _ _ _ _ _ _ _ _ _ _ _ _ _ row (identifier n is) g.1 h.0.1 h.1, refl, within-token before (within-token d (within-more g.4 h.0.3)), other joint)
    where
      other : (joint : Dot) (r : Tree) (ss : List (Suffix Tree)) (all : List Token) → DerivesOperand free r ss before all (d ∷ n ∷ ns) → Uses (ending_of_suffix {T = Tree} (suffix.Call joint (words_of n.kind) n.span None (Some b) (record { start = d.span.start; end = h.0.0.span.end }))) free (posted r (ss ++ suffix.Call joint (words_of n.kind) n.span None (Some b) (record { start = d.span.start; end = h.0.0.span.end }) ∷ [])) all ys
      other dot.Plain r ss all o = tt
      other dot.Safe r ss all o = tt
  call-made before joint d n ns ps row is (Some given) end b ys g h =
      subst (λ e. ASuffix before (d ∷ n ∷ ns) (suffix.Call joint (words_of n.kind) n.span (Some given) b (record { start = d.span.start; end = e })) ys) (sym (h.0.2 end g.2))
      (h.0.0, Calls _ _ _ _ _ _ _ _ _ _ _ _ _ row (identifier n is) g.1 h.0.1 h.1, refl, within-token before (within-token d (within-more g.4 h.0.3)), other joint)
    where
      other : (joint : Dot) (r : Tree) (ss : List (Suffix Tree)) (all : List Token) → DerivesOperand free r ss before all (d ∷ n ∷ ns) → Uses (ending_of_suffix {T = Tree} (suffix.Call joint (words_of n.kind) n.span (Some given) b (record { start = d.span.start; end = h.0.0.span.end }))) free (posted r (ss ++ suffix.Call joint (words_of n.kind) n.span (Some given) b (record { start = d.span.start; end = h.0.0.span.end }) ∷ [])) all ys
      other dot.Plain r ss all o = tt
      other dot.Safe r ss all o = tt

  call-holds : (before : Token) (joint : Dot) (d : Token) (ds : List Token) → IsRow DOTS (shape_of d.kind) joint → Holds (call_suffix nested turns free joint (d ∷ ds)) (ASuffix before (d ∷ ds))
  unfolding call_suffix
  call-holds before joint d ds row = naming shape.Identifier (λ xs. ASuffix before (d ∷ xs)) _ ds (λ n ns is. step (given-holds nested ih turns free n ns) (λ given ps g.
      step (block-after-holds nested ih turns free given.0 g.0 ps g.3) (λ b ys h. answered (ASuffix before (d ∷ n ∷ ns)) _ ys (call-made before joint d n ns ps row is given.0 given.1 b ys g h))))

  constant-holds : (before : Token) (c : Token) (cs : List Token) → Is shape.Scope c → Holds (constant_suffix nested turns free (c ∷ cs)) (ASuffix before (c ∷ cs))
  unfolding constant_suffix
  constant-holds before c cs is = naming shape.Constant (λ xs. ASuffix before (c ∷ xs)) _ cs (λ n ns con. answered (ASuffix before (c ∷ n ∷ ns)) _ ns
      (n, Inner _ _ _ _ _ _ is (constant n con), refl, within-token before (within-token c (within-self _)), λ r ss all o. tt))

  index-made : (before o : Token) (os : List Token) → Is shape.OpenBracket o → MayIndex before o → (r : List (Argument Tree) × Span) (ys : List Token) →
      ((qs : List Token) × (c : Token) × (r.1 ≡ c.span) × DerivesArguments true true r.0 (skip_separators os) qs × AreOrdered r.0 × DerivesEnd qs (c ∷ ys) × Is shape.CloseBracket c × Within (skip_separators os) (c ∷ ys)) →
      ASuffix before (o ∷ os) (suffix.Index r.0 (record { start = o.span.start; end = r.1.end })) ys
  index-made before o os is may r ys h =
      let g = gap os in
      let index : DerivesIndex (suffix.Index r.0 (across o.span h.1.span)) before h.1 (o ∷ os) ys = Index _ _ _ _ _ _ _ _ is may g.0 h.3 h.4 h.5 h.6 in
      subst (λ e. ASuffix before (o ∷ os) (suffix.Index r.0 (record { start = o.span.start; end = e })) ys) (sym (ap (λ s. s.end) h.2))
      (h.1, Indexed _ _ _ _ _ _ index, refl, within-token before (within-token o (within-more g.1 h.7)), λ r ss all d constants. Element _ _ _ _ _ _ _ _ _ _ d index)

  index-suffix-holds : (before o : Token) (os : List Token) → Is shape.OpenBracket o → MayIndex before o → Holds (index_suffix nested turns free (o ∷ os)) (ASuffix before (o ∷ os))
  unfolding index_suffix
  index-suffix-holds before o os is may = step (index-holds nested ih turns free os) (λ r ys h. answered (ASuffix before (o ∷ os)) _ ys (index-made before o os is may r ys h))

  -- a suffix, or none, and then nothing is read
  abbrev MaySuffix : Token → List Token → Option (Suffix Tree) → List Token → Type 0
  MaySuffix before xs (Some s) ys = ASuffix before xs s ys
  MaySuffix before xs None ys = xs ≡ ys

  suffix-by : (all : List Token) (before : Token) (s : Shape) (t : Token) (ts : List Token) → Within all (before ∷ t ∷ ts) → Is s t → Holds (suffix_by nested turns free all (Some s) (t ∷ ts)) (MaySuffix before (t ∷ ts))
  suffix-by all before shape.Dot t ts w is = step (call-holds before dot.Plain t ts (inl (is, refl))) (λ s ys h. answered (MaySuffix before (t ∷ ts)) (Some s) ys h)
  suffix-by all before shape.SafeDot t ts w is = step (call-holds before dot.Safe t ts (inr (inl (is, refl)))) (λ s ys h. answered (MaySuffix before (t ∷ ts)) (Some s) ys h)
  suffix-by all before shape.Scope t ts w is = step (constant-holds before t ts is) (λ s ys h. answered (MaySuffix before (t ∷ ts)) (Some s) ys h)
  suffix-by all before shape.OpenBracket t ts w is = choosing (is_index all (t ∷ ts))
      (λ e. step (index-suffix-holds before t ts is (may-index before t ts all w e)) (λ s ys h. answered (MaySuffix before (t ∷ ts)) (Some s) ys h))
      (λ e. answered (MaySuffix before (t ∷ ts)) None (t ∷ ts) refl)
  suffix-by all before s t ts w is = answered (MaySuffix before (t ∷ ts)) None (t ∷ ts) refl

  suffix-holds : (all : List Token) (before : Token) (xs : List Token) → Within all (before ∷ xs) → Holds (a_suffix nested turns free all xs) (MaySuffix before xs)
  unfolding a_suffix
  suffix-holds all before [] w = answered (MaySuffix before []) None [] refl
  suffix-holds all before (t ∷ ts) w = suffix-by all before (shape_of t.kind) t ts w refl

  -- ---- suffixes in a row

  same-span : (s : Suffix Tree) → span_of_suffix s ≡ suffix_span s
  same-span (suffix.Call d n ns g b s) = refl
  same-span (suffix.Constant n ns s) = refl
  same-span (suffix.Index g s) = refl

  same-post : (r : Tree) (ss : List (Suffix Tree)) (s : Suffix Tree) → post_of r (ss ++ s ∷ []) (span_of_suffix s).end ≡ posted r (ss ++ s ∷ [])
  same-post r [] s = ap (λ p. tree.Post r (s ∷ []) (across (span_of r) p)) (same-span s)
  same-post r (x ∷ ss) s = ap (λ p. tree.Post r (x ∷ (ss ++ s ∷ [])) (across (span_of r) p)) (same-span s ∙ ap suffix_span (sym (last-added x ss s)))

  posted-starts : (r : Tree) (ss : List (Suffix Tree)) (all : List Token) → Starts r all → Starts (posted r ss) all
  posted-starts r [] all h = h
  posted-starts r (s ∷ ss) all h = starts (posted r (s ∷ ss)) _ (start_of all) (rolls-Post r (s ∷ ss) (across (span_of r) (suffix_span (last_of s ss)))) h

  posted-used : (r : Tree) (ss : List (Suffix Tree)) (s : Suffix Tree) (all ys : List Token) → Uses (ending_of_suffix s) free (posted r (ss ++ s ∷ [])) all ys → Uses (ending_of (posted r (ss ++ s ∷ []))) free (posted r (ss ++ s ∷ [])) all ys
  posted-used r [] s all ys h = used free (posted r (s ∷ [])) _ all ys (rolls-Post r (s ∷ []) (across (span_of r) (suffix_span s))) h
  posted-used r (x ∷ ss) s all ys h = used free (posted r (x ∷ (ss ++ s ∷ []))) _ all ys (rolls-Post r (x ∷ (ss ++ s ∷ [])) (across (span_of r) (suffix_span (last_of x (ss ++ s ∷ [])))))
      (subst (λ o. Uses (ending_of_last o) free (posted r (x ∷ (ss ++ s ∷ []))) all ys) (sym (added-got (x ∷ ss) s)) h)

  -- an operand with these suffixes, of which the last ends at the number
  abbrev Row : List Token → Tree → List (Suffix Tree) → ℕ → List Token → Type 0
  Row all r ss end xs = (before : Token) × DerivesOperand free r ss before all xs × Within all (before ∷ xs) × (post_of r ss end ≡ posted r ss) × Starts r all × Uses (ending_of (posted r ss)) free (posted r ss) all xs

  abbrev pub Post : List Token → Tree → List Token → Type 0
  Post all t ys = DerivesPrefixed free t all ys × Within all ys × Starts t all × Uses (ending_of t) free t all ys

  row-done : (all : List Token) (r : Tree) (ss : List (Suffix Tree)) (end : ℕ) (xs : List Token) → Row all r ss end xs → Post all (post_of r ss end) xs
  row-done all r ss end xs h = subst (λ t. Post all t xs) (sym h.3) (Posted _ _ _ _ _ _ h.1, within-more h.2 (within-token h.0 (within-self xs)), posted-starts r ss all h.4, h.5)

  row-more : (all : List Token) (r : Tree) (ss : List (Suffix Tree)) (end : ℕ) (xs : List Token) (h : Row all r ss end xs) (s : Suffix Tree) (ys : List Token) → ASuffix h.0 xs s ys → Row all r (ss ++ s ∷ []) (span_of_suffix s).end ys
  row-more all r ss end xs h s ys k = (k.0, Suffixed _ _ _ _ _ _ _ _ _ h.1 k.1, within-more h.2 k.3, same-post r ss s, h.4, posted-used r ss s all ys (k.4 r ss all h.1))

  suffixes-by : (all : List Token) (r : Tree) (end n : ℕ) (ss : List (Suffix Tree)) (xs : List Token) → Row all r ss end xs → Holds (suffixes_from nested turns free all r end n ss xs) (Post all)
  unfolding suffixes_from
  suffixes-by all r end zero ss xs h = refused _ _
  suffixes-by all r end (suc n) ss xs h = step (suffix-holds all h.0 xs h.2) (elim [
    | Some s ↦ λ ys k. suffixes-by all r (span_of_suffix s).end n (ss ++ s ∷ []) ys (row-more all r ss end xs h s ys k)
    | None ↦ λ ys e. answered (Post all) _ ys (subst (λ zs. Post all (post_of r ss end) zs) e (row-done all r ss end xs h))
  ])

  pub post-holds : (xs : List Token) → Holds (post nested turns free xs) (Post xs)
  unfolding post suffixes
  post-holds xs = step (primary-holds nested ih turns free xs) (λ r ys h. suffixes-by xs r 0 turns [] ys (h.0, Bare _ _ _ _ _ h.1, h.2, refl, h.3, h.4))
