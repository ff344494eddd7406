-- Operands with suffixes: the front of a row, and what follows it.
use Rattle.std.proofs.Common.{◌≡◌, ℕ, Bool, true, false, List, [], ◌∷◌, ◌++◌, codes, take, drop, slice_get, true≢false, Option, Some, None, refl, ap, subst, ◌∙◌, sym}
use Rattle.srb_terms.specs.declared.span.Span.{Span}
use Rattle.rb_tree.specs.Trees.{span_of}
use Rattle.rb_tree.specs.declared.syntax.Argument.{Argument}
use Rattle.rb_tree.specs.declared.syntax.Argument.TheVariants as argument
use Rattle.rb_tree.specs.declared.syntax.Block.{Block}
use Rattle.rb_tree.specs.declared.syntax.Dot.{Dot}
use Rattle.rb_tree.specs.declared.syntax.Dot.TheVariants as dot
use Rattle.rb_tree.specs.declared.syntax.Suffix.{Suffix}
use Rattle.rb_tree.specs.declared.syntax.Suffix.TheVariants as suffix
use Rattle.rb_tree.specs.declared.syntax.Tree.{Tree}
use Rattle.rb_views.specs.Calls.{arguments_of}
use Rattle.rb_views.specs.Places.{open_bracket}
use Rattle.rb_views.specs.Prefixes.{last_suffix, suffix_span}
use Rattle.srb_judgement.specs.declared.assertions.Form.{Form}
use Rattle.srb_judgement.specs.declared.assertions.Form.TheVariants as form
use Rattle.srb_judgement.specs.Assertions.{NoAssertion, assertion_of, assertion_judged, on_t, is_t}
use Rattle.srb_judgement.specs.Calls.{declared_by, call_operand, send}
use Rattle.srb_judgement.specs.Chains.{Chain, with_suffix, with_suffixes, chain, chain_start, operands_of, up_to, longer, constant_run, called}
use Rattle.srb_judgement.specs.Environments.{Row, Environment, Live, Dead, Silent, is_live}
use Rattle.srb_judgement.specs.Forms.{form_by}
use Rattle.srb_judgement.specs.Judgements.{part_of}
use Rattle.srb_judgement.specs.Languages.{Language}
use Rattle.srb_judgement.specs.Parts.{Operand, Part, Spelling, NameAlone, NilWord, ConstantPath, Other}
use Rattle.srb_judgement.specs.Reaching.{closed}
use Rattle.srb_judgement.specs.States.{Context, State, Judged, Run, judged, moved}
use Rattle.srb_judgement.specs.Unreached.{by_life, not_reached, reached_by_life}
use Rattle.srb_walk.proofs.EndingProofs.{by-last, last-is, one-more}
use Rattle.srb_walk_calls.proofs.Forming.{counted_brackets, formed, formed_or}
use Rattle.srb_walk.proofs.RowProofs.{rows_go}
use Rattle.srb_walk.specs.Known.{known_suffix, known_suffixes, known_arguments, known_brackets, known_blocks}
use Rattle.srb_walk.specs.Rows.{Prefix, is_path, called_on, all_suffixed, prefix_judged}
use Rattle.srb_walk_calls.specs.Fronts.{constants_before, path_length, goes_on, next_form, suffix_form, counted, span_to, front_judged, form_judged, asserted, row_after, row_by, row_judged, reached_or, told}
use Rattle.srb_walk.specs.Written.{row_spelling, spelling_of, with_constant}

module _ {T X : Type 0} (L : Language T X) where
  -- ---- after a front

  -- an index is no form of `T`
  no-index : (t : Bool) (arguments : List (Argument (Operand T X))) → on_t t (codes "[]") arguments ≡ NoAssertion
  no-index false arguments = refl
  no-index true [] = refl
  no-index true (argument.Positional e ∷ []) = refl
  no-index true (argument.Positional e ∷ argument.Positional x ∷ []) = refl
  no-index true (argument.Positional e ∷ argument.Positional x ∷ y ∷ rest) = refl
  no-index true (argument.Positional e ∷ argument.Keyword key span x ∷ rest) = refl
  no-index true (argument.Positional e ∷ argument.Block span x ∷ rest) = refl
  no-index true (argument.Keyword key span e ∷ rest) = refl
  no-index true (argument.Block span e ∷ rest) = refl

  -- a call by `.` without a block, by the form that it is
  by-form : (f : Form) (row : Chain T X) (name : List ℕ) (name_span : Span) (row_arguments : Option (List (Argument (Part T X)))) (span whole : Span)
      (rest : List (Suffix (Part T X))) (c : Context T) (s : State T) →
      all_suffixed L c rest (record {
        declares = row.it.declares ++ declared_by (operands_of (arguments_of row_arguments));
        it = closed L (formed_or L f whole (operands_of (arguments_of row_arguments))
            (call_operand L row.it dot.Plain name name_span (operands_of (arguments_of row_arguments)) None) c s);
      })
      ≡ row_after L f (prefix_judged L row c s) whole row.it.declares (suffix.Call dot.Plain name name_span row_arguments None span ∷ rest) c s
  by-form form.Call row name name_span row_arguments span whole rest c s = refl
  by-form form.Let row name name_span row_arguments span whole rest c s = refl
  by-form form.Cast row name name_span row_arguments span whole rest c s = refl
  by-form form.Must row name name_span row_arguments span whole rest c s = refl
  by-form form.Unsafe row name name_span row_arguments span whole rest c s = refl
  by-form form.RevealType row name name_span row_arguments span whole rest c s = refl

  no-run : (sp : Spelling) (name : List ℕ) (name_span span : Span) (rest : List (Suffix Tree)) → goes_on sp (suffix.Constant name name_span span ∷ rest) ≡ false → is_path sp ≡ false
  no-run (ConstantPath path) name name_span span rest h = h
  no-run (NameAlone other) name name_span span rest h = refl
  no-run NilWord name name_span span rest h = refl
  no-run Other name name_span span rest h = refl

  -- what follows a row that doesn't go on with a path
  after : (xs : List (Suffix Tree)) (row : Chain T X) (c : Context T) (rows : List (Row T)) (s : State T) → goes_on row.it.spelling xs ≡ false →
      prefix_judged L (with_suffixes L row (known_suffixes L xs)) c (moved (Live rows) s)
      ≡ row_after L (next_form row.it.spelling xs) (prefix_judged L row c (moved (Live rows) s)) (span_to row.it.span (slice_get xs 0)) row.it.declares
      (known_suffixes L xs) c (moved (Live rows) s)
  after [] row c rows s h = refl
  after (suffix.Call dot.Plain name name_span row_arguments None span ∷ rest) row c rows s h =
      rows_go L (known_suffixes L rest) (with_suffix L row (known_suffix L (suffix.Call dot.Plain name name_span row_arguments None span))) c rows s refl
      ∙ ap (λ j. all_suffixed L c (known_suffixes L rest) (record {
        declares = row.it.declares ++ declared_by (operands_of (arguments_of (known_brackets L row_arguments)));
        it = closed L j;
      }))
      (formed L row.it.spelling name (operands_of (arguments_of (known_brackets L row_arguments))) (up_to row.it.span span)
      (call_operand L row.it dot.Plain name name_span (operands_of (arguments_of (known_brackets L row_arguments))) None) c (moved (Live rows) s)
      ∙ ap (λ n. formed_or L (form_by row.it.spelling name n) (up_to row.it.span span) (operands_of (arguments_of (known_brackets L row_arguments)))
      (call_operand L row.it dot.Plain name name_span (operands_of (arguments_of (known_brackets L row_arguments))) None) c (moved (Live rows) s))
      (counted_brackets L row_arguments))
      ∙ by-form (form_by row.it.spelling name (counted (arguments_of row_arguments))) row name name_span (known_brackets L row_arguments) span (up_to row.it.span span)
      (known_suffixes L rest) c (moved (Live rows) s)
  after (suffix.Call dot.Plain name name_span row_arguments (Some b) span ∷ rest) row c rows s h =
      rows_go L (known_suffixes L rest) (with_suffix L row (known_suffix L (suffix.Call dot.Plain name name_span row_arguments (Some b) span))) c rows s refl
  after (suffix.Call dot.Safe name name_span row_arguments None span ∷ rest) row c rows s h =
      rows_go L (known_suffixes L rest) (with_suffix L row (known_suffix L (suffix.Call dot.Safe name name_span row_arguments None span))) c rows s refl
  after (suffix.Call dot.Safe name name_span row_arguments (Some b) span ∷ rest) row c rows s h =
      rows_go L (known_suffixes L rest) (with_suffix L row (known_suffix L (suffix.Call dot.Safe name name_span row_arguments (Some b) span))) c rows s refl
  after (suffix.Constant name name_span span ∷ rest) row c rows s h =
      rows_go L (known_suffixes L (suffix.Constant name name_span span ∷ rest)) row c rows s (no-run row.it.spelling name name_span span rest h)
  after (suffix.Index row_arguments span ∷ rest) row c rows s h =
      rows_go L (known_suffixes L rest) (with_suffix L row (known_suffix L (suffix.Index row_arguments span))) c rows s refl
      ∙ ap (λ j. all_suffixed L c (known_suffixes L rest) (record { declares = row.it.declares ++ declared_by (operands_of (known_arguments L row_arguments)); it = closed L j }))
      (ap (λ a. assertion_judged L a (up_to row.it.span span) (call_operand L row.it dot.Plain (codes "[]") (open_bracket span) (operands_of (known_arguments L row_arguments)) None) c (moved (Live rows) s))
      (no-index (is_t row.it.spelling) (operands_of (known_arguments L row_arguments))))

  -- ---- paths of constants

  -- whether constants stood before, or stand in front of the rest
  abbrev longer-by : Bool → List (Suffix Tree) → Bool
  longer-by before [] = before
  longer-by before (suffix.Call how name name_span row_arguments b span ∷ rest) = before
  longer-by before (suffix.Constant name name_span span ∷ rest) = true
  longer-by before (suffix.Index row_arguments span ∷ rest) = before

  longer-still : (xs : List (Suffix Tree)) → longer-by true xs ≡ true
  longer-still [] = refl
  longer-still (suffix.Call how name name_span row_arguments b span ∷ rest) = refl
  longer-still (suffix.Constant name name_span span ∷ rest) = refl
  longer-still (suffix.Index row_arguments span ∷ rest) = refl

  longer-first : (path : List (List ℕ)) (xs : List (Suffix Tree)) → longer-by false xs ≡ goes_on (ConstantPath path) xs
  longer-first path [] = refl
  longer-first path (suffix.Call how name name_span row_arguments b span ∷ rest) = refl
  longer-first path (suffix.Constant name name_span span ∷ rest) = refl
  longer-first path (suffix.Index row_arguments span ∷ rest) = refl

  -- the front that a path is
  abbrev path-front : Bool → Operand T X → List (List ℕ) → Context T → State T → Prefix T
  path-front before o path c s = record { declares = o.declares; it = front_judged L before o (ConstantPath path) c s }

  -- a row whose prefix is such a front, and that goes on with no constant
  at-front : (x : Suffix Tree) (rest : List (Suffix Tree)) (row : Chain T X) (o : Operand T X) (path : List (List ℕ)) (before : Bool) (c : Context T) (rows : List (Row T)) (s : State T) →
      goes_on (ConstantPath path) (x ∷ rest) ≡ false →
      row.it.spelling ≡ ConstantPath path → prefix_judged L row c (moved (Live rows) s) ≡ path-front before o path c (moved (Live rows) s) → row.it.span.start ≡ o.span.start →
      prefix_judged L (with_suffixes L row (known_suffixes L (x ∷ rest))) c (moved (Live rows) s)
      ≡ row_by L (next_form (ConstantPath path) (x ∷ rest)) before o (ConstantPath path) (record { start = o.span.start; end = (suffix_span x).end }) o.declares (known_suffixes L (x ∷ rest)) c (moved (Live rows) s)
  at-front x rest row o path before c rows s stays h p st =
      after (x ∷ rest) row c rows s (ap (λ sp. goes_on sp (x ∷ rest)) h ∙ stays)
      ∙ (λ i. row_after L (next_form (h i) (x ∷ rest)) (p i) (record { start = st i; end = (suffix_span x).end }) ((p i).declares) (known_suffixes L (x ∷ rest)) c (moved (Live rows) s))

  go : (xs : List (Suffix Tree)) (row : Chain T X) (o : Operand T X) (path : List (List ℕ)) (before : Bool) (c : Context T) (rows : List (Row T)) (s : State T) →
      row.it.spelling ≡ ConstantPath path → prefix_judged L row c (moved (Live rows) s) ≡ path-front before o path c (moved (Live rows) s) → row.it.span.start ≡ o.span.start →
      prefix_judged L (with_suffixes L row (known_suffixes L xs)) c (moved (Live rows) s)
      ≡ row_by L (next_form (row_spelling (ConstantPath path) (take (constants_before xs) xs)) (drop (constants_before xs) xs)) (longer-by before xs) o
      (row_spelling (ConstantPath path) (take (constants_before xs) xs)) (span_to o.span (slice_get xs (constants_before xs))) o.declares
      (known_suffixes L (drop (constants_before xs) xs)) c (moved (Live rows) s)
  go [] row o path before c rows s h p st = p
  go (suffix.Call how name name_span row_arguments b span ∷ rest) row o path before c rows s h p st =
      at-front (suffix.Call how name name_span row_arguments b span) rest row o path before c rows s refl h p st
  go (suffix.Index row_arguments span ∷ rest) row o path before c rows s h p st =
      at-front (suffix.Index row_arguments span) rest row o path before c rows s refl h p st
  go (suffix.Constant name name_span span ∷ rest) row o path before c rows s h p st =
      go rest (with_suffix L row (suffix.Constant name name_span span)) o (path ++ name ∷ []) true c rows s
      (ap (λ sp. longer L sp name) h)
      (λ i. record { declares = (p i).declares; it = closed L (constant_run L (longer L (h i) name) row.it c (moved (Live rows) s)) })
      st
      ∙ ap (λ b. row_by L (next_form (row_spelling (ConstantPath (path ++ name ∷ [])) (take (constants_before rest) rest)) (drop (constants_before rest) rest)) b o
      (row_spelling (ConstantPath (path ++ name ∷ [])) (take (constants_before rest) rest)) (span_to o.span (slice_get rest (constants_before rest))) o.declares
      (known_suffixes L (drop (constants_before rest) rest)) c (moved (Live rows) s)) (longer-still rest)

  -- ---- the whole

  -- a row by its operand's spelling
  abbrev Told : Spelling → Operand T X → List (Suffix Tree) → Context T → State T → Judged T
  Told sp o xs c s = told L sp o.span o.declares o xs c s

  plainly : (sp : Spelling) (o : Operand T X) (xs : List (Suffix Tree)) (c : Context T) (rows : List (Row T)) (s : State T) → o.spelling ≡ sp → goes_on sp xs ≡ false →
      (chain L o (known_suffixes L xs)).it.judge c (moved (Live rows) s)
      ≡ (row_after L (next_form sp xs) (prefix_judged L (chain_start L o) c (moved (Live rows) s)) (span_to o.span (slice_get xs 0)) o.declares (known_suffixes L xs) c (moved (Live rows) s)).it
  plainly sp o xs c rows s h stays =
      ap (λ (p : Prefix T). p.it) (after xs (chain_start L o) c rows s (ap (λ q. goes_on q xs) h ∙ stays))
      ∙ ap (λ q. (row_after L (next_form q xs) (prefix_judged L (chain_start L o) c (moved (Live rows) s)) (span_to o.span (slice_get xs 0)) o.declares (known_suffixes L xs) c (moved (Live rows) s)).it) h

  told-by : (sp : Spelling) (o : Operand T X) (xs : List (Suffix Tree)) (c : Context T) (rows : List (Row T)) (s : State T) → o.spelling ≡ sp →
      row_judged L o (known_suffixes L xs) c (moved (Live rows) s) ≡ Told sp o xs c (moved (Live rows) s)
  told-by (ConstantPath path) o xs c rows s h =
      ap (λ (p : Prefix T). p.it) (go xs (chain_start L o) o path false c rows s h refl refl)
      ∙ ap (λ b. (row_by L (next_form (row_spelling (ConstantPath path) (take (constants_before xs) xs)) (drop (constants_before xs) xs)) b o
      (row_spelling (ConstantPath path) (take (constants_before xs) xs)) (span_to o.span (slice_get xs (constants_before xs))) o.declares
      (known_suffixes L (drop (constants_before xs) xs)) c (moved (Live rows) s)).it) (longer-first path xs)
  told-by (NameAlone name) o xs c rows s h = plainly (NameAlone name) o xs c rows s h refl
  told-by NilWord o xs c rows s h = plainly NilWord o xs c rows s h refl
  told-by Other o xs c rows s h = plainly Other o xs c rows s h refl

  told-live : (e : Environment T) (o : Operand T X) (xs : List (Suffix Tree)) (c : Context T) (s : State T) → is_live e ≡ true →
      row_judged L o (known_suffixes L xs) c (moved e s) ≡ Told o.spelling o xs c (moved e s)
  told-live (Live rows) o xs c s h = told-by o.spelling o xs c rows s refl
  told-live Dead o xs c s h = absurd (true≢false (sym h))
  told-live Silent o xs c s h = absurd (true≢false (sym h))

  pub row_told : (o : Operand T X) (xs : List (Suffix Tree)) (c : Context T) (s : State T) → is_live s.environment ≡ true →
      row_judged L o (known_suffixes L xs) c s ≡ told L o.spelling o.span o.declares o xs c s
  row_told o xs c s h = told-live s.environment o xs c s h

  -- ---- a row by its last suffix

  starts : (xs : List (Suffix Tree)) (row : Chain T X) → (with_suffixes L row (known_suffixes L xs)).it.span.start ≡ row.it.span.start
  starts [] row = refl
  starts (suffix.Call how name name_span row_arguments b span ∷ rest) row = starts rest (with_suffix L row (known_suffix L (suffix.Call how name name_span row_arguments b span)))
  starts (suffix.Constant name name_span span ∷ rest) row = starts rest (with_suffix L row (suffix.Constant name name_span span))
  starts (suffix.Index row_arguments span ∷ rest) row = starts rest (with_suffix L row (known_suffix L (suffix.Index row_arguments span)))

  last-step : (x : Suffix Tree) (row : Chain T X) (c : Context T) (s : State T) → is_live s.environment ≡ false →
      (with_suffix L row (known_suffix L x)).it.judge c s ≡ not_reached L s.environment (record { start = row.it.span.start; end = (suffix_span x).end }) s
  last-step (suffix.Call how name name_span row_arguments b span) row c s h =
      reached_by_life L s.environment (up_to row.it.span span) (send L row.it how name name_span (operands_of (arguments_of (known_brackets L row_arguments))) (known_blocks L b) (up_to row.it.span span)) c s
      ∙ ap (λ live. by_life L live (closed L (send L row.it how name name_span (operands_of (arguments_of (known_brackets L row_arguments))) (known_blocks L b) (up_to row.it.span span) c s)) (not_reached L s.environment (up_to row.it.span span) s)) h
  last-step (suffix.Constant name name_span span) row c s h =
      reached_by_life L s.environment (up_to row.it.span span) (constant_run L (longer L row.it.spelling name) row.it) c s
      ∙ ap (λ live. by_life L live (closed L (constant_run L (longer L row.it.spelling name) row.it c s)) (not_reached L s.environment (up_to row.it.span span) s)) h
  last-step (suffix.Index row_arguments span) row c s h =
      reached_by_life L s.environment (up_to row.it.span span) (send L row.it dot.Plain (codes "[]") (open_bracket span) (operands_of (known_arguments L row_arguments)) None (up_to row.it.span span)) c s
      ∙ ap (λ live. by_life L live (closed L (send L row.it dot.Plain (codes "[]") (open_bracket span) (operands_of (known_arguments L row_arguments)) None (up_to row.it.span span) c s)) (not_reached L s.environment (up_to row.it.span span) s)) h

  unreached-row : (front : List (Suffix Tree)) (x : Suffix Tree) (o : Operand T X) (c : Context T) (s : State T) → is_live s.environment ≡ false →
      row_judged L o (known_suffixes L (front ++ x ∷ [])) c s ≡ not_reached L s.environment (record { start = o.span.start; end = (suffix_span x).end }) s
  unreached-row front x o c s h =
      ap (λ (row : Chain T X). row.it.judge c s) (one-more L front x (chain_start L o))
      ∙ last-step x (with_suffixes L (chain_start L o) (known_suffixes L front)) c s h
      ∙ ap (λ n. not_reached L s.environment (record { start = n; end = (suffix_span x).end }) s) (starts front (chain_start L o))

  by-reach : (b : Bool) (front : List (Suffix Tree)) (x : Suffix Tree) (o : Operand T X) (c : Context T) (s : State T) → is_live s.environment ≡ b →
      reached_or L b (row_judged L o (known_suffixes L (front ++ x ∷ [])) c s) (not_reached L s.environment (record { start = o.span.start; end = (suffix_span x).end }) s)
      ≡ row_judged L o (known_suffixes L (front ++ x ∷ [])) c s
  by-reach true front x o c s h = refl
  by-reach false front x o c s h = sym (unreached-row front x o c s h)

  -- a row that has a last suffix
  pub chained_by : (xs : List (Suffix Tree)) (x : Suffix Tree) (o : Operand T X) (c : Context T) (s : State T) → last_suffix xs ≡ Some x →
      reached_or L (is_live s.environment) (row_judged L o (known_suffixes L xs) c s) (not_reached L s.environment (record { start = o.span.start; end = (suffix_span x).end }) s)
      ≡ row_judged L o (known_suffixes L xs) c s
  chained_by xs x o c s = by-last
      (λ ys. last_suffix ys ≡ Some x →
      reached_or L (is_live s.environment) (row_judged L o (known_suffixes L ys) c s) (not_reached L s.environment (record { start = o.span.start; end = (suffix_span x).end }) s)
      ≡ row_judged L o (known_suffixes L ys) c s)
      (λ h. cc)
      (λ front y h. let e : y ≡ x = cc (last-is front y) in
      subst (λ z. reached_or L (is_live s.environment) (row_judged L o (known_suffixes L (front ++ y ∷ [])) c s) (not_reached L s.environment (record { start = o.span.start; end = (suffix_span z).end }) s)
      ≡ row_judged L o (known_suffixes L (front ++ y ∷ [])) c s) e (by-reach (is_live s.environment) front y o c s refl))
      xs

  -- a row that has none
  pub chained_none : (xs : List (Suffix Tree)) (o : Operand T X) (c : Context T) (s : State T) → last_suffix xs ≡ None → o.judge c s ≡ row_judged L o (known_suffixes L xs) c s
  chained_none xs o c s = by-last
      (λ ys. last_suffix ys ≡ None → o.judge c s ≡ row_judged L o (known_suffixes L ys) c s)
      (λ h. refl)
      (λ front y h. let e : last_suffix (front ++ y ∷ []) ≡ Some y = last-is front y in cc)
      xs
