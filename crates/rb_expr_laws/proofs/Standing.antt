-- The longest form is read where it stands.
use Rattle.std.proofs.Common.{◌≡◌, inl, inr, ⊎_elim, ℕ, true, false, List, [], ◌∷◌, ◌++◌, length, Ok, Err, refl, sym, ap, subst, ◌∙◌}
use Rattle.rb_tree.specs.Tokens.{shape_of, same_shape}
use Rattle.rb_tree.specs.declared.syntax.Tree.{Tree}
use Rattle.rb_tree.specs.declared.token.Token.{Token}
use Rattle.rb_tree.specs.declared.token.Shape.{Shape}
use Rattle.rb_tree.specs.declared.token.Shape.TheVariants as shape
use Rattle.rb_expr.specs.Reading.{Outcome}
use Rattle.rb_rules.specs.Tokens.{Is}
use Rattle.rb_grammar_laws.specs.Ends.{BODY_ENDS, TERM_ENDS}
use Rattle.rb_grammar_laws.proofs.Steps.{ends-by, is_in}
use Rattle.rb_prefix_laws.specs.Laws.{usual}
use Rattle.rb_prefix_laws.proofs.Steps.{rest_of}
use Rattle.rb_expr_laws.specs.Forms.{Form, BeginsForm, GoesNoFurther, IsForm, IsPowered, Reaches, Stands}
use Rattle.rb_expr_laws.specs.Laws.{OneStands}
use Rattle.rb_expr_laws.proofs.Elsewhere.{before-one, with-power, standing-are-lone, terms-go-on}
use Rattle.rb_expr_laws.proofs.Forms.{Follows, cut-short, facts, followed-read, reads, rescued, before-power}
use Rattle.rb_expr_laws.proofs.Raised.{ONE}
use Rattle.rb_expr_laws.proofs.Reach.{read-reaches, refused-reaches, same-rest}

-- the reader stops where the longest form ends
stops : (form : Form) (tokens : List Token) (n : ℕ) (r : Reaches form tokens n) (o : Outcome Tree) → reads form tokens ≡ o → rest_of o ≡ r.rest
unfolding read-reaches refused-reaches
stops form tokens n r (Ok (t, rest)) e = let h = (facts form).alone tokens rest t e in same-rest form tokens (length h.0) n (read-reaches form tokens h.0 rest t h.2 h.1 h.3 e) r
stops form tokens n r (Err rest) e = let h = (facts form).begun tokens rest e in same-rest form tokens (length h.0) n (refused-reaches form tokens h.0 rest h.1 (h.2, h.3, h.4) e) r

pub same-read : (o : Outcome Tree) (t u : Tree) (rest left : List Token) → o ≡ Ok (t, rest) → o ≡ Ok (u, left) → t ≡ u
same-read o t u rest left e f = ap first (sym e ∙ f)
  where
    first : Outcome Tree → Tree
    first (Ok p) = p.0
    first (Err left) = t

-- but before `**` a form has one tree
same-tree : (form : Form) (before rest : List Token) (t u : Tree) → ¬ IsPowered rest → IsForm form t (before ++ rest) rest → IsForm form u (before ++ rest) rest → t ≡ u
same-tree form before rest t u none d e =
    same-read (reads form before) t u [] [] ((facts form).complete before t (standing-are-lone form t before rest d none)) ((facts form).complete before u (standing-are-lone form u before rest e none))

-- ---- by the next token

unpowered : (s : Shape) (t : Token) (ts : List Token) → Is s t → same_shape s shape.Power ≡ false → ¬ IsPowered (t ∷ ts)
unfolding same_shape
unpowered s t ts is other (inl power) = absurd (no s (sym is ∙ power) other)
  where
    no : (s : Shape) → s ≡ shape.Power → same_shape s shape.Power ≡ false → ⊥
    no s e f = absurd (let g : same_shape shape.Power shape.Power ≡ false = ap (λ c. same_shape c shape.Power) (sym e) ∙ f in let h : true ≡ false = g in cc)
unpowered s t ts is other (inr none) = none

module _ (form : Form) (t : Tree) (before : List Token) (next : Token) (after : List Token) (begins : BeginsForm form before) (further : GoesNoFurther form before (next ∷ after)) where
  abbrev Whole : List Token
  Whole = before ++ next ∷ after

  reaches : Reaches form Whole (length before)
  reaches = record { before = before; rest = next ∷ after; whole = refl; number = refl; begins = begins; no_further = further }

  at-usual : usual (shape_of next.kind) ≡ true → ¬ IsPowered (next ∷ after) → IsForm form t Whole (next ∷ after) → reads form Whole ≡ Ok (t, next ∷ after)
  unfolding reaches
  at-usual u none d = by (reads form Whole) refl
    where
      by : (o : Outcome Tree) → reads form Whole ≡ o → reads form Whole ≡ Ok (t, next ∷ after)
      by (Ok (v, rest)) e =
          let same : rest ≡ next ∷ after = stops form Whole (length before) reaches (Ok (v, rest)) e in
          let read : reads form Whole ≡ Ok (v, next ∷ after) = e ∙ ap (λ us. Ok (v, us)) same in
          read ∙ ap (λ w. Ok (w, next ∷ after)) (same-tree form before (next ∷ after) v t none ((facts form).sound Whole (next ∷ after) v read) d)
      by (Err rest) e =
          let same : rest ≡ next ∷ after = stops form Whole (length before) reaches (Err rest) e in
          let short = cut-short form before next after (e ∙ ap (λ us. Err us) same) u in
          let lone = (facts form).complete before t (standing-are-lone form t before (next ∷ after) d none) in
          absurd (cc)

  -- no longest term stands before `**`, and a body is read there or goes on with it
  at-power : Is shape.Power next → IsForm form t Whole (next ∷ after) → reads form Whole ≡ Ok (t, next ∷ after)
  at-power is d = by form begins further d
    where
      by : (form : Form) → BeginsForm form before → GoesNoFurther form before (next ∷ after) → IsForm form t Whole (next ∷ after) → reads form Whole ≡ Ok (t, next ∷ after)
      by (Form.Body constants) begins further d =
          ⊎_elim (λ u. absurd (further (with-power (Form.Body constants) before next u.0 u.1))) (λ e. (facts (Form.Body constants)).ended t before next (ONE ∷ []) after e)
          (before-power constants (before ++ next ∷ ONE ∷ []) next t is (before-one (Form.Body constants) t before after next d))
      by Form.Term begins further d = absurd (further (terms-go-on t before after next is d))

  -- a body is read up to a `rescue` where it is parted from it, a term always
  at-rescue : Is shape.Rescue next → ¬ IsPowered (next ∷ after) → Stands form t Whole (next ∷ after) → reads form Whole ≡ Ok (t, next ∷ after)
  unfolding same_shape
  at-rescue is none d = by form d
    where
      by : (form : Form) → Stands form t Whole (next ∷ after) → reads form Whole ≡ Ok (t, next ∷ after)
      by (Form.Body constants) (d, parted) =
          let (u, ps, e, p) = parted (inl is) in
          let read = rescued constants Whole ps after next u e p is in
          read ∙ ap (λ w. Ok (w, next ∷ after)) (same-tree (Form.Body constants) before (next ∷ after) u t none ((facts (Form.Body constants)).sound Whole (next ∷ after) u read) d)
      by Form.Term (d, parted) = followed-read Form.Term Whole (next ∷ after) t d (ends-by TERM_ENDS shape.Rescue refl refl true next after is)

  -- an ending word ends every form
  at-end : (s : Shape) → is_in BODY_ENDS s ≡ true → is_in TERM_ENDS s ≡ true → same_shape s shape.Do ≡ false → Is s next → IsForm form t Whole (next ∷ after) → reads form Whole ≡ Ok (t, next ∷ after)
  at-end s a b other is d = followed-read form Whole (next ∷ after) t d (by form)
    where
      by : (form : Form) → Follows form (next ∷ after)
      by (Form.Body constants) = ends-by BODY_ENDS s a other true next after is
      by Form.Term = ends-by TERM_ENDS s b other true next after is

  at-next : (s : Shape) → Is s next → Stands form t Whole (next ∷ after) → reads form Whole ≡ Ok (t, next ∷ after)
  unfolding same_shape
  at-next shape.Power is d = at-power is d.0
  at-next shape.Rescue is d = at-rescue is (unpowered shape.Rescue next after is refl) d
  at-next shape.End is d = at-end shape.End refl refl refl is d.0
  at-next shape.Elsif is d = at-end shape.Elsif refl refl refl is d.0
  at-next shape.Else is d = at-end shape.Else refl refl refl is d.0
  at-next shape.When is d = at-end shape.When refl refl refl is d.0
  at-next shape.Ensure is d = at-end shape.Ensure refl refl refl is d.0
  at-next s is d = at-usual (ap usual is ∙ refl) (unpowered s next after is refl) d.0

by-next : (form : Form) (t : Tree) (before rest : List Token) → BeginsForm form before → GoesNoFurther form before rest → Stands form t (before ++ rest) rest → reads form (before ++ rest) ≡ Ok (t, rest)
by-next form t before [] begins further d = (facts form).complete (before ++ []) t d.0
by-next form t before (next ∷ after) begins further d = at-next form t before next after begins further (shape_of next.kind) refl d

pub standing-read : (form : Form) (tokens : List Token) (n : ℕ) (t : Tree) → (r : Reaches form tokens n) → Stands form t tokens r.rest → reads form tokens ≡ Ok (t, r.rest)
standing-read form tokens n t r d =
    subst (λ us. reads form us ≡ Ok (t, r.rest)) (sym r.whole) (by-next form t r.before r.rest r.begins r.no_further (subst (λ us. Stands form t us r.rest) r.whole d))

pub one-stands : OneStands
one-stands form tokens n t u r d e = same-read (reads form tokens) t u r.rest r.rest (standing-read form tokens n t r d) (standing-read form tokens n u r e)
