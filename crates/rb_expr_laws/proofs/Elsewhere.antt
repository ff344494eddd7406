-- What is a form before some tokens is one before others too.
use Rattle.std.proofs.Common.{Bool, List, [], ◌∷◌, ◌++◌, sym, ap, subst, ◌∙◌, append_assoc, append-nil}
use Rattle.rb_tree.specs.declared.syntax.Tree.{Tree}
use Rattle.rb_tree.specs.declared.token.Token.{Token}
use Rattle.rb_prefix_laws.proofs.Steps.{same-front}
use Rattle.rb_expr_laws.specs.Bodies.{PlainBody, PlainMore, PlainStatement}
use Rattle.rb_expr_laws.specs.Bodies.PlainBody.{NoStatement, Statements}
use Rattle.rb_expr_laws.specs.Bodies.PlainMore.{NoMore, Another}
use Rattle.rb_expr_laws.specs.Forms.{Form, BeginsForm, IsForm, IsPowered}
use Rattle.rb_expr_laws.specs.Laws.{StandElsewhere, StandingAreLone, TermsGoOn}
use Rattle.rb_expr_laws.proofs.Kept as kept
use Rattle.rb_expr_laws.proofs.Kept.{Keeps}
use Rattle.rb_expr_laws.proofs.Moved.{Rel, Moved, moved, front}
use Rattle.rb_expr_laws.proofs.Moved.Moved.{Stay, Keep}
use Rattle.rb_expr_laws.proofs.Powers as powers
use Rattle.rb_expr_laws.proofs.Raised.{ONE, to-one}

-- ---- bodies without declarations

module _ (es fs : List Token) where
  statement : {constants : Bool} {t : Tree} {xs ys : List Token} → PlainStatement constants t xs ys → Keeps es fs (PlainStatement constants t) xs ys
  statement d zs h = let z = kept.modified es fs d.modified zs h in let y = kept.simple es fs d.simple z.0 z.1 in (y.0, y.1, record { inner = d.inner; after = z.0; simple = y.2; modified = z.2 })

  more : {constants : Bool} {ts : List Tree} {xs ys : List Token} → PlainMore constants ts xs ys → Keeps es fs (PlainMore constants ts) xs ys
  more (NoMore _ _) zs h = (zs, h, NoMore _ _)
  more (Another _ t _ _ _ _ _ _ is d e f) zs h =
      let z = more f zs h in let y = statement e z.0 z.1 in let x = kept.gap es fs d y.0 y.1 in
      (t ∷ x.0, Keep x.1, Another _ _ _ _ _ _ _ _ is x.2 y.2 z.2)

  body : {constants : Bool} {t : Tree} {xs ys : List Token} → PlainBody constants t xs ys → Keeps es fs (PlainBody constants t) xs ys
  body (NoStatement _ _ _ d) zs h = let z = kept.gap es fs d zs h in (z.0, z.1, NoStatement _ _ _ z.2)
  body (Statements _ _ _ _ _ _ _ _ d e f g) zs h =
      let z = kept.gap es fs g zs h in let y = more f z.0 z.1 in let x = statement e y.0 y.1 in let w = kept.gap es fs d x.0 x.1 in
      (w.0, w.1, Statements _ _ _ _ _ _ _ _ w.2 x.2 y.2 z.2)

  form-of : (form : Form) (t : Tree) (xs ys : List Token) → IsForm form t xs ys → Keeps es fs (IsForm form t) xs ys
  form-of (Form.Body constants) t xs ys d zs h = body d zs h
  form-of Form.Term t xs ys d zs h = let z = kept.term es fs d zs h in (z.0, moved z.1, z.2)

-- ---- before other tokens

-- the tokens of the form stay the same
placed : (D : Rel) (before rest others : List Token) → (us : List Token) × Moved rest others (before ++ rest) us × D us others → D (before ++ others) others
placed D before rest others k = let f = front k.1 in subst (λ us. D us others) (f.2 ∙ ap (λ xs. xs ++ others) (sym (same-front before f.0 rest f.1))) k.2

pub stand-elsewhere : StandElsewhere
stand-elsewhere form t before rest others d on back = placed (IsForm form t) before rest others (form-of rest others form t (before ++ rest) rest d others (Stay (record { on = on; back = back })))

pub standing-are-lone : StandingAreLone
standing-are-lone form t before rest d none = subst (λ us. IsForm form t us []) (append-nil before) (stand-elsewhere form t before rest [] d none (λ h. absurd h))

-- and what is one by itself before others
pub lone-stand : (form : Form) (t : Tree) (before rest : List Token) → IsForm form t before [] → ¬ IsPowered rest → IsForm form t (before ++ rest) rest
lone-stand form t before rest d none = stand-elsewhere form t before [] rest (subst (λ us. IsForm form t us []) (sym (append-nil before)) d) (λ h. absurd h) none

-- before `**` too
pub before-one : (form : Form) (t : Tree) (before after : List Token) (power : Token) → IsForm form t (before ++ power ∷ after) (power ∷ after) → IsForm form t (before ++ power ∷ ONE ∷ []) (power ∷ ONE ∷ [])
before-one form t before after power d = stand-elsewhere form t before (power ∷ after) (power ∷ ONE ∷ []) d (λ h. h) (λ h. h)

-- with the power the tokens begin such a form
pub with-power : (form : Form) (before : List Token) (power : Token) (u : Tree) → IsForm form u (before ++ power ∷ ONE ∷ []) [] → BeginsForm form (before ++ power ∷ [])
with-power form before power u d = (ONE ∷ [], u, subst (λ us. IsForm form u us []) (sym (append_assoc before (power ∷ []) (ONE ∷ []))) d)

pub terms-go-on : TermsGoOn
terms-go-on t before after power is d =
    let u = powers.term power is (ONE ∷ []) [] to-one (before-one Form.Term t before after power d) in
    with-power Form.Term before power u.0 u.1
