-- Statements in a row, and bodies of them.
use Rattle.std.proofs.Common.{◌≡◌, Bool, true, false, if◌then◌else◌, List, [], ◌∷◌, Ok, inl, inr, refl, sym, subst}
use Rattle.rb_tree.specs.Tokens.{shape_of, same_shape}
use Rattle.rb_tree.specs.declared.syntax.Tree.{Tree}
use Rattle.rb_tree.specs.declared.token.Token.{Token}
use Rattle.rb_tree.specs.declared.token.Shape.TheVariants as shape
use Rattle.rb_expr.specs.Reading.{Parser, sees, skip_separators}
use Rattle.rb_rules.specs.Tokens.{Is}
use Rattle.rb_rules.specs.Forms.{Site}
use Rattle.rb_rules.specs.Grammar as rules
use Rattle.rb_rules.specs.Grammar.{Gap, Parted, DerivesStatement, DerivesMore}
use Rattle.rb_rules.specs.Grammar.Gap.{Closed, Wide}
use Rattle.rb_rules.specs.Grammar.Parted.{AfterNothing, AfterSeparator}
use Rattle.rb_rules.specs.Grammar.DerivesBody.{NoStatement, Statements}
use Rattle.rb_rules.specs.Grammar.DerivesMore.{NoMore, Another}
use Rattle.rb_grammar.proofs.Steps.{same}
use Rattle.rb_completion_laws.proofs.Steps.{Rel, Seq, Plain, plainly, headed, parted, One, Perhaps, nothing}
use Rattle.rb_completion_laws.proofs.Viable.{ABody, AParted, AStatement}

-- statements, with the separators after them
abbrev pub Row : Site → Bool → Rel
Row at free = Perhaps (λ us zs. (s : Tree) × (ss : List Tree) × (qs rs : List Token) × DerivesStatement at free s us qs × DerivesMore at free ss qs rs × Gap rs zs)

-- what stands after a statement
abbrev pub Further : Site → Bool → Rel
Further at free = Perhaps (Seq (One shape.Separator) (Seq Gap (Row at free)))

pub row-more : (at : Site) (free : Bool) (us zs : List Token) → Seq (AStatement at free) (Further at free) us zs → Row at free us zs
row-more at free us zs h = by h.mid h.first.0 h.first.1 h.second
  where
    after : (qs ts ps : List Token) (t s : Tree) → (c : Token) → Is shape.Separator c → qs ≡ c ∷ ts → Gap ts ps → DerivesStatement at free s us qs → Row at free ps zs → Row at free us zs
    after qs ts ps t s c is e g d (inl same) = inr (s, [], qs, qs, d, NoMore _ _ _, subst (λ v. Gap v zs) (sym e) (Wide _ _ _ is (subst (λ v. Gap ts v) same g)))
    after qs ts ps t s c is e g d (inr r) = inr (s, r.0 ∷ r.1, qs, r.3, d, subst (λ v. DerivesMore at free (r.0 ∷ r.1) v r.3) (sym e) (Another _ _ _ _ _ _ _ _ _ is g r.4 r.5), r.6)

    by : (qs : List Token) (s : Tree) → DerivesStatement at free s us qs → Further at free qs zs → Row at free us zs
    by qs s d (inl e) = inr (s, [], qs, qs, d, NoMore _ _ _, subst (λ v. Gap qs v) e (Closed _))
    by qs s d (inr k) = after qs k.mid k.second.mid s s k.first.0 k.first.1 k.first.2 k.second.first d k.second.second

pub further-goes : {A : Type 0} (at : Site) (free : Bool) (more : Parser A) (a : A) → ((xs : List Token) → Plain xs (more xs) (Row at free)) → (qs : List Token) → Plain qs (if sees shape.Separator qs then more (skip_separators qs) else Ok (a, qs)) (Further at free)
further-goes at free more a h [] = nothing a []
further-goes {A = A} at free more a h (t ∷ ts) = by (same_shape (shape_of t.kind) shape.Separator) refl
  where
    by : (b : Bool) → same_shape (shape_of t.kind) shape.Separator ≡ b → Plain {A = A} (t ∷ ts) (if b then more (if b then skip_separators ts else t ∷ ts) else Ok (a, t ∷ ts)) (Further at free)
    by true e = headed t (plainly (parted (h (skip_separators ts))) (λ us zs k. inr (record { mid = us; first = (t, same _ _ e, refl); second = k })))
    by false e = nothing a (t ∷ ts)

pub body-of : (at : Site) (free : Bool) (us zs : List Token) → Seq Gap (Row at free) us zs → ABody at free us zs
body-of at free us zs h = by h.mid h.first h.second
  where
    by : (ps : List Token) → Gap us ps → Row at free ps zs → ABody at free us zs
    by ps g (inl e) = (_, NoStatement _ _ _ _ (subst (λ v. Gap us v) e g))
    by ps g (inr r) = (_, Statements _ _ _ _ _ _ _ _ _ g r.4 r.5 r.6)

-- a statement alone, and one with more after it
pub alone-row : (at : Site) (free : Bool) (us zs : List Token) → AStatement at free us zs → Row at free us zs
alone-row at free us zs h = row-more at free us zs (record { mid = zs; first = h; second = inl refl })

pub longer-row : (at : Site) (free : Bool) (us zs : List Token) → Seq (AStatement at free) (Seq (One shape.Separator) (Seq Gap (Row at free))) us zs → Row at free us zs
longer-row at free us zs h = row-more at free us zs (record { mid = h.mid; first = h.first; second = inr h.second })

-- ---- before a `rescue`

-- statements with a separator after them, or none
abbrev pub RowEnd : Site → Bool → Rel
RowEnd at free = Perhaps (λ us zs. (s : Tree) × (ss : List Tree) × (qs rs ts : List Token) × DerivesStatement at free s us qs × DerivesMore at free ss qs rs × Gap rs ts × One shape.Separator ts zs)

-- the last separator
last-of-gap : (t : Token) (ts zs : List Token) → Is shape.Separator t → Gap ts zs → (ms : List Token) × Gap (t ∷ ts) ms × One shape.Separator ms zs
last-of-gap t ts zs is (Closed _) = (t ∷ zs, Closed _, (t, is, refl))
last-of-gap t _ zs is (Wide u ys _ more g) = let k = last-of-gap u ys zs more g in (k.0, Wide _ _ _ is k.1, k.2)

pub longer-end : (at : Site) (free : Bool) (us zs : List Token) → Seq (AStatement at free) (Seq (One shape.Separator) (Seq Gap (RowEnd at free))) us zs → RowEnd at free us zs
longer-end at free us zs h = by h.mid h.second.mid h.second.second.mid h.first.0 h.first.1 h.second.first.0 h.second.first.1 h.second.first.2 h.second.second.first h.second.second.second
  where
    by : (qs ts ps : List Token) (s : Tree) → DerivesStatement at free s us qs → (c : Token) → Is shape.Separator c → qs ≡ c ∷ ts → Gap ts ps → RowEnd at free ps zs → RowEnd at free us zs
    by qs ts ps s d c is e g (inl end) = let k = last-of-gap c ts zs is (subst (λ v. Gap ts v) end g) in inr (s, [], qs, qs, k.0, d, NoMore _ _ _, subst (λ v. Gap v k.0) (sym e) k.1, k.2)
    by qs ts ps s d c is e g (inr r) = inr (s, r.0 ∷ r.1, qs, r.3, r.4, d, subst (λ v. DerivesMore at free (r.0 ∷ r.1) v r.3) (sym e) (Another _ _ _ _ _ _ _ _ _ is g r.5 r.6), r.7, r.8)

-- a body and what parts it from a `rescue`
pub body-parted : (at : Site) (free : Bool) (us zs : List Token) → Seq Gap (RowEnd at free) us zs → AParted at free us zs
body-parted at free us zs h = by h.mid h.first h.second
  where
    by : (ps : List Token) → Gap us ps → RowEnd at free ps zs → AParted at free us zs
    by ps g (inl e) = (_, zs, NoStatement _ _ _ _ (subst (λ v. Gap us v) e g), AfterNothing _)
    by ps g (inr r) = (_, r.4, Statements _ _ _ _ _ _ _ _ _ g r.5 r.6 r.7, subst (λ v. Parted (rules.body_of (r.0 ∷ r.1)) v zs) (sym r.8.2) (AfterSeparator _ _ _ r.8.1))
