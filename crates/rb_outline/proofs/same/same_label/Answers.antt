use Rattle.std.proofs.Common.{◌≡◌, ◌∙◌, ap, sym, rules}
use Rattle.srb_terms.specs.declared.outline.Label.{Label}
use Rattle.srb_terms.specs.declared.outline.NodeKind.{NodeKind}
use Rattle.srb_terms.specs.contracts.outline.NodeKind.{the_type}
use denote.Enum.Bare.{same_true}
use Rattle.rb_outline.proofs.same.same_label.Goals as goal

labels-equal : (a b : Label) → a.kind ≡ b.kind → a.words ≡ b.words → a ≡ b
labels-equal a b k w = λ i. record { kind = k i; words = w i }

pub returns-then-eq : goal.returns-then-eq
returns-then-eq c =
    let kinds : c.args.a.now.kind ≡ c.args.b.now.kind = same_true the_type (search rules) _ _ (sym c.eq.ensures ∙ c.if-eq.true) in
    (λ h. labels-equal c.args.a.now c.args.b.now kinds (c.is_same.ensures.0 h), λ e. c.is_same.ensures.1 (ap (λ l. l.words) e))
