use Rattle.std.proofs.Common.{◌≡◌, ℕ, suc, List, [], ◌∷◌, ◌++◌, take, ap, sym, ◌∙◌, add-one}
use Rattle.std.proofs.Math.Seq.{take-suc}
use Rattle.srb_judgement.specs.Kept.{seen_context}
use Rattle.srb_judgement.specs.States.{seeing}
use Rattle.srb_judgement.proofs.KeptContexts.{seeing-both}
use Rattle.srb_judgement.proofs.contexts.Context.see_all.Goals as goal

pub names-preserved : goal.names-preserved
names-preserved c =
    let i = c.names.name-index in
    let names : List (List ℕ) = c.args.names.now in
    let copied : List ℕ = c.in_ok-copied.field-0 in
    let e : take (suc i) names ≡ take i names ++ copied ∷ [] =
    take-suc names i c.name-item.result c.names-test.true
    ∙ ap (λ n. take i names ++ n ∷ []) (sym c.name-item.is)
    ∙ ap (λ n. take i names ++ n ∷ []) (sym c.in_ok-copied.ensures) in
    rw add-one (c.in_ok-see.ensures
    ∙ ap (λ k. seeing (copied ∷ []) k) c.names.invariant
    ∙ seeing-both (take i names) (copied ∷ []) (seen_context c.args.self.now)
    ∙ ap (λ ns. seeing ns (seen_context c.args.self.now)) (sym e))
