use Rattle.std.proofs.Common.{◌∷◌, ◌++◌, [], ap, ◌∙◌, refl, true}
use Rattle.srb_judgement.specs.declared.contexts.Context as kept
use Rattle.srb_judgement.specs.Views.{seen_environment}
use Rattle.srb_judgement.proofs.KeptContexts.{loop-same}
use Rattle.srb_judgement.proofs.contexts.Context.in_loop.Goals as goal

pub returns : goal.returns
returns g c =
    let L = g.L.Language.the c.args.language.now in
    let entry = seen_environment c.args.entry.now in
    let old : kept.Context = c.args.self.now in
    let inner : kept.Context = c.in_ok-inner.inner in
    let new : kept.Context = record inner { inside = true; looping = true; pins = c.push.new.self } in
    let e = c.in_ok-inner.ensures in
    loop-same L entry old new c.in_ok-layer.layer
    (record {
      same = record {
        self_type = ap (λ (x : kept.Context). x.self_type) e;
        scope = ap (λ (x : kept.Context). x.scope) e;
        owner = ap (λ (x : kept.Context). x.owner) e;
        meta = ap (λ (x : kept.Context). x.meta) e;
        result = ap (λ (x : kept.Context). x.result) e;
      };
      inside = refl;
      pins =
          c.in_ok-push.ensures.ok
          ∙ ap (λ (x : kept.Context). x.pins ++ c.in_ok-new.field-0 ∷ []) e
          ∙ ap (λ l. old.pins ++ l ∷ []) c.in_ok-new.ensures;
    })
    refl
    (ap (λ (x : kept.Context). x.visible) e)
    c.in_ok-layer.ensures
