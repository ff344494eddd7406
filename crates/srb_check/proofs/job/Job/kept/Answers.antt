use Rattle.std.proofs.Common.{◌≡◌, List, ℕ, Some, sym, ap, subst, ◌∙◌, arith}
use Rattle.std.specs.Prelude.{IfOk}
use Rattle.std.specs.Option.{option_copied}
use Rattle.std.specs.List.{slice_get}
use Rattle.std.proofs.lemmas.Option.{same_Some}
use Rattle.srb_check.specs.Jobs.{Known}
use Rattle.srb_check.specs.Records.{loaded}
use Rattle.srb_check.proofs.Jobs.{record_with}
use Rattle.srb_check.proofs.job.Job.kept.Goals as goal

pub unreachable-requires : goal.unreachable-requires
unreachable-requires c =
    let has = c.requires.1 in
    let paths = c.as_slice.ensures ∙ ap (λ (k : Known). k.files.paths) c.self.view_is ∙ has.known.files.paths in
    let none = sym (ap option_copied c.in-None.is) ∙ c.get.ensures ∙ ap (λ (k : Known). slice_get k.files.records c.place_near.result) c.self.view_is
    ∙ record_with c.args.path.now c.requires.0 c.args.self.now c.place_near.result has (c.place_near.ensures has.project has.ordered paths) in
    absurd (grind (arith, none))

pub returns : goal.returns
returns c =
    λ bytes has.
    let paths = c.as_slice.ensures ∙ ap (λ (k : Known). k.files.paths) c.self.view_is ∙ has.known.files.paths in
    let some = sym (ap option_copied c.in-Some.is) ∙ c.get.ensures ∙ ap (λ (k : Known). slice_get k.files.records c.place_near.result) c.self.view_is
    ∙ record_with c.args.path.now bytes c.args.self.now c.place_near.result has (c.place_near.ensures has.project has.ordered paths) in
    subst (λ r. IfOk c.copied.result (λ copy. copy ≡ r)) (same_Some _ _ some) c.copied.ensures
