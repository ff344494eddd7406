use Rattle.std.proofs.Common.{◌≡◌, take, sym, ap, ◌∙◌, subst, arith}
use Rattle.std.specs.Prelude.{Some, OnOk}
use Rattle.std.specs.Option.{option_map}
use Rattle.srb_terms.specs.Projects.{bytes_at}
use Rattle.srb_check.specs.Jobs.{AreLoaded, IsJobWith}
use Rattle.srb_check.specs.Records.{loaded}
use Rattle.lsp_docs.specs.Projects.{Project}
use Rattle.run_core.proofs.CoreSteps.{not_both_ways}
use Rattle.run_core.proofs.Loading.{file_at, some_same, up_to_next}
use Rattle.run_core.proofs.builds.add_edited.Goals as goal

pub keep-requires : goal.keep-requires
keep-requires c =
    let file = file_at c.args.docs.now.project c.args.index c.path_at-here.result.now c.requires.ordered c.path_at-here.ensures in (
      file.0,
      subst (λ f. IsJobWith f file.0 c.args.before.now) (sym c.in_ok-copied.ensures)
          (c.requires.others c.path_at-here.result.now file.0 (λ same. not_both_ways c.is_same.result (c.is_same.ensures.1 same) c.if-not-is_same.true) file.1),
    )

pub returns-then-not-is_same : goal.returns-then-not-is_same
returns-then-not-is_same c =
    let p = c.args.docs.now.project in
    let file = file_at p c.args.index c.path_at-here.result.now c.requires.ordered c.path_at-here.ensures in
    let has = subst (λ f. IsJobWith f file.0 c.args.before.now) (sym c.in_ok-copied.ensures)
    (c.requires.others c.path_at-here.result.now file.0 (λ same. not_both_ways c.is_same.result (c.is_same.ensures.1 same) c.if-not-is_same.true) file.1) in
    subst (λ (front : Project). OnOk c.keep.result (AreLoaded front c.keep.new.self))
    (up_to_next p c.args.index c.path_at-here.result.now _ file.0 file.0 file.2 c.in_ok-copied.ensures (λ i. file.0))
    (c.keep.ensures (take c.args.index p) file.0 c.requires.front has)

pub unreachable-requires : goal.unreachable-requires
unreachable-requires c =
    let p = c.args.docs.now.project in
    let file = file_at p c.args.index c.path_at-here.result.now c.requires.ordered c.path_at-here.ensures in
    let same = c.is_same.ensures.0 c.if-not-is_same.false in
    let some = sym c.in-None.is ∙ c.requires.file ∙ ap (λ f. option_map loaded (bytes_at f p)) (sym same) ∙ ap (option_map loaded) file.1 in
    absurd (grind (arith, some))

pub add_record-requires : goal.add_record-requires
add_record-requires c =
    let p = c.args.docs.now.project in
    let file = file_at p c.args.index c.path_at-here.result.now c.requires.ordered c.path_at-here.ensures in
    let same = c.is_same.ensures.0 c.if-not-is_same.false in
    let some = sym c.in-Some.is ∙ c.requires.file ∙ ap (λ f. option_map loaded (bytes_at f p)) (sym same) ∙ ap (option_map loaded) file.1 in
    record { bytes = file.0; loads = c.in_ok-copied-in-Some-2.ensures ∙ some_same some }

pub returns : goal.returns
returns c =
    let p = c.args.docs.now.project in
    let file = file_at p c.args.index c.path_at-here.result.now c.requires.ordered c.path_at-here.ensures in
    let same = c.is_same.ensures.0 c.if-not-is_same.false in
    let some = sym c.in-Some.is ∙ c.requires.file ∙ ap (λ f. option_map loaded (bytes_at f p)) (sym same) ∙ ap (option_map loaded) file.1 in
    subst (λ (front : Project). OnOk c.add_record.result (AreLoaded front c.add_record.new.self))
    (up_to_next p c.args.index c.path_at-here.result.now _ file.0 file.0 file.2 c.in_ok-copied-in-Some.ensures (λ i. file.0))
    (c.add_record.ensures (take c.args.index p) file.0 c.requires.front (c.in_ok-copied-in-Some-2.ensures ∙ some_same some))
