use Rattle.std.proofs.Common.{take, sym, ap, ◌∙◌, subst, arith}
use Rattle.std.specs.Prelude.{OnOk}
use Rattle.std.specs.Option.{option_copied}
use Rattle.srb_check.specs.Jobs.{AreLoaded}
use Rattle.lsp_docs.specs.Projects.{Project}
use Rattle.run_core.proofs.Loading.{file_at, some_same, up_to_next}
use Rattle.run_core.proofs.builds.add_at.Goals as goal

pub unreachable-requires : goal.unreachable-requires
unreachable-requires c =
    let file = file_at c.args.docs.now.project c.args.index c.path_at-path.result.now c.requires.ordered c.path_at-path.ensures in
    let none = sym (ap option_copied c.in-None.is) ∙ c.bytes.ensures.bytes ∙ file.1 in
    grind (arith, none)

pub returns : goal.returns
returns c =
    let p = c.args.docs.now.project in
    let file = file_at p c.args.index c.path_at-path.result.now c.requires.ordered c.path_at-path.ensures in
    let bytes = some_same (sym (ap option_copied c.in-Some.is) ∙ c.bytes.ensures.bytes ∙ file.1) in
    subst (λ (front : Project). OnOk c.add.result (AreLoaded front c.add.new.self))
    (up_to_next p c.args.index c.path_at-path.result.now _ file.0 c.in-Some.bytes.now file.2 c.in_ok-copied-in-Some.ensures bytes)
    (c.add.ensures (take c.args.index p) c.requires.front)
