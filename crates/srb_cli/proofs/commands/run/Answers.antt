use Rattle.std.proofs.Common.{Some, sym, ap, ◌∙◌, map, string_bytes}
use Rattle.std.specs.Option.{option_map}
use Rattle.srb_cli.specs.Seen.{seen}
use Rattle.srb_cli.proofs.Counts.{generates_within, serves_within}
use Rattle.srb_cli.proofs.commands.run.Goals as goal

pub generate-requires-clause-some : goal.generate-requires-clause-some
generate-requires-clause-some g c =
    λ _ _.
    (generates_within (map string_bytes c.args.words.now) c.in-Some-Generate.count
    (sym (ap (option_map seen) (c.in-Some-Generate.is ∙ ap Some c.in-Some-Generate.field-0-is)) ∙ c.command_of.ensures)).0

pub generate-requires-clause-few : goal.generate-requires-clause-few
generate-requires-clause-few g c =
    λ _ _.
    (generates_within (map string_bytes c.args.words.now) c.in-Some-Generate.count
    (sym (ap (option_map seen) (c.in-Some-Generate.is ∙ ap Some c.in-Some-Generate.field-0-is)) ∙ c.command_of.ensures)).1

pub lsp-cause-requires-clause-workers : goal.lsp-cause-requires-clause-workers
lsp-cause-requires-clause-workers g c =
    λ _ _.
    serves_within (map string_bytes c.args.words.now) c.in-Some-Serve.dir.now c.in-Some-Serve.workers
    (sym (ap (option_map seen) (c.in-Some-Serve.is ∙ ap Some c.in-Some-Serve.field-0-is)) ∙ c.command_of.ensures)
