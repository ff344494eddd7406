use Rattle.std.proofs.Common.{◌≡◌, Some, refl, sym, ap, ◌∙◌, subst, map, string_bytes}
use Rattle.std.specs.Prelude.{Option}
use Rattle.std.specs.Option.{option_map}
use Rattle.srb_terms.specs.declared.cause.Cause.{Cause}
use Rattle.srb_cli.specs.Commands.{Command, command_of}
use Rattle.srb_cli.specs.Ends.{Ends, EndsChecking}
use Rattle.srb_cli.specs.Outside.{outside}
use Rattle.srb_cli.specs.Seen.{seen}
use Rattle.srb_cli.proofs.one_thread.once.Goals as goal

pub returns-in-Some-Check-clause-ends : goal.returns-in-Some-Check-clause-ends
returns-in-Some-Check-clause-ends g c = λ steps.
    let said = c.new-in-Some-Check.result.cause in
    let o = outside (g.F.Files.told c.args.files.now) (g.F.Files.faults c.args.files.now) (g.F.Files.faults c.tc.new.files) (g.S.Source.left c.args.source.now)
    (g.S.Source.left c.args.source.now) (g.S.Source.faults c.args.source.now) (g.S.Source.faults c.args.source.now) (g.K.Sink.held c.args.sink.now)
    (g.K.Sink.held c.tc.new.sink) (g.K.Sink.faults c.args.sink.now) (g.K.Sink.faults c.tc.new.sink) steps steps in
    let asked : Some (Command.Check c.in-Some-Check.dir.now) ≡ command_of (map string_bytes c.args.words.now) =
    sym (ap (option_map seen) (c.in-Some-Check.is ∙ ap Some c.in-Some-Check.field-0-is)) ∙ c.command_of.ensures in
    subst (λ (k : Option Command). Ends k said o) asked (
      subst (λ (why : Cause). EndsChecking c.in-Some-Check.dir.now why o.course o.listing) (sym c.new-in-Some-Check.ensures.cause)
          (c.tc.ensures (g.S.Source.left c.args.source.now) (g.S.Source.faults c.args.source.now)),
      refl,
    )
