-- A command as contracts see it.
use Rattle.srb_cli.specs.Commands.{Command}
use Rattle.srb_cli.specs.declared.command.Command.{Command as Asked}
use Rattle.srb_cli.specs.declared.command.Command.TheVariants as asked

abbrev pub seen : Asked → Command
seen asked.Text = Command.Text
seen (asked.Check dir) = Command.Check dir.now
seen (asked.Serve dir workers) = Command.Serve dir.now workers
seen (asked.Generate count) = Command.Generate count
