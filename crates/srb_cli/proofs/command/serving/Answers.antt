use Rattle.std.proofs.Common.{string_bytes}
use Rattle.srb_cli.proofs.TooMany.{too_many}
use Rattle.srb_cli.proofs.command.serving.Goals as goal

pub returns-in-len4-up : goal.returns-in-len4-up
returns-in-len4-up c = too_many string_bytes c.args.words.now c.in-len4-up.len_at_least
