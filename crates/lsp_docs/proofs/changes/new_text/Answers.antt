use Rattle.std.proofs.lemmas.Str.{encodes-chars}
use Rattle.lsp_docs.proofs.changes.new_text.Goals as goal

pub returns-then-size-gt-BYTES_LIMIT-clause-spelled : goal.returns-then-size-gt-BYTES_LIMIT-clause-spelled
returns-then-size-gt-BYTES_LIMIT-clause-spelled c = encodes-chars c.args.words.now c.as_bytes.ensures.utf8

pub returns-in_err-made-clause-spelled : goal.returns-in_err-made-clause-spelled
returns-in_err-made-clause-spelled c = encodes-chars c.args.words.now c.as_bytes.ensures.utf8

pub returns-clause-spelled : goal.returns-clause-spelled
returns-clause-spelled c = encodes-chars c.args.words.now c.as_bytes.ensures.utf8
