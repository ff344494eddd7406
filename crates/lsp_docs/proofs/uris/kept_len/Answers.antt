use Rattle.std.proofs.Common.{◌+◌, sym, ◌∙◌}
use Rattle.std.proofs.lemmas.List.{take_rest}
use Rattle.lsp_docs.proofs.RootLemmas.{no_colon_kept, colon_alone, colon_slashes}
use Rattle.lsp_docs.proofs.uris.kept_len.Goals as goal

pub returns-in_default-clause-trimmed : goal.returns-in_default-clause-trimmed
returns-in_default-clause-trimmed c = no_colon_kept c.args.uri.now (sym c.first_colon.ensures ∙ c.in_default.is)

pub returns-then-starts_with-clause-trimmed : goal.returns-then-starts_with-clause-trimmed
returns-then-starts_with-clause-trimmed c =
    colon_slashes c.args.uri.now _ c.in-Some.colon (sym c.first_colon.ensures ∙ c.in-Some.is) (take_rest c.args.uri.now (c.in-Some.colon + 1))
    (sym c.starts_with.ensures.value ∙ c.if-starts_with.true)

pub returns-else-starts_with-clause-trimmed : goal.returns-else-starts_with-clause-trimmed
returns-else-starts_with-clause-trimmed c =
    colon_alone c.args.uri.now _ c.in-Some.colon (sym c.first_colon.ensures ∙ c.in-Some.is) (take_rest c.args.uri.now (c.in-Some.colon + 1))
    (sym c.starts_with.ensures.value ∙ c.if-starts_with.false)
