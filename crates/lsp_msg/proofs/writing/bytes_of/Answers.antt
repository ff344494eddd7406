use Rattle.std.proofs.Common.{ap, ◌∙◌, Some}
use Rattle.std.proofs.lemmas.Result.{IfOk-weaker}
use Rattle.serde_json.specs.Written.{compact_text, has_float}
use Rattle.lsp_msg.specs.Written.{body_of}
use Rattle.lsp_msg.proofs.Objects.{object_has_no_float, object_is_shallow}
use Rattle.lsp_msg.proofs.writing.bytes_of.Goals as goal

pub returns-clause-body : goal.returns-clause-body
unfolding body_of
returns-clause-body c =
    IfOk-weaker c.to_vec.result _ _
    (λ body text out is. text (ap has_float is ∙ object_has_no_float out) ∙ ap compact_text is)
    c.to_vec.ensures.text

pub returns-clause-reads_back : goal.returns-clause-reads_back
returns-clause-reads_back c =
    IfOk-weaker c.to_vec.result _ _
    (λ body text out is. text (rw is (object_is_shallow out)) ∙ ap Some is)
    c.to_vec.ensures.reads_back
