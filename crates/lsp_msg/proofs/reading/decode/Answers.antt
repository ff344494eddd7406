use Rattle.std.proofs.Common.{◌∙◌, sym, true≢false}
use Rattle.std.proofs.lemmas.Result.{IfOk-weaker}
use Rattle.serde_json.specs.View.{view}
use Rattle.lsp_msg.proofs.Bodies.{says_its_value, says_no_value}
use Rattle.lsp_msg.proofs.reading.decode.Goals as goal

pub returns-in-Ok : goal.returns-in-Ok
returns-in-Ok c =
    IfOk-weaker c.read_message.result _ _ (λ msg is. is ∙ says_its_value c.args.body.now (view c.in-Ok.message) c.in-Ok.ensures.ok)
    c.read_message.ensures

pub returns-in-Err-2 : goal.returns-in-Err-2
returns-in-Err-2 c = says_no_value c.args.body.now (c.in-Err.ensures.err (λ memory. true≢false (sym (c.is_memory.ensures.1 memory) ∙ c.if-is_memory.false)))
