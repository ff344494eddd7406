use Rattle.std.proofs.Common.{sym, ap, ◌∙◌, Some, FitsSigned, w32, rules}
use Rattle.std.proofs.lemmas.Int.{to_z-of_z}
use Rattle.std.proofs.lemmas.Result.{IfOk-weaker}
use Rattle.serde_json.specs.Written.{compact_text}
use Rattle.lsp_msg.specs.declared.out.Out.TheVariants.{Error}
use Rattle.lsp_msg.specs.Written.{list_object, object_of, body_of}
use Rattle.lsp_msg.proofs.writing.encode.Goals as goal

pub returns-in_ok-initialized-in-Initialized-clause-body : goal.returns-in_ok-initialized-in-Initialized-clause-body
returns-in_ok-initialized-in-Initialized-clause-body c =
    IfOk-weaker c.bytes_of.result _ _
    (λ body says. says c.args.out.now (c.in_ok-initialized-in-Initialized.ensures ∙ ap object_of (sym c.in-Initialized.is)))
    c.bytes_of.ensures.body

pub returns-in_ok-initialized-in-Initialized-clause-reads_back : goal.returns-in_ok-initialized-in-Initialized-clause-reads_back
returns-in_ok-initialized-in-Initialized-clause-reads_back c =
    IfOk-weaker c.bytes_of.result _ _
    (λ body says. says c.args.out.now (c.in_ok-initialized-in-Initialized.ensures ∙ ap object_of (sym c.in-Initialized.is)))
    c.bytes_of.ensures.reads_back

pub returns-in_ok-null_reply-in-Null-clause-body : goal.returns-in_ok-null_reply-in-Null-clause-body
returns-in_ok-null_reply-in-Null-clause-body c =
    IfOk-weaker c.bytes_of-in-Null.result _ _
    (λ body says. says c.args.out.now (c.in_ok-null_reply-in-Null.ensures ∙ ap object_of (sym c.in-Null.is)))
    c.bytes_of-in-Null.ensures.body

pub returns-in_ok-null_reply-in-Null-clause-reads_back : goal.returns-in_ok-null_reply-in-Null-clause-reads_back
returns-in_ok-null_reply-in-Null-clause-reads_back c =
    IfOk-weaker c.bytes_of-in-Null.result _ _
    (λ body says. says c.args.out.now (c.in_ok-null_reply-in-Null.ensures ∙ ap object_of (sym c.in-Null.is)))
    c.bytes_of-in-Null.ensures.reads_back

pub returns-in_ok-error_reply-in-Error-clause-body : goal.returns-in_ok-error_reply-in-Error-clause-body
returns-in_ok-error_reply-in-Error-clause-body c =
    let fits : FitsSigned w32 c.in-Error.code = search rules in
    let code = ap (λ code. object_of (Error c.in-Error.id code)) (to_z-of_z w32 c.in-Error.code fits) in
    IfOk-weaker c.bytes_of-in-Error.result _ _
    (λ body says. says c.args.out.now (c.in_ok-error_reply-in-Error.ensures ∙ code ∙ ap object_of (sym c.in-Error.is)))
    c.bytes_of-in-Error.ensures.body

pub returns-in_ok-error_reply-in-Error-clause-reads_back : goal.returns-in_ok-error_reply-in-Error-clause-reads_back
returns-in_ok-error_reply-in-Error-clause-reads_back c =
    let fits : FitsSigned w32 c.in-Error.code = search rules in
    let code = ap (λ code. object_of (Error c.in-Error.id code)) (to_z-of_z w32 c.in-Error.code fits) in
    IfOk-weaker c.bytes_of-in-Error.result _ _
    (λ body says. says c.args.out.now (c.in_ok-error_reply-in-Error.ensures ∙ code ∙ ap object_of (sym c.in-Error.is)))
    c.bytes_of-in-Error.ensures.reads_back

pub returns-in_ok-log_message-in-Log-clause-body : goal.returns-in_ok-log_message-in-Log-clause-body
returns-in_ok-log_message-in-Log-clause-body c =
    IfOk-weaker c.bytes_of-in-Log.result _ _
    (λ body says. says c.args.out.now (c.in_ok-log_message-in-Log.ensures ∙ ap object_of (sym c.in-Log.is)))
    c.bytes_of-in-Log.ensures.body

pub returns-in_ok-log_message-in-Log-clause-reads_back : goal.returns-in_ok-log_message-in-Log-clause-reads_back
returns-in_ok-log_message-in-Log-clause-reads_back c =
    IfOk-weaker c.bytes_of-in-Log.result _ _
    (λ body says. says c.args.out.now (c.in_ok-log_message-in-Log.ensures ∙ ap object_of (sym c.in-Log.is)))
    c.bytes_of-in-Log.ensures.reads_back

pub returns-in-List-clause-body : goal.returns-in-List-clause-body
unfolding object_of body_of
returns-in-List-clause-body c =
    IfOk-weaker c.list_body.result _ _
    (λ body is. is ∙ ap compact_text (ap (list_object c.in-List.uri c.in-List.epoch) c.as_slice.ensures ∙ ap object_of (sym c.in-List.is)))
    c.list_body.ensures.body

pub returns-in-List-clause-reads_back : goal.returns-in-List-clause-reads_back
unfolding object_of
returns-in-List-clause-reads_back c =
    IfOk-weaker c.list_body.result _ _
    (λ body is. is ∙ ap Some (ap (list_object c.in-List.uri c.in-List.epoch) c.as_slice.ensures ∙ ap object_of (sym c.in-List.is)))
    c.list_body.ensures.reads_back
