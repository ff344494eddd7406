use Rattle.std.proofs.Common.{ap, ◌∙◌}
use Rattle.srb_check.specs.Records.{unread, text_record}
use Rattle.srb_check.proofs.Loads.{loaded_text, loaded_no_text, fault_no_text, record_along}
use Rattle.srb_check.proofs.loading.load_small.Goals as goal

pub returns-in-Ok : goal.returns-in-Ok
returns-in-Ok c =
    record_along c.text_record.result _ _
    (ap (text_record c.in-Ok.text) c.level-level.ensures ∙ loaded_text c.args.bytes.now c.in-Ok.text c.requires c.in-Ok.ensures.0 c.in-Ok.ensures.1)
    c.text_record.ensures

pub returns-in_ok-not_utf8-in-Err-NotUtf8 : goal.returns-in_ok-not_utf8-in-Err-NotUtf8
returns-in_ok-not_utf8-in-Err-NotUtf8 c =
    record_along c.unread.result _ _
    (ap unread c.in_ok-not_utf8-in-Err-NotUtf8.ensures ∙ loaded_no_text c.args.bytes.now c.requires (fault_no_text c.args.bytes.now c.in-Err-NotUtf8.field-0 _ c.in-Err-NotUtf8.field-0-is c.in-Err-NotUtf8.ensures))
    c.unread.ensures
