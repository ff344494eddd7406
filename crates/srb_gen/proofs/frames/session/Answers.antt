use Rattle.std.proofs.Common.{◌≡◌, ◌++◌, ◌∙◌, sym, ap, subst, arith}
use Rattle.lsp_frame.specs.Written.{frame}
use Rattle.lsp_msg.specs.Decoded.{decoded}
use Rattle.run_core.specs.Inputs.{messages_of, end_of}
use Rattle.srb_gen.specs.Texts.{first_text, last_text}
use Rattle.srb_gen.specs.Messages.{file_uri, opened_body, changed_body, shutdown_body, exit_body}
use Rattle.srb_gen.specs.Generated.{generated_session}
use Rattle.srb_gen.proofs.Sessions.{front, one_more_front, whole_session, two_frames}
use Rattle.srb_gen.proofs.Said.{SaysAll, says_one_more, messages_said, end_said}
use Rattle.srb_gen.proofs.frames.session.Goals as goal

pub files-preserved : goal.files-preserved
files-preserved c =
    let i = c.files.number in
    record {
      bytes = c.in_ok-add_edits.ensures.bytes
          ∙ ap (λ l. l ++ frame (opened_body (file_uri i) (first_text i)) ++ frame (changed_body (file_uri i) (last_text i))) c.files.invariant.bytes
          ∙ one_more_front i;
      says = says_one_more i c.files.invariant.says c.in_ok-add_edits.ensures.says;
    }

pub returns : goal.returns
returns c =
    let n = c.args.count in
    let last : c.files.number ≡ n = omega arith in
    let whole : c.add_frame-3.new.bytes.items ≡ generated_session n =
    two_frames c.files.bytes.items _ _ _ _ _ _ (c.as_slice-2.ensures.value ∙ c.in_ok-body-2.ensures.text) (c.as_slice-3.ensures.value ∙ c.in_ok-body-3.ensures.text) c.in_ok-add_frame-2.ensures c.in_ok-add_frame-3.ensures
    ∙ ap (λ l. l ++ frame shutdown_body ++ frame exit_body) (c.files.invariant.bytes ∙ ap front last)
    ∙ whole_session n in
    let begins = ap decoded (sym c.in_ok-body.ensures.text) ∙ c.in_ok-body.ensures.says in
    let edits : SaysAll n = subst SaysAll last c.files.invariant.says in
    let shuts = ap decoded (sym c.in_ok-body-2.ensures.text) ∙ c.in_ok-body-2.ensures.says in
    let ends = ap decoded (sym c.in_ok-body-3.ensures.text) ∙ c.in_ok-body-3.ensures.says in
    record {
      bytes = whole;
      messages = ap messages_of whole ∙ messages_said n begins edits shuts ends;
      ended = λ failed. ap (λ l. end_of l failed) whole ∙ end_said n begins edits shuts ends failed;
    }
