use Rattle.std.proofs.Common.{sym, ap, ◌∙◌}
use Rattle.std.proofs.lemmas.Result.{on_ok_weaker}
use Rattle.lsp_msg.specs.Decoded.{decoded}
use Rattle.srb_gen.proofs.Sessions.{two_frames}
use Rattle.srb_gen.proofs.frames.add_edits.Goals as goal

pub returns-clause-bytes : goal.returns-clause-bytes
returns-clause-bytes c =
    on_ok_weaker c.add_frame-2.result
    (λ h. two_frames c.args.bytes.now.items _ _ _ _ _ _ (c.as_slice.ensures.value ∙ c.in_ok-body.ensures.text) (c.as_slice-2.ensures.value ∙ c.in_ok-body-2.ensures.text) c.in_ok-add_frame.ensures h)
    c.add_frame-2.ensures

pub returns-clause-says : goal.returns-clause-says
returns-clause-says c =
    on_ok_weaker c.add_frame-2.result
    (λ h. (ap decoded (sym c.in_ok-body.ensures.text) ∙ c.in_ok-body.ensures.says, ap decoded (sym c.in_ok-body-2.ensures.text) ∙ c.in_ok-body-2.ensures.says))
    c.add_frame-2.ensures
