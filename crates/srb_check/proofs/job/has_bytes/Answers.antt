use Rattle.std.proofs.Common.{sym, ◌∙◌}
use Rattle.std.proofs.lemmas.Slice.Eq.{bytes_eq-Decides}
use Rattle.srb_check.proofs.Jobs.{same_bytes}
use Rattle.srb_check.proofs.job.has_bytes.Goals as goal

pub returns-in-Some : goal.returns-in-Some
returns-in-Some c =
    λ is same.
    same_bytes c.args.file.now _ c.args.bytes.now is c.in-Some.is
    (sym c.as_str.ensures.bytes ∙ sym c.as_bytes.ensures.value ∙ (bytes_eq-Decides _ _).0 (sym c.eq.ensures ∙ same))
