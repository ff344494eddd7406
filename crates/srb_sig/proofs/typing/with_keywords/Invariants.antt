use Rattle.std.proofs.Common.{◌≡◌, drop}
use Rattle.srb_sig.specs.Signatures.{seen_types, with_keywords}
use Rattle.srb_sig.specs.Views.{view_at}
use Rattle.srb_sig.proofs.typing.with_keywords.Given as goal

abbrev pub invariant-keywords : goal.invariant-keywords
invariant-keywords l =
    with_keywords (view_at l.w) l.scope (drop l.keyword-index l.keywords) (seen_types l.so_far)
    ≡ with_keywords (view_at l.w) l.scope l.keywords (seen_types l.fn.types)
