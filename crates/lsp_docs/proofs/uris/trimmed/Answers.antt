use Rattle.std.proofs.Common.{◌≡◌, ◌++◌, ◌-◌, ℕ, List, take, get_or, sym, ap, ◌∙◌, arith}
use Rattle.std.proofs.lemmas.Str.{IsCharBoundary-before_ascii}
use Rattle.std.specs.List.{slice_range}
use Rattle.lsp_docs.specs.Uris.{SLASH, trimmed}
use Rattle.lsp_docs.proofs.RootLemmas.{slash_step, slashes_done, none_left, other_byte}
use Rattle.lsp_docs.proofs.uris.trimmed.Goals as goal
use Rattle.lsp_docs.proofs.uris.trimmed.Goals.{then-loop-end-test+else-bytes-end-eq47, else-loop-end-test}

pub loop-end-preserved : goal.loop-end-preserved
loop-end-preserved c =
    let bytes = c.as_bytes-bytes.result.now in
    let held = c.loop-end.invariant in (
      held.0 ∙ ap (λ t. take c.kept_len-kept.result bytes ++ t) (slash_step bytes c.kept_len-kept.result c.loop-end.end c.loop-end-test.true held.2 c.if-bytes-end-eq47.true),
      omega (arith, c.loop-end-test.true),
      omega (arith, held.2),
      IsCharBoundary-before_ascii bytes _ (omega (arith, c.loop-end-test.true, held.2)) (omega (arith, c.if-bytes-end-eq47.true)),
    )

-- the front of a text, as a slice of it
front_of : (xs : List ℕ) (n : ℕ) → slice_range xs 0 n ≡ take n xs
front_of xs n = grind arith

pub returns : goal.returns
returns c =
    let bytes = c.as_bytes-bytes.result.now in
    let held = c.loop-end.invariant in
    let front = c.range.ensures.value ∙ front_of c.args.uri.now c.loop-end.end ∙ ap (take c.loop-end.end) (sym c.as_bytes-bytes.ensures.value) in
    let whole = ap trimmed c.as_bytes-bytes.ensures.value in
    elim c.loop-end-test.branch [
      | then-loop-end-test+else-bytes-end-eq47 w ↦
          front ∙ sym (held.0 ∙ slashes_done bytes c.kept_len-kept.result c.loop-end.end w.loop-end-test.true held.2 (other_byte (get_or bytes (c.loop-end.end - 1) 0) SLASH w.if-bytes-end-eq47.false)) ∙ whole
      | else-loop-end-test w ↦
          front ∙ sym (held.0 ∙ none_left bytes c.kept_len-kept.result c.loop-end.end held.1 w.loop-end-test.false) ∙ whole
    ]
