use Rattle.std.proofs.Common.{◌≡◌, ◌+◌, ◌-◌, ◌<◌, ◌++◌, [], ◌∷◌, length, take, drop, if◌then◌else◌, ap, sym, subst, ◌∙◌, arith, append_assoc, append-nil, length-drop}
use Rattle.std.proofs.lemmas.List.{take_rest}
use Rattle.memchr.specs.Find.{Nowhere, Passes, is_byte2}
use Rattle.srb_text.specs.LineStarts.{starts_after}
use Rattle.srb_text.proofs.EndLemmas.{none_left, past}
use Rattle.srb_text.proofs.table.push_starts.Goals as goal

-- the bytes up to and with the next that may end a line
pub ends-preserved : goal.ends-preserved
ends-preserved c =
    let i = c.ends.i in
    let n = c.in-Some.len in
    let bytes = c.args.bytes.now in
    let rest = c.args.rest.now in
    let found = c.in-Some.ensures in
    let before = c.ends.starts.items in
    let after = starts_after (c.args.at + (i + n + 1)) (drop (i + n + 1) bytes) rest in
    let whole : take (length bytes - i) (drop i bytes) ≡ drop i bytes = take_rest bytes i in
    let high : n < length (drop i bytes) = subst (λ hay. n < length hay) whole found.0.high in
    let none : Nowhere (Passes (is_byte2 10 13) (drop i bytes)) 0 n = subst (λ hay. Nowhere (Passes (is_byte2 10 13) hay) 0 n) whole found.0.before in
    let size : i + n < length bytes = grind (arith, length-drop) in (
      omega arith,
      (λ j. c.in_ok-push_if.ensures j ++ after)
          ∙ append_assoc before _ after
          ∙ ap (λ e. before ++ ((if e then (c.args.at + (i + n) + 1) ∷ [] else []) ++ after)) c.ends_line.ensures
          ∙ ap (λ zs. before ++ zs) (sym (past c.args.at i n bytes rest size none))
          ∙ c.ends.invariant.1,
    )

-- no line end is left
pub returns : goal.returns
returns c =
    let left = drop c.ends.i c.args.bytes.now in
    let at = c.args.at + c.ends.i in
    let whole : take (length c.args.bytes.now - c.ends.i) left ≡ left = take_rest c.args.bytes.now c.ends.i in
    let none : Nowhere (Passes (is_byte2 10 13) left) 0 (length left) = subst (λ hay. Nowhere (Passes (is_byte2 10 13) hay) 0 (length hay)) whole c.in_default.ensures in
    sym (append-nil c.ends.starts.items)
    ∙ ap (λ zs. c.ends.starts.items ++ zs) (sym (none_left at left c.args.rest.now none))
    ∙ c.ends.invariant.1
