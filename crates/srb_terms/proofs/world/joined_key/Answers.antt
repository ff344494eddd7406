use Rattle.std.proofs.Common.{◌≡◌, ◌+◌, suc, Bool, List, ℕ, Some, bytes_eq, cond, ap, sym, ◌∙◌, drop, arith}
use Rattle.std.specs.Map.{lookup_key}
use Rattle.srb_terms.specs.Worlds.{joined}
use Rattle.srb_terms.proofs.WorldNames.{key-at, key-past}
use Rattle.srb_terms.proofs.world.joined_key.Goals as goal
use Rattle.srb_terms.proofs.world.joined_key.Goals.{in-Some+else-is_joined, in-None}

pub returns-then-is_joined : goal.returns-then-is_joined
returns-then-is_joined c =
    let test : List ℕ → Bool = bytes_eq (joined c.args.scope.now c.args.last.now) in
    let rest = lookup_key test (drop (suc c.kinds.index) c.args.kinds.now.entries) in
    ap (λ b. cond b (Some c.in-Some.key.now) rest)
    (sym c.if-is_joined.true ∙ c.is_joined.ensures
    ∙ (λ i. bytes_eq (joined (c.as_bytes-in-Some.ensures.bytes i) (c.as_bytes-in-Some-2.ensures.bytes i)) (c.as_bytes.ensures.bytes i)))
    ∙ sym (key-at test c.args.kinds.now.entries c.kinds.index (c.in-Some.key.now, c.in-Some._kind.now) c.in-Some.ensures.entry)
    ∙ c.kinds.invariant

pub kinds-preserved : goal.kinds-preserved
kinds-preserved c =
    let test : List ℕ → Bool = bytes_eq (joined c.args.scope.now c.args.last.now) in
    let entries = c.args.kinds.now.entries in
    let rest = lookup_key test (drop (suc c.kinds.index) entries) in
    let next : c.kinds.index + 1 ≡ suc c.kinds.index = omega arith in
    ap (λ n. lookup_key test (drop n entries)) next
    ∙ elim c.match-get_index.branch [
      | in-Some+else-is_joined w ↦
          ap (λ b. cond b (Some w.in-Some.key.now) rest)
          (sym w.if-is_joined.false ∙ w.is_joined.ensures
          ∙ (λ i. bytes_eq (joined (w.as_bytes-in-Some.ensures.bytes i) (w.as_bytes-in-Some-2.ensures.bytes i)) (w.as_bytes.ensures.bytes i)))
          ∙ sym (key-at test entries c.kinds.index (w.in-Some.key.now, w.in-Some._kind.now) w.in-Some.ensures.entry)
      | in-None w ↦ sym (key-past test entries c.kinds.index w.in-None.ensures.entry)
    ]
    ∙ c.kinds.invariant
