use Rattle.std.proofs.Common.{◌≡◌, ◌++◌, map}
use Rattle.std.specs.Vec.Iter.{into_iter_items}
use Rattle.srb_judgement.specs.Views.{seen_typed}
use Rattle.srb_language.specs.Asked.{typed_param}
use Rattle.srb_language.proofs.signatures.typed.Given as goal

abbrev pub invariant-params : goal.invariant-params
invariant-params l = record {
  so_far : map seen_typed l.typed.items ≡ map typed_param l.yielded;
  rest : l.fn.params ≡ l.yielded ++ into_iter_items l.param-iterator;
}
