-- Parts that come after others answer after them.
use Rattle.std.proofs.Common.{◌≡◌, List, [], ◌∷◌, ◌++◌, refl}
use Rattle.srb_terms.specs.declared.ty.Ty.{Ty}
use Rattle.srb_members.specs.Views.{Members}
use Rattle.srb_calls.specs.declared.args.Args.{Args}
use Rattle.srb_calls.specs.declared.args.CallEnd.{CallEnd}
use Rattle.srb_calls.specs.declared.args.Recv.{Recv}
use Rattle.srb_calls.specs.Calls.{with_part, with_parts}

pub parts_append : (k : Members) (recv : Recv) (args : Args) (end : CallEnd) (xs ys : List Ty) →
    with_parts k recv args end (xs ++ ys) ≡ with_parts k recv args (with_parts k recv args end xs) ys
parts_append k recv args end [] ys = refl
parts_append k recv args end (x ∷ xs) ys = parts_append k recv args (with_part k recv args end x) xs ys
