use Rattle.std.proofs.Common.{Some, None, sym}
use Rattle.std.proofs.lemmas.Str.Pattern.{split_parts}
use Rattle.srb_builtin.proofs.Cuts.{before-none, before-at}
use Rattle.srb_builtin.proofs.marks.before.Goals as goal

pub returns-in-Some : goal.returns-in-Some
returns-in-Some c =
    let cut = split_parts c.args.mark c.args.text.now (Some (c.in-Some.before, c.in-Some.field-0-1)) c.in-Some.ensures.cases c.requires in
    rw cut.0 (sym (before-at _ _ _ cut.1))

pub returns-in-None : goal.returns-in-None
returns-in-None c = sym (before-none _ _ (split_parts c.args.mark c.args.text.now None c.in-None.ensures.cases c.requires))
