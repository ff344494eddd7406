-- No program begins with the tokens up to and with a refused one.
use Rattle.std.proofs.Common.{◌+◌, [], ◌∷◌, ◌++◌, length, subst, append_assoc, arith}
use Rattle.rb_rules.specs.Grammar.{Derives}
use Rattle.rb_grammar_laws.proofs.Answers.{programs-answer}
use Rattle.rb_prefix_laws.proofs.Laws.{refusals-look-no-further}
use Rattle.rb_refusal_laws.specs.Laws.{NoProgramBeginsSo}

pub no-program-begins-so : NoProgramBeginsSo
no-program-begins-so before bad after e (more, t, derives) =
    let d : Derives (before ++ bad ∷ more) t = subst (λ us. Derives us t) (append_assoc before (bad ∷ []) more) derives in
    let ok = programs-answer (before ++ bad ∷ more) t d in
    let no' = refusals-look-no-further (length (before ++ bad ∷ after) + 2) (length (before ++ bad ∷ more) + 2) before bad after more (omega arith) (omega arith) e in
    absurd (cc)
