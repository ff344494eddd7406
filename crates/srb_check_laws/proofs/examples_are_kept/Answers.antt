use Rattle.srb_check_laws.proofs.LoadedExamples.{bracket-is-a-syntax-error, byte-is-no-text, global-is-outside-the-profile, ignored-has-none, last-is-deeper}
use Rattle.srb_check_laws.proofs.examples_are_kept.Goals as goal

pub returns-clause-bracket : goal.returns-clause-bracket
returns-clause-bracket c = bracket-is-a-syntax-error

pub returns-clause-global : goal.returns-clause-global
returns-clause-global c = global-is-outside-the-profile

pub returns-clause-deep : goal.returns-clause-deep
returns-clause-deep c = last-is-deeper

pub returns-clause-byte : goal.returns-clause-byte
returns-clause-byte c = byte-is-no-text

pub returns-clause-ignored : goal.returns-clause-ignored
returns-clause-ignored c = ignored-has-none
