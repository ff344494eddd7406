-- The errors of types by a symbol table are those by the facts for which it stands, and a level that shows none has none.
use Rattle.std.proofs.Common.{◌≡◌, ℕ, Bool, true, false, if◌then◌else◌, List, [], ◌∷◌, nat_eq, refl, ap, ◌∙◌}
use Rattle.std.specs.List.{filter}
use Rattle.srb_terms.specs.declared.diag.Diag.{Diag}
use Rattle.srb_terms.specs.declared.fact.Fact.{Fact}
use Rattle.srb_terms.specs.declared.level.Level.{Level}
use Rattle.srb_terms.specs.declared.level.Level.TheVariants.{Ignore, False, True, Strict, Strong}
use Rattle.srb_terms.specs.declared.world.World.{World}
use Rattle.rb_tree.specs.declared.syntax.Tree.{Tree}
use Rattle.rb_rewrite.specs.Rewriting.{attrs_of}
use Rattle.srb_rules.specs.Standing.{Stands}
use Rattle.srb_sig.proofs.Views.{view-stands}
use Rattle.srb_table.specs.Names.{TellsMembers}
use Rattle.srb_judgement.specs.Errors.{from_true, is_shown, shown_errors}
use Rattle.srb_judgement.specs.Judgements.{errors_at, errors_of}
use Rattle.srb_language.specs.Asked.{language_of}
use Rattle.srb_language.specs.Knowledge.{knowledge_at}
use Rattle.srb_check.specs.Types.{knowledge_of, type_errors}

-- ---- what is known of the project

pub knowledge-stands : (w : World) (fs : List Fact) → Stands w fs → TellsMembers w fs → knowledge_at w ≡ knowledge_of fs
knowledge-stands w fs stands tells = λ i. record {
  view = view-stands w fs stands i;
  extended = λ c. stands.extends c i;
  method = λ owner meta name. tells.methods owner meta name i;
  ivar = λ owner meta name. tells.ivars owner meta name i;
  value = λ c. tells.values c i;
}

pub errors-stand : (w : World) (fs : List Fact) (level : Level) (tree : Tree) → Stands w fs → TellsMembers w fs
    → errors_at (language_of (knowledge_at w)) level (attrs_of tree) ≡ type_errors fs level tree
unfolding type_errors
errors-stand w fs level tree stands tells =
    ap (λ k. errors_at (language_of k) level (attrs_of tree)) (knowledge-stands w fs stands tells)

-- ---- levels that show no errors of types

neither : (a b c : Bool) → (if a then false else (if b then false else (if c then false else false))) ≡ false
neither true b c = refl
neither false true c = refl
neither false false true = refl
neither false false false = refl

none-shown : (level : Level) → from_true level ≡ false → (n : ℕ) → is_shown level n ≡ false
none-shown Ignore h n = neither (nat_eq n 7018) (nat_eq n 6002) (nat_eq n 7017)
none-shown False h n = neither (nat_eq n 7018) (nat_eq n 6002) (nat_eq n 7017)
none-shown True h n = absurd cc
none-shown Strict h n = absurd cc
none-shown Strong h n = absurd cc

none : {X : Type 0} (xs : List X) → filter (λ x. false) xs ≡ []
none [] = refl
none (x ∷ xs) = none xs

pub no-errors : (fs : List Fact) (level : Level) (tree : Tree) → from_true level ≡ false → type_errors fs level tree ≡ []
unfolding type_errors
no-errors fs level tree h =
    let errors = errors_of (language_of (knowledge_of fs)) (attrs_of tree) in
    (λ i. filter (λ (e : Diag). none-shown level h e.number i) errors) ∙ none errors
