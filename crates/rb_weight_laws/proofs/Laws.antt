-- The laws.
use Rattle.std.proofs.Common.{◌≡◌, ℕ, ◌+◌, ◌<◌, ◌≤◌, ◌↔◌, List, [], ◌∷◌, ◌++◌, length, take, sym, ap, subst, ◌∙◌, append-nil, length-append, arith}
use Rattle.std.proofs.lemmas.List.{take-append-le}
use Rattle.rb_tree.specs.declared.token.Token.{Token}
use Rattle.rb_tree.specs.declared.syntax.Tree.{Tree}
use Rattle.rb_rules.specs.Grammar.{Derives}
use Rattle.rb_weight.specs.Weights.{Open, DeepAt, begun, weight_after}
use Rattle.rb_weight.specs.Limits.{MOST}
use Rattle.rb_weight.specs.declared.effect.Before.TheVariants as before
use Rattle.rb_weight.specs.declared.effect.Level.TheVariants as level
use Rattle.rb_weight_laws.specs.Roles.{Role, roles}
use Rattle.rb_weight_laws.specs.Weights.{DeepByRoles, weight_by}
use Rattle.rb_weight_laws.specs.Laws.{RolesAreTold, WeightsAreThoseOfTheGrammar, FrontsHaveTheWeightsOfAnyProgram, FrontsAreDeepByRoles}
use Rattle.rb_weight_laws.proofs.Steps.{told, Usual, Ends}
use Rattle.rb_weight_laws.proofs.Steps.Ready.{Fresh}
use Rattle.rb_weight_laws.proofs.Forms.{body}
use Rattle.rb_weight_laws.proofs.Weights.{same-told, weight-told, take-told, length-told}

-- a whole program is told from the start to its end
told-by-roles : {tokens : List Token} {t : Tree} (d : Derives tokens t) → told before.Plain (level.Plain ∷ []) tokens ≡ roles d ++ []
told-by-roles {tokens = tokens} d = let e : Ends Usual before.Plain (level.Plain ∷ []) tokens (roles d) (level.Plain ∷ []) [] = body d Fresh in e.run.tells

pub roles-are-told : RolesAreTold
roles-are-told tokens t d =
    let o : Open = record { level = level.Plain; standing = 0 } in
    same-told before.Plain (o ∷ []) tokens ∙ told-by-roles d ∙ append-nil (roles d)

-- the grammar gives a role to each token of a program
each-token-has-a-role : (tokens : List Token) (t : Tree) (d : Derives tokens t) → length (roles d) ≡ length tokens
each-token-has-a-role tokens t d = sym (ap (λ (rs : List Role). length rs) (roles-are-told tokens t d)) ∙ length-told (begun 0) tokens

pub weights-are-those-of-the-grammar : WeightsAreThoseOfTheGrammar
weights-are-those-of-the-grammar tokens t d k =
    weight-told (take k tokens) ∙ ap weight_by (take-told k (begun 0) tokens) ∙ ap (λ (rs : List Role). weight_by (take k rs)) (roles-are-told tokens t d)

-- ---- fronts of programs

pub fronts-have-the-weights : FrontsHaveTheWeightsOfAnyProgram
fronts-have-the-weights tokens (more, t, d) k le =
    ap (λ (ts : List Token). weight_after 0 0 ts) (sym (take-append-le k tokens more le)) ∙ weights-are-those-of-the-grammar (tokens ++ more) t d k

-- ---- the greatest weight

-- the same weights after these tokens
abbrev Same : List Token → List Role → Type 0
Same tokens rs = (k : ℕ) → k ≤ length tokens → weight_after 0 0 (take k tokens) ≡ weight_by (take k rs)

to-roles : {whole : List Token} {t : Tree} (tokens : List Token) (d : Derives whole t) (at : ℕ) → length tokens ≤ length (roles d) → Same tokens (roles d) → DeepAt tokens 0 0 at → DeepByRoles d at
to-roles tokens d at le same deep = record {
  within = let h : at < length tokens = deep.within in omega arith;
  deep = let h : at < length tokens = deep.within in subst (λ (n : ℕ). MOST < n) (same (at + 1) (omega arith)) deep.deep;
  first = λ k before. let h : at < length tokens = deep.within in subst (λ (n : ℕ). n ≤ MOST) (same k (omega arith)) (deep.first k before);
}

from-roles : {whole : List Token} {t : Tree} (tokens : List Token) (d : Derives whole t) (at : ℕ) → at < length tokens → Same tokens (roles d) → DeepByRoles d at → DeepAt tokens 0 0 at
from-roles tokens d at here same deep = record {
  within = here;
  deep = subst (λ (n : ℕ). MOST < n) (sym (same (at + 1) (omega arith))) deep.deep;
  first = λ k before. subst (λ (n : ℕ). n ≤ MOST) (sym (same k (omega arith))) (deep.first k before);
}

-- at the same token of a program
pub programs-are-deep-by-roles : (tokens : List Token) (t : Tree) (d : Derives tokens t) (at : ℕ) → DeepAt tokens 0 0 at ↔ DeepByRoles d at
programs-are-deep-by-roles tokens t d at =
    let whole : length (roles d) ≡ length tokens = each-token-has-a-role tokens t d in
    let same = λ (k : ℕ) (le : k ≤ length tokens). weights-are-those-of-the-grammar tokens t d k in
    (to-roles tokens d at (omega arith) same, λ deep. from-roles tokens d at (let h : at < length (roles d) = deep.within in omega arith) same deep)

pub fronts-are-deep-by-roles : FrontsAreDeepByRoles
fronts-are-deep-by-roles tokens (more, t, d) at here =
    let whole : length (roles d) ≡ length (tokens ++ more) = each-token-has-a-role (tokens ++ more) t d in
    let both : length (tokens ++ more) ≡ length tokens + length more = length-append tokens more in
    let same = λ (k : ℕ) (le : k ≤ length tokens). fronts-have-the-weights tokens (more, t, d) k le in
    (to-roles tokens d at (omega arith) same, from-roles tokens d at here same)
