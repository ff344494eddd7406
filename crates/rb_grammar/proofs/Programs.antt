-- Declarations and programs that are read derive.
use Rattle.std.proofs.Common.{◌≡◌, ℕ, zero, suc, ◌+◌, Bool, true, false, if◌then◌else◌, List, [], ◌∷◌, ◌++◌, length, Option, Some, None, Result, Ok, Err, refl, sym, ap, subst, ◌∙◌, append_assoc, append-nil}
use Rattle.rb_tree.specs.Trees.{span_of}
use Rattle.rb_tree.specs.declared.syntax.Tree.{Tree}
use Rattle.rb_tree.specs.Nodes as tree
use Rattle.rb_tree.specs.declared.token.Token.{Token}
use Rattle.rb_tree.specs.declared.token.Shape.TheVariants as shape
use Rattle.rb_expr.specs.Reading.{Outcome, Parser, sees, skip_separators}
use Rattle.rb_expr.specs.Rules.{statement}
use Rattle.rb_expr.specs.declared.ParseEnd.{ParseEnd}
use Rattle.rb_expr.specs.declared.ParseEnd.TheVariants.{Bad}
use Rattle.rb_weight.specs.Scans.{first_too_deep}
use Rattle.rb_decl.specs.declared.item.Opening.{Opening}
use Rattle.rb_decl.specs.declared.item.Opening.TheVariants as openings
use Rattle.rb_decl.specs.declared.item.Head.{Head}
use Rattle.rb_decl.specs.declared.item.Head.TheVariants as heads
use Rattle.rb_decl.specs.Items as spec
use Rattle.rb_decl.specs.Items.{what_opens, class_head, module_head, namespace_head, end_at, tree_of, ends, statements_from, statements, namespace, item}
use Rattle.rb_decl.specs.Methods.{method}
use Rattle.rb_decl.specs.Programs.{place_of, program, whole, parsed}
use Rattle.rb_rules.specs.Tokens.{Is}
use Rattle.rb_rules.specs.Forms.{Site, Top, Member, is_top, is_open}
use Rattle.rb_rules.specs.Grammar.{Gap, Path, Superclass, body_of, Derives, DerivesBody, DerivesMore, DerivesStatement, DerivesDeclaration}
use Rattle.rb_rules.specs.Grammar.Gap.{Closed, Wide}
use Rattle.rb_rules.specs.Grammar.DerivesBody.{NoStatement, Statements}
use Rattle.rb_rules.specs.Grammar.DerivesMore.{NoMore, Another}
use Rattle.rb_rules.specs.Grammar.DerivesStatement.{Declared}
use Rattle.rb_rules.specs.Grammar.DerivesDeclaration.{ClassOf, ModuleOf}
use Rattle.rb_grammar.proofs.Steps.{Holds, answered, refused, step, weaker, choosing, same, taking, follow, Within, within-self, within-token, within-more, gap}
use Rattle.rb_grammar.proofs.Lists.{last-got}
use Rattle.rb_grammar.proofs.Forms.{a-statement-holds}
use Rattle.rb_grammar.proofs.Names.{path-holds, superclass-holds}
use Rattle.rb_grammar.proofs.Methods.{method-holds}

-- ---- the head of a class or module

-- with a body and its `end` it is a declaration
abbrev AHead : Site → List Token → Head → List Token → Type 0
AHead at xs h ys = ((b : Tree) (e : Token) (us : List Token) (s : Token) (zs : List Token) → ys ≡ s ∷ zs → Is shape.Separator s → DerivesBody Member true b zs (e ∷ us) → Is shape.End e → DerivesDeclaration at (tree_of h b e.span.end) xs us) × Within xs ys

class-holds : (d : ℕ) (at : Site) (xs : List Token) → Holds (class_head d (is_top at) xs) (AHead at xs)
unfolding class_head
class-holds d at xs = taking shape.Class (AHead at) _ xs (λ k ks is. step (path-holds d (is_top at) ks) (λ names ps hn. step (superclass-holds d ps) (λ above qs ha.
    answered (AHead at (k ∷ ks)) (heads.Class k.span.start names above) qs
    ((λ b e us s zs eq separator hb ends. ClassOf _ _ _ _ _ _ _ _ _ _ _ is hn.0 (subst (λ qs. Superclass above ps qs) eq ha.0) separator hb ends), within-token k (within-more hn.1 ha.1)))))

module-holds : (d : ℕ) (at : Site) (xs : List Token) → Holds (module_head d (is_top at) xs) (AHead at xs)
unfolding module_head
module-holds d at xs = taking shape.Module (AHead at) _ xs (λ k ks is. step (path-holds d (is_top at) ks) (λ names qs hn.
    answered (AHead at (k ∷ ks)) (heads.Module k.span.start names) qs
    ((λ b e us s zs eq separator hb ends. ModuleOf _ _ _ _ _ _ _ _ _ is (subst (λ qs. Path (is_top at) names ks qs) eq hn.0) separator hb ends), within-token k hn.1)))

-- the head and the separator after it
abbrev AFront : Site → List Token → Head → List Token → Type 0
AFront at xs h zs = ((b : Tree) (e : Token) (us : List Token) → DerivesBody Member true b zs (e ∷ us) → Is shape.End e → DerivesDeclaration at (tree_of h b e.span.end) xs us) × Within xs zs

choosing-rule : {A : Type 0} {Q : A → List Token → Type 0} (b : Bool) (p q : Parser A) (xs : List Token) → (b ≡ true → Holds (p xs) Q) → (b ≡ false → Holds (q xs) Q) → Holds ((if b then p else q) xs) Q
choosing-rule true p q xs h k = h refl
choosing-rule false p q xs h k = k refl

front-holds : (d : ℕ) (at : Site) (xs : List Token) → Holds (namespace_head d (is_top at) xs) (AFront at xs)
unfolding namespace_head
front-holds d at xs = choosing-rule (sees shape.Class xs) _ _ xs
    (λ e. step (class-holds d at xs) (λ h ps k. follow shape.Separator (AHead at xs h) _ _ _ k (λ s zs separator k. answered (AFront at xs) h zs
    ((λ b e us hb ends. k.0 b e us s zs refl separator hb ends), within-more k.1 (within-token s (within-self zs))))))
    (λ e. step (module-holds d at xs) (λ h ps k. follow shape.Separator (AHead at xs h) _ _ _ k (λ s zs separator k. answered (AFront at xs) h zs
    ((λ b e us hb ends. k.0 b e us s zs refl separator hb ends), within-more k.1 (within-token s (within-self zs))))))

-- ---- statements

abbrev AStatement : Site → List Token → Tree → List Token → Type 0
AStatement at xs t ys = DerivesStatement at true t xs ys × Within xs ys

abbrev Row : Site → List Token → List Tree → List Token → Type 0
Row at xs [] ys = xs ≡ ys
Row at xs (s ∷ ss) ys = (qs rs : List Token) × DerivesStatement at true s xs qs × DerivesMore at true ss qs rs × Gap rs ys

abbrev Rest : Site → List Tree → List Token → List Tree → List Token → Type 0
Rest at found xs r ys = (ss : List Tree) × (r ≡ found ++ ss) × Row at xs ss ys × Within xs ys

parted : (qs : List Token) → sees shape.Separator qs ≡ true → (t : Token) × (ts : List Token) × (qs ≡ t ∷ ts) × Is shape.Separator t × Gap ts (skip_separators qs)
parted [] e = absurd (cc)
parted (t ∷ ts) e = (t, ts, refl, same _ _ e, subst (λ zs. Gap ts zs) (ap (λ b. if b then skip_separators ts else t ∷ ts) (sym e)) (gap ts).0)

row-more : (at : Site) (t : Token) (ts zs : List Token) → Is shape.Separator t → Gap ts zs → (ss : List Tree) (ys : List Token) → Row at zs ss ys → (rs : List Token) × DerivesMore at true ss (t ∷ ts) rs × Gap rs ys
row-more at t ts zs is g [] ys h = (t ∷ ts, NoMore _ _ _, Wide _ _ _ is (subst (λ us. Gap ts us) h g))
row-more at t ts zs is g (s ∷ ss) ys h = (h.1, Another _ _ _ _ _ _ _ _ _ is g h.2 h.3, h.4)

statements-by : (one : Parser Tree) (at : Site) → ((xs : List Token) → Holds (one xs) (AStatement at xs)) → (n : ℕ) (found : List Tree) (xs : List Token) → Holds (statements_from one n found xs) (Rest at found xs)
unfolding statements_from
statements-by one at h zero found xs = refused _ _
statements-by one at h (suc n) found xs = choosing (ends xs)
    (λ e. answered (Rest at found xs) found xs ([], sym (append-nil found), refl, within-self _))
    (λ e. step (h xs) (λ s qs k. choosing (sees shape.Separator qs)
    (λ more. weaker (statements-by one at h n (found ++ s ∷ []) (skip_separators qs)) (λ r ys m.
    let p = parted qs more in
    let w = row-more at p.0 p.1 (skip_separators qs) p.3 p.4 m.0 ys m.2 in
    (s ∷ m.0, m.1 ∙ append_assoc found (s ∷ []) m.0, (qs, w.0, k.0, subst (λ us. DerivesMore at true m.0 us w.0) (sym p.2) w.1, w.2), within-more k.1 (within-more (gap qs).1 m.3))))
    (λ last. answered (Rest at found xs) (found ++ s ∷ []) qs (s ∷ [], refl, (qs, qs, k.0, NoMore _ _ _, Closed _), k.1))))

same-body : (ss : List Tree) → spec.body_of ss ≡ body_of ss
same-body [] = refl
same-body (s ∷ ss) = ap (λ o. tree.Body (s ∷ ss) (record { start = (span_of s).start; end = end_at o })) (last-got s ss)

abbrev ABody : Site → List Token → List Tree → List Token → Type 0
ABody at xs ss ys = DerivesBody at true (spec.body_of ss) xs ys × Within xs ys

body-made : (at : Site) (all xs : List Token) → Gap all xs → (ss : List Tree) (ys : List Token) → Row at xs ss ys → DerivesBody at true (body_of ss) all ys
body-made at all xs g [] ys h = NoStatement _ _ _ _ (subst (λ us. Gap all us) h g)
body-made at all xs g (s ∷ ss) ys h = Statements _ _ _ _ _ _ _ _ _ g h.2 h.3 h.4

statements-hold : (one : Parser Tree) (at : Site) → ((xs : List Token) → Holds (one xs) (AStatement at xs)) → (d : ℕ) (xs : List Token) → Holds (statements one d xs) (ABody at xs)
unfolding statements
statements-hold one at h d xs = let g = gap xs in weaker (statements-by one at h d [] (skip_separators xs)) (λ r ys m.
    subst (λ r. ABody at xs r ys) (sym m.1) (subst (λ b. DerivesBody at true b xs ys) (sym (same-body m.0)) (body-made at xs (skip_separators xs) g.0 m.0 ys m.2), within-more g.1 m.3))

namespace-holds : (one : Parser Tree) (at : Site) → ((xs : List Token) → Holds (one xs) (AStatement Member xs)) → (d : ℕ) (xs : List Token) → Holds (namespace one d (is_top at) xs) (λ t ys. DerivesDeclaration at t xs ys × Within xs ys)
unfolding namespace
namespace-holds one at h d xs = step (front-holds d at xs) (λ head ps hh. step (statements-hold one Member h d ps) (λ ss qs hs.
    follow shape.End (λ us. ABody Member ps ss us) _ _ _ hs (λ e ys end hs. answered (λ t ys. DerivesDeclaration at t xs ys × Within xs ys) _ ys
    (hh.0 (spec.body_of ss) e ys hs.0 end, within-more hh.1 (within-more hs.1 (within-token e (within-self ys)))))))

-- ---- declarations and other statements

-- one of three readings
abbrev by_opening : Opening → Parser Tree → Parser Tree → Parser Tree → Parser Tree
by_opening openings.Namespace a b c = a
by_opening openings.Method a b c = b
by_opening openings.Statement a b c = c

opened : (o : Opening) (a b c : Parser Tree) (Q : Tree → List Token → Type 0) (xs : List Token) → Holds (a xs) Q → Holds (b xs) Q → Holds (c xs) Q → Holds (by_opening o a b c xs) Q
opened openings.Namespace a b c Q xs h k l = h
opened openings.Method a b c Q xs h k l = k
opened openings.Statement a b c Q xs h k l = l

item-by : (d : ℕ) (at : Site) → is_open at ≡ true → (xs : List Token) → Holds (namespace (item d false) d (is_top at) xs) (λ t ys. DerivesDeclaration at t xs ys × Within xs ys) → Holds (by_opening (what_opens xs) (namespace (item d false) d (is_top at)) (method (suc d)) (statement (suc d) true) xs) (AStatement at xs)
item-by d at o xs h = opened (what_opens xs) (namespace (item d false) d (is_top at)) (method (suc d)) (statement (suc d) true) (AStatement at xs) xs
    (weaker h (λ t ys k. (Declared _ _ _ _ _ o k.0, k.1)))
    (weaker (method-holds (suc d) xs) (λ t ys k. (Declared _ _ _ _ _ o (k.0 at), k.1)))
    (subst (λ b. Holds (statement (suc d) b xs) (AStatement at xs)) o (weaker (a-statement-holds (suc d) at xs) (λ t ys k. (k.0, k.1))))

item-holds : (d : ℕ) (at : Site) → is_open at ≡ true → (xs : List Token) → Holds (item d (is_top at) xs) (AStatement at xs)
unfolding item
item-holds zero at o xs = refused _ _
item-holds (suc d) at o xs = item-by d at o xs (namespace-holds (item d false) at (λ us. item-holds d Member refl us) d xs)

-- ---- programs

abbrev program_by : Outcome (List Tree) → Result Tree (List Token)
program_by (Ok (found, [])) = Ok (spec.body_of found)
program_by (Ok (found, t ∷ ts)) = Err (t ∷ ts)
program_by (Err rest) = Err rest

program-by : (tokens : List Token) (o : Outcome (List Tree)) → Holds o (ABody Top tokens) → (t : Tree) → program_by o ≡ Ok t → Derives tokens t
program-by tokens (Ok (found, [])) h t e = let is : spec.body_of found ≡ t = cc in subst (λ b. DerivesBody Top true b tokens []) is h.told.0
program-by tokens (Ok (found, x ∷ xs)) h t e = absurd (cc)
program-by tokens (Err rest) h t e = absurd (cc)

pub program-derives : (d : ℕ) (tokens : List Token) (t : Tree) → program d tokens ≡ Ok t → Derives tokens t
unfolding program
program-derives d tokens t e = program-by tokens (statements (item d true) d tokens) (statements-hold (item d true) Top (λ xs. item-holds d Top refl xs) d tokens) t e

abbrev whole_by : (List Token → ParseEnd) → Result Tree (List Token) → Result Tree ParseEnd
whole_by end (Ok t) = Ok t
whole_by end (Err rest) = Err (end rest)

whole-inverse : (end : List Token → ParseEnd) (r : Result Tree (List Token)) (t : Tree) → whole_by end r ≡ Ok t → r ≡ Ok t
whole-inverse end (Ok u) t e = cc
whole-inverse end (Err rest) t e = absurd (cc)

abbrev by_place : Result Tree ParseEnd → (ℕ → ParseEnd) → Option ℕ → Result Tree ParseEnd
by_place answer deep None = answer
by_place answer deep (Some at) = Err (deep at)

place-inverse : (answer : Result Tree ParseEnd) (deep : ℕ → ParseEnd) (o : Option ℕ) (t : Tree) → by_place answer deep o ≡ Ok t → answer ≡ Ok t
place-inverse answer deep None t e = e
place-inverse answer deep (Some at) t e = absurd (cc)

whole-derives : (tokens : List Token) (t : Tree) → whole tokens ≡ Ok t → Derives tokens t
unfolding whole
whole-derives tokens t e = program-derives (length tokens + 2) tokens t (whole-inverse (λ rest. Bad (place_of tokens rest)) (program (length tokens + 2) tokens) t e)

pub programs-derive : (tokens : List Token) (t : Tree) → parsed tokens ≡ Ok t → Derives tokens t
programs-derive tokens t e = whole-derives tokens t (place-inverse (whole tokens) _ (first_too_deep tokens 0 0 0) t e)
