-- Programs that are begun can be completed.
use Rattle.std.proofs.Common.{◌≡◌, ℕ, zero, suc, Bool, true, false, if◌then◌else◌, List, [], ◌∷◌, ◌++◌, Result, Ok, Err, inl, refl, sym, subst}
use Rattle.rb_tree.specs.declared.syntax.Tree.{Tree}
use Rattle.rb_tree.specs.declared.token.Token.{Token}
use Rattle.rb_tree.specs.declared.token.TokenKind.TheVariants as kind
use Rattle.rb_tree.specs.declared.token.Shape.TheVariants as shape
use Rattle.rb_tree.specs.Tokens.{shape_of}
use Rattle.rb_expr.specs.Reading.{Outcome, Parser, sees}
use Rattle.rb_expr.specs.Rules.{statement}
use Rattle.rb_decl.specs.declared.item.Opening.{Opening}
use Rattle.rb_decl.specs.declared.item.Opening.TheVariants as openings
use Rattle.rb_decl.specs.Items.{what_opens, class_head, module_head, namespace_head, ends, statements_from, statements, namespace, item}
use Rattle.rb_decl.specs.Items as spec
use Rattle.rb_decl.specs.Methods.{method}
use Rattle.rb_decl.specs.Programs.{program}
use Rattle.rb_rules.specs.Tokens.{Is}
use Rattle.rb_rules.specs.Forms.{Site, Top, Member, is_top, is_open}
use Rattle.rb_rules.specs.Grammar.{DerivesBody, DerivesDeclaration}
use Rattle.rb_rules.specs.Grammar.DerivesStatement.{Declared as DeclaredStatement}
use Rattle.rb_rules.specs.Grammar.DerivesDeclaration.{ClassOf, ModuleOf}
use Rattle.rb_completion_laws.proofs.Steps.{Rel, Completes, Stands, Seq, seq-stands, complete-reach, Goes, Plain, plainly, seq, done, refusing, answering, choosing, parted, One, one-stands, expecting, perhaps-stands, before-one}
use Rattle.rb_completion_laws.proofs.Viable.{ABody, AStatement, body-stands, statement-stands}
use Rattle.rb_completion_laws.proofs.Branches.{separator-stands, end-stands}
use Rattle.rb_completion_laws.proofs.Bodies.{Row, row-more, further-goes, body-of}
use Rattle.rb_completion_laws.proofs.Forms.{a-statement-goes}
use Rattle.rb_completion_laws.proofs.Names.{APath, path-stands, path-goes, ASuperclass, superclass-stands, superclass-goes}
use Rattle.rb_completion_laws.proofs.Methods.{method-goes}

class-one : Stands (One shape.Class)
unfolding shape_of
class-one = one-stands kind.Class shape.Class refl (λ zs. refl)

module-one : Stands (One shape.Module)
unfolding shape_of
module-one = one-stands kind.Module shape.Module refl (λ zs. refl)

abbrev ADeclaration : Site → Rel
ADeclaration at us zs = (t : Tree) × DerivesDeclaration at t us zs

-- the head of a class or module: with a body and its `end` it is a declaration
abbrev AFront : Site → Rel
AFront at us zs = (b : Tree) (e : Token) (ws : List Token) → DerivesBody Member true b zs (e ∷ ws) → Is shape.End e → ADeclaration at us ws

class-made : (at : Site) (us zs : List Token) → Seq (Seq (One shape.Class) (Seq (APath (is_top at)) ASuperclass)) (One shape.Separator) us zs → AFront at us zs
class-made at us zs h b e ws body is =
    let head = h.first in
    let above = subst (λ v. ASuperclass head.second.mid v) h.second.2 head.second.second in
    subst (λ v. ADeclaration at v ws) (sym head.first.2) (_, ClassOf _ _ _ _ _ _ _ _ _ _ _ head.first.1 head.second.first.2 above.1 h.second.1 body is)

module-made : (at : Site) (us zs : List Token) → Seq (Seq (One shape.Module) (APath (is_top at))) (One shape.Separator) us zs → AFront at us zs
module-made at us zs h b e ws body is =
    let path = subst (λ v. APath (is_top at) h.first.mid v) h.second.2 h.first.second in
    subst (λ v. ADeclaration at v ws) (sym h.first.first.2) (_, ModuleOf _ _ _ _ _ _ _ _ _ h.first.first.1 path.2 h.second.1 body is)

choosing-rule : {A : Type 0} {Q : A → List Token → Type 0} {F : List Token → Type 0} (b : Bool) (p q : Parser A) (xs : List Token) → (b ≡ true → Goes (p xs) Q F) → (b ≡ false → Goes (q xs) Q F) → Goes ((if b then p else q) xs) Q F
choosing-rule true p q xs h k = h refl
choosing-rule false p q xs h k = k refl

front-goes : (d : ℕ) (at : Site) (xs : List Token) → Plain xs (namespace_head d (is_top at) xs) (AFront at)
unfolding namespace_head class_head module_head
front-goes d at xs =
    let p = path-stands (is_top at) in
    let a = seq-stands p superclass-stands in
    choosing-rule (sees shape.Class xs) _ _ xs
    (λ e. plainly (seq (seq (expecting shape.Class class-one xs) a (λ _ ks. seq (path-goes d (is_top at) ks) superclass-stands (λ names ps. answering _ (superclass-goes d ps)))) separator-stands (λ h ps. answering _ (expecting shape.Separator separator-stands ps))) (class-made at))
    (λ e. plainly (seq (seq (expecting shape.Module module-one xs) p (λ _ ks. answering _ (path-goes d (is_top at) ks))) separator-stands (λ h ps. answering _ (expecting shape.Separator separator-stands ps))) (module-made at))

-- ---- statements

statements-by : (one : Parser Tree) (at : Site) → ((xs : List Token) → Plain xs (one xs) (AStatement at true)) → (n : ℕ) (found : List Tree) (xs : List Token) → Plain xs (statements_from one n found xs) (Row at true)
unfolding statements_from
statements-by one at h zero found xs = refusing xs perhaps-stands
statements-by one at h (suc n) found xs = choosing (ends xs)
    (λ e. done found xs (λ zs. inl refl))
    (λ e. plainly (seq (h xs) perhaps-stands (λ x qs. further-goes at true (statements_from one n (found ++ x ∷ [])) _ (statements-by one at h n (found ++ x ∷ [])) qs)) (row-more at true))

statements-go : (one : Parser Tree) (at : Site) → ((xs : List Token) → Plain xs (one xs) (AStatement at true)) → (d : ℕ) (xs : List Token) → Plain xs (statements one d xs) (ABody at true)
unfolding statements
statements-go one at h d xs = plainly (parted (statements-by one at h d [] _)) (body-of at true)

namespace-made : (at : Site) (us zs : List Token) → Seq (AFront at) (Seq (ABody Member true) (One shape.End)) us zs → ADeclaration at us zs
namespace-made at us zs h = let b = before-one h.second in h.first b.0 h.second.second.0 zs b.1 h.second.second.1

namespace-goes : (one : Parser Tree) (at : Site) → ((xs : List Token) → Plain xs (one xs) (AStatement Member true)) → (d : ℕ) (xs : List Token) → Plain xs (namespace one d (is_top at) xs) (ADeclaration at)
unfolding namespace
namespace-goes one at h d xs = plainly (seq (front-goes d at xs) (seq-stands (body-stands Member true) end-stands) (λ head ps. seq (statements-go one Member h d ps) end-stands (λ found qs. answering _ (expecting shape.End end-stands qs)))) (namespace-made at)

-- ---- declarations and other statements

-- one of three readings
abbrev by_opening : Opening → Parser Tree → Parser Tree → Parser Tree → Parser Tree
by_opening openings.Namespace a b c = a
by_opening openings.Method a b c = b
by_opening openings.Statement a b c = c

opened : (o : Opening) (a b c : Parser Tree) (D : Rel) (xs : List Token) → Plain xs (a xs) D → Plain xs (b xs) D → Plain xs (c xs) D → Plain xs (by_opening o a b c xs) D
opened openings.Namespace a b c D xs h k l = h
opened openings.Method a b c D xs h k l = k
opened openings.Statement a b c D xs h k l = l

item-by : (d : ℕ) (at : Site) → is_open at ≡ true → (xs : List Token) → Plain xs (namespace (item d false) d (is_top at) xs) (ADeclaration at) → Plain xs (by_opening (what_opens xs) (namespace (item d false) d (is_top at)) (method (suc d)) (statement (suc d) true) xs) (AStatement at true)
item-by d at o xs h = opened (what_opens xs) (namespace (item d false) d (is_top at)) (method (suc d)) (statement (suc d) true) (AStatement at true) xs
    (plainly h (λ us zs k. (_, DeclaredStatement _ _ _ _ _ o k.1)))
    (plainly (method-goes d xs) (λ us zs k. (_, DeclaredStatement _ _ _ _ _ o (k at).1)))
    (subst (λ b. Plain xs (statement (suc d) b xs) (AStatement at true)) o (a-statement-goes (suc d) at xs))

item-goes : (d : ℕ) (at : Site) → is_open at ≡ true → (xs : List Token) → Plain xs (item d (is_top at) xs) (AStatement at true)
unfolding item
item-goes zero at o xs = refusing xs (statement-stands at true)
item-goes (suc d) at o xs = item-by d at o xs (namespace-goes (item d false) at (λ us. item-goes d Member refl us) d xs)

-- ---- programs

abbrev program_by : Outcome (List Tree) → Result Tree (List Token)
program_by (Ok (found, [])) = Ok (spec.body_of found)
program_by (Ok (found, t ∷ ts)) = Err (t ∷ ts)
program_by (Err rest) = Err rest

-- what is refused, by a statement or after all
left-of : (tokens : List Token) (o : Outcome (List Tree)) → Plain tokens o (ABody Top true) → (rest : List Token) → program_by o ≡ Err rest → Completes tokens rest (ABody Top true)
left-of tokens (Ok (found, [])) h rest e = absurd (cc)
left-of tokens (Ok (found, t ∷ ts)) h rest e = let is : t ∷ ts ≡ rest = cc in subst (λ r. Completes tokens r (ABody Top true)) is (complete-reach h.told)
left-of tokens (Err r) h rest e = let is : r ≡ rest = cc in subst (λ r. Completes tokens r (ABody Top true)) is h.told

pub program-completes : (d : ℕ) (tokens rest : List Token) → program d tokens ≡ Err rest → Completes tokens rest (ABody Top true)
unfolding program
program-completes d tokens rest e = left-of tokens (statements (item d true) d tokens) (statements-go (item d true) Top (λ xs. item-goes d Top refl xs) d tokens) rest e
