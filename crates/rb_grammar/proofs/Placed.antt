-- A node whose parts stand at tokens, and whose place is from one of them to one of them, stands there.
use Rattle.std.proofs.Common.{◌≡◌, ℕ, Bool, List, [], ◌∷◌, ◌++◌, Option, Some, None, inl, inr, refl, sym, subst}
use Rattle.srb_terms.specs.declared.span.Span.{Span}
use Rattle.rb_tree.specs.Trees.{span_of, span_at, span_of_node}
use Rattle.rb_tree.specs.declared.token.Token.{Token}
use Rattle.rb_tree.specs.declared.syntax.Tree.{Tree}
use Rattle.rb_tree.specs.declared.syntax.Node.{Node, out-Node}
use Rattle.rb_tree.specs.declared.syntax.Node.TheOpen.{Node-F}
use Rattle.rb_tree.specs.declared.syntax.Node.TheViews.{roll-Node, out-roll-Node}
use Rattle.rb_tree.specs.Nodes as tree
use Rattle.rb_tree.specs.declared.syntax.Node.TheVariants.{rolls-Body, rolls-Modified, rolls-Jump, rolls-Assign, rolls-OperatorAssign, rolls-Command, rolls-Conditional, rolls-Binary, rolls-Unary, rolls-Post, rolls-Whole, rolls-Float, rolls-Text, rolls-Symbol, rolls-InstanceVariable, rolls-Constant, rolls-TopConstant, rolls-SelfWord, rolls-Nil, rolls-True, rolls-False, rolls-Name, rolls-Call, rolls-Yield, rolls-Super, rolls-Array, rolls-Hash, rolls-Parens, rolls-If, rolls-While, rolls-Case, rolls-Begin, rolls-Class, rolls-Module, rolls-Def}
use Rattle.rb_tree.specs.declared.syntax.Modifier.{Modifier}
use Rattle.rb_tree.specs.declared.syntax.Jump.{Jump}
use Rattle.rb_tree.specs.declared.syntax.Test.{Test}
use Rattle.rb_tree.specs.declared.syntax.Sign.{Sign}
use Rattle.rb_tree.specs.declared.syntax.Unary.{Unary}
use Rattle.rb_tree.specs.declared.syntax.Binary.{Binary}
use Rattle.rb_tree.specs.declared.syntax.Visibility.{Visibility}
use Rattle.rb_tree.specs.declared.syntax.Suffix.{Suffix}
use Rattle.rb_tree.specs.declared.syntax.Argument.{Argument}
use Rattle.rb_tree.specs.declared.syntax.Block.{Block}
use Rattle.rb_tree.specs.declared.syntax.Piece.{Piece}
use Rattle.rb_tree.specs.declared.syntax.Pair.{Pair}
use Rattle.rb_tree.specs.declared.syntax.Arm.{Arm}
use Rattle.rb_tree.specs.declared.syntax.When.{When}
use Rattle.rb_tree.specs.declared.syntax.PlacedName.{PlacedName}
use Rattle.rb_tree.specs.declared.syntax.Reference.{Reference}
use Rattle.rb_tree.specs.declared.syntax.Guarded.{Guarded}
use Rattle.rb_tree.specs.declared.syntax.Parameter.{Parameter}
use Rattle.rb_rules.specs.Tokens.{IsOneOf}
use Rattle.rb_rules.specs.Spans.{across, last_of, suffix_span, argument_span, block_or}
use Rattle.rb_rules.specs.Grammar.{posted, body_of, span_of_arguments}
use Rattle.rb_grammar.specs.Places.{Each, IfThere, AreInOrder, IsPlaced, IsNamePlaced, IsReferencePlaced, DoesArgumentStand, DoesBlockStand, DoesSuffixStand, DoesPieceStand, DoesPairStand, DoesArmStand, DoesWhenStand, DoesParameterStand, DoesGuardedStand, DoesNodeStand, StandsAt}
use Rattle.rb_grammar.proofs.Steps.{Within, within-self, within-token as push, within-more as go}
use Rattle.rb_grammar.proofs.Nodes.{stands-as}

-- ---- lists

pub each-last : {A : Type 0} (P : A → Type 0) (x : A) (xs : List A) → P x → Each P xs → P (last_of x xs)
each-last P x [] h all = h
each-last P x (y ∷ ys) h all = each-last P y ys all.0 all.1

pub each-weaker : {A : Type 0} (P Q : A → Type 0) → ((x : A) → P x → Q x) → (xs : List A) → Each P xs → Each Q xs
each-weaker P Q f [] all = tt
each-weaker P Q f (x ∷ xs) all = (f x all.0, each-weaker P Q f xs all.1)

pub each-end : {A : Type 0} (P : A → Type 0) (xs : List A) (x : A) → Each P xs → P x → Each P (xs ++ x ∷ [])
each-end P [] x all h = (h, tt)
each-end P (y ∷ ys) x all h = (all.0, each-end P ys x all.1 h)

-- ---- tokens after others

pub stay : {xs : List Token} → Within xs xs
stay {xs = xs} = within-self xs

-- a token is passed
pub past : {xs ys : List Token} (t : Token) → Within xs (t ∷ ys) → Within xs ys
past t w = go w (push t stay)

one-after : (front ys : List Token) (t : Token) → IsOneOf ys t → IsOneOf (front ++ ys) t
one-after [] ys t h = h
one-after (x ∷ front) ys t h = inr (one-after front ys t h)

pub one-of : {xs ys : List Token} (t : Token) → Within xs ys → IsOneOf ys t → IsOneOf xs t
one-of {xs = xs} {ys = ys} t w h = subst (λ zs. IsOneOf zs t) (sym w.1) (one-after w.0 ys t h)

order-after : (front ys : List Token) (a b : Token) → AreInOrder ys a b → AreInOrder (front ++ ys) a b
order-after [] ys a b h = h
order-after (x ∷ front) ys a b h = inr (order-after front ys a b h)

in-order : {xs ys : List Token} (a b : Token) → Within xs ys → AreInOrder ys a b → AreInOrder xs a b
in-order {xs = xs} {ys = ys} a b w h = subst (λ zs. AreInOrder zs a b) (sym w.1) (order-after w.0 ys a b h)

-- ---- places by tokens

-- one of the tokens ends here
abbrev pub Ends : List Token → ℕ → Type 0
Ends xs n = (last : Token) × IsOneOf xs last × (n ≡ last.span.end)

-- the place begins where the tokens do, and ends where one of them ends
abbrev pub Begins : List Token → Span → Type 0
Begins [] s = ⊥
Begins (f ∷ more) s = (s.start ≡ f.span.start) × Ends (f ∷ more) s.end

pub ends-after : {xs ys : List Token} {n : ℕ} → Within xs ys → Ends ys n → Ends xs n
ends-after w e = (e.0, one-of e.0 w e.1, e.2)

pub ends-of : (xs : List Token) (s : Span) → Begins xs s → Ends xs s.end
ends-of [] s h = absurd h
ends-of (x ∷ xs) s h = h.1

-- a token's own place
pub begins-at : (t : Token) (xs : List Token) → Begins (t ∷ xs) t.span
begins-at t xs = (refl, (t, inl refl, refl))

-- from a token to one of those from it on
pub begins-to : (t last : Token) (xs : List Token) → IsOneOf (t ∷ xs) last → Begins (t ∷ xs) (across t.span last.span)
begins-to t last xs h = (refl, (last, h, refl))

-- from a token to one after it
pub begins-from : {xs ys : List Token} (t last : Token) → Within xs (last ∷ ys) → Begins (t ∷ xs) (across t.span last.span)
begins-from {xs = xs} t last w = begins-to t last xs (one-of last (push t w) (inl refl))

-- from the start of a place to the end of another
pub begins-across : (xs : List Token) (a b : Span) → Begins xs a → Ends xs b.end → Begins xs (across a b)
begins-across [] a b h e = h
begins-across (x ∷ xs) a b h e = (h.0, e)

module _ (tokens : List Token) where
  abbrev pub Arguments : List (Argument Tree) → Type 0
  Arguments = Each (DoesArgumentStand tokens (StandsAt tokens))

  abbrev pub Blocked : Block Tree → Type 0
  Blocked = DoesBlockStand tokens (StandsAt tokens)

  -- the tree stands, begins where the tokens after do, and ends where one of those ends
  abbrev pub Stood : List Token → Tree → Type 0
  Stood xs t = Begins xs (span_of t) × StandsAt tokens t

  -- the tree stands, and ends where one of the tokens after ends; so of other parts
  abbrev pub Ended : List Token → Tree → Type 0
  Ended xs t = Ends xs (span_of t).end × StandsAt tokens t

  abbrev pub Argued : List Token → Argument Tree → Type 0
  Argued xs a = Ends xs (argument_span a).end × DoesArgumentStand tokens (StandsAt tokens) a

  abbrev pub Suffixed : List Token → Suffix Tree → Type 0
  Suffixed xs s = Ends xs (suffix_span s).end × DoesSuffixStand tokens (StandsAt tokens) s

  abbrev pub BlockEnded : List Token → Block Tree → Type 0
  BlockEnded xs b = Ends xs b.span.end × Blocked b

  pub ended : {xs ys : List Token} (t : Tree) → Within xs ys → Stood ys t → Ended xs t
  ended {ys = ys} t w h = (ends-after w (ends-of ys (span_of t) h.0), h.1)

  pub all-ended : {xs ys : List Token} (ss : List Tree) → Within xs ys → Each (Ended ys) ss → Each (Ended xs) ss
  all-ended {xs = xs} {ys = ys} ss w = each-weaker (Ended ys) (Ended xs) (λ t h. (ends-after w h.0, h.1)) ss

  pub all-argued : {xs ys : List Token} (given : List (Argument Tree)) → Within xs ys → Each (Argued ys) given → Each (Argued xs) given
  all-argued {xs = xs} {ys = ys} given w = each-weaker (Argued ys) (Argued xs) (λ a h. (ends-after w h.0, h.1)) given

  pub if-ended : {xs ys : List Token} (b : Option (Block Tree)) → Within xs ys → IfThere (BlockEnded ys) b → IfThere (BlockEnded xs) b
  if-ended None w h = h
  if-ended (Some b) w h = (ends-after w h.0, h.1)

  pub argued : (xs : List Token) (given : List (Argument Tree)) → Each (Argued xs) given → Arguments given
  argued xs = each-weaker (Argued xs) (DoesArgumentStand tokens (StandsAt tokens)) (λ a h. h.1)

  blocked : (xs : List Token) (b : Option (Block Tree)) → IfThere (BlockEnded xs) b → IfThere Blocked b
  blocked xs None h = h
  blocked xs (Some b) h = h.1

  command-end : (xs : List Token) (s : Span) (given : List (Argument Tree)) (b : Option (Block Tree)) → Ends xs s.end → Each (Argued xs) given → IfThere (BlockEnded xs) b → Ends xs (block_or (span_of_arguments s given) b).end
  command-end xs s [] None e all h = e
  command-end xs s (a ∷ more) None e all h = (each-last (Argued xs) a more all.0 all.1).0
  command-end xs s given (Some b) e all h = h.0

  -- ---- places

  pub placed : {xs : List Token} {s : Span} → Within tokens xs → Begins xs s → IsPlaced tokens s
  placed {xs = []} w h = absurd h
  placed {xs = x ∷ xs} w h = record {
    first = x;
    last = h.1.0;
    first_is = one-of x w (inl refl);
    last_is = one-of h.1.0 w h.1.1;
    in_order = in-order x h.1.0 w (inl (refl, h.1.1));
    starts = h.0;
    ends = h.1.2;
  }

  pub token-placed : {xs : List Token} (t : Token) → Within tokens (t ∷ xs) → IsPlaced tokens t.span
  token-placed {xs = xs} t w = placed w (begins-at t xs)

  -- ---- nodes

  made : (t : Tree) (r : Node-F Node Tree) → roll-Node r ≡ t.node → DoesNodeStand tokens (StandsAt tokens) r → StandsAt tokens t
  made t r e h = stands-as tokens t r e h

  begun : (xs : List Token) (t : Tree) (r : Node-F Node Tree) → roll-Node r ≡ t.node → Begins xs (span_at r) → Begins xs (span_of t)
  unfolding span_of span_of_node
  begun xs t r e h = subst (λ u. Begins xs (span_at (out-Node u))) e (subst (λ q. Begins xs (span_at q)) (sym (out-roll-Node r)) h)

  pub no-statement : StandsAt tokens (body_of [])
  no-statement = made _ (Node-F.Body [] (record { start = 0; end = 0 })) (rolls-Body _ _) (refl, refl)

  module _ {xs : List Token} (w : Within tokens xs) where
    stood : (t : Tree) (r : Node-F Node Tree) → roll-Node r ≡ t.node → Begins xs (span_at r) → (IsPlaced tokens (span_at r) → DoesNodeStand tokens (StandsAt tokens) r) → Stood xs t
    stood t r e h make = (begun xs t r e h, made t r e (make (placed w h)))

    pub statements : (s : Tree) (ss : List Tree) → Stood xs s → Each (Ended xs) ss → StandsAt tokens (body_of (s ∷ ss))
    statements s ss h all = made _ (Node-F.Body (s ∷ ss) (across (span_of s) (span_of (last_of s ss)))) (rolls-Body _ _)
        (placed w (begins-across xs (span_of s) (span_of (last_of s ss)) h.0 (each-last (Ended xs) s ss (ended s stay h) all).0), (h.1, each-weaker (Ended xs) (StandsAt tokens) (λ t k. k.1) ss all))

    pub modified : (s : Tree) (word : Modifier) (c : Tree) → Stood xs s → Ended xs c → Stood xs (tree.Modified s word c (across (span_of s) (span_of c)))
    modified s word c a b = stood _ (Node-F.Modified s word c (across (span_of s) (span_of c))) (rolls-Modified _ _ _ _) (begins-across xs (span_of s) (span_of c) a.0 b.0) (λ p. (p, a.1, b.1))

    pub jump : (word : Jump) (s : Span) → Begins xs s → Stood xs (tree.Jump word None s)
    jump word s h = stood _ (Node-F.Jump word None s) (rolls-Jump _ _ _) h (λ p. (p, tt))

    pub jump-with : (word : Jump) (s : Span) (v : Tree) → Begins xs s → Ended xs v → Stood xs (tree.Jump word (Some v) (across s (span_of v)))
    jump-with word s v h a = stood _ (Node-F.Jump word (Some v) (across s (span_of v))) (rolls-Jump _ _ _) (begins-across xs s (span_of v) h a.0) (λ p. (p, a.1))

    pub assign : (target v : Tree) → Stood xs target → Ended xs v → Stood xs (tree.Assign target v (across (span_of target) (span_of v)))
    assign target v a b = stood _ (Node-F.Assign target v (across (span_of target) (span_of v))) (rolls-Assign _ _ _) (begins-across xs (span_of target) (span_of v) a.0 b.0) (λ p. (p, a.1, b.1))

    pub operator-assign : (o : Span) (operator : Binary) (target v : Tree) → IsPlaced tokens o → Stood xs target → Ended xs v → Stood xs (tree.OperatorAssign target operator o v (across (span_of target) (span_of v)))
    operator-assign o operator target v h a b =
        stood _ (Node-F.OperatorAssign target operator o v (across (span_of target) (span_of v))) (rolls-OperatorAssign _ _ _ _ _) (begins-across xs (span_of target) (span_of v) a.0 b.0) (λ p. (p, a.1, h, b.1))

    pub command : (callee : Tree) (given : List (Argument Tree)) (b : Option (Block Tree)) → Stood xs callee → Each (Argued xs) given → IfThere (BlockEnded xs) b →
        Stood xs (tree.Command callee given b (across (span_of callee) (block_or (span_of_arguments (span_of callee) given) b)))
    command callee given b c all k =
        stood _ (Node-F.Command callee given b (across (span_of callee) (block_or (span_of_arguments (span_of callee) given) b))) (rolls-Command _ _ _ _)
        (begins-across xs (span_of callee) (block_or (span_of_arguments (span_of callee) given) b) c.0 (command-end xs (span_of callee) given b (ends-of xs (span_of callee) c.0) all k))
        (λ p. (p, c.1, argued xs given all, blocked xs b k))

    pub conditional : (c a b : Tree) → Stood xs c → StandsAt tokens a → Ended xs b → Stood xs (tree.Conditional c a b (across (span_of c) (span_of b)))
    conditional c a b h k l = stood _ (Node-F.Conditional c a b (across (span_of c) (span_of b))) (rolls-Conditional _ _ _ _) (begins-across xs (span_of c) (span_of b) h.0 l.0) (λ p. (p, h.1, k, l.1))

    pub binary : (o : Span) (operator : Binary) (a b : Tree) → IsPlaced tokens o → Stood xs a → Ended xs b → Stood xs (tree.Binary operator o a b (across (span_of a) (span_of b)))
    binary o operator a b h k l = stood _ (Node-F.Binary operator o a b (across (span_of a) (span_of b))) (rolls-Binary _ _ _ _ _) (begins-across xs (span_of a) (span_of b) k.0 l.0) (λ p. (p, h, k.1, l.1))

    pub unary : (s : Span) (operator : Unary) (a : Tree) → Begins xs s → Ended xs a → Stood xs (tree.Unary operator a (across s (span_of a)))
    unary s operator a h k = stood _ (Node-F.Unary operator a (across s (span_of a))) (rolls-Unary _ _ _) (begins-across xs s (span_of a) h k.0) (λ p. (p, k.1))

    pub post : (p : Tree) (ss : List (Suffix Tree)) → Stood xs p → Each (Suffixed xs) ss → Stood xs (posted p ss)
    post p [] h all = h
    post p (s ∷ ss) h all = stood _ (Node-F.Post p (s ∷ ss) (across (span_of p) (suffix_span (last_of s ss)))) (rolls-Post _ _ _)
        (begins-across xs (span_of p) (suffix_span (last_of s ss)) h.0 (each-last (Suffixed xs) s ss all.0 all.1).0)
        (λ q. (q, h.1, each-weaker (Suffixed xs) (DoesSuffixStand tokens (StandsAt tokens)) (λ s k. k.1) (s ∷ ss) all))

    pub post-more : (p : Tree) (ss : List (Suffix Tree)) (s : Suffix Tree) → Stood xs p → Each (Suffixed xs) ss → Suffixed xs s → Stood xs (posted p (ss ++ s ∷ []))
    post-more p ss s h all k = post p (ss ++ s ∷ []) h (each-end (Suffixed xs) ss s all k)

    -- ---- operands

    pub whole : (sign : Option Sign) (words : List ℕ) (s : Span) → Begins xs s → Stood xs (tree.Whole sign words s)
    whole sign words s h = stood _ (Node-F.Whole sign words s) (rolls-Whole _ _ _) h (λ p. p)

    pub float : (sign : Option Sign) (words : List ℕ) (s : Span) → Begins xs s → Stood xs (tree.Float sign words s)
    float sign words s h = stood _ (Node-F.Float sign words s) (rolls-Float _ _ _) h (λ p. p)

    pub text : (pieces : List (Piece Tree)) (s : Span) → Begins xs s → Each (DoesPieceStand tokens (StandsAt tokens)) pieces → Stood xs (tree.Text pieces s)
    text pieces s h all = stood _ (Node-F.Text pieces s) (rolls-Text _ _) h (λ p. (p, all))

    pub symbol : (words : List ℕ) (s : Span) → Begins xs s → Stood xs (tree.Symbol words s)
    symbol words s h = stood _ (Node-F.Symbol words s) (rolls-Symbol _ _) h (λ p. p)

    pub instance_variable : (words : List ℕ) (s : Span) → Begins xs s → Stood xs (tree.InstanceVariable words s)
    instance_variable words s h = stood _ (Node-F.InstanceVariable words s) (rolls-InstanceVariable _ _) h (λ p. p)

    pub constant : (words : List ℕ) (s : Span) → Begins xs s → Stood xs (tree.Constant words s)
    constant words s h = stood _ (Node-F.Constant words s) (rolls-Constant _ _) h (λ p. p)

    pub top-constant : (words : List ℕ) (n s : Span) → IsPlaced tokens n → Begins xs s → Stood xs (tree.TopConstant words n s)
    top-constant words n s k h = stood _ (Node-F.TopConstant words n s) (rolls-TopConstant _ _ _) h (λ p. (p, k))

    pub self-word : (s : Span) → Begins xs s → Stood xs (tree.SelfWord s)
    self-word s h = stood _ (Node-F.SelfWord s) (rolls-SelfWord _) h (λ p. p)

    pub nil : (s : Span) → Begins xs s → Stood xs (tree.Nil s)
    nil s h = stood _ (Node-F.Nil s) (rolls-Nil _) h (λ p. p)

    pub true-word : (s : Span) → Begins xs s → Stood xs (tree.True s)
    true-word s h = stood _ (Node-F.True s) (rolls-True _) h (λ p. p)

    pub false-word : (s : Span) → Begins xs s → Stood xs (tree.False s)
    false-word s h = stood _ (Node-F.False s) (rolls-False _) h (λ p. p)

    pub name : (words : List ℕ) (s : Span) → Begins xs s → Stood xs (tree.Name words s)
    name words s h = stood _ (Node-F.Name words s) (rolls-Name _ _) h (λ p. p)

    pub call : (words : List ℕ) (n : Span) (given : Option (List (Argument Tree))) (b : Option (Block Tree)) (s : Span) → IsPlaced tokens n → IfThere Arguments given → IfThere Blocked b → Begins xs s → Stood xs (tree.Call words n given b s)
    call words n given b s k all l h = stood _ (Node-F.Call words n given b s) (rolls-Call _ _ _ _ _) h (λ p. (p, k, all, l))

    pub yield : (given : Option (List (Argument Tree))) (s : Span) → IfThere Arguments given → Begins xs s → Stood xs (tree.Yield given s)
    yield given s all h = stood _ (Node-F.Yield given s) (rolls-Yield _ _) h (λ p. (p, all))

    pub super : (given : Option (List (Argument Tree))) (s : Span) → IfThere Arguments given → Begins xs s → Stood xs (tree.Super given s)
    super given s all h = stood _ (Node-F.Super given s) (rolls-Super _ _) h (λ p. (p, all))

    pub array : (es : List Tree) (s : Span) → Each (StandsAt tokens) es → Begins xs s → Stood xs (tree.Array es s)
    array es s all h = stood _ (Node-F.Array es s) (rolls-Array _ _) h (λ p. (p, all))

    pub hash : (ps : List (Pair Tree)) (s : Span) → Each (DoesPairStand tokens (StandsAt tokens)) ps → Begins xs s → Stood xs (tree.Hash ps s)
    hash ps s all h = stood _ (Node-F.Hash ps s) (rolls-Hash _ _) h (λ p. (p, all))

    pub parens : (b : Tree) (s : Span) → StandsAt tokens b → Begins xs s → Stood xs (tree.Parens b s)
    parens b s k h = stood _ (Node-F.Parens b s) (rolls-Parens _ _) h (λ p. (p, k))

    pub branches : (word : Test) (c b : Tree) (arms : List (Arm Tree)) (e : Option Tree) (s : Span) → StandsAt tokens c → StandsAt tokens b → Each (DoesArmStand tokens (StandsAt tokens)) arms → IfThere (StandsAt tokens) e → Begins xs s → Stood xs (tree.If word c b arms e s)
    branches word c b arms e s k l all m h = stood _ (Node-F.If word c b arms e s) (rolls-If _ _ _ _ _ _) h (λ p. (p, k, l, all, m))

    pub loops : (word : Test) (c b : Tree) (s : Span) → StandsAt tokens c → StandsAt tokens b → Begins xs s → Stood xs (tree.While word c b s)
    loops word c b s k l h = stood _ (Node-F.While word c b s) (rolls-While _ _ _ _) h (λ p. (p, k, l))

    pub cases : (t : Option Tree) (arms : List (When Tree)) (e : Option Tree) (s : Span) → IfThere (StandsAt tokens) t → Each (DoesWhenStand tokens (StandsAt tokens)) arms → IfThere (StandsAt tokens) e → Begins xs s → Stood xs (tree.Case t arms e s)
    cases t arms e s k all m h = stood _ (Node-F.Case t arms e s) (rolls-Case _ _ _ _) h (λ p. (p, k, all, m))

    pub begins : (g : Guarded Tree) (s : Span) → DoesGuardedStand tokens (StandsAt tokens) g → Begins xs s → Stood xs (tree.Begin g s)
    begins g s k h = stood _ (Node-F.Begin g s) (rolls-Begin _ _) h (λ p. (p, k))

    -- ---- declarations

    pub class-of : (path : List PlacedName) (r : Option Reference) (b : Tree) (s : Span) → Each (IsNamePlaced tokens) path → IfThere (IsReferencePlaced tokens) r → StandsAt tokens b → Begins xs s → Stood xs (tree.Class path r b s)
    class-of path r b s k l m h = stood _ (Node-F.Class path r b s) (rolls-Class _ _ _ _) h (λ p. (p, k, l, m))

    pub module-of : (path : List PlacedName) (b : Tree) (s : Span) → Each (IsNamePlaced tokens) path → StandsAt tokens b → Begins xs s → Stood xs (tree.Module path b s)
    module-of path b s k l h = stood _ (Node-F.Module path b s) (rolls-Module _ _ _) h (λ p. (p, k, l))

    pub method : (v : Option Visibility) (own : Bool) (words : List ℕ) (n : Span) (ps : List (Parameter Tree)) (g : Guarded Tree) (s : Span) → IsPlaced tokens n → Each (DoesParameterStand tokens (StandsAt tokens)) ps → DoesGuardedStand tokens (StandsAt tokens) g → Begins xs s → Stood xs (tree.Def v own words n ps g s)
    method v own words n ps g s k all l h = stood _ (Node-F.Def v own words n ps g s) (rolls-Def _ _ _ _ _ _ _) h (λ p. (p, k, all, l))
