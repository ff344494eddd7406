-- The places of errors in a node are those of its tokens: where they are so in its parts, and its place is from one of these tokens to
-- one of them.
use Rattle.std.proofs.Common.{◌≡◌, ℕ, Bool, List, [], ◌∷◌, ◌++◌, Option, Some, None, inl, inr, refl, sym, ap, subst}
use Rattle.srb_terms.specs.declared.span.Span.{Span}
use Rattle.rb_tree.specs.Tokens.{shape_of}
use Rattle.rb_tree.specs.Trees.{span_of, span_at, span_of_node}
use Rattle.rb_tree.specs.declared.token.Token.{Token}
use Rattle.rb_tree.specs.declared.token.Shape.{Shape}
use Rattle.rb_tree.specs.declared.token.Shape.TheVariants as shape
use Rattle.rb_tree.specs.declared.syntax.Tree.{Tree}
use Rattle.rb_tree.specs.declared.syntax.Node.{Node, out-Node}
use Rattle.rb_tree.specs.declared.syntax.Node.TheOpen.{Node-F}
use Rattle.rb_tree.specs.declared.syntax.Node.TheViews.{roll-Node, out-roll-Node}
use Rattle.rb_tree.specs.Nodes as tree
use Rattle.rb_tree.specs.declared.syntax.Node.TheVariants.{rolls-Body, rolls-Modified, rolls-Jump, rolls-Assign, rolls-OperatorAssign, rolls-Command, rolls-Conditional, rolls-Binary, rolls-Unary, rolls-Post, rolls-Whole, rolls-Float, rolls-Text, rolls-Symbol, rolls-InstanceVariable, rolls-Constant, rolls-TopConstant, rolls-SelfWord, rolls-Nil, rolls-True, rolls-False, rolls-Name, rolls-Call, rolls-Yield, rolls-Super, rolls-Array, rolls-Hash, rolls-Parens, rolls-If, rolls-While, rolls-Case, rolls-Begin, rolls-Class, rolls-Module, rolls-Def}
use Rattle.rb_tree.specs.declared.syntax.Modifier.{Modifier}
use Rattle.rb_tree.specs.declared.syntax.Jump.{Jump}
use Rattle.rb_tree.specs.declared.syntax.Test.{Test}
use Rattle.rb_tree.specs.declared.syntax.Sign.{Sign}
use Rattle.rb_tree.specs.declared.syntax.Unary.{Unary}
use Rattle.rb_tree.specs.declared.syntax.Unary.TheVariants as unary_word
use Rattle.rb_tree.specs.declared.syntax.Binary.{Binary}
use Rattle.rb_tree.specs.declared.syntax.Visibility.{Visibility}
use Rattle.rb_tree.specs.declared.syntax.Suffix.{Suffix}
use Rattle.rb_tree.specs.declared.syntax.Suffix.TheVariants as suffix
use Rattle.rb_tree.specs.declared.syntax.Argument.{Argument}
use Rattle.rb_tree.specs.declared.syntax.Block.{Block}
use Rattle.rb_tree.specs.declared.syntax.Piece.{Piece}
use Rattle.rb_tree.specs.declared.syntax.Pair.{Pair}
use Rattle.rb_tree.specs.declared.syntax.Arm.{Arm}
use Rattle.rb_tree.specs.declared.syntax.When.{When}
use Rattle.rb_tree.specs.declared.syntax.PlacedName.{PlacedName}
use Rattle.rb_tree.specs.declared.syntax.Reference.{Reference}
use Rattle.rb_tree.specs.declared.syntax.Guarded.{Guarded}
use Rattle.rb_tree.specs.declared.syntax.Rescue.{Rescue}
use Rattle.rb_tree.specs.declared.syntax.Parameter.{Parameter}
use Rattle.rb_rules.specs.Tokens.{Is}
use Rattle.rb_rules.specs.Spans.{across, last_of, suffix_span, argument_span, block_or}
use Rattle.rb_rules.specs.Grammar.{JUMP_WORDS, PREFIXES, IsRow, posted, body_of, span_of_arguments}
use Rattle.rb_views.specs.Places.{first_bytes, jump_length, open_bracket}
use Rattle.rb_grammar.specs.Places.{Each, IfThere}
use Rattle.rb_grammar.proofs.Steps.{Within, within-self}
use Rattle.rb_grammar.proofs.Placed.{each-last, each-weaker, each-end, one-of, Ends, Begins, ends-after, ends-of, begins-at, begins-across, placed, token-placed}
use Rattle.rb_places_laws.specs.ErrorPlaces.{prefix_to, HasArgument, HasBlock, HasSuffix, HasPiece, HasPair, HasArm, HasWhen, HasParameter, HasRescue, HasGuarded, HasParts, HasNode, HasErrorPlaces}
use Rattle.rb_places_laws.specs.TokenPlaces.{HEADS, IsPlaceOfError}
use Rattle.rb_places_laws.proofs.ByNode.{has-as}

-- ---- words, operators and brackets in front

jump-head : (s : Shape) (word : Jump) → IsRow JUMP_WORDS s word → IsRow HEADS s (jump_length word)
jump-head s word (inl h) = inl (h.0, ap jump_length h.1)
jump-head s word (inr (inl h)) = inr (inl (h.0, ap jump_length h.1))
jump-head s word (inr (inr (inl h))) = inr (inr (inl (h.0, ap jump_length h.1)))
jump-head s word (inr (inr (inr h))) = absurd h

prefix-head : (s : Shape) (operator : Unary) → IsRow PREFIXES s operator → IsRow HEADS s 1
prefix-head s operator (inl h) = inr (inr (inr (inl (h.0, refl))))
prefix-head s operator (inr (inl h)) = inr (inr (inr (inr (inl (h.0, refl)))))
prefix-head s operator (inr (inr (inl h))) = inr (inr (inr (inr (inr (inl (h.0, refl))))))
prefix-head s operator (inr (inr (inr h))) = absurd h

minus-head : (s : Shape) → s ≡ shape.Minus → IsRow HEADS s 1
minus-head s h = inr (inr (inr (inr (inr (inr (inl (h, refl)))))))

bracket-head : (s : Shape) → s ≡ shape.OpenBracket → IsRow HEADS s 1
bracket-head s h = inr (inr (inr (inr (inr (inr (inr (inl (h, refl))))))))

module _ (tokens : List Token) where
  abbrev pub At : Span → Type 0
  At = IsPlaceOfError tokens

  -- the places of errors in the tree are those of the tokens
  abbrev pub Has : Tree → Type 0
  Has = HasErrorPlaces (IsPlaceOfError tokens)

  abbrev pub InArgument : Argument Tree → Type 0
  InArgument = HasArgument At Has span_of

  abbrev pub Arguments : List (Argument Tree) → Type 0
  Arguments = Each InArgument

  abbrev pub Blocked : Block Tree → Type 0
  Blocked = HasBlock At Has span_of

  abbrev pub InPiece : Piece Tree → Type 0
  InPiece = HasPiece At Has span_of

  abbrev pub InPair : Pair Tree → Type 0
  InPair = HasPair At Has span_of

  abbrev pub InArm : Arm Tree → Type 0
  InArm = HasArm At Has span_of

  abbrev pub InWhen : When Tree → Type 0
  InWhen = HasWhen At Has span_of

  abbrev pub InParameter : Parameter Tree → Type 0
  InParameter = HasParameter At Has span_of

  abbrev pub InRescue : Rescue Tree → Type 0
  InRescue = HasRescue At Has span_of

  abbrev pub InGuarded : Guarded Tree → Type 0
  InGuarded = HasGuarded At Has span_of

  -- those in a suffix, but for the place from where its row begins
  abbrev pub InSuffix : Suffix Tree → Type 0
  InSuffix (suffix.Call how name name_span given b span) = At name_span × IfThere Arguments given × IfThere Blocked b
  InSuffix (suffix.Constant name name_span span) = Unit {0}
  InSuffix (suffix.Index given span) = At (open_bracket span) × Arguments given

  in-row : (front : Span) (s : Suffix Tree) → At (prefix_to front (suffix_span s)) → InSuffix s → HasSuffix At Has span_of front s
  in-row front (suffix.Call how name name_span given b span) p h = (p, h.0, h.1, h.2)
  in-row front (suffix.Constant name name_span span) p h = p
  in-row front (suffix.Index given span) p h = (p, h.0, h.1)

  -- the places in the tree are so, it begins where the tokens after do, and ends where one of those ends
  abbrev pub Stood : List Token → Tree → Type 0
  Stood xs t = Begins xs (span_of t) × Has t

  -- they are so, and it ends where one of the tokens after ends; so of other parts
  abbrev pub Ended : List Token → Tree → Type 0
  Ended xs t = Ends xs (span_of t).end × Has t

  abbrev pub Argued : List Token → Argument Tree → Type 0
  Argued xs a = Ends xs (argument_span a).end × InArgument a

  abbrev pub Suffixed : List Token → Suffix Tree → Type 0
  Suffixed xs s = Ends xs (suffix_span s).end × InSuffix s

  abbrev pub BlockEnded : List Token → Block Tree → Type 0
  BlockEnded xs b = Ends xs b.span.end × Blocked b

  pub ended : {xs ys : List Token} (t : Tree) → Within xs ys → Stood ys t → Ended xs t
  ended {ys = ys} t w h = (ends-after w (ends-of ys (span_of t) h.0), h.1)

  pub all-ended : {xs ys : List Token} (ss : List Tree) → Within xs ys → Each (Ended ys) ss → Each (Ended xs) ss
  all-ended {xs = xs} {ys = ys} ss w = each-weaker (Ended ys) (Ended xs) (λ t h. (ends-after w h.0, h.1)) ss

  pub all-argued : {xs ys : List Token} (given : List (Argument Tree)) → Within xs ys → Each (Argued ys) given → Each (Argued xs) given
  all-argued {xs = xs} {ys = ys} given w = each-weaker (Argued ys) (Argued xs) (λ a h. (ends-after w h.0, h.1)) given

  pub if-ended : {xs ys : List Token} (b : Option (Block Tree)) → Within xs ys → IfThere (BlockEnded ys) b → IfThere (BlockEnded xs) b
  if-ended None w h = h
  if-ended (Some b) w h = (ends-after w h.0, h.1)

  pub argued : (xs : List Token) (given : List (Argument Tree)) → Each (Argued xs) given → Arguments given
  argued xs = each-weaker (Argued xs) InArgument (λ a h. h.1)

  blocked : (xs : List Token) (b : Option (Block Tree)) → IfThere (BlockEnded xs) b → IfThere Blocked b
  blocked xs None h = h
  blocked xs (Some b) h = h.1

  command-end : (xs : List Token) (s : Span) (given : List (Argument Tree)) (b : Option (Block Tree)) → Ends xs s.end → Each (Argued xs) given → IfThere (BlockEnded xs) b → Ends xs (block_or (span_of_arguments s given) b).end
  command-end xs s [] None e all h = e
  command-end xs s (a ∷ more) None e all h = (each-last (Argued xs) a more all.0 all.1).0
  command-end xs s given (Some b) e all h = h.0

  -- ---- places

  pub at-tokens : {xs : List Token} {s : Span} → Within tokens xs → Begins xs s → At s
  at-tokens w h = inl (inl (placed tokens w h))

  pub at-token : {xs : List Token} (t : Token) → Within tokens (t ∷ xs) → At t.span
  at-token t w = inl (inl (token-placed tokens t w))

  at-head : {xs : List Token} (t : Token) (count : ℕ) (s : Span) → IsRow HEADS (shape_of t.kind) count → Within tokens (t ∷ xs) → Begins (t ∷ xs) s → At (first_bytes s count)
  at-head t count s row w h = inr (record { first = t; count = count; whole = s; first_is = one-of t w (inl refl); spelled = row; placed = placed tokens w h; starts = h.0; span_is = refl })

  pub at-bracket : {xs : List Token} (o : Token) (s : Span) → Is shape.OpenBracket o → Within tokens (o ∷ xs) → Begins (o ∷ xs) s → At (open_bracket s)
  at-bracket o s h = at-head o 1 s (bracket-head (shape_of o.kind) h)

  -- ---- nodes

  made : (t : Tree) (r : Node-F Node Tree) → roll-Node r ≡ t.node → HasNode At Has span_of r → Has t
  made t r e h = has-as At t r e h

  begun : (xs : List Token) (t : Tree) (r : Node-F Node Tree) → roll-Node r ≡ t.node → Begins xs (span_at r) → Begins xs (span_of t)
  unfolding span_of span_of_node
  begun xs t r e h = subst (λ u. Begins xs (span_at (out-Node u))) e (subst (λ q. Begins xs (span_at q)) (sym (out-roll-Node r)) h)

  pub no-statement : Has (body_of [])
  no-statement = made _ (Node-F.Body [] (record { start = 0; end = 0 })) (rolls-Body _ _) (inl (inr (refl, refl)), tt)

  module _ {xs : List Token} (w : Within tokens xs) where
    stood : (t : Tree) (r : Node-F Node Tree) → roll-Node r ≡ t.node → Begins xs (span_at r) → HasParts At Has span_of r → Stood xs t
    stood t r e h parts = (begun xs t r e h, made t r e (at-tokens w h, parts))

    pub statements : (s : Tree) (ss : List Tree) → Stood xs s → Each (Ended xs) ss → Has (body_of (s ∷ ss))
    statements s ss h all = (stood _ (Node-F.Body (s ∷ ss) (across (span_of s) (span_of (last_of s ss)))) (rolls-Body _ _)
        (begins-across xs (span_of s) (span_of (last_of s ss)) h.0 (each-last (Ended xs) s ss (ended s (within-self xs) h) all).0) (h.1, each-weaker (Ended xs) Has (λ t k. k.1) ss all)).1

    pub modified : (s : Tree) (word : Modifier) (c : Tree) → Stood xs s → Ended xs c → Stood xs (tree.Modified s word c (across (span_of s) (span_of c)))
    modified s word c a b = stood _ (Node-F.Modified s word c (across (span_of s) (span_of c))) (rolls-Modified _ _ _ _) (begins-across xs (span_of s) (span_of c) a.0 b.0) (a.1, b.1)

    pub assign : (target v : Tree) → Stood xs target → Ended xs v → Stood xs (tree.Assign target v (across (span_of target) (span_of v)))
    assign target v a b = stood _ (Node-F.Assign target v (across (span_of target) (span_of v))) (rolls-Assign _ _ _) (begins-across xs (span_of target) (span_of v) a.0 b.0) (a.1, b.1)

    pub operator-assign : (o : Span) (operator : Binary) (target v : Tree) → At o → Stood xs target → Ended xs v → Stood xs (tree.OperatorAssign target operator o v (across (span_of target) (span_of v)))
    operator-assign o operator target v h a b =
        stood _ (Node-F.OperatorAssign target operator o v (across (span_of target) (span_of v))) (rolls-OperatorAssign _ _ _ _ _) (begins-across xs (span_of target) (span_of v) a.0 b.0) (a.1, h, b.1)

    pub command : (callee : Tree) (given : List (Argument Tree)) (b : Option (Block Tree)) → Stood xs callee → Each (Argued xs) given → IfThere (BlockEnded xs) b →
        Stood xs (tree.Command callee given b (across (span_of callee) (block_or (span_of_arguments (span_of callee) given) b)))
    command callee given b c all k =
        stood _ (Node-F.Command callee given b (across (span_of callee) (block_or (span_of_arguments (span_of callee) given) b))) (rolls-Command _ _ _ _)
        (begins-across xs (span_of callee) (block_or (span_of_arguments (span_of callee) given) b) c.0 (command-end xs (span_of callee) given b (ends-of xs (span_of callee) c.0) all k))
        (c.1, argued xs given all, blocked xs b k)

    pub conditional : (c a b : Tree) → Stood xs c → Has a → Ended xs b → Stood xs (tree.Conditional c a b (across (span_of c) (span_of b)))
    conditional c a b h k l = stood _ (Node-F.Conditional c a b (across (span_of c) (span_of b))) (rolls-Conditional _ _ _ _) (begins-across xs (span_of c) (span_of b) h.0 l.0) (h.1, k, l.1)

    pub binary : (o : Span) (operator : Binary) (a b : Tree) → At o → Stood xs a → Ended xs b → Stood xs (tree.Binary operator o a b (across (span_of a) (span_of b)))
    binary o operator a b h k l = stood _ (Node-F.Binary operator o a b (across (span_of a) (span_of b))) (rolls-Binary _ _ _ _ _) (begins-across xs (span_of a) (span_of b) k.0 l.0) (h, k.1, l.1)

    -- the place from where the row begins to where a suffix of it ends is one of the tokens, as the operand stands in front
    pub post : (p : Tree) (ss : List (Suffix Tree)) → Stood xs p → Each (Suffixed xs) ss → Stood xs (posted p ss)
    post p [] h all = h
    post p (s ∷ ss) h all = stood _ (Node-F.Post p (s ∷ ss) (across (span_of p) (suffix_span (last_of s ss)))) (rolls-Post _ _ _)
        (begins-across xs (span_of p) (suffix_span (last_of s ss)) h.0 (each-last (Suffixed xs) s ss all.0 all.1).0)
        (h.1, each-weaker (Suffixed xs) (HasSuffix At Has span_of (span_of p)) (λ s k. in-row (span_of p) s (at-tokens w (begins-across xs (span_of p) (suffix_span s) h.0 k.0)) k.1) (s ∷ ss) all)

    pub post-more : (p : Tree) (ss : List (Suffix Tree)) (s : Suffix Tree) → Stood xs p → Each (Suffixed xs) ss → Suffixed xs s → Stood xs (posted p (ss ++ s ∷ []))
    post-more p ss s h all k = post p (ss ++ s ∷ []) h (each-end (Suffixed xs) ss s all k)

    -- ---- operands

    pub whole : (sign : Option Sign) (words : List ℕ) (s : Span) → Begins xs s → Stood xs (tree.Whole sign words s)
    whole sign words s h = stood _ (Node-F.Whole sign words s) (rolls-Whole _ _ _) h tt

    pub float : (sign : Option Sign) (words : List ℕ) (s : Span) → Begins xs s → Stood xs (tree.Float sign words s)
    float sign words s h = stood _ (Node-F.Float sign words s) (rolls-Float _ _ _) h tt

    pub text : (pieces : List (Piece Tree)) (s : Span) → Begins xs s → Each InPiece pieces → Stood xs (tree.Text pieces s)
    text pieces s h all = stood _ (Node-F.Text pieces s) (rolls-Text _ _) h all

    pub symbol : (words : List ℕ) (s : Span) → Begins xs s → Stood xs (tree.Symbol words s)
    symbol words s h = stood _ (Node-F.Symbol words s) (rolls-Symbol _ _) h tt

    pub instance_variable : (words : List ℕ) (s : Span) → Begins xs s → Stood xs (tree.InstanceVariable words s)
    instance_variable words s h = stood _ (Node-F.InstanceVariable words s) (rolls-InstanceVariable _ _) h tt

    pub constant : (words : List ℕ) (s : Span) → Begins xs s → Stood xs (tree.Constant words s)
    constant words s h = stood _ (Node-F.Constant words s) (rolls-Constant _ _) h tt

    pub top-constant : (words : List ℕ) (n s : Span) → Begins xs s → Stood xs (tree.TopConstant words n s)
    top-constant words n s h = stood _ (Node-F.TopConstant words n s) (rolls-TopConstant _ _ _) h tt

    pub self-word : (s : Span) → Begins xs s → Stood xs (tree.SelfWord s)
    self-word s h = stood _ (Node-F.SelfWord s) (rolls-SelfWord _) h tt

    pub nil : (s : Span) → Begins xs s → Stood xs (tree.Nil s)
    nil s h = stood _ (Node-F.Nil s) (rolls-Nil _) h tt

    pub true-word : (s : Span) → Begins xs s → Stood xs (tree.True s)
    true-word s h = stood _ (Node-F.True s) (rolls-True _) h tt

    pub false-word : (s : Span) → Begins xs s → Stood xs (tree.False s)
    false-word s h = stood _ (Node-F.False s) (rolls-False _) h tt

    pub name : (words : List ℕ) (s : Span) → Begins xs s → Stood xs (tree.Name words s)
    name words s h = stood _ (Node-F.Name words s) (rolls-Name _ _) h tt

    pub call : (words : List ℕ) (n : Span) (given : Option (List (Argument Tree))) (b : Option (Block Tree)) (s : Span) → At n → IfThere Arguments given → IfThere Blocked b → Begins xs s → Stood xs (tree.Call words n given b s)
    call words n given b s k all l h = stood _ (Node-F.Call words n given b s) (rolls-Call _ _ _ _ _) h (k, all, l)

    pub yield : (given : Option (List (Argument Tree))) (s : Span) → IfThere Arguments given → Begins xs s → Stood xs (tree.Yield given s)
    yield given s all h = stood _ (Node-F.Yield given s) (rolls-Yield _ _) h all

    pub super : (given : Option (List (Argument Tree))) (s : Span) → IfThere Arguments given → Begins xs s → Stood xs (tree.Super given s)
    super given s all h = stood _ (Node-F.Super given s) (rolls-Super _ _) h all

    pub array : (es : List Tree) (s : Span) → Each Has es → Begins xs s → Stood xs (tree.Array es s)
    array es s all h = stood _ (Node-F.Array es s) (rolls-Array _ _) h all

    pub hash : (ps : List (Pair Tree)) (s : Span) → Each InPair ps → Begins xs s → Stood xs (tree.Hash ps s)
    hash ps s all h = stood _ (Node-F.Hash ps s) (rolls-Hash _ _) h all

    pub parens : (b : Tree) (s : Span) → Has b → Begins xs s → Stood xs (tree.Parens b s)
    parens b s k h = stood _ (Node-F.Parens b s) (rolls-Parens _ _) h k

    pub branches : (word : Test) (c b : Tree) (arms : List (Arm Tree)) (e : Option Tree) (s : Span) → Has c → Has b → Each InArm arms → IfThere Has e → Begins xs s → Stood xs (tree.If word c b arms e s)
    branches word c b arms e s k l all m h = stood _ (Node-F.If word c b arms e s) (rolls-If _ _ _ _ _ _) h (k, l, all, m)

    pub loops : (word : Test) (c b : Tree) (s : Span) → Has c → Has b → Begins xs s → Stood xs (tree.While word c b s)
    loops word c b s k l h = stood _ (Node-F.While word c b s) (rolls-While _ _ _ _) h (k, l)

    pub cases : (t : Option Tree) (arms : List (When Tree)) (e : Option Tree) (s : Span) → IfThere Has t → Each InWhen arms → IfThere Has e → Begins xs s → Stood xs (tree.Case t arms e s)
    cases t arms e s k all m h = stood _ (Node-F.Case t arms e s) (rolls-Case _ _ _ _) h (k, all, m)

    pub begins : (g : Guarded Tree) (s : Span) → InGuarded g → Begins xs s → Stood xs (tree.Begin g s)
    begins g s k h = stood _ (Node-F.Begin g s) (rolls-Begin _ _) h k

    -- ---- declarations

    pub class-of : (path : List PlacedName) (r : Option Reference) (b : Tree) (s : Span) → Has b → Begins xs s → Stood xs (tree.Class path r b s)
    class-of path r b s k h = stood _ (Node-F.Class path r b s) (rolls-Class _ _ _ _) h k

    pub module-of : (path : List PlacedName) (b : Tree) (s : Span) → Has b → Begins xs s → Stood xs (tree.Module path b s)
    module-of path b s k h = stood _ (Node-F.Module path b s) (rolls-Module _ _ _) h k

    pub method : (v : Option Visibility) (own : Bool) (words : List ℕ) (n : Span) (ps : List (Parameter Tree)) (g : Guarded Tree) (s : Span) → At n → Each InParameter ps → InGuarded g → Begins xs s → Stood xs (tree.Def v own words n ps g s)
    method v own words n ps g s k all l h = stood _ (Node-F.Def v own words n ps g s) (rolls-Def _ _ _ _ _ _ _) h (k, all, l)

  -- ---- words and operators in front

  module _ {xs : List Token} (f : Token) (w : Within tokens (f ∷ xs)) where
    pub jump : (word : Jump) → IsRow JUMP_WORDS (shape_of f.kind) word → Stood (f ∷ xs) (tree.Jump word None f.span)
    jump word row = stood w _ (Node-F.Jump word None f.span) (rolls-Jump _ _ _) (begins-at f xs)
        (at-head f (jump_length word) f.span (jump-head (shape_of f.kind) word row) w (begins-at f xs), tt)

    pub jump-with : (word : Jump) (v : Tree) → IsRow JUMP_WORDS (shape_of f.kind) word → Ended (f ∷ xs) v → Stood (f ∷ xs) (tree.Jump word (Some v) (across f.span (span_of v)))
    jump-with word v row a = let b = begins-across (f ∷ xs) f.span (span_of v) (begins-at f xs) a.0 in
        stood w _ (Node-F.Jump word (Some v) (across f.span (span_of v))) (rolls-Jump _ _ _) b
        (at-head f (jump_length word) (across f.span (span_of v)) (jump-head (shape_of f.kind) word row) w b, a.1)

    unary : (operator : Unary) (a : Tree) → IsRow HEADS (shape_of f.kind) 1 → Ended (f ∷ xs) a → Stood (f ∷ xs) (tree.Unary operator a (across f.span (span_of a)))
    unary operator a row k = let b = begins-across (f ∷ xs) f.span (span_of a) (begins-at f xs) k.0 in
        stood w _ (Node-F.Unary operator a (across f.span (span_of a))) (rolls-Unary _ _ _) b (at-head f 1 (across f.span (span_of a)) row w b, k.1)

    pub negated : (a : Tree) → Is shape.Minus f → Ended (f ∷ xs) a → Stood (f ∷ xs) (tree.Unary unary_word.Minus a (across f.span (span_of a)))
    negated a h = unary unary_word.Minus a (minus-head (shape_of f.kind) h)

    pub prefixed : (operator : Unary) (a : Tree) → IsRow PREFIXES (shape_of f.kind) operator → Ended (f ∷ xs) a → Stood (f ∷ xs) (tree.Unary operator a (across f.span (span_of a)))
    prefixed operator a row = unary operator a (prefix-head (shape_of f.kind) operator row)
