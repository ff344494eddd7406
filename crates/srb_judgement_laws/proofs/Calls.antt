-- Calls, blocks, assertions and rows of suffixes keep what was fine, where their parts are, and where the errors of calls stand at what is sent.
use Rattle.std.proofs.Common.{◌≡◌, ℕ, Bool, true, false, List, [], ◌∷◌, length, codes, bytes_eq, if◌then◌else◌, Option, Some, None, refl, subst}
use Rattle.srb_terms.specs.declared.span.Span.{Span}
use Rattle.rb_tree.specs.declared.syntax.Argument.{Argument}
use Rattle.rb_tree.specs.declared.syntax.Argument.TheVariants as argument
use Rattle.rb_tree.specs.declared.syntax.Block.{Block}
use Rattle.rb_tree.specs.declared.syntax.Dot.{Dot}
use Rattle.rb_tree.specs.declared.syntax.Dot.TheVariants as dot
use Rattle.rb_tree.specs.declared.syntax.Suffix.{Suffix}
use Rattle.rb_tree.specs.declared.syntax.Suffix.TheVariants as suffix
use Rattle.rb_views.specs.Calls.{arguments_of}
use Rattle.rb_views.specs.Places.{open_bracket}
use Rattle.rb_grammar.specs.Places.{Each, IfThere}
use Rattle.srb_judgement.specs.Assertions.{Assertion, Let, Cast, Must, Unsafe, RevealType, NoAssertion, named_one, named_two, by_arguments, on_t, is_t, assertion_of, assertion_judged}
use Rattle.srb_judgement.specs.Blocks.{parameter_names, block_state, block_judged, BlockJudged}
use Rattle.srb_judgement.specs.Calls.{Arguments, no_arguments, argument_value, with_argument, judge_arguments, declared_by, sent, answered, types_given, call_with, call_on, untyped_block, call_untyped, safe_call, safely, after_receiver, call_operand, send}
use Rattle.srb_judgement.specs.Chains.{operand_of, operands_of, Chain, up_to, chain_start, called, call_ending, longer, constant_run, with_constant, with_suffix, with_suffixes, chain}
use Rattle.srb_judgement.specs.Errors.{wrong_type, revealed}
use Rattle.srb_judgement.specs.Languages.{Language, Given, Named, GivenBlock, Answer}
use Rattle.srb_judgement.specs.Parts.{Operand, Part, Spelling, NameAlone, NilWord, ConstantPath, Other}
use Rattle.srb_judgement.specs.Pins.{in_block}
use Rattle.srb_judgement.specs.States.{Context, State, Judged, Run, seeing}
use Rattle.srb_judgement.specs.Types.{nil_type}
use Rattle.srb_judgement_laws.specs.Placed.{CallsStandAt}
use Rattle.srb_judgement_laws.proofs.Fine.{IsAt, All, Fine, FineRun, FineOperand, FineArgument, FineEnding, FineGiven, FineBlock, FineSuffix}
use Rattle.srb_judgement_laws.proofs.Runs.{each-append, with-fine, unless-fine, expression-fine}

module _ (P : Span → Type 0) where
  module _ {T : Type 0} where
    abbrev pub IsGivenAt : Given T → Type 0
    IsGivenAt g = P g.span

    abbrev pub IsNamedAt : Named T → Type 0
    IsNamedAt k = P k.span

    -- arguments at fine places, and a fine state after them
    abbrev pub FineArguments : Arguments T → Type 0
    FineArguments a = Each IsGivenAt a.positional × Each IsNamedAt a.keys × Fine P a.state

  module _ {T X : Type 0} where
    abbrev FineAssertion : Assertion T X → Type 0
    FineAssertion (Let e x) = FineOperand P e
    FineAssertion (Cast e x) = FineOperand P e
    FineAssertion (Must e) = FineOperand P e
    FineAssertion (Unsafe e) = FineOperand P e
    FineAssertion (RevealType e) = FineOperand P e
    FineAssertion NoAssertion = Unit {0}

    abbrev pub FineChain : Chain T X → Type 0
    FineChain row = FineOperand P row.it × FineEnding P row.ending

    -- ---- parts as operands

    operand-of-fine : (a : Argument (Part T X)) → FineGiven P a → FineArgument P (operand_of a)
    operand-of-fine (argument.Positional value) h = h.it
    operand-of-fine (argument.Keyword name span value) h = h.it
    operand-of-fine (argument.Block span value) h = h.it

    pub operands-of-fine : (args : List (Argument (Part T X))) → Each (FineGiven P) args → Each (FineArgument P) (operands_of args)
    operands-of-fine [] h = tt
    operands-of-fine (a ∷ args) h = (operand-of-fine a h.0, operands-of-fine args h.1)

    pub given-fine : (args : Option (List (Argument (Part T X)))) → IfThere (Each (FineGiven P)) args → Each (FineArgument P) (operands_of (arguments_of args))
    given-fine None h = tt
    given-fine (Some args) h = operands-of-fine args h

    value-fine : (a : Argument (Operand T X)) → FineArgument P a → FineOperand P (argument_value a)
    value-fine (argument.Positional value) h = h
    value-fine (argument.Keyword name span value) h = h
    value-fine (argument.Block span value) h = h

    -- ---- arguments

    with-argument-fine : (a : Argument (Operand T X)) → FineArgument P a → (positional : List (Given T)) (keys : List (Named T)) (j : Judged T) →
        Each IsGivenAt positional → Each IsNamedAt keys → Fine P j.state → FineArguments (with_argument a positional keys j)
    with-argument-fine (argument.Positional value) h positional keys j hp hk k =
        (each-append IsGivenAt positional (record { ty = j.ty; span = value.span } ∷ []) hp (h.place, tt), hk, k)
    with-argument-fine (argument.Keyword name span value) h positional keys j hp hk k =
        (hp, each-append IsNamedAt keys (record { name = name; ty = j.ty; span = value.span } ∷ []) hk (h.place, tt), k)
    with-argument-fine (argument.Block span value) h positional keys j hp hk k = (hp, hk, k)

    pub arguments-fine : (args : List (Argument (Operand T X))) → Each (FineArgument P) args → (c : Context T) (v : Arguments T) → FineArguments v →
        FineArguments (judge_arguments args c v)
    arguments-fine [] h c v k = k
    arguments-fine (a ∷ args) h c v k =
        let j : Judged T = (argument_value a).judge c v.state in
        arguments-fine args h.1 (seeing (argument_value a).declares c) (with_argument a v.positional v.keys j)
        (with-argument-fine a h.0 v.positional v.keys j k.0 k.1 ((value-fine a h.0).run c v.state k.2))

    -- ---- which assertion a call is

    named-one-fine : (name : List ℕ) (e : Operand T X) → FineOperand P e → FineAssertion (named_one name e)
    named-one-fine name e h = by_test (bytes_eq name (codes "must")) (bytes_eq name (codes "unsafe")) (bytes_eq name (codes "reveal_type"))
      where
        by_test : (a b c : Bool) → FineAssertion (if a then Must e else (if b then Unsafe e else (if c then RevealType e else NoAssertion)))
        by_test true b c = h
        by_test false true c = h
        by_test false false true = h
        by_test false false false = tt

    named-two-fine : (name : List ℕ) (e x : Operand T X) → FineOperand P e → FineAssertion (named_two name e x)
    named-two-fine name e x h = by_test (bytes_eq name (codes "let")) (bytes_eq name (codes "cast"))
      where
        by_test : (a b : Bool) → FineAssertion (if a then Let e x else (if b then Cast e x else NoAssertion))
        by_test true b = h
        by_test false true = h
        by_test false false = tt

    by-arguments-fine : (name : List ℕ) (args : List (Argument (Operand T X))) → Each (FineArgument P) args → FineAssertion (by_arguments name args)
    by-arguments-fine name (argument.Positional e ∷ []) h = named-one-fine name e h.0
    by-arguments-fine name (argument.Positional e ∷ argument.Positional x ∷ []) h = named-two-fine name e x h.0
    by-arguments-fine name _ h = tt

    on-t-fine : (b : Bool) (name : List ℕ) (args : List (Argument (Operand T X))) → Each (FineArgument P) args → FineAssertion (on_t b name args)
    on-t-fine true name args h = by-arguments-fine name args h
    on-t-fine false name args h = tt

module _ {T X : Type 0} (L : Language T X) (P : Span → Type 0) (calls : CallsStandAt P L) where
  -- ---- calls

  answered-fine : (a : Answer T) (breaks : List T) (s : State T) → All P a.errors → Fine P s → Fine P (answered L a breaks s).state
  answered-fine a breaks s h k = each-append (IsAt P) s.errors a.errors k h

  block-fine : (b : Block (Part T X)) → FineBlock P b → (types : List T) (c : Context T) (s : State T) → Fine P s → Fine P (block_judged L b types c s).state
  block-fine b h types c s k = h.it.run (in_block L s.environment (parameter_names b) c) (block_state L b types c s) k

  pub call-with-fine : (b : Option (Block (Part T X))) → IfThere (FineBlock P) b → (receiver : T) (name : List ℕ) (span : Span) → P span →
      (c : Context T) (a : Arguments T) → FineArguments P a → Fine P (call_with L b receiver name span c a).state
  call-with-fine None h receiver name span hs c a k =
      answered-fine (L.call (sent L receiver name span a None)) [] a.state (calls (sent L receiver name span a None) hs k.0 k.1) k.2
  call-with-fine (Some b) h receiver name span hs c a k =
      let j : BlockJudged T = block_judged L b (types_given L receiver name span a (length b.parameters)) c a.state in
      let given : Option (GivenBlock T) = Some (record { names = length b.parameters; ty = j.ty }) in
      answered-fine (L.call (sent L receiver name span a given)) j.breaks j.state (calls (sent L receiver name span a given) hs k.0 k.1)
      (block-fine b h (types_given L receiver name span a (length b.parameters)) c a.state k.2)

  untyped-block-fine : (b : Option (Block (Part T X))) → IfThere (FineBlock P) b → (c : Context T) (s : State T) → Fine P s → Fine P (untyped_block L b c s).state
  untyped-block-fine None h c s k = k
  untyped-block-fine (Some b) h c s k = block-fine b h [] c s k

  module _ (args : List (Argument (Operand T X))) (b : Option (Block (Part T X))) (ha : Each (FineArgument P) args) (hb : IfThere (FineBlock P) b) where
    pub call-on-fine : (receiver : T) (name : List ℕ) (span : Span) → P span → FineRun P (call_on L receiver name span args b)
    call-on-fine receiver name span hs c s k =
        call-with-fine b hb receiver name span hs (seeing (declared_by args) c) (judge_arguments args c (no_arguments s))
        (arguments-fine P args ha c (no_arguments s) (tt, tt, k))

    pub call-untyped-fine : FineRun P (call_untyped L args b)
    call-untyped-fine c s k =
        untyped-block-fine b hb (seeing (declared_by args) c) (judge_arguments args c (no_arguments s)).state (arguments-fine P args ha c (no_arguments s) (tt, tt, k)).2

    safe-call-fine : (over : Bool) (left : T) (name : List ℕ) (span : Span) → P span → FineRun P (safe_call L over left name span args b)
    safe-call-fine true left name span hs c s k = call-untyped-fine c s k
    safe-call-fine false left name span hs c s k = call-on-fine left name span hs c s k

    safely-fine : (a : T) (name : List ℕ) (span : Span) → P span → FineRun P (safely L a name span args b)
    safely-fine a name span hs c s k = safe-call-fine (L.is_never (L.without a (nil_type L))) (L.without a (nil_type L)) name span hs c s k

    after-receiver-fine : (how : Dot) (name : List ℕ) (span : Span) → P span → (c : Context T) (r : Judged T) → Fine P r.state →
        Fine P (after_receiver L how name span args b c r).state
    after-receiver-fine dot.Plain name span hs c r k = call-on-fine r.ty name span hs c r.state k
    after-receiver-fine dot.Safe name span hs c r k = safely-fine r.ty name span hs c r.state k

    call-operand-fine : (o : Operand T X) → FineOperand P o → (how : Dot) (name : List ℕ) (span : Span) → P span → FineRun P (call_operand L o how name span args b)
    call-operand-fine o h how name span hs c s k = after-receiver-fine how name span hs (seeing o.declares c) (o.judge c s) (h.run c s k)

  -- ---- assertions

  assertion-fine : (a : Assertion T X) → FineAssertion P a → (call : Span) → P call → (other : Run T) → FineRun P other → FineRun P (assertion_judged L a call other)
  assertion-fine (Let e x) h call hc other f c s k =
      unless-fine L P (L.is_sub (e.judge c s).ty (L.reads c.scope x.text)) (wrong_type L e.span (L.reads c.scope x.text) (e.judge c s).ty) (e.judge c s).state h.place
      (h.run c s k)
  assertion-fine (Cast e x) h call hc other f c s k = h.run c s k
  assertion-fine (Must e) h call hc other f c s k = h.run c s k
  assertion-fine (Unsafe e) h call hc other f c s k = h.run c s k
  assertion-fine (RevealType e) h call hc other f c s k = with-fine L P (revealed L call (e.judge c s).ty) (e.judge c s).state hc (h.run c s k)
  assertion-fine NoAssertion h call hc other f c s k = f c s k

  pub send-fine : (o : Operand T X) → FineOperand P o → (how : Dot) (name : List ℕ) (span : Span) → P span → (args : List (Argument (Operand T X))) →
      Each (FineArgument P) args → (b : Option (Block (Part T X))) → IfThere (FineBlock P) b → (whole : Span) → P whole →
      FineRun P (send L o how name span args b whole)
  send-fine o h dot.Plain name span hs args ha None hb whole hw =
      assertion-fine (assertion_of o.spelling name args) (on-t-fine P (is_t o.spelling) name args ha) whole hw (call_operand L o dot.Plain name span args None)
      (call-operand-fine args None ha hb o h dot.Plain name span hs)
  send-fine o h dot.Plain name span hs args ha (Some b) hb whole hw = call-operand-fine args (Some b) ha hb o h dot.Plain name span hs
  send-fine o h dot.Safe name span hs args ha b hb whole hw = call-operand-fine args b ha hb o h dot.Safe name span hs

  -- ---- rows of suffixes

  called-fine : (o : Operand T X) → FineOperand P o → (how : Dot) (name : List ℕ) (span : Span) → P span → (args : List (Argument (Operand T X))) →
      Each (FineArgument P) args → (b : Option (Block (Part T X))) → IfThere (FineBlock P) b → (whole : Span) → P whole →
      FineOperand P (called L o how name span args b whole)
  called-fine o h how name span hs args ha b hb whole hw = record {
    place = hw;
    run = expression-fine L P whole (send L o how name span args b whole) hw (send-fine o h how name span hs args ha b hb whole hw);
  }

  call-ending-fine : (o : Operand T X) → FineOperand P o → (how : Dot) (name : List ℕ) (span : Span) → P span →
      (args : Option (List (Argument (Part T X)))) (b : Option (Block (Part T X))) → FineEnding P (call_ending L o how name span args b)
  call-ending-fine o h how name span hs None None = (h, hs)
  call-ending-fine o h how name span hs _ _ = tt

  constant-run-fine : (spelling : Spelling) (o : Operand T X) → FineOperand P o → FineRun P (constant_run L spelling o)
  constant-run-fine (ConstantPath path) o h c s k = k
  constant-run-fine (NameAlone name) o h c s k = h.run c s k
  constant-run-fine NilWord o h c s k = h.run c s k
  constant-run-fine Other o h c s k = h.run c s k

  with-constant-fine : (o : Operand T X) → FineOperand P o → (name : List ℕ) (whole : Span) → P whole → FineOperand P (with_constant L o name whole)
  with-constant-fine o h name whole hw = record {
    place = hw;
    run = expression-fine L P whole (constant_run L (longer L o.spelling name) o) hw (constant-run-fine (longer L o.spelling name) o h);
  }

  with-suffix-fine : (row : Chain T X) (s : Suffix (Part T X)) → FineChain P row → FineSuffix P row.it.span.start s → FineChain P (with_suffix L row s)
  with-suffix-fine row (suffix.Call how name name_span args b span) k h = (
    called-fine row.it k.0 how name name_span h.1 (operands_of (arguments_of args)) (given-fine P args h.2) b h.3 (up_to row.it.span span) h.0,
    call-ending-fine row.it k.0 how name name_span h.1 args b,
  )
  with-suffix-fine row (suffix.Constant name name_span span) k h = (with-constant-fine row.it k.0 name (up_to row.it.span span) h, tt)
  with-suffix-fine row (suffix.Index args span) k h = (
    called-fine row.it k.0 dot.Plain (codes "[]") (open_bracket span) h.1 (operands_of args) (operands-of-fine P args h.2) None tt (up_to row.it.span span) h.0,
    (k.0, operands-of-fine P args h.2, h.1),
  )

  -- each prefix of a row begins where its operand does
  same-start : (row : Chain T X) (s : Suffix (Part T X)) → row.it.span.start ≡ (with_suffix L row s).it.span.start
  same-start row (suffix.Call how name name_span args b span) = refl
  same-start row (suffix.Constant name name_span span) = refl
  same-start row (suffix.Index args span) = refl

  suffixes-fine : (ss : List (Suffix (Part T X))) (row : Chain T X) → FineChain P row → Each (FineSuffix P row.it.span.start) ss → FineChain P (with_suffixes L row ss)
  suffixes-fine [] row k h = k
  suffixes-fine (s ∷ ss) row k h =
      suffixes-fine ss (with_suffix L row s) (with-suffix-fine row s k h.0) (subst (λ n. Each (FineSuffix P n) ss) (same-start row s) h.1)

  pub chain-fine : (o : Operand T X) (ss : List (Suffix (Part T X))) → FineOperand P o → Each (FineSuffix P o.span.start) ss → FineChain P (chain L o ss)
  chain-fine o ss k h = suffixes-fine ss (chain_start L o) (k, tt) h
