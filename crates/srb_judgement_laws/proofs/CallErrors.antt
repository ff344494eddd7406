-- The errors of a call, as a project answers it, stand where its name and its arguments do.
use Rattle.std.proofs.Common.{ℕ, zero, suc, Bool, true, false, if◌then◌else◌, List, [], ◌∷◌, ◌++◌, map, length, take, drop, Option, Some, None}
use Rattle.std.specs.List.{find}
use Rattle.srb_terms.specs.declared.diag.Diag.{Diag}
use Rattle.srb_terms.specs.declared.span.Span.{Span}
use Rattle.srb_terms.specs.declared.ty.Param.{Param}
use Rattle.srb_terms.specs.declared.ty.Ty.{Ty}
use Rattle.srb_shapes.specs.Comparing.{is_sub_of}
use Rattle.srb_shapes.specs.Lineages.{Lineage}
use Rattle.srb_shapes.specs.Parts.{parts_of}
use Rattle.srb_types.specs.Shown.{shown}
use Rattle.srb_members.specs.Members as members
use Rattle.srb_members.specs.Members.{member_of}
use Rattle.srb_members.specs.Views.{Members}
use Rattle.srb_calls.specs.declared.args.Arg.{Arg}
use Rattle.srb_calls.specs.declared.args.Args.{Args}
use Rattle.srb_calls.specs.declared.args.CallEnd.{CallEnd}
use Rattle.srb_calls.specs.declared.args.KeyArg.{KeyArg}
use Rattle.srb_calls.specs.declared.args.Recv.{Recv}
use Rattle.srb_calls.specs.Blocks.{block_type}
use Rattle.srb_calls.specs.Calls.{counted, method_errors, part_errors, with_part, with_parts, no_part, call_of}
use Rattle.srb_calls.specs.Counts.{count_fault, is_keyword}
use Rattle.srb_calls.specs.Letters.{put_in}
use Rattle.srb_calls.specs.Matching.{expected, taken, Taking, all_taken, share, places_taken, key_taken, keys_taken, arguments_taken}
use Rattle.srb_calls.specs.Messages.{diag, missing_method, untyped_receiver, wrong_argument}
use Rattle.srb_calls.specs.Order.{in_shown_order}
use Rattle.rb_grammar.specs.Places.{Each}
use Rattle.srb_judgement.specs.Languages.{Given, Named}
use Rattle.srb_language.specs.Asked.{arg_of, key_of, recv_of, args_of, language_of}
use Rattle.srb_language.specs.Knowledge.{Knowledge, members_of}
use Rattle.srb_judgement_laws.specs.Placed.{CallsStandAt, IsErrorPlace}
use Rattle.srb_judgement_laws.specs.Projects.{CallsOfProjectsStand, ProjectsAreJudgedAtTokens}
use Rattle.srb_judgement_laws.proofs.Fine.{IsAt, All}
use Rattle.srb_judgement_laws.proofs.Places.{judgement_stands}
use Rattle.srb_judgement_laws.proofs.Runs.{each-append}

-- ---- lists

each-take : {A : Type 0} (Q : A → Type 0) (n : ℕ) (xs : List A) → Each Q xs → Each Q (take n xs)
each-take Q zero xs h = tt
each-take Q (suc n) [] h = tt
each-take Q (suc n) (x ∷ xs) h = (h.0, each-take Q n xs h.1)

each-drop : {A : Type 0} (Q : A → Type 0) (n : ℕ) (xs : List A) → Each Q xs → Each Q (drop n xs)
each-drop Q zero xs h = h
each-drop Q (suc n) [] h = tt
each-drop Q (suc n) (x ∷ xs) h = each-drop Q n xs h.1

module _ (P : Span → Type 0) where
  abbrev Errors : List Diag → Type 0
  Errors = All P

  abbrev IsArgAt : Arg → Type 0
  IsArgAt a = P a.span

  abbrev IsKeyAt : KeyArg → Type 0
  IsKeyAt k = P k.span

  one-more : (errors : List Diag) (e : Diag) → P e.span → Errors errors → Errors (errors ++ e ∷ [])
  one-more errors e h k = each-append (IsAt P) errors (e ∷ []) k (h, tt)

  -- ---- arguments

  expected-stand : (L : Lineage) (m p : List ℕ) (want found : Ty) (span : Span) (errors : List Diag) → P span → Errors errors →
      Errors (expected L m p want found span errors)
  expected-stand L m p want found span errors h k = by_test (is_sub_of L found want)
    where
      by_test : (b : Bool) → Errors (if b then errors else errors ++ diag span 7002 (wrong_argument p m (shown want) (shown found)) ∷ [])
      by_test true = k
      by_test false = one-more errors (diag span 7002 (wrong_argument p m (shown want) (shown found))) h k

  taken-stand : (L : Lineage) (part : Ty) (args : Args) (m : List ℕ) (p : Param) (found : Ty) (span : Span) (errors : List Diag) → P span → Errors errors →
      Errors (taken L part args m p found span errors)
  unfolding taken
  taken-stand L part args m p found span errors h k =
      expected-stand L m p.name (put_in L part args.positional (block_type args.block) p.ty) found span errors h k

  module _ (take-one : Taking) (one : (p : Param) (t : Ty) (span : Span) (errors : List Diag) → P span → Errors errors → Errors (take-one p t span errors)) where
    all-stand : (p : Param) (xs : List Arg) (errors : List Diag) → Each IsArgAt xs → Errors errors → Errors (all_taken take-one p xs errors)
    all-stand p [] errors h k = k
    all-stand p (a ∷ xs) errors h k = all-stand p xs (take-one p a.ty a.span errors) h.1 (one p a.ty a.span errors h.0 k)

    places-stand : (ps : List Param) (xs : List Arg) (errors : List Diag) → Each IsArgAt xs → Errors errors → Errors (places_taken take-one ps xs errors)
    places-stand [] xs errors h k = k
    places-stand (p ∷ ps) xs errors h k =
        let n : ℕ = share p.kind (length xs) in
        places-stand ps (drop n xs) (all_taken take-one p (take n xs) errors) (each-drop IsArgAt n xs h) (all-stand p (take n xs) errors (each-take IsArgAt n xs h) k)

    key-stands : (o : Option Param) (a : KeyArg) (errors : List Diag) → P a.span → Errors errors → Errors (key_taken take-one o a errors)
    key-stands None a errors h k = k
    key-stands (Some p) a errors h k = one p a.ty a.span errors h k

    keys-stand : (params : List Param) (xs : List KeyArg) (errors : List Diag) → Each IsKeyAt xs → Errors errors → Errors (keys_taken take-one params xs errors)
    keys-stand params [] errors h k = k
    keys-stand params (a ∷ xs) errors h k =
        keys-stand params xs (key_taken take-one (find (is_keyword a.name) params) a errors) h.1 (key-stands (find (is_keyword a.name) params) a errors h.0 k)

    arguments-stand : (params : List Param) (args : Args) (errors : List Diag) → Each IsArgAt args.positional → Each IsKeyAt args.keys → Errors errors →
        Errors (arguments_taken take-one params args errors)
    arguments-stand params args errors hp hk k =
        keys-stand params args.keys (places_taken take-one params args.positional errors) hk (places-stand params args.positional errors hp k)

  -- ---- a call

  counted-stand : (errors matched : List Diag) (recv : Recv) (o : Option (List ℕ)) → P recv.span → Errors errors → Errors matched → Errors (counted errors matched recv o)
  counted-stand errors matched recv None h k l = l
  counted-stand errors matched recv (Some text) h k l = one-more errors (diag recv.span 7004 text) h k

  module _ (recv : Recv) (args : Args) (hr : P recv.span) (hp : Each IsArgAt args.positional) (hk : Each IsKeyAt args.keys) where
    method-stands : (L : Lineage) (part : Ty) (params : List Param) (errors : List Diag) → Errors errors → Errors (method_errors L part recv args params errors)
    unfolding method_errors
    method-stands L part params errors k =
        counted-stand errors (arguments_taken (taken L part args recv.name) params args errors) recv (count_fault recv.name params args.positional args.keys) hr k
        (arguments-stand (taken L part args recv.name) (taken-stand L part args recv.name) params args errors hp hk k)

    part-stands : (L : Lineage) (part : Ty) (m : members.Member) (errors : List Diag) → Errors errors → Errors (part_errors L part recv args m errors)
    part-stands L part (members.Member.Declared m) errors k = method-stands L part m.params errors k
    part-stands L part (members.Member.Made m) errors k = method-stands L part m.params errors k
    part-stands L part members.Member.Free errors k = one-more errors (diag recv.span 7018 (untyped_receiver recv.name)) hr k
    part-stands L part members.Member.Missing errors k = one-more errors (diag recv.span 7003 (missing_method recv.name (shown part))) hr k

    with-part-stands : (k : Members) (end : CallEnd) (part : Ty) → Errors end.errors → Errors (with_part k recv args end part).errors
    unfolding with_part
    with-part-stands k end part h = part-stands k.lineage part (member_of k recv.name part) end.errors h

    parts-stand : (k : Members) (end : CallEnd) (parts : List Ty) → Errors end.errors → Errors (with_parts k recv args end parts).errors
    parts-stand k end [] h = h
    parts-stand k end (part ∷ parts) h = parts-stand k (with_part k recv args end part) parts (with-part-stands k end part h)

    call-stands : (k : Members) → Errors (call_of k recv args).errors
    unfolding call_of
    call-stands k = parts-stand k (no_part args) (in_shown_order (parts_of recv.ty)) tt

  -- ---- what is sent

  args-at : (xs : List (Given Ty)) → Each (λ (g : Given Ty). P g.span) xs → Each IsArgAt (map arg_of xs)
  args-at [] h = tt
  args-at (x ∷ xs) h = (h.0, args-at xs h.1)

  keys-at : (xs : List (Named Ty)) → Each (λ (n : Named Ty). P n.span) xs → Each IsKeyAt (map key_of xs)
  keys-at [] h = tt
  keys-at (x ∷ xs) h = (h.0, keys-at xs h.1)

  pub calls-stand : (k : Knowledge) → CallsStandAt P (language_of k)
  calls-stand k s hr hp hk = call-stands (recv_of s) (args_of s) hr (args-at s.positional hp) (keys-at s.keys hk) (members_of k)

pub calls_of_projects_stand : CallsOfProjectsStand
calls_of_projects_stand tokens k = calls-stand (IsErrorPlace tokens) k

pub projects_are_judged : ProjectsAreJudgedAtTokens
projects_are_judged tokens k t h = judgement_stands tokens (language_of k) (calls-stand (IsErrorPlace tokens) k) t h
