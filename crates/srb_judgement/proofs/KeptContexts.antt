-- What a context of the code stands for: further variables become visible, loops and blocks are entered.
use Rattle.std.proofs.Common.{◌≡◌, ℕ, Bool, true, false, ◌||◌, List, [], ◌∷◌, ◌++◌, length, take, bytes_eq, if◌then◌else◌, Option, Some, None, MatchOption, refl, sym, ap, ◌∙◌, append-nil, append_assoc}
use Rattle.std.specs.Cmp.Lexicographic.{bytes_decides, nat_list_eq_equiv}
use Rattle.std.specs.List.{list_any}
use Rattle.std.specs.Option.{option_flatten}
use Rattle.srb_terms.specs.NameSets.{has_name}
use Rattle.srb_terms.specs.declared.ty.Ty.{Ty}
use Rattle.srb_judgement.specs.declared.contexts.Context as kept
use Rattle.srb_judgement.specs.declared.contexts.Layer as layer
use Rattle.srb_judgement.specs.Environments.{Environment, Live, Dead, Silent}
use Rattle.srb_judgement.specs.Kept.{sees, own_pin, or_before, last_pin, pin_in, seen_context, pin_at, hidden_or, PinsAll}
use Rattle.srb_judgement.specs.Languages.{Language}
use Rattle.srb_judgement.specs.Pins.{pinned_by, hidden_by, in_loop, in_block}
use Rattle.srb_judgement.specs.States.{Context, seeing}
use Rattle.srb_judgement.specs.Steps.{HiddenAfter, PinnedAfter}
use Rattle.srb_judgement.proofs.SeenNames.{has_name-append}
use Rattle.srb_judgement.proofs.Steps.{hidden_all}

-- ---- what is different

-- nothing but what is visible, in loops and blocks, and the pins
pub record Same (old new : kept.Context) : Type 0 where
  pub self_type : new.self_type ≡ old.self_type
  pub scope : new.scope ≡ old.scope
  pub owner : new.owner ≡ old.owner
  pub meta : new.meta ≡ old.meta
  pub result : new.result ≡ old.result

seen-by : (names : List (List ℕ)) (old new : kept.Context) → Same old new → new.inside ≡ old.inside → new.looping ≡ old.looping →
    new.pins ≡ old.pins → ((name : List ℕ) → sees new name ≡ (has_name name names || sees old name)) →
    seen_context new ≡ seeing names (seen_context old)
seen-by names old new s i l p v = λ j. record {
  self_type = s.self_type j;
  scope = s.scope j;
  owner = s.owner j;
  meta = s.meta j;
  result = s.result j;
  inside = i j;
  looping = l j;
  pins = λ name. pin_in (p j) name;
  visible = λ name. v name j;
}

-- ---- going on and on

or-swap : (a b c : Bool) → (b || (a || c)) ≡ ((a || b) || c)
or-swap true true c = refl
or-swap true false c = refl
or-swap false true c = refl
or-swap false false c = refl

-- names that become visible one after the other
pub seeing-both : (names more : List (List ℕ)) (c : Context Ty) → seeing more (seeing names c) ≡ seeing (names ++ more) c
seeing-both names more c = λ j. record c {
  visible = λ name.
      (or-swap (has_name name names) (has_name name more) (c.visible name)
      ∙ ap (λ b. b || c.visible name) (sym (has_name-append name names more))) j;
}

-- ---- pins

last-push : (so_far : Option (Option Ty)) (layers : List layer.Layer) (l : layer.Layer) (name : List ℕ) →
    last_pin so_far (layers ++ l ∷ []) name ≡ or_before (own_pin l name) (last_pin so_far layers name)
last-push so_far [] l name = refl
last-push so_far (k ∷ layers) l name = last-push (or_before (own_pin k name) so_far) layers l name

abbrev over : Option (Option Ty) → Option Ty → Option Ty
over (Some pin) rest = pin
over None rest = rest

flatten-over : (own before : Option (Option Ty)) → option_flatten (or_before own before) ≡ over own (option_flatten before)
flatten-over (Some pin) before = refl
flatten-over None before = refl

pin_in-push : (layers : List layer.Layer) (l : layer.Layer) (name : List ℕ) → pin_in (layers ++ l ∷ []) name ≡ over (own_pin l name) (pin_in layers name)
pin_in-push layers l name = ap option_flatten (last-push None layers l name) ∙ flatten-over (own_pin l name) (last_pin None layers name)

over-hidden : {X : Type 0} (L : Language Ty X) (b : Bool) (own : Option (Option Ty)) (rest : Option Ty) → over (hidden_or b own) rest ≡ hidden_by L b (over own rest)
over-hidden L true own rest = refl
over-hidden L false own rest = refl

-- ---- one more visible variable

if-false-or : (b c : Bool) → (if b then true else c) ≡ ((if b then true else false) || c)
if-false-or true c = refl
if-false-or false c = refl

pub seen-more : (n : List ℕ) (old new : kept.Context) → Same old new → new.inside ≡ old.inside → new.looping ≡ old.looping →
    new.pins ≡ old.pins → ((other : List ℕ) → has_name other new.visible ≡ (if bytes_eq n other then true else has_name other old.visible)) →
    seen_context new ≡ seeing (n ∷ []) (seen_context old)
seen-more n old new s i l p v = seen-by (n ∷ []) old new s i l p (λ name. v name ∙ if-false-or (bytes_eq n name) (sees old name))

-- a variable that is visible becomes visible
pub seen-again : (n : List ℕ) (x : kept.Context) → has_name n x.visible ≡ true → seen_context x ≡ seeing (n ∷ []) (seen_context x)
seen-again n x h = λ j. record (seen_context x) { visible = λ name. by name (bytes_eq n name) refl j }
  where
    by : (name : List ℕ) (b : Bool) → bytes_eq n name ≡ b → sees x name ≡ ((if b then true else false) || sees x name)
    by name true e = ap (λ m. has_name m x.visible) (sym ((bytes_decides n name).0 e)) ∙ h
    by name false e = refl

-- ---- loops and blocks

-- the same but for a further layer of pins, and what else is known of a loop or block
pub record Entered (old new : kept.Context) (l : layer.Layer) : Type 0 where
  pub same : Same old new
  pub inside : new.inside ≡ true
  pub pins : new.pins ≡ old.pins ++ l ∷ []

module _ {X : Type 0} (L : Language Ty X) where
  over-pinned : (entry : Environment Ty) (b : Bool) (name : List ℕ) (rest : Option Ty) → over (pin_at L entry b name) rest ≡ pinned_by L entry b name rest
  over-pinned (Live rows) true name rest = refl
  over-pinned (Live rows) false name rest = refl
  over-pinned Dead b name rest = refl
  over-pinned Silent b name rest = refl

  pub loop-same : (entry : Environment Ty) (old new : kept.Context) (l : layer.Layer) → Entered old new l → new.looping ≡ true →
      new.visible ≡ old.visible → PinsAll L entry old.visible l → seen_context new ≡ in_loop L entry (seen_context old)
  loop-same entry old new l e o v p = λ j. record {
    self_type = e.same.self_type j;
    scope = e.same.scope j;
    owner = e.same.owner j;
    meta = e.same.meta j;
    result = e.same.result j;
    inside = e.inside j;
    looping = o j;
    pins = λ name. (pins name) j;
    visible = λ name. has_name name (v j);
  }
    where
      pins : (name : List ℕ) → pin_in new.pins name ≡ pinned_by L entry (sees old name) name (pin_in old.pins name)
      pins name =
          ap (λ layers. pin_in layers name) e.pins ∙ pin_in-push old.pins l name
          ∙ ap (λ own. over own (pin_in old.pins name)) (p name)
          ∙ over-pinned entry (sees old name) name (pin_in old.pins name)

  pub block-same : (entry : Environment Ty) (parameters : List (List ℕ)) (old mid new : kept.Context) (k l : layer.Layer) →
      Entered old mid l → mid.looping ≡ old.looping → mid.visible ≡ old.visible → PinsAll L entry old.visible k →
      HiddenAfter parameters k l → seen_context new ≡ seeing parameters (seen_context mid) → seen_context new ≡ in_block L entry parameters (seen_context old)
  block-same entry parameters old mid new k l e o v p h g = g ∙ (λ j. record {
    self_type = e.same.self_type j;
    scope = e.same.scope j;
    owner = e.same.owner j;
    meta = e.same.meta j;
    result = e.same.result j;
    inside = e.inside j;
    looping = o j;
    pins = λ name. (pins name) j;
    visible = λ name. has_name name parameters || has_name name (v j);
  })
    where
      pins : (name : List ℕ) → pin_in mid.pins name ≡ hidden_by L (has_name name parameters) (pinned_by L entry (sees old name) name (pin_in old.pins name))
      pins name =
          ap (λ layers. pin_in layers name) e.pins ∙ pin_in-push old.pins l name
          ∙ ap (λ own. over own (pin_in old.pins name)) (h name ∙ hidden_all parameters name (own_pin k name))
          ∙ over-hidden L (has_name name parameters) (own_pin k name) (pin_in old.pins name)
          ∙ ap (λ own. hidden_by L (has_name name parameters) (over own (pin_in old.pins name))) (p name)
          ∙ ap (λ pin. hidden_by L (has_name name parameters) pin) (over-pinned entry (sees old name) name (pin_in old.pins name))

-- ---- the context of a body

-- nothing is pinned and nothing visible
pub new-same : (x : kept.Context) (c : Context Ty) → x.self_type ≡ c.self_type → x.scope ≡ c.scope → x.owner ≡ c.owner → x.meta ≡ c.meta →
    x.result ≡ c.result → x.inside ≡ c.inside → x.looping ≡ c.looping → x.pins ≡ [] → x.visible ≡ [] →
    ((name : List ℕ) → c.pins name ≡ None) → ((name : List ℕ) → c.visible name ≡ false) → seen_context x ≡ c
new-same x c t s o m r i l p v q w = λ j. record {
  self_type = t j;
  scope = s j;
  owner = o j;
  meta = m j;
  result = r j;
  inside = i j;
  looping = l j;
  pins = λ name. (ap (λ layers. pin_in layers name) p ∙ sym (q name)) j;
  visible = λ name. (ap (λ names. has_name name names) v ∙ sym (w name)) j;
}
