-- What a worker did before a round, and what a round adds.
use Rattle.std.proofs.Common.{◌≡◌, ℕ, ◌+◌, ◌-◌, ◌<◌, ◌≤◌, ◌^◌, List, [], ◌∷◌, ◌++◌, length, ap, sym, ◌∙◌, subst, arith, append_assoc, append-nil, length-append}
use Rattle.std.specs.List.{All}
use Rattle.std.proofs.lemmas.List.{length-map, map-append}
use Rattle.std.proofs.lemmas.List.Elements.{All-head, All-push, All-tail}
use Rattle.srb_check.specs.Jobs.{Known}
use Rattle.run_gate.specs.Shows.{SeatView}
use Rattle.run_queues.specs.declared.item.Item.{Item}
use Rattle.run_queues.specs.Handing.{EachIsRight}
use Rattle.run_queues.specs.Showings.{Showing}
use Rattle.run_pool.specs.Found.{IsFoundBy}
use Rattle.run_pool.specs.Working.{file_count, numbers_of}

-- a number that is greater than each of these is at least as great as their count
abbrev pub Climbs : List ℕ → Type 0
Climbs numbers = (n : ℕ) → All (λ m. m < n) numbers → length numbers ≤ n

-- The worker drew files' numbers, and gave items with these numbers.
pub record HasGiven (job : Known) (seat seat' : SeatView) (pass pass' : Showing Known) : Type 0 where
  pub items : List Item
  pub drew : seat'.drawn ≡ seat.drawn ++ numbers_of items
  pub gives : pass'.gave ≡ pass.gave ++ items
  pub files : All (λ n. n < file_count job) (numbers_of items)
  pub climbs : Climbs (numbers_of items)
  pub right : EachIsRight IsFoundBy job items
  pub seat_left : seat'.left + length items ≡ seat.left
  pub pass_left : pass'.left + length items ≡ pass.left
  pub gate : seat'.gate ≡ seat.gate
  pub raised : seat'.raised ≡ seat.raised
  pub queue : pass'.queue ≡ pass.queue
  pub view : pass'.view ≡ pass.view
  pub got : pass'.got ≡ pass.got

module _ {job : Known} {s s' : SeatView} {p p' : Showing Known} where
  -- a worker gave at most as many items as there are files
  pub given_within : (h : HasGiven job s s' p p') → length h.items ≤ file_count job
  given_within h = let n = length-map h.items (λ (i : Item). i.number) in let most = h.climbs (file_count job) h.files in omega arith

  -- so it may draw one more number
  pub seat_has_left : HasGiven job s s' p p' → length s.drawn + file_count job < 2 ^ 32 → 2 ^ 32 ≤ s.left → 0 < s'.left
  seat_has_left h few left = let within = given_within h in let same = h.seat_left in omega arith

  pub few_drawn : HasGiven job s s' p p' → length s.drawn + file_count job < 2 ^ 32 → length s'.drawn < 2 ^ 32
  few_drawn h few =
      let within = given_within h in
      let n = length-map h.items (λ (i : Item). i.number) in
      let all : length s'.drawn ≡ length s.drawn + length (numbers_of h.items) = ap length h.drew ∙ length-append s.drawn (numbers_of h.items) in
      omega arith

  -- and make one more put
  pub pass_has_left : HasGiven job s s' p p' → length s.drawn + file_count job < 2 ^ 32 → 2 ^ 32 ≤ p.left → 0 < p'.left
  pass_has_left h few left = let within = given_within h in let same = h.pass_left in omega arith

  -- what was drawn in the call is what the given items have, and nothing is left
  pub drew_just : (h : HasGiven job s s' p p') → s'.drawn ≡ s.drawn ++ (numbers_of h.items ++ [])
  drew_just h = h.drew ∙ ap (λ ns. s.drawn ++ ns) (sym (append-nil (numbers_of h.items)))

All-last_part : (P : ℕ → Type 0) (xs ys : List ℕ) → All P (xs ++ ys) → All P ys
All-last_part P [] ys all = all
All-last_part P (x ∷ xs) ys all = All-last_part P xs ys (All-tail P x (xs ++ ys) all)

Climbs-push : (xs : List ℕ) (x : ℕ) → Climbs xs → All (λ m. m < x) xs → Climbs (xs ++ x ∷ [])
Climbs-push xs x climbs below n all =
    let last : x < n = All-head (λ m. m < n) x [] (All-last_part (λ m. m < n) xs (x ∷ []) all) in
    let before : length xs ≤ x = climbs x below in
    omega (arith, length-append xs (x ∷ []))

EachIsRight-push : {W : Type 0} (right : W → Item → Type 0) (w : W) (xs : List Item) (x : Item) → EachIsRight right w xs → right w x
    → EachIsRight right w (xs ++ x ∷ [])
EachIsRight-push right w [] x each is = (is, tt)
EachIsRight-push right w (y ∷ xs) x each is = (each.0, EachIsRight-push right w xs x each.1 is)

-- one more round, in which a file was drawn and its item was given
pub gave_one : {job : Known} {s s' s'' : SeatView} {p p' p'' : Showing Known} (n : ℕ) (item : Item) → HasGiven job s s' p p'
    → item.number ≡ n → n < file_count job → IsFoundBy job item → All (λ m. m < n) s'.drawn → 0 < p'.left
    → s''.drawn ≡ s'.drawn ++ n ∷ [] → s''.left + 1 ≡ s'.left → s''.gate ≡ s'.gate → s''.raised ≡ s'.raised
    → p'' ≡ record p' { gave = p'.gave ++ item ∷ []; left = p'.left - 1 }
    → HasGiven job s s'' p p''
gave_one {job} {s} {s'} {s''} {p} {p'} {p''} n item h number file found greater some drew left gate raised put =
    let ns = numbers_of h.items in
    let grown : numbers_of (h.items ++ item ∷ []) ≡ ns ++ n ∷ [] =
    map-append (λ (i : Item). i.number) h.items (item ∷ []) ∙ ap (λ k. ns ++ k ∷ []) number in
    let below : All (λ m. m < n) ns = All-last_part (λ m. m < n) s.drawn ns (subst (λ ds. All (λ m. m < n) ds) h.drew greater) in
    let count = length-append h.items (item ∷ []) in
    record {
      items = h.items ++ item ∷ [];
      drew = drew ∙ ap (λ ds. ds ++ n ∷ []) h.drew ∙ append_assoc s.drawn ns (n ∷ []) ∙ ap (λ ds. s.drawn ++ ds) (sym grown);
      gives = ap (λ (v : Showing Known). v.gave) put ∙ ap (λ is. is ++ item ∷ []) h.gives ∙ append_assoc p.gave h.items (item ∷ []);
      files = subst (λ ds. All (λ m. m < file_count job) ds) (sym grown) (All-push (λ m. m < file_count job) ns n h.files file);
      climbs = subst Climbs (sym grown) (Climbs-push ns n h.climbs below);
      right = EachIsRight-push IsFoundBy job h.items item h.right found;
      seat_left = let before = h.seat_left in omega arith;
      pass_left = let before = h.pass_left in let now = ap (λ (v : Showing Known). v.left) put in omega arith;
      gate = gate ∙ h.gate;
      raised = raised ∙ h.raised;
      queue = ap (λ (v : Showing Known). v.queue) put ∙ h.queue;
      view = ap (λ (v : Showing Known). v.view) put ∙ h.view;
      got = ap (λ (v : Showing Known). v.got) put ∙ h.got;
    }
