-- Each step keeps the rule of the queue of results.
use Rattle.std.proofs.Common.{◌≡◌, ◌≢◌, inl, inr, ⊎_elim, ℕ, zero, suc, ◌+◌, ◌-◌, ◌^◌, ◌<◌, ◌≤◌, List, [], ◌∷◌, ◌++◌, length, map, sum_by, set, refl, sym, ap, ◌∙◌, subst, append_assoc, Option, Some, None, arith, length-append}
use Rattle.std.specs.List.Sorted.{IsPermutation}
use Rattle.std.proofs.lemmas.List.{append-nil, nil_from_length, map-append, length-map, set_comm}
use Rattle.std.proofs.lemmas.List.Sums.{sum_by-append, sum_by-cons}
use Rattle.std.proofs.lemmas.Grind.{flat_map-append}
use Rattle.std.proofs.lemmas.List.Sorted.{IsPermutation-sym, IsPermutation-trans, IsPermutation-append_left, IsPermutation-cons, IsPermutation-to_front, IsPermutation-middle, length_permutation}
use mathlib.Core.Option.{some, some-injective, some-ne-none}
use lib.ListN.{get_elem?}
use Rattle.crossbeam_queue.specs.Fifo.{Pushes, Pops, Forks, Merges, Learns, Held}
use Rattle.crossbeam_queue.proofs.Lists.{at_set, at_snoc, set_else}
use Rattle.run_queues.specs.declared.item.Item.{Item}
use Rattle.run_queues.specs.declared.entry.Entry.{Entry}
use Rattle.run_queues.specs.declared.entry.Entry.TheVariants.{View, Found}
use Rattle.run_queues.specs.declared.entry.Stage.TheVariants.{Opening, Telling, Working, Spent}
use Rattle.run_queues.specs.declared.entry.Shown.{Shown}
use Rattle.run_queues.specs.Handing.{opening, telling, working, spent, share, all_gave, all_got, IsRightBy, EachIsRight, ShowsOrIsSpent, Keeps, IsWorking, Hands}
use Rattle.run_queues.specs.Steps.{after_push, Pushed, WasTold, Popped, HeldBeside, kept_half, given_half, joined}
use Rattle.run_queues.specs.Showings.{Showing}
use Rattle.run_queues.specs.Held.{HeldAtAStep, IsWhole}
use Rattle.run_queues.proofs.Gathered.{gathered_same, gathered_more, gathered_less, gathered_whole, sum_set}

only : {A : Type 0} (a b : A) (port : ℕ) → get_elem? (a ∷ []) port ≡ some b → (a ≡ b) × (port ≡ 0)
only a b zero e = (some-injective a b e, refl)
only a b (suc port) e = absurd (some-ne-none b (sym e))

module _ {W : Type 0} where
  abbrev Each : W → List (Shown W) → Type 0
  Each w views = (port : ℕ) (v : Shown W) → get_elem? views port ≡ some v → ShowsOrIsSpent w v

  each_set : (w : W) (views : List (Shown W)) (port : ℕ) (u : Shown W) → ShowsOrIsSpent w u → Each w views → Each w (set views port u)
  each_set w views port u mine all j x e = ⊎_elim (λ (t : (j ≡ port) × (u ≡ x)). subst (ShowsOrIsSpent w) t.1 mine) (λ (t : (j ≢ port) × (get_elem? views j ≡ some x)). all j x t.1) (at_set views port j u x e)

  each_snoc : (w : W) (views : List (Shown W)) (u : Shown W) → ShowsOrIsSpent w u → Each w views → Each w (views ++ u ∷ [])
  each_snoc w views u mine all j x e = ⊎_elim (all j x) (λ (t : u ≡ x). subst (ShowsOrIsSpent w) t mine) (at_snoc views u x j e)

  shows : (w : W) (v : Shown W) → v.stage ≡ Working → ShowsOrIsSpent w v → v.view ≡ Some w
  shows w v stage = ⊎_elim (λ (t : (v.stage ≡ Working) × (v.view ≡ Some w)). t.1) (λ (t : v ≡ spent). let s : v.stage ≡ Spent = ap (λ (z : Shown W). z.stage) t in absurd (cc))

  unopened : (w : W) → ShowsOrIsSpent w opening → ⊥
  unopened w = ⊎_elim (λ (t : (Opening ≡ Working) × (None ≡ Some w)). cc) (λ (t : opening ≡ spent). let s : Opening ≡ Spent = ap (λ (z : Shown W). z.stage) t in cc)

  untold : (w : W) (v : Shown W) → v.stage ≡ Telling → ShowsOrIsSpent w v → ⊥
  untold w v stage = ⊎_elim (λ (t : (v.stage ≡ Working) × (v.view ≡ Some w)). let s : v.stage ≡ Working = t.0 in cc) (λ (t : v ≡ spent). let s : v.stage ≡ Spent = ap (λ (z : Shown W). z.stage) t in cc)

  length_gave : (u : Shown W) → length u.gave ≤ share u
  length_gave u = omega arith

  length_got : (u : Shown W) → length u.got ≤ share u
  length_got u = omega arith

module _ {W : Type 0} (right : W → Item → Type 0) where
  each_right_snoc : (w : W) (items : List Item) (item : Item) → EachIsRight right w items → right w item → EachIsRight right w (items ++ item ∷ [])
  each_right_snoc w [] item all one = (one, tt)
  each_right_snoc w (x ∷ xs) item all one = (all.0, each_right_snoc w xs item all.1 one)

  right_by : (w : W) (view : Option W) (item : Item) → view ≡ Some w → right w item → IsRightBy right view item
  right_by w view item e r = subst (λ (z : Option W). IsRightBy right z item) (sym e) r

  right_of : (w : W) (view : Option W) (item : Item) → view ≡ Some w → IsRightBy right view item → right w item
  right_of w view item e r = subst (λ (z : Option W). IsRightBy right z item) e r

  -- where a pass works, the queue holds items
  works : (entries : List (Entry W)) (views : List (Shown W)) (port : ℕ) (v : Shown W) → v.stage ≡ Working → Hands right entries views → get_elem? views port ≡ some v → IsWorking right entries views
  works entries views port v stage (inl h) at =
      let e = (only opening v port (subst (λ (l : List (Shown W)). get_elem? l port ≡ some v) h.1 at)).0 in
      let s : Opening ≡ v.stage = ap (λ (z : Shown W). z.stage) e in
      absurd (cc)
  works entries views port v stage (inr (inl h)) at =
      let e = (only (telling h.0) v port (subst (λ (l : List (Shown W)). get_elem? l port ≡ some v) h.2 at)).0 in
      let s : Telling ≡ v.stage = ap (λ (z : Shown W). z.stage) e in
      absurd (cc)
  works entries views port v stage (inr (inr h)) at = h

  put_keeps : (w : W) (content : List Item) (views : List (Shown W)) (port : ℕ) (v : Shown W) (item : Item) → v.view ≡ Some w → 0 < v.left → right w item → get_elem? views port ≡ some v → Keeps right w content views
      → Keeps right w (content ++ item ∷ []) (set views port (working v.view (v.gave ++ item ∷ []) v.got (v.left - 1)))
  put_keeps w content views port v item view left is at k = let u : Shown W = working v.view (v.gave ++ item ∷ []) v.got (v.left - 1) in
      let gave : List Item = all_gave (set views port u) in let got : List Item = all_got views in
      let more : IsPermutation gave (item ∷ all_gave views) = gathered_more (λ (z : Shown W). z.gave) views port v u (item ∷ []) at refl in
      let a : IsPermutation gave (item ∷ (got ++ content)) = IsPermutation-trans gave (item ∷ all_gave views) (item ∷ (got ++ content)) more (IsPermutation-cons item (all_gave views) (got ++ content) k.as_often) in
      let b : IsPermutation gave ((got ++ content) ++ item ∷ []) = IsPermutation-trans gave (item ∷ (got ++ content)) ((got ++ content) ++ item ∷ []) a (IsPermutation-sym ((got ++ content) ++ item ∷ []) (item ∷ (got ++ content)) (IsPermutation-to_front (got ++ content) item)) in
      let same : all_got (set views port u) ≡ got = gathered_same (λ (z : Shown W). z.got) views port v u at refl in
      let c : (got ++ content) ++ item ∷ [] ≡ all_got (set views port u) ++ (content ++ item ∷ []) = append_assoc got content (item ∷ []) ∙ ap (λ (z : List Item). z ++ (content ++ item ∷ [])) (sym same) in
      let total = sum_set share views port v u at in
      let long = length-append v.gave (item ∷ []) in
      let before = k.shares in
      record {
        same_view = each_set w views port u (inl (refl, view)) k.same_view;
        as_often = subst (λ (z : List Item). IsPermutation gave z) c b;
        each_is_right = each_right_snoc w content item k.each_is_right is;
        shares = omega arith;
      }

  take_keeps : (w : W) (content : List Item) (views : List (Shown W)) (port : ℕ) (v : Shown W) (item : Item) → v.view ≡ Some w → 0 < v.left → get_elem? views port ≡ some v → Keeps right w (item ∷ content) views
      → Keeps right w content (set views port (working v.view v.gave (v.got ++ item ∷ []) (v.left - 1)))
  take_keeps w content views port v item view left at k = let u : Shown W = working v.view v.gave (v.got ++ item ∷ []) (v.left - 1) in
      let gave : List Item = all_gave views in let got : List Item = all_got views in let now : List Item = all_got (set views port u) in
      let a : IsPermutation gave ((item ∷ got) ++ content) = IsPermutation-trans gave (got ++ item ∷ content) (item ∷ (got ++ content)) k.as_often (IsPermutation-middle got item content) in
      let more : IsPermutation now (item ∷ got) = gathered_more (λ (z : Shown W). z.got) views port v u (item ∷ []) at refl in
      let b : IsPermutation gave (now ++ content) = IsPermutation-trans gave ((item ∷ got) ++ content) (now ++ content) a (IsPermutation-append_left content (item ∷ got) now (IsPermutation-sym now (item ∷ got) more)) in
      let same : all_gave (set views port u) ≡ gave = gathered_same (λ (z : Shown W). z.gave) views port v u at refl in
      let total = sum_set share views port v u at in
      let long = length-append v.got (item ∷ []) in
      let before = k.shares in
      record {
        same_view = each_set w views port u (inl (refl, view)) k.same_view;
        as_often = subst (λ (z : List Item). IsPermutation z (now ++ content)) (sym same) b;
        each_is_right = k.each_is_right.1;
        shares = omega arith;
      }

  split_keeps : (w : W) (content : List Item) (views : List (Shown W)) (port : ℕ) (v : Shown W) → v.view ≡ Some w → get_elem? views port ≡ some v → Keeps right w content views
      → Keeps right w content (set views port (kept_half v) ++ given_half v ∷ [])
  split_keeps w content views port v view at k = let l : Shown W = kept_half v in let r : Shown W = given_half v in let vs : List (Shown W) = set views port l in
      let gave : all_gave (vs ++ r ∷ []) ≡ all_gave views = flat_map-append (λ (z : Shown W). z.gave) vs (r ∷ []) ∙ append-nil (all_gave vs) ∙ gathered_same (λ (z : Shown W). z.gave) views port v l at refl in
      let got : all_got (vs ++ r ∷ []) ≡ all_got views = flat_map-append (λ (z : Shown W). z.got) vs (r ∷ []) ∙ append-nil (all_got vs) ∙ gathered_same (λ (z : Shown W). z.got) views port v l at refl in
      let total = sum_set share views port v l at in
      let both = sum_by-append share vs (r ∷ []) in
      let one = sum_by-cons share r [] in
      let before = k.shares in
      record {
        same_view = each_snoc w vs r (inl (refl, view)) (each_set w views port l (inl (refl, view)) k.same_view);
        as_often = subst (λ (z : List Item × List Item). IsPermutation z.0 (z.1 ++ content)) (λ i. (sym gave i, sym got i)) k.as_often;
        each_is_right = k.each_is_right;
        shares = omega arith;
      }

  -- the other pass ends, and then this one takes in what it showed
  join_keeps : (w : W) (content : List Item) (views : List (Shown W)) (port : ℕ) (v : Shown W) (other : ℕ) (u : Shown W) → v.view ≡ Some w → get_elem? views other ≡ some u → get_elem? (set views other spent) port ≡ some v
      → Keeps right w content views → Keeps right w content (set (set views other spent) port (joined v u))
  join_keeps w content views port v other u view there at k = let us : List (Shown W) = set views other spent in let both : Shown W = joined v u in let vs : List (Shown W) = set us port both in
      let gave : IsPermutation (all_gave vs) (all_gave views) = IsPermutation-trans (all_gave vs) (u.gave ++ all_gave us) (all_gave views) (gathered_more (λ (z : Shown W). z.gave) us port v both u.gave at refl) (gathered_less (λ (z : Shown W). z.gave) views other u spent there refl) in
      let got : IsPermutation (all_got vs) (all_got views) = IsPermutation-trans (all_got vs) (u.got ++ all_got us) (all_got views) (gathered_more (λ (z : Shown W). z.got) us port v both u.got at refl) (gathered_less (λ (z : Shown W). z.got) views other u spent there refl) in
      let a : IsPermutation (all_gave vs) (all_got views ++ content) = IsPermutation-trans (all_gave vs) (all_gave views) (all_got views ++ content) gave k.as_often in
      let first = sum_set share views other u spent there in
      let second = sum_set share us port v both at in
      let long_gave = length-append v.gave u.gave in
      let long_got = length-append v.got u.got in
      let before = k.shares in
      record {
        same_view = each_set w us port both (inl (refl, view)) (each_set w views other spent (inr refl) k.same_view);
        as_often = IsPermutation-trans (all_gave vs) (all_got views ++ content) (all_got vs ++ content) a (IsPermutation-append_left content (all_got views) (all_got vs) (IsPermutation-sym (all_got vs) (all_got views) got));
        each_is_right = k.each_is_right;
        shares = omega arith;
      }

  pub puts : (n port : ℕ) (v : Shown W) (item : Item) → v.stage ≡ Working → 0 < v.left → IsRightBy right v.view item → Pushes (Hands right) n port v (Found item) (Pushed v (Found item))
  puts n port v item stage left is items views room rule at = let k = works items views port v stage rule at in
      let view : v.view ≡ Some k.0 = shows k.0 v stage (k.3.same_view port v at) in (
        after_push v (Found item),
        inr (inr (k.0, k.1 ++ item ∷ [], ap (λ (l : List (Entry W)). l ++ Found item ∷ []) k.2 ∙ sym (map-append Found k.1 (item ∷ [])), put_keeps k.0 k.1 views port v item view left (right_of k.0 v.view item view is) at k.3)),
        refl,
      )

  take_step : (port : ℕ) (v : Shown W) (x : Entry W) (items : List (Entry W)) (views : List (Shown W)) (w : W) (content : List Item) → v.stage ≡ Working → 0 < v.left → x ∷ items ≡ map Found content → Keeps right w content views → get_elem? views port ≡ some v
      → (u : Shown W) × Hands right items (set views port u) × Popped right v x u
  take_step port v x items views w [] stage left e k at = absurd (cc)
  take_step port v x items views w (y ∷ ys) stage left e k at = let first : Found y ≡ x = cc in let rest : items ≡ map Found ys = cc in
      let view : v.view ≡ Some w = shows w v stage (k.same_view port v at) in let u : Shown W = working v.view v.gave (v.got ++ y ∷ []) (v.left - 1) in (
        u,
        inr (inr (w, ys, rest, take_keeps w ys views port v y view left at k)),
        subst (λ (z : Entry W). Popped right v z u) first (right_by w v.view y view k.each_is_right.0, refl),
      )

  pub takes : (port : ℕ) (v : Shown W) → v.stage ≡ Working → 0 < v.left → Pops (Hands right) port v (Popped right v)
  takes port v stage left x items views rule at = let k = works (x ∷ items) views port v stage rule at in take_step port v x items views k.0 k.1 stage left k.2 k.3 at

  pub learns : (port : ℕ) (v : Shown W) → Learns (Hands right) port v (HeldBeside right v)
  learns port v items views rule at = (views, port, rule, at)

  pub splits : (port : ℕ) (v : Shown W) → v.stage ≡ Working → Forks (Hands right) port v (kept_half v) (given_half v)
  splits port v stage items views rule at = let k = works items views port v stage rule at in
      inr (inr (k.0, k.1, k.2, split_keeps k.0 k.1 views port v (shows k.0 v stage (k.3.same_view port v at)) at k.3))

  pub joins : (port : ℕ) (v : Shown W) (other : ℕ) (u : Shown W) → v.stage ≡ Working → Merges (Hands right) port v other u (joined v u) spent
  joins port v other u stage items views rule at apart there = let k = works items views port v stage rule at in
      let was : get_elem? views other ≡ some u = ⊎_elim (λ (t : (other ≡ port) × (joined v u ≡ u)). absurd (apart t.0)) (λ (t : (other ≢ port) × (get_elem? views other ≡ some u)). t.1) (at_set views port other (joined v u) u there) in
      let still : get_elem? (set views other spent) port ≡ some v = set_else views other port spent (λ e. apart (sym e)) ∙ at in
      let turned = set_comm views port other (joined v u) spent (λ e. apart (sym e)) in
      inr (inr (k.0, k.1, k.2, subst (Keeps right k.0 k.1) (sym turned) (join_keeps k.0 k.1 views port v other u (shows k.0 v stage (k.3.same_view port v at)) was still k.3)))

  pub begins : Hands right [] (opening ∷ [])
  begins = inl (refl, refl)

  told : (w : W) → Keeps right w [] (working (Some w) [] [] (2 ^ 63) ∷ [])
  told w = let u : Shown W = working (Some w) [] [] (2 ^ 63) in record {
    same_view = λ port v at. subst (ShowsOrIsSpent w) (only u v port at).0 (inl (refl, refl));
    as_often = record { moves = []; below = tt; is = refl };
    each_is_right = tt;
    shares = refl;
  }

  pub tells : (n port : ℕ) (w : W) → Pushes (Hands right) n port opening (View w) (Pushed opening (View w))
  tells n port w items views room (inl h) at = let e = only opening opening port (subst (λ (l : List (Shown W)). get_elem? l port ≡ some opening) h.1 at) in (
    telling w,
    inr (inl (w, ap (λ (l : List (Entry W)). l ++ View w ∷ []) h.0, subst (λ (y : List (Shown W) × ℕ). set y.0 y.1 (telling w) ≡ telling w ∷ []) (λ i. (sym h.1 i, sym e.1 i)) refl)),
    refl,
  )
  tells n port w items views room (inr (inl h)) at = let e = (only (telling h.0) opening port (subst (λ (l : List (Shown W)). get_elem? l port ≡ some opening) h.2 at)).0 in
      let s : Telling ≡ Opening = ap (λ (z : Shown W). z.stage) e in
      absurd (cc)
  tells n port w items views room (inr (inr h)) at = absurd (unopened h.0 (h.3.same_view port opening at))

  hears_step : (port : ℕ) (v : Shown W) (x : Entry W) (items : List (Entry W)) (views : List (Shown W)) (w : W) → x ∷ items ≡ View w ∷ [] → views ≡ telling w ∷ [] → get_elem? views port ≡ some v
      → (u : Shown W) × Hands right items (set views port u) × WasTold v x u
  hears_step port v x items views w e is at = let o = only (telling w) v port (subst (λ (l : List (Shown W)). get_elem? l port ≡ some v) is at) in
      let none : items ≡ [] = cc in let u : Shown W = working v.view [] [] (2 ^ 63) in
      let alone : set views port u ≡ u ∷ [] = subst (λ (y : List (Shown W) × ℕ). set y.0 y.1 u ≡ u ∷ []) (λ i. (sym is i, sym o.1 i)) refl in
      let now : Keeps right w [] (u ∷ []) = subst (λ (z : Shown W). Keeps right w [] (working z.view [] [] (2 ^ 63) ∷ [])) o.0 (told w) in (
        u,
        inr (inr (w, [], none, subst (Keeps right w []) (sym alone) now)),
        refl,
      )

  pub hears : (port : ℕ) (v : Shown W) → v.stage ≡ Telling → Pops (Hands right) port v (WasTold v)
  hears port v stage x items views (inl h) at = absurd (cc)
  hears port v stage x items views (inr (inl h)) at = hears_step port v x items views h.0 h.1 h.2 at
  hears port v stage x items views (inr (inr h)) at = absurd (untold h.0 v stage (h.3.same_view port v at))

  -- what a full push and an empty pop tell
  pub held : (n : ℕ) (v : Shown W) (pass : Showing W) → v.stage ≡ Working → (v.view ≡ pass.view) × (v.gave ≡ pass.gave) × (v.got ≡ pass.got) × (v.left ≡ pass.left) → Held n (HeldBeside right v) → HeldAtAStep right n pass
  held n v pass stage same h = let k = works h.0 h.2.0 h.2.1 v stage h.2.2 h.2.3 in
      let shown_so : v ≡ working pass.view pass.gave pass.got pass.left = λ i. record { stage = stage i; view = same.0 i; gave = same.1 i; got = same.2 i; left = same.3 i } in
      record {
        view = k.0;
        content = k.1;
        views = h.2.0;
        port = h.2.1;
        holds = sym (length-map k.1 Found) ∙ ap length (sym k.2) ∙ h.1;
        kept = k.3;
        shows = h.2.3 ∙ ap some shown_so;
      }

  -- what it gave in all are, each as often, what it got in all and what the queue held
  pub whole : (n : ℕ) (pass : Showing W) (h : HeldAtAStep right n pass) → IsWhole pass → IsPermutation pass.gave (pass.got ++ h.content)
  whole n pass h all = let v : Shown W = working pass.view pass.gave pass.got pass.left in
      let total : sum_by share h.views ≡ share v = h.kept.shares ∙ sym all in
      let gave : all_gave h.views ≡ pass.gave = gathered_whole (λ (z : Shown W). z.gave) share length_gave h.views h.port v h.shows total in
      let got : all_got h.views ≡ pass.got = gathered_whole (λ (z : Shown W). z.got) share length_got h.views h.port v h.shows total in
      subst (λ (z : List Item × List Item). IsPermutation z.0 (z.1 ++ h.content)) (λ i. (gave i, got i)) h.kept.as_often

  pub got_all : (pass : Showing W) → HeldAtAStep right 0 pass → IsWhole pass → IsPermutation pass.got pass.gave
  got_all pass h all = let e : pass.got ++ h.content ≡ pass.got = ap (λ (z : List Item). pass.got ++ z) (nil_from_length h.content h.holds) ∙ append-nil pass.got in
      IsPermutation-sym pass.gave pass.got (subst (λ (z : List Item). IsPermutation pass.gave z) e (whole 0 pass h all))

  pub gave_more : (n : ℕ) (pass : Showing W) → HeldAtAStep right n pass → IsWhole pass → length pass.gave ≡ length pass.got + n
  gave_more n pass h all = let e = length_permutation pass.gave (pass.got ++ h.content) (whole n pass h all) in let a = length-append pass.got h.content in let b = h.holds in omega arith
