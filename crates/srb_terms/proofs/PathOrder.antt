-- The order of the entries of a map from paths: where a path is found, what is put there, and what stands there then.
use Rattle.std.proofs.Common.{◌≡◌, ℕ, zero, suc, Bool, true, false, cond, List, [], ◌∷◌, ◌++◌, length, get_or, take, drop, slice_set, insert, ◌<◌, ◌≤◌, Option, Some, None, Result, Ok, Err, OnOk, OnErr, IfOk, IfErr, bytes_eq, refl, sym, ap, ◌∙◌, subst, arith}
use Rattle.std.proofs.lemmas.Bool.{true≢false}
use Rattle.std.proofs.lemmas.List.{set_split, take-append-drop}
use Rattle.std.proofs.lemmas.Option.{slice_get_cases, slice_get_read, same_Some}
use Rattle.std.proofs.lemmas.Slice.Eq.{bytes_eq-Decides}
use Rattle.std.specs.Cmp.Lexicographic.{nat_list_cmp_total, texts_ties}
use Rattle.std.specs.List.{slice_get, remove}
use Rattle.std.specs.List.Sorted.{IsBinarySearchResult, IsSearchInRange, IsNonDecreasingBy}
use Rattle.std.specs.Ordering.{is_eq, match_ordering, ordering_index, ordering_reverse}
use Rattle.std.specs.declared.cmp.Ordering.{Ordering}
use Rattle.std.specs.declared.cmp.Ordering.TheVariants.{Less, Equal, Greater}
use Rattle.srb_terms.specs.PathMaps.{IsAfterAll, IsBeforeAll, IsEntryOf, IsOrdered, IsPlaceOf, path_cmp, put_value, set_value, value_at}

-- ---- two and three paths
pub turned : (p q : List ℕ) (o : Ordering) → path_cmp p q ≡ o → path_cmp q p ≡ ordering_reverse o
turned p q o is = nat_list_cmp_total.antisymm q p ∙ ap ordering_reverse is

pub same_path : (p q : List ℕ) → path_cmp p q ≡ Equal → p ≡ q
same_path p q is = (bytes_eq-Decides p q).0 (texts_ties p q ∙ ap is_eq is)

tie : (o : Ordering) → o ≡ ordering_reverse o → o ≡ Equal
tie Less e = cc
tie Equal e = refl
tie Greater e = cc

pub self_cmp : (p : List ℕ) → path_cmp p p ≡ Equal
self_cmp p = tie (path_cmp p p) (nat_list_cmp_total.antisymm p p)

less_apart : (p q : List ℕ) → path_cmp p q ≡ Less → bytes_eq p q ≡ false
less_apart p q is = texts_ties p q ∙ ap is_eq is

greater_apart : (p q : List ℕ) → path_cmp p q ≡ Greater → bytes_eq p q ≡ false
greater_apart p q is = texts_ties p q ∙ ap is_eq is

before_higher : {A : Type 0} (p : List ℕ) (e : List ℕ × A) (es : List (List ℕ × A)) → path_cmp p e.0 ≡ Less → IsBeforeAll e.0 es → IsBeforeAll p es
before_higher p e [] lower all = tt
before_higher p e (next ∷ es) lower all =
    (nat_list_cmp_total.trans p e.0 next.0 lower all.0, before_higher p e es lower all.1)

-- ---- parts of a list
IsBeforeAll-back : {A : Type 0} (p : List ℕ) (xs ys : List (List ℕ × A)) → IsBeforeAll p (xs ++ ys) → IsBeforeAll p ys
IsBeforeAll-back p [] ys all = all
IsBeforeAll-back p (x ∷ xs) ys all = IsBeforeAll-back p xs ys all.1

IsBeforeAll-front : {A : Type 0} (p : List ℕ) (xs ys : List (List ℕ × A)) → IsBeforeAll p (xs ++ ys) → IsBeforeAll p xs
IsBeforeAll-front p [] ys all = tt
IsBeforeAll-front p (x ∷ xs) ys all = (all.0, IsBeforeAll-front p xs ys all.1)

IsBeforeAll-append : {A : Type 0} (p : List ℕ) (xs ys : List (List ℕ × A)) → IsBeforeAll p xs → IsBeforeAll p ys → IsBeforeAll p (xs ++ ys)
IsBeforeAll-append p [] ys front back = back
IsBeforeAll-append p (x ∷ xs) ys front back = (front.0, IsBeforeAll-append p xs ys front.1 back)

-- the path lies between what stands before and what stands after
pub record Between {A : Type 0} (p : List ℕ) (front back : List (List ℕ × A)) : Type 0 where
  pub after : IsAfterAll p front
  pub before : IsBeforeAll p back

between : {A : Type 0} (front : List (List ℕ × A)) (e : List ℕ × A) (back : List (List ℕ × A)) → IsOrdered (front ++ e ∷ back) → Between e.0 front back
between [] e back ordered = record { after = tt; before = ordered.0 }
between (x ∷ front) e back ordered =
    let rest = between front e back ordered.1 in
    let less : path_cmp x.0 e.0 ≡ Less = (IsBeforeAll-back x.0 front (e ∷ back) ordered.0).0 in
    record { after = (turned x.0 e.0 Less less, rest.after); before = rest.before }

split_at : {A : Type 0} (es : List A) (i : ℕ) (e : A) → slice_get es i ≡ Some e → es ≡ take i es ++ e ∷ drop (suc i) es
split_at [] i e is = cc
split_at (x ∷ es) zero e is = ap (λ y. y ∷ es) (same_Some x e is)
split_at (x ∷ es) (suc i) e is = ap (λ rest. x ∷ rest) (split_at es i e is)

pub entry_within : {A : Type 0} (es : List A) (i : ℕ) (e : A) → slice_get es i ≡ Some e → i < length es
entry_within [] i e is = cc
entry_within (x ∷ es) zero e is = omega arith
entry_within (x ∷ es) (suc i) e is = omega (arith, entry_within es i e is)

pub entry_between : {A : Type 0} (es : List (List ℕ × A)) (i : ℕ) (e : List ℕ × A) → IsOrdered es → slice_get es i ≡ Some e
    → Between e.0 (take i es) (drop (suc i) es)
entry_between es i e ordered is =
    between (take i es) e (drop (suc i) es) (subst IsOrdered (split_at es i e is) ordered)

-- ---- the search
pub found_entry : {A : Type 0} (p : List ℕ) (es : List (List ℕ × A)) (found : Result ℕ ℕ) → IsSearchInRange found (length es)
    → IsBinarySearchResult (λ (e : List ℕ × A). path_cmp e.0 p) es found → IfOk found (IsEntryOf p es)
found_entry p es (Err i) range search_is = tt
found_entry p es (Ok i) range search_is =
    Rattle.std.proofs.Common.⊎_elim
    (λ c. (c.0.1, c.2 ∙ ap (λ q. Some (q, c.0.1)) (same_path c.0.0 p (ap (λ e. path_cmp e.0 p) (sym c.3) ∙ search_is c.0))))
    (λ c. absurd (omega (arith, range, c.0))) (slice_get_cases es i).1

lower : (p q r : List ℕ) (o : Ordering) → path_cmp q r ≡ Less → path_cmp r p ≡ o → ordering_index (path_cmp q p) ≤ ordering_index o
lower p q r Less less is =
    let first : path_cmp q p ≡ Less = nat_list_cmp_total.trans q r p less is in
    rw first (omega arith)
lower p q r Equal less is =
    let first : path_cmp q p ≡ Less = ap (path_cmp q) (sym (same_path r p is)) ∙ less in
    rw first (omega arith)
lower p q r Greater less is = most (path_cmp q p)
  where
    most : (o : Ordering) → ordering_index o ≤ 2
    most Less = omega arith
    most Equal = omega arith
    most Greater = omega arith

before_at : {A : Type 0} (p : List ℕ) (es : List (List ℕ × A)) (j : ℕ) (d : List ℕ × A) → IsBeforeAll p es → j < length es
    → path_cmp p (get_or es j d).0 ≡ Less
before_at p [] j d all within = absurd (omega (arith, within))
before_at p (e ∷ es) zero d all within = all.0
before_at p (e ∷ es) (suc j) d all within = before_at p es j d all.1 (omega (arith, within))

entries_rise : {A : Type 0} (p : List ℕ) (es : List (List ℕ × A)) → IsOrdered es
    → IsNonDecreasingBy (λ (e : List ℕ × A). ordering_index (path_cmp e.0 p)) es
entries_rise p [] ordered i j d le within = absurd (omega (arith, within))
entries_rise p (e ∷ es) ordered zero zero d le within = omega arith
entries_rise p (e ∷ es) ordered zero (suc j) d le within =
    lower p e.0 (get_or es j d).0 (path_cmp (get_or es j d).0 p) (before_at e.0 es j d ordered.0 (omega (arith, within))) refl
entries_rise p (e ∷ es) ordered (suc i) zero d le within = absurd (omega (arith, le))
entries_rise p (e ∷ es) ordered (suc i) (suc j) d le within = entries_rise p es ordered.1 i j d (omega (arith, le)) (omega (arith, within))

after_taken : {A : Type 0} (p : List ℕ) (es : List (List ℕ × A)) (i : ℕ) → i ≤ length es
    → ((k : ℕ) (d : List ℕ × A) → k < i → path_cmp (get_or es k d).0 p ≡ Less) → IsAfterAll p (take i es)
after_taken p es zero within each = tt
after_taken p [] (suc i) within each = absurd (omega (arith, within))
after_taken p (e ∷ es) (suc i) within each =
    (turned e.0 p Less (each zero e (omega arith)), after_taken p es i (omega (arith, within)) (λ k d less. each (suc k) d (omega (arith, less))))

before_dropped : {A : Type 0} (p : List ℕ) (es : List (List ℕ × A)) (i : ℕ) → i ≤ length es
    → ((k : ℕ) (d : List ℕ × A) → i ≤ k → k < length es → path_cmp (get_or es k d).0 p ≡ Greater) → IsBeforeAll p (drop i es)
before_dropped p [] zero within each = tt
before_dropped p (e ∷ es) zero within each = (
  turned e.0 p Greater (each zero e (omega arith) (omega arith)),
  before_dropped p es zero (omega arith) (λ k d le less. each (suc k) d (omega arith) (omega (arith, less))),
)
before_dropped p [] (suc i) within each = absurd (omega (arith, within))
before_dropped p (e ∷ es) (suc i) within each =
    before_dropped p es i (omega (arith, within)) (λ k d le less. each (suc k) d (omega (arith, le)) (omega (arith, less)))

pub absent_place : {A : Type 0} (p : List ℕ) (es : List (List ℕ × A)) (found : Result ℕ ℕ) → IsOrdered es → IsSearchInRange found (length es)
    → IsBinarySearchResult (λ (e : List ℕ × A). path_cmp e.0 p) es found → IfErr found (IsPlaceOf p es)
absent_place p es (Ok i) ordered range search_is = tt
absent_place p es (Err i) ordered range search_is =
    let point = search_is (entries_rise p es ordered) in
    record {
      within = range;
      after = after_taken p es i range (λ k d less. point.0 k d (omega arith) less);
      before = before_dropped p es i range (λ k d le less. point.1 k d le less);
    }

-- ---- what stands at the path
value_at-before : {A : Type 0} (p : List ℕ) (es : List (List ℕ × A)) → IsBeforeAll p es → value_at p es ≡ None
value_at-before p [] all = refl
value_at-before p (e ∷ es) all =
    ap (λ b. cond b (Some e.1) (value_at p es)) (less_apart p e.0 all.0) ∙ value_at-before p es all.1

value_at-after : {A : Type 0} (p : List ℕ) (front back : List (List ℕ × A)) → IsAfterAll p front → value_at p (front ++ back) ≡ value_at p back
value_at-after p [] back all = refl
value_at-after p (e ∷ front) back all =
    ap (λ b. cond b (Some e.1) (value_at p (front ++ back))) (greater_apart p e.0 all.0) ∙ value_at-after p front back all.1

pub value_at-here : {A : Type 0} (p : List ℕ) (es : List (List ℕ × A)) (i : ℕ) (v : A) → IsOrdered es → slice_get es i ≡ Some (p, v) → value_at p es ≡ Some v
value_at-here p es i v ordered is =
    ap (value_at p) (split_at es i (p, v) is)
    ∙ value_at-after p (take i es) ((p, v) ∷ drop (suc i) es) (entry_between es i (p, v) ordered is).after
    ∙ ap (λ b. cond b (Some v) (value_at p (drop (suc i) es))) (texts_ties p p ∙ ap is_eq (self_cmp p))

pub value_at-absent : {A : Type 0} (p : List ℕ) (es : List (List ℕ × A)) (i : ℕ) → IsPlaceOf p es i → value_at p es ≡ None
value_at-absent p es i place =
    ap (value_at p) (sym (take-append-drop i es)) ∙ value_at-after p (take i es) (drop i es) place.after
    ∙ value_at-before p (drop i es) place.before

-- ---- where a value goes
pub put_value-after : {A : Type 0} (p : List ℕ) (v : A) (front back : List (List ℕ × A)) → IsAfterAll p front
    → put_value p v (front ++ back) ≡ front ++ put_value p v back
put_value-after p v [] back all = refl
put_value-after p v (e ∷ front) back all =
    ap (λ o. match_ordering o ((p, v) ∷ e ∷ (front ++ back)) ((p, v) ∷ (front ++ back)) (e ∷ put_value p v (front ++ back))) all.0
    ∙ ap (λ es. e ∷ es) (put_value-after p v front back all.1)

put_value-before : {A : Type 0} (p : List ℕ) (v : A) (es : List (List ℕ × A)) → IsBeforeAll p es → put_value p v es ≡ (p, v) ∷ es
put_value-before p v [] all = refl
put_value-before p v (e ∷ es) all =
    ap (λ o. match_ordering o ((p, v) ∷ e ∷ es) ((p, v) ∷ es) (e ∷ put_value p v es)) all.0

pub put_value-there : {A : Type 0} (p : List ℕ) (v : A) (es : List (List ℕ × A)) (i : ℕ) → IsPlaceOf p es i → put_value p v es ≡ insert es i (p, v)
put_value-there p v es i place =
    ap (put_value p v) (sym (take-append-drop i es)) ∙ put_value-after p v (take i es) (drop i es) place.after
    ∙ ap (λ rest. take i es ++ rest) (put_value-before p v (drop i es) place.before)

pub put_value-here : {A : Type 0} (p : List ℕ) (was v : A) (es : List (List ℕ × A)) (i : ℕ) → IsOrdered es → slice_get es i ≡ Some (p, was)
    → put_value p v es ≡ slice_set es i (p, v)
put_value-here p was v es i ordered is =
    ap (put_value p v) (split_at es i (p, was) is)
    ∙ put_value-after p v (take i es) ((p, was) ∷ drop (suc i) es) (entry_between es i (p, was) ordered is).after
    ∙ ap (λ o. take i es ++ match_ordering o ((p, v) ∷ (p, was) ∷ drop (suc i) es) ((p, v) ∷ drop (suc i) es) ((p, was) ∷ put_value p v (drop (suc i) es))) (self_cmp p)
    ∙ sym (set_split es i (p, v) (entry_within es i (p, was) is))

-- ---- the order stays
IsBeforeAll-put_value : {A : Type 0} (q p : List ℕ) (v : A) (es : List (List ℕ × A)) → path_cmp q p ≡ Less → IsBeforeAll q es → IsBeforeAll q (put_value p v es)
IsBeforeAll-put_value q p v [] less all = (less, tt)
IsBeforeAll-put_value q p v (e ∷ es) less all =
    by (path_cmp p e.0) (IsBeforeAll-put_value q p v es less all.1)
  where
    by : (o : Ordering) → IsBeforeAll q (put_value p v es)
        → IsBeforeAll q (match_ordering o ((p, v) ∷ e ∷ es) ((p, v) ∷ es) (e ∷ put_value p v es))
    by Less rest = (less, all)
    by Equal rest = (less, all.1)
    by Greater rest = (all.0, rest)

pub IsOrdered-put_value : {A : Type 0} (p : List ℕ) (v : A) (es : List (List ℕ × A)) → IsOrdered es → IsOrdered (put_value p v es)
IsOrdered-put_value p v [] ordered = (tt, tt)
IsOrdered-put_value p v (e ∷ es) ordered = by (path_cmp p e.0) refl (IsOrdered-put_value p v es ordered.1)
  where
    by : (o : Ordering) → path_cmp p e.0 ≡ o → IsOrdered (put_value p v es)
        → IsOrdered (match_ordering o ((p, v) ∷ e ∷ es) ((p, v) ∷ es) (e ∷ put_value p v es))
    by Less is rest = ((is, before_higher p e es is ordered.0), ordered)
    by Equal is rest = (subst (λ q. IsBeforeAll q es) (sym (same_path p e.0 is)) ordered.0, ordered.1)
    by Greater is rest = (IsBeforeAll-put_value e.0 p v es (turned p e.0 Greater is) ordered.0, rest)

pub IsOrdered-insert : {A : Type 0} (p : List ℕ) (v : A) (es : List (List ℕ × A)) (i : ℕ) → IsPlaceOf p es i → IsOrdered es → IsOrdered (insert es i (p, v))
IsOrdered-insert p v es i place ordered = subst IsOrdered (put_value-there p v es i place) (IsOrdered-put_value p v es ordered)

IsOrdered-without : {A : Type 0} (front : List (List ℕ × A)) (e : List ℕ × A) (back : List (List ℕ × A)) → IsOrdered (front ++ e ∷ back) → IsOrdered (front ++ back)
IsOrdered-without [] e back ordered = ordered.1
IsOrdered-without (x ∷ front) e back ordered = (
  IsBeforeAll-append x.0 front back (IsBeforeAll-front x.0 front (e ∷ back) ordered.0) (IsBeforeAll-back x.0 front (e ∷ back) ordered.0).1,
  IsOrdered-without front e back ordered.1,
)

IsOrdered-remove : {A : Type 0} (es : List (List ℕ × A)) (i : ℕ) (e : List ℕ × A) → slice_get es i ≡ Some e → IsOrdered es → IsOrdered (remove es i)
IsOrdered-remove es i e is ordered =
    IsOrdered-without (take i es) e (drop (suc i) es) (subst IsOrdered (split_at es i e is) ordered)

an_entry_at : {A : Type 0} (es : List (List ℕ × A)) (i : ℕ) → i < length es → (e : List ℕ × A) × (slice_get es i ≡ Some e)
an_entry_at [] i within = absurd (omega (arith, within))
an_entry_at (x ∷ es) zero within = (x, refl)
an_entry_at (x ∷ es) (suc i) within = an_entry_at es i (omega (arith, within))

pub IsOrdered-removed : {A : Type 0} (es : List (List ℕ × A)) (i : ℕ) → i < length es → IsOrdered es → IsOrdered (remove es i)
IsOrdered-removed es i within ordered = let at = an_entry_at es i within in IsOrdered-remove es i at.0 at.1 ordered

-- a value changes in its place
IsBeforeAll-set_value : {A : Type 0} (p : List ℕ) (es : List (List ℕ × A)) (i : ℕ) (v : A) → IsBeforeAll p es → IsBeforeAll p (set_value es i v)
IsBeforeAll-set_value p [] i v all = tt
IsBeforeAll-set_value p (e ∷ es) zero v all = all
IsBeforeAll-set_value p (e ∷ es) (suc i) v all = (all.0, IsBeforeAll-set_value p es i v all.1)

pub IsOrdered-set_value : {A : Type 0} (es : List (List ℕ × A)) (i : ℕ) (v : A) → IsOrdered es → IsOrdered (set_value es i v)
IsOrdered-set_value [] i v ordered = tt
IsOrdered-set_value (e ∷ es) zero v ordered = ordered
IsOrdered-set_value (e ∷ es) (suc i) v ordered = (IsBeforeAll-set_value e.0 es i v ordered.0, IsOrdered-set_value es i v ordered.1)

pub set_value-is : {A : Type 0} (es : List (List ℕ × A)) (i : ℕ) (e : List ℕ × A) (v : A) → slice_get es i ≡ Some e → set_value es i v ≡ slice_set es i (e.0, v)
set_value-is [] i e v is = cc
set_value-is (x ∷ es) zero e v is = ap (λ (y : _). (y.0, v) ∷ es) (same_Some x e is)
set_value-is (x ∷ es) (suc i) e v is = ap (λ rest. x ∷ rest) (set_value-is es i e v is)

-- ---- what the functions do to the entries behind the map
pub entry_read : {A : Type 0} (es : List A) (i : ℕ) (e : A) → i < length es → e ≡ get_or es i e → slice_get es i ≡ Some e
entry_read es i e within is = slice_get_read es (length es) i e refl within is

pub put_in_place : {A : Type 0} (p q : List ℕ) (v : A) (es entries : List (List ℕ × A)) (i : ℕ) → q ≡ p → es ≡ entries → IsOrdered es
    → IsEntryOf q entries i → slice_set es i (p, v) ≡ put_value p v entries
put_in_place {A} p q v es entries i same list ordered found =
    let here : slice_get es i ≡ Some (p, found.0) = subst (λ xs. slice_get xs i ≡ Some (p, found.0)) (sym list) (found.1 ∙ ap (λ r. Some (r, found.0)) same) in
    sym (put_value-here p found.0 v es i ordered here) ∙ ap (put_value p v) list

pub place_in : {A : Type 0} (p q : List ℕ) (es entries : List (List ℕ × A)) (i : ℕ) → q ≡ p → es ≡ entries → IsPlaceOf q entries i → IsPlaceOf p es i
place_in p q es entries i same list place = subst (λ r. IsPlaceOf r es i) same (subst (λ xs. IsPlaceOf q xs i) (sym list) place)

pub put_between : {A : Type 0} (p q : List ℕ) (v : A) (es entries : List (List ℕ × A)) (i : ℕ) → q ≡ p → es ≡ entries
    → IsPlaceOf q entries i → insert es i (p, v) ≡ put_value p v entries
put_between p q v es entries i same list place =
    sym (put_value-there p v es i (place_in p q es entries i same list place)) ∙ ap (put_value p v) list

pub inserted_keeps_order : {A : Type 0} (b : Bool) (p : List ℕ) (v : A) (new es : List (List ℕ × A)) (i : ℕ)
    → new ≡ cond b (insert es i (p, v)) es → IsPlaceOf p es i → IsOrdered es → IsOrdered new
inserted_keeps_order true p v new es i is place ordered = subst IsOrdered (sym is) (IsOrdered-insert p v es i place ordered)
inserted_keeps_order false p v new es i is place ordered = subst IsOrdered (sym is) ordered

-- ---- what stands at each path after a value is put
cond_same : {X : Type 0} (b : Bool) (x y z : X) → cond b x (cond b y z) ≡ cond b x z
cond_same true x y z = refl
cond_same false x y z = refl

cond_apart : {X : Type 0} (a b : Bool) (x y z w : X) → (b ≡ true → a ≡ false) → w ≡ cond a x z → cond b y w ≡ cond a x (cond b y z)
cond_apart true true x y z w apart is = absurd (true≢false (apart refl))
cond_apart true false x y z w apart is = is
cond_apart false true x y z w apart is = refl
cond_apart false false x y z w apart is = is

pub value_at-put_value : {A : Type 0} (q p : List ℕ) (v : A) (es : List (List ℕ × A))
    → value_at q (put_value p v es) ≡ cond (bytes_eq q p) (Some v) (value_at q es)
value_at-put_value q p v [] = refl
value_at-put_value {A} q p v (e ∷ es) = by (path_cmp p e.0) refl (value_at-put_value q p v es)
  where
    by : (o : Ordering) → path_cmp p e.0 ≡ o → value_at q (put_value p v es) ≡ cond (bytes_eq q p) (Some v) (value_at q es)
        → value_at q (match_ordering o ((p, v) ∷ e ∷ es) ((p, v) ∷ es) (e ∷ put_value p v es))
        ≡ cond (bytes_eq q p) (Some v) (cond (bytes_eq q e.0) (Some e.1) (value_at q es))
    by Less is rest = refl
    by Equal is rest =
        subst (λ r. cond (bytes_eq q p) (Some v) (value_at q es) ≡ cond (bytes_eq q p) (Some v) (cond (bytes_eq q r) (Some e.1) (value_at q es)))
        (same_path p e.0 is) (sym (cond_same (bytes_eq q p) _ _ _))
    by Greater is rest =
        cond_apart (bytes_eq q p) (bytes_eq q e.0) (Some v) (Some e.1) (value_at q es) _
        (λ same. subst (λ r. bytes_eq r p ≡ false) (sym ((bytes_eq-Decides q e.0).0 same)) (less_apart e.0 p (turned p e.0 Greater is))) rest

-- ---- a value is put, or there was no memory
pub put_tells_each_path : {A E : Type 0} (r : Result (Unit {0}) E) (p : List ℕ) (v w : A) (new before old : List (List ℕ × A))
    → w ≡ v → OnOk r (new ≡ put_value p w before) → before ≡ old
    → OnOk r ((other : List ℕ) → value_at other new ≡ cond (bytes_eq other p) (Some v) (value_at other old))
put_tells_each_path (Ok done) p v w new before old value ok same =
    λ other. ap (value_at other) (ok ∙ ap (λ u. put_value p u before) value) ∙ value_at-put_value other p v before
    ∙ ap (λ es. cond (bytes_eq other p) (Some v) (value_at other es)) same
put_tells_each_path (Err e) p v w new before old value ok same = tt
