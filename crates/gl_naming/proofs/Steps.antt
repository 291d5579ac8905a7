-- What an update does to a position, a node, an item's source and what goes, with other names.
use Rattle.std.proofs.Common.{◌≡◌, ◌<◌, ◌≤◌, ◌+◌, ℕ, List, [], ◌∷◌, ◌++◌, map, Bool, true, false, true≢false, ◌||◌, Option, Some, None, cond, refl, sym, ap, ap₂, ◌∙◌, subst, arith, inl, inr}
use Rattle.std.specs.Prelude.{if◌then◌else◌, nat_eq, filter}
use Rattle.std.proofs.lemmas.Bool.Decides.{same_from_decides}
use Rattle.gl_base.specs.Texts.{Text}
use Rattle.gl_value.specs.Value.{same, text_of}
use Rattle.gl_value.specs.Owners.{with_owners}
use Rattle.gl_value.proofs.Owners.{rules_leave_owners, same_leaves_owners}
use Rattle.gl_meaning.specs.Path.{Path, V, path_eq}
use Rattle.gl_meaning.specs.Scope.{Source, cell, item_value, item_index, Pair, sources_of}
use Rattle.gl_meaning.specs.Eval.{values_in}
use Rattle.gl_meaning.specs.Parts.{attribute_value}
use Rattle.gl_meaning.proofs.Equal.{both_left, both_right, both_true, path_means, path_itself, text_itself, text_means}
use Rattle.gl_plain.specs.Ids.{a_ref, Id, id_eq, ref, node, modifier_id, hit, occurs}
use Rattle.gl_plain.specs.State.{any_of, Form, constant_form, source_form, property_form, call_form, joined_form, all_form, row, content, instance_row, block_row, modifier_row, Content, element_content, text_content, comment_content, Thing, State, pair_of, put_thing, touch, source_eq, held_value, form_value, note_evaluated, note_updated, dropped}
use Rattle.gl_plain.specs.Naming.{by_number, dropped_as}
use Rattle.gl_plain.specs.Binding.{first_value}
use Rattle.gl_plain.specs.Reads.{reads, IdsBelow, ReadsLower}
use Rattle.gl_plain.specs.Live.{AttrSpot, ModSpot, times_attrs, times_mods}
use Rattle.gl_plain.specs.Renew.{form_ids, spot_ids, spot_pairs, last_of, is_stale, evaluate, reread, renew_text, changed_attr, renew_attrs, refreshed, renew_mods, give}
use Rattle.gl_plain.specs.Tags.{values_from, named_with}
use Rattle.gl_plain.proofs.Moves.{id_case, IdCase, hit_self}
use Rattle.gl_plain.proofs.Syncs.{path-Decides}
use Rattle.gl_naming.specs.Renamed.{pair_with, form_with, thing_with, there_with, installed_with, state_with}
use Rattle.gl_naming.specs.Numbered.{number, NumberedThing, NoneCounted, Unlisted}
use Rattle.gl_naming.proofs.Low.{Low, low_join, low_last, low_pair, low_pairs, Whole}
use Rattle.gl_naming.proofs.Pairs.{ids_same, sources_to, values_to}
use Rattle.gl_naming.proofs.Bound.{any_map, pairs_im}
use Rattle.gl_naming.proofs.Tagged.{attribute_same, first_on, firsts_on, from_on, named_on}
use Rattle.gl_naming.proofs.Later.{Later}

-- another thing for a reference
put_has : (P : ℕ → Option Thing → Type 0) (st : State) (r : ℕ) (x : Thing) → P r (Some x) → (q : ℕ) → P q (st.look (ref q)) → P q ((put_thing (ref r) x st).look (ref q))
put_has P st r x k q h = by (id_case (ref q) (ref r)) where
  by : IdCase (ref q) (ref r) → P q (if id_eq (ref q) (ref r) then Some x else st.look (ref q))
  by (inl e) = subst (λ b. P q (if b then Some x else st.look (ref q))) (sym e.0) (subst (λ j. P j (Some x)) (sym (ap (λ i. i.num) e.1)) k)
  by (inr e) = subst (λ b. P q (if b then Some x else st.look (ref q))) (sym e) h

-- equal sources
pub source_same : (y x : Source) → source_eq y x ≡ true → y ≡ x
source_same (cell p a) (cell q b) e = ap₂ cell (path_means p q (both_left _ _ e)) (text_means a b (both_right (path_eq p q) _ e))
source_same (item_value p) (item_value q) e = ap item_value (path_means p q e)
source_same (item_index p) (item_index q) e = ap item_index (path_means p q e)
source_same (cell p a) (item_value q) e = absurd (true≢false (sym e))
source_same (cell p a) (item_index q) e = absurd (true≢false (sym e))
source_same (item_value p) (cell q b) e = absurd (true≢false (sym e))
source_same (item_value p) (item_index q) e = absurd (true≢false (sym e))
source_same (item_index p) (cell q b) e = absurd (true≢false (sym e))
source_same (item_index p) (item_value q) e = absurd (true≢false (sym e))

pub source_itself : (x : Source) → source_eq x x ≡ true
source_itself (cell p a) = both_true _ _ (path_itself p) (text_itself a)
source_itself (item_value p) = path_itself p
source_itself (item_index p) = path_itself p

-- the modifiers that are listed
none_less : (c d : Id → ℕ) → ((q : Id) → d q ≤ c q) → (xs : List ℕ) → NoneCounted c xs → NoneCounted d xs
none_less c d le [] h = tt
none_less c d le (m ∷ ms) h = (let i = h.0 in let k = le (modifier_id m) in omega (arith, i, k), none_less c d le ms h.1)

none_filter : (c : Id → ℕ) (xs : List ℕ) → NoneCounted c xs → filter (λ m. nat_eq (c (modifier_id m)) 0) xs ≡ xs
none_filter c [] h = refl
none_filter c (m ∷ ms) h = ap₂ (λ b ys. cond b (m ∷ ys) ys) (ap (λ n. nat_eq n 0) h.0) (none_filter c ms h.1)

none_join : (c : Id → ℕ) (xs : List ℕ) (m : ℕ) → NoneCounted c xs → c (modifier_id m) ≡ 0 → NoneCounted c (xs ++ m ∷ [])
none_join c [] m h e = (e, tt)
none_join c (x ∷ xs) m h e = (h.0, none_join c xs m h.1 e)

abbrev pub Hot : Type 0
Hot = Source → Bool

-- f and g give other names one-to-one; references that were there have numbers below n0.
module _ (f : Path → Path) (g : Source → Source) (once : (o p : Path) → f o ≡ f p → o ≡ p) (apart : (x y : Source) → g x ≡ g y → x ≡ y) (n0 : ℕ) where
  abbrev pub im : Hot → State → State
  im hot st = state_with f g hot st

  -- a reference that was there reads lower ones, and such sources as were there
  abbrev OldThing : ℕ → Option Thing → Type 0
  OldThing r t = ReadsLower r t × NumberedThing n0 r t

  -- Of the sources of references that were there, the same are touched by paths.
  pub record Near (hot : Hot) (st : State) : Type 0 where
    pub next : n0 ≤ st.next a_ref
    pub rows : (r : ℕ) → r < n0 → OldThing r (st.look (ref r))
    pub warm : (k : ℕ) → k < n0 → hot (g (number k)) ≡ st.touched (number k)
    pub whole : Whole st

  pub near_later : (hot : Hot) (st st' : State) → Near hot st → Later st st' → Near hot st'
  near_later hot st st' h l = record {
    next = let i = h.next in let k = l.more (ref 0) in omega (arith, i, k);
    rows = λ r lt. subst (OldThing r) (sym (l.rows (ref r) (let i = h.next in omega (arith, i, lt)))) (h.rows r lt);
    warm = λ k lt. h.warm k lt ∙ sym (l.warm k (let i = h.next in omega (arith, i, lt)));
    whole = l.own h.whole;
  }

  -- a part of what was there: each id once, and no modifier of it is listed yet
  pub record Own (c : Id → ℕ) (st : State) : Type 0 where
    pub single : (q : Id) → c q ≤ 1
    pub old : (q : Id) → st.next q.kind ≤ q.num → c q ≡ 0
    pub low : (r : ℕ) → n0 ≤ r → c (ref r) ≡ 0
    pub lists : Unlisted c st

  -- a step on a part: what stands beside it isn't listed for it
  pub record Goes (a : Id → ℕ) (st st' : State) : Type 0 where
    pub more : (q : Id) → st.next q.kind ≤ st'.next q.kind
    pub lists : (c : Id → ℕ) → ((q : Id) → a q + c q ≤ 1) → ((q : Id) → st.next q.kind ≤ q.num → c q ≡ 0) → Unlisted c st → Unlisted c st'

  pub own_part : (c d : Id → ℕ) (st : State) → ((q : Id) → d q ≤ c q) → Own c st → Own d st
  own_part c d st le o = record {
    single = λ q. let i = o.single q in let k = le q in omega (arith, i, k);
    old = λ q w. let i = o.old q w in let k = le q in omega (arith, i, k);
    low = λ r w. let i = o.low r w in let k = le (ref r) in omega (arith, i, k);
    lists = (none_less c d le st.installs o.lists.0, none_less c d le st.updates o.lists.1);
  }

  -- what stands beside a part, after it went
  pub own_next : (c a b : Id → ℕ) (st st1 : State) → ((q : Id) → a q + b q ≤ c q) → Own c st → Goes a st st1 → Own b st1
  own_next c a b st st1 le o h =
      let ob = own_part c b st (λ q. let k = le q in omega (arith, k)) o in
      record {
        single = ob.single;
        old = λ q w. ob.old q (let i = h.more q in omega (arith, i, w));
        low = ob.low;
        lists = h.lists b (λ q. let i = o.single q in let k = le q in omega (arith, i, k)) ob.old ob.lists;
      }

  pub goes_then : (c a b : Id → ℕ) (st st1 st2 : State) → ((q : Id) → a q + b q ≤ c q) → Goes a st st1 → Goes b st1 st2 → Goes c st st2
  goes_then c a b st st1 st2 le h k = record {
    more = λ q. let i = h.more q in let j = k.more q in omega (arith, i, j);
    lists = λ d w o u.
        k.lists d (λ q. let i = w q in let j = le q in omega (arith, i, j)) (λ q z. o q (let i = h.more q in omega (arith, i, z)))
        (h.lists d (λ q. let i = w q in let j = le q in omega (arith, i, j)) o u);
  }

  pub goes_more : (c a : Id → ℕ) (st st' : State) → ((q : Id) → a q ≤ c q) → Goes a st st' → Goes c st st'
  goes_more c a st st' le h = record { more = h.more; lists = λ d w o u. h.lists d (λ q. let i = w q in let j = le q in omega (arith, i, j)) o u }

  pub goes_later : (a : Id → ℕ) (st st' : State) → Later st st' → Goes a st st'
  goes_later a st st' l = record { more = l.more; lists = λ c w o u. l.lists c o u }

  pub goes_still : (a : Id → ℕ) (st : State) → Goes a st st
  goes_still a st = record { more = λ q. omega arith; lists = λ c w o u. u }

  -- a step by numbers, and the same step by paths
  pub record Step (a : Id → ℕ) (st n p : State) : Type 0 where
    pub hot : Hot
    pub is : p ≡ im hot n
    pub near : Near hot n
    pub goes : Goes a st n

  pub still_step : (a : Id → ℕ) (hot : Hot) (st : State) → Near hot st → Step a st st (im hot st)
  still_step a hot st h = record { hot = hot; is = refl; near = h; goes = goes_still a st }

  pub when_step : (a : Id → ℕ) (hot : Hot) (st n p : State) → Near hot st → (b b' : Bool) → b' ≡ b → Step a st n p → Step a st (if b then n else st) (if b' then p else im hot st)
  when_step a hot st n p h b b' e s = subst (λ u. Step a st (if b then n else st) (if u then p else im hot st)) (sym e) (by b) where
    by : (u : Bool) → Step a st (if u then n else st) (if u then p else im hot st)
    by true = s
    by false = still_step a hot st h

  -- Positions

  pub pairs_same : (hot : Hot) (st : State) (r : ℕ) → spot_pairs (im hot st) r ≡ map (pair_with f g) (spot_pairs st r)
  pairs_same hot st r = ap (map (pair_of (im hot st).look)) (ids_same f g (st.look (ref r))) ∙ pairs_im f g hot once st (spot_ids (st.look (ref r)))

  stale_thing : (hot : Hot) (st : State) (r : ℕ) → r < n0 → Near hot st → (t : Option Thing) → OldThing r t → last_of (there_with f g t) hot ≡ last_of t st.touched
  stale_thing hot st r lt h None k = refl
  stale_thing hot st r lt h (Some (row x)) k = k.1.1 (λ y. hot (g y)) st.touched h.warm
  stale_thing hot st r lt h (Some (content c)) k = refl
  stale_thing hot st r lt h (Some (instance_row i)) k = refl
  stale_thing hot st r lt h (Some block_row) k = refl
  stale_thing hot st r lt h (Some (modifier_row x)) k = refl

  -- it is stale by paths just where it is by numbers
  pub stale_same : (hot : Hot) (st : State) (r : ℕ) → r < n0 → Near hot st → is_stale (im hot st) r ≡ is_stale st r
  stale_same hot st r lt h = stale_thing hot st r lt h (st.look (ref r)) (h.rows r lt)

  pub put_im : (hot : Hot) (i : Id) (x : Thing) (st : State) → put_thing i (thing_with f g x) (im hot st) ≡ im hot (put_thing i x st)
  put_im hot i x st = λ j. record {
    look = λ q. by q (id_eq q i) j;
    next = st.next;
    touched = hot;
    evaluated = st.evaluated;
    installs = st.installs;
    updates = st.updates;
  } where
    by : (q : Id) (b : Bool) → (if b then Some (thing_with f g x) else there_with f g (st.look q)) ≡ there_with f g (if b then Some x else st.look q)
    by q true = refl
    by q false = refl

  pub evaluate_im : (hot : Hot) (r : ℕ) (st : State) → evaluate r (im hot st) ≡ im hot (evaluate r st)
  evaluate_im hot r st =
      let ids = spot_ids (st.look (ref r)) in
      let ps = spot_pairs st r in
      let put : List ℕ → ((Source → Bool) → Bool) → State = λ rs u. note_evaluated r (put_thing (ref r) (row (record { form = all_form rs; last = u })) (im hot st)) in
      ap₂ (λ rs qs. put rs (any_of (sources_of qs))) (ids_same f g (st.look (ref r))) (pairs_same hot st r)
      ∙ (ap (put ids) (λ i u. (ap (λ xs. any_of xs u) (sources_to f g ps) ∙ any_map g (sources_of ps) u) i)
      ∙ ap (note_evaluated r) (put_im hot (ref r) (row (record { form = all_form ids; last = any_of (sources_of ps) })) st))

  -- the references of a position have lower numbers
  ids_below : (r : ℕ) (t : Option Thing) → ReadsLower r t → IdsBelow r (spot_ids t)
  ids_below r None h = tt
  ids_below r (Some (row x)) h = by x.form h where
    by : (y : Form) → IdsBelow r (reads y) → IdsBelow r (form_ids y)
    by (constant_form v) k = tt
    by (source_form s v) k = tt
    by (property_form n k) w = tt
    by (call_form n rs ns) k = tt
    by (joined_form rs) k = tt
    by (all_form rs) k = k
  ids_below r (Some (content c)) h = tt
  ids_below r (Some (instance_row i)) h = tt
  ids_below r (Some block_row) h = tt
  ids_below r (Some (modifier_row x)) h = tt

  old_pairs : (hot : Hot) (st : State) → Near hot st → (r : ℕ) → r < n0 → (ids : List ℕ) → IdsBelow r ids → Low n0 (sources_of (map (pair_of st.look) ids))
  old_pairs hot st h r lt [] k = tt
  old_pairs hot st h r lt (i ∷ ids) k =
      low_join n0 (pair_of st.look i).sources (sources_of (map (pair_of st.look) ids)) (low_pair st.look n0 i (λ j le. (h.rows j (let w = k.0 in omega (arith, w, le, lt))).1)) (old_pairs hot st h r lt ids k.1)

  abbrev fresh_row : State → ℕ → Thing
  fresh_row st r = row (record { form = all_form (spot_ids (st.look (ref r))); last = any_of (sources_of (spot_pairs st r)) })

  old_row : (hot : Hot) (st : State) (r : ℕ) → r < n0 → Near hot st → OldThing r (Some (fresh_row st r))
  old_row hot st r lt h =
      let ids = ids_below r (st.look (ref r)) (h.rows r lt).0 in (ids, (tt, low_last n0 (sources_of (spot_pairs st r)) (old_pairs hot st h r lt (spot_ids (st.look (ref r))) ids)))

  -- another row for a reference that was there
  near_put : (hot : Hot) (st : State) (r : ℕ) (x : Thing) → OldThing r (Some x) → Near hot st → (q : ℕ) → q < n0 → OldThing q ((put_thing (ref r) x st).look (ref q))
  near_put hot st r x k h q w = put_has OldThing st r x k q (h.rows q w)

  pub whole_put : (st : State) (r : ℕ) (x : Thing) → NumberedThing (st.next a_ref) r (Some x) → Whole st → Whole (put_thing (ref r) x st)
  whole_put st r x k h q = put_has (NumberedThing (st.next a_ref)) st r x k q (h q)

  near_evaluate : (hot : Hot) (st : State) (r : ℕ) → r < n0 → Near hot st → Near hot (evaluate r st)
  near_evaluate hot st r lt h = record {
    next = h.next;
    rows = near_put hot st r (fresh_row st r) (old_row hot st r lt h) h;
    warm = h.warm;
    whole = whole_put st r (fresh_row st r) (tt, low_last (st.next a_ref) (sources_of (spot_pairs st r)) (low_pairs st.look (st.next a_ref) h.whole (spot_ids (st.look (ref r))))) h.whole;
  }

  pub evaluate_step : (a : Id → ℕ) (hot : Hot) (st : State) (r : ℕ) → r < n0 → Near hot st → Step a st (evaluate r st) (evaluate r (im hot st))
  evaluate_step a hot st r lt h = record { hot = hot; is = evaluate_im hot r st; near = near_evaluate hot st r lt h; goes = record { more = λ q. omega arith; lists = λ c w o u. u } }

  pub reread_step : (a : Id → ℕ) (hot : Hot) (st : State) (r : ℕ) → r < n0 → Near hot st → Step a st (reread r st) (reread r (im hot st))
  reread_step a hot st r lt h = when_step a hot st (evaluate r st) (evaluate r (im hot st)) h (is_stale st r) (is_stale (im hot st) r) (stale_same hot st r lt h) (evaluate_step a hot st r lt h)

  -- Nodes

  text_same : (ps : List Pair) → text_of (first_value (map (pair_with f g) ps)) ≡ text_of (first_value ps)
  text_same ps = ap text_of (first_on f g ps) ∙ (rules_leave_owners f (first_value ps)).1

  pub text_step : (a : Id → ℕ) (hot : Hot) (st : State) (n r : ℕ) → r < n0 → Near hot st → Step a st (renew_text n r st) (renew_text n r (im hot st))
  text_step a hot st n r lt h =
      let c : Content = text_content (text_of (first_value (spot_pairs st r))) in
      let e = near_evaluate hot st r lt h in
      when_step a hot st (put_thing (node n) (content c) (evaluate r st)) (put_thing (node n) (content (text_content (text_of (first_value (spot_pairs (im hot st) r))))) (evaluate r (im hot st))) h
      (is_stale st r) (is_stale (im hot st) r) (stale_same hot st r lt h)
      (record {
        hot = hot;
        is = ap₂ (λ z s. put_thing (node n) (content (text_content z)) s) (ap (λ ps. text_of (first_value ps)) (pairs_same hot st r) ∙ text_same (spot_pairs st r)) (evaluate_im hot r st) ∙ put_im hot (node n) (content c) (evaluate r st);
        near = record { next = e.next; rows = e.rows; warm = e.warm; whole = e.whole };
        goes = record { more = λ q. omega arith; lists = λ d w o u. u };
      })

  changed_same : (n : Text) (v : Option Text) (t : Option Thing) → changed_attr n v (there_with f g t) ≡ changed_attr n v t
  changed_same n v None = refl
  changed_same n v (Some (row x)) = refl
  changed_same n v (Some (content (element_content z xs))) = refl
  changed_same n v (Some (content (text_content z))) = refl
  changed_same n v (Some (content (comment_content z))) = refl
  changed_same n v (Some (instance_row i)) = refl
  changed_same n v (Some block_row) = refl
  changed_same n v (Some (modifier_row x)) = refl

  attr_step : (a : Id → ℕ) (hot : Hot) (st : State) (n : ℕ) (x : AttrSpot) → x.spot.ref < n0 → Near hot st
      → Step a st (if is_stale st x.spot.ref then put_thing (node n) (content (changed_attr x.name (attribute_value (spot_pairs st x.spot.ref)) (st.look (node n)))) (evaluate x.spot.ref st) else st)
      (if is_stale (im hot st) x.spot.ref then put_thing (node n) (content (changed_attr x.name (attribute_value (spot_pairs (im hot st) x.spot.ref)) ((im hot st).look (node n)))) (evaluate x.spot.ref (im hot st)) else im hot st)
  attr_step a hot st n x lt h =
      let r = x.spot.ref in
      let c = changed_attr x.name (attribute_value (spot_pairs st r)) (st.look (node n)) in
      let e = near_evaluate hot st r lt h in
      when_step a hot st (put_thing (node n) (content c) (evaluate r st)) (put_thing (node n) (content (changed_attr x.name (attribute_value (spot_pairs (im hot st) r)) ((im hot st).look (node n)))) (evaluate r (im hot st))) h
      (is_stale st r) (is_stale (im hot st) r) (stale_same hot st r lt h)
      (record {
        hot = hot;
        is =
            ap₂ (λ z s. put_thing (node n) (content z) s)
            (ap (λ ps. changed_attr x.name (attribute_value ps) ((im hot st).look (node n))) (pairs_same hot st r)
            ∙ (ap (λ v. changed_attr x.name v ((im hot st).look (node n))) (attribute_same f g (spot_pairs st r)) ∙ changed_same x.name (attribute_value (spot_pairs st r)) (st.look (node n)))) (evaluate_im hot r st)
            ∙ put_im hot (node n) (content c) (evaluate r st);
        near = record { next = e.next; rows = e.rows; warm = e.warm; whole = e.whole };
        goes = record { more = λ q. omega arith; lists = λ d w o u. u };
      })

  abbrev pub AttrsLow : List AttrSpot → Type 0
  AttrsLow [] = Unit {0}
  AttrsLow (x ∷ xs) = (x.spot.ref < n0) × AttrsLow xs

  pub attrs_step : (hot : Hot) (st : State) (n : ℕ) (xs : List AttrSpot) → AttrsLow xs → Near hot st → Step (λ q. times_attrs q xs) st (renew_attrs n xs st) (renew_attrs n xs (im hot st))
  attrs_step hot st n [] k h = still_step (λ q. 0) hot st h
  attrs_step hot st n (x ∷ xs) k h =
      let st1 : State = if is_stale st x.spot.ref then put_thing (node n) (content (changed_attr x.name (attribute_value (spot_pairs st x.spot.ref)) (st.look (node n)))) (evaluate x.spot.ref st) else st in
      let s = attr_step (λ q. occurs q x.spot.made) hot st n x k.0 h in
      let z = attrs_step s.hot st1 n xs k.1 s.near in
      record {
        hot = z.hot;
        is = ap (renew_attrs n xs) s.is ∙ z.is;
        near = z.near;
        goes = goes_then (λ q. times_attrs q (x ∷ xs)) (λ q. occurs q x.spot.made) (λ q. times_attrs q xs) st st1 (renew_attrs n xs st1) (λ q. omega arith) s.goes z.goes;
      }

  -- Modifiers

  refreshed_same : (z : ModSpot) (vs : List V) (t : Option Thing) → refreshed z (map (with_owners f) vs) (there_with f g t) ≡ installed_with f g (refreshed z vs t)
  refreshed_same z vs None = refl
  refreshed_same z vs (Some (row x)) = refl
  refreshed_same z vs (Some (content c)) = refl
  refreshed_same z vs (Some (instance_row i)) = refl
  refreshed_same z vs (Some block_row) = refl
  refreshed_same z vs (Some (modifier_row x)) =
      ap₂ (λ us ns. record { on_node = x.on_node; place = x.place; name = x.name; args = us; names = ns }) (firsts_on f g z.positional vs)
      (ap (named_with z.names) (from_on f g z.positional vs) ∙ named_on f g z.names (values_from z.positional vs))

  mod_step : (hot : Hot) (st : State) (z : ModSpot) → z.spot.ref < n0 → Near hot st
      → Step (λ q. hit q (modifier_id z.id) + occurs q z.spot.made) st
      (if is_stale st z.spot.ref then note_updated z.id (put_thing (modifier_id z.id) (modifier_row (refreshed z (values_in (spot_pairs st z.spot.ref)) (st.look (modifier_id z.id)))) (evaluate z.spot.ref st)) else st)
      (if is_stale (im hot st) z.spot.ref
      then note_updated z.id (put_thing (modifier_id z.id) (modifier_row (refreshed z (values_in (spot_pairs (im hot st) z.spot.ref)) ((im hot st).look (modifier_id z.id)))) (evaluate z.spot.ref (im hot st)))
      else im hot st)
  mod_step hot st z lt h =
      let r = z.spot.ref in
      let m = modifier_id z.id in
      let vs = values_in (spot_pairs st r) in
      let y = refreshed z vs (st.look m) in
      let e = near_evaluate hot st r lt h in
      when_step (λ q. hit q m + occurs q z.spot.made) hot st (note_updated z.id (put_thing m (modifier_row y) (evaluate r st)))
      (note_updated z.id (put_thing m (modifier_row (refreshed z (values_in (spot_pairs (im hot st) r)) ((im hot st).look m))) (evaluate r (im hot st)))) h
      (is_stale st r) (is_stale (im hot st) r) (stale_same hot st r lt h)
      (record {
        hot = hot;
        is =
            ap₂ (λ i s. note_updated z.id (put_thing m (modifier_row i) s))
            (ap (λ us. refreshed z us ((im hot st).look m)) (ap values_in (pairs_same hot st r) ∙ values_to f g (spot_pairs st r)) ∙ refreshed_same z vs (st.look m)) (evaluate_im hot r st)
            ∙ ap (note_updated z.id) (put_im hot m (modifier_row y) (evaluate r st));
        near = record { next = e.next; rows = e.rows; warm = e.warm; whole = e.whole };
        goes = record {
          more = λ q. omega arith;
          lists = λ d w o u. (u.0, none_join d st.updates z.id u.1 (let i = w m in let k = hit_self m in omega (arith, i, k)));
        };
      })

  abbrev pub ModsLow : List ModSpot → Type 0
  ModsLow [] = Unit {0}
  ModsLow (z ∷ zs) = (z.spot.ref < n0) × ModsLow zs

  pub mods_step : (hot : Hot) (st : State) (zs : List ModSpot) → ModsLow zs → Near hot st → Step (λ q. times_mods q zs) st (renew_mods zs st) (renew_mods zs (im hot st))
  mods_step hot st [] k h = still_step (λ q. 0) hot st h
  mods_step hot st (z ∷ zs) k h =
      let st1 : State =
      if is_stale st z.spot.ref then note_updated z.id (put_thing (modifier_id z.id) (modifier_row (refreshed z (values_in (spot_pairs st z.spot.ref)) (st.look (modifier_id z.id)))) (evaluate z.spot.ref st)) else st in
      let s = mod_step hot st z k.0 h in
      let y = mods_step s.hot st1 zs k.1 s.near in
      record {
        hot = y.hot;
        is = ap (renew_mods zs) s.is ∙ y.is;
        near = y.near;
        goes = goes_then (λ q. times_mods q (z ∷ zs)) (λ q. hit q (modifier_id z.id) + occurs q z.spot.made) (λ q. times_mods q zs) st st1 (renew_mods zs st1) (λ q. omega arith) s.goes y.goes;
      }

  -- A value that is given

  held_same : (t : Option Thing) → held_value (there_with f g t) ≡ with_owners f (held_value t)
  held_same None = refl
  held_same (Some (row x)) = by x.form where
    by : (y : Form) → form_value (form_with f g y) ≡ with_owners f (form_value y)
    by (constant_form v) = refl
    by (source_form s v) = refl
    by (property_form r k) = refl
    by (call_form n rs ns) = refl
    by (joined_form rs) = refl
    by (all_form rs) = refl
  held_same (Some (content c)) = refl
  held_same (Some (instance_row i)) = refl
  held_same (Some block_row) = refl
  held_same (Some (modifier_row x)) = refl

  same_value : (v w : V) → same path_eq (with_owners f v) (with_owners f w) ≡ same path_eq v w
  same_value v w = same_leaves_owners path_eq path_eq path-Decides path-Decides f v w (λ o p i k e. once o p e)

  -- another source has another name
  named_apart : (x y : Source) → source_eq (g x) (g y) ≡ source_eq x y
  named_apart x y = same_from_decides (source_eq (g x) (g y)) (source_eq x y)
      ((λ e. apart x y (source_same (g x) (g y) e)), (λ e. ap (λ z. source_eq (g x) z) (ap g (sym e)) ∙ source_itself (g x)))
      ((λ e. source_same x y e), (λ e. ap (λ z. source_eq x z) (sym e) ∙ source_itself x))

  pub touch_im : (hot : Hot) (r : ℕ) (x y : Source) (v : V) (st : State) → g x ≡ y → touch r y (with_owners f v) (im hot st) ≡ im (λ z. source_eq z y || hot z) (touch r x v st)
  touch_im hot r x y v st e = ap (λ z. touch r z (with_owners f v) (im hot st)) (sym e) ∙ ((λ j. record {
    look = λ q. by q (id_eq q (ref r)) j;
    next = st.next;
    touched = λ z. source_eq z (g x) || hot z;
    evaluated = st.evaluated;
    installs = st.installs;
    updates = st.updates;
  }) ∙ ap (λ z. im (λ w. source_eq w z || hot w) (touch r x v st)) e) where
    by : (q : Id) (b : Bool) → (if b then Some (row (record { form = source_form (g x) (with_owners f v); last = any_of [] })) else there_with f g (st.look q)) ≡ there_with f g (if b then Some (row (record { form = source_form x v; last = any_of [] })) else st.look q)
    by q true = refl
    by q false = refl

  pub give_step : (a : Id → ℕ) (hot : Hot) (st : State) (r : ℕ) (y : Source) (v : V) → r < n0 → g (number r) ≡ y → Near hot st → Step a st (give r (number r) v st) (give r y (with_owners f v) (im hot st))
  give_step a hot st r y v old e h = subst (λ b. Step a st (give r (number r) v st) (if b then im hot st else touch r y (with_owners f v) (im hot st))) (sym test) (by (same path_eq (held_value (st.look (ref r))) v)) where
    test : same path_eq (held_value ((im hot st).look (ref r))) (with_owners f v) ≡ same path_eq (held_value (st.look (ref r))) v
    test = ap (λ u. same path_eq u (with_owners f v)) (held_same (st.look (ref r))) ∙ same_value (held_value (st.look (ref r))) v

    by : (b : Bool) → Step a st (if b then st else touch r (number r) v st) (if b then im hot st else touch r y (with_owners f v) (im hot st))
    by true = still_step a hot st h
    by false = record {
      hot = λ z. source_eq z y || hot z;
      is = touch_im hot r (number r) y v st e;
      near = record {
        next = h.next;
        rows = near_put hot st r (row (record { form = source_form (number r) v; last = any_of [] })) (tt, ((refl, old), λ t u w. refl)) h;
        warm = λ k lt. ap₂ (λ p q. p || q) (ap (λ z. source_eq (g (number k)) z) (sym e) ∙ named_apart (number k) (number r)) (h.warm k lt);
        whole = whole_put st r (row (record { form = source_form (number r) v; last = any_of [] })) ((refl, let i = h.next in omega (arith, old, i)), λ t u w. refl) h.whole;
      };
      goes = record { more = λ q. omega arith; lists = λ c w o u. u };
    }

  -- What goes

  none_gone : (c d : Id → ℕ) (xs : List ℕ) → NoneCounted c xs → NoneCounted d xs → NoneCounted d (filter (λ m. nat_eq (c (modifier_id m)) 0) xs)
  none_gone c d xs h k = subst (NoneCounted d) (sym (none_filter c xs h)) k

  pub drop_step : (a c : Id → ℕ) (hot : Hot) (st : State) → Unlisted c st → Near hot st → Step a st (dropped_as by_number c st) (dropped c (im hot st))
  drop_step a c hot st u h = record {
    hot = hot;
    is = λ j. record {
      look = λ q. by q (nat_eq (c q) 0) j;
      next = st.next;
      touched = hot;
      evaluated = st.evaluated;
      installs = sym (none_filter c st.installs u.0) j;
      updates = sym (none_filter c st.updates u.1) j;
    };
    near = record {
      next = h.next;
      rows = λ r lt. left OldThing r (nat_eq (c (ref r)) 0) (tt, tt) (h.rows r lt);
      warm = h.warm;
      whole = λ r. left (NumberedThing (st.next a_ref)) r (nat_eq (c (ref r)) 0) tt (h.whole r);
    };
    goes = record { more = λ q. omega arith; lists = λ d w o v. (none_gone c d st.installs u.0 v.0, none_gone c d st.updates u.1 v.1) };
  } where
    by : (q : Id) (b : Bool) → (if b then there_with f g (st.look q) else None) ≡ there_with f g (if b then st.look q else None)
    by q true = refl
    by q false = refl

    left : (P : ℕ → Option Thing → Type 0) (r : ℕ) (b : Bool) → P r None → P r (st.look (ref r)) → P r (if b then st.look (ref r) else None)
    left P r true n k = k
    left P r false n k = n
