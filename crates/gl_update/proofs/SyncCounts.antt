-- What was moved of the items of a list that become those of other entries.
use Rattle.std.proofs.Common.{◌≡◌, ◌≢◌, ℕ, zero, suc, ◌+◌, Bool, true, false, List, [], ◌∷◌, ◌++◌, map, reverse, set, Option, Some, None, slice_get, append-nil, append_assoc, refl, sym, ◌∙◌, ap, ap₂, subst, arith}
use Rattle.std.specs.Prelude.{if◌then◌else◌}
use Rattle.std.proofs.lemmas.List.{map-append}
use Rattle.gl_meaning.specs.Laws.{NoRepeat}
use Rattle.gl_ast.specs.ExprCode.{owned}
use Rattle.gl_plain.specs.Binding.{Spot}
use Rattle.gl_plain.specs.Live.{Items, no_items, item_live, Lives}
use Rattle.gl_machine.specs.Code.{Listing, Code as PlainCode, listed_code, live_of, lives_of, items_of}
use Rattle.gl_each.specs.Key.{Key, same_key, entry_key, entry_keys}
use Rattle.gl_each.specs.Moved.{moves}
use Rattle.gl_each.specs.Sync.{Step, retain, move, insert}
use Rattle.gl_each.specs.View.{seen_steps}
use Rattle.gl_kept.specs.Between.{moves_between, lives_with, kept_with, moved_between, moved_items, moved_bodies}
use Rattle.gl_kept.specs.Listed.{spot_keys}
use Rattle.gl_guards.specs.Once.{KeysOnceIn, KeysOnceItems}
use Rattle.gl_vm.specs.View.{Tables}
use Rattle.gl_code.specs.CodeView.{seen_item_code, all_items}
use Rattle.gl_code.specs.Entries.{seen_entry, seen_left}
use Rattle.gl_code.specs.declared.code.ItemCode.{ItemCode}
use Rattle.gl_code.specs.declared.entries.Entry.{Entry}
use Rattle.gl_code.proofs.EntryLists.{next_left}
use Rattle.gl_update.specs.Counted.{one_if, CodeMoved, HasKey, ItemMoved, ItemsMoved, live_items}
use Rattle.gl_update.specs.ListItems.{spot_key, there}
use Rattle.gl_update.specs.OldItems.{code_key, is_move, CodeKeys, Picks, Plans, TakenAt, TakenBy, IsReady}
use Rattle.gl_update.specs.declared.counting.Moved.{Moved}
use Rattle.gl_update.specs.declared.old_items.Work.{Work}
use Rattle.gl_update.proofs.Counts.{keys_are, items_more, found_there, found_nowhere}
use Rattle.gl_update.proofs.SyncItems.{key_is, seen_olds, there_seen, has_seen, seen_at, planned}

-- the steps that are left, the next one first
abbrev pub steps_left : Work → List Step
steps_left w = reverse (seen_steps w.steps.items)

-- what is there was there at first
abbrev pub Stays : List (Option ItemCode) → List (Option ItemCode) → Type 0
Stays os ps = (i : ℕ) (x : ItemCode) → slice_get ps i ≡ Some (Some x) → slice_get os i ≡ Some (Some x)

-- What was counted of the entries that are done, where this is left to do of what there was.
pub record Syncing (m0 m : Moved) (w0 w : Work) (done : List ItemCode) : Type 0 where
  pub same : w.keys ≡ w0.keys
  pub stays : Stays w0.olds.items w.olds.items
  pub keys : (n : Tables) → map spot_key (map (seen_item_code n) done) ++ entry_keys (seen_left w.waiting.items) ≡ entry_keys (seen_left w0.waiting.items)
  pub count : (n : Tables) → KeysOnceItems (live_items n (there w0.olds.items)) → m.items + moves (steps_left w) ≡ m0.items + (moves (steps_left w0) + moved_items (live_items n (there w0.olds.items)) (live_items n done))

pub syncing_begin : (m : Moved) (w : Work) (done : List ItemCode) → done ≡ [] → Syncing m m w w done
syncing_begin m w done none = record {
  same = refl;
  stays = λ i x e. e;
  keys = λ n. ap (λ ys. map spot_key (map (seen_item_code n) ys) ++ entry_keys (seen_left w.waiting.items)) none;
  count = λ n once.
      let z : moved_items (live_items n (there w.olds.items)) (live_items n done) ≡ 0 = ap (λ ys. moved_items (live_items n (there w.olds.items)) (live_items n ys)) none in
      omega (arith, z);
}

-- what is taken away was there
stays_on : (os ps : List (Option ItemCode)) (i : ℕ) → ps ≡ set os i None → Stays os ps
stays_on os ps i e j x at = still os i j x (subst (λ zs. slice_get zs j ≡ Some (Some x)) e at) where
  still : (zs : List (Option ItemCode)) (i j : ℕ) (x : ItemCode) → slice_get (set zs i None) j ≡ Some (Some x) → slice_get zs j ≡ Some (Some x)
  still [] i j x h = h
  still (z ∷ zs) zero zero x h = let no : Some None ≡ Some (Some x) = h in absurd (cc)
  still (z ∷ zs) zero (suc j) x h = h
  still (z ∷ zs) (suc i) zero x h = h
  still (z ∷ zs) (suc i) (suc j) x h = still zs i j x h

-- One entry

-- what an item has that is found by its key
once_with : (k : Key) (is : Items) (ls : Lives) → KeysOnceItems is → lives_with k is ≡ Some ls → KeysOnceIn ls
once_with k no_items ls h e = let no : None ≡ Some ls = e in absurd (cc)
once_with k (item_live z o ms is) ls h e = by (same_key k (owned z.key, z.occurrence)) e (λ f. once_with k is ls h.1 f) where
  by : (b : Bool) → (if b then Some ms else lives_with k is) ≡ Some ls → (lives_with k is ≡ Some ls → KeysOnceIn ls) → KeysOnceIn ls
  by true f more = let same : ms ≡ ls = cc in subst KeysOnceIn same h.0
  by false f more = more f

-- so much was counted for one entry, of what was there at first
abbrev OneCounted : Moved → Moved → Bool → List (Option ItemCode) → ItemCode → Type 0
OneCounted m m' b os y = (n : Tables) → KeysOnceItems (live_items n (there os)) → m'.items ≡ m.items + (one_if b + kept_with (lives_with (spot_key (seen_item_code n y)) (live_items n (there os))) (λ ks. moved_bodies ks (lives_of (seen_item_code n y).1.1)))

module _ (m m' : Moved) (ks : List Key) (os0 os ps : List (Option ItemCode)) (k : Key) (y : ItemCode) (once : NoRepeat ks) (has : CodeKeys ks os0) (stays : Stays os0 os) where
  live_there : (n : Tables) → live_items n (there os0) ≡ items_of (all_items (there (seen_olds n os0)))
  live_there n = ap (λ xs. items_of (all_items xs)) (there_seen n os0)

  -- an old item was kept
  kept_one : (i : ℕ) (b : Bool) (x : ItemCode) → slice_get ks i ≡ Some k → TakenAt i os ps (Some x) → ItemMoved m m' b (Some x) y → ((n : Tables) → HasKey n (Some x) k y) → OneCounted m m' b os0 y × ((n : Tables) → spot_key (seen_item_code n y) ≡ k)
  kept_one i b x at taken moved key = (
    (λ n each.
        let f = found_there k ks (seen_olds n os0) i (seen_item_code n x) once (has_seen n ks os0 has) at (seen_at n os0 i x (stays i x taken.0)) in
        let news = lives_of (seen_item_code n y).1.1 in
        let is : spot_key (seen_item_code n y) ≡ k = key n ∙ f.1 in
        let found : lives_with (spot_key (seen_item_code n y)) (live_items n (there os0)) ≡ Some (lives_of (seen_item_code n x).1.1) = ap₂ lives_with is (live_there n) ∙ f.0 in
        moved n (once_with (spot_key (seen_item_code n y)) (live_items n (there os0)) (lives_of (seen_item_code n x).1.1) each found) ∙ ap (λ o. m.items + (one_if b + kept_with o (λ ls. moved_bodies ls news))) (sym found)),
    (λ n. key n ∙ (found_there k ks (seen_olds n os0) i (seen_item_code n x) once (has_seen n ks os0 has) at (seen_at n os0 i x (stays i x taken.0))).1),
  )

  -- a new item was made
  new_one : ((i : ℕ) → slice_get ks i ≢ Some k) → ItemMoved m m' false None y → ((n : Tables) → HasKey n None k y) → OneCounted m m' false os0 y
  new_one none moved key = λ n each.
      let news = lives_of (seen_item_code n y).1.1 in
      let found : lives_with (spot_key (seen_item_code n y)) (live_items n (there os0)) ≡ None = ap₂ lives_with (key n) (live_there n) ∙ found_nowhere k ks (seen_olds n os0) (has_seen n ks os0 has) none in
      let zero_of : kept_with (lives_with (spot_key (seen_item_code n y)) (live_items n (there os0))) (λ ls. moved_bodies ls news) ≡ 0 = ap (λ o. kept_with o (λ ls. moved_bodies ls news)) found in
      omega (arith, moved, zero_of)

  -- what was counted, what the step counts, and what is left
  one_done : (s : Step) (o : Option ItemCode) (b : Bool) → Picks ks k s → TakenBy s os ps o → b ≡ is_move s → ItemMoved m m' b o y → ((n : Tables) → HasKey n o k y)
      → OneCounted m m' (is_move s) os0 y × (((n : Tables) → spot_key (seen_item_code n y) ≡ k) × Stays os ps)
  one_done (retain i) None b at taken e moved key = absurd taken
  one_done (retain i) (Some x) b at taken e moved key =
      let r = kept_one i b x at taken moved key in (subst (λ d. OneCounted m m' d os0 y) e r.0, (r.1, stays_on os ps i taken.1))
  one_done (move i) None b at taken e moved key = absurd taken
  one_done (move i) (Some x) b at taken e moved key =
      let r = kept_one i b x at taken moved key in (subst (λ d. OneCounted m m' d os0 y) e r.0, (r.1, stays_on os ps i taken.1))
  one_done insert (Some x) b at taken e moved key = absurd taken
  one_done insert None b at taken e moved key = (new_one at (subst (λ d. ItemMoved m m' d None y) e moved) key, (key, λ i x h. subst (λ zs. slice_get zs i ≡ Some (Some x)) taken h))

moves_more : (s : Step) (ss : List Step) → moves (s ∷ ss) ≡ one_if (is_move s) + moves ss
moves_more (retain i) ss = omega arith
moves_more (move i) ss = omega arith
moves_more insert ss = omega arith

pub syncing_next : (m0 m m' : Moved) (w0 w v : Work) (done more : List ItemCode) (e : Entry) (o : Option ItemCode) (b : Bool) (y : ItemCode) → IsReady w0 → IsReady w → w.waiting.items ≡ v.waiting.items ++ e ∷ [] → v.keys ≡ w.keys
    → ((s : Step) (ss : List Step) → steps_left w ≡ s ∷ ss → (steps_left v ≡ ss) × TakenBy s w.olds.items v.olds.items o)
    → ((s : Step) (ss : List Step) → steps_left w ≡ s ∷ ss → b ≡ is_move s)
    → ItemMoved m m' b o y → ((n : Tables) → HasKey n o (entry_key (seen_entry e)) y) → more ≡ done ++ y ∷ []
    → Syncing m0 m w0 w done → Syncing m0 m' w0 v more
syncing_next m0 m m' w0 w v done more e o b y r0 r is kept took moving moved key then_more h =
    let k = entry_key (seen_entry e) in
    let p : Plans w.keys (k ∷ entry_keys (seen_left v.waiting.items)) (steps_left w) = subst (λ es. Plans w.keys (entry_keys es) (steps_left w)) (next_left w.waiting.items v.waiting.items e is) r.plans in
    let q = planned w.keys k (entry_keys (seen_left v.waiting.items)) (steps_left w) p in
    let s = q.0 in
    let ss = q.1 in
    let t = took s ss q.2 in
    let one = one_done m m' w0.keys w0.olds.items w.olds.items v.olds.items k y r0.once r0.has h.stays s o b (subst (λ ks. Picks ks k s) h.same q.3.0) t.1 (moving s ss q.2) moved key in
    record {
      same = kept ∙ h.same;
      stays = λ i x at. h.stays i x (one.1.1 i x at);
      keys = λ n.
          let new = spot_key (seen_item_code n y) in
          let front = map spot_key (map (seen_item_code n) done) in
          ap (λ ys. map spot_key (map (seen_item_code n) ys) ++ entry_keys (seen_left v.waiting.items)) then_more
          ∙ (ap (λ ys. map spot_key ys ++ entry_keys (seen_left v.waiting.items)) (map-append (seen_item_code n) done (y ∷ []))
          ∙ (ap (λ ys. ys ++ entry_keys (seen_left v.waiting.items)) (map-append spot_key (map (seen_item_code n) done) (seen_item_code n y ∷ []))
          ∙ (append_assoc front (new ∷ []) (entry_keys (seen_left v.waiting.items))
          ∙ (ap (λ l. front ++ l ∷ entry_keys (seen_left v.waiting.items)) (one.1.0 n)
          ∙ (ap (λ es. front ++ entry_keys es) (sym (next_left w.waiting.items v.waiting.items e is)) ∙ h.keys n)))));
      count = λ n each.
          let olds = live_items n (there w0.olds.items) in
          let a = h.count n each in
          let c = one.0 n each in
          let left : moves (steps_left w) ≡ one_if (is_move s) + moves (steps_left v) = ap moves q.2 ∙ (moves_more s ss ∙ ap (λ zs. one_if (is_move s) + moves zs) (sym t.0)) in
          let now : moved_items olds (live_items n more) ≡ moved_items olds (live_items n done) + kept_with (lives_with (spot_key (seen_item_code n y)) olds) (λ ls. moved_bodies ls (lives_of (seen_item_code n y).1.1)) =
          ap (λ ys. moved_items olds (items_of (all_items ys))) (ap (map (seen_item_code n)) then_more ∙ map-append (seen_item_code n) done (y ∷ []))
          ∙ items_more olds (map (seen_item_code n) done) (seen_item_code n y) in
          omega (arith, a, c, left, now);
    }

-- All are done

none_planned : (ks : List Key) (ss : List Step) → Plans ks [] ss → ss ≡ []
none_planned ks [] h = refl
none_planned ks (s ∷ ss) h = absurd h

steps_done : (w : Work) → IsReady w → w.waiting.items ≡ [] → steps_left w ≡ []
steps_done w r none = none_planned w.keys (steps_left w) (subst (λ es. Plans w.keys (entry_keys (seen_left es)) (steps_left w)) none r.plans)

pub syncing_end : (m0 m : Moved) (w0 w : Work) (done : List ItemCode) → IsReady w → w.waiting.items ≡ [] → Syncing m0 m w0 w done
    → ItemsMoved m0 m (moves (steps_left w0)) (there w0.olds.items) done × ((n : Tables) → map spot_key (map (seen_item_code n) done) ≡ entry_keys (seen_left w0.waiting.items))
syncing_end m0 m w0 w done r none h = (
  (λ n each.
      let a = h.count n each in
      let z : moves (steps_left w) ≡ 0 = ap moves (steps_done w r none) in
      omega (arith, a, z)),
  (λ n. sym (append-nil (map spot_key (map (seen_item_code n) done))) ∙ (ap (λ es. map spot_key (map (seen_item_code n) done) ++ entry_keys (seen_left es)) (sym none) ∙ h.keys n)),
)

-- The list

pub keys_seen : (n : Tables) (xs : List ItemCode) → map spot_key (map (seen_item_code n) xs) ≡ map code_key xs
keys_seen n [] = refl
keys_seen n (x ∷ xs) = ap₂ (λ (k : Key) ks. k ∷ ks) (key_is n x) (keys_seen n xs)

pub list_moved : (m m' : Moved) (z : Tables → Listing) (s : Spot) (w : Work) (olds news : List ItemCode) (ks : List Key) (es : List Entry) (y : Tables → PlainCode)
    → there w.olds.items ≡ olds → w.waiting.items ≡ es → w.keys ≡ map code_key olds → moves (steps_left w) ≡ moves_between w.keys ks → ks ≡ entry_keys (seen_left es)
    → ItemsMoved m m' (moves (steps_left w)) (there w.olds.items) news → ((n : Tables) → map spot_key (map (seen_item_code n) news) ≡ entry_keys (seen_left w.waiting.items))
    → ((n : Tables) → y n ≡ listed_code (z n) s (all_items (map (seen_item_code n) news)))
    → CodeMoved m m' (λ n. listed_code (z n) s (all_items (map (seen_item_code n) olds))) y
list_moved m m' z s w olds news ks es y are waits old_keys plan new_keys moved named is = λ n once.
    let old_items : spot_keys (live_items n olds) ≡ w.keys = keys_are (map (seen_item_code n) olds) ∙ (keys_seen n olds ∙ sym old_keys) in
    let new_items : spot_keys (live_items n news) ≡ ks = keys_are (map (seen_item_code n) news) ∙ (named n ∙ (ap (λ fs. entry_keys (seen_left fs)) waits ∙ sym new_keys)) in
    let plan_is : moves (steps_left w) ≡ moves_between (spot_keys (live_items n olds)) (spot_keys (live_items n news)) = plan ∙ ap₂ moves_between (sym old_items) (sym new_items) in
    moved n (subst (λ xs. KeysOnceItems (live_items n xs)) (sym are) once.1)
    ∙ ap (λ c. m.items + c)
    (ap₂ (λ c xs. c + moved_items (live_items n xs) (live_items n news)) plan_is are
    ∙ ap (λ c. moved_between (live_of (listed_code (z n) s (all_items (map (seen_item_code n) olds)))) (live_of c)) (sym (is n)))
