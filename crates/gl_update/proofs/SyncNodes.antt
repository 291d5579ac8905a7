-- The nodes of the items of a list that become those of other entries.
use Rattle.std.proofs.Common.{◌≡◌, ◌<◌, ◌≤◌, ℕ, zero, suc, ◌+◌, Bool, true, false, List, [], ◌∷◌, ◌++◌, map, set, length, Option, Some, None, slice_get, append-nil, append_assoc, refl, sym, ◌∙◌, ap, subst, arith}
use Rattle.std.proofs.lemmas.List.{map-append, length-append}
use Rattle.gl_arena.specs.Id.{Id}
use Rattle.gl_nodes.specs.Tree.{Tree}
use Rattle.gl_nodes.specs.Flat.{stamp_of, head_of}
use Rattle.gl_machine.specs.Shape.{Nest}
use Rattle.gl_each.specs.Key.{entry_key, entry_keys}
use Rattle.gl_each.specs.Sync.{Step, retain, move, insert}
use Rattle.gl_vm.specs.View.{Tables}
use Rattle.gl_code.specs.Hung.{tops}
use Rattle.gl_code.specs.Entries.{seen_entry, seen_left}
use Rattle.gl_code.specs.declared.code.ItemCode.{ItemCode}
use Rattle.gl_code.specs.declared.entries.Entry.{Entry}
use Rattle.gl_code.proofs.EntryLists.{next_left}
use Rattle.gl_seats.specs.Parts.{item_nest, items_nest}
use Rattle.gl_seats.specs.Seats.{Stood, Replaced, Replaces, UnseatsEach, SeatsBefore, ShiftsBefore, IsBehind, IsBefore, NodesRenewed}
use Rattle.gl_seats.specs.Midway.{all, Midway}
use Rattle.gl_seats.specs.declared.places.Seat.{Seat}
use Rattle.gl_seats.proofs.CodeRows.{no_tables}
use Rattle.gl_seats.proofs.Midways.{midway_begin, midway_stays, midway_moves, midway_seats, midway_ends, items_all}
use Rattle.gl_update.specs.ListItems.{there}
use Rattle.gl_update.specs.OldItems.{is_move, Plans, Rising, TakenAt, TakenBy, IsReady}
use Rattle.gl_update.specs.Standing.{ItemKept, ItemSeated, OneKept, NodesSynced}
use Rattle.gl_update.specs.declared.old_items.Work.{Work}
use Rattle.gl_update.proofs.SyncItems.{planned}
use Rattle.gl_update.proofs.SyncCounts.{steps_left}

-- Old items by their places, of which those before a place were come to

module _ {A : Type 0} where
  pub there_both : (us vs : List (Option A)) → there (us ++ vs) ≡ there us ++ there vs
  there_both [] vs = refl
  there_both (None ∷ us) vs = there_both us vs
  there_both (Some u ∷ us) vs = ap (λ xs. u ∷ xs) (there_both us vs)

  -- one that was not come to is taken
  ahead_at : (ps os : List (Option A)) (i : ℕ) (x : A) → slice_get (ps ++ os) i ≡ Some (Some x) → length ps ≤ i
      → (us : List (Option A)) × (vs : List (Option A)) × (os ≡ us ++ Some x ∷ vs) × (length (ps ++ us) ≡ i) × (set (ps ++ os) i None ≡ (ps ++ (us ++ None ∷ [])) ++ vs)
  ahead_at [] [] i x e le = absurd (let no : None ≡ Some (Some x) = e in cc)
  ahead_at [] (o ∷ os) zero x e le = let is : o ≡ Some x = cc in ([], os, ap (λ p. p ∷ os) is, refl, refl)
  ahead_at [] (o ∷ os) (suc i) x e le = let q = ahead_at [] os i x e (omega arith) in (o ∷ q.0, q.1, ap (λ l. o ∷ l) q.2, ap suc q.3, ap (λ l. o ∷ l) q.4)
  ahead_at (p ∷ ps) os zero x e le = absurd (omega (arith, le))
  ahead_at (p ∷ ps) os (suc i) x e le = let q = ahead_at ps os i x e (omega (arith, le)) in (q.0, q.1, q.2, ap suc q.3, ap (λ l. p ∷ l) q.4)

  -- one that was passed over is taken
  passed_at : (ps os : List (Option A)) (i : ℕ) (x : A) → slice_get (ps ++ os) i ≡ Some (Some x) → i < length ps
      → (us : List (Option A)) × (vs : List (Option A)) × (ps ≡ us ++ Some x ∷ vs) × (set (ps ++ os) i None ≡ (us ++ None ∷ vs) ++ os)
  passed_at [] os i x e lt = absurd (omega (arith, lt))
  passed_at (p ∷ ps) os zero x e lt = let is : p ≡ Some x = cc in ([], ps, ap (λ l. l ∷ ps) is, refl)
  passed_at (p ∷ ps) os (suc i) x e lt = let q = passed_at ps os i x e (omega (arith, lt)) in (p ∷ q.0, q.1, ap (λ l. p ∷ l) q.2, ap (λ l. p ∷ l) q.3)

  -- the last one that was come to was taken
  abbrev pub IsLastGone : List (Option A) → Type 0
  IsLastGone [] = Unit {0}
  IsLastGone (o ∷ []) = o ≡ None
  IsLastGone (o ∷ (p ∷ os)) = IsLastGone (p ∷ os)

  gone_last : (us : List (Option A)) → IsLastGone (us ++ None ∷ [])
  gone_last [] = refl
  gone_last (u ∷ []) = refl
  gone_last (u ∷ (v ∷ us)) = gone_last (v ∷ us)

  gone_still : (us vs : List (Option A)) (x : A) → IsLastGone (us ++ Some x ∷ vs) → IsLastGone (us ++ None ∷ vs)
  gone_still [] [] x h = refl
  gone_still [] (v ∷ vs) x h = h
  gone_still (u ∷ []) vs x h = gone_still [] vs x h
  gone_still (u ∷ (w ∷ us)) vs x h = gone_still (w ∷ us) vs x h

  not_last : (ps os : List (Option A)) (i : ℕ) (x : A) → IsLastGone ps → slice_get (ps ++ os) i ≡ Some (Some x) → length ps ≤ suc i → length ps ≤ i
  not_last [] os i x h e le = omega arith
  not_last (p ∷ []) os zero x h e le = absurd (let no : None ≡ Some x = cc in cc)
  not_last (p ∷ []) os (suc i) x h e le = omega arith
  not_last (p ∷ (q ∷ ps)) os zero x h e le = absurd (omega (arith, le))
  not_last (p ∷ (q ∷ ps)) os (suc i) x h e le = let r = not_last (q ∷ ps) os i x h e (omega (arith, le)) in omega (arith, r)

abbrev pub nests : Tables → List ItemCode → List (Nest ℕ)
nests n xs = map (item_nest n) xs

-- Wherever the old items stood, the list is in the middle of its update, and as many ranges were moved as items were counted.
pub record NodesSyncing (t0 t : Tree) (m0 m : ℕ) (seat0 seat : Seat) (w0 w : Work) (done : List ItemCode) : Type 0 where
  pub come : List (Option ItemCode)
  pub ahead : List (Option ItemCode)
  pub are : w.olds.items ≡ come ++ ahead
  pub last : IsLastGone come
  pub rising : Rising (length come) (steps_left w)
  pub parent : seat.parent ≡ seat0.parent
  pub midway : (n : Tables) (front back : List ℕ) → let whole = items_nest n (there w0.olds.items) in Stood t0.forest (stamp_of seat0.parent) front whole back → stamp_of seat0.next ≡ head_of (tops whole ++ back)
      → Midway t0.forest t.forest (stamp_of seat0.parent) front whole back (nests n done) (nests n (there come)) (nests n (there ahead)) (stamp_of seat.next)
  pub moves : t.moves + m0 ≡ t0.moves + m

pub nodes_begin : (t : Tree) (m : ℕ) (seat : Seat) (w : Work) (done : List ItemCode) → done ≡ [] → Rising 0 (steps_left w) → NodesSyncing t t m m seat seat w w done
nodes_begin t m seat w done none rising = record {
  come = [];
  ahead = w.olds.items;
  are = refl;
  last = tt;
  rising = rising;
  parent = refl;
  midway = λ n front back stood next.
      let xs = there w.olds.items in
      let p = stamp_of seat.parent in
      let is = items_all n xs in
      subst (λ z. Midway t.forest t.forest p front z back (nests n done) [] (nests n xs) (stamp_of seat.next)) (sym is)
      (subst (λ ys. Midway t.forest t.forest p front (all (nests n xs)) back (nests n ys) [] (nests n xs) (stamp_of seat.next)) (sym none)
      (midway_begin t.forest p front back (nests n xs) (stamp_of seat.next) (subst (λ z. Stood t.forest p front z back) is stood) (subst (λ z. stamp_of seat.next ≡ head_of (tops z ++ back)) is next)));
  moves = refl;
}

-- One entry

module _ (t0 t t' : Tree) (m0 m m' : ℕ) (seat0 seat seat' : Seat) (w0 w v : Work) (done more : List ItemCode) (y : ItemCode) (ss : List Step) (steps : steps_left v ≡ ss) (then_more : more ≡ done ++ y ∷ [])
    (h : NodesSyncing t0 t m0 m seat0 seat w0 w done) where
  done_more : (n : Tables) → nests n done ++ item_nest n y ∷ [] ≡ nests n more
  done_more n = sym (ap (nests n) then_more ∙ map-append (item_nest n) done (y ∷ []))

  -- where it stands now, by other words
  midway_as : (n : Tables) (front back : List ℕ) (passed passed' ahead : List (Nest ℕ)) (next next' : Option ℕ) → passed ≡ passed' → next ≡ next'
      → Midway t0.forest t'.forest (stamp_of seat0.parent) front (items_nest n (there w0.olds.items)) back (nests n done ++ item_nest n y ∷ []) passed ahead next
      → Midway t0.forest t'.forest (stamp_of seat0.parent) front (items_nest n (there w0.olds.items)) back (nests n more) passed' ahead next'
  midway_as n front back passed passed' ahead next next' e f k =
      let go = λ (ds ps : List (Nest ℕ)) (o : Option ℕ). Midway t0.forest t'.forest (stamp_of seat0.parent) front (items_nest n (there w0.olds.items)) back ds ps ahead o in
      subst (λ ds. go ds passed' next') (done_more n) (subst (λ ps. go (nests n done ++ item_nest n y ∷ []) ps next') e (subst (λ o. go (nests n done ++ item_nest n y ∷ []) passed o) f k))

  retain_one : (i : ℕ) (x : ItemCode) → Rising (length h.come) (retain i ∷ ss) → TakenAt i w.olds.items v.olds.items (Some x) → ItemKept t t' m m' false seat seat' (λ n. item_nest n x) (λ n. item_nest n y) → NodesSyncing t0 t' m0 m' seat0 seat' w0 v more
  retain_one i x rising taken kept =
      let get = subst (λ os. slice_get os i ≡ Some (Some x)) h.are taken.0 in
      let q = ahead_at h.come h.ahead i x get (not_last h.come h.ahead i x h.last get rising.0) in
      let us = q.0 in
      let vs = q.1 in
      let come = h.come ++ (us ++ None ∷ []) in
      let same = kept.places no_tables in
      record {
        come = come;
        ahead = vs;
        are = taken.1 ∙ (ap (λ os. set os i None) h.are ∙ q.4);
        last = subst IsLastGone (append_assoc h.come us (None ∷ [])) (gone_last (h.come ++ us));
        rising = subst (λ k. Rising k (steps_left v)) (let a = length-append (h.come ++ us) (None ∷ []) in let b = ap length (append_assoc h.come us (None ∷ [])) in let c = q.3 in omega (arith, a, b, c)) (subst (Rising (suc i)) (sym steps) rising.1);
        parent = (kept.settles no_tables).0 ∙ h.parent;
        midway = λ n front back stood next.
            let p = stamp_of seat0.parent in
            let whole = items_nest n (there w0.olds.items) in
            let a = item_nest n x in
            let b = item_nest n y in
            let r = subst (λ s. Replaces t.forest t'.forest s a b) (ap stamp_of h.parent) (subst (λ (z : Tree). Replaces z.forest t'.forest (stamp_of seat.parent) a b) same (kept.renewed.replaces n)) in
            let behind = subst (λ s. IsBehind t'.forest s b (stamp_of seat'.next)) (ap stamp_of h.parent) (kept.settles n).1 in
            let parts : nests n (there h.ahead) ≡ nests n (there us) ++ a ∷ nests n (there vs) = ap (λ os. nests n (there os)) q.2 ∙ (ap (nests n) (there_both us (Some x ∷ vs)) ∙ map-append (item_nest n) (there us) (x ∷ there vs)) in
            let passed : nests n (there h.come) ++ nests n (there us) ≡ nests n (there come) =
            sym (ap (nests n) (there_both h.come (us ++ None ∷ []) ∙ ap (λ l. there h.come ++ l) (there_both us (None ∷ []) ∙ append-nil (there us))) ∙ map-append (item_nest n) (there h.come) (there us)) in
            midway_as n front back (nests n (there h.come) ++ nests n (there us)) (nests n (there come)) (nests n (there vs)) (stamp_of seat'.next) (stamp_of seat'.next) passed refl
            (midway_stays t0.forest t.forest t'.forest p front whole back (nests n done) (nests n (there h.come)) (nests n (there us)) (nests n (there vs)) a b (stamp_of seat.next) (stamp_of seat'.next)
            (subst (λ zs. Midway t0.forest t.forest p front whole back (nests n done) (nests n (there h.come)) zs (stamp_of seat.next)) parts (h.midway n front back stood next)) r behind);
        moves = let a = kept.renewed.moves in let b = ap (λ (z : Tree). z.moves) same in let c = h.moves in omega (arith, a, b, c);
      }

  move_one : (i : ℕ) (x : ItemCode) → Rising (length h.come) (move i ∷ ss) → TakenAt i w.olds.items v.olds.items (Some x) → ItemKept t t' m m' true seat seat' (λ n. item_nest n x) (λ n. item_nest n y) → NodesSyncing t0 t' m0 m' seat0 seat' w0 v more
  move_one i x rising taken kept =
      let get = subst (λ os. slice_get os i ≡ Some (Some x)) h.are taken.0 in
      let q = passed_at h.come h.ahead i x get rising.0 in
      let us = q.0 in
      let vs = q.1 in
      let come = us ++ None ∷ vs in
      let same = kept.settles no_tables in
      record {
        come = come;
        ahead = h.ahead;
        are = taken.1 ∙ (ap (λ os. set os i None) h.are ∙ q.3);
        last = gone_still us vs x (subst IsLastGone q.2 h.last);
        rising = subst (λ k. Rising k (steps_left v)) (let a = length-append us (None ∷ vs) in let b = length-append us (Some x ∷ vs) in let c = ap length q.2 in omega (arith, a, b, c)) (subst (Rising (length h.come)) (sym steps) rising.1);
        parent = ap (λ (z : Seat). z.parent) same ∙ h.parent;
        midway = λ n front back stood next.
            let p = stamp_of seat0.parent in
            let whole = items_nest n (there w0.olds.items) in
            let a = item_nest n x in
            let b = item_nest n y in
            let shifts = subst (λ s. ShiftsBefore t.forest kept.mid.forest s (stamp_of seat.next) a) (ap stamp_of h.parent) (kept.places n).0 in
            let r = subst (λ s. Replaces kept.mid.forest t'.forest s a b) (ap stamp_of h.parent) (kept.renewed.replaces n) in
            let parts : nests n (there h.come) ≡ nests n (there us) ++ a ∷ nests n (there vs) = ap (λ os. nests n (there os)) q.2 ∙ (ap (nests n) (there_both us (Some x ∷ vs)) ∙ map-append (item_nest n) (there us) (x ∷ there vs)) in
            let passed : nests n (there us) ++ nests n (there vs) ≡ nests n (there come) = sym (ap (nests n) (there_both us (None ∷ vs)) ∙ map-append (item_nest n) (there us) (there vs)) in
            midway_as n front back (nests n (there us) ++ nests n (there vs)) (nests n (there come)) (nests n (there h.ahead)) (stamp_of seat.next) (stamp_of seat'.next) passed (ap (λ (z : Seat). stamp_of z.next) (sym same))
            (midway_moves t0.forest t.forest kept.mid.forest t'.forest p front whole back (nests n done) (nests n (there us)) (nests n (there vs)) (nests n (there h.ahead)) a b (stamp_of seat.next)
            (subst (λ zs. Midway t0.forest t.forest p front whole back (nests n done) zs (nests n (there h.ahead)) (stamp_of seat.next)) parts (h.midway n front back stood next)) shifts r);
        moves = let a = kept.renewed.moves in let b = (kept.places no_tables).1 in let c = h.moves in omega (arith, a, b, c);
      }

  insert_one : Rising (length h.come) ss → v.olds.items ≡ w.olds.items → ItemSeated t t' m m' seat seat' (λ n. item_nest n y) → NodesSyncing t0 t' m0 m' seat0 seat' w0 v more
  insert_one rising same seated = record {
    come = h.come;
    ahead = h.ahead;
    are = same ∙ h.are;
    last = h.last;
    rising = subst (Rising (length h.come)) (sym steps) rising;
    parent = ap (λ (z : Seat). z.parent) seated.same ∙ h.parent;
    midway = λ n front back stood next.
        let p = stamp_of seat0.parent in
        let whole = items_nest n (there w0.olds.items) in
        let b = item_nest n y in
        midway_as n front back (nests n (there h.come)) (nests n (there h.come)) (nests n (there h.ahead)) (stamp_of seat.next) (stamp_of seat'.next) refl (ap (λ (z : Seat). stamp_of z.next) (sym seated.same))
        (midway_seats t0.forest t.forest t'.forest p front whole back (nests n done) (nests n (there h.come)) (nests n (there h.ahead)) b (stamp_of seat.next) (h.midway n front back stood next)
        (subst (λ s. SeatsBefore t.forest t'.forest s (stamp_of seat.next) b) (ap stamp_of h.parent) (seated.seats n)));
    moves = let a = seated.moves in let b = seated.counts in let c = h.moves in omega (arith, a, b, c);
  }

  -- the step of the entry does what was done for it
  one_synced : (s : Step) (o : Option ItemCode) (b : Bool) → Rising (length h.come) (s ∷ ss) → TakenBy s w.olds.items v.olds.items o → b ≡ is_move s → OneKept t t' m m' b seat seat' o y → NodesSyncing t0 t' m0 m' seat0 seat' w0 v more
  one_synced (retain i) None b rising taken e kept = absurd taken
  one_synced (retain i) (Some x) b rising taken e kept = retain_one i x rising taken (subst (λ d. ItemKept t t' m m' d seat seat' (λ n. item_nest n x) (λ n. item_nest n y)) e kept)
  one_synced (move i) None b rising taken e kept = absurd taken
  one_synced (move i) (Some x) b rising taken e kept = move_one i x rising taken (subst (λ d. ItemKept t t' m m' d seat seat' (λ n. item_nest n x) (λ n. item_nest n y)) e kept)
  one_synced insert (Some x) b rising taken e kept = absurd taken
  one_synced insert None b rising taken e kept = insert_one rising taken kept

pub nodes_next : (t0 t t' : Tree) (m0 m m' : ℕ) (seat0 seat seat' : Seat) (w0 w v : Work) (done more : List ItemCode) (e : Entry) (o : Option ItemCode) (b : Bool) (y : ItemCode) → IsReady w → w.waiting.items ≡ v.waiting.items ++ e ∷ []
    → ((s : Step) (ss : List Step) → steps_left w ≡ s ∷ ss → (steps_left v ≡ ss) × TakenBy s w.olds.items v.olds.items o)
    → ((s : Step) (ss : List Step) → steps_left w ≡ s ∷ ss → b ≡ is_move s)
    → OneKept t t' m m' b seat seat' o y → more ≡ done ++ y ∷ [] → NodesSyncing t0 t m0 m seat0 seat w0 w done → NodesSyncing t0 t' m0 m' seat0 seat' w0 v more
nodes_next t0 t t' m0 m m' seat0 seat seat' w0 w v done more e o b y r is took moving kept then_more h =
    let k = entry_key (seen_entry e) in
    let p : Plans w.keys (k ∷ entry_keys (seen_left v.waiting.items)) (steps_left w) = subst (λ es. Plans w.keys (entry_keys es) (steps_left w)) (next_left w.waiting.items v.waiting.items e is) r.plans in
    let q = planned w.keys k (entry_keys (seen_left v.waiting.items)) (steps_left w) p in
    let taken = took q.0 q.1 q.2 in
    one_synced t0 t t' m0 m m' seat0 seat seat' w0 w v done more y q.1 taken.0 then_more h q.0 o b (subst (Rising (length h.come)) q.2 h.rising) taken.1 (moving q.0 q.1 q.2) kept

-- All are done, and what is left of the old ones is gone.
pub nodes_end : (t0 t t' : Tree) (m0 m : ℕ) (seat0 seat : Seat) (w0 w : Work) (done left : List ItemCode) → left ≡ there w.olds.items → ((n : Tables) → UnseatsEach t.forest t'.forest (nests n left)) → t'.moves ≡ t.moves → NodesSyncing t0 t m0 m seat0 seat w0 w done
    → NodesSynced t0 t' m0 m seat0 (there w0.olds.items) done
nodes_end t0 t t' m0 m seat0 seat w0 w done left are gone same h = record {
  replaces = λ n front back stood next.
      let p = stamp_of seat0.parent in
      let whole = items_nest n (there w0.olds.items) in
      let parts : nests n left ≡ nests n (there h.come) ++ nests n (there h.ahead) = ap (nests n) (are ∙ (ap there h.are ∙ there_both h.come h.ahead)) ∙ map-append (item_nest n) (there h.come) (there h.ahead) in
      subst (λ z. Replaced t0.forest t'.forest p front whole z back) (sym (items_all n done))
      (midway_ends t0.forest t.forest t'.forest p front whole back (nests n done) (nests n (there h.come)) (nests n (there h.ahead)) (stamp_of seat.next) (h.midway n front back stood next)
      (subst (λ zs. UnseatsEach t.forest t'.forest zs) parts (gone n)));
  moves = let a = h.moves in omega (arith, a, same);
}

-- A list whose items these are, where the seat is before the first of them.
pub list_synced : (old new : Tree) (k b a l : ℕ) (parent : Option Id) (seat : Seat) (xs ys zs : List ItemCode) → seat.parent ≡ parent → ((n : Tables) → IsBefore (items_nest n zs) (stamp_of seat.next)) → xs ≡ zs → b ≡ k → l ≡ a
    → NodesSynced old new b a seat xs ys → NodesRenewed old new k l (stamp_of parent) (λ n. items_nest n zs) (λ n. items_nest n ys)
list_synced old new k b a l parent seat xs ys zs same before is e f h = record {
  replaces = λ n.
      let p = stamp_of seat.parent in
      subst (λ q. Replaces old.forest new.forest q (items_nest n zs) (items_nest n ys)) (ap stamp_of same)
      (λ front back stood. subst (λ us. Replaced old.forest new.forest p front (items_nest n us) (items_nest n ys) back) is
      (h.replaces n front back (subst (λ us. Stood old.forest p front (items_nest n us) back) (sym is) stood) (subst (λ us. stamp_of seat.next ≡ head_of (tops (items_nest n us) ++ back)) (sym is) (before n back))));
  moves = let s = h.moves in omega (arith, s, e, f);
}
