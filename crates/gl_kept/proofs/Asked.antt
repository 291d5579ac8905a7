-- A tree that stands asks no more than the open regions of its rendering have members.
use Rattle.std.proofs.Common.{◌≡◌, ◌+◌, ℕ, zero, suc, List, [], ◌∷◌, ◌++◌, map, Bool, true, false, Option, Some, None, refl, sym, ap, ap₂, ◌∙◌, subst, arith}
use Rattle.std.specs.Prelude.{length, if◌then◌else◌, ◌||◌}
use Rattle.std.specs.List.{list_any}
use Rattle.std.proofs.lemmas.List.Folds.{list_any-append}
use Rattle.gl_base.specs.Texts.{Text}
use Rattle.gl_value.specs.Value.{Values, no_values, value}
use Rattle.gl_ast.specs.Template as t
use Rattle.gl_meaning.specs.App.{App}
use Rattle.gl_meaning.specs.Path.{at, main, otherwise, items, item, into, slot, attribute_at, modifier_at, Path}
use Rattle.gl_meaning.specs.Scope.{Source, Pair, sources_of, Scope, scope, Passed, nothing_passed, passed, passed_of, with_locals, bind}
use Rattle.gl_meaning.specs.Eval.{Store, class_at, eval, eval_all, eval_given, takes_first}
use Rattle.gl_meaning.specs.Parts.{WrittenValue, WrittenModifier, modifiers_of, taken_pairs}
use Rattle.gl_meaning.specs.Render.{Forest, Piece, component, branch, item_region, position, no_pieces, piece, single, forest_of, or_comment, region_at, if_of, each_of, items_or_else, attr_positions, modifier_positions, Entry, entries, entry_pairs, render_entries, values_listed, Block, block_named, in_block, Components, render_stmt, render_body, yields_of, components_at}
use Rattle.gl_plain.specs.Ids.{Id, ref}
use Rattle.gl_plain.specs.State.{any_of, MScope, mscope, mpassed, mnothing, passed_in, mslots, mwriter, writer, named_as, with_names, Thing}
use Rattle.gl_plain.specs.Binding.{Spot}
use Rattle.gl_plain.specs.Live.{AttrSpot, ModSpot, item_names, Live, Lives, Items}
use Rattle.gl_plain.specs.Live
use Rattle.gl_plain.specs.Renew.{last_of}
use Rattle.gl_plain.specs.Counts
use Rattle.gl_plain.specs.Stands.{SpottedIn, one_expr, attrs_by, mods_by, tail_of, modifier_pairs, WhereValues, WhereBlock, AttrsStand, ModsStand, Stands, StandIn, ItemsStand, BlockStands, ListStands, ElseStands}
use Rattle.gl_plain.specs.Machine.{no_place, RootStands}
use Rattle.gl_turns.proofs.Agrees.{SameScope, slots_in, same_in, same_slots, same_writer, same_named, locals_passed}
use Rattle.gl_kept.specs.Asked.{regions_of, regions_in, regions_items, some_stale, asks, asks_in, asks_items}
use Rattle.gl_kept.proofs.Asking.{Asks, no_asks, join_asks, as_asks, text_asks, comment_asks, deep_asks, position_asks, element_asks, region_asks, commented_asks}

module _ (look : Id → Option Thing) (touched : Source → Bool) (stays : Path → Bool) (app : App) (σ τ : Store) where
  abbrev inner : ℕ → Components
  inner m = components_at m app σ

  abbrev body_of : ℕ → Passed → Scope → Path → ℕ → t.Body → Forest
  body_of m u w p i c = render_body app σ (inner m) (yields_of app σ (inner m) u) w p i c

  abbrev Part : Path → Live → Forest → Type 0
  Part p l f = Asks look touched stays (regions_of p l) (Counts.positions_of l) (asks look touched stays p l) f

  abbrev PartIn : Path → ℕ → Lives → Forest → Type 0
  PartIn p i ls f = Asks look touched stays (regions_in p i ls) (Counts.positions_in ls) (asks_in look touched stays p i ls) f

  abbrev PartItems : Path → Items → Forest → Type 0
  PartItems p is f = Asks look touched stays (regions_items p is) (Counts.positions_items is) (asks_items look touched stays p is) f

  spot_last : (ms : MScope) (more : List Id) (z : Spot) (E : Store → (ℕ → Pair) → List Pair) (ps : List Pair) → SpottedIn app look ms more z E ps → last_of (look (ref z.ref)) ≡ any_of (sources_of ps)
  spot_last ms more z E ps h = ap last_of h.is.0

  -- the positions of a tag

  attrs_ask : (p : Path) (made : List Id) (s : Scope) (ms : MScope) (ws : Scope → List (WrittenValue Scope)) (ns : List Text) (xs : List AttrSpot) (rest : List Piece) (us : List ℕ) (n : ℕ) → AttrsStand app σ τ look made s ms ws ns xs
      → Asks look touched stays [] us n (forest_of rest)
      → Asks look touched stays [] (Counts.attr_positions xs ++ us) (length xs + n) (forest_of (map (λ n. position (attribute_at n ∷ p) (taken_pairs app σ (ws s) n)) ns ++ rest))
  attrs_ask p made s ms ws [] [] rest us n h k = as_asks look touched stays [] [] us us n (0 + n) (forest_of rest) refl (λ e. e) (omega arith) k
  attrs_ask p made s ms ws (x ∷ ns) (a ∷ xs) rest us n h k =
      let g = attrs_ask p made s ms ws ns xs rest us n h.2 k in
      let f = forest_of (map (λ n. position (attribute_at n ∷ p) (taken_pairs app σ (ws s) n)) ns ++ rest) in
      let g' = position_asks look touched stays (attribute_at x ∷ p) a.spot.ref (taken_pairs app σ (ws s) x) [] (Counts.attr_positions xs ++ us) (length xs + n) f (spot_last ms made a.spot _ _ h.1) g in
      as_asks look touched stays [] [] (a.spot.ref ∷ (Counts.attr_positions xs ++ us)) (a.spot.ref ∷ (Counts.attr_positions xs ++ us)) (1 + (length xs + n)) (length (a ∷ xs) + n)
      (piece (position (attribute_at x ∷ p) (taken_pairs app σ (ws s) x)) f) refl (λ e. e) (omega arith) g'
  attrs_ask p made s ms ws [] (a ∷ xs) rest us n h k = absurd h
  attrs_ask p made s ms ws (x ∷ ns) [] rest us n h k = absurd h

  mods_ask : (p : Path) (made : List Id) (n : ℕ) (s : Scope) (ms : MScope) (ws : Scope → List (WrittenModifier Scope)) (i : ℕ) (ds : List (WrittenModifier Scope)) (zs : List ModSpot) → ModsStand app σ τ look made n s ms ws i ds zs
      → Asks look touched stays [] (Counts.mod_positions zs) (length zs) (forest_of (modifier_positions (modifiers_of app σ p i ds)))
  mods_ask p made n s ms ws i [] [] h = no_asks look touched stays
  mods_ask p made n s ms ws i (d ∷ ds) (z ∷ zs) h =
      let g = mods_ask p made n s ms (λ s'. tail_of (ws s')) (suc i) ds zs h.4 in
      let f = forest_of (modifier_positions (modifiers_of app σ p (suc i) ds)) in
      let g' = position_asks look touched stays (modifier_at i ∷ p) z.spot.ref (modifier_pairs app σ d) [] (Counts.mod_positions zs) (length zs) f (spot_last ms made z.spot _ _ h.3) g in
      as_asks look touched stays [] [] (z.spot.ref ∷ Counts.mod_positions zs) (z.spot.ref ∷ Counts.mod_positions zs) (1 + length zs) (length (z ∷ zs))
      (piece (position (modifier_at i ∷ p) (modifier_pairs app σ d)) f) refl (λ e. e) (omega arith) g'
  mods_ask p made n s ms ws i [] (z ∷ zs) h = absurd h
  mods_ask p made n s ms ws i (d ∷ ds) [] h = absurd h

  -- attributes, what is in the element, and modifiers, in either order
  reorder : (as1 bs cs : List ℕ) → some_stale look touched stays (as1 ++ (bs ++ cs)) ≡ true → some_stale look touched stays ((as1 ++ cs) ++ bs) ≡ true
  reorder as1 bs cs e =
      let test : ℕ → Bool = λ r. last_of (look (ref r)) touched in
      list_any-append test (as1 ++ cs) bs
      ∙ (ap (λ x. x || list_any test bs) (list_any-append test as1 cs)
      ∙ (turn (list_any test as1) (list_any test bs) (list_any test cs) ∙ (sym (list_any-append test as1 (bs ++ cs) ∙ ap (λ x. list_any test as1 || x) (list_any-append test bs cs)) ∙ e)))
    where
      turn : (a b c : Bool) → ((a || c) || b) ≡ (a || (b || c))
      turn true b c = refl
      turn false true true = refl
      turn false true false = refl
      turn false false true = refl
      turn false false false = refl

  -- branches

  branch_part : (p q : Path) (z : Spot) (v : Pair) (r : List Path) (us : List ℕ) (n : ℕ) (f : Forest) → last_of (look (ref z.ref)) ≡ any_of (sources_of (v ∷ [])) → Asks look touched stays r us n f
      → Asks look touched stays (q ∷ r) (z.ref ∷ us) (1 + (1 + Rattle.gl_kept.specs.Asked.entered look touched stays q us n)) (piece (position p (v ∷ [])) (single (branch q f)))
  branch_part p q z v r us n f e h =
      position_asks look touched stays p z.ref (v ∷ []) (q ∷ r) us (1 + Rattle.gl_kept.specs.Asked.entered look touched stays q us n) (single (branch q f)) e
      (region_asks look touched stays (branch q f) q f refl refl refl refl refl r us n h)

  if_part : (p : Path) (unless u : Bool) (v : Pair) (F G : Forest) (l : Live) → takes_first unless v.value ≡ u → Part p l (piece (position p (v ∷ [])) (if u then region_at (main ∷ p) F else region_at (otherwise ∷ p) G))
      → Part p l (if_of p unless v F G)
  if_part p unless u v F G l e h = subst (λ b. Part p l (piece (position p (v ∷ [])) (if b then region_at (main ∷ p) F else region_at (otherwise ∷ p) G))) (sym e) h

  list_part : (p : Path) (l : Live) (v : Pair) (F : Values Path → Forest) (G : Forest) (P : Values Path → Type 0) (us : Values Path) → values_listed v.value ≡ us → WhereValues us P ⊥
      → ((us : Values Path) → P us → Part p l (piece (position p (v ∷ [])) (single (branch (items ∷ p) (F us))))) → Part p l (each_of p v F G)
  list_part p l v F G P no_values f h g = absurd h
  list_part p l v F G P (value x us) f h g = subst (λ y. Part p l (piece (position p (v ∷ [])) (items_or_else p y F G))) (sym f) (g (value x us) h)

  else_part : (p : Path) (l : Live) (v : Pair) (F : Values Path → Forest) (G : Forest) (Q : Type 0) (us : Values Path) → values_listed v.value ≡ us → WhereValues us (λ z. ⊥) Q
      → (Q → Part p l (piece (position p (v ∷ [])) (region_at (otherwise ∷ p) G))) → Part p l (each_of p v F G)
  else_part p l v F G Q (value x us) f h g = absurd h
  else_part p l v F G Q no_values f h g = subst (λ y. Part p l (piece (position p (v ∷ [])) (items_or_else p y F G))) (sym f) (g h)

  block_part : (p : Path) (o : Option Block) (F : Block → Forest) (P : Block → Type 0) (ls : Lives) → ((c : Block) → P c → PartIn p 0 ls (F c)) → WhereBlock o P (ls ≡ Live.no_lives) → PartIn p 0 ls (in_block o F)
  block_part p None F P ls g h = subst (λ y. PartIn p 0 y no_pieces) (sym h) (no_asks look touched stays)
  block_part p (Some c) F P ls g h = g c h

  yields_by : (d : Components) (u : Passed) (n : Text) (vs : List Pair) (p : Path)
      → yields_of app σ d u n vs p ≡ in_block (block_named n (slots_in u)) (λ b. render_body app σ d (yields_of app σ d (passed_of (writer u))) (with_locals (bind b.params vs) (writer u)) (slot n ∷ p) 0 b.body)
  yields_by d nothing_passed n vs p = refl
  yields_by d (passed ps bs (scope i a l w)) n vs p = refl

  mutual
    part_asks : (m b : ℕ) (w : Scope) (ms : MScope) (u : Passed) (p : Path) (x : t.Stmt) (l : Live) → passed_of w ≡ u → SameScope ms w → Stands app σ τ look m b w ms p x l
        → Part p l (render_stmt app σ (inner m) (yields_of app σ (inner m) u) w p x)
    part_asks m b w ms u p (t.text_stmt z) (Live.still n) e s h = text_asks look touched stays p z
    part_asks m b w ms u p (t.comment_stmt z) (Live.still n) e s h = comment_asks look touched stays p z
    part_asks m b w ms u p (t.put z) (Live.put_live n k) e s h =
        position_asks look touched stays p k.ref (eval_all app σ w (one_expr z)) [] [] 0 _ (spot_last ms [] k _ _ h.1) (text_asks look touched stays p _)
    part_asks m b w ms u p (t.element tag ps d) (Live.element_live n made xs zs ls) e s h =
        let g = body_asks m b w ms u p 0 d ls e s h.3 in
        let k = mods_ask p made n w ms (mods_by ps) 0 (mods_by ps w) zs h.2 in
        let vs = attrs_by ps w in
        let a = attrs_ask p made w ms (attrs_by ps) _ xs (modifier_positions (modifiers_of app σ p 0 (mods_by ps w))) (Counts.mod_positions zs) (length zs) h.1 k in
        let el = element_asks look touched stays p tag _ (modifiers_of app σ p 0 (mods_by ps w)) (regions_in p 0 ls) (Counts.positions_in ls) (asks_in look touched stays p 0 ls) (body_of m u w p 0 d) g in
        as_asks look touched stays (regions_in p 0 ls) (regions_in p 0 ls) ((Counts.attr_positions xs ++ Counts.mod_positions zs) ++ Counts.positions_in ls) (Counts.attr_positions xs ++ (Counts.positions_in ls ++ Counts.mod_positions zs))
        ((length xs + length zs) + asks_in look touched stays p 0 ls) ((length xs + length zs) + asks_in look touched stays p 0 ls) _ refl (reorder (Counts.attr_positions xs) (Counts.positions_in ls) (Counts.mod_positions zs)) (omega arith)
        (join_asks look touched stays [] (regions_in p 0 ls) (Counts.attr_positions xs ++ Counts.mod_positions zs) (Counts.positions_in ls) (length xs + length zs) (asks_in look touched stays p 0 ls)
        (forest_of (attr_positions p vs (taken_pairs app σ vs) ++ modifier_positions (modifiers_of app σ p 0 (mods_by ps w)))) _ a el)
    part_asks m b w ms u p (t.if_stmt z unless c d) (Live.branch_live k true y ls) e s h =
        let g = body_asks m b w ms u (main ∷ p) 0 c ls e s h.3 in
        if_part p unless true (eval app σ w z) (body_of m u w (main ∷ p) 0 c) (body_of m u w (otherwise ∷ p) 0 d) (Live.branch_live k true y ls) h.1
        (branch_part p (main ∷ p) k (eval app σ w z) (regions_in (main ∷ p) 0 ls) (Counts.positions_in ls) (asks_in look touched stays (main ∷ p) 0 ls) (or_comment (main ∷ p) (body_of m u w (main ∷ p) 0 c)) (spot_last ms [] k _ _ h.0)
        (commented_asks look touched stays (main ∷ p) (regions_in (main ∷ p) 0 ls) (Counts.positions_in ls) (asks_in look touched stays (main ∷ p) 0 ls) (body_of m u w (main ∷ p) 0 c) g))
    part_asks m b w ms u p (t.if_stmt z unless c d) (Live.branch_live k false y ls) e s h =
        let g = body_asks m b w ms u (otherwise ∷ p) 0 d ls e s h.3 in
        if_part p unless false (eval app σ w z) (body_of m u w (main ∷ p) 0 c) (body_of m u w (otherwise ∷ p) 0 d) (Live.branch_live k false y ls) h.1
        (branch_part p (otherwise ∷ p) k (eval app σ w z) (regions_in (otherwise ∷ p) 0 ls) (Counts.positions_in ls) (asks_in look touched stays (otherwise ∷ p) 0 ls) (or_comment (otherwise ∷ p) (body_of m u w (otherwise ∷ p) 0 d)) (spot_last ms [] k _ _ h.0)
        (commented_asks look touched stays (otherwise ∷ p) (regions_in (otherwise ∷ p) 0 ls) (Counts.positions_in ls) (asks_in look touched stays (otherwise ∷ p) 0 ls) (body_of m u w (otherwise ∷ p) 0 d) g))
    part_asks m b w ms u p (t.each z key ns c d) (Live.listed k is) e s h =
        let F : Values Path → Forest = λ us. render_entries (λ q x. body_of m u (with_locals (bind ns (entry_pairs q x)) w) q 0 c) (items ∷ p) (entries key 0 [] us) in
        list_part p (Live.listed k is) (eval app σ w z) F (body_of m u w (otherwise ∷ p) 0 d) (ListStands app σ τ look m b w ms p key ns c is) (values_listed (eval app σ w z).value) refl h.1
        (λ us hi. branch_part p (items ∷ p) k (eval app σ w z) (regions_items (items ∷ p) is) (Counts.positions_items is) (asks_items look touched stays (items ∷ p) is) (F us) (spot_last ms [] k _ _ h.0)
        (items_asks m b w ms u (items ∷ p) ns c (entries key 0 [] us) is e s hi))
    part_asks m b w ms u p (t.each z key ns c d) (Live.unlisted k y ls) e s h =
        let F : Values Path → Forest = λ us. render_entries (λ q x. body_of m u (with_locals (bind ns (entry_pairs q x)) w) q 0 c) (items ∷ p) (entries key 0 [] us) in
        else_part p (Live.unlisted k y ls) (eval app σ w z) F (body_of m u w (otherwise ∷ p) 0 d) (ElseStands app σ τ look m b w ms p d y ls) (values_listed (eval app σ w z).value) refl h.1
        (λ hi. branch_part p (otherwise ∷ p) k (eval app σ w z) (regions_in (otherwise ∷ p) 0 ls) (Counts.positions_in ls) (asks_in look touched stays (otherwise ∷ p) 0 ls) (or_comment (otherwise ∷ p) (body_of m u w (otherwise ∷ p) 0 d)) (spot_last ms [] k _ _ h.0)
        (commented_asks look touched stays (otherwise ∷ p) (regions_in (otherwise ∷ p) 0 ls) (Counts.positions_in ls) (asks_in look touched stays (otherwise ∷ p) 0 ls) (body_of m u w (otherwise ∷ p) 0 d)
        (body_asks m b w ms u (otherwise ∷ p) 0 d ls e s hi.1)))
    part_asks m b w ms u p (t.let_stmt es ns c) (Live.let_live made rs ls) e s h =
        body_asks m _ (with_locals (bind ns (eval_all app σ w es)) w) (with_names (named_as ns rs) ms) u (main ∷ p) 0 c ls (locals_passed (bind ns (eval_all app σ w es)) w ∙ e)
        (same_named ms w (named_as ns rs) (bind ns (eval_all app σ w es)) s) h.3
    part_asks (suc m) b w ms u p (t.component_stmt c ps given bs) (Live.component_live i made gm args (Some k) ls) e s h =
        let q = into c ∷ p in
        let inside = scope q (eval_given app σ w given) [] (passed ps bs w) in
        let f = body_of m (passed ps bs w) inside q 0 (class_at app q).template in
        let g = body_asks m _ inside (mscope i args [] (mpassed k ps bs ms)) (passed ps bs w) q 0 (class_at app q).template ls refl (refl, s) h.7 in
        region_asks look touched stays (component q inside f) i.path f refl (ap Some (sym h.2)) refl refl refl (regions_in i.path 0 ls) (Counts.positions_in ls) (asks_in look touched stays i.path 0 ls)
        (subst (λ j. PartIn j 0 ls f) (sym h.2) g)
    part_asks zero b w ms u p (t.component_stmt c ps given bs) (Live.deep_live q) e s h = deep_asks look touched stays (into c ∷ p)
    part_asks m b w ms u p (t.yield es n) (Live.yield_live k made rs ls) e s h =
        let v = passed_of w in
        let sp = same_in ms w s in
        let F : Block → Forest = λ c. body_of m (passed_of (writer v)) (with_locals (bind c.params (eval_all app σ w es)) (writer v)) (slot n ∷ p) 0 c.body in
        let g = block_part (slot n ∷ p) (block_named n (mslots (passed_in ms))) F (BlockStands app σ τ look m b w ms p es n made rs ls) ls
        (λ c hi. body_asks m _ (with_locals (bind c.params (eval_all app σ w es)) (writer v)) (with_names (named_as c.params rs) (mwriter (passed_in ms))) (passed_of (writer v)) (slot n ∷ p) 0 c.body ls
        (locals_passed (bind c.params (eval_all app σ w es)) (writer v)) (same_named (mwriter (passed_in ms)) (writer v) (named_as c.params rs) (bind c.params (eval_all app σ w es)) (same_writer (passed_in ms) v sp)) hi.3) h.1 in
        let g1 : PartIn (slot n ∷ p) 0 ls (yields_of app σ (inner m) u n (eval_all app σ w es) p) =
        subst (λ y. PartIn (slot n ∷ p) 0 ls (yields_of app σ (inner m) y n (eval_all app σ w es) p)) e
        (subst (PartIn (slot n ∷ p) 0 ls) (sym (yields_by (inner m) v n (eval_all app σ w es) p)) (subst (λ y. PartIn (slot n ∷ p) 0 ls (in_block (block_named n y) F)) (sym (same_slots (passed_in ms) v sp)) g)) in
        subst (λ j. PartIn (slot j ∷ p) 0 ls (yields_of app σ (inner m) u n (eval_all app σ w es) p)) (sym h.0) g1
    part_asks m b w ms u p _ _ e s h = absurd h

    body_asks : (m b : ℕ) (w : Scope) (ms : MScope) (u : Passed) (p : Path) (i : ℕ) (c : t.Body) (ls : Lives) → passed_of w ≡ u → SameScope ms w → StandIn app σ τ look m b w ms p i c ls → PartIn p i ls (body_of m u w p i c)
    body_asks m b w ms u p i t.end Live.no_lives e s h = no_asks look touched stays
    body_asks m b w ms u p i (t.stmt x d) (Live.live_and l ls) e s h =
        join_asks look touched stays (regions_of (at i ∷ p) l) (regions_in p (suc i) ls) (Counts.positions_of l) (Counts.positions_in ls) (asks look touched stays (at i ∷ p) l) (asks_in look touched stays p (suc i) ls)
        (render_stmt app σ (inner m) (yields_of app σ (inner m) u) w (at i ∷ p) x) (body_of m u w p (suc i) d) (part_asks m b w ms u (at i ∷ p) x l e s h.0) (body_asks m b w ms u p (suc i) d ls e s h.1)
    body_asks m b w ms u p i _ _ e s h = absurd h

    items_asks : (m b : ℕ) (w : Scope) (ms : MScope) (u : Passed) (p : Path) (ns : List Text) (c : t.Body) (xs : List Entry) (is : Items) → passed_of w ≡ u → SameScope ms w → ItemsStand app σ τ look m b w ms p ns c xs is
        → PartItems p is (render_entries (λ q x. body_of m u (with_locals (bind ns (entry_pairs q x)) w) q 0 c) p xs)
    items_asks m b w ms u p ns c [] Live.no_items e s h = no_asks look touched stays
    items_asks m b w ms u p ns c (x ∷ xs) (Live.item_live z k ls is) e s h =
        let q = item x.key x.occurrence ∷ p in
        let w' = with_locals (bind ns (entry_pairs q x)) w in
        let f = body_of m u w' q 0 c in
        let g = body_asks m _ w' (with_names (item_names ns z) ms) u q 0 c ls (locals_passed (bind ns (entry_pairs q x)) w ∙ e) (same_named ms w (item_names ns z) (bind ns (entry_pairs q x)) s) h.4 in
        let here : item z.key z.occurrence ∷ p ≡ q = ap₂ (λ a n. item a n ∷ p) h.0.0 h.0.1 in
        let rest = items_asks m b w ms u p ns c xs is e s h.5 in
        let one = region_asks look touched stays (item_region q x.value x.index (or_comment q f)) q (or_comment q f) refl refl refl refl refl (regions_in q 0 ls) (Counts.positions_in ls) (asks_in look touched stays q 0 ls)
        (commented_asks look touched stays q (regions_in q 0 ls) (Counts.positions_in ls) (asks_in look touched stays q 0 ls) f g) in
        subst
        (λ j. Asks look touched stays (j ∷ (regions_in j 0 ls ++ regions_items p is)) (Counts.positions_in ls ++ Counts.positions_items is)
        ((1 + Rattle.gl_kept.specs.Asked.entered look touched stays j (Counts.positions_in ls) (asks_in look touched stays j 0 ls)) + asks_items look touched stays p is)
        (render_entries (λ q x. body_of m u (with_locals (bind ns (entry_pairs q x)) w) q 0 c) p (x ∷ xs))) (sym here)
        (join_asks look touched stays (q ∷ regions_in q 0 ls) (regions_items p is) (Counts.positions_in ls) (Counts.positions_items is)
        (1 + Rattle.gl_kept.specs.Asked.entered look touched stays q (Counts.positions_in ls) (asks_in look touched stays q 0 ls)) (asks_items look touched stays p is)
        (single (item_region q x.value x.index (or_comment q f))) (render_entries (λ q x. body_of m u (with_locals (bind ns (entry_pairs q x)) w) q 0 c) p xs) one rest)
    items_asks m b w ms u p ns c _ _ e s h = absurd h

  pub root_asks : (m : ℕ) (l : Live) → RootStands app σ τ look m l → Part [] l (components_at m app σ [] [] nothing_passed)
  root_asks (suc m) (Live.component_live i made gm args None ls) h =
      let f = body_of m nothing_passed no_place [] 0 (class_at app []).template in
      let g = body_asks m _ no_place (mscope i args [] mnothing) nothing_passed [] 0 (class_at app []).template ls refl tt h.5 in
      region_asks look touched stays (component [] no_place f) i.path f refl (ap Some (sym h.1)) refl refl refl (regions_in i.path 0 ls) (Counts.positions_in ls) (asks_in look touched stays i.path 0 ls)
      (subst (λ j. PartIn j 0 ls f) (sym h.1) g)
  root_asks zero (Live.deep_live q) h = deep_asks look touched stays []
  root_asks _ _ h = absurd h
