-- The sources that are touched at the end of an update are those that the meaning names.
use Rattle.std.proofs.Common.{◌≡◌, ◌<◌, ℕ, List, [], ◌∷◌, map, Bool, true, false, true≢false, Option, Some, None, refl, sym, ap, ap₂, ◌∙◌, subst, arith, inl, inr, ◌⊎◌}
use Rattle.std.specs.Prelude.{filter_map, not, if◌then◌else◌}
use Rattle.gl_value.specs.Value.{same, count_value}
use Rattle.gl_meaning.specs.App.{App}
use Rattle.gl_meaning.specs.Path.{Path, V, path_eq}
use Rattle.gl_meaning.specs.Scope.{Source, cell, item_value, item_index}
use Rattle.gl_meaning.specs.Eval.{Store}
use Rattle.gl_meaning.specs.Known.{Among}
use Rattle.gl_meaning.specs.Laws.{NoRepeat}
use Rattle.gl_meaning.specs.Render.{draw}
use Rattle.gl_meaning.specs.Changes.{Item, item_of, both_differ, rendered_items, Sets}
use Rattle.gl_meaning.proofs.Equal.{path_means, path_itself, same_itself}
use Rattle.gl_meaning.proofs.Once.{items_once}
use Rattle.gl_meaning.proofs.Pieces.{some_same, none_some}
use Rattle.gl_plain.specs.Ids.{a_ref, Id, ref}
use Rattle.gl_plain.specs.State.{Thing, State, held_value}
use Rattle.gl_plain.specs.Live.{ItemSpot, Live, times}
use Rattle.gl_plain.specs.Renew.{renew_app}
use Rattle.gl_plain.specs.Machine.{StandsFor, OnlyTouched}
use Rattle.gl_plain.proofs.Moves.{is_old}
use Rattle.gl_plain.proofs.Syncs.{path-Decides}
use Rattle.gl_plain.proofs.CountStands.{nodes_old}
use Rattle.gl_plain.proofs.Roots.{updated_stands, ids_are_kept}
use Rattle.gl_turns.specs.Places.{Place, node_place, position_place, item_place, instance_place, modifier_place, path_of, item_in, places}
use Rattle.gl_turns.specs.Evaluated.{TouchedBy}
use Rattle.gl_turns.specs.Laws.{TouchedIsTouched}
use Rattle.gl_turns.proofs.Found.{found_from, found_in, path_other}
use Rattle.gl_turns.proofs.Sites.{root_counted}
use Rattle.gl_turns.proofs.Kept.{KeptOne, root_kept}
use Rattle.gl_turns.proofs.Agrees.{ItemsShown}
use Rattle.gl_turns.proofs.Numbered.{tree_agrees}
use Rattle.gl_turns.proofs.Touched.{source_row, Changed, Touches}
use Rattle.gl_turns.proofs.Touching.{root_touches}

pub is_item : (a : Place) (z : Path × ItemSpot) → item_in a ≡ Some z → a ≡ item_place z.0 z.1
is_item (item_place p n) z e = ap (λ (y : Path × ItemSpot). item_place y.0 y.1) (some_same (p, n) z e)
is_item (node_place p n) z e = absurd (none_some z e)
is_item (position_place p n) z e = absurd (none_some z e)
is_item (instance_place p n) z e = absurd (none_some z e)
is_item (modifier_place p n) z e = absurd (none_some z e)

-- the value in the row of a source
row_value : Option Thing → V
row_value t = held_value t

same_row : (x : Source) (u v : V) → source_row x u ≡ source_row x v → u ≡ v
unfolding row_value
same_row x u v e = ap row_value e

-- Items by path

item_found : (p : Path) (i : Item) (is : List Item) → NoRepeat (map (λ (j : Item). j.path) is) → Among i is → p ≡ i.path → item_of p is ≡ Some i
item_found p i [] d m e = absurd m
item_found p i (j ∷ js) d (inl q) e = ap (λ b. if b then Some j else item_of p js) (subst (λ z. path_eq p z ≡ true) (e ∙ ap (λ (z : Item). z.path) q) (path_itself p)) ∙ ap Some (sym q)
item_found p i (j ∷ js) d (inr m) e =
    ap (λ b. if b then Some j else item_of p js) (path_other p j.path (λ q. d.0 (subst (λ z. Among z (map (λ (y : Item). y.path) js)) (sym e ∙ q) (Rattle.gl_turns.proofs.Found.among_mapped (λ (y : Item). y.path) i js m))))
    ∙ item_found p i js d.1 m e

item_means : (p : Path) (i : Item) (is : List Item) → item_of p is ≡ Some i → Among i is × (p ≡ i.path)
item_means p i [] e = absurd (none_some i e)
item_means p i (j ∷ js) e = by (path_eq p j.path) refl (item_means p i js) e where
  by : (b : Bool) → path_eq p j.path ≡ b → (item_of p js ≡ Some i → Among i js × (p ≡ i.path)) → (if b then Some j else item_of p js) ≡ Some i → Among i (j ∷ js) × (p ≡ i.path)
  by true f rec g = let q = some_same j i g in (inl (sym q), path_means p j.path f ∙ ap (λ (z : Item). z.path) q)
  by false f rec g = let h = rec g in (inr h.0, h.1)

abbrev Rows : (Id → Option Thing) → Path → ItemSpot → Item → Type 0
Rows look p z i = (look (ref z.value) ≡ source_row (item_value p) i.value) × (look (ref z.index) ≡ source_row (item_index p) (count_value i.index))

-- the item of a spot, and the spot of an item
shown_item : (look : Id → Option Thing) (z : Path × ItemSpot) (zs : List (Path × ItemSpot)) (is : List Item) → ItemsShown look zs is → Among z zs → (i : Item) × Among i is × (z.0 ≡ i.path) × Rows look z.0 z.1 i
shown_item look z [] [] h m = absurd m
shown_item look z (y ∷ ys) (i ∷ is) h (inl e) =
    (i, inl refl, ap (λ (y : Path × ItemSpot). y.0) e ∙ h.0, (subst (λ (y : Path × ItemSpot). look (ref y.1.value) ≡ source_row (item_value y.0) i.value) (sym e) h.1, subst (λ (y : Path × ItemSpot). look (ref y.1.index) ≡ source_row (item_index y.0) (count_value i.index)) (sym e) h.2))
shown_item look z (y ∷ ys) (i ∷ is) h (inr m) = let g = shown_item look z ys is h.3 m in (g.0, inr g.1, g.2, g.3)
shown_item look z [] (i ∷ is) h m = absurd h
shown_item look z (y ∷ ys) [] h m = absurd h

spot_of : (look : Id → Option Thing) (i : Item) (zs : List (Path × ItemSpot)) (is : List Item) → ItemsShown look zs is → Among i is → (z : ItemSpot) × Among (i.path, z) zs × Rows look i.path z i
spot_of look i [] [] h m = absurd m
spot_of look i (y ∷ ys) (j ∷ js) h (inl e) =
    let here : y.0 ≡ i.path = h.0 ∙ sym (ap (λ (k : Item). k.path) e) in (
      y.1,
      inl (ap (λ q. (q, y.1)) (sym here)),
      (
        subst (λ q. look (ref y.1.value) ≡ source_row (item_value q) i.value) here (subst (λ (k : Item). look (ref y.1.value) ≡ source_row (item_value y.0) k.value) (sym e) h.1),
        subst (λ q. look (ref y.1.index) ≡ source_row (item_index q) (count_value i.index)) here (subst (λ (k : Item). look (ref y.1.index) ≡ source_row (item_index y.0) (count_value k.index)) (sym e) h.2),
      ),
    )
spot_of look i (y ∷ ys) (j ∷ js) h (inr m) = let g = spot_of look i ys js h.3 m in (g.0, inr g.1, g.2)
spot_of look i [] (j ∷ js) h m = absurd h
spot_of look i (y ∷ ys) [] h m = absurd h

abbrev source_place : Source → Path
source_place (cell i x) = i
source_place (item_value p) = p
source_place (item_index p) = p

abbrev is_value : Source → Bool
is_value (item_value p) = true
is_value _ = false

abbrev is_index : Source → Bool
is_index (item_index p) = true
is_index _ = false

-- For the values of items, or for their indexes: what a source holds at a path, in which reference, and what it is of an item.
module _ (app : App) (σ τ : Store) (sets : Sets) (st : State) (l : Live) (h : StandsFor app σ τ st l) (cells : OnlyTouched app σ τ st) (by_sets : TouchedBy sets st)
    (source : Path → Source) (kind : (p : Path) → source_place (source p) ≡ p) (num : ItemSpot → ℕ) (val : Item → V)
    (unset : (p : Path) → st.touched (source p) ≡ false)
    (num_of : (p : Path) (c : ItemSpot) (q : Path) (n : ℕ) → ((source p ≡ item_value q) × (n ≡ c.value)) ⊎ ((source p ≡ item_index q) × (n ≡ c.index)) → (p ≡ q) × (n ≡ num c))
    (row_of : (look : Id → Option Thing) (p : Path) (z : ItemSpot) (i : Item) → Rows look p z i → look (ref (num z)) ≡ source_row (source p) (val i))
    (owned : (p : Path) (z : ItemSpot) → Among (item_place p z) (places [] l) → num z < st.next a_ref) where
  after : Live × State
  after = renew_app app τ l st

  now : StandsFor app τ τ (renew_app app τ l st).1 (renew_app app τ l st).0
  now = updated_stands app σ τ st l h cells

  olds : List Item
  olds = rendered_items (draw app σ)

  news : List Item
  news = rendered_items (draw app τ)

  step : Touches st st (renew_app app τ l st).1 (λ q. times q l) (places [] l) (places [] (renew_app app τ l st).0)
  step =
      root_touches st app σ τ app.limit l st h.stands (nodes_old st l h.owned) (record { nodes = omega arith; refs = omega arith; warm = λ x e. e })
      (record { once = λ r. h.owned.once (ref r); low = λ r w. is_old st (λ q. times q l) h.owned (ref r) w; rows = λ r w. refl })

  kept : (a : Place) → Among a (places [] (renew_app app τ l st).0) → KeptOne st.next (places [] l) a
  kept = root_kept st.next l (renew_app app τ l st).0 (tree_agrees app σ τ st l h).1 (tree_agrees app τ τ (renew_app app τ l st).1 (renew_app app τ l st).0 (updated_stands app σ τ st l h cells)).1 (ids_are_kept app σ τ st l h cells)

  old_items : ItemsShown st.look (filter_map item_in (places [] l)) (rendered_items (draw app σ))
  old_items = (tree_agrees app σ τ st l h).0.items

  new_items : ItemsShown (renew_app app τ l st).1.look (filter_map item_in (places [] (renew_app app τ l st).0)) (rendered_items (draw app τ))
  new_items = (tree_agrees app τ τ (renew_app app τ l st).1 (renew_app app τ l st).0 (updated_stands app σ τ st l h cells)).0.items

  abbrev differ : Item → Item → Bool
  differ i j = not (same path_eq (val i) (val j))

  abbrev Differs : Path → Bool
  Differs p = both_differ (λ i j. same path_eq (val i) (val j)) (item_of p (rendered_items (draw app σ))) (item_of p (rendered_items (draw app τ)))

  -- what is touched differs
  touched_differs : (p : Path) → (renew_app app τ l st).1.touched (source p) ≡ true → Differs p ≡ true
  touched_differs p e = by (step.given (source p) e) where
    by : ((st.touched (source p) ≡ true) ⊎ Changed st (renew_app app τ l st).1 (λ q. times q l) (places [] l) (places [] (renew_app app τ l st).0) (source p)) → Differs p ≡ true
    by (inl f) = absurd (true≢false (sym f ∙ unset p))
    by (inr c) =
        let w = num_of p c.spot c.path c.num c.is in
        let i = shown_item st.look (c.path, c.spot) (filter_map item_in (places [] l)) (rendered_items (draw app σ)) old_items (found_in item_in (c.path, c.spot) (item_place c.path c.spot) (places [] l) refl c.before) in
        let j = shown_item (renew_app app τ l st).1.look (c.path, c.spot) (filter_map item_in (places [] (renew_app app τ l st).0)) (rendered_items (draw app τ)) new_items
        (found_in item_in (c.path, c.spot) (item_place c.path c.spot) (places [] (renew_app app τ l st).0) refl c.after) in
        let ri = row_of st.look c.path c.spot i.0 i.3 in
        let rj = row_of (renew_app app τ l st).1.look c.path c.spot j.0 j.3 in
        let held : c.held ≡ val j.0 = same_row (source p) c.held (val j.0) (sym c.row ∙ (ap (λ n. (renew_app app τ l st).1.look (ref n)) w.1 ∙ (rj ∙ ap (λ q. source_row (source q) (val j.0)) (sym w.0)))) in
        let was : held_value (st.look (ref c.num)) ≡ val i.0 = ap (λ n. held_value (st.look (ref n))) w.1 ∙ ap held_value ri in
        let d : same path_eq (val i.0) (val j.0) ≡ false = ap₂ (λ u v. same path_eq u v) (sym was) (sym held) ∙ c.differs in
        ap₂ (λ u v. both_differ (λ i j. same path_eq (val i) (val j)) u v) (item_found p i.0 (rendered_items (draw app σ)) (items_once app σ) i.1 (w.0 ∙ i.2)) (item_found p j.0 (rendered_items (draw app τ)) (items_once app τ) j.1 (w.0 ∙ j.2))
        ∙ ap not d

  abbrev Both : Option Item → Option Item → Type 0
  Both u v = both_differ (λ i j. same path_eq (val i) (val j)) u v ≡ false

  -- what isn't touched is the same
  untouched_same : (p : Path) → (renew_app app τ l st).1.touched (source p) ≡ false → Differs p ≡ false
  untouched_same p e = by (item_of p (rendered_items (draw app σ))) refl (item_of p (rendered_items (draw app τ))) refl where
    equal : (i j : Item) → val i ≡ val j → Both (Some i) (Some j)
    equal i j q = ap not (subst (λ v. same path_eq (val i) v ≡ true) q (same_itself Path path_eq path-Decides (val i)))

    -- the spot of the new item is that of the old tree
    at_spot : (i j : Item) (z : ItemSpot) → Among i (rendered_items (draw app σ)) → p ≡ i.path → p ≡ j.path → Rows (renew_app app τ l st).1.look p z j → Among (item_place p z) (places [] l) → Both (Some i) (Some j)
    at_spot i j z mi ei ej rows m =
        let o = shown_item st.look (p, z) (filter_map item_in (places [] l)) (rendered_items (draw app σ)) old_items (found_in item_in (p, z) (item_place p z) (places [] l) refl m) in
        let same_item : o.0 ≡ i = some_same o.0 i (sym (item_found p o.0 (rendered_items (draw app σ)) (items_once app σ) o.1 o.2) ∙ item_found p i (rendered_items (draw app σ)) (items_once app σ) mi ei) in
        let ri = row_of st.look p z o.0 o.3 in
        let rj = row_of (renew_app app τ l st).1.look p z j rows in
        by' (step.back (num z) (source p) (val j) (owned p z m) rj) o.0 same_item ri where
          by' : ((st.look (ref (num z)) ≡ source_row (source p) (val j)) ⊎ ((renew_app app τ l st).1.touched (source p) ≡ true)) → (o : Item) → o ≡ i → st.look (ref (num z)) ≡ source_row (source p) (val o) → Both (Some i) (Some j)
          by' (inl f) o q r = equal i j (ap val (sym q) ∙ same_row (source p) (val o) (val j) (sym r ∙ f))
          by' (inr f) o q r = absurd (true≢false (sym f ∙ e))

    found : (i j : Item) → Among i (rendered_items (draw app σ)) → p ≡ i.path → Among j (rendered_items (draw app τ)) → p ≡ j.path → Both (Some i) (Some j)
    found i j mi ei mj ej =
        let y = spot_of st.look i (filter_map item_in (places [] l)) (rendered_items (draw app σ)) old_items mi in
        let fy = found_from item_in (i.path, y.0) (places [] l) y.1 in
        let z = spot_of (renew_app app τ l st).1.look j (filter_map item_in (places [] (renew_app app τ l st).0)) (rendered_items (draw app τ)) new_items mj in
        let fz = found_from item_in (j.path, z.0) (places [] (renew_app app τ l st).0) z.1 in
        let az = is_item fz.0 (j.path, z.0) fz.2 in
        let ay = is_item fy.0 (i.path, y.0) fy.2 in
        kept_spot z.0 (subst (λ q. Rows (renew_app app τ l st).1.look q z.0 j) (sym ej) z.2) fz.0 (az ∙ ap (λ q. item_place q z.0) (sym ej)) (kept fz.0 fz.1) fy.0 fy.1 (ap path_of ay ∙ sym ei) where
          kept_spot : (z : ItemSpot) → Rows (renew_app app τ l st).1.look p z j → (a : Place) → a ≡ item_place p z → KeptOne st.next (places [] l) a → (b : Place) → Among b (places [] l) → path_of b ≡ p → Both (Some i) (Some j)
          kept_spot z rows a q (inl m) b n f = at_spot i j z mi ei ej rows (subst (λ c. Among c (places [] l)) q m)
          kept_spot z rows a q (inr w) b n f = absurd (w.1 b n (ap path_of q ∙ sym f))

    by : (u : Option Item) → item_of p (rendered_items (draw app σ)) ≡ u → (v : Option Item) → item_of p (rendered_items (draw app τ)) ≡ v → Differs p ≡ false
    by None f v g = ap (λ u. both_differ (λ i j. same path_eq (val i) (val j)) u (item_of p (rendered_items (draw app τ)))) f
    by (Some i) f None g = ap₂ (λ u v. both_differ (λ i j. same path_eq (val i) (val j)) u v) f g
    by (Some i) f (Some j) g =
        let a = item_means p i (rendered_items (draw app σ)) f in
        let b = item_means p j (rendered_items (draw app τ)) g in
        ap₂ (λ u v. both_differ (λ i j. same path_eq (val i) (val j)) u v) f g ∙ found i j a.0 a.1 b.0 b.1

  pub item_touched : (p : Path) → (renew_app app τ l st).1.touched (source p) ≡ Differs p
  item_touched p = by ((renew_app app τ l st).1.touched (source p)) refl where
    by : (b : Bool) → (renew_app app τ l st).1.touched (source p) ≡ b → (renew_app app τ l st).1.touched (source p) ≡ Differs p
    by true e = e ∙ sym (touched_differs p e)
    by false e = e ∙ sym (untouched_same p e)

pub touched_is_touched : TouchedIsTouched
touched_is_touched app σ τ sets st l h cells s (cell i x) =
    (root_touches st app σ τ app.limit l st h.stands (nodes_old st l h.owned) (record { nodes = omega arith; refs = omega arith; warm = λ x e. e })
    (record { once = λ r. h.owned.once (ref r); low = λ r w. is_old st (λ q. times q l) h.owned (ref r) w; rows = λ r w. refl })).cells i x
    ∙ s (cell i x)
touched_is_touched app σ τ sets st l h cells s (item_value p) =
    item_touched app σ τ sets st l h cells s item_value (λ p. refl) (λ z. z.value) (λ i. i.value) (λ p. s (item_value p))
    (λ p c q n w. elim w [ inl e ↦ (ap source_place e.0, e.1) | inr e ↦ absurd (true≢false (ap is_value e.0)) ])
    (λ look p z i w. w.0) (λ p z m. is_old st (λ q. times q l) h.owned (ref z.value) (root_counted l (tree_agrees app σ τ st l h).1 (item_place p z) m)) p
touched_is_touched app σ τ sets st l h cells s (item_index p) =
    item_touched app σ τ sets st l h cells s item_index (λ p. refl) (λ z. z.index) (λ i. count_value i.index) (λ p. s (item_index p))
    (λ p c q n w. elim w [ inl e ↦ absurd (true≢false (ap is_index e.0)) | inr e ↦ (ap source_place e.0, e.1) ])
    (λ look p z i w. w.1) (λ p z m. is_old st (λ q. times q l) h.owned (ref z.index) (Rattle.gl_turns.proofs.Sites.root_indexed l (tree_agrees app σ τ st l h).1 p z m)) p
