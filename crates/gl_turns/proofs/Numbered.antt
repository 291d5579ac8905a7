-- The ids of nodes are the numbers that the meaning gives.
use Rattle.std.proofs.Common.{◌≡◌, ◌<◌, ◌≤◌, ◌+◌, ℕ, suc, List, [], ◌∷◌, map, Bool, true, false, Option, Some, None, cond, refl, sym, ap, ap₂, ◌∙◌, subst, arith, inl, inr, ◌⊎◌}
use Rattle.std.specs.Prelude.{filter, filter_map, length, nat_le, not}
use Rattle.std.proofs.lemmas.Bool.{le-leb, lt-leb}
use Rattle.gl_meaning.specs.App.{App}
use Rattle.gl_meaning.specs.Path.{Path, has_path, at_path}
use Rattle.gl_meaning.specs.Eval.{Store}
use Rattle.gl_meaning.specs.Known.{Among}
use Rattle.gl_meaning.specs.Laws.{NoRepeat}
use Rattle.gl_meaning.specs.Render.{draw}
use Rattle.gl_meaning.specs.Changes.{nodes, Numbers, number_from, number, Sets}
use Rattle.gl_meaning.specs.Numbering.{with_number, number_one}
use Rattle.gl_meaning.proofs.Once.{nodes_once}
use Rattle.gl_meaning.proofs.Pieces.{some_same, none_some}
use Rattle.gl_plain.specs.Ids.{a_node, node}
use Rattle.gl_plain.specs.State.{State}
use Rattle.gl_plain.specs.Live.{Live, times}
use Rattle.gl_plain.specs.Grow.{grow_app}
use Rattle.gl_plain.specs.Renew.{renew_app}
use Rattle.gl_plain.specs.Counts.{Runs}
use Rattle.gl_plain.specs.Machine.{StandsFor}
use Rattle.gl_plain.proofs.Moves.{is_old}
use Rattle.gl_plain.proofs.Roots.{appended_stands, updated_stands, ids_are_kept}
use Rattle.gl_plain.proofs.CountGrows.{appended_makes}
use Rattle.gl_plain.proofs.CountStands.{updated_makes}
use Rattle.gl_turns.specs.Places.{Place, node_place, position_place, item_place, instance_place, modifier_place, node_in, places}
use Rattle.gl_turns.specs.Fits.{FitsRoot}
use Rattle.gl_turns.specs.Laws.{AppendedNumbers, UpdatedNumbers, UpdatedMadeCount}
use Rattle.gl_turns.proofs.Found.{found_from, found_in, at_absent, at_found, at_means, at_none, has_it, has_not}
use Rattle.gl_turns.proofs.Listed.{nodes_listed}
use Rattle.gl_turns.proofs.Sites.{root_counted}
use Rattle.gl_turns.proofs.Kept.{KeptOne, root_kept}
use Rattle.gl_turns.proofs.Agrees.{Agree, root_shown}

is_node : (a : Place) (z : Path × ℕ) → node_in a ≡ Some z → a ≡ node_place z.0 z.1
is_node (node_place p n) z e = ap (λ y. node_place y.0 y.1) (some_same (p, n) z e)
is_node (position_place p n) z e = absurd (none_some z e)
is_node (item_place p n) z e = absurd (none_some z e)
is_node (instance_place p n) z e = absurd (none_some z e)
is_node (modifier_place p n) z e = absurd (none_some z e)

-- a node is that of the old list, or new at a path that this doesn't have
abbrev KeptNode : ℕ → List (Path × ℕ) → Path × ℕ → Type 0
KeptNode first old z = ((z.1 < first) × (at_path z.0 old ≡ Some z.1)) ⊎ ((first ≤ z.1) × (at_path z.0 old ≡ None))

abbrev AllKept : ℕ → List (Path × ℕ) → List (Path × ℕ) → Type 0
AllKept first old [] = Unit {0}
AllKept first old (z ∷ zs) = KeptNode first old z × AllKept first old zs

all_kept : (first : ℕ) (old zs : List (Path × ℕ)) → ((z : Path × ℕ) → Among z zs → KeptNode first old z) → AllKept first old zs
all_kept first old [] h = tt
all_kept first old (z ∷ zs) h = (h z (inl refl), all_kept first old zs (λ y m. h y (inr m)))

-- so the list is numbered
numbered : (first : ℕ) (old zs : List (Path × ℕ)) (n m : ℕ) → AllKept first old zs → Runs n (filter (λ k. nat_le first k) (map (λ z. z.1) zs)) m
    → ◌≡◌ {A = Numbers} (record { of = zs; next = m }) (number_from old n (map (λ z. z.0) zs))
numbered first old [] n m h r = ap (λ k. record { of = []; next = k }) r
numbered first old (z ∷ zs) n m h r = by h.0 (numbered first old zs) where
  ends : (b : Bool) → nat_le first z.1 ≡ b → Runs n (cond b (z.1 ∷ filter (λ k. nat_le first k) (map (λ y. y.1) zs)) (filter (λ k. nat_le first k) (map (λ y. y.1) zs))) m
  ends b e = subst (λ d. Runs n (cond d (z.1 ∷ filter (λ k. nat_le first k) (map (λ y. y.1) zs)) (filter (λ k. nat_le first k) (map (λ y. y.1) zs))) m) e r

  by : KeptNode first old z → ((n m : ℕ) → AllKept first old zs → Runs n (filter (λ k. nat_le first k) (map (λ y. y.1) zs)) m → ◌≡◌ {A = Numbers} (record { of = zs; next = m }) (number_from old n (map (λ y. y.0) zs)))
      → ◌≡◌ {A = Numbers} (record { of = z ∷ zs; next = m }) (number_one (at_path z.0 old) n z.0 (λ k. number_from old k (map (λ y. y.0) zs)))
  by (inl k) rec =
      ap (λ (y : Numbers). with_number z.0 z.1 y) (rec n m h.1 (ends false (lt-leb first z.1 k.0)))
      ∙ ap (λ o. number_one o n z.0 (λ i. number_from old i (map (λ y. y.0) zs))) (sym k.1)
  by (inr k) rec =
      let g = ends true (le-leb first z.1 k.0) in
      ap₂ (λ i (y : Numbers). with_number z.0 i y) g.0 (rec (suc n) m h.1 g.1)
      ∙ ap (λ o. number_one o n z.0 (λ i. number_from old i (map (λ y. y.0) zs))) (sym k.1)

-- The nodes of a tree that stands

pub tree_agrees : (app : App) (σ τ : Store) (st : State) (l : Live) → StandsFor app σ τ st l → Agree st.look (places [] l) (Rattle.gl_meaning.specs.Changes.pieces (draw app σ)) × FitsRoot l
tree_agrees app σ τ st l h = root_shown st.look app σ τ app.limit l h.stands

tree_nodes : (app : App) (σ τ : Store) (st : State) (l : Live) → StandsFor app σ τ st l → map (λ z. z.0) (filter_map node_in (places [] l)) ≡ nodes (draw app σ)
tree_nodes app σ τ st l h = (tree_agrees app σ τ st l h).0.nodes

tree_once : (app : App) (σ τ : Store) (st : State) (l : Live) → StandsFor app σ τ st l → NoRepeat (map (λ z. z.0) (filter_map node_in (places [] l)))
tree_once app σ τ st l h = subst NoRepeat (sym (tree_nodes app σ τ st l h)) (nodes_once app σ)

nodes_kept : (app : App) (σ τ : Store) (st : State) (l l' : Live) → StandsFor app σ τ st l → ((a : Place) → Among a (places [] l') → KeptOne st.next (places [] l) a)
    → AllKept (st.next a_node) (filter_map node_in (places [] l)) (filter_map node_in (places [] l'))
nodes_kept app σ τ st l l' h kept = all_kept (st.next a_node) old new (λ z m. let f = found_from node_in z (places [] l') m in by z f.0 (is_node f.0 z f.2) (kept f.0 f.1)) where
  old : List (Path × ℕ)
  old = filter_map node_in (places [] l)

  new : List (Path × ℕ)
  new = filter_map node_in (places [] l')

  absent : (z : Path × ℕ) (a : Place) → a ≡ node_place z.0 z.1 → ((b : Place) → Among b (places [] l) → Rattle.gl_turns.specs.Places.path_of a ≡ Rattle.gl_turns.specs.Places.path_of b → ⊥)
      → (y : Path × ℕ) → Among y (filter_map node_in (places [] l)) → z.0 ≡ y.0 → ⊥
  absent z a e other y m q = let f = found_from node_in y (places [] l) m in other f.0 f.1 (ap Rattle.gl_turns.specs.Places.path_of e ∙ (q ∙ sym (ap Rattle.gl_turns.specs.Places.path_of (is_node f.0 y f.2))))

  by : (z : Path × ℕ) (a : Place) → a ≡ node_place z.0 z.1 → KeptOne st.next (places [] l) a → KeptNode (st.next a_node) (filter_map node_in (places [] l)) z
  by z a e (inl m) =
      let m' = subst (λ b. Among b (places [] l)) e m in
      let w = root_counted l (tree_agrees app σ τ st l h).1 (node_place z.0 z.1) m' in
      inl (is_old st (λ q. times q l) h.owned (node z.1) w, at_found z.0 z.1 (filter_map node_in (places [] l)) (tree_once app σ τ st l h) (found_in node_in z (node_place z.0 z.1) (places [] l) refl m'))
  by z a e (inr k) = inr (subst (λ b. st.next (Rattle.gl_turns.specs.Places.id_of b).kind ≤ (Rattle.gl_turns.specs.Places.id_of b).num) e k.0, at_absent z.0 (filter_map node_in (places [] l)) (absent z a e k.1))

pub updated_numbers : UpdatedNumbers
updated_numbers app σ τ st l h cells =
    let y = renew_app app τ l st in
    let h' = updated_stands app σ τ st l h cells in
    let kept = root_kept st.next l y.0 (tree_agrees app σ τ st l h).1 (tree_agrees app τ τ y.1 y.0 h').1 (ids_are_kept app σ τ st l h cells) in
    let new = filter_map node_in (places [] y.0) in
    numbered (st.next a_node) (filter_map node_in (places [] l)) new (st.next a_node) (y.1.next a_node) (nodes_kept app σ τ st l y.0 h kept)
    (subst (λ ns. Runs (st.next a_node) (filter (λ n. nat_le (st.next a_node) n) ns) (y.1.next a_node)) (sym (nodes_listed [] y.0)) (updated_makes app σ τ st l h))
    ∙ ap (number_from (filter_map node_in (places [] l)) (st.next a_node)) (tree_nodes app τ τ y.1 y.0 h')

-- What is appended

runs_new : (n m : ℕ) (zs : List (Path × ℕ)) → Runs n (map (λ z. z.1) zs) m → ◌≡◌ {A = Numbers} (record { of = zs; next = m }) (number_from [] n (map (λ z. z.0) zs))
runs_new n m [] r = ap (λ k. record { of = []; next = k }) r
runs_new n m (z ∷ zs) r = ap₂ (λ i (y : Numbers). with_number z.0 i y) r.0 (runs_new (suc n) m zs r.1)

pub appended_numbers : AppendedNumbers
appended_numbers app τ st =
    let y = grow_app app τ st in
    runs_new (st.next a_node) (y.1.next a_node) (filter_map node_in (places [] y.0)) (subst (λ ns. Runs (st.next a_node) ns (y.1.next a_node)) (sym (nodes_listed [] y.0)) (appended_makes app τ st))
    ∙ ap (number_from [] (st.next a_node)) (tree_nodes app τ τ y.1 y.0 (appended_stands app τ st))

-- The count of nodes made

pub next_count : (old : List (Path × ℕ)) (paths : List Path) → map (λ z. z.0) old ≡ paths → (n : ℕ) (ps : List Path) → (number_from old n ps).next ≡ n + length (filter (λ p. not (has_path p paths)) ps)
next_count old paths e n [] = omega arith
next_count old paths e n (p ∷ ps) = by (at_path p old) refl (λ k. next_count old paths e k ps) where
  by : (o : Option ℕ) → at_path p old ≡ o → ((k : ℕ) → (number_from old k ps).next ≡ k + length (filter (λ q. not (has_path q paths)) ps))
      → (number_one o n p (λ k. number_from old k ps)).next ≡ n + length (cond (not (has_path p paths)) (p ∷ filter (λ q. not (has_path q paths)) ps) (filter (λ q. not (has_path q paths)) ps))
  by (Some k) f rec =
      let i : has_path p paths ≡ true = has_it p paths (subst (Among p) e (at_means p old k f)) in
      rec n ∙ ap (λ b. n + length (cond (not b) (p ∷ filter (λ q. not (has_path q paths)) ps) (filter (λ q. not (has_path q paths)) ps))) (sym i)
  by None f rec =
      let i : has_path p paths ≡ false = has_not p paths (λ m. at_none p old f (subst (Among p) (sym e) m)) in
      let j = rec (suc n) in
      let k : (number_from old (suc n) ps).next ≡ n + length (p ∷ filter (λ q. not (has_path q paths)) ps) = omega (arith, j) in
      k ∙ ap (λ b. n + length (cond (not b) (p ∷ filter (λ q. not (has_path q paths)) ps) (filter (λ q. not (has_path q paths)) ps))) (sym i)

pub updated_made_count : UpdatedMadeCount
updated_made_count app σ τ sets st l h cells =
    ap (λ (y : Numbers). y.next) (updated_numbers app σ τ st l h cells) ∙ next_count (filter_map node_in (places [] l)) (nodes (draw app σ)) (tree_nodes app σ τ st l h) (st.next a_node) (nodes (draw app τ))
