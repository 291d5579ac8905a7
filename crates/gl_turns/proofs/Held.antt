-- The cells of the instances that stand in a tree.
use Rattle.std.proofs.Common.{◌≡◌, ◌<◌, ◌≤◌, ◌+◌, ℕ, zero, suc, List, [], ◌∷◌, ◌++◌, true, false, Option, Some, None, refl, sym, ap, ap₂, ◌∙◌, subst, arith, inl, inr, ◌⊎◌}
use Rattle.std.specs.Prelude.{filter_map}
use Rattle.std.proofs.lemmas.List.{append-nil}
use Rattle.std.proofs.lemmas.Bool.{cases_lt}
use Rattle.gl_base.specs.Texts.{Text}
use Rattle.gl_value.specs.Value.{Values, no_values, value}
use Rattle.gl_ast.specs.Template as t
use Rattle.gl_meaning.specs.App.{App}
use Rattle.gl_meaning.specs.Path.{at, main, otherwise, items, item, into, slot, Path}
use Rattle.gl_meaning.specs.Scope.{cell, Scope}
use Rattle.gl_meaning.specs.Eval.{Store, class_at, cell_value, field_member, member_of}
use Rattle.gl_meaning.specs.Known.{Among}
use Rattle.gl_meaning.specs.Render.{Entry, Block, block_named}
use Rattle.gl_meaning.proofs.Pieces.{among_either, filter_map_append}
use Rattle.gl_plain.specs.Ids.{Id, ref, node, instance_id, hit, occurs}
use Rattle.gl_plain.specs.State.{Inst, MScope, cell_ref, passed_in, mslots, Thing}
use Rattle.gl_plain.specs.Live
use Rattle.gl_plain.specs.Live.{AttrSpot, ModSpot, item_made, Live, Lives, Items, times, times_in, times_items, times_comment, times_attrs, times_mods}
use Rattle.gl_plain.specs.Laid.{rest, rest_in, rest_items, CellsHold, CellsHoldItems, CellsHoldIn}
use Rattle.gl_plain.specs.Stands.{WhereValues, WhereBlock, CellsStand, Stands, StandIn, ItemsStand, BlockStands, ListStands, ElseStands}
use Rattle.gl_plain.proofs.Moves.{hit_num, hit_self}
use Rattle.gl_turns.specs.Places.{Place, instance_in, comment_places, attr_places, mod_places, places, places_items, places_in}
use Rattle.gl_turns.proofs.Touched.{source_row}

attrs_none : (p : Path) (xs : List AttrSpot) → filter_map instance_in (attr_places p xs) ≡ []
attrs_none p [] = refl
attrs_none p (a ∷ xs) = attrs_none p xs

mods_none : (p : Path) (i : ℕ) (zs : List ModSpot) → filter_map instance_in (mod_places p i zs) ≡ []
mods_none p i [] = refl
mods_none p i (z ∷ zs) = mods_none p (suc i) zs

comments_none : (p : Path) (k : Option ℕ) → filter_map instance_in (comment_places p k) ≡ []
comments_none p None = refl
comments_none p (Some n) = refl

arm_instances : (p : Path) (k : Option ℕ) (xs : List Place) → filter_map instance_in (xs ++ comment_places p k) ≡ filter_map instance_in xs
arm_instances p k xs = filter_map_append instance_in xs (comment_places p k) ∙ (ap (λ a. filter_map instance_in xs ++ a) (comments_none p k) ∙ append-nil (filter_map instance_in xs))

element_instances : (p : Path) (xs : List AttrSpot) (ys : List Place) (zs : List ModSpot) → filter_map instance_in (attr_places p xs ++ (ys ++ mod_places p 0 zs)) ≡ filter_map instance_in ys
element_instances p xs ys zs =
    filter_map_append instance_in (attr_places p xs) (ys ++ mod_places p 0 zs)
    ∙ (ap (λ a. a ++ filter_map instance_in (ys ++ mod_places p 0 zs)) (attrs_none p xs)
    ∙ (filter_map_append instance_in ys (mod_places p 0 zs) ∙ (ap (λ a. filter_map instance_in ys ++ a) (mods_none p 0 zs) ∙ append-nil (filter_map instance_in ys))))

module _ (app : App) (σ τ : Store) (look : Id → Option Thing) where
  -- Of a part with these ids, of which these are no cells, and with these instances: what holds where its cells hold a store.
  pub record Cells (count less : Id → ℕ) (is : List (Path × Inst)) (Hold : Store → (Id → Option Thing) → Type 0) : Type 0 where
    pub within : (q : Id) → 0 < less q → 0 < count q
    pub alone : (z : Path × Inst) → Among z is → (x : Text) → member_of (class_at app z.1.path) x ≡ field_member → count (ref (cell_ref z.1 x)) ≤ 1 → (less (ref (cell_ref z.1 x)) ≡ 0) × (0 < count (ref (cell_ref z.1 x)))
    pub rows : (z : Path × Inst) → Among z is → (z.0 ≡ z.1.path) × ((x : Text) → member_of (class_at app z.1.path) x ≡ field_member → look (ref (cell_ref z.1 x)) ≡ source_row (cell z.1.path x) (cell_value app τ z.1.path x))
    pub holds : (ρ : Store) (look' : Id → Option Thing)
        → ((z : Path × Inst) → Among z is → (x : Text) → member_of (class_at app z.1.path) x ≡ field_member → look' (ref (cell_ref z.1 x)) ≡ source_row (cell z.1.path x) (cell_value app ρ z.1.path x)) → Hold ρ look'

  abbrev Nothing : Store → (Id → Option Thing) → Type 0
  Nothing ρ k = Unit {0}

  no_cells : (count : Id → ℕ) → Cells count count [] Nothing
  no_cells count = record { within = λ q w. w; alone = λ z m. absurd m; rows = λ z m. absurd m; holds = λ ρ k h. tt }

  zero_case : (n : ℕ) → ((0 < n) ⊎ (n ≤ 0)) → (0 < n → ⊥) → n ≡ 0
  zero_case n (inl w) d = absurd (d w)
  zero_case n (inr w) d = omega (arith, w)

  none_left : (c r : Id → ℕ) → ((q : Id) → 0 < r q → 0 < c q) → (q : Id) → c q ≡ 0 → r q ≡ 0
  none_left c r h q e = zero_case (r q) (cases_lt 0 (r q)) (λ w. let i = h q w in omega (arith, i, e))

  join_cells : (c d r s : Id → ℕ) (is js : List (Path × Inst)) (H K : Store → (Id → Option Thing) → Type 0) → Cells c r is H → Cells d s js K → Cells (λ q. c q + d q) (λ q. r q + s q) (is ++ js) (λ ρ k. H ρ k × K ρ k)
  join_cells c d r s is js H K h g = record {
    within = λ q w. by q (cases_lt 0 (r q)) w;
    alone = λ z m x f u. by2 z x f u (among_either z is js m);
    rows = λ z m. elim (among_either z is js m) [ inl w ↦ h.rows z w | inr w ↦ g.rows z w ];
    holds = λ ρ k f. (h.holds ρ k (λ z m. f z (Rattle.gl_meaning.proofs.Pieces.among_left z is js m)), g.holds ρ k (λ z m. f z (Rattle.gl_meaning.proofs.Pieces.among_right z is js m)));
  } where
    by : (q : Id) → ((0 < r q) ⊎ (r q ≤ 0)) → 0 < r q + s q → 0 < c q + d q
    by q (inl w) u = let i = h.within q w in omega (arith, i)
    by q (inr w) u = let i = g.within q (omega (arith, w, u)) in omega (arith, i)

    by2 : (z : Path × Inst) (x : Text) → member_of (class_at app z.1.path) x ≡ field_member → c (ref (cell_ref z.1 x)) + d (ref (cell_ref z.1 x)) ≤ 1 → (Among z is ⊎ Among z js)
        → (r (ref (cell_ref z.1 x)) + s (ref (cell_ref z.1 x)) ≡ 0) × (0 < c (ref (cell_ref z.1 x)) + d (ref (cell_ref z.1 x)))
    by2 z x f u (inl m) =
        let i = h.alone z m x f (omega (arith, u)) in
        let a = i.0 in let w = i.1 in
        let e = none_left d s g.within (ref (cell_ref z.1 x)) (omega (arith, u, w)) in (omega (arith, a, e), omega (arith, w))
    by2 z x f u (inr m) =
        let i = g.alone z m x f (omega (arith, u)) in
        let a = i.0 in let w = i.1 in
        let e = none_left c r h.within (ref (cell_ref z.1 x)) (omega (arith, u, w)) in (omega (arith, a, e), omega (arith, w))

  -- the same with other sums, another list, and another word
  as_cells : (c d r s : Id → ℕ) (is js : List (Path × Inst)) (H K : Store → (Id → Option Thing) → Type 0) → ((q : Id) → c q ≡ d q) → ((q : Id) → r q ≡ s q) → is ≡ js → ((ρ : Store) (k : Id → Option Thing) → H ρ k → K ρ k) → Cells c r is H → Cells d s js K
  as_cells c d r s is js H K e f g i h = record {
    within = λ q w. let a = h.within q (let b = f q in omega (arith, b, w)) in let b = e q in omega (arith, a, b);
    alone = λ z m x n u.
        let a = h.alone z (subst (Among z) (sym g) m) x n (let b = e (ref (cell_ref z.1 x)) in omega (arith, b, u)) in
        let a0 = a.0 in let a1 = a.1 in let b = e (ref (cell_ref z.1 x)) in let y = f (ref (cell_ref z.1 x)) in (omega (arith, a0, y), omega (arith, a1, b));
    rows = λ z m. h.rows z (subst (Among z) (sym g) m);
    holds = λ ρ k w. i ρ k (h.holds ρ k (λ z m. w z (subst (Among z) g m)));
  }

  -- what has no instance round it
  own_cells : (own c d r s : Id → ℕ) (is js : List (Path × Inst)) (H : Store → (Id → Option Thing) → Type 0) → ((q : Id) → own q + c q ≡ d q) → ((q : Id) → own q + r q ≡ s q) → is ≡ js → Cells c r is H → Cells d s js H
  own_cells own c d r s is js H e f g h =
      as_cells (λ q. own q + c q) d (λ q. own q + r q) s is js (λ ρ k. Unit {0} × H ρ k) H e f g (λ ρ k w. w.1) (join_cells own c own r [] is Nothing H (no_cells own) h)

  pub component_cells : (i : Inst) (made gm : List Id) (c r : Id → ℕ) (is : List (Path × Inst)) (H : Store → (Id → Option Thing) → Type 0) → 0 < occurs (instance_id i.id) made → ((q : Id) → 0 < occurs q gm → 0 < occurs q made)
      → ((x : Text) → member_of (class_at app i.path) x ≡ field_member → occurs (ref (cell_ref i x)) gm ≡ 0) → CellsStand app σ τ look i made → Cells c r is H
      → Cells (λ q. occurs q made + c q) (λ q. (hit q (instance_id i.id) + occurs q gm) + r q) ((i.path, i) ∷ is) (λ ρ k. CellsStand app ρ ρ k i made × H ρ k)
  component_cells i made gm c r is H own sub none held h =
      join_cells (λ q. occurs q made) c (λ q. hit q (instance_id i.id) + occurs q gm) r ((i.path, i) ∷ []) is (λ ρ k. CellsStand app ρ ρ k i made) H
      (record {
        within = λ q w. by q (cases_lt 0 (hit q (instance_id i.id))) w;
        alone = λ z m x f u. one z x f u m;
        rows = λ z m. elim m [ inl e ↦ row_of z e | inr e ↦ absurd e ];
        holds = λ ρ k f x e. ((held x e).0, f (i.path, i) (inl refl) x e);
      }) h where
        by : (q : Id) → ((0 < hit q (instance_id i.id)) ⊎ (hit q (instance_id i.id) ≤ 0)) → 0 < hit q (instance_id i.id) + occurs q gm → 0 < occurs q made
        by q (inl w) u = subst (λ j. 0 < occurs j made) (sym (Rattle.gl_plain.proofs.Moves.hit_means q (instance_id i.id) w)) own
        by q (inr w) u = sub q (omega (arith, w, u))

        kinds : Rattle.gl_plain.specs.Ids.a_ref ≡ Rattle.gl_plain.specs.Ids.an_instance → ⊥
        kinds e = cc

        one : (z : Path × Inst) (x : Text) → member_of (class_at app z.1.path) x ≡ field_member → occurs (ref (cell_ref z.1 x)) made ≤ 1 → ((z ≡ (i.path, i)) ⊎ ⊥)
            → (hit (ref (cell_ref z.1 x)) (instance_id i.id) + occurs (ref (cell_ref z.1 x)) gm ≡ 0) × (0 < occurs (ref (cell_ref z.1 x)) made)
        one z x f u (inl e) =
            let e1 : z.1 ≡ i = ap (λ (y : Path × Inst). y.1) e in
            let f1 : member_of (class_at app i.path) x ≡ field_member = subst (λ (j : Inst). member_of (class_at app j.path) x ≡ field_member) e1 f in
            let a : occurs (ref (cell_ref z.1 x)) gm ≡ 0 = subst (λ j. occurs (ref (cell_ref j x)) gm ≡ 0) (sym e1) (none x f1) in
            let b : hit (ref (cell_ref z.1 x)) (instance_id i.id) ≡ 0 = hit_num (ref (cell_ref z.1 x)) (instance_id i.id) (λ k n. kinds k) in
            let w : 0 < occurs (ref (cell_ref z.1 x)) made = subst (λ j. 0 < occurs (ref (cell_ref j x)) made) (sym e1) (held x f1).0 in (omega (arith, a, b), w)
        one z x f u (inr e) = absurd e

        row_of : (z : Path × Inst) → z ≡ (i.path, i) → (z.0 ≡ z.1.path) × ((x : Text) → member_of (class_at app z.1.path) x ≡ field_member → look (ref (cell_ref z.1 x)) ≡ source_row (cell z.1.path x) (cell_value app τ z.1.path x))
        row_of z e =
            subst (λ (y : Path × Inst). (y.0 ≡ y.1.path) × ((x : Text) → member_of (class_at app y.1.path) x ≡ field_member → look (ref (cell_ref y.1 x)) ≡ source_row (cell y.1.path x) (cell_value app τ y.1.path x))) (sym e)
            (refl, λ x f. (held x f).1)

  some_case : (us : Values Path) (P : Values Path → Type 0) (Q : Type 0) → ((us : Values Path) → P us → Q) → WhereValues us P ⊥ → Q
  some_case no_values P Q f h = absurd h
  some_case (value v us) P Q f h = f (value v us) h

  else_case : (us : Values Path) (P Q : Type 0) → (P → Q) → WhereValues us (λ z. ⊥) P → Q
  else_case no_values P Q f h = f h
  else_case (value v us) P Q f h = absurd h

  abbrev InCells : Path → ℕ → Lives → Type 0
  InCells p i ls = Cells (λ q. times_in q ls) (λ q. rest_in q ls) (filter_map instance_in (places_in p i ls)) (λ ρ k. CellsHoldIn app ρ k ls)

  block_case : (p : Path) (o : Option Block) (P : Block → Type 0) (ls : Lives) → ((c : Block) → P c → InCells p 0 ls) → WhereBlock o P (ls ≡ Live.no_lives) → InCells p 0 ls
  block_case p None P ls f h = subst (λ y. InCells p 0 y) (sym h) (no_cells (λ q. 0))
  block_case p (Some c) P ls f h = f c h

  mutual
    pub cells : (m b : ℕ) (s : Scope) (ms : MScope) (p : Path) (x : t.Stmt) (l : Live) → Stands app σ τ look m b s ms p x l
        → Cells (λ q. times q l) (λ q. rest q l) (filter_map instance_in (places p l)) (λ ρ k. CellsHold app ρ k l)
    cells m b s ms p (t.text_stmt z) (Live.still n) h = no_cells (λ q. hit q (node n))
    cells m b s ms p (t.comment_stmt z) (Live.still n) h = no_cells (λ q. hit q (node n))
    cells m b s ms p (t.put e) (Live.put_live n z) h = no_cells (λ q. hit q (node n) + occurs q z.made)
    cells m b s ms p (t.element tag ps c) (Live.element_live n made xs zs ls) h =
        own_cells (λ q. (hit q (node n) + (occurs q made + times_attrs q xs)) + times_mods q zs) (λ q. times_in q ls) (λ q. times q (Live.element_live n made xs zs ls)) (λ q. rest_in q ls) (λ q. rest q (Live.element_live n made xs zs ls))
        (filter_map instance_in (places_in p 0 ls)) (filter_map instance_in (places p (Live.element_live n made xs zs ls))) (λ ρ k. CellsHoldIn app ρ k ls) (λ q. omega arith) (λ q. omega arith) (sym (element_instances p xs (places_in p 0 ls) zs))
        (cells_in m b s ms p 0 c ls h.3)
    cells m b s ms p (t.if_stmt e u c d) (Live.branch_live z true k ls) h =
        own_cells (λ q. occurs q z.made + times_comment q k) (λ q. times_in q ls) (λ q. times q (Live.branch_live z true k ls)) (λ q. rest_in q ls) (λ q. rest q (Live.branch_live z true k ls))
        (filter_map instance_in (places_in (main ∷ p) 0 ls)) (filter_map instance_in (places p (Live.branch_live z true k ls))) (λ ρ j. CellsHoldIn app ρ j ls) (λ q. omega arith) (λ q. omega arith) (sym (arm_instances (main ∷ p) k (places_in (main ∷ p) 0 ls)))
        (cells_in m b s ms (main ∷ p) 0 c ls h.3)
    cells m b s ms p (t.if_stmt e u c d) (Live.branch_live z false k ls) h =
        own_cells (λ q. occurs q z.made + times_comment q k) (λ q. times_in q ls) (λ q. times q (Live.branch_live z false k ls)) (λ q. rest_in q ls) (λ q. rest q (Live.branch_live z false k ls))
        (filter_map instance_in (places_in (otherwise ∷ p) 0 ls)) (filter_map instance_in (places p (Live.branch_live z false k ls))) (λ ρ j. CellsHoldIn app ρ j ls) (λ q. omega arith) (λ q. omega arith) (sym (arm_instances (otherwise ∷ p) k (places_in (otherwise ∷ p) 0 ls)))
        (cells_in m b s ms (otherwise ∷ p) 0 d ls h.3)
    cells m b s ms p (t.each e key ns c d) (Live.listed z is) h =
        some_case _ (ListStands app σ τ look m b s ms p key ns c is) _
        (λ us g.
        own_cells (λ q. occurs q z.made) (λ q. times_items q is) (λ q. times q (Live.listed z is)) (λ q. rest_items q is) (λ q. rest q (Live.listed z is))
        (filter_map instance_in (places_items (items ∷ p) is)) (filter_map instance_in (places p (Live.listed z is))) (λ ρ j. CellsHoldItems app ρ j is) (λ q. refl) (λ q. refl) refl (cells_items m b s ms (items ∷ p) ns c _ is g)) h.1
    cells m b s ms p (t.each e key ns c d) (Live.unlisted z k ls) h =
        else_case _ (ElseStands app σ τ look m b s ms p d k ls) _
        (λ g.
        own_cells (λ q. occurs q z.made + times_comment q k) (λ q. times_in q ls) (λ q. times q (Live.unlisted z k ls)) (λ q. rest_in q ls) (λ q. rest q (Live.unlisted z k ls))
        (filter_map instance_in (places_in (otherwise ∷ p) 0 ls)) (filter_map instance_in (places p (Live.unlisted z k ls))) (λ ρ j. CellsHoldIn app ρ j ls) (λ q. omega arith) (λ q. omega arith) (sym (arm_instances (otherwise ∷ p) k (places_in (otherwise ∷ p) 0 ls)))
        (cells_in m b s ms (otherwise ∷ p) 0 d ls g.1)) h.1
    cells m b s ms p (t.let_stmt es ns c) (Live.let_live made rs ls) h =
        own_cells (λ q. occurs q made) (λ q. times_in q ls) (λ q. occurs q made + times_in q ls) (λ q. rest_in q ls) (λ q. occurs q made + rest_in q ls)
        (filter_map instance_in (places_in (main ∷ p) 0 ls)) (filter_map instance_in (places_in (main ∷ p) 0 ls)) (λ ρ j. CellsHoldIn app ρ j ls) (λ q. refl) (λ q. refl) refl (cells_in m _ _ _ (main ∷ p) 0 c ls h.3)
    cells (suc m) b s ms p (t.component_stmt c ps given bs) (Live.component_live i made gm args (Some k) ls) h =
        component_cells i made gm (λ q. times_in q ls) (λ q. rest_in q ls) (filter_map instance_in (places_in i.path 0 ls)) (λ ρ j. CellsHoldIn app ρ j ls) h.1.0 h.3.0
        (λ x f. h.3.1 x (subst (λ j. member_of (class_at app j) x ≡ field_member) h.2 f)) h.4
        (subst (λ j. InCells j 0 ls) (sym h.2) (cells_in m _ _ _ (into c ∷ p) 0 (class_at app (into c ∷ p)).template ls h.7))
    cells zero b s ms p (t.component_stmt c ps given bs) (Live.deep_live q) h = no_cells (λ q. 0)
    cells m b s ms p (t.yield es n) (Live.yield_live k made rs ls) h =
        own_cells (λ q. occurs q made) (λ q. times_in q ls) (λ q. occurs q made + times_in q ls) (λ q. rest_in q ls) (λ q. occurs q made + rest_in q ls)
        (filter_map instance_in (places_in (slot k ∷ p) 0 ls)) (filter_map instance_in (places_in (slot k ∷ p) 0 ls)) (λ ρ j. CellsHoldIn app ρ j ls) (λ q. refl) (λ q. refl) refl
        (subst (λ j. InCells (slot j ∷ p) 0 ls) (sym h.0)
        (block_case (slot n ∷ p) (block_named n (mslots (passed_in ms))) (BlockStands app σ τ look m b s ms p es n made rs ls) ls (λ c g. cells_in m _ _ _ (slot n ∷ p) 0 c.body ls g.3) h.1))
    cells m b s ms p _ _ h = absurd h

    pub cells_in : (m b : ℕ) (s : Scope) (ms : MScope) (p : Path) (i : ℕ) (c : t.Body) (ls : Lives) → StandIn app σ τ look m b s ms p i c ls → InCells p i ls
    cells_in m b s ms p i t.end Live.no_lives h = no_cells (λ q. 0)
    cells_in m b s ms p i (t.stmt x c) (Live.live_and l ls) h =
        as_cells (λ q. times q l + times_in q ls) (λ q. times q l + times_in q ls) (λ q. rest q l + rest_in q ls) (λ q. rest q l + rest_in q ls)
        (filter_map instance_in (places (at i ∷ p) l) ++ filter_map instance_in (places_in p (suc i) ls)) (filter_map instance_in (places (at i ∷ p) l ++ places_in p (suc i) ls))
        (λ ρ k. CellsHold app ρ k l × CellsHoldIn app ρ k ls) (λ ρ k. CellsHold app ρ k l × CellsHoldIn app ρ k ls) (λ q. refl) (λ q. refl) (sym (filter_map_append instance_in (places (at i ∷ p) l) (places_in p (suc i) ls))) (λ ρ k w. w)
        (join_cells (λ q. times q l) (λ q. times_in q ls) (λ q. rest q l) (λ q. rest_in q ls) (filter_map instance_in (places (at i ∷ p) l)) (filter_map instance_in (places_in p (suc i) ls)) (λ ρ k. CellsHold app ρ k l) (λ ρ k. CellsHoldIn app ρ k ls)
        (cells m b s ms (at i ∷ p) x l h.0) (cells_in m b s ms p (suc i) c ls h.1))
    cells_in m b s ms p i _ _ h = absurd h

    pub cells_items : (m b : ℕ) (s : Scope) (ms : MScope) (p : Path) (ns : List Text) (c : t.Body) (xs : List Entry) (is : Items) → ItemsStand app σ τ look m b s ms p ns c xs is
        → Cells (λ q. times_items q is) (λ q. rest_items q is) (filter_map instance_in (places_items p is)) (λ ρ k. CellsHoldItems app ρ k is)
    cells_items m b s ms p ns c [] Live.no_items h = no_cells (λ q. 0)
    cells_items m b s ms p ns c (x ∷ xs) (Live.item_live z k ls is) h =
        let q0 = item z.key z.occurrence ∷ p in
        let here : item x.key x.occurrence ∷ p ≡ q0 = ap₂ (λ a n. item a n ∷ p) (sym h.0.0) (sym h.0.1) in
        let inside = subst (λ j. InCells j 0 ls) here (cells_in m _ _ _ (item x.key x.occurrence ∷ p) 0 c ls h.4) in
        let arm = places_in q0 0 ls ++ comment_places q0 k in
        let one = own_cells (λ q. occurs q (item_made z) + times_comment q k) (λ q. times_in q ls) (λ q. occurs q (item_made z) + (times_in q ls + times_comment q k)) (λ q. rest_in q ls) (λ q. occurs q (item_made z) + (rest_in q ls + times_comment q k))
        (filter_map instance_in (places_in q0 0 ls)) (filter_map instance_in arm) (λ ρ j. CellsHoldIn app ρ j ls) (λ q. omega arith) (λ q. omega arith) (sym (arm_instances q0 k (places_in q0 0 ls))) inside in
        as_cells (λ q. times_items q (Live.item_live z k ls is)) (λ q. times_items q (Live.item_live z k ls is)) (λ q. rest_items q (Live.item_live z k ls is)) (λ q. rest_items q (Live.item_live z k ls is))
        (filter_map instance_in arm ++ filter_map instance_in (places_items p is)) (filter_map instance_in (places_items p (Live.item_live z k ls is))) (λ ρ j. CellsHoldIn app ρ j ls × CellsHoldItems app ρ j is) (λ ρ j. CellsHoldIn app ρ j ls × CellsHoldItems app ρ j is)
        (λ q. refl) (λ q. refl) (sym (filter_map_append instance_in arm (places_items p is))) (λ ρ j w. w)
        (join_cells (λ q. occurs q (item_made z) + (times_in q ls + times_comment q k)) (λ q. times_items q is) (λ q. occurs q (item_made z) + (rest_in q ls + times_comment q k)) (λ q. rest_items q is) (filter_map instance_in arm) (filter_map instance_in (places_items p is))
        (λ ρ j. CellsHoldIn app ρ j ls) (λ ρ j. CellsHoldItems app ρ j is) one (cells_items m b s ms p ns c xs is h.5))
    cells_items m b s ms p ns c _ _ h = absurd h
