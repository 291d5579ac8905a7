-- Each node and each position of a tree that stands is there once.
use Rattle.std.proofs.Common.{◌≡◌, ◌<◌, ◌≤◌, ℕ, zero, suc, ◌+◌, List, [], ◌∷◌, ◌++◌, true, false, Option, Some, None, sym, subst, arith, inl, inr, map}
use Rattle.gl_base.specs.Texts.{Text}
use Rattle.gl_value.specs.Value.{Values, no_values, value}
use Rattle.gl_ast.specs.Template as t
use Rattle.gl_meaning.specs.App.{App}
use Rattle.gl_meaning.specs.Path.{at, main, otherwise, items, item, into, slot, Path}
use Rattle.gl_meaning.specs.Scope.{Pair, Scope}
use Rattle.gl_meaning.specs.Eval.{Store, class_at}
use Rattle.gl_meaning.specs.Parts.{WrittenValue, WrittenModifier}
use Rattle.gl_meaning.specs.Render.{Entry, Block, block_named}
use Rattle.gl_plain.specs.Ids.{Id, ref, node, hit, occurs}
use Rattle.gl_plain.specs.State.{MScope, passed_in, mslots, Thing}
use Rattle.gl_plain.specs.Binding.{Spot}
use Rattle.gl_plain.specs.Live
use Rattle.gl_plain.specs.Live.{Live, Lives, Items, AttrSpot, ModSpot, times, times_in, times_items, times_comment, times_attrs, times_mods}
use Rattle.gl_plain.specs.Stands.{SpottedIn, AttrsStand, ModsStand, WhereValues, WhereBlock, Stands, StandIn, ItemsStand, BlockStands, ListStands, ElseStands, attrs_by, mods_by, tail_of}
use Rattle.gl_plain.specs.Machine.{RootStands}
use Rattle.gl_plain.specs.Counts.{comment_node, nodes_of, nodes_items, nodes_in, attr_positions, mod_positions, positions_of, positions_items, positions_in}
use Rattle.gl_plain.specs.Laws.{EachStandsOnce}
use Rattle.gl_plain.proofs.Moves.{IdCase, id_case, hit_le, hit_other}

parts_occur : (f : ℕ → Id) (q : Id) (xs ys : List ℕ) → occurs q (map f (xs ++ ys)) ≡ occurs q (map f xs) + occurs q (map f ys)
parts_occur f q [] ys = omega arith
parts_occur f q (x ∷ xs) ys = let h = parts_occur f q xs ys in omega (arith, h)

module _ (q : Id) where
  -- Nodes

  abbrev Nodes : List ℕ → ℕ
  Nodes ns = occurs q (map node ns)

  comment_once : (k : Option ℕ) → Nodes (comment_node k) ≤ times_comment q k
  comment_once None = omega arith
  comment_once (Some n) = omega arith

  arm_once : (k : Option ℕ) (ls : Lives) → Nodes (nodes_in ls) ≤ times_in q ls → Nodes (nodes_in ls ++ comment_node k) ≤ times_in q ls + times_comment q k
  arm_once k ls h = let e = parts_occur node q (nodes_in ls) (comment_node k) in let i = comment_once k in omega (arith, e, h, i)

  mutual
    nodes_once : (l : Live) → Nodes (nodes_of l) ≤ times q l
    nodes_once (Live.still n) = omega arith
    nodes_once (Live.put_live n z) = omega arith
    nodes_once (Live.element_live n made xs zs ls) = let h = nodes_in_once ls in omega (arith, h)
    nodes_once (Live.branch_live z u k ls) = let h = arm_once k ls (nodes_in_once ls) in omega (arith, h)
    nodes_once (Live.listed z is) = let h = nodes_items_once is in omega (arith, h)
    nodes_once (Live.unlisted z k ls) = let h = arm_once k ls (nodes_in_once ls) in omega (arith, h)
    nodes_once (Live.let_live made rs ls) = let h = nodes_in_once ls in omega (arith, h)
    nodes_once (Live.component_live i made gm args b ls) = let h = nodes_in_once ls in omega (arith, h)
    nodes_once (Live.yield_live k made rs ls) = let h = nodes_in_once ls in omega (arith, h)
    nodes_once (Live.deep_live p) = omega arith

    nodes_items_once : (is : Items) → Nodes (nodes_items is) ≤ times_items q is
    nodes_items_once Live.no_items = omega arith
    nodes_items_once (Live.item_live z k ls is) =
        let e = parts_occur node q (nodes_in ls ++ comment_node k) (nodes_items is) in
        let h = arm_once k ls (nodes_in_once ls) in
        let i = nodes_items_once is in omega (arith, e, h, i)

    nodes_in_once : (ls : Lives) → Nodes (nodes_in ls) ≤ times_in q ls
    nodes_in_once Live.no_lives = omega arith
    nodes_in_once (Live.live_and l ls) =
        let e = parts_occur node q (nodes_of l) (nodes_in ls) in let h = nodes_once l in let i = nodes_in_once ls in omega (arith, e, h, i)

  -- Positions

  abbrev Refs : List ℕ → ℕ
  Refs rs = occurs q (map ref rs)

  own_once : (r : ℕ) (made : List Id) → 0 < occurs (ref r) made → hit q (ref r) ≤ occurs q made
  own_once r made w = by (id_case q (ref r)) where
    by : IdCase q (ref r) → hit q (ref r) ≤ occurs q made
    by (inl e) = let k : 0 < occurs q made = subst (λ i. 0 < occurs i made) (sym e.1) w in let h = hit_le q (ref r) in omega (arith, k, h)
    by (inr e) = let h = hit_other q (ref r) e in omega (arith, h)

  list_once : (us : Values Path) (P : Values Path → Type 0) (Q : Type 0) → ((us : Values Path) → P us → Q) → WhereValues us P ⊥ → Q
  list_once no_values P Q f h = absurd h
  list_once (value v us) P Q f h = f (value v us) h

  else_once : (us : Values Path) (P Q : Type 0) → (P → Q) → WhereValues us (λ z. ⊥) P → Q
  else_once no_values P Q f h = f h
  else_once (value v us) P Q f h = absurd h

  block_once : (o : Option Block) (P : Block → Type 0) (ls : Lives) → ((c : Block) → P c → Refs (positions_in ls) ≤ times_in q ls) → WhereBlock o P (ls ≡ Live.no_lives) → Refs (positions_in ls) ≤ times_in q ls
  block_once None P ls f h = subst (λ y. Refs (positions_in y) ≤ times_in q y) (sym h) (omega arith)
  block_once (Some c) P ls f h = f c h

  module _ (app : App) (σ τ : Store) (look : Id → Option Thing) where
    spot_once : (ms : MScope) (more : List Id) (z : Spot) (E : Store → (ℕ → Pair) → List Pair) (ps : List Pair) → SpottedIn app look ms more z E ps → hit q (ref z.ref) ≤ occurs q z.made
    spot_once ms more z E ps h = own_once z.ref z.made h.own

    attrs_once : (made : List Id) (s : Scope) (ms : MScope) (ws : Scope → List (WrittenValue Scope)) (ns : List Text) (xs : List AttrSpot) → AttrsStand app σ τ look made s ms ws ns xs → Refs (attr_positions xs) ≤ times_attrs q xs
    attrs_once made s ms ws [] [] h = omega arith
    attrs_once made s ms ws (n ∷ ns) (a ∷ xs) h = let i = spot_once ms made a.spot _ _ h.1 in let k = attrs_once made s ms ws ns xs h.2 in omega (arith, i, k)
    attrs_once made s ms ws _ _ h = absurd h

    mods_once : (made : List Id) (n : ℕ) (s : Scope) (ms : MScope) (ws : Scope → List (WrittenModifier Scope)) (i : ℕ) (ds : List (WrittenModifier Scope)) (zs : List ModSpot)
        → ModsStand app σ τ look made n s ms ws i ds zs → Refs (mod_positions zs) ≤ times_mods q zs
    mods_once made n s ms ws i [] [] h = omega arith
    mods_once made n s ms ws i (d ∷ ds) (z ∷ zs) h = let j = spot_once ms made z.spot _ _ h.3 in let k = mods_once made n s ms (λ s'. tail_of (ws s')) (suc i) ds zs h.4 in omega (arith, j, k)
    mods_once made n s ms ws i _ _ h = absurd h

    mutual
      once : (m b : ℕ) (s : Scope) (ms : MScope) (p : Path) (x : t.Stmt) (l : Live) → Stands app σ τ look m b s ms p x l → Refs (positions_of l) ≤ times q l
      once m b s ms p (t.text_stmt z) (Live.still n) h = omega arith
      once m b s ms p (t.comment_stmt z) (Live.still n) h = omega arith
      once m b s ms p (t.put e) (Live.put_live n z) h = let i = spot_once ms [] z _ _ h.1 in omega (arith, i)
      once m b s ms p (t.element tag ps c) (Live.element_live n made xs zs ls) h =
          let e = parts_occur ref q (attr_positions xs) (positions_in ls ++ mod_positions zs) in
          let f = parts_occur ref q (positions_in ls) (mod_positions zs) in
          let i = attrs_once made s ms (attrs_by ps) _ xs h.1 in
          let j = mods_once made n s ms (mods_by ps) 0 _ zs h.2 in
          let k = once_in m b s ms p 0 c ls h.3 in omega (arith, e, f, i, j, k)
      once m b s ms p (t.if_stmt e u c d) (Live.branch_live z true k ls) h = let i = spot_once ms [] z _ _ h.0 in let j = once_in m b s ms (main ∷ p) 0 c ls h.3 in omega (arith, i, j)
      once m b s ms p (t.if_stmt e u c d) (Live.branch_live z false k ls) h = let i = spot_once ms [] z _ _ h.0 in let j = once_in m b s ms (otherwise ∷ p) 0 d ls h.3 in omega (arith, i, j)
      once m b s ms p (t.each e key ns c d) (Live.listed z is) h =
          let i = spot_once ms [] z _ _ h.0 in
          let j = list_once _ (ListStands app σ τ look m b s ms p key ns c is) (Refs (positions_items is) ≤ times_items q is) (λ us g. once_items m b s ms (items ∷ p) ns c _ is g) h.1 in omega (arith, i, j)
      once m b s ms p (t.each e key ns c d) (Live.unlisted z k ls) h =
          let i = spot_once ms [] z _ _ h.0 in
          let j = else_once _ (ElseStands app σ τ look m b s ms p d k ls) (Refs (positions_in ls) ≤ times_in q ls) (λ g. once_in m b s ms (otherwise ∷ p) 0 d ls g.1) h.1 in omega (arith, i, j)
      once m b s ms p (t.let_stmt es ns c) (Live.let_live made rs ls) h = let j = once_in m _ _ _ (main ∷ p) 0 c ls h.3 in omega (arith, j)
      once (suc m) b s ms p (t.component_stmt c ps given bs) (Live.component_live i made gm args (Some k) ls) h = let j = once_in m _ _ _ (into c ∷ p) 0 (class_at app (into c ∷ p)).template ls h.7 in omega (arith, j)
      once zero b s ms p (t.component_stmt c ps given bs) (Live.deep_live r) h = omega arith
      once m b s ms p (t.yield es n) (Live.yield_live k made rs ls) h =
          let j = block_once (block_named n (mslots (passed_in ms))) (BlockStands app σ τ look m b s ms p es n made rs ls) ls (λ c g. once_in m _ _ _ (slot n ∷ p) 0 c.body ls g.3) h.1 in omega (arith, j)
      once m b s ms p _ _ h = absurd h

      once_in : (m b : ℕ) (s : Scope) (ms : MScope) (p : Path) (i : ℕ) (c : t.Body) (ls : Lives) → StandIn app σ τ look m b s ms p i c ls → Refs (positions_in ls) ≤ times_in q ls
      once_in m b s ms p i t.end Live.no_lives h = omega arith
      once_in m b s ms p i (t.stmt x c) (Live.live_and l ls) h =
          let e = parts_occur ref q (positions_of l) (positions_in ls) in let j = once m b s ms (at i ∷ p) x l h.0 in let k = once_in m b s ms p (suc i) c ls h.1 in omega (arith, e, j, k)
      once_in m b s ms p i _ _ h = absurd h

      once_items : (m b : ℕ) (s : Scope) (ms : MScope) (p : Path) (ns : List Text) (c : t.Body) (xs : List Entry) (is : Items) → ItemsStand app σ τ look m b s ms p ns c xs is → Refs (positions_items is) ≤ times_items q is
      once_items m b s ms p ns c [] Live.no_items h = omega arith
      once_items m b s ms p ns c (x ∷ xs) (Live.item_live z o ls is) h =
          let e = parts_occur ref q (positions_in ls) (positions_items is) in
          let j = once_in m _ _ _ (item x.key x.occurrence ∷ p) 0 c ls h.4 in
          let k = once_items m b s ms p ns c xs is h.5 in omega (arith, e, j, k)
      once_items m b s ms p ns c _ _ h = absurd h

    root_once : (m : ℕ) (l : Live) → RootStands app σ τ look m l → Refs (positions_of l) ≤ times q l
    root_once (suc m) (Live.component_live i made gm args None ls) h = let j = once_in m _ _ _ [] 0 (class_at app []).template ls h.5 in omega (arith, j)
    root_once zero (Live.deep_live r) h = omega arith
    root_once _ _ h = absurd h

pub each_stands_once : EachStandsOnce
each_stands_once app σ τ st l h = (
  λ n. let i = nodes_once (node n) l in let j = h.owned.once (node n) in omega (arith, i, j),
  λ r. let i = root_once (ref r) app σ τ st.look app.limit l h.stands in let j = h.owned.once (ref r) in omega (arith, i, j),
)
