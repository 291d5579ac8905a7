-- An instance that is found in a tree that stands is kept as it is, with its cells, and a piece of what the machine shows has the scope of
-- its arguments.
use Rattle.std.proofs.Common.{◌≡◌, ℕ, zero, suc, [], ◌∷◌, ◌++◌, true, false, Option, Some, None, refl, sym, ap₂, subst, inl, inr, ◌⊎◌, List}
use Rattle.std.specs.Prelude.{nat_eq}
use Rattle.gl_base.specs.Texts.{Text}
use Rattle.gl_ast.specs.Template as t
use Rattle.gl_meaning.specs.App.{App}
use Rattle.gl_meaning.specs.Path.{at, main, otherwise, items, item, into, slot, Path}
use Rattle.gl_meaning.specs.Scope.{cell, Scope}
use Rattle.gl_meaning.specs.Eval.{Store, class_at, cell_value, field_member, member_of}
use Rattle.gl_meaning.specs.Laws.{In}
use Rattle.gl_meaning.specs.Render.{Piece, component, Forest, no_pieces, single, join, forest_of, Entry, Block, block_named}
use Rattle.gl_meaning.proofs.Pieces.{none_some}
use Rattle.gl_meaning.proofs.Under.{in_left, in_right}
use Rattle.gl_plain.specs.Ids.{Id, ref, instance_id}
use Rattle.gl_plain.specs.State.{any_of, source_form, Names, Inst, MScope, mscope, MPassed, mnothing, mpassed, passed_in, mslots, mwriter, named_as, with_names, cell_ref, row, instance_row, Thing}
use Rattle.gl_plain.specs.Live
use Rattle.gl_plain.specs.Live.{item_names, Live, Lives, Items}
use Rattle.gl_plain.specs.Renew.{where_block}
use Rattle.gl_plain.specs.Drawn.{drawn_comment, drawn_attrs, drawn_places, drawn_scope, drawn, drawn_items, drawn_in, drawn_app}
use Rattle.gl_plain.specs.Stands.{WhereBlock, CellsStand, Stands, StandIn, ItemsStand, ListStands, ElseStands, BlockStands}
use Rattle.gl_plain.specs.Machine.{RootStands}
use Rattle.gl_naming.proofs.Choices.{where_list, where_else}
use Rattle.gl_acting.specs.Found.{instance_in, instance_of_items, instance_among}
use Rattle.gl_acting.proofs.Picked.{picked_either, picked_own}

-- the instance i with arguments a, in a forest
module _ (app : App) (τ : Store) (look : Id → Option Thing) where
  pub record Stood (i : Inst) (a : Names) (f : Forest) : Type 0 where
    pub kept : look (instance_id i.id) ≡ Some (instance_row i)
    pub cells : (x : Text) → member_of (class_at app i.path) x ≡ field_member
        → look (ref (cell_ref i x)) ≡ Some (row (record { form = source_form (cell i.path x) (cell_value app τ i.path x); last = any_of [] }))
    pub passes : MPassed
    pub body : Forest
    pub shown : In (component i.path (drawn_scope look i a passes) body) f

  module _ (σ : Store) (k : ℕ) (z : Inst × Names) where
    abbrev Here : Forest → Type 0
    Here f = Stood z.0 z.1 f

    wider : (f g : Forest) → ((y : Piece) → In y f → In y g) → Here f → Here g
    wider f g h s = record { kept = s.kept; cells = s.cells; passes = s.passes; body = s.body; shown = h (component z.0.path (drawn_scope look z.0 z.1 s.passes) s.body) s.shown }

    block_stood : (o : Option Block) (F : Block → Forest) (P : Block → Type 0) (ls : Lives) → instance_among k ls ≡ Some z → ((c : Block) → P c → Here (F c)) → WhereBlock o P (ls ≡ Live.no_lives) → Here (where_block o F no_pieces)
    block_stood None F P ls e f h = absurd (none_some z (subst (λ xs. instance_among k xs ≡ Some z) h e))
    block_stood (Some c) F P ls e f h = f c h

    -- a component: itself, or in its body
    stood_component : (i : Inst) (a : Names) (w : MPassed) (made : List Id) (ls : Lives) → look (instance_id i.id) ≡ Some (instance_row i) → CellsStand app σ τ look i made
        → (instance_among k ls ≡ Some z → Here (drawn_in app look (mscope i a [] w) i.path 0 (class_at app i.path).template ls)) → ((nat_eq k i.id ≡ true) × ((i, a) ≡ z)) ⊎ (instance_among k ls ≡ Some z)
        → Here (single (component i.path (drawn_scope look i a w) (drawn_in app look (mscope i a [] w) i.path 0 (class_at app i.path).template ls)))
    stood_component i a w made ls kept cells inside e =
        let f = drawn_in app look (mscope i a [] w) i.path 0 (class_at app i.path).template ls in
        let whole = single (component i.path (drawn_scope look i a w) f) in
        elim e [
          | inl d ↦ subst (λ (y : Inst × Names). Stood y.0 y.1 whole) d.1 (record { kept = kept; cells = λ x g. (cells x g).1; passes = w; body = f; shown = inl (inl refl) })
          | inr d ↦ wider f whole (λ y n. inl (inr n)) (inside d)
        ]

    mutual
      stood : (m b : ℕ) (s : Scope) (ms : MScope) (p : Path) (x : t.Stmt) (l : Live) → Stands app σ τ look m b s ms p x l → instance_in k l ≡ Some z → Here (drawn app look ms p x l)
      stood m b s ms p (t.text_stmt y) (Live.still n) h e = absurd (none_some z e)
      stood m b s ms p (t.comment_stmt y) (Live.still n) h e = absurd (none_some z e)
      stood m b s ms p (t.put y) (Live.put_live n u) h e = absurd (none_some z e)
      stood m b s ms p (t.element tag ps c) (Live.element_live n made xs zs ls) h e =
          wider (drawn_in app look ms p 0 c ls) _ (λ y i. in_right y (forest_of (drawn_attrs look p xs ++ drawn_places look p 0 zs)) _ (inl (inr i))) (stood_in m b s ms p 0 c ls h.3 e)
      stood m b s ms p (t.if_stmt v u c d) (Live.branch_live y true o ls) h e =
          let f = drawn_in app look ms (main ∷ p) 0 c ls in
          wider f _ (λ y i. inr (inl (inr (in_left y f (drawn_comment look (main ∷ p) o) i)))) (stood_in m b s ms (main ∷ p) 0 c ls h.3 e)
      stood m b s ms p (t.if_stmt v u c d) (Live.branch_live y false o ls) h e =
          let f = drawn_in app look ms (otherwise ∷ p) 0 d ls in
          wider f _ (λ y i. inr (inl (inr (in_left y f (drawn_comment look (otherwise ∷ p) o) i)))) (stood_in m b s ms (otherwise ∷ p) 0 d ls h.3 e)
      stood m b s ms p (t.each v key ns c d) (Live.listed y is) h e =
          let f = drawn_items app look ns ms c (items ∷ p) 0 is in
          wider f _ (λ y i. inr (inl (inr i))) (where_list (Here f) _ (ListStands app σ τ look m b s ms p key ns c is) (λ us g. stood_items m b s ms (items ∷ p) ns c _ is 0 g e) h.1)
      stood m b s ms p (t.each v key ns c d) (Live.unlisted y o ls) h e =
          let f = drawn_in app look ms (otherwise ∷ p) 0 d ls in
          wider f _ (λ y i. inr (inl (inr (in_left y f (drawn_comment look (otherwise ∷ p) o) i))))
          (where_else (Here f) _ (ElseStands app σ τ look m b s ms p d o ls) (λ g. stood_in m b s ms (otherwise ∷ p) 0 d ls g.1 e) h.1)
      stood m b s ms p (t.let_stmt es ns c) (Live.let_live made rs ls) h e = stood_in m _ _ (with_names (named_as ns rs) ms) (main ∷ p) 0 c ls h.3 e
      stood (suc m) b s ms p (t.component_stmt c ps given bs) (Live.component_live i made gm args (Some o) ls) h e =
          let w = mpassed o ps bs ms in
          let q = into c ∷ p in
          stood_component i args w made ls h.1.1 h.4
          (λ d. subst (λ j. Here (drawn_in app look (mscope i args [] w) j 0 (class_at app j).template ls)) (sym h.2) (stood_in m _ _ (mscope i args [] w) q 0 (class_at app q).template ls h.7 d))
          (picked_own (nat_eq k i.id) (i, args) z (instance_among k ls) e)
      stood zero b s ms p (t.component_stmt c ps given bs) (Live.deep_live q) h e = absurd (none_some z e)
      stood m b s ms p (t.yield es n) (Live.yield_live o made rs ls) h e =
          block_stood (block_named n (mslots (passed_in ms))) (λ c. drawn_in app look (with_names (named_as c.params rs) (mwriter (passed_in ms))) (slot o ∷ p) 0 c.body ls) (BlockStands app σ τ look m b s ms p es n made rs ls) ls e
          (λ c j. subst (λ d. Here (drawn_in app look (with_names (named_as c.params rs) (mwriter (passed_in ms))) (slot d ∷ p) 0 c.body ls)) (sym h.0) (stood_in m _ _ (with_names (named_as c.params rs) (mwriter (passed_in ms))) (slot n ∷ p) 0 c.body ls j.3 e)) h.1
      stood m b s ms p _ _ h e = absurd h

      stood_in : (m b : ℕ) (s : Scope) (ms : MScope) (p : Path) (i : ℕ) (c : t.Body) (ls : Lives) → StandIn app σ τ look m b s ms p i c ls → instance_among k ls ≡ Some z → Here (drawn_in app look ms p i c ls)
      stood_in m b s ms p i t.end Live.no_lives h e = absurd (none_some z e)
      stood_in m b s ms p i (t.stmt x c) (Live.live_and l ls) h e =
          let f = drawn app look ms (at i ∷ p) x l in
          let g = drawn_in app look ms p (suc i) c ls in
          elim (picked_either (instance_in k l) (instance_among k ls) z e) [
            | inl d ↦ wider f (join f g) (λ y n. in_left y f g n) (stood m b s ms (at i ∷ p) x l h.0 d)
            | inr d ↦ wider g (join f g) (λ y n. in_right y f g n) (stood_in m b s ms p (suc i) c ls h.1 d)
          ]
      stood_in m b s ms p i _ _ h e = absurd h

      stood_items : (m b : ℕ) (s : Scope) (ms : MScope) (p : Path) (ns : List Text) (c : t.Body) (xs : List Entry) (is : Items) (i : ℕ) → ItemsStand app σ τ look m b s ms p ns c xs is → instance_of_items k is ≡ Some z
          → Here (drawn_items app look ns ms c p i is)
      stood_items m b s ms p ns c [] Live.no_items i h e = absurd (none_some z e)
      stood_items m b s ms p ns c (x ∷ xs) (Live.item_live u o ls is) i h e =
          let q0 = item x.key x.occurrence ∷ p in
          let q = item u.key u.occurrence ∷ p in
          let inside = with_names (item_names ns u) ms in
          let f = drawn_in app look inside q 0 c ls in
          elim (picked_either (instance_among k ls) (instance_of_items k is) z e) [
            | inl d ↦ wider f (drawn_items app look ns ms c p i (Live.item_live u o ls is)) (λ y n. inl (inr (in_left y f (drawn_comment look q o) n)))
                (subst (λ j. Here (drawn_in app look inside j 0 c ls)) (sym (ap₂ (λ v n. item v n ∷ p) h.0.0 h.0.1)) (stood_in m _ _ inside q0 0 c ls h.4 d))
            | inr d ↦ wider (drawn_items app look ns ms c p (suc i) is) (drawn_items app look ns ms c p i (Live.item_live u o ls is)) (λ y n. inr n) (stood_items m b s ms p ns c xs is (suc i) h.5 d)
          ]
      stood_items m b s ms p ns c _ _ i h e = absurd h

    pub root_stood : (m : ℕ) (l : Live) → RootStands app σ τ look m l → instance_in k l ≡ Some z → Here (drawn_app app look l)
    root_stood (suc m) (Live.component_live i made gm args None ls) h e =
        let inside = mscope i args [] mnothing in
        stood_component i args mnothing made ls h.0.1 h.3
        (λ d. subst (λ j. Here (drawn_in app look inside j 0 (class_at app j).template ls)) (sym h.1) (stood_in m _ _ inside [] 0 (class_at app []).template ls h.5 d))
        (picked_own (nat_eq k i.id) (i, args) z (instance_among k ls) e)
    root_stood zero (Live.deep_live q) h e = absurd (none_some z e)
    root_stood _ _ h e = absurd h
