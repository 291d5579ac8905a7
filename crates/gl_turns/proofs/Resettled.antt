-- What stands for a store stands for each store that has the same in the cells of the instances that are there.
use Rattle.std.proofs.Common.{◌≡◌, ℕ, zero, suc, max, List, [], ◌∷◌, ◌++◌, map, Bool, true, false, Option, Some, None, cond, refl, sym, ap, ap₂, ◌∙◌, subst, inl, inr}
use mathlib.Core.Path.{fun_ext}
use Rattle.std.specs.Prelude.{filter, filter_map, flat_map, if◌then◌else◌, codes}
use Rattle.std.specs.List.{cons_option}
use Rattle.std.specs.Str.{bytes_eq}
use Rattle.gl_base.specs.Texts.{Text}
use Rattle.gl_base.specs.Names.{named}
use Rattle.gl_value.specs.Value.{Values, no_values, value, text_of}
use Rattle.gl_ast.specs.Template as t
use Rattle.gl_ast.specs.Template.{Part, AttrValue, Plain}
use Rattle.gl_meaning.specs.App.{App}
use Rattle.gl_meaning.specs.Path.{at, main, otherwise, items, item, into, slot, Path}
use Rattle.gl_meaning.specs.Scope.{cell, Pair, NamedPairs, Scope, scope, Passed, nothing_passed, passed, this_of, passed_of, with_locals, bind}
use Rattle.gl_meaning.specs.Eval.{Held, Store, class_at, cell_value, eval_all, eval_named, eval_value, eval_given, takes_first, values_in}
use Rattle.gl_meaning.specs.Parts.{Written, WrittenValue, WrittenModifier, spread_in, passed_parts, written_parts, attribute_in, attributes_in, distinct_names, last_only, taken_values, some_live, taken_pairs, attrs_from, modifier_in, modifiers_in}
use Rattle.gl_meaning.specs.Known.{Among}
use Rattle.gl_meaning.specs.Render.{Entry, entries, entry_pairs, values_listed, Block, block_named, draw}
use Rattle.gl_meaning.specs.Changes.{instances, cells_of, settle}
use Rattle.gl_meaning.proofs.Equal.{text_means}
use Rattle.gl_meaning.proofs.Pieces.{among_left, among_right}
use Rattle.gl_meaning.proofs.Settled.{AgreeAt, AgreeScope, AgreePassed, eval_all_same, eval_named_same, value_same, settle_settled}
use Rattle.gl_plain.specs.Ids.{Id, ref, node, occurs}
use Rattle.gl_plain.specs.State.{Inst, MScope, mscope, mnothing, mpassed, cell_ref, writer, mwriter, mslots, passed_in, named_as, with_names, element_content, text_content, content, modifier_row, Thing, State}
use Rattle.gl_plain.specs.Binding.{first_value}
use Rattle.gl_plain.specs.Live.{AttrSpot, ModSpot, item_names, item_made, Live, Lives, Items}
use Rattle.gl_plain.specs.Live
use Rattle.gl_plain.specs.Stands.{top, SpottedIn, Spotted, exprs_by, one_expr, attrs_by, mods_by, tail_of, head_of, pairs_for, WhereValues, WhereBlock, AttrsStand, ModsStand, CommentStands, CellsStand, Stands, StandIn, ItemsStand, BlockStands, ListStands, ElseStands}
use Rattle.gl_plain.specs.Machine.{no_place, RootStands}
use Rattle.gl_plain.proofs.Cells.{field_named}
use Rattle.gl_turns.specs.Places.{Place, instance_place, instance_in, comment_places, attr_places, mod_places, places, places_items, places_in}
use Rattle.gl_turns.specs.Laws.{SettledStands}
use Rattle.gl_turns.proofs.Found.{found_in, among_mapped}
use Rattle.gl_turns.proofs.Numbered.{tree_agrees}
use Rattle.gl_turns.proofs.Touched.{source_row}

module _ (app : App) (σ τ : Store) where
  -- Parts of elements, written in scopes where both stores have the same

  abbrev AgreeValues : List (WrittenValue Scope) → Type 0
  AgreeValues [] = Unit {0}
  AgreeValues (w ∷ ws) = AgreeAt app σ τ (this_of w.by) × AgreeValues ws

  abbrev AgreeModifiers : List (WrittenModifier Scope) → Type 0
  AgreeModifiers [] = Unit {0}
  AgreeModifiers (w ∷ ws) = AgreeAt app σ τ (this_of w.by) × AgreeModifiers ws

  abbrev AgreeWritten : List (Written Scope) → Type 0
  AgreeWritten [] = Unit {0}
  AgreeWritten (w ∷ ws) = AgreeAt app σ τ (this_of w.by) × AgreeWritten ws

  written_append : (ws vs : List (Written Scope)) → AgreeWritten ws → AgreeWritten vs → AgreeWritten (ws ++ vs)
  written_append [] vs a b = b
  written_append (w ∷ ws) vs a b = (a.0, written_append ws vs a.1 b)

  spread_agrees : (for : List (Written Scope)) (w : Scope) (ps : List Part) → AgreeWritten for → AgreeAt app σ τ (this_of w) → AgreeWritten (spread_in for w ps)
  spread_agrees for w [] a b = tt
  spread_agrees for w (t.spread ∷ ps) a b = written_append for _ a (spread_agrees for w ps a b)
  spread_agrees for w (t.attribute n v ∷ ps) a b = (b, spread_agrees for w ps a b)
  spread_agrees for w (t.modifier n es ns ∷ ps) a b = (b, spread_agrees for w ps a b)

  passed_agrees : (w : Passed) → AgreePassed app σ τ w → AgreeWritten (passed_parts w)
  passed_agrees nothing_passed a = tt
  passed_agrees (passed ps bs (scope i b l w)) a = spread_agrees (passed_parts w) (scope i b l w) ps (passed_agrees w a.1) a.0

  parts_agree : (w : Scope) (ps : List Part) → AgreeScope app σ τ w → AgreeWritten (written_parts w ps)
  parts_agree (scope i b l w) ps a = spread_agrees (passed_parts w) (scope i b l w) ps (passed_agrees w a.1) a.0

  attribute_agrees : (b : Scope) (q : Part) → AgreeAt app σ τ (this_of b) → (ws : List (WrittenValue Scope)) → AgreeValues ws → AgreeValues (cons_option (attribute_in b q) ws)
  attribute_agrees b (t.attribute n v) a ws h = (a, h)
  attribute_agrees b (t.modifier n es ns) a ws h = h
  attribute_agrees b t.spread a ws h = h

  attributes_agree : (ws : List (Written Scope)) → AgreeWritten ws → AgreeValues (attributes_in ws)
  attributes_agree [] a = tt
  attributes_agree (w ∷ ws) a = attribute_agrees w.by w.part a.0 (attributes_in ws) (attributes_agree ws a.1)

  modifier_agrees : (b : Scope) (q : Part) → AgreeAt app σ τ (this_of b) → (ws : List (WrittenModifier Scope)) → AgreeModifiers ws → AgreeModifiers (cons_option (modifier_in b q) ws)
  modifier_agrees b (t.attribute n v) a ws h = h
  modifier_agrees b (t.modifier n es ns) a ws h = (a, h)
  modifier_agrees b t.spread a ws h = h

  modifiers_agree : (ws : List (Written Scope)) → AgreeWritten ws → AgreeModifiers (modifiers_in ws)
  modifiers_agree [] a = tt
  modifiers_agree (w ∷ ws) a = modifier_agrees w.by w.part a.0 (modifiers_in ws) (modifiers_agree ws a.1)

  filter_agrees : (test : WrittenValue Scope → Bool) (ws : List (WrittenValue Scope)) → AgreeValues ws → AgreeValues (filter test ws)
  filter_agrees test [] a = tt
  filter_agrees test (w ∷ ws) a = elim (test w) as (λ b. AgreeValues (cond b (w ∷ filter test ws) (filter test ws))) [ true ↦ (a.0, filter_agrees test ws a.1) | false ↦ filter_agrees test ws a.1 ]

  last_agrees : (ws : List (WrittenValue Scope)) → AgreeValues ws → AgreeValues (last_only ws)
  last_agrees [] a = tt
  last_agrees (w ∷ []) a = a
  last_agrees (w ∷ v ∷ ws) a = last_agrees (v ∷ ws) a.1

  taken_agree : (n : Text) (ws : List (WrittenValue Scope)) → AgreeValues ws → AgreeValues (taken_values n ws)
  taken_agree n ws a =
      let group = filter (λ w. bytes_eq n w.name) ws in
      let h : AgreeValues group = filter_agrees _ ws a in
      elim (bytes_eq n (codes "class")) as (λ b. AgreeValues (if b then group else last_only group)) [ true ↦ h | false ↦ last_agrees group h ]

  values_same : (ws : List (WrittenValue Scope)) → AgreeValues ws → map (λ w. eval_value app σ w.by w.value) ws ≡ map (λ w. eval_value app τ w.by w.value) ws
  values_same [] a = refl
  values_same (w ∷ ws) a = ap₂ (λ y ys. y ∷ ys) (value_same app σ τ w.by a.0 w.value) (values_same ws a.1)

  taken_same : (s : Scope) (ps : List Part) → AgreeScope app σ τ s → taken_pairs app σ (attrs_by ps s) ≡ taken_pairs app τ (attrs_by ps s)
  taken_same s ps a = fun_ext (λ n. values_same (taken_values n (attrs_by ps s)) (taken_agree n (attrs_by ps s) (attributes_agree (written_parts s ps) (parts_agree s ps a))))

  given_same : (w : Scope) → AgreeAt app σ τ (this_of w) → (gs : List (Text × AttrValue)) → eval_given app σ w gs ≡ eval_given app τ w gs
  given_same w a [] = refl
  given_same w a (g ∷ gs) = ap₂ (λ y ys. (g.0, y) ∷ ys) (value_same app σ τ w a g.1) (given_same w a gs)

  -- Scopes

  agree_this : (w : Scope) → AgreeScope app σ τ w → AgreeAt app σ τ (this_of w)
  agree_this (scope i b l o) a = a.0

  agree_locals : (w : Scope) (l : NamedPairs) → AgreeScope app σ τ w → AgreeScope app σ τ (with_locals l w)
  agree_locals (scope i b m o) l a = a

  module _ (none : AgreeAt app σ τ []) where
    agree_writer : (w : Scope) → AgreeScope app σ τ w → AgreeScope app σ τ (writer (passed_of w))
    agree_writer (scope i b l nothing_passed) a = (none, tt)
    agree_writer (scope i b l (passed ps bs v)) a = a.1

    -- What stands

    abbrev Agreed : List Place → Type 0
    Agreed xs = (i : Inst) → Among (instance_place i.path i) xs → AgreeAt app σ τ i.path

    module _ (look : Id → Option Thing) where
      attrs_again : (made : List Id) (s : Scope) (ms : MScope) (ps : List Part) → AgreeScope app σ τ s → (ns : List Text) (xs : List AttrSpot) → AttrsStand app σ σ look made s ms (attrs_by ps) ns xs → AttrsStand app τ τ look made s ms (attrs_by ps) ns xs
      attrs_again made s ms ps a [] [] h = tt
      attrs_again made s ms ps a (n ∷ ns) (x ∷ xs) h =
          (h.0, subst (λ f. SpottedIn app look ms made x.spot (λ ρ g. taken_pairs app ρ (attrs_by ps (Rattle.gl_plain.specs.State.scope_by g ms)) n) (f n)) (taken_same s ps a) h.1, attrs_again made s ms ps a ns xs h.2)
      attrs_again made s ms ps a [] (x ∷ xs) h = absurd h
      attrs_again made s ms ps a (n ∷ ns) [] h = absurd h

      mods_again : (made : List Id) (n : ℕ) (s : Scope) (ms : MScope) (ws : Scope → List (WrittenModifier Scope)) (i : ℕ) (ds : List (WrittenModifier Scope)) (zs : List ModSpot) → AgreeModifiers ds
          → ModsStand app σ σ look made n s ms ws i ds zs → ModsStand app τ τ look made n s ms ws i ds zs
      mods_again made n s ms ws i [] [] a h = tt
      mods_again made n s ms ws i (d ∷ ds) (z ∷ zs) a h =
          let es = eval_all_same app σ τ d.by a.0 d.args in
          let ns = eval_named_same app σ τ d.by a.0 d.names in
          let rest = mods_again made n s ms (λ s'. tail_of (ws s')) (suc i) ds zs a.1 h.4 in
          let M : List Pair → NamedPairs → Type 0 = λ es ns.
          (look (record { kind = Rattle.gl_plain.specs.Ids.a_modifier; num = z.id }) ≡ Some (modifier_row (record { on_node = n; place = i; name = d.name; args = values_in es; names = map (λ x. (x.0, x.1.value)) ns })))
          × (z.positional ≡ Rattle.std.specs.Prelude.length es) × (z.names ≡ map (λ x. x.0) ns)
          × SpottedIn app look ms made z.spot (λ ρ f. pairs_for app ρ (head_of (ws (Rattle.gl_plain.specs.State.scope_by f ms)))) (es ++ map (λ x. x.1) ns) in
          let one = subst (λ y. M y (eval_named app τ d.by d.names)) es (subst (λ y. M (eval_all app σ d.by d.args) y) ns (h.0, h.1, h.2, h.3)) in
          (one.0, one.1, one.2, one.3, rest)
      mods_again made n s ms ws i [] (z ∷ zs) a h = absurd h
      mods_again made n s ms ws i (d ∷ ds) [] a h = absurd h

      cells_again : (i : Inst) (made : List Id) → AgreeAt app σ τ i.path → CellsStand app σ σ look i made → CellsStand app τ τ look i made
      cells_again i made a h x e = let f = field_named (named x (class_at app i.path).fields) (named x (class_at app i.path).getters) e in ((h x e).0, (h x e).1 ∙ ap (source_row (cell i.path x)) (a x f.0 f.1))

      comment_again : (k : Option ℕ) (ls : Lives) → CommentStands app σ σ look k ls → CommentStands app τ τ look k ls
      comment_again None ls h = h
      comment_again (Some n) ls h = h

      list_again : (us : Values Path) (P P' : Values Path → Type 0) → ((us : Values Path) → P us → P' us) → WhereValues us P ⊥ → WhereValues us P' ⊥
      list_again no_values P P' f h = h
      list_again (value v us) P P' f h = f (value v us) h

      else_again : (us : Values Path) (Q Q' : Type 0) → (Q → Q') → WhereValues us (λ z. ⊥) Q → WhereValues us (λ z. ⊥) Q'
      else_again no_values Q Q' f h = f h
      else_again (value v us) Q Q' f h = h

      block_again : (o : Option Block) (P P' : Block → Type 0) (Q : Type 0) → ((b : Block) → P b → P' b) → WhereBlock o P Q → WhereBlock o P' Q
      block_again None P P' Q f h = h
      block_again (Some b) P P' Q f h = f b h

      mutual
        pub again : (m b : ℕ) (s : Scope) (ms : MScope) (p : Path) (x : t.Stmt) (l : Live) → AgreeScope app σ τ s → Agreed (places p l) → Stands app σ σ look m b s ms p x l → Stands app τ τ look m b s ms p x l
        again m b s ms p (t.text_stmt z) (Live.still n) a g h = h
        again m b s ms p (t.comment_stmt z) (Live.still n) a g h = h
        again m b s ms p (t.put e) (Live.put_live n z) a g h =
            subst (λ vs. (look (node n) ≡ Some (content (text_content (text_of (first_value vs))))) × Spotted app look ms z (exprs_by app ms (one_expr e)) vs) (eval_all_same app σ τ s (agree_this s a) (one_expr e)) h
        again m b s ms p (t.element tag ps c) (Live.element_live n made xs zs ls) a g h =
            let vs = attrs_by ps s in (
              subst (λ f. look (node n) ≡ Some (content (element_content tag (attrs_from vs f)))) (taken_same s ps a) h.0,
              attrs_again made s ms ps a (filter (λ k. some_live (taken_values k vs)) (distinct_names vs)) xs h.1,
              mods_again made n s ms (mods_by ps) 0 (mods_by ps s) zs (modifiers_agree (written_parts s ps) (parts_agree s ps a)) h.2,
              again_in m b s ms p 0 c ls a (λ i k. g i (inr (among_right (instance_place i.path i) (attr_places p xs) (places_in p 0 ls ++ mod_places p 0 zs) (among_left (instance_place i.path i) (places_in p 0 ls) (mod_places p 0 zs) k)))) h.3,
            )
        again m b s ms p (t.if_stmt e u c d) (Live.branch_live z true k ls) a g h =
            let y = subst (λ vs. Spotted app look ms z (exprs_by app ms (one_expr e)) vs × (takes_first u (first_value vs) ≡ true)) (eval_all_same app σ τ s (agree_this s a) (one_expr e)) (h.0, h.1) in
            (y.0, y.1, comment_again k ls h.2, again_in m b s ms (main ∷ p) 0 c ls a (λ i w. g i (inr (among_left (instance_place i.path i) (places_in (main ∷ p) 0 ls) (comment_places (main ∷ p) k) w))) h.3)
        again m b s ms p (t.if_stmt e u c d) (Live.branch_live z false k ls) a g h =
            let y = subst (λ vs. Spotted app look ms z (exprs_by app ms (one_expr e)) vs × (takes_first u (first_value vs) ≡ false)) (eval_all_same app σ τ s (agree_this s a) (one_expr e)) (h.0, h.1) in
            (y.0, y.1, comment_again k ls h.2, again_in m b s ms (otherwise ∷ p) 0 d ls a (λ i w. g i (inr (among_left (instance_place i.path i) (places_in (otherwise ∷ p) 0 ls) (comment_places (otherwise ∷ p) k) w))) h.3)
        again m b s ms p (t.each e key ns c d) (Live.listed z is) a g h =
            let y = list_again (values_listed (first_value (eval_all app σ s (one_expr e)))) (ListStands app σ σ look m b s ms p key ns c is) (ListStands app τ τ look m b s ms p key ns c is)
            (λ us k. again_items m b s ms (items ∷ p) ns c (entries key 0 [] us) is a (λ i w. g i (inr w)) k) h.1 in
            subst (λ vs. Spotted app look ms z (exprs_by app ms (one_expr e)) vs × WhereValues (values_listed (first_value vs)) (ListStands app τ τ look m b s ms p key ns c is) ⊥) (eval_all_same app σ τ s (agree_this s a) (one_expr e)) (h.0, y)
        again m b s ms p (t.each e key ns c d) (Live.unlisted z k ls) a g h =
            let y = else_again (values_listed (first_value (eval_all app σ s (one_expr e)))) (ElseStands app σ σ look m b s ms p d k ls) (ElseStands app τ τ look m b s ms p d k ls)
            (λ w. (comment_again k ls w.0, again_in m b s ms (otherwise ∷ p) 0 d ls a (λ i u. g i (inr (among_left (instance_place i.path i) (places_in (otherwise ∷ p) 0 ls) (comment_places (otherwise ∷ p) k) u))) w.1)) h.1 in
            subst (λ vs. Spotted app look ms z (exprs_by app ms (one_expr e)) vs × WhereValues (values_listed (first_value vs)) (λ w. ⊥) (ElseStands app τ τ look m b s ms p d k ls)) (eval_all_same app σ τ s (agree_this s a) (one_expr e)) (h.0, y)
        again m b s ms p (t.let_stmt es ns c) (Live.let_live made rs ls) a g h =
            let b' = max b (top made) in
            let y = again_in m b' (with_locals (bind ns (eval_all app σ s es)) s) (with_names (named_as ns rs) ms) (main ∷ p) 0 c ls (agree_locals s (bind ns (eval_all app σ s es)) a) g h.3 in
            (h.0, h.1, h.2, subst (λ vs. StandIn app τ τ look m b' (with_locals (bind ns vs) s) (with_names (named_as ns rs) ms) (main ∷ p) 0 c ls) (eval_all_same app σ τ s (agree_this s a) es) y)
        again (suc m) b s ms p (t.component_stmt c ps given bs) (Live.component_live i made gm args (Some k) ls) a g h =
            let q = into c ∷ p in
            let b' = max b (top made) in
            let here : AgreeAt app σ τ q = subst (AgreeAt app σ τ) h.2 (g i (inl refl)) in
            let inside : Agreed (places_in q 0 ls) = subst (λ j. Agreed (places_in j 0 ls)) h.2 (λ j w. g j (inr w)) in
            let y = again_in m b' (scope q (eval_given app σ s given) [] (passed ps bs s)) (mscope i args [] (mpassed k ps bs ms)) q 0 (class_at app q).template ls (here, a) inside h.7 in (
              h.0,
              h.1,
              h.2,
              h.3,
              cells_again i made (g i (inl refl)) h.4,
              h.5,
              h.6,
              subst (λ vs. StandIn app τ τ look m b' (scope q vs [] (passed ps bs s)) (mscope i args [] (mpassed k ps bs ms)) q 0 (class_at app q).template ls) (given_same s (agree_this s a) given) y,
            )
        again zero b s ms p (t.component_stmt c ps given bs) (Live.deep_live q) a g h = h
        again m b s ms p (t.yield es n) (Live.yield_live k made rs ls) a g h =
            let b' = max b (top made) in
            let inside : Agreed (places_in (slot n ∷ p) 0 ls) = subst (λ j. Agreed (places_in (slot j ∷ p) 0 ls)) h.0 g in (
              h.0,
              block_again (block_named n (mslots (passed_in ms))) (BlockStands app σ σ look m b s ms p es n made rs ls) (BlockStands app τ τ look m b s ms p es n made rs ls) (ls ≡ Live.no_lives)
                  (λ c w.
                  let names = named_as c.params rs in
                  let v = with_locals (bind c.params (eval_all app σ s es)) (writer (passed_of s)) in
                  let y = again_in m b' v (with_names names (mwriter (passed_in ms))) (slot n ∷ p) 0 c.body ls (agree_locals (writer (passed_of s)) (bind c.params (eval_all app σ s es)) (agree_writer s a)) inside w.3 in
                  (w.0, w.1, w.2, subst (λ vs. StandIn app τ τ look m b' (with_locals (bind c.params vs) (writer (passed_of s))) (with_names names (mwriter (passed_in ms))) (slot n ∷ p) 0 c.body ls) (eval_all_same app σ τ s (agree_this s a) es) y)) h.1,
            )
        again m b s ms p _ _ a g h = absurd h

        pub again_in : (m b : ℕ) (s : Scope) (ms : MScope) (p : Path) (i : ℕ) (c : t.Body) (ls : Lives) → AgreeScope app σ τ s → Agreed (places_in p i ls) → StandIn app σ σ look m b s ms p i c ls → StandIn app τ τ look m b s ms p i c ls
        again_in m b s ms p i t.end Live.no_lives a g h = tt
        again_in m b s ms p i (t.stmt x c) (Live.live_and l ls) a g h = (
          again m b s ms (at i ∷ p) x l a (λ j w. g j (among_left (instance_place j.path j) (places (at i ∷ p) l) (places_in p (suc i) ls) w)) h.0,
          again_in m b s ms p (suc i) c ls a (λ j w. g j (among_right (instance_place j.path j) (places (at i ∷ p) l) (places_in p (suc i) ls) w)) h.1,
        )
        again_in m b s ms p i _ _ a g h = absurd h

        pub again_items : (m b : ℕ) (s : Scope) (ms : MScope) (p : Path) (ns : List Text) (c : t.Body) (xs : List Entry) (is : Items) → AgreeScope app σ τ s → Agreed (places_items p is) → ItemsStand app σ σ look m b s ms p ns c xs is → ItemsStand app τ τ look m b s ms p ns c xs is
        again_items m b s ms p ns c [] Live.no_items a g h = tt
        again_items m b s ms p ns c (x ∷ xs) (Live.item_live z k ls is) a g h =
            let q = item x.key x.occurrence ∷ p in
            let q0 = item z.key z.occurrence ∷ p in
            let here : q0 ≡ q = ap₂ (λ y n. item y n ∷ p) h.0.0 h.0.1 in
            let arm = places_in q0 0 ls ++ comment_places q0 k in
            let inside : Agreed (places_in q 0 ls) = subst (λ j. Agreed (places_in j 0 ls)) here (λ i w. g i (inr (among_left (instance_place i.path i) arm (places_items p is) (among_left (instance_place i.path i) (places_in q0 0 ls) (comment_places q0 k) w)))) in (
              h.0,
              h.1,
              h.2,
              comment_again k ls h.3,
              again_in m _ _ _ q 0 c ls (agree_locals s (bind ns (entry_pairs q x)) a) inside h.4,
              again_items m b s ms p ns c xs is a (λ i w. g i (inr (among_right (instance_place i.path i) arm (places_items p is) w))) h.5,
            )
        again_items m b s ms p ns c _ _ a g h = absurd h

  root_again : (look : Id → Option Thing) (m : ℕ) (l : Live) → ((i : Inst) → Among (instance_place i.path i) (places [] l) → AgreeAt app σ τ i.path) → RootStands app σ σ look m l → RootStands app τ τ look m l
  root_again look (suc m) (Live.component_live i made gm args None ls) g h =
      let here : AgreeAt app σ τ [] = subst (AgreeAt app σ τ) h.1 (g i (inl refl)) in (
        h.0,
        h.1,
        h.2,
        cells_again here look i made (g i (inl refl)) h.3,
        h.4,
        again_in here look m _ no_place (mscope i args [] mnothing) [] 0 (class_at app []).template ls (here, tt) (subst (λ j. Agreed here (places_in j 0 ls)) h.1 (λ j w. g j (inr w))) h.5,
      )
  root_again look zero (Live.deep_live q) g h = h
  root_again look _ _ g h = absurd h

-- The settled store

first_held : Held → List Held → Held
first_held d [] = d
first_held d (x ∷ xs) = x

rest_held : List Held → List Held
rest_held [] = []
rest_held (x ∷ xs) = xs

first_same : (d x y : Held) (xs ys : List Held) → x ∷ xs ≡ y ∷ ys → x ≡ y
unfolding first_held
first_same d x y xs ys e = ap (first_held d) e

rest_same : (x y : Held) (xs ys : List Held) → x ∷ xs ≡ y ∷ ys → xs ≡ ys
unfolding rest_held
rest_same x y xs ys e = ap rest_held e

module _ (app : App) (σ τ : Store) where
  abbrev held_by : Store → Path → Text × Plain → Held
  held_by ρ i f = record { instance = i; field = f.0; value = cell_value app ρ i f.0 }

  -- two lists of the cells of one instance, with more after them
  cells_equal : (i : Path) (fs : List (Text × Plain)) (xs ys : List Held) → map (held_by σ i) fs ++ xs ≡ map (held_by τ i) fs ++ ys
      → ((x : Text) (v : Plain) → named x fs ≡ Some v → cell_value app σ i x ≡ cell_value app τ i x) × (xs ≡ ys)
  cells_equal i [] xs ys e = ((λ x v g. absurd (Rattle.gl_meaning.proofs.Pieces.none_some v g)), e)
  cells_equal i (f ∷ fs) xs ys e =
      let here = first_same (held_by σ i f) (held_by σ i f) (held_by τ i f) (map (held_by σ i) fs ++ xs) (map (held_by τ i) fs ++ ys) e in
      let rest = cells_equal i fs xs ys (rest_same (held_by σ i f) (held_by τ i f) (map (held_by σ i) fs ++ xs) (map (held_by τ i) fs ++ ys) e) in
      ((λ x v g. by x v (bytes_eq x f.0) refl (ap (λ (h : Held). h.value) here) rest.0 g), rest.1) where
        by : (x : Text) (v : Plain) (b : Bool) → bytes_eq x f.0 ≡ b → cell_value app σ i f.0 ≡ cell_value app τ i f.0 → ((x : Text) (v : Plain) → named x fs ≡ Some v → cell_value app σ i x ≡ cell_value app τ i x)
            → (if b then Some f.1 else named x fs) ≡ Some v → cell_value app σ i x ≡ cell_value app τ i x
        by x v true k h r g = subst (λ n. cell_value app σ i n ≡ cell_value app τ i n) (sym (text_means x f.0 k)) h
        by x v false k h r g = r x v g

  all_equal : (js : List Path) → flat_map (cells_of app σ) js ≡ flat_map (cells_of app τ) js → (i : Path) → Among i js → AgreeAt app σ τ i
  all_equal [] e i m = absurd m
  all_equal (j ∷ js) e i (inl q) = subst (AgreeAt app σ τ) (sym q) (cells_equal j (class_at app j).fields (flat_map (cells_of app σ) js) (flat_map (cells_of app τ) js) e).0
  all_equal (j ∷ js) e i (inr m) = all_equal js (cells_equal j (class_at app j).fields (flat_map (cells_of app σ) js) (flat_map (cells_of app τ) js) e).1 i m

pub settled_stands : SettledStands
settled_stands app τ st l h =
    let f = draw app τ in
    let τ' = settle app τ f in
    let agrees = all_equal app τ τ' (instances f) (sym (settle_settled app τ f)) in
    let paths = (tree_agrees app τ τ st l h).0.instances in
    record {
      owned = h.owned;
      stands =
          root_again app τ τ' st.look app.limit l
          (λ i m. agrees i.path (subst (Among i.path) paths (among_mapped (λ (z : Path × Inst). z.0) (i.path, i) (filter_map instance_in (places [] l)) (found_in instance_in (i.path, i) (instance_place i.path i) (places [] l) refl m)))) h.stands;
    }
