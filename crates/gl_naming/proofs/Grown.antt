-- What is appended with other names.
use Rattle.std.proofs.Common.{◌≡◌, ℕ, zero, suc, List, [], ◌∷◌, ◌++◌, map, Bool, true, false, Option, Some, None, refl, ap, sym, ◌∙◌, subst}
use Rattle.std.specs.Prelude.{if◌then◌else◌}
use Rattle.gl_base.specs.Texts.{Text}
use Rattle.gl_value.specs.Value.{undefined, null, boolean, integer, text, list, pairs, action, Values, no_values, value, text_of, count_value, key_of}
use Rattle.gl_value.specs.Owners.{with_owners, values_with}
use Rattle.gl_value.proofs.Owners.{rules_leave_owners, plain_leaves_owners}
use Rattle.gl_ast.specs.Template as t
use Rattle.gl_ast.specs.Template.{Plain, Part, Slots, Expr, no_exprs, expr}
use Rattle.gl_meaning.specs.App.{App}
use Rattle.gl_meaning.specs.Path.{at, main, otherwise, items, item, into, slot, Path, V}
use Rattle.gl_meaning.specs.Scope.{Source, cell, item_value, item_index}
use Rattle.gl_meaning.specs.Eval.{Store, class_at, cell_value, takes_first}
use Rattle.gl_meaning.specs.Render.{Entry, entries, occurrences, values_listed, Block, block_named}
use Rattle.gl_plain.specs.Ids.{a_ref, a_node, an_instance, a_block, Id, ref, block_id, instance_id}
use Rattle.gl_plain.specs.State.{source_form, Names, Inst, MScope, mscope, MPassed, mnothing, mpassed, refs_of, with_names, Content, element_content, text_content, comment_content, content, instance_row, block_row, State, make}
use Rattle.gl_plain.specs.Naming.{by_number, by_path, made_source}
use Rattle.gl_plain.specs.Binding.{BoundNames, bind_exprs, bind_exprs_as, bind_args_as, bind_params, Spot, place, first_value}
use Rattle.gl_plain.specs.Parts.{mwritten_parts}
use Rattle.gl_plain.specs.Tags.{bind_written, bind_written_as, flush_parts, install_parts}
use Rattle.gl_plain.specs.Live.{ItemSpot, item_names, still, put_live, element_live, let_live, component_live, yield_live, Items, item_live, Lives, live_and, have_node}
use Rattle.gl_plain.specs.Grow.{made_node, Arm, or_comment, ItemGrown, item_spot, item_spot_as, grow_item, grow_item_as, grow_entries, branch_from, unlisted_from, listed_from, items_or_else, GrowComponents, GrowYields, grow_block, grow_stmt, grow_stmt_as, grow_body, grow_body_as, grow_yields, grow_yields_as, grow_cells, grow_cells_as, grow_components, grow_components_as}
use Rattle.gl_naming.specs.Renamed.{state_with, bound_names_with, placed_with, run_with, arm_with, grown_with, entry_with, StoresAgree, OwnerRight, PassedRight, CellsRight, SpotRight, Right, RightItems, RightIn}
use Rattle.gl_naming.specs.Laws.{GrownRenamed}
use Rattle.gl_naming.proofs.Pairs.{takes_to}
use Rattle.gl_naming.proofs.Bound.{make_im, row_im, exprs_bound, args_bound, params_im, place_im}
use Rattle.gl_naming.proofs.Tagged.{first_on, written_right, written_im, flush_im, install_im}

-- Lists

-- the values that are listed
pub listed_on : (f : Path → Path) (v : V) → values_listed (with_owners f v) ≡ values_with f (values_listed v)
listed_on f undefined = refl
listed_on f null = refl
listed_on f (boolean b) = refl
listed_on f (integer i) = refl
listed_on f (text z) = refl
listed_on f (list vs) = refl
listed_on f (pairs ms) = refl
listed_on f (action o n vs) = refl

-- keys have no owners, so items have the same keys and the same occurrences
pub entries_on : (f : Path → Path) (g : Source → Source) (k : Text) (i : ℕ) (before : List Plain) (vs : Values Path) → entries k i before (values_with f vs) ≡ map (entry_with f g) (entries k i before vs)
entries_on f g k i before no_values = refl
entries_on f g k i before (value v vs) =
    ap (λ (w : Plain). record { key = w; occurrence = occurrences w before; value = with_owners f v; index = i } ∷ entries k (suc i) (w ∷ before) (values_with f vs)) ((plain_leaves_owners f v).1 k i)
    ∙ ap (λ xs. record { key = key_of k i v; occurrence = occurrences (key_of k i v) before; value = with_owners f v; index = i } ∷ xs) (entries_on f g k (suc i) (key_of k i v ∷ before) vs)

module _ (f : Path → Path) (g : Source → Source) (hot : Source → Bool) where
  abbrev im : State → State
  im st = state_with f g hot st

  abbrev ri : {A : Type 0} → A × State → A × State
  ri r = run_with f g hot r

  abbrev ni : BoundNames → BoundNames
  ni b = bound_names_with f g hot b

  -- Nodes, sources and arms

  pub node_im : (c : Content) (st : State) → made_node c (im st) ≡ im (made_node c st)
  node_im c st = make_im f g hot a_node (content c) st

  -- a source that was made counts as touched by numbers, which isn't seen
  pub source_im : (y z : Source) → g y ≡ z → (v : V) (st : State) → made_source by_path z (with_owners f v) (im st) ≡ im (made_source by_number y v st)
  source_im y z e v st = ap (λ x. made_source by_path x (with_owners f v) (im st)) (sym e) ∙ row_im f g hot (source_form y v) st

  pub arm_lives : (r : Lives × State) → (or_comment r).lives ≡ r.0
  arm_lives r = by (have_node r.0) where
    by : (u : Bool) → let a : Arm = (if u then record { comment = None; lives = r.0; state = r.1 } else record { comment = Some (r.1.next a_node); lives = r.0; state = made_node (comment_content []) r.1 }) in a.lives ≡ r.0
    by true = refl
    by false = refl

  pub arm_im : (r : Lives × State) → or_comment (ri r) ≡ arm_with f g hot (or_comment r)
  arm_im r = by (have_node r.0) where
    by : (u : Bool)
        → (if u then record { comment = None; lives = r.0; state = im r.1 } else record { comment = Some (r.1.next a_node); lives = r.0; state = made_node (comment_content []) (im r.1) })
        ≡ arm_with f g hot (if u then record { comment = None; lives = r.0; state = r.1 } else record { comment = Some (r.1.next a_node); lives = r.0; state = made_node (comment_content []) r.1 })
    by true = refl
    by false = ap (λ s. record { comment = Some (r.1.next a_node); lives = r.0; state = s }) (node_im (comment_content []) r.1)

  -- what is rendered by paths in an arm, where it is what is rendered by numbers
  abbrev Same : Path → Lives × State → Lives × State → Type 0
  Same p n r = RightIn f g p 0 n.0 → r ≡ ri n

  pub arm_same : (p : Path) (n r : Lives × State) → Same p n r → RightIn f g p 0 (or_comment n).lives → or_comment r ≡ arm_with f g hot (or_comment n)
  arm_same p n r same right = ap or_comment (same (subst (RightIn f g p 0) (arm_lives n) right)) ∙ arm_im n

  branch_same : (u : Bool) (s : Spot) (p : Path) (n n' r r' : Lives × State) → Same (main ∷ p) n r → Same (otherwise ∷ p) n' r'
      → Right f g p (if u then branch_from s true (or_comment n) else branch_from s false (or_comment n')).0
      → (if u then branch_from s true (or_comment r) else branch_from s false (or_comment r')) ≡ ri (if u then branch_from s true (or_comment n) else branch_from s false (or_comment n'))
  branch_same true s p n n' r r' same other right = ap (branch_from s true) (arm_same (main ∷ p) n r same right)
  branch_same false s p n n' r r' same other right = ap (branch_from s false) (arm_same (otherwise ∷ p) n' r' other right)

  -- Items

  abbrev SameItems : Path → Items × State → Items × State → Type 0
  SameItems p n r = RightItems f g p n.0 → r ≡ ri n

  each_same : (s : Spot) (p : Path) (vs : Values Path) (F G : Values Path → Items × State) (n r : Lives × State)
      → ((us : Values Path) → SameItems (items ∷ p) (F us) (G (values_with f us))) → Same (otherwise ∷ p) n r
      → Right f g p (items_or_else s vs F (or_comment n)).0 → items_or_else s (values_with f vs) G (or_comment r) ≡ ri (items_or_else s vs F (or_comment n))
  each_same s p no_values F G n r same other right = ap (unlisted_from s) (arm_same (otherwise ∷ p) n r other right)
  each_same s p (value v vs) F G n r same other right = ap (listed_from s) (same (value v vs) right)

  pub spot_im : (ns : List Text) (q : Path) (x : Entry) (st : State) → SpotRight f g q (item_spot_as by_number ns q x st).0 → item_spot ns q (entry_with f g x) (im st) ≡ ri (item_spot_as by_number ns q x st)
  spot_im ns q x st right =
      let v = st.next a_ref in
      let st1 = made_source by_number (by_number.value_source v q) x.value st in
      let i = st1.next a_ref in
      let st2 = made_source by_number (by_number.index_source i q) (count_value x.index) st1 in
      let done : BoundNames → ItemSpot × State = λ b. (record { key = x.key; occurrence = x.occurrence; value = v; index = i; more = b.made; params = refs_of b.names }, b.state) in
      ap (λ s. done (bind_params ns (v ∷ i ∷ []) (made_source by_path (item_index q) (count_value x.index) s))) (source_im (by_number.value_source v q) (item_value q) right.0 x.value st)
      ∙ (ap (λ s. done (bind_params ns (v ∷ i ∷ []) s)) (source_im (by_number.index_source i q) (item_index q) right.1 (count_value x.index) st1)
      ∙ ap done (params_im f g hot ns (v ∷ i ∷ []) st2))

  abbrev Rendered : Type 0
  Rendered = MScope → Path → State → Lives × State

  -- an item, where its body is the same in each scope with right names
  pub item_same : (body other : Rendered) (i : Inst) (a l : Names) (w : MPassed) → ((l' : Names) (q : Path) (st : State) → Same q (body (mscope i a l' w) q st) (other (mscope i a l' w) q (im st)))
      → (ns : List Text) (q : Path) (x : Entry) (st : State) → let h = grow_item_as by_number body (mscope i a l w) ns q x st in
      SpotRight f g q h.spot → RightIn f g q 0 h.arm.lives → grow_item other (mscope i a l w) ns q (entry_with f g x) (im st) ≡ grown_with f g hot h
  item_same body other i a l w same ns q x st right within =
      let s = item_spot_as by_number ns q x st in
      ap (λ y. record { spot = y.0; arm = or_comment (other (mscope i a (l ++ item_names ns y.0) w) q y.1) }) (spot_im ns q x st right)
      ∙ ap (λ y. record { spot = s.0; arm = y })
      (arm_same q (body (mscope i a (l ++ item_names ns s.0) w) q s.1) (other (mscope i a (l ++ item_names ns s.0) w) q (im s.1)) (same (l ++ item_names ns s.0) q s.1) within)

  abbrev One : Type 0
  One = Path → Entry → State → ItemGrown

  pub entries_same : (one other : One) → ((p : Path) (x : Entry) (st : State) → let h = one (item x.key x.occurrence ∷ p) x st in
      SpotRight f g (item h.spot.key h.spot.occurrence ∷ p) h.spot → RightIn f g (item h.spot.key h.spot.occurrence ∷ p) 0 h.arm.lives
      → other (item x.key x.occurrence ∷ p) (entry_with f g x) (im st) ≡ grown_with f g hot h)
      → (p : Path) (xs : List Entry) (st : State) → SameItems p (grow_entries one p xs st) (grow_entries other p (map (entry_with f g) xs) (im st))
  entries_same one other same p [] st right = refl
  entries_same one other same p (x ∷ xs) st right =
      let h = one (item x.key x.occurrence ∷ p) x st in
      ap (λ y. let r = grow_entries other p (map (entry_with f g) xs) y.arm.state in (item_live y.spot y.arm.comment y.arm.lives r.0, r.1)) (same p x st right.0 right.1)
      ∙ ap (λ r. (item_live h.spot h.arm.comment h.arm.lives r.0, r.1)) (entries_same one other same p xs h.arm.state right.2)

  -- Templates

  -- what a component renders by paths, where its names are right
  abbrev SameComponents : GrowComponents → GrowComponents → Type 0
  SameComponents d e = (q p : Path) (made : List Id) (args : Names) (k : Option ℕ) (w : MPassed) (st : State) → PassedRight f g w
      → Right f g p (d q made args k w st).0 → e q made args k w (im st) ≡ ri (d q made args k w st)

  abbrev SameYields : GrowYields → GrowYields → Type 0
  SameYields y z = (n : Text) (made : List Id) (rs : List ℕ) (p : Path) (st : State) → Right f g p (y n made rs p st).0 → z n made rs p (im st) ≡ ri (y n made rs p st)

  module _ (once : (o p : Path) → f o ≡ f p → o ≡ p) (app : App) where
    -- a position over one expression
    pub one_im : (ms : MScope) → OwnerRight f g (Rattle.gl_plain.specs.State.inst_of ms) → (e : Expr) (st : State)
        → place (bind_exprs app ms (expr e no_exprs) (im st)) ≡ placed_with f g hot (place (bind_exprs_as by_number app ms (expr e no_exprs) st))
    one_im ms right e st = ap place (exprs_bound f g hot app ms right (expr e no_exprs) st) ∙ place_im f g hot once (bind_exprs_as by_number app ms (expr e no_exprs) st)

    module _ (d e : GrowComponents) (y z : GrowYields) (hd : SameComponents d e) (hy : SameYields y z) (i : Inst) (a : Names) (w : MPassed) (own : OwnerRight f g i) (pass : PassedRight f g w) where
      abbrev at_scope : Names → MScope
      at_scope l = mscope i a l w

      mutual
        stmt_same : (x : t.Stmt) (l : Names) (p : Path) (st : State) → Right f g p (grow_stmt_as by_number app d y (at_scope l) p x st).0
            → grow_stmt app e z (at_scope l) p x (im st) ≡ ri (grow_stmt_as by_number app d y (at_scope l) p x st)
        stmt_same (t.text_stmt s) l p st right = ap (λ u. (still (st.next a_node), u)) (node_im (text_content s) st)
        stmt_same (t.comment_stmt s) l p st right = ap (λ u. (still (st.next a_node), u)) (node_im (comment_content s) st)
        stmt_same (t.put v) l p st right =
            let x = place (bind_exprs_as by_number app (at_scope l) (expr v no_exprs) st) in
            ap (λ u. (put_live (u.state.next a_node) u.spot, made_node (text_content (text_of (first_value u.pairs))) u.state)) (one_im (at_scope l) own v st)
            ∙ (ap (λ s. (put_live (x.state.next a_node) x.spot, made_node (text_content s) (im x.state))) (ap text_of (first_on f g x.pairs) ∙ (rules_leave_owners f (first_value x.pairs)).1)
            ∙ ap (λ s. (put_live (x.state.next a_node) x.spot, s)) (node_im (text_content (text_of (first_value x.pairs))) x.state))
        stmt_same (t.element tag ps b) l p st right =
            let ms = at_scope l in
            let u = bind_written_as by_number app (mwritten_parts ms ps) st in
            let v = flush_parts u.parts u.state in
            let n = v.state.next a_node in
            let r = grow_body_as by_number app d y ms p 0 b (made_node (element_content tag v.attrs) v.state) in
            ap (λ u'. let v' = flush_parts u'.parts u'.state in let r' = grow_body app e z ms p 0 b (made_node (element_content tag v'.attrs) v'.state) in let m' = install_parts (v'.state.next a_node) 0 u'.parts r'.1 in
            (element_live (v'.state.next a_node) u'.made v'.spots m'.spots r'.0, m'.state)) (written_im f g hot app (mwritten_parts ms ps) (written_right f g ms ps (own, pass)) st)
            ∙ (ap (λ v'. let r' = grow_body app e z ms p 0 b (made_node (element_content tag v'.attrs) v'.state) in let m' = install_parts (v'.state.next a_node) 0 u.parts r'.1 in
            (element_live (v'.state.next a_node) u.made v'.spots m'.spots r'.0, m'.state)) (flush_im f g hot once u.parts u.state)
            ∙ (ap (λ s. let r' = grow_body app e z ms p 0 b s in let m' = install_parts n 0 u.parts r'.1 in (element_live n u.made v.spots m'.spots r'.0, m'.state)) (node_im (element_content tag v.attrs) v.state)
            ∙ (ap (λ r'. let m' = install_parts n 0 u.parts r'.1 in (element_live n u.made v.spots m'.spots r'.0, m'.state)) (body_same b l p 0 (made_node (element_content tag v.attrs) v.state) right)
            ∙ ap (λ m'. (element_live n u.made v.spots m'.spots r.0, m'.state)) (install_im f g hot once n 0 u.parts r.1))))
        stmt_same (t.component_stmt c ps given bs) l p st right =
            let ms = at_scope l in
            let b = bind_args_as by_number app ms given st in
            let u = bind_written_as by_number app (mwritten_parts ms ps) b.state in
            let k = u.state.next a_block in
            ap (λ b'. let u' = bind_written app (mwritten_parts ms ps) b'.state in let k' = u'.state.next a_block in
            e (into c ∷ p) (block_id k' ∷ (b'.made ++ u'.made)) b'.names (Some k') (mpassed k' ps bs ms) (make a_block block_row u'.state)) (args_bound f g hot app ms own given st)
            ∙ (ap (λ u'. let k' = u'.state.next a_block in
            e (into c ∷ p) (block_id k' ∷ (b.made ++ u'.made)) b.names (Some k') (mpassed k' ps bs ms) (make a_block block_row u'.state)) (written_im f g hot app (mwritten_parts ms ps) (written_right f g ms ps (own, pass)) b.state)
            ∙ (ap (λ s. e (into c ∷ p) (block_id k ∷ (b.made ++ u.made)) b.names (Some k) (mpassed k ps bs ms) s) (make_im f g hot a_block block_row u.state)
            ∙ hd (into c ∷ p) p (block_id k ∷ (b.made ++ u.made)) b.names (Some k) (mpassed k ps bs ms) (make a_block block_row u.state) (own, pass) right))
        stmt_same (t.if_stmt v unless b c) l p st right =
            let ms = at_scope l in
            let x = place (bind_exprs_as by_number app ms (expr v no_exprs) st) in
            ap (λ x'. if takes_first unless (first_value x'.pairs)
            then branch_from x'.spot true (or_comment (grow_body app e z ms (main ∷ p) 0 b x'.state))
            else branch_from x'.spot false (or_comment (grow_body app e z ms (otherwise ∷ p) 0 c x'.state))) (one_im ms own v st)
            ∙ (ap (λ q. if q
            then branch_from x.spot true (or_comment (grow_body app e z ms (main ∷ p) 0 b (im x.state)))
            else branch_from x.spot false (or_comment (grow_body app e z ms (otherwise ∷ p) 0 c (im x.state)))) (ap (takes_first unless) (first_on f g x.pairs) ∙ takes_to f g unless (first_value x.pairs))
            ∙ branch_same (takes_first unless (first_value x.pairs)) x.spot p
            (grow_body_as by_number app d y ms (main ∷ p) 0 b x.state) (grow_body_as by_number app d y ms (otherwise ∷ p) 0 c x.state)
            (grow_body app e z ms (main ∷ p) 0 b (im x.state)) (grow_body app e z ms (otherwise ∷ p) 0 c (im x.state))
            (body_same b l (main ∷ p) 0 x.state) (body_same c l (otherwise ∷ p) 0 x.state) right)
        stmt_same (t.each v k ns b c) l p st right =
            let ms = at_scope l in
            let x = place (bind_exprs_as by_number app ms (expr v no_exprs) st) in
            let F : Values Path → Items × State = λ vs. grow_entries (grow_item_as by_number (λ ms' q s. grow_body_as by_number app d y ms' q 0 b s) ms ns) (items ∷ p) (entries k 0 [] vs) x.state in
            let G : Values Path → Items × State = λ vs. grow_entries (grow_item (λ ms' q s. grow_body app e z ms' q 0 b s) ms ns) (items ∷ p) (entries k 0 [] vs) (im x.state) in
            ap (λ x'. items_or_else x'.spot (values_listed (first_value x'.pairs))
            (λ vs. grow_entries (grow_item (λ ms' q s. grow_body app e z ms' q 0 b s) ms ns) (items ∷ p) (entries k 0 [] vs) x'.state)
            (or_comment (grow_body app e z ms (otherwise ∷ p) 0 c x'.state))) (one_im ms own v st)
            ∙ (ap (λ vs. items_or_else x.spot vs G (or_comment (grow_body app e z ms (otherwise ∷ p) 0 c (im x.state)))) (ap values_listed (first_on f g x.pairs) ∙ listed_on f (first_value x.pairs))
            ∙ each_same x.spot p (values_listed (first_value x.pairs)) F G (grow_body_as by_number app d y ms (otherwise ∷ p) 0 c x.state) (grow_body app e z ms (otherwise ∷ p) 0 c (im x.state))
            (λ vs h. ap (λ xs. grow_entries (grow_item (λ ms' q s. grow_body app e z ms' q 0 b s) ms ns) (items ∷ p) xs (im x.state)) (entries_on f g k 0 [] vs)
            ∙ entries_same (grow_item_as by_number (λ ms' q s. grow_body_as by_number app d y ms' q 0 b s) ms ns) (grow_item (λ ms' q s. grow_body app e z ms' q 0 b s) ms ns)
            (λ p' x' s h' r'. item_same (λ ms' q s'. grow_body_as by_number app d y ms' q 0 b s') (λ ms' q s'. grow_body app e z ms' q 0 b s') i a l w (λ l' q s' r. body_same b l' q 0 s' r) ns (item x'.key x'.occurrence ∷ p') x' s h' r')
            (items ∷ p) (entries k 0 [] vs) x.state h)
            (body_same c l (otherwise ∷ p) 0 x.state) right)
        stmt_same (t.let_stmt es ns b) l p st right =
            let ms = at_scope l in
            let x = bind_exprs_as by_number app ms es st in
            let u = bind_params ns x.ids x.state in
            ap (λ x'. let u' = bind_params ns x'.ids x'.state in let r = grow_body app e z (with_names u'.names ms) (main ∷ p) 0 b u'.state in (let_live (x'.made ++ u'.made) (refs_of u'.names) r.0, r.1)) (exprs_bound f g hot app ms own es st)
            ∙ (ap (λ u'. let r = grow_body app e z (with_names u'.names ms) (main ∷ p) 0 b u'.state in (let_live (x.made ++ u'.made) (refs_of u'.names) r.0, r.1)) (params_im f g hot ns x.ids x.state)
            ∙ ap (λ r. (let_live (x.made ++ u.made) (refs_of u.names) r.0, r.1)) (body_same b (l ++ u.names) (main ∷ p) 0 u.state right))
        stmt_same (t.yield es n) l p st right =
            let x = bind_exprs_as by_number app (at_scope l) es st in
            ap (λ x'. z n x'.made x'.ids p x'.state) (exprs_bound f g hot app (at_scope l) own es st) ∙ hy n x.made x.ids p x.state right

        pub body_same : (b : t.Body) (l : Names) (p : Path) (j : ℕ) (st : State) → RightIn f g p j (grow_body_as by_number app d y (at_scope l) p j b st).0
            → grow_body app e z (at_scope l) p j b (im st) ≡ ri (grow_body_as by_number app d y (at_scope l) p j b st)
        body_same t.end l p j st right = refl
        body_same (t.stmt x b) l p j st right =
            let r = grow_stmt_as by_number app d y (at_scope l) (at j ∷ p) x st in
            ap (λ r'. let u = grow_body app e z (at_scope l) p (suc j) b r'.1 in (live_and r'.0 u.0, u.1)) (stmt_same x l (at j ∷ p) st right.0)
            ∙ ap (λ u. (live_and r.0 u.0, u.1)) (body_same b l p (suc j) r.1 right.1)

    block_same : (o : Option Block) (p : Path) (n : Text) (made : List Id) (rs : List ℕ) (F G : Block → Names → State → Lives × State)
        → ((b : Block) (names : Names) (st : State) → Same (slot n ∷ p) (F b names st) (G b names (im st))) → (st : State)
        → Right f g p (grow_block n o made rs F st).0 → grow_block n o made rs G (im st) ≡ ri (grow_block n o made rs F st)
    block_same None p n made rs F G same st right = refl
    block_same (Some b) p n made rs F G same st right =
        let u = bind_params b.params rs st in
        ap (λ u'. let r = G b u'.names u'.state in (yield_live n (made ++ u'.made) (refs_of u'.names) r.0, r.1)) (params_im f g hot b.params rs st)
        ∙ ap (λ r. (yield_live n (made ++ u.made) (refs_of u.names) r.0, r.1)) (same b u.names u.state right)

    pub yields_same : (d e : GrowComponents) → SameComponents d e → (w : MPassed) → PassedRight f g w → SameYields (grow_yields_as by_number app d w) (grow_yields app e w)
    yields_same d e hd mnothing pass n made rs p st right = refl
    yields_same d e hd (mpassed k ps bs (mscope i a l w)) pass n made rs p st right =
        block_same (block_named n bs) p n made rs
        (λ b names s. grow_body_as by_number app d (grow_yields_as by_number app d w) (mscope i a (l ++ names) w) (slot n ∷ p) 0 b.body s)
        (λ b names s. grow_body app e (grow_yields app e w) (mscope i a (l ++ names) w) (slot n ∷ p) 0 b.body s)
        (λ b names s r. body_same d e (grow_yields_as by_number app d w) (grow_yields app e w) hd (yields_same d e hd w pass.1) i a w pass.0 pass.1 b.body (l ++ names) (slot n ∷ p) 0 s r) st right

    module _ (σ τ : Store) (agree : StoresAgree f g app σ τ) where
      pub cells_same : (q : Path) (fs : List (Text × Plain)) (st : State) → CellsRight f g q (grow_cells_as by_number app σ q fs st).names → grow_cells app τ q fs (im st) ≡ ni (grow_cells_as by_number app σ q fs st)
      cells_same q [] st right = refl
      cells_same q (x ∷ fs) st right =
          let r = st.next a_ref in
          let source = by_number.cell_source r q x.0 in
          let st1 = made_source by_number source (cell_value app σ q x.0) st in
          let done : BoundNames → BoundNames = λ c. record { names = (x.0, r) ∷ c.names; made = ref r ∷ c.made; state = c.state } in
          ap (λ v. done (grow_cells app τ q fs (made_source by_path (cell q x.0) v (im st)))) (agree q x.0)
          ∙ (ap (λ s. done (grow_cells app τ q fs s)) (source_im source (cell q x.0) right.0 (cell_value app σ q x.0) st)
          ∙ ap done (cells_same q fs st1 right.1))

      pub components_same : (m : ℕ) → SameComponents (grow_components_as by_number m app σ) (grow_components m app τ)
      components_same zero q p made args k w st pass right = refl
      components_same (suc m) q p made args k w st pass right =
          let c = grow_cells_as by_number app σ q (class_at app q).fields st in
          let i : Inst = record { id = c.state.next an_instance; path = q; cells = c.names } in
          let d = grow_components_as by_number m app σ in
          let e = grow_components m app τ in
          let r = grow_body_as by_number app d (grow_yields_as by_number app d w) (mscope i args [] w) q 0 (class_at app q).template (make an_instance (instance_row i) c.state) in
          ap (λ c'. let i' : Inst = record { id = c'.state.next an_instance; path = q; cells = c'.names } in
          let r' = grow_body app e (grow_yields app e w) (mscope i' args [] w) q 0 (class_at app q).template (make an_instance (instance_row i') c'.state) in
          (component_live i' (instance_id i'.id ∷ (made ++ c'.made)) made args k r'.0, r'.1)) (cells_same q (class_at app q).fields st right.1)
          ∙ (ap (λ s. let r' = grow_body app e (grow_yields app e w) (mscope i args [] w) q 0 (class_at app q).template s in
          (component_live i (instance_id i.id ∷ (made ++ c.made)) made args k r'.0, r'.1)) (make_im f g hot an_instance (instance_row i) c.state)
          ∙ ap (λ r'. (component_live i (instance_id i.id ∷ (made ++ c.made)) made args k r'.0, r'.1))
          (body_same d e (grow_yields_as by_number app d w) (grow_yields app e w) (components_same m) (yields_same d e (components_same m) w pass) i args w right.0 pass
          (class_at app q).template [] q 0 (make an_instance (instance_row i) c.state) right.2))

pub grown_renamed : GrownRenamed
grown_renamed f g touched once app σ τ agree st right = components_same f g touched once app σ τ agree app.limit [] [] [] [] None mnothing st tt right
