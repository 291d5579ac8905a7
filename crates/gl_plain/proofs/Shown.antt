-- What stands shows the rendering.
use Rattle.std.proofs.Common.{◌≡◌, ℕ, zero, suc, ◌≤◌, Bool, true, false, List, [], ◌∷◌, ◌++◌, map, Option, Some, None, refl, sym, ◌∙◌, ap, ap₂, subst, arith}
use Rattle.std.specs.Prelude.{if◌then◌else◌, ◌||◌, length}
use Rattle.gl_base.specs.Texts.{Text}
use Rattle.gl_value.specs.Value.{Values, no_values, value, text_of, count_value}
use Rattle.gl_ast.specs.Template.{Exprs, AttrValue, Part, Slots, no_slots}
use Rattle.gl_ast.specs.Template as t
use Rattle.gl_meaning.specs.App.{App}
use Rattle.gl_meaning.specs.Path.{at, main, otherwise, items, item, into, slot, empty, attribute_at, modifier_at, Path, V}
use Rattle.gl_meaning.specs.Scope.{Source, Pair, NamedPairs, Scope, scope, Passed, nothing_passed, passed, passed_of, with_locals, bind}
use Rattle.gl_meaning.specs.Eval.{Store, class_at, takes_first, eval, eval_all}
use Rattle.gl_meaning.specs.Parts.{WrittenModifier, Modifier, taken_pairs, modifier_of, modifiers_of}
use Rattle.gl_meaning.specs.Render as r
use Rattle.gl_meaning.specs.Render.{Forest, no_pieces, piece, Piece, single, join, forest_of, position, Entry, entries, entry_pairs, values_listed, Block, block_named, Components, render_stmt, render_body, yields_of, components_at, draw}
use Rattle.gl_meaning.proofs.Frame.{KeepsNames, names_none, names_more, KeepsScope, keeps_scope, KeepsPassed, keeps_nothing, keeps_passed, keeps_itself}
use Rattle.gl_plain.specs.Ids.{a_modifier, Id, ref, node, block_id, modifier_id, hit, occurs}
use Rattle.gl_plain.specs.State.{Names, names_by, Inst, MScope, mscope, MPassed, mnothing, mpassed, scope_by, passed_by, passed_in, mslots, mwriter, writer, with_names, Thing, State, pair_of, held_value, named_as}
use Rattle.gl_plain.specs.Binding.{Spot}
use Rattle.gl_plain.specs.Live.{AttrSpot, ModSpot, ItemSpot, item_made, Live, Lives, Items, times, times_in, times_items, times_comment, has_node, have_node, item_names}
use Rattle.gl_plain.specs.Live
use Rattle.gl_plain.specs.Drawn.{leaf_piece, tag_of, attrs_of, pairs_after, pairs_until, zipped, pairs_at, drawn_comment, drawn_attrs, drawn_modifiers, drawn_places, drawn, drawn_items, drawn_in, modifier_name}
use Rattle.gl_plain.specs.Renew.{where_block}
use Rattle.gl_plain.specs.Stands.{Spotted, exprs_by, one_expr, attrs_by, mods_by, head_of, tail_of, pairs_for, modifier_pairs, WhereValues, WhereBlock, AttrsStand, ModsStand, CommentStands, Stands, StandIn, ItemsStand, BlockStands, ListStands, Owned}
use Rattle.gl_plain.specs.InScope.{InScope}
use Rattle.gl_plain.proofs.Moves.{left_owned, right_owned}
use Rattle.gl_plain.proofs.Rereads.{Cold, spot_shows, spot_shows_in}
use Rattle.gl_plain.proofs.Renewing.{Ready, let_ready, component_ready}
use Rattle.gl_plain.proofs.Renews.{yield_scopes}
use Rattle.gl_plain.proofs.Syncs.{item_ready}
use Rattle.gl_meaning.specs.Laws.{keeps_none, keeps_more}

-- a scope keeps itself
module _ (U : Source → Type 0) where
  names_themselves : (ns : NamedPairs) → KeepsNames U ns ns
  names_themselves [] = names_none
  names_themselves (n ∷ ns) = names_more (keeps_itself U n.1) (names_themselves ns)

  mutual
    pub scope_itself : (s : Scope) → KeepsScope U s s
    scope_itself (scope i a l w) = keeps_scope (names_themselves a) (names_themselves l) (passed_itself w)

    pub passed_itself : (w : Passed) → KeepsPassed U w w
    passed_itself nothing_passed = keeps_nothing
    passed_itself (passed ps bs s) = keeps_passed (scope_itself s)

abbrev slots_in : Passed → Slots
slots_in nothing_passed = no_slots
slots_in (passed ps bs s) = bs

slots_by : (f : ℕ → Pair) (v : MPassed) → slots_in (passed_by f v) ≡ mslots v
slots_by f mnothing = refl
slots_by f (mpassed k ps bs s) = refl

passed_by_scope : (f : ℕ → Pair) (ms : MScope) → passed_of (scope_by f ms) ≡ passed_by f (passed_in ms)
passed_by_scope f (mscope i a l v) = refl

locals_passed : (xs : NamedPairs) (w : Scope) → passed_of (with_locals xs w) ≡ passed_of w
locals_passed xs (scope t a l u) = refl

module _ (app : App) (τ : Store) where
  yields_by : (d : Components) (u : Passed) (n : Text) (vs : List Pair) (p : Path)
      → yields_of app τ d u n vs p ≡ r.in_block (block_named n (slots_in u)) (λ b. render_body app τ d (yields_of app τ d (passed_of (writer u))) (with_locals (bind b.params vs) (writer u)) (slot n ∷ p) 0 b.body)
  yields_by d nothing_passed n vs p = refl
  yields_by d (passed ps bs (scope i a l w)) n vs p = refl

-- Nodes

join_nodes : (f g : Forest) → r.has_node (join f g) ≡ (r.has_node f || r.has_node g)
join_nodes no_pieces g = refl
join_nodes (piece q f) g = ap (λ b. r.is_node q || b) (join_nodes f g) ∙ assoc (r.is_node q) (r.has_node f) (r.has_node g) where
  assoc : (a b c : Bool) → (a || (b || c)) ≡ ((a || b) || c)
  assoc true b c = refl
  assoc false b c = refl

or_true : (b : Bool) → (b || true) ≡ true
or_true true = refl
or_true false = refl

or_false : (b : Bool) → (b || false) ≡ b
or_false true = refl
or_false false = refl

module _ (app : App) (τ : Store) (look : Id → Option Thing) where
  leaf_node : (p : Path) (o : Option Thing) → r.is_node (leaf_piece p o) ≡ true
  leaf_node p None = refl
  leaf_node p (Some (Rattle.gl_plain.specs.State.content (Rattle.gl_plain.specs.State.text_content z))) = refl
  leaf_node p (Some (Rattle.gl_plain.specs.State.content (Rattle.gl_plain.specs.State.comment_content z))) = refl
  leaf_node p (Some (Rattle.gl_plain.specs.State.content (Rattle.gl_plain.specs.State.element_content z xs))) = refl
  leaf_node p (Some (Rattle.gl_plain.specs.State.row z)) = refl
  leaf_node p (Some (Rattle.gl_plain.specs.State.instance_row z)) = refl
  leaf_node p (Some Rattle.gl_plain.specs.State.block_row) = refl
  leaf_node p (Some (Rattle.gl_plain.specs.State.modifier_row z)) = refl

  -- an arm has a node
  arm_node : (p : Path) (o : Option ℕ) (ls : Lives) (f : Forest) → r.has_node f ≡ have_node ls → CommentStands app τ τ look o ls → r.has_node (join f (drawn_comment look p o)) ≡ true
  arm_node p None ls f e h = join_nodes f no_pieces ∙ (or_false (r.has_node f) ∙ (e ∙ h))
  arm_node p (Some n) ls f e h = join_nodes f _ ∙ (ap (λ b. r.has_node f || (b || false)) (leaf_node (empty ∷ p) (look (node n))) ∙ or_true (r.has_node f))

  -- and is that of the meaning
  arm_shows : (p : Path) (o : Option ℕ) (ls : Lives) (f g : Forest) → f ≡ g → r.has_node f ≡ have_node ls → CommentStands app τ τ look o ls → join f (drawn_comment look p o) ≡ r.or_comment p g
  arm_shows p None ls f g e n h = ap₂ join e (sym (ap (λ b. if b then no_pieces else single (r.comment_node (empty ∷ p) [])) (sym (ap r.has_node e) ∙ (n ∙ h))))
  arm_shows p (Some k) ls f g e n h =
      ap₂ join e (ap (λ o. single (leaf_piece (empty ∷ p) o)) h.1 ∙ sym (ap (λ b. if b then no_pieces else single (r.comment_node (empty ∷ p) [])) (sym (ap r.has_node e) ∙ (n ∙ h.0))))

-- Elements

join_end : (f : Forest) (ps qs : List Piece) → join (forest_of (ps ++ qs)) f ≡ join (forest_of ps) (join (forest_of qs) f)
join_end f [] qs = refl
join_end f (p ∷ ps) qs = ap (piece p) (join_end f ps qs)

pairs_first : (xs ys : List Pair) → pairs_until (length xs) (xs ++ ys) ≡ xs
pairs_first [] ys = refl
pairs_first (x ∷ xs) ys = ap (λ zs. x ∷ zs) (pairs_first xs ys)

pairs_rest : (xs ys : List Pair) → pairs_after (length xs) (xs ++ ys) ≡ ys
pairs_rest [] ys = refl
pairs_rest (x ∷ xs) ys = pairs_rest xs ys

zipped_names : (ns : NamedPairs) → zipped (map (λ n. n.0) ns) (map (λ n. n.1) ns) ≡ ns
zipped_names [] = refl
zipped_names (n ∷ ns) = ap (λ zs. n ∷ zs) (zipped_names ns)

made_modifier : Path → Text → List Pair → NamedPairs → Modifier
made_modifier q x a n = record { path = q; name = x; args = a; names = n }

same_modifier : (q : Path) (x y : Text) (a c : List Pair) (n m : NamedPairs) → x ≡ y → a ≡ c → n ≡ m
    → ◌≡◌ {A = Modifier} (record { path = q; name = x; args = a; names = n }) (record { path = q; name = y; args = c; names = m })
unfolding made_modifier
same_modifier q x y a c n m e f g = ap₂ (λ (h : NamedPairs → Modifier) z. h z) (ap₂ (made_modifier q) e f) g

module _ (app : App) (τ : Store) (b : ℕ) (st : State) (ms : MScope) (w : Scope) (s : InScope app τ b st.look ms w) where
  attrs_show : (made : List Id) (p : Path) (ps : List Part) (ns : List Text) (xs : List AttrSpot) → AttrsStand app τ τ st.look made w ms (attrs_by ps) ns xs
      → drawn_attrs st.look p xs ≡ map (λ n. position (attribute_at n ∷ p) (taken_pairs app τ (attrs_by ps w) n)) ns
  attrs_show made p ps [] [] h = refl
  attrs_show made p ps (n ∷ ns) (a ∷ xs) h =
      ap₂ (λ x y. x ∷ y)
      (ap₂ (λ k vs. position (attribute_at k ∷ p) vs) h.0 (spot_shows_in app τ ms made a.spot _ (taken_pairs app τ (attrs_by ps w) n) st.look h.1 s.cells (ap (λ z. taken_pairs app τ (attrs_by ps z) n) s.is)))
      (attrs_show made p ps ns xs h.2)
  attrs_show made p ps [] (a ∷ xs) h = absurd h
  attrs_show made p ps (n ∷ ns) [] h = absurd h

  mod_pairs : (made : List Id) (n : ℕ) (ws : Scope → List (WrittenModifier Scope)) (i : ℕ) (d : WrittenModifier Scope) (ds : List (WrittenModifier Scope)) (z : ModSpot) (zs : List ModSpot) → ws w ≡ d ∷ ds
      → ModsStand app τ τ st.look made n w ms ws i (d ∷ ds) (z ∷ zs) → pairs_at st.look z.spot ≡ modifier_pairs app τ d
  mod_pairs made n ws i d ds z zs e h =
      spot_shows_in app τ ms made z.spot _ (modifier_pairs app τ d) st.look h.3 s.cells (ap (λ y. pairs_for app τ (head_of (ws y))) s.is ∙ ap (λ y. pairs_for app τ (head_of y)) e)

  mods_show : (made : List Id) (p : Path) (n : ℕ) (ws : Scope → List (WrittenModifier Scope)) (i : ℕ) (ds : List (WrittenModifier Scope)) (zs : List ModSpot) → ws w ≡ ds → ModsStand app τ τ st.look made n w ms ws i ds zs
      → drawn_modifiers st.look p i zs ≡ modifiers_of app τ p i ds
  mods_show made p n ws i [] [] e h = refl
  mods_show made p n ws i (d ∷ ds) (z ∷ zs) e h =
      let m = modifier_of app τ p i d in
      let ps = mod_pairs made n ws i d ds z zs e h in
      ap₂ (λ x y. x ∷ y)
      (same_modifier (modifier_at i ∷ p) _ d.name _ m.args _ m.names (ap modifier_name h.0) (ap₂ pairs_until h.1 ps ∙ pairs_first m.args (map (λ y. y.1) m.names))
      (ap₂ zipped h.2 (ap₂ pairs_after h.1 ps ∙ pairs_rest m.args (map (λ y. y.1) m.names)) ∙ zipped_names m.names))
      (mods_show made p n (λ s'. tail_of (ws s')) (suc i) ds zs (ap tail_of e) h.4)
  mods_show made p n ws i [] (z ∷ zs) e h = absurd h
  mods_show made p n ws i (d ∷ ds) [] e h = absurd h

  places_show : (made : List Id) (p : Path) (n : ℕ) (ws : Scope → List (WrittenModifier Scope)) (i : ℕ) (ds : List (WrittenModifier Scope)) (zs : List ModSpot) → ws w ≡ ds → ModsStand app τ τ st.look made n w ms ws i ds zs
      → drawn_places st.look p i zs ≡ r.modifier_positions (modifiers_of app τ p i ds)
  places_show made p n ws i [] [] e h = refl
  places_show made p n ws i (d ∷ ds) (z ∷ zs) e h =
      ap₂ (λ x y. x ∷ y) (ap (position (modifier_at i ∷ p)) (mod_pairs made n ws i d ds z zs e h)) (places_show made p n (λ s'. tail_of (ws s')) (suc i) ds zs (ap tail_of e) h.4)
  places_show made p n ws i [] (z ∷ zs) e h = absurd h
  places_show made p n ws i (d ∷ ds) [] e h = absurd h

  one_shows : (z : Spot) (es : Exprs) → Spotted app st.look ms z (exprs_by app ms es) (eval_all app τ w es) → pairs_at st.look z ≡ eval_all app τ w es
  one_shows z es h = spot_shows app τ ms z (exprs_by app ms es) (eval_all app τ w es) st.look h s.cells (ap (λ y. eval_all app τ y es) s.is)

-- All statements

module _ (app : App) (τ : Store) (st : State) where
  abbrev Here : ℕ → MScope → Scope → Type 0
  Here b ms w = Ready app τ τ b st ms w w

  here : (b : ℕ) (ms : MScope) (w : Scope) → b ≤ st.next Rattle.gl_plain.specs.Ids.a_ref → InScope app τ b st.look ms w → Here b ms w
  here b ms w le s = record { low = le; scope = s; keeps = scope_itself (Cold st) w; cells = λ i x e. refl }

  abbrev inner : ℕ → Components
  inner m = components_at m app τ

  abbrev body_of : ℕ → Passed → Scope → Path → ℕ → t.Body → Forest
  body_of m u w p i c = render_body app τ (inner m) (yields_of app τ (inner m) u) w p i c

  pub record Shows (f g : Forest) (nodes : Bool) : Type 0 where
    pub is : f ≡ g
    pub there : r.has_node f ≡ nodes

  abbrev values_some : Values Path → Bool
  values_some no_values = false
  values_some (value v vs) = true

  block_shows : (o : Option Block) (D F : Block → Forest) (ls : Lives) → ((c : Block) → o ≡ Some c → Shows (D c) (F c) (have_node ls)) → (o ≡ None → ls ≡ Live.no_lives)
      → Shows (where_block o D no_pieces) (r.in_block o F) (have_node ls)
  block_shows None D F ls g h = record { is = refl; there = sym (ap have_node (h refl)) }
  block_shows (Some c) D F ls g h = g c refl

  if_shows : (p : Path) (unless u : Bool) (v : Pair) (F G A : Forest) → takes_first unless v.value ≡ u → A ≡ (if u then r.region_at (main ∷ p) F else r.region_at (otherwise ∷ p) G)
      → piece (position p (v ∷ [])) A ≡ r.if_of p unless v F G
  if_shows p unless u v F G A e h = ap (piece (position p (v ∷ []))) (h ∙ ap (λ b. if b then r.region_at (main ∷ p) F else r.region_at (otherwise ∷ p) G) (sym e))

  abbrev one_item : ℕ → Passed → Scope → List Text → t.Body → Path → Entry → Forest
  one_item m u w ns c q x = body_of m u (with_locals (bind ns (entry_pairs q x)) w) q 0 c

  abbrev some_items : Items → Bool
  some_items Live.no_items = false
  some_items (Live.item_live z k ls is) = true

  list_shows : (p : Path) (ps : List Pair) (v : Pair) → ps ≡ v ∷ [] → (F : Values Path → Forest) (G D : Forest) (P : Values Path → Type 0) (us : Values Path) → values_listed v.value ≡ us → WhereValues us P ⊥
      → ((us : Values Path) → P us → Shows D (F us) (values_some us)) → Shows (piece (position p ps) (single (r.branch (items ∷ p) D))) (r.each_of p v F G) true
  list_shows p ps v e F G D P no_values f h g = absurd h
  list_shows p ps v e F G D P (value x us) f h g =
      let k = g (value x us) h in
      record {
        is = ap₂ (λ y z. piece (position p y) (single (r.branch (items ∷ p) z))) e k.is ∙ ap (λ y. piece (position p (v ∷ [])) (r.items_or_else p y F G)) (sym f);
        there = ap (λ y. y || false) k.there;
      }

  else_shows : (p : Path) (ps : List Pair) (v : Pair) → ps ≡ v ∷ [] → (F : Values Path → Forest) (G D : Forest) (y : Option ℕ) (ls : Lives) (Q : Type 0) (us : Values Path) → values_listed v.value ≡ us
      → WhereValues us (λ z. ⊥) (CommentStands app τ τ st.look y ls × Q) → (Q → Shows D G (have_node ls))
      → Shows (piece (position p ps) (single (r.branch (otherwise ∷ p) (join D (drawn_comment st.look (otherwise ∷ p) y))))) (r.each_of p v F G) true
  else_shows p ps v e F G D y ls Q (value x us) f h g = absurd h
  else_shows p ps v e F G D y ls Q no_values f h g =
      let k = g h.1 in
      record {
        is = ap₂ (λ q z. piece (position p q) (single (r.branch (otherwise ∷ p) z))) e (arm_shows app τ st.look (otherwise ∷ p) y ls D G k.is k.there h.0)
            ∙ ap (λ q. piece (position p (v ∷ [])) (r.items_or_else p q F G)) (sym f);
        there = ap (λ q. q || false) (arm_node app τ st.look (otherwise ∷ p) y ls D k.there h.0);
      }

  yield_shows : (m : ℕ) (w : Scope) (u : Passed) (p : Path) (n k : Text) (vs : List Pair) (ls : Lives) (D : Text → Forest) → passed_of w ≡ u → k ≡ n
      → Shows (D n)
      (r.in_block (block_named n (slots_in (passed_of w))) (λ b. body_of m (passed_of (writer (passed_of w))) (with_locals (bind b.params vs) (writer (passed_of w))) (slot n ∷ p) 0 b.body)) (have_node ls)
      → Shows (D k) (yields_of app τ (inner m) u n vs p) (have_node ls)
  yield_shows m w u p n k vs ls D e f h = record {
    is = ap D f ∙ (h.is ∙ (sym (yields_by app τ (inner m) (passed_of w) n vs p) ∙ ap (λ z. yields_of app τ (inner m) z n vs p) e));
    there = ap (λ j. r.has_node (D j)) f ∙ h.there;
  }

  some_block : (P : Block → Type 0) (Q : Type 0) (c : Block) (o : Option Block) → o ≡ Some c → WhereBlock o P Q → P c
  some_block P Q c o e h = subst (λ z. WhereBlock z P Q) e h

  none_block : (P : Block → Type 0) (Q : Type 0) (o : Option Block) → o ≡ None → WhereBlock o P Q → Q
  none_block P Q o e h = subst (λ z. WhereBlock z P Q) e h

  mutual
    pub shows : (m b : ℕ) (w : Scope) (ms : MScope) (u : Passed) (p : Path) (x : t.Stmt) (l : Live) → passed_of w ≡ u → Owned st (λ q. times q l) → Stands app τ τ st.look m b w ms p x l → Here b ms w
        → Shows (drawn app st.look ms p x l) (render_stmt app τ (inner m) (yields_of app τ (inner m) u) w p x) (has_node l)
    shows m b w ms u p (t.text_stmt z) (Live.still n) e o h s = record { is = ap (λ y. single (leaf_piece p y)) h; there = ap (λ y. r.is_node (leaf_piece p y) || false) h }
    shows m b w ms u p (t.comment_stmt z) (Live.still n) e o h s = record { is = ap (λ y. single (leaf_piece p y)) h; there = ap (λ y. r.is_node (leaf_piece p y) || false) h }
    shows m b w ms u p (t.put z) (Live.put_live n k) e o h s = record {
      is = ap₂ (λ vs y. piece (position p vs) (single (leaf_piece p y))) (one_shows app τ b st ms w s.scope k (one_expr z) h.1) h.0;
      there = ap (λ y. r.is_node (leaf_piece p y) || false) h.0;
    }
    shows m b w ms u p (t.element tag ps c) (Live.element_live n made xs zs ls) e o h s =
        let oa : Owned st (λ q. times_in q ls) = record { once = λ q. let i = o.once q in omega (arith, i); old = λ q le. let i = o.old q le in omega (arith, i) } in
        let k = shows_in m b w ms u p 0 c ls e oa h.3 s in
        let pairs = attrs_show app τ b st ms w s.scope made p ps _ xs h.1 in
        let mods = mods_show app τ b st ms w s.scope made p n (mods_by ps) 0 (mods_by ps w) zs refl h.2 in
        let places = places_show app τ b st ms w s.scope made p n (mods_by ps) 0 (mods_by ps w) zs refl h.2 in
        record {
          is =
              ap₂ (λ x y. join (forest_of x) (single y)) (ap₂ (λ x y. x ++ y) pairs places)
              (ap₂ (λ (f : List Modifier → Forest → Piece) (z : List Modifier × Forest). f z.0 z.1) (ap (λ y. λ k f. r.element_node p (tag_of y) (attrs_of y) k f) h.0) (ap₂ (λ x y. (x, y)) mods k.is));
          there = join_nodes (forest_of (drawn_attrs st.look p xs ++ drawn_places st.look p 0 zs)) _ ∙ or_true (r.has_node (forest_of (drawn_attrs st.look p xs ++ drawn_places st.look p 0 zs)));
        }
    shows m b w ms u p (t.if_stmt z unless c d) (Live.branch_live k true y ls) e o h s =
        let oa : Owned st (λ q. times_in q ls) = record { once = λ q. let i = o.once q in omega (arith, i); old = λ q le. let i = o.old q le in omega (arith, i) } in
        let g = shows_in m b w ms u (main ∷ p) 0 c ls e oa h.3 s in
        let arm = arm_shows app τ st.look (main ∷ p) y ls (drawn_in app st.look ms (main ∷ p) 0 c ls) (body_of m u w (main ∷ p) 0 c) g.is g.there h.2 in
        record {
          is = ap (λ vs. piece (position p vs) (single (r.branch (main ∷ p) (join (drawn_in app st.look ms (main ∷ p) 0 c ls) (drawn_comment st.look (main ∷ p) y))))) (one_shows app τ b st ms w s.scope k (one_expr z) h.0)
              ∙ if_shows p unless true (eval app τ w z) (body_of m u w (main ∷ p) 0 c) (body_of m u w (otherwise ∷ p) 0 d) _ h.1 (ap (λ f. single (r.branch (main ∷ p) f)) arm);
          there = ap (λ q. q || false) (arm_node app τ st.look (main ∷ p) y ls (drawn_in app st.look ms (main ∷ p) 0 c ls) g.there h.2);
        }
    shows m b w ms u p (t.if_stmt z unless c d) (Live.branch_live k false y ls) e o h s =
        let oa : Owned st (λ q. times_in q ls) = record { once = λ q. let i = o.once q in omega (arith, i); old = λ q le. let i = o.old q le in omega (arith, i) } in
        let g = shows_in m b w ms u (otherwise ∷ p) 0 d ls e oa h.3 s in
        let arm = arm_shows app τ st.look (otherwise ∷ p) y ls (drawn_in app st.look ms (otherwise ∷ p) 0 d ls) (body_of m u w (otherwise ∷ p) 0 d) g.is g.there h.2 in
        record {
          is = ap (λ vs. piece (position p vs) (single (r.branch (otherwise ∷ p) (join (drawn_in app st.look ms (otherwise ∷ p) 0 d ls) (drawn_comment st.look (otherwise ∷ p) y))))) (one_shows app τ b st ms w s.scope k (one_expr z) h.0)
              ∙ if_shows p unless false (eval app τ w z) (body_of m u w (main ∷ p) 0 c) (body_of m u w (otherwise ∷ p) 0 d) _ h.1 (ap (λ f. single (r.branch (otherwise ∷ p) f)) arm);
          there = ap (λ q. q || false) (arm_node app τ st.look (otherwise ∷ p) y ls (drawn_in app st.look ms (otherwise ∷ p) 0 d ls) g.there h.2);
        }
    shows m b w ms u p (t.each z key ns c d) (Live.listed k is) e o h s =
        let oa = right_owned st (λ q. occurs q k.made) (λ q. times_items q is) o in
        list_shows p (pairs_at st.look k) (eval app τ w z) (one_shows app τ b st ms w s.scope k (one_expr z) h.0) (λ us. r.render_entries (one_item m u w ns c) (items ∷ p) (entries key 0 [] us))
        (body_of m u w (otherwise ∷ p) 0 d) (drawn_items app st.look ns ms c (items ∷ p) 0 is) (ListStands app τ τ st.look m b w ms p key ns c is) (values_listed (eval app τ w z).value) refl h.1
        (λ us hi. shows_items m b w ms u (items ∷ p) ns c key 0 [] us is e oa hi s)
    shows m b w ms u p (t.each z key ns c d) (Live.unlisted k y ls) e o h s =
        let oa : Owned st (λ q. times_in q ls) = record { once = λ q. let i = o.once q in omega (arith, i); old = λ q le. let i = o.old q le in omega (arith, i) } in
        else_shows p (pairs_at st.look k) (eval app τ w z) (one_shows app τ b st ms w s.scope k (one_expr z) h.0) (λ us. r.render_entries (one_item m u w ns c) (items ∷ p) (entries key 0 [] us))
        (body_of m u w (otherwise ∷ p) 0 d) (drawn_in app st.look ms (otherwise ∷ p) 0 d ls) y ls (StandIn app τ τ st.look m b w ms (otherwise ∷ p) 0 d ls) (values_listed (eval app τ w z).value) refl h.1
        (λ hi. shows_in m b w ms u (otherwise ∷ p) 0 d ls e oa hi s)
    shows m b w ms u p (t.let_stmt es ns c) (Live.let_live made names ls) e o h s =
        let oa = left_owned st (λ q. occurs q made) (λ q. times_in q ls) o in
        let ob = right_owned st (λ q. occurs q made) (λ q. times_in q ls) o in
        let s' = let_ready app τ τ b st ms w w es ns made (named_as ns names) s oa h.0 h.1 in
        let g = shows_in m _ _ (with_names (named_as ns names) ms) u (main ∷ p) 0 c ls (locals_passed (bind ns (eval_all app τ w es)) w ∙ e) ob h.3 s' in
        record { is = g.is; there = g.there }
    shows (suc m) b w ms u p (t.component_stmt c ps given bs) (Live.component_live i made gm args (Some k) ls) e o h s =
        let oa = left_owned st (λ q. occurs q made) (λ q. times_in q ls) o in
        let ob = right_owned st (λ q. occurs q made) (λ q. times_in q ls) o in
        let q = into c ∷ p in
        let s' = component_ready app τ τ b st ms w w q ps given bs i made gm args k s oa h.2 h.3.2 h.4 h.5 in
        let g = shows_in m _ _ (mscope i args [] (mpassed k ps bs ms)) (passed ps bs w) q 0 (class_at app q).template ls refl ob h.7 s' in
        let v = mpassed k ps bs ms in
        let D : Path → Forest = λ j. drawn_in app st.look (mscope i args [] v) j 0 (class_at app j).template ls in
        record {
          is =
              ap (λ (j : Path). single (r.component j (scope j (names_by (pair_of st.look) args) [] (passed_by (pair_of st.look) v)) (D j))) h.2
              ∙ ap₂ (λ y f. single (r.component q y f)) (ap (λ j. scope j (names_by (pair_of st.look) args) [] (passed ps bs (scope_by (pair_of st.look) ms))) (sym h.2) ∙ s'.scope.is) g.is;
          there = ap (λ j. r.has_node (D j) || false) h.2 ∙ (or_false (r.has_node (D q)) ∙ g.there);
        }
    shows zero b w ms u p (t.component_stmt c ps given bs) (Live.deep_live q) e o h s = record { is = ap (λ j. single (r.too_deep j)) h; there = refl }
    shows m b w ms u p (t.yield es n) (Live.yield_live k made names ls) e o h s =
        let oa = left_owned st (λ q. occurs q made) (λ q. times_in q ls) o in
        let ob = right_owned st (λ q. occurs q made) (λ q. times_in q ls) o in
        let slots : slots_in (passed_of w) ≡ mslots (passed_in ms) = sym (ap (λ y. slots_in (passed_of y)) s.scope.is) ∙ (ap slots_in (passed_by_scope (pair_of st.look) ms) ∙ slots_by (pair_of st.look) (passed_in ms)) in
        let F : Block → Forest = λ c. body_of m (passed_of (writer (passed_of w))) (with_locals (bind c.params (eval_all app τ w es)) (writer (passed_of w))) (slot n ∷ p) 0 c.body in
        let D : Text → Block → Forest = λ j c. drawn_in app st.look (with_names (named_as c.params names) (mwriter (passed_in ms))) (slot j ∷ p) 0 c.body ls in
        yield_shows m w u p n k (eval_all app τ w es) ls (λ j. where_block (block_named n (mslots (passed_in ms))) (D j) no_pieces) e h.0
        (subst (λ y. Shows (where_block (block_named n (mslots (passed_in ms))) (D n) no_pieces) (r.in_block (block_named n y) F) (have_node ls)) (sym slots)
        (block_shows (block_named n (mslots (passed_in ms))) (D n) F ls
        (λ c f.
        let g : BlockStands app τ τ st.look m b w ms p es n made names ls c =
        some_block (BlockStands app τ τ st.look m b w ms p es n made names ls) (ls ≡ Live.no_lives) c (block_named n (mslots (passed_in ms))) f h.1 in
        shows_in m _ _ (with_names (named_as c.params names) (mwriter (passed_in ms))) (passed_of (writer (passed_of w))) (slot n ∷ p) 0 c.body ls (locals_passed (bind c.params (eval_all app τ w es)) (writer (passed_of w))) ob g.3
        (yield_scopes app τ τ b st ms w w es n c made (named_as c.params names) f s oa g.0 g.1))
        (λ f. none_block (BlockStands app τ τ st.look m b w ms p es n made names ls) (ls ≡ Live.no_lives) (block_named n (mslots (passed_in ms))) f h.1)))
    shows m b w ms u p _ _ e o h s = absurd h

    pub shows_in : (m b : ℕ) (w : Scope) (ms : MScope) (u : Passed) (p : Path) (i : ℕ) (c : t.Body) (ls : Lives) → passed_of w ≡ u → Owned st (λ q. times_in q ls) → StandIn app τ τ st.look m b w ms p i c ls → Here b ms w
        → Shows (drawn_in app st.look ms p i c ls) (body_of m u w p i c) (have_node ls)
    shows_in m b w ms u p i t.end Live.no_lives e o h s = record { is = refl; there = refl }
    shows_in m b w ms u p i (t.stmt x c) (Live.live_and l ls) e o h s =
        let g = shows m b w ms u (at i ∷ p) x l e (left_owned st (λ q. times q l) (λ q. times_in q ls) o) h.0 s in
        let k = shows_in m b w ms u p (suc i) c ls e (right_owned st (λ q. times q l) (λ q. times_in q ls) o) h.1 s in
        record { is = ap₂ join g.is k.is; there = join_nodes (drawn app st.look ms (at i ∷ p) x l) (drawn_in app st.look ms p (suc i) c ls) ∙ ap₂ (λ x y. x || y) g.there k.there }
    shows_in m b w ms u p i _ _ e o h s = absurd h

    pub shows_items : (m b : ℕ) (w : Scope) (ms : MScope) (u : Passed) (p : Path) (ns : List Text) (c : t.Body) (key : Text) (i : ℕ) (before : List t.Plain) (vs : Values Path) (is : Items) → passed_of w ≡ u
        → Owned st (λ q. times_items q is) → ItemsStand app τ τ st.look m b w ms p ns c (entries key i before vs) is → Here b ms w
        → Shows (drawn_items app st.look ns ms c p i is) (r.render_entries (one_item m u w ns c) p (entries key i before vs)) (values_some vs)
    shows_items m b w ms u p ns c key i before no_values Live.no_items e o h s = record { is = refl; there = refl }
    shows_items m b w ms u p ns c key i before (value v vs) (Live.item_live z k ls is) e o h s =
        let x : Entry = record { key = Rattle.gl_value.specs.Value.key_of key i v; occurrence = r.occurrences (Rattle.gl_value.specs.Value.key_of key i v) before; value = v; index = i } in
        let q = item x.key x.occurrence ∷ p in
        let oi : Owned st (λ n. occurs n (item_made z)) = record { once = λ n. let a = o.once n in omega (arith, a); old = λ n le. let a = o.old n le in omega (arith, a) } in
        let ol : Owned st (λ n. times_in n ls) = record { once = λ n. let a = o.once n in omega (arith, a); old = λ n le. let a = o.old n le in omega (arith, a) } in
        let or : Owned st (λ n. times_items n is) = record { once = λ n. let a = o.once n in omega (arith, a); old = λ n le. let a = o.old n le in omega (arith, a) } in
        let s' = item_ready app τ τ b st ms w w q ns x x z s oi h.0 h.1 (keeps_more (keeps_itself (Cold st) _) (keeps_more (keeps_itself (Cold st) _) keeps_none)) in
        let g = shows_in m _ _ (with_names (item_names ns z) ms) u q 0 c ls (locals_passed (bind ns (entry_pairs q x)) w ∙ e) ol h.4 s' in
        let rest = shows_items m b w ms u p ns c key (suc i) (x.key ∷ before) vs is e or h.5 s in
        let at : item z.key z.occurrence ∷ p ≡ q = ap₂ (λ a n. item a n ∷ p) h.0.0 h.0.1 in
        let D : Path → Forest = λ j. drawn_in app st.look (with_names (item_names ns z) ms) j 0 c ls in
        let arm = arm_shows app τ st.look q k ls (D q) (one_item m u w ns c q x) g.is g.there h.3 in
        record {
          is =
              ap₂ piece
              (ap₂ (λ (j : Path) (y : V). r.item_region j y i (join (D j) (drawn_comment st.look j k))) at (ap held_value h.0.2) ∙ ap (r.item_region q v i) arm)
              rest.is;
          there = ap (λ y. y || r.has_node (drawn_items app st.look ns ms c p (suc i) is)) (ap (λ j. r.has_node (join (D j) (drawn_comment st.look j k))) at ∙ arm_node app τ st.look q k ls (D q) g.there h.3);
        }
    shows_items m b w ms u p ns c key i before _ _ e o h s = absurd h
