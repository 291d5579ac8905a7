-- An element that is appended stands for what is rendered.
use Rattle.std.proofs.Common.{◌≡◌, ℕ, suc, ◌+◌, ◌≤◌, Bool, true, false, List, [], ◌∷◌, ◌++◌, map, Option, Some, cond, refl, sym, ◌∙◌, ap, ap₂, subst, arith}
use Rattle.std.specs.Prelude.{if◌then◌else◌, filter, length}
use Rattle.gl_base.specs.Texts.{Text}
use Rattle.gl_ast.specs.Template.{Plain, Exprs, AttrValue, Slots, Part}
use Rattle.gl_ast.specs.Template as t
use Rattle.gl_meaning.specs.App.{App}
use Rattle.gl_meaning.specs.Path.{Path}
use Rattle.gl_meaning.specs.Scope.{Pair, NamedPairs, Scope}
use Rattle.gl_meaning.specs.Eval.{Store, eval_all_in, eval_named_in, eval_value, values_in}
use Rattle.gl_meaning.specs.Parts.{WrittenModifier, distinct_names, taken_values, some_live, taken_pairs, attribute_value, modifier_of, WrittenValue, attributes_in, modifiers_in}
use Rattle.gl_plain.specs.Binding.{BoundAll, place}
use Rattle.gl_plain.specs.Parts.{mwritten_parts, modifier_by}
use Rattle.gl_plain.specs.Tags.{Waiting, bind_written, Given, attributes_waiting, names_waiting, taken_waiting, some_waiting_live, given_pairs, given_refs, AttrsGiven, give_attrs, flush_parts, WaitingModifier, modifiers_waiting, named_with, first_values, values_from, ModsGrown, install_all, install_parts}
use Rattle.gl_plain.specs.Grow.{made_node, GrowComponents, GrowYields, grow_stmt, grow_body}
use Rattle.gl_plain.specs.Stands.{Obeys, CellsIn, Gives, attrs_by, mods_by, head_of, tail_of, pairs_for, modifier_pairs, AttrsStand, ModsStand}
use Rattle.gl_plain.specs.InScope.{InScope}
use Rattle.gl_plain.proofs.Moves.{Moves, both_new, before_new, recount, no_move, make_moves, make_at, hit_self, is_old, owned_after}
use Rattle.gl_plain.proofs.Pairs.{obeys_pairs, obeys_less, left_occurs}
use Rattle.gl_plain.proofs.Binding.{obeys_right, ids_below}
use Rattle.gl_plain.proofs.Stay.{stay_in, attrs_stay, spot_stays_in, left_above, right_above}
use Rattle.gl_plain.proofs.Placing.{scope_grows, Older, older_still, older_stays, place_in}
use Rattle.gl_plain.proofs.Grows.{Grown, GrownIn}
use Rattle.gl_plain.proofs.Elements.{element_attrs, element_mods, distinct_by, taken_by, live_by, taken_pairs_by, near_parts}
use Rattle.gl_plain.proofs.Tags.{ModsMean, names_mean, taken_means, live_means, fixed_means, WrittenGives, written_are, refs_move, refs_mean, GivensBelow, ModsBelow, attributes_below, modifiers_below, taken_below, refs_low}
use Rattle.gl_plain.specs.Ids.{a_ref, a_node, a_modifier, Id, ref, node, hit, occurs, modifier_id}
use Rattle.gl_plain.specs.State.{Names, names_by, MScope, scope_by, element_content, content, modifier_row, Installed, State, make, note_installed, pair_of}
use Rattle.gl_plain.specs.Live.{times_attrs, times_mods, times_in}

low_still : (b : ℕ) (st st' : State) (c : Id → ℕ) → b ≤ st.next a_ref → Moves st st' (λ q. 0) c → b ≤ st'.next a_ref
low_still b st st' c le m = let h = m.more (ref 0) in omega (arith, h, le)

-- Attributes

module _ (app : App) (τ : Store) (b : ℕ) (w : Scope) (ms : MScope) (ps : List Part) (made : List Id) (parts : List Waiting) (n0 : ℕ) (low : GivensBelow n0 (attributes_waiting parts)) where
  abbrev pub live_names : List Text → List Text
  live_names ns = filter (λ k. some_live (taken_values k (attrs_by ps w))) ns

  abbrev pub all_attrs : List Text → List (Text × Option Text)
  all_attrs ns = map (λ n. (n, attribute_value (taken_pairs app τ (attrs_by ps w) n))) ns

  pub record AttrsAre (ns : List Text) (st : State) (r : AttrsGiven) : Type 0 where
    pub attrs : r.attrs ≡ all_attrs ns
    pub moves : Moves st r.state (λ q. 0) (λ q. times_attrs q r.spots)
    pub stands : AttrsStand app τ τ r.state.look made w ms (attrs_by ps) (live_names ns) r.spots

  abbrev vs : List (WrittenValue MScope)
  vs = attributes_in (mwritten_parts ms ps)

  abbrev gs : List (Text × Given)
  gs = attributes_waiting parts

  -- what was bound means what was written, in this state
  abbrev Bound : State → Type 0
  Bound st = WrittenGives app b ms st.look made (mwritten_parts ms ps) parts

  bound_still : (st st' : State) (c : Id → ℕ) → Moves st st' (λ q. 0) c → Older st made → Bound st → Bound st'
  bound_still st st' c m o h = λ f ρ ob cells. h f ρ (obeys_less st.look st'.look made made f (λ q w. (w, older_stays st st' made c m o (ref q) w)) ob) cells

  -- whether an attribute takes a live value doesn't depend on what references mean
  live_is : (f : ℕ → Pair) → scope_by f ms ≡ w → (n : Text) → some_live (taken_values n (attrs_by ps w)) ≡ some_live (taken_values n vs)
  live_is f e n =
      ap (λ z. some_live (taken_values n (attrs_by ps z))) (sym e) ∙ (ap (λ z. some_live (taken_values n z)) (element_attrs f ms ps) ∙ (ap some_live (taken_by f n vs) ∙ live_by f (taken_values n vs)))

  pairs_are : (f : ℕ → Pair) → scope_by f ms ≡ w → (n : Text) → map (λ v. eval_value app τ (scope_by f v.by) v.value) (taken_values n vs) ≡ taken_pairs app τ (attrs_by ps w) n
  pairs_are f e n = taken_pairs_by f app τ ms ps n ∙ ap (λ z. taken_pairs app τ (attrs_by ps z) n) e

  pub attrs_grow : (ns : List Text) (st : State) → n0 ≤ st.next a_ref → b ≤ st.next a_ref → InScope app τ b st.look ms w → Older st made → Bound st → AttrsAre ns st (give_attrs gs ns st)
  attrs_grow [] st ne le s o h = record { attrs = refl; moves = no_move st; stands = tt }
  attrs_grow (n ∷ ns) st ne le s o h = by (some_waiting_live (taken_waiting n gs)) refl (attrs_grow ns) where
    by : (u : Bool) → some_waiting_live (taken_waiting n gs) ≡ u
        → ((st' : State) → n0 ≤ st'.next a_ref → b ≤ st'.next a_ref → InScope app τ b st'.look ms w → Older st' made → Bound st' → AttrsAre ns st' (give_attrs gs ns st'))
        → AttrsAre (n ∷ ns) st
        (if u
        then (let x = place (given_refs (taken_waiting n gs) st) in let r = give_attrs gs ns x.state in record { attrs = (n, attribute_value x.pairs) ∷ r.attrs; spots = record { name = n; spot = x.spot } ∷ r.spots; state = r.state })
        else (let r = give_attrs gs ns st in record { attrs = (n, attribute_value (given_pairs (taken_waiting n gs))) ∷ r.attrs; spots = r.spots; state = r.state }))
    by true e g =
        let f0 = pair_of st.look in
        let means = taken_means app f0 τ n vs gs (h f0 τ (obeys_pairs st.look made) s.cells).0 in
        let x0 = given_refs (taken_waiting n gs) st in
        let m0 = refs_move (taken_waiting n gs) st in
        let E : Store → (ℕ → Pair) → List Pair = λ ρ f. taken_pairs app ρ (attrs_by ps (scope_by f ms)) n in
        let gives : Gives app x0.state.look (made ++ x0.made) ms (λ f. map f x0.ids) E =
        (λ f ρ ob c.
        refs_mean app b ms f ρ c (taken_values n vs) (taken_waiting n gs) st
        (taken_means app f ρ n vs gs
        (h f ρ (obeys_less st.look x0.state.look made (made ++ x0.made) f (λ q u. (left_occurs (ref q) made x0.made u, older_stays st x0.state made (λ q. occurs q x0.made) m0 o (ref q) u)) ob) c).0)
        (obeys_right x0.state.look made x0.made f ob)
        ∙ taken_pairs_by f app ρ ms ps n) in
        let s0 = scope_grows app τ b st x0.state ms w (λ q. occurs q x0.made) le m0 s in
        let x = place x0 in
        let k = place_in app τ ms made st x0 E (taken_pairs app τ (attrs_by ps w) n) m0 (older_still st x0.state made (λ q. occurs q x0.made) m0 o) (refs_low n0 (taken_waiting n gs) st ne (taken_below n0 n gs low)) gives s0.cells (ap (λ z. taken_pairs app τ (attrs_by ps z) n) s0.is) in
        let cx : Id → ℕ = λ q. occurs q x.spot.made in
        let le1 = low_still b st x.state cx le k.moves in
        let s1 = scope_grows app τ b st x.state ms w cx le k.moves s in
        let o1 = older_still st x.state made cx k.moves o in
        let ne1 : n0 ≤ x.state.next a_ref = (let j = k.moves.more (ref 0) in omega (arith, j, ne)) in
        let i = g x.state ne1 le1 s1 o1 (bound_still st x.state cx k.moves o h) in
        let r = give_attrs gs ns x.state in
        let cr : Id → ℕ = λ q. times_attrs q r.spots in
        let live : some_live (taken_values n (attrs_by ps w)) ≡ true = live_is f0 s.is n ∙ (sym (live_means app f0 τ (taken_values n vs) (taken_waiting n gs) means) ∙ e) in
        record {
          attrs = ap₂ (λ z zs. (n, attribute_value z) ∷ zs) k.shows i.attrs;
          moves = both_new st x.state r.state cx cr k.moves i.moves;
          stands = subst (λ z. AttrsStand app τ τ r.state.look made w ms (attrs_by ps) (cond z (n ∷ live_names ns) (live_names ns)) (record { name = n; spot = x.spot } ∷ r.spots)) (sym live) (
            refl,
            spot_stays_in app x.state.look r.state.look ms made x.spot _ _ (older_stays x.state r.state made cr i.moves o1) (before_new st x.state r.state cx cr k.moves i.moves) k.spotted,
            i.stands,
          );
        }
    by false e g =
        let f0 = pair_of st.look in
        let means = taken_means app f0 τ n vs gs (h f0 τ (obeys_pairs st.look made) s.cells).0 in
        let i = g st ne le s o h in
        let r = give_attrs gs ns st in
        let live : some_live (taken_values n (attrs_by ps w)) ≡ false = live_is f0 s.is n ∙ (sym (live_means app f0 τ (taken_values n vs) (taken_waiting n gs) means) ∙ e) in
        record {
          attrs = ap₂ (λ z zs. (n, attribute_value z) ∷ zs) (fixed_means app f0 τ (taken_values n vs) (taken_waiting n gs) means e ∙ pairs_are f0 s.is n) i.attrs;
          moves = i.moves;
          stands = subst (λ z. AttrsStand app τ τ r.state.look made w ms (attrs_by ps) (cond z (n ∷ live_names ns) (live_names ns)) r.spots) (sym live) i.stands;
        }

-- Modifiers

second_names : (f : ℕ → Pair) (ns : Names) → map f (map (λ n. n.1) ns) ≡ map (λ n. n.1) (names_by f ns)
second_names f [] = refl
second_names f (n ∷ ns) = ap (λ zs. f n.1 ∷ zs) (second_names f ns)

first_names : (f : ℕ → Pair) (ns : Names) → map (λ n. n.0) (names_by f ns) ≡ map (λ n. n.0) ns
first_names f [] = refl
first_names f (n ∷ ns) = ap (λ zs. n.0 ∷ zs) (first_names f ns)

map_both : (f : ℕ → Pair) (xs ys : List ℕ) → map f (xs ++ ys) ≡ map f xs ++ map f ys
map_both f [] ys = refl
map_both f (x ∷ xs) ys = ap (λ zs. f x ∷ zs) (map_both f xs ys)

count_same : (f : ℕ → Pair) (rs : List ℕ) → length (map f rs) ≡ length rs
count_same f [] = refl
count_same f (r ∷ rs) = ap suc (count_same f rs)

pub args_first : (xs ys : List Pair) → first_values (length xs) (values_in (xs ++ ys)) ≡ values_in xs
args_first [] ys = refl
args_first (x ∷ xs) ys = ap (λ zs. x.value ∷ zs) (args_first xs ys)

pub args_after : (xs ys : List Pair) → values_from (length xs) (values_in (xs ++ ys)) ≡ values_in ys
args_after [] ys = refl
args_after (x ∷ xs) ys = args_after xs ys

pub names_after : (ns : NamedPairs) → named_with (map (λ n. n.0) ns) (values_in (map (λ n. n.1) ns)) ≡ map (λ n. (n.0, n.1.value)) ns
names_after [] = refl
names_after (n ∷ ns) = ap (λ zs. (n.0, n.1.value) ∷ zs) (names_after ns)

module _ (app : App) (τ : Store) (b : ℕ) (w : Scope) (ms : MScope) (made : List Id) where
  pub record ModsAre (n : ℕ) (ws : Scope → List (WrittenModifier Scope)) (i : ℕ) (rest : List (WrittenModifier Scope)) (st : State) (r : ModsGrown) : Type 0 where
    pub moves : Moves st r.state (λ q. 0) (λ q. times_mods q r.spots)
    pub stands : ModsStand app τ τ r.state.look made n w ms ws i rest r.spots

-- how many arguments there are, and which names

pub count_exprs : Exprs → ℕ
count_exprs t.no_exprs = 0
count_exprs (t.expr e es) = suc (count_exprs es)

pub name_list : t.NamedExprs → List Text
name_list t.no_named = []
name_list (t.named_expr n e ns) = n ∷ name_list ns

module _ (app : App) where
  pub eval_count : (ρ : Store) (g : t.Expr → Pair) (s : Scope) (es : Exprs) → length (eval_all_in app ρ g s es) ≡ count_exprs es
  unfolding count_exprs
  eval_count ρ g s t.no_exprs = refl
  eval_count ρ g s (t.expr e es) = ap suc (eval_count ρ g s es)

  pub eval_names : (ρ : Store) (g : t.Expr → Pair) (s : Scope) (ns : t.NamedExprs) → map (λ n. n.0) (eval_named_in app ρ g s ns) ≡ name_list ns
  unfolding name_list
  eval_names ρ g s t.no_named = refl
  eval_names ρ g s (t.named_expr n e ns) = ap (λ zs. n ∷ zs) (eval_names ρ g s ns)

mods_wider : (n m : ℕ) → n ≤ m → (ks : List WaitingModifier) → ModsBelow n ks → ModsBelow m ks
mods_wider n m le [] h = tt
mods_wider n m le (k ∷ ks) h = (ids_below n m le (k.ids ++ map (λ y. y.1) k.names) h.0, mods_wider n m le ks h.1)

pub noted_installed : (st st' : State) (a a' : Id → ℕ) (r : ℕ) → Moves st st' a a' → Moves st (note_installed r st') a a'
noted_installed st st' a a' r m = record { kept = m.kept; more = m.more; fewer = m.fewer; once = m.once; old = m.old; still = m.still; gone = m.gone; lower = m.lower }

module _ (app : App) (τ : Store) (b : ℕ) (w : Scope) (ms : MScope) (made : List Id) (f0 : ℕ → Pair) (e0 : scope_by f0 ms ≡ w) (n : ℕ) where
  -- what was bound means what was written, in this state
  abbrev BoundMods : State → List (WrittenModifier MScope) → List WaitingModifier → Type 0
  BoundMods st ds ks = (f : ℕ → Pair) (ρ : Store) → Obeys st.look made f → CellsIn app ρ f ms → ModsMean app f ρ ds ks

  pub mods_grow : (ds : List (WrittenModifier MScope)) (ks : List WaitingModifier) (ws : Scope → List (WrittenModifier Scope)) → ((f : ℕ → Pair) → ws (scope_by f ms) ≡ map (modifier_by f) ds)
      → (i : ℕ) (st : State) → b ≤ st.next a_ref → InScope app τ b st.look ms w → Older st made → ModsBelow (st.next a_ref) ks → BoundMods st ds ks
      → ModsAre app τ b w ms made n ws i (map (modifier_by f0) ds) st (install_all n i ks st)
  mods_grow [] [] ws e i st le s o lw h = record { moves = no_move st; stands = tt }
  mods_grow [] (k ∷ ks) ws e i st le s o lw h = absurd (h (pair_of st.look) τ (obeys_pairs st.look made) s.cells)
  mods_grow (d ∷ ds) [] ws e i st le s o lw h = absurd (h (pair_of st.look) τ (obeys_pairs st.look made) s.cells)
  mods_grow (d ∷ ds) (k ∷ ks) ws e i st le s o lw h =
      let f1 = pair_of st.look in
      let here = h f1 τ (obeys_pairs st.look made) s.cells in
      let now : ws w ≡ map (modifier_by f0) (d ∷ ds) = ap ws (sym e0) ∙ e f0 in
      let x : BoundAll = record { ids = k.ids ++ map (λ y. y.1) k.names; made = []; state = st } in
      let E : Store → (ℕ → Pair) → List Pair = λ ρ f. pairs_for app ρ (head_of (ws (scope_by f ms))) in
      let gives : Gives app st.look (made ++ []) ms (λ f. map f x.ids) E =
      (λ f ρ ob c.
      let a = h f ρ (obeys_less st.look st.look made (made ++ []) f (λ q u. (left_occurs (ref q) made [] u, refl)) ob) c in
      map_both f k.ids (map (λ y. y.1) k.names)
      ∙ (ap₂ (λ ys zs. ys ++ zs) a.1 (second_names f k.names ∙ ap (map (λ y. y.1)) a.2) ∙ sym (ap (λ z. pairs_for app ρ (head_of z)) (e f)))) in
      let m = modifier_of app τ [] 0 (modifier_by f0 d) in
      let ps = modifier_pairs app τ (modifier_by f0 d) in
      let z = place x in
      let kp = place_in app τ ms made st x E ps (no_move st) o lw.0 gives s.cells (ap (λ y. pairs_for app τ (head_of (ws y))) s.is ∙ ap (λ y. pairs_for app τ (head_of y)) now) in
      let vals = values_in z.pairs in
      let id = z.state.next a_modifier in
      let count0 = length k.ids in
      let names0 = map (λ y. y.0) k.names in
      let row : Installed = record { on_node = n; place = i; name = k.name; args = first_values count0 vals; names = named_with names0 (values_from count0 vals) } in
      let mm = noted_installed z.state (make a_modifier (modifier_row row) z.state) (λ q. 0) (λ q. hit q (modifier_id id)) id (make_moves a_modifier (modifier_row row) z.state tt) in
      let st1 = note_installed id (make a_modifier (modifier_row row) z.state) in
      let m1 = both_new st z.state st1 (λ q. occurs q z.spot.made) (λ q. hit q (modifier_id id)) kp.moves mm in
      let count : Id → ℕ = λ q. hit q (modifier_id id) + occurs q z.spot.made in
      let m2 = recount st st1 (λ q. 0) (λ q. 0) count (λ q. occurs q z.spot.made + hit q (modifier_id id)) (λ q. refl) (λ q. omega arith) m1 in
      let le1 = low_still b st st1 count le m2 in
      let s1 = scope_grows app τ b st st1 ms w count le m2 s in
      let o1 = older_still st st1 made count m2 o in
      let h1 : BoundMods st1 ds ks = (λ f ρ ob c. (h f ρ (obeys_less st.look st1.look made made f (λ q u. (u, older_stays st st1 made count m2 o (ref q) u)) ob) c).3) in
      let g = mods_grow ds ks (λ s'. tail_of (ws s')) (λ f. ap tail_of (e f)) (suc i) st1 le1 s1 o1 (mods_wider (st.next a_ref) (st1.next a_ref) (m2.more (ref 0)) ks lw.1) h1 in
      let r = install_all n (suc i) ks st1 in
      let cr : Id → ℕ = λ q. times_mods q r.spots in
      let counted : count0 ≡ length m.args = sym (count_same f1 k.ids) ∙ (ap length here.1 ∙ (eval_count app τ _ (scope_by f1 d.by) d.args ∙ sym (eval_count app τ _ (scope_by f0 d.by) d.args))) in
      let named : names0 ≡ map (λ y. y.0) m.names = sym (first_names f1 k.names) ∙ (ap (map (λ y. y.0)) here.2 ∙ (eval_names app τ _ (scope_by f1 d.by) d.names ∙ sym (eval_names app τ _ (scope_by f0 d.by) d.names))) in
      let same = before_new st st1 r.state count cr m2 g.moves in
      let others = older_stays z.state r.state made (λ q. hit q (modifier_id id) + cr q) (both_new z.state st1 r.state (λ q. hit q (modifier_id id)) cr mm g.moves) (older_still st z.state made (λ q. occurs q z.spot.made) kp.moves o) in
      let args_are : first_values count0 vals ≡ values_in m.args = ap₂ (λ c us. first_values c (values_in us)) counted kp.shows ∙ args_first m.args (map (λ y. y.1) m.names) in
      let rest_are : values_from count0 vals ≡ values_in (map (λ y. y.1) m.names) = ap₂ (λ c us. values_from c (values_in us)) counted kp.shows ∙ args_after m.args (map (λ y. y.1) m.names) in
      let names_are : named_with names0 (values_from count0 vals) ≡ map (λ y. (y.0, y.1.value)) m.names = ap₂ named_with named rest_are ∙ names_after m.names in
      record {
        moves = both_new st st1 r.state count cr m2 g.moves;
        stands = (
          same (modifier_id id) (left_above _ _ (hit_self (modifier_id id)))
              ∙ (make_at a_modifier (modifier_row row) z.state
              ∙ (ap₂ (λ us ns. Some (modifier_row (record { on_node = n; place = i; name = k.name; args = us; names = ns }))) args_are names_are
              ∙ ap (λ y. Some (modifier_row (record { on_node = n; place = i; name = y; args = values_in m.args; names = map (λ y. (y.0, y.1.value)) m.names }))) (sym here.0))),
          counted,
          named,
          spot_stays_in app z.state.look r.state.look ms made z.spot E ps others
              (λ q u. same q (right_above _ _ u) ∙ before_new st z.state st1 (λ q. occurs q z.spot.made) (λ q. hit q (modifier_id id)) kp.moves mm q u) kp.spotted,
          g.stands,
        );
      }

-- The element

module _ (app : App) (τ : Store) (m : ℕ) (d : GrowComponents) (y : GrowYields) where
  pub element_grows : (tag : Text) (ps : List Part) (c : t.Body) (b : ℕ) (w : Scope) (ms : MScope) (p : Path) (st : State) → b ≤ st.next a_ref → InScope app τ b st.look ms w
      → ((st' : State) → b ≤ st'.next a_ref → InScope app τ b st'.look ms w → GrownIn app τ m b w ms p 0 c st' (grow_body app d y ms p 0 c st'))
      → Grown app τ m b w ms p (t.element tag ps c) st (grow_stmt app d y ms p (t.element tag ps c) st)
  element_grows tag ps c b w ms p st le s body =
      let ws = mwritten_parts ms ps in
      let vs = attributes_in ws in
      let x = bind_written app ws st in
      let hx = written_are app b ms ws (near_parts app b ms ps s.low) st le in
      let made = x.made in
      let gs = attributes_waiting x.parts in
      let cm : Id → ℕ = λ q. occurs q made in
      let le0 = low_still b st x.state cm le hx.moves in
      let s0 = scope_grows app τ b st x.state ms w cm le hx.moves s in
      let o0 : Older x.state made = is_old x.state cm (owned_after st x.state (λ q. 0) cm hx.moves) in
      let f0 = pair_of x.state.look in
      let waiting = (hx.gives f0 τ (obeys_pairs x.state.look made) s0.cells).0 in
      let lowg = attributes_below (x.state.next a_ref) x.parts hx.low in
      let a = flush_parts x.parts x.state in
      let ha = attrs_grow app τ b w ms ps made x.parts (x.state.next a_ref) lowg (names_waiting gs) x.state (omega arith) le0 s0 o0 hx.gives in
      let names : names_waiting gs ≡ distinct_names (attrs_by ps w) =
      names_mean app f0 τ vs gs waiting ∙ sym (ap (λ z. distinct_names (attrs_by ps z)) (sym s0.is) ∙ (ap distinct_names (element_attrs f0 ms ps) ∙ distinct_by f0 vs)) in
      let n = a.state.next a_node in
      let st1 = made_node (element_content tag a.attrs) a.state in
      let mn = make_moves a_node (content (element_content tag a.attrs)) a.state tt in
      let ca : Id → ℕ = λ q. times_attrs q a.spots in
      let cn : Id → ℕ = λ q. hit q (node n) in
      let ma = both_new st x.state a.state cm ca hx.moves ha.moves in
      let front : Id → ℕ = λ q. (cm q + ca q) + cn q in
      let m1 = both_new st a.state st1 (λ q. cm q + ca q) cn ma mn in
      let le1 = low_still b st st1 front le m1 in
      let s1 = scope_grows app τ b st st1 ms w front le m1 s in
      let g = body st1 le1 s1 in
      let r = grow_body app d y ms p 0 c st1 in
      let cb : Id → ℕ = λ q. times_in q r.0 in
      let upto : Id → ℕ = λ q. front q + cb q in
      let m2 = both_new st st1 r.1 front cb m1 g.moves in
      let le2 = low_still b st r.1 upto le m2 in
      let s2 = scope_grows app τ b st r.1 ms w upto le m2 s in
      let mods : mods_by ps w ≡ map (modifier_by f0) (modifiers_in ws) = ap (mods_by ps) (sym s0.is) ∙ element_mods f0 ms ps in
      let since : Id → ℕ = λ q. ca q + (cn q + cb q) in
      let ms2 = both_new x.state a.state r.1 ca (λ q. cn q + cb q) ha.moves (both_new a.state st1 r.1 cn cb mn g.moves) in
      let o2 = older_still x.state r.1 made since ms2 o0 in
      let ks = modifiers_waiting x.parts in
      let hm : BoundMods app τ b w ms made f0 s0.is n r.1 (modifiers_in ws) ks =
      (λ f ρ ob cells. (hx.gives f ρ (obeys_less x.state.look r.1.look made made f (λ q u. (u, older_stays x.state r.1 made since ms2 o0 (ref q) u)) ob) cells).1) in
      let z = install_parts n 0 x.parts r.1 in
      let hz = mods_grow app τ b w ms made f0 s0.is n (modifiers_in ws) ks (mods_by ps) (λ f. element_mods f ms ps) 0 r.1 le2 s2 o2 (mods_wider (x.state.next a_ref) (r.1.next a_ref) (ms2.more (ref 0)) ks (modifiers_below (x.state.next a_ref) x.parts hx.low)) hm in
      let cz : Id → ℕ = λ q. times_mods q z.spots in
      let m3 = both_new st r.1 z.state upto cz m2 hz.moves in
      let last = before_new st r.1 z.state upto cz m2 hz.moves in
      let mid = before_new st st1 r.1 front cb m1 g.moves in
      let after : Id → ℕ = λ q. (cn q + cb q) + cz q in
      let ms3 = both_new a.state r.1 z.state (λ q. cn q + cb q) cz (both_new a.state st1 r.1 cn cb mn g.moves) hz.moves in
      let oa = older_still x.state a.state made ca ha.moves o0 in
      record {
        moves = recount st z.state (λ q. 0) (λ q. 0) (λ q. (cn q + (cm q + ca q)) + (cb q + cz q)) (λ q. upto q + cz q) (λ q. refl) (λ q. omega arith) m3;
        stands = (
          last (node n) (left_above _ _ (right_above _ _ (hit_self (node n))))
              ∙ (mid (node n) (right_above _ _ (hit_self (node n)))
              ∙ (make_at a_node (content (element_content tag a.attrs)) a.state ∙ ap (λ k. Some (content (element_content tag k))) (ha.attrs ∙ ap (all_attrs app τ b w ms ps made x.parts (x.state.next a_ref) lowg) names))),
          subst (λ k. AttrsStand app τ τ z.state.look made w ms (attrs_by ps) (live_names app τ b w ms ps made x.parts (x.state.next a_ref) lowg k) a.spots) names
              (attrs_stay app a.state.look z.state.look τ τ made w ms (attrs_by ps) (live_names app τ b w ms ps made x.parts (x.state.next a_ref) lowg (names_waiting gs)) a.spots
              (older_stays a.state z.state made after ms3 oa) (before_new x.state a.state z.state ca after ha.moves ms3) ha.stands),
          subst (λ k. ModsStand app τ τ z.state.look made n w ms (mods_by ps) 0 k z.spots) (sym mods) hz.stands,
          stay_in app r.1.look z.state.look τ τ m b w ms p 0 c r.0 (λ q u. last q (right_above _ _ u)) g.stands,
        );
      }
