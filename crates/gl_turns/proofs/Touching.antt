-- An update touches only what was given to items, statement by statement.
use Rattle.std.proofs.Common.{◌≡◌, ◌+◌, ℕ, zero, suc, max, List, [], ◌∷◌, ◌++◌, Bool, true, false, Option, Some, None, cond, refl, sym, ap, ap₂, ◌∙◌, subst, arith, inl, inr}
use Rattle.std.specs.Prelude.{if◌then◌else◌}
use Rattle.std.proofs.lemmas.Bool.Decides.{Decides-eqb}
use Rattle.gl_base.specs.Texts.{Text}
use Rattle.gl_value.specs.Value.{Values, no_values, value, count_value, same}
use Rattle.gl_ast.specs.Template as t
use Rattle.gl_meaning.specs.App.{App}
use Rattle.gl_meaning.specs.Path.{at, main, otherwise, items, item, into, slot, Path, V, path_eq, no_owners}
use Rattle.gl_meaning.specs.Scope.{Source, item_value, item_index, Scope, scope, passed, passed_of, with_locals, bind}
use Rattle.gl_meaning.specs.Eval.{Store, class_at, eval_all, eval_given, takes_first}
use Rattle.gl_meaning.specs.Known.{Among}
use Rattle.gl_meaning.specs.Render.{Entry, entries, entry_pairs, values_listed, Block, block_named}
use Rattle.gl_meaning.proofs.Equal.{both_left, both_right, same_means, no_owners-Decides}
use Rattle.gl_meaning.proofs.Once.{Distinct, distinct}
use Rattle.gl_meaning.proofs.Pieces.{among_either, among_left, among_right}
use Rattle.gl_plain.specs.Ids.{a_ref, Id, id_eq, ref, hit, occurs}
use Rattle.gl_plain.specs.State.{MScope, mscope, mnothing, mpassed, passed_in, mslots, mwriter, writer, named_as, with_names, State, dropped, touch, held_value}
use Rattle.gl_plain.specs.Binding.{Spot, first_value}
use Rattle.gl_plain.specs.Live.{AttrSpot, ModSpot, ItemSpot, item_names, item_made, Live, Lives, Items, times, times_in, times_items, times_comment, times_attrs, times_mods}
use Rattle.gl_plain.specs.Live
use Rattle.gl_plain.specs.Grow.{Arm, or_comment, ItemGrown, grow_entries, branch_from, listed_from, unlisted_from}
use Rattle.gl_plain.specs.Renew.{spot_pairs, reread, renew_attrs, renew_mods, give, Handle, times_handle, times_handles, is_of, with_front, taken, renew_item, sync_one, sync, where_values, where_block, fresh_body, fresh_items, renew, renew_body, handles, renew_root}
use Rattle.gl_plain.specs.Stands.{top, WhereValues, WhereBlock, Stands, StandIn, ItemsStand, BlockStands, ListStands, ElseStands, attrs_by, mods_by}
use Rattle.gl_plain.specs.Counts.{comment_node, nodes_of, nodes_in, nodes_items, attr_positions, positions_of, positions_in}
use Rattle.gl_plain.specs.Machine.{no_place, RootStands}
use Rattle.gl_plain.proofs.Moves.{hit_self, unhit}
use Rattle.gl_plain.proofs.Apart.{NoStep, AnyStep, FromStep}
use Rattle.gl_plain.proofs.Stay.{left_above}
use Rattle.gl_plain.proofs.Renews.{handles_count}
use Rattle.gl_plain.proofs.CountGrows.{CountedArm, arm_steps, entries_steps}
use Rattle.gl_plain.proofs.CountRenews as k
use Rattle.gl_plain.proofs.CountRenews.{Fails, fails_left, fails_right}
use Rattle.gl_turns.specs.Places.{Place, item_place, instance_place, comment_places, attr_places, mod_places, places, places_items, places_in}
use Rattle.gl_turns.proofs.Touched.{source_row, Quiet, quiet_all, quiet_then, quiet_leaves, quiet_drop, quiet_reread, quiet_text, quiet_attrs, quiet_mods, Touches, touch_quiet, wide, quiet_before, Lt, Ow, Frames, own_after, own_of, both_touch, join_touch, give_touches}

-- what stands for an old item
abbrev handle_list : Path → Handle → List Place
handle_list p h =
    item_place (item h.spot.key h.spot.occurrence ∷ p) h.spot
    ∷ (places_in (item h.spot.key h.spot.occurrence ∷ p) 0 h.lives ++ comment_places (item h.spot.key h.spot.occurrence ∷ p) h.comment)

module _ (st0 : State) where
  give_frames : (r : ℕ) (x : Source) (v : V) (st : State) → Frames st0 st (give r x v st) (λ q. hit q (ref r))
  give_frames r x v st i lt z = by (same path_eq (held_value (st.look (ref r))) v) where
    by : (b : Bool) → (if b then st else touch r x v st).look (ref i) ≡ st.look (ref i)
    by true = refl
    by false = ap (λ b. if b then source_row x v else st.look (ref i)) (unhit (ref i) (ref r) z)

  give_later : (r : ℕ) (x : Source) (v : V) (st : State) → ((y : Source) → st.touched y ≡ true → (give r x v st).touched y ≡ true) → Lt st0 st → Lt st0 (give r x v st)
  give_later r x v st still le = by (same path_eq (held_value (st.look (ref r))) v) still where
    by : (b : Bool) → ((y : Source) → st.touched y ≡ true → (if b then st else touch r x v st).touched y ≡ true) → Lt st0 (if b then st else touch r x v st)
    by true s = le
    by false s = record { nodes = le.nodes; refs = le.refs; warm = λ y e. s y (le.warm y e) }

  module _ (app : App) (σ τ : Store) where
    abbrev OneGoes : List Text → MScope → Path → Handle → Type 0
    OneGoes ns ms p h = k.HandleTurns st0 st0.touched ⊥ app σ τ (λ g. absurd g) ns ms p h

    abbrev AllGo : List Text → MScope → Path → List Handle → Type 0
    AllGo ns ms p hs = k.AllTurn st0 st0.touched ⊥ app σ τ (λ g. absurd g) ns ms p hs

    module _ (ns : List Text) (ms : MScope) (p : Path) (os : List Place) where
      abbrev HandleTouches : Handle → Type 0
      HandleTouches h =
          ((a : Place) → Among a (handle_list p h) → Among a os)
          × ((q : Path) (st : State) → q ≡ item h.spot.key h.spot.occurrence ∷ p → Lt st0 st → Ow st0 st (λ i. times_in i h.lives)
          → let r = h.go (with_names (item_names ns h.spot) ms) q st in Touches st0 st r.1 (λ i. times_in i h.lives) os (places_in q 0 r.0))

      abbrev AllTouch : List Handle → Type 0
      AllTouch [] = Unit {0}
      AllTouch (h ∷ hs) = HandleTouches h × AllTouch hs

      abbrev TakenTouch : Option (Handle × List Handle) → Type 0
      TakenTouch None = Unit {0}
      TakenTouch (Some y) = HandleTouches y.0 × AllTouch y.1

      front_touch : (h : Handle) (o : Option (Handle × List Handle)) → HandleTouches h → TakenTouch o → TakenTouch (with_front h o)
      front_touch h None g w = tt
      front_touch h (Some y) g w = (w.0, (g, w.1))

      taken_touch : (x : Entry) (hs : List Handle) → AllTouch hs → TakenTouch (taken x hs)
      taken_touch x [] g = tt
      taken_touch x (h ∷ hs) g = by (is_of x h) (front_touch h (taken x hs) g.0 (taken_touch x hs g.1)) where
        by : (b : Bool) → TakenTouch (with_front h (taken x hs)) → TakenTouch (if b then Some (h, hs) else with_front h (taken x hs))
        by true w = g
        by false w = w

      item_touches : (x : Entry) (h : Handle) (st : State) → is_of x h ≡ true → Lt st0 st → Ow st0 st (λ i. times_handle i h) → OneGoes ns ms p h → HandleTouches h
          → let g = renew_item ns ms (item x.key x.occurrence ∷ p) x h st in
          Touches st0 st g.arm.state (λ i. times_handle i h) os
          (item_place (item h.spot.key h.spot.occurrence ∷ p) h.spot ∷ (places_in (item h.spot.key h.spot.occurrence ∷ p) 0 g.arm.lives ++ comment_places (item h.spot.key h.spot.occurrence ∷ p) h.comment))
      item_touches x h st e le o turn touch =
          let q = item x.key x.occurrence ∷ p in
          let q' = item h.spot.key h.spot.occurrence ∷ p in
          let same_key = same_means ⊥ no_owners no_owners-Decides x.key h.spot.key (both_left _ _ e) in
          let same_place = (Decides-eqb x.occurrence h.spot.occurrence).0 (both_right (same no_owners x.key h.spot.key) _ e) in
          let here : q ≡ q' = ap₂ (λ a n. item a n ∷ p) same_key same_place in
          let st1 = give h.spot.value (item_value q) x.value st in
          let st2 = give h.spot.index (item_index q) (count_value x.index) st1 in
          let r = h.go (with_names (item_names ns h.spot) ms) q st2 in
          let new = item_place q' h.spot ∷ (places_in q' 0 r.0 ++ comment_places q' h.comment) in
          let cv : Id → ℕ = λ i. hit i (ref h.spot.value) in
          let ci : Id → ℕ = λ i. hit i (ref h.spot.index) in
          let cl : Id → ℕ = λ i. times_in i h.lives in
          let oa = own_of st0 st (λ i. times_handle i h) (λ i. cv i + (ci i + cl i)) (λ i. omega arith) o in
          let f1 = give_frames h.spot.value (item_value q) x.value st in
          let o1 = own_after st0 st st1 cv (λ i. ci i + cl i) oa f1 in
          let f2 = give_frames h.spot.index (item_index q) (count_value x.index) st1 in
          let o2 = own_after st0 st1 st2 ci cl o1 f2 in
          let inside = touch.0 (item_place q' h.spot) (inl refl) in
          let t1 = give_touches st0 st h.spot.value (item_value q) x.value os new q' h.spot inside (inl refl) (inl (ap item_value here, refl)) (oa.rows h.spot.value (left_above _ _ (hit_self (ref h.spot.value)))) (λ i n. refl) in
          let t2 = give_touches st0 st1 h.spot.index (item_index q) (count_value x.index) os new q' h.spot inside (inl refl) (inr (ap item_index here, refl)) (o1.rows h.spot.index (left_above _ _ (hit_self (ref h.spot.index)))) (λ i n. refl) in
          let le1 = give_later h.spot.value (item_value q) x.value st t1.still le in
          let le2 = give_later h.spot.index (item_index q) (count_value x.index) st1 t2.still le1 in
          let tg = touch.1 q st2 here le2 o2 in
          let tg' = subst (λ j. Touches st0 st2 r.1 cl os (places_in j 0 r.0)) here tg in
          let t3 = wide st0 st2 r.1 cl cl os os (places_in q' 0 r.0) new (λ i. omega arith) (λ z m. m) (λ z m. inr (among_left z (places_in q' 0 r.0) (comment_places q' h.comment) m)) tg' in
          let go = turn.0 q st2 here le2 o2 in
          let ob = own_of st0 st (λ i. times_handle i h) (λ i. (cv i + ci i) + cl i) (λ i. omega arith) o in
          wide st0 st r.1 (λ i. (cv i + ci i) + cl i) (λ i. times_handle i h) os os new new (λ i. omega arith) (λ z m. m) (λ z m. m)
          (both_touch st0 st st2 r.1 (λ i. cv i + ci i) cl os new ob go.rows
          (both_touch st0 st st1 st2 cv ci os new (own_of st0 st (λ i. times_handle i h) (λ i. cv i + ci i) (λ i. omega arith) o) f2 t1 t2) t3)

      sync_touches : (one : Path → Entry → State → ItemGrown) → ((q : Path) (x : Entry) (st : State) → CountedArm st (one q x st).arm) → (xs : List Entry) (olds : List Handle) (st : State) → Distinct xs
          → Lt st0 st → Ow st0 st (λ q. times_handles q olds) → AllGo ns ms p olds → AllTouch olds
          → let r = sync one ns ms p xs olds st in Touches st0 st r.1 (λ q. times_handles q olds) os (places_items p r.0)
      sync_touches one hone [] olds st d le o a g = touch_quiet st0 st (dropped (λ q. times_handles q olds) st) (λ q. times_handles q olds) os [] (quiet_drop (λ q. times_handles q olds) st)
      sync_touches one hone (x ∷ xs) olds st d le o a g =
          by (taken x olds) (k.taken_turns st0 st0.touched ⊥ app σ τ (λ g. absurd g) ns ms p x olds a) (taken_touch x olds g) (λ olds' st'. sync_touches one hone xs olds' st' d.1) where
            by : (o : Option (Handle × List Handle)) → k.TakenTurns st0 st0.touched ⊥ app σ τ (λ g. absurd g) ns ms p x olds o → TakenTouch o
                → ((olds : List Handle) (st : State) → Lt st0 st → Ow st0 st (λ q. times_handles q olds) → AllGo ns ms p olds → AllTouch olds → let r = sync one ns ms p xs olds st in Touches st0 st r.1 (λ q. times_handles q olds) os (places_items p r.0))
                → let g = sync_one one ns ms (item x.key x.occurrence ∷ p) x olds o st in let r = sync one ns ms p xs g.1 g.0.arm.state in
                Touches st0 st r.1 (λ q. times_handles q olds) os (places_items p (Live.item_live g.0.spot g.0.arm.comment g.0.arm.lives r.0))
            by None tk tg rec =
                let q = item x.key x.occurrence ∷ p in
                let grown = one q x st in
                let st1 = grown.arm.state in
                let leaves = (hone q x st).leaves in
                let r = sync one ns ms p xs olds st1 in
                let le1 : Lt st0 st1 = record {
                  nodes = let i = le.nodes in let j = k.runs_le (st.next Rattle.gl_plain.specs.Ids.a_node) (st1.next Rattle.gl_plain.specs.Ids.a_node) _ (hone q x st).nodes in omega (arith, i, j);
                  refs = let i = le.refs in let j = leaves.more in omega (arith, i, j);
                  warm = λ y e. leaves.touches y ∙ le.warm y e;
                } in
                let o1 : Ow st0 st1 (λ i. times_handles i olds) = record { once = o.once; low = o.low; rows = λ i w. leaves.rows i (let u = o.low i w in let j = le.refs in omega (arith, u, j)) ∙ o.rows i w } in
                quiet_before st0 st st1 r.1 (λ i. times_handles i olds) os _ (quiet_leaves st st1 leaves)
                (wide st0 st1 r.1 (λ i. times_handles i olds) (λ i. times_handles i olds) os os (places_items p r.0) (places_items p (Live.item_live grown.spot grown.arm.comment grown.arm.lives r.0)) (λ i. omega arith) (λ z m. m)
                (λ z m. inr (among_right z (places_in (item grown.spot.key grown.spot.occurrence ∷ p) 0 grown.arm.lives ++ comment_places (item grown.spot.key grown.spot.occurrence ∷ p) grown.arm.comment) (places_items p r.0) m))
                (rec olds st1 le1 o1 a g))
            by (Some y) tk tg rec =
                let l = item x.key x.occurrence in
                let arm = (renew_item ns ms (l ∷ p) x y.0 st).arm in
                let ca : Id → ℕ = λ q. times_handle q y.0 in
                let cr : Id → ℕ = λ q. times_handles q y.1 in
                let o' = own_of st0 st (λ q. times_handles q olds) (λ q. ca q + cr q) (λ i. let e = tk.0 (ref i) in omega (arith, e)) o in
                let oy = own_of st0 st (λ q. ca q + cr q) ca (λ i. omega arith) o' in
                let f = k.item_turn st0 st0.touched ⊥ app σ τ (λ g. absurd g) ns ms p x y.0 st tk.1 le oy tk.2 in
                let le1 = k.turn_later st0 st0.touched ⊥ p (Rattle.gl_plain.proofs.Apart.Only l) st arm.state ca (nodes_in arm.lives ++ comment_node arm.comment) (positions_in arm.lives) f le in
                let o1 = own_after st0 st arm.state ca cr o' f.rows in
                let r = sync one ns ms p xs y.1 arm.state in
                let rest = k.sync_turn st0 st0.touched ⊥ app σ τ (λ g. absurd g) ns ms p one hone xs y.1 arm.state d.1 le1 o1 tk.3 in
                let ti = item_touches x y.0 st tk.1 le oy tk.2 tg.0 in
                let tr = rec y.1 arm.state le1 o1 tk.3 tg.1 in
                let new = item_place (item y.0.spot.key y.0.spot.occurrence ∷ p) y.0.spot ∷ (places_in (item y.0.spot.key y.0.spot.occurrence ∷ p) 0 arm.lives ++ comment_places (item y.0.spot.key y.0.spot.occurrence ∷ p) y.0.comment) in
                wide st0 st r.1 (λ q. ca q + cr q) (λ q. times_handles q olds) (os ++ os) os (new ++ places_items p r.0) (places_items p (Live.item_live y.0.spot arm.comment arm.lives r.0)) (λ i. let e = tk.0 (ref i) in omega (arith, e))
                (λ z m. elim (among_either z os os m) [ inl w ↦ w | inr w ↦ w ]) (λ z m. m)
                (join_touch st0 st arm.state r.1 ca cr os os new (places_items p r.0) o' rest.rows ti tr)

    fresh_arm_quiet : (m : ℕ) (ms : MScope) (q : Path) (b : t.Body) (st : State) → Quiet st (or_comment (fresh_body app τ m ms q b st)).state
    fresh_arm_quiet m ms q b st =
        let a = or_comment (fresh_body app τ m ms q b st) in
        quiet_leaves st a.state (arm_steps st (fresh_body app τ m ms q b st) (k.fresh_steps st0 st0.touched ⊥ app σ τ (λ g. absurd g) m ms q b st)).leaves

    -- in place of what goes
    flip_touches : (count all : Id → ℕ) (m : ℕ) (ms : MScope) (q : Path) (b : t.Body) (z : ℕ) (st : State) (os ns : List Place)
        → Touches st0 st (or_comment (fresh_body app τ m ms q b (dropped count (reread z st)))).state all os ns
    flip_touches count all m ms q b z st os ns =
        let st1 = reread z st in
        let st2 = dropped count st1 in
        let a = or_comment (fresh_body app τ m ms q b st2) in
        touch_quiet st0 st a.state all os ns (quiet_then st st1 a.state (quiet_reread z st) (quiet_then st1 st2 a.state (quiet_drop count st1) (fresh_arm_quiet m ms q b st2)))

    branch_touches : (u : Bool) (z : Spot) (st : State) (count : Id → ℕ) (os : List Place) (p : Path) (f g : Arm) → Touches st0 st f.state count os (places p (Live.branch_live z true f.comment f.lives)) → Touches st0 st g.state count os (places p (Live.branch_live z false g.comment g.lives))
        → let r = cond {A = Live × State} u (branch_from z true f) (branch_from z false g) in Touches st0 st r.1 count os (places p r.0)
    branch_touches true z st count os p f g hf hg = hf
    branch_touches false z st count os p f g hf hg = hg

    list_touches : (vs : Values Path) (z : Spot) (st : State) (count : Id → ℕ) (os : List Place) (p : Path) (F : Values Path → Items × State) (g : Arm)
        → ((us : Values Path) → Touches st0 st (F us).1 count os (places p (Live.listed z (F us).0))) → Touches st0 st g.state count os (places p (Live.unlisted z g.comment g.lives))
        → let r = where_values vs (λ us. listed_from z (F us)) (unlisted_from z g) in Touches st0 st r.1 count os (places p r.0)
    list_touches no_values z st count os p F g hf hg = hg
    list_touches (value u us) z st count os p F g hf hg = hf (value u us)

    block_touches : (q : Path) (o : Option Block) (F : Block → Lives × State) (P : Block → Type 0) (ls : Lives) (st : State) (os : List Place)
        → ((b : Block) → P b → Touches st0 st (F b).1 (λ i. times_in i ls) os (places_in q 0 (F b).0)) → WhereBlock o P (ls ≡ Live.no_lives)
        → let r = where_block o F (ls, st) in Touches st0 st r.1 (λ i. times_in i ls) os (places_in q 0 r.0)
    block_touches q None F P ls st os h g = touch_quiet st0 st st (λ i. times_in i ls) os (places_in q 0 ls) (quiet_all st)
    block_touches q (Some b) F P ls st os h g = h b g

    else_touches : (us : Values Path) (P Q : Type 0) → (P → Q) → WhereValues us (λ z. ⊥) P → Q
    else_touches no_values P Q f h = f h
    else_touches (value v us) P Q f h = absurd h

    some_touches : (us : Values Path) (P : Values Path → Type 0) (Q : Type 0) → ((us : Values Path) → P us → Q) → WhereValues us P ⊥ → Q
    some_touches no_values P Q f h = absurd h
    some_touches (value v us) P Q f h = f (value v us) h

    -- a body that goes on
    arm_touches : (q p : Path) (z : Spot) (y : Option ℕ) (ls : Lives) (r : Lives × State) (st : State) (os ns : List Place) → ((a : Place) → Among a (places_in q 0 ls) → Among a os) → ((a : Place) → Among a (places_in q 0 r.0) → Among a ns)
        → Touches st0 (reread z.ref st) r.1 (λ i. times_in i ls) (places_in q 0 ls) (places_in q 0 r.0) → Touches st0 st r.1 (λ i. occurs i z.made + (times_in i ls + times_comment i y)) os ns
    arm_touches q p z y ls r st os ns io in' h =
        quiet_before st0 st (reread z.ref st) r.1 (λ i. occurs i z.made + (times_in i ls + times_comment i y)) os ns (quiet_reread z.ref st)
        (wide st0 (reread z.ref st) r.1 (λ i. times_in i ls) (λ i. occurs i z.made + (times_in i ls + times_comment i y)) (places_in q 0 ls) os (places_in q 0 r.0) ns (λ i. omega arith) io in' h)

    abbrev Bad : List ℕ → Type 0
    Bad ns = Fails (k.made st0 st0.touched ⊥) ns

    mutual
      pub touches : (m b : ℕ) (v : Scope) (ms : MScope) (p : Path) (x : t.Stmt) (l : Live) (st : State) → Stands app σ τ st0.look m b v ms p x l → Bad (nodes_of l) → Lt st0 st → Ow st0 st (λ q. times q l)
          → let r = renew app τ m ms p x l st in Touches st0 st r.1 (λ q. times q l) (places p l) (places p r.0)
      touches m b v ms p (t.text_stmt z) (Live.still n) st h f le o = touch_quiet st0 st st _ _ _ (quiet_all st)
      touches m b v ms p (t.comment_stmt z) (Live.still n) st h f le o = touch_quiet st0 st st _ _ _ (quiet_all st)
      touches m b v ms p (t.put e) (Live.put_live n z) st h f le o = touch_quiet st0 st _ _ _ _ (quiet_text n z.ref st)
      touches m b v ms p (t.element tag ps c) (Live.element_live n made xs zs ls) st h f le o =
          let ca : Id → ℕ = λ q. times_attrs q xs in
          let cl : Id → ℕ = λ q. times_in q ls in
          let cm : Id → ℕ = λ q. times_mods q zs in
          let cr : Id → ℕ = λ q. cl q + cm q in
          let o1 = own_of st0 st (λ q. times q (Live.element_live n made xs zs ls)) (λ q. ca q + cr q) (λ r. omega arith) o in
          let st1 = renew_attrs n xs st in
          let ha = k.attrs_turn st0 st0.touched ⊥ app σ τ (λ g. absurd g) p made v ms (attrs_by ps) _ n xs st (λ j g. absurd g) h.1 le (own_of st0 st (λ q. ca q + cr q) ca (λ r. omega arith) o1) in
          let le1 = k.turn_later st0 st0.touched ⊥ p NoStep st st1 ca [] (attr_positions xs) ha le in
          let o2 = own_after st0 st st1 ca cr o1 ha.rows in
          let r = renew_body app τ m ms p 0 c ls st1 in
          let ol = own_of st0 st1 cr cl (λ r. omega arith) o2 in
          let hb = k.body_turn st0 st0.touched ⊥ app σ τ (λ g. absurd g) m b v ms p 0 c ls st1 h.3 (λ g. absurd g) f.1 le1 ol in
          let st2 = renew_mods zs r.1 in
          let le2 = k.turn_later st0 st0.touched ⊥ p (FromStep 0) st1 r.1 cl (nodes_in r.0) (positions_in r.0) hb le1 in
          let hm = k.mods_turn st0 st0.touched ⊥ app σ τ (λ g. absurd g) p made n v ms (mods_by ps) 0 _ zs r.1 (λ g. absurd g) h.2 le2 (own_after st0 st1 r.1 cl cm o2 hb.rows) in
          let old = places p (Live.element_live n made xs zs ls) in
          let new = places p (Live.element_live n made xs zs r.0) in
          let tb = touches_in m b v ms p 0 c ls st1 h.3 f.1 le1 ol in
          let tb' = wide st0 st1 r.1 cl cl (places_in p 0 ls) old (places_in p 0 r.0) new (λ i. omega arith)
          (λ z m. inr (among_right z (attr_places p xs) (places_in p 0 ls ++ mod_places p 0 zs) (among_left z (places_in p 0 ls) (mod_places p 0 zs) m)))
          (λ z m. inr (among_right z (attr_places p xs) (places_in p 0 r.0 ++ mod_places p 0 zs) (among_left z (places_in p 0 r.0) (mod_places p 0 zs) m))) tb in
          wide st0 st st2 cr (λ q. times q (Live.element_live n made xs zs ls)) old old new new (λ i. omega arith) (λ z m. m) (λ z m. m)
          (quiet_before st0 st st1 st2 cr old new (quiet_attrs n xs st) (both_touch st0 st1 r.1 st2 cl cm old new o2 hm.rows tb' (touch_quiet st0 r.1 st2 cm old new (quiet_mods zs r.1))))
      touches m b v ms p (t.if_stmt e unless c d) (Live.branch_live z true y ls) st h f le o =
          let cz : Id → ℕ = λ q. occurs q z.made in
          let ca : Id → ℕ = λ q. times_in q ls + times_comment q y in
          let st1 = reread z.ref st in
          let hz = k.reread_turn st0 st0.touched ⊥ p z st (k.spot_fits st0 st0.touched ⊥ app σ τ (λ g. absurd g) p ms [] z _ _ (λ g. absurd g) h.0) le (own_of st0 st (λ q. cz q + ca q) cz (λ r. omega arith) o) in
          let le1 = k.turn_later st0 st0.touched ⊥ p NoStep st st1 cz [] (z.ref ∷ []) hz le in
          let o1 = own_of st0 st1 ca (λ q. times_in q ls) (λ r. omega arith) (own_after st0 st st1 cz ca o hz.rows) in
          let r = renew_body app τ m ms (main ∷ p) 0 c ls st1 in
          let tb = touches_in m b v ms (main ∷ p) 0 c ls st1 h.3 (fails_left (k.made st0 st0.touched ⊥) (nodes_in ls) (comment_node y) f) le1 o1 in
          branch_touches (takes_first unless (first_value (spot_pairs st1 z.ref))) z st (λ q. cz q + ca q) (places p (Live.branch_live z true y ls)) p (record { comment = y; lives = r.0; state = r.1 }) (or_comment (fresh_body app τ m ms (otherwise ∷ p) d (dropped ca st1)))
          (arm_touches (main ∷ p) p z y ls r st (places p (Live.branch_live z true y ls)) (places p (Live.branch_live z true y r.0)) (λ a w. inr (among_left a (places_in (main ∷ p) 0 ls) (comment_places (main ∷ p) y) w)) (λ a w. inr (among_left a (places_in (main ∷ p) 0 r.0) (comment_places (main ∷ p) y) w)) tb) (flip_touches ca (λ q. cz q + ca q) m ms (otherwise ∷ p) d z.ref st _ _)
      touches m b v ms p (t.if_stmt e unless c d) (Live.branch_live z false y ls) st h f le o =
          let cz : Id → ℕ = λ q. occurs q z.made in
          let ca : Id → ℕ = λ q. times_in q ls + times_comment q y in
          let st1 = reread z.ref st in
          let hz = k.reread_turn st0 st0.touched ⊥ p z st (k.spot_fits st0 st0.touched ⊥ app σ τ (λ g. absurd g) p ms [] z _ _ (λ g. absurd g) h.0) le (own_of st0 st (λ q. cz q + ca q) cz (λ r. omega arith) o) in
          let le1 = k.turn_later st0 st0.touched ⊥ p NoStep st st1 cz [] (z.ref ∷ []) hz le in
          let o1 = own_of st0 st1 ca (λ q. times_in q ls) (λ r. omega arith) (own_after st0 st st1 cz ca o hz.rows) in
          let r = renew_body app τ m ms (otherwise ∷ p) 0 d ls st1 in
          let tb = touches_in m b v ms (otherwise ∷ p) 0 d ls st1 h.3 (fails_left (k.made st0 st0.touched ⊥) (nodes_in ls) (comment_node y) f) le1 o1 in
          branch_touches (takes_first unless (first_value (spot_pairs st1 z.ref))) z st (λ q. cz q + ca q) (places p (Live.branch_live z false y ls)) p (or_comment (fresh_body app τ m ms (main ∷ p) c (dropped ca st1))) (record { comment = y; lives = r.0; state = r.1 })
          (flip_touches ca (λ q. cz q + ca q) m ms (main ∷ p) c z.ref st _ _) (arm_touches (otherwise ∷ p) p z y ls r st (places p (Live.branch_live z false y ls)) (places p (Live.branch_live z false y r.0)) (λ a w. inr (among_left a (places_in (otherwise ∷ p) 0 ls) (comment_places (otherwise ∷ p) y) w)) (λ a w. inr (among_left a (places_in (otherwise ∷ p) 0 r.0) (comment_places (otherwise ∷ p) y) w)) tb)
      touches m b v ms p (t.each e key ns c d) (Live.listed z is) st h f le o =
          let cz : Id → ℕ = λ q. occurs q z.made in
          let ca : Id → ℕ = λ q. times_items q is in
          let hs = handles app τ m c is in
          let st1 = reread z.ref st in
          let hz = k.reread_turn st0 st0.touched ⊥ p z st (k.spot_fits st0 st0.touched ⊥ app σ τ (λ g. absurd g) p ms [] z _ _ (λ g. absurd g) h.0) le (own_of st0 st (λ q. cz q + ca q) cz (λ r. omega arith) o) in
          let le1 = k.turn_later st0 st0.touched ⊥ p NoStep st st1 cz [] (z.ref ∷ []) hz le in
          let o1 = own_of st0 st1 ca (λ q. times_handles q hs) (λ i. let j = handles_count app σ τ m c is (ref i) in omega (arith, j)) (own_after st0 st st1 cz ca o hz.rows) in
          let old = places_items (items ∷ p) is in
          let go = some_touches _ (ListStands app σ τ st0.look m b v ms p key ns c is) (AllGo ns ms (items ∷ p) hs × AllTouch ns ms (items ∷ p) old hs)
          (λ us g. (
            k.handles_turn st0 st0.touched ⊥ app σ τ (λ g. absurd g) m b v ms p ns c (entries key 0 [] us) is g (λ w. absurd w) (λ w. absurd w) f,
            touches_items m b v ms p ns c (entries key 0 [] us) is old (λ a w. w) g f,
          )) h.1 in
          list_touches (values_listed (first_value (spot_pairs st1 z.ref))) z st (λ q. cz q + ca q) (places p (Live.listed z is)) p
          (λ vs. sync (fresh_items app τ m ms ns c) ns ms (items ∷ p) (entries key 0 [] vs) hs st1)
          (or_comment (fresh_body app τ m ms (otherwise ∷ p) d (dropped ca st1)))
          (λ vs. let r = sync (fresh_items app τ m ms ns c) ns ms (items ∷ p) (entries key 0 [] vs) hs st1 in
          quiet_before st0 st st1 r.1 (λ q. cz q + ca q) (places p (Live.listed z is)) (places p (Live.listed z r.0)) (quiet_reread z.ref st)
          (wide st0 st1 r.1 (λ q. times_handles q hs) (λ q. cz q + ca q) old (places p (Live.listed z is)) (places_items (items ∷ p) r.0) (places p (Live.listed z r.0)) (λ i. let j = handles_count app σ τ m c is (ref i) in omega (arith, j)) (λ a w. inr w) (λ a w. inr w)
          (sync_touches ns ms (items ∷ p) old (fresh_items app τ m ms ns c) (k.fresh_items_steps st0 st0.touched ⊥ app σ τ (λ g. absurd g) m ms ns c) (entries key 0 [] vs) hs st1 (distinct key 0 [] vs) le1 o1 go.0 go.1)))
          (flip_touches ca (λ q. cz q + ca q) m ms (otherwise ∷ p) d z.ref st _ _)
      touches m b v ms p (t.each e key ns c d) (Live.unlisted z y ls) st h f le o =
          let cz : Id → ℕ = λ q. occurs q z.made in
          let ca : Id → ℕ = λ q. times_in q ls + times_comment q y in
          let st1 = reread z.ref st in
          let hz = k.reread_turn st0 st0.touched ⊥ p z st (k.spot_fits st0 st0.touched ⊥ app σ τ (λ g. absurd g) p ms [] z _ _ (λ g. absurd g) h.0) le (own_of st0 st (λ q. cz q + ca q) cz (λ r. omega arith) o) in
          let le1 = k.turn_later st0 st0.touched ⊥ p NoStep st st1 cz [] (z.ref ∷ []) hz le in
          let o1 = own_of st0 st1 ca (λ q. times_in q ls) (λ r. omega arith) (own_after st0 st st1 cz ca o hz.rows) in
          let r = renew_body app τ m ms (otherwise ∷ p) 0 d ls st1 in
          let old = places p (Live.unlisted z y ls) in
          let steps = k.fresh_items_steps st0 st0.touched ⊥ app σ τ (λ g. absurd g) m ms ns c in
          list_touches (values_listed (first_value (spot_pairs st1 z.ref))) z st (λ q. cz q + ca q) old p
          (λ vs. grow_entries (fresh_items app τ m ms ns c) (items ∷ p) (entries key 0 [] vs) (dropped ca st1)) (record { comment = y; lives = r.0; state = r.1 })
          (λ vs. let g = grow_entries (fresh_items app τ m ms ns c) (items ∷ p) (entries key 0 [] vs) (dropped ca st1) in
          touch_quiet st0 st g.1 (λ q. cz q + ca q) old (places p (Live.listed z g.0))
          (quiet_then st st1 g.1 (quiet_reread z.ref st) (quiet_then st1 (dropped ca st1) g.1 (quiet_drop ca st1) (quiet_leaves (dropped ca st1) g.1 (entries_steps (fresh_items app τ m ms ns c) steps (items ∷ p) (entries key 0 [] vs) (dropped ca st1)).leaves))))
          (else_touches _ (ElseStands app σ τ st0.look m b v ms p d y ls) (Touches st0 st r.1 (λ q. cz q + ca q) old (places p (Live.unlisted z y r.0)))
          (λ g.
          quiet_before st0 st st1 r.1 (λ q. cz q + ca q) old (places p (Live.unlisted z y r.0)) (quiet_reread z.ref st)
          (wide st0 st1 r.1 (λ q. times_in q ls) (λ q. cz q + ca q) (places_in (otherwise ∷ p) 0 ls) old (places_in (otherwise ∷ p) 0 r.0) (places p (Live.unlisted z y r.0)) (λ i. omega arith)
          (λ a w. inr (among_left a (places_in (otherwise ∷ p) 0 ls) (comment_places (otherwise ∷ p) y) w)) (λ a w. inr (among_left a (places_in (otherwise ∷ p) 0 r.0) (comment_places (otherwise ∷ p) y) w))
          (touches_in m b v ms (otherwise ∷ p) 0 d ls st1 g.1 (fails_left (k.made st0 st0.touched ⊥) (nodes_in ls) (comment_node y) f) le1 o1))) h.1)
      touches m b v ms p (t.let_stmt es ns c) (Live.let_live made rs ls) st h f le o =
          let cl : Id → ℕ = λ q. times_in q ls in
          let ca : Id → ℕ = λ q. occurs q made + cl q in
          let r = renew_body app τ m (with_names (named_as ns rs) ms) (main ∷ p) 0 c ls st in
          wide st0 st r.1 cl ca (places_in (main ∷ p) 0 ls) (places_in (main ∷ p) 0 ls) (places_in (main ∷ p) 0 r.0) (places_in (main ∷ p) 0 r.0) (λ i. omega arith) (λ z m. m) (λ z m. m)
          (touches_in m _ (with_locals (bind ns (eval_all app σ v es)) v) (with_names (named_as ns rs) ms) (main ∷ p) 0 c ls st h.3 f le (own_of st0 st ca cl (λ i. omega arith) o))
      touches (suc m) b v ms p (t.component_stmt c ps given bs) (Live.component_live i made gm args (Some y) ls) st h f le o =
          let cl : Id → ℕ = λ q. times_in q ls in
          let ca : Id → ℕ = λ q. occurs q made + cl q in
          let q = into c ∷ p in
          let inside = mscope i args [] (mpassed y ps bs ms) in
          let r = renew_body app τ m inside q 0 (class_at app q).template ls st in
          let g = touches_in m _ (scope q (eval_given app σ v given) [] (passed ps bs v)) inside q 0 (class_at app q).template ls st h.7 f le (own_of st0 st ca cl (λ i. omega arith) o) in
          let g' = subst (λ j. Touches st0 st r.1 cl (places_in j 0 ls) (places_in j 0 r.0)) (sym h.2) g in
          wide st0 st r.1 cl ca (places_in i.path 0 ls) (instance_place i.path i ∷ places_in i.path 0 ls) (places_in i.path 0 r.0) (instance_place i.path i ∷ places_in i.path 0 r.0) (λ i. omega arith) (λ z m. inr m) (λ z m. inr m) g'
      touches zero b v ms p (t.component_stmt c ps given bs) (Live.deep_live q) st h f le o = touch_quiet st0 st st _ _ _ (quiet_all st)
      touches m b v ms p (t.yield es n) (Live.yield_live y made rs ls) st h f le o =
          let cl : Id → ℕ = λ q. times_in q ls in
          let ca : Id → ℕ = λ q. occurs q made + cl q in
          let q = slot n ∷ p in
          let F : Block → Lives × State = λ c. renew_body app τ m (with_names (named_as c.params rs) (mwriter (passed_in ms))) q 0 c.body ls st in
          let r = where_block (block_named n (mslots (passed_in ms))) F (ls, st) in
          let g = block_touches q (block_named n (mslots (passed_in ms))) F (BlockStands app σ τ st0.look m b v ms p es n made rs ls) ls st (places_in q 0 ls)
          (λ c w. touches_in m _ (with_locals (bind c.params (eval_all app σ v es)) (writer (passed_of v))) (with_names (named_as c.params rs) (mwriter (passed_in ms))) q 0 c.body ls st w.3 f le (own_of st0 st ca cl (λ i. omega arith) o)) h.1 in
          let g' = subst (λ j. Touches st0 st r.1 cl (places_in (slot j ∷ p) 0 ls) (places_in (slot j ∷ p) 0 r.0)) (sym h.0) g in
          wide st0 st r.1 cl ca (places_in (slot y ∷ p) 0 ls) (places_in (slot y ∷ p) 0 ls) (places_in (slot y ∷ p) 0 r.0) (places_in (slot y ∷ p) 0 r.0) (λ i. omega arith) (λ z m. m) (λ z m. m) g'
      touches m b v ms p _ _ st h f le o = absurd h

      pub touches_in : (m b : ℕ) (v : Scope) (ms : MScope) (p : Path) (i : ℕ) (c : t.Body) (ls : Lives) (st : State) → StandIn app σ τ st0.look m b v ms p i c ls → Bad (nodes_in ls) → Lt st0 st → Ow st0 st (λ q. times_in q ls)
          → let r = renew_body app τ m ms p i c ls st in Touches st0 st r.1 (λ q. times_in q ls) (places_in p i ls) (places_in p i r.0)
      touches_in m b v ms p i t.end Live.no_lives st h f le o = touch_quiet st0 st st _ _ _ (quiet_all st)
      touches_in m b v ms p i (t.stmt x c) (Live.live_and l ls) st h f le o =
          let ca : Id → ℕ = λ q. times q l in
          let cb : Id → ℕ = λ q. times_in q ls in
          let r = renew app τ m ms (at i ∷ p) x l st in
          let fl = fails_left (k.made st0 st0.touched ⊥) (nodes_of l) (nodes_in ls) f in
          let fr = fails_right (k.made st0 st0.touched ⊥) (nodes_of l) (nodes_in ls) f in
          let oa = own_of st0 st (λ q. ca q + cb q) ca (λ r. omega arith) o in
          let g = k.renew_turn st0 st0.touched ⊥ app σ τ (λ g. absurd g) m b v ms (at i ∷ p) x l st h.0 (λ w. absurd w) fl le oa in
          let le1 = k.turn_later st0 st0.touched ⊥ (at i ∷ p) AnyStep st r.1 ca (nodes_of r.0) (positions_of r.0) g le in
          let o1 = own_after st0 st r.1 ca cb o g.rows in
          let z = renew_body app τ m ms p (suc i) c ls r.1 in
          let hb = k.body_turn st0 st0.touched ⊥ app σ τ (λ g. absurd g) m b v ms p (suc i) c ls r.1 h.1 (λ w. absurd w) fr le1 o1 in
          join_touch st0 st r.1 z.1 ca cb (places (at i ∷ p) l) (places_in p (suc i) ls) (places (at i ∷ p) r.0) (places_in p (suc i) z.0) o hb.rows
          (touches m b v ms (at i ∷ p) x l st h.0 fl le oa) (touches_in m b v ms p (suc i) c ls r.1 h.1 fr le1 o1)
      touches_in m b v ms p i _ _ st h f le o = absurd h

      touches_items : (m b : ℕ) (v : Scope) (ms : MScope) (p : Path) (ns : List Text) (c : t.Body) (xs : List Entry) (is : Items) (os : List Place) → ((a : Place) → Among a (places_items (items ∷ p) is) → Among a os)
          → ItemsStand app σ τ st0.look m b v ms (items ∷ p) ns c xs is → Bad (nodes_items is) → AllTouch ns ms (items ∷ p) os (handles app τ m c is)
      touches_items m b v ms p ns c [] Live.no_items os io h f = tt
      touches_items m b v ms p ns c (x ∷ xs) (Live.item_live z y ls is) os io h f =
          let fa = fails_left (k.made st0 st0.touched ⊥) (nodes_in ls ++ comment_node y) (nodes_items is) f in
          let q0 = item x.key x.occurrence ∷ (items ∷ p) in
          let q1 = item z.key z.occurrence ∷ (items ∷ p) in
          let w = with_locals (bind ns (entry_pairs q0 x)) v in
          let inside = with_names (item_names ns z) ms in
          let low = max b (top (item_made z)) in
          let arm = item_place q1 z ∷ (places_in q1 0 ls ++ comment_places q1 y) in
          let mine : (a : Place) → Among a arm → Among a os = (λ a u. io a (among_left a arm (places_items (items ∷ p) is) u)) in (
            (
              mine,
              (λ q st e le o.
                  let e' : q ≡ q0 = e ∙ ap₂ (λ a n. item a n ∷ (items ∷ p)) h.0.0 h.0.1 in
                  let r = renew_body app τ m inside q 0 c ls st in
                  let g = touches_in m low w inside q 0 c ls st (subst (λ r. StandIn app σ τ st0.look m low w inside r 0 c ls) (sym e') h.4) (fails_left (k.made st0 st0.touched ⊥) (nodes_in ls) (comment_node y) fa) le o in
                  wide st0 st r.1 (λ i. times_in i ls) (λ i. times_in i ls) (places_in q 0 ls) os (places_in q 0 r.0) (places_in q 0 r.0) (λ i. omega arith)
                  (λ a u. mine a (inr (among_left a (places_in q1 0 ls) (comment_places q1 y) (subst (λ j. Among a (places_in j 0 ls)) e u)))) (λ a u. u) g),
            ),
            touches_items m b v ms p ns c xs is os (λ a u. io a (among_right a arm (places_items (items ∷ p) is) u)) h.5 (fails_right (k.made st0 st0.touched ⊥) (nodes_in ls ++ comment_node y) (nodes_items is) f),
          )
      touches_items m b v ms p ns c _ _ os io h f = absurd h

    pub root_touches : (m : ℕ) (l : Live) (st : State) → RootStands app σ τ st0.look m l → Bad (nodes_of l) → Lt st0 st → Ow st0 st (λ q. times q l)
        → let r = renew_root m app τ l st in Touches st0 st r.1 (λ q. times q l) (places [] l) (places [] r.0)
    root_touches (suc m) (Live.component_live i made gm args None ls) st h f le o =
        let cl : Id → ℕ = λ q. times_in q ls in
        let ca : Id → ℕ = λ q. occurs q made + cl q in
        let inside = mscope i args [] mnothing in
        let r = renew_body app τ m inside [] 0 (class_at app []).template ls st in
        let g = touches_in m _ no_place inside [] 0 (class_at app []).template ls st h.5 f le (own_of st0 st ca cl (λ i. omega arith) o) in
        let g' = subst (λ j. Touches st0 st r.1 cl (places_in j 0 ls) (places_in j 0 r.0)) (sym h.1) g in
        wide st0 st r.1 cl ca (places_in i.path 0 ls) (instance_place i.path i ∷ places_in i.path 0 ls) (places_in i.path 0 r.0) (instance_place i.path i ∷ places_in i.path 0 r.0) (λ i. omega arith) (λ z m. inr m) (λ z m. inr m) g'
    root_touches zero (Live.deep_live q) st h f le o = touch_quiet st0 st st _ _ _ (quiet_all st)
    root_touches _ _ st h f le o = absurd h
