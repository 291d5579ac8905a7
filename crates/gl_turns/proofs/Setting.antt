-- A set by id is the store with the set laid on.
use Rattle.std.proofs.Common.{◌≡◌, ◌<◌, ◌≤◌, ◌+◌, ℕ, zero, suc, max, List, [], ◌∷◌, map, Bool, true, false, true≢false, Option, Some, None, refl, sym, ap, ap₂, ◌∙◌, subst, arith, inl, inr}
use Rattle.std.specs.Prelude.{filter_map, unwrap_or, ◌&&◌, ◌||◌, if◌then◌else◌}
use Rattle.std.specs.Str.{bytes_eq}
use Rattle.gl_base.specs.Texts.{Text}
use Rattle.gl_base.specs.Names.{named}
use Rattle.gl_value.specs.Value.{undefined, plain}
use Rattle.gl_meaning.specs.App.{App}
use Rattle.gl_meaning.specs.Path.{Path, V, path_eq, at_path}
use Rattle.gl_meaning.specs.Scope.{Source, cell, item_value, item_index}
use Rattle.gl_meaning.specs.Eval.{Held, Store, class_at, cell_value, held_at, Member, field_member, getter_member, action_member, member_of}
use Rattle.gl_meaning.specs.Known.{Among}
use Rattle.gl_meaning.specs.Laws.{NoRepeat}
use Rattle.gl_meaning.specs.Changes.{Sets, is_set}
use Rattle.gl_meaning.specs.Actions.{lay}
use Rattle.gl_meaning.proofs.Equal.{path_means, path_itself, text_means, text_itself, both_left, both_right, both_true}
use Rattle.gl_meaning.proofs.Once.{instances_once}
use Rattle.gl_meaning.proofs.Pieces.{some_same, none_some}
use Rattle.gl_plain.specs.Ids.{Id, id_eq, ref, instance_id, hit, occurs}
use Rattle.gl_plain.specs.State.{any_of, source_form, Inst, cell_ref, mscope, mnothing, row, Thing, State, source_eq, touch}
use Rattle.gl_plain.specs.Live.{Live, Lives, times, times_in}
use Rattle.gl_plain.specs.Laid.{rest_in, CellsHoldIn}
use Rattle.gl_plain.specs.Stands.{top, CellsStand, Owned}
use Rattle.gl_plain.specs.Machine.{no_place, RootStands, StandsFor}
use Rattle.gl_plain.specs.Turns.{begin}
use Rattle.gl_plain.proofs.Laid.{laid_in}
use Rattle.gl_plain.proofs.Moves.{IdCase, id_case, hit_self, id_itself}
use Rattle.gl_plain.proofs.Stay.{left_above, right_above}
use Rattle.gl_turns.specs.Places.{instance_in, places, places_in}
use Rattle.gl_turns.specs.Evaluated.{is_named, TouchedBy}
use Rattle.gl_turns.specs.Sets.{touch_none, set_at, set_one, set_all}
use Rattle.gl_turns.specs.Laws.{SetsAreLaid}
use Rattle.gl_turns.proofs.Found.{at_found, at_gives}
use Rattle.gl_turns.proofs.Numbered.{tree_agrees}
use Rattle.gl_turns.proofs.Touched.{source_row}
use Rattle.gl_turns.proofs.Held.{Cells, component_cells, cells_in}

out_source : Source → Option Thing → Source
out_source x (Some (row z)) = by z.form where
  by : Rattle.gl_plain.specs.State.Form → Source
  by (source_form y u) = y
  by _ = x
out_source x _ = x

same_source : (x y : Source) (u v : V) → source_row x u ≡ source_row y v → x ≡ y
unfolding out_source
same_source x y u v e = ap (out_source x) e

cell_path : Source → Path
cell_path (cell i x) = i
cell_path (item_value p) = p
cell_path (item_index p) = p

cell_name : Source → Text
cell_name (cell i x) = x
cell_name _ = []

same_path : (p q : Path) (x y : Text) → cell p x ≡ cell q y → p ≡ q
unfolding cell_path
same_path p q x y e = ap cell_path e

same_name : (p q : Path) (x y : Text) → cell p x ≡ cell q y → x ≡ y
unfolding cell_name
same_name p q x y e = ap cell_name e

-- Cells over the store with a set

set_value : (app : App) (h : Held) (τ : Store) (p : Path) (x : Text) → p ≡ h.instance → x ≡ h.field → cell_value app (h ∷ τ) p x ≡ h.value
set_value app h τ p x e f =
    ap (λ b. unwrap_or (if b then Some h.value else held_at p x τ) (plain (unwrap_or (named x (class_at app p).fields) undefined)))
    (both_true _ _ (subst (λ q. path_eq p q ≡ true) e (path_itself p)) (subst (λ n. bytes_eq x n ≡ true) f (text_itself x)))

other_value : (app : App) (h : Held) (τ : Store) (p : Path) (x : Text) → (path_eq p h.instance && bytes_eq x h.field) ≡ false → cell_value app (h ∷ τ) p x ≡ cell_value app τ p x
other_value app h τ p x e = ap (λ b. unwrap_or (if b then Some h.value else held_at p x τ) (plain (unwrap_or (named x (class_at app p).fields) undefined))) e

-- One set

module _ (app : App) (σ τ : Store) (st : State) (h : Held) (i : Inst) (made gm : List Id) (ls : Lives) where
  abbrev instances : List (Path × Inst)
  instances = (i.path, i) ∷ filter_map instance_in (places_in i.path 0 ls)

  abbrev counted : Id → ℕ
  counted q = occurs q made + times_in q ls

  abbrev left : Id → ℕ
  left q = (hit q (instance_id i.id) + occurs q []) + rest_in q ls

  abbrev Hold : Store → (Id → Option Thing) → Type 0
  Hold ρ k = CellsStand app ρ ρ k i made × CellsHoldIn app ρ k ls

  module _ (cs : Cells app σ τ st.look counted left instances Hold) (once : NoRepeat (map (λ z. z.0) instances)) (own : (q : Id) → counted q ≤ 1) where
    abbrev Laid : State → Type 0
    Laid st' = ((q : Id) → 0 < left q → st'.look q ≡ st.look q) × Hold (h ∷ τ) st'.look

    -- a cell that the set doesn't name
    kept_row : (z : Path × Inst) → Among z instances → (x : Text) → member_of (class_at app z.1.path) x ≡ field_member
        → ((z.1.path ≡ h.instance) → (x ≡ h.field) → ⊥) → st.look (ref (cell_ref z.1 x)) ≡ source_row (cell z.1.path x) (cell_value app (h ∷ τ) z.1.path x)
    kept_row z m x f d = (cs.rows z m).1 x f ∙ ap (source_row (cell z.1.path x)) (sym (by (path_eq z.1.path h.instance && bytes_eq x h.field) refl)) where
      by : (b : Bool) → (path_eq z.1.path h.instance && bytes_eq x h.field) ≡ b → cell_value app (h ∷ τ) z.1.path x ≡ cell_value app τ z.1.path x
      by false e = other_value app h τ z.1.path x e
      by true e = absurd (d (path_means z.1.path h.instance (both_left _ _ e)) (text_means x h.field (both_right (path_eq z.1.path h.instance) _ e)))

    -- an instance is what its path looks up
    looked_up : (z : Path × Inst) → Among z instances → z.1.path ≡ h.instance → at_path h.instance instances ≡ Some z.1
    looked_up z m e = at_found h.instance z.1 instances once (subst (λ (y : Path × Inst). Among y instances) (ap (λ q. (q, z.1)) ((cs.rows z m).0 ∙ e)) m)

    none_laid : ((z : Path × Inst) → Among z instances → (x : Text) → member_of (class_at app z.1.path) x ≡ field_member → z.1.path ≡ h.instance → x ≡ h.field → ⊥) → Laid (touch_none (cell h.instance h.field) st)
    none_laid d = ((λ q w. refl), cs.holds (h ∷ τ) st.look (λ z m x f. kept_row z m x f (d z m x f)))

    cell_laid : (j : Inst) → at_path h.instance instances ≡ Some j → member_of (class_at app h.instance) h.field ≡ field_member → Laid (touch (cell_ref j h.field) (cell h.instance h.field) h.value st)
    cell_laid j e f = (same, cs.holds (h ∷ τ) st'.look now) where
      st' : State
      st' = touch (cell_ref j h.field) (cell h.instance h.field) h.value st

      mine : Among (h.instance, j) instances
      mine = at_gives h.instance instances j e

      here : h.instance ≡ j.path
      here = (cs.rows (h.instance, j) (at_gives h.instance instances j e)).0

      field : member_of (class_at app j.path) h.field ≡ field_member
      field = subst (λ q. member_of (class_at app q) h.field ≡ field_member) ((cs.rows (h.instance, j) (at_gives h.instance instances j e)).0) f

      same : (q : Id) → 0 < left q → st'.look q ≡ st.look q
      same q w = by (id_case q (ref (cell_ref j h.field))) where
        by : IdCase q (ref (cell_ref j h.field)) → (touch (cell_ref j h.field) (cell h.instance h.field) h.value st).look q ≡ st.look q
        by (inr g) = ap (λ b. if b then source_row (cell h.instance h.field) h.value else st.look q) g
        by (inl g) =
            let a = (cs.alone (h.instance, j) (at_gives h.instance instances j e) h.field (subst (λ q. member_of (class_at app q) h.field ≡ field_member) ((cs.rows (h.instance, j) (at_gives h.instance instances j e)).0) f) (own (ref (cell_ref j h.field)))).0 in
            let b : 0 < left (ref (cell_ref j h.field)) = subst (λ y. 0 < left y) g.1 w in absurd (omega (arith, a, b))

      now : (z : Path × Inst) → Among z instances → (x : Text) → member_of (class_at app z.1.path) x ≡ field_member → st'.look (ref (cell_ref z.1 x)) ≡ source_row (cell z.1.path x) (cell_value app (h ∷ τ) z.1.path x)
      now z m x g = by (id_case (ref (cell_ref z.1 x)) (ref (cell_ref j h.field))) where
        by : IdCase (ref (cell_ref z.1 x)) (ref (cell_ref j h.field)) → (touch (cell_ref j h.field) (cell h.instance h.field) h.value st).look (ref (cell_ref z.1 x)) ≡ source_row (cell z.1.path x) (cell_value app (h ∷ τ) z.1.path x)
        by (inl k) =
            let fj : member_of (class_at app j.path) h.field ≡ field_member = subst (λ q. member_of (class_at app q) h.field ≡ field_member) ((cs.rows (h.instance, j) (at_gives h.instance instances j e)).0) f in
            let rz = (cs.rows z m).1 x g in
            let rj = (cs.rows (h.instance, j) (at_gives h.instance instances j e)).1 h.field fj in
            let at_j : h.instance ≡ j.path = (cs.rows (h.instance, j) (at_gives h.instance instances j e)).0 in
            let s : cell z.1.path x ≡ cell j.path h.field = same_source (cell z.1.path x) (cell j.path h.field) _ _ (sym rz ∙ (ap st.look k.1 ∙ rj)) in
            let ep : z.1.path ≡ h.instance = same_path z.1.path j.path x h.field s ∙ sym at_j in
            let ex : x ≡ h.field = same_name z.1.path j.path x h.field s in
            ap (λ b. if b then source_row (cell h.instance h.field) h.value else st.look (ref (cell_ref z.1 x))) k.0
            ∙ (ap₂ (λ q n. source_row (cell q n) h.value) (sym ep) (sym ex) ∙ ap (source_row (cell z.1.path x)) (sym (set_value app h τ z.1.path x ep ex)))
        by (inr k) =
            ap (λ b. if b then source_row (cell h.instance h.field) h.value else st.look (ref (cell_ref z.1 x))) k
            ∙ kept_row z m x g
            (λ ep ex.
            let q : z.1 ≡ j = some_same z.1 j (sym (looked_up z m ep) ∙ e) in
            true≢false (sym (subst (λ r. id_eq (ref (cell_ref z.1 x)) r ≡ true) (ap₂ (λ y n. ref (cell_ref y n)) q ex) (id_itself (ref (cell_ref z.1 x)))) ∙ k))

    set_laid : Laid (set_at (at_path h.instance instances) (member_of (class_at app h.instance) h.field) h st)
    set_laid = by (at_path h.instance instances) refl (member_of (class_at app h.instance) h.field) refl where
      not_there : at_path h.instance instances ≡ None → (z : Path × Inst) → Among z instances → (x : Text) → member_of (class_at app z.1.path) x ≡ field_member → z.1.path ≡ h.instance → x ≡ h.field → ⊥
      not_there e z m x g ep ex = none_some z.1 (sym e ∙ looked_up z m ep)

      no_field : (k : Member) → member_of (class_at app h.instance) h.field ≡ k → (k ≡ field_member → ⊥) → (z : Path × Inst) → Among z instances → (x : Text) → member_of (class_at app z.1.path) x ≡ field_member → z.1.path ≡ h.instance → x ≡ h.field → ⊥
      no_field k e d z m x g ep ex = d (sym e ∙ (ap₂ (λ q n. member_of (class_at app q) n) (sym ep) (sym ex) ∙ g))

      by : (o : Option Inst) → at_path h.instance instances ≡ o → (k : Member) → member_of (class_at app h.instance) h.field ≡ k → Laid (set_at o k h st)
      by None e k f = none_laid (not_there e)
      by (Some j) e field_member f = cell_laid j e f
      by (Some j) e (getter_member g) f = none_laid (no_field (getter_member g) f (λ q. cc))
      by (Some j) e action_member f = none_laid (no_field action_member f (λ q. cc))

-- The whole tree

pub set_next : (o : Option Inst) (k : Member) (h : Held) (st : State) → (set_at o k h st).next ≡ st.next
set_next None k h st = refl
set_next (Some i) field_member h st = refl
set_next (Some i) (getter_member g) h st = refl
set_next (Some i) action_member h st = refl

set_touched : (o : Option Inst) (k : Member) (h : Held) (st : State) → (set_at o k h st).touched ≡ (λ y. source_eq y (cell h.instance h.field) || st.touched y)
set_touched None k h st = refl
set_touched (Some i) field_member h st = refl
set_touched (Some i) (getter_member g) h st = refl
set_touched (Some i) action_member h st = refl

root_set : (app : App) (σ τ : Store) (m : ℕ) (st : State) (l : Live) (h : Held) → Owned st (λ q. times q l) → NoRepeat (map (λ z. z.0) (filter_map instance_in (places [] l))) → RootStands app σ τ st.look m l
    → RootStands app σ (h ∷ τ) (set_one app l h st).look m l
root_set app σ τ (suc m) st (Live.component_live i made gm args None ls) h o once s =
    let c = (class_at app []).template in
    let inside = cells_in app σ τ st.look m (max 0 (top made)) no_place (mscope i args [] mnothing) [] 0 c ls s.5 in
    let inside' = subst (λ q. Cells app σ τ st.look (λ r. times_in r ls) (λ r. rest_in r ls) (filter_map instance_in (places_in q 0 ls)) (λ ρ k. CellsHoldIn app ρ k ls)) (sym s.1) inside in
    let cs = component_cells app σ τ st.look i made [] (λ q. times_in q ls) (λ q. rest_in q ls) (filter_map instance_in (places_in i.path 0 ls)) (λ ρ k. CellsHoldIn app ρ k ls) s.0.0 (λ q w. absurd (omega (arith, w))) (λ x f. refl) s.3 inside' in
    let g = set_laid app σ τ st h i made gm ls cs once o.once in
    let st' = set_one app (Live.component_live i made gm args None ls) h st in (
      (s.0.0, g.0 (instance_id i.id) (left_above _ _ (left_above _ _ (hit_self (instance_id i.id)))) ∙ s.0.1),
      s.1,
      s.2,
      g.1.0,
      s.4,
      laid_in app st.look st'.look σ τ (h ∷ τ) m (max 0 (top made)) no_place (mscope i args [] mnothing) [] 0 c ls (λ q w. g.0 q (right_above _ _ w)) g.1.1 s.5,
    )
root_set app σ τ zero st (Live.deep_live q) h o once s = s
root_set app σ τ _ st _ h o once s = absurd s

set_stands : (app : App) (σ τ : Store) (st : State) (l : Live) (h : Held) → StandsFor app σ τ st l → StandsFor app σ (h ∷ τ) (set_one app l h st) l
set_stands app σ τ st l h s =
    let is = filter_map instance_in (places [] l) in
    let next = set_next (at_path h.instance is) (member_of (class_at app h.instance) h.field) h st in
    record {
      owned = record { once = s.owned.once; old = λ q le. s.owned.old q (subst (λ f. f q.kind ≤ q.num) next le) };
      stands = root_set app σ τ app.limit st l h s.owned (subst NoRepeat (sym (tree_agrees app σ τ st l s).0.instances) (instances_once app σ)) s.stands;
    }

sets_stand : (app : App) (σ τ : Store) (sets : Sets) (st : State) (l : Live) → StandsFor app σ τ st l → StandsFor app σ (lay sets τ) (set_all app l sets st) l
sets_stand app σ τ [] st l s = s
sets_stand app σ τ (h ∷ hs) st l s = sets_stand app σ (h ∷ τ) hs (set_one app l h st) l (set_stands app σ τ st l h s)

sets_touch : (app : App) (l : Live) (sets : Sets) (st : State) (x : Source) → (set_all app l sets st).touched x ≡ (is_named sets x || st.touched x)
sets_touch app l [] st (cell i x) = refl
sets_touch app l [] st (item_value p) = refl
sets_touch app l [] st (item_index p) = refl
sets_touch app l (h ∷ hs) st x =
    sets_touch app l hs (set_one app l h st) x
    ∙ (ap (λ b. is_named hs x || b) (ap (λ (f : Source → Bool). f x) (set_touched (at_path h.instance (filter_map instance_in (places [] l))) (member_of (class_at app h.instance) h.field) h st)) ∙ by x) where
      moved : (a b c : Bool) → (a || (b || c)) ≡ ((b || a) || c)
      moved true true c = refl
      moved true false c = refl
      moved false true c = refl
      moved false false c = refl

      by : (x : Source) → (is_named hs x || (source_eq x (cell h.instance h.field) || st.touched x)) ≡ (is_named (h ∷ hs) x || st.touched x)
      by (cell i n) = moved (is_set hs i n) (path_eq i h.instance && bytes_eq n h.field) (st.touched (cell i n))
      by (item_value p) = refl
      by (item_index p) = refl

or_false : (b : Bool) → (b || false) ≡ b
or_false true = refl
or_false false = refl

unset_value : (app : App) (sets : Sets) (τ : Store) (i : Path) (x : Text) → is_set sets i x ≡ false → cell_value app τ i x ≡ cell_value app (lay sets τ) i x
unset_value app [] τ i x e = refl
unset_value app (h ∷ hs) τ i x e = by (path_eq i h.instance && bytes_eq x h.field) refl e (unset_value app hs (h ∷ τ) i x) where
  by : (b : Bool) → (path_eq i h.instance && bytes_eq x h.field) ≡ b → (b || is_set hs i x) ≡ false → (is_set hs i x ≡ false → cell_value app (h ∷ τ) i x ≡ cell_value app (lay hs (h ∷ τ)) i x) → cell_value app τ i x ≡ cell_value app (lay hs (h ∷ τ)) i x
  by true f g rec = absurd (true≢false g)
  by false f g rec = sym (other_value app h τ i x f) ∙ rec g

pub sets_are_laid : SetsAreLaid
sets_are_laid app σ sets st l h =
    let touched : TouchedBy sets (set_all app l sets (begin st)) = λ x. sets_touch app l sets (begin st) x ∙ or_false (is_named sets x) in (
      sets_stand app σ σ sets (begin st) l (record { owned = record { once = h.owned.once; old = h.owned.old }; stands = h.stands }),
      λ i x e. unset_value app sets σ i x (sym (touched (cell i x)) ∙ e),
      touched,
    )
