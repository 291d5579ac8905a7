-- What an update by numbers leaves of a tree's names, and that the new tree sits right.
use Rattle.std.proofs.Common.{◌≡◌, ◌+◌, ℕ, zero, suc, List, [], ◌∷◌, ◌++◌, Bool, true, false, Option, Some, None, cond, refl, sym, ap, ap₂, ◌∙◌, subst, arith, inl, inr}
use Rattle.std.specs.Prelude.{if◌then◌else◌}
use Rattle.gl_base.specs.Texts.{Text}
use Rattle.gl_value.specs.Value.{Values, no_values, value, undefined, count_value, same, text_of}
use Rattle.gl_ast.specs.Template as t
use Rattle.gl_meaning.specs.App.{App}
use Rattle.gl_meaning.specs.Path.{PathStep, at, main, otherwise, items, item, into, slot, Path, no_owners, V, path_eq}
use Rattle.gl_meaning.specs.Scope.{Source, Scope}
use Rattle.gl_meaning.specs.Eval.{Store, class_at, takes_first, values_in}
use Rattle.gl_meaning.specs.Laws.{NoRepeat, Within}
use Rattle.gl_meaning.specs.Order.{names_of}
use Rattle.gl_meaning.specs.Render.{Entry, entries, values_listed, Block, block_named}
use Rattle.gl_meaning.proofs.Once.{Distinct, distinct}
use Rattle.gl_meaning.proofs.Under.{within_itself, within_outer, steps_apart, not_below}
use Rattle.gl_plain.specs.Ids.{Kind, Id, modifier_id, node, ref}
use Rattle.gl_plain.specs.State.{MScope, mscope, MPassed, mnothing, mpassed, passed_in, mslots, mwriter, Inst, Names, named_as, with_names, Thing, State, content, held_value, modifier_row, note_updated, put_thing, text_content, touch}
use Rattle.gl_plain.specs.Naming.{by_number, dropped_as}
use Rattle.gl_plain.specs.Binding.{Spot, first_value}
use Rattle.gl_plain.specs.Live
use Rattle.gl_plain.specs.Live.{AttrSpot, ModSpot, ItemSpot, item_names, Live, Lives, Items, times_in, times_items, times_comment}
use Rattle.gl_plain.specs.Grow.{Arm, or_comment, ItemGrown, item_spot_as, grow_entries, branch_from, unlisted_from, listed_from, grow_components_as, grow_yields_as}
use Rattle.gl_plain.specs.Renew.{spot_pairs, is_stale, evaluate, reread, renew_text, renew_attrs, renew_mods, give, Handle, times_handles, is_of, with_front, taken, renew_item_as, sync_one_as, sync_as, where_values, where_block, fresh_body_as, fresh_items_as, renew_as, renew_body_as, handles_as, renew_root_as, changed_attr, refreshed}
use Rattle.gl_plain.specs.Stands.{WhereValues, WhereBlock, Stands, StandIn, ListStands, ElseStands, BlockStands, ItemsStand}
use Rattle.gl_plain.specs.Machine.{RootStands}
use Rattle.gl_plain.proofs.Apart.{Into, FromStep, StepsOf, into_more, from_apart, later_apart}
use Rattle.gl_naming.specs.Numbered.{number}
use Rattle.gl_naming.proofs.Handles as handles
use Rattle.gl_naming.proofs.Handles.{step_same, HandleAt, HandlesSit, handles_sit, all_tied, AllHold, taken_parted}
use Rattle.gl_naming.proofs.Choices.{where_list, where_else}
use Rattle.gl_naming.proofs.Swaps.{values}
use Rattle.gl_naming.proofs.Ties.{ties, ties_items, ties_in}
use Rattle.gl_naming.proofs.Sits.{step_of, StepIn, Sits, SitsItems, SitsIn, Placed, Differ, placed_more, placed_join, differ_join, placed_item, placed_of, placed_items, placed_in, differ_items, differ_in}
use Rattle.gl_naming.proofs.Sitting.{arm_sits, entries_sit, steps_of, body_sits, yields_sit, components_sit}
use Rattle.gl_naming.proofs.Rising.{Goes, GoesIn, ItemsGo, InstancesGo, goes_join, arm_goes, entries_go, body_goes, yields_go, components_go}
use Rattle.gl_naming.proofs.News.{Turned, turned_same, turned_gone, turned_new, turned_wider, turned_join, turned_both}
use Rattle.gl_meaning.specs.Parts.{attribute_value}

-- Steps of the state give no numbers.

pub reread_next : (r : ℕ) (st : State) → (reread r st).next ≡ st.next
reread_next r st = by (is_stale st r) where
  by : (b : Bool) → (if b then evaluate r st else st).next ≡ st.next
  by true = refl
  by false = refl

text_next : (n r : ℕ) (st : State) → (renew_text n r st).next ≡ st.next
text_next n r st = by (is_stale st r) where
  by : (b : Bool) → let c : State = (if b then put_thing (node n) (content (text_content (text_of (first_value (spot_pairs st r))))) (evaluate r st) else st) in c.next ≡ st.next
  by true = refl
  by false = refl

attrs_next : (n : ℕ) (xs : List AttrSpot) (st : State) → (renew_attrs n xs st).next ≡ st.next
attrs_next n [] st = refl
attrs_next n (a ∷ xs) st = attrs_next n xs _ ∙ by (is_stale st a.spot.ref) where
  by : (b : Bool) → let c : State = (if b then put_thing (node n) (content (changed_attr a.name (attribute_value (spot_pairs st a.spot.ref)) (st.look (node n)))) (evaluate a.spot.ref st) else st) in c.next ≡ st.next
  by true = refl
  by false = refl

mods_next : (zs : List ModSpot) (st : State) → (renew_mods zs st).next ≡ st.next
mods_next [] st = refl
mods_next (z ∷ zs) st = mods_next zs _ ∙ by (is_stale st z.spot.ref) where
  by : (b : Bool) → let c : State = (if b then note_updated z.id (put_thing (modifier_id z.id) (modifier_row (refreshed z (values_in (spot_pairs st z.spot.ref)) (st.look (modifier_id z.id)))) (evaluate z.spot.ref st)) else st) in c.next ≡ st.next
  by true = refl
  by false = refl

give_next : (r : ℕ) (x : Source) (v : V) (st : State) → (give r x v st).next ≡ st.next
give_next r x v st = by (same path_eq (held_value (st.look (ref r))) v) where
  by : (b : Bool) → (if b then st else touch r x v st).next ≡ st.next
  by true = refl
  by false = refl

-- Places

pub in_step : (p : Path) (S : PathStep → Type 0) (j : Path) → Into p S j → Within p j
in_step p S j w = within_outer w.0 p j w.2

pub under : (l : PathStep) (p : Path) (S : PathStep → Type 0) (j : Path) → Into (l ∷ p) S j → Within p j
under l p S j w = within_outer l p j (in_step (l ∷ p) S j w)

at_it : (p j : Path) → j ≡ p → Within p j
at_it p j e = subst (λ z. Within p z) (sym e) (within_itself p)

pub off_body : (p j : Path) → j ≡ p → Into p (FromStep 0) j → ⊥
off_body p j e w = not_below w.0 p (subst (λ z. Within (w.0 ∷ p) z) e w.2)

pub off_rest : (p : Path) (i : ℕ) (j : Path) → Within (at i ∷ p) j → Into p (FromStep (suc i)) j → ⊥
off_rest p i j w v = from_apart i v.0 (steps_apart v.0 (at i) p j v.2 w) v.1

pub first_step : (p : Path) (i : ℕ) (j : Path) → Within (at i ∷ p) j → Into p (FromStep i) j
first_step p i j w = (at i, (i, omega arith, refl), w)

pub further : (i : ℕ) (l : PathStep) → FromStep (suc i) l → FromStep i l
further i l w = (w.0, (let b = w.1 in omega (arith, b)), w.2)

pub other_step : (l o : PathStep) → (l ≡ o → ⊥) → (p j : Path) → Within (l ∷ p) j → Within (o ∷ p) j → ⊥
other_step l o ne p j w v = ne (steps_apart l o p j w v)

pub main_otherwise : main ≡ otherwise → ⊥
main_otherwise e = cc

pub otherwise_main : otherwise ≡ main → ⊥
otherwise_main e = cc

pub items_otherwise : items ≡ otherwise → ⊥
items_otherwise e = cc

pub otherwise_items : otherwise ≡ items → ⊥
otherwise_items e = cc

module _ (app : App) (σ : Store) (kind : Kind) {A : Type 0} (place : A → Path) (of_instance : Inst → List (ℕ × A)) (of_item : Path → ItemSpot → List (ℕ × A))
    (at_instance : (i : Inst) → Placed app place (λ j. j ≡ i.path) (of_instance i)) (at_item : (q : Path) (z : ItemSpot) → Placed app place (λ j. j ≡ q) (of_item q z))
    (instance_differs : (i : Inst) → names_of i.cells ≡ names_of (class_at app i.path).fields → Differ app place (of_instance i)) (item_differs : (q : Path) (z : ItemSpot) → Differ app place (of_item q z))
    (item_rises : ItemsGo kind of_instance of_item) (instance_rises : InstancesGo kind of_instance of_item item_rises app σ) where
  abbrev all_of : Path → Live → List (ℕ × A)
  all_of p l = ties of_instance of_item p l

  abbrev all_items : Path → Items → List (ℕ × A)
  all_items p is = ties_items of_instance of_item p is

  abbrev all_in : Path → ℕ → Lives → List (ℕ × A)
  all_in p i ls = ties_in of_instance of_item p i ls

  abbrev Turns : (Path → Type 0) → List (ℕ × A) → List (ℕ × A) → State → State → Type 0
  Turns P olds now st st' = Turned app place P olds now (st.next kind) (st'.next kind)

  placed : (p : Path) (i : ℕ) (ls : Lives) → SitsIn app p i ls → Placed app place (λ j. Into p (FromStep i) j) (all_in p i ls)
  placed = placed_in app place of_instance of_item at_instance at_item instance_differs item_differs

  differs : (p : Path) (i : ℕ) (ls : Lives) → SitsIn app p i ls → Differ app place (all_in p i ls)
  differs = differ_in app place of_instance of_item at_instance at_item instance_differs item_differs

  placed_of_items : (p : Path) (is : Items) → SitsItems app p is → Placed app place (λ j. Into p (StepIn is) j) (all_items p is)
  placed_of_items = placed_items app place of_instance of_item at_instance at_item instance_differs item_differs

  placed_of_item : (q : Path) (z : ItemSpot) (ls : Lives) → SitsIn app q 0 ls → Placed app place (λ j. Within q j) (of_item q z ++ all_in q 0 ls)
  placed_of_item q z ls s = placed_item app place of_instance of_item at_instance at_item instance_differs item_differs q z ls (placed q 0 ls s)

  placed_live : (p : Path) (l : Live) → Sits app p l → Placed app place (λ j. Within p j) (all_of p l)
  placed_live = placed_of app place of_instance of_item at_instance at_item instance_differs item_differs

  -- what a part becomes
  pub record LiveTurned (p : Path) (olds : List (ℕ × A)) (st : State) (r : Live × State) : Type 0 where
    pub sits : Sits app p r.0
    pub turned : Turns (λ j. Within p j) olds (all_of p r.0) st r.1

  record LivesTurned (p : Path) (i : ℕ) (olds : List (ℕ × A)) (st : State) (r : Lives × State) : Type 0 where
    pub sits : SitsIn app p i r.0
    pub turned : Turns (λ j. Into p (FromStep i) j) olds (all_in p i r.0) st r.1

  record ItemsTurned (p : Path) (S : PathStep → Type 0) (olds : List (ℕ × A)) (st : State) (r : Items × State) : Type 0 where
    pub sits : SitsItems app p r.0
    pub steps : (l : PathStep) → StepIn r.0 l → S l
    pub turned : Turns (λ j. Into p S j) olds (all_items p r.0) st r.1

  record ArmTurned (p : Path) (l : PathStep) (olds : List (ℕ × A)) (st : State) (a : Arm) : Type 0 where
    pub sits : SitsIn app (l ∷ p) 0 a.lives
    pub turned : Turns (λ j. Within p j) olds (all_in (l ∷ p) 0 a.lives) st a.state

  -- after a step that gives no numbers
  after_next : (p : Path) (olds : List (ℕ × A)) (st st1 : State) (r : Live × State) → st1.next ≡ st.next → LiveTurned p olds st1 r → LiveTurned p olds st r
  after_next p olds st st1 r e h = record { sits = h.sits; turned = subst (λ f. Turned app place (λ j. Within p j) olds (all_of p r.0) (f kind) (r.1.next kind)) e h.turned }

  -- What is new

  fresh_sits : (m : ℕ) (ms : MScope) (q : Path) (b : t.Body) (st : State) → SitsIn app q 0 (fresh_body_as by_number app σ m ms q b st).0
  fresh_sits m ms q b st =
      let d = grow_components_as by_number m app σ in let hd = components_sit by_number app σ m in
      body_sits by_number app d (grow_yields_as by_number app d (passed_in ms)) hd (yields_sit by_number app d hd (passed_in ms)) b ms q 0 st

  fresh_goes : (m : ℕ) (ms : MScope) (q : Path) (b : t.Body) (st : State) → GoesIn kind of_instance of_item q st (fresh_body_as by_number app σ m ms q b st)
  fresh_goes m ms q b st =
      let d = grow_components_as by_number m app σ in let hd = components_go kind of_instance of_item item_rises app σ instance_rises m in
      body_goes kind of_instance of_item item_rises app d (grow_yields_as by_number app d (passed_in ms)) hd (yields_go kind of_instance of_item item_rises app d hd (passed_in ms)) b ms q 0 st

  -- in place of what goes at another step
  flipped : (l o : PathStep) → (l ≡ o → ⊥) → (p : Path) (olds : List (ℕ × A)) → Placed app place (λ j. Within (o ∷ p) j) olds → (m : ℕ) (ms : MScope) (b : t.Body) (c : Id → ℕ) (st : State)
      → ArmTurned p l olds st (or_comment (fresh_body_as by_number app σ m ms (l ∷ p) b (dropped_as by_number c st)))
  flipped l o ne p olds w m ms b c st =
      let st1 = dropped_as by_number c st in
      let r = fresh_body_as by_number app σ m ms (l ∷ p) b st1 in
      let a = or_comment r in
      let s = arm_sits by_number app (l ∷ p) r (fresh_sits m ms (l ∷ p) b st1) in
      let now = all_in (l ∷ p) 0 a.lives in
      record {
        sits = s;
        turned =
            turned_wider app place (λ j. Within (l ∷ p) j) (λ j. Within p j) (λ j u. within_outer l p j u) olds now (st.next kind) (a.state.next kind)
            (turned_new app place (λ j. Within (l ∷ p) j) (λ j. Within (o ∷ p) j) (other_step l o ne p) olds now (st.next kind) (a.state.next kind) w
            (placed_more app place (λ j. Into (l ∷ p) (FromStep 0) j) (λ j. Within (l ∷ p) j) (in_step (l ∷ p) (FromStep 0)) now (placed (l ∷ p) 0 a.lives s)) (differs (l ∷ p) 0 a.lives s)
            (arm_goes kind of_instance of_item (l ∷ p) st1 r (fresh_goes m ms (l ∷ p) b st1)));
      }

  -- the same arm goes on
  kept : (l : PathStep) (p : Path) (k : Option ℕ) (olds : List (ℕ × A)) (st : State) (r : Lives × State) → LivesTurned (l ∷ p) 0 olds st r → ArmTurned p l olds st (record { comment = k; lives = r.0; state = r.1 })
  kept l p k olds st r h = record {
    sits = h.sits;
    turned = turned_wider app place (λ j. Into (l ∷ p) (FromStep 0) j) (λ j. Within p j) (under l p (FromStep 0)) olds (all_in (l ∷ p) 0 r.0) (st.next kind) (r.1.next kind) h.turned;
  }

  branch_turned : (u : Bool) (z : Spot) (p : Path) (olds : List (ℕ × A)) (st : State) (f g : Arm) → ArmTurned p main olds st f → ArmTurned p otherwise olds st g
      → LiveTurned p olds st (cond {A = Live × State} u (branch_from z true f) (branch_from z false g))
  branch_turned true z p olds st f g hf hg = record { sits = hf.sits; turned = hf.turned }
  branch_turned false z p olds st f g hf hg = record { sits = hg.sits; turned = hg.turned }

  list_turned : (vs : Values Path) (z : Spot) (p : Path) (olds : List (ℕ × A)) (st : State) (S : Values Path → PathStep → Type 0) (F : Values Path → Items × State) (g : Arm)
      → ((us : Values Path) → ItemsTurned (items ∷ p) (S us) olds st (F us)) → ArmTurned p otherwise olds st g → LiveTurned p olds st (where_values vs (λ us. listed_from z (F us)) (unlisted_from z g))
  list_turned no_values z p olds st S F g hf hg = record { sits = hg.sits; turned = hg.turned }
  list_turned (value v vs) z p olds st S F g hf hg =
      let us = value v vs in let h = hf us in
      record { sits = h.sits; turned = turned_wider app place (λ j. Into (items ∷ p) (S us) j) (λ j. Within p j) (under items p (S us)) olds (all_items (items ∷ p) (F us).0) (st.next kind) ((F us).1.next kind) h.turned }

  -- a part that goes on below its place
  below_turned : (l : PathStep) (p : Path) (olds : List (ℕ × A)) (st : State) (r : Lives × State) → LivesTurned (l ∷ p) 0 olds st r → Turns (λ j. Within p j) olds (all_in (l ∷ p) 0 r.0) st r.1
  below_turned l p olds st r h = turned_wider app place (λ j. Into (l ∷ p) (FromStep 0) j) (λ j. Within p j) (under l p (FromStep 0)) olds (all_in (l ∷ p) 0 r.0) (st.next kind) (r.1.next kind) h.turned

  -- an instance goes on
  instance_turned : (i : Inst) (ls : Lives) (st : State) (r : Lives × State) → SitsIn app i.path 0 ls → LivesTurned i.path 0 (all_in i.path 0 ls) st r
      → Turns (λ j. Within i.path j) (of_instance i ++ all_in i.path 0 ls) (of_instance i ++ all_in i.path 0 r.0) st r.1
  instance_turned i ls st r s h =
      let P : Path → Type 0 = λ j. j ≡ i.path in let Q : Path → Type 0 = λ j. Into i.path (FromStep 0) j in
      turned_both app place P P Q Q (λ j. Within i.path j) (off_body i.path) (off_body i.path) (λ j w e. off_body i.path j e w) (at_it i.path) (in_step i.path (FromStep 0))
      (of_instance i) (all_in i.path 0 ls) (at_instance i) (placed i.path 0 ls s) (of_instance i) (all_in i.path 0 r.0) (st.next kind) (st.next kind) (r.1.next kind)
      (turned_same app place P (of_instance i) (st.next kind) (st.next kind) (omega arith)) h.turned

  -- Old items

  abbrev handle_ties : Path → Handle → List (ℕ × A)
  handle_ties p h = of_item (step_of h.spot ∷ p) h.spot ++ all_in (step_of h.spot ∷ p) 0 h.lives

  abbrev all_handles : Path → List Handle → List (ℕ × A)
  all_handles p hs = all_tied app p (handle_ties p) (λ h. Unit {0}) hs

  placed_handles : (p : Path) (hs : List Handle) → HandlesSit app p hs → Placed app place (λ j. Into p (HandleAt hs) j) (all_handles p hs)
  placed_handles p [] s = tt
  placed_handles p (h ∷ hs) s =
      let q = step_of h.spot ∷ p in
      placed_join app place (λ j. Into p (HandleAt (h ∷ hs)) j) (handle_ties p h) (all_handles p hs)
      (placed_more app place (λ j. Within q j) (λ j. Into p (HandleAt (h ∷ hs)) j) (λ j w. (step_of h.spot, inl refl, w)) (handle_ties p h) (placed_of_item q h.spot h.lives s.1))
      (placed_more app place (λ j. Into p (HandleAt hs) j) (λ j. Into p (HandleAt (h ∷ hs)) j) (into_more p (HandleAt hs) (HandleAt (h ∷ hs)) (λ l w. inr w)) (all_handles p hs) (placed_handles p hs s.2))

  module _ (m : ℕ) (c : t.Body) where
    handles_are : (p : Path) (is : Items) → all_handles p (handles_as by_number app σ m c is) ≡ all_items p is
    handles_are p Live.no_items = refl
    handles_are p (Live.item_live z k ls is) = ap (λ xs. (of_item (step_of z ∷ p) z ++ all_in (step_of z ∷ p) 0 ls) ++ xs) (handles_are p is)

    module _ (ns : List Text) (ms : MScope) (p : Path) where
      abbrev HandleTurns : Handle → Type 0
      HandleTurns h =
          (q : Path) (st : State) → q ≡ step_of h.spot ∷ p
          → LivesTurned (step_of h.spot ∷ p) 0 (all_in (step_of h.spot ∷ p) 0 h.lives) st (h.go (with_names (item_names ns h.spot) ms) q st)

      abbrev AllTurn : List Handle → Type 0
      AllTurn hs = AllHold app p (handle_ties p) HandleTurns hs

      abbrev Taken : Entry → List Handle → Option (Handle × List Handle) → Type 0
      Taken x hs o = handles.Taken app p (handle_ties p) HandleTurns x hs o

      abbrev one : Path → Entry → State → ItemGrown
      one = fresh_items_as by_number app σ m ms ns c

      -- an item that goes on
      old_item : (x : Entry) (h : Handle) (st : State) → is_of x h ≡ true → HandleTurns h → SitsIn app (step_of h.spot ∷ p) 0 h.lives
          → let n = renew_item_as by_number ns ms (item x.key x.occurrence ∷ p) x h st in let q = step_of h.spot ∷ p in
          SitsIn app q 0 n.arm.lives × Turns (λ j. Within q j) (handle_ties p h) (of_item q h.spot ++ all_in q 0 n.arm.lives) st n.arm.state
      old_item x h st is turns s =
          let q0 = item x.key x.occurrence ∷ p in
          let q = step_of h.spot ∷ p in
          let st1 = give h.spot.value (number h.spot.value) x.value st in
          let st2 = give h.spot.index (number h.spot.index) (count_value x.index) st1 in
          let e : st2.next ≡ st.next = give_next h.spot.index (number h.spot.index) (count_value x.index) st1 ∙ give_next h.spot.value (number h.spot.value) x.value st in
          let r = h.go (with_names (item_names ns h.spot) ms) q0 st2 in
          let g = turns q0 st2 (ap (λ l. l ∷ p) (step_same x h is)) in
          let P : Path → Type 0 = λ j. j ≡ q in let Q : Path → Type 0 = λ j. Into q (FromStep 0) j in (
            g.sits,
            turned_both app place P P Q Q (λ j. Within q j) (off_body q) (off_body q) (λ j w d. off_body q j d w) (at_it q) (in_step q (FromStep 0))
                (of_item q h.spot) (all_in q 0 h.lives) (at_item q h.spot) (placed q 0 h.lives s) (of_item q h.spot) (all_in q 0 r.0) (st.next kind) (st.next kind) (r.1.next kind)
                (turned_same app place P (of_item q h.spot) (st.next kind) (st.next kind) (omega arith))
                (subst (λ f. Turned app place Q (all_in q 0 h.lives) (all_in q 0 r.0) (f kind) (r.1.next kind)) e g.turned),
          )

      -- an item that is new
      new_item : (q : Path) (x : Entry) (st : State) → let n = one q x st in
          SitsIn app q 0 n.arm.lives × Placed app place (λ j. Within q j) (of_item q n.spot ++ all_in q 0 n.arm.lives) × NoRepeat (values (of_item q n.spot ++ all_in q 0 n.arm.lives))
          × Goes kind of_instance of_item st (of_item q n.spot ++ all_in q 0 n.arm.lives) n.arm.state
      new_item q x st =
          let s = item_spot_as by_number ns q x st in
          let inside = with_names (item_names ns s.0) ms in
          let r = fresh_body_as by_number app σ m inside q c s.1 in
          let a = or_comment r in
          let sit = arm_sits by_number app q r (fresh_sits m inside q c s.1) in
          let P : Path → Type 0 = λ j. j ≡ q in let Q : Path → Type 0 = λ j. Into q (FromStep 0) j in (
            sit,
            placed_of_item q s.0 a.lives sit,
            differ_join app place P Q (off_body q) (of_item q s.0) (all_in q 0 a.lives) (item_differs q s.0) (differs q 0 a.lives sit) (at_item q s.0) (placed q 0 a.lives sit),
            goes_join kind of_instance of_item st s.1 a.state (of_item q s.0) (all_in q 0 a.lives) (item_rises ns q x st) (arm_goes kind of_instance of_item q s.1 r (fresh_goes m inside q c s.1)),
          )

      sync_turned : (xs : List Entry) (olds : List Handle) (st : State) → Distinct xs → AllTurn olds → HandlesSit app p olds → ItemsTurned p (StepsOf xs) (all_handles p olds) st (sync_as by_number one ns ms p xs olds st)
      sync_turned [] olds st d all s = record {
        sits = tt;
        steps = λ l w. w;
        turned = turned_gone app place (λ j. Into p (StepsOf []) j) (all_handles p olds) (st.next kind) (st.next kind) (omega arith);
      }
      sync_turned (x ∷ xs) olds st d all s = by (taken x olds) (taken_parted app p (handle_ties p) HandleTurns x olds all s) (λ olds' st' all' s'. sync_turned xs olds' st' d.1 all' s') where
        by : (k : Option (Handle × List Handle)) → Taken x olds k
            → ((olds : List Handle) (st : State) → AllTurn olds → HandlesSit app p olds → ItemsTurned p (StepsOf xs) (all_handles p olds) st (sync_as by_number one ns ms p xs olds st))
            → let h = sync_one_as by_number one ns ms (item x.key x.occurrence ∷ p) x olds k st in
            let r = sync_as by_number one ns ms p xs h.1 h.0.arm.state in
            ItemsTurned p (StepsOf (x ∷ xs)) (all_handles p olds) st (Live.item_live h.0.spot h.0.arm.comment h.0.arm.lives r.0, r.1)
        by None k rec =
            let l0 = item x.key x.occurrence in
            let q = l0 ∷ p in
            let h = one q x st in
            let g = new_item q x st in
            let z = rec olds h.arm.state all s in
            let r = sync_as by_number one ns ms p xs olds h.arm.state in
            let now = of_item q h.spot ++ all_in q 0 h.arm.lives in
            let P : Path → Type 0 = λ j. Within q j in let none : Path → Type 0 = λ j. ⊥ in
            let Q : Path → Type 0 = λ j. Into p (StepsOf xs) j in let Q' : Path → Type 0 = λ j. Into p (HandleAt olds) j in
            record {
              sits = ((λ w. later_apart x.key x.occurrence xs d.0 l0 refl (z.steps l0 w)), g.0, z.sits);
              steps = λ l w. elim w [ inl e ↦ inl e | inr u ↦ inr (z.steps l u) ];
              turned =
                  turned_join app place P none Q Q' (λ j. Into p (StepsOf (x ∷ xs)) j)
                  (λ j w v. later_apart x.key x.occurrence xs d.0 v.0 (steps_apart v.0 l0 p j v.2 w) v.1)
                  (λ j w v. k (subst (HandleAt olds) (steps_apart v.0 l0 p j v.2 w) v.1))
                  (λ j w v. v) (λ j w. (l0, inl refl, w)) (into_more p (StepsOf xs) (StepsOf (x ∷ xs)) (λ l w. inr w))
                  (all_handles p olds) [] (all_handles p olds) (λ y w. absurd w) (λ y w. w) (λ v w. inr w) tt (placed_handles p olds s) now (all_items p r.0) (st.next kind) (h.arm.state.next kind) (r.1.next kind)
                  (turned_new app place P none (λ j w v. v) [] now (st.next kind) (h.arm.state.next kind) tt g.1 g.2 g.3) z.turned;
            }
        by (Some y) k rec =
            let l0 = step_of y.0.spot in
            let q = l0 ∷ p in
            let e = step_same x y.0 k.is in
            let h = renew_item_as by_number ns ms (item x.key x.occurrence ∷ p) x y.0 st in
            let g = old_item x y.0 st k.is k.holds k.sits in
            let z = rec y.1 h.arm.state k.others k.rest_sits in
            let r = sync_as by_number one ns ms p xs y.1 h.arm.state in
            let P : Path → Type 0 = λ j. Within q j in
            let Q : Path → Type 0 = λ j. Into p (StepsOf xs) j in let Q' : Path → Type 0 = λ j. Into p (HandleAt y.1) j in
            let off : (j : Path) → P j → Q j → ⊥ = (λ j w v. later_apart x.key x.occurrence xs d.0 v.0 (steps_apart v.0 l0 p j v.2 w ∙ sym e) v.1) in
            record {
              sits = ((λ w. later_apart x.key x.occurrence xs d.0 l0 (sym e) (z.steps l0 w)), g.0, z.sits);
              steps = λ l w. elim w [ inl u ↦ inl (u ∙ sym e) | inr u ↦ inr (z.steps l u) ];
              turned =
                  turned_join app place P P Q Q' (λ j. Into p (StepsOf (x ∷ xs)) j) off (λ j w v. k.off (subst (HandleAt y.1) (steps_apart v.0 l0 p j v.2 w) v.1))
                  (λ j v w. off j w v) (λ j w. (l0, inl (sym e), w)) (into_more p (StepsOf xs) (StepsOf (x ∷ xs)) (λ l w. inr w))
                  (all_handles p olds) (handle_ties p y.0) (all_handles p y.1) k.own k.left k.either (placed_of_item q y.0.spot y.0.lives k.sits) (placed_handles p y.1 k.rest_sits)
                  (of_item q y.0.spot ++ all_in q 0 h.arm.lives) (all_items p r.0) (st.next kind) (h.arm.state.next kind) (r.1.next kind) g.1 z.turned;
            }

  -- a list that is new, in place of what goes
  new_list : (m : ℕ) (ms : MScope) (ns : List Text) (c : t.Body) (p : Path) (olds : List (ℕ × A)) → Placed app place (λ j. Within (otherwise ∷ p) j) olds → (xs : List Entry) → Distinct xs → (gone : Id → ℕ) (st : State)
      → ItemsTurned (items ∷ p) (StepsOf xs) olds st (grow_entries (fresh_items_as by_number app σ m ms ns c) (items ∷ p) xs (dropped_as by_number gone st))
  new_list m ms ns c p olds w xs d gone st =
      let st1 = dropped_as by_number gone st in
      let body : MScope → Path → State → Lives × State = λ ms' q st'. fresh_body_as by_number app σ m ms' q c st' in
      let r = grow_entries (fresh_items_as by_number app σ m ms ns c) (items ∷ p) xs st1 in
      let s = entries_sit by_number app body (λ ms' q st'. fresh_sits m ms' q c st') ms ns (items ∷ p) xs st1 d in
      let steps : (l : PathStep) → StepIn r.0 l → StepsOf xs l = (λ l u. steps_of by_number app body (λ ms' q st'. fresh_sits m ms' q c st') ms ns l (items ∷ p) xs st1 u) in
      let now = all_items (items ∷ p) r.0 in
      record {
        sits = s;
        steps = steps;
        turned =
            turned_new app place (λ j. Into (items ∷ p) (StepsOf xs) j) (λ j. Within (otherwise ∷ p) j) (λ j u v. other_step items otherwise items_otherwise p j (in_step (items ∷ p) (StepsOf xs) j u) v) olds now (st.next kind) (r.1.next kind) w
            (placed_more app place (λ j. Into (items ∷ p) (StepIn r.0) j) (λ j. Into (items ∷ p) (StepsOf xs) j) (into_more (items ∷ p) (StepIn r.0) (StepsOf xs) steps) now (placed_of_items (items ∷ p) r.0 s))
            (differ_items app place of_instance of_item at_instance at_item instance_differs item_differs (items ∷ p) r.0 s)
            (entries_go kind of_instance of_item item_rises body (λ ms' q st'. fresh_goes m ms' q c st') ms ns (items ∷ p) xs st1);
      }

  -- Statements, where the tree stands for what is rendered over some stores

  module _ (look : Id → Option Thing) (ρ ω : Store) where
    block_turned : (o : Option Block) (p : Path) (ls : Lives) (st : State) (F : Block → Lives × State) (P : Block → Type 0) → SitsIn app p 0 ls → ((c : Block) → P c → LivesTurned p 0 (all_in p 0 ls) st (F c))
        → WhereBlock o P (ls ≡ Live.no_lives) → LivesTurned p 0 (all_in p 0 ls) st (where_block o F (ls, st))
    block_turned None p ls st F P s k h = record { sits = s; turned = turned_same app place (λ j. Into p (FromStep 0) j) (all_in p 0 ls) (st.next kind) (st.next kind) (omega arith) }
    block_turned (Some c) p ls st F P s k h = k c h

    -- nothing changes
    same_live : (p : Path) (l : Live) (st : State) → Sits app p l → LiveTurned p (all_of p l) st (l, st)
    same_live p l st s = record { sits = s; turned = turned_same app place (λ j. Within p j) (all_of p l) (st.next kind) (st.next kind) (omega arith) }

    mutual
      stmt_turned : (m b : ℕ) (v : Scope) (ms : MScope) (p : Path) (x : t.Stmt) (l : Live) (st : State) → Stands app ρ ω look m b v ms p x l → Sits app p l
          → LiveTurned p (all_of p l) st (renew_as by_number app σ m ms p x l st)
      stmt_turned m b v ms p (t.text_stmt z) (Live.still n) st h s = same_live p (Live.still n) st s
      stmt_turned m b v ms p (t.comment_stmt z) (Live.still n) st h s = same_live p (Live.still n) st s
      stmt_turned m b v ms p (t.put e) (Live.put_live n z) st h s =
          record { sits = tt; turned = subst (λ f. Turned app place (λ j. Within p j) [] [] (st.next kind) (f kind)) (sym (text_next n z.ref st)) (turned_same app place (λ j. Within p j) [] (st.next kind) (st.next kind) (omega arith)) }
      stmt_turned m b v ms p (t.element tag ps c) (Live.element_live n made xs zs ls) st h s =
          let st1 = renew_attrs n xs st in
          let r = renew_body_as by_number app σ m ms p 0 c ls st1 in
          let g = body_turned m b v ms p 0 c ls st1 h.3 s in
          let P : Path → Type 0 = λ j. Into p (FromStep 0) j in
          record {
            sits = g.sits;
            turned =
                subst (λ f. Turned app place (λ j. Within p j) (all_in p 0 ls) (all_in p 0 r.0) (st.next kind) (f kind)) (sym (mods_next zs r.1))
                (subst (λ f. Turned app place (λ j. Within p j) (all_in p 0 ls) (all_in p 0 r.0) (f kind) (r.1.next kind)) (attrs_next n xs st)
                (turned_wider app place P (λ j. Within p j) (in_step p (FromStep 0)) (all_in p 0 ls) (all_in p 0 r.0) (st1.next kind) (r.1.next kind) g.turned));
          }
      stmt_turned m b v ms p (t.if_stmt e unless c d) (Live.branch_live z true k ls) st h s =
          let ca : Id → ℕ = λ q. times_in q ls + times_comment q k in
          let st1 = reread z.ref st in
          let olds = all_in (main ∷ p) 0 ls in
          let w = placed_more app place (λ j. Into (main ∷ p) (FromStep 0) j) (λ j. Within (main ∷ p) j) (in_step (main ∷ p) (FromStep 0)) olds (placed (main ∷ p) 0 ls s) in
          let r = renew_body_as by_number app σ m ms (main ∷ p) 0 c ls st1 in
          let f : Arm = record { comment = k; lives = r.0; state = r.1 } in
          let g = or_comment (fresh_body_as by_number app σ m ms (otherwise ∷ p) d (dropped_as by_number ca st1)) in
          let u = takes_first unless (first_value (spot_pairs st1 z.ref)) in
          after_next p olds st st1 (cond {A = Live × State} u (branch_from z true f) (branch_from z false g)) (reread_next z.ref st)
          (branch_turned u z p olds st1 f g (kept main p k olds st1 r (body_turned m b v ms (main ∷ p) 0 c ls st1 h.3 s)) (flipped otherwise main otherwise_main p olds w m ms d ca st1))
      stmt_turned m b v ms p (t.if_stmt e unless c d) (Live.branch_live z false k ls) st h s =
          let ca : Id → ℕ = λ q. times_in q ls + times_comment q k in
          let st1 = reread z.ref st in
          let olds = all_in (otherwise ∷ p) 0 ls in
          let w = placed_more app place (λ j. Into (otherwise ∷ p) (FromStep 0) j) (λ j. Within (otherwise ∷ p) j) (in_step (otherwise ∷ p) (FromStep 0)) olds (placed (otherwise ∷ p) 0 ls s) in
          let r = renew_body_as by_number app σ m ms (otherwise ∷ p) 0 d ls st1 in
          let g : Arm = record { comment = k; lives = r.0; state = r.1 } in
          let f = or_comment (fresh_body_as by_number app σ m ms (main ∷ p) c (dropped_as by_number ca st1)) in
          let u = takes_first unless (first_value (spot_pairs st1 z.ref)) in
          after_next p olds st st1 (cond {A = Live × State} u (branch_from z true f) (branch_from z false g)) (reread_next z.ref st)
          (branch_turned u z p olds st1 f g (flipped main otherwise main_otherwise p olds w m ms c ca st1) (kept otherwise p k olds st1 r (body_turned m b v ms (otherwise ∷ p) 0 d ls st1 h.3 s)))
      stmt_turned m b v ms p (t.each e key ns c d) (Live.listed z is) st h s =
          let ca : Id → ℕ = λ q. times_items q is in
          let hs = handles_as by_number app σ m c is in
          let st1 = reread z.ref st in
          let olds = all_items (items ∷ p) is in
          let w = placed_more app place (λ j. Into (items ∷ p) (StepIn is) j) (λ j. Within (items ∷ p) j) (in_step (items ∷ p) (StepIn is)) olds (placed_of_items (items ∷ p) is s) in
          let all = where_list (AllTurn m c ns ms (items ∷ p) hs) _ (ListStands app ρ ω look m b v ms p key ns c is) (λ us i. items_turn m b v ms (items ∷ p) ns c (entries key 0 [] us) is i s) h.1 in
          let F : Values Path → Items × State = λ vs. sync_as by_number (fresh_items_as by_number app σ m ms ns c) ns ms (items ∷ p) (entries key 0 [] vs) hs st1 in
          let g = or_comment (fresh_body_as by_number app σ m ms (otherwise ∷ p) d (dropped_as by_number ca st1)) in
          let vs = values_listed (first_value (spot_pairs st1 z.ref)) in
          after_next p olds st st1 (where_values vs (λ us. listed_from z (F us)) (unlisted_from z g)) (reread_next z.ref st)
          (list_turned vs z p olds st1 (λ us. StepsOf (entries key 0 [] us)) F g
          (λ us. subst (λ xs. ItemsTurned (items ∷ p) (StepsOf (entries key 0 [] us)) xs st1 (F us)) (handles_are m c (items ∷ p) is)
          (sync_turned m c ns ms (items ∷ p) (entries key 0 [] us) hs st1 (distinct key 0 [] us) all (handles_sit app (items ∷ p) σ m c is s)))
          (flipped otherwise items otherwise_items p olds w m ms d ca st1))
      stmt_turned m b v ms p (t.each e key ns c d) (Live.unlisted z k ls) st h s =
          let ca : Id → ℕ = λ q. times_in q ls + times_comment q k in
          let st1 = reread z.ref st in
          let olds = all_in (otherwise ∷ p) 0 ls in
          let w = placed_more app place (λ j. Into (otherwise ∷ p) (FromStep 0) j) (λ j. Within (otherwise ∷ p) j) (in_step (otherwise ∷ p) (FromStep 0)) olds (placed (otherwise ∷ p) 0 ls s) in
          let inside = where_else (StandIn app ρ ω look m b v ms (otherwise ∷ p) 0 d ls) _ (ElseStands app ρ ω look m b v ms p d k ls) (λ i. i.1) h.1 in
          let F : Values Path → Items × State = λ vs. grow_entries (fresh_items_as by_number app σ m ms ns c) (items ∷ p) (entries key 0 [] vs) (dropped_as by_number ca st1) in
          let r = renew_body_as by_number app σ m ms (otherwise ∷ p) 0 d ls st1 in
          let g : Arm = record { comment = k; lives = r.0; state = r.1 } in
          let vs = values_listed (first_value (spot_pairs st1 z.ref)) in
          after_next p olds st st1 (where_values vs (λ us. listed_from z (F us)) (unlisted_from z g)) (reread_next z.ref st)
          (list_turned vs z p olds st1 (λ us. StepsOf (entries key 0 [] us)) F g
          (λ us. new_list m ms ns c p olds w (entries key 0 [] us) (distinct key 0 [] us) ca st1)
          (kept otherwise p k olds st1 r (body_turned m b v ms (otherwise ∷ p) 0 d ls st1 inside s)))
      stmt_turned m b v ms p (t.let_stmt es ns c) (Live.let_live made rs ls) st h s =
          let inside = with_names (named_as ns rs) ms in
          let g = body_turned m _ _ inside (main ∷ p) 0 c ls st h.3 s in
          record { sits = g.sits; turned = below_turned main p (all_in (main ∷ p) 0 ls) st (renew_body_as by_number app σ m inside (main ∷ p) 0 c ls st) g }
      stmt_turned (suc m) b v ms p (t.component_stmt c ps given bs) (Live.component_live i made gm args (Some k) ls) st h s =
          let q = into c ∷ p in
          let n = renew_body_as by_number app σ m (mscope i args [] (mpassed k ps bs ms)) q 0 (class_at app q).template ls st in
          let g = subst (λ j. LivesTurned j 0 (all_in j 0 ls) st n) (sym h.2) (body_turned m _ _ (mscope i args [] (mpassed k ps bs ms)) q 0 (class_at app q).template ls st h.7 (subst (λ j. SitsIn app j 0 ls) h.2 s.2)) in
          record {
            sits = (s.0, s.1, g.sits);
            turned =
                turned_wider app place (λ j. Within i.path j) (λ j. Within p j) s.0 (of_instance i ++ all_in i.path 0 ls) (of_instance i ++ all_in i.path 0 n.0) (st.next kind) (n.1.next kind)
                (instance_turned i ls st n s.2 g);
          }
      stmt_turned zero b v ms p (t.component_stmt c ps given bs) (Live.deep_live q) st h s = same_live p (Live.deep_live q) st s
      stmt_turned m b v (mscope i a l mnothing) p (t.yield es n) (Live.yield_live k made rs ls) st h s = same_live p (Live.yield_live k made rs ls) st s
      stmt_turned m b v (mscope i a l (mpassed kb ps bs ms)) p (t.yield es n) (Live.yield_live k made rs ls) st h s =
          let q = slot n ∷ p in
          let F : Block → Lives × State = λ c. renew_body_as by_number app σ m (with_names (named_as c.params rs) ms) q 0 c.body ls st in
          let s' = subst (λ j. SitsIn app (slot j ∷ p) 0 ls) h.0 s in
          let g = block_turned (block_named n bs) q ls st F (BlockStands app ρ ω look m b v (mscope i a l (mpassed kb ps bs ms)) p es n made rs ls) s'
          (λ c j. body_turned m _ _ (with_names (named_as c.params rs) ms) q 0 c.body ls st j.3 s') h.1 in
          let r = where_block (block_named n bs) F (ls, st) in
          subst (λ j. LiveTurned p (all_in (slot j ∷ p) 0 ls) st (Live.yield_live j made rs r.0, r.1)) (sym h.0)
          (record { sits = g.sits; turned = below_turned (slot n) p (all_in q 0 ls) st r g })
      stmt_turned m b v ms p _ _ st h s = absurd h

      body_turned : (m b : ℕ) (v : Scope) (ms : MScope) (p : Path) (i : ℕ) (c : t.Body) (ls : Lives) (st : State) → StandIn app ρ ω look m b v ms p i c ls → SitsIn app p i ls
          → LivesTurned p i (all_in p i ls) st (renew_body_as by_number app σ m ms p i c ls st)
      body_turned m b v ms p i t.end Live.no_lives st h s = record { sits = tt; turned = turned_same app place (λ j. Into p (FromStep i) j) [] (st.next kind) (st.next kind) (omega arith) }
      body_turned m b v ms p i (t.stmt x c) (Live.live_and l ls) st h s =
          let r = renew_as by_number app σ m ms (at i ∷ p) x l st in
          let z = renew_body_as by_number app σ m ms p (suc i) c ls r.1 in
          let f = stmt_turned m b v ms (at i ∷ p) x l st h.0 s.0 in
          let g = body_turned m b v ms p (suc i) c ls r.1 h.1 s.1 in
          let P : Path → Type 0 = λ j. Within (at i ∷ p) j in let Q : Path → Type 0 = λ j. Into p (FromStep (suc i)) j in
          record {
            sits = (f.sits, g.sits);
            turned =
                turned_both app place P P Q Q (λ j. Into p (FromStep i) j) (off_rest p i) (off_rest p i) (λ j w u. off_rest p i j u w) (first_step p i) (into_more p (FromStep (suc i)) (FromStep i) (further i))
                (all_of (at i ∷ p) l) (all_in p (suc i) ls) (placed_live (at i ∷ p) l s.0) (placed p (suc i) ls s.1) (all_of (at i ∷ p) r.0) (all_in p (suc i) z.0) (st.next kind) (r.1.next kind) (z.1.next kind) f.turned g.turned;
          }
      body_turned m b v ms p i _ _ st h s = absurd h

      items_turn : (m b : ℕ) (v : Scope) (ms : MScope) (p : Path) (ns : List Text) (c : t.Body) (xs : List Entry) (is : Items) → ItemsStand app ρ ω look m b v ms p ns c xs is → SitsItems app p is
          → AllTurn m c ns ms p (handles_as by_number app σ m c is)
      items_turn m b v ms p ns c [] Live.no_items h s = tt
      items_turn m b v ms p ns c (x ∷ xs) (Live.item_live z k ls is) h s =
          let q0 = item x.key x.occurrence ∷ p in
          let q = step_of z ∷ p in
          let inside = with_names (item_names ns z) ms in
          let same : q0 ≡ q = ap₂ (λ a n. item a n ∷ p) (sym h.0.0) (sym h.0.1) in (
            (λ j st e.
                let at_q0 : LivesTurned q0 0 (all_in q0 0 ls) st (renew_body_as by_number app σ m inside q0 0 c ls st) = body_turned m _ _ inside q0 0 c ls st h.4 (subst (λ d. SitsIn app d 0 ls) (sym same) s.1) in
                subst (λ d. LivesTurned q 0 (all_in q 0 ls) st (renew_body_as by_number app σ m inside d 0 c ls st)) (sym e)
                (subst (λ d. LivesTurned d 0 (all_in d 0 ls) st (renew_body_as by_number app σ m inside d 0 c ls st)) same at_q0)),
            items_turn m b v ms p ns c xs is h.5 s.2,
          )
      items_turn m b v ms p ns c _ _ h s = absurd h

    pub root_turned : (m : ℕ) (l : Live) (st : State) → RootStands app ρ ω look m l → Sits app [] l → LiveTurned [] (all_of [] l) st (renew_root_as by_number m app σ l st)
    root_turned (suc m) (Live.component_live i made gm args None ls) st h s =
        let n = renew_body_as by_number app σ m (mscope i args [] mnothing) [] 0 (class_at app []).template ls st in
        let g = subst (λ j. LivesTurned j 0 (all_in j 0 ls) st n) (sym h.1) (body_turned m _ _ (mscope i args [] mnothing) [] 0 (class_at app []).template ls st h.5 (subst (λ j. SitsIn app j 0 ls) h.1 s.2)) in
        record {
          sits = (s.0, s.1, g.sits);
          turned =
              turned_wider app place (λ j. Within i.path j) (λ j. Within [] j) s.0 (of_instance i ++ all_in i.path 0 ls) (of_instance i ++ all_in i.path 0 n.0) (st.next kind) (n.1.next kind)
              (instance_turned i ls st n s.2 g);
        }
    root_turned zero (Live.deep_live q) st h s = same_live [] (Live.deep_live q) st s
    root_turned _ _ st h s = absurd h
