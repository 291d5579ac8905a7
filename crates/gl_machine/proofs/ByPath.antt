-- What persists keeps its id, by its path.
use Rattle.std.proofs.Common.{◌≡◌, ◌<◌, ◌≤◌, ℕ, suc, ◌+◌, List, [], ◌∷◌, ◌++◌, Bool, true, false, true≢false, Option, Some, None, refl, sym, ap, ◌∙◌, subst, arith, inl, inr, ◌⊎◌}
use Rattle.std.specs.Prelude.{nat_eq, nat_le}
use Rattle.std.proofs.lemmas.Bool.Decides.{leb_tells, Decides-eqb}
use Rattle.gl_value.specs.Value.{same}
use Rattle.gl_meaning.specs.Path.{PathStep, at, main, otherwise, items, slot, empty, Path, no_owners}
use Rattle.gl_meaning.specs.Known.{Among}
use Rattle.gl_meaning.specs.Laws.{Within}
use Rattle.gl_meaning.proofs.Equal.{both_true, same_itself, no_owners-Decides}
use Rattle.gl_meaning.proofs.Pieces.{among_either, among_left, among_right}
use Rattle.gl_meaning.proofs.Under.{within_itself, steps_apart, not_below, From, IsPartStep}
use Rattle.gl_plain.specs.Ids.{Kind, Id, ref, node, instance_id}
use Rattle.gl_plain.specs.State.{Inst}
use Rattle.gl_plain.specs.Binding.{Spot}
use Rattle.gl_plain.specs.Live
use Rattle.gl_plain.specs.Live.{Live, Lives, Items, AttrSpot, ModSpot, ItemSpot, item_made, times_in, times_comment, times_items}
use Rattle.gl_plain.specs.Keeps.{New, same_key, WhereTrue, item_count, EachItem, Keeps, KeepIn, KeptBy}
use Rattle.gl_plain.specs.Renew.{renew_app}
use Rattle.gl_plain.proofs.Roots.{ids_are_kept, updated_stands}
use Rattle.gl_machine.specs.Rows.{a_node, a_position, an_instance, a_value, an_index, Row, row_of, comment_rows, tag_rows, instance_rows, rows, rows_items, rows_in}
use Rattle.gl_machine.specs.UpdateLaws.{IdsByPath}
use Rattle.gl_machine.proofs.Sits.{item_key, item_number, item_step, Sits, SitsItems, SitsIn, RootSits, page_sits}
use Rattle.gl_machine.proofs.RowsOf.{OnTag, on_tag, arm_rows, arm_either, item_rows, rows_within, rows_from, items_within, arm_within, arm_below, item_within, not_there, among_ids, ids_arm, ids_items, ids_item}

abbrev pub step_number : PathStep → ℕ
step_number (at n) = n
step_number _ = 0

-- steps that differ
pub at_empty : (n : ℕ) → at n ≡ empty → ⊥
at_empty n e = cc

pub main_otherwise : main ≡ otherwise → ⊥
main_otherwise e = cc

pub otherwise_main : otherwise ≡ main → ⊥
otherwise_main e = cc

pub otherwise_items : otherwise ≡ items → ⊥
otherwise_items e = cc

pub items_otherwise : items ≡ otherwise → ⊥
items_otherwise e = cc

-- two places below one path at different steps
pub apart : (l m : PathStep) (p : Path) (x y : Row) → (l ≡ m → ⊥) → Within (l ∷ p) x.path → Within (m ∷ p) y.path → y.path ≡ x.path → ⊥
apart l m p x y ne u v e = ne (steps_apart l m p x.path u (subst (λ z. Within (m ∷ p) z) e v))

-- a place below a path isn't it
pub above : (l : PathStep) (p : Path) (x y : Row) → Within (l ∷ p) x.path → y.path ≡ p → y.path ≡ x.path → ⊥
above l p x y u f e = not_below l p (subst (λ z. Within (l ∷ p) z) (sym e ∙ f) u)

-- nor one on a tag, where it stands in the body
pub off_tag : (k : ℕ) (p : Path) (x y : Row) → Within (at k ∷ p) x.path → OnTag p y → y.path ≡ x.path → ⊥
off_tag k p x y u (inl f) e = above (at k) p x y u f e
off_tag k p x y u (inr (l, part, f)) e = off l part (steps_apart (at k) l p x.path u (subst (λ z. Within (l ∷ p) z) e (subst (λ z. Within (l ∷ p) z) (sym f) (within_itself (l ∷ p))))) where
  off : (l : PathStep) → IsPartStep l → at k ≡ l → ⊥
  off l part e = subst IsPartStep (sym e) part

abbrev ApartFrom : Row → List Row → Type 0
ApartFrom x ys = (y : Row) → Among y ys → y.path ≡ x.path → ⊥

pub same_key_itself : (y z : ItemSpot) → item_step y ≡ item_step z → same_key y z ≡ true
same_key_itself y z e = both_true (same no_owners z.key y.key) (nat_eq z.occurrence y.occurrence)
    (subst (λ k. same no_owners k y.key ≡ true) (ap item_key e) (same_itself ⊥ no_owners no_owners-Decides y.key))
    (subst (λ k. nat_eq k y.occurrence ≡ true) (ap item_number e) ((Decides-eqb y.occurrence y.occurrence).1 refl))

module _ (next : Kind → ℕ) where
  -- it stood there before, or its id is new and its place too
  abbrev pub Fresh : List Row → Row → Type 0
  Fresh ys x = (next x.id.kind ≤ x.id.num) × ((y : Row) → Among y ys → y.role ≡ x.role → y.path ≡ x.path → ⊥)

  abbrev pub Known : List Row → Row → Type 0
  Known ys x = Among x ys ⊎ Fresh ys x

  known_left : (ys zs : List Row) (x : Row) → ApartFrom x zs → Known ys x → Known (ys ++ zs) x
  known_left ys zs x f (inl m) = inl (among_left x ys zs m)
  known_left ys zs x f (inr h) = inr (h.0, λ y m r e. elim (among_either y ys zs m) [ inl k ↦ h.1 y k r e | inr k ↦ f y k e ])

  known_right : (ys zs : List Row) (x : Row) → ApartFrom x ys → Known zs x → Known (ys ++ zs) x
  known_right ys zs x f (inl m) = inl (among_right x ys zs m)
  known_right ys zs x f (inr h) = inr (h.0, λ y m r e. elim (among_either y ys zs m) [ inl k ↦ f y k e | inr k ↦ h.1 y k r e ])

  -- behind a row at a path, what stands below it
  known_below : (y : Row) (p : Path) (l : PathStep) (ys : List Row) (x : Row) → y.path ≡ p → Within (l ∷ p) x.path → Known ys x → Known (y ∷ ys) x
  known_below y p l ys x f w h = known_right (y ∷ []) ys x (λ z m e. one z m e) h where
    one : (z : Row) → Among z (y ∷ []) → z.path ≡ x.path → ⊥
    one z (inl g) e = above l p x z w (ap (λ v. v.path) g ∙ f) e
    one z (inr m) e = m

  -- new where its id is counted in what has new ids alone
  is_new : (count : Id → ℕ) → New next count → (x : Row) → 0 < count x.id → next x.id.kind ≤ x.id.num
  is_new count h x w = by (leb_tells (next x.id.kind) x.id.num) where
    by : ((nat_le (next x.id.kind) x.id.num ≡ true) × (next x.id.kind ≤ x.id.num)) ⊎ ((nat_le (next x.id.kind) x.id.num ≡ false) × (x.id.num < next x.id.kind)) → next x.id.kind ≤ x.id.num
    by (inl g) = g.1
    by (inr g) = let e = h x.id g.1 in absurd (omega (arith, e, w))

  new_arm : (q : Path) (k : Option ℕ) (ls : Lives) → SitsIn q 0 ls → New next (λ i. times_in i ls + times_comment i k) → (x : Row) → Among x (arm_rows q k ls) → next x.id.kind ≤ x.id.num
  new_arm q k ls s h x m = is_new (λ i. times_in i ls + times_comment i k) h x (let a = among_ids x (arm_rows q k ls) m in let b = ids_arm x.id q k ls s in omega (arith, a, b))

  new_items : (p : Path) (is : Items) → SitsItems p is → New next (λ i. times_items i is) → (x : Row) → Among x (rows_items p is) → next x.id.kind ≤ x.id.num
  new_items p is s h x m = is_new (λ i. times_items i is) h x (let a = among_ids x (rows_items p is) m in let b = ids_items x.id p is s in omega (arith, a, b))

  new_item : (p : Path) (z : ItemSpot) (k : Option ℕ) (ls : Lives) → SitsIn (item_step z ∷ p) 0 ls → New next (item_count z k ls) → (x : Row) → Among x (item_rows p z k ls) → next x.id.kind ≤ x.id.num
  new_item p z k ls s h x m = is_new (item_count z k ls) h x (let a = among_ids x (item_rows p z k ls) m in let b = ids_item x.id p z k ls s in omega (arith, a, b))

  -- The same arm goes on.
  arm_known : (q : Path) (k k' : Option ℕ) (ls ls' : Lives) → SitsIn q 0 ls → SitsIn q 0 ls' → k' ≡ k → ((x : Row) → Among x (rows_in q 0 ls') → Known (rows_in q 0 ls) x)
      → (x : Row) → Among x (arm_rows q k' ls') → Known (arm_rows q k ls) x
  arm_known q k k' ls ls' s s' e f x m =
      elim (arm_either q k' ls' x m) [
        | inl j ↦ known_left (rows_in q 0 ls) (comment_rows q k) x (λ y n g. off_comment k (rows_from q 0 ls' s' x j) y n g) (f x j)
        | inr j ↦ inl (among_right x (rows_in q 0 ls) (comment_rows q k) (subst (λ o. Among x (comment_rows q o)) e j))
      ]
    where
      off_comment : (k : Option ℕ) → From 0 q x.path → (y : Row) → Among y (comment_rows q k) → y.path ≡ x.path → ⊥
      off_comment None w y n g = n
      off_comment (Some c) w y (inl h) g = apart (at w.0) empty q x y (at_empty w.0) w.2 (subst (λ z. Within (empty ∷ q) z) (sym (ap (λ v. v.path) h)) (within_itself (empty ∷ q))) g
      off_comment (Some c) w y (inr h) g = h

  -- Behind a position at p, at one step below it.
  go_on : (p : Path) (l : PathStep) (z z' : Spot) (ys ys' : List Row) → z' ≡ z → ((x : Row) → Among x ys' → Within (l ∷ p) x.path) → ((x : Row) → Among x ys' → Known ys x)
      → (x : Row) → Among x (row_of a_position p (ref z'.ref) ∷ ys') → Known (row_of a_position p (ref z.ref) ∷ ys) x
  go_on p l z z' ys ys' e w f x (inl g) = inl (inl (g ∙ ap (λ (y : Spot). row_of a_position p (ref y.ref)) e))
  go_on p l z z' ys ys' e w f x (inr m) = known_below (row_of a_position p (ref z.ref)) p l ys x refl (w x m) (f x m)

  -- Another step is rendered anew.
  anew : (p : Path) (l o : PathStep) (z z' : Spot) (ys ys' : List Row) → z' ≡ z → (l ≡ o → ⊥) → ((x : Row) → Among x ys' → Within (l ∷ p) x.path) → ((y : Row) → Among y ys → Within (o ∷ p) y.path)
      → ((x : Row) → Among x ys' → next x.id.kind ≤ x.id.num) → (x : Row) → Among x (row_of a_position p (ref z'.ref) ∷ ys') → Known (row_of a_position p (ref z.ref) ∷ ys) x
  anew p l o z z' ys ys' e ne w v f x m = go_on p l z z' ys ys' e w (λ x n. inr (f x n, λ y k r g. apart l o p x y ne (w x n) (v y k) g)) x m

  -- An item goes on.
  item_known : (p : Path) (y z : ItemSpot) (j k : Option ℕ) (ms ls : Lives) → SitsIn (item_step y ∷ p) 0 ms → SitsIn (item_step y ∷ p) 0 ls → z ≡ y → k ≡ j
      → ((x : Row) → Among x (rows_in (item_step y ∷ p) 0 ls) → Known (rows_in (item_step y ∷ p) 0 ms) x) → (x : Row) → Among x (item_rows p z k ls) → Known (item_rows p y j ms) x
  item_known p y z j k ms ls s s' e f g x m = by (subst (λ v. Among x (item_rows p v k ls)) e m) where
    by : Among x (item_rows p y k ls) → Known (item_rows p y j ms) x
    by (inl h) = inl (inl h)
    by (inr (inl h)) = inl (inr (inl h))
    by (inr (inr h)) =
        let b = arm_below (item_step y ∷ p) k ls (rows_from (item_step y ∷ p) 0 ls s') x h in
        known_below (row_of a_value (item_step y ∷ p) (ref y.value)) (item_step y ∷ p) b.0 (row_of an_index (item_step y ∷ p) (ref y.index) ∷ arm_rows (item_step y ∷ p) j ms) x refl b.1
        (known_below (row_of an_index (item_step y ∷ p) (ref y.index)) (item_step y ∷ p) b.0 (arm_rows (item_step y ∷ p) j ms) x refl b.1
        (arm_known (item_step y ∷ p) j k ms ls s s' f g x h))

  each_known : (p : Path) (is is' : Items) → SitsItems p is' → EachItem (KeptBy next is) is'
      → ((z : ItemSpot) (k : Option ℕ) (ls : Lives) → SitsIn (item_step z ∷ p) 0 ls → KeptBy next is z k ls → (x : Row) → Among x (item_rows p z k ls) → Known (rows_items p is) x)
      → (x : Row) → Among x (rows_items p is') → Known (rows_items p is) x
  each_known p is Live.no_items s h f x m = absurd m
  each_known p is (Live.item_live z k ls is') s h f x m =
      elim (among_either x (item_rows p z k ls) (rows_items p is') m) [ inl j ↦ f z k ls s.1 h.0 x j | inr j ↦ each_known p is is' s.2 h.1 f x j ]

  -- An instance goes on.
  body_known : (i : Inst) (ls ls' : Lives) → SitsIn i.path 0 ls' → ((x : Row) → Among x (rows_in i.path 0 ls') → Known (rows_in i.path 0 ls) x)
      → (x : Row) → Among x (instance_rows i ++ rows_in i.path 0 ls') → Known (instance_rows i ++ rows_in i.path 0 ls) x
  body_known i ls ls' s f x (inl e) = inl (inl e)
  body_known i ls ls' s f x (inr m) =
      let w = rows_from i.path 0 ls' s x m in
      known_below (record { role = an_instance; path = i.path; id = instance_id i.id; cells = i.cells }) i.path (at w.0) (rows_in i.path 0 ls) x refl w.2 (f x m)

  -- An item is the first old one with its key, or stands behind it.
  kept_by : (p : Path) (y z : ItemSpot) (j k : Option ℕ) (ms ls : Lives) (is : Items) → SitsItems p (Live.item_live y j ms is) → SitsIn (item_step z ∷ p) 0 ls
      → (SitsIn (item_step y ∷ p) 0 ls → KeepIn next ms ls → (x : Row) → Among x (rows_in (item_step y ∷ p) 0 ls) → Known (rows_in (item_step y ∷ p) 0 ms) x)
      → (KeptBy next is z k ls → (x : Row) → Among x (item_rows p z k ls) → Known (rows_items p is) x)
      → (b : Bool) → same_key y z ≡ b → WhereTrue b ((z ≡ y) × (k ≡ j) × KeepIn next ms ls) (KeptBy next is z k ls)
      → (x : Row) → Among x (item_rows p z k ls) → Known (rows_items p (Live.item_live y j ms is)) x
  kept_by p y z j k ms ls is s s' f g true e h x m =
      let t = subst (λ (v : ItemSpot). SitsIn (item_step v ∷ p) 0 ls) h.0 s' in
      known_left (item_rows p y j ms) (rows_items p is) x
      (λ v n a. not_there (item_step y) p is s.0 s.2 v n (subst (λ w. Within (item_step y ∷ p) w) (sym a) (subst (λ (w : ItemSpot). Within (item_step w ∷ p) x.path) h.0 (item_within p z k ls s' x m))))
      (item_known p y z j k ms ls s.1 t h.0 h.1 (f t h.2) x m)
  kept_by p y z j k ms ls is s s' f g false e h x m =
      known_right (item_rows p y j ms) (rows_items p is) x
      (λ v n a. apart (item_step z) (item_step y) p x v (λ w. true≢false (sym (same_key_itself y z (sym w)) ∙ e)) (item_within p z k ls s' x m) (item_within p y j ms s.1 v n) a)
      (g h x m)

  mutual
    pub keeps_rows : (p : Path) (l l' : Live) → Sits p l → Sits p l' → Keeps next l l' → (x : Row) → Among x (rows p l') → Known (rows p l) x
    keeps_rows p (Live.still n) (Live.still n') s s' h x m = inl (subst (λ k. Among x (row_of a_node p (node k) ∷ [])) h m)
    keeps_rows p (Live.put_live n z) (Live.put_live n' z') s s' h x m =
        inl (subst (λ k. Among x (row_of a_position p (ref z.ref) ∷ (row_of a_node p (node k) ∷ []))) h.0 (subst (λ (v : Spot). Among x (row_of a_position p (ref v.ref) ∷ (row_of a_node p (node n') ∷ []))) h.1 m))
    keeps_rows p (Live.element_live n made xs zs ls) (Live.element_live n' made' xs' zs' ls') s s' h x m =
        elim (among_either x (tag_rows p n' xs' zs') (rows_in p 0 ls') m) [
          | inl j ↦ inl (among_left x (tag_rows p n xs zs) (rows_in p 0 ls)
              (subst (λ k. Among x (tag_rows p k xs zs)) h.0 (subst (λ v. Among x (tag_rows p n' v zs)) h.2 (subst (λ v. Among x (tag_rows p n' xs' v)) h.3 j))))
          | inr j ↦ known_right (tag_rows p n xs zs) (rows_in p 0 ls) x (λ y k e. let w = rows_from p 0 ls' s'.2 x j in off_tag w.0 p x y w.2 (on_tag p n xs zs y k) e) (keep_rows_in p 0 ls ls' s.2 s'.2 h.4 x j)
        ]
    keeps_rows p (Live.branch_live z true k ls) (Live.branch_live z' true k' ls') s s' h x m =
        go_on p main z z' _ _ h.0 (arm_within (main ∷ p) k' ls' s'.1) (arm_known (main ∷ p) k k' ls ls' s.1 s'.1 h.1 (λ y n. keep_rows_in (main ∷ p) 0 ls ls' s.1 s'.1 h.2 y n)) x m
    keeps_rows p (Live.branch_live z false k ls) (Live.branch_live z' false k' ls') s s' h x m =
        go_on p otherwise z z' _ _ h.0 (arm_within (otherwise ∷ p) k' ls' s'.1) (arm_known (otherwise ∷ p) k k' ls ls' s.1 s'.1 h.1 (λ y n. keep_rows_in (otherwise ∷ p) 0 ls ls' s.1 s'.1 h.2 y n)) x m
    keeps_rows p (Live.branch_live z true k ls) (Live.branch_live z' false k' ls') s s' h x m =
        anew p otherwise main z z' _ _ h.0 otherwise_main (arm_within (otherwise ∷ p) k' ls' s'.1) (arm_within (main ∷ p) k ls s.1) (new_arm (otherwise ∷ p) k' ls' s'.1 h.1) x m
    keeps_rows p (Live.branch_live z false k ls) (Live.branch_live z' true k' ls') s s' h x m =
        anew p main otherwise z z' _ _ h.0 main_otherwise (arm_within (main ∷ p) k' ls' s'.1) (arm_within (otherwise ∷ p) k ls s.1) (new_arm (main ∷ p) k' ls' s'.1 h.1) x m
    keeps_rows p (Live.listed z is) (Live.listed z' is') s s' h x m =
        go_on p items z z' _ _ h.0 (items_within (items ∷ p) is' s'.1) (each_known (items ∷ p) is is' s'.1 h.1 (λ y k ls t g. kept_rows (items ∷ p) is y k ls s.1 t g)) x m
    keeps_rows p (Live.listed z is) (Live.unlisted z' k' ls') s s' h x m =
        anew p otherwise items z z' _ _ h.0 otherwise_items (arm_within (otherwise ∷ p) k' ls' s'.1) (items_within (items ∷ p) is s.1) (new_arm (otherwise ∷ p) k' ls' s'.1 h.1) x m
    keeps_rows p (Live.unlisted z k ls) (Live.listed z' is') s s' h x m =
        anew p items otherwise z z' _ _ h.0 items_otherwise (items_within (items ∷ p) is' s'.1) (arm_within (otherwise ∷ p) k ls s.1) (new_items (items ∷ p) is' s'.1 h.1) x m
    keeps_rows p (Live.unlisted z k ls) (Live.unlisted z' k' ls') s s' h x m =
        go_on p otherwise z z' _ _ h.0 (arm_within (otherwise ∷ p) k' ls' s'.1) (arm_known (otherwise ∷ p) k k' ls ls' s.1 s'.1 h.1 (λ y n. keep_rows_in (otherwise ∷ p) 0 ls ls' s.1 s'.1 h.2 y n)) x m
    keeps_rows p (Live.let_live made rs ls) (Live.let_live made' rs' ls') s s' h x m = keep_rows_in (main ∷ p) 0 ls ls' s s' h.2 x m
    keeps_rows p (Live.component_live i made gm args k ls) (Live.component_live i' made' gm' args' k' ls') s s' h x m =
        let t = subst (λ (j : Inst). SitsIn j.path 0 ls') h.0 s'.2 in
        body_known i ls ls' t (λ y n. keep_rows_in i.path 0 ls ls' s.2 t h.4 y n) x (subst (λ j. Among x (instance_rows j ++ rows_in j.path 0 ls')) h.0 m)
    keeps_rows p (Live.yield_live n made rs ls) (Live.yield_live n' made' rs' ls') s s' h x m =
        keep_rows_in (slot n ∷ p) 0 ls ls' s (subst (λ k. SitsIn (slot k ∷ p) 0 ls') h.0 s') h.3 x (subst (λ k. Among x (rows_in (slot k ∷ p) 0 ls')) h.0 m)
    keeps_rows p (Live.deep_live q) (Live.deep_live q') s s' h x m = absurd m
    keeps_rows p _ _ s s' h x m = absurd h

    pub keep_rows_in : (p : Path) (i : ℕ) (ls ls' : Lives) → SitsIn p i ls → SitsIn p i ls' → KeepIn next ls ls' → (x : Row) → Among x (rows_in p i ls') → Known (rows_in p i ls) x
    keep_rows_in p i Live.no_lives Live.no_lives s s' h x m = absurd m
    keep_rows_in p i (Live.live_and l ls) (Live.live_and l' ls') s s' h x m =
        elim (among_either x (rows (at i ∷ p) l') (rows_in p (suc i) ls') m) [
          | inl j ↦ known_left (rows (at i ∷ p) l) (rows_in p (suc i) ls) x
              (λ y n e. let w = rows_from p (suc i) ls s.1 y n in apart (at i) (at w.0) p x y (λ g. let a : i ≡ w.0 = ap step_number g in let b = w.1 in omega (arith, a, b)) (rows_within (at i ∷ p) l' s'.0 x j) w.2 e)
              (keeps_rows (at i ∷ p) l l' s.0 s'.0 h.0 x j)
          | inr j ↦ known_right (rows (at i ∷ p) l) (rows_in p (suc i) ls) x
              (λ y n e. let w = rows_from p (suc i) ls' s'.1 x j in apart (at w.0) (at i) p x y (λ g. let a : w.0 ≡ i = ap step_number g in let b = w.1 in omega (arith, a, b)) w.2 (rows_within (at i ∷ p) l s.0 y n) e)
              (keep_rows_in p (suc i) ls ls' s.1 s'.1 h.1 x j)
        ]
    keep_rows_in p i _ _ s s' h x m = absurd h

    kept_rows : (p : Path) (is : Items) (z : ItemSpot) (k : Option ℕ) (ls : Lives) → SitsItems p is → SitsIn (item_step z ∷ p) 0 ls → KeptBy next is z k ls
        → (x : Row) → Among x (item_rows p z k ls) → Known (rows_items p is) x
    kept_rows p Live.no_items z k ls s s' h x m = inr (new_item p z k ls s' h x m, λ y n r e. n)
    kept_rows p (Live.item_live y j ms is) z k ls s s' h x m =
        kept_by p y z j k ms ls is s s' (λ t. keep_rows_in (item_step y ∷ p) 0 ms ls s.1 t) (λ g. kept_rows p is z k ls s.2 s' g) (same_key y z) refl h x m

root_known : (next : Kind → ℕ) (l l' : Live) → RootSits l → RootSits l' → Keeps next l l' → (x : Row) → Among x (rows [] l') → Known next (rows [] l) x
root_known next (Live.component_live i made gm args None ls) (Live.component_live i' made' gm' args' None ls') s s' h x m =
    let t = subst (λ (j : Inst). SitsIn j.path 0 ls') h.0 s'.2 in
    body_known next i ls ls' t (λ y n. keep_rows_in next i.path 0 ls ls' s.2 t h.4 y n) x (subst (λ j. Among x (instance_rows j ++ rows_in j.path 0 ls')) h.0 m)
root_known next (Live.deep_live q) (Live.deep_live q') s s' h x m = absurd m
root_known next (Live.component_live i made gm args None ls) (Live.deep_live q) s s' h x m = absurd h
root_known next (Live.deep_live q) (Live.component_live i' made' gm' args' None ls') s s' h x m = absurd h
root_known next (Live.component_live i made gm args None ls) _ s s' h x m = absurd s'
root_known next (Live.deep_live q) _ s s' h x m = absurd s'
root_known next _ _ s s' h x m = absurd s

pub ids_by_path : IdsByPath
ids_by_path app σ τ st l h cells x m =
    root_known st.next l (renew_app app τ l st).0 (page_sits app σ τ st l h) (page_sits app τ τ _ _ (updated_stands app σ τ st l h cells)) (ids_are_kept app σ τ st l h cells) x m
