-- What an update frees is what lives on no more.
use Rattle.std.proofs.Common.{◌≡◌, ℕ, suc, List, [], ◌∷◌, ◌++◌, Bool, true, false, true≢false, cond, Option, Some, None, refl, sym, ap, ap₂, ◌∙◌, subst, arith, inl, inr, ◌⊎◌}
use Rattle.std.specs.Prelude.{◌||◌, nat_eq}
use Rattle.std.proofs.lemmas.Bool.{eqb-true}
use Rattle.std.proofs.lemmas.List.{append-nil}
use Rattle.gl_value.specs.Value.{same}
use Rattle.gl_meaning.specs.Path.{PathStep, at, main, otherwise, items, item, slot, empty, Path, no_owners}
use Rattle.gl_meaning.specs.Known.{Among}
use Rattle.gl_meaning.specs.Laws.{Within}
use Rattle.gl_meaning.proofs.Equal.{both_left, both_right, same_means, no_owners-Decides}
use Rattle.gl_meaning.proofs.Pieces.{among_left, among_right}
use Rattle.gl_meaning.proofs.Under.{within_itself}
use Rattle.gl_plain.specs.Ids.{Kind, Id, id_eq, ref, node, instance_id}
use Rattle.gl_plain.specs.State.{Inst}
use Rattle.gl_plain.specs.Live
use Rattle.gl_plain.specs.Live.{Live, Lives, Items, AttrSpot, ModSpot, ItemSpot}
use Rattle.gl_plain.specs.Keeps.{same_key, WhereTrue, EachItem, Keeps, KeepIn, KeptBy}
use Rattle.gl_plain.proofs.Moves.{id_means, id_itself}
use Rattle.gl_machine.specs.Rows.{a_node, an_instance, a_value, an_index, Row, row_of, comment_rows, attr_rows, mod_spot_rows, mod_rows, tag_rows, instance_rows, rows, rows_items, rows_in, row_ids}
use Rattle.gl_machine.specs.Gone.{gone_modifier, gone_instance, has_id, gone_mods, gone_inst, gone, gone_items, gone_in, none_lives, kept_item, freed_item, freed, freed_items, freed_in}
use Rattle.gl_machine.proofs.Sits.{item_step, NotAt, Sits, SitsItems, SitsIn}
use Rattle.gl_machine.proofs.RowsOf.{on_tag, arm_rows, item_rows, rows_within, rows_from, items_within, arm_within, item_within, not_there}
use Rattle.gl_machine.proofs.ByPath.{at_empty, above, main_otherwise, otherwise_main, otherwise_items, items_otherwise, apart, off_tag, same_key_itself, step_number}

-- Ids of rows

pub has_row : (x : Row) (ys : List Row) → Among x ys → has_id x.id (row_ids ys) ≡ true
has_row x [] m = absurd m
has_row x (y ∷ ys) (inl e) = ap (λ b. b || has_id x.id (row_ids ys)) (subst (λ z. id_eq x.id z.id ≡ true) e (id_itself x.id))
has_row x (y ∷ ys) (inr m) = ap (λ b. id_eq x.id y.id || b) (has_row x ys m) ∙ or_true (id_eq x.id y.id) where
  or_true : (b : Bool) → (b || true) ≡ true
  or_true true = refl
  or_true false = refl

pub row_with : (q : Id) (ys : List Row) → has_id q (row_ids ys) ≡ true → (y : Row) × Among y ys × (y.id ≡ q)
row_with q [] e = absurd (true≢false (sym e))
row_with q (y ∷ ys) e = by (id_eq q y.id) refl e (row_with q ys) where
  by : (b : Bool) → id_eq q y.id ≡ b → (b || has_id q (row_ids ys)) ≡ true → (has_id q (row_ids ys) ≡ true → (z : Row) × Among z ys × (z.id ≡ q)) → (z : Row) × Among z (y ∷ ys) × (z.id ≡ q)
  by true a h f = (y, inl refl, sym (id_means q y.id a))
  by false a h f = let z = f h in (z.0, inr z.1, z.2)

has_append : (q : Id) (xs ys : List Row) → has_id q (row_ids (xs ++ ys)) ≡ (has_id q (row_ids xs) || has_id q (row_ids ys))
has_append q [] ys = refl
has_append q (x ∷ xs) ys = ap (λ b. id_eq q x.id || b) (has_append q xs ys) ∙ assoc (id_eq q x.id) (has_id q (row_ids xs)) (has_id q (row_ids ys)) where
  assoc : (a b c : Bool) → (a || (b || c)) ≡ ((a || b) || c)
  assoc true b c = refl
  assoc false b c = refl

or_none : (a b : Bool) → a ≡ false → (a || b) ≡ b
or_none a b e = ap (λ c. c || b) e

or_last : (a b : Bool) → b ≡ false → (a || b) ≡ a
or_last true b e = refl
or_last false b e = e

-- nothing of the one is at a place of the other
abbrev Off : List Row → List Row → Type 0
Off xs ys = (x y : Row) → Among x xs → Among y ys → y.path ≡ x.path → ⊥

mod_in_tag : (p : Path) (n : ℕ) (xs : List AttrSpot) (zs : List ModSpot) (x : Row) → Among x (mod_rows p 0 zs) → Among x (tag_rows p n xs zs)
mod_in_tag p n xs zs x m =
    among_right x (attr_rows p xs) (mod_spot_rows p 0 zs ++ (mod_rows p 0 zs ++ row_of a_node p (node n) ∷ []))
    (among_right x (mod_spot_rows p 0 zs) (mod_rows p 0 zs ++ row_of a_node p (node n) ∷ []) (among_left x (mod_rows p 0 zs) (row_of a_node p (node n) ∷ []) m))

off_comment : (q : Path) (i : ℕ) (x y : Row) (k : Option ℕ) → Within (at i ∷ q) x.path → Among y (comment_rows q k) → y.path ≡ x.path → ⊥
off_comment q i x y None w n e = n
off_comment q i x y (Some c) w (inl f) e = apart (at i) empty q x y (at_empty i) w (subst (λ z. Within (empty ∷ q) z) (sym (ap (λ v. v.path) f)) (within_itself (empty ∷ q))) e
off_comment q i x y (Some c) w (inr n) e = n

module _ (lives_on : Id → Bool) where
  -- Of old rows and new ones: an id of both is at one place, and what lives on is in the new ones.
  pub record Lives_in (xs ys : List Row) : Type 0 where
    pub place : (x y : Row) → Among x xs → Among y ys → x.id ≡ y.id → y.path ≡ x.path
    pub lives : (x : Row) → Among x xs → lives_on x.id ≡ has_id x.id (row_ids ys)

  -- no old row lives on where no new one is at its place
  none_live : (xs ys : List Row) → Lives_in xs ys → Off xs ys → (x : Row) → Among x xs → lives_on x.id ≡ false
  none_live xs ys h off x m = h.lives x m ∙ by (has_id x.id (row_ids ys)) refl where
    by : (b : Bool) → has_id x.id (row_ids ys) ≡ b → has_id x.id (row_ids ys) ≡ false
    by true e = let y = row_with x.id ys e in absurd (off x y.0 m y.1 (h.place x y.0 m y.1 (sym y.2)))
    by false e = e

  -- parts of both, where the other part of the new ones is elsewhere
  left_live : (xs ys xs' ys' : List Row) → Lives_in (xs ++ ys) (xs' ++ ys') → Off xs ys' → Lives_in xs xs'
  left_live xs ys xs' ys' h off = record {
    place = λ x y m n e. h.place x y (among_left x xs ys m) (among_left y xs' ys' n) e;
    lives = λ x m. h.lives x (among_left x xs ys m) ∙ (has_append x.id xs' ys' ∙ or_last (has_id x.id (row_ids xs')) (has_id x.id (row_ids ys')) (not_in x m (has_id x.id (row_ids ys')) refl));
  } where
    not_in : (x : Row) → Among x xs → (b : Bool) → has_id x.id (row_ids ys') ≡ b → has_id x.id (row_ids ys') ≡ false
    not_in x m true e = let y = row_with x.id ys' e in absurd (off x y.0 m y.1 (h.place x y.0 (among_left x xs ys m) (among_right y.0 xs' ys' y.1) (sym y.2)))
    not_in x m false e = e

  right_live : (xs ys xs' ys' : List Row) → Lives_in (xs ++ ys) (xs' ++ ys') → Off ys xs' → Lives_in ys ys'
  right_live xs ys xs' ys' h off = record {
    place = λ x y m n e. h.place x y (among_right x xs ys m) (among_right y xs' ys' n) e;
    lives = λ x m. h.lives x (among_right x xs ys m) ∙ (has_append x.id xs' ys' ∙ or_none (has_id x.id (row_ids xs')) (has_id x.id (row_ids ys')) (not_in x m (has_id x.id (row_ids xs')) refl));
  } where
    not_in : (x : Row) → Among x ys → (b : Bool) → has_id x.id (row_ids xs') ≡ b → has_id x.id (row_ids xs') ≡ false
    not_in x m true e = let y = row_with x.id xs' e in absurd (off x y.0 m y.1 (h.place x y.0 (among_right x xs ys m) (among_left y.0 xs' ys' y.1) (sym y.2)))
    not_in x m false e = e

  -- of the old ones alone
  fewer_live : (xs ys zs : List Row) → Lives_in (xs ++ ys) zs → Lives_in xs zs
  fewer_live xs ys zs h = record { place = λ x y m n e. h.place x y (among_left x xs ys m) n e; lives = λ x m. h.lives x (among_left x xs ys m) }

  later_live : (xs ys zs : List Row) → Lives_in (xs ++ ys) zs → Lives_in ys zs
  later_live xs ys zs h = record { place = λ x y m n e. h.place x y (among_right x xs ys m) n e; lives = λ x m. h.lives x (among_right x xs ys m) }

  -- What is in new rows lives on, and what is in none goes.

  mods_kept : (p : Path) (i : ℕ) (zs : List ModSpot) → ((x : Row) → Among x (mod_rows p i zs) → lives_on x.id ≡ true) → gone_mods lives_on zs ≡ []
  mods_kept p i [] f = refl
  mods_kept p i (z ∷ zs) f = ap₂ (λ b gs. cond b [] (gone_modifier z.id ∷ []) ++ gs) (f _ (inl refl)) (mods_kept p (suc i) zs (λ x m. f x (inr m)))

  mods_gone : (p : Path) (i : ℕ) (zs : List ModSpot) → ((x : Row) → Among x (mod_rows p i zs) → lives_on x.id ≡ false) → gone_mods none_lives zs ≡ gone_mods lives_on zs
  mods_gone p i [] f = refl
  mods_gone p i (z ∷ zs) f = ap₂ (λ b gs. cond b [] (gone_modifier z.id ∷ []) ++ gs) (sym (f _ (inl refl))) (mods_gone p (suc i) zs (λ x m. f x (inr m)))

  abbrev NoneOf : List Row → Type 0
  NoneOf xs = (x : Row) → Among x xs → lives_on x.id ≡ false

  mutual
    all_gone : (p : Path) (l : Live) → NoneOf (rows p l) → gone none_lives l ≡ gone lives_on l
    all_gone p (Live.still n) f = refl
    all_gone p (Live.put_live n z) f = refl
    all_gone p (Live.element_live n made xs zs ls) f =
        ap₂ (λ a b. a ++ b) (all_gone_in p 0 ls (λ x m. f x (among_right x (tag_rows p n xs zs) (rows_in p 0 ls) m)))
        (mods_gone p 0 zs (λ x m. f x (among_left x (tag_rows p n xs zs) (rows_in p 0 ls) (mod_in_tag p n xs zs x m))))
    all_gone p (Live.branch_live z true k ls) f = all_gone_in (main ∷ p) 0 ls (λ x m. f x (inr (among_left x (rows_in (main ∷ p) 0 ls) (comment_rows (main ∷ p) k) m)))
    all_gone p (Live.branch_live z false k ls) f = all_gone_in (otherwise ∷ p) 0 ls (λ x m. f x (inr (among_left x (rows_in (otherwise ∷ p) 0 ls) (comment_rows (otherwise ∷ p) k) m)))
    all_gone p (Live.listed z is) f = all_gone_items (items ∷ p) is (λ x m. f x (inr m))
    all_gone p (Live.unlisted z k ls) f = all_gone_in (otherwise ∷ p) 0 ls (λ x m. f x (inr (among_left x (rows_in (otherwise ∷ p) 0 ls) (comment_rows (otherwise ∷ p) k) m)))
    all_gone p (Live.let_live made rs ls) f = all_gone_in (main ∷ p) 0 ls f
    all_gone p (Live.component_live i made gm args k ls) f =
        ap₂ (λ a b. a ++ b) (all_gone_in i.path 0 ls (λ x m. f x (inr m))) (ap (λ b. cond b [] (gone_instance i ∷ [])) (sym (f _ (inl refl))))
    all_gone p (Live.yield_live n made rs ls) f = all_gone_in (slot n ∷ p) 0 ls f
    all_gone p (Live.deep_live q) f = refl

    all_gone_items : (p : Path) (is : Items) → NoneOf (rows_items p is) → gone_items none_lives is ≡ gone_items lives_on is
    all_gone_items p Live.no_items f = refl
    all_gone_items p (Live.item_live z k ls is) f =
        let q = item_step z ∷ p in
        ap₂ (λ a b. a ++ b) (all_gone_in q 0 ls (λ x m. f x (among_left x (item_rows p z k ls) (rows_items p is) (inr (inr (among_left x (rows_in q 0 ls) (comment_rows q k) m))))))
        (all_gone_items p is (λ x m. f x (among_right x (item_rows p z k ls) (rows_items p is) m)))

    all_gone_in : (p : Path) (i : ℕ) (ls : Lives) → NoneOf (rows_in p i ls) → gone_in none_lives ls ≡ gone_in lives_on ls
    all_gone_in p i Live.no_lives f = refl
    all_gone_in p i (Live.live_and l ls) f =
        ap₂ (λ a b. a ++ b) (all_gone (at i ∷ p) l (λ x m. f x (among_left x (rows (at i ∷ p) l) (rows_in p (suc i) ls) m)))
        (all_gone_in p (suc i) ls (λ x m. f x (among_right x (rows (at i ∷ p) l) (rows_in p (suc i) ls) m)))

  -- Behind one row at p on both sides, what stands below it.

  behind : (p : Path) (l : PathStep) (v v' : Row) (xs ys : List Row) → v'.path ≡ p → ((x : Row) → Among x xs → Within (l ∷ p) x.path) → Lives_in (v ∷ xs) (v' ∷ ys) → Lives_in xs ys
  behind p l v v' xs ys e w h = right_live (v ∷ []) xs (v' ∷ []) ys h (λ x y m n f. off x y m n f) where
    off : Off xs (v' ∷ [])
    off x y m (inl a) f = above l p x y (w x m) (ap (λ z. z.path) a ∙ e) f
    off x y m (inr n) f = n

  -- An arm goes on.
  arm_lives : (q : Path) (k k' : Option ℕ) (ls ls' : Lives) → SitsIn q 0 ls → Lives_in (arm_rows q k ls) (arm_rows q k' ls') → Lives_in (rows_in q 0 ls) (rows_in q 0 ls')
  arm_lives q k k' ls ls' s h = left_live (rows_in q 0 ls) (comment_rows q k) (rows_in q 0 ls') (comment_rows q k') h (λ x y m n e. let w = rows_from q 0 ls s x m in off_comment q w.0 x y k' w.2 n e)

  -- Another step is rendered anew: all that stood there goes.
  arm_gone : (p : Path) (l o : PathStep) (k : Option ℕ) (ls : Lives) (v v' : Row) (ys : List Row) → (l ≡ o → ⊥) → v'.path ≡ p → SitsIn (l ∷ p) 0 ls → ((y : Row) → Among y ys → Within (o ∷ p) y.path)
      → Lives_in (v ∷ arm_rows (l ∷ p) k ls) (v' ∷ ys) → gone_in none_lives ls ≡ gone_in lives_on ls
  arm_gone p l o k ls v v' ys ne e s w h =
      let g = behind p l v v' (arm_rows (l ∷ p) k ls) ys e (arm_within (l ∷ p) k ls s) h in
      all_gone_in (l ∷ p) 0 ls
      (λ x m. none_live (arm_rows (l ∷ p) k ls) ys g (λ a y i j f. apart l o p a y ne (arm_within (l ∷ p) k ls s a i) (w y j) f) x (among_left x (rows_in (l ∷ p) 0 ls) (comment_rows (l ∷ p) k) m))

  items_gone : (p : Path) (l o : PathStep) (is : Items) (v v' : Row) (ys : List Row) → (l ≡ o → ⊥) → v'.path ≡ p → SitsItems (l ∷ p) is → ((y : Row) → Among y ys → Within (o ∷ p) y.path)
      → Lives_in (v ∷ rows_items (l ∷ p) is) (v' ∷ ys) → gone_items none_lives is ≡ gone_items lives_on is
  items_gone p l o is v v' ys ne e s w h =
      let g = behind p l v v' (rows_items (l ∷ p) is) ys e (items_within (l ∷ p) is s) h in
      all_gone_items (l ∷ p) is (λ x m. none_live (rows_items (l ∷ p) is) ys g (λ a y i j f. apart l o p a y ne (items_within (l ∷ p) is s a i) (w y j) f) x m)

-- Items

-- the item is one of these
abbrev pub OneOf : ItemSpot → Option ℕ → Lives → Items → Type 0
OneOf y j ms Live.no_items = ⊥
OneOf y j ms (Live.item_live z k ls is) = ((z ≡ y) × (k ≡ j) × (ls ≡ ms)) ⊎ OneOf y j ms is

same_steps : (y z : ItemSpot) → same_key y z ≡ true → item_step z ≡ item_step y
same_steps y z e =
    ap₂ item (same_means ⊥ no_owners no_owners-Decides z.key y.key (both_left (same no_owners z.key y.key) (nat_eq z.occurrence y.occurrence) e))
    (eqb-true z.occurrence y.occurrence (both_right (same no_owners z.key y.key) (nat_eq z.occurrence y.occurrence) e))

not_at : (l : PathStep) (y : ItemSpot) (j : Option ℕ) (ms : Lives) (is : Items) → NotAt l is → OneOf y j ms is → l ≡ item_step y → ⊥
not_at l y j ms Live.no_items n o e = o
not_at l y j ms (Live.item_live z k ls is) n (inl h) e = n.0 (e ∙ ap item_step (sym h.0))
not_at l y j ms (Live.item_live z k ls is) n (inr o) e = not_at l y j ms is n.1 o e

module _ (next : Kind → ℕ) where
  abbrev IsKept : ItemSpot → Option ℕ → Lives → ItemSpot → Option ℕ → Lives → Type 0
  IsKept y j ms z k ls = (z ≡ y) × (k ≡ j) × KeepIn next ms ls

  kept_from : (p : Path) (is : Items) (y z : ItemSpot) (j k : Option ℕ) (ms ls : Lives) → SitsItems p is → OneOf y j ms is → same_key y z ≡ true → KeptBy next is z k ls → IsKept y j ms z k ls
  kept_from p Live.no_items y z j k ms ls s o e h = absurd o
  kept_from p (Live.item_live v i us is) y z j k ms ls s o e h = by (same_key v z) refl o h (kept_from p is y z j k ms ls s.2) where
    by : (b : Bool) → same_key v z ≡ b → ((v ≡ y) × (i ≡ j) × (us ≡ ms)) ⊎ OneOf y j ms is → WhereTrue b (IsKept v i us z k ls) (KeptBy next is z k ls)
        → (OneOf y j ms is → same_key y z ≡ true → KeptBy next is z k ls → IsKept y j ms z k ls) → IsKept y j ms z k ls
    by true a (inl g) h f = (h.0 ∙ g.0, h.1 ∙ g.1, subst (λ ws. KeepIn next ws ls) g.2 h.2)
    by true a (inr g) h f = absurd (not_at (item_step v) y j ms is s.0 g (sym (same_steps v z a) ∙ same_steps y z e))
    by false a (inl g) h f = absurd (true≢false (sym e ∙ (ap (λ w. same_key w z) (sym g.0) ∙ a)))
    by false a (inr g) h f = f g e h

module _ (lives_on : Id → Bool) (next : Kind → ℕ) where
  -- what is in an item that goes on
  item_body : (p : Path) (y : ItemSpot) (j k : Option ℕ) (ms ls : Lives) → SitsIn (item_step y ∷ p) 0 ms → Lives_in lives_on (item_rows p y j ms) (item_rows p y k ls)
      → Lives_in lives_on (rows_in (item_step y ∷ p) 0 ms) (rows_in (item_step y ∷ p) 0 ls)
  item_body p y j k ms ls s g =
      let q = item_step y ∷ p in
      let a = row_of a_value q (ref y.value) in
      let b = row_of an_index q (ref y.index) in
      let body = fewer_live lives_on (rows_in q 0 ms) (comment_rows q j) (item_rows p y k ls) (later_live lives_on (a ∷ (b ∷ [])) (arm_rows q j ms) (item_rows p y k ls) g) in
      let ends : Lives_in lives_on ([] ++ rows_in q 0 ms) ((a ∷ (b ∷ [])) ++ arm_rows q k ls) = body in
      let rest = right_live lives_on [] (rows_in q 0 ms) (a ∷ (b ∷ [])) (arm_rows q k ls) ends (λ x v m n e. let c = rows_from q 0 ms s x m in off c.0 x v c.2 n e) in
      let more : Lives_in lives_on (rows_in q 0 ms ++ []) (rows_in q 0 ls ++ comment_rows q k) = subst (λ xs. Lives_in lives_on xs (arm_rows q k ls)) (sym (append-nil (rows_in q 0 ms))) rest in
      left_live lives_on (rows_in q 0 ms) [] (rows_in q 0 ls) (comment_rows q k) more (λ x v m n e. let c = rows_from q 0 ms s x m in off_comment q c.0 x v k c.2 n e)
    where
      off : (n : ℕ) (x v : Row) → Within (at n ∷ item_step y ∷ p) x.path → Among v (row_of a_value (item_step y ∷ p) (ref y.value) ∷ (row_of an_index (item_step y ∷ p) (ref y.index) ∷ [])) → v.path ≡ x.path → ⊥
      off n x v u (inl a) e = above (at n) (item_step y ∷ p) x v u (ap (λ z. z.path) a) e
      off n x v u (inr (inl a)) e = above (at n) (item_step y ∷ p) x v u (ap (λ z. z.path) a) e
      off n x v u (inr (inr m)) e = m

  -- An old item goes on in the new one with its key, or goes.
  item_freed : (p : Path) (is0 : Items) (y : ItemSpot) (j : Option ℕ) (ms : Lives) → SitsItems p is0 → OneOf y j ms is0 → SitsIn (item_step y ∷ p) 0 ms
      → ((ls : Lives) → SitsIn (item_step y ∷ p) 0 ls → KeepIn next ms ls → Lives_in lives_on (rows_in (item_step y ∷ p) 0 ms) (rows_in (item_step y ∷ p) 0 ls) → freed_in ms ls ≡ gone_in lives_on ms)
      → (is : Items) → SitsItems p is → EachItem (KeptBy next is0) is → Lives_in lives_on (item_rows p y j ms) (rows_items p is)
      → freed_item ms (λ ls. freed_in ms ls) (kept_item y is) ≡ gone_in lives_on ms
  item_freed p is0 y j ms s0 o sy ih Live.no_items s h g =
      let q = item_step y ∷ p in
      all_gone_in lives_on q 0 ms (λ x m. none_live lives_on (item_rows p y j ms) [] g (λ a b i n e. n) x (inr (inr (among_left x (rows_in q 0 ms) (comment_rows q j) m))))
  item_freed p is0 y j ms s0 o sy ih (Live.item_live z k ls is) s h g = by (same_key y z) refl (λ t. item_freed p is0 y j ms s0 o sy ih is s.2 h.1 t) where
    by : (b : Bool) → same_key y z ≡ b → (Lives_in lives_on (item_rows p y j ms) (rows_items p is) → freed_item ms (λ ls. freed_in ms ls) (kept_item y is) ≡ gone_in lives_on ms)
        → freed_item ms (λ ls. freed_in ms ls) (cond b (Some ls) (kept_item y is)) ≡ gone_in lives_on ms
    by true e f =
        let w = kept_from next p is0 y z j k ms ls s0 o e h.0 in
        let sl = subst (λ (v : ItemSpot). SitsIn (item_step v ∷ p) 0 ls) w.0 s.1 in
        let ends : Lives_in lives_on (item_rows p y j ms ++ []) (item_rows p z k ls ++ rows_items p is) = subst (λ xs. Lives_in lives_on xs (item_rows p z k ls ++ rows_items p is)) (sym (append-nil (item_rows p y j ms))) g in
        let here = left_live lives_on (item_rows p y j ms) [] (item_rows p z k ls) (rows_items p is) ends
        (λ x v m n a. not_there (item_step z) p is s.0 s.2 v n (subst (λ c. Within (item_step z ∷ p) c) (sym a) (subst (λ l. Within (l ∷ p) x.path) (sym (same_steps y z e)) (item_within p y j ms sy x m)))) in
        let same = subst (λ (v : ItemSpot). Lives_in lives_on (item_rows p y j ms) (item_rows p v k ls)) w.0 here in
        ih ls sl w.2 (item_body p y j k ms ls sy same)
    by false e f =
        f (right_live lives_on [] (item_rows p y j ms) (item_rows p z k ls) (rows_items p is) g
        (λ x v m n a. apart (item_step y) (item_step z) p x v (λ c. true≢false (sym (same_key_itself y z c) ∙ e)) (item_within p y j ms sy x m) (item_within p z k ls s.1 v n) a))

  -- An instance goes on.
  pub inst_freed : (i : Inst) (ls ls' : Lives) → SitsIn i.path 0 ls → SitsIn i.path 0 ls' → Lives_in lives_on (instance_rows i ++ rows_in i.path 0 ls) (instance_rows i ++ rows_in i.path 0 ls')
      → (Lives_in lives_on (rows_in i.path 0 ls) (rows_in i.path 0 ls') → freed_in ls ls' ≡ gone_in lives_on ls) → freed_in ls ls' ≡ gone_in lives_on ls ++ gone_inst lives_on i
  inst_freed i ls ls' s s' g f =
      let v : Row = record { role = an_instance; path = i.path; id = instance_id i.id; cells = i.cells } in
      let w = right_live lives_on (instance_rows i) (rows_in i.path 0 ls) (instance_rows i) (rows_in i.path 0 ls') g (λ x y m n e. let c = rows_from i.path 0 ls s x m in off c.0 x y c.2 n e) in
      sym (append-nil (freed_in ls ls')) ∙ ap₂ (λ a b. a ++ b) (f w) (ap (λ b. cond b [] (gone_instance i ∷ [])) (sym (g.lives v (inl refl) ∙ has_row v (instance_rows i ++ rows_in i.path 0 ls') (inl refl))))
    where
      off : (k : ℕ) (x y : Row) → Within (at k ∷ i.path) x.path → Among y (instance_rows i) → y.path ≡ x.path → ⊥
      off k x y u (inl a) e = above (at k) i.path x y u (ap (λ z. z.path) a) e
      off k x y u (inr n) e = n

  mutual
    pub is_freed : (p : Path) (l l' : Live) → Sits p l → Sits p l' → Keeps next l l' → Lives_in lives_on (rows p l) (rows p l') → freed l l' ≡ gone lives_on l
    is_freed p (Live.still n) (Live.still n') s s' h g = refl
    is_freed p (Live.put_live n z) (Live.put_live n' z') s s' h g = refl
    is_freed p (Live.element_live n made xs zs ls) (Live.element_live n' made' xs' zs' ls') s s' h g =
        sym (append-nil (freed_in ls ls'))
        ∙ ap₂ (λ a b. a ++ b)
        (body_freed p 0 ls ls' s.2 s'.2 h.4 (right_live lives_on (tag_rows p n xs zs) (rows_in p 0 ls) (tag_rows p n' xs' zs') (rows_in p 0 ls') g (λ x y m k e. let w = rows_from p 0 ls s.2 x m in off_tag w.0 p x y w.2 (on_tag p n' xs' zs' y k) e)))
        (sym (mods_kept lives_on p 0 zs
        (λ x m.
        let a = mod_in_tag p n xs zs x m in
        let b : Among x (tag_rows p n' xs' zs') = subst (λ j. Among x (tag_rows p j xs' zs')) (sym h.0) (subst (λ v. Among x (tag_rows p n v zs')) (sym h.2) (subst (λ v. Among x (tag_rows p n xs v)) (sym h.3) a)) in
        g.lives x (among_left x (tag_rows p n xs zs) (rows_in p 0 ls) a) ∙ has_row x (tag_rows p n' xs' zs' ++ rows_in p 0 ls') (among_left x (tag_rows p n' xs' zs') (rows_in p 0 ls') b))))
    is_freed p (Live.branch_live z true k ls) (Live.branch_live z' true k' ls') s s' h g =
        body_freed (main ∷ p) 0 ls ls' s.1 s'.1 h.2 (arm_lives lives_on (main ∷ p) k k' ls ls' s.1 (behind lives_on p main _ _ (arm_rows (main ∷ p) k ls) (arm_rows (main ∷ p) k' ls') refl (arm_within (main ∷ p) k ls s.1) g))
    is_freed p (Live.branch_live z false k ls) (Live.branch_live z' false k' ls') s s' h g =
        body_freed (otherwise ∷ p) 0 ls ls' s.1 s'.1 h.2 (arm_lives lives_on (otherwise ∷ p) k k' ls ls' s.1 (behind lives_on p otherwise _ _ (arm_rows (otherwise ∷ p) k ls) (arm_rows (otherwise ∷ p) k' ls') refl (arm_within (otherwise ∷ p) k ls s.1) g))
    is_freed p (Live.branch_live z true k ls) (Live.branch_live z' false k' ls') s s' h g =
        arm_gone lives_on p main otherwise k ls _ _ (arm_rows (otherwise ∷ p) k' ls') main_otherwise refl s.1 (arm_within (otherwise ∷ p) k' ls' s'.1) g
    is_freed p (Live.branch_live z false k ls) (Live.branch_live z' true k' ls') s s' h g =
        arm_gone lives_on p otherwise main k ls _ _ (arm_rows (main ∷ p) k' ls') otherwise_main refl s.1 (arm_within (main ∷ p) k' ls' s'.1) g
    is_freed p (Live.listed z is) (Live.listed z' is') s s' h g =
        items_freed (items ∷ p) is is is' s.1 s'.1 s.1 (λ y j ms o. o) h.1 (behind lives_on p items _ _ (rows_items (items ∷ p) is) (rows_items (items ∷ p) is') refl (items_within (items ∷ p) is s.1) g)
    is_freed p (Live.listed z is) (Live.unlisted z' k' ls') s s' h g =
        items_gone lives_on p items otherwise is _ _ (arm_rows (otherwise ∷ p) k' ls') items_otherwise refl s.1 (arm_within (otherwise ∷ p) k' ls' s'.1) g
    is_freed p (Live.unlisted z k ls) (Live.listed z' is') s s' h g =
        arm_gone lives_on p otherwise items k ls _ _ (rows_items (items ∷ p) is') otherwise_items refl s.1 (items_within (items ∷ p) is' s'.1) g
    is_freed p (Live.unlisted z k ls) (Live.unlisted z' k' ls') s s' h g =
        body_freed (otherwise ∷ p) 0 ls ls' s.1 s'.1 h.2 (arm_lives lives_on (otherwise ∷ p) k k' ls ls' s.1 (behind lives_on p otherwise _ _ (arm_rows (otherwise ∷ p) k ls) (arm_rows (otherwise ∷ p) k' ls') refl (arm_within (otherwise ∷ p) k ls s.1) g))
    is_freed p (Live.let_live made rs ls) (Live.let_live made' rs' ls') s s' h g = body_freed (main ∷ p) 0 ls ls' s s' h.2 g
    is_freed p (Live.component_live i made gm args k ls) (Live.component_live i' made' gm' args' k' ls') s s' h g =
        let t = subst (λ (j : Inst). SitsIn j.path 0 ls') h.0 s'.2 in
        let g' = subst (λ (j : Inst). Lives_in lives_on (instance_rows i ++ rows_in i.path 0 ls) (instance_rows j ++ rows_in j.path 0 ls')) h.0 g in
        inst_freed i ls ls' s.2 t g' (body_freed i.path 0 ls ls' s.2 t h.4)
    is_freed p (Live.yield_live n made rs ls) (Live.yield_live n' made' rs' ls') s s' h g =
        body_freed (slot n ∷ p) 0 ls ls' s (subst (λ k. SitsIn (slot k ∷ p) 0 ls') h.0 s') h.3 (subst (λ k. Lives_in lives_on (rows_in (slot n ∷ p) 0 ls) (rows_in (slot k ∷ p) 0 ls')) h.0 g)
    is_freed p (Live.deep_live q) (Live.deep_live q') s s' h g = refl
    is_freed p _ _ s s' h g = absurd h

    pub body_freed : (p : Path) (i : ℕ) (ls ls' : Lives) → SitsIn p i ls → SitsIn p i ls' → KeepIn next ls ls' → Lives_in lives_on (rows_in p i ls) (rows_in p i ls') → freed_in ls ls' ≡ gone_in lives_on ls
    body_freed p i Live.no_lives Live.no_lives s s' h g = refl
    body_freed p i (Live.live_and l ls) (Live.live_and l' ls') s s' h g =
        ap₂ (λ a b. a ++ b)
        (is_freed (at i ∷ p) l l' s.0 s'.0 h.0 (left_live lives_on (rows (at i ∷ p) l) (rows_in p (suc i) ls) (rows (at i ∷ p) l') (rows_in p (suc i) ls') g
        (λ x y m n e. let w = rows_from p (suc i) ls' s'.1 y n in apart (at i) (at w.0) p x y (λ f. let a : i ≡ w.0 = ap step_number f in let b = w.1 in omega (arith, a, b)) (rows_within (at i ∷ p) l s.0 x m) w.2 e)))
        (body_freed p (suc i) ls ls' s.1 s'.1 h.1 (right_live lives_on (rows (at i ∷ p) l) (rows_in p (suc i) ls) (rows (at i ∷ p) l') (rows_in p (suc i) ls') g
        (λ x y m n e. let w = rows_from p (suc i) ls s.1 x m in apart (at w.0) (at i) p x y (λ f. let a : w.0 ≡ i = ap step_number f in let b = w.1 in omega (arith, a, b)) w.2 (rows_within (at i ∷ p) l' s'.0 y n) e)))
    body_freed p i _ _ s s' h g = absurd h

    items_freed : (p : Path) (is0 is is' : Items) → SitsItems p is0 → SitsItems p is' → SitsItems p is → ((y : ItemSpot) (j : Option ℕ) (ms : Lives) → OneOf y j ms is → OneOf y j ms is0) → EachItem (KeptBy next is0) is'
        → Lives_in lives_on (rows_items p is) (rows_items p is') → freed_items is is' ≡ gone_items lives_on is
    items_freed p is0 Live.no_items is' s0 s' s o h g = refl
    items_freed p is0 (Live.item_live y j ms is) is' s0 s' s o h g =
        ap₂ (λ a b. a ++ b)
        (item_freed p is0 y j ms s0 (o y j ms (inl (refl, refl, refl))) s.1 (λ ls t k w. body_freed (item_step y ∷ p) 0 ms ls s.1 t k w) is' s' h (fewer_live lives_on (item_rows p y j ms) (rows_items p is) (rows_items p is') g))
        (items_freed p is0 is is' s0 s' s.2 (λ z k ls m. o z k ls (inr m)) h (later_live lives_on (item_rows p y j ms) (rows_items p is) (rows_items p is') g))
