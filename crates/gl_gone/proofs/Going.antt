-- What goes is what doesn't live on, of all that would go; and what stands in a rendering is what would go.
use Rattle.std.proofs.Common.{◌≡◌, ℕ, suc, List, [], ◌∷◌, ◌++◌, Bool, true, false, cond, Option, Some, None, refl, sym, ap, ap₂, ◌∙◌, subst, inl, inr, ◌⊎◌}
use Rattle.std.specs.Prelude.{map, filter, not, ◌||◌}
use Rattle.std.proofs.lemmas.List.Elements.{filter-append}
use Rattle.gl_meaning.specs.Known.{Among}
use Rattle.gl_meaning.specs.Path.{at, main, otherwise, items, item, slot, modifier_at, Path}
use Rattle.gl_meaning.proofs.Pieces.{among_left, among_right}
use Rattle.gl_plain.specs.Ids.{Id, id_eq, ref, node, instance_id, modifier_id}
use Rattle.gl_plain.specs.State.{Inst}
use Rattle.gl_plain.specs.Live
use Rattle.gl_plain.specs.Live.{Live, Lives, Items, AttrSpot, ModSpot}
use Rattle.gl_machine.specs.Rows.{Role, a_node, a_position, an_instance, a_modifier, a_value, an_index, Row, row_of, comment_rows, attr_rows, mod_spot_rows, mod_rows, tag_rows, instance_rows, rows, rows_items, rows_in, row_ids}
use Rattle.gl_machine.specs.Gone.{Gone, gone_modifier, gone_instance, has_id, gone_mods, gone_inst, gone, gone_items, gone_in, none_lives}
use Rattle.gl_gone.specs.Logs.{gone_id, role_of, stays_in, TellsWhatStays}

module _ (lives : Id → Bool) where
  abbrev pub goes : Gone → Bool
  goes g = not (lives (gone_id g))

  join_goes : (xs ys us vs : List Gone) → xs ≡ filter goes us → ys ≡ filter goes vs → xs ++ ys ≡ filter goes (us ++ vs)
  join_goes xs ys us vs e f = ap₂ (λ a b. a ++ b) e f ∙ sym (filter-append goes us vs)

  one_goes : (b : Bool) (g : Gone) (xs ys : List Gone) → xs ≡ ys → cond b [] (g ∷ []) ++ xs ≡ cond (not b) (g ∷ ys) ys
  one_goes true g xs ys e = e
  one_goes false g xs ys e = ap (λ zs. g ∷ zs) e

  mods_go : (zs : List ModSpot) → gone_mods lives zs ≡ filter goes (gone_mods none_lives zs)
  mods_go [] = refl
  mods_go (z ∷ zs) = one_goes (lives (modifier_id z.id)) (gone_modifier z.id) (gone_mods lives zs) (filter goes (gone_mods none_lives zs)) (mods_go zs)

  inst_goes : (i : Inst) → gone_inst lives i ≡ filter goes (gone_inst none_lives i)
  inst_goes i = by (lives (instance_id i.id)) where
    by : (b : Bool) → cond b [] (gone_instance i ∷ []) ≡ cond (not b) (gone_instance i ∷ []) []
    by true = refl
    by false = refl

  mutual
    pub goes_of : (l : Live) → gone lives l ≡ filter goes (gone none_lives l)
    goes_of (Live.still n) = refl
    goes_of (Live.put_live n z) = refl
    goes_of (Live.element_live n made xs zs ls) = join_goes (gone_in lives ls) (gone_mods lives zs) (gone_in none_lives ls) (gone_mods none_lives zs) (goes_in ls) (mods_go zs)
    goes_of (Live.branch_live z u k ls) = goes_in ls
    goes_of (Live.listed z is) = goes_items is
    goes_of (Live.unlisted z k ls) = goes_in ls
    goes_of (Live.let_live made rs ls) = goes_in ls
    goes_of (Live.component_live i made gm args k ls) = join_goes (gone_in lives ls) (gone_inst lives i) (gone_in none_lives ls) (gone_inst none_lives i) (goes_in ls) (inst_goes i)
    goes_of (Live.yield_live n made rs ls) = goes_in ls
    goes_of (Live.deep_live p) = refl

    goes_items : (is : Items) → gone_items lives is ≡ filter goes (gone_items none_lives is)
    goes_items Live.no_items = refl
    goes_items (Live.item_live z k ls is) = join_goes (gone_in lives ls) (gone_items lives is) (gone_in none_lives ls) (gone_items none_lives is) (goes_in ls) (goes_items is)

    goes_in : (ls : Lives) → gone_in lives ls ≡ filter goes (gone_in none_lives ls)
    goes_in Live.no_lives = refl
    goes_in (Live.live_and l ls) = join_goes (gone lives l) (gone_in lives ls) (gone none_lives l) (gone_in none_lives ls) (goes_of l) (goes_in ls)

-- Rows

or_skip : (a b : Bool) → a ≡ false → (a || b) ≡ b
or_skip a b e = ap (λ c. c || b) e

or_last : (a b : Bool) → b ≡ false → (a || b) ≡ a
or_last true b e = refl
or_last false b e = e

or_swap : (a b : Bool) → (a || b) ≡ (b || a)
or_swap true true = refl
or_swap true false = refl
or_swap false true = refl
or_swap false false = refl

-- of an id that is that of no node and no reference
module _ (q : Id) (off_node : (n : ℕ) → id_eq q (node n) ≡ false) (off_ref : (n : ℕ) → id_eq q (ref n) ≡ false) where
  abbrev Has : List Row → Bool
  Has xs = has_id q (row_ids xs)

  abbrev Told : List Gone → Bool
  Told gs = has_id q (map gone_id gs)

  has_join : {A : Type 0} (f : A → Id) (xs ys : List A) → has_id q (map f (xs ++ ys)) ≡ (has_id q (map f xs) || has_id q (map f ys))
  has_join f [] ys = refl
  has_join f (x ∷ xs) ys = ap (λ b. id_eq q (f x) || b) (has_join f xs ys) ∙ assoc (id_eq q (f x)) (has_id q (map f xs)) (has_id q (map f ys)) where
    assoc : (a b c : Bool) → (a || (b || c)) ≡ ((a || b) || c)
    assoc true b c = refl
    assoc false b c = refl

  -- lists beside each other, in either order
  has_both : (xs ys : List Row) (gs hs : List Gone) → Has xs ≡ Told gs → Has ys ≡ Told hs → Has (xs ++ ys) ≡ Told (gs ++ hs)
  has_both xs ys gs hs e f = has_join (λ (x : Row). x.id) xs ys ∙ (ap₂ (λ a b. a || b) e f ∙ sym (has_join gone_id gs hs))

  has_turned : (xs ys : List Row) (gs hs : List Gone) → Has xs ≡ Told gs → Has ys ≡ Told hs → Has (xs ++ ys) ≡ Told (hs ++ gs)
  has_turned xs ys gs hs e f = has_join (λ (x : Row). x.id) xs ys ∙ (ap₂ (λ a b. a || b) e f ∙ (or_swap (Told gs) (Told hs) ∙ sym (has_join gone_id hs gs)))

  -- behind rows that have it not, and before such rows
  has_behind : (xs ys : List Row) (b : Bool) → Has xs ≡ false → Has ys ≡ b → Has (xs ++ ys) ≡ b
  has_behind xs ys b e f = has_join (λ (x : Row). x.id) xs ys ∙ (or_skip (Has xs) (Has ys) e ∙ f)

  has_before : (xs ys : List Row) (b : Bool) → Has xs ≡ b → Has ys ≡ false → Has (xs ++ ys) ≡ b
  has_before xs ys b e f = has_join (λ (x : Row). x.id) xs ys ∙ (or_last (Has xs) (Has ys) f ∙ e)

  has_comment : (p : Path) (k : Option ℕ) → Has (comment_rows p k) ≡ false
  has_comment p None = refl
  has_comment p (Some n) = or_skip (id_eq q (node n)) false (off_node n)

  has_attrs : (p : Path) (xs : List AttrSpot) → Has (attr_rows p xs) ≡ false
  has_attrs p [] = refl
  has_attrs p (a ∷ xs) = or_skip (id_eq q (ref a.spot.ref)) (Has (attr_rows p xs)) (off_ref a.spot.ref) ∙ has_attrs p xs

  has_spots : (p : Path) (i : ℕ) (zs : List ModSpot) → Has (mod_spot_rows p i zs) ≡ false
  has_spots p i [] = refl
  has_spots p i (z ∷ zs) = or_skip (id_eq q (ref z.spot.ref)) (Has (mod_spot_rows p (suc i) zs)) (off_ref z.spot.ref) ∙ has_spots p (suc i) zs

  has_mods : (p : Path) (i : ℕ) (zs : List ModSpot) → Has (mod_rows p i zs) ≡ Told (gone_mods none_lives zs)
  has_mods p i [] = refl
  has_mods p i (z ∷ zs) = ap (λ b. id_eq q (modifier_id z.id) || b) (has_mods p (suc i) zs)

  has_tag : (p : Path) (n : ℕ) (xs : List AttrSpot) (zs : List ModSpot) → Has (tag_rows p n xs zs) ≡ Told (gone_mods none_lives zs)
  has_tag p n xs zs =
      has_behind (attr_rows p xs) _ _ (has_attrs p xs)
      (has_behind (mod_spot_rows p 0 zs) _ _ (has_spots p 0 zs)
      (has_before (mod_rows p 0 zs) _ _ (has_mods p 0 zs) (or_skip (id_eq q (node n)) false (off_node n))))

  -- behind the row of a position, and before a comment
  has_arm : (r : ℕ) (p : Path) (k : Option ℕ) (xs : List Row) (gs : List Gone) → Has xs ≡ Told gs → (id_eq q (ref r) || Has (xs ++ comment_rows p k)) ≡ Told gs
  has_arm r p k xs gs e = or_skip (id_eq q (ref r)) (Has (xs ++ comment_rows p k)) (off_ref r) ∙ has_before xs (comment_rows p k) (Told gs) e (has_comment p k)

  mutual
    pub has_of : (p : Path) (l : Live) → Has (rows p l) ≡ Told (gone none_lives l)
    has_of p (Live.still n) = or_skip (id_eq q (node n)) false (off_node n)
    has_of p (Live.put_live n z) = or_skip (id_eq q (ref z.ref)) (id_eq q (node n) || false) (off_ref z.ref) ∙ or_skip (id_eq q (node n)) false (off_node n)
    has_of p (Live.element_live n made xs zs ls) = has_turned (tag_rows p n xs zs) (rows_in p 0 ls) (gone_mods none_lives zs) (gone_in none_lives ls) (has_tag p n xs zs) (has_in p 0 ls)
    has_of p (Live.branch_live z true k ls) = has_arm z.ref (main ∷ p) k (rows_in (main ∷ p) 0 ls) (gone_in none_lives ls) (has_in (main ∷ p) 0 ls)
    has_of p (Live.branch_live z false k ls) = has_arm z.ref (otherwise ∷ p) k (rows_in (otherwise ∷ p) 0 ls) (gone_in none_lives ls) (has_in (otherwise ∷ p) 0 ls)
    has_of p (Live.listed z is) = or_skip (id_eq q (ref z.ref)) (Has (rows_items (items ∷ p) is)) (off_ref z.ref) ∙ has_items (items ∷ p) is
    has_of p (Live.unlisted z k ls) = has_arm z.ref (otherwise ∷ p) k (rows_in (otherwise ∷ p) 0 ls) (gone_in none_lives ls) (has_in (otherwise ∷ p) 0 ls)
    has_of p (Live.let_live made rs ls) = has_in (main ∷ p) 0 ls
    has_of p (Live.component_live i made gm args k ls) = has_turned (instance_rows i) (rows_in i.path 0 ls) (gone_inst none_lives i) (gone_in none_lives ls) refl (has_in i.path 0 ls)
    has_of p (Live.yield_live n made rs ls) = has_in (slot n ∷ p) 0 ls
    has_of p (Live.deep_live r) = refl

    has_items : (p : Path) (is : Items) → Has (rows_items p is) ≡ Told (gone_items none_lives is)
    has_items p Live.no_items = refl
    has_items p (Live.item_live z k ls is) =
        let r = item z.key z.occurrence ∷ p in
        or_skip (id_eq q (ref z.value)) _ (off_ref z.value)
        ∙ (or_skip (id_eq q (ref z.index)) _ (off_ref z.index)
        ∙ has_both (rows_in r 0 ls ++ comment_rows r k) (rows_items p is) (gone_in none_lives ls) (gone_items none_lives is) (has_before (rows_in r 0 ls) (comment_rows r k) _ (has_in r 0 ls) (has_comment r k)) (has_items p is))

    has_in : (p : Path) (i : ℕ) (ls : Lives) → Has (rows_in p i ls) ≡ Told (gone_in none_lives ls)
    has_in p i Live.no_lives = refl
    has_in p i (Live.live_and l ls) = has_both (rows (at i ∷ p) l) (rows_in p (suc i) ls) (gone none_lives l) (gone_in none_lives ls) (has_of (at i ∷ p) l) (has_in p (suc i) ls)

-- What may be destroyed stands in a rendering where it would go with it.
pub stays_told : (l : Live) (g : Gone) → stays_in l (gone_id g) ≡ has_id (gone_id g) (map gone_id (gone none_lives l))
stays_told l (gone_modifier k) = has_of (modifier_id k) (λ n. refl) (λ n. refl) [] l
stays_told l (gone_instance i) = has_of (instance_id i.id) (λ n. refl) (λ n. refl) [] l

-- What would go has a row there, with its role.
pub record RowFor (g : Gone) (xs : List Row) : Type 0 where
  pub row : Row
  pub among : Among row xs
  pub role : row.role ≡ role_of g
  pub id : row.id ≡ gone_id g

module _ (g : Gone) where
  left_row : (xs ys : List Row) → RowFor g xs → RowFor g (xs ++ ys)
  left_row xs ys r = record { row = r.row; among = among_left r.row xs ys r.among; role = r.role; id = r.id }

  right_row : (xs ys : List Row) → RowFor g ys → RowFor g (xs ++ ys)
  right_row xs ys r = record { row = r.row; among = among_right r.row xs ys r.among; role = r.role; id = r.id }

  rest_row : (x : Row) (xs : List Row) → RowFor g xs → RowFor g (x ∷ xs)
  rest_row x xs r = record { row = r.row; among = inr r.among; role = r.role; id = r.id }

  -- of one list or of the other
  either_goes : (gs hs : List Gone) (xs : List Row) → (Among g gs → RowFor g xs) → (Among g hs → RowFor g xs) → Among g (gs ++ hs) → RowFor g xs
  either_goes [] hs xs f k m = k m
  either_goes (x ∷ gs) hs xs f k (inl e) = f (inl e)
  either_goes (x ∷ gs) hs xs f k (inr m) = either_goes gs hs xs (λ n. f (inr n)) k m

  mods_row : (p : Path) (i : ℕ) (zs : List ModSpot) → Among g (gone_mods none_lives zs) → RowFor g (mod_rows p i zs)
  mods_row p i [] m = absurd m
  mods_row p i (z ∷ zs) (inl e) = record { row = row_of a_modifier (modifier_at i ∷ p) (modifier_id z.id); among = inl refl; role = sym (ap role_of e); id = sym (ap gone_id e) }
  mods_row p i (z ∷ zs) (inr m) = rest_row (row_of a_modifier (modifier_at i ∷ p) (modifier_id z.id)) (mod_rows p (suc i) zs) (mods_row p (suc i) zs m)

  tag_row : (p : Path) (n : ℕ) (xs : List AttrSpot) (zs : List ModSpot) → Among g (gone_mods none_lives zs) → RowFor g (tag_rows p n xs zs)
  tag_row p n xs zs m =
      right_row (attr_rows p xs) (mod_spot_rows p 0 zs ++ (mod_rows p 0 zs ++ row_of a_node p (node n) ∷ []))
      (right_row (mod_spot_rows p 0 zs) (mod_rows p 0 zs ++ row_of a_node p (node n) ∷ [])
      (left_row (mod_rows p 0 zs) (row_of a_node p (node n) ∷ []) (mods_row p 0 zs m)))

  inst_row : (i : Inst) → Among g (gone_inst none_lives i) → RowFor g (instance_rows i)
  inst_row i (inl e) = record { row = record { role = an_instance; path = i.path; id = instance_id i.id; cells = i.cells }; among = inl refl; role = sym (ap role_of e); id = sym (ap gone_id e) }
  inst_row i (inr m) = absurd m

  arm_row : (r : ℕ) (p q : Path) (k : Option ℕ) (xs : List Row) → RowFor g xs → RowFor g (row_of a_position q (ref r) ∷ (xs ++ comment_rows p k))
  arm_row r p q k xs h = rest_row (row_of a_position q (ref r)) (xs ++ comment_rows p k) (left_row xs (comment_rows p k) h)

  mutual
    pub row_for : (p : Path) (l : Live) → Among g (gone none_lives l) → RowFor g (rows p l)
    row_for p (Live.still n) m = absurd m
    row_for p (Live.put_live n z) m = absurd m
    row_for p (Live.element_live n made xs zs ls) m =
        either_goes (gone_in none_lives ls) (gone_mods none_lives zs) (rows p (Live.element_live n made xs zs ls))
        (λ k. right_row (tag_rows p n xs zs) (rows_in p 0 ls) (row_in p 0 ls k)) (λ k. left_row (tag_rows p n xs zs) (rows_in p 0 ls) (tag_row p n xs zs k)) m
    row_for p (Live.branch_live z true k ls) m = arm_row z.ref (main ∷ p) p k (rows_in (main ∷ p) 0 ls) (row_in (main ∷ p) 0 ls m)
    row_for p (Live.branch_live z false k ls) m = arm_row z.ref (otherwise ∷ p) p k (rows_in (otherwise ∷ p) 0 ls) (row_in (otherwise ∷ p) 0 ls m)
    row_for p (Live.listed z is) m = rest_row (row_of a_position p (ref z.ref)) (rows_items (items ∷ p) is) (row_items (items ∷ p) is m)
    row_for p (Live.unlisted z k ls) m = arm_row z.ref (otherwise ∷ p) p k (rows_in (otherwise ∷ p) 0 ls) (row_in (otherwise ∷ p) 0 ls m)
    row_for p (Live.let_live made rs ls) m = row_in (main ∷ p) 0 ls m
    row_for p (Live.component_live i made gm args k ls) m =
        either_goes (gone_in none_lives ls) (gone_inst none_lives i) (rows p (Live.component_live i made gm args k ls))
        (λ n. right_row (instance_rows i) (rows_in i.path 0 ls) (row_in i.path 0 ls n)) (λ n. left_row (instance_rows i) (rows_in i.path 0 ls) (inst_row i n)) m
    row_for p (Live.yield_live n made rs ls) m = row_in (slot n ∷ p) 0 ls m
    row_for p (Live.deep_live r) m = absurd m

    row_items : (p : Path) (is : Items) → Among g (gone_items none_lives is) → RowFor g (rows_items p is)
    row_items p Live.no_items m = absurd m
    row_items p (Live.item_live z k ls is) m =
        let r = item z.key z.occurrence ∷ p in
        either_goes (gone_in none_lives ls) (gone_items none_lives is) (rows_items p (Live.item_live z k ls is))
        (λ n. rest_row (row_of a_value r (ref z.value)) ((row_of an_index r (ref z.index) ∷ (rows_in r 0 ls ++ comment_rows r k)) ++ rows_items p is)
        (rest_row (row_of an_index r (ref z.index)) ((rows_in r 0 ls ++ comment_rows r k) ++ rows_items p is)
        (left_row (rows_in r 0 ls ++ comment_rows r k) (rows_items p is) (left_row (rows_in r 0 ls) (comment_rows r k) (row_in r 0 ls n)))))
        (λ n. rest_row (row_of a_value r (ref z.value)) ((row_of an_index r (ref z.index) ∷ (rows_in r 0 ls ++ comment_rows r k)) ++ rows_items p is)
        (rest_row (row_of an_index r (ref z.index)) ((rows_in r 0 ls ++ comment_rows r k) ++ rows_items p is)
        (right_row (rows_in r 0 ls ++ comment_rows r k) (rows_items p is) (row_items p is n)))) m

    row_in : (p : Path) (i : ℕ) (ls : Lives) → Among g (gone_in none_lives ls) → RowFor g (rows_in p i ls)
    row_in p i Live.no_lives m = absurd m
    row_in p i (Live.live_and l ls) m =
        either_goes (gone none_lives l) (gone_in none_lives ls) (rows_in p i (Live.live_and l ls))
        (λ n. left_row (rows (at i ∷ p) l) (rows_in p (suc i) ls) (row_for (at i ∷ p) l n)) (λ n. right_row (rows (at i ∷ p) l) (rows_in p (suc i) ls) (row_in p (suc i) ls n)) m

-- So a test that tells what stays tells it of what would go.
pub tells_gone : (lives : Id → Bool) (l l' : Live) → TellsWhatStays lives l l' → (g : Gone) → Among g (gone none_lives l) → lives (gone_id g) ≡ stays_in l' (gone_id g)
tells_gone lives l l' tells g m =
    let r = row_for g [] l m in
    subst (λ q. lives q ≡ stays_in l' q) r.id (tells r.row r.among (by g r.row.role r.role))
  where
    by : (h : Gone) (x : Role) → x ≡ role_of h → (x ≡ a_modifier) ⊎ (x ≡ an_instance)
    by (gone_modifier k) x e = inl e
    by (gone_instance i) x e = inr e
