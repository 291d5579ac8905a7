-- What an update touches: the value or the index of an item that stands in the old tree and in the new one, where it isn't the same.
use Rattle.std.proofs.Common.{◌≡◌, ◌<◌, ◌≤◌, ◌+◌, ℕ, List, [], ◌∷◌, ◌++◌, Bool, true, false, true≢false, Option, Some, None, refl, sym, ap, ap₂, ◌∙◌, subst, arith, inl, inr, ◌⊎◌}
use Rattle.std.specs.Prelude.{if◌then◌else◌, ◌||◌}
use Rattle.gl_base.specs.Texts.{Text}
use Rattle.gl_value.specs.Value.{same, text_of}
use Rattle.gl_meaning.specs.Path.{Path, V, path_eq}
use Rattle.gl_meaning.specs.Scope.{Source, cell, item_value, item_index}
use Rattle.gl_meaning.specs.Eval.{values_in}
use Rattle.gl_meaning.specs.Parts.{attribute_value}
use Rattle.gl_meaning.specs.Known.{Among}
use Rattle.gl_meaning.proofs.Equal.{both_left, both_right, same_means, no_owners-Decides, text_means}
use Rattle.gl_meaning.proofs.Pieces.{among_left, among_right}
use Rattle.gl_plain.specs.Ids.{a_ref, Id, id_eq, ref, node, modifier_id, hit}
use Rattle.gl_plain.specs.State.{any_of, Form, constant_form, source_form, row, content, modifier_row, Thing, State, put_thing, dropped, touch, source_eq, held_value, text_content, note_updated}
use Rattle.gl_plain.specs.Binding.{first_value}
use Rattle.gl_plain.specs.Live.{AttrSpot, ModSpot, ItemSpot}
use Rattle.gl_plain.specs.Renew.{spot_pairs, is_stale, evaluate, reread, changed_attr, refreshed, renew_text, renew_attrs, renew_mods, give}
use Rattle.gl_plain.proofs.Moves.{id_itself, hit_self}
use Rattle.gl_plain.proofs.Syncs.{path-Decides}
use Rattle.gl_plain.proofs.Counts.{Leaves}
use Rattle.gl_plain.proofs.CountRenews.{Later, Own}
use Rattle.gl_turns.specs.Places.{Place, item_place}

-- the row of a source that holds a value
abbrev pub source_row : Source → V → Option Thing
source_row x v = Some (row (record { form = source_form x v; last = any_of [] }))

abbrev form_is_source : Form → Bool
form_is_source (source_form x v) = true
form_is_source _ = false

abbrev is_source : Option Thing → Bool
is_source (Some (row x)) = form_is_source x.form
is_source _ = false

no_source : (t : Option Thing) → is_source t ≡ false → (x : Source) (v : V) → t ≡ source_row x v → ⊥
no_source t e x v f = true≢false (sym (ap is_source f) ∙ e)

source_equal : (y x : Source) → source_eq y x ≡ true → y ≡ x
source_equal (cell p a) (cell q b) e = ap₂ cell ((path-Decides p q).0 (both_left _ _ e)) (text_means a b (both_right (path_eq p q) _ e))
source_equal (item_value p) (item_value q) e = ap item_value ((path-Decides p q).0 e)
source_equal (item_index p) (item_index q) e = ap item_index ((path-Decides p q).0 e)
source_equal _ _ e = absurd (true≢false (sym e))

-- A step that touches nothing, and gives no source a value.
pub record Quiet (st st' : State) : Type 0 where
  pub more : st.next a_ref ≤ st'.next a_ref
  pub same_touched : (x : Source) → st'.touched x ≡ st.touched x
  pub back : (r : ℕ) (x : Source) (v : V) → r < st.next a_ref → st'.look (ref r) ≡ source_row x v → st.look (ref r) ≡ source_row x v

pub quiet_all : (st : State) → Quiet st st
quiet_all st = record { more = omega arith; same_touched = λ x. refl; back = λ r x v lt e. e }

pub quiet_then : (st st1 st2 : State) → Quiet st st1 → Quiet st1 st2 → Quiet st st2
quiet_then st st1 st2 h g = record {
  more = let i = h.more in let j = g.more in omega (arith, i, j);
  same_touched = λ x. g.same_touched x ∙ h.same_touched x;
  back = λ r x v lt e. h.back r x v lt (g.back r x v (let i = h.more in omega (arith, i, lt)) e);
}

pub quiet_leaves : (st st' : State) → Leaves st st' → Quiet st st'
quiet_leaves st st' h = record { more = h.more; same_touched = h.touches; back = λ r x v lt e. sym (h.rows r lt) ∙ e }

pub quiet_drop : (count : Id → ℕ) (st : State) → Quiet st (dropped count st)
quiet_drop count st = record {
  more = omega arith;
  same_touched = λ x. refl;
  back = λ r x v lt e. by (st.look (ref r)) (Rattle.std.specs.Prelude.nat_eq (count (ref r)) 0) x v e;
} where
  by : (t : Option Thing) (b : Bool) (x : Source) (v : V) → (if b then t else None) ≡ source_row x v → t ≡ source_row x v
  by t true x v e = e
  by t false x v e = absurd (no_source None refl x v e)

-- another thing for a reference, which is no source
quiet_one : (st x : State) (z : ℕ) (a : Option Thing) → is_source a ≡ false → x.next a_ref ≡ st.next a_ref → ((y : Source) → x.touched y ≡ st.touched y)
    → ((r : ℕ) → x.look (ref r) ≡ (if id_eq (ref r) (ref z) then a else st.look (ref r))) → (b : Bool) → Quiet st (if b then x else st)
quiet_one st x z a n e f l false = quiet_all st
quiet_one st x z a n e f l true = record { more = omega (arith, e); same_touched = f; back = λ r y v lt g. by r y v (id_eq (ref r) (ref z)) (sym (l r) ∙ g) } where
  by : (r : ℕ) (y : Source) (v : V) (b : Bool) → (if b then a else st.look (ref r)) ≡ source_row y v → st.look (ref r) ≡ source_row y v
  by r y v true g = absurd (no_source a n y v g)
  by r y v false g = g

pub quiet_reread : (r : ℕ) (st : State) → Quiet st (reread r st)
quiet_reread r st = quiet_one st (evaluate r st) r _ refl refl (λ y. refl) (λ i. refl) (is_stale st r)

pub quiet_text : (n r : ℕ) (st : State) → Quiet st (renew_text n r st)
quiet_text n r st = quiet_one st (put_thing (node n) (content (text_content (text_of (first_value (spot_pairs st r))))) (evaluate r st)) r _ refl refl (λ y. refl) (λ i. refl) (is_stale st r)

pub quiet_attrs : (n : ℕ) (xs : List AttrSpot) (st : State) → Quiet st (renew_attrs n xs st)
quiet_attrs n [] st = quiet_all st
quiet_attrs n (a ∷ xs) st =
    let x = put_thing (node n) (content (changed_attr a.name (attribute_value (spot_pairs st a.spot.ref)) (st.look (node n)))) (evaluate a.spot.ref st) in
    let st1 : State = if is_stale st a.spot.ref then x else st in
    quiet_then st st1 (renew_attrs n xs st1) (quiet_one st x a.spot.ref _ refl refl (λ y. refl) (λ i. refl) (is_stale st a.spot.ref)) (quiet_attrs n xs st1)

pub quiet_mods : (zs : List ModSpot) (st : State) → Quiet st (renew_mods zs st)
quiet_mods [] st = quiet_all st
quiet_mods (z ∷ zs) st =
    let x = note_updated z.id (put_thing (modifier_id z.id) (modifier_row (refreshed z (values_in (spot_pairs st z.spot.ref)) (st.look (modifier_id z.id)))) (evaluate z.spot.ref st)) in
    let st1 : State = if is_stale st z.spot.ref then x else st in
    quiet_then st st1 (renew_mods zs st1) (quiet_one st x z.spot.ref _ refl refl (λ y. refl) (λ i. refl) (is_stale st z.spot.ref)) (quiet_mods zs st1)

module _ (st0 : State) where
  -- The item at a place of the old tree stands at the same place of the new one, the source is that of its value or its index, and what is
  -- held there isn't the same as at the beginning.
  pub record Changed (st : State) (count : Id → ℕ) (os ns : List Place) (x : Source) : Type 0 where
    pub path : Path
    pub spot : ItemSpot
    pub before : Among (item_place path spot) os
    pub after : Among (item_place path spot) ns
    pub num : ℕ
    pub is : ((x ≡ item_value path) × (num ≡ spot.value)) ⊎ ((x ≡ item_index path) × (num ≡ spot.index))
    pub own : 0 < count (ref num)
    pub held : V
    pub row : st.look (ref num) ≡ source_row x held
    pub differs : same path_eq (held_value (st0.look (ref num))) held ≡ false

  pub record Touches (st st' : State) (count : Id → ℕ) (os ns : List Place) : Type 0 where
    pub cells : (i : Path) (x : Text) → st'.touched (cell i x) ≡ st.touched (cell i x)
    pub more : st.next a_ref ≤ st'.next a_ref
    pub still : (x : Source) → st.touched x ≡ true → st'.touched x ≡ true
    pub back : (r : ℕ) (x : Source) (v : V) → r < st.next a_ref → st'.look (ref r) ≡ source_row x v → (st.look (ref r) ≡ source_row x v) ⊎ (st'.touched x ≡ true)
    pub given : (x : Source) → st'.touched x ≡ true → (st.touched x ≡ true) ⊎ Changed st' count os ns x

  pub touch_quiet : (st st' : State) (count : Id → ℕ) (os ns : List Place) → Quiet st st' → Touches st st' count os ns
  touch_quiet st st' count os ns h = record {
    cells = λ i x. h.same_touched (cell i x);
    more = h.more;
    still = λ x e. h.same_touched x ∙ e;
    back = λ r x v lt e. inl (h.back r x v lt e);
    given = λ x e. inl (sym (h.same_touched x) ∙ e);
  }

  -- more around it
  pub wide : (st st' : State) (a b : Id → ℕ) (os os' ns ns' : List Place) → ((r : ℕ) → a (ref r) ≤ b (ref r)) → ((z : Place) → Among z os → Among z os') → ((z : Place) → Among z ns → Among z ns')
      → Touches st st' a os ns → Touches st st' b os' ns'
  wide st st' a b os os' ns ns' le io in' h = record { cells = h.cells; more = h.more; still = h.still; back = h.back; given = λ x e. by x (h.given x e) } where
    by : (x : Source) → ((st.touched x ≡ true) ⊎ Changed st' a os ns x) → ((st.touched x ≡ true) ⊎ Changed st' b os' ns' x)
    by x (inl e) = inl e
    by x (inr c) = inr (record {
      path = c.path;
      spot = c.spot;
      before = io (item_place c.path c.spot) c.before;
      after = in' (item_place c.path c.spot) c.after;
      num = c.num;
      is = c.is;
      own = let i = le c.num in let j = c.own in omega (arith, i, j);
      held = c.held;
      row = c.row;
      differs = c.differs;
    })

  -- something quiet before it
  pub quiet_before : (st st1 st2 : State) (count : Id → ℕ) (os ns : List Place) → Quiet st st1 → Touches st1 st2 count os ns → Touches st st2 count os ns
  quiet_before st st1 st2 count os ns q h = record {
    cells = λ i x. h.cells i x ∙ q.same_touched (cell i x);
    more = let i = q.more in let j = h.more in omega (arith, i, j);
    still = λ x e. h.still x (q.same_touched x ∙ e);
    back = λ r x v lt e. by r x v lt (h.back r x v (let i = q.more in omega (arith, i, lt)) e);
    given = λ x e. by' x (h.given x e);
  } where
    by : (r : ℕ) (x : Source) (v : V) → r < st.next a_ref → ((st1.look (ref r) ≡ source_row x v) ⊎ (st2.touched x ≡ true)) → (st.look (ref r) ≡ source_row x v) ⊎ (st2.touched x ≡ true)
    by r x v lt (inl e) = inl (q.back r x v lt e)
    by r x v lt (inr e) = inr e

    by' : (x : Source) → ((st1.touched x ≡ true) ⊎ Changed st2 count os ns x) → ((st.touched x ≡ true) ⊎ Changed st2 count os ns x)
    by' x (inl e) = inl (sym (q.same_touched x) ∙ e)
    by' x (inr c) = inr c

  abbrev pub Lt : State → Type 0
  Lt st = Later st0 st0.touched ⊥ st

  abbrev pub Ow : State → (Id → ℕ) → Type 0
  Ow st count = Own st0 st0.touched ⊥ st count

  -- what a step over a part leaves to the references of before, and to the others
  abbrev pub Frames : State → State → (Id → ℕ) → Type 0
  Frames st st' count = (r : ℕ) → r < st0.next a_ref → count (ref r) ≡ 0 → st'.look (ref r) ≡ st.look (ref r)

  pub own_after : (st st1 : State) (a b : Id → ℕ) → Ow st (λ q. a q + b q) → Frames st st1 a → Ow st1 b
  own_after st st1 a b o f = record {
    once = λ r. let i = o.once r in omega (arith, i);
    low = λ r w. o.low r (omega (arith, w));
    rows = λ r w. f r (o.low r (omega (arith, w))) (let i = o.once r in omega (arith, i, w)) ∙ o.rows r (omega (arith, w));
  }

  pub own_of : (st : State) (count part : Id → ℕ) → ((r : ℕ) → part (ref r) ≤ count (ref r)) → Ow st count → Ow st part
  own_of st count part le o = record {
    once = λ r. let h = o.once r in let j = le r in omega (arith, h, j);
    low = λ r w. o.low r (let j = le r in omega (arith, w, j));
    rows = λ r w. o.rows r (let j = le r in omega (arith, w, j));
  }

  -- one part after another
  pub both_touch : (st st1 st2 : State) (a b : Id → ℕ) (os ns : List Place) → Ow st (λ q. a q + b q) → Frames st1 st2 b → Touches st st1 a os ns → Touches st1 st2 b os ns → Touches st st2 (λ q. a q + b q) os ns
  both_touch st st1 st2 a b os ns o f h g = record {
    cells = λ i x. g.cells i x ∙ h.cells i x;
    more = let i = h.more in let j = g.more in omega (arith, i, j);
    still = λ x e. g.still x (h.still x e);
    back = λ r x v lt e. by r x v lt (g.back r x v (let i = h.more in omega (arith, i, lt)) e);
    given = λ x e. by' x (g.given x e);
  } where
    by2 : (r : ℕ) (x : Source) (v : V) → ((st.look (ref r) ≡ source_row x v) ⊎ (st1.touched x ≡ true)) → (st.look (ref r) ≡ source_row x v) ⊎ (st2.touched x ≡ true)
    by2 r x v (inl e) = inl e
    by2 r x v (inr e) = inr (g.still x e)

    by : (r : ℕ) (x : Source) (v : V) → r < st.next a_ref → ((st1.look (ref r) ≡ source_row x v) ⊎ (st2.touched x ≡ true)) → (st.look (ref r) ≡ source_row x v) ⊎ (st2.touched x ≡ true)
    by r x v lt (inl e) = by2 r x v (h.back r x v lt e)
    by r x v lt (inr e) = inr e

    moved : (x : Source) → ((st.touched x ≡ true) ⊎ Changed st1 a os ns x) → ((st.touched x ≡ true) ⊎ Changed st2 (λ q. a q + b q) os ns x)
    moved x (inl e) = inl e
    moved x (inr c) = inr (record {
      path = c.path;
      spot = c.spot;
      before = c.before;
      after = c.after;
      num = c.num;
      is = c.is;
      own = let j = c.own in omega (arith, j);
      held = c.held;
      row = let j = c.own in f c.num (o.low c.num (omega (arith, j))) (let i = o.once c.num in omega (arith, i, j)) ∙ c.row;
      differs = c.differs;
    })

    by' : (x : Source) → ((st1.touched x ≡ true) ⊎ Changed st2 b os ns x) → ((st.touched x ≡ true) ⊎ Changed st2 (λ q. a q + b q) os ns x)
    by' x (inl e) = moved x (h.given x e)
    by' x (inr c) = inr (record {
      path = c.path;
      spot = c.spot;
      before = c.before;
      after = c.after;
      num = c.num;
      is = c.is;
      own = let j = c.own in omega (arith, j);
      held = c.held;
      row = c.row;
      differs = c.differs;
    })

  pub join_touch : (st st1 st2 : State) (a b : Id → ℕ) (os os' ns ns' : List Place) → Ow st (λ q. a q + b q) → Frames st1 st2 b → Touches st st1 a os ns → Touches st1 st2 b os' ns'
      → Touches st st2 (λ q. a q + b q) (os ++ os') (ns ++ ns')
  join_touch st st1 st2 a b os os' ns ns' o f h g =
      both_touch st st1 st2 a b (os ++ os') (ns ++ ns') o f
      (wide st st1 a a os (os ++ os') ns (ns ++ ns') (λ r. omega arith) (λ z m. among_left z os os' m) (λ z m. among_left z ns ns' m) h)
      (wide st1 st2 b b os' (os ++ os') ns' (ns ++ ns') (λ r. omega arith) (λ z m. among_right z os os' m) (λ z m. among_right z ns ns' m) g)

  -- Giving

  pub give_touches : (st : State) (r : ℕ) (x : Source) (v : V) (os ns : List Place) (path : Path) (spot : ItemSpot) → Among (item_place path spot) os → Among (item_place path spot) ns
      → ((x ≡ item_value path) × (r ≡ spot.value)) ⊎ ((x ≡ item_index path) × (r ≡ spot.index)) → st.look (ref r) ≡ st0.look (ref r)
      → ((i : Path) (n : Text) → source_eq (cell i n) x ≡ false) → Touches st (give r x v st) (λ q. hit q (ref r)) os ns
  give_touches st r x v os ns path spot bf af is old no_cell = by (same path_eq (held_value (st.look (ref r))) v) refl where
    by : (b : Bool) → same path_eq (held_value (st.look (ref r))) v ≡ b → Touches st (if b then st else touch r x v st) (λ q. hit q (ref r)) os ns
    by true e = touch_quiet st st (λ q. hit q (ref r)) os ns (quiet_all st)
    by false e = record {
      cells = λ i n. ap (λ b. b || st.touched (cell i n)) (no_cell i n);
      more = omega arith;
      still = λ y f. or_true (source_eq y x) (st.touched y) f;
      back = λ i y u lt f. row_back i y u (id_eq (ref i) (ref r)) f;
      given = λ y f. touched_now y (source_eq y x) refl f;
    } where
      or_true : (a b : Bool) → b ≡ true → (a || b) ≡ true
      or_true true b f = refl
      or_true false b f = f

      out : Option Thing → Form
      out (Some (row z)) = z.form
      out _ = constant_form v

      of_form : Form → Source
      of_form (source_form y u) = y
      of_form _ = x

      self : source_eq x x ≡ true
      self = by_self x where
        by_self : (x : Source) → source_eq x x ≡ true
        by_self (cell p a) = Rattle.gl_meaning.proofs.Equal.both_true _ _ ((path-Decides p p).1 refl) (Rattle.gl_meaning.proofs.Equal.text_itself a)
        by_self (item_value p) = (path-Decides p p).1 refl
        by_self (item_index p) = (path-Decides p p).1 refl

      row_back : (i : ℕ) (y : Source) (u : V) (b : Bool) → (if b then source_row x v else st.look (ref i)) ≡ source_row y u → (st.look (ref i) ≡ source_row y u) ⊎ ((source_eq y x || st.touched y) ≡ true)
      row_back i y u false f = inl f
      row_back i y u true f = let g : x ≡ y = ap (λ t. of_form (out t)) f in inr (subst (λ z. (source_eq z x || st.touched z) ≡ true) g (ap (λ b. b || st.touched x) self))

      touched_now : (y : Source) (b : Bool) → source_eq y x ≡ b → (b || st.touched y) ≡ true → (st.touched y ≡ true) ⊎ Changed (touch r x v st) (λ q. hit q (ref r)) os ns y
      touched_now y false g f = inl f
      touched_now y true g f = inr (subst (Changed (touch r x v st) (λ q. hit q (ref r)) os ns) (sym (source_equal y x g)) (record {
        path = path;
        spot = spot;
        before = bf;
        after = af;
        num = r;
        is = is;
        own = hit_self (ref r);
        held = v;
        row = ap (λ b. if b then source_row x v else st.look (ref r)) (id_itself (ref r));
        differs = subst (λ t. same path_eq (held_value t) v ≡ false) old e;
      }))
