-- Each position of a tree that stands was evaluated to what the meaning gives for it.
use Rattle.std.proofs.Common.{◌≡◌, ℕ, Bool, true, false, true≢false, List, [], ◌∷◌, map, Option, Some, None, refl, sym, ap, ap₂, ◌∙◌, subst}
use Rattle.std.specs.Prelude.{filter_map, if◌then◌else◌, ◌&&◌, ◌||◌}
use Rattle.std.specs.List.{list_any}
use Rattle.gl_meaning.specs.App.{App}
use Rattle.gl_meaning.specs.Path.{Path, path_eq}
use Rattle.gl_meaning.specs.Scope.{Source, cell, item_value, item_index, Pair, sources_of}
use Rattle.gl_meaning.specs.Actions.{lay}
use Rattle.gl_meaning.specs.Eval.{Store}
use Rattle.gl_meaning.specs.Known.{Among}
use Rattle.gl_meaning.specs.Laws.{NoRepeat, Untouched, KeepsAll}
use Rattle.gl_meaning.specs.Render.{Forest, draw}
use Rattle.gl_meaning.specs.Changes as c
use Rattle.gl_meaning.specs.Changes.{Position, positions, Sets, stale}
use Rattle.gl_meaning.proofs.Once.{positions_once}
use Rattle.gl_meaning.proofs.Touched.{cells_kept, only_stale_changes}
use Rattle.gl_meaning.proofs.Frame.{keeps_list}
use Rattle.gl_meaning.proofs.Equal.{path_itself}
use Rattle.gl_meaning.proofs.Pieces.{listed, any_true, any_false}
use Rattle.gl_plain.specs.Ids.{ref}
use Rattle.gl_plain.specs.State.{Form, constant_form, source_form, property_form, call_form, joined_form, all_form, any_of, Row, row, content, instance_row, block_row, modifier_row, Thing, State, pair_of}
use Rattle.gl_plain.specs.Live.{Live}
use Rattle.gl_plain.specs.Drawn.{drawn_app}
use Rattle.gl_plain.specs.Renew.{spot_ids, spot_pairs, form_ids, last_of, evaluate}
use Rattle.gl_plain.specs.Machine.{StandsFor}
use Rattle.gl_plain.proofs.Moves.{id_itself}
use Rattle.gl_plain.proofs.Roots.{standing_shows}
use Rattle.gl_turns.specs.Evaluated.{is_named}
use Rattle.gl_turns.specs.Places.{position_in, places}
use Rattle.gl_turns.proofs.Agrees.{kept_sum, read_sum}
use Rattle.gl_turns.proofs.Evaluated.{Test, counts}
use Rattle.gl_turns.proofs.Numbered.{tree_agrees}
use Rattle.gl_naming.specs.Renamed.{pair_with, form_with, there_with, state_with}
use Rattle.gl_naming.specs.Named.{Named}
use Rattle.gl_naming.proofs.Pairs.{map_map, sources_to, ids_same}
use Rattle.gl_naming.proofs.Bound.{any_map}
use Rattle.gl_means.specs.Means.{sees, HasRead, MeansStill, Evaluated}
use Rattle.gl_means.specs.Laws.{PositionsKeep, PositionsStill, FreshStands, PositionsStand, Together}
use Rattle.gl_means.proofs.Expressions.{sees_named}
use Rattle.gl_means.proofs.Drawn.{IsPosition, app_drawn}
use Rattle.gl_means.proofs.Still.{app_still}
use Rattle.gl_means.proofs.Sums.{same_position, is_read, is_there, last_is}

-- what each position of the tree is, where each of the rendering is in the tree
pub together : (P : Path × ℕ → Position → Type 0) (zs : List (Path × ℕ)) (qs : List Position) → NoRepeat (map (λ (q : Position). q.path) qs) → ((z : Path × ℕ) (o : Position) → P z o → o.path ≡ z.0)
    → ((o : Position) → Among o qs → (z : Path × ℕ) × Among z zs × (o.path ≡ z.0))
    → ((z : Path × ℕ) → Among z zs → (o : Position) × Among o qs × P z o)
    → ((z : Path × ℕ) → Among z zs → (o : Position) × Among o qs × P z o) × ((o : Position) → Among o qs → (z : Path × ℕ) × Among z zs × P z o)
together P zs qs once path there each = (
  each,
  λ o m. let z = there o m in let y = each z.0 z.1 in
      (z.0, z.1, subst (P z.0) (same_position y.0 o qs once y.1 m (path z.0 y.0 y.2 ∙ sym z.2)) y.2),
)

-- Other names

last_named : (f : Path → Path) (g : Source → Source) (o : Option Thing) (u : Source → Bool) → last_of (there_with f g o) u ≡ last_of o (λ x. u (g x))
last_named f g None u = refl
last_named f g (Some (row x)) u = refl
last_named f g (Some (content x)) u = refl
last_named f g (Some (instance_row i)) u = refl
last_named f g (Some block_row) u = refl
last_named f g (Some (modifier_row x)) u = refl

abbrev form_all : Form → Bool
form_all (all_form rs) = true
form_all _ = false

abbrev is_all : Option Thing → Bool
is_all (Some (row x)) = form_all x.form
is_all _ = false

unnamed : (f : Path → Path) (g : Source → Source) (o : Option Thing) → IsPosition (there_with f g o) → o ≡ Some (row (record { form = all_form (spot_ids o); last = last_of o }))
unnamed f g o h = by o (ap is_all h.is) where
  of_row : (x : Row) (y : Form) → x.form ≡ y → form_all (form_with f g y) ≡ true → x ≡ record { form = all_form (form_ids x.form); last = x.last }
  of_row x (all_form rs) e k = λ i. record { form = (e ∙ ap (λ z. all_form (form_ids z)) (sym e)) i; last = x.last }
  of_row x (constant_form v) e k = absurd (true≢false (sym k))
  of_row x (source_form s v) e k = absurd (true≢false (sym k))
  of_row x (property_form r n) e k = absurd (true≢false (sym k))
  of_row x (call_form n rs ns) e k = absurd (true≢false (sym k))
  of_row x (joined_form rs) e k = absurd (true≢false (sym k))

  by : (t : Option Thing) → is_all (there_with f g t) ≡ true → t ≡ Some (row (record { form = all_form (spot_ids t); last = last_of t }))
  by None k = absurd (true≢false (sym k))
  by (Some (row x)) k = ap (λ (y : Row). Some (row y)) (of_row x x.form refl k)
  by (Some (content x)) k = absurd (true≢false (sym k))
  by (Some (instance_row i)) k = absurd (true≢false (sym k))
  by (Some block_row) k = absurd (true≢false (sym k))
  by (Some (modifier_row x)) k = absurd (true≢false (sym k))

-- what an evaluation of now would read
again_is : (f : Path → Path) (g : Source → Source) (st : State) (r : ℕ) (ps : List Pair) → map (sees f g st.look) (spot_ids (st.look (ref r))) ≡ ps
    → (test : Source → Bool) → last_of ((evaluate r st).look (ref r)) (λ x. test (g x)) ≡ any_of (sources_of ps) test
again_is f g st r ps e test =
    let vs = spot_pairs st r in
    ap (λ b. last_of (if b then Some (row (record { form = all_form (spot_ids (st.look (ref r))); last = any_of (sources_of vs) })) else st.look (ref r)) (λ x. test (g x))) (id_itself (ref r))
    ∙ (sym (any_map g (sources_of vs) test)
    ∙ ap (λ xs. any_of xs test) (sym (sources_to f g vs) ∙ (ap sources_of (map_map (pair_of st.look) (pair_with f g) (spot_ids (st.look (ref r)))) ∙ ap sources_of e)))

module _ (app : App) (σ τ : Store) (st : State) (l : Live) (x : Named app σ τ st l) where
  abbrev pub now : State
  now = state_with x.owner x.source (λ y. false) st

  pub stood : StandsFor app σ τ now l
  stood = x.stands (λ y. false)

  abbrev pub here : List (Path × ℕ)
  here = filter_map position_in (places [] l)

  sums : (test : Test) → kept_sum now.look (counts test) here ≡ read_sum (counts test) (positions (draw app σ))
  sums test = (tree_agrees app σ τ now l stood).0.positions (counts test)

  pub there : (o : Position) → Among o (positions (draw app σ)) → (z : Path × ℕ) × Among z here × (o.path ≡ z.0)
  there = is_there now.look here (positions (draw app σ)) (positions_once app σ) sums

  pub read : (z : Path × ℕ) → Among z here → (o : Position) → Among o (positions (draw app σ)) → o.path ≡ z.0 → (test : Source → Bool) → last_of (st.look (ref z.1)) (λ y. test (x.source y)) ≡ any_of (sources_of o.pairs) test
  read z m o n e test = sym (last_named x.owner x.source (st.look (ref z.1)) test) ∙ last_is now.look here (positions (draw app σ)) (positions_once app σ) sums z m o n e test

  pub kept : Together (HasRead x.source st) l (draw app σ)
  kept =
      together (HasRead x.source st) here (positions (draw app σ)) (positions_once app σ) (λ z o p. p.path) there
      (λ z m. let o = is_read now.look here (positions (draw app σ)) (positions_once app σ) sums z m in (o.0, o.1, record { path = o.2; sources = read z m o.0 o.1 o.2 }))

pub positions_keep : PositionsKeep
positions_keep app σ τ st l x = kept app σ τ st l x

-- what the position's row is
row_is : (app : App) (σ τ : Store) (st : State) (l : Live) (x : Named app σ τ st l) (z : Path × ℕ) → Among z (here app σ τ st l x) → IsPosition ((now app σ τ st l x).look (ref z.1))
row_is app σ τ st l x z m = let w = (app_drawn app σ τ (now app σ τ st l x).look app.limit l (stood app σ τ st l x).stands).each z m in w.2.row

-- what it means, by paths and by numbers
means_them : (app : App) (σ τ : Store) (st : State) (l : Live) (x : Named app σ τ st l) (r : ℕ)
    → map (sees x.owner x.source st.look) (spot_ids (st.look (ref r))) ≡ map (pair_of (now app σ τ st l x).look) (spot_ids ((now app σ τ st l x).look (ref r)))
means_them app σ τ st l x r = ap₂ (λ h rs. map h rs) (sym (sees_named x.owner x.source x.once st.look)) (sym (ids_same x.owner x.source (st.look (ref r))))

pub positions_still : PositionsStill
positions_still app σ τ st l x touched cells =
    let warm = state_with x.owner x.source touched st in
    let h = x.stands touched in
    together (MeansStill x.owner x.source touched st) (here app σ τ st l x) (positions (draw app σ)) (positions_once app σ) (λ z o p. p.path) (there app σ τ st l x)
    (λ z m. let w = (app_still app σ τ warm app.limit l h.owned h.stands cells).each z m in
    let o : Position = record { path = z.0; pairs = w.2.pairs } in (
      o,
      listed c.position_in o w.0 (ap c.position_in w.2.is) (draw app σ) w.1,
      record { path = refl; keeps = subst (KeepsAll (λ y. touched y ≡ false) w.2.pairs) (sym (means_them app σ τ st l x z.1)) w.2.keeps },
    ))

-- a position that isn't stale read nothing that the sets name
and_false : (a b : Bool) → (a && b) ≡ false → b ≡ true → a ≡ false
and_false true b e k = absurd (true≢false (sym k ∙ e))
and_false false b e k = refl

or_left : (a b : Bool) → (a || b) ≡ false → a ≡ false
or_left false b e = refl
or_left true b e = e

or_right : (a b : Bool) → (a || b) ≡ false → b ≡ false
or_right false b e = e
or_right true b e = absurd (true≢false e)

untouched : (old new : Forest) (sets : Sets) (xs : List Source) → list_any (c.touched old new sets) xs ≡ false → Untouched (λ y. is_named sets y ≡ false) xs
untouched old new sets [] e = tt
untouched old new sets (x ∷ xs) e = (by x (or_left (c.touched old new sets x) _ e), untouched old new sets xs (or_right (c.touched old new sets x) _ e)) where
  by : (y : Source) → c.touched old new sets y ≡ false → is_named sets y ≡ false
  by (cell i n) k = k
  by (item_value q) k = refl
  by (item_index q) k = refl

not_stale : (old new : Forest) (sets : Sets) (q o : Position) → Among q (positions old) → Among o (positions new) → q.path ≡ o.path → stale old new sets q.path ≡ false → list_any (c.touched old new sets) (sources_of q.pairs) ≡ false
not_stale old new sets q o m n e k =
    let there = any_true (λ (y : Position). path_eq q.path y.path) o (positions new) n (ap (path_eq q.path) (sym e) ∙ path_itself q.path) in
    let none = and_false (list_any (λ (y : Position). path_eq q.path y.path && c.some_touched old new sets y.pairs) (positions old)) _ k there in
    sym (ap (λ b. b && c.some_touched old new sets q.pairs) (path_itself q.path)) ∙ any_false (λ (y : Position). path_eq q.path y.path && c.some_touched old new sets y.pairs) q (positions old) m none

pub fresh_stands : FreshStands
fresh_stands app σ sets st l x z o m n e fresh =
    let τ = lay sets σ in let old = draw app σ in let new = draw app (lay sets σ) in
    let y = (positions_still app σ τ st l x (is_named sets) (λ i k u. cells_kept app σ sets i k u)).0 z m in
    let cold = ap (stale old new sets) y.2.path ∙ fresh in
    let path : y.0.path ≡ o.path = y.2.path ∙ sym e in
    let same = only_stale_changes app σ sets y.0 o y.1 n path cold in
    let means = sym (keeps_list (λ u. is_named sets u ≡ false) y.2.keeps (untouched old new sets (sources_of y.0.pairs) (not_stale old new sets y.0 o y.1 n path cold))) ∙ same in
    record {
      path = e;
      reads = spot_ids (st.look (ref z.1));
      last = last_of (st.look (ref z.1));
      is = unnamed x.owner x.source (st.look (ref z.1)) (row_is app σ τ st l x z m);
      means = means;
      sources = λ test. read app σ τ st l x z m y.0 y.1 y.2.path test ∙ ap (λ ps. any_of (sources_of ps) test) same;
      again = again_is x.owner x.source st z.1 o.pairs means;
    }

module _ (app : App) (τ : Store) (st : State) (l : Live) (x : Named app τ τ st l) where
  abbrev seen : State
  seen = state_with x.owner x.source (λ y. false) st

  pub drawn_is : drawn_app app seen.look l ≡ draw app τ
  drawn_is = standing_shows app τ seen l (stood app τ τ st l x)

  -- the position that is drawn
  abbrev drawn_at : Path × ℕ → Position
  drawn_at z = record { path = z.0; pairs = map (pair_of seen.look) (spot_ids (seen.look (ref z.1))) }

  is_drawn : (z : Path × ℕ) → Among z (here app τ τ st l x) → Among (drawn_at z) (positions (draw app τ))
  is_drawn z m =
      let w = (app_drawn app τ τ seen.look app.limit l (stood app τ τ st l x).stands).each z m in
      subst (λ d. Among (drawn_at z) (positions d)) drawn_is (listed c.position_in (drawn_at z) w.0 (ap c.position_in w.2.is) (drawn_app app seen.look l) w.1)

  pub evaluated : Together (Evaluated x.owner x.source st) l (draw app τ)
  evaluated =
      together (Evaluated x.owner x.source st) (here app τ τ st l x) (positions (draw app τ)) (positions_once app τ) (λ z o p. p.path) (there app τ τ st l x)
      (λ z m. let d = is_drawn z m in (
        drawn_at z,
        d,
        record {
          path = refl;
          reads = spot_ids (st.look (ref z.1));
          last = last_of (st.look (ref z.1));
          is = unnamed x.owner x.source (st.look (ref z.1)) (row_is app τ τ st l x z m);
          means = means_them app τ τ st l x z.1;
          sources = read app τ τ st l x z m (drawn_at z) d refl;
          again = again_is x.owner x.source st z.1 (drawn_at z).pairs (means_them app τ τ st l x z.1);
        },
      ))

pub positions_stand : PositionsStand
positions_stand app τ st l x = evaluated app τ st l x
