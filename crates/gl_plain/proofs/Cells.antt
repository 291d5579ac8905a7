-- The cells of a new instance.
use Rattle.std.proofs.Common.{◌≡◌, ℕ, ◌<◌, Bool, true, false, List, [], ◌∷◌, Option, Some, None, refl, sym, ◌∙◌, ap, subst, arith}
use Rattle.std.specs.Prelude.{if◌then◌else◌, unwrap_or}
use Rattle.std.specs.Str.{bytes_eq}
use Rattle.gl_base.specs.Texts.{Text}
use Rattle.gl_base.specs.Names.{named}
use Rattle.gl_ast.specs.Template.{Plain, Expr}
use Rattle.gl_meaning.specs.App.{App}
use Rattle.gl_meaning.specs.Path.{Path}
use Rattle.gl_meaning.specs.Scope.{cell}
use Rattle.gl_meaning.specs.Eval.{Store, class_at, cell_value, field_member, field_or, getter_or_action}
use Rattle.gl_meaning.proofs.Equal.{text_means}
use Rattle.gl_plain.specs.Ids.{a_ref, Id, ref, occurs}
use Rattle.gl_plain.specs.State.{any_of, source_form, Inst, cell_ref, row, Thing, State, thing_pair, pair_of}
use Rattle.gl_plain.specs.Binding.{BoundNames, made_row}
use Rattle.gl_plain.specs.Grow.{grow_cells}
use Rattle.gl_plain.specs.Stands.{below, CellsAt, CellsStand}
use Rattle.gl_plain.proofs.Moves.{Moves, no_move, make_at, hit_self, before_new}
use Rattle.gl_plain.proofs.Pairs.{pair_law}
use Rattle.gl_plain.proofs.Binding.{both_made, row_moves}
use Rattle.gl_plain.proofs.Stay.{left_above, right_above}

-- a name that is a field's has an initial value
pub field_named : (fs : Option Plain) (g : Option Expr) → field_or fs (getter_or_action g) ≡ field_member → (v : Plain) × (fs ≡ Some v)
field_named (Some v) g e = (v, refl)
field_named None (Some x) e = absurd cc
field_named None None e = absurd cc

module _ (app : App) (τ : Store) (q : Path) where
  pub cells_move : (fs : List (Text × Plain)) (st : State) → let c = grow_cells app τ q fs st in Moves st c.state (λ r. 0) (λ r. occurs r c.made)
  cells_move [] st = no_move st
  cells_move (f ∷ fs) st =
      let st1 = made_row (source_form (cell q f.0) (cell_value app τ q f.0)) st in let c = grow_cells app τ q fs st1 in
      both_made st st1 c.state (ref (st.next a_ref) ∷ []) c.made (row_moves (source_form (cell q f.0) (cell_value app τ q f.0)) st tt) (cells_move fs st1)

  -- the cell of a name
  abbrev pub Found : Text → BoundNames → Type 0
  Found x c =
      (r : ℕ) × (named x c.names ≡ Some r) × (0 < occurs (ref r) c.made)
      × (c.state.look (ref r) ≡ Some (row (record { form = source_form (cell q x) (cell_value app τ q x); last = any_of [] })))

  pub cells_found : (x : Text) (fs : List (Text × Plain)) (v : Plain) (st : State) → named x fs ≡ Some v → Found x (grow_cells app τ q fs st)
  cells_found x [] v st e = absurd cc
  cells_found x (f ∷ fs) v st e = by (bytes_eq x f.0) refl (cells_found x fs v (made_row (source_form (cell q f.0) (cell_value app τ q f.0)) st)) where
    st1 : State
    st1 = made_row (source_form (cell q f.0) (cell_value app τ q f.0)) st

    by : (b : Bool) → bytes_eq x f.0 ≡ b → (named x fs ≡ Some v → Found x (grow_cells app τ q fs (made_row (source_form (cell q f.0) (cell_value app τ q f.0)) st)))
        → Found x (grow_cells app τ q (f ∷ fs) st)
    by true t g =
        let r = st.next a_ref in
        let c = grow_cells app τ q fs (made_row (source_form (cell q f.0) (cell_value app τ q f.0)) st) in
        let self : 0 < occurs (ref r) (ref r ∷ []) = (let k = hit_self (ref r) in omega (arith, k)) in
        let is = make_at a_ref (row (record { form = source_form (cell q f.0) (cell_value app τ q f.0); last = any_of [] })) st in
        let stays = before_new st (made_row (source_form (cell q f.0) (cell_value app τ q f.0)) st) c.state (λ z. occurs z (ref r ∷ [])) (λ z. occurs z c.made)
        (row_moves (source_form (cell q f.0) (cell_value app τ q f.0)) st tt) (cells_move fs (made_row (source_form (cell q f.0) (cell_value app τ q f.0)) st)) (ref r) self in (
          r,
          ap (λ b. if b then Some r else named x c.names) t,
          left_above _ _ (hit_self (ref r)),
          subst (λ z. c.state.look (ref r) ≡ Some (row (record { form = source_form (cell q z) (cell_value app τ q z); last = any_of [] }))) (sym (text_means x f.0 t)) (stays ∙ is),
        )
    by false t g =
        let k = g (sym (ap (λ b. if b then Some f.1 else named x fs) t) ∙ e) in
        (k.0, ap (λ b. if b then Some (st.next a_ref) else named x (grow_cells app τ q fs (made_row (source_form (cell q f.0) (cell_value app τ q f.0)) st)).names) t ∙ k.1, right_above _ _ k.2, k.3)

-- the cells are in references of the instance's own
pub cells_stand : (app : App) (σ τ : Store) (q : Path) (n : ℕ) (st : State) → let c = grow_cells app τ q (class_at app q).fields st in
    CellsStand app σ τ c.state.look (record { id = n; path = q; cells = c.names }) c.made
cells_stand app σ τ q n st x e =
    let c = grow_cells app τ q (class_at app q).fields st in
    let v = field_named (named x (class_at app q).fields) (named x (class_at app q).getters) e in
    let k = cells_found app τ q x (class_at app q).fields v.0 st v.1 in
    let is : k.0 ≡ cell_ref (record { id = n; path = q; cells = c.names }) x = sym (ap (λ o. unwrap_or o 0) k.1) in
    subst (λ r. (0 < occurs (ref r) c.made) × (c.state.look (ref r) ≡ Some (row (record { form = source_form (cell q x) (cell_value app τ q x); last = any_of [] })))) is (k.2, k.3)

-- and mean what the store has
pub cells_at : (app : App) (σ τ : Store) (look : Id → Option Thing) (i : Inst) (made : List Id) → CellsStand app σ τ look i made → CellsAt app τ (pair_of look) i
cells_at app σ τ look i made h x e = pair_law look (cell_ref i x) ∙ ap (thing_pair (below (cell_ref i x) (pair_of look))) (h x e).1
