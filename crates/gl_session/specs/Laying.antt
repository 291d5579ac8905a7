-- What an event's sets do to what is kept.
use Rattle.std.specs.Prelude.{◌≡◌, ℕ, List, [], ◌∷◌}
use Rattle.gl_value.specs.View.{view}
use Rattle.gl_meaning.specs.Path.{V}
use Rattle.gl_plain.specs.State.{State, touch}
use Rattle.gl_vm.specs.Labels.{label, labelled}
use Rattle.gl_code.specs.declared.page.Page.{Page}
use Rattle.gl_actions.specs.Sets as s
use Rattle.gl_actions.specs.World.{World}
use Rattle.gl_actions.specs.Cells.{CellFor}
use Rattle.gl_session.specs.declared.laying.Given.{Given}

-- each set has the cell of its place, with its value
abbrev pub GivensFor : World → Page → List s.Set → List Given → Type 0
GivensFor w page [] [] = Unit {0}
GivensFor w page (x ∷ xs) (g ∷ gs) = CellFor w page x g.cell × (view g.value ≡ x.to) × GivensFor w page xs gs
GivensFor w page [] (g ∷ gs) = ⊥
GivensFor w page (x ∷ xs) [] = ⊥

-- the reference of a cell with the value that it is given
abbrev pub touch_of : Given → ℕ × V
touch_of g = (g.cell.1, labelled (view g.value))

-- each is given its value and is touched, in order
abbrev pub touch_all : List (ℕ × V) → State → State
touch_all [] st = st
touch_all (x ∷ xs) st = touch_all xs (touch x.0 (label x.0) x.1 st)
