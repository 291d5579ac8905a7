-- The cells that a rendering begins with.
use Rattle.std.specs.Prelude.{ℕ, suc, List, [], ◌∷◌, ◌++◌, map, Option, Some, None, if◌then◌else◌}
use Rattle.gl_base.specs.Texts.{Text}
use Rattle.gl_base.specs.Names.{or_else, at_place}
use Rattle.gl_value.specs.Value.{Value, undefined, plain}
use Rattle.gl_meaning.specs.App.{App}
use Rattle.gl_meaning.specs.Eval.{Store, class_at}
use Rattle.gl_meaning.specs.Order.{names_of}
use Rattle.gl_meaning.specs.Path.{Path, path_eq}
use Rattle.gl_meaning.specs.View.{path_view}
use Rattle.gl_meaning.specs.declared.path.Path.{Path as CodePath}
use Rattle.gl_vm.specs.Labels.{labelled}

-- values by the paths of instances; what was put last stands last
abbrev pub CellList : Type 0
CellList = List (Path × List (Value ℕ))

abbrev pub seen_cells : List (CodePath × List (Value ℕ)) → CellList
seen_cells es = map (λ e. (path_view e.0, e.1)) es

-- what was put last for an instance
abbrev pub cells_at : Path → CellList → Option (List (Value ℕ))
cells_at q [] = None
cells_at q (e ∷ es) = or_else (cells_at q es) (if path_eq q e.0 then Some e.1 else None)

-- The fields of an instance hold these values in turn. A field beyond them holds undefined.
abbrev pub held_in_turn : Path → List Text → List (Value ℕ) → Store
held_in_turn q [] vs = []
held_in_turn q (x ∷ xs) [] = record { instance = q; field = x; value = undefined } ∷ held_in_turn q xs []
held_in_turn q (x ∷ xs) (v ∷ vs) = record { instance = q; field = x; value = labelled v } ∷ held_in_turn q xs vs

-- what is held: for each instance its values, in the order of the fields of its class
abbrev pub store_of : App → CellList → Store
store_of app [] = []
store_of app (e ∷ es) = store_of app es ++ held_in_turn e.0 (names_of (class_at app e.0).fields) e.1

-- What a field begins with, by its place in the class: what was put for the instance, or else the initial value, which is a plain form.
abbrev pub initial_value : Option (List (Value ℕ)) → ℕ → Value ℕ → Value ℕ
initial_value None i v = plain v
initial_value (Some vs) i v = at_place undefined i vs

-- the same of the fields from a place on
abbrev pub initial_values : Option (List (Value ℕ)) → ℕ → List (Text × Value ℕ) → List (Value ℕ)
initial_values o i [] = []
initial_values o i (x ∷ xs) = initial_value o i x.1 ∷ initial_values o (suc i) xs
