-- Owners and sources named by numbers.
--
-- What is kept in code has no paths of what is gone, so the owner of an action is seen as a path of its number, and a source as a path of
-- the number of its reference.
use Rattle.std.specs.Prelude.{ℕ, List, [], ◌∷◌, map}
use Rattle.gl_base.specs.Texts.{Text}
use Rattle.gl_value.specs.Value.{Value}
use Rattle.gl_value.specs.Owners.{with_owners}
use Rattle.gl_meaning.specs.Path.{at, Path, V}
use Rattle.gl_meaning.specs.Scope.{Source, item_value}

abbrev pub owner_path : ℕ → Path
owner_path n = at n ∷ []

abbrev pub label : ℕ → Source
label r = item_value (at r ∷ [])

abbrev pub labelled : Value ℕ → V
labelled v = with_owners owner_path v

abbrev pub all_labelled : List (Value ℕ) → List V
all_labelled vs = map labelled vs

abbrev pub names_labelled : List (Text × Value ℕ) → List (Text × V)
names_labelled ns = map (λ n. (n.0, labelled n.1)) ns
