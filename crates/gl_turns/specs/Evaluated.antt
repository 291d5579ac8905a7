-- What is touched and what is due, in the words of the meaning.
use Rattle.std.specs.Prelude.{◌≡◌, Bool, false, ◌||◌, not}
use Rattle.std.specs.List.{list_any}
use Rattle.gl_meaning.specs.Path.{Path, path_eq}
use Rattle.gl_meaning.specs.Scope.{Source, cell}
use Rattle.gl_meaning.specs.Render.{Forest}
use Rattle.gl_meaning.specs.Changes.{positions, Sets, is_set, stale}
use Rattle.gl_plain.specs.State.{State}

-- a source that the sets name; an item is never set
abbrev pub is_named : Sets → Source → Bool
is_named sets (cell i x) = is_set sets i x
is_named sets _ = false

-- since the turn began just the cells of these sets were touched
abbrev pub TouchedBy : Sets → State → Type 0
TouchedBy sets st = (x : Source) → st.touched x ≡ is_named sets x

-- a path has a new position, or a stale one
abbrev pub new_or_stale : Forest → Forest → Sets → Path → Bool
new_or_stale old new sets p = not (list_any (λ o. path_eq p o.path) (positions old)) || stale old new sets p
