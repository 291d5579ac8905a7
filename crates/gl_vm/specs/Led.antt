-- What positions read at their last evaluations.
use Rattle.std.specs.Prelude.{◌≡◌, ◌<◌, Bool, List, true, Some}
use Rattle.std.specs.List.{list_any}
use Rattle.gl_arena.specs.Id.{Id}
use Rattle.gl_tags.specs.Tags as t
use Rattle.gl_refs.specs.Forms as f
use Rattle.gl_refs.specs.State as s
use Rattle.gl_refs.specs.Refs.{Refs, rows_of, forms_of}

-- what is held of a reference
abbrev pub held_of : Refs → Id → f.V
held_of r i = s.held_value (rows_of r) i

-- whether its tag leads to one that passes the test
abbrev pub leads_to : Refs → Id → (Id → Bool) → Bool
leads_to r i test = list_any test (t.leads_of r.tags.tags (s.held_tag r.tags (rows_of r) i))

-- the tag is that of a live cell or item which is named for i
pub record IsReached (r : Refs) (i tag : Id) : Type 0 where
  pub source : Id
  pub is : s.IsSource (rows_of r) source tag
  pub reach : s.Reaches (forms_of r) i source

-- What a position read at its last evaluation lives, and is named for it still.
abbrev pub Led : Refs → Type 0
Led r = (i : Id) (ids : List Id) (l : s.Last) → rows_of r i ≡ Some (record { form = f.all_form ids; last = Some l }) → f.Each (IsReached r i) (t.leads_of r.tags.tags l.tag)

-- Tags tell exactly whether a position is stale where a turn was begun, the position was evaluated, and what was read then lives.
pub record IsTelling (r : Refs) (id : Id) : Type 0 where
  pub begun : 0 < r.tags.clock
  pub evaluated : s.has_tag (rows_of r id) ≡ true
  pub led : Led r
