-- What follows for values where one tag changes.
use Rattle.std.specs.Prelude.{◌≡◌, ◌≢◌, true, false, List, map}
use Rattle.std.specs.List.{list_any}
use Rattle.gl_arena.specs.Id.{Id, same_id}
use Rattle.gl_arena.specs.Arena.{Ends}
use Rattle.gl_tags.specs.Tags.{Tags, tag_at, is_dirtyable, leads_of, value_of, greatest_from, dirtied, IsSound, IsUnled, Combines}

-- a dirtied tag gives the clock to each tag that leads to it, and leaves the values of all others
abbrev pub DirtyReaches : Type 0
DirtyReaches =
    (t : Tags) (i : Id) → IsSound t → is_dirtyable (tag_at t i) ≡ true → (k : Id) →
    (list_any (same_id i) (leads_of t.tags k) ≡ true → value_of (dirtied t i) k ≡ t.clock)
    × (list_any (same_id i) (leads_of t.tags k) ≡ false → value_of (dirtied t i) k ≡ value_of t k)

-- a tag that is ended is missing to no other
abbrev pub FreeKeeps : Type 0
FreeKeeps =
    (old new : Tags) (i : Id) → IsSound old → Ends old.tags new.tags i → (is_dirtyable (tag_at old i) ≡ true → IsUnled old i) → (k : Id) → k ≢ i →
    (leads_of new.tags k ≡ leads_of old.tags k) × (value_of new k ≡ value_of old k)

-- a combined tag's value is the greatest of those of its parts
abbrev pub CombineIsGreatest : Type 0
CombineIsGreatest =
    (old new : Tags) (id : Id) (parts : List Id) → IsSound old → Combines old new id parts →
    value_of new id ≡ greatest_from 0 (map (value_of old) parts)
