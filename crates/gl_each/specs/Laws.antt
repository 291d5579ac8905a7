-- The laws of keys and plans. `src/laws.rt` proves each.
use Rattle.std.specs.Prelude.{◌≡◌, ℕ, List, [], map, length, Some}
use Rattle.gl_base.specs.Texts.{Text}
use Rattle.gl_value.specs.Value.{Values}
use Rattle.gl_meaning.specs.Path.{Path}
use Rattle.gl_meaning.specs.Render.{entries}
use Rattle.gl_meaning.specs.Laws.{NoRepeat}
use Rattle.gl_each.specs.Key.{entry_keys}
use Rattle.gl_each.specs.Sync.{Step, IsSync}
use Rattle.gl_each.specs.Carried.{carried_out, wanted, item_key}
use Rattle.gl_each.specs.Moved.{items_at, moved_among, moves}

-- The plan, carried out on the list of old items, gives the new list: each kept old item and each new item at its place ..
abbrev pub CarriedIsWanted : Type 0 → Type 0
CarriedIsWanted K = (old new : List K) (steps : List Step) (removed : List ℕ) → NoRepeat new → IsSync old new steps removed
    → carried_out (length old) steps removed ≡ wanted 0 steps

-- .. and the keys of these items are the new keys.
abbrev pub WantedIsNew : Type 0 → Type 0
WantedIsNew K = (old new : List K) (steps : List Step) (removed : List ℕ) → IsSync old new steps removed
    → map (item_key old new) (wanted 0 steps) ≡ map Some new

-- The plan moves as many items as, in the meaning of a turn, are moved between the two lists, wherever the list stands.
abbrev pub MovesAreMoved : Type 0
MovesAreMoved = (p : Path) (k : Text) (old new : Values Path) (steps : List Step) (removed : List ℕ)
    → IsSync (entry_keys (entries k 0 [] old)) (entry_keys (entries k 0 [] new)) steps removed
    → moves steps ≡ moved_among (items_at p (entries k 0 [] old)) (items_at p (entries k 0 [] new))

-- The keys of a list, with their occurrences, are distinct.
abbrev pub KeysAreDistinct : Type 0
KeysAreDistinct = (k : Text) (items : Values Path) → NoRepeat (entry_keys (entries k 0 [] items))
