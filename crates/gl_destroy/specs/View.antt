-- What the code's destroyables and logs stand for.
use Rattle.std.specs.Prelude.{◌≡◌, List, [], map, Option, Some, None, option_map, IsSome}
use Rattle.gl_arena.specs.Id.{Id}
use Rattle.gl_arena.specs.Arena.{Arena, named, Gives}
use Rattle.gl_destroy.specs.What as w
use Rattle.gl_destroy.specs.Links.{Look}
use Rattle.gl_destroy.specs.declared.what.What.{What}
use Rattle.gl_destroy.specs.declared.what.What.TheVariants.{Modifier, Instance, Group}
use Rattle.gl_destroy.specs.declared.entries.Entry.{Entry}

abbrev pub seen_what : What → w.What
seen_what (Modifier node place name) = w.modifier node place name
seen_what (Instance class teardown) = w.instance class teardown
seen_what Group = w.group

abbrev pub seen_pair : Id × What → Id × w.What
seen_pair e = (e.0, seen_what e.1)

abbrev pub seen_pairs : List (Id × What) → List (Id × w.What)
seen_pairs es = map seen_pair es

abbrev pub seen_entry : Entry → w.What × List Id
seen_entry e = (seen_what e.what, e.children.list.items)

abbrev pub look_in : Arena Entry → Look
look_in a i = option_map seen_entry (named a i)

-- an entry without children is put in
pub record AddsEntry (old new : Arena Entry) (i : Id) (w : w.What) : Type 0 where
  pub entry : Entry
  pub gives : Gives old new i entry
  pub names : seen_what entry.what ≡ w
  pub bare : entry.children.list.items ≡ []

-- the list of a live id, or that of the trees themselves
abbrev pub IsListed : Look → Option Id → Type 0
IsListed l None = Unit {0}
IsListed l (Some p) = IsSome (l p)
