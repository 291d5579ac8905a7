-- What a list with items has now.
use Rattle.std.specs.Prelude.{◌≡◌, ◌≢◌, ℕ, List, [], map}
use Rattle.std.specs.declared.alloc.Global.{Global}
use Rattle.std.specs.declared.boxed.Box.{Box}
use Rattle.gl_base.specs.Texts.{Text}
use Rattle.gl_value.specs.Value.{Value, values_of}
use Rattle.gl_value.specs.Owners.{values_with}
use Rattle.gl_meaning.specs.Path.{V}
use Rattle.gl_meaning.specs.Render.{Entry, entries, values_listed}
use Rattle.gl_each.specs.Key.{entry_keys}
use Rattle.gl_vm.specs.Labels.{owner_path}
use Rattle.gl_code.specs.Entries.{seen_left}
use Rattle.gl_update.specs.OldItems.{code_key}
use Rattle.gl_update.specs.declared.reading.Read.{Read}
use Rattle.gl_update.specs.declared.reading.Read.TheVariants.{Same, Other}
use Rattle.gl_update.specs.declared.taken.Listed.{Listed}

-- the entries of the values of a list, by a key text
abbrev pub entries_now : Text → List (Value ℕ) → List Entry
entries_now k vs = entries k 0 [] (values_with owner_path (values_of vs))

-- It is the list, with values, at least one, that have the keys of its items, in their order; or with keys and entries that are of each other.
abbrev pub IsOf : Box Listed Global → Read → Type 0
IsOf list (Same l vs) = (l ≡ list) × (vs ≢ []) × (entry_keys (entries_now list.value.listing.key vs) ≡ map code_key list.value.items.items)
IsOf list (Other l x) = (l ≡ list) × (x.value.keys ≡ entry_keys (seen_left x.value.entries.items))

-- Its values, or its entries, are those of a value.
abbrev pub Gives : V → Box Listed Global → Read → Type 0
Gives v list (Same l vs) = values_listed v ≡ values_with owner_path (values_of vs)
Gives v list (Other l x) = seen_left x.value.entries.items ≡ entries list.value.listing.key 0 [] (values_listed v)
