-- The JSON value that bytes hold, and looking into it. An object's members stand in the byte order of their keys.
use Rattle.std.specs.Prelude.{ℕ, ◌+◌, List, [], Bool, Option, None, option_and_then, unwrap_or, is_some, if◌then◌else◌}
use Rattle.std.specs.Str.{is_utf8}
use Rattle.serde_json.specs.Data as json
use Rattle.serde_json.specs.Find.{get, as_str, as_object, as_array}
use Rattle.serde_json.specs.Read.{read}

-- the JSON value that the bytes hold: they are text, and `serde_json` reads it
unfoldable pub read_json : List ℕ → Option json.Data
read_json bytes = if is_utf8 bytes then read bytes else None

abbrev pub count_members : json.Members → ℕ
count_members json.no_members = 0
count_members (json.member k d ms) = count_members ms + 1

abbrev pub count_items : json.Items → ℕ
count_items json.no_items = 0
count_items (json.item d ds) = count_items ds + 1

-- The members, the items and the bytes of the text that the value is; none where it is of another kind.
abbrev pub members_in : Option json.Data → json.Members
members_in o = unwrap_or (option_and_then as_object o) json.no_members

abbrev pub items_in : Option json.Data → json.Items
items_in o = unwrap_or (option_and_then as_array o) json.no_items

abbrev pub text_in : Option json.Data → List ℕ
text_in o = unwrap_or (option_and_then as_str o) []

-- the same of the value at a key
abbrev pub members_at : List ℕ → json.Data → json.Members
members_at k d = members_in (get k d)

abbrev pub items_at : List ℕ → json.Data → json.Items
items_at k d = items_in (get k d)

abbrev pub text_at : List ℕ → json.Data → List ℕ
text_at k d = text_in (get k d)

-- it is an object that has the key
abbrev pub has_key : List ℕ → json.Data → Bool
has_key k d = is_some (get k d)

-- what it has at the first key is an object that has the second
abbrev pub has_inner : List ℕ → List ℕ → json.Data → Bool
has_inner outer k d = is_some (option_and_then (get k) (get outer d))

-- how many members an object has, and how many items an array; none for all else
abbrev pub member_count : json.Data → ℕ
member_count (json.object ms) = count_members ms
member_count d = 0

abbrev pub item_count : json.Data → ℕ
item_count (json.array ds) = count_items ds
item_count d = 0
