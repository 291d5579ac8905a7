-- The script that JSON holds. A script is an array of events, and an event is an object with exactly the members of one form:
-- `set` and `to`; `fire`, `event` and perhaps `data`; or `batch`, which is an array of events of the first two forms.
use Rattle.std.specs.Prelude.{ℕ, ◌+◌, nat_lt, nat_le, List, [], ◌∷◌, Bool, ◌&&◌, ◌==◌, codes, if◌then◌else◌, Ok, Err, Option, Some, None, option_map, option_and_then, is_some}
use Rattle.std.specs.Str.{chars}
use Rattle.gl_base.specs.Names.{named, or_else}
use Rattle.gl_base.specs.Texts.{Text}
use Rattle.gl_value.specs.Value.{undefined, plain}
use Rattle.gl_ast.specs.Template.{Plain}
use Rattle.serde_json.specs.Data as json
use Rattle.serde_json.specs.Find.{get, as_str, as_array, as_number, as_u64}
use Rattle.gl_meaning.specs.App.{Event, set_event, fire, batch, Events, no_events, event, events_of}
use Rattle.gl_meaning.specs.JsonText.{read_json, has_key, member_count}
use Rattle.gl_meaning.specs.Pointer.{key_step}
use Rattle.gl_meaning.specs.Walk.{Found, faulty, ◌then◌, under, given, value_at, read_items}

-- Which form an object has

abbrev pub is_set : json.Data → Bool
is_set d = member_count d == 2 && (has_key (codes "set") d && has_key (codes "to") d)

abbrev pub has_data : json.Data → Bool
has_data d = has_key (codes "data") d

abbrev pub is_fire : json.Data → Bool
is_fire d = member_count d == (if has_data d then 3 else 2) && (has_key (codes "event") d && has_key (codes "fire") d)

abbrev pub is_batch : json.Data → Bool
is_batch d = member_count d == 1 && has_key (codes "batch") d

-- Its members, each read whole, in the byte order of their keys

-- what the member at a key reads as
abbrev pub at_key : {A : Type 0} → List ℕ → (json.Data → Found A) → json.Data → Found A
at_key k f d = under (key_step k) (given (get k d) then f)

abbrev pub text_found : json.Data → Found Text
text_found d = given (as_str d) then λ s. Ok (chars s)

-- the number of a node is from 1 to 9007199254740991
abbrev pub greatest_node : ℕ
greatest_node = 9007199254740991

abbrev pub node_found : json.Data → Found ℕ
node_found d = given (option_and_then as_u64 (as_number d)) then λ n. if nat_lt 0 n && nat_le n greatest_node then Ok n else faulty

abbrev pub set_found : json.Data → Found Event
set_found d = at_key (codes "set") text_found d then λ f. (at_key (codes "to") (value_at {O = ℕ}) d then λ v. Ok (set_event f (plain v)))

-- without `data` the payload is undefined
abbrev pub payload_found : json.Data → Found Plain
payload_found d = if has_data d then (at_key (codes "data") (value_at {O = ℕ}) d then λ v. Ok (plain v)) else Ok undefined

abbrev pub fire_found : json.Data → Found Event
fire_found d = payload_found d then λ v. (at_key (codes "event") text_found d then λ x. (at_key (codes "fire") node_found d then λ n. Ok (fire n x v)))

-- an event that is no batch
unfoldable pub simple_found : json.Data → Found Event
simple_found d = if is_set d then set_found d else (if is_fire d then fire_found d else faulty)

abbrev pub batch_found : json.Data → Found Event
batch_found d = given (as_array d) then λ ds. (read_items simple_found 0 ds then λ es. Ok (batch (events_of es)))

unfoldable pub event_found : json.Data → Found Event
event_found d = if is_batch d then at_key (codes "batch") batch_found d else simple_found d

abbrev pub script_found : json.Data → Found (List Event)
script_found d = given (as_array d) then λ ds. read_items event_found 0 ds

-- The fields that events set

abbrev pub Fields : Type 0
Fields = List (Text × Plain)

-- the name, unless it is that of a field
abbrev pub unless_field : Fields → Text → Option Text
unless_field fields n = if is_some (named n fields) then None else Some n

-- the first name that an event, or several, sets and that no field has
abbrev mutual
  pub unknown_in : Fields → Event → Option Text
  unknown_in fields (set_event n v) = unless_field fields n
  unknown_in fields (fire k x v) = None
  unknown_in fields (batch es) = unknown_among fields es

  pub unknown_among : Fields → Events → Option Text
  unknown_among fields no_events = None
  unknown_among fields (event e es) = or_else (unknown_in fields e) (unknown_among fields es)

-- The first such name, with the place of its event among the script's, where the first of these has the place n.
abbrev pub first_unknown : Fields → ℕ → List Event → Option (ℕ × Text)
first_unknown fields n [] = None
first_unknown fields n (e ∷ es) = or_else (option_map (λ x. (n, x)) (unknown_in fields e)) (first_unknown fields (n + 1) es)

-- What the bytes of a script are for a root with these fields.
pub data ScriptReading : Type 0 where
  -- no JSON
  not_json : ScriptReading
  -- JSON whose first faulty place has the pointer
  bad_shape : Text → ScriptReading
  -- events of which that with the place is the first that sets what is no field of the root
  unknown_name : ℕ → Text → ScriptReading
  script : List Event → ScriptReading

abbrev pub with_names : List Event → Option (ℕ × Text) → ScriptReading
with_names es None = script es
with_names es (Some x) = unknown_name x.0 x.1

abbrev pub of_found : Fields → Found (List Event) → ScriptReading
of_found fields (Err p) = bad_shape p
of_found fields (Ok es) = with_names es (first_unknown fields 0 es)

abbrev pub of_json : Fields → Option json.Data → ScriptReading
of_json fields None = not_json
of_json fields (Some d) = of_found fields (script_found d)

abbrev pub script_reading : Fields → List ℕ → ScriptReading
script_reading fields bytes = of_json fields (read_json bytes)
