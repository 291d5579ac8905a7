-- Which script JSON holds, as a relation: each event is what its object says by its members.
use Rattle.std.specs.Prelude.{◌≡◌, ℕ, ◌≤◌, ◌⊎◌, List, true, false, codes, Ok, Some, None}
use Rattle.serde_json.specs.Data as json
use Rattle.serde_json.specs.Find.{get}
use Rattle.gl_value.specs.Value.{Value, undefined, plain}
use Rattle.gl_ast.specs.Template.{Plain}
use Rattle.gl_meaning.specs.App.{Event, set_event, fire, batch, Events, events_of}
use Rattle.gl_meaning.specs.JsonText.{read_json}
use Rattle.gl_meaning.specs.ManifestIs.{ItemsAre, IsText}
use Rattle.gl_meaning.specs.ScriptOf.{Fields, is_set, has_data, is_fire, is_batch, greatest_node, first_unknown}
use Rattle.gl_meaning.specs.Walk.{value_at}

-- it is that of the member at the key
abbrev pub At : {A : Type 0} → List ℕ → (json.Data → A → Type 0) → json.Data → A → Type 0
At k Is d x = (member : json.Data) × (get k d ≡ Some member) × Is member x

-- the plain form of the value that JSON stands for
abbrev pub IsPlain : json.Data → Plain → Type 0
IsPlain d v = (w : Value ℕ) × (value_at d ≡ Ok w) × (v ≡ plain w)

-- the number of a node
abbrev pub IsNode : json.Data → ℕ → Type 0
IsNode d n = (d ≡ json.number (json.unsigned n)) × (1 ≤ n) × (n ≤ greatest_node)

-- the payload is that of `data`; without it, undefined
abbrev pub IsPayload : json.Data → Plain → Type 0
IsPayload d v = ((has_data d ≡ true) × At (codes "data") IsPlain d v) ⊎ ((has_data d ≡ false) × (v ≡ undefined))

-- an event that is no batch
abbrev pub IsSimple : json.Data → Event → Type 0
IsSimple d (set_event f v) = (is_set d ≡ true) × At (codes "set") IsText d f × At (codes "to") IsPlain d v
IsSimple d (fire n x v) = (is_fire d ≡ true) × At (codes "fire") IsNode d n × At (codes "event") IsText d x × IsPayload d v
IsSimple d (batch es) = ⊥

-- one event for each item
abbrev pub IsBatch : json.Data → Events → Type 0
IsBatch (json.array ds) es = (list : List Event) × (es ≡ events_of list) × ItemsAre IsSimple ds list
IsBatch d es = ⊥

abbrev pub IsEvent : json.Data → Event → Type 0
IsEvent d (batch es) = (is_batch d ≡ true) × At (codes "batch") IsBatch d es
IsEvent d (set_event f v) = IsSimple d (set_event f v)
IsEvent d (fire n x v) = IsSimple d (fire n x v)

abbrev pub IsScript : json.Data → List Event → Type 0
IsScript (json.array ds) es = ItemsAre IsEvent ds es
IsScript d es = ⊥

-- The bytes hold JSON of these events, and each that is set is one of the fields.
abbrev pub Holds : Fields → List ℕ → List Event → Type 0
Holds fields bytes es = (d : json.Data) × (read_json bytes ≡ Some d) × IsScript d es × (first_unknown fields 0 es ≡ None)
