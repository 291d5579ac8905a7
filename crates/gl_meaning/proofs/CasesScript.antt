-- Scripts, computed from their JSON.
use Rattle.std.specs.Prelude.{◌≡◌, ℕ, List, [], ◌∷◌, ◌++◌, codes, refl, pos, Ok, Err, Some, None}
use Rattle.std.specs.Str.{chars}
use Rattle.serde_json.specs.Data as json
use Rattle.gl_base.specs.Texts.{Text}
use Rattle.gl_value.specs.Value.{undefined, integer, text}
use Rattle.gl_meaning.specs.App.{Event, set_event, fire, batch, events_of}
use Rattle.gl_meaning.specs.Pointer.{key_step, item_step}
use Rattle.gl_meaning.specs.ScriptOf.{Fields, simple_found, event_found, script_found, first_unknown, unknown_name, of_found}

abbrev number : ℕ → json.Data
number n = json.number (json.unsigned n)

abbrev word : json.Data
word = json.string (codes "x")

abbrev x : Text
x = chars (codes "x")

-- objects of one, two and three members
abbrev one : List ℕ → json.Data → json.Data
one k d = json.object (json.member k d json.no_members)

abbrev two : List ℕ → json.Data → List ℕ → json.Data → json.Data
two k d l e = json.object (json.member k d (json.member l e json.no_members))

abbrev three : List ℕ → json.Data → List ℕ → json.Data → List ℕ → json.Data → json.Data
three k d l e m f = json.object (json.member k d (json.member l e (json.member m f json.no_members)))

abbrev set : json.Data → json.Data
set v = two (codes "set") word (codes "to") v

abbrev fired : json.Data → json.Data → json.Data
fired name node = two (codes "event") name (codes "fire") node

abbrev array_of : List json.Data → json.Items
array_of [] = json.no_items
array_of (d ∷ ds) = json.item d (array_of ds)

abbrev events : List json.Data → json.Data
events ds = json.array (array_of ds)

abbrev batched : List json.Data → json.Data
batched ds = one (codes "batch") (events ds)

-- each form, and a script of none
each_form : script_found (events (set (number 1) ∷ fired word (number 3) ∷ batched (set word ∷ fired word (number 1) ∷ []) ∷ batched [] ∷ []))
    ≡ Ok (set_event x (integer (pos 1)) ∷ fire 3 x undefined ∷ batch (events_of (set_event x (text x) ∷ fire 1 x undefined ∷ [])) ∷ batch (events_of []) ∷ [])
unfolding simple_found event_found
each_form = refl

no_events_given : script_found (events []) ≡ Ok []
no_events_given = refl

with_payload : simple_found (three (codes "data") (number 7) (codes "event") word (codes "fire") (number 2)) ≡ Ok (fire 2 x (integer (pos 7)))
unfolding simple_found
with_payload = refl

-- no array
no_array : script_found (set (number 1)) ≡ Err []
no_array = refl

-- no node has the number 0, nor one above the greatest
no_node : script_found (events (set (number 1) ∷ fired word (number 0) ∷ [])) ≡ Err (item_step 1 ++ (key_step (codes "fire") ++ []))
unfolding simple_found event_found
no_node = refl

greatest : simple_found (fired word (number 9007199254740991)) ≡ Ok (fire 9007199254740991 x undefined)
unfolding simple_found
greatest = refl

beyond : simple_found (fired word (number 9007199254740992)) ≡ Err (key_step (codes "fire") ++ [])
unfolding simple_found
beyond = refl

-- members in the order of their keys
event_before_fire : simple_found (fired (number 1) word) ≡ Err (key_step (codes "event") ++ [])
unfolding simple_found
event_before_fire = refl

data_before_event : simple_found (three (codes "data") (number 9007199254740992) (codes "event") (number 1) (codes "fire") word) ≡ Err (key_step (codes "data") ++ [])
unfolding simple_found
data_before_event = refl

set_before_to : simple_found (two (codes "set") (number 1) (codes "to") (number 9007199254740992)) ≡ Err (key_step (codes "set") ++ [])
unfolding simple_found
set_before_to = refl

-- a member less, a member more, and another member
member_less : simple_found (one (codes "set") (number 1)) ≡ Err []
unfolding simple_found
member_less = refl

member_more : simple_found (three (codes "set") word (codes "to") word (codes "x") word) ≡ Err []
unfolding simple_found
member_more = refl

member_other : simple_found (three (codes "event") word (codes "fire") (number 1) (codes "x") word) ≡ Err []
unfolding simple_found
member_other = refl

-- a batch in a batch is no event
no_inner_batch : script_found (events (batched (set word ∷ batched [] ∷ []) ∷ [])) ≡ Err (item_step 0 ++ (key_step (codes "batch") ++ (item_step 1 ++ [])))
unfolding simple_found event_found
no_inner_batch = refl

no_batch_of_text : event_found (one (codes "batch") word) ≡ Err (key_step (codes "batch") ++ [])
unfolding event_found
no_batch_of_text = refl

-- the first name that no field has, with the place of the outer event
abbrev fields : Fields
fields = (codes "n", integer (pos 1)) ∷ []

abbrev sets : Text → Event
sets n = set_event n undefined

known : first_unknown fields 0 (sets (codes "n") ∷ fire 1 (codes "y") undefined ∷ []) ≡ None
known = refl

in_a_batch : first_unknown fields 0 (sets (codes "n") ∷ batch (events_of (sets (codes "n") ∷ sets (codes "x") ∷ [])) ∷ sets (codes "y") ∷ []) ≡ Some (1, codes "x")
in_a_batch = refl

told : of_found fields (Ok (sets (codes "y") ∷ [])) ≡ unknown_name 0 (codes "y")
told = refl
