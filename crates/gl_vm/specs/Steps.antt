-- What a step of the code does to the state.
use Rattle.std.specs.Prelude.{◌≡◌, ℕ, ◌+◌, List, [], ◌∷◌, Bool, true, false, ◌==◌, ◌&&◌, if◌then◌else◌, Option, Some, None}
use Rattle.std.specs.Str.{bytes_eq}
use Rattle.gl_base.specs.Texts.{Text}
use Rattle.gl_arena.specs.Id.{Id, same_id}
use Rattle.gl_arena.specs.Arena.{Arena, IsOwn, by_stamp}
use Rattle.gl_tags.specs.Tags as t
use Rattle.gl_mods.specs.Mods as m
use Rattle.gl_nodes.specs.Node as n
use Rattle.gl_nodes.specs.Tree.{Tree}
use Rattle.gl_refs.specs.Forms as f
use Rattle.gl_refs.specs.State as s
use Rattle.gl_refs.specs.Refs.{Refs, rows_of}
use Rattle.gl_meaning.specs.Path.{V}
use Rattle.gl_meaning.specs.Scope.{Source}
use Rattle.gl_meaning.specs.Parts.{Attrs}
use Rattle.gl_plain.specs.Ids.{a_node, a_modifier, Id as Name, kind_eq, hit, node, modifier_id}
use Rattle.gl_plain.specs.State.{content, Installed, modifier_row, Thing, State, put_thing, note_updated}
use Rattle.gl_plain.specs.Turns.{blank}
use Rattle.gl_plain.specs.Naming.{by_number, dropped_as}
use Rattle.gl_plain.specs.Renew.{changed_attr}
use Rattle.gl_vm.specs.View.{Tables, is_led, state_of, Agrees}
use Rattle.gl_vm.specs.declared.vm.Vm.{Vm}

-- the code keeps this state now
pub record Follows (n : Tables) (r : State) (new : Vm) : Type 0 where
  pub state : state_of n new r.touched ≡ r
  pub agrees : Agrees r.touched new

-- The code does this step of the state, whichever sources were touched, and whatever the manifest's names are.
abbrev pub Does : (Tables → State → State) → Vm → Vm → Type 0
Does f old new = (n : Tables) (touched : Source → Bool) → Agrees touched old → Follows n (f n (state_of n old touched)) new

-- The next id of an arena is given: its number is how many were made before. Whatever id was given before is its own id still.
pub record Numbers {T : Type 0} (old new : Arena T) (id : Id) : Type 0 where
  pub stamp : id.1 ≡ old.made
  pub own : IsOwn new id
  pub olds : (i : Id) → IsOwn old i → IsOwn new i

-- The state is as it was, whichever sources were touched, and no reference is made: only what is kept of them may be of now.
pub record Prepares (old new : Vm) : Type 0 where
  pub same : (n : Tables) (touched : Source → Bool) → state_of n new touched ≡ state_of n old touched
  pub step : Does (λ n st. st) old new
  pub made : new.refs.rows.made ≡ old.refs.rows.made
  pub owns : (i : Id) → IsOwn old.refs.rows i → IsOwn new.refs.rows i

-- No node is put into the tree, moved or taken out of it: nodes may be made, which stand nowhere yet, and change what they are.
pub record Rooted (old new : Tree) : Type 0 where
  pub forest : new.forest ≡ old.forest
  pub moves : new.moves ≡ old.moves

-- the node's attribute of a name is changed
abbrev pub put_attr : ℕ → Text → Option Text → State → State
put_attr s name value st = put_thing (node s) (content (changed_attr name value (st.look (node s)))) st

-- how many of these attributes have that name
abbrev pub times_named : Text → Attrs → ℕ
times_named n [] = 0
times_named n (a ∷ xs) = (if bytes_eq n a.0 then 1 else 0) + times_named n xs

-- a text or a comment that is there
abbrev pub is_told : Option n.Node → Bool
is_told None = false
is_told (Some (n.element tag attrs)) = false
is_told (Some (n.text s)) = true
is_told (Some (n.comment s)) = true

-- an element that is there, with one attribute of that name
abbrev pub has_once : Text → Option n.Node → Bool
has_once m None = false
has_once m (Some (n.element tag attrs)) = times_named m attrs == 1
has_once m (Some (n.text s)) = false
has_once m (Some (n.comment s)) = false

-- a modifier with other values of its arguments
abbrev pub given_args : List V → List (Text × V) → Option Thing → Installed
given_args vs ns (Some (modifier_row x)) = record { on_node = x.on_node; place = x.place; name = x.name; args = vs; names = ns }
given_args vs ns _ = record { on_node = 0; place = 0; name = []; args = []; names = [] }

-- the modifier has other values, and is noted
abbrev pub put_args : ℕ → List V → List (Text × V) → State → State
put_args m vs ns st = note_updated m (put_thing (modifier_id m) (modifier_row (given_args vs ns (st.look (modifier_id m)))) st)

abbrev pub installed_at : ℕ → ℕ → Text → List V → List (Text × V) → Installed
installed_at n i name vs ns = record { on_node = n; place = i; name = name; args = vs; names = ns }

-- a machine that keeps nothing: the root of the tree has the first number of a node
abbrev pub empty : State
empty = record blank { next = λ k. if kind_eq k a_node then 1 else 0 }

-- Ends

-- the thing with that id goes, and no other
abbrev pub dropped_one : Name → State → State
dropped_one i st = dropped_as by_number (λ q. hit q i) st

-- a modifier of that node
abbrev pub is_on : Id → Option m.Installed → Bool
is_on node None = false
is_on node (Some x) = same_id x.node node

-- how often an id is that of a modifier of that node
abbrev pub on_count : m.Mods → Id → Name → ℕ
on_count mods node q = if kind_eq q.kind a_modifier && is_on node (by_stamp mods.table q.num) then 1 else 0

-- At no position's last evaluation was that read. Of what is no cell and no item it is so by itself.
abbrev pub IsForgotten : Refs → Id → Type 0
IsForgotten r id = (k : Id) (x : s.Row) (l : s.Last) (ids : List Id) → rows_of r k ≡ Some x → x.form ≡ f.all_form ids → x.last ≡ Some l → is_led (t.leads_of r.tags.tags l.tag) (rows_of r id) ≡ false
