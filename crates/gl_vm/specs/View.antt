-- What the code keeps, as the plain machine's state.
use Rattle.std.specs.Prelude.{◌≡◌, ℕ, zero, suc, ◌==◌, List, [], ◌∷◌, map, Bool, true, false, ◌&&◌, if◌then◌else◌, Option, Some, None, option_map}
use Rattle.std.specs.List.{list_any}
use Rattle.gl_base.specs.Texts.{Text}
use Rattle.gl_base.specs.Names.{at_place}
use Rattle.gl_value.specs.Helpers.{helper_table}
use Rattle.gl_arena.specs.Id.{Id, same_id}
use Rattle.gl_arena.specs.Arena.{by_stamp}
use Rattle.gl_tags.specs.Tags as t
use Rattle.gl_refs.specs.Forms as f
use Rattle.gl_refs.specs.State as s
use Rattle.gl_refs.specs.Refs.{Refs, forms_of}
use Rattle.gl_nodes.specs.Node as n
use Rattle.gl_nodes.specs.Flat.{node_by}
use Rattle.gl_mods.specs.Mods as m
use Rattle.gl_meaning.specs.Scope.{Source, Pair}
use Rattle.gl_meaning.specs.View.{path_view}
use Rattle.gl_plain.specs.State.{any_of, Form, constant_form, source_form, property_form, call_form, joined_form, all_form, Row, Names, Inst, named_as, Content, element_content, text_content, comment_content, Installed, State}
use Rattle.gl_vm.specs.Labels.{label, labelled, all_labelled, names_labelled}
use Rattle.gl_vm.specs.Led.{Led}
use Rattle.gl_vm.specs.Kept.{Kept, some_below, state_by}
use Rattle.gl_vm.specs.declared.vm.Vm.{Vm}
use Rattle.gl_vm.specs.declared.vm.Instance.{Instance}

-- The manifest's names: the fields of the class with a number, in order, and the modifier with a number.
pub record Tables : Type 0 where
  pub fields : ℕ → List Text
  pub modifier : ℕ → Text

abbrev pub stamps : List Id → List ℕ
stamps ids = map (λ i. i.1) ids

abbrev pub name_stamps : List (Text × Id) → Names
name_stamps ns = map (λ n. (n.0, n.1.1)) ns

-- References

abbrev pub helper_name : ℕ → Text
helper_name h = at_place [] h (map (λ row. row.0) helper_table)

-- the form of the reference with number k
abbrev pub seen_form : ℕ → f.Form → Form
seen_form k (f.constant_form v) = constant_form (labelled v)
seen_form k (f.source_form kind tag v) = source_form (label k) (labelled v)
seen_form k (f.prop_form r name) = property_form r.1 name
seen_form k (f.call_form h ids named) = call_form (helper_name h) (stamps ids) (name_stamps named)
seen_form k (f.cat_form ids) = joined_form (stamps ids)
seen_form k (f.all_form ids) = all_form (stamps ids)

-- a cell or an item of which the tag is among these
abbrev pub form_led : List Id → f.Form → Bool
form_led leads (f.source_form kind tag v) = list_any (same_id tag) leads
form_led leads g = false

abbrev pub is_led : List Id → Option s.Row → Bool
is_led leads None = false
is_led leads (Some r) = form_led leads r.form

-- the sources to which a tag leads, as a test
abbrev pub led_by : List Id → (ℕ → Option s.Row) → ℕ → (Source → Bool) → Bool
led_by leads rows made p = some_below (λ k. is_led leads (rows k) && p (label k)) made

abbrev pub last_led : t.Tags → (ℕ → Option s.Row) → ℕ → Option s.Last → (Source → Bool) → Bool
last_led tags rows made None = any_of []
last_led tags rows made (Some l) = led_by (t.leads_of tags.tags l.tag) rows made

-- only of a position it is kept which sources it read last
abbrev pub last_of : t.Tags → (ℕ → Option s.Row) → ℕ → f.Form → Option s.Last → (Source → Bool) → Bool
last_of tags rows made (f.all_form ids) last = last_led tags rows made last
last_of tags rows made g last = any_of []

abbrev pub seen_row : t.Tags → (ℕ → Option s.Row) → ℕ → ℕ → s.Row → Row
seen_row tags rows made k r = record { form = seen_form k r.form; last = last_of tags rows made r.form r.last }

abbrev pub row_of : t.Tags → (ℕ → Option s.Row) → ℕ → ℕ → Option Row
row_of tags rows made k = option_map (seen_row tags rows made k) (rows k)

abbrev pub row_at : Refs → ℕ → Option Row
row_at r k = row_of r.tags (by_stamp r.rows) r.rows.made k

-- the number of the cell or item with a tag
abbrev pub holder : (ℕ → Option s.Row) → ℕ → Id → ℕ
holder rows zero tag = 0
holder rows (suc n) tag = if is_led (tag ∷ []) (rows n) then n else holder rows n tag

-- the source with a tag, named by its number
abbrev pub source_of : Refs → Id → Source
source_of r t = label (holder (by_stamp r.rows) r.rows.made t)

-- what a reference means, with owners and sources named by numbers
abbrev pub seen_pair : Refs → f.Pair → Pair
seen_pair r p = record { value = labelled p.value; sources = map (source_of r) p.sources }

-- no reference reads a position
abbrev pub PositionsUnread : Refs → Type 0
PositionsUnread r = (i : Id) (ids : List Id) → forms_of r i ≡ Some (f.all_form ids) → f.IsUnread (forms_of r) i

-- No reference of the machine reads a position, and what each position read at its last evaluation lives.
pub record Calm (vm : Vm) : Type 0 where
  pub unread : PositionsUnread vm.refs
  pub led : Led vm.refs

abbrev pub is_all : Option f.Form → Bool
is_all (Some (f.all_form ids)) = true
is_all o = false

-- Nodes, instances and modifiers

abbrev pub seen_node : n.Node → Content
seen_node (n.element tag attrs) = element_content tag attrs
seen_node (n.text s) = text_content s
seen_node (n.comment s) = comment_content s

abbrev pub seen_instance : Tables → ℕ → Instance → Inst
seen_instance tables k i = record { id = k; path = path_view i.path; cells = named_as (tables.fields i.class) (stamps i.cells) }

abbrev pub seen_modifier : Tables → m.Installed → Installed
seen_modifier tables i = record { on_node = i.node.1; place = i.place; name = tables.modifier i.name; args = all_labelled i.args; names = names_labelled i.named }

-- All

abbrev pub kept_of : Tables → Vm → Kept
kept_of tables vm = record {
  row = row_at vm.refs;
  node = λ k. option_map seen_node (node_by vm.tree k);
  inst = λ k. option_map (seen_instance tables k) (by_stamp vm.instances k);
  block = λ k. option_map (λ b. tt) (by_stamp vm.scopes k);
  modifier = λ k. option_map (seen_modifier tables) (by_stamp vm.mods.table k);
  rows = vm.refs.rows.made;
  nodes = vm.tree.nodes.made;
  insts = vm.instances.made;
  blocks = vm.scopes.made;
  mods = vm.mods.table.made;
  evaluated = stamps vm.refs.evaluated;
  installs = stamps vm.mods.installs;
  updates = stamps vm.mods.updates;
}

abbrev pub state_of : Tables → Vm → (Source → Bool) → State
state_of tables vm touched = state_by (kept_of tables vm) touched

-- the test holds of a cell or an item just where its tag was touched since the turn began
abbrev pub AgreesAt : Refs → (Source → Bool) → ℕ → f.Form → Type 0
AgreesAt r touched k (f.source_form kind tag v) = touched (label k) ≡ (t.value_of r.tags tag == r.tags.clock)
AgreesAt r touched k g = Unit {0}

abbrev pub Agrees : (Source → Bool) → Vm → Type 0
Agrees touched vm = (k : ℕ) (row : s.Row) → by_stamp vm.refs.rows k ≡ Some row → AgreesAt vm.refs touched k row.form
