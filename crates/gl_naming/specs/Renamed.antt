-- What is kept, with other names of owners and sources.
use Rattle.std.specs.Prelude.{◌≡◌, ℕ, List, [], ◌∷◌, map, Bool, true, false, Option, Some, None}
use Rattle.gl_base.specs.Texts.{Text}
use Rattle.gl_value.specs.Owners.{with_owners}
use Rattle.gl_meaning.specs.Path.{Path, V, main, otherwise, items, item, slot}
use Rattle.gl_meaning.specs.Scope.{Source, cell, item_value, item_index, Pair}
use Rattle.gl_meaning.specs.App.{App}
use Rattle.gl_meaning.specs.Eval.{Store, cell_value}
use Rattle.gl_meaning.specs.Render.{Entry}
use Rattle.gl_labels.specs.Laws.{names_with}
use Rattle.gl_plain.specs.State.{Form, constant_form, source_form, property_form, call_form, joined_form, all_form, Row, Names, Inst, MScope, mscope, MPassed, mnothing, mpassed, Installed, Thing, row, content, instance_row, block_row, modifier_row, State}
use Rattle.gl_plain.specs.Naming.{by_number}
use Rattle.gl_plain.specs.Binding.{Bound, BoundAll, BoundNames, Placed}
use Rattle.gl_plain.specs.Tags.{BoundParts, AttrsGiven, ModsGrown}
use Rattle.gl_plain.specs.Grow.{Arm, ItemGrown}
use Rattle.gl_plain.specs.Live.{ItemSpot, Live, element_live, branch_live, listed, unlisted, let_live, component_live, yield_live, Items, no_items, item_live, Lives, no_lives, live_and}

-- f gives each owner its other name, and g each source.
module _ (f : Path → Path) (g : Source → Source) where
  abbrev pub pair_with : Pair → Pair
  pair_with p = record { value = with_owners f p.value; sources = map g p.sources }

  abbrev pub form_with : Form → Form
  form_with (constant_form v) = constant_form (with_owners f v)
  form_with (source_form x v) = source_form (g x) (with_owners f v)
  form_with (property_form r k) = property_form r k
  form_with (call_form n rs ns) = call_form n rs ns
  form_with (joined_form rs) = joined_form rs
  form_with (all_form rs) = all_form rs

  -- the test whether one of the sources passes, of sources with their other names
  abbrev pub row_with : Row → Row
  row_with x = record { form = form_with x.form; last = λ t. x.last (λ y. t (g y)) }

  abbrev pub installed_with : Installed → Installed
  installed_with x = record { on_node = x.on_node; place = x.place; name = x.name; args = map (with_owners f) x.args; names = names_with f x.names }

  abbrev pub thing_with : Thing → Thing
  thing_with (row x) = row (row_with x)
  thing_with (content c) = content c
  thing_with (instance_row i) = instance_row i
  thing_with block_row = block_row
  thing_with (modifier_row x) = modifier_row (installed_with x)

  abbrev pub there_with : Option Thing → Option Thing
  there_with None = None
  there_with (Some x) = Some (thing_with x)

  -- the state, in which just the sources of t are touched
  abbrev pub state_with : (Source → Bool) → State → State
  state_with t st = record { look = λ q. there_with (st.look q); next = st.next; touched = t; evaluated = st.evaluated; installs = st.installs; updates = st.updates }

  -- what was bound and placed
  abbrev pub bound_with : (Source → Bool) → Bound → Bound
  bound_with t b = record { id = b.id; made = b.made; state = state_with t b.state }

  abbrev pub bound_all_with : (Source → Bool) → BoundAll → BoundAll
  bound_all_with t b = record { ids = b.ids; made = b.made; state = state_with t b.state }

  abbrev pub bound_names_with : (Source → Bool) → BoundNames → BoundNames
  bound_names_with t b = record { names = b.names; made = b.made; state = state_with t b.state }

  abbrev pub placed_with : (Source → Bool) → Placed → Placed
  placed_with t x = record { spot = x.spot; pairs = map pair_with x.pairs; state = state_with t x.state }

  abbrev pub parts_with : (Source → Bool) → BoundParts → BoundParts
  parts_with t b = record { parts = b.parts; made = b.made; state = state_with t b.state }

  abbrev pub attrs_with : (Source → Bool) → AttrsGiven → AttrsGiven
  attrs_with t b = record { attrs = b.attrs; spots = b.spots; state = state_with t b.state }

  abbrev pub mods_with : (Source → Bool) → ModsGrown → ModsGrown
  mods_with t b = record { spots = b.spots; state = state_with t b.state }

  -- what was appended
  abbrev pub run_with : {A : Type 0} → (Source → Bool) → A × State → A × State
  run_with t r = (r.0, state_with t r.1)

  abbrev pub arm_with : (Source → Bool) → Arm → Arm
  arm_with t a = record { comment = a.comment; lives = a.lives; state = state_with t a.state }

  abbrev pub grown_with : (Source → Bool) → ItemGrown → ItemGrown
  grown_with t x = record { spot = x.spot; arm = arm_with t x.arm }

  abbrev pub entry_with : Entry → Entry
  entry_with x = record { key = x.key; occurrence = x.occurrence; value = with_owners f x.value; index = x.index }

  -- each cell of the second store holds what it holds in the first one
  abbrev pub StoresAgree : App → Store → Store → Type 0
  StoresAgree app σ τ = (q : Path) (x : Text) → cell_value app τ q x ≡ with_owners f (cell_value app σ q x)

-- Where the names of numbers are right: f gives the owner of an instance its path, and g each source of a tree that of its path.
module _ (f : Path → Path) (g : Source → Source) where
  abbrev pub OwnerRight : Inst → Type 0
  OwnerRight i = f (by_number.owner i) ≡ i.path

  abbrev mutual
    pub ScopeRight : MScope → Type 0
    ScopeRight (mscope i a l w) = OwnerRight i × PassedRight w

    pub PassedRight : MPassed → Type 0
    PassedRight mnothing = Unit {0}
    PassedRight (mpassed b ps bs s) = ScopeRight s

  abbrev pub CellsRight : Path → Names → Type 0
  CellsRight p [] = Unit {0}
  CellsRight p (c ∷ cs) = (g (by_number.cell_source c.1 p c.0) ≡ cell p c.0) × CellsRight p cs

  abbrev pub SpotRight : Path → ItemSpot → Type 0
  SpotRight p z = (g (by_number.value_source z.value p) ≡ item_value p) × (g (by_number.index_source z.index p) ≡ item_index p)

  abbrev mutual
    pub Right : Path → Live → Type 0
    Right p (element_live n made xs zs ls) = RightIn p 0 ls
    Right p (branch_live z true k ls) = RightIn (main ∷ p) 0 ls
    Right p (branch_live z false k ls) = RightIn (otherwise ∷ p) 0 ls
    Right p (listed z is) = RightItems (items ∷ p) is
    Right p (unlisted z k ls) = RightIn (otherwise ∷ p) 0 ls
    Right p (let_live made rs ls) = RightIn (main ∷ p) 0 ls
    Right p (component_live i made gm args k ls) = OwnerRight i × CellsRight i.path i.cells × RightIn i.path 0 ls
    Right p (yield_live n made rs ls) = RightIn (slot n ∷ p) 0 ls
    Right p _ = Unit {0}

    pub RightItems : Path → Items → Type 0
    RightItems p no_items = Unit {0}
    RightItems p (item_live z k ls is) = SpotRight (item z.key z.occurrence ∷ p) z × RightIn (item z.key z.occurrence ∷ p) 0 ls × RightItems p is

    pub RightIn : Path → ℕ → Lives → Type 0
    RightIn p i no_lives = Unit {0}
    RightIn p i (live_and l ls) = Right (Rattle.gl_meaning.specs.Path.at i ∷ p) l × RightIn p (Rattle.std.specs.Prelude.suc i) ls
