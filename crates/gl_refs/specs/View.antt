-- What the code's references stand for.
use Rattle.std.specs.Prelude.{◌≡◌, ℕ, nat_eq, Option, Some, None, option_map, unwrap_or, IsSome, List, map}
use Rattle.std.specs.HashMap.{get}
use denote.Ref.{Bor}
use Rattle.gl_arena.specs.Id.{Id}
use Rattle.gl_value.specs.Value.{undefined}
use Rattle.gl_refs.specs.declared.table.Table.{Table}
use Rattle.gl_arena.specs.Arena.{Arena, named}
use Rattle.gl_arena.specs.Mapped.{mapped}
use Rattle.gl_value.specs.View.{view}
use Rattle.gl_value.specs.declared.value.Value.{Value}
use Rattle.gl_refs.specs.Forms as m
use Rattle.gl_refs.specs.State as s
use Rattle.gl_refs.specs.declared.form.Form.{Form}
use Rattle.gl_refs.specs.declared.form.Form.TheVariants.{Prop, Call, Cat, All}
use Rattle.gl_refs.specs.declared.row.Rule.{Rule}
use Rattle.gl_refs.specs.declared.row.Rule.TheVariants as rule
use Rattle.gl_refs.specs.declared.row.Kind.{Kind}
use Rattle.gl_refs.specs.declared.row.Kind.TheVariants.{Constant, Source, Position, Bound}
use Rattle.gl_refs.specs.declared.row.Mark.{Mark}
use Rattle.gl_refs.specs.declared.row.Last.{Last}
use Rattle.gl_refs.specs.declared.row.Row.{Row}
use Rattle.gl_refs.specs.declared.settling.Waiting.{Waiting}

abbrev pub seen_form : Form → m.Form
seen_form (Prop r name) = m.prop_form r name
seen_form (Call h ids named) = m.call_form h ids named
seen_form (Cat ids) = m.cat_form ids
seen_form (All ids) = m.all_form ids

abbrev pub seen_rule : Rule → m.Form
seen_rule (rule.Prop r name) = m.prop_form r name
seen_rule (rule.Call h ids named) = m.call_form h ids named
seen_rule (rule.Cat ids) = m.cat_form ids

abbrev pub seen_kind : Kind → m.Form
seen_kind (Constant v) = m.constant_form (view v)
seen_kind (Source item tag v) = m.source_form item tag (view v)
seen_kind (Position ids last) = m.all_form ids
seen_kind (Bound b) = seen_rule b.value.rule

abbrev pub seen_last : Last → s.Last
seen_last l = record { value = view l.value; order = l.order; tag = l.tag }

-- the last evaluation of a position, whose value is undefined
abbrev pub seen_mark : Mark → s.Last
seen_mark m = record { value = undefined; order = m.order; tag = m.tag }

-- the last evaluation of a row of that kind
abbrev pub kind_last : Kind → Option s.Last
kind_last (Constant v) = None
kind_last (Source item tag v) = None
kind_last (Position ids last) = option_map seen_mark last
kind_last (Bound b) = option_map seen_last b.value.last

-- what may be the value of an evaluation: of a position it is undefined, and a constant and a source have none
abbrev pub TakesLast : m.Form → m.V → Type 0
TakesLast (m.constant_form v) w = ⊥
TakesLast (m.source_form k t v) w = ⊥
TakesLast (m.all_form ids) w = w ≡ undefined
TakesLast g w = Unit {0}

abbrev pub seen_row : Row → s.Row
seen_row r = record { form = seen_kind r.kind; last = kind_last r.kind }

-- the rows as an arena, and by id
abbrev pub rows_in : Arena Row → Arena s.Row
rows_in a = mapped seen_row a

abbrev pub rows_of : Arena Row → s.Rows
rows_of a i = option_map seen_row (named a i)

-- a source with another value
abbrev pub kind_with : Kind → Value → Kind
kind_with (Source item tag v) value = Source item tag value
kind_with (Constant v) value = Constant v
kind_with (Position ids last) value = Position ids last
kind_with (Bound b) value = Bound b

abbrev pub row_with : Row → Value → Row
row_with r value = record r { kind = kind_with r.kind value }

-- what a table has at a stamp
abbrev pub found_at : Table → ℕ → Option m.V
found_at t k = option_map view (get nat_eq t.map k)

-- a constant, a cell and an item have their values by themselves; the others have what the table has
abbrev pub found_by : Option m.V → m.Form → Option m.V
found_by o (m.constant_form v) = Some v
found_by o (m.source_form k t v) = Some v
found_by o g = o

abbrev pub found_row : Option m.V → Option s.Row → Option m.V
found_row o None = None
found_row o (Some r) = found_by o r.form

abbrev pub found_in : Table → s.Rows → Id → Option m.V
found_in t rows i = found_row (found_at t i.1) (rows i)

-- what stands for a reference: what was found, where there is a table, or else what is held
abbrev pub value_in : Option (Bor Table) → s.Rows → Id → m.V
value_in None rows = s.held_value rows
value_in (Some t) rows = λ i. unwrap_or (found_in t.now rows i) undefined

-- what is read, by what was found
abbrev pub reads_in : Table → s.Rows → Id → List Id
reads_in t rows i = m.reads (λ q. unwrap_or (found_in t rows q) undefined) (m.form_at (s.forms rows) i)

abbrev pub IsFound : Table → s.Rows → Id → Type 0
IsFound t rows i = IsSome (found_in t rows i)

-- what was found is what it means
abbrev pub IsTable : Table → s.Rows → Type 0
IsTable t rows = (i : Id) (v : m.V) → found_in t rows i ≡ Some v → v ≡ (m.meaning (s.forms rows) i).value

abbrev pub seen_waiting : Waiting → s.Waiting
seen_waiting w = record { id = w.id; next = w.next }

abbrev pub seen_stack : List Waiting → List s.Waiting
seen_stack ws = map seen_waiting ws
