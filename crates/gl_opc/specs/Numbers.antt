-- The numbers that operands have in place of names: those of a manifest, of its class, of the helpers and of the symbols.
use Rattle.std.specs.Prelude.{ℕ, suc, List, ◌∷◌, map, Option, Some, None, codes, position, option_map, slice_get}
use Rattle.std.specs.Str.{bytes_eq}
use Rattle.gl_base.specs.Names.{named, or_else}
use Rattle.gl_base.specs.Texts.{Text}
use Rattle.gl_names.specs.Helpers.{helper_rows}
use Rattle.gl_ops.specs.declared.op.Op.{Op}
use Rattle.gl_ops.specs.declared.op.Op.TheVariants.{Field, Getter, Action, Item}
use Rattle.gl_meaning.specs.Manifest.{Manifest, ClassEntry}
use Rattle.gl_wire.specs.Symbols.{place_of}

-- the number of a name: the place of the first that is it
abbrev pub number_in : List Text → Text → Option ℕ
number_in names n = position (λ m. bytes_eq n m) names

-- The classes, and the fields, getters and actions of each class, stand in the byte order of their names.
abbrev pub class_number : Manifest → Text → Option ℕ
class_number m n = number_in (map (λ c. c.name) m.classes) n

-- `on` is before the manifest's own
abbrev pub modifier_number : Manifest → Text → Option ℕ
modifier_number m n = number_in (codes "on" ∷ m.modifiers) n

abbrev pub helper_number : Text → Option ℕ
helper_number n = named n helper_rows

abbrev pub keys : {A : Type 0} → List (Text × A) → List Text
keys rows = map (λ r. r.0) rows

-- the opcode of a member of `this`: a field, a getter or an action
abbrev pub member_op : ClassEntry → Text → Option Op
member_op c n =
    or_else (option_map Field (number_in (keys c.fields) n))
    (or_else (option_map Getter (number_in (keys c.getters) n)) (option_map Action (number_in (keys c.actions) n)))

-- the symbol of a block parameter plus one, 0 where there is none
abbrev pub parameter_symbol : List Text → Option Text → ℕ
parameter_symbol symbols None = 0
parameter_symbol symbols (Some n) = suc (place_of symbols n)

-- the start of an item, by the parameters of its `each`: one for the item, and one for its index
abbrev pub item_op : List Text → List Text → Op
item_op symbols params = Item (parameter_symbol symbols (slice_get params 0)) (parameter_symbol symbols (slice_get params 1))
