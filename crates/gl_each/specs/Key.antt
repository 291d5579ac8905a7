-- The key of an item: its value, and how many items before it have an equal one.
use Rattle.std.specs.Prelude.{ℕ, List, map, Bool, ◌&&◌, nat_eq}
use Rattle.std.specs.Coded.{Coded, coded×, coded_ℕ}
use Rattle.gl_value.specs.Value.{Value, same}
use Rattle.gl_value.specs.Code.{value_code}
use Rattle.gl_ast.specs.ExprCode.{owned}
use Rattle.gl_meaning.specs.Render.{Entry}

abbrev pub Key : Type 0
Key = Value ℕ × ℕ

abbrev pub key_code : Coded Key
key_code = coded× value_code coded_ℕ

-- the keys have the same value and the same occurrence
abbrev pub same_key : Key → Key → Bool
same_key k l = same nat_eq k.0 l.0 && nat_eq k.1 l.1

-- the keys of the items of a list
abbrev pub entry_key : Entry → Key
entry_key e = (owned e.key, e.occurrence)

abbrev pub entry_keys : List Entry → List Key
entry_keys es = map entry_key es
