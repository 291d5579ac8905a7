-- Each value is less deep than the list or the record that holds it.
use Rattle.std.specs.Prelude.{◌≤◌, suc, List, [], ◌∷◌}
use Rattle.std.proofs.Common.{arith}
use Rattle.gl_value.specs.Value.{depth, values_of, values_depth, pairs_of, members_depth}
use Rattle.gl_value.specs.View.{view, seen_items, seen_pairs}
use Rattle.gl_value.specs.declared.value.Value.{Value}
use Rattle.gl_value.specs.declared.value.Pair.{Pair}
use Rattle.gl_value.specs.declared.value.Value.TheVariants as code
use Rattle.gl_value.specs.declared.value.List.TheDeep.{deep-Value, deep-Pair, deep-List, deep-Record}
use Rattle.gl_value.specs.declared.value.List.TheInside.{Inside as ListInside}
use Rattle.gl_value.specs.declared.value.Record.TheInside.{Inside as RecordInside}
use denote.Param.Weighed.{most}

value_falls : (v : Value) → deep-Value v ≤ suc (depth (view v))
value_falls code.Undefined = omega arith
value_falls code.Null = omega arith
value_falls (code.Bool b) = omega arith
value_falls (code.Int i) = omega arith
value_falls (code.Text t) = omega arith
value_falls (code.List vs) = omega arith
value_falls (code.Record ps) = omega arith
value_falls (code.Act a) = omega arith

most_items : (vs : List Value) → most deep-Value vs ≤ suc (values_depth (values_of (seen_items vs)))
most_items [] = omega arith
most_items (v ∷ vs) = omega (arith, value_falls v, most_items vs)

most_pairs : (ps : List Pair) → most deep-Pair ps ≤ suc (members_depth (pairs_of (seen_pairs ps)))
most_pairs [] = omega arith
most_pairs (p ∷ ps) = omega (arith, value_falls p.value, most_pairs ps)

pub list_falls : (a : ListInside) → deep-List a ≤ suc (values_depth (values_of (seen_items a.list.value.items)))
list_falls a = omega (arith, most_items a.list.value.items)

pub record_falls : (a : RecordInside) → deep-Record a ≤ suc (members_depth (pairs_of (seen_pairs a.list.value.items)))
record_falls a = omega (arith, most_pairs a.list.value.items)
