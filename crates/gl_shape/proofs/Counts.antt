-- How many members and items there are.
use Rattle.std.proofs.Common.{◌≡◌, List, [], ◌∷◌, length, refl, arith, String, Global}
use Rattle.serde_json.specs.View.{members_view, items_view}
use Rattle.serde_json.specs.declared.value.Value.{Value}
use Rattle.gl_meaning.specs.JsonText.{count_members, count_items}

pub count_members-view : (es : List (String Global × Value)) → count_members (members_view es) ≡ length es
count_members-view [] = refl
count_members-view (e ∷ es) = omega (arith, count_members-view es)

pub count_items-view : (vs : List Value) → count_items (items_view vs) ≡ length vs
count_items-view [] = refl
count_items-view (v ∷ vs) = omega (arith, count_items-view vs)

pub ruleset counts = (count_members-view, count_items-view)
