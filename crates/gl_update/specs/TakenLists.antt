-- Lists that are taken out of the updating program.
use Rattle.std.specs.Prelude.{◌≡◌, map}
use Rattle.gl_machine.specs.Code.{listed_code, unlisted_code}
use Rattle.gl_nodes.specs.Flat.{stamp_of}
use Rattle.gl_vm.specs.View.{Tables}
use Rattle.gl_code.specs.CodeView.{seen_code, seen_codes, seen_listing, seen_spot, seen_item_code, all_items}
use Rattle.gl_code.specs.declared.code.Code.{Code}
use Rattle.gl_update.specs.declared.taken.Taken.{Taken}
use Rattle.gl_update.specs.declared.taken.Taken.TheVariants.{Items, Other, Nothing}

abbrev pub TakenOut : Code → Taken → Type 0
TakenOut x (Items b) = (n : Tables) → seen_code n x ≡ listed_code (seen_listing n b.value.listing) (seen_spot b.value.spot) (all_items (map (seen_item_code n) b.value.items.items))
TakenOut x (Other b) = (n : Tables) → seen_code n x ≡ unlisted_code (seen_listing n b.value.listing) (seen_spot b.value.spot) (stamp_of b.value.comment) (seen_codes n b.value.body)
TakenOut x Nothing = Unit {0}
