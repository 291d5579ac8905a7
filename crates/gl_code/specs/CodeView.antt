-- What the code's updating program stands for.
use Rattle.std.specs.Prelude.{ℕ, List, [], ◌∷◌, ◌++◌, map, Option, Some, None, option_map}
use Rattle.gl_arena.specs.Id.{Id}
use Rattle.gl_value.specs.Value.{plain}
use Rattle.gl_value.specs.View.{view}
use Rattle.gl_plain.specs.Ids as p
use Rattle.gl_plain.specs.State.{Names, Inst}
use Rattle.gl_plain.specs.Binding as b
use Rattle.gl_plain.specs.Live as l
use Rattle.gl_machine.specs.Code as c
use Rattle.gl_vm.specs.View.{Tables, stamps, name_stamps}
use Rattle.gl_code.specs.View.{refs_made, seen_owner, seen_sight}
use Rattle.gl_code.specs.declared.code.Spot.{Spot}
use Rattle.gl_code.specs.declared.code.AttrSpot.{AttrSpot}
use Rattle.gl_code.specs.declared.code.ModSpot.{ModSpot}
use Rattle.gl_code.specs.declared.code.ItemSpot.{ItemSpot}
use Rattle.gl_code.specs.declared.code.Choice.{Choice}
use Rattle.gl_code.specs.declared.code.Listing.{Listing}
use Rattle.gl_code.specs.declared.code.Code.{Code, fold-Code}
use Rattle.gl_code.specs.declared.code.Codes.{Codes, fold-Codes}
use Rattle.gl_code.specs.declared.code.ItemCode.{ItemCode, fold-ItemCode}
use Rattle.gl_code.specs.declared.code.Code.TheOpen.{Code-F, ItemCode-F, Codes-F}

-- the position itself is the last of what was made for it
abbrev pub seen_spot : Spot → b.Spot
seen_spot x = record { ref = x.id.1; made = refs_made x.made ++ p.ref x.id.1 ∷ [] }

abbrev pub seen_attr_spot : AttrSpot → l.AttrSpot
seen_attr_spot x = record { name = x.name; spot = seen_spot x.spot }

abbrev pub seen_mod_spot : ModSpot → l.ModSpot
seen_mod_spot x = record { id = x.id.1; positional = x.positional; names = x.names; spot = seen_spot x.spot }

abbrev pub seen_item_spot : ItemSpot → l.ItemSpot
seen_item_spot x = record { key = plain (view x.key); occurrence = x.occurrence; value = x.value.1; index = x.index.1; more = []; params = stamps x.params }

abbrev pub seen_choice : Tables → Choice → c.Choice
seen_choice n z = record { unless = z.unless; first = z.first; second = z.second; sight = seen_sight n z.sight.value }

abbrev pub seen_listing : Tables → Listing → c.Listing
seen_listing n z = record { key = z.key; value = z.value; index = z.index; body = z.body; other = z.other; sight = seen_sight n z.sight.value }

abbrev pub stamp_of : Option Id → Option ℕ
stamp_of o = option_map (λ i. i.1) o

-- with its instance, what was made before the cells, and these
abbrev pub component_seen : Inst → List p.Id → List p.Id → Names → Option ℕ → c.Codes → c.Code
component_seen i made cells args k cs = c.component_code i (p.instance_id i.id ∷ (made ++ cells)) made args k cs

-- a list of what was rendered, in order
abbrev pub all_codes : List c.Code → c.Codes
all_codes [] = c.no_codes
all_codes (x ∷ xs) = c.code_and x (all_codes xs)

abbrev pub all_items : List (l.ItemSpot × (Option ℕ × c.Codes)) → c.ItemCodes
all_items [] = c.no_item_codes
all_items (x ∷ xs) = c.item_code x.0 x.1.0 x.1.1 (all_items xs)

abbrev pub code_step : Tables → Code-F c.Code c.Codes (l.ItemSpot × (Option ℕ × c.Codes)) → c.Code
code_step n (Code-F.Still k) = c.still_code k.1
code_step n (Code-F.Put k x) = c.put_code k.1 (seen_spot x)
code_step n (Code-F.Element k made xs zs cs) = c.element_code k.1 (refs_made made) (map seen_attr_spot xs.items) (map seen_mod_spot zs.items) cs
code_step n (Code-F.Branch z x u k cs) = c.branch_code (seen_choice n z) (seen_spot x) u (stamp_of k) cs
code_step n (Code-F.Listed z x is) = c.listed_code (seen_listing n z) (seen_spot x) (all_items is.items)
code_step n (Code-F.Unlisted z x k cs) = c.unlisted_code (seen_listing n z) (seen_spot x) (stamp_of k) cs
code_step n (Code-F.Let made ps cs) = c.let_code (refs_made made) (stamps ps) cs
code_step n (Code-F.Component o b made args cs) = component_seen (seen_owner n o.value) (p.block_id b.1 ∷ refs_made made) (refs_made o.value.cells) (name_stamps args.value) (Some b.1) cs
code_step n (Code-F.Root o cs) = component_seen (seen_owner n o.value) [] (refs_made o.value.cells) [] None cs
code_step n (Code-F.Yield t made ps cs) = c.yield_code t (refs_made made) (stamps ps) cs

abbrev pub item_step : ItemCode-F c.Code c.Codes (l.ItemSpot × (Option ℕ × c.Codes)) → l.ItemSpot × (Option ℕ × c.Codes)
item_step x = (seen_item_spot x.spot, (stamp_of x.comment, x.body))

abbrev pub codes_step : Codes-F c.Code c.Codes (l.ItemSpot × (Option ℕ × c.Codes)) → c.Codes
codes_step x = all_codes x.list.items

abbrev pub seen_code : Tables → Code → c.Code
seen_code n = fold-Code c.Code c.Codes (l.ItemSpot × (Option ℕ × c.Codes)) (code_step n) codes_step item_step

abbrev pub seen_codes : Tables → Codes → c.Codes
seen_codes n = fold-Codes c.Code c.Codes (l.ItemSpot × (Option ℕ × c.Codes)) (code_step n) codes_step item_step

abbrev pub seen_item_code : Tables → ItemCode → l.ItemSpot × (Option ℕ × c.Codes)
seen_item_code n = fold-ItemCode c.Code c.Codes (l.ItemSpot × (Option ℕ × c.Codes)) (code_step n) codes_step item_step
