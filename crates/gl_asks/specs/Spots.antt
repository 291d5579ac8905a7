-- The ids of the positions of the updating program, in the order in which they are asked.
use Rattle.std.specs.Prelude.{List, [], ◌∷◌, ◌++◌, map}
use Rattle.gl_arena.specs.Id.{Id}
use Rattle.gl_code.specs.declared.code.AttrSpot.{AttrSpot}
use Rattle.gl_code.specs.declared.code.ModSpot.{ModSpot}
use Rattle.gl_code.specs.declared.code.Code.{Code, fold-Code}
use Rattle.gl_code.specs.declared.code.Codes.{Codes, fold-Codes}
use Rattle.gl_code.specs.declared.code.ItemCode.{ItemCode}
use Rattle.gl_code.specs.declared.code.Code.TheOpen.{Code-F, ItemCode-F, Codes-F}

abbrev pub attr_ids : List AttrSpot → List Id
attr_ids xs = map (λ x. x.spot.id) xs

abbrev pub mod_ids : List ModSpot → List Id
mod_ids zs = map (λ z. z.spot.id) zs

-- one list after another
abbrev pub joined : List (List Id) → List Id
joined [] = []
joined (x ∷ xs) = x ++ joined xs

-- An element's attributes come before what is in it, and its modifiers after it; a condition or a list comes before what it holds.
abbrev pub code_step : Code-F (List Id) (List Id) (List Id) → List Id
code_step (Code-F.Still k) = []
code_step (Code-F.Put k x) = x.id ∷ []
code_step (Code-F.Element k made xs zs cs) = attr_ids xs.items ++ (cs ++ mod_ids zs.items)
code_step (Code-F.Branch z x u k cs) = x.id ∷ cs
code_step (Code-F.Listed z x is) = x.id ∷ joined is.items
code_step (Code-F.Unlisted z x k cs) = x.id ∷ cs
code_step (Code-F.Let made ps cs) = cs
code_step (Code-F.Component o b made args cs) = cs
code_step (Code-F.Root o cs) = cs
code_step (Code-F.Yield t made ps cs) = cs

abbrev pub item_step : ItemCode-F (List Id) (List Id) (List Id) → List Id
item_step x = x.body

abbrev pub codes_step : Codes-F (List Id) (List Id) (List Id) → List Id
codes_step x = joined x.list.items

abbrev pub code_ids : Code → List Id
code_ids = fold-Code (List Id) (List Id) (List Id) code_step codes_step item_step

abbrev pub body_ids : Codes → List Id
body_ids = fold-Codes (List Id) (List Id) (List Id) code_step codes_step item_step

abbrev pub items_ids : List ItemCode → List Id
items_ids xs = joined (map (λ x. body_ids x.body) xs)
