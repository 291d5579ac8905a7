-- The ids of the positions of a program, read one statement at a time.
use Rattle.std.proofs.Common.{◌≡◌, ℕ, ◌+◌, ◌<◌, List, [], ◌∷◌, ◌++◌, map, drop, length, get_or, rules, sym, ap, ap₂, ◌∙◌}
use Rattle.std.specs.declared.vec.Vec.{Vec}
use Rattle.std.specs.declared.alloc.Global.{Global}
use Rattle.gl_base.proofs.Lists.{drop_item}
use Rattle.gl_arena.specs.Id.{Id}
use Rattle.gl_code.specs.declared.code.Spot.{Spot}
use Rattle.gl_code.specs.declared.code.AttrSpot.{AttrSpot}
use Rattle.gl_code.specs.declared.code.ModSpot.{ModSpot}
use Rattle.gl_code.specs.declared.code.Code.{Code, the_lemmas}
use Rattle.gl_code.specs.declared.code.Codes.{Codes}
use Rattle.gl_code.specs.declared.code.ItemCode.{ItemCode}
use Rattle.gl_code.specs.declared.code.Code.TheVariants.{Element, Branch, Listed, Unlisted, Let, Component, Root, Yield, Still, Put}
use Rattle.gl_asks.specs.Spots.{attr_ids, mod_ids, joined, code_ids, body_ids, items_ids}

pub still_ids : (node : _) → code_ids (Still node) ≡ []
still_ids node = search (rules, the_lemmas)

pub put_ids : (node : _) (spot : Spot) → code_ids (Put node spot) ≡ spot.id ∷ []
put_ids node spot = search (rules, the_lemmas)

element_is : (node made : _) (attrs : Vec AttrSpot Global) (mods : Vec ModSpot Global) (body : Codes) → code_ids (Element node made attrs mods body) ≡ attr_ids attrs.items ++ (body_ids body ++ mod_ids mods.items)
element_is node made attrs mods body = search (rules, the_lemmas)

pub element_ids : (node made : _) (attrs : Vec AttrSpot Global) (mods : Vec ModSpot Global) (body : Codes) (xs : List AttrSpot) (zs : List ModSpot) → xs ≡ attrs.items → zs ≡ mods.items
    → code_ids (Element node made attrs mods body) ≡ attr_ids xs ++ (body_ids body ++ mod_ids zs)
element_ids node made attrs mods body xs zs e f = element_is node made attrs mods body ∙ ap₂ (λ ys ws. attr_ids ys ++ (body_ids body ++ mod_ids ws)) (sym e) (sym f)

pub branch_ids : (choice : _) (spot : Spot) (main comment : _) (body : Codes) → code_ids (Branch choice spot main comment body) ≡ spot.id ∷ body_ids body
branch_ids choice spot main comment body = search (rules, the_lemmas)

pub listed_ids : (listing : _) (spot : Spot) (items : Vec ItemCode Global) → code_ids (Listed listing spot items) ≡ spot.id ∷ items_ids items.items
listed_ids listing spot items = search (rules, the_lemmas)

pub unlisted_ids : (listing : _) (spot : Spot) (comment : _) (body : Codes) → code_ids (Unlisted listing spot comment body) ≡ spot.id ∷ body_ids body
unlisted_ids listing spot comment body = search (rules, the_lemmas)

pub let_ids : (made params : _) (body : Codes) → code_ids (Let made params body) ≡ body_ids body
let_ids made params body = search (rules, the_lemmas)

pub component_ids : (owner block made args : _) (body : Codes) → code_ids (Component owner block made args body) ≡ body_ids body
component_ids owner block made args body = search (rules, the_lemmas)

pub root_ids : (owner : _) (body : Codes) → code_ids (Root owner body) ≡ body_ids body
root_ids owner body = search (rules, the_lemmas)

pub yield_ids : (name made params : _) (body : Codes) → code_ids (Yield name made params body) ≡ body_ids body
yield_ids name made params body = search (rules, the_lemmas)

body_is : (codes : Codes) → body_ids codes ≡ joined (map code_ids codes.list.items)
body_is codes = search (rules, the_lemmas)

-- the statements of a body
abbrev pub codes_ids : List Code → List Id
codes_ids xs = joined (map code_ids xs)

pub body_all : (codes : Codes) (xs : List Code) → xs ≡ codes.list.items → codes_ids xs ≡ body_ids codes
body_all codes xs e = ap codes_ids e ∙ sym (body_is codes)

-- one part more, and none
pub code_next : (xs : List Code) (i : ℕ) (x : Code) → i < length xs → x ≡ get_or xs i x → codes_ids (drop i xs) ≡ code_ids x ++ codes_ids (drop (i + 1) xs)
code_next xs i x lt is = ap codes_ids (drop_item xs i x lt is)

pub item_next : (xs : List ItemCode) (i : ℕ) (x : ItemCode) → i < length xs → x ≡ get_or xs i x → items_ids (drop i xs) ≡ body_ids x.body ++ items_ids (drop (i + 1) xs)
item_next xs i x lt is = ap items_ids (drop_item xs i x lt is)

pub attr_next : (xs : List AttrSpot) (i : ℕ) (x : AttrSpot) → i < length xs → x ≡ get_or xs i x → attr_ids (drop i xs) ≡ (x.spot.id ∷ []) ++ attr_ids (drop (i + 1) xs)
attr_next xs i x lt is = ap attr_ids (drop_item xs i x lt is)

pub mod_next : (xs : List ModSpot) (i : ℕ) (x : ModSpot) → i < length xs → x ≡ get_or xs i x → mod_ids (drop i xs) ≡ (x.spot.id ∷ []) ++ mod_ids (drop (i + 1) xs)
mod_next xs i x lt is = ap mod_ids (drop_item xs i x lt is)
