-- The positions of a program, read one statement at a time.
use Rattle.std.proofs.Common.{◌≡◌, ℕ, ◌+◌, ◌<◌, ◌≤◌, List, [], ◌∷◌, ◌++◌, map, drop, length, get_or, rules, sym, ap, ap₂, ◌∙◌, Bool}
use Rattle.std.specs.Prelude.{Result, IfOk}
use Rattle.std.proofs.lemmas.Result.{IfOk-weaker}
use Rattle.std.proofs.lemmas.List.{drop_all}
use Rattle.std.specs.declared.vec.Vec.{Vec}
use Rattle.std.specs.declared.alloc.Global.{Global}
use Rattle.gl_base.proofs.Lists.{drop_item}
use Rattle.gl_plain.specs.Counts.{positions_of, positions_in, positions_items, attr_positions, mod_positions}
use Rattle.gl_machine.specs.Code as c
use Rattle.gl_vm.specs.View.{Tables}
use Rattle.gl_code.specs.CodeView.{seen_code, seen_codes, seen_item_code, seen_attr_spot, seen_mod_spot, all_codes, all_items}
use Rattle.gl_code.specs.declared.code.Spot.{Spot}
use Rattle.gl_code.specs.declared.code.AttrSpot.{AttrSpot}
use Rattle.gl_code.specs.declared.code.ModSpot.{ModSpot}
use Rattle.gl_code.specs.declared.code.Code.{Code, the_lemmas}
use Rattle.gl_code.specs.declared.code.Codes.{Codes}
use Rattle.gl_code.specs.declared.code.ItemCode.{ItemCode}
use Rattle.gl_code.specs.declared.code.Code.TheVariants.{Element, Branch, Listed, Unlisted, Let, Component, Root, Yield, Still, Put}
use Rattle.gl_code.proofs.CodeNests.{body_is}
use Rattle.gl_vm.specs.declared.vm.Vm.{Vm}
use Rattle.gl_asks.specs.Asked.{Asked}
use Rattle.gl_asks.proofs.Asked.{asked_as}

abbrev pub code_spots : Tables → Code → List ℕ
code_spots n x = positions_of (c.live_of (seen_code n x))

abbrev pub codes_spots : Tables → List Code → List ℕ
codes_spots n xs = positions_in (c.lives_of (all_codes (map (seen_code n) xs)))

abbrev pub items_spots : Tables → List ItemCode → List ℕ
items_spots n xs = positions_items (c.items_of (all_items (map (seen_item_code n) xs)))

abbrev pub body_spots : Tables → Codes → List ℕ
body_spots n body = positions_in (c.lives_of (seen_codes n body))

abbrev pub attr_spots : List AttrSpot → List ℕ
attr_spots xs = attr_positions (map seen_attr_spot xs)

abbrev pub mod_spots : List ModSpot → List ℕ
mod_spots zs = mod_positions (map seen_mod_spot zs)

module _ (n : Tables) where
  pub still_spots : (node : _) → code_spots n (Still node) ≡ []
  still_spots node = search (rules, the_lemmas)

  pub put_spots : (node : _) (spot : Spot) → code_spots n (Put node spot) ≡ spot.id.1 ∷ []
  put_spots node spot = search (rules, the_lemmas)

  element_is : (node made : _) (attrs : Vec AttrSpot Global) (mods : Vec ModSpot Global) (body : Codes)
      → code_spots n (Element node made attrs mods body) ≡ attr_spots attrs.items ++ (body_spots n body ++ mod_spots mods.items)
  element_is node made attrs mods body = search (rules, the_lemmas)

  pub element_spots : (node made : _) (attrs : Vec AttrSpot Global) (mods : Vec ModSpot Global) (body : Codes) (xs : List AttrSpot) (zs : List ModSpot) → xs ≡ attrs.items → zs ≡ mods.items
      → code_spots n (Element node made attrs mods body) ≡ attr_spots xs ++ (body_spots n body ++ mod_spots zs)
  element_spots node made attrs mods body xs zs e f = element_is node made attrs mods body ∙ ap₂ (λ ys ws. attr_spots ys ++ (body_spots n body ++ mod_spots ws)) (sym e) (sym f)

  pub branch_spots : (choice : _) (spot : Spot) (main comment : _) (body : Codes) → code_spots n (Branch choice spot main comment body) ≡ spot.id.1 ∷ body_spots n body
  branch_spots choice spot main comment body = search (rules, the_lemmas)

  pub listed_spots : (listing : _) (spot : Spot) (items : Vec ItemCode Global) → code_spots n (Listed listing spot items) ≡ spot.id.1 ∷ items_spots n items.items
  listed_spots listing spot items = search (rules, the_lemmas)

  pub unlisted_spots : (listing : _) (spot : Spot) (comment : _) (body : Codes) → code_spots n (Unlisted listing spot comment body) ≡ spot.id.1 ∷ body_spots n body
  unlisted_spots listing spot comment body = search (rules, the_lemmas)

  pub let_spots : (made params : _) (body : Codes) → code_spots n (Let made params body) ≡ body_spots n body
  let_spots made params body = search (rules, the_lemmas)

  pub component_spots : (owner block made args : _) (body : Codes) → code_spots n (Component owner block made args body) ≡ body_spots n body
  component_spots owner block made args body = search (rules, the_lemmas)

  pub root_spots : (owner : _) (body : Codes) → code_spots n (Root owner body) ≡ body_spots n body
  root_spots owner body = search (rules, the_lemmas)

  pub yield_spots : (name made params : _) (body : Codes) → code_spots n (Yield name made params body) ≡ body_spots n body
  yield_spots name made params body = search (rules, the_lemmas)

  pub body_codes : (codes : Codes) (xs : List Code) → xs ≡ codes.list.items → codes_spots n xs ≡ body_spots n codes
  body_codes codes xs e = ap (λ cs. positions_in (c.lives_of cs)) (ap (λ ys. all_codes (map (seen_code n) ys)) e ∙ sym (body_is n codes))

  item_is : (item : ItemCode) → (seen_item_code n item).1.1 ≡ seen_codes n item.body
  item_is item = search (rules, the_lemmas)

  -- one statement more, and one item
  pub code_more : (xs : List Code) (i : ℕ) (x : Code) → i < length xs → x ≡ get_or xs i x → codes_spots n (drop i xs) ≡ code_spots n x ++ codes_spots n (drop (i + 1) xs)
  code_more xs i x lt is = ap (codes_spots n) (drop_item xs i x lt is)

  pub item_more : (xs : List ItemCode) (i : ℕ) (x : ItemCode) → i < length xs → x ≡ get_or xs i x → items_spots n (drop i xs) ≡ body_spots n x.body ++ items_spots n (drop (i + 1) xs)
  item_more xs i x lt is =
      ap (items_spots n) (drop_item xs i x lt is) ∙ ap (λ cs. positions_in (c.lives_of cs) ++ items_spots n (drop (i + 1) xs)) (item_is x)

  pub code_last : (xs : List Code) (i : ℕ) → length xs ≤ i → codes_spots n (drop i xs) ≡ []
  code_last xs i le = ap (codes_spots n) (drop_all i xs le)

  pub item_last : (xs : List ItemCode) (i : ℕ) → length xs ≤ i → items_spots n (drop i xs) ≡ []
  item_last xs i le = ap (items_spots n) (drop_all i xs le)

pub attr_more : (xs : List AttrSpot) (i : ℕ) (x : AttrSpot) → i < length xs → x ≡ get_or xs i x → attr_spots (drop i xs) ≡ (x.spot.id.1 ∷ []) ++ attr_spots (drop (i + 1) xs)
attr_more xs i x lt is = ap attr_spots (drop_item xs i x lt is)

pub attr_last : (xs : List AttrSpot) (i : ℕ) → length xs ≤ i → attr_spots (drop i xs) ≡ []
attr_last xs i le = ap attr_spots (drop_all i xs le)

pub mod_more : (xs : List ModSpot) (i : ℕ) (x : ModSpot) → i < length xs → x ≡ get_or xs i x → mod_spots (drop i xs) ≡ (x.spot.id.1 ∷ []) ++ mod_spots (drop (i + 1) xs)
mod_more xs i x lt is = ap mod_spots (drop_item xs i x lt is)

pub mod_last : (xs : List ModSpot) (i : ℕ) → length xs ≤ i → mod_spots (drop i xs) ≡ []
mod_last xs i le = ap mod_spots (drop_all i xs le)

-- what a statement is by another word
pub asked_code : {E : Type 0} (r : Result Bool E) (a : Vm) (k k' : ℕ) (code other : Code) (ys : Tables → List ℕ) → code ≡ other → ((n : Tables) → code_spots n other ≡ ys n)
    → IfOk r (Asked a k k' ys) → IfOk r (Asked a k k' (λ n. code_spots n code))
asked_code r a k k' code other ys is e = IfOk-weaker r (Asked a k k' ys) (Asked a k k' (λ n. code_spots n code)) (λ b x. asked_as a k k' ys (λ n. code_spots n code) b (λ n. ap (code_spots n) is ∙ e n) x)
