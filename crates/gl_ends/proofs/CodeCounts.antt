-- How often an id stands in what was rendered, read one statement at a time.
use Rattle.std.proofs.Common.{◌≡◌, ℕ, ◌+◌, List, [], ◌∷◌, ◌++◌, map, rules, refl, sym, ap, ap₂, ◌∙◌, arith, OnOk, Result}
use Rattle.std.specs.declared.vec.Vec.{Vec}
use Rattle.std.specs.declared.rc.Rc.{Rc}
use Rattle.std.specs.declared.alloc.Global.{Global}
use Rattle.gl_nodes.specs.Flat.{stamp_of}
use Rattle.gl_plain.specs.Ids.{Id as Name, ref, node as node_id, instance_id, block_id, modifier_id, hit, occurs}
use Rattle.gl_plain.specs.Live.{times, times_in, times_items, times_comment, times_attrs, times_mods, item_made}
use Rattle.gl_plain.proofs.Moves.{occurs_append}
use Rattle.gl_machine.specs.Code as c
use Rattle.gl_vm.specs.View.{Tables}
use Rattle.gl_vm.specs.declared.vm.Vm.{Vm}
use Rattle.gl_code.specs.View.{refs_made}
use Rattle.gl_code.specs.CodeView.{seen_spot, seen_attr_spot, seen_mod_spot, seen_code, seen_codes, seen_item_code, all_codes, all_items}
use Rattle.gl_code.specs.declared.sight.Owner.{Owner}
use Rattle.gl_code.specs.declared.code.AttrSpot.{AttrSpot}
use Rattle.gl_code.specs.declared.code.ModSpot.{ModSpot}
use Rattle.gl_code.specs.declared.code.Code.{Code, the_lemmas}
use Rattle.gl_code.specs.declared.code.Codes.{Codes}
use Rattle.gl_code.specs.declared.code.ItemCode.{ItemCode}
use Rattle.gl_code.specs.declared.code.Code.TheVariants.{Still, Put, Element, Branch, Listed, Unlisted, Let, Component, Root, Yield}
use Rattle.gl_ends.specs.Ending.{Ends, times_spots}
use Rattle.gl_ends.proofs.Joins.{on_ok_as}
use Rattle.gl_ends.proofs.Loops.{total}

abbrev pub count_code : Tables → Name → Code → ℕ
count_code n q x = times q (c.live_of (seen_code n x))

abbrev pub count_item : Tables → Name → ItemCode → ℕ
count_item n q x = let y = seen_item_code n x in occurs q (item_made y.0) + (times_in q (c.lives_of y.1.1) + times_comment q y.1.0)

abbrev pub count_attr : Tables → Name → AttrSpot → ℕ
count_attr n q x = occurs q (seen_spot x.spot).made

abbrev pub count_mod : Tables → Name → ModSpot → ℕ
count_mod n q x = occurs q (seen_spot x.spot).made

module _ (n : Tables) (q : Name) where
  pub still_count : (node : _) → hit q (node_id node.1) ≡ count_code n q (Still node)
  still_count node = search (rules, the_lemmas)

  pub put_count : (node spot : _) → hit q (node_id node.1) + occurs q (seen_spot spot).made ≡ count_code n q (Put node spot)
  put_count node spot = search (rules, the_lemmas)

  element_count : (node made : _) (attrs : Vec AttrSpot Global) (mods : Vec ModSpot Global) (body : Codes)
      → (hit q (node_id node.1) + (occurs q (refs_made made) + times_attrs q (map seen_attr_spot attrs.items))) + (times_in q (c.lives_of (seen_codes n body)) + times_mods q (map seen_mod_spot mods.items)) ≡ count_code n q (Element node made attrs mods body)
  element_count node made attrs mods body = search (rules, the_lemmas)

  pub element_as : (node made : _) (attrs : Vec AttrSpot Global) (mods : Vec ModSpot Global) (body : Codes) (xs : List AttrSpot) (ms : List ModSpot) → xs ≡ attrs.items → ms ≡ mods.items
      → (hit q (node_id node.1) + (occurs q (refs_made made) + times_attrs q (map seen_attr_spot xs))) + (times_in q (c.lives_of (seen_codes n body)) + times_mods q (map seen_mod_spot ms)) ≡ count_code n q (Element node made attrs mods body)
  element_as node made attrs mods body xs ms d e =
      ap₂ (λ ys zs. (hit q (node_id node.1) + (occurs q (refs_made made) + times_attrs q (map seen_attr_spot ys))) + (times_in q (c.lives_of (seen_codes n body)) + times_mods q (map seen_mod_spot zs))) d e
      ∙ element_count node made attrs mods body

  pub branch_count : (choice spot main comment : _) (body : Codes) → occurs q (seen_spot spot).made + (times_in q (c.lives_of (seen_codes n body)) + times_comment q (stamp_of comment)) ≡ count_code n q (Branch choice spot main comment body)
  branch_count choice spot main comment body = search (rules, the_lemmas)

  listed_count : (listing spot : _) (items : Vec ItemCode Global) → occurs q (seen_spot spot).made + times_items q (c.items_of (all_items (map (seen_item_code n) items.items))) ≡ count_code n q (Listed listing spot items)
  listed_count listing spot items = search (rules, the_lemmas)

  pub listed_as : (listing spot : _) (items : Vec ItemCode Global) (xs : List ItemCode) → xs ≡ items.items → occurs q (seen_spot spot).made + times_items q (c.items_of (all_items (map (seen_item_code n) xs))) ≡ count_code n q (Listed listing spot items)
  listed_as listing spot items xs e = ap (λ ys. occurs q (seen_spot spot).made + times_items q (c.items_of (all_items (map (seen_item_code n) ys)))) e ∙ listed_count listing spot items

  pub unlisted_count : (listing spot comment : _) (body : Codes) → occurs q (seen_spot spot).made + (times_in q (c.lives_of (seen_codes n body)) + times_comment q (stamp_of comment)) ≡ count_code n q (Unlisted listing spot comment body)
  unlisted_count listing spot comment body = search (rules, the_lemmas)

  pub let_count : (made params : _) (body : Codes) → occurs q (refs_made made) + times_in q (c.lives_of (seen_codes n body)) ≡ count_code n q (Let made params body)
  let_count made params body = search (rules, the_lemmas)

  component_is : (owner : Rc Owner Global) (block made args : _) (body : Codes)
      → (hit q (instance_id owner.value.id.1) + occurs q ((block_id block.1 ∷ refs_made made) ++ refs_made owner.value.cells)) + times_in q (c.lives_of (seen_codes n body)) ≡ count_code n q (Component owner block made args body)
  component_is owner block made args body = search (rules, the_lemmas)

  pub component_as : (owner : Rc Owner Global) (block made args : _) (body : Codes) (o : Owner) → o ≡ owner.value
      → ((hit q (instance_id o.id.1) + occurs q (refs_made o.cells)) + (hit q (block_id block.1) + occurs q (refs_made made))) + times_in q (c.lives_of (seen_codes n body)) ≡ count_code n q (Component owner block made args body)
  component_as owner block made args body o same =
      ap (λ (o : Owner). ((hit q (instance_id o.id.1) + occurs q (refs_made o.cells)) + (hit q (block_id block.1) + occurs q (refs_made made))) + times_in q (c.lives_of (seen_codes n body))) same
      ∙ (let w = occurs_append q (block_id block.1 ∷ refs_made made) (refs_made owner.value.cells) in let e = component_is owner block made args body in omega (arith, w, e))

  root_count : (owner : Rc Owner Global) (body : Codes) → (hit q (instance_id owner.value.id.1) + occurs q (refs_made owner.value.cells)) + times_in q (c.lives_of (seen_codes n body)) ≡ count_code n q (Root owner body)
  root_count owner body = search (rules, the_lemmas)

  pub root_as : (owner : Rc Owner Global) (body : Codes) (o : Owner) → o ≡ owner.value → (hit q (instance_id o.id.1) + occurs q (refs_made o.cells)) + times_in q (c.lives_of (seen_codes n body)) ≡ count_code n q (Root owner body)
  root_as owner body o same = ap (λ (o : Owner). (hit q (instance_id o.id.1) + occurs q (refs_made o.cells)) + times_in q (c.lives_of (seen_codes n body))) same ∙ root_count owner body

  pub yield_count : (name made params : _) (body : Codes) → occurs q (refs_made made) + times_in q (c.lives_of (seen_codes n body)) ≡ count_code n q (Yield name made params body)
  yield_count name made params body = search (rules, the_lemmas)

  pub item_count : (item : ItemCode) → occurs q (ref item.spot.value.1 ∷ ref item.spot.index.1 ∷ []) + (times_in q (c.lives_of (seen_codes n item.body)) + times_comment q (stamp_of item.comment)) ≡ count_item n q item
  item_count item = search (rules, the_lemmas)

  -- Lists.

  body_is : (codes : Codes) → seen_codes n codes ≡ all_codes (map (seen_code n) codes.list.items)
  body_is codes = search (rules, the_lemmas)

  all_is : (xs : List Code) → total (count_code n) q xs ≡ times_in q (c.lives_of (all_codes (map (seen_code n) xs)))
  all_is [] = refl
  all_is (x ∷ xs) = ap (λ k. count_code n q x + k) (all_is xs)

  pub codes_count : (codes : Codes) (xs : List Code) → xs ≡ codes.list.items → total (count_code n) q xs ≡ times_in q (c.lives_of (seen_codes n codes))
  codes_count codes xs e = all_is xs ∙ ap (λ cs. times_in q (c.lives_of cs)) (ap (λ ys. all_codes (map (seen_code n) ys)) e ∙ sym (body_is codes))

  pub items_count : (xs : List ItemCode) → total (count_item n) q xs ≡ times_items q (c.items_of (all_items (map (seen_item_code n) xs)))
  items_count [] = refl
  items_count (x ∷ xs) = ap (λ k. count_item n q x + k) (items_count xs)

  pub attrs_count : (xs : List AttrSpot) → total (count_attr n) q xs ≡ times_attrs q (map seen_attr_spot xs)
  attrs_count [] = refl
  attrs_count (x ∷ xs) = ap (λ k. count_attr n q x + k) (attrs_count xs)

  pub spots_count : (xs : List ModSpot) → total (count_mod n) q xs ≡ times_spots q xs
  spots_count [] = refl
  spots_count (x ∷ xs) = ap (λ k. count_mod n q x + k) (spots_count xs)

-- the modifiers, and then their positions
pub mods_count : (q : Name) (xs : List ModSpot) → times_spots q xs + occurs q (map (λ m. modifier_id m.id.1) xs) ≡ times_mods q (map seen_mod_spot xs)
mods_count q [] = refl
mods_count q (x ∷ xs) = let e = mods_count q xs in omega (arith, e)

-- the count of a statement, by its variant
pub ends_code : {T E : Type 0} (r : Result T E) (n : Tables) (old new : Vm) (code other : Code) (count : Name → ℕ) → code ≡ other → ((q : Name) → count q ≡ count_code n q other) → OnOk r (Ends n count old new) → OnOk r (Ends n (λ q. count_code n q code) old new)
ends_code r n old new code other count is e h = on_ok_as r n old new count (λ q. count_code n q code) (λ q. e q ∙ ap (count_code n q) (sym is)) h
