-- The nest of what was rendered, read one statement at a time.
use Rattle.std.proofs.Common.{◌≡◌, ℕ, ◌+◌, ◌<◌, ◌≤◌, List, Option, map, drop, length, get_or, rules, sym, ap, subst, ◌∙◌, OnOk, Result}
use Rattle.std.proofs.lemmas.List.{drop_all}
use Rattle.std.specs.declared.vec.Vec.{Vec}
use Rattle.std.specs.declared.alloc.Global.{Global}
use Rattle.gl_base.proofs.Lists.{drop_item}
use Rattle.gl_nodes.specs.Tree.{Tree}
use Rattle.gl_nodes.specs.Flat.{IsFlat, stamp_of}
use Rattle.gl_machine.specs.Code as c
use Rattle.gl_machine.specs.Shape.{Nest, end, tree, joined, nest, nest_in, nest_items, nest_comment}
use Rattle.gl_vm.specs.View.{Tables}
use Rattle.gl_code.specs.CodeView.{seen_code, seen_codes, seen_item_code, all_codes, all_items}
use Rattle.gl_code.specs.Hung.{Hangs}
use Rattle.gl_code.specs.declared.code.Code.{Code, the_lemmas}
use Rattle.gl_code.specs.declared.code.Codes.{Codes}
use Rattle.gl_code.specs.declared.code.ItemCode.{ItemCode}
use Rattle.gl_code.specs.declared.code.Code.TheVariants.{Element, Branch, Listed, Unlisted, Let, Component, Root, Yield}
use Rattle.gl_code.proofs.Hanging.{hangs_nothing, hangs_joined}

module _ (n : Tables) where
  pub element_nest : (node : _) (made attrs mods : _) (body : Codes) → nest (c.live_of (seen_code n (Element node made attrs mods body))) ≡ tree node.1 (nest_in (c.lives_of (seen_codes n body))) end
  element_nest node made attrs mods body = search (rules, the_lemmas)

  pub branch_nest : (choice spot main comment : _) (body : Codes) → nest (c.live_of (seen_code n (Branch choice spot main comment body))) ≡ joined (nest_in (c.lives_of (seen_codes n body))) (nest_comment (stamp_of comment))
  branch_nest choice spot main comment body = search (rules, the_lemmas)

  pub listed_nest : (listing spot : _) (items : Vec ItemCode Global) → nest (c.live_of (seen_code n (Listed listing spot items))) ≡ nest_items (c.items_of (all_items (map (seen_item_code n) items.items)))
  listed_nest listing spot items = search (rules, the_lemmas)

  pub unlisted_nest : (listing spot comment : _) (body : Codes) → nest (c.live_of (seen_code n (Unlisted listing spot comment body))) ≡ joined (nest_in (c.lives_of (seen_codes n body))) (nest_comment (stamp_of comment))
  unlisted_nest listing spot comment body = search (rules, the_lemmas)

  pub let_nest : (made params : _) (body : Codes) → nest (c.live_of (seen_code n (Let made params body))) ≡ nest_in (c.lives_of (seen_codes n body))
  let_nest made params body = search (rules, the_lemmas)

  pub component_nest : (owner block made args : _) (body : Codes) → nest (c.live_of (seen_code n (Component owner block made args body))) ≡ nest_in (c.lives_of (seen_codes n body))
  component_nest owner block made args body = search (rules, the_lemmas)

  pub root_nest : (owner : _) (body : Codes) → nest (c.live_of (seen_code n (Root owner body))) ≡ nest_in (c.lives_of (seen_codes n body))
  root_nest owner body = search (rules, the_lemmas)

  pub yield_nest : (name made params : _) (body : Codes) → nest (c.live_of (seen_code n (Yield name made params body))) ≡ nest_in (c.lives_of (seen_codes n body))
  yield_nest name made params body = search (rules, the_lemmas)

  pub body_is : (codes : Codes) → seen_codes n codes ≡ all_codes (map (seen_code n) codes.list.items)
  body_is codes = search (rules, the_lemmas)

  pub item_nest : (item : ItemCode) → joined (nest_in (c.lives_of (seen_item_code n item).1.1)) (nest_comment (seen_item_code n item).1.0) ≡ joined (nest_in (c.lives_of (seen_codes n item.body))) (nest_comment (stamp_of item.comment))
  item_nest item = search (rules, the_lemmas)

  -- one statement more hangs
  pub codes_go : (old mid new : Tree) (p : Option ℕ) (xs : List Code) (i : ℕ) (x : Code) → IsFlat new → i < length xs → x ≡ get_or xs i x → Hangs old mid p (nest (c.live_of (seen_code n x)))
      → Hangs mid new p (nest_in (c.lives_of (all_codes (map (seen_code n) (drop (i + 1) xs))))) → Hangs old new p (nest_in (c.lives_of (all_codes (map (seen_code n) (drop i xs)))))
  codes_go old mid new p xs i x flat lt is a b =
      subst (λ ys. Hangs old new p (nest_in (c.lives_of (all_codes (map (seen_code n) ys))))) (sym (drop_item xs i x lt is))
      (hangs_joined old mid new p (nest (c.live_of (seen_code n x))) (nest_in (c.lives_of (all_codes (map (seen_code n) (drop (i + 1) xs))))) flat a b)

  pub codes_end : (v : Tree) (p : Option ℕ) (xs : List Code) (i : ℕ) → length xs ≤ i → Hangs v v p (nest_in (c.lives_of (all_codes (map (seen_code n) (drop i xs)))))
  codes_end v p xs i le = subst (λ ys. Hangs v v p (nest_in (c.lives_of (all_codes (map (seen_code n) ys))))) (sym (drop_all i xs le)) (hangs_nothing v p)

  pub codes_all : (old new : Tree) (p : Option ℕ) (codes : Codes) (xs : List Code) → xs ≡ codes.list.items → Hangs old new p (nest_in (c.lives_of (all_codes (map (seen_code n) xs)))) → Hangs old new p (nest_in (c.lives_of (seen_codes n codes)))
  codes_all old new p codes xs e a = subst (λ cs. Hangs old new p (nest_in (c.lives_of cs))) (ap (λ ys. all_codes (map (seen_code n) ys)) e ∙ sym (body_is codes)) a

  -- one item more hangs
  pub items_go : (old mid new : Tree) (p : Option ℕ) (xs : List ItemCode) (i : ℕ) (x : ItemCode) → IsFlat new → i < length xs → x ≡ get_or xs i x
      → (let y = seen_item_code n x in Hangs old mid p (joined (nest_in (c.lives_of y.1.1)) (nest_comment y.1.0)))
      → Hangs mid new p (nest_items (c.items_of (all_items (map (seen_item_code n) (drop (i + 1) xs))))) → Hangs old new p (nest_items (c.items_of (all_items (map (seen_item_code n) (drop i xs)))))
  items_go old mid new p xs i x flat lt is a b =
      let y = seen_item_code n x in
      subst (λ ys. Hangs old new p (nest_items (c.items_of (all_items (map (seen_item_code n) ys))))) (sym (drop_item xs i x lt is))
      (hangs_joined old mid new p (joined (nest_in (c.lives_of y.1.1)) (nest_comment y.1.0)) (nest_items (c.items_of (all_items (map (seen_item_code n) (drop (i + 1) xs))))) flat a b)

  pub items_end : (v : Tree) (p : Option ℕ) (xs : List ItemCode) (i : ℕ) → length xs ≤ i → Hangs v v p (nest_items (c.items_of (all_items (map (seen_item_code n) (drop i xs)))))
  items_end v p xs i le = subst (λ ys. Hangs v v p (nest_items (c.items_of (all_items (map (seen_item_code n) ys))))) (sym (drop_all i xs le)) (hangs_nothing v p)

-- the same nest by another word
pub hangs_as : {T E : Type 0} (r : Result T E) (old new : Tree) (p : Option ℕ) (x y : Nest ℕ) → x ≡ y → OnOk r (Hangs old new p y) → OnOk r (Hangs old new p x)
hangs_as r old new p x y e a = subst (λ z. OnOk r (Hangs old new p z)) (sym e) a

pub hangs_code : {T E : Type 0} (r : Result T E) (old new : Tree) (p : Option ℕ) (n : Tables) (code other : Code) (y : Nest ℕ) → code ≡ other → nest (c.live_of (seen_code n other)) ≡ y
    → OnOk r (Hangs old new p y) → OnOk r (Hangs old new p (nest (c.live_of (seen_code n code))))
hangs_code r old new p n code other y is e a = hangs_as r old new p (nest (c.live_of (seen_code n code))) y (ap (λ x. nest (c.live_of (seen_code n x))) is ∙ e) a
