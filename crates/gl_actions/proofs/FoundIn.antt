-- An instance found, one statement at a time.
use Rattle.std.proofs.Common.{◌≡◌, ℕ, ◌+◌, ◌<◌, ◌≤◌, List, [], Option, Some, None, is_some, true, false, option_map, map, drop, length, get_or, rules, refl, sym, ap, ◌∙◌, IfOk, Result}
use Rattle.std.specs.Prelude.{nat_eq, if◌then◌else◌}
use Rattle.std.proofs.lemmas.List.{drop_all}
use Rattle.std.proofs.lemmas.Result.{IfOk-weaker}
use Rattle.std.specs.declared.vec.Vec.{Vec}
use Rattle.std.specs.declared.alloc.Global.{Global}
use Rattle.gl_base.specs.Names.{or_else}
use Rattle.gl_base.proofs.Lists.{drop_item}
use Rattle.gl_plain.specs.State.{Names, Inst}
use Rattle.gl_machine.specs.Code as c
use Rattle.gl_vm.specs.View.{Tables, name_stamps}
use Rattle.gl_code.specs.View.{seen_owner}
use Rattle.gl_code.specs.CodeView.{seen_code, seen_codes, seen_item_code, all_codes, all_items}
use Rattle.gl_code.specs.declared.code.Code.{Code, the_lemmas}
use Rattle.gl_code.specs.declared.code.Codes.{Codes}
use Rattle.gl_code.specs.declared.code.ItemCode.{ItemCode}
use Rattle.gl_code.specs.declared.code.Code.TheVariants.{Still, Put, Element, Branch, Listed, Unlisted, Let, Component, Root, Yield}
use Rattle.gl_actions.specs.Found.{instance_in, instance_among, instance_of_items}
use Rattle.gl_actions.specs.FoundView.{seen_found}
use Rattle.gl_actions.specs.declared.seeking.Found.{Found}

module _ (k : ℕ) (n : Tables) where
  abbrev in_code : Code → Option (Inst × Names)
  in_code x = instance_in k (c.live_of (seen_code n x))

  abbrev in_codes : Codes → Option (Inst × Names)
  in_codes x = instance_among k (c.lives_of (seen_codes n x))

  pub still_found : (node : _) → in_code (Still node) ≡ None
  still_found node = search (rules, the_lemmas)

  pub put_found : (node spot : _) → in_code (Put node spot) ≡ None
  put_found node spot = search (rules, the_lemmas)

  pub element_found : (node made attrs mods : _) (body : Codes) → in_code (Element node made attrs mods body) ≡ in_codes body
  element_found node made attrs mods body = search (rules, the_lemmas)

  pub branch_found : (choice spot main comment : _) (body : Codes) → in_code (Branch choice spot main comment body) ≡ in_codes body
  branch_found choice spot main comment body = search (rules, the_lemmas)

  pub listed_found : (listing spot : _) (items : Vec ItemCode Global) → in_code (Listed listing spot items) ≡ instance_of_items k (c.items_of (all_items (map (seen_item_code n) items.items)))
  listed_found listing spot items = search (rules, the_lemmas)

  pub unlisted_found : (listing spot comment : _) (body : Codes) → in_code (Unlisted listing spot comment body) ≡ in_codes body
  unlisted_found listing spot comment body = search (rules, the_lemmas)

  pub let_found : (made params : _) (body : Codes) → in_code (Let made params body) ≡ in_codes body
  let_found made params body = search (rules, the_lemmas)

  pub component_found : (owner block made args : _) (body : Codes) → in_code (Component owner block made args body) ≡ (if nat_eq k owner.value.id.1 then Some (seen_owner n owner.value, name_stamps args.value) else in_codes body)
  component_found owner block made args body = search (rules, the_lemmas)

  pub root_found : (owner : _) (body : Codes) → in_code (Root owner body) ≡ (if nat_eq k owner.value.id.1 then Some (seen_owner n owner.value, []) else in_codes body)
  root_found owner body = search (rules, the_lemmas)

  pub yield_found : (name made params : _) (body : Codes) → in_code (Yield name made params body) ≡ in_codes body
  yield_found name made params body = search (rules, the_lemmas)

  body_is : (codes : Codes) → seen_codes n codes ≡ all_codes (map (seen_code n) codes.list.items)
  body_is codes = search (rules, the_lemmas)

  item_is : (item : ItemCode) → (seen_item_code n item).1.1 ≡ seen_codes n item.body
  item_is item = search (rules, the_lemmas)

  abbrev left : List Code → Option (Inst × Names)
  left xs = instance_among k (c.lives_of (all_codes (map (seen_code n) xs)))

  abbrev items_left : List ItemCode → Option (Inst × Names)
  items_left xs = instance_of_items k (c.items_of (all_items (map (seen_item_code n) xs)))

  -- the first statement has it, or what is left decides
  pub codes_found : (xs : List Code) (i : ℕ) (x : Code) (z : Inst × Names) → i < length xs → x ≡ get_or xs i x → Some z ≡ in_code x → left (drop i xs) ≡ left xs → Some z ≡ left xs
  codes_found xs i x z lt is e so = ap (λ p. or_else p (left (drop (i + 1) xs))) e ∙ (ap left (sym (drop_item xs i x lt is)) ∙ so)

  pub codes_on : (xs : List Code) (i : ℕ) (x : Code) → i < length xs → x ≡ get_or xs i x → None ≡ in_code x → left (drop i xs) ≡ left xs → left (drop (i + 1) xs) ≡ left xs
  codes_on xs i x lt is e so = ap (λ p. or_else p (left (drop (i + 1) xs))) e ∙ (ap left (sym (drop_item xs i x lt is)) ∙ so)

  pub codes_end : (xs : List Code) (i : ℕ) → length xs ≤ i → left (drop i xs) ≡ left xs → None ≡ left xs
  codes_end xs i le so = ap left (sym (drop_all i xs le)) ∙ so

  pub codes_all : (codes : Codes) (xs : List Code) (z : Option (Inst × Names)) → xs ≡ codes.list.items → z ≡ left xs → z ≡ in_codes codes
  codes_all codes xs z e so = so ∙ (ap left e ∙ ap (λ cs. instance_among k (c.lives_of cs)) (sym (body_is codes)))

  in_item : (x : ItemCode) (z : Option (Inst × Names)) → z ≡ in_codes x.body → z ≡ instance_among k (c.lives_of (seen_item_code n x).1.1)
  in_item x z e = e ∙ ap (λ cs. instance_among k (c.lives_of cs)) (sym (item_is x))

  pub items_found : (xs : List ItemCode) (i : ℕ) (x : ItemCode) (z : Inst × Names) → i < length xs → x ≡ get_or xs i x → Some z ≡ in_codes x.body → items_left (drop i xs) ≡ items_left xs → Some z ≡ items_left xs
  items_found xs i x z lt is e so = ap (λ p. or_else p (items_left (drop (i + 1) xs))) (in_item x (Some z) e) ∙ (ap items_left (sym (drop_item xs i x lt is)) ∙ so)

  pub items_on : (xs : List ItemCode) (i : ℕ) (x : ItemCode) → i < length xs → x ≡ get_or xs i x → None ≡ in_codes x.body → items_left (drop i xs) ≡ items_left xs → items_left (drop (i + 1) xs) ≡ items_left xs
  items_on xs i x lt is e so = ap (λ p. or_else p (items_left (drop (i + 1) xs))) (in_item x None e) ∙ (ap items_left (sym (drop_item xs i x lt is)) ∙ so)

  pub items_end : (xs : List ItemCode) (i : ℕ) → length xs ≤ i → items_left (drop i xs) ≡ items_left xs → None ≡ items_left xs
  items_end xs i le so = ap items_left (sym (drop_all i xs le)) ∙ so

-- what is found in a statement is found in its variant
pub found_as : {E : Type 0} (r : Result (Option Found) E) (k : ℕ) (code other : Code) (y : Tables → Option (Inst × Names)) → code ≡ other → ((n : Tables) → in_code k n other ≡ y n)
    → IfOk r (λ o. (n : Tables) → option_map (seen_found n) o ≡ y n) → IfOk r (λ o. (n : Tables) → option_map (seen_found n) o ≡ in_code k n code)
found_as r k code other y is e = IfOk-weaker r _ _ (λ o a n. a n ∙ (sym (e n) ∙ ap (in_code k n) (sym is)))

pub none_as : (k : ℕ) (n : Tables) (code other : Code) → code ≡ other → in_code k n other ≡ None → None ≡ in_code k n code
none_as k n code other is e = sym (ap (in_code k n) is ∙ e)

-- what is there was found, and what isn't wasn't
pub found_left : (n : Tables) (o : Option Found) (y : Option (Inst × Names)) → is_some o ≡ true → ((z : Inst × Names) → Some z ≡ option_map (seen_found n) o → Some z ≡ y) → option_map (seen_found n) o ≡ y
found_left n (Some x) y e f = f (seen_found n x) refl
found_left n None y e f = absurd (let q : false ≡ true = e in cc)

pub none_left : (n : Tables) (o : Option Found) → is_some o ≡ false → None ≡ option_map (seen_found n) o
none_left n None e = refl
none_left n (Some x) e = absurd (let q : true ≡ false = e in cc)
