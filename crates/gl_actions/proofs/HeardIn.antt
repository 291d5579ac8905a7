-- What is called at an event, one statement at a time.
use Rattle.std.proofs.Common.{◌≡◌, ℕ, ◌+◌, ◌<◌, ◌≤◌, List, [], ◌∷◌, ◌++◌, Option, Some, map, drop, length, get_or, rules, refl, sym, ap, ◌∙◌, append_assoc, append-nil}
use Rattle.std.specs.Prelude.{nat_eq, if◌then◌else◌}
use Rattle.std.proofs.lemmas.List.{drop_all}
use Rattle.std.specs.declared.vec.Vec.{Vec}
use Rattle.std.specs.declared.alloc.Global.{Global}
use Rattle.gl_base.specs.Texts.{Text}
use Rattle.gl_base.proofs.Lists.{drop_item}
use Rattle.gl_value.specs.Value.{Value}
use Rattle.gl_arena.specs.Arena.{named, by_stamp, IsStamped}
use Rattle.gl_arena.proofs.Stamps.{by_stamp-live}
use Rattle.gl_meaning.proofs.Pieces.{filter_map_append}
use Rattle.gl_mods.specs.Mods as m
use Rattle.gl_plain.specs.Live.{ModSpot}
use Rattle.gl_machine.specs.Code as c
use Rattle.gl_vm.specs.View.{Tables}
use Rattle.gl_code.specs.CodeView.{seen_mod_spot, seen_code, seen_codes, seen_item_code, all_codes, all_items}
use Rattle.gl_code.specs.declared.code.Code.{Code, the_lemmas}
use Rattle.gl_code.specs.declared.code.Codes.{Codes}
use Rattle.gl_code.specs.declared.code.ItemCode.{ItemCode}
use Rattle.gl_code.specs.declared.code.ModSpot.{ModSpot as CodeModSpot}
use Rattle.gl_code.specs.declared.code.Code.TheVariants.{Still, Put, Element, Branch, Listed, Unlisted, Let, Component, Root, Yield}
use Rattle.gl_actions.specs.Heard.{spots_in, spots_among, spots_of_items, or_silent, mods_of, called_of}

abbrev Acts : Type 0
Acts = List (Value ℕ)

map_join : {A B : Type 0} (f : A → B) (xs ys : List A) → map f (xs ++ ys) ≡ map f xs ++ map f ys
map_join f [] ys = refl
map_join f (x ∷ xs) ys = ap (λ zs. f x ∷ zs) (map_join f xs ys)

module _ (mods : m.Mods) (event : Text) where
  abbrev called : List ModSpot → Acts
  called zs = called_of mods event zs

  pub called_join : (xs ys : List ModSpot) → called (xs ++ ys) ≡ called xs ++ called ys
  called_join xs ys =
      ap (m.listeners event) (map_join (λ (z : ModSpot). or_silent (by_stamp mods.table z.id)) xs ys) ∙ filter_map_append (m.listener event) (mods_of mods xs) (mods_of mods ys)

  -- the acts of one part, and then those of the next
  pub called_then : (acts next last : Acts) (xs ys : List ModSpot) → next ≡ acts ++ called xs → last ≡ next ++ called ys → last ≡ acts ++ called (xs ++ ys)
  called_then acts next last xs ys e f = f ∙ (ap (λ a. a ++ called ys) e ∙ (append_assoc acts (called xs) (called ys) ∙ ap (λ a. acts ++ a) (sym (called_join xs ys))))

  -- a modifier that lives is that of its number
  one_called : (z : CodeModSpot) (x : m.Installed) → IsStamped mods.table → named mods.table z.id ≡ Some x → m.listeners event (x ∷ []) ≡ called (seen_mod_spot z ∷ [])
  one_called z x stamped e = ap (λ (o : Option m.Installed). m.listeners event (or_silent o ∷ [])) (sym (by_stamp-live mods.table z.id x stamped e))

  pub spots_on : (xs : List CodeModSpot) (i : ℕ) (z : CodeModSpot) (x : m.Installed) (acts old next : Acts) → i < length xs → z ≡ get_or xs i z → IsStamped mods.table → named mods.table z.id ≡ Some x
      → next ≡ acts ++ m.listeners event (x ∷ []) → acts ++ called (map seen_mod_spot (drop i xs)) ≡ old ++ called (map seen_mod_spot xs)
      → next ++ called (map seen_mod_spot (drop (i + 1) xs)) ≡ old ++ called (map seen_mod_spot xs)
  spots_on xs i z x acts old next lt is stamped e f so =
      let zs = map seen_mod_spot (drop (i + 1) xs) in
      called_then acts next (next ++ called zs) (seen_mod_spot z ∷ []) zs (f ∙ ap (λ a. acts ++ a) (one_called z x stamped e)) refl
      ∙ (ap (λ ys. acts ++ called (map seen_mod_spot ys)) (sym (drop_item xs i z lt is)) ∙ so)

  pub spots_end : (xs : List CodeModSpot) (i : ℕ) (acts old : Acts) → length xs ≤ i → acts ++ called (map seen_mod_spot (drop i xs)) ≡ old ++ called (map seen_mod_spot xs) → acts ≡ old ++ called (map seen_mod_spot xs)
  spots_end xs i acts old le so = sym (append-nil acts) ∙ (ap (λ ys. acts ++ called (map seen_mod_spot ys)) (sym (drop_all i xs le)) ∙ so)

  module _ (k : ℕ) (n : Tables) where
    abbrev in_code : Code → List ModSpot
    in_code x = spots_in k (c.live_of (seen_code n x))

    abbrev in_codes : Codes → List ModSpot
    in_codes x = spots_among k (c.lives_of (seen_codes n x))

    pub still_heard : (node : _) → in_code (Still node) ≡ []
    still_heard node = search (rules, the_lemmas)

    pub put_heard : (node spot : _) → in_code (Put node spot) ≡ []
    put_heard node spot = search (rules, the_lemmas)

    pub element_heard : (node made attrs : _) (mods : Vec CodeModSpot Global) (body : Codes) → in_code (Element node made attrs mods body) ≡ (if nat_eq k node.1 then map seen_mod_spot mods.items else []) ++ in_codes body
    element_heard node made attrs mods body = search (rules, the_lemmas)

    pub branch_heard : (choice spot main comment : _) (body : Codes) → in_code (Branch choice spot main comment body) ≡ in_codes body
    branch_heard choice spot main comment body = search (rules, the_lemmas)

    pub listed_heard : (listing spot : _) (items : Vec ItemCode Global) → in_code (Listed listing spot items) ≡ spots_of_items k (c.items_of (all_items (map (seen_item_code n) items.items)))
    listed_heard listing spot items = search (rules, the_lemmas)

    pub unlisted_heard : (listing spot comment : _) (body : Codes) → in_code (Unlisted listing spot comment body) ≡ in_codes body
    unlisted_heard listing spot comment body = search (rules, the_lemmas)

    pub let_heard : (made params : _) (body : Codes) → in_code (Let made params body) ≡ in_codes body
    let_heard made params body = search (rules, the_lemmas)

    pub component_heard : (owner block made args : _) (body : Codes) → in_code (Component owner block made args body) ≡ in_codes body
    component_heard owner block made args body = search (rules, the_lemmas)

    pub root_heard : (owner : _) (body : Codes) → in_code (Root owner body) ≡ in_codes body
    root_heard owner body = search (rules, the_lemmas)

    pub yield_heard : (name made params : _) (body : Codes) → in_code (Yield name made params body) ≡ in_codes body
    yield_heard name made params body = search (rules, the_lemmas)

    body_is : (codes : Codes) → seen_codes n codes ≡ all_codes (map (seen_code n) codes.list.items)
    body_is codes = search (rules, the_lemmas)

    item_is : (item : ItemCode) → (seen_item_code n item).1.1 ≡ seen_codes n item.body
    item_is item = search (rules, the_lemmas)

    abbrev left : List Code → List ModSpot
    left xs = spots_among k (c.lives_of (all_codes (map (seen_code n) xs)))

    abbrev items_left : List ItemCode → List ModSpot
    items_left xs = spots_of_items k (c.items_of (all_items (map (seen_item_code n) xs)))

    pub codes_on : (xs : List Code) (i : ℕ) (x : Code) (acts old next : Acts) → i < length xs → x ≡ get_or xs i x → next ≡ acts ++ called (in_code x) → acts ++ called (left (drop i xs)) ≡ old ++ called (left xs)
        → next ++ called (left (drop (i + 1) xs)) ≡ old ++ called (left xs)
    codes_on xs i x acts old next lt is e so =
        called_then acts next (next ++ called (left (drop (i + 1) xs))) (in_code x) (left (drop (i + 1) xs)) e refl ∙ (ap (λ ys. acts ++ called (left ys)) (sym (drop_item xs i x lt is)) ∙ so)

    pub codes_end : (codes : Codes) (xs : List Code) (i : ℕ) (acts old : Acts) → xs ≡ codes.list.items → length xs ≤ i → acts ++ called (left (drop i xs)) ≡ old ++ called (left xs) → acts ≡ old ++ called (in_codes codes)
    codes_end codes xs i acts old e le so =
        sym (append-nil acts)
        ∙ (ap (λ ys. acts ++ called (left ys)) (sym (drop_all i xs le)) ∙ (so ∙ (ap (λ ys. old ++ called (left ys)) e ∙ ap (λ cs. old ++ called (spots_among k (c.lives_of cs))) (sym (body_is codes)))))

    pub items_on : (xs : List ItemCode) (i : ℕ) (x : ItemCode) (acts old next : Acts) → i < length xs → x ≡ get_or xs i x → next ≡ acts ++ called (in_codes x.body) → acts ++ called (items_left (drop i xs)) ≡ old ++ called (items_left xs)
        → next ++ called (items_left (drop (i + 1) xs)) ≡ old ++ called (items_left xs)
    items_on xs i x acts old next lt is e so =
        let here = spots_among k (c.lives_of (seen_item_code n x).1.1) in
        called_then acts next (next ++ called (items_left (drop (i + 1) xs))) here (items_left (drop (i + 1) xs)) (e ∙ ap (λ cs. acts ++ called (spots_among k (c.lives_of cs))) (sym (item_is x))) refl
        ∙ (ap (λ ys. acts ++ called (items_left ys)) (sym (drop_item xs i x lt is)) ∙ so)

    pub items_end : (xs : List ItemCode) (i : ℕ) (acts old : Acts) → length xs ≤ i → acts ++ called (items_left (drop i xs)) ≡ old ++ called (items_left xs) → acts ≡ old ++ called (items_left xs)
    items_end xs i acts old le so = sym (append-nil acts) ∙ (ap (λ ys. acts ++ called (items_left ys)) (sym (drop_all i xs le)) ∙ so)

    -- what is called in a variant is called in the statement
    pub heard_as : (code other : Code) (acts old : Acts) (ys : List ModSpot) → code ≡ other → in_code other ≡ ys → acts ≡ old ++ called ys → acts ≡ old ++ called (in_code code)
    heard_as code other acts old ys is e so = so ∙ ap (λ zs. old ++ called zs) (sym e ∙ ap in_code (sym is))
