-- What would go of a program, read one statement at a time.
use Rattle.std.proofs.Common.{◌≡◌, ℕ, ◌+◌, ◌<◌, ◌≤◌, List, [], ◌∷◌, ◌++◌, map, drop, length, get_or, rules, sym, ap, ap₂, subst, ◌∙◌, OnOk, Result}
use Rattle.std.proofs.lemmas.List.{drop_all, append-nil, append_assoc}
use Rattle.std.specs.declared.vec.Vec.{Vec}
use Rattle.std.specs.declared.rc.Rc.{Rc}
use Rattle.std.specs.declared.alloc.Global.{Global}
use Rattle.gl_base.proofs.Lists.{drop_item}
use Rattle.gl_machine.specs.Code as c
use Rattle.gl_machine.specs.Gone.{Gone, gone_modifier, gone_instance, none_lives, gone, gone_in, gone_items, gone_mods}
use Rattle.gl_vm.specs.View.{Tables}
use Rattle.gl_code.specs.View.{seen_owner}
use Rattle.gl_code.specs.CodeView.{seen_code, seen_codes, seen_item_code, seen_mod_spot, all_codes, all_items}
use Rattle.gl_code.specs.declared.sight.Owner.{Owner}
use Rattle.gl_code.specs.declared.code.ModSpot.{ModSpot}
use Rattle.gl_code.specs.declared.code.Code.{Code, the_lemmas}
use Rattle.gl_code.specs.declared.code.Codes.{Codes}
use Rattle.gl_code.specs.declared.code.ItemCode.{ItemCode}
use Rattle.gl_gone.specs.View.{all_seen}
use Rattle.gl_gone.specs.declared.endings.Ending.{Ending}
use Rattle.gl_code.specs.declared.code.Code.TheVariants.{Element, Branch, Listed, Unlisted, Let, Component, Root, Yield}

abbrev pub code_goes : Tables → Code → List Gone
code_goes n x = gone none_lives (c.live_of (seen_code n x))

abbrev pub codes_go : Tables → List Code → List Gone
codes_go n xs = gone_in none_lives (c.lives_of (all_codes (map (seen_code n) xs)))

abbrev pub items_go : Tables → List ItemCode → List Gone
items_go n xs = gone_items none_lives (c.items_of (all_items (map (seen_item_code n) xs)))

abbrev pub body_goes : Tables → Codes → List Gone
body_goes n body = gone_in none_lives (c.lives_of (seen_codes n body))

abbrev pub mods_go : List ModSpot → List Gone
mods_go zs = gone_mods none_lives (map seen_mod_spot zs)

module _ (n : Tables) where
  element_is : (node made attrs : _) (mods : Vec ModSpot Global) (body : Codes) → code_goes n (Element node made attrs mods body) ≡ body_goes n body ++ mods_go mods.items
  element_is node made attrs mods body = search (rules, the_lemmas)

  pub element_goes : (node made attrs : _) (mods : Vec ModSpot Global) (body : Codes) (zs : List ModSpot) → zs ≡ mods.items → code_goes n (Element node made attrs mods body) ≡ body_goes n body ++ mods_go zs
  element_goes node made attrs mods body zs e = element_is node made attrs mods body ∙ ap (λ ys. body_goes n body ++ mods_go ys) (sym e)

  pub branch_goes : (choice spot main comment : _) (body : Codes) → code_goes n (Branch choice spot main comment body) ≡ body_goes n body
  branch_goes choice spot main comment body = search (rules, the_lemmas)

  pub listed_goes : (listing spot : _) (items : Vec ItemCode Global) → code_goes n (Listed listing spot items) ≡ items_go n items.items
  listed_goes listing spot items = search (rules, the_lemmas)

  pub unlisted_goes : (listing spot comment : _) (body : Codes) → code_goes n (Unlisted listing spot comment body) ≡ body_goes n body
  unlisted_goes listing spot comment body = search (rules, the_lemmas)

  pub let_goes : (made params : _) (body : Codes) → code_goes n (Let made params body) ≡ body_goes n body
  let_goes made params body = search (rules, the_lemmas)

  pub component_goes : (owner : Rc Owner Global) (block made args : _) (body : Codes) → code_goes n (Component owner block made args body) ≡ body_goes n body ++ gone_instance (seen_owner n owner.value) ∷ []
  component_goes owner block made args body = search (rules, the_lemmas)

  pub root_goes : (owner : Rc Owner Global) (body : Codes) → code_goes n (Root owner body) ≡ body_goes n body ++ gone_instance (seen_owner n owner.value) ∷ []
  root_goes owner body = search (rules, the_lemmas)

  pub yield_goes : (name made params : _) (body : Codes) → code_goes n (Yield name made params body) ≡ body_goes n body
  yield_goes name made params body = search (rules, the_lemmas)

  body_is : (codes : Codes) → seen_codes n codes ≡ all_codes (map (seen_code n) codes.list.items)
  body_is codes = search (rules, the_lemmas)

  pub body_codes : (codes : Codes) (xs : List Code) → xs ≡ codes.list.items → codes_go n xs ≡ body_goes n codes
  body_codes codes xs e = ap (λ cs. gone_in none_lives (c.lives_of cs)) (ap (λ ys. all_codes (map (seen_code n) ys)) e ∙ sym (body_is codes))

  item_is : (item : ItemCode) → (seen_item_code n item).1.1 ≡ seen_codes n item.body
  item_is item = search (rules, the_lemmas)

  -- one statement more, and one item and one modifier
  pub code_more : (xs : List Code) (i : ℕ) (x : Code) → i < length xs → x ≡ get_or xs i x → codes_go n (drop i xs) ≡ code_goes n x ++ codes_go n (drop (i + 1) xs)
  code_more xs i x lt is = ap (codes_go n) (drop_item xs i x lt is)

  pub item_more : (xs : List ItemCode) (i : ℕ) (x : ItemCode) → i < length xs → x ≡ get_or xs i x → items_go n (drop i xs) ≡ body_goes n x.body ++ items_go n (drop (i + 1) xs)
  item_more xs i x lt is =
      ap (items_go n) (drop_item xs i x lt is) ∙ ap (λ cs. gone_in none_lives (c.lives_of cs) ++ items_go n (drop (i + 1) xs)) (item_is x)

  pub code_last : (xs : List Code) (i : ℕ) → length xs ≤ i → codes_go n (drop i xs) ≡ []
  code_last xs i le = ap (codes_go n) (drop_all i xs le)

  pub item_last : (xs : List ItemCode) (i : ℕ) → length xs ≤ i → items_go n (drop i xs) ≡ []
  item_last xs i le = ap (items_go n) (drop_all i xs le)

pub mod_more : (xs : List ModSpot) (i : ℕ) (x : ModSpot) → i < length xs → x ≡ get_or xs i x → mods_go (drop i xs) ≡ (gone_modifier x.id.1 ∷ []) ++ mods_go (drop (i + 1) xs)
mod_more xs i x lt is = ap mods_go (drop_item xs i x lt is)

pub mod_last : (xs : List ModSpot) (i : ℕ) → length xs ≤ i → mods_go (drop i xs) ≡ []
mod_last xs i le = ap mods_go (drop_all i xs le)

-- A part was put behind what was there, before what is left.
pub left_step : {A : Type 0} (was now part rest all left : List A) → now ≡ was ++ part → left ≡ part ++ rest → was ++ left ≡ all → now ++ rest ≡ all
left_step was now part rest all left e f g = ap (λ xs. xs ++ rest) e ∙ (append_assoc was part rest ∙ (ap (λ xs. was ++ xs) (sym f) ∙ g))

pub left_end : {A : Type 0} (now all left : List A) → left ≡ [] → now ++ left ≡ all → now ≡ all
left_end now all left e g = sym (append-nil now) ∙ (ap (λ xs. now ++ xs) (sym e) ∙ g)

-- one part after another
pub two_parts : {A : Type 0} (old mid new xs ys : List A) → mid ≡ old ++ xs → new ≡ mid ++ ys → new ≡ old ++ (xs ++ ys)
two_parts old mid new xs ys e f = f ∙ (ap (λ zs. zs ++ ys) e ∙ append_assoc old xs ys)

pub one_more : {A : Type 0} (old mid new xs : List A) (y z : A) → mid ≡ old ++ xs → y ≡ z → new ≡ mid ++ y ∷ [] → new ≡ old ++ (xs ++ z ∷ [])
one_more old mid new xs y z e f g = g ∙ (ap₂ (λ zs x. zs ++ x ∷ []) e f ∙ append_assoc old xs (z ∷ []))

-- what a statement is by another word
pub on_ok_code : {T E : Type 0} (r : Result T E) (n : Tables) (new old : List Ending) (code other : Code) (ys : List Gone) → code ≡ other → code_goes n other ≡ ys
    → OnOk r (all_seen n new ≡ all_seen n old ++ ys) → OnOk r (all_seen n new ≡ all_seen n old ++ code_goes n code)
on_ok_code r n new old code other ys is e a = subst (λ zs. OnOk r (all_seen n new ≡ all_seen n old ++ zs)) (sym (ap (code_goes n) is ∙ e)) a
