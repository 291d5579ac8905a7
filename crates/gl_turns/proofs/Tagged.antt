-- The positions of a tree with their modifiers and their paths.
use Rattle.std.proofs.Common.{◌≡◌, ℕ, suc, List, [], ◌∷◌, ◌++◌, map, true, false, Option, Some, None, refl, sym, ap, ap₂, ◌∙◌}
use Rattle.std.specs.Prelude.{filter_map}
use Rattle.std.proofs.lemmas.List.{append-nil}
use Rattle.gl_meaning.specs.Path.{at, main, otherwise, items, item, slot, attribute_at, modifier_at, Path}
use Rattle.gl_meaning.proofs.Pieces.{filter_map_append}
use Rattle.gl_plain.specs.Live
use Rattle.gl_plain.specs.Live.{AttrSpot, ModSpot, Live, Lives, Items}
use Rattle.gl_turns.specs.Places.{Place, position_in, modifier_in, comment_places, attr_places, mod_places, places, places_items, places_in}
use Rattle.gl_turns.proofs.LogRenews.{Tag, attr_tags, mod_tags, tags_of, tags_items, tags_in}

abbrev pub PathTag : Type 0
PathTag = Path × Tag

abbrev attr_tagged : Path → List AttrSpot → List PathTag
attr_tagged p [] = []
attr_tagged p (a ∷ xs) = (attribute_at a.name ∷ p, (a.spot.ref, None)) ∷ attr_tagged p xs

abbrev mod_tagged : Path → ℕ → List ModSpot → List PathTag
mod_tagged p i [] = []
mod_tagged p i (z ∷ zs) = (modifier_at i ∷ p, (z.spot.ref, Some z.id)) ∷ mod_tagged p (suc i) zs

abbrev mutual
  pub tagged : Path → Live → List PathTag
  tagged p (Live.still n) = []
  tagged p (Live.put_live n z) = (p, (z.ref, None)) ∷ []
  tagged p (Live.element_live n made xs zs ls) = attr_tagged p xs ++ (tagged_in p 0 ls ++ mod_tagged p 0 zs)
  tagged p (Live.branch_live z true k ls) = (p, (z.ref, None)) ∷ tagged_in (main ∷ p) 0 ls
  tagged p (Live.branch_live z false k ls) = (p, (z.ref, None)) ∷ tagged_in (otherwise ∷ p) 0 ls
  tagged p (Live.listed z is) = (p, (z.ref, None)) ∷ tagged_items (items ∷ p) is
  tagged p (Live.unlisted z k ls) = (p, (z.ref, None)) ∷ tagged_in (otherwise ∷ p) 0 ls
  tagged p (Live.let_live made rs ls) = tagged_in (main ∷ p) 0 ls
  tagged p (Live.component_live i made gm args b ls) = tagged_in i.path 0 ls
  tagged p (Live.yield_live n made rs ls) = tagged_in (slot n ∷ p) 0 ls
  tagged p (Live.deep_live q) = []

  pub tagged_items : Path → Items → List PathTag
  tagged_items p Live.no_items = []
  tagged_items p (Live.item_live z k ls is) = tagged_in (item z.key z.occurrence ∷ p) 0 ls ++ tagged_items p is

  pub tagged_in : Path → ℕ → Lives → List PathTag
  tagged_in p i Live.no_lives = []
  tagged_in p i (Live.live_and l ls) = tagged (at i ∷ p) l ++ tagged_in p (suc i) ls

abbrev pub position_tag : PathTag → Path × ℕ
position_tag z = (z.0, z.1.0)

abbrev pub with_path : Path → Option ℕ → Option (Path × ℕ)
with_path p None = None
with_path p (Some m) = Some (p, m)

abbrev pub modifier_tag : PathTag → Option (Path × ℕ)
modifier_tag z = with_path z.0 z.1.1

map_join : {A B : Type 0} (f : A → B) (xs ys : List A) → map f (xs ++ ys) ≡ map f xs ++ map f ys
map_join f [] ys = refl
map_join f (x ∷ xs) ys = ap (λ zs. f x ∷ zs) (map_join f xs ys)

-- the tags, as they are without paths

tags_both : (xs ys : List PathTag) (us vs : List Tag) → map (λ z. z.1) xs ≡ us → map (λ z. z.1) ys ≡ vs → map (λ z. z.1) (xs ++ ys) ≡ us ++ vs
tags_both xs ys us vs e f = map_join (λ (z : PathTag). z.1) xs ys ∙ ap₂ (λ a b. a ++ b) e f

attrs_plain : (p : Path) (xs : List AttrSpot) → map (λ z. z.1) (attr_tagged p xs) ≡ attr_tags xs
attrs_plain p [] = refl
attrs_plain p (a ∷ xs) = ap (λ ts. (a.spot.ref, None) ∷ ts) (attrs_plain p xs)

mods_plain : (p : Path) (i : ℕ) (zs : List ModSpot) → map (λ z. z.1) (mod_tagged p i zs) ≡ mod_tags zs
mods_plain p i [] = refl
mods_plain p i (z ∷ zs) = ap (λ ts. (z.spot.ref, Some z.id) ∷ ts) (mods_plain p (suc i) zs)

mutual
  pub tagged_plain : (p : Path) (l : Live) → map (λ z. z.1) (tagged p l) ≡ tags_of l
  tagged_plain p (Live.still n) = refl
  tagged_plain p (Live.put_live n z) = refl
  tagged_plain p (Live.element_live n made xs zs ls) =
      tags_both (attr_tagged p xs) (tagged_in p 0 ls ++ mod_tagged p 0 zs) (attr_tags xs) (tags_in ls ++ mod_tags zs) (attrs_plain p xs) (tags_both (tagged_in p 0 ls) (mod_tagged p 0 zs) (tags_in ls) (mod_tags zs) (in_plain p 0 ls) (mods_plain p 0 zs))
  tagged_plain p (Live.branch_live z true k ls) = ap (λ ts. (z.ref, None) ∷ ts) (in_plain (main ∷ p) 0 ls)
  tagged_plain p (Live.branch_live z false k ls) = ap (λ ts. (z.ref, None) ∷ ts) (in_plain (otherwise ∷ p) 0 ls)
  tagged_plain p (Live.listed z is) = ap (λ ts. (z.ref, None) ∷ ts) (items_plain (items ∷ p) is)
  tagged_plain p (Live.unlisted z k ls) = ap (λ ts. (z.ref, None) ∷ ts) (in_plain (otherwise ∷ p) 0 ls)
  tagged_plain p (Live.let_live made rs ls) = in_plain (main ∷ p) 0 ls
  tagged_plain p (Live.component_live i made gm args b ls) = in_plain i.path 0 ls
  tagged_plain p (Live.yield_live n made rs ls) = in_plain (slot n ∷ p) 0 ls
  tagged_plain p (Live.deep_live q) = refl

  items_plain : (p : Path) (is : Items) → map (λ z. z.1) (tagged_items p is) ≡ tags_items is
  items_plain p Live.no_items = refl
  items_plain p (Live.item_live z k ls is) = let q = item z.key z.occurrence ∷ p in tags_both (tagged_in q 0 ls) (tagged_items p is) (tags_in ls) (tags_items is) (in_plain q 0 ls) (items_plain p is)

  in_plain : (p : Path) (i : ℕ) (ls : Lives) → map (λ z. z.1) (tagged_in p i ls) ≡ tags_in ls
  in_plain p i Live.no_lives = refl
  in_plain p i (Live.live_and l ls) = tags_both (tagged (at i ∷ p) l) (tagged_in p (suc i) ls) (tags_of l) (tags_in ls) (tagged_plain (at i ∷ p) l) (in_plain p (suc i) ls)

-- Of the places, what a reading of tags gives is what one of places gives.
module _ (g : Place → Option (Path × ℕ)) (h : PathTag → Option (Path × ℕ)) where
  abbrev Meet : List Place → List PathTag → Type 0
  Meet xs ts = filter_map h ts ≡ filter_map g xs

  meet_both : (xs ys : List Place) (ts us : List PathTag) → Meet xs ts → Meet ys us → Meet (xs ++ ys) (ts ++ us)
  meet_both xs ys ts us e f = filter_map_append h ts us ∙ (ap₂ (λ a b. a ++ b) e f ∙ sym (filter_map_append g xs ys))

  -- where a comment gives nothing
  meet_arm : (xs : List Place) (p : Path) (k : Option ℕ) (ts : List PathTag) → filter_map g (comment_places p k) ≡ [] → Meet xs ts → Meet (xs ++ comment_places p k) ts
  meet_arm xs p k ts e f = f ∙ sym (filter_map_append g xs (comment_places p k) ∙ (ap (λ a. filter_map g xs ++ a) e ∙ append-nil (filter_map g xs)))

abbrev some_position : PathTag → Option (Path × ℕ)
some_position z = Some (z.0, z.1.0)

no_comment : (p : Path) (k : Option ℕ) → filter_map position_in (comment_places p k) ≡ []
no_comment p None = refl
no_comment p (Some n) = refl

no_modifier : (p : Path) (k : Option ℕ) → filter_map modifier_in (comment_places p k) ≡ []
no_modifier p None = refl
no_modifier p (Some n) = refl

attrs_positions : (p : Path) (xs : List AttrSpot) → Meet position_in some_position (attr_places p xs) (attr_tagged p xs)
attrs_positions p [] = refl
attrs_positions p (a ∷ xs) = ap (λ zs. (attribute_at a.name ∷ p, a.spot.ref) ∷ zs) (attrs_positions p xs)

mods_positions : (p : Path) (i : ℕ) (zs : List ModSpot) → Meet position_in some_position (mod_places p i zs) (mod_tagged p i zs)
mods_positions p i [] = refl
mods_positions p i (z ∷ zs) = ap (λ ys. (modifier_at i ∷ p, z.spot.ref) ∷ ys) (mods_positions p (suc i) zs)

attrs_modifiers : (p : Path) (xs : List AttrSpot) → Meet modifier_in modifier_tag (attr_places p xs) (attr_tagged p xs)
attrs_modifiers p [] = refl
attrs_modifiers p (a ∷ xs) = attrs_modifiers p xs

mods_modifiers : (p : Path) (i : ℕ) (zs : List ModSpot) → Meet modifier_in modifier_tag (mod_places p i zs) (mod_tagged p i zs)
mods_modifiers p i [] = refl
mods_modifiers p i (z ∷ zs) = ap (λ ys. (modifier_at i ∷ p, z.id) ∷ ys) (mods_modifiers p (suc i) zs)

mutual
  positions_meet : (p : Path) (l : Live) → Meet position_in some_position (places p l) (tagged p l)
  positions_meet p (Live.still n) = refl
  positions_meet p (Live.put_live n z) = refl
  positions_meet p (Live.element_live n made xs zs ls) =
      meet_both position_in some_position (attr_places p xs) (places_in p 0 ls ++ mod_places p 0 zs) (attr_tagged p xs) (tagged_in p 0 ls ++ mod_tagged p 0 zs) (attrs_positions p xs)
      (meet_both position_in some_position (places_in p 0 ls) (mod_places p 0 zs) (tagged_in p 0 ls) (mod_tagged p 0 zs) (in_positions p 0 ls) (mods_positions p 0 zs))
  positions_meet p (Live.branch_live z true k ls) = ap (λ ys. (p, z.ref) ∷ ys) (meet_arm position_in some_position (places_in (main ∷ p) 0 ls) (main ∷ p) k (tagged_in (main ∷ p) 0 ls) (no_comment (main ∷ p) k) (in_positions (main ∷ p) 0 ls))
  positions_meet p (Live.branch_live z false k ls) =
      ap (λ ys. (p, z.ref) ∷ ys) (meet_arm position_in some_position (places_in (otherwise ∷ p) 0 ls) (otherwise ∷ p) k (tagged_in (otherwise ∷ p) 0 ls) (no_comment (otherwise ∷ p) k) (in_positions (otherwise ∷ p) 0 ls))
  positions_meet p (Live.listed z is) = ap (λ ys. (p, z.ref) ∷ ys) (items_positions (items ∷ p) is)
  positions_meet p (Live.unlisted z k ls) =
      ap (λ ys. (p, z.ref) ∷ ys) (meet_arm position_in some_position (places_in (otherwise ∷ p) 0 ls) (otherwise ∷ p) k (tagged_in (otherwise ∷ p) 0 ls) (no_comment (otherwise ∷ p) k) (in_positions (otherwise ∷ p) 0 ls))
  positions_meet p (Live.let_live made rs ls) = in_positions (main ∷ p) 0 ls
  positions_meet p (Live.component_live i made gm args b ls) = in_positions i.path 0 ls
  positions_meet p (Live.yield_live n made rs ls) = in_positions (slot n ∷ p) 0 ls
  positions_meet p (Live.deep_live q) = refl

  items_positions : (p : Path) (is : Items) → Meet position_in some_position (places_items p is) (tagged_items p is)
  items_positions p Live.no_items = refl
  items_positions p (Live.item_live z k ls is) =
      let q = item z.key z.occurrence ∷ p in
      meet_both position_in some_position (places_in q 0 ls ++ comment_places q k) (places_items p is) (tagged_in q 0 ls) (tagged_items p is)
      (meet_arm position_in some_position (places_in q 0 ls) q k (tagged_in q 0 ls) (no_comment q k) (in_positions q 0 ls)) (items_positions p is)

  in_positions : (p : Path) (i : ℕ) (ls : Lives) → Meet position_in some_position (places_in p i ls) (tagged_in p i ls)
  in_positions p i Live.no_lives = refl
  in_positions p i (Live.live_and l ls) = meet_both position_in some_position (places (at i ∷ p) l) (places_in p (suc i) ls) (tagged (at i ∷ p) l) (tagged_in p (suc i) ls) (positions_meet (at i ∷ p) l) (in_positions p (suc i) ls)

mutual
  pub modifiers_meet : (p : Path) (l : Live) → filter_map modifier_tag (tagged p l) ≡ filter_map modifier_in (places p l)
  modifiers_meet p (Live.still n) = refl
  modifiers_meet p (Live.put_live n z) = refl
  modifiers_meet p (Live.element_live n made xs zs ls) =
      meet_both modifier_in modifier_tag (attr_places p xs) (places_in p 0 ls ++ mod_places p 0 zs) (attr_tagged p xs) (tagged_in p 0 ls ++ mod_tagged p 0 zs) (attrs_modifiers p xs)
      (meet_both modifier_in modifier_tag (places_in p 0 ls) (mod_places p 0 zs) (tagged_in p 0 ls) (mod_tagged p 0 zs) (in_modifiers p 0 ls) (mods_modifiers p 0 zs))
  modifiers_meet p (Live.branch_live z true k ls) = meet_arm modifier_in modifier_tag (places_in (main ∷ p) 0 ls) (main ∷ p) k (tagged_in (main ∷ p) 0 ls) (no_modifier (main ∷ p) k) (in_modifiers (main ∷ p) 0 ls)
  modifiers_meet p (Live.branch_live z false k ls) = meet_arm modifier_in modifier_tag (places_in (otherwise ∷ p) 0 ls) (otherwise ∷ p) k (tagged_in (otherwise ∷ p) 0 ls) (no_modifier (otherwise ∷ p) k) (in_modifiers (otherwise ∷ p) 0 ls)
  modifiers_meet p (Live.listed z is) = items_modifiers (items ∷ p) is
  modifiers_meet p (Live.unlisted z k ls) = meet_arm modifier_in modifier_tag (places_in (otherwise ∷ p) 0 ls) (otherwise ∷ p) k (tagged_in (otherwise ∷ p) 0 ls) (no_modifier (otherwise ∷ p) k) (in_modifiers (otherwise ∷ p) 0 ls)
  modifiers_meet p (Live.let_live made rs ls) = in_modifiers (main ∷ p) 0 ls
  modifiers_meet p (Live.component_live i made gm args b ls) = in_modifiers i.path 0 ls
  modifiers_meet p (Live.yield_live n made rs ls) = in_modifiers (slot n ∷ p) 0 ls
  modifiers_meet p (Live.deep_live q) = refl

  items_modifiers : (p : Path) (is : Items) → Meet modifier_in modifier_tag (places_items p is) (tagged_items p is)
  items_modifiers p Live.no_items = refl
  items_modifiers p (Live.item_live z k ls is) =
      let q = item z.key z.occurrence ∷ p in
      meet_both modifier_in modifier_tag (places_in q 0 ls ++ comment_places q k) (places_items p is) (tagged_in q 0 ls) (tagged_items p is)
      (meet_arm modifier_in modifier_tag (places_in q 0 ls) q k (tagged_in q 0 ls) (no_modifier q k) (in_modifiers q 0 ls)) (items_modifiers p is)

  in_modifiers : (p : Path) (i : ℕ) (ls : Lives) → Meet modifier_in modifier_tag (places_in p i ls) (tagged_in p i ls)
  in_modifiers p i Live.no_lives = refl
  in_modifiers p i (Live.live_and l ls) = meet_both modifier_in modifier_tag (places (at i ∷ p) l) (places_in p (suc i) ls) (tagged (at i ∷ p) l) (tagged_in p (suc i) ls) (modifiers_meet (at i ∷ p) l) (in_modifiers p (suc i) ls)

-- each tag's position stands there

all_found : (ts : List PathTag) → filter_map some_position ts ≡ map position_tag ts
all_found [] = refl
all_found (z ∷ ts) = ap (λ ys. (z.0, z.1.0) ∷ ys) (all_found ts)

pub tagged_positions : (p : Path) (l : Live) → map position_tag (tagged p l) ≡ filter_map position_in (places p l)
tagged_positions p l = sym (all_found (tagged p l)) ∙ positions_meet p l
