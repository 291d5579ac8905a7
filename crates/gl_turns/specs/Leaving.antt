-- The order in which things are destroyed: what is in an element before its modifiers, and what is in a component before its instance.
use Rattle.std.specs.Prelude.{ℕ, suc, List, [], ◌∷◌, ◌++◌, map, true, false, Bool, not}
use Rattle.gl_meaning.specs.Path.{at, main, otherwise, items, item, slot, modifier_at, Path, has_path}
use Rattle.gl_meaning.specs.Render.{Piece, element_node, component, Forest}
use Rattle.gl_meaning.specs.Changes.{instances}
use Rattle.gl_meaning.specs.Print.{modifier_paths}
use Rattle.gl_plain.specs.Live.{ModSpot, Live, still, put_live, element_live, branch_live, listed, unlisted, let_live, component_live, yield_live, deep_live, Items, no_items, item_live, Lives, no_lives, live_and}
use Rattle.gl_turns.specs.Places.{Place, instance_place, modifier_place}

pub data Leaver : Type 0 where
  modifier_leaves : Path → Leaver
  instance_leaves : Path → Leaver

-- those of a piece of a rendering
abbrev pub leavers : Piece → List Leaver
leavers (element_node p t a ms f) = map (λ m. modifier_leaves m.path) ms
leavers (component p s f) = instance_leaves p ∷ []
leavers _ = []

-- whether it isn't in a rendering
abbrev pub goes : Forest → Leaver → Bool
goes new (modifier_leaves p) = not (has_path p (modifier_paths new))
goes new (instance_leaves p) = not (has_path p (instances new))

abbrev pub leaver_of : Place → List Leaver
leaver_of (modifier_place p m) = modifier_leaves p ∷ []
leaver_of (instance_place p i) = instance_leaves p ∷ []
leaver_of _ = []

abbrev pub mods_leaving : Path → ℕ → List ModSpot → List Place
mods_leaving p i [] = []
mods_leaving p i (z ∷ zs) = modifier_place (modifier_at i ∷ p) z.id ∷ mods_leaving p (suc i) zs

abbrev mutual
  pub leaving : Path → Live → List Place
  leaving p (still n) = []
  leaving p (put_live n z) = []
  leaving p (element_live n made xs zs ls) = leaving_in p 0 ls ++ mods_leaving p 0 zs
  leaving p (branch_live z true k ls) = leaving_in (main ∷ p) 0 ls
  leaving p (branch_live z false k ls) = leaving_in (otherwise ∷ p) 0 ls
  leaving p (listed z is) = leaving_items (items ∷ p) is
  leaving p (unlisted z k ls) = leaving_in (otherwise ∷ p) 0 ls
  leaving p (let_live made rs ls) = leaving_in (main ∷ p) 0 ls
  leaving p (component_live i made gm args b ls) = leaving_in i.path 0 ls ++ instance_place i.path i ∷ []
  leaving p (yield_live n made rs ls) = leaving_in (slot n ∷ p) 0 ls
  leaving p (deep_live q) = []

  pub leaving_items : Path → Items → List Place
  leaving_items p no_items = []
  leaving_items p (item_live z k ls is) = leaving_in (item z.key z.occurrence ∷ p) 0 ls ++ leaving_items p is

  pub leaving_in : Path → ℕ → Lives → List Place
  leaving_in p i no_lives = []
  leaving_in p i (live_and l ls) = leaving (at i ∷ p) l ++ leaving_in p (suc i) ls
