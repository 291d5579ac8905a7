-- The modifiers of an element of the updating program.
use Rattle.std.specs.Prelude.{ℕ, List, [], ◌++◌, nat_eq, if◌then◌else◌, map, Option, Some, None}
use Rattle.gl_base.specs.Texts.{Text}
use Rattle.gl_value.specs.Value.{Value}
use Rattle.gl_arena.specs.Arena.{by_stamp}
use Rattle.gl_mods.specs.Mods as m
use Rattle.gl_plain.specs.Live.{ModSpot, Live, still, put_live, element_live, branch_live, listed, unlisted, let_live, component_live, yield_live, deep_live, Items, no_items, item_live, Lives, no_lives, live_and}

-- those of each element whose node has the number
abbrev mutual
  pub spots_in : ℕ → Live → List ModSpot
  spots_in k (still n) = []
  spots_in k (put_live n s) = []
  spots_in k (element_live n made xs zs ls) = (if nat_eq k n then zs else []) ++ spots_among k ls
  spots_in k (branch_live s u c ls) = spots_among k ls
  spots_in k (listed s is) = spots_of_items k is
  spots_in k (unlisted s c ls) = spots_among k ls
  spots_in k (let_live made rs ls) = spots_among k ls
  spots_in k (component_live i made gm args b ls) = spots_among k ls
  spots_in k (yield_live n made rs ls) = spots_among k ls
  spots_in k (deep_live p) = []

  pub spots_of_items : ℕ → Items → List ModSpot
  spots_of_items k no_items = []
  spots_of_items k (item_live s c ls is) = spots_among k ls ++ spots_of_items k is

  pub spots_among : ℕ → Lives → List ModSpot
  spots_among k no_lives = []
  spots_among k (live_and l ls) = spots_in k l ++ spots_among k ls

-- The modifiers that these are. One that isn't there listens to nothing.
abbrev pub or_silent : Option m.Installed → m.Installed
or_silent (Some x) = x
or_silent None = record { node = (0, 0); place = 0; name = 1; args = []; named = [] }

abbrev pub mods_of : m.Mods → List ModSpot → List m.Installed
mods_of mods zs = map (λ z. or_silent (by_stamp mods.table z.id)) zs

-- what these call at an event
abbrev pub called_of : m.Mods → Text → List ModSpot → List (Value ℕ)
called_of mods event zs = m.listeners event (mods_of mods zs)
