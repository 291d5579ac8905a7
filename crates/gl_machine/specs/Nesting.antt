-- How deep components nest in what was rendered.
use Rattle.std.specs.Prelude.{ℕ, zero, suc}
use Rattle.gl_plain.specs.Live.{Live, element_live, branch_live, listed, unlisted, let_live, component_live, yield_live, Items, no_items, item_live, Lives, no_lives, live_and}

-- at most so deep
abbrev mutual
  pub Nests : Live → ℕ → Type 0
  Nests (element_live n made xs zs ls) m = NestsIn ls m
  Nests (branch_live z u k ls) m = NestsIn ls m
  Nests (listed z is) m = NestsItems is m
  Nests (unlisted z k ls) m = NestsIn ls m
  Nests (let_live made rs ls) m = NestsIn ls m
  Nests (component_live i made gm args k ls) zero = ⊥
  Nests (component_live i made gm args k ls) (suc m) = NestsIn ls m
  Nests (yield_live n made rs ls) m = NestsIn ls m
  Nests _ m = Unit {0}

  pub NestsItems : Items → ℕ → Type 0
  NestsItems no_items m = Unit {0}
  NestsItems (item_live z k ls is) m = NestsIn ls m × NestsItems is m

  pub NestsIn : Lives → ℕ → Type 0
  NestsIn no_lives m = Unit {0}
  NestsIn (live_and l ls) m = Nests l m × NestsIn ls m
