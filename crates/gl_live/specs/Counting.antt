-- What stands in a tree, where a node counts as much as a and an instance as much as b.
use Rattle.std.specs.Prelude.{◌≡◌, ℕ, ◌+◌, Option, Some, None, min}
use Rattle.gl_plain.specs.Live.{Live, still, put_live, element_live, branch_live, listed, unlisted, let_live, component_live, yield_live, deep_live, Items, no_items, item_live, Lives, no_lives, live_and}
use Rattle.gl_live.specs.Most.{most}
use Rattle.gl_live.specs.declared.counting.Live as code

abbrev pub weigh_comment : ℕ → Option ℕ → ℕ
weigh_comment a None = 0
weigh_comment a (Some n) = a

abbrev mutual
  pub weigh : ℕ → ℕ → Live → ℕ
  weigh a b (still n) = a
  weigh a b (put_live n z) = a
  weigh a b (element_live n made xs zs ls) = a + weigh_in a b ls
  weigh a b (branch_live z u k ls) = weigh_in a b ls + weigh_comment a k
  weigh a b (listed z is) = weigh_items a b is
  weigh a b (unlisted z k ls) = weigh_in a b ls + weigh_comment a k
  weigh a b (let_live made rs ls) = weigh_in a b ls
  weigh a b (component_live i made gm args k ls) = b + weigh_in a b ls
  weigh a b (yield_live n made rs ls) = weigh_in a b ls
  weigh a b (deep_live p) = 0

  pub weigh_items : ℕ → ℕ → Items → ℕ
  weigh_items a b no_items = 0
  weigh_items a b (item_live z k ls is) = (weigh_in a b ls + weigh_comment a k) + weigh_items a b is

  pub weigh_in : ℕ → ℕ → Lives → ℕ
  weigh_in a b no_lives = 0
  weigh_in a b (live_and l ls) = weigh a b l + weigh_in a b ls

-- The nodes are those where a node counts one and an instance nothing, and the instances the other way round.
pub record Counts (x : code.Live) (f : ℕ → ℕ → ℕ) : Type 0 where
  pub nodes : x.nodes ≡ min (f 1 0) most
  pub instances : x.instances ≡ min (f 0 1) most
