-- An instance of the updating program.
use Rattle.std.specs.Prelude.{ℕ, nat_eq, if◌then◌else◌, Option, Some, None}
use Rattle.gl_base.specs.Names.{or_else}
use Rattle.gl_plain.specs.State.{Names, Inst}
use Rattle.gl_plain.specs.Live.{Live, still, put_live, element_live, branch_live, listed, unlisted, let_live, component_live, yield_live, deep_live, Items, no_items, item_live, Lives, no_lives, live_and}

-- the first instance with a number, with its arguments
abbrev mutual
  pub instance_in : ℕ → Live → Option (Inst × Names)
  instance_in k (still n) = None
  instance_in k (put_live n s) = None
  instance_in k (element_live n made xs zs ls) = instance_among k ls
  instance_in k (branch_live s u c ls) = instance_among k ls
  instance_in k (listed s is) = instance_of_items k is
  instance_in k (unlisted s c ls) = instance_among k ls
  instance_in k (let_live made rs ls) = instance_among k ls
  instance_in k (component_live i made gm args b ls) = if nat_eq k i.id then Some (i, args) else instance_among k ls
  instance_in k (yield_live n made rs ls) = instance_among k ls
  instance_in k (deep_live p) = None

  pub instance_of_items : ℕ → Items → Option (Inst × Names)
  instance_of_items k no_items = None
  instance_of_items k (item_live s c ls is) = or_else (instance_among k ls) (instance_of_items k is)

  pub instance_among : ℕ → Lives → Option (Inst × Names)
  instance_among k no_lives = None
  instance_among k (live_and l ls) = or_else (instance_in k l) (instance_among k ls)
