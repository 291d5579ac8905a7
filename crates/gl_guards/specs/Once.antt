-- Updating programs in which no key stands twice in a list.
use Rattle.gl_meaning.specs.Laws.{NoRepeat}
use Rattle.gl_plain.specs.Live.{Live, element_live, branch_live, listed, unlisted, let_live, component_live, yield_live, Items, no_items, item_live, Lives, no_lives, live_and}
use Rattle.gl_kept.specs.Listed.{spot_keys}

abbrev mutual
  pub KeysOnce : Live → Type 0
  KeysOnce (element_live n made xs zs ls) = KeysOnceIn ls
  KeysOnce (branch_live z u k ls) = KeysOnceIn ls
  KeysOnce (listed z is) = NoRepeat (spot_keys is) × KeysOnceItems is
  KeysOnce (unlisted z k ls) = KeysOnceIn ls
  KeysOnce (let_live made rs ls) = KeysOnceIn ls
  KeysOnce (component_live i made gm args b ls) = KeysOnceIn ls
  KeysOnce (yield_live n made rs ls) = KeysOnceIn ls
  KeysOnce _ = Unit {0}

  pub KeysOnceItems : Items → Type 0
  KeysOnceItems no_items = Unit {0}
  KeysOnceItems (item_live z k ls is) = KeysOnceIn ls × KeysOnceItems is

  pub KeysOnceIn : Lives → Type 0
  KeysOnceIn no_lives = Unit {0}
  KeysOnceIn (live_and l ls) = KeysOnce l × KeysOnceIn ls
