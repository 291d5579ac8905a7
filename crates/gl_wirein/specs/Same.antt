-- Whether two values of JSON are equal. A float is equal to none.
use Rattle.std.specs.Prelude.{Bool, true, false, ◌&&◌, ◌==◌}
use Rattle.std.specs.Bool.{beq}
use Rattle.std.specs.Ordering.{int_eq}
use Rattle.std.specs.Str.{bytes_eq}
use Rattle.serde_json.specs.Data.{Num, unsigned, negative, Data, null, boolean, number, string, array, object, Items, no_items, item, Members, no_members, member}

abbrev pub same_number : Num → Num → Bool
same_number (unsigned a) (unsigned b) = a == b
same_number (negative a) (negative b) = int_eq a b
same_number _ _ = false

abbrev mutual
  pub same : Data → Data → Bool
  same null null = true
  same (boolean a) (boolean b) = beq a b
  same (number a) (number b) = same_number a b
  same (string a) (string b) = bytes_eq a b
  same (array ds) (array es) = same_items ds es
  same (object ms) (object ns) = same_members ms ns
  same _ _ = false

  pub same_items : Items → Items → Bool
  same_items no_items no_items = true
  same_items (item d ds) (item e es) = same d e && same_items ds es
  same_items _ _ = false

  pub same_members : Members → Members → Bool
  same_members no_members no_members = true
  same_members (member k d ms) (member l e ns) = (bytes_eq k l && same d e) && same_members ms ns
  same_members _ _ = false
