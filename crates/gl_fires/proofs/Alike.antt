-- The instances and modifiers of a tree, as actions and as the theory have them.
use Rattle.std.proofs.Common.{◌≡◌, ℕ, List, [], ◌++◌, Option, Some, refl, ap, ap₂}
use Rattle.std.specs.Prelude.{nat_eq, if◌then◌else◌}
use Rattle.gl_base.specs.Names.{or_else}
use Rattle.gl_plain.specs.State.{Names, Inst}
use Rattle.gl_plain.specs.Live.{ModSpot, Live, still, put_live, element_live, branch_live, listed, unlisted, let_live, component_live, yield_live, deep_live, Items, no_items, item_live, Lives, no_lives, live_and}
use Rattle.gl_acting.specs.Found as t
use Rattle.gl_acting.specs.Heard as u
use Rattle.gl_actions.specs.Found.{instance_in, instance_of_items, instance_among}
use Rattle.gl_actions.specs.Heard.{spots_in, spots_of_items, spots_among}

mutual
  pub same_in : (k : ℕ) (l : Live) → t.instance_in k l ≡ instance_in k l
  same_in k (still n) = refl
  same_in k (put_live n s) = refl
  same_in k (element_live n made xs zs ls) = same_among k ls
  same_in k (branch_live s u c ls) = same_among k ls
  same_in k (listed s is) = same_items k is
  same_in k (unlisted s c ls) = same_among k ls
  same_in k (let_live made rs ls) = same_among k ls
  same_in k (component_live i made gm args b ls) = ap (λ (o : Option (Inst × Names)). if nat_eq k i.id then Some (i, args) else o) (same_among k ls)
  same_in k (yield_live n made rs ls) = same_among k ls
  same_in k (deep_live p) = refl

  same_items : (k : ℕ) (is : Items) → t.instance_of_items k is ≡ instance_of_items k is
  same_items k no_items = refl
  same_items k (item_live s c ls is) = ap₂ or_else (same_among k ls) (same_items k is)

  same_among : (k : ℕ) (ls : Lives) → t.instance_among k ls ≡ instance_among k ls
  same_among k no_lives = refl
  same_among k (live_and l ls) = ap₂ or_else (same_in k l) (same_among k ls)

mutual
  pub spots_alike : (k : ℕ) (l : Live) → u.spots_in k l ≡ spots_in k l
  spots_alike k (still n) = refl
  spots_alike k (put_live n s) = refl
  spots_alike k (element_live n made xs zs ls) = ap (λ ys. (if nat_eq k n then zs else []) ++ ys) (among_alike k ls)
  spots_alike k (branch_live s b c ls) = among_alike k ls
  spots_alike k (listed s is) = items_alike k is
  spots_alike k (unlisted s c ls) = among_alike k ls
  spots_alike k (let_live made rs ls) = among_alike k ls
  spots_alike k (component_live i made gm args b ls) = among_alike k ls
  spots_alike k (yield_live n made rs ls) = among_alike k ls
  spots_alike k (deep_live p) = refl

  items_alike : (k : ℕ) (is : Items) → u.spots_of_items k is ≡ spots_of_items k is
  items_alike k no_items = refl
  items_alike k (item_live s c ls is) = ap₂ (λ xs ys. xs ++ ys) (among_alike k ls) (items_alike k is)

  among_alike : (k : ℕ) (ls : Lives) → u.spots_among k ls ≡ spots_among k ls
  among_alike k no_lives = refl
  among_alike k (live_and l ls) = ap₂ (λ xs ys. xs ++ ys) (spots_alike k l) (among_alike k ls)
