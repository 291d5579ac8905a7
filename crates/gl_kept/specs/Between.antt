-- How many items an update moves, by the trees before and after it.
use Rattle.std.specs.Prelude.{ℕ, ◌+◌, List, [], ◌∷◌, ◌++◌, true, false, if◌then◌else◌, position, Option, Some, None}
use Rattle.gl_ast.specs.ExprCode.{owned}
use Rattle.gl_plain.specs.Live.{Live, element_live, branch_live, listed, unlisted, let_live, component_live, yield_live, Items, no_items, item_live, Lives, live_and}
use Rattle.gl_each.specs.Key.{Key, same_key}
use Rattle.gl_each.specs.Sync.{is_passed}
use Rattle.gl_kept.specs.Listed.{spot_keys}

-- Lists of keys

-- the old place of a new key, where it has one
abbrev pub kept_place : Option ℕ → List ℕ
kept_place None = []
kept_place (Some i) = i ∷ []

-- one, where an earlier new key stood at a greater old place
abbrev pub one_passed : List ℕ → Option ℕ → ℕ
one_passed before None = 0
one_passed before (Some i) = if is_passed before i then 1 else 0

-- Of the new keys that stand in the old list, how many come after one that stood behind them there. `before` are the old places of those that
-- came so far.
abbrev pub moves_from : List Key → List ℕ → List Key → ℕ
moves_from old before [] = 0
moves_from old before (k ∷ ks) = let place = position (same_key k) old in one_passed before place + moves_from old (before ++ kept_place place) ks

abbrev pub moves_between : List Key → List Key → ℕ
moves_between old new = moves_from old [] new

-- Trees

-- what the old item of a key has in it
abbrev pub lives_with : Key → Items → Option Lives
lives_with k no_items = None
lives_with k (item_live z c ls is) = if same_key k (owned z.key, z.occurrence) then Some ls else lives_with k is

-- what is counted with the old item, where there is one
abbrev pub kept_with : Option Lives → (Lives → ℕ) → ℕ
kept_with None count = 0
kept_with (Some ks) count = count ks

-- Of two trees of one page: what stays in its place is compared with what stood there, and of what is new nothing is moved. In a list with items
-- before and after, those are moved that `moves_between` counts, and what is in an item is compared with what was in the old item of its key.
abbrev mutual
  pub moved_between : Live → Live → ℕ
  moved_between (element_live n made xs zs ks) (element_live n2 made2 xs2 zs2 ls) = moved_bodies ks ls
  moved_between (branch_live z true c ks) (branch_live z2 true c2 ls) = moved_bodies ks ls
  moved_between (branch_live z false c ks) (branch_live z2 false c2 ls) = moved_bodies ks ls
  moved_between (listed z is) (listed z2 js) = moves_between (spot_keys is) (spot_keys js) + moved_items is js
  moved_between (unlisted z c ks) (unlisted z2 c2 ls) = moved_bodies ks ls
  moved_between (let_live made rs ks) (let_live made2 rs2 ls) = moved_bodies ks ls
  moved_between (component_live i made gm args b ks) (component_live i2 made2 gm2 args2 b2 ls) = moved_bodies ks ls
  moved_between (yield_live n made rs ks) (yield_live n2 made2 rs2 ls) = moved_bodies ks ls
  moved_between _ _ = 0

  pub moved_items : Items → Items → ℕ
  moved_items is no_items = 0
  moved_items is (item_live z c ls js) = kept_with (lives_with (owned z.key, z.occurrence) is) (λ ks. moved_bodies ks ls) + moved_items is js

  pub moved_bodies : Lives → Lives → ℕ
  moved_bodies (live_and k ks) (live_and l ls) = moved_between k l + moved_bodies ks ls
  moved_bodies _ _ = 0
