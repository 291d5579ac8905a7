-- How many questions an update asks that keeps a guard for each region.
use Rattle.std.specs.Prelude.{ℕ, suc, ◌+◌, List, [], ◌∷◌, ◌++◌, length, Bool, true, false, ◌&&◌, if◌then◌else◌, Option}
use Rattle.std.specs.List.{list_any}
use Rattle.gl_meaning.specs.Path.{at, main, otherwise, items, item, slot, Path}
use Rattle.gl_meaning.specs.Scope.{Source}
use Rattle.gl_plain.specs.Ids.{Id, ref}
use Rattle.gl_plain.specs.State.{Thing}
use Rattle.gl_plain.specs.Live.{Live, still, put_live, element_live, branch_live, listed, unlisted, let_live, component_live, yield_live, deep_live, Items, no_items, item_live, Lives, no_lives, live_and}
use Rattle.gl_plain.specs.Renew.{last_of}
use Rattle.gl_plain.specs.Counts.{positions_in, positions_items}

-- The paths of the regions of a tree, in order: what is rendered in a branch, the items of a list, an item, and the body of a component.
abbrev mutual
  pub regions_of : Path → Live → List Path
  regions_of p (element_live n made xs zs ls) = regions_in p 0 ls
  regions_of p (branch_live z true k ls) = (main ∷ p) ∷ regions_in (main ∷ p) 0 ls
  regions_of p (branch_live z false k ls) = (otherwise ∷ p) ∷ regions_in (otherwise ∷ p) 0 ls
  regions_of p (listed z is) = (items ∷ p) ∷ regions_items (items ∷ p) is
  regions_of p (unlisted z k ls) = (otherwise ∷ p) ∷ regions_in (otherwise ∷ p) 0 ls
  regions_of p (let_live made rs ls) = regions_in (main ∷ p) 0 ls
  regions_of p (component_live i made gm args b ls) = i.path ∷ regions_in i.path 0 ls
  regions_of p (yield_live n made rs ls) = regions_in (slot n ∷ p) 0 ls
  regions_of p _ = []

  pub regions_items : Path → Items → List Path
  regions_items p no_items = []
  regions_items p (item_live z k ls is) = (item z.key z.occurrence ∷ p) ∷ (regions_in (item z.key z.occurrence ∷ p) 0 ls ++ regions_items p is)

  pub regions_in : Path → ℕ → Lives → List Path
  regions_in p i no_lives = []
  regions_in p i (live_and l ls) = regions_of (at i ∷ p) l ++ regions_in p (suc i) ls

module _ (look : Id → Option Thing) (touched : Source → Bool) (stays : Path → Bool) where
  -- some position read last what is touched
  abbrev pub some_stale : List ℕ → Bool
  some_stale rs = list_any (λ r. last_of (look (ref r)) touched) rs

  -- A region's guard is one question for all positions in it, and in regions within it. The region is entered where it stays and one of these is
  -- stale.
  abbrev pub entered : Path → List ℕ → ℕ → ℕ
  entered q rs n = if stays q && some_stale rs then n else 0

  -- One question for each position, and for each region its guard's; the same again in a region that is entered.
  abbrev mutual
    pub asks : Path → Live → ℕ
    asks p (still n) = 0
    asks p (put_live n z) = 1
    asks p (element_live n made xs zs ls) = (length xs + length zs) + asks_in p 0 ls
    asks p (branch_live z true k ls) = 1 + (1 + entered (main ∷ p) (positions_in ls) (asks_in (main ∷ p) 0 ls))
    asks p (branch_live z false k ls) = 1 + (1 + entered (otherwise ∷ p) (positions_in ls) (asks_in (otherwise ∷ p) 0 ls))
    asks p (listed z is) = 1 + (1 + entered (items ∷ p) (positions_items is) (asks_items (items ∷ p) is))
    asks p (unlisted z k ls) = 1 + (1 + entered (otherwise ∷ p) (positions_in ls) (asks_in (otherwise ∷ p) 0 ls))
    asks p (let_live made rs ls) = asks_in (main ∷ p) 0 ls
    asks p (component_live i made gm args b ls) = 1 + entered i.path (positions_in ls) (asks_in i.path 0 ls)
    asks p (yield_live n made rs ls) = asks_in (slot n ∷ p) 0 ls
    asks p (deep_live q) = 0

    pub asks_items : Path → Items → ℕ
    asks_items p no_items = 0
    asks_items p (item_live z k ls is) = (1 + entered (item z.key z.occurrence ∷ p) (positions_in ls) (asks_in (item z.key z.occurrence ∷ p) 0 ls)) + asks_items p is

    pub asks_in : Path → ℕ → Lives → ℕ
    asks_in p i no_lives = 0
    asks_in p i (live_and l ls) = asks (at i ∷ p) l + asks_in p (suc i) ls
