-- Names that take each number of a tree to what it stands for are right for the tree.
use Rattle.std.proofs.Common.{ℕ, suc, List, [], ◌∷◌, ◌++◌, true, false}
use Rattle.gl_meaning.specs.Path.{at, main, otherwise, items, item, slot, Path}
use Rattle.gl_meaning.specs.Scope.{Source}
use Rattle.gl_plain.specs.State.{Names}
use Rattle.gl_plain.specs.Live.{Live, still, put_live, element_live, branch_live, listed, unlisted, let_live, component_live, yield_live, deep_live, Items, no_items, item_live, Lives, no_lives, live_and}
use Rattle.gl_naming.specs.Renamed.{CellsRight, Right, RightItems, RightIn}
use Rattle.gl_naming.specs.Numbered.{number}
pub use Rattle.gl_naming.specs.Ties.{ties, ties_items, ties_in, own_tie, no_tie, owner_key, cell_ties, cells_tie, item_tie}
use Rattle.gl_naming.proofs.Swaps.{Takes, takes_left, takes_right}

-- Names that take each number to what it stands for are right.
module _ (f : Path → Path) (g : Source → Source) where
  abbrev Owners : List (ℕ × Path) → Type 0
  Owners xs = Takes owner_key f xs

  abbrev Sources : List (ℕ × Source) → Type 0
  Sources xs = Takes number g xs

  cells_right : (p : Path) (cs : Names) → Sources (cell_ties p cs) → CellsRight f g p cs
  cells_right p [] t = tt
  cells_right p (c ∷ cs) t = (t.0, cells_right p cs t.1)

  mutual
    pub right : (p : Path) (l : Live) → Owners (ties own_tie no_tie p l) → Sources (ties cells_tie item_tie p l) → Right f g p l
    right p (still n) o s = tt
    right p (put_live n z) o s = tt
    right p (element_live n made xs zs ls) o s = right_in p 0 ls o s
    right p (branch_live z true k ls) o s = right_in (main ∷ p) 0 ls o s
    right p (branch_live z false k ls) o s = right_in (otherwise ∷ p) 0 ls o s
    right p (listed z is) o s = right_items (items ∷ p) is o s
    right p (unlisted z k ls) o s = right_in (otherwise ∷ p) 0 ls o s
    right p (let_live made rs ls) o s = right_in (main ∷ p) 0 ls o s
    right p (component_live i made gm args k ls) o s = (
      o.0,
      cells_right i.path i.cells (takes_left number g (cells_tie i) (ties_in cells_tie item_tie i.path 0 ls) s),
      right_in i.path 0 ls o.1 (takes_right number g (cells_tie i) (ties_in cells_tie item_tie i.path 0 ls) s),
    )
    right p (yield_live n made rs ls) o s = right_in (slot n ∷ p) 0 ls o s
    right p (deep_live q) o s = tt

    right_items : (p : Path) (is : Items) → Owners (ties_items own_tie no_tie p is) → Sources (ties_items cells_tie item_tie p is) → RightItems f g p is
    right_items p no_items o s = tt
    right_items p (item_live z k ls is) o s =
        let q = item z.key z.occurrence ∷ p in
        let t = takes_left number g (item_tie q z ++ ties_in cells_tie item_tie q 0 ls) (ties_items cells_tie item_tie p is) s in (
          (t.0, t.1.0),
          right_in q 0 ls (takes_left owner_key f (ties_in own_tie no_tie q 0 ls) (ties_items own_tie no_tie p is) o) t.1.1,
          right_items p is (takes_right owner_key f (ties_in own_tie no_tie q 0 ls) (ties_items own_tie no_tie p is) o)
              (takes_right number g (item_tie q z ++ ties_in cells_tie item_tie q 0 ls) (ties_items cells_tie item_tie p is) s),
        )

    right_in : (p : Path) (i : ℕ) (ls : Lives) → Owners (ties_in own_tie no_tie p i ls) → Sources (ties_in cells_tie item_tie p i ls) → RightIn f g p i ls
    right_in p i no_lives o s = tt
    right_in p i (live_and l ls) o s = (
      right (at i ∷ p) l (takes_left owner_key f (ties own_tie no_tie (at i ∷ p) l) (ties_in own_tie no_tie p (suc i) ls) o)
          (takes_left number g (ties cells_tie item_tie (at i ∷ p) l) (ties_in cells_tie item_tie p (suc i) ls) s),
      right_in p (suc i) ls (takes_right owner_key f (ties own_tie no_tie (at i ∷ p) l) (ties_in own_tie no_tie p (suc i) ls) o)
          (takes_right number g (ties cells_tie item_tie (at i ∷ p) l) (ties_in cells_tie item_tie p (suc i) ls) s),
    )
