-- What the names of a tree are: the numbers of its instances with their paths, and those of the references of its cells and items with their
-- sources.
use Rattle.std.specs.Prelude.{◌≡◌, ◌<◌, ℕ, suc, List, [], ◌∷◌, ◌++◌, map, true, false}
use Rattle.gl_meaning.specs.Path.{at, main, otherwise, items, item, slot, Path}
use Rattle.gl_meaning.specs.Scope.{Source, cell, item_value, item_index}
use Rattle.gl_plain.specs.State.{Names, Inst}
use Rattle.gl_plain.specs.Live.{ItemSpot, Live, element_live, branch_live, listed, unlisted, let_live, component_live, yield_live, Items, no_items, item_live, Lives, no_lives, live_and}

abbrev pub numbers : {A : Type 0} → List (ℕ × A) → List ℕ
numbers xs = map (λ x. x.0) xs

abbrev pub values : {A : Type 0} → List (ℕ × A) → List A
values xs = map (λ x. x.1) xs

-- each key is taken to the value that it has in the list
abbrev pub Takes : {A : Type 0} → (ℕ → A) → (A → A) → List (ℕ × A) → Type 0
Takes key h [] = Unit {0}
Takes key h (x ∷ xs) = (h (key x.0) ≡ x.1) × Takes key h xs

-- each number is below n
abbrev pub AllBelow : {A : Type 0} → ℕ → List (ℕ × A) → Type 0
AllBelow n [] = Unit {0}
AllBelow n (x ∷ xs) = (x.0 < n) × AllBelow n xs

-- Of a tree at a path, given what an instance and an item have: all in the order in which they stand.
module _ {A : Type 0} (of_instance : Inst → List (ℕ × A)) (of_item : Path → ItemSpot → List (ℕ × A)) where
  abbrev mutual
    pub ties : Path → Live → List (ℕ × A)
    ties p (element_live n made xs zs ls) = ties_in p 0 ls
    ties p (branch_live z true k ls) = ties_in (main ∷ p) 0 ls
    ties p (branch_live z false k ls) = ties_in (otherwise ∷ p) 0 ls
    ties p (listed z is) = ties_items (items ∷ p) is
    ties p (unlisted z k ls) = ties_in (otherwise ∷ p) 0 ls
    ties p (let_live made rs ls) = ties_in (main ∷ p) 0 ls
    ties p (component_live i made gm args k ls) = of_instance i ++ ties_in i.path 0 ls
    ties p (yield_live n made rs ls) = ties_in (slot n ∷ p) 0 ls
    ties p _ = []

    pub ties_items : Path → Items → List (ℕ × A)
    ties_items p no_items = []
    ties_items p (item_live z k ls is) = let q = item z.key z.occurrence ∷ p in (of_item q z ++ ties_in q 0 ls) ++ ties_items p is

    pub ties_in : Path → ℕ → Lives → List (ℕ × A)
    ties_in p i no_lives = []
    ties_in p i (live_and l ls) = ties (at i ∷ p) l ++ ties_in p (suc i) ls

-- owners

abbrev pub own_tie : Inst → List (ℕ × Path)
own_tie i = (i.id, i.path) ∷ []

abbrev pub no_tie : Path → ItemSpot → List (ℕ × Path)
no_tie q z = []

abbrev pub owner_key : ℕ → Path
owner_key n = at n ∷ []

-- sources

abbrev pub cell_ties : Path → Names → List (ℕ × Source)
cell_ties p cs = map (λ c. (c.1, cell p c.0)) cs

abbrev pub cells_tie : Inst → List (ℕ × Source)
cells_tie i = cell_ties i.path i.cells

abbrev pub item_tie : Path → ItemSpot → List (ℕ × Source)
item_tie q z = (z.value, item_value q) ∷ ((z.index, item_index q) ∷ [])

-- of a whole tree

abbrev pub owners_in : Live → List (ℕ × Path)
owners_in l = ties own_tie no_tie [] l

abbrev pub sources_in : Live → List (ℕ × Source)
sources_in l = ties cells_tie item_tie [] l
