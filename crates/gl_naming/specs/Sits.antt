-- When a tree sits right.
use Rattle.std.specs.Prelude.{◌≡◌, ◌⊎◌, ℕ, suc, true, false, ◌∷◌}
use Rattle.gl_meaning.specs.App.{App}
use Rattle.gl_meaning.specs.Eval.{class_at}
use Rattle.gl_meaning.specs.Laws.{Within}
use Rattle.gl_meaning.specs.Order.{names_of}
use Rattle.gl_meaning.specs.Path.{PathStep, at, main, otherwise, items, item, slot, Path}
use Rattle.gl_plain.specs.Live.{ItemSpot, Live, element_live, branch_live, listed, unlisted, let_live, component_live, yield_live, Items, no_items, item_live, Lives, no_lives, live_and}

abbrev pub step_of : ItemSpot → PathStep
step_of z = item z.key z.occurrence

-- what is at or below the place q is at or below p
abbrev pub IsBelow : Path → Path → Type 0
IsBelow p q = (j : Path) → Within q j → Within p j

-- an item of these is at the step
abbrev pub StepIn : Items → PathStep → Type 0
StepIn no_items l = ⊥
StepIn (item_live z k ls is) l = (l ≡ step_of z) ⊎ StepIn is l

-- Each instance stands at its place or below it, and has a cell for each field of its class; the items of one list differ.
module _ (app : App) where
  abbrev mutual
    pub Sits : Path → Live → Type 0
    Sits p (element_live n made xs zs ls) = SitsIn p 0 ls
    Sits p (branch_live z true k ls) = SitsIn (main ∷ p) 0 ls
    Sits p (branch_live z false k ls) = SitsIn (otherwise ∷ p) 0 ls
    Sits p (listed z is) = SitsItems (items ∷ p) is
    Sits p (unlisted z k ls) = SitsIn (otherwise ∷ p) 0 ls
    Sits p (let_live made rs ls) = SitsIn (main ∷ p) 0 ls
    Sits p (component_live i made gm args k ls) = IsBelow p i.path × (names_of i.cells ≡ names_of (class_at app i.path).fields) × SitsIn i.path 0 ls
    Sits p (yield_live n made rs ls) = SitsIn (slot n ∷ p) 0 ls
    Sits p _ = Unit {0}

    pub SitsItems : Path → Items → Type 0
    SitsItems p no_items = Unit {0}
    SitsItems p (item_live z k ls is) = (StepIn is (step_of z) → ⊥) × SitsIn (step_of z ∷ p) 0 ls × SitsItems p is

    pub SitsIn : Path → ℕ → Lives → Type 0
    SitsIn p i no_lives = Unit {0}
    SitsIn p i (live_and l ls) = Sits (at i ∷ p) l × SitsIn p (suc i) ls
