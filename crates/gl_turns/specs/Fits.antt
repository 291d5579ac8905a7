-- What a tree that stands is like, without its content: words of private clauses.
use Rattle.std.specs.Prelude.{◌≡◌, ◌<◌, ◌⊎◌, ℕ, suc, List, [], ◌∷◌, true, false}
use Rattle.gl_base.specs.Texts.{Text}
use Rattle.gl_meaning.specs.Path.{PathStep, at, main, otherwise, items, item, into, slot, Path}
use Rattle.gl_plain.specs.Ids.{ref, instance_id, occurs}
use Rattle.gl_plain.specs.Binding.{Spot}
use Rattle.gl_plain.specs.Live.{AttrSpot, ModSpot, Live, still, put_live, element_live, branch_live, listed, unlisted, let_live, component_live, yield_live, deep_live, Items, no_items, item_live, Lives, no_lives, live_and}

-- a position's reference is its own
abbrev pub OwnSpot : Spot → Type 0
OwnSpot z = 0 < occurs (ref z.ref) z.made

abbrev pub AttrsOwn : List AttrSpot → Type 0
AttrsOwn [] = Unit {0}
AttrsOwn (a ∷ xs) = OwnSpot a.spot × AttrsOwn xs

abbrev pub ModsOwn : List ModSpot → Type 0
ModsOwn [] = Unit {0}
ModsOwn (z ∷ zs) = OwnSpot z.spot × ModsOwn zs

-- the steps of the items, and that a step is none of these
abbrev pub StepsIn : Items → PathStep → Type 0
StepsIn no_items l = ⊥
StepsIn (item_live z k ls is) l = (l ≡ item z.key z.occurrence) ⊎ StepsIn is l

abbrev mutual
  -- each position and instance is the part's own, each component stands at its place, and no two items of a list have one key and occurrence
  pub Fits : Path → Live → Type 0
  Fits p (still n) = Unit {0}
  Fits p (put_live n z) = OwnSpot z
  Fits p (element_live n made xs zs ls) = AttrsOwn xs × ModsOwn zs × FitsIn p 0 ls
  Fits p (branch_live z true k ls) = OwnSpot z × FitsIn (main ∷ p) 0 ls
  Fits p (branch_live z false k ls) = OwnSpot z × FitsIn (otherwise ∷ p) 0 ls
  Fits p (listed z is) = OwnSpot z × FitsItems (items ∷ p) is
  Fits p (unlisted z k ls) = OwnSpot z × FitsIn (otherwise ∷ p) 0 ls
  Fits p (let_live made rs ls) = FitsIn (main ∷ p) 0 ls
  Fits p (component_live i made gm args b ls) = (c : Text) × (i.path ≡ into c ∷ p) × (0 < occurs (instance_id i.id) made) × FitsIn i.path 0 ls
  Fits p (yield_live n made rs ls) = FitsIn (slot n ∷ p) 0 ls
  Fits p (deep_live q) = Unit {0}

  pub FitsItems : Path → Items → Type 0
  FitsItems p no_items = Unit {0}
  FitsItems p (item_live z k ls is) = (StepsIn is (item z.key z.occurrence) → ⊥) × FitsIn (item z.key z.occurrence ∷ p) 0 ls × FitsItems p is

  pub FitsIn : Path → ℕ → Lives → Type 0
  FitsIn p i no_lives = Unit {0}
  FitsIn p i (live_and l ls) = Fits (at i ∷ p) l × FitsIn p (suc i) ls

abbrev pub FitsRoot : Live → Type 0
FitsRoot (component_live i made gm args b ls) = (i.path ≡ []) × (0 < occurs (instance_id i.id) made) × FitsIn [] 0 ls
FitsRoot (deep_live q) = Unit {0}
FitsRoot _ = ⊥
