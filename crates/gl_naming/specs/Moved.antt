-- What other names leave alone: the paths of a tree's instances, and the sources of its cells and items.
use Rattle.std.specs.Prelude.{◌≡◌, ℕ, suc, [], ◌∷◌, true, false, Bool}
use Rattle.gl_base.specs.Texts.{Text}
use Rattle.gl_meaning.specs.App.{App}
use Rattle.gl_meaning.specs.Path.{Path, at, main, otherwise, items, item, slot}
use Rattle.gl_meaning.specs.Scope.{Source, cell, item_value, item_index}
use Rattle.gl_meaning.specs.Eval.{Store, class_at, field_member, member_of}
use Rattle.gl_meaning.specs.Laws.{HoldsNoAction}
use Rattle.gl_plain.specs.State.{State}
use Rattle.gl_plain.specs.Live.{Live, element_live, branch_live, listed, unlisted, let_live, component_live, yield_live, Items, no_items, item_live, Lives, no_lives, live_and}
use Rattle.gl_plain.specs.Machine.{StandsFor}
use Rattle.gl_naming.specs.Renamed.{state_with}

-- each of both undoes the other
abbrev pub Undoes : {A : Type 0} → (A → A) → (A → A) → Type 0
Undoes {A} back h = ((x : A) → back (h x) ≡ x) × ((x : A) → h (back x) ≡ x)

-- h renames owners, and k sources.
module _ (app : App) (h : Path → Path) (k : Source → Source) where
  -- an instance at the path keeps its name, and so do its fields
  abbrev pub PlaceStill : Path → Type 0
  PlaceStill q = (h q ≡ q) × ((x : Text) → member_of (class_at app q) x ≡ field_member → k (cell q x) ≡ cell q x)

  -- so an item at the path
  abbrev pub ItemStill : Path → Type 0
  ItemStill q = (k (item_value q) ≡ item_value q) × (k (item_index q) ≡ item_index q)

  -- all that stands in the tree at a path
  abbrev mutual
    pub Still : Path → Live → Type 0
    Still p (element_live n made xs zs ls) = StillIn p 0 ls
    Still p (branch_live z true o ls) = StillIn (main ∷ p) 0 ls
    Still p (branch_live z false o ls) = StillIn (otherwise ∷ p) 0 ls
    Still p (listed z is) = StillItems (items ∷ p) is
    Still p (unlisted z o ls) = StillIn (otherwise ∷ p) 0 ls
    Still p (let_live made rs ls) = StillIn (main ∷ p) 0 ls
    Still p (component_live i made gm args o ls) = PlaceStill i.path × StillIn i.path 0 ls
    Still p (yield_live n made rs ls) = StillIn (slot n ∷ p) 0 ls
    Still p _ = Unit {0}

    pub StillItems : Path → Items → Type 0
    StillItems p no_items = Unit {0}
    StillItems p (item_live z o ls is) = ItemStill (item z.key z.occurrence ∷ p) × StillIn (item z.key z.occurrence ∷ p) 0 ls × StillItems p is

    pub StillIn : Path → ℕ → Lives → Type 0
    StillIn p i no_lives = Unit {0}
    StillIn p i (live_and l ls) = Still (at i ∷ p) l × StillIn p (suc i) ls

-- Where a machine stands with some names, it stands with others too, which come of them by renaming what isn't the tree's own. No cell
-- holds an action.
abbrev pub StandsMoved : Type 0
StandsMoved =
    (h back : Path → Path) (k undo : Source → Source) → Undoes back h → Undoes undo k
    → (app : App) (σ τ : Store) → HoldsNoAction σ → HoldsNoAction τ
    → (f : Path → Path) (g : Source → Source) (touched : Source → Bool) (st : State) (l : Live) → Still app h k [] l
    → StandsFor app σ τ (state_with f g touched st) l → StandsFor app σ τ (state_with (λ o. h (f o)) (λ x. k (g x)) touched st) l
