-- Worked moves: lists in another order, and a list that stands in an item of another.
use Rattle.std.proofs.Common.{◌≡◌, ℕ, List, [], ◌∷◌, true, false, None, refl}
use Rattle.std.specs.Prelude.{codes}
use Rattle.gl_base.specs.Texts.{Text}
use Rattle.gl_value.specs.Value.{text}
use Rattle.gl_plain.specs.Binding.{Spot}
use Rattle.gl_plain.specs.Live.{Live, branch_live, listed, Items, no_items, item_live, Lives, no_lives, live_and}
use Rattle.gl_each.specs.Key.{Key}
use Rattle.gl_kept.specs.Between.{moves_between, moved_between}

abbrev key : Text → Key
key k = (text k, 0)

abbrev abc : List Key
abc = key (codes "a") ∷ key (codes "b") ∷ key (codes "c") ∷ []

-- the last goes to the front: the two others come after it, which stood behind them
last_first : moves_between abc (key (codes "c") ∷ key (codes "a") ∷ key (codes "b") ∷ []) ≡ 2
last_first = refl

-- the first goes to the end: it alone comes after others that stood behind it
first_last : moves_between abc (key (codes "b") ∷ key (codes "c") ∷ key (codes "a") ∷ []) ≡ 1
first_last = refl

-- what is new doesn't move, and what is gone moves nothing
new_and_gone : moves_between abc (key (codes "d") ∷ key (codes "b") ∷ key (codes "e") ∷ key (codes "c") ∷ []) ≡ 0
new_and_gone = refl

-- an equal key is told apart by its occurrence
second_of_two : moves_between (key (codes "a") ∷ (text (codes "a"), 1) ∷ []) ((text (codes "a"), 1) ∷ key (codes "a") ∷ []) ≡ 1
second_of_two = refl

abbrev spot : Spot
spot = record { ref = 0; made = [] }

abbrev one_item : Text → Lives → Items → Items
one_item k ls is = item_live (record { key = text k; occurrence = 0; value = 0; index = 0; more = []; params = [] }) None ls is

abbrev inner : Text → Text → Lives
inner k l = live_and (listed spot (one_item k no_lives (one_item l no_lives no_items))) no_lives

-- an item moves, and in it one of its own list; the other list is new
inside : moved_between (listed spot (one_item (codes "x") (inner (codes "a") (codes "b")) (one_item (codes "y") no_lives no_items)))
    (listed spot (one_item (codes "y") (inner (codes "a") (codes "b")) (one_item (codes "x") (inner (codes "b") (codes "a")) no_items)))
    ≡ 2
inside = refl

-- a branch that stays, and one that flips
stays : moved_between (branch_live spot true None (inner (codes "a") (codes "b"))) (branch_live spot true None (inner (codes "b") (codes "a"))) ≡ 1
stays = refl

flips : moved_between (branch_live spot true None (inner (codes "a") (codes "b"))) (branch_live spot false None (inner (codes "b") (codes "a"))) ≡ 0
flips = refl
