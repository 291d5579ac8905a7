-- The modifiers that a turn installs and updates, in the order in which it logs them, and the numbers of blocks.
use Rattle.std.specs.Prelude.{◌≡◌, ◌≤◌, ◌<◌, ℕ, suc, List, [], ◌∷◌, ◌++◌, filter, filter_map, nat_le, if◌then◌else◌, Option, Some, None}
use Rattle.gl_meaning.specs.App.{App}
use Rattle.gl_meaning.specs.Eval.{Store}
use Rattle.gl_meaning.specs.Laws.{HoldsNoAction}
use Rattle.gl_plain.specs.Ids.{a_modifier, a_block}
use Rattle.gl_plain.specs.State.{State}
use Rattle.gl_plain.specs.Live.{AttrSpot, ModSpot, Live, still, put_live, element_live, branch_live, listed, unlisted, let_live, component_live, yield_live, deep_live, Items, no_items, item_live, Lives, no_lives, live_and}
use Rattle.gl_plain.specs.Grow.{grow_app}
use Rattle.gl_plain.specs.Renew.{renew_app}
use Rattle.gl_plain.specs.Counts.{is_due}
use Rattle.gl_plain.specs.Machine.{StandsFor, OnlyTouched}

-- a position, with the modifier whose arguments it has
abbrev pub Mark : Type 0
Mark = ℕ × Option ℕ

abbrev pub attr_marks : List AttrSpot → List Mark
attr_marks [] = []
attr_marks (a ∷ xs) = (a.spot.ref, None) ∷ attr_marks xs

abbrev pub mod_marks : List ModSpot → List Mark
mod_marks [] = []
mod_marks (z ∷ zs) = (z.spot.ref, Some z.id) ∷ mod_marks zs

-- The positions of a tree in the order in which they are evaluated. An element's modifiers come after what is in it, so its modifiers are in
-- the order of the log: children first.
abbrev mutual
  pub marked : Live → List Mark
  marked (still n) = []
  marked (put_live n z) = (z.ref, None) ∷ []
  marked (element_live n made xs zs ls) = attr_marks xs ++ (marked_in ls ++ mod_marks zs)
  marked (branch_live z u k ls) = (z.ref, None) ∷ marked_in ls
  marked (listed z is) = (z.ref, None) ∷ marked_items is
  marked (unlisted z k ls) = (z.ref, None) ∷ marked_in ls
  marked (let_live made rs ls) = marked_in ls
  marked (component_live i made gm args b ls) = marked_in ls
  marked (yield_live n made rs ls) = marked_in ls
  marked (deep_live p) = []

  pub marked_items : Items → List Mark
  marked_items no_items = []
  marked_items (item_live z k ls is) = marked_in ls ++ marked_items is

  pub marked_in : Lives → List Mark
  marked_in no_lives = []
  marked_in (live_and l ls) = marked l ++ marked_in ls

abbrev pub modifiers_among : List Mark → List ℕ
modifiers_among ms = filter_map (λ z. z.1) ms

-- the modifiers of a tree, children first
abbrev pub modifiers_of : Live → List ℕ
modifiers_of l = modifiers_among (marked l)

-- the modifier of a mark, where its number is n or greater, or is less
abbrev pub new_from : ℕ → Option ℕ → Option ℕ
new_from n None = None
new_from n (Some m) = if nat_le n m then Some m else None

abbrev pub old_below : ℕ → Option ℕ → Option ℕ
old_below n None = None
old_below n (Some m) = if nat_le n m then None else Some m

-- Appending installs just the modifiers of what is appended, in the order of the log, and updates none.
abbrev pub AppendedInstalls : Type 0
AppendedInstalls = (app : App) (τ : Store) (st : State) → let r = grow_app app τ st in (r.1.installs ≡ st.installs ++ modifiers_of r.0) × (r.1.updates ≡ st.updates)

-- An update installs just the modifiers of the new tree that are new, in the order of the log, ..
abbrev pub UpdatedInstalls : Type 0
UpdatedInstalls =
    (app : App) (σ τ : Store) (st : State) (l : Live) → StandsFor app σ τ st l
    → let r = renew_app app τ l st in r.1.installs ≡ st.installs ++ filter (λ m. nat_le (st.next a_modifier) m) (modifiers_of r.0)

-- .. and updates just those that are old and of which the position is due, in that order.
abbrev pub UpdatedUpdates : Type 0
UpdatedUpdates =
    (app : App) (σ τ : Store) (st : State) (l : Live) → StandsFor app σ τ st l → OnlyTouched app σ τ st → HoldsNoAction σ
    → let r = renew_app app τ l st in
    r.1.updates ≡ st.updates ++ filter_map (λ z. old_below (st.next a_modifier) z.1) (filter (λ z. is_due st r.1.touched z.0) (marked r.0))

-- Blocks

-- The blocks of a tree have numbers from b on, below n, and those in a component have greater numbers than its own block.
abbrev mutual
  pub Rises : ℕ → ℕ → Live → Type 0
  Rises b n (element_live k made xs zs ls) = RisesIn b n ls
  Rises b n (branch_live z u k ls) = RisesIn b n ls
  Rises b n (listed z is) = RisesItems b n is
  Rises b n (unlisted z k ls) = RisesIn b n ls
  Rises b n (let_live made rs ls) = RisesIn b n ls
  Rises b n (component_live i made gm args None ls) = RisesIn b n ls
  Rises b n (component_live i made gm args (Some k) ls) = (b ≤ k) × (k < n) × RisesIn (suc k) n ls
  Rises b n (yield_live k made rs ls) = RisesIn b n ls
  Rises b n _ = Unit {0}

  pub RisesItems : ℕ → ℕ → Items → Type 0
  RisesItems b n no_items = Unit {0}
  RisesItems b n (item_live z k ls is) = RisesIn b n ls × RisesItems b n is

  pub RisesIn : ℕ → ℕ → Lives → Type 0
  RisesIn b n no_lives = Unit {0}
  RisesIn b n (live_and l ls) = Rises b n l × RisesIn b n ls

-- So it is of what is appended, and stays so in an update.
abbrev pub BlocksRise : Type 0
BlocksRise =
    ((app : App) (τ : Store) (st : State) → let r = grow_app app τ st in Rises (st.next a_block) (r.1.next a_block) r.0)
    × ((app : App) (σ τ : Store) (b : ℕ) (st : State) (l : Live) → StandsFor app σ τ st l → b ≤ st.next a_block → Rises b (st.next a_block) l
    → let r = renew_app app τ l st in Rises b (r.1.next a_block) r.0)
