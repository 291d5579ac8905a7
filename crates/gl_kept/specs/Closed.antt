-- What an update may free, and that nobody else reads it.
use Rattle.std.specs.Prelude.{◌≡◌, ◌+◌, ℕ, List, [], ◌∷◌, Option, Some}
use Rattle.gl_plain.specs.Ids.{Id, ref}
use Rattle.gl_plain.specs.State.{Row, row, Thing}
use Rattle.gl_plain.specs.Live.{Live, element_live, branch_live, listed, unlisted, let_live, component_live, yield_live, Items, no_items, item_live, Lives, no_lives, live_and, times_in, times_items, times_comment}
use Rattle.gl_plain.specs.Reads.{reads}
use Rattle.gl_plain.specs.Keeps.{item_count}

-- none of the references is counted
abbrev pub NoneIn : (Id → ℕ) → List ℕ → Type 0
NoneIn count [] = Unit {0}
NoneIn count (r ∷ rs) = (count (ref r) ≡ 0) × NoneIn count rs

-- no reference outside a part reads one of the part's
abbrev pub Closed : (Id → Option Thing) → (Id → ℕ) → Type 0
Closed look count = (n : ℕ) (x : Row) → look (ref n) ≡ Some (row x) → count (ref n) ≡ 0 → NoneIn count (reads x.form)

-- What may go by itself: what is rendered in a branch, an item, and all items of a list.
abbrev mutual
  pub PartsClosed : (Id → Option Thing) → Live → Type 0
  PartsClosed look (element_live n made xs zs ls) = PartsClosedIn look ls
  PartsClosed look (branch_live z u k ls) = Closed look (λ q. times_in q ls + times_comment q k) × PartsClosedIn look ls
  PartsClosed look (listed z is) = Closed look (λ q. times_items q is) × PartsClosedItems look is
  PartsClosed look (unlisted z k ls) = Closed look (λ q. times_in q ls + times_comment q k) × PartsClosedIn look ls
  PartsClosed look (let_live made rs ls) = PartsClosedIn look ls
  PartsClosed look (component_live i made gm args b ls) = PartsClosedIn look ls
  PartsClosed look (yield_live n made rs ls) = PartsClosedIn look ls
  PartsClosed look _ = Unit {0}

  pub PartsClosedItems : (Id → Option Thing) → Items → Type 0
  PartsClosedItems look no_items = Unit {0}
  PartsClosedItems look (item_live z k ls is) = (Closed look (item_count z k ls) × PartsClosedIn look ls) × PartsClosedItems look is

  pub PartsClosedIn : (Id → Option Thing) → Lives → Type 0
  PartsClosedIn look no_lives = Unit {0}
  PartsClosedIn look (live_and l ls) = PartsClosed look l × PartsClosedIn look ls
