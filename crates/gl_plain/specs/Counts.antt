-- The nodes and the positions of a tree, in the order in which they stand.
use Rattle.std.specs.Prelude.{◌≡◌, ◌⊎◌, ℕ, suc, List, [], ◌∷◌, ◌++◌, Bool, true, false, ◌||◌, nat_le, Option, Some, None}
use Rattle.gl_meaning.specs.Scope.{Source}
use Rattle.gl_plain.specs.Ids.{a_ref, ref}
use Rattle.gl_plain.specs.State.{State}
use Rattle.gl_plain.specs.Renew.{last_of}
use Rattle.gl_plain.specs.Live.{AttrSpot, ModSpot, Live, still, put_live, element_live, branch_live, listed, unlisted, let_live, component_live, yield_live, deep_live, Items, no_items, item_live, Lives, no_lives, live_and}

abbrev pub comment_node : Option ℕ → List ℕ
comment_node None = []
comment_node (Some n) = n ∷ []

-- An element comes before what is in it, and the comment of a branch or an item after what is in it.
abbrev mutual
  pub nodes_of : Live → List ℕ
  nodes_of (still n) = n ∷ []
  nodes_of (put_live n z) = n ∷ []
  nodes_of (element_live n made xs zs ls) = n ∷ nodes_in ls
  nodes_of (branch_live z u k ls) = nodes_in ls ++ comment_node k
  nodes_of (listed z is) = nodes_items is
  nodes_of (unlisted z k ls) = nodes_in ls ++ comment_node k
  nodes_of (let_live made rs ls) = nodes_in ls
  nodes_of (component_live i made gm args b ls) = nodes_in ls
  nodes_of (yield_live n made rs ls) = nodes_in ls
  nodes_of (deep_live p) = []

  pub nodes_items : Items → List ℕ
  nodes_items no_items = []
  nodes_items (item_live z k ls is) = (nodes_in ls ++ comment_node k) ++ nodes_items is

  pub nodes_in : Lives → List ℕ
  nodes_in no_lives = []
  nodes_in (live_and l ls) = nodes_of l ++ nodes_in ls

abbrev pub attr_positions : List AttrSpot → List ℕ
attr_positions [] = []
attr_positions (a ∷ xs) = a.spot.ref ∷ attr_positions xs

abbrev pub mod_positions : List ModSpot → List ℕ
mod_positions [] = []
mod_positions (z ∷ zs) = z.spot.ref ∷ mod_positions zs

-- The attributes of an element come before what is in it, and its modifiers after it; a condition and an `each` list come before what they choose.
abbrev mutual
  pub positions_of : Live → List ℕ
  positions_of (still n) = []
  positions_of (put_live n z) = z.ref ∷ []
  positions_of (element_live n made xs zs ls) = attr_positions xs ++ (positions_in ls ++ mod_positions zs)
  positions_of (branch_live z u k ls) = z.ref ∷ positions_in ls
  positions_of (listed z is) = z.ref ∷ positions_items is
  positions_of (unlisted z k ls) = z.ref ∷ positions_in ls
  positions_of (let_live made rs ls) = positions_in ls
  positions_of (component_live i made gm args b ls) = positions_in ls
  positions_of (yield_live n made rs ls) = positions_in ls
  positions_of (deep_live p) = []

  pub positions_items : Items → List ℕ
  positions_items no_items = []
  positions_items (item_live z k ls is) = positions_in ls ++ positions_items is

  pub positions_in : Lives → List ℕ
  positions_in no_lives = []
  positions_in (live_and l ls) = positions_of l ++ positions_in ls

-- the numbers in order from n on, of which m is the next
abbrev pub Runs : ℕ → List ℕ → ℕ → Type 0
Runs n [] m = m ≡ n
Runs n (k ∷ ks) m = (k ≡ n) × Runs (suc n) ks m

-- Some numbers of a list, in order: among them each that must be.
abbrev pub Taken : (ℕ → Bool) → List ℕ → List ℕ → Type 0
Taken must [] [] = Unit {0}
Taken must [] (r ∷ rs) = ⊥
Taken must (q ∷ qs) [] = (must q ≡ false) × Taken must qs []
Taken must (q ∷ qs) (r ∷ rs) = ((q ≡ r) × Taken must qs rs) ⊎ ((must q ≡ false) × Taken must qs (r ∷ rs))

-- each number of the list passes the test
abbrev pub AllPass : (ℕ → Bool) → List ℕ → Type 0
AllPass test [] = Unit {0}
AllPass test (r ∷ rs) = (test r ≡ true) × AllPass test rs

-- Whether a position is due, where these sources are touched: it wasn't there in this state, or one of the sources that it had read last
-- in it is touched.
abbrev pub is_due : State → (Source → Bool) → ℕ → Bool
is_due st touched q = nat_le (st.next a_ref) q || last_of (st.look (ref q)) touched
