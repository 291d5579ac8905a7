-- In a tree that follows a state of a session no key of a list stands twice.
use Rattle.std.proofs.Common.{◌≡◌, ℕ, suc, List, [], ◌∷◌, ◌++◌, map, true, false, refl, sym, ◌∙◌, ap, subst, inl, inr}
use Rattle.gl_meaning.specs.App.{App}
use Rattle.gl_meaning.specs.Path.{Path, at, main, otherwise, items, item, slot}
use Rattle.gl_meaning.specs.Known.{Among}
use Rattle.gl_meaning.specs.Changes.{Item}
use Rattle.gl_meaning.specs.Laws.{NoRepeat}
use Rattle.gl_meaning.specs.Eval.{Store}
use Rattle.gl_meaning.specs.Render.{Entry, entries, draw}
use Rattle.gl_plain.specs.State.{State}
use Rattle.gl_plain.specs.Live as v
use Rattle.gl_plain.specs.Live.{Live, Items, no_items, item_live, Lives, no_lives, live_and}
use Rattle.gl_plain.specs.Machine.{StandsFor}
use Rattle.gl_naming.specs.Renamed.{state_with}
use Rattle.gl_each.specs.Key.{Key, entry_key, entry_keys}
use Rattle.gl_each.specs.Moved.{items_at}
use Rattle.gl_each.proofs.Keyings.{keys_apart}
use Rattle.gl_kept.specs.Listed.{AreEntries, lists, item_keys, keys_of_list, tree_lists, tree_lists_items, tree_lists_in}
use Rattle.gl_kept.proofs.Planned.{lists_are_entries}
use Rattle.gl_kept.proofs.TreeLists.{tree_lists_are_there}
use Rattle.gl_guards.specs.Once.{KeysOnce, KeysOnceItems, KeysOnceIn}
use Rattle.gl_guards.specs.Laws.{KeysAreOnce}

-- in none of these lists a key stands twice
abbrev AllOnce : List (Path × List Key) → Type 0
AllOnce [] = Unit {0}
AllOnce (l ∷ ls) = NoRepeat l.1 × AllOnce ls

front_once : (xs ys : List (Path × List Key)) → AllOnce (xs ++ ys) → AllOnce xs
front_once [] ys h = tt
front_once (x ∷ xs) ys h = (h.0, front_once xs ys h.1)

rest_once : (xs ys : List (Path × List Key)) → AllOnce (xs ++ ys) → AllOnce ys
rest_once [] ys h = h
rest_once (x ∷ xs) ys h = rest_once xs ys h.1

mutual
  tree_once : (p : Path) (l : Live) → AllOnce (tree_lists p l) → KeysOnce l
  tree_once p (v.still n) h = tt
  tree_once p (v.put_live n z) h = tt
  tree_once p (v.element_live n made xs zs ls) h = body_once p 0 ls h
  tree_once p (v.branch_live z true k ls) h = body_once (main ∷ p) 0 ls h.1
  tree_once p (v.branch_live z false k ls) h = body_once (otherwise ∷ p) 0 ls h.1
  tree_once p (v.listed z is) h = (h.0, items_once (items ∷ p) is h.1)
  tree_once p (v.unlisted z k ls) h = body_once (otherwise ∷ p) 0 ls h.1
  tree_once p (v.let_live made rs ls) h = body_once (main ∷ p) 0 ls h
  tree_once p (v.component_live i made gm args b ls) h = body_once i.path 0 ls h
  tree_once p (v.yield_live n made rs ls) h = body_once (slot n ∷ p) 0 ls h
  tree_once p (v.deep_live q) h = tt

  items_once : (p : Path) (is : Items) → AllOnce (tree_lists_items p is) → KeysOnceItems is
  items_once p no_items h = tt
  items_once p (item_live z k ls is) h =
      let q = item z.key z.occurrence ∷ p in
      (body_once q 0 ls (front_once (tree_lists_in q 0 ls) (tree_lists_items p is) h), items_once p is (rest_once (tree_lists_in q 0 ls) (tree_lists_items p is) h))

  body_once : (p : Path) (i : ℕ) (ls : Lives) → AllOnce (tree_lists_in p i ls) → KeysOnceIn ls
  body_once p i no_lives h = tt
  body_once p i (live_and l ls) h =
      (tree_once (at i ∷ p) l (front_once (tree_lists (at i ∷ p) l) (tree_lists_in p (suc i) ls) h), body_once p (suc i) ls (rest_once (tree_lists (at i ∷ p) l) (tree_lists_in p (suc i) ls) h))

-- The lists of a rendering are those of entries, of which no key stands twice.

keys_are : (p : Path) (es : List Entry) → item_keys (items_at p es) ≡ entry_keys es
keys_are p [] = refl
keys_are p (e ∷ es) = ap (λ ks. entry_key e ∷ ks) (keys_are p es)

list_once : (p : Path) (is : List Item) → AreEntries p is → NoRepeat (item_keys is)
list_once p is h = subst NoRepeat (sym (ap item_keys h.2 ∙ keys_are p (entries h.0 0 [] h.1))) (keys_apart h.0 h.1)

all_once : (xs : List (Path × List Item)) → ((x : Path × List Item) → Among x xs → AreEntries x.0 x.1) → AllOnce (map keys_of_list xs)
all_once [] h = tt
all_once (x ∷ xs) h = (list_once x.0 x.1 (h x (inl refl)), all_once xs (λ y m. h y (inr m)))

stands_once : (app : App) (σ τ : Store) (st : State) (l : Live) → StandsFor app σ τ st l → KeysOnce l
stands_once app σ τ st l h = tree_once [] l (subst AllOnce (sym (tree_lists_are_there app σ τ st l h)) (all_once (lists (draw app σ)) (λ x m. lists_are_entries app σ x m)))

pub keys_are_once : KeysAreOnce
keys_are_once app s st l h = stands_once app s.store s.store (state_with h.named.owner h.named.source (λ x. false) st) l (h.named.stands (λ x. false))
