-- Old items of a list that are taken by their keys.
use Rattle.std.specs.Prelude.{◌≡◌, ◌≢◌, ◌<◌, ◌≤◌, ℕ, suc, List, [], ◌∷◌, reverse, set, Bool, true, false, Option, Some, None, slice_get}
use Rattle.std.specs.declared.alloc.Global.{Global}
use Rattle.std.specs.declared.boxed.Box.{Box}
use Rattle.gl_ast.specs.ExprCode.{owned}
use Rattle.gl_value.specs.Value.{plain}
use Rattle.gl_value.specs.View.{view}
use Rattle.gl_meaning.specs.Laws.{NoRepeat}
use Rattle.gl_meaning.specs.Path.{Path}
use Rattle.gl_meaning.specs.Render.{Entry}
use Rattle.gl_machine.specs.Code.{Listing}
use Rattle.gl_each.specs.Key.{Key, entry_keys}
use Rattle.gl_each.specs.Sync.{Step, retain, move, insert}
use Rattle.gl_each.specs.View.{seen_steps}
use Rattle.gl_vm.specs.View.{Tables}
use Rattle.gl_code.specs.CodeView.{seen_item_code}
use Rattle.gl_code.specs.Entries.{seen_left}
use Rattle.gl_code.specs.declared.code.ItemCode.{ItemCode}
use Rattle.gl_update.specs.ListItems.{Item, FreshItem, KeptItem}
use Rattle.gl_code.specs.Renewing.{Renewal}
use Rattle.gl_update.specs.declared.old_items.Work.{Work}

-- the key of an item, and its plain form
abbrev pub raw_key : ItemCode → Key
raw_key x = (view x.spot.key, x.spot.occurrence)

abbrev pub plain_key : ItemCode → Key
plain_key x = (plain (view x.spot.key), x.spot.occurrence)

abbrev pub code_key : ItemCode → Key
code_key x = (owned (plain (view x.spot.key)), x.spot.occurrence)

-- The place of the key, or that it has none.
abbrev pub Picks : List Key → Key → Step → Type 0
Picks old k (retain i) = slice_get old i ≡ Some k
Picks old k (move i) = slice_get old i ≡ Some k
Picks old k insert = (i : ℕ) → slice_get old i ≢ Some k

-- one step for each key, in order
abbrev pub Plans : List Key → List Key → List Step → Type 0
Plans old [] [] = Unit {0}
Plans old (k ∷ ks) (s ∷ ss) = Picks old k s × Plans old ks ss
Plans old [] (s ∷ ss) = ⊥
Plans old (k ∷ ks) [] = ⊥

-- what is there has these keys, by its places
abbrev pub CodeKeys : List Key → List (Option ItemCode) → Type 0
CodeKeys [] [] = Unit {0}
CodeKeys (k ∷ ks) (None ∷ os) = CodeKeys ks os
CodeKeys (k ∷ ks) (Some x ∷ os) = (code_key x ≡ k) × CodeKeys ks os
CodeKeys [] (o ∷ os) = ⊥
CodeKeys (k ∷ ks) [] = ⊥

-- the item at a place was taken
abbrev pub TakenAt : ℕ → List (Option ItemCode) → List (Option ItemCode) → Option ItemCode → Type 0
TakenAt i os ps (Some x) = (slice_get os i ≡ Some (Some x)) × (ps ≡ set os i None)
TakenAt i os ps None = ⊥

abbrev pub TakenBy : Step → List (Option ItemCode) → List (Option ItemCode) → Option ItemCode → Type 0
TakenBy (retain i) os ps o = TakenAt i os ps o
TakenBy (move i) os ps o = TakenAt i os ps o
TakenBy insert os ps (Some x) = ⊥
TakenBy insert os ps None = ps ≡ os

-- what may be in a box
abbrev pub unboxed : Option (Box ItemCode Global) → Option ItemCode
unboxed None = None
unboxed (Some b) = Some b.value

-- whether a step moves an old item
abbrev pub is_move : Step → Bool
is_move (retain i) = false
is_move (move i) = true
is_move insert = false

-- the steps are those of the entries that wait
pub record IsReady (w : Work) : Type 0 where
  pub once : NoRepeat w.keys
  pub has : CodeKeys w.keys w.olds.items
  pub plans : Plans w.keys (entry_keys (seen_left w.waiting.items)) (reverse (seen_steps w.steps.items))

-- So many old places were come to: a step that keeps an item in its place keeps none before the last of these, and a step that moves one takes
-- one of them.
abbrev pub Rising : ℕ → List Step → Type 0
Rising k [] = Unit {0}
Rising k (retain i ∷ ss) = (k ≤ suc i) × Rising (suc i) ss
Rising k (move i ∷ ss) = (i < k) × Rising k ss
Rising k (insert ∷ ss) = Rising k ss

-- the item of an entry: the old one that was taken for it, or a new one
abbrev pub OneItem : (Tables → Listing) → ℕ → Path → Entry → Option ItemCode → Renewal Item
OneItem z m p e None = FreshItem z m p e
OneItem z m p e (Some x) = KeptItem m p e (λ n. seen_item_code n x)
