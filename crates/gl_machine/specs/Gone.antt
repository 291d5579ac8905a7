-- What an update destroyed, in the order in which it is logged: children first, over the old tree.
use Rattle.std.specs.Prelude.{ℕ, List, [], ◌∷◌, ◌++◌, Bool, true, false, ◌||◌, if◌then◌else◌, Option, Some, None, codes, decimal}
use Rattle.gl_base.specs.Texts.{Text}
use Rattle.gl_meaning.specs.App.{App}
use Rattle.gl_meaning.specs.Eval.{class_at}
use Rattle.gl_meaning.specs.Print.{line}
use Rattle.gl_plain.specs.Ids.{Id, instance_id, modifier_id, id_eq}
use Rattle.gl_plain.specs.State.{Inst, modifier_row, Thing}
use Rattle.gl_plain.specs.Live.{ModSpot, ItemSpot, Live, element_live, branch_live, listed, unlisted, let_live, component_live, yield_live, Items, no_items, item_live, Lives, no_lives, live_and}
use Rattle.gl_plain.specs.Keeps.{same_key}

-- what goes: a modifier, or an instance
pub data Gone : Type 0 where
  gone_modifier : ℕ → Gone
  gone_instance : Inst → Gone

-- the id stands in the list
abbrev pub has_id : Id → List Id → Bool
has_id q [] = false
has_id q (r ∷ rs) = id_eq q r || has_id q rs

-- Children first: an element's modifiers come after what is in it, and so does a component. What lives on isn't named.
module _ (lives_on : Id → Bool) where
  abbrev pub gone_mods : List ModSpot → List Gone
  gone_mods [] = []
  gone_mods (z ∷ zs) = (if lives_on (modifier_id z.id) then [] else gone_modifier z.id ∷ []) ++ gone_mods zs

  abbrev pub gone_inst : Inst → List Gone
  gone_inst i = if lives_on (instance_id i.id) then [] else gone_instance i ∷ []

  abbrev mutual
    pub gone : Live → List Gone
    gone (element_live n made xs zs ls) = gone_in ls ++ gone_mods zs
    gone (branch_live z u k ls) = gone_in ls
    gone (listed z is) = gone_items is
    gone (unlisted z k ls) = gone_in ls
    gone (let_live made rs ls) = gone_in ls
    gone (component_live i made gm args k ls) = gone_in ls ++ gone_inst i
    gone (yield_live n made rs ls) = gone_in ls
    gone _ = []

    pub gone_items : Items → List Gone
    gone_items no_items = []
    gone_items (item_live z k ls is) = gone_in ls ++ gone_items is

    pub gone_in : Lives → List Gone
    gone_in no_lives = []
    gone_in (live_and l ls) = gone l ++ gone_in ls

-- all of it goes
abbrev pub none_lives : Id → Bool
none_lives q = false

-- What an update frees, from what was rendered before and after it: where a branch or a list was rendered anew all that stood there goes,
-- and of a list the items that are not kept. The items are gone through in their old order.
abbrev pub kept_item : ItemSpot → Items → Option Lives
kept_item y no_items = None
kept_item y (item_live z k ls is) = if same_key y z then Some ls else kept_item y is

abbrev pub freed_item : Lives → (Lives → List Gone) → Option Lives → List Gone
freed_item ms f None = gone_in none_lives ms
freed_item ms f (Some ls) = f ls

abbrev mutual
  pub freed : Live → Live → List Gone
  freed (element_live n made xs zs ls) (element_live n' made' xs' zs' ls') = freed_in ls ls'
  freed (branch_live z true k ls) (branch_live z' true k' ls') = freed_in ls ls'
  freed (branch_live z false k ls) (branch_live z' false k' ls') = freed_in ls ls'
  freed (branch_live z u k ls) l' = gone_in none_lives ls
  freed (listed z is) (listed z' is') = freed_items is is'
  freed (listed z is) l' = gone_items none_lives is
  freed (unlisted z k ls) (unlisted z' k' ls') = freed_in ls ls'
  freed (unlisted z k ls) l' = gone_in none_lives ls
  freed (let_live made rs ls) (let_live made' rs' ls') = freed_in ls ls'
  freed (component_live i made gm args k ls) (component_live i' made' gm' args' k' ls') = freed_in ls ls'
  freed (yield_live n made rs ls) (yield_live n' made' rs' ls') = freed_in ls ls'
  freed _ _ = []

  pub freed_items : Items → Items → List Gone
  freed_items no_items is' = []
  freed_items (item_live z k ls is) is' = freed_item ls (λ ls'. freed_in ls ls') (kept_item z is') ++ freed_items is is'

  pub freed_in : Lives → Lives → List Gone
  freed_in (live_and l ls) (live_and l' ls') = freed l l' ++ freed_in ls ls'
  freed_in _ _ = []

-- The lines of a log

-- `destroy`, with the number of the modifier's node and its name
abbrev pub modifier_gone : (ℕ → ℕ) → Option Thing → Text
modifier_gone num (Some (modifier_row x)) = line (codes "destroy " ++ (35 ∷ (decimal (num x.on_node) ++ 32 ∷ x.name)))
modifier_gone num _ = []

-- An instance has a line where its class has teardown.
abbrev pub gone_line : App → (Id → Option Thing) → (ℕ → ℕ) → Gone → Text
gone_line app look num (gone_modifier m) = modifier_gone num (look (modifier_id m))
gone_line app look num (gone_instance i) = if (class_at app i.path).teardown then line (codes "destroy " ++ (class_at app i.path).name) else []
