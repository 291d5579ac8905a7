-- What a tree names is there, and its references read only what stands around them.
use Rattle.std.specs.Prelude.{◌≡◌, ◌<◌, ℕ, ◌+◌, List, [], ◌∷◌, Option, Some, None}
use Rattle.gl_base.specs.Texts.{Text}
use Rattle.gl_meaning.specs.App.{App}
use Rattle.gl_meaning.specs.Eval.{class_at, field_member, member_of}
use Rattle.gl_plain.specs.Ids.{Kind, a_ref, a_node, an_instance, a_block, a_modifier, Id, ref, node, modifier_id, occurs}
use Rattle.gl_plain.specs.State.{refs_of, Inst, cell_ref, content, instance_row, block_row, row, modifier_row, Thing}
use Rattle.gl_plain.specs.Binding.{Spot}
use Rattle.gl_plain.specs.Live.{AttrSpot, ModSpot, item_made, Live, still, put_live, element_live, branch_live, listed, unlisted, let_live, component_live, yield_live, deep_live, Items, no_items, item_live, Lives, no_lives, live_and}
use Rattle.gl_plain.specs.Reads.{reads}

-- each of the references is counted
abbrev pub AllIn : (Id → ℕ) → List ℕ → Type 0
AllIn count [] = Unit {0}
AllIn count (r ∷ rs) = (0 < count (ref r)) × AllIn count rs

-- There is a thing, of the kind that the id says. A reference reads only references that are counted.
abbrev pub IsThing : (Id → ℕ) → Kind → Option Thing → Type 0
IsThing count a_ref (Some (row x)) = AllIn count (reads x.form)
IsThing count a_node (Some (content x)) = Unit {0}
IsThing count an_instance (Some (instance_row i)) = Unit {0}
IsThing count a_block (Some block_row) = Unit {0}
IsThing count a_modifier (Some (modifier_row x)) = Unit {0}
IsThing count _ _ = ⊥

-- what was made for a statement, and what stands around it
abbrev pub with_made : List Id → (Id → ℕ) → Id → ℕ
with_made made around q = occurs q made + around q

-- all that was made for a statement is there, and reads only what was made for it or stands around it
abbrev pub AllThere : (Id → Option Thing) → (Id → ℕ) → List Id → Type 0
AllThere look around made = (q : Id) → 0 < occurs q made → IsThing (with_made made around) q.kind (look q)

module _ (app : App) (look : Id → Option Thing) where
  -- a position's reference is its own
  abbrev pub SpotThere : (Id → ℕ) → Spot → Type 0
  SpotThere around z = (0 < occurs (ref z.ref) z.made) × AllThere look around z.made

  abbrev pub NodeThere : ℕ → Type 0
  NodeThere n = IsThing (λ q. 0) a_node (look (node n))

  abbrev pub CommentThere : Option ℕ → Type 0
  CommentThere None = Unit {0}
  CommentThere (Some n) = NodeThere n

  abbrev pub AttrsThere : (Id → ℕ) → List AttrSpot → Type 0
  AttrsThere around [] = Unit {0}
  AttrsThere around (a ∷ xs) = SpotThere around a.spot × AttrsThere around xs

  abbrev pub ModsThere : (Id → ℕ) → List ModSpot → Type 0
  ModsThere around [] = Unit {0}
  ModsThere around (z ∷ zs) = IsThing (λ q. 0) a_modifier (look (modifier_id z.id)) × SpotThere around z.spot × ModsThere around zs

  -- the cells of an instance's fields are its own
  abbrev pub CellsOwn : Inst → List Id → Type 0
  CellsOwn i made = (x : Text) → member_of (class_at app i.path) x ≡ field_member → 0 < occurs (ref (cell_ref i x)) made

  -- All that the tree names is there. A reference reads only what was made for its statement, and what was made for each `let`, item, component
  -- and yielded block in which that stands; a position in a tag also what was made for the tag. Parameters and arguments are such references.
  abbrev mutual
    pub There : (Id → ℕ) → Live → Type 0
    There around (still n) = NodeThere n
    There around (put_live n z) = NodeThere n × SpotThere around z
    There around (element_live n made xs zs ls) =
        NodeThere n × AllThere look around made × AttrsThere (with_made made around) xs × ModsThere (with_made made around) zs × ThereIn around ls
    There around (branch_live z u k ls) = SpotThere around z × CommentThere k × ThereIn around ls
    There around (listed z is) = SpotThere around z × ThereItems around is
    There around (unlisted z k ls) = SpotThere around z × CommentThere k × ThereIn around ls
    There around (let_live made rs ls) = AllThere look around made × AllIn (with_made made around) rs × ThereIn (with_made made around) ls
    There around (component_live i made gm args b ls) =
        AllThere look around made × CellsOwn i made × AllIn (with_made made around) (refs_of args) × ThereIn (with_made made around) ls
    There around (yield_live n made rs ls) = AllThere look around made × AllIn (with_made made around) rs × ThereIn (with_made made around) ls
    There around (deep_live p) = Unit {0}

    pub ThereItems : (Id → ℕ) → Items → Type 0
    ThereItems around no_items = Unit {0}
    ThereItems around (item_live z k ls is) =
        (AllThere look around (item_made z) × AllIn (with_made (item_made z) around) z.params × CommentThere k × ThereIn (with_made (item_made z) around) ls)
        × ThereItems around is

    pub ThereIn : (Id → ℕ) → Lives → Type 0
    ThereIn around no_lives = Unit {0}
    ThereIn around (live_and l ls) = There around l × ThereIn around ls
