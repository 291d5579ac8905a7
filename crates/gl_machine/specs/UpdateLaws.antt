-- The laws of an update, of the recorded program and of what it leaves.
use Rattle.std.specs.Prelude.{◌≡◌, ◌≤◌, ◌⊎◌, ℕ, [], map, flat_map, Option, Some, unwrap_or}
use Rattle.gl_meaning.specs.App.{App}
use Rattle.gl_meaning.specs.Path.{Path, at_path}
use Rattle.gl_meaning.specs.Eval.{Store}
use Rattle.gl_meaning.specs.Render.{Forest, draw}
use Rattle.gl_meaning.specs.Changes.{Numbers, Sets, nodes}
use Rattle.gl_meaning.specs.Known.{Among}
use Rattle.gl_meaning.specs.Print.{children_first, destroy_lines}
use Rattle.gl_plain.specs.Ids.{Id, node}
use Rattle.gl_plain.specs.State.{Content, content, Thing, State}
use Rattle.gl_plain.specs.Naming.{Naming}
use Rattle.gl_plain.specs.Live.{Live, is_deep}
use Rattle.gl_plain.specs.Renew.{renew_app_as, renew_app}
use Rattle.gl_plain.specs.Counts.{nodes_of}
use Rattle.gl_plain.specs.Machine.{StandsFor, OnlyTouched}
use Rattle.gl_machine.specs.Code.{Code, live_of}
use Rattle.gl_machine.specs.RenewCode.{Runs}
use Rattle.gl_machine.specs.Env.{Env}
use Rattle.gl_machine.specs.Placed.{Follows, RunsRight_as}
use Rattle.gl_machine.specs.Root.{PlacedRoot, renew_root_code_as}
use Rattle.gl_machine.specs.Shape.{map_nest, in_order, nest, placed_nest, forest_nest}
use Rattle.gl_machine.specs.Rows.{Role, a_node, a_modifier, Row, row_of, page_rows, row_ids, places}
use Rattle.gl_machine.specs.Gone.{has_id, gone, freed, gone_line}

-- The whole page: an update of the recorded program is one of the tree, where bodies are appended rightly.
abbrev pub PageFollows : Type 0
PageFollows =
    (naming : Naming) (env : Env) (store : Store) (run : Runs) → RunsRight_as naming env store run → (k : Code) (st : State) → PlacedRoot env k
    → Follows (PlacedRoot env) live_of is_deep (renew_root_code_as naming env.app.limit run k st) (renew_app_as naming env.app store (live_of k) st)

-- Nodes

-- The nodes of a nest in document order are those of the tree, and with paths it is the same nest.
abbrev pub NestIsOrdered : Type 0
NestIsOrdered = (l : Live) → in_order (nest l) ≡ nodes_of l

abbrev pub NestIsPlaced : Type 0
NestIsPlaced = (l : Live) → map_nest (λ x. x.1) (placed_nest [] l) ≡ nest l

-- a node's path, with what is kept for its number; and with what it is in a rendering
abbrev pub kept_content : (Id → Option Thing) → Path × ℕ → Path × Option Thing
kept_content look x = (x.0, look (node x.1))

abbrev pub drawn_content : Path × Content → Path × Option Thing
drawn_content x = (x.0, Some (content x.1))

-- Where a machine stands its nodes are nested as those of the rendering, in order, with the same paths, and each is what it is there.
abbrev pub NestIsDrawn : Type 0
NestIsDrawn =
    (app : App) (τ : Store) (st : State) (l : Live) → StandsFor app τ τ st l
    → map_nest (kept_content st.look) (placed_nest [] l) ≡ map_nest drawn_content (forest_nest (draw app τ))

-- The nodes of a rendering's nest in document order are those of the rendering.
abbrev pub NestHasNodes : Type 0
NestHasNodes = (f : Forest) → map (λ x. x.0) (in_order (forest_nest f)) ≡ nodes f

-- Ids by paths

abbrev pub place_of : Row → Role × Path
place_of x = (x.role, x.path)

-- Where a machine stands it has just what the rendering has, in order.
abbrev pub RowsAreDrawn : Type 0
RowsAreDrawn =
    (app : App) (τ : Store) (st : State) (l : Live) → StandsFor app τ τ st l → map place_of (page_rows l) ≡ places (draw app τ)

-- There no id stands at two places, and no place has two ids.
abbrev pub IdsStandOnce : Type 0
IdsStandOnce =
    (app : App) (σ τ : Store) (st : State) (l : Live) → StandsFor app σ τ st l
    → (x y : Row) → Among x (page_rows l) → Among y (page_rows l) → x.id ≡ y.id → x ≡ y

abbrev pub PlacesStandOnce : Type 0
PlacesStandOnce =
    (app : App) (τ : Store) (st : State) (l : Live) → StandsFor app τ τ st l
    → (x y : Row) → Among x (page_rows l) → Among y (page_rows l) → x.role ≡ y.role → x.path ≡ y.path → x ≡ y

-- What an update leaves has the id that it had, and an instance its cells, where its place was there before; what is at another place has an
-- id that was never given.
abbrev pub IdsByPath : Type 0
IdsByPath =
    (app : App) (σ τ : Store) (st : State) (l : Live) → StandsFor app σ τ st l → OnlyTouched app σ τ st
    → (x : Row) → Among x (page_rows (renew_app app τ l st).0)
    → Among x (page_rows l) ⊎ ((st.next x.id.kind ≤ x.id.num) × ((y : Row) → Among y (page_rows l) → y.role ≡ x.role → y.path ≡ x.path → ⊥))

-- What is destroyed

-- What an update frees is what lives on no more, children first over the old tree.
abbrev pub FreedIsGone : Type 0
FreedIsGone =
    (app : App) (σ τ : Store) (st : State) (l : Live) → StandsFor app σ τ st l → OnlyTouched app σ τ st
    → let r = renew_app app τ l st in freed l r.0 ≡ gone (λ q. has_id q (row_ids (page_rows r.0))) l

-- Its lines are those that the log of the turn has, where num gives the numbers of nodes, and each modifier still has its node and its name.
abbrev pub FreedIsLogged : Type 0
FreedIsLogged =
    (app : App) (σ τ : Store) (st0 st : State) (l : Live) → StandsFor app σ σ st0 l → StandsFor app σ τ st l → OnlyTouched app σ τ st
    → (sets : Sets) (before after : Numbers) (num : ℕ → ℕ) (look : Id → Option Thing)
    → ((p : Path) (n : ℕ) → Among (row_of a_node p (node n)) (page_rows l) → num n ≡ unwrap_or (at_path p before.of) 0)
    → ((x : Row) → Among x (page_rows l) → x.role ≡ a_modifier → look x.id ≡ st0.look x.id)
    → flat_map (gone_line app look num) (freed l (renew_app app τ l st).0)
    ≡ flat_map (destroy_lines app (draw app σ) (draw app τ) sets before after) (children_first (draw app σ))
