-- What is appended: a template's statements, from the machine's scopes, with the state after it.
use Rattle.std.specs.Prelude.{ℕ, zero, suc, List, [], ◌∷◌, ◌++◌, Bool, true, false, if◌then◌else◌, Option, Some, None}
use Rattle.gl_base.specs.Texts.{Text}
use Rattle.gl_value.specs.Value.{Values, no_values, value, text_of, count_value}
use Rattle.gl_ast.specs.Template.{Plain, no_exprs, expr, Stmt, text_stmt, comment_stmt, put, element, component_stmt, if_stmt, each, let_stmt, yield, Body, end, stmt}
use Rattle.gl_meaning.specs.App.{App}
use Rattle.gl_meaning.specs.Path.{at, main, otherwise, items, item, into, slot, Path}
use Rattle.gl_meaning.specs.Eval.{Store, class_at, cell_value, takes_first}
use Rattle.gl_meaning.specs.Render.{Entry, entries, values_listed, Block, block_named}
use Rattle.gl_plain.specs.Ids.{a_ref, a_node, an_instance, a_block, Id, ref, block_id, instance_id}
use Rattle.gl_plain.specs.State.{Names, Inst, MScope, mscope, MPassed, mnothing, mpassed, refs_of, with_names, Content, element_content, text_content, comment_content, content, instance_row, block_row, State, make}
use Rattle.gl_plain.specs.Naming.{Naming, by_path, made_source}
use Rattle.gl_plain.specs.Binding.{BoundNames, bind_exprs_as, bind_args_as, bind_params, Spot, place, first_value}
use Rattle.gl_plain.specs.Tags.{bind_written_as, flush_parts, install_parts}
use Rattle.gl_plain.specs.Parts.{mwritten_parts}
use Rattle.gl_plain.specs.Live.{ItemSpot, item_names, Live, still, put_live, element_live, branch_live, listed, unlisted, let_live, component_live, yield_live, deep_live, Items, no_items, item_live, Lives, no_lives, live_and, have_node}

abbrev pub made_node : Content → State → State
made_node c st = make a_node (content c) st

-- Branches and items

-- what is rendered in a branch or an item, with the comment where it has no node
pub record Arm : Type 0 where
  pub comment : Option ℕ
  pub lives : Lives
  pub state : State

abbrev pub or_comment : Lives × State → Arm
or_comment r =
    if have_node r.0
    then record { comment = None; lives = r.0; state = r.1 }
    else record { comment = Some (r.1.next a_node); lives = r.0; state = made_node (comment_content []) r.1 }

pub record ItemGrown : Type 0 where
  pub spot : ItemSpot
  pub arm : Arm

module _ (naming : Naming) where
  -- the references of an item's value and index, and its parameters
  abbrev pub item_spot_as : List Text → Path → Entry → State → ItemSpot × State
  item_spot_as ns q x st =
      let v = st.next a_ref in
      let st1 = made_source naming (naming.value_source v q) x.value st in
      let i = st1.next a_ref in
      let st2 = made_source naming (naming.index_source i q) (count_value x.index) st1 in
      let b = bind_params ns (v ∷ i ∷ []) st2 in
      (record { key = x.key; occurrence = x.occurrence; value = v; index = i; more = b.made; params = refs_of b.names }, b.state)

  abbrev pub grow_item_as : (MScope → Path → State → Lives × State) → MScope → List Text → Path → Entry → State → ItemGrown
  grow_item_as body ms ns q x st = let s = item_spot_as ns q x st in record { spot = s.0; arm = or_comment (body (with_names (item_names ns s.0) ms) q s.1) }

abbrev pub item_spot : List Text → Path → Entry → State → ItemSpot × State
item_spot = item_spot_as by_path

abbrev pub grow_item : (MScope → Path → State → Lives × State) → MScope → List Text → Path → Entry → State → ItemGrown
grow_item = grow_item_as by_path

abbrev pub grow_entries : (Path → Entry → State → ItemGrown) → Path → List Entry → State → Items × State
grow_entries one p [] st = (no_items, st)
grow_entries one p (x ∷ xs) st =
    let g = one (item x.key x.occurrence ∷ p) x st in let r = grow_entries one p xs g.arm.state in
    (item_live g.spot g.arm.comment g.arm.lives r.0, r.1)

abbrev pub branch_from : Spot → Bool → Arm → Live × State
branch_from s u a = (branch_live s u a.comment a.lives, a.state)

abbrev pub unlisted_from : Spot → Arm → Live × State
unlisted_from s a = (unlisted s a.comment a.lives, a.state)

abbrev pub listed_from : Spot → Items × State → Live × State
listed_from s r = (listed s r.0, r.1)

abbrev pub items_or_else : Spot → Values Path → (Values Path → Items × State) → Arm → Live × State
items_or_else s no_values f a = unlisted_from s a
items_or_else s (value v vs) f a = listed_from s (f (value v vs))

-- Templates, in the three layers of the meaning

-- at an instance's path, with what was made for it, its arguments and what is passed to it
abbrev pub GrowComponents : Type 0
GrowComponents = Path → List Id → Names → Option ℕ → MPassed → State → Live × State

-- the block of a name, with what was made for it and the references yielded, at the path of its `yield`
abbrev pub GrowYields : Type 0
GrowYields = Text → List Id → List ℕ → Path → State → Live × State

abbrev pub grow_block : Text → Option Block → List Id → List ℕ → (Block → Names → State → Lives × State) → State → Live × State
grow_block n None made rs f st = (yield_live n made [] no_lives, st)
grow_block n (Some b) made rs f st = let y = bind_params b.params rs st in let r = f b y.names y.state in (yield_live n (made ++ y.made) (refs_of y.names) r.0, r.1)

module _ (naming : Naming) where
  module _ (app : App) (components : GrowComponents) (yields : GrowYields) where
    abbrev mutual
      pub grow_stmt_as : MScope → Path → Stmt → State → Live × State
      grow_stmt_as ms p (text_stmt t) st = (still (st.next a_node), made_node (text_content t) st)
      grow_stmt_as ms p (comment_stmt t) st = (still (st.next a_node), made_node (comment_content t) st)
      grow_stmt_as ms p (put e) st =
          let x = place (bind_exprs_as naming app ms (expr e no_exprs) st) in
          (put_live (x.state.next a_node) x.spot, made_node (text_content (text_of (first_value x.pairs))) x.state)
      grow_stmt_as ms p (element tag ps b) st =
          let z = bind_written_as naming app (mwritten_parts ms ps) st in
          let a = flush_parts z.parts z.state in
          let n = a.state.next a_node in
          let r = grow_body_as ms p 0 b (made_node (element_content tag a.attrs) a.state) in
          let m = install_parts n 0 z.parts r.1 in
          (element_live n z.made a.spots m.spots r.0, m.state)
      grow_stmt_as ms p (component_stmt c ps given bs) st =
          let a = bind_args_as naming app ms given st in
          let z = bind_written_as naming app (mwritten_parts ms ps) a.state in
          let k = z.state.next a_block in
          components (into c ∷ p) (block_id k ∷ (a.made ++ z.made)) a.names (Some k) (mpassed k ps bs ms) (make a_block block_row z.state)
      grow_stmt_as ms p (if_stmt e unless b c) st =
          let x = place (bind_exprs_as naming app ms (expr e no_exprs) st) in
          if takes_first unless (first_value x.pairs)
          then branch_from x.spot true (or_comment (grow_body_as ms (main ∷ p) 0 b x.state))
          else branch_from x.spot false (or_comment (grow_body_as ms (otherwise ∷ p) 0 c x.state))
      grow_stmt_as ms p (each e k ns b c) st =
          let x = place (bind_exprs_as naming app ms (expr e no_exprs) st) in
          items_or_else x.spot (values_listed (first_value x.pairs))
          (λ vs. grow_entries (grow_item_as naming (λ ms' q st'. grow_body_as ms' q 0 b st') ms ns) (items ∷ p) (entries k 0 [] vs) x.state)
          (or_comment (grow_body_as ms (otherwise ∷ p) 0 c x.state))
      grow_stmt_as ms p (let_stmt es ns b) st =
          let x = bind_exprs_as naming app ms es st in
          let y = bind_params ns x.ids x.state in
          let r = grow_body_as (with_names y.names ms) (main ∷ p) 0 b y.state in
          (let_live (x.made ++ y.made) (refs_of y.names) r.0, r.1)
      grow_stmt_as ms p (yield es n) st = let x = bind_exprs_as naming app ms es st in yields n x.made x.ids p x.state

      pub grow_body_as : MScope → Path → ℕ → Body → State → Lives × State
      grow_body_as ms p i end st = (no_lives, st)
      grow_body_as ms p i (stmt t b) st =
          let r = grow_stmt_as ms (at i ∷ p) t st in let z = grow_body_as ms p (suc i) b r.1 in (live_and r.0 z.0, z.1)

  abbrev pub grow_yields_as : App → GrowComponents → MPassed → GrowYields
  grow_yields_as app components mnothing n made rs p st = (yield_live n made [] no_lives, st)
  grow_yields_as app components (mpassed k ps bs (mscope t a l w)) n made rs p st =
      grow_block n (block_named n bs) made rs
      (λ b names st'. grow_body_as app components (grow_yields_as app components w) (mscope t a (l ++ names) w) (slot n ∷ p) 0 b.body st') st

  -- the cells of a new instance, which hold what the store has
  abbrev pub grow_cells_as : App → Store → Path → List (Text × Plain) → State → BoundNames
  grow_cells_as app store q [] st = record { names = []; made = []; state = st }
  grow_cells_as app store q (f ∷ fs) st =
      let c = grow_cells_as app store q fs (made_source naming (naming.cell_source (st.next a_ref) q f.0) (cell_value app store q f.0) st) in
      record { names = (f.0, st.next a_ref) ∷ c.names; made = ref (st.next a_ref) ∷ c.made; state = c.state }

  abbrev pub grow_components_as : ℕ → App → Store → GrowComponents
  grow_components_as zero app store q made args k w st = (deep_live q, st)
  grow_components_as (suc n) app store q made args k w st =
      let c = grow_cells_as app store q (class_at app q).fields st in
      let i : Inst = record { id = c.state.next an_instance; path = q; cells = c.names } in
      let inner = grow_components_as n app store in
      let r = grow_body_as app inner (grow_yields_as app inner w) (mscope i args [] w) q 0 (class_at app q).template (make an_instance (instance_row i) c.state) in
      (component_live i (instance_id i.id ∷ (made ++ c.made)) made args k r.0, r.1)

  -- The root: nothing is passed to it.
  abbrev pub grow_app_as : App → Store → State → Live × State
  grow_app_as app store st = grow_components_as app.limit app store [] [] [] None mnothing st

-- By paths.

abbrev pub grow_stmt : App → GrowComponents → GrowYields → MScope → Path → Stmt → State → Live × State
grow_stmt = grow_stmt_as by_path

abbrev pub grow_body : App → GrowComponents → GrowYields → MScope → Path → ℕ → Body → State → Lives × State
grow_body = grow_body_as by_path

abbrev pub grow_yields : App → GrowComponents → MPassed → GrowYields
grow_yields = grow_yields_as by_path

abbrev pub grow_cells : App → Store → Path → List (Text × Plain) → State → BoundNames
grow_cells = grow_cells_as by_path

abbrev pub grow_components : ℕ → App → Store → GrowComponents
grow_components = grow_components_as by_path

abbrev pub grow_app : App → Store → State → Live × State
grow_app = grow_app_as by_path
