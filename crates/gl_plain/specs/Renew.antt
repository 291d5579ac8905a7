-- One update of what was rendered.
use Rattle.std.specs.Prelude.{ℕ, suc, ◌+◌, List, [], ◌∷◌, map, Bool, true, false, ◌&&◌, nat_eq, if◌then◌else◌, Option, Some, None}
use Rattle.std.specs.Str.{bytes_eq}
use Rattle.gl_base.specs.Texts.{Text}
use Rattle.gl_value.specs.Value.{Values, no_values, value, text_of, count_value, same}
use Rattle.gl_ast.specs.Template.{Stmt, put, element, component_stmt, if_stmt, each, let_stmt, yield, Body, stmt}
use Rattle.gl_meaning.specs.App.{App}
use Rattle.gl_meaning.specs.Path.{at, main, otherwise, items, item, into, slot, Path, V, path_eq, no_owners}
use Rattle.gl_meaning.specs.Scope.{Source, Pair, sources_of}
use Rattle.gl_meaning.specs.Eval.{Store, class_at, takes_first, values_in}
use Rattle.gl_meaning.specs.Parts.{Attrs, attribute_value}
use Rattle.gl_meaning.specs.Render.{Entry, entries, values_listed, Block, block_named}
use Rattle.gl_plain.specs.Ids.{Id, ref, node, modifier_id}
use Rattle.gl_plain.specs.State.{any_of, Form, all_form, MScope, mscope, mnothing, mpassed, passed_in, mslots, mwriter, named_as, with_names, Content, element_content, text_content, comment_content, content, row, modifier_row, Installed, Thing, State, pair_of, put_thing, touch, held_value, note_evaluated, note_updated}
use Rattle.gl_plain.specs.Naming.{Naming, by_path, dropped_as}
use Rattle.gl_plain.specs.Binding.{first_value}
use Rattle.gl_plain.specs.Live.{AttrSpot, ModSpot, ItemSpot, item_names, item_made, Live, put_live, element_live, branch_live, listed, unlisted, let_live, component_live, yield_live, Items, no_items, item_live, Lives, live_and, times_in, times_comment, times_items}
use Rattle.gl_plain.specs.Ids.{occurs}
use Rattle.gl_plain.specs.Tags.{named_with, first_values, values_from}
use Rattle.gl_plain.specs.Grow.{or_comment, ItemGrown, grow_item_as, grow_entries, branch_from, unlisted_from, listed_from, grow_body_as, grow_components_as, grow_yields_as}

-- Positions

abbrev pub form_ids : Form → List ℕ
form_ids (all_form rs) = rs
form_ids _ = []

-- the references that a position reads
abbrev pub spot_ids : Option Thing → List ℕ
spot_ids (Some (row x)) = form_ids x.form
spot_ids _ = []

-- what they mean now
abbrev pub spot_pairs : State → ℕ → List Pair
spot_pairs st r = map (pair_of st.look) (spot_ids (st.look (ref r)))

abbrev pub last_of : Option Thing → (Source → Bool) → Bool
last_of (Some (row x)) = x.last
last_of _ = any_of []

-- a source of the last evaluation was touched
abbrev pub is_stale : State → ℕ → Bool
is_stale st r = last_of (st.look (ref r)) st.touched

abbrev pub evaluate : ℕ → State → State
evaluate r st =
    note_evaluated r (put_thing (ref r) (row (record { form = all_form (spot_ids (st.look (ref r))); last = any_of (sources_of (spot_pairs st r)) })) st)

abbrev pub reread : ℕ → State → State
reread r st = if is_stale st r then evaluate r st else st

-- Nodes

abbrev pub renew_text : ℕ → ℕ → State → State
renew_text n r st = if is_stale st r then put_thing (node n) (content (text_content (text_of (first_value (spot_pairs st r))))) (evaluate r st) else st

abbrev pub with_attr : Text → Option Text → Attrs → Attrs
with_attr n v [] = []
with_attr n v (a ∷ xs) = (if bytes_eq n a.0 then (a.0, v) else a) ∷ with_attr n v xs

abbrev pub changed_attr : Text → Option Text → Option Thing → Content
changed_attr n v (Some (content (element_content tag attrs))) = element_content tag (with_attr n v attrs)
changed_attr n v _ = comment_content []

abbrev pub renew_attrs : ℕ → List AttrSpot → State → State
renew_attrs n [] st = st
renew_attrs n (a ∷ xs) st =
    renew_attrs n xs
    (if is_stale st a.spot.ref
    then put_thing (node n) (content (changed_attr a.name (attribute_value (spot_pairs st a.spot.ref)) (st.look (node n)))) (evaluate a.spot.ref st)
    else st)

abbrev pub refreshed : ModSpot → List V → Option Thing → Installed
refreshed m vs (Some (modifier_row x)) = record { on_node = x.on_node; place = x.place; name = x.name; args = first_values m.positional vs; names = named_with m.names (values_from m.positional vs) }
refreshed m vs _ = record { on_node = 0; place = 0; name = []; args = []; names = [] }

abbrev pub renew_mods : List ModSpot → State → State
renew_mods [] st = st
renew_mods (m ∷ ms) st =
    renew_mods ms
    (if is_stale st m.spot.ref
    then note_updated m.id (put_thing (modifier_id m.id) (modifier_row (refreshed m (values_in (spot_pairs st m.spot.ref)) (st.look (modifier_id m.id)))) (evaluate m.spot.ref st))
    else st)

-- Items

-- another value for an item's reference; it is touched where the value isn't the same
abbrev pub give : ℕ → Source → V → State → State
give r x v st = if same path_eq (held_value (st.look (ref r))) v then st else touch r x v st

-- an item that was rendered, with what it is to be updated
pub record Handle : Type 0 where
  pub spot : ItemSpot
  pub comment : Option ℕ
  pub lives : Lives
  pub go : MScope → Path → State → Lives × State

abbrev pub times_handle : Id → Handle → ℕ
times_handle q h = occurs q (item_made h.spot) + (times_in q h.lives + times_comment q h.comment)

abbrev pub times_handles : Id → List Handle → ℕ
times_handles q [] = 0
times_handles q (h ∷ hs) = times_handle q h + times_handles q hs

abbrev pub is_of : Entry → Handle → Bool
is_of x h = same no_owners x.key h.spot.key && nat_eq x.occurrence h.spot.occurrence

abbrev pub with_front : Handle → Option (Handle × List Handle) → Option (Handle × List Handle)
with_front h None = None
with_front h (Some p) = Some (p.0, h ∷ p.1)

-- the item of a key with its occurrence, and the others
abbrev pub taken : Entry → List Handle → Option (Handle × List Handle)
taken x [] = None
taken x (h ∷ hs) = if is_of x h then Some (h, hs) else with_front h (taken x hs)

module _ (naming : Naming) where
  abbrev pub renew_item_as : List Text → MScope → Path → Entry → Handle → State → ItemGrown
  renew_item_as ns ms q x h st =
      let st2 = give h.spot.index (naming.index_source h.spot.index q) (count_value x.index) (give h.spot.value (naming.value_source h.spot.value q) x.value st) in
      let r = h.go (with_names (item_names ns h.spot) ms) q st2 in
      record { spot = h.spot; arm = record { comment = h.comment; lives = r.0; state = r.1 } }

  abbrev pub sync_one_as : (Path → Entry → State → ItemGrown) → List Text → MScope → Path → Entry → List Handle → Option (Handle × List Handle) → State → ItemGrown × List Handle
  sync_one_as one ns ms q x olds None st = (one q x st, olds)
  sync_one_as one ns ms q x olds (Some p) st = (renew_item_as ns ms q x p.0 st, p.1)

  -- the entries of now in order; what is left of the old items goes
  abbrev pub sync_as : (Path → Entry → State → ItemGrown) → List Text → MScope → Path → List Entry → List Handle → State → Items × State
  sync_as one ns ms p [] olds st = (no_items, dropped_as naming (λ q. times_handles q olds) st)
  sync_as one ns ms p (x ∷ xs) olds st =
      let g = sync_one_as one ns ms (item x.key x.occurrence ∷ p) x olds (taken x olds) st in
      let r = sync_as one ns ms p xs g.1 g.0.arm.state in
      (item_live g.0.spot g.0.arm.comment g.0.arm.lives r.0, r.1)

abbrev pub renew_item : List Text → MScope → Path → Entry → Handle → State → ItemGrown
renew_item = renew_item_as by_path

abbrev pub sync_one : (Path → Entry → State → ItemGrown) → List Text → MScope → Path → Entry → List Handle → Option (Handle × List Handle) → State → ItemGrown × List Handle
sync_one = sync_one_as by_path

abbrev pub sync : (Path → Entry → State → ItemGrown) → List Text → MScope → Path → List Entry → List Handle → State → Items × State
sync = sync_as by_path

-- the first where there are values, and else the second
abbrev pub where_values : {A : Type 0} → Values Path → (Values Path → A) → A → A
where_values no_values f a = a
where_values (value v vs) f a = f (value v vs)

abbrev pub where_block : {A : Type 0} → Option Block → (Block → A) → A → A
where_block None f a = a
where_block (Some b) f a = f b

module _ (naming : Naming) where
  -- The updating program. Recursion over what was rendered; the statement, its scope and path, and the levels of nesting left, go along.
  module _ (app : App) (store : Store) where
    abbrev pub fresh_body_as : ℕ → MScope → Path → Body → State → Lives × State
    fresh_body_as m ms p b st = let inner = grow_components_as naming m app store in grow_body_as naming app inner (grow_yields_as naming app inner (passed_in ms)) ms p 0 b st

    abbrev pub fresh_items_as : ℕ → MScope → List Text → Body → Path → Entry → State → ItemGrown
    fresh_items_as m ms ns b q x st = grow_item_as naming (λ ms' q' st'. fresh_body_as m ms' q' b st') ms ns q x st

    abbrev mutual
      pub renew_as : ℕ → MScope → Path → Stmt → Live → State → Live × State
      renew_as m ms p (put e) (put_live n s) st = (put_live n s, renew_text n s.ref st)
      renew_as m ms p (element tag ps b) (element_live n made xs zs ls) st =
          let r = renew_body_as m ms p 0 b ls (renew_attrs n xs st) in (element_live n made xs zs r.0, renew_mods zs r.1)
      renew_as m ms p (if_stmt e unless b c) (branch_live s true k ls) st =
          let st1 = reread s.ref st in
          if takes_first unless (first_value (spot_pairs st1 s.ref))
          then branch_from s true (let r = renew_body_as m ms (main ∷ p) 0 b ls st1 in record { comment = k; lives = r.0; state = r.1 })
          else branch_from s false (or_comment (fresh_body_as m ms (otherwise ∷ p) c (dropped_as naming (λ q. times_in q ls + times_comment q k) st1)))
      renew_as m ms p (if_stmt e unless b c) (branch_live s false k ls) st =
          let st1 = reread s.ref st in
          if takes_first unless (first_value (spot_pairs st1 s.ref))
          then branch_from s true (or_comment (fresh_body_as m ms (main ∷ p) b (dropped_as naming (λ q. times_in q ls + times_comment q k) st1)))
          else branch_from s false (let r = renew_body_as m ms (otherwise ∷ p) 0 c ls st1 in record { comment = k; lives = r.0; state = r.1 })
      renew_as m ms p (each e k ns b c) (listed s is) st =
          let st1 = reread s.ref st in
          where_values (values_listed (first_value (spot_pairs st1 s.ref)))
          (λ vs. listed_from s (sync_as naming (fresh_items_as m ms ns b) ns ms (items ∷ p) (entries k 0 [] vs) (handles_as m b is) st1))
          (unlisted_from s (or_comment (fresh_body_as m ms (otherwise ∷ p) c (dropped_as naming (λ q. times_items q is) st1))))
      renew_as m ms p (each e k ns b c) (unlisted s o ls) st =
          let st1 = reread s.ref st in
          where_values (values_listed (first_value (spot_pairs st1 s.ref)))
          (λ vs. listed_from s (grow_entries (fresh_items_as m ms ns b) (items ∷ p) (entries k 0 [] vs) (dropped_as naming (λ q. times_in q ls + times_comment q o) st1)))
          (unlisted_from s (let r = renew_body_as m ms (otherwise ∷ p) 0 c ls st1 in record { comment = o; lives = r.0; state = r.1 }))
      renew_as m ms p (let_stmt es ns b) (let_live made rs ls) st =
          let r = renew_body_as m (with_names (named_as ns rs) ms) (main ∷ p) 0 b ls st in (let_live made rs r.0, r.1)
      renew_as (suc m) ms p (component_stmt c ps given bs) (component_live i made gm args (Some k) ls) st =
          let r = renew_body_as m (mscope i args [] (mpassed k ps bs ms)) (into c ∷ p) 0 (class_at app (into c ∷ p)).template ls st in
          (component_live i made gm args (Some k) r.0, r.1)
      renew_as m ms p (yield es n) (yield_live k made rs ls) st =
          let r = where_block (block_named n (mslots (passed_in ms))) (λ b. renew_body_as m (with_names (named_as b.params rs) (mwriter (passed_in ms))) (slot n ∷ p) 0 b.body ls st) (ls, st) in
          (yield_live k made rs r.0, r.1)
      renew_as m ms p _ l st = (l, st)

      pub renew_body_as : ℕ → MScope → Path → ℕ → Body → Lives → State → Lives × State
      renew_body_as m ms p i (stmt t b) (live_and l ls) st =
          let r = renew_as m ms (at i ∷ p) t l st in let z = renew_body_as m ms p (suc i) b ls r.1 in (live_and r.0 z.0, z.1)
      renew_body_as m ms p i _ ls st = (ls, st)

      pub handles_as : ℕ → Body → Items → List Handle
      handles_as m b no_items = []
      handles_as m b (item_live s c ls is) =
          record { spot = s; comment = c; lives = ls; go = λ ms q st. renew_body_as m ms q 0 b ls st } ∷ handles_as m b is

  -- The root is an instance with the empty path, and counts as one level of nesting.
  abbrev pub renew_root_as : ℕ → App → Store → Live → State → Live × State
  renew_root_as (suc m) app store (component_live i made gm args k ls) st =
      let r = renew_body_as app store m (mscope i args [] mnothing) [] 0 (class_at app []).template ls st in (component_live i made gm args k r.0, r.1)
  renew_root_as _ app store l st = (l, st)

  abbrev pub renew_app_as : App → Store → Live → State → Live × State
  renew_app_as app store l st = renew_root_as app.limit app store l st

-- By paths.

abbrev pub fresh_body : App → Store → ℕ → MScope → Path → Body → State → Lives × State
fresh_body = fresh_body_as by_path

abbrev pub fresh_items : App → Store → ℕ → MScope → List Text → Body → Path → Entry → State → ItemGrown
fresh_items = fresh_items_as by_path

abbrev pub renew : App → Store → ℕ → MScope → Path → Stmt → Live → State → Live × State
renew = renew_as by_path

abbrev pub renew_body : App → Store → ℕ → MScope → Path → ℕ → Body → Lives → State → Lives × State
renew_body = renew_body_as by_path

abbrev pub handles : App → Store → ℕ → Body → Items → List Handle
handles = handles_as by_path

abbrev pub renew_root : ℕ → App → Store → Live → State → Live × State
renew_root = renew_root_as by_path

abbrev pub renew_app : App → Store → Live → State → Live × State
renew_app = renew_app_as by_path
