-- What each position of a page read last.
use Rattle.std.proofs.Common.{◌≡◌, ℕ, zero, suc, true, false, List, [], ◌∷◌, ◌++◌, Option, Some, None, sym, ap, subst}
use Rattle.gl_base.specs.Texts.{Text}
use Rattle.gl_ast.specs.Template as t
use Rattle.gl_meaning.specs.App.{App}
use Rattle.gl_meaning.specs.Path.{at, main, otherwise, items, item, into, slot, Path}
use Rattle.gl_meaning.specs.Scope.{Source, Pair, Scope, sources_of}
use Rattle.gl_meaning.specs.Eval.{Store, class_at}
use Rattle.gl_meaning.specs.Parts.{WrittenValue, WrittenModifier}
use Rattle.gl_meaning.specs.Render.{Entry, Block, block_named}
use Rattle.gl_plain.specs.Ids.{Id}
use Rattle.gl_plain.specs.State.{MScope, passed_in, mslots, State}
use Rattle.gl_plain.specs.Binding.{Spot}
use Rattle.gl_plain.specs.Live
use Rattle.gl_plain.specs.Live.{Live, Lives, Items, AttrSpot, ModSpot}
use Rattle.gl_plain.specs.Renew.{last_of}
use Rattle.gl_plain.specs.Stands.{SpottedIn, AttrsStand, ModsStand, WhereBlock, Stands, StandIn, ItemsStand, BlockStands, ListStands, ElseStands, attrs_by, mods_by, tail_of}
use Rattle.gl_plain.specs.Counts.{attr_positions, mod_positions, positions_of, positions_in, positions_items}
use Rattle.gl_plain.specs.Machine.{RootStands}
use Rattle.gl_plain.specs.Ids.{ref}
use Rattle.gl_plain.specs.Renew.{last_of}
use Rattle.gl_plain.specs.State.{any_of}
use Rattle.gl_meaning.specs.Scope.{Source, sources_of}
use Rattle.gl_naming.proofs.Choices.{where_list, where_else}

-- a property of each of the references
abbrev pub Each : (ℕ → Type 0) → List ℕ → Type 0
Each K [] = Unit {0}
Each K (r ∷ rs) = K r × Each K rs

each_both : (K : ℕ → Type 0) (xs ys : List ℕ) → Each K xs → Each K ys → Each K (xs ++ ys)
each_both K [] ys h k = k
each_both K (x ∷ xs) ys h k = (h.0, each_both K xs ys h.1 k)

module _ (app : App) (σ τ : Store) (st : State) (K : ℕ → Type 0) (told : (r : ℕ) (xs : List Source) → last_of (st.look (ref r)) ≡ any_of xs → K r) where
  spot_told : (ms : MScope) (more : List Id) (z : Spot) (E : Store → (ℕ → Pair) → List Pair) (ps : List Pair) → SpottedIn app st.look ms more z E ps → K z.ref
  spot_told ms more z E ps h = told z.ref (sources_of ps) (ap last_of h.is.0)

  attrs_told : (made : List Id) (s : Scope) (ms : MScope) (ws : Scope → List (WrittenValue Scope)) (ns : List Text) (xs : List AttrSpot) → AttrsStand app σ τ st.look made s ms ws ns xs → Each K (attr_positions xs)
  attrs_told made s ms ws [] [] h = tt
  attrs_told made s ms ws (n ∷ ns) (a ∷ xs) h = (spot_told ms made a.spot _ _ h.1, attrs_told made s ms ws ns xs h.2)
  attrs_told made s ms ws _ _ h = absurd h

  mods_told : (made : List Id) (n : ℕ) (s : Scope) (ms : MScope) (ws : Scope → List (WrittenModifier Scope)) (i : ℕ) (ds : List (WrittenModifier Scope)) (zs : List ModSpot)
      → ModsStand app σ τ st.look made n s ms ws i ds zs → Each K (mod_positions zs)
  mods_told made n s ms ws i [] [] h = tt
  mods_told made n s ms ws i (d ∷ ds) (z ∷ zs) h = (spot_told ms made z.spot _ _ h.3, mods_told made n s ms (λ s'. tail_of (ws s')) (suc i) ds zs h.4)
  mods_told made n s ms ws i _ _ h = absurd h

  block_told : (o : Option Block) (P : Block → Type 0) (ls : Lives) → ((c : Block) → P c → Each K (positions_in ls)) → WhereBlock o P (ls ≡ Live.no_lives) → Each K (positions_in ls)
  block_told None P ls f h = subst (λ y. Each K (positions_in y)) (sym h) tt
  block_told (Some c) P ls f h = f c h

  mutual
    stmt_told : (m b : ℕ) (s : Scope) (ms : MScope) (p : Path) (x : t.Stmt) (l : Live) → Stands app σ τ st.look m b s ms p x l → Each K (positions_of l)
    stmt_told m b s ms p (t.text_stmt z) (Live.still n) h = tt
    stmt_told m b s ms p (t.comment_stmt z) (Live.still n) h = tt
    stmt_told m b s ms p (t.put e) (Live.put_live n z) h = (spot_told ms [] z _ _ h.1, tt)
    stmt_told m b s ms p (t.element tag ps c) (Live.element_live n made xs zs ls) h =
        each_both K (attr_positions xs) (positions_in ls ++ mod_positions zs) (attrs_told made s ms (attrs_by ps) _ xs h.1)
        (each_both K (positions_in ls) (mod_positions zs) (body_told m b s ms p 0 c ls h.3) (mods_told made n s ms (mods_by ps) 0 _ zs h.2))
    stmt_told m b s ms p (t.if_stmt e u c d) (Live.branch_live z true k ls) h = (spot_told ms [] z _ _ h.0, body_told m b s ms (main ∷ p) 0 c ls h.3)
    stmt_told m b s ms p (t.if_stmt e u c d) (Live.branch_live z false k ls) h = (spot_told ms [] z _ _ h.0, body_told m b s ms (otherwise ∷ p) 0 d ls h.3)
    stmt_told m b s ms p (t.each e key ns c d) (Live.listed z is) h =
        (spot_told ms [] z _ _ h.0, where_list (Each K (positions_items is)) _ (ListStands app σ τ st.look m b s ms p key ns c is) (λ us g. items_told m b s ms (items ∷ p) ns c _ is g) h.1)
    stmt_told m b s ms p (t.each e key ns c d) (Live.unlisted z k ls) h =
        (spot_told ms [] z _ _ h.0, where_else (Each K (positions_in ls)) _ (ElseStands app σ τ st.look m b s ms p d k ls) (λ g. body_told m b s ms (otherwise ∷ p) 0 d ls g.1) h.1)
    stmt_told m b s ms p (t.let_stmt es ns c) (Live.let_live made rs ls) h = body_told m _ _ _ (main ∷ p) 0 c ls h.3
    stmt_told (suc m) b s ms p (t.component_stmt c ps given bs) (Live.component_live i made gm args (Some k) ls) h = body_told m _ _ _ (into c ∷ p) 0 (class_at app (into c ∷ p)).template ls h.7
    stmt_told zero b s ms p (t.component_stmt c ps given bs) (Live.deep_live q) h = tt
    stmt_told m b s ms p (t.yield es n) (Live.yield_live k made rs ls) h =
        block_told (block_named n (mslots (passed_in ms))) (BlockStands app σ τ st.look m b s ms p es n made rs ls) ls (λ c g. body_told m _ _ _ (slot n ∷ p) 0 c.body ls g.3) h.1
    stmt_told m b s ms p _ _ h = absurd h

    body_told : (m b : ℕ) (s : Scope) (ms : MScope) (p : Path) (i : ℕ) (c : t.Body) (ls : Lives) → StandIn app σ τ st.look m b s ms p i c ls → Each K (positions_in ls)
    body_told m b s ms p i t.end Live.no_lives h = tt
    body_told m b s ms p i (t.stmt x c) (Live.live_and l ls) h = each_both K (positions_of l) (positions_in ls) (stmt_told m b s ms (at i ∷ p) x l h.0) (body_told m b s ms p (suc i) c ls h.1)
    body_told m b s ms p i _ _ h = absurd h

    items_told : (m b : ℕ) (s : Scope) (ms : MScope) (p : Path) (ns : List Text) (c : t.Body) (xs : List Entry) (is : Items) → ItemsStand app σ τ st.look m b s ms p ns c xs is → Each K (positions_items is)
    items_told m b s ms p ns c [] Live.no_items h = tt
    items_told m b s ms p ns c (x ∷ xs) (Live.item_live z o ls is) h =
        each_both K (positions_in ls) (positions_items is) (body_told m _ _ _ (item x.key x.occurrence ∷ p) 0 c ls h.4) (items_told m b s ms p ns c xs is h.5)
    items_told m b s ms p ns c _ _ h = absurd h

  -- each position of a page that stands
  pub page_told : (m : ℕ) (l : Live) → RootStands app σ τ st.look m l → Each K (positions_of l)
  page_told (suc m) (Live.component_live i made gm args None ls) h = body_told m _ _ _ [] 0 (class_at app []).template ls h.5
  page_told zero (Live.deep_live q) h = tt
  page_told _ _ h = absurd h
