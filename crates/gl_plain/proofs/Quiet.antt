-- At the beginning of a turn no position is stale.
use Rattle.std.proofs.Common.{◌≡◌, ℕ, zero, suc, true, false, List, [], ◌∷◌, Option, Some, None, refl, sym, ◌∙◌, ap, subst}
use Rattle.std.specs.List.{list_any}
use Rattle.gl_base.specs.Texts.{Text}
use Rattle.gl_value.specs.Value.{Values, no_values, value}
use Rattle.gl_ast.specs.Template as t
use Rattle.gl_meaning.specs.App.{App}
use Rattle.gl_meaning.specs.Path.{at, main, otherwise, items, item, into, slot, Path}
use Rattle.gl_meaning.specs.Scope.{Source, Pair, Scope, sources_of}
use Rattle.gl_meaning.specs.Eval.{Store, class_at}
use Rattle.gl_meaning.specs.Parts.{WrittenValue, WrittenModifier}
use Rattle.gl_meaning.specs.Render.{Entry, Block, block_named}
use Rattle.gl_plain.specs.Ids.{Id}
use Rattle.gl_plain.specs.State.{MScope, passed_in, mslots, State}
use Rattle.gl_plain.specs.Binding.{Spot}
use Rattle.gl_plain.specs.Live
use Rattle.gl_plain.specs.Live.{Live, Lives, Items, AttrSpot, ModSpot}
use Rattle.gl_plain.specs.Renew.{last_of}
use Rattle.gl_plain.specs.Guards.{IsFresh, AttrsFresh, ModsFresh, NoneStale, NoneStaleItems, NoneStaleIn}
use Rattle.gl_plain.specs.Stands.{SpottedIn, AttrsStand, ModsStand, WhereValues, WhereBlock, Stands, StandIn, ItemsStand, BlockStands, ListStands, ElseStands, attrs_by, mods_by, tail_of}
use Rattle.gl_plain.specs.Turns.{begin}

none_of : (xs : List Source) → list_any (λ x. false) xs ≡ false
none_of [] = refl
none_of (x ∷ xs) = none_of xs

module _ (app : App) (σ τ : Store) (st : State) where
  spot_quiet : (ms : MScope) (more : List Id) (z : Spot) (E : Store → (ℕ → Pair) → List Pair) (ps : List Pair) → SpottedIn app st.look ms more z E ps → IsFresh (begin st) z
  spot_quiet ms more z E ps h = ap (λ y. last_of y (λ x. false)) h.is.0 ∙ none_of (sources_of ps)

  attrs_quiet : (made : List Id) (s : Scope) (ms : MScope) (ws : Scope → List (WrittenValue Scope)) (ns : List Text) (xs : List AttrSpot) → AttrsStand app σ τ st.look made s ms ws ns xs → AttrsFresh (begin st) xs
  attrs_quiet made s ms ws [] [] h = tt
  attrs_quiet made s ms ws (n ∷ ns) (a ∷ xs) h = (spot_quiet ms made a.spot _ _ h.1, attrs_quiet made s ms ws ns xs h.2)
  attrs_quiet made s ms ws _ _ h = absurd h

  mods_quiet : (made : List Id) (n : ℕ) (s : Scope) (ms : MScope) (ws : Scope → List (WrittenModifier Scope)) (i : ℕ) (ds : List (WrittenModifier Scope)) (zs : List ModSpot)
      → ModsStand app σ τ st.look made n s ms ws i ds zs → ModsFresh (begin st) zs
  mods_quiet made n s ms ws i [] [] h = tt
  mods_quiet made n s ms ws i (d ∷ ds) (z ∷ zs) h = (spot_quiet ms made z.spot _ _ h.3, mods_quiet made n s ms (λ s'. tail_of (ws s')) (suc i) ds zs h.4)
  mods_quiet made n s ms ws i _ _ h = absurd h

  list_quiet : (us : Values Path) (P : Values Path → Type 0) (Q : Type 0) → ((us : Values Path) → P us → Q) → WhereValues us P ⊥ → Q
  list_quiet no_values P Q f h = absurd h
  list_quiet (value v us) P Q f h = f (value v us) h

  else_quiet : (us : Values Path) (P Q : Type 0) → (P → Q) → WhereValues us (λ z. ⊥) P → Q
  else_quiet no_values P Q f h = f h
  else_quiet (value v us) P Q f h = absurd h

  block_quiet : (o : Option Block) (P : Block → Type 0) (ls : Lives) → ((c : Block) → P c → NoneStaleIn (begin st) ls) → WhereBlock o P (ls ≡ Live.no_lives) → NoneStaleIn (begin st) ls
  block_quiet None P ls f h = subst (NoneStaleIn (begin st)) (sym h) tt
  block_quiet (Some c) P ls f h = f c h

  mutual
    pub quiet : (m b : ℕ) (s : Scope) (ms : MScope) (p : Path) (x : t.Stmt) (l : Live) → Stands app σ τ st.look m b s ms p x l → NoneStale (begin st) l
    quiet m b s ms p (t.text_stmt z) (Live.still n) h = tt
    quiet m b s ms p (t.comment_stmt z) (Live.still n) h = tt
    quiet m b s ms p (t.put e) (Live.put_live n z) h = spot_quiet ms [] z _ _ h.1
    quiet m b s ms p (t.element tag ps c) (Live.element_live n made xs zs ls) h =
        (attrs_quiet made s ms (attrs_by ps) _ xs h.1, mods_quiet made n s ms (mods_by ps) 0 _ zs h.2, quiet_in m b s ms p 0 c ls h.3)
    quiet m b s ms p (t.if_stmt e u c d) (Live.branch_live z true k ls) h = (spot_quiet ms [] z _ _ h.0, quiet_in m b s ms (main ∷ p) 0 c ls h.3)
    quiet m b s ms p (t.if_stmt e u c d) (Live.branch_live z false k ls) h = (spot_quiet ms [] z _ _ h.0, quiet_in m b s ms (otherwise ∷ p) 0 d ls h.3)
    quiet m b s ms p (t.each e key ns c d) (Live.listed z is) h =
        (spot_quiet ms [] z _ _ h.0, list_quiet _ (ListStands app σ τ st.look m b s ms p key ns c is) (NoneStaleItems (begin st) is) (λ us g. quiet_items m b s ms (items ∷ p) ns c _ is g) h.1)
    quiet m b s ms p (t.each e key ns c d) (Live.unlisted z k ls) h =
        (spot_quiet ms [] z _ _ h.0, else_quiet _ (ElseStands app σ τ st.look m b s ms p d k ls) (NoneStaleIn (begin st) ls) (λ g. quiet_in m b s ms (otherwise ∷ p) 0 d ls g.1) h.1)
    quiet m b s ms p (t.let_stmt es ns c) (Live.let_live made rs ls) h = quiet_in m _ _ _ (main ∷ p) 0 c ls h.3
    quiet (suc m) b s ms p (t.component_stmt c ps given bs) (Live.component_live i made gm args (Some k) ls) h = quiet_in m _ _ _ (into c ∷ p) 0 (class_at app (into c ∷ p)).template ls h.7
    quiet zero b s ms p (t.component_stmt c ps given bs) (Live.deep_live q) h = tt
    quiet m b s ms p (t.yield es n) (Live.yield_live k made rs ls) h =
        block_quiet (block_named n (mslots (passed_in ms))) (BlockStands app σ τ st.look m b s ms p es n made rs ls) ls (λ c g. quiet_in m _ _ _ (slot n ∷ p) 0 c.body ls g.3) h.1
    quiet m b s ms p _ _ h = absurd h

    pub quiet_in : (m b : ℕ) (s : Scope) (ms : MScope) (p : Path) (i : ℕ) (c : t.Body) (ls : Lives) → StandIn app σ τ st.look m b s ms p i c ls → NoneStaleIn (begin st) ls
    quiet_in m b s ms p i t.end Live.no_lives h = tt
    quiet_in m b s ms p i (t.stmt x c) (Live.live_and l ls) h = (quiet m b s ms (at i ∷ p) x l h.0, quiet_in m b s ms p (suc i) c ls h.1)
    quiet_in m b s ms p i _ _ h = absurd h

    quiet_items : (m b : ℕ) (s : Scope) (ms : MScope) (p : Path) (ns : List Text) (c : t.Body) (xs : List Entry) (is : Items) → ItemsStand app σ τ st.look m b s ms p ns c xs is → NoneStaleItems (begin st) is
    quiet_items m b s ms p ns c [] Live.no_items h = tt
    quiet_items m b s ms p ns c (x ∷ xs) (Live.item_live z o ls is) h = (quiet_in m _ _ _ (item x.key x.occurrence ∷ p) 0 c ls h.4, quiet_items m b s ms p ns c xs is h.5)
    quiet_items m b s ms p ns c _ _ h = absurd h
