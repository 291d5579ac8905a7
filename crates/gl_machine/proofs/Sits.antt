-- What a tree that stands has besides: each position and each instance is among what was made for it, each instance is at the place of its
-- component, and the items of one list differ.
use Rattle.std.proofs.Common.{◌≡◌, ◌<◌, ℕ, zero, suc, List, [], ◌∷◌, true, false, Option, Some, None, sym, ap, ap₂, ◌∙◌, subst, arith}
use Rattle.gl_base.specs.Texts.{Text}
use Rattle.gl_value.specs.Value.{Values, no_values, value, undefined}
use Rattle.gl_ast.specs.Template as t
use Rattle.gl_meaning.specs.App.{App}
use Rattle.gl_meaning.specs.Path.{PathStep, at, main, otherwise, items, item, into, slot, Path}
use Rattle.gl_meaning.specs.Scope.{Scope}
use Rattle.gl_meaning.specs.Eval.{Store, class_at}
use Rattle.gl_meaning.specs.Parts.{WrittenValue, WrittenModifier}
use Rattle.gl_meaning.specs.Render.{Entry, Block, block_named}
use Rattle.gl_meaning.proofs.Once.{Later, Distinct, distinct}
use Rattle.gl_plain.specs.Ids.{Id, ref, instance_id, occurs}
use Rattle.gl_plain.specs.State.{MScope, passed_in, mslots, Thing, State}
use Rattle.gl_plain.specs.Binding.{Spot}
use Rattle.gl_plain.specs.Live
use Rattle.gl_plain.specs.Live.{Live, Lives, Items, AttrSpot, ModSpot, ItemSpot}
use Rattle.gl_plain.specs.Stands.{AttrsStand, ModsStand, WhereValues, WhereBlock, Stands, StandIn, ItemsStand, BlockStands, ListStands, ElseStands, attrs_by, mods_by, tail_of}
use Rattle.gl_plain.specs.Machine.{RootStands, StandsFor}

abbrev pub Own : Spot → Type 0
Own z = 0 < occurs (ref z.ref) z.made

abbrev pub AttrsOwn : List AttrSpot → Type 0
AttrsOwn [] = Unit {0}
AttrsOwn (a ∷ xs) = Own a.spot × AttrsOwn xs

abbrev pub ModsOwn : List ModSpot → Type 0
ModsOwn [] = Unit {0}
ModsOwn (z ∷ zs) = Own z.spot × ModsOwn zs

abbrev pub item_key : PathStep → t.Plain
item_key (item k n) = k
item_key _ = undefined

abbrev pub item_number : PathStep → ℕ
item_number (item k n) = n
item_number _ = 0

abbrev pub item_step : ItemSpot → PathStep
item_step z = item z.key z.occurrence

-- no item of these is at the step
abbrev pub NotAt : PathStep → Items → Type 0
NotAt l Live.no_items = Unit {0}
NotAt l (Live.item_live z k ls is) = (l ≡ item_step z → ⊥) × NotAt l is

abbrev mutual
  pub Sits : Path → Live → Type 0
  Sits p (Live.still n) = Unit {0}
  Sits p (Live.put_live n z) = Own z
  Sits p (Live.element_live n made xs zs ls) = AttrsOwn xs × ModsOwn zs × SitsIn p 0 ls
  Sits p (Live.branch_live z true k ls) = Own z × SitsIn (main ∷ p) 0 ls
  Sits p (Live.branch_live z false k ls) = Own z × SitsIn (otherwise ∷ p) 0 ls
  Sits p (Live.listed z is) = Own z × SitsItems (items ∷ p) is
  Sits p (Live.unlisted z k ls) = Own z × SitsIn (otherwise ∷ p) 0 ls
  Sits p (Live.let_live made rs ls) = SitsIn (main ∷ p) 0 ls
  Sits p (Live.component_live i made gm args k ls) = (0 < occurs (instance_id i.id) made) × ((c : Text) × (i.path ≡ into c ∷ p)) × SitsIn i.path 0 ls
  Sits p (Live.yield_live n made rs ls) = SitsIn (slot n ∷ p) 0 ls
  Sits p (Live.deep_live q) = Unit {0}

  pub SitsItems : Path → Items → Type 0
  SitsItems p Live.no_items = Unit {0}
  SitsItems p (Live.item_live z k ls is) = NotAt (item_step z) is × SitsIn (item_step z ∷ p) 0 ls × SitsItems p is

  pub SitsIn : Path → ℕ → Lives → Type 0
  SitsIn p i Live.no_lives = Unit {0}
  SitsIn p i (Live.live_and l ls) = Sits (at i ∷ p) l × SitsIn p (suc i) ls

-- the whole page
abbrev pub RootSits : Live → Type 0
RootSits (Live.component_live i made gm args None ls) = (0 < occurs (instance_id i.id) made) × (i.path ≡ []) × SitsIn i.path 0 ls
RootSits (Live.deep_live q) = Unit {0}
RootSits _ = ⊥

-- the steps of an item and its entry
item_same : (z : ItemSpot) (x : Entry) → z.key ≡ x.key → z.occurrence ≡ x.occurrence → item_step z ≡ item x.key x.occurrence
item_same z x a b = ap₂ item a b

list_sits : (us : Values Path) (P : Values Path → Type 0) (Q : Type 0) → ((us : Values Path) → P us → Q) → WhereValues us P ⊥ → Q
list_sits no_values P Q f h = absurd h
list_sits (value v us) P Q f h = f (value v us) h

else_sits : (us : Values Path) (P Q : Type 0) → (P → Q) → WhereValues us (λ z. ⊥) P → Q
else_sits no_values P Q f h = f h
else_sits (value v us) P Q f h = absurd h

block_sits : (o : Option Block) (P : Block → Type 0) (p : Path) (ls : Lives) → ((c : Block) → P c → SitsIn p 0 ls) → WhereBlock o P (ls ≡ Live.no_lives) → SitsIn p 0 ls
block_sits None P p ls f h = subst (SitsIn p 0) (sym h) tt
block_sits (Some c) P p ls f h = f c h

module _ (app : App) (σ τ : Store) (look : Id → Option Thing) where
  attrs_sit : (made : List Id) (s : Scope) (ms : MScope) (ws : Scope → List (WrittenValue Scope)) (ns : List Text) (xs : List AttrSpot) → AttrsStand app σ τ look made s ms ws ns xs → AttrsOwn xs
  attrs_sit made s ms ws [] [] h = tt
  attrs_sit made s ms ws (n ∷ ns) (a ∷ xs) h = (h.1.own, attrs_sit made s ms ws ns xs h.2)
  attrs_sit made s ms ws _ _ h = absurd h

  mods_sit : (made : List Id) (n : ℕ) (s : Scope) (ms : MScope) (ws : Scope → List (WrittenModifier Scope)) (i : ℕ) (ds : List (WrittenModifier Scope)) (zs : List ModSpot)
      → ModsStand app σ τ look made n s ms ws i ds zs → ModsOwn zs
  mods_sit made n s ms ws i [] [] h = tt
  mods_sit made n s ms ws i (d ∷ ds) (z ∷ zs) h = (h.3.own, mods_sit made n s ms (λ s'. tail_of (ws s')) (suc i) ds zs h.4)
  mods_sit made n s ms ws i _ _ h = absurd h

  -- a later item isn't at the place of an earlier one
  later_sits : (m b : ℕ) (s : Scope) (ms : MScope) (p : Path) (ns : List Text) (c : t.Body) (k : t.Plain) (o : ℕ) (xs : List Entry) (is : Items) → Later k (suc o) xs
      → ItemsStand app σ τ look m b s ms p ns c xs is → (y : ItemSpot) → y.key ≡ k → y.occurrence ≡ o → NotAt (item_step y) is
  later_sits m b s ms p ns c k o [] Live.no_items d h y ek eo = tt
  later_sits m b s ms p ns c k o (x ∷ xs) (Live.item_live z u ls is) d h y ek eo = (
    (λ e.
        let a : x.key ≡ k = sym h.0.0 ∙ (sym (ap item_key e) ∙ ek) in
        let n : x.occurrence ≡ o = sym h.0.1 ∙ (sym (ap item_number e) ∙ eo) in
        let le = d.0 a in absurd (omega (arith, n, le))),
    later_sits m b s ms p ns c k o xs is d.1 h.5 y ek eo,
  )
  later_sits m b s ms p ns c k o _ _ d h y ek eo = absurd h

  mutual
    pub sits : (m b : ℕ) (s : Scope) (ms : MScope) (p : Path) (x : t.Stmt) (l : Live) → Stands app σ τ look m b s ms p x l → Sits p l
    sits m b s ms p (t.text_stmt z) (Live.still n) h = tt
    sits m b s ms p (t.comment_stmt z) (Live.still n) h = tt
    sits m b s ms p (t.put e) (Live.put_live n z) h = h.1.own
    sits m b s ms p (t.element tag ps c) (Live.element_live n made xs zs ls) h =
        (attrs_sit made s ms (attrs_by ps) _ xs h.1, mods_sit made n s ms (mods_by ps) 0 _ zs h.2, sits_in m b s ms p 0 c ls h.3)
    sits m b s ms p (t.if_stmt e u c d) (Live.branch_live z true k ls) h = (h.0.own, sits_in m b s ms (main ∷ p) 0 c ls h.3)
    sits m b s ms p (t.if_stmt e u c d) (Live.branch_live z false k ls) h = (h.0.own, sits_in m b s ms (otherwise ∷ p) 0 d ls h.3)
    sits m b s ms p (t.each e key ns c d) (Live.listed z is) h = (
      h.0.own,
      list_sits _ (ListStands app σ τ look m b s ms p key ns c is) (SitsItems (items ∷ p) is) (λ us g. sits_items m b s ms (items ∷ p) ns c _ is (distinct key 0 [] us) g) h.1,
    )
    sits m b s ms p (t.each e key ns c d) (Live.unlisted z k ls) h =
        (h.0.own, else_sits _ (ElseStands app σ τ look m b s ms p d k ls) (SitsIn (otherwise ∷ p) 0 ls) (λ g. sits_in m b s ms (otherwise ∷ p) 0 d ls g.1) h.1)
    sits m b s ms p (t.let_stmt es ns c) (Live.let_live made rs ls) h = sits_in m _ _ _ (main ∷ p) 0 c ls h.3
    sits (suc m) b s ms p (t.component_stmt c ps given bs) (Live.component_live i made gm args (Some k) ls) h =
        (h.1.0, (c, h.2), subst (λ q. SitsIn q 0 ls) (sym h.2) (sits_in m _ _ _ (into c ∷ p) 0 (class_at app (into c ∷ p)).template ls h.7))
    sits zero b s ms p (t.component_stmt c ps given bs) (Live.deep_live q) h = tt
    sits m b s ms p (t.yield es n) (Live.yield_live k made rs ls) h =
        subst (λ j. SitsIn (slot j ∷ p) 0 ls) (sym h.0)
        (block_sits (block_named n (mslots (passed_in ms))) (BlockStands app σ τ look m b s ms p es n made rs ls) (slot n ∷ p) ls (λ c g. sits_in m _ _ _ (slot n ∷ p) 0 c.body ls g.3) h.1)
    sits m b s ms p _ _ h = absurd h

    pub sits_in : (m b : ℕ) (s : Scope) (ms : MScope) (p : Path) (i : ℕ) (c : t.Body) (ls : Lives) → StandIn app σ τ look m b s ms p i c ls → SitsIn p i ls
    sits_in m b s ms p i t.end Live.no_lives h = tt
    sits_in m b s ms p i (t.stmt x c) (Live.live_and l ls) h = (sits m b s ms (at i ∷ p) x l h.0, sits_in m b s ms p (suc i) c ls h.1)
    sits_in m b s ms p i _ _ h = absurd h

    sits_items : (m b : ℕ) (s : Scope) (ms : MScope) (p : Path) (ns : List Text) (c : t.Body) (xs : List Entry) (is : Items) → Distinct xs → ItemsStand app σ τ look m b s ms p ns c xs is → SitsItems p is
    sits_items m b s ms p ns c [] Live.no_items d h = tt
    sits_items m b s ms p ns c (x ∷ xs) (Live.item_live z o ls is) d h = (
      later_sits m b s ms p ns c x.key x.occurrence xs is d.0 h.5 z h.0.0 h.0.1,
      subst (λ l. SitsIn (l ∷ p) 0 ls) (sym (item_same z x h.0.0 h.0.1)) (sits_in m _ _ _ (item x.key x.occurrence ∷ p) 0 c ls h.4),
      sits_items m b s ms p ns c xs is d.1 h.5,
    )
    sits_items m b s ms p ns c _ _ d h = absurd h

  root_sits : (m : ℕ) (l : Live) → RootStands app σ τ look m l → RootSits l
  root_sits (suc m) (Live.component_live i made gm args None ls) h =
      (h.0.0, h.1, subst (λ q. SitsIn q 0 ls) (sym h.1) (sits_in m _ _ _ [] 0 (class_at app []).template ls h.5))
  root_sits zero (Live.deep_live q) h = tt
  root_sits _ _ h = absurd h

pub page_sits : (app : App) (σ τ : Store) (st : State) (l : Live) → StandsFor app σ τ st l → RootSits l
page_sits app σ τ st l h = root_sits app σ τ st.look app.limit l h.stands
