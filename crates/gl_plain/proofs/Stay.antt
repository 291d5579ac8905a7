-- What stands, stands while the things that are its own stay.
use Rattle.std.proofs.Common.{◌≡◌, ℕ, zero, suc, ◌+◌, ◌<◌, true, false, List, [], ◌∷◌, Option, Some, None, refl, sym, ◌∙◌, subst, arith, ◌++◌}
use Rattle.gl_base.specs.Texts.{Text}
use Rattle.gl_value.specs.Value.{Values, no_values, value}
use Rattle.gl_ast.specs.Template as t
use Rattle.gl_meaning.specs.App.{App}
use Rattle.gl_meaning.specs.Path.{at, main, otherwise, items, item, into, slot, Path}
use Rattle.gl_meaning.specs.Scope.{Pair, Scope}
use Rattle.gl_meaning.specs.Eval.{Store, class_at}
use Rattle.gl_meaning.specs.Parts.{WrittenValue, WrittenModifier}
use Rattle.gl_meaning.specs.Render.{Entry, Block, block_named}
use Rattle.gl_plain.specs.Ids.{a_modifier, Id, ref, node, block_id, instance_id, occurs}
use Rattle.gl_plain.specs.State.{MScope, Thing, mslots, passed_in, Inst}
use Rattle.gl_plain.specs.Binding.{Spot}
use Rattle.gl_plain.specs.Live
use Rattle.gl_plain.specs.Live.{Live, Lives, Items, AttrSpot, ModSpot, ItemSpot, item_made, times, times_in, times_items, times_attrs, times_mods, times_comment}
use Rattle.gl_plain.specs.Stands.{Gives, SpottedIn, Spotted, SpotThing, AttrsStand, ModsStand, CommentStands, CellsStand, ItemStands, WhereValues, WhereBlock, Stands, StandIn, ItemsStand, BlockStands, ListStands, ElseStands, attrs_by, mods_by, tail_of}
use Rattle.gl_plain.proofs.Moves.{hit_self, occurs_append}
use Rattle.gl_plain.proofs.Pairs.{obeys_less}

pub left_above : (m n : ℕ) → 0 < m → 0 < m + n
left_above m n h = omega (arith, h)

pub right_above : (m n : ℕ) → 0 < n → 0 < m + n
right_above m n h = omega (arith, h)

abbrev pub Same : (Id → Option Thing) → (Id → Option Thing) → (Id → ℕ) → Type 0
Same look look' count = (q : Id) → 0 < count q → look' q ≡ look q

module _ (app : App) (look look' : Id → Option Thing) where
  pub gives_stays : {A : Type 0} (made : List Id) (ms : MScope) (g : (ℕ → Pair) → A) (E : Store → (ℕ → Pair) → A) → Same look look' (λ q. occurs q made)
      → Gives app look made ms g E → Gives app look' made ms g E
  gives_stays made ms g E same h = λ f τ ob c. h f τ (obeys_less look look' made made f (λ q w. (w, same (ref q) w)) ob) c

  both_same : (more made : List Id) → Same look look' (λ q. occurs q more) → Same look look' (λ q. occurs q made) → Same look look' (λ q. occurs q (more ++ made))
  both_same more made f g q w = by (occurs q more) refl where
    by : (n : ℕ) → occurs q more ≡ n → look' q ≡ look q
    by zero e = g q (let k = occurs_append q more made in omega (arith, e, k, w))
    by (suc n) e = f q (omega (arith, e))

  pub spot_stays_in : (ms : MScope) (more : List Id) (z : Spot) (E : Store → (ℕ → Pair) → List Pair) (ps : List Pair) → Same look look' (λ q. occurs q more) → Same look look' (λ q. occurs q z.made)
      → SpottedIn app look ms more z E ps → SpottedIn app look' ms more z E ps
  spot_stays_in ms more z E ps others same h =
      record {
        own = h.own;
        is = subst (SpotThing app look' ms (more ++ z.made) E ps) (sym (same (ref z.ref) h.own)) (h.is.0, gives_stays (more ++ z.made) ms _ E (both_same more z.made others same) h.is.1);
      }

  pub spot_stays : (ms : MScope) (z : Spot) (E : Store → (ℕ → Pair) → List Pair) (ps : List Pair) → Same look look' (λ q. occurs q z.made)
      → Spotted app look ms z E ps → Spotted app look' ms z E ps
  spot_stays ms z E ps same h = spot_stays_in ms [] z E ps (λ q w. absurd (omega (arith, w))) same h

  module _ (σ τ : Store) where
    pub attrs_stay : (made : List Id) (s : Scope) (ms : MScope) (ws : Scope → List (WrittenValue Scope)) (ns : List Text) (xs : List AttrSpot) → Same look look' (λ q. occurs q made) → Same look look' (λ q. times_attrs q xs)
        → AttrsStand app σ τ look made s ms ws ns xs → AttrsStand app σ τ look' made s ms ws ns xs
    attrs_stay made s ms ws [] [] others same h = tt
    attrs_stay made s ms ws (n ∷ ns) (a ∷ xs) others same h =
        (h.0, spot_stays_in ms made a.spot _ _ others (λ q w. same q (left_above _ _ w)) h.1, attrs_stay made s ms ws ns xs others (λ q w. same q (right_above _ _ w)) h.2)
    attrs_stay made s ms ws _ _ others same h = absurd h

    pub mods_stay : (made : List Id) (n : ℕ) (s : Scope) (ms : MScope) (ws : Scope → List (WrittenModifier Scope)) (i : ℕ) (ds : List (WrittenModifier Scope)) (zs : List ModSpot) → Same look look' (λ q. occurs q made) → Same look look' (λ q. times_mods q zs)
        → ModsStand app σ τ look made n s ms ws i ds zs → ModsStand app σ τ look' made n s ms ws i ds zs
    mods_stay made n s ms ws i [] [] others same h = tt
    mods_stay made n s ms ws i (d ∷ ds) (z ∷ zs) others same h = (
      same (record { kind = a_modifier; num = z.id }) (left_above _ _ (left_above _ _ (hit_self _))) ∙ h.0,
      h.1,
      h.2,
      spot_stays_in ms made z.spot _ _ others (λ q w. same q (left_above _ _ (right_above _ _ w))) h.3,
      mods_stay made n s ms (λ s'. tail_of (ws s')) (suc i) ds zs others (λ q w. same q (right_above _ _ w)) h.4,
    )
    mods_stay made n s ms ws i _ _ others same h = absurd h

    pub comment_stays : (o : Option ℕ) (ls : Lives) → Same look look' (λ q. times_comment q o) → CommentStands app σ τ look o ls → CommentStands app σ τ look' o ls
    comment_stays None ls same h = h
    comment_stays (Some n) ls same h = (h.0, same (node n) (hit_self (node n)) ∙ h.1)

    pub cells_stay : (i : Inst) (made : List Id) → Same look look' (λ q. occurs q made) → CellsStand app σ τ look i made → CellsStand app σ τ look' i made
    cells_stay i made same h = λ x e. let k = h x e in (k.0, same _ k.0 ∙ k.1)

    pub item_stays : (q : Path) (ms : MScope) (ns : List Text) (x : Entry) (z : ItemSpot) → Same look look' (λ r. occurs r (item_made z)) → ItemStands app σ τ look q ms ns x z → ItemStands app σ τ look' q ms ns x z
    item_stays q ms ns x z same h = (
      h.0,
      h.1,
      same (ref z.value) (left_above _ _ (hit_self _)) ∙ h.2,
      same (ref z.index) (right_above _ _ (left_above _ _ (hit_self _))) ∙ h.3,
      gives_stays z.more ms _ _ (λ r w. same r (right_above _ _ (right_above _ _ w))) h.4,
    )

    by_values : (vs : Values Path) (P P' : Values Path → Type 0) (Q Q' : Type 0) → ((v : Values Path) → P v → P' v) → (Q → Q') → WhereValues vs P Q → WhereValues vs P' Q'
    by_values no_values P P' Q Q' f g h = g h
    by_values (value v vs) P P' Q Q' f g h = f (value v vs) h

    by_block : (o : Option Block) (P P' : Block → Type 0) (Q : Type 0) → ((b : Block) → P b → P' b) → WhereBlock o P Q → WhereBlock o P' Q
    by_block None P P' Q f h = h
    by_block (Some b) P P' Q f h = f b h

    mutual
      pub stay : (m b : ℕ) (s : Scope) (ms : MScope) (p : Path) (x : t.Stmt) (l : Live) → Same look look' (λ q. times q l)
          → Stands app σ τ look m b s ms p x l → Stands app σ τ look' m b s ms p x l
      stay m b s ms p (t.text_stmt z) (Live.still n) same h = same (node n) (hit_self (node n)) ∙ h
      stay m b s ms p (t.comment_stmt z) (Live.still n) same h = same (node n) (hit_self (node n)) ∙ h
      stay m b s ms p (t.put e) (Live.put_live n z) same h =
          (same (node n) (left_above _ _ (hit_self (node n))) ∙ h.0, spot_stays ms z _ _ (λ q w. same q (right_above _ _ w)) h.1)
      stay m b s ms p (t.element tag ps c) (Live.element_live n made xs zs ls) same h = (
        same (node n) (left_above _ _ (left_above _ _ (hit_self (node n)))) ∙ h.0,
        attrs_stay made s ms (attrs_by ps) _ xs (λ q w. same q (left_above _ _ (right_above _ _ (left_above _ _ w)))) (λ q w. same q (left_above _ _ (right_above _ _ (right_above _ _ w)))) h.1,
        mods_stay made n s ms (mods_by ps) 0 _ zs (λ q w. same q (left_above _ _ (right_above _ _ (left_above _ _ w)))) (λ q w. same q (right_above _ _ (right_above _ _ w))) h.2,
        stay_in m b s ms p 0 c ls (λ q w. same q (right_above _ _ (left_above _ _ w))) h.3,
      )
      stay m b s ms p (t.if_stmt e u c d) (Live.branch_live z true k ls) same h = (
        spot_stays ms z _ _ (λ q w. same q (left_above _ _ w)) h.0,
        h.1,
        comment_stays k ls (λ q w. same q (right_above _ _ (right_above _ _ w))) h.2,
        stay_in m b s ms (main ∷ p) 0 c ls (λ q w. same q (right_above _ _ (left_above _ _ w))) h.3,
      )
      stay m b s ms p (t.if_stmt e u c d) (Live.branch_live z false k ls) same h = (
        spot_stays ms z _ _ (λ q w. same q (left_above _ _ w)) h.0,
        h.1,
        comment_stays k ls (λ q w. same q (right_above _ _ (right_above _ _ w))) h.2,
        stay_in m b s ms (otherwise ∷ p) 0 d ls (λ q w. same q (right_above _ _ (left_above _ _ w))) h.3,
      )
      stay m b s ms p (t.each e k ns c d) (Live.listed z is) same h = (
        spot_stays ms z _ _ (λ q w. same q (left_above _ _ w)) h.0,
        by_values _ (ListStands app σ τ look m b s ms p k ns c is) (ListStands app σ τ look' m b s ms p k ns c is) ⊥ ⊥ (λ vs g. stay_items m b s ms (items ∷ p) ns c _ is (λ q w. same q (right_above _ _ w)) g) (λ g. g) h.1,
      )
      stay m b s ms p (t.each e k ns c d) (Live.unlisted z o ls) same h = (
        spot_stays ms z _ _ (λ q w. same q (left_above _ _ w)) h.0,
        by_values _ (λ vs. ⊥) (λ vs. ⊥) (ElseStands app σ τ look m b s ms p d o ls) (ElseStands app σ τ look' m b s ms p d o ls) (λ vs g. g)
            (λ g. (comment_stays o ls (λ q w. same q (right_above _ _ (right_above _ _ w))) g.0, stay_in m b s ms (otherwise ∷ p) 0 d ls (λ q w. same q (right_above _ _ (left_above _ _ w))) g.1)) h.1,
      )
      stay m b s ms p (t.let_stmt es ns c) (Live.let_live made names ls) same h = (
        gives_stays made ms _ _ (λ q w. same q (left_above _ _ w)) h.0,
        h.1,
        h.2,
        stay_in m _ _ _ (main ∷ p) 0 c ls (λ q w. same q (right_above _ _ w)) h.3,
      )
      stay (suc m) b s ms p (t.component_stmt c ps given bs) (Live.component_live i made gm args (Some k) ls) same h = (
        (h.0.0, same (block_id k) (left_above _ _ (h.3.0 (block_id k) h.0.0)) ∙ h.0.1),
        (h.1.0, same (instance_id i.id) (left_above _ _ h.1.0) ∙ h.1.1),
        h.2,
        (h.3.0, h.3.1, gives_stays gm ms _ _ (λ q w. same q (left_above _ _ (h.3.0 q w))) h.3.2),
        cells_stay i made (λ q w. same q (left_above _ _ w)) h.4,
        h.5,
        h.6,
        stay_in m _ _ _ (into c ∷ p) 0 (class_at app (into c ∷ p)).template ls (λ q w. same q (right_above _ _ w)) h.7,
      )
      stay zero b s ms p (t.component_stmt c ps given bs) (Live.deep_live q) same h = h
      stay m b s ms p (t.yield es n) (Live.yield_live k made names ls) same h = (
        h.0,
        by_block (block_named n (mslots (passed_in ms))) (BlockStands app σ τ look m b s ms p es n made names ls) (BlockStands app σ τ look' m b s ms p es n made names ls) (ls ≡ Live.no_lives)
            (λ c g. (gives_stays made ms _ _ (λ q w. same q (left_above _ _ w)) g.0, g.1, g.2, stay_in m _ _ _ (slot n ∷ p) 0 c.body ls (λ q w. same q (right_above _ _ w)) g.3)) h.1,
      )
      stay m b s ms p _ _ same h = absurd h

      pub stay_in : (m b : ℕ) (s : Scope) (ms : MScope) (p : Path) (i : ℕ) (c : t.Body) (ls : Lives) → Same look look' (λ q. times_in q ls)
          → StandIn app σ τ look m b s ms p i c ls → StandIn app σ τ look' m b s ms p i c ls
      stay_in m b s ms p i t.end Live.no_lives same h = tt
      stay_in m b s ms p i (t.stmt x c) (Live.live_and l ls) same h =
          (stay m b s ms (at i ∷ p) x l (λ q w. same q (left_above _ _ w)) h.0, stay_in m b s ms p (suc i) c ls (λ q w. same q (right_above _ _ w)) h.1)
      stay_in m b s ms p i _ _ same h = absurd h

      pub stay_items : (m b : ℕ) (s : Scope) (ms : MScope) (p : Path) (ns : List Text) (c : t.Body) (xs : List Entry) (is : Items) → Same look look' (λ q. times_items q is)
          → ItemsStand app σ τ look m b s ms p ns c xs is → ItemsStand app σ τ look' m b s ms p ns c xs is
      stay_items m b s ms p ns c [] Live.no_items same h = tt
      stay_items m b s ms p ns c (x ∷ xs) (Live.item_live z o ls is) same h = (
        item_stays (item x.key x.occurrence ∷ p) ms ns x z (λ q w. same q (left_above _ _ (left_above _ _ w))) h.0,
        h.1,
        h.2,
        comment_stays o ls (λ q w. same q (left_above _ _ (right_above _ _ (right_above _ _ w)))) h.3,
        stay_in m _ _ _ (item x.key x.occurrence ∷ p) 0 c ls (λ q w. same q (left_above _ _ (right_above _ _ (left_above _ _ w)))) h.4,
        stay_items m b s ms p ns c xs is (λ q w. same q (right_above _ _ w)) h.5,
      )
      stay_items m b s ms p ns c _ _ same h = absurd h
