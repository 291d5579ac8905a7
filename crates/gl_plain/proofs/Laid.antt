-- What stands, stands after sets: the cells hold what the store now has, and all else is as it was.
use Rattle.std.proofs.Common.{◌≡◌, ℕ, zero, suc, true, false, List, [], ◌∷◌, Option, Some, None, ◌∙◌}
use Rattle.gl_base.specs.Texts.{Text}
use Rattle.gl_value.specs.Value.{Values, no_values, value}
use Rattle.gl_ast.specs.Template as t
use Rattle.gl_meaning.specs.App.{App}
use Rattle.gl_meaning.specs.Path.{at, main, otherwise, items, item, into, slot, Path}
use Rattle.gl_meaning.specs.Scope.{Scope}
use Rattle.gl_meaning.specs.Eval.{Store, class_at}
use Rattle.gl_meaning.specs.Render.{Entry, Block, block_named}
use Rattle.gl_plain.specs.Ids.{Id, node, block_id, instance_id}
use Rattle.gl_plain.specs.State.{MScope, Thing, mslots, passed_in}
use Rattle.gl_plain.specs.Live
use Rattle.gl_plain.specs.Live.{Live, Lives, Items, AttrSpot, ModSpot, ItemSpot, item_made, times, times_in, times_items, times_attrs, times_mods, times_comment}
use Rattle.gl_plain.specs.Stands.{WhereValues, WhereBlock, Stands, StandIn, ItemsStand, BlockStands, ListStands, ElseStands, attrs_by, mods_by}
use Rattle.gl_plain.proofs.Moves.{hit_self}
use Rattle.gl_plain.specs.Laid.{rest, rest_in, rest_items, CellsHold, CellsHoldItems, CellsHoldIn}
use Rattle.gl_plain.proofs.Stay.{Same, left_above, right_above, gives_stays, spot_stays, attrs_stay, mods_stay, comment_stays, item_stays}

module _ (app : App) (look look' : Id → Option Thing) (σ τ τ' : Store) where
  by_values : (vs : Values Path) (P P' : Values Path → Type 0) (Q Q' : Type 0) → ((v : Values Path) → P v → P' v) → (Q → Q') → WhereValues vs P Q → WhereValues vs P' Q'
  by_values no_values P P' Q Q' f g h = g h
  by_values (value v vs) P P' Q Q' f g h = f (value v vs) h

  by_block : (o : Option Block) (P P' : Block → Type 0) (Q : Type 0) → ((b : Block) → P b → P' b) → WhereBlock o P Q → WhereBlock o P' Q
  by_block None P P' Q f h = h
  by_block (Some b) P P' Q f h = f b h

  mutual
    pub laid : (m b : ℕ) (s : Scope) (ms : MScope) (p : Path) (x : t.Stmt) (l : Live) → Same look look' (λ q. rest q l) → CellsHold app τ' look' l
        → Stands app σ τ look m b s ms p x l → Stands app σ τ' look' m b s ms p x l
    laid m b s ms p (t.text_stmt z) (Live.still n) same cs h = same (node n) (hit_self (node n)) ∙ h
    laid m b s ms p (t.comment_stmt z) (Live.still n) same cs h = same (node n) (hit_self (node n)) ∙ h
    laid m b s ms p (t.put e) (Live.put_live n z) same cs h =
        (same (node n) (left_above _ _ (hit_self (node n))) ∙ h.0, spot_stays app look look' ms z _ _ (λ q w. same q (right_above _ _ w)) h.1)
    laid m b s ms p (t.element tag ps c) (Live.element_live n made xs zs ls) same cs h = (
      same (node n) (left_above _ _ (left_above _ _ (hit_self (node n)))) ∙ h.0,
      attrs_stay app look look' σ τ made s ms (attrs_by ps) _ xs (λ q w. same q (left_above _ _ (right_above _ _ (left_above _ _ w)))) (λ q w. same q (left_above _ _ (right_above _ _ (right_above _ _ w)))) h.1,
      mods_stay app look look' σ τ made n s ms (mods_by ps) 0 _ zs (λ q w. same q (left_above _ _ (right_above _ _ (left_above _ _ w)))) (λ q w. same q (right_above _ _ (right_above _ _ w))) h.2,
      laid_in m b s ms p 0 c ls (λ q w. same q (right_above _ _ (left_above _ _ w))) cs h.3,
    )
    laid m b s ms p (t.if_stmt e u c d) (Live.branch_live z true k ls) same cs h = (
      spot_stays app look look' ms z _ _ (λ q w. same q (left_above _ _ w)) h.0,
      h.1,
      comment_stays app look look' σ τ k ls (λ q w. same q (right_above _ _ (right_above _ _ w))) h.2,
      laid_in m b s ms (main ∷ p) 0 c ls (λ q w. same q (right_above _ _ (left_above _ _ w))) cs h.3,
    )
    laid m b s ms p (t.if_stmt e u c d) (Live.branch_live z false k ls) same cs h = (
      spot_stays app look look' ms z _ _ (λ q w. same q (left_above _ _ w)) h.0,
      h.1,
      comment_stays app look look' σ τ k ls (λ q w. same q (right_above _ _ (right_above _ _ w))) h.2,
      laid_in m b s ms (otherwise ∷ p) 0 d ls (λ q w. same q (right_above _ _ (left_above _ _ w))) cs h.3,
    )
    laid m b s ms p (t.each e k ns c d) (Live.listed z is) same cs h = (
      spot_stays app look look' ms z _ _ (λ q w. same q (left_above _ _ w)) h.0,
      by_values _ (ListStands app σ τ look m b s ms p k ns c is) (ListStands app σ τ' look' m b s ms p k ns c is) ⊥ ⊥ (λ vs g. laid_items m b s ms (items ∷ p) ns c _ is (λ q w. same q (right_above _ _ w)) cs g) (λ g. g) h.1,
    )
    laid m b s ms p (t.each e k ns c d) (Live.unlisted z o ls) same cs h = (
      spot_stays app look look' ms z _ _ (λ q w. same q (left_above _ _ w)) h.0,
      by_values _ (λ vs. ⊥) (λ vs. ⊥) (ElseStands app σ τ look m b s ms p d o ls) (ElseStands app σ τ' look' m b s ms p d o ls) (λ vs g. g)
          (λ g. (comment_stays app look look' σ τ o ls (λ q w. same q (right_above _ _ (right_above _ _ w))) g.0, laid_in m b s ms (otherwise ∷ p) 0 d ls (λ q w. same q (right_above _ _ (left_above _ _ w))) cs g.1)) h.1,
    )
    laid m b s ms p (t.let_stmt es ns c) (Live.let_live made names ls) same cs h = (
      gives_stays app look look' made ms _ _ (λ q w. same q (left_above _ _ w)) h.0,
      h.1,
      h.2,
      laid_in m _ _ _ (main ∷ p) 0 c ls (λ q w. same q (right_above _ _ w)) cs h.3,
    )
    laid (suc m) b s ms p (t.component_stmt c ps given bs) (Live.component_live i made gm args (Some k) ls) same cs h = (
      (h.0.0, same (block_id k) (left_above _ _ (right_above _ _ h.0.0)) ∙ h.0.1),
      (h.1.0, same (instance_id i.id) (left_above _ _ (left_above _ _ (hit_self _))) ∙ h.1.1),
      h.2,
      (h.3.0, h.3.1, gives_stays app look look' gm ms _ _ (λ q w. same q (left_above _ _ (right_above _ _ w))) h.3.2),
      cs.0,
      h.5,
      h.6,
      laid_in m _ _ _ (into c ∷ p) 0 (class_at app (into c ∷ p)).template ls (λ q w. same q (right_above _ _ w)) cs.1 h.7,
    )
    laid zero b s ms p (t.component_stmt c ps given bs) (Live.deep_live q) same cs h = h
    laid m b s ms p (t.yield es n) (Live.yield_live k made names ls) same cs h = (
      h.0,
      by_block (block_named n (mslots (passed_in ms))) (BlockStands app σ τ look m b s ms p es n made names ls) (BlockStands app σ τ' look' m b s ms p es n made names ls) (ls ≡ Live.no_lives)
          (λ c g. (gives_stays app look look' made ms _ _ (λ q w. same q (left_above _ _ w)) g.0, g.1, g.2, laid_in m _ _ _ (slot n ∷ p) 0 c.body ls (λ q w. same q (right_above _ _ w)) cs g.3)) h.1,
    )
    laid m b s ms p _ _ same cs h = absurd h

    pub laid_in : (m b : ℕ) (s : Scope) (ms : MScope) (p : Path) (i : ℕ) (c : t.Body) (ls : Lives) → Same look look' (λ q. rest_in q ls) → CellsHoldIn app τ' look' ls
        → StandIn app σ τ look m b s ms p i c ls → StandIn app σ τ' look' m b s ms p i c ls
    laid_in m b s ms p i t.end Live.no_lives same cs h = tt
    laid_in m b s ms p i (t.stmt x c) (Live.live_and l ls) same cs h =
        (laid m b s ms (at i ∷ p) x l (λ q w. same q (left_above _ _ w)) cs.0 h.0, laid_in m b s ms p (suc i) c ls (λ q w. same q (right_above _ _ w)) cs.1 h.1)
    laid_in m b s ms p i _ _ same cs h = absurd h

    pub laid_items : (m b : ℕ) (s : Scope) (ms : MScope) (p : Path) (ns : List Text) (c : t.Body) (xs : List Entry) (is : Items) → Same look look' (λ q. rest_items q is) → CellsHoldItems app τ' look' is
        → ItemsStand app σ τ look m b s ms p ns c xs is → ItemsStand app σ τ' look' m b s ms p ns c xs is
    laid_items m b s ms p ns c [] Live.no_items same cs h = tt
    laid_items m b s ms p ns c (x ∷ xs) (Live.item_live z o ls is) same cs h = (
      item_stays app look look' σ τ (item x.key x.occurrence ∷ p) ms ns x z (λ q w. same q (left_above _ _ (left_above _ _ w))) h.0,
      h.1,
      h.2,
      comment_stays app look look' σ τ o ls (λ q w. same q (left_above _ _ (right_above _ _ (right_above _ _ w)))) h.3,
      laid_in m _ _ _ (item x.key x.occurrence ∷ p) 0 c ls (λ q w. same q (left_above _ _ (right_above _ _ (left_above _ _ w)))) cs.0 h.4,
      laid_items m b s ms p ns c xs is (λ q w. same q (right_above _ _ w)) cs.1 h.5,
    )
    laid_items m b s ms p ns c _ _ same cs h = absurd h
