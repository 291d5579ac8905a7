-- What isn't touched is as it was: the laws on two turns in terms of `touched`.
use Rattle.gl_meaning.specs.Laws.{In, IsUntouched, KeepsAll, NoRepeat, Untouched}
use Rattle.gl_meaning.specs.Known.{Among}
use Rattle.std.proofs.Common.{map, ◌≡◌, ℕ, List, [], ◌∷◌, Bool, true, false, true≢false, Some, refl, sym, ap, ap₂, ◌∙◌, subst, inl, inr}
use Rattle.std.specs.Prelude.{if◌then◌else◌, ◌&&◌, ◌||◌, not, unwrap_or}
use Rattle.std.specs.Bool.{Decides}
use Rattle.std.specs.List.{list_any}
use Rattle.std.specs.Str.{bytes_eq}
use Rattle.gl_base.specs.Names.{named}
use Rattle.gl_meaning.proofs.Equal.{path_means, path_itself, same_means}
use Rattle.gl_meaning.proofs.Pieces.{listed, found_in, any_false, any_true, some_same}
use Rattle.gl_meaning.proofs.Once.{items_once}
use Rattle.gl_base.specs.Texts.{Text}
use Rattle.gl_meaning.specs.App.{App}
use Rattle.gl_meaning.proofs.Alike
use Rattle.gl_meaning.proofs.Frame
use Rattle.gl_meaning.specs.Actions
use Rattle.gl_meaning.specs.Changes
use Rattle.gl_meaning.specs.Eval
use Rattle.gl_meaning.specs.Path
use Rattle.gl_meaning.specs.Render
use Rattle.gl_meaning.specs.Scope
use Rattle.gl_value.specs.Value

path-Decides : (i j : Path.Path) → Decides (Path.path_eq i j) (i ≡ j)
path-Decides i j = (path_means i j, λ q. subst (λ z. Path.path_eq i z ≡ true) q (path_itself i))

among-path : (i : Changes.Item) (xs : List Changes.Item) → Among i xs → Among i.path (map (λ x. x.path) xs)
among-path i [] m = absurd m
among-path i (x ∷ xs) (inl q) = inl (ap (λ z. z.path) q)
among-path i (x ∷ xs) (inr m) = inr (among-path i xs m)

first-found : (i : Changes.Item) (xs : List Changes.Item) → NoRepeat (map (λ x. x.path) xs) → Among i xs → Changes.item_of i.path xs ≡ Some i
first-found i [] d m = absurd m
first-found i (x ∷ xs) d m = chosen (Path.path_eq i.path x.path) refl m (first-found i xs d.1) where
  chosen : (b : Bool) → Path.path_eq i.path x.path ≡ b → Among i (x ∷ xs) → (Among i xs → Changes.item_of i.path xs ≡ Some i) → (if b then Some x else Changes.item_of i.path xs) ≡ Some i
  chosen true q (inl n) g = ap Some (sym n)
  chosen true q (inr n) g = absurd (d.0 (subst (λ z. Among z (map (λ x. x.path) xs)) (path_means i.path x.path q) (among-path i xs n)))
  chosen false q (inl n) g = absurd (true≢false (sym (path_itself i.path) ∙ (ap (λ z. Path.path_eq i.path z.path) n ∙ q)))
  chosen false q (inr n) g = g n

abbrev ItemsOnce : Render.Forest → Type 0
ItemsOnce f = NoRepeat (map (λ x. x.path) (Changes.rendered_items f))

found : (f : Render.Forest) → ItemsOnce f → (x : Render.Piece) (i : Changes.Item) → Changes.item_in x ≡ Some i → In x f → Changes.item_of i.path (Changes.rendered_items f) ≡ Some i
found f h x i q m = first-found i (Changes.rendered_items f) h (listed Changes.item_in i x q f m)

not-false : (b : Bool) → not b ≡ false → b ≡ true
not-false true q = refl
not-false false q = absurd (true≢false q)

module _ (old new : Render.Forest) (sets : Changes.Sets) (h : ItemsOnce old) (k : ItemsOnce new) where
  two-items : (i j : Path.Path) (w y : Path.V) (n m : ℕ) (f g : Render.Forest) → In (Render.item_region i w n f) old → In (Render.item_region j y m g) new → i ≡ j → (IsUntouched old new sets (Scope.item_value i) → w ≡ y) × (IsUntouched old new sets (Scope.item_index i) → Alike.SameIndex n m)
  two-items i j w y n m f g a b q =
      let x : Changes.Item = record { path = i; value = w; index = n } in let z : Changes.Item = record { path = j; value = y; index = m } in
      let fx = found old h (Render.item_region i w n f) x refl a in let fz = subst (λ o. Changes.item_of o (Changes.rendered_items new) ≡ Some z) (sym q) (found new k (Render.item_region j y m g) z refl b) in (
        (λ u. same_means Path.Path Path.path_eq path-Decides w y (not-false _ (sym (ap₂ (Changes.both_differ (λ a b. Value.same Path.path_eq a.value b.value)) fx fz) ∙ u))),
        (λ u. same_means Path.Path Path.path_eq path-Decides (Value.count_value n) (Value.count_value m) (not-false _ (sym (ap₂ (Changes.both_differ (λ a b. Value.same Path.path_eq (Value.count_value a.index) (Value.count_value b.index))) fx fz) ∙ u))),
      )

  items-keep : Alike.EachPair (Alike.ItemsKeep (IsUntouched old new sets)) old new
  items-keep = Alike.items_keep_by (IsUntouched old new sets) old new two-items

-- a cell that no set names holds what it held
or-left : (b d : Bool) → (b || d) ≡ false → b ≡ false
or-left false d q = refl
or-left true d q = q

or-right : (b d : Bool) → (b || d) ≡ false → d ≡ false
or-right false d q = q
or-right true d q = absurd (true≢false q)

held-laid : (i : Path.Path) (x : Text) (sets : Changes.Sets) (σ : Eval.Store) → Changes.is_set sets i x ≡ false → Eval.held_at i x (Actions.lay sets σ) ≡ Eval.held_at i x σ
held-laid i x [] σ q = refl
held-laid i x (h ∷ hs) σ q =
    let test = Path.path_eq i h.instance && bytes_eq x h.field in
    held-laid i x hs (h ∷ σ) (or-right test (Changes.is_set hs i x) q) ∙ ap (λ b. if b then Some h.value else Eval.held_at i x σ) (or-left test (Changes.is_set hs i x) q)

pub cells_kept : (app : App) (σ : Eval.Store) (sets : Changes.Sets) (i : Path.Path) (x : Text) → Changes.is_set sets i x ≡ false → Eval.cell_value app σ i x ≡ Eval.cell_value app (Actions.lay sets σ) i x
cells_kept app σ sets i x u = ap (λ h. unwrap_or h (Value.plain (unwrap_or (named x (Eval.class_at app i).fields) Value.undefined))) (sym (held-laid i x sets σ u))

pub items_kept : (app : App) (σ : Eval.Store) (sets : Changes.Sets) → let old = Render.draw app σ in let new = Render.draw app (Actions.lay sets σ) in Alike.EachPair (Alike.ItemsKeep (IsUntouched old new sets)) old new
items_kept app σ sets = items-keep (Render.draw app σ) (Render.draw app (Actions.lay sets σ)) sets (items_once app σ) (items_once app (Actions.lay sets σ))

-- Two renderings of consecutive turns: at equal paths nodes are of one kind, and a position that read nothing touched has its Pairs still.
pub frame : (app : App) (σ : Eval.Store) (sets : Changes.Sets) → let old = Render.draw app σ in let new = Render.draw app (Actions.lay sets σ) in Alike.EachPair (Alike.Related (IsUntouched old new sets)) old new
frame app σ sets =
    let old = Render.draw app σ in let new = Render.draw app (Actions.lay sets σ) in
    Alike.draw_alike (IsUntouched old new sets) app σ (Actions.lay sets σ) (cells_kept app σ sets) (items_kept app σ sets)

position-some : (x : Render.Piece) (q : Changes.Position) → Changes.position_in x ≡ Some q → x ≡ Render.position q.path q.pairs
position-some (Render.position i vs) q o = ap (λ z. Render.position z.path z.pairs) (some_same (record { path = i; pairs = vs }) q o)
position-some (Render.element_node i n b m f) q o = absurd cc
position-some (Render.text_node i z) q o = absurd cc
position-some (Render.comment_node i z) q o = absurd cc
position-some (Render.component i w f) q o = absurd cc
position-some (Render.branch i f) q o = absurd cc
position-some (Render.item_region i v n f) q o = absurd cc
position-some (Render.too_deep i) q o = absurd cc

in-position : (f : Render.Forest) (q : Changes.Position) → Among q (Changes.positions f) → In (Render.position q.path q.pairs) f
in-position f q m = let x = found_in Changes.position_in q f m in subst (λ z. In z f) (position-some x.0 q x.2) x.1

pub untouched_is_kept : (app : App) (σ : Eval.Store) (sets : Changes.Sets) → let old = Render.draw app σ in let new = Render.draw app (Actions.lay sets σ) in
    (q r : Changes.Position) → Among q (Changes.positions old) → Among r (Changes.positions new) → q.path ≡ r.path → KeepsAll (IsUntouched old new sets) q.pairs r.pairs
untouched_is_kept app σ sets q r m n o =
    let old = Render.draw app σ in let new = Render.draw app (Actions.lay sets σ) in
    (frame app σ sets (Render.position q.path q.pairs) (Render.position r.path r.pairs) (in-position old q m) (in-position new r n) o).1

all-untouched : (old new : Render.Forest) (sets : Changes.Sets) (xs : List Scope.Source) → list_any (Changes.touched old new sets) xs ≡ false → Untouched (IsUntouched old new sets) xs
all-untouched old new sets [] q = tt
all-untouched old new sets (x ∷ xs) q =
    let rest = list_any (Changes.touched old new sets) xs in
    (or-left (Changes.touched old new sets x) rest q, all-untouched old new sets xs (or-right (Changes.touched old new sets x) rest q))

and-false : (a b : Bool) → (a && b) ≡ false → b ≡ true → a ≡ false
and-false true b q o = absurd (true≢false (sym o ∙ q))
and-false false b q o = refl

-- a position that isn't stale read nothing that is touched
not-stale : (old new : Render.Forest) (sets : Changes.Sets) (q r : Changes.Position) → Among q (Changes.positions old) → Among r (Changes.positions new) → q.path ≡ r.path → Changes.stale old new sets q.path ≡ false → Changes.some_touched old new sets q.pairs ≡ false
not-stale old new sets q r m n o h =
    let persists = any_true (λ z. Path.path_eq q.path z.path) r (Changes.positions new) n (ap (Path.path_eq q.path) (sym o) ∙ path_itself q.path) in
    let none = and-false (list_any (λ z. Path.path_eq q.path z.path && Changes.some_touched old new sets z.pairs) (Changes.positions old)) _ h persists in
    let this = any_false (λ z. Path.path_eq q.path z.path && Changes.some_touched old new sets z.pairs) q (Changes.positions old) m none in
    sym (ap (λ b. b && Changes.some_touched old new sets q.pairs) (path_itself q.path)) ∙ this

pub only_stale_changes : (app : App) (σ : Eval.Store) (sets : Changes.Sets) → let old = Render.draw app σ in let new = Render.draw app (Actions.lay sets σ) in
    (q r : Changes.Position) → Among q (Changes.positions old) → Among r (Changes.positions new) → q.path ≡ r.path → Changes.stale old new sets q.path ≡ false → q.pairs ≡ r.pairs
only_stale_changes app σ sets q r m n o h =
    let old = Render.draw app σ in let new = Render.draw app (Actions.lay sets σ) in
    Frame.keeps_list (IsUntouched old new sets) (untouched_is_kept app σ sets q r m n o) (all-untouched old new sets (Scope.sources_of q.pairs) (not-stale old new sets q r m n o h))
