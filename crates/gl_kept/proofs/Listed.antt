-- The items of a rendering stand in its lists, which are entries.
use Rattle.std.proofs.Common.{◌≡◌, ℕ, zero, suc, List, [], ◌∷◌, ◌++◌, map, Bool, true, false, Option, Some, None, refl, ap, ap₂, ◌∙◌, subst}
use Rattle.std.specs.Prelude.{filter, if◌then◌else◌}
use Rattle.gl_base.specs.Texts.{Text}
use Rattle.gl_value.specs.Value.{Values, no_values, value}
use Rattle.gl_ast.specs.Template as t
use Rattle.gl_meaning.specs.App.{App}
use Rattle.gl_meaning.specs.Path.{at, main, otherwise, items, item, into, slot, empty, attribute_at, Path}
use Rattle.gl_meaning.specs.Scope.{Pair, NamedPairs, Scope, scope, Passed, nothing_passed, passed, with_locals, bind}
use Rattle.gl_meaning.specs.Eval.{Store, class_at, eval, eval_all, eval_given, takes_first}
use Rattle.gl_meaning.specs.Parts.{Modifier, Written, written_parts, attributes_in, attrs_from, modifiers_in, modifiers_of, taken_pairs, distinct_names, taken_values, some_live}
use Rattle.gl_meaning.specs.Render.{Piece, element_node, text_node, comment_node, component, branch, item_region, position, too_deep, Forest, no_pieces, piece, single, join, forest_of, has_node, or_comment, attr_positions, modifier_positions, element_of, region_at, Entry, entries, entry_pairs, render_entries, values_listed, items_or_else, Components, Yields, render_stmt, render_body, Block, block_named, in_block, yields_of, components_at, draw}
use Rattle.gl_meaning.specs.Work.{list_path}
use Rattle.gl_each.specs.Moved.{item_at, items_at}
use Rattle.gl_kept.specs.Listed.{direct_items, AreEntries}

-- Each item stands in the branch with its list's path, and what a branch has of items are entries.
abbrev mutual
  pub ListedIn : Option Path → Piece → Type 0
  ListedIn c (element_node p tag a m f) = Listed None f
  ListedIn c (component p s f) = Listed None f
  ListedIn c (branch p f) = Listed (Some p) f × AreEntries p (direct_items f)
  ListedIn c (item_region p v i f) = (c ≡ Some (list_path p)) × Listed None f
  ListedIn c _ = Unit {0}

  pub Listed : Option Path → Forest → Type 0
  Listed c no_pieces = Unit {0}
  Listed c (piece x f) = ListedIn c x × Listed c f

listed_join : (c : Option Path) (f g : Forest) → Listed c f → Listed c g → Listed c (join f g)
listed_join c no_pieces g h k = k
listed_join c (piece x f) g h k = (h.0, listed_join c f g h.1 k)

-- A body, of which no item is one by itself, stands anywhere.
pub record Body (f : Forest) : Type 0 where
  pub listed : (c : Option Path) → Listed c f
  pub none : direct_items f ≡ []

direct_join : (f g : Forest) → direct_items (join f g) ≡ direct_items f ++ direct_items g
direct_join no_pieces g = refl
direct_join (piece x f) g = by x (direct_join f g) where
  by : (x : Piece) → direct_items (join f g) ≡ direct_items f ++ direct_items g → direct_items (piece x (join f g)) ≡ direct_items (piece x f) ++ direct_items g
  by (item_region p v i h) e = ap (λ is. record { path = p; value = v; index = i } ∷ is) e
  by (element_node p tag a m h) e = e
  by (text_node p z) e = e
  by (comment_node p z) e = e
  by (component p s h) e = e
  by (branch p h) e = e
  by (position p vs) e = e
  by (too_deep p) e = e

join_body : (f g : Forest) → Body f → Body g → Body (join f g)
join_body f g h k = record { listed = λ c. listed_join c f g (h.listed c) (k.listed c); none = direct_join f g ∙ ap₂ (λ a b. a ++ b) h.none k.none }

none_body : Body no_pieces
none_body = record { listed = λ c. tt; none = refl }

pub comment_body : (p : Path) (f : Forest) → Body f → Body (or_comment p f)
comment_body p f h = join_body f (if has_node f then no_pieces else single (comment_node (empty ∷ p) [])) h (by (has_node f)) where
  by : (b : Bool) → Body (if b then no_pieces else single (comment_node (empty ∷ p) []))
  by true = none_body
  by false = record { listed = λ c. (tt, tt); none = refl }

region_body : (p : Path) (f : Forest) → Body f → Body (region_at p f)
region_body p f h =
    let k = comment_body p f h in
    record { listed = λ c. ((k.listed (Some p), ([], no_values, k.none)), tt); none = refl }

-- positions alone
positions_body : {A : Type 0} (g : A → Path) (h : A → List Pair) (xs : List A) (rest : List Piece) → Body (forest_of rest) → Body (forest_of (map (λ x. position (g x) (h x)) xs ++ rest))
positions_body g h [] rest k = k
positions_body g h (x ∷ xs) rest k = let r = positions_body g h xs rest k in record { listed = λ c. (tt, r.listed c); none = r.none }

element_body : (app : App) (σ : Store) (p : Path) (tag : Text) (ws : List (Written Scope)) (f : Forest) → Body f → Body (element_of app σ p tag ws f)
element_body app σ p tag ws f h =
    let vs = attributes_in ws in
    let pairs = taken_pairs app σ vs in
    let ms = modifiers_of app σ p 0 (modifiers_in ws) in
    let ns = filter (λ n. some_live (taken_values n vs)) (distinct_names vs) in
    join_body (forest_of (attr_positions p vs pairs ++ modifier_positions ms)) (single (element_node p tag (attrs_from vs pairs) ms f))
    (positions_body (λ n. attribute_at n ∷ p) pairs ns (modifier_positions ms)
    (subst (λ qs. Body (forest_of qs)) (Rattle.std.proofs.lemmas.List.append-nil (modifier_positions ms)) (positions_body (λ (m : Modifier). m.path) (λ (m : Modifier). m.args ++ map (λ n. n.1) m.names) ms [] none_body)))
    (record { listed = λ c. (h.listed None, tt); none = refl })

-- Items

entries_listed : (one : Path → Entry → Forest) → ((q : Path) (x : Entry) → Body (one q x)) → (p : Path) (xs : List Entry) → Listed (Some p) (render_entries one p xs)
entries_listed one h p [] = tt
entries_listed one h p (x ∷ xs) = let q = item x.key x.occurrence ∷ p in ((refl, (comment_body q (one q x) (h q x)).listed None), entries_listed one h p xs)

pub entries_direct : (one : Path → Entry → Forest) (p : Path) (xs : List Entry) → direct_items (render_entries one p xs) ≡ items_at p xs
entries_direct one p [] = refl
entries_direct one p (x ∷ xs) = ap (λ is. item_at p x ∷ is) (entries_direct one p xs)

list_body : (one : Path → Entry → Forest) → ((q : Path) (x : Entry) → Body (one q x)) → (p : Path) (key : Text) (us : Values Path) (other : Forest) → Body other
    → Body (items_or_else p us (λ vs. render_entries one (items ∷ p) (entries key 0 [] vs)) other)
list_body one h p key no_values other k = region_body (otherwise ∷ p) other k
list_body one h p key (value v vs) other k =
    let xs = entries key 0 [] (value v vs) in record { listed = λ c. ((entries_listed one h (items ∷ p) xs, (key, value v vs, entries_direct one (items ∷ p) xs)), tt); none = refl }

if_body : (p : Path) (u : Bool) (v : Pair) (f g : Forest) → Body f → Body g → Body (piece (position p (v ∷ [])) (if u then region_at (main ∷ p) f else region_at (otherwise ∷ p) g))
if_body p true v f g h k = let r = region_body (main ∷ p) f h in record { listed = λ c. (tt, r.listed c); none = r.none }
if_body p false v f g h k = let r = region_body (otherwise ∷ p) g k in record { listed = λ c. (tt, r.listed c); none = r.none }

-- Templates

module _ (app : App) (σ : Store) where
  abbrev pub BodyComponents : Components → Type 0
  BodyComponents d = (q : Path) (gs : NamedPairs) (w : Passed) → Body (d q gs w)

  abbrev pub BodyYields : Yields → Type 0
  BodyYields y = (n : Text) (vs : List Pair) (p : Path) → Body (y n vs p)

  module _ (d : Components) (y : Yields) (hd : BodyComponents d) (hy : BodyYields y) where
    mutual
      stmt_body : (x : t.Stmt) (s : Scope) (p : Path) → Body (render_stmt app σ d y s p x)
      stmt_body (t.text_stmt z) s p = record { listed = λ c. (tt, tt); none = refl }
      stmt_body (t.comment_stmt z) s p = record { listed = λ c. (tt, tt); none = refl }
      stmt_body (t.put e) s p = record { listed = λ c. (tt, (tt, tt)); none = refl }
      stmt_body (t.element tag ps b) s p = element_body app σ p tag (written_parts s ps) (render_body app σ d y s p 0 b) (body_body b s p 0)
      stmt_body (t.component_stmt n ps given bs) s p = hd (into n ∷ p) (eval_given app σ s given) (passed ps bs s)
      stmt_body (t.if_stmt e unless b o) s p =
          if_body p (takes_first unless (eval app σ s e).value) (eval app σ s e) (render_body app σ d y s (main ∷ p) 0 b) (render_body app σ d y s (otherwise ∷ p) 0 o) (body_body b s (main ∷ p) 0) (body_body o s (otherwise ∷ p) 0)
      stmt_body (t.each e key ns b o) s p =
          let one : Path → Entry → Forest = λ q x. render_body app σ d y (with_locals (bind ns (entry_pairs q x)) s) q 0 b in
          let k = list_body one (λ q x. body_body b (with_locals (bind ns (entry_pairs q x)) s) q 0) p key (values_listed (eval app σ s e).value) (render_body app σ d y s (otherwise ∷ p) 0 o) (body_body o s (otherwise ∷ p) 0) in
          record { listed = λ c. (tt, k.listed c); none = k.none }
      stmt_body (t.let_stmt es ns b) s p = body_body b (with_locals (bind ns (eval_all app σ s es)) s) (main ∷ p) 0
      stmt_body (t.yield es n) s p = hy n (eval_all app σ s es) p

      pub body_body : (b : t.Body) (s : Scope) (p : Path) (i : ℕ) → Body (render_body app σ d y s p i b)
      body_body t.end s p i = none_body
      body_body (t.stmt x b) s p i = join_body (render_stmt app σ d y s (at i ∷ p) x) (render_body app σ d y s p (suc i) b) (stmt_body x s (at i ∷ p)) (body_body b s p (suc i))

  block_body : (o : Option Block) (f : Block → Forest) → ((b : Block) → Body (f b)) → Body (in_block o f)
  block_body None f h = none_body
  block_body (Some b) f h = h b

  pub yields_body : (d : Components) → BodyComponents d → (w : Passed) → BodyYields (yields_of app σ d w)
  yields_body d h nothing_passed n vs p = none_body
  yields_body d h (passed ps bs (scope j a l w)) n vs p =
      block_body (block_named n bs) (λ b. render_body app σ d (yields_of app σ d w) (scope j a (l ++ bind b.params vs) w) (slot n ∷ p) 0 b.body)
      (λ b. body_body d (yields_of app σ d w) h (yields_body d h w) b.body (scope j a (l ++ bind b.params vs) w) (slot n ∷ p) 0)

  pub components_body : (n : ℕ) → BodyComponents (components_at n app σ)
  components_body zero q gs w = record { listed = λ c. (tt, tt); none = refl }
  components_body (suc n) q gs w =
      let d = components_at n app σ in
      let s = scope q gs [] w in
      let k = body_body d (yields_of app σ d w) (components_body n) (yields_body d (components_body n) w) (class_at app q).template s q 0 in
      record { listed = λ c. (k.listed None, tt); none = refl }

  pub draw_listed : Listed None (draw app σ)
  draw_listed = (components_body app.limit [] [] nothing_passed).listed None
