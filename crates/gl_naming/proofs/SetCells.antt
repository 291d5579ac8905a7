-- What a set of a cell leaves alone: all but the cells of instances, of which the others hold what they held.
use Rattle.std.proofs.Common.{◌≡◌, ◌<◌, ◌≤◌, ◌+◌, ℕ, zero, suc, List, [], ◌∷◌, ◌++◌, Bool, true, false, true≢false, Option, Some, None, refl, sym, ap, ap₂, ◌∙◌, subst, arith, inl, inr, ◌⊎◌}
use Rattle.std.specs.Prelude.{if◌then◌else◌, unwrap_or}
use Rattle.std.specs.Str.{bytes_eq}
use Rattle.gl_base.specs.Texts.{Text}
use Rattle.gl_base.specs.Names.{named}
use Rattle.gl_value.specs.Value.{undefined, plain}
use Rattle.gl_value.specs.Owners.{with_owners}
use Rattle.gl_ast.specs.Template as t
use Rattle.gl_ast.specs.Template.{Plain}
use Rattle.gl_meaning.specs.App.{App}
use Rattle.gl_meaning.specs.Path.{at, main, otherwise, items, item, into, slot, Path, V}
use Rattle.gl_meaning.specs.Scope.{Source, cell, item_value, item_index, Scope}
use Rattle.gl_meaning.specs.Eval.{Store, class_at, held_at, cell_value, field_member, getter_or_action, field_or, member_of}
use Rattle.gl_meaning.specs.Known.{Among}
use Rattle.gl_meaning.specs.Laws.{NoRepeat}
use Rattle.gl_meaning.specs.Order.{names_of}
use Rattle.gl_meaning.specs.Render.{Entry, Block, block_named}
use Rattle.gl_meaning.proofs.Equal.{text_means, text_itself}
use Rattle.gl_meaning.proofs.Pieces.{among_either}
use Rattle.gl_plain.specs.Ids.{a_ref, Id, id_eq, ref, node, instance_id, hit, occurs}
use Rattle.gl_plain.specs.State.{any_of, source_form, constant_form, property_form, call_form, joined_form, all_form, Form, MScope, passed_in, mslots, Inst, Names, cell_ref, row, content, instance_row, block_row, modifier_row, Thing, State, touch, source_eq}
use Rattle.gl_plain.specs.Live
use Rattle.gl_plain.specs.Live.{ItemSpot, item_made, Live, Lives, Items, times, times_in, times_items, times_comment, times_attrs, times_mods}
use Rattle.gl_plain.specs.Laid.{rest, rest_in, rest_items, CellsHold, CellsHoldIn, CellsHoldItems}
use Rattle.gl_plain.specs.Stands.{WhereBlock, CellsStand, Stands, StandIn, ItemsStand, ListStands, ElseStands, BlockStands}
use Rattle.gl_plain.specs.Machine.{RootStands, StandsFor}
use Rattle.gl_plain.proofs.Laid.{laid_in}
use Rattle.gl_plain.proofs.Moves.{hit_other, id_case, IdCase, id_itself}
use Rattle.gl_naming.specs.Exist.{FieldsDiffer}
use Rattle.gl_naming.specs.Numbered.{number, OwnSource, NumberedThing}
use Rattle.gl_naming.specs.Renamed.{form_with, there_with, state_with}
use Rattle.gl_naming.proofs.Choices.{where_list, where_else}
use Rattle.gl_naming.proofs.Exist.{source-Decides, number_once}
use Rattle.gl_naming.proofs.Sitting.{fields_differ}
use Rattle.gl_naming.proofs.Sits.{step_of, Sits, SitsItems, SitsIn}
use Rattle.gl_naming.proofs.Ties.{ties, ties_items, ties_in, cell_ties, cells_tie, item_tie}

-- Fields

among_field : (x : Text) (fs : List (Text × Plain)) → Among x (names_of fs) → (v : Plain) × (named x fs ≡ Some v)
among_field x [] m = absurd m
among_field x (y ∷ fs) m = by (bytes_eq x y.0) refl (λ k. among_field x fs k) m where
  by : (b : Bool) → bytes_eq x y.0 ≡ b → (Among x (names_of fs) → (v : Plain) × (named x fs ≡ Some v)) → (x ≡ y.0) ⊎ Among x (names_of fs) → (v : Plain) × ((if b then Some y.1 else named x fs) ≡ Some v)
  by true e rec w = (y.1, refl)
  by false e rec (inl d) = absurd (true≢false (sym (ap (bytes_eq x) (sym d) ∙ text_itself x) ∙ e))
  by false e rec (inr k) = rec k

is_field : (app : App) (q : Path) (x : Text) → Among x (names_of (class_at app q).fields) → member_of (class_at app q) x ≡ field_member
is_field app q x m = let k = among_field x (class_at app q).fields m in ap (λ o. field_or o (getter_or_action (named x (class_at app q).getters))) k.1

among_name : (c : Text × ℕ) (cs : Names) → Among c cs → Among c.0 (names_of cs)
among_name c [] m = m
among_name c (d ∷ cs) (inl e) = inl (ap (λ (z : Text × ℕ). z.0) e)
among_name c (d ∷ cs) (inr m) = inr (among_name c cs m)

named_at : (c : Text × ℕ) (cs : Names) → NoRepeat (names_of cs) → Among c cs → named c.0 cs ≡ Some c.1
named_at c [] n m = absurd m
named_at c (d ∷ cs) n (inl e) = subst (λ (z : Text × ℕ). (if bytes_eq z.0 d.0 then Some d.1 else named z.0 cs) ≡ Some z.1) (sym e) (ap (λ b. if b then Some d.1 else named d.0 cs) (text_itself d.0))
named_at c (d ∷ cs) n (inr m) = by (bytes_eq c.0 d.0) refl (named_at c cs n.1 m) where
  by : (b : Bool) → bytes_eq c.0 d.0 ≡ b → named c.0 cs ≡ Some c.1 → (if b then Some d.1 else named c.0 cs) ≡ Some c.1
  by true e r = absurd (n.0 (subst (λ y. Among y (names_of cs)) (text_means c.0 d.0 e) (among_name c cs m)))
  by false e r = r

-- Counts

gone_with : (a b : ℕ) → (0 < a → 0 < b) → b ≡ 0 → a ≡ 0
gone_with zero b f e = refl
gone_with (suc a) b f e = let k = f (omega arith) in absurd (omega (arith, k, e))

module _ (r : ℕ) (i0 : Path) (x0 : Text) where
  abbrev Tie : List (ℕ × Source) → Type 0
  Tie xs = Among (r, cell i0 x0) xs

  -- How often the reference of the cell stands in a part, cells left out and with them. Where the cell is the part's, it stands there once, as a cell.
  record Part (left all : ℕ) (xs : List (ℕ × Source)) : Type 0 where
    pub pos : 0 < left → 0 < all
    pub there : Tie xs → 0 < all
    pub alone : Tie xs → all ≤ 1 → left ≡ 0

  part_none : (n : ℕ) → Part n n []
  part_none n = record { pos = λ w. w; there = λ m. absurd m; alone = λ m. absurd m }

  part_mid : (a left all c : ℕ) (xs : List (ℕ × Source)) → Part left all xs → Part (a + (left + c)) (a + (all + c)) xs
  part_mid a left all c xs p = record {
    pos = λ w. by left p.pos w;
    there = λ m. let k = p.there m in omega (arith, k);
    alone = λ m le. let k = p.there m in let z = p.alone m (omega (arith, k, le)) in omega (arith, k, le, z);
  } where
    by : (n : ℕ) → (0 < n → 0 < all) → 0 < a + (n + c) → 0 < a + (all + c)
    by zero f w = omega (arith, w)
    by (suc n) f w = let k = f (omega arith) in omega (arith, k)

  part_front : (a left all : ℕ) (xs : List (ℕ × Source)) → Part left all xs → Part (a + left) (a + all) xs
  part_front a left all xs p = record {
    pos = λ w. by left p.pos w;
    there = λ m. let k = p.there m in omega (arith, k);
    alone = λ m le. let k = p.there m in let z = p.alone m (omega (arith, k, le)) in omega (arith, k, le, z);
  } where
    by : (n : ℕ) → (0 < n → 0 < all) → 0 < a + n → 0 < a + all
    by zero f w = omega (arith, w)
    by (suc n) f w = let k = f (omega arith) in omega (arith, k)

  part_both : (l a m b : ℕ) (xs ys : List (ℕ × Source)) → Part l a xs → Part m b ys → Part (l + m) (a + b) (xs ++ ys)
  part_both l a m b xs ys p s = record {
    pos = λ w. by l m p.pos s.pos w;
    there = λ w. elim (among_either (r, cell i0 x0) xs ys w) [ inl u ↦ let k = p.there u in omega (arith, k) | inr u ↦ let k = s.there u in omega (arith, k) ];
    alone = λ w le. elim (among_either (r, cell i0 x0) xs ys w) [
      | inl u ↦ let k = p.there u in let z = p.alone u (omega (arith, k, le)) in let y = gone_with m b s.pos (omega (arith, k, le)) in omega (arith, z, y)
      | inr u ↦ let k = s.there u in let z = s.alone u (omega (arith, k, le)) in let y = gone_with l a p.pos (omega (arith, k, le)) in omega (arith, z, y)
    ];
  } where
    by : (n k : ℕ) → (0 < n → 0 < a) → (0 < k → 0 < b) → 0 < n + k → 0 < a + b
    by zero zero f g w = omega (arith, w)
    by (suc n) k f g w = let z = f (omega arith) in omega (arith, z)
    by zero (suc k) f g w = let z = g (omega arith) in omega (arith, z)

  -- an item has no cell
  part_item : (q : Path) (z : ItemSpot) (left all : ℕ) (xs : List (ℕ × Source)) → Part left all xs → Part left all (item_tie q z ++ xs)
  part_item q z left all xs p = record { pos = p.pos; there = λ m. p.there (off m); alone = λ m. p.alone (off m) } where
    no_value : ◌≡◌ {A = ℕ × Source} (r, cell i0 x0) (z.value, item_value q) → ⊥
    no_value e = let d : cell i0 x0 ≡ item_value q = ap (λ (y : ℕ × Source). y.1) e in cc

    no_index : ◌≡◌ {A = ℕ × Source} (r, cell i0 x0) (z.index, item_index q) → ⊥
    no_index e = let d : cell i0 x0 ≡ item_index q = ap (λ (y : ℕ × Source). y.1) e in cc

    off : Tie (item_tie q z ++ xs) → Tie xs
    off (inl e) = absurd (no_value e)
    off (inr (inl e)) = absurd (no_index e)
    off (inr (inr m)) = m

  cell_in : (p : Path) (cs : Names) → Tie (cell_ties p cs) → (c : Text × ℕ) × Among c cs × (c.1 ≡ r)
  cell_in p [] m = absurd m
  cell_in p (c ∷ cs) (inl e) = (c, inl refl, sym (ap (λ (y : ℕ × Source). y.0) e))
  cell_in p (c ∷ cs) (inr m) = let k = cell_in p cs m in (k.0, inr k.1, k.2)

  module _ (app : App) (differ : FieldsDiffer app) where
    -- the reference of a field of the instance
    own_cell : (i : Inst) → names_of i.cells ≡ names_of (class_at app i.path).fields → Tie (cells_tie i) → (x : Text) × (member_of (class_at app i.path) x ≡ field_member) × (cell_ref i x ≡ r)
    own_cell i e m =
        let c = cell_in i.path i.cells m in (
          c.0.0,
          is_field app i.path c.0.0 (subst (Among c.0.0) e (among_name c.0 i.cells c.1)),
          ap (λ o. unwrap_or o 0) (named_at c.0 i.cells (subst NoRepeat (sym e) (fields_differ app differ i.path)) c.1) ∙ c.2,
        )

    part_instance : (i : Inst) (made gm : List Id) (left all : ℕ) (xs : List (ℕ × Source)) → names_of i.cells ≡ names_of (class_at app i.path).fields
        → ((x : Text) → member_of (class_at app i.path) x ≡ field_member → 0 < occurs (ref (cell_ref i x)) made)
        → ((x : Text) → member_of (class_at app i.path) x ≡ field_member → occurs (ref (cell_ref i x)) gm ≡ 0) → (0 < occurs (ref r) gm → 0 < occurs (ref r) made)
        → Part left all xs → Part ((hit (ref r) (instance_id i.id) + occurs (ref r) gm) + left) (occurs (ref r) made + all) (cells_tie i ++ xs)
    part_instance i made gm left all xs e cells off within p =
        let none : hit (ref r) (instance_id i.id) ≡ 0 = hit_other (ref r) (instance_id i.id) refl in
        let a = occurs (ref r) gm in let b = occurs (ref r) made in
        record {
          pos = λ w. by a left within p.pos (omega (arith, w, none));
          there = λ w. elim (among_either (r, cell i0 x0) (cells_tie i) xs w) [
            | inl u ↦ let c = own_cell i e u in let k = subst (λ n. 0 < occurs (ref n) made) c.2 (cells c.0 c.1) in omega (arith, k)
            | inr u ↦ let k = p.there u in omega (arith, k)
          ];
          alone = λ w le. elim (among_either (r, cell i0 x0) (cells_tie i) xs w) [
            | inl u ↦ let c = own_cell i e u in let k = subst (λ n. 0 < occurs (ref n) made) c.2 (cells c.0 c.1) in let z = subst (λ n. occurs (ref n) gm ≡ 0) c.2 (off c.0 c.1) in
                let y = gone_with left all p.pos (omega (arith, k, le)) in omega (arith, none, z, y)
            | inr u ↦ let k = p.there u in let z = p.alone u (omega (arith, k, le)) in let y = gone_with a b within (omega (arith, k, le)) in omega (arith, none, z, y)
          ];
        }
      where
        by : (n k : ℕ) → (0 < n → 0 < occurs (ref r) made) → (0 < k → 0 < all) → 0 < n + k → 0 < occurs (ref r) made + all
        by zero zero f g w = omega (arith, w)
        by (suc n) k f g w = let z = f (omega arith) in omega (arith, z)
        by zero (suc k) f g w = let z = g (omega arith) in omega (arith, z)

    -- Statements. Each instance's cells hold what the other store has, in the other state.
    module _ (σ τ τ' : Store) (look look' : Id → Option Thing) (move : (i : Inst) (made : List Id) → CellsStand app σ τ look i made → CellsStand app σ τ' look' i made) where
      block_part : (o : Option Block) (p : Path) (ls : Lives) (P : Block → Type 0) → ((c : Block) → P c → Part (rest_in (ref r) ls) (times_in (ref r) ls) (ties_in cells_tie item_tie p 0 ls) × CellsHoldIn app τ' look' ls)
          → WhereBlock o P (ls ≡ Live.no_lives) → Part (rest_in (ref r) ls) (times_in (ref r) ls) (ties_in cells_tie item_tie p 0 ls) × CellsHoldIn app τ' look' ls
      block_part None p ls P k h = subst (λ us. Part (rest_in (ref r) us) (times_in (ref r) us) (ties_in cells_tie item_tie p 0 us) × CellsHoldIn app τ' look' us) (sym h) (part_none 0, tt)
      block_part (Some c) p ls P k h = k c h

      mutual
        part : (m b : ℕ) (s : Scope) (ms : MScope) (p : Path) (x : t.Stmt) (l : Live) → Stands app σ τ look m b s ms p x l → Sits app p l
            → Part (rest (ref r) l) (times (ref r) l) (ties cells_tie item_tie p l) × CellsHold app τ' look' l
        part m b s ms p (t.text_stmt z) (Live.still n) h w = (part_none (hit (ref r) (node n)), tt)
        part m b s ms p (t.comment_stmt z) (Live.still n) h w = (part_none (hit (ref r) (node n)), tt)
        part m b s ms p (t.put e) (Live.put_live n z) h w = (part_none (hit (ref r) (node n) + occurs (ref r) z.made), tt)
        part m b s ms p (t.element tag ps c) (Live.element_live n made xs zs ls) h w =
            let g = part_in m b s ms p 0 c ls h.3 w in
            (part_mid (hit (ref r) (node n) + (occurs (ref r) made + times_attrs (ref r) xs)) (rest_in (ref r) ls) (times_in (ref r) ls) (times_mods (ref r) zs) (ties_in cells_tie item_tie p 0 ls) g.0, g.1)
        part m b s ms p (t.if_stmt e u c d) (Live.branch_live z true k ls) h w =
            let g = part_in m b s ms (main ∷ p) 0 c ls h.3 w in (part_mid (occurs (ref r) z.made) (rest_in (ref r) ls) (times_in (ref r) ls) (times_comment (ref r) k) (ties_in cells_tie item_tie (main ∷ p) 0 ls) g.0, g.1)
        part m b s ms p (t.if_stmt e u c d) (Live.branch_live z false k ls) h w =
            let g = part_in m b s ms (otherwise ∷ p) 0 d ls h.3 w in (part_mid (occurs (ref r) z.made) (rest_in (ref r) ls) (times_in (ref r) ls) (times_comment (ref r) k) (ties_in cells_tie item_tie (otherwise ∷ p) 0 ls) g.0, g.1)
        part m b s ms p (t.each e key ns c d) (Live.listed z is) h w =
            let g = where_list (Part (rest_items (ref r) is) (times_items (ref r) is) (ties_items cells_tie item_tie (items ∷ p) is) × CellsHoldItems app τ' look' is) _ (ListStands app σ τ look m b s ms p key ns c is)
            (λ us i. part_items m b s ms (items ∷ p) ns c _ is i w) h.1 in
            (part_front (occurs (ref r) z.made) (rest_items (ref r) is) (times_items (ref r) is) (ties_items cells_tie item_tie (items ∷ p) is) g.0, g.1)
        part m b s ms p (t.each e key ns c d) (Live.unlisted z k ls) h w =
            let g = where_else (Part (rest_in (ref r) ls) (times_in (ref r) ls) (ties_in cells_tie item_tie (otherwise ∷ p) 0 ls) × CellsHoldIn app τ' look' ls) _ (ElseStands app σ τ look m b s ms p d k ls)
            (λ i. part_in m b s ms (otherwise ∷ p) 0 d ls i.1 w) h.1 in
            (part_mid (occurs (ref r) z.made) (rest_in (ref r) ls) (times_in (ref r) ls) (times_comment (ref r) k) (ties_in cells_tie item_tie (otherwise ∷ p) 0 ls) g.0, g.1)
        part m b s ms p (t.let_stmt es ns c) (Live.let_live made rs ls) h w =
            let g = part_in m _ _ _ (main ∷ p) 0 c ls h.3 w in (part_front (occurs (ref r) made) (rest_in (ref r) ls) (times_in (ref r) ls) (ties_in cells_tie item_tie (main ∷ p) 0 ls) g.0, g.1)
        part (suc m) b s ms p (t.component_stmt c ps given bs) (Live.component_live i made gm args (Some k) ls) h w =
            let q = into c ∷ p in
            let g = part_in m _ _ _ q 0 (class_at app q).template ls h.7 (subst (λ j. SitsIn app j 0 ls) h.2 w.2) in
            let here = subst (λ j. Part (rest_in (ref r) ls) (times_in (ref r) ls) (ties_in cells_tie item_tie j 0 ls)) (sym h.2) g.0 in (
              part_instance i made gm (rest_in (ref r) ls) (times_in (ref r) ls) (ties_in cells_tie item_tie i.path 0 ls) w.1 (λ x e. (h.4 x e).0)
                  (λ x e. h.3.1 x (subst (λ j. member_of (class_at app j) x ≡ field_member) h.2 e)) (h.3.0 (ref r)) here,
              (move i made h.4, g.1),
            )
        part zero b s ms p (t.component_stmt c ps given bs) (Live.deep_live q) h w = (part_none 0, tt)
        part m b s ms p (t.yield es n) (Live.yield_live k made rs ls) h w =
            let s' = subst (λ j. SitsIn app (slot j ∷ p) 0 ls) h.0 w in
            let g = block_part (block_named n (mslots (passed_in ms))) (slot n ∷ p) ls (BlockStands app σ τ look m b s ms p es n made rs ls) (λ c j. part_in m _ _ _ (slot n ∷ p) 0 c.body ls j.3 s') h.1 in
            (part_front (occurs (ref r) made) (rest_in (ref r) ls) (times_in (ref r) ls) (ties_in cells_tie item_tie (slot k ∷ p) 0 ls) (subst (λ j. Part (rest_in (ref r) ls) (times_in (ref r) ls) (ties_in cells_tie item_tie (slot j ∷ p) 0 ls)) (sym h.0) g.0), g.1)
        part m b s ms p _ _ h w = absurd h

        part_in : (m b : ℕ) (s : Scope) (ms : MScope) (p : Path) (i : ℕ) (c : t.Body) (ls : Lives) → StandIn app σ τ look m b s ms p i c ls → SitsIn app p i ls
            → Part (rest_in (ref r) ls) (times_in (ref r) ls) (ties_in cells_tie item_tie p i ls) × CellsHoldIn app τ' look' ls
        part_in m b s ms p i t.end Live.no_lives h w = (part_none 0, tt)
        part_in m b s ms p i (t.stmt x c) (Live.live_and l ls) h w =
            let f = part m b s ms (at i ∷ p) x l h.0 w.0 in
            let g = part_in m b s ms p (suc i) c ls h.1 w.1 in
            (part_both (rest (ref r) l) (times (ref r) l) (rest_in (ref r) ls) (times_in (ref r) ls) (ties cells_tie item_tie (at i ∷ p) l) (ties_in cells_tie item_tie p (suc i) ls) f.0 g.0, (f.1, g.1))
        part_in m b s ms p i _ _ h w = absurd h

        part_items : (m b : ℕ) (s : Scope) (ms : MScope) (p : Path) (ns : List Text) (c : t.Body) (xs : List Entry) (is : Items) → ItemsStand app σ τ look m b s ms p ns c xs is → SitsItems app p is
            → Part (rest_items (ref r) is) (times_items (ref r) is) (ties_items cells_tie item_tie p is) × CellsHoldItems app τ' look' is
        part_items m b s ms p ns c [] Live.no_items h w = (part_none 0, tt)
        part_items m b s ms p ns c (x ∷ xs) (Live.item_live z k ls is) h w =
            let q0 = item x.key x.occurrence ∷ p in
            let q = step_of z ∷ p in
            let same : q ≡ q0 = ap₂ (λ a n. item a n ∷ p) h.0.0 h.0.1 in
            let f = part_in m _ _ _ q0 0 c ls h.4 (subst (λ j. SitsIn app j 0 ls) same w.1) in
            let here = subst (λ j. Part (rest_in (ref r) ls) (times_in (ref r) ls) (ties_in cells_tie item_tie j 0 ls)) (sym same) f.0 in
            let own = part_mid (occurs (ref r) (item_made z)) (rest_in (ref r) ls) (times_in (ref r) ls) (times_comment (ref r) k) (ties_in cells_tie item_tie q 0 ls) here in
            let left = occurs (ref r) (item_made z) + (rest_in (ref r) ls + times_comment (ref r) k) in
            let all = occurs (ref r) (item_made z) + (times_in (ref r) ls + times_comment (ref r) k) in
            let g = part_items m b s ms p ns c xs is h.5 w.2 in
            (part_both left all (rest_items (ref r) is) (times_items (ref r) is) (item_tie q z ++ ties_in cells_tie item_tie q 0 ls) (ties_items cells_tie item_tie p is) (part_item q z left all (ties_in cells_tie item_tie q 0 ls) own) g.0, (f.1, g.1))
        part_items m b s ms p ns c _ _ h w = absurd h

-- What the reference of a source is of.

abbrev form_source : Form → Source → Source
form_source (source_form y v) d = y
form_source _ d = d

abbrev source_in : Option Thing → Source → Source
source_in (Some (row x)) d = form_source x.form d
source_in _ d = d

abbrev form_is_source : Form → Bool
form_is_source (source_form y v) = true
form_is_source _ = false

abbrev is_source : Option Thing → Bool
is_source (Some (row x)) = form_is_source x.form
is_source _ = false

module _ (f : Path → Path) (g : Source → Source) where
  own_source : (n c : ℕ) (o : Option Thing) (s : Source) (u : V) → there_with f g o ≡ Some (row (record { form = source_form s u; last = any_of [] })) → NumberedThing n c o → g (number c) ≡ s
  own_source n c None s u e k = absurd (true≢false (sym (ap is_source e)))
  own_source n c (Some (row x)) s u e k = by x.form (ap is_source e) (ap (λ t. source_in t s) e) k.0 where
    by : (y : Form) → form_is_source (form_with f g y) ≡ true → form_source (form_with f g y) s ≡ s → OwnSource n c y → g (number c) ≡ s
    by (source_form z v) a d o = ap g (sym o.0) ∙ d
    by (constant_form v) a d o = absurd (true≢false (sym a))
    by (property_form i l) a d o = absurd (true≢false (sym a))
    by (call_form m rs ns) a d o = absurd (true≢false (sym a))
    by (joined_form rs) a d o = absurd (true≢false (sym a))
    by (all_form rs) a d o = absurd (true≢false (sym a))
  own_source n c (Some (content z)) s u e k = absurd (true≢false (sym (ap is_source e)))
  own_source n c (Some (instance_row i)) s u e k = absurd (true≢false (sym (ap is_source e)))
  own_source n c (Some block_row) s u e k = absurd (true≢false (sym (ap is_source e)))
  own_source n c (Some (modifier_row x)) s u e k = absurd (true≢false (sym (ap is_source e)))

-- One set

module _ (f : Path → Path) (g : Source → Source) (apart : (x y : Source) → g x ≡ g y → x ≡ y) (app : App) (differ : FieldsDiffer app) (σ τ : Store) (st : State) (r : ℕ) (i0 : Path) (x0 : Text) (v : V)
    (free : with_owners f v ≡ v) (named_so : g (number r) ≡ cell i0 x0) (rows : (c : ℕ) → NumberedThing (st.next a_ref) c (st.look (ref c))) where
  abbrev later : Store
  later = record { instance = i0; field = x0; value = v } ∷ τ

  abbrev look : Id → Option Thing
  look q = there_with f g (st.look q)

  abbrev look_later : Id → Option Thing
  look_later q = there_with f g ((touch r (number r) v st).look q)

  look_other : (c : ℕ) → (c ≡ r → ⊥) → look_later (ref c) ≡ look (ref c)
  look_other c ne = by (id_case (ref c) (ref r)) where
    by : IdCase (ref c) (ref r) → there_with f g (if id_eq (ref c) (ref r) then Some (row (record { form = source_form (number r) v; last = any_of [] })) else st.look (ref c)) ≡ there_with f g (st.look (ref c))
    by (inl e) = absurd (ne (ap (λ q. q.num) e.1))
    by (inr e) = ap (λ b. there_with f g (if b then Some (row (record { form = source_form (number r) v; last = any_of [] })) else st.look (ref c))) e

  look_own : look_later (ref r) ≡ Some (row (record { form = source_form (cell i0 x0) v; last = any_of [] }))
  look_own = by (id_case (ref r) (ref r)) where
    by : IdCase (ref r) (ref r) → there_with f g (if id_eq (ref r) (ref r) then Some (row (record { form = source_form (number r) v; last = any_of [] })) else st.look (ref r)) ≡ Some (row (record { form = source_form (cell i0 x0) v; last = any_of [] }))
    by (inl e) =
        ap (λ b. there_with f g (if b then Some (row (record { form = source_form (number r) v; last = any_of [] })) else st.look (ref r))) e.0
        ∙ ap₂ (λ y u. Some (row (record { form = source_form y u; last = any_of [] }))) named_so free
    by (inr e) = absurd (true≢false (sym (id_itself (ref r)) ∙ e))

  cells_move : (i : Inst) (made : List Id) → CellsStand app σ τ look i made → CellsStand app σ later look_later i made
  cells_move i made c x e =
      let k = c x e in
      let n = cell_ref i x in
      let own = own_source f g (st.next a_ref) n (st.look (ref n)) (cell i.path x) (cell_value app τ i.path x) k.1 (rows n) in
      (k.0, by own k.1 (source_eq (cell i.path x) (cell i0 x0)) refl) where
        by : g (number (cell_ref i x)) ≡ cell i.path x → look (ref (cell_ref i x)) ≡ Some (row (record { form = source_form (cell i.path x) (cell_value app τ i.path x); last = any_of [] }))
            → (b : Bool) → source_eq (cell i.path x) (cell i0 x0) ≡ b → look_later (ref (cell_ref i x)) ≡ Some (row (record { form = source_form (cell i.path x) (cell_value app later i.path x); last = any_of [] }))
        by own at_it true d =
            let same = (source-Decides (cell i.path x) (cell i0 x0)).0 d in
            let is_r : cell_ref i x ≡ r = number_once (cell_ref i x) r (apart (number (cell_ref i x)) (number r) (own ∙ (same ∙ sym named_so))) in
            ap (λ n. look_later (ref n)) is_r
            ∙ (look_own ∙ ap₂ (λ y u. Some (row (record { form = source_form y u; last = any_of [] }))) (sym same)
            (ap (λ b. unwrap_or (if b then Some v else held_at i.path x τ) (plain (unwrap_or (named x (class_at app i.path).fields) undefined))) (sym d)))
        by own at_it false d =
            look_other (cell_ref i x) (λ is_r. true≢false (sym ((source-Decides (cell i.path x) (cell i0 x0)).1 (sym own ∙ (ap (λ n. g (number n)) is_r ∙ named_so))) ∙ d))
            ∙ (at_it ∙ ap (λ u. Some (row (record { form = source_form (cell i.path x) u; last = any_of [] })))
            (ap (λ b. unwrap_or (if b then Some v else held_at i.path x τ) (plain (unwrap_or (named x (class_at app i.path).fields) undefined))) (sym d)))

  root_set : (m : ℕ) (l : Live) → RootStands app σ τ look m l → Sits app [] l → Among (r, cell i0 x0) (ties cells_tie item_tie [] l) → times (ref r) l ≤ 1 → RootStands app σ later look_later m l
  root_set (suc m) (Live.component_live i made gm args None ls) h w tie le =
      let c = (class_at app []).template in
      let g0 = part_in r i0 x0 app differ σ τ later look look_later cells_move m _ _ _ [] 0 c ls h.5 (subst (λ j. SitsIn app j 0 ls) h.1 w.2) in
      let p = subst (λ j. Part r i0 x0 (rest_in (ref r) ls) (times_in (ref r) ls) (ties_in cells_tie item_tie j 0 ls)) (sym h.1) g0.0 in
      let none : rest_in (ref r) ls ≡ 0 = elim (among_either (r, cell i0 x0) (cells_tie i) (ties_in cells_tie item_tie i.path 0 ls) tie) [
        | inl u ↦ let d = own_cell r i0 x0 app differ i w.1 u in let k = subst (λ n. 0 < occurs (ref n) made) d.2 (h.3 d.0 d.1).0 in gone_with (rest_in (ref r) ls) (times_in (ref r) ls) p.pos (omega (arith, k, le))
        | inr u ↦ p.alone u (omega (arith, le))
      ] in (
        h.0,
        h.1,
        h.2,
        cells_move i made h.3,
        h.4,
        laid_in app look look_later σ τ later m _ _ _ [] 0 c ls (λ q z. same_at none q z (id_case q (ref r))) g0.1 h.5,
      )
    where
      same_at : rest_in (ref r) ls ≡ 0 → (q : Id) → 0 < rest_in q ls → IdCase q (ref r) → look_later q ≡ look q
      same_at none q z (inl e) = let k : rest_in q ls ≡ rest_in (ref r) ls = ap (λ i. rest_in i ls) e.1 in absurd (omega (arith, k, none, z))
      same_at none q z (inr e) = ap (λ b. there_with f g (if b then Some (row (record { form = source_form (number r) v; last = any_of [] })) else st.look q)) e
  root_set zero (Live.deep_live q) h w tie le = absurd tie
  root_set _ _ h w tie le = absurd h

  pub set_stands : (t u : Source → Bool) (l : Live) → StandsFor app σ τ (state_with f g t st) l → Sits app [] l → Among (r, cell i0 x0) (ties cells_tie item_tie [] l) → StandsFor app σ later (state_with f g u (touch r (number r) v st)) l
  set_stands t u l s w tie = record { owned = record { once = s.owned.once; old = s.owned.old }; stands = root_set app.limit l s.stands w tie (s.owned.once (ref r)) }
