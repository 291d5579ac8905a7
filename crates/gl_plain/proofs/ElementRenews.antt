-- An element that is updated stands for what is rendered now.
use Rattle.std.proofs.Common.{◌≡◌, ◌<◌, ℕ, suc, ◌+◌, ◌||◌, Bool, true, false, true≢false, List, [], ◌∷◌, map, Option, Some, cond, refl, sym, ◌∙◌, ap, ap₂, subst, arith, inl, inr, ◌⊎◌}
use Rattle.std.specs.Prelude.{if◌then◌else◌, filter, length}
use Rattle.std.specs.Str.{bytes_eq}
use Rattle.gl_base.specs.Texts.{Text}
use Rattle.gl_base.specs.Names.{has_text}
use Rattle.gl_ast.specs.Template.{Exprs, AttrValue, Part, Slots}
use Rattle.gl_ast.specs.Template as t
use Rattle.gl_meaning.specs.App.{App}
use Rattle.gl_meaning.specs.Path.{Path}
use Rattle.gl_meaning.specs.Scope.{Source, Pair, Scope}
use Rattle.gl_meaning.specs.Eval.{Store, values_in}
use Rattle.gl_meaning.specs.Parts.{WrittenModifier, distinct_names, taken_values, some_live, taken_pairs, attribute_value, attrs_from, modifier_of}
use Rattle.gl_meaning.specs.Laws.{KeepsAll}
use Rattle.gl_meaning.proofs.Frame.{eval_all_keeps, eval_named_keeps}
use Rattle.gl_meaning.proofs.Equal.{text_means, text_itself}
use Rattle.gl_plain.specs.Ids.{Id, ref, node, modifier_id, hit, occurs}
use Rattle.gl_plain.specs.State.{MScope, scope_by, element_content, content, modifier_row, Thing, State, put_thing, note_updated}
use Rattle.gl_plain.specs.Binding.{Spot}
use Rattle.gl_plain.specs.Live.{AttrSpot, ModSpot, Live, Lives, times, times_in, times_attrs, times_mods}
use Rattle.gl_plain.specs.Tags.{named_with, first_values, values_from}
use Rattle.gl_plain.specs.Renew.{spot_pairs, is_stale, evaluate, with_attr, changed_attr, renew_attrs, refreshed, renew_mods, renew, renew_body}
use Rattle.gl_plain.specs.Stands.{From, SpottedIn, attrs_by, mods_by, head_of, tail_of, pairs_for, modifier_pairs, AttrsStand, ModsStand, Stands, Owned}
use Rattle.gl_plain.proofs.Moves.{Moves, right_owned, both_move, then_move, recount, before_it, beside, left_owned, next_owned, same_owned, owned_after, id_itself, hit_self, unhit}
use Rattle.gl_plain.proofs.Stay.{Same, stay_in, attrs_stay, mods_stay, spot_stays_in, left_above, right_above}
use Rattle.gl_plain.proofs.ElementGrows.{eval_count, eval_names, args_first, args_after, names_after}
use Rattle.gl_plain.proofs.Rereads.{reads_same, Cold, CellsKeep, scope_less, put_moves, same_moves, noted_move, stale_in, cold_in, evaluated_in, cold_spot_in}
use Rattle.gl_plain.proofs.Renewing.{Ready, ready_goes, Renewed, next_more, idle_after, idle_before, idle_same, from_left, from_right}
use Rattle.gl_plain.proofs.Renews.{BodyRenews}
use Rattle.gl_plain.proofs.Keeping.{keep_less}
use Rattle.gl_meaning.proofs.Alike
use Rattle.gl_plain.proofs.KeepParts
use mathlib.Core.Path.{fun_ext}

-- another value for a name
abbrev with_value : Text → Option Text → (Text → Option Text) → Text → Option Text
with_value n v val k = if bytes_eq n k then v else val k

attr_changes : (n : Text) (v : Option Text) (val : Text → Option Text) (ks : List Text) → with_attr n v (map (λ k. (k, val k)) ks) ≡ map (λ k. (k, with_value n v val k)) ks
attr_changes n v val [] = refl
attr_changes n v val (k ∷ ks) = ap₂ (λ x xs. x ∷ xs) (by (bytes_eq n k)) (attr_changes n v val ks) where
  by : (b : Bool) → ◌≡◌ {A = Text × Option Text} (if b then (k, v) else (k, val k)) (k, if b then v else val k)
  by true = refl
  by false = refl

module _ (app : App) (σ τ : Store) (b : ℕ) (v w : Scope) (ms : MScope) (ps : List Part) (made : List Id) (n : ℕ) (tag : Text) (all : List Text) where
  abbrev old_value : Text → Option Text
  old_value k = attribute_value (taken_pairs app σ (attrs_by ps v) k)

  abbrev new_value : Text → Option Text
  new_value k = attribute_value (taken_pairs app τ (attrs_by ps w) k)

  abbrev shown : (Text → Option Text) → Thing
  shown val = content (element_content tag (map (λ k. (k, val k)) all))

  abbrev pairs_for_name : Text → Store → (ℕ → Pair) → List Pair
  pairs_for_name k ρ f = taken_pairs app ρ (attrs_by ps (scope_by f ms)) k

  -- each value is that of before or that of now
  abbrev pub Either : (Text → Option Text) → Type 0
  Either val = (k : Text) → (val k ≡ old_value k) ⊎ (val k ≡ new_value k)

  values_keep : (st : State) → Ready app σ τ b st ms v w → (k : Text) → KeepsAll (Cold st) (taken_pairs app σ (attrs_by ps v) k) (taken_pairs app τ (attrs_by ps w) k)
  values_keep st r k =
      Alike.keeps-values (Cold st) app σ τ r.cells
      (Alike.keeps-taken (Cold st) app σ τ r.cells (Alike.keeps-attributes (Cold st) app σ τ r.cells (Alike.keeps-written (Cold st) app σ τ r.cells r.keeps ps)) k)

  pub record AttrDone (k : Text) (z : Spot) (st st' : State) (val : Text → Option Text) : Type 0 where
    pub now : Text → Option Text
    pub moves : Moves st st' (λ q. hit q (node n) + occurs q z.made) (λ q. hit q (node n) + occurs q z.made)
    pub spotted : SpottedIn app st'.look ms made z (pairs_for_name k) (taken_pairs app τ (attrs_by ps w) k)
    pub is : st'.look (node n) ≡ Some (shown now)
    pub either : Either now
    pub done : now k ≡ new_value k
    pub still : (j : Text) → val j ≡ new_value j → now j ≡ new_value j

  one_attr : (k : Text) (z : Spot) (st : State) (val : Text → Option Text) → ((q : Id) → 0 < occurs q made → hit q (node n) ≡ 0) → Owned st (λ q. hit q (node n) + occurs q z.made) → Ready app σ τ b st ms v w
      → SpottedIn app st.look ms made z (pairs_for_name k) (taken_pairs app σ (attrs_by ps v) k) → st.look (node n) ≡ Some (shown val) → Either val
      → (u : Bool) → is_stale st z.ref ≡ u
      → AttrDone k z st (if u then put_thing (node n) (content (changed_attr k (attribute_value (spot_pairs st z.ref)) (st.look (node n)))) (evaluate z.ref st) else st) val
  one_attr k z st val apart o r h at either true e =
      let count : Id → ℕ = λ q. hit q (node n) + occurs q z.made in
      let is = stale_in app τ ms made z (pairs_for_name k) (taken_pairs app σ (attrs_by ps v) k) (taken_pairs app τ (attrs_by ps w) k) st h r.scope.cells (ap (λ y. taken_pairs app τ (attrs_by ps y) k) r.scope.is) in
      let st1 = evaluate z.ref st in
      let x = content (changed_attr k (attribute_value (spot_pairs st z.ref)) (st.look (node n))) in
      let m1 = noted_move st _ count count z.ref (put_moves st count (ref z.ref) _ o (right_above _ _ h.own) (reads_same st z.ref _ h.is.0)) in
      let m2 = put_moves st1 count (node n) x (owned_after st st1 count count m1) (left_above _ _ (hit_self (node n))) (λ l i e. tt) in
      let same : Same st1.look (put_thing (node n) x st1).look (λ q. occurs q z.made) =
      (λ q a. let c = o.once q in ap (λ d. if d then Some x else st1.look q) (unhit q (node n) (omega (arith, c, a)))) in
      record {
        now = with_value k (new_value k) val;
        moves = then_move st st1 (put_thing (node n) x st1) count count count m1 m2;
        spotted = spot_stays_in app st1.look (put_thing (node n) x st1).look ms made z (pairs_for_name k) (taken_pairs app τ (attrs_by ps w) k)
            (λ q a. ap (λ d. if d then Some x else st1.look q) (unhit q (node n) (apart q a))) same (evaluated_in app ms made z (pairs_for_name k) (taken_pairs app σ (attrs_by ps v) k) (taken_pairs app τ (attrs_by ps w) k) st h is);
        is =
            ap (λ d. if d then Some x else st1.look (node n)) (id_itself (node n))
            ∙ ap₂ (λ us o'. Some (content (changed_attr k (attribute_value us) o'))) is at
            ∙ ap (λ c. Some (content (element_content tag c))) (attr_changes k (new_value k) val all);
        either = λ j. by_name j (bytes_eq k j) refl (either j);
        done = ap (λ d. if d then new_value k else val k) (text_itself k);
        still = λ j f. kept_name j (bytes_eq k j) refl f;
      }
    where
      by_name : (j : Text) (d : Bool) → bytes_eq k j ≡ d → (val j ≡ old_value j) ⊎ (val j ≡ new_value j) → ((if d then new_value k else val j) ≡ old_value j) ⊎ ((if d then new_value k else val j) ≡ new_value j)
      by_name j true e f = inr (ap new_value (text_means k j e))
      by_name j false e f = f

      kept_name : (j : Text) (d : Bool) → bytes_eq k j ≡ d → val j ≡ new_value j → (if d then new_value k else val j) ≡ new_value j
      kept_name j true e f = ap new_value (text_means k j e)
      kept_name j false e f = f
  one_attr k z st val apart o r h at either false e =
      let is = cold_in app ms made z (pairs_for_name k) (taken_pairs app σ (attrs_by ps v) k) (taken_pairs app τ (attrs_by ps w) k) st h (values_keep st r k) e in
      record {
        now = val;
        moves = same_moves st (λ q. hit q (node n) + occurs q z.made) o;
        spotted = cold_spot_in app ms made z (pairs_for_name k) _ _ st.look h is;
        is = at;
        either = either;
        done = by (either k) (ap attribute_value is);
        still = λ j f. f;
      }
    where
      by : (val k ≡ old_value k) ⊎ (val k ≡ new_value k) → old_value k ≡ new_value k → val k ≡ new_value k
      by (inl f) g = f ∙ g
      by (inr f) g = f

  pub record AttrsDone (ns : List Text) (xs : List AttrSpot) (st st' : State) (val : Text → Option Text) : Type 0 where
    pub now : Text → Option Text
    pub moves : Moves st st' (λ q. hit q (node n) + times_attrs q xs) (λ q. hit q (node n) + times_attrs q xs)
    pub stands : AttrsStand app τ τ st'.look made w ms (attrs_by ps) ns xs
    pub is : st'.look (node n) ≡ Some (shown now)
    pub done : (k : Text) → (has_text k ns ≡ true) ⊎ (val k ≡ new_value k) → now k ≡ new_value k

  attrs_renew : (ns : List Text) (xs : List AttrSpot) (st : State) (val : Text → Option Text) → Owned st (λ q. occurs q made + (hit q (node n) + times_attrs q xs)) → Owned st (λ q. hit q (node n) + times_attrs q xs) → From b (λ q. hit q (node n) + times_attrs q xs)
      → Ready app σ τ b st ms v w → AttrsStand app σ τ st.look made v ms (attrs_by ps) ns xs → st.look (node n) ≡ Some (shown val) → Either val
      → AttrsDone ns xs st (renew_attrs n xs st) val
  attrs_renew [] [] st val om o f r h at either = record { now = val; moves = same_moves st (λ q. hit q (node n) + 0) o; stands = tt; is = at; done = λ k. by k } where
    by : (k : Text) → (has_text k [] ≡ true) ⊎ (val k ≡ new_value k) → val k ≡ new_value k
    by k (inl e) = absurd (true≢false (sym e))
    by k (inr e) = e
  attrs_renew (k ∷ ns) (a ∷ xs) st val om o f r h at either =
      let cn : Id → ℕ = λ q. hit q (node n) in
      let ca : Id → ℕ = λ q. occurs q a.spot.made in
      let cx : Id → ℕ = λ q. times_attrs q xs in
      let one : Id → ℕ = λ q. cn q + ca q in
      let rest : Id → ℕ = λ q. cn q + cx q in
      let whole : Id → ℕ = λ q. cn q + (ca q + cx q) in
      let o1 = same_owned st whole (λ q. one q + cx q) (λ q. omega arith) o in
      let cm : Id → ℕ = λ q. occurs q made in
      let g0 = one_attr k a.spot st val (λ q u. let i = om.once q in omega (arith, i, u)) (left_owned st one cx o1) r h.1 at either (is_stale st a.spot.ref) refl in
      let st1 = if is_stale st a.spot.ref then put_thing (node n) (content (changed_attr a.name (attribute_value (spot_pairs st a.spot.ref)) (st.look (node n)))) (evaluate a.spot.ref st) else st in
      let g : AttrDone k a.spot st st1 val =
      subst (λ j. AttrDone k a.spot st (if is_stale st a.spot.ref then put_thing (node n) (content (changed_attr j (attribute_value (spot_pairs st a.spot.ref)) (st.look (node n)))) (evaluate a.spot.ref st) else st) val) (sym h.0) g0 in
      let others = beside st st1 one one cx o1 g.moves in
      let m1 = recount st st1 whole (λ q. one q + cx q) whole (λ q. one q + cx q) (λ q. omega arith) (λ q. omega arith) (idle_after app σ τ st st1 one one cx o1 g.moves) in
      let ow = owned_after st st1 whole whole m1 in
      let o2 = same_owned st1 whole (λ q. rest q + ca q) (λ q. omega arith) ow in
      let r1 = ready_goes app σ τ b st st1 ms v w whole whole r m1 f in
      let fr : From b rest = (λ q lt. let i = f q lt in omega (arith, i)) in
      let kept1 = idle_same app σ τ st st1 cm whole whole om m1 in
      let om0 = owned_after st st1 (λ q. cm q + whole q) (λ q. cm q + whole q) (idle_before app σ τ st st1 cm whole whole om m1) in
      let om1 = left_owned st1 (λ q. cm q + rest q) ca (same_owned st1 (λ q. cm q + whole q) (λ q. (cm q + rest q) + ca q) (λ q. omega arith) om0) in
      let hs = attrs_stay app st.look st1.look σ τ made v ms (attrs_by ps) ns xs kept1 others h.2 in
      let k2 = attrs_renew ns xs st1 g.now om1 (left_owned st1 rest ca o2) fr r1 hs g.is g.either in
      let st2 = renew_attrs n xs st1 in
      let m2 = recount st1 st2 whole (λ q. rest q + ca q) whole (λ q. rest q + ca q) (λ q. omega arith) (λ q. omega arith) (idle_after app σ τ st1 st2 rest rest ca o2 k2.moves) in
      let kept = beside st1 st2 rest rest ca o2 k2.moves in
      record {
        now = k2.now;
        moves = then_move st st1 st2 whole whole whole m1 m2;
        stands = (h.0, spot_stays_in app st1.look st2.look ms made a.spot (pairs_for_name k) (taken_pairs app τ (attrs_by ps w) k) (idle_same app σ τ st1 st2 cm rest rest om1 k2.moves) kept g.spotted, k2.stands);
        is = k2.is;
        done = λ j. by j (bytes_eq j k) refl {now = g.now} {now2 = k2.now} g.done g.still k2.done;
      }
    where
      by : (j : Text) (d : Bool) → bytes_eq j k ≡ d → {now now2 : Text → Option Text} → now k ≡ new_value k → ((i : Text) → val i ≡ new_value i → now i ≡ new_value i)
          → ((i : Text) → (has_text i ns ≡ true) ⊎ (now i ≡ new_value i) → now2 i ≡ new_value i)
          → ((d || has_text j ns) ≡ true) ⊎ (val j ≡ new_value j) → now2 j ≡ new_value j
      by j true e {now} {now2} done still rec _ = subst (λ i. now2 i ≡ new_value i) (sym (text_means j k e)) (rec k (inr done))
      by j false e done still rec (inl m) = rec j (inl m)
      by j false e done still rec (inr m) = rec j (inr (still j m))
  attrs_renew [] (a ∷ xs) st val om o f r h at either = absurd h
  attrs_renew (k ∷ ns) [] st val om o f r h at either = absurd h

-- Modifiers

modifier_noted : (st st' : State) (a a' : Id → ℕ) (r : ℕ) → Moves st st' a a' → Moves st (note_updated r st') a a'
modifier_noted st st' a a' r m = record { kept = m.kept; more = m.more; fewer = m.fewer; once = m.once; old = m.old; still = m.still; gone = m.gone; lower = m.lower }

module _ (app : App) (σ τ : Store) (b : ℕ) (v w : Scope) (ms : MScope) (made : List Id) (n : ℕ) where
  abbrev modifier_row_of : Store → ℕ → WrittenModifier Scope → Thing
  modifier_row_of ρ i d = let m = modifier_of app ρ [] 0 d in modifier_row (record { on_node = n; place = i; name = m.name; args = values_in m.args; names = map (λ x. (x.0, x.1.value)) m.names })

  abbrev head_pairs : (Scope → List (WrittenModifier Scope)) → Store → (ℕ → Pair) → List Pair
  head_pairs ws ρ f = pairs_for app ρ (head_of (ws (scope_by f ms)))

  -- the row, from the number of positional arguments, the names and the Pairs
  row_from : (ρ : Store) (i : ℕ) (d : WrittenModifier Scope) (c : ℕ) (ns : List Text) (ps : List Pair) → c ≡ length (modifier_of app ρ [] 0 d).args → ns ≡ map (λ x. x.0) (modifier_of app ρ [] 0 d).names
      → ps ≡ modifier_pairs app ρ d
      → modifier_row (record { on_node = n; place = i; name = d.name; args = first_values c (values_in ps); names = named_with ns (values_from c (values_in ps)) }) ≡ modifier_row_of ρ i d
  row_from ρ i d c ns ps ec en ep =
      let m = modifier_of app ρ [] 0 d in
      ap₂ (λ us ks. modifier_row (record { on_node = n; place = i; name = d.name; args = us; names = ks }))
      (ap₂ (λ j us. first_values j (values_in us)) ec ep ∙ args_first m.args (map (λ y. y.1) m.names))
      (ap₂ named_with en (ap₂ (λ j us. values_from j (values_in us)) ec ep ∙ args_after m.args (map (λ y. y.1) m.names)) ∙ names_after m.names)

  pub record ModDone (ws : Scope → List (WrittenModifier Scope)) (i : ℕ) (d : WrittenModifier Scope) (z : ModSpot) (st st' : State) : Type 0 where
    pub moves : Moves st st' (λ q. hit q (modifier_id z.id) + occurs q z.spot.made) (λ q. hit q (modifier_id z.id) + occurs q z.spot.made)
    pub at : st'.look (modifier_id z.id) ≡ Some (modifier_row_of τ i d)
    pub counted : z.positional ≡ length (modifier_of app τ [] 0 d).args
    pub named : z.names ≡ map (λ x. x.0) (modifier_of app τ [] 0 d).names
    pub spotted : SpottedIn app st'.look ms made z.spot (head_pairs ws) (modifier_pairs app τ d)

  -- one modifier, as it was written in both scopes
  one_mod : (ws : Scope → List (WrittenModifier Scope)) (i : ℕ) (x : Text) (es : Exprs) (ks : t.NamedExprs) (v' w' : Scope) (z : ModSpot) (st : State)
      → let old : WrittenModifier Scope = record { name = x; args = es; names = ks; by = v' } in let new : WrittenModifier Scope = record { name = x; args = es; names = ks; by = w' } in
      ((q : Id) → 0 < occurs q made → hit q (modifier_id z.id) ≡ 0) → Owned st (λ q. hit q (modifier_id z.id) + occurs q z.spot.made) → Ready app σ τ b st ms v w → KeepsAll (Cold st) (modifier_pairs app σ old) (modifier_pairs app τ new)
      → pairs_for app τ (head_of (ws w)) ≡ modifier_pairs app τ new
      → st.look (modifier_id z.id) ≡ Some (modifier_row_of σ i old) → z.positional ≡ length (modifier_of app σ [] 0 old).args → z.names ≡ map (λ y. y.0) (modifier_of app σ [] 0 old).names
      → SpottedIn app st.look ms made z.spot (head_pairs ws) (modifier_pairs app σ old)
      → (u : Bool) → is_stale st z.spot.ref ≡ u
      → ModDone ws i new z st (if u then note_updated z.id (put_thing (modifier_id z.id) (modifier_row (refreshed z (values_in (spot_pairs st z.spot.ref)) (st.look (modifier_id z.id)))) (evaluate z.spot.ref st)) else st)
  one_mod ws i x es ks v' w' z st apart o r keeps head at ec en h u e = by u e where
    old : WrittenModifier Scope
    old = record { name = x; args = es; names = ks; by = v' }

    new : WrittenModifier Scope
    new = record { name = x; args = es; names = ks; by = w' }

    counted : z.positional ≡ length (modifier_of app τ [] 0 (record { name = x; args = es; names = ks; by = w' })).args
    counted = ec ∙ (eval_count app σ _ v' es ∙ sym (eval_count app τ _ w' es))

    named : z.names ≡ map (λ y. y.0) (modifier_of app τ [] 0 (record { name = x; args = es; names = ks; by = w' })).names
    named = en ∙ (eval_names app σ _ v' ks ∙ sym (eval_names app τ _ w' ks))

    by : (u : Bool) → is_stale st z.spot.ref ≡ u
        → ModDone ws i (record { name = x; args = es; names = ks; by = w' }) z st
        (if u then note_updated z.id (put_thing (modifier_id z.id) (modifier_row (refreshed z (values_in (spot_pairs st z.spot.ref)) (st.look (modifier_id z.id)))) (evaluate z.spot.ref st)) else st)
    by true e =
        let new' : WrittenModifier Scope = record { name = x; args = es; names = ks; by = w' } in
        let old' : WrittenModifier Scope = record { name = x; args = es; names = ks; by = v' } in
        let count : Id → ℕ = λ q. hit q (modifier_id z.id) + occurs q z.spot.made in
        let is = stale_in app τ ms made z.spot (head_pairs ws) (modifier_pairs app σ old') (modifier_pairs app τ new') st h r.scope.cells (ap (λ y. pairs_for app τ (head_of (ws y))) r.scope.is ∙ head) in
        let st1 = evaluate z.spot.ref st in
        let y = modifier_row (refreshed z (values_in (spot_pairs st z.spot.ref)) (st.look (modifier_id z.id))) in
        let st2 = put_thing (modifier_id z.id) y st1 in
        let m1 = noted_move st _ count count z.spot.ref (put_moves st count (ref z.spot.ref) _ o (right_above _ _ h.own) (reads_same st z.spot.ref _ h.is.0)) in
        let m2 = put_moves st1 count (modifier_id z.id) y (owned_after st st1 count count m1) (left_above _ _ (hit_self (modifier_id z.id))) (λ l i e. tt) in
        let same : Same st1.look st2.look (λ q. occurs q z.spot.made) =
        (λ q a. let c = o.once q in ap (λ d. if d then Some y else st1.look q) (unhit q (modifier_id z.id) (omega (arith, c, a)))) in
        record {
          moves = modifier_noted st st2 count count z.id (then_move st st1 st2 count count count m1 m2);
          at =
              ap (λ d. if d then Some y else st1.look (modifier_id z.id)) (id_itself (modifier_id z.id))
              ∙ (ap (λ o'. Some (modifier_row (refreshed z (values_in (spot_pairs st z.spot.ref)) o'))) at
              ∙ ap Some (row_from τ i new' z.positional z.names (spot_pairs st z.spot.ref) counted named is));
          counted = counted;
          named = named;
          spotted = spot_stays_in app st1.look st2.look ms made z.spot (head_pairs ws) (modifier_pairs app τ new') (λ q a. ap (λ d. if d then Some y else st1.look q) (unhit q (modifier_id z.id) (apart q a))) same (evaluated_in app ms made z.spot (head_pairs ws) (modifier_pairs app σ old') (modifier_pairs app τ new') st h is);
        }
    by false e =
        let new' : WrittenModifier Scope = record { name = x; args = es; names = ks; by = w' } in
        let old' : WrittenModifier Scope = record { name = x; args = es; names = ks; by = v' } in
        let is = cold_in app ms made z.spot (head_pairs ws) (modifier_pairs app σ old') (modifier_pairs app τ new') st h keeps e in
        record {
          moves = same_moves st (λ q. hit q (modifier_id z.id) + occurs q z.spot.made) o;
          at = at ∙ ap Some (sym (row_from σ i old' z.positional z.names (modifier_pairs app σ old') ec en refl) ∙ row_from τ i new' z.positional z.names (modifier_pairs app σ old') counted named is);
          counted = counted;
          named = named;
          spotted = cold_spot_in app ms made z.spot (head_pairs ws) _ _ st.look h is;
        }

  pub record ModsDone (ws : Scope → List (WrittenModifier Scope)) (i : ℕ) (ys : List (WrittenModifier Scope)) (zs : List ModSpot) (st st' : State) : Type 0 where
    pub moves : Moves st st' (λ q. times_mods q zs) (λ q. times_mods q zs)
    pub stands : ModsStand app τ τ st'.look made n w ms ws i ys zs

  mods_less : (st st' : State) (c : CellsKeep app σ τ st) (c' : CellsKeep app σ τ st') → ((x : Source) → Cold st' x → Cold st x) → {xs ys : List (WrittenModifier Scope)}
      → Alike.KeepsModifiers (Cold st) app σ τ c xs ys → Alike.KeepsModifiers (Cold st') app σ τ c' xs ys
  mods_less st st' c c' less Alike.modifiers_none = Alike.modifiers_none
  mods_less st st' c c' less (Alike.modifiers_more h hs) = Alike.modifiers_more (scope_less (Cold st) (Cold st') less h) (mods_less st st' c c' less hs)

  mods_renew : (zs : List ModSpot) (ws : Scope → List (WrittenModifier Scope)) (i : ℕ) (xs ys : List (WrittenModifier Scope)) (st : State) → ws w ≡ ys → Owned st (λ q. occurs q made + times_mods q zs) → Owned st (λ q. times_mods q zs) → From b (λ q. times_mods q zs)
      → (r : Ready app σ τ b st ms v w) → Alike.KeepsModifiers (Cold st) app σ τ r.cells xs ys → ModsStand app σ τ st.look made n v ms ws i xs zs → ModsDone ws i ys zs st (renew_mods zs st)
  mods_renew [] ws i xs ys st e om o f r Alike.modifiers_none h = record { moves = same_moves st (λ q. 0) o; stands = tt }
  mods_renew [] ws i xs ys st e om o f r (Alike.modifiers_more g gs) h = absurd h
  mods_renew (z ∷ zs) ws i xs ys st e om o f r Alike.modifiers_none h = absurd h
  mods_renew (z ∷ zs) ws i xs ys st e om o f r (Alike.modifiers_more {n = x} {es = es} {ns = ks} {v = v'} {w = w'} {xs = xs'} {ys = ys'} g gs) h =
      let new : WrittenModifier Scope = record { name = x; args = es; names = ks; by = w' } in
      let ca : Id → ℕ = λ q. hit q (modifier_id z.id) + occurs q z.spot.made in
      let cb : Id → ℕ = λ q. times_mods q zs in
      let keeps = Alike.all-append (Cold st) app σ τ r.cells (eval_all_keeps (Cold st) app σ τ r.cells g es) (Alike.all-names (Cold st) app σ τ r.cells (eval_named_keeps (Cold st) app σ τ r.cells g ks)) in
      let cm : Id → ℕ = λ q. occurs q made in
      let k = one_mod ws i x es ks v' w' z st (λ q u. let a = om.once q in omega (arith, a, u)) (left_owned st ca cb o) r keeps (ap (λ y. pairs_for app τ (head_of y)) e) h.0 h.1 h.2 h.3 (is_stale st z.spot.ref) refl in
      let st1 = if is_stale st z.spot.ref then note_updated z.id (put_thing (modifier_id z.id) (modifier_row (refreshed z (values_in (spot_pairs st z.spot.ref)) (st.look (modifier_id z.id)))) (evaluate z.spot.ref st)) else st in
      let others = beside st st1 ca ca cb o k.moves in
      let oc = same_owned st (λ q. cm q + (ca q + cb q)) (λ q. ca q + (cm q + cb q)) (λ q. omega arith) om in
      let om1 = next_owned st st1 ca ca (λ q. cm q + cb q) oc k.moves in
      let kept1 : (q : Id) → 0 < cm q → st1.look q ≡ st.look q = (λ q u. beside st st1 ca ca (λ q. cm q + cb q) oc k.moves q (left_above _ _ u)) in
      let r1 = ready_goes app σ τ b st st1 ms v w ca ca r k.moves (from_left app σ τ b ca cb f) in
      let hs = mods_stay app st.look st1.look σ τ made n v ms (λ s'. tail_of (ws s')) (suc i) xs' zs kept1 others h.4 in
      let rest = mods_renew zs (λ s'. tail_of (ws s')) (suc i) xs' ys' st1 (ap tail_of e) om1 (next_owned st st1 ca ca cb o k.moves) (from_right app σ τ b ca cb f) r1
      (mods_less st st1 r.cells r1.cells k.moves.still gs) hs in
      let st2 = renew_mods zs st1 in
      let kept = before_it st st1 st2 ca ca cb cb o k.moves rest.moves in
      record {
        moves = both_move st st1 st2 ca ca cb cb o k.moves rest.moves;
        stands = (
          kept (modifier_id z.id) (left_above _ _ (hit_self (modifier_id z.id))) ∙ k.at,
          k.counted,
          k.named,
          spot_stays_in app st1.look st2.look ms made z.spot (head_pairs ws) (modifier_pairs app τ new) (idle_same app σ τ st1 st2 cm cb cb om1 rest.moves) (λ q a. kept q (right_above _ _ a)) k.spotted,
          rest.stands,
        );
      }

-- The element

-- a name that takes a live value stands among those that do
live_among : (test : Text → Bool) (k : Text) (ns : List Text) → has_text k ns ≡ true → test k ≡ true → has_text k (filter test ns) ≡ true
live_among test k [] e f = e
live_among test k (n ∷ ns) e f = by (bytes_eq k n) refl (test n) refl e (live_among test k ns) where
  by : (d : Bool) → bytes_eq k n ≡ d → (c : Bool) → test n ≡ c → (d || has_text k ns) ≡ true → (has_text k ns ≡ true → test k ≡ true → has_text k (filter test ns) ≡ true)
      → has_text k (cond c (n ∷ filter test ns) (filter test ns)) ≡ true
  by true g true h m rec = ap (λ d. d || has_text k (filter test ns)) g
  by true g false h m rec = absurd (true≢false (sym f ∙ (ap test (text_means k n g) ∙ h)))
  by false g true h m rec = ap (λ d. d || has_text k (filter test ns)) g ∙ rec m f
  by false g false h m rec = rec m f

-- two lists of attributes that agree on the names that are there
map_agrees : (f g : Text → Option Text) (ns : List Text) → ((k : Text) → has_text k ns ≡ true → f k ≡ g k) → map {B = Text × Option Text} (λ k. (k, f k)) ns ≡ map {B = Text × Option Text} (λ k. (k, g k)) ns
map_agrees f g [] same = refl
map_agrees f g (n ∷ ns) same =
    ap₂ (λ x xs. one x xs) (same n (ap (λ d. d || has_text n ns) (text_itself n)))
    (map_agrees f g ns (λ k e. same k (ap (λ d. bytes_eq k n || d) e ∙ or_true (bytes_eq k n)))) where
      one : Option Text → List (Text × Option Text) → List (Text × Option Text)
      one x xs = (n, x) ∷ xs

      or_true : (d : Bool) → (d || true) ≡ true
      or_true true = refl
      or_true false = refl

module _ (app : App) (σ τ : Store) where
  pub element_is : (m b : ℕ) (v w : Scope) (ms : MScope) (p : Path) (tag : Text) (ps : List Part) (c : t.Body) (n : ℕ) (made : List Id) (xs : List AttrSpot) (zs : List ModSpot) (ls : Lives) (st : State)
      → Owned st (λ q. times q (Live.element_live n made xs zs ls)) → From b (λ q. times q (Live.element_live n made xs zs ls))
      → Stands app σ τ st.look m b v ms p (t.element tag ps c) (Live.element_live n made xs zs ls) → Ready app σ τ b st ms v w
      → BodyRenews app σ τ m c ls
      → Renewed app σ τ m b w ms p (t.element tag ps c) st (Live.element_live n made xs zs ls) (renew app τ m ms p (t.element tag ps c) (Live.element_live n made xs zs ls) st)
  element_is m b v w ms p tag ps c n made xs zs ls st ow fw h r body =
      let V = attrs_by ps v in
      let W = attrs_by ps w in
      let all = distinct_names V in
      let test : Text → Bool = λ k. some_live (taken_values k V) in
      let test' : Text → Bool = λ k. some_live (taken_values k W) in
      let ns = filter test all in
      let cn : Id → ℕ = λ q. hit q (node n) in
      let ca : Id → ℕ = λ q. times_attrs q xs in
      let cb : Id → ℕ = λ q. times_in q ls in
      let cz : Id → ℕ = λ q. times_mods q zs in
      let front : Id → ℕ = λ q. cn q + ca q in
      let back : Id → ℕ = λ q. cb q + cz q in
      let cm : Id → ℕ = λ q. occurs q made in
      let whole : Id → ℕ = λ q. (cn q + (cm q + ca q)) + (cb q + cz q) in
      let o0 = same_owned st whole (λ q. cm q + (front q + back q)) (λ q. omega arith) ow in
      let o = right_owned st cm (λ q. front q + back q) o0 in
      let f : From b (λ q. front q + back q) = (λ q lt. let i = fw q lt in omega (arith, i)) in
      let of = same_owned st whole (λ q. front q + (cm q + back q)) (λ q. omega arith) ow in
      let om = left_owned st (λ q. cm q + front q) back (same_owned st whole (λ q. (cm q + front q) + back q) (λ q. omega arith) ow) in
      let keeps = Alike.keeps-attributes (Cold st) app σ τ r.cells (Alike.keeps-written (Cold st) app σ τ r.cells r.keeps ps) in
      let taken = λ (k : Text). Alike.keeps-taken (Cold st) app σ τ r.cells keeps k in
      let a = attrs_renew app σ τ b v w ms ps made n tag all ns xs st (old_value app σ τ b v w ms ps made n tag all) om (left_owned st front back o) (from_left app σ τ b front back f) r h.1 h.0 (λ k. inl refl) in
      let st1 = renew_attrs n xs st in
      let names = KeepParts.same-names (Cold st) app σ τ r.cells keeps in
      let tests : test ≡ test' = fun_ext (λ k. KeepParts.same-live (Cold st) app σ τ r.cells (taken k)) in
      let right : (k : Text) → has_text k all ≡ true → a.now k ≡ new_value app σ τ b v w ms ps made n tag all k =
      (λ k e. a.done k (by_live k test all e (some_live (taken_values k V)) refl (λ g. ap attribute_value (KeepParts.same-fixed (Cold st) app σ τ r.cells (taken k) g)))) in
      let attrs = map_agrees a.now (new_value app σ τ b v w ms ps made n tag all) all right in
      let shown1 : st1.look (node n) ≡ Some (content (element_content tag (attrs_from W (taken_pairs app τ W)))) =
      a.is ∙ (ap (λ u. Some (content (element_content tag u))) attrs ∙ ap (λ u. Some (content (element_content tag (map (λ k. (k, new_value app σ τ b v w ms ps made n tag all k)) u)))) names) in
      let others = beside st st1 front front back o a.moves in
      let r1 = ready_goes app σ τ b st st1 ms v w front front r a.moves (from_left app σ τ b front back f) in
      let fb = from_right app σ τ b front back f in
      let ob = next_owned st st1 front front back o a.moves in
      let inside = stay_in app st.look st1.look σ τ m b v ms p 0 c ls (λ q e. others q (left_above _ _ e)) h.3 in
      let g = body b v w ms p 0 st1 (left_owned st1 cb cz ob) (from_left app σ τ b cb cz fb) inside r1 in
      let y = renew_body app τ m ms p 0 c ls st1 in
      let st2 = y.1 in
      let cb' : Id → ℕ = λ q. times_in q y.0 in
      let r2 = ready_goes app σ τ b st1 st2 ms v w cb cb' r1 g.moves (from_left app σ τ b cb cz fb) in
      let made1 : (q : Id) → 0 < cm q → st1.look q ≡ st.look q = (λ q e. beside st st1 front front (λ q. cm q + back q) of a.moves q (left_above _ _ e)) in
      let ob1 = same_owned st1 (λ q. cm q + back q) (λ q. cb q + (cm q + cz q)) (λ q. omega arith) (next_owned st st1 front front (λ q. cm q + back q) of a.moves) in
      let made2 : (q : Id) → 0 < cm q → st2.look q ≡ st1.look q = (λ q e. beside st1 st2 cb cb' (λ q. cm q + cz q) ob1 g.moves q (left_above _ _ e)) in
      let om2 = next_owned st1 st2 cb cb' (λ q. cm q + cz q) ob1 g.moves in
      let mods1 = mods_stay app st.look st1.look σ τ made n v ms (mods_by ps) 0 (mods_by ps v) zs made1 (λ q e. others q (right_above _ _ e)) h.2 in
      let mods2 = mods_stay app st1.look st2.look σ τ made n v ms (mods_by ps) 0 (mods_by ps v) zs made2 (beside st1 st2 cb cb' cz ob g.moves) mods1 in
      let d = mods_renew app σ τ b v w ms made n zs (mods_by ps) 0 (mods_by ps v) (mods_by ps w) st2 refl om2 (next_owned st1 st2 cb cb' cz ob g.moves) (from_right app σ τ b cb cz fb) r2
      (Alike.keeps-modifiers (Cold st2) app σ τ r2.cells (Alike.keeps-written (Cold st2) app σ τ r2.cells r2.keeps ps)) mods2 in
      let st3 = renew_mods zs st2 in
      let back' : Id → ℕ = λ q. cb' q + cz q in
      let made3 = idle_same app σ τ st2 st3 cm cz cz om2 d.moves in
      let m13 = both_move st1 st2 st3 cb cb' cz cz ob g.moves d.moves in
      let kept = before_it st st1 st3 front front back back' o a.moves m13 in
      record {
        moves = recount st st3 whole (λ q. cm q + (front q + back q)) (λ q. (cn q + (cm q + ca q)) + (cb' q + cz q)) (λ q. cm q + (front q + back' q)) (λ q. omega arith) (λ q. omega arith)
            (idle_before app σ τ st st3 cm (λ q. front q + back q) (λ q. front q + back' q) o0 (both_move st st1 st3 front front back back' o a.moves m13));
        stands = (
          kept (node n) (left_above _ _ (hit_self (node n))) ∙ shown1,
          attrs_stay app st1.look st3.look τ τ made w ms (attrs_by ps) (filter test' (distinct_names W)) xs (λ q e. made3 q e ∙ made2 q e) (λ q e. kept q (right_above _ _ e))
              (subst (λ u. AttrsStand app τ τ st1.look made w ms (attrs_by ps) u xs) (ap₂ (λ u us. filter u us) tests names) a.stands),
          d.stands,
          stay_in app st2.look st3.look τ τ m b w ms p 0 c y.0 (before_it st1 st2 st3 cb cb' cz cz ob g.moves d.moves) g.stands,
        );
        nodes = refl;
        keeps = (refl, refl, refl, refl, keep_less st.next st1.next (next_more app σ τ st st1 front front a.moves) ls y.0 g.keeps);
      }
    where
      by_live : (k : Text) (test : Text → Bool) (all : List Text) → has_text k all ≡ true → (u : Bool) → test k ≡ u → {A : Type 0} → (u ≡ false → A) → (has_text k (filter test all) ≡ true) ⊎ A
      by_live k test all e true g {A} fixed = inl (live_among test k all e g)
      by_live k test all e false g {A} fixed = inr (fixed refl)
