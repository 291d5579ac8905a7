-- Whether a position is stale, by tags and by the state.
use Rattle.std.proofs.Common.{◌≡◌, ◌≢◌, ℕ, zero, suc, ◌-◌, ◌<◌, ◌≤◌, max, Bool, true, false, Option, Some, None, option_map, IsSome, IsTrue, List, [], ◌∷◌, map, refl, sym, ap, subst, ◌∙◌, inl, inr, ◌⊎◌, arith}
use Rattle.std.specs.Prelude.{◌&&◌, ◌||◌, ◌==◌, not, IfSome, ◌↔◌}
use Rattle.std.specs.List.{list_any}
use Rattle.std.proofs.lemmas.Bool.{cases_eq}
use Rattle.gl_arena.specs.Id.{Id, same_id}
use Rattle.gl_arena.specs.Arena.{named, by_stamp, IsStamped}
use Rattle.gl_arena.proofs.Stamps.{by_stamp-id, by_stamp-live}
use Rattle.gl_tags.specs.Tags as t
use Rattle.gl_tags.proofs.Greatest.{lead_below}
use Rattle.gl_refs.specs.Forms as f
use Rattle.gl_refs.specs.State as s
use Rattle.gl_refs.specs.Refs.{Refs, rows_of, forms_of, CanAsk}
use Rattle.gl_refs.proofs.Rows.{combined_is}
use Rattle.gl_meaning.specs.Scope.{Source}
use Rattle.gl_plain.specs.State.{row}
use Rattle.gl_plain.specs.Renew.{last_of as told, is_stale}
use Rattle.gl_vm.specs.Labels.{label}
use Rattle.gl_vm.specs.Kept.{some_below}
use Rattle.gl_vm.specs.Led.{IsReached, IsTelling, Led}
use Rattle.gl_vm.specs.View.{Tables, is_led, form_led, last_led, last_of, seen_row, state_of, AgreesAt, Agrees}
use Rattle.gl_vm.specs.declared.vm.Vm.{Vm}
use Rattle.gl_vm.proofs.States.{test_yes}
use Rattle.gl_vm.proofs.Settled.{some_row, position_ids}
use Rattle.gl_vm.proofs.Asks.{placed_is}
use Rattle.gl_vm.proofs.Sources.{last_combined, source_dirtyable}
use Rattle.gl_vm.proofs.Begins.{revision_low}
use Rattle.gl_refs.proofs.Reaching.{each_in}
use Rattle.gl_vm.proofs.Reached.{pick}

as_not : (b c : Bool) → (b ≡ true → IsTrue c → ⊥) → (b ≡ false → IsTrue c) → b ≡ not c
as_not true true f g = absurd (f refl refl)
as_not true false f g = refl
as_not false true f g = refl
as_not false false f g = let no : false ≡ true = g refl in absurd (cc)

-- one that passes
found_below : (test : ℕ → Bool) (n : ℕ) → some_below test n ≡ true → (k : ℕ) × (test k ≡ true)
found_below test zero e = let no : false ≡ true = e in absurd (cc)
found_below test (suc n) e = by (test n) refl e (λ h. found_below test n h) where
  by : (b : Bool) → test n ≡ b → (b || some_below test n) ≡ true → (some_below test n ≡ true → (k : ℕ) × (test k ≡ true)) → (k : ℕ) × (test k ≡ true)
  by true q h r = (n, q)
  by false q h r = r h

-- none passes
none_below : (test : ℕ → Bool) (n : ℕ) → some_below test n ≡ false → (k : ℕ) → k < n → test k ≡ false
none_below test zero e k lt = absurd (omega (arith, lt))
none_below test (suc n) e k lt = by (cases_eq k n) (λ h lt. none_below test n h k lt) where
  left : (a b : Bool) → (a || b) ≡ false → a ≡ false
  left false b e = refl
  left true b e = e

  right : (a b : Bool) → (a || b) ≡ false → b ≡ false
  right false b e = e
  right true b e = let no : true ≡ false = e in absurd (cc)

  by : (k ≡ n) ⊎ (k ≢ n) → (some_below test n ≡ false → k < n → test k ≡ false) → test k ≡ false
  by (inl q) r = ap test q ∙ left (test n) (some_below test n) e
  by (inr ne) r = r (right (test n) (some_below test n) e) (omega (arith, ne, lt))

both : (a b : Bool) → (a && b) ≡ true → (a ≡ true) × (b ≡ true)
both true true e = (refl, refl)
both true false e = let no : false ≡ true = e in absurd (cc)
both false b e = let no : false ≡ true = e in absurd (cc)

same_number : (a b : ℕ) → (a == b) ≡ true → a ≡ b
same_number a b e = grind arith

within_each : (g : Id → ℕ) (bound : ℕ) (xs : List Id) (n : ℕ) → n ≤ bound → f.Each (λ k. g k ≤ bound) xs → t.greatest_from n (map g xs) ≤ bound
within_each g bound [] n h e = h
within_each g bound (x ∷ xs) n h e = let le = e.0 in within_each g bound xs (max n (g x)) (omega (arith, h, le)) e.1

dirty_revision : (tags : t.Tags) (o : Option t.Tag) → t.is_dirtyable o ≡ true → t.value_by t.revision tags.tags o ≡ t.revision o
dirty_revision tags (Some (t.dirtyable r o)) e = refl
dirty_revision tags (Some t.constant) e = let no : false ≡ true = e in absurd (cc)
dirty_revision tags (Some (t.combined ls)) e = let no : false ≡ true = e in absurd (cc)
dirty_revision tags None e = let no : false ≡ true = e in absurd (cc)

led_source : (leads : List Id) (o : Option s.Row) → is_led leads o ≡ true → (x : s.Row) × (q : Bool) × (u : Id) × (v : f.V) × (o ≡ Some x) × (x.form ≡ f.source_form q u v) × (list_any (same_id u) leads ≡ true)
led_source leads None e = let no : false ≡ true = e in absurd (cc)
led_source leads (Some x) e = by x.form refl e where
  by : (g : f.Form) → x.form ≡ g → form_led leads g ≡ true → (y : s.Row) × (q : Bool) × (u : Id) × (v : f.V) × (Some x ≡ Some y) × (y.form ≡ f.source_form q u v) × (list_any (same_id u) leads ≡ true)
  by (f.source_form q u v) b e = (x, q, u, v, refl, b, e)
  by (f.constant_form v) b e = let no : false ≡ true = e in absurd (cc)
  by (f.prop_form i n) b e = let no : false ≡ true = e in absurd (cc)
  by (f.call_form h ids ns) b e = let no : false ≡ true = e in absurd (cc)
  by (f.cat_form ids) b e = let no : false ≡ true = e in absurd (cc)
  by (f.all_form ids) b e = let no : false ≡ true = e in absurd (cc)

module _ (vm : Vm) (id : Id) (ids : List Id) (stamped : IsStamped vm.refs.rows) (sound : s.IsSound vm.refs.tags (rows_of vm.refs)) (is : forms_of vm.refs id ≡ Some (f.all_form ids)) (n : Tables) (touched : Source → Bool) (a : Agrees touched vm) where
  abbrev r : Refs
  r = vm.refs

  abbrev rows : ℕ → Option s.Row
  rows = by_stamp r.rows

  there : (x : s.Row) × (rows_of r id ≡ Some x) × (x.form ≡ f.all_form ids)
  there = some_row (rows_of r id) (f.all_form ids) is

  stale_is : is_stale (state_of n vm touched) id.1 ≡ last_led r.tags rows r.rows.made there.0.last touched
  stale_is =
      ap (λ o. told (option_map row (option_map (seen_row r.tags rows r.rows.made id.1) o)) touched) (by_stamp-live r.rows id there.0 stamped there.1)
      ∙ ap (λ g. last_of r.tags rows r.rows.made g there.0.last touched) there.2

  valid_is : (since : ℕ) → s.IsValid r.tags since (rows_of r id) ≡ s.IsValidLast r.tags since there.0.last
  valid_is since = ap (s.IsValid r.tags since) there.1 ∙ ap (λ g. s.IsValidForm r.tags since g there.0.last) there.2

  abbrev revision_of : Id → ℕ
  revision_of u = t.revision (t.tag_at r.tags u)

  module _ (l : s.Last) (last : there.0.last ≡ Some l) where
    leads : (ls : List Id) × (t.tag_at r.tags l.tag ≡ Some (t.combined ls))
    leads = combined_is (t.tag_at r.tags l.tag) (last_combined r stamped sound id.1 there.0 l (by_stamp-live r.rows id there.0 stamped there.1) last (ap s.is_bound there.2))

    abbrev ls : List Id
    ls = leads.0

    value_is : t.value_of r.tags l.tag ≡ t.greatest_from 0 (map revision_of ls)
    value_is = ap (t.value_by t.revision r.tags.tags) leads.1

    led_is : t.leads_of r.tags.tags l.tag ≡ ls
    led_is = ap (t.leads_by l.tag) leads.1

    -- a touched source that the position read has the revision of this turn
    revision_now : (k : ℕ) (x : s.Row) (q : Bool) (u : Id) (v : f.V) → rows k ≡ Some x → x.form ≡ f.source_form q u v → touched (label k) ≡ (revision_of u == r.tags.clock)
    revision_now k x q u v e b =
        let d = source_dirtyable r stamped sound k x q u v e b in
        subst (AgreesAt r touched k) b (a k x e) ∙ ap (λ m. m == r.tags.clock) (dirty_revision r.tags (t.tag_at r.tags u) d)

    found_now : last_led r.tags rows r.rows.made (Some l) touched ≡ true → (since : ℕ) → since < r.tags.clock → t.value_of r.tags l.tag ≤ since → ⊥
    found_now e since lt le =
        let k = found_below (λ k. is_led (t.leads_of r.tags.tags l.tag) (rows k) && touched (label k)) r.rows.made e in
        let b = both (is_led (t.leads_of r.tags.tags l.tag) (rows k.0)) (touched (label k.0)) k.1 in
        let x = led_source (t.leads_of r.tags.tags l.tag) (rows k.0) b.0 in
        let same = same_number (revision_of x.2) r.tags.clock (sym (revision_now k.0 x.0 x.1 x.2 x.3 x.4 x.5) ∙ b.1) in
        let high = lead_below revision_of x.2 ls (ap (list_any (same_id x.2)) (sym led_is) ∙ x.6) 0 in
        let at = value_is in
        omega (arith, lt, le, same, high, at)

    none_now : last_led r.tags rows r.rows.made (Some l) touched ≡ false → f.Each (IsReached r id) ls → 0 < r.tags.clock → t.value_of r.tags l.tag ≤ r.tags.clock - 1
    none_now e held begun = subst (λ m. m ≤ r.tags.clock - 1) (sym value_is) (within_each revision_of (r.tags.clock - 1) ls 0 (omega arith) (each_in (λ u. revision_of u ≤ r.tags.clock - 1) ls low)) where
      low : (u : Id) → list_any (same_id u) ls ≡ true → t.revision (t.tag_at r.tags u) ≤ r.tags.clock - 1
      low u h =
          let d = pick (IsReached r id) ls held u h in
          let x : s.Row = record { form = f.source_form d.is.kind u d.is.was; last = d.is.last } in
          let here = by_stamp-live r.rows d.source x stamped d.is.is in
          let lt = stamped.below d.source (subst IsSome (sym d.is.is) refl) in
          let off = none_below (λ k. is_led (t.leads_of r.tags.tags l.tag) (rows k) && touched (label k)) r.rows.made e d.source.1 lt in
          let led : is_led (t.leads_of r.tags.tags l.tag) (rows d.source.1) ≡ true = ap (is_led (t.leads_of r.tags.tags l.tag)) here ∙ (ap (list_any (same_id u)) led_is ∙ h) in
          let dirty = source_dirtyable r stamped sound d.source.1 x d.is.kind u d.is.was here refl in
          let ne : (revision_of u == r.tags.clock) ≡ false = sym (revision_now d.source.1 x d.is.kind u d.is.was here refl) ∙ (sym (ap (λ b. b && touched (label d.source.1)) led) ∙ off) in
          let le = revision_low r.tags u sound.tags_sound dirty in
          let is_value = dirty_revision r.tags (t.tag_at r.tags u) dirty in
          lower (revision_of u) r.tags.clock ne (subst (λ m. m ≤ r.tags.clock) is_value le) begun where
            lower : (m c : ℕ) → (m == c) ≡ false → m ≤ c → 0 < c → m ≤ c - 1
            lower m c ne le p = let d : m ≢ c = (λ q. let no : false ≡ true = sym ne ∙ test_yes c m q in cc) in omega (arith, le, p, d)

  -- where tags say that nothing was touched, nothing was
  pub fresh : (since : ℕ) → since < r.tags.clock → s.IsValid r.tags since (rows_of r id) → is_stale (state_of n vm touched) id.1 ≡ true → ⊥
  fresh since lt v e = by there.0.last refl (subst (λ (T : Type 0). T) (valid_is since) v) (sym stale_is ∙ e) where
    by : (o : Option s.Last) → there.0.last ≡ o → s.IsValidLast r.tags since there.0.last → last_led r.tags rows r.rows.made there.0.last touched ≡ true → ⊥
    by None q v e = subst (s.IsValidLast r.tags since) q v
    by (Some l) q v e = found_now l q (sym (ap (λ o. last_led r.tags rows r.rows.made o touched) q) ∙ e) since lt (subst (s.IsValidLast r.tags since) q v)

  -- and the other way round
  pub calm : IsTelling r id → is_stale (state_of n vm touched) id.1 ≡ false → s.IsValid r.tags (r.tags.clock - 1) (rows_of r id)
  calm h e = subst (λ (T : Type 0). T) (sym (valid_is (r.tags.clock - 1))) (by there.0.last refl (sym stale_is ∙ e)) where
    tagged : s.form_tagged (f.all_form ids) there.0.last ≡ true
    tagged = sym (ap (λ g. s.form_tagged g there.0.last) there.2) ∙ (sym (ap s.has_tag there.1) ∙ h.evaluated)

    by : (o : Option s.Last) → there.0.last ≡ o → last_led r.tags rows r.rows.made there.0.last touched ≡ false → s.IsValidLast r.tags (r.tags.clock - 1) there.0.last
    by None q e = let no : false ≡ true = sym (ap (s.form_tagged (f.all_form ids)) q) ∙ tagged in absurd (cc)
    by (Some l) q e =
        subst (s.IsValidLast r.tags (r.tags.clock - 1)) (sym q)
        (none_now l q (sym (ap (λ o. last_led r.tags rows r.rows.made o touched) q) ∙ e)
        (subst (f.Each (IsReached r id)) (led_is l q) (h.led id ids l (there.1 ∙ λ z. Some (record { form = there.2 z; last = q z })))) h.begun)

  module _ (now : ℕ) (clock : now ≡ r.tags.clock) (b : Bool) (valid : IsTrue b → s.IsValid r.tags (now - 1) (rows_of r id)) where
    lower : 0 < now → now - 1 < r.tags.clock
    lower p = omega (arith, p, clock)

    stale_exact : 0 < now → (s.IsValid r.tags (now - 1) (rows_of r id) → IsTrue b) → IsTelling r id → is_stale (state_of n vm touched) id.1 ≡ not b
    stale_exact p back h = as_not (is_stale (state_of n vm touched) id.1) b (λ e t. fresh (now - 1) (lower p) (valid t) e) (λ e. back (subst (λ m. s.IsValid r.tags (m - 1) (rows_of r id)) (sym clock) (calm h e)))

-- what is quiet isn't stale
pub quiet_fresh : (vm : Vm) (k : ℕ) → IsStamped vm.refs.rows → s.IsSound vm.refs.tags (rows_of vm.refs)
    → ((i : Id) → i.1 ≡ k → s.is_position (rows_of vm.refs i) ≡ true → (0 < vm.refs.tags.clock) × s.IsValid vm.refs.tags (vm.refs.tags.clock - 1) (rows_of vm.refs i))
    → (n : Tables) (touched : Source → Bool) → Agrees touched vm → is_stale (state_of n vm touched) k ≡ false
quiet_fresh vm k stamped sound quiet n touched a = by (by_stamp vm.refs.rows k) refl where
  placed : (i : Id) (x : s.Row) (ids : List Id) → i.1 ≡ k → rows_of vm.refs i ≡ Some x → x.form ≡ f.all_form ids → s.is_position (Some x) ≡ true → (b : Bool) → is_stale (state_of n vm touched) k ≡ b → b ≡ false
  placed i x ids same is form p false e = refl
  placed i x ids same is form p true e =
      let q = quiet i same (ap s.is_position is ∙ p) in
      let lt = q.0 in
      absurd (fresh vm i ids stamped sound (ap (option_map (λ (y : s.Row). y.form)) is ∙ ap (λ g. Some g) form) n touched a (vm.refs.tags.clock - 1) (omega (arith, lt)) q.1 (ap (is_stale (state_of n vm touched)) same ∙ e))

  by : (o : Option s.Row) → by_stamp vm.refs.rows k ≡ o → is_stale (state_of n vm touched) k ≡ false
  by None e = ap (λ o. told (option_map row (option_map (seen_row vm.refs.tags (by_stamp vm.refs.rows) vm.refs.rows.made k) o)) touched) e
  by (Some x) e = kind x.form x.last refl refl (by_stamp-id vm.refs.rows k x e) where
    value : is_stale (state_of n vm touched) k ≡ last_of vm.refs.tags (by_stamp vm.refs.rows) vm.refs.rows.made x.form x.last touched
    value = ap (λ o. told (option_map row (option_map (seen_row vm.refs.tags (by_stamp vm.refs.rows) vm.refs.rows.made k) o)) touched) e

    at_form : (g : f.Form) → x.form ≡ g → is_stale (state_of n vm touched) k ≡ last_of vm.refs.tags (by_stamp vm.refs.rows) vm.refs.rows.made g x.last touched
    at_form g q = value ∙ ap (λ g. last_of vm.refs.tags (by_stamp vm.refs.rows) vm.refs.rows.made g x.last touched) q

    kind : (g : f.Form) (l : Option s.Last) → x.form ≡ g → x.last ≡ l → (i : Id) × (i.1 ≡ k) × (named vm.refs.rows i ≡ Some x) → is_stale (state_of n vm touched) k ≡ false
    kind (f.constant_form v) l q h i = at_form (f.constant_form v) q
    kind (f.source_form m u v) l q h i = at_form (f.source_form m u v) q
    kind (f.prop_form y m) l q h i = at_form (f.prop_form y m) q
    kind (f.call_form m ids ns) l q h i = at_form (f.call_form m ids ns) q
    kind (f.cat_form ids) l q h i = at_form (f.cat_form ids) q
    kind (f.all_form ids) None q h i = at_form (f.all_form ids) q ∙ ap (λ o. last_of vm.refs.tags (by_stamp vm.refs.rows) vm.refs.rows.made (f.all_form ids) o touched) h
    kind (f.all_form ids) (Some l) q h i = placed i.0 x ids i.1 i.2 q (ap (λ g. s.form_placed g x.last) q ∙ ap (λ o. s.form_placed (f.all_form ids) o) h) (is_stale (state_of n vm touched) k) refl

-- not not
twice : (b : Bool) → not (not b) ≡ b
twice true = refl
twice false = refl

-- what an answer tells of the state
pub told_stale : (vm : Vm) (id : Id) (o : Option Bool) → IsStamped vm.refs.rows → s.IsSound vm.refs.tags (rows_of vm.refs) → (IsSome o → CanAsk vm.refs id)
    → IfSome o (λ b. IsTrue (not b) ↔ s.IsValid vm.refs.tags (vm.refs.tags.clock - 1) (rows_of vm.refs id)) → Led vm.refs
    → IfSome o (λ b. (n : Tables) (touched : Source → Bool) → Agrees touched vm → is_stale (state_of n vm touched) id.1 ≡ b)
told_stale vm id None stamped sound can v led = tt
told_stale vm id (Some b) stamped sound can v led = λ n touched a.
    let c = can refl in
    let p = placed_is (rows_of vm.refs id) c.position in
    let q = position_ids (forms_of vm.refs id) p.0 in
    stale_exact vm id q.0 stamped sound q.1 n touched a vm.refs.tags.clock refl (not b) v.0 c.begun v.1 (record { begun = c.begun; evaluated = p.1; led = led }) ∙ twice b
