-- A set leaves each kept value right.
use Rattle.std.proofs.Common.{◌≡◌, ◌≢◌, ℕ, ◌+◌, ◌<◌, ◌≤◌, Bool, true, false, List, [], ◌∷◌, map, Option, Some, None, option_map, IsSome, refl, sym, subst, ◌∙◌, ap, arith, ◌⊎◌, inl, inr}
use Rattle.std.specs.List.{list_any}
use Rattle.std.specs.Prelude.{◌||◌}
use Rattle.std.proofs.lemmas.Bool.{or_parts}
use Rattle.gl_arena.specs.Id.{Id, same_id}
use Rattle.gl_arena.specs.Arena.{named, with_value}
use Rattle.gl_arena.proofs.Ids.{id_cases, same_id-refl}
use Rattle.gl_arena.proofs.Values.{Writes, with_value-writes}
use Rattle.gl_tags.specs.Tags as t
use Rattle.gl_tags.proofs.Greatest.{lead_below}
use Rattle.gl_value.specs.Value.{undefined}
use Rattle.gl_refs.specs.Forms.{V, Form, constant_form, source_form, prop_form, call_form, cat_form, all_form, own_sources, form_or, form_at, meaning, Like, AreLower, is_known, AreKnown, parts, Each}
use Rattle.gl_refs.specs.State.{Last, Row, Rows, forms, kept_row, kept_pair, IsRight, own_tag, is_combined, LastFits, RowFits, is_bound, last_tag, IsSource, Reaches, CombinedOwned, IsSound, Sets}
use Rattle.gl_refs.proofs.Meanings.{cold, each_map}
use Rattle.gl_refs.proofs.Rows.{combined_is, bound_fits, row_right, was_right, some_is}
use Rattle.gl_refs.proofs.Reaching.{reach_more}
use Rattle.gl_refs.proofs.Leading.{not_both, last_combined, leads_kept}

pub reads_stay : (f : Id → ℕ) (g : Id → ℕ) (s : Id) → ((k : Id) → k ≢ s → g k ≡ f k) → (leads : List Id) → list_any (same_id s) leads ≡ false → map g leads ≡ map f leads
reads_stay f g s h [] e = refl
reads_stay f g s h (x ∷ xs) e =
    let p = or_parts (same_id s x) (list_any (same_id s) xs) e in
    rw (h x (λ q. absurd (let n : true ≡ false = sym (same_id-refl s) ∙ (ap (same_id s) (sym q) ∙ p.0) in cc)), reads_stay f g s h xs p.1) refl

abbrev row_of : Option Row → Form
row_of None = constant_form undefined
row_of (Some r) = r.form

bound_no : (r : Row) {k : Bool} {s : Id} {v : V} {l : Option Last} → Some r ≡ Some (record { form = source_form k s v; last = l }) → is_bound r.form ≡ true → ⊥
bound_no r {k} {s} {v} {l} e b = let n : false ≡ true = sym (ap (λ o. is_bound (row_of o)) e) ∙ b in cc

module _ (tags tags' : t.Tags) (rows rows' : Rows) (c : Id) (value : V) (sound : IsSound tags rows) (s : Sets tags tags' rows rows' c value) where
  live : t.is_dirtyable (named tags.tags s.tag) ≡ true
  live = sound.fits c (record { form = source_form s.kind s.tag s.was; last = s.last }) s.old

  some_live : (o : Option t.Tag) → t.is_dirtyable o ≡ true → IsSome o
  some_live None e = absurd (let n : false ≡ true = e in cc)
  some_live (Some x) e = refl

  written : Writes tags.tags (with_value tags.tags s.tag (t.dirtyable tags.clock (tags.count + 1))) s.tag (t.dirtyable tags.clock (tags.count + 1))
  written = with_value-writes tags.tags s.tag (t.dirtyable tags.clock (tags.count + 1)) (some_live (named tags.tags s.tag) live)

  tag_given : named tags'.tags s.tag ≡ Some (t.dirtyable tags.clock (tags.count + 1))
  tag_given = ap (λ (x : t.Tags). named x.tags s.tag) s.dirtied ∙ written.given

  pub tag_others : (k : Id) → k ≢ s.tag → named tags'.tags k ≡ named tags.tags k
  tag_others k ne = ap (λ (x : t.Tags). named x.tags k) s.dirtied ∙ written.others k ne

  pub touches : (i : Id) → (form_at (forms rows') i ≡ form_at (forms rows) i) ⊎ (list_any (same_id s.tag) (own_sources (form_at (forms rows) i)) ≡ true)
  touches i = by (id_cases i c) where
    by : (i ≡ c) ⊎ (i ≢ c) → (form_at (forms rows') i ≡ form_at (forms rows) i) ⊎ (list_any (same_id s.tag) (own_sources (form_at (forms rows) i)) ≡ true)
    by (inl e) = inr (ap (λ k. list_any (same_id s.tag) (own_sources (form_at (forms rows) k))) e
        ∙ (ap (λ o. list_any (same_id s.tag) (own_sources (form_or (option_map (λ (r : Row). r.form) o)))) s.old ∙ ap (λ b. b || false) (same_id-refl s.tag)))
    by (inr ne) = inl (ap (λ o. form_or (option_map (λ (r : Row). r.form) o)) (s.others i ne))

  -- what a combined tag other than the set source's leads to, where it may still be used
  unled : (u : Id) (leads : List Id) (order : ℕ) → named tags.tags u ≡ Some (t.combined leads) → order ≤ tags.count → t.order_of tags' u ≤ order → list_any (same_id s.tag) leads ≡ false
  unled u leads order e le h = by (list_any (same_id s.tag) leads) refl where
    ne : u ≢ s.tag
    ne q = absurd (let n : false ≡ true = sym (ap t.is_dirtyable (ap (named tags.tags) (sym q) ∙ e)) ∙ live in cc)

    by : (b : Bool) → list_any (same_id s.tag) leads ≡ b → b ≡ false
    by false d = refl
    by true d =
        let g = lead_below (λ k. t.order (named tags'.tags k)) s.tag leads d 0 in
        let o = ap t.order tag_given in
        let v = ap (t.value_by t.order tags'.tags) (tag_others u ne ∙ e) in
        absurd (omega (arith, g, o, v, h, le))

  leads_stay : (u : Id) (leads : List Id) (f : Option t.Tag → ℕ) → named tags.tags u ≡ Some (t.combined leads) → list_any (same_id s.tag) leads ≡ false → t.value_by f tags'.tags (named tags'.tags u) ≡ t.value_by f tags.tags (named tags.tags u)
  leads_stay u leads f e h =
      let ne : u ≢ s.tag = λ q. absurd (let n : false ≡ true = sym (ap t.is_dirtyable (ap (named tags.tags) (sym q) ∙ e)) ∙ live in cc) in
      ap (t.value_by f tags'.tags) (tag_others u ne ∙ e)
      ∙ ap (t.greatest_from 0) (reads_stay (λ k. f (named tags.tags k)) (λ k. f (named tags'.tags k)) s.tag (λ k n. ap f (tag_others k n)) leads h)
      ∙ sym (ap (t.value_by f tags.tags) e)

  -- the last evaluation of another reference, where it is still fresh
  other_right : (i : Id) (g : Form) (l : Last) → rows i ≡ Some (record { form = g; last = Some l }) → is_bound g ≡ true → t.order_of tags' l.tag ≤ l.order
      → Like (kept_pair tags' (record { value = l.value; tag = l.tag })) (meaning (forms rows') i)
  other_right i g l e b h =
      let f = bound_fits tags g (Some l) b (sound.fits i (record { form = g; last = Some l }) e) in
      by f (combined_is (named tags.tags l.tag) f.0) where
        by : (is_combined (named tags.tags l.tag) ≡ true) × (l.order ≤ tags.count) → (leads : List Id) × (named tags.tags l.tag ≡ Some (t.combined leads)) → Like (kept_pair tags' (record { value = l.value; tag = l.tag })) (meaning (forms rows') i)
        by f (leads, d) =
            let u = unled l.tag leads l.order d f.1 h in
            let o = leads_stay l.tag leads t.order d u in
            let w = was_right tags rows i g l sound.right e b (omega (arith, o, h)) in
            let c = cold (same_id s.tag) (forms rows) (forms rows') touches i (sym (w.sources (same_id s.tag)) ∙ (ap (λ x. list_any (same_id s.tag) (t.leads_by l.tag x)) d ∙ u)) in
            let ne : l.tag ≢ s.tag = λ q. absurd (let n : false ≡ true = sym (ap t.is_dirtyable (ap (named tags.tags) (sym q) ∙ d)) ∙ live in cc) in
            record {
              value = w.value ∙ ap (λ p. p.value) (sym c);
              sources = λ p. ap (λ x. list_any p (t.leads_by l.tag x)) (tag_others l.tag ne) ∙ (w.sources p ∙ ap (λ q. list_any p q.sources) (sym c));
            }

  still_stays : named tags'.tags tags'.still ≡ Some t.constant
  still_stays =
      let ne : tags.still ≢ s.tag = λ q. absurd (let n : false ≡ true = sym (ap t.is_dirtyable (ap (named tags.tags) (sym q) ∙ sound.tags_sound.still)) ∙ live in cc) in
      ap (λ (x : t.Tags). named tags'.tags x.still) s.dirtied ∙ (tag_others tags.still ne ∙ sound.tags_sound.still)

  pub set_right : ((i : Id) (r : Row) → rows' i ≡ Some r → RowFits tags' r.form r.last) → IsRight tags' rows'
  set_right fits i k h = by (rows' i) refl (id_cases i c) where
    by : (o : Option Row) → rows' i ≡ o → (i ≡ c) ⊎ (i ≢ c) → Like (kept_pair tags' k) (meaning (forms rows') i)
    by None e q = absurd (let n : None ≡ Some k = sym (ap (kept_row tags') e) ∙ h in cc)
    by (Some r) e q = row_right tags' rows' still_stays i r.form r.last e (fits i r e) (λ l b f d. last l b f d q) k h where
      last : (l : Last) → is_bound r.form ≡ true → r.last ≡ Some l → t.order_of tags' l.tag ≤ l.order → (i ≡ c) ⊎ (i ≢ c) → Like (kept_pair tags' (record { value = l.value; tag = l.tag })) (meaning (forms rows') i)
      last l b f d (inl q) = absurd (let n : Some r ≡ Some (record { form = source_form s.kind s.tag value; last = s.last }) = sym e ∙ (ap rows' q ∙ s.given) in bound_no r n b)
      last l b f d (inr q) = other_right i r.form l (sym (s.others i q) ∙ (e ∙ ap (λ o. Some (record { form = r.form; last = o })) f)) b d

module _ (tags tags' : t.Tags) (rows rows' : Rows) (c : Id) (value : V) (sound : IsSound tags rows) (s : Sets tags tags' rows rows' c value) (tags_sound : t.IsSound tags') where
  lives : (q : Id) → IsSome (forms rows q) → IsSome (forms rows' q)
  lives q h = by (id_cases q c) where
    by : (q ≡ c) ⊎ (q ≢ c) → IsSome (forms rows' q)
    by (inl e) = subst (λ o. IsSome (option_map (λ (r : Row). r.form) o)) (sym (ap rows' e ∙ s.given)) refl
    by (inr n) = subst (λ o. IsSome (option_map (λ (r : Row). r.form) o)) (sym (s.others q n)) h

  each_lives : (i : Id) (xs : List Id) → Each (λ q. (q.1 < i.1) × IsSome (forms rows q)) xs → Each (λ q. (q.1 < i.1) × IsSome (forms rows' q)) xs
  each_lives i xs e = each_map (λ q. (q.1 < i.1) × IsSome (forms rows q)) (λ q. (q.1 < i.1) × IsSome (forms rows' q)) xs (λ q h. (h.0, lives q h.1)) e

  lower_now : AreLower (forms rows')
  lower_now i g e = by (id_cases i c) where
    form_is : (x y : Form) → Some x ≡ Some y → x ≡ y
    form_is x y e = cc

    by : (i ≡ c) ⊎ (i ≢ c) → Each (λ q. (q.1 < i.1) × IsSome (forms rows' q)) (parts g)
    by (inl q) =
        let f : source_form s.kind s.tag value ≡ g = form_is (source_form s.kind s.tag value) g (sym (ap (option_map (λ (r : Row). r.form)) (ap rows' q ∙ s.given)) ∙ e) in
        subst (λ x. Each (λ q. (q.1 < i.1) × IsSome (forms rows' q)) (parts x)) f tt
    by (inr n) = each_lives i (parts g) (sound.lower i g (ap (option_map (λ (r : Row). r.form)) (sym (s.others i n)) ∙ e))

  known_now : AreKnown (forms rows')
  known_now i g e = by (id_cases i c) where
    form_is : (x y : Form) → Some x ≡ Some y → x ≡ y
    form_is x y e = cc

    by : (i ≡ c) ⊎ (i ≢ c) → is_known g ≡ true
    by (inl q) =
        let f : source_form s.kind s.tag value ≡ g = form_is (source_form s.kind s.tag value) g (sym (ap (option_map (λ (r : Row). r.form)) (ap rows' q ∙ s.given)) ∙ e) in
        subst (λ x. is_known x ≡ true) f refl
    by (inr n) = sound.known i g (ap (option_map (λ (r : Row). r.form)) (sym (s.others i n)) ∙ e)

  dirty_stays : (k : Id) → t.is_dirtyable (named tags.tags k) ≡ true → t.is_dirtyable (named tags'.tags k) ≡ true
  dirty_stays k h = by (id_cases k s.tag) where
    by : (k ≡ s.tag) ⊎ (k ≢ s.tag) → t.is_dirtyable (named tags'.tags k) ≡ true
    by (inl e) = ap (λ x. t.is_dirtyable (named tags'.tags x)) e ∙ ap t.is_dirtyable (tag_given tags tags' rows rows' c value sound s)
    by (inr n) = ap t.is_dirtyable (tag_others tags tags' rows rows' c value sound s k n) ∙ h

  dirty_other : (u : Id) → is_combined (named tags.tags u) ≡ true → named tags'.tags u ≡ named tags.tags u
  dirty_other u h = tag_others tags tags' rows rows' c value sound s u (λ e. not_both (named tags.tags u) (ap (λ x. t.is_dirtyable (named tags.tags x)) e ∙ live tags tags' rows rows' c value sound s) h)

  combined_stays : (k : Id) → is_combined (named tags.tags k) ≡ true → is_combined (named tags'.tags k) ≡ true
  combined_stays k h = ap is_combined (dirty_other k h) ∙ h

  more : tags'.count ≡ tags.count + 1
  more = ap (λ (x : t.Tags). x.count) s.dirtied

  last_stays : (o : Option Last) → LastFits tags o → LastFits tags' o
  last_stays None f = tt
  last_stays (Some l) f = let m = more in let le = f.1 in (combined_stays l.tag f.0, omega (arith, m, le))

  fit_stays : (g : Form) (o : Option Last) → RowFits tags g o → RowFits tags' g o
  fit_stays (constant_form v) o f = tt
  fit_stays (source_form k u v) o f = dirty_stays u f
  fit_stays (prop_form r n) o f = last_stays o f
  fit_stays (call_form n ids ns) o f = last_stays o f
  fit_stays (cat_form ids) o f = last_stays o f
  fit_stays (all_form ids) o f = last_stays o f

  fits_now : (i : Id) (r : Row) → rows' i ≡ Some r → RowFits tags' r.form r.last
  fits_now i r e = by (id_cases i c) where
    row_is : (x y : Row) → Some x ≡ Some y → x ≡ y
    row_is x y e = cc

    by : (i ≡ c) ⊎ (i ≢ c) → RowFits tags' r.form r.last
    by (inl q) =
        let f = row_is (record { form = source_form s.kind s.tag value; last = s.last }) r (sym (ap rows' q ∙ s.given) ∙ e) in
        subst (λ (x : Row). RowFits tags' x.form x.last) f (ap t.is_dirtyable (tag_given tags tags' rows rows' c value sound s))
    by (inr n) = fit_stays r.form r.last (sound.fits i r (sym (s.others i n) ∙ e))

  own_stays : (i : Id) → own_tag (rows' i) ≡ own_tag (rows i)
  own_stays i = by (id_cases i c) where
    by : (i ≡ c) ⊎ (i ≢ c) → own_tag (rows' i) ≡ own_tag (rows i)
    by (inl q) = ap own_tag (ap rows' q ∙ s.given) ∙ sym (ap own_tag (ap rows q ∙ s.old))
    by (inr n) = ap own_tag (s.others i n)

  -- every row but that of the source was there before, and names what it named
  last_was : (i u : Id) (r : Row) → rows' i ≡ Some r → last_tag r ≡ Some u → (was : Row) × ((rows i ≡ Some was) × ((last_tag was ≡ Some u) × (t.tag_at tags' u ≡ t.tag_at tags u)))
  last_was i u r e l = by (id_cases i c) where
    by : (i ≡ c) ⊎ (i ≢ c) → (was : Row) × ((rows i ≡ Some was) × ((last_tag was ≡ Some u) × (t.tag_at tags' u ≡ t.tag_at tags u)))
    by (inl q) = absurd (let n : None ≡ Some u = ap last_tag (some_is (record { form = source_form s.kind s.tag value; last = s.last }) r (sym (ap rows' q ∙ s.given) ∙ e)) ∙ l in cc)
    by (inr n) =
        let was = sym (s.others i n) ∙ e in
        (r, (was, (l, dirty_other u (last_combined tags r.form r.last u (sound.fits i r was) l))))

  source_was : (k u : Id) → IsSource rows' k u → IsSource rows k u
  source_was k u a = by (id_cases k c) where
    by : (k ≡ c) ⊎ (k ≢ c) → IsSource rows k u
    by (inl q) =
        let e : u ≡ s.tag = some_is u s.tag (sym (ap own_tag a.is) ∙ ap own_tag (ap rows' q ∙ s.given)) in
        record { kind = s.kind; was = s.was; last = s.last; is = ap rows q ∙ (s.old ∙ ap (λ x. let y : Row = record { form = source_form s.kind x s.was; last = s.last } in Some y) (sym e)) }
    by (inr n) = record { kind = a.kind; was = a.was; last = a.last; is = sym (s.others k n) ∙ a.is }

  reach_stays : (i k : Id) → Reaches (forms rows) i k → Reaches (forms rows') i k
  reach_stays i k r = reach_more (forms rows) (forms rows') i (λ j q g h e m. form_same j q g e m) k r where
    form_same : (j q : Id) (g : Form) → forms rows j ≡ Some g → list_any (same_id q) (parts g) ≡ true → forms rows' j ≡ Some g
    form_same j q g e m = by (id_cases j c) where
      by : (j ≡ c) ⊎ (j ≢ c) → forms rows' j ≡ Some g
      by (inl x) = absurd (let n : false ≡ true = ap (λ y. list_any (same_id q) (parts y)) (some_is (source_form s.kind s.tag s.was) g (sym (ap (option_map (λ (r : Row). r.form)) (ap rows x ∙ s.old)) ∙ e)) ∙ m in cc)
      by (inr n) = ap (option_map (λ (r : Row). r.form)) (s.others j n) ∙ e

  combined_now : CombinedOwned tags' rows'
  combined_now u h = by (is_combined (named tags'.tags u)) refl where
    was : is_combined (named tags'.tags u) ≡ true → is_combined (named tags.tags u) ≡ true
    was e = sym (ap is_combined (tag_others tags tags' rows rows' c value sound s u (λ q. not_both (named tags'.tags u) (ap (λ x. t.is_dirtyable (named tags'.tags x)) q ∙ ap t.is_dirtyable (tag_given tags tags' rows rows' c value sound s)) e))) ∙ e

    by : (b : Bool) → is_combined (named tags'.tags u) ≡ b → b ≡ false
    by false e = refl
    by true e = absurd (let n : true ≡ false = sym (was e) ∙ sound.combined u (λ i o. h i (own_stays i ∙ o)) in cc)

  pub set_sound : IsSound tags' rows'
  set_sound = record {
    tags_sound = tags_sound;
    lower = lower_now;
    known = known_now;
    fits = fits_now;
    owned = λ i k u e f. sound.owned i k u (sym (own_stays i) ∙ e) (sym (own_stays k) ∙ f);
    right = set_right tags tags' rows rows' c value sound s fits_now;
    leads = leads_kept tags tags' rows rows' sound.leads last_was source_was (λ i k r e q. reach_stays i k q);
    combined = combined_now;
  }
