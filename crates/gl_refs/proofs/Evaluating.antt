-- An evaluation leaves references sound.
use Rattle.std.proofs.Common.{◌≡◌, ◌≢◌, ℕ, ◌≤◌, Bool, true, false, not, List, [], ◌∷◌, map, Option, Some, None, option_map, refl, sym, subst, ◌∙◌, ap, arith, ◌⊎◌, inl, inr}
use Rattle.std.specs.List.{list_any}
use Rattle.std.proofs.lemmas.Bool.{or_parts}
use Rattle.gl_arena.specs.Id.{Id, same_id}
use Rattle.gl_arena.specs.Arena.{named}
use Rattle.gl_arena.proofs.Ids.{id_cases}
use Rattle.gl_tags.specs.Tags as t
use Rattle.gl_refs.specs.Forms.{Form, constant_form, source_form, prop_form, call_form, cat_form, all_form, meaning, Like, AreLower, AreKnown}
use Rattle.gl_refs.specs.State.{Last, Row, Rows, forms, kept_row, kept_pair, IsRight, own_tag, is_combined, LastFits, RowFits, is_bound, IsSource, Reaches, LeadsWithin, CombinedOwned, IsSound, Evaluates}
use Rattle.gl_refs.proofs.Rows.{fits_bound, bound_own, row_right, was_right, some_is}
use Rattle.gl_refs.proofs.Leading.{last_owned, sources_named}

-- (the forms stay)
pub forms_stay : (tags tags' : t.Tags) (rows rows' : Rows) (i : Id) → Evaluates tags tags' rows rows' i → forms rows' ≡ forms rows
forms_stay tags tags' rows rows' i s = λ t k. at k (id_cases k i) t where
  at : (k : Id) → (k ≡ i) ⊎ (k ≢ i) → forms rows' k ≡ forms rows k
  at k (inl e) = ap (option_map (λ (r : Row). r.form)) (ap rows' e ∙ s.given) ∙ sym (ap (option_map (λ (r : Row). r.form)) (ap rows e ∙ s.old))
  at k (inr n) = ap (option_map (λ (r : Row). r.form)) (s.others k n)

abbrev last_in : Option Row → Option Last
last_in None = None
last_in (Some x) = x.last

abbrev bound_in : Option Row → Bool
bound_in None = false
bound_in (Some x) = is_bound x.form

module _ (tags tags' : t.Tags) (rows rows' : Rows) (i : Id) (sound : IsSound tags rows) (s : Evaluates tags tags' rows rows' i) where
  means : (k : Id) → meaning (forms rows') k ≡ meaning (forms rows) k
  means k = ap (λ l. meaning l k) (forms_stay tags tags' rows rows' i s)

  -- the tags of the others, and what they lead to
  pub others_own : (k : Id) (g : Form) (l : Last) → k ≢ i → rows k ≡ Some (record { form = g; last = Some l }) → is_bound g ≡ true → named tags'.tags l.tag ≡ named tags.tags l.tag
  others_own k g l ne e b = s.tags_others k l.tag ne (ap own_tag e ∙ bound_own g l b)

  all_same : (f : Option t.Tag → ℕ) (leads : List Id) → list_any (λ k. not (t.is_dirtyable (named tags.tags k))) leads ≡ false → map (λ k. f (named tags'.tags k)) leads ≡ map (λ k. f (named tags.tags k)) leads
  all_same f [] h = refl
  all_same f (x ∷ xs) h =
      let e = or_parts (not (t.is_dirtyable (named tags.tags x))) (list_any (λ k. not (t.is_dirtyable (named tags.tags k))) xs) h in
      rw (ap f (s.dirtyable x (not_false (t.is_dirtyable (named tags.tags x)) e.0)), all_same f xs e.1) refl where
        not_false : (b : Bool) → not b ≡ false → b ≡ true
        not_false true h = refl
        not_false false h = absurd (let n : true ≡ false = h in cc)

  pub order_stays : (u : Id) → named tags'.tags u ≡ named tags.tags u → t.order_of tags' u ≡ t.order_of tags u
  order_stays u e = ap (t.value_by t.order tags'.tags) e ∙ by (named tags.tags u) (sound.tags_sound.right u) where
    by : (o : Option t.Tag) → t.IsRight tags.tags tags.clock tags.count o → t.value_by t.order tags'.tags o ≡ t.value_by t.order tags.tags o
    by None r = refl
    by (Some t.constant) r = refl
    by (Some (t.dirtyable a b)) r = refl
    by (Some (t.combined leads)) r = ap (t.greatest_from 0) (all_same t.order leads r)

  last_stays : (o : Option Last) → ((l : Last) → o ≡ Some l → named tags'.tags l.tag ≡ named tags.tags l.tag) → LastFits tags o → LastFits tags' o
  last_stays None h f = tt
  last_stays (Some l) h f = let c = s.count in let le = f.1 in (ap is_combined (h l refl) ∙ f.0, omega (arith, c, le))

  kind_stays : (g : Form) (o : Option Last) → ((l : Last) → is_bound g ≡ true → o ≡ Some l → named tags'.tags l.tag ≡ named tags.tags l.tag) → RowFits tags g o → RowFits tags' g o
  kind_stays (constant_form v) o h f = tt
  kind_stays (source_form k u v) o h f = ap t.is_dirtyable (s.dirtyable u f) ∙ f
  kind_stays (prop_form r n) o h f = last_stays o (λ l e. h l refl e) f
  kind_stays (call_form n ids ns) o h f = last_stays o (λ l e. h l refl e) f
  kind_stays (cat_form ids) o h f = last_stays o (λ l e. h l refl e) f
  kind_stays (all_form ids) o h f = last_stays o (λ l e. h l refl e) f

  row_i : Row
  row_i = record { form = s.row.form; last = Some s.last }

  as_row : (k : Id) (r : Row) (g : Form) (o : Option Last) → rows k ≡ Some r → g ≡ r.form → o ≡ r.last → rows k ≡ Some (record { form = g; last = o })
  as_row k r g o e f h = e ∙ λ t. Some (record { form = sym f t; last = sym h t })

  pub fits_now : (k : Id) (r : Row) → rows' k ≡ Some r → RowFits tags' r.form r.last
  fits_now k r e = by (id_cases k i) where
    by : (k ≡ i) ⊎ (k ≢ i) → RowFits tags' r.form r.last
    by (inl q) =
        let same : ◌≡◌ {A = Option Row} (Some (record { form = s.row.form; last = Some s.last })) (Some r) = sym (ap rows' q ∙ s.given) ∙ e in
        let o = s.order in
        subst (λ (x : Row). RowFits tags' x.form x.last) (row_is (record { form = s.row.form; last = Some s.last }) r same) (fits_bound tags' s.row.form (Some s.last) s.bound (s.combined, omega (arith, o))) where
          row_is : (x y : Row) → Some x ≡ Some y → x ≡ y
          row_is x y e = cc
    by (inr n) =
        let was = sym (s.others k n) ∙ e in
        kind_stays r.form r.last (λ l b f. others_own k r.form l n (was ∙ ap (λ o. Some (record { form = r.form; last = o })) f) b) (sound.fits k r was)

  own_i : own_tag (rows' i) ≡ Some s.last.tag
  own_i = ap own_tag s.given ∙ bound_own s.row.form s.last s.bound

  own_at : (k u : Id) → (k ≡ i) ⊎ (k ≢ i) → own_tag (rows' k) ≡ Some u → ((k ≡ i) × (u ≡ s.last.tag)) ⊎ ((k ≢ i) × (own_tag (rows k) ≡ Some u))
  own_at k u (inl q) e = let f : Some u ≡ Some s.last.tag = sym e ∙ (ap (λ x. own_tag (rows' x)) q ∙ own_i) in inl (q, id_is u s.last.tag f) where
    id_is : (x y : Id) → Some x ≡ Some y → x ≡ y
    id_is x y e = cc
  own_at k u (inr n) e = inr (n, ap own_tag (sym (s.others k n)) ∙ e)

  owned_now : (k j u : Id) → own_tag (rows' k) ≡ Some u → own_tag (rows' j) ≡ Some u → k ≡ j
  owned_now k j u e f = by (own_at k u (id_cases k i) e) (own_at j u (id_cases j i) f) where
    by : ((k ≡ i) × (u ≡ s.last.tag)) ⊎ ((k ≢ i) × (own_tag (rows k) ≡ Some u)) → ((j ≡ i) × (u ≡ s.last.tag)) ⊎ ((j ≢ i) × (own_tag (rows j) ≡ Some u)) → k ≡ j
    by (inl a) (inl b) = a.0 ∙ sym b.0
    by (inl a) (inr b) = absurd (s.fresh j (b.1 ∙ ap (λ x. Some x) a.1))
    by (inr a) (inl b) = absurd (s.fresh k (a.1 ∙ ap (λ x. Some x) b.1))
    by (inr a) (inr b) = sound.owned k j u a.1 b.1

  right_now : IsRight tags' rows'
  right_now k q h = by (rows' k) refl (id_cases k i) where
    by : (o : Option Row) → rows' k ≡ o → (k ≡ i) ⊎ (k ≢ i) → Like (kept_pair tags' q) (meaning (forms rows') k)
    by None e c = absurd (let n : None ≡ Some q = sym (ap (kept_row tags') e) ∙ h in cc)
    by (Some r) e c = row_right tags' rows' s.tags_sound.still k r.form r.last e (fits_now k r e) (λ l b f d. last l b f d c) q h where
      last : (l : Last) → is_bound r.form ≡ true → r.last ≡ Some l → t.order_of tags' l.tag ≤ l.order → (k ≡ i) ⊎ (k ≢ i) → Like (kept_pair tags' (record { value = l.value; tag = l.tag })) (meaning (forms rows') k)
      last l b f d (inl c) =
          let same : l ≡ s.last = last_is (sym (ap rows' c ∙ s.given) ∙ (e ∙ ap (λ o. Some (record { form = r.form; last = o })) f)) in
          subst (λ x. Like (kept_pair tags' (record { value = x.value; tag = x.tag })) (meaning (forms rows') k)) (sym same)
          (subst (λ p. Like (kept_pair tags' (record { value = s.last.value; tag = s.last.tag })) p) (sym (means k ∙ ap (meaning (forms rows)) c)) s.like) where
            last_is : ◌≡◌ {A = Option Row} (Some (record { form = s.row.form; last = Some s.last })) (Some (record { form = r.form; last = Some l })) → l ≡ s.last
            last_is x = let y : Some l ≡ Some s.last = ap last_in (sym x) in cc
      last l b f d (inr n) =
          let was = sym (s.others k n) ∙ (e ∙ ap (λ o. Some (record { form = r.form; last = o })) f) in
          let tag = others_own k r.form l n was b in
          let o = order_stays l.tag tag in
          let w = was_right tags rows k r.form l sound.right was b (omega (arith, o, d)) in
          record {
            value = w.value ∙ ap (λ p. p.value) (sym (means k));
            sources = λ p. ap (λ x. list_any p (t.leads_by l.tag x)) tag ∙ (w.sources p ∙ ap (λ x. list_any p x.sources) (sym (means k)));
          }

  source_was : (c w : Id) → IsSource rows' c w → IsSource rows c w
  source_was c w a = by (id_cases c i) where
    by : (c ≡ i) ⊎ (c ≢ i) → IsSource rows c w
    by (inl q) = absurd (let n : true ≡ false = sym s.bound ∙ ap bound_in (sym s.given ∙ (ap rows' (sym q) ∙ a.is)) in cc)
    by (inr n) = record { kind = a.kind; was = a.was; last = a.last; is = sym (s.others c n) ∙ a.is }

  leads_now : LeadsWithin tags' rows'
  leads_now k u c w r e l a h = by (id_cases k i) where
    apart : Reaches (forms rows) k c → ⊥
    apart q = h (subst (λ x. Reaches x k c) (sym (forms_stay tags tags' rows rows' i s)) q)

    own : own_tag (rows' k) ≡ Some u
    own = ap own_tag e ∙ last_owned r.form r.last u l

    by : (k ≡ i) ⊎ (k ≢ i) → list_any (same_id w) (t.leads_of tags'.tags u) ≡ false
    by (inl q) =
        ap (λ x. list_any (same_id w) (t.leads_of tags'.tags x)) (some_is u s.last.tag (sym own ∙ (ap (λ x. own_tag (rows' x)) q ∙ own_i)))
        ∙ (s.like.sources (same_id w) ∙ sources_named rows i c w sound.owned (source_was c w a) (λ y. apart (subst (λ x. Reaches (forms rows) x c) (sym q) y)))
    by (inr n) =
        let was = sym (s.others k n) ∙ e in
        ap (λ x. list_any (same_id w) (t.leads_by u x)) (s.tags_others k u n (ap own_tag (sym (s.others k n)) ∙ own)) ∙ sound.leads k u c w r was l (source_was c w a) apart

  combined_now : CombinedOwned tags' rows'
  combined_now u h = by (is_combined (t.tag_at tags' u)) refl where
    other : (u ≡ s.last.tag) ⊎ (u ≢ s.last.tag) → is_combined (t.tag_at tags' u) ≡ true → ⊥
    other (inl q) e = h i (own_i ∙ ap (λ x. Some x) (sym q))
    other (inr n) e = let w = s.swapped u n e in let m : true ≡ false = sym w.0 ∙ sound.combined u (λ k o. at w.1 k o (id_cases k i)) in cc where
      at : own_tag (rows i) ≢ Some u → (k : Id) → own_tag (rows k) ≡ Some u → (k ≡ i) ⊎ (k ≢ i) → ⊥
      at w k o (inl q) = w (ap (λ x. own_tag (rows x)) (sym q) ∙ o)
      at w k o (inr n) = h k (ap own_tag (s.others k n) ∙ o)

    by : (b : Bool) → is_combined (t.tag_at tags' u) ≡ b → b ≡ false
    by false e = refl
    by true e = absurd (other (id_cases u s.last.tag) e)

  pub evaluated : IsSound tags' rows'
  evaluated = record {
    tags_sound = s.tags_sound;
    lower = subst AreLower (sym (forms_stay tags tags' rows rows' i s)) sound.lower;
    known = subst AreKnown (sym (forms_stay tags tags' rows rows' i s)) sound.known;
    fits = fits_now;
    owned = owned_now;
    right = right_now;
    leads = leads_now;
    combined = combined_now;
  }
