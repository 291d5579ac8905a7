-- A reference that no live one reads is ended, with its tag, and leaves the others as they are.
use Rattle.std.proofs.Common.{◌≡◌, ◌≢◌, ℕ, ◌<◌, ◌≤◌, Bool, true, false, List, [], ◌∷◌, map, Option, Some, None, option_map, IsSome, refl, sym, subst, ◌∙◌, ap, arith, ◌⊎◌, inl, inr}
use Rattle.std.specs.List.{list_any}
use Rattle.std.proofs.lemmas.Bool.{or_parts}
use Rattle.gl_arena.specs.Id.{Id, same_id}
use Rattle.gl_arena.specs.Arena.{named}
use Rattle.gl_arena.proofs.Ids.{id_cases, same_id-refl}
use Rattle.gl_tags.specs.Tags as t
use Rattle.gl_refs.specs.Forms.{Form, constant_form, source_form, prop_form, call_form, cat_form, all_form, form_or, form_at, meaning, Like, AreLower, is_known, AreKnown, Each, parts}
use Rattle.gl_refs.specs.State.{Last, Row, Rows, forms, kept_row, kept_pair, IsRight, own_tag, own_by, is_combined, LastFits, RowFits, is_bound, last_tag, IsSource, Reaches, CombinedOwned, IsSound, Frees}
use Rattle.gl_refs.proofs.Meanings.{within, each_map}
use Rattle.gl_refs.proofs.Rows.{row_right, bound_own, was_right}
use Rattle.gl_refs.proofs.Reaching.{reach_unread, reach_more}
use Rattle.gl_refs.proofs.Leading.{last_owned, unled, leads_apart, leads_kept}

module _ (tags tags' : t.Tags) (rows rows' : Rows) (i : Id) (sound : IsSound tags rows) (s : Frees tags tags' rows rows' i) where
  form_stays : (q : Id) → q ≢ i → forms rows' q ≡ forms rows q
  form_stays q ne = ap (option_map (λ (r : Row). r.form)) (s.others q ne)

  Other : Id → Type 0
  Other q = IsSome (forms rows q) × (q ≢ i)

  each_other : (k : Id) (xs : List Id) → list_any (same_id i) xs ≡ false → Each (λ q. (q.1 < k.1) × IsSome (forms rows q)) xs → Each (λ q. (q.1 < k.1) × (IsSome (forms rows q) × (q ≢ i))) xs
  each_other k [] h e = tt
  each_other k (x ∷ xs) h e =
      let p = or_parts (same_id i x) (list_any (same_id i) xs) h in
      ((e.0.0, (e.0.1, λ q. absurd (let n : true ≡ false = sym (same_id-refl i) ∙ (ap (same_id i) (sym q) ∙ p.0) in cc))), each_other k xs p.1 e.1)

  good : (k : Id) → (IsSome (forms rows k) × (k ≢ i)) → (form_at (forms rows') k ≡ form_at (forms rows) k) × Each (λ q. IsSome (forms rows q) × (q ≢ i)) (parts (form_at (forms rows) k))
  good k h = (ap form_or (form_stays k h.1), by (forms rows k) refl h.0) where
    by : (o : Option Form) → forms rows k ≡ o → IsSome o → Each (λ q. IsSome (forms rows q) × (q ≢ i)) (parts (form_or o))
    by None e h = tt
    by (Some g) e h = each_map (λ q. (q.1 < k.1) × (IsSome (forms rows q) × (q ≢ i))) (λ q. IsSome (forms rows q) × (q ≢ i)) (parts g) (λ q d. d.1) (each_other k (parts g) (s.unread k g e) (sound.lower k g e))

  -- the others mean what they meant
  pub means : (k : Id) → IsSome (forms rows k) → k ≢ i → meaning (forms rows') k ≡ meaning (forms rows) k
  means k h ne = within (λ q. IsSome (forms rows q) × (q ≢ i)) (forms rows) (forms rows') good k (h, ne)

  lower_now : AreLower (forms rows')
  lower_now k g e = by (id_cases k i) where
    lives : (q : Id) → (q.1 < k.1) × (IsSome (forms rows q) × (q ≢ i)) → (q.1 < k.1) × IsSome (forms rows' q)
    lives q d = (d.0, subst IsSome (sym (form_stays q d.1.1)) d.1.0)

    by : (k ≡ i) ⊎ (k ≢ i) → Each (λ q. (q.1 < k.1) × IsSome (forms rows' q)) (parts g)
    by (inl q) = absurd (let n : None ≡ Some g = sym (ap (option_map (λ (r : Row). r.form)) (ap rows' q ∙ s.ended)) ∙ e in cc)
    by (inr n) =
        let was = sym (form_stays k n) ∙ e in
        each_map (λ q. (q.1 < k.1) × (IsSome (forms rows q) × (q ≢ i))) (λ q. (q.1 < k.1) × IsSome (forms rows' q)) (parts g) lives (each_other k (parts g) (s.unread k g was) (sound.lower k g was))

  known_now : AreKnown (forms rows')
  known_now k g e = by (id_cases k i) where
    by : (k ≡ i) ⊎ (k ≢ i) → is_known g ≡ true
    by (inl q) = absurd (let n : None ≡ Some g = sym (ap (option_map (λ (r : Row). r.form)) (ap rows' q ∙ s.ended)) ∙ e in cc)
    by (inr n) = sound.known k g (sym (form_stays k n) ∙ e)

  pub tag_same : (k u : Id) → k ≢ i → own_tag (rows k) ≡ Some u → named tags'.tags u ≡ named tags.tags u
  tag_same k u ne e = s.tag.others u (λ q. ne (sound.owned k i u e q))

  -- the tag that is ended is no lead
  pub own_apart : (u : Id) (leads : List Id) → named tags.tags u ≡ Some (t.combined leads) → (x : Id) → own_tag (rows i) ≡ Some x → list_any (same_id x) leads ≡ false
  own_apart u leads e x o = by (t.is_dirtyable (named tags.tags x)) refl where
    by : (b : Bool) → t.is_dirtyable (named tags.tags x) ≡ b → list_any (same_id x) leads ≡ false
    by true d = unled tags rows i x sound s.unread o d u leads e
    by false d = leads_apart tags x d leads (subst (t.IsRight tags.tags tags.clock tags.count) e (sound.tags_sound.right u))

  pub all_same : (f : Option t.Tag → ℕ) (leads : List Id) → ((x : Id) → own_tag (rows i) ≡ Some x → list_any (same_id x) leads ≡ false) → map (λ k. f (named tags'.tags k)) leads ≡ map (λ k. f (named tags.tags k)) leads
  all_same f [] h = refl
  all_same f (x ∷ xs) h =
      rw (ap f (s.tag.others x (λ q. let n : true ≡ false = sym (same_id-refl x) ∙ (or_parts (same_id x x) (list_any (same_id x) xs) (h x q)).0 in cc)), all_same f xs (λ y q. (or_parts (same_id y x) (list_any (same_id y) xs) (h y q)).1)) refl

  order_stays : (u : Id) → named tags'.tags u ≡ named tags.tags u → t.order_of tags' u ≡ t.order_of tags u
  order_stays u e = ap (t.value_by t.order tags'.tags) e ∙ by (named tags.tags u) refl where
    by : (o : Option t.Tag) → named tags.tags u ≡ o → t.value_by t.order tags'.tags o ≡ t.value_by t.order tags.tags o
    by None r = refl
    by (Some t.constant) r = refl
    by (Some (t.dirtyable a b)) r = refl
    by (Some (t.combined leads)) r = ap (t.greatest_from 0) (all_same t.order leads (own_apart u leads r))

  tag_stays : (k : Id) (g : Form) (l : Last) → k ≢ i → rows k ≡ Some (record { form = g; last = Some l }) → is_bound g ≡ true → named tags'.tags l.tag ≡ named tags.tags l.tag
  tag_stays k g l ne e b = tag_same k l.tag ne (ap own_tag e ∙ bound_own g l b)

  last_fits : (o : Option Last) → ((u : Id) → option_map (λ (l : Last). l.tag) o ≡ Some u → named tags'.tags u ≡ named tags.tags u) → LastFits tags o → LastFits tags' o
  last_fits None h f = tt
  last_fits (Some l) h f = let c = s.tag.rest.count in let le = f.1 in (ap is_combined (h l.tag refl) ∙ f.0, omega (arith, c, le))

  kind_fits : (g : Form) (o : Option Last) → ((u : Id) → own_by g o ≡ Some u → named tags'.tags u ≡ named tags.tags u) → RowFits tags g o → RowFits tags' g o
  kind_fits (constant_form v) o h f = tt
  kind_fits (source_form k u v) o h f = ap t.is_dirtyable (h u refl) ∙ f
  kind_fits (prop_form r n) o h f = last_fits o h f
  kind_fits (call_form n ids ns) o h f = last_fits o h f
  kind_fits (cat_form ids) o h f = last_fits o h f
  kind_fits (all_form ids) o h f = last_fits o h f

  was : (k : Id) (r : Row) → rows' k ≡ Some r → (k ≢ i) × (rows k ≡ Some r)
  was k r e = by (id_cases k i) where
    by : (k ≡ i) ⊎ (k ≢ i) → (k ≢ i) × (rows k ≡ Some r)
    by (inl q) = absurd (let n : None ≡ Some r = sym (ap rows' q ∙ s.ended) ∙ e in cc)
    by (inr n) = (n, sym (s.others k n) ∙ e)

  fits_now : (k : Id) (r : Row) → rows' k ≡ Some r → RowFits tags' r.form r.last
  fits_now k r e = let w = was k r e in kind_fits r.form r.last (λ u o. tag_same k u w.0 (ap own_tag w.1 ∙ o)) (sound.fits k r w.1)

  right_now : IsRight tags' rows'
  right_now k q h = by (rows' k) refl where
    by : (o : Option Row) → rows' k ≡ o → Like (kept_pair tags' q) (meaning (forms rows') k)
    by None e = absurd (let n : None ≡ Some q = sym (ap (kept_row tags') e) ∙ h in cc)
    by (Some r) e = row_right tags' rows' s.tags_sound.still k r.form r.last e (fits_now k r e) (λ l b f d. last l b f d) q h where
      last : (l : Last) → is_bound r.form ≡ true → r.last ≡ Some l → t.order_of tags' l.tag ≤ l.order → Like (kept_pair tags' (record { value = l.value; tag = l.tag })) (meaning (forms rows') k)
      last l b f d =
          let w = was k r e in
          let old = w.1 ∙ ap (λ o. Some (record { form = r.form; last = o })) f in
          let tag = tag_stays k r.form l w.0 old b in
          let o = order_stays l.tag tag in
          let x = was_right tags rows k r.form l sound.right old b (omega (arith, o, d)) in
          let m = means k (subst (λ o. IsSome (option_map (λ (r : Row). r.form) o)) (sym old) refl) w.0 in
          record {
            value = x.value ∙ ap (λ p. p.value) (sym m);
            sources = λ p. ap (λ y. list_any p (t.leads_by l.tag y)) tag ∙ (x.sources p ∙ ap (λ y. list_any p y.sources) (sym m));
          }

  own_old : (k u : Id) → own_tag (rows' k) ≡ Some u → own_tag (rows k) ≡ Some u
  own_old k u e = by (id_cases k i) where
    by : (k ≡ i) ⊎ (k ≢ i) → own_tag (rows k) ≡ Some u
    by (inl q) = absurd (let n : None ≡ Some u = sym (ap own_tag (ap rows' q ∙ s.ended)) ∙ e in cc)
    by (inr n) = ap own_tag (sym (s.others k n)) ∙ e

  last_was : (k u : Id) (r : Row) → rows' k ≡ Some r → last_tag r ≡ Some u → (w : Row) × ((rows k ≡ Some w) × ((last_tag w ≡ Some u) × (t.tag_at tags' u ≡ t.tag_at tags u)))
  last_was k u r e l = let w = was k r e in (r, (w.1, (l, tag_same k u w.0 (ap own_tag w.1 ∙ last_owned r.form r.last u l))))

  source_was : (c u : Id) → IsSource rows' c u → IsSource rows c u
  source_was c u a = record { kind = a.kind; was = a.was; last = a.last; is = (was c (record { form = source_form a.kind u a.was; last = a.last }) a.is).1 }

  reach_stays : (k c : Id) (r : Row) → rows' k ≡ Some r → Reaches (forms rows) k c → Reaches (forms rows') k c
  reach_stays k c r e q =
      let w = was k r e in
      reach_more (forms rows) (forms rows') k (λ j y g h f m. form_stays j (λ z. w.0 (sym (reach_unread (forms rows) k i (subst (Reaches (forms rows) k) z h) s.unread))) ∙ f) c q

  combined_now : CombinedOwned tags' rows'
  combined_now u h = by (is_combined (named tags'.tags u)) refl where
    by : (b : Bool) → is_combined (named tags'.tags u) ≡ b → b ≡ false
    by false e = refl
    by true e = absurd (let n : true ≡ false = sym (sym (ap is_combined (s.tag.others u gone)) ∙ e) ∙ sound.combined u (λ k o. at k o (id_cases k i)) in cc) where
      gone : own_tag (rows i) ≢ Some u
      gone q = let n : false ≡ true = sym (ap is_combined (s.tag.ended u q)) ∙ e in cc

      at : (k : Id) → own_tag (rows k) ≡ Some u → (k ≡ i) ⊎ (k ≢ i) → ⊥
      at k o (inl q) = gone (ap (λ x. own_tag (rows x)) (sym q) ∙ o)
      at k o (inr n) = h k (ap own_tag (s.others k n) ∙ o)

  pub free_sound : IsSound tags' rows'
  free_sound = record {
    tags_sound = s.tags_sound;
    lower = lower_now;
    known = known_now;
    fits = fits_now;
    owned = λ k j u e f. sound.owned k j u (own_old k u e) (own_old j u f);
    right = right_now;
    leads = leads_kept tags tags' rows rows' sound.leads last_was source_was reach_stays;
    combined = combined_now;
  }
