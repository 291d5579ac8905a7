-- What references mean, read from the state.
use Rattle.std.proofs.Common.{◌≡◌, ◌≢◌, ℕ, zero, suc, ◌<◌, Bool, true, false, Option, Some, None, option_map, IsSome, is_some, List, [], ◌∷◌, ◌++◌, map, flat_map, refl, sym, ap, ap₂, subst, ◌∙◌, inl, inr, arith}
use Rattle.std.specs.Prelude.{◌&&◌, ◌||◌, if◌then◌else◌}
use Rattle.std.specs.List.{list_any}
use Rattle.std.proofs.lemmas.Bool.{cases_eq}
use Rattle.gl_arena.specs.Id.{Id, same_id}
use Rattle.gl_arena.specs.Arena.{by_stamp, IsStamped}
use Rattle.gl_arena.proofs.Ids.{same_id-true, same_id-refl}
use Rattle.gl_arena.proofs.Stamps.{by_stamp-id, by_stamp-live}
use Rattle.gl_refs.specs.Forms as f
use Rattle.gl_refs.specs.State as s
use Rattle.gl_refs.specs.Refs.{Refs, rows_of, forms_of}
use Rattle.gl_refs.proofs.Meanings.{meaning_is, below_is, each_map, each_append, each_read}
use Rattle.gl_meaning.specs.Scope.{Source, sources_of}
use Rattle.gl_plain.specs.Ids.{Id as Name, ref}
use Rattle.gl_plain.specs.State.{any_of, row, Thing, pair_of, thing_pair}
use Rattle.gl_plain.specs.Stands.{below}
use Rattle.gl_plain.proofs.Pairs.{below_at, pair_law}
use Rattle.gl_vm.specs.Labels.{label}
use Rattle.gl_vm.specs.Kept.{some_below}
use Rattle.gl_vm.specs.View.{stamps, is_led, form_led, led_by, seen_row, row_at, holder, seen_pair}
use Rattle.gl_vm.proofs.Rows.{below_same}
use Rattle.gl_vm.proofs.Means.{form-means, sources-are}

led_none : (o : Option s.Row) → is_led [] o ≡ false
led_none None = refl
led_none (Some x) = by x.form where
  by : (g : f.Form) → form_led [] g ≡ false
  by (f.source_form k u v) = refl
  by (f.constant_form v) = refl
  by (f.prop_form r n) = refl
  by (f.call_form h ids ns) = refl
  by (f.cat_form ids) = refl
  by (f.all_form ids) = refl

led_more : (t : Id) (ts : List Id) (o : Option s.Row) → is_led (t ∷ ts) o ≡ is_led (t ∷ []) o || is_led ts o
led_more t ts None = refl
led_more t ts (Some x) = by x.form where
  or_false : (a b : Bool) → (a || b) ≡ ((a || false) || b)
  or_false true b = refl
  or_false false b = refl

  by : (g : f.Form) → form_led (t ∷ ts) g ≡ form_led (t ∷ []) g || form_led ts g
  by (f.source_form k u v) = or_false (same_id u t) (list_any (same_id u) ts)
  by (f.constant_form v) = refl
  by (f.prop_form r n) = refl
  by (f.call_form h ids ns) = refl
  by (f.cat_form ids) = refl
  by (f.all_form ids) = refl

below_none : (test : ℕ → Bool) (n : ℕ) → ((k : ℕ) → k < n → test k ≡ false) → some_below test n ≡ false
below_none test zero h = refl
below_none test (suc n) h = ap₂ (λ a b. a || b) (h n (omega arith)) (below_none test n (λ k lt. h k (omega (arith, lt))))

below_either : (f g : ℕ → Bool) (p : ℕ → Bool) (n : ℕ) → some_below (λ k. (f k || g k) && p k) n ≡ some_below (λ k. f k && p k) n || some_below (λ k. g k && p k) n
below_either f g p zero = refl
below_either f g p (suc n) = ap (λ b. ((f n || g n) && p n) || b) (below_either f g p n) ∙ by (f n) (g n) (p n) (some_below (λ k. f k && p k) n) (some_below (λ k. g k && p k) n) where
  by : (a b c d e : Bool) → (((a || b) && c) || (d || e)) ≡ (((a && c) || d) || ((b && c) || e))
  by true b true d e = refl
  by true true false d e = refl
  by true false false d e = refl
  by false true true true e = refl
  by false true true false e = refl
  by false true false d e = refl
  by false false c d e = refl

pub each_flat : (P : Id → Type 0) (src : Id → List Id) (qs : List Id) → f.Each (λ q. f.Each P (src q)) qs → f.Each P (flat_map src qs)
each_flat P src [] e = tt
each_flat P src (q ∷ qs) e = each_append P (src q) (flat_map src qs) e.0 (each_flat P src qs e.1)

flat_same : (a b : Id → List Id) (qs : List Id) → f.Each (λ q. a q ≡ b q) qs → flat_map a qs ≡ flat_map b qs
flat_same a b [] e = refl
flat_same a b (q ∷ qs) e = ap₂ (λ x y. x ++ y) e.0 (flat_same a b qs e.1)

module _ (r : Refs) (stamped : IsStamped r.rows) (sound : s.IsSound r.tags (rows_of r)) where
  abbrev rows : ℕ → Option s.Row
  rows = by_stamp r.rows

  abbrev lab : Id → Source
  lab t = label (holder rows r.rows.made t)

  -- a live cell or item with that tag
  pub record IsHeld (t : Id) : Type 0 where
    pub id : Id
    pub row : s.Row
    pub kind : Bool
    pub value : f.V
    pub is : rows_of r id ≡ Some row
    pub form : row.form ≡ f.source_form kind t value

  led_is : (t : Id) (o : Option s.Row) → is_led (t ∷ []) o ≡ true → (x : s.Row) × (o ≡ Some x) × (s.own_tag o ≡ Some t)
  led_is t None e = let no : false ≡ true = e in absurd (cc)
  led_is t (Some x) e = (x, refl, by x.form e) where
    or_no : (b : Bool) → (b || false) ≡ true → b ≡ true
    or_no true e = refl
    or_no false e = e

    by : (g : f.Form) → form_led (t ∷ []) g ≡ true → s.own_by g x.last ≡ Some t
    by (f.source_form k u v) e = ap (λ i. Some i) (same_id-true u t (or_no (same_id u t) e))
    by (f.constant_form v) e = let no : false ≡ true = e in absurd (cc)
    by (f.prop_form i n) e = let no : false ≡ true = e in absurd (cc)
    by (f.call_form h ids ns) e = let no : false ≡ true = e in absurd (cc)
    by (f.cat_form ids) e = let no : false ≡ true = e in absurd (cc)
    by (f.all_form ids) e = let no : false ≡ true = e in absurd (cc)

  module _ (t : Id) (h : IsHeld t) where
    here : rows h.id.1 ≡ Some h.row
    here = by_stamp-live r.rows h.id h.row stamped h.is

    is-led : is_led (t ∷ []) (rows h.id.1) ≡ true
    is-led = ap (is_led (t ∷ [])) here ∙ (ap (form_led (t ∷ [])) h.form ∙ ap (λ b. b || false) (same_id-refl t))

    only : (k : ℕ) → is_led (t ∷ []) (rows k) ≡ true → k ≡ h.id.1
    only k e =
        let l = led_is t (rows k) e in
        let p = by_stamp-id r.rows k l.0 l.1 in
        sym p.1
        ∙ ap (λ (j : Id). j.1) (sound.owned p.0 h.id t (ap s.own_tag p.2 ∙ (sym (ap s.own_tag l.1) ∙ l.2)) (ap s.own_tag h.is ∙ ap (λ g. s.own_by g h.row.last) h.form))

    not-led : (k : ℕ) → k ≢ h.id.1 → is_led (t ∷ []) (rows k) ≡ false
    not-led k ne = by (is_led (t ∷ []) (rows k)) refl where
      by : (b : Bool) → is_led (t ∷ []) (rows k) ≡ b → is_led (t ∷ []) (rows k) ≡ false
      by false e = e
      by true e = absurd (ne (only k e))

    holder-at : (n : ℕ) → h.id.1 < n → holder rows n t ≡ h.id.1
    holder-at zero lt = absurd (omega (arith, lt))
    holder-at (suc n) lt = elim (cases_eq n h.id.1) [
      | inl e ↦ ap (λ b. if b then n else holder rows n t) (ap (λ k. is_led (t ∷ []) (rows k)) e ∙ is-led) ∙ e
      | inr ne ↦ ap (λ b. if b then n else holder rows n t) (not-led n ne) ∙ holder-at n (omega (arith, lt, ne))
    ]

    pub holder-is : lab t ≡ label h.id.1
    holder-is = ap label (holder-at r.rows.made (stamped.below h.id (ap is_some h.is)))

    one-at : (p : Source → Bool) (n : ℕ) → h.id.1 < n → some_below (λ k. is_led (t ∷ []) (rows k) && p (label k)) n ≡ p (label h.id.1)
    one-at p zero lt = absurd (omega (arith, lt))
    one-at p (suc n) lt = elim (cases_eq n h.id.1) [
      | inl e ↦
          ap₂ (λ a b. a || b) (ap (λ k. is_led (t ∷ []) (rows k) && p (label k)) e ∙ ap (λ b. b && p (label h.id.1)) is-led)
          (below_none (λ k. is_led (t ∷ []) (rows k) && p (label k)) n (λ k lt. ap (λ b. b && p (label k)) (not-led k (λ q. absurd (omega (arith, q, lt, e))))))
          ∙ or_no (p (label h.id.1))
      | inr ne ↦ ap (λ b. (b && p (label n)) || some_below (λ k. is_led (t ∷ []) (rows k) && p (label k)) n) (not-led n ne) ∙ one-at p n (omega (arith, lt, ne))
    ]
      where
        or_no : (b : Bool) → (b || false) ≡ b
        or_no true = refl
        or_no false = refl

  -- tags of cells and items, as a test and as a list
  pub led-list : (ts : List Id) → f.Each IsHeld ts → (p : Source → Bool) → led_by ts rows r.rows.made p ≡ any_of (map lab ts) p
  led-list [] e p = below_none (λ k. is_led [] (rows k) && p (label k)) r.rows.made (λ k lt. ap (λ b. b && p (label k)) (led_none (rows k)))
  led-list (t ∷ ts) e p =
      below_same (λ k. is_led (t ∷ ts) (rows k) && p (label k)) (λ k. (is_led (t ∷ []) (rows k) || is_led ts (rows k)) && p (label k)) r.rows.made (λ k lt. ap (λ b. b && p (label k)) (led_more t ts (rows k)))
      ∙ (below_either (λ k. is_led (t ∷ []) (rows k)) (λ k. is_led ts (rows k)) (λ k. p (label k)) r.rows.made
      ∙ ap₂ (λ a b. a || b) (one-at t e.0 p r.rows.made (stamped.below e.0.id (ap is_some e.0.is)) ∙ ap p (sym (holder-is t e.0))) (led-list ts e.1 p))

  abbrev l : f.Look
  l = forms_of r

  row-some : (i : Id) → IsSome (l i) → (x : s.Row) × (rows_of r i ≡ Some x)
  row-some i = by (rows_of r i) where
    by : (o : Option s.Row) → IsSome (option_map (λ (x : s.Row). x.form) o) → (x : s.Row) × (o ≡ Some x)
    by None h = let no : false ≡ true = h in absurd (cc)
    by (Some x) h = (x, refl)

  -- what is read are tags of live cells and items
  held-below : (n : ℕ) (i : Id) → i.1 < n → IsSome (l i) → f.Each IsHeld (f.meaning l i).sources
  held-below zero i lt live = absurd (omega (arith, lt))
  held-below (suc n) i lt live =
      let x = row-some i live in
      let is : l i ≡ Some x.0.form = ap (option_map (λ (y : s.Row). y.form)) x.1 in
      subst (λ (p : f.Pair). f.Each IsHeld p.sources) (sym (meaning_is l i ∙ ap (λ o. f.pair_by (f.below (f.meaning l) i) (f.form_or o)) is))
      (each_append IsHeld (f.own_sources x.0.form) _ (owns x.0.form refl)
      (each_flat IsHeld (λ q. (f.below (f.meaning l) i q).sources) (f.reads (λ q. (f.below (f.meaning l) i q).value) x.0.form)
      (each_read (λ q. f.Each IsHeld (f.below (f.meaning l) i q).sources) (λ q. (f.below (f.meaning l) i q).value) x.0.form
      (each_map (λ q. (q.1 < i.1) × IsSome (l q)) (λ q. f.Each IsHeld (f.below (f.meaning l) i q).sources) (f.parts x.0.form)
      (λ q h. subst (λ (p : f.Pair). f.Each IsHeld p.sources) (sym (below_is (f.meaning l) i q h.0)) (held-below n q (let a = h.0 in omega (arith, a, lt)) h.1)) (sound.lower i x.0.form is)))))
    where
      owns : (g : f.Form) → (row-some i live).0.form ≡ g → f.Each IsHeld (f.own_sources g)
      owns (f.source_form k u v) e = (record { id = i; row = (row-some i live).0; kind = k; value = v; is = (row-some i live).1; form = e }, tt)
      owns (f.constant_form v) e = tt
      owns (f.prop_form j k) e = tt
      owns (f.call_form h ids ns) e = tt
      owns (f.cat_form ids) e = tt
      owns (f.all_form ids) e = tt

  pub all-held : (i : Id) → IsSome (l i) → f.Each IsHeld (f.meaning l i).sources
  all-held i live = held-below (suc i.1) i (omega arith) live

  module _ (look : Name → Option Thing) (looks : (n : ℕ) → look (ref n) ≡ option_map row (row_at r n)) where
    means-below : (n : ℕ) (i : Id) → i.1 < n → IsSome (l i) → pair_of look i.1 ≡ seen_pair r (f.meaning l i)
    means-below zero i lt live = absurd (omega (arith, lt))
    means-below (suc n) i lt live =
        let x = row-some i live in
        let is : l i ≡ Some x.0.form = ap (option_map (λ (y : s.Row). y.form)) x.1 in
        let F = below i.1 (pair_of look) in
        let G = f.below (f.meaning l) i in
        pair_law look i.1
        ∙ (ap (thing_pair F) (looks i.1 ∙ ap (λ o. option_map row (option_map (seen_row r.tags rows r.rows.made i.1) o)) (by_stamp-live r.rows i x.0 stamped x.1))
        ∙ (form-means lab i.1 F G x.0.form (sound.known i x.0.form is)
        (λ k t v e. holder-is t (record { id = i; row = x.0; kind = k; value = v; is = x.1; form = e }))
        (each_map (λ q. (q.1 < i.1) × IsSome (l q)) (λ q. F q.1 ≡ seen_pair r (G q)) (f.parts x.0.form)
        (λ q h. below_at i.1 (pair_of look) q.1 h.0 ∙ (means-below n q (let a = h.0 in omega (arith, a, lt)) h.1 ∙ ap (seen_pair r) (sym (below_is (f.meaning l) i q h.0)))) (sound.lower i x.0.form is))
        ∙ ap (seen_pair r) (sym (meaning_is l i ∙ ap (λ o. f.pair_by (f.below (f.meaning l) i) (f.form_or o)) is))))

    pub means : (i : Id) → IsSome (l i) → pair_of look i.1 ≡ seen_pair r (f.meaning l i)
    means i live = means-below (suc i.1) i (omega arith) live

    -- what a position reads, as a list
    pub position-sources : (i : Id) (ids : List Id) → l i ≡ Some (f.all_form ids) → sources_of (map (pair_of look) (stamps ids)) ≡ map lab (f.meaning l i).sources
    position-sources i ids is =
        let low = sound.lower i (f.all_form ids) is in
        sources-are lab i.1 (pair_of look) (f.meaning l) ids (each_map (λ q. (q.1 < i.1) × IsSome (l q)) (λ q. pair_of look q.1 ≡ seen_pair r (f.meaning l q)) ids (λ q h. means q h.1) low)
        ∙ (ap (map lab) (flat_same (λ q. (f.meaning l q).sources) (λ q. (f.below (f.meaning l) i q).sources) ids
        (each_map (λ q. (q.1 < i.1) × IsSome (l q)) (λ q. (f.meaning l q).sources ≡ (f.below (f.meaning l) i q).sources) ids (λ q h. ap (λ (p : f.Pair). p.sources) (sym (below_is (f.meaning l) i q h.0))) low))
        ∙ ap (λ (p : f.Pair). map lab p.sources) (sym (meaning_is l i ∙ ap (λ o. f.pair_by (f.below (f.meaning l) i) (f.form_or o)) is)))
