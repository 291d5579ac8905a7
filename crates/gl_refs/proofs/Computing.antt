-- What is computed from kept values is an evaluation of now.
use Rattle.std.proofs.Common.{unwrap_or, ◌≡◌, ◌≢◌, ℕ, ◌<◌, ◌≤◌, max, Bool, true, false, List, [], ◌∷◌, ◌++◌, map, flat_map, Option, Some, None, option_map, IsSome, refl, sym, subst, ◌∙◌, ap, arith, ◌⊎◌, inl, inr}
use Rattle.std.specs.List.{list_any}
use Rattle.gl_arena.specs.Id.{Id}
use Rattle.gl_arena.specs.Arena.{named}
use Rattle.gl_arena.proofs.Ids.{id_cases}
use Rattle.gl_value.specs.Value.{undefined}
use Rattle.gl_tags.specs.Tags as t
use Rattle.gl_refs.specs.Forms.{V, Form, constant_form, source_form, prop_form, call_form, cat_form, all_form, Pair, form_or, form_at, value_by, meaning, Like, Each, reads, pair_by, below, own_sources}
use Rattle.gl_refs.specs.State.{Last, Row, Rows, forms, Kept, kept_by, kept_row, kept, own_tag, own_by, is_combined, LastFits, RowFits, is_bound, IsSound, Evaluates, Swaps, StaysOr, Settles, Gathers, Puts, IsKept, held_value, held_tag, reads_of, held}
use Rattle.gl_refs.proofs.Meanings.{meaning_is, below_is, by_like, each_read}
use Rattle.gl_refs.proofs.Rows.{combined_is, bound_fits, bound_kept, fresh_last, last_fresh, kept_held}
use Rattle.gl_refs.proofs.Leading.{not_both, own_there}
use Rattle.gl_refs.proofs.Evaluating.{forms_stay, evaluated, order_stays, others_own}

some_of : {A : Type 0} (o : Option A) → IsSome o → (x : A) × (o ≡ Some x)
some_of None h = absurd (let n : false ≡ true = h in cc)
some_of (Some x) h = (x, refl)

kept_as : t.Tags → Rows → Id → Pair
kept_as tags rows q = record { value = held_value rows q; sources = t.leads_of tags.tags (held_tag tags rows q) }

each_both : (P Q R : Id → Type 0) (xs : List Id) → ((x : Id) → P x → Q x → R x) → Each P xs → Each Q xs → Each R xs
each_both P Q R [] h e f = tt
each_both P Q R (x ∷ xs) h e f = (h x e.0 f.0, each_both P Q R xs h e.1 f.1)

no_sources : (g : Form) → is_bound g ≡ true → own_sources g ≡ []
no_sources (constant_form v) e = absurd (let n : false ≡ true = e in cc)
no_sources (source_form k s v) e = absurd (let n : false ≡ true = e in cc)
no_sources (prop_form r n) e = refl
no_sources (call_form n ids ns) e = refl
no_sources (cat_form ids) e = refl
no_sources (all_form ids) e = refl

flat_map-map : (f : Id → List Id) (g : Id → Id) (xs : List Id) → flat_map f (map g xs) ≡ flat_map (λ x. f (g x)) xs
flat_map-map f g [] = refl
flat_map-map f g (x ∷ xs) = ap (λ ys. f (g x) ++ ys) (flat_map-map f g xs)

module _ (tags tags' : t.Tags) (rows rows' : Rows) (i : Id) (sound : IsSound tags rows) (row : Row) (old : rows i ≡ Some row) (bound : is_bound row.form ≡ true) (ready : Each (IsKept tags rows) (reads_of rows i)) where
  form_is : form_at (forms rows) i ≡ row.form
  form_is = ap (λ x. form_or (option_map (λ (r : Row). r.form) x)) old

  part_like : (q : Id) → IsKept tags rows q → (q.1 < i.1) × IsSome (forms rows q) → Like (kept_as tags rows q) (below (meaning (forms rows)) i q)
  unfolding kept_as
  part_like q h lower = by (some_of (kept tags rows q) h) where
    by : (k : Kept) × (kept tags rows q ≡ Some k) → Like (record { value = held_value rows q; sources = t.leads_of tags.tags (held_tag tags rows q) }) (below (meaning (forms rows)) i q)
    by (k, e) =
        let r = sound.right q k e in
        let d = kept_held tags rows q k e in
        let b = below_is (meaning (forms rows)) i q lower.0 in
        record {
          value = ap (λ o. unwrap_or o undefined) d.0 ∙ (r.value ∙ ap (λ (p : Pair). p.value) (sym b));
          sources = λ p. ap (λ u. list_any p (t.leads_of tags.tags u)) d.1 ∙ (r.sources p ∙ ap (λ (x : Pair). list_any p x.sources) (sym b));
        }

  -- the meaning, from what is kept of the parts
  pub like_now : Like (record { value = value_by (held_value rows) row.form; sources = flat_map (t.leads_of tags.tags) (map (held_tag tags rows) (reads_of rows i)) }) (meaning (forms rows) i)
  unfolding kept_as
  like_now =
      let low = sound.lower i row.form (ap (option_map (λ (r : Row). r.form)) old) in
      let rs = reads (held_value rows) row.form in
      let same : reads_of rows i ≡ rs = ap (reads (held_value rows)) form_is in
      let parts = each_both (IsKept tags rows) (λ q. (q.1 < i.1) × IsSome (forms rows q)) (λ q. Like (kept_as tags rows q) (below (meaning (forms rows)) i q)) rs part_like (subst (Each (IsKept tags rows)) same ready)
      (each_read (λ q. (q.1 < i.1) × IsSome (forms rows q)) (held_value rows) row.form low) in
      let l = by_like (kept_as tags rows) (below (meaning (forms rows)) i) row.form parts in
      let m = meaning_is (forms rows) i ∙ ap (pair_by (below (meaning (forms rows)) i)) form_is in
      record {
        value = l.value ∙ ap (λ (p : Pair). p.value) (sym m);
        sources = λ p. ap (list_any p) (ap (λ xs. flat_map (t.leads_of tags.tags) (map (held_tag tags rows) xs)) same ∙ (flat_map-map (t.leads_of tags.tags) (held_tag tags rows) rs
            ∙ ap (λ xs. xs ++ flat_map (λ q. t.leads_of tags.tags (held_tag tags rows q)) rs) (sym (no_sources row.form bound))))
            ∙ (l.sources p ∙ ap (λ (x : Pair). list_any p x.sources) (sym m));
      }

  module _ (u : Id) (o : Option Id) (owns : o ≡ own_tag (rows i)) (value : V) (last : Last) (swaps : Swaps tags tags' o u (map (held_tag tags rows) (reads_of rows i)))
      (is : last ≡ record { value = value; order = tags'.count; tag = u }) (value_is : value ≡ value_by (held_value rows) row.form)
      (given : rows' i ≡ Some (record { form = row.form; last = Some last })) (others : (k : Id) → k ≢ i → rows' k ≡ rows k) where
    not_owned : (k : Id) → own_tag (rows k) ≢ Some u
    not_owned k e = own_there tags rows sound k u e swaps.vacant

    old_combined : (k : Id) → o ≡ Some k → is_combined (t.tag_at tags k) ≡ true
    old_combined k e = by row.form row.last bound (sound.fits i row old) (sym (owns ∙ ap own_tag old) ∙ e) where
      id_is : (x : Id) → Some x ≡ Some k → x ≡ k
      id_is x e = cc

      in_last : (l : Option Last) → LastFits tags l → option_map (λ (x : Last). x.tag) l ≡ Some k → is_combined (t.tag_at tags k) ≡ true
      in_last None f e = absurd (let n : None ≡ Some k = e in cc)
      in_last (Some l) f e = ap (λ x. is_combined (named tags.tags x)) (sym (id_is l.tag e)) ∙ f.0

      by : (g : Form) (l : Option Last) → is_bound g ≡ true → RowFits tags g l → own_by g l ≡ Some k → is_combined (t.tag_at tags k) ≡ true
      by (constant_form x) l b f e = absurd (let n : false ≡ true = b in cc)
      by (source_form w s x) l b f e = absurd (let n : false ≡ true = b in cc)
      by (prop_form r n) l b f e = in_last l f e
      by (call_form n ids ns) l b f e = in_last l f e
      by (cat_form ids) l b f e = in_last l f e
      by (all_form ids) l b f e = in_last l f e

    tag_is : last.tag ≡ u
    tag_is = ap (λ (l : Last). l.tag) is

    pub evaluates : Evaluates tags tags' rows rows' i
    evaluates = record {
      row = row;
      last = last;
      old = old;
      bound = bound;
      given = given;
      others = others;
      order = ap (λ (l : Last). l.order) is;
      combined = ap (λ x. is_combined (t.tag_at tags' x)) tag_is ∙ ap is_combined swaps.given;
      like = record {
        value = ap (λ (l : Last). l.value) is ∙ (value_is ∙ like_now.value);
        sources = λ p. ap (λ x. list_any p (t.leads_of tags'.tags x)) tag_is ∙ (ap (λ x. list_any p (t.leads_by u x)) swaps.given ∙ (swaps.like p ∙ like_now.sources p));
      };
      fresh = λ k e. not_owned k (e ∙ ap (λ x. Some x) tag_is);
      tags_sound = swaps.sound;
      still = swaps.rest.still;
      count = swaps.rest.count;
      dirtyable = λ k d. swaps.others k (λ e. absurd (let n : false ≡ true = sym (ap t.is_dirtyable (ap (named tags.tags) e ∙ swaps.vacant)) ∙ d in cc)) (λ e. not_both (t.tag_at tags k) d (old_combined k e));
      tags_others = λ k v ne e. swaps.others v (λ q. not_owned k (e ∙ ap (λ x. Some x) q)) (λ q. ne (sound.owned k i v e (sym owns ∙ q)));
      swapped = λ k ne e.
          let gone : (o ≡ Some k) → ⊥ = λ q. let n : false ≡ true = sym (ap is_combined (swaps.ended k q)) ∙ e in cc in
          (sym (ap is_combined (swaps.others k (λ q. ne (q ∙ sym tag_is)) gone)) ∙ e, λ q. gone (owns ∙ q));
    }

orders_le : (tags : t.Tags) → t.IsSound tags → (leads : List Id) (m : ℕ) → m ≤ tags.count → t.greatest_from m (map (λ k. t.order (named tags.tags k)) leads) ≤ tags.count
orders_le tags s [] m h = h
orders_le tags s (x ∷ xs) m h = let o = one (named tags.tags x) (s.right x) in orders_le tags s xs (max m (t.order (named tags.tags x))) (omega (arith, h, o)) where
  one : (o : Option t.Tag) → t.IsRight tags.tags tags.clock tags.count o → t.order o ≤ tags.count
  one None r = omega arith
  one (Some t.constant) r = omega arith
  one (Some (t.dirtyable a b)) r = r.1
  one (Some (t.combined ls)) r = omega arith

abbrev some_kept : Option Kept → Bool
some_kept None = false
some_kept (Some x) = true

kept_some : (x : Option Kept) → IsSome x → some_kept x ≡ true
kept_some None h = h
kept_some (Some x) h = refl

module _ (tags tags' : t.Tags) (rows rows' : Rows) (i : Id) (sound : IsSound tags rows) (s : Evaluates tags tags' rows rows' i) where
  kept_now : IsKept tags' rows' i
  kept_now = by (combined_is (t.tag_at tags' s.last.tag) s.combined) where
    by : (leads : List Id) × (t.tag_at tags' s.last.tag ≡ Some (t.combined leads)) → IsKept tags' rows' i
    by (leads, e) =
        let v = ap (t.value_by t.order tags'.tags) e in
        let le = orders_le tags' s.tags_sound leads 0 (omega arith) in
        let o = s.order in
        subst IsSome (sym (ap (kept_row tags') s.given ∙ (bound_kept tags' s.row.form s.last s.bound ∙ fresh_last tags' s.last (omega (arith, v, le, o))))) refl

  kept_other : (k : Id) → k ≢ i → IsKept tags rows k → IsKept tags' rows' k
  kept_other k ne h = by (rows k) refl where
    same : rows' k ≡ rows k
    same = s.others k ne

    in_last : (g : Form) (o : Option Last) → is_bound g ≡ true → rows k ≡ Some (record { form = g; last = o }) → (o ≡ None → kept tags rows k ≡ None) → IsKept tags' rows' k
    in_last g None b e n = absurd (let z : false ≡ true = sym (ap {B = Bool} (λ x. some_kept x) (n refl)) ∙ kept_some (kept tags rows k) h in cc)
    in_last g (Some l) b e n =
        let f = last_fresh tags l (some_of (kept tags rows k) h).0 (sym (ap (kept_row tags) e ∙ bound_kept tags g l b) ∙ (some_of (kept tags rows k) h).1) in
        let o = order_stays tags tags' rows rows' i sound s l.tag (others_own tags tags' rows rows' i sound s k g l ne e b) in
        let le = f.0 in
        subst IsSome (sym (ap (kept_row tags') (same ∙ e) ∙ (bound_kept tags' g l b ∙ fresh_last tags' l (omega (arith, o, le))))) refl

    by : (x : Option Row) → rows k ≡ x → IsKept tags' rows' k
    by None e = absurd (let z : false ≡ true = sym (ap {B = Bool} (λ x. some_kept (kept_row tags x)) e) ∙ kept_some (kept tags rows k) h in cc)
    by (Some r) e = form r.form r.last e where
      form : (g : Form) (o : Option Last) → rows k ≡ Some (record { form = g; last = o }) → IsKept tags' rows' k
      form (constant_form v) o e = subst IsSome (sym (ap (kept_row tags') (same ∙ e))) refl
      form (source_form w u v) o e = subst IsSome (sym (ap (kept_row tags') (same ∙ e))) refl
      form (prop_form x n) o e = in_last (prop_form x n) o refl e (λ f. ap (kept_row tags) e ∙ ap (kept_by tags (prop_form x n)) f)
      form (call_form n ids ns) o e = in_last (call_form n ids ns) o refl e (λ f. ap (kept_row tags) e ∙ ap (kept_by tags (call_form n ids ns)) f)
      form (cat_form ids) o e = in_last (cat_form ids) o refl e (λ f. ap (kept_row tags) e ∙ ap (kept_by tags (cat_form ids)) f)
      form (all_form ids) o e = in_last (all_form ids) o refl e (λ f. ap (kept_row tags) e ∙ ap (kept_by tags (all_form ids)) f)

  pub settles : (Own : Id → Type 0) → Own i → tags'.clock ≡ tags.clock → Settles Own tags tags' rows rows'
  settles Own own clock = record {
    sound = evaluated tags tags' rows rows' i sound s;
    forms = forms_stay tags tags' rows rows' i s;
    rest = λ k. rest k (id_cases k i);
    keeps = λ k h. keeps k h (id_cases k i);
    clock = clock;
    count = s.count;
    dirtyable = s.dirtyable;
    stays = λ k. stays k (id_cases k i);
    either = λ k. either k (id_cases k i);
  } where
    either : (k : Id) → (k ≡ i) ⊎ (k ≢ i) → StaysOr (λ q. Own q × IsKept tags' rows' q) tags tags' rows rows' k
    either k (inl e) = inr (subst Own (sym e) own, subst (IsKept tags' rows') (sym e) kept_now)
    either k (inr n) = inl (s.others k n, λ u e. s.tags_others k u n e)

    stays : (k : Id) → (k ≡ i) ⊎ (k ≢ i) → StaysOr Own tags tags' rows rows' k
    stays k (inl e) = inr (subst Own (sym e) own)
    stays k (inr n) = inl (s.others k n, λ u e. s.tags_others k u n e)

    rest : (k : Id) → (k ≡ i) ⊎ (k ≢ i) → (rows' k ≡ rows k) ⊎ (Own k × IsKept tags' rows' k)
    rest k (inl e) = inr (subst Own (sym e) own, subst (IsKept tags' rows') (sym e) kept_now)
    rest k (inr n) = inl (s.others k n)

    keeps : (k : Id) → IsKept tags rows k → (k ≡ i) ⊎ (k ≢ i) → IsKept tags' rows' k
    keeps k h (inl e) = subst (IsKept tags' rows') (sym e) kept_now
    keeps k h (inr n) = kept_other k n h

-- nothing changes
pub settles_none : (Own : Id → Type 0) (tags : t.Tags) (rows : Rows) → IsSound tags rows → Settles Own tags tags rows rows
settles_none Own tags rows s = record { sound = s; forms = refl; rest = λ k. inl refl; keeps = λ k h. h; clock = refl; count = refl; dirtyable = λ u e. refl; stays = λ k. inl (refl, λ u e. refl); either = λ k. inl (refl, λ u e. refl) }

pub settles_same : (Own : Id → Type 0) (tags tags' : t.Tags) (rows rows' : Rows) → IsSound tags rows → tags' ≡ tags → rows' ≡ rows → Settles Own tags tags' rows rows'
settles_same Own tags tags' rows rows' s e f = subst (λ x. Settles Own tags x rows rows') (sym e) (subst (λ x. Settles Own tags tags rows x) (sym f) (settles_none Own tags rows s))

-- one after the other
pub settles_then : (Own : Id → Type 0) (ta tb tc : t.Tags) (ra rb rc : Rows) → Settles Own ta tb ra rb → Settles Own tb tc rb rc → Settles Own ta tc ra rc
settles_then Own ta tb tc ra rb rc a b = record {
  sound = b.sound;
  forms = b.forms ∙ a.forms;
  rest = λ k. rest k (a.rest k) (b.rest k);
  keeps = λ k h. b.keeps k (a.keeps k h);
  clock = b.clock ∙ a.clock;
  count = b.count ∙ a.count;
  dirtyable = λ u d. b.dirtyable u (ap t.is_dirtyable (a.dirtyable u d) ∙ d) ∙ a.dirtyable u d;
  stays = λ k. stays k (a.stays k) (b.stays k);
  either = λ k. either k (a.either k) (b.either k);
} where
  either : (k : Id) → StaysOr (λ q. Own q × IsKept tb rb q) ta tb ra rb k → StaysOr (λ q. Own q × IsKept tc rc q) tb tc rb rc k → StaysOr (λ q. Own q × IsKept tc rc q) ta tc ra rc k
  either k (inl e) (inl f) = inl (f.0 ∙ e.0, λ u o. f.1 u (ap own_tag e.0 ∙ o) ∙ e.1 u o)
  either k (inr h) f = inr (h.0, b.keeps k h.1)
  either k (inl e) (inr h) = inr h

  stays : (k : Id) → StaysOr Own ta tb ra rb k → StaysOr Own tb tc rb rc k → StaysOr Own ta tc ra rc k
  stays k (inl e) (inl f) = inl (f.0 ∙ e.0, λ u o. f.1 u (ap own_tag e.0 ∙ o) ∙ e.1 u o)
  stays k (inr h) f = inr h
  stays k (inl e) (inr h) = inr h

  rest : (k : Id) → (rb k ≡ ra k) ⊎ (Own k × IsKept tb rb k) → (rc k ≡ rb k) ⊎ (Own k × IsKept tc rc k) → (rc k ≡ ra k) ⊎ (Own k × IsKept tc rc k)
  rest k (inl e) (inl f) = inl (f ∙ e)
  rest k (inr h) f = inr (h.0, b.keeps k h.1)
  rest k (inl e) (inr h) = inr h

-- of fewer, so of more
pub settles_more : (Own More : Id → Type 0) (ta tb : t.Tags) (ra rb : Rows) → ((k : Id) → Own k → More k) → Settles Own ta tb ra rb → Settles More ta tb ra rb
settles_more Own More ta tb ra rb h s = record {
  sound = s.sound;
  forms = s.forms;
  rest = λ k. rest k (s.rest k);
  keeps = s.keeps;
  clock = s.clock;
  count = s.count;
  dirtyable = s.dirtyable;
  stays = λ k. stays k (s.stays k);
  either = λ k. either k (s.either k);
} where
  either : (k : Id) → StaysOr (λ q. Own q × IsKept tb rb q) ta tb ra rb k → StaysOr (λ q. More q × IsKept tb rb q) ta tb ra rb k
  either k (inl e) = inl e
  either k (inr o) = inr (h k o.0, o.1)

  stays : (k : Id) → StaysOr Own ta tb ra rb k → StaysOr More ta tb ra rb k
  stays k (inl e) = inl e
  stays k (inr o) = inr (h k o)

  rest : (k : Id) → (rb k ≡ ra k) ⊎ (Own k × IsKept tb rb k) → (rb k ≡ ra k) ⊎ (More k × IsKept tb rb k)
  rest k (inl e) = inl e
  rest k (inr o) = inr (h k o.0, o.1)

-- the step as the code makes it
pub step : (tags tags' : t.Tags) (rows rows' : Rows) (i : Id) (value : V) (ids : List Id) (old : Option Id) (u : Id) (last : Last) → IsSound tags rows → Each (IsKept tags rows) (reads_of rows i)
    → Gathers tags rows i value ids old → Swaps tags tags' old u ids → last ≡ record { value = value; order = tags'.count; tag = u } → Puts rows rows' i last → Settles (λ k. k ≡ i) tags tags' rows rows'
step tags tags' rows rows' i value ids old u last sound ready g s e p =
    settles tags tags' rows rows' i sound
    (evaluates tags tags' rows rows' i sound g.row g.is g.bound ready u old g.owns value last (subst (Swaps tags tags' old u) g.tags_are s) e g.value_is (p.given g.row g.is) p.others)
    (λ k. k ≡ i) refl s.rest.clock

-- what may be used is what the reference means
pub value_now : (tags : t.Tags) (rows : Rows) (i : Id) → IsSound tags rows → IsKept tags rows i → held (rows i) ≡ Some (meaning (forms rows) i).value
value_now tags rows i sound h = by (some_of (kept tags rows i) h) where
  by : (k : Kept) × (kept tags rows i ≡ Some k) → held (rows i) ≡ Some (meaning (forms rows) i).value
  by (k, e) = (kept_held tags rows i k e).0 ∙ ap (λ v. Some v) (sound.right i k e).value

-- the tag of the evaluation before is a combined one
pub gathers_old : (tags : t.Tags) (rows : Rows) (i : Id) (value : V) (ids : List Id) (old : Option Id) → IsSound tags rows → Gathers tags rows i value ids old → (k : Id) → old ≡ Some k → is_combined (t.tag_at tags k) ≡ true
gathers_old tags rows i value ids old sound g k e = by g.row.form g.row.last g.bound (sound.fits i g.row g.is) (sym (g.owns ∙ ap own_tag g.is) ∙ e) where
  id_is : (x : Id) → Some x ≡ Some k → x ≡ k
  id_is x e = cc

  in_last : (l : Option Last) → LastFits tags l → option_map (λ (x : Last). x.tag) l ≡ Some k → is_combined (t.tag_at tags k) ≡ true
  in_last None f e = absurd (let n : None ≡ Some k = e in cc)
  in_last (Some l) f e = ap (λ x. is_combined (named tags.tags x)) (sym (id_is l.tag e)) ∙ f.0

  by : (g : Form) (l : Option Last) → is_bound g ≡ true → RowFits tags g l → own_by g l ≡ Some k → is_combined (t.tag_at tags k) ≡ true
  by (constant_form x) l b f e = absurd (let n : false ≡ true = b in cc)
  by (source_form w s x) l b f e = absurd (let n : false ≡ true = b in cc)
  by (prop_form r n) l b f e = in_last l f e
  by (call_form n ids ns) l b f e = in_last l f e
  by (cat_form ids) l b f e = in_last l f e
  by (all_form ids) l b f e = in_last l f e

-- where nothing at all was dirtied since the last evaluation, it may be used
pub latest_kept : (tags : t.Tags) (rows : Rows) (i : Id) (r : Row) (l : Last) → IsSound tags rows → rows i ≡ Some r → is_bound r.form ≡ true → r.last ≡ Some l → tags.count ≤ l.order → IsKept tags rows i
latest_kept tags rows i r l sound is b last le = by (combined_is (t.tag_at tags l.tag) fits.0) where
  fits : LastFits tags (Some l)
  fits = subst (LastFits tags) last (bound_fits tags r.form r.last b (sound.fits i r is))

  by : (leads : List Id) × (t.tag_at tags l.tag ≡ Some (t.combined leads)) → IsKept tags rows i
  by (leads, e) =
      let v = ap (t.value_by t.order tags.tags) e in
      let o = orders_le tags sound.tags_sound leads 0 (omega arith) in
      subst IsSome (sym (ap (kept_row tags) is ∙ (ap (kept_by tags r.form) last ∙ (bound_kept tags r.form l b ∙ fresh_last tags l (omega (arith, v, o, le)))))) refl
