-- A new reference leaves the others as they are.
use Rattle.std.proofs.Common.{◌≡◌, ◌≢◌, ◌<◌, true, false, List, Option, Some, None, option_map, IsSome, refl, sym, subst, ◌∙◌, ap, ◌⊎◌, inl, inr}
use Rattle.std.specs.List.{list_any}
use Rattle.gl_arena.specs.Id.{Id, same_id}
use Rattle.gl_arena.proofs.Ids.{id_cases}
use Rattle.gl_tags.specs.Tags as t
use Rattle.gl_refs.specs.Forms.{Form, constant_form, source_form, prop_form, call_form, cat_form, all_form, form_or, form_at, meaning, Like, AreLower, is_known, AreKnown, Each, parts}
use Rattle.gl_refs.specs.State.{Row, Rows, forms, kept_row, kept, kept_pair, IsRight, own_tag, own_by, RowFits, is_bound, last_tag, Reaches, LeadsWithin, CombinedOwned, IsSound, Binds}
use Rattle.gl_refs.proofs.Meanings.{within, each_map}
use Rattle.gl_refs.proofs.Rows.{fits_bound, row_right, combined_is, some_is}
use Rattle.gl_refs.proofs.Reaching.{reach_more}
use Rattle.gl_refs.proofs.Leading.{no_last, last_combined}

module _ (tags : t.Tags) (rows rows' : Rows) (n : Id) (form : Form) (sound : IsSound tags rows) (b : Binds rows rows' n form) (fits : RowFits tags form None)
    (fresh : (i u : Id) → own_by form None ≡ Some u → own_tag (rows i) ≢ Some u) (unled : (u : Id) → own_by form None ≡ Some u → t.IsUnled tags u) where
  not_new : (q : Id) → IsSome (forms rows q) → q ≢ n
  not_new q h e = let z : false ≡ true = subst (λ o. IsSome (option_map (λ (r : Row). r.form) o)) (ap rows e ∙ b.vacant) h in cc

  form_stays : (q : Id) → q ≢ n → forms rows' q ≡ forms rows q
  form_stays q ne = ap (option_map (λ (r : Row). r.form)) (b.others q ne)

  lives : (q : Id) → IsSome (forms rows q) → IsSome (forms rows' q)
  lives q h = subst IsSome (sym (form_stays q (not_new q h))) h

  good : (i : Id) → IsSome (forms rows i) → (form_at (forms rows') i ≡ form_at (forms rows) i) × Each (λ q. IsSome (forms rows q)) (parts (form_at (forms rows) i))
  good i h = (ap form_or (form_stays i (not_new i h)), by (forms rows i) refl h) where
    by : (o : Option Form) → forms rows i ≡ o → IsSome o → Each (λ q. IsSome (forms rows q)) (parts (form_or o))
    by None e h = tt
    by (Some g) e h = each_map (λ q. (q.1 < i.1) × IsSome (forms rows q)) (λ q. IsSome (forms rows q)) (parts g) (λ q d. d.1) (sound.lower i g e)

  pub means : (i : Id) → IsSome (forms rows i) → meaning (forms rows') i ≡ meaning (forms rows) i
  means i h = within (λ q. IsSome (forms rows q)) (forms rows) (forms rows') good i h

  each_lives : (i : Id) (xs : List Id) → Each (λ q. (q.1 < i.1) × IsSome (forms rows q)) xs → Each (λ q. (q.1 < i.1) × IsSome (forms rows' q)) xs
  each_lives i xs e = each_map (λ q. (q.1 < i.1) × IsSome (forms rows q)) (λ q. (q.1 < i.1) × IsSome (forms rows' q)) xs (λ q h. (h.0, lives q h.1)) e

  own_at : (i u : Id) → own_tag (rows' i) ≡ Some u → ((i ≡ n) × (own_by form None ≡ Some u)) ⊎ ((i ≢ n) × (own_tag (rows i) ≡ Some u))
  own_at i u e = by (id_cases i n) where
    by : (i ≡ n) ⊎ (i ≢ n) → ((i ≡ n) × (own_by form None ≡ Some u)) ⊎ ((i ≢ n) × (own_tag (rows i) ≡ Some u))
    by (inl q) = inl (q, sym (ap own_tag (ap rows' q ∙ b.given)) ∙ e)
    by (inr ne) = inr (ne, ap own_tag (sym (b.others i ne)) ∙ e)

  owned_now : (i k u : Id) → own_tag (rows' i) ≡ Some u → own_tag (rows' k) ≡ Some u → i ≡ k
  owned_now i k u e f = by (own_at i u e) (own_at k u f) where
    by : ((i ≡ n) × (own_by form None ≡ Some u)) ⊎ ((i ≢ n) × (own_tag (rows i) ≡ Some u)) → ((k ≡ n) × (own_by form None ≡ Some u)) ⊎ ((k ≢ n) × (own_tag (rows k) ≡ Some u)) → i ≡ k
    by (inl x) (inl y) = x.0 ∙ sym y.0
    by (inl x) (inr y) = absurd (fresh k u x.1 y.1)
    by (inr x) (inl y) = absurd (fresh i u y.1 x.1)
    by (inr x) (inr y) = sound.owned i k u x.1 y.1

  lower_now : AreLower (forms rows')
  lower_now i g e = by (id_cases i n) where
    form_is : (x y : Form) → Some x ≡ Some y → x ≡ y
    form_is x y e = cc

    by : (i ≡ n) ⊎ (i ≢ n) → Each (λ q. (q.1 < i.1) × IsSome (forms rows' q)) (parts g)
    by (inl q) =
        let f : form ≡ g = form_is form g (sym (ap (option_map (λ (r : Row). r.form)) (ap rows' q ∙ b.given)) ∙ e) in
        subst (λ x. Each (λ q. (q.1 < i.1) × IsSome (forms rows' q)) (parts x)) f (each_lives i (parts form) (subst (λ x. Each (λ q. (q.1 < x.1) × IsSome (forms rows q)) (parts form)) (sym q) b.parts))
    by (inr ne) = each_lives i (parts g) (sound.lower i g (sym (form_stays i ne) ∙ e))

  known_now : AreKnown (forms rows')
  known_now i g e = by (id_cases i n) where
    form_is : (x y : Form) → Some x ≡ Some y → x ≡ y
    form_is x y e = cc

    by : (i ≡ n) ⊎ (i ≢ n) → is_known g ≡ true
    by (inl q) = subst (λ x. is_known x ≡ true) (form_is form g (sym (ap (option_map (λ (r : Row). r.form)) (ap rows' q ∙ b.given)) ∙ e)) b.known
    by (inr ne) = sound.known i g (sym (form_stays i ne) ∙ e)

  fits_now : (i : Id) (r : Row) → rows' i ≡ Some r → RowFits tags r.form r.last
  fits_now i r e = by (id_cases i n) where
    row_is : (x y : Row) → Some x ≡ Some y → x ≡ y
    row_is x y e = cc

    by : (i ≡ n) ⊎ (i ≢ n) → RowFits tags r.form r.last
    by (inl q) =
        let f = row_is (record { form = form; last = None }) r (sym (ap rows' q ∙ b.given) ∙ e) in
        subst (λ (x : Row). RowFits tags x.form x.last) f fits
    by (inr ne) = sound.fits i r (sym (b.others i ne) ∙ e)

  right_now : IsRight tags rows'
  right_now i k h = by (id_cases i n) where
    live : (o : Option Row) → kept_row tags o ≡ Some k → IsSome (option_map (λ (r : Row). r.form) o)
    live None e = absurd (let z : None ≡ Some k = e in cc)
    live (Some r) e = refl

    by : (i ≡ n) ⊎ (i ≢ n) → Like (kept_pair tags k) (meaning (forms rows') i)
    by (inl q) = subst (λ x. Like (kept_pair tags k) (meaning (forms rows') x)) (sym q)
        (row_right tags rows' sound.tags_sound.still n form None b.given fits (λ l bound f d. absurd (let z : None ≡ Some l = f in cc)) k (ap (kept tags rows') (sym q) ∙ h))
    by (inr ne) =
        let was : kept tags rows i ≡ Some k = ap (kept_row tags) (sym (b.others i ne)) ∙ h in
        subst (Like (kept_pair tags k)) (sym (means i (live (rows i) was))) (sound.right i k was)

  -- the other rows are as before, and name what they named
  was_there : (i u : Id) (r : Row) → rows' i ≡ Some r → last_tag r ≡ Some u → rows i ≡ Some r
  was_there i u r e l = by (id_cases i n) where
    by : (i ≡ n) ⊎ (i ≢ n) → rows i ≡ Some r
    by (inl q) = absurd (let z : None ≡ Some u = sym (no_last form) ∙ (ap last_tag (some_is (record { form = form; last = None }) r (sym (ap rows' q ∙ b.given) ∙ e)) ∙ l) in cc)
    by (inr ne) = sym (b.others i ne) ∙ e

  reach_stays : (i c : Id) → Reaches (forms rows) i c → Reaches (forms rows') i c
  reach_stays i c r = reach_more (forms rows) (forms rows') i (λ k q g h e m. form_stays k (not_new k (subst IsSome (sym e) refl)) ∙ e) c r

  -- no tag leads to the new one's yet
  unled_now : (i u s : Id) (r : Row) → rows i ≡ Some r → last_tag r ≡ Some u → own_by form None ≡ Some s → list_any (same_id s) (t.leads_of tags.tags u) ≡ false
  unled_now i u s r e l o = by (combined_is (t.tag_at tags u) (last_combined tags r.form r.last u (sound.fits i r e) l)) where
    by : (leads : List Id) × (t.tag_at tags u ≡ Some (t.combined leads)) → list_any (same_id s) (t.leads_of tags.tags u) ≡ false
    by (leads, d) = ap (λ x. list_any (same_id s) (t.leads_by u x)) d ∙ unled s o u leads d

  leads_now : LeadsWithin tags rows'
  leads_now i u c s r e l a h = by (id_cases c n) where
    was : rows i ≡ Some r
    was = was_there i u r e l

    by : (c ≡ n) ⊎ (c ≢ n) → list_any (same_id s) (t.leads_of tags.tags u) ≡ false
    by (inl q) = unled_now i u s r was l (ap own_tag (sym b.given ∙ (ap rows' (sym q) ∙ a.is)))
    by (inr ne) = sound.leads i u c s r was l (record { kind = a.kind; was = a.was; last = a.last; is = sym (b.others c ne) ∙ a.is }) (λ x. h (reach_stays i c x))

  combined_now : CombinedOwned tags rows'
  combined_now u h = sound.combined u (λ i o. by i o (id_cases i n)) where
    by : (i : Id) → own_tag (rows i) ≡ Some u → (i ≡ n) ⊎ (i ≢ n) → ⊥
    by i o (inl q) = let z : None ≡ Some u = sym (ap own_tag (ap rows q ∙ b.vacant)) ∙ o in cc
    by i o (inr ne) = h i (ap own_tag (b.others i ne) ∙ o)

  pub made_sound : IsSound tags rows'
  made_sound = record {
    tags_sound = sound.tags_sound;
    lower = lower_now;
    known = known_now;
    fits = fits_now;
    owned = owned_now;
    right = right_now;
    leads = leads_now;
    combined = combined_now;
  }

own_none : (g : Form) → is_bound g ≡ true → own_by g None ≡ None
own_none (constant_form v) e = refl
own_none (source_form k s v) e = absurd (let z : false ≡ true = e in cc)
own_none (prop_form r m) e = refl
own_none (call_form m ids ns) e = refl
own_none (cat_form ids) e = refl
own_none (all_form ids) e = refl

-- one that is bound has no tag yet
pub bind_sound : (tags : t.Tags) (rows rows' : Rows) (n : Id) (form : Form) → IsSound tags rows → Binds rows rows' n form → is_bound form ≡ true → IsSound tags rows'
bind_sound tags rows rows' n form sound b bound = made_sound tags rows rows' n form sound b (fits_bound tags form None bound tt) (λ i u e. absurd (let z : None ≡ Some u = sym (own_none form bound) ∙ e in cc)) (λ u e. absurd (let z : None ≡ Some u = sym (own_none form bound) ∙ e in cc))
