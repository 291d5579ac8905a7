-- To which cells and items the tags of last evaluations lead.
use Rattle.std.proofs.Common.{◌≡◌, ◌≢◌, Bool, true, false, not, IsSome, List, [], ◌∷◌, Option, Some, None, option_map, refl, sym, subst, ◌∙◌, ap, ◌⊎◌, inl, inr}
use Rattle.std.specs.Prelude.{◌||◌}
use Rattle.std.specs.List.{list_any}
use Rattle.std.proofs.lemmas.Bool.{or_parts}
use Rattle.gl_arena.specs.Id.{Id, same_id}
use Rattle.gl_arena.specs.Arena.{named}
use Rattle.gl_arena.proofs.Ids.{same_id-true}
use Rattle.gl_tags.specs.Tags as t
use Rattle.gl_refs.specs.Forms.{Form, constant_form, source_form, prop_form, call_form, cat_form, all_form, form_or, form_at, own_sources, meaning, IsUnread}
use Rattle.gl_refs.specs.State.{Last, Row, Rows, forms, own_tag, own_by, is_combined, LastFits, RowFits, last_by, last_tag, IsSource, Reaches, LeadsWithin, IsSound}
use Rattle.gl_refs.proofs.Reaching.{reach_unread, clean}

pub no_last : (g : Form) → last_by g None ≡ None
no_last (constant_form v) = refl
no_last (source_form k s v) = refl
no_last (prop_form r n) = refl
no_last (call_form h ids ns) = refl
no_last (cat_form ids) = refl
no_last (all_form ids) = refl

pub last_owned : (g : Form) (o : Option Last) (u : Id) → last_by g o ≡ Some u → own_by g o ≡ Some u
last_owned (constant_form v) o u e = absurd (let n : None ≡ Some u = e in cc)
last_owned (source_form k w v) o u e = absurd (let n : None ≡ Some u = e in cc)
last_owned (prop_form x m) o u e = e
last_owned (call_form h ids ns) o u e = e
last_owned (cat_form ids) o u e = e
last_owned (all_form ids) o u e = e

pub not_both : (x : Option t.Tag) → t.is_dirtyable x ≡ true → is_combined x ≡ true → ⊥
not_both None d e = let n : false ≡ true = d in cc
not_both (Some t.constant) d e = let n : false ≡ true = d in cc
not_both (Some (t.dirtyable a b)) d e = let n : false ≡ true = e in cc
not_both (Some (t.combined ls)) d e = let n : false ≡ true = d in cc

id_is : (x y : Id) → Some x ≡ Some y → x ≡ y
id_is x y e = cc

-- the tag of a last evaluation is combined
pub last_combined : (tags : t.Tags) (g : Form) (o : Option Last) (u : Id) → RowFits tags g o → last_by g o ≡ Some u → is_combined (t.tag_at tags u) ≡ true
last_combined tags g o u f e = by g f e where
  last : (o : Option Last) → LastFits tags o → option_map (λ (x : Last). x.tag) o ≡ Some u → is_combined (t.tag_at tags u) ≡ true
  last None f e = absurd (let n : None ≡ Some u = e in cc)
  last (Some l) f e = ap (λ x. is_combined (named tags.tags x)) (sym (id_is l.tag u e)) ∙ f.0

  by : (g : Form) → RowFits tags g o → last_by g o ≡ Some u → is_combined (t.tag_at tags u) ≡ true
  by (constant_form v) f e = absurd (let n : None ≡ Some u = e in cc)
  by (source_form k w v) f e = absurd (let n : None ≡ Some u = e in cc)
  by (prop_form x m) f e = last o f e
  by (call_form h ids ns) f e = last o f e
  by (cat_form ids) f e = last o f e
  by (all_form ids) f e = last o f e

-- a combined tag that a row owns is that of its last evaluation
pub owned_last : (tags : t.Tags) (g : Form) (o : Option Last) (u : Id) → RowFits tags g o → own_by g o ≡ Some u → is_combined (t.tag_at tags u) ≡ true → last_by g o ≡ Some u
owned_last tags (constant_form v) o u f e c = absurd (let n : None ≡ Some u = e in cc)
owned_last tags (source_form k s v) o u f e c = absurd (not_both (t.tag_at tags u) (subst (λ x. t.is_dirtyable (t.tag_at tags x) ≡ true) (id_is s u e) f) c)
owned_last tags (prop_form x m) o u f e c = e
owned_last tags (call_form h ids ns) o u f e c = e
owned_last tags (cat_form ids) o u f e c = e
owned_last tags (all_form ids) o u f e c = e

-- a row's tag is dirtyable or combined
form_kind : (tags : t.Tags) (g : Form) (o : Option Last) (u : Id) → RowFits tags g o → own_by g o ≡ Some u → (t.is_dirtyable (t.tag_at tags u) ≡ true) ⊎ (is_combined (t.tag_at tags u) ≡ true)
form_kind tags (constant_form v) o u f e = absurd (let n : None ≡ Some u = e in cc)
form_kind tags (source_form k s v) o u f e = inl (subst (λ x. t.is_dirtyable (t.tag_at tags x) ≡ true) (id_is s u e) f)
form_kind tags (prop_form x m) o u f e = inr (last_combined tags (prop_form x m) o u f e)
form_kind tags (call_form h ids ns) o u f e = inr (last_combined tags (call_form h ids ns) o u f e)
form_kind tags (cat_form ids) o u f e = inr (last_combined tags (cat_form ids) o u f e)
form_kind tags (all_form ids) o u f e = inr (last_combined tags (all_form ids) o u f e)

module _ (tags : t.Tags) (rows : Rows) (sound : IsSound tags rows) (k u : Id) where
  own_kind : own_tag (rows k) ≡ Some u → (t.is_dirtyable (t.tag_at tags u) ≡ true) ⊎ (is_combined (t.tag_at tags u) ≡ true)
  own_kind e = by (rows k) refl e where
    by : (o : Option Row) → rows k ≡ o → own_tag o ≡ Some u → (t.is_dirtyable (t.tag_at tags u) ≡ true) ⊎ (is_combined (t.tag_at tags u) ≡ true)
    by None f e = absurd (let n : None ≡ Some u = e in cc)
    by (Some r) f e = form_kind tags r.form r.last u (sound.fits k r f) e

  is_neither : (o : Option t.Tag) → (t.is_dirtyable o ≡ true) ⊎ (is_combined o ≡ true) → t.is_dirtyable o ≡ false → is_combined o ≡ false → ⊥
  is_neither o (inl d) e f = let n : true ≡ false = sym d ∙ e in cc
  is_neither o (inr c) e f = let n : true ≡ false = sym c ∙ f in cc

  -- so it lives, and is not the constant one
  pub own_there : own_tag (rows k) ≡ Some u → t.tag_at tags u ≡ None → ⊥
  own_there e v = is_neither (t.tag_at tags u) (own_kind e) (ap t.is_dirtyable v) (ap is_combined v)

  pub own_live : own_tag (rows k) ≡ Some u → IsSome (t.tag_at tags u)
  own_live e = by (t.tag_at tags u) refl where
    by : (o : Option t.Tag) → t.tag_at tags u ≡ o → IsSome o
    by None v = absurd (own_there e v)
    by (Some x) v = refl

  pub own_moves : own_tag (rows k) ≡ Some u → u ≢ tags.still
  own_moves e q = let v = ap (t.tag_at tags) q ∙ sound.tags_sound.still in is_neither (t.tag_at tags u) (own_kind e) (ap t.is_dirtyable v) (ap is_combined v)

-- a dirtyable tag that a row owns is that of a cell or an item
pub owned_source : (tags : t.Tags) (rows : Rows) → IsSound tags rows → (c u : Id) → own_tag (rows c) ≡ Some u → t.is_dirtyable (t.tag_at tags u) ≡ true → IsSource rows c u
owned_source tags rows sound c u e d = by (rows c) refl e where
  last : (o : Option Last) → LastFits tags o → option_map (λ (x : Last). x.tag) o ≡ Some u → ⊥
  last None f e = let n : None ≡ Some u = e in cc
  last (Some l) f e = not_both (t.tag_at tags u) d (subst (λ x. is_combined (t.tag_at tags x) ≡ true) (id_is l.tag u e) f.0)

  form : (g : Form) (o : Option Last) → rows c ≡ Some (record { form = g; last = o }) → RowFits tags g o → own_by g o ≡ Some u → IsSource rows c u
  form (constant_form v) o b f e = absurd (let n : None ≡ Some u = e in cc)
  form (source_form k s v) o b f e = record { kind = k; was = v; last = o; is = b ∙ ap (λ x. let y : Row = record { form = source_form k x v; last = o } in Some y) (id_is s u e) }
  form (prop_form x m) o b f e = absurd (last o f e)
  form (call_form h ids ns) o b f e = absurd (last o f e)
  form (cat_form ids) o b f e = absurd (last o f e)
  form (all_form ids) o b f e = absurd (last o f e)

  by : (o : Option Row) → rows c ≡ o → own_tag o ≡ Some u → IsSource rows c u
  by None b e = absurd (let n : None ≡ Some u = e in cc)
  by (Some r) b e = form r.form r.last b (sound.fits c r b) e

-- no combined tag leads to the tag of a cell or an item that no live reference names
pub unled : (tags : t.Tags) (rows : Rows) (c u : Id) → IsSound tags rows → IsUnread (forms rows) c → own_tag (rows c) ≡ Some u → t.is_dirtyable (t.tag_at tags u) ≡ true → t.IsUnled tags u
unled tags rows c u sound unread own d k leads e = by (list_any (same_id u) leads) refl where
  combined : is_combined (t.tag_at tags k) ≡ true
  combined = ap is_combined e

  apart : (i : Id) → own_tag (rows i) ≡ Some k → c ≢ i
  apart i o q = not_both (t.tag_at tags k) (subst (λ x. t.is_dirtyable (t.tag_at tags x) ≡ true) (id_is u k (sym own ∙ (ap (λ x. own_tag (rows x)) q ∙ o))) d) combined

  led : (i : Id) (r : Row) → rows i ≡ Some r → own_tag (rows i) ≡ Some k → list_any (same_id u) leads ≡ false
  led i r b o =
      sym (ap (λ x. list_any (same_id u) (t.leads_by k x)) e)
      ∙ sound.leads i k c u r b (owned_last tags r.form r.last k (sound.fits i r b) (sym (ap own_tag b) ∙ o) combined) (owned_source tags rows sound c u own d) (λ h. apart i o (reach_unread (forms rows) i c h unread))

  owner : (i : Id) (x : Option Row) → rows i ≡ x → own_tag (rows i) ≡ Some k → list_any (same_id u) leads ≡ false
  owner i None b o = absurd (let n : None ≡ Some k = sym (ap own_tag b) ∙ o in cc)
  owner i (Some r) b o = led i r b o

  by : (x : Bool) → list_any (same_id u) leads ≡ x → x ≡ false
  by false h = refl
  by true h = absurd (let n : true ≡ false = sym combined ∙ sound.combined k (λ i o. let m : true ≡ false = sym h ∙ owner i (rows i) refl o in cc) in cc)

-- a tag that is not dirtyable is no lead
pub leads_apart : (tags : t.Tags) (u : Id) → t.is_dirtyable (t.tag_at tags u) ≡ false → (leads : List Id) → list_any (λ k. not (t.is_dirtyable (named tags.tags k))) leads ≡ false → list_any (same_id u) leads ≡ false
leads_apart tags u n [] h = refl
leads_apart tags u n (x ∷ xs) h =
    let e = or_parts (not (t.is_dirtyable (named tags.tags x))) (list_any (λ k. not (t.is_dirtyable (named tags.tags k))) xs) h in
    by (same_id u x) refl e.0 (leads_apart tags u n xs e.1) where
      by : (b : Bool) → same_id u x ≡ b → not (t.is_dirtyable (named tags.tags x)) ≡ false → list_any (same_id u) xs ≡ false → (same_id u x || list_any (same_id u) xs) ≡ false
      by false e d r = ap (λ b. b || list_any (same_id u) xs) e ∙ r
      by true e d r = absurd (let m : true ≡ false = sym (ap not n) ∙ (ap (λ k. not (t.is_dirtyable (named tags.tags k))) (same_id-true u x e) ∙ d) in cc)

-- where every last evaluation, source and name was there before, tags lead within what is named
pub leads_kept : (tags tags' : t.Tags) (rows rows' : Rows) → LeadsWithin tags rows
    → ((i u : Id) (r : Row) → rows' i ≡ Some r → last_tag r ≡ Some u → (was : Row) × ((rows i ≡ Some was) × ((last_tag was ≡ Some u) × (t.tag_at tags' u ≡ t.tag_at tags u))))
    → ((c s : Id) → IsSource rows' c s → IsSource rows c s)
    → ((i c : Id) (r : Row) → rows' i ≡ Some r → Reaches (forms rows) i c → Reaches (forms rows') i c) → LeadsWithin tags' rows'
leads_kept tags tags' rows rows' h lasts sources reach i u c s r e d b n = by (lasts i u r e d) where
  by : (was : Row) × ((rows i ≡ Some was) × ((last_tag was ≡ Some u) × (t.tag_at tags' u ≡ t.tag_at tags u))) → list_any (same_id s) (t.leads_of tags'.tags u) ≡ false
  by (was, (x, (y, z))) = ap (λ o. list_any (same_id s) (t.leads_by u o)) z ∙ h i u c s was x y (sources c s b) (λ q. n (reach i c r e q))

-- the sources of what a reference means are among those that are named for it
pub sources_named : (rows : Rows) (i c s : Id) → ((k j u : Id) → own_tag (rows k) ≡ Some u → own_tag (rows j) ≡ Some u → k ≡ j) → IsSource rows c s → (Reaches (forms rows) i c → ⊥) → list_any (same_id s) (meaning (forms rows) i).sources ≡ false
sources_named rows i c s owned b n = clean (forms rows) (same_id s) i (λ k r. at k r (rows k) refl) where
  apart : (k : Id) → Reaches (forms rows) i k → (x : Id) → own_tag (rows k) ≡ Some x → same_id s x ≡ false
  apart k r x o = by (same_id s x) refl where
    by : (y : Bool) → same_id s x ≡ y → y ≡ false
    by false e = refl
    by true e = absurd (n (subst (Reaches (forms rows) i) (owned k c s (o ∙ ap (λ y. Some y) (sym (same_id-true s x e))) (ap own_tag b.is)) r))

  form : (k : Id) → Reaches (forms rows) i k → (g : Form) (o : Option Last) → rows k ≡ Some (record { form = g; last = o }) → list_any (same_id s) (own_sources g) ≡ false
  form k r (constant_form v) o e = refl
  form k r (source_form w x v) o e = ap (λ y. y || false) (apart k r x (ap own_tag e))
  form k r (prop_form x m) o e = refl
  form k r (call_form h ids ns) o e = refl
  form k r (cat_form ids) o e = refl
  form k r (all_form ids) o e = refl

  at : (k : Id) → Reaches (forms rows) i k → (o : Option Row) → rows k ≡ o → list_any (same_id s) (own_sources (form_at (forms rows) k)) ≡ false
  at k r None e = ap (λ y. list_any (same_id s) (own_sources (form_or (option_map (λ (q : Row). q.form) y)))) e
  at k r (Some q) e = ap (λ y. list_any (same_id s) (own_sources (form_or (option_map (λ (q : Row). q.form) y)))) e ∙ form k r q.form q.last e
