-- A new reference, with a tag of its own where it is a source, leaves the others as they are.
use Rattle.std.proofs.Common.{◌≡◌, ◌≢◌, ◌<◌, ◌≤◌, Bool, true, false, not, List, [], ◌∷◌, map, Option, Some, None, Result, Ok, Err, IfOk, OnErr, option_map, IsSome, refl, sym, subst, ◌∙◌, ap, arith, ◌⊎◌, inl, inr}
use Rattle.std.specs.Prelude.{ℕ}
use Rattle.std.specs.List.{list_any}
use Rattle.std.proofs.lemmas.Bool.{or_parts}
use Rattle.gl_arena.specs.Id.{Id, same_id}
use Rattle.gl_arena.specs.Arena.{Arena, named, Gives, Ends, IsStamped}
use Rattle.gl_arena.proofs.Ids.{id_cases}
use Rattle.gl_arena.proofs.Mapped.{named-mapped}
use Rattle.gl_tags.specs.Tags as t
use Rattle.gl_refs.specs.Forms.{Form, constant_form, source_form, prop_form, call_form, cat_form, all_form, meaning, Like, Each, parts, is_known}
use Rattle.gl_refs.specs.State.{Last, Row, Rows, forms, kept_row, kept_pair, IsRight, own_tag, own_by, is_combined, LastFits, RowFits, is_bound, LeadsWithin, CombinedOwned, IsSound, Binds}
use Rattle.gl_refs.specs.View.{rows_of, rows_in, seen_row, seen_kind}
use Rattle.gl_refs.specs.declared.row.Row as code
use Rattle.gl_refs.specs.declared.row.Kind as code_kind
use Rattle.gl_refs.proofs.Meanings.{each_map}
use Rattle.gl_refs.proofs.Rows.{row_right, bound_own, was_right}
use Rattle.gl_refs.proofs.Leading.{last_owned, own_there, leads_apart}
use Rattle.gl_refs.proofs.Binding.{made_sound}
use Rattle.gl_refs.proofs.Seen.{rows_same}

-- where each tag that a reference has stays, and the dirtyable ones do, references stay sound
module _ (tags tags' : t.Tags) (rows : Rows) (sound : IsSound tags rows) (ts : t.IsSound tags') (count : tags'.count ≡ tags.count)
    (dirtyable : (k : Id) → t.is_dirtyable (t.tag_at tags k) ≡ true → t.tag_at tags' k ≡ t.tag_at tags k) (owned : (k u : Id) → own_tag (rows k) ≡ Some u → t.tag_at tags' u ≡ t.tag_at tags u)
    (combined : (k : Id) → is_combined (t.tag_at tags' k) ≡ true → is_combined (t.tag_at tags k) ≡ true) where
  all_same : (f : Option t.Tag → ℕ) (leads : List Id) → list_any (λ k. not (t.is_dirtyable (named tags.tags k))) leads ≡ false → map (λ k. f (named tags'.tags k)) leads ≡ map (λ k. f (named tags.tags k)) leads
  all_same f [] h = refl
  all_same f (x ∷ xs) h =
      let e = or_parts (not (t.is_dirtyable (named tags.tags x))) (list_any (λ k. not (t.is_dirtyable (named tags.tags k))) xs) h in
      rw (ap f (dirtyable x (not_false (t.is_dirtyable (named tags.tags x)) e.0)), all_same f xs e.1) refl where
        not_false : (b : Bool) → not b ≡ false → b ≡ true
        not_false true h = refl
        not_false false h = absurd (let n : true ≡ false = h in cc)

  order_stays : (u : Id) → named tags'.tags u ≡ named tags.tags u → t.order_of tags' u ≡ t.order_of tags u
  order_stays u e = ap (t.value_by t.order tags'.tags) e ∙ by (named tags.tags u) (sound.tags_sound.right u) where
    by : (o : Option t.Tag) → t.IsRight tags.tags tags.clock tags.count o → t.value_by t.order tags'.tags o ≡ t.value_by t.order tags.tags o
    by None r = refl
    by (Some t.constant) r = refl
    by (Some (t.dirtyable a b)) r = refl
    by (Some (t.combined leads)) r = ap (t.greatest_from 0) (all_same t.order leads r)

  tag_stays : (k : Id) (g : Form) (l : Last) → rows k ≡ Some (record { form = g; last = Some l }) → is_bound g ≡ true → named tags'.tags l.tag ≡ named tags.tags l.tag
  tag_stays k g l e b = owned k l.tag (ap own_tag e ∙ bound_own g l b)

  last_fits : (o : Option Last) → ((l : Last) → o ≡ Some l → named tags'.tags l.tag ≡ named tags.tags l.tag) → LastFits tags o → LastFits tags' o
  last_fits None h f = tt
  last_fits (Some l) h f = let c = count in let le = f.1 in (ap is_combined (h l refl) ∙ f.0, omega (arith, c, le))

  kind_fits : (g : Form) (o : Option Last) → ((l : Last) → is_bound g ≡ true → o ≡ Some l → named tags'.tags l.tag ≡ named tags.tags l.tag) → RowFits tags g o → RowFits tags' g o
  kind_fits (constant_form v) o h f = tt
  kind_fits (source_form k u v) o h f = ap t.is_dirtyable (dirtyable u f) ∙ f
  kind_fits (prop_form r n) o h f = last_fits o (λ l e. h l refl e) f
  kind_fits (call_form n ids ns) o h f = last_fits o (λ l e. h l refl e) f
  kind_fits (cat_form ids) o h f = last_fits o (λ l e. h l refl e) f
  kind_fits (all_form ids) o h f = last_fits o (λ l e. h l refl e) f

  fits_now : (k : Id) (r : Row) → rows k ≡ Some r → RowFits tags' r.form r.last
  fits_now k r e = kind_fits r.form r.last (λ l b f. tag_stays k r.form l (e ∙ ap (λ o. Some (record { form = r.form; last = o })) f) b) (sound.fits k r e)

  right_now : IsRight tags' rows
  right_now k q h = by (rows k) refl where
    by : (o : Option Row) → rows k ≡ o → Like (kept_pair tags' q) (meaning (forms rows) k)
    by None e = absurd (let n : None ≡ Some q = sym (ap (kept_row tags') e) ∙ h in cc)
    by (Some r) e = row_right tags' rows ts.still k r.form r.last e (fits_now k r e) (λ l b f d. last l b f d) q h where
      last : (l : Last) → is_bound r.form ≡ true → r.last ≡ Some l → t.order_of tags' l.tag ≤ l.order → Like (kept_pair tags' (record { value = l.value; tag = l.tag })) (meaning (forms rows) k)
      last l b f d =
          let old = e ∙ ap (λ o. Some (record { form = r.form; last = o })) f in
          let tag = tag_stays k r.form l old b in
          let o = order_stays l.tag tag in
          let x = was_right tags rows k r.form l sound.right old b (omega (arith, o, d)) in
          record { value = x.value; sources = λ p. ap (λ y. list_any p (t.leads_by l.tag y)) tag ∙ x.sources p }

  leads_now : LeadsWithin tags' rows
  leads_now i u c s r e l b h = ap (λ x. list_any (same_id s) (t.leads_by u x)) (owned i u (ap own_tag e ∙ last_owned r.form r.last u l)) ∙ sound.leads i u c s r e l b h

  combined_now : CombinedOwned tags' rows
  combined_now u h = by (is_combined (t.tag_at tags' u)) refl where
    by : (b : Bool) → is_combined (t.tag_at tags' u) ≡ b → b ≡ false
    by false e = refl
    by true e = absurd (let n : true ≡ false = sym (combined u e) ∙ sound.combined u h in cc)

  pub tags_changed : IsSound tags' rows
  tags_changed = record { tags_sound = ts; lower = sound.lower; known = sound.known; fits = fits_now; owned = sound.owned; right = right_now; leads = leads_now; combined = combined_now }

-- a dirtyable tag is made
module _ (tags tags' : t.Tags) (rows : Rows) (sound : IsSound tags rows) (ts : t.IsSound tags') (u : Id) (clock order : ℕ) (g : Gives tags.tags tags'.tags u (t.dirtyable clock order)) (rest : t.Rest tags tags') where
  stays : (k : Id) (x : Option t.Tag) → t.tag_at tags k ≡ x → (x ≡ None → ⊥) → t.tag_at tags' k ≡ t.tag_at tags k
  stays k x e h = g.others k (λ q. h (sym e ∙ (ap (named tags.tags) q ∙ g.vacant)))

  combined_was : (k : Id) → is_combined (t.tag_at tags' k) ≡ true → is_combined (t.tag_at tags k) ≡ true
  combined_was k e = by (id_cases k u) where
    by : (k ≡ u) ⊎ (k ≢ u) → is_combined (t.tag_at tags k) ≡ true
    by (inl q) = absurd (let n : false ≡ true = sym (ap is_combined (ap (named tags'.tags) q ∙ g.given)) ∙ e in cc)
    by (inr ne) = sym (ap is_combined (g.others k ne)) ∙ e

  pub tag_made : IsSound tags' rows
  tag_made = tags_changed tags tags' rows sound ts rest.count
      (λ k d. stays k (t.tag_at tags k) refl (λ e. let n : false ≡ true = sym (ap t.is_dirtyable e) ∙ d in cc))
      (λ k v e. stays v (t.tag_at tags v) refl (λ f. own_there tags rows sound k v e f))
      combined_was

  pub tag_unowned : (k : Id) → own_tag (rows k) ≢ Some u
  tag_unowned k e = own_there tags rows sound k u e g.vacant

  -- no combined tag leads to it yet
  pub tag_unled : t.IsUnled tags' u
  tag_unled k leads e = by (id_cases k u) where
    by : (k ≡ u) ⊎ (k ≢ u) → list_any (same_id u) leads ≡ false
    by (inl q) = absurd (let n : Some (t.dirtyable clock order) ≡ Some (t.combined leads) = sym g.given ∙ (ap (named tags'.tags) (sym q) ∙ e) in cc)
    by (inr ne) = leads_apart tags u (ap t.is_dirtyable g.vacant) leads (subst (t.IsRight tags.tags tags.clock tags.count) (sym (g.others k ne) ∙ e) (sound.tags_sound.right k))

  -- and where it is ended again, all tags are as before
  pub tag_again : (tags'' : t.Tags) → Ends tags'.tags tags''.tags u → (k : Id) → t.tag_at tags'' k ≡ t.tag_at tags k
  tag_again tags'' e k = by (id_cases k u) where
    by : (k ≡ u) ⊎ (k ≢ u) → t.tag_at tags'' k ≡ t.tag_at tags k
    by (inl q) = (ap (named tags''.tags) q ∙ e.ended) ∙ sym (ap (named tags.tags) q ∙ g.vacant)
    by (inr ne) = e.others k ne ∙ g.others k ne

-- a row is put in
module _ (tags : t.Tags) (a b : Arena code.Row) (n : Id) (kind : code_kind.Kind) (sound : IsSound tags (rows_of a)) (stamped : IsStamped a) (live : Each (λ q. IsSome (forms (rows_of a) q)) (parts (seen_kind kind))) (known : is_known (seen_kind kind) ≡ true)
    (fits : RowFits tags (seen_kind kind) None) (fresh : (i u : Id) → own_by (seen_kind kind) None ≡ Some u → own_tag (rows_of a i) ≢ Some u) (unled : (u : Id) → own_by (seen_kind kind) None ≡ Some u → t.IsUnled tags u) (g : Gives (rows_in a) (rows_in b) n (record { form = seen_kind kind; last = None })) where
  is_there : (o : Option code.Row) → IsSome (option_map (λ (r : Row). r.form) (option_map seen_row o)) → IsSome o
  is_there None h = h
  is_there (Some x) h = refl

  binds : Binds (rows_of a) (rows_of b) n (seen_kind kind)
  binds = record {
    vacant = sym (named-mapped seen_row a n) ∙ g.vacant;
    given = sym (named-mapped seen_row b n) ∙ g.given;
    others = λ k ne. sym (named-mapped seen_row b k) ∙ (g.others k ne ∙ named-mapped seen_row a k);
    parts = each_map (λ q. IsSome (forms (rows_of a) q)) (λ q. (q.1 < n.1) × IsSome (forms (rows_of a) q)) (parts (seen_kind kind))
        (λ q h. let lt = stamped.below q (is_there (named a q) h) in let e = g.stamp in (omega (arith, lt, e), h)) live;
    known = known;
  }

  pub made_row : IsSound tags (rows_of b)
  made_row = made_sound tags (rows_of a) (rows_of b) n (seen_kind kind) sound binds fits fresh unled

pub made_or_not : {E : Type 0} (q : Result Id E) (tags : t.Tags) (a b : Arena code.Row) (kind : code_kind.Kind) → IsSound tags (rows_of a) → IsStamped a → Each (λ i. IsSome (forms (rows_of a) i)) (parts (seen_kind kind)) → is_known (seen_kind kind) ≡ true
    → RowFits tags (seen_kind kind) None → ((i u : Id) → own_by (seen_kind kind) None ≡ Some u → own_tag (rows_of a i) ≢ Some u) → ((u : Id) → own_by (seen_kind kind) None ≡ Some u → t.IsUnled tags u) → IfOk q (λ n. Gives (rows_in a) (rows_in b) n (record { form = seen_kind kind; last = None })) → OnErr q (rows_in b ≡ rows_in a) → IsSound tags (rows_of b)
made_or_not (Ok n) tags a b kind sound stamped live known fits fresh unled g e = made_row tags a b n kind sound stamped live known fits fresh unled g
made_or_not (Err x) tags a b kind sound stamped live known fits fresh unled g e = rows_same (IsSound tags) a b e sound
