-- What leaves each position covered at the tags to which it leads, and hot where one of them was touched.
use Rattle.std.proofs.Common.{◌≡◌, ◌≢◌, ℕ, zero, suc, take, get_or, ◌<◌, ◌≤◌, max, Bool, true, false, not, List, [], ◌∷◌, map, Option, Some, None, Result, Ok, Err, IfOk, OnErr, option_map, refl, sym, subst, ◌∙◌, ap, arith, ◌⊎◌, inl, inr}
use Rattle.std.specs.Prelude.{◌||◌, ◌-◌}
use Rattle.std.specs.List.{list_any}
use Rattle.std.proofs.lemmas.Bool.{or_parts, cases_eq}
use Rattle.gl_arena.specs.Id.{Id, same_id}
use Rattle.gl_arena.specs.Arena.{Arena, named, Gives, Ends}
use Rattle.gl_arena.proofs.Ids.{id_cases, same_id-true}
use Rattle.gl_arena.proofs.Mapped.{named-mapped}
use Rattle.gl_tags.specs.Tags as t
use Rattle.gl_tags.proofs.Changes.{dirty_reaches}
use Rattle.gl_refs.specs.Forms.{V, Form, constant_form, source_form, prop_form, call_form, cat_form, all_form, form_or, Each, IsUnread}
use Rattle.gl_refs.specs.State.{Last, Row, Rows, forms, own_tag, own_by, is_bound, last_by, last_tag, all_formed, is_position, IsValid, IsKept, reads_of, IsSound, Sets, Evaluates, Gathers, Swaps, Puts, EndsTag, Frees}
use Rattle.gl_refs.specs.View.{rows_of, rows_in, seen_row}
use Rattle.gl_refs.specs.Watch.{placed_by, placed_tag, is_hot, covers, Watched, Widens}
use Rattle.gl_refs.specs.declared.watch.Watch.{Watch}
use Rattle.gl_refs.specs.declared.row.Row as code
use Rattle.gl_refs.proofs.Meanings.{each_map}
use Rattle.gl_refs.proofs.Setting.{tag_others}
use Rattle.gl_refs.proofs.Computing.{evaluates}
use Rattle.gl_refs.proofs.Leading.{last_owned, last_combined, not_both, own_there}
use Rattle.gl_refs.proofs.Freeing as freeing
use Rattle.gl_refs.proofs.Seen.{rows_same}

-- Values of tags

-- no value is above the clock
pub value_le : (tags : t.Tags) → t.IsSound tags → (u : Id) → t.value_of tags u ≤ tags.clock
value_le tags sound u = by (named tags.tags u) (sound.right u) where
  one : (o : Option t.Tag) → t.IsRight tags.tags tags.clock tags.count o → t.revision o ≤ tags.clock
  one None r = omega arith
  one (Some t.constant) r = omega arith
  one (Some (t.dirtyable a b)) r = r.0
  one (Some (t.combined ls)) r = omega arith

  all : (leads : List Id) (m : ℕ) → m ≤ tags.clock → t.greatest_from m (map (λ k. t.revision (named tags.tags k)) leads) ≤ tags.clock
  all [] m h = h
  all (x ∷ xs) m h = let o = one (named tags.tags x) (sound.right x) in all xs (max m (t.revision (named tags.tags x))) (omega (arith, h, o))

  by : (o : Option t.Tag) → t.IsRight tags.tags tags.clock tags.count o → t.value_by t.revision tags.tags o ≤ tags.clock
  by None r = omega arith
  by (Some t.constant) r = omega arith
  by (Some (t.dirtyable a b)) r = r.0
  by (Some (t.combined leads)) r = all leads 0 (omega arith)

-- where dirtyable tags stay, so do the values of those that stay
pub value_stays : (tags tags' : t.Tags) → t.IsSound tags → ((k : Id) → t.is_dirtyable (t.tag_at tags k) ≡ true → t.tag_at tags' k ≡ t.tag_at tags k) → (u : Id) → t.tag_at tags' u ≡ t.tag_at tags u → t.value_of tags' u ≡ t.value_of tags u
value_stays tags tags' sound dirtyable u e = ap (t.value_by t.revision tags'.tags) e ∙ by (named tags.tags u) (sound.right u) where
  not_false : (b : Bool) → not b ≡ false → b ≡ true
  not_false true h = refl
  not_false false h = absurd (let n : true ≡ false = h in cc)

  all : (leads : List Id) → list_any (λ k. not (t.is_dirtyable (named tags.tags k))) leads ≡ false → map (λ k. t.revision (named tags'.tags k)) leads ≡ map (λ k. t.revision (named tags.tags k)) leads
  all [] h = refl
  all (x ∷ xs) h =
      let p = or_parts (not (t.is_dirtyable (named tags.tags x))) (list_any (λ k. not (t.is_dirtyable (named tags.tags k))) xs) h in
      rw (ap t.revision (dirtyable x (not_false (t.is_dirtyable (named tags.tags x)) p.0)), all xs p.1) refl

  by : (o : Option t.Tag) → t.IsRight tags.tags tags.clock tags.count o → t.value_by t.revision tags'.tags o ≡ t.value_by t.revision tags.tags o
  by None r = refl
  by (Some t.constant) r = refl
  by (Some (t.dirtyable a b)) r = refl
  by (Some (t.combined leads)) r = ap (t.greatest_from 0) (all leads r)

-- Rows

abbrev lasts : Option Row → Option Id
lasts None = None
lasts (Some r) = placed_tag r

abbrev some_id : Option Id → Id → Id
some_id None d = d
some_id (Some x) d = x

some_ids : (x y : Id) → Some x ≡ Some y → x ≡ y
some_ids x y e = ap (λ o. some_id o x) e

none_placed : (g : Form) → placed_by g None ≡ None
none_placed (constant_form v) = refl
none_placed (source_form k s v) = refl
none_placed (prop_form r n) = refl
none_placed (call_form n ids ns) = refl
none_placed (cat_form ids) = refl
none_placed (all_form ids) = refl

-- the tag of a position's last evaluation is that of a last evaluation, and its own
placed_last : (g : Form) (l : Option Last) (u : Id) → placed_by g l ≡ Some u → last_by g l ≡ Some u
placed_last (constant_form v) l u e = absurd (let n : None ≡ Some u = e in cc)
placed_last (source_form k s v) l u e = absurd (let n : None ≡ Some u = e in cc)
placed_last (prop_form r n) l u e = absurd (let n : None ≡ Some u = e in cc)
placed_last (call_form n ids ns) l u e = absurd (let n : None ≡ Some u = e in cc)
placed_last (cat_form ids) l u e = absurd (let n : None ≡ Some u = e in cc)
placed_last (all_form ids) l u e = e

placed_owned : (g : Form) (l : Option Last) (u : Id) → placed_by g l ≡ Some u → own_by g l ≡ Some u
placed_owned g l u e = last_owned g l u (placed_last g l u e)

-- a row with such a tag is that of a position
placed_all : (g : Form) (l : Last) (u : Id) → placed_by g (Some l) ≡ Some u → (all_formed g ≡ true) × (l.tag ≡ u)
placed_all (constant_form v) l u e = absurd (let n : None ≡ Some u = e in cc)
placed_all (source_form k s v) l u e = absurd (let n : None ≡ Some u = e in cc)
placed_all (prop_form r n) l u e = absurd (let n : None ≡ Some u = e in cc)
placed_all (call_form n ids ns) l u e = absurd (let n : None ≡ Some u = e in cc)
placed_all (cat_form ids) l u e = absurd (let n : None ≡ Some u = e in cc)
placed_all (all_form ids) l u e = (refl, some_ids l.tag u e)

bound_last : (g : Form) (l : Last) → is_bound g ≡ true → last_by g (Some l) ≡ Some l.tag
bound_last (constant_form v) l e = absurd (let n : false ≡ true = e in cc)
bound_last (source_form k s v) l e = absurd (let n : false ≡ true = e in cc)
bound_last (prop_form r n) l e = refl
bound_last (call_form n ids ns) l e = refl
bound_last (cat_form ids) l e = refl
bound_last (all_form ids) l e = refl

covered_at : (w : Watch) (n : ℕ) (s : Id) (leads : List Id) → Each (λ d. covers w d.0 n ≡ true) leads → list_any (same_id s) leads ≡ true → covers w s.0 n ≡ true
covered_at w n s [] h e = absurd (let z : false ≡ true = e in cc)
covered_at w n s (x ∷ xs) h e = by (same_id s x) refl (λ g. covered_at w n s xs h.1 g) where
  by : (b : Bool) → same_id s x ≡ b → (list_any (same_id s) xs ≡ true → covers w s.0 n ≡ true) → covers w s.0 n ≡ true
  by true q r = subst (λ k. covers w k.0 n ≡ true) (sym (same_id-true s x q)) h.0
  by false q r = r (sym (ap (λ b. b || list_any (same_id s) xs) q) ∙ e)

each_wider : (w w' : Watch) → Widens w w' → (n : ℕ) (leads : List Id) → Each (λ d. covers w d.0 n ≡ true) leads → Each (λ d. covers w' d.0 n ≡ true) leads
each_wider w w' wide n leads h = each_map (λ d. covers w d.0 n ≡ true) (λ d. covers w' d.0 n ≡ true) leads (λ d e. wide.covers d.0 n e) h

-- one more of those in front
pub each_more : (P : Id → Type 0) (xs : List Id) (k : ℕ) (d : Id) → P (get_or xs k d) → Each P (take k xs) → Each P (take (suc k) xs)
each_more P [] k d h e = tt
each_more P (x ∷ xs) zero d h e = (h, tt)
each_more P (x ∷ xs) (suc k) d h e = (e.0, each_more P xs k d h e.1)

-- a source is touched
module _ (tags tags' : t.Tags) (rows rows' : Rows) (c : Id) (value : V) (sound : IsSound tags rows) (s : Sets tags tags' rows rows' c value) (w w' : Watch) (wide : Widens w w')
    (touched : (n : ℕ) → covers w s.tag.0 n ≡ true → is_hot w' n ≡ true) (old : Watched tags rows w) where
  live : t.is_dirtyable (t.tag_at tags s.tag) ≡ true
  live = sound.fits c (record { form = source_form s.kind s.tag s.was; last = s.last }) s.old

  was : (i u : Id) (r : Row) → rows' i ≡ Some r → placed_tag r ≡ Some u → rows i ≡ Some r
  was i u r e l = by (id_cases i c) where
    by : (i ≡ c) ⊎ (i ≢ c) → rows i ≡ Some r
    by (inl q) = absurd (let n : None ≡ Some u = sym (ap lasts (ap rows' q ∙ s.given)) ∙ (ap lasts e ∙ l) in cc)
    by (inr n) = sym (s.others i n) ∙ e

  tag_same : (i u : Id) (r : Row) → rows i ≡ Some r → placed_tag r ≡ Some u → named tags'.tags u ≡ named tags.tags u
  tag_same i u r e l =
      let ne : u ≢ s.tag = λ q. not_both (t.tag_at tags u) (ap (λ x. t.is_dirtyable (t.tag_at tags x)) q ∙ live) (last_combined tags r.form r.last u (sound.fits i r e) (placed_last r.form r.last u l)) in
      tag_others tags tags' rows rows' c value sound s u ne

  led_now : (i u : Id) (r : Row) → rows' i ≡ Some r → placed_tag r ≡ Some u → Each (λ d. covers w' d.0 i.1 ≡ true) (t.leads_of tags'.tags u)
  led_now i u r e l =
      let o = was i u r e l in
      each_wider w w' wide i.1 (t.leads_of tags'.tags u) (subst (λ x. Each (λ d. covers w d.0 i.1 ≡ true) (t.leads_by u x)) (sym (tag_same i u r o l)) (old.led i u r o l))

  hot_now : (i u : Id) (r : Row) → rows' i ≡ Some r → placed_tag r ≡ Some u → t.value_of tags' u ≡ tags'.clock → is_hot w' i.1 ≡ true
  hot_now i u r e l v = by (list_any (same_id s.tag) (t.leads_of tags.tags u)) refl where
    o : rows i ≡ Some r
    o = was i u r e l

    reach : (list_any (same_id s.tag) (t.leads_of tags.tags u) ≡ true → t.value_of (t.dirtied tags s.tag) u ≡ tags.clock) × (list_any (same_id s.tag) (t.leads_of tags.tags u) ≡ false → t.value_of (t.dirtied tags s.tag) u ≡ t.value_of tags u)
    reach = dirty_reaches tags s.tag sound.tags_sound live u

    by : (b : Bool) → list_any (same_id s.tag) (t.leads_of tags.tags u) ≡ b → is_hot w' i.1 ≡ true
    by true q = touched i.1 (covered_at w i.1 s.tag (t.leads_of tags.tags u) (old.led i u r o l) q)
    by false q = wide.hot i.1 (old.hot i u r o l (sym (reach.1 q) ∙ (sym (ap (λ (x : t.Tags). t.value_of x u) s.dirtied) ∙ (v ∙ ap (λ (x : t.Tags). x.clock) s.dirtied))))

  pub watched_sets : Watched tags' rows' w'
  watched_sets = record { led = led_now; hot = hot_now }

-- a reference is evaluated
module _ (tags tags' : t.Tags) (rows rows' : Rows) (i : Id) (sound : IsSound tags rows) (s : Evaluates tags tags' rows rows' i) (clock : tags'.clock ≡ tags.clock) (w w' : Watch) (wide : Widens w w')
    (covered : all_formed s.row.form ≡ true → Each (λ d. covers w' d.0 i.1 ≡ true) (t.leads_of tags'.tags s.last.tag)) (hot : all_formed s.row.form ≡ true → is_hot w' i.1 ≡ true) (old : Watched tags rows w) where
  own_now : (k u : Id) (r : Row) → k ≡ i → rows' k ≡ Some r → placed_tag r ≡ Some u → (all_formed s.row.form ≡ true) × (s.last.tag ≡ u)
  own_now k u r q e l = placed_all s.row.form s.last u (sym (ap lasts s.given) ∙ (sym (ap (λ x. lasts (rows' x)) q) ∙ (ap lasts e ∙ l)))

  tag_stays : (k u : Id) (r : Row) → k ≢ i → rows k ≡ Some r → placed_tag r ≡ Some u → t.tag_at tags' u ≡ t.tag_at tags u
  tag_stays k u r n e l = s.tags_others k u n (ap own_tag e ∙ placed_owned r.form r.last u l)

  led_then : (k u : Id) (r : Row) → rows' k ≡ Some r → placed_tag r ≡ Some u → Each (λ d. covers w' d.0 k.1 ≡ true) (t.leads_of tags'.tags u)
  led_then k u r e l = by (id_cases k i) where
    by : (k ≡ i) ⊎ (k ≢ i) → Each (λ d. covers w' d.0 k.1 ≡ true) (t.leads_of tags'.tags u)
    by (inl q) =
        let o = own_now k u r q e l in
        subst (λ x. Each (λ d. covers w' d.0 x.1 ≡ true) (t.leads_of tags'.tags u)) (sym q) (subst (λ x. Each (λ d. covers w' d.0 i.1 ≡ true) (t.leads_of tags'.tags x)) o.1 (covered o.0))
    by (inr n) =
        let o = sym (s.others k n) ∙ e in
        each_wider w w' wide k.1 (t.leads_of tags'.tags u) (subst (λ x. Each (λ d. covers w d.0 k.1 ≡ true) (t.leads_by u x)) (sym (tag_stays k u r n o l)) (old.led k u r o l))

  hot_then : (k u : Id) (r : Row) → rows' k ≡ Some r → placed_tag r ≡ Some u → t.value_of tags' u ≡ tags'.clock → is_hot w' k.1 ≡ true
  hot_then k u r e l v = by (id_cases k i) where
    by : (k ≡ i) ⊎ (k ≢ i) → is_hot w' k.1 ≡ true
    by (inl q) = ap (λ (x : Id). is_hot w' x.1) q ∙ hot (own_now k u r q e l).0
    by (inr n) =
        let o = sym (s.others k n) ∙ e in
        wide.hot k.1 (old.hot k u r o l (sym (value_stays tags tags' sound.tags_sound s.dirtyable u (tag_stays k u r n o l)) ∙ (v ∙ clock)))

  pub watched_evaluates : Watched tags' rows' w'
  watched_evaluates = record { led = led_then; hot = hot_then }

-- the tags that references have stay, and the dirtyable ones do
pub watched_tags : (tags tags' : t.Tags) (rows : Rows) → IsSound tags rows → ((k : Id) → t.is_dirtyable (t.tag_at tags k) ≡ true → t.tag_at tags' k ≡ t.tag_at tags k) → ((k u : Id) → own_tag (rows k) ≡ Some u → t.tag_at tags' u ≡ t.tag_at tags u)
    → tags'.clock ≡ tags.clock → (w : Watch) → Watched tags rows w → Watched tags' rows w
watched_tags tags tags' rows sound dirtyable owned clock w old = record {
  led = λ i u r e l. subst (λ x. Each (λ d. covers w d.0 i.1 ≡ true) (t.leads_by u x)) (sym (stays i u r e l)) (old.led i u r e l);
  hot = λ i u r e l v. old.hot i u r e l (sym (value_stays tags tags' sound.tags_sound dirtyable u (stays i u r e l)) ∙ (v ∙ clock));
} where
  stays : (i u : Id) (r : Row) → rows i ≡ Some r → placed_tag r ≡ Some u → t.tag_at tags' u ≡ t.tag_at tags u
  stays i u r e l = owned i u (ap own_tag e ∙ placed_owned r.form r.last u l)

-- a row is put in that was not evaluated
pub watched_made : (tags : t.Tags) (a b : Arena code.Row) (n : Id) (form : Form) → Gives (rows_in a) (rows_in b) n (record { form = form; last = None }) → (w : Watch) → Watched tags (rows_of a) w → Watched tags (rows_of b) w
watched_made tags a b n form g w old = record { led = λ i u r e l. old.led i u r (was i u r e l) l; hot = λ i u r e l v. old.hot i u r (was i u r e l) l v } where
  was : (i u : Id) (r : Row) → rows_of b i ≡ Some r → placed_tag r ≡ Some u → rows_of a i ≡ Some r
  was i u r e l = by (id_cases i n) where
    by : (i ≡ n) ⊎ (i ≢ n) → rows_of a i ≡ Some r
    by (inl q) = absurd (let z : None ≡ Some u = sym (none_placed form) ∙ (sym (ap lasts (ap (rows_of b) q ∙ (sym (named-mapped seen_row b n) ∙ g.given))) ∙ (ap lasts e ∙ l)) in cc)
    by (inr ne) = sym (sym (named-mapped seen_row b i) ∙ (g.others i ne ∙ named-mapped seen_row a i)) ∙ e

pub watched_or_not : {E : Type 0} (q : Result Id E) (tags : t.Tags) (a b : Arena code.Row) (form : Form) → IfOk q (λ n. Gives (rows_in a) (rows_in b) n (record { form = form; last = None })) → OnErr q (rows_in b ≡ rows_in a) → (w : Watch) → Watched tags (rows_of a) w → Watched tags (rows_of b) w
watched_or_not (Ok n) tags a b form g e w old = watched_made tags a b n form g w old
watched_or_not (Err x) tags a b form g e w old = rows_same (λ rows. Watched tags rows w) a b e old

-- a reference is ended
module _ (tags tags' : t.Tags) (rows rows' : Rows) (i : Id) (sound : IsSound tags rows) (s : Frees tags tags' rows rows' i) (w : Watch) (old : Watched tags rows w) where
  kept : (k u : Id) (r : Row) → rows' k ≡ Some r → placed_tag r ≡ Some u → (k ≢ i) × (rows k ≡ Some r)
  kept k u r e l = by (id_cases k i) where
    by : (k ≡ i) ⊎ (k ≢ i) → (k ≢ i) × (rows k ≡ Some r)
    by (inl q) = absurd (let n : None ≡ Some r = sym (ap rows' q ∙ s.ended) ∙ e in cc)
    by (inr n) = (n, sym (s.others k n) ∙ e)

  tag_kept : (k u : Id) (r : Row) → (k ≢ i) × (rows k ≡ Some r) → placed_tag r ≡ Some u → named tags'.tags u ≡ named tags.tags u
  tag_kept k u r o l = freeing.tag_same tags tags' rows rows' i sound s k u o.0 (ap own_tag o.1 ∙ placed_owned r.form r.last u l)

  value_kept : (u : Id) → named tags'.tags u ≡ named tags.tags u → t.value_of tags' u ≡ t.value_of tags u
  value_kept u e = ap (t.value_by t.revision tags'.tags) e ∙ by (named tags.tags u) refl where
    by : (o : Option t.Tag) → named tags.tags u ≡ o → t.value_by t.revision tags'.tags o ≡ t.value_by t.revision tags.tags o
    by None r = refl
    by (Some t.constant) r = refl
    by (Some (t.dirtyable a b)) r = refl
    by (Some (t.combined leads)) r = ap (t.greatest_from 0) (freeing.all_same tags tags' rows rows' i sound s t.revision leads (freeing.own_apart tags tags' rows rows' i sound s u leads r))

  pub watched_ends : Watched tags' rows' w
  watched_ends = record {
    led = λ k u r e l. let o = kept k u r e l in subst (λ x. Each (λ d. covers w d.0 k.1 ≡ true) (t.leads_by u x)) (sym (tag_kept k u r o l)) (old.led k u r o.1 l);
    hot = λ k u r e l v. let o = kept k u r e l in old.hot k u r o.1 l (sym (value_kept u (tag_kept k u r o l)) ∙ (v ∙ s.tag.rest.clock));
  }

-- as the code does it
pub watched_ended : (a b : Arena code.Row) (tags tags' : t.Tags) (i : Id) → IsSound tags (rows_of a) → IsUnread (forms (rows_of a)) i → Ends (rows_in a) (rows_in b) i → EndsTag tags tags' (own_tag (rows_of a i)) → t.IsSound tags' → (w : Watch) → Watched tags (rows_of a) w → Watched tags' (rows_of b) w
watched_ended a b tags tags' i sound unread ends tag tags_sound w old =
    watched_ends tags tags' (rows_of a) (rows_of b) i sound
    (record {
      unread = unread;
      ended = sym (named-mapped seen_row b i) ∙ ends.ended;
      others = λ k ne. sym (named-mapped seen_row b k) ∙ (ends.others k ne ∙ named-mapped seen_row a k);
      tags_sound = tags_sound;
      tag = tag;
    })
    w old

-- a source that the code sets
pub watched_set : (tags tags' : t.Tags) (rows rows' : Rows) (c tag : Id) (kind : Bool) (was value : V) (last : Option Last) → IsSound tags rows → Sets tags tags' rows rows' c value → rows c ≡ Some (record { form = source_form kind tag was; last = last })
    → (w w' : Watch) → Widens w w' → ((n : ℕ) → covers w tag.0 n ≡ true → is_hot w' n ≡ true) → Watched tags rows w → Watched tags' rows' w'
watched_set tags tags' rows rows' c tag kind was value last sound s is w w' wide touched old =
    watched_sets tags tags' rows rows' c value sound s w w' wide (λ n h. touched n (subst (λ x. covers w x.0 n ≡ true) (some_ids s.tag tag (sym (ap own_tag s.old) ∙ ap own_tag is)) h)) old

-- a turn begins
pub watched_begins : (tags : t.Tags) (rows : Rows) → IsSound tags rows → (clock : ℕ) → tags.clock < clock → (w w' : Watch) → ((p n : ℕ) → covers w p n ≡ true → covers w' p n ≡ true) → Watched tags rows w → Watched (record tags { clock = clock }) rows w'
watched_begins tags rows sound clock lt w w' wide old = record {
  led = λ i u r e l. each_map (λ d. covers w d.0 i.1 ≡ true) (λ d. covers w' d.0 i.1 ≡ true) (t.leads_of tags.tags u) (λ d h. wide d.0 i.1 h) (old.led i u r e l);
  hot = λ i u r e l v. let le = value_le tags sound.tags_sound u in absurd (omega (arith, le, lt, v));
}

-- nothing is watched
pub watched_none : (tags : t.Tags) (rows : Rows) (w : Watch) → ((i : Id) → rows i ≡ None) → Watched tags rows w
watched_none tags rows w h = record {
  led = λ i u r e l. absurd (let n : None ≡ Some r = sym (h i) ∙ e in cc);
  hot = λ i u r e l v. absurd (let n : None ≡ Some r = sym (h i) ∙ e in cc);
}

-- a position that is not hot is valid
pub quiet_valid : (tags : t.Tags) (rows : Rows) (w : Watch) (i : Id) → IsSound tags rows → Watched tags rows w → is_hot w i.1 ≡ false → is_position (rows i) ≡ true → (0 < tags.clock) × IsValid tags (tags.clock - 1) (rows i)
quiet_valid tags rows w i sound old cold is = by (rows i) refl is where
  lower : (u : Id) (r : Row) → rows i ≡ Some r → placed_tag r ≡ Some u → t.value_of tags u < tags.clock
  lower u r e l = either (cases_eq (t.value_of tags u) tags.clock) where
    either : (t.value_of tags u ≡ tags.clock) ⊎ (t.value_of tags u ≢ tags.clock) → t.value_of tags u < tags.clock
    either (inl q) = absurd (let n : false ≡ true = sym cold ∙ old.hot i u r e l q in cc)
    either (inr ne) = let le = value_le tags sound.tags_sound u in omega (arith, le, ne)

  by : (o : Option Row) → rows i ≡ o → is_position o ≡ true → (0 < tags.clock) × IsValid tags (tags.clock - 1) o
  by None e h = absurd (let n : false ≡ true = h in cc)
  by (Some r) e h = form r.form r.last e h where
    form : (g : Form) (o : Option Last) → rows i ≡ Some (record { form = g; last = o }) → is_position (Some (record { form = g; last = o })) ≡ true → (0 < tags.clock) × IsValid tags (tags.clock - 1) (Some (record { form = g; last = o }))
    form (constant_form v) o e h = absurd (let n : false ≡ true = h in cc)
    form (source_form k u v) o e h = absurd (let n : false ≡ true = h in cc)
    form (prop_form x n) o e h = absurd (let n : false ≡ true = h in cc)
    form (call_form n ids ns) o e h = absurd (let n : false ≡ true = h in cc)
    form (cat_form ids) o e h = absurd (let n : false ≡ true = h in cc)
    form (all_form ids) None e h = absurd (let n : false ≡ true = h in cc)
    form (all_form ids) (Some l) e h = let lt = lower l.tag (record { form = all_form ids; last = Some l }) e refl in (omega (arith, lt), omega (arith, lt))

-- a dirtyable tag is made
pub watched_tagged : (tags tags' : t.Tags) (rows : Rows) → IsSound tags rows → (u : Id) (clock order : ℕ) → Gives tags.tags tags'.tags u (t.dirtyable clock order) → t.Rest tags tags' → (w : Watch) → Watched tags rows w → Watched tags' rows w
watched_tagged tags tags' rows sound u clock order g rest w old =
    watched_tags tags tags' rows sound (λ k d. stays k (t.tag_at tags k) refl (λ e. let n : false ≡ true = sym (ap t.is_dirtyable e) ∙ d in cc)) (λ k v e. stays v (t.tag_at tags v) refl (λ f. own_there tags rows sound k v e f)) rest.clock w old where
      stays : (k : Id) (x : Option t.Tag) → t.tag_at tags k ≡ x → (x ≡ None → ⊥) → t.tag_at tags' k ≡ t.tag_at tags k
      stays k x e h = g.others k (λ q. h (sym e ∙ (ap (named tags.tags) q ∙ g.vacant)))

-- a reference is evaluated, as the code does it
pub watched_step : (tags tags' : t.Tags) (rows rows' : Rows) (i : Id) (value : V) (ids : List Id) (old : Option Id) (u : Id) (last : Last) → IsSound tags rows → Each (IsKept tags rows) (reads_of rows i)
    → (g : Gathers tags rows i value ids old) → (s : Swaps tags tags' old u ids) → last ≡ record { value = value; order = tags'.count; tag = u } → Puts rows rows' i last
    → (w w' : Watch) → Widens w w' → (all_formed g.row.form ≡ true → Each (λ d. covers w' d.0 i.1 ≡ true) s.leads × (is_hot w' i.1 ≡ true)) → Watched tags rows w → Watched tags' rows' w'
watched_step tags tags' rows rows' i value ids old u last sound ready g s e p w w' wide noted was =
    watched_evaluates tags tags' rows rows' i sound now s.rest.clock w w' wide
    (λ f. subst (λ x. Each (λ d. covers w' d.0 i.1 ≡ true) (t.leads_of tags'.tags x)) (sym tag_is) (subst (λ xs. Each (λ d. covers w' d.0 i.1 ≡ true) xs) (sym (ap (t.leads_by u) s.given)) (noted (ap all_formed form_is ∙ f)).0))
    (λ f. (noted (ap all_formed form_is ∙ f)).1) was where
      now : Evaluates tags tags' rows rows' i
      now = evaluates tags tags' rows rows' i sound g.row g.is g.bound ready u old g.owns value last (subst (Swaps tags tags' old u) g.tags_are s) e g.value_is (p.given g.row g.is) p.others

      form_is : g.row.form ≡ now.row.form
      form_is = ap (λ o. form_or (option_map (λ (r : Row). r.form) o)) (sym g.is ∙ now.old)

      own_lasts : Option Row → Option Id
      own_lasts None = None
      own_lasts (Some r) = last_tag r

      tag_is : now.last.tag ≡ u
      tag_is =
          some_ids now.last.tag last.tag (sym (bound_last now.row.form now.last now.bound) ∙ (ap own_lasts (sym now.given ∙ p.given g.row g.is) ∙ bound_last g.row.form last g.bound))
          ∙ ap (λ (l : Last). l.tag) e
