-- What an evaluation changes in the state: the evaluated position alone.
use Rattle.std.proofs.Common.{◌≡◌, ◌≢◌, ℕ, zero, suc, Bool, true, false, Option, Some, None, option_map, IsSome, is_some, List, [], ◌∷◌, ◌++◌, map, refl, sym, ap, ap₂, subst, ◌∙◌, inl, inr}
use Rattle.std.specs.Prelude.{◌&&◌, ◌||◌, ◌==◌, if◌then◌else◌}
use Rattle.std.specs.List.{list_any}
use Rattle.std.proofs.lemmas.List.{map-append}
use Rattle.gl_arena.specs.Id.{Id, same_id}
use Rattle.gl_arena.specs.Arena.{by_stamp, amended, IsStamped}
use Rattle.gl_arena.proofs.Stamps.{by_stamp-id, by_stamp-live}
use Rattle.gl_tags.specs.Tags as t
use Rattle.gl_refs.specs.Forms as f
use Rattle.gl_refs.specs.State as s
use Rattle.gl_refs.specs.Refs.{Refs, rows_of, forms_of, meaning_of, Reads}
use Rattle.gl_refs.proofs.Meanings.{each_read}
use Rattle.gl_refs.proofs.Rows.{last_fresh}
use Rattle.gl_meaning.specs.Scope.{Source, sources_of}
use Rattle.gl_plain.specs.Ids.{ref}
use Rattle.gl_plain.specs.State.{any_of, Row, all_form, row, State, pair_of, note_evaluated, put_thing}
use Rattle.gl_plain.specs.Renew.{spot_ids, spot_pairs, evaluate}
use Rattle.gl_vm.specs.Labels.{label}
use Rattle.gl_vm.specs.Kept.{Kept, some_below, state_by}
use Rattle.gl_vm.specs.View.{Tables, stamps, seen_form, is_led, form_led, led_by, last_led, last_of, seen_row, row_at, holder, PositionsUnread, is_all, kept_of, state_of, AgreesAt}
use Rattle.gl_vm.specs.Steps.{Does}
use Rattle.gl_vm.specs.declared.vm.Vm.{Vm}
use Rattle.gl_vm.proofs.States.{amended_is, row_put}
use Rattle.gl_vm.proofs.Rows.{none_not, some_same, below_same}
use Rattle.gl_vm.proofs.Sources.{value_stays, source_dirtyable}
use Rattle.gl_vm.proofs.Values.{led-list, all-held, position-sources}

abbrev form_in : s.Row → f.Form
form_in x = x.form

led_of : List Id → Option f.Form → Bool
led_of leads None = false
led_of leads (Some g) = form_led leads g

led_form : (leads : List Id) (o : Option s.Row) → is_led leads o ≡ led_of leads (option_map form_in o)
unfolding led_of
led_form leads None = refl
led_form leads (Some x) = refl

none_any : (q : Id) (xs : List Id) → list_any (same_id q) xs ≡ false → f.Each (λ x. same_id q x ≡ false) xs
none_any q [] e = tt
none_any q (x ∷ xs) e = (left (same_id q x) (list_any (same_id q) xs) e, none_any q xs (right (same_id q x) (list_any (same_id q) xs) e)) where
  left : (a b : Bool) → (a || b) ≡ false → a ≡ false
  left false b e = refl
  left true b e = e

  right : (a b : Bool) → (a || b) ≡ false → b ≡ false
  right false b e = e
  right true b e = let no : true ≡ false = e in absurd (cc)

pub any_none : (q : Id) (xs : List Id) → f.Each (λ x. same_id q x ≡ false) xs → list_any (same_id q) xs ≡ false
any_none q [] e = refl
any_none q (x ∷ xs) e = ap₂ (λ a b. a || b) e.0 (any_none q xs e.1)

-- what no live form names is read for itself alone
pub only_read : (l : f.Look) (i q : Id) → f.IsReadFor l i q → f.IsUnread l q → q ≡ i
only_read l i q f.itself u = refl
only_read l i q (f.through k q2 h e) u = by (l k) refl where
  by : (o : Option f.Form) → l k ≡ o → q2 ≡ i
  by None g = let no : false ≡ true = sym (ap (λ o. list_any (same_id q2) (f.reads (λ x. (f.meaning l x).value) (f.form_or o))) g) ∙ e in absurd (cc)
  by (Some o) g =
      let a : list_any (same_id q2) (f.reads (λ x. (f.meaning l x).value) o) ≡ false = any_none q2 _ (each_read (λ x. same_id q2 x ≡ false) (λ x. (f.meaning l x).value) o (none_any q2 (f.parts o) (u k o g))) in
      let no : false ≡ true = sym a ∙ (sym (ap (λ o. list_any (same_id q2) (f.reads (λ x. (f.meaning l x).value) (f.form_or o))) g) ∙ e) in absurd (cc)

pub some_row : (o : Option s.Row) (g : f.Form) → option_map form_in o ≡ Some g → (y : s.Row) × (o ≡ Some y) × (y.form ≡ g)
some_row None g e = absurd (none_not g e)
some_row (Some y) g e = (y, refl, some_same y.form g e)

-- forms by number are the same where they are by id
carried : (a b : Refs) → IsStamped a.rows → IsStamped b.rows → forms_of b ≡ forms_of a → (k : ℕ) (x : s.Row) → by_stamp a.rows k ≡ Some x → option_map form_in (by_stamp b.rows k) ≡ Some x.form
carried a b sa sb e k x h =
    let p = by_stamp-id a.rows k x h in
    let y = some_row (rows_of b p.0) x.form (ap (λ l. l p.0) e ∙ ap (option_map form_in) p.2) in
    ap (option_map form_in) (ap (by_stamp b.rows) (sym p.1) ∙ by_stamp-live b.rows p.0 y.0 sb y.1) ∙ ap (λ g. Some g) y.2

forms_same : (a b : Refs) → IsStamped a.rows → IsStamped b.rows → forms_of b ≡ forms_of a → (k : ℕ) → option_map form_in (by_stamp b.rows k) ≡ option_map form_in (by_stamp a.rows k)
forms_same a b sa sb e k = by (by_stamp a.rows k) (by_stamp b.rows k) refl refl where
  by : (o u : Option s.Row) → by_stamp a.rows k ≡ o → by_stamp b.rows k ≡ u → option_map form_in (by_stamp b.rows k) ≡ option_map form_in (by_stamp a.rows k)
  by (Some x) u g h = carried a b sa sb e k x g ∙ sym (ap (option_map form_in) g)
  by None (Some y) g h = absurd (none_not y.form (sym (ap (option_map form_in) g) ∙ carried b a sb sa (sym e) k y h))
  by None None g h = ap (option_map form_in) h ∙ sym (ap (option_map form_in) g)

module _ (r r' : Refs) (id : Id) (reads : Reads r r' id) (stamped : IsStamped r.rows) (stamped' : IsStamped r'.rows) (unread : PositionsUnread r) where
  abbrev rows : ℕ → Option s.Row
  rows = by_stamp r.rows

  abbrev rows' : ℕ → Option s.Row
  rows' = by_stamp r'.rows

  forms-are : (k : ℕ) → option_map form_in (rows' k) ≡ option_map form_in (rows k)
  forms-are k = forms_same r r' stamped stamped' reads.settles.forms k

  led-are : (leads : List Id) (k : ℕ) → is_led leads (rows' k) ≡ is_led leads (rows k)
  led-are leads k = led_form leads (rows' k) ∙ (ap (led_of leads) (forms-are k) ∙ sym (led_form leads (rows k)))

  led-by-are : (leads : List Id) → led_by leads rows' r'.rows.made ≡ led_by leads rows r.rows.made
  led-by-are leads = λ z p. (below_same (λ k. is_led leads (rows' k) && p (label k)) (λ k. is_led leads (rows k) && p (label k)) r'.rows.made (λ k lt. ap (λ b. b && p (label k)) (led-are leads k)) ∙ ap (some_below (λ k. is_led leads (rows k) && p (label k))) reads.made) z

  holder-same : (tag : Id) (n : ℕ) → holder rows' n tag ≡ holder rows n tag
  holder-same tag zero = refl
  holder-same tag (suc n) = ap₂ (λ b m. if b then n else m) (led-are (tag ∷ []) n) (holder-same tag n)

  labels-same : (tag : Id) → label (holder rows' r'.rows.made tag) ≡ label (holder rows r.rows.made tag)
  labels-same tag = ap (λ n. label (holder rows' n tag)) reads.made ∙ ap label (holder-same tag r.rows.made)

  other-position : (k : ℕ) (ids : List Id) (x : s.Row) → k ≢ id.1 → rows k ≡ Some x → x.form ≡ f.all_form ids → (y : s.Row) → rows' k ≡ Some y → last_of r'.tags rows' r'.rows.made (f.all_form ids) y.last ≡ last_of r.tags rows r.rows.made (f.all_form ids) x.last
  other-position k ids x ne e g y h =
      let p = by_stamp-id r.rows k x e in by p.0 p.1 p.2 (reads.settles.stays p.0) where
        same-last : (i : Id) → rows_of r i ≡ Some x → ((u : Id) → s.own_tag (rows_of r i) ≡ Some u → t.tag_at r'.tags u ≡ t.tag_at r.tags u) → (o : Option s.Last) → x.last ≡ o → last_led r'.tags rows' r'.rows.made o ≡ last_led r.tags rows r.rows.made o
        same-last i q tags None w = refl
        same-last i q tags (Some l) w =
            ap (λ leads. led_by leads rows' r'.rows.made) (ap (t.leads_by l.tag) (tags l.tag (ap s.own_tag q ∙ (ap (λ h. s.own_by h x.last) g ∙ ap (λ o. s.own_by (f.all_form ids) o) w))))
            ∙ led-by-are (t.leads_of r.tags.tags l.tag)

        by : (i : Id) → i.1 ≡ k → rows_of r i ≡ Some x → s.StaysOr (f.IsReadFor (forms_of r) id) r.tags r'.tags (rows_of r) (rows_of r') i → last_led r'.tags rows' r'.rows.made y.last ≡ last_led r.tags rows r.rows.made x.last
        by i n q (inl w) =
            let y-is : y ≡ x = some_same y x (sym h ∙ (ap rows' (sym n) ∙ by_stamp-live r'.rows i x stamped' (w.0 ∙ q))) in
            ap (λ (z : s.Row). last_led r'.tags rows' r'.rows.made z.last) y-is ∙ same-last i q w.1 x.last refl
        by i n q (inr w) = absurd (ne (sym n ∙ ap (λ (j : Id). j.1) (only_read (forms_of r) id i w (unread i ids (ap (option_map form_in) q ∙ ap (λ h. Some h) g)))))

  -- a row stays, if it isn't that of the position that was evaluated
  row-kept : (k : ℕ) → ((ids : List Id) (x : s.Row) → rows k ≡ Some x → x.form ≡ f.all_form ids → k ≢ id.1) → row_at r' k ≡ row_at r k
  row-kept k ne = by (rows k) refl where
    by : (o : Option s.Row) → rows k ≡ o → row_at r' k ≡ row_at r k
    by None e = ap (option_map (seen_row r'.tags rows' r'.rows.made k)) (none (rows' k) (forms-are k ∙ ap (option_map form_in) e)) ∙ sym (ap (option_map (seen_row r.tags rows r.rows.made k)) e) where
      none : (o : Option s.Row) → option_map form_in o ≡ None → o ≡ None
      none None h = refl
      none (Some y) h = absurd (none_not y.form (sym h))
    by (Some x) e =
        let y = some_row (rows' k) x.form (forms-are k ∙ ap (option_map form_in) e) in
        ap (option_map (seen_row r'.tags rows' r'.rows.made k)) y.1
        ∙ (ap (λ g. Some (record { form = seen_form k g; last = last_of r'.tags rows' r'.rows.made g y.0.last })) y.2
        ∙ (ap (λ l. Some (record { form = seen_form k x.form; last = l })) (in_form x.form refl y.0 y.1) ∙ sym (ap (option_map (seen_row r.tags rows r.rows.made k)) e)))
      where
        in_form : (g : f.Form) → x.form ≡ g → (y : s.Row) → rows' k ≡ Some y → last_of r'.tags rows' r'.rows.made g y.last ≡ last_of r.tags rows r.rows.made g x.last
        in_form (f.all_form ids) q y h = other-position k ids x (ne ids x e q) e q y h
        in_form (f.constant_form v) q y h = refl
        in_form (f.source_form i u v) q y h = refl
        in_form (f.prop_form i n) q y h = refl
        in_form (f.call_form i ids ns) q y h = refl
        in_form (f.cat_form ids) q y h = refl

  row-stays : (k : ℕ) → k ≢ id.1 → row_at r' k ≡ row_at r k
  row-stays k ne = row-kept k (λ ids x e q. ne)

  -- a reference that may be read is no position
  apart : s.is_readable (forms_of r id) ≡ true → (k : ℕ) (ids : List Id) (x : s.Row) → rows k ≡ Some x → x.form ≡ f.all_form ids → k ≢ id.1
  apart readable k ids x e g same = by (rows_of r id) refl where
    by : (o : Option s.Row) → rows_of r id ≡ o → ⊥
    by None h = let no : false ≡ true = sym (ap (λ q. s.is_readable (option_map form_in q)) h) ∙ readable in absurd (cc)
    by (Some y) h =
        let y-is : x ≡ y = some_same x y (sym e ∙ (ap rows same ∙ by_stamp-live r.rows id y stamped h)) in
        let form : y.form ≡ f.all_form ids = sym (ap form_in y-is) ∙ g in
        let no : false ≡ true = sym (ap (λ q. s.is_readable (Some q)) form) ∙ (sym (ap (λ q. s.is_readable (option_map form_in q)) h) ∙ readable) in absurd (cc)

  pub rows-read : s.is_readable (forms_of r id) ≡ true → row_at r' ≡ row_at r
  rows-read readable = λ z k. row-kept k (apart readable k) z

  -- whether sources are touched is as before
  pub agrees-still : (sound : s.IsSound r.tags (rows_of r)) (touched : Source → Bool) → ((k : ℕ) (x : s.Row) → rows k ≡ Some x → AgreesAt r touched k x.form) → (k : ℕ) (y : s.Row) → rows' k ≡ Some y → AgreesAt r' touched k y.form
  agrees-still sound touched a k y e =
      let x = some_row (rows k) y.form (sym (forms-are k) ∙ ap (option_map form_in) e) in
      in_form x.0 x.1 y.form x.2 (subst (AgreesAt r touched k) x.2 (a k x.0 x.1)) where
        in_form : (x : s.Row) → rows k ≡ Some x → (g : f.Form) → x.form ≡ g → AgreesAt r touched k g → AgreesAt r' touched k g
        in_form x h (f.source_form i u v) q a =
            let d = source_dirtyable r stamped sound k x i u v h q in
            a ∙ sym (ap₂ (λ n c. n == c) (value_stays r.tags r'.tags u d (reads.settles.dirtyable u d)) reads.settles.clock)
        in_form x h (f.constant_form v) q a = tt
        in_form x h (f.prop_form i n) q a = tt
        in_form x h (f.call_form i ids ns) q a = tt
        in_form x h (f.cat_form ids) q a = tt
        in_form x h (f.all_form ids) q a = tt

  module _ (sound : s.IsSound r.tags (rows_of r)) (sound' : s.IsSound r'.tags (rows_of r')) (kept : s.IsKept r'.tags (rows_of r') id) (ids : List Id) (is : forms_of r id ≡ Some (f.all_form ids)) where
    is' : forms_of r' id ≡ Some (f.all_form ids)
    is' = ap (λ l. l id) reads.settles.forms ∙ is

    abbrev srcs : List Id
    srcs = (meaning_of r id).sources

    like-led : (leads : List Id) → ((q : Id → Bool) → list_any q leads ≡ list_any q (meaning_of r' id).sources) → (p : Source → Bool) → led_by leads rows' r'.rows.made p ≡ any_of (map (λ u. label (holder rows r.rows.made u)) srcs) p
    like-led leads e p =
        below_same (λ k. is_led leads (rows' k) && p (label k)) (λ k. is_led (meaning_of r' id).sources (rows' k) && p (label k)) r'.rows.made (λ k lt. ap (λ b. b && p (label k)) (led (rows' k)))
        ∙ (led-list r' stamped' sound' (meaning_of r' id).sources (all-held r' stamped' sound' id (ap is_some is')) p
        ∙ ap₂ (λ l xs. any_of (map l xs) p) (λ z u. labels-same u z) (ap (λ l. (f.meaning l id).sources) reads.settles.forms))
      where
        led : (o : Option s.Row) → is_led leads o ≡ is_led (meaning_of r' id).sources o
        led None = refl
        led (Some x) = by x.form where
          by : (g : f.Form) → form_led leads g ≡ form_led (meaning_of r' id).sources g
          by (f.source_form i u v) = e (same_id u)
          by (f.constant_form v) = refl
          by (f.prop_form i n) = refl
          by (f.call_form i ids ns) = refl
          by (f.cat_form ids) = refl
          by (f.all_form ids) = refl

    row-here : row_at r' id.1 ≡ Some (record { form = all_form (stamps ids); last = any_of (map (λ u. label (holder rows r.rows.made u)) srcs) })
    row-here =
        let y = some_row (rows_of r' id) (f.all_form ids) is' in
        ap (option_map (seen_row r'.tags rows' r'.rows.made id.1)) (by_stamp-live r'.rows id y.0 stamped' y.1)
        ∙ (ap (λ g. Some (record { form = seen_form id.1 g; last = last_of r'.tags rows' r'.rows.made g y.0.last })) y.2
        ∙ ap (λ l. Some (record { form = all_form (stamps ids); last = l })) (λ z p. by y.0 y.1 y.2 y.0.last refl (s.kept r'.tags (rows_of r') id) refl kept p z))
      where
        by : (y : s.Row) → rows_of r' id ≡ Some y → y.form ≡ f.all_form ids → (o : Option s.Last) → y.last ≡ o → (w : Option s.Kept) → s.kept r'.tags (rows_of r') id ≡ w → IsSome w → (p : Source → Bool)
            → last_led r'.tags rows' r'.rows.made o p ≡ any_of (map (λ u. label (holder rows r.rows.made u)) srcs) p
        by y e g o q None w h p = let no : false ≡ true = h in absurd (cc)
        by y e g None q (Some k) w h p = absurd (none_not k (sym (ap (s.kept_row r'.tags) e ∙ (ap (λ h. s.kept_by r'.tags h y.last) g ∙ ap (s.kept_by r'.tags (f.all_form ids)) q)) ∙ w))
        by y e g (Some l) q (Some k) w h p =
            let fresh = last_fresh r'.tags l k (sym (ap (s.kept_row r'.tags) e ∙ (ap (λ h. s.kept_by r'.tags h y.last) g ∙ ap (s.kept_by r'.tags (f.all_form ids)) q)) ∙ w) in
            like-led (t.leads_of r'.tags.tags l.tag) (λ c. ap (λ (z : s.Kept). list_any c (t.leads_of r'.tags.tags z.tag)) (sym fresh.1) ∙ (sound'.right id k w).sources c) p

    pub rows-settled : row_at r' ≡ amended (row_at r) id.1 (Some (record { form = all_form (stamps ids); last = any_of (map (λ u. label (holder rows r.rows.made u)) srcs) }))
    rows-settled = amended_is (row_at r) id.1 (Some (record { form = all_form (stamps ids); last = any_of (map (λ u. label (holder rows r.rows.made u)) srcs) })) (row_at r') row-here row-stays

module _ (vm : Vm) (r' : Refs) (id : Id) (reads : Reads vm.refs r' id) (stamped : IsStamped vm.refs.rows) (stamped' : IsStamped r'.rows) (unread : PositionsUnread vm.refs)
    (sound : s.IsSound vm.refs.tags (rows_of vm.refs)) (sound' : s.IsSound r'.tags (rows_of r')) (kept : s.IsKept r'.tags (rows_of r') id) (listed : r'.evaluated ≡ vm.refs.evaluated ++ id ∷ [])
    (ids : List Id) (is : forms_of vm.refs id ≡ Some (f.all_form ids)) where
  abbrev found : List Source
  found = map (λ u. label (holder (by_stamp vm.refs.rows) vm.refs.rows.made u)) (meaning_of vm.refs id).sources

  abbrev seen-there : Row
  seen-there = record { form = all_form (stamps ids); last = any_of found }

  module _ (n : Tables) (touched : Source → Bool) where
    abbrev st : State
    st = state_of n vm touched

    ids-are : spot_ids (st.look (ref id.1)) ≡ stamps ids
    ids-are =
        let y = some_row (rows_of vm.refs id) (f.all_form ids) is in
        ap (λ o. spot_ids (option_map row (option_map (seen_row vm.refs.tags (by_stamp vm.refs.rows) vm.refs.rows.made id.1) o))) (by_stamp-live vm.refs.rows id y.0 stamped y.1)
        ∙ ap (λ g. spot_ids (Some (row (record { form = seen_form id.1 g; last = last_of vm.refs.tags (by_stamp vm.refs.rows) vm.refs.rows.made g y.0.last })))) y.2

    sources-found : sources_of (spot_pairs st id.1) ≡ found
    sources-found = ap (λ xs. sources_of (map (pair_of st.look) xs)) ids-are ∙ position-sources vm.refs stamped sound st.look (λ n. refl) id ids is

    kept-is : kept_of n (record vm { refs = r' }) ≡ record (kept_of n vm) { row = amended (row_at vm.refs) id.1 (Some seen-there); evaluated = stamps vm.refs.evaluated ++ id.1 ∷ [] }
    kept-is = λ z. record (kept_of n vm) {
      row = rows-settled vm.refs r' id reads stamped stamped' unread sound sound' kept ids is z;
      rows = reads.made z;
      evaluated = (ap stamps listed ∙ map-append (λ i. i.1) vm.refs.evaluated (id ∷ [])) z;
    }

    state-is : state_of n (record vm { refs = r' }) touched ≡ evaluate id.1 st
    state-is =
        ap (λ (k : Kept). state_by k touched) kept-is
        ∙ (ap (note_evaluated id.1) (row_put (kept_of n vm) touched id.1 seen-there)
        ∙ ap₂ (λ xs ys. note_evaluated id.1 (put_thing (ref id.1) (row (record { form = all_form xs; last = any_of ys })) st)) (sym ids-are) (sym sources-found))

  pub evaluate_step : Does (λ n. evaluate id.1) vm (record vm { refs = r' })
  evaluate_step n touched a = record { state = state-is n touched; agrees = agrees-still vm.refs r' id reads stamped stamped' unread sound touched a }

-- What a read changes in the state: nothing.
module _ (vm : Vm) (r' : Refs) (id : Id) (reads : Reads vm.refs r' id) (stamped : IsStamped vm.refs.rows) (stamped' : IsStamped r'.rows) (unread : PositionsUnread vm.refs) (sound : s.IsSound vm.refs.tags (rows_of vm.refs))
    (readable : s.is_readable (forms_of vm.refs id) ≡ true) (listed : r'.evaluated ≡ vm.refs.evaluated) where
  kept-same : (n : Tables) → kept_of n (record vm { refs = r' }) ≡ kept_of n vm
  kept-same n = λ z. record (kept_of n vm) {
    row = rows-read vm.refs r' id reads stamped stamped' unread readable z;
    rows = reads.made z;
    evaluated = ap stamps listed z;
  }

  pub state-same : (n : Tables) (touched : Source → Bool) → state_of n (record vm { refs = r' }) touched ≡ state_of n vm touched
  state-same n touched = ap (λ (k : Kept). state_by k touched) (kept-same n)

  pub read_step : Does (λ n st. st) vm (record vm { refs = r' })
  read_step n touched a = record { state = state-same n touched; agrees = agrees-still vm.refs r' id reads stamped stamped' unread sound touched a }

pub is_live : (o : Option f.Form) → is_all o ≡ true → IsSome o
is_live None e = let no : false ≡ true = e in absurd (cc)
is_live (Some g) e = refl

pub position_ids : (o : Option f.Form) → is_all o ≡ true → (ids : List Id) × (o ≡ Some (f.all_form ids))
position_ids (Some (f.all_form ids)) e = (ids, refl)
position_ids (Some (f.source_form i u v)) e = let no : false ≡ true = e in absurd (cc)
position_ids (Some (f.constant_form v)) e = let no : false ≡ true = e in absurd (cc)
position_ids (Some (f.prop_form i n)) e = let no : false ≡ true = e in absurd (cc)
position_ids (Some (f.call_form i ids ns)) e = let no : false ≡ true = e in absurd (cc)
position_ids (Some (f.cat_form ids)) e = let no : false ≡ true = e in absurd (cc)
position_ids None e = let no : false ≡ true = e in absurd (cc)
