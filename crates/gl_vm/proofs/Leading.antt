-- What positions read at their last evaluations lives: what keeps that.
use Rattle.std.proofs.Common.{◌≡◌, ◌≢◌, ℕ, zero, suc, ◌+◌, ◌<◌, Bool, true, false, Option, Some, None, option_map, IsSome, List, refl, sym, ap, subst, ◌∙◌, inl, inr, ◌⊎◌, arith}
use Rattle.std.specs.List.{list_any}
use Rattle.gl_arena.specs.Id.{Id, same_id}
use Rattle.gl_arena.specs.Arena.{Arena, named, Gives, Ends}
use Rattle.gl_arena.proofs.Ids.{id_cases}
use Rattle.gl_arena.proofs.Values.{with_value-writes, Writes}
use Rattle.gl_tags.specs.Tags as t
use Rattle.gl_refs.specs.Forms as f
use Rattle.gl_refs.specs.State as s
use Rattle.gl_refs.specs.Refs.{Refs, rows_of, forms_of, Reads, Makes, MakesSource, SetsValue, Holds, Keeps}
use Rattle.gl_refs.proofs.Meanings.{meaning_is, below_is, each_map, each_append, each_read}
use Rattle.gl_refs.proofs.Rows.{last_fresh}
use Rattle.gl_refs.specs.State.{Reaches, itself, through, EndsTag}
use Rattle.gl_refs.proofs.Reaching.{reach_unread, each_in}
use Rattle.gl_vm.specs.Led.{IsReached, Led}
use Rattle.gl_vm.proofs.Rows.{none_not, some_same}
use Rattle.gl_vm.proofs.Sources.{dirty_not_combined}
use Rattle.gl_vm.proofs.Reached.{pick}
use Rattle.gl_vm.proofs.Values.{each_flat}
use Rattle.gl_vm.proofs.Settled.{some_row}

abbrev form_in : s.Row → f.Form
form_in x = x.form

abbrev spot_row : List Id → s.Last → s.Row
spot_row ids l = record { form = f.all_form ids; last = Some l }

module _ (a b : Refs) where
  abbrev KeepsNamed : Id → Type 0
  KeepsNamed i = (k q : Id) (g : f.Form) → Reaches (forms_of a) i k → forms_of a k ≡ Some g → list_any (same_id q) (f.parts g) ≡ true → forms_of b k ≡ Some g

  reach_more : (i j : Id) → KeepsNamed i → Reaches (forms_of a) i j → Reaches (forms_of b) i j
  reach_more i j h itself = itself
  reach_more i j h (through k q g r e n) = through k q g (reach_more i k h r) (h k q g r e n) n

  -- what a position keeps
  pub record Carried (i : Id) (ids : List Id) (l : s.Last) : Type 0 where
    pub was : rows_of a i ≡ Some (spot_row ids l)
    pub leads : t.leads_of b.tags.tags l.tag ≡ t.leads_of a.tags.tags l.tag
    pub forms : KeepsNamed i
    pub sources : (j u : Id) → s.IsSource (rows_of a) j u → Reaches (forms_of a) i j → s.IsSource (rows_of b) j u

  carry : Led a → (i : Id) (ids : List Id) (l : s.Last) → Carried i ids l → f.Each (IsReached b i) (t.leads_of b.tags.tags l.tag)
  carry led i ids l c =
      subst (f.Each (IsReached b i)) (sym c.leads)
      (each_map (IsReached a i) (IsReached b i) (t.leads_of a.tags.tags l.tag) (λ u d. record { source = d.source; is = c.sources d.source u d.is d.reach; reach = reach_more i d.source c.forms d.reach }) (led i ids l c.was))

  carried : Led a → ((i : Id) (ids : List Id) (l : s.Last) → rows_of b i ≡ Some (spot_row ids l) → Carried i ids l) → Led b
  carried led h i ids l e = carry led i ids l (h i ids l e)

-- the tag of a position's last evaluation is combined
spot_combined : (r : Refs) (i : Id) (ids : List Id) (l : s.Last) → s.IsSound r.tags (rows_of r) → rows_of r i ≡ Some (spot_row ids l) → s.is_combined (t.tag_at r.tags l.tag) ≡ true
spot_combined r i ids l sound e = (sound.fits i (spot_row ids l) e).0

source_same : (a b : Refs) (j u : Id) → rows_of b j ≡ rows_of a j → s.IsSource (rows_of a) j u → s.IsSource (rows_of b) j u
source_same a b j u e d = record { kind = d.kind; was = d.was; last = d.last; is = e ∙ d.is }

-- a reference is made
module _ (a b : Refs) (id : Id) (g : f.Form) (sound : s.IsSound a.tags (rows_of a)) (gives : Gives a.rows b.rows id (record { form = g; last = None }))
    (leads : (u : Id) → s.is_combined (t.tag_at a.tags u) ≡ true → t.leads_of b.tags.tags u ≡ t.leads_of a.tags.tags u) where
  made_carried : (i : Id) (ids : List Id) (l : s.Last) → rows_of b i ≡ Some (spot_row ids l) → Carried a b i ids l
  made_carried i ids l e = by (id_cases i id) where
    not_new : (k : Id) (x : s.Row) → rows_of a k ≡ Some x → k ≢ id
    not_new k x e q = none_not x (sym (ap (named a.rows) q ∙ gives.vacant) ∙ e)

    row_of_form : (k : Id) (h : f.Form) → forms_of a k ≡ Some h → k ≢ id
    row_of_form k h e q = none_not h (sym (ap (option_map form_in) (ap (named a.rows) q ∙ gives.vacant)) ∙ e)

    last_in : s.Row → Option s.Last
    last_in x = x.last

    by : (i ≡ id) ⊎ (i ≢ id) → Carried a b i ids l
    by (inl q) =
        let no : ◌≡◌ {A = Option (Option s.Last)} (Some None) (Some (Some l)) = ap (option_map last_in) (sym (ap (named b.rows) q ∙ gives.given) ∙ e) in
        absurd (none_not l (some_same None (Some l) no))
    by (inr ne) =
        let was : rows_of a i ≡ Some (spot_row ids l) = sym (gives.others i ne) ∙ e in
        record {
          was = was;
          leads = leads l.tag (spot_combined a i ids l sound was);
          forms = λ k q h r e n. ap (option_map form_in) (gives.others k (row_of_form k h e)) ∙ e;
          sources = λ j u d r. source_same a b j u (gives.others j (not_new j (record { form = f.source_form d.kind u d.was; last = d.last }) d.is)) d;
        }

pub led_makes : (a b : Refs) (id : Id) (g : f.Form) → s.IsSound a.tags (rows_of a) → Makes a b id g → Led a → Led b
led_makes a b id g sound m led = carried a b led (made_carried a b id g sound m.gives (λ u c. ap (λ (x : t.Tags). t.leads_of x.tags u) m.tags))

pub led_source : (a b : Refs) (id : Id) (kind : Bool) (v : f.V) → s.IsSound a.tags (rows_of a) → MakesSource a b id kind v → Led a → Led b
led_source a b id kind v sound m led =
    carried a b led (made_carried a b id (f.source_form kind m.gives.tag v) sound m.gives.gives
    (λ u c. ap (t.leads_by u) (m.gives.tagged.others u (λ q. let no : false ≡ true = sym (ap s.is_combined (ap (t.tag_at a.tags) q ∙ m.gives.tagged.vacant)) ∙ c in cc))))

-- a cell or an item has another value
module _ (a b : Refs) (id : Id) (kind : Bool) (v : f.V) (sound : s.IsSound a.tags (rows_of a)) (sets : SetsValue a b id kind v) where
  abbrev old-row : s.Row
  old-row = record { form = f.source_form kind sets.tag sets.was; last = sets.last }

  abbrev new-row : s.Row
  new-row = record { form = f.source_form kind sets.tag v; last = sets.last }

  written : Writes a.rows b.rows id new-row
  written = subst (λ (x : Arena s.Row). Writes a.rows x id new-row) (sym sets.rows) (with_value-writes a.rows id new-row (subst IsSome (sym sets.held) refl))

  dirty : t.is_dirtyable (t.tag_at a.tags sets.tag) ≡ true
  dirty = sound.fits id old-row sets.held

  some_tag : (o : Option t.Tag) → t.is_dirtyable o ≡ true → IsSome o
  some_tag None e = let no : false ≡ true = e in absurd (cc)
  some_tag (Some x) e = refl

  tag_stays : (u : Id) → u ≢ sets.tag → t.tag_at b.tags u ≡ t.tag_at a.tags u
  tag_stays u ne = ap (λ (x : t.Tags). t.tag_at x u) sets.tags ∙ (with_value-writes a.tags.tags sets.tag (t.dirtyable a.tags.clock (a.tags.count + 1)) (some_tag (t.tag_at a.tags sets.tag) dirty)).others u ne

  set_carried : (i : Id) (ids : List Id) (l : s.Last) → rows_of b i ≡ Some (spot_row ids l) → Carried a b i ids l
  set_carried i ids l e = by (id_cases i id) where
    by : (i ≡ id) ⊎ (i ≢ id) → Carried a b i ids l
    by (inl q) =
        let no : Some (f.source_form kind sets.tag v) ≡ Some (f.all_form ids) = ap (option_map form_in) (sym (ap (named b.rows) q ∙ written.given) ∙ e) in
        absurd (cc)
    by (inr ne) =
        let was : rows_of a i ≡ Some (spot_row ids l) = sym (written.others i ne) ∙ e in
        record {
          was = was;
          leads = ap (t.leads_by l.tag) (tag_stays l.tag (λ q. dirty_not_combined (t.tag_at a.tags sets.tag) dirty (ap (λ y. s.is_combined (t.tag_at a.tags y)) (sym q) ∙ spot_combined a i ids l sound was)));
          forms = λ k q h r e n. named_stays k q h e n (id_cases k id);
          sources = λ j u d r. source_stays j u d (id_cases j id);
        }
      where
        named_stays : (k q : Id) (h : f.Form) → forms_of a k ≡ Some h → list_any (same_id q) (f.parts h) ≡ true → (k ≡ id) ⊎ (k ≢ id) → forms_of b k ≡ Some h
        named_stays k q h e n (inl z) =
            let g : f.source_form kind sets.tag sets.was ≡ h = some_same (f.source_form kind sets.tag sets.was) h (sym (ap (forms_of a) z ∙ ap (option_map form_in) sets.held) ∙ e) in
            let no : false ≡ true = subst (λ x. list_any (same_id q) (f.parts x) ≡ true) (sym g) n in absurd (cc)
        named_stays k q h e n (inr ne) = ap (option_map form_in) (written.others k ne) ∙ e

        source_stays : (j u : Id) → s.IsSource (rows_of a) j u → (j ≡ id) ⊎ (j ≢ id) → s.IsSource (rows_of b) j u
        source_stays j u d (inl z) =
            let one : sets.tag ≡ u = some_same sets.tag u (ap s.own_tag (sym (ap (named a.rows) z ∙ sets.held) ∙ d.is)) in
            subst (s.IsSource (rows_of b) j) one (record { kind = kind; was = v; last = sets.last; is = ap (named b.rows) z ∙ written.given })
        source_stays j u d (inr ne) = source_same a b j u (written.others j ne) d

  pub led_sets : Led a → Led b
  led_sets led = carried a b led set_carried

pub led_given : (a b : Refs) (id : Id) (v : f.V) → s.IsSound a.tags (rows_of a) → (Holds a id true v × (b ≡ a)) ⊎ ((Holds a id true v → ⊥) × SetsValue a b id true v) → Led a → Led b
led_given a b id v sound (inl x) led = subst Led (sym x.1) led
led_given a b id v sound (inr x) led = led_sets a b id true v sound x.1 led

-- a reference ends
module _ (a b : Refs) (id : Id) (sound : s.IsSound a.tags (rows_of a)) (unread : f.IsUnread (forms_of a) id) (ends : Ends a.rows b.rows id) (tags : EndsTag a.tags b.tags (s.own_tag (rows_of a id))) where
  ended_carried : (i : Id) (ids : List Id) (l : s.Last) → rows_of b i ≡ Some (spot_row ids l) → Carried a b i ids l
  ended_carried i ids l e = by (id_cases i id) where
    by : (i ≡ id) ⊎ (i ≢ id) → Carried a b i ids l
    by (inl q) = absurd (none_not (spot_row ids l) (sym (ap (named b.rows) q ∙ ends.ended) ∙ e))
    by (inr ne) =
        let was : rows_of a i ≡ Some (spot_row ids l) = sym (ends.others i ne) ∙ e in
        let off : (k : Id) → Reaches (forms_of a) i k → k ≢ id = λ k r q. ne (sym (reach_unread (forms_of a) i id (subst (Reaches (forms_of a) i) q r) unread)) in
        record {
          was = was;
          leads = ap (t.leads_by l.tag) (tags.others l.tag (λ q. ne (sound.owned i id l.tag (ap s.own_tag was) q)));
          forms = λ k q h r e n. ap (option_map form_in) (ends.others k (off k r)) ∙ e;
          sources = λ j u d r. source_same a b j u (ends.others j (off j r)) d;
        }

  pub led_ended : Led a → Led b
  led_ended led = carried a b led ended_carried

-- what is read for a reference lives, and is named for it
module _ (r : Refs) (sound : s.IsSound r.tags (rows_of r)) (root : Id) where
  abbrev look : f.Look
  look = forms_of r

  reached_below : (n : ℕ) (i : Id) → i.1 < n → Reaches (forms_of r) root i → (g : f.Form) → forms_of r i ≡ Some g → f.Each (IsReached r root) (f.meaning (forms_of r) i).sources
  reached_below zero i lt reach g is = absurd (omega (arith, lt))
  reached_below (suc n) i lt reach g is =
      subst (λ (p : f.Pair). f.Each (IsReached r root) p.sources) (sym (meaning_is look i ∙ ap (λ o. f.pair_by (f.below (f.meaning look) i) (f.form_or o)) is))
      (each_append (IsReached r root) (f.own_sources g) _ (owns g refl)
      (each_flat (IsReached r root) (λ q. (f.below (f.meaning look) i q).sources) (f.reads (λ q. (f.below (f.meaning look) i q).value) g)
      (each_read (λ q. f.Each (IsReached r root) (f.below (f.meaning look) i q).sources) (λ q. (f.below (f.meaning look) i q).value) g
      (each_in (λ q. f.Each (IsReached r root) (f.below (f.meaning look) i q).sources) (f.parts g)
      (λ q mem. let h = pick (λ q. (q.1 < i.1) × IsSome (look q)) (f.parts g) (sound.lower i g is) q mem in
      let p = a_form (look q) h.1 in
      subst (λ (p : f.Pair). f.Each (IsReached r root) p.sources) (sym (below_is (f.meaning look) i q h.0)) (reached_below n q (let a = h.0 in omega (arith, a, lt)) (through i q g reach is mem) p.0 p.1))))))
    where
      a_form : (o : Option f.Form) → IsSome o → (h : f.Form) × (o ≡ Some h)
      a_form None e = let no : false ≡ true = e in absurd (cc)
      a_form (Some h) e = (h, refl)

      owns : (h : f.Form) → g ≡ h → f.Each (IsReached r root) (f.own_sources h)
      owns (f.source_form k u v) e =
          let x = some_row (rows_of r i) (f.source_form k u v) (is ∙ ap (λ h. Some h) e) in
          (record { source = i; is = record { kind = k; was = v; last = x.0.last; is = x.1 ∙ λ z. Some (record { form = x.2 z; last = x.0.last }) }; reach = reach }, tt)
      owns (f.constant_form v) e = tt
      owns (f.prop_form j k) e = tt
      owns (f.call_form h ids ns) e = tt
      owns (f.cat_form ids) e = tt
      owns (f.all_form ids) e = tt

-- a position is evaluated, or was not for want of memory
module _ (a b : Refs) (id : Id) (reads : Reads a b id) (sound : s.IsSound b.tags (rows_of b)) where
  stays_carried : (i : Id) (ids : List Id) (l : s.Last) → rows_of b i ≡ Some (spot_row ids l) → (rows_of b i ≡ rows_of a i) × ((u : Id) → s.own_tag (rows_of a i) ≡ Some u → t.tag_at b.tags u ≡ t.tag_at a.tags u) → Carried a b i ids l
  stays_carried i ids l e w =
      let was : rows_of a i ≡ Some (spot_row ids l) = sym w.0 ∙ e in
      record {
        was = was;
        leads = ap (t.leads_by l.tag) (w.1 l.tag (ap s.own_tag was));
        forms = λ k q h r e n. ap (λ l. l k) reads.settles.forms ∙ e;
        sources = λ j u d r.
            let y = some_row (rows_of b j) (f.source_form d.kind u d.was) (ap (λ l. l j) reads.settles.forms ∙ ap (option_map form_in) d.is) in
            record { kind = d.kind; was = d.was; last = y.0.last; is = y.1 ∙ λ z. Some (record { form = y.2 z; last = y.0.last }) };
      }

  here : (i : Id) (ids : List Id) (l : s.Last) → rows_of b i ≡ Some (spot_row ids l) → s.IsKept b.tags (rows_of b) i → f.Each (IsReached b i) (t.leads_of b.tags.tags l.tag)
  here i ids l e kept = by (s.kept b.tags (rows_of b) i) refl kept where
    by : (w : Option s.Kept) → s.kept b.tags (rows_of b) i ≡ w → IsSome w → f.Each (IsReached b i) (t.leads_of b.tags.tags l.tag)
    by None w h = let no : false ≡ true = h in absurd (cc)
    by (Some k) w h =
        let fresh = last_fresh b.tags l k (sym (ap (s.kept_row b.tags) e) ∙ w) in
        let all = reached_below b sound i (suc i.1) i (omega arith) itself (f.all_form ids) (ap (option_map form_in) e) in
        each_in (IsReached b i) (t.leads_of b.tags.tags l.tag)
        (λ u m. pick (IsReached b i) (f.meaning (forms_of b) i).sources all u
        (sym ((sound.right i k w).sources (same_id u)) ∙ (ap (λ (z : s.Kept). list_any (same_id u) (t.leads_of b.tags.tags z.tag)) fresh.1 ∙ m)))

  pub led_evaluated : Led a → Led b
  led_evaluated led i ids l e = by (reads.settles.either i) where
    by : s.StaysOr (λ k. f.IsReadFor (forms_of a) id k × s.IsKept b.tags (rows_of b) k) a.tags b.tags (rows_of a) (rows_of b) i → f.Each (IsReached b i) (t.leads_of b.tags.tags l.tag)
    by (inl w) = carry a b led i ids l (stays_carried i ids l e w)
    by (inr h) = here i ids l e h.1

-- what keeps rows and tags keeps it
pub led_same : (a b : Refs) → b.rows ≡ a.rows → b.tags.tags ≡ a.tags.tags → Led a → Led b
led_same a b rows tags led = carried a b led (λ i ids l e. record {
  was = sym (ap (λ (x : Arena s.Row). named x i) rows) ∙ e;
  leads = ap (λ (x : Arena t.Tag). t.leads_of x l.tag) tags;
  forms = λ k q h r e n. ap (λ (x : Arena s.Row). option_map form_in (named x k)) rows ∙ e;
  sources = λ j u d r. source_same a b j u (ap (λ (x : Arena s.Row). named x j) rows) d;
})

-- and so does what keeps rows and what each tag is
pub led_kept : (a b : Refs) → Keeps a b → Led a → Led b
led_kept a b k led = carried a b led (λ i ids l e. record {
  was = sym (ap (λ (x : Arena s.Row). named x i) k.rows) ∙ e;
  leads = ap (t.leads_by l.tag) (k.tags l.tag);
  forms = λ j q h r e n. ap (λ (x : Arena s.Row). option_map form_in (named x j)) k.rows ∙ e;
  sources = λ j u d r. source_same a b j u (ap (λ (x : Arena s.Row). named x j) k.rows) d;
})
