-- What a call leaves alone.
use Rattle.std.proofs.Common.{◌≡◌, ◌≢◌, ℕ, ◌+◌, ◌<◌, ◌≤◌, Bool, true, false, cond, ltb, not, List, [], ◌∷◌, map, Option, Some, None, option_map, IsSome, refl, sym, subst, ◌∙◌, ap, arith, inl, inr, ◌⊎◌}
use Rattle.std.specs.Prelude.{is_some}
use Rattle.std.specs.List.{list_any}
use Rattle.std.proofs.lemmas.Bool.{or_parts}
use Rattle.gl_arena.specs.Id.{Id, same_id}
use Rattle.gl_arena.specs.Arena.{named, Ends}
use Rattle.gl_arena.proofs.Values.{with_value-writes}
use Rattle.gl_tags.specs.Tags as t
use Rattle.gl_refs.specs.Forms.{V, Form, constant_form, source_form, prop_form, call_form, cat_form, all_form, form_or, form_at, meaning, Each, parts, IsUnread, IsReadFor}
use Rattle.gl_refs.specs.State.{Last, Row, Kept, last_kept, kept_row, kept_by, own_tag, own_by, is_combined, IsValidForm, IsValid, IsSource, Reaches, itself, IsSound, EndsTag, Sets, Frees}
use Rattle.gl_refs.specs.Refs.{Refs, rows_of, forms_of, Reads, Makes, MakesSource, SetsValue}
use Rattle.gl_refs.specs.Laws.{LeftAlone, IsMarked}
use Rattle.gl_refs.proofs.Meanings.{cold, within, each_map}
use Rattle.gl_refs.proofs.Setting as setting
use Rattle.gl_refs.proofs.Freeing as freeing
use Rattle.gl_refs.proofs.Leading.{owned_last, own_there, sources_named}

-- the values of a tag

value_stays : (f : Option t.Tag → ℕ) (tags tags' : t.Tags) (u : Id) → named tags'.tags u ≡ named tags.tags u
    → ((leads : List Id) → named tags.tags u ≡ Some (t.combined leads) → map (λ k. f (named tags'.tags k)) leads ≡ map (λ k. f (named tags.tags k)) leads)
    → t.value_by f tags'.tags (named tags'.tags u) ≡ t.value_by f tags.tags (named tags.tags u)
value_stays f tags tags' u e h = ap (t.value_by f tags'.tags) e ∙ by (named tags.tags u) refl where
  by : (o : Option t.Tag) → named tags.tags u ≡ o → t.value_by f tags'.tags o ≡ t.value_by f tags.tags o
  by None r = refl
  by (Some t.constant) r = refl
  by (Some (t.dirtyable a b)) r = refl
  by (Some (t.combined leads)) r = ap (t.greatest_from 0) (h leads r)

not_false : (b : Bool) → not b ≡ false → b ≡ true
not_false true h = refl
not_false false h = absurd (let n : true ≡ false = h in cc)

all_same : (f : Option t.Tag → ℕ) (tags tags' : t.Tags) → ((x : Id) → t.is_dirtyable (named tags.tags x) ≡ true → named tags'.tags x ≡ named tags.tags x)
    → (leads : List Id) → list_any (λ k. not (t.is_dirtyable (named tags.tags k))) leads ≡ false → map (λ k. f (named tags'.tags k)) leads ≡ map (λ k. f (named tags.tags k)) leads
all_same f tags tags' h [] e = refl
all_same f tags tags' h (x ∷ xs) e =
    let p = or_parts (not (t.is_dirtyable (named tags.tags x))) (list_any (λ k. not (t.is_dirtyable (named tags.tags k))) xs) e in
    rw (ap f (h x (not_false (t.is_dirtyable (named tags.tags x)) p.0)), all_same f tags tags' h xs p.1) refl

-- where a tag stays and so does each dirtyable one
tag_stays : (f : Option t.Tag → ℕ) (tags tags' : t.Tags) (u : Id) → t.IsSound tags → ((x : Id) → t.is_dirtyable (named tags.tags x) ≡ true → named tags'.tags x ≡ named tags.tags x)
    → named tags'.tags u ≡ named tags.tags u → t.value_by f tags'.tags (named tags'.tags u) ≡ t.value_by f tags.tags (named tags.tags u)
tag_stays f tags tags' u sound h e =
    value_stays f tags tags' u e (λ leads d. all_same f tags tags' h leads (subst (t.IsRight tags.tags tags.clock tags.count) d (sound.right u)))

-- A row that stays, whose tag has the same value and the same order

module _ (tags tags' : t.Tags) where
  fresh_same : (l : Last) → t.order_of tags' l.tag ≡ t.order_of tags l.tag → is_some (last_kept tags' l) ≡ is_some (last_kept tags l)
  fresh_same l e =
      let k : Kept = record { value = l.value; tag = l.tag } in
      let by : ℕ → Option Kept = λ m. cond (ltb l.order m) None (Some k) in
      ap (λ m. is_some (by m)) e

  usable_form : (g : Form) (o : Option Last) → ((u : Id) → own_by g o ≡ Some u → (t.value_of tags' u ≡ t.value_of tags u) × (t.order_of tags' u ≡ t.order_of tags u)) → is_some (kept_by tags' g o) ≡ is_some (kept_by tags g o)
  usable_form (constant_form v) o h = refl
  usable_form (source_form k s v) o h = refl
  usable_form (prop_form r n) None h = refl
  usable_form (prop_form r n) (Some l) h = fresh_same l (h l.tag refl).1
  usable_form (call_form n ids ns) None h = refl
  usable_form (call_form n ids ns) (Some l) h = fresh_same l (h l.tag refl).1
  usable_form (cat_form ids) None h = refl
  usable_form (cat_form ids) (Some l) h = fresh_same l (h l.tag refl).1
  usable_form (all_form ids) None h = refl
  usable_form (all_form ids) (Some l) h = fresh_same l (h l.tag refl).1

  usable_row : (o : Option Row) → ((u : Id) → own_tag o ≡ Some u → (t.value_of tags' u ≡ t.value_of tags u) × (t.order_of tags' u ≡ t.order_of tags u)) → is_some (kept_row tags' o) ≡ is_some (kept_row tags o)
  usable_row None h = refl
  usable_row (Some r) h = usable_form r.form r.last h

  below : (since u : ℕ) (v : ℕ) → u ≡ v → u ≤ since → v ≤ since
  below since u v e h = subst (λ n. n ≤ since) e h

  valid_form : (since : ℕ) (g : Form) (o : Option Last) → ((u : Id) → own_by g o ≡ Some u → (t.value_of tags' u ≡ t.value_of tags u) × (t.order_of tags' u ≡ t.order_of tags u))
      → (IsValidForm tags since g o → IsValidForm tags' since g o) × (IsValidForm tags' since g o → IsValidForm tags since g o)
  valid_form since (constant_form v) o h = (λ x. tt, λ x. tt)
  valid_form since (source_form k s v) o h = (λ x. below since _ _ (sym (h s refl).0) x, λ x. below since _ _ (h s refl).0 x)
  valid_form since (prop_form r n) None h = (λ x. x, λ x. x)
  valid_form since (prop_form r n) (Some l) h = (λ x. below since _ _ (sym (h l.tag refl).0) x, λ x. below since _ _ (h l.tag refl).0 x)
  valid_form since (call_form n ids ns) None h = (λ x. x, λ x. x)
  valid_form since (call_form n ids ns) (Some l) h = (λ x. below since _ _ (sym (h l.tag refl).0) x, λ x. below since _ _ (h l.tag refl).0 x)
  valid_form since (cat_form ids) None h = (λ x. x, λ x. x)
  valid_form since (cat_form ids) (Some l) h = (λ x. below since _ _ (sym (h l.tag refl).0) x, λ x. below since _ _ (h l.tag refl).0 x)
  valid_form since (all_form ids) None h = (λ x. x, λ x. x)
  valid_form since (all_form ids) (Some l) h = (λ x. below since _ _ (sym (h l.tag refl).0) x, λ x. below since _ _ (h l.tag refl).0 x)

  valid_row : (since : ℕ) (o : Option Row) → ((u : Id) → own_tag o ≡ Some u → (t.value_of tags' u ≡ t.value_of tags u) × (t.order_of tags' u ≡ t.order_of tags u))
      → (IsValid tags since o → IsValid tags' since o) × (IsValid tags' since o → IsValid tags since o)
  valid_row since None h = (λ x. x, λ x. x)
  valid_row since (Some r) h = valid_form since r.form r.last h

alone : (old new : Refs) (k : Id) → rows_of new k ≡ rows_of old k
    → ((u : Id) → own_tag (rows_of old k) ≡ Some u → (t.value_of new.tags u ≡ t.value_of old.tags u) × (t.order_of new.tags u ≡ t.order_of old.tags u))
    → meaning (forms_of new) k ≡ meaning (forms_of old) k → LeftAlone old new k
alone old new k row h means = record {
  row = row;
  value = λ u o. (h u o).0;
  usable = ap (λ o. is_some (kept_row new.tags o)) row ∙ usable_row old.tags new.tags (rows_of old k) h;
  valid = λ since.
      let v = valid_row old.tags new.tags since (rows_of old k) h in
      (λ x. subst (IsValid new.tags since) (sym row) (v.0 x), λ x. v.1 (subst (IsValid new.tags since) row x));
  means = means;
}

-- where the row, its tag and each dirtyable tag stay
alone_with : (old new : Refs) (k : Id) → IsSound old.tags (rows_of old) → rows_of new k ≡ rows_of old k
    → ((u : Id) → own_tag (rows_of old k) ≡ Some u → named new.tags.tags u ≡ named old.tags.tags u)
    → ((x : Id) → t.is_dirtyable (named old.tags.tags x) ≡ true → named new.tags.tags x ≡ named old.tags.tags x)
    → meaning (forms_of new) k ≡ meaning (forms_of old) k → LeftAlone old new k
alone_with old new k sound row tag h means =
    alone old new k row (λ u o. (tag_stays t.revision old.tags new.tags u sound.tags_sound h (tag u o), tag_stays t.order old.tags new.tags u sound.tags_sound h (tag u o))) means

-- A read

pub read_leaves : (old new : Refs) (id k : Id) → IsSound old.tags (rows_of old) → Reads old new id → (IsReadFor (forms_of old) id k → ⊥) → LeftAlone old new k
read_leaves old new id k sound r apart = by (r.settles.stays k) where
  by : ((rows_of new k ≡ rows_of old k) × ((u : Id) → own_tag (rows_of old k) ≡ Some u → t.tag_at new.tags u ≡ t.tag_at old.tags u)) ⊎ IsReadFor (forms_of old) id k → LeftAlone old new k
  by (inl x) = alone_with old new k sound x.0 x.1 r.settles.dirtyable (ap (λ l. meaning l k) r.settles.forms)
  by (inr x) = absurd (apart x)

-- A set

some_row : (o : Option Row) (r : Row) → o ≡ Some r → IsSome o
some_row o r e = subst IsSome (sym e) refl

pub sets_of : (old new : Refs) (c : Id) (kind : Bool) (value : V) → SetsValue old new c kind value → Sets old.tags new.tags (rows_of old) (rows_of new) c value
sets_of old new c kind value s =
    let w = with_value-writes old.rows c (record { form = source_form kind s.tag value; last = s.last }) (some_row (rows_of old c) _ s.held) in
    record {
      kind = kind;
      tag = s.tag;
      was = s.was;
      last = s.last;
      old = s.held;
      given = ap (λ a. named a c) s.rows ∙ w.given;
      others = λ i n. ap (λ a. named a i) s.rows ∙ w.others i n;
      dirtied = s.tags;
    }

pub set_leaves : (old new : Refs) (c k : Id) (kind : Bool) (value : V) → IsSound old.tags (rows_of old) → SetsValue old new c kind value → (Reaches (forms_of old) k c → ⊥) → LeftAlone old new k
set_leaves old new c k kind value sound sv apart =
    alone old new k (s.others k ne) (λ u o. (tag t.revision u o, tag t.order u o))
    (cold (same_id s.tag) (forms_of old) (forms_of new) (setting.touches old.tags new.tags (rows_of old) (rows_of new) c value sound s) k
    (sources_named (rows_of old) k c s.tag sound.owned source apart))
  where
    s : Sets old.tags new.tags (rows_of old) (rows_of new) c value
    s = sets_of old new c kind value sv

    ne : k ≢ c
    ne q = apart (subst (Reaches (forms_of old) k) q itself)

    source : IsSource (rows_of old) c s.tag
    source = record { kind = s.kind; was = s.was; last = s.last; is = s.old }

    others : (x : Id) → x ≢ s.tag → named new.tags.tags x ≡ named old.tags.tags x
    others x n = setting.tag_others old.tags new.tags (rows_of old) (rows_of new) c value sound s x n

    unled : (u : Id) → own_tag (rows_of old k) ≡ Some u → (leads : List Id) → named old.tags.tags u ≡ Some (t.combined leads) → list_any (same_id s.tag) leads ≡ false
    unled u o leads d = by (rows_of old k) refl where
      by : (x : Option Row) → rows_of old k ≡ x → list_any (same_id s.tag) leads ≡ false
      by None b = absurd (let n : None ≡ Some u = sym (ap own_tag b) ∙ o in cc)
      by (Some r) b =
          sym (ap (λ x. list_any (same_id s.tag) (t.leads_by u x)) d)
          ∙ sound.leads k u c s.tag r b (owned_last old.tags r.form r.last u (sound.fits k r b) (sym (ap own_tag b) ∙ o) (ap is_combined d)) source apart

    tag : (f : Option t.Tag → ℕ) (u : Id) → own_tag (rows_of old k) ≡ Some u → t.value_by f new.tags.tags (named new.tags.tags u) ≡ t.value_by f old.tags.tags (named old.tags.tags u)
    tag f u o =
        value_stays f old.tags new.tags u (others u (λ q. ne (sound.owned k c u o (ap own_tag s.old ∙ ap (λ x. Some x) (sym q)))))
        (λ leads d. setting.reads_stay (λ x. f (named old.tags.tags x)) (λ x. f (named new.tags.tags x)) s.tag (λ x n. ap f (others x n)) leads (unled u o leads d))

-- A making

live_means : (old new : Refs) (k : Id) → IsSound old.tags (rows_of old) → ((q : Id) → IsSome (forms_of old q) → rows_of new q ≡ rows_of old q) → IsSome (forms_of old k)
    → meaning (forms_of new) k ≡ meaning (forms_of old) k
live_means old new k sound same live = within (λ q. IsSome (forms_of old q)) (forms_of old) (forms_of new) good k live where
  good : (i : Id) → IsSome (forms_of old i) → (form_at (forms_of new) i ≡ form_at (forms_of old) i) × Each (λ q. IsSome (forms_of old q)) (parts (form_at (forms_of old) i))
  good i h = (ap (λ o. form_or (option_map (λ (r : Row). r.form) o)) (same i h), by (forms_of old i) refl) where
    by : (o : Option Form) → forms_of old i ≡ o → Each (λ q. IsSome (forms_of old q)) (parts (form_or o))
    by None e = tt
    by (Some g) e = each_map (λ q. (q.1 < i.1) × IsSome (forms_of old q)) (λ q. IsSome (forms_of old q)) (parts g) (λ q d. d.1) (sound.lower i g e)

not_new : (old : Refs) (id q : Id) → rows_of old id ≡ None → IsSome (forms_of old q) → q ≢ id
not_new old id q v h e = let z : false ≡ true = subst (λ o. IsSome (option_map (λ (r : Row). r.form) o)) (ap (rows_of old) e ∙ v) h in cc

pub make_leaves : (old new : Refs) (id k : Id) (form : Form) → IsSound old.tags (rows_of old) → Makes old new id form → IsSome (forms_of old k) → LeftAlone old new k
make_leaves old new id k form sound m live =
    alone_with old new k sound (same k live) (λ u o. ap (λ (x : t.Tags). named x.tags u) m.tags) (λ x d. ap (λ (y : t.Tags). named y.tags x) m.tags) (live_means old new k sound same live)
  where
    same : (q : Id) → IsSome (forms_of old q) → rows_of new q ≡ rows_of old q
    same q h = m.gives.others q (not_new old id q m.gives.vacant h)

pub source_leaves : (old new : Refs) (id k : Id) (kind : Bool) (value : V) → IsSound old.tags (rows_of old) → MakesSource old new id kind value → IsSome (forms_of old k) → LeftAlone old new k
source_leaves old new id k kind value sound m live = alone_with old new k sound (same k live) tag dirty (live_means old new k sound same live) where
  same : (q : Id) → IsSome (forms_of old q) → rows_of new q ≡ rows_of old q
  same q h = m.gives.gives.others q (not_new old id q m.gives.gives.vacant h)

  tag : (u : Id) → own_tag (rows_of old k) ≡ Some u → named new.tags.tags u ≡ named old.tags.tags u
  tag u o = m.gives.tagged.others u (λ q. own_there old.tags (rows_of old) sound k u o (ap (named old.tags.tags) q ∙ m.gives.tagged.vacant))

  dirty : (x : Id) → t.is_dirtyable (named old.tags.tags x) ≡ true → named new.tags.tags x ≡ named old.tags.tags x
  dirty x d = m.gives.tagged.others x (λ q. let n : false ≡ true = sym (ap t.is_dirtyable (ap (named old.tags.tags) q ∙ m.gives.tagged.vacant)) ∙ d in cc)

-- An end

pub free_leaves : (old new : Refs) (i k : Id) → IsSound old.tags (rows_of old) → IsSound new.tags (rows_of new) → IsUnread (forms_of old) i → Ends old.rows new.rows i
    → EndsTag old.tags new.tags (own_tag (rows_of old i)) → IsSome (forms_of old k) → k ≢ i → LeftAlone old new k
free_leaves old new i k sound after unread e et live ne =
    alone old new k (e.others k ne) (λ u o. (tag t.revision u o, tag t.order u o)) (freeing.means old.tags new.tags (rows_of old) (rows_of new) i sound s k live ne)
  where
    s : Frees old.tags new.tags (rows_of old) (rows_of new) i
    s = record { unread = unread; ended = e.ended; others = e.others; tags_sound = after.tags_sound; tag = et }

    tag : (f : Option t.Tag → ℕ) (u : Id) → own_tag (rows_of old k) ≡ Some u → t.value_by f new.tags.tags (named new.tags.tags u) ≡ t.value_by f old.tags.tags (named old.tags.tags u)
    tag f u o =
        value_stays f old.tags new.tags u (freeing.tag_same old.tags new.tags (rows_of old) (rows_of new) i sound s k u ne o)
        (λ leads d. freeing.all_same old.tags new.tags (rows_of old) (rows_of new) i sound s f leads (freeing.own_apart old.tags new.tags (rows_of old) (rows_of new) i sound s u leads d))

-- Marks

pub set_marks : (old new : Refs) (c u : Id) (kind : Bool) (value : V) (number mark : ℕ) → SetsValue old new c kind value → IsMarked old.tags u number mark → IsMarked new.tags u number mark
set_marks old new c u kind value number mark s h =
    let more : new.tags.count ≡ old.tags.count + 1 = ap (λ (x : t.Tags). x.count) s.tags in
    let le : mark ≤ old.tags.count = h.0 in
    (omega arith, λ e. absurd (omega arith))

pub leaving_marks : (old new : Refs) (k u : Id) (number mark : ℕ) → LeftAlone old new k → own_tag (rows_of old k) ≡ Some u → new.tags.count ≡ old.tags.count
    → IsMarked old.tags u number mark → IsMarked new.tags u number mark
leaving_marks old new k u number mark a o c h = (subst (λ n. mark ≤ n) (sym c) h.0, λ e. h.1 (e ∙ c) ∙ sym (a.value u o))
