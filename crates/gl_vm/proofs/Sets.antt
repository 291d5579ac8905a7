-- Cells and items that get another value, and the beginning of a turn.
use Rattle.std.proofs.Common.{◌≡◌, ◌≢◌, ℕ, ◌+◌, Bool, true, false, Option, Some, None, option_map, IsSome, is_some, List, [], refl, sym, ap, ap₂, subst, ◌∙◌, inl, inr}
use Rattle.std.specs.Prelude.{◌&&◌, ◌||◌, ◌==◌, nat_eq, if◌then◌else◌}
use Rattle.std.specs.Bool.{Decides}
use Rattle.std.proofs.lemmas.Bool.{cases_eq}
use Rattle.std.proofs.lemmas.Bool.Decides.{Decides-eqb}
use Rattle.gl_value.specs.Value.{Value, same}
use Rattle.gl_value.proofs.Sameness.{same-Decides}
use Rattle.gl_value.proofs.Owners.{same_leaves_owners}
use Rattle.gl_arena.specs.Id.{Id}
use Rattle.gl_arena.specs.Arena.{Arena, by_stamp, amended, IsStamped, with_value}
use Rattle.gl_arena.proofs.Values.{Writes, with_value-writes}
use Rattle.gl_arena.proofs.Stamps.{sets-is, by_stamp-id, by_stamp-live, written-sets}
use Rattle.gl_tags.specs.Tags as t
use Rattle.gl_refs.specs.Forms as f
use Rattle.gl_refs.specs.State as s
use Rattle.gl_refs.specs.Refs.{Refs, rows_of, forms_of, SetsValue, Holds}
use Rattle.gl_meaning.specs.Scope.{Source}
use Rattle.gl_meaning.specs.Path.{Path, path_eq}
use Rattle.gl_meaning.proofs.Equal.{path_itself, path_means}
use Rattle.gl_plain.specs.State.{any_of, row, State, source_eq, touch, held_value}
use Rattle.gl_plain.specs.Renew.{give}
use Rattle.gl_vm.specs.Labels.{owner_path, label, labelled}
use Rattle.gl_vm.specs.Kept.{Kept, state_by}
use Rattle.gl_vm.specs.View.{Tables, stamps, seen_form, is_led, led_by, last_of, seen_row, row_of, row_at, kept_of, state_of, AgreesAt, Agrees}
use Rattle.gl_vm.specs.Steps.{Does, Follows}
use Rattle.gl_vm.specs.declared.vm.Vm.{Vm}
use Rattle.gl_vm.proofs.States.{test_yes, amended_here, amended_off, amended_is, row_put}
use Rattle.gl_vm.proofs.Rows.{some_same, last_none, below_same}
use Rattle.gl_vm.proofs.Sources.{label_same, label_apart, value_stays, dirty_not_combined, last_combined, source_dirtyable}

-- One row is another, which is the same source if it is one.
module _ (tags tags' : t.Tags) (rows : ℕ → Option s.Row) (made at_ : ℕ) (row' : s.Row)
    (same_led : (leads : List Id) → is_led leads (Some row') ≡ is_led leads (rows at_))
    (stays : (k : ℕ) (x : s.Row) (l : s.Last) → k ≢ at_ → rows k ≡ Some x → x.last ≡ Some l → s.is_bound x.form ≡ true → t.leads_of tags'.tags l.tag ≡ t.leads_of tags.tags l.tag) where
  abbrev rows' : ℕ → Option s.Row
  rows' = amended rows at_ (Some row')

  led-same : (leads : List Id) → led_by leads rows' made ≡ led_by leads rows made
  led-same leads = λ z p. below_same (λ k. is_led leads (rows' k) && p (label k)) (λ k. is_led leads (rows k) && p (label k)) made (λ k lt. ap (λ b. b && p (label k)) (at_row k)) z where
    at_row : (k : ℕ) → is_led leads (amended rows at_ (Some row') k) ≡ is_led leads (rows k)
    at_row k = elim (cases_eq k at_) [
      | inl e ↦ ap (λ j. is_led leads (amended rows at_ (Some row') j)) e ∙ (ap (is_led leads) (amended_here rows at_ (Some row')) ∙ (same_led leads ∙ ap (λ j. is_led leads (rows j)) (sym e)))
      | inr ne ↦ ap (is_led leads) (amended_off rows at_ (Some row') k ne)
    ]

  last-same : (k : ℕ) (x : s.Row) (h : f.Form) (o : Option s.Last) → k ≢ at_ → rows k ≡ Some x → x.form ≡ h → x.last ≡ o → last_of tags' rows' made h o ≡ last_of tags rows made h o
  last-same k x h None ne e a b = last_none tags' rows' made h ∙ sym (last_none tags rows made h)
  last-same k x (f.constant_form v) (Some l) ne e a b = refl
  last-same k x (f.source_form q u v) (Some l) ne e a b = refl
  last-same k x (f.prop_form i n) (Some l) ne e a b = refl
  last-same k x (f.call_form h ids ns) (Some l) ne e a b = refl
  last-same k x (f.cat_form ids) (Some l) ne e a b = refl
  last-same k x (f.all_form ids) (Some l) ne e a b = ap (λ ls. led_by ls rows' made) (stays k x l ne e b (ap s.is_bound a)) ∙ led-same (t.leads_of tags.tags l.tag)

  row-same : (k : ℕ) → k ≢ at_ → row_of tags' rows' made k ≡ row_of tags rows made k
  row-same k ne = ap (option_map (seen_row tags' rows' made k)) (amended_off rows at_ (Some row') k ne) ∙ by_row (rows k) refl where
    by_row : (o : Option s.Row) → rows k ≡ o → option_map (seen_row tags' rows' made k) o ≡ option_map (seen_row tags rows made k) o
    by_row None e = refl
    by_row (Some x) e = ap (λ l. Some (record { form = seen_form k x.form; last = l })) (last-same k x x.form x.last ne e refl refl)

  pub rows_put : row_of tags' rows' made ≡ amended (row_of tags rows made) at_ (Some (seen_row tags' rows' made at_ row'))
  rows_put = amended_is (row_of tags rows made) at_ (Some (seen_row tags' rows' made at_ row')) (row_of tags' rows' made) (ap (option_map (seen_row tags' rows' made at_)) (amended_here rows at_ (Some row'))) row-same

-- A source gets a value

module _ (vm : Vm) (r : Refs) (id : Id) (kind : Bool) (v : f.V) (stamped : IsStamped vm.refs.rows) (sound : s.IsSound vm.refs.tags (rows_of vm.refs)) (sets : SetsValue vm.refs r id kind v) where
  abbrev was : Refs
  was = vm.refs

  abbrev tag : Id
  tag = sets.tag

  abbrev old-row : s.Row
  old-row = record { form = f.source_form kind tag sets.was; last = sets.last }

  abbrev new-row : s.Row
  new-row = record { form = f.source_form kind tag v; last = sets.last }

  old-is : by_stamp was.rows id.1 ≡ Some old-row
  old-is = by_stamp-live was.rows id old-row stamped sets.held

  rows-are : by_stamp r.rows ≡ amended (by_stamp was.rows) id.1 (Some new-row)
  rows-are = ap (λ (a : Arena s.Row). by_stamp a) sets.rows ∙ sets-is was.rows (with_value was.rows id new-row) id.1 (Some new-row) (written-sets was.rows id new-row stamped (ap is_some sets.held))

  count-is : r.rows.made ≡ was.rows.made
  count-is = ap (λ (a : Arena s.Row). a.made) sets.rows

  tag-dirtyable : t.is_dirtyable (t.tag_at was.tags tag) ≡ true
  tag-dirtyable = source_dirtyable was stamped sound id.1 old-row kind tag sets.was old-is refl

  some_of : (o : Option t.Tag) → t.is_dirtyable o ≡ true → IsSome o
  some_of None e = let no : false ≡ true = e in absurd (cc)
  some_of (Some x) e = refl

  tag-written : Writes was.tags.tags (t.dirtied was.tags tag).tags tag (t.dirtyable was.tags.clock (was.tags.count + 1))
  tag-written = with_value-writes was.tags.tags tag (t.dirtyable was.tags.clock (was.tags.count + 1)) (some_of (t.tag_at was.tags tag) tag-dirtyable)

  tags-stay : (u : Id) → u ≢ tag → t.tag_at r.tags u ≡ t.tag_at was.tags u
  tags-stay u ne = ap (λ (x : t.Tags). t.tag_at x u) sets.tags ∙ tag-written.others u ne

  clock-is : r.tags.clock ≡ was.tags.clock
  clock-is = ap (λ (x : t.Tags). x.clock) sets.tags

  row-is : row_at r ≡ amended (row_at was) id.1 (Some (record { form = seen_form id.1 (f.source_form kind tag v); last = any_of [] }))
  row-is =
      ap₂ (λ rows made. row_of r.tags rows made) rows-are count-is
      ∙ rows_put was.tags r.tags (by_stamp was.rows) was.rows.made id.1 new-row (λ leads. sym (ap (is_led leads) old-is))
      (λ k x l ne e b i. let c = last_combined was stamped sound k x l e b i in
      ap (t.leads_by l.tag) (tags-stay l.tag (λ q. dirty_not_combined (t.tag_at was.tags tag) tag-dirtyable (ap (λ y. s.is_combined (t.tag_at was.tags y)) (sym q) ∙ c))))

  own-apart : (k : ℕ) (x : s.Row) (q : Bool) (u : Id) (w : f.V) → k ≢ id.1 → by_stamp was.rows k ≡ Some x → x.form ≡ f.source_form q u w → u ≢ tag
  own-apart k x q u w ne e b z = let p = by_stamp-id was.rows k x e in
      ne
      (sym p.1 ∙ ap (λ (j : Id). j.1)
      (sound.owned p.0 id tag (ap s.own_tag p.2 ∙ (ap (λ g. s.own_by g x.last) b ∙ ap (λ j. Some j) z)) (ap s.own_tag sets.held)))

  module _ (touched : Source → Bool) (a : Agrees touched vm) where
    abbrev then-touched : Source → Bool
    then-touched y = source_eq y (label id.1) || touched y

    here-agrees : AgreesAt r then-touched id.1 new-row.form
    here-agrees =
        ap (λ b. b || touched (label id.1)) (label_same id.1)
        ∙ sym (test_yes r.tags.clock (t.value_of r.tags tag) (ap (λ (x : t.Tags). t.value_of x tag) sets.tags ∙ (ap (t.value_by t.revision (t.dirtied was.tags tag).tags) tag-written.given ∙ sym clock-is)))

    off-agrees : (k : ℕ) (x : s.Row) (g : f.Form) → k ≢ id.1 → by_stamp was.rows k ≡ Some x → x.form ≡ g → AgreesAt was touched k g → AgreesAt r then-touched k g
    off-agrees k x (f.source_form q u w) ne e b h = let d = source_dirtyable was stamped sound k x q u w e b in
        ap (λ b. b || touched (label k)) (label_apart k id.1 ne)
        ∙ (h ∙ sym (ap₂ (λ n c. n == c) (value_stays was.tags r.tags u d (tags-stay u (own-apart k x q u w ne e b))) clock-is))
    off-agrees k x (f.constant_form w) ne e b h = tt
    off-agrees k x (f.prop_form i n) ne e b h = tt
    off-agrees k x (f.call_form i ids ns) ne e b h = tt
    off-agrees k x (f.cat_form ids) ne e b h = tt
    off-agrees k x (f.all_form ids) ne e b h = tt

    set-agrees : Agrees then-touched (record vm { refs = r })
    set-agrees k x e = elim (cases_eq k id.1) [
      | inl q ↦ subst (λ (y : s.Row). AgreesAt r then-touched k y.form) (some_same _ _ (sym (amended_here (by_stamp was.rows) id.1 (Some new-row)) ∙ (ap (amended (by_stamp was.rows) id.1 (Some new-row)) (sym q) ∙ (sym (ap (λ h. h k) rows-are) ∙ e))))
          (subst (λ (m : ℕ). AgreesAt r then-touched m new-row.form) (sym q) here-agrees)
      | inr ne ↦ let o = sym (ap (λ h. h k) rows-are ∙ amended_off (by_stamp was.rows) id.1 (Some new-row) k ne) ∙ e in
          off-agrees k x x.form ne o refl (a k x o)
    ]

  kept-is : (n : Tables) → kept_of n (record vm { refs = r }) ≡ record (kept_of n vm) { row = amended (row_at was) id.1 (Some (record { form = seen_form id.1 (f.source_form kind tag v); last = any_of [] })) }
  kept-is n = λ z. record (kept_of n vm) { row = row-is z; rows = count-is z; evaluated = stamps (sets.counts.evaluated z) }

  pub set_step : Does (λ n. touch id.1 (label id.1) (labelled v)) vm (record vm { refs = r })
  set_step n touched a = record {
    state = ap (λ (k : Kept). state_by k (then-touched touched a)) (kept-is n) ∙ row_put (kept_of n vm) (then-touched touched a) id.1 (record { form = seen_form id.1 (f.source_form kind tag v); last = any_of [] });
    agrees = set-agrees touched a;
  }

-- An item is given a value

pub paths_decided : (p q : Path) → Decides (path_eq p q) (p ≡ q)
paths_decided p q = (path_means p q, λ e. ap (λ x. path_eq p x) (sym e) ∙ path_itself p)

pub nums_decided : (x y : ℕ) → Decides (nat_eq x y) (x ≡ y)
nums_decided x y = Decides-eqb x y

pub owners_once : (o p : ℕ) → owner_path o ≡ owner_path p → o ≡ p
owners_once o p e = (Decides-eqb o p).0 (and_left (nat_eq o p) (ap (λ x. path_eq (owner_path o) x) (sym e) ∙ path_itself (owner_path o))) where
  and_left : (b : Bool) → (b && true) ≡ true → b ≡ true
  and_left true e = refl
  and_left false e = e

pub same_labelled : (v w : Value ℕ) → same path_eq (labelled v) (labelled w) ≡ same nat_eq v w
same_labelled v w = same_leaves_owners nat_eq path_eq (λ x y. Decides-eqb x y) paths_decided owner_path v w (λ o p i j. owners_once o p)

module _ (vm : Vm) (r : Refs) (id : Id) (v : f.V) (stamped : IsStamped vm.refs.rows) (sound : s.IsSound vm.refs.tags (rows_of vm.refs)) (item : s.is_item (forms_of vm.refs id) ≡ true)
    (same_ : Holds vm.refs id true v → r ≡ vm.refs) (other : (Holds vm.refs id true v → ⊥) → SetsValue vm.refs r id true v) where
  module _ (n : Tables) (touched : Source → Bool) (a : Agrees touched vm) where
    abbrev st : State
    st = state_of n vm touched

    abbrev Gives-so : State → Type 0
    Gives-so q = Follows n q (record vm { refs = r })

    stays : r ≡ vm.refs → Gives-so st
    stays e = record { state = ap (λ (x : Refs). state_of n (record vm { refs = x }) touched) e; agrees = subst (λ (x : Refs). Agrees touched (record vm { refs = x })) (sym e) a }

    by_value : (tag : Id) (w : f.V) (last : Option s.Last) → rows_of vm.refs id ≡ Some (record { form = f.source_form true tag w; last = last }) → (b : Bool) → same nat_eq w v ≡ b
        → Gives-so (if b then st else touch id.1 (label id.1) (labelled v) st)
    by_value tag w last e true q = stays (same_ (record { tag = tag; last = last; is = subst (λ (x : f.V). rows_of vm.refs id ≡ Some (record { form = f.source_form true tag x; last = last })) ((same-Decides nat_eq (λ x y. Decides-eqb x y) w v).0 q) e }))
    by_value tag w last e false q = set_step vm r id true v stamped sound (other not_held) n touched a where
      value_in : f.Form → f.V
      value_in (f.source_form k u x) = x
      value_in g = w

      not_held : Holds vm.refs id true v → ⊥
      not_held h = let vw : w ≡ v = ap (λ (x : s.Row). value_in x.form) (some_same _ _ (sym e ∙ h.is)) in
          let no : false ≡ true = sym q ∙ (same-Decides nat_eq (λ x y. Decides-eqb x y) w v).1 vw in cc

    by_row : (o : Option s.Row) → rows_of vm.refs id ≡ o → s.is_item (option_map (λ (x : s.Row). x.form) o) ≡ true → Gives-so (give id.1 (label id.1) (labelled v) st)
    by_row None e i = let no : false ≡ true = i in absurd (cc)
    by_row (Some x) e i = by_form x.form refl i where
      by_form : (g : f.Form) → x.form ≡ g → s.item_form g ≡ true → Gives-so (give id.1 (label id.1) (labelled v) st)
      by_form (f.source_form true tag w) b i =
          subst Gives-so
          (sym (ap (λ c. if c then st else touch id.1 (label id.1) (labelled v) st)
          (ap (λ (o : Option s.Row). same path_eq (held_value (option_map row (option_map (seen_row vm.refs.tags (by_stamp vm.refs.rows) vm.refs.rows.made id.1) o))) (labelled v)) (by_stamp-live vm.refs.rows id x stamped e)
          ∙ (ap (λ g. same path_eq (held_value (Some (row (record { form = seen_form id.1 g; last = last_of vm.refs.tags (by_stamp vm.refs.rows) vm.refs.rows.made g x.last })))) (labelled v)) b ∙ same_labelled w v))))
          (by_value tag w x.last (e ∙ ap (λ g. Some (record { form = g; last = x.last })) b) (same nat_eq w v) refl)
      by_form (f.source_form false tag w) b i = let no : false ≡ true = i in absurd (cc)
      by_form (f.constant_form w) b i = let no : false ≡ true = i in absurd (cc)
      by_form (f.prop_form j k) b i = let no : false ≡ true = i in absurd (cc)
      by_form (f.call_form h ids ns) b i = let no : false ≡ true = i in absurd (cc)
      by_form (f.cat_form ids) b i = let no : false ≡ true = i in absurd (cc)
      by_form (f.all_form ids) b i = let no : false ≡ true = i in absurd (cc)

  pub give_step : Does (λ n. give id.1 (label id.1) (labelled v)) vm (record vm { refs = r })
  give_step n touched a = by_row n touched a (rows_of vm.refs id) refl item
