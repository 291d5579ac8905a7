-- The rows as the code has them, and as contracts see them.
use Rattle.std.proofs.Common.{◌≡◌, ℕ, zero, suc, ◌+◌, ◌≤◌, append_assoc, add-one, Bool, true, false, List, [], ◌∷◌, ◌++◌, map, drop, Option, Some, None, Result, Ok, Err, option_map, unwrap_or, length, IsSome, IsTrue, IsOk, IsErr, nat_eq, arith, OnOk, refl, sym, ap, subst, ◌∙◌}
use Rattle.std.specs.Prelude.{slice_get}
use Rattle.std.specs.Bool.{Decides}
use Rattle.std.proofs.lemmas.Bool.Decides.{Decides-eqb}
use Rattle.gl_base.specs.Texts.{Text}
use Rattle.gl_base.specs.Names.{at_place}
use Rattle.gl_value.specs.Value.{same, undefined}
use Rattle.gl_value.specs.Helpers.{helper_table, helper_value, helper_numbered}
use Rattle.gl_value.specs.View.{view}
use Rattle.gl_value.specs.declared.value.Value.{Value}
use Rattle.gl_value.proofs.Sameness.{same-Decides}
use Rattle.gl_arena.specs.Id.{Id}
use Rattle.gl_arena.specs.Arena.{Arena, named, with_value, Ends}
use Rattle.gl_arena.proofs.Values.{with_value-writes}
use Rattle.gl_arena.proofs.Mapped.{named-mapped, with_value-mapped}
use Rattle.gl_tags.specs.Tags as t
use Rattle.gl_refs.specs.Forms.{V, Form, constant_form, source_form, prop_form, call_form, cat_form, all_form, form_or, form_at, called, IsReadFor, IsUnread}
use Rattle.gl_refs.specs.State as s
use Rattle.gl_refs.specs.State.{forms, held, is_source, is_cell, is_item, IsKept, IsSound, Settles, Puts}
use Rattle.gl_refs.specs.Refs as r
use Rattle.gl_refs.specs.Refs.{Refs, Reads, HasRead}
use Rattle.gl_refs.specs.View.{rows_in, rows_of, seen_rule, seen_row, seen_kind, kind_last, seen_last, row_with, kind_with}
use Rattle.gl_refs.specs.declared.row.Row.{Row}
use Rattle.gl_refs.specs.declared.row.Last.{Last}
use Rattle.gl_refs.specs.declared.row.Kind.{Kind}
use Rattle.gl_refs.specs.declared.row.Kind.TheVariants.{Constant, Source, Position, Bound}
use Rattle.gl_refs.specs.declared.row.Rule.{Rule}
use Rattle.gl_refs.specs.declared.row.Rule.TheVariants as rule
use Rattle.gl_refs.proofs.Rows.{some_is}
use Rattle.gl_refs.proofs.Freeing.{free_sound}
use Rattle.gl_refs.proofs.Computing.{settles_none}

-- by id, the arena that contracts see is the code's, each row as it is seen
pub rows-seen : (a : Arena Row) → ◌≡◌ {A = s.Rows} (λ i. named (rows_in a) i) (rows_of a)
rows-seen a = λ t i. named-mapped seen_row a i t

-- what holds of the code's rows holds of those that contracts see, and the other way round
pub to_seen : (P : s.Rows → Type 0) (a : Arena Row) → P (rows_of a) → P (λ i. named (rows_in a) i)
to_seen P a h = subst P (sym (rows-seen a)) h

pub of_seen : (P : s.Rows → Type 0) (a : Arena Row) → P (λ i. named (rows_in a) i) → P (rows_of a)
of_seen P a h = subst P (rows-seen a) h

-- and where both see the same
pub rows_same : (P : s.Rows → Type 0) (a b : Arena Row) → rows_in b ≡ rows_in a → P (rows_of a) → P (rows_of b)
rows_same P a b e h = of_seen P b (subst (λ x. P (λ i. named x i)) (sym e) (to_seen P a h))

-- a row that was found
pub row_is : {B : Type 0} (f : B → Row) (a : Arena Row) (id : Id) (o : Option B) (x : B) → option_map f o ≡ named a id → o ≡ Some x → named a id ≡ Some (f x)
row_is f a id o x e h = sym e ∙ ap (option_map f) h

pub seen_is : {B : Type 0} (f : B → Row) (a : Arena Row) (id : Id) (o : Option B) (x : B) → option_map f o ≡ named a id → o ≡ Some x → rows_of a id ≡ Some (seen_row (f x))
seen_is f a id o x e h = ap (option_map seen_row) (row_is f a id o x e h)

pub kind_at : {B : Type 0} (f : B → Row) (a : Arena Row) (id : Id) (o : Option B) (x : B) → option_map f o ≡ named a id → o ≡ Some x → form_at (forms (rows_of a)) id ≡ seen_kind (f x).kind
kind_at f a id o x e h = ap (λ o. form_or (option_map (λ (q : s.Row). q.form) o)) (seen_is f a id o x e h)

pub live_named : (a : Arena Row) (id : Id) → IsSome (forms (rows_of a) id) → IsSome (named a id)
live_named a id h = by (named a id) h where
  by : (o : Option Row) → IsSome (option_map (λ (q : s.Row). q.form) (option_map seen_row o)) → IsSome o
  by None h = h
  by (Some r) h = refl

-- a last evaluation is put in a row
pub puts_last : (a : Arena Row) (id : Id) (row new : Row) (last : Last) → named a id ≡ Some row → seen_kind new.kind ≡ seen_kind row.kind → kind_last new.kind ≡ Some (seen_last last) → Puts (rows_of a) (rows_of (with_value a id new)) id (seen_last last)
puts_last a id row new last e form put =
    let w = with_value-writes a id new (subst IsSome (sym e) refl) in
    record {
      given = λ q g. ap (option_map seen_row) w.given ∙ ((λ t. let y : s.Row = record { form = form t; last = put t } in Some y)
          ∙ ap (λ (x : s.Row). let y : s.Row = record { form = x.form; last = Some (seen_last last) } in Some y) (some_is (seen_row row) q (sym (ap (option_map seen_row) e) ∙ g)));
      others = λ k ne. ap (option_map seen_row) (w.others k ne);
    }

module _ (a b : Arena Row) (ta tb : t.Tags) (evals asks : ℕ) (done : List Id) (id : Id) where
  abbrev pub before : Refs
  before = record { rows = rows_in a; tags = ta; evals = evals; asks = asks; evaluated = done }

  abbrev pub after : Refs
  after = record { rows = rows_in b; tags = tb; evals = evals; asks = asks; evaluated = done }

  settles_seen : Settles (IsReadFor (forms (rows_of a)) id) ta tb (rows_of a) (rows_of b) → Settles (IsReadFor (forms (λ i. named (rows_in a) i)) id) ta tb (λ i. named (rows_in a) i) (λ i. named (rows_in b) i)
  settles_seen h =
      to_seen (λ x. Settles (IsReadFor (forms x) id) ta tb x (λ i. named (rows_in b) i)) a
      (to_seen (λ x. Settles (IsReadFor (forms (rows_of a)) id) ta tb (rows_of a) x) b h)

  pub reads_seen : Settles (IsReadFor (forms (rows_of a)) id) ta tb (rows_of a) (rows_of b) → b.made ≡ a.made → Reads before after id
  reads_seen h m = record { settles = settles_seen h; made = m; asks = refl }

  pub has_read : {A E : Type 0} (result : Result A E) → Settles (IsReadFor (forms (rows_of a)) id) ta tb (rows_of a) (rows_of b) → b.made ≡ a.made → OnOk result (IsKept tb (rows_of b) id)
      → (IsKept ta (rows_of a) id → (tb ≡ ta) × (b ≡ a)) → HasRead before after id result
  has_read result h m kept still = record {
    reads = reads_seen h m;
    kept = to_seen (λ x. OnOk result (IsKept tb x id)) b kept;
    still = λ k. let e = still (of_seen (λ x. IsKept ta x id) a k) in λ t. record { rows = rows_in (e.1 t); tags = e.0 t; evals = evals; asks = asks; evaluated = done };
    evals = refl;
    evaluated = refl;
  }

-- a row that is a source
pub record IsOf (kind : Bool) (o : Option s.Row) : Type 0 where
  pub tag : Id
  pub was : V
  pub last : Option s.Last
  pub is : o ≡ Some (record { form = source_form kind tag was; last = last })

pub cell_is : (o : Option s.Row) → is_cell (option_map (λ (q : s.Row). q.form) o) ≡ true → IsOf false o
cell_is None e = absurd (let n : false ≡ true = e in cc)
cell_is (Some q) e = by q.form refl e where
  by : (g : Form) → q.form ≡ g → s.cell_form g ≡ true → IsOf false (Some q)
  by (source_form false u v) f e = record { tag = u; was = v; last = q.last; is = ap (λ g. let y : s.Row = record { form = g; last = q.last } in Some y) f }
  by (source_form true u v) f e = absurd (let n : false ≡ true = e in cc)
  by (constant_form v) f e = absurd (let n : false ≡ true = e in cc)
  by (prop_form x n) f e = absurd (let n : false ≡ true = e in cc)
  by (call_form h ids ns) f e = absurd (let n : false ≡ true = e in cc)
  by (cat_form ids) f e = absurd (let n : false ≡ true = e in cc)
  by (all_form ids) f e = absurd (let n : false ≡ true = e in cc)

pub item_is : (o : Option s.Row) → is_item (option_map (λ (q : s.Row). q.form) o) ≡ true → IsOf true o
item_is None e = absurd (let n : false ≡ true = e in cc)
item_is (Some q) e = by q.form refl e where
  by : (g : Form) → q.form ≡ g → s.item_form g ≡ true → IsOf true (Some q)
  by (source_form true u v) f e = record { tag = u; was = v; last = q.last; is = ap (λ g. let y : s.Row = record { form = g; last = q.last } in Some y) f }
  by (source_form false u v) f e = absurd (let n : false ≡ true = e in cc)
  by (constant_form v) f e = absurd (let n : false ≡ true = e in cc)
  by (prop_form x n) f e = absurd (let n : false ≡ true = e in cc)
  by (call_form h ids ns) f e = absurd (let n : false ≡ true = e in cc)
  by (cat_form ids) f e = absurd (let n : false ≡ true = e in cc)
  by (all_form ids) f e = absurd (let n : false ≡ true = e in cc)

pub source_of : (kind : Bool) (o : Option s.Row) → IsOf kind o → is_source o ≡ true
source_of kind o h = ap is_source h.is

-- the value that is held of a reference, compared with another
pub same_held : (o : Option V) (v w : V) (b : Bool) → o ≡ Some v → b ≡ same nat_eq v w → (IsTrue b → o ≡ Some w) × (o ≡ Some w → IsTrue b)
same_held o v w b e f = (
  λ h. e ∙ ap (λ x. Some x) (d.0 (sym f ∙ h)),
  λ g. f ∙ d.1 (some_value v w (sym e ∙ g)),
) where
  d : Decides (same nat_eq v w) (v ≡ w)
  d = same-Decides nat_eq (λ x y. Decides-eqb x y) v w

  some_value : (x y : V) → Some x ≡ Some y → x ≡ y
  some_value x y e = cc

-- There are 33 helpers.
past_all : {A : Type 0} (xs : List A) (d : A) (n : ℕ) → length xs ≤ n → at_place d n xs ≡ d
past_all [] d n h = refl
past_all (x ∷ xs) d zero h = absurd (omega (arith, h))
past_all (x ∷ xs) d (suc n) h = past_all xs d n (omega (arith, h))

pub no_helper : (h : ℕ) (vs : List V) (ns : List (Text × V)) → 33 ≤ h → called h vs ns ≡ undefined
no_helper h vs ns le = ap (λ o. unwrap_or (option_map (helper_value nat_eq vs ns) o) undefined) (past_all (map (λ row. Some row.1) helper_table) None h le)

-- the revision clock rises, and nothing else changes
module _ (tags : t.Tags) (n : ℕ) where
  abbrev advanced : t.Tags
  advanced = record tags { clock = n }

  last_advanced : (o : Option s.Last) → s.LastFits tags o → s.LastFits advanced o
  last_advanced None f = tt
  last_advanced (Some l) f = f

  fits_advanced : (g : Form) (o : Option s.Last) → s.RowFits tags g o → s.RowFits advanced g o
  fits_advanced (constant_form v) o f = tt
  fits_advanced (source_form k u v) o f = f
  fits_advanced (prop_form x m) o f = last_advanced o f
  fits_advanced (call_form h ids ns) o f = last_advanced o f
  fits_advanced (cat_form ids) o f = last_advanced o f
  fits_advanced (all_form ids) o f = last_advanced o f

  kept_advanced : (g : Form) (o : Option s.Last) → s.kept_by advanced g o ≡ s.kept_by tags g o
  kept_advanced (constant_form v) o = refl
  kept_advanced (source_form k u v) o = refl
  kept_advanced (prop_form x m) None = refl
  kept_advanced (prop_form x m) (Some l) = refl
  kept_advanced (call_form h ids ns) None = refl
  kept_advanced (call_form h ids ns) (Some l) = refl
  kept_advanced (cat_form ids) None = refl
  kept_advanced (cat_form ids) (Some l) = refl
  kept_advanced (all_form ids) None = refl
  kept_advanced (all_form ids) (Some l) = refl

  row_advanced : (o : Option s.Row) → s.kept_row advanced o ≡ s.kept_row tags o
  row_advanced None = refl
  row_advanced (Some q) = kept_advanced q.form q.last

  pub advanced_sound : (rows : s.Rows) → IsSound tags rows → t.IsSound advanced → IsSound advanced rows
  advanced_sound rows h a = record {
    tags_sound = a;
    lower = h.lower;
    known = h.known;
    fits = λ i q e. fits_advanced q.form q.last (h.fits i q e);
    owned = h.owned;
    right = λ i k e. h.right i k (sym (row_advanced (rows i)) ∙ e);
    leads = h.leads;
    combined = h.combined;
  }

-- where a list is read by places
pub drop_some : {A : Type 0} (xs : List A) (k : ℕ) (x : A) → slice_get xs k ≡ Some x → drop k xs ≡ x ∷ drop (suc k) xs
drop_some [] k x e = absurd (let n : None ≡ Some x = e in cc)
drop_some (y ∷ ys) zero x e = let q : y ≡ x = cc in ap (λ z. z ∷ ys) q
drop_some (y ∷ ys) (suc k) x e = drop_some ys k x e

pub drop_none : {A : Type 0} (xs : List A) (k : ℕ) → slice_get xs k ≡ None → drop k xs ≡ []
drop_none [] zero e = refl
drop_none [] (suc k) e = refl
drop_none (y ∷ ys) zero e = absurd (let n : Some y ≡ None = e in cc)
drop_none (y ∷ ys) (suc k) e = drop_none ys k e

module _ {A B : Type 0} (f : A → B) (xs : List A) (k : ℕ) (done : List B) (all : done ++ map f (drop k xs) ≡ map f xs) where
  pub nothing_left : slice_get xs k ≡ None → done ≡ map f xs
  nothing_left e = sym (append_none done) ∙ (ap (λ ys. done ++ map f ys) (sym (drop_none xs k e)) ∙ all) where
    append_none : (ys : List B) → ys ++ [] ≡ ys
    append_none [] = refl
    append_none (y ∷ ys) = ap (λ zs. y ∷ zs) (append_none ys)

  pub one_more : (x : A) → slice_get xs k ≡ Some x → (done ++ f x ∷ []) ++ map f (drop (k + 1) xs) ≡ map f xs
  one_more x e = append_assoc done (f x ∷ []) (map f (drop (k + 1) xs)) ∙ (ap (λ n. done ++ f x ∷ map f (drop n xs)) (add-one k) ∙ (ap (λ ys. done ++ map f ys) (sym (drop_some xs k x e)) ∙ all))

-- what a call gives is what its helper gives
pub called_is : (h : ℕ) (vs vs' : List V) (ns ns' : List (Text × V)) → vs' ≡ vs → ns' ≡ ns → (v : V) → option_map (helper_value nat_eq vs' ns') (helper_numbered h) ≡ Some v → v ≡ called h vs ns
called_is h vs vs' ns ns' p q v e = sym (ap (λ o. unwrap_or o undefined) e) ∙ (ap (λ xs. called h xs ns') p ∙ ap (λ ms. called h vs ms) q)

-- a row as the code has it
pub record CodeRow (o : Option Row) (q : s.Row) : Type 0 where
  pub row : Row
  pub is : o ≡ Some row
  pub seen : seen_row row ≡ q

pub code_row : (o : Option Row) (q : s.Row) → option_map seen_row o ≡ Some q → CodeRow o q
code_row None q e = absurd (let n : None ≡ Some q = e in cc)
code_row (Some r) q e = record { row = r; is = refl; seen = some_is (seen_row r) q e }

kind_given : (k : Kind) (value : Value) (kind : Bool) (tag : Id) (was : V) → seen_kind k ≡ source_form kind tag was → seen_kind (kind_with k value) ≡ source_form kind tag (view value)
kind_given (Constant v) value kind tag was e = absurd (let n : constant_form (view v) ≡ source_form kind tag was = e in cc)
kind_given (Source item u v) value kind tag was e = let n : source_form item u (view v) ≡ source_form kind tag was = e in let p : item ≡ kind = cc in let q : u ≡ tag = cc in λ t. source_form (p t) (q t) (view value)
kind_given (Position ids last) value kind tag was e = absurd (let n : all_form ids ≡ source_form kind tag was = e in cc)
kind_given (Bound b) value kind tag was e = absurd (by b.value.rule e) where
  by : (g : Rule) → seen_rule g ≡ source_form kind tag was → ⊥
  by (rule.Prop x n) e = let m : prop_form x n ≡ source_form kind tag was = e in cc
  by (rule.Call h ids ns) e = let m : call_form h ids ns ≡ source_form kind tag was = e in cc
  by (rule.Cat ids) e = let m : cat_form ids ≡ source_form kind tag was = e in cc

last_given : (k : Kind) (value : Value) → kind_last (kind_with k value) ≡ kind_last k
last_given (Constant v) value = refl
last_given (Source item u v) value = refl
last_given (Position ids last) value = refl
last_given (Bound b) value = refl

-- a source is given a value
module _ (a b : Arena Row) (id : Id) (value : Value) (put : (row : Row) → named a id ≡ Some row → b ≡ with_value a id (row_with row value)) (kind : Bool) (tag : Id) (was : V) (last : Option s.Last)
    (old : rows_of a id ≡ Some (record { form = source_form kind tag was; last = last })) where
  source_row : s.Row
  source_row = record { form = source_form kind tag (view value); last = last }

  here : CodeRow (named a id) (record { form = source_form kind tag was; last = last })
  here = code_row (named a id) (record { form = source_form kind tag was; last = last }) old

  given_is : ◌≡◌ {A = s.Row} (seen_row (row_with here.row value)) (record { form = source_form kind tag (view value); last = last })
  given_is = λ t. record { form = kind_given here.row.kind value kind tag was (ap (λ (x : s.Row). x.form) here.seen) t; last = (last_given here.row.kind value ∙ ap (λ (x : s.Row). x.last) here.seen) t }

  pub put_rows : rows_in b ≡ with_value (rows_in a) id (record { form = source_form kind tag (view value); last = last })
  put_rows = ap rows_in (put here.row here.is) ∙ (with_value-mapped seen_row a id (row_with here.row value) ∙ ap (with_value (rows_in a) id) given_is)

  pub put_sets : (ta tb : t.Tags) → tb ≡ t.dirtied ta tag → s.Sets ta tb (rows_of a) (rows_of b) id (view value)
  put_sets ta tb e =
      let w = with_value-writes a id (row_with here.row value) (subst IsSome (sym here.is) refl) in
      record {
        kind = kind;
        tag = tag;
        was = was;
        last = last;
        old = old;
        given = ap (λ x. rows_of x id) (put here.row here.is) ∙ (ap (option_map seen_row) w.given ∙ ap (λ x. Some x) given_is);
        others = λ k ne. ap (λ x. rows_of x k) (put here.row here.is) ∙ ap (option_map seen_row) (w.others k ne);
        dirtied = e;
      }

-- a source that is given a value, as contracts see it
pub sets_value : (a b : Arena Row) (ta tb : t.Tags) (evals asks : ℕ) (done : List Id) (id : Id) (kind : Bool) (value : V) → IsOf kind (rows_of a id)
    → ((kind : Bool) (tag : Id) (was : V) (last : Option s.Last) → rows_of a id ≡ Some (record { form = source_form kind tag was; last = last }) → tb ≡ t.dirtied ta tag)
    → ((kind : Bool) (tag : Id) (was : V) (last : Option s.Last) → rows_of a id ≡ Some (record { form = source_form kind tag was; last = last }) → rows_in b ≡ with_value (rows_in a) id (record { form = source_form kind tag value; last = last }))
    → r.SetsValue (before a b ta tb evals asks done id) (after a b ta tb evals asks done id) id kind value
sets_value a b ta tb evals asks done id kind value h tags rows = record {
  tag = h.tag;
  was = h.was;
  last = h.last;
  held = named-mapped seen_row a id ∙ h.is;
  rows = rows kind h.tag h.was h.last h.is;
  tags = tags kind h.tag h.was h.last h.is;
  counts = record { evals = refl; asks = refl; evaluated = refl };
}

-- a reference that nothing reads is ended, with its tag
pub end_sound : (a b : Arena Row) (ta tb : t.Tags) (id : Id) → IsSound ta (rows_of a) → IsUnread (forms (rows_of a)) id → Ends (rows_in a) (rows_in b) id → s.EndsTag ta tb (s.own_tag (rows_of a id)) → t.IsSound tb → IsSound tb (rows_of b)
end_sound a b ta tb id sound unread ends tag tags_sound =
    free_sound ta tb (rows_of a) (rows_of b) id sound
    (record {
      unread = unread;
      ended = sym (named-mapped seen_row b id) ∙ ends.ended;
      others = λ k ne. sym (named-mapped seen_row b k) ∙ (ends.others k ne ∙ named-mapped seen_row a k);
      tags_sound = tags_sound;
      tag = tag;
    })

pub on_ok : {A E P Q : Type 0} (q : Result A E) → (P → Q) → OnOk q P → OnOk q Q
on_ok (Ok x) h p = h p
on_ok (Err e) h p = p

pub on_ok_any : {A E P : Type 0} (q : Result A E) → P → OnOk q P
on_ok_any (Ok x) p = p
on_ok_any (Err e) p = tt

-- an evaluation that is counted, and one that could not be done
module _ {A E : Type 0} (old new : Refs) (id : Id) (reads : Reads old new id) where
  pub evaluated_ok : (q : Result A E) → IsKept new.tags (r.rows_of new) id → new.evals ≡ old.evals + 1 → new.evaluated ≡ old.evaluated ++ id ∷ [] → IsOk q → r.HasEvaluated old new id q
  evaluated_ok (Ok x) k e l o = record { reads = reads; kept = k; evals = e; evaluated = l; evals_stay = tt; evaluated_stays = tt }
  evaluated_ok (Err x) k e l o = absurd (let n : false ≡ true = o in cc)

  pub evaluated_err : (q : Result A E) → IsErr q → new.evals ≡ old.evals → new.evaluated ≡ old.evaluated → r.HasEvaluated old new id q
  evaluated_err (Ok x) h e l = absurd (let n : false ≡ true = h in cc)
  evaluated_err (Err x) h e l = record { reads = reads; kept = tt; evals = tt; evaluated = tt; evals_stay = e; evaluated_stays = l }

pub reads_none : (q : Refs) (id : Id) → IsSound q.tags (r.rows_of q) → Reads q q id
reads_none q id h = record { settles = settles_none (IsReadFor (r.forms_of q) id) q.tags (r.rows_of q) h; made = refl; asks = refl }

-- an item holds a value, as contracts see it
module _ (a b : Arena Row) (ta tb : t.Tags) (evals asks : ℕ) (done : List Id) (id : Id) (value : V) where
  pub holds_seen : IsOf true (rows_of a id) → held (rows_of a id) ≡ Some value → r.Holds (before a b ta tb evals asks done id) id true value
  holds_seen h e = record {
    tag = h.tag;
    last = h.last;
    is = named-mapped seen_row a id ∙ (h.is ∙ ap (λ v. let q : s.Row = record { form = source_form true h.tag v; last = h.last } in Some q) (value_is h.was value (sym (ap held h.is) ∙ e)));
  } where
    value_is : (x y : V) → Some x ≡ Some y → x ≡ y
    value_is x y e = cc

  pub held_seen : r.Holds (before a b ta tb evals asks done id) id true value → held (rows_of a id) ≡ Some value
  held_seen h = ap held (sym (named-mapped seen_row a id) ∙ h.is)
