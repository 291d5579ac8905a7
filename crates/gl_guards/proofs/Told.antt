-- What is read off where a machine stands by paths: of a machine by paths, and of one by numbers with the names that it has.
use Rattle.std.proofs.Common.{◌≡◌, ℕ, ◌<◌, List, [], ◌∷◌, map, Bool, true, false, ◌||◌, ◌&&◌, true≢false, Option, Some, None, refl, sym, ◌∙◌, ap, ap₂, inl, inr, ◌⊎◌}
use mathlib.Core.Path.{fun_ext}
use Rattle.gl_value.specs.Value.{Values, no_values, value, count_value, same}
use Rattle.gl_value.specs.Owners.{with_owners, values_with}
use Rattle.gl_value.proofs.Owners.{same_leaves_owners}
use Rattle.gl_ast.specs.Template.{Exprs}
use Rattle.gl_base.specs.Texts.{Text}
use Rattle.gl_meaning.specs.App.{App}
use Rattle.gl_meaning.specs.Path.{Path, V, path_eq}
use Rattle.gl_meaning.specs.Scope.{Source, item_value, item_index, Pair, Scope, sources_of}
use Rattle.gl_meaning.specs.Eval.{Store, eval_all, takes_first}
use Rattle.gl_meaning.specs.Render.{Entry, entries, values_listed}
use Rattle.gl_meaning.proofs.Equal.{same_means, same_itself}
use Rattle.gl_meaning.proofs.Frame.{eval_all_keeps}
use Rattle.gl_plain.specs.Ids.{a_ref, Id, ref}
use Rattle.gl_plain.specs.State.{any_of, Form, constant_form, source_form, property_form, call_form, joined_form, all_form, MScope, row, content, instance_row, block_row, modifier_row, Thing, State, held_value, form_value}
use Rattle.gl_plain.specs.Naming.{Naming, by_number}
use Rattle.gl_plain.specs.Binding.{Spot, first_value}
use Rattle.gl_plain.specs.Renew.{spot_pairs, last_of, is_stale}
use Rattle.gl_plain.specs.Stands.{Spotted, exprs_by}
use Rattle.gl_plain.proofs.Rereads.{Cold, stale_pairs, cold_pairs}
use Rattle.gl_plain.proofs.Renewing.{Ready}
use Rattle.gl_plain.proofs.Syncs.{path-Decides}
use Rattle.gl_kept.specs.Around.{AllThere}
use Rattle.gl_naming.specs.Laws.{IsOneToOne}
use Rattle.gl_naming.specs.Numbered.{number, LastBelow, NumberedThing}
use Rattle.gl_naming.specs.Renamed.{pair_with, form_with, there_with, state_with, entry_with}
use Rattle.gl_naming.proofs.Bound.{any_map}
use Rattle.gl_naming.proofs.Grown.{listed_on, entries_on}
use Rattle.gl_naming.proofs.Low.{Whole}
use Rattle.gl_naming.proofs.Pairs.{sources_to, takes_to}
use Rattle.gl_naming.proofs.Steps.{pairs_same}
use Rattle.gl_naming.proofs.Tagged.{first_on}
use Rattle.gl_guards.specs.Settled.{IsGiven, Told, HoldsSource}

-- Where the machine that is kept stands as one by paths does: what a position, an item's value and index, and a list have there.
pub record Seen (naming : Naming) (app : App) (σ τ : Store) (st st' : State) : Type 1 where
  -- what is read, beside what the meaning reads
  pub Beside : List Pair → List Pair → Type 0
  -- an entry, beside that of the meaning
  pub Entered : List Entry → List Entry → Type 0
  pub next : (q : Id) → st'.next q.kind ≡ st.next q.kind
  pub told : (b : ℕ) (ms : MScope) (v w : Scope) (z : Spot) (es : Exprs) (around : Id → ℕ) (P : V → Type 0) → Ready app σ τ b st' ms v w → Spotted app st'.look ms z (exprs_by app ms es) (eval_all app σ v es) → AllThere st.look around z.made
      → ((ps : List Pair) → Beside ps (eval_all app σ v es) → P (first_value ps)) → Told naming st around z P
  pub takes : (ps es : List Pair) (unless : Bool) → Beside ps es → takes_first unless (first_value ps) ≡ takes_first unless (first_value es)
  pub lists : (ps es : List Pair) (key : Text) → Beside ps es
      → ((values_listed (first_value ps) ≡ no_values) × (values_listed (first_value es) ≡ no_values))
      ⊎ ((u v : V) × (us vs : Values Path) × (values_listed (first_value ps) ≡ value u us) × (values_listed (first_value es) ≡ value v vs) × Entered (entries key 0 [] (value u us)) (entries key 0 [] (value v vs)))
  pub none : (ys : List Entry) → Entered ys [] → ys ≡ []
  pub some : (x : Entry) (xs ys : List Entry) → Entered ys (x ∷ xs)
      → (y : Entry) × (zs : List Entry) × (ys ≡ y ∷ zs) × (y.key ≡ x.key) × (y.occurrence ≡ x.occurrence) × (y.index ≡ x.index)
      × ((r : ℕ) (s : Source) → st'.look (ref r) ≡ Some (row (record { form = source_form s x.value; last = any_of [] })) → held_value (st.look (ref r)) ≡ y.value) × Entered zs xs
  pub counts : (r n : ℕ) (s : Source) → st'.look (ref r) ≡ Some (row (record { form = source_form s (count_value n); last = any_of [] })) → held_value (st.look (ref r)) ≡ count_value n
  pub value_held : (r : ℕ) (q : Path) (v : V) → st'.look (ref r) ≡ Some (row (record { form = source_form (item_value q) v; last = any_of [] })) → HoldsSource st.look r (naming.value_source r q)
  pub index_held : (r : ℕ) (q : Path) (v : V) → st'.look (ref r) ≡ Some (row (record { form = source_form (item_index q) v; last = any_of [] })) → HoldsSource st.look r (naming.index_source r q)

abbrev first_entry : Entry → List Entry → Entry
first_entry x [] = x
first_entry x (y ∷ ys) = y

abbrev rest_entries : List Entry → List Entry
rest_entries [] = []
rest_entries (y ∷ ys) = ys

-- what was read is what would be read
same_pairs : (app : App) (σ τ : Store) (st : State) (b : ℕ) (ms : MScope) (v w : Scope) (z : Spot) (es : Exprs) → Ready app σ τ b st ms v w → Spotted app st.look ms z (exprs_by app ms es) (eval_all app σ v es) → is_stale st z.ref ≡ false
    → spot_pairs st z.ref ≡ eval_all app σ v es
same_pairs app σ τ st b ms v w z es r h f =
    stale_pairs app τ ms z (exprs_by app ms es) (eval_all app σ v es) (eval_all app τ w es) st h r.scope.cells (ap (λ y. eval_all app τ y es) r.scope.is)
    ∙ sym (cold_pairs app ms z (exprs_by app ms es) (eval_all app σ v es) (eval_all app τ w es) st h (eval_all_keeps (Cold st) app σ τ r.cells r.keeps es) f)

or_false : (a b : Bool) → (a || b) ≡ false → (a ≡ false) × (b ≡ false)
or_false false b e = (refl, e)
or_false true b e = absurd (true≢false e)

and_false : (a b : Bool) → b ≡ false → (a && b) ≡ false
and_false true b e = e
and_false false b e = refl

any_both : (xs : List Source) (t u : Source → Bool) → any_of xs u ≡ false → any_of xs (λ y. t y && u y) ≡ false
any_both [] t u e = refl
any_both (x ∷ xs) t u e = let h = or_false (u x) (any_of xs u) e in ap (λ b. b || any_of xs (λ y. t y && u y)) (and_false (t x) (u x) h.0) ∙ any_both xs t u h.1

-- By numbers

module _ (f : Path → Path) (g back : Source → Source) (once : IsOneToOne f) (undoes : (x : Source) → back (g x) ≡ x) (t : Source → Bool) (st : State)
    (warm : (k : ℕ) → k < st.next a_ref → t (g (number k)) ≡ st.touched (number k)) (whole : Whole st) where
  abbrev named : State
  named = state_with f g t st

  apart : (x y : Source) → g x ≡ g y → x ≡ y
  apart x y e = sym (undoes x) ∙ (ap back e ∙ undoes y)

  last_named : (o : Option Thing) (u : Source → Bool) → last_of (there_with f g o) u ≡ last_of o (λ y. u (g y))
  last_named None u = refl
  last_named (Some (row x)) u = refl
  last_named (Some (content c)) u = refl
  last_named (Some (instance_row i)) u = refl
  last_named (Some block_row) u = refl
  last_named (Some (modifier_row x)) u = refl

  undone : (u : Source → Bool) → ◌≡◌ {A = Source → Bool} (λ y. u (back (g y))) u
  undone u = fun_ext (λ y. ap u (undoes y))

  last_back : (o : Option Thing) (u : Source → Bool) → last_of o u ≡ last_of (there_with f g o) (λ z. u (back z))
  last_back o u = sym (last_named o (λ z. u (back z)) ∙ ap (last_of o) (undone u))

  last_low : (r : ℕ) (o : Option Thing) → NumberedThing (st.next a_ref) r o → LastBelow (st.next a_ref) (last_of o)
  last_low r None h t u e = refl
  last_low r (Some (row x)) h t u e = h.1 t u e
  last_low r (Some (content c)) h t u e = refl
  last_low r (Some (instance_row i)) h t u e = refl
  last_low r (Some block_row) h t u e = refl
  last_low r (Some (modifier_row x)) h t u e = refl

  low_at : (r : ℕ) → LastBelow (st.next a_ref) (last_of (st.look (ref r)))
  low_at r = last_low r (st.look (ref r)) (whole r)

  stale_named : (r : ℕ) → is_stale named r ≡ is_stale st r
  stale_named r = last_named (st.look (ref r)) t ∙ low_at r (λ y. t (g y)) st.touched warm

  abbrev Named : List Pair → List Pair → Type 0
  Named ps es = map (pair_with f g) ps ≡ es

  module _ (app : App) (σ τ : Store) where
    told_named : (b : ℕ) (ms : MScope) (v w : Scope) (z : Spot) (es : Exprs) (around : Id → ℕ) (P : V → Type 0) → Ready app σ τ b named ms v w → Spotted app named.look ms z (exprs_by app ms es) (eval_all app σ v es) → AllThere st.look around z.made
        → ((ps : List Pair) → Named ps (eval_all app σ v es) → P (first_value ps)) → Told by_number st around z P
    told_named b ms v w z es around P r h there holds = record {
      there = there;
      grows = λ a u k e. last_a a u k ∙ (last_back o (λ y. a y && u y) ∙ (ap (λ l. l (λ y. a (back y) && u (back y))) last_is ∙ any_both xs (λ y. a (back y)) (λ y. u (back y)) (sym (last_back o u ∙ ap (λ l. l (λ y. u (back y))) last_is) ∙ e)));
      reads = λ e. fun_ext (λ u. last_back o u ∙ (ap (λ l. l (λ y. u (back y))) last_is ∙ (ap (λ qs. any_of (sources_of qs) (λ y. u (back y))) (sym (pairs e))
          ∙ (ap (λ ys. any_of ys (λ y. u (back y))) (sources_to f g (spot_pairs st z.ref)) ∙ (any_map g (sources_of (spot_pairs st z.ref)) (λ y. u (back y)) ∙ ap (any_of (sources_of (spot_pairs st z.ref))) (undone u))))));
      holds = λ e. holds (spot_pairs st z.ref) (pairs e);
    } where
      o : Option Thing
      o = st.look (ref z.ref)

      xs : List Source
      xs = sources_of (eval_all app σ v es)

      last_is : last_of (there_with f g (st.look (ref z.ref))) ≡ any_of (sources_of (eval_all app σ v es))
      last_is = ap last_of h.is.0

      last_a : (a u : Source → Bool) → ((y : Source) → IsGiven by_number st y → u y ≡ false → a y ≡ false) → last_of (st.look (ref z.ref)) a ≡ last_of (st.look (ref z.ref)) (λ y. a y && u y)
      last_a a u k = low_at z.ref a (λ y. a y && u y) (λ n lt. by (a (number n)) (u (number n)) (k (number n) (n, lt, [], [], inr (inl refl)))) where
        by : (x y : Bool) → (y ≡ false → x ≡ false) → x ≡ (x && y)
        by true true e = refl
        by true false e = e refl
        by false y e = refl

      pairs : is_stale st z.ref ≡ false → map (pair_with f g) (spot_pairs st z.ref) ≡ eval_all app σ v es
      pairs e = sym (pairs_same f g once apart (st.next a_ref) t st z.ref) ∙ same_pairs app σ τ named b ms v w z es r h (stale_named z.ref ∙ e)

  -- what a position read last is stale where more is touched
  pub rises_named : (r : ℕ) (xs : List Source) → last_of (named.look (ref r)) ≡ any_of xs → (a u : Source → Bool) → ((y : Source) → IsGiven by_number st y → u y ≡ false → a y ≡ false) → last_of (st.look (ref r)) u ≡ false
      → last_of (st.look (ref r)) a ≡ false
  rises_named r xs is a u k e =
      let o = st.look (ref r) in
      low_at r a (λ y. a y && u y) (λ n lt. both (a (number n)) (u (number n)) (k (number n) (n, lt, [], [], inr (inl refl))))
      ∙ (last_back o (λ y. a y && u y) ∙ (ap (λ l. l (λ y. a (back y) && u (back y))) is ∙ any_both xs (λ y. a (back y)) (λ y. u (back y)) (sym (last_back o u ∙ ap (λ l. l (λ y. u (back y))) is) ∙ e))) where
        both : (x y : Bool) → (y ≡ false → x ≡ false) → x ≡ (x && y)
        both true true e' = refl
        both true false e' = e' refl
        both false y e' = refl

  -- whether it is stale, with other names, where the same sources are touched
  pub ends_named : (r : ℕ) (v u : Source → Bool) → ((k : ℕ) → k < st.next a_ref → v (g (number k)) ≡ u (number k)) → last_of (named.look (ref r)) v ≡ last_of (st.look (ref r)) u
  ends_named r v u h = last_named (st.look (ref r)) v ∙ low_at r (λ y. v (g y)) u h

  -- values

  own_value : (a b : V) → with_owners f a ≡ with_owners f b → a ≡ b
  own_value a b e =
      same_means Path path_eq path-Decides a b
      (sym (same_leaves_owners path_eq path_eq path-Decides path-Decides f a b (λ o p i k e'. once o p e')) ∙ (ap (λ x. same path_eq (with_owners f a) x) (sym e) ∙ same_itself Path path_eq path-Decides (with_owners f a)))

  held_named : (o : Option Thing) → held_value (there_with f g o) ≡ with_owners f (held_value o)
  held_named None = refl
  held_named (Some (row x)) = by x.form where
    by : (y : Form) → form_value (form_with f g y) ≡ with_owners f (form_value y)
    by (constant_form v) = refl
    by (source_form s v) = refl
    by (property_form r k) = refl
    by (call_form n rs ns) = refl
    by (joined_form rs) = refl
    by (all_form rs) = refl
  held_named (Some (content c)) = refl
  held_named (Some (instance_row i)) = refl
  held_named (Some block_row) = refl
  held_named (Some (modifier_row x)) = refl

  abbrev is_source : Form → Bool
  is_source (source_form x v) = true
  is_source _ = false

  abbrev holds_form : Option Thing → Bool
  holds_form (Some (row x)) = is_source x.form
  holds_form _ = false

  -- a row that has a source with its other name has its own
  holds : (r : ℕ) (x : Source) (v : V) → named.look (ref r) ≡ Some (row (record { form = source_form x v; last = any_of [] })) → HoldsSource st.look r (number r)
  holds r x v e = by (st.look (ref r)) (whole r) e where
    by : (o : Option Thing) → NumberedThing (st.next a_ref) r o → there_with f g o ≡ Some (row (record { form = source_form x v; last = any_of [] })) → (u : V) × (o ≡ Some (row (record { form = source_form (number r) u; last = any_of [] })))
    by None n e = absurd (true≢false (sym (ap holds_form e)))
    by (Some (content c)) n e = absurd (true≢false (sym (ap holds_form e)))
    by (Some (instance_row i)) n e = absurd (true≢false (sym (ap holds_form e)))
    by (Some block_row) n e = absurd (true≢false (sym (ap holds_form e)))
    by (Some (modifier_row y)) n e = absurd (true≢false (sym (ap holds_form e)))
    by (Some (row y)) n e = by_form y.form n.0 (ap holds_form e) where
      last : y.last ≡ any_of []
      last = fun_ext (λ u. last_back (Some (row y)) u ∙ ap (λ l. last_of l (λ z. u (back z))) e)

      by_form : (m : Form) → Rattle.gl_naming.specs.Numbered.OwnSource (st.next a_ref) r m → is_source (form_with f g m) ≡ true → (u : V) × (Some (row (record { form = m; last = y.last })) ≡ Some (row (record { form = source_form (number r) u; last = any_of [] })))
      by_form (source_form s u) own i = (u, ap₂ (λ a l. Some (row (record { form = source_form a u; last = l }))) own.0 last)
      by_form (constant_form a) own i = absurd (true≢false (sym i))
      by_form (property_form a k) own i = absurd (true≢false (sym i))
      by_form (call_form n rs ns) own i = absurd (true≢false (sym i))
      by_form (joined_form rs) own i = absurd (true≢false (sym i))
      by_form (all_form rs) own i = absurd (true≢false (sym i))

  abbrev EnteredBy : List Entry → List Entry → Type 0
  EnteredBy ys xs = xs ≡ map (entry_with f g) ys

  pub seen_named : (app : App) (σ τ : Store) → Seen by_number app σ τ st named
  seen_named app σ τ = record {
    Beside = Named;
    Entered = EnteredBy;
    next = λ q. refl;
    told = told_named app σ τ;
    takes = λ ps es unless e. sym (ap (λ qs. takes_first unless (first_value qs)) (sym e) ∙ (ap (takes_first unless) (first_on f g ps) ∙ takes_to f g unless (first_value ps)));
    lists = λ ps es key e. by_values key (values_listed (first_value ps)) refl (values_listed (first_value es))
        (ap (λ qs. values_listed (first_value qs)) (sym e) ∙ (ap values_listed (first_on f g ps) ∙ listed_on f (first_value ps)));
    none = by_none;
    some = by_some;
    counts = λ r n s e. own_value (held_value (st.look (ref r))) (count_value n) (sym (held_named (st.look (ref r))) ∙ ap held_value e);
    value_held = λ r q v e. holds r (item_value q) v e;
    index_held = λ r q v e. holds r (item_index q) v e;
  } where
    by_values : {o : Values Path} (key : Text) (us : Values Path) → o ≡ us → (vs : Values Path) → vs ≡ values_with f o
        → ((o ≡ no_values) × (vs ≡ no_values)) ⊎ ((u v : V) × (us vs' : Values Path) × (o ≡ value u us) × (vs ≡ value v vs') × EnteredBy (entries key 0 [] (value u us)) (entries key 0 [] (value v vs')))
    by_values key no_values e vs k = inl (e, k ∙ ap (values_with f) e)
    by_values key (value u us) e vs k = inr (u, with_owners f u, us, values_with f us, e, k ∙ ap (values_with f) e, entries_on f g key 0 [] (value u us))

    by_none : (ys : List Entry) → EnteredBy ys [] → ys ≡ []
    by_none [] e = refl
    by_none (y ∷ ys) e = absurd cc

    by_some : (x : Entry) (xs ys : List Entry) → EnteredBy ys (x ∷ xs)
        → (y : Entry) × (zs : List Entry) × (ys ≡ y ∷ zs) × (y.key ≡ x.key) × (y.occurrence ≡ x.occurrence) × (y.index ≡ x.index)
        × ((r : ℕ) (s : Source) → named.look (ref r) ≡ Some (row (record { form = source_form s x.value; last = any_of [] })) → held_value (st.look (ref r)) ≡ y.value) × EnteredBy zs xs
    by_some x xs [] e = absurd cc
    by_some x xs (y ∷ ys) e =
        let h : x ≡ entry_with f g y = ap (first_entry x) e in (
          y,
          ys,
          refl,
          ap (λ z. z.key) (sym h),
          ap (λ z. z.occurrence) (sym h),
          ap (λ z. z.index) (sym h),
          (λ r s k. own_value (held_value (st.look (ref r))) y.value (sym (held_named (st.look (ref r))) ∙ (ap held_value k ∙ ap (λ z. z.value) h))),
          ap rest_entries e,
        )
