-- What is worked out with nothing kept is what a reference means.
use Rattle.std.proofs.Common.{◌≡◌, ℕ, ◌<◌, Bool, true, false, cond, nat_eq, List, [], ◌∷◌, Option, Some, None, Result, Ok, Err, OnOk, OnErr, option_map, unwrap_or, not, is_some, IsSome, IfNone, refl, sym, subst, ◌∙◌, ap}
use Rattle.std.proofs.lemmas.Bool.Decides.{Decides-eqb}
use Rattle.gl_arena.specs.Id.{Id}
use Rattle.gl_arena.specs.Arena.{Arena, named, IsStamped}
use Rattle.gl_value.specs.Value.{undefined}
use Rattle.gl_refs.specs.Forms.{V, Form, constant_form, source_form, prop_form, call_form, cat_form, all_form, Pair, form_or, form_at, pair_by, below, meaning, AreLower, Each, reads, value_by}
use Rattle.gl_refs.specs.State.{Row, Rows, forms, is_bound}
use Rattle.gl_refs.specs.View.{rows_of, seen_row, found_at, found_by, found_row, found_in, reads_in, IsFound, IsTable}
use Rattle.gl_refs.specs.declared.row.Row as code
use Rattle.gl_refs.specs.declared.table.Table.{Table}
use Rattle.gl_refs.proofs.Meanings.{meaning_is, below_is, each_read, value_same}
use Rattle.gl_refs.proofs.Rows.{some_is}

each_both : (P Q R : Id → Type 0) (xs : List Id) → ((x : Id) → P x → Q x → R x) → Each P xs → Each Q xs → Each R xs
each_both P Q R [] h e f = tt
each_both P Q R (x ∷ xs) h e f = (h x e.0 f.0, each_both P Q R xs h e.1 f.1)

form_is : (rows : Rows) (i : Id) (r : Row) → rows i ≡ Some r → form_at (forms rows) i ≡ r.form
form_is rows i r e = ap (λ o. form_or (option_map (λ (r : Row). r.form) o)) e

means : (rows : Rows) (i : Id) (r : Row) → rows i ≡ Some r → meaning (forms rows) i ≡ pair_by (below (meaning (forms rows)) i) r.form
means rows i r e = meaning_is (forms rows) i ∙ ap (pair_by (below (meaning (forms rows)) i)) (form_is rows i r e)

-- with an empty table
pub empty_right : (t : Table) (rows : Rows) → ((k : ℕ) → found_at t k ≡ None) → IsTable t rows
empty_right t rows h i v e = by (rows i) refl (ap (λ o. found_row o (rows i)) (sym (h i.1)) ∙ e) where
  form : (r : Row) → rows i ≡ Some r → (g : Form) → r.form ≡ g → found_by None g ≡ Some v → v ≡ (meaning (forms rows) i).value
  form r q (constant_form x) f e = sym (some_is x v e) ∙ sym (ap (λ (p : Pair). p.value) (means rows i r q ∙ ap (pair_by (below (meaning (forms rows)) i)) f))
  form r q (source_form k t x) f e = sym (some_is x v e) ∙ sym (ap (λ (p : Pair). p.value) (means rows i r q ∙ ap (pair_by (below (meaning (forms rows)) i)) f))
  form r q (prop_form x n) f e = absurd (let n : None ≡ Some v = e in cc)
  form r q (call_form x ids ns) f e = absurd (let n : None ≡ Some v = e in cc)
  form r q (cat_form ids) f e = absurd (let n : None ≡ Some v = e in cc)
  form r q (all_form ids) f e = absurd (let n : None ≡ Some v = e in cc)

  by : (o : Option Row) → rows i ≡ o → found_row None o ≡ Some v → v ≡ (meaning (forms rows) i).value
  by None q e = absurd (let n : None ≡ Some v = e in cc)
  by (Some r) q e = form r q r.form refl e

bound_found : (o : Option V) (g : Form) → is_bound g ≡ true → found_by o g ≡ o
bound_found o (constant_form v) e = absurd (let n : false ≡ true = e in cc)
bound_found o (source_form k s v) e = absurd (let n : false ≡ true = e in cc)
bound_found o (prop_form r n) e = refl
bound_found o (call_form n ids ns) e = refl
bound_found o (cat_form ids) e = refl
bound_found o (all_form ids) e = refl

module _ (t : Table) (rows : Rows) (right : IsTable t rows) where
  abbrev pub found : Id → V
  found q = unwrap_or (found_in t rows q) undefined

  found_now : (q : Id) → IsFound t rows q → found q ≡ (meaning (forms rows) q).value
  found_now q h = by (found_in t rows q) refl h where
    by : (o : Option V) → found_in t rows q ≡ o → IsSome o → found q ≡ (meaning (forms rows) q).value
    by None e h = absurd (let n : false ≡ true = h in cc)
    by (Some v) e h = ap (λ o. unwrap_or o undefined) e ∙ right q v e

  -- what is worked out, where all that is read was
  pub worked : (id : Id) (r : Row) → AreLower (forms rows) → rows id ≡ Some r → Each (IsFound t rows) (reads_in t rows id) → (v : V) → v ≡ value_by found r.form → v ≡ (meaning (forms rows) id).value
  worked id r lower is ready v e =
      let g : Id → V = λ q. (below (meaning (forms rows)) id q).value in
      let low = each_read (λ q. (q.1 < id.1) × IsSome (forms rows q)) found r.form (lower id r.form (ap (option_map (λ (r : Row). r.form)) is)) in
      let all = each_both (IsFound t rows) (λ q. (q.1 < id.1) × IsSome (forms rows q)) (λ q. found q ≡ g q) (reads found r.form)
      (λ q h d. found_now q h ∙ ap (λ (p : Pair). p.value) (sym (below_is (meaning (forms rows)) id q d.0)))
      (subst (λ x. Each (IsFound t rows) (reads found x)) (form_is rows id r is) ready) low in
      e ∙ (value_same found g r.form all ∙ ap (λ (p : Pair). p.value) (sym (means rows id r is)))

-- it is put in the table
module _ (a : Arena code.Row) (t t' : Table) (id : Id) (r : Row) (v : V) (right : IsTable t (rows_of a)) (stamped : IsStamped a) (is : rows_of a id ≡ Some r) (bound : is_bound r.form ≡ true) (now : v ≡ (meaning (forms (rows_of a)) id).value) where
  live : (i : Id) (w : V) → found_in t' (rows_of a) i ≡ Some w → IsSome (named a i)
  live i w e = by (named a i) e where
    by : (o : Option code.Row) → found_row (found_at t' i.1) (option_map seen_row o) ≡ Some w → IsSome o
    by None e = absurd (let n : None ≡ Some w = e in cc)
    by (Some x) e = refl

  there : (o : Option code.Row) → option_map seen_row o ≡ Some r → IsSome o
  there None e = absurd (let n : None ≡ Some r = e in cc)
  there (Some x) e = refl

  pub put_right : ((k : ℕ) → found_at t' k ≡ cond (nat_eq id.1 k) (Some v) (found_at t k)) → IsTable t' (rows_of a)
  put_right h i w e = by (nat_eq id.1 i.1) refl where
    by : (b : Bool) → nat_eq id.1 i.1 ≡ b → w ≡ (meaning (forms (rows_of a)) i).value
    by false q = right i w (ap (λ o. found_row o (rows_of a i)) (sym (h i.1 ∙ ap (λ b. cond b (Some v) (found_at t i.1)) q)) ∙ e)
    by true q =
        let same : i ≡ id = sym (stamped.apart id i (there (named a id) is) (live i w e) ((Decides-eqb id.1 i.1).0 q)) in
        let got : found_in t' (rows_of a) i ≡ Some v = ap (λ o. found_row (found_at t' i.1) o) (ap (rows_of a) same ∙ is) ∙ (bound_found (found_at t' i.1) r.form bound ∙ (h i.1 ∙ ap (λ b. cond b (Some v) (found_at t i.1)) q)) in
        sym (some_is v w (sym got ∙ e)) ∙ (now ∙ ap (λ x. (meaning (forms (rows_of a)) x).value) (sym same))

  same_right : ((k : ℕ) → found_at t' k ≡ found_at t k) → IsTable t' (rows_of a)
  same_right h i w e = right i w (ap (λ o. found_row o (rows_of a i)) (sym (h i.1)) ∙ e)

  pub put_either : {A E : Type 0} (q : Result A E) → OnOk q ((k : ℕ) → found_at t' k ≡ cond (nat_eq id.1 k) (Some v) (found_at t k)) → OnErr q ((k : ℕ) → found_at t' k ≡ found_at t k) → IsTable t' (rows_of a)
  put_either (Ok x) h e = put_right h
  put_either (Err x) h e = same_right e

pub there_is : {A B : Type 0} (f : A → B) (o : Option A) (p : Option B) (b : Bool) → option_map f o ≡ p → is_some o ≡ not b → b ≡ false → IsSome p
there_is f None p b e q h = absurd (let n : false ≡ true = q ∙ ap not h in cc)
there_is f (Some x) p b e q h = subst IsSome e refl

pub none_given : {A P : Type 0} (o : Option A) (b : Bool) → b ≡ is_some o → b ≡ false → IfNone o P → P
none_given None b q h p = p
none_given (Some x) b q h p = absurd (let n : true ≡ false = sym q ∙ h in cc)
