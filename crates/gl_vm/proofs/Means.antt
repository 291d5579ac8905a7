-- What a form means, with owners and sources named by numbers.
use Rattle.std.proofs.Common.{◌≡◌, ℕ, zero, suc, Bool, true, false, cond, Option, Some, None, option_map, IsSome, is_some, List, [], ◌∷◌, ◌++◌, map, flat_map, drop, refl, sym, ap, ap₂, ◌∙◌, arith, append-nil, append_assoc, unwrap_or}
use Rattle.std.specs.Prelude.{◌&&◌, ◌||◌, not, filter, eqb, nat_eq, slice_get, if◌then◌else◌}
use Rattle.std.specs.List.{list_any}
use Rattle.std.specs.Str.{bytes_eq}
use Rattle.std.proofs.lemmas.Bool.{le-ltb}
use Rattle.std.proofs.lemmas.List.{map-append}
use Rattle.gl_base.specs.Texts.{Text}
use Rattle.gl_base.specs.Names.{at_place, named}
use Rattle.gl_value.specs.Value.{Value, undefined, null, boolean, integer, text, list, pairs, action, truthy, text_of, is_missing, join_values, join_kept}
use Rattle.gl_value.specs.Helpers.{Helper, if_helper, unless_helper, helper_table, helper_numbered, helper_value}
use Rattle.gl_value.proofs.Owners.{rules_leave_owners, property_keeps_owners}
use Rattle.gl_labels.proofs.Owners.{helpers_keep_owners}
use Rattle.gl_labels.specs.Laws.{names_with}
use Rattle.gl_arena.specs.Id.{Id}
use Rattle.gl_refs.specs.Forms as f
use Rattle.gl_meaning.specs.Path.{path_eq, Path}
use Rattle.gl_meaning.specs.Scope.{Source, Pair, absent, sources_of}
use Rattle.gl_meaning.specs.Eval.{values_in, after_reading, takes_first, branch_pair, branch_of, pair_read, call_pair, helper_pair, with_properties}
use Rattle.gl_meaning.proofs.Equal.{text_itself}
use Rattle.gl_plain.specs.State.{form_pair, names_by}
use Rattle.gl_vm.specs.Labels.{owner_path, label, labelled}
use Rattle.gl_vm.specs.View.{stamps, name_stamps, helper_name, seen_form}
use Rattle.gl_refs.proofs.Meanings.{each_front, each_back}
use Rattle.gl_vm.proofs.Rows.{none_not}
use Rattle.gl_vm.proofs.Sets.{paths_decided, nums_decided, owners_once}

-- Joined texts

missing-on : (v : Value ℕ) → is_missing (labelled v) ≡ is_missing v
missing-on undefined = refl
missing-on null = refl
missing-on (boolean b) = refl
missing-on (integer i) = refl
missing-on (text t) = refl
missing-on (list vs) = refl
missing-on (pairs ms) = refl
missing-on (action o n vs) = refl

kept-on : (vs : List (Value ℕ)) → filter (λ v. not (is_missing v)) (map labelled vs) ≡ map labelled (filter (λ v. not (is_missing v)) vs)
kept-on [] = refl
kept-on (v ∷ vs) = ap (λ b. cond (not b) (labelled v ∷ filter (λ w. not (is_missing w)) (map labelled vs)) (filter (λ w. not (is_missing w)) (map labelled vs))) (missing-on v) ∙ by (not (is_missing v)) v (kept-on vs) where
  by : (b : Bool) (v : Value ℕ) {xs : List (Value Path)} → xs ≡ map labelled (filter (λ v. not (is_missing v)) vs)
      → cond b (labelled v ∷ xs) xs ≡ map labelled (cond b (v ∷ filter (λ v. not (is_missing v)) vs) (filter (λ v. not (is_missing v)) vs))
  by true v e = ap (λ r. labelled v ∷ r) e
  by false v e = e

texts-on : (vs : List (Value ℕ)) → flat_map text_of (map labelled vs) ≡ flat_map text_of vs
texts-on [] = refl
texts-on (v ∷ vs) = ap₂ (λ a b. a ++ b) (rules_leave_owners owner_path v).1 (texts-on vs)

join_kept-on : (vs : List (Value ℕ)) → join_kept (map labelled vs) ≡ labelled (join_kept vs)
join_kept-on [] = refl
join_kept-on (v ∷ vs) = ap text (texts-on (v ∷ vs))

join-on : (vs : List (Value ℕ)) → join_values (map labelled vs) ≡ labelled (join_values vs)
join-on vs = ap join_kept (kept-on vs) ∙ join_kept-on (filter (λ v. not (is_missing v)) vs)

-- Helpers by number and by name

any_left : (a b : Bool) → (a || b) ≡ false → a ≡ false
any_left false b e = refl
any_left true b e = e

any_right : (a b : Bool) → (a || b) ≡ false → b ≡ false
any_right false b e = e
any_right true b e = let no : true ≡ false = e in absurd (cc)

both_first : (a b : Bool) → (a && b) ≡ true → a ≡ true
both_first true b e = refl
both_first false b e = e

both_second : (a b : Bool) → (a && b) ≡ true → b ≡ true
both_second true b e = e
both_second false b e = let no : false ≡ true = e in absurd (cc)

not_first : (a : Bool) → not a ≡ true → a ≡ false
not_first false e = refl
not_first true e = let no : false ≡ true = e in absurd (cc)

distinct : List (Text × Helper) → Bool
distinct [] = true
distinct (r ∷ rs) = not (list_any (λ (e : Text × Helper). bytes_eq e.0 r.0) rs) && distinct rs

other-name : (n : Text) (rs : List (Text × Helper)) (h : ℕ) (x : Helper) → list_any (λ (e : Text × Helper). bytes_eq e.0 n) rs ≡ false → at_place None h (map (λ row. Some row.1) rs) ≡ Some x → bytes_eq (at_place [] h (map (λ row. row.0) rs)) n ≡ false
other-name n [] h x e q = absurd (none_not x q)
other-name n (r ∷ rs) zero x e q = any_left (bytes_eq r.0 n) _ e
other-name n (r ∷ rs) (suc h) x e q = other-name n rs h x (any_right (bytes_eq r.0 n) _ e) q

name-finds : (rs : List (Text × Helper)) → distinct rs ≡ true → (h : ℕ) (x : Helper) → at_place None h (map (λ row. Some row.1) rs) ≡ Some x → named (at_place [] h (map (λ row. row.0) rs)) rs ≡ Some x
unfolding distinct
name-finds [] d h x e = absurd (none_not x e)
name-finds (r ∷ rs) d zero x e = ap (λ b. cond b (Some r.1) (named r.0 rs)) (text_itself r.0) ∙ e
name-finds (r ∷ rs) d (suc h) x e =
    ap (λ b. cond b (Some r.1) (named (at_place [] h (map (λ row. row.0) rs)) rs)) (other-name r.0 rs h x (not_first (list_any (λ (e : Text × Helper). bytes_eq e.0 r.0) rs) (both_first _ (distinct rs) d)) e)
    ∙ name-finds rs (both_second (not (list_any (λ (e : Text × Helper). bytes_eq e.0 r.0) rs)) (distinct rs) d) h x e

table-distinct : distinct helper_table ≡ true
unfolding distinct
table-distinct = refl

name-of : (h : ℕ) (x : Helper) → helper_numbered h ≡ Some x → named (helper_name h) helper_table ≡ Some x
name-of h x e = name-finds helper_table table-distinct h x e

reads-all : List (Text × Helper) → Bool
reads-all [] = true
reads-all (r ∷ rs) = not (is_some (branch_of r.1)) && reads-all rs

no-branch : (rs : List (Text × Helper)) → reads-all rs ≡ true → (h : ℕ) (x : Helper) → at_place None h (map (λ row. Some row.1) rs) ≡ Some x → branch_of x ≡ None
unfolding reads-all
no-branch [] d h x e = absurd (none_not x e)
no-branch (r ∷ rs) d zero x e = ap branch_of (sym (some-is r.1 x e)) ∙ none (branch_of r.1) (not_first (is_some (branch_of r.1)) (both_first _ (reads-all rs) d)) where
  some-is : (a b : Helper) → Some a ≡ Some b → a ≡ b
  some-is a b e = ap (λ o. unwrap_or o a) e

  none : (o : Option Bool) → is_some o ≡ false → o ≡ None
  none None e = refl
  none (Some b) e = let no : true ≡ false = e in absurd (cc)
no-branch (r ∷ rs) d (suc h) x e = no-branch rs (both_second (not (is_some (branch_of r.1))) (reads-all rs) d) h x e

later-read : reads-all (drop 2 helper_table) ≡ true
unfolding reads-all
later-read = refl

others-read : (m : ℕ) (x : Helper) → helper_numbered (suc (suc m)) ≡ Some x → branch_of x ≡ None
others-read m x e = no-branch (drop 2 helper_table) later-read m x e

-- Forms

module _ (lab : Id → Source) (k : ℕ) (F : ℕ → Pair) (G : Id → f.Pair) where
  abbrev seen : f.Pair → Pair
  seen p = record { value = labelled p.value; sources = map lab p.sources }

  abbrev Fits : Id → Type 0
  Fits q = F q.1 ≡ seen (G q)

  abbrev val : Id → Value ℕ
  val q = (G q).value

  abbrev src : Id → List Id
  src q = (G q).sources

  values-are : (ids : List Id) → f.Each Fits ids → values_in (map F (stamps ids)) ≡ map labelled (map val ids)
  values-are [] e = refl
  values-are (q ∷ ids) e = ap₂ (λ a b. a ∷ b) (ap (λ (p : Pair). p.value) e.0) (values-are ids e.1)

  pub sources-are : (ids : List Id) → f.Each Fits ids → sources_of (map F (stamps ids)) ≡ map lab (flat_map src ids)
  sources-are [] e = refl
  sources-are (q ∷ ids) e = ap₂ (λ a b. a ++ b) (ap (λ (p : Pair). p.sources) e.0) (sources-are ids e.1) ∙ sym (map-append lab (src q) (flat_map src ids))

  names-are : (ns : f.NamedIds) → f.Each Fits (f.ids_of ns) → map (λ n. (n.0, n.1.value)) (names_by F (name_stamps ns)) ≡ names_with owner_path (map (λ n. (n.0, val n.1)) ns)
  names-are [] e = refl
  names-are (n ∷ ns) e = ap₂ (λ a b. (n.0, a) ∷ b) (ap (λ (p : Pair). p.value) e.0) (names-are ns e.1)

  named-sources : (ns : f.NamedIds) → f.Each Fits (f.ids_of ns) → sources_of (map (λ n. n.1) (names_by F (name_stamps ns))) ≡ map lab (flat_map src (f.ids_of ns))
  named-sources [] e = refl
  named-sources (n ∷ ns) e = ap₂ (λ a b. a ++ b) (ap (λ (p : Pair). p.sources) e.0) (named-sources ns e.1) ∙ sym (map-append lab (src n.1) (flat_map src (f.ids_of ns)))

  pair-is : (p q : Pair) → p.value ≡ q.value → p.sources ≡ q.sources → p ≡ q
  pair-is p q v s = λ z. record { value = v z; sources = s z }

  one-source : (q : Id) → src q ≡ flat_map src (q ∷ [])
  one-source q = sym (append-nil (src q))

  -- the branch that is taken
  taken : (b : Bool) (rest : List Id) → f.Each Fits rest
      → (if b then at_place absent 0 (map F (stamps rest)) else at_place absent 1 (map F (stamps rest))) ≡ seen (record { value = f.value_or val (slice_get (f.branch b rest) 0); sources = flat_map src (f.branch b rest) })
  taken true [] e = refl
  taken false [] e = refl
  taken true (x ∷ xs) e = e.0 ∙ ap (λ s. seen (record { value = val x; sources = s })) (one-source x)
  taken false (x ∷ []) e = refl
  taken false (x ∷ y ∷ xs) e = e.1.0 ∙ ap (λ s. seen (record { value = val y; sources = s })) (one-source y)

  choice : (way : Bool) (ids : List Id) → f.Each Fits ids
      → branch_pair (not way) (at_place absent 0 (map F (stamps ids))) (at_place absent 1 (map F (stamps ids))) (at_place absent 2 (map F (stamps ids)))
      ≡ seen (record { value = f.value_or val (slice_get (f.chosen val way ids) 1); sources = flat_map src (f.chosen val way ids) })
  choice true [] e = refl
  choice false [] e = refl
  choice way (a ∷ rest) e =
      ap₂ (λ b c. after_reading c (if b then at_place absent 0 (map F (stamps rest)) else at_place absent 1 (map F (stamps rest)))) (way-is way) e.0
      ∙ (ap (after_reading (seen (G a))) (taken (f.flipped way (truthy (val a))) rest e.1)
      ∙ pair-is _ _ refl (sym (map-append lab (src a) (flat_map src (f.branch (f.flipped way (truthy (val a))) rest)))))
    where
      truth : truthy (F a.1).value ≡ truthy (val a)
      truth = ap (λ (p : Pair). truthy p.value) e.0 ∙ (rules_leave_owners owner_path (val a)).0

      way-is : (way : Bool) → takes_first (not way) (F a.1).value ≡ f.flipped way (truthy (val a))
      way-is true = truth
      way-is false = ap not truth

  called : (h : ℕ) (ids : List Id) (ns : f.NamedIds) → IsSome (helper_numbered h) → f.Each Fits (ids ++ f.ids_of ns) → f.Each Fits ids → f.Each Fits (f.ids_of ns)
      → call_pair (helper_name h) (map F (stamps ids)) (names_by F (name_stamps ns)) ≡ seen (f.pair_by G (f.call_form h ids ns))
  called zero ids ns known e a b = ap (λ o. helper_pair o (map F (stamps ids)) (names_by F (name_stamps ns))) (name-of 0 if_helper refl) ∙ choice true ids a
  called (suc zero) ids ns known e a b = ap (λ o. helper_pair o (map F (stamps ids)) (names_by F (name_stamps ns))) (name-of 1 unless_helper refl) ∙ choice false ids a
  called (suc (suc m)) ids ns known e a b = by (helper_numbered (suc (suc m))) refl known where
    no-choice : f.is_choice (suc (suc m)) ≡ false
    no-choice = le-ltb (suc (suc m)) 2 (omega arith)

    all-sources : (ids : List Id) → f.Each Fits ids → sources_of (map F (stamps ids)) ++ sources_of (map (λ n. n.1) (names_by F (name_stamps ns))) ≡ map lab (flat_map src (ids ++ f.ids_of ns))
    all-sources [] e = named-sources ns b
    all-sources (q ∷ ids) e =
        append_assoc (F q.1).sources (sources_of (map F (stamps ids))) _
        ∙ (ap₂ (λ x y. x ++ y) (ap (λ (p : Pair). p.sources) e.0) (all-sources ids e.1) ∙ sym (map-append lab (src q) (flat_map src (ids ++ f.ids_of ns))))

    by : (o : Option Helper) → helper_numbered (suc (suc m)) ≡ o → IsSome o → call_pair (helper_name (suc (suc m))) (map F (stamps ids)) (names_by F (name_stamps ns)) ≡ seen (f.pair_by G (f.call_form (suc (suc m)) ids ns))
    by None q k = let no : false ≡ true = k in absurd (cc)
    by (Some x) q k =
        ap (λ o. helper_pair o (map F (stamps ids)) (names_by F (name_stamps ns))) (name-of (suc (suc m)) x q)
        ∙ (ap (λ o. pair_read o x (map F (stamps ids)) (names_by F (name_stamps ns))) (others-read m x q)
        ∙ (pair-is _ (record { value = labelled (f.called (suc (suc m)) (map val ids) (map (λ n. (n.0, val n.1)) ns)); sources = map lab (flat_map src (ids ++ f.ids_of ns)) })
        (ap₂ (λ vs ws. helper_value path_eq vs ws x) (values-are ids a) (names-are ns b)
        ∙ (helpers_keep_owners nat_eq path_eq nums_decided paths_decided owner_path owners_once x (map val ids) (map (λ n. (n.0, val n.1)) ns)
        ∙ ap (λ o. labelled (unwrap_or (option_map (helper_value nat_eq (map val ids) (map (λ n. (n.0, val n.1)) ns)) o) undefined)) (sym q)))
        (all-sources ids a)
        ∙ ap (λ c. seen (record { value = if c then f.value_or val (slice_get (f.chosen val (eqb (suc (suc m)) 0) ids) 1) else f.called (suc (suc m)) (map val ids) (map (λ n. (n.0, val n.1)) ns); sources = flat_map src (if c then f.chosen val (eqb (suc (suc m)) 0) ids else ids ++ f.ids_of ns) })) (sym no-choice)))

  pub form-means : (g : f.Form) → f.is_known g ≡ true → ((kind : Bool) (t : Id) (v : f.V) → g ≡ f.source_form kind t v → lab t ≡ label k) → f.Each Fits (f.parts g) → form_pair F (seen_form k g) ≡ seen (f.pair_by G g)
  form-means (f.constant_form v) known own e = refl
  form-means (f.source_form kind t v) known own e = ap (λ x. record { value = labelled v; sources = x ∷ [] }) (sym (own kind t v refl))
  form-means (f.prop_form r n) known own e =
      ap (with_properties (n ∷ [])) e.0
      ∙ pair-is _ _ (property_keeps_owners owner_path n (val r)) (ap (map lab) (one-source r))
  form-means (f.call_form h ids ns) known own e = called h ids ns known e (each_front Fits ids (f.ids_of ns) e) (each_back Fits ids (f.ids_of ns) e)
  form-means (f.cat_form ids) known own e = pair-is _ _ (ap join_values (values-are ids e) ∙ join-on (map val ids)) (sources-are ids e)
  form-means (f.all_form ids) known own e = pair-is _ _ refl (sources-are ids e)
