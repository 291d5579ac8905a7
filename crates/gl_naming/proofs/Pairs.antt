-- What references mean with other names.
use Rattle.std.proofs.Common.{◌≡◌, ℕ, zero, suc, List, [], ◌∷◌, ◌++◌, map, Bool, true, false, Option, Some, None, cond, refl, ap, ap₂, sym, ◌∙◌}
use Rattle.std.specs.Prelude.{not, filter, flat_map, if◌then◌else◌, nat_eq}
use Rattle.std.proofs.lemmas.List.{map-append}
use Rattle.gl_base.specs.Texts.{Text}
use Rattle.gl_base.specs.Names.{at_place, named}
use Rattle.gl_value.specs.Value.{undefined, null, boolean, integer, text, list, pairs, action, text_of, is_missing, join_kept, join_values, properties, property}
use Rattle.gl_value.specs.Helpers.{Helper, helper_table, helper_value}
use Rattle.gl_value.specs.Owners.{with_owners}
use Rattle.gl_value.proofs.Owners.{rules_leave_owners, property_keeps_owners}
use Rattle.gl_meaning.specs.Path.{Path, V, path_eq}
use Rattle.gl_meaning.specs.Scope.{Source, Pair, absent, sources_of, NamedPairs}
use Rattle.gl_meaning.specs.Eval.{values_in, branch_pair, all_pair, branch_of, pair_read, helper_pair, call_pair, cat_pair, takes_first, after_reading}
use Rattle.gl_labels.specs.Laws.{names_with}
use Rattle.gl_labels.proofs.Owners.{helpers_keep_owners}
use Rattle.gl_plain.specs.Ids.{Id, ref}
use Rattle.gl_plain.specs.State.{Form, constant_form, source_form, property_form, call_form, joined_form, all_form, row, content, instance_row, block_row, modifier_row, Thing, names_by, form_pair, thing_pair, pairs_below, pair_of}
use Rattle.gl_plain.specs.Renew.{form_ids, spot_ids}
use Rattle.gl_plain.proofs.Syncs.{path-Decides}
use Rattle.gl_naming.specs.Renamed.{pair_with, form_with, there_with}
use Rattle.gl_naming.specs.Laws.{MeansRenamed}

module _ {A B C : Type 0} (h : A → B) (k : B → C) where
  pub map_map : (xs : List A) → map k (map h xs) ≡ map (λ x. k (h x)) xs
  map_map [] = refl
  map_map (x ∷ xs) = ap (λ ys. k (h x) ∷ ys) (map_map xs)

pub place_map : {A B : Type 0} (h : A → B) (d : A) (i : ℕ) (xs : List A) → at_place (h d) i (map h xs) ≡ h (at_place d i xs)
place_map h d i [] = refl
place_map h d zero (x ∷ xs) = refl
place_map h d (suc i) (x ∷ xs) = place_map h d i xs

module _ (f : Path → Path) (g : Source → Source) where
  abbrev on : V → V
  on v = with_owners f v

  abbrev to : Pair → Pair
  to p = pair_with f g p

  pub many_on : (ks : List Text) (v : V) → properties ks (on v) ≡ on (properties ks v)
  many_on [] v = refl
  many_on (k ∷ ks) v = ap (properties ks) (property_keeps_owners f k v) ∙ many_on ks (property k v)

  missing_on : (v : V) → is_missing (on v) ≡ is_missing v
  missing_on undefined = refl
  missing_on null = refl
  missing_on (boolean b) = refl
  missing_on (integer i) = refl
  missing_on (text t) = refl
  missing_on (list vs) = refl
  missing_on (pairs ms) = refl
  missing_on (action o n vs) = refl

  kept_on : (vs : List V) → filter (λ v. not (is_missing v)) (map on vs) ≡ map on (filter (λ v. not (is_missing v)) vs)
  kept_on [] = refl
  kept_on (v ∷ vs) = ap₂ (λ b ys. cond (not b) (on v ∷ ys) ys) (missing_on v) (kept_on vs) ∙ by (not (is_missing v)) where
    by : (b : Bool) → cond b (on v ∷ map on (filter (λ v. not (is_missing v)) vs)) (map on (filter (λ v. not (is_missing v)) vs)) ≡ map on (cond b (v ∷ filter (λ v. not (is_missing v)) vs) (filter (λ v. not (is_missing v)) vs))
    by true = refl
    by false = refl

  texts_on : (vs : List V) → flat_map text_of (map on vs) ≡ flat_map text_of vs
  texts_on [] = refl
  texts_on (v ∷ vs) = ap₂ (λ s ts. s ++ ts) (rules_leave_owners f v).1 (texts_on vs)

  joined_on : (vs : List V) → join_kept (map on vs) ≡ on (join_kept vs)
  joined_on [] = refl
  joined_on (v ∷ vs) = ap text (texts_on (v ∷ vs))

  pub values_to : (ps : List Pair) → values_in (map to ps) ≡ map on (values_in ps)
  values_to [] = refl
  values_to (p ∷ ps) = ap (λ vs. on p.value ∷ vs) (values_to ps)

  pub sources_to : (ps : List Pair) → sources_of (map to ps) ≡ map g (sources_of ps)
  sources_to [] = refl
  sources_to (p ∷ ps) = ap (λ xs. map g p.sources ++ xs) (sources_to ps) ∙ sym (map-append g p.sources (sources_of ps))

  abbrev pub names_to : NamedPairs → NamedPairs
  names_to ns = map (λ n. (n.0, to n.1)) ns

  pub named_values : (ns : NamedPairs) → map (λ n. (n.0, n.1.value)) (names_to ns) ≡ names_with f (map (λ n. (n.0, n.1.value)) ns)
  named_values [] = refl
  named_values (n ∷ ns) = ap (λ ys. (n.0, on n.1.value) ∷ ys) (named_values ns)

  pub named_pairs : (ns : NamedPairs) → map (λ n. n.1) (names_to ns) ≡ map to (map (λ n. n.1) ns)
  named_pairs [] = refl
  named_pairs (n ∷ ns) = ap (λ ys. to n.1 ∷ ys) (named_pairs ns)

  pub takes_to : (unless : Bool) (v : V) → takes_first unless (on v) ≡ takes_first unless v
  takes_to unless v = ap (λ b. if unless then not b else b) (rules_leave_owners f v).0

  branch_to : (u : Bool) (c p q : Pair) → branch_pair u (to c) (to p) (to q) ≡ to (branch_pair u c p q)
  branch_to u c p q = ap (λ b. after_reading (to c) (if b then to p else to q)) (takes_to u c.value) ∙ by (takes_first u c.value) where
    by : (b : Bool) → after_reading (to c) (if b then to p else to q) ≡ to (after_reading c (if b then p else q))
    by true = ap (λ xs. record { value = on p.value; sources = xs }) (sym (map-append g c.sources p.sources))
    by false = ap (λ xs. record { value = on q.value; sources = xs }) (sym (map-append g c.sources q.sources))

  -- joined texts
  pub cat_to : (ps : List Pair) → cat_pair (map to ps) ≡ to (cat_pair ps)
  cat_to ps =
      ap₂ (λ v xs. record { value = v; sources = xs })
      (ap join_values (values_to ps) ∙ (ap join_kept (kept_on (values_in ps)) ∙ joined_on (filter (λ v. not (is_missing v)) (values_in ps))))
      (sources_to ps)

  -- the references that a position reads
  pub ids_same : (t : Option Thing) → spot_ids (there_with f g t) ≡ spot_ids t
  ids_same None = refl
  ids_same (Some (row x)) = by x.form where
    by : (y : Form) → form_ids (form_with f g y) ≡ form_ids y
    by (constant_form v) = refl
    by (source_form s v) = refl
    by (property_form r k) = refl
    by (call_form n rs ns) = refl
    by (joined_form rs) = refl
    by (all_form rs) = refl
  ids_same (Some (content c)) = refl
  ids_same (Some (instance_row i)) = refl
  ids_same (Some block_row) = refl
  ids_same (Some (modifier_row x)) = refl

  module _ (once : (o p : Path) → f o ≡ f p → o ≡ p) where
    all_to : (h : Helper) (ps : List Pair) (ns : NamedPairs) → all_pair h (map to ps) (names_to ns) ≡ to (all_pair h ps ns)
    all_to h ps ns =
        ap₂ (λ v xs. record { value = v; sources = xs })
        (ap₂ (λ vs ms. helper_value path_eq vs ms h) (values_to ps) (named_values ns)
        ∙ helpers_keep_owners path_eq path_eq path-Decides path-Decides f once h (values_in ps) (map (λ n. (n.0, n.1.value)) ns))
        (ap₂ (λ xs ys. xs ++ ys) (sources_to ps) (ap sources_of (named_pairs ns) ∙ sources_to (map (λ n. n.1) ns))
        ∙ sym (map-append g (sources_of ps) (sources_of (map (λ n. n.1) ns))))

    read_to : (b : Option Bool) (h : Helper) (ps : List Pair) (ns : NamedPairs) → pair_read b h (map to ps) (names_to ns) ≡ to (pair_read b h ps ns)
    read_to None h ps ns = all_to h ps ns
    read_to (Some u) h ps ns =
        (λ i. branch_pair u (place_map to absent 0 ps i) (place_map to absent 1 ps i) (place_map to absent 2 ps i))
        ∙ branch_to u (at_place absent 0 ps) (at_place absent 1 ps) (at_place absent 2 ps)

    pub helper_to : (h : Option Helper) (ps : List Pair) (ns : NamedPairs) → helper_pair h (map to ps) (names_to ns) ≡ to (helper_pair h ps ns)
    helper_to None ps ns = refl
    helper_to (Some h) ps ns = read_to (branch_of h) h ps ns

    -- what a form means, where what references mean has the other names
    form_to : (F : ℕ → Pair) (x : Form) → form_pair (λ r. to (F r)) (form_with f g x) ≡ to (form_pair F x)
    form_to F (constant_form v) = refl
    form_to F (source_form x v) = refl
    form_to F (property_form r k) = ap (λ v. record { value = v; sources = map g (F r).sources }) (many_on (k ∷ []) (F r).value)
    form_to F (call_form n rs ns) =
        ap₂ (λ ps ms. call_pair n ps ms) (sym (map_map F to rs)) (sym (map_map (λ m. (m.0, F m.1)) (λ m. (m.0, to m.1)) ns))
        ∙ helper_to (named n helper_table) (map F rs) (names_by F ns)
    form_to F (joined_form rs) = ap cat_pair (sym (map_map F to rs)) ∙ cat_to (map F rs)
    form_to F (all_form rs) = ap (λ xs. record { value = undefined; sources = xs }) (ap sources_of (sym (map_map F to rs)) ∙ sources_to (map F rs))

    pub thing_to : (F : ℕ → Pair) (x : Option Thing) → thing_pair (λ r. to (F r)) (there_with f g x) ≡ to (thing_pair F x)
    thing_to F None = refl
    thing_to F (Some (row x)) = form_to F x.form
    thing_to F (Some (content c)) = refl
    thing_to F (Some (instance_row i)) = refl
    thing_to F (Some block_row) = refl
    thing_to F (Some (modifier_row x)) = refl

    below_to : (look : Id → Option Thing) (n q : ℕ) → pairs_below (λ i. there_with f g (look i)) n q ≡ to (pairs_below look n q)
    below_to look zero q = refl
    below_to look (suc n) q =
        ap₂ (λ a b. if nat_eq q n then a else b)
        (ap (λ F. thing_pair F (there_with f g (look (ref n)))) (λ i r. below_to look n r i) ∙ thing_to (pairs_below look n) (look (ref n)))
        (below_to look n q)
        ∙ by (nat_eq q n) where
          by : (b : Bool) → (if b then to (thing_pair (pairs_below look n) (look (ref n))) else to (pairs_below look n q)) ≡ to (if b then thing_pair (pairs_below look n) (look (ref n)) else pairs_below look n q)
          by true = refl
          by false = refl

    pub pair_to : (look : Id → Option Thing) (r : ℕ) → pair_of (λ i. there_with f g (look i)) r ≡ to (pair_of look r)
    pair_to look r = below_to look (suc r) r

pub means_renamed : MeansRenamed
means_renamed f g once look r = pair_to f g once look r
